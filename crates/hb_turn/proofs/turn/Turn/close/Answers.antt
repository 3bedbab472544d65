use Rattle.std.proofs.Common.{Ok, sym, subst}
use Rattle.hb_access.specs.Accesses.{use_of}
use Rattle.hb_wait.specs.Courses.{free}
use Rattle.hb_moveplan.specs.MovePlans.{came_of}
use Rattle.hb_turn.specs.Turning.{ending, owner}
use Rattle.hb_turn.specs.Steps.{CarriesOn}
use Rattle.hb_turn.proofs.Talks.{checked_end}
use Rattle.hb_turn.proofs.turn.Turn.close.Goals as goal

pub returns-in-Hints : goal.returns-in-Hints
returns-in-Hints c =
    let t = c.args.self.now in
    let u = c.args.usage in
    subst (λ f. CarriesOn (free (ending (owner t) c.args.group (Ok (came_of f)) (use_of u))) u t c.commit.new.self c.commit.result) (sym c.in-Hints.is)
    (subst (λ x. CarriesOn (free x) u t c.commit.new.self c.commit.result) (checked_end (owner t) c.args.group c.in-Hints.hints (use_of u)) c.commit.ensures)

pub returns-in-Moved : goal.returns-in-Moved
returns-in-Moved c =
    let t = c.args.self.now in
    let u = c.args.usage in
    subst (λ f. CarriesOn (free (ending (owner t) c.args.group (Ok (came_of f)) (use_of u))) u t c.close_batch.new.self c.close_batch.result) (sym c.in-Moved.is) c.close_batch.ensures

pub returns-in-Finished : goal.returns-in-Finished
returns-in-Finished c =
    let t = c.args.self.now in
    let u = c.args.usage in
    subst (λ f. CarriesOn (free (ending (owner t) c.args.group (Ok (came_of f)) (use_of u))) u t c.close_finish.new.self c.close_finish.result) (sym c.in-Finished.is) c.close_finish.ensures
