use Rattle.std.proofs.Common.{Ok, ap, inl, refl, sym, ◌∙◌, subst}
use Rattle.hb_access.specs.Accesses.{use_of}
use Rattle.hb_wait.specs.Courses.{free}
use Rattle.hb_moveplan.specs.MovePlans.{moved}
use Rattle.hb_turn.specs.Turning.{ending, owner}
use Rattle.hb_turn.specs.declared.turn.Went.TheVariants as went
use Rattle.hb_turn.specs.Steps.{CarriesOn}
use Rattle.hb_turn.proofs.Talks.{moved_end, onward_end}
use Rattle.hb_turn.proofs.turn.Turn.close_batch.Goals as goal

pub returns-in-Some : goal.returns-in-Some
returns-in-Some c =
    let t = c.args.self.now in
    let u = c.args.usage in
    subst (λ m. CarriesOn (free (ending (owner t) c.args.group (Ok (moved m)) (use_of u))) u t c.commit.new.self c.commit.result) (sym c.in-Some.is)
    (subst (λ x. CarriesOn (free x) u t c.commit.new.self c.commit.result) (moved_end (owner t) c.args.group c.in-Some.rows (use_of u)) c.commit.ensures)

pub returns-in-None : goal.returns-in-None
returns-in-None c =
    let e = c.roll_back.ensures in
    let t = c.args.self.now in
    let u = c.args.usage in
    subst (λ m. CarriesOn (free (ending (owner t) c.args.group (Ok (moved m)) (use_of u))) u t c.roll_back.new.self went.More) (sym c.in-None.is)
    (record { line = e.line; begun = e.begun; leaves = e.busy; active = e.active; edges = refl; goes = inl (ap free (onward_end (use_of c.args.usage)) ∙ sym e.rolls) })
