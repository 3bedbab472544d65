use Rattle.std.proofs.Common.{Ok, ap, inl, refl, sym, ◌∙◌, subst}
use Rattle.hb_access.specs.Accesses.{use_of}
use Rattle.hb_wait.specs.Courses.{free}
use Rattle.hb_moveplan.specs.MovePlans.{finding_of, finished}
use Rattle.hb_turn.specs.Turning.{ending, owner}
use Rattle.hb_turn.specs.declared.turn.Went.TheVariants as went
use Rattle.hb_turn.specs.Steps.{CarriesOn}
use Rattle.hb_turn.proofs.Talks.{again_end, onward_end, set_end}
use Rattle.hb_turn.proofs.turn.Turn.close_finish.Goals as goal

pub returns-in-Set : goal.returns-in-Set
returns-in-Set c =
    let t = c.args.self.now in
    let u = c.args.usage in
    subst (λ f. CarriesOn (free (ending (owner t) c.args.group (Ok (finished (finding_of f))) (use_of u))) u t c.commit.new.self c.commit.result) (sym c.in-Set.is)
    (subst (λ x. CarriesOn (free x) u t c.commit.new.self c.commit.result) (set_end (owner t) c.args.group (use_of u)) c.commit.ensures)

pub returns-in-RowThere : goal.returns-in-RowThere
returns-in-RowThere c =
    let e = c.roll_back.ensures in
    let t = c.args.self.now in
    let u = c.args.usage in
    subst (λ f. CarriesOn (free (ending (owner t) c.args.group (Ok (finished (finding_of f))) (use_of u))) u t c.roll_back.new.self went.More) (sym c.in-RowThere.is)
    (record { line = e.line; begun = e.begun; leaves = e.busy; active = e.active; edges = refl; goes = inl (ap free (again_end (use_of c.args.usage)) ∙ sym e.rolls) })

pub returns-in-Other : goal.returns-in-Other
returns-in-Other c =
    let e = c.roll_back-in-Other.ensures in
    let t = c.args.self.now in
    let u = c.args.usage in
    subst (λ f. CarriesOn (free (ending (owner t) c.args.group (Ok (finished (finding_of f))) (use_of u))) u t c.roll_back-in-Other.new.self went.More) (sym c.in-Other.is)
    (record { line = e.line; begun = e.begun; leaves = e.busy; active = e.active; edges = refl; goes = inl (ap free (onward_end (use_of c.args.usage)) ∙ sym e.rolls) })
