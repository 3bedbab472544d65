use Rattle.std.proofs.Common.{inl, inr, refl, sym, subst}
use Rattle.hb_access.specs.Accesses.{use_of}
use Rattle.hb_access.proofs.Nodes.{each_in}
use Rattle.hb_talk.specs.Ends.{committing}
use Rattle.hb_wait.specs.Courses.{free}
use Rattle.hb_turn.specs.Turning.{following, owner, shown_of}
use Rattle.hb_turn.specs.Steps.{CarriesOn}
use Rattle.hb_turn.specs.declared.turn.Went.TheVariants as went
use Rattle.hb_turn.proofs.Ends.{commits_as}
use Rattle.hb_turn.proofs.turn.Turn.commit.Goals as goal

pub returns-in-Ok : goal.returns-in-Ok
returns-in-Ok c =
    let t = c.args.self.now in
    let u = c.args.usage in
    let f = c.args.after in
    let d = c.in-Ok.driver in
    let of = c.in-Ok.ensures.of in
    subst (λ n. CarriesOn (free (following f (committing (owner t) (use_of u) (shown_of f)))) u t n went.More) (sym c.end_by.ensures)
    (record { line = refl; begun = refl; leaves = refl; active = refl; edges = refl; goes = inl (commits_as t u d f of.0 of.1 c.in-Ok.ensures.talk) })

pub returns-in-Err : goal.returns-in-Err
returns-in-Err c =
    let e = c.roll_back.ensures in
    let u = c.args.usage in
    record { line = e.line; begun = e.begun; leaves = e.busy; active = e.active; edges = refl; goes = inr (use_of u, refl, each_in u.used.0, e.rolls, refl) }
