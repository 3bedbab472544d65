use Rattle.std.proofs.Common.{◌≡◌, ◌∙◌, true, false, refl, sym, subst, Some}
use Rattle.hb_disks.specs.Redo.{Prepared, Redone}
use Rattle.hb_engine.specs.Restores.{TakesAll, prepared_as, with_doubt}
use Rattle.hb_engine.proofs.Restoring.{alike, are_covered, fits_beside, misfits, not_covered, nothing, risen, stands_with}
use Rattle.hb_engine.proofs.engine.Engine.restored.Goals as goal

pub returns-then-not-branch : goal.returns-then-not-branch
returns-then-not-branch c = λ r has none.
    let e = c.args.self.now in
    let st = has (risen r) (record { up = refl; no_live = refl; now_is = refl }) in
    let p : Prepared = prepared_as c.args.tx c.args.floor c.args.locks.now c.args.changes.now in
    misfits e.slots e.locks e.floor r c.args.tx st none c.take_all.new.locks p
    (subst (TakesAll e.locks c.take_all.new.locks c.args.tx c.args.locks.now) c.if-not-branch.true
    (c.in_ok-take_all.ensures (nothing e.slots e.locks e.floor r c.args.tx st none) st.compatible))

pub returns-then-not-are_covered : goal.returns-then-not-are_covered
returns-then-not-are_covered c = λ r has none fits.
    let e = c.args.self.now in
    let st = has (risen r) (record { up = refl; no_live = refl; now_is = refl }) in
    let taken : TakesAll e.locks c.take_all.new.locks c.args.tx c.args.locks.now true =
    subst (TakesAll e.locks c.take_all.new.locks c.args.tx c.args.locks.now) c.if-not-branch.false (c.in_ok-take_all.ensures (nothing e.slots e.locks e.floor r c.args.tx st none) st.compatible) in
    not_covered c.take_all.new.locks c.args.tx c.args.locks.now c.args.changes.now taken.own c.requires.locks (sym c.are_covered.ensures ∙ c.if-not-are_covered.true) fits.covered

pub returns : goal.returns
returns c = λ r has none.
    let e = c.args.self.now in
    let st = has (risen r) (record { up = refl; no_live = refl; now_is = refl }) in
    let p : Prepared = prepared_as c.args.tx c.args.floor c.args.locks.now c.args.changes.now in
    let taken : TakesAll e.locks c.take_all.new.locks c.args.tx c.args.locks.now true =
    subst (TakesAll e.locks c.take_all.new.locks c.args.tx c.args.locks.now) c.if-not-branch.false (c.in_ok-take_all.ensures (nothing e.slots e.locks e.floor r c.args.tx st none) st.compatible) in (
      fits_beside e.slots e.locks e.floor r c.args.tx st none c.take_all.new.locks p taken
          (are_covered c.take_all.new.locks c.args.tx c.args.locks.now c.args.changes.now taken.own (sym c.are_covered.ensures ∙ c.if-not-are_covered.false)),
      λ s up. alike c.hold.new.slots c.take_all.new.locks e.floor r.rows (with_doubt r p) (risen (with_doubt r p)) s (record { up = refl; no_live = refl; now_is = refl }) up
          (stands_with e.slots e.locks e.floor r c.args.tx st none c.hold.new.slots c.take_all.new.locks p (record { branch = c.in_ok-branch.branch; vote = Some c.args.floor }) c.args.floor refl refl refl (sym c.in_ok-branch.ensures) c.requires.locks
          taken c.in_ok-hold.ensures),
    )
