use Rattle.std.proofs.Common.{◌≡◌, ◌+◌, ◌<◌, ◌∙◌, sym, ap, subst, take, drop, length, ◌∷◌, ◌++◌, arith}
use Rattle.hb_types.specs.declared.change.Change.{Change}
use Rattle.hb_types.specs.Lists.{Ascends}
use Rattle.hb_branch.specs.Overlays.{Overlay, change_cmp, putting}
use Rattle.hb_engine.proofs.Refilling.{next_taken, split_there, put_last}
use Rattle.hb_engine.proofs.restore.filled.Goals as goal

pub loop-change-preserved : goal.loop-change-preserved
loop-change-preserved c =
    let changes = c.args.changes.now in
    let i = c.loop-change.change-index in
    let item = c.change-item.result in
    let inside : i < length changes = omega arith in
    let split : changes ≡ take i changes ++ item ∷ drop (i + 1) changes = split_there changes i item inside c.change-item.is in
    let copied : c.in_ok-copy.field-0 ≡ item = c.in_ok-copy.ensures in
    ap (λ (o : Overlay). o.changes) c.in_ok-put.ensures.ok ∙ ap (λ (x : Change). putting x c.loop-change.branch.changes) copied ∙ ap (putting item) c.loop-change.invariant
    ∙ put_last (take i changes) (drop (i + 1) changes) item (subst (Ascends change_cmp) split c.requires) ∙ sym (next_taken changes i item inside c.change-item.is)
