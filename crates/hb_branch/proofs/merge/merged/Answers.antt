use Rattle.std.proofs.Common.{◌≡◌, ◌∙◌, ◌++◌, ◌+◌, sym, ap, subst, drop, List, arith}
use Rattle.hb_types.specs.declared.change.Stored.{Stored}
use Rattle.hb_types.specs.Put.{put_all}
use Rattle.hb_laws.specs.RowOrder.{AreAscending}
use Rattle.hb_branch.specs.Overlays.{changes_under}
use Rattle.hb_branch.proofs.Merges.{merge_step, merge_skip}
use Rattle.hb_branch.proofs.merge.merged.Goals as goal
use Rattle.hb_branch.proofs.merge.merged.Goals.{then-is_under+in_ok-rest+in_ok-put_row, else-is_under}

pub loop-change-preserved : goal.loop-change-preserved
loop-change-preserved c = elim c.if-is_under.branch [
  | then-is_under+in_ok-rest+in_ok-put_row w ↦
      merge_step c.args.path.now c.args.changes.now c.loop-change.change-index c.change-item.result c.loop-change.found c.loop-change.rest.now
      (put_all c.args.rows.now (changes_under c.args.path.now c.args.changes.now)) w.copy_below.new.found c.if-is_under.found w.in_ok-rest.rest.now c.if-is_under.rest.now
      c.requires.changes (omega arith) c.change-item.is (sym c.is_under.ensures ∙ w.if-is_under.true) c.loop-change.invariant
      w.in_ok-rest.ensures.rest w.in_ok-rest.ensures.found (ap (λ r. r.now) w.rest-is ∙ w.skip_at-rest.ensures) (w.found-is ∙ w.in_ok-put_row.ensures)
  | else-is_under w ↦ (
    ap (λ (xs : List Stored). xs ++ put_all c.if-is_under.rest.now (changes_under c.args.path.now (drop (c.loop-change.change-index + 1) c.args.changes.now))) w.found-is
        ∙ ap (λ r. c.loop-change.found ++ put_all r.now (changes_under c.args.path.now (drop (c.loop-change.change-index + 1) c.args.changes.now))) w.rest-is
        ∙ merge_skip c.args.path.now c.args.changes.now c.loop-change.change-index c.change-item.result c.loop-change.found c.loop-change.rest.now
        (put_all c.args.rows.now (changes_under c.args.path.now c.args.changes.now)) (omega arith) c.change-item.is (sym c.is_under.ensures ∙ w.if-is_under.false) c.loop-change.invariant.0,
    subst (λ r. AreAscending r.now) (sym w.rest-is) c.loop-change.invariant.1,
  )
]
