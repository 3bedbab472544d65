use Rattle.std.proofs.Common.{◌≡◌, ◌++◌, drop}
use Rattle.hb_types.specs.Put.{put_all}
use Rattle.hb_laws.specs.RowOrder.{AreAscending}
use Rattle.hb_branch.specs.Overlays.{changes_under}
use Rattle.hb_branch.proofs.merge.merged.Given as goal

abbrev pub invariant-loop-change : goal.invariant-loop-change
invariant-loop-change l =
    (l.found ++ put_all l.rest (changes_under l.path (drop l.change-index l.changes)) ≡ put_all l.rows (changes_under l.path l.changes)) × AreAscending l.rest
