use Rattle.std.proofs.Common.{◌≡◌, All, take}
use Rattle.hb_types.specs.Rows.{IsRow}
use Rattle.hb_talk.specs.Plans.{lying_rows}
use Rattle.hb_planrows.specs.Ranks.{AreRanked, ranked_rows}
use Rattle.hb_planrows.proofs.lying.rows_lying.Given as goal

abbrev pub invariant-loop-row : goal.invariant-loop-row
invariant-loop-row l =
    (l.nth ≡ l.row-index) × AreRanked l.nth l.sorted.entries
    × (All (λ r. IsRow r.row) l.fn.rows → ranked_rows l.sorted.entries ≡ lying_rows (take l.row-index l.fn.rows))
