use Rattle.std.proofs.Common.{◌≡◌, ◌++◌, drop, map}
use Rattle.std.specs.List.{flat_map}
use Rattle.hb_print.specs.Texts.{row_line, with_session}
use Rattle.hb_print.proofs.lines.put_rows.Given as goal

abbrev pub invariant-loop-row : goal.invariant-loop-row
invariant-loop-row l =
    l.out.items ++ flat_map (with_session l.session) (map row_line (drop l.row-index l.rows)) ≡ l.fn.out.items ++ flat_map (with_session l.session) (map row_line l.rows)
