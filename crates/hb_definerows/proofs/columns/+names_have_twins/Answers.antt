use Rattle.std.proofs.Common.{arith, rules}
use Rattle.std.specs.Str.{bytes_eq}
use Rattle.std.proofs.lemmas.List.{take_all}
use Rattle.hb_definerows.proofs.Twins.{first_twin, later_twin}
use Rattle.hb_definerows.proofs.columns.+names_have_twins.Goals as goal

pub returns-then-is_name_among : goal.returns-then-is_name_among
returns-then-is_name_among t c =
    let among = rw c.as_slice.ensures at c.is_name_among.ensures in
    first_twin bytes_eq c.args.names.now _ c.name-item.result c.is_name_among.result (omega arith) c.name-item.is (search (rules, take_all)) among c.if-is_name_among.true

pub returns-else-is_name_among : goal.returns-else-is_name_among
returns-else-is_name_among t c =
    let among = rw c.as_slice.ensures at c.is_name_among.ensures in
    later_twin bytes_eq c.args.names.now _ c.name-item.result c.is_name_among.result c.names_have_twins.result (omega arith) c.name-item.is (search (rules, take_all)) among c.if-is_name_among.false c.names_have_twins.ensures
