use Rattle.std.proofs.Common.{arith, rules}
use Rattle.std.specs.Str.{bytes_eq}
use Rattle.std.proofs.lemmas.List.{take_all}
use Rattle.hb_types.specs.declared.value.Column.{Column}
use Rattle.hb_definerows.proofs.Twins.{first_twin, later_twin}
use Rattle.hb_definerows.proofs.columns.+have_twins.Goals as goal

pub returns-then-is_like_one : goal.returns-then-is_like_one
returns-then-is_like_one t c =
    let among = rw c.as_slice.ensures at c.is_like_one.ensures in
    first_twin (λ (a b : Column). bytes_eq a.name b.name) c.args.columns.now _ c.column-item.result c.is_like_one.result (omega arith) c.column-item.is (search (rules, take_all)) among c.if-is_like_one.true

pub returns-else-is_like_one : goal.returns-else-is_like_one
returns-else-is_like_one t c =
    let among = rw c.as_slice.ensures at c.is_like_one.ensures in
    later_twin (λ (a b : Column). bytes_eq a.name b.name) c.args.columns.now _ c.column-item.result c.is_like_one.result c.have_twins.result (omega arith) c.column-item.is (search (rules, take_all)) among c.if-is_like_one.false c.have_twins.ensures
