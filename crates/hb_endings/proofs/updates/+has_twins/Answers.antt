use Rattle.std.proofs.Common.{arith, rules}
use Rattle.std.specs.Str.{bytes_eq}
use Rattle.std.proofs.lemmas.List.{take_all}
use Rattle.hb_model.specs.declared.statement.Set.{Set}
use Rattle.hb_endings.proofs.Twins.{first_twin, later_twin}
use Rattle.hb_endings.proofs.updates.+has_twins.Goals as goal

pub returns-then-is_among : goal.returns-then-is_among
returns-then-is_among t c =
    let among = rw c.as_slice.ensures at c.is_among.ensures in
    first_twin (λ (a b : Set). bytes_eq a.name b.name) c.args.sets.now _ c.set-item.result c.is_among.result (omega arith) c.set-item.is (search (rules, take_all)) among c.if-is_among.true

pub returns-else-is_among : goal.returns-else-is_among
returns-else-is_among t c =
    let among = rw c.as_slice.ensures at c.is_among.ensures in
    later_twin (λ (a b : Set). bytes_eq a.name b.name) c.args.sets.now _ c.set-item.result c.is_among.result c.has_twins.result (omega arith) c.set-item.is (search (rules, take_all)) among c.if-is_among.false c.has_twins.ensures
