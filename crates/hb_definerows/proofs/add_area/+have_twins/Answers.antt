use Rattle.std.proofs.Common.{arith, rules}
use Rattle.std.proofs.lemmas.List.{take_all}
use Rattle.hb_definerows.proofs.Twins.{first_number_twin, later_number_twin}
use Rattle.hb_definerows.proofs.add_area.+have_twins.Goals as goal

pub returns-then-is_like_one : goal.returns-then-is_like_one
returns-then-is_like_one t c = first_number_twin c.args.members.now _ _ c.is_like_one.result (omega arith) (search (rules, take_all)) c.is_like_one.ensures c.if-is_like_one.true

pub returns-else-is_like_one : goal.returns-else-is_like_one
returns-else-is_like_one t c =
    later_number_twin c.args.members.now _ _ c.is_like_one.result c.have_twins.result (omega arith) (search (rules, take_all)) c.is_like_one.ensures c.if-is_like_one.false c.have_twins.ensures
