use Rattle.std.proofs.Common.{◌≡◌, take}
use Rattle.std.specs.Prelude.{[]}
use Rattle.hb_model.specs.Define.{numbers_of}
use Rattle.hb_definerows.specs.DefineRows.{state_told}
use Rattle.hb_definerows.proofs.create_table.new_members.Given as goal

abbrev pub invariant-loop-name : goal.invariant-loop-name
invariant-loop-name l = l.members.items ≡ numbers_of (state_told [] l.areas) (take l.name-index l.names)
