use Rattle.std.proofs.Common.{◌≡◌, take}
use Rattle.std.specs.Prelude.{filter_map}
use Rattle.hb_talk.specs.PlansDefine.{member_of}
use Rattle.hb_definerows.specs.DefineRows.{TellMembers}
use Rattle.hb_definerows.proofs.members.read_members.Given as goal

abbrev pub invariant-loop-row : goal.invariant-loop-row
invariant-loop-row l = TellMembers l.fn.rows → l.members.items ≡ filter_map member_of (take l.row-index l.fn.rows)
