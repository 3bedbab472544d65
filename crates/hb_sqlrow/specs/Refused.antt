-- The replies that a refused assignment stands for.
use Rattle.std.specs.Prelude.{◌≡◌, Option, Some}
use Rattle.hb_model.specs.declared.reply.Reply.{Reply}
use Rattle.hb_model.specs.declared.reply.Reply.TheVariants as reply
use Rattle.hb_sqlrow.specs.declared.fault.SetFault.{SetFault}
use Rattle.hb_sqlrow.specs.declared.fault.SetFault.TheVariants as fault

-- the refusal is the reply of this fault; want of memory says nothing
abbrev pub IsReplyOf : SetFault → Option Reply → Type 0
IsReplyOf fault.Overflow refusal = refusal ≡ Some reply.Overflow
IsReplyOf fault.TooLong refusal = refusal ≡ Some reply.TooLong
IsReplyOf fault.NoMemory refusal = Unit {0}
