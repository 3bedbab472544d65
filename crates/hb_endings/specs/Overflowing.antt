-- A refusal that was found, before one by a number outside INTEGER.
use Rattle.std.specs.Prelude.{Bool, Option, Some, None, if◌then◌else◌}
use Rattle.hb_model.specs.declared.reply.Reply.{Reply}
use Rattle.hb_model.specs.declared.reply.Reply.TheVariants as reply

abbrev pub or_overflow : Option Reply → Bool → Option Reply
or_overflow (Some r) overflows = Some r
or_overflow None overflows = if overflows then Some reply.Overflow else None
