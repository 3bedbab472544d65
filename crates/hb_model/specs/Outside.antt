-- Replies to a statement that tell nothing of the tables: something else ended its transaction.
use Rattle.std.specs.Prelude.{Bool, true, false}
use Rattle.hb_model.specs.declared.reply.Reply.{Reply}
use Rattle.hb_model.specs.declared.reply.Reply.TheVariants as reply

-- a node was down or stopped or lost the branch, the wait closed a cycle, numbers or memory ran out, or the script ended
abbrev pub is_outside : Reply → Bool
is_outside (reply.Down node) = true
is_outside (reply.Stopped node) = true
is_outside (reply.Lost node) = true
is_outside (reply.Deadlock edges) = true
is_outside reply.NumbersSpent = true
is_outside reply.NoMemory = true
is_outside reply.RolledBackEnd = true
is_outside _ = false

-- a reply that says that the transaction was rolled back
abbrev pub says_undone : Reply → Bool
says_undone reply.RolledBack = true
says_undone r = is_outside r
