-- Writes that are under way.
use Rattle.std.specs.Prelude.{List}
use Rattle.hb_types.specs.declared.change.Change.{Change}
use Rattle.hb_types.specs.Places.{node_of_area}
use Rattle.hb_types.specs.Records.{IsChange}
use Rattle.hb_model.specs.declared.reply.Reply.{Reply}
use Rattle.hb_access.specs.Accesses.{Accessing, IsServer}

-- a change that can be written: it has bytes, and its area is at ds or at a back end
abbrev pub IsWrite : Change → Type 0
IsWrite c = IsChange c × IsServer (node_of_area c.place.space.area)

-- the write that is under way, those that are left, and the reply
pub record Underway : Type 0 where
  pub access : Accessing
  pub left : List Change
  pub reply : Reply
