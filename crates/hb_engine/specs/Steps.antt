-- What becomes of what is held of one branch.
use Rattle.std.specs.Prelude.{[], Some, None}
use Rattle.hb_types.specs.declared.change.Change.{Change}
use Rattle.hb_types.specs.declared.names.Number.{Number}
use Rattle.hb_types.specs.declared.names.Tx.{Tx}
use Rattle.hb_branch.specs.Overlays.{putting}
use Rattle.hb_engine.specs.declared.slot.Slot.{Slot}

-- a branch that begins
abbrev pub fresh : Tx → Slot
fresh tx = record { branch = record { tx = tx; changes = [] }; vote = None }

-- with a further change
abbrev pub written : Change → Slot → Slot
written c slot = record { branch = record { tx = slot.branch.tx; changes = putting c slot.branch.changes }; vote = slot.vote }

-- once it has voted
abbrev pub voted : Number → Slot → Slot
voted floor slot = record { branch = slot.branch; vote = Some floor }
