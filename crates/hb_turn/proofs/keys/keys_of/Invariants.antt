use Rattle.std.proofs.Common.{◌≡◌, take}
use Rattle.std.specs.Prelude.{◌==◌, All, FitsSigned, filter}
use Rattle.std.specs.Int.{w32}
use Rattle.hb_types.specs.Groups.{group_of}
use Rattle.hb_turn.proofs.keys.keys_of.Given as goal

-- the keys so far are INTEGERs, and those of the group were kept
abbrev pub invariant-loop-key : goal.invariant-loop-key
invariant-loop-key l = All (FitsSigned w32) (take l.key-index l.keys) × (l.own ≡ filter (λ key. group_of key == l.group) (take l.key-index l.keys))
