-- Why a system isn't opened.
use Rattle.std.specs.Prelude.{◌≡◌, ℕ, ◌+◌, ◌/◌, ◌%◌, ◌<◌, ◌==◌, ◌&&◌, nat_lt, Bool, true, false, is_some, List, [], ◌∷◌, length, slice_index_or, if◌then◌else◌, All, HoldsAt, Option, Some, None}
use Rattle.std.specs.List.{AllWithin}
use Rattle.hb_edge.specs.Images.{Image}
use Rattle.hb_model.specs.declared.line.Line.{Line}
use Rattle.hb_model.specs.declared.reply.Reply.TheVariants as reply
use Rattle.hb_types.specs.declared.names.NodeName.{NodeName}
use Rattle.hb_system.specs.declared.refusal.Refusal.{Refusal}
use Rattle.hb_system.specs.declared.refusal.Refusal.TheVariants as refusal
use Rattle.hb_system.specs.Disks.{AreKept, IsInTime, IsSettled, IsEmpty, IsWritten, HasFault}
use Rattle.hb_node.specs.Laws.{asked_of}
use Rattle.hb_node.specs.Lists.{asked}
use Rattle.hb_types.specs.declared.answer.Answer.TheVariants as answer
use Rattle.hb_types.specs.declared.request.Request.TheVariants as request
use Rattle.hb_types.specs.declared.names.Tx.{Tx}
use Rattle.hb_system.specs.Making.{origin_of}
use Rattle.hb_reach.specs.Goes.{IsLawful}
use Rattle.hb_reach.specs.Told.{Meanings, told_of}
use Rattle.hb_system.specs.Giving.{Counts, Gives}
use Rattle.hb_system.specs.Starting.{IsDisksOf}
use Rattle.hb_system.specs.Variants.{of_kind}
use Rattle.hb_system.specs.declared.node.SystemNode.{SystemNode}

-- so many disks are those of a system
abbrev pub AreDisks : ℕ → Type 0
AreDisks disks = (n : ℕ) × IsDisksOf n disks

-- the disks of a system, all empty, and a stop leaves them so
pub record AreReady {D : Type 0} (content : D → Option Image) (left : D → ℕ → Image → Type 0) (last : D → ℕ) (disks : List D) : Type 0 where
  pub count : AreDisks (length disks)
  pub settled : All (IsSettled content left last) disks
  pub empty : All (IsEmpty content) disks

-- the first disk with bytes is the one at this place
pub record IsFirstWritten {D : Type 0} (content : D → Option Image) (disks : List D) (at : ℕ) : Type 0 where
  pub inside : at < length disks
  pub written : HoldsAt (IsWritten content) disks at
  pub before : AllWithin (IsEmpty content) disks 0 at

-- each cause of a refusal
abbrev pub IsCause : {D : Type 0} → (D → Option Image) → (D → ℕ) → List D → List D → Refusal → Type 0
IsCause content faults old new refusal.Usage = AreDisks (length old) → ⊥
IsCause content faults old new refusal.Disk = AreDisks (length old) × HasFault faults old new
IsCause content faults old new (refusal.Damaged at) = AreDisks (length old) × IsFirstWritten content new at
IsCause content faults old new refusal.Start = AreDisks (length old)
IsCause content faults old new refusal.Memory = AreDisks (length old)

-- the status of each
abbrev pub status_of : Refusal → ℕ
status_of refusal.Usage = 1
status_of refusal.Disk = 5
status_of refusal.Start = 5
status_of (refusal.Damaged at) = 6
status_of refusal.Memory = 7

-- ---- the disks in their order: fes1.log, ds.log, ds.area, bes1.log, bes1.area and so on

abbrev pub node_of_disk : ℕ → NodeName
node_of_disk at = record { 0 = (at + 1) / 2 }

abbrev pub is_area : ℕ → Bool
is_area at = nat_lt 0 at && (at % 2 == 0)

-- the line that tells of a damage
abbrev pub damage_at : ℕ → Line
damage_at at = record { session = None; work = None; reply = if is_area at then reply.DamagedArea (node_of_disk at) 0 else reply.DamagedLog (node_of_disk at) 0 }

abbrev pub line_of : Refusal → Option Line
line_of (refusal.Damaged at) = Some (damage_at at)
line_of _ = None

-- no node was made yet
abbrev pub is_early : Refusal → Bool
is_early refusal.Start = false
is_early refusal.Memory = false
is_early _ = true

-- A node that was made of these disks failed in its Start: the count of its disks' failures, which began with theirs, rose. The nodes
-- then gave these disks back.
pub record HasFailed {D F S : Type 0} (left : D → ℕ → Image → Type 0) (faults : D → ℕ) (front : F → ℕ → Image → Image → Type 0) (server : S → ℕ → Image → Image → Type 0) (front_faults : F → ℕ) (server_faults : S → ℕ) (taken given : List D) : Type 0 where
  pub before : List (SystemNode F S)
  pub after : List (SystemNode F S)
  pub counts : Counts faults front_faults server_faults before taken
  pub fault : HasFault (of_kind front_faults server_faults) before after
  pub gives : Gives left front server after given

-- The system was refused for a cause: its status and its line are told. All disks are given back, in their order. Where no node was
-- made they are as they were: nothing was done with them but that they were synced. Where they aren't the disks of a system, nothing
-- was done at all.
pub record IsRefused {D : Type 0} (content : D → Option Image) (last faults : D → ℕ) (Failed : List D → List D → Type 0) (from to : ℕ) (old : List D) (status : ℕ) (told : Option Line) (new : List D) : Type 0 where
  pub why : Refusal
  pub status_is : status ≡ status_of why
  pub told_is : told ≡ line_of why
  pub cause : IsCause content faults old new why
  pub count : length new ≡ length old
  pub untouched : why ≡ refusal.Usage → (new ≡ old) × (to ≡ from)
  pub kept : is_early why ≡ true → AreKept content last faults from to old new
  pub failed : why ≡ refusal.Start → (taken : List D) × (mid : ℕ) × AreKept content last faults from mid old taken × Failed taken new

-- the disk tells its content, and the moment is not behind it
abbrev pub IsTold : {D : Type 0} → (D → Option Image) → (D → ℕ) → ℕ → D → Type 0
IsTold content last moment d = (is_some (content d) ≡ true) × IsInTime last moment d

-- The node of this number was asked its Start alone, and is up. If the disks tell their content, then from now on the node, and
-- whatever a stop leaves of it, is what this Start makes of an empty log.
pub record IsOpen {N : Type 0} (premise : Type 0) (m : Meanings N) (moment name : ℕ) (node : N) : Type 0 where
  pub named : m.named node ≡ name
  pub asked_once : (doubts : List Tx) × (asked_of (m.trail node) ≡ asked request.Start (answer.Started doubts) ∷ [])
  pub lawful : premise → IsLawful moment (origin_of name) (told_of m (Some node))

-- the system is open: its disks were empty, and its nodes stand by their numbers
pub record IsOpened {D N : Type 0} (content : D → Option Image) (last : D → ℕ) (m : Meanings N) (from to : ℕ) (disks : List D) (nodes : List N) : Type 0 where
  pub count : (n : ℕ) × IsDisksOf n (length disks) × (length nodes ≡ n + 2)
  pub empty : All (IsEmpty content) disks
  pub each : (k : ℕ) (d : N) → k < length nodes → IsOpen (All (IsTold content last from) disks) m to k (slice_index_or nodes k d)
