-- The top call: what stands at each of its statuses.
use Rattle.std.specs.Prelude.{◌≡◌, ◌≢◌, ◌⊎◌, ℕ, ◌+◌, ◌<◌, ◌≤◌, All, List, [], ◌∷◌, length, slice_index_or, Option, IfSome}
use Rattle.std.specs.List.{AllZip}
use Rattle.hb_edge.specs.Causes.{Rose}
use Rattle.hb_edge.specs.Images.{Image}
use Rattle.hb_edge.specs.Streams.{with_end}
use Rattle.hb_types.specs.declared.answer.Answer.TheVariants as answer
use Rattle.hb_types.specs.declared.names.Tx.{Tx}
use Rattle.hb_types.specs.declared.request.Request.TheVariants as request
use Rattle.hb_types.specs.declared.trail.TrailEntry.{TrailEntry}
use Rattle.hb_node.specs.Laws.{asked_of}
use Rattle.hb_node.specs.Lists.{Lists, asked}
use Rattle.hb_print.specs.Texts.{text_of}
use Rattle.hb_stepper.specs.Running.{Running}
use Rattle.hb_system.specs.Disks.{AreKept, IsKept, IsEmpty, HasFault}
use Rattle.hb_system.specs.Opening.{IsFirstWritten, damage_at}
use Rattle.hb_acts.specs.declared.stop.Stop.{Stop}
use Rattle.hb_acts.specs.declared.stop.Stop.TheVariants.{Memory}
use Rattle.hb_acts.specs.Outside.{Outside, GoesOn, HasLongLine}
use Rattle.hb_acts.specs.Putting.{IsFront}
use Rattle.hb_console.specs.Leaving.{DisksLeft}
use Rattle.hb_acts.specs.Runs.{Finishes, StopsAt}
use Rattle.hb_acts.specs.Stops.{code_of}

-- A system of n back ends that was just opened: there is no session and no line, and each of its nodes was asked its Start alone.
pub record IsOrigin (n : ℕ) (origin : Running) : Type 0 where
  pub names : origin.names ≡ []
  pub seats : origin.seats ≡ []
  pub waiters : origin.waiters ≡ []
  pub lines : origin.lines ≡ []
  pub started : (k : ℕ) → k < n + 2 → (doubts : List Tx) × (origin.lists k ≡ asked request.Start (answer.Started doubts) ∷ [])
  pub others : (k : ℕ) → n + 2 ≤ k → origin.lists k ≡ []

-- each node was asked its Start alone
abbrev pub AreStarted : {N : Type 0} → (N → List TrailEntry) → List N → Type 0
AreStarted {N} trail nodes = (k : ℕ) (d : N) → k < length nodes → (doubts : List Tx) × (asked_of (trail (slice_index_or nodes k d)) ≡ asked request.Start (answer.Started doubts) ∷ [])

-- the system was opened, and its sessions and nodes came from there to an end, which stands on the disks; this is so of the script between
-- them, where its source tells it
abbrev pub FromOrigin : ℕ → Outside → (Lists → Type 0) → (Running → Running → List ℕ → Type 0) → Type 0
FromOrigin n before Left P = (origin : Running) × IsOrigin n origin × (end : Running) × Left end.lists × IfSome before.input (P origin end)

-- nothing was read, and nothing was put
pub record IsUnread (before after : Outside) : Type 0 where
  pub input : after.input ≡ before.input
  pub output : after.output ≡ before.output

-- Nothing was read, and the line of the first disk that isn't empty was put; a front of it where the sink failed. The disks are as
-- they were.
pub record IsDamaged {D : Type 0} (content : D → Option Image) (faults : D → ℕ) (old new : List D) (before after : Outside) : Type 0 where
  pub at : ℕ
  pub kept : AllZip (IsKept content faults) old new
  pub first : IsFirstWritten content new at
  pub input : after.input ≡ before.input
  pub shown : List ℕ
  pub output : after.output ≡ with_end shown before.output
  pub front : IsFront shown (text_of [] (damage_at at))
  pub whole : (shown ≡ text_of [] (damage_at at)) ⊎ Rose before.faults.sink after.faults.sink

-- The count of a disk rose in the opening: as the disks were synced and measured, or as a node that was made of them was started.
abbrev pub DiskFailed : {D : Type 0} → (D → Option Image) → (D → ℕ) → (D → ℕ) → (List D → List D → Type 0) → ℕ → List D → List D → Type 0
DiskFailed {D} content last faults Failed from old new = HasFault faults old new ⊎ ((taken : List D) × (mid : ℕ) × AreKept content last faults from mid old taken × Failed taken new)

-- how a run over the disks of a system of n back ends, from a moment to another, ends
pub record Ends {D : Type 0} (content : D → Option Image) (left : D → ℕ → Image → Type 0) (last faults : D → ℕ) (Failed : List D → List D → Type 0) (from to n status : ℕ) (before after : Outside) (old new : List D) : Type 0 where
  pub known : (status ≡ 0) ⊎ ((status ≡ 5) ⊎ ((status ≡ 6) ⊎ ((stop : Stop) × (status ≡ code_of stop))))
  pub goes_on : GoesOn before after
  pub finished : status ≡ 0 → FromOrigin n before (DisksLeft content left last from to old new) (λ origin end. Finishes origin end before after)
  pub stopped : (stop : Stop) → status ≡ code_of stop → ((stop ≡ Memory) × IsUnread before after) ⊎ FromOrigin n before (DisksLeft content left last from to old new) (λ origin end. StopsAt origin end before after stop)
  -- 3, 4 and 5 come only where the device's count rose
  pub source_failed : status ≡ 3 → Rose before.faults.source after.faults.source
  pub sink_failed : status ≡ 4 → Rose before.faults.sink after.faults.sink
  pub disk_failed : status ≡ 5 → DiskFailed content last faults Failed from old new × IsUnread before after
  -- 8 comes only where a line of the source has more than 8,192 bytes; at 0 each line says something, so none has
  pub line_too_long : status ≡ 8 → IfSome before.input HasLongLine
  -- 6 comes exactly where a disk isn't empty
  pub damaged : status ≡ 6 → IsDamaged content faults old new before after
  pub empty : status ≢ 5 → status ≢ 6 → status ≢ 7 → All (IsEmpty content) old
