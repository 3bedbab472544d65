-- What the answer of a Start tells of the images that its disks held.
use Rattle.std.proofs.Common.{◌≡◌, ◌+◌, ◌*◌, ◌≤◌, inl, inr, ℕ, max, true, false, ap, length, [], List, refl, sym, subst, arith}
use Rattle.std.proofs.lemmas.Bool.{false≢true}
use Rattle.std.specs.Prelude.{Option, Some, unwrap_or}
use Rattle.hb_edge.specs.Fuses.{last_of}
use Rattle.hb_edge.specs.Images.{Image, Same}
use Rattle.hb_edge.specs.declared.fused.Fused.{Fused}
use Rattle.hb_edge.specs.Stops.{Passes}
use Rattle.hb_types.specs.declared.answer.Answer.{Answer}
use Rattle.hb_types.specs.declared.answer.Answer.TheVariants as answer
use Rattle.hb_types.specs.declared.change.Placed.{Placed}
use Rattle.hb_types.specs.declared.change.Stored.{Stored}
use Rattle.hb_types.specs.Numbers.{greatest}
use Rattle.hb_disks.specs.Points.{Point, no_point}
use Rattle.hb_disks.specs.Redo.{doubts, nothing}
use Rattle.hb_log.specs.Standing.{Breaks}
use Rattle.hb_log.specs.declared.fault.LogFault.{LogFault}
use Rattle.hb_log.specs.declared.fault.LogFault.TheVariants as log_fault
use Rattle.hb_redo.specs.Damage.{IsDamaged, items_of}
use Rattle.hb_redo.specs.Restarts.{redone}
use Rattle.hb_redo.proofs.Leaving.{same_doubts}
use Rattle.hb_redo.specs.declared.fault.RedoFault.{RedoFault}
use Rattle.hb_redo.specs.declared.fault.RedoFault.TheVariants as redo_fault
use Rattle.hb_store.specs.declared.fault.StoreFault.{StoreFault}
use Rattle.hb_store.specs.declared.fault.StoreFault.TheVariants as store_fault
use Rattle.hb_store.specs.declared.point.Point.{Point as Mark}
use Rattle.hb_store.specs.Meanings.{mark_of}
use Rattle.hb_server.specs.Damages.{AreRecords, Finds, IsBroken, IsWhole, LogFinds, Reads}
use Rattle.hb_server.specs.Law.{IsTold, content_of, left_of, mended_in}
use Rattle.hb_server.specs.declared.state.State.{State}
use Rattle.hb_server.specs.declared.state.State.TheVariants.{Down, Up, Away}

-- ---- the log

pub start_finds : (read : Image) (from : ℕ) (fault : LogFault) (a : Answer) → ((place : ℕ) → fault ≡ log_fault.Damaged place → Breaks read from place)
    → (fault ≡ log_fault.Fault → a ≡ answer.Fault false) → (fault ≡ log_fault.Closed → a ≡ answer.Fault false) → ((place : ℕ) → fault ≡ log_fault.Damaged place → a ≡ answer.Damaged false place) → (fault ≡ log_fault.NoMemory → a ≡ answer.NoMemory) → LogFinds read from a
start_finds read from log_fault.Fault a breaks faults closes damages wants = subst (LogFinds read from) (sym (faults refl)) tt
start_finds read from log_fault.Closed a breaks faults closes damages wants = subst (LogFinds read from) (sym (closes refl)) tt
start_finds read from (log_fault.Damaged place) a breaks faults closes damages wants = subst (LogFinds read from) (sym (damages place refl)) (inl (breaks place refl))
start_finds read from log_fault.NoMemory a breaks faults closes damages wants = subst (LogFinds read from) (sym (wants refl)) tt

pub redo_finds : (read : Image) (from : ℕ) (records : List Placed) (end : ℕ) (fault : RedoFault) (a : Answer) → AreRecords read from records end → ((place : ℕ) → fault ≡ redo_fault.Damaged place → IsDamaged records end place)
    → ((place : ℕ) → fault ≡ redo_fault.Damaged place → a ≡ answer.Damaged false place) → (fault ≡ redo_fault.NoMemory → a ≡ answer.NoMemory) → LogFinds read from a
redo_finds read from records end (redo_fault.Damaged place) a here bad damages wants = subst (LogFinds read from) (sym (damages place refl)) (inr (records, end, here, bad place refl))
redo_finds read from records end redo_fault.NoMemory a here bad damages wants = subst (LogFinds read from) (sym (wants refl)) tt

-- the branches in doubt hang on the records alone
pub room_left : (rows : List Stored) (mark : Mark) (records : List Placed) (end : ℕ) → end + 32 * length (redone rows mark.floor records).doubts ≤ greatest → end + 32 * length (doubts (items_of records)) ≤ greatest
room_left rows mark records end fits =
    let same = ap length (same_doubts (record { rows = rows; floor = mark.floor.0; doubts = [] }) nothing (items_of records) refl) in
    omega (arith, fits, same)

-- ---- both disks

-- what a disk holds after a call that leaves the images as they are, it held before
pub held_before : {D : Type 0} (left : D → ℕ → Image → Type 0) (last : D → ℕ) (old new : D) (then : ℕ) → last new ≡ max (last old) then → Passes Same then (last old) (left old) (left new) → (image : Image) → left new (last new) image → left old (last old) image
held_before left last old new then is passes image held =
    let s = passes.since (last new) image (omega (arith, is)) held in
    subst (λ (i : Image). left old (last old) i) (sym s.2) s.1

module _ (point_in : Image → Option Point → Type 0) (header_in : Image → Option ℕ) (log area : Image) where
  -- once the point is loaded
  pub point_finds : (p : Option Point) (mark : Mark) (a : Answer) → point_in area p → mark ≡ mark_of (unwrap_or p no_point) → LogFinds log mark.from a → Finds point_in header_in log area a
  point_finds p mark (answer.Damaged true place) has is finds = absurd finds
  point_finds p mark (answer.Damaged false place) has is finds = (p, has, subst (λ (m : Mark). IsBroken log m.from place) is finds)
  point_finds p mark (answer.Started doubts) has is finds = (p, has, subst (λ (m : Mark). IsWhole log m.from) is finds)
  point_finds p mark _ has is finds = tt

  pub load_finds : (fault : StoreFault) (a : Answer) → ((place : ℕ) → fault ≡ store_fault.Damaged place → (header_in area ≡ Some place) × ((p : Option Point) → point_in area p → ⊥))
      → (fault ≡ store_fault.Fault → a ≡ answer.Fault true) → ((place : ℕ) → fault ≡ store_fault.Damaged place → a ≡ answer.Damaged true place) → (fault ≡ store_fault.Spent → a ≡ answer.NoMemory) → (fault ≡ store_fault.NoMemory → a ≡ answer.NoMemory)
      → Finds point_in header_in log area a
  load_finds store_fault.Fault a bad faults damages spends wants = subst (Finds point_in header_in log area) (sym (faults refl)) tt
  load_finds (store_fault.Damaged place) a bad faults damages spends wants = subst (Finds point_in header_in log area) (sym (damages place refl)) (bad place refl)
  load_finds store_fault.Spent a bad faults damages spends wants = subst (Finds point_in header_in log area) (sym (spends refl)) tt
  load_finds store_fault.NoMemory a bad faults damages spends wants = subst (Finds point_in header_in log area) (sym (wants refl)) tt

-- as it is told
pub reads_told : {D S : Type 0} (content : D → Option Image) (left : D → ℕ → Image → Type 0) (last : D → ℕ) (point_in : Image → Option Point → Type 0) (header_in : Image → Option ℕ) (state : State D S) (a told : Answer)
    → IsTold a told → Reads content left last point_in header_in state a → Reads content left last point_in header_in state told
reads_told content left last point_in header_in state a told (inl same) reads = subst (λ (b : Answer). Reads content left last point_in header_in state b) (sym same) reads
reads_told content left last point_in header_in (Down rest) a told (inr (heavy, want)) reads = subst (λ (b : Answer). Reads content left last point_in header_in (Down rest) b) (sym want) (λ found log_told area_told. absurd (false≢true found))
reads_told content left last point_in header_in (Up serves) a told (inr (heavy, want)) reads = tt
reads_told content left last point_in header_in Away a told (inr (heavy, want)) reads = tt

pub reads_want : {D S : Type 0} (content : D → Option Image) (left : D → ℕ → Image → Type 0) (last : D → ℕ) (point_in : Image → Option Point → Type 0) (header_in : Image → Option ℕ) (state : State D S) → Reads content left last point_in header_in state answer.NoMemory
reads_want content left last point_in header_in (Down rest) = λ found log_told area_told. absurd (false≢true found)
reads_want content left last point_in header_in (Up serves) = tt
reads_want content left last point_in header_in Away = tt

-- over repaired fuses
pub reads_mended : {D S : Type 0} (content : D → Option Image) (left : D → ℕ → Image → Type 0) (last : D → ℕ) (point_in : Image → Option Point → Type 0) (header_in : Image → Option ℕ) (state : State (Fused D) S) (a : Answer)
    → Reads (content_of content) (left_of left) (last_of last) point_in header_in (mended_in state) a → Reads (content_of content) (left_of left) (last_of last) point_in header_in state a
reads_mended content left last point_in header_in (Down rest) a reads = reads
reads_mended content left last point_in header_in (Up serves) a reads = tt
reads_mended content left last point_in header_in Away a reads = tt
