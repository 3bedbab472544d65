-- The turns of single requests.
use Rattle.std.proofs.Common.{◌≡◌, ℕ, Bool, true, false, refl, sym, ◌∙◌, ap, subst, List, [], ◌∷◌, Option, Some, None, inl, inr, if◌then◌else◌}
use Rattle.std.specs.Option.{is_some, option_map}
use Rattle.std.specs.Prelude.{◌==◌}
use Rattle.std.proofs.lemmas.Bool.{true≢false, false≢true}
use Rattle.hb_types.specs.declared.change.Stored.{Stored}
use Rattle.hb_types.specs.declared.change.Change.{Change}
use Rattle.hb_types.specs.declared.lock.Mode.{Mode}
use Rattle.hb_types.specs.declared.lock.Mode.TheVariants as mode
use Rattle.hb_types.specs.declared.places.Path.TheVariants as path
use Rattle.hb_types.specs.Put.{normal}
use Rattle.hb_branch.specs.Overlays.{Overlay}
use Rattle.hb_types.specs.declared.names.Number.{Number}
use Rattle.hb_types.specs.declared.names.Tx.{Tx}
use Rattle.hb_types.specs.declared.places.Path.{Path}
use Rattle.hb_types.specs.declared.answer.Answer.TheVariants as answer
use Rattle.hb_types.specs.declared.request.Request.TheVariants as request
use Rattle.hb_types.specs.Ladders.{upward}
use Rattle.hb_types.specs.Lists.{Ascends, IsIn}
use Rattle.hb_disks.specs.Redo.{Prepared}
use Rattle.hb_locks.specs.Locks.{Locks, held_at, lock_cmp, mode_at}
use Rattle.hb_runs.specs.Server.{Branch, SState, now, IsAlive, IsUnended}
use Rattle.hb_runs.specs.ServerEffects.{happens, enlisted, written as wrote}
use Rattle.hb_runs.specs.ServerAnswers.{Lacks, RightIn}
use Rattle.hb_engine.specs.Covers.{is_covered}
use Rattle.hb_engine.specs.Fits.{live_of, doubts_of, first_locks, live_in_slot, SlotFits, VoteFits, TxFits, Slots, slot_at, tx_of, Stands}
use Rattle.hb_engine.specs.Steps.{written}
use Rattle.hb_engine.specs.Turned.{Turned, IsCovered, IsFresh}
use Rattle.hb_engine.specs.declared.slot.Slot.{Slot}
use Rattle.hb_engine.proofs.Branches.{the_live, alive_of, not_alive, not_unended, live_unended, doubt_unended, of_doubts_of}
use Rattle.hb_engine.proofs.Covering.{any_held, none_held}
use Rattle.hb_engine.proofs.Effects.{moved, write_stands}
use Rattle.std.specs.BTreeMap.{is_at}
use Rattle.std.specs.Map.{lookup}
use Rattle.std.specs.Ordering.{nat_cmp}

-- ---- what a slot says

pub slot_fits : (slots : Slots) (locks : Locks) (floor : Number) (rows : List Stored) (s : SState) (tx : ℕ) (o : Option Slot) → Stands slots locks floor rows s → slot_at slots tx ≡ o
    → SlotFits o (live_of tx s.live) (doubts_of tx (now s).doubts)
slot_fits slots locks floor rows s tx o st e = subst (λ (o : Option Slot). SlotFits o (live_of tx s.live) (doubts_of tx (now s).doubts)) e (st.each tx).slot_fits

pub vote_fits : (slots : Slots) (locks : Locks) (floor : Number) (rows : List Stored) (s : SState) (tx : ℕ) (slot : Slot) (v : Option Number) → Stands slots locks floor rows s
    → slot_at slots tx ≡ Some slot → slot.vote ≡ v → VoteFits v slot (live_of tx s.live) (doubts_of tx (now s).doubts)
vote_fits slots locks floor rows s tx slot v st e f =
    subst (λ (v : Option Number). VoteFits v slot (live_of tx s.live) (doubts_of tx (now s).doubts)) f (slot_fits slots locks floor rows s tx (Some slot) st e)

pub slot_unended : (s : SState) (tx : ℕ) (slot : Slot) (v : Option Number) → VoteFits v slot (live_of tx s.live) (doubts_of tx (now s).doubts) → IsUnended s tx
slot_unended s tx slot None f = live_unended s tx (alive_of s tx f.0 (the_live s tx f.0 f.1))
slot_unended s tx slot (Some n) f =
    let r = of_doubts_of tx f.0 (now s).doubts (subst (λ (ps : List Prepared). IsIn f.0 ps) (sym f.2) (inl refl)) in
    doubt_unended s tx f.0 r.0 r.1

pub locks_of_live : (slots : Slots) (locks : Locks) (floor : Number) (rows : List Stored) (s : SState) (tx : Tx) (b : Branch) → Stands slots locks floor rows s → live_of tx.0 s.live ≡ b ∷ []
    → (q : Path) → held_at locks tx q ≡ mode_at b.locks q
locks_of_live slots locks floor rows s tx b st e q = (st.each tx.0).locks q ∙ ap (λ (l : List Branch). mode_at (first_locks l (doubts_of tx.0 (now s).doubts)) q) e

pub ordered_of_live : (slots : Slots) (locks : Locks) (floor : Number) (rows : List Stored) (s : SState) (tx : Tx) (b : Branch) → Stands slots locks floor rows s → live_of tx.0 s.live ≡ b ∷ [] → Ascends lock_cmp b.locks
ordered_of_live slots locks floor rows s tx b st e =
    subst (λ (l : List Branch). Ascends lock_cmp (first_locks l (doubts_of tx.0 (now s).doubts))) e (st.each tx.0).ordered

-- ---- Enlist

pub enlist_again : (slots : Slots) (locks : Locks) (floor : Number) (rows : List Stored) (s : SState) (tx : Tx) → Stands slots locks floor rows s → is_some (slot_at slots tx.0) ≡ true
    → Turned s (request.Enlist tx) answer.Done (λ t. Stands slots locks floor rows t)
enlist_again slots locks floor rows s tx st there = by (slot_at slots tx.0) refl
  where
    turn : IsUnended s tx.0 → Turned s (request.Enlist tx) answer.Done (λ t. Stands slots locks floor rows t)
    turn u = record {
      state = s;
      turn = record { effects = []; causes = inr (u, refl); right = subst (λ (b : Bool). RightIn b s (request.Enlist tx) answer.Done) (sym st.up) tt; steps = refl };
      at = st;
    }

    by : (o : Option Slot) → slot_at slots tx.0 ≡ o → Turned s (request.Enlist tx) answer.Done (λ t. Stands slots locks floor rows t)
    by None e = absurd (false≢true (sym (ap is_some e) ∙ there))
    by (Some slot) e = turn (slot_unended s tx.0 slot slot.vote (slot_fits slots locks floor rows s tx.0 (Some slot) st e))

pub enlist_first : (slots slots' : Slots) (locks : Locks) (floor : Number) (rows : List Stored) (s : SState) (tx : Tx) → Stands slots locks floor rows s → slot_at slots tx.0 ≡ None
    → Stands slots' locks floor rows (happens s (enlisted tx.0)) → Turned s (request.Enlist tx) answer.Done (λ t. Stands slots' locks floor rows t)
enlist_first slots slots' locks floor rows s tx st none st' =
    let f : SlotFits None (live_of tx.0 s.live) (doubts_of tx.0 (now s).doubts) = slot_fits slots locks floor rows s tx.0 None st none in
    let n : IsUnended s tx.0 → ⊥ = not_unended s tx.0 f.0 f.1 in
    record {
      state = happens s (enlisted tx.0);
      turn = record {
        effects = enlisted tx.0 ∷ [];
        causes = inl (n, refl);
        right = subst (λ (b : Bool). RightIn b s (request.Enlist tx) answer.Done) (sym st.up) tt;
        steps = (n, refl);
      };
      at = st';
    }

-- ---- a live branch

pub none_of : (o : Option Overlay) → is_some o ≡ false → o ≡ None
none_of None e = refl
none_of (Some x) e = absurd (true≢false e)

pub some_of : (o : Option Overlay) → is_some o ≡ true → (x : Overlay) × (o ≡ Some x)
some_of None e = absurd (false≢true e)
some_of (Some x) e = (x, refl)

-- the slot of a branch that lives
pub record LiveSlot (slots : Slots) (s : SState) (tx : ℕ) (o : Overlay) : Type 0 where
  pub slot : Slot
  pub is_slot : slot_at slots tx ≡ Some slot
  pub unvoted : slot.vote ≡ None
  pub same : slot.branch ≡ o
  pub branch : Branch
  pub alive : live_of tx s.live ≡ branch ∷ []
  pub changes : o.changes ≡ normal branch.own

unvoted : (slot : Slot) → slot.vote ≡ None → live_in_slot (Some slot) ≡ Some slot.branch
unvoted slot e = ap (λ (v : Option Number). live_in_slot (Some (record { branch = slot.branch; vote = v }))) e

has_voted : (slot : Slot) (n : Number) → slot.vote ≡ Some n → live_in_slot (Some slot) ≡ None
has_voted slot n e = ap (λ (v : Option Number). live_in_slot (Some (record { branch = slot.branch; vote = v }))) e

none_some : (o : Overlay) → ◌≡◌ {A = Option Overlay} None (Some o) → ⊥
none_some o e = cc

some_same : (a b : Overlay) → ◌≡◌ {A = Option Overlay} (Some a) (Some b) → a ≡ b
some_same a b e = cc

pub live_slot : (slots : Slots) (locks : Locks) (floor : Number) (rows : List Stored) (s : SState) (tx : ℕ) (o : Overlay) → Stands slots locks floor rows s → live_in_slot (slot_at slots tx) ≡ Some o → LiveSlot slots s tx o
live_slot slots locks floor rows s tx o st e = by (slot_at slots tx) refl
  where
    voted : (slot : Slot) (v : Option Number) → slot.vote ≡ v → slot_at slots tx ≡ Some slot → live_in_slot (Some slot) ≡ Some o → LiveSlot slots s tx o
    voted slot None v g h =
        let f : VoteFits None slot (live_of tx s.live) (doubts_of tx (now s).doubts) = vote_fits slots locks floor rows s tx slot None st g v in
        let same : slot.branch ≡ o = some_same slot.branch o (sym (unvoted slot v) ∙ h) in
        record { slot = slot; is_slot = g; unvoted = v; same = same; branch = f.0; alive = f.1; changes = sym (ap (λ (x : Overlay). x.changes) same) ∙ f.3 }
    voted slot (Some n) v g h = absurd (none_some o (sym (has_voted slot n v) ∙ h))

    by : (p : Option Slot) → slot_at slots tx ≡ p → LiveSlot slots s tx o
    by None g = absurd (none_some o (sym (ap live_in_slot g) ∙ e))
    by (Some slot) g = voted slot slot.vote refl g (sym (ap live_in_slot g) ∙ e)

pub not_live : (slots : Slots) (locks : Locks) (floor : Number) (rows : List Stored) (s : SState) (tx : ℕ) → Stands slots locks floor rows s → live_in_slot (slot_at slots tx) ≡ None → IsAlive s tx → ⊥
not_live slots locks floor rows s tx st e = by (slot_at slots tx) refl
  where
    voted : (slot : Slot) (v : Option Number) → slot.vote ≡ v → slot_at slots tx ≡ Some slot → IsAlive s tx → ⊥
    voted slot None v g = absurd (none_some slot.branch (sym e ∙ ap live_in_slot g ∙ unvoted slot v))
    voted slot (Some n) v g =
        let r : VoteFits (Some n) slot (live_of tx s.live) (doubts_of tx (now s).doubts) = vote_fits slots locks floor rows s tx slot (Some n) st g v in
        not_alive s tx r.1

    by : (o : Option Slot) → slot_at slots tx ≡ o → IsAlive s tx → ⊥
    by None g = not_alive s tx (slot_fits slots locks floor rows s tx None st g).0
    by (Some slot) g = voted slot slot.vote refl g

-- ---- a live branch that covers a path

pub covered_is : (slots : Slots) (locks : Locks) (floor : Number) (rows : List Stored) (s : SState) (tx : Tx) (o : Overlay) (m : Mode) (p : Path) → Stands slots locks floor rows s
    → live_in_slot (slot_at slots tx.0) ≡ Some o → is_covered locks tx m p ≡ true → IsCovered s tx.0 m p o
covered_is slots locks floor rows s tx o m p st e t =
    let f = live_slot slots locks floor rows s tx.0 o st e in
    record {
      branch = f.branch;
      live = the_live s tx.0 f.branch f.alive;
      covered = any_held locks tx m f.branch.locks (upward p) (locks_of_live slots locks floor rows s tx f.branch st f.alive) t;
      changes = f.changes;
    }

pub uncovered_is : (slots : Slots) (locks : Locks) (floor : Number) (rows : List Stored) (s : SState) (tx : Tx) (o : Overlay) (m : Mode) (p : Path) → Stands slots locks floor rows s
    → live_in_slot (slot_at slots tx.0) ≡ Some o → is_covered locks tx m p ≡ false → Lacks s tx.0 m p
uncovered_is slots locks floor rows s tx o m p st e t =
    let f = live_slot slots locks floor rows s tx.0 o st e in
    record {
      branch = f.branch;
      live = the_live s tx.0 f.branch f.alive;
      uncovered = none_held locks tx m f.branch.locks (upward p) (locks_of_live slots locks floor rows s tx f.branch st f.alive) (ordered_of_live slots locks floor rows s tx f.branch st f.alive) t;
    }

-- ---- Write

right_write : (s : SState) (tx : Tx) (c : Change) → s.up ≡ true → RightIn s.up s (request.Write tx c) answer.Done
right_write s tx c up = subst (λ (b : Bool). RightIn b s (request.Write tx c) answer.Done) (sym up) tt

pub write_done : (slots slots' : Slots) (locks : Locks) (floor : Number) (rows : List Stored) (s : SState) (tx : Tx) (c : Change) (o : Overlay) → Stands slots locks floor rows s
    → live_in_slot (slot_at slots tx.0) ≡ Some o → is_covered locks tx mode.X (path.Key c.place) ≡ true
    → ((t : ℕ) → slot_at slots' t ≡ (if tx.0 == t then option_map (written c) (slot_at slots t) else slot_at slots t))
    → Turned s (request.Write tx c) answer.Done (λ t. Stands slots' locks floor rows t)
write_done slots slots' locks floor rows s tx c o st e t new =
    let f = live_slot slots locks floor rows s tx.0 o st e in
    let k = covered_is slots locks floor rows s tx o mode.X (path.Key c.place) st e t in
    record {
      state = happens s (wrote tx.0 c);
      turn = record {
        effects = wrote tx.0 c ∷ [];
        causes = refl;
        right = right_write s tx c st.up;
        steps = ((k.branch, k.live, k.covered), refl);
      };
      at = write_stands slots slots' locks floor rows s tx c f.branch st f.alive f.slot f.is_slot f.unvoted new;
    }

pub write_no_branch : (slots : Slots) (locks : Locks) (floor : Number) (rows : List Stored) (s : SState) (tx : Tx) (c : Change) → Stands slots locks floor rows s
    → live_in_slot (slot_at slots tx.0) ≡ None → Turned s (request.Write tx c) answer.NoBranch (λ t. Stands slots locks floor rows t)
write_no_branch slots locks floor rows s tx c st e =
    record {
      state = s;
      turn = record {
        effects = [];
        causes = refl;
        right = subst (λ (b : Bool). RightIn b s (request.Write tx c) answer.NoBranch) (sym st.up) (not_live slots locks floor rows s tx.0 st e);
        steps = refl;
      };
      at = st;
    }

pub write_not_locked : (slots : Slots) (locks : Locks) (floor : Number) (rows : List Stored) (s : SState) (tx : Tx) (c : Change) (o : Overlay) → Stands slots locks floor rows s
    → live_in_slot (slot_at slots tx.0) ≡ Some o → is_covered locks tx mode.X (path.Key c.place) ≡ false → Turned s (request.Write tx c) answer.NotLocked (λ t. Stands slots locks floor rows t)
write_not_locked slots locks floor rows s tx c o st e t =
    record {
      state = s;
      turn = record {
        effects = [];
        causes = refl;
        right = subst (λ (b : Bool). RightIn b s (request.Write tx c) answer.NotLocked) (sym st.up) (uncovered_is slots locks floor rows s tx o mode.X (path.Key c.place) st e t);
        steps = refl;
      };
      at = st;
    }

-- other slots that say the same
pub same_slots : (slots slots' : Slots) (locks : Locks) (floor : Number) (rows : List Stored) (s : SState) → ((t : ℕ) → slot_at slots' t ≡ slot_at slots t) → Stands slots locks floor rows s → Stands slots' locks floor rows s
same_slots slots slots' locks floor rows s same st =
    record {
      up = st.up;
      rows_are = st.rows_are;
      ascending = st.ascending;
      floor_is = st.floor_is;
      each = λ t. subst (λ (o : Option Slot). TxFits o (live_of t s.live) (doubts_of t (now s).doubts) (held_at locks (tx_of t))) (sym (same t)) (st.each t);
      compatible = st.compatible;
    }

pub write_no_memory : (slots slots' : Slots) (locks : Locks) (floor : Number) (rows : List Stored) (s : SState) (tx : Tx) (c : Change) → Stands slots locks floor rows s
    → ((t : ℕ) → slot_at slots' t ≡ slot_at slots t) → Turned s (request.Write tx c) answer.NoMemory (λ t. Stands slots' locks floor rows t)
write_no_memory slots slots' locks floor rows s tx c st same =
    record {
      state = s;
      turn = record { effects = []; causes = refl; right = subst (λ (b : Bool). RightIn b s (request.Write tx c) answer.NoMemory) (sym st.up) refl; steps = refl };
      at = same_slots slots slots' locks floor rows s same st;
    }

-- ---- a start without doubts

pub fresh_stands : (slots : Slots) (floor : Number) (rows : List Stored) (s : SState) → slots.entries ≡ [] → IsFresh rows floor s → Stands slots [] floor rows s
fresh_stands slots floor rows s none f =
    record { up = f.up; rows_are = f.rows_are; ascending = f.ascending; floor_is = f.floor_is; each = each; compatible = λ q. refl }
  where
    each : (t : ℕ) → TxFits (slot_at slots t) (live_of t s.live) (doubts_of t (now s).doubts) (held_at [] (tx_of t))
    each t =
        moved None (slot_at slots t) [] (live_of t s.live) [] (doubts_of t (now s).doubts) (held_at [] (tx_of t)) (held_at [] (tx_of t))
        (ap (λ (es : List (ℕ × Slot)). lookup (is_at (nat_cmp t)) es) none) (ap (live_of t) f.no_live) (ap (doubts_of t) f.no_doubts) (λ q. refl)
        (record { slot_fits = (refl, refl); locks = λ q. refl; ordered = tt })
