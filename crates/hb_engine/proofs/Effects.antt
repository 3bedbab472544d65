-- What the engine holds goes on standing for the state behind an effect.
use Rattle.std.proofs.Common.{◌≡◌, ℕ, refl, sym, ◌∙◌, ap, subst, List, [], ◌∷◌, ◌++◌, map, Option, Some, None, if◌then◌else◌}
use Rattle.std.specs.Prelude.{◌==◌}
use Rattle.std.specs.Option.{option_map}
use Rattle.std.proofs.lemmas.Bool.{eq-eqb, ne_eqb}
use Rattle.hb_types.specs.declared.change.Change.{Change}
use Rattle.hb_types.specs.declared.change.Stored.{Stored}
use Rattle.hb_types.specs.declared.lock.Mode.{Mode}
use Rattle.hb_types.specs.declared.names.Number.{Number}
use Rattle.hb_types.specs.declared.names.Tx.{Tx}
use Rattle.hb_types.specs.declared.places.Path.{Path}
use Rattle.hb_types.specs.Put.{normal}
use Rattle.hb_branch.proofs.Changes.{normal-more}
use Rattle.hb_branch.specs.Overlays.{putting}
use Rattle.hb_disks.specs.Redo.{Prepared}
use Rattle.hb_locks.specs.Locks.{Locks, held_at, lock_cmp, mode_at}
use Rattle.hb_types.specs.Lists.{Ascends}
use Rattle.hb_runs.specs.Server.{Branch, SState, now}
use Rattle.hb_runs.specs.ServerEffects.{happens, enlisted, written as wrote, write, changing}
use Rattle.hb_engine.specs.Fits.{live_of, doubts_of, first_locks, SlotFits, VoteFits, TxFits, Slots, slot_at, tx_of, Stands}
use Rattle.hb_engine.specs.Steps.{fresh, written}
use Rattle.hb_engine.specs.declared.slot.Slot.{Slot}
use Rattle.hb_engine.proofs.Branches.{by_same, live_of-more, append_none, live_of-changing_same, live_of-changing_other, live_in, live_out}

-- the same of equal things
pub moved : (slot slot' : Option Slot) (live live' : List Branch) (doubts doubts' : List Prepared) (held held' : Path → Option Mode)
    → slot' ≡ slot → live' ≡ live → doubts' ≡ doubts → ((q : Path) → held' q ≡ held q) → TxFits slot live doubts held → TxFits slot' live' doubts' held'
moved slot slot' live live' doubts doubts' held held' e f g h fits =
    subst (λ (o : Option Slot). TxFits o live' doubts' held') (sym e)
    (subst (λ (l : List Branch). TxFits slot l doubts' held') (sym f)
    (subst (λ (d : List Prepared). TxFits slot live d held') (sym g)
    (record { slot_fits = fits.slot_fits; locks = λ q. h q ∙ fits.locks q; ordered = fits.ordered })))

-- ---- a branch begins

pub enlist_stands : (slots slots' : Slots) (locks : Locks) (floor : Number) (rows : List Stored) (s : SState) (tx : Tx) → Stands slots locks floor rows s → slot_at slots tx.0 ≡ None
    → ((t : ℕ) → slot_at slots' t ≡ (if tx.0 == t then Some (fresh tx) else slot_at slots t)) → Stands slots' locks floor rows (happens s (enlisted tx.0))
enlist_stands slots slots' locks floor rows s tx st none new =
    record { up = st.up; rows_are = st.rows_are; ascending = st.ascending; floor_is = st.floor_is; each = each; compatible = st.compatible }
  where
    branch : Branch
    branch = record { tx = tx.0; locks = []; own = [] }

    before : SlotFits None (live_of tx.0 s.live) (doubts_of tx.0 (now s).doubts)
    before = subst (λ (o : Option Slot). SlotFits o (live_of tx.0 s.live) (doubts_of tx.0 (now s).doubts)) none (st.each tx.0).slot_fits

    mine : TxFits (Some (fresh tx)) (branch ∷ []) [] (held_at locks tx)
    mine = record {
      slot_fits = (branch, refl, refl, refl);
      locks = λ q. (st.each tx.0).locks q ∙ ap (λ (l : List Branch). mode_at (first_locks l (doubts_of tx.0 (now s).doubts)) q) before.0 ∙ ap (λ (d : List Prepared). mode_at (first_locks [] d) q) before.1;
      ordered = tt;
    }

    each : (t : ℕ) → TxFits (slot_at slots' t) (live_of t (s.live ++ branch ∷ [])) (doubts_of t (now s).doubts) (held_at locks (tx_of t))
    each t =
        by_same tx.0 t
        (λ e. subst (λ (n : ℕ). TxFits (slot_at slots' n) (live_of n (s.live ++ branch ∷ [])) (doubts_of n (now s).doubts) (held_at locks (tx_of n))) e
        (moved (Some (fresh tx)) (slot_at slots' tx.0) (branch ∷ []) (live_of tx.0 (s.live ++ branch ∷ [])) [] (doubts_of tx.0 (now s).doubts) (held_at locks tx) (held_at locks (tx_of tx.0))
        (new tx.0 ∙ ap (λ b. if b then Some (fresh tx) else slot_at slots tx.0) (eq-eqb tx.0 tx.0 refl))
        (live_of-more tx.0 s.live branch ∙ ap (λ (l : List Branch). l ++ live_of tx.0 (branch ∷ [])) before.0 ∙ live_in tx.0 branch [] refl)
        before.1 (λ q. refl) mine))
        (λ n. moved (slot_at slots t) (slot_at slots' t) (live_of t s.live) (live_of t (s.live ++ branch ∷ [])) (doubts_of t (now s).doubts) (doubts_of t (now s).doubts) (held_at locks (tx_of t)) (held_at locks (tx_of t))
        (new t ∙ ap (λ b. if b then Some (fresh tx) else slot_at slots t) (ne_eqb tx.0 t n))
        (live_of-more t s.live branch ∙ ap (λ (l : List Branch). live_of t s.live ++ l) (live_out t branch [] n) ∙ append_none (live_of t s.live))
        refl (λ q. refl) (st.each t))

-- ---- a write

pub write_stands : (slots slots' : Slots) (locks : Locks) (floor : Number) (rows : List Stored) (s : SState) (tx : Tx) (c : Change) (b : Branch) → Stands slots locks floor rows s
    → live_of tx.0 s.live ≡ b ∷ [] → (slot : Slot) → slot_at slots tx.0 ≡ Some slot → slot.vote ≡ None
    → ((t : ℕ) → slot_at slots' t ≡ (if tx.0 == t then option_map (written c) (slot_at slots t) else slot_at slots t)) → Stands slots' locks floor rows (happens s (wrote tx.0 c))
write_stands slots slots' locks floor rows s tx c b st alive slot here live new =
    record { up = st.up; rows_are = st.rows_are; ascending = st.ascending; floor_is = st.floor_is; each = each; compatible = st.compatible }
  where
    old : VoteFits None slot (live_of tx.0 s.live) (doubts_of tx.0 (now s).doubts)
    old =
        subst (λ (v : Option Number). VoteFits v slot (live_of tx.0 s.live) (doubts_of tx.0 (now s).doubts)) live
        (subst (λ (o : Option Slot). SlotFits o (live_of tx.0 s.live) (doubts_of tx.0 (now s).doubts)) here (st.each tx.0).slot_fits)

    after_write : live_of tx.0 (changing tx.0 (write c) s.live) ≡ write c old.0 ∷ []
    after_write = live_of-changing_same tx.0 (write c) s.live (λ x. refl) ∙ ap (λ (l : List Branch). map (write c) l) old.1

    changes : putting c slot.branch.changes ≡ normal (old.0.own ++ c ∷ [])
    changes = ap (putting c) old.3 ∙ sym (normal-more old.0.own c)

    fits : VoteFits slot.vote (written c slot) (write c old.0 ∷ []) []
    fits = subst (λ (v : Option Number). VoteFits v (written c slot) (write c old.0 ∷ []) []) (sym live) (write c old.0, refl, refl, changes)

    first : first_locks (live_of tx.0 s.live) (doubts_of tx.0 (now s).doubts) ≡ old.0.locks
    first = ap (λ (l : List Branch). first_locks l (doubts_of tx.0 (now s).doubts)) old.1

    mine : TxFits (Some (written c slot)) (write c old.0 ∷ []) [] (held_at locks tx)
    mine = record {
      slot_fits = fits;
      locks = λ q. (st.each tx.0).locks q ∙ ap (λ ls. mode_at ls q) first;
      ordered = subst (λ ls. Ascends lock_cmp ls) first (st.each tx.0).ordered;
    }

    each : (t : ℕ) → TxFits (slot_at slots' t) (live_of t (changing tx.0 (write c) s.live)) (doubts_of t (now s).doubts) (held_at locks (tx_of t))
    each t =
        by_same tx.0 t
        (λ e. subst (λ (n : ℕ). TxFits (slot_at slots' n) (live_of n (changing tx.0 (write c) s.live)) (doubts_of n (now s).doubts) (held_at locks (tx_of n))) e
        (moved (Some (written c slot)) (slot_at slots' tx.0) (write c old.0 ∷ []) (live_of tx.0 (changing tx.0 (write c) s.live)) [] (doubts_of tx.0 (now s).doubts) (held_at locks tx) (held_at locks (tx_of tx.0))
        (new tx.0 ∙ ap (λ b. if b then option_map (written c) (slot_at slots tx.0) else slot_at slots tx.0) (eq-eqb tx.0 tx.0 refl) ∙ ap (option_map (written c)) here)
        after_write old.2 (λ q. refl) mine))
        (λ n. moved (slot_at slots t) (slot_at slots' t) (live_of t s.live) (live_of t (changing tx.0 (write c) s.live)) (doubts_of t (now s).doubts) (doubts_of t (now s).doubts) (held_at locks (tx_of t)) (held_at locks (tx_of t))
        (new t ∙ ap (λ b. if b then option_map (written c) (slot_at slots t) else slot_at slots t) (ne_eqb tx.0 t n))
        (live_of-changing_other t tx.0 (write c) s.live (λ x. refl) (λ e. n (sym e)))
        refl (λ q. refl) (st.each t))
