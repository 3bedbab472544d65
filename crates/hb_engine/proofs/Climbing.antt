-- A ladder of locks, as effects of the state.
use Rattle.std.proofs.Common.{◌≡◌, ◌≢◌, ℕ, Bool, true, false, not, refl, sym, ◌∙◌, ap, subst, List, [], ◌∷◌, ◌++◌, map, inl, inr, if◌then◌else◌, ◌⊎◌, Option, Some, None}
use Rattle.std.specs.Prelude.{◌&&◌, ◌||◌, IsTrue, IsSomeAnd}
use Rattle.std.specs.Option.{is_some}
use Rattle.std.proofs.lemmas.Bool.{and_parts, true≢false, false≢true}
use Rattle.hb_types.specs.declared.answer.Answer.{Answer}
use Rattle.hb_types.specs.declared.answer.Answer.TheVariants as answer
use Rattle.hb_types.specs.declared.change.Stored.{Stored}
use Rattle.hb_types.specs.declared.lock.Held.{Held}
use Rattle.hb_types.specs.declared.lock.Holder.{Holder}
use Rattle.hb_types.specs.declared.lock.Mode.{Mode}
use Rattle.hb_types.specs.declared.names.Number.{Number}
use Rattle.hb_types.specs.declared.names.Tx.{Tx}
use Rattle.hb_types.specs.declared.places.Path.{Path}
use Rattle.hb_types.specs.declared.request.Request.TheVariants as request
use Rattle.hb_types.specs.Ladders.{ladder}
use Rattle.hb_types.specs.Lists.{Ascends, Each, Has, IsIn}
use Rattle.hb_types.specs.Modes.{compatible, covers}
use Rattle.hb_types.specs.Places.{same_path, ancestors, intention}
use Rattle.hb_types.specs.Put.{normal}
use Rattle.hb_types.proofs.Ascending.{Each-in}
use Rattle.hb_types.proofs.PutLaws.{by_test}
use Rattle.hb_disks.specs.Redo.{Prepared}
use Rattle.hb_disks.specs.LogRules.{Agree, LocksAgree, IsHeld}
use Rattle.hb_locks.specs.Locks.{Locks, blockers, granted as granting_to, held_at, holders_at, lock_cmp, mode_at, mode_of, wanted_of}
use Rattle.hb_locks.specs.Takes.{wanted_at}
use Rattle.hb_locks.proofs.Order.{same_path-eq}
use Rattle.hb_runs.specs.Server.{Branch, SState, now, as_branch, unended, wanted, granting, AllowsLock, IsAlive}
use Rattle.hb_runs.specs.ServerEffects.{granted, grant, changing, happens, Allowed, Steps, after_all}
use Rattle.hb_runs.specs.ServerCauses.{grants, AreHolders}
use Rattle.hb_runs.specs.ServerAnswers.{RightIn}
use Rattle.hb_engine.specs.Climbs.{Grants, Rung, Climbs}
use Rattle.hb_engine.specs.Covers.{is_as_strong}
use Rattle.hb_engine.specs.Fits.{live_of, doubts_of, first_locks, live_in_slot, SlotFits, VoteFits, TxFits, Slots, slot_at, tx_of, Stands}
use Rattle.hb_engine.specs.Turned.{Turned}
use Rattle.hb_engine.specs.declared.slot.Slot.{Slot}
use Rattle.hb_engine.proofs.Branches.{by_same, in_live_of, in_doubts_of, of_live_of, of_doubts_of, the_one, the_live, alive_of, live_of-changing_same, live_of-changing_other, in_has}
use Rattle.hb_engine.proofs.Covering.{held_from, mode_at-in, mode_at-found, same_path-sym}
use Rattle.hb_engine.proofs.Granting.{mode_of-granted_same, mode_of-granted_other, free_mode, in_the_way, blocks_other, own_mode, in_blockers, granting_ascends, granting_other, granting_same, joined_is}
use Rattle.hb_engine.proofs.Effects.{moved}
use Rattle.hb_engine.proofs.Turning.{locks_of_live, ordered_of_live, live_slot, not_live, some_of}

-- ---- the one branch of a transaction

empty_not : {A : Type 0} (x : A) (xs : List A) → xs ≡ [] → IsIn x xs → ⊥
empty_not x xs e i = subst (λ z. IsIn x z) e i

-- a branch of the slot has the slot's locks
pub live_locks : (o : Option Slot) (live : List Branch) (doubts : List Prepared) (b : Branch) → SlotFits o live doubts → IsIn b live → first_locks live doubts ≡ b.locks
live_locks None live doubts b f i = absurd (empty_not b live f.0 i)
live_locks (Some slot) live doubts b f i = by slot.vote f
  where
    by : (v : Option Number) → VoteFits v slot live doubts → first_locks live doubts ≡ b.locks
    by None f =
        let e : b ≡ f.0 = the_one b f.0 (subst (λ (l : List Branch). IsIn b l) f.1 i) in
        ap (λ (l : List Branch). first_locks l doubts) f.1 ∙ ap (λ (x : Branch). x.locks) (sym e)
    by (Some n) f = absurd (empty_not b live f.1 i)

pub doubt_locks : (o : Option Slot) (live : List Branch) (doubts : List Prepared) (p : Prepared) → SlotFits o live doubts → IsIn p doubts → first_locks live doubts ≡ p.locks
doubt_locks None live doubts p f i = absurd (empty_not p doubts f.1 i)
doubt_locks (Some slot) live doubts p f i = by slot.vote f
  where
    by : (v : Option Number) → VoteFits v slot live doubts → first_locks live doubts ≡ p.locks
    by None f = absurd (empty_not p doubts f.2 i)
    by (Some n) f =
        let e : p ≡ f.0 = the_one p f.0 (subst (λ (l : List Prepared). IsIn p l) f.2 i) in
        ap (λ (l : List Branch). first_locks l doubts) f.1 ∙ ap (λ (l : List Prepared). first_locks [] l) f.2 ∙ ap (λ (x : Prepared). x.locks) (sym e)

in_parts : (b : Branch) (bs : List Branch) (ps : List Prepared) → IsIn b (bs ++ map as_branch ps) → IsIn b bs ⊎ ((p : Prepared) × IsIn p ps × (as_branch p ≡ b))
in_parts b [] [] i = absurd i
in_parts b [] (p ∷ ps) (inl e) = inr (p, inl refl, e)
in_parts b [] (p ∷ ps) (inr k) = go (in_parts b [] ps k)
  where
    go : IsIn b [] ⊎ ((q : Prepared) × IsIn q ps × (as_branch q ≡ b)) → IsIn b [] ⊎ ((q : Prepared) × IsIn q (p ∷ ps) × (as_branch q ≡ b))
    go (inl x) = inl x
    go (inr r) = inr (r.0, inr r.1, r.2)
in_parts b (c ∷ cs) ps (inl e) = inl (inl e)
in_parts b (c ∷ cs) ps (inr k) = go (in_parts b cs ps k)
  where
    go : IsIn b cs ⊎ ((q : Prepared) × IsIn q ps × (as_branch q ≡ b)) → IsIn b (c ∷ cs) ⊎ ((q : Prepared) × IsIn q ps × (as_branch q ≡ b))
    go (inl x) = inl (inr x)
    go (inr r) = inr r

live_in : (b : Branch) (bs : List Branch) (ps : List Prepared) → IsIn b bs → IsIn b (bs ++ map as_branch ps)
live_in b [] ps i = absurd i
live_in b (c ∷ cs) ps (inl e) = inl e
live_in b (c ∷ cs) ps (inr k) = inr (live_in b cs ps k)

doubt_in : (p : Prepared) (bs : List Branch) (ps : List Prepared) → IsIn p ps → IsIn (as_branch p) (bs ++ map as_branch ps)
doubt_in p [] [] i = absurd i
doubt_in p [] (q ∷ qs) (inl e) = inl (ap as_branch e)
doubt_in p [] (q ∷ qs) (inr k) = inr (doubt_in p [] qs k)
doubt_in p (c ∷ cs) ps i = inr (doubt_in p cs ps i)

-- an unended branch has the locks that the table has for its transaction
pub unended_locks : (slots : Slots) (locks : Locks) (floor : Number) (rows : List Stored) (s : SState) (b : Branch) → Stands slots locks floor rows s → IsIn b (unended s)
    → first_locks (live_of b.tx s.live) (doubts_of b.tx (now s).doubts) ≡ b.locks
unended_locks slots locks floor rows s b st i = by (in_parts b s.live (now s).doubts i)
  where
    by : IsIn b s.live ⊎ ((p : Prepared) × IsIn p (now s).doubts × (as_branch p ≡ b)) → first_locks (live_of b.tx s.live) (doubts_of b.tx (now s).doubts) ≡ b.locks
    by (inl k) = live_locks (slot_at slots b.tx) (live_of b.tx s.live) (doubts_of b.tx (now s).doubts) b (st.each b.tx).slot_fits (in_live_of b.tx b s.live k refl)
    by (inr r) =
        doubt_locks (slot_at slots b.tx) (live_of b.tx s.live) (doubts_of b.tx (now s).doubts) r.0 (st.each b.tx).slot_fits
        (in_doubts_of b.tx r.0 (now s).doubts r.1 (ap (λ (x : Branch). x.tx) r.2)) ∙ ap (λ (x : Branch). x.locks) r.2

pub held_of_unended : (slots : Slots) (locks : Locks) (floor : Number) (rows : List Stored) (s : SState) (b : Branch) → Stands slots locks floor rows s → IsIn b (unended s)
    → (q : Path) → held_at locks (tx_of b.tx) q ≡ mode_at b.locks q
held_of_unended slots locks floor rows s b st i q = (st.each b.tx).locks q ∙ ap (λ ls. mode_at ls q) (unended_locks slots locks floor rows s b st i)

pub ordered_unended : (slots : Slots) (locks : Locks) (floor : Number) (rows : List Stored) (s : SState) (b : Branch) → Stands slots locks floor rows s → IsIn b (unended s) → Ascends lock_cmp b.locks
ordered_unended slots locks floor rows s b st i = subst (λ ls. Ascends lock_cmp ls) (unended_locks slots locks floor rows s b st i) (st.each b.tx).ordered

-- who holds a path has a branch with that lock
pub record HasBranch (s : SState) (t : ℕ) (q : Path) (m : Mode) : Type 0 where
  pub branch : Branch
  pub within : IsIn branch (unended s)
  pub of_tx : branch.tx ≡ t
  pub lock : Held
  pub is_lock : IsIn lock branch.locks
  pub there : same_path q lock.path ≡ true
  pub of_mode : lock.mode ≡ m

none_some : (m : Mode) → ◌≡◌ {A = Option Mode} None (Some m) → ⊥
none_some m e = cc

pub holder_branch : (slots : Slots) (locks : Locks) (floor : Number) (rows : List Stored) (s : SState) (t : ℕ) (q : Path) (m : Mode) → Stands slots locks floor rows s
    → held_at locks (tx_of t) q ≡ Some m → HasBranch s t q m
holder_branch slots locks floor rows s t q m st e = by (live_of t s.live) refl (doubts_of t (now s).doubts) refl (sym ((st.each t).locks q) ∙ e)
  where
    by : (live : List Branch) → live_of t s.live ≡ live → (doubts : List Prepared) → doubts_of t (now s).doubts ≡ doubts
        → mode_at (first_locks (live_of t s.live) (doubts_of t (now s).doubts)) q ≡ Some m → HasBranch s t q m
    by (b ∷ bs) f ds g h =
        let i = of_live_of t b s.live (subst (λ (l : List Branch). IsIn b l) (sym f) (inl refl)) in
        let r = mode_at-found q m b.locks (sym (ap (λ (l : List Branch). mode_at (first_locks l (doubts_of t (now s).doubts)) q) f) ∙ h) in
        record { branch = b; within = live_in b s.live (now s).doubts i.0; of_tx = i.1; lock = r.lock; is_lock = r.within; there = r.there; of_mode = r.of_mode }
    by [] f (p ∷ ps) g h =
        let i = of_doubts_of t p (now s).doubts (subst (λ (l : List Prepared). IsIn p l) (sym g) (inl refl)) in
        let r = mode_at-found q m p.locks (sym (ap (λ (l : List Branch). mode_at (first_locks l (doubts_of t (now s).doubts)) q) f ∙ ap (λ (d : List Prepared). mode_at (first_locks [] d) q) g) ∙ h) in
        record { branch = as_branch p; within = doubt_in p s.live (now s).doubts i.0; of_tx = i.1; lock = r.lock; is_lock = r.within; there = r.there; of_mode = r.of_mode }
    by [] f [] g h =
        absurd (none_some m (sym (ap (λ (l : List Branch). mode_at (first_locks l (doubts_of t (now s).doubts)) q) f ∙ ap (λ (d : List Prepared). mode_at (first_locks [] d) q) g) ∙ h))

-- ---- a lock that nobody stands in the way of

pub allows : (slots : Slots) (locks : Locks) (floor : Number) (rows : List Stored) (s : SState) (tx : Tx) (p : Path) (w : Mode) → Stands slots locks floor rows s
    → blockers tx w (holders_at locks p) ≡ [] → AllowsLock s tx.0 (record { path = p; mode = w })
allows slots locks floor rows s tx p w st free = Each-in _ (unended s) each
  where
    each : (b : Branch) → IsIn b (unended s) → b.tx ≢ tx.0 → LocksAgree b.locks (record { path = p; mode = w } ∷ [])
    each b i n = Each-in _ b.locks agree
      where
        agree : (l : Held) → IsIn l b.locks → Each (Agree l) (record { path = p; mode = w } ∷ [])
        agree l k = (
          by_test (same_path l.path p)
              (λ t. let held : held_at locks (tx_of b.tx) p ≡ Some l.mode =
              held_of_unended slots locks floor rows s b st i p ∙ mode_at-in p l b.locks (ordered_unended slots locks floor rows s b st i) k (same_path-sym l.path p t) in
              ap (λ z. not z || compatible l.mode w) t ∙ free_mode tx (tx_of b.tx) w l.mode (holders_at locks p) free held n)
              (λ f. ap (λ z. not z || compatible l.mode w) f),
          tt,
        )

-- ---- and one that others do

pub holders_are : (slots : Slots) (locks : Locks) (floor : Number) (rows : List Stored) (s : SState) (tx : Tx) (p : Path) (w : Mode) (holders : List Holder) → Stands slots locks floor rows s
    → holders ≡ blockers tx w (holders_at locks p) → holders ≢ [] → AreHolders s tx.0 (record { path = p; mode = w }) holders
holders_are slots locks floor rows s tx p w holders st e some =
    record { some = some; each = Each-in _ holders each; all = Each-in _ (unended s) all }
  where
    each : (o : Holder) → IsIn o holders → Has (λ b. (b.tx ≡ o.tx.0) × (b.tx ≢ tx.0) × Has (λ l. IsTrue (same_path l.path p) × (l.mode ≡ o.mode)) b.locks) (unended s)
    each o i =
        let k = in_blockers tx w (holders_at locks p) o (subst (λ (l : List Holder). IsIn o l) e i) in
        let h = holder_branch slots locks floor rows s o.tx.0 p o.mode st (own_mode (holders_at locks p) (st.compatible p) o k.0) in
        in_has (λ (b : Branch). (b.tx ≡ o.tx.0) × (b.tx ≢ tx.0) × Has (λ l. IsTrue (same_path l.path p) × (l.mode ≡ o.mode)) b.locks) h.branch (unended s) h.within (
          h.of_tx,
          (λ q. blocks_other tx w o k.1 (sym h.of_tx ∙ q)),
          in_has (λ (l : Held). IsTrue (same_path l.path p) × (l.mode ≡ o.mode)) h.lock h.branch.locks h.is_lock (same_path-sym p h.lock.path h.there, h.of_mode),
        )

    all : (b : Branch) → IsIn b (unended s) → b.tx ≢ tx.0 → Each (λ l. IsTrue (same_path l.path p && not (compatible w l.mode)) → Has (λ o. (o.tx.0 ≡ b.tx) × (o.mode ≡ l.mode)) holders) b.locks
    all b i n = Each-in _ b.locks lock
      where
        lock : (l : Held) → IsIn l b.locks → IsTrue (same_path l.path p && not (compatible w l.mode)) → Has (λ o. (o.tx.0 ≡ b.tx) × (o.mode ≡ l.mode)) holders
        lock l k t =
            let parts = and_parts (same_path l.path p) (not (compatible w l.mode)) t in
            let held : held_at locks (tx_of b.tx) p ≡ Some l.mode =
            held_of_unended slots locks floor rows s b st i p ∙ mode_at-in p l b.locks (ordered_unended slots locks floor rows s b st i) k (same_path-sym l.path p parts.0) in
            let r = in_the_way tx (tx_of b.tx) w l.mode (holders_at locks p) held n (flip (compatible w l.mode) parts.1) in
            in_has (λ (o : Holder). (o.tx.0 ≡ b.tx) × (o.mode ≡ l.mode)) r.holder holders (subst (λ (l : List Holder). IsIn r.holder l) (sym e) r.within) (r.of_tx, r.of_mode)
          where
            flip : (c : Bool) → not c ≡ true → c ≡ false
            flip true e = absurd (false≢true e)
            flip false e = refl

-- ---- a grant

slot_grants : (o : Option Slot) (p : Path) (m : Mode) (b : Branch) (live : List Branch) (doubts : List Prepared) → live ≡ b ∷ [] → SlotFits o live doubts → SlotFits o (grant p m b ∷ []) []
slot_grants None p m b live doubts e f = absurd (empty_not b live f.0 (subst (λ (l : List Branch). IsIn b l) (sym e) (inl refl)))
slot_grants (Some slot) p m b live doubts e f = by slot.vote f
  where
    by : (v : Option Number) → VoteFits v slot live doubts → VoteFits v slot (grant p m b ∷ []) []
    by None f =
        let same : b ≡ f.0 = the_one b f.0 (subst (λ (l : List Branch). IsIn b l) f.1 (subst (λ (l : List Branch). IsIn b l) (sym e) (inl refl))) in
        (grant p m b, refl, refl, f.3 ∙ ap (λ (x : Branch). normal x.own) (sym same))
    by (Some n) f = absurd (empty_not b live f.1 (subst (λ (l : List Branch). IsIn b l) (sym e) (inl refl)))

doubts_none : (o : Option Slot) (b : Branch) (live : List Branch) (doubts : List Prepared) → live ≡ b ∷ [] → SlotFits o live doubts → doubts ≡ []
doubts_none None b live doubts e f = f.1
doubts_none (Some slot) b live doubts e f = by slot.vote f
  where
    by : (v : Option Number) → VoteFits v slot live doubts → doubts ≡ []
    by None f = f.2
    by (Some n) f = absurd (empty_not b live f.1 (subst (λ (l : List Branch). IsIn b l) (sym e) (inl refl)))

pub grant_stands : (slots : Slots) (old new : Locks) (floor : Number) (rows : List Stored) (s : SState) (tx : Tx) (h : Held) (b : Branch) → Stands slots old floor rows s
    → live_of tx.0 s.live ≡ b ∷ [] → Grants tx h old new → Stands slots new floor rows (happens s (granted tx.0 h.path h.mode))
grant_stands slots old new floor rows s tx h b st alive g =
    record { up = st.up; rows_are = st.rows_are; ascending = st.ascending; floor_is = st.floor_is; each = each; compatible = g.compatible }
  where
    p : Path
    p = h.path

    w : Mode
    w = wanted_at old tx h.path h.mode

    ordered : Ascends lock_cmp b.locks
    ordered = ordered_of_live slots old floor rows s tx b st alive

    held : (q : Path) → held_at old tx q ≡ mode_at b.locks q
    held = locks_of_live slots old floor rows s tx b st alive

    after : live_of tx.0 (changing tx.0 (grant h.path h.mode) s.live) ≡ grant h.path h.mode b ∷ []
    after = live_of-changing_same tx.0 (grant h.path h.mode) s.live (λ x. refl) ∙ ap (λ (l : List Branch). map (grant h.path h.mode) l) alive

    -- what the new table has on a path
    there : (t : Tx) (q : Path) → same_path h.path q ≡ true → held_at new t q ≡ mode_of t (granting_to tx (wanted_at old tx h.path h.mode) (holders_at old h.path))
    there t q e = ap (mode_of t) (g.changes q ∙ ap (λ z. if z then granting_to tx (wanted_at old tx h.path h.mode) (holders_at old h.path) else holders_at old q) e)

    elsewhere : (t : Tx) (q : Path) → same_path h.path q ≡ false → held_at new t q ≡ held_at old t q
    elsewhere t q e = ap (mode_of t) (g.changes q ∙ ap (λ z. if z then granting_to tx (wanted_at old tx h.path h.mode) (holders_at old h.path) else holders_at old q) e)

    mine : (q : Path) → held_at new tx q ≡ mode_at (granting h.path h.mode b.locks) q
    mine q =
        by_test (same_path h.path q)
        (λ e. there tx q e ∙ mode_of-granted_same tx (wanted_at old tx h.path h.mode) (holders_at old h.path)
        ∙ ap (λ o. Some (wanted_of o h.mode)) (held h.path) ∙ ap (λ m. Some m) (sym (joined_is h.path h.mode b.locks ordered))
        ∙ sym (granting_same q h.path h.mode b.locks (same_path-sym h.path q e)))
        (λ e. elsewhere tx q e ∙ held q ∙ sym (granting_other q h.path h.mode b.locks (flip q e)))
      where
        flip : (q : Path) → same_path h.path q ≡ false → same_path q h.path ≡ false
        flip q e = by_test (same_path q h.path) (λ t. absurd (true≢false (sym (same_path-sym q h.path t) ∙ e))) (λ f. f)

    others : (t : Tx) (q : Path) → t.0 ≢ tx.0 → held_at new t q ≡ held_at old t q
    others t q n =
        by_test (same_path h.path q)
        (λ e. there t q e ∙ mode_of-granted_other t tx (wanted_at old tx h.path h.mode) (holders_at old h.path) n ∙ ap (λ z. held_at old t z) (same_path-eq h.path q e))
        (λ e. elsewhere t q e)

    own : TxFits (slot_at slots tx.0) (grant h.path h.mode b ∷ []) [] (held_at new tx)
    own = record {
      slot_fits = slot_grants (slot_at slots tx.0) h.path h.mode b (live_of tx.0 s.live) (doubts_of tx.0 (now s).doubts) alive (st.each tx.0).slot_fits;
      locks = mine;
      ordered = granting_ascends h.path h.mode b.locks ordered;
    }

    each : (t : ℕ) → TxFits (slot_at slots t) (live_of t (changing tx.0 (grant h.path h.mode) s.live)) (doubts_of t (now s).doubts) (held_at new (tx_of t))
    each t =
        by_same tx.0 t
        (λ e. subst (λ (n : ℕ). TxFits (slot_at slots n) (live_of n (changing tx.0 (grant h.path h.mode) s.live)) (doubts_of n (now s).doubts) (held_at new (tx_of n))) e
        (moved (slot_at slots tx.0) (slot_at slots tx.0) (grant h.path h.mode b ∷ []) (live_of tx.0 (changing tx.0 (grant h.path h.mode) s.live)) [] (doubts_of tx.0 (now s).doubts) (held_at new tx) (held_at new (tx_of tx.0))
        refl after (doubts_none (slot_at slots tx.0) b (live_of tx.0 s.live) (doubts_of tx.0 (now s).doubts) alive (st.each tx.0).slot_fits) (λ q. refl) own))
        (λ n. moved (slot_at slots t) (slot_at slots t) (live_of t s.live) (live_of t (changing tx.0 (grant h.path h.mode) s.live)) (doubts_of t (now s).doubts) (doubts_of t (now s).doubts) (held_at old (tx_of t)) (held_at new (tx_of t))
        refl (live_of-changing_other t tx.0 (grant h.path h.mode) s.live (λ x. refl) (λ e. n (sym e))) refl (λ q. others (tx_of t) q (λ e. n (sym e))) (st.each t))

-- it is allowed
ancestors_held : (locks : Locks) (tx : Tx) (m : Mode) (ls : List Held) (ps : List Path) → ((q : Path) → held_at locks tx q ≡ mode_at ls q)
    → Each (λ above. IsSomeAnd (held_at locks tx above) (λ held. covers held (intention m) ≡ true)) ps → Each (IsHeld ls (intention m)) ps
ancestors_held locks tx m ls [] same e = tt
ancestors_held locks tx m ls (p ∷ ps) same e = (held_from p (intention m) ls (strong (held_at locks tx p) (same p) e.0), ancestors_held locks tx m ls ps same e.1)
  where
    strong : (o : Option Mode) → o ≡ mode_at ls p → IsSomeAnd o (λ held. covers held (intention m) ≡ true) → is_as_strong (intention m) (mode_at ls p) ≡ true
    strong None q h = absurd h
    strong (Some x) q h = sym (ap (is_as_strong (intention m)) q) ∙ h

pub grant_allowed : (slots : Slots) (old new : Locks) (floor : Number) (rows : List Stored) (s : SState) (tx : Tx) (h : Held) (b : Branch) → Stands slots old floor rows s
    → live_of tx.0 s.live ≡ b ∷ [] → Grants tx h old new → Allowed s (granted tx.0 h.path h.mode)
grant_allowed slots old new floor rows s tx h b st alive g =
    let held = locks_of_live slots old floor rows s tx b st alive in
    let same : wanted_at old tx h.path h.mode ≡ (wanted h.path h.mode b.locks).mode =
    ap (λ o. wanted_of o h.mode) (held h.path) ∙ sym (joined_is h.path h.mode b.locks (ordered_of_live slots old floor rows s tx b st alive)) in (
      b,
      the_live s tx.0 b alive,
      ancestors_held old tx h.mode b.locks (ancestors h.path) held g.ancestors,
      subst (λ (m : Mode). AllowsLock s tx.0 (record { path = h.path; mode = m })) same (allows slots old floor rows s tx h.path (wanted_at old tx h.path h.mode) st g.free),
    )

-- ---- a ladder

abbrev pub Halted : SState → Tx → Branch → List Held → Answer → Type 0
Halted t tx b back answer.Done = back ≡ []
Halted t tx b back (answer.Blocked p w holders) =
    (rung : Held) × (rest : List Held) × (back ≡ rung ∷ rest) × (wanted rung.path rung.mode b.locks ≡ record { path = p; mode = w }) × AreHolders t tx.0 (record { path = p; mode = w }) holders
Halted t tx b back answer.NoMemory = Unit {0}
Halted t tx b back _ = ⊥

pub record Climbed (slots : Slots) (new : Locks) (floor : Number) (rows : List Stored) (s : SState) (tx : Tx) (hs : List Held) (a : Answer) : Type 0 where
  pub front : List Held
  pub back : List Held
  pub parts : hs ≡ front ++ back
  pub steps : Steps s (grants tx.0 front) (after_all s (grants tx.0 front))
  pub at : Stands slots new floor rows (after_all s (grants tx.0 front))
  pub branch : Branch
  pub alive : live_of tx.0 (after_all s (grants tx.0 front)).live ≡ branch ∷ []
  pub halted : Halted (after_all s (grants tx.0 front)) tx branch back a

halts : (slots : Slots) (old new : Locks) (floor : Number) (rows : List Stored) (s : SState) (tx : Tx) (h : Held) (hs : List Held) (a : Answer) (b : Branch) → Stands slots old floor rows s
    → live_of tx.0 s.live ≡ b ∷ [] → a ≢ answer.Done → Rung tx h old new a → Climbed slots new floor rows s tx (h ∷ hs) a
halts slots old new floor rows s tx h hs answer.Done b st alive n r = absurd (n refl)
halts slots old new floor rows s tx h hs (answer.Blocked p w holders) b st alive n r =
    let held = locks_of_live slots old floor rows s tx b st alive in
    let same : (wanted h.path h.mode b.locks).mode ≡ w =
    sym (ap (λ o. wanted_of o h.mode) (held h.path) ∙ sym (joined_is h.path h.mode b.locks (ordered_of_live slots old floor rows s tx b st alive))) ∙ sym r.1 in
    let them : holders ≡ blockers tx w (holders_at old p) = r.2 ∙ ap (λ q. blockers tx w (holders_at old q)) (sym r.0) in
    record {
      front = [];
      back = h ∷ hs;
      parts = refl;
      steps = refl;
      at = subst (λ (l : Locks). Stands slots l floor rows s) (sym r.4) st;
      branch = b;
      alive = alive;
      halted = (h, hs, refl, (λ i. record { path = sym r.0 i; mode = same i }), holders_are slots old floor rows s tx p w holders st them r.3);
    }
halts slots old new floor rows s tx h hs answer.NoMemory b st alive n r =
    record { front = []; back = h ∷ hs; parts = refl; steps = refl; at = subst (λ (l : Locks). Stands slots l floor rows s) (sym r) st; branch = b; alive = alive; halted = tt }
halts slots old new floor rows s tx h hs _ b st alive n r = absurd r

pub climbed : (slots : Slots) (old new : Locks) (floor : Number) (rows : List Stored) (s : SState) (tx : Tx) (hs : List Held) (a : Answer) (b : Branch) → Stands slots old floor rows s
    → live_of tx.0 s.live ≡ b ∷ [] → Climbs tx old new hs a → Climbed slots new floor rows s tx hs a
climbed slots old new floor rows s tx [] a b st alive c =
    record {
      front = [];
      back = [];
      parts = refl;
      steps = refl;
      at = subst (λ (l : Locks). Stands slots l floor rows s) (sym c.1) st;
      branch = b;
      alive = alive;
      halted = subst (λ (a : Answer). Halted s tx b [] a) (sym c.0) refl;
    }
climbed slots old new floor rows s tx (h ∷ hs) a b st alive (inl c) =
    let g : Grants tx h old c.0 = c.1 in
    let s1 : SState = happens s (granted tx.0 h.path h.mode) in
    let st1 : Stands slots c.0 floor rows s1 = grant_stands slots old c.0 floor rows s tx h b st alive g in
    let alive1 : live_of tx.0 s1.live ≡ grant h.path h.mode b ∷ [] =
    live_of-changing_same tx.0 (grant h.path h.mode) s.live (λ x. refl) ∙ ap (λ (l : List Branch). map (grant h.path h.mode) l) alive in
    let r : Climbed slots new floor rows s1 tx hs a = climbed slots c.0 new floor rows s1 tx hs a (grant h.path h.mode b) st1 alive1 c.2 in
    record {
      front = h ∷ r.front;
      back = r.back;
      parts = ap (λ z. h ∷ z) r.parts;
      steps = (grant_allowed slots old c.0 floor rows s tx h b st alive g, r.steps);
      at = r.at;
      branch = r.branch;
      alive = r.alive;
      halted = r.halted;
    }
climbed slots old new floor rows s tx (h ∷ hs) a b st alive (inr c) = halts slots old new floor rows s tx h hs a b st alive c.0 c.1

-- ---- the request

append_none : {A : Type 0} (xs : List A) → xs ++ [] ≡ xs
append_none [] = refl
append_none (x ∷ xs) = ap (λ z. x ∷ z) (append_none xs)

lock_turn : (slots : Slots) (new : Locks) (floor : Number) (rows : List Stored) (s : SState) (tx : Tx) (p : Path) (m : Mode) (a : Answer) → s.up ≡ true → IsAlive s tx.0
    → Climbed slots new floor rows s tx (ladder p m) a → Turned s (request.Lock tx p m) a (λ t. Stands slots new floor rows t)
lock_turn slots new floor rows s tx p m answer.Done up alive c =
    record {
      state = after_all s (grants tx.0 c.front);
      turn = record {
        effects = grants tx.0 c.front;
        causes = ap (grants tx.0) (sym (append_none c.front) ∙ ap (λ (z : List Held). c.front ++ z) (sym c.halted) ∙ sym c.parts);
        right = subst (λ (b : Bool). RightIn b s (request.Lock tx p m) answer.Done) (sym up) alive;
        steps = c.steps;
      };
      at = c.at;
    }
lock_turn slots new floor rows s tx p m (answer.Blocked q w holders) up alive c =
    record {
      state = after_all s (grants tx.0 c.front);
      turn = record {
        effects = grants tx.0 c.front;
        causes = record {
          front = c.front;
          rung = c.halted.0;
          back = c.halted.1;
          branch = c.branch;
          parts = c.parts ∙ ap (λ (z : List Held). c.front ++ z) c.halted.2;
          effects = refl;
          live = the_live (after_all s (grants tx.0 c.front)) tx.0 c.branch c.alive;
          told = c.halted.3;
          in_the_way = c.halted.4;
        };
        right = subst (λ (b : Bool). RightIn b s (request.Lock tx p m) (answer.Blocked q w holders)) (sym up) alive;
        steps = c.steps;
      };
      at = c.at;
    }
lock_turn slots new floor rows s tx p m answer.NoMemory up alive c =
    record {
      state = after_all s (grants tx.0 c.front);
      turn = record {
        effects = grants tx.0 c.front;
        causes = (c.front, c.back, c.parts, refl);
        right = subst (λ (b : Bool). RightIn b s (request.Lock tx p m) answer.NoMemory) (sym up) refl;
        steps = c.steps;
      };
      at = c.at;
    }
lock_turn slots new floor rows s tx p m _ up alive c = absurd c.halted

pub lock_leads : (slots : Slots) (old new : Locks) (floor : Number) (rows : List Stored) (s : SState) (tx : Tx) (p : Path) (m : Mode) (a : Answer) → Stands slots old floor rows s
    → is_some (live_in_slot (slot_at slots tx.0)) ≡ true → Climbs tx old new (ladder p m) a → Turned s (request.Lock tx p m) a (λ t. Stands slots new floor rows t)
lock_leads slots old new floor rows s tx p m a st live c =
    let o = some_of (live_in_slot (slot_at slots tx.0)) live in
    let f = live_slot slots old floor rows s tx.0 o.0 st o.1 in
    lock_turn slots new floor rows s tx p m a st.up (alive_of s tx.0 f.branch (the_live s tx.0 f.branch f.alive)) (climbed slots old new floor rows s tx (ladder p m) a f.branch st f.alive c)

pub lock_no_branch : (slots : Slots) (locks : Locks) (floor : Number) (rows : List Stored) (s : SState) (tx : Tx) (p : Path) (m : Mode) → Stands slots locks floor rows s
    → live_in_slot (slot_at slots tx.0) ≡ None → Turned s (request.Lock tx p m) answer.NoBranch (λ t. Stands slots locks floor rows t)
lock_no_branch slots locks floor rows s tx p m st e =
    record {
      state = s;
      turn = record {
        effects = [];
        causes = refl;
        right = subst (λ (b : Bool). RightIn b s (request.Lock tx p m) answer.NoBranch) (sym st.up) (not_live slots locks floor rows s tx.0 st e);
        steps = refl;
      };
      at = st;
    }
