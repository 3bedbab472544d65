-- A branch in doubt that is put back: whether it fits, and what the engine stands for then.
use Rattle.std.proofs.Common.{◌≡◌, ◌≢◌, ℕ, Bool, true, false, not, refl, sym, ◌∙◌, ap, subst, List, [], ◌∷◌, ◌++◌, map, max, inl, inr, if◌then◌else◌, ◌⊎◌, Option, Some, None}
use Rattle.std.specs.Prelude.{◌&&◌, ◌||◌, ◌==◌, IsTrue}
use Rattle.std.specs.List.{list_all}
use Rattle.std.proofs.lemmas.Bool.{and_parts, and_from, true≢false, false≢true, eq-eqb, ne_eqb}
use Rattle.hb_types.specs.declared.change.Change.{Change}
use Rattle.hb_types.specs.declared.change.Stored.{Stored}
use Rattle.hb_types.specs.declared.lock.Held.{Held}
use Rattle.hb_types.specs.declared.lock.Holder.{Holder}
use Rattle.hb_types.specs.declared.lock.Mode.{Mode}
use Rattle.hb_types.specs.declared.lock.Mode.TheVariants as mode
use Rattle.hb_types.specs.declared.names.Number.{Number}
use Rattle.hb_types.specs.declared.names.Tx.{Tx}
use Rattle.hb_types.specs.declared.places.Path.{Path}
use Rattle.hb_types.specs.declared.places.Path.TheVariants.{Whole, Group, Key}
use Rattle.hb_types.specs.declared.places.Place.{Place}
use Rattle.hb_types.specs.Ladders.{upward}
use Rattle.hb_types.specs.Lists.{Ascends, Each, Has, IsIn}
use Rattle.hb_types.specs.Modes.{compatible, covers}
use Rattle.hb_types.specs.Places.{same_path, is_under}
use Rattle.hb_types.proofs.Ascending.{Each-in, Each-of, Has-of, in_Each}
use Rattle.hb_types.proofs.PutLaws.{by_test}
use Rattle.hb_types.proofs.SamePlace.{same_place-refl, same_space-refl}
use Rattle.hb_disks.specs.LogRules.{Agree, LocksAgree, IsHeld, Covers, AreCovered, BranchFits}
use Rattle.hb_disks.specs.Redo.{Prepared, Redone}
use Rattle.hb_locks.specs.Locks.{Locks, blockers, held_at, holders_at, lock_cmp, mode_at, is_of}
use Rattle.hb_locks.proofs.Order.{same_path-eq}
use Rattle.hb_runs.specs.Server.{Branch, SState, now, as_branch, AllowsLock}
use Rattle.hb_laws.specs.RowOrder.{AreAscending}
use Rattle.hb_engine.specs.Covers.{is_covered, is_covered_at}
use Rattle.hb_engine.specs.Fits.{live_of, doubts_of, TxFits, VoteFits, Slots, slot_at, tx_of, Stands}
use Rattle.hb_engine.specs.Restores.{IsUpWith, Restores, Taken, TakesAll, with_doubt}
use Rattle.hb_engine.specs.declared.engine.Engine.{Engine}
use Rattle.hb_engine.specs.declared.slot.Slot.{Slot}
use Rattle.hb_engine.proofs.Branches.{by_same, in_doubts_of, doubts_of-more, doubt_in, doubt_out, append_none, has_in, in_has}
use Rattle.hb_engine.proofs.Climbing.{allows, holder_branch}
use Rattle.hb_engine.proofs.Covering.{any_held, none_held, same_path-sym}
use Rattle.hb_engine.proofs.Effects.{moved}
use Rattle.hb_engine.proofs.Granting.{in_blockers, blocks_other, own_mode}

-- ---- a server that came up

abbrev pub risen : Redone → SState
risen r = record { base = r; place = 0; log = []; live = []; up = true }

-- all states that came up with the same are alike
pub alike : (slots : Slots) (locks : Locks) (floor : Number) (rows : List Stored) (r : Redone) (s t : SState) → IsUpWith r s → IsUpWith r t → Stands slots locks floor rows s → Stands slots locks floor rows t
alike slots locks floor rows r s t f g st =
    let same : (now t) ≡ (now s) = g.now_is ∙ sym f.now_is in
    record {
      up = g.up;
      rows_are = st.rows_are ∙ sym (ap (λ (x : Redone). x.rows) same);
      ascending = st.ascending;
      floor_is = st.floor_is ∙ sym (ap (λ (x : Redone). x.floor) same);
      each = λ n. moved (slot_at slots n) (slot_at slots n) (live_of n s.live) (live_of n t.live) (doubts_of n (now s).doubts) (doubts_of n (now t).doubts) (held_at locks (tx_of n)) (held_at locks (tx_of n))
          refl (ap (live_of n) (g.no_live ∙ sym f.no_live)) (ap (λ (x : Redone). doubts_of n x.doubts) same) (λ q. refl) (st.each n);
      compatible = st.compatible;
    }

-- ---- what lies under the locks

under_of : (q a : Path) (place : Place) → same_path q a ≡ true → is_under a place ≡ true → is_under q place ≡ true
under_of q a place t u = ap (λ z. is_under z place) (same_path-eq q a t) ∙ u

covering : (ls : List Held) (m : Mode) (a : Path) (place : Place) → is_under a place ≡ true → IsHeld ls m a → Covers ls m place
covering ls m a place u held = Has-of (λ l. IsTrue (same_path l.path a && covers l.mode m)) (λ l. IsTrue (covers l.mode m && is_under l.path place)) ls step held
  where
    step : (l : Held) → IsTrue (same_path l.path a && covers l.mode m) → IsTrue (covers l.mode m && is_under l.path place)
    step l t =
        let parts = and_parts (same_path l.path a) (covers l.mode m) t in
        and_from (covers l.mode m) (is_under l.path place) parts.1 (under_of l.path a place parts.0 u)

to_covers : (ls : List Held) (m : Mode) (place : Place) → Has (λ p. IsHeld ls m p) (upward (Key place)) → Covers ls m place
to_covers ls m place (inl h) = covering ls m (Key place) place (same_place-refl place) h
to_covers ls m place (inr (inl h)) = covering ls m (Whole place.space) place (same_space-refl place.space) h
to_covers ls m place (inr (inr (inl h))) = covering ls m (Group place.space place.group) place (and_from _ (place.group == place.group) (same_space-refl place.space) (eq-eqb place.group place.group refl)) h
to_covers ls m place (inr (inr (inr h))) = absurd h

of_covers : (ls : List Held) (m : Mode) (place : Place) → Covers ls m place → Has (λ p. IsHeld ls m p) (upward (Key place))
of_covers ls m place h = by r.0.path refl parts.1
  where
    r : (l : Held) × IsIn l ls × IsTrue (covers l.mode m && is_under l.path place)
    r = has_in (λ l. IsTrue (covers l.mode m && is_under l.path place)) ls h

    parts : (covers r.0.mode m ≡ true) × (is_under r.0.path place ≡ true)
    parts = and_parts (covers r.0.mode m) (is_under r.0.path place) r.2

    held : (a : Path) → same_path r.0.path a ≡ true → IsHeld ls m a
    held a t = in_has (λ l. IsTrue (same_path l.path a && covers l.mode m)) r.0 ls r.1 (and_from (same_path r.0.path a) (covers r.0.mode m) t parts.0)

    by : (q : Path) → r.0.path ≡ q → is_under r.0.path place ≡ true → Has (λ p. IsHeld ls m p) (upward (Key place))
    by (Key k) e u = inl (held (Key place) (ap (λ z. same_path z (Key place)) e ∙ sym (ap (λ z. is_under z place) e) ∙ u))
    by (Whole s) e u = inr (inl (held (Whole place.space) (ap (λ z. same_path z (Whole place.space)) e ∙ sym (ap (λ z. is_under z place) e) ∙ u)))
    by (Group s g) e u = inr (inr (inl (held (Group place.space place.group) (ap (λ z. same_path z (Group place.space place.group)) e ∙ sym (ap (λ z. is_under z place) e) ∙ u))))

pub are_covered : (locks : Locks) (tx : Tx) (ls : List Held) (cs : List Change) → ((q : Path) → held_at locks tx q ≡ mode_at ls q) → list_all (λ c. is_covered locks tx mode.X (Key c.place)) cs ≡ true → AreCovered ls cs
are_covered locks tx ls [] own t = tt
are_covered locks tx ls (c ∷ cs) own t =
    let parts = and_parts (is_covered locks tx mode.X (Key c.place)) (list_all (λ c. is_covered locks tx mode.X (Key c.place)) cs) t in
    (to_covers ls mode.X c.place (any_held locks tx mode.X ls (upward (Key c.place)) own parts.0), are_covered locks tx ls cs own parts.1)

pub not_covered : (locks : Locks) (tx : Tx) (ls : List Held) (cs : List Change) → ((q : Path) → held_at locks tx q ≡ mode_at ls q) → Ascends lock_cmp ls
    → list_all (λ c. is_covered locks tx mode.X (Key c.place)) cs ≡ false → AreCovered ls cs → ⊥
not_covered locks tx ls cs own asc f covered = true≢false (sym (all cs covered) ∙ f)
  where
    all : (cs : List Change) → AreCovered ls cs → list_all (λ c. is_covered locks tx mode.X (Key c.place)) cs ≡ true
    all [] e = refl
    all (c ∷ cs) e =
        and_from (is_covered locks tx mode.X (Key c.place)) (list_all (λ c. is_covered locks tx mode.X (Key c.place)) cs)
        (by_test (is_covered locks tx mode.X (Key c.place)) (λ t. t)
        (λ n. absurd (none_held locks tx mode.X ls (upward (Key c.place)) own asc n (of_covers ls mode.X c.place e.0))))
        (all cs e.1)

-- ---- beside the branches in doubt

in_map : (p : Prepared) (ps : List Prepared) → IsIn p ps → IsIn (as_branch p) (map as_branch ps)
in_map p [] i = absurd i
in_map p (q ∷ qs) (inl e) = inl (ap as_branch e)
in_map p (q ∷ qs) (inr k) = inr (in_map p qs k)

of_map : (b : Branch) (ps : List Prepared) → IsIn b (map as_branch ps) → (p : Prepared) × IsIn p ps × (as_branch p ≡ b)
of_map b [] i = absurd i
of_map b (p ∷ ps) (inl e) = (p, inl refl, e)
of_map b (p ∷ ps) (inr k) = let r = of_map b ps k in (r.0, inr r.1, r.2)

gather : (ls hs : List Held) → Each (λ h. LocksAgree ls (h ∷ [])) hs → LocksAgree ls hs
gather ls [] e = Each-in (λ l. Each (Agree l) []) ls (λ l i. tt)
gather ls (h ∷ hs) e =
    Each-in (λ l. Each (Agree l) (h ∷ hs)) ls
    (λ l i. ((in_Each (λ k. Each (Agree k) (h ∷ [])) l ls i e.0).0, in_Each (λ k. Each (Agree k) hs) l ls i (gather ls hs e.1)))

module _ (slots : Slots) (old : Locks) (floor : Number) (r : Redone) (tx : Tx) (st : Stands slots old floor r.rows (risen r)) (none : doubts_of tx.0 r.doubts ≡ []) where
  pub nothing : (q : Path) → held_at old tx q ≡ None
  nothing q = (st.each tx.0).locks q ∙ ap (λ (d : List Prepared). mode_at (first d) q) none
    where
      first : List Prepared → List Held
      first [] = []
      first (p ∷ ps) = p.locks

  other : (q : Prepared) → IsIn q r.doubts → q.tx ≢ tx.0
  other q i e = subst (λ (d : List Prepared). IsIn q d) none (in_doubts_of tx.0 q r.doubts i e)

  agree : (new : Locks) (hs : List Held) → Taken old new tx hs → Each (λ q. LocksAgree q.locks hs) r.doubts
  agree new hs taken =
      Each-in (λ q. LocksAgree q.locks hs) r.doubts
      (λ q i. gather q.locks hs (Each-of (λ h. blockers tx h.mode (holders_at old h.path) ≡ []) (λ h. LocksAgree q.locks (h ∷ [])) hs (λ h free. beside q i h free) taken.free))
    where
      beside : (q : Prepared) → IsIn q r.doubts → (h : Held) → blockers tx h.mode (holders_at old h.path) ≡ [] → LocksAgree q.locks (h ∷ [])
      beside q i h free =
          in_Each (λ (b : Branch). (b.tx ≢ tx.0) → LocksAgree b.locks (h ∷ [])) (as_branch q) (map as_branch r.doubts) (in_map q r.doubts i)
          (allows slots old floor r.rows (risen r) tx h.path h.mode st free) (other q i)

  -- who is in the way of a lock has one that can't stand beside it
  in_way : (p : Prepared) (h : Held) → IsIn h p.locks → blockers tx h.mode (holders_at old h.path) ≢ [] → BranchFits r.doubts p → ⊥
  in_way p h i blocked fits = by (blockers tx h.mode (holders_at old h.path)) refl
    where
      wrong : (c : Bool) → c ≡ true → not c ≡ true → ⊥
      wrong true e f = false≢true f
      wrong false e f = false≢true e

      at : (o : Holder) → IsIn o (blockers tx h.mode (holders_at old h.path)) → ⊥
      at o k =
          let m = in_blockers tx h.mode (holders_at old h.path) o k in
          let b = holder_branch slots old floor r.rows (risen r) o.tx.0 h.path o.mode st (own_mode (holders_at old h.path) (st.compatible h.path) o m.0) in
          let q = of_map b.branch r.doubts b.within in
          let beside : LocksAgree q.0.locks p.locks = in_Each (λ z. LocksAgree z.locks p.locks) q.0 r.doubts q.1 fits.agree in
          let is_lock : IsIn b.lock q.0.locks = subst (λ (z : Branch). IsIn b.lock z.locks) (sym q.2) b.is_lock in
          let two : Agree b.lock h = in_Each (Agree b.lock) h p.locks i (in_Each (λ l. Each (Agree l) p.locks) b.lock q.0.locks is_lock beside) in
          let alike : same_path b.lock.path h.path ≡ true = same_path-sym h.path b.lock.path b.there in
          let together : compatible o.mode h.mode ≡ true = ap (λ z. compatible z h.mode) (sym b.of_mode) ∙ sym (ap (λ z. not z || compatible b.lock.mode h.mode) alike) ∙ two in
          wrong (compatible o.mode h.mode) together (and_parts (not (is_of tx o)) (not (compatible o.mode h.mode)) m.1).1

      by : (hs : List Holder) → blockers tx h.mode (holders_at old h.path) ≡ hs → ⊥
      by [] e = blocked e
      by (o ∷ os) e = at o (subst (λ (z : List Holder). IsIn o z) (sym e) (inl refl))

  pub misfits : (new : Locks) (p : Prepared) → TakesAll old new tx p.locks false → BranchFits r.doubts p → ⊥
  misfits new p (inl lacks) fits = lacks fits.closed
  misfits new p (inr blocked) fits =
      let b = has_in (λ (h : Held). blockers tx h.mode (holders_at old h.path) ≢ []) p.locks blocked in
      in_way p b.0 b.1 b.2 fits

  pub fits_beside : (new : Locks) (p : Prepared) → Taken old new tx p.locks → AreCovered p.locks p.changes → BranchFits r.doubts p
  fits_beside new p taken covered = record { agree = agree new p.locks taken; closed = taken.closed; covered = covered }

  pub stands_with : (slots' : Slots) (new : Locks) (p : Prepared) (slot : Slot) (vote : Number) → p.tx ≡ tx.0 → slot.vote ≡ Some vote → p.floor ≡ vote.0 → p.changes ≡ slot.branch.changes → Ascends lock_cmp p.locks
      → Taken old new tx p.locks → ((t : ℕ) → slot_at slots' t ≡ (if tx.0 == t then Some slot else slot_at slots t)) → Stands slots' new floor r.rows (risen (with_doubt r p))
  stands_with slots' new p slot vote is_tx voted is_floor changes asc taken held =
      record { up = refl; rows_are = refl; ascending = st.ascending; floor_is = st.floor_is; each = each; compatible = taken.compatible }
    where
      mine : TxFits (Some slot) [] (p ∷ []) (held_at new tx)
      mine = record {
        slot_fits = subst (λ (v : Option Number). VoteFits v slot [] (p ∷ [])) (sym voted) (p, refl, refl, is_floor, changes);
        locks = taken.own;
        ordered = asc;
      }

      each : (t : ℕ) → TxFits (slot_at slots' t) (live_of t []) (doubts_of t (r.doubts ++ p ∷ [])) (held_at new (tx_of t))
      each t =
          by_same tx.0 t
          (λ e. subst (λ (n : ℕ). TxFits (slot_at slots' n) (live_of n []) (doubts_of n (r.doubts ++ p ∷ [])) (held_at new (tx_of n))) e
          (moved (Some slot) (slot_at slots' tx.0) [] [] (p ∷ []) (doubts_of tx.0 (r.doubts ++ p ∷ [])) (held_at new tx) (held_at new (tx_of tx.0))
          (held tx.0 ∙ ap (λ b. if b then Some slot else slot_at slots tx.0) (eq-eqb tx.0 tx.0 refl)) refl
          (doubts_of-more tx.0 r.doubts p ∙ ap (λ (d : List Prepared). d ++ doubts_of tx.0 (p ∷ [])) none ∙ doubt_in tx.0 p [] is_tx)
          (λ q. refl) mine))
          (λ n. moved (slot_at slots t) (slot_at slots' t) [] [] (doubts_of t r.doubts) (doubts_of t (r.doubts ++ p ∷ [])) (held_at old (tx_of t)) (held_at new (tx_of t))
          (held t ∙ ap (λ b. if b then Some slot else slot_at slots t) (ne_eqb tx.0 t n)) refl
          (doubts_of-more t r.doubts p ∙ ap (λ (d : List Prepared). doubts_of t r.doubts ++ d) (doubt_out t p [] (λ e. n (sym is_tx ∙ e))) ∙ append_none (doubts_of t r.doubts))
          (λ q. taken.others (tx_of t) q (λ e. n (sym e))) (st.each t))

-- ---- the greatest number

pub raised : (slots : Slots) (locks : Locks) (floor floor' : Number) (r : Redone) (number : ℕ) → floor'.0 ≡ max floor.0 number → Stands slots locks floor r.rows (risen r)
    → Stands slots locks floor' r.rows (risen (record { rows = r.rows; floor = max r.floor number; doubts = r.doubts }))
raised slots locks floor floor' r number is st =
    record { up = refl; rows_are = refl; ascending = st.ascending; floor_is = is ∙ ap (λ n. max n number) st.floor_is; each = st.each; compatible = st.compatible }
