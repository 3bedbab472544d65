-- A vote and the ends of a branch, as effects of the state.
use Rattle.std.proofs.Common.{◌≡◌, ◌≢◌, ℕ, max, Bool, true, false, cond, not, refl, sym, ◌∙◌, ap, subst, List, [], ◌∷◌, ◌++◌, inl, inr, if◌then◌else◌, Option, Some, None}
use Rattle.std.specs.Prelude.{◌==◌}
use Rattle.std.specs.List.{find}
use Rattle.std.specs.Option.{option_map}
use Rattle.std.proofs.lemmas.Bool.{eqb-true, eq-eqb, ne_eqb}
use Rattle.hb_types.specs.declared.change.Change.{Change}
use Rattle.hb_types.specs.declared.change.LogItem.{LogItem}
use Rattle.hb_types.specs.declared.change.LogItem.TheVariants as item
use Rattle.hb_types.specs.declared.change.Stored.{Stored}
use Rattle.hb_types.specs.declared.lock.Held.{Held}
use Rattle.hb_types.specs.declared.lock.Holder.{Holder}
use Rattle.hb_types.specs.declared.names.Number.{Number}
use Rattle.hb_types.specs.declared.names.Tx.{Tx}
use Rattle.hb_types.specs.declared.places.Path.{Path}
use Rattle.hb_types.specs.Lists.{Ascends}
use Rattle.hb_types.specs.Put.{normal, put_all}
use Rattle.hb_types.proofs.PutLaws.{by_test}
use Rattle.hb_laws.specs.RowOrder.{AreAscending}
use Rattle.hb_branch.proofs.Views.{put_all_ascends}
use Rattle.hb_disks.specs.Redo.{Prepared, Redone, after, changes_of, changes_or, redo_from, without_tx}
use Rattle.hb_disks.proofs.Fold.{redo_from-append}
use Rattle.hb_locks.specs.Locks.{Locks, Releases, IsCompatible, held_at, holders_at, is_of, lock_cmp, mode_at, mode_of, without}
use Rattle.hb_runs.specs.Server.{Branch, SState, now}
use Rattle.hb_runs.specs.ServerEffects.{prepared, committed, aborted, dropped, happens, vote_of, votes_of, without_live}
use Rattle.hb_engine.specs.Fits.{live_of, doubts_of, first_locks, SlotFits, VoteFits, TxFits, Slots, slot_at, tx_of, Stands}
use Rattle.hb_engine.specs.Steps.{voted}
use Rattle.hb_engine.specs.declared.slot.Slot.{Slot}
use Rattle.hb_engine.proofs.Branches.{by_same, live_of-without_same, live_of-without_other, doubts_of-more, doubts_of-without_same, doubts_of-without_other, doubt_in, doubt_out, append_none}
use Rattle.hb_engine.proofs.Effects.{moved}
use Rattle.std.specs.Prelude.{◌<◌}
use Rattle.hb_types.specs.declared.answer.Answer.{Answer}
use Rattle.hb_types.specs.declared.answer.Answer.TheVariants as answer
use Rattle.hb_types.specs.declared.request.Request.{Request}
use Rattle.hb_types.specs.declared.request.Request.TheVariants as request
use Rattle.hb_runs.specs.ServerEffects.{Effect, Steps, VoteHasRoom}
use Rattle.hb_runs.specs.ServerCauses.{Causes}
use Rattle.hb_runs.specs.ServerAnswers.{RightIn}
use Rattle.hb_engine.specs.Turned.{Turned}
use Rattle.hb_types.specs.Lists.{IsIn}
use Rattle.hb_types.proofs.Ascending.{same_members}
use Rattle.hb_branch.specs.Overlays.{Overlay}
use Rattle.hb_runs.specs.Server.{IsAlive, IsLive, IsInDoubt, IsUnended}
use Rattle.hb_locks.proofs.Order.{same_path-eq, same_path-refl}
use Rattle.hb_engine.specs.Fits.{live_in_slot}
use Rattle.hb_engine.proofs.Branches.{the_live, alive_of, not_alive, not_unended, of_doubts_of, in_doubts_of, has_in, in_has}
use Rattle.hb_engine.proofs.Covering.{lock_total, mode_at-in, mode_at-found}
use Rattle.hb_engine.proofs.Turning.{slot_fits, vote_fits, live_slot, not_live, locks_of_live, ordered_of_live}

-- ---- released locks

without_here : (tx : Tx) (h : Holder) (hs : List Holder) → is_of tx h ≡ true → without tx (h ∷ hs) ≡ without tx hs
without_here tx h hs t = ap (λ b. cond (not b) (h ∷ without tx hs) (without tx hs)) t

without_there : (tx : Tx) (h : Holder) (hs : List Holder) → is_of tx h ≡ false → without tx (h ∷ hs) ≡ h ∷ without tx hs
without_there tx h hs f = ap (λ b. cond (not b) (h ∷ without tx hs) (without tx hs)) f

mode_skip : (t : Tx) (h : Holder) (hs : List Holder) → is_of t h ≡ false → mode_of t (h ∷ hs) ≡ mode_of t hs
mode_skip t h hs f = ap (λ b. option_map (λ (g : Holder). g.mode) (cond b (Some h) (find (is_of t) hs))) f

mode_first : (t : Tx) (h : Holder) (hs : List Holder) → is_of t h ≡ true → mode_of t (h ∷ hs) ≡ Some h.mode
mode_first t h hs e = ap (λ b. option_map (λ (g : Holder). g.mode) (cond b (Some h) (find (is_of t) hs))) e

own_gone : (tx : Tx) (hs : List Holder) → mode_of tx (without tx hs) ≡ None
own_gone tx [] = refl
own_gone tx (h ∷ hs) =
    by_test (is_of tx h)
    (λ t. ap (mode_of tx) (without_here tx h hs t) ∙ own_gone tx hs)
    (λ f. ap (mode_of tx) (without_there tx h hs f) ∙ mode_skip tx h (without tx hs) f ∙ own_gone tx hs)

others_stay : (t tx : Tx) (hs : List Holder) → t.0 ≢ tx.0 → mode_of t (without tx hs) ≡ mode_of t hs
others_stay t tx [] n = refl
others_stay t tx (h ∷ hs) n =
    by_test (is_of tx h)
    (λ e. ap (mode_of t) (without_here tx h hs e) ∙ others_stay t tx hs n ∙ sym (mode_skip t h hs (ne_eqb h.tx.0 t.0 (λ q. n (sym q ∙ eqb-true h.tx.0 tx.0 e)))))
    (λ f. ap (mode_of t) (without_there tx h hs f)
    ∙ by_test (is_of t h)
    (λ e. mode_first t h (without tx hs) e ∙ sym (mode_first t h hs e))
    (λ g. mode_skip t h (without tx hs) g ∙ others_stay t tx hs n ∙ sym (mode_skip t h hs g)))

-- ---- a branch that ends

-- a state in which only this transaction's branches are gone
pub record Gone (s t : SState) (tx : ℕ) : Type 0 where
  pub up : t.up ≡ s.up
  pub live : (n : ℕ) → n ≢ tx → live_of n t.live ≡ live_of n s.live
  pub doubts : (n : ℕ) → n ≢ tx → doubts_of n (now t).doubts ≡ doubts_of n (now s).doubts
  pub no_live : live_of tx t.live ≡ []
  pub no_doubts : doubts_of tx (now t).doubts ≡ []

pub end_stands : (slots slots' : Slots) (locks locks' : Locks) (floor floor' : Number) (rows rows' : List Stored) (s t : SState) (tx : Tx) → Stands slots locks floor rows s → Gone s t tx.0
    → rows' ≡ (now t).rows → AreAscending rows' → floor'.0 ≡ (now t).floor
    → ((n : ℕ) → slot_at slots' n ≡ (if tx.0 == n then None else slot_at slots n)) → Releases locks locks' tx → IsCompatible locks' → Stands slots' locks' floor' rows' t
end_stands slots slots' locks locks' floor floor' rows rows' s t tx st gone are up is new released stand =
    record { up = gone.up ∙ st.up; rows_are = are; ascending = up; floor_is = is; each = each; compatible = stand }
  where
    none : TxFits None [] [] (held_at locks' tx)
    none = record { slot_fits = (refl, refl); locks = λ q. ap (mode_of tx) (released q) ∙ own_gone tx (holders_at locks q); ordered = tt }

    each : (n : ℕ) → TxFits (slot_at slots' n) (live_of n t.live) (doubts_of n (now t).doubts) (held_at locks' (tx_of n))
    each n =
        by_same tx.0 n
        (λ e. subst (λ (n : ℕ). TxFits (slot_at slots' n) (live_of n t.live) (doubts_of n (now t).doubts) (held_at locks' (tx_of n))) e
        (moved None (slot_at slots' tx.0) [] (live_of tx.0 t.live) [] (doubts_of tx.0 (now t).doubts) (held_at locks' tx) (held_at locks' (tx_of tx.0))
        (new tx.0 ∙ ap (λ b. if b then None else slot_at slots tx.0) (eq-eqb tx.0 tx.0 refl)) gone.no_live gone.no_doubts (λ q. refl) none))
        (λ d. moved (slot_at slots n) (slot_at slots' n) (live_of n s.live) (live_of n t.live) (doubts_of n (now s).doubts) (doubts_of n (now t).doubts) (held_at locks (tx_of n)) (held_at locks' (tx_of n))
        (new n ∙ ap (λ b. if b then None else slot_at slots n) (ne_eqb tx.0 n d))
        (gone.live n (λ e. d (sym e))) (gone.doubts n (λ e. d (sym e)))
        (λ q. ap (mode_of (tx_of n)) (released q) ∙ others_stay (tx_of n) tx (holders_at locks q) (λ e. d (sym e))) (st.each n))

-- ---- each end

pub dropped_gone : (s : SState) (tx : ℕ) → doubts_of tx (now s).doubts ≡ [] → Gone s (happens s (dropped tx)) tx
dropped_gone s tx none =
    record { up = refl; live = λ n d. live_of-without_other n tx s.live d; doubts = λ n d. refl; no_live = live_of-without_same tx s.live; no_doubts = none }

pub now-more : (s : SState) (i : LogItem) → redo_from s.base (s.log ++ i ∷ []) ≡ after (now s) i
now-more s i = redo_from-append s.base s.log (i ∷ [])

pub ended_gone : (s t : SState) (tx : ℕ) → t.up ≡ s.up → t.live ≡ s.live → live_of tx s.live ≡ [] → (now t).doubts ≡ without_tx tx (now s).doubts → Gone s t tx
ended_gone s t tx up same none e =
    record {
      up = up;
      live = λ n d. ap (live_of n) same;
      doubts = λ n d. ap (doubts_of n) e ∙ doubts_of-without_other n tx (now s).doubts d;
      no_live = ap (live_of tx) same ∙ none;
      no_doubts = ap (doubts_of tx) e ∙ doubts_of-without_same tx (now s).doubts;
    }

-- the changes of a transaction's one branch in doubt
changes-or : (old : List Change) (tx : ℕ) (ps : List Prepared) → doubts_of tx ps ≡ [] → changes_or old tx ps ≡ old
changes-or old tx [] e = refl
changes-or old tx (p ∷ ps) e =
    by_same p.tx tx
    (λ s. absurd (filled p (doubts_of tx ps) (sym (doubt_in tx p ps s) ∙ e)))
    (λ n. ap (λ b. changes_or (if b then p.changes else old) tx ps) (ne_eqb p.tx tx n) ∙ changes-or old tx ps (sym (doubt_out tx p ps n) ∙ e))
  where
    filled : (p : Prepared) (ps : List Prepared) → p ∷ ps ≡ [] → ⊥
    filled p ps e = cc

one_tail : (p q : Prepared) (ps : List Prepared) → p ∷ ps ≡ q ∷ [] → (p ≡ q) × (ps ≡ [])
one_tail p q ps e = (cc, cc)

changes-one : (old : List Change) (tx : ℕ) (ps : List Prepared) (p : Prepared) → doubts_of tx ps ≡ p ∷ [] → changes_or old tx ps ≡ p.changes
changes-one old tx [] p e = absurd (filled p e)
  where
    filled : (p : Prepared) → ◌≡◌ {A = List Prepared} [] (p ∷ []) → ⊥
    filled p e = cc
changes-one old tx (q ∷ qs) p e =
    by_same q.tx tx
    (λ s. let r = one_tail q p (doubts_of tx qs) (sym (doubt_in tx q qs s) ∙ e) in
    ap (λ b. changes_or (if b then q.changes else old) tx qs) (eq-eqb q.tx tx s) ∙ changes-or q.changes tx qs r.1 ∙ ap (λ (x : Prepared). x.changes) r.0)
    (λ n. ap (λ b. changes_or (if b then q.changes else old) tx qs) (ne_eqb q.tx tx n) ∙ changes-one old tx qs p (sym (doubt_out tx q qs n) ∙ e))

pub changes_are : (tx : ℕ) (ps : List Prepared) (p : Prepared) → doubts_of tx ps ≡ p ∷ [] → changes_of tx ps ≡ p.changes
changes_are tx ps p e = changes-one [] tx ps p e

-- ---- a vote

votes_none : (s : SState) (tx : ℕ) (bs : List Branch) (b : Branch) → live_of tx bs ≡ b ∷ [] → votes_of s tx bs ≡ vote_of s b ∷ []
votes_none s tx [] b e = absurd (filled b e)
  where
    filled : (b : Branch) → ◌≡◌ {A = List Branch} [] (b ∷ []) → ⊥
    filled b e = cc
votes_none s tx (c ∷ cs) b e =
    by_test (c.tx == tx)
    (λ t. ap (λ z. if z then vote_of s c ∷ [] else votes_of s tx cs) t ∙ ap (λ (x : Branch). vote_of s x ∷ []) (head c b (live_of tx cs) (sym (ap (λ z. if z then c ∷ live_of tx cs else live_of tx cs) t) ∙ e)))
    (λ f. ap (λ z. if z then vote_of s c ∷ [] else votes_of s tx cs) f ∙ votes_none s tx cs b (sym (ap (λ z. if z then c ∷ live_of tx cs else live_of tx cs) f) ∙ e))
  where
    head : (x y : Branch) (xs : List Branch) → x ∷ xs ≡ y ∷ [] → x ≡ y
    head x y xs e = cc

abbrev doubt_of : SState → Branch → Prepared
doubt_of s b = record { tx = b.tx; floor = (now s).floor; locks = b.locks; changes = normal b.own }

voted_now : (s : SState) (tx : ℕ) (b : Branch) → live_of tx s.live ≡ b ∷ [] → now (happens s (prepared tx)) ≡ record (now s) { doubts = (now s).doubts ++ doubt_of s b ∷ [] }
voted_now s tx b e = ap (λ (is : List LogItem). redo_from s.base (s.log ++ is)) (votes_none s tx s.live b e) ∙ now-more s (vote_of s b)

pub vote_stands : (slots slots' : Slots) (locks : Locks) (floor : Number) (rows : List Stored) (s : SState) (tx : Tx) (b : Branch) (slot : Slot) → Stands slots locks floor rows s → b.tx ≡ tx.0
    → live_of tx.0 s.live ≡ b ∷ [] → slot_at slots tx.0 ≡ Some slot → slot.vote ≡ None
    → ((n : ℕ) → slot_at slots' n ≡ (if tx.0 == n then option_map (voted floor) (slot_at slots n) else slot_at slots n)) → Stands slots' locks floor rows (happens s (prepared tx.0))
vote_stands slots slots' locks floor rows s tx b slot st of_tx alive here unvoted new =
    record {
      up = st.up;
      rows_are = st.rows_are ∙ sym (ap (λ (r : Redone). r.rows) nows);
      ascending = st.ascending;
      floor_is = st.floor_is ∙ sym (ap (λ (r : Redone). r.floor) nows);
      each = each;
      compatible = st.compatible;
    }
  where
    nows : now (happens s (prepared tx.0)) ≡ record (now s) { doubts = (now s).doubts ++ doubt_of s b ∷ [] }
    nows = voted_now s tx.0 b alive

    doubts : (now (happens s (prepared tx.0))).doubts ≡ (now s).doubts ++ doubt_of s b ∷ []
    doubts = ap (λ (r : Redone). r.doubts) (voted_now s tx.0 b alive)

    old : VoteFits None slot (live_of tx.0 s.live) (doubts_of tx.0 (now s).doubts)
    old =
        subst (λ (v : Option Number). VoteFits v slot (live_of tx.0 s.live) (doubts_of tx.0 (now s).doubts)) unvoted
        (subst (λ (o : Option Slot). SlotFits o (live_of tx.0 s.live) (doubts_of tx.0 (now s).doubts)) here (st.each tx.0).slot_fits)

    same : old.0 ≡ b
    same = head old.0 b (sym old.1 ∙ alive)
      where
        head : (x y : Branch) → x ∷ [] ≡ y ∷ [] → x ≡ y
        head x y e = cc

    mine : TxFits (Some (voted floor slot)) [] (doubt_of s b ∷ []) (held_at locks tx)
    mine = record {
      slot_fits = (doubt_of s b, refl, refl, sym st.floor_is, sym (old.3 ∙ ap (λ (x : Branch). normal x.own) same));
      locks = λ q. (st.each tx.0).locks q ∙ ap (λ (l : List Branch). mode_at (first_locks l (doubts_of tx.0 (now s).doubts)) q) alive;
      ordered = subst (λ (l : List Branch). Ascends lock_cmp (first_locks l (doubts_of tx.0 (now s).doubts))) alive (st.each tx.0).ordered;
    }

    each : (n : ℕ) → TxFits (slot_at slots' n) (live_of n (without_live tx.0 s.live)) (doubts_of n (now (happens s (prepared tx.0))).doubts) (held_at locks (tx_of n))
    each n =
        by_same tx.0 n
        (λ e. subst (λ (n : ℕ). TxFits (slot_at slots' n) (live_of n (without_live tx.0 s.live)) (doubts_of n (now (happens s (prepared tx.0))).doubts) (held_at locks (tx_of n))) e
        (moved (Some (voted floor slot)) (slot_at slots' tx.0) [] (live_of tx.0 (without_live tx.0 s.live)) (doubt_of s b ∷ []) (doubts_of tx.0 (now (happens s (prepared tx.0))).doubts) (held_at locks tx) (held_at locks (tx_of tx.0))
        (new tx.0 ∙ ap (λ z. if z then option_map (voted floor) (slot_at slots tx.0) else slot_at slots tx.0) (eq-eqb tx.0 tx.0 refl) ∙ ap (option_map (voted floor)) here)
        (live_of-without_same tx.0 s.live)
        (ap (doubts_of tx.0) doubts ∙ doubts_of-more tx.0 (now s).doubts (doubt_of s b) ∙ ap (λ (l : List Prepared). l ++ doubts_of tx.0 (doubt_of s b ∷ [])) old.2 ∙ doubt_in tx.0 (doubt_of s b) [] of_tx)
        (λ q. refl) mine))
        (λ d. moved (slot_at slots n) (slot_at slots' n) (live_of n s.live) (live_of n (without_live tx.0 s.live)) (doubts_of n (now s).doubts) (doubts_of n (now (happens s (prepared tx.0))).doubts) (held_at locks (tx_of n)) (held_at locks (tx_of n))
        (new n ∙ ap (λ z. if z then option_map (voted floor) (slot_at slots n) else slot_at slots n) (ne_eqb tx.0 n d))
        (live_of-without_other n tx.0 s.live (λ e. d (sym e)))
        (ap (doubts_of n) doubts ∙ doubts_of-more n (now s).doubts (doubt_of s b) ∙ ap (λ (l : List Prepared). doubts_of n (now s).doubts ++ l) (doubt_out n (doubt_of s b) [] (λ e. d (sym of_tx ∙ e)))
        ∙ append_none (doubts_of n (now s).doubts))
        (λ q. refl) (st.each n))

-- ---- the ends of a branch that voted

pub commit_stands : (slots slots' : Slots) (locks locks' : Locks) (floor floor' : Number) (rows : List Stored) (s : SState) (tx : Tx) (number : Number) (p : Prepared) → Stands slots locks floor rows s
    → live_of tx.0 s.live ≡ [] → doubts_of tx.0 (now s).doubts ≡ p ∷ []
    → ((n : ℕ) → slot_at slots' n ≡ (if tx.0 == n then None else slot_at slots n)) → Releases locks locks' tx → IsCompatible locks' → floor'.0 ≡ max floor.0 number.0
    → Stands slots' locks' floor' (put_all rows p.changes) (happens s (committed tx.0 number.0))
commit_stands slots slots' locks locks' floor floor' rows s tx number p st none one new released stand later =
    let t : SState = happens s (committed tx.0 number.0) in
    let nows : now t ≡ after (now s) (item.Commit (record { 0 = tx.0 }) (record { 0 = number.0 })) = now-more s (item.Commit (record { 0 = tx.0 }) (record { 0 = number.0 })) in
    end_stands slots slots' locks locks' floor floor' rows (put_all rows p.changes) s t tx st
    (ended_gone s t tx.0 refl refl none (ap (λ (r : Redone). r.doubts) nows))
    (ap (λ (x : List Stored). put_all x p.changes) st.rows_are ∙ ap (put_all (now s).rows) (sym (changes_are tx.0 (now s).doubts p one)) ∙ sym (ap (λ (r : Redone). r.rows) nows))
    (put_all_ascends rows p.changes st.ascending)
    (later ∙ ap (λ (n : ℕ). max n number.0) st.floor_is ∙ sym (ap (λ (r : Redone). r.floor) nows)) new released stand

pub abort_stands : (slots slots' : Slots) (locks locks' : Locks) (floor : Number) (rows : List Stored) (s : SState) (tx : Tx) → Stands slots locks floor rows s → live_of tx.0 s.live ≡ []
    → ((n : ℕ) → slot_at slots' n ≡ (if tx.0 == n then None else slot_at slots n)) → Releases locks locks' tx → IsCompatible locks' → Stands slots' locks' floor rows (happens s (aborted tx.0))
abort_stands slots slots' locks locks' floor rows s tx st none new released stand =
    let t : SState = happens s (aborted tx.0) in
    let nows : now t ≡ after (now s) (item.Abort (record { 0 = tx.0 })) = now-more s (item.Abort (record { 0 = tx.0 })) in
    end_stands slots slots' locks locks' floor floor rows rows s t tx st (ended_gone s t tx.0 refl refl none (ap (λ (r : Redone). r.doubts) nows))
    (st.rows_are ∙ sym (ap (λ (r : Redone). r.rows) nows)) st.ascending (st.floor_is ∙ sym (ap (λ (r : Redone). r.floor) nows)) new released stand

pub drop_stands : (slots slots' : Slots) (locks locks' : Locks) (floor : Number) (rows : List Stored) (s : SState) (tx : Tx) → Stands slots locks floor rows s → doubts_of tx.0 (now s).doubts ≡ []
    → ((n : ℕ) → slot_at slots' n ≡ (if tx.0 == n then None else slot_at slots n)) → Releases locks locks' tx → IsCompatible locks' → Stands slots' locks' floor rows (happens s (dropped tx.0))
drop_stands slots slots' locks locks' floor rows s tx st none new released stand =
    end_stands slots slots' locks locks' floor floor rows rows s (happens s (dropped tx.0)) tx st (dropped_gone s tx.0 none) st.rows_are st.ascending st.floor_is new released stand

-- ---- by how far a branch is

empty_not : {A : Type 0} (x : A) (xs : List A) → xs ≡ [] → IsIn x xs → ⊥
empty_not x xs e i = subst (λ z. IsIn x z) e i

pub standing_absent : (slots : Slots) (locks : Locks) (floor : Number) (rows : List Stored) (s : SState) (tx : ℕ) → Stands slots locks floor rows s → slot_at slots tx ≡ None → IsUnended s tx → ⊥
standing_absent slots locks floor rows s tx st e =
    let f : SlotFits None (live_of tx s.live) (doubts_of tx (now s).doubts) = slot_fits slots locks floor rows s tx None st e in
    not_unended s tx f.0 f.1

pub standing_live : (slots : Slots) (locks : Locks) (floor : Number) (rows : List Stored) (s : SState) (tx : ℕ) (slot : Slot) → Stands slots locks floor rows s → slot_at slots tx ≡ Some slot → slot.vote ≡ None → IsAlive s tx
standing_live slots locks floor rows s tx slot st e v =
    let f : VoteFits None slot (live_of tx s.live) (doubts_of tx (now s).doubts) = vote_fits slots locks floor rows s tx slot None st e v in
    alive_of s tx f.0 (the_live s tx f.0 f.1)

pub standing_voted : (slots : Slots) (locks : Locks) (floor : Number) (rows : List Stored) (s : SState) (tx : ℕ) (slot : Slot) (n : Number) → Stands slots locks floor rows s → slot_at slots tx ≡ Some slot → slot.vote ≡ Some n → IsInDoubt s tx n.0 × (IsAlive s tx → ⊥)
standing_voted slots locks floor rows s tx slot n st e v =
    let f : VoteFits (Some n) slot (live_of tx s.live) (doubts_of tx (now s).doubts) = vote_fits slots locks floor rows s tx slot (Some n) st e v in
    let r = of_doubts_of tx f.0 (now s).doubts (subst (λ (ps : List Prepared). IsIn f.0 ps) (sym f.2) (inl refl)) in
    (in_has (λ (p : Prepared). (p.tx ≡ tx) × (p.floor ≡ n.0)) f.0 (now s).doubts r.0 (r.1, f.3), not_alive s tx f.1)

pub record DoubtSlot (slots : Slots) (s : SState) (tx : ℕ) : Type 0 where
  pub slot : Slot
  pub is_slot : slot_at slots tx ≡ Some slot
  pub doubt : Prepared
  pub no_live : live_of tx s.live ≡ []
  pub one : doubts_of tx (now s).doubts ≡ doubt ∷ []
  pub changes : doubt.changes ≡ slot.branch.changes

pub doubt_slot : (slots : Slots) (locks : Locks) (floor : Number) (rows : List Stored) (s : SState) (tx f : ℕ) → Stands slots locks floor rows s → IsInDoubt s tx f → DoubtSlot slots s tx
doubt_slot slots locks floor rows s tx f st h = by (slot_at slots tx) refl
  where
    member : (p : Prepared) × IsIn p (doubts_of tx (now s).doubts)
    member =
        let r = has_in (λ (p : Prepared). (p.tx ≡ tx) × (p.floor ≡ f)) (now s).doubts h in
        (r.0, in_doubts_of tx r.0 (now s).doubts r.1 r.2.0)

    vote : (slot : Slot) (v : Option Number) → slot.vote ≡ v → slot_at slots tx ≡ Some slot → (p : Prepared) × IsIn p (doubts_of tx (now s).doubts) → DoubtSlot slots s tx
    vote slot None v e m =
        let g : VoteFits None slot (live_of tx s.live) (doubts_of tx (now s).doubts) = vote_fits slots locks floor rows s tx slot None st e v in
        absurd (empty_not m.0 (doubts_of tx (now s).doubts) g.2 m.1)
    vote slot (Some n) v e m =
        let g : VoteFits (Some n) slot (live_of tx s.live) (doubts_of tx (now s).doubts) = vote_fits slots locks floor rows s tx slot (Some n) st e v in
        record { slot = slot; is_slot = e; doubt = g.0; no_live = g.1; one = g.2; changes = g.4 }

    by : (o : Option Slot) → slot_at slots tx ≡ o → DoubtSlot slots s tx
    by None e =
        let g : SlotFits None (live_of tx s.live) (doubts_of tx (now s).doubts) = slot_fits slots locks floor rows s tx None st e in
        let r = has_in (λ (p : Prepared). (p.tx ≡ tx) × (p.floor ≡ f)) (now s).doubts h in
        absurd (empty_not r.0 (doubts_of tx (now s).doubts) g.1 (in_doubts_of tx r.0 (now s).doubts r.1 r.2.0))
    by (Some slot) e =
        let r = has_in (λ (p : Prepared). (p.tx ≡ tx) × (p.floor ≡ f)) (now s).doubts h in
        vote slot slot.vote refl e (r.0, in_doubts_of tx r.0 (now s).doubts r.1 r.2.0)

slot_same : (a b : Slot) → ◌≡◌ {A = Option Slot} (Some a) (Some b) → a ≡ b
slot_same a b e = cc

slot_gone : (a : Slot) → ◌≡◌ {A = Option Slot} None (Some a) → ⊥
slot_gone a e = cc

pub commits : (slots slots' : Slots) (locks locks' : Locks) (floor floor' : Number) (rows : List Stored) (s : SState) (tx : Tx) (number : Number) (f : ℕ) (slot : Slot) → Stands slots locks floor rows s
    → IsInDoubt s tx.0 f → slot_at slots tx.0 ≡ Some slot → ((n : ℕ) → slot_at slots' n ≡ (if tx.0 == n then None else slot_at slots n)) → Releases locks locks' tx → IsCompatible locks' → floor'.0 ≡ max floor.0 number.0
    → Stands slots' locks' floor' (put_all rows slot.branch.changes) (happens s (committed tx.0 number.0))
commits slots slots' locks locks' floor floor' rows s tx number f slot st d here new released stand later =
    let k = doubt_slot slots locks floor rows s tx.0 f st d in
    let same : k.doubt.changes ≡ slot.branch.changes = k.changes ∙ ap (λ (x : Slot). x.branch.changes) (slot_same k.slot slot (sym k.is_slot ∙ here)) in
    subst (λ (cs : List Change). Stands slots' locks' floor' (put_all rows cs) (happens s (committed tx.0 number.0))) same
    (commit_stands slots slots' locks locks' floor floor' rows s tx number k.doubt st k.no_live k.one new released stand later)

-- what the branch in doubt changes
pub doubt_changes : (slots : Slots) (locks : Locks) (floor : Number) (rows : List Stored) (s : SState) (tx : Tx) (f : ℕ) (slot : Slot) → Stands slots locks floor rows s → IsInDoubt s tx.0 f
    → slot_at slots tx.0 ≡ Some slot → changes_of tx.0 (now s).doubts ≡ slot.branch.changes
doubt_changes slots locks floor rows s tx f slot st d here =
    let k = doubt_slot slots locks floor rows s tx.0 f st d in
    changes_are tx.0 (now s).doubts k.doubt k.one ∙ k.changes ∙ ap (λ (x : Slot). x.branch.changes) (slot_same k.slot slot (sym k.is_slot ∙ here))

pub never_gone : (slots : Slots) (locks : Locks) (floor : Number) (rows : List Stored) (s : SState) (tx f : ℕ) → Stands slots locks floor rows s → IsInDoubt s tx f → slot_at slots tx ≡ None → ⊥
never_gone slots locks floor rows s tx f st d e = let k = doubt_slot slots locks floor rows s tx f st d in slot_gone k.slot (sym e ∙ k.is_slot)

pub aborts : (slots slots' : Slots) (locks locks' : Locks) (floor : Number) (rows : List Stored) (s : SState) (tx : Tx) (f : ℕ) → Stands slots locks floor rows s → IsInDoubt s tx.0 f
    → ((n : ℕ) → slot_at slots' n ≡ (if tx.0 == n then None else slot_at slots n)) → Releases locks locks' tx → IsCompatible locks' → Stands slots' locks' floor rows (happens s (aborted tx.0))
aborts slots slots' locks locks' floor rows s tx f st d new released stand =
    let k = doubt_slot slots locks floor rows s tx.0 f st d in
    abort_stands slots slots' locks locks' floor rows s tx st k.no_live new released stand

-- an alive branch has its slot
pub alive_slot : (slots : Slots) (locks : Locks) (floor : Number) (rows : List Stored) (s : SState) (tx : ℕ) → Stands slots locks floor rows s → IsAlive s tx → (o : Overlay) × (live_in_slot (slot_at slots tx) ≡ Some o)
alive_slot slots locks floor rows s tx st a = by (live_in_slot (slot_at slots tx)) refl
  where
    by : (o : Option Overlay) → live_in_slot (slot_at slots tx) ≡ o → (x : Overlay) × (live_in_slot (slot_at slots tx) ≡ Some x)
    by None e = absurd (not_live slots locks floor rows s tx st e a)
    by (Some x) e = (x, e)

pub drops : (slots slots' : Slots) (locks locks' : Locks) (floor : Number) (rows : List Stored) (s : SState) (tx : Tx) → Stands slots locks floor rows s → IsAlive s tx.0
    → ((n : ℕ) → slot_at slots' n ≡ (if tx.0 == n then None else slot_at slots n)) → Releases locks locks' tx → IsCompatible locks' → Stands slots' locks' floor rows (happens s (dropped tx.0))
drops slots slots' locks locks' floor rows s tx st a new released stand =
    let o = alive_slot slots locks floor rows s tx.0 st a in
    let k = live_slot slots locks floor rows s tx.0 o.0 st o.1 in
    let f : VoteFits None k.slot (live_of tx.0 s.live) (doubts_of tx.0 (now s).doubts) = vote_fits slots locks floor rows s tx.0 k.slot None st k.is_slot k.unvoted in
    drop_stands slots slots' locks locks' floor rows s tx st f.2 new released stand

pub votes : (slots slots' : Slots) (locks : Locks) (floor : Number) (rows : List Stored) (s : SState) (tx : Tx) → Stands slots locks floor rows s → IsAlive s tx.0
    → ((n : ℕ) → slot_at slots' n ≡ (if tx.0 == n then option_map (voted floor) (slot_at slots n) else slot_at slots n)) → Stands slots' locks floor rows (happens s (prepared tx.0))
votes slots slots' locks floor rows s tx st a new =
    let o = alive_slot slots locks floor rows s tx.0 st a in
    let k = live_slot slots locks floor rows s tx.0 o.0 st o.1 in
    vote_stands slots slots' locks floor rows s tx k.branch k.slot st (the_live s tx.0 k.branch k.alive).1 k.alive k.is_slot k.unvoted new

-- ---- the record of a vote

pub locks_same : (xs ys : List Held) → Ascends lock_cmp xs → Ascends lock_cmp ys → ((q : Path) → mode_at xs q ≡ mode_at ys q) → xs ≡ ys
locks_same xs ys a b same = same_members lock_cmp lock_total xs ys a b (into xs ys a same) (into ys xs b (λ q. sym (same q)))
  where
    into : (xs ys : List Held) → Ascends lock_cmp xs → ((q : Path) → mode_at xs q ≡ mode_at ys q) → (z : Held) → IsIn z xs → IsIn z ys
    into xs ys a same z i =
        let r = mode_at-found z.path z.mode ys (sym (same z.path) ∙ mode_at-in z.path z xs a i (same_path-refl z.path)) in
        let e : r.lock ≡ z = λ j. record { path = sym (same_path-eq z.path r.lock.path r.there) j; mode = r.of_mode j } in
        subst (λ (x : Held). IsIn x ys) e r.within

pub is_vote : (slots : Slots) (locks : Locks) (floor : Number) (rows : List Stored) (s : SState) (tx : Tx) (o : Overlay) (ls : List Held) (cs : List Change) → Stands slots locks floor rows s
    → live_in_slot (slot_at slots tx.0) ≡ Some o → Ascends lock_cmp ls → ((q : Path) → mode_at ls q ≡ held_at locks tx q) → cs ≡ o.changes
    → (b : Branch) × IsLive s tx.0 b × (item.Prepare tx floor ls cs ≡ vote_of s b)
is_vote slots locks floor rows s tx o ls cs st e up same are =
    let k = live_slot slots locks floor rows s tx.0 o st e in
    let l = the_live s tx.0 k.branch k.alive in
    let t : tx ≡ record { 0 = k.branch.tx } = λ i. record { 0 = sym l.1 i } in
    let f : floor ≡ record { 0 = (now s).floor } = λ i. record { 0 = st.floor_is i } in
    let h : ls ≡ k.branch.locks =
    locks_same ls k.branch.locks up (ordered_of_live slots locks floor rows s tx k.branch st k.alive) (λ q. same q ∙ locks_of_live slots locks floor rows s tx k.branch st k.alive q) in
    let c : cs ≡ normal k.branch.own = are ∙ k.changes in
    (k.branch, l, λ i. item.Prepare (t i) (f i) (h i) (c i))

-- ---- as requests

turn : (s t : SState) (q : Request) (a : Answer) (es : List Effect) (At : SState → Type 0) → s.up ≡ true → Causes s q a es → RightIn true s q a → Steps s es t → At t → Turned s q a At
turn s t q a es At up causes right steps at =
    record { state = t; turn = record { effects = es; causes = causes; right = subst (λ (b : Bool). RightIn b s q a) (sym up) right; steps = steps }; at = at }

pub vote_turn : (slots slots' : Slots) (locks : Locks) (floor : Number) (rows : List Stored) (s : SState) (tx : Tx) (b : Branch) → Stands slots locks floor rows s → IsLive s tx.0 b → VoteHasRoom s b
    → ((n : ℕ) → slot_at slots' n ≡ (if tx.0 == n then option_map (voted floor) (slot_at slots n) else slot_at slots n))
    → Turned s (request.Prepare tx) (answer.Vote floor) (λ t. Stands slots' locks floor rows t)
vote_turn slots slots' locks floor rows s tx b st live room new =
    turn s (happens s (prepared tx.0)) (request.Prepare tx) (answer.Vote floor) (prepared tx.0 ∷ []) (λ t. Stands slots' locks floor rows t) st.up refl st.floor_is ((b, live, room), refl)
    (votes slots slots' locks floor rows s tx st (alive_of s tx.0 b live) new)

pub commit_turn : (slots slots' : Slots) (locks locks' : Locks) (floor floor' : Number) (rows : List Stored) (s : SState) (tx : Tx) (number : Number) (f : ℕ) (slot : Slot) → Stands slots locks floor rows s
    → IsInDoubt s tx.0 f → f < number.0 → slot_at slots tx.0 ≡ Some slot → ((n : ℕ) → slot_at slots' n ≡ (if tx.0 == n then None else slot_at slots n)) → Releases locks locks' tx → IsCompatible locks' → floor'.0 ≡ max floor.0 number.0
    → Turned s (request.Commit tx number) answer.Done (λ t. Stands slots' locks' floor' (put_all rows slot.branch.changes) t)
commit_turn slots slots' locks locks' floor floor' rows s tx number f slot st d above here new released stand later =
    turn s (happens s (committed tx.0 number.0)) (request.Commit tx number) answer.Done (committed tx.0 number.0 ∷ []) (λ t. Stands slots' locks' floor' (put_all rows slot.branch.changes) t) st.up refl tt ((f, d, above), refl)
    (commits slots slots' locks locks' floor floor' rows s tx number f slot st d here new released stand later)

pub abort_turn : (slots slots' : Slots) (locks locks' : Locks) (floor : Number) (rows : List Stored) (s : SState) (tx : Tx) (f : ℕ) → Stands slots locks floor rows s → IsInDoubt s tx.0 f
    → ((n : ℕ) → slot_at slots' n ≡ (if tx.0 == n then None else slot_at slots n)) → Releases locks locks' tx → IsCompatible locks' → Turned s (request.Rollback tx) answer.Done (λ t. Stands slots' locks' floor rows t)
abort_turn slots slots' locks locks' floor rows s tx f st d new released stand =
    turn s (happens s (aborted tx.0)) (request.Rollback tx) answer.Done (aborted tx.0 ∷ []) (λ t. Stands slots' locks' floor rows t) st.up (inr refl) tt ((f, d), refl)
    (aborts slots slots' locks locks' floor rows s tx f st d new released stand)

pub drop_turn : (slots slots' : Slots) (locks locks' : Locks) (floor : Number) (rows : List Stored) (s : SState) (tx : Tx) → Stands slots locks floor rows s → IsAlive s tx.0
    → ((n : ℕ) → slot_at slots' n ≡ (if tx.0 == n then None else slot_at slots n)) → Releases locks locks' tx → IsCompatible locks' → Turned s (request.Rollback tx) answer.Done (λ t. Stands slots' locks' floor rows t)
drop_turn slots slots' locks locks' floor rows s tx st a new released stand =
    turn s (happens s (dropped tx.0)) (request.Rollback tx) answer.Done (dropped tx.0 ∷ []) (λ t. Stands slots' locks' floor rows t) st.up (inl refl) tt (a, refl)
    (drops slots slots' locks locks' floor rows s tx st a new released stand)
