-- One item more: what each kind of item makes of what is known.
use Rattle.std.proofs.Common.{◌≡◌, ◌≢◌, ℕ, ◌+◌, ◌-◌, ◌<◌, Bool, max, true, false, refl, sym, ◌∙◌, ap, subst, arith, List, [], ◌∷◌, ◌++◌, map, inl, inr, if◌then◌else◌, Option, Some, None, zero, suc}
use Rattle.std.specs.Prelude.{◌==◌, is_some, unwrap_or}
use Rattle.std.specs.List.{slice_get}
use Rattle.std.specs.BTreeMap.{get}
use Rattle.std.specs.Option.{option_map}
use Rattle.std.specs.Ordering.{nat_cmp}
use Rattle.std.proofs.lemmas.Bool.{false≢true}
use Rattle.std.proofs.lemmas.List.{map-append}
use Rattle.hb_types.specs.declared.names.NodeName.{NodeName}
use Rattle.hb_types.specs.declared.change.Change.{Change}
use Rattle.hb_types.specs.declared.change.LogItem.{LogItem}
use Rattle.hb_types.specs.declared.change.LogItem.TheVariants as item
use Rattle.hb_types.specs.declared.change.Placed.{Placed}
use Rattle.hb_types.specs.declared.change.Stored.{Stored}
use Rattle.hb_types.specs.declared.lock.Held.{Held}
use Rattle.hb_types.specs.declared.names.Number.{Number}
use Rattle.hb_types.specs.declared.names.Tx.{Tx}
use Rattle.hb_types.specs.declared.places.Place.{Place}
use Rattle.hb_types.specs.Lists.{Has}
use Rattle.hb_types.specs.Put.{put_all}
use Rattle.hb_laws.specs.RowOrder.{AreAscending}
use Rattle.hb_store.specs.Meanings.{changes_in, count_at, room_for}
use Rattle.hb_disks.specs.LogRules.{BranchFits}
use Rattle.hb_disks.specs.Redo.{Prepared, Redone, after, changes_of, without_tx}
use Rattle.hb_engine.specs.Fits.{doubts_of, Stands}
use Rattle.hb_engine.specs.Restores.{Remembers, Restores, prepared_as}
use Rattle.hb_engine.specs.declared.engine.Engine.{Engine}
use Rattle.hb_engine.proofs.Branches.{append_none}
use Rattle.hb_engine.proofs.Restoring.{risen, alike}
use Rattle.hb_redo.specs.declared.pending.Pending.{Pending}
use Rattle.hb_redo.specs.Damage.{IsBad, count_ends, ends, left_by}
use Rattle.hb_redo.specs.Stages.{HasVotes, Votes, Redoes, Takes, VoteIs, changes_at, count_of}
use Rattle.hb_redo.proofs.Leaving.{IsEnd, ends_pass, goes_more, left_end, none_left, put_all_ascends, room_for-more, stays_more, votes_end, votes_more}

-- ---- what is remembered

pub at_risen : (e : Engine) (r : Redone) → Remembers e r → Stands e.slots e.locks e.floor r.rows (risen r)
at_risen e r has = has (risen r) (record { up = refl; no_live = refl; now_is = refl })

pub of_risen : (e : Engine) (r : Redone) → Stands e.slots e.locks e.floor r.rows (risen r) → Remembers e r
of_risen e r st s up = alike e.slots e.locks e.floor r.rows r (risen r) s (record { up = refl; no_live = refl; now_is = refl }) up st

pub with_rows : (e : Engine) (r : Redone) (rows : List Stored) → AreAscending rows → Remembers e r → Remembers e (record { rows = rows; floor = r.floor; doubts = r.doubts })
with_rows e r rows asc has =
    let st = at_risen e r has in
    of_risen e (record { rows = rows; floor = r.floor; doubts = r.doubts })
    (record { up = refl; rows_are = refl; ascending = asc; floor_is = st.floor_is; each = st.each; compatible = st.compatible })

-- ---- items of no branch

pub passes : (records : List Placed) (base : Place → ℕ) (d : Redone) (voted : List Prepared) (back : List LogItem) (rows : List Stored) (room : Place → ℕ) (m : Pending) (tx : Tx) (number : Number) (nodes : List NodeName)
    → Redoes records base d voted (item.Decision tx number nodes ∷ back) rows room m → Takes records base d voted (item.Decision tx number nodes) back rows room m true
passes records base d voted back rows room m tx number nodes r = (
  (λ bad. bad),
  subst (λ (v : List Prepared). Redoes records base d v back rows room m) (sym (append_none voted))
      (record { rows_are = r.rows_are; room_is = r.room_is; remembers = r.remembers; votes = r.votes; ends = r.ends; told = r.told }),
)

pub passes_ids : (records : List Placed) (base : Place → ℕ) (d : Redone) (voted : List Prepared) (back : List LogItem) (rows : List Stored) (room : Place → ℕ) (m : Pending) (upto : ℕ)
    → Redoes records base d voted (item.Ids upto ∷ back) rows room m → Takes records base d voted (item.Ids upto) back rows room m true
passes_ids records base d voted back rows room m upto r = (
  (λ bad. bad),
  subst (λ (v : List Prepared). Redoes records base d v back rows room m) (sym (append_none voted))
      (record { rows_are = r.rows_are; room_is = r.room_is; remembers = r.remembers; votes = r.votes; ends = r.ends; told = r.told }),
)

-- ---- ends

is_abort : (tx : Tx) → IsEnd tx.0 (item.Abort tx)
is_abort tx t = refl

is_commit : (tx : Tx) (number : Number) → IsEnd tx.0 (item.Commit tx number)
is_commit tx number t = refl

pub aborted : (records : List Placed) (base : Place → ℕ) (d : Redone) (voted : List Prepared) (back : List LogItem) (rows : List Stored) (room : Place → ℕ) (m m' : Pending) (tx : Tx)
    → m'.engine ≡ m.engine → m'.told ≡ m.told
    → ((t : ℕ) → get nat_cmp m'.votes t ≡ (if tx.0 == t then option_map (λ _. None) (get nat_cmp m.votes t) else get nat_cmp m.votes t))
    → ((t : ℕ) → count_of m'.ends t ≡ (if tx.0 == t then count_of m.ends t - 1 else count_of m.ends t))
    → Redoes records base d voted (item.Abort tx ∷ back) rows room m → Redoes records base (after d (item.Abort tx)) voted back rows room m'
aborted records base d voted back rows room m m' tx same_engine same_told votes ends r =
    let left : left_by (item.Abort tx ∷ back) d.doubts ≡ left_by back (without_tx tx.0 d.doubts) = left_end tx.0 (item.Abort tx) back d.doubts (is_abort tx) in
    record {
      rows_are = r.rows_are;
      room_is = λ place. r.room_is place ∙ ap (λ ds. base place + room_for place ds) left;
      remembers = subst (λ (e : Engine). Remembers e (record { rows = d.rows; floor = d.floor; doubts = left_by back (without_tx tx.0 d.doubts) })) (sym same_engine)
          (subst (λ (ds : List Prepared). Remembers m.engine (record { rows = d.rows; floor = d.floor; doubts = ds })) left r.remembers);
      votes = votes_end records m.votes m'.votes voted d.doubts tx.0 r.votes votes;
      ends = ends_pass m.ends m'.ends tx.0 (item.Abort tx) back (is_abort tx) r.ends ends;
      told = ap (map (λ (t : Tx). t.0)) same_told ∙ r.told ∙ ap (map (λ (p : Prepared). p.tx)) left;
    }

pub committed : (records : List Placed) (base : Place → ℕ) (d : Redone) (voted : List Prepared) (back : List LogItem) (rows rows' : List Stored) (room room' : Place → ℕ) (m m' : Pending) (tx : Tx) (number : Number) (changes : List Change)
    → ((r : Redone) → Remembers m.engine r → Remembers m'.engine (record { rows = r.rows; floor = max r.floor number.0; doubts = r.doubts })) → m'.told ≡ m.told
    → ((t : ℕ) → get nat_cmp m'.votes t ≡ (if tx.0 == t then option_map (λ _. None) (get nat_cmp m.votes t) else get nat_cmp m.votes t))
    → ((t : ℕ) → count_of m'.ends t ≡ (if tx.0 == t then count_of m.ends t - 1 else count_of m.ends t))
    → changes ≡ changes_of tx.0 d.doubts → rows' ≡ put_all rows changes → ((place : Place) → room' place ≡ room place)
    → Redoes records base d voted (item.Commit tx number ∷ back) rows room m → Redoes records base (after d (item.Commit tx number)) voted back rows' room' m'
committed records base d voted back rows rows' room room' m m' tx number changes raise same_told votes ends are applied same_room r =
    let left : left_by (item.Commit tx number ∷ back) d.doubts ≡ left_by back (without_tx tx.0 d.doubts) = left_end tx.0 (item.Commit tx number) back d.doubts (is_commit tx number) in
    let asc : AreAscending (put_all d.rows (changes_of tx.0 d.doubts)) = put_all_ascends (changes_of tx.0 d.doubts) d.rows (at_risen m.engine _ r.remembers).ascending in
    record {
      rows_are = applied ∙ ap (λ (z : List Stored). put_all z changes) r.rows_are ∙ ap (put_all d.rows) are;
      room_is = λ place. same_room place ∙ r.room_is place ∙ ap (λ ds. base place + room_for place ds) left;
      remembers = subst (λ (ds : List Prepared). Remembers m'.engine (record { rows = put_all d.rows (changes_of tx.0 d.doubts); floor = max d.floor number.0; doubts = ds })) left
          (raise (record { rows = put_all d.rows (changes_of tx.0 d.doubts); floor = d.floor; doubts = left_by (item.Commit tx number ∷ back) d.doubts })
          (with_rows m.engine (record { rows = d.rows; floor = d.floor; doubts = left_by (item.Commit tx number ∷ back) d.doubts }) (put_all d.rows (changes_of tx.0 d.doubts)) asc r.remembers));
      votes = votes_end records m.votes m'.votes voted d.doubts tx.0 r.votes votes;
      ends = ends_pass m.ends m'.ends tx.0 (item.Commit tx number) back (is_commit tx number) r.ends ends;
      told = ap (map (λ (t : Tx). t.0)) same_told ∙ r.told ∙ ap (map (λ (p : Prepared). p.tx)) left;
    }

pub ended_commit : (records : List Placed) (base : Place → ℕ) (d : Redone) (voted : List Prepared) (back : List LogItem) (rows : List Stored) (room : Place → ℕ) (m : Pending) (tx : Tx) (number : Number)
    → Redoes records base (after d (item.Commit tx number)) voted back rows room m → Takes records base d voted (item.Commit tx number) back rows room m true
ended_commit records base d voted back rows room m tx number s =
    ((λ bad. bad), subst (λ (v : List Prepared). Redoes records base (after d (item.Commit tx number)) v back rows room m) (sym (append_none voted)) s)

pub ended_abort : (records : List Placed) (base : Place → ℕ) (d : Redone) (voted : List Prepared) (back : List LogItem) (rows : List Stored) (room : Place → ℕ) (m : Pending) (tx : Tx)
    → Redoes records base (after d (item.Abort tx)) voted back rows room m → Takes records base d voted (item.Abort tx) back rows room m true
ended_abort records base d voted back rows room m tx s =
    ((λ bad. bad), subst (λ (v : List Prepared). Redoes records base (after d (item.Abort tx)) v back rows room m) (sym (append_none voted)) s)

-- ---- a vote

pub twice : (records : List Placed) (base : Place → ℕ) (d : Redone) (voted : List Prepared) (back : List LogItem) (rows : List Stored) (room : Place → ℕ) (m : Pending) (tx : Tx) (floor : Number) (locks : List Held) (changes : List Change) (o : Option (Option ℕ))
    → get nat_cmp m.votes tx.0 ≡ o → is_some o ≡ true → Redoes records base d voted (item.Prepare tx floor locks changes ∷ back) rows room m → IsBad voted d.doubts (item.Prepare tx floor locks changes) back
twice records base d voted back rows room m tx floor locks changes o e some r = by o some (subst (λ (z : Option (Option ℕ)). VoteIs records z (Has (λ q. q.tx ≡ tx.0) voted) (doubts_of tx.0 d.doubts)) e (r.votes tx.0))
  where
    by : (o : Option (Option ℕ)) → is_some o ≡ true → VoteIs records o (Has (λ q. q.tx ≡ tx.0) voted) (doubts_of tx.0 d.doubts) → IsBad voted d.doubts (item.Prepare tx floor locks changes) back
    by None t v = absurd (false≢true t)
    by (Some None) t v = inl v.0
    by (Some (Some n)) t v = inl v.0

module _ (records : List Placed) (base : Place → ℕ) (d : Redone) (voted : List Prepared) (back : List LogItem) (rows : List Stored) (room : Place → ℕ) (m : Pending) (votes' : Votes)
    (tx : Tx) (floor : Number) (locks : List Held) (changes : List Change) (index : ℕ) (first : get nat_cmp m.votes tx.0 ≡ None)
    (entered : (t : ℕ) → get nat_cmp votes' t ≡ (if tx.0 == t then Some (Some index) else get nat_cmp m.votes t)) (here : changes_at records index ≡ changes)
    (r : Redoes records base d voted (item.Prepare tx floor locks changes ∷ back) rows room m) where
  absent : (¬ (Has (λ q. q.tx ≡ tx.0) voted)) × (doubts_of tx.0 d.doubts ≡ [])
  absent = subst (λ (z : Option (Option ℕ)). VoteIs records z (Has (λ q. q.tx ≡ tx.0) voted) (doubts_of tx.0 d.doubts)) first (r.votes tx.0)

  votes_are : HasVotes records votes' (voted ++ prepared_as tx floor locks changes ∷ []) (d.doubts ++ prepared_as tx floor locks changes ∷ [])
  votes_are = votes_more records m.votes votes' voted d.doubts (prepared_as tx floor locks changes) index r.votes absent.1 here entered

  -- a later item ends it
  pub goes : (n : ℕ) → n ≡ count_of m.ends tx.0 → 0 < n
      → Takes records base d voted (item.Prepare tx floor locks changes) back rows room (record { engine = m.engine; told = m.told; votes = votes'; ends = m.ends }) true
  goes n is more =
      let some : count_ends tx.0 back ≢ 0 = λ e. (let none : n ≡ 0 = is ∙ r.ends tx.0 ∙ e in omega (arith, none, more)) in
      let left : left_by back (d.doubts ++ prepared_as tx floor locks changes ∷ []) ≡ left_by back d.doubts = goes_more back d.doubts (prepared_as tx floor locks changes) some in (
        not_bad some,
        record {
          rows_are = r.rows_are;
          room_is = λ place. r.room_is place ∙ ap (λ ds. base place + room_for place ds) (sym left);
          remembers = subst (λ (ds : List Prepared). Remembers m.engine (record { rows = d.rows; floor = d.floor; doubts = ds })) (sym left) r.remembers;
          votes = votes_are;
          ends = r.ends;
          told = r.told ∙ ap (map (λ (p : Prepared). p.tx)) (sym left);
        },
      )
    where
      not_bad : count_ends tx.0 back ≢ 0 → IsBad voted d.doubts (item.Prepare tx floor locks changes) back → ⊥
      not_bad some (inl h) = absent.0 h
      not_bad some (inr b) = some b.0

  pub none_of_it : doubts_of tx.0 (left_by back d.doubts) ≡ []
  none_of_it = none_left tx.0 back d.doubts absent.1

  -- it stays in doubt
  pub stays : (n : ℕ) → n ≡ count_of m.ends tx.0 → (0 < n → ⊥) → (engine' : Engine) (told' : List Tx) (rows' : List Stored) (room' : Place → ℕ) → told' ≡ m.told ++ tx ∷ [] → rows' ≡ rows
      → ((place : Place) → room' place ≡ room place + count_at place changes) → Restores engine' (record { rows = d.rows; floor = d.floor; doubts = left_by back d.doubts }) (prepared_as tx floor locks changes) true
      → Takes records base d voted (item.Prepare tx floor locks changes) back rows' room' (record { engine = engine'; told = told'; votes = votes'; ends = m.ends }) true
  stays n is none engine' told' rows' room' more same_rows grown restored =
      let zero : count_ends tx.0 back ≡ 0 = sym (r.ends tx.0) ∙ sym is ∙ (let e : n ≡ 0 = at_most n none in e) in
      let left : left_by back (d.doubts ++ prepared_as tx floor locks changes ∷ []) ≡ left_by back d.doubts ++ prepared_as tx floor locks changes ∷ [] = stays_more back d.doubts (prepared_as tx floor locks changes) zero in (
        not_bad restored.0,
        record {
          rows_are = same_rows ∙ r.rows_are;
          room_is = room_now left;
          remembers = subst (λ (ds : List Prepared). Remembers engine' (record { rows = d.rows; floor = d.floor; doubts = ds })) (sym left) restored.1;
          votes = votes_are;
          ends = r.ends;
          told = ap (map (λ (t : Tx). t.0)) more ∙ map-append (λ (t : Tx). t.0) m.told (tx ∷ []) ∙ ap (λ z. z ++ tx.0 ∷ []) r.told
              ∙ sym (ap (map (λ (p : Prepared). p.tx)) left ∙ map-append (λ (p : Prepared). p.tx) (left_by back d.doubts) (prepared_as tx floor locks changes ∷ []));
        },
      )
    where
      at_most : (n : ℕ) → (0 < n → ⊥) → n ≡ 0
      at_most zero f = refl
      at_most (suc k) f = absurd (f (omega arith))

      not_bad : BranchFits (left_by back d.doubts) (prepared_as tx floor locks changes) → IsBad voted d.doubts (item.Prepare tx floor locks changes) back → ⊥
      not_bad fits (inl h) = absent.0 h
      not_bad fits (inr b) = b.1 fits

      room_now : left_by back (d.doubts ++ prepared_as tx floor locks changes ∷ []) ≡ left_by back d.doubts ++ prepared_as tx floor locks changes ∷ []
          → (place : Place) → room' place ≡ base place + room_for place (left_by back (d.doubts ++ prepared_as tx floor locks changes ∷ []))
      room_now left place =
          let old : room place ≡ base place + room_for place (left_by back d.doubts) = r.room_is place in
          let new : room' place ≡ room place + count_at place changes = grown place in
          let more : room_for place (left_by back d.doubts ++ prepared_as tx floor locks changes ∷ []) ≡ room_for place (left_by back d.doubts) + count_at place changes =
          room_for-more place (left_by back d.doubts) (prepared_as tx floor locks changes) in
          let sum : room' place ≡ base place + room_for place (left_by back d.doubts ++ prepared_as tx floor locks changes ∷ []) = omega (arith, old, new, more) in
          sum ∙ ap (λ ds. base place + room_for place ds) (sym left)

  pub misfits : (n : ℕ) → n ≡ count_of m.ends tx.0 → (0 < n → ⊥) → (BranchFits (left_by back d.doubts) (prepared_as tx floor locks changes) → ⊥) → IsBad voted d.doubts (item.Prepare tx floor locks changes) back
  misfits n is none wrong = inr (sym (r.ends tx.0) ∙ sym is ∙ at_most n none, wrong)
    where
      at_most : (n : ℕ) → (0 < n → ⊥) → n ≡ 0
      at_most zero f = refl
      at_most (suc k) f = absurd (f (omega arith))

  pub kept : (n : ℕ) → n ≡ count_of m.ends tx.0 → (0 < n → ⊥) → (engine' : Engine) (told' : List Tx) (rows' : List Stored) (room' : Place → ℕ) → told' ≡ m.told ++ tx ∷ [] → rows' ≡ rows
      → ((place : Place) → room' place ≡ room place + count_at place changes)
      → (fits : Bool) → Restores engine' (record { rows = d.rows; floor = d.floor; doubts = left_by back d.doubts }) (prepared_as tx floor locks changes) fits
      → Takes records base d voted (item.Prepare tx floor locks changes) back rows' room' (record { engine = engine'; told = told'; votes = votes'; ends = m.ends }) fits
  kept n is none engine' told' rows' room' more same_rows grown true restored = stays n is none engine' told' rows' room' more same_rows grown restored
  kept n is none engine' told' rows' room' more same_rows grown false restored = misfits n is none restored

-- ---- a record

pub changes_here : (records : List Placed) (index : ℕ) (i : LogItem) → option_map (λ (p : Placed). p.item) (slice_get records index) ≡ Some i → changes_at records index ≡ changes_in i
changes_here records index i e = by (slice_get records index) e
  where
    none_some : (i : LogItem) → ◌≡◌ {A = Option LogItem} None (Some i) → ⊥
    none_some i e = cc

    same : (i j : LogItem) → ◌≡◌ {A = Option LogItem} (Some i) (Some j) → i ≡ j
    same i j e = cc

    by : (o : Option Placed) → option_map (λ (p : Placed). p.item) o ≡ Some i → unwrap_or (option_map (λ (p : Placed). changes_in p.item) o) [] ≡ changes_in i
    by None e = absurd (none_some i e)
    by (Some p) e = ap changes_in (same p.item i e)
