-- The records of a log, redone one after another.
use Rattle.std.proofs.Common.{◌≡◌, ℕ, suc, ◌+◌, ◌*◌, ◌<◌, ◌≤◌, true, false, refl, sym, ◌∙◌, ap, subst, arith, List, [], ◌∷◌, ◌++◌, map, length, take, drop, get_or, inl, inr, Option, Some, None, Result, Err}
use Rattle.std.specs.Prelude.{IsSomeAnd}
use Rattle.std.specs.List.{slice_get}
use Rattle.std.specs.BTreeMap.{get, is_at}
use Rattle.std.specs.Map.{lookup}
use Rattle.std.specs.Option.{option_map}
use Rattle.std.specs.Ordering.{nat_cmp}
use Rattle.std.proofs.lemmas.Bool.{cases_lt}
use Rattle.std.proofs.lemmas.List.{drop_more}
use Rattle.std.proofs.lemmas.Option.{slice_get_read, slice_get_within}
use Rattle.hb_types.specs.declared.change.Placed.{Placed}
use Rattle.hb_types.specs.declared.change.Stored.{Stored}
use Rattle.hb_types.specs.declared.names.Number.{Number}
use Rattle.hb_types.specs.declared.names.Tx.{Tx}
use Rattle.hb_types.specs.declared.places.Place.{Place}
use Rattle.hb_types.specs.Lists.{Has}
use Rattle.hb_types.specs.Numbers.{greatest}
use Rattle.hb_laws.specs.RowOrder.{AreAscending}
use Rattle.hb_disks.specs.Redo.{Prepared, Redone, after, doubts, redo_from}
use Rattle.hb_disks.specs.Says.{prepares}
use Rattle.hb_disks.proofs.Fold.{redo_from-append, prepares-append}
use Rattle.hb_store.specs.Meanings.{room_for}
use Rattle.hb_runs.specs.Server.{SState}
use Rattle.hb_engine.specs.Restores.{IsUpWith, Remembers}
use Rattle.hb_engine.specs.Turned.{IsFresh, StandsFor}
use Rattle.hb_redo.specs.declared.fault.RedoFault.{RedoFault}
use Rattle.hb_redo.specs.declared.fault.RedoFault.TheVariants as fault
use Rattle.hb_redo.specs.declared.pending.Pending.{Pending}
use Rattle.hb_redo.specs.declared.restart.Restarted.{Restarted}
use Rattle.hb_redo.specs.Damage.{FirstBad, IsBad, IsBadAt, IsDamaged, NoneBad, items_of, left_by}
use Rattle.hb_redo.specs.Restarts.{point_with}
use Rattle.hb_redo.specs.Stages.{CountsEnds, Redoes, Takes, VoteIs, Votes}
use Rattle.hb_redo.proofs.Leaving.{items_taken, same_doubts}

pub none_there : (votes : Votes) → votes.entries ≡ [] → (tx : ℕ) → get nat_cmp votes tx ≡ None
none_there votes e tx = ap (λ es. lookup (is_at (nat_cmp tx)) es) e

pub record Walked (records : List Placed) (base : Place → ℕ) (r : Redone) (k : ℕ) (rows : List Stored) (room : Place → ℕ) (m : Pending) : Type 0 where
  pub at : Redoes records base (redo_from r (items_of (take k records))) (prepares (items_of (take k records))) (items_of (drop k records)) rows room m
  pub none_bad : (n : ℕ) → n < k → IsBadAt records n → ⊥

pub begins : (records : List Placed) (rows : List Stored) (floor : Number) (room : Place → ℕ) (m : Pending) → AreAscending rows
    → ((rows : List Stored) (s : SState) → IsFresh rows floor s → StandsFor m.engine rows s) → m.told ≡ [] → ((tx : ℕ) → get nat_cmp m.votes tx ≡ None) → CountsEnds m.ends (items_of records)
    → Walked records room (point_with rows floor) 0 rows room m
begins records rows floor room m asc fresh told votes ends = record {
  at = record {
    rows_are = refl;
    room_is = λ place. omega arith;
    remembers = λ s up. fresh rows s (record {
      up = up.up;
      no_live = up.no_live;
      no_doubts = ap (λ (x : Redone). x.doubts) up.now_is;
      rows_are = sym (ap (λ (x : Redone). x.rows) up.now_is);
      ascending = asc;
      floor_is = sym (ap (λ (x : Redone). x.floor) up.now_is);
    });
    votes = λ tx. subst (λ (o : Option (Option ℕ)). VoteIs records o (Has (λ (q : Prepared). q.tx ≡ tx) []) []) (sym (votes tx)) ((λ h. h), refl);
    ends = ends;
    told = ap (map (λ (t : Tx). t.0)) told;
  };
  none_bad = λ n lt. absurd (omega (arith, lt));
}

module _ (records : List Placed) (base : Place → ℕ) (r : Redone) (k : ℕ) (rows : List Stored) (room : Place → ℕ) (m : Pending) (none : r.doubts ≡ []) (p : Placed) (inside : k < length records) (here : p ≡ get_or records k p)
    (walked : Walked records base r k rows room m) where
  pub is_here : slice_get records k ≡ Some p
  is_here = slice_get_read records (length records) k p refl inside here

  taken : items_of (take (k + 1) records) ≡ items_of (take k records) ++ p.item ∷ []
  taken = items_taken records k p inside here

  behind : items_of (drop k records) ≡ p.item ∷ items_of (drop (k + 1) records)
  behind = ap items_of (drop_more records k p inside ∙ ap (λ q. q ∷ drop (k + 1) records) (sym here))

  pub now_at : Redoes records base (redo_from r (items_of (take k records))) (prepares (items_of (take k records))) (p.item ∷ items_of (drop (k + 1) records)) rows room m
  now_at = subst (λ back. Redoes records base (redo_from r (items_of (take k records))) (prepares (items_of (take k records))) back rows room m) behind walked.at

  alike : doubts (items_of (take k records)) ≡ (redo_from r (items_of (take k records))).doubts
  alike = same_doubts _ r (items_of (take k records)) (sym none)

  bad_at : IsBad (prepares (items_of (take k records))) (redo_from r (items_of (take k records))).doubts p.item (items_of (drop (k + 1) records)) → IsBadAt records k
  bad_at bad = subst (λ o. IsSomeAnd o (λ q. IsBad (prepares (items_of (take k records))) (doubts (items_of (take k records))) q.item (items_of (drop (k + 1) records)))) (sym is_here)
      (subst (λ ds. IsBad (prepares (items_of (take k records))) ds p.item (items_of (drop (k + 1) records))) (sym alike) bad)

  at_bad : IsBadAt records k → IsBad (prepares (items_of (take k records))) (redo_from r (items_of (take k records))).doubts p.item (items_of (drop (k + 1) records))
  at_bad bad = subst (λ ds. IsBad (prepares (items_of (take k records))) ds p.item (items_of (drop (k + 1) records))) alike
      (subst (λ o. IsSomeAnd o (λ q. IsBad (prepares (items_of (take k records))) (doubts (items_of (take k records))) q.item (items_of (drop (k + 1) records)))) is_here bad)

  pub next : (rows' : List Stored) (room' : Place → ℕ) (m' : Pending)
      → Takes records base (redo_from r (items_of (take k records))) (prepares (items_of (take k records))) p.item (items_of (drop (k + 1) records)) rows' room' m' true → Walked records base r (k + 1) rows' room' m'
  next rows' room' m' t = record { at = at; none_bad = none_bad }
    where
      given : after (redo_from r (items_of (take k records))) p.item ≡ redo_from r (items_of (take (k + 1) records))
      given = sym (ap (redo_from r) taken ∙ redo_from-append r (items_of (take k records)) (p.item ∷ []))

      voted : prepares (items_of (take k records)) ++ prepares (p.item ∷ []) ≡ prepares (items_of (take (k + 1) records))
      voted = sym (ap prepares taken ∙ prepares-append (items_of (take k records)) (p.item ∷ []))

      at : Redoes records base (redo_from r (items_of (take (k + 1) records))) (prepares (items_of (take (k + 1) records))) (items_of (drop (k + 1) records)) rows' room' m'
      at =
          subst (λ d. Redoes records base d (prepares (items_of (take (k + 1) records))) (items_of (drop (k + 1) records)) rows' room' m') given
          (subst (λ v. Redoes records base (after (redo_from r (items_of (take k records))) p.item) v (items_of (drop (k + 1) records)) rows' room' m') voted t.1)

      none_bad : (n : ℕ) → n < k + 1 → IsBadAt records n → ⊥
      none_bad n lt bad = elim (cases_lt n k) [
        | inl less ↦ walked.none_bad n less bad
        | inr most ↦ let same : n ≡ k = omega (arith, lt, most) in t.0 (at_bad (subst (IsBadAt records) same bad))
      ]

  pub bad_here : (place : ℕ) → p.place ≡ place
      → Takes records base (redo_from r (items_of (take k records))) (prepares (items_of (take k records))) p.item (items_of (drop (k + 1) records)) rows room m false → FirstBad records place
  bad_here place is bad = record {
    nth = k;
    bad = bad_at bad;
    earlier = walked.none_bad;
    place_is = ap (option_map (λ (q : Placed). q.place)) is_here ∙ ap (λ n. Some n) is;
  }

-- ---- why not

pub same_place : (a b : ℕ) → ◌≡◌ {A = Result Restarted RedoFault} (Err (fault.Damaged a)) (Err (fault.Damaged b)) → a ≡ b
same_place a b e = cc

-- ---- at the end

module _ (records : List Placed) (base : Place → ℕ) (r : Redone) (rows : List Stored) (room : Place → ℕ) (m : Pending) (walked : Walked records base r (length records) rows room m) where
  all : take (length records) records ≡ records
  all = take_all records
    where
      take_all : (xs : List Placed) → take (length xs) xs ≡ xs
      take_all [] = refl
      take_all (x ∷ xs) = ap (λ ys. x ∷ ys) (take_all xs)

  none : drop (length records) records ≡ []
  none = drop_all records
    where
      drop_all : (xs : List Placed) → drop (length xs) xs ≡ []
      drop_all [] = refl
      drop_all (x ∷ xs) = drop_all xs

  kept : (ps : List Prepared) → left_by [] ps ≡ ps
  kept [] = refl
  kept (p ∷ ps) = ap (λ z. p ∷ z) (kept ps)

  at_end : Redoes records base (redo_from r (items_of records)) (prepares (items_of (take (length records) records))) [] rows room m
  at_end =
      subst (λ (l : List Placed). Redoes records base (redo_from r (items_of l)) (prepares (items_of (take (length records) records))) [] rows room m) all
      (subst (λ (l : List Placed). Redoes records base (redo_from r (items_of (take (length records) records))) (prepares (items_of (take (length records) records))) (items_of l) rows room m) none walked.at)

  pub rows_end : rows ≡ (redo_from r (items_of records)).rows
  rows_end = at_end.rows_are

  pub room_end : (place : Place) → room place ≡ base place + room_for place (redo_from r (items_of records)).doubts
  room_end place = at_end.room_is place ∙ ap (λ ds. base place + room_for place ds) (kept (redo_from r (items_of records)).doubts)

  pub told_end : map (λ t. t.0) m.told ≡ map (λ p. p.tx) (redo_from r (items_of records)).doubts
  told_end = at_end.told ∙ ap (map (λ (p : Prepared). p.tx)) (kept (redo_from r (items_of records)).doubts)

  pub stands_end : (s : SState) → IsUpWith (redo_from r (items_of records)) s → StandsFor m.engine rows s
  stands_end s up =
      subst (λ (l : List Stored). StandsFor m.engine l s) (sym rows_end)
      (subst (λ (ds : List Prepared). Remembers m.engine (record { rows = (redo_from r (items_of records)).rows; floor = (redo_from r (items_of records)).floor; doubts = ds })) (kept (redo_from r (items_of records)).doubts) at_end.remembers s up)

  pub right_end : NoneBad records
  right_end n bad = elim (cases_lt n (length records)) [
    | inl less ↦ walked.none_bad n less bad
    | inr most ↦ past (slice_get records n) refl bad most
  ]
    where
      past : (o : Option Placed) → slice_get records n ≡ o → IsBadAt records n → length records ≤ n → ⊥
      past None e bad most = subst (λ o. IsSomeAnd o (λ q. IsBad (prepares (items_of (take n records))) (doubts (items_of (take n records))) q.item (items_of (drop (n + 1) records)))) e bad
      past (Some p) e bad most = let lt : n < length records = slice_get_within records n p e in omega (arith, lt, most)

  pub count_end : length m.told ≡ length (redo_from r (items_of records)).doubts
  count_end = sym (same (λ (t : Tx). t.0) m.told) ∙ ap length told_end ∙ same (λ (p : Prepared). p.tx) (redo_from r (items_of records)).doubts
    where
      same : {A : Type 0} (f : A → ℕ) (xs : List A) → length (map f xs) ≡ length xs
      same f [] = refl
      same f (x ∷ xs) = ap suc (same f xs)

  pub no_room : (end place : ℕ) → end ≡ place → greatest < end + 32 * length m.told → r.doubts ≡ [] → IsDamaged records end place
  no_room end place is over empty =
      let same : (redo_from r (items_of records)).doubts ≡ doubts (items_of records) = sym (same_doubts _ r (items_of records) (sym empty)) in
      let count : length m.told ≡ length (doubts (items_of records)) = count_end ∙ ap length same in
      let most : greatest < end + 32 * length (doubts (items_of records)) = omega (arith, over, count) in
      inr (right_end, sym is, most)
