-- The branches that items leave in doubt, their room, and the changes of each.
use Rattle.std.proofs.Common.{◌≡◌, ◌≢◌, ℕ, zero, suc, ◌+◌, ◌-◌, ◌<◌, ◌≤◌, Bool, length, take, get_or, true, false, refl, sym, ◌∙◌, ap, subst, arith, List, [], ◌∷◌, ◌++◌, inl, inr, if◌then◌else◌, Option, Some, None}
use Rattle.std.specs.Prelude.{◌==◌}
use Rattle.std.specs.BTreeMap.{get}
use Rattle.std.specs.Option.{option_map}
use Rattle.std.specs.Ordering.{nat_cmp}
use Rattle.std.proofs.lemmas.Bool.{eq-eqb, ne_eqb}
use Rattle.hb_types.specs.declared.change.Change.{Change}
use Rattle.hb_types.specs.declared.change.LogItem.{LogItem}
use Rattle.hb_types.specs.declared.change.LogItem.TheVariants as item
use Rattle.hb_types.specs.declared.change.Placed.{Placed}
use Rattle.hb_types.specs.declared.change.Stored.{Stored}
use Rattle.hb_types.specs.declared.places.Place.{Place}
use Rattle.hb_types.specs.Lists.{Has, IsIn}
use Rattle.hb_types.specs.Put.{put, put_all}
use Rattle.hb_types.proofs.Ascending.{Has-front, Has-back}
use Rattle.hb_types.proofs.PutLaws.{by_test}
use Rattle.hb_laws.specs.RowOrder.{AreAscending}
use Rattle.hb_laws.proofs.RowLaws.{put_ascends}
use Rattle.hb_store.specs.Meanings.{count_at, room_for}
use Rattle.hb_disks.specs.Redo.{Prepared, Redone, after, changes_or, changes_of, redo_from, without_tx}
use Rattle.hb_engine.specs.Fits.{doubts_of}
use Rattle.hb_engine.proofs.Branches.{by_same, doubt_in, doubt_out, doubts_of-more, doubts_of-without_same, doubts_of-without_other, of_doubts_of, append_none}
use Rattle.std.proofs.lemmas.List.{map-append}
use Rattle.hb_engine.proofs.Refilling.{next_taken}
use Rattle.hb_redo.specs.Damage.{count_ends, ends, items_of, left_by}
use Rattle.hb_redo.specs.Stages.{Counts, CountsEnds, Votes, HasVotes, VoteIs, changes_at, count_of, flat}

-- ---- one branch

pub keep : (back : List LogItem) (p : Prepared) (ps : List Prepared) (b : Bool) → (count_ends p.tx back == 0) ≡ b → left_by back (p ∷ ps) ≡ (if b then p ∷ left_by back ps else left_by back ps)
keep back p ps b e = ap (λ t. if t then p ∷ left_by back ps else left_by back ps) e

pub left_by-more : (back : List LogItem) (ps : List Prepared) (p : Prepared) → left_by back (ps ++ p ∷ []) ≡ left_by back ps ++ left_by back (p ∷ [])
left_by-more back [] p = refl
left_by-more back (q ∷ qs) p =
    by_test (count_ends q.tx back == 0)
    (λ t. keep back q (qs ++ p ∷ []) true t ∙ ap (λ z. q ∷ z) (left_by-more back qs p) ∙ sym (ap (λ z. z ++ left_by back (p ∷ [])) (keep back q qs true t)))
    (λ f. keep back q (qs ++ p ∷ []) false f ∙ left_by-more back qs p ∙ sym (ap (λ z. z ++ left_by back (p ∷ [])) (keep back q qs false f)))

-- a branch more stays, or an item behind ends it
pub stays_more : (back : List LogItem) (ps : List Prepared) (p : Prepared) → count_ends p.tx back ≡ 0 → left_by back (ps ++ p ∷ []) ≡ left_by back ps ++ p ∷ []
stays_more back ps p e = left_by-more back ps p ∙ ap (λ z. left_by back ps ++ z) (keep back p [] true (eq-eqb (count_ends p.tx back) 0 e))

pub goes_more : (back : List LogItem) (ps : List Prepared) (p : Prepared) → count_ends p.tx back ≢ 0 → left_by back (ps ++ p ∷ []) ≡ left_by back ps
goes_more back ps p n =
    left_by-more back ps p ∙ ap (λ z. left_by back ps ++ z) (keep back p [] false (ne_eqb (count_ends p.tx back) 0 n)) ∙ append_none (left_by back ps)

-- ---- an end

abbrev pub IsEnd : ℕ → LogItem → Type 0
IsEnd tx i = (t : ℕ) → ends t i ≡ (tx == t)

count_here : (t : ℕ) (i : LogItem) (back : List LogItem) → ends t i ≡ true → count_ends t (i ∷ back) ≡ count_ends t back + 1
count_here t i back e = ap (λ b. if b then count_ends t back + 1 else count_ends t back) e

count_there : (t : ℕ) (i : LogItem) (back : List LogItem) → ends t i ≡ false → count_ends t (i ∷ back) ≡ count_ends t back
count_there t i back e = ap (λ b. if b then count_ends t back + 1 else count_ends t back) e

not_none : (n : ℕ) → (n + 1 == 0) ≡ false
not_none n = ne_eqb (n + 1) 0 (λ e. omega (arith, e))

pub left_end : (tx : ℕ) (i : LogItem) (back : List LogItem) (ps : List Prepared) → IsEnd tx i → left_by (i ∷ back) ps ≡ left_by back (without_tx tx ps)
left_end tx i back [] is_end = refl
left_end tx i back (p ∷ ps) is_end =
    by_same p.tx tx
    (λ s. keep (i ∷ back) p ps false (ap (λ n. n == 0) (count_here p.tx i back (is_end p.tx ∙ eq-eqb tx p.tx (sym s))) ∙ not_none (count_ends p.tx back))
    ∙ left_end tx i back ps is_end ∙ sym (ap (λ z. left_by back (if z then without_tx tx ps else p ∷ without_tx tx ps)) (eq-eqb p.tx tx s)))
    (λ n. let same : (count_ends p.tx (i ∷ back) == 0) ≡ (count_ends p.tx back == 0) = ap (λ n. n == 0) (count_there p.tx i back (is_end p.tx ∙ ne_eqb tx p.tx (λ e. n (sym e)))) in
    let out : left_by back (without_tx tx (p ∷ ps)) ≡ left_by back (p ∷ without_tx tx ps) = ap (λ z. left_by back (if z then without_tx tx ps else p ∷ without_tx tx ps)) (ne_eqb p.tx tx n) in
    by_test (count_ends p.tx back == 0)
    (λ t. keep (i ∷ back) p ps true (same ∙ t) ∙ ap (λ z. p ∷ z) (left_end tx i back ps is_end) ∙ sym (out ∙ keep back p (without_tx tx ps) true t))
    (λ f. keep (i ∷ back) p ps false (same ∙ f) ∙ left_end tx i back ps is_end ∙ sym (out ∙ keep back p (without_tx tx ps) false f)))

pub ends_pass : (counts counts' : Counts) (tx : ℕ) (i : LogItem) (back : List LogItem) → IsEnd tx i → CountsEnds counts (i ∷ back)
    → ((t : ℕ) → count_of counts' t ≡ (if tx == t then count_of counts t - 1 else count_of counts t)) → CountsEnds counts' back
ends_pass counts counts' tx i back is_end has new t =
    by_same tx t
    (λ s. let one : count_of counts t ≡ count_ends t back + 1 = has t ∙ count_here t i back (is_end t ∙ eq-eqb tx t s) in
    let less : count_of counts t - 1 ≡ count_ends t back = omega (arith, one) in
    new t ∙ ap (λ b. if b then count_of counts t - 1 else count_of counts t) (eq-eqb tx t s) ∙ less)
    (λ n. new t ∙ ap (λ b. if b then count_of counts t - 1 else count_of counts t) (ne_eqb tx t n) ∙ has t ∙ count_there t i back (is_end t ∙ ne_eqb tx t n))

-- ---- the branches of one transaction

filled : (p : Prepared) (ps : List Prepared) → p ∷ ps ≡ [] → ⊥
filled p ps e = cc

pub none_left : (tx : ℕ) (back : List LogItem) (ps : List Prepared) → doubts_of tx ps ≡ [] → doubts_of tx (left_by back ps) ≡ []
none_left tx back [] e = refl
none_left tx back (p ∷ ps) e =
    by_same p.tx tx
    (λ s. absurd (filled p (doubts_of tx ps) (sym (doubt_in tx p ps s) ∙ e)))
    (λ n. let rest = none_left tx back ps (sym (doubt_out tx p ps n) ∙ e) in
    by_test (count_ends p.tx back == 0)
    (λ t. ap (doubts_of tx) (keep back p ps true t) ∙ doubt_out tx p (left_by back ps) n ∙ rest)
    (λ f. ap (doubts_of tx) (keep back p ps false f) ∙ rest))

changes_or_of : (old : List Change) (tx : ℕ) (ps : List Prepared) → changes_or old tx ps ≡ changes_or old tx (doubts_of tx ps)
changes_or_of old tx [] = refl
changes_or_of old tx (p ∷ ps) =
    by_same p.tx tx
    (λ s. ap (λ b. changes_or (if b then p.changes else old) tx ps) (eq-eqb p.tx tx s) ∙ changes_or_of p.changes tx ps
    ∙ sym (ap (changes_or old tx) (doubt_in tx p ps s) ∙ ap (λ b. changes_or (if b then p.changes else old) tx (doubts_of tx ps)) (eq-eqb p.tx tx s)))
    (λ n. ap (λ b. changes_or (if b then p.changes else old) tx ps) (ne_eqb p.tx tx n) ∙ changes_or_of old tx ps ∙ sym (ap (changes_or old tx) (doubt_out tx p ps n)))

pub changes_of_none : (tx : ℕ) (ps : List Prepared) → doubts_of tx ps ≡ [] → changes_of tx ps ≡ []
changes_of_none tx ps e = changes_or_of [] tx ps ∙ ap (changes_or [] tx) e

pub changes_of_one : (tx : ℕ) (ps : List Prepared) (p : Prepared) → doubts_of tx ps ≡ p ∷ [] → changes_of tx ps ≡ p.changes
changes_of_one tx ps p e =
    let mine = (of_doubts_of tx p ps (subst (λ (z : List Prepared). IsIn p z) (sym e) (inl refl))).1 in
    changes_or_of [] tx ps ∙ ap (changes_or [] tx) e ∙ ap (λ b. if b then p.changes else []) (eq-eqb p.tx tx mine)

-- ---- votes

same_vote : (records : List Placed) (o : Option (Option ℕ)) (V W : Type 0) (ds : List Prepared) → (V → W) → (W → V) → VoteIs records o V ds → VoteIs records o W ds
same_vote records None V W ds f g v = ((λ w. v.0 (g w)), v.1)
same_vote records (Some None) V W ds f g v = (f v.0, v.1)
same_vote records (Some (Some n)) V W ds f g v = (f v.0, v.1, v.2, v.3)

has_parts : (t : ℕ) (ps : List Prepared) (p : Prepared) → p.tx ≢ t → Has (λ q. q.tx ≡ t) (ps ++ p ∷ []) → Has (λ q. q.tx ≡ t) ps
has_parts t [] p n (inl e) = absurd (n e)
has_parts t [] p n (inr h) = absurd h
has_parts t (q ∷ qs) p n (inl e) = inl e
has_parts t (q ∷ qs) p n (inr h) = inr (has_parts t qs p n h)

pub votes_more : (records : List Placed) (votes votes' : Votes) (voted ds : List Prepared) (p : Prepared) (index : ℕ) → HasVotes records votes voted ds → doubts_of p.tx ds ≡ [] → changes_at records index ≡ p.changes
    → ((t : ℕ) → get nat_cmp votes' t ≡ (if p.tx == t then Some (Some index) else get nat_cmp votes t)) → HasVotes records votes' (voted ++ p ∷ []) (ds ++ p ∷ [])
votes_more records votes votes' voted ds p index has none changes new t =
    by_same p.tx t
    (λ s. subst (λ (o : Option (Option ℕ)). VoteIs records o (Has (λ q. q.tx ≡ t) (voted ++ p ∷ [])) (doubts_of t (ds ++ p ∷ [])))
    (sym (new t ∙ ap (λ b. if b then Some (Some index) else get nat_cmp votes t) (eq-eqb p.tx t s))) (
      Has-back (λ q. q.tx ≡ t) voted (p ∷ []) (inl s),
      p,
      doubts_of-more t ds p ∙ ap (λ (z : List Prepared). z ++ doubts_of t (p ∷ [])) (ap (λ n. doubts_of n ds) (sym s) ∙ none) ∙ doubt_in t p [] s,
      changes,
    ))
    (λ n. subst (λ (o : Option (Option ℕ)). VoteIs records o (Has (λ q. q.tx ≡ t) (voted ++ p ∷ [])) (doubts_of t (ds ++ p ∷ [])))
    (sym (new t ∙ ap (λ b. if b then Some (Some index) else get nat_cmp votes t) (ne_eqb p.tx t n)))
    (subst (λ (z : List Prepared). VoteIs records (get nat_cmp votes t) (Has (λ q. q.tx ≡ t) (voted ++ p ∷ [])) z)
    (sym (doubts_of-more t ds p ∙ ap (λ (z : List Prepared). doubts_of t ds ++ z) (doubt_out t p [] n) ∙ append_none (doubts_of t ds)))
    (same_vote records (get nat_cmp votes t) (Has (λ q. q.tx ≡ t) voted) (Has (λ q. q.tx ≡ t) (voted ++ p ∷ [])) (doubts_of t ds)
    (Has-front (λ q. q.tx ≡ t) voted (p ∷ [])) (has_parts t voted p n) (has t))))

-- the changes of a transaction's branch in doubt
pub of_vote : (records : List Placed) (votes : Votes) (voted ds : List Prepared) (tx n : ℕ) → HasVotes records votes voted ds → flat (get nat_cmp votes tx) ≡ Some n → changes_at records n ≡ changes_of tx ds
of_vote records votes voted ds tx n has e = by (get nat_cmp votes tx) (has tx) e
  where
    none_some : ◌≡◌ {A = Option ℕ} None (Some n) → ⊥
    none_some e = cc

    same : (m : ℕ) → ◌≡◌ {A = Option ℕ} (Some m) (Some n) → m ≡ n
    same m e = cc

    by : (o : Option (Option ℕ)) → VoteIs records o (Has (λ q. q.tx ≡ tx) voted) (doubts_of tx ds) → flat o ≡ Some n → changes_at records n ≡ changes_of tx ds
    by None v e = absurd (none_some e)
    by (Some None) v e = absurd (none_some e)
    by (Some (Some m)) v e = ap (changes_at records) (sym (same m e)) ∙ v.3 ∙ sym (changes_of_one tx ds v.1 v.2)

pub of_none : (records : List Placed) (votes : Votes) (voted ds : List Prepared) (tx : ℕ) → HasVotes records votes voted ds → flat (get nat_cmp votes tx) ≡ None → changes_of tx ds ≡ []
of_none records votes voted ds tx has e = by (get nat_cmp votes tx) (has tx) e
  where
    some_none : (m : ℕ) → ◌≡◌ {A = Option ℕ} (Some m) None → ⊥
    some_none m e = cc

    by : (o : Option (Option ℕ)) → VoteIs records o (Has (λ q. q.tx ≡ tx) voted) (doubts_of tx ds) → flat o ≡ None → changes_of tx ds ≡ []
    by None v e = changes_of_none tx ds v.1
    by (Some None) v e = changes_of_none tx ds v.1
    by (Some (Some m)) v e = absurd (some_none m e)

settled : (records : List Placed) (o : Option (Option ℕ)) (V : Type 0) (ds ds' : List Prepared) → ds' ≡ [] → VoteIs records o V ds → VoteIs records (option_map (λ _. None) o) V ds'
settled records None V ds ds' e v = (v.0, e)
settled records (Some None) V ds ds' e v = (v.0, e)
settled records (Some (Some n)) V ds ds' e v = (v.0, e)

pub votes_end : (records : List Placed) (votes votes' : Votes) (voted ds : List Prepared) (tx : ℕ) → HasVotes records votes voted ds
    → ((t : ℕ) → get nat_cmp votes' t ≡ (if tx == t then option_map (λ _. None) (get nat_cmp votes t) else get nat_cmp votes t)) → HasVotes records votes' voted (without_tx tx ds)
votes_end records votes votes' voted ds tx has new t =
    by_same tx t
    (λ s. subst (λ (o : Option (Option ℕ)). VoteIs records o (Has (λ q. q.tx ≡ t) voted) (doubts_of t (without_tx tx ds)))
    (sym (new t ∙ ap (λ b. if b then option_map (λ _. None) (get nat_cmp votes t) else get nat_cmp votes t) (eq-eqb tx t s)))
    (settled records (get nat_cmp votes t) (Has (λ q. q.tx ≡ t) voted) (doubts_of t ds) (doubts_of t (without_tx tx ds))
    (ap (λ n. doubts_of t (without_tx n ds)) s ∙ doubts_of-without_same t ds) (has t)))
    (λ n. subst (λ (o : Option (Option ℕ)). VoteIs records o (Has (λ q. q.tx ≡ t) voted) (doubts_of t (without_tx tx ds)))
    (sym (new t ∙ ap (λ b. if b then option_map (λ _. None) (get nat_cmp votes t) else get nat_cmp votes t) (ne_eqb tx t n)))
    (subst (λ (z : List Prepared). VoteIs records (get nat_cmp votes t) (Has (λ q. q.tx ≡ t) voted) z) (sym (doubts_of-without_other t tx ds (λ e. n (sym e)))) (has t)))

-- ---- rows and room

pub put_all_ascends : (cs : List Change) (rows : List Stored) → AreAscending rows → AreAscending (put_all rows cs)
put_all_ascends [] rows a = a
put_all_ascends (c ∷ cs) rows a = put_all_ascends cs (put rows c) (put_ascends rows c a)

pub room_for-more : (place : Place) (ps : List Prepared) (p : Prepared) → room_for place (ps ++ p ∷ []) ≡ room_for place ps + count_at place p.changes
room_for-more place [] p = omega arith
room_for-more place (q ∷ qs) p = let rest : room_for place (qs ++ p ∷ []) ≡ room_for place qs + count_at place p.changes = room_for-more place qs p in omega (arith, rest)

-- ---- the branches in doubt don't depend on the rows

pub same_doubts : (r s : Redone) (items : List LogItem) → r.doubts ≡ s.doubts → (redo_from r items).doubts ≡ (redo_from s items).doubts
same_doubts r s [] e = e
same_doubts r s (i ∷ is) e = same_doubts (after r i) (after s i) is (step i)
  where
    step : (i : LogItem) → (after r i).doubts ≡ (after s i).doubts
    step (item.Prepare tx floor locks changes) = ap (λ ds. ds ++ record { tx = tx.0; floor = floor.0; locks = locks; changes = changes } ∷ []) e
    step (item.Commit tx number) = ap (without_tx tx.0) e
    step (item.Abort tx) = ap (without_tx tx.0) e
    step (item.Decision tx number nodes) = e
    step (item.Ids upto) = e

-- ---- ends that are counted

count_more : (t : ℕ) (xs : List LogItem) (i : LogItem) → count_ends t (xs ++ i ∷ []) ≡ (if ends t i then count_ends t xs + 1 else count_ends t xs)
count_more t [] i = refl
count_more t (x ∷ xs) i =
    by_test (ends t x)
    (λ e. count_here t x (xs ++ i ∷ []) e ∙ ap (λ n. n + 1) (count_more t xs i) ∙ push (ends t i) ∙ sym (ap (λ n. if ends t i then n + 1 else n) (count_here t x xs e)))
    (λ e. count_there t x (xs ++ i ∷ []) e ∙ count_more t xs i ∙ sym (ap (λ n. if ends t i then n + 1 else n) (count_there t x xs e)))
  where
    push : (b : Bool) → (if b then count_ends t xs + 1 else count_ends t xs) + 1 ≡ (if b then (count_ends t xs + 1) + 1 else count_ends t xs + 1)
    push true = refl
    push false = refl

pub count_few : (t : ℕ) (xs : List LogItem) → count_ends t xs ≤ length xs
count_few t [] = omega arith
count_few t (x ∷ xs) =
    let rest : count_ends t xs ≤ length xs = count_few t xs in
    by_test (ends t x)
    (λ e. let here : count_ends t (x ∷ xs) ≡ count_ends t xs + 1 = count_here t x xs e in omega (arith, here, rest))
    (λ e. let there : count_ends t (x ∷ xs) ≡ count_ends t xs = count_there t x xs e in omega (arith, there, rest))

pub counts_more : (counts counts' : Counts) (tx : ℕ) (i : LogItem) (items : List LogItem) → IsEnd tx i → CountsEnds counts items
    → ((t : ℕ) → count_of counts' t ≡ (if tx == t then count_of counts t + 1 else count_of counts t)) → CountsEnds counts' (items ++ i ∷ [])
counts_more counts counts' tx i items is_end has new t =
    new t ∙ ap (λ n. if tx == t then n + 1 else n) (has t) ∙ sym (count_more t items i ∙ ap (λ b. if b then count_ends t items + 1 else count_ends t items) (is_end t))

pub counts_same : (counts : Counts) (i : LogItem) (items : List LogItem) → ((t : ℕ) → ends t i ≡ false) → CountsEnds counts items → CountsEnds counts (items ++ i ∷ [])
counts_same counts i items other has t = has t ∙ sym (count_more t items i ∙ ap (λ b. if b then count_ends t items + 1 else count_ends t items) (other t))

pub items_taken : (records : List Placed) (k : ℕ) (p : Placed) → k < length records → p ≡ get_or records k p → items_of (take (k + 1) records) ≡ items_of (take k records) ++ p.item ∷ []
items_taken records k p inside here = ap items_of (next_taken records k p inside here) ∙ map-append (λ (q : Placed). q.item) (take k records) (p ∷ [])

pub items_few : (records : List Placed) (k : ℕ) → length (items_of (take k records)) ≤ length records
items_few [] k = none k
  where
    none : (k : ℕ) → length (items_of (take k [])) ≤ 0
    none zero = omega arith
    none (suc k) = omega arith
items_few (r ∷ rs) zero = omega arith
items_few (r ∷ rs) (suc k) = let rest : length (items_of (take k rs)) ≤ length rs = items_few rs k in omega (arith, rest)
