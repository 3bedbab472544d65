-- A history in two parts at a moment: what was over, and what was not.
use Rattle.std.proofs.Common.{◌≡◌, ◌⊎◌, ◌∙◌, ℕ, zero, suc, ◌<◌, ◌≤◌, true, false, List, [], ◌∷◌, ◌++◌, Some, ap, append-nil, arith, inl, inr, refl, subst, sym}
use Rattle.std.specs.Prelude.{slice_get, ◌==◌, Option, None}
use Rattle.std.specs.List.{AllZip}
use Rattle.std.proofs.lemmas.Bool.{eqb-true}
use Rattle.hb_types.specs.declared.answer.Answer.{Answer}
use Rattle.hb_types.specs.declared.trail.Call.{Call}
use Rattle.hb_types.specs.declared.trail.TrailEntry.{TrailEntry}
use Rattle.hb_types.specs.Lists.{Each}
use Rattle.hb_types.proofs.PutLaws.{by_test}
use Rattle.hb_law.specs.Histories.{Event, History, IsTimely, Labelled, Shown, Trails, calls, gives, shows, trail_in}
use Rattle.hb_law.specs.Moments.{BeginsWithCall, InProgress, IsNotOver, IsOver, IsTrailAt}
use Rattle.hb_whose.proofs.Parts.{none_some, some_is}
use Rattle.hb_whose.proofs.Trailing.{same_number}
use Rattle.hb_intime.proofs.Deeds.{trail_append}
use Rattle.hb_parts.specs.Moments.{HasCut}

-- ---- numbers

kinds : (a b : ℕ) → (a ≤ b) ⊎ (b < a)
kinds a b = grind arith

later : (m t f u : ℕ) → m < t → t ≤ f → f ≤ u → m < u
later m t f u p q r = omega (arith, p, q, r)

not_both : (a m : ℕ) → a ≤ m → m < a → ⊥
not_both a m p q = omega (arith, p, q)

-- ---- a history at a moment

record Halves (m : ℕ) (h : List Event) : Type 0 where
  done : List Event
  rest : List Event
  parts : h ≡ done ++ rest
  full : BeginsWithCall rest
  over : Each (IsOver m) done
  not_over : Each (IsNotOver m) rest
  timely : (t : ℕ) × IsTimely t rest

all_later : (m t : ℕ) (es : List Event) → m < t → IsTimely t es → Each (IsNotOver m) es
all_later m t [] lt i = tt
all_later m t (gives c p ∷ es) lt i = (tt, all_later m t es lt i)
all_later m t (shows c p r ∷ es) lt i = (tt, all_later m t es lt i)
all_later m t (calls c n entry ∷ es) lt i =
    let over = later m t entry.from entry.to lt i.0 i.1 in (over, all_later m entry.to es over i.2)

halves : (m t : ℕ) (h : List Event) → IsTimely t h → Halves m h
halves m t [] i = record { done = []; rest = []; parts = refl; full = tt; over = tt; not_over = tt; timely = (t, tt) }
halves m t (gives c p ∷ es) i =
    let k = halves m t es i in
    record { done = gives c p ∷ k.done; rest = k.rest; parts = ap (λ l. gives c p ∷ l) k.parts; full = k.full; over = (tt, k.over); not_over = k.not_over; timely = k.timely }
halves m t (shows c p r ∷ es) i =
    let k = halves m t es i in
    record { done = shows c p r ∷ k.done; rest = k.rest; parts = ap (λ l. shows c p r ∷ l) k.parts; full = k.full; over = (tt, k.over); not_over = k.not_over; timely = k.timely }
halves m t (calls c n entry ∷ es) i = by (kinds entry.to m) (halves m entry.to es i.2)
  where
    by : (entry.to ≤ m) ⊎ (m < entry.to) → Halves m es → Halves m (calls c n entry ∷ es)
    by (inl le) k =
        record {
          done = calls c n entry ∷ k.done;
          rest = k.rest;
          parts = ap (λ l. calls c n entry ∷ l) k.parts;
          full = k.full;
          over = (le, k.over);
          not_over = k.not_over;
          timely = k.timely;
        }
    by (inr lt) k =
        record { done = []; rest = calls c n entry ∷ es; parts = refl; full = tt; over = tt; not_over = (lt, all_later m entry.to es lt i.2); timely = (t, i) }

-- ---- the same of a trail

trail_over : (m node : ℕ) (es : List Event) → Each (IsOver m) es → Each (λ l. l.entry.to ≤ m) (trail_in node es)
trail_over m node [] e = tt
trail_over m node (gives c p ∷ es) e = trail_over m node es e.1
trail_over m node (shows c p r ∷ es) e = trail_over m node es e.1
trail_over m node (calls c n entry ∷ es) e = by_test (n == node) (λ t. rw t (e.0, trail_over m node es e.1)) (λ f. rw f (trail_over m node es e.1))

trail_not_over : (m node : ℕ) (es : List Event) → Each (IsNotOver m) es → Each (λ l. m < l.entry.to) (trail_in node es)
trail_not_over m node [] e = tt
trail_not_over m node (gives c p ∷ es) e = trail_not_over m node es e.1
trail_not_over m node (shows c p r ∷ es) e = trail_not_over m node es e.1
trail_not_over m node (calls c n entry ∷ es) e = by_test (n == node) (λ t. rw t (e.0, trail_not_over m node es e.1)) (λ f. rw f (trail_not_over m node es e.1))

-- behind a call that was not over nothing had begun
trail_later : (m t node : ℕ) (es : List Event) → m < t → IsTimely t es → Each (λ l. m < l.entry.from) (trail_in node es)
trail_later m t node [] lt i = tt
trail_later m t node (gives c p ∷ es) lt i = trail_later m t node es lt i
trail_later m t node (shows c p r ∷ es) lt i = trail_later m t node es lt i
trail_later m t node (calls c n entry ∷ es) lt i =
    let rest = trail_later m entry.to node es (later m t entry.from entry.to lt i.0 i.1) i.2 in
    by_test (n == node) (λ u. rw u (begun m t entry.from lt i.0, rest)) (λ f. rw f rest)
  where
    begun : (m t f : ℕ) → m < t → t ≤ f → m < f
    begun m t f p q = omega (arith, p, q)

-- a trail parts at a moment in one way
one_way : (m : ℕ) (xs ys us vs : List Labelled) → Each (λ l. l.entry.to ≤ m) xs → Each (λ l. m < l.entry.to) ys → Each (λ l. l.entry.to ≤ m) us → Each (λ l. m < l.entry.to) vs
    → xs ++ ys ≡ us ++ vs → (xs ≡ us) × (ys ≡ vs)
one_way m [] ys [] vs a b c d e = (refl, e)
one_way m [] ys (u ∷ us) vs a b c d e =
    absurd (not_both u.entry.to m c.0 (subst (Each (λ l. m < l.entry.to)) e b).0)
one_way m (x ∷ xs) ys [] vs a b c d e =
    absurd (not_both x.entry.to m a.0 (subst (Each (λ l. m < l.entry.to)) (sym e) d).0)
one_way m (x ∷ xs) ys (u ∷ us) vs a b c d e =
    let k = heads x u (xs ++ ys) (us ++ vs) e in
    let rest = one_way m xs ys us vs a.1 b c.1 d k.1 in
    (ap (λ z. z ∷ xs) k.0 ∙ ap (λ l. u ∷ l) rest.0, rest.1)
  where
    heads : (x u : Labelled) (xs us : List Labelled) → x ∷ xs ≡ u ∷ us → (x ≡ u) × (xs ≡ us)
    heads x u xs us e = (cc, cc)

zip_at : (m : ℕ) (trails fronts : Trails) (node : ℕ) (front : List Labelled) → AllZip (IsTrailAt m) trails fronts → slice_get fronts node ≡ Some front
    → (trail : List Labelled) × (slice_get trails node ≡ Some trail) × IsTrailAt m trail front
zip_at m [] [] node front z g = absurd (none_some front g)
zip_at m (t ∷ ts) [] node front z g = absurd (none_some front g)
zip_at m [] (f ∷ fs) node front z g = absurd z
zip_at m (t ∷ ts) (f ∷ fs) zero front z g = (t, refl, subst (IsTrailAt m t) (some_is f front g) z.0)
zip_at m (t ∷ ts) (f ∷ fs) (suc node) front z g = zip_at m ts fs node front z.1 g

-- ---- the cut

module _ (m : ℕ) (h : List Event) (trails fronts : Trails) (lists : List (List Call)) (lines : List Shown) (hist : History h trails lists lines) (z : AllZip (IsTrailAt m) trails fronts) where
  at_moment : Halves m h
  at_moment = halves m 0 h hist.timely

  -- what a node had answered by then
  record Had (k : Halves m h) (node : ℕ) (front : List Labelled) : Type 0 where
    last : (front ≡ trail_in node k.done) ⊎ InProgress m (trail_in node k.done) (trail_in node k.rest) front

  had : (k : Halves m h) (node : ℕ) (front : List Labelled) → slice_get fronts node ≡ Some front → Had k node front
  had k node front g = by (zip_at m trails fronts node front z g)
    where
      by : (trail : List Labelled) × (slice_get trails node ≡ Some trail) × IsTrailAt m trail front → Had k node front
      by y =
          let i = y.2 in
          let whole : i.done ++ i.rest ≡ trail_in node k.done ++ trail_in node k.rest = sym i.parts ∙ hist.are_trails node y.0 y.1 ∙ ap (trail_in node) k.parts ∙ trail_append node k.done k.rest in
          let same = one_way m i.done i.rest (trail_in node k.done) (trail_in node k.rest) i.over i.not_over (trail_over m node k.done k.over) (trail_not_over m node k.rest k.not_over) whole in
          record {
            last = subst (λ d. (front ≡ d) ⊎ InProgress m d (trail_in node k.rest) front) same.0 (subst (λ r. (front ≡ i.done) ⊎ InProgress m i.done r front) same.1 i.last);
          }

  -- none had one in progress
  without : (k : Halves m h) → ((node : ℕ) (front : List Labelled) → slice_get fronts node ≡ Some front → front ≡ trail_in node k.done) → HasCut m h fronts
  without k are =
      record {
        cut = k.done;
        is_cut = record { done = k.done; rest = k.rest; parts = k.parts; full = k.full; over = k.over; not_over = k.not_over; last = inl refl };
        are_trails = are;
        at_node = inl refl;
      }

  none_begun : (done rest front : List Labelled) → Each (λ l. m < l.entry.from) rest → InProgress m done rest front → ⊥
  none_begun done [] front e p = p
  none_begun done (l ∷ rest) front e p = not_both l.entry.from m p.0 e.0

  -- the call that was not over
  module _ (done : List Event) (c n : ℕ) (entry : TrailEntry) (more : List Event) (parts : h ≡ done ++ calls c n entry ∷ more) (over : Each (IsOver m) done)
      (not_over : Each (IsNotOver m) (calls c n entry ∷ more))
      (t : ℕ)
      (timely : IsTimely t (calls c n entry ∷ more)) where
    abbrev k : Halves m h
    k = record { done = done; rest = calls c n entry ∷ more; parts = parts; full = tt; over = over; not_over = not_over; timely = (t, timely) }

    other_done : (node : ℕ) (front : List Labelled) → (n == node) ≡ false → slice_get fronts node ≡ Some front → front ≡ trail_in node done
    other_done node front f g = by (had k node front g).last
      where
        none : Each (λ l. m < l.entry.from) (trail_in node (calls c n entry ∷ more))
        none = rw f (trail_later m entry.to node more not_over.0 timely.2)

        by : (front ≡ trail_in node done) ⊎ InProgress m (trail_in node done) (trail_in node (calls c n entry ∷ more)) front → front ≡ trail_in node done
        by (inl e) = e
        by (inr p) = absurd (none_begun (trail_in node done) (trail_in node (calls c n entry ∷ more)) front none p)

    -- with the answer that its node had for it
    with_answer : (front : List Labelled) → slice_get fronts n ≡ Some front → (a : Answer) → entry.from ≤ m
        → front ≡ trail_in n done ++ record { caller = c; entry = record entry { answer = a } } ∷ [] → HasCut m h fronts
    with_answer front g a begun is =
        record {
          cut = done ++ calls c n (record entry { answer = a }) ∷ [];
          is_cut =
              record {
                done = done;
                rest = calls c n entry ∷ more;
                parts = parts;
                full = tt;
                over = over;
                not_over = not_over;
                last = inr (begun, (a, refl));
              };
          are_trails = λ node other o. by_test (n == node) (λ t. same node other t o) (λ f. apart node other f o);
          at_node = inr (c, n, record entry { answer = a }, front, g, refl);
        }
      where
        one : trail_in n (calls c n (record entry { answer = a }) ∷ []) ≡ record { caller = c; entry = record entry { answer = a } } ∷ []
        one = let u = same_number n in rw u refl

        whole : front ≡ trail_in n (done ++ calls c n (record entry { answer = a }) ∷ [])
        whole = is ∙ ap (λ l. trail_in n done ++ l) (sym one) ∙ sym (trail_append n done (calls c n (record entry { answer = a }) ∷ []))

        same : (node : ℕ) (other : List Labelled) → (n == node) ≡ true → slice_get fronts node ≡ Some other → other ≡ trail_in node (done ++ calls c n (record entry { answer = a }) ∷ [])
        same node other t o =
            let e = eqb-true n node t in
            sym (some_is front other (sym g ∙ ap (slice_get fronts) e ∙ o)) ∙ whole ∙ ap (λ j. trail_in j (done ++ calls c n (record entry { answer = a }) ∷ [])) e

        apart : (node : ℕ) (other : List Labelled) → (n == node) ≡ false → slice_get fronts node ≡ Some other → other ≡ trail_in node (done ++ calls c n (record entry { answer = a }) ∷ [])
        apart node other f o =
            let nothing : trail_in node (calls c n (record entry { answer = a }) ∷ []) ≡ [] = rw f refl in
            other_done node other f o ∙ sym (append-nil (trail_in node done)) ∙ ap (λ l. trail_in node done ++ l) (sym nothing)
            ∙ sym (trail_append node done (calls c n (record entry { answer = a }) ∷ []))

    at_its_node : (front : List Labelled) → slice_get fronts n ≡ Some front → HasCut m h fronts
    at_its_node front g = by (had k n front g).last
      where
        first : trail_in n (calls c n entry ∷ more) ≡ record { caller = c; entry = entry } ∷ trail_in n more
        first = let u = same_number n in rw u refl

        mine : front ≡ trail_in n done → (node : ℕ) (other : List Labelled) → slice_get fronts node ≡ Some other → other ≡ trail_in node done
        mine e node other o =
            by_test (n == node)
            (λ t. let q = eqb-true n node t in sym (some_is front other (sym g ∙ ap (slice_get fronts) q ∙ o)) ∙ e ∙ ap (λ j. trail_in j done) q)
            (λ f. other_done node other f o)

        by : (front ≡ trail_in n done) ⊎ InProgress m (trail_in n done) (trail_in n (calls c n entry ∷ more)) front → HasCut m h fronts
        by (inl e) = without k (mine e)
        by (inr p) = let q = subst (λ r. InProgress m (trail_in n done) r front) first p in with_answer front g q.1.0 q.0 q.1.1

    of_node : (o : Option (List Labelled)) → slice_get fronts n ≡ o → HasCut m h fronts
    of_node (Some front) g = at_its_node front g
    of_node None g =
        without k
        (λ node front o. by_test (n == node) (λ t. absurd (none_some front (sym g ∙ ap (slice_get fronts) (eqb-true n node t) ∙ o))) (λ f. other_done node front f o))

  pub has_cut : HasCut m h fronts
  has_cut = by at_moment.done at_moment.rest at_moment.parts at_moment.full at_moment.over at_moment.not_over at_moment.timely.0 at_moment.timely.1
    where
      nothing_left : (done : List Event) (parts : h ≡ done ++ []) (over : Each (IsOver m) done) → HasCut m h fronts
      nothing_left done parts over =
          let k : Halves m h = record { done = done; rest = []; parts = parts; full = tt; over = over; not_over = tt; timely = (0, tt) } in
          without (record { done = done; rest = []; parts = parts; full = tt; over = over; not_over = tt; timely = (0, tt) })
          (λ node front g. elim (had (record { done = done; rest = []; parts = parts; full = tt; over = over; not_over = tt; timely = (0, tt) }) node front g).last [ inl e ↦ e | inr p ↦ absurd p ])

      by : (done rest : List Event) → h ≡ done ++ rest → BeginsWithCall rest → Each (IsOver m) done → Each (IsNotOver m) rest → (t : ℕ) → IsTimely t rest → HasCut m h fronts
      by done [] parts full over not_over t timely = nothing_left done parts over
      by done (calls c n entry ∷ more) parts full over not_over t timely = of_node done c n entry more parts over not_over t timely (slice_get fronts n) refl
      by done (gives c p ∷ more) parts full over not_over t timely = absurd full
      by done (shows c p r ∷ more) parts full over not_over t timely = absurd full
