-- What a caller did: in a history, and by its items.
use Rattle.std.proofs.Common.{◌≡◌, ◌⊎◌, ◌∙◌, ℕ, false, List, [], ◌∷◌, ◌++◌, ap, append_assoc, inl, inr, map, refl, subst, sym}
use Rattle.std.specs.Prelude.{◌==◌, filter, flat_map, not}
use Rattle.std.specs.Ordering.{nat_cmp}
use Rattle.std.specs.declared.cmp.Ordering.TheVariants.{Less}
use Rattle.std.proofs.lemmas.Bool.{eqb-true}
use Rattle.std.proofs.lemmas.Cmp.{nat_cmp_total}
use Rattle.hb_types.specs.declared.trail.Call.{Call}
use Rattle.hb_types.specs.declared.trail.TrailEntry.{TrailEntry}
use Rattle.hb_types.specs.Lists.{Ascends, IsIn}
use Rattle.hb_types.proofs.Ascending.{Ascends-first, Ascends-tail, Has-back, Has-front, in_Each, irreflexive}
use Rattle.hb_types.proofs.PutLaws.{by_test}
use Rattle.hb_loglaws.proofs.Members.{in_append, in_filter, in_map, map_in}
use Rattle.hb_model.specs.declared.reply.Reply.{Reply}
use Rattle.hb_model.specs.Items.{Item, calls_of}
use Rattle.hb_runs.specs.ServerRuns.{Asked}
use Rattle.hb_law.specs.Histories.{Event, Labelled, asked, asked_by, asked_of, calls, gives, shows, trail_in}
use Rattle.hb_law.specs.InTime.{Deed, asks, deeds_in, deeds_of, is_busy, places_in, says}
use Rattle.hb_whose.proofs.Parts.{is_there}
use Rattle.hb_whose.proofs.Trailing.{same_number}

-- ---- a member of a list in two parts

pub data Cut {A : Type 0} (us vs front : List A) (y : A) (back : List A) : Type 0 where
  inside : (more : List A) → us ≡ front ++ y ∷ more → Cut us vs front y back
  beyond : (done : List A) → front ≡ us ++ done → vs ≡ done ++ y ∷ back → Cut us vs front y back

heads : {A : Type 0} (x y : A) (xs ys : List A) → x ∷ xs ≡ y ∷ ys → (x ≡ y) × (xs ≡ ys)
heads x y xs ys e = (cc, cc)

pub cut : {A : Type 0} (us vs front : List A) (y : A) (back : List A) → us ++ vs ≡ front ++ y ∷ back → Cut us vs front y back
cut [] vs front y back e = beyond front refl e
cut (u ∷ us) vs [] y back e = inside us (ap (λ z. z ∷ us) (heads u y (us ++ vs) back e).0)
cut (u ∷ us) vs (f ∷ fs) y back e = longer (heads u f (us ++ vs) (fs ++ y ∷ back) e).0 (cut us vs fs y back (heads u f (us ++ vs) (fs ++ y ∷ back) e).1)
  where
    longer : u ≡ f → Cut us vs fs y back → Cut (u ∷ us) vs (f ∷ fs) y back
    longer q (inside more e) = inside more (ap (λ l. u ∷ l) e ∙ ap (λ z. z ∷ (fs ++ y ∷ more)) q)
    longer q (beyond done e k) = beyond done (ap (λ l. f ∷ l) e ∙ ap (λ z. z ∷ (us ++ done)) (sym q)) k

pub flat_append : {A B : Type 0} (f : A → List B) (xs ys : List A) → flat_map f (xs ++ ys) ≡ flat_map f xs ++ flat_map f ys
flat_append f [] ys = refl
flat_append f (x ∷ xs) ys = ap (λ l. f x ++ l) (flat_append f xs ys) ∙ sym (append_assoc (f x) (flat_map f xs) (flat_map f ys))

-- ---- in a history

pub deeds_append : (c : ℕ) (xs ys : List Event) → deeds_in c (xs ++ ys) ≡ deeds_in c xs ++ deeds_in c ys
deeds_append c [] ys = refl
deeds_append c (gives d p ∷ xs) ys = deeds_append c xs ys
deeds_append c (calls d n entry ∷ xs) ys =
    by_test (d == c)
    (λ t. rw t (ap (λ l. asks (record { node = record { 0 = n }; request = entry.request; answer = entry.answer }) ∷ l) (deeds_append c xs ys)))
    (λ f. rw f (deeds_append c xs ys))
deeds_append c (shows d p r ∷ xs) ys =
    by_test (d == c)
    (λ t. by_test (is_busy r) (λ b. rw (t, b) (deeds_append c xs ys)) (λ b. rw (t, b) (ap (λ l. says p r ∷ l) (deeds_append c xs ys))))
    (λ f. rw f (deeds_append c xs ys))

deeds_more : (c : ℕ) (d : Deed) (e : Event) (es : List Event) → IsIn d (deeds_in c es) → IsIn d (deeds_in c (e ∷ es))
deeds_more c d e es h = subst (IsIn d) (sym (deeds_append c (e ∷ []) es)) (Has-back (λ z. z ≡ d) (deeds_in c (e ∷ [])) (deeds_in c es) h)

-- a line that is not BUSY
pub shown_deed : (c p : ℕ) (r : Reply) (xs ys : List Event) → is_busy r ≡ false → deeds_in c (xs ++ shows c p r ∷ ys) ≡ deeds_in c xs ++ says p r ∷ deeds_in c ys
shown_deed c p r xs ys q = deeds_append c xs (shows c p r ∷ ys) ∙ ap (λ l. deeds_in c xs ++ l) one
  where
    one : deeds_in c (shows c p r ∷ ys) ≡ says p r ∷ deeds_in c ys
    one = let t = same_number c in rw (t, q) refl

asks_says : (x : Call) (p : ℕ) (r : Reply) → asks x ≡ says p r → ⊥
asks_says x p r e = cc

asks_is : (x y : Call) → asks x ≡ asks y → x ≡ y
asks_is x y e = cc

says_is : (p q : ℕ) (r s : Reply) → says p r ≡ says q s → (p ≡ q) × (r ≡ s)
says_is p q r s e = (cc, cc)

pub said_event : (c p : ℕ) (r : Reply) (es : List Event) → IsIn (says p r) (deeds_in c es) → IsIn (shows c p r) es
said_event c p r [] h = absurd h
said_event c p r (gives d q ∷ es) h = inr (said_event c p r es h)
said_event c p r (calls d n entry ∷ es) h = by_test (d == c) (λ t. past (rw t at h) (λ k. said_event c p r es k)) (λ f. inr (said_event c p r es (rw f at h)))
  where
    past : IsIn (says p r) (asks (record { node = record { 0 = n }; request = entry.request; answer = entry.answer }) ∷ deeds_in c es)
        → (IsIn (says p r) (deeds_in c es) → IsIn (shows c p r) es)
        → IsIn (shows c p r) (calls d n entry ∷ es)
    past (inl e) rest = absurd (asks_says (record { node = record { 0 = n }; request = entry.request; answer = entry.answer }) p r e)
    past (inr k) rest = inr (rest k)
said_event c p r (shows d q s ∷ es) h =
    by_test (d == c)
    (λ t. by_test (is_busy s) (λ b. inr (said_event c p r es (rw (t, b) at h))) (λ b. past (eqb-true d c t) (rw (t, b) at h) (λ k. said_event c p r es k)))
    (λ f. inr (said_event c p r es (rw f at h)))
  where
    past : d ≡ c → IsIn (says p r) (says q s ∷ deeds_in c es) → (IsIn (says p r) (deeds_in c es) → IsIn (shows c p r) es) → IsIn (shows c p r) (shows d q s ∷ es)
    past t (inl e) rest = let k = says_is q p s r e in inl (λ i. shows (t i) (k.0 i) (k.1 i))
    past t (inr k) rest = inr (rest k)

pub event_deed : (c n : ℕ) (entry : TrailEntry) (es : List Event) → IsIn (calls c n entry) es
    → IsIn (asks (record { node = record { 0 = n }; request = entry.request; answer = entry.answer })) (deeds_in c es)
event_deed c n entry [] h = absurd h
event_deed c n entry (e ∷ es) (inl q) =
    subst (λ z. IsIn (asks (record { node = record { 0 = n }; request = entry.request; answer = entry.answer })) (deeds_in c (z ∷ es))) (sym q)
    (let t = same_number c in rw t (inl refl))
event_deed c n entry (e ∷ es) (inr h) =
    deeds_more c (asks (record { node = record { 0 = n }; request = entry.request; answer = entry.answer })) e es (event_deed c n entry es h)

-- ---- in trails

pub trail_append : (n : ℕ) (xs ys : List Event) → trail_in n (xs ++ ys) ≡ trail_in n xs ++ trail_in n ys
trail_append n [] ys = refl
trail_append n (gives d p ∷ xs) ys = trail_append n xs ys
trail_append n (shows d p r ∷ xs) ys = trail_append n xs ys
trail_append n (calls d m entry ∷ xs) ys =
    by_test (m == n) (λ t. rw t (ap (λ l. record { caller = d; entry = entry } ∷ l) (trail_append n xs ys))) (λ f. rw f (trail_append n xs ys))

pub asked_append : (xs ys : List Labelled) → asked_of (xs ++ ys) ≡ asked_of xs ++ asked_of ys
asked_append [] ys = refl
asked_append (x ∷ xs) ys = ap (λ l. asked x.entry ∷ l) (asked_append xs ys)

trail_more : (n : ℕ) (a : Asked) (e : Event) (es : List Event) → IsIn a (asked_of (trail_in n es)) → IsIn a (asked_of (trail_in n (e ∷ es)))
trail_more n a e es h =
    subst (λ l. IsIn a (asked_of l)) (sym (trail_append n (e ∷ []) es))
    (subst (IsIn a) (sym (asked_append (trail_in n (e ∷ [])) (trail_in n es))) (Has-back (λ z. z ≡ a) (asked_of (trail_in n (e ∷ []))) (asked_of (trail_in n es)) h))

-- what a caller asked stands in the trail of its node
pub deed_in_trail : (c : ℕ) (x : Call) (es : List Event) → IsIn (asks x) (deeds_in c es) → IsIn (asked_by x) (asked_of (trail_in x.node.0 es))
deed_in_trail c x [] h = absurd h
deed_in_trail c x (gives d p ∷ es) h = deed_in_trail c x es h
deed_in_trail c x (shows d p r ∷ es) h =
    by_test (d == c)
    (λ t. by_test (is_busy r) (λ b. deed_in_trail c x es (rw (t, b) at h)) (λ b. past (rw (t, b) at h) (λ k. deed_in_trail c x es k)))
    (λ f. deed_in_trail c x es (rw f at h))
  where
    past : IsIn (asks x) (says p r ∷ deeds_in c es) → (IsIn (asks x) (deeds_in c es) → IsIn (asked_by x) (asked_of (trail_in x.node.0 es)))
        → IsIn (asked_by x) (asked_of (trail_in x.node.0 es))
    past (inl e) rest = absurd (asks_says x p r (sym e))
    past (inr k) rest = rest k
deed_in_trail c x (calls d n entry ∷ es) h =
    by_test (d == c)
    (λ t. past (rw t at h) (λ k. deed_in_trail c x es k))
    (λ f. trail_more x.node.0 (asked_by x) (calls d n entry) es (deed_in_trail c x es (rw f at h)))
  where
    past : IsIn (asks x) (asks (record { node = record { 0 = n }; request = entry.request; answer = entry.answer }) ∷ deeds_in c es)
        → (IsIn (asks x) (deeds_in c es) → IsIn (asked_by x) (asked_of (trail_in x.node.0 es)))
        → IsIn (asked_by x) (asked_of (trail_in x.node.0 (calls d n entry ∷ es)))
    past (inl e) rest =
        subst (λ z. IsIn (asked_by z) (asked_of (trail_in z.node.0 (calls d n entry ∷ es))))
        (asks_is (record { node = record { 0 = n }; request = entry.request; answer = entry.answer }) x e)
        (let t = same_number n in rw t (inl refl))
    past (inr k) rest = trail_more x.node.0 (asked_by x) (calls d n entry) es (rest k)

-- and what stands in a trail was asked by a caller
pub trail_event : (n : ℕ) (a : Asked) (es : List Event) → IsIn a (asked_of (trail_in n es)) → (c : ℕ) × (entry : TrailEntry) × IsIn (calls c n entry) es × (asked entry ≡ a)
trail_event n a [] h = absurd h
trail_event n a (gives d p ∷ es) h = let k = trail_event n a es h in (k.0, k.1, inr k.2, k.3)
trail_event n a (shows d p r ∷ es) h = let k = trail_event n a es h in (k.0, k.1, inr k.2, k.3)
trail_event n a (calls d m entry ∷ es) h =
    by_test (m == n)
    (λ t. past (eqb-true m n t) (rw t at h) (λ k. trail_event n a es k))
    (λ f. let k = trail_event n a es (rw f at h) in (k.0, k.1, inr k.2, k.3))
  where
    past : m ≡ n → IsIn a (asked entry ∷ asked_of (trail_in n es)) → (IsIn a (asked_of (trail_in n es)) → (c : ℕ) × (entry : TrailEntry) × IsIn (calls c n entry) es × (asked entry ≡ a))
        → (c : ℕ) × (other : TrailEntry) × IsIn (calls c n other) (calls d m entry ∷ es) × (asked other ≡ a)
    past t (inl e) rest = (d, entry, inl (ap (λ z. calls d z entry) t), e)
    past t (inr k) rest = let y = rest k in (y.0, y.1, inr y.2, y.3)

-- ---- by items

pub one_asked : (x : Call) (i : Item) → IsIn (asks x) (deeds_of i) → IsIn x i.calls
one_asked x i h = by (in_append (asks x) (map asks i.calls) (map (says i.place) (filter (λ r. not (is_busy r)) i.lines)) h)
  where
    by : IsIn (asks x) (map asks i.calls) ⊎ IsIn (asks x) (map (says i.place) (filter (λ r. not (is_busy r)) i.lines)) → IsIn x i.calls
    by (inl k) = let y = in_map asks (asks x) i.calls k in subst (λ z. IsIn z i.calls) (asks_is y.0 x y.2) y.1
    by (inr k) = let y = in_map (says i.place) (asks x) (filter (λ r. not (is_busy r)) i.lines) k in absurd (asks_says x i.place y.0 (sym y.2))

line_said : (i : Item) (p : ℕ) (r : Reply) → IsIn (says p r) (map (says i.place) (filter (λ r. not (is_busy r)) i.lines)) → (i.place ≡ p) × IsIn r i.lines
line_said i p r k =
    let y = in_map (says i.place) (says p r) (filter (λ r. not (is_busy r)) i.lines) k in
    let e = says_is i.place p y.0 r y.2 in
    (e.0, subst (λ z. IsIn z i.lines) e.1 (in_filter (λ r. not (is_busy r)) y.0 i.lines y.1).0)

pub one_said : (p : ℕ) (r : Reply) (i : Item) → IsIn (says p r) (deeds_of i) → (i.place ≡ p) × IsIn r i.lines
one_said p r i h = by (in_append (says p r) (map asks i.calls) (map (says i.place) (filter (λ r. not (is_busy r)) i.lines)) h)
  where
    by : IsIn (says p r) (map asks i.calls) ⊎ IsIn (says p r) (map (says i.place) (filter (λ r. not (is_busy r)) i.lines)) → (i.place ≡ p) × IsIn r i.lines
    by (inl k) = let y = in_map asks (says p r) i.calls k in absurd (asks_says y.0 p r y.2)
    by (inr k) = line_said i p r k

pub asked_within : (x : Call) (is : List Item) → IsIn (asks x) (flat_map deeds_of is) → IsIn x (calls_of is)
asked_within x [] h = absurd h
asked_within x (i ∷ is) h = by (in_append (asks x) (deeds_of i) (flat_map deeds_of is) h) (λ k. asked_within x is k)
  where
    by : IsIn (asks x) (deeds_of i) ⊎ IsIn (asks x) (flat_map deeds_of is) → (IsIn (asks x) (flat_map deeds_of is) → IsIn x (calls_of is)) → IsIn x (i.calls ++ calls_of is)
    by (inl k) rest = Has-front (λ z. z ≡ x) i.calls (calls_of is) (one_asked x i k)
    by (inr k) rest = Has-back (λ z. z ≡ x) i.calls (calls_of is) (rest k)

pub said_within : (p : ℕ) (r : Reply) (is : List Item) → IsIn (says p r) (flat_map deeds_of is) → (i : Item) × IsIn i is × IsIn r i.lines
said_within p r [] h = absurd h
said_within p r (i ∷ is) h = by (in_append (says p r) (deeds_of i) (flat_map deeds_of is) h) (λ k. said_within p r is k)
  where
    by : IsIn (says p r) (deeds_of i) ⊎ IsIn (says p r) (flat_map deeds_of is)
        → (IsIn (says p r) (flat_map deeds_of is) → (j : Item) × IsIn j is × IsIn r j.lines) → (j : Item) × IsIn j (i ∷ is) × IsIn r j.lines
    by (inl k) rest = (i, inl refl, (one_said p r i k).1)
    by (inr k) rest = let y = rest k in (y.0, inr y.1, y.2)

-- a line stands behind the calls of its item
pub record SaidBehind (is : List Item) (front : List Deed) (r : Reply) : Type 0 where
  pub item : Item
  pub within : IsIn item is
  pub line : IsIn r item.lines
  pub asked : (x : Call) → IsIn x item.calls → IsIn (asks x) front

nil_is : {A : Type 0} (front : List A) (y : A) (back : List A) → [] ≡ front ++ y ∷ back → ⊥
nil_is [] y back e = cc
nil_is (f ∷ fs) y back e = cc

pub said_behind : (is : List Item) (front : List Deed) (p : ℕ) (r : Reply) (back : List Deed) → flat_map deeds_of is ≡ front ++ says p r ∷ back → SaidBehind is front r
said_behind [] front p r back e = absurd (nil_is front (says p r) back e)
said_behind (i ∷ is) front p r back e = by (cut (deeds_of i) (flat_map deeds_of is) front (says p r) back e) (λ done q. said_behind is done p r back q)
  where
    own : (more : List Deed) → Cut (map asks i.calls) (map (says i.place) (filter (λ r. not (is_busy r)) i.lines)) front (says p r) more → SaidBehind (i ∷ is) front r
    own more (inside rest q) =
        let y = in_map asks (says p r) i.calls (subst (IsIn (says p r)) (sym q) (is_there (says p r) front rest)) in absurd (asks_says y.0 p r y.2)
    own more (beyond done q k) =
        record {
          item = i;
          within = inl refl;
          line = (line_said i p r (subst (IsIn (says p r)) (sym k) (is_there (says p r) done more))).1;
          asked = λ x h. subst (IsIn (asks x)) (sym q) (Has-front (λ z. z ≡ asks x) (map asks i.calls) done (map_in asks x i.calls h));
        }

    later : (done : List Deed) → front ≡ deeds_of i ++ done → SaidBehind is done r → SaidBehind (i ∷ is) front r
    later done q s =
        record {
          item = s.item;
          within = inr s.within;
          line = s.line;
          asked = λ x h. subst (IsIn (asks x)) (sym q) (Has-back (λ z. z ≡ asks x) (deeds_of i) done (s.asked x h));
        }

    by : Cut (deeds_of i) (flat_map deeds_of is) front (says p r) back → ((done : List Deed) → flat_map deeds_of is ≡ done ++ says p r ∷ back → SaidBehind is done r)
        → SaidBehind (i ∷ is) front r
    by (inside more q) rest = own more (cut (map asks i.calls) (map (says i.place) (filter (λ r. not (is_busy r)) i.lines)) front (says p r) more q)
    by (beyond done q k) rest = later done q (rest done k)

-- ---- givings

place_there : (c p : ℕ) (xs ys : List Event) → IsIn p (places_in c (xs ++ gives c p ∷ ys))
place_there c p [] ys = let t = same_number c in rw t (inl refl)
place_there c p (gives d q ∷ xs) ys = by_test (d == c) (λ t. rw t (inr (place_there c p xs ys))) (λ f. rw f (place_there c p xs ys))
place_there c p (calls d n entry ∷ xs) ys = place_there c p xs ys
place_there c p (shows d q r ∷ xs) ys = place_there c p xs ys

places_behind : (c : ℕ) (e : Event) (es : List Event) → Ascends nat_cmp (places_in c (e ∷ es)) → Ascends nat_cmp (places_in c es)
places_behind c (gives d p) es a = by_test (d == c) (λ t. Ascends-tail nat_cmp nat_cmp_total p (places_in c es) (rw t at a)) (λ f. rw f at a)
places_behind c (calls d n entry) es a = a
places_behind c (shows d p r) es a = a

given_twice : (c p : ℕ) (ys us vs : List Event) → Ascends nat_cmp (places_in c (gives c p ∷ ys)) → ys ≡ us ++ gives c p ∷ vs → ⊥
given_twice c p ys us vs a e = twice (let t = same_number c in rw t at a)
  where
    twice : Ascends nat_cmp (p ∷ places_in c ys) → ⊥
    twice b =
        irreflexive nat_cmp nat_cmp_total p
        (in_Each (λ z. nat_cmp p z ≡ Less) p (places_in c ys) (subst (λ l. IsIn p (places_in c l)) (sym e) (place_there c p us vs)) (Ascends-first nat_cmp nat_cmp_total p (places_in c ys) b))

-- a work is given once
pub one_giving : (c p : ℕ) (xs ys us vs : List Event) → Ascends nat_cmp (places_in c (xs ++ gives c p ∷ ys)) → xs ++ gives c p ∷ ys ≡ us ++ gives c p ∷ vs → xs ≡ us
one_giving c p [] ys [] vs a e = refl
one_giving c p [] ys (u ∷ us) vs a e =
    let k = heads (gives c p) u ys (us ++ gives c p ∷ vs) e in absurd (given_twice c p ys us vs a k.1)
one_giving c p (x ∷ xs) ys [] vs a e =
    let k = heads x (gives c p) (xs ++ gives c p ∷ ys) vs e in
    absurd (given_twice c p vs xs ys (subst (λ l. Ascends nat_cmp (places_in c l)) e a) (sym k.1))
one_giving c p (x ∷ xs) ys (u ∷ us) vs a e =
    let k = heads x u (xs ++ gives c p ∷ ys) (us ++ gives c p ∷ vs) e in
    let rest = one_giving c p xs ys us vs (places_behind c x (xs ++ gives c p ∷ ys) a) k.1 in
    ap (λ z. z ∷ xs) k.0 ∙ ap (λ l. u ∷ l) rest
