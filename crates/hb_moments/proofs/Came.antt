-- The callers' items at a cut: what each had done by then is a front of what it did.
use Rattle.std.proofs.Common.{◌≡◌, ◌⊎◌, ◌∙◌, ℕ, zero, suc, Bool, true, false, List, [], ◌∷◌, ◌++◌, Some, ap, append_assoc, append-nil, inl, inr, map, refl, subst, sym}
use Rattle.std.specs.Prelude.{◌==◌, filter, flat_map, not, slice_get}
use Rattle.std.specs.List.{AllZip}
use Rattle.hb_types.specs.declared.answer.Answer.{Answer}
use Rattle.hb_types.specs.declared.trail.Call.{Call}
use Rattle.hb_types.specs.declared.trail.TrailEntry.{TrailEntry}
use Rattle.hb_types.specs.Lists.{IsIn}
use Rattle.hb_types.proofs.PutLaws.{by_test}
use Rattle.hb_loglaws.proofs.Members.{in_map}
use Rattle.hb_model.specs.declared.reply.Reply.{Reply}
use Rattle.hb_model.specs.Items.{Item}
use Rattle.hb_law.specs.Histories.{Event, calls, gives, shows}
use Rattle.hb_law.specs.InTime.{Deed, InItsOrder, asks, deeds_in, deeds_of, is_busy, says}
use Rattle.hb_law.specs.Moments.{CallInProgress, IsCut, IsPartOf, LastAsked}
use Rattle.hb_whose.proofs.Parts.{is_there, none_some, some_is}
use Rattle.hb_intime.proofs.Deeds.{Cut, beyond, cut, deeds_append, inside}
use Rattle.hb_parts.specs.Moments.{AreListsAt, CameTo, IsAmid}

-- ---- fronts of lists

heads : {A : Type 0} (x y : A) (xs ys : List A) → x ∷ xs ≡ y ∷ ys → (x ≡ y) × (xs ≡ ys)
heads x y xs ys e = (cc, cc)

nil_is : {A : Type 0} (front : List A) (y : A) (back : List A) → [] ≡ front ++ y ∷ back → ⊥
nil_is [] y back e = cc
nil_is (f ∷ fs) y back e = cc

-- a front of two lists is one of the first, or goes on into the second
data Split {A : Type 0} (us vs front back : List A) : Type 0 where
  within : (more : List A) → us ≡ front ++ more → Split us vs front back
  past : (done : List A) → front ≡ us ++ done → vs ≡ done ++ back → Split us vs front back

split : {A : Type 0} (us vs front back : List A) → us ++ vs ≡ front ++ back → Split us vs front back
split [] vs front back e = past front refl e
split (u ∷ us) vs [] back e = within (u ∷ us) refl
split (u ∷ us) vs (f ∷ fs) back e = longer (heads u f (us ++ vs) (fs ++ back) e).0 (split us vs fs back (heads u f (us ++ vs) (fs ++ back) e).1)
  where
    longer : u ≡ f → Split us vs fs back → Split (u ∷ us) vs (f ∷ fs) back
    longer q (within more e) = within more (ap (λ l. u ∷ l) e ∙ ap (λ z. z ∷ (fs ++ more)) q)
    longer q (past done e k) = past done (ap (λ l. f ∷ l) e ∙ ap (λ z. z ∷ (us ++ done)) (sym q)) k

record Unmapped {A B : Type 0} (f : A → B) (xs : List A) (us vs : List B) : Type 0 where
  front : List A
  back : List A
  parts : xs ≡ front ++ back
  before : us ≡ map f front
  behind : vs ≡ map f back

unmapped : {A B : Type 0} (f : A → B) (xs : List A) (us vs : List B) → map f xs ≡ us ++ vs → Unmapped f xs us vs
unmapped f xs [] vs e = record { front = []; back = xs; parts = refl; before = refl; behind = sym e }
unmapped f [] (u ∷ us) vs e = absurd (nil_is [] u (us ++ vs) e)
unmapped f (x ∷ xs) (u ∷ us) vs e =
    let k = heads (f x) u (map f xs) (us ++ vs) e in
    let y = unmapped f xs us vs k.1 in
    record {
      front = x ∷ y.front;
      back = y.back;
      parts = ap (λ l. x ∷ l) y.parts;
      before = ap (λ z. z ∷ us) (sym k.0) ∙ ap (λ l. f x ∷ l) y.before;
      behind = y.behind;
    }

map_append : {A B : Type 0} (f : A → B) (xs ys : List A) → map f (xs ++ ys) ≡ map f xs ++ map f ys
map_append f [] ys = refl
map_append f (x ∷ xs) ys = ap (λ l. f x ∷ l) (map_append f xs ys)

record Unfiltered {A : Type 0} (p : A → Bool) (xs us : List A) : Type 0 where
  front : List A
  back : List A
  parts : xs ≡ front ++ back
  kept : filter p front ≡ us

unfiltered : {A : Type 0} (p : A → Bool) (xs us vs : List A) → filter p xs ≡ us ++ vs → Unfiltered p xs us
unfiltered p xs [] vs e = record { front = []; back = xs; parts = refl; kept = refl }
unfiltered p [] (u ∷ us) vs e = absurd (nil_is [] u (us ++ vs) e)
unfiltered p (x ∷ xs) (u ∷ us) vs e =
    by_test (p x) (λ t. taken t (λ q. unfiltered p xs us vs q) (rw t at e)) (λ f. left f (unfiltered p xs (u ∷ us) vs (rw f at e)))
  where
    left : p x ≡ false → Unfiltered p xs (u ∷ us) → Unfiltered p (x ∷ xs) (u ∷ us)
    left f k = record { front = x ∷ k.front; back = k.back; parts = ap (λ l. x ∷ l) k.parts; kept = rw f k.kept }

    taken : p x ≡ true → (filter p xs ≡ us ++ vs → Unfiltered p xs us) → x ∷ filter p xs ≡ u ∷ (us ++ vs) → Unfiltered p (x ∷ xs) (u ∷ us)
    taken t rest q =
        let h = heads x u (filter p xs) (us ++ vs) q in
        let k = rest h.1 in
        record { front = x ∷ k.front; back = k.back; parts = ap (λ l. x ∷ l) k.parts; kept = rw t (ap (λ l. x ∷ l) k.kept ∙ ap (λ z. z ∷ us) h.0) }

-- ---- the items of a front of deeds

asks_says : (x : Call) (p : ℕ) (r : Reply) → asks x ≡ says p r → ⊥
asks_says x p r e = cc

asks_is : (x y : Call) → asks x ≡ asks y → x ≡ y
asks_is x y e = cc

record CameAs (list : List Item) (ds : List Deed) : Type 0 where
  came : List Item
  to : CameTo list came
  deeds : ds ≡ flat_map deeds_of came

nothing_came : (list : List Item) → CameAs list []
nothing_came list = record { came = []; to = record { whole = []; rest = list; parts = refl; last = inl refl }; deeds = refl }

one_more : (i : Item) (is : List Item) (ds done : List Deed) → ds ≡ deeds_of i ++ done → CameAs is done → CameAs (i ∷ is) ds
one_more i is ds done e k =
    record {
      came = i ∷ k.came;
      to = record { whole = i ∷ k.to.whole; rest = k.to.rest; parts = ap (λ l. i ∷ l) k.to.parts; last = more k.to.rest k.to.last };
      deeds = e ∙ ap (λ l. deeds_of i ++ l) k.deeds;
    }
  where
    more : (rest : List Item) → (k.came ≡ k.to.whole) ⊎ IsAmid k.to.whole rest k.came → (i ∷ k.came ≡ i ∷ k.to.whole) ⊎ IsAmid (i ∷ k.to.whole) rest (i ∷ k.came)
    more rest (inl e) = inl (ap (λ l. i ∷ l) e)
    more [] (inr h) = absurd h
    more (j ∷ js) (inr h) = inr (h.0, h.1, ap (λ l. i ∷ l) h.2)

amid : (i part : Item) (is : List Item) (ds : List Deed) → IsPartOf i part → ds ≡ deeds_of part → CameAs (i ∷ is) ds
amid i part is ds h e =
    record {
      came = part ∷ [];
      to = record { whole = []; rest = i ∷ is; parts = refl; last = inr (part, h, refl) };
      deeds = e ∙ sym (append-nil (deeds_of part));
    }

abbrev quiet : Item → List Reply
quiet i = filter (λ r. not (is_busy r)) i.lines

front_came : (list : List Item) (ds rest : List Deed) → flat_map deeds_of list ≡ ds ++ rest → CameAs list ds
front_came list [] rest e = nothing_came list
front_came [] (d ∷ ds) rest e = absurd (nil_is [] d (ds ++ rest) e)
front_came (i ∷ is) (d ∷ ds) rest e = by (split (deeds_of i) (flat_map deeds_of is) (d ∷ ds) rest e) (λ done q. front_came is done rest q)
  where
    of_calls : (more : List Deed) → map asks i.calls ≡ (d ∷ ds) ++ more → CameAs (i ∷ is) (d ∷ ds)
    of_calls more q =
        let y = unmapped asks i.calls (d ∷ ds) more q in
        amid i (record i { calls = y.front; lines = [] }) is (d ∷ ds)
        (record {
          place = refl;
          doing = refl;
          calls_so_far = inr (refl, record { done = y.front; rest = y.back; parts = y.parts; last = inl refl });
          lines_so_far = (i.lines, refl);
        }) (y.before ∙ sym (append-nil (map asks y.front)))

    of_lines : (done more : List Deed) → d ∷ ds ≡ map asks i.calls ++ done → map (says i.place) (quiet i) ≡ done ++ more → CameAs (i ∷ is) (d ∷ ds)
    of_lines done more q k =
        let y = unmapped (says i.place) (quiet i) done more k in
        let z = unfiltered (λ r. not (is_busy r)) i.lines y.front y.back y.parts in
        amid i (record i { lines = z.front }) is (d ∷ ds)
        (record { place = refl; doing = refl; calls_so_far = inl refl; lines_so_far = (z.back, z.parts) })
        (q ∙ ap (λ l. map asks i.calls ++ l) (y.before ∙ ap (map (says i.place)) (sym z.kept)))

    own : (more : List Deed) → Split (map asks i.calls) (map (says i.place) (quiet i)) (d ∷ ds) more → CameAs (i ∷ is) (d ∷ ds)
    own more (within m q) = of_calls m q
    own more (past done q k) = of_lines done more q k

    by : Split (deeds_of i) (flat_map deeds_of is) (d ∷ ds) rest → ((done : List Deed) → flat_map deeds_of is ≡ done ++ rest → CameAs is done) → CameAs (i ∷ is) (d ∷ ds)
    by (within more q) further = own more (split (map asks i.calls) (map (says i.place) (quiet i)) (d ∷ ds) more q)
    by (past done q k) further = one_more i is (d ∷ ds) done q (further done k)

-- ---- with the call in progress, answered otherwise

abbrev answered : Answer → Call → Call
answered a x = record x { answer = a }

call_first : (x : Call) (m : List Deed) (cs : List Call) → asks x ∷ m ≡ map asks cs → (more : List Call) × (cs ≡ x ∷ more)
call_first x m [] e = absurd (nil_is [] (asks x) m (sym e))
call_first x m (c ∷ cs) e = (cs, ap (λ z. z ∷ cs) (sym (asks_is x c (heads (asks x) (asks c) m (map asks cs) e).0)))

last_came : (list : List Item) (ds : List Deed) (x : Call) (rest : List Deed) (a : Answer) → flat_map deeds_of list ≡ ds ++ asks x ∷ rest
    → CameAs list (ds ++ asks (answered a x) ∷ [])
last_came [] ds x rest a e = absurd (nil_is ds (asks x) rest e)
last_came (i ∷ is) ds x rest a e = by (cut (deeds_of i) (flat_map deeds_of is) ds (asks x) rest e) (λ done q. last_came is done x rest a q)
  where
    of_calls : (more : List Deed) → map asks i.calls ≡ ds ++ asks x ∷ more → CameAs (i ∷ is) (ds ++ asks (answered a x) ∷ [])
    of_calls more q =
        let y = unmapped asks i.calls ds (asks x ∷ more) q in
        let z = call_first x more y.back y.behind in
        amid i (record i { calls = y.front ++ answered a x ∷ []; lines = [] }) is (ds ++ asks (answered a x) ∷ [])
        (record {
          place = refl;
          doing = refl;
          calls_so_far =
              inr (
                refl,
                record {
                  done = y.front;
                  rest = y.back;
                  parts = y.parts;
                  last = inr (subst (λ b. LastAsked y.front b (y.front ++ answered a x ∷ [])) (sym z.1) (a, refl));
                },
              );
          lines_so_far = (i.lines, refl);
        })
        (ap (λ l. l ++ asks (answered a x) ∷ []) y.before ∙ sym (map_append asks y.front (answered a x ∷ [])) ∙ sym (append-nil (map asks (y.front ++ answered a x ∷ []))))

    no_line : (done more : List Deed) → map (says i.place) (quiet i) ≡ done ++ asks x ∷ more → ⊥
    no_line done more k =
        let y = in_map (says i.place) (asks x) (quiet i) (subst (IsIn (asks x)) (sym k) (is_there (asks x) done more)) in
        asks_says x i.place y.0 (sym y.2)

    own : (more : List Deed) → Cut (map asks i.calls) (map (says i.place) (quiet i)) ds (asks x) more → CameAs (i ∷ is) (ds ++ asks (answered a x) ∷ [])
    own more (inside m q) = of_calls m q
    own more (beyond done q k) = absurd (no_line done more k)

    by : Cut (deeds_of i) (flat_map deeds_of is) ds (asks x) rest
        → ((done : List Deed) → flat_map deeds_of is ≡ done ++ asks x ∷ rest → CameAs is (done ++ asks (answered a x) ∷ []))
        → CameAs (i ∷ is) (ds ++ asks (answered a x) ∷ [])
    by (inside more q) further = own more (cut (map asks i.calls) (map (says i.place) (quiet i)) ds (asks x) more q)
    by (beyond done q k) further =
        one_more i is (ds ++ asks (answered a x) ∷ []) (done ++ asks (answered a x) ∷ [])
        (ap (λ l. l ++ asks (answered a x) ∷ []) q ∙ append_assoc (deeds_of i) done (asks (answered a x) ∷ []))
        (further done k)

-- ---- at a cut

-- what came of one caller's items
record OneCame (cut : List Event) (caller : ℕ) (list : List Item) : Type 0 where
  came : List Item
  to : CameTo list came
  deeds : deeds_in caller cut ≡ flat_map deeds_of came

module _ (m : ℕ) (h kept : List Event) (caller : ℕ) (list : List Item) (k : IsCut m h kept) (own : deeds_in caller h ≡ flat_map deeds_of list) where
  whole : flat_map deeds_of list ≡ deeds_in caller k.done ++ deeds_in caller k.rest
  whole = sym own ∙ ap (deeds_in caller) k.parts ∙ deeds_append caller k.done k.rest

  so_far : (rest : List Event) → flat_map deeds_of list ≡ deeds_in caller k.done ++ deeds_in caller rest → deeds_in caller kept ≡ deeds_in caller k.done → OneCame kept caller list
  so_far rest e q =
      let y = front_came list (deeds_in caller k.done) (deeds_in caller rest) e in record { came = y.came; to = y.to; deeds = q ∙ y.deeds }

  module _ (d n : ℕ) (entry : TrailEntry) (more : List Event) (a : Answer) (is : kept ≡ k.done ++ calls d n (record entry { answer = a }) ∷ [])
      (e : flat_map deeds_of list ≡ deeds_in caller k.done ++ deeds_in caller (calls d n entry ∷ more)) where
    abbrev asked_last : Call
    asked_last = record { node = record { 0 = n }; request = entry.request; answer = entry.answer }

    kept_deeds : deeds_in caller kept ≡ deeds_in caller k.done ++ deeds_in caller (calls d n (record entry { answer = a }) ∷ [])
    kept_deeds = ap (deeds_in caller) is ∙ deeds_append caller k.done (calls d n (record entry { answer = a }) ∷ [])

    mine : (d == caller) ≡ true → OneCame kept caller list
    mine t =
        let first : deeds_in caller (calls d n entry ∷ more) ≡ asks asked_last ∷ deeds_in caller more = rw t refl in
        let last : deeds_in caller (calls d n (record entry { answer = a }) ∷ []) ≡ asks (answered a asked_last) ∷ [] = rw t refl in
        let y = last_came list (deeds_in caller k.done) asked_last (deeds_in caller more) a (e ∙ ap (λ l. deeds_in caller k.done ++ l) first) in
        record { came = y.came; to = y.to; deeds = kept_deeds ∙ ap (λ l. deeds_in caller k.done ++ l) last ∙ y.deeds }

    anothers : (d == caller) ≡ false → OneCame kept caller list
    anothers f =
        let none : deeds_in caller (calls d n (record entry { answer = a }) ∷ []) ≡ [] = rw f refl in
        so_far (calls d n entry ∷ more) e (kept_deeds ∙ ap (λ l. deeds_in caller k.done ++ l) none ∙ append-nil (deeds_in caller k.done))

    of_call : OneCame kept caller list
    of_call = by_test (d == caller) mine anothers

  one_came : OneCame kept caller list
  one_came = by k.rest k.last whole
    where
      by : (rest : List Event) → (kept ≡ k.done) ⊎ CallInProgress m k.done rest kept → flat_map deeds_of list ≡ deeds_in caller k.done ++ deeds_in caller rest
          → OneCame kept caller list
      by rest (inl q) e = so_far rest e (ap (deeds_in caller) q)
      by [] (inr h) e = absurd h
      by (gives d p ∷ more) (inr h) e = absurd h
      by (shows d p r ∷ more) (inr h) e = absurd h
      by (calls d n entry ∷ more) (inr h) e = of_call d n entry more h.1.0 h.1.1 e

-- a member for each
record Chosen {A B : Type 0} (xs : List A) (Q : A → B → Type 0) (P : ℕ → B → Type 0) : Type 0 where
  ys : List B
  zipped : AllZip Q xs ys
  each : (k : ℕ) (y : B) → slice_get ys k ≡ Some y → P k y

choose : {A B : Type 0} (xs : List A) (Q : A → B → Type 0) (P : ℕ → B → Type 0)
    → ((k : ℕ) (x : A) → slice_get xs k ≡ Some x → (y : B) × Q x y × P k y) → Chosen xs Q P
choose [] Q P f = record { ys = []; zipped = tt; each = λ k y g. absurd (none_some y g) }
choose {B = B} (x ∷ xs) Q P f = by (f zero x refl) (choose xs Q (λ k. P (suc k)) (λ k z g. f (suc k) z g))
  where
    by : (y : B) × Q x y × P zero y → Chosen xs Q (λ k. P (suc k)) → Chosen (x ∷ xs) Q P
    by y rest = record { ys = y.0 ∷ rest.ys; zipped = (y.1, rest.zipped); each = at }
      where
        at : (k : ℕ) (z : B) → slice_get (y.0 ∷ rest.ys) k ≡ Some z → P k z
        at zero z g = subst (P zero) (some_is y.0 z g) y.2
        at (suc k) z g = rest.each k z g

pub lists_came : (m : ℕ) (h kept : List Event) (lists : List (List Item)) → IsCut m h kept → InItsOrder h lists
    → (came : List (List Item)) × AreListsAt kept lists came
lists_came m h kept lists k order =
    let c = choose lists CameTo (λ caller list. deeds_in caller kept ≡ flat_map deeds_of list)
    (λ caller list g. let y = one_came m h kept caller list k (order.own caller list g) in (y.came, y.to, y.deeds)) in
    (c.ys, record { parts = c.zipped; deeds = c.each })
