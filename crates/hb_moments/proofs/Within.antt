-- What holds of callers' whole lists holds of them as far as they came.
use Rattle.std.proofs.Common.{◌≡◌, ◌⊎◌, ◌∙◌, ℕ, ◌+◌, zero, suc, List, [], ◌∷◌, ◌++◌, Some, MatchOption, ap, append_assoc, append-nil, inl, inr, length, map, subst, sym, refl}
use Rattle.std.specs.Prelude.{slice_get, ⊤}
use Rattle.std.specs.List.{AllZip}
use Rattle.hb_types.specs.declared.answer.Answer.{Answer}
use Rattle.hb_types.specs.declared.trail.Call.{Call}
use Rattle.hb_types.specs.Lists.{Each}
use Rattle.hb_types.proofs.Ascending.{Each-append, Each-back, Each-front}
use Rattle.hb_model.specs.declared.reply.Reply.{Reply}
use Rattle.hb_model.specs.Items.{Doing, Item, calls_of, tending}
use Rattle.hb_law.specs.Callers.{Obeys, ObeysFrom, WasDecided}
use Rattle.hb_law.specs.Composition.{AllObey, AllPlaced, ArePlaced, IsPlaced, OperatorObeys, doing_behind, place_behind}
use Rattle.hb_law.specs.Moments.{AreSoFar, IsPartOf, LastAsked}
use Rattle.hb_law.specs.Transactions.{ShowsAnswered, number_of}
use Rattle.hb_whose.proofs.Parts.{none_some, some_is}
use Rattle.hb_steps.proofs.ItemCalls.{calls_append, got_map, map_got}
use Rattle.hb_parts.specs.Moments.{CameTo, IsAmid, KeepWithin}
use Rattle.hb_moments.proofs.AtCut.{mapped_length, same_length}

-- ---- the other of a pair

pub record Beside {A B : Type 0} (Q : A → B → Type 0) (xs : List A) (k : ℕ) (y : B) : Type 0 where
  pub other : A
  pub got : slice_get xs k ≡ Some other
  pub holds : Q other y

pub zip_back : {A B : Type 0} (Q : A → B → Type 0) (xs : List A) (ys : List B) (k : ℕ) (y : B) → AllZip Q xs ys → slice_get ys k ≡ Some y → Beside Q xs k y
zip_back Q [] [] k y z g = absurd (none_some y g)
zip_back Q (x ∷ xs) [] k y z g = absurd (none_some y g)
zip_back Q [] (w ∷ ws) k y z g = absurd z
zip_back Q (x ∷ xs) (w ∷ ws) zero y z g = record { other = x; got = refl; holds = subst (Q x) (some_is w y g) z.0 }
zip_back Q (x ∷ xs) (w ∷ ws) (suc k) y z g =
    let b = zip_back Q xs ws k y z.1 g in record { other = b.other; got = b.got; holds = b.holds }

-- ---- calls

part_so_far : (before : List Call) (i part : Item) (behind : List Call) → IsPartOf i part → AreSoFar (before ++ (i.calls ++ behind)) (before ++ part.calls)
part_so_far before i part behind h = by h.calls_so_far
  where
    whole : i.calls ≡ part.calls → AreSoFar (before ++ (i.calls ++ behind)) (before ++ part.calls)
    whole q =
        record { done = before ++ i.calls; rest = behind; parts = sym (append_assoc before i.calls behind); last = inl (ap (λ l. before ++ l) (sym q)) }

    last : (done rest : List Call) → (part.calls ≡ done) ⊎ LastAsked done rest part.calls
        → (before ++ part.calls ≡ before ++ done) ⊎ LastAsked (before ++ done) (rest ++ behind) (before ++ part.calls)
    last done rest (inl q) = inl (ap (λ l. before ++ l) q)
    last done [] (inr q) = absurd q
    last done (c ∷ rest) (inr q) = inr (q.0, ap (λ l. before ++ l) q.1 ∙ sym (append_assoc before done (record c { answer = q.0 } ∷ [])))

    by : (part.calls ≡ i.calls) ⊎ ((part.lines ≡ []) × AreSoFar i.calls part.calls) → AreSoFar (before ++ (i.calls ++ behind)) (before ++ part.calls)
    by (inl q) = whole (sym q)
    by (inr s) =
        record {
          done = before ++ s.1.done;
          rest = s.1.rest ++ behind;
          parts =
              ap (λ l. before ++ (l ++ behind)) s.1.parts ∙ ap (λ l. before ++ l) (append_assoc s.1.done s.1.rest behind)
              ∙ sym (append_assoc before s.1.done (s.1.rest ++ behind));
          last = last s.1.done s.1.rest s.1.last;
        }

pub calls_so_far : (list came : List Item) → CameTo list came → AreSoFar (calls_of list) (calls_of came)
calls_so_far list came k = by k.rest k.parts k.last
  where
    by : (rest : List Item) → list ≡ k.whole ++ rest → (came ≡ k.whole) ⊎ IsAmid k.whole rest came → AreSoFar (calls_of list) (calls_of came)
    by rest e (inl q) =
        record { done = calls_of k.whole; rest = calls_of rest; parts = ap calls_of e ∙ calls_append k.whole rest; last = inl (ap calls_of q) }
    by [] e (inr h) = absurd h
    by (i ∷ more) e (inr h) =
        let came_calls : calls_of came ≡ calls_of k.whole ++ h.0.calls = ap calls_of h.2 ∙ calls_append k.whole (h.0 ∷ []) ∙ ap (λ l. calls_of k.whole ++ l) (append-nil h.0.calls) in
        subst (λ l. AreSoFar l (calls_of came)) (sym (ap calls_of e ∙ calls_append k.whole (i ∷ more)))
        (subst (AreSoFar (calls_of k.whole ++ (i.calls ++ calls_of more))) (sym came_calls) (part_so_far (calls_of k.whole) i h.0 (calls_of more) h.1))

-- ---- they obey

obeys_front : (s : ℕ) (front xs ys : List Call) → ObeysFrom s front (xs ++ ys) → ObeysFrom s front xs
obeys_front s front [] ys o = tt
obeys_front s front (x ∷ xs) ys o = (o.0, obeys_front s (front ++ x ∷ []) xs ys o.1)

obeys_last : (s : ℕ) (front xs : List Call) (c : Call) (a : Answer) (ys : List Call) → ObeysFrom s front (xs ++ c ∷ ys) → ObeysFrom s front (xs ++ record c { answer = a } ∷ [])
obeys_last s front [] c a ys o = (o.0, tt)
obeys_last s front (x ∷ xs) c a ys o = (o.0, obeys_last s (front ++ x ∷ []) xs c a ys o.1)

obeys_so_far : (s : ℕ) (whole part : List Call) → AreSoFar whole part → Obeys s whole → Obeys s part
obeys_so_far s whole part k o = by k.rest k.parts k.last
  where
    by : (rest : List Call) → whole ≡ k.done ++ rest → (part ≡ k.done) ⊎ LastAsked k.done rest part → Obeys s part
    by rest e (inl q) = subst (Obeys s) (sym q) (obeys_front s [] k.done rest (subst (Obeys s) e o))
    by [] e (inr q) = absurd q
    by (c ∷ rest) e (inr q) = subst (Obeys s) (sym q.1) (obeys_last s [] k.done c q.0 rest (subst (Obeys s) e o))

-- ---- they are placed

placed_front : (last : ℕ) (d : Doing) (xs ys : List Item) → ArePlaced last d (xs ++ ys) → ArePlaced last d xs
placed_front last d [] ys a = tt
placed_front last d (x ∷ xs) ys a = (a.0, placed_front (place_behind last x) (doing_behind d x.doing) xs ys a.1)

placed_last : (last : ℕ) (d : Doing) (xs : List Item) (i part : Item) (ys : List Item) → part.place ≡ i.place → part.doing ≡ i.doing → ArePlaced last d (xs ++ i ∷ ys)
    → ArePlaced last d (xs ++ part ∷ [])
placed_last last d [] i part ys p q a =
    (subst (λ x. IsPlaced last d x part.doing) (sym p) (subst (λ w. IsPlaced last d i.place w) (sym q) a.0), tt)
placed_last last d (x ∷ xs) i part ys p q a = (a.0, placed_last (place_behind last x) (doing_behind d x.doing) xs i part ys p q a.1)

placed_so_far : (list came : List Item) → CameTo list came → ArePlaced 0 tending list → ArePlaced 0 tending came
placed_so_far list came k a = by k.rest k.parts k.last
  where
    by : (rest : List Item) → list ≡ k.whole ++ rest → (came ≡ k.whole) ⊎ IsAmid k.whole rest came → ArePlaced 0 tending came
    by rest e (inl q) = subst (ArePlaced 0 tending) (sym q) (placed_front 0 tending k.whole rest (subst (ArePlaced 0 tending) e a))
    by [] e (inr h) = absurd h
    by (i ∷ more) e (inr h) =
        subst (ArePlaced 0 tending) (sym h.2) (placed_last 0 tending k.whole i h.0 more h.1.place h.1.doing (subst (ArePlaced 0 tending) e a))

-- ---- they show numbers that were answered

abbrev IsAnswered : List Call → Reply → Type 0
IsAnswered cs r = MatchOption (number_of r) ⊤ (λ n. WasDecided n cs)

part_shows : (i part : Item) → IsPartOf i part → ShowsAnswered i → ShowsAnswered part
part_shows i part h s = by h.calls_so_far
  where
    by : (part.calls ≡ i.calls) ⊎ ((part.lines ≡ []) × AreSoFar i.calls part.calls) → ShowsAnswered part
    by (inl q) =
        subst (λ cs. Each (IsAnswered cs) part.lines) (sym q)
        (Each-front (IsAnswered i.calls) part.lines h.lines_so_far.0 (subst (Each (IsAnswered i.calls)) h.lines_so_far.1 s))
    by (inr n) = subst (Each (IsAnswered part.calls)) (sym n.0) tt

shows_so_far : (list came : List Item) → CameTo list came → Each ShowsAnswered list → Each ShowsAnswered came
shows_so_far list came k s = by k.rest k.parts k.last
  where
    by : (rest : List Item) → list ≡ k.whole ++ rest → (came ≡ k.whole) ⊎ IsAmid k.whole rest came → Each ShowsAnswered came
    by rest e (inl q) = subst (Each ShowsAnswered) (sym q) (Each-front ShowsAnswered k.whole rest (subst (Each ShowsAnswered) e s))
    by [] e (inr h) = absurd h
    by (i ∷ more) e (inr h) =
        let all = subst (Each ShowsAnswered) e s in
        subst (Each ShowsAnswered) (sym h.2)
        (Each-append ShowsAnswered k.whole (h.0 ∷ []) (Each-front ShowsAnswered k.whole (i ∷ more) all)
        (part_shows i h.0 h.1 (Each-back ShowsAnswered k.whole (i ∷ more) all).0, tt))

all_show : (lists came : List (List Item)) → AllZip CameTo lists came → Each (Each ShowsAnswered) lists → Each (Each ShowsAnswered) came
all_show [] [] z s = tt
all_show [] (c ∷ cs) z s = absurd z
all_show (l ∷ ls) [] z s = tt
all_show (l ∷ ls) (c ∷ cs) z s = (shows_so_far l c z.0 s.0, all_show ls cs z.1 s.1)

-- ---- all of it

module _ (lists came : List (List Item)) (z : AllZip CameTo lists came) where
  obeys_at : (s caller : ℕ) (list : List Call) → slice_get (map calls_of came) caller ≡ Some list
      → ((whole : List Call) → slice_get (map calls_of lists) caller ≡ Some whole → Obeys s whole) → Obeys s list
  obeys_at s caller list g f =
      let y = got_map calls_of came caller list g in
      let b = zip_back CameTo lists came caller y.0 z y.1 in
      subst (Obeys s) y.2 (obeys_so_far s (calls_of b.other) (calls_of y.0) (calls_so_far b.other y.0 b.holds) (f (calls_of b.other) (map_got calls_of lists caller b.other b.got)))

  same_callers : length (map calls_of came) ≡ length (map calls_of lists)
  same_callers = mapped_length calls_of came ∙ same_length CameTo lists came z ∙ sym (mapped_length calls_of lists)

  pub keep_within : AllObey (map calls_of lists) → OperatorObeys (map calls_of lists) → AllPlaced lists → Each (Each ShowsAnswered) lists → KeepWithin came
  keep_within obey operator placed numbers =
      record {
        obey = λ caller list g. obeys_at caller (caller + 1) list g (λ whole w. obey caller whole w);
        operator =
            λ list g. subst (λ n. Obeys n list) (sym same_callers) (obeys_at (length (map calls_of lists)) 0 list g (λ whole w. operator whole w));
        placed =
            λ caller list g. let b = zip_back CameTo lists came (caller + 1) list z g in placed_so_far b.other list b.holds (placed caller b.other b.got);
        numbers = all_show lists came z numbers;
      }
