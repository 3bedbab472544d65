-- A list that is made of stretches is what the law of composition asks of a session's.
use Rattle.std.proofs.Common.{◌≡◌, ◌≢◌, ◌⊎◌, ◌∙◌, ℕ, ◌+◌, List, [], ◌∷◌, ◌++◌, Some, Bool, true, false, ap, arith, inl, inr, refl, subst, sym}
use Rattle.std.specs.Prelude.{◌&&◌, ◌||◌, IsTrue, if◌then◌else◌, length, ◌==◌, slice_get}
use Rattle.std.specs.List.{list_all}
use Rattle.std.proofs.lemmas.Bool.{false≢true}
use Rattle.std.proofs.lemmas.Bool.Decides.{nat_tests}
use Rattle.std.proofs.lemmas.List.{append_assoc}
use Rattle.hb_types.specs.declared.names.Owner.{Owner}
use Rattle.hb_types.specs.declared.trail.Call.{Call}
use Rattle.hb_types.specs.Lists.{Each, Has, IsIn}
use Rattle.hb_types.proofs.Ascending.{Each-append, Each-back, Each-front, Each-of}
use Rattle.hb_model.specs.declared.reply.Reply.{Reply}
use Rattle.hb_model.specs.Items.{Item, Doing, calls_of, sql, tending, turn}
use Rattle.hb_model.specs.Outside.{is_outside}
use Rattle.hb_law.specs.Callers.{ObeysFrom, is_begun}
use Rattle.hb_law.specs.Standing.{is_aside}
use Rattle.hb_law.specs.Transactions.{AllAsk, BeginsIt, IsLoose, IsOfStatements, IsOver, IsSomebodys, IsTxnOf, ShowsAnswered, TellsOutcome, TurnIsRight, Txn, begins_of, begun_in, is_idle, is_loose, is_told, own_items, tx_asked}
use Rattle.hb_runs.specs.Kinds.{is_begin}
use Rattle.hb_itemlaws.specs.Owning.{AreBegins, AreOwn}
use Rattle.hb_itemlaws.specs.Txns.{TellsOwn}
use Rattle.hb_lives.specs.Stretches.{AreOnce, AreTold, IsOwned, Stretches, StretchesAreTxns, loose, nothing, owned, txn_of}
use Rattle.hb_lives.proofs.Currents.{begins_append, begun_apart, not_asked, obeys_behind, obeys_front}

-- ---- lists of items

pub calls_append : (xs ys : List Item) → calls_of (xs ++ ys) ≡ calls_of xs ++ calls_of ys
calls_append [] ys = refl
calls_append (x ∷ xs) ys = ap (λ l. x.calls ++ l) (calls_append xs ys) ∙ sym (append_assoc x.calls (calls_of xs) (calls_of ys))

begins_both : (xs ys : List Item) → begins_of (calls_of (xs ++ ys)) ≡ begins_of (calls_of xs) ++ begins_of (calls_of ys)
begins_both xs ys = ap begins_of (calls_append xs ys) ∙ begins_append (calls_of xs) (calls_of ys)

items_obey : (session : ℕ) (front xs more : List Item) → ObeysFrom session (calls_of front) (calls_of (xs ++ more)) → ObeysFrom session (calls_of (front ++ xs)) (calls_of more)
items_obey session front xs more h =
    subst (λ l. ObeysFrom session l (calls_of more)) (sym (calls_append front xs))
    (obeys_behind session (calls_of front) (calls_of xs) (calls_of more) (subst (ObeysFrom session (calls_of front)) (calls_append xs more) h))

begins_behind : (xs more : List Item) → AreBegins (calls_of (xs ++ more)) → AreBegins (calls_of more)
begins_behind xs more sys = Each-back (λ (c : Call). IsTrue (is_begun c.answer) → IsTrue (is_begin c.request)) (calls_of xs) (calls_of more) (subst AreBegins (calls_append xs more) sys)

once_behind : (xs ys : List ℕ) → AreOnce (xs ++ ys) → AreOnce ys
once_behind [] ys o = o
once_behind (x ∷ xs) ys o = once_behind xs ys o.1

-- ---- idle items

right_holds : (a b : Bool) → a && b ≡ true → b ≡ true
right_holds true b e = e
right_holds false b e = absurd (false≢true e)

left_holds : (a b : Bool) → a && b ≡ true → a ≡ true
left_holds true b e = refl
left_holds false b e = absurd (false≢true e)

no_length : (n : ℕ) → (n == 0) ≡ true → n ≡ 0
no_length n e = grind (arith, nat_tests)

no_calls : (calls : List Call) → length calls ≡ 0 → calls ≡ []
no_calls [] e = refl
no_calls (c ∷ cs) e = absurd (omega (arith, e))

idle_asks_none : (i : Item) → is_idle i ≡ true → i.calls ≡ []
idle_asks_none i e = no_calls i.calls (no_length (length i.calls) (left_holds (length i.calls == 0) (list_all is_aside i.lines) e))

aside_lines : (lines : List Reply) → list_all is_aside lines ≡ true → Each (λ r. IsTrue (is_loose r || is_told r)) lines
aside_lines [] e = tt
aside_lines (r ∷ rs) e =
    (ap (λ b. (b || is_outside r) || is_told r) (left_holds (is_aside r) (list_all is_aside rs) e), aside_lines rs (right_holds (is_aside r) (list_all is_aside rs) e))

idle_loose : (i : Item) → is_idle i ≡ true → IsLoose i
idle_loose i e = record {
  asks_none = subst (Each (λ (c : Call). tx_asked c.request ≡ _)) (sym (idle_asks_none i e)) tt;
  tells_none = aside_lines i.lines (right_holds (length i.calls == 0) (list_all is_aside i.lines) e);
}

-- an item of a stretch is the transaction's own, or it did nothing
own_or_loose : (items : List Item) → Each (λ i. IsIn i (own_items items) ⊎ IsLoose i) items
own_or_loose [] = tt
own_or_loose (i ∷ is) = by (is_idle i) refl (own_or_loose is)
  where
    by : (b : Bool) → is_idle i ≡ b → Each (λ j. IsIn j (own_items is) ⊎ IsLoose j) is
        → Each (λ j. IsIn j (if b then own_items is else i ∷ own_items is) ⊎ IsLoose j) (i ∷ is)
    by true e more = (inr (idle_loose i e), more)
    by false e more =
        (inl (inl refl), Each-of (λ j. IsIn j (own_items is) ⊎ IsLoose j) (λ j. IsIn j (i ∷ own_items is) ⊎ IsLoose j) is (λ j x. elim x [ inl h ↦ inl (inr h) | inr l ↦ inr l ]) more)

own_each : (P : Item → Type 0) (items : List Item) → Each P items → Each P (own_items items)
own_each P [] h = tt
own_each P (i ∷ is) h = by (is_idle i) (own_each P is h.1)
  where
    by : (b : Bool) → Each P (own_items is) → Each P (if b then own_items is else i ∷ own_items is)
    by true more = more
    by false more = (h.0, more)

begins_own : (items : List Item) → begins_of (calls_of items) ≡ begins_of (calls_of (own_items items))
begins_own [] = refl
begins_own (i ∷ is) = by (is_idle i) refl (begins_own is)
  where
    by : (b : Bool) → is_idle i ≡ b → begins_of (calls_of is) ≡ begins_of (calls_of (own_items is))
        → begins_of (i.calls ++ calls_of is) ≡ begins_of (calls_of (if b then own_items is else i ∷ own_items is))
    by true e more = ap (λ l. begins_of (l ++ calls_of is)) (idle_asks_none i e) ∙ more
    by false e more = begins_append i.calls (calls_of is) ∙ ap (λ l. begins_of i.calls ++ l) more ∙ sym (begins_append i.calls (calls_of (own_items is)))

-- ---- what a transaction's items begin

begun_calls : (tx : ℕ) (calls : List Call) → BeginsIt tx calls → begins_of calls ≡ tx ∷ []
begun_calls tx calls b =
    ap begins_of b.parts ∙ begins_append b.before (b.begin ∷ b.more) ∙ ap (λ l. l ++ begins_of (b.begin ∷ b.more)) b.none_before
    ∙ ap (λ l. begun_in b.begin.answer ++ l) b.none_behind ∙ b.begun

others_begin_none : (tx : ℕ) (before : List Call) (items : List Item) → AllAsk tx before items → begins_of (calls_of items) ≡ []
others_begin_none tx before [] h = refl
others_begin_none tx before (i ∷ is) h =
    begins_append i.calls (calls_of is) ∙ ap (λ l. l ++ begins_of (calls_of is)) h.0.0 ∙ others_begin_none tx (before ++ i.calls) is h.1

owned_begins : (tx : ℕ) (items : List Item) → AreOwn tx items → begins_of (calls_of items) ≡ tx ∷ []
owned_begins tx items o =
    begins_own items ∙ ap (λ l. begins_of (calls_of l)) o.own ∙ begins_append o.first.calls (calls_of o.others)
    ∙ ap (λ l. l ++ begins_of (calls_of o.others)) (begun_calls tx o.first.calls o.begins) ∙ ap (λ l. tx ∷ l) (others_begin_none tx o.first.calls o.others o.asked)

owned_both : (tx : ℕ) (items more : List Item) → AreOwn tx items → begins_of (calls_of (items ++ more)) ≡ tx ∷ begins_of (calls_of more)
owned_both tx items more o = begins_both items more ∙ ap (λ l. l ++ begins_of (calls_of more)) (owned_begins tx items o)

-- ---- behind a transaction

some_begun : (tx : ℕ) (xs : List ℕ) → xs ≡ tx ∷ [] → xs ≢ []
some_begun tx xs e none = absurd (cc (sym e ∙ none))

-- its first item asks nothing of another transaction
over_first : (session tx t : ℕ) (front items more : List Item) → AreOwn tx items → tx ≢ t → ObeysFrom session (calls_of front) (calls_of (items ++ more)) → AreBegins (calls_of (items ++ more))
    → IsOver t (items ++ more)
over_first session tx t front items more o other h sys =
    let B : Call → Type 0 = λ c. IsTrue (is_begun c.answer) → IsTrue (is_begin c.request) in
    let rest : List Call = calls_of (o.more ++ more) in
    let obeys = obeys_front session (calls_of front) o.first.calls rest (subst (λ l. ObeysFrom session (calls_of front) (calls_of (l ++ more))) o.parts h) in
    let known = Each-front B o.first.calls rest (subst (λ l. AreBegins (calls_of (l ++ more))) o.parts sys) in
    subst (λ l. IsOver t (l ++ more)) (sym o.parts)
    (begun_apart session tx t (calls_of front) o.first.calls other o.begins obeys known, inl (some_begun tx (begins_of o.first.calls) (begun_calls tx o.first.calls o.begins)))

is_over : (back_ends session t : ℕ) (front items : List Item) (txns : List Txn) → Stretches back_ends session front items txns → ObeysFrom session (calls_of front) (calls_of items)
    → AreBegins (calls_of items) → Each (λ y. y ≢ t) (begins_of (calls_of items)) → IsOver t items
is_over back_ends session t front _ _ nothing h sys apart = tt
is_over back_ends session t front _ _ (loose {i = i} {more = more} {txns = txns} l rest) h sys apart = (
  Each-of (λ (c : Call). tx_asked c.request ≡ _) (λ (c : Call). tx_asked c.request ≢ Some t) i.calls (λ c e. not_asked t c.request e) l.nothing_done.asks_none,
  inr (is_over back_ends session t (front ++ i ∷ []) more txns rest (items_obey session front (i ∷ []) more h) (begins_behind (i ∷ []) more sys)
      (Each-back (λ y. y ≢ t) (begins_of i.calls) (begins_of (calls_of more)) (subst (Each (λ y. y ≢ t)) (begins_append i.calls (calls_of more)) apart))),
)
is_over back_ends session t front _ _ (owned {items = items} {more = more} owner tx o rest) h sys apart =
    over_first session tx t front items more o.right.own (subst (Each (λ y. y ≢ t)) (owned_both tx items more o.right.own) apart).0 h sys

-- ---- the whole

no_turn : (front : List Item) (place : ℕ) (d : Doing) (calls : List Call) (lines : List Reply) → IsOfStatements d
    → TurnIsRight front (record { place = place; doing = d; calls = calls; lines = lines })
no_turn front place (sql st) calls lines h = tt
no_turn front place tending calls lines h = tt
no_turn front place (turn table most) calls lines h = absurd h

later : (t : Txn) (txns : List Txn) (caller : ℕ) (i : Item) → IsSomebodys txns caller i → IsSomebodys (t ∷ txns) caller i
later t txns caller i (inl h) = inl (inr h)
later t txns caller i (inr l) = inr l

module _ (back_ends session : ℕ) (lists : List (List Item)) (whole : List Item) (stands : slice_get lists (session + 1) ≡ Some whole) where
  is_txn : (front items more : List Item) (owner : Owner) (tx : ℕ) → IsOwned back_ends session front owner tx items → whole ≡ front ++ (items ++ more) → IsOver tx more
      → IsTxnOf lists (txn_of owner tx items)
  is_txn front items more owner tx o e over = record {
    front = front;
    stretch = items;
    back = more;
    first = o.right.own.first;
    others = o.right.own.others;
    parts = subst (λ n. slice_get lists (n + 1) ≡ Some (front ++ items ++ more)) (sym o.whose) (stands ∙ ap Some (e ∙ sym (append_assoc front items more)));
    own = o.right.own.own;
    items = o.right.own.own;
    begins = o.right.own.begins;
    asked = o.right.own.asked;
    counted = o.counted;
    over = over;
    turns = Each-of (λ (i : Item). IsOfStatements i.doing) (TurnIsRight front) (own_items items) (λ i h. no_turn front i.place i.doing i.calls i.lines h)
        (own_each (λ i. IsOfStatements i.doing) items o.kinds);
  }

  somebodys : (front items : List Item) (txns : List Txn) (owner : Owner) (tx : ℕ) → IsOwned back_ends session front owner tx items → Each (IsSomebodys (txn_of owner tx items ∷ txns) (session + 1)) items
  somebodys front items txns owner tx o =
      Each-of (λ i. IsIn i (own_items items) ⊎ IsLoose i) (IsSomebodys (txn_of owner tx items ∷ txns) (session + 1)) items
      (λ i x. elim x [ inl h ↦ inl (inl (ap (λ n. n + 1) o.whose, h)) | inr l ↦ inr l ]) (own_or_loose items)

  told : (front items : List Item) (txns : List Txn) → Stretches back_ends session front items txns → whole ≡ front ++ items → ObeysFrom session (calls_of front) (calls_of items)
      → AreBegins (calls_of items) → AreOnce (begins_of (calls_of items)) → AreTold back_ends session lists items txns
  told front _ _ nothing e h sys once = record { each = tt; right = tt; all = tt; none_left = tt; numbers = tt; outcomes = λ others. tt }
  told front _ _ (loose {i = i} {more = more} {txns = txns} l rest) e h sys once =
      let same : begins_of (i.calls ++ calls_of more) ≡ begins_of (calls_of more) = begins_append i.calls (calls_of more) ∙ ap (λ xs. xs ++ begins_of (calls_of more)) l.none in
      let r = told (front ++ i ∷ []) more txns rest (e ∙ sym (append_assoc front (i ∷ []) more)) (items_obey session front (i ∷ []) more h) (begins_behind (i ∷ []) more sys) (subst AreOnce same once) in
      record {
        each = r.each;
        right = r.right;
        all = subst (Each (λ tx. Has (λ (t : Txn). t.tx ≡ tx) txns)) (sym same) r.all;
        none_left = (inr l.nothing_done, r.none_left);
        numbers = (l.tells.numbers, r.numbers);
        outcomes = λ others. (l.tells.outcomes others, r.outcomes others);
      }
  told front _ _ (owned {items = items} {more = more} {txns = txns} owner tx o rest) e h sys once =
      let t : Txn = txn_of owner tx items in
      let same = owned_both tx items more o.right.own in
      let apart = subst AreOnce same once in
      let obeys = items_obey session front items more h in
      let known = begins_behind items more sys in
      let r = told (front ++ items) more txns rest (e ∙ sym (append_assoc front items more)) obeys known apart.1 in
      record {
        each = (is_txn front items more owner tx o e (is_over back_ends session tx (front ++ items) more txns rest obeys known apart.0), r.each);
        right = (o.right.right, r.right);
        all = subst (Each (λ n. Has (λ (u : Txn). u.tx ≡ n) (t ∷ txns))) (sym same)
            (inl refl, Each-of (λ n. Has (λ (u : Txn). u.tx ≡ n) txns) (λ n. Has (λ (u : Txn). u.tx ≡ n) (t ∷ txns)) (begins_of (calls_of more)) (λ n x. inr x) r.all);
        none_left = Each-append (IsSomebodys (t ∷ txns) (session + 1)) items more (somebodys front items txns owner tx o)
            (Each-of (IsSomebodys txns (session + 1)) (IsSomebodys (t ∷ txns) (session + 1)) more (later t txns (session + 1)) r.none_left);
        numbers = Each-append ShowsAnswered items more (Each-of TellsOwn ShowsAnswered items (λ i x. x.numbers) o.right.tells) r.numbers;
        outcomes = λ others.
            let P : Item → Type 0 = λ i. Each (TellsOutcome others i.calls) i.lines in
            Each-append P items more (Each-of TellsOwn P items (λ i x. x.outcomes others) o.right.tells) (r.outcomes others);
      }

pub stretches_txns : StretchesAreTxns
stretches_txns back_ends session lists items txns at s obeys sys once = told back_ends session lists items at [] items txns s refl obeys sys once
