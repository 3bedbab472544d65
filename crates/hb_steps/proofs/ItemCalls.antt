-- A decided transaction's items, and their calls.
use Rattle.std.proofs.Common.{◌≡◌, ◌≢◌, ◌⊎◌, ◌∙◌, ℕ, zero, suc, Bool, true, false, List, [], ◌∷◌, ◌++◌, Some, None, ap, append_assoc, append-nil, arith, inl, inr, length, map, refl, subst, sym}
use Rattle.std.specs.Prelude.{IsTrue, not, ◌==◌, ◌&&◌, slice_get}
use Rattle.std.specs.List.{list_all}
use Rattle.std.specs.Ordering.{nat_cmp}
use Rattle.std.proofs.lemmas.Bool.{false≢true}
use Rattle.std.proofs.lemmas.Bool.Decides.{nat_tests}
use Rattle.hb_types.specs.declared.answer.Answer.{Answer}
use Rattle.hb_types.specs.declared.answer.Answer.TheVariants as answer
use Rattle.hb_types.specs.declared.request.Request.{Request}
use Rattle.hb_types.specs.declared.request.Request.TheVariants as request
use Rattle.hb_types.specs.declared.trail.Call.{Call}
use Rattle.hb_types.specs.Lists.{Ascends, Each, Has, IsIn}
use Rattle.hb_types.proofs.Ascending.{Each-front, in_Each}
use Rattle.hb_loglaws.proofs.Members.{found}
use Rattle.hb_model.specs.Answers.{AnswersOf, HasAsked, IsAnswerOf, after_answer, after_call, afters, is_of_rows, is_undoing, rows_of}
use Rattle.hb_model.specs.Families.{Family}
use Rattle.hb_model.specs.Items.{Item, calls_of}
use Rattle.hb_disks.specs.Images.{Logs, family}
use Rattle.hb_disks.specs.Redo.{Decided}
use Rattle.hb_law.specs.Callers.{is_begun}
use Rattle.hb_law.specs.Histories.{Labelled, Trails}
use Rattle.hb_law.specs.Standing.{is_aside}
use Rattle.hb_law.specs.Transactions.{AllAsk, IsApart, IsOver, IsTxnOf, Txn, begins_of, begun_in, caller_of, is_idle, own_items, tx_asked}
use Rattle.hb_coordlaws.specs.Ascending.{TransactionsAscend}
use Rattle.hb_parts.specs.Callings.{IsOfSystem, is_begin}
use Rattle.hb_parts.specs.Courses.{AskNone, IsCourse, Within}
use Rattle.hb_parts.specs.Rows.{OneFamily}
use Rattle.hb_parts.specs.Txns.{AreDecidedCalls, HasItems, Itemed}
use Rattle.hb_parts.specs.Voting.{IsNewDecision}
use Rattle.hb_whose.proofs.Currents.{begins_append}
use Rattle.hb_whose.proofs.Owners.{begins_ascend, same_caller}
use Rattle.hb_whose.proofs.Parts.{behind_at, each_part, is_there, none_some, some_is}
use Rattle.hb_whose.proofs.Told.{has_begin, heads, one_begin}
use Rattle.hb_whose.proofs.Trailing.{each_got, same_got}
use Rattle.hb_steps.proofs.RunThroughs.{InOf, first, in_of, second}

-- ---- lists of items and lists of calls

pub got_map : {A B : Type 0} (f : A → B) (xs : List A) (i : ℕ) (y : B) → slice_get (map f xs) i ≡ Some y → (x : A) × (slice_get xs i ≡ Some x) × (f x ≡ y)
got_map f [] i y h = absurd (none_some y h)
got_map f (x ∷ xs) zero y h = (x, refl, some_is (f x) y h)
got_map f (x ∷ xs) (suc i) y h = got_map f xs i y h

pub map_got : {A B : Type 0} (f : A → B) (xs : List A) (i : ℕ) (x : A) → slice_get xs i ≡ Some x → slice_get (map f xs) i ≡ Some (f x)
map_got f [] i x h = absurd (none_some x h)
map_got f (y ∷ ys) zero x h = ap (λ z. Some (f z)) (some_is y x h)
map_got f (y ∷ ys) (suc i) x h = map_got f ys i x h

pub calls_append : (xs ys : List Item) → calls_of (xs ++ ys) ≡ calls_of xs ++ calls_of ys
calls_append [] ys = refl
calls_append (x ∷ xs) ys = ap (λ l. x.calls ++ l) (calls_append xs ys) ∙ sym (append_assoc x.calls (calls_of xs) (calls_of ys))

-- an item that is idle has no call
idle_calls : (calls : List Call) (b : Bool) → IsTrue ((length calls == 0) && b) → calls ≡ []
idle_calls [] b h = refl
idle_calls (c ∷ cs) b h = absurd (none (length cs) b h)
  where
    none : (n : ℕ) (b : Bool) → IsTrue ((suc n == 0) && b) → ⊥
    none n b h = grind (arith, nat_tests)

own_one : (i : Item) (is : List Item) (b : Bool) → is_idle i ≡ b → calls_of (own_items (i ∷ is)) ≡ i.calls ++ calls_of (own_items is)
own_one i is true e = rw e (ap (λ l. l ++ calls_of (own_items is)) (sym (idle_calls i.calls (list_all is_aside i.lines) e)))
own_one i is false e = rw e refl

pub calls_with : (is : List Item) → calls_of (own_items is) ≡ calls_of is
calls_with [] = refl
calls_with (i ∷ is) = own_one i is (is_idle i) refl ∙ ap (λ l. i.calls ++ l) (calls_with is)

-- ---- fronts

pub either_front : (xs ys us vs : List Call) → xs ++ ys ≡ us ++ vs
    → ((m : List Call) × (xs ≡ us ++ m) × (vs ≡ m ++ ys)) ⊎ ((m : List Call) × (us ≡ xs ++ m) × (ys ≡ m ++ vs))
either_front [] ys us vs e = inr (us, refl, e)
either_front (x ∷ xs) ys [] vs e = inl (x ∷ xs, refl, sym e)
either_front (x ∷ xs) ys (u ∷ us) vs e = by (heads x u (xs ++ ys) (us ++ vs) e) (either_front xs ys us vs (heads x u (xs ++ ys) (us ++ vs) e).1)
  where
    by : (x ≡ u) × (xs ++ ys ≡ us ++ vs) → ((m : List Call) × (xs ≡ us ++ m) × (vs ≡ m ++ ys)) ⊎ ((m : List Call) × (us ≡ xs ++ m) × (ys ≡ m ++ vs))
        → ((m : List Call) × (x ∷ xs ≡ u ∷ us ++ m) × (vs ≡ m ++ ys)) ⊎ ((m : List Call) × (u ∷ us ≡ x ∷ xs ++ m) × (ys ≡ m ++ vs))
    by k (inl m) = inl (m.0, ap (λ l. x ∷ l) m.1 ∙ ap (λ z. z ∷ (us ++ m.0)) k.0, m.2)
    by k (inr m) = inr (m.0, ap (λ l. u ∷ l) m.1 ∙ ap (λ z. z ∷ (xs ++ m.0)) (sym k.0), m.2)

nil_front : (us vs : List ℕ) → us ++ vs ≡ [] → us ≡ []
nil_front [] vs h = refl
nil_front (y ∷ ys) vs h = absurd (cons_nil y (ys ++ vs) h)
  where
    cons_nil : (y : ℕ) (zs : List ℕ) → y ∷ zs ≡ [] → ⊥
    cons_nil y zs h = cc

pub front_none : (us vs : List Call) → begins_of (us ++ vs) ≡ [] → begins_of us ≡ []
front_none us vs h = nil_front (begins_of us) (begins_of vs) (sym (begins_append us vs) ∙ h)

pub back_none : (us vs : List Call) → begins_of (us ++ vs) ≡ [] → begins_of vs ≡ []
back_none us vs h = let f = front_none us vs h in sym (ap (λ l. l ++ begins_of vs) f) ∙ sym (begins_append us vs) ∙ h

-- calls that begin nothing, in front of a list that goes on as another up to where one begins
pub record GoesOn (course after xs ys : List Call) : Type 0 where
  pub rest : List Call
  pub parts : course ≡ xs ++ rest
  pub behind : ys ≡ rest ++ after

pub goes_on : (course after xs ys : List Call) → course ++ after ≡ xs ++ ys → begins_of xs ≡ []
    → (after ≡ []) ⊎ ((c : Call) × (more : List Call) × (after ≡ c ∷ more) × (begins_of (c ∷ []) ≢ [])) → GoesOn course after xs ys
goes_on course after xs ys e none next = by (either_front course after xs ys e)
  where
    whole : (m : List Call) → xs ≡ course ++ m → after ≡ m ++ ys → m ≡ [] → GoesOn course after xs ys
    whole m p q n =
        record { rest = []; parts = sym (p ∙ ap (λ l. course ++ l) n ∙ append-nil course) ∙ sym (append-nil xs); behind = sym (q ∙ ap (λ l. l ++ ys) n) }

    nil_of : (m ys : List Call) → [] ≡ m ++ ys → m ≡ []
    nil_of [] ys h = refl
    nil_of (x ∷ m) ys h = cc

    nothing : (m : List Call) → xs ≡ course ++ m → after ≡ m ++ ys
        → (after ≡ []) ⊎ ((c : Call) × (more : List Call) × (after ≡ c ∷ more) × (begins_of (c ∷ []) ≢ [])) → m ≡ []
    nothing m p q (inl n) = nil_of m ys (sym n ∙ q)
    nothing [] p q (inr n) = refl
    nothing (x ∷ m) p q (inr n) =
        let k = heads n.0 x n.1 (m ++ ys) (sym n.2 ∙ q) in
        absurd (n.3 (front_none (n.0 ∷ []) m (subst (λ z. begins_of (z ∷ m) ≡ []) (sym k.0) (back_none course (x ∷ m) (sym (ap begins_of p) ∙ none)))))

    by : ((m : List Call) × (course ≡ xs ++ m) × (ys ≡ m ++ after)) ⊎ ((m : List Call) × (xs ≡ course ++ m) × (after ≡ m ++ ys)) → GoesOn course after xs ys
    by (inl m) = record { rest = m.0; parts = m.1; behind = m.2 }
    by (inr m) = whole m.0 m.1 m.2 (nothing m.0 m.1 m.2 next)

-- ---- behind the items

pub over_none : (t : ℕ) (back : List Item) (f : List Call) (y : Call) (r : List Call) → IsOver t back → calls_of back ≡ f ++ y ∷ r → begins_of f ≡ []
    → tx_asked y.request ≡ Some t → ⊥
over_none t [] f y r o e n q = nil f e
  where
    nil : (f : List Call) → [] ≡ f ++ y ∷ r → ⊥
    nil [] h = cc
    nil (x ∷ xs) h = cc
over_none t (i ∷ is) f y r o e n q = by (in_of i.calls (calls_of is) f y r e) (λ done p d w. over_none t is done y r w p d q)
  where
    by : InOf i.calls (calls_of is) f y r → ((done : List Call) → calls_of is ≡ done ++ y ∷ r → begins_of done ≡ [] → IsOver t is → ⊥) → ⊥
    by (first more p b) rest = in_Each (λ c. tx_asked c.request ≡ Some t → ⊥) y i.calls (subst (IsIn y) (sym p) (is_there y f more)) o.0 q
    by (second done p b) rest = later o.1
      where
        later : (begins_of i.calls ≢ []) ⊎ IsOver t is → ⊥
        later (inl s) = s (front_none i.calls done (sym (ap begins_of p) ∙ n))
        later (inr w) = rest done b (back_none i.calls done (sym (ap begins_of p) ∙ n)) w

-- ---- calls without rows

abbrev AreRowless : List Call → Type 0
AreRowless calls = Each (λ c. is_of_rows c.request ≡ false) calls

same_one : (node : ℕ) (q : Request) (a : Answer) (fs : Family) → is_of_rows q ≡ false → after_answer node q a fs ≡ fs
same_one node (request.Write tx c) a fs e = absurd (false≢true (sym e))
same_one node q a fs e = refl

answer_one : (rows : List Rattle.hb_types.specs.declared.change.Stored.Stored) (q : Request) (a : Answer) → is_of_rows q ≡ false → IsAnswerOf rows q a
answer_one rows (request.Read tx p) a e = absurd (false≢true (sym e))
answer_one rows (request.Scan tx p) a e = absurd (false≢true (sym e))
answer_one rows (request.ScanGroup tx p g) a e = absurd (false≢true (sym e))
answer_one rows q a e = tt

rowless_afters : (fs : Family) (xs ys : List Call) → AreRowless xs → afters fs (xs ++ ys) ≡ afters fs ys
rowless_afters fs [] ys e = refl
rowless_afters fs (x ∷ xs) ys e = ap (λ f. afters f (xs ++ ys)) (same_one x.node.0 x.request x.answer fs e.0) ∙ rowless_afters fs xs ys e.1

rowless_answers : (fs : Family) (xs ys : List Call) → AreRowless xs → AnswersOf fs ys → AnswersOf fs (xs ++ ys)
rowless_answers fs [] ys e a = a
rowless_answers fs (x ∷ xs) ys e a = (
  answer_one (rows_of x.node.0 fs) x.request x.answer e.0,
  subst (λ f. AnswersOf f (xs ++ ys)) (sym (same_one x.node.0 x.request x.answer fs e.0)) (rowless_answers fs xs ys e.1 a),
)

answers_front : (fs : Family) (xs ys : List Call) → AnswersOf fs (xs ++ ys) → AnswersOf fs xs
answers_front fs [] ys h = tt
answers_front fs (x ∷ xs) ys h = (h.0, answers_front (after_call fs x) xs ys h.1)

afters_append : (fs : Family) (xs ys : List Call) → afters fs (xs ++ ys) ≡ afters (afters fs xs) ys
afters_append fs [] ys = refl
afters_append fs (x ∷ xs) ys = afters_append (after_call fs x) xs ys

not_rows : (t : ℕ) (f : List Call) (node : ℕ) (q : Request) → Within t f node q → (tx_asked q ≡ Some t → ⊥) → is_of_rows q ≡ false
not_rows t f node (request.Read tx p) w n = absurd (n (ap (λ z. Some z) w.0))
not_rows t f node (request.Scan tx p) w n = absurd (n (ap (λ z. Some z) w.0))
not_rows t f node (request.ScanGroup tx p g) w n = absurd (n (ap (λ z. Some z) w.0))
not_rows t f node (request.Write tx c) w n = absurd (n (ap (λ z. Some z) w.0))
not_rows t f node q w n = refl

none_rows : (q : Request) → tx_asked q ≡ None → is_of_rows q ≡ false
none_rows (request.Read tx p) e = absurd (none_some tx.0 (sym e))
none_rows (request.Scan tx p) e = absurd (none_some tx.0 (sym e))
none_rows (request.ScanGroup tx p g) e = absurd (none_some tx.0 (sym e))
none_rows (request.Write tx c) e = absurd (none_some tx.0 (sym e))
none_rows q e = refl

begin_plain : (q : Request) → IsTrue (is_begin q) → (is_of_rows q ≡ false) × (is_undoing q ≡ false)
begin_plain (request.Begin owner) e = (refl, refl)
begin_plain q e = absurd (false≢true e)

pub begins_some : (a : Answer) (t : ℕ) → begun_in a ++ [] ≡ t ∷ [] → IsTrue (is_begun a)
begins_some (answer.Begun tx) t h = refl
begins_some a t h = absurd (nil_cons t h)
  where
    nil_cons : (t : ℕ) → [] ≡ t ∷ [] → ⊥
    nil_cons t h = cc

-- ---- the items

module _ (ta : TransactionsAscend) (base logs : Logs) (trails : Trails) (lists : List (List Item)) (txns : List Txn) (fes : List Labelled)
    (front : List Decided) (d : Decided)
    (it : Itemed base logs trails lists txns) (at : slice_get trails 0 ≡ Some fes) (nd : IsNewDecision trails (map calls_of lists) fes d)
    (fam : OneFamily logs front d nd.owned.course) where
  its : (x : List Item) × (slice_get lists nd.owned.caller ≡ Some x) × (calls_of x ≡ nd.owned.list)
  its = got_map calls_of lists nd.owned.caller nd.owned.list nd.owned.its_list

  begun_there : IsIn d.tx (begins_of nd.owned.list)
  begun_there =
      subst (λ l. IsIn d.tx (begins_of l)) (sym nd.owned.parts)
      (has_begin d.tx nd.owned.before nd.owned.begin (nd.owned.course ++ nd.owned.after) nd.owned.begun)

  txn : (t : Txn) × IsIn t txns × (t.tx ≡ d.tx)
  txn =
      found (λ t. t.tx ≡ d.tx) txns
      (in_Each (λ x. Has (λ t. t.tx ≡ x) txns) d.tx (begins_of (calls_of its.0)) (subst (λ l. IsIn d.tx (begins_of l)) (sym its.2) begun_there)
      (each_got (λ l. Each (λ x. Has (λ t. t.tx ≡ x) txns) (begins_of (calls_of l))) lists nd.owned.caller its.0 it.txns_are.all its.1))

  module _ (t : Txn) (known : IsIn t txns) (of_tx : t.tx ≡ d.tx) (x : IsTxnOf lists t) where
    abbrev pre : List Call
    pre = x.begins.before

    abbrev b : Call
    b = x.begins.begin

    -- behind the Begin, in its items and in those behind
    abbrev own : List Call
    own = x.begins.more ++ calls_of x.others

    abbrev behind : List Call
    behind = calls_of x.back

    pub stretch_is : calls_of x.stretch ≡ x.first.calls ++ calls_of x.others
    stretch_is = sym (calls_with x.stretch) ∙ ap calls_of x.own

    pub list_is : calls_of (x.front ++ x.stretch ++ x.back) ≡ (calls_of x.front ++ pre) ++ b ∷ (own ++ behind)
    list_is =
        calls_append (x.front ++ x.stretch) x.back
        ∙ ap (λ l. l ++ behind) (calls_append x.front x.stretch
        ∙ ap (λ l. calls_of x.front ++ l) (stretch_is ∙ ap (λ l. l ++ calls_of x.others) x.begins.parts))
        ∙ append_assoc (calls_of x.front) ((pre ++ b ∷ x.begins.more) ++ calls_of x.others) behind
        ∙ shape (calls_of x.front) pre b x.begins.more (calls_of x.others) behind
      where
        shape : (f p : List Call) (c : Call) (m o z : List Call) → f ++ (((p ++ c ∷ m) ++ o) ++ z) ≡ (f ++ p) ++ c ∷ ((m ++ o) ++ z)
        shape f p c m o z =
            ap (λ l. f ++ (l ++ z)) (append_assoc p (c ∷ m) o) ∙ ap (λ l. f ++ l) (append_assoc p (c ∷ (m ++ o)) z)
            ∙ sym (append_assoc f p (c ∷ ((m ++ o) ++ z)))

    its_list : slice_get (map calls_of lists) (caller_of t.owner) ≡ Some (calls_of (x.front ++ x.stretch ++ x.back))
    its_list = map_got calls_of lists (caller_of t.owner) (x.front ++ x.stretch ++ x.back) x.parts

    begun_b : begins_of (b ∷ []) ≡ d.tx ∷ []
    begun_b = x.begins.begun ∙ ap (λ z. z ∷ []) of_tx

    begun_here : IsIn d.tx (begins_of (calls_of (x.front ++ x.stretch ++ x.back)))
    begun_here = subst (λ l. IsIn d.tx (begins_of l)) (sym list_is) (has_begin d.tx (calls_of x.front ++ pre) b (own ++ behind) begun_b)

    same_list : nd.owned.list ≡ calls_of (x.front ++ x.stretch ++ x.back)
    same_list =
        same_got (map calls_of lists) nd.owned.caller (caller_of t.owner) nd.owned.list (calls_of (x.front ++ x.stretch ++ x.back)) nd.owned.its_list its_list
        (same_caller ta base logs trails (map calls_of lists) it.callings fes at nd.owned.caller (caller_of t.owner) d.tx nd.owned.list
        (calls_of (x.front ++ x.stretch ++ x.back)) nd.owned.its_list its_list begun_there begun_here)

    tails : nd.owned.course ++ nd.owned.after ≡ own ++ behind
    tails =
        one_begin d.tx nd.owned.before nd.owned.begin (nd.owned.course ++ nd.owned.after) (calls_of x.front ++ pre) b (own ++ behind) nd.owned.begun begun_b
        (subst (λ l. Ascends nat_cmp (begins_of l)) nd.owned.parts
        (begins_ascend ta base logs trails (map calls_of lists) it.callings fes at nd.owned.caller nd.owned.list nd.owned.its_list))
        (sym nd.owned.parts ∙ same_list ∙ list_is)

    others_none : (u : ℕ) (before : List Call) (is : List Item) → AllAsk u before is → begins_of (calls_of is) ≡ []
    others_none u before [] a = refl
    others_none u before (i ∷ is) a =
        begins_append i.calls (calls_of is) ∙ ap (λ l. l ++ begins_of (calls_of is)) a.0.0 ∙ others_none u (before ++ i.calls) is a.1

    own_none : begins_of own ≡ []
    own_none =
        begins_append x.begins.more (calls_of x.others) ∙ ap (λ l. l ++ begins_of (calls_of x.others)) x.begins.none_behind
        ∙ others_none t.tx x.first.calls x.others x.asked

    on : GoesOn nd.owned.course nd.owned.after own behind
    on = goes_on nd.owned.course nd.owned.after own behind tails own_none nd.owned.next

    rest_none : AskNone d.tx on.rest
    rest_none =
        each_part (λ c. tx_asked c.request ≡ Some d.tx → ⊥) on.rest
        (λ f y r e q. over_none t.tx x.back f y (r ++ nd.owned.after) x.over
        (on.behind ∙ ap (λ l. l ++ nd.owned.after) e ∙ append_assoc f (y ∷ r) nd.owned.after)
        (front_none f (y ∷ r) (sym (ap begins_of e) ∙ back_none own on.rest (sym (ap begins_of on.parts) ∙ nd.owned.alone))) (q ∙ ap (λ z. Some z) (sym of_tx)))

    items_are : calls_of t.items ≡ pre ++ b ∷ own
    items_are = ap calls_of x.items ∙ ap (λ l. l ++ calls_of x.others) x.begins.parts ∙ append_assoc pre (b ∷ x.begins.more) (calls_of x.others)

    b_begins : IsTrue (is_begin b.request)
    b_begins =
        let member : IsIn b nd.owned.list = subst (IsIn b) (sym (same_list ∙ list_is)) (is_there b (calls_of x.front ++ pre) (own ++ behind)) in
        ((in_Each IsOfSystem b nd.owned.list member
        (each_got (λ l. Each IsOfSystem l) (map calls_of lists) nd.owned.caller nd.owned.list it.callings.system nd.owned.its_list)).begins
        (begins_some b.answer d.tx begun_b)).1

    decided_calls : AreDecidedCalls d (calls_of t.items)
    decided_calls = by (in_of own on.rest nd.is_decided.front nd.is_decided.decide nd.is_decided.back (sym on.parts ∙ nd.is_decided.parts))
      where
        split_undone : (xs ys : List Call) → HasAsked is_undoing (xs ++ ys) → HasAsked is_undoing xs ⊎ HasAsked is_undoing ys
        split_undone [] ys h = inr h
        split_undone (z ∷ zs) ys (inl p) = inl (inl p)
        split_undone (z ∷ zs) ys (inr h) = elim (split_undone zs ys h) [ inl i ↦ inl (inr i) | inr j ↦ inr j ]

        apart_none : (cs : List Call) → Each IsApart cs → HasAsked is_undoing cs → ⊥
        apart_none [] e h = h
        apart_none (c ∷ cs) e (inl p) = both (is_undoing c.request) e.0.1 p
          where
            both : (v : Bool) → IsTrue (not v) → IsTrue v → ⊥
            both true n y = false≢true n
            both false n y = false≢true y
        apart_none (c ∷ cs) e (inr h) = apart_none cs e.1 h

        undone : HasAsked is_undoing (pre ++ b ∷ nd.is_decided.front) → ⊥
        undone h =
            elim (split_undone pre (b ∷ nd.is_decided.front) h) [
              | inl p ↦ apart_none pre x.begins.apart p
              | inr q ↦ elim q [ inl p ↦ false≢true (sym (begin_plain b.request b_begins).1 ∙ p) | inr p ↦ nd.is_decided.not_undone p ]
            ]

        by : InOf own on.rest nd.is_decided.front nd.is_decided.decide nd.is_decided.back → AreDecidedCalls d (calls_of t.items)
        by (second done p q) =
            absurd (in_Each (λ c. tx_asked c.request ≡ Some d.tx → ⊥) nd.is_decided.decide on.rest
            (subst (IsIn nd.is_decided.decide) (sym q) (is_there nd.is_decided.decide done nd.is_decided.back)) rest_none (ap tx_asked nd.is_decided.asked))
        by (first more p q) =
            record {
              front = pre ++ b ∷ nd.is_decided.front;
              votes = nd.is_decided.votes;
              decide = nd.is_decided.decide;
              back = more;
              parts = items_are ∙ ap (λ l. pre ++ b ∷ l) p ∙ sym (append_assoc pre (b ∷ nd.is_decided.front) (nd.is_decided.decide ∷ more));
              asked = nd.is_decided.asked;
              answered = nd.is_decided.answered;
              not_undone = undone;
              nothing_behind = Each-front (λ c. tx_asked c.request ≡ Some d.tx → ⊥) more on.rest (subst (AskNone d.tx) q nd.is_decided.nothing_behind);
            }

    pre_rowless : (cs : List Call) → Each IsApart cs → AreRowless cs
    pre_rowless [] e = tt
    pre_rowless (c ∷ cs) e = (none_rows c.request e.0.0, pre_rowless cs e.1)

    front_rowless : AreRowless (pre ++ b ∷ [])
    front_rowless = joins pre (pre_rowless pre x.begins.apart)
      where
        joins : (cs : List Call) → AreRowless cs → AreRowless (cs ++ b ∷ [])
        joins [] e = ((begin_plain b.request b_begins).0, tt)
        joins (c ∷ cs) e = (e.0, joins cs e.1)

    rest_rowless : AreRowless on.rest
    rest_rowless =
        each_part (λ c. is_of_rows c.request ≡ false) on.rest
        (λ f y r e. not_rows d.tx (own ++ f) y.node.0 y.request
        (behind_at (λ g z. Within d.tx g z.node.0 z.request) [] (own ++ f) y r
        (subst (IsCourse d.tx) (on.parts ∙ ap (λ l. own ++ l) e ∙ sym (append_assoc own f (y ∷ r))) nd.owned.is_course))
        (in_Each (λ c. tx_asked c.request ≡ Some d.tx → ⊥) y on.rest (subst (IsIn y) (sym e) (is_there y f r)) rest_none))

    one_family : OneFamily logs front d (calls_of t.items)
    one_family =
        let shape : calls_of t.items ≡ (pre ++ b ∷ []) ++ own = items_are ∙ sym (append_assoc pre (b ∷ []) own) in
        let here : AnswersOf (family logs front) own = answers_front (family logs front) own on.rest
        (subst (AnswersOf (family logs front)) on.parts fam.answers) in
        let rest_same : afters (afters (family logs front) own) (on.rest ++ []) ≡ afters (afters (family logs front) own) [] = rowless_afters
        (afters (family logs front) own) on.rest [] rest_rowless in
        record {
          answers = subst (AnswersOf (family logs front)) (sym shape) (rowless_answers (family logs front) (pre ++ b ∷ []) own front_rowless here);
          after =
              ap (afters (family logs front)) shape ∙ rowless_afters (family logs front) (pre ++ b ∷ []) own front_rowless
              ∙ sym (ap (afters (afters (family logs front) own)) (sym (append-nil on.rest)) ∙ rest_same)
              ∙ sym (afters_append (family logs front) own on.rest) ∙ ap (afters (family logs front)) (sym on.parts) ∙ fam.after;
        }

    pub has_items : HasItems logs txns front d t
    has_items = record { known = known; of_tx = of_tx; calls = decided_calls; rows = one_family }

  pub new_items : (t : Txn) × HasItems logs txns front d t
  new_items = (txn.0, has_items txn.0 txn.1 txn.2 (in_Each (IsTxnOf lists) txn.0 txns txn.1 it.txns_are.each))
