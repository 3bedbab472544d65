-- What is asked behind the Begin of one transaction is of no other.
use Rattle.std.proofs.Common.{◌≡◌, ◌≢◌, ◌∙◌, ℕ, List, [], ◌∷◌, ◌++◌, Option, Some, None, true, append-nil, ap, refl, subst, sym}
use Rattle.std.specs.Prelude.{IsTrue, MatchOption}
use Rattle.std.proofs.lemmas.Bool.{false≢true}
use Rattle.std.proofs.lemmas.List.{append_assoc}
use Rattle.hb_types.specs.declared.answer.Answer.{Answer}
use Rattle.hb_types.specs.declared.answer.Answer.TheVariants as answer
use Rattle.hb_types.specs.declared.request.Request.{Request}
use Rattle.hb_types.specs.declared.request.Request.TheVariants as request
use Rattle.hb_types.specs.declared.trail.Call.{Call}
use Rattle.hb_types.specs.Lists.{Each}
use Rattle.hb_types.proofs.Ascending.{Each-append, Each-back, Each-of}
use Rattle.hb_law.specs.Callers.{Current, IsOpen, MayBeDecided, MayDecide, MayEnlist, ObeysFrom, Own, Permitted, current, current_from, is_begun, one_more}
use Rattle.hb_law.specs.Transactions.{BeginsIt, begins_of, begun_in, tx_asked}
use Rattle.hb_runs.specs.Kinds.{is_begin}
use Rattle.hb_itemlaws.specs.Owning.{AreBegins}

-- ---- lists of calls

pub begins_append : (xs ys : List Call) → begins_of (xs ++ ys) ≡ begins_of xs ++ begins_of ys
begins_append [] ys = refl
begins_append (x ∷ xs) ys = ap (λ l. begun_in x.answer ++ l) (begins_append xs ys) ∙ sym (append_assoc (begun_in x.answer) (begins_of xs) (begins_of ys))

pub both_nil : (xs ys : List ℕ) → xs ++ ys ≡ [] → (xs ≡ []) × (ys ≡ [])
both_nil [] ys e = (refl, e)
both_nil (x ∷ xs) ys e = absurd (cc e)

pub obeys_behind : (session : ℕ) (front xs ys : List Call) → ObeysFrom session front (xs ++ ys) → ObeysFrom session (front ++ xs) ys
obeys_behind session front [] ys h = subst (λ l. ObeysFrom session l ys) (sym (append-nil front)) h
obeys_behind session front (x ∷ xs) ys h = subst (λ l. ObeysFrom session l ys) (append_assoc front (x ∷ []) xs) (obeys_behind session (front ++ x ∷ []) xs ys h.1)

pub obeys_front : (session : ℕ) (front xs ys : List Call) → ObeysFrom session front (xs ++ ys) → ObeysFrom session front xs
obeys_front session front [] ys h = tt
obeys_front session front (x ∷ xs) ys h = (h.0, obeys_front session (front ++ x ∷ []) xs ys h.1)

-- ---- the transaction that was begun last

current_behind : (o : Option Current) (xs ys : List Call) → current_from o (xs ++ ys) ≡ current_from (current_from o xs) ys
current_behind o [] ys = refl
current_behind o (x ∷ xs) ys = current_behind (one_more x x.answer o) xs ys

abbrev IsCurrent : ℕ → Option Current → Type 0
IsCurrent tx None = ⊥
IsCurrent tx (Some n) = n.tx ≡ tx

abbrev head_or : ℕ → List ℕ → ℕ
head_or d [] = d
head_or d (x ∷ xs) = x

begun_current : (tx : ℕ) (c : Call) (a : Answer) (o : Option Current) → begun_in a ++ [] ≡ tx ∷ [] → IsCurrent tx (one_more c a o)
begun_current tx c (answer.Begun t) o e = ap (head_or 0) e
begun_current tx c _ o e = absurd (cc e)

begun_tells : (tx : ℕ) (a : Answer) → begun_in a ++ [] ≡ tx ∷ [] → IsTrue (is_begun a)
begun_tells tx (answer.Begun t) e = refl
begun_tells tx _ e = absurd (cc e)

stays_one : (tx : ℕ) (c : Call) (a : Answer) (o : Option Current) → begun_in a ≡ [] → IsCurrent tx o → IsCurrent tx (one_more c a o)
stays_one tx c (answer.Begun t) o e is = absurd (cc e)
stays_one tx c _ None e is = is
stays_one tx c _ (Some n) e is = is

current_own : (tx t : ℕ) (P : List Call → Type 0) (o : Option Current) → MatchOption o ⊥ (λ n. (n.tx ≡ t) × P n.calls) → IsCurrent tx o → t ≡ tx
current_own tx t P None h is = absurd h
current_own tx t P (Some n) h is = sym h.0 ∙ is

none_some : {A : Type 0} (x : A) → None ≡ Some x → ⊥
none_some x e = subst (λ o. elim o as (λ z. Type 0) [ None ↦ Unit {0} | Some y ↦ ⊥ ]) e tt

abbrev some_or : ℕ → Option ℕ → ℕ
some_or d None = d
some_or d (Some x) = x

-- what asks something of a transaction is permitted only to the one that was begun last
module _ (session : ℕ) (front : List Call) (node tx t : ℕ) (is : IsCurrent tx (current front)) where
  asked_own : (P : List Call → Type 0) (u : ℕ) → Own u front P → Some u ≡ Some t → t ≡ tx
  asked_own P u h e = sym (ap (some_or 0) e) ∙ current_own tx u P (current front) h is

  pub asks_current : (q : Request) → Permitted session front node q → tx_asked q ≡ Some t → t ≡ tx
  asks_current (request.Enlist u) h e = asked_own (MayEnlist node) u.0 h e
  asks_current (request.Lock u p m) h e = asked_own (IsOpen node) u.0 h e
  asks_current (request.Read u place) h e = asked_own (IsOpen node) u.0 h e
  asks_current (request.Scan u space) h e = asked_own (IsOpen node) u.0 h e
  asks_current (request.ScanGroup u space group) h e = asked_own (IsOpen node) u.0 h e
  asks_current (request.Write u c) h e = asked_own (IsOpen node) u.0 h e
  asks_current (request.Prepare u) h e = asked_own (IsOpen node) u.0 h e
  asks_current (request.Decide u votes) h e = asked_own (MayDecide votes) u.0 h e
  asks_current (request.Abort u) h e = asked_own (λ calls. ¬ (MayBeDecided calls)) u.0 h e
  asks_current _ h e = absurd (none_some t e)

-- calls that begin nothing ask nothing of any other
none_of_other : (session tx t : ℕ) (front cs : List Call) → tx ≢ t → IsCurrent tx (current front) → begins_of cs ≡ [] → ObeysFrom session front cs
    → Each (λ c. tx_asked c.request ≢ Some t) cs
none_of_other session tx t front [] other is none h = tt
none_of_other session tx t front (c ∷ cs) other is none h =
    let b = both_nil (begun_in c.answer) (begins_of cs) none in (
      λ e. other (sym (asks_current session front c.node.0 tx t is c.request h.0 e)),
      none_of_other session tx t (front ++ c ∷ []) cs other
          (subst (IsCurrent tx) (sym (current_behind None front (c ∷ []))) (stays_one tx c c.answer (current front) b.0 is)) b.1 h.1,
    )

begin_asks_none : (q : Request) → is_begin q ≡ true → tx_asked q ≡ None
begin_asks_none q = elim q as (λ x. is_begin x ≡ true → tx_asked x ≡ None) [ request.Begin o ↦ λ e. refl | x ↦ λ e. absurd (false≢true e) ]

pub not_asked : (t : ℕ) (q : Request) → tx_asked q ≡ None → tx_asked q ≢ Some t
not_asked t q none e = none_some t (sym none ∙ e)

-- calls that begin one transaction ask nothing of another
pub begun_apart : (session tx t : ℕ) (front calls : List Call) → tx ≢ t → BeginsIt tx calls → ObeysFrom session front calls → AreBegins calls
    → Each (λ c. tx_asked c.request ≢ Some t) calls
begun_apart session tx t front calls other b h sys =
    let Q : Call → Type 0 = λ c. tx_asked c.request ≢ Some t in
    let B : Call → Type 0 = λ c. IsTrue (is_begun c.answer) → IsTrue (is_begin c.request) in
    let obeys = obeys_behind session front b.before (b.begin ∷ b.more) (subst (ObeysFrom session front) b.parts h) in
    let known = Each-back B b.before (b.begin ∷ b.more) (subst AreBegins b.parts sys) in
    let begun = b.begun in
    let current_now : IsCurrent tx (current ((front ++ b.before) ++ b.begin ∷ [])) =
    subst (IsCurrent tx) (sym (current_behind None (front ++ b.before) (b.begin ∷ []))) (begun_current tx b.begin b.begin.answer (current (front ++ b.before)) begun) in
    subst (Each Q) (sym b.parts)
    (Each-append Q b.before (b.begin ∷ b.more)
    (Each-of _ Q b.before (λ c a. not_asked t c.request a.0) b.apart) (
      not_asked t b.begin.request (begin_asks_none b.begin.request (known.0 (begun_tells tx b.begin.answer begun))),
      none_of_other session tx t ((front ++ b.before) ++ b.begin ∷ []) b.more other current_now b.none_behind obeys.1,
    ))
