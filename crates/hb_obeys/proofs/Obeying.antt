-- A talk whose requests are all permitted, whatever is answered, and the calls that follow it.
use Rattle.std.proofs.Common.{◌≡◌, ℕ, Bool, true, false, List, [], ◌∷◌, ◌++◌, Option, Some, None, option_map, refl, ap, subst}
use Rattle.hb_types.specs.declared.answer.Answer.{Answer}
use Rattle.hb_types.specs.declared.answer.Answer.TheVariants as answer
use Rattle.hb_types.specs.declared.lock.Holder.{Holder}
use Rattle.hb_types.specs.declared.lock.Mode.{Mode}
use Rattle.hb_types.specs.declared.names.NodeName.{NodeName}
use Rattle.hb_types.specs.declared.names.Tx.{Tx}
use Rattle.hb_types.specs.declared.places.Path.{Path}
use Rattle.hb_types.specs.declared.request.Request.{Request}
use Rattle.hb_types.specs.declared.request.Request.TheVariants as request
use Rattle.hb_types.specs.declared.trail.Call.{Call}
use Rattle.hb_types.specs.Lists.{Each}
use Rattle.hb_model.specs.Answers.{call}
use Rattle.hb_talk.specs.Talk.{Talk, says, asks, going_on, Follows, ends, asked, waits, gone, dies, not_yet, ready, mgr}
use Rattle.hb_law.specs.Callers.{ObeysFrom, Permitted}
use Rattle.hb_obeys.specs.Obeying.{IsOfSystem, is_begin}
use Rattle.hb_obeys.proofs.Standing.{Moment, Reaches, Standing, behind, reaches_more, with_call}

-- each call is permitted by those before it, where these are of a system
abbrev pub ObeysWhile : ℕ → List Call → List Call → Type 0
ObeysWhile session front [] = Unit {0}
ObeysWhile session front (c ∷ cs) = Permitted session front c.node.0 c.request × (IsOfSystem c → ObeysWhile session (front ++ c ∷ []) cs)

pub obeys-front : (session : ℕ) (front cs more : List Call) → ObeysWhile session front (cs ++ more) → ObeysWhile session front cs
obeys-front session front [] more o = tt
obeys-front session front (c ∷ cs) more o = (o.0, λ h. obeys-front session (front ++ c ∷ []) cs more (o.1 h))

pub obeys_from : (session : ℕ) (front cs : List Call) → ObeysWhile session front cs → Each IsOfSystem cs → ObeysFrom session front cs
obeys_from session front [] o e = tt
obeys_from session front (c ∷ cs) o e = (o.0, obeys_from session (front ++ c ∷ []) cs (o.1 e.0) e.1)

-- a session, and whether its talk begins transactions
pub record Caller : Type 0 where
  pub session : ℕ
  pub begins : Bool

-- a request that the caller's talk may have: a Begin only where it begins transactions
abbrev pub IsItsOwn : Caller → Request → Type 0
IsItsOwn w q = is_begin q ≡ true → w.begins ≡ true

module _ (w : Caller) where
  -- this request is permitted whatever calls come to this moment
  abbrev pub Permits : Moment → ℕ → Request → Type 0
  Permits m node q = IsItsOwn w q × ((front : List Call) → Reaches m front → Permitted w.session front node q)

  -- each request is permitted, whatever is answered, and in the end this holds
  abbrev pub Always : {R : Type 0} → Talk R → Moment → (Moment → R → Type 0) → Type 0
  Always (says r) m Q = Q m r
  Always (asks node q k) m Q = Permits m node q × ((a : Answer) → Always (k a) (behind node q a m) Q)

  pub always_bind : {A B : Type 0} → (t : Talk A) (f : A → Talk B) (m : Moment) (Q : Moment → B → Type 0) → Always t m (λ z a. Always (f a) z Q) → Always (going_on f t) m Q
  always_bind (says a) f m Q h = h
  always_bind (asks node q k) f m Q h = (h.0, λ a. always_bind (k a) f (behind node q a m) Q (h.1 a))

  pub always_weaker : {R : Type 0} → (t : Talk R) (m : Moment) (P Q : Moment → R → Type 0) → ((z : Moment) (r : R) → P z r → Q z r) → Always t m P → Always t m Q
  always_weaker (says a) m P Q i h = i m a h
  always_weaker (asks node q k) m P Q i h = (h.0, λ a. always_weaker (k a) (behind node q a m) P Q i (h.1 a))

  -- a call for a wait, which leaves the moment as it is
  for_wait : (front : List Call) (c : Call) (cs : List Call) (m : Moment) → Permitted w.session front c.node.0 c.request
      → behind c.node.0 c.request c.answer m ≡ m → Reaches m front → (Reaches m (front ++ c ∷ []) → ObeysWhile w.session (front ++ c ∷ []) cs) → ObeysWhile w.session front (c ∷ cs)
  for_wait front c cs m may same st rest =
      (may, λ sys. rest (subst (λ z. Reaches z (front ++ c ∷ [])) same (reaches_more m front c.node.0 c.request c.answer sys st)))

  kept : (f : Standing → Standing) → ((s : Standing) → f s ≡ s) → (o : Option Standing) → option_map f o ≡ o
  kept f e None = refl
  kept f e (Some s) = ap (λ z. Some z) (e s)

  -- what leaves each moment as it is
  pub lock_leaves : (node : ℕ) (tx : Tx) (p : Path) (mode : Mode) (a : Answer) (m : Moment) → behind node (request.Lock tx p mode) a m ≡ m
  lock_leaves node tx p mode a m = λ i. record { begun = m.begun; open_as = kept (with_call node (request.Lock tx p mode) a) (λ s. refl) m.open_as i }

  pub wait_leaves : (tx : Tx) (node : NodeName) (p : Path) (mode : Mode) (holders : List Holder) (a : Answer) (m : Moment) → behind mgr (request.Wait tx node p mode holders) a m ≡ m
  wait_leaves tx node p mode holders a m = λ i. record { begun = m.begun; open_as = kept (with_call mgr (request.Wait tx node p mode holders) a) (λ s. refl) m.open_as i }

  pub ready_leaves : (tx : Tx) (a : Answer) (m : Moment) → behind mgr (request.Ready tx) a m ≡ m
  ready_leaves tx a m = λ i. record { begun = m.begun; open_as = kept (with_call mgr (request.Ready tx) a) (λ s. refl) m.open_as i }

  pub followed : {R : Type 0} → (b : Bool) (t : Talk R) (cs : List Call) (r : R) → Follows b t cs r → (m : Moment) (front : List Call) (Q : Moment → R → Type 0)
      → Always t m Q → Reaches m front → ObeysWhile w.session front cs
  followed _ _ _ _ ends m front Q h st = tt
  followed _ _ _ _ (asked {node} {q} {k} {cs} {r} a n f) m front Q h st =
      (h.0.1 front st, λ sys. followed false (k a) cs r f (behind node q a m) (front ++ call node q a ∷ []) Q (h.1 a) (reaches_more m front node q a sys st))
  followed _ _ _ _ (waits {node} {k} {cs} {r} tx p path mode wanted holders edges f) m front Q h st =
      let c = call node (request.Lock tx p mode) (answer.Blocked path wanted holders) in
      let d = call mgr (request.Wait tx (record { 0 = node }) path wanted holders) (answer.Waiting edges) in
      for_wait front c (d ∷ cs) m (h.0.1 front st) (lock_leaves node tx p mode c.answer m) st (λ st. for_wait (front ++ c ∷ []) d cs m tt (wait_leaves tx (record { 0 = node }) path wanted holders d.answer m) st
      (λ st. followed true (asks node (request.Lock tx p mode) k) cs r f m ((front ++ c ∷ []) ++ d ∷ []) Q h st))
  followed _ _ _ _ (gone {node} {k} {cs} {r} tx p path mode wanted holders f) m front Q h st =
      let c = call node (request.Lock tx p mode) (answer.Blocked path wanted holders) in
      let d = call mgr (request.Wait tx (record { 0 = node }) path wanted holders) answer.Gone in
      for_wait front c (d ∷ cs) m (h.0.1 front st) (lock_leaves node tx p mode c.answer m) st (λ st. for_wait (front ++ c ∷ []) d cs m tt (wait_leaves tx (record { 0 = node }) path wanted holders d.answer m) st
      (λ st. followed false (asks node (request.Lock tx p mode) k) cs r f m ((front ++ c ∷ []) ++ d ∷ []) Q h st))
  followed _ _ _ _ (dies {node} {k} {cs} {r} tx p path mode wanted holders a e f) m front Q h st =
      let c = call node (request.Lock tx p mode) (answer.Blocked path wanted holders) in
      let d = call mgr (request.Wait tx (record { 0 = node }) path wanted holders) a in
      for_wait front c (d ∷ cs) m (h.0.1 front st) (lock_leaves node tx p mode c.answer m) st (λ st. for_wait (front ++ c ∷ []) d cs m tt (wait_leaves tx (record { 0 = node }) path wanted holders d.answer m) st
      (λ st. followed false (k a) cs r f m ((front ++ c ∷ []) ++ d ∷ []) Q (subst (λ z. Always (k a) z Q) (lock_leaves node tx p mode a m) (h.1 a)) st))
  followed _ _ _ _ (not_yet {t} {cs} {r} tx target f) m front Q h st =
      let c = call mgr (request.Ready tx) (answer.NotYet target) in
      for_wait front c cs m tt (ready_leaves tx c.answer m) st (λ st. followed true t cs r f m (front ++ c ∷ []) Q h st)
  followed _ _ _ _ (ready {t} {cs} {r} tx f) m front Q h st =
      let c = call mgr (request.Ready tx) answer.Ready in
      for_wait front c cs m tt (ready_leaves tx c.answer m) st (λ st. followed false t cs r f m (front ++ c ∷ []) Q h st)
