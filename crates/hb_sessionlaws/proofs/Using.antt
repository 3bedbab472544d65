-- Where the calls of a transaction stand while a statement is in progress: at the nodes that it has used.
use Rattle.std.proofs.Common.{◌≡◌, ℕ, ◌==◌, Bool, true, false, List, [], ◌∷◌, ◌++◌, refl, ap, sym, subst, ◌∙◌, arith}
use Rattle.std.proofs.lemmas.Bool.{and_from, and_parts, false≢true}
use Rattle.std.proofs.lemmas.Bool.Decides.{nat_tests}
use Rattle.std.specs.Prelude.{◌&&◌, not}
use Rattle.hb_types.specs.declared.answer.Answer.{Answer}
use Rattle.hb_types.specs.declared.answer.Answer.TheVariants as answer
use Rattle.hb_types.specs.declared.names.NodeName.{NodeName}
use Rattle.hb_types.specs.declared.names.Tx.{Tx}
use Rattle.hb_types.specs.declared.request.Request.{Request}
use Rattle.hb_types.specs.declared.request.Request.TheVariants as request
use Rattle.hb_types.specs.declared.trail.Call.{Call}
use Rattle.hb_model.specs.Answers.{call}
use Rattle.hb_model.specs.NodeSets.{has_node}
use Rattle.hb_talk.specs.Talk.{mgr}
use Rattle.hb_law.specs.Callers.{Permitted}
use Rattle.hb_access.specs.Accesses.{at_branch, use_of, used_after}
use Rattle.hb_access.specs.declared.access.Next.TheVariants as next
use Rattle.hb_access.specs.declared.usage.Usage.{Usage}
use Rattle.hb_wait.specs.Waiting.{after_lock, after_ready, after_request, after_wait, heard, lock_of, node_asked, request_asked}
use Rattle.hb_wait.specs.declared.pending.Heard.{Heard}
use Rattle.hb_wait.specs.declared.pending.Heard.TheVariants as heard_as
use Rattle.hb_wait.specs.declared.pending.Lock.{Lock}
use Rattle.hb_wait.specs.declared.pending.Pending.{Pending}
use Rattle.hb_wait.specs.declared.pending.Pending.TheVariants as pending
use Rattle.hb_session.specs.Runs.{call_of}
use Rattle.hb_session.specs.Steps.{IsSameUse}
use Rattle.hb_obeys.specs.Obeying.{IsOfSystem, is_begin}
use Rattle.hb_obeys.proofs.Branching.{branch_permitted, enlist_permitted}
use Rattle.hb_obeys.proofs.Obeying.{Caller, Permits}
use Rattle.hb_obeys.proofs.Planning.{within}
use Rattle.hb_obeys.proofs.Standing.{Moment, Reaches, behind, reaches_more}

-- a session whose transaction has begun
abbrev pub quiet : ℕ → Caller
quiet index = record { session = index; begins = false }

-- a transaction at these nodes, of so many that begun
abbrev at_nodes : ℕ → ℕ → ℕ → Moment
at_nodes begun tx used = within begun (record { tx = tx; used = used; locks = 0; bytes = 0 })

same_nodes : (begun : ℕ) {tx other used set : ℕ} → tx ≡ other → used ≡ set → at_nodes begun tx used ≡ at_nodes begun other set
same_nodes begun {tx} {other} {used} {set} e f = ap (λ t. at_nodes begun t used) e ∙ ap (λ n. at_nodes begun other n) f

-- the calls come to a transaction that has used these nodes, with nothing decided or undone
pub record HasUsed (front : List Call) (u : Usage) : Type 0 where
  pub begun : ℕ
  pub reaches : Reaches (within begun (use_of u)) front

pub same_used : (front : List Call) (u v : Usage) → IsSameUse u v → HasUsed front u → HasUsed front v
same_used front u v same h = record { begun = h.begun; reaches = subst (λ m. Reaches m front) (same_nodes h.begun (sym same.0) (sym same.1)) h.reaches }

-- ---- a request that a plan asks

same_number : (a b : ℕ) → (a == b) ≡ true → a ≡ b
same_number a b e = grind (arith, nat_tests)

number_same : (a b : ℕ) → a ≡ b → (a == b) ≡ true
number_same a b e = grind (arith, nat_tests)

not_there : (b : Bool) → not b ≡ true → b ≡ false
not_there true e = absurd (false≢true e)
not_there false e = refl

same_tx : (tx : Tx) (u : Usage) (b : Bool) → ((tx.0 == u.tx.0) && b) ≡ true → tx ≡ record { 0 = u.tx.0 }
same_tx tx u b e = ap (λ (n : ℕ). record { 0 = n }) (same_number tx.0 u.tx.0 (and_parts (tx.0 == u.tx.0) b e).0)

module _ (w : Caller) (begun : ℕ) (u : Usage) (node : NodeName) where
  -- the branch is there
  there : (tx : Tx) → ((tx.0 == u.tx.0) && has_node u.used.0 node.0) ≡ true → has_node u.used.0 node.0 ≡ true
  there tx e = (and_parts (tx.0 == u.tx.0) (has_node u.used.0 node.0) e).1

  pub branch_may : (q : Request) → at_branch u (next.Ask node q) ≡ true → Permits w (within begun (use_of u)) node.0 q
  unfolding at_branch
  branch_may (request.Enlist tx) e =
      subst (λ (t : Tx). Permits w (within begun (use_of u)) node.0 (request.Enlist t)) (sym (same_tx tx u (not (has_node u.used.0 node.0)) e))
      (enlist_permitted w begun (use_of u) node.0 (not_there (has_node u.used.0 node.0) (and_parts (tx.0 == u.tx.0) (not (has_node u.used.0 node.0)) e).1))
  branch_may (request.Lock tx p m) e = branch_permitted w begun (use_of u) node.0 (there tx e) (request.Lock tx p m) (same_tx tx u (has_node u.used.0 node.0) e)
  branch_may (request.Read tx place) e = branch_permitted w begun (use_of u) node.0 (there tx e) (request.Read tx place) (same_tx tx u (has_node u.used.0 node.0) e)
  branch_may (request.Scan tx space) e = branch_permitted w begun (use_of u) node.0 (there tx e) (request.Scan tx space) (same_tx tx u (has_node u.used.0 node.0) e)
  branch_may (request.ScanGroup tx space group) e =
      branch_permitted w begun (use_of u) node.0 (there tx e) (request.ScanGroup tx space group) (same_tx tx u (has_node u.used.0 node.0) e)
  branch_may (request.Write tx change) e = branch_permitted w begun (use_of u) node.0 (there tx e) (request.Write tx change) (same_tx tx u (has_node u.used.0 node.0) e)
  branch_may _ e = absurd (false≢true e)

-- where it leaves the transaction
branch_leaves : (begun : ℕ) (u : Usage) (node : NodeName) (q : Request) (a : Answer) → at_branch u (next.Ask node q) ≡ true
    → behind node.0 q a (within begun (use_of u)) ≡ at_nodes begun u.tx.0 (used_after u.used.0 (next.Ask node q))
unfolding at_branch used_after
branch_leaves begun u node (request.Enlist tx) a e = refl
branch_leaves begun u node (request.Lock tx p m) a e = refl
branch_leaves begun u node (request.Read tx place) a e = refl
branch_leaves begun u node (request.Scan tx space) a e = refl
branch_leaves begun u node (request.ScanGroup tx space group) a e = refl
branch_leaves begun u node (request.Write tx change) a e = refl
branch_leaves begun u node _ a e = absurd (false≢true e)

-- ---- a request that is pending

-- it is to be asked, with what the transaction has used before it and what it has used then
pub record IsToAsk (front : List Call) (v : Usage) (node : NodeName) (q : Request) : Type 0 where
  pub before : Usage
  pub stands : HasUsed front before
  pub branch : at_branch before (next.Ask node q) ≡ true
  pub tx : v.tx.0 ≡ before.tx.0
  pub used : v.used.0 ≡ used_after before.used.0 (next.Ask node q)

-- it is a Lock of a branch that is there, and was blocked
pub record IsBlocked (front : List Call) (v : Usage) (l : Lock) : Type 0 where
  pub stands : HasUsed front v
  pub tx : l.tx.0 ≡ v.tx.0
  pub there : has_node v.used.0 l.node.0 ≡ true

abbrev pub Pends : List Call → Usage → Pending → Type 0
Pends front v (pending.Asks node q) = IsToAsk front v node q
Pends front v (pending.Blocked l path wanted holders) = IsBlocked front v l
Pends front v (pending.Waits l) = IsBlocked front v l

-- what is so once this was heard
abbrev pub Hears : List Call → Usage → Heard → Type 0
Hears front v (heard_as.Answered a) = HasUsed front v
Hears front v (heard_as.Waits l edges) = IsBlocked front v l
Hears front v (heard_as.More p) = Pends front v p

-- ---- it may be asked

-- a request that is permitted, and begins no transaction
abbrev pub MayAsk : ℕ → List Call → ℕ → Request → Type 0
MayAsk session front node q = Permitted session front node q × (is_begin q ≡ false)

not_begin : (q : Request) → (is_begin q ≡ true → false ≡ true) → is_begin q ≡ false
not_begin (request.Begin o) h = absurd (false≢true (h refl))
not_begin _ h = refl

pub may_ask : (session : ℕ) (front : List Call) (node : ℕ) (q : Request) (m : Moment) → Reaches m front → Permits (quiet session) m node q → MayAsk session front node q
may_ask session front node q m st may = (may.1 front st, not_begin q may.0)

pub pending_may : (session : ℕ) (front : List Call) (v : Usage) (p : Pending) → Pends front v p → MayAsk session front (node_asked p) (request_asked p)
pending_may session front v (pending.Asks node q) h =
    may_ask session front node.0 q (within h.stands.begun (use_of h.before)) h.stands.reaches (branch_may (quiet session) h.stands.begun h.before node q h.branch)
pending_may session front v (pending.Blocked l path wanted holders) h = (tt, refl)
pending_may session front v (pending.Waits l) h = (tt, refl)

-- ---- what its answer leaves

module _ (front : List Call) (v : Usage) where
  asked : (node : NodeName) (q : Request) (a : Answer) → IsToAsk front v node q → IsOfSystem (call node.0 q a) → HasUsed (front ++ call node.0 q a ∷ []) v
  asked node q a h sys = record {
    begun = h.stands.begun;
    reaches = subst (λ m. Reaches m (front ++ call node.0 q a ∷ [])) (branch_leaves h.stands.begun h.before node q a h.branch ∙ same_nodes h.stands.begun (sym h.tx) (sym h.used))
        (reaches_more (within h.stands.begun (use_of h.before)) front node.0 q a sys h.stands.reaches);
  }

  blocked : (l : Lock) (a : Answer) → IsToAsk front v l.node (lock_of l) → IsOfSystem (call l.node.0 (lock_of l) a) → IsBlocked (front ++ call l.node.0 (lock_of l) a ∷ []) v l
  unfolding at_branch used_after
  blocked l a h sys =
      let e = and_parts (l.tx.0 == h.before.tx.0) (has_node h.before.used.0 l.node.0) h.branch in record {
        stands = asked l.node (lock_of l) a h sys;
        tx = same_number l.tx.0 h.before.tx.0 e.0 ∙ sym h.tx;
        there = subst (λ n. has_node n l.node.0 ≡ true) (sym h.used) e.1;
      }

  lock_heard : (l : Lock) (a : Answer) → IsToAsk front v l.node (lock_of l) → IsOfSystem (call l.node.0 (lock_of l) a) → Hears (front ++ call l.node.0 (lock_of l) a ∷ []) v (after_lock l a)
  lock_heard l a h = elim a as (λ x. IsOfSystem (call l.node.0 (lock_of l) x) → Hears (front ++ call l.node.0 (lock_of l) x ∷ []) v (after_lock l x)) [
    | answer.Blocked path wanted holders ↦ blocked l (answer.Blocked path wanted holders) h
    | x ↦ asked l.node (lock_of l) x h
  ]

  request_heard : (node : NodeName) (q : Request) (a : Answer) → IsToAsk front v node q → IsOfSystem (call node.0 q a) → Hears (front ++ call node.0 q a ∷ []) v (after_request node q a)
  request_heard node (request.Lock tx path mode) a h sys = lock_heard (record { tx = tx; node = node; path = path; mode = mode }) a h sys
  request_heard node q a h sys = asked node q a h sys

  -- the Lock is asked again
  again : (l : Lock) → IsBlocked front v l → IsToAsk front v l.node (lock_of l)
  unfolding at_branch used_after
  again l h = record {
    before = v;
    stands = h.stands;
    branch = and_from (l.tx.0 == v.tx.0) (has_node v.used.0 l.node.0) (number_same l.tx.0 v.tx.0 h.tx) h.there;
    tx = refl;
    used = refl;
  }

  wait_heard : (l : Lock) (a : Answer) → IsBlocked front v l → Hears front v (after_wait l a)
  wait_heard l a h = elim a as (λ x. Hears front v (after_wait l x)) [ answer.Waiting edges ↦ h | answer.Gone ↦ again l h | x ↦ h.stands ]

  ready_heard : (l : Lock) (a : Answer) → IsBlocked front v l → Hears front v (after_ready l a)
  ready_heard l a h = elim a as (λ x. Hears front v (after_ready l x)) [ answer.NotYet target ↦ h | answer.Ready ↦ again l h | x ↦ h.stands ]

-- a call to the manager, which leaves all as it is
pub pending_heard : (front : List Call) (v : Usage) (p : Pending) (a : Answer) → Pends front v p → IsOfSystem (call_of p a) → Hears (front ++ call_of p a ∷ []) v (heard p a)
pending_heard front v (pending.Asks node q) a h sys = request_heard front v node q a h sys
pending_heard front v (pending.Blocked l path wanted holders) a h sys =
    let q : Request = request.Wait l.tx l.node path wanted holders in
    wait_heard (front ++ call mgr q a ∷ []) v l a (record {
      stands = record { begun = h.stands.begun; reaches = reaches_more (within h.stands.begun (use_of v)) front mgr q a sys h.stands.reaches };
      tx = h.tx;
      there = h.there;
    })
pending_heard front v (pending.Waits l) a h sys =
    let q : Request = request.Ready l.tx in
    ready_heard (front ++ call mgr q a ∷ []) v l a (record {
      stands = record { begun = h.stands.begun; reaches = reaches_more (within h.stands.begun (use_of v)) front mgr q a sys h.stands.reaches };
      tx = h.tx;
      there = h.there;
    })
