-- What is settled is settled as fes1 told; and what fes1 gave is new.
use Rattle.std.proofs.Common.{◌≡◌, ◌⊎◌, ◌∙◌, ℕ, zero, suc, ◌+◌, ◌<◌, Bool, true, false, List, [], ◌∷◌, ◌++◌, Option, Some, None, MatchOption, ap, append_assoc, append-nil, arith, inl, inr, length, refl, subst, sym}
use Rattle.std.specs.Prelude.{slice_get, IsTrue, ◌==◌}
use Rattle.std.specs.Ordering.{nat_cmp}
use Rattle.std.specs.Cmp.{nat_cmp_is}
use Rattle.std.specs.declared.cmp.Ordering.TheVariants.{Less}
use Rattle.std.proofs.lemmas.Bool.{eqb-true, false≢true}
use Rattle.std.proofs.lemmas.Cmp.{nat_cmp_total}
use Rattle.hb_types.specs.declared.answer.Answer.{Answer}
use Rattle.hb_types.specs.declared.answer.Answer.TheVariants as answer
use Rattle.hb_types.specs.declared.change.LogItem.{LogItem}
use Rattle.hb_types.specs.declared.names.NodeName.{NodeName}
use Rattle.hb_types.specs.declared.names.Owner.{Owner}
use Rattle.hb_types.specs.declared.names.Tx.{Tx}
use Rattle.hb_types.specs.declared.request.Request.{Request}
use Rattle.hb_types.specs.declared.request.Request.TheVariants as request
use Rattle.hb_types.specs.declared.request.Vote.{Vote}
use Rattle.hb_types.specs.declared.trail.Call.{Call}
use Rattle.hb_types.specs.Lists.{Ascends, Each, Has, IsIn}
use Rattle.hb_types.proofs.Ascending.{Ascends-first, Ascends-tail, Each-of, Has-back, Has-front, asymmetric, in_Each, irreflexive}
use Rattle.hb_types.proofs.PutLaws.{by_test}
use Rattle.hb_loglaws.proofs.Members.{Has-in, found, in_map}
use Rattle.hb_disks.specs.Images.{Logs}
use Rattle.hb_disks.specs.StandsFor.{greatest_upto}
use Rattle.hb_model.specs.Answers.{HasAsked, is_decide, is_undoing}
use Rattle.hb_runs.specs.Coordinator as coordinator
use Rattle.hb_runs.specs.Server as server_state
use Rattle.hb_runs.specs.ServerAnswers as server_answers
use Rattle.hb_runs.specs.ServerRuns.{Asked, Run}
use Rattle.hb_law.specs.Callers.{Asks, Current, MayBeDecided, MayCommit, MayDecide, MayUndo, Own, Permitted, SettlesAs, WasDecided, adding, current, current_from, is_settled, one_more, outcome_or}
use Rattle.hb_law.specs.Histories.{IsNode, Labelled, Trails, asked, asked_by, asked_of, stands}
use Rattle.hb_law.specs.Transactions.{begins_of, begun_in, tx_asked}
use Rattle.hb_coordlaws.specs.Ascending.{TransactionsAscend, given}
use Rattle.hb_parts.specs.Callings.{Callings, IsOfSystem, tells_nothing}
use Rattle.hb_parts.specs.Courses.{Within}
use Rattle.hb_parts.specs.Owning.{IsSettled, IsToldDecided, is_aborted_outcome}
use Rattle.hb_whose.proofs.Begins.{apart_in}
use Rattle.hb_whose.proofs.Currents.{begins_append, begun_or_not, current_begun, current_in}
use Rattle.hb_whose.proofs.Owners.{begins_ascend, begun_given, of_caller, permitted, same_caller, within_front}
use Rattle.hb_whose.proofs.Parts.{is_there, none_some, some_is, stands_at}
use Rattle.hb_whose.proofs.Trailing.{AskedBy, asked_in_list, each_got, got, list_in_trail, own_of, same_got}

-- ---- new

pub less_is : (a b : ℕ) → nat_cmp a b ≡ Less → a < b
less_is a b e = by (kinds a b)
  where
    kinds : (a b : ℕ) → (a < b) ⊎ (a ≡ b) ⊎ (b < a)
    kinds a b = grind arith

    by : (a < b) ⊎ (a ≡ b) ⊎ (b < a) → a < b
    by (inl lt) = lt
    by (inr (inl q)) = absurd (irreflexive nat_cmp nat_cmp_total b (subst (λ z. nat_cmp z b ≡ Less) q e))
    by (inr (inr gt)) = absurd (asymmetric nat_cmp nat_cmp_total a b e (sym (nat_cmp_is b a Less gt)))

nobody : Owner
nobody = record { session = 0; nth = 0 }

module _ (ascend : TransactionsAscend) (base : List LogItem) (trail : List Asked) (t : coordinator.CState)
    (run : coordinator.CRun (coordinator.stopped_at base) trail t) where
  g : ℕ
  g = greatest_upto base

  -- a coordinator that was to give the greatest number of the base, gave it and stopped
  k0 : coordinator.CState
  k0 = record { log = base; next = greatest_upto base; active = []; up = true }

  a0 : Asked
  a0 = record { request = request.Begin nobody; answer = answer.Begun (record { 0 = greatest_upto base }) }

  a1 : Asked
  a1 = record { request = request.Stop; answer = answer.Done }

  pub longer : coordinator.CRun (record { log = base; next = greatest_upto base; active = []; up = true })
      (record {
        request = request.Begin (record { session = 0; nth = 0 });
        answer = answer.Begun
            (record { 0 = greatest_upto base });
      } ∷ record { request = request.Stop; answer = answer.Done } ∷ trail) t
  longer = (
    coordinator.happens (record { log = base; next = greatest_upto base; active = []; up = true }) (coordinator.begun (greatest_upto base)),
    record {
      effects = coordinator.begun
          (greatest_upto base) ∷ [];
      causes = ([], inl (omega arith, refl), refl);
      right = refl;
      steps = ((refl, omega arith), refl);
    },
    (coordinator.stopped_at base, record { effects = coordinator.lost ∷ []; causes = refl; right = tt; steps = (tt, refl) }, run),
  )

  pub given_new : Each (λ x. greatest_upto base < x) (given trail)
  given_new =
      Each-of (λ x. nat_cmp (greatest_upto base) x ≡ Less) (λ x. greatest_upto base < x) (given trail) (λ x e. less_is (greatest_upto base) x e)
      (Ascends-first nat_cmp nat_cmp_total (greatest_upto base) (given trail)
      (ascend (record { log = base; next = greatest_upto base; active = []; up = true }) t
      (record {
        request = request.Begin (record { session = 0; nth = 0 });
        answer = answer.Begun
            (record { 0 = greatest_upto base });
      } ∷ record { request = request.Stop; answer = answer.Done } ∷ trail) (omega arith) longer))

-- ---- who answers what

pub in_run : (s : server_state.SState) (trail : List Asked) (t : server_state.SState) (a : Asked) → Run s trail t → IsIn a trail
    → (u : server_state.SState) × server_answers.Right u a.request a.answer
in_run s [] t a r h = absurd h
in_run s (b ∷ more) t a r (inl e) = (s, subst (λ z. server_answers.Right s z.request z.answer) e r.1.right)
in_run s (b ∷ more) t a r (inr h) = in_run r.0 more t a r.2 h

-- a server answers no Decide and no Outcome
refuses_outcome : (up : Bool) (s : server_state.SState) (tx : Tx) (a : Answer)
    → IsTrue (tells_nothing a) ⊎ (server_answers.RightIn up s (request.Outcome tx) a → ⊥)
refuses_outcome true s tx answer.NotMine = inl refl
refuses_outcome true s tx answer.NoMemory = inl refl
refuses_outcome true s tx a = inr (λ h. h)
refuses_outcome false s tx answer.Down = inl refl
refuses_outcome false s tx a = inr (λ h. h)

refuses_decide : (up : Bool) (s : server_state.SState) (tx : Tx) (votes : List Vote) (a : Answer)
    → IsTrue (tells_nothing a) ⊎ (server_answers.RightIn up s (request.Decide tx votes) a → ⊥)
refuses_decide true s tx votes answer.NotMine = inl refl
refuses_decide true s tx votes answer.NoMemory = inl refl
refuses_decide true s tx votes a = inr (λ h. h)
refuses_decide false s tx votes answer.Down = inl refl
refuses_decide false s tx votes a = inr (λ h. h)

-- of fes1 alone
abbrev pub IsForFes : Request → Type 0
IsForFes (request.Outcome tx) = Unit {0}
IsForFes (request.Decide tx votes) = Unit {0}
IsForFes _ = ⊥

refuses : (s : server_state.SState) (q : Request) (a : Answer) → IsForFes q → server_answers.Right s q a → IsTrue (tells_nothing a)
refuses s (request.Outcome tx) a i r = elim (refuses_outcome s.up s tx a) [ inl h ↦ h | inr n ↦ absurd (n r) ]
refuses s (request.Decide tx votes) a i r = elim (refuses_decide s.up s tx votes a) [ inl h ↦ h | inr n ↦ absurd (n r) ]
refuses s q a i r = absurd i

stands_told : (q : Request) (a : Answer) → IsForFes q → (IsTrue (tells_nothing a) → ⊥) → stands (record { request = q; answer = a }) ≡ true
stands_told (request.Outcome tx) answer.NoMemory i n = absurd (n refl)
stands_told (request.Outcome tx) a i n = refl
stands_told (request.Decide tx votes) answer.NoMemory i n = absurd (n refl)
stands_told (request.Decide tx votes) a i n = refl
stands_told q a i n = absurd i

-- ---- where a call stands among the current ones

pub record Since (front : List Call) (t : ℕ) (calls : List Call) : Type 0 where
  pub done : List Call
  pub begin : Call
  pub parts : front ≡ done ++ begin ∷ calls
  pub begun : begins_of (begin ∷ []) ≡ t ∷ []
  pub alone : begins_of calls ≡ []

since_or : (o : Option Current) (xs : List Call) (n : Current) → current_from o xs ≡ Some n
    → Since xs n.tx n.calls ⊎ ((m : Current) × (o ≡ Some m) × (m.tx ≡ n.tx) × (n.calls ≡ m.calls ++ xs) × (begins_of xs ≡ []))
since_or o [] n e = inr (n, e, refl, sym (append-nil n.calls), refl)
since_or o (x ∷ xs) n e = by (begun_or_not x.answer) (since_or (one_more x x.answer o) xs n e)
  where
    Behind : Type 0
    Behind = Since (x ∷ xs) n.tx n.calls ⊎ ((m : Current) × (o ≡ Some m) × (m.tx ≡ n.tx) × (n.calls ≡ m.calls ++ x ∷ xs) × (begins_of (x ∷ xs) ≡ []))

    added : (o : Option Current) (m : Current) → adding x o ≡ Some m → (p : Current) × (o ≡ Some p) × (p.tx ≡ m.tx) × (m.calls ≡ p.calls ++ x ∷ [])
    added None m e = absurd (none_some m e)
    added (Some p) m e = let q = some_is (record { tx = p.tx; calls = p.calls ++ x ∷ [] }) m e in (p, refl, ap (λ c. c.tx) q, ap (λ c. c.calls) (sym q))

    by : ((tx : Tx) × (x.answer ≡ answer.Begun tx)) ⊎ ((begun_in x.answer ≡ []) × ((c : Call) (o : Option Current) → one_more c x.answer o ≡ adding c o))
        → Since xs n.tx n.calls ⊎ ((m : Current) × (one_more x x.answer o ≡ Some m) × (m.tx ≡ n.tx) × (n.calls ≡ m.calls ++ xs) × (begins_of xs ≡ []))
        → Since (x ∷ xs) n.tx n.calls ⊎ ((m : Current) × (o ≡ Some m) × (m.tx ≡ n.tx) × (n.calls ≡ m.calls ++ x ∷ xs) × (begins_of (x ∷ xs) ≡ []))
    by k (inl s) = inl (record { done = x ∷ s.done; begin = s.begin; parts = ap (λ l. x ∷ l) s.parts; begun = s.begun; alone = s.alone })
    by (inl k) (inr w) =
        let is : record { tx = k.0.0; calls = [] } ≡ w.0 = some_is (record { tx = k.0.0; calls = [] }) w.0 (sym (ap (λ a. one_more x a o) k.1) ∙ w.1) in
        let same : n.calls ≡ xs = w.3 ∙ ap (λ c. c.calls ++ xs) (sym is) in
        inl (record {
          done = [];
          begin = x;
          parts = ap (λ l. x ∷ l) (sym same);
          begun = ap (λ a. begun_in a ++ []) k.1
              ∙ ap (λ z. z ∷ []) (ap (λ c. c.tx) is ∙ w.2);
          alone = ap begins_of same ∙ w.4;
        })
    by (inr k) (inr w) =
        let p = added o w.0 (sym (k.1 x o) ∙ w.1) in
        inr (p.0, p.1, p.2 ∙ w.2, w.3 ∙ ap (λ l. l ++ xs) p.3 ∙ append_assoc p.0.calls (x ∷ []) xs, ap (λ l. l ++ begins_of xs) k.0 ∙ w.4)

pub since : (xs : List Call) (n : Current) → current xs ≡ Some n → Since xs n.tx n.calls
since xs n e = by (since_or None xs n e)
  where
    by : Since xs n.tx n.calls ⊎ ((m : Current) × (None ≡ Some m) × (m.tx ≡ n.tx) × (n.calls ≡ m.calls ++ xs) × (begins_of xs ≡ [])) → Since xs n.tx n.calls
    by (inl s) = s
    by (inr w) = absurd (none_some w.0 w.1)

pub heads : (x y : Call) (xs ys : List Call) → x ∷ xs ≡ y ∷ ys → (x ≡ y) × (xs ≡ ys)
heads x y xs ys e = (cc, cc)

pub has_begin : (t : ℕ) (us : List Call) (c : Call) (vs : List Call) → begins_of (c ∷ []) ≡ t ∷ [] → IsIn t (begins_of (us ++ c ∷ vs))
has_begin t us c vs q =
    subst (IsIn t) (sym (begins_append us (c ∷ vs)))
    (Has-back (λ y. y ≡ t) (begins_of us) (begins_of (c ∷ vs)) (subst (IsIn t) (sym (begins_append (c ∷ []) vs ∙ ap (λ l. l ++ begins_of vs) q)) (inl refl)))

behind_ascends : (ls xs : List ℕ) → Ascends nat_cmp (ls ++ xs) → Ascends nat_cmp xs
behind_ascends [] xs a = a
behind_ascends (y ∷ ys) xs a = behind_ascends ys xs (Ascends-tail nat_cmp nat_cmp_total y (ys ++ xs) a)

twice : (t : ℕ) (b : Call) (ys us : List Call) (c : Call) (vs : List Call) → begins_of (b ∷ []) ≡ t ∷ [] → begins_of (c ∷ []) ≡ t ∷ []
    → Ascends nat_cmp (begins_of (b ∷ ys)) → ys ≡ us ++ c ∷ vs → ⊥
twice t b ys us c vs p q a e =
    apart_in (t ∷ []) (begins_of ys) t (subst (Ascends nat_cmp) (begins_append (b ∷ []) ys ∙ ap (λ l. l ++ begins_of ys) p) a) (inl refl)
    (subst (λ l. IsIn t (begins_of l)) (sym e) (has_begin t us c vs q))

-- one begin of a transaction in a list whose begins ascend
pub one_begin : (t : ℕ) (xs : List Call) (b : Call) (ys : List Call) (us : List Call) (c : Call) (vs : List Call) → begins_of (b ∷ []) ≡ t ∷ []
    → begins_of (c ∷ []) ≡ t ∷ []
    → Ascends nat_cmp (begins_of (xs ++ b ∷ ys)) → xs ++ b ∷ ys ≡ us ++ c ∷ vs → ys ≡ vs
one_begin t [] b ys [] c vs p q a e = (heads b c ys vs e).1
one_begin t [] b ys (u ∷ us) c vs p q a e = absurd (twice t b ys us c vs p q a (heads b u ys (us ++ c ∷ vs) e).1)
one_begin t (x ∷ xs) b ys [] c vs p q a e =
    let k = heads x c (xs ++ b ∷ ys) vs e in
    absurd (twice t c vs xs b ys q p (subst (λ l. Ascends nat_cmp (begins_of l)) e a) (sym k.1))
one_begin t (x ∷ xs) b ys (u ∷ us) c vs p q a e =
    one_begin t xs b ys us c vs p q (behind_ascends (begun_in x.answer) (begins_of (xs ++ b ∷ ys)) a) (heads x u (xs ++ b ∷ ys) (us ++ c ∷ vs) e).1

-- two places of a list
pub data Placed (xs : List Call) (x : Call) (ys : List Call) (d : Call) : Type 0 where
  same : x ≡ d → Placed xs x ys d
  before : (m : List Call) → ys ≡ xs ++ x ∷ m → Placed xs x ys d
  behind : (m : List Call) → xs ≡ ys ++ d ∷ m → Placed xs x ys d

pub placed : (xs : List Call) (x : Call) (bs ys : List Call) (d : Call) (es : List Call) → xs ++ x ∷ bs ≡ ys ++ d ∷ es → Placed xs x ys d
placed [] x bs [] d es e = same (heads x d bs es e).0
placed [] x bs (y ∷ ys) d es e = before ys (ap (λ z. z ∷ ys) (sym (heads x y bs (ys ++ d ∷ es) e).0))
placed (z ∷ xs) x bs [] d es e = behind xs (ap (λ y. y ∷ xs) (heads z d (xs ++ x ∷ bs) es e).0)
placed (z ∷ xs) x bs (y ∷ ys) d es e = more (heads z y (xs ++ x ∷ bs) (ys ++ d ∷ es) e) (placed xs x bs ys d es (heads z y (xs ++ x ∷ bs) (ys ++ d ∷ es) e).1)
  where
    more : (z ≡ y) × (xs ++ x ∷ bs ≡ ys ++ d ∷ es) → Placed xs x ys d → Placed (z ∷ xs) x (y ∷ ys) d
    more h (same q) = same q
    more h (before m q) = before m (ap (λ l. l ∷ ys) (sym h.0) ∙ ap (λ l. z ∷ l) q)
    more h (behind m q) = behind m (ap (λ l. l ∷ xs) h.0 ∙ ap (λ l. y ∷ l) q)

-- ---- what an Outcome told

abbrev ToldIn : ℕ → Answer → List Call → Type 0
ToldIn tx a calls = (c : Call) × IsIn c calls × (c.request ≡ request.Outcome (record { 0 = tx })) × (c.answer ≡ a)

outcome_step : (tx : ℕ) (a : Answer) (o : Option Answer) (node : NodeName) (q : Request) (b : Answer) (cs : List Call)
    → ((p : Option Answer) → outcome_or p tx cs ≡ Some a → (p ≡ Some a) ⊎ ToldIn tx a cs)
    → outcome_or o tx (record { node = node; request = q; answer = b } ∷ cs) ≡ Some a
    → (o ≡ Some a) ⊎ ((q ≡ request.Outcome (record { 0 = tx })) × (b ≡ a)) ⊎ ToldIn tx a cs
outcome_step tx a o node (request.Outcome t) b cs rest e =
    by_test (t.0 == tx)
    (λ u. elim (rest (Some b) (rw u at e)) [
      | inl q ↦ inr (inl (ap (λ n. request.Outcome (record { 0 = n })) (eqb-true t.0 tx u), some_is b a q))
      | inr d ↦ inr (inr d)
    ])
    (λ f. elim (rest o (rw f at e)) [ inl q ↦ inl q | inr d ↦ inr (inr d) ])
outcome_step tx a o node q b cs rest e = elim (rest o e) [ inl q ↦ inl q | inr d ↦ inr (inr d) ]

outcome_told : (tx : ℕ) (a : Answer) (o : Option Answer) (calls : List Call) → outcome_or o tx calls ≡ Some a → (o ≡ Some a) ⊎ ToldIn tx a calls
outcome_told tx a o [] e = inl e
outcome_told tx a o (c ∷ cs) e = by (outcome_step tx a o c.node c.request c.answer cs (λ p h. outcome_told tx a p cs h) e)
  where
    by : (o ≡ Some a) ⊎ ((c.request ≡ request.Outcome (record { 0 = tx })) × (c.answer ≡ a)) ⊎ ToldIn tx a cs → (o ≡ Some a) ⊎ ToldIn tx a (c ∷ cs)
    by (inl q) = inl q
    by (inr (inl k)) = inr (c, inl refl, k.0, k.1)
    by (inr (inr d)) = inr (d.0, inr d.1, d.2, d.3)

settles_told : (tx : ℕ) (a : Answer) (calls : List Call) → SettlesAs a tx calls → ToldIn tx a calls
settles_told tx a calls e = elim (outcome_told tx a None calls e) [ inl q ↦ absurd (none_some a q) | inr d ↦ d ]

-- ---- what a Decide was answered

abbrev pub DecidedIn : ℕ → List Call → Type 0
DecidedIn n calls = (c : Call) × IsIn c calls × IsTrue (is_decide c.request) × (c.answer ≡ answer.Decided (record { 0 = n }))

decided_one : (n : ℕ) (node : NodeName) (q : Request) (a : Answer) → WasDecided n (record { node = node; request = q; answer = a } ∷ [])
    → IsTrue (is_decide q) × (a ≡ answer.Decided (record { 0 = n }))
decided_one n node q (answer.Decided m) (inl h) = (h.0, ap (λ z. answer.Decided (record { 0 = z })) h.1)
decided_one n node q (answer.Decided m) (inr h) = absurd h
decided_one n node q a (inl h) = absurd h.1
decided_one n node q a (inr h) = absurd h

pub was_decided : (n : ℕ) (calls : List Call) → WasDecided n calls → DecidedIn n calls
was_decided n [] h = absurd h
was_decided n (c ∷ cs) (inl h) = let k = decided_one n c.node c.request c.answer (inl h) in (c, inl refl, k.0, k.1)
was_decided n (c ∷ cs) (inr h) = let k = was_decided n cs h in (k.0, inr k.1, k.2, k.3)

pub decides : (q : Request) → IsTrue (is_decide q) → (tx : Tx) × (votes : List Vote) × (q ≡ request.Decide tx votes)
decides (request.Decide tx votes) h = (tx, votes, refl)
decides q h = absurd (false≢true h)

-- ---- at fes1

module _ (ta : TransactionsAscend) (base logs : Logs) (trails : Trails) (lists : List (List Call)) (k : Callings base logs trails lists) (fes : List Labelled)
    (at : slice_get trails 0 ≡ Some fes) where
  one_more_is : (j : ℕ) → suc j ≡ j + 1
  one_more_is j = omega arith

  in_parts : (j : ℕ) → suc j < length trails → j < length base.servers
  in_parts j lt = let n : length trails ≡ length base.servers + 1 = k.nodes.nodes in omega (arith, lt, n)

  -- a call that tells something of a transaction or a decision was one of fes1
  pub at_fes : (c : ℕ) (list : List Call) (x : Call) → slice_get lists c ≡ Some list → IsIn x list → IsForFes x.request
      → (IsTrue (tells_nothing x.answer) → ⊥) → x.node.0 ≡ 0
  at_fes c list x h i q tells =
      by (in_Each (λ y. IsNode (length trails) y.node.0) x list i
      (each_got (λ l. Each (λ y. IsNode (length trails) y.node.0) l) lists c list k.merged.here h))
    where
      sys : IsOfSystem x
      sys = in_Each IsOfSystem x list i (each_got (λ l. Each IsOfSystem l) lists c list k.system h)

      here : (n : ℕ) → x.node.0 ≡ n → n < length trails → x.node.0 ≡ 0
      here zero e lt = e
      here (suc j) e lt =
          let trail = got trails (suc j) lt in
          let before = got base.servers j (in_parts j lt) in
          let behind = got logs.servers j (subst (λ n. j < n) (sym k.nodes.same) (in_parts j lt)) in
          let ran = k.nodes.servers j before.0 behind.0 trail.0 before.1 behind.1 (subst (λ n. slice_get trails n ≡ Some trail.0) (one_more_is j) trail.1) in
          let within = list_in_trail trails lists k.merged (suc j) c trail.0 list x trail.1 h i e (stands_told x.request x.answer q tells) in
          let right = in_run _ (asked_of trail.0) ran.last (asked_by x) ran.ran within in
          absurd (tells (refuses right.0 x.request x.answer q right.1))

      by : IsNode (length trails) x.node.0 → x.node.0 ≡ 0
      by (inl lt) = here x.node.0 refl lt
      by (inr m) = absurd (tells (sys.beside (inl m)))

  pub told_by_fes : (c : ℕ) (list : List Call) (x : Call) → slice_get lists c ≡ Some list → IsIn x list → IsForFes x.request
      → (IsTrue (tells_nothing x.answer) → ⊥) → IsIn (asked_by x) (asked_of fes)
  told_by_fes c list x h i q tells =
      list_in_trail trails lists k.merged 0 c fes list x at h i (at_fes c list x h i q tells) (stands_told x.request x.answer q tells)

  front_in : (list front : List Call) (x : Call) (back : List Call) (y : Call) → list ≡ front ++ x ∷ back → IsIn y front → IsIn y list
  front_in list front x back y e i = subst (IsIn y) (sym e) (Has-front (λ z. z ≡ y) front (x ∷ back) i)

  -- a call of the transaction that a caller is in
  in_since : (front : List Call) (n : Current) (y : Call) → current front ≡ Some n → IsIn y n.calls → IsIn y front
  in_since front n y e i = let s = since front n e in subst (IsIn y) (sym s.parts) (Has-back (λ z. z ≡ y) s.done (s.begin ∷ n.calls) (inr i))

  -- ---- commits

  module _ (node t : ℕ) (trail : List Labelled) (a : Asked) (h : slice_get trails node ≡ Some trail) (i : IsIn a (asked_of trail)) (s : stands a ≡ true) where
    l : (m : Labelled) × IsIn m trail × (asked m.entry ≡ a)
    l = in_map (λ m. asked m.entry) a trail i

    by_caller : AskedBy lists node l.0.caller (asked l.0.entry)
    by_caller = asked_in_list trails lists k.merged node trail l.0 h l.1 (subst (λ z. stands z ≡ true) (sym l.2) s)

    -- the caller's call, and the calls before it
    abbrev it : Call
    it = by_caller.call

    its_request : it.request ≡ a.request
    its_request = ap (λ z. z.request) (by_caller.is ∙ l.2)

    abbrev front : List Call
    front = (stands_at by_caller.call by_caller.list by_caller.within).front

    abbrev back : List Call
    back = (stands_at by_caller.call by_caller.list by_caller.within).back

    parts : by_caller.list ≡ front ++ it ∷ back
    parts = (stands_at by_caller.call by_caller.list by_caller.within).parts

    allowed : (session : ℕ) × Permitted session front it.node.0 it.request
    allowed = permitted ta base logs trails lists k fes at l.0.caller by_caller.list front it back by_caller.its_list parts

    told_outcome : (b : Answer) → (IsTrue (tells_nothing b) → ⊥) → SettlesAs b t front
        → (c : Asked) × IsIn c (asked_of fes) × (c.request ≡ request.Outcome (record { 0 = t })) × (c.answer ≡ b)
    told_outcome b tells e =
        let o = settles_told t b front e in
        let member = front_in by_caller.list front it back o.0 parts o.1 in (
          asked_by o.0,
          told_by_fes l.0.caller by_caller.list o.0 by_caller.its_list member (subst IsForFes (sym o.2) tt)
              (λ h. tells (subst (λ z. IsTrue (tells_nothing z)) o.3 h)),
          o.2,
          o.3,
        )

    -- a Decide of the transaction that the caller is in
    own_decide : (m : Current) → current front ≡ Some m → m.tx ≡ t → (d : Call) → IsIn d m.calls → (tx : Tx) (votes : List Vote)
        → d.request ≡ request.Decide tx votes → tx.0 ≡ t
    own_decide m e is_t d i tx votes q =
        let z = since front m e in
        let w = stands_at d m.calls i in
        let alone : begins_of w.front ≡ [] = front_none w.front (d ∷ w.back) (sym (ap begins_of w.parts) ∙ z.alone) in
        let whole : by_caller.list ≡ (z.done ++ z.begin ∷ w.front) ++ d ∷ (w.back ++ it ∷ back) =
        parts ∙ ap (λ f. f ++ it ∷ back) (z.parts ∙ ap (λ c. z.done ++ z.begin ∷ c) w.parts ∙ sym (append_assoc z.done (z.begin ∷ w.front) (d ∷ w.back)))
        ∙ append_assoc (z.done ++ z.begin ∷ w.front) (d ∷ w.back) (it ∷ back) in
        let v = within_front ta base logs trails lists k fes at l.0.caller by_caller.list (z.done ++ z.begin ∷ w.front) d
        (w.back ++ it ∷ back) tx.0 by_caller.its_list whole (ap tx_asked q) in
        let now : record { tx = m.tx; calls = w.front } ≡ v.now = some_is (record { tx = m.tx; calls = w.front }) v.now
        (sym (current_begun None z.done z.begin m.tx w.front z.begun alone) ∙ v.is) in
        sym v.tx ∙ sym (ap (λ c. c.tx) now) ∙ is_t
      where
        cons_nil : (y : ℕ) (zs : List ℕ) → y ∷ zs ≡ [] → ⊥
        cons_nil y zs h = cc

        nil_front : (us vs : List ℕ) → us ++ vs ≡ [] → us ≡ []
        nil_front [] vs h = refl
        nil_front (y ∷ ys) vs h = absurd (cons_nil y (ys ++ vs) h)

        front_none : (us vs : List Call) → begins_of (us ++ vs) ≡ [] → begins_of us ≡ []
        front_none us vs h = nil_front (begins_of us) (begins_of vs) (sym (begins_append us vs) ∙ h)

    pub commit_told : (n : ℕ) → a.request ≡ request.Commit (record { 0 = t }) (record { 0 = n }) → Has (IsToldDecided t n) (asked_of fes)
    commit_told n e = by (subst (λ q. Permitted allowed.0 front it.node.0 q) (its_request ∙ e) allowed.1)
      where
        own : (o : Option Current) → current front ≡ o → MatchOption o ⊥ (λ m. (m.tx ≡ t) × MayCommit it.node.0 n m.calls)
            → Has (IsToldDecided t n) (asked_of fes)
        own None c h = absurd h
        own (Some m) c h =
            let d = was_decided n m.calls h.1.1 in
            let q = decides d.0.request d.2 in
            let member = front_in by_caller.list front it back d.0 parts (in_since front m d.0 c d.1) in
            let tx : q.0.0 ≡ t = own_decide m c h.0 d.0 d.1 q.0 q.1 q.2 in
            let fes_has = told_by_fes l.0.caller by_caller.list d.0 by_caller.its_list member (subst IsForFes (sym q.2) tt)
            (λ x. false≢true (subst (λ z. IsTrue (tells_nothing z)) d.3 x)) in
            Has-in (IsToldDecided t n) (asked_by d.0) (asked_of fes) fes_has
            (record { asked = inr (q.1, q.2 ∙ ap (λ z. request.Decide (record { 0 = z }) q.1) tx); answered = d.3 })

        by : Own t front (MayCommit it.node.0 n) ⊎ SettlesAs (answer.Decided (record { 0 = n })) t front → Has (IsToldDecided t n) (asked_of fes)
        by (inl o) = own (current front) refl o
        by (inr o) =
            let x = told_outcome (answer.Decided (record { 0 = n })) false≢true o in
            Has-in (IsToldDecided t n) x.0 (asked_of fes) x.1 (record { asked = inl x.2; answered = x.3 })

    -- ---- rolling back

    settled_stands : (tx : Tx) (votes : List Vote) (b : Answer) → IsTrue (is_settled b)
        → stands (record { request = request.Decide tx votes; answer = b }) ≡ true
    settled_stands tx votes answer.NoMemory h = absurd (false≢true h)
    settled_stands tx votes b h = refl

    pub rollback_told : a.request ≡ request.Rollback (record { 0 = t })
        → Has (is_aborted_outcome t) (asked_of fes) ⊎ (IsIn t (given (asked_of fes)) × (¬ (Has (IsSettled t) (asked_of fes))))
    rollback_told e = by (subst (λ q. Permitted allowed.0 front it.node.0 q) (its_request ∙ e) allowed.1)
      where
        own : (o : Option Current) → current front ≡ o → MatchOption o ⊥ (λ m. (m.tx ≡ t) × MayUndo it.node.0 m.calls)
            → Has (is_aborted_outcome t) (asked_of fes) ⊎ (IsIn t (given (asked_of fes)) × (¬ (Has (IsSettled t) (asked_of fes))))
        own None c h = absurd h
        own (Some m) c h =
            inr (
              begun_given ta base logs trails lists k fes at l.0.caller by_caller.list t by_caller.its_list begun,
              λ x. no_decide (found (IsSettled t) (asked_of fes) x),
            )
          where
            z : Since front m.tx m.calls
            z = since front m c

            begun_front : IsIn t (begins_of front)
            begun_front = subst (λ y. IsIn y (begins_of front)) h.0 (current_in front m c)

            begun : IsIn t (begins_of by_caller.list)
            begun =
                subst (λ g. IsIn t (begins_of g)) (sym parts)
                (subst (IsIn t) (sym (begins_append front (it ∷ back))) (Has-front (λ y. y ≡ t) (begins_of front) (begins_of (it ∷ back)) begun_front))

            no_decide : (d : Asked) × IsIn d (asked_of fes) × IsSettled t d → ⊥
            no_decide d =
                let stood : stands d.0 ≡ true = subst (λ q. stands (record { request = q; answer = d.0.answer }) ≡ true) (sym d.2.asked)
                (settled_stands (record { 0 = t }) d.2.votes d.0.answer d.2.answered) in
                let ld = in_map (λ m. asked m.entry) d.0 fes d.1 in
                let stood_here : stands (asked ld.0.entry) ≡ true = subst (λ z. stands z ≡ true) (sym ld.2) stood in
                let asks : tx_asked (asked ld.0.entry).request ≡ Some t = ap (λ z. tx_asked z.request) ld.2 ∙ ap tx_asked d.2.asked in
                let w = of_caller ta base logs trails lists k fes at 0 fes ld.0 t at ld.1 (own_of t (asked ld.0.entry) asks stood_here) in
                let c_is = same_caller ta base logs trails lists k fes at ld.0.caller l.0.caller t w.list by_caller.list w.its_list by_caller.its_list w.begun begun in
                let b = asked_in_list trails lists k.merged 0 fes ld.0 at ld.1 stood_here in
                let member : IsIn b.call by_caller.list = subst (IsIn b.call)
                (same_got lists ld.0.caller l.0.caller b.list by_caller.list b.its_list by_caller.its_list c_is) b.within in
                let st = stands_at b.call by_caller.list member in
                let q : b.call.request ≡ request.Decide (record { 0 = t }) d.2.votes = ap (λ y. y.request) (b.is ∙ ld.2) ∙ d.2.asked in
                let v = within_front ta base logs trails lists k fes at l.0.caller by_caller.list st.front b.call st.back t by_caller.its_list st.parts
                (ap tx_asked q) in
                let may : (t ≡ t) × MayDecide d.2.votes v.now.calls = subst (λ y. Within t v.now.calls b.call.node.0 y) q v.within in
                let sn = since st.front v.now v.is in
                let left : by_caller.list ≡ z.done ++ z.begin ∷ (m.calls ++ it ∷ back) = parts ∙ ap (λ f. f ++ it ∷ back) z.parts
                ∙ append_assoc z.done (z.begin ∷ m.calls) (it ∷ back) in
                let right : by_caller.list ≡ sn.done ++ sn.begin ∷ (v.now.calls ++ b.call ∷ st.back) = st.parts ∙ ap (λ f. f ++ b.call ∷ st.back) sn.parts
                ∙ append_assoc sn.done (sn.begin ∷ v.now.calls) (b.call ∷ st.back) in
                let ascends : Ascends nat_cmp (begins_of (z.done ++ z.begin ∷ (m.calls ++ it ∷ back))) = subst (λ g. Ascends nat_cmp (begins_of g)) left
                (begins_ascend ta base logs trails lists k fes at l.0.caller by_caller.list by_caller.its_list) in
                let rest = one_begin t z.done z.begin (m.calls ++ it ∷ back) sn.done sn.begin (v.now.calls ++ b.call ∷ st.back)
                (z.begun ∙ ap (λ y. y ∷ []) h.0) (sn.begun ∙ ap (λ y. y ∷ []) v.tx) ascends (sym left ∙ right) in
                kinds b.call v.now.calls q (subst (λ y. IsTrue (is_settled y)) (sym (ap (λ y. y.answer) (b.is ∙ ld.2))) d.2.answered) may.1.not_undone
                (placed m.calls it back v.now.calls b.call st.back rest)
              where
                kinds : (x : Call) (calls : List Call) → x.request ≡ request.Decide (record { 0 = t }) d.2.votes → IsTrue (is_settled x.answer)
                    → ¬ (HasAsked is_undoing calls) → Placed m.calls it calls x → ⊥
                kinds x calls q st un (same p) = false≢true (sym (ap is_decide (its_request ∙ e)) ∙ ap (λ y. is_decide y.request) p ∙ ap is_decide q)
                kinds x calls q st un (before mm p) =
                    un (subst (λ g. HasAsked is_undoing g) (sym p)
                    (Has-in (λ y. IsTrue (is_undoing y.request)) it (m.calls ++ it ∷ mm) (is_there it m.calls mm)
                    (subst (λ y. IsTrue (is_undoing y)) (sym (its_request ∙ e)) refl)))
                kinds x calls q st un (behind mm p) =
                    h.1.1 (subst MayBeDecided (sym p) (Has-in (λ y. Asks is_decide y × IsTrue (is_settled y.answer)) x (calls ++ x ∷ mm) (is_there x calls mm)
                    (subst (λ y. IsTrue (is_decide y)) (sym q) refl, st)))

        by : Own t front (MayUndo it.node.0) ⊎ SettlesAs answer.Aborted t front
            → Has (is_aborted_outcome t) (asked_of fes) ⊎ (IsIn t (given (asked_of fes)) × (¬ (Has (IsSettled t) (asked_of fes))))
        by (inl o) = own (current front) refl o
        by (inr o) = let x = told_outcome answer.Aborted false≢true o in inl (Has-in (is_aborted_outcome t) x.0 (asked_of fes) x.1 (x.2, x.3))
