-- The decision of a turn that was answered decided: it stands in the logs, and its rows are those that the turn saw.
use Rattle.std.proofs.Common.{◌≡◌, ◌⊎◌, ◌∙◌, ℕ, zero, suc, ◌<◌, ◌≤◌, List, [], ◌∷◌, ◌++◌, Some, None, ap, append_assoc, arith, inl, inr, map, refl, subst, sym}
use Rattle.std.specs.Prelude.{IsTrue, slice_get}
use Rattle.std.specs.Ordering.{nat_cmp}
use Rattle.std.proofs.lemmas.Bool.{false≢true}
use Rattle.hb_types.specs.declared.names.Tx.{Tx}
use Rattle.hb_types.specs.declared.request.Request.TheVariants as request
use Rattle.hb_types.specs.declared.request.Vote.{Vote}
use Rattle.hb_types.specs.declared.trail.Call.{Call}
use Rattle.hb_types.specs.Lists.{Ascends, Each, IsIn}
use Rattle.hb_types.proofs.Ascending.{Each-back, Has-back, Has-front, in_Each}
use Rattle.hb_loglaws.proofs.Members.{found}
use Rattle.hb_model.specs.Items.{Item, calls_of}
use Rattle.hb_disks.specs.Images.{Logs, decided}
use Rattle.hb_disks.specs.Redo.{Decided}
use Rattle.hb_disks.specs.Says.{decisions}
use Rattle.hb_disks.specs.StandsFor.{AreLogs, greatest_upto}
use Rattle.hb_runs.specs.Coordinator as coordinator
use Rattle.hb_runs.specs.ServerRuns.{Asked}
use Rattle.hb_law.specs.Answering.{IsOfSystem, tells_nothing}
use Rattle.hb_law.specs.Callers.{WasDecided, current}
use Rattle.hb_law.specs.Composition.{CoordinatorRan}
use Rattle.hb_law.specs.Histories.{Labelled, Trails, asked_by, asked_of, stands}
use Rattle.hb_law.specs.Transactions.{BeginsIt, IsApart, Txn, begins_of, tx_asked}
use Rattle.hb_coordlaws.specs.Ascending.{DecisionsGrow, TransactionsAscend, given}
use Rattle.hb_coordlaws.specs.Asking.{DecidedWereGiven}
use Rattle.hb_coordlaws.specs.Order as order
use Rattle.hb_parts.specs.Owning.{GivenAreNew}
use Rattle.hb_parts.specs.Rows.{OneSystem}
use Rattle.hb_parts.specs.Turning.{TxnsHaveItems}
use Rattle.hb_parts.specs.Txns.{HasItems, Itemed}
use Rattle.hb_parts.specs.Voting.{IsNewDecision, NewAreDecided, ServersRan}
use Rattle.hb_onefamily.proofs.Staying.{decision_reserved}
use Rattle.hb_votes.proofs.Reserving.{crun_parts}
use Rattle.hb_whose.proofs.Begins.{apart_in, begins_entries, in_given}
use Rattle.hb_whose.proofs.Currents.{begins_append, current_begun}
use Rattle.hb_whose.proofs.Owners.{ascends, begun_given, within_front}
use Rattle.hb_whose.proofs.Parts.{Stands, is_there, none_some, some_is, stands_at}
use Rattle.hb_whose.proofs.Told.{DecidedIn, IsForFes, at_fes, decides, has_begin, heads, was_decided}
use Rattle.hb_whose.proofs.Trailing.{each_got}
use Rattle.hb_checks.proofs.Located.{Located, given_append, located}

-- ---- lists of items and lists of calls

pub got_calls : (lists : List (List Item)) (caller : ℕ) (list : List Item) → slice_get lists caller ≡ Some list → slice_get (map calls_of lists) caller ≡ Some (calls_of list)
got_calls [] caller list h = absurd (none_some list h)
got_calls (x ∷ xs) zero list h = ap (λ z. Some (calls_of z)) (some_is x list h)
got_calls (x ∷ xs) (suc n) list h = got_calls xs n list h

pub calls_append : (xs ys : List Item) → calls_of (xs ++ ys) ≡ calls_of xs ++ calls_of ys
calls_append [] ys = refl
calls_append (x ∷ xs) ys = ap (λ l. x.calls ++ l) (calls_append xs ys) ∙ sym (append_assoc x.calls (calls_of xs) (calls_of ys))

-- a call in a list that has a begin
where_is : (xs : List Call) (b : Call) (ys front : List Call) (c : Call) (back : List Call) → xs ++ b ∷ ys ≡ front ++ c ∷ back
    → IsIn c xs ⊎ (b ≡ c) ⊎ ((m : List Call) × (front ≡ xs ++ b ∷ m) × (ys ≡ m ++ c ∷ back))
where_is [] b ys [] c back e = inr (inl (heads b c ys back e).0)
where_is [] b ys (f ∷ fs) c back e = let k = heads b f ys (fs ++ c ∷ back) e in inr (inr (fs, ap (λ z. z ∷ fs) (sym k.0), k.1))
where_is (x ∷ xs) b ys [] c back e = inl (inl (heads x c (xs ++ b ∷ ys) back e).0)
where_is (x ∷ xs) b ys (f ∷ fs) c back e = by (heads x f (xs ++ b ∷ ys) (fs ++ c ∷ back) e).0 (where_is xs b ys fs c back (heads x f (xs ++ b ∷ ys) (fs ++ c ∷ back) e).1)
  where
    by : x ≡ f → IsIn c xs ⊎ (b ≡ c) ⊎ ((m : List Call) × (fs ≡ xs ++ b ∷ m) × (ys ≡ m ++ c ∷ back)) → IsIn c (x ∷ xs) ⊎ (b ≡ c) ⊎ ((m : List Call) × (f ∷ fs ≡ x ∷ xs ++ b ∷ m) × (ys ≡ m ++ c ∷ back))
    by q (inl i) = inl (inr i)
    by q (inr (inl h)) = inr (inl h)
    by q (inr (inr h)) = inr (inr (h.0, ap (λ l. f ∷ l) h.1 ∙ ap (λ z. z ∷ (xs ++ b ∷ h.0)) (sym q), h.2))

front_none : (us vs : List Call) → begins_of (us ++ vs) ≡ [] → begins_of us ≡ []
front_none us vs h = nil_front (begins_of us) (begins_of vs) (sym (begins_append us vs) ∙ h)
  where
    nil_front : (xs ys : List ℕ) → xs ++ ys ≡ [] → xs ≡ []
    nil_front [] ys h = refl
    nil_front (x ∷ xs) ys h = cc

decided_heads : (x y : Decided) (xs ys : List Decided) → x ∷ xs ≡ y ∷ ys → (x ≡ y) × (xs ≡ ys)
decided_heads x y xs ys e = (cc, cc)

-- of a decision among the first ones, and one that is not, the first is among those before
before_it : (xs more front : List Decided) (d : Decided) (back : List Decided) (y : Decided) → xs ++ more ≡ front ++ d ∷ back → (IsIn d xs → ⊥) → IsIn y xs → IsIn y front
before_it [] more front d back y e n i = absurd i
before_it (x ∷ xs) more [] d back y e n i = absurd (n (inl (decided_heads x d (xs ++ more) back e).0))
before_it (x ∷ xs) more (f ∷ fs) d back y e n i = by i (λ j. before_it xs more fs d back y (decided_heads x f (xs ++ more) (fs ++ d ∷ back) e).1 (λ h. n (inr h)) j)
  where
    by : IsIn y (x ∷ xs) → (IsIn y xs → IsIn y fs) → IsIn y (f ∷ fs)
    by (inl q) rest = inl (sym (decided_heads x f (xs ++ more) (fs ++ d ∷ back) e).0 ∙ q)
    by (inr j) rest = inr (rest j)

pub record Laws : Type 0 where
  pub ascend : TransactionsAscend
  pub grow : DecisionsGrow
  pub stand : order.DecisionStands
  pub were_given : DecidedWereGiven
  pub news : GivenAreNew
  pub decided : NewAreDecided
  pub servers : ServersRan
  pub one : OneSystem
  pub items : TxnsHaveItems

-- a decision of this transaction and number
pub record IsDecisionOf (logs : Logs) (txns : List Txn) (t : Txn) (n : ℕ) (d : Decided) : Type 0 where
  pub tx : d.tx ≡ t.tx
  pub number : d.number ≡ n
  pub known : IsIn d (decided logs)
  pub has : (front back : List Decided) → decided logs ≡ front ++ d ∷ back → HasItems logs txns front d t

-- The decision of a turn behind which its caller went on with these items: it is not of the base, and comes before those of
-- transactions that were begun there.
pub record TurnDecided (base logs : Logs) (txns : List Txn) (t : Txn) (n : ℕ) (g : List Item) : Type 0 where
  pub d : Decided
  pub is : IsDecisionOf logs txns t n d
  pub is_new : IsIn d (decided base) → ⊥
  pub before : (y : Decided) (front back : List Decided) → IsIn y.tx (begins_of (calls_of g)) → decided logs ≡ front ++ y ∷ back → IsIn d front

module _ (laws : Laws) (base logs : Logs) (trails : Trails) (lists : List (List Item)) (txns : List Txn) (it : Itemed base logs trails lists txns) (right : AreLogs logs) (fes : List Labelled)
    (at : slice_get trails 0 ≡ Some fes) where
  abbrev calls : List (List Call)
  calls = map calls_of lists

  abbrev ran : CoordinatorRan base.fes logs.fes fes
  ran = it.callings.nodes.fes fes at

  -- what was begun in a caller's list was given, and is of no decision of the base
  is_new : (caller : ℕ) (list : List Call) (tx : ℕ) (d : Decided) → slice_get calls caller ≡ Some list → IsIn tx (begins_of list) → d.tx ≡ tx → IsIn d (decided base) → ⊥
  is_new caller list tx d its begun e i =
      let above : greatest_upto base.fes < tx = in_Each (λ t. greatest_upto base.fes < t) tx (given (asked_of fes)) (begun_given laws.ascend base logs trails calls it.callings fes at caller list tx its begun)
      (laws.news base logs trails calls fes it.callings at) in
      let under : d.tx ≤ greatest_upto base.fes = in_Each (λ (y : Decided). y.tx ≤ greatest_upto base.fes) d (decided base) i (decision_reserved (greatest_upto base.fes) base.fes it.callings.right.transaction_numbers.fes) in
      omega (arith, above, under, e)

  module _ (caller : ℕ) (f : List Item) (i : Item) (g : List Item) (its : slice_get lists caller ≡ Some (f ++ i ∷ g)) (t : Txn) (known : IsIn t txns) (begins : BeginsIt t.tx i.calls) (n : ℕ)
      (told : WasDecided n i.calls) where
    abbrev list : List Call
    list = calls_of (f ++ i ∷ g)

    its_calls : slice_get calls caller ≡ Some list
    its_calls = got_calls lists caller (f ++ i ∷ g) its

    -- its Decide
    c : DecidedIn n i.calls
    c = was_decided n i.calls told

    abbrev decide : Call
    decide = c.0

    q : (tx : Tx) × (votes : List Vote) × (decide.request ≡ request.Decide tx votes)
    q = decides decide.request c.2

    s : Stands decide i.calls
    s = stands_at decide i.calls c.1

    abbrev front : List Call
    front = calls_of f ++ s.front

    abbrev back : List Call
    back = s.back ++ calls_of g

    list_is : list ≡ calls_of f ++ (i.calls ++ calls_of g)
    list_is = calls_append f (i ∷ g)

    whole : list ≡ front ++ decide ∷ back
    whole = list_is ∙ ap (λ l. calls_of f ++ (l ++ calls_of g)) s.parts ∙ ap (λ l. calls_of f ++ l) (append_assoc s.front (decide ∷ s.back) (calls_of g)) ∙ sym (append_assoc (calls_of f) s.front (decide ∷ back))

    member : IsIn decide list
    member = subst (IsIn decide) (sym whole) (is_there decide front back)

    node : decide.node.0 ≡ 0
    node = at_fes laws.ascend base logs trails calls it.callings fes at caller list decide its_calls member (subst IsForFes (sym q.2) tt) (λ z. false≢true (subst (λ a. IsTrue (tells_nothing a)) c.3 z))

    asks : tx_asked decide.request ≡ Some q.0.0
    asks = ap tx_asked q.2

    -- it is of this transaction
    begun_list : IsIn t.tx (begins_of list)
    begun_list = subst (λ l. IsIn t.tx (begins_of l)) (sym shape) (has_begin t.tx (calls_of f ++ begins.before) begins.begin (begins.more ++ calls_of g) begins.begun)
      where
        shape : list ≡ (calls_of f ++ begins.before) ++ begins.begin ∷ (begins.more ++ calls_of g)
        shape =
            list_is ∙ ap (λ l. calls_of f ++ (l ++ calls_of g)) begins.parts ∙ ap (λ l. calls_of f ++ l) (append_assoc begins.before (begins.begin ∷ begins.more) (calls_of g))
            ∙ sym (append_assoc (calls_of f) begins.before (begins.begin ∷ (begins.more ++ calls_of g)))

    same_tx : t.tx ≡ q.0.0
    same_tx = by (where_is begins.before begins.begin begins.more s.front decide s.back (sym begins.parts ∙ s.parts))
      where
        nil_one : [] ≡ t.tx ∷ [] → ⊥
        nil_one e = cc

        by : IsIn decide begins.before ⊎ (begins.begin ≡ decide) ⊎ ((m : List Call) × (s.front ≡ begins.before ++ begins.begin ∷ m) × (begins.more ≡ m ++ decide ∷ s.back)) → t.tx ≡ q.0.0
        by (inl k) = absurd (none_some q.0.0 (sym (in_Each IsApart decide begins.before k begins.apart).0 ∙ asks))
        by (inr (inl e)) = absurd (nil_one (sym (ap (λ z. begins_of (record { node = decide.node; request = decide.request; answer = z } ∷ [])) c.3) ∙ ap (λ z. begins_of (z ∷ [])) (sym e) ∙ begins.begun))
        by (inr (inr k)) =
            let w = within_front laws.ascend base logs trails calls it.callings fes at caller list front decide back q.0.0 its_calls whole asks in
            let here = current_begun None (calls_of f ++ begins.before) begins.begin t.tx k.0 begins.begun (front_none k.0 (decide ∷ s.back) (sym (ap begins_of k.2) ∙ begins.none_behind)) in
            let shape : front ≡ (calls_of f ++ begins.before) ++ begins.begin ∷ k.0 = ap (λ l. calls_of f ++ l) k.1 ∙ sym (append_assoc (calls_of f) begins.before (begins.begin ∷ k.0)) in
            ap (λ z. z.tx) (some_is (record { tx = t.tx; calls = k.0 }) w.now (sym here ∙ ap current (sym shape) ∙ w.is)) ∙ w.tx

    -- it stands in the trail of fes1
    same_asked : asked_by decide ≡ order.decided_as q.0.0 q.1 n
    same_asked = λ i. record { request = q.2 i; answer = c.3 i }

    loc : Located fes caller decide back
    loc = located trails calls it.callings.merged fes at caller list front decide back its_calls whole node (ap stands same_asked)

    parts : (u : coordinator.CState) × coordinator.CRun (coordinator.stopped_at base.fes) (asked_of loc.before) u × coordinator.CRun u (asked_by decide ∷ asked_of loc.behind) ran.last
    parts = crun_parts (coordinator.stopped_at base.fes) (asked_of loc.before) (asked_by decide ∷ asked_of loc.behind) ran.last
        (subst (λ l. coordinator.CRun (coordinator.stopped_at base.fes) l ran.last) loc.parts ran.ran)

    -- the state behind it
    abbrev then : coordinator.CState
    then = parts.2.0

    one_run : coordinator.CRun parts.0 (asked_by decide ∷ []) then
    one_run = (then, parts.2.1, refl)

    its_decision : (d : Decided) × IsIn d (decisions then.log) × ((d.tx ≡ q.0.0) × (d.number ≡ n))
    its_decision = found (λ d. (d.tx ≡ q.0.0) × (d.number ≡ n)) (decisions then.log)
        (laws.stand parts.0 then q.0.0 n q.1 [] (subst (λ z. coordinator.CRun parts.0 (z ∷ []) then) same_asked one_run)).0

    grows : (more : List Decided) × (decided logs ≡ decisions then.log ++ more)
    grows = let k = laws.grow then ran.last (asked_of loc.behind) parts.2.2 in (k.0, ap decisions ran.log ∙ k.1)

    abbrev d : Decided
    d = its_decision.0

    its_known : IsIn d (decided logs)
    its_known = subst (IsIn d) (sym grows.1) (Has-front (λ y. y ≡ d) (decisions then.log) grows.0 its_decision.1)

    d_tx : d.tx ≡ t.tx
    d_tx = its_decision.2.0 ∙ sym same_tx

    new_here : IsIn d (decided base) → ⊥
    new_here = is_new caller list t.tx d its_calls begun_list d_tx

    new_decision : IsNewDecision trails calls fes d
    new_decision = elim (laws.decided base logs trails calls fes d it.callings at its_known) [ inl b ↦ absurd (new_here b) | inr k ↦ k ]

    -- the run up to behind it
    run_then : coordinator.CRun (coordinator.stopped_at base.fes) (asked_of loc.before ++ asked_by decide ∷ []) then
    run_then = joined (coordinator.stopped_at base.fes) (asked_of loc.before) parts.1
      where
        joined : (k : coordinator.CState) (xs : List Asked) → coordinator.CRun k xs parts.0 → coordinator.CRun k (xs ++ asked_by decide ∷ []) then
        joined k [] r = subst (λ z. coordinator.CRun z (asked_by decide ∷ []) then) (sym r) one_run
        joined k (x ∷ xs) r = (r.0, r.1, joined r.0 xs r.2)

    -- what the caller begins behind it was given behind it
    given_behind : (tx : ℕ) → IsIn tx (begins_of back) → IsIn tx (given (asked_of loc.before ++ asked_by decide ∷ [])) → ⊥
    given_behind tx b i =
        apart_in (given (asked_of loc.before ++ asked_by decide ∷ [])) (given (asked_of loc.behind)) tx
        (subst (Ascends nat_cmp) (ap given (loc.parts ∙ sym (append_assoc (asked_of loc.before) (asked_by decide ∷ []) (asked_of loc.behind))) ∙ given_append (asked_of loc.before ++ asked_by decide ∷ []) (asked_of loc.behind))
        (ascends laws.ascend base logs trails calls it.callings fes at)) i
        (in_given caller tx loc.behind (subst (IsIn tx) (begins_entries caller loc.behind back systems loc.later) b))
      where
        systems : Each IsOfSystem back
        systems = (Each-back IsOfSystem front (decide ∷ back) (subst (Each IsOfSystem) whole (each_got (λ l. Each IsOfSystem l) calls caller list it.callings.system its_calls))).1

    -- a decision of a transaction that the caller began behind it comes behind its own
    stands_before : (y : Decided) (fs bs : List Decided) → IsIn y.tx (begins_of (calls_of g)) → decided logs ≡ fs ++ y ∷ bs → IsIn d fs
    stands_before y fs bs b e = before_it (decisions then.log) grows.0 fs y bs d (sym grows.1 ∙ e) not_yet its_decision.1
      where
        begun_back : IsIn y.tx (begins_of back)
        begun_back = subst (IsIn y.tx) (sym (begins_append s.back (calls_of g))) (Has-back (λ z. z ≡ y.tx) (begins_of s.back) (begins_of (calls_of g)) b)

        begun_there : IsIn y.tx (begins_of list)
        begun_there = subst (λ l. IsIn y.tx (begins_of l)) (sym whole) (subst (IsIn y.tx) (sym (begins_append front (decide ∷ back)))
            (Has-back (λ z. z ≡ y.tx) (begins_of front) (begins_of (decide ∷ back)) (subst (IsIn y.tx) (sym (begins_append (decide ∷ []) back)) (Has-back (λ z. z ≡ y.tx) (begins_of (decide ∷ [])) (begins_of back) begun_back))))

        not_yet : IsIn y (decisions then.log) → ⊥
        not_yet i =
            elim (in_Each (λ z. IsIn z (decisions base.fes) ⊎ (IsIn z.tx [] ⊎ IsIn z.tx (given (asked_of loc.before ++ asked_by decide ∷ [])))) y (decisions then.log) i
            (laws.were_given (coordinator.stopped_at base.fes) then (asked_of loc.before ++ asked_by decide ∷ []) run_then)) [
              | inl b ↦ is_new caller list y.tx y its_calls begun_there refl b
              | inr k ↦ elim k [ inl n ↦ absurd n | inr j ↦ given_behind y.tx begun_back j ]
            ]

    pub turn_decided : TurnDecided base logs txns t n g
    turn_decided =
        record {
          d = d;
          is =
              record {
                tx = d_tx;
                number = its_decision.2.1;
                known = its_known;
                has = λ fs bs e. laws.items base logs trails lists txns fes fs bs d it right at e new_decision (laws.one laws.servers base logs trails calls fes fs bs d it.callings right at e new_decision) t known (sym d_tx);
              };
          is_new = new_here;
          before = stands_before;
        }
