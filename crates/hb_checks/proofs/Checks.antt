-- A check that was decided, before a transaction, was a step of the chain, and its table has its number still.
use Rattle.std.proofs.Common.{◌≡◌, ◌⊎◌, ◌∙◌, ℕ, ◌≤◌, List, [], ◌∷◌, ◌++◌, Some, None, ap, append_assoc, append-nil, arith, inl, inr, length, refl, subst, sym}
use Rattle.std.specs.Prelude.{slice_get}
use Rattle.hb_types.specs.declared.trail.Call.{Call}
use Rattle.hb_types.specs.Lists.{Each, IsIn}
use Rattle.hb_types.proofs.Ascending.{Has-back, Has-front, in_Each}
use Rattle.hb_loglaws.proofs.Members.{found, in_append}
use Rattle.hb_model.specs.Answers.{AnswersOf}
use Rattle.hb_model.specs.Items.{Doing, Item, calls_of, turn}
use Rattle.hb_model.specs.State.{Spread, State, spread_named}
use Rattle.hb_disks.specs.Images.{Logs, decided, family}
use Rattle.hb_disks.specs.Redo.{Decided}
use Rattle.hb_disks.specs.StandsFor.{AreLogs, StateAfter, back_ends}
use Rattle.hb_law.specs.Histories.{Labelled, Trails}
use Rattle.hb_law.specs.Transactions.{AllAnswered, BeginsIt, IsOfStatements, IsRightTxn, IsSomebodys, IsTurning, IsTxnOf, Txn, begins_of, caller_of, is_idle, own_items, tx_asked}
use Rattle.hb_law.specs.Turns.{WasCheck}
use Rattle.hb_parts.specs.Turning.{ChainsKeepNumbers, ChecksTellNumbers, ChecksWereSteps, Reached}
use Rattle.hb_parts.specs.Txns.{Chain, Itemed}
use Rattle.hb_whose.proofs.Currents.{begins_append}
use Rattle.hb_whose.proofs.Parts.{Stands, none_some, stands_at}
use Rattle.hb_whose.proofs.Told.{decides, has_begin, was_decided}
use Rattle.hb_types.proofs.PutLaws.{by_test}
use Rattle.hb_checks.proofs.TurnDecisions.{IsDecisionOf, Laws, calls_append, turn_decided}

-- ---- a turn is its transaction's one item

not_statements : (w : Doing) (table : List ℕ) (most : ℕ) → w ≡ turn table most → IsOfStatements w → ⊥
not_statements w table most e h = subst IsOfStatements e h

pub only_item : (t : Txn) (i : Item) (table : List ℕ) (most : ℕ) → (Each (λ j. IsOfStatements j.doing) t.items × AllAnswered t.items) ⊎ ((j : Item) × (t.items ≡ j ∷ []) × IsTurning j.doing)
    → IsIn i t.items → i.doing ≡ turn table most → t.items ≡ i ∷ []
only_item t i table most (inl k) m e = absurd (not_statements i.doing table most e (in_Each (λ j. IsOfStatements j.doing) i t.items m k.0))
only_item t i table most (inr k) m e = by (subst (IsIn i) k.1 m)
  where
    by : IsIn i (k.0 ∷ []) → t.items ≡ i ∷ []
    by (inl q) = k.1 ∙ ap (λ z. z ∷ []) q
    by (inr n) = absurd n

pub begins_here : (lists : List (List Item)) (t : Txn) (i : Item) → IsTxnOf lists t → t.items ≡ i ∷ [] → BeginsIt t.tx i.calls
begins_here lists t i x e = subst (λ z. BeginsIt t.tx z.calls) (first_is x.first i x.others (sym x.items ∙ e)) x.begins
  where
    first_is : (a b : Item) (more : List Item) → a ∷ more ≡ b ∷ [] → a ≡ b
    first_is a b more e = cc

pub one_calls : (t : Txn) (i : Item) → t.items ≡ i ∷ [] → calls_of t.items ≡ i.calls
one_calls t i e = ap calls_of e ∙ append-nil i.calls

-- ---- a transaction begins in its stretch

pub own_in : (is : List Item) (i : Item) → IsIn i (own_items is) → IsIn i is
own_in [] i m = m
own_in (j ∷ js) i m = by_test (is_idle j) (λ t. inr (own_in js i (rw t at m))) (λ f. first (rw f at m) (λ k. own_in js i k))
  where
    first : IsIn i (j ∷ own_items js) → (IsIn i (own_items js) → IsIn i js) → IsIn i (j ∷ js)
    first (inl e) rest = inl e
    first (inr k) rest = inr (rest k)

item_begins : (tx : ℕ) (is : List Item) (i : Item) → IsIn i is → IsIn tx (begins_of i.calls) → IsIn tx (begins_of (calls_of is))
item_begins tx [] i m b = absurd m
item_begins tx (j ∷ js) i (inl e) b = subst (IsIn tx) (sym (begins_append j.calls (calls_of js))) (Has-front (λ y. y ≡ tx) (begins_of j.calls) (begins_of (calls_of js)) (subst (λ z. IsIn tx (begins_of z.calls)) (sym e) b))
item_begins tx (j ∷ js) i (inr m) b = subst (IsIn tx) (sym (begins_append j.calls (calls_of js))) (Has-back (λ y. y ≡ tx) (begins_of j.calls) (begins_of (calls_of js)) (item_begins tx js i m b))

stretch_begins : (lists : List (List Item)) (t : Txn) (x : IsTxnOf lists t) → IsIn t.tx (begins_of (calls_of x.stretch))
stretch_begins lists t x =
    item_begins t.tx x.stretch x.first (own_in x.stretch x.first (subst (IsIn x.first) (sym x.own) (inl refl)))
    (subst (λ l. IsIn t.tx (begins_of l)) (sym x.begins.parts) (has_begin t.tx x.begins.before x.begins.begin x.begins.more x.begins.begun))

-- ---- a step of a chain

pub record InChain (logs : Logs) (txns : List Txn) (front : List Decided) (s : State) (ds : List Decided) (t : State) (d : Decided) : Type 0 where
  pub done : List Decided
  pub rest : List Decided
  pub parts : ds ≡ done ++ d ∷ rest
  pub before : State
  pub at_before : StateAfter logs (front ++ done) before
  pub chain : Chain logs txns (front ++ done) before (d ∷ rest) t

pub in_chain : (logs : Logs) (txns : List Txn) (front : List Decided) (s : State) (ds : List Decided) (t : State) (d : Decided) → Chain logs txns front s ds t → StateAfter logs front s → IsIn d ds
    → InChain logs txns front s ds t d
in_chain logs txns front s [] t d c at i = absurd i
in_chain logs txns front s (e ∷ es) t d c at (inl q) =
    record {
      done = [];
      rest = es;
      parts = ap (λ z. z ∷ es) q;
      before = s;
      at_before = subst (λ l. StateAfter logs l s) (sym (append-nil front)) at;
      chain = subst (λ l. Chain logs txns l s (d ∷ es) t) (sym (append-nil front)) (subst (λ z. Chain logs txns front s (z ∷ es) t) q c);
    }
in_chain logs txns front s (e ∷ es) t d c at (inr i) =
    let k = in_chain logs txns (front ++ e ∷ []) c.0.after es t d c.1 c.0.at_after i in
    let same : (front ++ e ∷ []) ++ k.done ≡ front ++ e ∷ k.done = append_assoc front (e ∷ []) k.done in
    record {
      done = e ∷ k.done;
      rest = k.rest;
      parts = ap (λ l. e ∷ l) k.parts;
      before = k.before;
      at_before = subst (λ l. StateAfter logs l k.before) same k.at_before;
      chain = subst (λ l. Chain logs txns l k.before (d ∷ k.rest) t) same k.chain;
    }

pub few_back_ends : (base logs : Logs) → length logs.servers ≡ length base.servers → length base.servers ≤ 9 → back_ends logs ≤ 8
few_back_ends base logs e few = omega (arith, e, few)

-- ---- the check

-- the table of this name has this number
abbrev HasNumber : State → List ℕ → ℕ → Type 0
HasNumber s table number = (p : Spread) × (spread_named s table ≡ Some p) × (p.number ≡ number)

module _ (laws : Laws) (keep : ChainsKeepNumbers) (tell : ChecksTellNumbers) (base logs : Logs) (trails : Trails) (lists : List (List Item)) (txns : List Txn) (fes : List Labelled)
    (done : List Decided) (d : Decided) (s : State) (t : Txn) (it : Itemed base logs trails lists txns) (right : AreLogs logs) (at : slice_get trails 0 ≡ Some fes) (r : Reached base logs txns done d s)
    (of_tx : t.tx ≡ d.tx) (x : IsTxnOf lists t) (place : ℕ) (table : List ℕ) (most number : ℕ) (i : Item) (m : IsIn i x.front) (w : WasCheck place table most number i) where
  -- at the step of the check the table had the number
  at_step : (u : Txn) → u.items ≡ i ∷ [] → (e : Decided) → IsDecisionOf logs txns u w.n e → IsIn e done → HasNumber s table number
  at_step u only e is j =
      let c = in_chain logs txns (decided base) r.start done s e r.chain r.at_start j in
      let parts : decided logs ≡ (decided base ++ c.done) ++ e ∷ (c.rest ++ d ∷ r.rest) =
      r.parts ∙ ap (λ l. (decided base ++ l) ++ d ∷ r.rest) c.parts ∙ ap (λ l. l ++ d ∷ r.rest) (sym (append_assoc (decided base) c.done (e ∷ c.rest))) ∙ append_assoc (decided base ++ c.done) (e ∷ c.rest) (d ∷ r.rest) in
      let has = is.has (decided base ++ c.done) (c.rest ++ d ∷ r.rest) parts in
      let p = tell (back_ends logs) (family logs (decided base ++ c.done)) c.before w.tx table number w.names w.entries i.calls
      (few_back_ends base logs it.callings.nodes.same it.callings.back_ends_few.1) c.at_before (subst (AnswersOf (family logs (decided base ++ c.done))) (one_calls u i only) has.rows.answers) w.rows w.told in
      let z = (keep logs txns (decided base ++ c.done) (e ∷ c.rest) c.before s c.chain).numbers table p.0 p.1 in
      (z.0, z.1, z.2 ∙ p.2)

  -- where the check stands, and what its caller began behind it
  f : Stands i x.front
  f = stands_at i x.front m

  abbrev behind : List Item
  behind = f.back ++ (x.stretch ++ x.back)

  its : slice_get lists (caller_of t.owner) ≡ Some (f.front ++ i ∷ behind)
  its = x.parts ∙ ap (λ l. Some l) (append_assoc x.front x.stretch x.back ∙ ap (λ l. l ++ (x.stretch ++ x.back)) f.parts ∙ append_assoc f.front (i ∷ f.back) (x.stretch ++ x.back))

  begun : IsIn t.tx (begins_of (calls_of behind))
  begun =
      subst (λ l. IsIn t.tx (begins_of l)) (sym (calls_append f.back (x.stretch ++ x.back) ∙ ap (λ l. calls_of f.back ++ l) (calls_append x.stretch x.back)))
      (subst (IsIn t.tx) (sym (begins_append (calls_of f.back) (calls_of x.stretch ++ calls_of x.back)))
      (Has-back (λ y. y ≡ t.tx) (begins_of (calls_of f.back)) (begins_of (calls_of x.stretch ++ calls_of x.back))
      (subst (IsIn t.tx) (sym (begins_append (calls_of x.stretch) (calls_of x.back)))
      (Has-front (λ y. y ≡ t.tx) (begins_of (calls_of x.stretch)) (begins_of (calls_of x.back)) (stretch_begins lists t x)))))

  of_txn : (u : Txn) → IsIn u txns → IsIn i u.items → HasNumber s table number
  of_txn u known j =
      let only = only_item u i table most (in_Each (IsRightTxn (back_ends base)) u txns known it.right).kinds j w.doing in
      let begins = begins_here lists u i (in_Each (IsTxnOf lists) u txns known it.txns_are.each) only in
      let e = turn_decided laws base logs trails lists txns it right fes at (caller_of t.owner) f.front i behind its u known begins w.n w.decided in
      let earlier = e.before d (decided base ++ done) r.rest (subst (λ z. IsIn z (begins_of (calls_of behind))) of_tx begun) r.parts in
      at_step u only e.d e.is (elim (in_append e.d (decided base) done earlier) [ inl b ↦ absurd (e.is_new b) | inr j ↦ j ])

  -- it asked for a decision, so it is a transaction's
  of_somebody : IsSomebodys txns (caller_of t.owner) i → HasNumber s table number
  of_somebody (inl o) = let u = found (λ (u : Txn). (caller_of u.owner ≡ caller_of t.owner) × IsIn i u.items) txns o in of_txn u.0 u.1 u.2.1
  of_somebody (inr l) =
      let c = was_decided w.n i.calls w.decided in
      let q = decides c.0.request c.2 in
      absurd (none_some q.0.0 (sym (in_Each (λ (y : Call). tx_asked y.request ≡ None) c.0 i.calls c.1 l.asks_none) ∙ ap tx_asked q.2))

  has_number : HasNumber s table number
  has_number =
      of_somebody (in_Each (IsSomebodys txns (caller_of t.owner)) i (x.front ++ x.stretch ++ x.back) (Has-front (λ y. y ≡ i) (x.front ++ x.stretch) x.back (Has-front (λ y. y ≡ i) x.front x.stretch m))
      (it.txns_are.none_left (caller_of t.owner) (x.front ++ x.stretch ++ x.back) x.parts))

pub were_steps : Laws → ChainsKeepNumbers → ChecksTellNumbers → ChecksWereSteps
were_steps laws keep tell base logs trails lists txns fes done d s t place table most number it right at r h x checks =
    let k = found (WasCheck place table most number) x.front checks in
    has_number laws keep tell base logs trails lists txns fes done d s t it right at r h.of_tx x place table most number k.0 k.1 k.2
