-- Each decision is a step from the state before, from the base on.
use Rattle.std.proofs.Common.{◌≡◌, ◌≢◌, ◌⊎◌, ◌∙◌, ℕ, ◌+◌, ◌-◌, List, [], ◌∷◌, ◌++◌, Some, ap, append_assoc, append-nil, arith, inl, inr, length, map, refl, subst, sym}
use Rattle.std.specs.Prelude.{IsTrue, slice_get}
use Rattle.hb_types.specs.Lists.{Each, IsIn}
use Rattle.hb_types.specs.declared.trail.Call.{Call}
use Rattle.hb_types.proofs.Ascending.{Has-front, in_Each}
use Rattle.hb_model.specs.Items.{Doing, Item, calls_of, nothing_spent, sql, tending, turn}
use Rattle.hb_model.specs.Answers.{AnswersOf, HasAsked, afters, is_decide}
use Rattle.hb_law.specs.RunAlone.{RunsAlone, StepsAs}
use Rattle.hb_model.specs.State.{State}
use Rattle.hb_model.specs.System.{Sys}
use Rattle.hb_disks.specs.Images.{Logs, decided, family}
use Rattle.hb_disks.specs.Redo.{Decided}
use Rattle.hb_disks.specs.StandsFor.{AreLogs, StateAfter, TxApart, back_ends}
use Rattle.hb_law.specs.Histories.{Labelled, Trails}
use Rattle.hb_law.specs.Transactions.{AllAnswered, AllAsk, AreRight, IsOfStatements, IsRightTxn, IsTurning, IsTxnOf, Txn}
use Rattle.hb_alone.specs.RunThrough.{RightItemsRunAlone}
use Rattle.hb_parts.specs.Owning.{AskedOfGiven, GivenAreNew}
use Rattle.hb_parts.specs.Rows.{BaseStays, OneSystem}
use Rattle.hb_parts.specs.Turning.{TurnsStep}
use Rattle.hb_parts.specs.Txns.{AreDecidedCalls, Chain, DecidedRunThrough, HasItems, Itemed, NewHaveItems, Step}
use Rattle.hb_parts.specs.Voting.{IsNewDecision, NewAreDecided, ServersRan}
use Rattle.hb_loglaws.proofs.Members.{Has-in}
use Rattle.hb_whose.proofs.Parts.{is_there}
use Rattle.hb_whose.proofs.Trailing.{got}

pub record Laws : Type 0 where
  pub alone : RightItemsRunAlone
  pub stays : BaseStays
  pub one : OneSystem
  pub through : DecidedRunThrough
  pub items : NewHaveItems
  pub decided : NewAreDecided
  pub servers : ServersRan
  pub asked : AskedOfGiven
  pub news : GivenAreNew
  pub turns : TurnsStep

turning : (w : Doing) → IsTurning w → (table : List ℕ) × (most : ℕ) × (w ≡ turn table most)
turning (turn table most) h = (table, most, refl)
turning (sql st) h = absurd h
turning tending h = absurd h

twice : (xs : List Decided) (d : Decided) (ys : List Decided) → TxApart (xs ++ d ∷ ys) → IsIn d xs → ⊥
twice [] d ys a i = i
twice (x ∷ xs) d ys a (inl e) = in_Each (λ z. z.tx ≢ x.tx) d (xs ++ d ∷ ys) (there xs) a.0 (ap (λ z. z.tx) (sym e))
  where
    there : (xs : List Decided) → IsIn d (xs ++ d ∷ ys)
    there [] = inl refl
    there (z ∷ zs) = inr (there zs)
twice (x ∷ xs) d ys a (inr i) = twice xs d ys a.1 i

-- a step from the same rows and the same state
moved : (logs : Logs) (txns : List Txn) (f g : List Decided) (d : Decided) (t s : State) → f ≡ g → t ≡ s → (k : Step logs txns f d t)
    → (x : Step logs txns g d s) × (x.after ≡ k.after)
moved logs txns f g d t s e q k = (
  record {
    txn = k.txn;
    known = k.known;
    of_tx = k.of_tx;
    after = k.after;
    at_after = subst (λ l. StateAfter logs (l ++ d ∷ []) k.after) e k.at_after;
    steps = subst (λ z. StepsAs (back_ends logs) k.txn.items z k.after (family logs g) (family logs (g ++ d ∷ []))) q
        (subst (λ l. StepsAs (back_ends logs) k.txn.items t k.after (family logs l) (family logs (l ++ d ∷ []))) e k.steps);
  },
  refl,
)

-- a step more behind a chain
chain_more : (logs : Logs) (txns : List Txn) (front : List Decided) (s : State) (ds : List Decided) (t : State) (d : Decided) (f : List Decided)
    → Chain logs txns front s ds t → f ≡ front ++ ds
    → (k : Step logs txns f d t) → Chain logs txns front s (ds ++ d ∷ []) k.after
chain_more logs txns front s [] t d f c e k = moved logs txns f front d t s (e ∙ append-nil front) (sym c) k
chain_more logs txns front s (x ∷ xs) t d f c e k =
    (c.0, chain_more logs txns (front ++ x ∷ []) c.0.after xs t d f c.1 (e ∙ sym (append_assoc front (x ∷ []) xs)) k)

asks_decide : (d : Decided) (calls : List Call) → AreDecidedCalls d calls → HasAsked is_decide calls
asks_decide d calls k =
    subst (HasAsked is_decide) (sym k.parts)
    (Has-in (λ c. IsTrue (is_decide c.request)) k.decide (k.front ++ k.decide ∷ k.back) (is_there k.decide k.front k.back) (ap is_decide k.asked))

module _ (laws : Laws) (base logs : Logs) (trails : Trails) (lists : List (List Item)) (txns : List Txn) (it : Itemed base logs trails lists txns)
    (right : AreLogs logs) (fes : List Labelled)
    (at : slice_get trails 0 ≡ Some fes) (start : State) (at_start : StateAfter logs (decided base) start) where
  same_ends : back_ends base ≡ back_ends logs
  same_ends = ap (λ n. n - 1) (sym it.callings.nodes.same)

  one_step : (done rest : List Decided) (d : Decided) (s : State) → decided logs ≡ (decided base ++ done) ++ d ∷ rest
      → Chain logs txns (decided base) start done s
      → StateAfter logs (decided base ++ done) s → Step logs txns (decided base ++ done) d s
  one_step done rest d s e c now =
      by (laws.decided base logs trails (map calls_of lists) fes d it.callings at (subst (IsIn d) (sym e) (there (decided base ++ done))))
    where
      there : (xs : List Decided) → IsIn d (xs ++ d ∷ rest)
      there [] = inl refl
      there (z ∷ zs) = inr (there zs)

      of_kind : (t : Txn) → HasItems logs txns (decided base ++ done) d t → IsTxnOf lists t
          → (Each (λ i. IsOfStatements i.doing) t.items × AllAnswered t.items) ⊎ ((i : Item) × (t.items ≡ i ∷ []) × IsTurning i.doing)
          → AreRight (back_ends base) nothing_spent t.items
          → Step logs txns (decided base ++ done) d s
      of_kind t h x (inl k) r =
          let through = laws.through (back_ends base) d x.first x.others (subst (AreRight (back_ends base) nothing_spent) x.items r)
          (subst (Each (λ i. IsOfStatements i.doing)) x.items k.0)
          (subst AllAnswered x.items k.1) (subst (λ u. AllAsk u x.first.calls x.others) h.of_tx x.asked)
          (subst (λ l. AreDecidedCalls d (calls_of l)) x.items h.calls) in
          let run = laws.alone (back_ends base) (x.first ∷ x.others) (family logs (decided base ++ done)) s
          (subst (λ n. Sys n (family logs (decided base ++ done)) s) (sym same_ends) now) through.0
          (subst (λ l. AnswersOf (family logs (decided base ++ done)) (calls_of l)) x.items h.rows.answers) in
          let left : afters (family logs (decided base ++ done)) (calls_of (x.first ∷ x.others)) ≡ family logs ((decided base ++ done) ++ d ∷ []) = ap
          (λ l. afters (family logs (decided base ++ done)) (calls_of l)) (sym x.items) ∙ h.rows.after in
          record {
            txn = t;
            known = h.known;
            of_tx = h.of_tx;
            after = run.0;
            at_after =
                subst (λ n. Sys n (family logs ((decided base ++ done) ++ d ∷ [])) run.0) same_ends (subst (λ f. Sys (back_ends base) f run.0) left run.1);
            steps = inl (k.0, subst (λ n. RunsAlone n t.items s run.0) same_ends (subst (λ l. RunsAlone (back_ends base) l s run.0) (sym x.items) run.2));
          }
      of_kind t h x (inr k) r =
          let w = turning k.0.doing k.2 in
          let step = laws.turns base logs trails lists txns fes done d s t k.0 w.0 w.1 it right at
          (record { start = start; rest = rest; parts = e; chain = c; at_start = at_start; now = now }) h k.1 w.2 in
          record { txn = t; known = h.known; of_tx = h.of_tx; after = step.0; at_after = step.1; steps = inr (w.0, w.1, k.0, k.1, w.2, step.2) }

      by : IsIn d (decided base) ⊎ IsNewDecision trails (map calls_of lists) fes d → Step logs txns (decided base ++ done) d s
      by (inl i) = absurd (twice (decided base ++ done) d rest (subst TxApart e right.decisions.once) (Has-front (λ y. y ≡ d) (decided base) done i))
      by (inr nd) =
          let fam = laws.one laws.servers base logs trails (map calls_of lists) fes (decided base ++ done) rest d it.callings right at e nd in
          let h = laws.items base logs trails lists txns fes (decided base ++ done) rest d it right at e nd fam in
          let r = in_Each (IsRightTxn (back_ends base)) h.0 txns h.1.known it.right in
          of_kind h.0 h.1 (in_Each (IsTxnOf lists) h.0 txns h.1.known it.txns_are.each) r.kinds
          (r.right (asks_decide d (calls_of h.0.items) h.1.calls) (family logs (decided base ++ done), s, subst (λ n. Sys n (family logs (decided base ++ done)) s) (sym same_ends) now, h.1.rows.answers))

  go : (done rest : List Decided) (s : State) → decided logs ≡ (decided base ++ done) ++ rest → Chain logs txns (decided base) start done s
      → StateAfter logs (decided base ++ done) s
      → (last : State) × StateAfter logs (decided logs) last × Chain logs txns (decided base ++ done) s rest last
  go done [] s e c now = (s, subst (λ ds. StateAfter logs ds s) (sym (e ∙ append-nil (decided base ++ done))) now, refl)
  go done (d ∷ ds) s e c now =
      let k = one_step done ds d s e c now in
      let same : (decided base ++ done) ++ d ∷ [] ≡ decided base ++ (done ++ d ∷ []) = append_assoc (decided base) done (d ∷ []) in
      let rest = go (done ++ d ∷ []) ds k.after (e ∙ sym (append_assoc (decided base ++ done) (d ∷ []) ds) ∙ ap (λ l. l ++ ds) same)
      (chain_more logs txns (decided base) start done s d (decided base ++ done) c refl k)
      (subst (λ l. StateAfter logs l k.after) same k.at_after) in
      (rest.0, rest.1, (k, subst (λ l. Chain logs txns l k.after ds rest.0) (sym same) rest.2))

pub chained : (laws : Laws) (base logs : Logs) (trails : Trails) (lists : List (List Item)) (txns : List Txn) (further : List Decided) (start : State)
    → Itemed base logs trails lists txns → AreLogs logs
    → decided logs ≡ decided base ++ further → StateAfter base (decided base) start
    → (last : State) × StateAfter logs (decided base) start × StateAfter logs (decided logs) last × Chain logs txns (decided base) start further last
chained laws base logs trails lists txns further start it right e stood =
    let n : length trails ≡ length base.servers + 1 = it.callings.nodes.nodes in
    let fes = got trails 0 (omega (arith, n)) in
    let same : back_ends base ≡ back_ends logs = ap (λ n. n - 1) (sym it.callings.nodes.same) in
    let here : StateAfter logs (decided base) start = subst (λ f. Sys (back_ends logs) f start)
    (sym (laws.stays laws.asked laws.news base logs trails (map calls_of lists) it.callings))
    (subst (λ n. Sys n (family base (decided base)) start) same stood) in
    let nil : decided base ++ [] ≡ decided base = append-nil (decided base) in
    let k = go laws base logs trails lists txns it right fes.0 fes.1 start here [] further start (e ∙ ap (λ l. l ++ further) (sym nil)) refl
    (subst (λ l. StateAfter logs l start) (sym nil) here) in
    (k.0, here, k.1, subst (λ l. Chain logs txns l start further k.0) nil k.2)
