-- Where a call of a decided transaction stands: at which server, before its Decide, and in that server's trail.
use Rattle.std.proofs.Common.{◌≡◌, ◌∙◌, ℕ, zero, suc, ◌+◌, ◌<◌, ◌≤◌, true, false, List, [], ◌∷◌, ◌++◌, Some, ap, append_assoc, append-nil, arith, inl, inr, length, map, refl, subst, sym}
use Rattle.std.specs.Prelude.{IsTrue, slice_get, nat_lt, ◌==◌}
use Rattle.std.specs.List.{list_any}
use Rattle.std.specs.Ordering.{nat_cmp}
use Rattle.std.specs.declared.cmp.Ordering.TheVariants.{Less}
use Rattle.std.proofs.lemmas.Bool.{eqb-false, lt-ltb, ltb-true}
use Rattle.std.proofs.lemmas.Cmp.{nat_cmp_total, on_total}
use Rattle.hb_types.specs.declared.change.LogItem.{LogItem}
use Rattle.hb_types.specs.declared.request.Vote.{Vote}
use Rattle.hb_types.specs.declared.trail.Call.{Call}
use Rattle.hb_types.specs.Lists.{Ascends, Each, Has, IsIn}
use Rattle.hb_types.proofs.Ascending.{Ascends-first, Ascends-tail, Each-of, Has-back, in_Each}
use Rattle.hb_types.proofs.PutLaws.{by_test}
use Rattle.hb_disks.specs.Images.{Logs}
use Rattle.hb_disks.specs.Redo.{Decided}
use Rattle.hb_disks.specs.Says.{below}
use Rattle.hb_disks.specs.StandsFor.{names_node}
use Rattle.hb_runs.specs.Coordinator as coordinator
use Rattle.hb_runs.specs.ServerRuns.{Asked}
use Rattle.hb_law.specs.Histories.{IsNode, Labelled, Trails, asked_by, asked_of, stands}
use Rattle.hb_law.specs.Transactions.{tx_asked}
use Rattle.hb_parts.specs.Callings.{Callings, IsOfSystem, tells_nothing}
use Rattle.hb_parts.specs.Courses.{AskNone}
use Rattle.hb_whose.proofs.Told.{Placed, before, behind, less_is, placed, same}
use Rattle.hb_whose.proofs.Trailing.{each_got, got, list_in_trail}

-- ---- the decisions below one

module _ (d : Decided) where
  below_all : (front : List Decided) → Each (λ x. x.number < d.number) front → (back : List Decided)
      → below d.number (front ++ back) ≡ front ++ below d.number back
  below_all [] e back = refl
  below_all (x ∷ xs) e back = let t : nat_lt x.number d.number ≡ true = lt-ltb x.number d.number e.0 in rw t (ap (λ l. x ∷ l) (below_all xs e.1 back))

  not_below : (m n : ℕ) → n ≤ m → nat_lt m n ≡ false
  not_below m n le = by_test (nat_lt m n) (λ t. absurd (clash (ltb-true m n t))) (λ f. f)
    where
      clash : m < n → ⊥
      clash lt = omega (arith, lt, le)

  below_none : (back : List Decided) → Each (λ x. d.number ≤ x.number) back → below d.number back ≡ []
  below_none [] e = refl
  below_none (x ∷ xs) e = let f : nat_lt x.number d.number ≡ false = not_below x.number d.number e.0 in rw f (below_none xs e.1)

  smaller : (front back : List Decided) → Ascends (λ a b. nat_cmp a.number b.number) (front ++ d ∷ back) → Each (λ x. x.number < d.number) front
  smaller [] back a = tt
  smaller (x ∷ xs) back a = (
    less_is x.number d.number (in_Each (λ y. nat_cmp x.number y.number ≡ Less) d (xs ++ d ∷ back) (Has-back (λ y. y ≡ d) xs (d ∷ back) (inl refl))
        (Ascends-first (λ a b. nat_cmp a.number b.number) (on_total (λ (z : Decided). z.number) nat_cmp_total) x (xs ++ d ∷ back) a)),
    smaller xs back (Ascends-tail (λ a b. nat_cmp a.number b.number) (on_total (λ (z : Decided). z.number) nat_cmp_total) x (xs ++ d ∷ back) a),
  )

  behind_tail : (front back : List Decided) → Ascends (λ a b. nat_cmp a.number b.number) (front ++ d ∷ back)
      → Ascends (λ a b. nat_cmp a.number b.number) (d ∷ back)
  behind_tail [] back a = a
  behind_tail (x ∷ xs) back a =
      behind_tail xs back (Ascends-tail (λ a b. nat_cmp a.number b.number) (on_total (λ (z : Decided). z.number) nat_cmp_total) x (xs ++ d ∷ back) a)

  pub below_front : (front back : List Decided) → Ascends (λ a b. nat_cmp a.number b.number) (front ++ d ∷ back) → below d.number (front ++ d ∷ back) ≡ front
  below_front front back a =
      below_all front (smaller front back a) (d ∷ back)
      ∙ ap (λ l. front ++ l) (below_none (d ∷ back) (
        omega arith,
        Each-of (λ y. nat_cmp d.number y.number ≡ Less) (λ y. d.number ≤ y.number) back (λ y h. over (less_is d.number y.number h))
            (Ascends-first (λ a b. nat_cmp a.number b.number) (on_total (λ (z : Decided). z.number) nat_cmp_total) d back (behind_tail front back a)),
      ))
      ∙ append-nil front
    where
      over : {y : ℕ} → d.number < y → d.number ≤ y
      over lt = omega (arith, lt)

-- ---- at a server

pub record AtServer (base logs : Logs) (trails : Trails) (node : ℕ) : Type 0 where
  pub place : ℕ
  pub is : node ≡ suc place
  pub before : List LogItem
  pub after : List LogItem
  pub trail : List Labelled
  pub got_before : slice_get base.servers place ≡ Some before
  pub got_after : slice_get logs.servers place ≡ Some after
  pub got_trail : slice_get trails (suc place) ≡ Some trail

in_crun : (s : coordinator.CState) (trail : List Asked) (t : coordinator.CState) (a : Asked) → coordinator.CRun s trail t → IsIn a trail
    → (u : coordinator.CState) × coordinator.Right u a.request a.answer
in_crun s [] t a r h = absurd h
in_crun s (b ∷ more) t a r (inl e) = (s, subst (λ z. coordinator.Right s z.request z.answer) e r.1.right)
in_crun s (b ∷ more) t a r (inr h) = in_crun r.0 more t a r.2 h

module _ (base logs : Logs) (trails : Trails) (lists : List (List Call)) (k : Callings base logs trails lists) (fes : List Labelled)
    (at : slice_get trails 0 ≡ Some fes) where
  in_parts : (j : ℕ) → suc j < length trails → j < length base.servers
  in_parts j lt = let n : length trails ≡ length base.servers + 1 = k.nodes.nodes in omega (arith, lt, n)

  -- a call whose answer tells something, and that fes1 doesn't answer so, is one of a server
  pub at_server : (c : ℕ) (list : List Call) (x : Call) → slice_get lists c ≡ Some list → IsIn x list → (IsTrue (tells_nothing x.answer) → ⊥)
      → stands (asked_by x) ≡ true
      → ((u : coordinator.CState) → coordinator.Right u x.request x.answer → ⊥) → AtServer base logs trails x.node.0
  at_server c list x h i tells st not_fes =
      by (in_Each (λ y. IsNode (length trails) y.node.0) x list i
      (each_got (λ l. Each (λ y. IsNode (length trails) y.node.0) l) lists c list k.merged.here h))
    where
      sys : IsOfSystem x
      sys = in_Each IsOfSystem x list i (each_got (λ l. Each IsOfSystem l) lists c list k.system h)

      here : (n : ℕ) → x.node.0 ≡ n → n < length trails → AtServer base logs trails n
      here zero e lt =
          let within = list_in_trail trails lists k.merged 0 c fes list x at h i e st in
          let right = in_crun _ (asked_of fes) (k.nodes.fes fes at).last (asked_by x) (k.nodes.fes fes at).ran within in
          absurd (not_fes right.0 right.1)
      here (suc j) e lt =
          let trail = got trails (suc j) lt in
          let before = got base.servers j (in_parts j lt) in
          let behind = got logs.servers j (subst (λ n. j < n) (sym k.nodes.same) (in_parts j lt)) in
          record { place = j; is = refl; before = before.0; after = behind.0; trail = trail.0; got_before = before.1; got_after = behind.1; got_trail = trail.1 }

      by : IsNode (length trails) x.node.0 → AtServer base logs trails x.node.0
      by (inl lt) = here x.node.0 refl lt
      by (inr m) = absurd (tells (sys.beside (inl m)))

-- ---- before the Decide

cancel : (xs ys zs : List Call) → xs ++ ys ≡ xs ++ zs → ys ≡ zs
cancel [] ys zs e = e
cancel (x ∷ xs) ys zs e = cancel xs ys zs (tails x (xs ++ ys) (xs ++ zs) e)
  where
    tails : (x : Call) (us vs : List Call) → x ∷ us ≡ x ∷ vs → us ≡ vs
    tails x us vs e = cc

-- a call that asks something of the transaction, and is not its Decide, stands before that
pub record Before (front : List Call) (done : List Call) (x : Call) : Type 0 where
  pub more : List Call
  pub parts : front ≡ done ++ x ∷ more

pub before_decide : (t : ℕ) (course front : List Call) (decide : Call) (back done : List Call) (x : Call) (rest : List Call) → course ≡ front ++ decide ∷ back
    → AskNone t back
    → course ≡ done ++ x ∷ rest → tx_asked x.request ≡ Some t → (x ≡ decide → ⊥) → Before front done x
before_decide t course front decide back done x rest p none q asks other = by (placed done x rest front decide back (sym q ∙ p))
  where
    by : Placed done x front decide → Before front done x
    by (same e) = absurd (other e)
    by (before m e) = record { more = m; parts = e }
    by (behind m e) =
        let tail : decide ∷ back ≡ decide ∷ (m ++ x ∷ rest) = cancel front (decide ∷ back) (decide ∷ (m ++ x ∷ rest))
        (sym p ∙ q ∙ ap (λ l. l ++ x ∷ rest) e ∙ append_assoc front (decide ∷ m) (x ∷ rest)) in
        absurd (in_Each (λ y. tx_asked y.request ≡ Some t → ⊥) x back
        (subst (IsIn x) (sym (cancel (decide ∷ []) back (m ++ x ∷ rest) tail)) (Has-back (λ y. y ≡ x) m (x ∷ rest) (inl refl))) none asks)

-- ---- nodes of votes

any_vote : (node : ℕ) (votes : List Vote) → Has (λ v. v.node.0 ≡ node) votes → list_any (λ n. n.0 == node) (map (λ (v : Vote). v.node) votes) ≡ true
any_vote node [] h = absurd h
any_vote node (v ∷ vs) (inl e) = let t : (v.node.0 == node) ≡ true = here v.node.0 e in rw t refl
  where
    here : (m : ℕ) → m ≡ node → (m == node) ≡ true
    here m e = by_test (m == node) (λ t. t) (λ f. absurd (eqb-false m node f e))
any_vote node (v ∷ vs) (inr h) = let r = any_vote node vs h in by_test (v.node.0 == node) (λ t. rw t refl) (λ f. rw f r)

pub named : (node : ℕ) (d : Decided) (votes : List Vote) → map (λ (v : Vote). v.node) votes ≡ d.nodes → Has (λ v. v.node.0 ≡ node) votes
    → IsTrue (names_node node d)
named node d votes e h = ap (λ l. list_any (λ n. n.0 == node) l) (sym e) ∙ any_vote node votes h
