-- The coordinator's log stays right, and what it reserved.
use Rattle.std.proofs.Common.{◌≡◌, ◌∙◌, ℕ, zero, suc, ◌≤◌, true, List, [], ◌∷◌, ◌++◌, Option, Some, None, ap, arith, inl, inr, refl, subst, sym}
use Rattle.std.specs.Prelude.{slice_get}
use Rattle.hb_types.specs.declared.answer.Answer.{Answer}
use Rattle.hb_types.specs.declared.answer.Answer.TheVariants as answer
use Rattle.hb_types.specs.declared.change.LogItem.{LogItem}
use Rattle.hb_types.specs.declared.change.LogItem.TheVariants as item
use Rattle.hb_types.specs.declared.request.Request.{Request}
use Rattle.hb_types.specs.declared.request.Request.TheVariants as request
use Rattle.hb_types.specs.declared.trail.Call.{Call}
use Rattle.hb_types.specs.Lists.{Each, IsIn}
use Rattle.hb_disks.specs.Images.{Logs}
use Rattle.hb_disks.specs.Says.{decisions}
use Rattle.hb_disks.specs.StandsFor.{AllReserved, greatest_upto}
use Rattle.hb_runs.specs.Coordinator as coordinator
use Rattle.hb_runs.specs.ServerRuns.{Asked}
use Rattle.hb_law.specs.Histories.{Labelled, Trails, asked_of}
use Rattle.hb_coordlaws.specs.Ascending.{given, given_by}
use Rattle.hb_coordlaws.specs.Order as order
use Rattle.hb_parts.specs.Callings.{Callings}
use Rattle.hb_whose.proofs.Parts.{stands_at}

-- ---- lists by their look-ups

pub each_by : {A : Type 0} (P : A → Type 0) (xs : List A) → ((i : ℕ) (x : A) → slice_get xs i ≡ Some x → P x) → Each P xs
each_by P [] f = tt
each_by P (x ∷ xs) f = (f zero x refl, each_by P xs (λ i y h. f (suc i) y h))

-- ---- the coordinator's run in parts

pub crun_parts : (k : coordinator.CState) (front back : List Asked) (t : coordinator.CState) → coordinator.CRun k (front ++ back) t
    → (u : coordinator.CState) × coordinator.CRun k front u × coordinator.CRun u back t
crun_parts k [] back t r = (k, refl, r)
crun_parts k (a ∷ front) back t r = let p = crun_parts r.0 front back t r.2 in (p.0, (r.0, r.1, p.1), p.2)

decision_reserved : (upto : ℕ) (log : List LogItem) → AllReserved upto log → Each (λ d. d.tx ≤ upto) (decisions log)
decision_reserved upto [] e = tt
decision_reserved upto (item.Decision tx n nodes ∷ is) e = (e.0, decision_reserved upto is e.1)
decision_reserved upto (item.Prepare tx floor locks changes ∷ is) e = decision_reserved upto is e.1
decision_reserved upto (item.Commit tx n ∷ is) e = decision_reserved upto is e.1
decision_reserved upto (item.Abort tx ∷ is) e = decision_reserved upto is e.1
decision_reserved upto (item.Ids m ∷ is) e = decision_reserved upto is e.1

pub record FesLaws : Type 0 where
  pub stopped : order.StoppedIsOrdered
  pub kept : order.OrderIsKept
  pub log_kept : order.LogIsKept
  pub reserved : order.GivenIsReserved

given_is : (q : Request) (a : Answer) (t : ℕ) → given_by q a ≡ Some t
    → (o : Rattle.hb_types.specs.declared.names.Owner.Owner) × (record { request = q; answer = a } ≡ order.begun_as o t)
given_is (request.Begin o) (answer.Begun tx) t e = (o, ap (λ z. order.begun_as o z) (some_is tx.0 t e))
  where
    some_is : (x y : ℕ) → Some x ≡ Some y → x ≡ y
    some_is x y h = cc
given_is (request.Begin o) a t e = absurd (none_some t e)
  where
    none_some : (y : ℕ) → None ≡ Some y → ⊥
    none_some y h = cc
given_is q a t e = absurd (none_some t e)
  where
    none_some : (y : ℕ) → None ≡ Some y → ⊥
    none_some y h = cc

-- the entry that gave a transaction
pub gave : (t : ℕ) (trail : List Asked) → IsIn t (given trail) → (a : Asked) × IsIn a trail × (given_by a.request a.answer ≡ Some t)
gave t [] i = absurd i
gave t (a ∷ more) i = by (given_by a.request a.answer) refl (λ j. gave t more j)
  where
    by : (o : Option ℕ) → given_by a.request a.answer ≡ o → (IsIn t (given more) → (b : Asked) × IsIn b more × (given_by b.request b.answer ≡ Some t))
        → (b : Asked) × IsIn b (a ∷ more) × (given_by b.request b.answer ≡ Some t)
    by None e rest = let b = rest (rw e at i) in (b.0, inr b.1, b.2)
    by (Some u) e rest = first (rw e at i)
      where
        first : IsIn t (u ∷ given more) → (b : Asked) × IsIn b (a ∷ more) × (given_by b.request b.answer ≡ Some t)
        first (inl q) = (a, inl refl, e ∙ ap (λ z. Some z) q)
        first (inr j) = let b = rest j in (b.0, inr b.1, b.2)

module _ (laws : FesLaws) (base logs : Logs) (trails : Trails) (lists : List (List Call)) (k : Callings base logs trails lists) (fes : List Labelled)
    (at : slice_get trails 0 ≡ Some fes) where
  abbrev last : coordinator.CState
  last = (k.nodes.fes fes at).last

  pub start_ordered : order.IsOrdered (coordinator.stopped_at base.fes)
  start_ordered =
      laws.stopped base.fes k.right.decisions k.right.transaction_numbers.uptos_ascend
      (decision_reserved (greatest_upto base.fes) base.fes k.right.transaction_numbers.fes)

  pub ordered : order.IsOrdered (k.nodes.fes fes at).last
  ordered = laws.kept (coordinator.stopped_at base.fes) (k.nodes.fes fes at).last (asked_of fes) start_ordered (k.nodes.fes fes at).ran

  pub of_coordinator : order.IsOfCoordinator (k.nodes.fes fes at).last.log
  of_coordinator =
      laws.log_kept (coordinator.stopped_at base.fes) (k.nodes.fes fes at).last (asked_of fes) start_ordered
      (record { own = k.right.log_grammar.fes; reserved = k.right.transaction_numbers.fes; room = k.right.log_grammar.fes_room }) (k.nodes.fes fes at).ran

  -- what was reserved stays so, and what was given is
  pub upto_stays : greatest_upto base.fes ≤ greatest_upto logs.fes
  upto_stays =
      subst (λ l. greatest_upto base.fes ≤ greatest_upto l) (sym (k.nodes.fes fes at).log)
      (laws.reserved (record { log = base.fes; next = greatest_upto base.fes; active = []; up = true }) (k.nodes.fes fes at).last
      (record { session = 0; nth = 0 }) (greatest_upto base.fes)
      (record { request = request.Stop; answer = answer.Done } ∷ asked_of fes) (
        coordinator.happens (record { log = base.fes; next = greatest_upto base.fes; active = []; up = true }) (coordinator.begun (greatest_upto base.fes)),
        record {
          effects = coordinator.begun
              (greatest_upto base.fes) ∷ [];
          causes = ([], inl (omega arith, refl), refl);
          right = refl;
          steps = ((refl, omega arith), refl);
        },
        (coordinator.stopped_at base.fes, record { effects = coordinator.lost ∷ []; causes = refl; right = tt; steps = (tt, refl) }, (k.nodes.fes fes at).ran),
      ))

  pub given_reserved : (t : ℕ) → IsIn t (given (asked_of fes)) → t ≤ greatest_upto logs.fes
  given_reserved t i =
      let a = gave t (asked_of fes) i in
      let s = stands_at a.0 (asked_of fes) a.1 in
      let o = given_is a.0.request a.0.answer t a.2 in
      let r = crun_parts (coordinator.stopped_at base.fes) s.front (a.0 ∷ s.back) (k.nodes.fes fes at).last
      (subst (λ l. coordinator.CRun (coordinator.stopped_at base.fes) l (k.nodes.fes fes at).last) s.parts (k.nodes.fes fes at).ran) in
      subst (λ l. t ≤ greatest_upto l) (sym (k.nodes.fes fes at).log)
      (laws.reserved r.0 (k.nodes.fes fes at).last o.0 t s.back (subst (λ z. coordinator.CRun r.0 (z ∷ s.back) (k.nodes.fes fes at).last) o.1 r.2))
