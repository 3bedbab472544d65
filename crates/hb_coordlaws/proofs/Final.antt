-- Outcomes are final: kept by each effect, so by each run.
use Rattle.std.proofs.Common.{◌≡◌, ◌≢◌, ◌⊎◌, ℕ, ◌+◌, ◌≤◌, ◌<◌, true, false, max, List, [], ◌∷◌, ◌++◌, sym, subst, arith, inl, inr}
use Rattle.std.specs.Prelude.{fold, Bool, ◌==◌}
use Rattle.hb_types.specs.declared.answer.Answer.TheVariants as answer
use Rattle.hb_types.specs.declared.change.LogItem.{LogItem}
use Rattle.hb_types.specs.declared.request.Request.TheVariants as request
use Rattle.hb_types.specs.Lists.{Each, Has}
use Rattle.hb_types.proofs.Ascending.{Each-append, Has-front}
use Rattle.hb_types.proofs.PutLaws.{by_test}
use Rattle.hb_disks.specs.Redo.{Decided}
use Rattle.hb_disks.specs.Says.{decisions, uptos}
use Rattle.hb_disks.specs.StandsFor.{greatest_upto}
use Rattle.hb_disks.proofs.Fold.{decisions-append}
use Rattle.hb_runs.specs.Coordinator.{CState, CEffect, CRun, Allowed, Steps, RightIn, happens, reserved, begun, decided, ended, lost, came_up, IsActive, IsDecided, IsUndecided, without_active, ids_item, decision_item}
use Rattle.hb_coordlaws.proofs.Growing.{uptos-append}
use Rattle.hb_coordlaws.specs.Finality.{IsReserved, AbortedStays, DecidedStays, decided_outcome}
use Rattle.hb_runs.specs.ServerRuns.{Asked}

-- ---- uptos of a log that grows

fold_max : (n : ℕ) (xs ys : List ℕ) → fold max n xs ≤ fold max n (xs ++ ys)
fold_max n [] ys = above n ys
  where
    above : (n : ℕ) (ys : List ℕ) → n ≤ fold max n ys
    above n [] = omega arith
    above n (y ∷ ys) = let h = above (max n y) ys in omega arith
fold_max n (x ∷ xs) ys = fold_max (max n x) xs ys

pub upto_grows : (l m : List LogItem) → greatest_upto l ≤ greatest_upto (l ++ m)
upto_grows l m = subst (λ us. greatest_upto l ≤ fold max 0 us) (sym (uptos-append l m)) (fold_max 0 (uptos l) (uptos m))

-- ---- gone for good

-- begun or never to be, over, and not decided
pub record IsGone (k : CState) (tx : ℕ) : Type 0 where
  pub given : tx < k.next
  pub over : ¬ (IsActive k tx)
  pub undecided : IsUndecided k tx

pub record Stays (k : CState) (tx : ℕ) : Type 0 where
  pub is_reserved : IsReserved k
  pub gone : IsGone k tx

still : (t tx : ℕ) (xs : List ℕ) → Has (λ x. x ≡ tx) (without_active t xs) → Has (λ x. x ≡ tx) xs
still t tx [] h = h
still t tx (x ∷ xs) h =
    by_test (x == t)
    (λ e. let k : Has (λ y. y ≡ tx) (without_active t xs) = rw e at h in inr (still t tx xs k))
    (λ f. let k : Has (λ y. y ≡ tx) (x ∷ without_active t xs) = rw f at h in front x tx (without_active t xs) xs (still t tx xs) k)
  where
    front : (x tx : ℕ) (ys zs : List ℕ) → (Has (λ y. y ≡ tx) ys → Has (λ y. y ≡ tx) zs) → Has (λ y. y ≡ tx) (x ∷ ys) → Has (λ y. y ≡ tx) (x ∷ zs)
    front x tx ys zs f (inl e) = inl e
    front x tx ys zs f (inr k) = inr (f k)

grown : (k : CState) (tx : ℕ) (i : LogItem) → Each (λ (d : Decided). d.tx ≢ tx) (decisions (i ∷ [])) → Stays k tx → Stays (record k { log = k.log ++ i ∷ [] }) tx
grown k tx i e s =
    let up : greatest_upto k.log ≤ greatest_upto (k.log ++ i ∷ []) = upto_grows k.log (i ∷ []) in
    let r : k.next ≤ greatest_upto k.log + 1 = s.is_reserved in
    record {
      is_reserved = omega arith;
      gone = record {
        given = s.gone.given;
        over = s.gone.over;
        undecided = subst (Each (λ (d : Decided). d.tx ≢ tx)) (sym (decisions-append k.log (i ∷ []))) (Each-append _ (decisions k.log) (decisions (i ∷ [])) s.gone.undecided e);
      };
    }

step : (k : CState) (e : CEffect) (tx : ℕ) → Allowed k e → Stays k tx → Stays (happens k e) tx
step k (reserved upto) tx a s = grown k tx (ids_item upto) tt s
step k (begun t) tx a s =
    let next : t ≡ k.next = a.0 in
    let below : tx < k.next = s.gone.given in
    let low : t ≤ greatest_upto k.log = a.1 in
    record { is_reserved = omega arith; gone = record { given = omega arith; over = other next below; undecided = s.gone.undecided } }
  where
    other : t ≡ k.next → tx < k.next → (t ≡ tx) ⊎ IsActive k tx → ⊥
    other n b (inl e) = omega arith
    other n b (inr h) = s.gone.over h
step k (decided t n nodes) tx a s = grown k tx (decision_item t n nodes) ((λ e. s.gone.over (subst (IsActive k) e a.0)), tt) s
step k (ended t) tx a s =
    record { is_reserved = s.is_reserved; gone = record { given = s.gone.given; over = λ h. s.gone.over (still t tx k.active h); undecided = s.gone.undecided } }
step k lost tx a s =
    let r : k.next ≤ greatest_upto k.log + 1 = s.is_reserved in
    let below : tx < k.next = s.gone.given in
    record { is_reserved = omega arith; gone = record { given = omega arith; over = λ h. h; undecided = s.gone.undecided } }
step k came_up tx a s =
    let r : k.next ≤ greatest_upto k.log + 1 = s.is_reserved in
    let below : tx < k.next = s.gone.given in
    record { is_reserved = omega arith; gone = record { given = omega arith; over = λ h. h; undecided = s.gone.undecided } }

steps : (k : CState) (es : List CEffect) (t : CState) (tx : ℕ) → Steps k es t → Stays k tx → Stays t tx
steps k [] t tx h s = subst (λ x. Stays x tx) h s
steps k (e ∷ es) t tx h s = steps (happens k e) es t tx h.1 (step k e tx h.0 s)

pub runs : (k : CState) (asked : List Asked) (t : CState) (tx : ℕ) → CRun k asked t → Stays k tx → Stays t tx
runs k [] t tx h s = subst (λ x. Stays x tx) h s
runs k (a ∷ more) t tx h s = runs h.0 more t tx h.2 (steps k h.1.effects h.0 tx h.1.steps s)

gone_by : (up : Bool) (k : CState) (tx : ℕ) → RightIn up k (request.Outcome (record { 0 = tx })) answer.Aborted → IsGone k tx
gone_by true k tx r = record { given = r.2; over = r.1; undecided = r.0 }
gone_by false k tx r = absurd r

pub aborted_stays : AbortedStays
aborted_stays k t tx more res run =
    (runs h more t tx run.2 (steps k run.1.effects h tx run.1.steps (record { is_reserved = res; gone = gone_by k.up k tx run.1.right }))).gone.undecided
  where
    h : CState
    h = run.0

-- ---- decided for good

longer : (k : CState) (tx n : ℕ) (i : LogItem) → IsDecided k tx n → IsDecided (record k { log = k.log ++ i ∷ [] }) tx n
longer k tx n i d =
    subst (Has (λ (d : Decided). (d.tx ≡ tx) × (d.number ≡ n))) (sym (decisions-append k.log (i ∷ []))) (Has-front _ (decisions k.log) (decisions (i ∷ [])) d)

kept : (k : CState) (e : CEffect) (tx n : ℕ) → IsDecided k tx n → IsDecided (happens k e) tx n
kept k (reserved upto) tx n d = longer k tx n (ids_item upto) d
kept k (begun t) tx n d = d
kept k (decided t m nodes) tx n d = longer k tx n (decision_item t m nodes) d
kept k (ended t) tx n d = d
kept k lost tx n d = d
kept k came_up tx n d = d

steps_kept : (k : CState) (es : List CEffect) (t : CState) (tx n : ℕ) → Steps k es t → IsDecided k tx n → IsDecided t tx n
steps_kept k [] t tx n h d = subst (λ x. IsDecided x tx n) h d
steps_kept k (e ∷ es) t tx n h d = steps_kept (happens k e) es t tx n h.1 (kept k e tx n d)

pub runs_kept : (k : CState) (asked : List Asked) (t : CState) (tx n : ℕ) → CRun k asked t → IsDecided k tx n → IsDecided t tx n
runs_kept k [] t tx n h d = subst (λ x. IsDecided x tx n) h d
runs_kept k (a ∷ more) t tx n h d = runs_kept h.0 more t tx n h.2 (steps_kept k h.1.effects h.0 tx n h.1.steps d)

decided_by : (up : Bool) (k : CState) (tx n : ℕ) → RightIn up k (request.Outcome (record { 0 = tx })) (answer.Decided (record { 0 = n })) → IsDecided k tx n
decided_by true k tx n r = r
decided_by false k tx n r = absurd r

pub decided_stays : DecidedStays
decided_stays k t tx n more run = runs_kept k (decided_outcome tx n ∷ more) t tx n run (decided_by k.up k tx n run.1.right)
