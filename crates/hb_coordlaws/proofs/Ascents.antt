-- What ascends in a run: the transactions that are given, and the numbers that are decided.
use Rattle.std.proofs.Common.{◌≡◌, inl, inr, ℕ, ◌+◌, ◌<◌, ◌≤◌, List, [], ◌∷◌, ◌++◌, max, refl, sym, ◌∙◌, ap, subst, arith, append_assoc, append-nil}
use Rattle.std.specs.Prelude.{fold, Option, Some, None}
use Rattle.std.specs.Ordering.{nat_cmp}
use Rattle.std.specs.Cmp.{nat_cmp_is}
use Rattle.std.specs.declared.cmp.Ordering.TheVariants.{Less}
use Rattle.hb_types.specs.declared.answer.Answer.{Answer}
use Rattle.hb_types.specs.declared.answer.Answer.TheVariants as answer
use Rattle.hb_types.specs.declared.change.LogItem.{LogItem}
use Rattle.hb_types.specs.declared.request.Request.{Request}
use Rattle.hb_types.specs.declared.request.Request.TheVariants as request
use Rattle.hb_types.specs.Lists.{Ascends, Each}
use Rattle.hb_disks.specs.Redo.{Decided}
use Rattle.hb_disks.specs.Says.{decisions}
use Rattle.hb_disks.specs.StandsFor.{greatest_upto}
use Rattle.hb_disks.proofs.Fold.{decisions-append}
use Rattle.hb_runs.specs.Coordinator.{CState, CEffect, CRun, Causes, Reserves, Allowed, Steps, happens, reserved, begun, decided, ended, lost, came_up, greatest_number, next_upto}
use Rattle.hb_runs.specs.ServerRuns.{Asked}
use Rattle.hb_coordlaws.specs.Ascending.{given_by, given, TransactionsAscend, DecisionsGrow}
use Rattle.hb_coordlaws.proofs.Growing.{upto-ids, upto-decision, number-decision, decisions-ids}

below : (a b : ℕ) → a < b → nat_cmp a b ≡ Less
below a b lt = sym (nat_cmp_is a b Less lt)

-- ---- the next transaction never falls

record Goes (k t : CState) : Type 0 where
  is_reserved : t.next ≤ greatest_upto t.log + 1
  next : k.next ≤ t.next

effect_goes : (k : CState) (e : CEffect) → Allowed k e → k.next ≤ greatest_upto k.log + 1 → Goes k (happens k e)
effect_goes k (reserved upto) a r = let u : greatest_upto (k.log ++ _ ∷ []) ≡ max (greatest_upto k.log) upto = upto-ids k.log upto in record { is_reserved = omega (arith, u, r); next = omega arith }
effect_goes k (begun tx) a r = let is : tx ≡ k.next = a.0 in let le : tx ≤ greatest_upto k.log = a.1 in record { is_reserved = omega arith; next = omega arith }
effect_goes k (decided tx n nodes) a r = let u : greatest_upto (k.log ++ _ ∷ []) ≡ greatest_upto k.log = upto-decision k.log tx n nodes in record { is_reserved = omega (arith, u, r); next = omega arith }
effect_goes k (ended tx) a r = record { is_reserved = r; next = omega arith }
effect_goes k lost a r = record { is_reserved = omega arith; next = r }
effect_goes k came_up a r = record { is_reserved = omega arith; next = r }

steps_go : (k : CState) (es : List CEffect) (t : CState) → Steps k es t → k.next ≤ greatest_upto k.log + 1 → Goes k t
steps_go k [] t is r = subst (Goes k) is (record { is_reserved = r; next = omega arith })
steps_go k (e ∷ es) t is r =
    let one = effect_goes k e is.0 r in
    let rest = steps_go (happens k e) es t is.1 one.is_reserved in
    record { is_reserved = rest.is_reserved; next = omega (arith, one.next, rest.next) }

-- ---- each that is given is the next one

begun_last : (k : CState) (front : List CEffect) (tx : ℕ) (t : CState) → Reserves k front → Steps k (front ++ begun tx ∷ []) t → (tx ≡ k.next) × (t.next ≡ tx + 1)
begun_last k front tx t (inl (low, none)) is =
    let s : Steps k (begun tx ∷ []) t = subst (λ (f : List CEffect). Steps k (f ++ begun tx ∷ []) t) none is in (s.0.0, sym (ap (λ (x : CState). x.next) s.1))
begun_last k front tx t (inr (high, one)) is =
    let s : Steps k (reserved (next_upto k) ∷ begun tx ∷ []) t = subst (λ (f : List CEffect). Steps k (f ++ begun tx ∷ []) t) one is in (s.1.0.0, sym (ap (λ (x : CState). x.next) s.1.1))

abbrev GivesNext : CState → Option ℕ → CState → Type 0
GivesNext k None t = Unit {0}
GivesNext k (Some tx) t = (tx ≡ k.next) × (t.next ≡ tx + 1)

gives_next : (k t : CState) (q : Request) (a : Answer) (es : List CEffect) → Causes k q a es → Steps k es t → GivesNext k (given_by q a) t
gives_next k t (request.Begin owner) (answer.Begun tx) es causes steps =
    begun_last k causes.0 tx.0 t causes.1 (subst (λ (l : List CEffect). Steps k l t) causes.2 steps)
gives_next k t (request.Begin owner) _ es causes steps = tt
gives_next k t _ _ es causes steps = tt

-- ---- so they ascend

abbrev AscendFrom : ℕ → List ℕ → Type 0
AscendFrom low [] = Unit {0}
AscendFrom low (x ∷ xs) = (low ≤ x) × AscendFrom (x + 1) xs

from_lower : (low high : ℕ) (xs : List ℕ) → low ≤ high → AscendFrom high xs → AscendFrom low xs
from_lower low high [] le up = tt
from_lower low high (x ∷ xs) le up = (omega (arith, le, up.0), up.1)

pub from_one : (x : ℕ) (xs : List ℕ) → AscendFrom (x + 1) xs → Ascends nat_cmp (x ∷ xs)
from_one x [] up = tt
from_one x (y ∷ ys) up = (below x y (omega (arith, up.0)), from_one y ys up.1)

given_from : (k t : CState) (trail : List Asked) → k.next ≤ greatest_upto k.log + 1 → CRun k trail t → AscendFrom k.next (given trail)
given_from k t [] r run = tt
given_from k t (a ∷ trail) r run =
    let goes = steps_go k run.1.effects run.0 run.1.steps r in
    one (given_by a.request a.answer) refl (gives_next k run.0 a.request a.answer run.1.effects run.1.causes run.1.steps) goes.next (given_from run.0 t trail goes.is_reserved run.2)
  where
    one : (o : Option ℕ) → given_by a.request a.answer ≡ o → GivesNext k o run.0 → k.next ≤ run.0.next → AscendFrom run.0.next (given trail)
        → AscendFrom k.next (given (a ∷ trail))
    one None e is le rest = rw e (from_lower k.next run.0.next (given trail) le rest)
    one (Some tx) e is le rest = rw e (omega (arith, is.0), subst (λ n. AscendFrom n (given trail)) is.1 rest)

ascending : (xs : List ℕ) (low : ℕ) → AscendFrom low xs → Ascends nat_cmp xs
ascending [] low up = tt
ascending (x ∷ xs) low up = from_one x xs up.1

pub transactions_ascend : TransactionsAscend
transactions_ascend k t trail r run = ascending (given trail) k.next (given_from k t trail r run)

-- ---- decisions

abbrev NumbersFrom : ℕ → List Decided → Type 0
NumbersFrom low [] = Unit {0}
NumbersFrom low (d ∷ ds) = (low ≤ d.number) × NumbersFrom (d.number + 1) ds

-- the decisions of a log that has grown
record Grown (old new : List LogItem) : Type 0 where
  more : List Decided
  parts : decisions new ≡ decisions old ++ more
  up : NumbersFrom (greatest_number old + 1) more

-- with the same decisions
same_grown : (old mid new : List LogItem) → decisions mid ≡ decisions old → Grown mid new → Grown old new
same_grown old mid new same g = record {
  more = g.more;
  parts = g.parts ∙ ap (λ (ds : List Decided). ds ++ g.more) same;
  up = subst (λ (ds : List Decided). NumbersFrom (fold (λ (n : ℕ) (d : Decided). max n d.number) 0 ds + 1) g.more) same g.up;
}

effect_grows : (k : CState) (e : CEffect) (new : List LogItem) → Allowed k e → Grown (happens k e).log new → Grown k.log new
effect_grows k (reserved upto) new a g = same_grown k.log (happens k (reserved upto)).log new (decisions-ids k.log upto) g
effect_grows k (begun tx) new a g = g
effect_grows k (decided tx n nodes) new a g =
    let high : greatest_number (happens k (decided tx n nodes)).log ≡ max (greatest_number k.log) n = number-decision k.log tx n nodes in
    let above : greatest_number k.log < n = a.1 in
    let is : greatest_number (happens k (decided tx n nodes)).log ≡ n = omega (arith, high, above) in
    let one : Decided = record { tx = tx; number = n; nodes = nodes } in
    record {
      more = record { tx = tx; number = n; nodes = nodes } ∷ g.more;
      parts = g.parts ∙ ap (λ (ds : List Decided). ds ++ g.more) (decisions-append k.log _) ∙ append_assoc (decisions k.log) (record { tx = tx; number = n; nodes = nodes } ∷ []) g.more;
      up = (omega (arith, above), subst (λ (m : ℕ). NumbersFrom (m + 1) g.more) is g.up);
    }
effect_grows k (ended tx) new a g = g
effect_grows k lost new a g = g
effect_grows k came_up new a g = g

steps_grow : (k : CState) (es : List CEffect) (t : CState) (new : List LogItem) → Steps k es t → Grown t.log new → Grown k.log new
steps_grow k [] t new is g = subst (λ (x : CState). Grown x.log new) (sym is) g
steps_grow k (e ∷ es) t new is g = effect_grows k e new is.0 (steps_grow (happens k e) es t new is.1 g)

run_grows : (k t : CState) (trail : List Asked) → CRun k trail t → Grown k.log t.log
run_grows k t [] run = subst (λ (x : CState). Grown k.log x.log) run (record { more = []; parts = sym (append-nil (decisions k.log)); up = tt })
run_grows k t (a ∷ trail) run = steps_grow k run.1.effects run.0 t.log run.1.steps (run_grows run.0 t trail run.2)

all_above : (low : ℕ) (ds : List Decided) → NumbersFrom (low + 1) ds → Each (λ (d : Decided). low < d.number) ds
all_above low [] up = tt
all_above low (d ∷ ds) up = (omega (arith, up.0), from d.number ds (omega (arith, up.0)) up.1)
  where
    from : (n : ℕ) (ds : List Decided) → low < n → NumbersFrom (n + 1) ds → Each (λ (d : Decided). low < d.number) ds
    from n [] lt up = tt
    from n (e ∷ es) lt up = (omega (arith, lt, up.0), from e.number es (omega (arith, lt, up.0)) up.1)

numbers_up : (low : ℕ) (ds : List Decided) → NumbersFrom low ds → Ascends (λ (a b : Decided). nat_cmp a.number b.number) ds
numbers_up low [] up = tt
numbers_up low (d ∷ []) up = tt
numbers_up low (d ∷ e ∷ ds) up = (below d.number e.number (omega (arith, up.1.0)), numbers_up (d.number + 1) (e ∷ ds) up.1)

pub decisions_grow : DecisionsGrow
decisions_grow k t trail run =
    let g = run_grows k t trail run in
    (g.more, g.parts, all_above (greatest_number k.log) g.more g.up, numbers_up (greatest_number k.log + 1) g.more g.up)
