-- What stands in order at the coordinator is kept by what each request causes, so by each run.
use Rattle.std.proofs.Common.{◌≡◌, ◌≢◌, ◌⊎◌, ℕ, ◌+◌, ◌≤◌, ◌<◌, max, List, [], ◌∷◌, ◌++◌, refl, sym, ap, ◌∙◌, subst, arith, inl, inr}
use Rattle.std.specs.Prelude.{fold, ◌==◌}
use Rattle.std.specs.Ordering.{nat_cmp}
use Rattle.std.specs.Cmp.{nat_cmp_is}
use Rattle.std.specs.declared.cmp.Ordering.{Ordering}
use Rattle.std.specs.declared.cmp.Ordering.TheVariants.{Less}
use Rattle.std.proofs.lemmas.Bool.{eqb-false}
use Rattle.hb_types.specs.declared.answer.Answer.{Answer}
use Rattle.hb_types.specs.declared.answer.Answer.TheVariants as answer
use Rattle.hb_types.specs.declared.change.LogItem.{LogItem}
use Rattle.hb_types.specs.declared.names.NodeName.{NodeName}
use Rattle.hb_types.specs.declared.names.Owner.{Owner}
use Rattle.hb_types.specs.declared.names.Tx.{Tx}
use Rattle.hb_types.specs.declared.request.Request.{Request}
use Rattle.hb_types.specs.declared.request.Request.TheVariants as request
use Rattle.hb_types.specs.declared.request.Vote.{Vote}
use Rattle.hb_types.specs.Lists.{Ascends, Each}
use Rattle.hb_types.proofs.Ascending.{Each-append, Each-of, in_Each}
use Rattle.hb_types.proofs.PutLaws.{by_test}
use Rattle.hb_disks.specs.Redo.{Decided}
use Rattle.hb_disks.specs.Says.{decisions, uptos}
use Rattle.hb_disks.specs.StandsFor.{AreDecisions, TxApart, greatest_upto}
use Rattle.hb_disks.proofs.Fold.{decisions-append}
use Rattle.hb_runs.specs.Coordinator.{CState, CEffect, CTurns, Causes, Reserves, Allowed, Steps, happens, reserved, begun, decided, ended, lost, came_up, IsUndecided, without_active, ids_item, decision_item, greatest_number, stopped_at}
use Rattle.hb_runs.specs.ServerRuns.{Asked}
use Rattle.hb_coordlaws.specs.Order.{IsOrdered, StoppedIsOrdered, OrderIsKept}
use Rattle.hb_coordlaws.proofs.Growing.{uptos-append, upto-ids, uptos-decision, decisions-ids}

-- ---- lists

below : (a b : ℕ) → a < b → nat_cmp a b ≡ Less
below a b lt = sym (nat_cmp_is a b Less lt)

Ascends-last : {A : Type 0} (R : A → A → Ordering) (xs : List A) (y : A) → Ascends R xs → Each (λ x. R x y ≡ Less) xs → Ascends R (xs ++ y ∷ [])
Ascends-last R [] y a e = tt
Ascends-last R (x ∷ []) y a e = (e.0, tt)
Ascends-last R (x ∷ z ∷ zs) y a e = (a.0, Ascends-last R (z ∷ zs) y a.1 e.1)

TxApart-last : (ds : List Decided) (d : Decided) → TxApart ds → Each (λ e. e.tx ≢ d.tx) ds → TxApart (ds ++ d ∷ [])
TxApart-last [] d a e = (tt, tt)
TxApart-last (h ∷ ds) d a e = (Each-append (λ x. x.tx ≢ h.tx) ds (d ∷ []) a.0 ((λ q. e.0 (sym q)), tt), TxApart-last ds d a.1 e.1)

pub record Tops {A : Type 0} (f : A → ℕ) (n : ℕ) (xs : List A) : Type 0 where
  pub first : n ≤ fold (λ m x. max m (f x)) n xs
  pub all : Each (λ x. f x ≤ fold (λ m x. max m (f x)) n xs) xs

pub tops : {A : Type 0} (f : A → ℕ) (n : ℕ) (xs : List A) → Tops f n xs
tops f n [] = record { first = omega arith; all = tt }
tops f n (x ∷ xs) =
    let t = tops f (max n (f x)) xs in
    let h : max n (f x) ≤ fold (λ m x. max m (f x)) (max n (f x)) xs = t.first in
    record { first = omega (arith, h); all = (omega (arith, h), t.all) }

all_below : {A : Type 0} (f : A → ℕ) (m n : ℕ) (xs : List A) → m < n → Each (λ x. f x ≤ m) xs → Each (λ x. nat_cmp (f x) n ≡ Less) xs
all_below f m n xs lt e = Each-of (λ x. f x ≤ m) (λ x. nat_cmp (f x) n ≡ Less) xs (λ x h. below (f x) n (omega (arith, h, lt))) e

-- ---- each effect but a decision

abbrev IsActiveRight : CState → ℕ → Type 0
IsActiveRight k tx = (tx < k.next) × IsUndecided k tx

raised : (k : CState) (next : ℕ) → k.next ≤ next → Each (λ (d : Decided). d.tx < k.next) (decisions k.log) → Each (λ (d : Decided). d.tx < next) (decisions k.log)
raised k next le e = Each-of (λ d. d.tx < k.next) (λ d. d.tx < next) (decisions k.log) (λ d h. omega (arith, h, le)) e

left : (P : ℕ → Type 0) (tx : ℕ) (xs : List ℕ) → Each P xs → Each (λ x. P x × (x ≢ tx)) (without_active tx xs)
left P tx [] e = tt
left P tx (x ∷ xs) e = by_test (x == tx) (λ t. rw t (left P tx xs e.1)) (λ f. rw f ((e.0, eqb-false x tx f), left P tx xs e.1))

stopped : (k : CState) → IsOrdered k → IsOrdered (stopped_at k.log)
stopped k o =
    record { once = o.once; reservations = o.reservations; is_reserved = omega arith; given = raised k (greatest_upto k.log + 1) o.is_reserved o.given; active = tt }

reserves : (k : CState) (upto : ℕ) → greatest_upto k.log < upto → IsOrdered k → IsOrdered (happens k (reserved upto))
reserves k upto lt o =
    let same : decisions (k.log ++ ids_item upto ∷ []) ≡ decisions k.log = decisions-ids k.log upto in
    let top : greatest_upto (k.log ++ ids_item upto ∷ []) ≡ max (greatest_upto k.log) upto = upto-ids k.log upto in
    let r : k.next ≤ greatest_upto k.log + 1 = o.is_reserved in
    record {
      once = subst AreDecisions (sym same) o.once;
      reservations = subst (Ascends nat_cmp) (sym (uptos-append k.log (ids_item upto ∷ [])))
          (Ascends-last nat_cmp (uptos k.log) upto o.reservations (all_below (λ u. u) (greatest_upto k.log) upto (uptos k.log) lt (tops (λ u. u) 0 (uptos k.log)).all));
      is_reserved = omega (arith, top, r);
      given = subst (Each (λ (d : Decided). d.tx < k.next)) (sym same) o.given;
      active = subst (λ (ds : List Decided). Each (λ tx. (tx < k.next) × Each (λ d. d.tx ≢ tx) ds) k.active) (sym same) o.active;
    }

gives : (k : CState) (tx : ℕ) → tx ≡ k.next → tx ≤ greatest_upto k.log → IsOrdered k → IsOrdered (happens k (begun tx))
gives k tx is le o =
    record {
      once = o.once;
      reservations = o.reservations;
      is_reserved = omega (arith, le);
      given = raised k (tx + 1) (omega (arith, is)) o.given;
      active = ((omega arith, new), Each-of (IsActiveRight k) (λ t. (t < tx + 1) × IsUndecided k t) k.active (λ t h. (omega (arith, h.0, is), h.1)) o.active);
    }
  where
    new : IsUndecided k tx
    new = Each-of (λ d. d.tx < k.next) (λ d. d.tx ≢ tx) (decisions k.log) (λ d h e. omega (arith, h, e, is)) o.given

abbrev IsPlain : CEffect → Type 0
IsPlain (decided tx n nodes) = ⊥
IsPlain _ = Unit {0}

plain_step : (k : CState) (e : CEffect) → IsPlain e → Allowed k e → IsOrdered k → IsOrdered (happens k e)
plain_step k (reserved upto) p a o = reserves k upto a.0 o
plain_step k (begun tx) p a o = gives k tx a.0 a.1 o
plain_step k (decided tx n nodes) p a o = absurd p
plain_step k (ended tx) p a o =
    record {
      once = o.once;
      reservations = o.reservations;
      is_reserved = o.is_reserved;
      given = o.given;
      active = Each-of (λ t. IsActiveRight k t × (t ≢ tx)) (IsActiveRight k) (without_active tx k.active) (λ t h. h.0) (left (IsActiveRight k) tx k.active o.active);
    }
plain_step k lost p a o = stopped k o
plain_step k came_up p a o =
    let s = stopped k o in
    record { once = s.once; reservations = s.reservations; is_reserved = s.is_reserved; given = s.given; active = tt }

-- ---- a decision, and the end of its transaction

module _ (k : CState) (tx n : ℕ) (nodes : List NodeName) (a : Allowed k (decided tx n nodes)) (o : IsOrdered k) where
  one : Decided
  one = record { tx = tx; number = n; nodes = nodes }

  longer : List LogItem
  longer = k.log ++ decision_item tx n nodes ∷ []

  more : decisions (k.log ++ decision_item tx n nodes ∷ []) ≡ decisions k.log ++ record { tx = tx; number = n; nodes = nodes } ∷ []
  more = decisions-append k.log (decision_item tx n nodes ∷ [])

  its : IsActiveRight k tx
  its = in_Each (IsActiveRight k) tx k.active a.0 o.active

  once_more : AreDecisions (decisions (k.log ++ decision_item tx n nodes ∷ []))
  once_more = subst AreDecisions (sym more) (record {
    ascend = Ascends-last (λ x y. nat_cmp x.number y.number) (decisions k.log) _ o.once.ascend
        (all_below (λ (d : Decided). d.number) (greatest_number k.log) n (decisions k.log) a.1 (tops (λ (d : Decided). d.number) 0 (decisions k.log)).all);
    once = TxApart-last (decisions k.log) _ o.once.once its.1;
  })

  ups : uptos (k.log ++ decision_item tx n nodes ∷ []) ≡ uptos k.log
  ups = uptos-decision k.log tx n nodes

  given_more : Each (λ (d : Decided). d.tx < k.next) (decisions (k.log ++ decision_item tx n nodes ∷ []))
  given_more = subst (Each (λ (d : Decided). d.tx < k.next)) (sym more) (Each-append (λ (d : Decided). d.tx < k.next) (decisions k.log) _ o.given (its.0, tt))

  reserved_more : k.next ≤ greatest_upto (k.log ++ decision_item tx n nodes ∷ []) + 1
  reserved_more = subst (λ us. k.next ≤ fold max 0 us + 1) (sym ups) o.is_reserved

  others : (t : ℕ) → IsActiveRight k t × (t ≢ tx) → (t < k.next) × Each (λ (d : Decided). d.tx ≢ t) (decisions (k.log ++ decision_item tx n nodes ∷ []))
  others t h =
      (h.0.0, subst (Each (λ (d : Decided). d.tx ≢ t)) (sym more) (Each-append (λ (d : Decided). d.tx ≢ t) (decisions k.log) _ h.0.1 ((λ e. h.1 (sym e)), tt)))

  decided_ended : IsOrdered (happens (happens k (decided tx n nodes)) (ended tx))
  decided_ended =
      record {
        once = once_more;
        reservations = subst (Ascends nat_cmp) (sym ups) o.reservations;
        is_reserved = reserved_more;
        given = given_more;
        active = Each-of (λ t. IsActiveRight k t × (t ≢ tx)) _ (without_active tx k.active) others (left (IsActiveRight k) tx k.active o.active);
      }

  decided_lost : IsOrdered (happens (happens k (decided tx n nodes)) lost)
  decided_lost =
      record {
        once = once_more;
        reservations = subst (Ascends nat_cmp) (sym ups) o.reservations;
        is_reserved = omega arith;
        given = Each-of (λ (d : Decided). d.tx < k.next) _ (decisions (k.log ++ decision_item tx n nodes ∷ [])) (λ d h. omega (arith, h, reserved_more)) given_more;
        active = tt;
      }

-- ---- the effects of a request

-- behind a decision its transaction ends, or all that were active do
abbrev AreOrderly : List CEffect → Type 0
AreOrderly [] = Unit {0}
AreOrderly (decided tx n nodes ∷ es) = (es ≡ ended tx ∷ []) ⊎ (es ≡ lost ∷ [])
AreOrderly (reserved upto ∷ es) = AreOrderly es
AreOrderly (begun tx ∷ es) = AreOrderly es
AreOrderly (ended tx ∷ es) = AreOrderly es
AreOrderly (lost ∷ es) = AreOrderly es
AreOrderly (came_up ∷ es) = AreOrderly es

none_orderly : (es : List CEffect) → es ≡ [] → AreOrderly es
none_orderly es is = subst AreOrderly (sym is) tt

reserve_orderly : (k : CState) (es front : List CEffect) (tx : ℕ) → Reserves k front → es ≡ front ++ begun tx ∷ [] → AreOrderly es
reserve_orderly k es front tx (inl r) is = subst AreOrderly (sym (is ∙ ap (λ (f : List CEffect). f ++ begun tx ∷ []) r.1)) tt
reserve_orderly k es front tx (inr r) is = subst AreOrderly (sym (is ∙ ap (λ (f : List CEffect). f ++ begun tx ∷ []) r.1)) tt

reserves_orderly : (k : CState) (es : List CEffect) → Reserves k es → AreOrderly es
reserves_orderly k es (inl r) = subst AreOrderly (sym r.1) tt
reserves_orderly k es (inr r) = subst AreOrderly (sym r.1) tt

begin_orderly : (k : CState) (owner : Owner) (a : Answer) (es : List CEffect) → Causes k (request.Begin owner) a es → AreOrderly es
begin_orderly k owner (answer.Begun tx) es c = reserve_orderly k es c.0 tx.0 c.1 c.2
begin_orderly k owner (answer.Fault area) es (inl is) = subst AreOrderly (sym is) tt
begin_orderly k owner (answer.Fault area) es (inr is) = subst AreOrderly (sym is) tt
begin_orderly k owner answer.NoMemory es (inl is) = none_orderly es is
begin_orderly k owner answer.NoMemory es (inr r) = reserves_orderly k es r
begin_orderly k owner _ es is = none_orderly es is

decide_orderly : (k : CState) (tx : Tx) (votes : List Vote) (a : Answer) (es : List CEffect) → Causes k (request.Decide tx votes) a es → AreOrderly es
decide_orderly k tx votes (answer.Decided n) es is = subst AreOrderly (sym is) (inl refl)
decide_orderly k tx votes (answer.Fault area) es (inl is) = subst AreOrderly (sym is) tt
decide_orderly k tx votes (answer.Fault area) es (inr is) = subst AreOrderly (sym is) (inr refl)
decide_orderly k tx votes _ es is = none_orderly es is

abort_orderly : (k : CState) (tx : Tx) (a : Answer) (es : List CEffect) → Causes k (request.Abort tx) a es → AreOrderly es
abort_orderly k tx answer.Done es (inl h) = subst AreOrderly (sym h.1) tt
abort_orderly k tx answer.Done es (inr h) = none_orderly es h.1
abort_orderly k tx _ es is = none_orderly es is

stop_orderly : (k : CState) (a : Answer) (es : List CEffect) → Causes k request.Stop a es → AreOrderly es
stop_orderly k answer.Done es is = subst AreOrderly (sym is) tt
stop_orderly k _ es is = none_orderly es is

start_orderly : (k : CState) (a : Answer) (es : List CEffect) → Causes k request.Start a es → AreOrderly es
start_orderly k (answer.Started found) es is = subst AreOrderly (sym is) tt
start_orderly k answer.NoMemory es (inl is) = none_orderly es is
start_orderly k answer.NoMemory es (inr is) = subst AreOrderly (sym is) tt
start_orderly k _ es is = none_orderly es is

orderly : (k : CState) (q : Request) (a : Answer) (es : List CEffect) → Causes k q a es → AreOrderly es
orderly k (request.Begin owner) a es c = begin_orderly k owner a es c
orderly k (request.Decide tx votes) a es c = decide_orderly k tx votes a es c
orderly k (request.Abort tx) a es c = abort_orderly k tx a es c
orderly k request.Stop a es c = stop_orderly k a es c
orderly k request.Start a es c = start_orderly k a es c
orderly k _ a es c = none_orderly es c

-- ---- order is kept

made : (k : CState) (tx n : ℕ) (nodes : List NodeName) (es : List CEffect) (t : CState) → (es ≡ ended tx ∷ []) ⊎ (es ≡ lost ∷ [])
    → Steps k (decided tx n nodes ∷ es) t → IsOrdered k → IsOrdered t
made k tx n nodes es t (inl is) st o =
    let s : Steps (happens k (decided tx n nodes)) (ended tx ∷ []) t = subst (λ (l : List CEffect). Steps (happens k (decided tx n nodes)) l t) is st.1 in
    subst IsOrdered s.1 (decided_ended k tx n nodes st.0 o)
made k tx n nodes es t (inr is) st o =
    let s : Steps (happens k (decided tx n nodes)) (lost ∷ []) t = subst (λ (l : List CEffect). Steps (happens k (decided tx n nodes)) l t) is st.1 in
    subst IsOrdered s.1 (decided_lost k tx n nodes st.0 o)

steps_ordered : (k : CState) (es : List CEffect) (t : CState) → AreOrderly es → Steps k es t → IsOrdered k → IsOrdered t
steps_ordered k [] t h st o = subst IsOrdered st o
steps_ordered k (decided tx n nodes ∷ es) t h st o = made k tx n nodes es t h st o
steps_ordered k (reserved upto ∷ es) t h st o = steps_ordered (happens k (reserved upto)) es t h st.1 (plain_step k (reserved upto) tt st.0 o)
steps_ordered k (begun tx ∷ es) t h st o = steps_ordered (happens k (begun tx)) es t h st.1 (plain_step k (begun tx) tt st.0 o)
steps_ordered k (ended tx ∷ es) t h st o = steps_ordered (happens k (ended tx)) es t h st.1 (plain_step k (ended tx) tt st.0 o)
steps_ordered k (lost ∷ es) t h st o = steps_ordered (happens k lost) es t h st.1 (plain_step k lost tt st.0 o)
steps_ordered k (came_up ∷ es) t h st o = steps_ordered (happens k came_up) es t h st.1 (plain_step k came_up tt st.0 o)

pub turn_ordered : (k : CState) (a : Asked) (t : CState) → CTurns k a t → IsOrdered k → IsOrdered t
turn_ordered k a t turn o = steps_ordered k turn.effects t (orderly k a.request a.answer turn.effects turn.causes) turn.steps o

pub order_is_kept : OrderIsKept
order_is_kept k t [] o run = subst IsOrdered run o
order_is_kept k t (a ∷ more) o run = order_is_kept run.0 t more (turn_ordered k a run.0 run.1 o) run.2

pub stopped_is_ordered : StoppedIsOrdered
stopped_is_ordered log once ups given =
    record {
      once = once;
      reservations = ups;
      is_reserved = omega arith;
      given = Each-of (λ (d : Decided). d.tx ≤ greatest_upto log) (λ d. d.tx < greatest_upto log + 1) (decisions log) (λ d h. omega (arith, h)) given;
      active = tt;
    }
