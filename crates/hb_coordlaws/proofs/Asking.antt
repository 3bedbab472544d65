-- Decisions are of Decides, and of transactions that were given.
use Rattle.std.proofs.Common.{◌≡◌, ◌⊎◌, ℕ, ◌+◌, ◌≤◌, ◌<◌, Bool, true, false, max, List, [], ◌∷◌, ◌++◌, refl, sym, ap, ◌∙◌, subst, arith, inl, inr}
use Rattle.std.specs.Prelude.{◌==◌, Option, Some, None, ⊤}
use Rattle.hb_types.specs.declared.answer.Answer.{Answer}
use Rattle.hb_types.specs.declared.answer.Answer.TheVariants as answer
use Rattle.hb_types.specs.declared.names.NodeName.{NodeName}
use Rattle.hb_types.specs.declared.names.Owner.{Owner}
use Rattle.hb_types.specs.declared.names.Tx.{Tx}
use Rattle.hb_types.specs.declared.request.Request.{Request}
use Rattle.hb_types.specs.declared.request.Request.TheVariants as request
use Rattle.hb_types.specs.declared.request.Vote.{Vote}
use Rattle.hb_types.specs.Lists.{Each, Has, IsIn}
use Rattle.hb_types.proofs.Ascending.{Each-of, Each-append, Each-in, in_Each}
use Rattle.hb_types.proofs.PutLaws.{by_test}
use Rattle.hb_disks.specs.Redo.{Decided}
use Rattle.hb_disks.specs.Says.{decisions}
use Rattle.hb_disks.proofs.Fold.{decisions-append}
use Rattle.hb_runs.specs.Coordinator.{CState, CEffect, CRun, Causes, Reserves, Right, RightIn, Allowed, Steps, happens, reserved, begun, decided, ended, lost, came_up, without_active, decision_item, next_number, greatest_number, greatest_floor}
use Rattle.hb_runs.specs.ServerRuns.{Asked}
use Rattle.hb_coordlaws.specs.Ascending.{given_by, given}
use Rattle.hb_coordlaws.specs.Asking.{IsDecideOf, DecisionsWereAsked, DecidedWereGiven}
use Rattle.hb_coordlaws.proofs.Growing.{decisions-ids}
use Rattle.hb_coordlaws.proofs.Orderly.{tops}

abbrev asked : Request → Answer → Asked
asked q a = record { request = q; answer = a }

abbrev decision : ℕ → ℕ → List NodeName → Decided
decision tx n nodes = record { tx = tx; number = n; nodes = nodes }

-- what an effect has to do with the request and its answer
abbrev Tells : Request → Answer → CEffect → Type 0
Tells q a (begun tx) = given_by q a ≡ Some tx
Tells q a (decided tx n nodes) = IsDecideOf (decision tx n nodes) (asked q a)
Tells q a (reserved upto) = ⊤
Tells q a (ended tx) = ⊤
Tells q a lost = ⊤
Tells q a came_up = ⊤

none_tells : (q : Request) (a : Answer) (es : List CEffect) → es ≡ [] → Each (Tells q a) es
none_tells q a es is = subst (Each (Tells q a)) (sym is) tt

begun_tells : (k : CState) (owner : Owner) (tx : Tx) (front es : List CEffect) → Reserves k front → es ≡ front ++ begun tx.0 ∷ []
    → Each (Tells (request.Begin owner) (answer.Begun tx)) es
begun_tells k owner tx front es (inl r) is = subst (Each (Tells (request.Begin owner) (answer.Begun tx))) (sym (is ∙ ap (λ (f : List CEffect). f ++ begun tx.0 ∷ []) r.1)) (refl, tt)
begun_tells k owner tx front es (inr r) is = subst (Each (Tells (request.Begin owner) (answer.Begun tx))) (sym (is ∙ ap (λ (f : List CEffect). f ++ begun tx.0 ∷ []) r.1)) (tt, (refl, tt))

reserves_tell : (k : CState) (q : Request) (a : Answer) (es : List CEffect) → Reserves k es → Each (Tells q a) es
reserves_tell k q a es (inl r) = none_tells q a es r.1
reserves_tell k q a es (inr r) = subst (Each (Tells q a)) (sym r.1) (tt, tt)

begin_tells : (k : CState) (owner : Owner) (a : Answer) (es : List CEffect) → Causes k (request.Begin owner) a es → Each (Tells (request.Begin owner) a) es
begin_tells k owner (answer.Begun tx) es c = begun_tells k owner tx c.0 es c.1 c.2
begin_tells k owner (answer.Fault area) es (inl is) = subst (Each (Tells (request.Begin owner) (answer.Fault area))) (sym is) (tt, tt)
begin_tells k owner (answer.Fault area) es (inr is) = subst (Each (Tells (request.Begin owner) (answer.Fault area))) (sym is) (tt, (tt, tt))
begin_tells k owner answer.NoMemory es (inl is) = none_tells (request.Begin owner) answer.NoMemory es is
begin_tells k owner answer.NoMemory es (inr r) = reserves_tell k (request.Begin owner) answer.NoMemory es r
begin_tells k owner a es is = none_tells (request.Begin owner) a es is

above_votes : (k : CState) (votes : List Vote) (n : ℕ) → n ≡ next_number k votes → Each (λ (v : Vote). v.floor.0 < n) votes
above_votes k votes n is = Each-of (λ (v : Vote). v.floor.0 ≤ greatest_floor votes) (λ v. v.floor.0 < n) votes (λ v h. over v.floor.0 h) (tops (λ (v : Vote). v.floor.0) 0 votes).all
  where
    over : (f : ℕ) → f ≤ greatest_floor votes → f < n
    over f le = let e : n ≡ max (greatest_number k.log) (greatest_floor votes) + 1 = is in omega (arith, le, e)

number_is : (up : Bool) (k : CState) (tx : Tx) (n : ℕ) (votes : List Vote)
    → RightIn up k (request.Decide tx votes) (answer.Decided (record { 0 = n })) → n ≡ next_number k votes
number_is true k tx n votes r = r
number_is false k tx n votes r = absurd r

fault_is : (up : Bool) (k : CState) (tx : Tx) (votes : List Vote) (area : Bool) → RightIn up k (request.Decide tx votes) (answer.Fault area) → area ≡ false
fault_is true k tx votes area r = r.0
fault_is false k tx votes area r = absurd r

decide_tells : (k : CState) (tx : Tx) (votes : List Vote) (a : Answer) (es : List CEffect) → Causes k (request.Decide tx votes) a es
    → Right k (request.Decide tx votes) a → Each (Tells (request.Decide tx votes) a) es
decide_tells k tx votes (answer.Decided n) es is r =
    subst (Each (Tells (request.Decide tx votes) (answer.Decided n))) (sym is)
    (record { votes = votes; asked = refl; answered = inl refl; nodes = refl; above = above_votes k votes n.0 (number_is k.up k tx n.0 votes r) }, (tt, tt))
decide_tells k tx votes (answer.Fault area) es (inl is) r = subst (Each (Tells (request.Decide tx votes) (answer.Fault area))) (sym is) (tt, tt)
decide_tells k tx votes (answer.Fault area) es (inr is) r =
    subst (Each (Tells (request.Decide tx votes) (answer.Fault area))) (sym is)
    (record { votes = votes; asked = refl; answered = inr (ap answer.Fault (fault_is k.up k tx votes area r)); nodes = refl; above = above_votes k votes (next_number k votes) refl }, (tt, tt))
decide_tells k tx votes a es is r = none_tells (request.Decide tx votes) a es is

abort_tells : (k : CState) (tx : Tx) (a : Answer) (es : List CEffect) → Causes k (request.Abort tx) a es → Each (Tells (request.Abort tx) a) es
abort_tells k tx answer.Done es (inl h) = subst (Each (Tells (request.Abort tx) answer.Done)) (sym h.1) (tt, tt)
abort_tells k tx answer.Done es (inr h) = none_tells (request.Abort tx) answer.Done es h.1
abort_tells k tx a es is = none_tells (request.Abort tx) a es is

stop_tells : (k : CState) (a : Answer) (es : List CEffect) → Causes k request.Stop a es → Each (Tells request.Stop a) es
stop_tells k answer.Done es is = subst (Each (Tells request.Stop answer.Done)) (sym is) (tt, tt)
stop_tells k a es is = none_tells request.Stop a es is

start_tells : (k : CState) (a : Answer) (es : List CEffect) → Causes k request.Start a es → Each (Tells request.Start a) es
start_tells k (answer.Started found) es is = subst (Each (Tells request.Start (answer.Started found))) (sym is) (tt, tt)
start_tells k answer.NoMemory es (inl is) = none_tells request.Start answer.NoMemory es is
start_tells k answer.NoMemory es (inr is) = subst (Each (Tells request.Start answer.NoMemory)) (sym is) (tt, tt)
start_tells k a es is = none_tells request.Start a es is

told : (k : CState) (q : Request) (a : Answer) (es : List CEffect) → Causes k q a es → Right k q a → Each (Tells q a) es
told k (request.Begin owner) a es c r = begin_tells k owner a es c
told k (request.Decide tx votes) a es c r = decide_tells k tx votes a es c r
told k (request.Abort tx) a es c r = abort_tells k tx a es c
told k request.Stop a es c r = stop_tells k a es c
told k request.Start a es c r = start_tells k a es c
told k q a es c r = none_tells q a es c

-- ---- decisions

abbrev Joins : (Decided → Type 0) → CEffect → Type 0
Joins New (decided tx n nodes) = New (decision tx n nodes)
Joins New (begun tx) = ⊤
Joins New (reserved upto) = ⊤
Joins New (ended tx) = ⊤
Joins New lost = ⊤
Joins New came_up = ⊤

effect_decides : (Old : Decided → Type 0) (k : CState) (e : CEffect) → Joins Old e → Each Old (decisions k.log) → Each Old (decisions (happens k e).log)
effect_decides Old k (reserved upto) j h = subst (Each Old) (sym (decisions-ids k.log upto)) h
effect_decides Old k (begun tx) j h = h
effect_decides Old k (decided tx n nodes) j h = subst (Each Old) (sym (decisions-append k.log (decision_item tx n nodes ∷ []))) (Each-append Old (decisions k.log) _ h (j, tt))
effect_decides Old k (ended tx) j h = h
effect_decides Old k lost j h = h
effect_decides Old k came_up j h = h

steps_decide : (Old : Decided → Type 0) (k : CState) (es : List CEffect) (t : CState) → Each (Joins Old) es → Steps k es t
    → Each Old (decisions k.log) → Each Old (decisions t.log)
steps_decide Old k [] t j st h = subst (λ (x : CState). Each Old (decisions x.log)) st h
steps_decide Old k (e ∷ es) t j st h = steps_decide Old (happens k e) es t j.1 st.1 (effect_decides Old k e j.0 h)

joins_asked : (q : Request) (a : Answer) (New : Decided → Type 0) → ((d : Decided) → IsDecideOf d (asked q a) → New d) → (e : CEffect) → Tells q a e → Joins New e
joins_asked q a New f (reserved upto) h = tt
joins_asked q a New f (begun tx) h = tt
joins_asked q a New f (decided tx n nodes) h = f (decision tx n nodes) h
joins_asked q a New f (ended tx) h = tt
joins_asked q a New f lost h = tt
joins_asked q a New f came_up h = tt

asked_from : (Old : Decided → Type 0) (k : CState) (trail : List Asked) (t : CState) → CRun k trail t → Each Old (decisions k.log)
    → Each (λ d. Old d ⊎ Has (IsDecideOf d) trail) (decisions t.log)
asked_from Old k [] t run h = subst (λ (x : CState). Each (λ d. Old d ⊎ ⊥) (decisions x.log)) run (Each-of Old (λ d. Old d ⊎ ⊥) (decisions k.log) (λ d o. inl o) h)
asked_from Old k (a ∷ more) t run h =
    Each-of _ _ (decisions t.log) (λ d o. regroup d o)
    (asked_from (λ d. Old d ⊎ IsDecideOf d a) run.0 more t run.2
    (steps_decide (λ d. Old d ⊎ IsDecideOf d a) k run.1.effects run.0
    (Each-of _ _ run.1.effects (joins_asked a.request a.answer (λ d. Old d ⊎ IsDecideOf d a) (λ d i. inr i)) (told k a.request a.answer run.1.effects run.1.causes run.1.right)) run.1.steps
    (Each-of Old _ (decisions k.log) (λ d o. inl o) h)))
  where
    regroup : (d : Decided) → (Old d ⊎ IsDecideOf d a) ⊎ Has (IsDecideOf d) more → Old d ⊎ (IsDecideOf d a ⊎ Has (IsDecideOf d) more)
    regroup d (inl (inl o)) = inl o
    regroup d (inl (inr i)) = inr (inl i)
    regroup d (inr m) = inr (inr m)

pub decisions_were_asked : DecisionsWereAsked
decisions_were_asked k t trail run = asked_from (λ d. IsIn d (decisions k.log)) k trail t run (Each-in (λ d. IsIn d (decisions k.log)) (decisions k.log) (λ d i. i))

-- ---- transactions

-- what is active is one of these, and so is what is decided, unless it was before
record Known (Old : Decided → Type 0) (Is : ℕ → Type 0) (k : CState) : Type 0 where
  active : Each Is k.active
  made : Each (λ d. Old d ⊎ Is d.tx) (decisions k.log)

still : (P : ℕ → Type 0) (tx : ℕ) (xs : List ℕ) → Each P xs → Each P (without_active tx xs)
still P tx [] e = tt
still P tx (x ∷ xs) e = by_test (x == tx) (λ t. rw t (still P tx xs e.1)) (λ f. rw f (e.0, still P tx xs e.1))

abbrev Gives : (ℕ → Type 0) → CEffect → Type 0
Gives P (begun tx) = P tx
Gives P (decided tx n nodes) = ⊤
Gives P (reserved upto) = ⊤
Gives P (ended tx) = ⊤
Gives P lost = ⊤
Gives P came_up = ⊤

effect_knows : (Old : Decided → Type 0) (P : ℕ → Type 0) (k : CState) (e : CEffect) → Gives P e → Allowed k e → Known Old P k → Known Old P (happens k e)
effect_knows Old P k (reserved upto) g a h = record { active = h.active; made = subst (Each (λ d. Old d ⊎ P d.tx)) (sym (decisions-ids k.log upto)) h.made }
effect_knows Old P k (begun tx) g a h = record { active = (g, h.active); made = h.made }
effect_knows Old P k (decided tx n nodes) g a h =
    record {
      active = h.active;
      made = subst (Each (λ d. Old d ⊎ P d.tx)) (sym (decisions-append k.log (decision_item tx n nodes ∷ [])))
          (Each-append (λ d. Old d ⊎ P d.tx) (decisions k.log) _ h.made (inr (in_Each P tx k.active a.0 h.active), tt));
    }
effect_knows Old P k (ended tx) g a h = record { active = still P tx k.active h.active; made = h.made }
effect_knows Old P k lost g a h = record { active = tt; made = h.made }
effect_knows Old P k came_up g a h = record { active = tt; made = h.made }

steps_know : (Old : Decided → Type 0) (P : ℕ → Type 0) (k : CState) (es : List CEffect) (t : CState) → Each (Gives P) es → Steps k es t
    → Known Old P k → Known Old P t
steps_know Old P k [] t g st h = subst (Known Old P) st h
steps_know Old P k (e ∷ es) t g st h = steps_know Old P (happens k e) es t g.1 st.1 (effect_knows Old P k e g.0 st.0 h)

gives_told : (q : Request) (a : Answer) (P : ℕ → Type 0) → ((tx : ℕ) → given_by q a ≡ Some tx → P tx) → (e : CEffect) → Tells q a e → Gives P e
gives_told q a P f (reserved upto) h = tt
gives_told q a P f (begun tx) h = f tx h
gives_told q a P f (decided tx n nodes) h = tt
gives_told q a P f (ended tx) h = tt
gives_told q a P f lost h = tt
gives_told q a P f came_up h = tt

known_of : (Old : Decided → Type 0) (P Q : ℕ → Type 0) (k : CState) → ((tx : ℕ) → P tx → Q tx) → Known Old P k → Known Old Q k
known_of Old P Q k f h = record { active = Each-of P Q k.active f h.active; made = Each-of _ _ (decisions k.log) (λ d o. wider d o) h.made }
  where
    wider : (d : Decided) → Old d ⊎ P d.tx → Old d ⊎ Q d.tx
    wider d (inl o) = inl o
    wider d (inr p) = inr (f d.tx p)

-- those of a trail are those of its first request and those of the rest
given_first : (a : Asked) (more : List Asked) (tx : ℕ) → given_by a.request a.answer ≡ Some tx → IsIn tx (given (a ∷ more))
given_first a more tx e = rw e (inl refl)

given_later : (a : Asked) (more : List Asked) (tx : ℕ) → IsIn tx (given more) → IsIn tx (given (a ∷ more))
given_later a more tx i = by_first (given_by a.request a.answer) refl
  where
    by_first : (o : Option ℕ) → given_by a.request a.answer ≡ o → IsIn tx (given (a ∷ more))
    by_first None e = rw e i
    by_first (Some u) e = rw e (inr i)

known_along : (Old : Decided → Type 0) (P : ℕ → Type 0) (k : CState) (trail : List Asked) (t : CState) → CRun k trail t → Known Old P k
    → Known Old (λ tx. P tx ⊎ IsIn tx (given trail)) t
known_along Old P k [] t run h = subst (Known Old (λ tx. P tx ⊎ ⊥)) run (known_of Old P _ k (λ tx p. inl p) h)
known_along Old P k (a ∷ more) t run h =
    known_of Old _ _ t regroup
    (known_along Old (λ tx. P tx ⊎ (given_by a.request a.answer ≡ Some tx)) run.0 more t run.2
    (steps_know Old (λ tx. P tx ⊎ (given_by a.request a.answer ≡ Some tx)) k run.1.effects run.0
    (Each-of _ _ run.1.effects (gives_told a.request a.answer (λ tx. P tx ⊎ (given_by a.request a.answer ≡ Some tx)) (λ tx e. inr e)) (told k a.request a.answer run.1.effects run.1.causes run.1.right))
    run.1.steps (known_of Old P _ k (λ tx p. inl p) h)))
  where
    regroup : (tx : ℕ) → (P tx ⊎ (given_by a.request a.answer ≡ Some tx)) ⊎ IsIn tx (given more) → P tx ⊎ IsIn tx (given (a ∷ more))
    regroup tx (inl (inl p)) = inl p
    regroup tx (inl (inr e)) = inr (given_first a more tx e)
    regroup tx (inr i) = inr (given_later a more tx i)

pub decided_were_given : DecidedWereGiven
decided_were_given k t trail run =
    (known_along (λ d. IsIn d (decisions k.log)) (λ tx. IsIn tx k.active) k trail t run
    (record {
      active = Each-in (λ tx. IsIn tx k.active) k.active (λ tx i. i);
      made = Each-in (λ d. IsIn d (decisions k.log) ⊎ IsIn d.tx k.active) (decisions k.log) (λ d i. inl i);
    })).made
