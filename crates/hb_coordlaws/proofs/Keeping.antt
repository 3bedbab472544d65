-- The coordinator's log keeps its grammar, its reservations and its room.
use Rattle.std.proofs.Common.{◌≡◌, ℕ, ◌+◌, ◌*◌, ◌≤◌, ◌<◌, List, [], ◌∷◌, ◌++◌, refl, sym, ap, subst, arith, length}
use Rattle.hb_types.specs.declared.change.LogItem.{LogItem}
use Rattle.hb_types.specs.declared.change.LogItem.TheVariants as item
use Rattle.hb_types.specs.Lists.{Each}
use Rattle.hb_types.specs.Numbers.{greatest}
use Rattle.hb_types.specs.Records.{record_length}
use Rattle.hb_types.proofs.Ascending.{Each-of, Each-append}
use Rattle.hb_disks.specs.LogPlaces.{end_behind}
use Rattle.hb_disks.specs.Redo.{Redone, Decided, redo_from, nothing, doubts}
use Rattle.hb_disks.specs.Says.{decisions}
use Rattle.hb_disks.specs.StandsFor.{AllReserved, HasRoom, IsCoordinators, greatest_upto}
use Rattle.hb_runs.specs.Coordinator.{CState, CEffect, CRun, Allowed, HasRoomFor, Steps, happens, reserved, begun, decided, ended, lost, came_up, ids_item, decision_item}
use Rattle.hb_runs.specs.ServerRuns.{Asked}
use Rattle.hb_coordlaws.specs.Order.{IsOrdered, LogIsKept}
use Rattle.hb_coordlaws.proofs.Orderly.{order_is_kept}

-- ---- grammar and room, effect by effect

record IsFit (log : List LogItem) : Type 0 where
  own : Each IsCoordinators log
  room : end_behind 0 log ≤ greatest

end_behind-append : (place : ℕ) (l m : List LogItem) → end_behind place (l ++ m) ≡ end_behind (end_behind place l) m
end_behind-append place [] m = refl
end_behind-append place (i ∷ l) m = end_behind-append (place + record_length i) l m

one_more : (k : CState) (i : LogItem) → IsCoordinators i → HasRoomFor k i → IsFit k.log → IsFit (k.log ++ i ∷ [])
one_more k i own room f =
    record {
      own = Each-append IsCoordinators k.log (i ∷ []) f.own (own, tt);
      room = subst (λ e. e ≤ greatest) (sym (end_behind-append 0 k.log (i ∷ []))) (less (end_behind 0 k.log + record_length i) room);
    }
  where
    less : (n : ℕ) → n + 1 ≤ greatest → n ≤ greatest
    less n h = omega (arith, h)

fit : (k : CState) (e : CEffect) → Allowed k e → IsFit k.log → IsFit (happens k e).log
fit k (reserved upto) a f = one_more k (ids_item upto) tt a.2 f
fit k (begun tx) a f = f
fit k (decided tx n nodes) a f = one_more k (decision_item tx n nodes) tt a.3 f
fit k (ended tx) a f = f
fit k lost a f = f
fit k came_up a f = f

steps_fit : (k : CState) (es : List CEffect) (t : CState) → Steps k es t → IsFit k.log → IsFit t.log
steps_fit k [] t st f = subst (λ (x : CState). IsFit x.log) st f
steps_fit k (e ∷ es) t st f = steps_fit (happens k e) es t st.1 (fit k e st.0 f)

run_fit : (k : CState) (trail : List Asked) (t : CState) → CRun k trail t → IsFit k.log → IsFit t.log
run_fit k [] t run f = subst (λ (x : CState). IsFit x.log) run f
run_fit k (a ∷ more) t run f = run_fit run.0 more t run.2 (steps_fit k run.1.effects run.0 run.1.steps f)

-- ---- no branch is in doubt at the coordinator

no_doubts : (r : Redone) (log : List LogItem) → Each IsCoordinators log → (redo_from r log).doubts ≡ r.doubts
no_doubts r [] own = refl
no_doubts r (item.Decision tx n nodes ∷ is) own = no_doubts r is own.1
no_doubts r (item.Ids upto ∷ is) own = no_doubts r is own.1
no_doubts r (item.Prepare tx floor locks changes ∷ is) own = absurd own.0
no_doubts r (item.Commit tx n ∷ is) own = absurd own.0
no_doubts r (item.Abort tx ∷ is) own = absurd own.0

all_room : (log : List LogItem) → IsFit log → HasRoom log
all_room log f =
    let none : length (doubts log) ≡ 0 = ap length (no_doubts nothing log f.own) in
    let room : end_behind 0 log ≤ greatest = f.room in
    omega (arith, none, room)

end_only : (log : List LogItem) → HasRoom log → end_behind 0 log ≤ greatest
end_only log h = less (end_behind 0 log) (length (doubts log)) h
  where
    less : (e n : ℕ) → e + 32 * n ≤ greatest → e ≤ greatest
    less e n h = omega (arith, h)

-- ---- reservations

all_reserved : (upto : ℕ) (log : List LogItem) → Each IsCoordinators log → Each (λ (d : Decided). d.tx ≤ upto) (decisions log) → AllReserved upto log
all_reserved upto [] own e = tt
all_reserved upto (item.Decision tx n nodes ∷ is) own e = (e.0, all_reserved upto is own.1 e.1)
all_reserved upto (item.Ids n ∷ is) own e = (zero_below upto, all_reserved upto is own.1 e)
  where
    zero_below : (m : ℕ) → 0 ≤ m
    zero_below m = omega arith
all_reserved upto (item.Prepare tx floor locks changes ∷ is) own e = absurd own.0
all_reserved upto (item.Commit tx n ∷ is) own e = absurd own.0
all_reserved upto (item.Abort tx ∷ is) own e = absurd own.0

given_reserved : (k : CState) → IsOrdered k → Each (λ (d : Decided). d.tx ≤ greatest_upto k.log) (decisions k.log)
given_reserved k o = Each-of (λ (d : Decided). d.tx < k.next) (λ d. d.tx ≤ greatest_upto k.log) (decisions k.log) (λ d h. low d.tx h) o.given
  where
    low : (tx : ℕ) → tx < k.next → tx ≤ greatest_upto k.log
    low tx h = let r : k.next ≤ greatest_upto k.log + 1 = o.is_reserved in omega (arith, h, r)

pub log_is_kept : LogIsKept
log_is_kept k t trail o f run =
    record { own = last.own; reserved = all_reserved (greatest_upto t.log) t.log last.own (given_reserved t (order_is_kept k t trail o run)); room = all_room t.log last }
  where
    last : IsFit t.log
    last = run_fit k trail t run (record { own = f.own; room = end_only k.log f.room })
