-- What the requests of a trail tell of the effects: who is enlisted, and who writes what.
use Rattle.std.proofs.Common.{◌≡◌, ◌⊎◌, ℕ, List, [], ◌∷◌, ◌++◌, refl, sym, subst, inl, inr}
use Rattle.std.specs.Prelude.{⊤}
use Rattle.hb_types.specs.declared.answer.Answer.{Answer}
use Rattle.hb_types.specs.declared.answer.Answer.TheVariants as answer
use Rattle.hb_types.specs.declared.change.Change.{Change}
use Rattle.hb_types.specs.declared.lock.Held.{Held}
use Rattle.hb_types.specs.declared.names.Number.{Number}
use Rattle.hb_types.specs.declared.names.Tx.{Tx}
use Rattle.hb_types.specs.declared.request.Request.{Request}
use Rattle.hb_types.specs.declared.request.Request.TheVariants as request
use Rattle.hb_types.specs.Ladders.{ladder}
use Rattle.hb_types.specs.Lists.{Each}
use Rattle.hb_runs.specs.Server.{SState}
use Rattle.hb_runs.specs.ServerEffects.{Effect, enlisted, written}
use Rattle.hb_runs.specs.ServerCauses.{Causes, LockCauses, grants}
use Rattle.hb_runs.specs.ServerRuns.{Asked, Run}
use Rattle.hb_serverlaws.specs.Trails.{EnlistsOnce, noting}

-- neither an enlisting nor a write
abbrev pub IsOther : Effect → Type 0
IsOther (enlisted tx) = ⊥
IsOther (written tx c) = ⊥
IsOther _ = ⊤

abbrev WriteIsLike : Tx → Change → Answer → List Effect → Type 0
WriteIsLike tx c answer.Done es = es ≡ written tx.0 c ∷ []
WriteIsLike tx c _ es = es ≡ []

-- what may be enlisted or written by a request with this answer
abbrev pub IsLike : Request → Answer → List Effect → Type 0
IsLike (request.Enlist tx) a es = (es ≡ []) ⊎ (es ≡ enlisted tx.0 ∷ [])
IsLike (request.Write tx c) a es = WriteIsLike tx c a es
IsLike _ a es = Each IsOther es

no_others : (es : List Effect) → es ≡ [] → Each IsOther es
no_others es is = subst (Each IsOther) (sym is) tt

grants_other : (tx : ℕ) (rungs : List Held) → Each IsOther (grants tx rungs)
grants_other tx [] = tt
grants_other tx (l ∷ ls) = (tt, grants_other tx ls)

lock_like : (s : SState) (tx : ℕ) (rungs : List Held) (a : Answer) (es : List Effect) → LockCauses s tx rungs a es → Each IsOther es
lock_like s tx rungs answer.Done es is = subst (Each IsOther) (sym is) (grants_other tx rungs)
lock_like s tx rungs (answer.Blocked p m holders) es is = subst (Each IsOther) (sym is.effects) (grants_other tx is.front)
lock_like s tx rungs answer.NoMemory es is = subst (Each IsOther) (sym is.3) (grants_other tx is.0)
lock_like s tx rungs _ es is = no_others es is

enlist_like : (s : SState) (tx : Tx) (a : Answer) (es : List Effect) → Causes s (request.Enlist tx) a es → (es ≡ []) ⊎ (es ≡ enlisted tx.0 ∷ [])
enlist_like s tx answer.Done es (inl h) = inr h.1
enlist_like s tx answer.Done es (inr h) = inl h.1
enlist_like s tx _ es is = inl is

write_like : (s : SState) (tx : Tx) (c : Change) (a : Answer) (es : List Effect) → Causes s (request.Write tx c) a es → WriteIsLike tx c a es
write_like s tx c answer.Done es is = is
write_like s tx c _ es is = is

prepare_like : (s : SState) (tx : Tx) (a : Answer) (es : List Effect) → Causes s (request.Prepare tx) a es → Each IsOther es
prepare_like s tx (answer.Vote floor) es is = subst (Each IsOther) (sym is) (tt, tt)
prepare_like s tx (answer.Fault area) es (inl is) = subst (Each IsOther) (sym is) (tt, tt)
prepare_like s tx (answer.Fault area) es (inr is) = subst (Each IsOther) (sym is) (tt, (tt, tt))
prepare_like s tx _ es is = no_others es is

commit_like : (s : SState) (tx : Tx) (n : Number) (a : Answer) (es : List Effect) → Causes s (request.Commit tx n) a es → Each IsOther es
commit_like s tx n answer.Done es is = subst (Each IsOther) (sym is) (tt, tt)
commit_like s tx n (answer.Fault area) es (inl is) = subst (Each IsOther) (sym is) (tt, tt)
commit_like s tx n (answer.Fault area) es (inr is) = subst (Each IsOther) (sym is) (tt, (tt, tt))
commit_like s tx n _ es is = no_others es is

rollback_like : (s : SState) (tx : Tx) (a : Answer) (es : List Effect) → Causes s (request.Rollback tx) a es → Each IsOther es
rollback_like s tx answer.Done es (inl is) = subst (Each IsOther) (sym is) (tt, tt)
rollback_like s tx answer.Done es (inr is) = subst (Each IsOther) (sym is) (tt, tt)
rollback_like s tx (answer.Fault area) es (inl is) = subst (Each IsOther) (sym is) (tt, tt)
rollback_like s tx (answer.Fault area) es (inr is) = subst (Each IsOther) (sym is) (tt, (tt, tt))
rollback_like s tx _ es is = no_others es is

begin_like : (s : SState) (a : Answer) (es : List Effect) → Causes s request.SyncBegin a es → Each IsOther es
begin_like s (answer.Fault area) es is = subst (Each IsOther) (sym is) (tt, tt)
begin_like s _ es is = no_others es is

flush_like : (s : SState) (a : Answer) (es : List Effect) → Causes s request.SyncFlush a es → Each IsOther es
flush_like s (answer.Fault area) es is = subst (Each IsOther) (sym is) (tt, tt)
flush_like s _ es is = no_others es is

finish_like : (s : SState) (a : Answer) (es : List Effect) → Causes s request.SyncFinish a es → Each IsOther es
finish_like s (answer.Fault area) es is = subst (Each IsOther) (sym is) (tt, tt)
finish_like s _ es is = no_others es is

stop_like : (s : SState) (a : Answer) (es : List Effect) → Causes s request.Stop a es → Each IsOther es
stop_like s answer.Done es is = subst (Each IsOther) (sym is) (tt, tt)
stop_like s _ es is = no_others es is

start_like : (s : SState) (a : Answer) (es : List Effect) → Causes s request.Start a es → Each IsOther es
start_like s (answer.Started doubts) es is = subst (Each IsOther) (sym is) (tt, tt)
start_like s answer.NoMemory es (inl is) = no_others es is
start_like s answer.NoMemory es (inr is) = subst (Each IsOther) (sym is) (tt, tt)
start_like s _ es is = no_others es is

pub like : (s : SState) (q : Request) (a : Answer) (es : List Effect) → Causes s q a es → IsLike q a es
like s (request.Enlist tx) a es c = enlist_like s tx a es c
like s (request.Lock tx p m) a es c = lock_like s tx.0 (ladder p m) a es c
like s (request.Write tx c) a es is = write_like s tx c a es is
like s (request.Prepare tx) a es c = prepare_like s tx a es c
like s (request.Commit tx n) a es c = commit_like s tx n a es c
like s (request.Rollback tx) a es c = rollback_like s tx a es c
like s request.SyncBegin a es c = begin_like s a es c
like s request.SyncFlush a es c = flush_like s a es c
like s request.SyncFinish a es c = finish_like s a es c
like s request.Stop a es c = stop_like s a es c
like s request.Start a es c = start_like s a es c
like s _ a es c = no_others es c

-- ---- trails in two parts

abbrev pub seen_after : List ℕ → List Asked → List ℕ
seen_after seen [] = seen
seen_after seen (a ∷ more) = seen_after (noting seen a.request) more

pub once_front : (seen : List ℕ) (front back : List Asked) → EnlistsOnce seen (front ++ back) → EnlistsOnce seen front
once_front seen [] back o = tt
once_front seen (a ∷ front) back o = (o.0, once_front (noting seen a.request) front back o.1)

pub once_back : (seen : List ℕ) (front back : List Asked) → EnlistsOnce seen (front ++ back) → EnlistsOnce (seen_after seen front) back
once_back seen [] back o = o
once_back seen (a ∷ front) back o = once_back (noting seen a.request) front back o.1

pub run_parts : (s : SState) (front back : List Asked) (t : SState) → Run s (front ++ back) t → (u : SState) × Run s front u × Run u back t
run_parts s [] back t r = (s, refl, r)
run_parts s (a ∷ front) back t r = let k = run_parts r.0 front back t r.2 in (k.0, (r.0, r.1, k.1), k.2)
