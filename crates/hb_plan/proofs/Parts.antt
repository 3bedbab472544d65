-- What the parts' machines ask and hear is what the plan asks and hears.
use Rattle.std.proofs.Common.{◌≡◌, ◌≢◌, ◌⊎◌, inl, inr, Bool, true, false, true≢false, Err, refl, ap, sym, ◌∙◌, subst}
use Rattle.hb_types.specs.declared.answer.Answer.{Answer}
use Rattle.hb_model.specs.declared.reply.Reply.{Reply}
use Rattle.hb_model.specs.declared.reply.Reply.TheVariants as reply
use Rattle.hb_talk.specs.Talk.{Talk, says, Use}
use Rattle.hb_access.specs.declared.access.Next.{Next}
use Rattle.hb_access.specs.declared.access.Next.TheVariants as next
use Rattle.hb_planquery.specs.QueryPlans.{Querying}
use Rattle.hb_planquery.specs.QueryPlans as query
use Rattle.hb_planquery.specs.declared.query_plan.Taken.{Taken as QueryTaken}
use Rattle.hb_planquery.specs.declared.query_plan.Taken.TheVariants as queried
use Rattle.hb_plandefine.specs.Defines as define
use Rattle.hb_plandefine.specs.declared.defining.Taken.{Taken as DefineTaken}
use Rattle.hb_plandefine.specs.declared.defining.Taken.TheVariants as defined
use Rattle.hb_plandefine.specs.declared.stage.Stage.{Stage as Standing}
use Rattle.hb_plan.specs.declared.stage.Taken.{Taken}
use Rattle.hb_plan.specs.declared.stage.Taken.TheVariants as taken
use Rattle.hb_plan.specs.declared.stage.Stage.{Stage}
use Rattle.hb_plan.specs.declared.stage.Stage.TheVariants as stage
use Rattle.hb_plan.specs.Planned.{Planned, Said, IsRefused, StageNext, StageHears, StageAsksOn, NextIs, Hears, AsksOn, IsTold, ToldAt, planned_at, of_query, of_define, is_asking, is_waiting, asking_at, waiting_at, now_talks, now_hears}

is_none : Reply → Bool
is_none reply.NoMemory = true
is_none _ = false

kind : (r : Reply) → (r ≡ reply.NoMemory) ⊎ (is_none r ≡ false)
unfolding is_none
kind reply.NoMemory = inl refl
kind _ = inr refl

other : (r : Reply) → is_none r ≡ false → r ≢ reply.NoMemory
unfolding is_none
other r is = λ e. true≢false (sym (ap is_none e) ∙ is)

-- want of memory is free, and any other refusal is said
refused : (talk : Talk Said) (u : Use) (r : Reply) → (r ≢ reply.NoMemory → talk ≡ says (Err r, u)) → IsRefused talk r u
refused talk u r h = by_kind (kind r)
  where
    by_kind : (r ≡ reply.NoMemory) ⊎ (is_none r ≡ false) → IsRefused talk r u
    by_kind (inl e) = inr e
    by_kind (inr is) = inl (h (other r is))

pub query_nexts : (old new : Querying) (n : Next) → query.NextIs old new n → StageNext (stage.Query old) (stage.Query new) n
query_nexts old new (next.Ask node q) h = h
query_nexts old new (next.Refused r) h = inl h

pub define_nexts : (old new : Standing) (n : Next) → define.NextIs old new n → StageNext (stage.Define old) (stage.Define new) n
define_nexts old new (next.Ask node q) h = h
define_nexts old new (next.Refused r) h = inl h

pub query_hears : (old new : Querying) (a : Answer) (t : QueryTaken) (u : Taken) → u ≡ of_query t → query.Hears old new a t → StageHears (stage.Query old) (stage.Query new) a u
query_hears old new a t u is h = subst (StageHears (stage.Query old) (stage.Query new) a) (sym is) (at t h)
  where
    at : (t : QueryTaken) → query.Hears old new a t → StageHears (stage.Query old) (stage.Query new) a (of_query t)
    at queried.More h = h
    at (queried.Replied r) h = h
    at (queried.Refused r) h = refused (query.now_hears old a) (query.now_uses new) r h

pub query_asks : (new : Querying) (t : QueryTaken) (u : Taken) → u ≡ of_query t → query.AsksOn new t → StageAsksOn (stage.Query new) u
query_asks new t u is h = subst (StageAsksOn (stage.Query new)) (sym is) (at t h)
  where
    at : (t : QueryTaken) → query.AsksOn new t → StageAsksOn (stage.Query new) (of_query t)
    at queried.More h = h
    at (queried.Replied r) h = h
    at (queried.Refused r) h = h

pub define_hears : (old new : Standing) (a : Answer) (t : DefineTaken) (u : Taken) → u ≡ of_define t → define.AsksMore new t → define.Hears old new a t
    → StageHears (stage.Define old) (stage.Define new) a u
define_hears old new a t u is asks h = subst (StageHears (stage.Define old) (stage.Define new) a) (sym is) (at t asks h)
  where
    at : (t : DefineTaken) → define.AsksMore new t → define.Hears old new a t → StageHears (stage.Define old) (stage.Define new) a (of_define t)
    at defined.More asks h = (asks, h)
    at (defined.Replied r) asks h = h
    at (defined.Refused r) asks h = h

pub define_asks : (new : Standing) (t : DefineTaken) (u : Taken) → u ≡ of_define t → define.AsksMore new t → StageAsksOn (stage.Define new) u
define_asks new t u is h = subst (StageAsksOn (stage.Define new)) (sym is) (at t h)
  where
    at : (t : DefineTaken) → define.AsksMore new t → StageAsksOn (stage.Define new) (of_define t)
    at defined.More h = h
    at (defined.Replied r) h = h
    at (defined.Refused r) h = h

-- ---- a plan is where its stage is

pub plan_asking : (p : Planned) (s : Stage) → planned_at s ≡ p → is_asking p ≡ true → asking_at s ≡ true
unfolding is_asking
plan_asking p s is h = ap is_asking is ∙ h

pub plan_waiting : (p : Planned) (s : Stage) → planned_at s ≡ p → is_waiting p ≡ true → waiting_at s ≡ true
unfolding is_waiting
plan_waiting p s is h = ap is_waiting is ∙ h

pub plan_nexts : (old new : Planned) (s t : Stage) (n : Next) → planned_at s ≡ old → planned_at t ≡ new → StageNext s t n → NextIs old new n
unfolding is_waiting now_talks now_hears
plan_nexts old new s t n was is h = subst (λ o. NextIs o new n) was (subst (λ p. NextIs (planned_at s) p n) is (at n h))
  where
    at : (n : Next) → StageNext s t n → NextIs (planned_at s) (planned_at t) n
    at (next.Ask node q) h = h
    at (next.Refused r) h = h

pub plan_hears : (old new : Planned) (s t : Stage) (a : Answer) (u : Taken) → planned_at s ≡ old → planned_at t ≡ new → (ToldAt s a → StageHears s t a u) → IsTold old a → Hears old new a u
unfolding is_asking now_talks now_hears IsTold
plan_hears old new s t a u was is h told = subst (λ o. Hears o new a u) was (subst (λ p. Hears (planned_at s) p a u) is (at u (h (subst (λ p. IsTold p a) (sym was) told))))
  where
    at : (u : Taken) → StageHears s t a u → Hears (planned_at s) (planned_at t) a u
    at taken.More h = h
    at (taken.Replied r) h = h
    at (taken.Refused r) h = h

pub plan_asks_on : (new : Planned) (t : Stage) (u : Taken) → planned_at t ≡ new → StageAsksOn t u → AsksOn new u
unfolding is_asking
plan_asks_on new t u is h = subst (λ p. AsksOn p u) is (at u h)
  where
    at : (u : Taken) → StageAsksOn t u → AsksOn (planned_at t) u
    at taken.More h = h
    at (taken.Replied r) h = h
    at (taken.Refused r) h = h
