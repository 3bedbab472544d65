-- What stands along a server's whole run: its log is right, and each live branch has what its transaction wrote.
use Rattle.std.proofs.Common.{◌≡◌, ℕ, List, [], ◌∷◌, ◌++◌, sym, ◌∙◌, subst, append_assoc, append-nil, ap, refl}
use Rattle.hb_types.specs.declared.change.Change.{Change}
use Rattle.hb_types.specs.declared.change.LogItem.{LogItem}
use Rattle.hb_disks.specs.Redo.{redo}
use Rattle.hb_runs.specs.Server.{SState}
use Rattle.hb_runs.specs.ServerEffects.{Effect, enlisted, granted, written, prepared, committed, aborted, dropped, lost, came_up, happens, Steps, votes_of}
use Rattle.hb_serverlaws.proofs.LogKept.{now_is}
use Rattle.hb_runs.specs.ServerRuns.{Asked, Run, stopped_at}
use Rattle.hb_serverlaws.proofs.Lifting.{seen_after}
use Rattle.hb_serverlaws.proofs.Standing.{Stands, and_wrote, start_stands, turn_stands}
use Rattle.hb_serverlaws.specs.Logging.{LogIsKept, NowIsRedo}
use Rattle.hb_serverlaws.specs.Trails.{EnlistsOnce, Ran, noting, voted_in, writes_of, wrote}

-- what each transaction had written, with what it writes in a trail
abbrev pub and_all : (ℕ → List Change) → List Asked → ℕ → List Change
and_all own trail tx = own tx ++ writes_of tx trail

same_own : (log : List LogItem) (seen : List ℕ) (own new : ℕ → List Change) (s : SState) → ((tx : ℕ) → own tx ≡ new tx) → Stands log seen own s
    → Stands log seen new s
same_own log seen own new s same k =
    record { locked = k.locked; kept = k.kept; own_writes = λ b i. k.own_writes b i ∙ same b.tx; unseen = λ t e. sym (same t) ∙ k.unseen t e }

pub run_stands : (log : List LogItem) (seen : List ℕ) (own : ℕ → List Change) (s : SState) (trail : List Asked) (t : SState) → Run s trail t → EnlistsOnce seen trail
    → Stands log seen own s → Stands log (seen_after seen trail) (and_all own trail) t
run_stands log seen own s [] t run once k = same_own log seen own _ t (λ tx. sym (append-nil (own tx))) (subst (Stands log seen own) run k)
run_stands log seen own s (a ∷ more) t run once k =
    same_own log (seen_after seen (a ∷ more)) _ _ t (λ tx. append_assoc (own tx) (wrote tx a.request a.answer) (writes_of tx more))
    (run_stands log (noting seen a.request) (and_wrote own a.request a.answer) run.0 more t run.2 once.1 (turn_stands log seen own s a run.0 run.1 once.0 k))

pub ran_stands : (log : List LogItem) (place : ℕ) (trail : List Asked) (s : SState) → Ran log place trail s
    → Stands log (seen_after (voted_in log) trail) (λ tx. writes_of tx trail) s
ran_stands log place trail s r =
    run_stands log (voted_in log) (λ tx. []) (stopped_at (redo log) place) trail s r.run r.once (start_stands log place r.is_right)

pub log_is_kept : LogIsKept
log_is_kept log place trail s r = (ran_stands log place trail s r).kept.ok

-- ---- a log grows

pub record Grows (s t : SState) : Type 0 where
  pub more : List LogItem
  pub is : t.log ≡ s.log ++ more

grows_both : (s u t : SState) → Grows s u → Grows u t → Grows s t
grows_both s u t g h = record { more = g.more ++ h.more; is = h.is ∙ ap (λ z. z ++ h.more) g.is ∙ append_assoc s.log g.more h.more }

effect_grows : (s : SState) (e : Effect) → Grows s (happens s e)
effect_grows s (prepared t) = record { more = votes_of s t s.live; is = refl }
effect_grows s (committed t n) = record { more = _; is = refl }
effect_grows s (aborted t) = record { more = _; is = refl }
effect_grows s (enlisted t) = record { more = []; is = sym (append-nil s.log) }
effect_grows s (granted t p m) = record { more = []; is = sym (append-nil s.log) }
effect_grows s (written t c) = record { more = []; is = sym (append-nil s.log) }
effect_grows s (dropped t) = record { more = []; is = sym (append-nil s.log) }
effect_grows s lost = record { more = []; is = sym (append-nil s.log) }
effect_grows s came_up = record { more = []; is = sym (append-nil s.log) }

steps_grow : (s : SState) (es : List Effect) (t : SState) → Steps s es t → Grows s t
steps_grow s [] t st = subst (Grows s) st (record { more = []; is = sym (append-nil s.log) })
steps_grow s (e ∷ es) t st = grows_both s (happens s e) t (effect_grows s e) (steps_grow (happens s e) es t st.1)

pub run_grows : (s : SState) (trail : List Asked) (t : SState) → Run s trail t → Grows s t
run_grows s [] t run = subst (Grows s) run (record { more = []; is = sym (append-nil s.log) })
run_grows s (a ∷ more) t run = grows_both s run.0 t (steps_grow s run.1.effects run.0 run.1.steps) (run_grows run.0 more t run.2)

-- ---- redo along a run

pub same_base : (s : SState) (es : List Effect) (t : SState) → Steps s es t → t.base ≡ s.base
same_base s [] t st = ap (λ z. z.base) (sym st)
same_base s (e ∷ es) t st = same_base (happens s e) es t st.1 ∙ one e
  where
    one : (e : Effect) → (happens s e).base ≡ s.base
    one (enlisted tx) = refl
    one (granted tx p m) = refl
    one (written tx c) = refl
    one (prepared tx) = refl
    one (committed tx n) = refl
    one (aborted tx) = refl
    one (dropped tx) = refl
    one lost = refl
    one came_up = refl

pub run_base : (s : SState) (trail : List Asked) (t : SState) → Run s trail t → t.base ≡ s.base
run_base s [] t run = ap (λ z. z.base) (sym run)
run_base s (a ∷ more) t run = run_base run.0 more t run.2 ∙ same_base s run.1.effects run.0 run.1.steps

pub now_is_redo : NowIsRedo
now_is_redo log place trail s run = now_is log s (run_base (stopped_at (redo log) place) trail s run)
