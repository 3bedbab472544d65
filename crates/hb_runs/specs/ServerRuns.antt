-- Runs of a server: requests and answers, one after another.
use Rattle.std.specs.Prelude.{◌≡◌, ℕ, false, List, [], ◌∷◌}
use Rattle.hb_types.specs.declared.answer.Answer.{Answer}
use Rattle.hb_types.specs.declared.request.Request.{Request}
use Rattle.hb_disks.specs.Redo.{Redone}
use Rattle.hb_runs.specs.Server.{SState}
use Rattle.hb_runs.specs.ServerEffects.{Effect, Steps}
use Rattle.hb_runs.specs.ServerCauses.{Causes}
use Rattle.hb_runs.specs.ServerAnswers.{Right}

-- ---- runs

-- a request and its answer
pub record Asked : Type 0 where
  pub request : Request
  pub answer : Answer

-- one request: effects that it causes, in this order, lead to the next state
pub record Turns (s : SState) (a : Asked) (t : SState) : Type 0 where
  pub effects : List Effect
  pub causes : Causes s a.request a.answer effects
  pub right : Right s a.request a.answer
  pub steps : Steps s effects t

abbrev pub Run : SState → List Asked → SState → Type 0
Run s [] t = s ≡ t
Run s (a ∷ more) t = (u : SState) × Turns s a u × Run u more t

-- a stopped server over a base
abbrev pub stopped_at : Redone → ℕ → SState
stopped_at base place = record { base = base; place = place; log = []; live = []; up = false }
