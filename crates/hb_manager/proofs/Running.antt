-- Runs of the manager, one call longer.
use Rattle.std.proofs.Common.{◌≡◌, ℕ, List, [], ◌∷◌, ◌++◌, refl, sym, subst, true, inl}
use Rattle.std.proofs.lemmas.Bool.{false≢true}
use Rattle.hb_types.specs.declared.answer.Answer.{Answer}
use Rattle.hb_types.specs.declared.answer.Answer.TheVariants as answer
use Rattle.hb_types.specs.declared.request.Request.{Request}
use Rattle.hb_types.specs.declared.request.Request.TheVariants as request
use Rattle.hb_types.specs.declared.trail.TrailEntry.{TrailEntry}
use Rattle.hb_types.specs.declared.names.Left.{Left}
use Rattle.hb_types.specs.declared.names.NodeName.{NodeName}
use Rattle.hb_types.specs.declared.names.Tx.{Tx}
use Rattle.hb_types.specs.Calls.{may_pass}
use Rattle.hb_runs.specs.Board.{Board as BoardState, Steps, no_memory}
use Rattle.hb_runs.specs.ServerRuns.{Asked}
use Rattle.hb_board.specs.Asking.{Fits, Goes, after, takes_none}
use Rattle.hb_board.specs.Shows.{Shows}
use Rattle.hb_board.proofs.Asking.{steps_after, steps_fit}
use Rattle.hb_board.specs.declared.board.Board.{Board}
use Rattle.hb_node.specs.Laws.{State, serving, deciding, managing, Passes, stays, passing, BoardRun, Images, Explains as ExplainsImage, asked_in, asked_of}
use Rattle.hb_node.proofs.Trails.{asked-append}
use Rattle.hb_manager.specs.Managing.{Explains, GoesOn, IsAnsweredBy, is_left_out, leaves_nothing}

-- ---- requests that are left out may pass

ready_passes : (tx : Tx) (a : Answer) → may_pass (request.Ready tx) a ≡ true
ready_passes tx answer.NoMemory = refl
ready_passes tx _ = refl

end_passes : (tx : Tx) (left : Left) (a : Answer) → may_pass (request.End tx left) a ≡ true
end_passes tx left answer.NoMemory = refl
end_passes tx left _ = refl

settled_passes : (tx : Tx) (node : NodeName) (a : Answer) → may_pass (request.Settled tx node) a ≡ true
settled_passes tx node answer.NoMemory = refl
settled_passes tx node _ = refl

halted_passes : (node : NodeName) (a : Answer) → may_pass (request.Halted node) a ≡ true
halted_passes node answer.NoMemory = refl
halted_passes node _ = refl

pub passes : (q : Request) (a : Answer) → is_left_out q ≡ true → may_pass q a ≡ true
passes (request.Ready tx) a is = ready_passes tx a
passes (request.End tx left) a is = end_passes tx left a
passes (request.Settled tx node) a is = settled_passes tx node a
passes (request.Halted node) a is = halted_passes node a
passes _ a is = absurd (false≢true is)

pub left_out_takes_none : (q : Request) → is_left_out q ≡ true → takes_none q ≡ true
left_out_takes_none (request.Ready tx) is = refl
left_out_takes_none (request.End tx left) is = refl
left_out_takes_none (request.Settled tx node) is = refl
left_out_takes_none (request.Halted node) is = refl
left_out_takes_none _ is = absurd (false≢true is)

-- ---- one call more

passes_on : (b c d : BoardState) (a : Asked) → Passes b c → may_pass a.request a.answer ≡ true → Steps c a.request a.answer d → Passes b d
passes_on b c d a (stays x) may step = passing x d d a may step (stays d)
passes_on b c d a (passing x y z o may_o first more) may step = passing x y d o may_o first (passes_on y z d a more may step)

run_passes : (b c d : BoardState) (asked : List Asked) (a : Asked) → BoardRun b asked c → may_pass a.request a.answer ≡ true → Steps c a.request a.answer d → BoardRun b asked d
run_passes b c d [] a run may step = passes_on b c d a run may step
run_passes b c d (o ∷ more) a (x, y, before, first, rest) may step = (x, y, before, first, run_passes y c d more a rest may step)

run_enters : (b c d : BoardState) (asked : List Asked) (a : Asked) → BoardRun b asked c → Steps c a.request a.answer d → BoardRun b (asked ++ a ∷ []) d
run_enters b c d [] a run step = (c, d, run, step, stays d)
run_enters b c d (o ∷ more) a (x, y, before, first, rest) step = (x, y, before, first, run_enters y c d more a rest step)

-- ---- what explains the manager

pub explained_past : (old new : Board) (q : Request) (a : Answer) (origin : State) (asked : List Asked) → may_pass q a ≡ true → GoesOn q a old new → Explains old origin asked → Explains new origin asked
explained_past old new q a (managing origin) asked may goes (b, run, shows) =
    let s = goes b shows in (s.0, run_passes origin b s.0 asked (record { request = q; answer = a }) run may s.1, s.2)
explained_past old new q a (serving s) asked may goes e = absurd e
explained_past old new q a (deciding k) asked may goes e = absurd e

pub explained_more : (old new : Board) (trail : List TrailEntry) (e : TrailEntry) (origin : State) → GoesOn e.request e.answer old new → Explains old origin (asked_of trail) → Explains new origin (asked_of (trail ++ e ∷ []))
explained_more old new trail e (managing origin) goes (b, run, shows) =
    let s = goes b shows in
    (s.0, subst (λ (l : List Asked). BoardRun origin l s.0) (sym (asked-append trail e)) (run_enters origin b s.0 (asked_of trail) (asked_in e) run s.1), s.2)
explained_more old new trail e (serving s) goes is = absurd is
explained_more old new trail e (deciding k) goes is = absurd is

-- ---- its images are empty

told : (m : Board) (origin : State) (asked : List Asked) (log : List ℕ) → Explains m origin asked → log ≡ [] → ExplainsImage origin asked log
told m (managing origin) asked log (b, run, shows) is = (managing b, run, is)
told m (serving s) asked log e is = absurd e
told m (deciding k) asked log e is = absurd e

pub images_empty : (before after : Board) (origin : State) (old new : List TrailEntry) (e : TrailEntry) → Explains before origin (asked_of old) → Explains after origin (asked_of new) → Images origin old new e leaves_nothing leaves_nothing
images_empty before after origin old new e was is = record {
  before = λ m log area lt empty. empty;
  within = λ m log area le empty. inl (told before origin (asked_of old) log was empty.0);
  after = λ m log area le empty. told after origin (asked_of new) log is empty.0;
}

-- ---- the board was asked

pub applied : (old new : Board) (q : Request) (a : Answer) → IsAnsweredBy old q a → ((b : BoardState) → Shows b old → Fits b q a → Shows (after b q a) new) → GoesOn q a old new
applied old new q a answered done = λ b shows.
    let s = answered.0 b shows in
    (s.0, s.1, subst (λ (x : BoardState). Shows x new) (sym (steps_after b s.0 q a s.1 answered.1)) (done b shows (steps_fit b s.0 q a s.1)))

pub undone : (old new : Board) (q : Request) → ((b : BoardState) → Shows b old → Shows b new) → GoesOn q answer.NoMemory old new
undone old new q same = λ b shows. (b, no_memory q, same b shows)

pub goes_on : (old new : Board) (q : Request) (a : Answer) → Goes q a old new → GoesOn q a old new
goes_on old new q a goes = λ b shows. let s = goes b shows in (s.0, s.1, s.2)
