-- A call in the trail of a node.
use Rattle.std.proofs.Common.{◌≡◌, inl, inr, ℕ, ◌≤◌, List, [], ◌∷◌, ◌++◌, refl, sym, ◌∙◌, ap, subst, arith, true}
use Rattle.std.specs.Prelude.{Bool, Option, ◌⊎◌}
use Rattle.std.proofs.lemmas.Bool.{false≢true}
use Rattle.hb_edge.specs.Fuses.{last_of}
use Rattle.hb_edge.specs.Images.{Image}
use Rattle.hb_edge.specs.declared.fused.Fused.{Fused}
use Rattle.hb_types.specs.declared.answer.Answer.{Answer}
use Rattle.hb_types.specs.declared.answer.Answer.TheVariants as answer
use Rattle.hb_types.specs.declared.change.Stored.{Stored}
use Rattle.hb_types.specs.declared.request.Request.{Request}
use Rattle.hb_types.specs.declared.request.Request.TheVariants as request
use Rattle.hb_types.specs.declared.trail.TrailEntry.{TrailEntry}
use Rattle.hb_types.specs.Calls.{IsAnswer, may_pass}
use Rattle.hb_disks.specs.Points.{Point}
use Rattle.hb_runs.specs.Kinds.{tells_nothing}
use Rattle.hb_runs.specs.Server.{SState}
use Rattle.hb_runs.specs.ServerRuns.{Asked}
use Rattle.hb_node.specs.Laws.{State as NodeState, serving, deciding, managing, Images, Explains as IsExplained, asked_in, asked_of, entry_of}
use Rattle.hb_server.specs.declared.state.State.{State}
use Rattle.hb_server.specs.Law.{Explains, ExplainsNode, Goes, IsLeft, IsTold, asking, content_of, is_passed, last_in, leaves_in, left_of, log_left}
use Rattle.hb_server.proofs.Asking.{at_moment, told_goes}

pub passes : (q : Request) (a : Answer) → is_passed q a ≡ true → may_pass q a ≡ true
passes (request.Commit tx n) answer.Down is = refl
passes (request.Commit tx n) answer.NoBranch is = refl
passes (request.Commit tx n) answer.NotPrepared is = refl
passes (request.Commit tx n) (answer.Low floor) is = refl
passes (request.Commit tx n) _ is = absurd (false≢true is)
passes (request.Rollback tx) answer.Down is = refl
passes (request.Rollback tx) answer.NoBranch is = refl
passes (request.Rollback tx) _ is = absurd (false≢true is)
passes _ a is = absurd (false≢true is)

-- a call that is passed tells nothing
pub passed_tells : (q : Request) (a : Answer) → is_passed q a ≡ true → tells_nothing a ≡ true
passed_tells (request.Commit tx n) answer.Down is = refl
passed_tells (request.Commit tx n) answer.NoBranch is = refl
passed_tells (request.Commit tx n) answer.NotPrepared is = refl
passed_tells (request.Commit tx n) (answer.Low floor) is = refl
passed_tells (request.Commit tx n) _ is = absurd (false≢true is)
passed_tells (request.Rollback tx) answer.Down is = refl
passed_tells (request.Rollback tx) answer.NoBranch is = refl
passed_tells (request.Rollback tx) _ is = absurd (false≢true is)
passed_tells _ a is = absurd (false≢true is)

pub asked_more : (entries : List TrailEntry) (q : Request) (a : Answer) (from to : ℕ) → asked_of (entries ++ entry_of q a from to ∷ []) ≡ asked_of entries ++ asking q a ∷ []
asked_more [] q a from to = refl
asked_more (e ∷ entries) q a from to = ap (λ (l : List Asked). asked_in e ∷ l) (asked_more entries q a from to)

node_left : (first : SState) (asked : List Asked) (image : Image) → IsLeft first asked image → IsExplained (serving first) asked image
node_left first asked image left = (serving left.state, left.run, left.has)

-- an answer that is told as a fault is one
pub told_well : (a told : Answer) → IsTold a told → IsAnswer a → IsAnswer told
told_well a told (inl same) is = subst IsAnswer (sym same) is
told_well a told (inr (heavy, none)) is = subst IsAnswer (sym none) tt

pub told_fault : (a told : Answer) (area : Bool) → IsTold a told → told ≡ answer.Fault area → a ≡ answer.Fault area
told_fault a told area (inl same) is = sym same ∙ is
told_fault a told area (inr (heavy, none)) is = absurd (let wrong : answer.NoMemory ≡ answer.Fault area = sym none ∙ is in cc)

module _ {D S : Type 0} (content : D → Option Image) (left : D → ℕ → Image → Type 0) (last : D → ℕ) (rows : S → List Stored) (keeps : S → Option Point → Image → Type 0) (staged : S → Image → Type 0) (point_in : Image → Option Point → Type 0) where
  abbrev IsExplainedBy : SState → List Asked → State (Fused D) S → ℕ → Type 0
  IsExplainedBy first asked state moment = Explains (content_of content) (left_of left) (last_of last) rows keeps staged point_in first asked state moment

  abbrev GoesBy : SState → List Asked → Request → Answer → State (Fused D) S → State (Fused D) S → ℕ → ℕ → Type 0
  GoesBy first asked q a old new before after = Goes (content_of content) (left_of left) (last_of last) rows keeps staged point_in first asked q a old new before after

  -- what a law tells of every state
  abbrev Leaves : State (Fused D) S → Type 0
  Leaves state = (first : SState) (asked : List Asked) (moment m : ℕ) (image : Image) → IsExplainedBy first asked state moment → last_in (last_of last) state ≤ m → log_left (left_of left) state m image → IsLeft first asked image

  -- nothing is done
  pub none_images : (name : ℕ) (state : State (Fused D) S) (origin : NodeState) (entries : List TrailEntry) (q : Request) (a : Answer) (at : ℕ) → Leaves state → last_in (last_of last) state ≤ at → ExplainsNode content left last rows keeps staged point_in name state origin (asked_of entries)
      → Images origin entries entries (entry_of q a at at) (leaves_in left state) (leaves_in left state)
  none_images name state (serving first) entries q a at leaves time is = record {
    before = λ m log area lt l. l;
    within = λ m log area le l. inl (node_left first (asked_of entries) log (leaves first (asked_of entries) (last_in (last_of last) state) m log is.1 (omega (arith, time, le)) l.0));
    after = λ m log area le l. node_left first (asked_of entries) log (leaves first (asked_of entries) (last_in (last_of last) state) m log is.1 (omega (arith, time, le)) l.0);
  }
  none_images name state (deciding k) entries q a at leaves time is = absurd is
  none_images name state (managing b) entries q a at leaves time is = absurd is

  module _ (name : ℕ) (old new : State (Fused D) S) (q : Request) (a : Answer) (before after : ℕ) (time : last_in (last_of last) old ≤ before) (later : last_in (last_of last) new ≤ after) (leaves : Leaves new)
      (goes : (first : SState) (asked : List Asked) → IsExplainedBy first asked old before → GoesBy first asked q a old new before after) where
    now : (first : SState) (asked : List Asked) → IsExplainedBy first asked old (last_in (last_of last) old) → IsExplainedBy first asked old before
    now first asked is = at_moment (content_of content) (left_of left) (last_of last) rows keeps staged point_in first asked old (last_in (last_of last) old) before time is

    within : (first : SState) (asked : List Asked) (told : Answer) → IsTold a told → IsExplainedBy first asked old (last_in (last_of last) old) → GoesBy first asked q told old new before after
    within first asked told is_told is = told_goes (content_of content) (left_of left) (last_of last) rows keeps staged point_in first asked q a told old new before after is_told (goes first asked (now first asked is))

    either : (first : SState) (asked : List Asked) (told : Answer) (image : Image) → (IsLeft first asked image ⊎ IsLeft first (asked ++ asking q told ∷ []) image) → IsExplained (serving first) asked image ⊎ IsExplained (serving first) (asked ++ asking q told ∷ []) image
    either first asked told image (inl was) = inl (node_left first asked image was)
    either first asked told image (inr is) = inr (node_left first (asked ++ asking q told ∷ []) image is)

    -- the call is entered
    pub entered_law : (origin : NodeState) (was entries : List TrailEntry) (told : Answer) → IsTold a told → entries ≡ was ++ entry_of q told before after ∷ [] → ExplainsNode content left last rows keeps staged point_in name old origin (asked_of was)
        → ExplainsNode content left last rows keeps staged point_in name new origin (asked_of entries)
    entered_law (serving first) was entries told is_told more is = (
      is.0,
      subst (λ (l : List Asked). IsExplainedBy first l new (last_in (last_of last) new)) (sym (ap asked_of more ∙ asked_more was q told before after))
          (at_moment (content_of content) (left_of left) (last_of last) rows keeps staged point_in first (asked_of was ++ asking q told ∷ []) new after (last_in (last_of last) new) (omega arith) (within first (asked_of was) told is_told is.1).explains),
    )
    entered_law (deciding k) was entries told is_told more is = absurd is
    entered_law (managing b) was entries told is_told more is = absurd is

    pub entered_images : (origin : NodeState) (was entries : List TrailEntry) (told : Answer) → IsTold a told → entries ≡ was ++ entry_of q told before after ∷ [] → ExplainsNode content left last rows keeps staged point_in name old origin (asked_of was)
        → Images origin was entries (entry_of q told before after) (leaves_in left old) (leaves_in left new)
    entered_images (serving first) was entries told is_told more is =
        let went = within first (asked_of was) told is_told is.1 in
        record {
          before = λ m log area lt l. (went.log.before m log lt l.0, went.area.before m area lt l.1);
          within = λ m log area le l. either first (asked_of was) told log (went.log.each m log le l.0);
          after = λ m log area le l.
              subst (λ (asked : List Asked). IsExplained (serving first) asked log) (sym (ap asked_of more ∙ asked_more was q told before after))
              (node_left first (asked_of was ++ asking q told ∷ []) log (leaves first (asked_of was ++ asking q told ∷ []) after m log went.explains (omega (arith, later, le)) l.0));
        }
    entered_images (deciding k) was entries told is_told more is = absurd is
    entered_images (managing b) was entries told is_told more is = absurd is

    module _ (passed : (first : SState) (asked : List Asked) → IsExplainedBy first asked old before → IsExplainedBy first asked new after) where
      -- the call is left out
      pub passed_law : (origin : NodeState) (was : List TrailEntry) → ExplainsNode content left last rows keeps staged point_in name old origin (asked_of was) → ExplainsNode content left last rows keeps staged point_in name new origin (asked_of was)
      passed_law (serving first) was is = (
        is.0,
        at_moment (content_of content) (left_of left) (last_of last) rows keeps staged point_in first (asked_of was) new after (last_in (last_of last) new) (omega arith) (passed first (asked_of was) (now first (asked_of was) is.1)),
      )
      passed_law (deciding k) was is = absurd is
      passed_law (managing b) was is = absurd is

      pub passed_images : (origin : NodeState) (was : List TrailEntry) → ExplainsNode content left last rows keeps staged point_in name old origin (asked_of was) → Images origin was was (entry_of q a before after) (leaves_in left old) (leaves_in left new)
      passed_images (serving first) was is =
          let went = within first (asked_of was) a (inl refl) is.1 in
          record {
            before = λ m log area lt l. (went.log.before m log lt l.0, went.area.before m area lt l.1);
            within = λ m log area le l. either first (asked_of was) a log (went.log.each m log le l.0);
            after = λ m log area le l. node_left first (asked_of was) log (leaves first (asked_of was) after m log (passed first (asked_of was) (now first (asked_of was) is.1)) (omega (arith, later, le)) l.0);
          }
      passed_images (deciding k) was is = absurd is
      passed_images (managing b) was is = absurd is
