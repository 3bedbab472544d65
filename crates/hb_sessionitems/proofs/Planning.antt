-- What a session asks for a statement is asked by its plan, or for a wait in it.
use Rattle.std.proofs.Common.{◌≡◌, ◌⊎◌, inl, inr, List, [], Bool, true, false, Some, refl, subst, sym, ap, ◌∙◌}
use Rattle.std.specs.Prelude.{⊤, unwrap_or}
use Rattle.std.proofs.lemmas.Bool.{false≢true}
use Rattle.hb_types.specs.declared.answer.Answer.{Answer}
use Rattle.hb_types.specs.declared.answer.Answer.TheVariants as answer
use Rattle.hb_types.specs.declared.names.NodeName.{NodeName}
use Rattle.hb_types.specs.declared.request.Request.{Request}
use Rattle.hb_types.specs.declared.request.Request.TheVariants as request
use Rattle.hb_types.specs.declared.trail.Call.{Call}
use Rattle.hb_model.specs.declared.reply.Reply.{Reply}
use Rattle.hb_model.specs.declared.statement.Statement.{Statement}
use Rattle.hb_talk.specs.Sessions.{with_reply}
use Rattle.hb_talk.specs.Talk.{Talk, mgr}
use Rattle.hb_access.specs.Accesses.{at_branch, use_of}
use Rattle.hb_access.specs.declared.access.Next.TheVariants as next
use Rattle.hb_access.specs.declared.usage.Usage.{Usage}
use Rattle.hb_plan.specs.Planned.{now_hears}
use Rattle.hb_wait.specs.Courses.{free, next_in, pending_in}
use Rattle.hb_wait.specs.Waiting.{after_lock, after_ready, after_request, after_wait, heard, request_asked}
use Rattle.hb_wait.specs.declared.pending.Heard.{Heard}
use Rattle.hb_wait.specs.declared.pending.Heard.TheVariants as heard_as
use Rattle.hb_wait.specs.declared.pending.Lock.{Lock}
use Rattle.hb_wait.specs.declared.pending.Pending.{Pending}
use Rattle.hb_wait.specs.declared.pending.Pending.TheVariants as pending
use Rattle.hb_session.specs.declared.session.Progress.TheVariants as progress
use Rattle.hb_session.specs.declared.stage.Given.{Given as First}
use Rattle.hb_session.specs.declared.stage.Stage.{Stage}
use Rattle.hb_session.specs.declared.stage.Stage.TheVariants as stage
use Rattle.hb_session.specs.Runs.{Runs, stays, gives, asks, refuses}
use Rattle.hb_session.specs.Sitting.{Sitting, in_transaction, is_busy, is_ending, is_refused, owner, planned, stands_at}
use Rattle.hb_session.specs.Steps.{GivesAt, Moves, MovesAt, OpensAt, RunsOutAt, StaysAt, nothing_used}
use Rattle.hb_itemlaws.proofs.Ends.{is_of_end}
use Rattle.hb_sessionitems.specs.GivingUp.{InTurn}
use Rattle.hb_sessionitems.proofs.Courses.{none_is_some}
use Rattle.hb_sessionitems.proofs.Showing.{going_none}

-- what is asked for a statement: by its plan, for a wait in it, or at the manager before the first one's
abbrev pub is_planning : Request → Bool
is_planning (request.Enter tx o) = true
is_planning (request.Enlist tx) = true
is_planning (request.Lock tx p m) = true
is_planning (request.Read tx place) = true
is_planning (request.Scan tx space) = true
is_planning (request.ScanGroup tx space group) = true
is_planning (request.Write tx change) = true
is_planning (request.Wait tx node p m holders) = true
is_planning (request.Ready tx) = true
is_planning _ = false

-- what is asked at an end isn't asked for a statement
pub end_unplanned : (q : Request) → is_of_end q ≡ true → is_planning q ≡ false
end_unplanned q = elim q as (λ x. is_of_end x ≡ true → is_planning x ≡ false) [
  | request.Prepare tx ↦ λ e. refl
  | request.Decide tx votes ↦ λ e. refl
  | request.Commit tx number ↦ λ e. refl
  | request.Abort tx ↦ λ e. refl
  | request.Rollback tx ↦ λ e. refl
  | request.End tx left ↦ λ e. refl
  | x ↦ λ e. absurd (false≢true e)
]

-- the request that is awaited is one of these
abbrev pub IsPlanning : Stage → Type 0
IsPlanning (stage.Asks b) = is_planning (request_asked b.pending) ≡ true
IsPlanning _ = ⊤

-- ---- stages

branch_planned : (u : Usage) (node : NodeName) (q : Request) → at_branch u (next.Ask node q) ≡ true → is_planning q ≡ true
unfolding at_branch
branch_planned u node (request.Enlist tx) e = refl
branch_planned u node (request.Lock tx p m) e = refl
branch_planned u node (request.Read tx place) e = refl
branch_planned u node (request.Scan tx space) e = refl
branch_planned u node (request.ScanGroup tx space group) e = refl
branch_planned u node (request.Write tx change) e = refl
branch_planned u node _ e = absurd (false≢true e)

stays_planned : (u : Usage) (g : Stage) → StaysAt u g → IsPlanning g
stays_planned u (stage.Asks b) h = subst (λ x. is_planning (request_asked x) ≡ true) (sym h.pending) (branch_planned u h.node h.request h.branch)
stays_planned u _ h = tt

ending_planned : (g : Stage) → is_ending g ≡ true → IsPlanning g
ending_planned (stage.Asks b) e = absurd (false≢true e)
ending_planned _ e = tt

outside_planned : (g : Stage) → in_transaction g ≡ false → IsPlanning g
outside_planned (stage.Asks b) e = absurd (false≢true (sym e))
outside_planned _ e = tt

ended_planned : (g : Stage) → is_ending g ≡ in_transaction g → IsPlanning g
ended_planned (stage.Asks b) e = absurd (false≢true e)
ended_planned _ e = tt

-- ---- what is heard

abbrev HeardPlanning : Heard → Type 0
HeardPlanning (heard_as.More q) = is_planning (request_asked q) ≡ true
HeardPlanning _ = ⊤

lock_planned : (l : Lock) (a : Answer) → HeardPlanning (after_lock l a)
lock_planned l (answer.Blocked p m holders) = refl
lock_planned l _ = tt

request_planned : (node : NodeName) (q : Request) (a : Answer) → HeardPlanning (after_request node q a)
request_planned node (request.Lock tx p m) a = lock_planned (record { tx = tx; node = node; path = p; mode = m }) a
request_planned node _ a = tt

wait_planned : (l : Lock) (a : Answer) → HeardPlanning (after_wait l a)
wait_planned l (answer.Waiting edges) = tt
wait_planned l answer.Gone = refl
wait_planned l _ = tt

ready_planned : (l : Lock) (a : Answer) → HeardPlanning (after_ready l a)
ready_planned l (answer.NotYet target) = refl
ready_planned l answer.Ready = refl
ready_planned l _ = tt

heard_planned : (p : Pending) (a : Answer) → HeardPlanning (heard p a)
heard_planned (pending.Asks node q) a = request_planned node q a
heard_planned (pending.Blocked l p m holders) a = wait_planned l a
heard_planned (pending.Waits l) a = ready_planned l a

-- ---- one step

-- a session that has nothing to ask asks nothing
asks_some : (m : Sitting) (g : Stage) → (is_busy g ≡ false) ⊎ (is_refused g ≡ true) → (p : Pending) → next_in (stands_at m [] g) ≡ Some p → ⊥
asks_some m stage.Idle h p e = none_is_some p e
asks_some m (stage.Open u) h p e = none_is_some p (sym (ap (λ t. next_in (free t)) (going_none m.back_ends (owner m) (use_of u))) ∙ e)
asks_some m (stage.Refused u r) h p e = none_is_some p (sym (ap (λ t. next_in (free (with_reply r.reply t))) (going_none m.back_ends (owner m) (use_of u))) ∙ e)
asks_some m _ (inl still) p e = false≢true (sym still)
asks_some m _ (inr refused) p e = false≢true refused

moved_planned : (u : Usage) (new : Sitting) → Moves u new → IsPlanning new.stage
moved_planned u new (inl h) = stays_planned u new.stage h
moved_planned u new (inr h) = ending_planned new.stage h.ending

begins_planned : (w : First) (h : Heard) (new : Sitting) → MovesAt (stage.Begins w) h new → IsPlanning new.stage
begins_planned w (heard_as.Answered (answer.Begun tx)) new e = subst IsPlanning (sym e) tt
begins_planned w _ new e = outside_planned new.stage e

asked_planned : (m new : Sitting) (g : Stage) (p : Pending) (h : Heard) → HeardPlanning h → MovesAt g h new → next_in (stands_at m [] g) ≡ Some p → IsPlanning new.stage
asked_planned m new (stage.Begins w) p h more moves e = begins_planned w h new moves
asked_planned m new (stage.Enters tx w) p h more moves e = moved_planned (nothing_used tx) new moves
asked_planned m new (stage.Asks s) p (heard_as.Answered x) more moves e = moved_planned s.plan.usage new moves
asked_planned m new (stage.Asks s) p (heard_as.Waits l edges) more moves e = subst IsPlanning (sym moves) refl
asked_planned m new (stage.Asks s) p (heard_as.More q) more moves e = subst IsPlanning (sym moves) more
asked_planned m new (stage.Ends x) p h more moves e = ended_planned new.stage moves
asked_planned m new stage.Idle p h more moves e = absurd (asks_some m stage.Idle (inl refl) p e)
asked_planned m new (stage.Open u) p h more moves e = absurd (asks_some m (stage.Open u) (inl refl) p e)
asked_planned m new (stage.Refused u r) p h more moves e = absurd (asks_some m (stage.Refused u r) (inr refl) p e)

given_planned : (g new : Stage) → is_busy g ≡ false → GivesAt g new → IsPlanning new
given_planned stage.Idle new still h = outside_planned new h
given_planned (stage.Open u) new still (inl h) = stays_planned u new h
given_planned (stage.Open u) new still (inr h) = ending_planned new h
given_planned _ new still h = absurd (false≢true (sym still))

opened_planned : (g new : Stage) → is_refused g ≡ true → OpensAt g new → IsPlanning new
opened_planned (stage.Refused u r) new refused h = subst IsPlanning (sym h) tt
opened_planned _ new refused h = absurd (false≢true refused)

-- ---- many

pub planned_on : (m last : Sitting) (given : List Statement) (calls : List Call) (replies : List Reply) → (runs : Runs m given calls replies last) → InTurn runs → IsPlanning m.stage → IsPlanning last.stage
planned_on m last given calls replies stays turn is = is
planned_on m last _ calls replies (gives {m = n} {sts = given} g more) turn is = planned_on n last given calls replies more turn.1 (given_planned m.stage n.stage turn.0 g.moves)
planned_on m last given _ _ (asks {m = n} {cs = calls} {rs = replies} p a shows h goes more) turn is =
    planned_on n last given calls replies more turn (asked_planned m n m.stage p (heard p a) (heard_planned p a) h.makes.moves (h.makes.next []))
planned_on m last given calls _ (refuses {m = n} {rs = replies} shows leaves to goes more) turn is =
    planned_on n last given calls replies more turn.2 (opened_planned m.stage n.stage turn.0 turn.1)

-- ---- where the session finds no memory

next_pending : {R : Type 0} (p : Pending) (k : Answer → Talk R) → next_in (pending_in p k) ≡ Some p
next_pending (pending.Asks node q) k = refl
next_pending (pending.Blocked l p m holders) k = refl
next_pending (pending.Waits l) k = refl

same_pending : (p q : Pending) → Some p ≡ Some q → is_planning (request_asked p) ≡ true → is_planning (request_asked q) ≡ true
same_pending p q e is = ap (λ o. is_planning (request_asked (unwrap_or o p))) (sym e) ∙ is

pub out_planned : (m new : Sitting) (g : Stage) (p : Pending) → RunsOutAt g new progress.More → ((sts : List Statement) → next_in (stands_at m sts g) ≡ Some p) → IsPlanning g
    → is_planning (request_asked p) ≡ true
out_planned m new (stage.Enters tx w) p out next is = same_pending (pending.Asks (record { 0 = mgr }) (request.Enter tx (owner m))) p (next []) refl
out_planned m new (stage.Asks b) p out next is = same_pending b.pending p (sym (next_pending b.pending (λ x. planned m [] (now_hears b.plan x))) ∙ next []) is
out_planned m new _ p out next is = absurd out
