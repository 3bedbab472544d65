-- What a pending request asks next, and what an answer makes of it.
use Rattle.std.specs.Prelude.{ℕ, Bool, true, false}
use Rattle.hb_types.specs.declared.answer.Answer.{Answer}
use Rattle.hb_types.specs.declared.answer.Answer.TheVariants as answer
use Rattle.hb_types.specs.declared.request.Request.{Request}
use Rattle.hb_types.specs.declared.request.Request.TheVariants as request
use Rattle.hb_types.specs.declared.names.NodeName.{NodeName}
use Rattle.hb_types.specs.Calls.{IsRequest, IsAnswer, AreHolders}
use Rattle.hb_types.specs.Numbers.{IsNumber}
use Rattle.hb_talk.specs.Talk.{mgr}
use Rattle.hb_wait.specs.declared.pending.Heard.{Heard}
use Rattle.hb_wait.specs.declared.pending.Heard.TheVariants as heard_as
use Rattle.hb_wait.specs.declared.pending.Lock.{Lock}
use Rattle.hb_wait.specs.declared.pending.Pending.{Pending}
use Rattle.hb_wait.specs.declared.pending.Pending.TheVariants as pending

abbrev pub lock_of : Lock → Request
lock_of l = request.Lock l.tx l.path l.mode

-- ---- what is asked next

abbrev pub node_asked : Pending → ℕ
node_asked (pending.Asks node q) = node.0
node_asked (pending.Blocked l path wanted holders) = mgr
node_asked (pending.Waits l) = mgr

abbrev pub request_asked : Pending → Request
request_asked (pending.Asks node q) = q
request_asked (pending.Blocked l path wanted holders) = request.Wait l.tx l.node path wanted holders
request_asked (pending.Waits l) = request.Ready l.tx

-- ---- what an answer makes of it

abbrev pub again : Lock → Heard
again l = heard_as.More (pending.Asks l.node (lock_of l))

abbrev pub after_lock : Lock → Answer → Heard
after_lock l (answer.Blocked path wanted holders) = heard_as.More (pending.Blocked l path wanted holders)
after_lock l a = heard_as.Answered a

abbrev pub after_request : NodeName → Request → Answer → Heard
after_request node (request.Lock tx path mode) a = after_lock (record { tx = tx; node = node; path = path; mode = mode }) a
after_request node q a = heard_as.Answered a

-- A cycle or want of memory is the answer of the Lock; any other answer that the manager has not for a wait is a lost branch.
abbrev pub after_wait : Lock → Answer → Heard
after_wait l (answer.Waiting edges) = heard_as.Waits l edges
after_wait l answer.Gone = again l
after_wait l (answer.Cycle edges) = heard_as.Answered (answer.Cycle edges)
after_wait l answer.NoMemory = heard_as.Answered answer.NoMemory
after_wait l _ = heard_as.Answered answer.NoBranch

abbrev pub after_ready : Lock → Answer → Heard
after_ready l (answer.NotYet target) = heard_as.More (pending.Waits l)
after_ready l answer.Ready = again l
after_ready l answer.NoMemory = heard_as.Answered answer.NoMemory
after_ready l _ = heard_as.Answered answer.NoBranch

abbrev pub heard : Pending → Answer → Heard
heard (pending.Asks node q) a = after_request node q a
heard (pending.Blocked l path wanted holders) a = after_wait l a
heard (pending.Waits l) a = after_ready l a

abbrev pub is_waiting : Pending → Bool
is_waiting (pending.Waits l) = true
is_waiting _ = false

-- ---- well formed

abbrev pub IsPending : Pending → Type 0
IsPending (pending.Asks node q) = IsRequest q
IsPending (pending.Blocked l path wanted holders) = IsNumber l.tx.0 × AreHolders holders
IsPending (pending.Waits l) = IsNumber l.tx.0

abbrev pub IsHeard : Heard → Type 0
IsHeard (heard_as.Answered a) = IsAnswer a
IsHeard (heard_as.Waits l edges) = IsNumber l.tx.0
IsHeard (heard_as.More p) = IsPending p
