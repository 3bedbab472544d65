-- Where a talk stands while its requests are asked one call at a time, and what calls it follows from there.
use Rattle.std.specs.Prelude.{◌≡◌, Bool, true, false, not, IsTrue, List, ◌∷◌, Option, Some, None}
use Rattle.hb_types.specs.declared.answer.Answer.{Answer}
use Rattle.hb_types.specs.declared.answer.Answer.TheVariants as answer
use Rattle.hb_types.specs.declared.request.Request.TheVariants as request
use Rattle.hb_types.specs.declared.trail.Call.{Call}
use Rattle.hb_model.specs.Answers.{call}
use Rattle.hb_model.specs.declared.reply.Reply.{Reply}
use Rattle.hb_talk.specs.Talk.{Talk, says, asks, Follows, is_blocked}
use Rattle.hb_wait.specs.Waiting.{lock_of, heard, node_asked, request_asked}
use Rattle.hb_wait.specs.declared.pending.Heard.{Heard}
use Rattle.hb_wait.specs.declared.pending.Heard.TheVariants as heard_as
use Rattle.hb_wait.specs.declared.pending.Pending.{Pending}
use Rattle.hb_wait.specs.declared.pending.Pending.TheVariants as pending

-- a talk that goes on, or one whose Lock is blocked or waits, with what follows the Lock's answer
pub data Course (R : Type 0) : Type 0 where
  free : Talk R → Course R
  halted : Pending → (Answer → Talk R) → Course R

-- a pending request, and what follows its answer
abbrev pub pending_in : {R : Type 0} → Pending → (Answer → Talk R) → Course R
pending_in (pending.Asks node q) k = free (asks node.0 q k)
pending_in (pending.Blocked l path wanted holders) k = halted (pending.Blocked l path wanted holders) k
pending_in (pending.Waits l) k = halted (pending.Waits l) k

-- what is asked next
abbrev pub next_in : {R : Type 0} → Course R → Option Pending
next_in (free (says r)) = None
next_in (free (asks node q k)) = Some (pending.Asks (record { 0 = node }) q)
next_in (halted p k) = Some p

abbrev pub by_heard : {R : Type 0} → (Answer → Talk R) → Heard → Course R
by_heard k (heard_as.Answered a) = free (k a)
by_heard k (heard_as.Waits l edges) = halted (pending.Waits l) k
by_heard k (heard_as.More p) = pending_in p k

-- where an answer leads
abbrev pub after_call : {R : Type 0} → Course R → Answer → Course R
after_call (free (says r)) a = free (says r)
after_call (free (asks node q k)) a = by_heard k (heard (pending.Asks (record { 0 = node }) q) a)
after_call (halted p k) a = by_heard k (heard p a)

-- ---- the calls from there on

abbrev pub FollowsIn : {R : Type 0} → Course R → List Call → R → Type 0
FollowsIn (free t) cs r = Follows false t cs r
FollowsIn (halted (pending.Asks node q) k) cs r = Follows false (asks node.0 q k) cs r
FollowsIn (halted (pending.Blocked l path wanted holders) k) cs r =
    Follows false (asks l.node.0 (lock_of l) k) (call l.node.0 (lock_of l) (answer.Blocked path wanted holders) ∷ cs) r
FollowsIn (halted (pending.Waits l) k) cs r = Follows true (asks l.node.0 (lock_of l) k) cs r

-- what the manager may answer to Wait and to Ready; only a Lock is blocked
abbrev pub is_of_wait : Answer → Bool
is_of_wait (answer.Waiting edges) = true
is_of_wait answer.Gone = true
is_of_wait (answer.Cycle edges) = true
is_of_wait answer.NoMemory = true
is_of_wait _ = false

abbrev pub is_of_ready : Answer → Bool
is_of_ready (answer.NotYet target) = true
is_of_ready answer.Ready = true
is_of_ready _ = false

abbrev pub IsExpected : Pending → Answer → Type 0
IsExpected (pending.Asks node (request.Lock tx path mode)) a = Unit {0}
IsExpected (pending.Asks node q) a = IsTrue (not (is_blocked a))
IsExpected (pending.Blocked l path wanted holders) a = IsTrue (is_of_wait a)
IsExpected (pending.Waits l) a = IsTrue (is_of_ready a)

-- One call further: with such an answer a course follows the call and then what it follows from where the answer leads.
pub record Leads {R : Type 0} (c : Course R) (p : Pending) (a : Answer) : Type 0 where
  pub follows : (cs : List Call) (r : R) → FollowsIn (after_call c a) cs r → FollowsIn c (call (node_asked p) (request_asked p) a ∷ cs) r

-- where the manager answers as it may, the calls of a course are those of its talk, waits among them
abbrev pub WaitsFollow : Type 0
WaitsFollow = (c : Course (List Reply)) (p : Pending) (a : Answer) → next_in c ≡ Some p → IsExpected p a → Leads c p a
