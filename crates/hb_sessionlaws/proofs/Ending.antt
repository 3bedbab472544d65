-- The end of a transaction, whose requests are all permitted, one call at a time.
use Rattle.std.proofs.Common.{◌≡◌, Bool, true, false, List, Some, ap, subst}
use Rattle.std.proofs.lemmas.Bool.{false≢true}
use Rattle.std.proofs.lemmas.Option.{none-some, same_Some}
use Rattle.hb_types.specs.declared.answer.Answer.{Answer}
use Rattle.hb_types.specs.declared.answer.Answer.TheVariants as answer
use Rattle.hb_types.specs.declared.names.NodeName.{NodeName}
use Rattle.hb_types.specs.declared.request.Request.{Request}
use Rattle.hb_types.specs.declared.request.Request.TheVariants as request
use Rattle.hb_model.specs.declared.reply.Reply.{Reply}
use Rattle.hb_talk.specs.Talk.{Talk, says, asks}
use Rattle.hb_wait.specs.Courses.{Course, after_call, by_heard, free, halted, next_in}
use Rattle.hb_wait.specs.Waiting.{after_lock, after_request, lock_of, node_asked, request_asked}
use Rattle.hb_wait.specs.declared.pending.Lock.{Lock}
use Rattle.hb_wait.specs.declared.pending.Pending.{Pending}
use Rattle.hb_wait.specs.declared.pending.Pending.TheVariants as pending
use Rattle.hb_obeys.proofs.Obeying.{Always, Caller, Permits}
use Rattle.hb_obeys.proofs.Standing.{Moment, behind}
use Rattle.hb_sessionlaws.proofs.Undone.{Anyhow}

abbrev Replying : Type 0
Replying = Talk (List Reply)

-- the talk of a course that goes on
abbrev talk_or : Replying → Course (List Reply) → Replying
talk_or x (free t) = t
talk_or x (halted p k) = x

abbrev is_free : Course (List Reply) → Bool
is_free (free t) = true
is_free (halted p k) = false

pub same_talk : (t u : Replying) → free t ≡ free u → t ≡ u
same_talk t u e = ap (talk_or t) e

module _ (w : Caller) where
  pub next_permits : (t : Replying) (p : Pending) (m : Moment) → next_in (free t) ≡ Some p → Always w t m Anyhow → Permits w m (node_asked p) (request_asked p)
  next_permits (says r) p m e h = absurd (none-some p e)
  next_permits (asks node q k) p m e h =
      subst (λ x. Permits w m (node_asked x) (request_asked x)) (same_Some (pending.Asks (record { 0 = node }) q) p e) h.0

  -- ---- where an answer leads

  lock_leads : (l : Lock) (k : Answer → Replying) (m : Moment) (a : Answer) (u : Replying) → Always w (asks l.node.0 (lock_of l) k) m Anyhow
      → by_heard k (after_lock l a) ≡ free u → Always w u (behind l.node.0 (lock_of l) a m) Anyhow
  lock_leads l k m a u h = elim a as (λ x. by_heard k (after_lock l x) ≡ free u → Always w u (behind l.node.0 (lock_of l) x m) Anyhow) [
    | answer.Blocked path wanted holders ↦ λ e. absurd (false≢true (ap is_free e))
    | x ↦ λ e. subst (λ z. Always w z (behind l.node.0 (lock_of l) x m) Anyhow) (same_talk (k x) u e) (h.1 x)
  ]

  request_leads : (node : NodeName) (q : Request) (k : Answer → Replying) (m : Moment) (a : Answer) (u : Replying) → Always w (asks node.0 q k) m Anyhow
      → by_heard k (after_request node q a) ≡ free u → Always w u (behind node.0 q a m) Anyhow
  request_leads node (request.Lock tx path mode) k m a u h e = lock_leads (record { tx = tx; node = node; path = path; mode = mode }) k m a u h e
  request_leads node q k m a u h e = subst (λ z. Always w z (behind node.0 q a m) Anyhow) (same_talk (k a) u e) (h.1 a)

  pub call_leads : (t : Replying) (p : Pending) (m : Moment) (a : Answer) (u : Replying) → next_in (free t) ≡ Some p → Always w t m Anyhow
      → after_call (free t) a ≡ free u → Always w u (behind (node_asked p) (request_asked p) a m) Anyhow
  call_leads (says r) p m a u e h f = absurd (none-some p e)
  call_leads (asks node q k) p m a u e h f =
      subst (λ x. Always w u (behind (node_asked x) (request_asked x) a m) Anyhow) (same_Some (pending.Asks (record { 0 = node }) q) p e)
      (request_leads (record { 0 = node }) q k m a u h f)
