-- Courses: one call of a plan's course is one of the whole, and a course comes to an end.
use Rattle.std.proofs.Common.{◌≡◌, List, [], ◌∷◌, Bool, true, false, Some, None, Ok, Err, Result, refl, subst, sym, ap}
use Rattle.std.specs.Prelude.{if◌then◌else◌}
use Rattle.std.proofs.lemmas.Bool.{false≢true}
use Rattle.hb_types.specs.declared.answer.Answer.{Answer}
use Rattle.hb_types.specs.declared.answer.Answer.TheVariants as answer
use Rattle.hb_types.specs.declared.names.NodeName.{NodeName}
use Rattle.hb_types.specs.declared.request.Request.{Request}
use Rattle.hb_types.specs.declared.request.Request.TheVariants as request
use Rattle.hb_types.specs.declared.trail.Call.{Call}
use Rattle.hb_model.specs.Answers.{call}
use Rattle.hb_model.specs.declared.reply.Reply.{Reply}
use Rattle.hb_talk.specs.Ends.{rolling_back}
use Rattle.hb_talk.specs.Sessions.{after, with_reply}
use Rattle.hb_talk.specs.Talk.{Talk, says, asks, going_on, asked, dies, ready, Use, mgr}
use Rattle.hb_faithful.specs.Planned.{is_rolled_back}
use Rattle.hb_plan.specs.Planned.{Said}
use Rattle.hb_plancalc.specs.Counted.{reply_in}
use Rattle.hb_wait.specs.Courses.{Course, free, halted, pending_in, next_in, by_heard, after_call, FollowsIn}
use Rattle.hb_wait.specs.Waiting.{after_request, heard, lock_of}
use Rattle.hb_wait.specs.declared.pending.Heard.{Heard}
use Rattle.hb_wait.specs.declared.pending.Heard.TheVariants as heard_as
use Rattle.hb_wait.specs.declared.pending.Pending.{Pending}
use Rattle.hb_wait.specs.declared.pending.Pending.TheVariants as pending
use Rattle.hb_session.specs.Sitting.{finishing}
use Rattle.hb_itemlaws.proofs.Dividing.{ends_somehow}
use Rattle.hb_itemlaws.proofs.Ends.{AllEnd, is_of_end}

-- ---- words

abbrev pub is_said : {R : Type 0} → Course R → Bool
is_said (free (says r)) = true
is_said _ = false

abbrev pub is_free : {R : Type 0} → Course R → Bool
is_free (free t) = true
is_free (halted p k) = false

abbrev pub words_of : Course (List Reply) → List Reply
words_of (free (says rs)) = rs
words_of _ = []

abbrev pub talk_in : {R : Type 0} → Talk R → Course R → Talk R
talk_in other (free t) = t
talk_in other (halted p k) = other

abbrev pub first_or : Reply → List Reply → Reply
first_or r [] = r
first_or r (x ∷ xs) = x

pub none_is_some : {A : Type 0} (x : A) → None ≡ Some x → ⊥
none_is_some x e = subst (λ o. elim o as (λ z. Type 0) [ None ↦ Unit {0} | Some y ↦ ⊥ ]) e tt

-- ---- a reply before those of a talk

abbrev rest_of : List Reply → List Reply
rest_of [] = []
rest_of (r ∷ rs) = rs

abbrev pub unsaid : Talk (List Reply) → Talk (List Reply)
unsaid t = going_on (λ rs. says (rest_of rs)) t

pub unsaid_with : (r : Reply) (t : Talk (List Reply)) → unsaid (with_reply r t) ≡ t
unsaid_with r (says rs) = refl
unsaid_with r (asks node q k) = λ i. asks node q (λ a. unsaid_with r (k a) i)

-- ---- what follows a plan

module _ (go : Use → Talk (List Reply)) where
  abbrev onto : Talk Said → Talk (List Reply)
  onto t = going_on (λ p. after go p.0 p.1) t

  -- a plan's course with what follows it
  abbrev pub into : Course Said → Course (List Reply)
  into (free t) = free (onto t)
  into (halted p k) = halted p (λ x. onto (k x))

  into_pending : (p : Pending) (k : Answer → Talk Said) → pending_in p (λ x. onto (k x)) ≡ into (pending_in p k)
  into_pending (pending.Asks node q) k = refl
  into_pending (pending.Blocked l path wanted holders) k = refl
  into_pending (pending.Waits l) k = refl

  into_heard : (k : Answer → Talk Said) (h : Heard) → by_heard (λ x. onto (k x)) h ≡ into (by_heard k h)
  into_heard k (heard_as.Answered a) = refl
  into_heard k (heard_as.Waits l edges) = refl
  into_heard k (heard_as.More p) = into_pending p k

  pub into_after : (S : Course Said) (a : Answer) → is_said S ≡ false → after_call (into S) a ≡ into (after_call S a)
  into_after (free (says r)) a e = absurd (false≢true (sym e))
  into_after (free (asks node q k)) a e = into_heard k (heard (pending.Asks (record { 0 = node }) q) a)
  into_after (halted p k) a e = into_heard k (heard p a)

  pub into_next : (S : Course Said) → is_said S ≡ false → next_in (into S) ≡ next_in S
  into_next (free (says r)) e = absurd (false≢true (sym e))
  into_next (free (asks node q k)) e = refl
  into_next (halted p k) e = refl

  pub after_kept : (o : Result Reply Reply) (v : Use) → is_rolled_back o ≡ false → after go o v ≡ with_reply (reply_in o) (go v)
  after_kept (Ok r) v e = refl
  after_kept (Err r) v e = ap (λ b. if b then finishing (rolling_back v 0 r) else with_reply r (go v)) e

  pub after_undone : (o : Result Reply Reply) (v : Use) → is_rolled_back o ≡ true → after go o v ≡ finishing (rolling_back v 0 (reply_in o))
  after_undone (Ok r) v e = absurd (false≢true e)
  after_undone (Err r) v e = ap (λ b. if b then finishing (rolling_back v 0 r) else with_reply r (go v)) e

-- ---- a course comes to an end

pub ends_course : {R : Type 0} (c : Course R) → (cs : List Call) × (r : R) × FollowsIn c cs r
ends_course (free t) = ends_somehow t
ends_course (halted (pending.Asks node q) k) = ends_somehow (asks node.0 q k)
ends_course (halted (pending.Blocked l path wanted holders) k) =
    let more = ends_somehow (k answer.NoMemory) in
    (call mgr (request.Wait l.tx l.node path wanted holders) answer.NoMemory ∷ more.0, more.1, dies l.tx l.path path l.mode wanted holders answer.NoMemory refl more.2)
ends_course (halted (pending.Waits l) k) =
    let more = ends_somehow (k answer.Down) in
    (call mgr (request.Ready l.tx) answer.Ready ∷ call l.node.0 (lock_of l) answer.Down ∷ more.0, more.1, ready l.tx (asked answer.Down refl more.2))

-- ---- ends

abbrev pub EndsOnly : Course (List Reply) → Type 0
EndsOnly (free t) = AllEnd t
EndsOnly (halted p k) = ⊥

pub end_heard : (node : NodeName) (q : Request) (a : Answer) → is_of_end q ≡ true → after_request node q a ≡ heard_as.Answered a
end_heard node (request.Lock tx p m) a e = absurd (false≢true e)
end_heard node _ a e = refl
