-- A course with what follows it stands where the course stands.
use Rattle.std.proofs.Common.{◌≡◌, Some, None, refl}
use Rattle.std.proofs.lemmas.Option.{none-some}
use Rattle.hb_types.specs.declared.answer.Answer.{Answer}
use Rattle.hb_talk.specs.Talk.{Talk, says, asks, going_on}
use Rattle.hb_wait.specs.Courses.{Course, free, halted, next_in, after_call, by_heard, pending_in}
use Rattle.hb_wait.specs.Waiting.{heard}
use Rattle.hb_wait.specs.declared.pending.Heard.{Heard}
use Rattle.hb_wait.specs.declared.pending.Heard.TheVariants as heard_as
use Rattle.hb_wait.specs.declared.pending.Pending.{Pending}
use Rattle.hb_wait.specs.declared.pending.Pending.TheVariants as pending
use Rattle.hb_mover.specs.Moving.{onto}

nothing_next : {p : Pending} {X : Type 0} → None ≡ Some p → X
nothing_next h = absurd (none-some _ h)

pub next_onto : {A B : Type 0} (k : A → Talk B) (c : Course A) (p : Pending) → next_in c ≡ Some p → next_in (onto k c) ≡ Some p
next_onto k (free (says a)) p next = nothing_next next
next_onto k (free (asks node q f)) p next = next
next_onto k (halted q f) p next = next

pending_onto : {A B : Type 0} (k : A → Talk B) (f : Answer → Talk A) (p : Pending) → pending_in p (λ a. going_on k (f a)) ≡ onto k (pending_in p f)
pending_onto k f (pending.Asks node q) = refl
pending_onto k f (pending.Blocked l path wanted holders) = refl
pending_onto k f (pending.Waits l) = refl

heard_onto : {A B : Type 0} (k : A → Talk B) (f : Answer → Talk A) (h : Heard) → by_heard (λ a. going_on k (f a)) h ≡ onto k (by_heard f h)
heard_onto k f (heard_as.Answered a) = refl
heard_onto k f (heard_as.Waits l edges) = refl
heard_onto k f (heard_as.More p) = pending_onto k f p

pub after_onto : {A B : Type 0} (k : A → Talk B) (c : Course A) (p : Pending) (a : Answer) → next_in c ≡ Some p → after_call (onto k c) a ≡ onto k (after_call c a)
after_onto k (free (says x)) p a next = nothing_next next
after_onto k (free (asks node q f)) p a next = heard_onto k f (heard (pending.Asks (record { 0 = node }) q) a)
after_onto k (halted q f) p a next = heard_onto k f (heard q a)
