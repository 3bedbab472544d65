-- A talk of a rolling back: no Lock, and one reply in the end.
use Rattle.std.proofs.Common.{◌≡◌, ℕ, Bool, true, false, List, [], ◌∷◌, ap, ◌∙◌, sym, refl}
use Rattle.std.specs.Prelude.{Option, Some, None}
use Rattle.std.proofs.lemmas.Bool.{false≢true}
use Rattle.std.proofs.lemmas.Option.{none-some, same_Some}
use Rattle.hb_types.specs.declared.answer.Answer.{Answer}
use Rattle.hb_types.specs.declared.names.NodeName.{NodeName}
use Rattle.hb_types.specs.declared.request.Request.{Request}
use Rattle.hb_types.specs.declared.request.Request.TheVariants as request
use Rattle.hb_model.specs.NodeSets.{nodes_in}
use Rattle.hb_model.specs.declared.reply.Reply.{Reply}
use Rattle.hb_talk.specs.Ends.{rollbacks, rolling_back}
use Rattle.hb_talk.specs.Talk.{Talk, says, asks, going_on, Use}
use Rattle.hb_wait.specs.Courses.{Course, free, next_in, by_heard, after_call}
use Rattle.hb_wait.specs.Waiting.{after_request}
use Rattle.hb_wait.specs.declared.pending.Heard.TheVariants as heard_as
use Rattle.hb_wait.specs.declared.pending.Pending.{Pending}

abbrev pub is_lock : Request → Bool
is_lock (request.Lock tx path mode) = true
is_lock _ = false

abbrev pub Backs : Reply → Talk (List Reply) → Type 0
Backs r (says rs) = rs ≡ r ∷ []
Backs r (asks node q k) = (is_lock q ≡ false) × ((a : Answer) → Backs r (k a))

-- ---- a rolling back is one, whatever is made of its reply

module _ (r why : Reply) (f : Reply → Talk (List Reply)) (last : Backs r (f why)) where
  backs_rollbacks : (u : Use) (prepared : ℕ) (ns : List ℕ) (left : ℕ) → Backs r (going_on f (rollbacks u prepared ns left why))
  backs_rollbacks u prepared [] left = (refl, λ a. last)
  backs_rollbacks u prepared (n ∷ ns) left = (refl, λ a. backs_rollbacks u prepared ns _)

  pub backs_rolling : (u : Use) → Backs r (going_on f (rolling_back u 0 why))
  backs_rolling u = (refl, λ a. backs_rollbacks u 0 (nodes_in u.used) 0)

-- ---- one request further

heard_plain : (node : NodeName) (q : Request) (a : Answer) → is_lock q ≡ false → after_request node q a ≡ heard_as.Answered a
heard_plain node (request.Lock tx path mode) a h = absurd (false≢true (sym h))
heard_plain node q a h = refl

pub record GoesBack (r : Reply) (t : Talk (List Reply)) (a : Answer) : Type 0 where
  pub rest : Talk (List Reply)
  pub backs : Backs r rest
  pub after : after_call (free t) a ≡ free rest

pub goes_back : (r : Reply) (t : Talk (List Reply)) (p : Pending) (a : Answer) → Backs r t → next_in (free t) ≡ Some p → GoesBack r t a
goes_back r (says rs) p a b next = absurd (none-some p next)
goes_back r (asks node q k) p a b next = record {
  rest = k a;
  backs = b.1 a;
  after = ap (by_heard k) (heard_plain (record { 0 = node }) q a b.0);
}

-- ---- its end

abbrev first_said : List Reply → Option Reply
first_said [] = None
first_said (r ∷ rs) = Some r

abbrev said_last : Course (List Reply) → Option Reply
said_last (free (says rs)) = first_said rs
said_last _ = None

pub back_ends : (r : Reply) (t : Talk (List Reply)) (x : Reply) → Backs r t → free t ≡ free (says (x ∷ [])) → x ≡ r
back_ends r (says rs) x b e = sym (same_Some r x (sym (ap first_said b) ∙ ap said_last e))
back_ends r (asks node q k) x b e = absurd (none-some x (ap said_last e))
