-- An end of a session's own goes where its answer leads, whatever was told.
use Rattle.std.proofs.Common.{◌≡◌, ◌⊎◌, true, false, List, ◌∙◌, sym, subst, refl, inl, inr}
use Rattle.std.specs.Prelude.{Option, None}
use Rattle.std.proofs.lemmas.Bool.{false≢true}
use Rattle.hb_types.specs.declared.answer.Answer.{Answer}
use Rattle.hb_node.specs.Lists.{Lists}
use Rattle.hb_model.specs.declared.reply.Reply.{Reply}
use Rattle.hb_wait.specs.Courses.{Course}
use Rattle.hb_wait.specs.Waiting.{heard}
use Rattle.hb_wait.specs.declared.pending.Heard.{Heard}
use Rattle.hb_session.specs.declared.session.Progress.{Progress as SessionProgress}
use Rattle.hb_session.specs.declared.session.Progress.TheVariants as session_shows
use Rattle.hb_session.specs.declared.stage.Stage.{Stage}
use Rattle.hb_session.specs.declared.stage.Stage.TheVariants as stage
use Rattle.hb_session.specs.Sitting.{Sitting, is_ending, is_refused}
use Rattle.hb_session.specs.Steps.{IsToldBy, RunsOutAt, GoesOn as SessionGoesOn, Stepped as SessionStepped, said as session_said}
use Rattle.hb_mover.specs.Moving.{Moving}
use Rattle.hb_caller.specs.declared.caller.Progress.{Progress}
use Rattle.hb_caller.specs.Calling.{ending}
use Rattle.hb_caller.specs.Steps.{EndsBy, of_session, said}

ending_asks : (g : Stage) → is_ending g ≡ true → is_refused g ≡ false
ending_asks (stage.Refused u r) h = absurd (false≢true h)
ending_asks _ h = refl

ending_told : (g : Stage) (x : Heard) → is_ending g ≡ true → IsToldBy g x
ending_told (stage.Ends e) x h = tt
ending_told _ x h = absurd (false≢true h)

ending_has_room : (g : Stage) (new : Sitting) (shows : SessionProgress) → is_ending g ≡ true → RunsOutAt g new shows → ⊥
ending_has_room (stage.Ends e) new shows h out = out
ending_has_room _ new shows h out = absurd (false≢true h)

answered : (old new : Sitting) (a : Answer) (shows : SessionProgress) → is_ending old.stage ≡ true → SessionGoesOn old new a shows ⊎ RunsOutAt old.stage new shows → SessionGoesOn old new a shows
answered old new a shows h (inl goes) = goes
answered old new a shows h (inr out) = absurd (ending_has_room old.stage new shows h out)

same_said : (shows : SessionProgress) (c : Course (List Reply)) → session_said shows c ≡ said (of_session shows) c
same_said session_shows.More c = refl
same_said (session_shows.Waits edges) c = refl
same_said (session_shows.Shown r) c = refl
same_said (session_shows.Ended r) c = refl

own_end : (old new : Sitting) (before after : Lists) (shows : SessionProgress) → SessionStepped old new before after shows → is_ending old.stage ≡ true
    → EndsBy (record { session = old; mover = None }) (record { session = new; mover = None }) (of_session shows)
own_end old new before after shows step h =
    let s = step.steps (ending_asks old.stage h) in
    record {
      asked = s.0;
      answer = s.1;
      next = s.4.next;
      goes = λ sts. answered old new s.1 shows h (s.4.goes (ending_told old.stage (heard s.0 s.1) h)) sts ∙ same_said shows _;
    }

-- where there is no line, and none came
pub session_ends : (old new : Sitting) (was now : Option Moving) (before after : Lists) (showed : SessionProgress) (shows : Progress) → was ≡ None → now ≡ None → shows ≡ of_session showed
    → SessionStepped old new before after showed → ending (record { session = old; mover = was }) ≡ true
    → EndsBy (record { session = old; mover = was }) (record { session = new; mover = now }) shows
session_ends old new was now before after showed shows none still shown step =
    let P : Option Moving → Type 0 = λ m. ending (record { session = old; mover = m }) ≡ true → EndsBy (record { session = old; mover = m }) (record { session = new; mover = now }) shows in
    let Q : Option Moving → Type 0 = λ m. EndsBy (record { session = old; mover = None }) (record { session = new; mover = m }) shows in
    let R : Progress → Type 0 = λ p. EndsBy (record { session = old; mover = None }) (record { session = new; mover = None }) p in
    subst P (sym none) (λ h. subst Q (sym still) (subst R (sym shown) (own_end old new before after showed step h)))
