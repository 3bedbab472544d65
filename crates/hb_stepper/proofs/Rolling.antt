-- A caller that rolls back, request by request, up to its reply.
use Rattle.std.proofs.Common.{◌≡◌, ◌⊎◌, true, false, List, [], ◌∷◌, ap, ◌∙◌, sym, refl, inl, inr}
use Rattle.std.specs.Prelude.{Option, Some, None}
use Rattle.hb_model.specs.declared.reply.Reply.{Reply}
use Rattle.hb_model.specs.declared.reply.Reply.TheVariants as reply
use Rattle.hb_model.specs.declared.statement.Statement.{Statement}
use Rattle.hb_talk.specs.Talk.{Talk, says, Use}
use Rattle.hb_access.specs.Accesses.{use_of}
use Rattle.hb_wait.specs.Courses.{free, next_in, after_call}
use Rattle.hb_session.specs.declared.stage.Stage.{Stage}
use Rattle.hb_session.specs.declared.stage.Stage.TheVariants as stage
use Rattle.hb_session.specs.Sitting.{Sitting, stands as session_stands}
use Rattle.hb_session.specs.Steps.{Abandons as SessionAbandons, Closes as SessionCloses, RollsBack}
use Rattle.hb_mover.specs.Moving.{Moving, stands as line_stands}
use Rattle.hb_caller.specs.declared.caller.Progress.{Progress}
use Rattle.hb_caller.specs.declared.caller.Progress.TheVariants as progress
use Rattle.hb_caller.specs.Calling.{Calling, busy, by_asked, ending, in_transaction, stands, waits}
use Rattle.hb_caller.specs.Steps.{Abandons, AbandonsBy, Closes, EndsBy, EndsOn, LeavesAs, said}
use Rattle.hb_stepper.proofs.Backing.{Backs, GoesBack, backs_rolling, goes_back, back_ends}

pub record Rolling (r : Reply) (c : Calling) : Type 0 where
  pub ending_now : ending c ≡ true
  pub busy_now : busy c ≡ true
  pub waits_not : waits c ≡ false
  pub talk : Talk (List Reply)
  pub backs : Backs r talk
  pub course : (sts : List Statement) → stands c sts ≡ free talk

-- neither a transaction nor anything in progress
pub record IsOver (c : Calling) : Type 0 where
  pub idle : busy c ≡ false
  pub none : in_transaction c ≡ false

-- it goes on, or it ended with its reply
abbrev pub Onward : Reply → Progress → Calling → Type 0
Onward r shows new = ((shows ≡ progress.More) × Rolling r new) ⊎ ((shows ≡ progress.Ended r) × IsOver new)

-- where the answer led, by what was shown
led : (r : Reply) (new : Calling) (shows : Progress) (t : Talk (List Reply)) → Backs r t → ((sts : List Statement) → free t ≡ said shows (stands new sts))
    → EndsOn shows new → LeavesAs shows new → Onward r shows new
led r new progress.More t b leads ends leaves = inl (refl, record { ending_now = ends.0; busy_now = ends.1; waits_not = ends.2; talk = t; backs = b; course = λ sts. sym (leads sts) })
led r new (progress.Waits edges) t b leads ends leaves = absurd ends
led r new (progress.Told x) t b leads ends leaves = absurd ends
led r new (progress.Shown x) t b leads ends leaves = absurd ends
led r new (progress.Ended x) t b leads ends leaves = inr (ap (λ (y : Reply). progress.Ended y) (back_ends r t x b (leads [])), record { idle = leaves.0; none = leaves.1 })

-- one step more
pub rolls_on : (r : Reply) (old new : Calling) (shows : Progress) → Rolling r old → EndsBy old new shows → EndsOn shows new → LeavesAs shows new → Onward r shows new
rolls_on r old new shows h by ends leaves =
    let back : GoesBack r h.talk by.answer = goes_back r h.talk by.asked by.answer h.backs (sym (ap next_in (h.course [])) ∙ by.next []) in
    led r new shows back.rest back.backs (λ sts. sym back.after ∙ sym (ap (λ c. after_call c by.answer) (h.course sts)) ∙ by.goes sts) ends leaves

-- ---- given up

abandoned : (g : Stage) (new : Sitting) → SessionAbandons g new → (u : Use) × RollsBack u reply.RolledBackEnd new
abandoned (stage.Asks a) new h = (use_of a.plan.usage, h)
abandoned _ new h = absurd h

closed : (g : Stage) (new : Sitting) → SessionCloses g new → (u : Use) × RollsBack u reply.RolledBackEnd new
closed (stage.Open u) new h = (use_of u, h)
closed _ new h = absurd h

-- what is left of one that is given up
pub record LeftOver (c : Calling) : Type 0 where
  pub talk : Talk (List Reply)
  pub backs : Backs reply.RolledBackEnd talk
  pub course : (sts : List Statement) → stands c sts ≡ free talk

of_session : (c : Calling) → c.mover ≡ None → (u : Use) → RollsBack u reply.RolledBackEnd c.session → LeftOver c
of_session c none u rolls = record {
  talk = _;
  backs = backs_rolling reply.RolledBackEnd reply.RolledBackEnd (λ (r : Reply). says (r ∷ [])) refl u;
  course = λ sts. ap (λ (m : Option Moving). by_asked line_stands (session_stands c.session sts) m) none ∙ rolls sts;
}

left_over : (m : Option Moving) (s : Sitting) (new : Calling) → AbandonsBy m s new → LeftOver new
left_over None s new h = let by = abandoned s.stage new.session h.1 in of_session new h.0 by.0 by.1
left_over (Some m) s new h = record {
  talk = _;
  backs = backs_rolling reply.RolledBackEnd reply.RolledBack (λ (r : Reply). says (reply.RolledBackEnd ∷ [])) refl h.gives_up.0;
  course = λ sts. ap (λ (c : Calling). stands c sts) h.becomes ∙ h.gives_up.1;
}

closed_over : (old new : Calling) → Closes old new → LeftOver new
closed_over old new h = let by = closed old.session.stage new.session h.closed in of_session new h.still by.0 by.1

pub given_over : (old new : Calling) → Abandons old new ⊎ Closes old new → LeftOver new
given_over old new (inl h) = left_over old.mover old.session new h
given_over old new (inr h) = closed_over old new h
