-- One step of a line, as one of its turn.
use Rattle.std.proofs.Common.{◌≡◌, ◌≤◌, ◌<◌, ◌^◌, ℕ, true, List, ◌∷◌, suc, refl, sym, subst, ap, ◌∙◌}
use Rattle.std.proofs.lemmas.Bool.{false≢true}
use Rattle.std.proofs.lemmas.List.Elements.{All-head, All-tail}
use Rattle.std.specs.Prelude.{All}
use Rattle.hb_types.specs.declared.answer.Answer.{Answer}
use Rattle.hb_types.specs.declared.answer.Edge.{Edge}
use Rattle.hb_node.specs.Lists.{Lists}
use Rattle.hb_model.specs.declared.reply.Reply.TheVariants as reply
use Rattle.hb_talk.specs.Talk.{Use}
use Rattle.hb_access.specs.Accesses.{use_of}
use Rattle.hb_batch.specs.Batches.{IsSitedHint}
use Rattle.hb_batch.specs.declared.hint.Hint.{Hint}
use Rattle.hb_moveplan.specs.MovePlans.{usage_of}
use Rattle.hb_turn.specs.Steps.{EndsOn as TurnEndsOn, GivesUp as TurnGivesUp, RollsBack as TurnRollsBack, Stepped as TurnStepped, begun_by}
use Rattle.hb_turn.specs.Turning.{Turning, is_last, is_waiting as turn_waits, mover_of, outcome_of}
use Rattle.hb_turn.specs.declared.line.Line.{Line}
use Rattle.hb_turn.specs.declared.stage.After.TheVariants as after
use Rattle.hb_turn.specs.declared.stage.Stage.{Stage}
use Rattle.hb_turn.specs.declared.stage.Stage.TheVariants as stage
use Rattle.hb_turn.specs.declared.turn.Turned.{Turned as Said}
use Rattle.hb_turn.specs.declared.turn.Went.TheVariants as went
use Rattle.hb_mover.specs.declared.mover.Progress.{Progress}
use Rattle.hb_mover.specs.declared.mover.Progress.TheVariants as progress
use Rattle.hb_mover.specs.Moving.{Moving, is_going, is_waiting, IsKept}
use Rattle.hb_mover.specs.Steps.{GivesUp, GoesOn, Stepped, TakesHint}
use Rattle.hb_mover.proofs.Making.{more_call, rolled_on, said_call, waits_call}
use Rattle.hb_mover.proofs.Stages.{begun_few, begun_more}

-- ---- what a line keeps

pub kept_step : (t u : Turning) (hs : List Hint) (a : Answer) → IsKept t hs → u.begun ≡ begun_by t.stage a t.begun → IsKept u hs
kept_step t u hs a kept begun = record { sited = kept.sited; begun = subst (λ n. n < 2 ^ 64) (sym begun) (begun_few t.stage a t.begun kept.begun) }

pub kept_behind : (t : Turning) (hs rest : List Hint) (h : Hint) → hs ≡ h ∷ rest → IsKept t hs → IsKept t rest
kept_behind t hs rest h is kept = record { sited = All-tail IsSitedHint h rest (subst (All IsSitedHint) is kept.sited); begun = kept.begun }

pub takes : (t : Turning) (left less : ℕ) (hs rest : List Hint) (h : Hint) → hs ≡ h ∷ rest → left ≡ suc less → IsKept t hs
    → TakesHint (record { turn = t; left = left; hints = hs }) (record { turn = t; left = less; hints = hs }) h
takes t left less hs rest h is more kept = record {
  rest = rest;
  first = is;
  left = more;
  same = refl;
  sited = All-head IsSitedHint h rest (subst (All IsSitedHint) is kept.sited);
}

-- ---- steps

more : (old t : Turning) (a : Answer) (n : ℕ) → old.begun < 2 ^ 64 → n ≡ begun_by old.stage a old.begun → old.begun ≤ n
more old t a n few begun = subst (λ x. old.begun ≤ x) (sym begun) (begun_more old.stage a old.begun few)

pub stepped_more : (old : Moving) (t : Turning) (before behind : Lists) → is_going old ≡ true → old.turn.begun < 2 ^ 64 → TurnStepped old.turn t before behind went.More
    → Stepped old (record old { turn = t }) before behind progress.More
stepped_more old t before behind going few s =
    let st = s.steps in record {
      same = record { line = ap mover_of s.line; index = ap (λ (l : Line). l.session) s.line };
      leaves = s.leaves;
      steps = (st.0, st.1, st.2, st.3, more_call old t st.0 st.1 going s.line st.4);
      more = more old.turn t st.1 t.begun few st.4.begun;
    }

pub stepped_waits : (old : Moving) (t : Turning) (before behind : Lists) (edges : List Edge) → is_going old ≡ true → old.turn.begun < 2 ^ 64
    → TurnStepped old.turn t before behind (went.Waits edges) → Stepped old (record old { turn = t }) before behind (progress.Waits edges)
stepped_waits old t before behind edges going few s =
    let st = s.steps in record {
      same = record { line = ap mover_of s.line; index = ap (λ (l : Line). l.session) s.line };
      leaves = s.leaves;
      steps = (st.0, st.1, st.2, st.3, waits_call old t st.0 st.1 edges going s.line st.4);
      more = more old.turn t st.1 t.begun few st.4.begun;
    }

pub stepped_said : (old new : Moving) (t : Turning) (before behind : Lists) (turned : Said) (shows : Progress) → is_going old ≡ true → old.turn.begun < 2 ^ 64
    → TurnStepped old.turn t before behind (went.Said turned) → (is_last old.turn.stage ≡ true → TurnEndsOn (went.Said turned) t.stage)
    → GoesOn (record old { turn = t }) new (outcome_of turned) shows → Stepped old new before behind shows
stepped_said old new t before behind turned shows going few s last g =
    let st = s.steps in record {
      same = record { line = g.same.line ∙ ap mover_of s.line; index = g.same.index ∙ ap (λ (l : Line). l.session) s.line };
      leaves = g.leaves;
      steps = (st.0, st.1, st.2, st.3, said_call old new t st.0 st.1 turned shows going s.line st.4 last g);
      more = more old.turn t st.1 new.turn.begun few (g.begun ∙ st.4.begun);
    }

-- ---- given up

rolls_at : (s : Stage) (t : Turning) → turn_waits s ≡ true → TurnGivesUp s t → (u : Use) × TurnRollsBack u (after.Over reply.RolledBackEnd) t
rolls_at (stage.Asks a) t waits up = (use_of (usage_of a.plan), up)
rolls_at (stage.Keys h) t waits up = absurd (false≢true waits)
rolls_at (stage.Begins k) t waits up = absurd (false≢true waits)
rolls_at (stage.Enters tx k) t waits up = absurd (false≢true waits)
rolls_at (stage.Ends e) t waits up = absurd (false≢true waits)
rolls_at stage.Over t waits up = absurd (false≢true waits)

pub given_up : (old : Moving) (t : Turning) → is_waiting old ≡ true → TurnGivesUp old.turn.stage t → GivesUp old (record old { turn = t })
given_up old t waits up =
    let r = rolls_at old.turn.stage t waits up in (r.0, rolled_on old t r.0 reply.RolledBackEnd r.1)
