-- A step of a turn is a step of its line.
use Rattle.std.proofs.Common.{◌≡◌, ◌⊎◌, inl, inr, ◌+◌, ◌<◌, ◌^◌, Bool, true, false, Some, List, [], ◌∷◌, map, refl, sym, subst, ap, ◌∙◌}
use Rattle.std.proofs.lemmas.Bool.{false≢true}
use Rattle.std.specs.Prelude.{cond, ⊤}
use Rattle.hb_types.specs.declared.answer.Answer.{Answer}
use Rattle.hb_model.specs.declared.reply.Reply.{Reply}
use Rattle.hb_model.specs.declared.reply.Reply.TheVariants as reply
use Rattle.hb_talk.specs.Ends.{rolling_back}
use Rattle.hb_talk.specs.Talk.{says, going_on, Use}
use Rattle.hb_access.proofs.Sequences.{going_assoc}
use Rattle.hb_batch.specs.Batches.{hint_of}
use Rattle.hb_wait.specs.Courses.{Course, free, after_call, next_in}
use Rattle.hb_wait.specs.Waiting.{heard}
use Rattle.hb_wait.specs.declared.pending.Pending.{Pending}
use Rattle.hb_turn.specs.Steps.{active_at, begun_by, EndsOn as TurnEndsOn, Makes as TurnMakes, RollsBack as TurnRollsBack, RunsOutAt as TurnRunsOutAt}
use Rattle.hb_turn.specs.Turning.{Outcome, ends, Turning, counted, follows, in_transaction as has_transaction, is_busy, is_last, mover_of, outcome_of, stands as turn_stands}
use Rattle.hb_turn.specs.declared.stage.After.TheVariants as after
use Rattle.hb_turn.specs.declared.stage.Stage.{Stage}
use Rattle.hb_turn.specs.declared.stage.Stage.TheVariants as stage
use Rattle.hb_turn.specs.declared.turn.Turned.{Turned as Said}
use Rattle.hb_turn.specs.declared.turn.Turned.TheVariants as said_as
use Rattle.hb_turn.specs.declared.turn.Went.{Went}
use Rattle.hb_turn.specs.declared.turn.Went.TheVariants as went
use Rattle.hb_types.specs.declared.answer.Edge.{Edge}
use Rattle.hb_mover.specs.declared.mover.Progress.{Progress}
use Rattle.hb_mover.specs.declared.mover.Progress.TheVariants as progress
use Rattle.hb_mover.specs.Moving.{Moving, after_outcome, behind_turn, is_going, nth_of, onto, stands}
use Rattle.hb_mover.specs.Steps.{EndsOn, GoesOn, Leads, Makes, RunsOutAt, ShowsEnd, said}
use Rattle.hb_mover.proofs.Courses.{after_onto, next_onto}
use Rattle.hb_mover.proofs.Stages.{begun_within, comes_within, last_leads, number_same}

-- ---- the course

next_call : (old : Moving) (p : Pending) → next_in (turn_stands old.turn) ≡ Some p → next_in (stands old) ≡ Some p
unfolding stands
next_call old p next = next_onto (behind_turn old) (turn_stands old.turn) p next

after_turn : (old : Moving) (p : Pending) (a : Answer) (c : Course Outcome) → next_in (turn_stands old.turn) ≡ Some p → after_call (turn_stands old.turn) a ≡ c
    → after_call (stands old) a ≡ onto (behind_turn old) c
unfolding stands
after_turn old p a c next is = after_onto (behind_turn old) (turn_stands old.turn) p a next ∙ ap (onto (behind_turn old)) is

-- the same turn goes on
same_turn : (old : Moving) (t : Turning) → t.line ≡ old.turn.line → nth_of t ≡ nth_of old.turn → onto (behind_turn old) (turn_stands t) ≡ stands (record old { turn = t })
unfolding stands
same_turn old t line nth =
    let moved = ap (λ l. onto (after_outcome (mover_of l) old.left (nth_of old.turn + 1) (map hint_of old.hints)) (turn_stands t)) (sym line) in
    let counts = ap (λ n. onto (after_outcome (mover_of t.line) old.left (n + 1) (map hint_of old.hints)) (turn_stands t)) (sym nth) in moved ∙ counts

same_number : (old t : Turning) (a : Answer) (w : Went) (p : Pending) → is_busy old.stage ≡ true → has_transaction t.stage ≡ active_at old.stage a → t.begun ≡ begun_by old.stage a old.begun
    → nth_of t ≡ nth_of old
same_number old t a w p busy active begun =
    ap (λ b. cond b t.begun (counted t.begun)) active
    ∙ ap (λ n. cond (active_at old.stage a) n (counted n)) begun
    ∙ number_same old.stage a old.begun busy

-- ---- no memory

pub rolled_on : (old : Moving) (t : Turning) (u : Use) (e : Reply) → TurnRollsBack u (after.Over e) t
    → stands (record old { turn = t }) ≡ free (going_on (λ r. says (e ∷ [])) (rolling_back u 0 reply.RolledBack))
unfolding stands
rolled_on old t u e is =
    let k = behind_turn (record old { turn = t }) in
    ap (onto k) is ∙ ap free (going_assoc (rolling_back u 0 reply.RolledBack) (λ r. says (follows (after.Over e) r)) k)

abbrev is_more : Went → Bool
is_more went.More = true
is_more _ = false

abbrev is_said : Went → Bool
is_said (went.Said t) = true
is_said _ = false

more_out : (old : Moving) (t : Turning) (s : Stage) → TurnRunsOutAt s t went.More → RunsOutAt s (record old { turn = t }) progress.More
more_out old t (stage.Keys h) out = absurd (false≢true (ap is_said out))
more_out old t (stage.Begins k) out = absurd out
more_out old t (stage.Enters tx k) out = (out.0, out.1, out.2, rolled_on old t out.0 reply.NoMemory out.3, refl)
more_out old t (stage.Asks x) out = (out.0, out.1, out.2, rolled_on old t out.0 reply.NoMemory out.3, refl)
more_out old t (stage.Ends e) out = absurd out
more_out old t stage.Over out = absurd out

waits_out : (t : Turning) (s : Stage) (edges : List Edge) (X : Type 0) → TurnRunsOutAt s t (went.Waits edges) → X
waits_out t (stage.Keys h) edges X out = absurd (false≢true (ap is_said out))
waits_out t (stage.Begins k) edges X out = absurd out
waits_out t (stage.Enters tx k) edges X out = absurd (false≢true (ap is_more out.4))
waits_out t (stage.Asks x) edges X out = absurd (false≢true (ap is_more out.4))
waits_out t (stage.Ends e) edges X out = absurd out
waits_out t stage.Over edges X out = absurd out

said_out : (t : Turning) (new : Moving) (s : Stage) (turned : Said) (shows : Progress) → ShowsEnd (outcome_of turned) shows
    → TurnRunsOutAt s t (went.Said turned) → RunsOutAt s new shows
said_out t new (stage.Keys h) turned shows end out = subst shown out end
  where
    shown : Went → Type 0
    shown (went.Said x) = ShowsEnd (outcome_of x) shows
    shown _ = ⊤
said_out t new (stage.Begins k) turned shows end out = absurd out
said_out t new (stage.Enters tx k) turned shows end out = absurd (false≢true (ap is_more out.4))
said_out t new (stage.Asks x) turned shows end out = absurd (false≢true (ap is_more out.4))
said_out t new (stage.Ends e) turned shows end out = absurd out
said_out t new stage.Over turned shows end out = absurd out

-- ---- the turn goes on

goes_by : (X Y A B : Type 0) → (A → X) → (B → Y) → A ⊎ B → X ⊎ Y
goes_by X Y A B f g (inl a) = inl (f a)
goes_by X Y A B f g (inr b) = inr (g b)

pub more_call : (old : Moving) (t : Turning) (p : Pending) (a : Answer) → is_going old ≡ true → t.line ≡ old.turn.line
    → TurnMakes old.turn t p a went.More → Makes old (record old { turn = t }) p a progress.More
more_call old t p a going line makes =
    let nth = same_number old.turn t a went.More p going makes.active makes.begun in
    let leads : after_call (turn_stands old.turn) a ≡ turn_stands t → Leads (after_call (stands old) a) (record old { turn = t }) progress.More =
    λ is. after_turn old p a (turn_stands t) makes.next is ∙ same_turn old t line nth in record {
      next = next_call old p makes.next;
      goes = λ x. goes_by _ _ _ _ leads (more_out old t old.turn.stage) (makes.goes x.0);
      ends = λ last. leads (last_leads old.turn.stage (heard p a) t went.More _ last makes.goes);
      edges = makes.edges;
      begun = makes.begun;
    }

pub waits_call : (old : Moving) (t : Turning) (p : Pending) (a : Answer) (edges : List Edge) → is_going old ≡ true → t.line ≡ old.turn.line
    → TurnMakes old.turn t p a (went.Waits edges) → Makes old (record old { turn = t }) p a (progress.Waits edges)
waits_call old t p a edges going line makes =
    let nth = same_number old.turn t a (went.Waits edges) p going makes.active makes.begun in
    let leads : after_call (turn_stands old.turn) a ≡ turn_stands t → Leads (after_call (stands old) a) (record old { turn = t }) (progress.Waits edges) =
    λ is. after_turn old p a (turn_stands t) makes.next is ∙ same_turn old t line nth in record {
      next = next_call old p makes.next;
      goes = λ x. goes_by _ _ _ _ leads (waits_out t old.turn.stage edges _) (makes.goes x.0);
      ends = λ last. leads (last_leads old.turn.stage (heard p a) t (went.Waits edges) _ last makes.goes);
      edges = makes.edges;
      begun = makes.begun;
    }

-- ---- the turn has ended

-- a turn that ends the line
end_shown : (m : Moving) (c : Course (List Reply)) (o : Outcome) (r : Reply) (shows : Progress) → o ≡ ends r → ShowsEnd o shows → free (behind_turn m o) ≡ said shows c
end_shown m c o r shows is end = subst (λ x. ShowsEnd x shows → free (behind_turn m x) ≡ said shows c) (sym is) (λ e. subst (λ s. free (says (r ∷ [])) ≡ said s c) (sym e) refl) end

over_ends : (turned : Said) (s : Stage) → TurnEndsOn (went.Said turned) s → (r : Reply) × (outcome_of turned ≡ ends r)
over_ends (said_as.Over r) s on = (r, refl)
over_ends (said_as.Found hs number) s on = absurd on
over_ends (said_as.Again shown) s on = absurd on
over_ends said_as.Onward s on = absurd on

-- within its transaction: the line goes on with the next number
within_leads : (old new : Moving) (t : Turning) (a : Answer) (o : Outcome) (shows : Progress) → t.line ≡ old.turn.line → t.begun ≡ begun_by old.turn.stage a old.turn.begun
    → has_transaction old.turn.stage ≡ true → old.turn.begun + 1 < 2 ^ 64 → GoesOn (record old { turn = t }) new o shows
    → free (behind_turn old o) ≡ said shows (stands new)
within_leads old new t a o shows line begun active few goes =
    let same : t.begun ≡ old.turn.begun = begun ∙ begun_within old.turn.stage a old.turn.begun active in
    let nth : nth_of old.turn ≡ t.begun = ap (λ b. cond b old.turn.begun (counted old.turn.begun)) active ∙ sym same in
    let counts = ap (λ n. free (after_outcome (mover_of old.turn.line) old.left (n + 1) (map hint_of old.hints) o)) nth in
    let moved = ap (λ l. free (after_outcome (mover_of l) old.left (t.begun + 1) (map hint_of old.hints) o)) (sym line) in
    counts ∙ moved ∙ goes.goes (subst (λ n. n + 1 < 2 ^ 64) (sym same) few)

pub said_call : (old new : Moving) (t : Turning) (p : Pending) (a : Answer) (turned : Said) (shows : Progress) → is_going old ≡ true → t.line ≡ old.turn.line
    → TurnMakes old.turn t p a (went.Said turned) → (is_last old.turn.stage ≡ true → TurnEndsOn (went.Said turned) t.stage)
    → GoesOn (record old { turn = t }) new (outcome_of turned) shows → Makes old new p a shows
said_call old new t p a turned shows going line makes last_on g =
    let o = outcome_of turned in
    let led : after_call (turn_stands old.turn) a ≡ free (says o) → after_call (stands old) a ≡ free (behind_turn old o) = λ is. after_turn old p a (free (says o)) makes.next is in record {
      next = next_call old p makes.next;
      goes = λ x. goes_by _ _ _ _ (λ is. led is ∙ by (comes_within old.turn a o going is) x.1) (said_out t new old.turn.stage turned shows g.ends) (makes.goes x.0);
      ends = λ last.
          let over = over_ends turned t.stage (last_on last) in
          led (last_leads old.turn.stage (heard p a) t (went.Said turned) _ last makes.goes) ∙ end_shown old (stands new) o over.0 shows over.1 g.ends;
      edges = g.edges ∙ makes.edges;
      begun = g.begun ∙ makes.begun;
    }
  where
    by : (has_transaction old.turn.stage ≡ true) ⊎ ((r : Reply) × (outcome_of turned ≡ ends r)) → old.turn.begun + 1 < 2 ^ 64 → free (behind_turn old (outcome_of turned)) ≡ said shows (stands new)
    by (inl active) few = within_leads old new t a (outcome_of turned) shows line makes.begun active few g
    by (inr e) few = end_shown old (stands new) (outcome_of turned) e.0 shows e.1 g.ends

-- the end of the line is shown
pub said_ends : (turned : Said) (s : Stage) (shows : Progress) (new : Moving) → TurnEndsOn (went.Said turned) s → ShowsEnd (outcome_of turned) shows → EndsOn shows new
said_ends (said_as.Over r) s shows new on e = subst (λ x. EndsOn x new) (sym e) tt
said_ends (said_as.Found hs number) s shows new on e = absurd on
said_ends (said_as.Again shown) s shows new on e = absurd on
said_ends said_as.Onward s shows new on e = absurd on
