-- The line goes on behind a turn.
use Rattle.std.proofs.Common.{◌≡◌, ◌⊎◌, inl, inr, ℕ, zero, suc, ◌+◌, ◌<◌, ◌^◌, false, Some, None, List, [], ◌∷◌, map, refl, sym, subst, ap, ◌∙◌}
use Rattle.std.proofs.lemmas.Bool.{false≢true}
use Rattle.hb_types.specs.declared.names.Number.{Number}
use Rattle.hb_model.specs.declared.reply.Reply.{Reply}
use Rattle.hb_model.specs.declared.reply.Reply.TheVariants as reply
use Rattle.hb_talk.specs.Moves.{moving, turn_on}
use Rattle.hb_talk.specs.Talk.{says, going_on}
use Rattle.hb_batch.specs.Batches.{hint_of}
use Rattle.hb_batch.specs.declared.hint.Hint.{Hint}
use Rattle.hb_wait.specs.Courses.{free}
use Rattle.hb_turn.specs.Turning.{found, goes_on, ends, Turning, counted, in_transaction as has_transaction, is_busy, of_turned, outcome_of, told}
use Rattle.hb_turn.specs.declared.line.Line.{Line}
use Rattle.hb_turn.specs.declared.stage.Stage.{Stage}
use Rattle.hb_turn.specs.declared.stage.Stage.TheVariants as stage
use Rattle.hb_turn.specs.declared.stage.Task.TheVariants as task
use Rattle.hb_turn.specs.declared.turn.Turned.TheVariants as said_as
use Rattle.hb_mover.specs.declared.mover.Progress.TheVariants as progress
use Rattle.hb_mover.specs.Moving.{Moving, after_found, after_outcome, behind_first, begun_by, is_going, line_of, stands, IsNew}
use Rattle.hb_mover.specs.Steps.{BeginsTurn, GoesOn, TakesHint, replied}
use Rattle.hb_mover.proofs.Stages.{count_goes}
use Rattle.hb_mover.proofs.Talks.{checks, shown_none, turns}

-- ---- a turn begins

none_mapped : (hs : List Hint) → hs ≡ [] → map hint_of hs ≡ []
none_mapped hs is = ap (map hint_of) is

none_next : (left : ℕ) (hs : List Hint) → (left ≡ 0) ⊎ (hs ≡ []) → (left ≡ 0) ⊎ (map hint_of hs ≡ [])
none_next left hs (inl is) = inl is
none_next left hs (inr is) = inr (none_mapped hs is)

check_from : (old : Moving) → (old.left ≡ 0) ⊎ (old.hints ≡ []) → BeginsTurn old (record old { turn = record old.turn { stage = stage.Begins task.Check } })
unfolding stands
check_from old none = record {
  same = record { line = refl; index = refl };
  begun = refl;
  going = refl;
  waiting = refl;
  talk = ap free (checks (line_of old) old.left (counted old.turn.begun) (map hint_of old.hints) (none_next old.left old.hints none));
}

pub check_begins : (old mid : Moving) (t : Turning) → mid ≡ old → (old.left ≡ 0) ⊎ (old.hints ≡ []) → t ≡ record mid.turn { stage = stage.Begins task.Check }
    → BeginsTurn old (record mid { turn = t })
check_begins old mid t same none is =
    subst (λ x. BeginsTurn old (record mid { turn = x })) (sym is)
    (subst (λ m. BeginsTurn old (record m { turn = record m.turn { stage = stage.Begins task.Check } })) (sym same) (check_from old none))

turn_talk : (old : Moving) (left : ℕ) (h : Hint) (rest : List Hint) → old.hints ≡ h ∷ rest → old.left ≡ suc left
    → going_on (after_outcome (line_of old) left (counted old.turn.begun + 1) (map hint_of old.hints)) (told of_turned (turn_on (line_of old) (counted old.turn.begun) (hint_of h)))
    ≡ moving (line_of old) old.left (counted old.turn.begun) (map hint_of old.hints)
turn_talk old left h rest first is =
    let m = line_of old in
    let nth = counted old.turn.begun in
    let base = turns m left nth (hint_of h) (map hint_of rest) in
    let on = subst (λ hs. going_on (after_outcome m left (nth + 1) (map hint_of hs)) (told of_turned (turn_on m nth (hint_of h))) ≡ moving m (suc left) nth (map hint_of hs)) (sym first) base in
    subst (λ n. going_on (after_outcome m left (nth + 1) (map hint_of old.hints)) (told of_turned (turn_on m nth (hint_of h))) ≡ moving m n nth (map hint_of old.hints)) (sym is) on

turn_from : (old : Moving) (left : ℕ) (h : Hint) (rest : List Hint) → old.hints ≡ h ∷ rest → old.left ≡ suc left
    → BeginsTurn old (record old { left = left; turn = record old.turn { stage = stage.Keys h } })
unfolding stands
turn_from old left h rest first is = record {
  same = record { line = refl; index = refl };
  begun = refl;
  going = refl;
  waiting = refl;
  talk = ap free (turn_talk old left h rest first is);
}

pub turn_begins : (old mid : Moving) (h : Hint) (t : Turning) → TakesHint old mid h → t ≡ record mid.turn { stage = stage.Keys h } → BeginsTurn old (record mid { turn = t })
turn_begins old mid h t takes is =
    subst (λ x. BeginsTurn old (record mid { turn = x })) (sym is)
    (subst (λ m. BeginsTurn old (record m { turn = record m.turn { stage = stage.Keys h } })) (sym takes.same) (turn_from old mid.left h takes.rest takes.first takes.left))

-- ---- what follows a turn

-- the turn that is begun has the next number
begins_next : (old new : Moving) (hs : List _) → BeginsTurn old new → begun_by old + 1 < 2 ^ 64 → map hint_of old.hints ≡ hs
    → free (moving (line_of old) old.left (begun_by old + 1) hs) ≡ stands new
begins_next old new hs b few is =
    ap (λ n. free (moving (line_of old) old.left n hs)) (sym (count_goes (begun_by old) few))
    ∙ ap (λ x. free (moving (line_of old) old.left (counted (begun_by old)) x)) (sym is)
    ∙ sym b.talk

pub again_silent : (old new : Moving) → BeginsTurn old new → GoesOn old new (outcome_of (said_as.Again None)) progress.More
again_silent old new b = record {
  same = b.same;
  begun = b.begun;
  leaves = b.going;
  edges = refl;
  ends = tt;
  goes = λ few. ap free (shown_none (moving (line_of old) old.left (begun_by old + 1) (map hint_of old.hints))) ∙ begins_next old new (map hint_of old.hints) b few refl;
}

pub again_shown : (old new : Moving) (r : Reply) → BeginsTurn old new → GoesOn old new (outcome_of (said_as.Again (Some r))) (progress.Told r)
again_shown old new r b = record {
  same = b.same;
  begun = b.begun;
  leaves = (b.going, b.waiting);
  edges = refl;
  ends = tt;
  goes = λ few. ap (replied r) (begins_next old new (map hint_of old.hints) b few refl);
}

behind_map : (hs : List Hint) → map hint_of (behind_first hs) ≡ behind_first (map hint_of hs)
behind_map [] = refl
behind_map (h ∷ hs) = refl

pub onward_goes : (old mid new : Moving) → mid ≡ record old { hints = behind_first old.hints } → BeginsTurn mid new → GoesOn old new goes_on progress.More
onward_goes old mid new is b = by (subst (λ m. BeginsTurn m new) is b)
  where
    by : BeginsTurn (record old { hints = behind_first old.hints }) new → GoesOn old new goes_on progress.More
    by c = record {
      same = record { line = c.same.line; index = c.same.index };
      begun = c.begun;
      leaves = c.going;
      edges = refl;
      ends = tt;
      goes = λ few. begins_next (record old { hints = behind_first old.hints }) new (behind_first (map hint_of old.hints)) c few (behind_map old.hints);
    }

found_talk : (old : Moving) (left : ℕ) (hs : List Hint) (n : ℕ) (number : Number) → (left ≡ 0 → ⊥) → (hs ≡ [] → ⊥)
    → after_found (line_of old) left n (map hint_of hs) number ≡ moving (line_of old) left n (map hint_of hs)
found_talk old left [] n number more some = absurd (some refl)
found_talk old zero (h ∷ hs) n number more some = absurd (more refl)
found_talk old (suc left) (h ∷ hs) n number more some = refl

pub found_goes : (old mid new : Moving) (hs : List Hint) (number : Number) → (old.left ≡ 0 → ⊥) → (hs ≡ [] → ⊥) → mid ≡ record old { hints = hs }
    → BeginsTurn mid new → GoesOn old new (found (map hint_of hs) number) progress.More
found_goes old mid new hs number more some is b = by (subst (λ m. BeginsTurn m new) is b)
  where
    by : BeginsTurn (record old { hints = hs }) new → GoesOn old new (found (map hint_of hs) number) progress.More
    by c = record {
      same = record { line = c.same.line; index = c.same.index };
      begun = c.begun;
      leaves = c.going;
      edges = refl;
      ends = tt;
      goes = λ few. ap free (found_talk old old.left hs (begun_by old + 1) number more some) ∙ begins_next (record old { hints = hs }) new (map hint_of hs) c few refl;
    }

-- ---- the line ends

idle : (s : Stage) → is_busy s ≡ false → has_transaction s ≡ false
idle (stage.Keys h) is = refl
idle (stage.Begins k) is = refl
idle (stage.Enters tx k) is = absurd (false≢true (sym is))
idle (stage.Asks x) is = absurd (false≢true (sym is))
idle (stage.Ends e) is = absurd (false≢true (sym is))
idle stage.Over is = refl

pub over_goes : (old : Moving) (r : Reply) → is_going old ≡ false → GoesOn old old (ends r) (progress.Ended r)
over_goes old r over = record { same = record { line = refl; index = refl }; begun = refl; leaves = idle old.turn.stage over; edges = refl; ends = refl; goes = λ few. refl }

pub complete_goes : (old : Moving) (hs : List Hint) (number : Number) → is_going old ≡ false → hs ≡ []
    → GoesOn old old (found (map hint_of hs) number) (progress.Ended (reply.Complete number))
complete_goes old hs number over is = subst (λ x. GoesOn old old (found (map hint_of x) number) (progress.Ended (reply.Complete number))) (sym is) (record {
  same = record { line = refl; index = refl };
  begun = refl;
  leaves = idle old.turn.stage over;
  edges = refl;
  ends = tt;
  goes = λ few. refl;
})

suspended_talk : (old : Moving) (left : ℕ) (hs : List Hint) (n : ℕ) (number : Number) → left ≡ 0 → (hs ≡ [] → ⊥)
    → after_found (line_of old) left n (map hint_of hs) number ≡ says (reply.Suspended old.turn.line.turns number ∷ [])
suspended_talk old left [] n number none some = absurd (some refl)
suspended_talk old left (h ∷ hs) n number none some = ap (λ l. after_found (line_of old) l n (map hint_of (h ∷ hs)) number) none

pub suspended_goes : (old : Moving) (hs : List Hint) (turns : ℕ) (number : Number) → is_going old ≡ false → old.left ≡ 0 → (hs ≡ [] → ⊥) → turns ≡ old.turn.line.turns
    → GoesOn old old (found (map hint_of hs) number) (progress.Ended (reply.Suspended turns number))
suspended_goes old hs turns number over none some is =
    subst (λ n. GoesOn old old (found (map hint_of hs) number) (progress.Ended (reply.Suspended n number))) (sym is) (record {
      same = record { line = refl; index = refl };
      begun = refl;
      leaves = idle old.turn.stage over;
      edges = refl;
      ends = tt;
      goes = λ few. ap free (suspended_talk old old.left hs (begun_by old + 1) number none some);
    })

-- ---- a new line

new_line : (l : Line) (n : ℕ) → IsNew (record { turn = record { line = l; begun = n; stage = stage.Begins task.Check }; left = l.turns; hints = [] }) l.session l.back_ends n l.table l.rows l.turns
unfolding stands
new_line l n = record {
  line = refl;
  begun = refl;
  index = refl;
  going = refl;
  waiting = refl;
  ending = refl;
  none = refl;
  talk = ap free (checks (record { session = l.session; back_ends = l.back_ends; table = l.table; rows = l.rows; turns = l.turns }) l.turns (counted n) [] (inr refl));
}

pub is_new : (l : Line) (n : ℕ) (t : Turning) → t ≡ record { line = l; begun = n; stage = stage.Begins task.Check }
    → IsNew (record { turn = t; left = l.turns; hints = [] }) l.session l.back_ends n l.table l.rows l.turns
is_new l n t is = subst (λ x. IsNew (record { turn = x; left = l.turns; hints = [] }) l.session l.back_ends n l.table l.rows l.turns) (sym is) (new_line l n)
