-- What a turn's stage tells of its number and of its end.
use Rattle.std.proofs.Common.{◌≡◌, ◌⊎◌, inl, inr, ℕ, ◌+◌, ◌<◌, ◌≤◌, ◌^◌, Bool, true, false, List, [], ◌∷◌, refl, sym, subst, arith}
use Rattle.std.proofs.lemmas.Bool.{false≢true}
use Rattle.std.specs.Prelude.{cond, ⊤}
use Rattle.hb_types.specs.declared.answer.Answer.{Answer}
use Rattle.hb_types.specs.declared.answer.Answer.TheVariants as answer
use Rattle.hb_types.specs.declared.names.Owner.{Owner}
use Rattle.hb_model.specs.declared.reply.Reply.{Reply}
use Rattle.hb_model.specs.Shapes.{Hint as Group}
use Rattle.hb_talk.specs.Moves.{turn_with}
use Rattle.hb_talk.specs.Talk.{says, asks}
use Rattle.hb_batch.specs.declared.hint.Hint.{Hint}
use Rattle.hb_wait.specs.Courses.{Course, free, halted, after_call}
use Rattle.hb_wait.specs.declared.pending.Heard.{Heard}
use Rattle.hb_turn.specs.Steps.{IsToldBy, RunsOutAt, active_at, begun_by}
use Rattle.hb_turn.specs.Turning.{Outcome, found, stays, goes_on, ends, Turning, counted, in_transaction, is_busy, is_last, is_waiting, of_turned, stands, told}
use Rattle.hb_turn.specs.declared.stage.Stage.{Stage}
use Rattle.hb_turn.specs.declared.stage.Stage.TheVariants as stage
use Rattle.hb_turn.specs.declared.stage.Task.{Task}
use Rattle.hb_turn.specs.declared.stage.Task.TheVariants as task
use Rattle.hb_turn.specs.declared.turn.Went.{Went}

-- ---- the count

begins_same : (k : Task) (a : Answer) (n : ℕ) → cond (active_at (stage.Begins k) a) (begun_by (stage.Begins k) a n) (counted (begun_by (stage.Begins k) a n)) ≡ counted n
begins_same k (answer.Begun tx) n = refl
begins_same k a n = refl

-- the number of a turn's transaction stays the same
pub number_same : (s : Stage) (a : Answer) (n : ℕ) → is_busy s ≡ true
    → cond (active_at s a) (begun_by s a n) (counted (begun_by s a n)) ≡ cond (in_transaction s) n (counted n)
number_same (stage.Keys h) a n busy = refl
number_same (stage.Begins k) a n busy = begins_same k a n
number_same (stage.Enters tx k) a n busy = refl
number_same (stage.Asks x) a n busy = refl
number_same (stage.Ends e) a n busy = refl
number_same stage.Over a n busy = absurd (false≢true busy)

counted_more : (n : ℕ) → n < 2 ^ 64 → n ≤ counted n
counted_more n few = omega arith

counted_few : (n : ℕ) → counted n < 2 ^ 64
counted_few n = omega arith

begins_more : (k : Task) (a : Answer) (n : ℕ) → n < 2 ^ 64 → n ≤ begun_by (stage.Begins k) a n
begins_more k (answer.Begun tx) n few = counted_more n few
begins_more k a n few = omega arith

-- the count doesn't fall
pub begun_more : (s : Stage) (a : Answer) (n : ℕ) → n < 2 ^ 64 → n ≤ begun_by s a n
begun_more (stage.Keys h) a n few = omega arith
begun_more (stage.Begins k) a n few = begins_more k a n few
begun_more (stage.Enters tx k) a n few = omega arith
begun_more (stage.Asks x) a n few = omega arith
begun_more (stage.Ends e) a n few = omega arith
begun_more stage.Over a n few = omega arith

begins_few : (k : Task) (a : Answer) (n : ℕ) → n < 2 ^ 64 → begun_by (stage.Begins k) a n < 2 ^ 64
begins_few k (answer.Begun tx) n few = counted_few n
begins_few k a n few = few

pub begun_few : (s : Stage) (a : Answer) (n : ℕ) → n < 2 ^ 64 → begun_by s a n < 2 ^ 64
begun_few (stage.Keys h) a n few = few
begun_few (stage.Begins k) a n few = begins_few k a n few
begun_few (stage.Enters tx k) a n few = few
begun_few (stage.Asks x) a n few = few
begun_few (stage.Ends e) a n few = few
begun_few stage.Over a n few = few

-- within a transaction nothing is counted
pub begun_within : (s : Stage) (a : Answer) (n : ℕ) → in_transaction s ≡ true → begun_by s a n ≡ n
begun_within (stage.Keys h) a n active = refl
begun_within (stage.Begins k) a n active = absurd (false≢true active)
begun_within (stage.Enters tx k) a n active = refl
begun_within (stage.Asks x) a n active = refl
begun_within (stage.Ends e) a n active = refl
begun_within stage.Over a n active = refl

pub count_goes : (n : ℕ) → n + 1 < 2 ^ 64 → counted n ≡ n + 1
count_goes n few = omega arith

-- ---- words

-- a rolling back that is the last goes on, and doesn't wait
pub last_goes_on : (s : Stage) → is_last s ≡ true → (is_last s ≡ true) × (is_busy s ≡ true) × (is_waiting s ≡ false)
last_goes_on (stage.Keys h) last = absurd (false≢true last)
last_goes_on (stage.Begins k) last = absurd (false≢true last)
last_goes_on (stage.Enters tx k) last = absurd (false≢true last)
last_goes_on (stage.Asks x) last = absurd (false≢true last)
last_goes_on (stage.Ends e) last = (last, refl, refl)
last_goes_on stage.Over last = absurd (false≢true last)

-- it takes no memory, and awaits no rows
pub last_leads : (s : Stage) (h : Heard) (new : Turning) (w : Went) (X : Type 0) → is_last s ≡ true → (IsToldBy s h → X ⊎ RunsOutAt s new w) → X
last_leads (stage.Keys k) h new w X last goes = absurd (false≢true last)
last_leads (stage.Begins k) h new w X last goes = absurd (false≢true last)
last_leads (stage.Enters tx k) h new w X last goes = absurd (false≢true last)
last_leads (stage.Asks x) h new w X last goes = absurd (false≢true last)
last_leads (stage.Ends e) h new w X last goes = by (goes tt)
  where
    by : X ⊎ ⊥ → X
    by (inl x) = x
    by (inr x) = absurd x
last_leads stage.Over h new w X last goes = absurd (false≢true last)

-- ---- a turn that ends before its transaction is begun ends the line

abbrev IsEnd : Outcome → Type 0
IsEnd (ends r) = ⊤
IsEnd _ = ⊥

-- where a course says something, it ends the line
abbrev EndsLine : Course Outcome → Type 0
EndsLine (free (says o)) = IsEnd o
EndsLine (free (asks node q k)) = ⊤
EndsLine (halted p k) = ⊤

keyed : (o : Owner) (h : Group) (keys : List _) → EndsLine (free (told of_turned (turn_with o h keys)))
keyed o h [] = tt
keyed o h (k ∷ ks) = tt

told_keys : (t : Turning) (h : Hint) (a : Answer) → EndsLine (after_call (stands (record t { stage = stage.Keys h })) a)
told_keys t h (answer.Keys keys) = keyed _ _ _
told_keys t h a = tt

begins_check : (t : Turning) (a : Answer) → EndsLine (after_call (stands (record t { stage = stage.Begins task.Check })) a)
begins_check t (answer.Begun tx) = tt
begins_check t a = tt

begins_batch : (t : Turning) (h : Hint) (keys : List _) (a : Answer) → EndsLine (after_call (stands (record t { stage = stage.Begins (task.Batch h keys) })) a)
begins_batch t h keys (answer.Begun tx) = tt
begins_batch t h keys a = tt

begins_finish : (t : Turning) (h : Hint) (a : Answer) → EndsLine (after_call (stands (record t { stage = stage.Begins (task.Finish h) })) a)
begins_finish t h (answer.Begun tx) = tt
begins_finish t h a = tt

begins_task : (t : Turning) (k : Task) (a : Answer) → EndsLine (after_call (stands (record t { stage = stage.Begins k })) a)
begins_task t task.Check a = begins_check t a
begins_task t (task.Batch h keys) a = begins_batch t h keys a
begins_task t (task.Finish h) a = begins_finish t h a

early_end : (t : Turning) (s : Stage) (a : Answer) → is_busy s ≡ true → in_transaction s ≡ false → EndsLine (after_call (stands (record t { stage = s })) a)
early_end t (stage.Keys h) a busy none = told_keys t h a
early_end t (stage.Begins k) a busy none = begins_task t k a
early_end t (stage.Enters tx k) a busy none = absurd (false≢true (sym none))
early_end t (stage.Asks x) a busy none = absurd (false≢true (sym none))
early_end t (stage.Ends e) a busy none = absurd (false≢true (sym none))
early_end t stage.Over a busy none = absurd (false≢true busy)

-- what a turn comes to, unless it ends the line, it comes to within its transaction
pub comes_within : (t : Turning) (a : Answer) (o : Outcome) → is_busy t.stage ≡ true → after_call (stands t) a ≡ free (says o)
    → (in_transaction t.stage ≡ true) ⊎ ((r : Reply) × (o ≡ ends r))
comes_within t a o busy leads = by (in_transaction t.stage) refl
  where
    ended : (o : Outcome) → IsEnd o → (r : Reply) × (o ≡ ends r)
    ended (ends r) is = (r, refl)
    ended (found hs number) is = absurd is
    ended (stays rs) is = absurd is
    ended goes_on is = absurd is

    by : (b : Bool) → in_transaction t.stage ≡ b → (in_transaction t.stage ≡ true) ⊎ ((r : Reply) × (o ≡ ends r))
    by true is = inl is
    by false is = inr (ended o (subst EndsLine leads (early_end t t.stage a busy is)))
