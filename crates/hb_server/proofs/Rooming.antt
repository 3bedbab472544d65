-- Answers that take no memory, and the room before and behind a request.
use Rattle.std.proofs.Common.{◌≡◌, inl, inr, ℕ, ◌+◌, ◌-◌, ◌≤◌, ◌<◌, Bool, true, false, if◌then◌else◌, length, refl, sym, ◌∙◌, ap, subst, arith}
use Rattle.std.specs.Prelude.{List, ◌≢◌}
use Rattle.std.proofs.lemmas.Bool.{false≢true, true≢false}
use Rattle.hb_edge.specs.declared.fused.Fused.{Fused}
use Rattle.hb_types.specs.declared.answer.Answer.{Answer}
use Rattle.hb_types.specs.declared.answer.Answer.TheVariants as answer
use Rattle.hb_types.specs.declared.change.Stored.{Stored}
use Rattle.hb_types.specs.declared.names.Number.{Number}
use Rattle.hb_types.specs.declared.names.Tx.{Tx}
use Rattle.hb_types.specs.declared.places.Place.{Place}
use Rattle.hb_types.specs.declared.request.Request.{Request}
use Rattle.hb_types.specs.declared.request.Request.TheVariants as request
use Rattle.hb_types.proofs.PutLaws.{by_test}
use Rattle.hb_runs.specs.Server.{SState, unended}
use Rattle.hb_runs.specs.ServerAnswers.{Right, RightIn, takes_none}
use Rattle.hb_force.specs.Kept.{Follows}
use Rattle.hb_force.specs.Quiet.{records_none}
use Rattle.hb_force.specs.Standing.{is_quiet}
use Rattle.hb_server.specs.declared.state.Serving.{Serving}
use Rattle.hb_server.specs.declared.state.State.{State}
use Rattle.hb_server.specs.declared.state.State.TheVariants.{Down, Up, Away}
use Rattle.hb_server.specs.Law.{IsTold, armed_in, is_heavy, is_passed, mended_in}
use Rattle.hb_server.specs.Rooms.{HasEnds, HasRoomFor, entries_of, is_plain, is_up, most_calls, room_with}
use Rattle.hb_server.proofs.Counting.{room_behind}

-- ---- answers

commit_plain : (s : SState) (tx : Tx) (n : Number) (a : Answer) → RightIn true s (request.Commit tx n) a → is_plain a ≡ true
commit_plain s tx n answer.NoMemory right = absurd (true≢false right)
commit_plain s tx n (answer.Blocked p m holders) right = absurd right
commit_plain s tx n (answer.Row row) right = absurd right
commit_plain s tx n (answer.Rows rows) right = absurd right
commit_plain s tx n (answer.Keys keys) right = absurd right
commit_plain s tx n (answer.Started doubts) right = absurd right
commit_plain s tx n (answer.Waiting edges) right = absurd right
commit_plain s tx n (answer.Cycle edges) right = absurd right
commit_plain s tx n _ right = refl

rollback_plain : (s : SState) (tx : Tx) (a : Answer) → RightIn true s (request.Rollback tx) a → is_plain a ≡ true
rollback_plain s tx answer.NoMemory right = absurd (true≢false right)
rollback_plain s tx (answer.Blocked p m holders) right = absurd right
rollback_plain s tx (answer.Row row) right = absurd right
rollback_plain s tx (answer.Rows rows) right = absurd right
rollback_plain s tx (answer.Keys keys) right = absurd right
rollback_plain s tx (answer.Started doubts) right = absurd right
rollback_plain s tx (answer.Waiting edges) right = absurd right
rollback_plain s tx (answer.Cycle edges) right = absurd right
rollback_plain s tx _ right = refl

pub right_plain : (s : SState) (q : Request) (a : Answer) → s.up ≡ true → (q ≡ request.Stop → ⊥) → takes_none q ≡ true → Right s q a → is_plain a ≡ true
right_plain s (request.Commit tx n) a up no_stop none right = commit_plain s tx n a (subst (λ (b : Bool). RightIn b s (request.Commit tx n) a) up right)
right_plain s (request.Rollback tx) a up no_stop none right = rollback_plain s tx a (subst (λ (b : Bool). RightIn b s (request.Rollback tx) a) up right)
right_plain s request.Stop a up no_stop none right = absurd (no_stop refl)
right_plain s _ a up no_stop none right = absurd (false≢true none)

light : (a : Answer) → is_plain a ≡ true → is_heavy a ≡ true → ⊥
light answer.NoMemory plain heavy = false≢true plain
light (answer.Blocked p m holders) plain heavy = false≢true plain
light (answer.Row row) plain heavy = false≢true plain
light (answer.Rows rows) plain heavy = false≢true plain
light (answer.Keys keys) plain heavy = false≢true plain
light (answer.Started doubts) plain heavy = false≢true plain
light (answer.Waiting edges) plain heavy = false≢true plain
light (answer.Cycle edges) plain heavy = false≢true plain
light _ plain heavy = false≢true heavy

pub had : (a : Answer) → is_plain a ≡ true → a ≢ answer.NoMemory
had a plain none = false≢true (sym (ap is_plain none) ∙ plain)

-- an answer that takes no memory is told as it is
pub told_plain : (a told : Answer) → IsTold a told → is_plain a ≡ true → told ≢ answer.NoMemory
told_plain a told (inl same) plain none = had a plain (sym same ∙ none)
told_plain a told (inr (heavy, want)) plain none = light a plain heavy

-- ---- room

with_more : (q : Request) (n spare : ℕ) → n ≤ spare → room_with q n ≤ room_with q spare
with_more request.Start n spare le = omega (arith, le)
with_more (request.Enlist tx) n spare le = omega (arith, le)
with_more (request.Commit tx number) n spare le = le
with_more (request.Rollback tx) n spare le = le
with_more request.Stop n spare le = omega (arith, le)
with_more _ n spare le = omega (arith, le)

some_room : (q : Request) (n : ℕ) → 1 ≤ room_with q (n + 1)
some_room request.Start n = omega arith
some_room (request.Enlist tx) n = omega arith
some_room (request.Commit tx number) n = omega arith
some_room (request.Rollback tx) n = omega arith
some_room request.Stop n = omega arith
some_room _ n = omega arith

pub entered_none : (q : Request) (a : Answer) → is_passed q a ≡ true → entries_of q a ≡ 0
entered_none q a passed = ap (λ (b : Bool). if b then 0 else 1) passed

pub entered_one : (q : Request) (a : Answer) → is_passed q a ≡ false → entries_of q a ≡ 1
entered_one q a entered = ap (λ (b : Bool). if b then 0 else 1) entered

entries_few : (q : Request) (a : Answer) → entries_of q a ≤ 1
entries_few q a = by_test (is_passed q a) (λ yes. let none = entered_none q a yes in omega (arith, none)) (λ no. let one = entered_one q a no in omega (arith, one))

module _ {D S : Type 0} (rows : S → List Stored) (room : S → Place → ℕ) where
  -- behind the taking of its room
  pub room_for : (state : State D S) (q : Request) (spare : ℕ) → HasEnds rows room state spare → HasRoomFor rows room state q (room_with q spare)
  room_for (Down rest) q spare ends = with_more q 0 spare (omega arith)
  room_for (Up serves) q spare ends = (ends.0, with_more q (length (unended ends.0.state) + 1) spare ends.1)
  room_for Away q spare ends = tt

  -- a server that stays up
  pub ends_behind : (old new : Serving D S) (q : Request) (a : Answer) (spare : ℕ) → (q ≡ request.Stop → ⊥) → is_quiet a ≡ true → Follows rows room old.running new.running q a → HasRoomFor rows room (Up old) q spare → HasEnds rows room (Up new) (spare - entries_of q a)
  ends_behind old new q a spare no_stop quiet follows has =
      let next = follows has.0 in
      let fits = room_behind has.0.state next.0.state q a spare has.0.stands.up no_stop quiet next.1 has.1 in
      (next.0, omega (arith, fits))

  pub up_entry : (old : Serving D S) (q : Request) (a : Answer) (spare : ℕ) → HasRoomFor rows room (Up old) q spare → entries_of q a ≤ spare
  up_entry old q a spare has =
      let few = entries_few q a in
      let some = some_room q (length (unended has.0.state)) in
      let fits = has.1 in
      omega (arith, few, some, fits)

  -- with room for an entry more
  pub ends_more : (state : State D S) (n spare : ℕ) → n ≤ spare → HasEnds rows room state n → HasEnds rows room state spare
  ends_more (Down rest) n spare le ends = tt
  ends_more (Up serves) n spare le ends = let fits = ends.1 in (ends.0, omega (arith, fits, le))
  ends_more Away n spare le ends = tt

-- a stopped server's answer is entered in the room that was taken
pub down_entry : (q : Request) (spare : ℕ) → room_with q 0 ≤ spare → entries_of q answer.Down ≤ spare
down_entry request.Start spare le = omega (arith, le)
down_entry (request.Enlist tx) spare le = omega (arith, le)
down_entry (request.Commit tx number) spare le = omega (arith, le)
down_entry (request.Rollback tx) spare le = omega (arith, le)
down_entry request.Stop spare le = omega (arith, le)
down_entry _ spare le = omega (arith, le)

-- where no room is had
pub none_had : (q : Request) (spare : ℕ) → takes_none q ≡ true → spare < room_with q spare → (q ≡ request.Stop) × (spare ≡ 0)
none_had (request.Commit tx number) spare none less = absurd (omega (arith, less))
none_had (request.Rollback tx) spare none less = absurd (omega (arith, less))
none_had request.Stop spare none less = (refl, omega (arith, less))
none_had _ spare none less = absurd (false≢true none)

-- ---- fuses

module _ {D S : Type 0} (rows : S → List Stored) (room : S → Place → ℕ) where
  pub mended_room : (state : State (Fused D) S) (q : Request) (spare : ℕ) → HasRoomFor rows room state q spare → HasRoomFor rows room (mended_in state) q spare
  mended_room (Down rest) q spare has = has
  mended_room (Up serves) q spare has = has
  mended_room Away q spare has = has

  pub armed_ends : (k : ℕ) (area : Bool) (state : State (Fused D) S) (spare : ℕ) → HasEnds rows room state spare → HasEnds rows room (armed_in area k state) spare
  armed_ends k true (Down rest) spare ends = tt
  armed_ends k false (Down rest) spare ends = tt
  armed_ends k true (Up serves) spare ends = ends
  armed_ends k false (Up serves) spare ends = (record { state = ends.0.state; stands = ends.0.stands; sound = ends.0.sound; end_is = ends.0.end_is; has_room = ends.0.has_room; rooms = ends.0.rooms }, ends.1)
  armed_ends k area Away spare ends = ends

  -- want of memory at once is that of a stopped server
  pub is_stopped : (state : State D S) → HasEnds rows room state 0 → is_up state ≡ false
  is_stopped (Down rest) ends = refl
  is_stopped (Up serves) ends = let fits = ends.1 in absurd (omega (arith, fits))
  is_stopped Away ends = refl

-- ---- device calls

pub few_calls : (q : Request) (before after : ℕ) → after ≤ before + 4 → (records_none q ≡ true → after ≡ before) → after ≤ before + most_calls q
few_calls (request.Prepare tx) before after few none = few
few_calls (request.Commit tx number) before after few none = few
few_calls (request.Rollback tx) before after few none = few
few_calls _ before after few none = let same = none refl in omega (arith, same)
