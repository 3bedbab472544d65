-- Room in a server's trail, answers that take no memory, and device calls.
use Rattle.std.specs.Prelude.{ℕ, ◌+◌, ◌≤◌, max, Bool, true, false, not, if◌then◌else◌, List, length, ⊤}
use Rattle.hb_types.specs.declared.answer.Answer.{Answer}
use Rattle.hb_types.specs.declared.answer.Answer.TheVariants as answer
use Rattle.hb_types.specs.declared.change.Stored.{Stored}
use Rattle.hb_types.specs.declared.places.Place.{Place}
use Rattle.hb_types.specs.declared.request.Request.{Request}
use Rattle.hb_types.specs.declared.request.Request.TheVariants as request
use Rattle.hb_runs.specs.Server.{unended}
use Rattle.hb_force.specs.Kept.{Kept}
use Rattle.hb_server.specs.Law.{is_heavy, is_passed}
use Rattle.hb_server.specs.declared.state.State.{State}
use Rattle.hb_server.specs.declared.state.State.TheVariants.{Down, Up, Away}

-- How much room there is before a request, by what there was. A Start takes that of its Stop too, and an Enlist that of its branch's
-- end, where a Commit, a Rollback and a Stop find it.
abbrev pub room_with : Request → ℕ → ℕ
room_with request.Start n = n + 2
room_with (request.Enlist tx) n = n + 2
room_with (request.Commit tx number) n = n
room_with (request.Rollback tx) n = n
room_with request.Stop n = max 1 n
room_with _ n = n + 1

-- how many entries a call makes
abbrev pub entries_of : Request → Answer → ℕ
entries_of q a = if is_passed q a then 0 else 1

-- each branch of an up server that has not ended has room for its end, and the Stop has room of its own
abbrev pub HasEnds : {D S : Type 0} → (S → List Stored) → (S → Place → ℕ) → State D S → ℕ → Type 0
HasEnds rows room (Down rest) spare = ⊤
HasEnds rows room (Up serves) spare = (k : Kept rows room serves.running) × (length (unended k.state) + 1 ≤ spare)
HasEnds rows room Away spare = ⊤

-- this, and the room that the request takes beside it
abbrev pub HasRoomFor : {D S : Type 0} → (S → List Stored) → (S → Place → ℕ) → State D S → Request → ℕ → Type 0
HasRoomFor rows room (Down rest) q spare = room_with q 0 ≤ spare
HasRoomFor rows room (Up serves) q spare = (k : Kept rows room serves.running) × (room_with q (length (unended k.state) + 1) ≤ spare)
HasRoomFor rows room Away q spare = ⊤

abbrev pub is_up : {D S : Type 0} → State D S → Bool
is_up (Up serves) = true
is_up _ = false

-- an answer that is no want of memory, and whose copy takes none
abbrev pub is_plain : Answer → Bool
is_plain answer.NoMemory = false
is_plain a = not (is_heavy a)

-- how many device calls a request makes at most, other than a Start
abbrev pub most_calls : Request → ℕ
most_calls (request.Prepare tx) = 4
most_calls (request.Commit tx number) = 4
most_calls (request.Rollback tx) = 4
most_calls _ = 0
