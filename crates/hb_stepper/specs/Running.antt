-- Where a run stands: its sessions, who of them waits, the lines so far, and what the nodes were asked.
use Rattle.std.specs.Prelude.{ℕ, Bool, false, not, ◌&&◌, ◌||◌, List, filter, Option, Some, None, slice_get}
use Rattle.hb_model.specs.declared.line.Line.{Line}
use Rattle.hb_node.specs.Lists.{Lists}
use Rattle.hb_caller.specs.Calling.{in_transaction, busy as is_busy, waits as is_waiting}
use Rattle.hb_stepper.specs.declared.seat.Seat.{Seat}
use Rattle.hb_stepper.specs.declared.sessions.Sessions.{Sessions}

-- the sessions stand at the places of their names; of those that wait the places, in the order in which their waits began
pub record Running : Type 0 where
  pub names : List (List ℕ)
  pub seats : List Seat
  pub waiters : List ℕ
  pub lines : List Line
  pub lists : Lists

abbrev pub running : Sessions → Lists → Running
running s lists = record { names = s.names.items; seats = s.seats.items; waiters = s.waiters.items; lines = s.lines.items; lists = lists }

-- ---- words on a session

abbrev pub is_seat : (Seat → Bool) → Option Seat → Bool
is_seat test None = false
is_seat test (Some seat) = test seat

abbrev pub seat_is : (Seat → Bool) → List Seat → ℕ → Bool
seat_is test seats place = is_seat test (slice_get seats place)

-- a statement or a line of pdrbal is in progress
abbrev pub busy : Seat → Bool
busy seat = is_busy seat.caller

abbrev pub waits : Seat → Bool
waits seat = is_waiting seat.caller

-- it can go on
abbrev pub going : Seat → Bool
going seat = busy seat && not (waits seat)

-- it waits, and is asked after each line
abbrev pub asked : Seat → Bool
asked seat = busy seat && waits seat && not seat.held

-- it has a transaction, or something in progress
abbrev pub open_now : Seat → Bool
open_now seat = busy seat || in_transaction seat.caller

-- the sessions that are asked, in the order in which their waits began
abbrev pub askable : Running → List ℕ
askable r = filter (seat_is asked r.seats) r.waiters
