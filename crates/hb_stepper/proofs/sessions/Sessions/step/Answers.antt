use Rattle.std.proofs.Common.{◌≡◌, List, ◌++◌, ap, refl, ◌∙◌, arith}
use Rattle.hb_model.specs.declared.line.Line.{Line}
use Rattle.hb_node.specs.Lists.{here}
use Rattle.hb_stepper.specs.Running.{busy, waits}
use Rattle.hb_stepper.specs.Shown.{listed}
use Rattle.hb_stepper.specs.declared.seat.Seat.{Seat}
use Rattle.hb_stepper.proofs.Seats.{seat_within, seat_read, read_twice, read_written, waiters_same}
use Rattle.hb_stepper.proofs.sessions.Sessions.step.Goals as goal

pub returns-in_err-reserve-clause-goes : goal.returns-in_err-reserve-clause-goes
returns-in_err-reserve-clause-goes g c = here

pub returns-in_err-reserve-2-clause-goes : goal.returns-in_err-reserve-2-clause-goes
returns-in_err-reserve-2-clause-goes g c = here

pub index-requires : goal.index-requires
index-requires g c = omega (arith, c.args.self.now.seats.ok.0, seat_within busy c.args.self.now.seats.items c.args.place c.requires)

pub index_mut-requires : goal.index_mut-requires
index_mut-requires g c = omega (arith, c.args.self.now.seats.ok.0, seat_within busy c.args.self.now.seats.items c.args.place c.requires)

pub step-line-requires : goal.step-line-requires
step-line-requires g c = (seat_read busy c.args.self.now.seats.items c.args.place c.index_mut.result.now _ c.requires c.index_mut.ensures.value).1

pub index-requires-2 : goal.index-requires-2
index-requires-2 g c = omega (arith, c.args.self.now.seats.ok.0, seat_within busy c.args.self.now.seats.items c.args.place c.requires)

pub returns-clause-made : goal.returns-clause-made
returns-clause-made g c =
    let seats = c.args.self.now.seats.items in
    let place = c.args.place in
    let was = c.index_mut.result.now in
    let now = c.step-line.new.self in
    let step = c.step-line.ensures.steps in
    let read = seat_read busy seats place was _ c.requires c.index_mut.ensures.value in
    let first : c.index.result.now ≡ was = read_twice busy seats place c.index.result.now was _ _ c.requires c.index.ensures c.index_mut.ensures.value in
    let second : c.index-2.result.now ≡ now = read_written busy seats place now c.index-2.result.now _ c.requires c.index-2.ensures in
    let waited = waiters_same _ _ place _ _ _ _ c.in_ok-reserve-2.ensures.items (c.waits-was.ensures ∙ ap (λ (s : Seat). waits s) first) (c.waits-waits.ensures ∙ ap (λ (s : Seat). waits s) second) in
    let shown = ap (λ (xs : List Line). xs ++ listed c.step-line.result) c.in_ok-reserve.ensures.items ∙ ap (λ (xs : List Line). c.args.self.now.lines.items ++ xs) step.2 in
    (step.0, record { was = was; now = now; there = read.0; in_progress = read.1; seats = refl; stepped = step.1; waiters = c.note_wait.ensures ∙ waited; lines = c.note_line.ensures ∙ shown; names = refl })
