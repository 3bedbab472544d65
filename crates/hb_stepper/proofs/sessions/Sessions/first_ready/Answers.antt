use Rattle.std.proofs.Common.{◌≡◌, ◌<◌, ◌+◌, ℕ, true, sym, ◌∙◌, subst, length, arith}
use Rattle.hb_node.specs.Lists.{Lists, Onward, here}
use Rattle.hb_stepper.specs.declared.sessions.Sessions.{Sessions}
use Rattle.hb_stepper.specs.Running.{Running, running, seat_is, asked}
use Rattle.hb_stepper.specs.Steps.{IsReady}
use Rattle.hb_stepper.proofs.Seats.{seat_within}
use Rattle.hb_stepper.proofs.Stepping.{onward_on, made_on, made_one, made_same}
use Rattle.hb_stepper.proofs.Turns.{TurnAt, turn_start, turn_skips, turn_asks, turn_ends, turn_ready, turn_made}
use Rattle.hb_stepper.proofs.sessions.Sessions.first_ready.Goals as goal
use Rattle.hb_stepper.proofs.sessions.Sessions.first_ready.Goals.{then-is_asked+in_ok-step+else-not-is_asked, else-is_asked}

kept : {N : Type 0} (lists : N → Lists) (goes : N → N → Type 0) (from : Running) (was : N) (nth : ℕ) (s t : Sessions) (n m : N) → t ≡ s → m ≡ n
    → TurnAt from nth (running s (lists n)) → Onward goes was n → record { turn : TurnAt from nth (running t (lists m)); goes : Onward goes was m }
kept {N} lists goes from was nth s t n m same_sessions same_nodes turn goes_on =
    let P : Sessions → Type 0 = λ x. TurnAt from nth (running x (lists m)) in
    let Q : N → Type 0 = λ x. TurnAt from nth (running s (lists x)) in
    let R : N → Type 0 = λ x. Onward goes was x in
    record { turn = subst P (sym same_sessions) (subst Q (sym same_nodes) turn); goes = subst R (sym same_nodes) goes_on }

pub turn-init : goal.turn-init
turn-init g c = record { turn = turn_start _; goes = here }

pub returns-in_err-step-clause-part : goal.returns-in_err-step-clause-part
returns-in_err-step-clause-part g c = made_same _ _ _ (turn_made _ _ c.turn.nth c.turn.invariant.turn) c.in_err-step.ensures.none

pub returns-in_err-step-clause-goes : goal.returns-in_err-step-clause-goes
returns-in_err-step-clause-goes g c = onward_on g.N.Nodes.goes _ _ _ c.turn.invariant.goes c.in_err-step.ensures.goes

pub returns-then-not-is_asked-clause-some : goal.returns-then-not-is_asked-clause-some
returns-then-not-is_asked-clause-some g c = λ place e.
    let same : c.index-place.result.now ≡ place = cc in
    let from = running c.args.self.now (g.N.Nodes.lists c.args.nodes.now) in
    let to = running c.step.new.self (g.N.Nodes.lists c.step.new.nodes) in
    let P : ℕ → Type 0 = λ k. IsReady from k to in
    let within : c.turn.nth < length c.args.self.now.waiters.items = omega (arith, c.turn-test.true, c.len-nth-end.ensures, c.args.self.now.waiters.ok.0) in
    subst P same (turn_ready from _ to c.turn.nth c.index-place.result.now _ c.in_ok-step.ensures.made.0 c.turn.invariant.turn within c.index-place.ensures c.in_ok-step.ensures.made.1
    (sym c.is_asked.ensures ∙ c.if-is_asked.true) (sym c.is_asked-then-is_asked.ensures ∙ c.if-not-is_asked.true))

pub returns-then-not-is_asked-clause-part : goal.returns-then-not-is_asked-clause-part
returns-then-not-is_asked-clause-part g c =
    made_on _ _ _ (turn_made _ _ c.turn.nth c.turn.invariant.turn) (made_one _ _ c.index-place.result.now c.in_ok-step.ensures.made.0 c.in_ok-step.ensures.made.1)

pub returns-then-not-is_asked-clause-goes : goal.returns-then-not-is_asked-clause-goes
returns-then-not-is_asked-clause-goes g c = onward_on g.N.Nodes.goes _ _ _ c.turn.invariant.goes c.in_ok-step.ensures.goes

pub turn-preserved : goal.turn-preserved
turn-preserved g c =
    let from = running c.args.self.now (g.N.Nodes.lists c.args.nodes.now) in
    let within : c.turn.nth < length c.args.self.now.waiters.items = omega (arith, c.turn-test.true, c.len-nth-end.ensures, c.args.self.now.waiters.ok.0) in
    elim c.if-is_asked.branch [
      | then-is_asked+in_ok-step+else-not-is_asked w ↦
          let before : seat_is asked c.turn.self.seats.items c.index-place.result.now ≡ true = sym c.is_asked.ensures ∙ w.if-is_asked.true in
          kept g.N.Nodes.lists g.N.Nodes.goes from c.args.nodes.now (c.turn.nth + 1) _ c.if-is_asked.self _ c.if-is_asked.nodes w.self-is w.nodes-is
          (turn_asks from _ _ c.turn.nth c.index-place.result.now _ w.in_ok-step.ensures.made.0 c.turn.invariant.turn within c.index-place.ensures w.in_ok-step.ensures.made.1
          (seat_within asked c.turn.self.seats.items c.index-place.result.now before) before (sym w.is_asked-then-is_asked.ensures ∙ w.if-not-is_asked.false))
          (onward_on g.N.Nodes.goes _ _ _ c.turn.invariant.goes w.in_ok-step.ensures.goes)
      | else-is_asked w ↦
          kept g.N.Nodes.lists g.N.Nodes.goes from c.args.nodes.now (c.turn.nth + 1) _ c.if-is_asked.self _ c.if-is_asked.nodes w.self-is w.nodes-is
          (turn_skips from _ c.turn.nth c.index-place.result.now _ c.turn.invariant.turn within c.index-place.ensures (sym c.is_asked.ensures ∙ w.if-is_asked.false))
          c.turn.invariant.goes
    ]

pub returns-clause-none : goal.returns-clause-none
returns-clause-none g c = λ e.
    turn_ends _ _ c.turn.nth c.turn.invariant.turn (omega (arith, c.turn-test.false, c.len-nth-end.ensures, c.args.self.now.waiters.ok.0))

pub returns-clause-part : goal.returns-clause-part
returns-clause-part g c = turn_made _ _ c.turn.nth c.turn.invariant.turn
