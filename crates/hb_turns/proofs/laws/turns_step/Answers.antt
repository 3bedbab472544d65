use Rattle.hb_turns.proofs.Stepping.{turns_step as step_of}
use Rattle.hb_turns.proofs.laws.turns_step.Goals as goal

pub returns : goal.returns
returns c =
    step_of
    (record {
      were = c.checks_were_steps.ensures c.checks_tell_numbers.ensures;
      few = c.hints_are_few.ensures;
      check_tells = c.check_tells.ensures;
      batch_moves = c.batch_moves.ensures;
      finish_settles = c.finish_settles.ensures;
    })
