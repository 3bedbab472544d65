use Rattle.std.proofs.Common.{ap}
use Rattle.hb_talk.specs.Moves.{check}
use Rattle.hb_wait.specs.Courses.{free}
use Rattle.hb_turn.specs.Turning.{counted, mover_of, of_check, told, Turning}
use Rattle.hb_turn.proofs.turn.Turn.check.Goals as goal

pub returns-clause-talk : goal.returns-clause-talk
returns-clause-talk c = ap (λ (x : Turning). free (told of_check (check (mover_of x.line) (counted x.begun)))) c.self.view_is
