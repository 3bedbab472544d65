use Rattle.hb_whole.proofs.Beside.{beside}
use Rattle.hb_whole.proofs.place.next_place_is_free.Goals as goal

pub returns : goal.returns
returns c = λ b p image k. beside c.args._valid b p image k c.args._length
