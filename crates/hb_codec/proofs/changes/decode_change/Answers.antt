use Rattle.hb_codec.specs.Spellings.{IsChangeOf}
use Rattle.hb_codec.specs.ChangeReaders.{change_in, whole_slot}
use Rattle.hb_codec.proofs.Calculus.{front_ok, front_err}
use Rattle.hb_codec.proofs.ChangeGrammar.{reads_any_change}
use Rattle.hb_codec.proofs.changes.decode_change.Goals as goal

pub returns-clause-change : goal.returns-clause-change
returns-clause-change c = front_ok IsChangeOf (change_in 0 whole_slot) reads_any_change c.args.bytes.now c.change_of.result c.change_of.ensures

pub returns-clause-not_a_change : goal.returns-clause-not_a_change
returns-clause-not_a_change c = front_err IsChangeOf (change_in 0 whole_slot) reads_any_change c.args.bytes.now c.change_of.result c.change_of.ensures
