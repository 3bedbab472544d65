use Rattle.hb_codec.specs.Spellings.{IsBodyOf}
use Rattle.hb_codec.specs.RecordReaders.{body_in}
use Rattle.hb_codec.proofs.Calculus.{tells_ok, tells_err}
use Rattle.hb_codec.proofs.PrepareGrammar.{reads_body}
use Rattle.hb_codec.proofs.records.decode_record.Goals as goal

pub returns-clause-item : goal.returns-clause-item
returns-clause-item c = tells_ok IsBodyOf body_in reads_body c.args.body.now c.item_of.result c.item_of.ensures

pub returns-clause-not_a_record : goal.returns-clause-not_a_record
returns-clause-not_a_record c = tells_err IsBodyOf body_in reads_body c.args.body.now c.item_of.result c.item_of.ensures
