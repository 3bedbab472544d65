use Rattle.std.proofs.Common.{◌∙◌, sym}
use Rattle.hb_codec.specs.Spellings.{IsBodyOf}
use Rattle.hb_codec.specs.RecordReaders.{body_in}
use Rattle.hb_codec.proofs.Calculus.{one_form}
use Rattle.hb_codec.proofs.PrepareGrammar.{reads_body}
use Rattle.hb_codec.proofs.laws.records_have_one_form.Goals as goal

pub returns-clause-one_form : goal.returns-clause-one_form
returns-clause-one_form c = one_form IsBodyOf body_in reads_body

pub returns-clause-one_spelling : goal.returns-clause-one_spelling
returns-clause-one_spelling c = λ x a b is_a is_b. is_a.spelled ∙ sym is_b.spelled
