use Rattle.std.proofs.Common.{◌∙◌, sym}
use Rattle.hb_codec.specs.Spellings.{SpellsRow}
use Rattle.hb_codec.specs.RowReaders.{row_in}
use Rattle.hb_codec.proofs.Calculus.{one_form}
use Rattle.hb_codec.proofs.RowGrammar.{reads_any_row}
use Rattle.hb_codec.proofs.laws.rows_have_one_form.Goals as goal

pub returns-clause-one_form : goal.returns-clause-one_form
returns-clause-one_form c = one_form SpellsRow (row_in 0 65537) reads_any_row

pub returns-clause-one_spelling : goal.returns-clause-one_spelling
returns-clause-one_spelling c = λ x a b is_a is_b. is_a.spelled ∙ sym is_b.spelled
