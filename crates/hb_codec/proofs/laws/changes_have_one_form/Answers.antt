use Rattle.std.proofs.Common.{◌∙◌, sym}
use Rattle.hb_codec.specs.Spellings.{IsChangeOf}
use Rattle.hb_codec.specs.ChangeReaders.{change_in, whole_slot}
use Rattle.hb_codec.proofs.Calculus.{one_form}
use Rattle.hb_codec.proofs.ChangeGrammar.{reads_any_change}
use Rattle.hb_codec.proofs.laws.changes_have_one_form.Goals as goal

pub returns-clause-one_form : goal.returns-clause-one_form
returns-clause-one_form c = one_form IsChangeOf (change_in 0 whole_slot) reads_any_change

pub returns-clause-one_spelling : goal.returns-clause-one_spelling
returns-clause-one_spelling c = λ x a b is_a is_b. is_a.spelled ∙ sym is_b.spelled
