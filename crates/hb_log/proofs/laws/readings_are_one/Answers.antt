use Rattle.hb_types.specs.Logs.{readable}
use Rattle.hb_log.proofs.Readings.{one_reading, never_both, ascending}
use Rattle.hb_log.proofs.laws.readings_are_one.Goals as goal

pub returns-clause-one : goal.returns-clause-one
returns-clause-one c = λ from a b is_a is_b. one_reading c.records_have_one_form.ensures.one_form (readable c.args._image.now) from a b is_a is_b

pub returns-clause-or_damaged : goal.returns-clause-or_damaged
returns-clause-or_damaged c = λ from at a records breaks. never_both c.records_have_one_form.ensures.one_form (readable c.args._image.now) from at a records breaks

pub returns-clause-ascending : goal.returns-clause-ascending
returns-clause-ascending c = λ from a records. ascending (readable c.args._image.now) from a records
