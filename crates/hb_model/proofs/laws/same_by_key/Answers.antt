use Rattle.hb_model.specs.Rows.{key_of}
use Rattle.hb_model.proofs.ByKey.{same_by_key as same_items}
use Rattle.hb_model.proofs.laws.same_by_key.Goals as goal

pub returns : goal.returns
returns c = λ t. same_items (key_of t)
