use Rattle.std.proofs.Common.{◌∙◌}
use Rattle.hb_planrows.proofs.Accepted.{first_same}
use Rattle.hb_planrows.proofs.inserts.insert_refusal.Goals as goal

pub returns : goal.returns
returns c = c.first_of.ensures ∙ first_same _ _ _ _ _ _ _ _ c.is_mistyped.ensures c.are_outside.ensures c.is_too_long.ensures c.is_key_taken.ensures
