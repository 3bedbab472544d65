use Rattle.std.proofs.Common.{ap, ◌∙◌, sym}
use Rattle.std.specs.Prelude.{unwrap_or}
use Rattle.hb_definerows.proofs.columns.key_position.Goals as goal

pub returns-in-Some : goal.returns-in-Some
returns-in-Some c = sym (ap (λ o. unwrap_or o 0) (sym c.place_of.ensures ∙ c.in-Some.is))

pub returns-in-None : goal.returns-in-None
returns-in-None c = sym (ap (λ o. unwrap_or o 0) (sym c.place_of.ensures ∙ c.in-None.is))
