use Rattle.std.proofs.Common.{sym, ◌∙◌, inl}
use Rattle.hb_plandefine.proofs.Asking.{stops}
use Rattle.hb_plandefine.proofs.add_area.over.Goals as goal

pub returns-in-Some-clause-goes : goal.returns-in-Some-clause-goes
returns-in-Some-clause-goes c = λ _. inl (stops _ _ _ _ (sym c.full_add_refusal.ensures ∙ c.in-Some.is))
