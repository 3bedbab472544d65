use Rattle.std.proofs.Common.{sym, ◌∙◌, inl}
use Rattle.hb_plandefine.proofs.Asking.{stops, goes_on_if_ok}
use Rattle.hb_plandefine.proofs.create_table.in_areas.Goals as goal

pub returns-in-Some-clause-goes : goal.returns-in-Some-clause-goes
returns-in-Some-clause-goes c = inl (stops _ _ _ _ (sym c.full_table_refusal.ensures ∙ c.in-Some.is))

pub returns-in-None-clause-goes : goal.returns-in-None-clause-goes
returns-in-None-clause-goes c = goes_on_if_ok _ _ _ _ (sym c.full_table_refusal.ensures ∙ c.in-None.is) c.lock_members.ensures.goes
