use Rattle.std.proofs.Common.{sym, ◌∙◌, inl}
use Rattle.hb_access.specs.Accesses.{use_of}
use Rattle.hb_plandefine.proofs.Adding.{area_goes}
use Rattle.hb_plandefine.proofs.Asking.{stops}
use Rattle.hb_plandefine.proofs.create_area.beside.Goals as goal

pub returns-in-Some-clause-goes : goal.returns-in-Some-clause-goes
returns-in-Some-clause-goes c = inl (stops _ _ _ _ (sym c.refusal_of.ensures ∙ c.in-Some.is))

pub returns-in-Some-back_end_of-clause-goes : goal.returns-in-Some-back_end_of-clause-goes
returns-in-Some-back_end_of-clause-goes c =
    area_goes c.args.back_ends c.args.name.now c.args.node.now c.args.areas.now _ (use_of c.args.usage) c.write_area.result (sym c.refusal_of.ensures ∙ c.in-None.is)
    (sym c.back_end_of.ensures.named ∙ c.in-Some-back_end_of.is) c.write_area.ensures.goes
