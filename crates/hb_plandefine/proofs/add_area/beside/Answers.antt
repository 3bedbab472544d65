use Rattle.std.proofs.Common.{sym, ◌∙◌, inl, refl}
use Rattle.hb_access.specs.Accesses.{use_of}
use Rattle.hb_plandefine.specs.Defines.{spread_out, follows}
use Rattle.hb_plandefine.specs.declared.stage.Then.TheVariants as then
use Rattle.hb_plandefine.proofs.Asking.{stops, passes, asks_group}
use Rattle.hb_plandefine.proofs.add_area.beside.Goals as goal

pub returns-in-Some-clause-goes : goal.returns-in-Some-clause-goes
returns-in-Some-clause-goes c = inl (stops _ _ _ _ (sym c.early_refusal.ensures ∙ c.in-Some.is))

pub returns-in-None-clause-goes : goal.returns-in-None-clause-goes
returns-in-None-clause-goes c =
    let n = c.args.number in
    let members = c.args.members in
    passes _ _ (use_of c.args.usage) (sym c.early_refusal.ensures ∙ c.in-None.is)
    ∙ asks_group 4 n (spread_out n c.args.area members.items) (follows (then.Entries n c.args.area members)) (λ rows v. refl) _ (use_of c.args.usage) _ c.group_of.ensures c.lock-access.ensures.talk
