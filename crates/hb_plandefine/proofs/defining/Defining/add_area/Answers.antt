use Rattle.std.proofs.Common.{refl, sym, ◌∙◌}
use Rattle.hb_types.specs.declared.lock.Mode.TheVariants as mode
use Rattle.hb_access.specs.Accesses.{use_of}
use Rattle.hb_plandefine.specs.declared.stage.Then.TheVariants as then
use Rattle.hb_model.specs.declared.reply.Reply.TheVariants as reply
use Rattle.hb_model.specs.Told.{table_among}
use Rattle.hb_talk.specs.Talk.{◌>>=◌}
use Rattle.hb_talk.specs.Plans.{names, some_or}
use Rattle.hb_talk.specs.PlansDefine.{areas}
use Rattle.hb_access.proofs.Sequences.{plans_assoc}
use Rattle.hb_plandefine.specs.Defines.{area_found, table_found, follows}
use Rattle.hb_plandefine.proofs.Asking.{asks_part}
use Rattle.hb_plandefine.proofs.defining.Defining.add_area.Goals as goal

pub returns-clause-talk : goal.returns-clause-talk
returns-clause-talk c =
    let table = c.args.table in
    let area = c.args.area in
    let u = use_of c.args.usage in
    sym (plans_assoc names (λ rows. some_or reply.NoTable (table_among rows table)) (λ f. areas mode.S >>= area_found f area) u
    ∙ asks_part 2 mode.S (table_found table area) (follows (then.Names table area)) (λ rows v. refl) _ u _ c.rows_of.ensures c.lock-access.ensures.talk)
