use Rattle.std.proofs.Common.{refl}
use Rattle.hb_model.specs.declared.reply.Reply.TheVariants as reply
use Rattle.hb_talk.specs.Talk.{◌>>◌, pure}
use Rattle.hb_talk.specs.Plans.{writes}
use Rattle.hb_access.specs.Accesses.{use_of}
use Rattle.hb_plandefine.specs.Defines.{follows}
use Rattle.hb_plandefine.specs.declared.stage.Then.TheVariants as then
use Rattle.hb_plandefine.proofs.Asking.{asks_lock}
use Rattle.hb_plandefine.proofs.create_table.lock_entries.Goals as goal

pub returns-clause-goes : goal.returns-clause-goes
returns-clause-goes c =
    asks_lock 4 c.args.number (writes c.args.changes.items >> pure reply.Created) (follows (then.WriteTable c.args.changes)) (λ v. refl) _ (use_of c.args.usage) _ c.group_of.ensures c.lock-access.ensures.talk
