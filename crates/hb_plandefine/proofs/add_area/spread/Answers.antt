use Rattle.std.proofs.Common.{subst, List}
use Rattle.hb_types.specs.declared.change.Change.{Change}
use Rattle.hb_model.specs.declared.reply.Reply.TheVariants as reply
use Rattle.hb_talk.specs.Talk.{◌>>◌, pure}
use Rattle.hb_talk.specs.Plans.{writes}
use Rattle.hb_access.specs.Accesses.{use_of}
use Rattle.hb_plandefine.specs.Defines.{Goes}
use Rattle.hb_plandefine.proofs.Asking.{goes_on}
use Rattle.hb_plandefine.proofs.Written.{each_write}
use Rattle.hb_plandefine.proofs.add_area.spread.Goals as goal

pub write_out-requires : goal.write_out-requires
write_out-requires c = each_write _ (c.in_ok-changes.ensures.sound tt)

pub returns-clause-goes : goal.returns-clause-goes
returns-clause-goes c =
    goes_on _ _ (use_of c.args.usage) c.write_out.result c.requires.accepted
    (subst (λ (cs : List Change). Goes ((writes cs >> pure reply.Added) (use_of c.args.usage)) c.write_out.result) c.in_ok-changes.ensures.changes c.write_out.ensures.goes)
