use Rattle.std.proofs.Common.{sym, subst, refl, List}
use Rattle.hb_types.specs.declared.change.Change.{Change}
use Rattle.hb_types.specs.Lists.{Each}
use Rattle.hb_model.specs.declared.reply.Reply.TheVariants as reply
use Rattle.hb_talk.specs.Talk.{◌>>◌, pure}
use Rattle.hb_talk.specs.Plans.{writes}
use Rattle.hb_access.specs.Accesses.{use_of}
use Rattle.hb_writes.specs.Underway.{IsWrite}
use Rattle.hb_plandefine.specs.Defines.{Goes}
use Rattle.hb_plandefine.proofs.Written.{one_write, one_pushed}
use Rattle.hb_plandefine.proofs.create_area.write_area.Goals as goal

pub write_out-requires : goal.write_out-requires
write_out-requires c =
    subst (Each IsWrite) (sym (one_pushed _ _ c.in_ok-change.change _ c.in_ok-push.ensures.items c.new-changes.ensures.items refl)) (one_write _ c.in_ok-change.ensures.sound, tt)

pub returns-clause-goes : goal.returns-clause-goes
returns-clause-goes c =
    subst (λ (cs : List Change). Goes ((writes cs >> pure reply.Created) (use_of c.args.usage)) c.write_out.result)
    (one_pushed _ _ c.in_ok-change.change _ c.in_ok-push.ensures.items c.new-changes.ensures.items c.in_ok-change.ensures.change) c.write_out.ensures.goes
