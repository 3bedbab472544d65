use Rattle.std.proofs.Common.{inr, ap, refl, ◌∙◌, subst}
use Rattle.hb_access.specs.Accesses.{use_of}
use Rattle.hb_access.specs.declared.usage.Usage.{Usage}
use Rattle.hb_access.proofs.Nodes.{each_in}
use Rattle.hb_model.specs.declared.reply.Reply.TheVariants as reply
use Rattle.hb_turn.specs.Turning.{nothing_used, Turning}
use Rattle.hb_turn.specs.Steps.{RollsBack}
use Rattle.hb_turn.specs.declared.stage.After.TheVariants as after
use Rattle.hb_turn.proofs.Calls.{check_starts, check_started}
use Rattle.hb_turn.proofs.turn.Turn.start_check.Goals as goal

pub go_on-requires-clause-starts : goal.go_on-requires-clause-starts
go_on-requires-clause-starts c =
    inr (check_starts c.in-Ok.name c.args.tx c.check-plan.result c.unused.result c.unused.ensures c.check-plan.ensures.usage c.check-plan.ensures.talk)

pub returns-in-Ok : goal.returns-in-Ok
returns-in-Ok c =
    check_started c.args.self.now c.go_on.new.self c.args.tx 0 c.check-plan.result c.unused.result c.go_on.result c.in-Ok.name
    (c.in-Ok.ensures ∙ ap (λ (t : Turning). t.line.table) c.self.view_is) c.unused.ensures c.check-plan.ensures.usage c.check-plan.ensures.talk c.go_on.ensures

pub returns-in-Err : goal.returns-in-Err
returns-in-Err c =
    let e = c.roll_back.ensures in
    record {
      line = e.line;
      begun = e.begun;
      leaves = e.busy;
      active = e.active;
      edges = refl;
      goes = inr (use_of (nothing_used c.args.tx), refl, each_in 0, subst (λ (u : Usage). RollsBack (use_of u) (after.Over reply.NoMemory) c.roll_back.new.self) c.unused-in-Err.ensures e.rolls, refl);
    }
