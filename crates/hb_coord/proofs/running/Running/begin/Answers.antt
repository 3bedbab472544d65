use Rattle.std.proofs.Common.{refl, ◌∙◌, arith}
use Rattle.hb_types.specs.declared.request.Request.TheVariants as request
use Rattle.hb_coord.proofs.Turning.{between_none, begun_turn}
use Rattle.hb_coord.proofs.running.Running.begin.Goals as goal

pub returns-then-self-gt-GREATEST-clause-leaves : goal.returns-then-self-gt-GREATEST-clause-leaves
returns-then-self-gt-GREATEST-clause-leaves g c = λ k up.
    between_none g.D.Disk.content g.D.Disk.left g.D.Disk.last k c.args.self.now c.args.clock.now up (request.Begin c.args.owner) (g.met.D.Disk.stands c.args.self.now.log.disk)

pub returns-in-Ok-clause-turns : goal.returns-in-Ok-clause-turns
returns-in-Ok-clause-turns g c = λ k up.
    begun_turn g.D.Disk.content g.D.Disk.left g.D.Disk.last k c.args.self.now c.args.clock.now up c.args.owner c.in-Ok.tx _ c.args.clock.now (omega arith)
    (c.in-Ok.ensures.next ∙ up.reflects.next) (omega (arith, up.reflects.next, up.reflects.knows.reserved)) refl (c.in-Ok.ensures.begun k up.reflects)

pub returns-in-Ok-clause-leaves : goal.returns-in-Ok-clause-leaves
returns-in-Ok-clause-leaves g c = λ k up.
    between_none g.D.Disk.content g.D.Disk.left g.D.Disk.last k c.args.self.now c.args.clock.now up (request.Begin c.args.owner) (g.met.D.Disk.stands c.args.self.now.log.disk)

pub returns-in-Err-clause-leaves : goal.returns-in-Err-clause-leaves
returns-in-Err-clause-leaves g c = λ k up.
    between_none g.D.Disk.content g.D.Disk.left g.D.Disk.last k c.args.self.now c.args.clock.now up (request.Begin c.args.owner) (g.met.D.Disk.stands c.args.self.now.log.disk)
