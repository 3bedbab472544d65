use Rattle.std.proofs.Common.{arith, refl, subst, sym}
use Rattle.hb_acts.specs.Outside.{seen}
use Rattle.hb_system.specs.Opening.{HasFailed}
use Rattle.hb_console.specs.Ends.{Ends}
use Rattle.hb_console.proofs.Ending.{refused_ends, run_ends, tells_on}
use Rattle.hb_console.proofs.system.run_over.Goals as goal

pub run_system-requires-clause-started : goal.run_system-requires-clause-started
run_system-requires-clause-started g c = λ k d within. (c.in-Ok.ensures.opened.each k d within).asked_once

pub returns-in-Err-clause-ends : goal.returns-in-Err-clause-ends
returns-in-Err-clause-ends g c =
    let before = seen g.S.Source.left g.S.Source.faults g.O.Sink.held g.O.Sink.faults c.args.source.now c.args.sink.now in
    let after = seen g.S.Source.left g.S.Source.faults g.O.Sink.held g.O.Sink.faults c.args.source.now c.refuse.new.sink in
    let failed = HasFailed g.D.Disk.left g.D.Disk.faults g.F.Node.leaves g.N.Node.leaves g.F.Node.faults g.N.Node.faults in
    subst (λ disks. Ends g.D.Disk.content g.D.Disk.left g.D.Disk.last g.D.Disk.faults failed c.args.clock.now c.refuse.new.clock c.args.count c.refuse.result.status before after c.args.disks.items disks.items) (sym c.refuse.ensures.disks)
    (refused_ends before after g.D.Disk.content g.D.Disk.left g.D.Disk.last g.D.Disk.faults failed c.args.clock.now c.refuse.new.clock c.args.count c.args.disks.items c.in-Err.refused.disks.items
    (record { source = omega arith; sink = c.refuse.ensures.count; output = tells_on _ _ _ _ _ _ _ c.refuse.ensures.told }) refl
    c.open.new.clock c.in-Err.refused.status c.refuse.result.status c.in-Err.refused.told (c.args.count, (c.requires.count.0, c.requires.count.1, c.requires.disks)) c.in-Err.ensures.refused c.refuse.ensures.told)

pub returns-in-Ok-clause-ends : goal.returns-in-Ok-clause-ends
returns-in-Ok-clause-ends g c =
    let run = c.run_system.ensures.runs in
    run_ends _ _ g.D.Disk.content g.D.Disk.left g.D.Disk.last g.D.Disk.faults _ c.args.clock.now c.run_system.new.clock c.args.count c.args.disks.items c.run_system.result.disks.items run.0 run.2 run.1
    (λ told. run.3 (λ k d within. (c.in-Ok.ensures.opened.each k d within).lawful told)) run.4 run.6 c.in-Ok.ensures.opened.empty c.run_system.result.status run.5
