use Rattle.std.proofs.Common.{◌≤◌, length, refl, arith}
use Rattle.hb_reach.specs.Told.{meanings, mgr}
use Rattle.hb_system.specs.Variants.{of_kind}
use Rattle.hb_console.proofs.Leaving.{lawful_then, listed_then, system_left}
use Rattle.hb_console.proofs.Origins.{is_origin}
use Rattle.hb_console.proofs.system.run_system.Goals as goal

pub returns-clause-runs : goal.returns-clause-runs
returns-clause-runs g c =
    let f = meanings g.F.Node.named g.F.Node.trail g.F.Node.explains g.F.Node.leaves g.F.Node.last in
    let s = meanings g.N.Node.named g.N.Node.trail g.N.Node.explains g.N.Node.leaves g.N.Node.last in
    let n = meanings (of_kind g.F.Node.named g.N.Node.named) (of_kind g.F.Node.trail g.N.Node.trail) (of_kind g.F.Node.explains g.N.Node.explains) (of_kind g.F.Node.leaves g.N.Node.leaves) (of_kind g.F.Node.last g.N.Node.last) in
    let m = meanings g.M.Node.named g.M.Node.trail g.M.Node.explains g.M.Node.leaves g.M.Node.last in
    let run = c.run_nodes-ended.ensures.runs in
    let old = c.args.system.nodes.items in
    let new = c.run_nodes-ended.result.1.items in
    let few : length old ≤ mgr = omega (arith, c.requires.nodes, c.requires.count.1) in
    let some : 1 ≤ length new = omega (arith, c.run_nodes-ended.ensures.count, c.requires.nodes) in (
      _,
      is_origin n m old c.args.manager c.args.clock.now c.args.count c.requires.nodes c.requires.count.1 c.requires.started c.requires.manager _ refl,
      run.0,
      λ laws. system_left g.D.Disk.left f s (λ node. g.met.F.OfLog.is_first node) (λ node. g.met.N.OfDisks.is_later node) c.run_nodes-ended.new.clock run.0.lists new c.close.result.items some c.run_nodes-ended.ensures.numbered
          (lawful_then n m c.args.clock.now c.run_nodes-ended.new.clock old new c.args.manager run.0.lists run.1 few c.run_nodes-ended.ensures.count laws)
          (listed_then n m c.args.clock.now c.run_nodes-ended.new.clock old new c.args.manager run.0.lists run.1 few c.run_nodes-ended.ensures.count) c.close.ensures.given,
      c.run_nodes-ended.result.0,
      c.status.ensures,
      run.2,
    )
