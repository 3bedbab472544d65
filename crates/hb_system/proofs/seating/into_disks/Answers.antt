use Rattle.std.proofs.Common.{◌≡◌, ◌≤◌, List, [], ◌∷◌, ◌++◌, ◌∙◌, length, ap, sym, subst, append_assoc, arith}
use Rattle.std.proofs.lemmas.List.{append-nil, nil_from_length}
use Rattle.hb_system.specs.Giving.{AreDisksOf, Gives, IsLogOf}
use Rattle.hb_system.proofs.Giving.{first_and_rest, seats_on}
use Rattle.hb_system.proofs.seating.into_disks.Goals as goal

pub loop-nodes-init : goal.loop-nodes-init
loop-nodes-init g c =
    let none : c.args.slots.items ≡ [] = nil_from_length c.args.slots.items (omega (arith, c.requires.none)) in record {
      room = omega (arith, c.requires.none, c.requires.room);
      given = λ rest gives. subst (λ (ds : List g.row.D.Denot). Gives g.D.Disk.left g.F.Node.leaves g.S.Node.leaves c.args.nodes.items (ds ++ rest)) (sym none) gives;
    }

pub loop-nodes-preserved : goal.loop-nodes-preserved
loop-nodes-preserved g c =
    let nodes = c.loop-nodes.nodes.items in
    let node = c.remove-node.result in
    let more = c.remove-node.new.self.items in
    let some : 1 ≤ length nodes = omega (arith, c.loop-nodes-test.true, c.len.ensures) in
    let first : nodes ≡ node ∷ more = first_and_rest nodes more node c.remove-node.ensures.value some c.remove-node.ensures.by_index.2 in
    let own = c.unseat.ensures.given in record {
      room = omega (arith, c.loop-nodes.invariant.room, c.unseat.ensures.few, c.unseat.ensures.capacity, c.remove-node.ensures.len);
      given = λ rest gives.
          let step = seats_on (IsLogOf g.D.Disk.left g.F.Node.leaves) (AreDisksOf g.D.Disk.left g.S.Node.leaves) (node ∷ []) more own.0 rest own.2 gives in
          let all = c.loop-nodes.invariant.given (own.0 ++ rest) (subst (λ ns. Gives g.D.Disk.left g.F.Node.leaves g.S.Node.leaves ns (own.0 ++ rest)) (sym first) step) in
          subst (Gives g.D.Disk.left g.F.Node.leaves g.S.Node.leaves c.args.nodes.items)
          (sym (ap (λ (ds : List g.row.D.Denot). ds ++ rest) own.1 ∙ append_assoc c.loop-nodes.slots.items own.0 rest)) all;
    }

pub returns : goal.returns
returns g c =
    let none : c.loop-nodes.nodes.items ≡ [] = nil_from_length c.loop-nodes.nodes.items (omega (arith, c.loop-nodes-test.false, c.len.ensures)) in
    let last = c.loop-nodes.invariant.given [] (subst (λ ns. Gives g.D.Disk.left g.F.Node.leaves g.S.Node.leaves ns []) (sym none) tt) in
    subst (Gives g.D.Disk.left g.F.Node.leaves g.S.Node.leaves c.args.nodes.items) (append-nil c.loop-nodes.slots.items) last
