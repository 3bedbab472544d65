use Rattle.std.proofs.Common.{◌≡◌, ◌+◌, ◌++◌, ◌∷◌, ◌∙◌, ℕ, ◌≤◌, All, [], length, ap, subst, sym, arith}
use Rattle.std.proofs.lemmas.List.{nil_from_length}
use Rattle.hb_node.specs.Laws.{State}
use Rattle.hb_system.specs.Giving.{Counts}
use Rattle.hb_system.specs.Making.{AreMade, IsReadyAt}
use Rattle.hb_reach.specs.Told.{meanings}
use Rattle.hb_system.specs.Variants.{of_kind}
use Rattle.hb_system.specs.declared.node.SystemNode.TheVariants.{Front, Server}
use Rattle.hb_system.proofs.Giving.{first_and_rest, seats_on, two_taken}
use Rattle.hb_system.proofs.Making.{first_of, made_more, origin_later, rest_all}
use Rattle.hb_system.proofs.seating.seat.Goals as goal

pub loop-alloc-preserved : goal.loop-alloc-preserved
loop-alloc-preserved g c =
    let P = λ (moment : ℕ). IsReadyAt g.D.Disk.content g.D.Disk.left g.D.Disk.last moment in
    let m = meanings (of_kind g.F.Node.named g.S.Node.named) (of_kind g.F.Node.trail g.S.Node.trail) (of_kind g.F.Node.explains g.S.Node.explains) (of_kind g.F.Node.leaves g.S.Node.leaves) (of_kind g.F.Node.last g.S.Node.last) in
    let log = c.remove-log-in-loop-alloc in
    let area = c.remove-area in
    let some : 1 ≤ length c.loop-alloc.nodes.items = omega arith in
    let more : 1 ≤ length c.loop-alloc.disks.items = omega arith in
    let second : 1 ≤ length log.new.self.items = omega arith in
    let named : g.S.Node.named c.of_disks.result ≡ length c.loop-alloc.nodes.items = omega (arith, c.of_disks.ensures.name, c.len-in-loop-alloc.ensures) in record {
      ready = λ moment all. rest_all (P moment) log.new.self.items area.new.self.items area.ensures.by_index.2 (rest_all (P moment) c.loop-alloc.disks.items log.new.self.items log.ensures.by_index.2 (c.loop-alloc.invariant.ready moment all));
      made = λ moment. subst (AreMade (All (P moment) c.args.disks.now.items) m moment) (sym c.push_reserved-in-loop-alloc.ensures.items)
          (made_more (All (P moment) c.args.disks.now.items) m moment c.loop-alloc.nodes.items (Server c.of_disks.result) (c.loop-alloc.invariant.made moment) (record {
            named = named;
            none = c.of_disks.ensures.trail;
            explained = λ all.
                let before = c.loop-alloc.invariant.ready moment all in
                let first = first_of (P moment) c.loop-alloc.disks.items log.result log.ensures.value more before in
                let next = first_of (P moment) log.new.self.items area.result area.ensures.value second (rest_all (P moment) c.loop-alloc.disks.items log.new.self.items log.ensures.by_index.2 before) in
                subst (λ (o : State). g.S.Node.explains c.of_disks.result o []) (origin_later (length c.loop-alloc.nodes.items) some) (c.of_disks.ensures.explained first.0 next.0);
            in_time = λ all.
                let before = c.loop-alloc.invariant.ready moment all in
                let first = first_of (P moment) c.loop-alloc.disks.items log.result log.ensures.value more before in
                let next = first_of (P moment) log.new.self.items area.result area.ensures.value second (rest_all (P moment) c.loop-alloc.disks.items log.new.self.items log.ensures.by_index.2 before) in
                omega (arith, c.of_disks.ensures.last, first.1, next.1);
          }));
      counts =
          let before = c.loop-alloc.invariant.counts in
          let taken = before.0 ++ log.result ∷ area.result ∷ [] in
          let first = first_and_rest c.loop-alloc.disks.items log.new.self.items log.result log.ensures.value more log.ensures.by_index.2 in
          let next = first_and_rest log.new.self.items area.new.self.items area.result area.ensures.value second area.ensures.by_index.2 in (
            taken,
            two_taken c.args.disks.now.items before.0 c.loop-alloc.disks.items log.new.self.items area.new.self.items log.result area.result before.1 first next,
            subst (λ nodes. Counts g.D.Disk.faults g.F.Node.faults g.S.Node.faults nodes taken) (sym c.push_reserved-in-loop-alloc.ensures.items)
                (seats_on (λ f d. g.F.Node.faults f ≡ g.D.Disk.faults d) (λ s d e. g.S.Node.faults s ≡ g.D.Disk.faults d + g.D.Disk.faults e) c.loop-alloc.nodes.items (Server c.of_disks.result ∷ []) before.0 (log.result ∷ area.result ∷ []) before.2 (c.of_disks.ensures.faults, tt)),
          );
      count = omega arith;
      some = omega arith;
      room = omega arith;
      slots = omega arith;
    }

pub loop-alloc-init : goal.loop-alloc-init
loop-alloc-init g c =
    let P = λ (moment : ℕ). IsReadyAt g.D.Disk.content g.D.Disk.left g.D.Disk.last moment in
    let m = meanings (of_kind g.F.Node.named g.S.Node.named) (of_kind g.F.Node.trail g.S.Node.trail) (of_kind g.F.Node.explains g.S.Node.explains) (of_kind g.F.Node.leaves g.S.Node.leaves) (of_kind g.F.Node.last g.S.Node.last) in
    let old = c.args.disks.now.items in
    let log = c.remove-log in
    let some : 1 ≤ length old = omega (arith, c.requires.some) in
    let first = first_and_rest old log.new.self.items log.result log.ensures.value some log.ensures.by_index.2 in
    let empty : c.args.nodes.now.items ≡ [] = nil_from_length c.args.nodes.now.items (omega (arith, c.requires.none)) in
    let one : c.push_reserved.new.self.items ≡ Front c.of_log.result ∷ [] = c.push_reserved.ensures.items ∙ ap (λ ns. ns ++ Front c.of_log.result ∷ []) empty in record {
      ready = λ moment all. rest_all (P moment) old log.new.self.items log.ensures.by_index.2 all;
      made = λ moment. subst (AreMade (All (P moment) old) m moment) (sym one)
          (made_more (All (P moment) old) m moment [] (Front c.of_log.result) (λ k d lt. absurd (omega (arith, lt))) (record {
            named = g.met.F.OfLog.is_first c.of_log.result;
            none = c.of_log.ensures.trail;
            explained = λ all. c.of_log.ensures.explained (first_of (P moment) old log.result log.ensures.value some all).0;
            in_time = λ all. let ready = first_of (P moment) old log.result log.ensures.value some all in omega (arith, c.of_log.ensures.last, ready.1);
          }));
      counts = (
        log.result ∷ [],
        first,
        subst (λ nodes. Counts g.D.Disk.faults g.F.Node.faults g.S.Node.faults nodes (log.result ∷ [])) (sym one) (c.of_log.ensures.faults, tt),
      );
      count = omega arith;
      some = omega arith;
      room = omega arith;
      slots = omega arith;
    }
