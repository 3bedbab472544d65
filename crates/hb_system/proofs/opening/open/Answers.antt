use Rattle.std.proofs.Common.{◌≡◌, ◌+◌, ◌*◌, ◌<◌, ◌∙◌, List, All, length, ap, arith, get_or, subst, sym}
use Rattle.std.specs.Prelude.{Err}
use Rattle.std.proofs.lemmas.Bool.{false≢true}
use Rattle.hb_reach.specs.Told.{meanings}
use Rattle.hb_system.specs.Disks.{AreKept}
use Rattle.hb_system.specs.Giving.{AreDisksOf, Gives, IsLogOf}
use Rattle.hb_system.specs.Making.{IsReadyAt}
use Rattle.hb_system.specs.Opening.{IsTold, is_early, status_of}
use Rattle.hb_system.specs.Variants.{of_kind}
use Rattle.hb_system.specs.declared.refusal.Refusal.TheVariants as refusal
use Rattle.hb_system.proofs.Giving.{disks_count}
use Rattle.hb_system.proofs.Opened.{all_taken, empty_before, numbered_as, open_by, ready_by}
use Rattle.hb_system.proofs.opening.open.Goals as goal

pub into_disks-requires-clause-none : goal.into_disks-requires-clause-none
into_disks-requires-clause-none g c = omega (arith, c.in-Ok.ensures.found.count.1.2, c.seat.ensures.count, c.seat.ensures.few, ap length c.room.ensures.disks)

pub into_disks-requires-clause-room : goal.into_disks-requires-clause-room
into_disks-requires-clause-room g c = omega (arith, c.seat.ensures.count, c.in-Ok-room.ensures.slots, c.seat.ensures.capacity, c.start_nodes.ensures.len, ap length c.room.ensures.disks)

pub into_disks-requires-in-Err-Memory-clause-none : goal.into_disks-requires-in-Err-Memory-clause-none
into_disks-requires-in-Err-Memory-clause-none g c = omega (arith, c.in-Ok.ensures.found.count.1.2, c.seat.ensures.count, c.seat.ensures.few, ap length c.room.ensures.disks)

pub into_disks-requires-in-Err-Memory-clause-room : goal.into_disks-requires-in-Err-Memory-clause-room
into_disks-requires-in-Err-Memory-clause-room g c = omega (arith, c.seat.ensures.count, c.in-Ok-room.ensures.slots, c.seat.ensures.capacity, c.start_nodes.ensures.len, ap length c.room.ensures.disks)

pub returns-in-Ok-start_nodes-clause-slots : goal.returns-in-Ok-start_nodes-clause-slots
returns-in-Ok-start_nodes-clause-slots g c = (
  omega (arith, c.in-Ok.ensures.found.count.1.2, c.seat.ensures.count, c.seat.ensures.few, ap length c.room.ensures.disks),
  omega (arith, c.seat.ensures.count, c.in-Ok-room.ensures.slots, c.seat.ensures.capacity, c.start_nodes.ensures.len, ap length c.room.ensures.disks),
)

pub returns-in-Ok-start_nodes-clause-numbered : goal.returns-in-Ok-start_nodes-clause-numbered
returns-in-Ok-start_nodes-clause-numbered g c =
    numbered_as (of_kind g.F.Node.named g.S.Node.named) c.seat.new.nodes.items c.start_nodes.new.nodes.items c.start_nodes.ensures.names (λ k d lt. (c.seat.ensures.made 0 k d lt).named)

pub returns-in-Err-Fault-clause-refused : goal.returns-in-Err-Fault-clause-refused
returns-in-Err-Fault-clause-refused g c =
    let count = c.in-Ok.ensures.found.count in
    let given = ap (λ r. r.disks.items) c.refuse-in-Err-Fault.ensures in
    let counted : length c.into_disks.result.items + 1 ≡ 2 * length c.start_nodes.new.nodes.items =
    disks_count (IsLogOf g.D.Disk.left g.F.Node.leaves) (AreDisksOf g.D.Disk.left g.S.Node.leaves) g.F.Node.named g.S.Node.named (λ f. g.met.F.OfLog.is_first f) (λ s. g.met.S.OfDisks.is_later s)
    c.start_nodes.new.nodes.items c.into_disks.result.items
    (numbered_as (of_kind g.F.Node.named g.S.Node.named) c.seat.new.nodes.items c.start_nodes.new.nodes.items c.start_nodes.ensures.names (λ k d lt. (c.seat.ensures.made 0 k d lt).named))
    (omega (arith, count.1.2, c.seat.ensures.count, c.seat.ensures.few, c.start_nodes.ensures.len, ap length c.room.ensures.disks)) c.into_disks.ensures in
    let all : length c.into_disks.result.items ≡ length c.args.disks.items =
    omega (arith, counted, count.1.2, c.inspect_all.ensures.len, c.seat.ensures.count, c.seat.ensures.few, c.start_nodes.ensures.len, ap length c.room.ensures.disks) in record {
      why = refusal.Start;
      status_is = ap (λ r. r.status) c.refuse-in-Err-Fault.ensures;
      told_is = ap (λ r. r.told) c.refuse-in-Err-Fault.ensures;
      cause = (count.0, (count.1.0, count.1.1, omega (arith, count.1.2, c.inspect_all.ensures.len)));
      count = ap length given ∙ all;
      untouched = λ is. absurd (false≢true (ap is_early is));
      kept = λ early. absurd (false≢true early);
      failed = λ started.
          let taken = c.seat.ensures.counts in
          let left : length c.seat.new.disks.items ≡ 0 = omega (arith, count.1.2, c.seat.ensures.count, c.seat.ensures.few, ap length c.room.ensures.disks) in
          let are : c.inspect_all.new.disks.items ≡ taken.0 = sym c.room.ensures.disks ∙ all_taken c.room.new.disks.items taken.0 c.seat.new.disks.items taken.1 left in (
            taken.0,
            c.inspect_all.new.clock,
            subst (AreKept g.D.Disk.content g.D.Disk.last g.D.Disk.faults c.args.clock.now c.inspect_all.new.clock c.args.disks.items) are c.inspect_all.ensures.kept,
            record {
              before = c.seat.new.nodes.items;
              after = c.start_nodes.new.nodes.items;
              counts = taken.2;
              fault = c.start_nodes.ensures.fault (c.in-Err-Fault.is ∙ ap (λ e. Err e) c.in-Err-Fault.field-0-is);
              gives = subst (Gives g.D.Disk.left g.F.Node.leaves g.S.Node.leaves c.start_nodes.new.nodes.items) (sym given) c.into_disks.ensures;
            },
          );
    }

pub returns-in-Err-Memory-clause-refused : goal.returns-in-Err-Memory-clause-refused
returns-in-Err-Memory-clause-refused g c =
    let count = c.in-Ok.ensures.found.count in
    let given = ap (λ r. r.disks.items) c.refuse-in-Err-Memory.ensures in
    let counted : length c.into_disks-in-Err-Memory.result.items + 1 ≡ 2 * length c.start_nodes.new.nodes.items =
    disks_count (IsLogOf g.D.Disk.left g.F.Node.leaves) (AreDisksOf g.D.Disk.left g.S.Node.leaves) g.F.Node.named g.S.Node.named (λ f. g.met.F.OfLog.is_first f) (λ s. g.met.S.OfDisks.is_later s)
    c.start_nodes.new.nodes.items c.into_disks-in-Err-Memory.result.items
    (numbered_as (of_kind g.F.Node.named g.S.Node.named) c.seat.new.nodes.items c.start_nodes.new.nodes.items c.start_nodes.ensures.names (λ k d lt. (c.seat.ensures.made 0 k d lt).named))
    (omega (arith, count.1.2, c.seat.ensures.count, c.seat.ensures.few, c.start_nodes.ensures.len, ap length c.room.ensures.disks)) c.into_disks-in-Err-Memory.ensures in
    let all : length c.into_disks-in-Err-Memory.result.items ≡ length c.args.disks.items =
    omega (arith, counted, count.1.2, c.inspect_all.ensures.len, c.seat.ensures.count, c.seat.ensures.few, c.start_nodes.ensures.len, ap length c.room.ensures.disks) in record {
      why = refusal.Memory;
      status_is = ap (λ r. r.status) c.refuse-in-Err-Memory.ensures;
      told_is = ap (λ r. r.told) c.refuse-in-Err-Memory.ensures;
      cause = (count.0, (count.1.0, count.1.1, omega (arith, count.1.2, c.inspect_all.ensures.len)));
      count = ap length given ∙ all;
      untouched = λ is. absurd (false≢true (ap is_early is));
      kept = λ early. absurd (false≢true early);
      failed = λ started. absurd (omega (arith, ap status_of started));
    }

pub returns-in-Ok-start_nodes-clause-opened : goal.returns-in-Ok-start_nodes-clause-opened
returns-in-Ok-start_nodes-clause-opened g c =
    let m = meanings (of_kind g.F.Node.named g.S.Node.named) (of_kind g.F.Node.trail g.S.Node.trail) (of_kind g.F.Node.explains g.S.Node.explains) (of_kind g.F.Node.leaves g.S.Node.leaves) (of_kind g.F.Node.last g.S.Node.last) in
    let found = c.in-Ok.ensures.found in
    let kept = c.inspect_all.ensures.kept in
    let old = c.args.disks.items in
    let mid = c.inspect_all.new.disks.items in
    let Told = All (IsTold g.D.Disk.content g.D.Disk.last c.args.clock.now) old in
    let P = λ (xs : List g.row.D.Denot). All (IsReadyAt g.D.Disk.content g.D.Disk.left g.D.Disk.last c.inspect_all.new.clock) xs in
    let sums : length c.start_nodes.new.nodes.items ≡ found.count.0 + 2 = omega (arith, found.count.1.2, c.inspect_all.ensures.len, ap length c.room.ensures.disks, c.seat.ensures.count, c.seat.ensures.few, c.start_nodes.ensures.len) in record {
      count = (found.count.0, (found.count.1.0, found.count.1.1, omega (arith, found.count.1.2, c.inspect_all.ensures.len)), sums);
      empty = empty_before g.D.Disk.content g.D.Disk.left g.D.Disk.last g.D.Disk.faults c.args.clock.now c.inspect_all.new.clock old mid kept found.empty;
      each = λ k d lt.
          let within : k < length c.seat.new.nodes.items = omega (arith, lt, c.start_nodes.ensures.len) in
          open_by Told (P c.room.new.disks.items) m c.inspect_all.new.clock c.start_nodes.new.clock k (get_or c.seat.new.nodes.items k d) (get_or c.start_nodes.new.nodes.items k d)
          (λ told. subst P (sym c.room.ensures.disks) (ready_by g.D.Disk.content g.D.Disk.left g.D.Disk.last g.D.Disk.faults c.args.clock.now c.inspect_all.new.clock old mid kept found.empty found.settled told))
          (c.seat.ensures.made c.inspect_all.new.clock k d within) (c.in-Ok-start_nodes.ensures.starts k d within);
    }
