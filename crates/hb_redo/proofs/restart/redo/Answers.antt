use Rattle.std.proofs.Common.{◌≡◌, ◌+◌, ◌*◌, ◌<◌, ◌≤◌, ◌∙◌, ◌^◌, sym, ap, subst, length, take, drop, get_or, refl, inl, arith, rules}
use Rattle.std.specs.Option.{option_map}
use Rattle.std.proofs.lemmas.Option.{slice_get_read}
use Rattle.hb_disks.specs.Says.{prepares}
use Rattle.std.proofs.lemmas.List.Elements.{All-get_or}
use Rattle.hb_types.specs.declared.change.Placed.{Placed}
use Rattle.hb_types.specs.Records.{HasRecord}
use Rattle.hb_disks.specs.Redo.{Redone, redo_from}
use Rattle.hb_redo.specs.Damage.{items_of}
use Rattle.hb_redo.specs.Restarts.{point_with}
use Rattle.hb_redo.specs.Stages.{Counts, CountsEnds, Takes}
use Rattle.hb_redo.proofs.Staying.{stays_same, stays_then}
use Rattle.hb_redo.proofs.Walking.{Walked, bad_here, begins, count_end, next, no_room, now_at, room_end, right_end, rows_end, same_place, stands_end, told_end}
use Rattle.hb_redo.proofs.restart.redo.Goals as goal

pub loop-index-init : goal.loop-index-init
loop-index-init g c =
    let rows = g.S.Store.rows c.args.store.now in
    let room = g.S.Store.room c.args.store.now in
    let e = c.new-pending.ensures in
    record {
      walked = begins c.args.records.now rows c.args.floor room c.new-pending.result c.requires.ascending e.fresh e.told e.votes (subst (λ (n : Counts). CountsEnds n (items_of c.args.records.now)) (sym e.ends) c.in_ok-ends.ensures);
      begun = refl;
      stays = stays_same g.S.Store.keeps g.S.Store.staged c.args.store.now;
    }

pub take-requires-clause-here : goal.take-requires-clause-here
take-requires-clause-here g c =
    let records = c.args.records.now in
    let p = c.index-records-index.result in
    let inside : c.loop-index.index < length records = omega arith in
    let here : p ≡ get_or records c.loop-index.index p = search rules in
    ap (option_map (λ (q : Placed). q.item)) (slice_get_read records (length records) c.loop-index.index p refl inside here)

pub take-requires-clause-fits : goal.take-requires-clause-fits
take-requires-clause-fits g c =
    let records = c.args.records.now in
    let p = c.index-records-index.result in
    let inside : c.loop-index.index < length records = omega arith in
    let here : p ≡ get_or records c.loop-index.index p = search rules in
    subst (λ (q : Placed). HasRecord q.item) (sym here) (All-get_or (λ (q : Placed). HasRecord q.item) records c.loop-index.index p inside c.requires.recorded)

pub loop-index-preserved : goal.loop-index-preserved
loop-index-preserved g c =
    let records = c.args.records.now in
    let p = c.index-records-index.result in
    let inside : c.loop-index.index < length records = omega arith in
    let here : p ≡ get_or records c.loop-index.index p = search rules in
    let i = c.loop-index.invariant in
    record {
      walked = next records (g.S.Store.room c.args.store.now) (point_with (g.S.Store.rows c.args.store.now) c.args.floor) c.loop-index.index (g.S.Store.rows c.loop-index.store) (g.S.Store.room c.loop-index.store) c.loop-index.pending refl p inside here c.loop-index.invariant.walked (g.S.Store.rows c.take.new.store) (g.S.Store.room c.take.new.store) c.take.new.self
          (subst (λ b. Takes records (g.S.Store.room c.args.store.now) (redo_from (point_with (g.S.Store.rows c.args.store.now) c.args.floor) (items_of (take c.loop-index.index records))) (prepares (items_of (take c.loop-index.index records))) p.item (items_of (drop (c.loop-index.index + 1) records)) (g.S.Store.rows c.take.new.store) (g.S.Store.room c.take.new.store) c.take.new.self b) c.if-not-branch.false
          (c.in_ok-take.ensures.takes (g.S.Store.room c.args.store.now) _ _ _ (now_at records (g.S.Store.room c.args.store.now) (point_with (g.S.Store.rows c.args.store.now) c.args.floor) c.loop-index.index (g.S.Store.rows c.loop-index.store) (g.S.Store.room c.loop-index.store) c.loop-index.pending refl p inside here c.loop-index.invariant.walked)));
      begun = c.take.ensures.begun ∙ i.begun;
      stays = stays_then g.S.Store.keeps g.S.Store.staged c.args.store.now c.loop-index.store c.take.new.store i.stays c.take.ensures.stays;
    }

pub returns-then-not-branch-clause-damaged : goal.returns-then-not-branch-clause-damaged
returns-then-not-branch-clause-damaged g c = λ place is.
    let records = c.args.records.now in
    let p = c.index-records-index.result in
    let inside : c.loop-index.index < length records = omega arith in
    let here : p ≡ get_or records c.loop-index.index p = search rules in
    inl (bad_here records (g.S.Store.room c.args.store.now) (point_with (g.S.Store.rows c.args.store.now) c.args.floor) c.loop-index.index (g.S.Store.rows c.loop-index.store) (g.S.Store.room c.loop-index.store) c.loop-index.pending refl p inside here c.loop-index.invariant.walked place (same_place p.place place is)
    (subst (λ b. Takes records (g.S.Store.room c.args.store.now) (redo_from (point_with (g.S.Store.rows c.args.store.now) c.args.floor) (items_of (take c.loop-index.index records))) (prepares (items_of (take c.loop-index.index records))) p.item (items_of (drop (c.loop-index.index + 1) records)) (g.S.Store.rows c.take.new.store) (g.S.Store.room c.take.new.store) c.take.new.self b) c.if-not-branch.true
    (c.in_ok-take.ensures.takes (g.S.Store.room c.args.store.now) _ _ _ (now_at records (g.S.Store.room c.args.store.now) (point_with (g.S.Store.rows c.args.store.now) c.args.floor) c.loop-index.index (g.S.Store.rows c.loop-index.store) (g.S.Store.room c.loop-index.store) c.loop-index.pending refl p inside here c.loop-index.invariant.walked))))

pub returns-then-not-has_room-clause-damaged : goal.returns-then-not-has_room-clause-damaged
returns-then-not-has_room-clause-damaged g c = λ place is.
    let records = c.args.records.now in
    let at_end : c.loop-index.index ≡ length records = omega arith in
    let walked : Walked records (g.S.Store.room c.args.store.now) (point_with (g.S.Store.rows c.args.store.now) c.args.floor) (length records) (g.S.Store.rows c.loop-index.store) (g.S.Store.room c.loop-index.store) c.loop-index.pending =
    subst (λ k. Walked records (g.S.Store.room c.args.store.now) (point_with (g.S.Store.rows c.args.store.now) c.args.floor) k (g.S.Store.rows c.loop-index.store) (g.S.Store.room c.loop-index.store) c.loop-index.pending) at_end c.loop-index.invariant.walked in
    let over : 2 ^ 62 < c.args.end + 32 * c.len.result = c.has_room.ensures.no c.if-not-has_room.true in
    let count : c.len.result ≡ length c.loop-index.pending.told = c.len.ensures in
    no_room records (g.S.Store.room c.args.store.now) (point_with (g.S.Store.rows c.args.store.now) c.args.floor) (g.S.Store.rows c.loop-index.store) (g.S.Store.room c.loop-index.store) c.loop-index.pending walked c.args.end place (same_place c.args.end place is)
    (omega (arith, over, count)) refl

pub returns-clause-stands : goal.returns-clause-stands
returns-clause-stands g c =
    let records = c.args.records.now in
    let base = g.S.Store.room c.args.store.now in
    let point : Redone = point_with (g.S.Store.rows c.args.store.now) c.args.floor in
    let rows = g.S.Store.rows c.loop-index.store in
    let room = g.S.Store.room c.loop-index.store in
    let at_end : c.loop-index.index ≡ length records = omega arith in
    let walked : Walked records base point (length records) rows room c.loop-index.pending = subst (λ k. Walked records base point k rows room c.loop-index.pending) at_end c.loop-index.invariant.walked in
    λ s up. stands_end records base point rows room c.loop-index.pending walked s up

pub returns-clause-doubts : goal.returns-clause-doubts
returns-clause-doubts g c =
    let records = c.args.records.now in
    let base = g.S.Store.room c.args.store.now in
    let point : Redone = point_with (g.S.Store.rows c.args.store.now) c.args.floor in
    let rows = g.S.Store.rows c.loop-index.store in
    let room = g.S.Store.room c.loop-index.store in
    let at_end : c.loop-index.index ≡ length records = omega arith in
    let walked : Walked records base point (length records) rows room c.loop-index.pending = subst (λ k. Walked records base point k rows room c.loop-index.pending) at_end c.loop-index.invariant.walked in
    told_end records base point rows room c.loop-index.pending walked

pub returns-clause-rows : goal.returns-clause-rows
returns-clause-rows g c =
    let records = c.args.records.now in
    let base = g.S.Store.room c.args.store.now in
    let point : Redone = point_with (g.S.Store.rows c.args.store.now) c.args.floor in
    let rows = g.S.Store.rows c.loop-index.store in
    let room = g.S.Store.room c.loop-index.store in
    let at_end : c.loop-index.index ≡ length records = omega arith in
    let walked : Walked records base point (length records) rows room c.loop-index.pending = subst (λ k. Walked records base point k rows room c.loop-index.pending) at_end c.loop-index.invariant.walked in
    rows_end records base point rows room c.loop-index.pending walked

pub returns-clause-room : goal.returns-clause-room
returns-clause-room g c =
    let records = c.args.records.now in
    let base = g.S.Store.room c.args.store.now in
    let point : Redone = point_with (g.S.Store.rows c.args.store.now) c.args.floor in
    let rows = g.S.Store.rows c.loop-index.store in
    let room = g.S.Store.room c.loop-index.store in
    let at_end : c.loop-index.index ≡ length records = omega arith in
    let walked : Walked records base point (length records) rows room c.loop-index.pending = subst (λ k. Walked records base point k rows room c.loop-index.pending) at_end c.loop-index.invariant.walked in
    λ place. room_end records base point rows room c.loop-index.pending walked place

pub returns-clause-none_bad : goal.returns-clause-none_bad
returns-clause-none_bad g c =
    let records = c.args.records.now in
    let base = g.S.Store.room c.args.store.now in
    let point : Redone = point_with (g.S.Store.rows c.args.store.now) c.args.floor in
    let rows = g.S.Store.rows c.loop-index.store in
    let room = g.S.Store.room c.loop-index.store in
    let at_end : c.loop-index.index ≡ length records = omega arith in
    let walked : Walked records base point (length records) rows room c.loop-index.pending = subst (λ k. Walked records base point k rows room c.loop-index.pending) at_end c.loop-index.invariant.walked in
    λ n bad. right_end records base point rows room c.loop-index.pending walked n bad

pub returns-clause-end : goal.returns-clause-end
returns-clause-end g c =
    let records = c.args.records.now in
    let base = g.S.Store.room c.args.store.now in
    let point : Redone = point_with (g.S.Store.rows c.args.store.now) c.args.floor in
    let rows = g.S.Store.rows c.loop-index.store in
    let room = g.S.Store.room c.loop-index.store in
    let at_end : c.loop-index.index ≡ length records = omega arith in
    let walked : Walked records base point (length records) rows room c.loop-index.pending = subst (λ k. Walked records base point k rows room c.loop-index.pending) at_end c.loop-index.invariant.walked in
    (let yes : c.args.end + 32 * c.len.result ≤ 2 ^ 62 = c.has_room.ensures.yes c.if-not-has_room.false in
    let count : length c.loop-index.pending.told ≡ length (redo_from point (items_of records)).doubts = count_end records base point rows room c.loop-index.pending walked in
    let counted : c.len.result ≡ length c.loop-index.pending.told = c.len.ensures in
    omega (arith, yes, count, counted))
