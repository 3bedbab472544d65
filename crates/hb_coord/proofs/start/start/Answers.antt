use Rattle.std.proofs.Common.{◌≡◌, ◌≤◌, List, inl, refl, sym, ◌∙◌, subst, arith}
use Rattle.std.specs.Prelude.{IfSome}
use Rattle.hb_types.specs.declared.change.Placed.{Placed}
use Rattle.hb_types.specs.Lists.{Each}
use Rattle.hb_log.specs.declared.fault.LogFault.TheVariants as fault
use Rattle.hb_disks.specs.StandsFor.{IsCoordinators}
use Rattle.hb_coord.specs.Memory.{Knows}
use Rattle.hb_coord.specs.Standing.{items_of}
use Rattle.hb_coord.specs.Starts.{IsBadAt, IsStrange}
use Rattle.hb_coord.proofs.Starting.{told_some, at_some, left_as_was, left_as_read, starts_with, strange_is_bad}
use Rattle.hb_coord.proofs.start.start.Goals as goal

pub returns-in-Err-clause-stop_err : goal.returns-in-Err-clause-stop_err
returns-in-Err-clause-stop_err g c = λ told time.
    left_as_was g.D.Disk.content g.D.Disk.left g.D.Disk.last c.args.disk c.restart.new.self c.args.clock.now c.restart.new.clock (g.met.D.Disk.stands c.args.disk) c.restart.ensures.clock c.restart.ensures.stop time

pub returns-in-Err-start-clause-stop_err : goal.returns-in-Err-start-clause-stop_err
returns-in-Err-start-clause-stop_err g c = λ told time.
    let t = told_some (g.D.Disk.content c.restart.new.self) (c.restart.ensures.told ∙ told) in
    left_as_read g.D.Disk.content g.D.Disk.left g.D.Disk.last c.args.disk c.restart.new.self c.args.clock.now c.restart.new.clock (g.met.D.Disk.stands c.args.disk) c.restart.ensures.clock c.restart.ensures.stop time
    c.in-Err-start.disk t.0 (at_some (g.D.Disk.content c.restart.new.self) t.0 _ t.1 c.in-Ok.ensures.reads)
    (c.in-Err-start.ensures.stop_err t.0 t.1 (omega (arith, time, c.restart.ensures.last, c.restart.ensures.clock)))

pub returns-in-Err-start-clause-damaged : goal.returns-in-Err-start-clause-damaged
returns-in-Err-start-clause-damaged g c = λ place is told.
    let t = told_some (g.D.Disk.content c.restart.new.self) (c.restart.ensures.told ∙ told) in
    let breaks = c.in-Err-start.ensures.damaged place is t.0 t.1 in
    let other : c.in-Err-start.fault ≡ fault.Fault → _ = λ e. (let wrong : fault.Damaged place ≡ fault.Fault = sym is ∙ e in cc) in
    let same = c.in-Err-start.ensures.content_err other in
    subst (λ o. IfSome o (λ read. IsBadAt read place)) (sym (same ∙ t.1)) (inl breaks.1)

pub returns-in-Ok-read_all-clause-starts : goal.returns-in-Ok-read_all-clause-starts
returns-in-Ok-read_all-clause-starts g c = λ told time.
    let t = told_some (g.D.Disk.content c.restart.new.self) (c.restart.ensures.told ∙ told) in
    let later : g.D.Disk.last c.restart.new.self ≤ c.restart.new.clock = omega (arith, time, c.restart.ensures.last, c.restart.ensures.clock) in
    let e = c.in-Ok-start.ensures in
    let items = c.in-Ok-start.log.items.items in
    let knows : Knows (items_of c.in-Ok-start.log.items.items) c.in-Ok-read_all.recorded = subst (λ (l : List Placed). Knows (items_of l) c.in-Ok-read_all.recorded) c.items.ensures c.in-Ok-read_all.ensures.knows in
    let own : Each IsCoordinators (items_of c.in-Ok-start.log.items.items) = subst (λ (l : List Placed). Each IsCoordinators (items_of l)) c.items.ensures c.in-Ok-read_all.ensures.own in
    starts_with g.D.Disk.content g.D.Disk.left g.D.Disk.last c.args.disk _ t.0 c.in-Ok-start.log.items.items c.start.new.clock
    (at_some (g.D.Disk.content c.restart.new.self) t.0 _ t.1 c.in-Ok.ensures.reads) (e.items t.0 t.1) (e.settled t.0 t.1 later (inl refl)) (e.in_time later) own
    (λ within. c.come_up.ensures.reflects (items_of c.in-Ok-start.log.items.items) knows within)

pub returns-in-Ok-read_all-clause-stop : goal.returns-in-Ok-read_all-clause-stop
returns-in-Ok-read_all-clause-stop g c = λ told time.
    let t = told_some (g.D.Disk.content c.restart.new.self) (c.restart.ensures.told ∙ told) in
    left_as_read g.D.Disk.content g.D.Disk.left g.D.Disk.last c.args.disk c.restart.new.self c.args.clock.now c.restart.new.clock (g.met.D.Disk.stands c.args.disk) c.restart.ensures.clock c.restart.ensures.stop time
    c.in-Ok-start.log.disk t.0 (at_some (g.D.Disk.content c.restart.new.self) t.0 _ t.1 c.in-Ok.ensures.reads)
    (c.in-Ok-start.ensures.stop t.0 t.1 (omega (arith, time, c.restart.ensures.last, c.restart.ensures.clock)))

pub returns-in-Err-read_all-clause-stop_err : goal.returns-in-Err-read_all-clause-stop_err
returns-in-Err-read_all-clause-stop_err g c = λ told time.
    let t = told_some (g.D.Disk.content c.restart.new.self) (c.restart.ensures.told ∙ told) in
    rw c.into_disk.ensures
    (left_as_read g.D.Disk.content g.D.Disk.left g.D.Disk.last c.args.disk c.restart.new.self c.args.clock.now c.restart.new.clock (g.met.D.Disk.stands c.args.disk) c.restart.ensures.clock c.restart.ensures.stop time
    c.in-Ok-start.log.disk t.0 (at_some (g.D.Disk.content c.restart.new.self) t.0 _ t.1 c.in-Ok.ensures.reads)
    (c.in-Ok-start.ensures.stop t.0 t.1 (omega (arith, time, c.restart.ensures.last, c.restart.ensures.clock))))

pub returns-in-Err-read_all-clause-damaged : goal.returns-in-Err-read_all-clause-damaged
returns-in-Err-read_all-clause-damaged g c = λ place is told.
    let t = told_some (g.D.Disk.content c.restart.new.self) (c.restart.ensures.told ∙ told) in
    let e = c.in-Ok-start.ensures in
    let strange : IsStrange c.in-Ok-start.log.items.items place = subst (λ (l : List Placed). IsStrange l place) c.items.ensures (c.in-Err-read_all.ensures.strange place is) in
    rw c.into_disk.ensures
    (strange_is_bad c.records_have_one_form.ensures.one_form (g.D.Disk.content c.in-Ok-start.log.disk) t.0 c.in-Ok-start.log.items.items place (e.items t.0 t.1) (λ long. e.content t.0 t.1 long) strange)
