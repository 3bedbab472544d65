use Rattle.std.proofs.Common.{◌≡◌, ◌∙◌, ◌++◌, ◌∷◌, [], List, true, inl, inr, refl, ap, subst, sym, arith, rules}
use Rattle.hb_types.specs.declared.answer.Answer.{Answer}
use Rattle.hb_types.specs.declared.trail.TrailEntry.{TrailEntry}
use Rattle.hb_runs.specs.Kinds.{tells_nothing}
use Rattle.hb_front.proofs.Rooms.{abort_has_room, stop_has_room, abort_takes_none, stop_takes_none}
use Rattle.hb_types.specs.declared.answer.Answer.TheVariants as answer
use Rattle.hb_node.specs.Laws.{entry_of}
use Rattle.hb_front.proofs.Calling.{idle_tells, images_still, images_as_were}
use Rattle.hb_front.proofs.node.FrontNode.ask.Goals as goal

pub returns-then-ends_nothing-clause-images : goal.returns-then-ends_nothing-clause-images
returns-then-ends_nothing-clause-images g c = λ origin is time.
    images_still g.D.Disk.content g.D.Disk.left g.D.Disk.last (λ disk. g.met.D.Disk.stands disk) (λ disk. g.met.D.Disk.stands_on disk) c.args.self.now.coordinator.state origin c.args.self.now.trail.entries
    (entry_of c.args.request c.pass.result c.args.clock.now c.args.clock.now) is time (omega arith)

pub returns-then-not-has_room-clause-images : goal.returns-then-not-has_room-clause-images
returns-then-not-has_room-clause-images g c = λ origin is time.
    let same : c.has_room.new.self.coordinator.state ≡ c.args.self.now.coordinator.state = search rules in
    images_as_were g.D.Disk.content g.D.Disk.left g.D.Disk.last (λ disk. g.met.D.Disk.stands disk) (λ disk. g.met.D.Disk.stands_on disk) c.args.self.now.coordinator.state c.has_room.new.self.coordinator.state origin c.args.self.now.trail.entries c.has_room.new.self.trail.entries
    (entry_of c.args.request answer.NoMemory c.args.clock.now c.args.clock.now) same c.has_room.ensures.entries is time (omega arith)

pub returns-then-not-has_room-clause-abort : goal.returns-then-not-has_room-clause-abort
returns-then-not-has_room-clause-abort g c = λ tx is. absurd
    (abort_has_room c.args.self.now.coordinator.state c.args.request tx c.has_room.result is (sym c.ends_nothing.ensures ∙ c.if-ends_nothing.false) c.has_room.ensures.kept c.if-not-has_room.true)

pub returns-then-not-has_room-clause-stop : goal.returns-then-not-has_room-clause-stop
returns-then-not-has_room-clause-stop g c = λ is up. absurd
    (stop_has_room c.args.self.now.coordinator.state c.args.request c.has_room.result is up c.has_room.ensures.kept c.if-not-has_room.true)

pub returns-clause-abort : goal.returns-clause-abort
returns-clause-abort g c = λ tx is. c.enter.ensures.memory (abort_takes_none c.args.request tx is)

pub returns-clause-stop : goal.returns-clause-stop
returns-clause-stop g c = λ is up. c.enter.ensures.memory (stop_takes_none c.args.request is)

pub returns-then-ends_nothing-clause-told : goal.returns-then-ends_nothing-clause-told
returns-then-ends_nothing-clause-told g c = inl (subst (λ (a : Answer). tells_nothing a ≡ true) (sym c.pass.ensures.answer) (idle_tells c.args.self.now.coordinator.state))

pub returns-then-not-has_room-clause-told : goal.returns-then-not-has_room-clause-told
returns-then-not-has_room-clause-told g c = inl refl

pub returns-clause-told : goal.returns-clause-told
returns-clause-told g c = inr (c.enter.ensures.entered ∙ ap (λ (l : List TrailEntry). l ++ entry_of c.args.request c.enter.result c.args.clock.now c.enter.new.clock ∷ []) c.has_room.ensures.entries)
