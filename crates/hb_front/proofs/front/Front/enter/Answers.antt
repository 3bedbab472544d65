use Rattle.std.proofs.Common.{◌≡◌, ◌++◌, ◌∷◌, [], List, sym, subst, rules}
use Rattle.hb_types.specs.declared.trail.TrailEntry.{TrailEntry}
use Rattle.hb_node.specs.Laws.{Images, asked_of, entry_of}
use Rattle.hb_front.specs.Fronting.{Explains, leaves}
use Rattle.hb_front.proofs.Calling.{law, images}
use Rattle.hb_front.proofs.front.Front.enter.Goals as goal

pub returns-clause-law : goal.returns-clause-law
returns-clause-law g c = λ origin is time.
    let pushed : c.push.new.self.entries ≡ c.args.self.now.trail.entries ++ entry_of c.args.request c.ask-answer.result c.args.clock.now c.ask-answer.new.clock ∷ [] = search rules in
    subst (λ (l : List TrailEntry). Explains g.D.Disk.content g.D.Disk.left g.D.Disk.last c.ask-answer.new.self.state origin (asked_of l)) (sym pushed)
    (law g.D.Disk.content g.D.Disk.left g.D.Disk.last (λ disk. g.met.D.Disk.stands disk) (λ disk. g.met.D.Disk.stands_on disk) c.args.self.now.coordinator.state c.ask-answer.new.self.state c.args.self.now.trail.entries (entry_of c.args.request c.ask-answer.result c.args.clock.now c.ask-answer.new.clock)
    c.ask-answer.ensures.run c.ask-answer.ensures.stop c.ask-answer.ensures.left_by c.ask-answer.ensures.in_time origin is time)

pub returns-clause-images : goal.returns-clause-images
returns-clause-images g c = λ origin is time.
    let pushed : c.push.new.self.entries ≡ c.args.self.now.trail.entries ++ entry_of c.args.request c.ask-answer.result c.args.clock.now c.ask-answer.new.clock ∷ [] = search rules in
    subst (λ (l : List TrailEntry). Images origin c.args.self.now.trail.entries l (entry_of c.args.request c.ask-answer.result c.args.clock.now c.ask-answer.new.clock) (leaves g.D.Disk.left c.args.self.now.coordinator.state) (leaves g.D.Disk.left c.ask-answer.new.self.state)) (sym pushed)
    (images g.D.Disk.content g.D.Disk.left g.D.Disk.last (λ disk. g.met.D.Disk.stands disk) (λ disk. g.met.D.Disk.stands_on disk) c.args.self.now.coordinator.state c.ask-answer.new.self.state c.args.self.now.trail.entries (entry_of c.args.request c.ask-answer.result c.args.clock.now c.ask-answer.new.clock)
    c.ask-answer.ensures.run c.ask-answer.ensures.stop c.ask-answer.ensures.left_by c.ask-answer.ensures.in_time origin is time)
