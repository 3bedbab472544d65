use Rattle.hb_manager.proofs.Holders.{answers, stays_sound}
use Rattle.hb_manager.proofs.Running.{explained_past, goes_on, left_out_takes_none, passes}
use Rattle.hb_manager.proofs.manager.Manager.pass.Goals as goal

pub invariant_of-self : goal.invariant_of-self
invariant_of-self c = record {
  sound = stays_sound c.args.self.now.board c.ask.new.self c.args.request.now c.ask.result (goes_on c.args.self.now.board c.ask.new.self c.args.request.now c.ask.result c.ask.ensures.goes) c.requires.well_formed c.args.self.now.sound;
}

pub returns-clause-told : goal.returns-clause-told
returns-clause-told c = answers c.args.self.now.board c.ask.new.self c.args.request.now c.ask.result (goes_on c.args.self.now.board c.ask.new.self c.args.request.now c.ask.result c.ask.ensures.goes) c.args.self.now.sound

pub returns-clause-law : goal.returns-clause-law
returns-clause-law c = λ origin e.
    explained_past c.args.self.now.board c.ask.new.self c.args.request.now c.ask.result origin _ (passes c.args.request.now c.ask.result c.requires.left_out)
    (goes_on c.args.self.now.board c.ask.new.self c.args.request.now c.ask.result c.ask.ensures.goes) e

pub returns-clause-memory : goal.returns-clause-memory
returns-clause-memory c = c.ask.ensures.memory (left_out_takes_none c.args.request.now c.requires.left_out)
