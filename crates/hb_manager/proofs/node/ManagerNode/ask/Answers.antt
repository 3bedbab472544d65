use Rattle.hb_manager.proofs.Holders.{manager_tells}
use Rattle.hb_manager.proofs.Running.{images_empty}
use Rattle.hb_manager.proofs.node.ManagerNode.ask.Goals as goal

pub returns-then-is_left_out-clause-images : goal.returns-then-is_left_out-clause-images
returns-then-is_left_out-clause-images c = λ origin e time.
    images_empty c.args.self.now.board c.pass.new.self.board origin c.args.self.now.trail.entries c.pass.new.self.trail.entries _ e (c.pass.ensures.law origin e)

pub returns-clause-images : goal.returns-clause-images
returns-clause-images c = λ origin e time.
    images_empty c.args.self.now.board c.enter.new.self.board origin c.args.self.now.trail.entries c.enter.new.self.trail.entries _ e (c.enter.ensures.law origin e)

pub returns-then-is_left_out-clause-told : goal.returns-then-is_left_out-clause-told
returns-then-is_left_out-clause-told c = manager_tells c.pass.result c.pass.ensures.told

pub returns-clause-told : goal.returns-clause-told
returns-clause-told c = manager_tells c.enter.result c.enter.ensures.told
