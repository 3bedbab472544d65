use Rattle.hb_manager.proofs.Running.{applied, undone}
use Rattle.hb_manager.proofs.asking.ask_twice.Goals as goal

pub returns-in-Ok-apply-clause-goes : goal.returns-in-Ok-apply-clause-goes
returns-in-Ok-apply-clause-goes c = applied c.args.board.now c.apply.new.self c.args.request.now c.in-Ok.answer c.in-Ok.ensures.answered c.in-Ok-apply.ensures.done

pub returns-in-Err-apply-clause-none : goal.returns-in-Err-apply-clause-none
returns-in-Err-apply-clause-none c = undone c.args.board.now c.apply.new.self c.args.request.now c.in-Err-apply.ensures.none

pub returns-in-Err-clause-none : goal.returns-in-Err-clause-none
returns-in-Err-clause-none c = undone c.args.board.now c.args.board.now c.args.request.now (λ b shows. shows)
