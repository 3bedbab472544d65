use Rattle.hb_alone.proofs.Running.{items_run_alone}
use Rattle.hb_alone.proofs.laws.right_items_run_alone.Goals as goal

pub returns : goal.returns
returns c = items_run_alone
