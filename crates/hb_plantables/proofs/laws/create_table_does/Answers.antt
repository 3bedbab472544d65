use Rattle.hb_plantables.proofs.TablePlan.{create_table_rightly}
use Rattle.hb_plantables.proofs.laws.create_table_does.Goals as goal

pub returns : goal.returns
returns c = create_table_rightly
