use Rattle.hb_types.proofs.Ascending.{in_Each}
use Rattle.hb_law.specs.Transactions.{IsTxnOf}
use Rattle.hb_steps.proofs.ItemCalls.{has_items}
use Rattle.hb_steps.proofs.laws.txns_have_items.Goals as goal

pub returns : goal.returns
returns c =
    λ base logs trails lists txns fes front back d it right at whole nd fam t known of_tx.
    has_items c.transactions_ascend.ensures base logs trails lists txns fes front d it at nd fam t known of_tx (in_Each (IsTxnOf lists) t txns known it.txns_are.each)
