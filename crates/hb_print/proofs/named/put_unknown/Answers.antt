use Rattle.std.specs.Prelude.{codes}
use Rattle.hb_print.specs.Places.{owner_text}
use Rattle.hb_print.proofs.Chains.{two}
use Rattle.hb_print.proofs.named.put_unknown.Goals as goal

pub returns : goal.returns
returns c = two _ _ _ (codes "OUTCOME UNKNOWN ") (owner_text c.args.names.now c.args.owner) c.in_ok-put.ensures c.in_ok-put_owner.ensures
