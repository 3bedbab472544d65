use Rattle.hb_moments.proofs.Answering.{of_node}
use Rattle.hb_moments.proofs.laws.answers_are_of_nodes.Goals as goal

pub returns : goal.returns
returns c = λ base logs trails trail l node ran few i g. of_node base logs trails ran few trail l i node g
