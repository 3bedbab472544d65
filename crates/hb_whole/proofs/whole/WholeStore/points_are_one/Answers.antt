use Rattle.hb_whole.proofs.OnePoint.{one_point}
use Rattle.hb_whole.proofs.whole.WholeStore.points_are_one.Goals as goal

pub returns : goal.returns
returns c = one_point c.changes_have_one_form.ensures.one_form
