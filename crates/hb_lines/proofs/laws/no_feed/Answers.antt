use Rattle.hb_lines.proofs.LineLemmas.{no_feed_in}
use Rattle.hb_lines.proofs.laws.no_feed.Goals as goal

pub returns : goal.returns
returns c = no_feed_in
