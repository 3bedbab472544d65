use Rattle.std.proofs.Common.{◌∙◌, ap, sym}
use Rattle.std.specs.Ordering.{is_lt}
use Rattle.hb_whole.proofs.Decoding.{above_at}
use Rattle.hb_whole.proofs.decode.is_above.Goals as goal

pub returns-in-len1-up : goal.returns-in-len1-up
returns-in-len1-up c = c.is_lt.ensures ∙ ap is_lt c.cmp.ensures ∙ sym (above_at c.args.place c.args.rows.now c.last-item.result c.in-len1-up.len_at_least c.last-item.is)
