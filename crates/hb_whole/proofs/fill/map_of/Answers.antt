use Rattle.hb_whole.proofs.Filling.{filled_more}
use Rattle.hb_whole.proofs.fill.map_of.Goals as goal

pub loop-row-preserved : goal.loop-row-preserved
loop-row-preserved c = record {
  rows = filled_more _ _ _ _ _ _ c.loop-row.invariant.rows c.in-Some.ensures c.requires c.in_ok-add_row.ensures.rows;
  bare = c.in_ok-add_row.ensures.bare;
  sound = c.in_ok-add_row.ensures.sound;
  ordered = c.in_ok-add_row.ensures.ordered;
}
