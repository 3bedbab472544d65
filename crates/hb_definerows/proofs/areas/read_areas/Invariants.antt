use Rattle.std.proofs.Common.{◌≡◌, take}
use Rattle.std.specs.Prelude.{filter_map}
use Rattle.hb_talk.specs.PlansDefine.{area_of}
use Rattle.hb_definerows.specs.DefineRows.{TellAreas}
use Rattle.hb_definerows.proofs.areas.read_areas.Given as goal

abbrev pub invariant-loop-row : goal.invariant-loop-row
invariant-loop-row l = TellAreas l.fn.rows → l.areas.items ≡ filter_map area_of (take l.row-index l.fn.rows)
