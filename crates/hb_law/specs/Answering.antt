-- Calls as a system answers them.
use Rattle.hb_types.specs.declared.trail.Call.{Call}
use Rattle.hb_runs.specs.Kinds.{IsOfNode}
pub use Rattle.hb_runs.specs.Kinds.{is_begin, tells_nothing}

-- A call as a system answers it: as its node answers. What mgr answers, and what is answered to requests that are for mgr, stands in
-- no trail of the law.
abbrev pub IsOfSystem : Call → Type 0
IsOfSystem c = IsOfNode c.node.0 c.request c.answer
