-- The calls of a session are as a system answers them, by what the nodes' lists hold in the end.
use Rattle.std.specs.Prelude.{◌≡◌, ℕ, List, [], ◌∷◌, ◌++◌}
use Rattle.hb_types.specs.declared.trail.Call.{Call}
use Rattle.hb_types.specs.Lists.{Each}
use Rattle.hb_runs.specs.ServerRuns.{Asked}
use Rattle.hb_node.specs.Lists.{AreOfNode, Lists, OneMore}
use Rattle.hb_law.specs.Answering.{IsOfSystem}

-- each list is as it was, and maybe longer
abbrev pub Longer : Lists → Lists → Type 0
Longer before after = (name : ℕ) → (more : List Asked) × (after name ≡ before name ++ more)

-- the nodes' lists along a session's calls, with what others asked between them
pub data Adds : Lists → List Call → Lists → Type 0 where
  stays : {lists : Lists} → Adds lists [] lists
  asks : {before mid after : Lists} {cs : List Call} → (c : Call) → OneMore before mid c.node.0 c.request c.answer → Adds mid cs after → Adds before (c ∷ cs) after
  others : {before mid after : Lists} {cs : List Call} → Longer before mid → Adds mid cs after → Adds before cs after

-- If the lists of their nodes hold only such calls in the end, each of these is as a system answers it.
abbrev pub AddedAreOfSystem : Type 0
AddedAreOfSystem =
    (before after : Lists) (calls : List Call) → Adds before calls after → Each (λ c. AreOfNode c.node.0 (after c.node.0)) calls → Each IsOfSystem calls
