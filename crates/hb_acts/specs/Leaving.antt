-- What a script leaves of the nodes of a system.
use Rattle.std.specs.Prelude.{◌≡◌, ℕ, List}
use Rattle.hb_node.specs.Laws.{State}
use Rattle.hb_node.specs.Lists.{Lists}
use Rattle.hb_reach.specs.Goes.{IsLawful}
use Rattle.hb_reach.specs.Told.{Meanings, seen}

-- These are the lists of the nodes as they stand then. Each node that was lawful is so still: what it holds, and whatever a stop may leave of
-- it, is what its list makes of the state that it began with.
pub record NodesLeft {N M : Type 0} (n : Meanings N) (m : Meanings M) (from to : ℕ) (old : List N) (manager : M) (lists : Lists) (new : List N) : Type 0 where
  pub last : M
  pub listed : lists ≡ (λ node. ((seen n m new last to).node node).list)
  pub lawful : (node : ℕ) (origin : State) → IsLawful from origin ((seen n m old manager from).node node) → IsLawful to origin ((seen n m new last to).node node)
