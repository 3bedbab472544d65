-- Which talks obey the callers' law: each request is permitted by the calls before it.
use Rattle.std.specs.Prelude.{◌≡◌, ℕ, ◌+◌, ◌≤◌, IsTrue, List}
use Rattle.hb_types.specs.declared.names.Owner.{Owner}
use Rattle.hb_types.specs.declared.trail.Call.{Call}
use Rattle.hb_types.specs.Lists.{Each}
use Rattle.hb_model.specs.declared.statement.Statement.{Statement}
use Rattle.hb_model.specs.Shapes.{Hint}
use Rattle.hb_talk.specs.Ends.{settling}
use Rattle.hb_talk.specs.Moves.{Mover, moving}
use Rattle.hb_talk.specs.Sessions.{transaction}
use Rattle.hb_talk.specs.Talk.{Begins, Use, mgr}
pub use Rattle.hb_runs.specs.Kinds.{is_begin}
use Rattle.hb_law.specs.Callers.{begun_count, is_begun, IsNextOwner, ObeysFrom}

-- a call as a system answers it: at one of its nodes, and only a Begin is answered that a transaction begun
pub record IsOfSystem (c : Call) : Type 0 where
  pub node : c.node.0 ≤ mgr
  pub begins : IsTrue (is_begun c.answer) → IsTrue (is_begin c.request)

-- Behind any calls of its session, a transaction of the next owner obeys, from its first call to the last one that was made.
abbrev pub TransactionsObey : Type 0
TransactionsObey =
    (back_ends session : ℕ) (owner : Owner) (sts : List Statement) (front cs : List Call) → IsNextOwner session front owner
    → Begins (transaction back_ends owner sts) cs → Each IsOfSystem cs → ObeysFrom session front cs

-- A driver that settles a branch at a node by what Outcome tells of its transaction obeys, behind any calls.
abbrev pub SettlersObey : Type 0
SettlersObey = (session node : ℕ) (u : Use) (front cs : List Call) → Begins (settling node u) cs → ObeysFrom session front cs

-- Behind any calls of its session, whose transactions these are, pdrbal obeys through all its checks and turns.
abbrev pub MoversObey : Type 0
MoversObey =
    (m : Mover) (left nth : ℕ) (hints : List Hint) (front cs : List Call) → nth ≡ begun_count front + 1 → Begins (moving m left nth hints) cs
    → Each IsOfSystem cs → ObeysFrom m.session front cs
