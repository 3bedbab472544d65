-- Which paths are kept for each transaction, to be visited when it ends, and what the lock table keeps true.
use Rattle.std.specs.Prelude.{◌≡◌, ℕ, Bool, true, List, [], unwrap_or}
use Rattle.std.specs.List.{list_any}
use Rattle.std.specs.Ordering.{nat_cmp}
use Rattle.std.specs.BTreeMap.{BTreeMap, get}
use Rattle.hb_types.specs.declared.lock.Holder.{Holder}
use Rattle.hb_types.specs.declared.names.Tx.{Tx}
use Rattle.hb_types.specs.declared.places.Path.{Path}
use Rattle.hb_types.specs.Places.{same_path}
use Rattle.hb_locks.specs.Locks.{Locks, IsCompatible, holders_at, is_of}

abbrev pub paths_at : BTreeMap ℕ (List Path) → ℕ → List Path
paths_at paths tx = unwrap_or (get nat_cmp paths tx) []

-- the path is one of these
abbrev pub has_path : List Path → Path → Bool
has_path paths q = list_any (λ p. same_path p q) paths

-- the transaction is one of the holders
abbrev pub holds : Tx → List Holder → Bool
holds tx holders = list_any (is_of tx) holders

-- the holders stand beside one another, and each path that a transaction holds is kept for it
pub record IsSound (locks : Locks) (paths : BTreeMap ℕ (List Path)) : Type 0 where
  pub compatible : IsCompatible locks
  pub kept : (tx : Tx) (q : Path) → holds tx (holders_at locks q) ≡ true → has_path (paths_at paths tx.0) q ≡ true
