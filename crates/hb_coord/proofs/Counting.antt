-- How many ends may still come.
use Rattle.std.proofs.Common.{◌≡◌, ℕ, ◌+◌, ◌≤◌, refl, arith}
use Rattle.std.specs.Prelude.{if◌then◌else◌}
use Rattle.std.specs.Ordering.{nat_cmp}
use Rattle.std.specs.BTreeSet.{btree_set_len, contains}
use Rattle.hb_edge.specs.declared.fused.Fused.{Fused}
use Rattle.hb_types.specs.declared.names.Tx.{Tx}
use Rattle.hb_types.specs.declared.request.Request.{Request}
use Rattle.hb_types.specs.declared.request.Request.TheVariants as request
use Rattle.hb_types.proofs.PutLaws.{by_test}
use Rattle.hb_coord.specs.Memory.{active_begun, active_ended}
use Rattle.hb_coord.specs.Law.{ends_in, ended_by, opened_by}
use Rattle.hb_coord.specs.declared.kept.Ledger.{Ledger}
use Rattle.hb_coord.specs.declared.running.Running.{Running}
use Rattle.hb_coord.specs.declared.state.State.TheVariants.{Down, Up}

-- a request that is no Abort ends no active transaction
pub nothing_ended : (l : Ledger) (q : Request) → ((tx : Tx) → q ≡ request.Abort tx → ⊥) → btree_set_len l.active + active_ended l q ≤ btree_set_len l.active + active_begun q
nothing_ended l (request.Abort tx) none = absurd (none tx refl)
nothing_ended l (request.Begin owner) none = omega arith
nothing_ended l q none = omega arith

one_at_most : (l : Ledger) (tx : ℕ) → (if contains nat_cmp l.active tx then 1 else 0) ≤ btree_set_len l.active + 1
one_at_most l tx = by_test (contains nat_cmp l.active tx) (λ t. rw t (omega arith)) (λ f. rw f (omega arith))

-- one that stays up
pub up_ends : {D : Type 0} (old new : Running (Fused D)) (q : Request) → (q ≡ request.Stop → ⊥) → btree_set_len new.ledger.active + active_ended old.ledger q ≤ btree_set_len old.ledger.active + active_begun q
    → ends_in (Up new) + ended_by (Up old) q ≤ ends_in (Up old) + opened_by q
up_ends old new request.Stop none count = absurd (none refl)
up_ends old new (request.Abort tx) none count = omega (arith, count)
up_ends old new (request.Begin owner) none count = omega (arith, count)
up_ends old new request.Start none count = omega (arith, count)
up_ends old new q none count = omega (arith, count)

-- one that faults
pub fault_ends : {D : Type 0} (old : Running (Fused D)) (disk : Fused D) (q : Request) → ends_in (Down disk) + ended_by (Up old) q ≤ ends_in (Up old) + opened_by q
fault_ends old disk request.Stop = omega arith
fault_ends old disk (request.Abort tx) = let one = one_at_most old.ledger tx.0 in omega (arith, one)
fault_ends old disk (request.Begin owner) = omega arith
fault_ends old disk request.Start = omega arith
fault_ends old disk q = omega arith

-- one that is down
pub down_ends : {D : Type 0} (disk : Fused D) (q : Request) → ends_in (Down disk) + ended_by (Down disk) q ≤ ends_in (Down disk) + opened_by q
down_ends disk request.Stop = omega arith
down_ends disk (request.Abort tx) = omega arith
down_ends disk (request.Begin owner) = omega arith
down_ends disk request.Start = omega arith
down_ends disk q = omega arith
