-- A fuse over a disk: which call fails by it.
use Rattle.std.specs.Prelude.{◌≡◌, ℕ, ◌+◌, ◌-◌, max, Bool, true, false, ◌==◌, Option, Some, None, Result, is_ok}
use Rattle.hb_edge.specs.Causes.{risen, HasCause}
use Rattle.hb_edge.specs.declared.fused.Fused.{Fused}

-- the next call fails
abbrev pub is_spent : Option ℕ → Bool
is_spent (Some n) = n == 0
is_spent None = false

-- the fuse one call later
abbrev pub burned : Option ℕ → Option ℕ
burned (Some n) = Some (n - 1)
burned None = None

-- the moment of the last call, made on the inner disk or not
abbrev pub last_of : {D : Type 0} → (D → ℕ) → Fused D → ℕ
last_of last fused = max (last fused.inner) fused.failed_at

-- its own failures and those of the inner disk
abbrev pub faults_of : {D : Type 0} → (D → ℕ) → Fused D → ℕ
faults_of faults fused = fused.failures + faults fused.inner

-- One call: where the fuse is spent, the call fails, counts one failure more and leaves the inner disk alone; any other
-- call fails only as the inner disk does.
pub record Burns {D T E : Type 0} (faults : D → ℕ) (old new : Fused D) (result : Result T E) : Type 0 where
  pub fuse : new.calls_left ≡ burned old.calls_left
  pub spent : is_spent old.calls_left ≡ true → (is_ok result ≡ false) × (new.inner ≡ old.inner) × (new.failures ≡ risen old.failures)
  pub made : is_spent old.calls_left ≡ false → (new.failures ≡ old.failures) × HasCause (faults old.inner) (faults new.inner) result
