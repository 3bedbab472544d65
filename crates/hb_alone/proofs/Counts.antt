-- The counts of locks of one transaction, in order: of accepted statements, of those granted, and of all statements.
use Rattle.std.proofs.Common.{◌≡◌, ℕ, ◌+◌, ◌≤◌, ◌<◌, Bool, true, false, refl, arith}
use Rattle.std.specs.Prelude.{IsTrue, if◌then◌else◌}
use Rattle.std.proofs.lemmas.Bool.{false≢true}
use Rattle.hb_model.specs.Needs.{most_locks}

pub record InOrder (accepted granted all : ℕ) : Type 0 where
  pub under : accepted ≤ granted
  pub over : granted ≤ all
  pub within : granted ≤ most_locks

-- the count of the accepted statements behind one more
abbrev pub accepted_behind : Bool → Bool → ℕ → ℕ → ℕ
accepted_behind full is_accepted accepted count = if full then accepted else (accepted + (if is_accepted then count else 0))

-- a statement that may be said to ask for too many, with the counts behind it
pub record Counted (full is_accepted : Bool) (accepted granted all grants count : ℕ) : Type 0 where
  pub must : most_locks < accepted + (if is_accepted then count else 0) → full ≡ true
  pub may : full ≡ true → most_locks < all + count
  pub behind : InOrder (accepted_behind full is_accepted accepted count) (granted + grants) (all + count)

pub counted : (full is_accepted : Bool) (accepted granted all grants count : ℕ) → InOrder accepted granted all → grants ≤ count → (full ≡ false → IsTrue is_accepted → grants ≡ count)
    → (full ≡ true → most_locks < granted + count) → granted + grants ≤ most_locks → Counted full is_accepted accepted granted all grants count
counted true is_accepted accepted granted all grants count o few exact rightly within = record {
  must = λ h. refl;
  may = λ e. let r : most_locks < granted + count = rightly e in omega arith;
  behind = record { under = omega arith; over = omega arith; within = within };
}
counted false true accepted granted all grants count o few exact rightly within =
    let same : grants ≡ count = exact refl refl in record {
      must = λ h. absurd (omega arith);
      may = λ e. absurd (false≢true e);
      behind = record { under = omega arith; over = omega arith; within = within };
    }
counted false false accepted granted all grants count o few exact rightly within = record {
  must = λ h. absurd (omega arith);
  may = λ e. absurd (false≢true e);
  behind = record { under = omega arith; over = omega arith; within = within };
}
