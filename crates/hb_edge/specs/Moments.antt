-- The moments of a clock.
use Rattle.std.specs.Prelude.{ℕ, ◌+◌, ◌^◌, min, max}

-- the moment after one call: it stands at 2 ^ 127 (said by max, so that it never falls can be derived)
abbrev pub tick : ℕ → ℕ
tick moment = max moment (min (moment + 1) (2 ^ 127))
