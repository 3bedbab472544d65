-- Signed numbers as bytes.
use Rattle.std.proofs.Common.{ℕ, ◌<◌, arith}
use Rattle.std.specs.Prelude.{ℤ, pos, negsuc, IsTrue}
use Rattle.std.specs.Int.{w32, cast_signed, cast_unsigned}
use Rattle.std.specs.Int.RustNames.{FitsSigned}
use Rattle.std.proofs.lemmas.Int.{ints}
use Rattle.std.proofs.Math.Facts.{sfits_to_z}
use Rattle.hb_types.specs.Numbers.{is_integer}

-- INTEGER is what fits 32 bits
pub integer_fits_signed : (z : ℤ) → IsTrue (is_integer z) → FitsSigned w32 z
integer_fits_signed (pos n) t = record { sfits = grind (arith, ints) }
integer_fits_signed (negsuc n) t = record { sfits = grind (arith, ints) }

pub unsigned_small : (z : ℤ) → IsTrue (is_integer z) → cast_unsigned w32 z < 4294967296
unsigned_small (pos n) t = let f = integer_fits_signed (pos n) t in omega (arith, f.sfits)
unsigned_small (negsuc n) t = let f = integer_fits_signed (negsuc n) t in omega (arith, f.sfits)

fits_is_integer : (z : ℤ) → FitsSigned w32 z → IsTrue (is_integer z)
fits_is_integer (pos n) f = let g = f.sfits in grind (arith, ints)
fits_is_integer (negsuc n) f = let g = f.sfits in grind (arith, ints)

pub signed_is_integer : (n : ℕ) → n < 4294967296 → IsTrue (is_integer (cast_signed w32 n))
signed_is_integer n lt = fits_is_integer (cast_signed w32 n) (sfits_to_z (record { fits = lt }))
