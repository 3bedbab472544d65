-- Reading from left to right: the value at the front and the bytes behind it, or how many bytes are left where no spelling goes on.
use Rattle.std.specs.Prelude.{◌≡◌, ◌⊎◌, ◌≤◌, ℕ, zero, suc, ◌+◌, ◌-◌, ◌*◌, ◌/◌, ◌%◌, Bool, nat_lt, nat_le, ◌&&◌, if◌then◌else◌, List, [], ◌∷◌, length, take, drop, Result, Ok, Err}
use Rattle.hb_codec.specs.declared.fault.CodecFault.{CodecFault}
use Rattle.hb_codec.specs.declared.fault.CodecFault.TheVariants as codec
use Rattle.hb_codec.specs.declared.fault.ReadFault.{ReadFault}
use Rattle.hb_codec.specs.declared.fault.ReadFault.TheVariants as fault

infixl 10 ◌>>=◌
abbrev pub ◌>>=◌ : {A B : Type 0} → Result A ℕ → (A → Result B ℕ) → Result B ℕ
(Ok x) >>= f = f x
(Err left) >>= f = Err left

-- what a function returned, seen by view, is what reading gives, unless memory ran out
abbrev pub Fails : {Y : Type 0} → ReadFault → Result Y ℕ → Type 0
Fails fault.NoMemory read = Unit {0}
Fails (fault.Left n) read = read ≡ Err n

abbrev pub Gives : {X Y : Type 0} → (X → Y) → Result X ReadFault → Result Y ℕ → Type 0
Gives view (Ok x) read = read ≡ Ok (view x)
Gives view (Err e) read = Fails e read

-- a byte that meets a test
abbrev pub byte_in : (ℕ → Bool) → List ℕ → Result (ℕ × List ℕ) ℕ
byte_in test [] = Err 0
byte_in test (b ∷ bytes) = if test b then Ok (b, bytes) else Err (length bytes + 1)

-- so many bytes
abbrev pub exactly_in : ℕ → List ℕ → Result (List ℕ × List ℕ) ℕ
exactly_in n bytes = if nat_le n (length bytes) then Ok (take n bytes, drop n bytes) else Err 0

-- a digit as it is written; the highest may be turned by 128, so that signed numbers read in their order
abbrev pub digit : ℕ → ℕ → ℕ → ℕ
digit turn zero b = (b + turn) % 256
digit turn (suc width) b = b

-- the least and the most that may stand above a lowest digit
abbrev pub least_above : ℕ → ℕ → ℕ
least_above low d = (low + 255 - d) / 256

abbrev pub most_above : ℕ → ℕ → ℕ
most_above high d = (high - d) / 256

abbrev pub digit_fits : ℕ → ℕ → ℕ → Bool
digit_fits low high d = nat_le d high && nat_le (least_above low d) (most_above high d)

abbrev pub fits_at : ℕ → ℕ → ℕ → ℕ → ℕ → Bool
fits_at turn width low high b = nat_lt b 256 && digit_fits low high (digit turn width b)

-- a number between two others, in so many bytes, the lowest first
unfoldable pub number_in : ℕ → ℕ → ℕ → ℕ → List ℕ → Result (ℕ × List ℕ) ℕ
number_in turn zero low high bytes = Ok (0, bytes)
number_in turn (suc width) low high bytes = do
  b ← byte_in (fits_at turn width low high) bytes
  n ← number_in turn width (least_above low (digit turn width b.0)) (most_above high (digit turn width b.0)) b.1
  Ok (digit turn width b.0 + 256 * n.0, n.1)

-- so many items, each read by what those before it leave
unfoldable pub many_in : {S X : Type 0} → (ℕ → S → List ℕ → Result (X × List ℕ) ℕ) → (ℕ → S → X → S) → ℕ → S → List ℕ → Result (List X × List ℕ) ℕ
many_in step next zero state bytes = Ok ([], bytes)
many_in step next (suc n) state bytes = do
  first ← step n state bytes
  others ← many_in step next n (next n state first.0) first.1
  Ok (first.0 ∷ others.0, others.1)

-- what stands behind what was read
abbrev pub behind : {X : Type 0} → Result (X × List ℕ) ℕ → Result (List ℕ) ℕ
behind read = read >>= λ x. Ok x.1

-- what reading tells of the whole of the bytes
abbrev pub Tells : {X : Type 0} → (List ℕ → Result (X × List ℕ) ℕ) → List ℕ → Result X CodecFault → Type 0
Tells read bytes (Ok x) = (rest : List ℕ) × (read bytes ≡ Ok (x, rest)) × (length rest ≡ 0)
Tells read bytes (Err codec.NoMemory) = Unit {0}
Tells {X} read bytes (Err (codec.NotARecord place)) = ((left : ℕ) × (read bytes ≡ Err left) × (place ≡ length bytes - left)) ⊎ ((x : X) × (rest : List ℕ) × (read bytes ≡ Ok (x, rest)) × (1 ≤ length rest) × (place ≡ length bytes - length rest))

-- what reading tells of a front of the bytes, with its length
abbrev pub TellsFront : {X : Type 0} → (List ℕ → Result (X × List ℕ) ℕ) → List ℕ → Result (X × ℕ) CodecFault → Type 0
TellsFront read bytes (Ok found) = (rest : List ℕ) × (read bytes ≡ Ok (found.0, rest)) × (found.1 ≡ length bytes - length rest)
TellsFront read bytes (Err codec.NoMemory) = Unit {0}
TellsFront read bytes (Err (codec.NotARecord place)) = (left : ℕ) × (read bytes ≡ Err left) × (place ≡ length bytes - left)
