-- What is taken from a source, and what is put into a sink.
use Rattle.std.specs.Prelude.{◌≡◌, ℕ, ◌<◌, List, [], ◌++◌, length, take, Option, Result, MatchResult, IfSome}
use Rattle.std.specs.Option.{option_map}

-- the bytes that are told, and then these
abbrev pub with_end : List ℕ → Option (List ℕ) → Option (List ℕ)
with_end bytes told = option_map (λ xs. xs ++ bytes) told

-- these bytes, and then the bytes that are told
abbrev pub with_front : List ℕ → Option (List ℕ) → Option (List ℕ)
with_front bytes told = option_map (λ xs. bytes ++ xs) told

-- some front of the piece was put
abbrev pub PutsPart : Option (List ℕ) → Option (List ℕ) → List ℕ → Type 0
PutsPart old new bytes = (n : ℕ) × (new ≡ with_end (take n bytes) old)

-- the n bytes that were given stood in front of what is left now; none is given only at the end or where there was no room
abbrev pub TakesFront : {E : Type 0} → Option (List ℕ) → Option (List ℕ) → Result ℕ E → List ℕ → Type 0
TakesFront old new result into =
    MatchResult result (λ n. (old ≡ with_front (take n into) new) × (n ≡ 0 → 0 < length into → IfSome new (λ rest. rest ≡ []))) (λ _. new ≡ old)
