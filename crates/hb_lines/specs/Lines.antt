-- The lines of a script: they end at a line feed or at the input's end, and a carriage return before that is dropped.
use Rattle.std.specs.Prelude.{◌≡◌, ℕ, List, [], ◌∷◌, if◌then◌else◌, ◌==◌, map, codes, refl}

-- a byte in front of the first part
abbrev pub onto_first : ℕ → List (List ℕ) → List (List ℕ)
onto_first b [] = (b ∷ []) ∷ []
onto_first b (part ∷ parts) = (b ∷ part) ∷ parts

-- the parts that end at a line feed or at the input's end
unfoldable pub parts_of : List ℕ → List (List ℕ)
parts_of [] = []
parts_of (b ∷ bytes) = if b == 10 then [] ∷ parts_of bytes else onto_first b (parts_of bytes)

-- without the carriage return at the end
unfoldable pub without_return : List ℕ → List ℕ
without_return [] = []
without_return (b ∷ []) = if b == 13 then [] else b ∷ []
without_return (b ∷ c ∷ bytes) = b ∷ without_return (c ∷ bytes)

-- the lines of an input
abbrev pub lines_of : List ℕ → List (List ℕ)
lines_of input = map without_return (parts_of input)

lines_of-none : lines_of [] ≡ []
unfolding parts_of without_return
lines_of-none = refl

lines_of-ends : lines_of (codes "a\n\nb\r\nc\r") ≡ codes "a" ∷ [] ∷ codes "b" ∷ codes "c" ∷ []
unfolding parts_of without_return
lines_of-ends = refl
