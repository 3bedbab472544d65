-- Lists that only grow.
use Rattle.std.specs.Prelude.{◌≡◌, List, ◌++◌}

-- what was there stands, with more behind it
abbrev pub Adds : {A : Type 0} → List A → List A → Type 0
Adds {A} old new = (added : List A) × (new ≡ old ++ added)
