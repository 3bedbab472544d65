-- A row that is kept, if it suits its table.
use Rattle.std.specs.Prelude.{◌≡◌, ◌⊎◌, List, [], ◌∷◌, ◌++◌}
use Rattle.hb_model.specs.declared.table.Table.{Table}
use Rattle.hb_talk.specs.Plans.{Lying}
use Rattle.hb_endings.specs.Rows.{IsFit, Suits}

-- the row is fit and stands behind those before, or it doesn't suit
abbrev pub Keeps : Table → Lying → List Lying → List Lying → Type 0
Keeps t l old new = (IsFit t l × (new ≡ old ++ l ∷ [])) ⊎ ((Suits t l → ⊥) × (new ≡ old))
