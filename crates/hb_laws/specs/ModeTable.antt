-- The table of lock modes that go together, and what the least mode as strong as two is.
use Rattle.std.specs.Prelude.{◌≡◌, ◌==◌, ◌&&◌, ◌||◌, Bool, true, List, [], ◌∷◌}
use Rattle.std.specs.List.{list_any}
use Rattle.hb_types.specs.declared.lock.Mode.{Mode}
use Rattle.hb_types.specs.declared.lock.Mode.TheVariants.{IS, IX, S, SIX}
use Rattle.hb_types.specs.Modes.{covers}
use Rattle.hb_types.specs.Records.{mode_byte}

-- the pairs that go together
abbrev pub pairs : List (Mode × Mode)
pairs = (IS, IS) ∷ (IS, IX) ∷ (IS, S) ∷ (IS, SIX) ∷ (IX, IX) ∷ (S, S) ∷ []

abbrev pub same_mode : Mode → Mode → Bool
same_mode a b = mode_byte a == mode_byte b

-- whether the table has this pair, either way round
abbrev pub stands_beside : Mode → Mode → Bool
stands_beside a b = list_any (λ p. (same_mode a p.0 && same_mode b p.1) || (same_mode b p.0 && same_mode a p.1)) pairs

-- a mode is as strong as both, and each mode that is as strong as both is as strong as it
pub record IsLeast (a b m : Mode) : Type 0 where
  pub one : covers m a ≡ true
  pub other : covers m b ≡ true
  pub least : (c : Mode) → covers c a ≡ true → covers c b ≡ true → covers c m ≡ true
