-- The places of the records of a log.
use Rattle.std.specs.Prelude.{ℕ, ◌+◌, List, [], ◌∷◌}
use Rattle.hb_types.specs.declared.change.LogItem.{LogItem}
use Rattle.hb_types.specs.Records.{record_length}

-- ---- places

-- the place behind the items of a log that begins at a place
abbrev pub end_behind : ℕ → List LogItem → ℕ
end_behind place [] = place
end_behind place (i ∷ is) = end_behind (place + record_length i) is
