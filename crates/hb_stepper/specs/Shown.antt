-- At most one line.
use Rattle.std.specs.Prelude.{List, [], ◌∷◌, Option, Some, None}
use Rattle.hb_model.specs.declared.line.Line.{Line}

abbrev pub listed : Option Line → List Line
listed None = []
listed (Some l) = l ∷ []
