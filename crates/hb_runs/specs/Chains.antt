-- Edges one behind another.
use Rattle.std.specs.Prelude.{◌≡◌, List, [], ◌∷◌, ⊤}
use Rattle.hb_types.specs.declared.answer.Edge.{Edge}

abbrev pub Follows : Edge → Edge → Type 0
Follows e f = e.holder ≡ f.waiter

abbrev pub IsChain : List Edge → Type 0
IsChain [] = ⊤
IsChain (e ∷ []) = ⊤
IsChain (e ∷ f ∷ es) = Follows e f × IsChain (f ∷ es)
