-- Pieces, one after another.
use Rattle.std.proofs.Common.{◌≡◌, ℕ, ◌+◌, ◌<◌, List, ◌∷◌, ◌++◌, length, drop, get_or, sym, ap, ◌∙◌, append_assoc}
use Rattle.hb_types.specs.declared.value.Value.{Value}
use Rattle.hb_print.specs.Records.{field_text, value_text, further_fields}
use Rattle.hb_print.proofs.Pieces.{fields_go}

pub two : (out mid new a b : List ℕ) → mid ≡ out ++ a → new ≡ mid ++ b → new ≡ out ++ (a ++ b)
two out mid new a b m n = n ∙ ap (λ x. x ++ b) m ∙ append_assoc out a b

-- one field more, by what the loop has at its place
pub fields_at : (vs : List Value) (i : ℕ) (v : Value) → i < length vs → v ≡ get_or vs i v → further_fields (drop i vs) ≡ (44 ∷ field_text (value_text v)) ++ further_fields (drop (i + 1) vs)
fields_at vs i v h e = fields_go vs i v h ∙ ap (λ x. (44 ∷ field_text (value_text x)) ++ further_fields (drop (i + 1) vs)) (sym e)
