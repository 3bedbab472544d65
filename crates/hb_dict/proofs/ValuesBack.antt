-- The bytes of a row give its values back.
use Rattle.std.proofs.Common.{◌≡◌, List, [], ◌∷◌, false, not, Some, refl, ◌∙◌, ap}
use Rattle.std.specs.Prelude.{ℕ}
use Rattle.std.specs.List.{AllByRecursion, list_any}
use Rattle.std.proofs.lemmas.List.Elements.{recursion_from_All}
use Rattle.hb_types.specs.declared.value.Value.{Value}
use Rattle.hb_types.specs.declared.value.Value.TheVariants.{Int, Text}
use Rattle.hb_types.specs.Rows.{HasBytes, IsRowOf, values_in}
use Rattle.hb_model.specs.Refusals.{is_outside}
use Rattle.hb_model.proofs.ValuesBack.{values_back as list_back}

value_inside : (v : Value) → HasBytes v → is_outside v ≡ false
value_inside (Int n) has = ap not has
value_inside (Text t) has = refl

all_inside : (vs : List Value) → AllByRecursion HasBytes vs → list_any is_outside vs ≡ false
all_inside [] all = refl
all_inside (v ∷ vs) all = rw (value_inside v all.0) (all_inside vs all.1)

pub values_back : (bytes : List ℕ) (vs : List Value) → IsRowOf bytes vs → values_in bytes ≡ Some vs
values_back bytes vs is = ap values_in is.spelled ∙ list_back vs (all_inside vs (recursion_from_All HasBytes vs is.values_fit.fit))
