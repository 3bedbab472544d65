-- What rows tell, one row after another.
use Rattle.std.proofs.Common.{◌≡◌, ℕ, ◌+◌, ◌<◌, List, [], ◌∷◌, ◌++◌, length, take, get_or, Option, Some, None, All, refl, ap, sym, ◌∙◌, subst}
use Rattle.std.specs.Prelude.{filter_map, option_to_list}
use Rattle.std.proofs.lemmas.List.{take_more}
use Rattle.std.proofs.lemmas.List.Elements.{filter_map-append}

one_told : {X A : Type 0} (f : X → Option A) (x : X) (o : Option A) → o ≡ f x → option_to_list o ≡ filter_map f (x ∷ [])
one_told {X} {A} f x o is = ap option_to_list is ∙ alone (f x)
  where
    alone : (o : Option A) → option_to_list o ≡ filter_map (λ (p : Option A). p) (o ∷ [])
    alone None = refl
    alone (Some a) = refl

-- one more row was read, behind those before it
pub read_more : {X A : Type 0} (tells : X → Type 0) (f : X → Option A) (rows : List X) (i : ℕ) (r : X) (o : Option A) (xs ys : List A)
    → r ≡ get_or rows i r → i < length rows → (tells r → o ≡ f r) → (All tells rows → xs ≡ filter_map f (take i rows)) → ys ≡ xs ++ option_to_list o
    → All tells rows → ys ≡ filter_map f (take (i + 1) rows)
read_more tells f rows i r o xs ys is lt told before put all =
    let tells_it : tells r = subst tells (sym is) (all i r lt) in
    put ∙ ap (λ l. l ++ option_to_list o) (before all) ∙ ap (λ l. filter_map f (take i rows) ++ l) (one_told f r o (told tells_it))
    ∙ sym (filter_map-append f (take i rows) (r ∷ [])) ∙ ap (λ x. filter_map f (take i rows ++ x ∷ [])) is ∙ ap (filter_map f) (sym (take_more rows i r lt))
