-- Lists of names and of values are read.
use Rattle.std.proofs.Common.{◌≡◌, ℕ, inl, false, List, [], ◌∷◌, ◌++◌, Some, refl, sym, subst}
use Rattle.hb_types.specs.declared.value.Value.{Value}
use Rattle.hb_sqltoken.specs.declared.token.Token.{Token}
use Rattle.hb_sqltoken.specs.declared.token.Token.TheVariants as token
use Rattle.hb_sqltoken.specs.declared.token.Word.TheVariants as word
use Rattle.hb_sqlcond.specs.Runs.{here, next, Completes}
use Rattle.hb_sqlsteps.specs.declared.marks.Mark.TheVariants as mark
use Rattle.hb_sqlsteps.specs.declared.lists.Names.{Names}
use Rattle.hb_sqlsteps.specs.declared.lists.Names.TheVariants as names
use Rattle.hb_sqlsteps.specs.declared.lists.Values.{Values}
use Rattle.hb_sqlsteps.specs.declared.lists.Values.TheVariants as values
use Rattle.hb_sqlparse.specs.Listed.{Listed, IsOneName, one_name}
use Rattle.hb_sqlparse.specs.Rows.{IsLiteral, positive, opposite, text}
use Rattle.hb_sqlsteps.specs.Marks.{is_word, is_mark}
use Rattle.hb_sqlsteps.specs.ListSteps.{step_names, whole_names, want_value, want_opposite, step_values, whole_values}
use Rattle.hb_sqlparse.proofs.Takes.{some_is, none_is, mark_back, name_back}
use Rattle.hb_sqlparse.proofs.Going.{ends_here, ends_next}
use Rattle.hb_sqlparse.proofs.Listing.{Meets, WantRest, HaveRest, ItemRest, item_want, go_comma, Item, reads_list}

-- ---- names

name_item : (xs : List (List ℕ)) (x : List ℕ) (s r : List Token) → IsOneName x s r → Item step_names whole_names names.Want xs x s r
name_item xs x s r one_name = record { state = names.Have (xs ++ x ∷ []); leads = next refl here; is = refl; goes_on = refl }

abbrev names_rest : Names → List (List ℕ) → List Token → List Token → Type 0
names_rest (names.Want xs) zs s r = WantRest IsOneName xs zs s r
names_rest (names.Have xs) zs s r = HaveRest IsOneName xs zs s r

names_back : (zs : List (List ℕ)) (r : List Token) (c : Names) (t : Token) (m : Names) (s : List Token) → step_names c t ≡ Some m → names_rest m zs s r → names_rest c zs (t ∷ s) r
names_back zs r (names.Want xs) t m s h =
    name_back (λ t m. names_rest m zs s r → names_rest (names.Want xs) zs (t ∷ s) r) t _ m h
    (λ n x. item_want IsOneName xs zs _ r (record { item = n; behind = s; is = one_name; have = x }))
names_back zs r (names.Have xs) t m s h =
    mark_back (λ t m. names_rest m zs s r → names_rest (names.Have xs) zs (t ∷ s) r) mark.Comma t _ m h (λ x. go_comma IsOneName xs zs s r x)

names_base : (c : Names) (zs : List (List ℕ)) (r : List Token) → whole_names c ≡ Some zs → names_rest c zs r r
names_base (names.Want xs) zs r h = absurd (none_is h)
names_base (names.Have xs) zs r h = inl (some_is h, refl)

names_end : (c : Names) → Completes step_names whole_names c
names_end (names.Have xs) = ends_here (names.Have xs) xs refl
names_end (names.Want xs) = ends_next (token.Name (97 ∷ [])) refl (ends_here (names.Have (xs ++ (97 ∷ []) ∷ [])) (xs ++ (97 ∷ []) ∷ []) refl)

pub reads_names : Meets (names.Want []) step_names whole_names (Listed IsOneName)
reads_names = reads_list IsOneName step_names whole_names names.Want name_item names_rest names_back names_base (λ zs s r x. x) names_end

-- names go on with a name or a comma alone
pub names_not_close : (c : Names) (t : Token) (m : Names) → step_names c t ≡ Some m → is_mark mark.Close t ≡ false
names_not_close (names.Want xs) t m h = name_back (λ t m. is_mark mark.Close t ≡ false) t _ m h (λ n. refl)
names_not_close (names.Have xs) t m h = mark_back (λ t m. is_mark mark.Close t ≡ false) mark.Comma t _ m h refl

pub names_not_from : (c : Names) (t : Token) (m : Names) → step_names c t ≡ Some m → is_word word.From t ≡ false
names_not_from (names.Want xs) t m h = name_back (λ t m. is_word word.From t ≡ false) t _ m h (λ n. refl)
names_not_from (names.Have xs) t m h = mark_back (λ t m. is_word word.From t ≡ false) mark.Comma t _ m h refl

-- ---- values

value_item : (xs : List Value) (x : Value) (s r : List Token) → IsLiteral x s r → Item step_values whole_values values.Want xs x s r
value_item xs x s r positive = record { state = values.Have (xs ++ x ∷ []); leads = next refl here; is = refl; goes_on = refl }
value_item xs x s r opposite = record { state = values.Have (xs ++ x ∷ []); leads = next refl (next refl here); is = refl; goes_on = refl }
value_item xs x s r text = record { state = values.Have (xs ++ x ∷ []); leads = next refl here; is = refl; goes_on = refl }

abbrev values_rest : Values → List Value → List Token → List Token → Type 0
values_rest (values.Want xs) zs s r = WantRest IsLiteral xs zs s r
values_rest (values.Minus xs) zs s r = ItemRest IsLiteral xs zs (token.Minus ∷ s) r
values_rest (values.Have xs) zs s r = HaveRest IsLiteral xs zs s r

of_want : (zs : List Value) (r : List Token) (xs : List Value) (t : Token) (m : Values) (s : List Token) → want_value xs t ≡ Some m → values_rest m zs s r → WantRest IsLiteral xs zs (t ∷ s) r
of_want zs r xs (token.Number n) m s h x =
    item_want IsLiteral xs zs _ r (record { item = _; behind = s; is = positive; have = subst (λ m. values_rest m zs s r) (sym (some_is h)) x })
of_want zs r xs (token.Text n) m s h x =
    item_want IsLiteral xs zs _ r (record { item = _; behind = s; is = text; have = subst (λ m. values_rest m zs s r) (sym (some_is h)) x })
of_want zs r xs token.Minus m s h x = item_want IsLiteral xs zs _ r (subst (λ m. values_rest m zs s r) (sym (some_is h)) x)
of_want zs r xs _ m s h x = absurd (none_is h)

of_opposite : (zs : List Value) (r : List Token) (xs : List Value) (t : Token) (m : Values) (s : List Token) → want_opposite xs t ≡ Some m → values_rest m zs s r
    → ItemRest IsLiteral xs zs (token.Minus ∷ t ∷ s) r
of_opposite zs r xs (token.Number n) m s h x = record { item = _; behind = s; is = opposite; have = subst (λ m. values_rest m zs s r) (sym (some_is h)) x }
of_opposite zs r xs _ m s h x = absurd (none_is h)

values_back : (zs : List Value) (r : List Token) (c : Values) (t : Token) (m : Values) (s : List Token) → step_values c t ≡ Some m → values_rest m zs s r → values_rest c zs (t ∷ s) r
values_back zs r (values.Want xs) t m s h x = of_want zs r xs t m s h x
values_back zs r (values.Minus xs) t m s h x = of_opposite zs r xs t m s h x
values_back zs r (values.Have xs) t m s h x =
    mark_back (λ t m. values_rest m zs s r → values_rest (values.Have xs) zs (t ∷ s) r) mark.Comma t _ m h (λ y. go_comma IsLiteral xs zs s r y) x

values_base : (c : Values) (zs : List Value) (r : List Token) → whole_values c ≡ Some zs → values_rest c zs r r
values_base (values.Want xs) zs r h = absurd (none_is h)
values_base (values.Minus xs) zs r h = absurd (none_is h)
values_base (values.Have xs) zs r h = inl (some_is h, refl)

values_end : (c : Values) → Completes step_values whole_values c
values_end (values.Have xs) = ends_here (values.Have xs) xs refl
values_end (values.Want xs) = ends_next (token.Number 1) refl (ends_here (values.Have _) _ refl)
values_end (values.Minus xs) = ends_next (token.Number 1) refl (ends_here (values.Have _) _ refl)

pub reads_values : Meets (values.Want []) step_values whole_values (Listed IsLiteral)
reads_values = reads_list IsLiteral step_values whole_values values.Want value_item values_rest values_back values_base (λ zs s r x. x) values_end

opposite_not_close : (xs : List Value) (t : Token) (m : Values) → want_opposite xs t ≡ Some m → is_mark mark.Close t ≡ false
opposite_not_close xs (token.Number n) m h = refl
opposite_not_close xs _ m h = absurd (none_is h)

value_not_close : (xs : List Value) (t : Token) (m : Values) → want_value xs t ≡ Some m → is_mark mark.Close t ≡ false
value_not_close xs token.Close m h = absurd (none_is h)
value_not_close xs _ m h = refl

pub values_not_close : (c : Values) (t : Token) (m : Values) → step_values c t ≡ Some m → is_mark mark.Close t ≡ false
values_not_close (values.Want xs) t m h = value_not_close xs t m h
values_not_close (values.Minus xs) t m h = opposite_not_close xs t m h
values_not_close (values.Have xs) t m h = mark_back (λ t m. is_mark mark.Close t ≡ false) mark.Comma t _ m h refl
