-- The order of places, by which a map of places is searched.
use Rattle.std.proofs.Common.{◌≡◌, ℕ, Bool, true, false, cond, [], ◌∷◌, Some, refl, ap, sym, ◌∙◌, subst, inl, inr, arith}
use Rattle.std.specs.Prelude.{◌&&◌, ◌==◌}
use Rattle.std.specs.Map.{lookup}
use Rattle.std.specs.BTreeMap.{is_at}
use Rattle.std.specs.Cmp.{nat_cmp_is}
use Rattle.std.specs.Ordering.{is_eq, ordering_then, nat_cmp, int_cmp}
use Rattle.std.specs.declared.cmp.Ordering.{Ordering}
use Rattle.std.specs.declared.cmp.Ordering.TheVariants.{Less, Equal, Greater}
use Rattle.std.proofs.lemmas.Bool.{eq-eqb, cases_order, ne_eqb, true≢false}
use Rattle.hb_types.specs.declared.places.Place.{Place}
use Rattle.hb_types.specs.Places.{same_place}
use Rattle.hb_types.proofs.SamePlace.{same_place-eq, same_place-refl}
use Rattle.hb_types.specs.contracts.places.PlaceOrd.TheImpl as place_ord
use Rattle.hb_whole.specs.Slots.{Entries, slot_at}

-- the derived order
abbrev pub order : Place → Place → Ordering
order = (place_ord.ghosts).cmp

pub then_is : (a b : Ordering) → is_eq (ordering_then a b) ≡ (is_eq a && is_eq b)
then_is Less b = refl
then_is Equal b = refl
then_is Greater b = refl

pub nat_is : (x y : ℕ) → is_eq (nat_cmp x y) ≡ (x == y)
nat_is x y = elim (cases_order x y) [
  | inl same ↦ ap is_eq (sym (nat_cmp_is x y Equal same)) ∙ sym (eq-eqb x y same)
  | inr other ↦ elim other [
    | inl less ↦ ap is_eq (sym (nat_cmp_is x y Less less)) ∙ sym (ne_eqb x y (λ e. omega arith))
    | inr more ↦ ap is_eq (sym (nat_cmp_is x y Greater more)) ∙ sym (ne_eqb x y (λ e. omega arith))
  ]
]

both : (a b : Bool) (x y : Bool) → a ≡ x → b ≡ y → (a && b) ≡ (x && y)
both a b x y e f = ap (λ t. t && b) e ∙ ap (λ t. x && t) f

-- places tie exactly where they are the same
pub at_is : (p q : Place) → is_at (order p) q ≡ same_place p q
at_is p q =
    then_is (ordering_then (nat_cmp p.space.area q.space.area) (nat_cmp p.space.table q.space.table)) (ordering_then (nat_cmp p.group q.group) (int_cmp p.key q.key))
    ∙ both _ _ _ _ (then_is (nat_cmp p.space.area q.space.area) (nat_cmp p.space.table q.space.table) ∙ both _ _ _ _ (nat_is p.space.area q.space.area) (nat_is p.space.table q.space.table))
    (then_is (nat_cmp p.group q.group) (int_cmp p.key q.key) ∙ both _ _ _ _ (nat_is p.group q.group) refl)

same_flip_to : (p q : Place) → same_place p q ≡ true → same_place q p ≡ true
same_flip_to p q e = subst (λ (r : Place). same_place r p ≡ true) (same_place-eq p q e) (same_place-refl p)

pub same_flip : (p q : Place) → same_place p q ≡ same_place q p
same_flip p q = by (same_place p q) refl (same_place q p) refl
  where
    by : (a : Bool) → same_place p q ≡ a → (b : Bool) → same_place q p ≡ b → same_place p q ≡ same_place q p
    by true e true f = e ∙ sym f
    by false e false f = e ∙ sym f
    by true e false f = absurd (true≢false (sym (same_flip_to p q e) ∙ f))
    by false e true f = absurd (true≢false (sym (same_flip_to q p f) ∙ e))

-- what the map has at a place
pub slot_is : (es : Entries) (q : Place) → lookup (is_at (order q)) es ≡ slot_at es q
slot_is [] q = refl
slot_is (e ∷ es) q =
    ap (λ t. cond t (Some e.1) (lookup (is_at (order q)) es)) (at_is q e.0)
    ∙ ap (cond (same_place q e.0) (Some e.1)) (slot_is es q)
