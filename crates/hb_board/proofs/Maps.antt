-- Maps of numbers, by the key, and lists of those that were entered.
use Rattle.std.proofs.Common.{◌≡◌, ◌≢◌, ℕ, refl, sym, ◌∙◌, true, false, arith, List, [], ◌∷◌}
use Rattle.std.specs.Prelude.{Option, Some, None, ◌==◌, find, option_map}
use Rattle.std.specs.List.{list_any}
use Rattle.std.specs.Ordering.{nat_cmp}
use Rattle.std.specs.BTreeMap.{BTreeMap, get, is_at, Updates}
use Rattle.std.proofs.lemmas.Bool.{ne_eqb, eq-eqb}
use Rattle.std.proofs.lemmas.Cmp.{ranked, by_ranked}
use Rattle.hb_types.specs.declared.names.Owner.{Owner}
use Rattle.hb_types.proofs.PutLaws.{by_test}

pub same_key : (k q : ℕ) → (k == q) ≡ is_at (nat_cmp k) q
same_key k q =
    by_ranked _ _ _ (nat_cmp k q) (ranked k q (nat_cmp k q) refl)
    (λ o lt. rw (o, ne_eqb k q (λ e. omega (arith, e, lt))) refl)
    (λ o e. rw o (eq-eqb k q e))
    (λ o gt. rw (o, ne_eqb k q (λ e. omega (arith, e, gt))) refl)

pub got_same : {X : Type 0} (old new : BTreeMap ℕ X) (k : ℕ) (v : X) → Updates nat_cmp old new k (Some v) → get nat_cmp new k ≡ Some v
got_same old new k v u = u.1

pub got_other : {X : Type 0} (old new : BTreeMap ℕ X) (k q : ℕ) (v : X) → k ≢ q → Updates nat_cmp old new k (Some v) → get nat_cmp new q ≡ get nat_cmp old q
got_other old new k q v ne u = u.2 q (sym (same_key k q) ∙ ne_eqb k q ne)

pub kept_at_key : {X : Type 0} (old new : BTreeMap ℕ X) (k q : ℕ) (v : Option X) → k ≢ q → Updates nat_cmp old new k v → get nat_cmp new q ≡ get nat_cmp old q
kept_at_key old new k q v ne u = u.2 q (sym (same_key k q) ∙ ne_eqb k q ne)

-- who was entered has an owner
pub has_owner : (entered : List (ℕ × Owner)) (tx : ℕ) (o : Owner) → option_map (λ e. e.1) (find (λ e. e.0 == tx) entered) ≡ Some o → list_any (λ e. e.0 == tx) entered ≡ true
has_owner [] tx o is = absurd (cc)
has_owner (e ∷ es) tx o is = by_test (e.0 == tx) (λ t. rw t refl) (λ f. rw f (has_owner es tx o (rw f at is)))

pub has_none : (entered : List (ℕ × Owner)) (tx : ℕ) → option_map (λ e. e.1) (find (λ e. e.0 == tx) entered) ≡ None → list_any (λ e. e.0 == tx) entered ≡ false
has_none [] tx is = refl
has_none (e ∷ es) tx is = by_test (e.0 == tx) (λ t. absurd (wrong t)) (λ f. rw f (has_none es tx (rw f at is)))
  where
    wrong : (e.0 == tx) ≡ true → ⊥
    wrong t = let some : Some e.1 ≡ None = rw t at is in cc
