-- Look-ups in the map of paths, whose order ties exactly the same paths.
use Rattle.std.proofs.Common.{◌≡◌, ℕ, Bool, true, false, cond, List, [], ◌∷◌, Some, None, Option, refl, ap, sym, ◌∙◌, unwrap_or, if◌then◌else◌, inl, inr, arith}
use Rattle.std.specs.Prelude.{◌&&◌, ◌==◌}
use Rattle.std.specs.Map.{lookup}
use Rattle.std.specs.BTreeMap.{is_at}
use Rattle.std.specs.Ordering.{is_eq, ordering_then, nat_cmp, int_cmp}
use Rattle.std.specs.declared.cmp.Ordering.{Ordering}
use Rattle.std.specs.declared.cmp.Ordering.TheVariants.{Less, Equal, Greater}
use Rattle.std.proofs.lemmas.Bool.{eq-eqb, eqb-true, and_parts, true≢false, cases_order, ne_eqb, and_from, cases_Bool}
use Rattle.std.specs.Cmp.{nat_cmp_is}
use Rattle.hb_types.specs.declared.lock.Holder.{Holder}
use Rattle.hb_types.specs.declared.places.Path.{Path}
use Rattle.hb_types.specs.declared.places.Path.TheVariants.{Whole, Group, Key}
use Rattle.hb_types.specs.declared.places.Place.{Place}
use Rattle.hb_types.specs.declared.places.Space.{Space}
use Rattle.hb_types.specs.Places.{same_space, same_place, same_path}
use Rattle.hb_types.proofs.SamePlace.{same_space-eq, same_place-eq, same_space-refl, same_place-refl}
use Rattle.hb_types.specs.contracts.places.PathOrd.TheImpl as path_ord
use Rattle.hb_types.specs.declared.names.Tx.{Tx}
use Rattle.hb_locks.specs.Locks.{Locks, holders_at, without}

-- the derived order
abbrev pub order : Path → Path → Ordering
order = (path_ord.ghosts).cmp

then_is : (a b : Ordering) → is_eq (ordering_then a b) ≡ (is_eq a && is_eq b)
then_is Less b = refl
then_is Equal b = refl
then_is Greater b = refl

pub nat_is : (x y : ℕ) → is_eq (nat_cmp x y) ≡ (x == y)
nat_is x y = elim (cases_order x y) [
  | inl same ↦ ap is_eq (sym (nat_cmp_is x y Equal same)) ∙ sym (eq-eqb x y same)
  | inr other ↦ elim other [
    | inl less ↦ ap is_eq (sym (nat_cmp_is x y Less less)) ∙ sym (ne_eqb x y (λ e. omega arith))
    | inr more ↦ ap is_eq (sym (nat_cmp_is x y Greater more)) ∙ sym (ne_eqb x y (λ e. omega arith))
  ]
]

both : (a b : Bool) (x y : Bool) → a ≡ x → b ≡ y → (a && b) ≡ (x && y)
both a b x y e f = ap (λ t. t && b) e ∙ ap (λ t. x && t) f

space_is : (s t : Space) → is_eq (ordering_then (nat_cmp s.area t.area) (nat_cmp s.table t.table)) ≡ same_space s t
space_is s t = then_is (nat_cmp s.area t.area) (nat_cmp s.table t.table) ∙ both _ _ _ _ (nat_is s.area t.area) (nat_is s.table t.table)

place_is : (p q : Place) → is_eq (ordering_then (ordering_then (nat_cmp p.space.area q.space.area) (nat_cmp p.space.table q.space.table)) (ordering_then (nat_cmp p.group q.group) (int_cmp p.key q.key))) ≡ same_place p q
place_is p q =
    then_is _ (ordering_then (nat_cmp p.group q.group) (int_cmp p.key q.key))
    ∙ both _ _ _ _ (space_is p.space q.space)
    (then_is (nat_cmp p.group q.group) (int_cmp p.key q.key) ∙ both _ _ _ _ (nat_is p.group q.group) refl)

-- paths tie exactly where they are the same
pub order_is : (p q : Path) → is_at (order p) q ≡ same_path p q
order_is (Whole s) (Whole t) = space_is s t
order_is (Group s g) (Group t h) =
    then_is (ordering_then (nat_cmp s.area t.area) (nat_cmp s.table t.table)) (nat_cmp g h)
    ∙ both _ _ _ _ (space_is s t) (nat_is g h)
order_is (Key p) (Key q) = place_is p q
order_is (Whole s) (Group t h) = refl
order_is (Whole s) (Key q) = refl
order_is (Group s g) (Whole t) = refl
order_is (Group s g) (Key q) = refl
order_is (Key p) (Whole t) = refl
order_is (Key p) (Group t h) = refl

pub same_path-eq : (p q : Path) → same_path p q ≡ true → p ≡ q
same_path-eq (Whole s) (Whole t) e = ap Whole (same_space-eq s t e)
same_path-eq (Group s g) (Group t h) e =
    let parts = and_parts (same_space s t) (g == h) e in
    ap (λ u. Group u g) (same_space-eq s t parts.0) ∙ ap (Group t) (eqb-true g h parts.1)
same_path-eq (Key p) (Key q) e = ap Key (same_place-eq p q e)
same_path-eq (Whole s) (Group t h) e = absurd (true≢false (sym e))
same_path-eq (Whole s) (Key q) e = absurd (true≢false (sym e))
same_path-eq (Group s g) (Whole t) e = absurd (true≢false (sym e))
same_path-eq (Group s g) (Key q) e = absurd (true≢false (sym e))
same_path-eq (Key p) (Whole t) e = absurd (true≢false (sym e))
same_path-eq (Key p) (Group t h) e = absurd (true≢false (sym e))

pub same_path-refl : (p : Path) → same_path p p ≡ true
same_path-refl (Whole s) = same_space-refl s
same_path-refl (Group s g) = and_from _ _ (same_space-refl s) (eq-eqb g g refl)
same_path-refl (Key p) = same_place-refl p

-- what a map has at a path
pub lookup_is : {X : Type 0} (es : List (Path × X)) (q : Path) → lookup (is_at (order q)) es ≡ lookup (same_path q) es
lookup_is [] q = refl
lookup_is (e ∷ es) q =
    ap (λ t. cond t (Some e.1) (lookup (is_at (order q)) es)) (order_is q e.0)
    ∙ ap (cond (same_path q e.0) (Some e.1)) (lookup_is es q)

pub holders_is : (locks : Locks) (q : Path) (found : Option (List Holder)) → found ≡ lookup (is_at (order q)) locks → unwrap_or found [] ≡ holders_at locks q
holders_is locks q found e = ap (λ o. unwrap_or o []) (e ∙ lookup_is locks q)

-- a map that differs at one path
pub written : (old new : Locks) (path : Path) (f : List Holder → List Holder) (found : Option (List Holder)) → unwrap_or found [] ≡ f (holders_at old path) → (q : Path) → lookup (is_at (order q)) new ≡ cond (is_at (order path) q) found (lookup (is_at (order q)) old) → holders_at new q ≡ (if same_path path q then f (holders_at old q) else holders_at old q)
written old new path f found value q e =
    sym (holders_is new q _ refl) ∙ ap (λ o. unwrap_or o []) e ∙ by (is_at (order path) q) refl
  where
    by : (b : Bool) → is_at (order path) q ≡ b → unwrap_or (cond (is_at (order path) q) found (lookup (is_at (order q)) old)) [] ≡ (if same_path path q then f (holders_at old q) else holders_at old q)
    by true here =
        let same : same_path path q ≡ true = sym (order_is path q) ∙ here in
        ap (λ t. unwrap_or (cond t found (lookup (is_at (order q)) old)) []) here ∙ value
        ∙ ap (λ p. f (holders_at old p)) (same_path-eq path q same)
        ∙ sym (ap (λ t. if t then f (holders_at old q) else holders_at old q) same)
    by false there =
        let other : same_path path q ≡ false = sym (order_is path q) ∙ there in
        ap (λ t. unwrap_or (cond t found (lookup (is_at (order q)) old)) []) there ∙ holders_is old q _ refl
        ∙ sym (ap (λ t. if t then f (holders_at old q) else holders_at old q) other)

-- a path that is not in the map has no holders
pub absent : (locks : Locks) (path : Path) (tx : Tx) → None ≡ lookup (is_at (order path)) locks → (q : Path) → holders_at locks q ≡ (if same_path path q then without tx (holders_at locks q) else holders_at locks q)
absent locks path tx e q = elim (cases_Bool (same_path path q)) [
  | inl here ↦
      let nobody : holders_at locks q ≡ [] = ap (holders_at locks) (sym (same_path-eq path q here)) ∙ sym (holders_is locks path None e) in
      nobody ∙ sym (ap (without tx) nobody) ∙ sym (ap (λ t. if t then without tx (holders_at locks q) else holders_at locks q) here)
  | inr there ↦ sym (ap (λ t. if t then without tx (holders_at locks q) else holders_at locks q) there)
]

-- a path with nobody left may go
pub left : (old mid new : Locks) (path : Path) (tx : Tx) → ((q : Path) → holders_at mid q ≡ (if same_path path q then without tx (holders_at old q) else holders_at old q)) → holders_at mid path ≡ [] → ((q : Path) → holders_at new q ≡ (if same_path path q then [] else holders_at mid q)) → (q : Path) → holders_at new q ≡ (if same_path path q then without tx (holders_at old q) else holders_at old q)
left old mid new path tx before nobody after q = elim (cases_Bool (same_path path q)) [
  | inl here ↦
      after q ∙ ap (λ t. if t then [] else holders_at mid q) here ∙ sym nobody ∙ ap (holders_at mid) (same_path-eq path q here) ∙ before q
  | inr there ↦ after q ∙ ap (λ t. if t then [] else holders_at mid q) there ∙ before q
]
