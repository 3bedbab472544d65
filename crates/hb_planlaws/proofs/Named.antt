-- A table that is there has a spread.
use Rattle.std.proofs.Common.{◌≡◌, inl, inr, ℕ, suc, ◌≤◌, List, [], ◌∷◌, length, map, Option, Some, None, Bool, true, false, not, ◌||◌, refl, subst, sym, ap, ◌∙◌, arith}
use Rattle.std.specs.Prelude.{find, IsTrue, IsSome}
use Rattle.std.specs.List.{list_any}
use Rattle.std.specs.Str.{bytes_eq}
use Rattle.std.proofs.lemmas.Bool.{false≢true}
use Rattle.std.proofs.lemmas.Slice.Eq.{bytes_eq-Decides}
use Rattle.hb_types.specs.Lists.{Each, IsIn, has_twins}
use Rattle.hb_types.proofs.PutLaws.{by_test}
use Rattle.hb_model.specs.declared.table.Table.{Table}
use Rattle.hb_model.specs.State.{State, Spread, table_named, spread_named}
use Rattle.hb_model.specs.Valid.{IsState, IsSpread}
use Rattle.hb_planlaws.proofs.Pigeons.{Apart, all_met}

none_some : {A : Type 0} (x : A) → None ≡ Some x → ⊥
none_some x h = cc

some_of : {A : Type 0} (x y : A) → Some x ≡ Some y → x ≡ y
some_of x y h = cc

-- what is found passes the test
pub find_holds : {A : Type 0} (p : A → Bool) (xs : List A) (x : A) → find p xs ≡ Some x → (p x ≡ true) × IsIn x xs
find_holds p [] x h = absurd (none_some x h)
find_holds {A} p (z ∷ zs) x h =
    by_test (p z)
    (λ t. let k : Some z ≡ Some x = rw t at h in let e : z ≡ x = some_of z x k in (subst (λ (w : A). p w ≡ true) e t, inl e))
    (λ f. let k : find p zs ≡ Some x = rw f at h in let r = find_holds p zs x k in (r.0, inr r.1))

-- what passes the test is found, or another before it
pub finds : {A : Type 0} (p : A → Bool) (xs : List A) (x : A) → IsIn x xs → p x ≡ true → (y : A) × (find p xs ≡ Some y)
finds p [] x i t = absurd i
finds {A} p (z ∷ zs) x (inl e) t = let h : p z ≡ true = subst (λ (w : A). p w ≡ true) (sym e) t in (z, rw h refl)
finds p (z ∷ zs) x (inr i) t = by_test (p z) (λ h. (z, rw h refl)) (λ f. let r = finds p zs x i t in (r.0, rw f r.1))

absorb : (b a y z : Bool) → ((b || a) || (y || z)) ≡ (b || ((a || z) || (y || z)))
absorb true a y z = refl
absorb false true y z = refl
absorb false false true true = refl
absorb false false true false = refl
absorb false false false true = refl
absorb false false false false = refl

step : (b a l y z : Bool) → (a || z) ≡ (l || z) → ((b || a) || (y || z)) ≡ ((b || l) || (y || z))
step b a l y z same = absorb b a y z ∙ ap (λ (x : Bool). b || (x || (y || z))) same ∙ sym (absorb b l y z)

pub all_twins_more : {A : Type 0} (alike : A → A → Bool) (x : A) (xs : List A) → has_twins alike (x ∷ xs) ≡ (list_any (alike x) xs || has_twins alike xs)
all_twins_more alike x [] = refl
all_twins_more alike x (y ∷ ys) = step (alike x y) _ (list_any (alike x) ys) _ (has_twins alike ys) (all_twins_more alike x ys)

module _ {A : Type 0} (name_of : A → List ℕ) where
  pub names_in : (xs : List A) (x : A) → IsIn x xs → IsIn (name_of x) (map name_of xs)
  names_in [] x h = absurd h
  names_in (y ∷ ys) x (inl e) = inl (ap name_of e)
  names_in (y ∷ ys) x (inr h) = inr (names_in ys x h)

  pub named_in : (xs : List A) (name : List ℕ) → IsIn name (map name_of xs) → (x : A) × IsIn x xs × (name_of x ≡ name)
  named_in [] name h = absurd h
  named_in (y ∷ ys) name (inl e) = (y, inl refl, e)
  named_in (y ∷ ys) name (inr h) = let r = named_in ys name h in (r.0, inr r.1, r.2)

  twins_more : (x : A) (xs : List A) → has_twins (λ a b. bytes_eq (name_of a) (name_of b)) (x ∷ xs) ≡ (list_any (λ b. bytes_eq (name_of x) (name_of b)) xs || has_twins (λ a b. bytes_eq (name_of a) (name_of b)) xs)
  twins_more x xs = all_twins_more (λ a b. bytes_eq (name_of a) (name_of b)) x xs

  neither : (a b : Bool) → (a || b) ≡ false → (a ≡ false) × (b ≡ false)
  neither true b e = cc
  neither false b e = (refl, e)

  unlike : (x : A) (xs : List A) → list_any (λ b. bytes_eq (name_of x) (name_of b)) xs ≡ false → Each (λ n. name_of x ≡ n → ⊥) (map name_of xs)
  unlike x [] e = tt
  unlike x (y ∷ ys) e =
      let n = neither (bytes_eq (name_of x) (name_of y)) (list_any (λ b. bytes_eq (name_of x) (name_of b)) ys) e in
      (λ h. false≢true (sym n.0 ∙ (bytes_eq-Decides (name_of x) (name_of y)).1 h), unlike x ys n.1)

  pub names_apart : (xs : List A) → has_twins (λ a b. bytes_eq (name_of a) (name_of b)) xs ≡ false → Apart (map name_of xs)
  names_apart [] e = tt
  names_apart (x ∷ xs) e =
      let n = neither (list_any (λ b. bytes_eq (name_of x) (name_of b)) xs) (has_twins (λ a b. bytes_eq (name_of a) (name_of b)) xs) (sym (twins_more x xs) ∙ e) in
      (unlike x xs n.0, names_apart xs n.1)

pub is_false : (b : Bool) → IsTrue (not b) → b ≡ false
is_false true h = absurd (false≢true h)
is_false false h = refl

length-names : {A : Type 0} (name_of : A → List ℕ) (xs : List A) → length (map name_of xs) ≡ length xs
length-names name_of [] = refl
length-names name_of (x ∷ xs) = ap (λ n. suc n) (length-names name_of xs)

of_option : {A : Type 0} (o : Option A) → IsSome o → (x : A) × (o ≡ Some x)
of_option None h = absurd (false≢true h)
of_option (Some x) h = (x, refl)

-- the name of each spread is that of a table
have_tables : (s : State) (spreads : List Spread) → Each (IsSpread s) spreads → Each (λ n. IsIn n (map (λ t. t.name) s.tables)) (map (λ t. t.name) spreads)
have_tables s [] each = tt
have_tables s (p ∷ ps) each =
    let t = of_option (table_named s p.name) each.0.of_table in
    let f = find_holds (λ (u : Table). bytes_eq u.name p.name) s.tables t.0 t.1 in
    (subst (λ n. IsIn n (map (λ (u : Table). u.name) s.tables)) ((bytes_eq-Decides t.0.name p.name).0 f.0) (names_in (λ (u : Table). u.name) s.tables t.0 f.1), have_tables s ps each.1)

pub spread_there : (back_ends : ℕ) (s : State) → IsState back_ends s → (name : List ℕ) (t : Table) → table_named s name ≡ Some t
    → (p : Spread) × (spread_named s name ≡ Some p)
spread_there back_ends s is name t h =
    let f = find_holds (λ (u : Table). bytes_eq u.name name) s.tables t h in
    let e : t.name ≡ name = (bytes_eq-Decides t.name name).0 f.0 in
    let few : length (map (λ (u : Table). u.name) s.tables) ≤ length (map (λ (p : Spread). p.name) s.layout.spreads) =
    omega (arith, length-names (λ (u : Table). u.name) s.tables, length-names (λ (p : Spread). p.name) s.layout.spreads, is.one_spread_each) in
    let m = all_met (map (λ (p : Spread). p.name) s.layout.spreads) (map (λ (u : Table). u.name) s.tables)
    (names_apart (λ (p : Spread). p.name) s.layout.spreads (is_false _ is.spread_names_differ)) (have_tables s s.layout.spreads is.spreads) few
    t.name (names_in (λ (u : Table). u.name) s.tables t f.1) in
    let p = named_in (λ (p : Spread). p.name) s.layout.spreads t.name m in
    finds (λ (q : Spread). bytes_eq q.name name) s.layout.spreads p.0 p.1 ((bytes_eq-Decides p.0.name name).1 (p.2 ∙ e))
