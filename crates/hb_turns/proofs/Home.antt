-- Where no group of a table is Moving, each of its rows lies in the area of its group; and the decisions up to a number.
use Rattle.std.proofs.Common.{◌≡◌, ◌∙◌, ℕ, zero, suc, ◌+◌, ◌<◌, ◌≤◌, Bool, true, false, List, [], ◌∷◌, ◌++◌, Option, Some, None, ap, arith, inl, inr, refl, subst, sym}
use Rattle.std.specs.Prelude.{IsSome, IsTrue, nat_lt, not, slice_get}
use Rattle.std.specs.List.{list_any}
use Rattle.std.specs.Str.{bytes_eq}
use Rattle.std.specs.Ordering.{nat_cmp}
use Rattle.std.specs.declared.cmp.Ordering.TheVariants.{Less}
use Rattle.std.proofs.lemmas.Bool.{false≢true, lt-ltb, ltb-true}
use Rattle.std.proofs.lemmas.Cmp.{nat_cmp_total, on_total}
use Rattle.std.proofs.lemmas.Slice.Eq.{bytes_eq-Decides}
use Rattle.hb_types.specs.declared.entry.Entry.{Entry}
use Rattle.hb_types.specs.declared.entry.Entry.TheVariants.{At, Moving}
use Rattle.hb_types.specs.declared.places.Place.{Place}
use Rattle.hb_types.specs.Groups.{is_moving, route}
use Rattle.hb_types.specs.Lists.{Ascends, Each, IsIn}
use Rattle.hb_types.specs.Put.{lookup}
use Rattle.hb_types.proofs.Ascending.{Ascends-first, Ascends-tail, Each-of, Has-back, in_Each}
use Rattle.hb_types.proofs.PutLaws.{by_test}
use Rattle.hb_model.specs.declared.table.Table.{Table}
use Rattle.hb_model.specs.Answers.{rows_of}
use Rattle.hb_model.specs.Families.{Family}
use Rattle.hb_model.specs.State.{Spread, State, spread_named, table_named}
use Rattle.hb_model.specs.System.{Sys}
use Rattle.hb_model.specs.TableRows.{IsPlaced, TableRows}
use Rattle.hb_model.specs.Valid.{IsSpread}
use Rattle.hb_disks.specs.Balanced.{Balanced, IsHome}
use Rattle.hb_disks.specs.Redo.{Decided}
use Rattle.hb_disks.specs.Says.{below}
use Rattle.hb_planlaws.proofs.Named.{find_holds}
use Rattle.hb_planwrites.proofs.ListWrites.{is_in}
use Rattle.hb_whose.proofs.Parts.{none_some, some_is}
use Rattle.hb_whose.proofs.Told.{less_is}

-- ---- rows at home

-- of entries none of which is Moving, each is at one area
none_moving : (es : List Entry) (k : ℕ) (e : Entry) → list_any is_moving es ≡ false → slice_get es k ≡ Some e → is_moving e ≡ false
none_moving [] k e n h = absurd (none_some e h)
none_moving (x ∷ xs) zero e n h = by_test (is_moving x) (λ t. absurd (false≢true (sym (rw t at n)))) (λ f. subst (λ z. is_moving z ≡ false) (some_is x e h) f)
none_moving (x ∷ xs) (suc k) e n h = by_test (is_moving x) (λ t. absurd (false≢true (sym (rw t at n)))) (λ f. none_moving xs k e (rw f at n) h)

only_area : (e : Entry) (area : ℕ) → is_moving e ≡ false → IsIn area (route e) → e ≡ At area
only_area (At a) area n (inl q) = ap At q
only_area (At a) area n (inr h) = absurd h
only_area (Moving a b) area n i = absurd (false≢true (sym n))

home : (family : Family) (t : Table) (p : Spread) → TableRows family t p → list_any is_moving p.entries ≡ false → (node : ℕ) (q : Place) (row : List ℕ) → 2 ≤ node → q.space.table ≡ p.number
    → lookup q (rows_of node family) ≡ Some row → IsHome p q
home family t p rows n node q row two table stands =
    let k : IsPlaced p node q = rows.placed node q row two table stands in
    k.area.1 ∙ ap (λ z. Some z) (only_area k.area.0 q.space.area (none_moving p.entries q.group k.area.0 n k.area.1) (is_in q.space.area k.area.0 k.area.2))

of_option : {A : Type 0} (o : Option A) → IsSome o → (x : A) × (o ≡ Some x)
of_option None h = absurd (false≢true h)
of_option (Some x) h = (x, refl)

is_false : (b : Bool) → IsTrue (not b) → b ≡ false
is_false true h = absurd (false≢true h)
is_false false h = refl

-- a system's table with no Moving group is balanced
pub balanced_table : (back_ends : ℕ) (family : Family) (s : State) (table : List ℕ) (p : Spread) → Sys back_ends family s → spread_named s table ≡ Some p → IsTrue (not (list_any is_moving p.entries))
    → Balanced back_ends family table
balanced_table back_ends family s table p sys named settled =
    let its = find_holds (λ (q : Spread). bytes_eq q.name table) s.layout.spreads p named in
    let is : IsSpread s p = in_Each (IsSpread s) p s.layout.spreads its.1 sys.state.spreads in
    let t = of_option (table_named s p.name) is.of_table in
    let same : p.name ≡ table = (bytes_eq-Decides p.name table).0 its.0 in
    let rows : TableRows family t.0 p = sys.tables p.name t.0 p t.1 (ap (λ n. spread_named s n) same ∙ named) in
    record {
      state = s;
      system = sys;
      spread = p;
      named = named;
      balanced = record { settled = settled; home = home family t.0 p rows (is_false (list_any is_moving p.entries) settled) };
    }

-- ---- the decisions up to one

module _ (d : Decided) where
  under : (x : ℕ) → x < d.number + 1 → nat_lt x (d.number + 1) ≡ true
  under x lt = lt-ltb x (d.number + 1) lt

  over : (x : ℕ) → d.number < x → nat_lt x (d.number + 1) ≡ false
  over x lt = by_test (nat_lt x (d.number + 1)) (λ t. absurd (clash (ltb-true x (d.number + 1) t))) (λ f. f)
    where
      clash : x < d.number + 1 → ⊥
      clash le = omega (arith, lt, le)

  none_over : (xs : List Decided) → Each (λ x. d.number < x.number) xs → below (d.number + 1) xs ≡ []
  none_over [] e = refl
  none_over (x ∷ xs) e = let f = over x.number e.0 in rw f (none_over xs e.1)

  pub below_with : (front back : List Decided) → Ascends (λ a b. nat_cmp a.number b.number) (front ++ d ∷ back) → below (d.number + 1) (front ++ d ∷ back) ≡ front ++ d ∷ []
  below_with [] back a =
      let t = under d.number (omega arith) in
      let above = Each-of (λ (y : Decided). nat_cmp d.number y.number ≡ Less) (λ y. d.number < y.number) back (λ y h. less_is d.number y.number h)
      (Ascends-first (λ a b. nat_cmp a.number b.number) (on_total (λ (z : Decided). z.number) nat_cmp_total) d back a) in
      rw t (ap (λ l. d ∷ l) (none_over back above))
  below_with (x ∷ xs) back a =
      let lt : x.number < d.number = less_is x.number d.number (in_Each (λ y. nat_cmp x.number y.number ≡ Less) d (xs ++ d ∷ back) (Has-back (λ y. y ≡ d) xs (d ∷ back) (inl refl))
      (Ascends-first (λ a b. nat_cmp a.number b.number) (on_total (λ (z : Decided). z.number) nat_cmp_total) x (xs ++ d ∷ back) a)) in
      let t = under x.number (omega (arith, lt)) in
      rw t (ap (λ l. x ∷ l) (below_with xs back (Ascends-tail (λ a b. nat_cmp a.number b.number) (on_total (λ (z : Decided). z.number) nat_cmp_total) x (xs ++ d ∷ back) a)))
