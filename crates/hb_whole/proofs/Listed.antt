-- Rows under a path, and their keys.
use Rattle.std.proofs.Common.{◌≡◌, ◌⊎◌, inl, inr, ℕ, ◌≤◌, ◌<◌, List, [], ◌∷◌, ◌++◌, length, take, Option, refl, ap, sym, ◌∙◌, arith, append-nil, true}
use Rattle.std.specs.Prelude.{ℤ, ◌==◌}
use Rattle.std.specs.Ordering.{int_cmp, nat_cmp, ordering_then, MatchOrdering}
use Rattle.std.specs.declared.cmp.Ordering.{Ordering}
use Rattle.std.specs.declared.cmp.Ordering.TheVariants.{Less, Equal, Greater}
use Rattle.std.proofs.lemmas.Bool.{and_parts, eqb-true}
use Rattle.std.proofs.lemmas.Cmp.{ranked}
use Rattle.std.proofs.lemmas.List.{take_all, take_at}
use Rattle.hb_types.proofs.PutLaws.{by_test}
use Rattle.hb_types.proofs.SamePlace.{same_space-eq}
use Rattle.hb_types.proofs.Ascending.{Ascends-tail, Ascends-first}
use Rattle.hb_types.specs.declared.change.Stored.{Stored}
use Rattle.hb_types.specs.declared.places.Path.{Path}
use Rattle.hb_types.specs.declared.places.Path.TheVariants.{Group}
use Rattle.hb_types.specs.declared.places.Place.{Place}
use Rattle.hb_types.specs.declared.places.Space.{Space}
use Rattle.hb_types.specs.Lists.{Ascends, Each}
use Rattle.hb_types.specs.Places.{place_cmp, same_space, is_under}
use Rattle.hb_types.specs.Put.{rows_under}
use Rattle.hb_laws.specs.RowOrder.{AreAscending}
use Rattle.hb_laws.proofs.Places.{stored_total}
use Rattle.hb_store.specs.Meanings.{keys_of}
use Rattle.hb_whole.specs.declared.map.Slot.{Slot}
use Rattle.hb_whole.specs.Slots.{Entries, rows_of}
use Rattle.hb_whole.proofs.SlotRows.{by_row, cons_ascends}

pub rows_cons : (p : Place) (s : Slot) (es : Entries) → rows_of ((p, s) ∷ es) ≡ rows_of ((p, s) ∷ []) ++ rows_of es
rows_cons p s es = by_row p (λ (o : Option (List ℕ)). rows_of ((p, record { row = o; room = 0 }) ∷ es) ≡ rows_of ((p, record { row = o; room = 0 }) ∷ []) ++ rows_of es) s.row refl (λ row. refl)

pub keys_append : (xs ys : List Stored) → keys_of (xs ++ ys) ≡ keys_of xs ++ keys_of ys
keys_append [] ys = refl
keys_append (x ∷ xs) ys = ap (λ ks. x.place.key ∷ ks) (keys_append xs ys)

pub keys_cons : (p : Place) (s : Slot) (es : Entries) → keys_of (rows_of ((p, s) ∷ es)) ≡ keys_of (rows_of ((p, s) ∷ [])) ++ keys_of (rows_of es)
keys_cons p s es = ap keys_of (rows_cons p s es) ∙ keys_append (rows_of ((p, s) ∷ [])) (rows_of es)

pub each_under : (P : Stored → Type 0) (path : Path) (rows : List Stored) → Each P rows → Each P (rows_under path rows)
each_under P path [] e = tt
each_under P path (r ∷ rs) e = by_test (is_under path r.place) (λ t. rw t (e.0, each_under P path rs e.1)) (λ f. rw f (each_under P path rs e.1))

pub under_ascends : (path : Path) (rows : List Stored) → AreAscending rows → AreAscending (rows_under path rows)
under_ascends path [] a = tt
under_ascends path (r ∷ rs) a =
    let tail : AreAscending (rows_under path rs) = under_ascends path rs (Ascends-tail (λ a b. place_cmp a.place b.place) stored_total r rs a) in
    by_test (is_under path r.place)
    (λ t. rw t (cons_ascends r (rows_under path rs) (each_under (λ s. place_cmp r.place s.place ≡ Less) path rs (Ascends-first (λ a b. place_cmp a.place b.place) stored_total r rs a)) tail))
    (λ f. rw f tail)

-- ---- keys of one group ascend

nat_self : (n : ℕ) → nat_cmp n n ≡ Equal
nat_self n = go (nat_cmp n n) (ranked n n (nat_cmp n n) refl)
  where
    go : (o : Ordering) → MatchOrdering o (n < n) (n ≡ n) (n < n) → o ≡ Equal
    go Less h = absurd (omega (arith, h))
    go Equal h = refl
    go Greater h = absurd (omega (arith, h))

-- of two places of one group the order is that of their keys
key_order : (s : Space) (g : ℕ) (a b : ℤ) → place_cmp (record { space = s; group = g; key = a }) (record { space = s; group = g; key = b }) ≡ int_cmp a b
key_order s g a b =
    ap (λ o. ordering_then (ordering_then o (nat_cmp s.table s.table)) (ordering_then (nat_cmp g g) (int_cmp a b))) (nat_self s.area)
    ∙ ap (λ o. ordering_then o (ordering_then (nat_cmp g g) (int_cmp a b))) (nat_self s.table)
    ∙ ap (λ o. ordering_then o (int_cmp a b)) (nat_self g)

in_group : (s : Space) (g : ℕ) (p : Place) → is_under (Group s g) p ≡ true → p ≡ record { space = s; group = g; key = p.key }
in_group s g p e =
    let h = and_parts (same_space s p.space) (g == p.group) e in
    let x = same_space-eq s p.space h.0 in
    let y = eqb-true g p.group h.1 in
    λ i. record { space = sym x i; group = sym y i; key = p.key }

key_less : (s : Space) (g : ℕ) (a b : Place) → is_under (Group s g) a ≡ true → is_under (Group s g) b ≡ true → place_cmp a b ≡ Less → int_cmp a.key b.key ≡ Less
key_less s g a b ua ub less =
    sym (key_order s g a.key b.key) ∙ sym (λ i. place_cmp (in_group s g a ua i) (in_group s g b ub i)) ∙ less

all_under : (path : Path) (rows : List Stored) → Each (λ r. is_under path r.place ≡ true) (rows_under path rows)
all_under path [] = tt
all_under path (r ∷ rs) = by_test (is_under path r.place) (λ t. rw t (t, all_under path rs)) (λ f. rw f (all_under path rs))

keys_ascend : (s : Space) (g : ℕ) (rows : List Stored) → Each (λ r. is_under (Group s g) r.place ≡ true) rows → AreAscending rows → Ascends int_cmp (keys_of rows)
keys_ascend s g [] u a = tt
keys_ascend s g (r ∷ []) u a = tt
keys_ascend s g (r ∷ q ∷ rs) u a = (key_less s g r.place q.place u.0 u.1.0 a.0, keys_ascend s g (q ∷ rs) u.1 a.1)

pub group_keys_ascend : (s : Space) (g : ℕ) (rows : List Stored) → AreAscending rows → Ascends int_cmp (keys_of (rows_under (Group s g) rows))
group_keys_ascend s g rows a = keys_ascend s g (rows_under (Group s g) rows) (all_under (Group s g) rows) (under_ascends (Group s g) rows a)

pub ascends_front : (xs ys : List ℤ) → Ascends int_cmp (xs ++ ys) → Ascends int_cmp xs
ascends_front [] ys a = tt
ascends_front (x ∷ []) ys a = tt
ascends_front (x ∷ z ∷ zs) ys a = (a.0, ascends_front (z ∷ zs) ys a.1)

-- the keys that were taken are the first ones
pub keys_given : (keys rest all : List ℤ) (most : ℕ) → length keys ≤ most → keys ++ rest ≡ all → (rest ≡ []) ⊎ (most ≤ length keys) → keys ≡ take most all
keys_given keys rest all most le whole (inl none) =
    sym (take_all most keys le) ∙ ap (take most) (sym (append-nil keys) ∙ ap (λ r. keys ++ r) (sym none) ∙ whole)
keys_given keys rest all most le whole (inr enough) =
    sym (take_at keys rest most (omega (arith, le, enough))) ∙ ap (take most) whole
