-- Numbers in order, each once.
use Rattle.std.proofs.Common.{◌≡◌, ℕ, zero, suc, ◌+◌, ◌≤◌, ◌<◌, ◌==◌, nat_le, nat_lt, Bool, true, false, List, [], ◌∷◌, ◌++◌, length, take, drop, Option, Some, None, get_or, refl, ap, sym, ◌∙◌, subst, arith}
use Rattle.std.specs.Prelude.{IfSome, insert, fold, flat_map, option_to_list, if◌then◌else◌, slice_get}
use Rattle.std.proofs.lemmas.Bool.Decides.{nat_tests}
use Rattle.std.proofs.lemmas.Grind.{flat_map-append, fold-append}
use Rattle.std.proofs.lemmas.List.{append-nil, take_more}
use Rattle.hb_types.specs.declared.change.Stored.{Stored}
use Rattle.hb_types.specs.declared.entry.Entry.{Entry}
use Rattle.hb_types.specs.declared.entry.Entry.TheVariants.{At, Moving}
use Rattle.hb_types.specs.Groups.{route}
use Rattle.hb_types.specs.Lists.{Each}
use Rattle.hb_model.specs.Spots.{with_number, ascending}
use Rattle.hb_model.specs.Told.{entry_of}
use Rattle.hb_talk.specs.Plans.{areas_of_routes}
use Rattle.hb_planrows.specs.PlanRows.{below_in, is_it, with_route, IsSited, AreSited, TellsEntry, TellEntries}

-- a number put at its place
abbrev pub put_at : ℕ → List ℕ → ℕ → List ℕ
put_at n ms at = if is_it n (slice_get ms at) then ms else insert ms at n

behind : (n m : ℕ) (ms : List ℕ) (at : ℕ) → put_at n (m ∷ ms) (suc at) ≡ m ∷ put_at n ms at
behind n m ms at = choice (is_it n (slice_get ms at))
  where
    choice : (b : Bool) → (if b then m ∷ ms else insert (m ∷ ms) (suc at) n) ≡ m ∷ (if b then ms else insert ms at n)
    choice true = refl
    choice false = refl

-- the number in front
front : (n m : ℕ) (ms : List ℕ) (less same : Bool) → nat_lt n m ≡ less → (n == m) ≡ same → with_number n ms ≡ put_at n ms (below_in n ms)
    → with_number n (m ∷ ms) ≡ put_at n (m ∷ ms) (below_in n (m ∷ ms))
front n m ms true same lt eq e =
    let over : nat_lt m n ≡ false = grind (arith, nat_tests) in
    let apart : (m == n) ≡ false = grind (arith, nat_tests) in
    rw (lt, over, apart) refl
front n m ms false true lt eq e =
    let over : nat_lt m n ≡ false = grind (arith, nat_tests) in
    let alike : (m == n) ≡ true = grind (arith, nat_tests) in
    rw (lt, eq, over, alike) refl
front n m ms false false lt eq e =
    let over : nat_lt m n ≡ true = grind (arith, nat_tests) in
    rw (lt, eq, over) (ap (λ xs. m ∷ xs) e ∙ sym (behind n m ms (below_in n ms)))

pub with_number_is : (n : ℕ) (ms : List ℕ) → with_number n ms ≡ put_at n ms (below_in n ms)
with_number_is n [] = refl
with_number_is n (m ∷ ms) = front n m ms (nat_lt n m) (n == m) refl refl (with_number_is n ms)

abbrev areas_of : Stored → List ℕ
areas_of r = flat_map route (option_to_list (entry_of (Some r.row)))

route_added : (areas : List ℕ) (e : Option Entry) → fold (λ ns n. with_number n ns) areas (flat_map route (option_to_list e)) ≡ with_route areas e
route_added areas None = refl
route_added areas (Some (At a)) = refl
route_added areas (Some (Moving a b)) = refl

pub one_more : (rows : List Stored) (r : Stored) → areas_of_routes (rows ++ r ∷ []) ≡ with_route (areas_of_routes rows) (entry_of (Some r.row))
one_more rows r =
    ap ascending (flat_map-append areas_of rows (r ∷ []))
    ∙ fold-append (λ (ns : List ℕ) (n : ℕ). with_number n ns) [] (flat_map areas_of rows) (areas_of r ++ [])
    ∙ ap (fold (λ ns n. with_number n ns) (areas_of_routes rows)) (append-nil (areas_of r))
    ∙ route_added (areas_of_routes rows) (entry_of (Some r.row))

-- ---- areas of back ends

chosen_sited : (n m : ℕ) (ms : List ℕ) → IsSited n → Each IsSited (m ∷ ms) → Each IsSited (with_number n ms) → (less same : Bool)
    → Each IsSited (if less then n ∷ m ∷ ms else (if same then m ∷ ms else m ∷ with_number n ms))
chosen_sited n m ms is each more true same = (is, each)
chosen_sited n m ms is each more false true = each
chosen_sited n m ms is each more false false = (each.0, more)

number_sited : (n : ℕ) (ms : List ℕ) → IsSited n → Each IsSited ms → Each IsSited (with_number n ms)
number_sited n [] is each = (is, tt)
number_sited n (m ∷ ms) is each = chosen_sited n m ms is each (number_sited n ms is each.1) (nat_lt n m) (n == m)

pub route_sited : (areas : List ℕ) (e : Option Entry) → IfSome e AreSited → Each IsSited areas → Each IsSited (with_route areas e)
route_sited areas None is each = each
route_sited areas (Some (At a)) is each = number_sited a areas is each
route_sited areas (Some (Moving a b)) is each = number_sited b (with_number a areas) is.1 (number_sited a areas is.0 each)

-- one row more of a loop over rows
pub areas_step : (rows : List Stored) (i : ℕ) (r : Stored) → r ≡ get_or rows i r → i < length rows → (before after : List ℕ) (e : Option Entry)
    → (TellEntries rows → before ≡ areas_of_routes (take i rows)) → (bytes : List ℕ) → bytes ≡ r.row
    → (TellsEntry (Some bytes) → e ≡ entry_of (Some bytes)) → after ≡ with_route before e → TellEntries rows → after ≡ areas_of_routes (take (i + 1) rows)
areas_step rows i r is lt before after e inv bytes same told put tell =
    let item : get_or rows i r ≡ r = sym is in
    let tells : TellsEntry (Some bytes) = subst (λ b. TellsEntry (Some b)) (sym same) (subst (λ s. TellsEntry (Some s.row)) item (tell i r lt)) in
    put ∙ ap (λ ns. with_route ns e) (inv tell) ∙ ap (with_route (areas_of_routes (take i rows))) (told tells ∙ ap (λ b. entry_of (Some b)) same)
    ∙ sym (one_more (take i rows) r) ∙ ap (λ s. areas_of_routes (take i rows ++ s ∷ [])) (sym item) ∙ ap areas_of_routes (sym (take_more rows i r lt))
