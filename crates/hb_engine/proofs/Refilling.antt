-- Lists gone over one by one, and changes by ascending place put one after another.
use Rattle.std.proofs.Common.{◌≡◌, ℕ, zero, suc, ◌+◌, ◌<◌, ◌≤◌, arith, false, refl, sym, ◌∙◌, ap, subst, inl, List, [], ◌∷◌, ◌++◌, length, take, drop, get_or, add-one, take-append-drop, append_assoc, if◌then◌else◌}
use Rattle.std.proofs.Math.Seq.{take-suc}
use Rattle.std.specs.Ordering.{is_lt}
use Rattle.std.specs.declared.cmp.Ordering.TheVariants.{Less}
use Rattle.hb_types.specs.declared.change.Change.{Change}
use Rattle.hb_types.specs.Lists.{Ascends, Each, IsIn}
use Rattle.hb_types.specs.Places.{place_cmp, same_place}
use Rattle.hb_types.specs.Put.{with_change, without_change}
use Rattle.hb_types.proofs.Ascending.{Ascends-tail, Ascends-first, Has-back, in_Each}
use Rattle.hb_laws.proofs.RowLaws.{less_apart_back}
use Rattle.hb_branch.specs.Overlays.{change_cmp, putting}
use Rattle.hb_branch.proofs.Ranks.{change_total}

pub next_taken : {A : Type 0} (xs : List A) (i : ℕ) (x : A) → i < length xs → x ≡ get_or xs i x → take (i + 1) xs ≡ take i xs ++ x ∷ []
next_taken xs i x lt is = rw add-one (take-suc xs i x lt ∙ ap (λ q. take i xs ++ q ∷ []) (sym is))

pub split_there : {A : Type 0} (xs : List A) (i : ℕ) (x : A) → i < length xs → x ≡ get_or xs i x → xs ≡ take i xs ++ x ∷ drop (i + 1) xs
split_there xs i x lt is = sym (take-append-drop (i + 1) xs) ∙ ap (λ l. l ++ drop (i + 1) xs) (next_taken xs i x lt is) ∙ append_assoc (take i xs) (x ∷ []) (drop (i + 1) xs)

below_next : (front back : List Change) (c : Change) → Ascends change_cmp (front ++ c ∷ back) → Each (λ d. change_cmp d c ≡ Less) front
below_next [] back c a = tt
below_next (d ∷ ds) back c a = (
  in_Each (λ k. change_cmp d k ≡ Less) c (ds ++ c ∷ back) (Has-back (λ y. y ≡ c) ds (c ∷ back) (inl refl)) (Ascends-first change_cmp change_total d (ds ++ c ∷ back) a),
  below_next ds back c (Ascends-tail change_cmp change_total d (ds ++ c ∷ back) a),
)

nothing_gone : (c : Change) (cs : List Change) → Each (λ d. change_cmp d c ≡ Less) cs → without_change c.place cs ≡ cs
nothing_gone c [] e = refl
nothing_gone c (d ∷ ds) e =
    ap (λ b. if b then without_change c.place ds else d ∷ without_change c.place ds) (less_apart_back d.place c.place e.0) ∙ ap (λ z. d ∷ z) (nothing_gone c ds e.1)

goes_last : (c : Change) (cs : List Change) → Each (λ d. change_cmp d c ≡ Less) cs → with_change c cs ≡ cs ++ c ∷ []
goes_last c [] e = refl
goes_last c (d ∷ ds) e = ap (λ o. if is_lt o then d ∷ with_change c ds else c ∷ d ∷ ds) e.0 ∙ ap (λ z. d ∷ z) (goes_last c ds e.1)

-- a change behind all others is put at the end
pub put_last : (front back : List Change) (c : Change) → Ascends change_cmp (front ++ c ∷ back) → putting c front ≡ front ++ c ∷ []
put_last front back c a =
    let below = below_next front back c a in
    ap (with_change c) (nothing_gone c front below) ∙ goes_last c front below

pub take_whole : {A : Type 0} (xs : List A) (i : ℕ) → length xs ≤ i → take i xs ≡ xs
take_whole [] zero le = refl
take_whole [] (suc i) le = refl
take_whole (x ∷ xs) zero le = absurd (omega (arith, le))
take_whole (x ∷ xs) (suc i) le = ap (λ ys. x ∷ ys) (take_whole xs i (omega (arith, le)))
