-- A spread that can give groups to one area more, as what is asked of its areas and its entries.
use Rattle.std.proofs.Common.{◌≡◌, ℕ, zero, suc, ◌+◌, ◌≤◌, ◌<◌, ◌==◌, Bool, true, false, true≢false, not, ◌&&◌, List, [], ◌∷◌, None, length, drop, get_or, All, refl, ap, sym, ◌∙◌, subst, inl, inr, arith}
use Rattle.std.specs.Prelude.{◌≢◌, nat_le, slice_index, AllPairs, Contains}
use Rattle.std.specs.List.{list_all, list_any, range_with_len, AllByRecursion, AllZip}
use Rattle.std.proofs.lemmas.Bool.{eqb-true, leb-true}
use Rattle.std.proofs.lemmas.List.Elements.{recursion_from_All}
use Rattle.std.proofs.lemmas.List.Folds.{list_all_at, list_any_at, Any-from_list_any}
use Rattle.std.proofs.lemmas.List.FromFn.{length-range_with_len, get_or-range_with_len}
use Rattle.std.proofs.lemmas.List.Kept.{AllPairs-cons}
use Rattle.hb_types.specs.declared.entry.Entry.{Entry}
use Rattle.hb_types.specs.declared.entry.Entry.TheVariants.{At, Moving}
use Rattle.hb_types.specs.Groups.{quota, target}
use Rattle.hb_types.specs.Lists.{Each, has_twins}
use Rattle.hb_model.specs.declared.reply.Reply.TheVariants as reply
use Rattle.hb_model.specs.Refusals.{first_refusal}
use Rattle.hb_groups.specs.Counts.{IsPlaced, StaysOrMoves, count_at}
use Rattle.hb_definerows.specs.DefineRows.{IsMarked, added_refusals, can_spread, has_enough, is_placed}
use Rattle.hb_definerows.proofs.Accepting.{both, neither, not_first}
use Rattle.hb_definerows.proofs.Twins.{twins_more}

all_at : {X : Type 0} (p : X → Bool) (xs : List X) (i : ℕ) (d : X) → list_all p xs ≡ true → i < length xs → p (get_or xs i d) ≡ true
all_at p xs i d is lt = by_case (p (get_or xs i d)) refl
  where
    by_case : (b : Bool) → p (get_or xs i d) ≡ b → p (get_or xs i d) ≡ true
    by_case true e = e
    by_case false e = absurd (true≢false (sym is ∙ list_all_at p xs i d lt e))

same_eqb : (a b : ℕ) → a ≡ b → (a == b) ≡ true
same_eqb a b e = grind arith

none_like : (m : ℕ) (ms : List ℕ) → list_any (λ (n : ℕ). m == n) ms ≡ false → All (λ (n : ℕ). m ≢ n) ms
none_like m ms is = λ k d lt e. true≢false (sym (list_any_at (λ (n : ℕ). m == n) ms k d lt (same_eqb m (get_or ms k d) e)) ∙ is)

differ : (ms : List ℕ) → has_twins (λ (a b : ℕ). a == b) ms ≡ false → AllPairs (λ (a b : ℕ). a ≢ b) ms
differ [] is = λ i j d lt below. absurd (omega arith)
differ (m ∷ ms) is =
    let apart = neither (list_any (λ (n : ℕ). m == n) ms) _ (sym (twins_more (λ (a b : ℕ). a == b) m ms) ∙ is) in
    AllPairs-cons (λ (a b : ℕ). a ≢ b) m ms (none_like m ms apart.0) (differ ms apart.1)

one_placed : (ms : List ℕ) (e : Entry) → is_placed ms e ≡ true → IsPlaced ms e
one_placed ms (At a) is =
    let any = Any-from_list_any (λ (m : ℕ). a == m) ms (both (nat_le 1 a) _ is).1 in
    let same : any.1 ≡ a = sym (eqb-true a any.1 any.4) in
    (any.0, any.2, subst (λ (x : ℕ). get_or ms any.0 x ≡ x) same any.3)
one_placed ms (Moving a b) is = true≢false (sym is)

one_held : (ms : List ℕ) (e : Entry) → is_placed ms e ≡ true → IsMarked e
one_held ms (At a) is = leb-true 1 a (both (nat_le 1 a) _ is).0
one_held ms (Moving a b) is = absurd (true≢false (sym is))

pub record Spreads (ms : List ℕ) (es : List Entry) : Type 0 where
  pub full : length es ≡ 1024
  pub some : 1 ≤ length ms
  pub few : length ms ≤ 15
  pub distinct : AllPairs (λ (a b : ℕ). a ≢ b) ms
  pub placed : All (IsPlaced ms) es
  pub held : All IsMarked es
  pub enough : (i : ℕ) → i < length ms → quota i (length ms + 1) ≤ count_at es (slice_index ms i)

unless_twins : (b : Bool) → not b ≡ true → b ≡ false
unless_twins true is = absurd (true≢false (sym is))
unless_twins false is = refl

enough_at : (ms : List ℕ) (es : List Entry) → list_all (has_enough ms es) (range_with_len 0 (length ms)) ≡ true → (i : ℕ) → i < length ms
    → quota i (length ms + 1) ≤ count_at es (slice_index ms i)
enough_at ms es is i lt =
    let all = all_at (has_enough ms es) (range_with_len 0 (length ms)) i 0 is (omega (arith, length-range_with_len 0 (length ms))) in
    let at : get_or (range_with_len 0 (length ms)) i 0 ≡ i = get_or-range_with_len 0 (length ms) i 0 lt ∙ omega arith in
    leb-true _ _ (subst (λ (k : ℕ). has_enough ms es k ≡ true) at all)

pub spreads : (ms : List ℕ) (es : List Entry) → can_spread ms es ≡ true → Spreads ms es
spreads ms es is =
    let a = both (length es == 1024) _ is in
    let b = both (nat_le 1 (length ms)) _ a.1 in
    let c = both (nat_le (length ms) 15) _ b.1 in
    let d = both (not (has_twins (λ (a b : ℕ). a == b) ms)) _ c.1 in
    let e = both (list_all (is_placed ms) es) _ d.1 in
    record {
      full = eqb-true _ _ a.0;
      some = leb-true _ _ b.0;
      few = leb-true _ _ c.0;
      distinct = differ ms (unless_twins _ d.0);
      placed = λ k x lt. one_placed ms (get_or es k x) (all_at (is_placed ms) es k x e.0 lt);
      held = λ k x lt. one_held ms (get_or es k x) (all_at (is_placed ms) es k x e.0 lt);
      enough = enough_at ms es e.1;
    }

pub unused : (ms : List ℕ) (area : ℕ) → list_any (λ (m : ℕ). area == m) ms ≡ false → ¬ Contains ms area
unused ms area is = λ there. none_like area ms is there.0 area there.1 (sym there.2)

target_held : (x : Entry) → IsMarked x → 1 ≤ target x
target_held (At a) m = m
target_held (Moving a b) m = m.1

one_marked : (added : ℕ) → 1 ≤ added → (x y : Entry) → StaysOrMoves added x y → IsMarked x → IsMarked y
one_marked added some x y (inl same) m = subst IsMarked (sym same) m
one_marked added some x y (inr moved) m = subst IsMarked (sym moved) (target_held x m, some)

all_marked : (added : ℕ) → 1 ≤ added → (old new : List Entry) → AllZip (StaysOrMoves added) old new → AllByRecursion IsMarked old → Each IsMarked new
all_marked added some [] [] zip m = tt
all_marked added some [] (y ∷ ys) zip m = absurd zip
all_marked added some (x ∷ xs) [] zip m = tt
all_marked added some (x ∷ xs) (y ∷ ys) zip m = (one_marked added some x y zip.0 m.0, all_marked added some xs ys zip.1 m.1)

pub marked : (added : ℕ) (old new : List Entry) → 256 ≤ added → AllZip (StaysOrMoves added) old new → All IsMarked old → Each IsMarked new
marked added old new sited zip m = all_marked added (omega (arith, sited)) old new zip (recursion_from_All IsMarked old m)

-- each of a range passes
pub all_in_range : (p : ℕ → Bool) (a n : ℕ) → ((k : ℕ) → a ≤ k → k < a + n → p k ≡ true) → list_all p (range_with_len a n) ≡ true
all_in_range p a zero each = refl
all_in_range p a (suc n) each =
    ap (λ (b : Bool). b && list_all p (range_with_len (a + 1) n)) (each a (omega arith) (omega arith))
    ∙ all_in_range p (a + 1) n (λ k le lt. each k (omega (arith, le)) (omega (arith, lt)))

pub one_in_range : (p : ℕ → Bool) (n i : ℕ) → i < n → p i ≡ false → list_all p (range_with_len 0 n) ≡ false
one_in_range p n i lt is =
    let at : get_or (range_with_len 0 n) i 0 ≡ i = get_or-range_with_len 0 n i 0 lt ∙ omega arith in
    list_all_at p (range_with_len 0 n) i 0 (omega (arith, length-range_with_len 0 n)) (ap p at ∙ is)

-- an area that is not refused is no member yet
pub not_member : (ms : List ℕ) (es : List Entry) (area : ℕ) → first_refusal (added_refusals ms es area) ≡ None → list_any (λ (m : ℕ). area == m) ms ≡ false
not_member ms es area is =
    let all = added_refusals ms es area in
    (not_first (list_any (λ (m : ℕ). area == m) ms) reply.AreaThere (drop 2 all) (not_first false reply.NoArea (drop 1 all) is).1).0
