-- The counts of groups once an area was added.
use Rattle.std.proofs.Common.{◌≡◌, ◌≢◌, ℕ, ◌+◌, ◌<◌, ◌≤◌, List, [], length, get_or, refl, ap, ◌∙◌, arith, count_by}
use Rattle.std.proofs.lemmas.List.Elements.{recursion_from_All}
use Rattle.std.proofs.lemmas.Map.Made.{IsDistinct-from_AllPairs}
use Rattle.std.proofs.lemmas.Bool.Decides.{Decides-eqb}
use Rattle.std.specs.List.{All, AllPairs}
use Rattle.hb_types.specs.declared.entry.Entry.{Entry}
use Rattle.hb_types.specs.Groups.{is_moving, quota, reassign, entry_after, position_of}
use Rattle.hb_groups.specs.Counts.{IsPlaced, count_at}
use Rattle.hb_groups.proofs.Folding.{Each-map_from, length-map_from}
use Rattle.hb_groups.proofs.Quotas.{sum-quotas_before, sum_by-places}
use Rattle.hb_groups.proofs.Counting.{count_at-reassigned, counts-all, settled, IsSettled}
use Rattle.hb_groups.proofs.Seeing.{position_of-get_or}

pub kept_at : (old : List Entry) (areas : List ℕ) (added i : ℕ) → AllPairs (λ (a b : ℕ). a ≢ b) areas → i < length areas → quota i (length areas + 1) ≤ count_at old (get_or areas i 0) → count_at (reassign old areas added) (get_or areas i 0) ≡ quota i (length areas + 1)
kept_at old areas added i apart l enough =
    let area = get_or areas i 0 in
    let counted = count_at-reassigned old areas added area 0 [] old refl refl in
    let own : quota (position_of areas area) (length areas + 1) ≡ quota i (length areas + 1) = ap (λ p. quota p (length areas + 1)) (position_of-get_or areas i apart l) in
    omega (arith, counted, own, enough)

pub count-moving : (old : List Entry) (areas : List ℕ) (added : ℕ) → AllPairs (λ (a b : ℕ). a ≢ b) areas → length areas ≤ 15 → length old ≡ 1024 → All (IsPlaced areas) old → ((i : ℕ) → i < length areas → quota i (length areas + 1) ≤ count_at old (get_or areas i 0)) → count_by is_moving (reassign old areas added) ≡ quota (length areas) (length areas + 1)
count-moving old areas added apart few full placed enough =
    let f = entry_after old areas added in
    let all = counts-all areas (reassign old areas added) (IsDistinct-from_AllPairs Decides-eqb areas apart)
    (Each-map_from (IsPlaced areas) (IsSettled areas) f (λ n x. settled areas _ _ added x) 0 old (recursion_from_All (IsPlaced areas) old placed)) in
    let stay = sum_by-places (count_at (reassign old areas added)) (λ i. quota i (length areas + 1)) 0 areas
    (λ i l. kept_at old areas added i apart l (enough i l) ∙ ap (λ p. quota p (length areas + 1)) (omega arith)) in
    omega (arith, all, stay, sum-quotas_before (length areas) few, length-map_from f 0 old)
