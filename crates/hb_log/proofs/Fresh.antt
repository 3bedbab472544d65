-- A log that was made anew has no record.
use Rattle.std.proofs.Common.{◌≡◌, ◌⊎◌, ⊎_elim, ℕ, ◌<◌, ◌≤◌, List, [], ◌∷◌, length, sym, ◌∙◌, ap, subst, arith}
use Rattle.hb_types.specs.declared.change.Placed.{Placed}
use Rattle.hb_types.specs.Logs.{RecordsFrom, end_of}
use Rattle.hb_log.specs.Standing.{Found}
use Rattle.hb_log.proofs.Standing.{records_stand, end_inside}

pub fresh_records : (from : ℕ) (placed : List Placed) → from ≡ 0 → placed ≡ [] → RecordsFrom (0 ∷ []) from placed
fresh_records from placed zero none =
    subst (λ (f : ℕ). RecordsFrom (0 ∷ []) f placed) (sym zero) (subst (RecordsFrom (0 ∷ []) 0) (sym none) (λ is. omega (arith, is)))

pub fresh_end : (from : ℕ) (placed : List Placed) → from ≡ 0 → placed ≡ [] → 0 ≡ end_of from placed
fresh_end from placed zero none = sym zero ∙ ap (end_of from) (sym none)

-- what was found ends inside the image
pub found_inside : (image : List ℕ) (from : ℕ) (placed : List Placed) (next : ℕ) → Found image from placed next → (from ≡ 0) ⊎ ((from < length image) × (7 ≤ length image)) → 7 ≤ length image → next < length image
found_inside image from placed next found place long =
    let start : from < length image = ⊎_elim (λ zero. omega (arith, zero, long)) (λ inside. inside.0) place in
    subst (λ (k : ℕ). k < length image) (sym found.end) (end_inside image from placed (records_stand image from placed found.records) start)
