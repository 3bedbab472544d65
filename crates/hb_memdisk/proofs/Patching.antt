-- An image that is made longer and then overwritten is the patched image.
use Rattle.std.proofs.Common.{◌≡◌, ⊎_elim, ℕ, ◌+◌, ◌-◌, ◌<◌, ◌≤◌, List, ◌++◌, length, take, drop, replicate, sym, ◌∙◌, ap, arith, length-append}
use Rattle.std.proofs.lemmas.Bool.{cases_lt}
use Rattle.std.proofs.lemmas.List.{append-nil, drop_all, take_all, take-append-le, take-replicate, length-replicate}
use Rattle.std.proofs.Math.Seq.{take-append-add}
use Rattle.hb_edge.specs.Images.{patched}

-- the bytes up to a place, and fillings where there are too few
front : (gap at more : ℕ) (image : List ℕ) → at - length image ≤ more → take at (image ++ replicate more gap) ≡ take at image ++ replicate (at - length image) gap
front gap at more image enough = ⊎_elim inside outside (cases_lt (length image) at)
  where
    outside : at ≤ length image → take at (image ++ replicate more gap) ≡ take at image ++ replicate (at - length image) gap
    outside le =
        let none : at - length image ≡ 0 = omega arith in
        take-append-le at image (replicate more gap) le ∙ sym (append-nil (take at image)) ∙ ap (λ (k : ℕ). take at image ++ replicate k gap) (sym none)

    inside : length image < at → take at (image ++ replicate more gap) ≡ take at image ++ replicate (at - length image) gap
    inside lt =
        let split : at ≡ length image + (at - length image) = omega arith in
        ap (λ (k : ℕ). take k (image ++ replicate more gap)) split ∙ take-append-add image (replicate more gap) (at - length image)
        ∙ (λ i. sym (take_all at image (omega arith)) i ++ take-replicate (at - length image) more gap enough i)

-- nothing of the fillings is left behind the end that they reach
back : (gap end : ℕ) (image : List ℕ) → drop end (image ++ replicate (end - length image) gap) ≡ drop end image
back gap end image = ⊎_elim inside outside (cases_lt end (length image))
  where
    inside : end < length image → drop end (image ++ replicate (end - length image) gap) ≡ drop end image
    inside lt =
        let none : end - length image ≡ 0 = omega arith in
        ap (λ (k : ℕ). drop end (image ++ replicate k gap)) none ∙ ap (λ (l : List ℕ). drop end l) (append-nil image)

    outside : length image ≤ end → drop end (image ++ replicate (end - length image) gap) ≡ drop end image
    outside le =
        drop_all end (image ++ replicate (end - length image) gap) (omega (arith, le, length-append image (replicate (end - length image) gap), length-replicate (end - length image) gap))
        ∙ sym (drop_all end image le)

pub patch_in_place : (gap at end : ℕ) (bytes image : List ℕ) → end ≡ at + length bytes
    → take at (image ++ replicate (end - length image) gap) ++ bytes ++ drop (at + length bytes) (image ++ replicate (end - length image) gap) ≡ patched gap at bytes image
patch_in_place gap at end bytes image is =
    ap (λ (e : ℕ). take at (image ++ replicate (e - length image) gap) ++ bytes ++ drop (at + length bytes) (image ++ replicate (e - length image) gap)) is
    ∙ (λ i. front gap at (at + length bytes - length image) image (omega arith) i ++ bytes ++ back gap (at + length bytes) image i)

-- a list that was changed in place is what it was changed to
pub written_back : (n : ℕ) (new old : List ℕ) → n ≡ length old → length new ≡ length old → take n (new ++ drop (length new) old) ≡ new
written_back n new old is long =
    ap (λ (l : List ℕ). take n (new ++ l)) (drop_all (length new) old (omega (arith, long))) ∙ ap (take n) (append-nil new) ∙ take_all n new (omega (arith, is, long))
