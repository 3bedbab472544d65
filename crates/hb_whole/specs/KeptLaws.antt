-- An image that keeps the valid point has it.
use Rattle.std.specs.Prelude.{◌≡◌, ℕ, ◌+◌, ◌<◌, ◌≤◌, ◌^◌, ◌==◌, nat_le, nat_lt, Bool, true, false, not, List, length, take, drop, get_or, Option, Some, None, refl}
use Rattle.std.specs.Int.{w64, from_le_bytes}
use Rattle.std.proofs.Common.{sym, ◌∙◌, ap, subst, arith}
use Rattle.std.proofs.lemmas.Bool.{leb-true}
use Rattle.std.proofs.lemmas.List.{drop-take, take-take, drop-drop, length-take, length-drop, get_or-take, get_or-drop}
use Rattle.std.proofs.lemmas.Nat.{from_le_bytes-to_le_bytes_8}
use Rattle.hb_edge.specs.Images.{Image}
use Rattle.hb_types.proofs.PutLaws.{by_test}
use Rattle.hb_types.specs.Lists.{IsAt}
use Rattle.hb_disks.specs.Points.{Point}
use Rattle.hb_disks.specs.WholeImage.{PointIs, header_bytes, image_bytes, is_open, sequence_at, valid_header}
use Rattle.hb_whole.specs.declared.valid.Valid.{Valid}
use Rattle.hb_whole.specs.Kept.{Keeps, header_at}

pub is_at_inside : (image : Image) (k : ℕ) (bytes : List ℕ) → IsAt image k bytes → 1 ≤ length bytes → k + length bytes ≤ length image
is_at_inside image k bytes is some = omega (arith, ap length is, length-take (length bytes) (drop k image), length-drop k image, some)

pub image_some : (q : Point) → 4 ≤ length (image_bytes q.rows)
image_some q = omega arith

pub head_open : (image : Image) (h : ℕ) (q : Point) (place : ℕ) → IsAt image h (header_bytes q place) → is_open image h ≡ true
head_open image h q place is = ap (λ (b : ℕ). b == 1) (sym zero ∙ sym (get_or-drop h image 0 0) ∙ sym (get_or-take 64 (drop h image) 0 0 (omega arith)) ∙ ap (λ (l : List ℕ). get_or l 0 0) is)
  where
    zero : get_or image (h + 0) 0 ≡ get_or image h 0
    zero = let e : h + 0 ≡ h = omega arith in ap (λ (k : ℕ). get_or image k 0) e

pub head_sequence : (image : Image) (h : ℕ) (q : Point) (place : ℕ) → IsAt image h (header_bytes q place) → q.sequence < 2 ^ 64 → sequence_at image h ≡ q.sequence
head_sequence image h q place is small =
    ap (λ (l : List ℕ). from_le_bytes w64 (take 8 l)) (sym (drop-drop 1 h image))
    ∙ ap (from_le_bytes w64) (sym (take-take 8 63 (drop 1 (drop h image)) (omega arith)) ∙ ap (take 8) (sym (drop-take 1 63 (drop h image)) ∙ ap (drop 1) is))
    ∙ from_le_bytes-to_le_bytes_8 q.sequence small

pub header_cases : (second : Bool) → header_at second < 65
header_cases true = omega arith
header_cases false = omega arith

pub not_short : (n : ℕ) → (n ≤ 128 → ⊥) → nat_le n 128 ≡ false
not_short n long = by_test (nat_le n 128) (λ t. absurd (long (leb-true n 128 t))) (λ f. f)

choose : (second : Bool) (image : Image) → (length image ≤ 128 → ⊥) → is_open image (header_at second) ≡ true
    → (is_open image (header_at (not second)) ≡ true → nat_lt (sequence_at image 0) (sequence_at image 64) ≡ second) → valid_header image ≡ Some (header_at second)
choose true image long is_first older =
    rw (not_short (length image) long, is_first) (by_test (is_open image 0) (λ t. rw (t, older t) refl) (λ f. rw f refl))
choose false image long is_first older =
    rw (not_short (length image) long, is_first) (by_test (is_open image 64) (λ t. rw (t, older t) refl) (λ f. rw f refl))

pub keeps_valid : (valid : Option Valid) (spare_open : Bool) (p : Option Point) (image : Image) → Keeps valid spare_open p image → PointIs image p
keeps_valid None b p image k = subst (λ (o : Option Point). PointIs image o) (sym k.stands.0) (none image k.stands.1 k.stands.2)
  where
    none : (image : Image) → is_open image 0 ≡ false → is_open image 64 ≡ false → valid_header image ≡ None
    none image f g = by_test (nat_le (length image) 128) (λ t. rw t refl) (λ n. rw (n, f, g) refl)
keeps_valid (Some v) b p image k =
    let q = k.stands.0 in
    let is = k.stands.2 in
    let inside = is_at_inside image v.place (image_bytes q.rows) is.imaged (omega (arith, image_some q)) in
    subst (λ (o : Option Point). PointIs image o) (sym k.stands.1) (
      header_at v.second,
      v.place,
      choose v.second image (λ short. omega (arith, short, inside, image_some q, is.behind_headers)) (head_open image (header_at v.second) q v.place is.headed)
          (λ opened. k.older (sym k.gate ∙ opened)),
      is,
    )
