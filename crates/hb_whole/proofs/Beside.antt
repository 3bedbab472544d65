-- The place of the next image touches nothing of the valid point.
use Rattle.std.proofs.Common.{◌≡◌, ℕ, ◌+◌, ◌≤◌, Bool, true, false, inl, inr, subst, arith, Some, None, Option, refl}
use Rattle.std.specs.Prelude.{nat_le}
use Rattle.hb_edge.specs.Images.{Image}
use Rattle.hb_types.proofs.PutLaws.{by_test}
use Rattle.hb_disks.specs.Points.{Point}
use Rattle.hb_whole.specs.declared.valid.Valid.{Valid}
use Rattle.hb_whole.specs.Kept.{Avoids, Keeps, header_at}
use Rattle.hb_whole.specs.Next.{next_place}

header_end : (second : Bool) → header_at second + 64 ≤ 128
header_end true = omega arith
header_end false = omega arith

fits_before : (a b : ℕ) → nat_le a b ≡ true → a ≤ b
fits_before a b e = search (arith, e)

pub beside : (valid : Option Valid) (b : Bool) (p : Option Point) (image : Image) → Keeps valid b p image → (n : ℕ) → Avoids valid (next_place valid n) n × (128 ≤ next_place valid n)
beside None b p image k n = ((omega arith, inr (omega arith)), omega arith)
beside (Some v) b p image k n =
    let behind = k.stands.2.behind_headers in
    by_test (nat_le (128 + n) v.place)
    (λ t. subst (λ (at : ℕ). Avoids (Some v) at n × (128 ≤ at)) (first t) ((inl (header_end v.second), inr (fits_before (128 + n) v.place t)), omega arith))
    (λ f. subst (λ (at : ℕ). Avoids (Some v) at n × (128 ≤ at)) (second f) ((inl (omega (arith, header_end v.second, behind)), inl (omega arith)), omega (arith, behind)))
  where
    first : nat_le (128 + n) v.place ≡ true → 128 ≡ next_place (Some v) n
    first t = rw t refl

    second : nat_le (128 + n) v.place ≡ false → v.place + v.length ≡ next_place (Some v) n
    second f = rw f refl
