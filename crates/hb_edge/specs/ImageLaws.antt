-- Laws of images: what is done whole, and what is not done, are outcomes of a call that a stop cuts short.
use Rattle.std.specs.Prelude.{◌≡◌, ℕ, ◌+◌, ◌-◌, ◌<◌, ◌≤◌, max, List, [], ◌∷◌, ◌++◌, length, take, drop, replicate, get_or, refl}
use Rattle.std.proofs.Common.{sym, ◌∙◌, ap, arith, length-append}
use Rattle.std.proofs.lemmas.List.{length-take, length-drop, length-replicate, take_min, get_or_append_left, get_or-append_right, get_or-take, get_or-drop}
use Rattle.hb_edge.specs.Images.{Image, patched, written, Torn, Cut}

-- the image with these bytes at a place, whatever fills a gap before them, is one of the outcomes of a torn write
pub torn_patched : (gap at : ℕ) (bytes image : List ℕ) → Torn at (length bytes) image (patched gap at bytes image)
torn_patched gap at bytes image = record {
  no_shorter = omega (arith, long);
  no_longer = omega (arith, long);
  below = λ i within under. below i within under;
  above = λ i within over. above i within over;
}
  where
    front : List ℕ
    front = take at image ++ replicate (at - length image) gap

    front_long : length (take at image ++ replicate (at - length image) gap) ≡ at
    front_long = omega (arith, length-append (take at image) (replicate (at - length image) gap), length-take at image, length-replicate {A = ℕ} (at - length image) gap)

    long : length (patched gap at bytes image) ≡ max (length image) (at + length bytes)
    long = omega (arith, front_long, length-append (take at image ++ replicate (at - length image) gap ++ bytes) (drop (at + length bytes) image), length-append (take at image ++ replicate (at - length image) gap) bytes, length-drop (at + length bytes) image)

    below : (i : ℕ) → i < length image → i < at → get_or (patched gap at bytes image) i 0 ≡ get_or image i 0
    below i within under =
        let l1 : i < length (take at image) = omega (arith, length-take at image) in
        let l2 : i < length (take at image ++ replicate (at - length image) gap) = omega (arith, front_long) in
        let l3 : i < length (take at image ++ replicate (at - length image) gap ++ bytes) = omega (arith, front_long, length-append (take at image ++ replicate (at - length image) gap) bytes) in
        get_or_append_left (take at image ++ replicate (at - length image) gap ++ bytes) (drop (at + length bytes) image) 0 i l3
        ∙ get_or_append_left (take at image ++ replicate (at - length image) gap) bytes 0 i l2
        ∙ get_or_append_left (take at image) (replicate (at - length image) gap) 0 i l1
        ∙ get_or-take at image i 0 under

    above : (i : ℕ) → i < length image → at + length bytes ≤ i → get_or (patched gap at bytes image) i 0 ≡ get_or image i 0
    above i within over =
        let front_is : length (take at image ++ replicate (at - length image) gap ++ bytes) ≡ at + length bytes = omega (arith, front_long, length-append (take at image ++ replicate (at - length image) gap) bytes) in
        let at_is : at + length bytes + (i - (at + length bytes)) ≡ i = omega arith in
        get_or-append_right (take at image ++ replicate (at - length image) gap ++ bytes) (drop (at + length bytes) image) (at + length bytes) i 0 front_is over
        ∙ get_or-drop (at + length bytes) image (i - (at + length bytes)) 0
        ∙ ap (λ (k : ℕ). get_or image k 0) at_is

pub torn_written : (at : ℕ) (bytes image : List ℕ) → Torn at (length bytes) image (written at bytes image)
torn_written at bytes image = torn_patched 0 at bytes image

pub cut_taken : (n : ℕ) (image : Image) → Cut n image (take n image)
cut_taken n image = record {
  no_shorter = omega (arith, length-take n image);
  front = sym (ap (λ (k : ℕ). take k image) (length-take n image) ∙ take_min n image);
}

-- what a call leaves undone may be left
pub torn_undone : (at n : ℕ) (image : Image) → Torn at n image image
torn_undone at n image = record { no_shorter = omega arith; no_longer = omega arith; below = λ i w u. refl; above = λ i w u. refl }

pub cut_undone : (n : ℕ) (image : Image) → Cut n image image
cut_undone n image = record { no_shorter = omega arith; front = sym (take_all_of image) }
  where
    take_all_of : (l : List ℕ) → take (length l) l ≡ l
    take_all_of [] = refl
    take_all_of (x ∷ l) = ap (λ (r : List ℕ). x ∷ r) (take_all_of l)
