-- The valid point through each write of a point.
use Rattle.std.proofs.Common.{◌≡◌, ◌⊎◌, inl, inr, ℕ, ◌+◌, ◌<◌, ◌≤◌, Bool, true, false, not, nat_lt, [], ◌∷◌, length, drop, get_or, refl, sym, ◌∙◌, ap, subst, arith, Some, None, Option}
use Rattle.std.specs.Prelude.{◌==◌, IfSome, is_some}
use Rattle.std.specs.Int.{w64, from_le_bytes}
use Rattle.std.proofs.lemmas.List.{take_more, length-drop, get_or-drop}
use Rattle.std.proofs.lemmas.Bool.{eqb-true, true≢false}
use Rattle.hb_edge.specs.Images.{Image, Torn}
use Rattle.hb_types.specs.Lists.{IsAt}
use Rattle.hb_disks.specs.Points.{Point}
use Rattle.hb_disks.specs.WholeImage.{IsPointAt, PointIs, header_bytes, image_bytes, is_open, sequence_at}
use Rattle.hb_whole.specs.declared.valid.Valid.{Valid}
use Rattle.hb_whole.specs.Kept.{Avoids, Fits, IsReady, Keeps, Stands, header_at, spare_at}
use Rattle.hb_whole.specs.KeptLaws.{head_open, head_sequence, header_cases, image_some, is_at_inside, keeps_valid}
use Rattle.hb_whole.proofs.Windows.{Apart, byte_torn, is_at_append, is_at_torn, window_torn}

-- ---- writes elsewhere

point_torn : (at n : ℕ) (old new : Image) (v : Valid) (q : Point) → Torn at n old new → 128 ≤ length old → Avoids (Some v) at n
    → IsPointAt old q (header_at v.second) v.place → length (image_bytes q.rows) ≡ v.length → IsPointAt new q (header_at v.second) v.place
point_torn at n old new v q torn long away is size =
    let inside = is_at_inside old v.place (image_bytes q.rows) is.imaged (omega (arith, image_some q)) in
    let few = header_cases v.second in
    record {
      behind_headers = is.behind_headers;
      place_small = is.place_small;
      sequence_small = is.sequence_small;
      length_small = is.length_small;
      few = is.few;
      headed = is_at_torn at n (header_at v.second) old new (header_bytes q v.place) torn is.headed (omega (arith, long, few)) (swap_head away.0);
      imaged = is_at_torn at n v.place old new (image_bytes q.rows) torn is.imaged inside (swap_image away.1);
      from_small = is.from_small;
      floor_small = is.floor_small;
      rows_ascend = is.rows_ascend;
      rows_are_rows = is.rows_are_rows;
    }
  where
    swap_head : (header_at v.second + 64 ≤ at) ⊎ (at + n ≤ header_at v.second) → Apart (header_at v.second) (length (header_bytes q v.place)) at n
    swap_head (inl a) = inr a
    swap_head (inr b) = inl b

    swap_image : (v.place + v.length ≤ at) ⊎ (at + n ≤ v.place) → Apart v.place (length (image_bytes q.rows)) at n
    swap_image (inl a) = inr (omega (arith, a, size))
    swap_image (inr b) = inl b

open_torn : (at n k : ℕ) (old new : Image) → Torn at n old new → k < length old → Apart k 1 at n → is_open new k ≡ is_open old k
open_torn at n k old new torn within apart = ap (λ (b : ℕ). b == 1) (byte_torn at n k old new torn within apart)

pub stands_torn : (valid : Option Valid) (p : Option Point) (at n : ℕ) (old new : Image) → Torn at n old new → 128 ≤ length old → Avoids valid at n → Stands valid p old → Stands valid p new
stands_torn None p at n old new torn long away s = (
  s.0,
  open_torn at n 0 old new torn (omega (arith, long)) (inr (omega (arith, away.0))) ∙ s.1,
  open_torn at n 64 old new torn (omega (arith, long)) (middle away.1) ∙ s.2,
)
  where
    middle : (at + n ≤ 64) ⊎ (65 ≤ at) → Apart 64 1 at n
    middle (inl a) = inl a
    middle (inr b) = inr b
stands_torn (Some v) p at n old new torn long away s =
    (s.0, s.1, point_torn at n old new v s.0 torn long away s.2 s.4, s.3, s.4)

older_torn : (valid : Option Valid) (at n : ℕ) (old new : Image) → Torn at n old new → 128 ≤ length old → Apart 1 8 at n → Apart 65 8 at n
    → IfSome valid (λ v. nat_lt (sequence_at old 0) (sequence_at old 64) ≡ v.second) → IfSome valid (λ v. nat_lt (sequence_at new 0) (sequence_at new 64) ≡ v.second)
older_torn None at n old new torn long a b o = tt
older_torn (Some v) at n old new torn long a b o =
    (λ i. nat_lt (from_le_bytes w64 (window_torn at n 1 8 old new torn (omega (arith, long)) a i)) (from_le_bytes w64 (window_torn at n 65 8 old new torn (omega (arith, long)) b i))) ∙ o

-- an image is written behind the headers
pub keeps_behind : (valid : Option Valid) (b : Bool) (p : Option Point) (at n : ℕ) (old new : Image) → Torn at n old new → 128 ≤ at → Avoids valid at n → Keeps valid b p old → Keeps valid b p new
keeps_behind valid b p at n old new torn behind away k = record {
  long = omega (arith, torn.no_shorter, k.long);
  stands = stands_torn valid p at n old new torn k.long away k.stands;
  gate = open_torn at n (spare_at valid) old new torn (omega (arith, k.long, low valid)) (inr (omega (arith, behind, low valid))) ∙ k.gate;
  older = λ t. older_torn valid at n old new torn k.long (inr (omega (arith, behind))) (inr (omega (arith, behind))) (k.older t);
}
  where
    low : (valid : Option Valid) → spare_at valid < 65
    low None = omega arith
    low (Some v) = header_cases (not v.second)

-- ---- writes of the other header

-- the valid image lies behind the headers
abbrev pub ImageBehind : Option Valid → Type 0
ImageBehind None = Unit {0}
ImageBehind (Some v) = 128 ≤ v.place

pub image_behind : (valid : Option Valid) (b : Bool) (p : Option Point) (image : Image) → Keeps valid b p image → ImageBehind valid
image_behind None b p image k = tt
image_behind (Some v) b p image k = k.stands.2.behind_headers

pub spare_low : (valid : Option Valid) → spare_at valid < 65
spare_low None = omega arith
spare_low (Some v) = header_cases (not v.second)

headers_apart : (second : Bool) (at n : ℕ) → header_at (not second) ≤ at → at + n ≤ header_at (not second) + 64 → (header_at second + 64 ≤ at) ⊎ (at + n ≤ header_at second)
headers_apart true at n low high = inr (omega (arith, high))
headers_apart false at n low high = inl (omega (arith, low))

pub away : (valid : Option Valid) → ImageBehind valid → Avoids valid (spare_at valid + 1) 63
away None behind = (omega arith, inl (omega arith))
away (Some v) behind =
    (headers_apart v.second (header_at (not v.second) + 1) 63 (omega arith) (omega arith), inr (omega (arith, behind, header_cases (not v.second))))

gate_away : (v : Valid) → ImageBehind (Some v) → Avoids (Some v) (spare_at (Some v)) 1
gate_away v behind = (headers_apart v.second (header_at (not v.second)) 1 (omega arith) (omega arith), inr (omega (arith, behind, header_cases (not v.second))))

gate_first : (second : Bool) → Apart 1 8 (header_at (not second)) 1
gate_first true = inl (omega arith)
gate_first false = inr (omega arith)

gate_second : (second : Bool) → Apart 65 8 (header_at (not second)) 1
gate_second true = inl (omega arith)
gate_second false = inl (omega arith)

-- the closed header is written behind its gate
pub keeps_header : (valid : Option Valid) (p : Option Point) (old new : Image) → Torn (spare_at valid + 1) 63 old new → ImageBehind valid → Keeps valid false p old → Keeps valid false p new
keeps_header valid p old new torn behind k = record {
  long = omega (arith, torn.no_shorter, k.long);
  stands = stands_torn valid p (spare_at valid + 1) 63 old new torn k.long (away valid behind) k.stands;
  gate = open_torn (spare_at valid + 1) 63 (spare_at valid) old new torn (omega (arith, k.long, spare_low valid)) (inr (omega arith)) ∙ k.gate;
  older = λ t. absurd (true≢false (sym t));
}

-- the other header's gate is written: whatever it reads then
pub keeps_gate : (v : Valid) (p : Option Point) (old new : Image) → Torn (spare_at (Some v)) 1 old new → ImageBehind (Some v) → Keeps (Some v) true p old → Keeps (Some v) (is_open new (spare_at (Some v))) p new
keeps_gate v p old new torn behind k = record {
  long = omega (arith, torn.no_shorter, k.long);
  stands = stands_torn (Some v) p (spare_at (Some v)) 1 old new torn k.long (gate_away v behind) k.stands;
  gate = refl;
  older = λ t. older_torn (Some v) (spare_at (Some v)) 1 old new torn k.long (gate_first v.second) (gate_second v.second) (k.older refl);
}

-- ---- the gate of the new point's header is opened

pub gate_is : (image : Image) (k : ℕ) → k < length image → is_open image k ≡ true → IsAt image k (1 ∷ [])
gate_is image k within opened =
    take_more (drop k image) 0 0 (omega (arith, within, length-drop k image))
    ∙ ap (λ (b : ℕ). b ∷ []) (get_or-drop k image 0 0 ∙ (let e : k + 0 ≡ k = omega arith in ap (λ (j : ℕ). get_or image j 0) e) ∙ eqb-true (get_or image k 0) 1 opened)

first_header : (second : Bool) → header_at second ≡ 0 → second ≡ false
first_header true e = absurd (omega (arith, e))
first_header false e = refl

-- the header that was the valid one is the other one then
other_gate : (valid : Option Valid) (next : Valid) (p : Option Point) (mid image : Image) → Keeps valid false p mid → Torn (spare_at valid) 1 mid image → header_at next.second ≡ spare_at valid
    → IfSome valid (λ v. (next.second ≡ not v.second) × (v.sequence + 1 ≤ next.sequence)) → is_open image (spare_at (Some next)) ≡ is_some valid
other_gate None next p mid image k torn other newer =
    ap (λ b. is_open image (header_at (not b))) (first_header next.second other) ∙ open_torn 0 1 64 mid image torn (omega (arith, k.long)) (inl (omega arith)) ∙ k.stands.2
other_gate (Some v) next p mid image k torn other newer =
    ap (λ b. is_open image (header_at (not b))) newer.0 ∙ ap (λ b. is_open image (header_at b)) (twice v.second)
    ∙ head_open image (header_at v.second) k.stands.0 v.place (point_torn (spare_at (Some v)) 1 mid image v k.stands.0 torn k.long (gate_away v k.stands.2.behind_headers) k.stands.2 k.stands.4).headed
  where
    twice : (b : Bool) → not (not b) ≡ b
    twice true = refl
    twice false = refl

later_first : (second : Bool) (image : Image) (a b : ℕ) → sequence_at image (header_at second) ≡ a → sequence_at image (header_at (not second)) ≡ b → a + 1 ≤ b → nat_lt (sequence_at image 0) (sequence_at image 64) ≡ not second
later_first false image a b x y less = (λ i. nat_lt (x i) (y i)) ∙ is_less a b less
  where
    is_less : (a b : ℕ) → a + 1 ≤ b → nat_lt a b ≡ true
    is_less a b le = search (arith, le)
later_first true image a b x y less = (λ i. nat_lt (y i) (x i)) ∙ not_less a b less
  where
    not_less : (a b : ℕ) → a + 1 ≤ b → nat_lt b a ≡ false
    not_less a b le = search (arith, le)

other_older : (valid : Option Valid) (next : Valid) (p : Option Point) (q : Point) (mid image : Image) → Keeps valid false p mid → Torn (spare_at valid) 1 mid image → header_at next.second ≡ spare_at valid
    → IfSome valid (λ v. (next.second ≡ not v.second) × (v.sequence + 1 ≤ next.sequence)) → IsPointAt image q (header_at next.second) next.place → q.sequence ≡ next.sequence
    → is_some valid ≡ true → nat_lt (sequence_at image 0) (sequence_at image 64) ≡ next.second
other_older None next p q mid image k torn other newer new is t = absurd (true≢false (sym t))
other_older (Some v) next p q mid image k torn other newer new is t =
    let old = point_torn (spare_at (Some v)) 1 mid image v k.stands.0 torn k.long (gate_away v k.stands.2.behind_headers) k.stands.2 k.stands.4 in
    later_first v.second image v.sequence next.sequence (head_sequence image (header_at v.second) k.stands.0 v.place old.headed old.sequence_small ∙ k.stands.3)
    (ap (λ b. sequence_at image (header_at b)) (sym newer.0) ∙ head_sequence image (header_at next.second) q next.place new.headed new.sequence_small ∙ is) newer.1
    ∙ sym newer.0

shut_keeps : (valid : Option Valid) (p : Option Point) (mid image : Image) → Keeps valid false p mid → Torn (spare_at valid) 1 mid image → is_open image (spare_at valid) ≡ false → Keeps valid false p image
shut_keeps None p mid image k torn is = record {
  long = omega (arith, torn.no_shorter, k.long);
  stands = (k.stands.0, is, open_torn 0 1 64 mid image torn (omega (arith, k.long)) (inl (omega arith)) ∙ k.stands.2);
  gate = is;
  older = λ t. absurd (true≢false (sym t));
}
shut_keeps (Some v) p mid image k torn is = record {
  long = omega (arith, torn.no_shorter, k.long);
  stands = stands_torn (Some v) p (spare_at (Some v)) 1 mid image torn k.long (gate_away v k.stands.2.behind_headers) k.stands;
  gate = is;
  older = λ t. absurd (true≢false (sym t));
}

-- what is ready stays so where the header is written
pub ready_too : (valid : Option Valid) (q : Point) (next : Valid) (read mid : Image) → IsReady valid read q next → Torn (spare_at valid + 1) 63 read mid → IsReady valid mid q next
ready_too valid q next read mid ready torn = record {
  other = ready.other;
  sequence = ready.sequence;
  newer = ready.newer;
  behind_headers = ready.behind_headers;
  length = ready.length;
  imaged = is_at_torn (spare_at valid + 1) 63 next.place read mid (image_bytes q.rows) torn ready.imaged (is_at_inside read next.place (image_bytes q.rows) ready.imaged (omega (arith, image_some q)))
      (inl (omega (arith, ready.behind_headers, spare_low valid)));
}

module _ (valid : Option Valid) (p : Option Point) (q : Point) (next : Valid) (mid : Image) (keeps : Keeps valid false p mid) (ready : IsReady valid mid q next)
    (headed : IsAt mid (spare_at valid + 1) (drop 1 (header_bytes q next.place))) (fits : Fits q next) where
  behind_gate : (image : Image) → Torn (spare_at valid) 1 mid image → IsAt image (spare_at valid + 1) (drop 1 (header_bytes q next.place))
  behind_gate image torn =
      is_at_torn (spare_at valid) 1 (spare_at valid + 1) mid image (drop 1 (header_bytes q next.place)) torn headed (omega (arith, keeps.long, spare_low valid)) (inl (omega arith))

  -- with its gate opened the header stands
  header_stands : (image : Image) → Torn (spare_at valid) 1 mid image → is_open image (spare_at valid) ≡ true → IsAt image (spare_at valid) (header_bytes q next.place)
  header_stands image torn opened = is_at_append image (spare_at valid) (1 ∷ []) (drop 1 (header_bytes q next.place)) (gate_is image (spare_at valid) (omega (arith, torn.no_shorter, keeps.long, spare_low valid)) opened) (behind_gate image torn)

  gate_low : next.place + next.length ≤ length mid
  gate_low = omega (arith, is_at_inside mid next.place (image_bytes q.rows) ready.imaged (omega (arith, image_some q)), ready.length)

  image_stands : (image : Image) → Torn (spare_at valid) 1 mid image → IsAt image next.place (image_bytes q.rows)
  image_stands image torn =
      is_at_torn (spare_at valid) 1 next.place mid image (image_bytes q.rows) torn ready.imaged (omega (arith, gate_low, ready.length)) (inl (omega (arith, ready.behind_headers, spare_low valid)))

  new_point : (image : Image) → Torn (spare_at valid) 1 mid image → is_open image (spare_at valid) ≡ true → IsPointAt image q (header_at next.second) next.place
  new_point image torn opened = record {
    behind_headers = ready.behind_headers;
    place_small = fits.place_small;
    sequence_small = fits.sequence_small;
    length_small = fits.length_small;
    few = fits.few;
    headed = subst (λ (k : ℕ). IsAt image k (header_bytes q next.place)) (sym ready.other) (header_stands image torn opened);
    imaged = image_stands image torn;
    from_small = fits.from_small;
    floor_small = fits.floor_small;
    rows_ascend = fits.rows_ascend;
    rows_are_rows = fits.rows_are_rows;
  }

  pub opened : (image : Image) → Torn (spare_at valid) 1 mid image → is_open image (spare_at valid) ≡ true → Keeps (Some next) (is_some valid) (Some q) image
  opened image torn is = record {
    long = omega (arith, torn.no_shorter, keeps.long);
    stands = (q, refl, new_point image torn is, ready.sequence, ready.length);
    gate = other_gate valid next p mid image keeps torn ready.other ready.newer;
    older = other_older valid next p q mid image keeps torn ready.other ready.newer (new_point image torn is) ready.sequence;
  }

  pub shut : (image : Image) → Torn (spare_at valid) 1 mid image → is_open image (spare_at valid) ≡ false → PointIs image p
  shut image torn is = keeps_valid valid false p image (shut_keeps valid p mid image keeps torn is)
