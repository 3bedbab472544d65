-- The valid point of a file, from its first bytes and an image.
use Rattle.std.proofs.Common.{◌≡◌, ℕ, ◌+◌, ◌-◌, ◌<◌, ◌≤◌, Bool, true, false, not, nat_lt, List, [], ◌∷◌, length, take, drop, replicate, refl, sym, ◌∙◌, ap, subst, arith, ⊎_elim, Some, None, Option, Result, Ok, Err}
use Rattle.std.specs.Prelude.{◌==◌, ◌&&◌, ◌^◌, if◌then◌else◌, is_some, unwrap_or}
use Rattle.std.specs.Option.{option_map}
use Rattle.std.specs.Int.{w64, from_le_bytes}
use Rattle.std.proofs.lemmas.Bool.{le-leb, true≢false}
use Rattle.std.proofs.lemmas.List.{drop-take, take-take, take-append-le, drop-drop, length-take, length-drop, get_or-take}
use Rattle.std.proofs.lemmas.List.Elements.{All-from_recursion, recursion_from_All}
use Rattle.std.proofs.lemmas.Nat.{from_le_bytes-to_le_bytes_8}
use Rattle.hb_edge.specs.Images.{Image, window}
use Rattle.hb_edge.specs.Runs.{then_leaves, weaker}
use Rattle.hb_edge.specs.Stops.{Leaves}
use Rattle.hb_types.specs.declared.change.Stored.{Stored}
use Rattle.hb_types.specs.Lists.{IsAt}
use Rattle.hb_store.specs.declared.fault.StoreFault.{StoreFault}
use Rattle.hb_store.specs.declared.fault.StoreFault.TheVariants.{Fault, Damaged, Spent, NoMemory}
use Rattle.hb_store.specs.declared.point.Point.{Point as Mark}
use Rattle.hb_store.specs.Meanings.{mark_of, HoldsSame, IsStored}
use Rattle.hb_disks.specs.Points.{Point, no_point}
use Rattle.hb_disks.specs.WholeImage.{IsPointAt, PointIs, header_bytes, image_bytes, is_open, sequence_at, valid_header}
use Rattle.hb_whole.specs.declared.header.Header.{Header}
use Rattle.hb_whole.specs.declared.valid.Valid.{Valid}
use Rattle.hb_whole.specs.Headers.{IsHeader, chosen, text_of}
use Rattle.hb_whole.specs.Kept.{header_at}
use Rattle.hb_whole.specs.KeptLaws.{header_cases, image_some, is_at_inside, not_short}
use Rattle.hb_whole.specs.Points.{HasHeader, IsDamaged, IsFound, IsQuiet}
use Rattle.hb_whole.specs.Read.{IsImage}
use Rattle.hb_whole.proofs.Keeping.{gate_is}
use Rattle.hb_whole.proofs.Windows.{is_at_append}

-- ---- the first bytes of a file say what the file says

pub same_open : (read : Image) (k : ℕ) → k < 128 → is_open (take 128 read) k ≡ is_open read k
same_open read k lt = ap (λ (b : ℕ). b == 1) (get_or-take 128 read k 0 lt)

pub same_window : (read : Image) (k n : ℕ) → k + n ≤ 128 → take n (drop k (take 128 read)) ≡ take n (drop k read)
same_window read k n le =
    let e : 128 ≡ k + (128 - k) = omega (arith, le) in
    ap (λ (m : ℕ). take n (drop k (take m read))) e ∙ ap (take n) (drop-take k (128 - k) read) ∙ take-take n (128 - k) (drop k read) (omega (arith, le))

same_sequence : (read : Image) (k : ℕ) → k + 9 ≤ 128 → sequence_at (take 128 read) k ≡ sequence_at read k
same_sequence read k le = ap (from_le_bytes w64) (same_window read (k + 1) 8 (omega (arith, le)))

-- what is read inside the file
pub window_inside : (read : Image) (place n : ℕ) → place + n ≤ length read → window read place n ≡ take n (drop place read)
window_inside read place n le = take-append-le n (drop place read) (replicate n 0) (omega (arith, le, length-drop place read))

-- by the two gates, and whether the first sequence is the lesser one
abbrev pick : Bool → Bool → Bool → Option Bool
pick a b less = if a then (if b && less then Some true else Some false) else (if b then Some true else None)

same_pick : (a b c d e f : Bool) → a ≡ b → c ≡ d → e ≡ f → pick a c e ≡ pick b d f
same_pick a b c d e f x y z = λ i. pick (x i) (y i) (z i)

pub same_chosen : (read : Image) → chosen (take 128 read) ≡ chosen read
same_chosen read =
    let x : is_open (take 128 read) 0 ≡ is_open read 0 = same_open read 0 (omega arith) in
    let y : is_open (take 128 read) 64 ≡ is_open read 64 = same_open read 64 (omega arith) in
    let s : sequence_at (take 128 read) 0 ≡ sequence_at read 0 = same_sequence read 0 (omega arith) in
    let t : sequence_at (take 128 read) 64 ≡ sequence_at read 64 = same_sequence read 64 (omega arith) in
    same_pick _ _ _ _ _ _ x y (λ i. nat_lt (s i) (t i))

pub some_none : {A : Type 0} (x : A) → Some x ≡ None → ⊥
some_none x e = true≢false (ap is_some e)

none_open : (a b less : Bool) → pick a b less ≡ None → (a ≡ false) × (b ≡ false)
none_open true true true e = absurd (some_none true e)
none_open true true false e = absurd (some_none false e)
none_open true false less e = absurd (some_none false e)
none_open false true less e = absurd (some_none true e)
none_open false false less e = (refl, refl)

abbrev IsPick : Bool → Bool → Bool → Bool → Type 0
IsPick a b less second = ((if second then b else a) ≡ true) × ((if second then a else b) ≡ true → less ≡ second)

picked : (a b less second : Bool) → pick a b less ≡ Some second → IsPick a b less second
picked true true true second e = subst (λ (s : Bool). IsPick true true true s) (ap (λ (o : Option Bool). unwrap_or o false) e) (refl, λ t. refl)
picked true true false second e = subst (λ (s : Bool). IsPick true true false s) (ap (λ (o : Option Bool). unwrap_or o false) e) (refl, λ t. refl)
picked true false less second e = subst (λ (s : Bool). IsPick true false less s) (ap (λ (o : Option Bool). unwrap_or o false) e) (refl, λ t. absurd (true≢false (sym t)))
picked false true less second e = subst (λ (s : Bool). IsPick false true less s) (ap (λ (o : Option Bool). unwrap_or o false) e) (refl, λ t. absurd (true≢false (sym t)))
picked false false less second e = absurd (some_none second (sym e))

mapped : (a b less : Bool) → (if a then (if b && less then Some 64 else Some 0) else (if b then Some 64 else None)) ≡ option_map header_at (pick a b less)
mapped true true true = refl
mapped true true false = refl
mapped true false less = refl
mapped false true less = refl
mapped false false less = refl

pub valid_is : (read : Image) → 129 ≤ length read → valid_header read ≡ option_map header_at (chosen read)
valid_is read long = rw (not_short (length read) (λ short. omega (arith, long, short))) (mapped (is_open read 0) (is_open read 64) (nat_lt (sequence_at read 0) (sequence_at read 64)))

opened_at : (read : Image) (second : Bool) → chosen read ≡ Some second
    → (is_open read (header_at second) ≡ true) × (is_open read (header_at (not second)) ≡ true → nat_lt (sequence_at read 0) (sequence_at read 64) ≡ second)
opened_at read true e = picked (is_open read 0) (is_open read 64) (nat_lt (sequence_at read 0) (sequence_at read 64)) true e
opened_at read false e = picked (is_open read 0) (is_open read 64) (nat_lt (sequence_at read 0) (sequence_at read 64)) false e

-- ---- a point's header

abbrev pub header_of : Point → ℕ → Header
header_of q place = record { sequence = q.sequence; from = q.from; floor = q.floor; place = place; length = length (image_bytes q.rows) }

pub behind_gate : (read : Image) (k : ℕ) (q : Point) (place : ℕ) → IsAt read k (header_bytes q place) → take 63 (drop (k + 1) read) ≡ text_of (header_of q place)
behind_gate read k q place is = ap (take 63) (sym (drop-drop 1 k read)) ∙ sym (drop-take 1 63 (drop k read)) ∙ ap (drop 1) is

pub numbers_of : (read : Image) (k : ℕ) (q : Point) (place : ℕ) → IsPointAt read q k place → IsHeader (header_of q place)
numbers_of read k q place is = (is.sequence_small, omega (arith, is.from_small), omega (arith, is.floor_small), is.place_small, is.length_small)

has_header : (read : Image) (second : Bool) (size : ℕ) (q : Point) (place : ℕ) → size ≡ length read → IsPointAt read q (header_at second) place → HasHeader (take 128 read) second size (header_of q place)
has_header read second size q place is_size is = record {
  text = same_window read (header_at second + 1) 63 (omega (arith, header_cases second)) ∙ behind_gate read (header_at second) q place is.headed;
  numbers = numbers_of read (header_at second) q place is;
  within = record {
    from_small = is.from_small;
    floor_small = is.floor_small;
    behind_headers = is.behind_headers;
    inside = omega (arith, is_at_inside read place (image_bytes q.rows) is.imaged (omega (arith, image_some q)), is_size);
  };
}

number_same : (a b k : ℕ) (x y : List ℕ) → a < 2 ^ 64 → b < 2 ^ 64 → from_le_bytes w64 (take 8 (drop k x)) ≡ a → from_le_bytes w64 (take 8 (drop k y)) ≡ b → x ≡ y → a ≡ b
number_same a b k x y sa sb ea eb e = sym ea ∙ ap (λ (l : List ℕ). from_le_bytes w64 (take 8 (drop k l))) e ∙ eb

pub one_header : (g h : Header) → IsHeader g → IsHeader h → text_of g ≡ text_of h → g ≡ h
one_header g h a b e =
    let n0 : g.sequence ≡ h.sequence = number_same _ _ 0 (text_of g) (text_of h) a.0 b.0 (from_le_bytes-to_le_bytes_8 g.sequence a.0) (from_le_bytes-to_le_bytes_8 h.sequence b.0) e in
    let n1 : g.from ≡ h.from = number_same _ _ 8 (text_of g) (text_of h) a.1 b.1 (from_le_bytes-to_le_bytes_8 g.from a.1) (from_le_bytes-to_le_bytes_8 h.from b.1) e in
    let n2 : g.floor ≡ h.floor = number_same _ _ 16 (text_of g) (text_of h) a.2 b.2 (from_le_bytes-to_le_bytes_8 g.floor a.2) (from_le_bytes-to_le_bytes_8 h.floor b.2) e in
    let n3 : g.place ≡ h.place = number_same _ _ 24 (text_of g) (text_of h) a.3 b.3 (from_le_bytes-to_le_bytes_8 g.place a.3) (from_le_bytes-to_le_bytes_8 h.place b.3) e in
    let n4 : g.length ≡ h.length = number_same _ _ 32 (text_of g) (text_of h) a.4 b.4 (from_le_bytes-to_le_bytes_8 g.length a.4) (from_le_bytes-to_le_bytes_8 h.length b.4) e in
    λ i. record { sequence = n0 i; from = n1 i; floor = n2 i; place = n3 i; length = n4 i }

-- ---- what is read is the valid point

module _ (read : Image) (second : Bool) (size : ℕ) (is_size : size ≡ length read) (long : 129 ≤ size) (picks : chosen read ≡ Some second) where
  pub valid_here : valid_header read ≡ Some (header_at second)
  valid_here = valid_is read (omega (arith, is_size, long)) ∙ ap (option_map header_at) picks

  point_here : (q : Point) → PointIs read (Some q) → (place : ℕ) × IsPointAt read q (header_at second) place
  point_here q is = (is.1, subst (λ (k : ℕ). IsPointAt read q k is.1) (ap (λ (o : Option ℕ). unwrap_or o 0) (sym is.2 ∙ valid_here)) is.3)

  pub no_header : ((h : Header) → HasHeader (take 128 read) second size h → ⊥) → (p : Option Point) → PointIs read p → ⊥
  no_header none None is = some_none (header_at second) (sym valid_here ∙ is)
  no_header none (Some q) is = let at = point_here q is in none (header_of q at.0) (has_header read second size q at.0 is_size at.1)

  module _ (h : Header) (has : HasHeader (take 128 read) second size h) where
    text_here : take 63 (drop (header_at second + 1) read) ≡ text_of h
    text_here = sym (same_window read (header_at second + 1) 63 (omega (arith, header_cases second))) ∙ has.text

    pub no_rows : ((rows : List Stored) → IsImage (take h.length (drop h.place read)) rows → ⊥) → (p : Option Point) → PointIs read p → ⊥
    no_rows none None is = some_none (header_at second) (sym valid_here ∙ is)
    no_rows none (Some q) is =
        let at = point_here q is in
        let same : h ≡ header_of q at.0 = one_header h (header_of q at.0) has.numbers (numbers_of read (header_at second) q at.0 at.1) (sym text_here ∙ behind_gate read (header_at second) q at.0 at.1.headed) in
        none q.rows (subst (λ (g : Header). IsImage (take g.length (drop g.place read)) q.rows) (sym same)
        (record { few = at.1.few; spelled = at.1.imaged; ascend = at.1.rows_ascend; fit = recursion_from_All IsStored q.rows at.1.rows_are_rows }))

    module _ (rows : List Stored) (image : IsImage (take h.length (drop h.place read)) rows) where
      abbrev here : Point
      here = record { sequence = h.sequence; from = h.from; floor = h.floor; rows = rows }

      image_long : length (image_bytes rows) ≡ h.length
      image_long = ap length (sym image.spelled) ∙ omega (arith, length-take h.length (drop h.place read), length-drop h.place read, has.within.inside, is_size)

      headed : IsAt read (header_at second) (header_bytes here h.place)
      headed =
          subst (λ (n : ℕ). IsAt read (header_at second) (1 ∷ text_of (record h { length = n }))) (sym image_long)
          (is_at_append read (header_at second) (1 ∷ []) (text_of h) (gate_is read (header_at second) (omega (arith, header_cases second, is_size, long)) (opened_at read second picks).0) text_here)

      stands : IsPointAt read here (header_at second) h.place
      stands = record {
        behind_headers = has.within.behind_headers;
        place_small = has.numbers.3;
        sequence_small = has.numbers.0;
        length_small = subst (λ (n : ℕ). n < 2 ^ 64) (sym image_long) has.numbers.4;
        few = image.few;
        headed = headed;
        imaged = ap (λ (n : ℕ). take n (drop h.place read)) image_long ∙ image.spelled;
        from_small = has.within.from_small;
        floor_small = has.within.floor_small;
        rows_ascend = image.ascend;
        rows_are_rows = All-from_recursion IsStored rows image.fit;
      }

      pub found_here : IsFound read (Some (record { second = second; sequence = h.sequence; place = h.place; length = h.length })) (is_open (take 128 read) (header_at (not second))) (mark_of here) rows
      found_here =
          let other : is_open (take 128 read) (header_at (not second)) ≡ is_open read (header_at (not second)) = same_open read (header_at (not second)) (omega (arith, header_cases (not second))) in
          record {
            point = Some here;
            keeps = record {
              long = omega (arith, is_size, long);
              stands = (here, refl, stands, refl, image_long);
              gate = sym other;
              older = λ t. (opened_at read second picks).1 (sym other ∙ t);
            };
            marked = refl;
            rowed = refl;
          }

pub found_none : (read : Image) → 129 ≤ length read → chosen read ≡ None → IsFound read None false (mark_of no_point) []
found_none read long none =
    let shut = none_open (is_open read 0) (is_open read 64) (nat_lt (sequence_at read 0) (sequence_at read 64)) none in
    record {
      point = None;
      keeps = record { long = omega (arith, long); stands = (refl, shut.0, shut.1); gate = shut.0; older = λ t. absurd (true≢false (sym t)) };
      marked = refl;
      rowed = refl;
    }

pub same_found : (read : Image) (v w : Option Valid) (a b : Bool) (m n : Mark) (xs ys : List Stored) → v ≡ w → a ≡ b → m ≡ n → xs ≡ ys → IsFound read w b n ys → IsFound read v a m xs
same_found read v w a b m n xs ys e f g h is =
    subst (λ (o : Option Valid). IsFound read o a m xs) (sym e) (subst (λ (o : Bool). IsFound read w o m xs) (sym f)
    (subst (λ (o : Mark). IsFound read w b o xs) (sym g) (subst (λ (o : List Stored). IsFound read w b n o) (sym h) is)))

-- ---- files that are too short for a point

short_none : (read : Image) → length read ≤ 128 → valid_header read ≡ None
short_none read short = rw (le-leb (length read) 128 short) refl

pub short_point : (read : Image) → length read ≤ 128 → PointIs read None
short_point read short = short_none read short

short_same_one : (p : Option Point) (read image : Image) → length read ≤ 128 → length image ≤ 128 → PointIs read p → PointIs image p
short_same_one None read image a b is = short_none image b
short_same_one (Some q) read image a b is = absurd (some_none is.0 (sym is.2 ∙ short_none read a))

pub short_same : (read image : Image) → length read ≤ 128 → length image ≤ 128 → HoldsSame PointIs read image
short_same read image a b p = (short_same_one p read image a b, short_same_one p image read b a)

pub holds_same : (read image : Image) → image ≡ read → HoldsSame PointIs read image
holds_same read image e p = (subst (λ (c : Image). PointIs c p) (sym e), subst (λ (c : Image). PointIs c p) e)

-- ---- by the bytes that were read

module _ (read headers : Image) (second : Bool) (size : ℕ) (is_size : size ≡ length read) (long : 129 ≤ size) (is : headers ≡ take 128 read) (picks : chosen headers ≡ Some second) where
  picks_too : chosen read ≡ Some second
  picks_too = sym (same_chosen read) ∙ ap chosen (sym is) ∙ picks

  at_start : (h : Header) → HasHeader headers second size h → HasHeader (take 128 read) second size h
  at_start h has = subst (λ (l : List ℕ). HasHeader l second size h) is has

  pub damaged_header : (place : ℕ) → place ≡ header_at second → ((h : Header) → HasHeader headers second size h → ⊥) → IsDamaged read place
  damaged_header place here none = (
    valid_here read second size is_size long picks_too ∙ ap Some (sym here),
    no_header read second size is_size long picks_too (λ h has. none h (subst (λ (l : List ℕ). HasHeader l second size h) (sym is) has)),
  )

  pub damaged_rows : (place : ℕ) (h : Header) → place ≡ header_at second → HasHeader headers second size h → ((rows : List Stored) → IsImage (take h.length (drop h.place read)) rows → ⊥) → IsDamaged read place
  damaged_rows place h here has none =
      (valid_here read second size is_size long picks_too ∙ ap Some (sym here), no_rows read second size is_size long picks_too h (at_start h has) none)

  pub point_found : (h : Header) (rows : List Stored) (valid : Option Valid) (spare_open : Bool) (mark : Mark) (taken : List Stored) → HasHeader headers second size h → IsImage (take h.length (drop h.place read)) rows
      → valid ≡ Some (record { second = second; sequence = h.sequence; place = h.place; length = h.length }) → spare_open ≡ is_open headers (header_at (not second))
      → mark ≡ record { from = h.from; floor = record { 0 = h.floor } } → taken ≡ rows → IsFound read valid spare_open mark taken
  point_found h rows valid spare_open mark taken has image a b c d =
      same_found read valid _ spare_open _ mark _ taken rows a (b ∙ ap (λ (l : List ℕ). is_open l (header_at (not second))) is) c d
      (found_here read second size is_size long picks_too h (at_start h has) rows image)

pub nothing_found : (read headers : Image) (valid : Option Valid) (spare_open : Bool) (mark : Mark) (rows : List Stored) → 129 ≤ length read → headers ≡ take 128 read → chosen headers ≡ None
    → valid ≡ None → spare_open ≡ false → mark ≡ mark_of no_point → rows ≡ [] → IsFound read valid spare_open mark rows
nothing_found read headers valid spare_open mark rows long is none a b c d =
    same_found read valid None spare_open false mark (mark_of no_point) rows [] a b c d (found_none read long (sym (same_chosen read) ∙ ap chosen (sym is) ∙ none))

-- ---- faults

abbrev fault_or : {T : Type 0} → StoreFault → Result T StoreFault → StoreFault
fault_or d (Ok x) = d
fault_or d (Err f) = f

abbrev place_in : StoreFault → ℕ
place_in Fault = 0
place_in (Damaged n) = n
place_in Spent = 0
place_in NoMemory = 0

pub err_fault : {T : Type 0} (a b : StoreFault) → ◌≡◌ {A = Result T StoreFault} (Err a) (Err b) → a ≡ b
err_fault a b e = ap (fault_or a) e

pub err_place : {T : Type 0} (m n : ℕ) → ◌≡◌ {A = Result T StoreFault} (Err (Damaged m)) (Err (Damaged n)) → m ≡ n
err_place m n e = ap place_in (err_fault (Damaged m) (Damaged n) e)

-- ---- calls that change nothing

abbrev Left : Type 1
Left = ℕ → Image → Type 0

pub quiet_holds : (from to last now : ℕ) (old new : Left) (read : Image) → IsQuiet from to old new last now → last ≤ from → ((image : Image) → old last image → image ≡ read) → Leaves from old new (λ m image. HoldsSame PointIs read image)
quiet_holds from to last now old new read quiet le pending =
    weaker from old new (λ m image. old last image) (λ m image. HoldsSame PointIs read image) (λ m image at is. holds_same read image (pending image is)) (quiet.leaves le)

pub anew_holds : (from to last now : ℕ) (old mid new : Left) (read : Image) → IsQuiet from to old mid last now → last ≤ from → ((image : Image) → old last image → image ≡ read) → length read ≤ 128
    → Leaves to mid new (λ m image. length image ≤ 128) → Leaves from old new (λ m image. HoldsSame PointIs read image)
anew_holds from to last now old mid new read quiet le pending short anew =
    weaker from old new _ (λ m image. HoldsSame PointIs read image) (λ m image at e. ⊎_elim (λ l. holds_same read image (pending image l.1)) (λ r. short_same read image short r.1) e)
    (then_leaves from to old mid new (λ m image. old last image) (λ m image. length image ≤ 128) quiet.later (quiet.leaves le) anew)
