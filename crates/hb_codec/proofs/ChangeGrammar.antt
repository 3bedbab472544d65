-- Changes by ascending place, and their readers.
use Rattle.std.proofs.Common.{◌≡◌, ◌⊎◌, inl, inr, ⊎_elim, ℕ, zero, suc, ◌+◌, ◌-◌, ◌*◌, ◌/◌, ◌%◌, ◌≤◌, ◌<◌, min, Bool, true, false, cond, List, [], ◌∷◌, ◌++◌, length, take, Result, Ok, Err, refl, sym, ◌∙◌, ap, subst, arith, length-append}
use Rattle.std.specs.Prelude.{◌==◌, nat_le, nat_lt, Option, Some, None}
use Rattle.std.proofs.lemmas.List.{append-nil, take_at}
use Rattle.std.proofs.lemmas.List.Elements.{All-from_recursion, recursion_from_All}
use Rattle.std.proofs.lemmas.Bool.{leb-true, le-leb, ltb-true, lt-ltb, and_parts, and_from, eqb-true}
use Rattle.hb_types.specs.declared.change.Change.{Change}
use Rattle.hb_types.specs.declared.places.Place.{Place}
use Rattle.hb_types.specs.Numbers.{two}
use Rattle.hb_types.specs.Places.{IsPlace}
use Rattle.hb_types.specs.Records.{place_bytes, change_bytes, IsChange}
use Rattle.hb_types.specs.Rows.{HasBytes, IsRow}
use Rattle.hb_codec.specs.declared.changes.Slot.{Slot}
use Rattle.hb_codec.specs.Readers.{◌>>=◌, byte_in, number_in, most_above, behind}
use Rattle.hb_codec.specs.RowReaders.{row_in}
use Rattle.hb_codec.specs.PlaceReaders.{place_rank, places, place_in}
use Rattle.hb_codec.specs.ChangeReaders.{pages, length_fits, row_length_in, row_bytes_in, some_row_in, row_part_in, change_in, whole_slot}
use Rattle.hb_codec.specs.Spellings.{IsChangeOf}
use Rattle.hb_codec.proofs.Ranks.{place_below}
use Rattle.hb_codec.proofs.Calculus.{Reads, Stops, Bind, Pure, done, ok_is, reads_bind, reads_pure, reads_same, reads_choice, choose}
use Rattle.hb_codec.proofs.Digits.{IsByte, IsNumber, reads_byte, reads_number, by_test}
use Rattle.hb_codec.proofs.Widths.{digits_one}
use Rattle.hb_codec.proofs.RowGrammar.{IsRowWithin, HasRows, reads_row, row_long}
use Rattle.hb_codec.proofs.PlaceGrammar.{IsPlaceIn, reads_place}

-- ---- the length of a row

abbrev pub HasLength : ℕ → Type 0
HasLength n = (n ≡ 2) ⊎ (4 ≤ n)

pub record IsRowLength (high n : ℕ) (bytes : List ℕ) : Type 0 where
  pub some : HasLength n
  pub below : n ≤ high
  pub is : bytes ≡ two n

pages_cases : (b : ℕ) → ((pages b ≡ 0) × HasLength b) ⊎ (pages b ≡ 1)
pages_cases b = by_test (nat_le 4 b)
    (λ t. inl (rw t refl, inr (leb-true 4 b t)))
    (λ f. by_test (b == 2) (λ t. inl (rw (f, t) refl, inl (eqb-true b 2 t))) (λ g. inr (rw (f, g) refl)))

pages_none : (b : ℕ) → HasLength b → pages b ≡ 0
pages_none b (inl e) = rw e refl
pages_none b (inr le) = let t : nat_le 4 b ≡ true = le-leb 4 b le in rw t refl

module _ (high : ℕ) (least : 2 ≤ high) (limit : high ≤ 4000) where
  Lengths : ℕ → List ℕ → Type 0
  Lengths = Bind (IsByte (length_fits high)) (λ b. Bind (IsNumber 0 1 (pages b) (most_above high b)) (λ t. Pure (b + 256 * t)))

  lengths_to : (n : ℕ) (bytes : List ℕ) → Lengths n bytes → IsRowLength high n bytes
  unfolding Lengths
  lengths_to n bytes is =
      let b = is.value in
      let t = is.is_second.value in
      let p = and_parts (nat_lt b 256) (nat_le (b + 256 * pages b) high) is.is_first.fits in
      let small : b < 256 = ltb-true b 256 p.0 in
      let fits : b + 256 * pages b ≤ high = leb-true (b + 256 * pages b) high p.1 in
      let above : pages b ≤ t = is.is_second.is_first.above in
      let below : t ≤ most_above high b = is.is_second.is_first.below in
      let n_is : n ≡ b + 256 * t = is.is_second.is_second.is in
      let t_small : t < 256 = omega arith in
      let low_is : b ≡ n % 256 = omega (arith, n_is, small) in
      let high_is : t ≡ n / 256 % 256 = omega (arith, n_is, small, t_small) in
      let back : is.back ≡ t ∷ [] = is.is_second.split ∙ ap (λ (l : List ℕ). is.is_second.front ++ l) is.is_second.is_second.empty ∙ append-nil is.is_second.front ∙ is.is_second.is_first.is ∙ digits_one t t_small in
      let whole : bytes ≡ b ∷ t ∷ [] = is.split ∙ (λ i. is.is_first.is i ++ back i) in
      let some : HasLength n = ⊎_elim (λ z. some_zero b t n n_is z.1) (λ o. inr (omega (arith, n_is, o, above))) (pages_cases b) in
      record { some = some; below = omega (arith, n_is, below, fits); is = whole ∙ (λ i. low_is i ∷ high_is i ∷ []) }
    where
      some_zero : (b t n : ℕ) → n ≡ b + 256 * t → HasLength b → HasLength n
      some_zero b zero n e (inl two) = inl (omega (arith, e, two))
      some_zero b (suc t) n e (inl two) = inr (omega (arith, e, two))
      some_zero b t n e (inr four) = inr (omega (arith, e, four))

  lengths_from : (n : ℕ) (bytes : List ℕ) → IsRowLength high n bytes → Lengths n bytes
  unfolding Lengths
  lengths_from n bytes is =
      let b = n % 256 in
      let t = n / 256 in
      let below = is.below in
      let n_is : n ≡ b + 256 * t = omega arith in
      let b_small : b < 256 = omega arith in
      let t_small : t < 256 = omega arith in
      let page : pages b ≤ t = ⊎_elim (λ z. omega (arith, z.0)) (λ o. ⊎_elim (λ none. absurd (omega (arith, o, pages_none b (low_has n is.some none)))) (λ some. omega (arith, o, some)) (t_cases t)) (pages_cases b) in
      let t_is : t ≡ n / 256 % 256 = omega arith in
      record {
        value = b;
        front = b ∷ [];
        back = t ∷ [];
        split = is.is ∙ (λ i. b ∷ sym t_is i ∷ []);
        is_first = record { fits = and_from (nat_lt b 256) (nat_le (b + 256 * pages b) high) (lt-ltb b 256 b_small) (le-leb (b + 256 * pages b) high (omega (arith, page, below, n_is))); is = refl };
        is_second = record { value = t; front = t ∷ []; back = []; split = refl; is_first = record { above = page; below = omega arith; is = sym (digits_one t t_small) }; is_second = record { is = n_is; empty = refl } };
      }
    where
      t_cases : (t : ℕ) → (t ≡ 0) ⊎ (1 ≤ t)
      t_cases zero = inl refl
      t_cases (suc t) = inr (omega arith)

      low_has : (n : ℕ) → HasLength n → n / 256 ≡ 0 → HasLength (n % 256)
      low_has n (inl two) z = inl (omega (arith, two))
      low_has n (inr four) z = inr (omega (arith, four, z))

  pub reads_length : Reads (IsRowLength high) (row_length_in high)
  unfolding Lengths row_length_in
  reads_length =
      reads_same Lengths (IsRowLength high) (row_length_in high) lengths_to lengths_from
      (reads_bind _ (λ b. Bind (IsNumber 0 1 (pages b) (most_above high b)) (λ t. Pure (b + 256 * t))) (byte_in (length_fits high)) (λ b bytes. number_in 0 1 (pages b) (most_above high b) bytes >>= λ t. Ok (b + 256 * t.0, t.1))
      (reads_byte (length_fits high) 2 (and_from true (nat_le 2 high) refl (le-leb 2 high least)))
      (λ b a is. reads_bind _ (λ t. Pure (b + 256 * t)) (number_in 0 1 (pages b) (most_above high b)) (λ t bytes. Ok (b + 256 * t, bytes))
      (reads_number 0 1 (pages b) (most_above high b) (inl refl) (page_le b is.fits) (omega arith)) (λ t c are. reads_pure (b + 256 * t))))
    where
      page_le : (b : ℕ) → length_fits high b ≡ true → pages b ≤ most_above high b
      page_le b t = let fits : b + 256 * pages b ≤ high = leb-true (b + 256 * pages b) high (and_parts (nat_lt b 256) (nat_le (b + 256 * pages b) high) t).1 in omega arith

-- ---- the bytes of what is read

pub record IsRaw {X : Type 0} (G : X → List ℕ → Type 0) (text bytes : List ℕ) : Type 0 where
  pub value : X
  pub spelled : G value text
  pub is : bytes ≡ text

module _ {X : Type 0} (G : X → List ℕ → Type 0) (r : List ℕ → Result (X × List ℕ) ℕ) (reads : Reads G r) where
  abbrev raw : List ℕ → Result (List ℕ × List ℕ) ℕ
  raw bytes = behind (r bytes) >>= λ rest. Ok (take (length bytes - length rest) bytes, rest)

  front_is : (front rest bytes : List ℕ) → bytes ≡ front ++ rest → take (length bytes - length rest) bytes ≡ front
  front_is front rest bytes e =
      let n : length bytes - length rest ≡ length front = omega (arith, ap length e, length-append front rest) in
      ap (λ (k : ℕ). take k bytes) n ∙ ap (λ (l : List ℕ). take (length front) l) e ∙ take_at front rest (length front) refl

  abbrev cut : List ℕ → Result (X × List ℕ) ℕ → Result (List ℕ × List ℕ) ℕ
  cut bytes m = behind m >>= λ rest. Ok (take (length bytes - length rest) bytes, rest)

  raw_sound : (bytes text rest : List ℕ) (m : Result (X × List ℕ) ℕ) → r bytes ≡ m → cut bytes m ≡ Ok (text, rest) → (front : List ℕ) × (bytes ≡ front ++ rest) × IsRaw G text front
  raw_sound bytes text rest (Err left) e f = absurd cc
  raw_sound bytes text rest (Ok p) e f =
      let s = reads.sound bytes p.0 p.1 e in
      let pair : (take (length bytes - length p.1) bytes, p.1) ≡ (text, rest) = ok_is (take (length bytes - length p.1) bytes, p.1) (text, rest) f in
      let same_rest : p.1 ≡ rest = ap (λ (q : List ℕ × List ℕ). q.1) pair in
      let same_text : s.0 ≡ text = sym (front_is s.0 p.1 bytes s.1) ∙ ap (λ (q : List ℕ × List ℕ). q.0) pair in
      (s.0, s.1 ∙ ap (λ (l : List ℕ). s.0 ++ l) same_rest, record { value = p.0; spelled = subst (G p.0) same_text s.2; is = same_text })

  raw_exact : (bytes : List ℕ) (left : ℕ) (m : Result (X × List ℕ) ℕ) → r bytes ≡ m → cut bytes m ≡ Err left → Stops (IsRaw G) bytes left
  raw_exact bytes left (Ok p) e f = absurd cc
  raw_exact bytes left (Err l) e f =
      let same : l ≡ left = cc in
      let st = reads.exact bytes left (subst (λ (n : ℕ). r bytes ≡ Err n) same e) in
      record {
        front = st.front;
        back = st.back;
        split = st.split;
        long = st.long;
        begins = (let b = st.begins in (st.front ++ b.1, b.1, record { value = b.0; spelled = b.2; is = refl }));
        longest = λ f b split is. st.longest f b split (is.2.value, is.1, subst (G is.2.value) (sym is.2.is) is.2.spelled);
      }

  pub reads_raw : Reads (IsRaw G) (λ bytes. behind (r bytes) >>= λ rest. Ok (take (length bytes - length rest) bytes, rest))
  reads_raw = record {
    some = (let s = reads.some in (s.1, s.1, record { value = s.0; spelled = s.2; is = refl }));
    sound = λ bytes x rest e. raw_sound bytes x rest (r bytes) refl e;
    complete = λ x front rest is.
        (let spelled = subst (G is.value) (sym is.is) is.spelled in
        ap (cut (front ++ rest)) (reads.complete is.value front rest spelled) ∙ ap (λ (l : List ℕ). done {A = List ℕ × List ℕ} (l, rest)) (front_is front rest (front ++ rest) refl ∙ is.is));
    exact = λ bytes left e. raw_exact bytes left (r bytes) refl e;
  }

-- ---- a row or none

abbrev pub RowFits : Option (List ℕ) → Type 0
RowFits None = Unit {0}
RowFits (Some row) = IsRow row

abbrev pub row_part : Option (List ℕ) → List ℕ
row_part None = 0 ∷ []
row_part (Some row) = 1 ∷ two (length row) ++ row

pub record IsRowPart (room : ℕ) (o : Option (List ℕ)) (bytes : List ℕ) : Type 0 where
  pub fits : RowFits o
  pub is : bytes ≡ row_part o
  pub below : length bytes ≤ room

has_rows : (len : ℕ) → HasLength len → len ≤ 4000 → HasRows len len
has_rows len (inl e) le = record { order = omega arith; least = omega (arith, e); counts = omega (arith, e) }
has_rows len (inr four) le = record { order = omega arith; least = omega (arith, four); counts = omega (arith, four, le) }

module _ (room : ℕ) (enough : 5 ≤ room) where
  abbrev row_high : ℕ
  row_high = min 4000 (room - 3)

  Somes : Option (List ℕ) → List ℕ → Type 0
  Somes = Bind (IsRowLength row_high) (λ len. Bind (IsRaw (IsRowWithin len len)) (λ row. Pure (Some row)))

  reads_somes : Reads Somes (some_row_in room)
  unfolding Somes some_row_in row_bytes_in
  reads_somes =
      reads_bind _ (λ len. Bind (IsRaw (IsRowWithin len len)) (λ row. Pure (Some row))) (row_length_in row_high) (λ len bytes. row_bytes_in len bytes >>= λ row. Ok (Some row.0, row.1))
      (reads_length row_high (omega arith) (omega arith))
      (λ len a is. reads_bind _ (λ row. Pure (Some row)) (row_bytes_in len) (λ row bytes. Ok (Some row, bytes))
      (reads_raw (IsRowWithin len len) (row_in len len) (reads_row len len (has_rows len is.some (within len is.below)))) (λ row b are. reads_pure (Some row)))
    where
      within : (len : ℕ) → len ≤ min 4000 (room - 3) → len ≤ 4000
      within len le = omega arith

  somes_to : (o : Option (List ℕ)) (back : List ℕ) → Somes o back → IsRowPart room o (1 ∷ back)
  unfolding Somes
  somes_to o back is =
      let len = is.value in
      let row = is.is_second.value in
      let raw = is.is_second.is_first in
      let w = raw.spelled in
      let above = w.above in
      let below = w.below in
      let len_below = is.is_first.below in
      let long : length row ≡ len = omega arith in
      let rest : is.back ≡ row = is.is_second.split ∙ ap (λ (l : List ℕ). is.is_second.front ++ l) is.is_second.is_second.empty ∙ append-nil is.is_second.front ∙ raw.is in
      let whole : back ≡ two (length row) ++ row = is.split ∙ (λ i. is.is_first.is i ++ rest i) ∙ ap (λ (n : ℕ). two n ++ row) (sym long) in
      let sum : length (1 ∷ back) ≡ 3 + length row = omega (arith, ap length whole) in
      subst (λ (v : Option (List ℕ)). IsRowPart room v (1 ∷ back)) (sym is.is_second.is_second.is)
      (record {
        fits = (omega arith, (raw.value, record { values_fit = record { few = w.few; fit = All-from_recursion HasBytes raw.value w.fit }; spelled = w.is }));
        is = ap (λ (l : List ℕ). 1 ∷ l) whole;
        below = omega (arith, sum, long, len_below);
      })

  somes_from : (row back : List ℕ) → IsRow row → back ≡ two (length row) ++ row → 3 + length row ≤ room → Somes (Some row) back
  unfolding Somes
  somes_from row back fits is below =
      let len = length row in
      let values = fits.1.0 in
      let of = fits.1.1 in
      let fit = recursion_from_All HasBytes values of.values_fit.fit in
      let small = fits.0 in
      record {
        value = len;
        front = two len;
        back = row;
        split = is;
        is_first = record { some = row_long values row fit of.spelled; below = omega arith; is = refl };
        is_second = record {
          value = row;
          front = row;
          back = [];
          split = sym (append-nil row);
          is_first = record { value = values; spelled = record { few = of.values_fit.few; fit = fit; is = of.spelled; above = omega arith; below = omega arith }; is = refl };
          is_second = record { is = refl; empty = refl };
        };
      }

module _ (room : ℕ) (enough : 1 ≤ room) where
  abbrev flag_high : ℕ
  flag_high = cond (nat_le 5 room) 1 0

  abbrev Kinds : ℕ → Option (List ℕ) → List ℕ → Type 0
  Kinds flag = choose (flag == 0) (Pure None) (Bind (IsRowLength (min 4000 (room - 3))) (λ len. Bind (IsRaw (IsRowWithin len len)) (λ row. Pure (Some row))))

  Parts : Option (List ℕ) → List ℕ → Type 0
  Parts = Bind (IsNumber 0 1 0 flag_high) Kinds

  flag_small : (b : Bool) → cond b 1 0 < 256
  flag_small true = omega arith
  flag_small false = omega arith

  flag_enough : (flag : ℕ) → flag ≤ cond (nat_le 5 room) 1 0 → (flag == 0) ≡ false → (flag ≡ 1) × (5 ≤ room)
  flag_enough flag le f = by_test (nat_le 5 room)
      (λ t. let h : flag ≤ 1 = subst (λ (b : Bool). flag ≤ cond b 1 0) t le in (one flag h f, leb-true 5 room t))
      (λ g. let h : flag ≤ 0 = subst (λ (b : Bool). flag ≤ cond b 1 0) g le in absurd (omega (arith, one flag (omega (arith, h)) f, h)))
    where
      one : (flag : ℕ) → flag ≤ 1 → (flag == 0) ≡ false → flag ≡ 1
      one zero h f = absurd (cc)
      one (suc flag) h f = omega (arith, h)

  reads_parts : Reads Parts (row_part_in room)
  unfolding Parts row_part_in Somes
  reads_parts =
      reads_bind _ Kinds (number_in 0 1 0 flag_high) (λ flag bytes. cond (flag == 0) (Ok (None, bytes)) (some_row_in room bytes))
      (reads_number 0 1 0 flag_high (inl refl) (omega arith) (flag_small (nat_le 5 room)))
      (λ flag a is. reads_choice (flag == 0) (Pure None) (Bind (IsRowLength (min 4000 (room - 3))) (λ len. Bind (IsRaw (IsRowWithin len len)) (λ row. Pure (Some row)))) (λ bytes. Ok (None, bytes)) (some_row_in room) (λ e. reads_pure None) (λ f. reads_somes room (flag_enough flag is.below f).1))

  parts_to : (o : Option (List ℕ)) (bytes : List ℕ) → Parts o bytes → IsRowPart room o bytes
  unfolding Parts Somes
  parts_to o bytes is =
      let flag = is.value in
      let below : flag ≤ cond (nat_le 5 room) 1 0 = is.is_first.below in
      let small : flag < 256 = limit flag (nat_le 5 room) below in
      let head : is.front ≡ flag ∷ [] = is.is_first.is ∙ digits_one flag small in
      let whole : bytes ≡ flag ∷ is.back = is.split ∙ ap (λ (l : List ℕ). l ++ is.back) head in
      subst (IsRowPart room o) (sym whole)
      (by_test (flag == 0)
      (λ t. let z : flag ≡ 0 = eqb-true flag 0 t in
      let none : Pure {X = Option (List ℕ)} None o is.back = subst (λ (b : Bool). choose b (Pure None) (Bind (IsRowLength (min 4000 (room - 3))) (λ len. Bind (IsRaw (IsRowWithin len len)) (λ row. Pure (Some row)))) o is.back) t is.is_second in
      subst (λ (v : Option (List ℕ)). IsRowPart room v (flag ∷ is.back)) (sym none.is)
      (record { fits = tt; is = (λ i. z i ∷ none.empty i); below = omega (arith, ap length none.empty) }))
      (λ f. let one = flag_enough flag below f in
      let some = subst (λ (b : Bool). choose b (Pure None) (Bind (IsRowLength (min 4000 (room - 3))) (λ len. Bind (IsRaw (IsRowWithin len len)) (λ row. Pure (Some row)))) o is.back) f is.is_second in
      subst (λ (k : ℕ). IsRowPart room o (k ∷ is.back)) (sym one.0) (somes_to room one.1 o is.back some)))
    where
      limit : (flag : ℕ) (b : Bool) → flag ≤ cond b 1 0 → flag < 256
      limit flag true le = omega (arith, le)
      limit flag false le = omega (arith, le)

  parts_from : (o : Option (List ℕ)) (bytes : List ℕ) → IsRowPart room o bytes → Parts o bytes
  unfolding Parts Somes
  parts_from None bytes is = record {
    value = 0;
    front = 0 ∷ [];
    back = [];
    split = is.is;
    is_first = record { above = omega arith; below = omega arith; is = refl };
    is_second = record { is = refl; empty = refl };
  }
  parts_from (Some row) bytes is =
      let sum : length bytes ≡ 3 + length row = omega (arith, ap length is.is) in
      let below = is.below in
      let fit = recursion_from_All HasBytes is.fits.1.0 is.fits.1.1.values_fit.fit in
      let least = least_of (length row) (row_long is.fits.1.0 row fit is.fits.1.1.spelled) in
      let five : 5 ≤ room = omega (arith, sum, below, least) in
      let t : nat_le 5 room ≡ true = le-leb 5 room five in
      record {
        value = 1;
        front = 1 ∷ [];
        back = two (length row) ++ row;
        split = is.is;
        is_first = record { above = omega arith; below = subst (λ (b : Bool). 1 ≤ cond b 1 0) (sym t) (omega arith); is = refl };
        is_second = somes_from room five row (two (length row) ++ row) is.fits refl (omega (arith, sum, below));
      }
    where
      least_of : (n : ℕ) → HasLength n → 2 ≤ n
      least_of n (inl e) = omega (arith, e)
      least_of n (inr e) = omega (arith, e)

  pub reads_part : Reads (IsRowPart room) (row_part_in room)
  reads_part = reads_same Parts (IsRowPart room) (row_part_in room) parts_to parts_from reads_parts

-- ---- one change before n more

pub record IsChangeAt (n : ℕ) (slot : Slot) (c : Change) (bytes : List ℕ) : Type 0 where
  pub fits : IsChange c
  pub is : bytes ≡ change_bytes c
  pub above : slot.least ≤ place_rank c.place
  pub below : place_rank c.place + n < places
  pub room : length bytes + 15 * n ≤ slot.room

pub record SlotFits (n : ℕ) (slot : Slot) : Type 0 where
  pub some : slot.least + n ≤ places
  pub enough : 15 * n ≤ slot.room

pub change_is : (p : Place) (o : Option (List ℕ)) → change_bytes (record { place = p; row = o }) ≡ place_bytes p ++ row_part o
change_is p None = refl
change_is p (Some row) = refl

pub fits_to : (p : Place) (o : Option (List ℕ)) → IsPlace p → RowFits o → IsChange (record { place = p; row = o })
fits_to p None is fits = (is, fits)
fits_to p (Some row) is fits = (is, fits)

pub fits_from : (p : Place) (o : Option (List ℕ)) → IsChange (record { place = p; row = o }) → IsPlace p × RowFits o
fits_from p None is = (is.0, is.1)
fits_from p (Some row) is = (is.0, is.1)

module _ (n : ℕ) (slot : Slot) (v : SlotFits (suc n) slot) where
  abbrev last : ℕ
  last = places - 1 - n

  abbrev left : ℕ
  left = slot.room - (14 + 15 * n)

  Changes : Change → List ℕ → Type 0
  Changes = Bind (IsPlaceIn slot.least last) (λ p. Bind (IsRowPart left) (λ o. Pure (record { place = p; row = o })))

  changes_to : (c : Change) (bytes : List ℕ) → Changes c bytes → IsChangeAt n slot c bytes
  unfolding Changes
  changes_to c bytes is =
      let p = is.value in
      let o = is.is_second.value in
      let rank_low = is.is_first.above in
      let rank_high = is.is_first.below in
      let some = v.some in
      let enough = v.enough in
      let row_room = is.is_second.is_first.below in
      let part : is.back ≡ row_part o = is.is_second.split ∙ ap (λ (l : List ℕ). is.is_second.front ++ l) is.is_second.is_second.empty ∙ append-nil is.is_second.front ∙ is.is_second.is_first.is in
      let whole : bytes ≡ place_bytes p ++ row_part o = is.split ∙ (λ i. is.is_first.is i ++ part i) in
      let sum : length bytes ≡ 14 + length (row_part o) = omega (arith, ap length whole) in
      let part_long : length is.is_second.front ≡ length (row_part o) = ap length is.is_second.is_first.is in
      subst (λ (k : Change). IsChangeAt n slot k bytes) (sym is.is_second.is_second.is)
      (record {
        fits = fits_to p o is.is_first.fits is.is_second.is_first.fits;
        is = whole ∙ sym (change_is p o);
        above = rank_low;
        below = omega (arith, rank_high, some);
        room = omega (arith, sum, part_long, row_room, enough);
      })

  changes_from : (c : Change) (bytes : List ℕ) → IsChangeAt n slot c bytes → Changes c bytes
  unfolding Changes
  changes_from c bytes is =
      let fits = fits_from c.place c.row is.fits in
      let above = is.above in
      let below = is.below in
      let room = is.room in
      let whole : bytes ≡ place_bytes c.place ++ row_part c.row = is.is ∙ change_is c.place c.row in
      let sum : length bytes ≡ 14 + length (row_part c.row) = omega (arith, ap length whole) in
      record {
        value = c.place;
        front = place_bytes c.place;
        back = row_part c.row;
        split = whole;
        is_first = record { fits = fits.0; is = refl; above = above; below = omega arith };
        is_second = record { value = c.row; front = row_part c.row; back = []; split = sym (append-nil (row_part c.row)); is_first = record { fits = fits.1; is = refl; below = omega (arith, sum, room) }; is_second = record { is = refl; empty = refl } };
      }

  pub reads_change : Reads (IsChangeAt n slot) (change_in n slot)
  unfolding Changes change_in
  reads_change =
      reads_same Changes (IsChangeAt n slot) (change_in n slot) changes_to changes_from
      (reads_bind _ (λ p. Bind (IsRowPart left) (λ o. Pure (record { place = p; row = o }))) (place_in slot.least last) (λ p bytes. row_part_in left bytes >>= λ o. Ok (record { place = p; row = o.0 }, o.1))
      (reads_place slot.least last (omega (arith, v.some)) (omega arith))
      (λ p a is. reads_bind _ (λ o. Pure (record { place = p; row = o })) (row_part_in left) (λ o bytes. Ok (record { place = p; row = o }, bytes))
      (reads_part left (omega (arith, v.enough))) (λ o b are. reads_pure (record { place = p; row = o }))))

-- ---- every change

pub reads_any_change : Reads IsChangeOf (change_in 0 whole_slot)
reads_any_change =
    reads_same (IsChangeAt 0 whole_slot) IsChangeOf (change_in 0 whole_slot)
    (λ c bytes is. record { fits = is.fits; spelled = is.is })
    (λ c bytes is. from c bytes is)
    (reads_change 0 whole_slot (record { some = omega arith; enough = omega arith }))
  where
    part_long : (o : Option (List ℕ)) → RowFits o → length (row_part o) ≤ 4003
    part_long None fits = omega arith
    part_long (Some row) fits = omega (arith, fits.0)

    from : (c : Change) (bytes : List ℕ) → IsChangeOf c bytes → IsChangeAt 0 whole_slot c bytes
    from c bytes is =
        let fits = fits_from c.place c.row is.fits in
        let below = place_below c.place fits.0 in
        let long = part_long c.row fits.1 in
        record { fits = is.fits; is = is.spelled; above = omega arith; below = omega (arith, below); room = omega (arith, ap length is.spelled, ap length (change_is c.place c.row), long) }
