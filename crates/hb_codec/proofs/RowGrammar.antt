-- Rows: the values of a row, and readers that keep room for those that are left.
use Rattle.std.proofs.Common.{◌≡◌, ◌⊎◌, inl, inr, ℕ, zero, suc, ◌+◌, ◌-◌, ◌*◌, ◌≤◌, ◌<◌, Bool, true, false, cond, List, [], ◌∷◌, ◌++◌, length, map, Ok, refl, sym, ◌∙◌, ap, subst, arith, length-append}
use Rattle.std.specs.Prelude.{◌==◌, nat_le}
use Rattle.std.specs.Int.{w32, cast_signed, cast_unsigned}
use Rattle.std.specs.List.{AllByRecursion}
use Rattle.std.proofs.lemmas.List.{append-nil}
use Rattle.std.proofs.lemmas.Bool.{leb-true, le-leb, and_parts, and_from, eqb-true, eq-eqb}
use Rattle.std.proofs.lemmas.Int.{to_z-of_z, of_z-to_z}
use Rattle.hb_types.specs.declared.value.Value.{Value}
use Rattle.hb_types.specs.declared.value.Value.TheVariants.{Int, Text}
use Rattle.hb_types.specs.Lists.{joined}
use Rattle.hb_types.specs.Numbers.{signed_four, four}
use Rattle.std.proofs.lemmas.List.Elements.{All-from_recursion, recursion_from_All}
use Rattle.hb_types.specs.Rows.{value_bytes, row_bytes, HasBytes, IsRowOf}
use Rattle.hb_codec.specs.declared.rows.Room.{Room}
use Rattle.hb_codec.specs.Readers.{◌>>=◌, number_in, exactly_in, many_in}
use Rattle.hb_codec.specs.RowReaders.{integer_fits, shortest_text, longest_text, integer_in, text_in, kind_in, value_in, room_after, fewest, most, row_in}
use Rattle.hb_codec.proofs.Calculus.{Reads, Bind, Pure, reads_bind, reads_pure, reads_same, reads_choice, choose}
use Rattle.hb_codec.proofs.Digits.{IsNumber, IsExactly, reads_number, reads_exactly, by_test}
use Rattle.hb_codec.proofs.Widths.{digits_one, digits_four}
use Rattle.hb_codec.proofs.Lists.{Many, parts, cons, reads_many}
use Rattle.hb_codec.proofs.Signed.{integer_fits_signed, signed_is_integer, unsigned_small}

-- ---- one value

pub record IsValueAt (n : ℕ) (room : Room) (value : Value) (bytes : List ℕ) : Type 0 where
  pub fits : HasBytes value
  pub is : bytes ≡ value_bytes value
  pub low : room.low ≤ length bytes + 257 * n
  pub high : length bytes + 2 * n ≤ room.high

-- the values that are left have room
pub record Valid (n : ℕ) (room : Room) : Type 0 where
  pub order : room.low ≤ room.high
  pub least : 2 * n ≤ room.high
  pub greatest : room.low ≤ 257 * n

value_long : (v : Value) → HasBytes v → (2 ≤ length (value_bytes v)) × (length (value_bytes v) ≤ 257)
value_long (Int z) fits = (omega arith, omega arith)
value_long (Text t) fits = (omega arith, omega arith)

IsIntegerAt : Value → List ℕ → Type 0
IsIntegerAt = Bind (IsNumber 0 4 0 4294967295) (λ n. Pure (Int (cast_signed w32 n)))

IsTextAt : ℕ → Room → Value → List ℕ → Type 0
IsTextAt n room = Bind (IsNumber 0 1 (shortest_text n room) (longest_text n room)) (λ len. Bind (IsExactly len) (λ t. Pure (Text t)))

reads_integer : Reads IsIntegerAt integer_in
unfolding IsIntegerAt integer_in
reads_integer = reads_bind _ _ (number_in 0 4 0 4294967295) (λ n bytes. Ok (Int (cast_signed w32 n), bytes)) (reads_number 0 4 0 4294967295 (inl refl) (omega arith) (omega arith)) (λ n a is. reads_pure (Int (cast_signed w32 n)))

reads_text : (n : ℕ) (room : Room) → Valid (suc n) room → Reads (IsTextAt n room) (text_in n room)
unfolding IsTextAt text_in
reads_text n room v =
    reads_bind _ _ (number_in 0 1 (shortest_text n room) (longest_text n room)) (λ len bytes. exactly_in len bytes >>= λ text. Ok (Text text.0, text.1))
    (reads_number 0 1 (shortest_text n room) (longest_text n room) (inl refl) (omega (arith, v.order, v.least, v.greatest)) (omega arith))
    (λ len a is. reads_bind (IsExactly len) (λ t. Pure (Text t)) (exactly_in len) (λ t bytes. Ok (Text t, bytes)) (reads_exactly len) (λ t b are. reads_pure (Text t)))

abbrev kind_from : ℕ → Room → ℕ
kind_from n room = cond (integer_fits n room) 1 2

kind_low : (b : Bool) → cond b 1 2 ≤ 2
kind_low true = omega arith
kind_low false = omega arith

abbrev Kinds : ℕ → Room → ℕ → Value → List ℕ → Type 0
Kinds n room kind = choose (kind == 1) IsIntegerAt (IsTextAt n room)

Split : ℕ → Room → Value → List ℕ → Type 0
Split n room = Bind (IsNumber 0 1 (kind_from n room) 2) (Kinds n room)

reads_split : (n : ℕ) (room : Room) → Valid (suc n) room → Reads (Split n room) (value_in n room)
unfolding Split value_in kind_in
reads_split n room v =
    reads_bind _ (Kinds n room) (number_in 0 1 (kind_from n room) 2) (λ kind bytes. cond (kind == 1) (integer_in bytes) (text_in n room bytes))
    (reads_number 0 1 (kind_from n room) 2 (inl refl) (kind_low (integer_fits n room)) (omega arith))
    (λ kind a is. reads_choice (kind == 1) IsIntegerAt (IsTextAt n room) integer_in (text_in n room) (λ e. reads_integer) (λ e. reads_text n room v))

int_to : (n : ℕ) (room : Room) (back : List ℕ) (v : Value) → Valid (suc n) room → integer_fits n room ≡ true → IsIntegerAt v back → IsValueAt n room v (1 ∷ back)
unfolding IsIntegerAt
int_to n room back v valid ok is =
    let m = is.value in
    let small : m < 4294967296 = (let b = is.is_first.below in omega arith) in
    let p = and_parts (nat_le (5 + 2 * n) room.high) (nat_le room.low (5 + 257 * n)) ok in
    let high = leb-true (5 + 2 * n) room.high p.0 in
    let low = leb-true room.low (5 + 257 * n) p.1 in
    let spelled : back ≡ four m = is.split ∙ ap (λ (l : List ℕ). is.front ++ l) is.is_second.empty ∙ append-nil is.front ∙ is.is_first.is ∙ digits_four m small in
    let same : cast_unsigned w32 (cast_signed w32 m) ≡ m = of_z-to_z w32 m small in
    let whole : back ≡ signed_four (cast_signed w32 m) = spelled ∙ ap four (sym same) in
    let long : length (1 ∷ back) ≡ 5 = ap (λ (l : List ℕ). length (1 ∷ l)) spelled in
    subst (λ (w : Value). IsValueAt n room w (1 ∷ back)) (sym is.is_second.is)
    (record { fits = signed_is_integer m small; is = ap (λ (l : List ℕ). 1 ∷ l) whole; low = omega (arith, long); high = omega (arith, long) })

text_to : (n : ℕ) (room : Room) (back : List ℕ) (v : Value) → Valid (suc n) room → IsTextAt n room v back → IsValueAt n room v (2 ∷ back)
unfolding IsTextAt
text_to n room back v valid is =
    let len = is.value in
    let t = is.is_second.value in
    let below = is.is_first.below in
    let above = is.is_first.above in
    let small : len < 256 = omega arith in
    let t_long : length t ≡ len = is.is_second.is_first.long in
    let rest : is.back ≡ t = is.is_second.split ∙ ap (λ (l : List ℕ). is.is_second.front ++ l) is.is_second.is_second.empty ∙ append-nil is.is_second.front ∙ is.is_second.is_first.is in
    let head : is.front ≡ len ∷ [] = is.is_first.is ∙ digits_one len small in
    let spelled : back ≡ len ∷ t = is.split ∙ (λ i. head i ++ rest i) in
    let whole : back ≡ length t ∷ t = spelled ∙ ap (λ (k : ℕ). k ∷ t) (sym t_long) in
    let long : length (2 ∷ back) ≡ 2 + length t = omega (arith, ap length spelled) in
    subst (λ (w : Value). IsValueAt n room w (2 ∷ back)) (sym is.is_second.is_second.is)
    (record { fits = omega arith; is = ap (λ (l : List ℕ). 2 ∷ l) whole; low = omega (arith, long, valid.greatest); high = omega (arith, long, valid.least) })

split_to : (n : ℕ) (room : Room) (v : Value) (bytes : List ℕ) → Valid (suc n) room → Split n room v bytes → IsValueAt n room v bytes
unfolding Split
split_to n room v bytes valid is =
    let k = is.value in
    let small : k < 256 = (let b = is.is_first.below in omega arith) in
    let head : is.front ≡ k ∷ [] = is.is_first.is ∙ digits_one k small in
    let whole : bytes ≡ k ∷ is.back = is.split ∙ ap (λ (l : List ℕ). l ++ is.back) head in
    let above = is.is_first.above in
    let below = is.is_first.below in
    subst (IsValueAt n room v) (sym whole)
    (by_test (k == 1)
    (λ t. let one : k ≡ 1 = eqb-true k 1 t in
    let ok : integer_fits n room ≡ true = fits_if (integer_fits n room) one above in
    subst (λ (m : ℕ). IsValueAt n room v (m ∷ is.back)) (sym one) (int_to n room is.back v valid ok (subst (λ (b : Bool). choose b IsIntegerAt (IsTextAt n room) v is.back) t is.is_second)))
    (λ f. let two : k ≡ 2 = two_is k f (low_one (integer_fits n room) above) below in
    subst (λ (m : ℕ). IsValueAt n room v (m ∷ is.back)) (sym two) (text_to n room is.back v valid (subst (λ (b : Bool). choose b IsIntegerAt (IsTextAt n room) v is.back) f is.is_second))))
  where
    fits_if : (b : Bool) {k : ℕ} → k ≡ 1 → cond b 1 2 ≤ k → b ≡ true
    fits_if true e above = refl
    fits_if false e above = absurd (omega (arith, e, above))

    low_one : (b : Bool) {k : ℕ} → cond b 1 2 ≤ k → 1 ≤ k
    low_one true above = omega (arith, above)
    low_one false above = omega (arith, above)

    two_is : (k : ℕ) → (k == 1) ≡ false → 1 ≤ k → k ≤ 2 → k ≡ 2
    two_is k f low high = by_test (k == 2) (λ t. eqb-true k 2 t) (λ g. absurd (omega (arith, not_is k 1 f, not_is k 2 g, low, high)))
      where
        not_is : (a b : ℕ) → (a == b) ≡ false → a ≡ b → ⊥
        not_is a b f e = differ (eq-eqb a b e) f
          where
            differ : {v : Bool} → v ≡ true → v ≡ false → ⊥
            differ p q = cc

split_from : (n : ℕ) (room : Room) (v : Value) (bytes : List ℕ) → IsValueAt n room v bytes → Split n room v bytes
unfolding Split IsIntegerAt IsTextAt
split_from n room (Int z) bytes is =
    let low = is.low in
    let high = is.high in
    let long : length bytes ≡ 5 = ap length is.is in
    let ok : integer_fits n room ≡ true = and_from (nat_le (5 + 2 * n) room.high) (nat_le room.low (5 + 257 * n)) (le-leb (5 + 2 * n) room.high (omega arith)) (le-leb room.low (5 + 257 * n) (omega arith)) in
    let m = cast_unsigned w32 z in
    let sfits = integer_fits_signed z is.fits in
    let small : m < 4294967296 = unsigned_small z is.fits in
    record {
      value = 1;
      front = 1 ∷ [];
      back = signed_four z;
      split = is.is;
      is_first = record { above = subst (λ (b : Bool). cond b 1 2 ≤ 1) (sym ok) (omega arith); below = omega arith; is = refl };
      is_second = record { value = m; front = signed_four z; back = []; split = sym (append-nil (signed_four z)); is_first = record { above = omega arith; below = omega arith; is = sym (digits_four m small) }; is_second = record { is = ap Int (sym (to_z-of_z w32 z sfits)); empty = refl } };
    }
split_from n room (Text t) bytes is =
    let low = is.low in
    let high = is.high in
    let long : length bytes ≡ 2 + length t = omega (arith, ap length is.is) in
    let small : length t ≤ 255 = is.fits in
    record {
      value = 2;
      front = 2 ∷ [];
      back = length t ∷ t;
      split = is.is;
      is_first = record { above = kind_low (integer_fits n room); below = omega arith; is = refl };
      is_second = record {
        value = length t;
        front = length t ∷ [];
        back = t;
        split = refl;
        is_first = record { above = omega arith; below = omega arith; is = sym (digits_one (length t) (omega arith)) };
        is_second = record { value = t; front = t; back = []; split = sym (append-nil t); is_first = record { long = refl; is = refl }; is_second = record { is = refl; empty = refl } };
      };
    }

reads_value : (n : ℕ) (room : Room) → Valid (suc n) room → Reads (IsValueAt n room) (value_in n room)
reads_value n room v = reads_same (Split n room) (IsValueAt n room) (value_in n room) (λ x b is. split_to n room x b v is) (split_from n room) (reads_split n room v)

keeps_room : (n : ℕ) (room : Room) (v : Value) (bytes : List ℕ) → Valid (suc n) room → IsValueAt n room v bytes → Valid n (room_after n room v)
keeps_room n room v bytes valid is =
    let long : length bytes ≡ length (value_bytes v) = ap length is.is in
    let low = is.low in
    let high = is.high in
    record { order = omega (arith, valid.order); least = omega arith; greatest = omega arith }

-- ---- so many values

pub record AreValues (n : ℕ) (room : Room) (values : List Value) (bytes : List ℕ) : Type 0 where
  pub count : length values ≡ n
  pub fit : AllByRecursion HasBytes values
  pub is : bytes ≡ joined (map value_bytes values)
  pub low : room.low ≤ length bytes
  pub high : length bytes ≤ room.high

values_long : (values : List Value) → AllByRecursion HasBytes values → (2 * length values ≤ length (joined (map value_bytes values))) × (length (joined (map value_bytes values)) ≤ 257 * length values)
values_long [] fit = (omega arith, omega arith)
values_long (v ∷ vs) fit =
    let one = value_long v fit.0 in
    let more = values_long vs fit.1 in
    let sum = length-append (value_bytes v) (joined (map value_bytes vs)) in
    (omega (arith, one.0, more.0, sum), omega (arith, one.1, more.1, sum))

nil : {X : Type 0} (l : List X) → length l ≡ 0 → l ≡ []
nil [] z = refl
nil (x ∷ l) z = absurd (omega (arith, z))

values_to : (n : ℕ) (room : Room) (values : List Value) (bytes : List ℕ) → Valid n room → Many IsValueAt room_after n room values bytes → AreValues n room values bytes
values_to zero room values bytes valid is = record {
  count = ap length is.is;
  fit = subst (AllByRecursion HasBytes) (sym is.is) tt;
  is = is.empty ∙ sym (ap (λ (l : List Value). joined (map value_bytes l)) is.is);
  low = omega (arith, valid.greatest);
  high = omega (arith, ap length is.empty);
}
values_to (suc n) room values bytes valid is =
    let p = parts IsValueAt room_after n room values bytes is in
    let keep = keeps_room n room p.first p.front valid p.one in
    let more = values_to n (room_after n room p.first) p.others p.back keep p.more in
    let sum : length bytes ≡ length p.front + length p.back = ap length p.split ∙ length-append p.front p.back in
    let front_long : length p.front ≡ length (value_bytes p.first) = ap length p.one.is in
    record {
      count = ap length p.is ∙ omega (arith, more.count);
      fit = subst (AllByRecursion HasBytes) (sym p.is) (p.one.fits, more.fit);
      is = p.split ∙ (λ i. p.one.is i ++ more.is i) ∙ sym (ap (λ (l : List Value). joined (map value_bytes l)) p.is);
      low = omega (arith, sum, front_long, more.low);
      high = omega (arith, sum, front_long, more.high, p.one.high);
    }

values_from : (n : ℕ) (room : Room) (values : List Value) (bytes : List ℕ) → AreValues n room values bytes → Many IsValueAt room_after n room values bytes
values_from zero room values bytes are = let none = nil values are.count in record { is = none; empty = are.is ∙ ap (λ (l : List Value). joined (map value_bytes l)) none }
values_from (suc n) room [] bytes are = absurd (omega (arith, are.count))
values_from (suc n) room (v ∷ vs) bytes are =
    let back = joined (map value_bytes vs) in
    let sum : length bytes ≡ length (value_bytes v) + length back = ap length are.is ∙ length-append (value_bytes v) back in
    let long = values_long vs are.fit.1 in
    let count : length vs ≡ n = omega (arith, are.count) in
    let low = are.low in
    let high = are.high in
    subst (Many IsValueAt room_after (suc n) room (v ∷ vs)) (sym are.is)
    (cons IsValueAt room_after n room v vs (value_bytes v) back
    (record { fits = are.fit.0; is = refl; low = omega (arith, long.1, sum, count); high = omega (arith, long.0, sum, count) })
    (values_from n (room_after n room v) vs back (record { count = count; fit = are.fit.1; is = refl; low = omega (arith, sum); high = omega (arith, sum) })))

reads_values : (n : ℕ) (room : Room) → Valid n room → Reads (AreValues n room) (many_in value_in room_after n room)
reads_values n room v =
    reads_same (Many IsValueAt room_after n room) (AreValues n room) (many_in value_in room_after n room) (λ x b is. values_to n room x b v is) (values_from n room)
    (reads_many IsValueAt value_in room_after Valid reads_value keeps_room n room v)

-- ---- a row

pub record IsRowWithin (low high : ℕ) (values : List Value) (bytes : List ℕ) : Type 0 where
  pub few : length values ≤ 255
  pub fit : AllByRecursion HasBytes values
  pub is : bytes ≡ row_bytes values
  pub above : low ≤ length bytes
  pub below : length bytes ≤ high

-- a row of such a length exists
pub record HasRows (low high : ℕ) : Type 0 where
  pub order : low ≤ high
  pub least : 2 ≤ high
  pub counts : fewest low ≤ most high

module _ (low high : ℕ) (has : HasRows low high) where
  room : Room
  room = record { low = low - 2; high = high - 2 }

  RowSplit : List Value → List ℕ → Type 0
  RowSplit = Bind (IsNumber 0 1 1 1) (λ format. Bind (IsNumber 0 1 (fewest low) (most high)) (λ n. AreValues n room))

  room_valid : (n : ℕ) → fewest low ≤ n → n ≤ most high → Valid n room
  unfolding room
  room_valid n above below = record { order = omega (arith, has.order); least = omega (arith, below, has.least); greatest = omega (arith, above) }

  reads_row_split : Reads RowSplit (row_in low high)
  unfolding RowSplit row_in room
  reads_row_split =
      reads_bind _ (λ format. Bind (IsNumber 0 1 (fewest low) (most high)) (λ n. AreValues n room)) (number_in 0 1 1 1)
      (λ format bytes. number_in 0 1 (fewest low) (most high) bytes >>= λ count. many_in value_in room_after count.0 (record { low = low - 2; high = high - 2 }) count.1)
      (reads_number 0 1 1 1 (inl refl) (omega arith) (omega arith))
      (λ format a is. reads_bind _ (λ n. AreValues n room) (number_in 0 1 (fewest low) (most high)) (λ n bytes. many_in value_in room_after n (record { low = low - 2; high = high - 2 }) bytes)
      (reads_number 0 1 (fewest low) (most high) (inl refl) has.counts (omega arith)) (λ n b count. reads_values n room (room_valid n count.above count.below)))

  row_to : (values : List Value) (bytes : List ℕ) → RowSplit values bytes → IsRowWithin low high values bytes
  unfolding RowSplit room
  row_to values bytes is =
      let f = is.value in
      let f_low = is.is_first.above in
      let f_high = is.is_first.below in
      let f_is : f ≡ 1 = omega arith in
      let n = is.is_second.value in
      let n_high = is.is_second.is_first.below in
      let n_small : n < 256 = omega arith in
      let are = is.is_second.is_second in
      let head : is.front ≡ 1 ∷ [] = is.is_first.is ∙ digits_one f (omega arith) ∙ ap (λ (k : ℕ). k ∷ []) f_is in
      let count : is.is_second.front ≡ length values ∷ [] = is.is_second.is_first.is ∙ digits_one n n_small ∙ ap (λ (k : ℕ). k ∷ []) (sym are.count) in
      let whole : bytes ≡ row_bytes values = is.split ∙ (λ i. head i ++ is.back) ∙ ap (λ (l : List ℕ). 1 ∷ l) (is.is_second.split ∙ (λ i. count i ++ are.is i)) in
      let long : length bytes ≡ 2 + length is.is_second.back = omega (arith, ap length whole, ap length are.is) in
      record { few = omega (arith, are.count); fit = are.fit; is = whole; above = omega (arith, long, are.low); below = omega (arith, long, are.high, has.least) }

  row_from : (values : List Value) (bytes : List ℕ) → IsRowWithin low high values bytes → RowSplit values bytes
  unfolding RowSplit room
  row_from values bytes is =
      let back = joined (map value_bytes values) in
      let long = values_long values is.fit in
      let sum : length bytes ≡ 2 + length back = omega (arith, ap length is.is) in
      let n = length values in
      let above = is.above in
      let below = is.below in
      let few = is.few in
      record {
        value = 1;
        front = 1 ∷ [];
        back = n ∷ back;
        split = is.is;
        is_first = record { above = omega arith; below = omega arith; is = refl };
        is_second = record {
          value = n;
          front = n ∷ [];
          back = back;
          split = refl;
          is_first = record { above = omega (arith, long.1); below = omega (arith, long.0); is = sym (digits_one n (omega arith)) };
          is_second = record { count = refl; fit = is.fit; is = refl; low = omega arith; high = omega arith };
        };
      }

  pub reads_row : Reads (IsRowWithin low high) (row_in low high)
  reads_row = reads_same RowSplit (IsRowWithin low high) (row_in low high) row_to row_from reads_row_split

-- a row has 2 bytes, or from 4 on
pub row_long : (values : List Value) (row : List ℕ) → AllByRecursion HasBytes values → row ≡ row_bytes values → (length row ≡ 2) ⊎ (4 ≤ length row)
row_long [] row fit is = inl (ap length is)
row_long (v ∷ vs) row fit is =
    let long = values_long (v ∷ vs) fit in
    inr (omega (arith, ap length is, long.0))

-- ---- every row

pub reads_any_row : Reads (λ (values : List Value) b. IsRowOf b values) (row_in 0 65537)
reads_any_row =
    reads_same (IsRowWithin 0 65537) (λ (values : List Value) b. IsRowOf b values) (row_in 0 65537)
    (λ values b is. record { values_fit = record { few = is.few; fit = All-from_recursion HasBytes values is.fit }; spelled = is.is })
    (λ values b is. from values b is)
    (reads_row 0 65537 (record { order = omega arith; least = omega arith; counts = omega arith }))
  where
    from : (values : List Value) (b : List ℕ) → IsRowOf b values → IsRowWithin 0 65537 values b
    from values b is =
        let fit = recursion_from_All HasBytes values is.values_fit.fit in
        let long = values_long values fit in
        let few = is.values_fit.few in
        record { few = few; fit = fit; is = is.spelled; above = omega arith; below = omega (arith, ap length is.spelled, long.1) }
