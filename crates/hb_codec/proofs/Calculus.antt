-- Laws of reading: readers that meet their grammars, one after another.
use Rattle.std.proofs.Common.{◌≡◌, ◌⊎◌, inl, inr, ⊎_elim, ℕ, ◌+◌, ◌-◌, ◌≤◌, Bool, true, false, cond, List, [], ◌∷◌, ◌++◌, length, take, drop, Result, Ok, Err, refl, sym, ◌∙◌, ap, subst, arith, append_assoc, length-append, take-append-drop}
use Rattle.std.proofs.lemmas.List.{append-nil, take_at, length-drop}
use Rattle.hb_codec.specs.Reading.{Begins, IsPlace, Misreads, Misspells, Finds, OneForm}
use Rattle.hb_codec.specs.Readers.{◌>>=◌, Tells, TellsFront}
use Rattle.hb_codec.specs.declared.fault.CodecFault.{CodecFault}
use Rattle.hb_codec.specs.declared.fault.CodecFault.TheVariants as codec
use Rattle.std.specs.Prelude.{IfOk, IsErrOf}

-- where reading stops: nothing longer begins a spelling
pub record Stops {X : Type 0} (spells : X → List ℕ → Type 0) (bytes : List ℕ) (left : ℕ) : Type 0 where
  pub front : List ℕ
  pub back : List ℕ
  pub split : bytes ≡ front ++ back
  pub long : length back ≡ left
  pub begins : Begins spells front
  pub longest : (f b : List ℕ) → bytes ≡ f ++ b → Begins spells f → left ≤ length b

-- a reader meets a grammar
pub record Reads {X : Type 0} (spells : X → List ℕ → Type 0) (read : List ℕ → Result (X × List ℕ) ℕ) : Type 0 where
  pub some : Begins spells []
  pub sound : (bytes : List ℕ) (x : X) (rest : List ℕ) → read bytes ≡ Ok (x, rest) → (front : List ℕ) × (bytes ≡ front ++ rest) × spells x front
  pub complete : (x : X) (front rest : List ℕ) → spells x front → read (front ++ rest) ≡ Ok (x, rest)
  pub exact : (bytes : List ℕ) (left : ℕ) → read bytes ≡ Err left → Stops spells bytes left

abbrev pub done : {A : Type 0} → A → Result A ℕ
done x = Ok x

pub ok_is : {A : Type 0} (x y : A) → done x ≡ done y → x ≡ y
ok_is x y e = cc

err_is : {A : Type 0} (m n : ℕ) (r : Result A ℕ) → r ≡ Err m → r ≡ Err n → m ≡ n
err_is m n r e f = cc

-- two ways to cut one list
pub cuts : (f r a b : List ℕ) → f ++ r ≡ a ++ b → ((c : List ℕ) × (a ≡ f ++ c) × (r ≡ c ++ b)) ⊎ ((c : List ℕ) × (f ≡ a ++ c) × (b ≡ c ++ r))
cuts [] r a b e = inl (a, refl, e)
cuts (x ∷ f) r [] b e = inr (x ∷ f, refl, sym e)
cuts (x ∷ f) r (y ∷ a) b e =
    let h : x ≡ y = cc in
    let t : f ++ r ≡ a ++ b = cc in
    ⊎_elim (λ s. inl (s.0, (λ i. sym h i ∷ s.1 i), s.2)) (λ s. inr (s.0, (λ i. h i ∷ s.1 i), s.2)) (cuts f r a b t)

-- ---- nothing, and one reading after another

pub record Pure {X : Type 0} (value x : X) (bytes : List ℕ) : Type 0 where
  pub is : x ≡ value
  pub empty : bytes ≡ []

pub reads_pure : {X : Type 0} (value : X) → Reads (Pure value) (λ bytes. Ok (value, bytes))
reads_pure {X} value = record {
  some = (value, [], record { is = refl; empty = refl });
  sound = λ bytes x rest e. let p : (value, bytes) ≡ (x, rest) = ok_is (value, bytes) (x, rest) e in ([], ap (λ (q : X × List ℕ). q.1) p, record { is = sym (ap (λ (q : X × List ℕ). q.0) p); empty = refl });
  complete = λ x front rest is. subst (λ (f : List ℕ). done {A = X × List ℕ} (value, f ++ rest) ≡ done {A = X × List ℕ} (x, rest)) (sym is.empty) (ap (λ (v : X). done {A = X × List ℕ} (v, rest)) (sym is.is));
  exact = λ bytes left e. absurd cc;
}

-- one spelling, and then one of the grammar that its value picks
pub record Bind {X Y : Type 0} (first : X → List ℕ → Type 0) (second : X → Y → List ℕ → Type 0) (y : Y) (bytes : List ℕ) : Type 0 where
  pub value : X
  pub front : List ℕ
  pub back : List ℕ
  pub split : bytes ≡ front ++ back
  pub is_first : first value front
  pub is_second : second value y back

module _ {X Y : Type 0} (first : X → List ℕ → Type 0) (second : X → Y → List ℕ → Type 0) (r : List ℕ → Result (X × List ℕ) ℕ) (s : X → List ℕ → Result (Y × List ℕ) ℕ)
    (fst : Reads first r) (snd : (x : X) (a : List ℕ) → first x a → Reads (second x) (s x)) where
  abbrev both : List ℕ → Result (Y × List ℕ) ℕ
  both bytes = r bytes >>= λ p. s p.0 p.1

  sound_at : (bytes : List ℕ) (y : Y) (rest : List ℕ) (m : Result (X × List ℕ) ℕ) → r bytes ≡ m → (m >>= λ p. s p.0 p.1) ≡ Ok (y, rest) → (front : List ℕ) × (bytes ≡ front ++ rest) × Bind first second y front
  sound_at bytes y rest (Err left) e f = absurd cc
  sound_at bytes y rest (Ok p) e f =
      let one = fst.sound bytes p.0 p.1 e in
      let two = (snd p.0 one.0 one.2).sound p.1 y rest f in (
        one.0 ++ two.0,
        one.1 ∙ ap (λ (l : List ℕ). one.0 ++ l) two.1 ∙ sym (append_assoc one.0 two.0 rest),
        record { value = p.0; front = one.0; back = two.0; split = refl; is_first = one.2; is_second = two.2 },
      )

  complete_at : (y : Y) (front rest : List ℕ) → Bind first second y front → both (front ++ rest) ≡ Ok (y, rest)
  complete_at y front rest is =
      let one : r (is.front ++ (is.back ++ rest)) ≡ Ok (is.value, is.back ++ rest) = fst.complete is.value is.front (is.back ++ rest) is.is_first in
      let two : s is.value (is.back ++ rest) ≡ Ok (y, rest) = (snd is.value is.front is.is_first).complete y is.back rest is.is_second in
      let whole : front ++ rest ≡ is.front ++ (is.back ++ rest) = ap (λ (l : List ℕ). l ++ rest) is.split ∙ append_assoc is.front is.back rest in
      ap both whole ∙ ap (λ (m : Result (X × List ℕ) ℕ). m >>= λ p. s p.0 p.1) one ∙ two

  -- the first reading stops
  first_stops : (bytes : List ℕ) (left : ℕ) → r bytes ≡ Err left → Stops first bytes left → Stops (Bind first second) bytes left
  first_stops bytes left e st = record {
    front = st.front;
    back = st.back;
    split = st.split;
    long = st.long;
    begins =
        (let b = st.begins in
        let more = (snd b.0 (st.front ++ b.1) b.2).some in
        (more.0, b.1 ++ more.1, record { value = b.0; front = st.front ++ b.1; back = more.1; split = sym (append_assoc st.front b.1 more.1); is_first = b.2; is_second = more.2 }));
    longest = λ f b split is. longest f b split is;
  }
    where
      longest : (f b : List ℕ) → bytes ≡ f ++ b → Begins (Bind first second) f → left ≤ length b
      longest f b split is =
          let k = is.2 in
          ⊎_elim
          (λ c. st.longest f b split (k.value, c.0, subst (first k.value) c.1 k.is_first))
          (λ c. absurd (fails (fst.complete k.value k.front (c.0 ++ b) k.is_first) (ap r (split ∙ ap (λ (l : List ℕ). l ++ b) c.1 ∙ append_assoc k.front c.0 b))))
          (cuts f is.1 k.front k.back k.split)
        where
          fails : {p : X × List ℕ} {bs : List ℕ} → r bs ≡ Ok p → r bytes ≡ r bs → ⊥
          fails ok same = cc

  -- the second one does
  second_stops : (bytes : List ℕ) (left : ℕ) (x : X) (a rest : List ℕ) → bytes ≡ a ++ rest → first x a → Stops (second x) rest left → Stops (Bind first second) bytes left
  second_stops bytes left x a rest split_at is_first st = record {
    front = a ++ st.front;
    back = st.back;
    split = split_at ∙ ap (λ (l : List ℕ). a ++ l) st.split ∙ sym (append_assoc a st.front st.back);
    long = st.long;
    begins = (let b = st.begins in (b.0, b.1, record { value = x; front = a; back = st.front ++ b.1; split = append_assoc a st.front b.1; is_first = is_first; is_second = b.2 }));
    longest = λ f b split is. longest f b split is;
  }
    where
      short : left ≤ length rest
      short = omega (arith, st.long, ap length st.split, length-append st.front st.back)

      longest : (f b : List ℕ) → bytes ≡ f ++ b → Begins (Bind first second) f → left ≤ length b
      longest f b split is = ⊎_elim (λ c. inside c.0 c.2) (λ c. beyond c.0 c.1 c.2) (cuts f b a rest (sym split ∙ split_at))
        where
          inside : (c : List ℕ) → b ≡ c ++ rest → left ≤ length b
          inside c e = omega (arith, short, ap length e, length-append c rest)

          beyond : (c : List ℕ) → f ≡ a ++ c → rest ≡ c ++ b → left ≤ length b
          beyond c e g =
              let k = is.2 in
              let whole : a ++ (c ++ is.1) ≡ k.front ++ k.back = sym (append_assoc a c is.1) ∙ ap (λ (l : List ℕ). l ++ is.1) (sym e) ∙ k.split in
              let here : r (a ++ (c ++ is.1)) ≡ Ok (x, c ++ is.1) = fst.complete x a (c ++ is.1) is_first in
              let there : r (k.front ++ k.back) ≡ Ok (k.value, k.back) = fst.complete k.value k.front k.back k.is_first in
              let same : (x, c ++ is.1) ≡ (k.value, k.back) = ok_is (x, c ++ is.1) (k.value, k.back) (sym here ∙ ap r whole ∙ there) in
              let value : k.value ≡ x = sym (ap (λ (p : X × List ℕ). p.0) same) in
              let back : k.back ≡ c ++ is.1 = sym (ap (λ (p : X × List ℕ). p.1) same) in
              st.longest c b g (is.0, is.1, subst (λ (v : X). second v is.0 (c ++ is.1)) value (subst (second k.value is.0) back k.is_second))

  exact_at : (bytes : List ℕ) (left : ℕ) (m : Result (X × List ℕ) ℕ) → r bytes ≡ m → (m >>= λ p. s p.0 p.1) ≡ Err left → Stops (Bind first second) bytes left
  exact_at bytes left (Err l) e f =
      let same : l ≡ left = cc in
      let is : r bytes ≡ Err left = subst (λ (n : ℕ). r bytes ≡ Err n) same e in
      first_stops bytes left is (fst.exact bytes left is)
  exact_at bytes left (Ok p) e f =
      let one = fst.sound bytes p.0 p.1 e in
      second_stops bytes left p.0 one.0 p.1 one.1 one.2 ((snd p.0 one.0 one.2).exact p.1 left f)

  pub reads_bind : Reads (Bind first second) (λ bytes. r bytes >>= λ p. s p.0 p.1)
  reads_bind = record {
    some =
        (let a = fst.some in
        let b = (snd a.0 a.1 a.2).some in
        (b.0, a.1 ++ b.1, record { value = a.0; front = a.1; back = b.1; split = refl; is_first = a.2; is_second = b.2 }));
    sound = λ bytes y rest e. sound_at bytes y rest (r bytes) refl e;
    complete = complete_at;
    exact = λ bytes left e. exact_at bytes left (r bytes) refl e;
  }

-- ---- the same spellings, and a choice

pub reads_same : {X : Type 0} (G H : X → List ℕ → Type 0) (read : List ℕ → Result (X × List ℕ) ℕ) → ((x : X) (b : List ℕ) → G x b → H x b) → ((x : X) (b : List ℕ) → H x b → G x b) → Reads G read → Reads H read
reads_same G H read to from reads = record {
  some = (let b = reads.some in (b.0, b.1, to b.0 b.1 b.2));
  sound = λ bytes x rest e. (let s = reads.sound bytes x rest e in (s.0, s.1, to x s.0 s.2));
  complete = λ x front rest is. reads.complete x front rest (from x front is);
  exact = λ bytes left e. (let st = reads.exact bytes left e in record {
    front = st.front;
    back = st.back;
    split = st.split;
    long = st.long;
    begins = (let b = st.begins in (b.0, b.1, to b.0 (st.front ++ b.1) b.2));
    longest = λ f b split is. st.longest f b split (is.0, is.1, from is.0 (f ++ is.1) is.2);
  });
}

abbrev pub choose : {X : Type 0} → Bool → (X → List ℕ → Type 0) → (X → List ℕ → Type 0) → X → List ℕ → Type 0
choose true G H = G
choose false G H = H

pub reads_choice : {X : Type 0} (test : Bool) (G H : X → List ℕ → Type 0) (r s : List ℕ → Result (X × List ℕ) ℕ) → (test ≡ true → Reads G r) → (test ≡ false → Reads H s) → Reads (choose test G H) (λ bytes. cond test (r bytes) (s bytes))
reads_choice true G H r s g h = g refl
reads_choice false G H r s g h = h refl

-- ---- what a reader tells of all bytes and of their fronts

module _ {X : Type 0} (spells : X → List ℕ → Type 0) (read : List ℕ → Result (X × List ℕ) ℕ) (reads : Reads spells read) where
  pub one_form : OneForm spells
  one_form x y a b u v is_a is_b same =
      let here : read (a ++ u) ≡ Ok (x, u) = reads.complete x a u is_a in
      let there : read (b ++ v) ≡ Ok (y, v) = reads.complete y b v is_b in
      let pair : (x, u) ≡ (y, v) = ok_is (x, u) (y, v) (sym here ∙ ap read same ∙ there) in
      let behind : u ≡ v = ap (λ (p : X × List ℕ). p.1) pair in
      let whole : a ++ v ≡ b ++ v = ap (λ (l : List ℕ). a ++ l) (sym behind) ∙ same in
      (cancel a b v whole, ap (λ (p : X × List ℕ). p.0) pair)
    where
      nil : (l : List ℕ) → length l ≡ 0 → l ≡ []
      nil [] z = refl
      nil (h ∷ l) z = absurd (omega (arith, z))

      cancel : (a b v : List ℕ) → a ++ v ≡ b ++ v → a ≡ b
      cancel a b v e = ⊎_elim
          (λ c. sym (c.1 ∙ ap (λ (l : List ℕ). a ++ l) (nil c.0 (omega (arith, ap length c.2, length-append c.0 v))) ∙ append-nil a))
          (λ c. c.1 ∙ ap (λ (l : List ℕ). b ++ l) (nil c.0 (omega (arith, ap length c.2, length-append c.0 v))) ∙ append-nil b)
          (cuts a v b v e)

  place_of : (bytes : List ℕ) (left : ℕ) → Stops spells bytes left → IsPlace spells bytes (length bytes - left)
  place_of bytes left st = record {
    within = omega arith;
    begins = subst (Begins spells) front_is st.begins;
    longest = λ n le is. (let more = st.longest (take n bytes) (drop n bytes) (sym (take-append-drop n bytes)) is in omega (arith, more, le, length-drop n bytes, split_long));
  }
    where
      split_long : length bytes ≡ length st.front + left
      split_long = ap length st.split ∙ length-append st.front st.back ∙ ap (λ (k : ℕ). length st.front + k) st.long

      front_is : st.front ≡ take (length bytes - left) bytes
      front_is =
          let n : length bytes - left ≡ length st.front = omega (arith, split_long) in
          sym (ap (λ (k : ℕ). take k bytes) n ∙ ap (λ (l : List ℕ). take (length st.front) l) st.split ∙ take_at st.front st.back (length st.front) refl)

  -- no front is a spelling
  pub misreads : (bytes : List ℕ) (left : ℕ) → read bytes ≡ Err left → Misreads spells bytes (length bytes - left)
  misreads bytes left e = record {
    none = λ x n le is. fails (reads.complete x (take n bytes) (drop n bytes) is) (ap read (sym (take-append-drop n bytes)));
    at = place_of bytes left (reads.exact bytes left e);
  }
    where
      fails : {p : X × List ℕ} {bs : List ℕ} → read bs ≡ Ok p → read bytes ≡ read bs → ⊥
      fails ok same = cc

  pub misspells : (bytes : List ℕ) (left : ℕ) → read bytes ≡ Err left → Misspells spells bytes (length bytes - left)
  misspells bytes left e = record {
    none = λ x is. fails (reads.complete x bytes [] is) (ap read (sym (append-nil bytes)));
    at = place_of bytes left (reads.exact bytes left e);
  }
    where
      fails : {p : X × List ℕ} {bs : List ℕ} → read bs ≡ Ok p → read bytes ≡ read bs → ⊥
      fails ok same = cc

  pub finds : (bytes : List ℕ) (x : X) (rest : List ℕ) → read bytes ≡ Ok (x, rest) → Finds spells bytes x (length bytes - length rest)
  finds bytes x rest e =
      let s = reads.sound bytes x rest e in
      let long : length bytes ≡ length s.0 + length rest = ap length s.1 ∙ length-append s.0 rest in
      let n : length bytes - length rest ≡ length s.0 = omega (arith, long) in
      let front : s.0 ≡ take (length bytes - length rest) bytes = sym (ap (λ (k : ℕ). take k bytes) n ∙ ap (λ (l : List ℕ). take (length s.0) l) s.1 ∙ take_at s.0 rest (length s.0) refl) in
      record { within = omega arith; spelled = subst (spells x) front s.2 }

  -- the whole of the bytes
  pub spelled : (bytes : List ℕ) (x : X) (rest : List ℕ) → read bytes ≡ Ok (x, rest) → length rest ≡ 0 → spells x bytes
  spelled bytes x rest e none =
      let s = reads.sound bytes x rest e in
      subst (spells x) (sym (s.1 ∙ ap (λ (l : List ℕ). s.0 ++ l) (nil rest none) ∙ append-nil s.0)) s.2
    where
      nil : (l : List ℕ) → length l ≡ 0 → l ≡ []
      nil [] z = refl
      nil (h ∷ l) z = absurd (omega (arith, z))

  -- bytes behind a spelling
  pub trailing : (bytes : List ℕ) (x : X) (rest : List ℕ) → read bytes ≡ Ok (x, rest) → 1 ≤ length rest → Misspells spells bytes (length bytes - length rest)
  trailing bytes x rest e more =
      let s = reads.sound bytes x rest e in
      record {
        none = λ y is. (let f = one_form x y s.0 bytes rest [] s.2 is (sym s.1 ∙ sym (append-nil bytes)) in omega (arith, more, ap length f.0, ap length s.1, length-append s.0 rest));
        at = place_of bytes (length rest) (record {
          front = s.0;
          back = rest;
          split = s.1;
          long = refl;
          begins = (x, [], subst (spells x) (sym (append-nil s.0)) s.2);
          longest = λ f b split is. longest s.0 s.1 s.2 f b split is;
        });
      }
    where
      longest : (a : List ℕ) → bytes ≡ a ++ rest → spells x a → (f b : List ℕ) → bytes ≡ f ++ b → Begins spells f → length rest ≤ length b
      longest a split_a is_a f b split is = ⊎_elim
          (λ c. omega (arith, ap length c.2, length-append c.0 rest))
          (λ c. let g = one_form x is.0 a (f ++ is.1) (c.0 ++ is.1) [] is_a is.2
          (sym (append_assoc a c.0 is.1) ∙ ap (λ (l : List ℕ). l ++ is.1) (sym c.1) ∙ sym (append-nil (f ++ is.1))) in
          omega (arith, ap length g.0, length-append f is.1, ap length c.1, length-append a c.0, ap length c.2, length-append c.0 b))
          (cuts f b a rest (sym split ∙ split_a))

  -- the same of what a function tells of the whole of the bytes
  pub tells_ok : (bytes : List ℕ) (result : Result X CodecFault) → Tells read bytes result → IfOk result (λ x. spells x bytes)
  tells_ok bytes (Ok x) told = spelled bytes x told.0 told.1 told.2
  tells_ok bytes (Err fault) told = tt

  pub tells_err : (bytes : List ℕ) (result : Result X CodecFault) → Tells read bytes result → (place : ℕ) → IsErrOf result (codec.NotARecord place) → Misspells spells bytes place
  tells_err bytes (Ok x) told place is = absurd (cc is)
  tells_err bytes (Err codec.NoMemory) told place is = absurd (cc is)
  tells_err bytes (Err (codec.NotARecord at)) told place is =
      let same : at ≡ place = cc is in
      subst (Misspells spells bytes) same
      (⊎_elim (λ l. subst (Misspells spells bytes) (sym l.2) (misspells bytes l.0 l.1)) (λ l. subst (Misspells spells bytes) (sym l.4) (trailing bytes l.0 l.1 l.2 l.3)) told)

  pub front_ok : (bytes : List ℕ) (result : Result (X × ℕ) CodecFault) → TellsFront read bytes result → IfOk result (λ found. Finds spells bytes found.0 found.1)
  front_ok bytes (Ok found) told = subst (Finds spells bytes found.0) (sym told.2) (finds bytes found.0 told.0 told.1)
  front_ok bytes (Err fault) told = tt

  pub front_err : (bytes : List ℕ) (result : Result (X × ℕ) CodecFault) → TellsFront read bytes result → (place : ℕ) → IsErrOf result (codec.NotARecord place) → Misreads spells bytes place
  front_err bytes (Ok found) told place is = absurd (cc is)
  front_err bytes (Err codec.NoMemory) told place is = absurd (cc is)
  front_err bytes (Err (codec.NotARecord at)) told place is =
      let same : at ≡ place = cc is in
      subst (Misreads spells bytes) (sym told.2 ∙ same) (misreads bytes told.0 told.1)
