-- Lists of items, each read by what those before it leave; and the loops that read them.
use Rattle.std.proofs.Common.{◌≡◌, ℕ, zero, suc, List, [], ◌∷◌, ◌++◌, Result, Ok, Err, refl, sym, ◌∙◌, ap, append_assoc}
use Rattle.std.proofs.lemmas.List.{append-nil}
use Rattle.hb_codec.specs.declared.fault.ReadFault.{ReadFault}
use Rattle.hb_codec.specs.declared.fault.ReadFault.TheVariants as faults
use Rattle.hb_codec.specs.Readers.{◌>>=◌, Fails, many_in}
use Rattle.hb_codec.proofs.Calculus.{Reads, Bind, Pure, reads_bind, reads_pure}

abbrev pub Many : {S X : Type 0} → (ℕ → S → X → List ℕ → Type 0) → (ℕ → S → X → S) → ℕ → S → List X → List ℕ → Type 0
Many spells next zero state = Pure []
Many spells next (suc n) state = Bind (spells n state) (λ x. Bind (Many spells next n (next n state x)) (λ xs. Pure (x ∷ xs)))

-- a first item, and the others
pub cons : {S X : Type 0} (spells : ℕ → S → X → List ℕ → Type 0) (next : ℕ → S → X → S) (n : ℕ) (state : S) (x : X) (xs : List X) (front back : List ℕ) → spells n state x front → Many spells next n (next n state x) xs back
    → Many spells next (suc n) state (x ∷ xs) (front ++ back)
cons spells next n state x xs front back one others = record {
  value = x;
  front = front;
  back = back;
  split = refl;
  is_first = one;
  is_second = record { value = xs; front = back; back = []; split = sym (append-nil back); is_first = others; is_second = record { is = refl; empty = refl } };
}

pub record Parts {S X : Type 0} (spells : ℕ → S → X → List ℕ → Type 0) (next : ℕ → S → X → S) (n : ℕ) (state : S) (xs : List X) (bytes : List ℕ) : Type 0 where
  pub first : X
  pub others : List X
  pub front : List ℕ
  pub back : List ℕ
  pub is : xs ≡ first ∷ others
  pub split : bytes ≡ front ++ back
  pub one : spells n state first front
  pub more : Many spells next n (next n state first) others back

pub parts : {S X : Type 0} (spells : ℕ → S → X → List ℕ → Type 0) (next : ℕ → S → X → S) (n : ℕ) (state : S) (xs : List X) (bytes : List ℕ) → Many spells next (suc n) state xs bytes → Parts spells next n state xs bytes
parts spells next n state xs bytes is = record {
  first = is.value;
  others = is.is_second.value;
  front = is.front;
  back = is.is_second.front;
  is = is.is_second.is_second.is;
  split = is.split ∙ ap (λ (l : List ℕ). is.front ++ l) (is.is_second.split ∙ ap (λ (l : List ℕ). is.is_second.front ++ l) is.is_second.is_second.empty ∙ append-nil is.is_second.front);
  one = is.is_first;
  more = is.is_second.is_first;
}

pub reads_many : {S X : Type 0} (spells : ℕ → S → X → List ℕ → Type 0) (step : ℕ → S → List ℕ → Result (X × List ℕ) ℕ) (next : ℕ → S → X → S) (Valid : ℕ → S → Type 0)
    → ((n : ℕ) (s : S) → Valid (suc n) s → Reads (spells n s) (step n s))
    → ((n : ℕ) (s : S) (x : X) (b : List ℕ) → Valid (suc n) s → spells n s x b → Valid n (next n s x))
    → (n : ℕ) (s : S) → Valid n s → Reads (Many spells next n s) (many_in step next n s)
unfolding many_in
reads_many spells step next Valid each keeps zero s v = reads_pure []
reads_many {S} {X} spells step next Valid each keeps (suc n) s v =
    reads_bind (spells n s) (λ x. Bind (Many spells next n (next n s x)) (λ xs. Pure (x ∷ xs))) (step n s) (λ x bytes. many_in step next n (next n s x) bytes >>= λ others. Ok (x ∷ others.0, others.1)) (each n s v)
    (λ x b is. reads_bind (Many spells next n (next n s x)) (λ xs. Pure (x ∷ xs)) (many_in step next n (next n s x)) (λ xs bytes. Ok (x ∷ xs, bytes))
    (reads_many spells step next Valid each keeps n (next n s x) (keeps n s x b v is)) (λ xs c are. reads_pure (x ∷ xs)))

-- ---- the loop

-- what was read before, and what is still read
abbrev pub with_front : {X : Type 0} → List X → Result (List X × List ℕ) ℕ → Result (List X × List ℕ) ℕ
with_front front read = read >>= λ x. Ok (front ++ x.0, x.1)

regroup : {X : Type 0} (front : List X) (x : X) (read : Result (List X × List ℕ) ℕ) → with_front front (read >>= λ xs. Ok (x ∷ xs.0, xs.1)) ≡ with_front (front ++ x ∷ []) read
regroup {X} front x (Ok xs) = ap (λ (l : List X). Ok (l, xs.1)) (sym (append_assoc front (x ∷ []) xs.0))
regroup front x (Err left) = refl

pub front_none : {X : Type 0} (read : Result (List X × List ℕ) ℕ) → with_front [] read ≡ read
front_none (Ok x) = refl
front_none (Err left) = refl

module _ {S X : Type 0} (step : ℕ → S → List ℕ → Result (X × List ℕ) ℕ) (next : ℕ → S → X → S) where
  pub many_goes : (front : List X) (m n : ℕ) (state : S) (bytes : List ℕ) (x : X) (after : List ℕ) (total : Result (List X × List ℕ) ℕ) → m ≡ suc n → step n state bytes ≡ Ok (x, after)
      → with_front front (many_in step next m state bytes) ≡ total → with_front (front ++ x ∷ []) (many_in step next n (next n state x) after) ≡ total
  unfolding many_in
  many_goes front m n state bytes x after total e h so_far =
      let one : with_front front (many_in step next m state bytes) ≡ with_front (front ++ x ∷ []) (many_in step next n (next n state x) after) =
      ap (λ (k : ℕ). with_front front (many_in step next k state bytes)) e
      ∙ ap (λ (r : Result (X × List ℕ) ℕ). with_front front (r >>= λ first. many_in step next n (next n state first.0) first.1 >>= λ others. Ok (first.0 ∷ others.0, others.1))) h
      ∙ regroup front x (many_in step next n (next n state x) after) in
      sym one ∙ so_far

  pub many_ends : (fault : ReadFault) (front : List X) (m n : ℕ) (state : S) (bytes : List ℕ) (total : Result (List X × List ℕ) ℕ) → m ≡ suc n → Fails fault (step n state bytes)
      → with_front front (many_in step next m state bytes) ≡ total → Fails fault total
  unfolding many_in
  many_ends faults.NoMemory front m n state bytes total e h so_far = tt
  many_ends (faults.Left left) front m n state bytes total e h so_far =
      let one : with_front front (many_in step next m state bytes) ≡ Err left =
      ap (λ (k : ℕ). with_front front (many_in step next k state bytes)) e
      ∙ ap (λ (r : Result (X × List ℕ) ℕ). with_front front (r >>= λ first. many_in step next n (next n state first.0) first.1 >>= λ others. Ok (first.0 ∷ others.0, others.1))) h in
      sym so_far ∙ one

  pub many_done : (front : List X) (m : ℕ) (state : S) (bytes : List ℕ) (total : Result (List X × List ℕ) ℕ) → m ≡ 0 → with_front front (many_in step next m state bytes) ≡ total → total ≡ Ok (front, bytes)
  unfolding many_in
  many_done front m state bytes total e so_far =
      let one : with_front front (many_in step next m state bytes) ≡ Ok (front, bytes) =
      ap (λ (k : ℕ). with_front front (many_in step next k state bytes)) e ∙ ap (λ (l : List X). Ok (l, bytes)) (append-nil front) in
      sym so_far ∙ one
