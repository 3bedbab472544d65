-- Passing over the values of a row, as a loop does.
use Rattle.std.proofs.Common.{◌≡◌, ℕ, suc, List, ◌∷◌, length, Result, Ok, Err, refl, sym, ◌∙◌, ap}
use Rattle.hb_types.specs.declared.value.Value.{Value}
use Rattle.hb_types.specs.Rows.{value_bytes}
use Rattle.hb_codec.specs.declared.fault.ReadFault.{ReadFault}
use Rattle.hb_codec.specs.declared.fault.ReadFault.TheVariants as faults
use Rattle.hb_codec.specs.declared.rows.Room.{Room}
use Rattle.hb_codec.specs.Readers.{◌>>=◌, Fails, behind, many_in}
use Rattle.hb_codec.specs.RowReaders.{value_in, size_in, room_after}
use Rattle.hb_codec.proofs.Calculus.{ok_is}

abbrev sized : Result (Value × List ℕ) ℕ → Result (ℕ × List ℕ) ℕ
sized read = read >>= λ v. Ok (length (value_bytes v.0), v.1)

pub record Passed (n : ℕ) (room : Room) (bytes : List ℕ) (size : ℕ) (after : List ℕ) : Type 0 where
  pub value : Value
  pub is : value_in n room bytes ≡ Ok (value, after)
  pub long : size ≡ length (value_bytes value)

pub passed : (n : ℕ) (room : Room) (bytes : List ℕ) (size : ℕ) (after : List ℕ) → size_in n room bytes ≡ Ok (size, after) → Passed n room bytes size after
unfolding size_in
passed n room bytes size after e = go (value_in n room bytes) refl e
  where
    go : (r : Result (Value × List ℕ) ℕ) → value_in n room bytes ≡ r → sized r ≡ Ok (size, after) → Passed n room bytes size after
    go (Ok v) is f =
        let pair : (length (value_bytes v.0), v.1) ≡ (size, after) = ok_is (length (value_bytes v.0), v.1) (size, after) f in
        record { value = v.0; is = is ∙ ap (λ (l : List ℕ). Ok (v.0, l)) (ap (λ (q : ℕ × List ℕ). q.1) pair); long = sym (ap (λ (q : ℕ × List ℕ). q.0) pair) }
    go (Err left) is f = absurd cc

behind_cons : (v : Value) (read : Result (List Value × List ℕ) ℕ) → behind (read >>= λ others. Ok (v ∷ others.0, others.1)) ≡ behind read
behind_cons v (Ok x) = refl
behind_cons v (Err left) = refl

abbrev values : ℕ → Room → List ℕ → Result (List Value × List ℕ) ℕ
values n room bytes = many_in value_in room_after n room bytes

pub passes : (m n : ℕ) (room : Room) (bytes : List ℕ) (v : Value) (after : List ℕ) (total : Result (List ℕ) ℕ) → m ≡ suc n → value_in n room bytes ≡ Ok (v, after)
    → behind (values m room bytes) ≡ total → behind (values n (room_after n room v) after) ≡ total
unfolding many_in
passes m n room bytes v after total e h so_far =
    let one : behind (values m room bytes) ≡ behind (values n (room_after n room v) after) =
    ap (λ (k : ℕ). behind (values k room bytes)) e
    ∙ ap (λ (r : Result (Value × List ℕ) ℕ). behind (r >>= λ first. values n (room_after n room first.0) first.1 >>= λ others. Ok (first.0 ∷ others.0, others.1))) h
    ∙ behind_cons v (values n (room_after n room v) after) in
    sym one ∙ so_far

pub pass_ends : (fault : ReadFault) (m n : ℕ) (room : Room) (bytes : List ℕ) (total : Result (List ℕ) ℕ) → m ≡ suc n → Fails fault (size_in n room bytes)
    → behind (values m room bytes) ≡ total → Fails fault total
unfolding many_in size_in
pass_ends faults.NoMemory m n room bytes total e h so_far = tt
pass_ends (faults.Left left) m n room bytes total e h so_far =
    let failed : value_in n room bytes ≡ Err left = go (value_in n room bytes) refl h in
    let one : behind (values m room bytes) ≡ Err left =
    ap (λ (k : ℕ). behind (values k room bytes)) e
    ∙ ap (λ (r : Result (Value × List ℕ) ℕ). behind (r >>= λ first. values n (room_after n room first.0) first.1 >>= λ others. Ok (first.0 ∷ others.0, others.1))) failed in
    sym so_far ∙ one
  where
    go : (r : Result (Value × List ℕ) ℕ) → value_in n room bytes ≡ r → sized r ≡ Err left → value_in n room bytes ≡ Err left
    go (Ok v) is f = absurd cc
    go (Err k) is f = let same : k ≡ left = cc in is ∙ ap (λ (j : ℕ). Err j) same

pub pass_done : (m : ℕ) (room : Room) (bytes : List ℕ) (total : Result (List ℕ) ℕ) → m ≡ 0 → behind (values m room bytes) ≡ total → total ≡ Ok bytes
unfolding many_in
pass_done m room bytes total e so_far = sym so_far ∙ ap (λ (k : ℕ). behind (values k room bytes)) e
