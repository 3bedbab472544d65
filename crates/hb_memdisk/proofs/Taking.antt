-- What a source gives stood in front of what it has left.
use Rattle.std.proofs.Common.{◌≡◌, ℕ, ◌+◌, ◌-◌, ◌<◌, ◌≤◌, min, List, [], ◌++◌, length, take, drop, sym, ◌∙◌, ap, arith, take-append-drop}
use Rattle.std.proofs.lemmas.List.{length-take, length-drop, drop-drop, drop_all, take_at}

pub taken_front : (given n : ℕ) (bytes piece more : List ℕ) → n ≤ length bytes - given → piece ≡ take n (drop given bytes)
    → drop given bytes ≡ take n (piece ++ more) ++ drop (given + n) bytes
taken_front given n bytes piece more enough is =
    let long : length piece ≡ n = omega (arith, ap length is, length-take n (drop given bytes), length-drop given bytes, enough) in
    sym (take-append-drop n (drop given bytes)) ∙ (λ i. (sym is ∙ sym (take_at piece more n long)) i ++ drop-drop n given bytes i)

pub at_end : (given n piece room : ℕ) (bytes : List ℕ) → n ≡ min piece (min (length bytes - given) room) → 1 ≤ piece → 0 < room → n ≡ 0 → drop (given + n) bytes ≡ []
at_end given n piece room bytes is gives some none = drop_all (given + n) bytes (omega (arith, is, gives, some, none))
