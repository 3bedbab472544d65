-- A record that stands behind an open gate has the length and the body that its frame says.
use Rattle.std.proofs.Common.{◌≡◌, ℕ, ◌+◌, List, ◌∷◌, ◌++◌, length, take, drop, refl, sym, ◌∙◌, ap, arith, length-append}
use Rattle.std.proofs.lemmas.List.{drop-take, drop_at, take-take, take_at}
use Rattle.std.proofs.lemmas.Nat.{from_le_bytes-to_le_bytes_4}
use Rattle.std.specs.Int.{from_le_bytes, w32}
use Rattle.hb_types.specs.declared.change.LogItem.{LogItem}
use Rattle.hb_types.specs.Logs.{StandsAt}
use Rattle.hb_types.specs.Numbers.{four}
use Rattle.hb_types.specs.Records.{HasRecord, body_bytes, framed}

-- bytes that begin with the frame of a record
module _ (rest : List ℕ) (item : LogItem) (has_record : HasRecord item) (begins : take (length (framed item)) rest ≡ framed item) where
  spelled : take (4 + length (body_bytes item)) rest ≡ four (length (body_bytes item)) ++ body_bytes item
  spelled = ap (λ (k : ℕ). take k rest) (sym (length-append (four (length (body_bytes item))) (body_bytes item))) ∙ begins

  first_four : take 4 rest ≡ four (length (body_bytes item))
  first_four =
      sym (take-take 4 (4 + length (body_bytes item)) rest (omega arith)) ∙ ap (take 4) spelled
      ∙ take_at (four (length (body_bytes item))) (body_bytes item) 4 refl

  pub says_length : from_le_bytes w32 (take 4 rest) ≡ length (body_bytes item)
  says_length = ap (from_le_bytes w32) first_four ∙ from_le_bytes-to_le_bytes_4 (length (body_bytes item)) (omega (arith, has_record.1))

  pub has_body : take (length (body_bytes item)) (drop 4 rest) ≡ body_bytes item
  has_body =
      sym (drop-take 4 (length (body_bytes item)) rest) ∙ ap (drop 4) spelled
      ∙ drop_at (four (length (body_bytes item))) (body_bytes item) 4 refl

-- bytes that are no body stand in no record
pub not_framed : (rest body : List ℕ) (len : ℕ) → len ≡ from_le_bytes w32 (take 4 rest) → body ≡ take len (drop 4 rest)
    → ((item : LogItem) → HasRecord item → body ≡ body_bytes item → ⊥) → (item : LogItem) → StandsAt (1 ∷ rest) 0 item → ⊥
not_framed rest body len is_len is_body none item here =
    none item here.has_record (is_body ∙ ap (λ (k : ℕ). take k (drop 4 rest)) (is_len ∙ says_length rest item here.has_record here.spelled) ∙ has_body rest item here.has_record here.spelled)

-- two records whose frames begin the same bytes have the same body
pub same_body : (rest : List ℕ) (x y : LogItem) → HasRecord x → HasRecord y → take (length (framed x)) rest ≡ framed x → take (length (framed y)) rest ≡ framed y → body_bytes x ≡ body_bytes y
same_body rest x y has_x has_y begins_x begins_y =
    let long : length (body_bytes x) ≡ length (body_bytes y) = sym (says_length rest x has_x begins_x) ∙ says_length rest y has_y begins_y in
    sym (has_body rest x has_x begins_x) ∙ ap (λ (k : ℕ). take k (drop 4 rest)) long ∙ has_body rest y has_y begins_y
