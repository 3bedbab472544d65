-- How long the body of a vote is.
use Rattle.std.proofs.Common.{◌≡◌, ℕ, zero, suc, ◌+◌, ◌*◌, ◌≤◌, ◌<◌, List, [], ◌∷◌, ◌++◌, length, map, take, get_or, refl, ◌∙◌, ap, arith, append_assoc, length-append}
use Rattle.std.proofs.lemmas.List.{append-nil, take_all}
use Rattle.hb_types.specs.declared.change.Change.{Change}
use Rattle.hb_types.specs.declared.change.LogItem.{LogItem}
use Rattle.hb_types.specs.declared.change.LogItem.TheVariants.{Prepare}
use Rattle.hb_types.specs.declared.lock.Held.{Held}
use Rattle.hb_types.specs.declared.lock.Mode.{Mode}
use Rattle.hb_types.specs.declared.names.Number.{Number}
use Rattle.hb_types.specs.declared.names.Tx.{Tx}
use Rattle.hb_types.specs.declared.places.Path.{Path}
use Rattle.hb_types.specs.declared.places.Path.TheVariants.{Whole, Group, Key}
use Rattle.hb_types.specs.Lists.{joined}
use Rattle.hb_types.specs.Numbers.{four, eight}
use Rattle.hb_types.specs.Records.{body_bytes, change_bytes, lock_bytes, framed, record_length}

abbrev pub changes_long : List Change → ℕ
changes_long changes = length (joined (map change_bytes changes))

pub long_more : (xs : List Change) (i : ℕ) (d : Change) → i < length xs → changes_long (take (i + 1) xs) ≡ changes_long (take i xs) + length (change_bytes (get_or xs i d))
long_more xs i d lt = let e : i + 1 ≡ suc i = omega arith in ap (λ (k : ℕ). changes_long (take k xs)) e ∙ go xs i lt
  where
    go : (xs : List Change) (i : ℕ) → i < length xs → changes_long (take (suc i) xs) ≡ changes_long (take i xs) + length (change_bytes (get_or xs i d))
    go [] i lt = absurd (omega (arith, lt))
    go (x ∷ xs) zero lt = let a = ap length (append-nil (change_bytes x)) in omega (arith, a)
    go (x ∷ xs) (suc i) lt =
        let rest = go xs i (omega (arith, lt)) in
        let a = length-append (change_bytes x) (joined (map change_bytes (take (suc i) xs))) in
        let b = length-append (change_bytes x) (joined (map change_bytes (take i xs))) in
        omega (arith, rest, a, b)

pub long_front : (xs : List Change) (i : ℕ) → changes_long (take i xs) ≤ changes_long xs
long_front [] zero = omega arith
long_front [] (suc i) = omega arith
long_front (x ∷ xs) zero = omega arith
long_front (x ∷ xs) (suc i) = let more = long_front xs i in omega (arith, more, length-append (change_bytes x) (joined (map change_bytes (take i xs))), length-append (change_bytes x) (joined (map change_bytes xs)))

pub long_all : (xs : List Change) (i : ℕ) → length xs ≤ i → changes_long (take i xs) ≡ changes_long xs
long_all xs i le = ap changes_long (take_all i xs le)

lock_at_long : (p : Path) (m : Mode) → length (lock_bytes (record { path = p; mode = m })) ≡ 16
lock_at_long (Whole s) m = refl
lock_at_long (Group s g) m = refl
lock_at_long (Key p) m = refl

locks_long : (ls : List Held) → length (joined (map lock_bytes ls)) ≡ 16 * length ls
locks_long [] = refl
locks_long (l ∷ ls) = let one = lock_at_long l.path l.mode in let more = locks_long ls in omega (arith, one, more, length-append (lock_bytes l) (joined (map lock_bytes ls)))

prepare_is : (tx : Tx) (floor : Number) (locks : List Held) (changes : List Change)
    → body_bytes (Prepare tx floor locks changes) ≡ 1 ∷ (eight tx.0 ++ (eight floor.0 ++ (four (length locks) ++ (joined (map lock_bytes locks) ++ (four (length changes) ++ joined (map change_bytes changes))))))
prepare_is tx floor locks changes =
    ap (λ (l : List ℕ). 1 ∷ (eight tx.0 ++ (eight floor.0 ++ (four (length locks) ++ l)))) (append_assoc (joined (map lock_bytes locks)) (four (length changes)) (joined (map change_bytes changes)))

pub prepare_long : (tx : Tx) (floor : Number) (locks : List Held) (changes : List Change) → length (body_bytes (Prepare tx floor locks changes)) ≡ 25 + 16 * length locks + changes_long changes
prepare_long tx floor locks changes =
    let l = locks_long locks in
    let c = joined (map change_bytes changes) in
    omega (arith, ap length (prepare_is tx floor locks changes), l, length-append (joined (map lock_bytes locks)) (four (length changes) ++ c))

-- a record with the closed gate behind it
pub spelled_long : (i : LogItem) (bytes : List ℕ) → bytes ≡ framed i ++ 0 ∷ [] → length bytes ≡ record_length i
spelled_long i bytes is = let l = ap length is in let a = length-append (framed i) (0 ∷ []) in omega (arith, l, a)
