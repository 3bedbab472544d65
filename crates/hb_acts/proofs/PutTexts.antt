-- Texts put one behind another.
use Rattle.std.proofs.Common.{◌≡◌, ℕ, ◌+◌, ◌<◌, ◌≤◌, List, [], ◌∷◌, ◌++◌, take, drop, length, get_or, refl, sym, ◌∙◌, ap, subst, append_assoc, take-append-drop}
use Rattle.std.specs.Prelude.{Some, None}
use Rattle.std.specs.List.{flat_map}
use Rattle.std.specs.declared.option.Option.{Option}
use Rattle.std.proofs.lemmas.List.{append-nil, take_all, take_more}
use Rattle.std.proofs.lemmas.List.Concat.{flat_map-append}
use Rattle.hb_edge.specs.Streams.{with_end, PutsPart}
use Rattle.hb_acts.specs.Putting.{IsFront, PutsFront}

pub with_end_twice : (told : Option (List ℕ)) (a b : List ℕ) → with_end b (with_end a told) ≡ with_end (a ++ b) told
with_end_twice None a b = refl
with_end_twice (Some held) a b = ap (λ (l : List ℕ). Some l) (append_assoc held a b)

pub with_end_nothing : (told : Option (List ℕ)) → told ≡ with_end [] told
with_end_nothing None = refl
with_end_nothing (Some held) = ap (λ (l : List ℕ). Some l) (sym (append-nil held))

-- nothing was put
pub puts_nothing : (old new : Option (List ℕ)) (text : List ℕ) → new ≡ old → PutsFront old new text
puts_nothing old new text same = record { shown = []; gained = same ∙ with_end_nothing old; front = (text, refl) }

pub puts_all : (old new : Option (List ℕ)) (text : List ℕ) → new ≡ with_end text old → PutsFront old new text
puts_all old new text all = record { shown = text; gained = all; front = ([], sym (append-nil text)) }

-- a part of a piece
pub puts_part : (old new : Option (List ℕ)) (bytes : List ℕ) → PutsPart old new bytes → PutsFront old new bytes
puts_part old new bytes part = record { shown = take part.0 bytes; gained = part.1; front = (drop part.0 bytes, sym (take-append-drop part.0 bytes)) }

-- a front of one text is a front of a longer one
pub puts_before : (old new : Option (List ℕ)) (text more : List ℕ) → PutsFront old new text → PutsFront old new (text ++ more)
puts_before old new text more puts = record {
  shown = puts.shown;
  gained = puts.gained;
  front = (puts.front.0 ++ more, ap (λ (l : List ℕ). l ++ more) puts.front.1 ∙ append_assoc puts.shown puts.front.0 more);
}

-- one text was put, and a front of the next
pub puts_behind : (old mid new : Option (List ℕ)) (text more : List ℕ) → mid ≡ with_end text old → PutsFront mid new more → PutsFront old new (text ++ more)
puts_behind old mid new text more all puts = record {
  shown = text ++ puts.shown;
  gained = puts.gained ∙ ap (with_end puts.shown) all ∙ with_end_twice old text puts.shown;
  front = (puts.front.0, ap (λ (l : List ℕ). text ++ l) puts.front.1 ∙ sym (append_assoc text puts.shown puts.front.0));
}

-- both were put
pub all_behind : (old mid new : Option (List ℕ)) (text more : List ℕ) → mid ≡ with_end text old → new ≡ with_end more mid → new ≡ with_end (text ++ more) old
all_behind old mid new text more all next = next ∙ ap (with_end more) all ∙ with_end_twice old text more

-- ---- texts of a list, one behind another

pub texts_more : {X : Type 0} (f : X → List ℕ) (xs : List X) (k : ℕ) (d : X) → k < length xs → flat_map f (take (k + 1) xs) ≡ flat_map f (take k xs) ++ f (get_or xs k d)
texts_more {X} f xs k d within =
    ap (flat_map f) (take_more xs k d within) ∙ flat_map-append f (take k xs) (get_or xs k d ∷ []) ∙ ap (λ (l : List ℕ). flat_map f (take k xs) ++ l) (append-nil (f (get_or xs k d)))

texts_split : {X : Type 0} (f : X → List ℕ) (xs : List X) (k : ℕ) → flat_map f (take k xs) ++ flat_map f (drop k xs) ≡ flat_map f xs
texts_split {X} f xs k = sym (flat_map-append f (take k xs) (drop k xs)) ∙ ap (flat_map f) (take-append-drop k xs)

-- the first k were put
abbrev pub PutFirst : {X : Type 0} → (X → List ℕ) → List X → ℕ → Option (List ℕ) → Option (List ℕ) → Type 0
PutFirst f xs k held now = now ≡ with_end (flat_map f (take k xs)) held

pub first_more : {X : Type 0} (f : X → List ℕ) (xs : List X) (k : ℕ) (d : X) (held mid now : Option (List ℕ)) → k < length xs → PutFirst f xs k held mid → now ≡ with_end (f (get_or xs k d)) mid → PutFirst f xs (k + 1) held now
first_more {X} f xs k d held mid now within so_far next =
    all_behind held mid now (flat_map f (take k xs)) (f (get_or xs k d)) so_far next ∙ ap (λ (l : List ℕ). with_end l held) (sym (texts_more f xs k d within))

pub first_part : {X : Type 0} (f : X → List ℕ) (xs : List X) (k : ℕ) (d : X) (held mid now : Option (List ℕ)) → k < length xs → PutFirst f xs k held mid → PutsFront mid now (f (get_or xs k d)) → PutsFront held now (flat_map f xs)
first_part {X} f xs k d held mid now within so_far puts =
    let text : flat_map f (take k xs) ++ (f (get_or xs k d) ++ flat_map f (drop (k + 1) xs)) ≡ flat_map f xs =
    sym (append_assoc (flat_map f (take k xs)) (f (get_or xs k d)) (flat_map f (drop (k + 1) xs))) ∙ ap (λ (l : List ℕ). l ++ flat_map f (drop (k + 1) xs)) (sym (texts_more f xs k d within)) ∙ texts_split f xs (k + 1) in
    subst (PutsFront held now) text (puts_behind held mid now (flat_map f (take k xs)) (f (get_or xs k d) ++ flat_map f (drop (k + 1) xs)) so_far (puts_before mid now (f (get_or xs k d)) (flat_map f (drop (k + 1) xs)) puts))

pub first_all : {X : Type 0} (f : X → List ℕ) (xs : List X) (k : ℕ) (held now : Option (List ℕ)) → length xs ≤ k → PutFirst f xs k held now → now ≡ with_end (flat_map f xs) held
first_all {X} f xs k held now within so_far = so_far ∙ ap (λ (l : List X). with_end (flat_map f l) held) (take_all k xs within)
