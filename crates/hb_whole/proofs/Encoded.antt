-- The bytes of rows, one after another.
use Rattle.std.proofs.Common.{◌≡◌, ℕ, ◌≤◌, List, [], ◌∷◌, ◌++◌, length, map, Some, None, Option, refl, ap, sym, ◌∙◌, subst, append_assoc, append-nil}
use Rattle.std.specs.Prelude.{IfSome}
use Rattle.std.specs.List.Sorted.{IsStrictlySortedBy}
use Rattle.hb_types.proofs.SamePlace.{same_place-refl}
use Rattle.hb_types.specs.declared.change.Stored.{Stored}
use Rattle.hb_types.specs.declared.places.Place.{Place}
use Rattle.hb_types.specs.Lists.{Each, joined}
use Rattle.hb_types.specs.Records.{change_bytes}
use Rattle.hb_types.specs.Rows.{IsRow}
use Rattle.hb_disks.specs.WholeImage.{as_change}
use Rattle.hb_whole.specs.declared.map.Slot.{Slot}
use Rattle.hb_whole.specs.Slots.{AreOrdered, AreSound, Entries, IsSlot, rows_of, slot_at}
use Rattle.hb_whole.proofs.Listed.{rows_cons}
use Rattle.hb_whole.proofs.SlotRows.{sound_rest}

abbrev pub bytes_of : List Stored → List ℕ
bytes_of rows = joined (map (λ r. change_bytes (as_change r)) rows)

pub bytes_append : (xs ys : List Stored) → bytes_of (xs ++ ys) ≡ bytes_of xs ++ bytes_of ys
bytes_append [] ys = refl
bytes_append (x ∷ xs) ys = ap (λ b. change_bytes (as_change x) ++ b) (bytes_append xs ys) ∙ sym (append_assoc (change_bytes (as_change x)) (bytes_of xs) (bytes_of ys))

pub bytes_cons : (p : Place) (s : Slot) (es : Entries) → bytes_of (rows_of ((p, s) ∷ es)) ≡ bytes_of (rows_of ((p, s) ∷ [])) ++ bytes_of (rows_of es)
bytes_cons p s es = ap bytes_of (rows_cons p s es) ∙ bytes_append (rows_of ((p, s) ∷ [])) (rows_of es)

-- a step of the loop that writes them
pub bytes_more : (out new whole : List ℕ) (p : Place) (s : Slot) (it es : Entries) → it ≡ (p, s) ∷ es → out ++ bytes_of (rows_of it) ≡ whole → new ≡ out ++ bytes_of (rows_of ((p, s) ∷ [])) → new ++ bytes_of (rows_of es) ≡ whole
bytes_more out new whole p s it es step so_far is =
    ap (λ b. b ++ bytes_of (rows_of es)) is ∙ append_assoc out (bytes_of (rows_of ((p, s) ∷ []))) (bytes_of (rows_of es))
    ∙ ap (λ b. out ++ b) (sym (bytes_cons p s es)) ∙ ap (λ (e : Entries). out ++ bytes_of (rows_of e)) (sym step) ∙ so_far

pub one_row : (p : Place) (s : Slot) (row : List ℕ) → s.row ≡ Some row → bytes_of (rows_of ((p, s) ∷ [])) ≡ change_bytes (as_change (record { place = p; row = row }))
one_row p s row is = ap (λ (o : Option (List ℕ)). bytes_of (rows_of ((p, record { row = o; room = 0 }) ∷ []))) is ∙ append-nil (change_bytes (as_change (record { place = p; row = row })))

-- three pieces, one behind another
pub three_pieces : (old a b c one two three : List ℕ) → one ≡ old ++ a → two ≡ one ++ b → three ≡ two ++ c → three ≡ old ++ (a ++ b ++ c)
three_pieces old a b c one two three e f g =
    g ∙ ap (λ l. l ++ c) (f ∙ ap (λ l. l ++ b) e ∙ append_assoc old a b) ∙ append_assoc old (a ++ b) c

pub each_short : (es : Entries) → AreOrdered es → AreSound es → Each (λ e. IfSome e.1.row (λ row. length row ≤ 4000)) es
unfolding IsStrictlySortedBy
each_short [] o s = tt
each_short (e ∷ es) o s = (short e.1.row (subst (λ (x : Option Slot). IfSome x (IsSlot e.0)) here (s e.0)).1, each_short es o.1 (sound_rest e es o s))
  where
    here : slot_at (e ∷ es) e.0 ≡ Some e.1
    here = rw (same_place-refl e.0) refl

    short : (o : Option (List ℕ)) → IfSome o IsRow → IfSome o (λ row. length row ≤ 4000)
    short None f = tt
    short (Some row) f = f.0
