-- The image that spells items, which has just these.
use Rattle.std.proofs.Common.{◌≡◌, ◌≢◌, ℕ, ◌+◌, ◌≤◌, ◌<◌, Bool, true, false, List, [], ◌∷◌, ◌++◌, length, take, drop, map, get_or, refl, sym, subst, ap, ◌∙◌, arith, length-append, ⊎_elim}
use Rattle.std.specs.Prelude.{nat_lt, if◌then◌else◌}
use Rattle.std.proofs.lemmas.Bool.{cases_lt}
use Rattle.std.proofs.lemmas.List.{drop-drop, get_or-drop, length-drop}
use Rattle.hb_types.specs.declared.change.LogItem.{LogItem}
use Rattle.hb_types.specs.declared.change.LogItem.TheVariants.{Abort, Commit, Decision, Ids, Prepare}
use Rattle.hb_types.specs.declared.change.Placed.{Placed}
use Rattle.hb_types.specs.Lists.{Each}
use Rattle.hb_types.specs.Logs.{Records, RecordsFrom, StandsAt, gate}
use Rattle.hb_types.specs.Numbers.{four}
use Rattle.hb_types.specs.Records.{HasRecord, body_bytes, framed, record_length}
use Rattle.hb_disks.specs.Images.{HasItems}

-- each record behind an opened gate, and a closed gate
abbrev pub image_of : List LogItem → List ℕ
image_of [] = 0 ∷ []
image_of (i ∷ is) = 1 ∷ framed i ++ image_of is

abbrev placing : ℕ → List LogItem → List Placed
placing from [] = []
placing from (i ∷ is) = record { place = from; item = i } ∷ placing (from + record_length i) is

-- ---- lists

take_front : (xs ys : List ℕ) → take (length xs) (xs ++ ys) ≡ xs
take_front [] ys = refl
take_front (x ∷ xs) ys = ap (λ zs. x ∷ zs) (take_front xs ys)

drop_front : (xs ys : List ℕ) → drop (length xs) (xs ++ ys) ≡ ys
drop_front [] ys = refl
drop_front (x ∷ xs) ys = drop_front xs ys

-- ---- records

framed_long : (i : LogItem) → length (framed i) + 1 ≡ record_length i
framed_long i = omega (arith, length-append (four (length (body_bytes i))) (body_bytes i))

not_empty : (items : List LogItem) → 1 ≤ length (image_of items)
not_empty [] = omega arith
not_empty (i ∷ is) = omega arith

gate_behind : (image : List ℕ) (place : ℕ) → gate image place ≡ gate (drop place image) 0
gate_behind image place = let zero : place ≡ place + 0 = omega arith in ap (λ (k : ℕ). get_or image k 0) zero ∙ sym (get_or-drop place image 0 0)

stands_behind : (image : List ℕ) (place : ℕ) (i : LogItem) → StandsAt (drop place image) 0 i → StandsAt image place i
stands_behind image place i here = record {
  opened = gate_behind image place ∙ here.opened;
  has_record = here.has_record;
  spelled = ap (λ (l : List ℕ). take (length (framed i)) l) (sym (drop-drop 1 place image)) ∙ here.spelled;
  inside = omega (arith, here.inside, length-drop place image);
}

stands_first : (i : LogItem) (is : List LogItem) → HasRecord i → StandsAt (image_of (i ∷ is)) 0 i
stands_first i is has = record {
  opened = refl;
  has_record = has;
  spelled = take_front (framed i) (image_of is);
  inside = omega (arith, framed_long i, length-append (framed i) (image_of is), not_empty is);
}

behind_first : (i : LogItem) (is : List LogItem) → drop (record_length i) (image_of (i ∷ is)) ≡ image_of is
behind_first i is =
    let long : record_length i ≡ length (1 ∷ framed i) = omega (arith, framed_long i) in
    ap (λ (k : ℕ). drop k (image_of (i ∷ is))) long ∙ drop_front (1 ∷ framed i) (image_of is)

closed : ◌≢◌ {A = ℕ} 0 1
closed e = omega (arith, e)

records : (image : List ℕ) (from : ℕ) (items : List LogItem) → image_of items ≡ drop from image → Each (λ (i : LogItem). HasRecord i) items → RecordsFrom image from (placing from items)
records image from [] is has = λ e. closed (ap (λ (l : List ℕ). gate l 0) is ∙ (sym (gate_behind image from) ∙ e))
records image from (i ∷ is) same has = (
  refl,
  stands_behind image from i (subst (λ (l : List ℕ). StandsAt l 0 i) same (stands_first i is has.0)),
  records image (from + record_length i) is (sym (behind_first i is) ∙ (ap (drop (record_length i)) same ∙ drop-drop (record_length i) from image)) has.1,
)

same_items : (from : ℕ) (items : List LogItem) → map (λ (p : Placed). p.item) (placing from items) ≡ items
same_items from [] = refl
same_items from (i ∷ is) = ap (λ js. i ∷ js) (same_items (from + record_length i) is)

-- ---- an image of fewer than 7 bytes has no record

body_not_empty : (i : LogItem) → 1 ≤ length (body_bytes i)
body_not_empty (Prepare tx floor locks changes) = omega arith
body_not_empty (Commit tx number) = omega arith
body_not_empty (Abort tx) = omega arith
body_not_empty (Decision tx number nodes) = omega arith
body_not_empty (Ids upto) = omega arith

none_in_few : (image : List ℕ) (from : ℕ) (placed : List Placed) → RecordsFrom image from placed → length image < 7 → RecordsFrom [] from placed
none_in_few image from [] found few = λ is. omega (arith, is)
none_in_few image from (p ∷ ps) found few = absurd (omega (arith, few, found.1.inside, body_not_empty p.item))

are_records : (image : List ℕ) (from : ℕ) (placed : List Placed) → RecordsFrom image from placed → Records image from placed
are_records image from placed found = ⊎_elim
    (λ few. subst (λ (b : Bool). RecordsFrom (if b then [] else image) from placed) (sym (is_less few)) (none_in_few image from placed found few))
    (λ enough. subst (λ (b : Bool). RecordsFrom (if b then [] else image) from placed) (sym (is_not_less enough)) found) (cases_lt (length image) 7)
  where
    is_less : length image < 7 → nat_lt (length image) 7 ≡ true
    is_less few = search (arith, few)

    is_not_less : 7 ≤ length image → nat_lt (length image) 7 ≡ false
    is_not_less enough = search (arith, enough)

pub has_items : (items : List LogItem) → Each (λ (i : LogItem). HasRecord i) items → HasItems (image_of items) items
has_items items has = (placing 0 items, are_records (image_of items) 0 (placing 0 items) (records (image_of items) 0 items refl has), same_items 0 items)
