-- Records one behind another: one record more, where they end, and the same records in another image.
use Rattle.std.proofs.Common.{◌≡◌, ◌≢◌, ℕ, ◌+◌, ◌<◌, ◌≤◌, List, [], ◌∷◌, ◌++◌, length, take, drop, get_or, refl, sym, ◌∙◌, ap, subst, arith, length-append}
use Rattle.std.proofs.lemmas.List.{drop-drop, length-take, length-drop, ext_get_or, get_or-take, get_or-drop}
use Rattle.hb_types.specs.declared.change.LogItem.{LogItem}
use Rattle.hb_types.specs.declared.change.Placed.{Placed}
use Rattle.hb_types.specs.Logs.{gate, StandsAt, RecordsFrom, end_of}
use Rattle.hb_types.specs.Numbers.{four}
use Rattle.hb_types.specs.Records.{body_bytes, framed, record_length}
use Rattle.hb_log.specs.Standing.{StandFrom}

-- a frame is a record without its gate
pub framed_long : (item : LogItem) → length (framed item) + 1 ≡ record_length item
framed_long item = omega (arith, length-append (four (length (body_bytes item))) (body_bytes item))

-- one record more
pub stand_more : (image : List ℕ) (from : ℕ) (placed : List Placed) (item : LogItem) → StandFrom image from placed → StandsAt image (end_of from placed) item
    → StandFrom image from (placed ++ record { place = end_of from placed; item = item } ∷ [])
stand_more image from [] item stand here = (refl, here, tt)
stand_more image from (p ∷ ps) item stand here =
    let place : from + record_length p.item ≡ p.place + record_length p.item = omega (arith, stand.0) in (
      stand.0,
      stand.1,
      subst (λ (e : ℕ). StandFrom image (from + record_length p.item) (ps ++ record { place = e; item = item } ∷ [])) (ap (λ (k : ℕ). end_of k ps) place)
          (stand_more image (from + record_length p.item) ps item stand.2 (subst (λ (k : ℕ). StandsAt image (end_of k ps) item) (sym place) here)),
    )

pub end_more : (from : ℕ) (placed : List Placed) (item : LogItem) → end_of from (placed ++ record { place = end_of from placed; item = item } ∷ []) ≡ end_of from placed + record_length item
end_more from [] item = refl
end_more from (p ∷ ps) item = end_more (p.place + record_length p.item) ps item

-- with a closed gate behind them they are all
pub stand_records : (image : List ℕ) (from : ℕ) (placed : List Placed) → StandFrom image from placed → gate image (end_of from placed) ≢ 1 → RecordsFrom image from placed
stand_records image from [] stand closed = closed
stand_records image from (p ∷ ps) stand closed =
    let place : from + record_length p.item ≡ p.place + record_length p.item = omega (arith, stand.0) in
    (stand.0, stand.1, stand_records image (from + record_length p.item) ps stand.2 (subst (λ (k : ℕ). gate image (end_of k ps) ≢ 1) (sym place) closed))

pub records_stand : (image : List ℕ) (from : ℕ) (placed : List Placed) → RecordsFrom image from placed → StandFrom image from placed
records_stand image from [] records = tt
records_stand image from (p ∷ ps) records = (records.0, records.1, records_stand image (from + record_length p.item) ps records.2)

pub records_closed : (image : List ℕ) (from : ℕ) (placed : List Placed) → RecordsFrom image from placed → gate image (end_of from placed) ≢ 1
records_closed image from [] records = records
records_closed image from (p ∷ ps) records =
    let place : from + record_length p.item ≡ p.place + record_length p.item = omega (arith, records.0) in
    subst (λ (k : ℕ). gate image (end_of k ps) ≢ 1) place (records_closed image (from + record_length p.item) ps records.2)

-- they end behind their start, and inside the image where they start there
pub end_later : (image : List ℕ) (from : ℕ) (placed : List Placed) → StandFrom image from placed → from ≤ end_of from placed
end_later image from [] stand = omega arith
end_later image from (p ∷ ps) stand = omega (arith, stand.0, end_later image (from + record_length p.item) ps stand.2, ap (λ (k : ℕ). end_of (k + record_length p.item) ps) stand.0)

pub end_inside : (image : List ℕ) (from : ℕ) (placed : List Placed) → StandFrom image from placed → from < length image → end_of from placed < length image
end_inside image from [] stand start = start
end_inside image from (p ∷ ps) stand start =
    omega (arith, end_inside image (from + record_length p.item) ps stand.2 stand.1.inside, ap (λ (k : ℕ). end_of (k + record_length p.item) ps) stand.0)

-- the same record in an image that agrees up to its end
pub stands_too : (old image : List ℕ) (place : ℕ) (item : LogItem) → StandsAt old place item → ((i : ℕ) → i < place + record_length item → get_or image i 0 ≡ get_or old i 0)
    → place + record_length item < length image → StandsAt image place item
stands_too old image place item here same inside = record {
  opened = same place (omega arith) ∙ here.opened;
  has_record = here.has_record;
  spelled = ext_get_or 0 (take n (drop (place + 1) image)) (take n (drop (place + 1) old)) (omega (arith, long, inside, here.inside, length-take n (drop (place + 1) image), length-take n (drop (place + 1) old), length-drop (place + 1) image, length-drop (place + 1) old))
      (λ i lt. at i (omega (arith, lt, length-take n (drop (place + 1) image)))) ∙ here.spelled;
  inside = inside;
}
  where
    n : ℕ
    n = length (framed item)

    long : length (framed item) + 1 ≡ record_length item
    long = framed_long item

    at : (i : ℕ) → i < length (framed item) → get_or (take (length (framed item)) (drop (place + 1) image)) i 0 ≡ get_or (take (length (framed item)) (drop (place + 1) old)) i 0
    at i lt =
        get_or-take n (drop (place + 1) image) i 0 lt ∙ get_or-drop (place + 1) image i 0 ∙ same (place + 1 + i) (omega (arith, lt, long))
        ∙ sym (get_or-drop (place + 1) old i 0) ∙ sym (get_or-take n (drop (place + 1) old) i 0 lt)

pub stand_too : (old image : List ℕ) (from : ℕ) (placed : List Placed) → StandFrom old from placed → ((i : ℕ) → i < end_of from placed → get_or image i 0 ≡ get_or old i 0)
    → end_of from placed < length image → StandFrom image from placed
stand_too old image from [] stand same inside = tt
stand_too old image from (p ∷ ps) stand same inside =
    let place : from + record_length p.item ≡ p.place + record_length p.item = omega (arith, stand.0) in
    let end : end_of (from + record_length p.item) ps ≡ end_of (p.place + record_length p.item) ps = ap (λ (k : ℕ). end_of k ps) place in
    let later = end_later old (from + record_length p.item) ps stand.2 in (
      stand.0,
      stands_too old image from p.item stand.1 (λ i lt. same i (omega (arith, lt, later, end))) (omega (arith, later, end, inside)),
      stand_too old image (from + record_length p.item) ps stand.2 (λ i lt. same i (omega (arith, lt, end))) (omega (arith, inside, end)),
    )

-- the gate at a place is the first of what the image has from there
pub gate_behind : (image : List ℕ) (place : ℕ) → gate image place ≡ gate (drop place image) 0
gate_behind image place = let zero : place ≡ place + 0 = omega arith in ap (λ (k : ℕ). get_or image k 0) zero ∙ sym (get_or-drop place image 0 0)

-- a record in what the image has from a place on is one of the image
pub stands_behind : (image : List ℕ) (place : ℕ) (item : LogItem) → StandsAt (drop place image) 0 item → StandsAt image place item
stands_behind image place item here = record {
  opened = gate_behind image place ∙ here.opened;
  has_record = here.has_record;
  spelled = ap (λ (l : List ℕ). take (length (framed item)) l) (sym (drop-drop 1 place image)) ∙ here.spelled;
  inside = omega (arith, here.inside, length-drop place image);
}

pub stands_front : (image : List ℕ) (place : ℕ) (item : LogItem) → StandsAt image place item → StandsAt (drop place image) 0 item
stands_front image place item here = record {
  opened = sym (gate_behind image place) ∙ here.opened;
  has_record = here.has_record;
  spelled = ap (λ (l : List ℕ). take (length (framed item)) l) (drop-drop 1 place image) ∙ here.spelled;
  inside = omega (arith, here.inside, length-drop place image);
}

-- the same of what is left of the bytes that are gone over
pub rest_behind : (image bytes rest : List ℕ) (from at next : ℕ) → bytes ≡ drop from image → rest ≡ drop at bytes → next ≡ from + at → rest ≡ drop next image
rest_behind image bytes rest from at next is_bytes is_rest is_next =
    is_rest ∙ ap (drop at) is_bytes ∙ drop-drop at from image ∙ ap (λ (k : ℕ). drop k image) (sym is_next)

pub closed_behind : (image rest : List ℕ) (next : ℕ) → rest ≡ drop next image → gate rest 0 ≢ 1 → gate image next ≢ 1
closed_behind image rest next is closed is_open = closed (ap (λ (l : List ℕ). gate l 0) is ∙ sym (gate_behind image next) ∙ is_open)

pub opened_behind : (image rest : List ℕ) (next : ℕ) → rest ≡ drop next image → gate rest 0 ≡ 1 → gate image next ≡ 1
opened_behind image rest next is is_open = gate_behind image next ∙ ap (λ (l : List ℕ). gate l 0) (sym is) ∙ is_open

pub none_behind : (image rest : List ℕ) (next : ℕ) → rest ≡ drop next image → ((item : LogItem) → StandsAt rest 0 item → ⊥) → (item : LogItem) → StandsAt image next item → ⊥
none_behind image rest next is none item here = none item (subst (λ (l : List ℕ). StandsAt l 0 item) (sym is) (stands_front image next item here))

pub stand_next : (image rest : List ℕ) (from next : ℕ) (placed : List Placed) (item : LogItem) → rest ≡ drop next image → next ≡ end_of from placed → StandFrom image from placed → StandsAt rest 0 item
    → StandFrom image from (placed ++ record { place = next; item = item } ∷ [])
stand_next image rest from next placed item is end stand here =
    subst (λ (k : ℕ). StandFrom image from (placed ++ record { place = k; item = item } ∷ [])) (sym end)
    (stand_more image from placed item stand (subst (λ (k : ℕ). StandsAt image k item) end (stands_behind image next item (subst (λ (l : List ℕ). StandsAt l 0 item) is here))))

pub end_next : (from next n : ℕ) (placed : List Placed) (item : LogItem) → next ≡ end_of from placed → n ≡ record_length item → next + n ≡ end_of from (placed ++ record { place = next; item = item } ∷ [])
end_next from next n placed item end is =
    (λ i. end i + is i) ∙ sym (end_more from placed item) ∙ ap (λ (k : ℕ). end_of from (placed ++ record { place = k; item = item } ∷ [])) (sym end)
