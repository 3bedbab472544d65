-- What stands in an image while a record is forced behind the closed gate.
use Rattle.std.proofs.Common.{◌≡◌, ◌≢◌, inl, inr, ⊎_elim, ℕ, ◌+◌, ◌-◌, ◌<◌, ◌≤◌, nat_lt, Bool, true, false, if◌then◌else◌, List, [], ◌∷◌, ◌++◌, length, take, drop, replicate, get_or, refl, sym, ◌∙◌, ap, subst, arith, append_assoc, length-append}
use Rattle.std.proofs.lemmas.List.{take_at, drop_at, length-take, length-drop, length-replicate, get_or-drop, get_or_at, ext_get_or}
use Rattle.std.proofs.lemmas.Bool.{cases_eq, cases_lt}
use Rattle.hb_edge.specs.ImageLaws.{torn_written}
use Rattle.hb_edge.specs.Images.{Image, Torn, written}
use Rattle.hb_types.specs.declared.change.LogItem.{LogItem}
use Rattle.hb_types.specs.declared.change.LogItem.TheVariants.{Prepare, Commit, Abort, Decision, Ids}
use Rattle.hb_types.specs.declared.change.Placed.{Placed}
use Rattle.hb_types.specs.Logs.{gate, StandsAt, Records, RecordsFrom, end_of}
use Rattle.hb_types.specs.Records.{HasRecord, body_bytes, framed, record_length}
use Rattle.hb_log.specs.Forced.{Forced}
use Rattle.hb_log.specs.Log.{IsBeforeOrAfter}
use Rattle.hb_log.specs.Standing.{StandFrom}
use Rattle.hb_log.proofs.Standing.{framed_long, stand_more, end_more, stand_records, records_stand, records_closed, stand_too}

body_not_empty : (item : LogItem) → 1 ≤ length (body_bytes item)
body_not_empty (Prepare tx floor locks changes) = omega arith
body_not_empty (Commit tx number) = omega arith
body_not_empty (Abort tx) = omega arith
body_not_empty (Decision tx number nodes) = omega arith
body_not_empty (Ids upto) = omega arith

-- an image of fewer than 7 bytes has no record
none_in_few : (image : Image) (from : ℕ) (placed : List Placed) → RecordsFrom image from placed → length image < 7 → RecordsFrom [] from placed
none_in_few image from [] records few = λ is. omega (arith, is)
none_in_few image from (p ∷ ps) records few = absurd (omega (arith, few, records.1.inside, body_not_empty p.item))

pub are_records : (image : Image) (from : ℕ) (placed : List Placed) → RecordsFrom image from placed → Records image from placed
are_records image from placed records = ⊎_elim
    (λ few. subst (λ (b : Bool). RecordsFrom (if b then [] else image) from placed) (sym (is_less few)) (none_in_few image from placed records few))
    (λ enough. subst (λ (b : Bool). RecordsFrom (if b then [] else image) from placed) (sym (is_not_less enough)) records) (cases_lt (length image) 7)
  where
    is_less : length image < 7 → nat_lt (length image) 7 ≡ true
    is_less few = search (arith, few)

    is_not_less : 7 ≤ length image → nat_lt (length image) 7 ≡ false
    is_not_less enough = search (arith, enough)

module _ (old : Image) (from shut : ℕ) (placed : List Placed) (records : RecordsFrom old from placed) (is_shut : shut ≡ end_of from placed) (inside : shut < length old) where
  stand : StandFrom old from placed
  stand = records_stand old from placed records

  -- whose gate isn't open
  closed : (image : Image) → shut < length image → ((i : ℕ) → i < shut → get_or image i 0 ≡ get_or old i 0) → gate image shut ≢ 1 → RecordsFrom image from placed
  closed image within same not_open =
      stand_records image from placed (stand_too old image from placed stand (λ i lt. same i (omega (arith, lt, is_shut))) (omega (arith, within, is_shut)))
      (subst (λ (k : ℕ). gate image k ≢ 1) is_shut not_open)

  shut_closed : gate old shut ≢ 1
  shut_closed = subst (λ (k : ℕ). gate old k ≢ 1) (sym is_shut) (records_closed old from placed records)

  pub behind : (n : ℕ) (image : Image) → Torn (shut + 1) n old image → RecordsFrom image from placed
  behind n image torn = closed image (omega (arith, torn.no_shorter, inside))
      (λ i lt. torn.below i (omega (arith, lt, inside)) (omega (arith, lt))) (λ is. shut_closed (sym (torn.below shut inside (omega arith)) ∙ is))

  module _ (item : LogItem) (has_record : HasRecord item) where
    abbrev bytes : List ℕ
    bytes = framed item ++ 0 ∷ []

    abbrev staged : Image
    staged = written (shut + 1) bytes old

    abbrev new : Placed
    new = record { place = shut; item = item }

    staged_torn : Torn (shut + 1) (length bytes) old staged
    staged_torn = torn_written (shut + 1) bytes old

    bytes_long : length (framed item ++ 0 ∷ []) ≡ record_length item
    bytes_long = omega (arith, length-append (framed item) (0 ∷ []), framed_long item)

    front_long : length (take (shut + 1) old ++ replicate (shut + 1 - length old) 0) ≡ shut + 1
    front_long = omega (arith, inside, length-append (take (shut + 1) old) (replicate (shut + 1 - length old) 0), length-take (shut + 1) old, length-replicate {A = ℕ} (shut + 1 - length old) 0)

    staged_behind : drop (shut + 1) staged ≡ bytes ++ drop (shut + 1 + length bytes) old
    staged_behind =
        ap (λ (l : List ℕ). drop (shut + 1) l) (append_assoc (take (shut + 1) old ++ replicate (shut + 1 - length old) 0) bytes (drop (shut + 1 + length bytes) old))
        ∙ drop_at (take (shut + 1) old ++ replicate (shut + 1 - length old) 0) (bytes ++ drop (shut + 1 + length bytes) old) (shut + 1) front_long

    pub staged_long : shut + 1 + length bytes ≤ length staged
    staged_long = omega (arith, ap length staged_behind, length-drop (shut + 1) staged, length-append bytes (drop (shut + 1 + length bytes) old), inside, staged_torn.no_shorter)

    same_front : (image : Image) → Torn shut 1 staged image → (i : ℕ) → i < shut → get_or image i 0 ≡ get_or old i 0
    same_front image torn i lt = torn.below i (omega (arith, lt, inside, staged_torn.no_shorter)) lt ∙ staged_torn.below i (omega (arith, lt, inside)) (omega (arith, lt))

    same_back : (image : Image) → Torn shut 1 staged image → drop (shut + 1) image ≡ bytes ++ drop (shut + 1 + length bytes) old
    same_back image torn =
        let long : length image ≡ length staged = omega (arith, torn.no_shorter, torn.no_longer, staged_long) in
        ext_get_or 0 (drop (shut + 1) image) (drop (shut + 1) staged) (omega (arith, long, length-drop (shut + 1) image, length-drop (shut + 1) staged))
        (λ i lt. get_or-drop (shut + 1) image i 0 ∙ torn.above (shut + 1 + i) (omega (arith, lt, long, length-drop (shut + 1) image)) (omega arith) ∙ sym (get_or-drop (shut + 1) staged i 0))
        ∙ staged_behind

    -- with its gate open
    pub whole : (image : Image) → Torn shut 1 staged image → gate image shut ≡ 1 → RecordsFrom image from (placed ++ new ∷ [])
    whole image torn is_open =
        subst (λ (k : ℕ). RecordsFrom image from (placed ++ record { place = k; item = item } ∷ [])) (sym is_shut)
        (stand_records image from (placed ++ record { place = end_of from placed; item = item } ∷ [])
        (stand_more image from placed item (stand_too old image from placed stand (λ i lt. same_front image torn i (omega (arith, lt, is_shut))) (omega (arith, within, is_shut))) (subst (λ (k : ℕ). StandsAt image k item) is_shut here))
        (λ is. next_closed (ap (λ (k : ℕ). gate image k) (next_place) ∙ is)))
      where
        long : length image ≡ length staged
        long = omega (arith, torn.no_shorter, torn.no_longer, staged_long)

        within : shut < length image
        within = omega (arith, long, staged_long)

        tail : List ℕ
        tail = drop (shut + 1 + length bytes) old

        back : drop (shut + 1) image ≡ framed item ++ 0 ∷ drop (shut + 1 + length bytes) old
        back = same_back image torn ∙ append_assoc (framed item) (0 ∷ []) (drop (shut + 1 + length bytes) old)

        here : StandsAt image shut item
        here = record {
          opened = is_open;
          has_record = has_record;
          spelled = ap (λ (l : List ℕ). take (length (framed item)) l) back ∙ take_at (framed item) (0 ∷ drop (shut + 1 + length bytes) old) (length (framed item)) refl;
          inside = omega (arith, long, staged_long, bytes_long);
        }

        next_place : shut + 1 + length (framed item) ≡ end_of from (placed ++ record { place = end_of from placed; item = item } ∷ [])
        next_place = omega (arith, framed_long item, is_shut, end_more from placed item)

        next_closed : gate image (shut + 1 + length (framed item)) ≡ 1 → ⊥
        next_closed is =
            let zero : get_or image (shut + 1 + length (framed item)) 0 ≡ 0 =
            sym (get_or-drop (shut + 1) image (length (framed item)) 0) ∙ ap (λ (l : List ℕ). get_or l (length (framed item)) 0) back
            ∙ get_or_at (framed item) 0 (drop (shut + 1 + length bytes) old) 0 (length (framed item)) refl in
            omega (arith, is, zero)

    pub forced : (image : Image) → Forced shut bytes old image → IsBeforeOrAfter from placed new image
    forced image (inl torn) = inl (are_records image from placed (behind (length bytes) image torn))
    forced image (inr torn) = ⊎_elim (λ is. inr (are_records image from (placed ++ new ∷ []) (whole image torn is)))
        (λ not_open. inl (are_records image from placed (closed image (omega (arith, torn.no_shorter, staged_long)) (same_front image torn) not_open))) (cases_eq (gate image shut) 1)

    abbrev done : Image
    done = written shut (1 ∷ []) staged

    pub done_records : RecordsFrom done from (placed ++ new ∷ [])
    done_records = whole done (torn_written shut (1 ∷ []) staged) opens
      where
        long : length (take shut staged ++ replicate (shut - length staged) 0) ≡ shut
        long = omega (arith, staged_long, length-append (take shut staged) (replicate (shut - length staged) 0), length-take shut staged, length-replicate {A = ℕ} (shut - length staged) 0)

        opens : get_or done shut 0 ≡ 1
        opens = ap (λ (l : List ℕ). get_or l shut 0) (append_assoc (take shut staged ++ replicate (shut - length staged) 0) (1 ∷ []) (drop (shut + 1) staged))
            ∙ get_or_at (take shut staged ++ replicate (shut - length staged) 0) 1 (drop (shut + 1) staged) 0 shut long

    pub done_long : shut + length bytes < length done
    done_long = let t = torn_written shut (1 ∷ []) staged in omega (arith, t.no_shorter, staged_long)

    pub done_end : shut + length bytes ≡ end_of from (placed ++ new ∷ [])
    done_end =
        (let longer : shut + length bytes ≡ shut + record_length item = omega (arith, bytes_long) in longer)
        ∙ ap (λ (k : ℕ). k + record_length item) is_shut ∙ sym (end_more from placed item) ∙ ap (λ (k : ℕ). end_of from (placed ++ record { place = k; item = item } ∷ [])) (sym is_shut)

-- nothing is taken away
pub forced_longer : (shut : ℕ) (bytes old image : List ℕ) → Forced shut bytes old image → length old ≤ length image
forced_longer shut bytes old image (inl torn) = torn.no_shorter
forced_longer shut bytes old image (inr torn) = let staged = torn_written (shut + 1) bytes old in omega (arith, torn.no_shorter, staged.no_shorter)
