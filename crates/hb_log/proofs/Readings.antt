-- Two readings of one image are one, no image is both read and damaged, and records ascend in place.
use Rattle.std.proofs.Common.{◌≡◌, ℕ, ◌+◌, ◌<◌, List, [], ◌∷◌, drop, sym, ◌∙◌, subst, refl, arith, ◌++◌, ap}
use Rattle.std.specs.Ordering.{nat_cmp}
use Rattle.std.specs.Cmp.{nat_cmp_is}
use Rattle.std.specs.declared.cmp.Ordering.TheVariants.{Less}
use Rattle.hb_codec.specs.Reading.{OneForm}
use Rattle.hb_codec.specs.Spellings.{IsBodyOf}
use Rattle.hb_types.specs.declared.change.LogItem.{LogItem}
use Rattle.hb_types.specs.declared.change.Placed.{Placed}
use Rattle.hb_types.specs.Lists.{Ascends}
use Rattle.hb_types.specs.Logs.{gate, StandsAt, RecordsFrom, end_of}
use Rattle.hb_types.specs.Records.{HasRecord, body_bytes, record_length}
use Rattle.hb_log.specs.Standing.{StandFrom, Breaks}
use Rattle.hb_log.proofs.Framing.{same_body}

-- a body has one record
one_body : OneForm IsBodyOf → (x y : LogItem) → HasRecord x → HasRecord y → body_bytes x ≡ body_bytes y → x ≡ y
one_body one x y has_x has_y same =
    let both = one x y (body_bytes x) (body_bytes y) [] [] (record { fits = has_x; spelled = refl }) (record { fits = has_y; spelled = refl }) (ap (λ (l : List ℕ). l ++ []) same) in
    both.1

-- one place has one record
pub one_item : OneForm IsBodyOf → (image : List ℕ) (place : ℕ) (x y : LogItem) → StandsAt image place x → StandsAt image place y → x ≡ y
one_item one image place x y is_x is_y = one_body one x y is_x.has_record is_y.has_record (same_body (drop (place + 1) image) x y is_x.has_record is_y.has_record is_x.spelled is_y.spelled)

pub one_reading : OneForm IsBodyOf → (image : List ℕ) (from : ℕ) (a b : List Placed) → RecordsFrom image from a → RecordsFrom image from b → a ≡ b
one_reading one image from [] [] is_a is_b = refl
one_reading one image from [] (q ∷ qs) is_a is_b = absurd (is_a is_b.1.opened)
one_reading one image from (p ∷ ps) [] is_a is_b = absurd (is_b is_a.1.opened)
one_reading one image from (p ∷ ps) (q ∷ qs) is_a is_b =
    let item : p.item ≡ q.item = one_item one image from p.item q.item is_a.1 is_b.1 in
    let place : p.place ≡ q.place = is_a.0 ∙ sym is_b.0 in
    let rest : ps ≡ qs = one_reading one image (from + record_length p.item) ps qs is_a.2 (subst (λ (x : LogItem). RecordsFrom image (from + record_length x) qs) (sym item) is_b.2) in
    (λ i. record { place = place i; item = item i } ∷ rest i)

-- behind records that stand, all that are read are found
pub never_both : OneForm IsBodyOf → (image : List ℕ) (from at : ℕ) (placed : List Placed) → RecordsFrom image from placed → Breaks image from at → ⊥
never_both one image from at placed records breaks =
    apart from placed breaks.good records breaks.stand (subst (λ (k : ℕ). gate image k ≡ 1) breaks.place breaks.opened) (λ item here. breaks.none item (subst (λ (k : ℕ). StandsAt image k item) (sym breaks.place) here))
  where
    apart : (from : ℕ) (placed good : List Placed) → RecordsFrom image from placed → StandFrom image from good → gate image (end_of from good) ≡ 1 → ((item : LogItem) → StandsAt image (end_of from good) item → ⊥) → ⊥
    apart from [] [] records stand is_open none = records is_open
    apart from (p ∷ ps) [] records stand is_open none = none p.item records.1
    apart from [] (g ∷ gs) records stand is_open none = records stand.1.opened
    apart from (p ∷ ps) (g ∷ gs) records stand is_open none =
        let item : p.item ≡ g.item = one_item one image from p.item g.item records.1 stand.1 in
        let place : from + record_length g.item ≡ g.place + record_length g.item = omega (arith, stand.0) in
        apart (from + record_length g.item) ps gs (subst (λ (x : LogItem). RecordsFrom image (from + record_length x) ps) item records.2) stand.2
        (subst (λ (k : ℕ). gate image (end_of k gs) ≡ 1) (sym place) is_open)
        (λ x here. none x (subst (λ (k : ℕ). StandsAt image (end_of k gs) x) place here))

below : (a b : ℕ) → a < b → nat_cmp a b ≡ Less
below a b lt = sym (nat_cmp_is a b Less lt)

pub ascending : (image : List ℕ) (from : ℕ) (placed : List Placed) → RecordsFrom image from placed → Ascends (λ (a b : Placed). nat_cmp a.place b.place) placed
ascending image from [] records = tt
ascending image from (p ∷ []) records = tt
ascending image from (p ∷ q ∷ ps) records =
    (below p.place q.place (omega (arith, records.0, records.2.0)), ascending image (from + record_length p.item) (q ∷ ps) records.2)
