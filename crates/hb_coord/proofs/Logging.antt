-- A settled log, its images and its end, and one record more.
use Rattle.std.proofs.Common.{◌≡◌, ◌≢◌, ◌⊎◌, inl, inr, ⊎_elim, ℕ, ◌+◌, ◌<◌, ◌≤◌, List, [], ◌∷◌, ◌++◌, length, refl, sym, ◌∙◌, ap, subst, arith, true, false}
use Rattle.std.specs.Prelude.{nat_lt, Option}
use Rattle.std.proofs.lemmas.Bool.{cases_lt}
use Rattle.std.proofs.lemmas.Bool.Decides.{nat_tests}
use Rattle.hb_edge.specs.Images.{Image}
use Rattle.hb_codec.specs.Reading.{OneForm}
use Rattle.hb_codec.specs.Spellings.{IsBodyOf}
use Rattle.hb_types.specs.declared.change.LogItem.{LogItem}
use Rattle.hb_types.specs.declared.change.LogItem.TheVariants.{Prepare, Commit, Abort, Decision, Ids}
use Rattle.hb_types.specs.declared.change.Placed.{Placed}
use Rattle.hb_types.specs.Logs.{gate, Records, RecordsFrom, readable, end_of}
use Rattle.hb_types.specs.Records.{body_bytes, record_length}
use Rattle.hb_log.specs.declared.log.Log.{Log}
use Rattle.hb_log.specs.Log.{IsSettled, IsBeforeOrAfter, IsSameOrShort}
use Rattle.hb_log.proofs.Readings.{one_reading}
use Rattle.hb_disks.specs.Images.{HasItems}
use Rattle.hb_disks.specs.LogPlaces.{end_behind}
use Rattle.hb_coord.specs.Standing.{HasLog, items_of}

pub items-push : (placed : List Placed) (p : Placed) → items_of (placed ++ p ∷ []) ≡ items_of placed ++ p.item ∷ []
items-push [] p = refl
items-push (q ∷ placed) p = ap (λ (l : List LogItem). q.item ∷ l) (items-push placed p)

end_is : (image : Image) (from : ℕ) (placed : List Placed) → RecordsFrom image from placed → end_of from placed ≡ end_behind from (items_of placed)
end_is image from [] records = refl
end_is image from (p ∷ ps) records = ap (λ n. end_of (n + record_length p.item) ps) records.0 ∙ end_is image (from + record_length p.item) ps records.2

-- ---- records of an image

body_some : (item : LogItem) → 1 ≤ length (body_bytes item)
body_some (Prepare tx floor locks changes) = omega arith
body_some (Commit tx number) = omega arith
body_some (Abort tx) = omega arith
body_some (Decision tx number nodes) = omega arith
body_some (Ids upto) = omega arith

readable_short : (image : List ℕ) → length image < 7 → readable image ≡ []
readable_short image short = let test : nat_lt (length image) 7 ≡ true = grind (arith, nat_tests) in rw test

pub readable_long : (image : List ℕ) → 7 ≤ length image → readable image ≡ image
readable_long image long = let test : nat_lt (length image) 7 ≡ false = grind (arith, nat_tests) in rw test

pub short_records : (image : List ℕ) → length image < 7 → Records image 0 []
short_records image short = subst (λ (l : List ℕ). gate l 0 ≢ 1) (sym (readable_short image short)) (λ is. omega (arith, is))

records_of : (image : List ℕ) (placed : List Placed) → RecordsFrom image 0 placed → Records image 0 placed
records_of image [] closed = ⊎_elim (λ short. short_records image short) (λ long. subst (λ (l : List ℕ). gate l 0 ≢ 1) (sym (readable_long image long)) closed) (cases_lt (length image) 7)
records_of image (p ∷ ps) records = subst (λ (l : List ℕ). RecordsFrom l 0 (p ∷ ps)) (sym (readable_long image (omega (arith, records.1.inside, body_some p.item)))) records

-- an image has one list of records
pub one_list : OneForm IsBodyOf → (image : Image) (xs ys : List LogItem) → HasItems image xs → HasItems image ys → xs ≡ ys
one_list one image xs ys has_x has_y = sym has_x.2 ∙ ap items_of (one_reading one (readable image) 0 has_x.0 has_y.0 has_x.1 has_y.1) ∙ has_y.2

-- two images of which each has none, or that are one, have the same
pub same_items : OneForm IsBodyOf → (old image : Image) (items : List LogItem) → IsSameOrShort old image → HasItems old items → HasItems image items
same_items one old image items (inl same) has = subst (λ (i : Image). HasItems i items) (sym same) has
same_items one old image items (inr short) has =
    let none : items ≡ [] = one_list one old items [] has ([], short_records old short.0, refl) in
    subst (HasItems image) (sym none) ([], short_records image short.1, refl)

module _ {D : Type 0} (content : D → Option Image) (left : D → ℕ → Image → Type 0) (last : D → ℕ) where
  pub log_end : (items : List LogItem) (log : Log D) (moment : ℕ) → HasLog content left last items log moment → log.end ≡ end_behind 0 items
  log_end items log moment has = has.settled.end ∙ end_is has.settled.image 0 has.placed has.settled.records ∙ ap (end_behind 0) has.items_are

  pub log_items : (items : List LogItem) (log : Log D) (moment : ℕ) → (has : HasLog content left last items log moment) → HasItems has.settled.image items
  log_items items log moment has = (has.placed, records_of has.settled.image has.placed has.settled.records, has.items_are)

  -- what a stop leaves of it
  pub log_left : (items : List LogItem) (log : Log D) (moment m : ℕ) (image : Image) → ((m : ℕ) (image : Image) → last log.disk ≤ m → left log.disk m image → left log.disk (last log.disk) image)
      → HasLog content left last items log moment → last log.disk ≤ m → left log.disk m image → HasItems image items
  log_left items log moment m image stands has le is =
      subst (λ (i : Image). HasItems i items) (sym (has.settled.only image (stands m image le is))) (log_items items log moment has)

  pub log_later : (items : List LogItem) (log : Log D) (moment later : ℕ) → moment ≤ later → HasLog content left last items log moment → HasLog content left last items log later
  log_later items log moment later le has = record { placed = has.placed; settled = has.settled; items_are = has.items_are; in_time = omega (arith, le, has.in_time) }

  -- a record more
  pub log_more : (items : List LogItem) (placed : List Placed) (p : Placed) (log : Log D) (moment : ℕ) → items_of placed ≡ items → IsSettled content left last 0 (placed ++ p ∷ []) log → last log.disk ≤ moment → HasLog content left last (items ++ p.item ∷ []) log moment
  log_more items placed p log moment are settled in_time = record {
    placed = placed ++ p ∷ [];
    settled = settled;
    items_are = items-push placed p ∙ ap (λ (l : List LogItem). l ++ p.item ∷ []) are;
    in_time = in_time;
  }

pub either_items : (image : Image) (items : List LogItem) (placed : List Placed) (p : Placed) → items_of placed ≡ items → IsBeforeOrAfter 0 placed p image → HasItems image items ⊎ HasItems image (items ++ p.item ∷ [])
either_items image items placed p are (inl was) = inl (placed, was, are)
either_items image items placed p are (inr now) = inr (placed ++ p ∷ [], now, items-push placed p ∙ ap (λ (l : List LogItem). l ++ p.item ∷ []) are)
