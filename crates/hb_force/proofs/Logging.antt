-- A settled log that begins at a place, its images and its end, and one record more.
use Rattle.std.proofs.Common.{◌≡◌, ◌≢◌, ◌⊎◌, inl, inr, ⊎_elim, ℕ, zero, suc, ◌+◌, ◌<◌, ◌≤◌, List, [], ◌∷◌, ◌++◌, length, refl, sym, ◌∙◌, ap, subst, arith, true, false}
use Rattle.std.specs.Prelude.{nat_lt, Option}
use Rattle.std.proofs.lemmas.Bool.{cases_lt}
use Rattle.std.proofs.lemmas.Bool.Decides.{nat_tests}
use Rattle.hb_edge.specs.Images.{Image}
use Rattle.hb_edge.specs.Stops.{Leaves}
use Rattle.hb_types.specs.declared.change.LogItem.{LogItem}
use Rattle.hb_types.specs.declared.change.LogItem.TheVariants.{Prepare, Commit, Abort, Decision, Ids}
use Rattle.hb_types.specs.declared.change.Placed.{Placed}
use Rattle.hb_types.specs.Logs.{gate, Records, RecordsFrom, readable, end_of}
use Rattle.hb_types.specs.Records.{body_bytes, record_length}
use Rattle.hb_log.specs.declared.log.Log.{Log}
use Rattle.hb_log.specs.Log.{IsSettled, IsBeforeOrAfter}
use Rattle.hb_disks.specs.LogPlaces.{end_behind}
use Rattle.hb_force.specs.Standing.{HasFrom, HasRecords, items_of}

pub items-push : (placed : List Placed) (p : Placed) → items_of (placed ++ p ∷ []) ≡ items_of placed ++ p.item ∷ []
items-push [] p = refl
items-push (q ∷ placed) p = ap (λ (l : List LogItem). q.item ∷ l) (items-push placed p)

end_is : (image : Image) (from : ℕ) (placed : List Placed) → RecordsFrom image from placed → end_of from placed ≡ end_behind from (items_of placed)
end_is image from [] records = refl
end_is image from (p ∷ ps) records = ap (λ n. end_of (n + record_length p.item) ps) records.0 ∙ end_is image (from + record_length p.item) ps records.2

pub end_behind-append : (place : ℕ) (l m : List LogItem) → end_behind place (l ++ m) ≡ end_behind (end_behind place l) m
end_behind-append place [] m = refl
end_behind-append place (i ∷ l) m = end_behind-append (place + record_length i) l m

-- ---- records of an image

body_some : (item : LogItem) → 1 ≤ length (body_bytes item)
body_some (Prepare tx floor locks changes) = omega arith
body_some (Commit tx number) = omega arith
body_some (Abort tx) = omega arith
body_some (Decision tx number nodes) = omega arith
body_some (Ids upto) = omega arith

readable_short : (image : List ℕ) → length image < 7 → readable image ≡ []
readable_short image short = let test : nat_lt (length image) 7 ≡ true = grind (arith, nat_tests) in rw test

readable_long : (image : List ℕ) → 7 ≤ length image → readable image ≡ image
readable_long image long = let test : nat_lt (length image) 7 ≡ false = grind (arith, nat_tests) in rw test

no_gate : (from : ℕ) → gate [] from ≡ 0
no_gate zero = refl
no_gate (suc n) = refl

records_of : (image : List ℕ) (from : ℕ) (placed : List Placed) → RecordsFrom image from placed → Records image from placed
records_of image from [] closed =
    ⊎_elim
    (λ short. subst (λ (l : List ℕ). gate l from ≢ 1) (sym (readable_short image short)) (λ is. omega (arith, is, no_gate from)))
    (λ long. subst (λ (l : List ℕ). gate l from ≢ 1) (sym (readable_long image long)) closed) (cases_lt (length image) 7)
records_of image from (p ∷ ps) records = subst (λ (l : List ℕ). RecordsFrom l from (p ∷ ps)) (sym (readable_long image (omega (arith, records.1.inside, body_some p.item)))) records

module _ {D : Type 0} (content : D → Option Image) (left : D → ℕ → Image → Type 0) (last : D → ℕ) where
  pub log_end : (from : ℕ) (items : List LogItem) (log : Log D) (moment : ℕ) → HasRecords content left last from items log moment → log.end ≡ end_behind from items
  log_end from items log moment has = has.settled.end ∙ end_is has.settled.image from has.placed has.settled.records ∙ ap (end_behind from) has.items_are

  -- what a stop leaves of it
  pub log_left : (from : ℕ) (items : List LogItem) (log : Log D) (moment m : ℕ) (image : Image) → ((m : ℕ) (image : Image) → last log.disk ≤ m → left log.disk m image → left log.disk (last log.disk) image)
      → HasRecords content left last from items log moment → last log.disk ≤ m → left log.disk m image → HasFrom from image items
  log_left from items log moment m image stands has le is =
      subst (λ (i : Image). HasFrom from i items) (sym (has.settled.only image (stands m image le is))) (has.placed, records_of has.settled.image from has.placed has.settled.records, has.items_are)

  pub log_later : (from : ℕ) (items : List LogItem) (log : Log D) (moment later : ℕ) → moment ≤ later → HasRecords content left last from items log moment → HasRecords content left last from items log later
  log_later from items log moment later le has = record { placed = has.placed; settled = has.settled; items_are = has.items_are; in_time = omega (arith, le, has.in_time) }

  -- a record more
  pub log_more : (from : ℕ) (items : List LogItem) (placed : List Placed) (p : Placed) (log : Log D) (moment : ℕ) → items_of placed ≡ items → IsSettled content left last from (placed ++ p ∷ []) log → last log.disk ≤ moment
      → HasRecords content left last from (items ++ p.item ∷ []) log moment
  log_more from items placed p log moment are settled in_time = record {
    placed = placed ++ p ∷ [];
    settled = settled;
    items_are = items-push placed p ∙ ap (λ (l : List LogItem). l ++ p.item ∷ []) are;
    in_time = in_time;
  }

pub either_items : (from : ℕ) (image : Image) (items : List LogItem) (placed : List Placed) (p : Placed) → items_of placed ≡ items → IsBeforeOrAfter from placed p image → HasFrom from image items ⊎ HasFrom from image (items ++ p.item ∷ [])
either_items from image items placed p are (inl was) = inl (placed, was, are)
either_items from image items placed p are (inr now) = inr (placed ++ p ∷ [], now, items-push placed p ∙ ap (λ (l : List LogItem). l ++ p.item ∷ []) are)

-- what is said of each image left twice
pub both : (from : ℕ) (old new : ℕ → Image → Type 0) (P Q : ℕ → Image → Type 0) → Leaves from old new P → Leaves from old new Q → Leaves from old new (λ m image. P m image × Q m image)
both from old new P Q one two = record { each = λ m image le is. (one.each m image le is, two.each m image le is); before = one.before; keeps = one.keeps }
