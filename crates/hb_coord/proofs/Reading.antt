-- The records of a log, gone over one by one.
use Rattle.std.proofs.Common.{◌≡◌, ℕ, ◌+◌, ◌<◌, List, [], ◌∷◌, ◌++◌, length, take, drop, get_or, add-one, take-append-drop, append_assoc, sym, ◌∙◌, ap, subst}
use Rattle.std.proofs.Math.Seq.{take-suc}
use Rattle.hb_types.specs.declared.change.LogItem.{LogItem}
use Rattle.hb_types.specs.declared.change.Placed.{Placed}
use Rattle.hb_types.specs.Lists.{Each}
use Rattle.hb_types.proofs.Ascending.{Each-append}
use Rattle.hb_disks.specs.StandsFor.{IsCoordinators}
use Rattle.hb_coord.specs.Memory.{Knows}
use Rattle.hb_coord.specs.Standing.{items_of}
use Rattle.hb_coord.specs.Starts.{IsStrange}
use Rattle.hb_coord.specs.declared.kept.Recorded.{Recorded}
use Rattle.hb_coord.proofs.Logging.{items-push}

next_taken : (records : List Placed) (i : ℕ) (p : Placed) → i < length records → p ≡ get_or records i p → take (i + 1) records ≡ take i records ++ p ∷ []
next_taken records i p lt is = rw add-one (take-suc records i p lt ∙ ap (λ (q : Placed). take i records ++ q ∷ []) (sym is))

split_there : (records : List Placed) (i : ℕ) (p : Placed) → i < length records → p ≡ get_or records i p → records ≡ take i records ++ p ∷ drop (i + 1) records
split_there records i p lt is = sym (take-append-drop (i + 1) records) ∙ ap (λ (l : List Placed). l ++ drop (i + 1) records) (next_taken records i p lt is) ∙ append_assoc (take i records) (p ∷ []) (drop (i + 1) records)

taken_items : (records : List Placed) (i : ℕ) (p : Placed) → i < length records → p ≡ get_or records i p → items_of (take (i + 1) records) ≡ items_of (take i records) ++ p.item ∷ []
taken_items records i p lt is = ap items_of (next_taken records i p lt is) ∙ items-push (take i records) p

pub knows_next : (records : List Placed) (i : ℕ) (p : Placed) (r : Recorded) → i < length records → p ≡ get_or records i p → Knows (items_of (take i records) ++ p.item ∷ []) r → Knows (items_of (take (i + 1) records)) r
knows_next records i p r lt is knows = subst (λ (l : List LogItem). Knows l r) (sym (taken_items records i p lt is)) knows

pub own_next : (records : List Placed) (i : ℕ) (p : Placed) → i < length records → p ≡ get_or records i p → Each IsCoordinators (items_of (take i records)) → IsCoordinators p.item → Each IsCoordinators (items_of (take (i + 1) records))
own_next records i p lt is own next = subst (Each IsCoordinators) (sym (taken_items records i p lt is)) (Each-append IsCoordinators (items_of (take i records)) (p.item ∷ []) own (next, tt))

placed_own : (placed : List Placed) → Each IsCoordinators (items_of placed) → Each (λ (p : Placed). IsCoordinators p.item) placed
placed_own [] own = tt
placed_own (p ∷ ps) own = (own.0, placed_own ps own.1)

pub strange_here : (records : List Placed) (i : ℕ) (p : Placed) (place : ℕ) → i < length records → p ≡ get_or records i p → Each IsCoordinators (items_of (take i records)) → (IsCoordinators p.item → ⊥) → p.place ≡ place → IsStrange records place
strange_here records i p place lt is own other place_is = record {
  front = take i records;
  first = p;
  back = drop (i + 1) records;
  parts = split_there records i p lt is;
  own = placed_own (take i records) own;
  other = other;
  place_is = place_is;
}
