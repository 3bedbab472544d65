-- Eight ways in which the small disks break one rule each.
use Rattle.std.proofs.Common.{◌≡◌, ◌⊎◌, ℕ, ◌≤◌, false, List, [], ◌∷◌, ◌++◌, Some, None, refl, ap, sym, ◌∙◌, pos, arith, inl, inr, subst}
use Rattle.std.specs.Prelude.{Option, IsTrue, slice_index_or, replicate}
use Rattle.std.proofs.lemmas.Bool.{false≢true}
use Rattle.hb_types.specs.declared.change.Change.{Change}
use Rattle.hb_types.specs.declared.change.LogItem.{LogItem}
use Rattle.hb_types.specs.declared.change.LogItem.TheVariants as item
use Rattle.hb_types.specs.declared.lock.Mode.TheVariants as mode
use Rattle.hb_types.specs.declared.places.Path.TheVariants as path
use Rattle.hb_types.specs.declared.places.Place.{Place}
use Rattle.hb_types.specs.declared.value.Value.TheVariants as value
use Rattle.hb_types.specs.Rows.{row_bytes}
use Rattle.hb_model.proofs.DictionaryRows.{by_space, table_stands}
use Rattle.hb_model.specs.ByNumber.{table_place}
use Rattle.hb_model.specs.Dictionary.{area_row}
use Rattle.hb_model.specs.Spots.{place_in}
use Rattle.hb_model.specs.State.{State}
use Rattle.hb_disks.specs.Disks.{StandsFor, written}
use Rattle.hb_disks.specs.Images.{Images, Logs}
use Rattle.hb_disks.specs.Logless.{empty_server}
use Rattle.hb_disks.specs.Points.{Point, HasBase}
use Rattle.hb_disks.specs.StandsFor.{HaveBases, StandsWith}
use Rattle.hb_disks.specs.WholeImage.{IsPointAt}
use Rattle.hb_disks.proofs.Small.{tx, number, vote, commit, decision, areas_locked, a1, a1_change, small_logs, small_images, two_records}

abbrev with_fes : List LogItem → Logs
with_fes fes = record small_logs { fes = fes }

abbrev with_servers : List (List LogItem) → Logs
with_servers servers = record small_logs { servers = servers }

-- images whose logs have these items stand by them for no state
abbrev StandForNothing : Logs → Type 0
StandForNothing logs = (images : Images) (s : State) → StandsWith written images logs s → ⊥

-- a back end's log has a record of the coordinator
log_grammar_broken : StandForNothing (with_servers ((vote mode.X ∷ commit 1 ∷ []) ∷ (item.Ids 2000 ∷ []) ∷ []))
log_grammar_broken images s h = h.are_logs.log_grammar.servers.1.0.0

-- transaction 1 was not reserved
numbers_broken : StandForNothing (with_fes (decision 1 ∷ []))
numbers_broken images s h = let low : 1 ≤ 0 = h.are_logs.transaction_numbers.fes.0 in omega arith

-- a transaction is decided twice
decisions_broken : StandForNothing (with_fes (item.Ids 1000 ∷ decision 1 ∷ decision 2 ∷ []))
decisions_broken images s h = h.are_logs.decisions.once.0.0 refl

one_two : ◌≡◌ {A = ℕ} 1 2 → ⊥
one_two e = omega arith

seven_zero : ◌≡◌ {A = ℕ} 7 0 → ⊥
seven_zero e = omega arith

-- ds commits with another number than the decision's
votes_broken : StandForNothing (with_servers ((vote mode.X ∷ commit 2 ∷ []) ∷ [] ∷ []))
votes_broken images s h = wrong ((h.are_logs.votes_and_outcomes.servers 0 (vote mode.X ∷ commit 2 ∷ []) refl).numbers.committed.0)
  where
    wrong : (((◌≡◌ {A = ℕ} 1 1) × (◌≡◌ {A = ℕ} 1 2)) ⊎ ⊥) → ⊥
    wrong (inl e) = one_two e.1
    wrong (inr e) = e

-- the change of a Prepare lies under an S lock
locks_broken : StandForNothing (with_servers ((vote mode.S ∷ commit 1 ∷ []) ∷ [] ∷ []))
locks_broken images s h = not_covered (h.are_logs.prepared_locks.0.0).covered.0
  where
    not_covered : IsTrue false ⊎ ⊥ → ⊥
    not_covered (inl e) = false≢true e
    not_covered (inr e) = e

-- the last byte of an opened header is not 0
abbrev bad_area : List ℕ
bad_area = 1 ∷ replicate 62 0 ++ 7 ∷ replicate 100 0

header_is : (header : ℕ) → Some 0 ≡ Some header → 0 ≡ header
header_is header e = cc

last_byte : (p : Point) (place : ℕ) → IsPointAt bad_area p 0 place → ⊥
last_byte p place at = seven_zero (ap (λ bytes. slice_index_or bytes 63 0) at.headed)

not_a_point : (log : List LogItem) (point : Option Point) → HasBase written bad_area log point → ⊥
not_a_point log None h = none 0 h.read
  where
    none : (n : ℕ) → Some n ≡ None → ⊥
    none n e = cc
not_a_point log (Some p) h = with_header h.read.0 h.read.1 h.read.2 h.read.3
  where
    with_header : (header place : ℕ) → Some 0 ≡ Some header → IsPointAt bad_area p header place → ⊥
    with_header header place e at = last_byte p place (subst (λ x. IsPointAt bad_area p x place) (sym (header_is header e)) at)

abbrev bad_images : Images
bad_images =
    record {
      fes = small_images.fes;
      servers = record { log = two_records (vote mode.X) (commit 1); area = bad_area } ∷ empty_server ∷ [];
    }

-- the images stand for no state, whatever their logs have
point_broken : (s : State) → StandsFor bad_images s → ⊥
point_broken s h = by_logs h.0.servers h.1.points
  where
    by_logs : (logs : List (List LogItem)) → HaveBases written bad_images.servers logs → ⊥
    by_logs [] h = absurd h
    by_logs (log ∷ logs) h = not_a_point log h.0.0 h.0.1

-- ds has a row in a space that is none of the dictionary's
abbrev stray_place : Place
stray_place = place_in 0 5 (pos 1)

abbrev stray_change : Change
stray_change = record { place = stray_place; row = Some (row_bytes (area_row a1)) }

abbrev stray_vote : LogItem
stray_vote =
    item.Prepare (tx 1) (number 0) (areas_locked mode.X ++ record { path = path.Whole stray_place.space; mode = mode.X } ∷ []) (a1_change ∷ stray_change ∷ [])

some_none : (row : List ℕ) → Some row ≡ None → ⊥
some_none row e = cc

dictionary_broken : StandForNothing (with_servers ((stray_vote ∷ commit 1 ∷ []) ∷ [] ∷ []))
dictionary_broken images s h = some_none (row_bytes (area_row a1)) (h.system.dictionary_rows stray_place ∙ by_space s stray_place)

-- bes1 has a row of a table that is not there
abbrev lost_place : Place
lost_place = place_in 257 1 (pos 5)

abbrev lost_row : List ℕ
lost_row = row_bytes (value.Int (pos 5) ∷ [])

abbrev lost_vote : LogItem
lost_vote =
    item.Prepare (tx 1) (number 0) (record { path = path.Whole lost_place.space; mode = mode.X } ∷ []) (record { place = lost_place; row = Some lost_row } ∷ [])

abbrev lost_logs : Logs
lost_logs =
    record {
      fes = item.Ids 1000 ∷ item.Decision (tx 1) (number 1) (record { 0 = 1 } ∷ record { 0 = 2 } ∷ []) ∷ [];
      servers = (vote mode.X ∷ commit 1 ∷ []) ∷ (lost_vote ∷ commit 1 ∷ []) ∷ [];
    }

-- ds has no row of a table, but the state has the table with its number
rows_broken : StandForNothing lost_logs
rows_broken images s h =
    table_stands s 1 s.layout.spreads (h.system.of_tables 2 lost_place lost_row (omega arith) refl) h.system.state.spreads
    (sym (h.system.dictionary_rows (table_place 1) ∙ by_space s (table_place 1)))
