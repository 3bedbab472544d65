-- Disks of one back end after one area was created: what their logs say, and the system that they stand for.
use Rattle.std.proofs.Common.{◌≡◌, ◌≢◌, ℕ, zero, suc, ◌+◌, ◌≤◌, List, [], ◌∷◌, ◌++◌, Some, None, refl, pos, true, false, arith, rules, lit≤, lit<, inl, subst}
use Rattle.std.specs.Prelude.{codes, All}
use Rattle.hb_types.specs.declared.change.Change.{Change}
use Rattle.hb_types.specs.declared.change.LogItem.{LogItem}
use Rattle.hb_types.specs.declared.change.LogItem.TheVariants as item
use Rattle.hb_types.specs.declared.change.Stored.{Stored}
use Rattle.hb_types.specs.declared.lock.Held.{Held}
use Rattle.hb_types.specs.declared.lock.Mode.{Mode}
use Rattle.hb_types.specs.declared.lock.Mode.TheVariants as mode
use Rattle.hb_types.specs.declared.names.NodeName.{NodeName}
use Rattle.hb_types.specs.declared.names.Number.{Number}
use Rattle.hb_types.specs.declared.names.Tx.{Tx}
use Rattle.hb_types.specs.declared.places.Path.TheVariants as path
use Rattle.hb_types.specs.declared.places.Place.{Place}
use Rattle.hb_types.specs.Put.{lookup}
use Rattle.hb_types.specs.Records.{framed}
use Rattle.std.proofs.lemmas.Bool.{false≢true}
use Rattle.hb_types.specs.Places.{IsPlace, IsPath}
use Rattle.hb_types.specs.Records.{IsChange}
use Rattle.hb_types.specs.Rows.{row_bytes, IsRow, HasBytes}
use Rattle.hb_model.specs.declared.table.Table.{Table}
use Rattle.hb_model.specs.Answers.{rows_of}
use Rattle.hb_model.specs.Dictionary.{area_row}
use Rattle.hb_model.specs.Families.{EachServer}
use Rattle.hb_model.specs.Spots.{dictionary_space, areas_space}
use Rattle.hb_model.specs.State.{State, Area}
use Rattle.hb_model.specs.System.{Sys}
use Rattle.hb_model.specs.Valid.{IsState}
use Rattle.hb_disks.specs.Disks.{StandsFor, written}
use Rattle.hb_disks.specs.Images.{Images, Logs, HasItems, family, decided}
use Rattle.hb_disks.specs.Logless.{empty_server}
use Rattle.hb_disks.specs.Points.{HasBase}
use Rattle.hb_disks.specs.Redo.{redo}
use Rattle.hb_disks.specs.StandsFor.{AreLogs, Agrees, StandsWith}
use Rattle.hb_disks.proofs.Empty.{empty_items, empty_base}

-- ---- the logs

abbrev pub tx : ℕ → Tx
tx n = record { 0 = n }

abbrev pub number : ℕ → Number
number n = record { 0 = n }

abbrev pub a1 : Area
a1 = record { number = 257; name = codes "A1" }

abbrev pub a1_place : Place
a1_place = record { space = dictionary_space areas_space; group = 0; key = pos 257 }

abbrev pub a1_change : Change
a1_change = record { place = a1_place; row = Some (row_bytes (area_row a1)) }

abbrev pub areas_locked : Mode → List Held
areas_locked m = record { path = path.Whole (dictionary_space areas_space); mode = m } ∷ []

abbrev pub vote : Mode → LogItem
vote m = item.Prepare (tx 1) (number 0) (areas_locked m) (a1_change ∷ [])

abbrev pub commit : ℕ → LogItem
commit n = item.Commit (tx 1) (number n)

abbrev pub decision : ℕ → LogItem
decision n = item.Decision (tx 1) (number n) (record { 0 = 1 } ∷ [])

abbrev pub small_logs : Logs
small_logs = record { fes = item.Ids 1000 ∷ decision 1 ∷ []; servers = (vote mode.X ∷ commit 1 ∷ []) ∷ [] ∷ [] }

-- ---- what they say

the_decisions : decided small_logs ≡ record { tx = 1; number = 1; nodes = record { 0 = 1 } ∷ [] } ∷ []
the_decisions = refl

abbrev pub a1_stored : Stored
a1_stored = record { place = a1_place; row = row_bytes (area_row a1) }

the_held : family small_logs (decided small_logs) ≡ (a1_stored ∷ []) ∷ [] ∷ []
the_held = refl

the_redo : redo (vote mode.X ∷ commit 1 ∷ []) ≡ record { rows = a1_stored ∷ []; floor = 1; doubts = [] }
the_redo = refl

-- before the decision the branch is in doubt, and nothing is held
the_doubt : redo (vote mode.X ∷ []) ≡ record { rows = []; floor = 0; doubts = record { tx = 1; floor = 0; locks = areas_locked mode.X; changes = a1_change ∷ [] } ∷ [] }
the_doubt = refl

-- ---- the images

abbrev pub two_records : LogItem → LogItem → List ℕ
two_records i j = 1 ∷ framed i ++ 1 ∷ framed j ++ 0 ∷ []

abbrev pub small_images : Images
small_images =
    record {
      fes = two_records (item.Ids 1000) (decision 1);
      servers = record { log = two_records (vote mode.X) (commit 1); area = [] } ∷ empty_server ∷ [];
    }

closed : ◌≢◌ {A = ℕ} 0 1
closed e = omega arith

fes_items : HasItems small_images.fes small_logs.fes
fes_items = (
  record { place = 0; item = item.Ids 1000 } ∷ record { place = 14; item = decision 1 } ∷ [],
  (
    refl,
    record { opened = refl; has_record = ((lit≤ tt, lit≤ tt), lit≤ tt); spelled = refl; inside = lit< tt },
    (refl, record { opened = refl; has_record = (((lit≤ tt, lit≤ tt), (lit≤ tt, lit≤ tt), tt, lit≤ tt, here), lit≤ tt); spelled = refl; inside = lit< tt }, closed),
  ),
  refl,
)
  where
    here : All (λ (n : NodeName). (1 ≤ n.0) × (n.0 ≤ 9)) (record { 0 = 1 } ∷ [])
    here zero d below = (lit≤ tt, lit≤ tt)
    here (suc k) d below = absurd (omega arith)

ds_items : HasItems (two_records (vote mode.X) (commit 1)) (vote mode.X ∷ commit 1 ∷ [])
ds_items = (
  record { place = 0; item = vote mode.X } ∷ record { place = 74; item = commit 1 } ∷ [],
  (
    refl,
    record {
      opened = refl;
      has_record = (((lit≤ tt, lit≤ tt), lit≤ tt, locks_fit, tt, tt, changes_fit), lit≤ tt);
      spelled = refl;
      inside = lit< tt;
    },
    (refl, record { opened = refl; has_record = (((lit≤ tt, lit≤ tt), (lit≤ tt, lit≤ tt)), lit≤ tt); spelled = refl; inside = lit< tt }, closed),
  ),
  refl,
)
  where
    locks_fit : All (λ (l : Held). IsPath l.path) (areas_locked mode.X)
    locks_fit zero d below = (lit< tt, lit< tt)
    locks_fit (suc k) d below = absurd (omega arith)

    values_fit : All HasBytes (area_row a1)
    values_fit zero d below = lit≤ tt
    values_fit (suc zero) d below = refl
    values_fit (suc (suc k)) d below = absurd (omega arith)

    row_fits : IsRow (row_bytes (area_row a1))
    row_fits = (lit≤ tt, (area_row a1, record { values_fit = record { few = lit≤ tt; fit = values_fit }; spelled = refl }))

    place_fits : IsPlace a1_place
    place_fits = ((lit< tt, lit< tt), lit< tt, search rules)

    changes_fit : All IsChange (a1_change ∷ [])
    changes_fit zero d below = (place_fits, row_fits)
    changes_fit (suc k) d below = absurd (omega arith)

-- ---- the system

abbrev pub small_state : State
small_state = record { tables = []; layout = record { areas = a1 ∷ []; spreads = [] } }

each_server : (P : ℕ → List LogItem → Type 0) → P 1 (vote mode.X ∷ commit 1 ∷ []) → P 2 [] → EachServer small_logs.servers P
each_server P p q zero s e = subst (P 1) (some_is e) p
  where
    some_is : {A : Type 0} {x y : A} → Some x ≡ Some y → x ≡ y
    some_is e = cc
each_server P p q (suc zero) s e = subst (P (1 + 1)) (some_is e) q
  where
    some_is : {A : Type 0} {x y : A} → Some x ≡ Some y → x ≡ y
    some_is e = cc
each_server P p q (suc (suc i)) s e = cc

pub small_are_logs : AreLogs small_logs
small_are_logs =
    record {
      log_grammar = record { fes = (tt, (tt, tt)); servers = ((tt, (tt, tt)), (tt, tt)); fes_room = lit≤ tt; room = (lit≤ tt, (lit≤ tt, tt)) };
      transaction_numbers = record { uptos_ascend = tt; fes = (lit≤ tt, (lit≤ tt, tt)); servers = ((lit≤ tt, (lit≤ tt, tt)), (tt, tt)) };
      decisions = record { ascend = tt; once = (tt, tt) };
      votes_and_outcomes = record {
        ends = (((tt, refl), (inl (refl, lit< tt), tt)), (tt, tt));
        servers = each_server (Agrees (decided small_logs)) ds_agrees bes_agrees;
        nodes_are_here = (((lit≤ tt, lit≤ tt), tt), tt);
      };
      prepared_locks = ((record { agree = tt; closed = (tt, tt); covered = (inl refl, tt) }, (tt, tt)), (tt, tt));
    }
  where
    ds_agrees : Agrees (decided small_logs) 1 (vote mode.X ∷ commit 1 ∷ [])
    ds_agrees =
        record {
          numbers = record { committed = (inl (refl, refl), tt); aborted = tt; above = (((λ e. lit< tt), tt), tt) };
          voted = (((λ e. inl refl), (λ e. refl)), tt);
          named = (((λ e. refl), tt), tt);
        }

    not_named : true ≡ false → ⊥
    not_named e = cc

    bes_agrees : Agrees (decided small_logs) 2 []
    bes_agrees =
        record {
          numbers = record { committed = tt; aborted = tt; above = (tt, tt) };
          voted = (((λ e. absurd (false≢true e)), (λ e. absurd e)), tt);
          named = tt;
        }

small_is_state : IsState 1 small_state
small_is_state =
    record {
      areas = record {
        few = lit≤ tt;
        ascend = tt;
        names_differ = refl;
        each = (record { named = refl; low = lit≤ tt; high = lit≤ tt; first = lit≤ tt; last = lit≤ tt }, tt);
      };
      few_tables = lit≤ tt;
      tables_ascend = tt;
      tables = tt;
      one_spread_each = refl;
      spreads_numbered = refl;
      spread_names_differ = refl;
      spreads = tt;
    }

-- no back end has a row
nowhere : (node : ℕ) (p : Place) (row : List ℕ) → 2 ≤ node → lookup p (rows_of node ((a1_stored ∷ []) ∷ [] ∷ [])) ≡ Some row → ⊥
nowhere zero p row two h = cc
nowhere (suc zero) p row two h = omega arith
nowhere (suc (suc zero)) p row two h = cc
nowhere (suc (suc (suc n))) p row two h = cc

pub small_system : Sys 1 ((a1_stored ∷ []) ∷ [] ∷ []) small_state
small_system =
    record {
      servers = refl;
      ascending = (tt, (tt, tt));
      state = small_is_state;
      dictionary_rows = λ p. refl;
      of_tables = λ node p row two h. absurd (nowhere node p row two h);
      tables = λ name t spread h k. no_table t h;
    }
  where
    no_table : {A : Type 0} (t : Table) → None ≡ Some t → A
    no_table t h = cc

small_base : HasBase written [] (vote mode.X ∷ commit 1 ∷ []) None
small_base = record { read = refl; base = record { front = []; back = vote mode.X ∷ commit 1 ∷ []; parts = refl; begins = refl; gives = refl } }

pub small_stands_with : StandsWith written small_images small_logs small_state
small_stands_with =
    record {
      read = record { fes = fes_items; servers = (ds_items, (empty_items, tt)) };
      are_logs = small_are_logs;
      points = ((None, small_base), ((None, empty_base), tt));
      system = small_system;
    }

pub small_stands : StandsFor small_images small_state
small_stands = (small_logs, small_stands_with)
