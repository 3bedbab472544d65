-- The parts of a check and of a finish are accesses, and then the rest.
use Rattle.std.proofs.Common.{◌≡◌, ℕ, true, List, [], ◌∷◌, Option, Some, None, option_map, refl, ◌∙◌}
use Rattle.std.specs.Prelude.{if◌then◌else◌}
use Rattle.hb_types.specs.declared.change.Stored.{Stored}
use Rattle.hb_types.specs.declared.entry.Entry.{Entry}
use Rattle.hb_types.specs.declared.lock.Mode.TheVariants as mode
use Rattle.hb_types.specs.declared.places.Path.TheVariants as path
use Rattle.hb_types.specs.Places.{node_of_area}
use Rattle.hb_model.specs.declared.reply.Reply.TheVariants as reply
use Rattle.hb_model.specs.Shapes.{Hint as Moving}
use Rattle.hb_model.specs.Spots.{ds, dictionary_space, entries_space, tables_space, entry_place, space_in}
use Rattle.hb_model.specs.Told.{Found, table_among, entry_of}
use Rattle.hb_talk.specs.Moves.{Finish as Finding, other, set, check_plan, finish_plan, is_hinted, setting}
use Rattle.hb_talk.specs.Plans.{some_or}
use Rattle.hb_talk.specs.Talk.{Use, Planning, ◌>>=◌, ◌>>◌, pure, lock, read, scan, scan_group}
use Rattle.hb_access.specs.declared.goal.Got.TheVariants as got
use Rattle.hb_access.specs.Accesses.{locked, written}
use Rattle.hb_access.proofs.Bridges.{reads_group, reads_row, reads_space, writes_one}
use Rattle.hb_access.proofs.Sequences.{plans_assoc, then_same}
use Rattle.hb_round.specs.Onward.{onward}
use Rattle.hb_round.proofs.Onwards.{plan_on}
use Rattle.hb_batch.specs.Batches.{entry_goal}
use Rattle.hb_moveplan.specs.declared.finish.Part.TheVariants as part
use Rattle.hb_moveplan.specs.MovePlans.{behind, entries_goal, entry_change, from_group, from_number, from_rows, from_table, group_goal, hints_among, if_empty, names_goal, rows_got}

-- ---- a check

abbrev with_found : Found → Planning (List Moving)
with_found f = lock ds (path.Group (dictionary_space entries_space) f.0) mode.S
    >> (scan_group ds (dictionary_space entries_space) f.0 >>= (λ rows. pure (hints_among f.0 rows)))

numbered : (f : Option Found) (v : Use) → (some_or reply.NoTable f >>= with_found) v ≡ from_number (option_map (λ t. t.0) f) v
unfolding from_number from_table
numbered None v = refl
numbered (Some f) v = refl

tables_came : (name : List ℕ) (rows : List Stored) (v : Use) → (some_or reply.NoTable (table_among rows name) >>= with_found) v ≡ from_rows name None rows v
unfolding from_rows
tables_came name rows v = numbered (table_among rows name) v

pub check_begins : (name : List ℕ) (u : Use) → check_plan name u ≡ onward (λ g. from_rows name None (rows_got g)) (locked names_goal u)
check_begins name u =
    let p = lock ds (path.Whole (dictionary_space tables_space)) mode.S in
    let q = scan ds (dictionary_space tables_space) in
    let f : List Stored → Planning Found = λ rows. some_or reply.NoTable (table_among rows name) in
    plans_assoc (p >> q) f with_found u
    ∙ plans_assoc p (λ _. q) (λ rows. f rows >>= with_found) u
    ∙ reads_space (record { 0 = ds }) (dictionary_space tables_space) mode.S (λ rows. f rows >>= with_found) (λ g. from_rows name None (rows_got g))
    (λ rows v. tables_came name rows v) u
    ∙ plan_on (locked names_goal) (λ g. from_rows name None (rows_got g)) u

-- the entries of a table
pub entries_asked : (name : List ℕ) (table : ℕ) (u : Use) → from_number (Some table) u ≡ onward (λ g. from_rows name (Some table) (rows_got g)) (locked (entries_goal table) u)
unfolding from_number from_table from_rows
entries_asked name table u =
    reads_group (record { 0 = ds }) (dictionary_space entries_space) table mode.S (λ rows. pure (hints_among table rows))
    (λ g. from_rows name (Some table) (rows_got g)) (λ rows v. refl) u
    ∙ plan_on (locked (entries_goal table)) (λ g. from_rows name (Some table) (rows_got g)) u

-- ---- a finish

pub finish_begins : (h : Moving) (u : Use) → finish_plan h u ≡ onward (behind h part.Entry) (locked (entry_goal h mode.X) u)
unfolding behind from_group
finish_begins h u =
    let p = lock ds (path.Key (entry_place h.table h.group)) mode.X in
    let r = read ds (entry_place h.table h.group) in
    let k : Option Entry → Planning Finding = λ e. if is_hinted h e then from_group h else pure other in
    plans_assoc p (λ _. r >>= (λ row. pure (entry_of row))) k u
    ∙ then_same p (λ _. (r >>= (λ row. pure (entry_of row))) >>= k) (λ _. r >>= (λ row. k (entry_of row))) (λ _ v. plans_assoc r (λ row. pure (entry_of row)) k v) u
    ∙ reads_row (record { 0 = ds }) (entry_place h.table h.group) mode.X (λ row. k (entry_of row)) (behind h part.Entry) (λ row v. refl) u
    ∙ plan_on (locked (entry_goal h mode.X)) (behind h part.Entry) u

group_came : (h : Moving) (rows : List Stored) (v : Use) → setting h rows v ≡ behind h part.Group (got.Rows rows) v
unfolding behind
group_came h [] v = refl
group_came h (r ∷ rs) v = refl

pub group_asked : (h : Moving) (u : Use) → from_group h u ≡ onward (behind h part.Group) (locked (group_goal h) u)
unfolding from_group
group_asked h u =
    reads_group (record { 0 = node_of_area h.old }) (space_in h.old h.table) h.group mode.S (setting h) (behind h part.Group) (λ rows v. group_came h rows v) u
    ∙ plan_on (locked (group_goal h)) (behind h part.Group) u

pub entry_written : (h : Moving) (u : Use) → if_empty h true u ≡ onward (behind h part.Write) (written ds (entry_change h) u)
unfolding behind
entry_written h u =
    writes_one (record { 0 = ds }) (entry_change h) (pure set) (behind h part.Write) (λ v. refl) u
    ∙ plan_on (written ds (entry_change h)) (behind h part.Write) u
