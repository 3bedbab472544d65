-- The world with a row, whole: its base are disks on which an area and a table were created, by the changes of CREATE TABLE.
use Rattle.std.proofs.Common.{◌≡◌, ◌≢◌, ℕ, pos, zero, suc, ◌+◌, ◌*◌, ◌≤◌, ◌<◌, List, [], ◌∷◌, ◌++◌, length, map, get_or, None, refl, sym, subst, ap, ◌∙◌, arith, lit≤, lit<, inl, inr, length-append}
use Rattle.std.specs.Prelude.{All}
use Rattle.std.specs.Int.{w64}
use Rattle.std.specs.List.{AllByRecursion}
use Rattle.std.proofs.lemmas.Int.{fits_signed_from_abs}
use Rattle.std.proofs.lemmas.List.Elements.{All-from_recursion, recursion_from_All}
use Rattle.hb_types.specs.declared.change.Change.{Change}
use Rattle.hb_types.specs.declared.change.LogItem.{LogItem}
use Rattle.hb_types.specs.declared.change.LogItem.TheVariants as item
use Rattle.hb_types.specs.declared.entry.Entry.{Entry}
use Rattle.hb_types.specs.declared.entry.Entry.TheVariants.{At, Moving}
use Rattle.hb_types.specs.declared.lock.Held.{Held}
use Rattle.hb_types.specs.declared.lock.Mode.TheVariants as mode
use Rattle.hb_types.specs.declared.names.NodeName.{NodeName}
use Rattle.hb_types.specs.declared.places.Path.TheVariants as path
use Rattle.hb_types.specs.declared.value.Value.{Value}
use Rattle.hb_types.specs.Groups.{first_entries, groups, map_from}
use Rattle.hb_types.specs.Lists.{Ascends, Each, joined}
use Rattle.hb_types.specs.Numbers.{eight, four, greatest}
use Rattle.hb_types.specs.Places.{IsPath, place_cmp}
use Rattle.hb_types.specs.Records.{HasRecord, IsChange, body_bytes, change_bytes, lock_bytes}
use Rattle.hb_types.specs.Rows.{HaveRow, HasBytes}
use Rattle.hb_groups.specs.Counts.{IsEvenShare, IsPlaced, count_at}
use Rattle.hb_groups.proofs.Shares.{first-even, first-full, first-placed}
use Rattle.hb_model.specs.Dictionary.{at_place, entry_row, member_row, table_row}
use Rattle.hb_model.specs.Families.{EachServer}
use Rattle.hb_model.specs.Refusals.{change_size}
use Rattle.hb_model.specs.Spots.{areas_space, dictionary_space, entries_space, members_space, tables_space}
use Rattle.hb_disks.specs.Disks.{written}
use Rattle.hb_disks.specs.Images.{Images, ReadAs, decided}
use Rattle.hb_disks.specs.LogPlaces.{end_behind}
use Rattle.hb_disks.specs.LogRules.{Covers}
use Rattle.hb_disks.specs.Logless.{empty_server}
use Rattle.hb_disks.specs.Points.{HasBase}
use Rattle.hb_disks.specs.StandsFor.{Agrees, AreLogs, StandsWith}
use Rattle.hb_disks.proofs.Empty.{empty_base, empty_items}
use Rattle.hb_talk.specs.PlansDefine.{new_rows, put_row}
use Rattle.hb_planlaws.proofs.Scans.{keys_less}
use Rattle.hb_planlaws.proofs.Told.{contained}
use Rattle.hb_plantables.proofs.NewSpread.{all_differ, each_of_all}
use Rattle.hb_law.specs.Composition.{Together}
use Rattle.hb_worlds.proofs.AreaMade.{after_images, area_made_together, at_one, decision, end, n1, no, none_is, reserved, vote}
use Rattle.hb_worlds.proofs.RowCalls.{made, n2, t2, table, table_stored, values}
use Rattle.hb_worlds.proofs.RowMade.{after, before, bes_vote, ds_after, ds_before, ds_locks, bes_locks, ds_vote, fes_after, fes_before, row_decision, row_end, row_made_together, world}
use Rattle.hb_worlds.proofs.Spelled.{has_items, image_of}
use Rattle.hb_worlds.proofs.TableGiven.{entry_given, first_log, items_fit, short_by, spread, system_given, table_is_told, table_there}

abbrev Fits : LogItem → Type 0
Fits i = HasRecord i

to_all : {A : Type 0} (P : A → Type 0) (xs : List A) → Each P xs → All P xs
to_all {A} P xs e = All-from_recursion P xs (recursion xs e)
  where
    recursion : (ys : List A) → Each P ys → AllByRecursion P ys
    recursion [] e = tt
    recursion (y ∷ ys) e = (e.0, recursion ys e.1)

-- ---- the creation of the table

abbrev pub created_locks : List Held
created_locks =
    record { path = path.Whole (dictionary_space areas_space); mode = mode.S }
    ∷ record { path = path.Whole (dictionary_space tables_space); mode = mode.X }
    ∷ record { path = path.Whole (dictionary_space members_space); mode = mode.IX }
    ∷ record { path = path.Whole (dictionary_space entries_space); mode = mode.IX }
    ∷ record { path = path.Group (dictionary_space members_space) 1; mode = mode.X }
    ∷ record { path = path.Group (dictionary_space entries_space) 1; mode = mode.X }
    ∷ []

abbrev entry_changes : ℕ → List Entry → List Change
entry_changes first entries = map put_row (map_from (λ group e. at_place entries_space 1 group (entry_row e)) first entries)

abbrev pub changes_of : List Entry → List Change
changes_of entries = map put_row (new_rows table (spread entries))

abbrev entry_change : ℕ → Change
entry_change g = put_row (at_place entries_space 1 g (entry_row (At 257)))

abbrev member_change : Change
member_change = put_row (at_place members_space 1 1 (member_row 257))

each_entry : (P : Change → Type 0) → ((g : ℕ) → g < 1024 → P (entry_change g)) → (first : ℕ) (es : List Entry) → Each (IsPlaced (257 ∷ [])) es → first + length es ≤ 1024
    → Each P (entry_changes first es)
each_entry P h first [] placed few = tt
each_entry P h first (At a ∷ es) placed few = (
  subst (λ n. P (put_row (at_place entries_space 1 first (entry_row (At n))))) (sym (contained (λ m. m ≡ 257) (257 ∷ []) a (refl, tt) placed.0)) (h first (omega (arith, few))),
  each_entry P h (first + 1) es placed.1 (omega (arith, few)),
)
each_entry P h first (Moving a b ∷ es) placed few = absurd placed.0

ascend_entries : (first : ℕ) (es : List Entry) → Ascends (λ (a b : Change). place_cmp a.place b.place) (entry_changes first es)
ascend_entries first [] = tt
ascend_entries first (e ∷ []) = tt
ascend_entries first (e ∷ f ∷ es) = (keys_less entries_space 1 first (first + 1) (omega arith), ascend_entries (first + 1) (f ∷ es))

ascend_all : (es : List Entry) → Ascends (λ (a b : Change). place_cmp a.place b.place) (changes_of es)
ascend_all [] = (refl, tt)
ascend_all (e ∷ es) = (refl, (refl, ascend_entries 0 (e ∷ es)))

length_entries : (first : ℕ) (es : List Entry) → length (entry_changes first es) ≡ length es
length_entries first [] = refl
length_entries first (e ∷ es) = ap (λ n. suc n) (length_entries (first + 1) es)

-- ---- the record of its vote

values_fit : (values : List Value) → length values ≤ 255 → Each HasBytes values → HaveRow values
values_fit values few e = record { few = few; fit = to_all HasBytes values e }

below : (g : ℕ) → g < 1024 → g < 9223372036854775808
below g l = omega (arith, l)

entry_fits : (g : ℕ) → g < 1024 → IsChange (entry_change g)
entry_fits g l = (
  ((lit< tt, lit< tt), lit< tt, fits_signed_from_abs w64 (pos g) (below g l)),
  (lit≤ tt, (entry_row (At 257), record { values_fit = values_fit (entry_row (At 257)) (lit≤ tt) (refl, (refl, tt)); spelled = refl })),
)

member_fits : IsChange member_change
member_fits = (
  ((lit< tt, lit< tt), lit< tt, fits_signed_from_abs w64 (pos 1) (lit< tt)),
  (lit≤ tt, (member_row 257, record { values_fit = values_fit (member_row 257) (lit≤ tt) (refl, tt); spelled = refl })),
)

table_fits : IsChange (put_row table_stored)
table_fits = (
  ((lit< tt, lit< tt), lit< tt, fits_signed_from_abs w64 (pos 1) (lit< tt)),
  (lit≤ tt, (table_row table, record { values_fit = values_fit (table_row table) (lit≤ tt) (lit≤ tt, (refl, (refl, (lit≤ tt, (refl, tt))))); spelled = refl })),
)

abbrev IsShort : Change → Type 0
IsShort c = length (change_bytes c) ≤ 100

entry_short : (g : ℕ) → g < 1024 → IsShort (entry_change g)
entry_short g l =
    let same : length (change_bytes (entry_change g)) ≡ change_size (entry_row (At 257)) = omega arith in
    let few : change_size (entry_row (At 257)) ≤ 100 = lit≤ tt in
    omega (arith, same, few)

joined_short : (cs : List Change) → Each IsShort cs → length (joined (map change_bytes cs)) ≤ 100 * length cs
joined_short [] e = omega arith
joined_short (c ∷ cs) e = omega (arith, e.0, joined_short cs e.1, length-append (change_bytes c) (joined (map change_bytes cs)))

body_length : (n : ℕ) (bytes : List ℕ)
    → length (1 ∷ eight 2 ++ eight 1 ++ four (length created_locks) ++ joined (map lock_bytes created_locks) ++ four n ++ bytes) ≤ 1000 + length bytes
body_length n bytes = omega (arith, length-append (four n) bytes)

all_paths : All (λ (l : Held). IsPath l.path) created_locks
all_paths =
    to_all (λ (l : Held). IsPath l.path) created_locks
    ((lit< tt, lit< tt), ((lit< tt, lit< tt), ((lit< tt, lit< tt), ((lit< tt, lit< tt), (((lit< tt, lit< tt), lit< tt), (((lit< tt, lit< tt), lit< tt), tt))))))

-- ---- the logs of the base

two_one : ◌≢◌ {A = ℕ} 2 1
two_one e = omega (arith, e)

one_two : ◌≢◌ {A = ℕ} 1 2
one_two e = omega (arith, e)

roomy : (n : ℕ) → n ≤ 16777216 → n + 32 * 0 ≤ greatest
roomy n few = let top : 16777216 ≤ greatest = lit≤ tt in omega (arith, few, top)

nodes_fit : (nodes : List NodeName) → Each (λ (n : NodeName). (1 ≤ n.0) × (n.0 ≤ 9)) nodes → All (λ (n : NodeName). (1 ≤ n.0) × (n.0 ≤ 9)) nodes
nodes_fit nodes e = to_all (λ (n : NodeName). (1 ≤ n.0) × (n.0 ≤ 9)) nodes e

fes_first : Each Fits (reserved ∷ decision ∷ [])
fes_first = items_fit after_images.fes (reserved ∷ decision ∷ []) area_made_together.read.fes

ds_first : Each Fits (vote ∷ end ∷ [])
ds_first = first_log after_images.servers (vote ∷ end ∷ []) ([] ∷ []) area_made_together.read.servers

second_fits : Fits (item.Decision t2 n2 (record { 0 = 1 } ∷ []))
second_fits = (((lit≤ tt, lit≤ tt), (lit≤ tt, lit≤ tt), tt, lit≤ tt, nodes_fit (record { 0 = 1 } ∷ []) ((lit≤ tt, lit≤ tt), tt)), lit≤ tt)

ended_fits : Fits (item.Commit t2 n2)
ended_fits = (((lit≤ tt, lit≤ tt), (lit≤ tt, lit≤ tt)), lit≤ tt)

fes_before_fits : Each Fits fes_before
fes_before_fits = (fes_first.0, (fes_first.1.0, (second_fits, tt)))

decision_fits : Fits row_decision
decision_fits = (((lit≤ tt, lit≤ tt), (lit≤ tt, lit≤ tt), (refl, tt), lit≤ tt, nodes_fit (record { 0 = 1 } ∷ record { 0 = 2 } ∷ []) ((lit≤ tt, lit≤ tt), ((lit≤ tt, lit≤ tt), tt))), lit≤ tt)

fes_after_fits : Each Fits fes_after
fes_after_fits = (fes_first.0, (fes_first.1.0, (second_fits, (((lit≤ tt, lit≤ tt), lit≤ tt), (decision_fits, tt)))))

ds_vote_fits : Fits ds_vote
ds_vote_fits = (
  (
    (lit≤ tt, lit≤ tt),
    lit≤ tt,
    to_all (λ (l : Held). IsPath l.path) ds_locks
        ((lit< tt, lit< tt), ((lit< tt, lit< tt), (((lit< tt, lit< tt), lit< tt), (((lit< tt, lit< tt), lit< tt, fits_signed_from_abs w64 _ (lit< tt)), tt)))),
    (refl, (refl, (refl, tt))),
    tt,
    to_all IsChange [] tt,
  ),
  lit≤ tt,
)

made_fits : IsChange made
made_fits = (
  ((lit< tt, lit< tt), lit< tt, fits_signed_from_abs w64 (pos 7) (lit< tt)),
  (lit≤ tt, (values, record { values_fit = values_fit values (lit≤ tt) (refl, tt); spelled = refl })),
)

bes_vote_fits : Fits bes_vote
bes_vote_fits = (
  (
    (lit≤ tt, lit≤ tt),
    lit≤ tt,
    to_all (λ (l : Held). IsPath l.path) bes_locks
        ((lit< tt, lit< tt), (((lit< tt, lit< tt), lit< tt), (((lit< tt, lit< tt), lit< tt, fits_signed_from_abs w64 (pos 7) (lit< tt)), tt))),
    (refl, (refl, tt)),
    tt,
    to_all IsChange (made ∷ []) (made_fits, tt),
  ),
  lit≤ tt,
)

row_end_fits : Fits row_end
row_end_fits = (((lit≤ tt, lit≤ tt), (lit≤ tt, lit≤ tt)), lit≤ tt)

module _ (entries : List Entry) (full : length entries ≡ groups) (placed : Each (IsPlaced (257 ∷ [])) entries)
    (even : (i : ℕ) → i < 1 → IsEvenShare (count_at entries (get_or (257 ∷ []) i 0)) 1) where
  abbrev changes : List Change
  changes = changes_of entries

  abbrev creates : LogItem
  creates = item.Prepare t2 n1 created_locks changes

  few : 0 + length entries ≤ 1024
  few = omega (arith, full)

  each_change : (P : Change → Type 0) → P (put_row table_stored) → P member_change → ((g : ℕ) → g < 1024 → P (entry_change g)) → Each P changes
  each_change P a b h = (a, (b, each_entry P h 0 entries placed few))

  short_body : length (body_bytes creates) ≤ 8388608
  short_body =
      let bytes : List ℕ = joined (map change_bytes changes) in
      let rest : length bytes ≤ 100 * length changes = joined_short changes (each_change IsShort (lit≤ tt) (lit≤ tt) entry_short) in
      let same : suc (suc (length entries)) ≡ 2 + length entries = omega arith in
      let count : length changes ≡ 2 + length entries = ap (λ n. suc (suc n)) (length_entries 0 entries) ∙ same in
      let body : length (body_bytes creates) ≤ 1000 + length bytes = body_length (length changes) bytes in
      omega (arith, body, rest, count, full)

  creates_fit : Fits creates
  creates_fit = (
    (
      (lit≤ tt, lit≤ tt),
      lit≤ tt,
      all_paths,
      (refl, (refl, (refl, (refl, (refl, tt))))),
      ascend_all entries,
      to_all IsChange changes (each_change IsChange table_fits member_fits entry_fits),
    ),
    short_body,
  )

  ds_before_fits : Each Fits (ds_before changes created_locks)
  ds_before_fits = (ds_first.0, (ds_first.1.0, (creates_fit, (ended_fits, tt))))

  ds_after_fits : Each Fits (ds_after changes created_locks)
  ds_after_fits = (ds_first.0, (ds_first.1.0, (creates_fit, (ended_fits, (ds_vote_fits, (row_end_fits, tt))))))

  agree : EachServer (before changes created_locks).servers (Agrees (decided (before changes created_locks)))
  agree zero log h =
      at_one (Agrees (decided (before changes created_locks)) 1) (ds_before changes created_locks) log h
      (record {
        numbers = record {
          committed = (inl (refl, refl), (inr (inl (refl, refl)), tt));
          aborted = tt;
          above = (((λ e. lit< tt), ((λ e. absurd (two_one e)), tt)), (((λ e. lit< tt), ((λ e. lit< tt), tt)), tt));
        };
        voted = (((λ h. inl refl), (λ h. refl)), (((λ h. inr (inl refl)), (λ h. refl)), tt));
        named = (((λ e. refl), ((λ e. refl), tt)), (((λ e. refl), ((λ e. refl), tt)), tt));
      })
  agree (suc zero) log h =
      at_one (Agrees (decided (before changes created_locks)) 2) [] log h
      (record {
        numbers = record { committed = tt; aborted = tt; above = (tt, (tt, tt)) };
        voted = (((λ h. no h), (λ h. absurd h)), (((λ h. no h), (λ h. absurd h)), tt));
        named = tt;
      })
  agree (suc (suc n)) log h = none_is log h

  are_logs : AreLogs (before changes created_locks)
  are_logs =
      record {
        log_grammar = record {
          fes = (tt, (tt, (tt, tt)));
          servers = ((tt, (tt, (tt, (tt, tt)))), (tt, tt));
          fes_room = lit≤ tt;
          room = (roomy (end_behind 0 (ds_before changes created_locks)) (short_by (length (body_bytes creates)) short_body), (lit≤ tt, tt));
        };
        transaction_numbers = record {
          uptos_ascend = tt;
          fes = (lit≤ tt, (lit≤ tt, (lit≤ tt, tt)));
          servers = ((lit≤ tt, (lit≤ tt, (lit≤ tt, (lit≤ tt, tt)))), (tt, tt));
        };
        decisions = record { ascend = (refl, tt); once = ((two_one, tt), (tt, tt)) };
        votes_and_outcomes = record {
          ends = (((tt, refl), (inl (refl, lit< tt), (((one_two, tt), refl), (inl (refl, lit< tt), tt)))), (tt, tt));
          servers = agree;
          nodes_are_here = (((lit≤ tt, lit≤ tt), tt), (((lit≤ tt, lit≤ tt), tt), tt));
        };
        prepared_locks = (
          (
            record { agree = tt; closed = (tt, tt); covered = (inl refl, tt) },
            (
              tt,
              (
                record {
                  agree = tt;
                  closed = (tt, (tt, (tt, (tt, ((inr (inr (inl refl)), tt), ((inr (inr (inr (inl refl))), tt), tt))))));
                  covered = each_change (λ (c : Change). Covers created_locks mode.X c.place) (inr (inl refl)) (inr (inr (inr (inr (inl refl)))))
                      (λ g l. inr (inr (inr (inr (inr (inl refl))))));
                },
                (tt, tt),
              ),
            ),
          ),
          (tt, tt),
        );
      }

  -- ---- the images

  abbrev pub base_images : Images
  base_images = record { fes = image_of fes_before; servers = record { log = image_of (ds_before changes created_locks); area = [] } ∷ empty_server ∷ [] }

  abbrev pub images : Images
  images =
      record {
        fes = image_of fes_after;
        servers = record { log = image_of (ds_after changes created_locks); area = [] } ∷ record { log = image_of (bes_vote ∷ row_end ∷ []); area = [] } ∷ [];
      }

  has_base : (log : List LogItem) → HasBase written [] log None
  has_base log = record { read = refl; base = record { front = []; back = log; parts = refl; begins = refl; gives = refl } }

  pub table_stands : StandsWith written base_images (before changes created_locks) (table_there entries)
  table_stands =
      record {
        read = record { fes = has_items fes_before fes_before_fits; servers = (has_items (ds_before changes created_locks) ds_before_fits, (empty_items, tt)) };
        are_logs = are_logs;
        points = ((None, has_base (ds_before changes created_locks)), ((None, empty_base), tt));
        system = system_given entries full placed even created_locks;
      }

  read : ReadAs images (after changes created_locks)
  read =
      record {
        fes = has_items fes_after fes_after_fits;
        servers = (has_items (ds_after changes created_locks) ds_after_fits, (has_items (bes_vote ∷ row_end ∷ []) (bes_vote_fits, (row_end_fits, tt)), tt));
      }

  pub together_of : Together written (world changes created_locks base_images images)
  together_of =
      row_made_together changes created_locks base_images images (table_there entries)
      (table_is_told changes created_locks entries base_images (entry_given entries full placed even) table_stands)
      table_stands read ((None, has_base (ds_after changes created_locks)), ((None, has_base (bes_vote ∷ row_end ∷ [])), tt))

-- ---- the world, with the entries of a new table on one area

abbrev pub new_entries : List Entry
new_entries = first_entries (257 ∷ [])

pub new_placed : Each (IsPlaced (257 ∷ [])) new_entries
new_placed = each_of_all (IsPlaced (257 ∷ [])) new_entries (recursion_from_All (IsPlaced (257 ∷ [])) new_entries (first-placed (257 ∷ []) (lit≤ tt)))

pub new_full : length new_entries ≡ groups
new_full = first-full (257 ∷ [])

pub new_even : (i : ℕ) → i < 1 → IsEvenShare (count_at new_entries (get_or {A = ℕ} (257 ∷ []) i 0)) 1
new_even i l = first-even (257 ∷ []) i (lit≤ tt) (lit≤ tt) (all_differ (257 ∷ []) refl) l

pub row_together : Together written
    (world (changes_of new_entries) created_locks (base_images new_entries new_full new_placed new_even) (images new_entries new_full new_placed new_even))
row_together = together_of new_entries new_full new_placed new_even
