-- What a check finds: the table's number, and whether an entry is Moving.
use Rattle.std.proofs.Common.{◌≡◌, inl, ℕ, ◌+◌, ◌≤◌, List, [], ◌∷◌, Option, Some, None, not, refl, subst, sym, ap, ◌∙◌}
use Rattle.std.specs.Prelude.{IsTrue, MatchOption, filter_map, option_map}
use Rattle.std.specs.List.{list_any}
use Rattle.std.specs.Str.{bytes_eq}
use Rattle.hb_types.specs.declared.change.Stored.{Stored}
use Rattle.hb_types.specs.declared.entry.Entry.{Entry}
use Rattle.hb_types.specs.declared.trail.Call.{Call}
use Rattle.hb_types.specs.Groups.{is_moving, map_from}
use Rattle.hb_types.specs.Lists.{Each}
use Rattle.hb_types.specs.Put.{rows_under}
use Rattle.hb_types.proofs.Ascending.{Each-of}
use Rattle.hb_dict.specs.DictionaryRows.{AreAreas}
use Rattle.hb_model.specs.declared.reply.Reply.{Reply}
use Rattle.hb_model.specs.declared.reply.Reply.TheVariants as reply
use Rattle.hb_model.specs.declared.table.Table.{Table}
use Rattle.hb_model.specs.Answers.{AnswersOf, afters, rows_of}
use Rattle.hb_model.specs.Dictionary.{at_place, entry_row}
use Rattle.hb_model.specs.Families.{Family}
use Rattle.hb_model.specs.Shapes.{check_calls}
use Rattle.hb_model.specs.Spots.{ds, entries_space}
use Rattle.hb_model.specs.State.{State, Spread, spread_named, table_named}
use Rattle.hb_model.specs.System.{Sys}
use Rattle.hb_model.specs.Told.{Found, entry_of, table_among}
use Rattle.hb_law.specs.RunAlone.{TellsRightly}
use Rattle.hb_law.specs.Turns.{IsNumberTold, TurnTells, checked, tells_moving}
use Rattle.hb_planlaws.proofs.Named.{find_holds, spread_there}
use Rattle.hb_planlaws.proofs.Scans.{entries_of, entries_scanned, tables}
use Rattle.hb_planlaws.proofs.Told.{entries_sited, entry_back, no_table_told, table_told}
use Rattle.hb_movelaws.specs.Moving.{AreEntriesOf, CheckTells}
use Rattle.hb_movelaws.proofs.RowCalls.{afters_of_rows, answers_of_rows}

none_some : {A : Type 0} (x : A) → None ≡ Some x → ⊥
none_some x h = cc

some_of : {A : Type 0} (x y : A) → Some x ≡ Some y → x ≡ y
some_of x y h = cc

-- ---- entries

kept : {A B : Type 0} (f : A → Option B) (x : A) (xs : List A) (y : B) → f x ≡ Some y → filter_map f (x ∷ xs) ≡ y ∷ filter_map f xs
kept f x xs y h = rw h refl

abbrev told : Stored → Option Entry
told r = entry_of (Some r.row)

entries_told : (n first : ℕ) (es : List Entry) → Each AreAreas es → filter_map told (map_from (λ g e. at_place entries_space n g (entry_row e)) first es) ≡ es
entries_told n first [] each = refl
entries_told n first (e ∷ es) each =
    kept told (at_place entries_space n first (entry_row e)) (map_from (λ g e. at_place entries_space n g (entry_row e)) (first + 1) es) e (entry_back e each.0)
    ∙ ap (λ zs. e ∷ zs) (entries_told n (first + 1) es each.1)

-- ---- of a system

abbrev its_number : Found → ℕ
its_number f = f.0

module _ (back_ends : ℕ) (family : Family) (s : State) (few : back_ends ≤ 8) (sys : Sys back_ends family s) where
  -- the table of a name whose number the names tell
  number_found : (table : List ℕ) (number : ℕ) (names : List Stored) → names ≡ rows_under tables (rows_of ds family) → IsNumberTold names table number
      → (p : Spread) × (spread_named s table ≡ Some p) × (p.number ≡ number)
  number_found table number names is h = by (table_named s table) refl
    where
      read : (o : Option Found) → table_among (rows_under tables (rows_of ds family)) table ≡ o → option_map its_number o ≡ Some number
      read o e = sym (ap (option_map its_number) (ap (λ rows. table_among rows table) is ∙ e)) ∙ h

      by : (o : Option Table) → table_named s table ≡ o → (p : Spread) × (spread_named s table ≡ Some p) × (p.number ≡ number)
      by None none = absurd (none_some number (read None (no_table_told back_ends family s sys table none)))
      by (Some t) there =
          let p = spread_there back_ends s sys.state table t there in
          (p.0, p.1, some_of p.0.number number (read _ (table_told back_ends family s sys table t p.0 there p.1)))

  pub entries_found : (table : List ℕ) (number : ℕ) (names entries : List Stored) → names ≡ rows_under tables (rows_of ds family)
      → entries ≡ rows_under (entries_of number) (rows_of ds family) → IsNumberTold names table number → AreEntriesOf s table number entries
  entries_found table number names entries is are h =
      let p = number_found table number names is h in
      let there = (find_holds (λ (q : Spread). bytes_eq q.name table) s.layout.spreads p.0 p.1).1 in
      let rows : entries ≡ map_from (λ g e. at_place entries_space p.0.number g (entry_row e)) 0 p.0.entries =
      are ∙ ap (λ n. rows_under (entries_of n) (rows_of ds family)) (sym p.2) ∙ entries_scanned back_ends family s sys p.0 there in
      record {
        spread = p.0;
        named = p.1;
        numbered = p.2;
        moving = ap (list_any is_moving) (ap (filter_map told) rows ∙ entries_told p.0.number 0 p.0.entries (entries_sited back_ends s few sys.state p.0 there));
      }

-- ---- the line

check_line : (calls : List Call) (s : State) (table : List ℕ) (most : ℕ) (f g : Family) (entries : List Stored) (p : Spread) → spread_named s table ≡ Some p
    → tells_moving entries ≡ list_any is_moving p.entries → (r : Reply) → TurnTells calls (checked entries) r → TellsRightly table most s s f g r
check_line calls s table most f g entries p named moving (reply.Complete n) h =
    subst (λ o. MatchOption o ⊥ (λ (t : Spread). IsTrue (not (list_any is_moving t.entries)))) (sym named) (subst (λ b. IsTrue (not b)) moving h.1)
check_line calls s table most f g entries p named moving (reply.Suspended turns n) h =
    subst (λ o. MatchOption o ⊥ (λ (t : Spread). IsTrue (list_any is_moving t.entries))) (sym named) (subst (λ b. IsTrue b) moving h.1)
check_line calls s table most f g entries p named moving (reply.Moved rows group n) h = absurd h
check_line calls s table most f g entries p named moving _ h = tt

pub check_told : CheckTells
check_told back_ends family s tx table most number names entries calls lines few sys answers is by_name tells =
    let rows : AnswersOf family (check_calls tx number names entries) = subst (AnswersOf family) is (answers_of_rows family calls answers) in
    let found = entries_found back_ends family s few sys table number names entries rows.0 rows.1.0 by_name in (
      afters_of_rows family calls ∙ ap (afters family) is,
      found,
      record {
        same_tables = refl;
        layout = inl refl;
        tells = Each-of (TurnTells calls (checked entries)) (TellsRightly table most s s family (afters family calls)) lines
            (check_line calls s table most family (afters family calls) entries found.spread found.named found.moving) tells;
      },
    )
