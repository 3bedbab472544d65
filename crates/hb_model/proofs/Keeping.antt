-- No statement changes a name's number, or a table's columns.
use Rattle.std.proofs.Common.{◌≡◌, ℕ, Bool, true, false, refl, ◌∙◌, List, [], ◌∷◌}
use Rattle.std.specs.Prelude.{◌+◌, Option, Some, None, Result, Ok, Err, ⊤, if◌then◌else◌, is_some, is_none, drop, option_map, unwrap_or, nat_le}
use Rattle.std.specs.Str.{bytes_eq}
use Rattle.hb_types.specs.declared.value.Column.{Column}
use Rattle.hb_types.specs.declared.value.Value.{Value}
use Rattle.hb_types.proofs.PutLaws.{by_test}
use Rattle.hb_model.specs.declared.reply.Reply.{Reply}
use Rattle.hb_model.specs.declared.reply.Reply.TheVariants as reply
use Rattle.hb_model.specs.declared.statement.Statement.{Statement}
use Rattle.hb_model.specs.declared.statement.Statement.TheVariants as statement
use Rattle.hb_model.specs.declared.table.Table.{Table}
use Rattle.hb_model.specs.Define.{new_area, create_area, new_table, new_spread, create_table, create_table_refusals, create_area_refusals, add_area, spread_with}
use Rattle.hb_model.specs.Refusals.{Effect, unless, first_refusal}
use Rattle.hb_model.specs.Does.{does, effect, settled, most_bytes, reads, on_table, with_rows, rows_put, insert_in, select_in, update_in, delete_in, added_in}
use Rattle.hb_model.specs.Kept.{NamesStay}
use Rattle.hb_model.specs.Names.{back_end_named}
use Rattle.hb_model.specs.State.{State, Area, Spread, area_named, spread_named, table_named}
use Rattle.hb_model.proofs.Finding.{find-more, find-changed, other_name, find-with_area, find-with_table}

pub stays : (s : State) → NamesStay s s
stays s = record { areas = λ name a h. h; numbers = λ name x h. (x, h, refl); columns = λ name x h. (x, h, refl, refl) }

-- the names stay, if there is an effect
abbrev Keeps : State → Result Effect Reply → Type 0
Keeps s (Ok e) = NamesStay s e.state
Keeps s (Err r) = ⊤

keeps_unless : (s : State) (o : Option Reply) (e : Effect) → (o ≡ None → NamesStay s e.state) → Keeps s (unless o e)
keeps_unless s None e k = k refl
keeps_unless s (Some r) e k = tt

keeps_found : (s : State) (o : Option Table) (f : Table → Result Effect Reply) → ((t : Table) → Keeps s (f t)) → Keeps s (unwrap_or (option_map f o) (Err reply.NoTable))
keeps_found s None f k = tt
keeps_found s (Some t) f k = k t

keeps_on_table : (s : State) (name : List ℕ) (f : Table → Result Effect Reply) → ((t : Table) → Keeps s (f t)) → Keeps s (on_table s name f)
keeps_on_table s name f k = keeps_found s (table_named s name) f k

-- ---- other rows

put_name : (n : List ℕ) (rows : List (List Value)) (name : List ℕ) (t : Table) → bytes_eq (rows_put n rows t).name name ≡ bytes_eq t.name name
put_name n rows name t = by_test (bytes_eq t.name n) (λ e. rw e refl) (λ f. rw f refl)

put_columns : (n : List ℕ) (rows : List (List Value)) (t : Table) → (rows_put n rows t).columns ≡ t.columns
put_columns n rows t = by_test (bytes_eq t.name n) (λ e. rw e refl) (λ f. rw f refl)

put_key : (n : List ℕ) (rows : List (List Value)) (t : Table) → (rows_put n rows t).key ≡ t.key
put_key n rows t = by_test (bytes_eq t.name n) (λ e. rw e refl) (λ f. rw f refl)

rows_stay : (s : State) (t : Table) (rows : List (List Value)) → NamesStay s (with_rows s t rows)
rows_stay s t rows =
    record {
      areas = λ name a h. h;
      numbers = λ name x h. (x, h, refl);
      columns = λ name x h. (
        rows_put t.name rows x,
        find-changed (λ u. bytes_eq u.name name) (rows_put t.name rows) s.tables x (put_name t.name rows name) h,
        put_columns t.name rows x,
        put_key t.name rows x,
      );
    }

-- ---- definitions

-- the first of two refusals does not come, and none behind it
not_first : (b : Bool) (r : Reply) (rs : List (Bool × Reply)) → first_refusal ((b, r) ∷ rs) ≡ None → (b ≡ false) × (first_refusal rs ≡ None)
not_first true r rs h = absurd (some_none r h)
  where
    some_none : (r : Reply) → Some r ≡ None → ⊥
    some_none r h = cc
not_first false r rs h = (refl, h)

area_stays : (back_ends : ℕ) (s : State) (name node : List ℕ) (n : ℕ) → first_refusal (create_area_refusals back_ends s name node) ≡ None
    → NamesStay s (create_area s (new_area s name n))
area_stays back_ends s name node n h =
    let all = create_area_refusals back_ends s name node in
    let second : first_refusal (drop 1 all) ≡ None = (not_first (is_none (back_end_named back_ends node)) reply.NoNode (drop 1 all) h).1 in
    let free : is_some (area_named s name) ≡ false = (not_first (is_some (area_named s name)) reply.AreaThere (drop 2 all) second).0 in
    record {
      areas = λ other a k.
          find-with_area (new_area s name n) s.layout.areas other (other_name (λ (b : Area). b.name) s.layout.areas name other a free k) ∙ k;
      numbers = λ other x k. (x, k, refl);
      columns = λ other x k. (x, k, refl, refl);
    }

table_stays : (s : State) (name : List ℕ) (columns : List Column) (key : List ℕ) (areas : List (List ℕ))
    → first_refusal (create_table_refusals s name columns key areas) ≡ None
    → NamesStay s (create_table s (new_table name columns key) (new_spread s name areas))
table_stays s name columns key areas h =
    let free : is_some (table_named s name) ≡ false = (not_first (is_some (table_named s name)) reply.TableThere (drop 1 (create_table_refusals s name columns key areas)) h).0 in
    record {
      areas = λ other a k. k;
      numbers = λ other x k. (x, find-more (λ t. bytes_eq t.name other) s.layout.spreads (new_spread s name areas ∷ []) x k, refl);
      columns = λ other x k.
          (x, find-with_table (new_table name columns key) s.tables other (other_name (λ (t : Table). t.name) s.tables name other x free k) ∙ k, refl, refl);
    }

abbrev spread_put : List ℕ → ℕ → Spread → Spread
spread_put table area t = if bytes_eq t.name table then spread_with t area else t

spread_name : (table : List ℕ) (area : ℕ) (name : List ℕ) (t : Spread) → bytes_eq (spread_put table area t).name name ≡ bytes_eq t.name name
spread_name table area name t = by_test (bytes_eq t.name table) (λ e. rw e refl) (λ f. rw f refl)

spread_number : (table : List ℕ) (area : ℕ) (t : Spread) → (spread_put table area t).number ≡ t.number
spread_number table area t = by_test (bytes_eq t.name table) (λ e. rw e refl) (λ f. rw f refl)

added_stays : (s : State) (table : List ℕ) (area : ℕ) → NamesStay s (add_area s table area)
added_stays s table area =
    record {
      areas = λ name a h. h;
      numbers = λ name x h. (
        spread_put table area x,
        find-changed (λ t. bytes_eq t.name name) (spread_put table area) s.layout.spreads x (spread_name table area name) h,
        spread_number table area x,
      );
      columns = λ name x h. (x, h, refl, refl);
    }

keeps_added : (s : State) (table : List ℕ) (area : Option Area) (o : Option Spread)
    → Keeps s (unwrap_or (option_map (added_in s table area) o) (Err reply.NoTable))
keeps_added s table area None = tt
keeps_added s table area (Some spread) = keeps_unless s _ _ (λ h. added_stays s table _)

-- ---- statements

keeps_effect : (back_ends : ℕ) (s : State) (st : Statement) → Keeps s (effect back_ends s st)
unfolding effect
keeps_effect back_ends s (statement.CreateArea name node) = keeps_unless s _ _ (λ h. area_stays back_ends s name node _ h)
keeps_effect back_ends s (statement.CreateTable name columns key areas) = keeps_unless s _ _ (λ h. table_stays s name columns key areas h)
keeps_effect back_ends s (statement.AddArea table area) = keeps_added s table (area_named s area) (spread_named s table)
keeps_effect back_ends s (statement.Insert table values) = keeps_on_table s table (insert_in s values) (λ t. keeps_unless s _ _ (λ h. rows_stay s t _))
keeps_effect back_ends s (statement.Select w table pred) = keeps_on_table s table (select_in s w pred) (λ t. keeps_unless s _ _ (λ h. stays s))
keeps_effect back_ends s (statement.Update table sets pred) = keeps_on_table s table (update_in s sets pred) (λ t. keeps_unless s _ _ (λ h. rows_stay s t _))
keeps_effect back_ends s (statement.Delete table pred) = keeps_on_table s table (delete_in s pred) (λ t. keeps_unless s _ _ (λ h. rows_stay s t _))
keeps_effect back_ends s (statement.LockTable table exclusive) = keeps_on_table s table (λ t. Ok (reads s reply.Locked)) (λ t. stays s)
keeps_effect back_ends s statement.Commit = stays s
keeps_effect back_ends s statement.Rollback = stays s

keeps_settled : (s : State) (spent : ℕ) (r : Result Effect Reply) → Keeps s r → NamesStay s (settled s spent r).state
keeps_settled s spent (Err r) k = stays s
keeps_settled s spent (Ok e) k = by_test (nat_le (spent + e.bytes) most_bytes) (λ t. rw t k) (λ f. rw f (stays s))

pub does_stays : (back_ends spent : ℕ) (s : State) (full : Bool) (st : Statement) → NamesStay s (does back_ends s spent full st).state
unfolding does
does_stays back_ends spent s true st = stays s
does_stays back_ends spent s false st = keeps_settled s spent (effect back_ends s st) (keeps_effect back_ends s st)
