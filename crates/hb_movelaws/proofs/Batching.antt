-- What a batch does: rows of its group move to the new area, and nothing else changes.
use Rattle.std.proofs.Common.{◌≡◌, inl, ℕ, ◌≤◌, List, length, filter, Option, Some, None, true, refl, subst, sym, ap, ◌∙◌, arith}
use Rattle.std.specs.Prelude.{is_some, slice_get, IsSome}
use Rattle.std.specs.Str.{bytes_eq}
use Rattle.std.proofs.lemmas.List.Sums.{count_by-le-length, length-filter}
use Rattle.std.proofs.lemmas.Bool.{false≢true}
use Rattle.std.proofs.lemmas.Slice.Eq.{bytes_eq-Decides}
use Rattle.hb_types.specs.declared.entry.Entry.TheVariants.{Moving}
use Rattle.hb_types.specs.declared.names.Tx.{Tx}
use Rattle.hb_types.specs.declared.trail.Call.{Call}
use Rattle.hb_types.specs.Groups.{group_of}
use Rattle.hb_types.specs.Lists.{Each, IsIn}
use Rattle.hb_types.proofs.Ascending.{Each-of, in_Each}
use Rattle.hb_model.specs.declared.reply.Reply.{Reply}
use Rattle.hb_model.specs.declared.reply.Reply.TheVariants as reply
use Rattle.hb_model.specs.declared.table.Table.{Table}
use Rattle.hb_model.specs.Answers.{AnswersOf, afters, of_rows}
use Rattle.hb_model.specs.Families.{Family}
use Rattle.hb_model.specs.Shapes.{Hint, Keyed, batch_calls, keys_calls}
use Rattle.hb_model.specs.State.{State, Spread, spread_named, table_named}
use Rattle.hb_model.specs.System.{Sys}
use Rattle.hb_model.specs.TableRows.{TableRows}
use Rattle.hb_model.specs.Valid.{IsSpread}
use Rattle.hb_law.specs.RunAlone.{MovesOnly, MovesRows, TellsRightly}
use Rattle.hb_law.specs.Turns.{TellsItself, TurnTells, found_in, moved}
use Rattle.hb_planlaws.proofs.Named.{find_holds}
use Rattle.hb_movelaws.specs.Moving.{BatchMoves, keys_found}
use Rattle.hb_movelaws.proofs.Batches.{moved_all}
use Rattle.hb_movelaws.proofs.HintEntry.{entry_is}
use Rattle.hb_movelaws.proofs.RowCalls.{afters_of_rows, answers_of_rows}
use Rattle.hb_movelaws.proofs.Settling.{length-mapped}

of_option : {A : Type 0} (o : Option A) → IsSome o → (x : A) × (o ≡ Some x)
of_option None h = absurd (false≢true h)
of_option (Some x) h = (x, refl)

found_counts : (keys : List Keyed) → length (keys_found keys) ≡ found_in keys
found_counts keys = length-mapped (λ (k : Keyed). k.0) (filter (λ (k : Keyed). is_some k.1) keys) ∙ length-filter (λ (k : Keyed). is_some k.1) keys

few_found : (keys : List Keyed) → found_in keys ≤ length keys
few_found keys = count_by-le-length (λ (k : Keyed). is_some k.1) keys

batch_line : (calls : List Call) (s : State) (table : List ℕ) (most : ℕ) (f g : Family) (p : Spread) (keys : List Keyed) (group old new : ℕ) → spread_named s table ≡ Some p
    → slice_get p.entries group ≡ Some (Moving old new) → length keys ≤ most → MovesRows p.number group old new f g (keys_found keys)
    → (r : Reply) → TurnTells calls (moved group (found_in keys)) r → TellsRightly table most s s f g r
batch_line calls s table most f g p keys group old new named moving few moves (reply.Complete n) h = absurd h
batch_line calls s table most f g p keys group old new named moving few moves (reply.Suspended turns n) h = absurd h
batch_line calls s table most f g p keys group old new named moving few moves (reply.Moved rows at n) h = (
  p,
  old,
  new,
  keys_found keys,
  named,
  ap (slice_get p.entries) h.1 ∙ moving,
  found_counts keys ∙ sym h.2,
  subst (λ m. 1 ≤ m) (sym h.2) h.3,
  subst (λ m. m ≤ most) (sym h.2) (let l = few_found keys in omega (arith, l, few)),
  subst (λ m. MovesRows p.number m old new f g (keys_found keys)) (sym h.1) moves,
)
batch_line calls s table most f g p keys group old new named moving few moves _ h = tt

module _ (back_ends : ℕ) (family : Family) (s : State) (tx : Tx) (table : List ℕ) (most : ℕ) (p : Spread) (keys : List Keyed) (calls : List Call) (lines : List Reply)
    (few : back_ends ≤ 8) (sys : Sys back_ends family s) (answers : AnswersOf family calls) (named : spread_named s table ≡ Some p) (short : length keys ≤ most) where
  abbrev Moves : Hint → Type 0
  Moves h = TellsItself h → Each (λ (k : Keyed). group_of k.0 ≡ h.group) keys → of_rows calls ≡ batch_calls tx h keys
      → Each (TurnTells calls (moved h.group (found_in keys))) lines
      → Sys back_ends (afters family calls) s × MovesRows h.table h.group h.old h.new family (afters family calls) (keys_found keys)
      × MovesOnly table most lines s s family (afters family calls)

  its : (bytes_eq p.name table ≡ true) × IsIn p s.layout.spreads
  its = find_holds (λ (q : Spread). bytes_eq q.name table) s.layout.spreads p named

  -- the table of the spread, with its rows
  its_table : (f : Family) → Sys back_ends f s → (t : Table) × TableRows f t p
  its_table f z =
      let is : IsSpread s p = in_Each (IsSpread s) p s.layout.spreads its.1 sys.state.spreads in
      let t = of_option (table_named s p.name) is.of_table in
      let same : p.name ≡ table = (bytes_eq-Decides p.name table).0 its.0 in
      (t.0, z.tables p.name t.0 p t.1 (ap (λ n. spread_named s n) same ∙ named))

  abbrev hint_at : ℕ → ℕ → ℕ → Hint
  hint_at group old new = record { table = p.number; group = group; old = old; new = new }

  moves_at : (group old new : ℕ) → Moves (hint_at group old new)
  moves_at group old new back of is tells =
      let rows : AnswersOf family (batch_calls tx (hint_at group old new) keys) = subst (AnswersOf family) is (answers_of_rows family calls answers) in
      let moving : slice_get p.entries group ≡ Some (Moving old new) = entry_is back_ends family s few sys p its.1 group (Moving old new) back rows.0 in
      let behind : afters family calls ≡ afters family (keys_calls tx (hint_at group old new) keys) = afters_of_rows family calls ∙ ap (afters family) is in
      let all = moved_all back_ends s tx p its.1 group old new moving its_table keys family sys of rows.1 in
      let moves : MovesRows p.number group old new family (afters family calls) (keys_found keys) =
      subst (λ f. MovesRows p.number group old new family f (keys_found keys)) (sym behind) all.1 in (
        subst (λ f. Sys back_ends f s) (sym behind) all.0,
        moves,
        record {
          same_tables = refl;
          layout = inl refl;
          tells = Each-of (TurnTells calls (moved group (found_in keys))) (TellsRightly table most s s family (afters family calls)) lines
              (batch_line calls s table most family (afters family calls) p keys group old new named moving short moves) tells;
        },
      )

  batch_at : (h : Hint) → p.number ≡ h.table → Moves h
  batch_at h e = subst Moves (λ i. record { table = e i; group = h.group; old = h.old; new = h.new }) (moves_at h.group h.old h.new)

pub batch_moves : BatchMoves
batch_moves back_ends family s tx table most h p keys calls lines few sys answers named number back of short is tells =
    batch_at back_ends family s tx table most p keys calls lines few sys answers named short h number back of is tells
