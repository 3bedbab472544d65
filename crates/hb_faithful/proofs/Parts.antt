-- What is so of the calls of a plan is so with those beside it: what they did, their locks, and where their rows come from.
use Rattle.std.proofs.Common.{◌≡◌, ℕ, ◌+◌, ◌≤◌, List, [], ◌++◌, Option, Some, None, Bool, subst, sym, ap, ◌∙◌}
use Rattle.std.specs.Prelude.{IsTrue}
use Rattle.std.proofs.lemmas.List.Concat.{flat_map-append}
use Rattle.std.proofs.lemmas.List.{append-nil}
use Rattle.hb_types.specs.declared.change.Stored.{Stored}
use Rattle.hb_types.specs.declared.places.Place.{Place}
use Rattle.hb_types.specs.declared.request.Request.{Request}
use Rattle.hb_types.specs.declared.request.Request.TheVariants as request
use Rattle.hb_types.specs.declared.trail.Call.{Call}
use Rattle.hb_types.specs.declared.value.Value.{Value}
use Rattle.hb_types.specs.Lists.{EachBehind}
use Rattle.hb_types.specs.Rows.{values_in}
use Rattle.hb_types.proofs.Ascending.{Each-back, Each-front, Each-of, Has-back, Has-front}
use Rattle.hb_model.specs.declared.reply.Reply.{Reply}
use Rattle.hb_model.specs.declared.reply.Reply.TheVariants as reply
use Rattle.hb_model.specs.declared.statement.Statement.{Statement}
use Rattle.hb_model.specs.declared.statement.Statement.TheVariants as statement
use Rattle.hb_model.specs.declared.table.Table.{Table}
use Rattle.hb_model.specs.Answers.{given, rows_answered}
use Rattle.hb_model.specs.Asked.{AreWhereAsked, IsWhereAsked}
use Rattle.hb_model.specs.Does.{does}
use Rattle.hb_model.specs.Faithful.{DoesRightly}
use Rattle.hb_model.specs.Items.{Spent}
use Rattle.hb_model.specs.Locking.{LocksByTable, MayLock, OfLock}
use Rattle.hb_model.specs.Needs.{locks_of, most_locks}
use Rattle.hb_model.specs.Rows.{assigned}
use Rattle.hb_model.specs.Sources.{IsMadeOf, IsSelection, IsShownOf, IsUsers, RowMade, ShowsGiven, Sourced, WriteMade}
use Rattle.hb_model.specs.System.{Sys}
use Rattle.hb_faithful.specs.Planned.{AreBeside, is_beside}
use Rattle.hb_faithful.proofs.Beside.{answers_asked, lock_free, same_bytes, same_grants, same_rows, write_free}
use Rattle.hb_faithful.proofs.Lists.{behind_append, behind_each, behind_more}

-- ---- sources

-- rows that were answered before, or behind, take no source away
made_more : (st : Statement) (g h : List Stored) (place : Place) (row : List ℕ) → IsMadeOf st h place row → IsMadeOf st (g ++ h) place row
made_more (statement.Insert table values) g h place row w = w
made_more (statement.Update table sets pred) g h place row w =
    Has-back (λ r. (t : Table) × (old : List Value) × (r.place ≡ place) × (values_in r.row ≡ Some old) × (values_in row ≡ Some (assigned t sets old))) g h w
made_more _ g h place row w = absurd w

row_more : (st : Statement) (g h : List Stored) (place : Place) (row : Option (List ℕ)) → RowMade st h place row → RowMade st (g ++ h) place row
row_more st g h place None w = tt
row_more st g h place (Some row) w = λ users. made_more st g h place row (w users)

write_more : (st : Statement) (g h : List Stored) (q : Request) → WriteMade st h q → WriteMade st (g ++ h) q
write_more st g h q = elim q as (λ x. WriteMade st h x → WriteMade st (g ++ h) x) [ request.Write tx c ↦ row_more st g h c.place c.row | x ↦ λ w. tt ]

-- a selection of this row is shown
abbrev IsShownBy : List Value → Stored → Type 0
IsShownBy shown r = IsUsers r × ((row : List Value) × (positions : List ℕ) × (values_in r.row ≡ Some row) × IsSelection row positions shown)

pub shows_more : (st : Statement) (r : Reply) (g h k : List Stored) → ShowsGiven st r h → ShowsGiven st r (g ++ (h ++ k))
shows_more (statement.Select what table pred) (reply.Rows rows) g h k w =
    λ s. Each-of (IsShownOf h) (IsShownOf (g ++ (h ++ k))) rows
    (λ x p. Has-back (IsShownBy x) g (h ++ k) (Has-front (IsShownBy x) h k p)) (w s)
shows_more (statement.Select what table pred) _ g h k w = tt
shows_more _ r g h k w = tt

given_append : (xs ys : List Call) → given (xs ++ ys) ≡ given xs ++ given ys
given_append xs ys = flat_map-append (λ (c : Call). rows_answered c.request c.answer) xs ys

module _ (front asked back : List Call) where
  abbrev whole : List Call
  whole = front ++ (asked ++ back)

  given_whole : given whole ≡ given front ++ (given asked ++ given back)
  given_whole = given_append front (asked ++ back) ∙ ap (λ g. given front ++ g) (given_append asked back)

  -- ---- what is known of the answers

  pub where_asked : AreWhereAsked whole → AreWhereAsked asked
  where_asked h = Each-front (λ (c : Call). IsWhereAsked c.request c.answer) asked back (Each-back (λ (c : Call). IsWhereAsked c.request c.answer) front (asked ++ back) h)

  module _ (st : Statement) (opens : AreBeside front) (closes : AreBeside back) where
    pub locks_whole : EachBehind (λ before c. OfLock (MayLock st before) c.node.0 c.request) front asked → LocksByTable st whole
    locks_whole h =
        let P : List Call → Call → Type 0 = λ before c. OfLock (MayLock st before) c.node.0 c.request in
        let R : Call → Type 0 = λ c. IsTrue (is_beside c.request) in
        behind_append P [] front (asked ++ back) (behind_each R P [] front (λ zs c b. lock_free (MayLock st zs) c.node.0 c.request b) opens)
        (behind_append P front asked back h (behind_each R P (front ++ asked) back (λ zs c b. lock_free (MayLock st zs) c.node.0 c.request b) closes))

    pub written_whole : EachBehind (λ before c. WriteMade st (given before) c.request) [] asked → EachBehind (λ before c. WriteMade st (given before) c.request) [] whole
    written_whole h =
        let P : List Call → Call → Type 0 = λ before c. WriteMade st (given before) c.request in
        let R : Call → Type 0 = λ c. IsTrue (is_beside c.request) in
        let shifted = behind_more P P front [] asked (λ zs c w. subst (λ g. WriteMade st g c.request) (sym (given_append front zs)) (write_more st (given front) (given zs) c.request w)) h in
        behind_append P [] front (asked ++ back) (behind_each R P [] front (λ zs c b. write_free st (given zs) c.request b) opens)
        (behind_append P front asked back (subst (λ f. EachBehind P f asked) (append-nil front) shifted) (behind_each R P (front ++ asked) back (λ zs c b. write_free st (given zs) c.request b) closes))

    pub sourced_whole : (r : Reply) → Sourced st asked r → Sourced st whole r
    sourced_whole r s = record {
      shown = subst (λ g. ShowsGiven st r g) (sym given_whole) (shows_more st r (given front) (given asked) (given back) s.shown);
      written = written_whole s.written;
    }

    -- ---- what they did

    pub did_whole : (back_ends : ℕ) (spent : Spent) (full : Bool) (r : Reply) → DoesRightly back_ends spent full st asked r → DoesRightly back_ends spent full st whole r
    did_whole back_ends spent full r d family s sys answers =
        let k = d family s sys (answers_asked front asked back opens closes family answers) in
        let rows = same_rows front asked back opens closes family in
        let bytes = same_bytes front asked back opens closes in
        let grants = same_grants front asked back opens closes in record {
          replied = k.replied;
          left = subst (λ f. Sys back_ends f (does back_ends s spent.bytes full st).state) (sym rows) k.left;
          wrote = bytes ∙ k.wrote;
          few_locks = subst (λ n. n ≤ locks_of s st) (sym grants) k.few_locks;
          all_locks = λ e a. grants ∙ k.all_locks e a;
          full_rightly = k.full_rightly;
          within = subst (λ n. spent.locks + n ≤ most_locks) (sym grants) k.within;
        }
