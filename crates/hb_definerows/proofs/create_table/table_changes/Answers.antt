use Rattle.std.proofs.Common.{◌≡◌, ◌∙◌, ◌≤◌, subst, sym, ap, ℕ, List, length}
use Rattle.std.specs.Prelude.{[], IfOk}
use Rattle.hb_types.specs.Groups.{first_entries}
use Rattle.hb_model.specs.declared.table.Table.{Table}
use Rattle.hb_model.specs.Define.{new_spread, numbers_of}
use Rattle.hb_talk.specs.PlansDefine.{new_rows}
use Rattle.hb_definerows.specs.DefineRows.{Puts, spread_told, state_told}
use Rattle.hb_definerows.specs.Drafts.{table_of_draft}
use Rattle.hb_definerows.proofs.Accepting.{members_counted}
use Rattle.hb_definerows.proofs.create_table.table_changes.Goals as goal

pub changes_over-requires-clause-some : goal.changes_over-requires-clause-some
changes_over-requires-clause-some c =
    subst (λ (ms : List ℕ). 1 ≤ length ms) (sym c.as_slice-2.ensures.value)
    (members_counted c.args.tables.now c.args.areas.now c.args.draft c.in_ok-members.members.items c.requires.accepted c.requires.named
    (c.in_ok-members.ensures ∙ ap (numbers_of (state_told [] c.args.areas.now)) c.as_slice.ensures)).0

pub changes_over-requires-clause-few : goal.changes_over-requires-clause-few
changes_over-requires-clause-few c =
    subst (λ (ms : List ℕ). length ms ≤ 16) (sym c.as_slice-2.ensures.value)
    (members_counted c.args.tables.now c.args.areas.now c.args.draft c.in_ok-members.members.items c.requires.accepted c.requires.named
    (c.in_ok-members.ensures ∙ ap (numbers_of (state_told [] c.args.areas.now)) c.as_slice.ensures)).1

pub returns : goal.returns
returns c =
    let made : Table → ℕ → List ℕ → Type 0 = λ t n ms. IfOk c.changes_over.result (λ cs. Puts [] cs.items (new_rows t (spread_told n ms (first_entries ms)))) in
    let d = c.args.draft in
    let spread = new_spread (state_told c.args.tables.now c.args.areas.now) d.name d.areas in
    let ms = c.as_slice-2.result.now in
    let members : ms ≡ spread.members = c.as_slice-2.ensures.value ∙ c.in_ok-members.ensures ∙ ap (numbers_of (state_told [] c.args.areas.now)) c.as_slice.ensures in
    subst (λ (l : List ℕ). made (table_of_draft d) spread.number l) members
    (subst (λ (n : ℕ). made (table_of_draft d) n ms) c.new_number-number.ensures.number
    (subst (λ (t : Table). made t c.new_number-number.result ms) c.definition_of-table.ensures.told c.changes_over.ensures))
