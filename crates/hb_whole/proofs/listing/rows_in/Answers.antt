use Rattle.std.proofs.Common.{◌≡◌, ◌++◌, ap, append-nil, subst, sym, ◌∙◌, List}
use Rattle.std.specs.Prelude.{All}
use Rattle.std.proofs.lemmas.List.Elements.{All-from_recursion}
use Rattle.hb_types.specs.declared.change.Stored.{Stored}
use Rattle.hb_types.specs.Put.{rows_under}
use Rattle.hb_laws.specs.RowOrder.{AreAscending}
use Rattle.hb_store.specs.Meanings.{IsStored}
use Rattle.hb_whole.specs.Slots.{Entries, rows_of}
use Rattle.hb_whole.proofs.Listed.{each_under, under_ascends}
use Rattle.hb_whole.proofs.SlotRows.{each_stored, rows_ascend}
use Rattle.hb_whole.proofs.Under.{rows_between}
use Rattle.hb_whole.proofs.listing.rows_in.Goals as goal

pub returns-clause-rows : goal.returns-clause-rows
returns-clause-rows c =
    let rows = c.loop-place.rows in
    sym (append-nil rows) ∙ ap (λ (rest : Entries). rows ++ rows_of rest) (sym c.in-None.ensures.steps.0) ∙ c.loop-place.invariant
    ∙ rows_between c.args.path c.args.map.now.entries c.range-place-items.ensures.ordered c.requires

pub returns-clause-ascending : goal.returns-clause-ascending
returns-clause-ascending c =
    let rows = c.loop-place.rows in
    let whole : rows ≡ rows_under c.args.path (rows_of c.args.map.now.entries) = sym (append-nil rows) ∙ ap (λ (rest : Entries). rows ++ rows_of rest) (sym c.in-None.ensures.steps.0) ∙ c.loop-place.invariant
    ∙ rows_between c.args.path c.args.map.now.entries c.range-place-items.ensures.ordered c.requires in
    subst (λ (r : List Stored). AreAscending r) (sym whole) (under_ascends c.args.path (rows_of c.args.map.now.entries) (rows_ascend c.args.map.now.entries c.range-place-items.ensures.ordered))

pub returns-clause-fit : goal.returns-clause-fit
returns-clause-fit c =
    let rows = c.loop-place.rows in
    let whole : rows ≡ rows_under c.args.path (rows_of c.args.map.now.entries) = sym (append-nil rows) ∙ ap (λ (rest : Entries). rows ++ rows_of rest) (sym c.in-None.ensures.steps.0) ∙ c.loop-place.invariant
    ∙ rows_between c.args.path c.args.map.now.entries c.range-place-items.ensures.ordered c.requires in
    subst (λ (r : List Stored). All IsStored r) (sym whole)
    (All-from_recursion IsStored (rows_under c.args.path (rows_of c.args.map.now.entries)) (each_under IsStored c.args.path (rows_of c.args.map.now.entries) (each_stored c.args.map.now.entries c.range-place-items.ensures.ordered c.requires)))
