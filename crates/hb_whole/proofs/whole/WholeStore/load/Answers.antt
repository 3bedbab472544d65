use Rattle.std.proofs.Common.{sym, ◌∙◌, ap, subst, List, Err}
use Rattle.std.specs.Prelude.{All}
use Rattle.std.proofs.lemmas.List.Elements.{All-from_recursion}
use Rattle.hb_types.specs.declared.change.Stored.{Stored}
use Rattle.hb_laws.specs.RowOrder.{AreAscending}
use Rattle.hb_store.specs.Meanings.{IsStored}
use Rattle.hb_whole.proofs.Finding.{err_fault}
use Rattle.hb_whole.proofs.Making.{is_told, taken_on}
use Rattle.hb_whole.proofs.whole.WholeStore.load.Goals as goal

pub returns-in-Ok-take-clause-point : goal.returns-in-Ok-take-clause-point
returns-in-Ok-take-clause-point g c = λ read told.
    let f = c.in-Ok.ensures.found read told in
    let now = is_told (g.D.Disk.content c.args.disk.now) (g.D.Disk.content c.find.new.disk) read told c.find.ensures.told in
    let t = c.take.ensures in (
      f.0,
      f.1,
      f.2,
      c.in-Ok-take.ensures.rows ∙ f.3,
      taken_on (g.D.Disk.content c.find.new.disk) (g.D.Disk.left c.find.new.disk (g.D.Disk.last c.find.new.disk)) c.take.new.self f.0 c.in-Ok.found.valid c.in-Ok.found.spare_open now.0 now.1
          (t.begun ∙ c.forget.ensures.begun) (t.written ∙ c.forget.ensures.written) c.in-Ok-take.ensures.valid.0 c.in-Ok-take.ensures.valid.1 f.4,
    )

pub returns-in-Ok-take-clause-ascending : goal.returns-in-Ok-take-clause-ascending
returns-in-Ok-take-clause-ascending g c = subst AreAscending (sym c.in-Ok-take.ensures.rows) c.in-Ok.ensures.rows.ascend

pub returns-in-Ok-take-clause-fit : goal.returns-in-Ok-take-clause-fit
returns-in-Ok-take-clause-fit g c =
    subst (λ (rows : List Stored). All IsStored rows) (sym c.in-Ok-take.ensures.rows) (All-from_recursion IsStored c.in-Ok.found.rows c.in-Ok.ensures.rows.fit)

pub returns-in-Err-clause-damaged : goal.returns-in-Err-clause-damaged
returns-in-Err-clause-damaged g c = λ place is read told. c.find.ensures.damaged place (c.in-Err.is ∙ ap Err (err_fault _ _ is)) read told
