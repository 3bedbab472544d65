use Rattle.std.proofs.Common.{option_map, ap, ◌∙◌}
use Rattle.hb_model.specs.Told.{table_among}
use Rattle.hb_moveplan.specs.Parts.{Checking}
use Rattle.hb_moveplan.proofs.Steps.{numbered}
use Rattle.hb_moveplan.proofs.check.Check.enter.Goals as goal

pub returns-in-Ok-clause-goes : goal.returns-in-Ok-clause-goes
returns-in-Ok-clause-goes c = λ told.
    numbered c.args.self.now c.ask_entries.new.self _ _ c.ask_entries.result
    (c.in-Ok.ensures told ∙ ap (λ (o : Checking). option_map (λ f. f.0) (table_among c.args.rows.now o.name)) c.self.view_is) c.ask_entries.ensures.goes
