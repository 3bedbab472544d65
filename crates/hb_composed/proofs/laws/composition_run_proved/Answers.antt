use Rattle.hb_composed.proofs.laws.composition_run_proved.Goals as goal

pub returns : goal.returns
returns c = c.runs_are_explained.ensures c.composition_proved.ensures
