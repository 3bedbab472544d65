use Rattle.hb_composed.proofs.laws.composition_proved.Goals as goal

pub returns : goal.returns
returns c = c.composed.ensures c.logs_stay_right.ensures (c.states_chain.ensures c.turns_step.ensures) c.ends_are_shown.ensures c.rows_are_clean.ensures c.completes_are_balanced.ensures
