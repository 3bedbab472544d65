use Rattle.std.proofs.Common.{sym, ◌∙◌, inl, subst}
use Rattle.hb_talk.specs.Talk.{Talk}
use Rattle.hb_access.specs.Accesses.{use_of}
use Rattle.hb_writes.specs.Writings.{Replied}
use Rattle.hb_plandefine.specs.Defines.{Goes}
use Rattle.hb_plandefine.proofs.Adding.{found_named, no_table}
use Rattle.hb_plandefine.proofs.add_area.names_came.Goals as goal

pub returns-in-Some-clause-goes : goal.returns-in-Some-clause-goes
returns-in-Some-clause-goes c = λ tell.
    subst (λ (t : Talk Replied). Goes t c.ask_areas.result)
    (sym (found_named c.args.rows.now c.args.table _ c.args.area (use_of c.args.usage) (sym (c.in_ok-number.ensures tell) ∙ c.in-Some.is))) c.ask_areas.ensures.goes

pub returns-clause-goes : goal.returns-clause-goes
returns-clause-goes c = λ tell. inl (no_table c.args.rows.now c.args.table c.args.area (use_of c.args.usage) (sym (c.in_ok-number.ensures tell) ∙ c.in-None.is))
