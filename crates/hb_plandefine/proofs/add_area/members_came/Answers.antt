use Rattle.std.proofs.Common.{ℕ, List, subst}
use Rattle.hb_access.specs.Accesses.{use_of}
use Rattle.hb_plandefine.specs.Defines.{Goes, member_beside}
use Rattle.hb_plandefine.proofs.add_area.members_came.Goals as goal

pub returns-clause-goes : goal.returns-clause-goes
returns-clause-goes c = λ tell.
    subst (λ (ms : List ℕ). Goes (member_beside c.args.number c.args.area ms (use_of c.args.usage)) c.beside.result) (c.in_ok-members.ensures tell) c.beside.ensures.goes
