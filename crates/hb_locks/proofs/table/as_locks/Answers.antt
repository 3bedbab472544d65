use Rattle.std.proofs.Common.{◌≡◌, ◌++◌, ap, append-nil, map, subst, sym, ◌∙◌, List}
use Rattle.hb_types.specs.declared.lock.Held.{Held}
use Rattle.hb_types.specs.Lists.{Ascends}
use Rattle.hb_locks.specs.Locks.{lock_cmp, mode_at}
use Rattle.hb_locks.proofs.Ascending.{Modes, lock_of, locks-ascend, mode_at-locks}
use Rattle.hb_locks.proofs.table.as_locks.Goals as goal

pub returns-clause-ascending : goal.returns-clause-ascending
returns-clause-ascending c =
    let locks = c.loop-path.locks in
    let whole : locks ≡ map lock_of c.args.modes.now.entries =
    sym (append-nil locks) ∙ ap (λ (rest : Modes). locks ++ map lock_of rest) (sym c.in-None.ensures.steps.0) ∙ c.loop-path.invariant in
    subst (λ (held : List Held). Ascends lock_cmp held) (sym whole) (locks-ascend c.args.modes.now.entries c.iter-path-items.ensures.ordered)

pub returns-clause-each : goal.returns-clause-each
returns-clause-each c =
    let locks = c.loop-path.locks in
    let whole : locks ≡ map lock_of c.args.modes.now.entries =
    sym (append-nil locks) ∙ ap (λ (rest : Modes). locks ++ map lock_of rest) (sym c.in-None.ensures.steps.0) ∙ c.loop-path.invariant in
    λ q. ap (λ (held : List Held). mode_at held q) whole ∙ mode_at-locks c.args.modes.now.entries q
