use Rattle.std.proofs.Common.{◌≡◌, ◌∙◌}
use Rattle.hb_types.specs.declared.places.Path.{Path}
use Rattle.hb_locks.specs.Locks.{held_at, mode_at}
use Rattle.hb_locks.proofs.Ascending.{if_ok_to}
use Rattle.hb_locks.proofs.table.locks_in.Goals as goal

pub returns-clause-each : goal.returns-clause-each
returns-clause-each c =
    if_ok_to c.as_locks.result _ (λ locks. (q : Path) → mode_at locks q ≡ held_at c.args.table.now.entries c.args.tx q) (λ locks is q. is q ∙ c.in_ok-modes.ensures q) c.as_locks.ensures.each
