use Rattle.std.proofs.Common.{ap, sym, ◌∙◌, Option, if◌then◌else◌}
use Rattle.std.specs.Map.{lookup}
use Rattle.std.specs.Option.{option_or}
use Rattle.hb_types.specs.declared.lock.Mode.{Mode}
use Rattle.hb_types.specs.Places.{same_path}
use Rattle.hb_locks.proofs.Ascending.{kept}
use Rattle.hb_locks.proofs.table.keep_mode.Goals as goal

pub returns-in_ok-insert : goal.returns-in_ok-insert
returns-in_ok-insert c =
    let old = c.args.modes.now.entries in
    λ q. kept old c.insert.new.self.entries c.args.path c.in-Some.mode q (c.in_ok-insert.ensures.updates.0 q)
    ∙ ap (λ (o : Option Mode). if same_path c.args.path q then option_or o (lookup (same_path q) old) else lookup (same_path q) old) (sym c.in-Some.is)
