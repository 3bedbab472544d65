use Rattle.std.proofs.Common.{◌≡◌, drop}
use Rattle.std.specs.List.{list_all}
use Rattle.hb_types.specs.declared.lock.Mode.TheVariants as mode
use Rattle.hb_types.specs.declared.places.Path.TheVariants as path
use Rattle.hb_engine.specs.Covers.{is_covered}
use Rattle.hb_engine.proofs.restore.are_covered.Given as goal

-- the answer is that for the changes that are left
abbrev pub invariant-loop-change : goal.invariant-loop-change
invariant-loop-change l =
    list_all (λ c. is_covered l.locks l.tx mode.X (path.Key c.place)) l.changes ≡ list_all (λ c. is_covered l.locks l.tx mode.X (path.Key c.place)) (drop l.change-index l.changes)
