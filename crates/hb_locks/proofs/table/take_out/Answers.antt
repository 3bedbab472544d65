use Rattle.std.proofs.Common.{◌≡◌, ap, sym, ◌∙◌, subst, refl, Some, None, if◌then◌else◌, List, Option}
use Rattle.std.specs.Prelude.{IsSome}
use Rattle.hb_types.specs.declared.lock.Holder.{Holder}
use Rattle.hb_types.specs.declared.places.Path.{Path}
use Rattle.hb_types.specs.Places.{same_path}
use Rattle.hb_locks.specs.Locks.{holders_at, without}
use Rattle.hb_locks.proofs.Order.{absent, holders_is, same_path-refl, written}
use Rattle.hb_locks.proofs.table.take_out.Goals as goal

pub returns-in-Some : goal.returns-in-Some
returns-in-Some c =
    let old = c.args.table.now.entries in
    let new = (c.get_mut.follows.lender c.remove.new.self).entries in
    let value : c.remove.new.self ≡ without c.args.tx (holders_at old c.args.path) = c.remove.ensures ∙ ap (without c.args.tx) (holders_is old c.args.path _ c.in-Some.ensures.value) in
    let updates = (c.get_mut.follows.holds c.remove.new.self).3 (subst (λ (o : Option (List Holder)). IsSome o) c.in-Some.ensures.value refl) in
    let removed : (q : Path) → holders_at new q ≡ (if same_path c.args.path q then without c.args.tx (holders_at old q) else holders_at old q) =
    λ q. written old new c.args.path (without c.args.tx) (Some c.remove.new.self) value q (updates.0 q) in
    record {
      removed = removed;
      empty = λ t.
          removed c.args.path ∙ ap (λ b. if b then without c.args.tx (holders_at old c.args.path) else holders_at old c.args.path) (same_path-refl c.args.path)
          ∙ sym value ∙ c.is_empty.ensures.0 t;
    }

pub returns-in-None : goal.returns-in-None
returns-in-None c = record {
  removed = λ q. ap (λ m. holders_at m.entries q) c.get_mut.follows.holds-at-none ∙ absent c.args.table.now.entries c.args.path c.args.tx c.in-None.ensures.value q;
  empty = λ t. ap (λ m. holders_at m.entries c.args.path) c.get_mut.follows.holds-at-none ∙ sym (holders_is c.args.table.now.entries c.args.path None c.in-None.ensures.value);
}
