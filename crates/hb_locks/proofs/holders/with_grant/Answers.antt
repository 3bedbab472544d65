use Rattle.std.proofs.Common.{ap, sym, ◌∙◌, set, ◌++◌, ◌∷◌, [], Vec, Global, List}
use Rattle.hb_types.specs.declared.lock.Holder.{Holder}
use Rattle.hb_locks.proofs.Lists.{granted-found, granted-new}
use Rattle.hb_locks.proofs.holders.with_grant.Goals as goal
use Rattle.hb_locks.proofs.holders.with_grant.Goals.{in-Some, in-None+in_ok-push-in-None}

pub returns : goal.returns
returns c = elim c.match-position_of.branch [
  | in-Some w ↦
      ap (λ (v : Vec Holder Global). v.items) w.next-is
      ∙ ap (λ (hs : List Holder). set hs w.in-Some.at c.args.grant) c.in_ok-next.ensures.items
      ∙ granted-found c.args.grant.tx c.args.grant.mode c.args.holders.now w.in-Some.at (sym c.position_of.ensures ∙ w.in-Some.is)
  | in-None+in_ok-push-in-None w ↦
      ap (λ (v : Vec Holder Global). v.items) w.next-is ∙ w.in_ok-push-in-None.ensures.items
      ∙ ap (λ (hs : List Holder). hs ++ c.args.grant ∷ []) c.in_ok-next.ensures.items
      ∙ granted-new c.args.grant.tx c.args.grant.mode c.args.holders.now (sym c.position_of.ensures ∙ w.in-None.is)
]
