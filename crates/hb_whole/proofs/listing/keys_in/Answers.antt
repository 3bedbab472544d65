use Rattle.std.proofs.Common.{◌++◌, ap, append_assoc, subst, sym, ◌∙◌, List, arith, inl, inr}
use Rattle.hb_types.specs.declared.places.Path.TheVariants.{Group}
use Rattle.hb_types.specs.Put.{rows_under}
use Rattle.hb_store.specs.Meanings.{keys_of}
use Rattle.hb_whole.specs.Slots.{Entries, rows_of}
use Rattle.std.specs.Prelude.{ℤ}
use Rattle.std.specs.Ordering.{int_cmp}
use Rattle.hb_types.specs.Lists.{Ascends}
use Rattle.hb_whole.proofs.Listed.{ascends_front, group_keys_ascend, keys_cons, keys_given}
use Rattle.hb_whole.proofs.SlotRows.{rows_ascend}
use Rattle.hb_whole.proofs.Under.{rows_between}
use Rattle.hb_whole.proofs.listing.keys_in.Goals.{in-None, in-Some+then-len-most}
use Rattle.hb_whole.proofs.listing.keys_in.Goals as goal

pub loop-place-preserved : goal.loop-place-preserved
loop-place-preserved c =
    let old = c.loop-place.keys in
    let rest = c.next.new.self in (
      omega (arith, c.in_ok-push_key.ensures.few, c.if-len-most.false, c.len.ensures),
      ap (λ k. k ++ keys_of (rows_of rest)) c.in_ok-push_key.ensures.pushed
          ∙ append_assoc old _ (keys_of (rows_of rest)) ∙ ap (λ r. old ++ r) (sym (keys_cons c.in-Some.place.now c.in-Some.slot.now rest))
          ∙ ap (λ (it : Entries). old ++ keys_of (rows_of it)) (sym c.in-Some.ensures.steps) ∙ c.loop-place.invariant.1,
    )

pub returns-clause-keys : goal.returns-clause-keys
returns-clause-keys c =
    let keys = c.loop-place.keys in
    let entries = c.args.map.now.entries in
    let between = rows_between (Group c.args.space c.args.group) entries c.range-place-items.ensures.ordered c.requires in
    keys_given keys (keys_of (rows_of c.loop-place.place-iterator)) (keys_of (rows_under (Group c.args.space c.args.group) (rows_of entries))) c.args.most c.loop-place.invariant.0
    (c.loop-place.invariant.1 ∙ ap keys_of between)
    (elim c.match-next.branch [
      | in-None w ↦ inl (ap (λ (it : Entries). keys_of (rows_of it)) w.in-None.ensures.steps.0)
      | in-Some+then-len-most w ↦ inr (omega (arith, w.len.ensures, w.if-len-most.true))
    ])

pub returns-clause-ascending : goal.returns-clause-ascending
returns-clause-ascending c =
    let keys = c.loop-place.keys in
    let entries = c.args.map.now.entries in
    let between = rows_between (Group c.args.space c.args.group) entries c.range-place-items.ensures.ordered c.requires in
    ascends_front keys (keys_of (rows_of c.loop-place.place-iterator))
    (subst (λ (ks : List ℤ). Ascends int_cmp ks) (sym (c.loop-place.invariant.1 ∙ ap keys_of between)) (group_keys_ascend c.args.space c.args.group (rows_of entries) (rows_ascend entries c.range-place-items.ensures.ordered)))
