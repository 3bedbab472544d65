use Rattle.std.proofs.Common.{◌≡◌, sym, ◌∙◌, ap, subst, set, true, false, List}
use Rattle.std.specs.List.{slice_get, insert}
use Rattle.hb_types.specs.declared.change.Change.{Change}
use Rattle.hb_types.specs.Lists.{Ascends}
use Rattle.hb_branch.specs.Overlays.{change_cmp, putting, rank, stands}
use Rattle.hb_branch.proofs.Ranks.{placed, putting_is}
use Rattle.hb_branch.proofs.Changes.{putting_ascends}
use Rattle.hb_branch.proofs.branch.put_in.Goals as goal

replaced : (c : goal.Joined-index_mut-change) → set c.args.list.now.items c.position-nth.result c.args.change ≡ putting c.args.change c.args.list.now.items
replaced c =
    let items = c.args.list.now.items in
    let new = c.args.change in
    let at : c.position-nth.result ≡ rank new.place items = c.position-nth.ensures.rank ∙ ap (rank new.place) c.deref.ensures.value in
    let there : stands new.place (slice_get items (rank new.place items)) ≡ true =
    sym (ap (λ k. stands new.place (slice_get items k)) at)
    ∙ sym (c.is_at.ensures ∙ ap (λ (xs : List Change). stands new.place (slice_get xs c.position-nth.result)) c.deref-2.ensures.value) ∙ c.if-is_at.true in
    ap (λ k. set items k new) at ∙ sym (putting_is new items c.requires ∙ ap (placed new items (rank new.place items)) there)

pub returns-then-is_at-clause-ok : goal.returns-then-is_at-clause-ok
returns-then-is_at-clause-ok c = replaced c

pub returns-then-is_at-clause-ascending : goal.returns-then-is_at-clause-ascending
returns-then-is_at-clause-ascending c = subst (λ (cs : List Change). Ascends change_cmp cs) (sym (replaced c)) (putting_ascends c.args.change c.args.list.now.items c.requires)

put_before : (c : goal.In_ok-insert) → c.insert.new.self.items ≡ putting c.args.change c.args.list.now.items
put_before c =
    let items = c.args.list.now.items in
    let new = c.args.change in
    let at : c.position-nth.result ≡ rank new.place items = c.position-nth.ensures.rank ∙ ap (rank new.place) c.deref.ensures.value in
    let there : stands new.place (slice_get items (rank new.place items)) ≡ false =
    sym (ap (λ k. stands new.place (slice_get items k)) at)
    ∙ sym (c.is_at.ensures ∙ ap (λ (xs : List Change). stands new.place (slice_get xs c.position-nth.result)) c.deref-2.ensures.value) ∙ c.if-is_at.false in
    c.in_ok-insert.ensures.items ∙ ap (λ k. insert items k new) at ∙ sym (putting_is new items c.requires ∙ ap (placed new items (rank new.place items)) there)

pub returns-in_ok-insert-clause-ok : goal.returns-in_ok-insert-clause-ok
returns-in_ok-insert-clause-ok c = put_before c

pub returns-in_ok-insert-clause-ascending : goal.returns-in_ok-insert-clause-ascending
returns-in_ok-insert-clause-ascending c = subst (λ (cs : List Change). Ascends change_cmp cs) (sym (put_before c)) (putting_ascends c.args.change c.args.list.now.items c.requires)
