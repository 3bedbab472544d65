use Rattle.std.proofs.Common.{◌≡◌, sym, ◌∙◌, ap, List}
use Rattle.std.specs.Option.{option_copied}
use Rattle.std.specs.List.{slice_get}
use Rattle.hb_types.specs.declared.change.Change.{Change}
use Rattle.hb_types.specs.Put.{last_at, lookup}
use Rattle.hb_types.proofs.PutLaws.{lookup-put_all}
use Rattle.hb_branch.specs.Overlays.{Overlay, rank, seen}
use Rattle.hb_branch.proofs.Ranks.{read_at}
use Rattle.hb_branch.proofs.Changes.{last_at-normal}
use Rattle.hb_branch.proofs.branch.Branch.read.Goals as goal

whole : (c : goal.After-overlaid) → option_copied c.overlaid.result ≡ last_at c.args.place.now c.args.self.now.changes (option_copied c.args.base)
whole c =
    let p = c.args.place.now in
    let items = c.self.inside.list.items in
    let at : c.position.result ≡ rank p items = c.position.ensures.rank ∙ ap (rank p) c.deref-2.ensures.value in
    let found : option_copied c.at.result ≡ slice_get items (rank p items) =
    c.at.ensures ∙ ap (λ (xs : List Change). slice_get xs c.position.result) c.deref.ensures.value ∙ ap (slice_get items) at in
    c.overlaid.ensures ∙ ap (seen p (option_copied c.args.base)) found ∙ sym (read_at p items (option_copied c.args.base) c.self.invariant)
    ∙ ap (λ (o : Overlay). last_at p o.changes (option_copied c.args.base)) c.self.view_is

pub returns-clause-changed : goal.returns-clause-changed
returns-clause-changed c = whole c

pub returns-clause-seen : goal.returns-clause-seen
returns-clause-seen c =
    let p = c.args.place.now in
    λ rows own n b. whole c ∙ ap (λ (cs : List Change). last_at p cs (option_copied c.args.base)) n ∙ last_at-normal p own (option_copied c.args.base)
    ∙ ap (last_at p own) b ∙ sym (lookup-put_all p rows own)
