use Rattle.std.proofs.Common.{◌≡◌, ◌∙◌, ap, List}
use Rattle.std.proofs.lemmas.Result.{IfOk-weaker}
use Rattle.hb_types.specs.declared.change.Change.{Change}
use Rattle.hb_types.specs.declared.change.Stored.{Stored}
use Rattle.hb_types.specs.Put.{put_all, normal}
use Rattle.hb_branch.specs.Overlays.{Overlay, changes_under}
use Rattle.hb_branch.proofs.Views.{scan_is}
use Rattle.hb_branch.proofs.branch.Branch.scan.Goals as goal

pub returns : goal.returns
returns c =
    let p = c.args.path.now in
    IfOk-weaker c.merged.result _ _
    (λ x e rows own n a b.
    let same : c.deref.result.now ≡ normal own = c.deref.ensures.value ∙ ap (λ (o : Overlay). o.changes) c.self.view_is ∙ n in
    e ∙ ap (λ (cs : List Change). put_all c.args.base.now (changes_under p cs)) same ∙ ap (λ (base : List Stored). put_all base (changes_under p (normal own))) b ∙ scan_is p rows own a)
    c.merged.ensures
