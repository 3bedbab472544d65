use Rattle.std.proofs.Common.{◌≡◌, ◌∙◌, ap, sym, Result, Ok, Err, List}
use Rattle.std.specs.Result.{OnOk}
use Rattle.hb_branch.specs.Overlays.{Overlay, putting}
use Rattle.hb_branch.proofs.Changes.{normal-more}
use Rattle.hb_branch.proofs.branch.Branch.put.Goals as goal

on_ok : {T E : Type 0} (P Q : Type 0) (r : Result T E) → (P → Q) → OnOk r P → OnOk r Q
on_ok P Q (Ok x) f p = f p
on_ok P Q (Err e) f p = tt

pub returns-clause-written : goal.returns-clause-written
returns-clause-written c =
    on_ok _ _ c.put_in.result
    (λ e own n. e ∙ ap (λ (o : Overlay). putting c.args.change o.changes) c.self.view_is ∙ ap (putting c.args.change) n ∙ sym (normal-more own c.args.change)) c.put_in.ensures.ok
