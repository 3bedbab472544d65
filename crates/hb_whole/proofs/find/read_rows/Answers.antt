use Rattle.std.proofs.Common.{◌∙◌, subst, List, ℕ}
use Rattle.std.specs.Prelude.{MatchOption}
use Rattle.hb_types.specs.declared.change.Stored.{Stored}
use Rattle.hb_whole.specs.Read.{IsImage}
use Rattle.hb_whole.proofs.Finding.{window_inside}
use Rattle.hb_whole.proofs.find.read_rows.Goals as goal

pub returns-in-Ok-rows_of_image-clause-found : goal.returns-in-Ok-rows_of_image-clause-found
returns-in-Ok-rows_of_image-clause-found g c = λ read told inside.
    let is = c.deref.ensures.value ∙ c.in-Ok.ensures.bytes read told ∙ window_inside read c.args.place c.args.count inside in
    subst (λ (b : List ℕ). MatchOption c.in-Ok-rows_of_image.found ((rows : List Stored) → IsImage b rows → ⊥) (λ rows. IsImage b rows)) is c.in-Ok-rows_of_image.ensures
