use Rattle.std.proofs.Common.{◌≡◌, ◌∙◌, ◌++◌, ap, sym, replicate, List, ℕ}
use Rattle.std.specs.Prelude.{nat_eq}
use Rattle.std.specs.Cmp.Lexicographic.{pointwise}
use Rattle.std.proofs.lemmas.Cmp.{nat_list_eq_equiv}
use Rattle.std.proofs.lemmas.Bool.{true≢false}
use Rattle.hb_types.specs.Numbers.{eight}
use Rattle.hb_whole.proofs.HeaderLaws.{read_again, reads_again}
use Rattle.hb_whole.proofs.header.read.Goals as goal

pub returns : goal.returns
returns c = λ h small is.
    let bytes = c.args.bytes.now in
    let text : c.in_ok-text.text.items ≡ read_again bytes =
    c.in_ok-text.ensures ∙ (λ i. eight (c.u64_at.ensures i) ++ eight (c.u64_at-2.ensures i) ++ eight (c.u64_at-3.ensures i) ++ eight (c.u64_at-4.ensures i) ++ eight (c.u64_at-5.ensures i) ++ replicate 23 0) in
    let same = c.as_slice.ensures.value ∙ text ∙ reads_again h small bytes is in
    true≢false (sym (nat_list_eq_equiv.refl bytes) ∙ ap (λ (l : List ℕ). pointwise nat_eq l bytes) (sym same) ∙ sym c.eq.ensures ∙ c.if-eq.false)
