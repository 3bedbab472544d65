use Rattle.std.proofs.Common.{◌≡◌, ◌+◌, ℕ, length, take, drop, ap, sym, ◌∙◌, subst, arith, rules}
use Rattle.std.specs.Prelude.{MatchOption, Option}
use Rattle.std.proofs.lemmas.Bool.{true≢false}
use Rattle.std.proofs.lemmas.List.{length-take, length-drop}
use Rattle.hb_whole.specs.declared.header.Header.{Header}
use Rattle.hb_whole.specs.Headers.{IsHeader, text_of}
use Rattle.hb_whole.specs.Points.{IsWithin}
use Rattle.hb_whole.proofs.Finding.{one_header}
use Rattle.hb_whole.proofs.opened.opened_header.Goals as goal

pub read-requires : goal.read-requires
read-requires c = omega (arith, ap length c.window.ensures, length-take 63 (drop (c.header_place.result + 1) c.args.headers.now), length-drop (c.header_place.result + 1) c.args.headers.now, c.requires, c.header_place.ensures.low)

pub returns-else-is_within : goal.returns-else-is_within
returns-else-is_within c = λ h has.
    let header = c.in-Some.header in
    let small : IsHeader header = search rules in
    let there = subst (λ (o : Option Header). MatchOption o ((h : Header) → IsHeader h → c.window.result.now ≡ text_of h → ⊥) (λ h. c.window.result.now ≡ text_of h)) c.in-Some.is c.in_ok-header.ensures in
    let text = ap (λ (k : ℕ). take 63 (drop (k + 1) c.args.headers.now)) (sym c.header_place.ensures.place) ∙ sym c.window.ensures ∙ there in
    let same : h ≡ header = one_header h header has.numbers small (sym has.text ∙ text) in
    let yes = c.is_within.ensures.1 (subst (λ (g : Header). IsWithin g c.args.size) same has.within) in
    true≢false (sym yes ∙ c.if-is_within.false)
