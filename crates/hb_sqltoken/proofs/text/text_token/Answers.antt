use Rattle.std.proofs.Common.{◌∙◌, sym, ap, arith, ◌==◌, ◌+◌}
use Rattle.hb_sqltoken.specs.Kinds.{begins_with}
use Rattle.hb_sqltoken.proofs.Texts.{byte_goes, pair_goes, closes_goes, open_goes, quote_behind, text_found, text_open}
use Rattle.hb_sqltoken.proofs.text.text_token.Goals as goal

pub loop-at-preserved-then-not-is_quote : goal.loop-at-preserved-then-not-is_quote
loop-at-preserved-then-not-is_quote c = record {
  within = omega arith;
  goes = rw c.in_ok-push.ensures.items (byte_goes c.loop-at.text.items c.args.behind.now c.loop-at.at c.loop-at-test.true (sym c.if-not-is_quote.ensures) ∙ c.loop-at.invariant.goes);
}

pub loop-at-preserved : goal.loop-at-preserved
loop-at-preserved c =
    let q = quote_behind c.args.behind.now (c.loop-at.at + 1) (ap (begins_with (λ b. b == 39)) (sym c.from.ensures) ∙ sym c.if-begins_with_byte.ensures) in
    record {
      within = omega (arith, q.0);
      goes = rw c.in_ok-push-2.ensures.items (pair_goes c.loop-at.text.items c.args.behind.now c.loop-at.at c.loop-at-test.true (sym c.if-not-is_quote.ensures) (ap (begins_with (λ b. b == 39)) (sym c.from.ensures) ∙ sym c.if-begins_with_byte.ensures) ∙ c.loop-at.invariant.goes);
    }

pub returns-else-begins_with_byte : goal.returns-else-begins_with_byte
returns-else-begins_with_byte c =
    rw c.new.ensures (sym (text_found c.args.behind.now c.loop-at.text.items (c.loop-at.at + 1)
    (sym c.loop-at.invariant.goes ∙ closes_goes c.loop-at.text.items c.args.behind.now c.loop-at.at c.loop-at-test.true (sym c.if-not-is_quote.ensures) (ap (begins_with (λ b. b == 39)) (sym c.from.ensures) ∙ sym c.if-begins_with_byte.ensures))))

pub returns : goal.returns
returns c = sym (text_open c.args.behind.now (sym c.loop-at.invariant.goes ∙ open_goes c.loop-at.text.items c.args.behind.now c.loop-at.at c.loop-at-test.false))
