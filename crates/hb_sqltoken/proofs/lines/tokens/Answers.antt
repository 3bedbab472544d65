use Rattle.std.proofs.Common.{arith, ◌∙◌, sym, ap, ◌++◌, ◌-◌, length, ◌<◌, length-append}
use Rattle.hb_sqltoken.specs.declared.token.Placed.{Placed}
use Rattle.hb_sqltoken.specs.Tokens.{bounded}
use Rattle.hb_sqltoken.proofs.Firsts.{blank_goes, token_goes, next_found, tokens_end, found_goes, found_full, found_all, found_none}
use Rattle.hb_sqltoken.proofs.lines.tokens.Goals as goal

pub loop-at-init : goal.loop-at-init
loop-at-init c = record {
  within = omega arith;
  few = rw c.new-found.ensures (omega arith);
  goes = found_none c.new-found.result c.args.line.now c.new-found.ensures;
}

pub loop-at-preserved-then-is_blank : goal.loop-at-preserved-then-is_blank
loop-at-preserved-then-is_blank c = record {
  within = omega arith;
  few = omega arith;
  goes = ap (λ r. c.loop-at.found ++ bounded (512 - length c.loop-at.found) r) (blank_goes c.args.line.now c.loop-at.at c.loop-at-test.true (sym c.if-is_blank.ensures)) ∙ c.loop-at.invariant.goes;
}

pub returns-then-len-eq-MOST_TOKENS : goal.returns-then-len-eq-MOST_TOKENS
returns-then-len-eq-MOST_TOKENS c =
    c.in_ok-push.ensures.ok
    ∙ found_full c.loop-at.found _ _ _ _ (omega arith) (token_goes c.args.line.now c.loop-at.at c.loop-at-test.true (sym c.if-is_blank.ensures)) c.loop-at.invariant.goes

pub overflow_add-at-in-loop-at : goal.overflow_add-at-in-loop-at
overflow_add-at-in-loop-at c =
    let n = next_found c.args.line.now c.from.result.now c.loop-at.at c.in_ok-token.more c.in_ok-token.token c.from.ensures c.loop-at-test.true (sym c.if-is_blank.ensures) c.in_ok-token.ensures in
    omega (arith, n.0)

pub overflow_add-at-in-loop-at-2 : goal.overflow_add-at-in-loop-at-2
overflow_add-at-in-loop-at-2 c =
    let n = next_found c.args.line.now c.from.result.now c.loop-at.at c.in_ok-token.more c.in_ok-token.token c.from.ensures c.loop-at-test.true (sym c.if-is_blank.ensures) c.in_ok-token.ensures in
    omega (arith, n.0)

pub loop-at-preserved : goal.loop-at-preserved
loop-at-preserved c =
    let n = next_found c.args.line.now c.from.result.now c.loop-at.at c.in_ok-token.more c.in_ok-token.token c.from.ensures c.loop-at-test.true (sym c.if-is_blank.ensures) c.in_ok-token.ensures in
    let short : length c.loop-at.found < 512 = omega arith in
    record {
      within = n.0;
      few = rw c.in_ok-push-2.ensures.ok (omega (arith, short, length-append {A = Placed}));
      goes = rw c.in_ok-push-2.ensures.ok (found_goes c.loop-at.found _ _ _ _ short n.1 c.loop-at.invariant.goes);
    }

pub returns : goal.returns
returns c = found_all c.loop-at.found _ _ (tokens_end c.args.line.now c.loop-at.at c.loop-at-test.false) c.loop-at.invariant.goes
