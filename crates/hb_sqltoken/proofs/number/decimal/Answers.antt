use Rattle.std.proofs.Common.{arith, ◌∙◌, sym}
use Rattle.hb_sqltoken.proofs.Numbers.{digit_fits, digit_below, decimal_goes, decimal_done}
use Rattle.hb_sqltoken.proofs.number.decimal.Goals as goal

pub overflow_mul-n : goal.overflow_mul-n
overflow_mul-n c = let h = digit_fits c.loop-digit.n 48 c.loop-digit.digit-index c.loop-digit.invariant.small (omega arith) (omega arith) in omega arith

pub overflow_add-n : goal.overflow_add-n
overflow_add-n c =
    let r = c.requires.digits c.loop-digit.digit-index 0 c.loop-digit-test.true in
    let h = digit_fits c.loop-digit.n _ c.loop-digit.digit-index c.loop-digit.invariant.small (omega arith) r.1 in omega arith

pub loop-digit-preserved : goal.loop-digit-preserved
loop-digit-preserved c = record {
  small = digit_below c.loop-digit.n _ c.loop-digit.digit-index c.loop-digit.invariant.small (c.requires.digits c.loop-digit.digit-index 0 c.loop-digit-test.true).1;
  goes = decimal_goes c.loop-digit.n c.args.digits.now c.loop-digit.digit-index c.loop-digit-test.true ∙ c.loop-digit.invariant.goes;
}

pub returns : goal.returns
returns c = sym (decimal_done c.loop-digit.n c.args.digits.now c.loop-digit.digit-index c.loop-digit-test.false) ∙ c.loop-digit.invariant.goes
