use Rattle.std.proofs.Common.{arith}
use Rattle.hb_acts.proofs.CountWords.{count_is, count_only}
use Rattle.hb_acts.proofs.words.count_of.Goals as goal

pub returns-in-Some-clause-spelled : goal.returns-in-Some-clause-spelled
returns-in-Some-clause-spelled c one =
    count_is c.args.value.now c.in-Some.zeros.now c.in-Some.digit.now c.count_behind.result c.in-Some.ensures.cases.0 (omega (arith, c.if-value-gt-MOST_DIGITS.false)) one c.count_behind.ensures.few (c.count_behind.ensures.is one)

pub returns-in-Some-clause-only : goal.returns-in-Some-clause-only
returns-in-Some-clause-only c n count = count_only c.args.value.now c.in-Some.zeros.now c.in-Some.digit.now n c.count_behind.result c.in-Some.ensures.cases.0 c.count_behind.ensures.only count
