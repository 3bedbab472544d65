use Rattle.std.proofs.Common.{◌≡◌, ℕ, ◌+◌, ◌-◌, ◌*◌, ◌/◌, ◌<◌, get_or, Ok, refl, subst, arith}
use Rattle.std.proofs.lemmas.Result.{err_from_is_err_and}
use Rattle.hb_codec.specs.Readers.{number_in, digit, least_above, most_above}
use Rattle.hb_codec.proofs.NumberAt.{number_none, number_short, number_refused, number_whole, refused_high, refused_least, fails_on, bind_is}
use Rattle.hb_codec.proofs.reading.+number_at.Goals as goal

pub returns-then-width-eq0-clause-number : goal.returns-then-width-eq0-clause-number
returns-then-width-eq0-clause-number t c = number_none c.args.turn c.args.width c.args.low c.args.high c.args.bytes.now c.if-width-eq0.true

pub returns-then-bytes-lt1-clause-number : goal.returns-then-bytes-lt1-clause-number
returns-then-bytes-lt1-clause-number t c = number_short c.args.turn c.args.width c.args.low c.args.high c.args.bytes.now (λ z. omega (arith, z)) (omega arith)

pub returns-then-digit-high-clause-number : goal.returns-then-digit-high-clause-number
returns-then-digit-high-clause-number t c =
    let b = get_or c.args.bytes.now 0 0 in
    let is : c.digit_of-digit.result ≡ digit c.args.turn (c.args.width - 1) b = c.digit_of-digit.ensures in
    number_refused c.args.turn c.args.width c.args.low c.args.high c.args.bytes.now (λ z. omega (arith, z)) (omega arith)
    (refused_high c.args.low c.args.high (digit c.args.turn (c.args.width - 1) b) b (subst (λ (d : ℕ). c.args.high < d) is (omega arith)))

pub returns-then-least-most-clause-number : goal.returns-then-least-most-clause-number
returns-then-least-most-clause-number t c =
    let b = get_or c.args.bytes.now 0 0 in
    let is : c.digit_of-digit.result ≡ digit c.args.turn (c.args.width - 1) b = c.digit_of-digit.ensures in
    let less : most_above c.args.high c.digit_of-digit.result < c.least_above_digit-least.result = omega arith in
    let less2 : most_above c.args.high c.digit_of-digit.result < least_above c.args.low c.digit_of-digit.result = subst (λ (k : ℕ). most_above c.args.high c.digit_of-digit.result < k) c.least_above_digit-least.ensures less in
    number_refused c.args.turn c.args.width c.args.low c.args.high c.args.bytes.now (λ z. omega (arith, z)) (omega arith)
    (refused_least c.args.low c.args.high (digit c.args.turn (c.args.width - 1) b) b (subst (λ (d : ℕ). most_above c.args.high d < least_above c.args.low d) is less2))

pub returns-in_err-n-clause-number : goal.returns-in_err-n-clause-number
returns-in_err-n-clause-number t c =
    let p = err_from_is_err_and c.from_residual.result c.from_residual.ensures.1 in
    let d = c.digit_of-digit.result in
    let most = (c.args.high - d) / 256 in
    let inner = number_in c.args.turn (c.args.width - 1) c.least_above_digit-least.result most c.split_at.result.1.now in
    let goes = number_whole c.args.turn c.args.width c.args.low c.args.high c.least_above_digit-least.result most d c.args.bytes.now c.split_at.result.1.now (λ z. omega (arith, z)) (omega arith) (omega (arith, c.type_inv.bytes 0)) c.digit_of-digit.ensures c.least_above_digit-least.ensures refl c.split_at.ensures.back (omega arith) (omega arith) in
    rw (p.1, p.2) (fails_on c.in_err-n.field-0.0 inner (λ n. Ok (d + 256 * n.0, n.1)) (number_in c.args.turn c.args.width c.args.low c.args.high c.args.bytes.now) c.in_err-n.ensures.number goes)

pub returns-clause-number : goal.returns-clause-number
returns-clause-number t c =
    let d = c.digit_of-digit.result in
    let most = (c.args.high - d) / 256 in
    let inner = number_in c.args.turn (c.args.width - 1) c.least_above_digit-least.result most c.split_at.result.1.now in
    let goes = number_whole c.args.turn c.args.width c.args.low c.args.high c.least_above_digit-least.result most d c.args.bytes.now c.split_at.result.1.now (λ z. omega (arith, z)) (omega arith) (omega (arith, c.type_inv.bytes 0)) c.digit_of-digit.ensures c.least_above_digit-least.ensures refl c.split_at.ensures.back (omega arith) (omega arith) in
    bind_is inner (λ n. Ok (d + 256 * n.0, n.1)) (number_in c.args.turn c.args.width c.args.low c.args.high c.args.bytes.now) (c.in_ok-n.n, c.in_ok-n.rest.now) c.in_ok-n.ensures.number goes
