use Rattle.std.proofs.Common.{◌≡◌, ◌^◌, ◌<◌, drop}
use Rattle.hb_sqltoken.specs.Tokens.{decimal}
use Rattle.hb_sqltoken.proofs.number.decimal.Given as goal

abbrev pub invariant-loop-digit : goal.invariant-loop-digit
invariant-loop-digit l = record {
  small : l.n < 10 ^ l.digit-index;
  goes : decimal l.n (drop l.digit-index l.digits) ≡ decimal 0 l.digits;
}
