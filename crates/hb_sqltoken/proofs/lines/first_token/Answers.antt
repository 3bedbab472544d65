use Rattle.std.proofs.Common.{sym, arith}
use Rattle.hb_sqltoken.proofs.Firsts.{name_front, number_front, number_digits, first_text, first_symbol}
use Rattle.hb_sqltoken.proofs.lines.first_token.Goals as goal

pub number_token-token-requires : goal.number_token-token-requires
number_token-token-requires c = number_digits c.args.line.now c.from-behind.result.now c.digits_at-more.result c.from-behind.ensures (omega arith) (sym c.if-is_digit.ensures) c.digits_at-more.ensures.value

pub returns-in_ok-token : goal.returns-in_ok-token
returns-in_ok-token c = name_front c.args.line.now c.from-behind.result.now c.name_at-more.result c.in_ok-token.token c.from-behind.ensures (omega arith) (sym c.if-is_letter.ensures) c.name_at-more.ensures.value c.in_ok-token.ensures

pub returns-then-is_digit : goal.returns-then-is_digit
returns-then-is_digit c = number_front c.args.line.now c.from-behind.result.now c.from.result.now c.digits_at-more.result c.number_token-token.result c.from-behind.ensures c.from.ensures (omega arith) (sym c.if-is_letter.ensures) (sym c.if-is_digit.ensures) c.digits_at-more.ensures.value c.number_token-token.ensures

pub returns-then-is_quote : goal.returns-then-is_quote
returns-then-is_quote c = rw (← (c.from-behind.ensures)) (rw (first_text _ _ (sym c.if-is_letter.ensures) (sym c.if-is_digit.ensures) (sym c.if-is_quote.ensures)) c.text_token.ensures)

pub returns-else-is_quote : goal.returns-else-is_quote
returns-else-is_quote c = rw (← (c.from-behind.ensures)) (rw (first_symbol _ _ (sym c.if-is_letter.ensures) (sym c.if-is_digit.ensures) (sym c.if-is_quote.ensures)) c.symbol_token.ensures)
