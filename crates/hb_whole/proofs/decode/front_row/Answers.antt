use Rattle.std.proofs.Common.{◌∙◌, ap, Err}
use Rattle.hb_whole.proofs.Decoding.{no_row_found, no_row_read}
use Rattle.hb_whole.proofs.decode.front_row.Goals as goal

pub returns-in-None : goal.returns-in-None
returns-in-None c = no_row_found c.changes_have_one_form.ensures.one_form c.args.bytes.now c.in-Ok.change c.in-Ok.used c.in-Ok.ensures.change c.in-None.is

pub returns-in-Err-NotARecord : goal.returns-in-Err-NotARecord
returns-in-Err-NotARecord c =
    no_row_read c.args.bytes.now c.in-Err-NotARecord.field-0-0 (c.decode_change.ensures.not_a_change c.in-Err-NotARecord.field-0-0 (c.in-Err-NotARecord.is ∙ ap Err c.in-Err-NotARecord.field-0-is))
