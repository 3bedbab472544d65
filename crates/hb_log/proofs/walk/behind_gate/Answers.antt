use Rattle.std.proofs.Common.{◌≡◌, take, drop, refl, rules}
use Rattle.std.specs.Int.{from_le_bytes, w32}
use Rattle.hb_log.proofs.Framing.{not_framed}
use Rattle.hb_log.proofs.walk.behind_gate.Goals as goal

pub returns-in-Err-NotARecord : goal.returns-in-Err-NotARecord
returns-in-Err-NotARecord c =
    let rest = c.args.rest.now in
    let len : c.u32_at-len.result ≡ from_le_bytes w32 (take 4 rest) = search rules in
    let body : c.split_at-2.result.0.now ≡ take c.u32_at-len.result (drop 4 rest) = search rules in
    (refl, not_framed rest c.split_at-2.result.0.now c.u32_at-len.result len body (λ item has_record is. (c.in-Err-NotARecord.ensures.not_a_record c.in-Err-NotARecord.field-0-0 (search rules)).none item (record { fits = has_record; spelled = is })))
