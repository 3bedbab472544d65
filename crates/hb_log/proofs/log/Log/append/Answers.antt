use Rattle.std.proofs.Common.{◌∙◌}
use Rattle.hb_log.proofs.log.Log.append.Goals as goal

pub returns-clause-stop : goal.returns-clause-stop
returns-clause-stop g c = λ from placed item settled in_time has_record framed_is. c.append_bytes.ensures.stop from placed item settled in_time has_record (c.as_slice.ensures ∙ framed_is)
