use Rattle.hb_system.proofs.FreshFront.{log_of}
use Rattle.hb_system.proofs.real.FrontOfLog.into_log.Goals as goal

pub returns : goal.returns
returns g c = λ at image. log_of _ _ (c.into_disk.ensures.left at image)
