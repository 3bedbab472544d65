use Rattle.std.proofs.Common.{inl, refl, rules}
use Rattle.hb_memdisk.proofs.sink.MemSinkSink.put.Goals as goal

pub returns-then-contains-clause-refused : goal.returns-then-contains-clause-refused
returns-then-contains-clause-refused c = (inl (search rules), refl)
