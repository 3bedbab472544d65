-- A branch that voted, settled by what the coordinator says of its transaction.
use Rattle.std.specs.Prelude.{◌≡◌}
use Rattle.hb_types.specs.declared.answer.Answer.{Answer}
use Rattle.hb_types.specs.declared.answer.Answer.TheVariants as answer
use Rattle.hb_types.specs.declared.names.NodeName.{NodeName}
use Rattle.hb_types.specs.declared.names.Number.{Number}
use Rattle.hb_types.specs.declared.names.Tx.{Tx}
use Rattle.hb_types.specs.declared.request.Request.TheVariants as request
use Rattle.hb_node.specs.Lists.{Lists, OneMore}
use Rattle.hb_talk.specs.Ends.{fes1}
use Rattle.hb_talk.specs.Talk.{Talk, says, asks}
use Rattle.hb_commit.specs.declared.settling.Resolved.{Resolved}
use Rattle.hb_commit.specs.declared.settling.Resolved.TheVariants as resolved

-- these nodes were asked what the talk asks, one request after another, up to what it says
abbrev pub Followed : {R : Type 0} → Talk R → Lists → Lists → R → Type 0
Followed (says r) old new result = (new ≡ old) × (result ≡ r)
Followed (asks node q k) old new result = (a : Answer) × (mid : Lists) × OneMore old mid node q a × Followed (k a) mid new result

abbrev pub after_commit : Number → NodeName → Answer → Resolved
after_commit number at answer.Down = resolved.Down at
after_commit number at (answer.Fault area) = resolved.Stopped at
after_commit number at _ = resolved.Committed number

abbrev pub after_rollback : NodeName → Answer → Resolved
after_rollback at answer.Down = resolved.Down at
after_rollback at (answer.Fault area) = resolved.Stopped at
after_rollback at _ = resolved.RolledBack

abbrev pub committed_at : Tx → Number → NodeName → Talk Resolved
committed_at tx number at = asks at.0 (request.Commit tx number) (λ a. says (after_commit number at a))

abbrev pub rolled_back_at : Tx → NodeName → Talk Resolved
rolled_back_at tx at = asks at.0 (request.Rollback tx) (λ a. says (after_rollback at a))

-- committed with the decision's number exactly where there is one, rolled back exactly where the coordinator says aborted
abbrev pub by_outcome : Tx → NodeName → Answer → Talk Resolved
by_outcome tx at (answer.Decided number) = committed_at tx number at
by_outcome tx at answer.Aborted = rolled_back_at tx at
by_outcome tx at answer.Active = says resolved.Still
by_outcome tx at answer.Down = says (resolved.Down (record { 0 = fes1 }))
by_outcome tx at _ = says resolved.NoMemory

abbrev pub resolving : Tx → NodeName → Talk Resolved
resolving tx at = asks fes1 (request.Outcome tx) (by_outcome tx at)
