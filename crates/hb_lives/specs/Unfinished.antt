-- A statement that is cut off, with calls beside its plan.
use Rattle.std.specs.Prelude.{ℕ, List, ◌++◌}
use Rattle.hb_types.specs.declared.names.Owner.{Owner}
use Rattle.hb_types.specs.declared.trail.Call.{Call}
use Rattle.hb_model.specs.declared.reply.Reply.TheVariants as reply
use Rattle.hb_model.specs.declared.statement.Statement.{Statement}
use Rattle.hb_model.specs.Answers.{HasAsked, is_decide}
use Rattle.hb_model.specs.Asked.{AreWhereAsked}
use Rattle.hb_model.specs.Locking.{LocksByTable}
use Rattle.hb_talk.specs.Ends.{committing}
use Rattle.hb_talk.specs.PlansDefine.{plan}
use Rattle.hb_talk.specs.Talk.{Begins, Use}
use Rattle.hb_plancalc.specs.Counted.{IsWithin}
use Rattle.hb_law.specs.Transactions.{IsBare}
use Rattle.hb_faithful.specs.Planned.{AreBeside, Opens}

-- Behind calls that begin a transaction and before calls beside it, it has decided nothing, and locked by the table of locks.
abbrev pub UnfinishedAreRight : Type 0
UnfinishedAreRight =
    (st : Statement) (back_ends : ℕ) (u : Use) (front asked back : List Call) → IsWithin u → Opens front → Begins (plan back_ends st u) asked → AreBeside back
    → (¬ (HasAsked is_decide (front ++ (asked ++ back)))) × (AreWhereAsked (front ++ (asked ++ back)) → LocksByTable st (front ++ (asked ++ back)))

-- A COMMIT that is cut off has read and written no row, and locked nothing.
abbrev pub CutCommitsAreBare : Type 0
CutCommitsAreBare = (owner : Owner) (u : Use) (calls : List Call) → Begins (committing owner u reply.Committed) calls → IsBare calls
