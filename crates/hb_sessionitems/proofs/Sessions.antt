-- A session's transaction follows the talk of what it was given, and is divided as the talk is.
use Rattle.std.proofs.Common.{[], ◌∷◌, ◌++◌}
use Rattle.hb_session.specs.Runs.{call_of}
use Rattle.hb_session.specs.Sitting.{next_owner}
use Rattle.hb_session.proofs.Following.{transactions_follow}
use Rattle.hb_itemlaws.specs.Dividing.{statements}
use Rattle.hb_itemlaws.proofs.Dividing.{transactions_right}
use Rattle.hb_sessionitems.specs.Sitting.{SessionsAreRight}

pub sessions_right : SessionsAreRight
sessions_right old last new work works calls replies few plain idle runs p a r asks begun =
    transactions_right old.back_ends (next_owner old) work works (calls ++ call_of p a ∷ []) (replies ++ r ∷ []) few plain
    (transactions_follow old last new work.1 (statements works) calls replies idle runs p a r asks) begun
