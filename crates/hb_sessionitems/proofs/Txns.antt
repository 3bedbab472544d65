-- The items of a session's transaction are those of a right one.
use Rattle.std.proofs.Common.{List, [], ◌∷◌, ◌++◌, true, false, subst, sym}
use Rattle.std.specs.Prelude.{IsTrue}
use Rattle.hb_types.specs.declared.trail.Call.{Call}
use Rattle.hb_model.specs.declared.reply.Reply.{Reply}
use Rattle.hb_model.specs.declared.reply.Reply.TheVariants as reply
use Rattle.hb_model.specs.Outside.{is_outside}
use Rattle.hb_session.specs.Runs.{call_of}
use Rattle.hb_session.specs.Sitting.{next_owner}
use Rattle.hb_session.proofs.Following.{transactions_follow}
use Rattle.hb_itemlaws.specs.Dividing.{statements}
use Rattle.hb_itemlaws.specs.Txns.{NameOwner}
use Rattle.hb_itemlaws.proofs.Kept.{closed_txns_right, txns_right}
use Rattle.hb_itemlaws.proofs.Naming.{closed_had_replies, given_up_name, transactions_name}
use Rattle.hb_itemlaws.proofs.Showing.{unbegun_loose}
use Rattle.hb_sessionitems.specs.Txns.{ClosedSessionsAreTxns, GivenUpSessionsAreTxns, SessionsAreTxns, UnbegunSessionsAreLoose}
use Rattle.hb_sessionitems.proofs.Ending.{amid_left_at, closed_left_at, closed_undone, given_up_undone, rolled_back, whole}
use Rattle.hb_sessionitems.proofs.Owning.{closed_sessions_own, given_up_sessions_own, sessions_own}

pub sessions_txns : SessionsAreTxns
sessions_txns old last new work works calls replies few plain planned idle runs p a r asks sys begun =
    let all : List Call = calls ++ call_of p a ∷ [] in
    let said : List Reply = replies ++ r ∷ [] in
    let d = sessions_own old last new work works calls replies few plain idle runs p a r asks sys begun in
    let names = transactions_name old.back_ends (next_owner old) (statements (work ∷ works)) all said (transactions_follow old last new work.1 (statements works) calls replies idle runs p a r asks) in
    (d.0, d.1, txns_right old.back_ends d.1 (next_owner old) work works all said planned names d.0 d.2)

pub given_up_sessions_txns : GivenUpSessionsAreTxns
given_up_sessions_txns old last new work works calls asked rolled replies why r few plain planned idle runs turn up t sys obeyed =
    let all : List Call = calls ++ (asked ++ rolled) in
    let left = amid_left_at old last new (work ∷ works) calls asked replies why idle runs turn up in
    let undone = given_up_undone last new asked why up in
    let back = rolled_back new undone.used why r rolled undone.rolls t in
    let g = whole old true (work ∷ works) calls asked rolled replies why left back.1 undone.outside in
    let names = subst (λ x. NameOwner (next_owner old) (replies ++ x ∷ [])) (sym back.0) (given_up_name old.back_ends true (next_owner old) (work ∷ works) all replies why g) in
    let d = given_up_sessions_own old last new work works calls asked rolled replies why r few plain idle runs turn up t sys obeyed in
    (d.0, d.1, txns_right old.back_ends d.1 (next_owner old) work works all (replies ++ r ∷ []) planned names d.0 d.2)

pub closed_sessions_txns : ClosedSessionsAreTxns
closed_sessions_txns old last new work works calls rolled replies r place few plain planned idle runs turn closes t sys obeyed =
    let all : List Call = calls ++ rolled in
    let why : Reply = reply.RolledBackEnd in
    let left = closed_left_at old last new (work ∷ works) calls replies idle runs turn closes in
    let undone = closed_undone last.stage new closes in
    let back = rolled_back new undone.used why r rolled undone.rolls t in
    let g = whole old false (work ∷ works) calls [] rolled replies why left back.1 undone.outside in
    let names = subst (λ x. NameOwner (next_owner old) (replies ++ x ∷ [])) (sym back.0) (given_up_name old.back_ends false (next_owner old) (work ∷ works) all replies why g) in
    let outside = subst (λ x. IsTrue (is_outside x)) (sym back.0) undone.outside in
    let some = closed_had_replies old.back_ends work works all replies why g in
    let d = closed_sessions_own old last new work works calls rolled replies r place few plain idle runs turn closes t sys obeyed in
    (d.0, d.1, closed_txns_right old.back_ends d.1 place (next_owner old) work works all replies r planned outside some names d.0 d.2)

pub unbegun_sessions_loose : UnbegunSessionsAreLoose
unbegun_sessions_loose old last new work works calls replies idle runs p a r asks none =
    unbegun_loose old.back_ends (next_owner old) work works (calls ++ call_of p a ∷ []) (replies ++ r ∷ [])
    (transactions_follow old last new work.1 (statements works) calls replies idle runs p a r asks) none
