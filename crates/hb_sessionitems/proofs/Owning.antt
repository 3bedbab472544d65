-- Which of the items of a session's transaction begins it, and which ask something of it.
use Rattle.std.proofs.Common.{◌≡◌, ℕ, List, [], ◌∷◌, ◌++◌, Some, Bool, true, false, subst, sym, ap, ◌∙◌}
use Rattle.std.specs.Prelude.{IsTrue, ◌≢◌}
use Rattle.std.proofs.lemmas.List.{append_assoc}
use Rattle.hb_types.specs.declared.answer.Answer.TheVariants as answer
use Rattle.hb_types.specs.declared.request.Request.TheVariants as request
use Rattle.hb_types.specs.declared.trail.Call.{Call}
use Rattle.hb_types.proofs.Ascending.{Each-append, Each-front}
use Rattle.hb_law.specs.Callers.{ObeysFrom, is_begun}
use Rattle.hb_model.specs.Answers.{call}
use Rattle.hb_model.specs.declared.reply.Reply.{Reply}
use Rattle.hb_model.specs.declared.reply.Reply.TheVariants as reply
use Rattle.hb_talk.specs.Ends.{fes1}
use Rattle.hb_talk.specs.Moves.{fresh}
use Rattle.hb_session.specs.Runs.{call_of}
use Rattle.hb_session.specs.Sitting.{Sitting, next_owner}
use Rattle.hb_session.proofs.Following.{transactions_follow}
use Rattle.hb_itemlaws.specs.Dividing.{Given, statements}
use Rattle.hb_itemlaws.specs.GivingUp.{Closed, closing}
use Rattle.hb_itemlaws.specs.Owning.{AreBegins, AreOwn, DividedOwn, IsBegun, NoBegin, StartsOwn, is_begin}
use Rattle.hb_itemlaws.proofs.GivingUp.{closed_own, given_up_own, left_unbegun}
use Rattle.hb_itemlaws.proofs.OwnItems.{transactions_own, unbegun_nothing}
use Rattle.hb_sessionitems.specs.Owning.{ClosedSessionsAreOwn, GivenUpSessionsAreOwn, Obeyed, SessionsAreOwn, UnbegunSessionsAskNothing}
use Rattle.hb_sessionitems.proofs.Obeying.{IsAbortFirst, aborts_own}
use Rattle.hb_sessionitems.proofs.Ending.{amid_left_at, closed_left_at, closed_undone, given_up_undone, rolled_back, whole}
use Rattle.hb_sessionitems.proofs.Positions.{LeftBegun}

-- ---- ended as the talk says

pub sessions_own : SessionsAreOwn
sessions_own old last new work works calls replies few plain idle runs p a r asks sys begun =
    transactions_own old.back_ends (next_owner old) work works (calls ++ call_of p a ∷ []) (replies ++ r ∷ []) few plain
    (transactions_follow old last new work.1 (statements works) calls replies idle runs p a r asks) sys begun

pub unbegun_sessions_nothing : UnbegunSessionsAskNothing
unbegun_sessions_nothing old last new work works calls replies idle runs p a r asks none =
    unbegun_nothing old.back_ends (next_owner old) work works (calls ++ call_of p a ∷ []) (replies ++ r ∷ [])
    (transactions_follow old last new work.1 (statements works) calls replies idle runs p a r asks) none

-- ---- given up

module _ (old : Sitting) (amidst : Bool) (works : List Given) (calls asked rolled : List Call) (replies : List Reply) (b : LeftBegun old amidst works (calls ++ asked) replies) (quiet : NoBegin rolled) where
  no_begin : NoBegin b.more
  no_begin =
      let P : Call → Type 0 = λ c. is_begin c.request ≡ false in
      let l = b.left in
      subst NoBegin (sym l.parts) (Each-append P l.front (l.asked ++ l.late) l.front_begins (Each-append P l.asked l.late (left_unbegun old.back_ends amidst works (fresh b.tx.0) l.asked replies l.left) l.late_begins))

  whole_begins : calls ++ (asked ++ rolled) ≡ call fes1 (request.Begin (next_owner old)) (answer.Begun b.tx) ∷ (b.more ++ rolled)
  whole_begins = sym (append_assoc calls asked rolled) ∙ ap (λ zs. zs ++ rolled) b.whole

  -- its Begin is the only one
  begun_of : IsBegun (next_owner old) b.tx.0 (calls ++ (asked ++ rolled))
  begun_of = (
    b.more ++ rolled,
    whole_begins,
    Each-append (λ (c : Call). is_begin c.request ≡ false) b.more rolled no_begin quiet,
  )

  -- behind a statement with its reply nothing comes before the rolling back, which is its own
  starts_of : Obeyed old (calls ++ (asked ++ rolled)) → AreBegins (calls ++ (asked ++ rolled)) → IsAbortFirst rolled → replies ≢ [] → StartsOwn b.tx.0 (b.left.late ++ rolled)
  starts_of (front, obeys) sys (t, a, rest, first) some =
      let begin : Call = call fes1 (request.Begin (next_owner old)) (answer.Begun b.tx) in
      let abort : Call = call fes1 (request.Abort t) a in
      let Q : Call → Type 0 = λ c. IsTrue (is_begun c.answer) → IsTrue (is_begin c.request) in
      let same : calls ++ (asked ++ rolled) ≡ (begin ∷ b.more) ++ abort ∷ rest = whole_begins ∙ ap (λ zs. (begin ∷ b.more) ++ zs) first in
      let known = subst AreBegins same sys in
      let own = aborts_own old.index (next_owner old) front b.more rest b.tx t a (subst (ObeysFrom old.index front) same obeys) no_begin (Each-front Q b.more (abort ∷ rest) known.1) in
      subst (λ zs. StartsOwn b.tx.0 (zs ++ rolled)) (sym (b.left.late_alone some)) (subst (StartsOwn b.tx.0) (sym first) (ap Some own))

pub given_up_sessions_own : GivenUpSessionsAreOwn
given_up_sessions_own old last new work works calls asked rolled replies why r few plain idle runs turn up t sys obeyed =
    let left = amid_left_at old last new (work ∷ works) calls asked replies why idle runs turn up in
    let undone = given_up_undone last new asked why up in
    let back = rolled_back new undone.used why r rolled undone.rolls t in
    let g = whole old true (work ∷ works) calls asked rolled replies why left back.1 undone.outside in
    let d = given_up_own old.back_ends (next_owner old) (work ∷ works) (calls ++ (asked ++ rolled)) replies why few plain g sys (begun_of old true (work ∷ works) calls asked rolled replies left back.2)
    (starts_of old true (work ∷ works) calls asked rolled replies left back.2 obeyed sys back.3) in
    subst (λ x. DividedOwn old.back_ends (work ∷ works) (calls ++ (asked ++ rolled)) (replies ++ x ∷ [])) (sym back.0) (d.0, left.tx.0, d.1)

-- a division into items of one transaction, and the rolling back behind them
abbrev ClosedOwn : Sitting → List Given → List Call → List Reply → ℕ → Reply → Type 0
ClosedOwn old works calls replies place r = (c : Closed old.back_ends place works calls replies r) × (tx : ℕ) × AreOwn tx (c.items ++ closing place c.last r ∷ [])

pub closed_sessions_own : ClosedSessionsAreOwn
closed_sessions_own old last new work works calls rolled replies r place few plain idle runs turn closes t sys obeyed =
    let left = closed_left_at old last new (work ∷ works) calls replies idle runs turn closes in
    let undone = closed_undone last.stage new closes in
    let back = rolled_back new undone.used reply.RolledBackEnd r rolled undone.rolls t in
    let g = whole old false (work ∷ works) calls [] rolled replies reply.RolledBackEnd left back.1 undone.outside in
    let d = closed_own old.back_ends place (next_owner old) (work ∷ works) (calls ++ rolled) replies reply.RolledBackEnd few plain g sys
    (begun_of old false (work ∷ works) calls [] rolled replies left back.2) (starts_of old false (work ∷ works) calls [] rolled replies left back.2 obeyed sys back.3) in
    subst (λ x. ClosedOwn old (work ∷ works) (calls ++ rolled) replies place x) (sym back.0) (d.0, left.tx.0, d.1)
