-- What the sources of a statement's rows ask of the course of its plan.
use Rattle.std.proofs.Common.{◌≡◌, ℕ, List, [], Result, Ok, Err, Bool, true, false, refl, sym}
use Rattle.std.specs.Prelude.{IsTrue}
use Rattle.std.proofs.lemmas.Bool.{false≢true}
use Rattle.hb_types.specs.declared.answer.Answer.{Answer}
use Rattle.hb_types.specs.declared.answer.Answer.TheVariants as answer
use Rattle.hb_types.specs.declared.change.Stored.{Stored}
use Rattle.hb_types.specs.declared.request.Request.{Request}
use Rattle.hb_types.specs.declared.request.Request.TheVariants as request
use Rattle.hb_types.specs.declared.trail.Call.{Call}
use Rattle.hb_types.specs.Lists.{EachBehind}
use Rattle.hb_model.specs.declared.reply.Reply.{Reply}
use Rattle.hb_model.specs.declared.reply.Reply.TheVariants as reply
use Rattle.hb_model.specs.declared.statement.Statement.{Statement}
use Rattle.hb_model.specs.declared.statement.Statement.TheVariants as statement
use Rattle.hb_model.specs.Answers.{given}
use Rattle.hb_model.specs.Asked.{AreWhereAsked}
use Rattle.hb_model.specs.Sources.{ShowsGiven, Sourced, WriteMade}
use Rattle.hb_talk.specs.Talk.{Begins, Follows, Planning, Use, refusal_of}
use Rattle.hb_plancalc.specs.Counted.{reply_in}
use Rattle.hb_planlocks.proofs.Course.{Bearing, Goes, Rule, begins_rightly, follows_rightly, is_free}

abbrev pub is_rows : Reply → Bool
is_rows (reply.Rows rows) = true
is_rows _ = false

abbrev pub is_select : Statement → Bool
is_select (statement.Select w table pred) = true
is_select _ = false

-- an answer that isn't the one asked for shows no rows
pub no_rows : (node : ℕ) (a : Answer) → is_rows (refusal_of node a) ≡ false
no_rows node answer.Down = refl
no_rows node (answer.Fault area) = refl
no_rows node (answer.Cycle edges) = refl
no_rows node answer.NumbersSpent = refl
no_rows node answer.NoMemory = refl
no_rows node _ = refl

-- what shows no rows shows none that were not answered
pub none_shown : (st : Statement) (r : Reply) (g : List Stored) → (IsTrue (is_select st) → is_rows r ≡ false) → ShowsGiven st r g
none_shown (statement.Select w table pred) (reply.Rows rows) g h = λ s. absurd (false≢true (sym (h refl)))
none_shown (statement.Select w table pred) _ g h = tt
none_shown _ r g h = tt

module _ (st : Statement) where
  -- a refusal of a SELECT shows no rows
  abbrev pub Refusing : Reply → Type 0
  Refusing r = IsTrue (is_select st) → is_rows r ≡ false

  abbrev pub sources : Rule
  sources = record {
    May = λ g node q. WriteMade st g q;
    Refused = Refusing;
    free = free;
    refusals = λ node a s. no_rows node a;
    too_much = λ s. refl;
  }
    where
      free : (g : List Stored) (node : ℕ) (q : Request) → IsTrue (is_free q) → WriteMade st g q
      free g node q = elim q as (λ x. IsTrue (is_free x) → WriteMade st g x) [ request.Write tx c ↦ λ h. absurd (false≢true h) | x ↦ λ h. tt ]

  -- the rows that the reply shows were answered
  abbrev pub Shows : List Stored → Reply → Type 0
  Shows g r = ShowsGiven st r g

  pub by_course : (p : Planning Reply) (u v : Use) (calls : List Call) (r : Result Reply Reply) → Follows false (p u) calls (r, v) → AreWhereAsked calls
      → Bearing sources p u [] Shows → Sourced st calls (reply_in r)
  by_course p u v calls r follows asked bears =
      let c = follows_rightly sources false (p u) calls (r, v) follows [] (Goes sources Shows) bears asked in
      record { shown = over r c.said; written = c.asked_rightly }
    where
      over : (o : Result Reply Reply) → Goes sources Shows (given calls) (o, v) → ShowsGiven st (reply_in o) (given calls)
      over (Ok x) w = w
      over (Err e) w = none_shown st e (given calls) w

  -- what was written by calls that begin a plan
  pub by_front : (p : Planning Reply) (u : Use) (calls : List Call) → Begins (p u) calls → AreWhereAsked calls → Bearing sources p u [] Shows
      → EachBehind (λ before c. WriteMade st (given before) c.request) [] calls
  by_front p u calls begins asked bears =
      begins_rightly sources (p u) calls begins [] (Goes sources Shows) bears asked
