-- What the lines of a transaction's items tell: its own decision, and no outcome that was asked for.
use Rattle.std.proofs.Common.{◌≡◌, ℕ, List, [], ◌∷◌, Some, None, Bool, true, false, refl, subst, sym}
use Rattle.std.specs.Prelude.{IsTrue, ◌||◌, MatchOption, ⊤}
use Rattle.std.proofs.lemmas.Bool.{false≢true}
use Rattle.hb_types.specs.declared.answer.Answer.{Answer}
use Rattle.hb_types.specs.declared.answer.Answer.TheVariants as answer
use Rattle.hb_types.specs.declared.request.Request.TheVariants as request
use Rattle.hb_types.specs.declared.trail.Call.{Call}
use Rattle.hb_types.specs.Lists.{Each}
use Rattle.hb_model.specs.declared.reply.Reply.{Reply}
use Rattle.hb_model.specs.declared.reply.Reply.TheVariants as reply
use Rattle.hb_model.specs.declared.statement.Statement.{Statement}
use Rattle.hb_model.specs.declared.statement.Statement.TheVariants as statement
use Rattle.hb_model.specs.Answers.{call}
use Rattle.hb_model.specs.Items.{Doing, Item, sql}
use Rattle.hb_model.specs.Outside.{is_outside, says_undone}
use Rattle.hb_plancalc.proofs.Steps.{rejects}
use Rattle.hb_talk.specs.Ends.{fes1}
use Rattle.hb_talk.specs.Sessions.{transaction}
use Rattle.hb_talk.specs.Talk.{Follows, asked, refusal_of}
use Rattle.hb_law.specs.Callers.{WasDecided}
use Rattle.hb_law.specs.Standing.{is_aside, leaves_open}
use Rattle.hb_law.specs.Transactions.{CommitTells, IsBoundItem, IsBoundStatement, TellsOutcome, Txn, begins_of, is_loose, is_told, number_of, tx_asked}
use Rattle.hb_itemlaws.specs.Dividing.{AreItemsOf, Given, statements}
use Rattle.hb_itemlaws.specs.Txns.{AreLoose, TellsOwn, UnbegunAreLoose}
use Rattle.hb_itemlaws.proofs.Commits.{outside_undone}
use Rattle.hb_itemlaws.proofs.OwnItems.{unbegun_nothing}
use Rattle.hb_itemlaws.proofs.Splits.{goes_on, over}

-- ---- one line

-- a line that shows no number but its own decision's, and tells no outcome
pub record Tells (calls : List Call) (r : Reply) : Type 0 where
  pub number : MatchOption (number_of r) ⊤ (λ n. WasDecided n calls)
  pub outcome : (txns : List Txn) → TellsOutcome txns calls r

open_tells : (calls : List Call) (r : Reply) → IsTrue (leaves_open r || says_undone r) → Tells calls r
open_tells calls r = elim r as (λ x. IsTrue (leaves_open x || says_undone x) → Tells calls x) [
  | reply.Committed number ↦ λ e. absurd (false≢true e)
  | reply.Moved rows group number ↦ λ e. absurd (false≢true e)
  | reply.Complete number ↦ λ e. absurd (false≢true e)
  | reply.Suspended turns number ↦ λ e. absurd (false≢true e)
  | reply.ToldCommitted o number ↦ λ e. absurd (false≢true e)
  | reply.ToldRolledBack o ↦ λ e. absurd (false≢true e)
  | x ↦ λ e. record { number = tt; outcome = λ txns. tt }
]

commit_tells : (calls : List Call) (r : Reply) → CommitTells calls (Some r) → Tells calls r
commit_tells calls r = elim r as (λ x. CommitTells calls (Some x) → Tells calls x) [
  | reply.Committed number ↦ λ h. record { number = h; outcome = λ txns. tt }
  | reply.Moved rows group number ↦ λ h. absurd (false≢true h.1)
  | reply.Complete number ↦ λ h. absurd (false≢true h.1)
  | reply.Suspended turns number ↦ λ h. absurd (false≢true h.1)
  | reply.ToldCommitted o number ↦ λ h. absurd (false≢true h.1)
  | reply.ToldRolledBack o ↦ λ h. absurd (false≢true h.1)
  | x ↦ λ h. record { number = tt; outcome = λ txns. tt }
]

pub outside_tells : (calls : List Call) (r : Reply) → IsTrue (is_outside r) → Tells calls r
outside_tells calls r outside = open_tells calls r (second (leaves_open r) (says_undone r) (outside_undone r outside))
  where
    second : (a b : Bool) → b ≡ true → a || b ≡ true
    second true b e = refl
    second false b e = e

statement_tells : (st : Statement) (calls : List Call) (r : Reply) → IsBoundStatement st calls (r ∷ []) → Tells calls r
statement_tells statement.Commit calls r b = commit_tells calls r b.1
statement_tells _ calls r b = open_tells calls r b.2.0.replied

-- ---- items

-- an item with this line alone
pub line_tells : (place : ℕ) (doing : Doing) (calls : List Call) (r : Reply) → Tells calls r → TellsOwn (record { place = place; doing = doing; calls = calls; lines = r ∷ [] })
line_tells place doing calls r t = record { numbers = (t.number, tt); outcomes = λ txns. (t.outcome txns, tt) }

item_tells : (i : Item) (st : Statement) (r : Reply) → i.doing ≡ sql st → i.lines ≡ r ∷ [] → IsBoundItem i → TellsOwn i
item_tells i st r does shows bound =
    let one : Item = record { place = i.place; doing = sql st; calls = i.calls; lines = r ∷ [] } in
    let same : i ≡ one = λ j. record { place = i.place; doing = does j; calls = i.calls; lines = shows j } in
    subst TellsOwn (sym same) (line_tells i.place (sql st) i.calls r (statement_tells st i.calls r (subst IsBoundItem same bound)))

pub items_tell : (works : List Given) (rs : List Reply) (items : List Item) → AreItemsOf works rs items → Each IsBoundItem items → Each TellsOwn items
items_tell works rs [] h b = tt
items_tell (w ∷ ws) (r ∷ rs) (i ∷ is) h b = (item_tells i w.1 r h.0.1 h.0.2 b.0, items_tell ws rs is h.1 b.1)
items_tell [] [] (i ∷ is) h b = absurd h
items_tell [] (r ∷ rs) (i ∷ is) h b = absurd h
items_tell (w ∷ ws) [] (i ∷ is) h b = absurd h

-- ---- what was not begun

outside_loose : (r : Reply) → IsTrue (is_outside r) → IsTrue (is_loose r || is_told r)
outside_loose r h = by (is_aside r) (is_outside r) (is_told r) h
  where
    by : (a b c : Bool) → b ≡ true → (a || b) || c ≡ true
    by true b c e = refl
    by false true c e = refl
    by false false c e = absurd (false≢true e)

are_loose : (calls : List Call) (replies : List Reply) (r : Reply) → replies ≡ r ∷ [] → IsTrue (is_outside r) → Each (λ c. tx_asked c.request ≡ None) calls → AreLoose calls replies
are_loose calls replies r alone outside none = record {
  reply = r;
  alone = alone;
  loose = λ place doing. record { asks_none = none; tells_none = (outside_loose r outside, tt) };
  tells = λ place doing. line_tells place doing calls r (outside_tells calls r outside);
}

pub unbegun_loose : UnbegunAreLoose
unbegun_loose back_ends owner w ws _ replies (asked {cs = cs} a i f) none =
    by a cs f none (unbegun_nothing back_ends owner w ws (call fes1 (request.Begin owner) a ∷ cs) replies (asked a i f) none)
  where
    by : (a : Answer) (cs : List Call) → Follows false (goes_on (transaction back_ends owner (statements (w ∷ ws))) a) cs replies → begins_of (call fes1 (request.Begin owner) a ∷ cs) ≡ []
        → Each (λ c. tx_asked c.request ≡ None) (call fes1 (request.Begin owner) a ∷ cs) → AreLoose (call fes1 (request.Begin owner) a ∷ cs) replies
    by (answer.Begun tx) cs f e asks = absurd (cc e)
    by a cs f e asks = are_loose (call fes1 (request.Begin owner) a ∷ cs) replies (refusal_of fes1 a) (over (refusal_of fes1 a ∷ []) replies cs f).1 (rejects fes1 a) asks
