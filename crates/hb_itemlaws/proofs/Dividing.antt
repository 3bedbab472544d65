-- A transaction's calls are those of right items, from its Begin on.
use Rattle.std.proofs.Common.{◌≡◌, inr, ℕ, ◌≤◌, List, [], ◌∷◌, ◌++◌, Option, Err, Some, false, refl, subst, sym, ap, ◌∙◌, arith}
use Rattle.std.specs.Prelude.{IsTrue}
use Rattle.std.proofs.lemmas.List.{append-nil}
use Rattle.hb_types.specs.declared.answer.Answer.{Answer}
use Rattle.hb_types.specs.declared.answer.Answer.TheVariants as answer
use Rattle.hb_types.specs.Lists.{Each}
use Rattle.hb_model.specs.Plain.{is_plain}
use Rattle.std.specs.Prelude.{◌≢◌}
use Rattle.hb_types.specs.declared.names.Owner.{Owner}
use Rattle.hb_types.specs.declared.names.Tx.{Tx}
use Rattle.hb_types.specs.declared.request.Request.TheVariants as request
use Rattle.hb_types.specs.declared.trail.Call.{Call}
use Rattle.hb_model.specs.declared.reply.Reply.{Reply}
use Rattle.hb_model.specs.declared.statement.Statement.{Statement}
use Rattle.hb_model.specs.declared.statement.Statement.TheVariants as statement
use Rattle.hb_model.specs.Answers.{call, is_undoing}
use Rattle.hb_model.specs.Outside.{says_undone}
use Rattle.hb_model.specs.Items.{nothing_spent}
use Rattle.hb_talk.specs.Ends.{fes1, rolling_back}
use Rattle.hb_talk.specs.Moves.{fresh}
use Rattle.hb_talk.specs.PlansDefine.{plan}
use Rattle.hb_talk.specs.Sessions.{begun_with, going, transaction}
use Rattle.hb_talk.specs.Talk.{Talk, says, asks, Begins, Follows, ends, asked, going_on, Use, mgr, refusal_of}
use Rattle.hb_plancalc.specs.Counted.{IsWithin}
use Rattle.hb_plancalc.proofs.Steps.{rejects}
use Rattle.hb_planlaws.specs.Planned.{most_back_ends}
use Rattle.hb_faithful.specs.Planned.{AreBeside, Closes, Opens}
use Rattle.hb_faithful.proofs.Faithfuls.{given_up_faithful}
use Rattle.hb_faithful.proofs.Rolling.{rolling_closes}
use Rattle.hb_law.specs.Transactions.{IsRightStatement, begins_of}
use Rattle.hb_itemlaws.specs.Dividing.{Divided, Given, TransactionsAreRight, statements}
use Rattle.hb_itemlaws.proofs.Commits.{asked_behind, bare_beside, off, outside_undone, tells_decision, tells_off}
use Rattle.hb_itemlaws.specs.Owning.{NoBegin}
use Rattle.hb_itemlaws.proofs.Ends.{undone_ends}
use Rattle.hb_itemlaws.proofs.Goings.{Items, all_right, only, outside_fits}
use Rattle.hb_itemlaws.proofs.Owned.{end_unbegun, going_unbegun, unbegun_followed}
use Rattle.hb_itemlaws.proofs.Splits.{goes_on, over, split}

-- a talk comes to an end, if every node is down
pub ends_somehow : {A : Type 0} (t : Talk A) → Begins t []
ends_somehow (says r) = ([], r, ends)
ends_somehow (asks node q k) = let more = ends_somehow (k answer.Down) in (call node q answer.Down ∷ more.0, more.1, asked answer.Down refl more.2)

bare : (node : ℕ) (a : Answer) → tells_decision (refusal_of node a) ≡ false
bare node answer.Down = refl
bare node (answer.Fault area) = refl
bare node (answer.Cycle edges) = refl
bare node answer.NumbersSpent = refl
bare node answer.NoMemory = refl
bare node _ = refl

pub fresh_within : (tx : ℕ) → IsWithin (fresh tx)
fresh_within tx = record { locks = omega arith; bytes = omega arith }

-- a transaction that could not be entered
unentered : (back_ends : ℕ) (st : Statement) (u : Use) (front back : List Call) (a : Answer) → Opens front → Closes back (refusal_of mgr a) → IsWithin u
    → IsRightStatement back_ends nothing_spent st (front ++ back) (Some (refusal_of mgr a))
unentered back_ends statement.Commit u front back a opens closes within =
    let whole : AreBeside (front ++ back) = both front opens.beside in
    let says : IsTrue (says_undone (refusal_of mgr a)) = outside_undone (refusal_of mgr a) (rejects mgr a) in (
      bare_beside (front ++ back) whole,
      tells_off (front ++ back) (refusal_of mgr a) (bare mgr a) (off (front ++ back) whole) says (asked_behind is_undoing front back (closes.undone says)),
    )
  where
    both : (xs : List Call) → AreBeside xs → AreBeside (xs ++ back)
    both [] b = closes.beside
    both (x ∷ xs) b = (b.0, both xs b.1)
unentered back_ends st u front back a opens closes within = (
  false,
  given_up_faithful st back_ends u (front ++ back) (refusal_of mgr a) nothing_spent within
      (record { front = front; asked = []; back = back; parts = refl; begins = ends_somehow (plan back_ends st u); opens = opens; closes = closes }) (rejects mgr a),
)

-- a transaction that was begun: its calls, from its Begin on, and its items
pub record BegunItems (back_ends : ℕ) (owner : Owner) (works : List Given) (calls : List Call) (replies : List Reply) : Type 0 where
  pub tx : Tx
  pub more : List Call
  pub whole : calls ≡ call fes1 (request.Begin owner) (answer.Begun tx) ∷ more
  pub no_begin : NoBegin more
  pub items : Items back_ends (Some tx.0) works nothing_spent calls replies

module _ (back_ends : ℕ) (owner : Owner) (w : Given) (ws : List Given) (few : back_ends ≤ most_back_ends) where
  -- what is asked and said of a transaction
  abbrev pub whole_talk : Talk (List Reply)
  whole_talk = transaction back_ends owner (statements (w ∷ ws))

  abbrev begin : Tx → Call
  begin tx = call fes1 (request.Begin owner) (answer.Begun tx)

  abbrev enter : Tx → Answer → Call
  enter tx b = call mgr (request.Enter tx owner) b

  begin_opens : (tx : Tx) → Opens (begin tx ∷ [])
  begin_opens tx = record { beside = (refl, tt); no_rows = refl; undoes_none = (refl, tt) }

  refused : (tx : Tx) (b : Answer) (cs : List Call) (replies : List Reply)
      → Follows false (going_on (λ r. begun_with back_ends owner (statements (w ∷ ws)) (Err r)) (rolling_back (fresh tx.0) 0 (refusal_of mgr b))) cs replies
      → BegunItems back_ends owner (w ∷ ws) (begin tx ∷ enter tx b ∷ cs) replies
  refused tx b cs replies f =
      let r : Reply = refusal_of mgr b in
      let s = split (λ z. says (z ∷ [])) (rolling_back (fresh tx.0) 0 r) cs replies f in
      let done = over (s.value ∷ []) replies s.back s.rest in
      let rolls = rolling_closes (fresh tx.0) 0 r s.value s.front s.first in
      let same : s.front ≡ cs = sym (append-nil s.front) ∙ ap (λ zs. s.front ++ zs) (sym done.0) ∙ sym s.parts in
      let closes : Closes cs r = subst (λ zs. Closes zs r) same rolls.1 in
      let t : Talk (List Reply) = going_on (λ z. says (z ∷ [])) (rolling_back (fresh tx.0) 0 r) in
      record {
        tx = tx;
        more = enter tx b ∷ cs;
        whole = refl;
        no_begin = (refl, unbegun_followed false t cs replies f (end_unbegun t (undone_ends (fresh tx.0) r)));
        items = subst (Items back_ends (Some tx.0) (w ∷ ws) nothing_spent (begin tx ∷ enter tx b ∷ cs)) (ap (λ z. z ∷ []) (sym rolls.0) ∙ sym done.1)
            (only back_ends (Some tx.0) w ws nothing_spent (begin tx ∷ enter tx b ∷ cs) r
            (unentered back_ends w.1 (fresh tx.0) (begin tx ∷ []) (enter tx b ∷ cs) b (begin_opens tx) (record { beside = (refl, closes.beside); undone = λ h. inr (closes.undone h) }) (fresh_within tx.0))
            (λ h. outside_fits w.1 r (rejects mgr b)));
      }

  module _ (plain : Each (λ x. IsTrue (is_plain x.1)) (w ∷ ws)) where
    by_enter : (tx : Tx) (b : Answer) (cs : List Call) (replies : List Reply) → Follows false (goes_on (goes_on whole_talk (answer.Begun tx)) b) cs replies
        → BegunItems back_ends owner (w ∷ ws) (begin tx ∷ enter tx b ∷ cs) replies
    by_enter tx answer.Done cs replies f = record {
      tx = tx;
      more = enter tx answer.Done ∷ cs;
      whole = refl;
      no_begin = (refl, unbegun_followed false (going back_ends owner (statements (w ∷ ws)) (fresh tx.0)) cs replies f (going_unbegun back_ends owner (statements (w ∷ ws)) (fresh tx.0)));
      items = all_right back_ends owner few tx.0 (w ∷ ws) (fresh tx.0) (begin tx ∷ enter tx answer.Done ∷ []) cs replies refl (record { beside = (refl, (refl, tt)); no_rows = refl; undoes_none = (refl, (refl, tt)) })
          (fresh_within tx.0) plain f;
    }
    by_enter tx b cs replies f = refused tx b cs replies f

    pub by_begin : (a : Answer) (cs : List Call) (replies : List Reply) → Follows false (goes_on whole_talk a) cs replies
        → begins_of (call fes1 (request.Begin owner) a ∷ cs) ≢ [] → BegunItems back_ends owner (w ∷ ws) (call fes1 (request.Begin owner) a ∷ cs) replies
    by_begin (answer.Begun tx) _ replies (asked {cs = cs} b j g) begun = by_enter tx b cs replies g
    by_begin a cs replies f begun = absurd (begun (ap begins_of (over (refusal_of fes1 a ∷ []) replies cs f).0))

-- a transaction that was begun has items
pub begun_items : (back_ends : ℕ) (owner : Owner) (w : Given) (ws : List Given) (calls : List Call) (replies : List Reply) → back_ends ≤ most_back_ends → Each (λ x. IsTrue (is_plain x.1)) (w ∷ ws)
    → Follows false (transaction back_ends owner (statements (w ∷ ws))) calls replies → begins_of calls ≢ [] → BegunItems back_ends owner (w ∷ ws) calls replies
begun_items back_ends owner w ws _ replies few plain (asked {cs = cs} a i f) begun = by_begin back_ends owner w ws few plain a cs replies f begun

abbrev pub divided : (back_ends : ℕ) (whose : Option ℕ) (works : List Given) (calls : List Call) (replies : List Reply) → Items back_ends whose works nothing_spent calls replies → Divided back_ends works calls replies
divided back_ends whose works calls replies i = record { items = i.items; made_of = i.made_of; each = i.each; right = i.right; bound = i.bound }

pub transactions_right : TransactionsAreRight
transactions_right back_ends owner w ws calls replies few plain follows begun =
    let b = begun_items back_ends owner w ws calls replies few plain follows begun in divided back_ends (Some b.tx.0) (w ∷ ws) calls replies b.items
