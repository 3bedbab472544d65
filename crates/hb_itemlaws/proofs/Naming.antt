-- A transaction tells no unknown outcome but its own.
use Rattle.std.proofs.Common.{◌≡◌, ℕ, List, [], ◌∷◌, ◌++◌, Result, Ok, Err, Bool, true, false, refl, subst, sym}
use Rattle.std.specs.Prelude.{IsTrue, ◌≢◌, ◌&&◌, ◌||◌, if◌then◌else◌}
use Rattle.std.proofs.lemmas.Bool.{false≢true}
use Rattle.hb_types.specs.declared.answer.Answer.{Answer}
use Rattle.hb_types.specs.declared.answer.Answer.TheVariants as answer
use Rattle.hb_types.specs.declared.names.Number.{Number}
use Rattle.hb_types.specs.declared.names.Owner.{Owner}
use Rattle.hb_types.specs.declared.names.Tx.{Tx}
use Rattle.hb_types.specs.declared.request.Vote.{Vote}
use Rattle.hb_types.specs.declared.trail.Call.{Call}
use Rattle.hb_types.proofs.Ascending.{Each-append}
use Rattle.hb_model.specs.declared.reply.Reply.{Reply}
use Rattle.hb_model.specs.declared.reply.Reply.TheVariants as reply
use Rattle.hb_model.specs.declared.statement.Statement.{Statement}
use Rattle.hb_model.specs.declared.statement.Statement.TheVariants as statement
use Rattle.hb_model.specs.NodeSets.{has_node, nodes_in, with_node}
use Rattle.hb_model.specs.Outside.{is_outside, says_undone}
use Rattle.hb_talk.specs.Ends.{commits, committing, decided, end_refusal, fes1, is_done, is_unreached, rollbacks, rolling_back, voted, voting}
use Rattle.hb_talk.specs.Moves.{fresh}
use Rattle.hb_talk.specs.PlansDefine.{plan}
use Rattle.hb_talk.specs.Sessions.{after, begun_with, going, rolls_back, transaction, with_reply}
use Rattle.hb_talk.specs.Talk.{Use, going_on, mgr, refusal_of, says}
use Rattle.hb_plancalc.specs.Counted.{reply_in}
use Rattle.hb_plancalc.proofs.Steps.{rejects}
use Rattle.hb_faithful.proofs.Telling.{IsDue, plan_replies, tells_plan}
use Rattle.hb_faithful.proofs.Undone.{Ends, Says, said, says_bind, says_weaker}
use Rattle.hb_law.specs.Standing.{leaves_open}
use Rattle.hb_law.specs.Transactions.{NamesOwner}
use Rattle.hb_itemlaws.specs.Dividing.{Given}
use Rattle.hb_itemlaws.specs.GivingUp.{LeftOff, amid, behind, between}
use Rattle.hb_itemlaws.specs.Txns.{ClosedHadReplies, GivenUpNameOwner, NameOwner, TransactionsNameOwner}
use Rattle.hb_itemlaws.proofs.Commits.{end_undone, outside_undone}
use Rattle.hb_itemlaws.proofs.Owned.{going_commit, going_none, going_planned, going_rollback}
use Rattle.hb_itemlaws.proofs.Splits.{goes_on}

module _ (owner : Owner) where
  -- ---- replies

  -- an unknown outcome neither leaves a transaction open nor says that it was rolled back
  names : (r : Reply) → leaves_open r || says_undone r ≡ true → NamesOwner owner r
  names r = elim r as (λ x. leaves_open x || says_undone x ≡ true → NamesOwner owner x) [ reply.OutcomeUnknown o ↦ λ e. absurd (false≢true e) | x ↦ λ e. tt ]

  undone_names : (r : Reply) → IsTrue (says_undone r) → NamesOwner owner r
  undone_names r h = names r (second (leaves_open r) (says_undone r) h)
    where
      second : (a b : Bool) → b ≡ true → a || b ≡ true
      second true b e = refl
      second false b e = e

  outside_names : (r : Reply) → IsTrue (is_outside r) → NamesOwner owner r
  outside_names r h = undone_names r (outside_undone r h)

  due_names : (st : Statement) (r : Reply) (u : Use) → Ends (IsDue st) (Ok r, u) → NamesOwner owner r
  due_names st r u h = names r (open_first (leaves_open r) _ (says_undone r) h)
    where
      open_first : (a b c : Bool) → a && b ≡ true → a || c ≡ true
      open_first true b c e = refl
      open_first false b c e = absurd (false≢true e)

  frank_names : (st : Statement) (r : Reply) (u : Use) → Ends (IsDue st) (Err r, u) → NamesOwner owner r
  frank_names st r u h = names r (by (rolls_back r) (says_undone r) (leaves_open r) _ h)
    where
      by : (b u o n : Bool) → (if b then u else o) && n ≡ true → o || u ≡ true
      by true true true n e = refl
      by true true false n e = refl
      by true false o n e = absurd (false≢true e)
      by false u true n e = refl
      by false u false n e = absurd (false≢true e)

  -- ---- ends

  rollbacks_name : (u : Use) (prepared : ℕ) (nodes : List ℕ) (left : ℕ) (r : Reply) → NamesOwner owner r → Says (rollbacks u prepared nodes left r) (NamesOwner owner)
  rollbacks_name u prepared [] left r n = λ a. n
  rollbacks_name u prepared (x ∷ xs) left r n = λ a. rollbacks_name u prepared xs (if is_unreached a && has_node prepared x then with_node left x else left) r n

  rolling_names : (u : Use) (prepared : ℕ) (r : Reply) → NamesOwner owner r → Says (rolling_back u prepared r) (NamesOwner owner)
  rolling_names u prepared r n = λ a. rollbacks_name u prepared (nodes_in u.used) 0 r n

  commits_name : (u : Use) (number : Number) (nodes : List ℕ) (left : ℕ) (r : Reply) → NamesOwner owner r → Says (commits u number nodes left r) (NamesOwner owner)
  commits_name u number [] left r n = λ a. n
  commits_name u number (x ∷ xs) left r n = λ a. commits_name u number xs (if is_done a then left else with_node left x) r n

  decided_names : (u : Use) (a : Answer) → Says (decided owner u reply.Committed a) (NamesOwner owner)
  decided_names u (answer.Decided number) = commits_name u number (nodes_in u.used) 0 (reply.Committed number) tt
  decided_names u (answer.Fault area) = λ a. refl
  decided_names u a = rolling_names u u.used (end_refusal fes1 a) (undone_names (end_refusal fes1 a) (end_undone fes1 a))

  voting_names : (u : Use) (prepared : ℕ) (nodes : List ℕ) (votes : List Vote) → Says (voting owner u reply.Committed prepared nodes votes) (NamesOwner owner)
  voting_names u prepared [] votes = λ a. decided_names u a
  voting_names u prepared (n ∷ ns) votes = λ a. by a (λ more. voting_names u (with_node prepared n) ns more)
    where
      by : (a : Answer) → ((more : List Vote) → Says (voting owner u reply.Committed (with_node prepared n) ns more) (NamesOwner owner))
          → Says (voted u (with_node prepared n) n (λ vote. voting owner u reply.Committed (with_node prepared n) ns (votes ++ vote ∷ [])) a) (NamesOwner owner)
      by (answer.Vote floor) rest = rest (votes ++ record { node = record { 0 = n }; floor = floor } ∷ [])
      by a rest = rolling_names u (with_node prepared n) (end_refusal n a) (undone_names (end_refusal n a) (end_undone n a))

  -- ---- a transaction

  rolled_names : (u : Use) (r : Reply) → NamesOwner owner r → Says (going_on (λ s. says (s ∷ [])) (rolling_back u 0 r)) (NameOwner owner)
  rolled_names u r n =
      says_bind (rolling_back u 0 r) (λ s. says (s ∷ [])) (NameOwner owner)
      (says_weaker (rolling_back u 0 r) (NamesOwner owner) (λ s. Says (says (s ∷ [])) (NameOwner owner)) (λ s h. (h, tt)) (rolling_names u 0 r n))

  module _ (back_ends : ℕ) where
    shown_names : (sts : List Statement) (r : Reply) (v : Use) → NamesOwner owner r → Says (going back_ends owner sts v) (NameOwner owner) → Says (with_reply r (going back_ends owner sts v)) (NameOwner owner)
    shown_names sts r v n more =
        says_bind (going back_ends owner sts v) (λ rs. says (r ∷ rs)) (NameOwner owner)
        (says_weaker (going back_ends owner sts v) (NameOwner owner) (λ rs. Says (says (r ∷ rs)) (NameOwner owner)) (λ rs h. (n, h)) more)

    after_names : (st : Statement) (sts : List Statement) (o : Result Reply Reply) (v : Use) → Ends (IsDue st) (o, v) → Says (going back_ends owner sts v) (NameOwner owner)
        → Says (after (going back_ends owner sts) o v) (NameOwner owner)
    after_names st sts (Ok r) v h more = shown_names sts r v (due_names st r v h) more
    after_names st sts (Err r) v h more = by (rolls_back r)
      where
        by : (b : Bool) → Says (if b then going_on (λ s. says (s ∷ [])) (rolling_back v 0 r) else with_reply r (going back_ends owner sts v)) (NameOwner owner)
        by true = rolled_names v r (frank_names st r v h)
        by false = shown_names sts r v (frank_names st r v h) more

    going_names : (sts : List Statement) (u : Use) → Says (going back_ends owner sts u) (NameOwner owner)
    going_names [] u = subst (λ t. Says t (NameOwner owner)) (sym (going_none back_ends owner u)) tt
    going_names (statement.Commit ∷ sts) u =
        subst (λ t. Says t (NameOwner owner)) (sym (going_commit back_ends owner sts u))
        (says_bind (committing owner u reply.Committed) (λ s. says (s ∷ [])) (NameOwner owner)
        (says_weaker (committing owner u reply.Committed) (NamesOwner owner) (λ s. Says (says (s ∷ [])) (NameOwner owner)) (λ s h. (h, tt)) (voting_names u 0 (nodes_in u.used) [])))
    going_names (statement.Rollback ∷ sts) u = subst (λ t. Says t (NameOwner owner)) (sym (going_rollback back_ends owner sts u)) (rolled_names u reply.RolledBack tt)
    going_names (st ∷ sts) u =
        subst (λ t. Says t (NameOwner owner)) (sym (going_planned back_ends owner st sts u refl))
        (says_bind (plan back_ends st u) (λ p. after (going back_ends owner sts) p.0 p.1) (NameOwner owner)
        (says_weaker (plan back_ends st u) (Ends (IsDue st)) (λ p. Says (after (going back_ends owner sts) p.0 p.1) (NameOwner owner)) (λ p h. after_names st sts p.0 p.1 h (going_names sts p.1))
        ((tells_plan back_ends st refl).holds u)))

    refused_names : (sts : List Statement) (tx : Tx) (a : Answer)
        → Says (going_on (λ r. begun_with back_ends owner sts (Err r)) (rolling_back (fresh tx.0) 0 (refusal_of mgr a))) (NameOwner owner)
    refused_names sts tx a = rolled_names (fresh tx.0) (refusal_of mgr a) (outside_names (refusal_of mgr a) (rejects mgr a))

    whole_names : (sts : List Statement) → Says (transaction back_ends owner sts) (NameOwner owner)
    whole_names sts = begun
      where
        entered : (tx : Tx) (a : Answer) → Says (goes_on (goes_on (transaction back_ends owner sts) (answer.Begun tx)) a) (NameOwner owner)
        entered tx answer.Done = going_names sts (fresh tx.0)
        entered tx a = refused_names sts tx a

        begun : (a : Answer) → Says (goes_on (transaction back_ends owner sts) a) (NameOwner owner)
        begun (answer.Begun tx) = entered tx
        begun a = (outside_names (refusal_of fes1 a) (rejects fes1 a), tt)

pub transactions_name : TransactionsNameOwner
transactions_name back_ends owner sts calls replies f = said false (transaction back_ends owner sts) calls replies f (NameOwner owner) (whole_names owner back_ends sts)

-- ---- one that is given up

left_names : (back_ends : ℕ) (owner : Owner) (amidst : Bool) (works : List Given) (u : Use) (asked : List Call) (replies : List Reply) → LeftOff back_ends amidst works u asked replies → NameOwner owner replies
left_names back_ends owner amidst _ u asked _ (amid begins) = tt
left_names back_ends owner amidst _ u _ _ between = tt
left_names back_ends owner amidst _ u _ _ (behind {w} {ws} {v} {asked = xs} {calls = cs} {o} {replies = rs} planned follows stays left) =
    (names owner (reply_in o) (plan_replies w.1 planned back_ends u v xs o follows).0, left_names back_ends owner amidst ws v cs rs left)

pub given_up_name : GivenUpNameOwner
given_up_name back_ends amidst owner works calls replies why g =
    Each-append (NamesOwner owner) replies (why ∷ []) (left_names back_ends owner amidst works (fresh g.tx) g.asked replies g.left) (outside_names owner why g.outside, tt)

left_replies : (back_ends : ℕ) (w : Given) (ws : List Given) (u : Use) (asked : List Call) (replies : List Reply) → LeftOff back_ends false (w ∷ ws) u asked replies → replies ≢ []
left_replies back_ends _ _ u _ _ (behind planned follows stays left) e = absurd (cc e)

pub closed_had_replies : ClosedHadReplies
closed_had_replies back_ends w ws calls replies why g = left_replies back_ends w ws (fresh g.tx) g.asked replies g.left
