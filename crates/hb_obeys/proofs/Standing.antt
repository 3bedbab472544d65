-- What a transaction's calls so far come to, for the callers' law.
use Rattle.std.proofs.Common.{◌≡◌, inl, inr, ◌⊎◌, ℕ, ◌+◌, ◌==◌, ◌≤◌, Bool, true, false, cond, List, [], ◌∷◌, ◌++◌, Option, Some, None, option_map, refl, ap, sym, subst, ◌∙◌, append_assoc, append-nil}
use Rattle.std.specs.Prelude.{IsTrue}
use Rattle.std.proofs.lemmas.Bool.{false≢true}
use Rattle.hb_types.specs.declared.answer.Answer.{Answer}
use Rattle.hb_types.specs.declared.answer.Answer.TheVariants as answer
use Rattle.hb_types.specs.declared.names.Number.{Number}
use Rattle.hb_types.specs.declared.names.Tx.{Tx}
use Rattle.hb_types.specs.declared.request.Request.{Request}
use Rattle.hb_types.specs.declared.request.Request.TheVariants as request
use Rattle.hb_types.specs.declared.request.Vote.{Vote}
use Rattle.hb_types.specs.declared.trail.Call.{Call}
use Rattle.hb_types.specs.Lists.{Has, IsIn}
use Rattle.hb_types.proofs.Ascending.{Has-front, Has-back}
use Rattle.hb_model.specs.Answers.{HasAsked, call, is_decide, is_undoing}
use Rattle.hb_model.specs.NodeSets.{has_node, with_node}
use Rattle.hb_talk.specs.Moves.{fresh}
use Rattle.hb_talk.specs.Talk.{Use, mgr}
use Rattle.hb_law.specs.Callers.{Current, adding, current, current_from, one_more, begun_count, is_begun, is_enlist, is_prepare, is_settled, AsksAt, HasAskedAt, vote_in, votes_in, WasDecided, MayBeDecided}
use Rattle.std.proofs.lemmas.Nat.Bits.{bit_at-zero}
use Rattle.hb_obeys.specs.Obeying.{IsOfSystem, is_begin}
use Rattle.hb_talk.proofs.Bits.{with_it, with_others, only_with}
use Rattle.hb_obeys.proofs.Members.{Has-last}

-- the nodes enlisted, those asked to prepare, the votes, what Decide was answered, and whether something was undone
pub record Standing : Type 0 where
  pub tx : ℕ
  pub used : ℕ
  pub prepared : List ℕ
  pub votes : List Vote
  pub decisions : List Answer
  pub undone : Bool

abbrev pub used_with : ℕ → Request → ℕ → ℕ
used_with node (request.Enlist tx) used = with_node used node
used_with node _ used = used

abbrev pub prepared_with : ℕ → Request → List ℕ → List ℕ
prepared_with node (request.Prepare tx) ns = ns ++ node ∷ []
prepared_with node _ ns = ns

abbrev pub votes_with : ℕ → Request → Answer → List Vote → List Vote
votes_with node (request.Prepare tx) (answer.Vote floor) votes = votes ++ record { node = record { 0 = node }; floor = floor } ∷ []
votes_with node _ _ votes = votes

abbrev pub decisions_with : Request → Answer → List Answer → List Answer
decisions_with (request.Decide tx votes) a as_so_far = a ∷ as_so_far
decisions_with _ a as_so_far = as_so_far

abbrev pub undone_with : Request → Bool → Bool
undone_with (request.Abort tx) b = true
undone_with (request.Rollback tx) b = true
undone_with _ b = b

-- one call further
abbrev pub with_call : ℕ → Request → Answer → Standing → Standing
with_call node q a s = record {
  tx = s.tx;
  used = used_with node q s.used;
  prepared = prepared_with node q s.prepared;
  votes = votes_with node q a s.votes;
  decisions = decisions_with q a s.decisions;
  undone = undone_with q s.undone;
}

-- between two statements, and in them
abbrev pub working : Use → Standing
working u = record { tx = u.tx; used = u.used; prepared = []; votes = []; decisions = []; undone = false }

-- the calls of the transaction come to this
pub record Tells (s : Standing) (calls : List Call) : Type 0 where
  pub enlisted : (n : ℕ) → HasAskedAt is_enlist n calls → (n ≤ mgr) × (has_node s.used n ≡ true)
  pub used : (n : ℕ) → has_node s.used n ≡ true → HasAskedAt is_enlist n calls
  pub prepared : (n : ℕ) → HasAskedAt is_prepare n calls → IsIn n s.prepared
  pub votes : votes_in calls ≡ s.votes
  pub asked : HasAsked is_decide calls → Has (λ (a : Answer). Unit {0}) s.decisions
  pub may_be : MayBeDecided calls → Has (λ a. IsTrue (is_settled a)) s.decisions
  pub was : (n : Number) → Has (λ a. a ≡ answer.Decided n) s.decisions → WasDecided n.0 calls
  pub undone : HasAsked is_undoing calls → s.undone ≡ true

-- the transaction that was begun last among these calls stands so
pub record Stands (s : Standing) (front : List Call) : Type 0 where
  pub calls : List Call
  pub current : current front ≡ Some (record { tx = s.tx; calls = calls })
  pub tells : Tells s calls

-- ---- nothing yet

pub nothing_yet : (tx : ℕ) → Tells (working (fresh tx)) []
nothing_yet tx = record {
  enlisted = λ n h. absurd h;
  used = λ n h. absurd (false≢true (sym (none n) ∙ h));
  prepared = λ n h. absurd h;
  votes = refl;
  asked = λ h. h;
  may_be = λ h. h;
  was = λ n h. absurd h;
  undone = λ h. absurd h;
}
  where
    none : (n : ℕ) → has_node 0 n ≡ false
    none n = ap (λ k. k == 1) (bit_at-zero n)

-- ---- what a call adds

used_more : (node : ℕ) (q : Request) (used n : ℕ) → has_node used n ≡ true → has_node (used_with node q used) n ≡ true
used_more node (request.Enlist tx) used n h = with_others used node n h
used_more node _ used n h = h

used_it : (node : ℕ) (q : Request) (used : ℕ) → IsTrue (is_enlist q) → has_node (used_with node q used) node ≡ true
used_it node (request.Enlist tx) used is = with_it used node
used_it node _ used is = absurd (false≢true is)

used_only : (node : ℕ) (q : Request) (used n : ℕ) → has_node (used_with node q used) n ≡ true → (has_node used n ≡ true) ⊎ ((node ≡ n) × IsTrue (is_enlist q))
used_only node (request.Enlist tx) used n h = elim (only_with used node n h) [ inl e ↦ inr (sym e, refl) | inr b ↦ inl b ]
used_only node _ used n h = inl h

prepared_more : (node : ℕ) (q : Request) (ns : List ℕ) (n : ℕ) → IsIn n ns → IsIn n (prepared_with node q ns)
prepared_more node (request.Prepare tx) ns n h = Has-front (λ m. m ≡ n) ns (node ∷ []) h
prepared_more node _ ns n h = h

prepared_it : (node : ℕ) (q : Request) (ns : List ℕ) → IsTrue (is_prepare q) → IsIn node (prepared_with node q ns)
prepared_it node (request.Prepare tx) ns is = Has-back (λ m. m ≡ node) ns (node ∷ []) (inl refl)
prepared_it node _ ns is = absurd (false≢true is)

votes_more : (node : ℕ) (q : Request) (a : Answer) (votes : List Vote) → votes ++ (vote_in node q a ++ []) ≡ votes_with node q a votes
votes_more node (request.Prepare tx) (answer.Vote floor) votes = refl
votes_more node (request.Prepare tx) _ votes = append-nil votes
votes_more node _ a votes = append-nil votes

votes-last : (calls : List Call) (c : Call) → votes_in (calls ++ c ∷ []) ≡ votes_in calls ++ (vote_in c.node.0 c.request c.answer ++ [])
votes-last [] c = refl
votes-last (d ∷ calls) c =
    ap (λ vs. vote_in d.node.0 d.request d.answer ++ vs) (votes-last calls c)
    ∙ sym (append_assoc (vote_in d.node.0 d.request d.answer) (votes_in calls) (vote_in c.node.0 c.request c.answer ++ []))

decisions_more : (P : Answer → Type 0) (q : Request) (a : Answer) (ds : List Answer) → Has P ds → Has P (decisions_with q a ds)
decisions_more P (request.Decide tx votes) a ds h = inr h
decisions_more P _ a ds h = h

decisions_it : (P : Answer → Type 0) (q : Request) (a : Answer) (ds : List Answer) → IsTrue (is_decide q) → P a → Has P (decisions_with q a ds)
decisions_it P (request.Decide tx votes) a ds is p = inl p
decisions_it P _ a ds is p = absurd (false≢true is)

decisions_only : (P : Answer → Type 0) (q : Request) (a : Answer) (ds : List Answer) → Has P (decisions_with q a ds) → Has P ds ⊎ (IsTrue (is_decide q) × P a)
decisions_only P (request.Decide tx votes) a ds (inl p) = inr (refl, p)
decisions_only P (request.Decide tx votes) a ds (inr h) = inl h
decisions_only P _ a ds h = inl h

undone_more : (q : Request) (b : Bool) → b ≡ true → undone_with q b ≡ true
undone_more (request.Abort tx) b h = refl
undone_more (request.Rollback tx) b h = refl
undone_more _ b h = h

undone_it : (q : Request) (b : Bool) → IsTrue (is_undoing q) → undone_with q b ≡ true
undone_it (request.Abort tx) b is = refl
undone_it (request.Rollback tx) b is = refl
undone_it _ b is = absurd (false≢true is)

decided_by : (n : Number) (c : Call) → IsTrue (is_decide c.request) → c.answer ≡ answer.Decided n → WasDecided n.0 (c ∷ [])
decided_by n c is e = subst (λ a. WasDecided n.0 (record { node = c.node; request = c.request; answer = a } ∷ [])) (sym e) (inl (is, refl))

-- ---- one call further

tells_more : (s : Standing) (calls : List Call) (node : ℕ) (q : Request) (a : Answer) → node ≤ mgr → Tells s calls
    → Tells (with_call node q a s) (calls ++ call node q a ∷ [])
tells_more s calls node q a here t = record {
  enlisted = λ n h. elim (Has-last (AsksAt is_enlist n) calls c h) [
    | inl old ↦ ((t.enlisted n old).0, used_more node q s.used n (t.enlisted n old).1)
    | inr now ↦ (subst (λ k. k ≤ mgr) now.0 here, subst (λ k. has_node (used_with node q s.used) k ≡ true) now.0 (used_it node q s.used now.1))
  ];
  used = λ n h. elim (used_only node q s.used n h) [
    | inl old ↦ Has-front (AsksAt is_enlist n) calls (c ∷ []) (t.used n old)
    | inr now ↦ Has-back (AsksAt is_enlist n) calls (c ∷ []) (inl now)
  ];
  prepared = λ n h. elim (Has-last (AsksAt is_prepare n) calls c h) [
    | inl old ↦ prepared_more node q s.prepared n (t.prepared n old)
    | inr now ↦ subst (λ k. IsIn k (prepared_with node q s.prepared)) now.0 (prepared_it node q s.prepared now.1)
  ];
  votes = votes-last calls c ∙ ap (λ vs. vs ++ (vote_in node q a ++ [])) t.votes ∙ votes_more node q a s.votes;
  asked = λ h. elim (Has-last (λ d. IsTrue (is_decide d.request)) calls c h) [
    | inl old ↦ decisions_more (λ x. Unit {0}) q a s.decisions (t.asked old)
    | inr now ↦ decisions_it (λ x. Unit {0}) q a s.decisions now tt
  ];
  may_be = λ h. elim (Has-last (λ d. IsTrue (is_decide d.request) × IsTrue (is_settled d.answer)) calls c h) [
    | inl old ↦ decisions_more (λ x. IsTrue (is_settled x)) q a s.decisions (t.may_be old)
    | inr now ↦ decisions_it (λ x. IsTrue (is_settled x)) q a s.decisions now.0 now.1
  ];
  was = λ n h. elim (decisions_only (λ x. x ≡ answer.Decided n) q a s.decisions h) [
    | inl old ↦ Has-front _ calls (c ∷ []) (t.was n old)
    | inr now ↦ Has-back _ calls (c ∷ []) (decided_by n c now.0 now.1)
  ];
  undone = λ h. elim (Has-last (λ d. IsTrue (is_undoing d.request)) calls c h) [
    | inl old ↦ undone_more q s.undone (t.undone old)
    | inr now ↦ undone_it q s.undone now
  ];
}
  where
    c : Call
    c = call node q a

current-last : (o : Option Current) (front : List Call) (c : Call) → current_from o (front ++ c ∷ []) ≡ one_more c c.answer (current_from o front)
current-last o [] c = refl
current-last o (d ∷ front) c = current-last (one_more d d.answer o) front c

not_begun : (c : Call) (a : Answer) (o : Option Current) → (IsTrue (is_begun a) → ⊥) → one_more c a o ≡ adding c o
not_begun c (answer.Begun tx) o n = absurd (n refl)
not_begun c _ o n = refl

-- one call further, where no transaction begun
stands_more : (s : Standing) (front : List Call) (node : ℕ) (q : Request) (a : Answer) → (IsTrue (is_begun a) → ⊥) → node ≤ mgr → Stands s front
    → Stands (with_call node q a s) (front ++ call node q a ∷ [])
stands_more s front node q a none here st = record {
  calls = st.calls ++ call node q a ∷ [];
  current = current-last None front (call node q a) ∙ not_begun (call node q a) a (current front) none ∙ ap (λ o. adding (call node q a) o) st.current;
  tells = tells_more s st.calls node q a here st.tells;
}

-- where one begun
stands_begun : (front : List Call) (node : ℕ) (q : Request) (tx : Tx) → Stands (working (fresh tx.0)) (front ++ call node q (answer.Begun tx) ∷ [])
stands_begun front node q tx = record {
  calls = [];
  current = current-last None front (call node q (answer.Begun tx));
  tells = nothing_yet tx.0;
}

-- ---- how many transactions begun, and how the last one stands

pub record Moment : Type 0 where
  pub begun : ℕ
  pub open_as : Option Standing

abbrev pub begun_with : Request → Answer → ℕ → ℕ
begun_with (request.Begin owner) (answer.Begun tx) n = n + 1
begun_with _ a n = n

abbrev pub open_with : ℕ → Request → Answer → Option Standing → Option Standing
open_with node (request.Begin owner) (answer.Begun tx) o = Some (working (fresh tx.0))
open_with node q a o = option_map (with_call node q a) o

-- one call further
abbrev pub behind : ℕ → Request → Answer → Moment → Moment
behind node q a m = record { begun = begun_with q a m.begun; open_as = open_with node q a m.open_as }

abbrev pub OpenAs : Option Standing → List Call → Type 0
OpenAs None front = Unit {0}
OpenAs (Some s) front = Stands s front

-- the calls come to this moment
pub record Reaches (m : Moment) (front : List Call) : Type 0 where
  pub begun : begun_count front ≡ m.begun
  pub stands : OpenAs m.open_as front

-- a transaction is open, and this many begun
abbrev pub inside : ℕ → Standing → Moment
inside n s = record { begun = n; open_as = Some s }

pub begun-last : (front : List Call) (c : Call) → begun_count (front ++ c ∷ []) ≡ cond (is_begun c.answer) (begun_count front + 1) (begun_count front)
begun-last [] c = refl
begun-last (d ∷ front) c = by (is_begun d.answer) (is_begun c.answer) (begun-last front c)
  where
    by : (b e : Bool) → begun_count (front ++ c ∷ []) ≡ cond e (begun_count front + 1) (begun_count front)
        → cond b (begun_count (front ++ c ∷ []) + 1) (begun_count (front ++ c ∷ [])) ≡ cond e (cond b (begun_count front + 1) (begun_count front) + 1) (cond b (begun_count front + 1) (begun_count front))
    by true true h = ap (λ n. n + 1) h
    by true false h = ap (λ n. n + 1) h
    by false true h = h
    by false false h = h

begun_more : (q : Request) (a : Answer) (n : ℕ) → (IsTrue (is_begun a) → IsTrue (is_begin q)) → cond (is_begun a) (n + 1) n ≡ begun_with q a n
begun_more (request.Begin owner) (answer.Begun tx) n h = refl
begun_more (request.Begin owner) _ n h = refl
begun_more _ (answer.Begun tx) n h = absurd (false≢true (h refl))
begun_more _ _ n h = refl

stays_open : (front : List Call) (node : ℕ) (q : Request) (a : Answer) (o : Option Standing) → (IsTrue (is_begun a) → ⊥) → node ≤ mgr → OpenAs o front
    → OpenAs (option_map (with_call node q a) o) (front ++ call node q a ∷ [])
stays_open front node q a None none here st = tt
stays_open front node q a (Some s) none here st = stands_more s front node q a none here st

open_more : (front : List Call) (node : ℕ) (q : Request) (a : Answer) (o : Option Standing) → (IsTrue (is_begun a) → IsTrue (is_begin q)) → node ≤ mgr → OpenAs o front
    → OpenAs (open_with node q a o) (front ++ call node q a ∷ [])
open_more front node (request.Begin owner) (answer.Begun tx) o h here st = stands_begun front node (request.Begin owner) tx
open_more front node (request.Begin owner) _ o h here st = stays_open front node (request.Begin owner) _ o (λ e. false≢true e) here st
open_more front node q a o h here st = stays_open front node q a o (λ e. false≢true (h e)) here st

pub reaches_more : (m : Moment) (front : List Call) (node : ℕ) (q : Request) (a : Answer) → IsOfSystem (call node q a) → Reaches m front
    → Reaches (behind node q a m) (front ++ call node q a ∷ [])
reaches_more m front node q a sys r = record {
  begun = begun-last front (call node q a) ∙ ap (λ n. cond (is_begun a) (n + 1) n) r.begun ∙ begun_more q a m.begun sys.begins;
  stands = open_more front node q a m.open_as sys.begins sys.node r.stands;
}
