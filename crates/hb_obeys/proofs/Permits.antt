-- What a transaction that stands so may ask.
use Rattle.std.proofs.Common.{◌≡◌, ℕ, ◌≤◌, true, false, List, [], Option, refl, sym, subst, ◌∙◌, MatchOption}
use Rattle.std.specs.Prelude.{IsTrue}
use Rattle.std.proofs.lemmas.Bool.{false≢true}
use Rattle.hb_types.specs.declared.answer.Answer.{Answer}
use Rattle.hb_types.specs.declared.answer.Answer.TheVariants as answer
use Rattle.hb_types.specs.declared.names.Number.{Number}
use Rattle.hb_types.specs.declared.request.Vote.{Vote}
use Rattle.hb_types.specs.declared.trail.Call.{Call}
use Rattle.hb_types.specs.Lists.{Has, IsIn}
use Rattle.hb_types.proofs.Ascending.{Each-in}
use Rattle.hb_model.specs.Answers.{HasAsked, is_decide}
use Rattle.hb_model.specs.NodeSets.{has_node}
use Rattle.hb_talk.specs.Talk.{mgr}
use Rattle.hb_law.specs.Callers.{Asks, Current, IsOpen, MayCommit, MayDecide, MayEnlist, MayUndo, MayBeDecided, Own, is_enlist, is_settled, votes_in}
use Rattle.hb_obeys.proofs.Members.{Has-in}
use Rattle.hb_obeys.proofs.Standing.{Standing, Stands, Tells}

-- nothing was decided or undone
pub record IsEarly (s : Standing) : Type 0 where
  pub undecided : s.decisions ≡ []
  pub not_undone : s.undone ≡ false

-- no decision stands or may stand
abbrev pub IsOff : Standing → Type 0
IsOff s = Has (λ a. IsTrue (is_settled a)) s.decisions → ⊥

module _ (s : Standing) where
  own : (front : List Call) (P : List Call → Type 0) → Stands s front → ((calls : List Call) → Tells s calls → P calls) → Own s.tx front P
  own front P st k = subst (λ (o : Option Current). MatchOption o ⊥ (λ n. (n.tx ≡ s.tx) × P n.calls)) (sym st.current) (refl, k st.calls st.tells)

  not_decided : IsEarly s → (calls : List Call) → Tells s calls → HasAsked is_decide calls → ⊥
  not_decided early calls t h = subst (λ ds. Has (λ (a : Answer). Unit {0}) ds → ⊥) (sym early.undecided) (λ x. x) (t.asked h)

  pub may_enlist : (front : List Call) (node : ℕ) → IsEarly s → has_node s.used node ≡ false → Stands s front → Own s.tx front (MayEnlist node)
  may_enlist front node early free st = own front (MayEnlist node) st (λ calls t. record {
    once = λ h. false≢true (sym free ∙ (t.enlisted node h).1);
    undecided = not_decided early calls t;
    not_undone = λ h. false≢true (sym early.not_undone ∙ t.undone h);
  })

  pub may_ask : (front : List Call) (node : ℕ) → IsEarly s → has_node s.used node ≡ true → (IsIn node s.prepared → ⊥) → Stands s front → Own s.tx front (IsOpen node)
  may_ask front node early there unprepared st = own front (IsOpen node) st (λ calls t. record {
    enlisted = t.used node there;
    unprepared = λ h. unprepared (t.prepared node h);
    undecided = not_decided early calls t;
    not_undone = λ h. false≢true (sym early.not_undone ∙ t.undone h);
  })

  pub may_decide : (front : List Call) → IsEarly s → ((n : ℕ) → n ≤ mgr → has_node s.used n ≡ true → Has (λ (v : Vote). v.node.0 ≡ n) s.votes)
      → Stands s front → Own s.tx front (MayDecide s.votes)
  may_decide front early all st = own front (MayDecide s.votes) st (λ calls t. record {
    told = sym t.votes;
    all = Each-in (λ c. Asks is_enlist c → Has (λ (v : Vote). v.node.0 ≡ c.node.0) (votes_in calls)) calls (λ c i asks.
        let e = t.enlisted c.node.0 (Has-in (λ d. (d.node.0 ≡ c.node.0) × IsTrue (is_enlist d.request)) c calls i (refl, asks)) in
        subst (λ vs. Has (λ (v : Vote). v.node.0 ≡ c.node.0) vs) (sym t.votes) (all c.node.0 e.0 e.1));
    undecided = not_decided early calls t;
    not_undone = λ h. false≢true (sym early.not_undone ∙ t.undone h);
  })

  pub may_commit : (front : List Call) (node : ℕ) (n : Number) → has_node s.used node ≡ true → Has (λ a. a ≡ answer.Decided n) s.decisions → Stands s front
      → Own s.tx front (MayCommit node n.0)
  may_commit front node n there decided st = own front (MayCommit node n.0) st (λ calls t. (t.used node there, t.was n decided))

  pub may_undo : (front : List Call) (node : ℕ) → has_node s.used node ≡ true → IsOff s → Stands s front → Own s.tx front (MayUndo node)
  may_undo front node there off st = own front (MayUndo node) st (λ calls t. (t.used node there, λ h. off (t.may_be h)))

  pub may_abort : (front : List Call) → IsOff s → Stands s front → Own s.tx front (λ calls. ¬ (MayBeDecided calls))
  may_abort front off st = own front (λ calls. ¬ (MayBeDecided calls)) st (λ calls t h. off (t.may_be h))
