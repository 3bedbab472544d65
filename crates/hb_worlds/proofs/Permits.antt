-- What permits a caller's requests, read off its calls.
use Rattle.std.proofs.Common.{◌≡◌, ℕ, ◌==◌, Bool, true, false, List, [], ◌∷◌, ap, sym, ◌∙◌, inl, inr}
use Rattle.std.specs.Prelude.{not, ◌&&◌}
use Rattle.std.specs.List.{list_all}
use Rattle.std.proofs.lemmas.Bool.{and_parts, eq-eqb, false≢true}
use Rattle.hb_types.specs.declared.request.Request.{Request}
use Rattle.hb_types.specs.declared.request.Vote.{Vote}
use Rattle.hb_types.specs.declared.trail.Call.{Call}
use Rattle.hb_model.specs.Answers.{HasAsked, is_decide, is_undoing}
use Rattle.hb_law.specs.Callers.{AllVoted, HasAskedAt, IsOpen, MayDecide, MayEnlist, is_enlist, is_prepare, votes_in}

-- a call that neither decides nor undoes, and asks nothing of the kind at this node
abbrev pub keeps : (Request → Bool) → ℕ → Call → Bool
keeps test node c = not ((c.node.0 == node) && test c.request) && (not (is_decide c.request) && not (is_undoing c.request))

not_both : (a b : Bool) → a ≡ true → b ≡ true → not (a && b) ≡ true → ⊥
not_both true true e f h = false≢true h
not_both true false e f h = false≢true f
not_both false b e f h = false≢true e

not_this : (b : Bool) → b ≡ true → not b ≡ true → ⊥
not_this b e h = false≢true (sym (ap not e) ∙ h)

module _ (test : Request → Bool) (node : ℕ) where
  record Kept (c : Call) : Type 0 where
    asks_other : not ((c.node.0 == node) && test c.request) ≡ true
    decides_none : not (is_decide c.request) ≡ true
    undoes_none : not (is_undoing c.request) ≡ true

  kept : (c : Call) → keeps test node c ≡ true → Kept c
  kept c h =
      let a = and_parts (not ((c.node.0 == node) && test c.request)) (not (is_decide c.request) && not (is_undoing c.request)) h in
      let b = and_parts (not (is_decide c.request)) (not (is_undoing c.request)) a.1 in
      record { asks_other = a.0; decides_none = b.0; undoes_none = b.1 }

  parts : (c : Call) (cs : List Call) → list_all (keeps test node) (c ∷ cs) ≡ true → (keeps test node c ≡ true) × (list_all (keeps test node) cs ≡ true)
  parts c cs h = and_parts (keeps test node c) (list_all (keeps test node) cs) h

  none_there : (calls : List Call) → list_all (keeps test node) calls ≡ true → ¬ (HasAskedAt test node calls)
  none_there [] h asked = asked
  none_there (c ∷ cs) h (inl asked) =
      let k = kept c (parts c cs h).0 in not_both (c.node.0 == node) (test c.request) (eq-eqb c.node.0 node asked.0) asked.1 k.asks_other
  none_there (c ∷ cs) h (inr asked) = none_there cs (parts c cs h).1 asked

  undecided : (calls : List Call) → list_all (keeps test node) calls ≡ true → ¬ (HasAsked is_decide calls)
  undecided [] h asked = asked
  undecided (c ∷ cs) h (inl asked) = not_this (is_decide c.request) asked (kept c (parts c cs h).0).decides_none
  undecided (c ∷ cs) h (inr asked) = undecided cs (parts c cs h).1 asked

  not_undone : (calls : List Call) → list_all (keeps test node) calls ≡ true → ¬ (HasAsked is_undoing calls)
  not_undone [] h asked = asked
  not_undone (c ∷ cs) h (inl asked) = not_this (is_undoing c.request) asked (kept c (parts c cs h).0).undoes_none
  not_undone (c ∷ cs) h (inr asked) = not_undone cs (parts c cs h).1 asked

pub may_enlist_by : (node : ℕ) (calls : List Call) → list_all (keeps is_enlist node) calls ≡ true → MayEnlist node calls
may_enlist_by node calls h =
    record { once = none_there is_enlist node calls h; undecided = undecided is_enlist node calls h; not_undone = not_undone is_enlist node calls h }

pub open_by : (node : ℕ) (calls : List Call) → HasAskedAt is_enlist node calls → list_all (keeps is_prepare node) calls ≡ true → IsOpen node calls
open_by node calls enlisted h =
    record {
      enlisted = enlisted;
      unprepared = none_there is_prepare node calls h;
      undecided = undecided is_prepare node calls h;
      not_undone = not_undone is_prepare node calls h;
    }

pub may_decide_by : (votes : List Vote) (calls : List Call) → votes ≡ votes_in calls → AllVoted calls → list_all (keeps is_decide 0) calls ≡ true → MayDecide votes calls
may_decide_by votes calls told all h = record { told = told; all = all; undecided = undecided is_decide 0 calls h; not_undone = not_undone is_decide 0 calls h }
