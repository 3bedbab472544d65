-- A refusal of a plan: it leaves the transaction as it is, or rolls it back.
use Rattle.std.proofs.Common.{◌≡◌, ◌⊎◌, Bool, true, false, Err, refl, ap, sym, ◌∙◌, subst, inl, inr}
use Rattle.hb_types.specs.Lists.{Each}
use Rattle.hb_model.specs.NodeSets.{has_node, nodes_in}
use Rattle.hb_model.specs.declared.reply.Reply.{Reply}
use Rattle.hb_model.specs.declared.reply.Reply.TheVariants as reply
use Rattle.hb_talk.specs.Sessions.{rolls_back}
use Rattle.hb_talk.specs.Talk.{Talk, says, Use}
use Rattle.hb_access.specs.Accesses.{keeps_nodes, use_of}
use Rattle.hb_access.specs.declared.usage.Usage.{Usage}
use Rattle.hb_plan.specs.Planned.{Said}
use Rattle.hb_wait.specs.Courses.{free}
use Rattle.hb_session.specs.declared.session.Progress.{Progress}
use Rattle.hb_session.specs.declared.session.Progress.TheVariants as progress
use Rattle.hb_session.specs.declared.stage.Stage.TheVariants as stage
use Rattle.hb_session.specs.Sitting.{Sitting, is_busy, is_ending, planned}
use Rattle.hb_session.specs.Steps.{CarriesOn, CarriesOnIf, Leads, Moves, RollsBack, RunsOut, SameSession}
use Rattle.hb_access.proofs.Nodes.{among, each_in, still}
use Rattle.hb_session.proofs.Moving.{moves_same, undone}

-- ---- what it comes to

refusal_rolls : (s new : Sitting) (u : Use) (r : Reply) → rolls_back r ≡ true → RollsBack u r new
    → Leads (λ sts. free (planned s sts (says (Err r, u)))) new progress.More
refusal_rolls s new u r is rolled = λ sts. rw is (sym (rolled sts))

refusal_open : (s : Sitting) (u : Usage) (r : Reply) → rolls_back r ≡ false
    → Leads (λ sts. free (planned s sts (says (Err r, use_of u)))) (record s { stage = stage.Open u }) (progress.Shown r)
refusal_open s u r is = λ sts. rw is refl

-- the transaction is rolled back at the nodes that it used
pub rolls_carried : (s new : Sitting) (u : Usage) (r : Reply) → rolls_back r ≡ true → SameSession s new → new.begun ≡ s.begun → is_busy new.stage ≡ true → RollsBack (use_of u) r new
    → is_ending new.stage ≡ true → CarriesOn (λ sts. free (planned s sts (says (Err r, use_of u)))) u s new progress.More
rolls_carried s new u r is same begun busy rolled ending = record {
  same = same;
  begun = begun;
  leaves = busy;
  edges = refl;
  goes = inl (refusal_rolls s new (use_of u) r is rolled);
  moves = inr (undone u u r new refl (each_in u.used.0) rolled ending);
}

-- the refusal is shown, and the transaction goes on
pub open_carried : (s : Sitting) (u : Usage) (r : Reply) → rolls_back r ≡ false
    → CarriesOn (λ sts. free (planned s sts (says (Err r, use_of u)))) u s (record s { stage = stage.Open u }) (progress.Shown r)
open_carried s u r is = record {
  same = record { index = refl; back_ends = refl };
  begun = refl;
  leaves = (refl, refl);
  edges = refl;
  goes = inl (refusal_open s u r is);
  moves = inl (refl, refl);
}

-- ---- behind a step of a plan

-- what became of a refusal, with what was used by then
pub record Refuses (s new : Sitting) (v : Usage) (r : Reply) (shows : Progress) : Type 0 where
  pub carries : CarriesOn (λ sts. free (planned s sts (says (Err r, use_of v)))) v s new shows
  pub more : rolls_back r ≡ true → shows ≡ progress.More
  pub leads : Leads (λ sts. free (planned s sts (says (Err r, use_of v)))) new shows
  pub rolled : rolls_back r ≡ true → RollsBack (use_of v) r new
  pub ending : rolls_back r ≡ true → is_ending new.stage ≡ true

-- a refusal for want of memory
runs_out : (s new : Sitting) (u v : Usage) (r : Reply) (shows : Progress) → v.tx.0 ≡ u.tx.0 → Each (λ n. has_node u.used.0 n ≡ true) (nodes_in v.used.0) → r ≡ reply.NoMemory
    → Refuses s new v r shows → RunsOut u.tx.0 u.used.0 new shows
runs_out s new u v r shows tx nodes none h =
    let rolls : rolls_back r ≡ true = ap rolls_back none in
    (use_of v, tx, nodes, subst (λ x. RollsBack (use_of v) x new) none (h.rolled rolls), h.more rolls)

-- told by the talk, or for want of memory
refusal_goes : (s new : Sitting) (t : Talk Said) (u v : Usage) (r : Reply) (shows : Progress) → v.tx.0 ≡ u.tx.0 → Each (λ n. has_node u.used.0 n ≡ true) (nodes_in v.used.0)
    → ((t ≡ says (Err r, use_of v)) ⊎ (r ≡ reply.NoMemory)) → Refuses s new v r shows → Leads (λ sts. free (planned s sts t)) new shows ⊎ RunsOut u.tx.0 u.used.0 new shows
refusal_goes s new t u v r shows tx nodes (inl told) h = inl (λ sts. ap (λ x. free (planned s sts x)) told ∙ h.leads sts)
refusal_goes s new t u v r shows tx nodes (inr none) h = inr (runs_out s new u v r shows tx nodes none h)

-- a node whose Enlist was refused is left out where it is rolled back
refusal_moves : (s new : Sitting) (u v : Usage) (r : Reply) (shows : Progress) → v.tx.0 ≡ u.tx.0 → keeps_nodes u.used.0 v.used.0 (rolls_back r) ≡ true
    → Refuses s new v r shows → (b : Bool) → rolls_back r ≡ b → Moves u new
refusal_moves s new u v r shows tx keeps h true is = inr (undone u v r new tx (among u.used.0 v.used.0 (rolls_back r) keeps) (h.rolled is) (h.ending is))
refusal_moves s new u v r shows tx keeps h false is = moves_same u v new (tx, still u.used.0 v.used.0 (rolls_back r) is keeps) h.carries.moves

pub refused : (s new : Sitting) (t : Talk Said) (u v : Usage) (r : Reply) (shows : Progress) → v.tx.0 ≡ u.tx.0 → keeps_nodes u.used.0 v.used.0 (rolls_back r) ≡ true
    → ((t ≡ says (Err r, use_of v)) ⊎ (r ≡ reply.NoMemory)) → Refuses s new v r shows → CarriesOn (λ sts. free (planned s sts t)) u s new shows
refused s new t u v r shows tx keeps told h = record {
  same = h.carries.same;
  begun = h.carries.begun;
  leaves = h.carries.leaves;
  edges = h.carries.edges;
  goes = refusal_goes s new t u v r shows tx (among u.used.0 v.used.0 (rolls_back r) keeps) told h;
  moves = refusal_moves s new u v r shows tx keeps h (rolls_back r) refl;
}

-- the same, where something was told
pub refused_if : (T : Type 0) (s new : Sitting) (t : Talk Said) (u v : Usage) (r : Reply) (shows : Progress) → v.tx.0 ≡ u.tx.0 → keeps_nodes u.used.0 v.used.0 (rolls_back r) ≡ true
    → (T → (t ≡ says (Err r, use_of v)) ⊎ (r ≡ reply.NoMemory)) → Refuses s new v r shows → CarriesOnIf T (λ sts. free (planned s sts t)) u s new shows
refused_if T s new t u v r shows tx keeps told h = record {
  same = h.carries.same;
  begun = h.carries.begun;
  leaves = h.carries.leaves;
  edges = h.carries.edges;
  goes = λ x. refusal_goes s new t u v r shows tx (among u.used.0 v.used.0 (rolls_back r) keeps) (told x) h;
  moves = refusal_moves s new u v r shows tx keeps h (rolls_back r) refl;
}
