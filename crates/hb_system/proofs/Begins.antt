-- One node is started, and the nodes before it have been.
use Rattle.std.proofs.Common.{◌≡◌, ◌⊎◌, inl, inr, ℕ, zero, suc, ◌+◌, ◌≤◌, ◌<◌, List, [], ◌∷◌, ◌++◌, length, get_or, set, sym, ap, subst, refl, ◌∙◌, arith}
use Rattle.std.proofs.lemmas.Bool.{false≢true}
use Rattle.std.proofs.lemmas.List.{get_or_default}
use Rattle.hb_edge.specs.Causes.{Rose}
use Rattle.hb_types.specs.declared.answer.Answer.{Answer}
use Rattle.hb_types.specs.declared.answer.Answer.TheVariants as answer
use Rattle.hb_types.specs.declared.request.Request.TheVariants as request
use Rattle.hb_types.specs.declared.names.Tx.{Tx}
use Rattle.hb_types.specs.declared.trail.TrailEntry.{TrailEntry}
use Rattle.hb_node.specs.Laws.{State, Enters, Images, asked_of, entry_of}
use Rattle.hb_node.specs.Lists.{asked}
use Rattle.hb_reach.specs.Told.{Meanings}
use Rattle.hb_system.specs.Disks.{HasFault}
use Rattle.hb_system.specs.Starting.{Starts, EachStarts}
use Rattle.hb_system.proofs.Zips.{got_set, got_below}

below_or_at : (k i : ℕ) → k < i + 1 → (k < i) ⊎ (k ≡ i)
below_or_at zero zero h = inr refl
below_or_at zero (suc i) h = inl (omega arith)
below_or_at (suc k) zero h = absurd (omega (arith, h))
below_or_at (suc k) (suc i) h = next (below_or_at k i (omega (arith, h)))
  where
    next : (k < i) ⊎ (k ≡ i) → (suc k < suc i) ⊎ (suc k ≡ suc i)
    next (inl lt) = inl (omega (arith, lt))
    next (inr e) = inr (ap (λ (n : ℕ). suc n) e)

pub fault_at : {N : Type 0} (faults : N → ℕ) (olds news : List N) (i : ℕ) (now d : N) → i < length olds → i < length news → get_or news i d ≡ get_or olds i d → Rose (faults (get_or news i d)) (faults now) → HasFault faults olds (set news i now)
fault_at {N} faults olds news i now d within long same rose = (
  i,
  within,
  λ e. subst (λ (x : N). Rose (faults (get_or olds i e)) (faults x)) (sym (got_set news i now e long))
      (subst (λ (x : N). Rose (faults x) (faults now)) (same ∙ get_or_default olds i d e within) rose),
)

module _ {N : Type 0} (m : Meanings N) where
  entered_once : (old new : List TrailEntry) (doubts : List Tx) (from to : ℕ) → Enters old new (entry_of request.Start (answer.Started doubts) from to) → old ≡ []
      → asked_of new ≡ asked request.Start (answer.Started doubts) ∷ []
  entered_once old new doubts from to (inl entered) none = ap (λ (l : List TrailEntry). asked_of l) (entered ∙ ap (λ (l : List TrailEntry). l ++ entry_of request.Start (answer.Started doubts) from to ∷ []) none)
  entered_once old new doubts from to (inr passed) none = absurd (false≢true passed.0)

  pub starts_by : (old new : N) (a : Answer) (doubts : List Tx) (from to : ℕ) → m.named new ≡ m.named old → a ≡ answer.Started doubts
      → Enters (m.trail old) (m.trail new) (entry_of request.Start a from to)
      → ((origin : State) → m.explains old origin (asked_of (m.trail old)) → m.last old ≤ from → m.explains new origin (asked_of (m.trail new)))
      → ((origin : State) → m.explains old origin (asked_of (m.trail old)) → m.last old ≤ from → Images origin (m.trail old) (m.trail new) (entry_of request.Start a from to) (m.leaves old) (m.leaves new))
      → (m.last old ≤ from → m.last new ≤ to)
      → Starts m from to old new
  starts_by old new a doubts from to named is entered law images late = record {
    named = named;
    asked_once = λ none. (doubts, entered_once (m.trail old) (m.trail new) doubts from to (subst (λ (x : Answer). Enters (m.trail old) (m.trail new) (entry_of request.Start x from to)) is entered) none);
    lawful = λ none origin explained in_time.
        let was : m.explains old origin (asked_of (m.trail old)) = subst (λ (l : List TrailEntry). m.explains old origin (asked_of l)) (sym none) explained in
        record { explained = law origin was in_time; in_time = late in_time; images = λ at log area le left. (images origin was in_time).after at log area le left };
  }

  pub starts_wider : (from from2 mid to : ℕ) (old new : N) → from ≤ from2 → mid ≤ to → Starts m from2 mid old new → Starts m from to old new
  starts_wider from from2 mid to old new before behind s = record {
    named = s.named;
    asked_once = s.asked_once;
    lawful = λ none origin explained in_time. let law = s.lawful none origin explained (omega (arith, in_time, before)) in
        record { explained = law.explained; in_time = omega (arith, law.in_time, behind); images = λ at log area le left. law.images at log area (omega (arith, le, behind)) left };
  }

  pub starts_on : (from mid to i : ℕ) (olds news : List N) (now d : N) → i < length news → i < length olds → from ≤ mid → mid ≤ to → EachStarts m from mid i olds news → get_or news i d ≡ get_or olds i d
      → Starts m mid to (get_or news i d) now → EachStarts m from to (i + 1) olds (set news i now)
  starts_on from mid to i olds news now d within long before behind each same starts k e lt = by_place (below_or_at k i lt)
    where
      by_place : (k < i) ⊎ (k ≡ i) → Starts m from to (get_or olds k e) (get_or (set news i now) k e)
      by_place (inl below) = subst (λ (x : N). Starts m from to (get_or olds k e) x) (sym (got_below news i k now e below)) (starts_wider from from mid to (get_or olds k e) (get_or news k e) (omega arith) behind (each k e below))
      by_place (inr at) = subst (λ (j : ℕ). Starts m from to (get_or olds j e) (get_or (set news i now) j e)) (sym at)
          (subst (λ (x : N). Starts m from to (get_or olds i e) x) (sym (got_set news i now e within))
          (subst (λ (x : N). Starts m from to x now) (same ∙ get_or_default olds i d e long) (starts_wider from mid to to (get_or news i d) now before (omega arith) starts)))
