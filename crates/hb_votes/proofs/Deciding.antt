-- Each new decision is of a transaction that was given, with the votes of all its nodes.
use Rattle.std.proofs.Common.{◌≡◌, ◌⊎◌, ◌∙◌, ℕ, true, false, List, [], ◌∷◌, ◌++◌, Some, ap, append_assoc, inl, inr, subst, sym}
use Rattle.std.specs.Prelude.{slice_get, IsTrue}
use Rattle.hb_types.specs.declared.answer.Answer.TheVariants as answer
use Rattle.hb_types.specs.declared.request.Request.{Request}
use Rattle.hb_types.specs.declared.request.Request.TheVariants as request
use Rattle.hb_types.specs.declared.request.Vote.{Vote}
use Rattle.hb_types.specs.declared.trail.Call.{Call}
use Rattle.hb_types.specs.Lists.{Has, IsIn}
use Rattle.hb_types.proofs.Ascending.{in_Each}
use Rattle.hb_loglaws.proofs.Members.{Has-in, filter_in, found, in_filter}
use Rattle.hb_model.specs.Answers.{HasAsked, is_decide}
use Rattle.hb_disks.specs.Images.{Logs, decided}
use Rattle.hb_disks.specs.Redo.{Decided}
use Rattle.hb_disks.specs.Says.{decisions}
use Rattle.hb_runs.specs.ServerRuns.{Asked}
use Rattle.hb_law.specs.Callers.{Asks, MayBeDecided, MayDecide, is_settled}
use Rattle.hb_law.specs.Histories.{Labelled, Trails, asked_of, calls_at, stands}
use Rattle.hb_law.specs.Transactions.{tx_asked}
use Rattle.hb_coordlaws.specs.Asking.{DecisionsWereAsked, IsDecideOf}
use Rattle.hb_parts.specs.Callings.{Callings}
use Rattle.hb_parts.specs.Courses.{AskNone, IsCourse, IsOwned, Within, is_own}
use Rattle.hb_parts.specs.Owning.{AskedOfGiven, OneOwner}
use Rattle.hb_parts.specs.Voting.{IsNewDecision}
use Rattle.hb_whose.proofs.Parts.{behind_at, each_part, is_there, none_some, stands_at}
use Rattle.hb_whose.proofs.Trailing.{in_calls_at, own_of}

-- behind a Decide that stands or may stand nothing is asked of the transaction
asks_nothing : (t : ℕ) (front : List Call) (node : ℕ) (q : Request) → HasAsked is_decide front → MayBeDecided front → tx_asked q ≡ Some t
    → Within t front node q → ⊥
asks_nothing t front node (request.Enlist tx) d m e w = w.1.undecided d
asks_nothing t front node (request.Lock tx a b) d m e w = w.1.undecided d
asks_nothing t front node (request.Read tx a) d m e w = w.1.undecided d
asks_nothing t front node (request.Scan tx a) d m e w = w.1.undecided d
asks_nothing t front node (request.ScanGroup tx a g) d m e w = w.1.undecided d
asks_nothing t front node (request.Write tx c) d m e w = w.1.undecided d
asks_nothing t front node (request.Prepare tx) d m e w = w.1.undecided d
asks_nothing t front node (request.Decide tx votes) d m e w = w.1.undecided d
asks_nothing t front node (request.Abort tx) d m e w = w.1 m
asks_nothing t front node q d m e w = none_some t e

pub stood : (a : Asked) (t n : ℕ) (votes : List Vote) → a.request ≡ request.Decide (record { 0 = t }) votes
    → (a.answer ≡ answer.Decided (record { 0 = n })) ⊎ (a.answer ≡ answer.Fault false)
    → (stands a ≡ true) × IsTrue (is_settled a.answer)
stood a t n votes q (inl h) =
    let it : a ≡ record {
      request = request.Decide (record { 0 = t }) votes;
      answer = answer.Decided
          (record { 0 = n });
    } = (λ i. record { request = q i; answer = h i }) in (ap stands it, ap is_settled h)
stood a t n votes q (inr h) =
    let it : a ≡ record {
      request = request.Decide
          (record { 0 = t }) votes;
      answer = answer.Fault false;
    } = (λ i. record { request = q i; answer = h i }) in (ap stands it, ap is_settled h)

module _ (were_asked : DecisionsWereAsked) (owner : OneOwner) (asked_given : AskedOfGiven) (base logs : Logs) (trails : Trails) (lists : List (List Call))
    (fes : List Labelled)
    (k : Callings base logs trails lists) (at : slice_get trails 0 ≡ Some fes) where
  course_of : (d : Decided) (a : Asked) → IsIn a (asked_of fes) → IsDecideOf d a → IsNewDecision trails lists fes d
  course_of d a i h =
      let s = stood a d.tx d.number h.votes h.asked h.answered in
      let own = own_of d.tx a (ap tx_asked h.asked) s.0 in
      let g = asked_given base logs trails lists fes fes 0 d.tx a k at at i own in
      let o = owner base logs trails lists fes d.tx k at g in
      let here = in_filter (is_own d.tx) a (calls_at 0 o.course) (subst (IsIn a) (o.in_trails 0 fes at) (filter_in (is_own d.tx) a (asked_of fes) i own)) in
      let c = in_calls_at 0 a o.course here.0 in
      let p = stands_at c.0 o.course c.1 in
      let q : c.0.request ≡ request.Decide (record { 0 = d.tx }) h.votes = ap (λ z. z.request) c.3 ∙ h.asked in
      let settled : IsTrue (is_settled c.0.answer) = subst (λ z. IsTrue (is_settled z.answer)) (sym c.3) s.1 in
      let w : (d.tx ≡ d.tx) × MayDecide h.votes p.front = subst (Within d.tx p.front c.0.node.0) q
      (behind_at (λ f y. Within d.tx f y.node.0 y.request) [] p.front c.0 p.back (subst (IsCourse d.tx) p.parts o.is_course)) in
      record {
        given_here = g;
        owned = o;
        is_decided =
            record {
              front = p.front;
              votes = h.votes;
              decide = c.0;
              back = p.back;
              parts = p.parts;
              asked = q;
              answered = subst (λ z. (z.answer ≡ answer.Decided (record { 0 = d.number })) ⊎ (z.answer ≡ answer.Fault false)) (sym c.3) h.answered;
              told = w.1.told;
              nodes = h.nodes;
              all = w.1.all;
              above = h.above;
              not_undone = w.1.not_undone;
              nothing_behind = behind o c.0 p.front p.back p.parts q settled;
            };
      }
    where
      behind : (o : IsOwned trails lists d.tx) (c : Call) (front back : List Call) → o.course ≡ front ++ c ∷ back
          → c.request ≡ request.Decide (record { 0 = d.tx }) h.votes → IsTrue (is_settled c.answer) → AskNone d.tx back
      behind o c front back e q s =
          each_part (λ x. tx_asked x.request ≡ Some d.tx → ⊥) back
          (λ f x r p asks. asks_nothing d.tx (front ++ c ∷ f) x.node.0 x.request
          (Has-in (λ y. IsTrue (is_decide y.request)) c (front ++ c ∷ f) (is_there c front f) (ap is_decide q))
          (Has-in (λ y. Asks is_decide y × IsTrue (is_settled y.answer)) c (front ++ c ∷ f) (is_there c front f) (ap is_decide q, s)) asks
          (behind_at (λ f y. Within d.tx f y.node.0 y.request) [] (front ++ c ∷ f) x r
          (subst (IsCourse d.tx) (e ∙ ap (λ l. front ++ c ∷ l) p ∙ sym (append_assoc front (c ∷ f) (x ∷ r))) o.is_course)))

  pub new_decided : (d : Decided) → IsIn d (decided logs) → IsIn d (decided base) ⊎ IsNewDecision trails lists fes d
  new_decided d i =
      let r = k.nodes.fes fes at in
      elim (in_Each (λ d. IsIn d (decisions base.fes) ⊎ Has (IsDecideOf d) (asked_of fes)) d (decisions r.last.log)
      (subst (λ l. IsIn d (decisions l)) r.log i) (were_asked _ r.last (asked_of fes) r.ran))
      [ inl b ↦ inl b | inr h ↦ (let a = found (IsDecideOf d) (asked_of fes) h in inr (course_of d a.0 a.1 a.2)) ]
