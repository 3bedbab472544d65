-- A driver that settles a branch by its outcome asks what is permitted.
use Rattle.std.proofs.Common.{◌≡◌, inr, ℕ, ◌==◌, true, false, List, [], ◌∷◌, ◌++◌, Option, Some, None, refl, ap, sym, ◌∙◌, arith}
use Rattle.std.specs.Prelude.{if◌then◌else◌}
use Rattle.hb_types.specs.declared.answer.Answer.{Answer}
use Rattle.hb_types.specs.declared.answer.Answer.TheVariants as answer
use Rattle.std.proofs.lemmas.Bool.Decides.{nat_tests}
use Rattle.hb_types.specs.declared.names.Number.{Number}
use Rattle.hb_types.specs.declared.names.Tx.{Tx}
use Rattle.hb_types.specs.declared.request.Request.TheVariants as request
use Rattle.hb_types.specs.declared.trail.Call.{Call}
use Rattle.hb_model.specs.Answers.{call}
use Rattle.hb_talk.specs.Ends.{fes1, settling}
use Rattle.hb_talk.specs.Talk.{Talk, says, asks, Follows, ends, asked, Use, the_tx}
use Rattle.hb_law.specs.Callers.{ObeysFrom, SettlesAs, last_outcome, outcome_or}
use Rattle.hb_obeys.specs.Obeying.{SettlersObey}
use Rattle.hb_obeys.proofs.Opening.{answered}

pub from-front : (session : ℕ) (front cs more : List Call) → ObeysFrom session front (cs ++ more) → ObeysFrom session front cs
from-front session front [] more o = tt
from-front session front (c ∷ cs) more o = (o.0, from-front session (front ++ c ∷ []) cs more o.1)

same_number : (n : ℕ) → (n == n) ≡ true
same_number n = grind (arith, nat_tests)

-- the Outcome that was asked last
outcome-last : (tx : ℕ) (u : Use) (a : Answer) → u.tx ≡ tx → (front : List Call) (o : Option Answer)
    → outcome_or o tx (front ++ call fes1 (request.Outcome (the_tx u)) a ∷ []) ≡ Some a
outcome-last tx u a e [] o = ap (λ b. if b then Some a else o) (ap (λ k. u.tx == k) (sym e) ∙ same_number u.tx)
outcome-last tx u a e (c ∷ front) o = outcome-last tx u a e front (outcome_or o tx (c ∷ []))

commit_obeys : (session node : ℕ) (tx : Tx) (n : Number) (front cs : List Call) (r : Option Answer) → SettlesAs (answer.Decided n) tx.0 front
    → Follows false (asks node (request.Commit tx n) (λ a. says (Some a))) cs r → ObeysFrom session front cs
commit_obeys session node tx n front _ _ told (asked b m ends) = (inr told, tt)

rollback_obeys : (session node : ℕ) (tx : Tx) (front cs : List Call) (r : Option Answer) → SettlesAs answer.Aborted tx.0 front
    → Follows false (asks node (request.Rollback tx) (λ a. says (Some a))) cs r → ObeysFrom session front cs
rollback_obeys session node tx front _ _ told (asked b m ends) = (inr told, tt)

none_asked : {R : Type 0} (session : ℕ) (x : R) (front cs : List Call) (r : R) → Follows false (says x) cs r → ObeysFrom session front cs
none_asked session x front _ _ ends = tt

-- what follows the answer of Outcome
abbrev once_told : ℕ → Use → Answer → Talk (Option Answer)
once_told node u a = answered (settling node u) a

told_obeys : (session node : ℕ) (u : Use) (front cs : List Call) (r : Option Answer) (a : Answer) → Follows false (once_told node u a) cs r
    → ObeysFrom session (front ++ call fes1 (request.Outcome (the_tx u)) a ∷ []) cs
told_obeys session node u front cs r a =
    let told : (x : Answer) → last_outcome u.tx (front ++ call fes1 (request.Outcome (the_tx u)) x ∷ []) ≡ Some x = λ x. outcome-last u.tx u x refl front None in
    elim a as (λ x. Follows false (once_told node u x) cs r → ObeysFrom session (front ++ call fes1 (request.Outcome (the_tx u)) x ∷ []) cs) [
      | answer.Decided n ↦ λ f. commit_obeys session node (the_tx u) n (front ++ call fes1 (request.Outcome (the_tx u)) (answer.Decided n) ∷ []) cs r (told (answer.Decided n)) f
      | answer.Aborted ↦ λ f. rollback_obeys session node (the_tx u) (front ++ call fes1 (request.Outcome (the_tx u)) answer.Aborted ∷ []) cs r (told answer.Aborted) f
      | x ↦ λ f. none_asked session None (front ++ call fes1 (request.Outcome (the_tx u)) x ∷ []) cs r f
    ]

whole : (session node : ℕ) (u : Use) (front cs : List Call) (r : Option Answer) → Follows false (settling node u) cs r → ObeysFrom session front cs
whole session node u front _ r (asked {cs = cs} a n f) = (tt, told_obeys session node u front cs r a f)

pub settlers_obey : SettlersObey
settlers_obey session node u front cs b = from-front session front cs b.0 (whole session node u front (cs ++ b.0) b.1 b.2)
