-- The beginning of a transaction is permitted where it is the next one of its session.
use Rattle.std.proofs.Common.{◌≡◌, ℕ, ◌+◌, true, [], Result, Ok, Err, sym, ap, ◌∙◌}
use Rattle.hb_types.specs.declared.answer.Answer.{Answer}
use Rattle.hb_types.specs.declared.answer.Answer.TheVariants as answer
use Rattle.hb_types.specs.declared.names.Owner.{Owner}
use Rattle.hb_types.specs.declared.names.Tx.{Tx}
use Rattle.hb_types.specs.declared.request.Request.TheVariants as request
use Rattle.hb_model.specs.declared.reply.Reply.{Reply}
use Rattle.hb_talk.specs.Ends.{fes1, rolling_back}
use Rattle.hb_talk.specs.Moves.{fresh, opened}
use Rattle.hb_talk.specs.Talk.{Talk, says, asks, Use, mgr, refusal_of}
use Rattle.hb_obeys.proofs.Endings.{rolling_back_obeys}
use Rattle.hb_obeys.proofs.Obeying.{Always, Caller, always_bind, always_weaker}
use Rattle.hb_obeys.proofs.Planning.{plainly, within}
use Rattle.hb_obeys.proofs.Standing.{Moment, behind}

-- what follows the answer of an asking talk
abbrev pub answered : {R : Type 0} → Talk R → Answer → Talk R
answered (says r) a = says r
answered (asks node q k) a = k a

-- the next owner of a session of which so many begun
pub record IsNext (w : Caller) (begun : ℕ) (owner : Owner) : Type 0 where
  pub begins : w.begins ≡ true
  pub session : owner.session ≡ w.session
  pub nth : owner.nth ≡ begun + 1

module _ (w : Caller) where
  -- Enter at mgr, and what follows its answer
  pub entered_obeys : {R : Type 0} (owner : Owner) (k : Result Use Reply → Talk R) (begun : ℕ) (Q : Moment → R → Type 0)
      → ((tx : Tx) → Always w (k (Ok (fresh tx.0))) (within begun (fresh tx.0)) Q) → ((r : Reply) (m : Moment) → Always w (k (Err r)) m Q)
      → (tx : Tx) → Always w (answered (opened owner k) (answer.Begun tx)) (within begun (fresh tx.0)) Q
  entered_obeys owner k begun Q goes ends tx = (
    (plainly, λ front st. tt),
    λ a. elim a as (λ x. Always w (answered (answered (opened owner k) (answer.Begun tx)) x) (within begun (fresh tx.0)) Q) [
      | answer.Done ↦ goes tx
      | x ↦ always_bind w (rolling_back (fresh tx.0) 0 (refusal_of mgr x)) (λ r. k (Err r)) (within begun (fresh tx.0)) Q
          (always_weaker w (rolling_back (fresh tx.0) 0 (refusal_of mgr x)) (within begun (fresh tx.0)) (λ m r. m.begun ≡ begun) (λ m r. Always w (k (Err r)) m Q) (λ m r e. ends r m)
          (rolling_back_obeys w begun (fresh tx.0) 0 (refusal_of mgr x) [] [] [] (λ h. h)))
    ],
  )

  pub opened_obeys : {R : Type 0} (owner : Owner) (k : Result Use Reply → Talk R) (m : Moment) (Q : Moment → R → Type 0) → IsNext w m.begun owner
      → ((tx : Tx) → Always w (k (Ok (fresh tx.0))) (within (m.begun + 1) (fresh tx.0)) Q) → ((r : Reply) (m : Moment) → Always w (k (Err r)) m Q)
      → Always w (opened owner k) m Q
  opened_obeys owner k m Q next goes ends = (
    (λ h. next.begins, λ front st. (next.session, next.nth ∙ ap (λ n. n + 1) (sym st.begun))),
    λ a. elim a as (λ x. Always w (answered (opened owner k) x) (behind fes1 (request.Begin owner) x m) Q) [
      | answer.Begun tx ↦ entered_obeys owner k (m.begun + 1) Q goes ends tx
      | x ↦ ends (refusal_of fes1 x) (behind fes1 (request.Begin owner) x m)
    ],
  )
