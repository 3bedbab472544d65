-- A transaction of any statements asks what is permitted, from its Begin on.
use Rattle.std.proofs.Common.{◌≡◌, ℕ, Bool, true, false, cond, List, [], ◌∷◌, ◌++◌, None, Result, Ok, Err, ◌+◌, refl, subst, sym}
use Rattle.hb_types.specs.declared.names.Owner.{Owner}
use Rattle.hb_model.specs.declared.reply.Reply.{Reply}
use Rattle.hb_model.specs.declared.reply.Reply.TheVariants as reply
use Rattle.hb_model.specs.declared.statement.Statement.{Statement}
use Rattle.hb_model.specs.declared.statement.Statement.TheVariants as statement
use Rattle.hb_talk.specs.Ends.{committing, rolling_back}
use Rattle.hb_talk.specs.Moves.{fresh}
use Rattle.hb_talk.specs.PlansDefine.{plan}
use Rattle.hb_talk.specs.Sessions.{after, begun_with, going, rolls_back, transaction, with_reply}
use Rattle.hb_talk.specs.Talk.{Talk, says, going_on, Use}
use Rattle.hb_law.specs.Callers.{begun_count}
use Rattle.hb_obeys.specs.Obeying.{TransactionsObey}
use Rattle.hb_obeys.proofs.Endings.{Counts, committing_obeys, rolling_back_obeys, rolling_back_within}
use Rattle.hb_obeys.proofs.Obeying.{Always, Caller, always_bind, always_weaker, followed, obeys-front, obeys_from}
use Rattle.hb_obeys.proofs.Opening.{IsNext, opened_obeys}
use Rattle.hb_obeys.proofs.Planning.{Goes, StandsWider, stands_same, stands_wider, within}
use Rattle.hb_obeys.proofs.Standing.{Moment}
use Rattle.hb_obeys.proofs.Statements.{keeps_plan}

module _ (w : Caller) (begun : ℕ) where
  -- a talk that says something of what another says
  telling : {A B : Type 0} (f : A → B) (t : Talk A) (s : Moment) → Always w t s (Counts begun) → Always w (going_on (λ a. says (f a)) t) s (Counts begun)
  telling f t s h = always_bind w t (λ a. says (f a)) s (Counts begun) h

  after_obeys : (go : Use → Talk (List Reply)) → ((v : Use) → Always w (go v) (within begun v) (Counts begun))
      → (u : Use) (s : Moment) (r : Result Reply Reply × Use) → Goes begun u s r → Always w (after go r.0 r.1) s (Counts begun)
  after_obeys go next u s (Ok x, v) h =
      subst (λ z. Always w (with_reply x (go v)) z (Counts begun)) (sym h.stands) (telling (λ rs. x ∷ rs) (go v) (within begun v) (next v))
  after_obeys go next u s (Err x, v) h = by (rolls_back x) refl
    where
      wider : StandsWider begun v s
      wider = stands_wider begun v s x h.stands

      by : (b : Bool) → rolls_back x ≡ b → Always w (cond b (going_on (λ s. says (s ∷ [])) (rolling_back v 0 x)) (with_reply x (go v))) s (Counts begun)
      by true e = telling (λ r. r ∷ []) (rolling_back v 0 x) s
          (subst (λ z. Always w (rolling_back v 0 x) z (Counts begun)) (sym wider.stands) (rolling_back_within w begun v wider.wide 0 x wider.wider))
      by false e = telling (λ rs. x ∷ rs) (go v) s
          (subst (λ z. Always w (go v) z (Counts begun)) (sym (stands_same begun v s x h.stands e)) (next v))

  -- a statement, and those behind it
  statement_obeys : (back_ends : ℕ) (st : Statement) (go : Use → Talk (List Reply)) → ((v : Use) → Always w (go v) (within begun v) (Counts begun)) → (u : Use)
      → Always w (going_on (λ p. after go p.0 p.1) (plan back_ends st u)) (within begun u) (Counts begun)
  statement_obeys back_ends st go next u =
      always_bind w (plan back_ends st u) (λ p. after go p.0 p.1) (within begun u) (Counts begun)
      (always_weaker w (plan back_ends st u) (within begun u) (Goes begun u) (λ s p. Always w (after go p.0 p.1) s (Counts begun)) (after_obeys go next u) ((keeps_plan w begun back_ends st).holds u tt))

  pub going_obeys : (back_ends : ℕ) (owner : Owner) (sts : List Statement) (u : Use) → Always w (going back_ends owner sts u) (within begun u) (Counts begun)
  unfolding going
  going_obeys back_ends owner [] u = refl
  going_obeys back_ends owner (statement.Commit ∷ sts) u = telling (λ r. r ∷ []) (committing owner u reply.Committed) (within begun u) (committing_obeys w begun owner u reply.Committed)
  going_obeys back_ends owner (statement.Rollback ∷ sts) u =
      telling (λ r. r ∷ []) (rolling_back u 0 reply.RolledBack) (within begun u) (rolling_back_obeys w begun u 0 reply.RolledBack [] [] [] (λ h. h))
  going_obeys back_ends owner (st ∷ sts) u = statement_obeys back_ends st (going back_ends owner sts) (λ v. going_obeys back_ends owner sts v) u

-- the whole transaction, from any moment of its session
pub transaction_obeys : (w : Caller) (back_ends : ℕ) (owner : Owner) (sts : List Statement) (m : Moment) → IsNext w m.begun owner
    → Always w (transaction back_ends owner sts) m (λ z r. Unit {0})
transaction_obeys w back_ends owner sts m next =
    opened_obeys w owner (begun_with back_ends owner sts) m (λ z r. Unit {0}) next
    (λ tx. always_weaker w (going back_ends owner sts (fresh tx.0)) (within (m.begun + 1) (fresh tx.0)) (Counts (m.begun + 1)) (λ z r. Unit {0}) (λ z r h. tt)
    (going_obeys w (m.begun + 1) back_ends owner sts (fresh tx.0)))
    (λ r z. tt)

pub transactions_obey : TransactionsObey
transactions_obey back_ends session owner sts front cs next b e =
    let w : Caller = record { session = session; begins = true } in
    let m : Moment = record { begun = begun_count front; open_as = None } in
    obeys_from session front cs (obeys-front session front cs b.0
    (followed w false (transaction back_ends owner sts) (cs ++ b.0) b.1 b.2 m front (λ z r. Unit {0})
    (transaction_obeys w back_ends owner sts m (record { begins = refl; session = next.0; nth = next.1 })) (record { begun = refl; stands = tt }))) e
