-- The first request of a transaction's talk is its own, and none begins another one.
use Rattle.std.proofs.Common.{◌≡◌, inl, inr, ℕ, List, [], ◌∷◌, Some, None, Ok, Err, Result, Bool, true, false, refl, subst, sym, ap, ◌∙◌}
use Rattle.std.specs.Prelude.{⊤, ◌||◌, IsTrue, if◌then◌else◌}
use Rattle.hb_faithful.specs.Planned.{AreBeside, is_beside, is_planned}
use Rattle.std.proofs.lemmas.Bool.{false≢true}
use Rattle.hb_types.specs.declared.answer.Answer.{Answer}
use Rattle.hb_types.specs.declared.names.Owner.{Owner}
use Rattle.hb_types.specs.declared.request.Request.{Request}
use Rattle.hb_types.specs.declared.request.Request.TheVariants as request
use Rattle.hb_types.specs.declared.trail.Call.{Call}
use Rattle.hb_types.specs.Lists.{Each}
use Rattle.hb_model.specs.Answers.{HasAsked, is_decide, is_undoing}
use Rattle.hb_model.specs.declared.reply.Reply.{Reply}
use Rattle.hb_model.specs.declared.reply.Reply.TheVariants as reply
use Rattle.hb_model.specs.declared.statement.Statement.{Statement}
use Rattle.hb_model.specs.declared.statement.Statement.TheVariants as statement
use Rattle.hb_model.specs.NodeSets.{nodes_in}
use Rattle.hb_talk.specs.Ends.{committing, rolling_back, voting}
use Rattle.hb_talk.specs.PlansDefine.{plan}
use Rattle.hb_talk.specs.Sessions.{after, going, rolls_back, with_reply}
use Rattle.hb_talk.specs.Talk.{Talk, says, asks, going_on, Follows, ends, asked, waits, gone, dies, not_yet, ready, Use}
use Rattle.hb_law.specs.Transactions.{tx_asked}
use Rattle.hb_itemlaws.specs.Owning.{NoBegin, StartsOwn, is_begin}
use Rattle.hb_itemlaws.proofs.Ends.{AllEnd, committed_ends, is_of_end, undone_ends}
use Rattle.hb_itemlaws.proofs.OwnPlans.{owns_plan}
use Rattle.hb_itemlaws.proofs.Owning.{Own, settles}

-- ---- the first request

abbrev pub FirstOwn : {R : Type 0} → ℕ → Talk R → Type 0
FirstOwn tx (says r) = ⊤
FirstOwn tx (asks node q k) = tx_asked q ≡ Some tx

pub first_followed : {R : Type 0} (tx : ℕ) (t : Talk R) (cs : List Call) (r : R) → Follows false t cs r → FirstOwn tx t → StartsOwn tx cs
first_followed tx _ _ _ ends w = tt
first_followed tx _ _ _ (asked a i f) w = w
first_followed tx _ _ _ (waits t p path m wanted holders edges f) w = w
first_followed tx _ _ _ (gone t p path m wanted holders f) w = w
first_followed tx _ _ _ (dies t p path m wanted holders a e f) w = w

pub first_plan : (tx : ℕ) (t : Talk (Result Reply Reply × Use)) → Own tx t → FirstOwn tx t
first_plan tx (says r) w = tt
first_plan tx (asks node q k) w = w.0

first_bound : {B : Type 0} (tx : ℕ) (t : Talk (Result Reply Reply × Use)) (f : Result Reply Reply × Use → Talk B) → Own tx t → ((r : Result Reply Reply × Use) → r.1.tx ≡ tx → FirstOwn tx (f r)) → FirstOwn tx (going_on f t)
first_bound tx (says r) f w g = g r w
first_bound tx (asks node q k) f w g = w.0

first_renamed : {A B : Type 0} (tx : ℕ) (f : A → B) (t : Talk A) → FirstOwn tx t → FirstOwn tx (going_on (λ x. says (f x)) t)
first_renamed tx f (says r) w = tt
first_renamed tx f (asks node q k) w = w

-- ---- requests that begin nothing

abbrev pub Unbegun : {R : Type 0} → Talk R → Type 0
Unbegun (says r) = ⊤
Unbegun (asks node q k) = (is_begin q ≡ false) × ((a : Answer) → Unbegun (k a))

pub unbegun_followed : {R : Type 0} (b : Bool) (t : Talk R) (cs : List Call) (r : R) → Follows b t cs r → Unbegun t → NoBegin cs
unbegun_followed _ _ _ _ ends w = tt
unbegun_followed _ _ _ _ (asked {k} {cs} {r} a i f) w = (w.0, unbegun_followed false (k a) cs r f (w.1 a))
unbegun_followed _ _ _ _ (waits {node} {k} {cs} {r} t p path m wanted holders edges f) w = (refl, (refl, unbegun_followed true (asks node (request.Lock t p m) k) cs r f w))
unbegun_followed _ _ _ _ (gone {node} {k} {cs} {r} t p path m wanted holders f) w = (refl, (refl, unbegun_followed false (asks node (request.Lock t p m) k) cs r f w))
unbegun_followed _ _ _ _ (dies {k} {cs} {r} t p path m wanted holders a e f) w = (refl, (refl, unbegun_followed false (k a) cs r f (w.1 a)))
unbegun_followed _ _ _ _ (not_yet {t} {cs} {r} tx target f) w = (refl, unbegun_followed true t cs r f w)
unbegun_followed _ _ _ _ (ready {t} {cs} {r} tx f) w = (refl, unbegun_followed false t cs r f w)

pub none_is_some : {A : Type 0} (x : A) → None ≡ Some x → ⊥
none_is_some x e = subst (λ o. elim o as (λ z. Type 0) [ None ↦ Unit {0} | Some y ↦ ⊥ ]) e tt

own_begins_none : (tx : ℕ) (q : Request) → tx_asked q ≡ Some tx → is_begin q ≡ false
own_begins_none tx q = elim q as (λ x. tx_asked x ≡ Some tx → is_begin x ≡ false) [ request.Begin o ↦ λ e. absurd (none_is_some tx e) | x ↦ λ e. refl ]

end_begins_none : (q : Request) → is_of_end q ≡ true → is_begin q ≡ false
end_begins_none q = elim q as (λ x. is_of_end x ≡ true → is_begin x ≡ false) [ request.Begin o ↦ λ e. absurd (false≢true e) | x ↦ λ e. refl ]

pub end_unbegun : {R : Type 0} (t : Talk R) → AllEnd t → Unbegun t
end_unbegun (says r) w = tt
end_unbegun (asks node q k) w = (end_begins_none q w.0, λ a. end_unbegun (k a) (w.1 a))

plan_unbegun : (tx : ℕ) (t : Talk (Result Reply Reply × Use)) → Own tx t → Unbegun t
plan_unbegun tx (says r) w = tt
plan_unbegun tx (asks node q k) w = (own_begins_none tx q w.0, λ a. plan_unbegun tx (k a) (w.2 a))

unbegun_bound : {A B : Type 0} (t : Talk A) (f : A → Talk B) → Unbegun t → ((r : A) → Unbegun (f r)) → Unbegun (going_on f t)
unbegun_bound (says r) f w g = g r
unbegun_bound (asks node q k) f w g = (w.0, λ a. unbegun_bound (k a) f (w.1 a) g)

-- the use in the end is of the transaction
pub own_said : (tx : ℕ) (b : Bool) (t : Talk (Result Reply Reply × Use)) (cs : List Call) (r : Result Reply Reply × Use) → Follows b t cs r → Own tx t → r.1.tx ≡ tx
own_said tx _ _ _ _ ends w = w
own_said tx _ _ _ _ (asked {k} {cs} {r} a i f) w = own_said tx false (k a) cs r f (w.2 a)
own_said tx _ _ _ _ (waits {node} {k} {cs} {r} t p path m wanted holders edges f) w = own_said tx true (asks node (request.Lock t p m) k) cs r f w
own_said tx _ _ _ _ (gone {node} {k} {cs} {r} t p path m wanted holders f) w = own_said tx false (asks node (request.Lock t p m) k) cs r f w
own_said tx _ _ _ _ (dies {k} {cs} {r} t p path m wanted holders a e f) w = own_said tx false (k a) cs r f (w.2 a)
own_said tx _ _ _ _ (not_yet {t} {cs} {r} x target f) w = own_said tx true t cs r f w
own_said tx _ _ _ _ (ready {t} {cs} {r} x f) w = own_said tx false t cs r f w

-- ---- calls that settle nothing

-- nothing is decided or undone
abbrev pub AreQuiet : List Call → Type 0
AreQuiet calls = Each (λ c. settles c.request ≡ false) calls

pub quiet_followed : (tx : ℕ) (b : Bool) (t : Talk (Result Reply Reply × Use)) (cs : List Call) (r : Result Reply Reply × Use) → Follows b t cs r → Own tx t → AreQuiet cs
quiet_followed tx _ _ _ _ ends w = tt
quiet_followed tx _ _ _ _ (asked {k} {cs} {r} a i f) w = (w.1, quiet_followed tx false (k a) cs r f (w.2 a))
quiet_followed tx _ _ _ _ (waits {node} {k} {cs} {r} t p path m wanted holders edges f) w = (refl, (refl, quiet_followed tx true (asks node (request.Lock t p m) k) cs r f w))
quiet_followed tx _ _ _ _ (gone {node} {k} {cs} {r} t p path m wanted holders f) w = (refl, (refl, quiet_followed tx false (asks node (request.Lock t p m) k) cs r f w))
quiet_followed tx _ _ _ _ (dies {k} {cs} {r} t p path m wanted holders a e f) w = (refl, (refl, quiet_followed tx false (k a) cs r f (w.2 a)))
quiet_followed tx _ _ _ _ (not_yet {t} {cs} {r} x target f) w = (refl, quiet_followed tx true t cs r f w)
quiet_followed tx _ _ _ _ (ready {t} {cs} {r} x f) w = (refl, quiet_followed tx false t cs r f w)

neither : (a b : Bool) → a || b ≡ false → (a ≡ false) × (b ≡ false)
neither false b e = (refl, e)
neither true b e = absurd (false≢true (sym e))

pub none_decided : (calls : List Call) → AreQuiet calls → ¬ (HasAsked is_decide calls)
none_decided [] q h = h
none_decided (c ∷ cs) q (inl h) = false≢true (sym (neither (is_decide c.request) (is_undoing c.request) q.0).0 ∙ h)
none_decided (c ∷ cs) q (inr h) = none_decided cs q.1 h

pub none_undone : (calls : List Call) → AreQuiet calls → ¬ (HasAsked is_undoing calls)
none_undone [] q h = h
none_undone (c ∷ cs) q (inl h) = false≢true (sym (neither (is_decide c.request) (is_undoing c.request) q.0).1 ∙ h)
none_undone (c ∷ cs) q (inr h) = none_undone cs q.1 h

beside_decides_none : (q : Request) → IsTrue (is_beside q) → is_decide q ≡ false
beside_decides_none q = elim q as (λ x. IsTrue (is_beside x) → is_decide x ≡ false) [ request.Decide tx votes ↦ λ b. absurd (false≢true b) | x ↦ λ b. refl ]

pub opens_quiet : (calls : List Call) → AreBeside calls → Each (λ c. is_undoing c.request ≡ false) calls → AreQuiet calls
opens_quiet [] b u = tt
opens_quiet (c ∷ cs) b u = (ap (λ x. x || is_undoing c.request) (beside_decides_none c.request b.0) ∙ u.0, opens_quiet cs b.1 u.1)

pub statement_unbegun : (back_ends : ℕ) (st : Statement) (u : Use) → Unbegun (plan back_ends st u)
statement_unbegun back_ends st u = plan_unbegun u.tx (plan back_ends st u) ((owns_plan back_ends st).holds u.tx u refl)

-- ---- a transaction that is open

module _ (back_ends : ℕ) (owner : Owner) where
  pub going_planned : (st : Statement) (sts : List Statement) (u : Use) → IsTrue (is_planned st)
      → going back_ends owner (st ∷ sts) u ≡ going_on (λ p. after (going back_ends owner sts) p.0 p.1) (plan back_ends st u)
  unfolding going
  going_planned statement.Commit sts u p = absurd (false≢true p)
  going_planned statement.Rollback sts u p = absurd (false≢true p)
  going_planned _ sts u p = refl

  pub going_none : (u : Use) → going back_ends owner [] u ≡ says []
  unfolding going
  going_none u = refl

  pub going_commit : (sts : List Statement) (u : Use) → going back_ends owner (statement.Commit ∷ sts) u ≡ going_on (λ r. says (r ∷ [])) (committing owner u reply.Committed)
  unfolding going
  going_commit sts u = refl

  pub going_rollback : (sts : List Statement) (u : Use) → going back_ends owner (statement.Rollback ∷ sts) u ≡ going_on (λ r. says (r ∷ [])) (rolling_back u 0 reply.RolledBack)
  unfolding going
  going_rollback sts u = refl

  voting_first : (u : Use) (nodes : List ℕ) → FirstOwn u.tx (going_on (λ r. says (r ∷ [])) (voting owner u reply.Committed 0 nodes []))
  voting_first u [] = refl
  voting_first u (n ∷ ns) = refl

  -- what a statement's reply leads to
  after_first : (sts : List Statement) (tx : ℕ) (o : Result Reply Reply) (v : Use) → v.tx ≡ tx → FirstOwn tx (going back_ends owner sts v) → FirstOwn tx (after (going back_ends owner sts) o v)
  after_first sts tx (Ok r) v e more = first_renamed tx (λ rs. r ∷ rs) (going back_ends owner sts v) more
  after_first sts tx (Err r) v e more = by (rolls_back r)
    where
      by : (b : Bool) → FirstOwn tx (if b then going_on (λ s. says (s ∷ [])) (rolling_back v 0 r) else with_reply r (going back_ends owner sts v))
      by true = ap Some e
      by false = first_renamed tx (λ rs. r ∷ rs) (going back_ends owner sts v) more

  after_unbegun : (sts : List Statement) (o : Result Reply Reply) (v : Use) → Unbegun (going back_ends owner sts v) → Unbegun (after (going back_ends owner sts) o v)
  after_unbegun sts (Ok r) v more = unbegun_bound (going back_ends owner sts v) (λ rs. says (r ∷ rs)) more (λ rs. tt)
  after_unbegun sts (Err r) v more = by (rolls_back r)
    where
      by : (b : Bool) → Unbegun (if b then going_on (λ s. says (s ∷ [])) (rolling_back v 0 r) else with_reply r (going back_ends owner sts v))
      by true = end_unbegun (going_on (λ s. says (s ∷ [])) (rolling_back v 0 r)) (undone_ends v r)
      by false = unbegun_bound (going back_ends owner sts v) (λ rs. says (r ∷ rs)) more (λ rs. tt)

  pub going_first : (sts : List Statement) (tx : ℕ) (v : Use) → v.tx ≡ tx → FirstOwn tx (going back_ends owner sts v)
  going_first [] tx v e = subst (FirstOwn tx) (sym (going_none v)) tt
  going_first (statement.Commit ∷ sts) tx v e = subst (FirstOwn tx) (sym (going_commit sts v)) (subst (λ x. FirstOwn x (going_on (λ r. says (r ∷ [])) (committing owner v reply.Committed))) e (voting_first v (nodes_in v.used)))
  going_first (statement.Rollback ∷ sts) tx v e = subst (FirstOwn tx) (sym (going_rollback sts v)) (ap Some e)
  going_first (st ∷ sts) tx v e =
      subst (FirstOwn tx) (sym (going_planned st sts v refl))
      (first_bound tx (plan back_ends st v) (λ p. after (going back_ends owner sts) p.0 p.1) ((owns_plan back_ends st).holds tx v e) (λ p h. after_first sts tx p.0 p.1 h (going_first sts tx p.1 h)))

  pub going_unbegun : (sts : List Statement) (v : Use) → Unbegun (going back_ends owner sts v)
  going_unbegun [] v = subst Unbegun (sym (going_none v)) tt
  going_unbegun (statement.Commit ∷ sts) v = subst Unbegun (sym (going_commit sts v)) (end_unbegun (going_on (λ r. says (r ∷ [])) (committing owner v reply.Committed)) (committed_ends owner v reply.Committed))
  going_unbegun (statement.Rollback ∷ sts) v =
      subst Unbegun (sym (going_rollback sts v)) (end_unbegun (going_on (λ r. says (r ∷ [])) (rolling_back v 0 reply.RolledBack)) (undone_ends v reply.RolledBack))
  going_unbegun (st ∷ sts) v =
      subst Unbegun (sym (going_planned st sts v refl))
      (unbegun_bound (plan back_ends st v) (λ p. after (going back_ends owner sts) p.0 p.1) (statement_unbegun back_ends st v) (λ p. after_unbegun sts p.0 p.1 (going_unbegun sts p.1)))
