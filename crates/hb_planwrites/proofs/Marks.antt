-- Plans whose refusals tell whether their locks were too many.
use Rattle.std.proofs.Common.{◌≡◌, ℕ, List, [], ◌∷◌, Result, Ok, Err, Bool, true, false, not, refl, subst, sym, ap, ◌∙◌}
use Rattle.std.specs.Prelude.{IsTrue}
use Rattle.hb_types.specs.declared.answer.Answer.{Answer}
use Rattle.hb_types.specs.declared.answer.Answer.TheVariants as answer
use Rattle.hb_types.specs.declared.request.Request.{Request}
use Rattle.hb_types.specs.declared.request.Request.TheVariants as request
use Rattle.hb_types.specs.declared.trail.Call.{Call}
use Rattle.hb_types.specs.declared.lock.Holder.{Holder}
use Rattle.hb_types.specs.declared.lock.Mode.{Mode}
use Rattle.hb_types.specs.declared.names.Tx.{Tx}
use Rattle.hb_types.specs.declared.places.Path.{Path}
use Rattle.hb_model.specs.declared.reply.Reply.{Reply}
use Rattle.hb_model.specs.Answers.{call}
use Rattle.hb_model.specs.Outside.{is_outside}
use Rattle.hb_talk.specs.Talk.{Talk, says, asks, going_on, and_then, Use, Planning, Follows, ends, asked, waits, gone, dies, not_yet, ready, mgr, ◌>>=◌}
use Rattle.hb_plancalc.proofs.Comes.{Stand, Comes, Outcome, Plans, comes_bind, comes_weaker}
use Rattle.hb_planlaws.proofs.Ends.{is_too_much}

-- a plan that says in the end whether its locks were too many
abbrev pub Marked : Type 0 → Type 0
Marked A = Use → Talk ((Result A Reply × Use) × Bool)

abbrev pub unmarked : {R : Type 0} → Talk (R × Bool) → Talk R
unmarked t = going_on (λ x. says x.0) t

abbrev pub then_marked : {A B : Type 0} → (A → Marked B) → Use → Result A Reply → Talk ((Result B Reply × Use) × Bool)
then_marked f u (Ok a) = f a u
then_marked f u (Err e) = says ((Err e, u), is_too_much e)

-- a plan whose TOO MUCH tells of locks, and one more
abbrev pub marking : {A B : Type 0} → Planning A → (A → Marked B) → Marked B
marking p f = λ u. going_on (λ r. then_marked f r.1 r.0) (p u)

-- a plan whose TOO MUCH doesn't
abbrev pub last : {A : Type 0} → Planning A → Marked A
last p = λ u. going_on (λ x. says (x, false)) (p u)

-- ---- without the marks it is the plan

going_assoc : {A B C : Type 0} → (t : Talk A) (f : A → Talk B) (g : B → Talk C) → going_on g (going_on f t) ≡ going_on (λ a. going_on g (f a)) t
going_assoc (says a) f g = refl
going_assoc (asks node q k) f g = λ i. asks node q (λ a. going_assoc (k a) f g i)

going_same : {A B : Type 0} → (t : Talk A) (f g : A → Talk B) → ((a : A) → f a ≡ g a) → going_on f t ≡ going_on g t
going_same (says a) f g h = h a
going_same (asks node q k) f g h = λ i. asks node q (λ a. going_same (k a) f g h i)

going_itself : {A : Type 0} → (t : Talk A) → going_on (λ a. says a) t ≡ t
going_itself (says a) = refl
going_itself (asks node q k) = λ i. asks node q (λ a. going_itself (k a) i)

pub forget_marking : {A B : Type 0} → (p : Planning A) (f : A → Marked B) (g : A → Planning B) → ((a : A) (v : Use) → unmarked (f a v) ≡ g a v) → (u : Use)
    → unmarked (marking p f u) ≡ (p >>= g) u
forget_marking {A} {B} p f g same u =
    going_assoc (p u) (λ r. then_marked f r.1 r.0) (λ x. says x.0) ∙ going_same (p u) (λ r. unmarked (then_marked f r.1 r.0)) (λ r. and_then g r.1 r.0) over
  where
    over : (r : Result A Reply × Use) → unmarked (then_marked f r.1 r.0) ≡ and_then g r.1 r.0
    over (Ok a, v) = same a v
    over (Err e, v) = refl

pub forget_last : {A : Type 0} → (p : Planning A) (u : Use) → unmarked (last p u) ≡ p u
forget_last p u = going_assoc (p u) (λ x. says (x, false)) (λ x. says x.0) ∙ going_itself (p u)

-- ---- calls that follow a plan have a mark

abbrev next : {R : Type 0} → Talk R → Answer → Talk R
next (says r) a = says r
next (asks node q k) a = k a

record Asking {R : Type 0} (t : Talk (R × Bool)) (node : ℕ) (q : Request) (k : Answer → Talk R) : Type 0 where
  more : Answer → Talk (R × Bool)
  is : t ≡ asks node q more
  same : (a : Answer) → unmarked (more a) ≡ k a

as_asking : {R : Type 0} (t : Talk (R × Bool)) (node : ℕ) (q : Request) (k : Answer → Talk R) → unmarked t ≡ asks node q k → Asking t node q k
as_asking (says x) node q k e = cc
as_asking {R} (asks n p j) node q k e =
    let at : n ≡ node = cc in
    let of : p ≡ q = cc in
    record { more = j; is = λ i. asks (at i) (of i) j; same = λ a. behind a }
  where
    behind : (a : Answer) → unmarked (j a) ≡ k a
    behind a = ap (λ (w : Talk R). next w a) e

at_end : {R : Type 0} (r : R) (t : Talk (R × Bool)) → unmarked t ≡ says r → (m : Bool) × Follows false t [] (r, m)
at_end {R} r (says x) e =
    let is : x.0 ≡ r = cc in
    (x.1, subst (λ (y : R). Follows false (says x) [] (y, x.1)) is ends)
at_end r (asks n p j) e = cc

whole : {R : Type 0} (node : ℕ) (q : Request) (k : Answer → Talk R) (more : Answer → Talk (R × Bool)) → ((a : Answer) → unmarked (more a) ≡ k a) → unmarked (asks node q more) ≡ asks node q k
whole node q k more same = λ i. asks node q (λ a. same a i)

-- a Lock that is blocked, and what mgr answers
abbrev blocked : ℕ → Tx → Path → Path → Mode → Mode → List Holder → Answer → List Call → List Call
blocked node tx p path m wanted holders a cs =
    call node (request.Lock tx p m) (answer.Blocked path wanted holders) ∷ call mgr (request.Wait tx (record { 0 = node }) path wanted holders) a ∷ cs

pub remarked : {R : Type 0} → (b : Bool) (w : Talk R) (cs : List Call) (r : R) → Follows b w cs r → (t : Talk (R × Bool)) → unmarked t ≡ w → (m : Bool) × Follows b t cs (r, m)
remarked _ _ _ r ends t e = at_end r t e
remarked _ _ _ _ (asked {node} {q} {k} {cs} {r} a n f) t e =
    let z = as_asking t node q k e in
    let x = remarked false (k a) cs r f (z.more a) (z.same a) in
    (x.0, subst (λ w. Follows false w (call node q a ∷ cs) (r, x.0)) (sym z.is) (asked a n x.1))
remarked _ _ _ _ (waits {node} {k} {cs} {r} tx p path m wanted holders edges f) t e =
    let z = as_asking t node (request.Lock tx p m) k e in
    let x = remarked true (asks node (request.Lock tx p m) k) cs r f (asks node (request.Lock tx p m) z.more) (whole node (request.Lock tx p m) k z.more z.same) in
    (x.0, subst (λ w. Follows false w (blocked node tx p path m wanted holders (answer.Waiting edges) cs) (r, x.0)) (sym z.is) (waits tx p path m wanted holders edges x.1))
remarked _ _ _ _ (gone {node} {k} {cs} {r} tx p path m wanted holders f) t e =
    let z = as_asking t node (request.Lock tx p m) k e in
    let x = remarked false (asks node (request.Lock tx p m) k) cs r f (asks node (request.Lock tx p m) z.more) (whole node (request.Lock tx p m) k z.more z.same) in
    (x.0, subst (λ w. Follows false w (blocked node tx p path m wanted holders answer.Gone cs) (r, x.0)) (sym z.is) (gone tx p path m wanted holders x.1))
remarked _ _ _ _ (dies {node} {k} {cs} {r} tx p path m wanted holders a h f) t e =
    let z = as_asking t node (request.Lock tx p m) k e in
    let x = remarked false (k a) cs r f (z.more a) (z.same a) in
    (x.0, subst (λ w. Follows false w (blocked node tx p path m wanted holders a cs) (r, x.0)) (sym z.is) (dies tx p path m wanted holders a h x.1))
remarked _ _ _ _ (not_yet {t} {cs} {r} tx target f) marked e =
    let x = remarked true t cs r f marked e in (x.0, not_yet tx target x.1)
remarked _ _ _ _ (ready {t} {cs} {r} tx f) marked e =
    let x = remarked false t cs r f marked e in (x.0, ready tx x.1)

-- ---- what a plan with marks comes to

-- what is said with a mark, of a reply that isn't an outside one
abbrev pub Settled : (Bool → Stand → Reply → Type 0) → Stand → (Result Reply Reply × Use) × Bool → Type 0
Settled C z ((Ok r, v), m) = C m z r
Settled C z ((Err e, v), m) = IsTrue (not (is_outside e)) → C m z e

module _ (C : Bool → Stand → Reply → Type 0) where
  pub marking_comes : {A : Type 0} → (p : Planning A) (f : A → Marked Reply) (u : Use) (z : Stand)
      → Plans p u z (λ y a v. Comes (f a v) y (Settled C)) (λ y e v. C (is_too_much e) y e) → Comes (marking p f u) z (Settled C)
  marking_comes {A} p f u z w =
      comes_bind (p u) (λ r. then_marked f r.1 r.0) z (Settled C)
      (comes_weaker (p u) z (Outcome (λ y a v. Comes (f a v) y (Settled C)) (λ y e v. C (is_too_much e) y e)) (λ y r. Comes (then_marked f r.1 r.0) y (Settled C)) over w)
    where
      over : (y : Stand) (r : Result A Reply × Use) → Outcome (λ y a v. Comes (f a v) y (Settled C)) (λ y e v. C (is_too_much e) y e) y r → Comes (then_marked f r.1 r.0) y (Settled C)
      over y (Ok a, v) h = h
      over y (Err e, v) h = h

  pub last_comes : (p : Planning Reply) (u : Use) (z : Stand) → Plans p u z (λ y r v. C false y r) (λ y e v. C false y e) → Comes (last p u) z (Settled C)
  last_comes p u z w =
      comes_bind (p u) (λ x. says (x, false)) z (Settled C)
      (comes_weaker (p u) z (Outcome (λ y r v. C false y r) (λ y e v. C false y e)) (λ y x. Settled C y (x, false)) over w)
    where
      over : (y : Stand) (r : Result Reply Reply × Use) → Outcome (λ y r v. C false y r) (λ y e v. C false y e) y r → Settled C y (r, false)
      over y (Ok a, v) h = h
      over y (Err e, v) h = h
