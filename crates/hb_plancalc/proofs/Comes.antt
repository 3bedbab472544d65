-- What a talk comes to over rows, whatever answers of these rows it gets, and the calls that follow it.
use Rattle.std.proofs.Common.{◌≡◌, ℕ, ◌+◌, Bool, true, false, not, List, [], ◌∷◌, length, filter, Result, Ok, Err, refl, subst, sym, ap, ◌∙◌, cond, arith}
use Rattle.std.specs.Prelude.{IsTrue}
use Rattle.std.proofs.lemmas.Bool.{false≢true}
use Rattle.hb_types.specs.declared.answer.Answer.{Answer}
use Rattle.hb_types.specs.declared.answer.Answer.TheVariants as answer
use Rattle.hb_types.specs.declared.request.Request.{Request}
use Rattle.hb_types.specs.declared.request.Request.TheVariants as request
use Rattle.hb_types.specs.declared.trail.Call.{Call}
use Rattle.hb_types.specs.declared.names.Tx.{Tx}
use Rattle.hb_types.specs.declared.places.Path.{Path}
use Rattle.hb_types.specs.declared.lock.Mode.{Mode}
use Rattle.hb_types.specs.Records.{change_bytes}
use Rattle.hb_model.specs.declared.reply.Reply.{Reply}
use Rattle.hb_model.specs.Answers.{IsAnswerOf, AnswersOf, after_answer, after_call, afters, rows_of, call, grants_in, bytes_in, is_grant, written_bytes}
use Rattle.hb_model.specs.Families.{Family}
use Rattle.hb_model.specs.Outside.{is_outside}
use Rattle.hb_talk.specs.Talk.{Talk, says, asks, going_on, and_then, Use, Planning, Follows, ends, asked, waits, gone, dies, not_yet, ready, is_end_of_wait, mgr, ◌>>=◌}

-- the rows, the locks granted and the bytes written so far
pub record Stand : Type 0 where
  pub family : Family
  pub locks : ℕ
  pub bytes : ℕ

abbrev pub locks_with : Request → Answer → ℕ → ℕ
locks_with (request.Lock tx p m) answer.Done n = n + 1
locks_with _ _ n = n

abbrev pub bytes_with : Request → Answer → ℕ → ℕ
bytes_with (request.Write tx change) answer.Done n = n + length (change_bytes change)
bytes_with _ _ n = n

-- behind an answer, and behind calls
abbrev pub with_answer : ℕ → Request → Answer → Stand → Stand
with_answer node q a s = record { family = after_answer node q a s.family; locks = locks_with q a s.locks; bytes = bytes_with q a s.bytes }

abbrev pub with_calls : Stand → List Call → Stand
with_calls s calls = record { family = afters s.family calls; locks = s.locks + grants_in calls; bytes = s.bytes + bytes_in calls }

-- this holds in the end, whatever answers of the rows are given
abbrev pub Comes : {R : Type 0} → Talk R → Stand → (Stand → R → Type 0) → Type 0
Comes (says r) s Q = Q s r
Comes (asks node q k) s Q = (a : Answer) → IsAnswerOf (rows_of node s.family) q a → Comes (k a) (with_answer node q a s) Q

pub comes_bind : {A B : Type 0} → (t : Talk A) (f : A → Talk B) (s : Stand) (Q : Stand → B → Type 0) → Comes t s (λ z a. Comes (f a) z Q) → Comes (going_on f t) s Q
comes_bind (says a) f s Q w = w
comes_bind (asks node q k) f s Q w = λ a h. comes_bind (k a) f (with_answer node q a s) Q (w a h)

pub comes_weaker : {R : Type 0} → (t : Talk R) (s : Stand) (P Q : Stand → R → Type 0) → ((z : Stand) (r : R) → P z r → Q z r) → Comes t s P → Comes t s Q
comes_weaker (says a) s P Q i w = i s a w
comes_weaker (asks node q k) s P Q i w = λ a h. comes_weaker (k a) (with_answer node q a s) P Q i (w a h)

-- ---- counts

pub counted : (b : Bool) (c : Call) (cs : List Call) → length (cond b (c ∷ cs) cs) ≡ cond b 1 0 + length cs
counted true c cs = omega arith
counted false c cs = omega arith

pub locks_step : (q : Request) (a : Answer) (n m : ℕ) → locks_with q a n + m ≡ n + (cond (is_grant q a) 1 0 + m)
locks_step (request.Lock tx p m) answer.Done n k = omega arith
locks_step (request.Lock tx p m) _ n k = omega arith
locks_step _ _ n k = omega arith

pub bytes_step : (q : Request) (a : Answer) (n m : ℕ) → bytes_with q a n + m ≡ n + (written_bytes q a + m)
bytes_step (request.Write tx c) answer.Done n k = omega arith
bytes_step (request.Write tx c) _ n k = omega arith
bytes_step _ _ n k = omega arith

-- a call before others
call_first : (s : Stand) (c : Call) (cs : List Call) → with_calls (with_answer c.node.0 c.request c.answer s) cs ≡ with_calls s (c ∷ cs)
call_first s c cs =
    let l : locks_with c.request c.answer s.locks + grants_in cs ≡ s.locks + grants_in (c ∷ cs) =
    locks_step c.request c.answer s.locks (grants_in cs) ∙ ap (λ n. s.locks + n) (sym (counted (is_grant c.request c.answer) c (filter (λ x. is_grant x.request x.answer) cs))) in
    let b : bytes_with c.request c.answer s.bytes + bytes_in cs ≡ s.bytes + bytes_in (c ∷ cs) = bytes_step c.request c.answer s.bytes (bytes_in cs) in
    λ i. record { family = afters (after_call s.family c) cs; locks = l i; bytes = b i }

-- an answer that ends a wait grants nothing
ends_still : (node : ℕ) (tx : Tx) (p : Path) (m : Mode) (a : Answer) (s : Stand) → IsTrue (is_end_of_wait a) → with_answer node (request.Lock tx p m) a s ≡ s
ends_still node tx p m (answer.Cycle edges) s h = refl
ends_still node tx p m answer.NoMemory s h = refl
ends_still node tx p m _ s h = absurd (false≢true h)

-- no calls
at_end : {R : Type 0} (s : Stand) (Q : Stand → R → Type 0) (r : R) → Q s r → Q (with_calls s []) r
at_end s Q r w =
    let l : s.locks ≡ s.locks + 0 = omega arith in
    let b : s.bytes ≡ s.bytes + 0 = omega arith in
    subst (λ z. Q z r) (λ i. record { family = s.family; locks = l i; bytes = b i }) w

-- two calls that change nothing
behind_two : {R : Type 0} (s : Stand) (Q : Stand → R → Type 0) (r : R) (c d : Call) (cs : List Call)
    → with_answer c.node.0 c.request c.answer s ≡ s → with_answer d.node.0 d.request d.answer s ≡ s → Q (with_calls s cs) r → Q (with_calls s (c ∷ d ∷ cs)) r
behind_two s Q r c d cs first second w =
    let whole : with_calls s cs ≡ with_calls s (c ∷ d ∷ cs) =
    ap (λ z. with_calls z cs) (sym second) ∙ call_first s d cs ∙ ap (λ z. with_calls z (d ∷ cs)) (sym first) ∙ call_first s c (d ∷ cs) in
    subst (λ z. Q z r) whole w

-- what holds for all answers holds behind calls that follow the talk
pub followed : {R : Type 0} → (b : Bool) (t : Talk R) (cs : List Call) (r : R) → Follows b t cs r → (s : Stand) (Q : Stand → R → Type 0)
    → Comes t s Q → AnswersOf s.family cs → Q (with_calls s cs) r
followed _ _ _ _ ends s Q w ans = at_end s Q _ w
followed _ _ _ _ (asked {node} {q} {k} {cs} {r} a n f) s Q w ans =
    subst (λ z. Q z r) (call_first s (call node q a) cs) (followed false (k a) cs r f (with_answer node q a s) Q (w a ans.0) ans.1)
followed _ _ _ _ (waits {node} {k} {cs} {r} tx p path m wanted holders edges f) s Q w ans =
    behind_two s Q r (call node (request.Lock tx p m) (answer.Blocked path wanted holders)) (call mgr (request.Wait tx (record { 0 = node }) path wanted holders) (answer.Waiting edges)) cs refl refl
    (followed true (asks node (request.Lock tx p m) k) cs r f s Q w ans.1.1)
followed _ _ _ _ (gone {node} {k} {cs} {r} tx p path m wanted holders f) s Q w ans =
    behind_two s Q r (call node (request.Lock tx p m) (answer.Blocked path wanted holders)) (call mgr (request.Wait tx (record { 0 = node }) path wanted holders) answer.Gone) cs refl refl
    (followed false (asks node (request.Lock tx p m) k) cs r f s Q w ans.1.1)
followed _ _ _ _ (dies {node} {k} {cs} {r} tx p path m wanted holders a e f) s Q w ans =
    behind_two s Q r (call node (request.Lock tx p m) (answer.Blocked path wanted holders)) (call mgr (request.Wait tx (record { 0 = node }) path wanted holders) a) cs refl refl
    (followed false (k a) cs r f s Q (subst (λ z. Comes (k a) z Q) (ends_still node tx p m a s e) (w a tt)) ans.1.1)
followed _ _ _ _ (not_yet {t} {cs} {r} tx target f) s Q w ans =
    subst (λ z. Q z r) (call_first s (call mgr (request.Ready tx) (answer.NotYet target)) cs) (followed true t cs r f s Q w ans.1)
followed _ _ _ _ (ready {t} {cs} {r} tx f) s Q w ans =
    subst (λ z. Q z r) (call_first s (call mgr (request.Ready tx) answer.Ready) cs) (followed false t cs r f s Q w ans.1)

-- ---- plans

-- what is said of a value, and of a refusal that isn't an outside one
abbrev pub Outcome : {A : Type 0} → (Stand → A → Use → Type 0) → (Stand → Reply → Use → Type 0) → Stand → Result A Reply × Use → Type 0
Outcome Q F s (Ok a, u) = Q s a u
Outcome Q F s (Err e, u) = IsTrue (not (is_outside e)) → F s e u

-- what a plan comes to
abbrev pub Plans : {A : Type 0} → Planning A → Use → Stand → (Stand → A → Use → Type 0) → (Stand → Reply → Use → Type 0) → Type 0
Plans p u s Q F = Comes (p u) s (Outcome Q F)

pub plans_bind : {A B : Type 0} → (p : Planning A) (f : A → Planning B) (u : Use) (s : Stand) (Q : Stand → B → Use → Type 0) (F : Stand → Reply → Use → Type 0)
    → Plans p u s (λ z a v. Plans (f a) v z Q F) F → Plans (p >>= f) u s Q F
plans_bind {A} {B} p f u s Q F w =
    comes_bind (p u) (λ r. and_then f r.1 r.0) s (Outcome Q F) (comes_weaker (p u) s (Outcome (λ z a v. Plans (f a) v z Q F) F) (λ z r. Comes (and_then f r.1 r.0) z (Outcome Q F)) over w)
  where
    over : (z : Stand) (r : Result A Reply × Use) → Outcome (λ y a v. Plans (f a) v y Q F) F z r → Comes (and_then f r.1 r.0) z (Outcome Q F)
    over z (Ok a, v) h = h
    over z (Err e, v) h = h
