-- Which replies of a plan say that the transaction was rolled back: the refusals for which a session rolls it back, and no others.
-- Any other leaves it open.
use Rattle.std.proofs.Common.{◌≡◌, ℕ, ◌+◌, List, [], ◌∷◌, Option, Some, None, Result, Ok, Err, Bool, true, false, not, cond, refl, subst}
use Rattle.std.specs.Prelude.{⊤, ◌&&◌, if◌then◌else◌, nat_le, nat_lt}
use Rattle.hb_types.specs.declared.answer.Answer.{Answer}
use Rattle.hb_types.specs.declared.answer.Answer.TheVariants as answer
use Rattle.hb_types.specs.declared.change.Change.{Change}
use Rattle.hb_types.specs.declared.lock.Mode.{Mode}
use Rattle.hb_types.specs.declared.places.Path.{Path}
use Rattle.hb_types.specs.declared.places.Place.{Place}
use Rattle.hb_types.specs.declared.places.Space.{Space}
use Rattle.hb_types.specs.declared.request.Request.{Request}
use Rattle.hb_types.specs.declared.request.Request.TheVariants as request
use Rattle.hb_types.specs.declared.trail.Call.{Call}
use Rattle.hb_types.specs.Lists.{Each}
use Rattle.hb_types.specs.Places.{node_of_area}
use Rattle.hb_model.specs.declared.reply.Reply.{Reply}
use Rattle.hb_model.specs.declared.reply.Reply.TheVariants as reply
use Rattle.hb_model.specs.Does.{most_bytes}
use Rattle.hb_model.specs.Needs.{most_locks}
use Rattle.hb_model.specs.NodeSets.{has_node}
use Rattle.hb_model.specs.Outside.{says_undone}
use Rattle.hb_model.specs.Refusals.{first_refusal}
use Rattle.hb_law.specs.Standing.{leaves_open}
use Rattle.hb_law.specs.Transactions.{is_rows}
use Rattle.hb_talk.specs.Plans.{sizes, some_or, writes, writing}
use Rattle.hb_talk.specs.Sessions.{rolls_back}
use Rattle.hb_talk.specs.Talk.{Talk, says, asks, going_on, and_then, Use, Planning, Follows, ends, asked, waits, gone, dies, not_yet, ready, refusal_of, ◌>>=◌, ◌>>◌, pure, refused, refuse, lock, read, scan, scan_group, write, enlisted, joining, expect, done, the_row, the_rows, met, the_tx}

-- ---- what a talk says, whatever its answers

abbrev pub Says : {A : Type 0} → Talk A → (A → Type 0) → Type 0
Says (says r) Q = Q r
Says (asks node q k) Q = (a : Answer) → Says (k a) Q

pub says_bind : {A B : Type 0} → (t : Talk A) (f : A → Talk B) (Q : B → Type 0) → Says t (λ a. Says (f a) Q) → Says (going_on f t) Q
says_bind (says a) f Q w = w
says_bind (asks node q k) f Q w = λ a. says_bind (k a) f Q (w a)

pub says_weaker : {A : Type 0} → (t : Talk A) (P Q : A → Type 0) → ((r : A) → P r → Q r) → Says t P → Says t Q
says_weaker (says a) P Q i w = i a w
says_weaker (asks node q k) P Q i w = λ a. says_weaker (k a) P Q i (w a)

pub said : {A : Type 0} → (b : Bool) (t : Talk A) (cs : List Call) (r : A) → Follows b t cs r → (Q : A → Type 0) → Says t Q → Q r
said _ _ _ _ (ends {r}) Q w = w
said _ _ _ _ (asked {node} {q} {k} {cs} {r} a n f) Q w = said false (k a) cs r f Q (w a)
said _ _ _ _ (waits {node} {k} {cs} {r} tx p path m wanted holders edges f) Q w = said true (asks node (request.Lock tx p m) k) cs r f Q w
said _ _ _ _ (gone {node} {k} {cs} {r} tx p path m wanted holders f) Q w = said false (asks node (request.Lock tx p m) k) cs r f Q w
said _ _ _ _ (dies {node} {k} {cs} {r} tx p path m wanted holders a e f) Q w = said false (k a) cs r f Q (w a)
said _ _ _ _ (not_yet {t} {cs} {r} tx target f) Q w = said true t cs r f Q w
said _ _ _ _ (ready {t} {cs} {r} tx f) Q w = said false t cs r f Q w

-- ---- plans

-- a refusal that says that the transaction was rolled back if the session rolls it back, and else leaves it open; it shows no rows
abbrev pub is_frank : Reply → Bool
is_frank r = (if rolls_back r then says_undone r else leaves_open r) && not (is_rows r)

abbrev pub IsFrank : Reply → Type 0
IsFrank r = is_frank r ≡ true

abbrev pub Ends : {A : Type 0} → (A → Type 0) → Result A Reply × Use → Type 0
Ends Q (Ok a, u) = Q a
Ends Q (Err e, u) = IsFrank e

-- the plan ends with such a value or a frank refusal
pub record Tells {A : Type 0} (p : Planning A) (Q : A → Type 0) : Type 0 where
  pub holds : (u : Use) → Says (p u) (Ends Q)

abbrev pub Any : {A : Type 0} → A → Type 0
Any a = ⊤

pub tells_bind : {A B : Type 0} (p : Planning A) (f : A → Planning B) (Q : B → Type 0) → Tells p Any → ((a : A) → Tells (f a) Q) → Tells (p >>= f) Q
tells_bind {A} {B} p f Q w g = record { holds = λ u. says_bind (p u) (λ r. and_then f r.1 r.0) (Ends Q) (says_weaker (p u) (Ends Any) (λ r. Says (and_then f r.1 r.0) (Ends Q)) over (w.holds u)) }
  where
    over : (r : Result A Reply × Use) → Ends Any r → Says (and_then f r.1 r.0) (Ends Q)
    over (Ok a, v) h = (g a).holds v
    over (Err e, v) h = h

pub tells_then : {A B : Type 0} (p : Planning A) (q : Planning B) (Q : B → Type 0) → Tells p Any → Tells q Q → Tells (p >> q) Q
tells_then p q Q w g = tells_bind p (λ _. q) Q w (λ _. g)

pub tells_pure : {A : Type 0} (a : A) (Q : A → Type 0) → Q a → Tells (pure a) Q
tells_pure a Q q = record { holds = λ u. q }

frank_answer : (node : ℕ) (a : Answer) → IsFrank (refusal_of node a)
frank_answer node answer.Down = refl
frank_answer node (answer.Fault area) = refl
frank_answer node (answer.Cycle edges) = refl
frank_answer node answer.NumbersSpent = refl
frank_answer node answer.NoMemory = refl
frank_answer node _ = refl

expect_says : {A : Type 0} (shape : Answer → Option A) (node : ℕ) (q : Request) (u : Use) → Says (expect shape node q u) (Ends Any)
expect_says {A} shape node q u = λ a. either a (shape a)
  where
    either : (a : Answer) (o : Option A) → Ends Any (met node a o, u)
    either a None = frank_answer node a
    either a (Some x) = tt

tells_enlisted : (node : ℕ) → Tells (enlisted node) Any
tells_enlisted node = record { holds = λ u. cases u (has_node u.used node) }
  where
    cases : (u : Use) (b : Bool) → Says (cond b (says (Ok tt, u)) ((expect done node (request.Enlist (the_tx u)) >> joining node) u)) (Ends Any)
    cases u true = tt
    cases u false =
        let q : Request = request.Enlist (the_tx u) in
        (tells_then (expect done node q) (joining node) Any (record { holds = λ v. expect_says done node q v }) (record { holds = λ v. tt })).holds u

pub tells_lock : (node : ℕ) (p : Path) (m : Mode) → Tells (lock node p m) Any
tells_lock node p m = tells_bind (enlisted node) _ Any (tells_enlisted node) (λ _. record { holds = λ v. cases v (nat_le most_locks v.locks) })
  where
    cases : (v : Use) (b : Bool) → Says (cond b (says (Err reply.TooMuch, v)) (expect done node (request.Lock (the_tx v) p m) (record v { locks = v.locks + 1 }))) (Ends Any)
    cases v true = refl
    cases v false = expect_says done node (request.Lock (the_tx v) p m) (record v { locks = v.locks + 1 })

pub tells_read : (node : ℕ) (place : Place) → Tells (read node place) Any
tells_read node place = record { holds = λ u. expect_says the_row node (request.Read (the_tx u) place) u }

pub tells_scan : (node : ℕ) (space : Space) → Tells (scan node space) Any
tells_scan node space = record { holds = λ u. expect_says the_rows node (request.Scan (the_tx u) space) u }

pub tells_scan_group : (node : ℕ) (space : Space) (group : ℕ) → Tells (scan_group node space group) Any
tells_scan_group node space group = record { holds = λ u. expect_says the_rows node (request.ScanGroup (the_tx u) space group) u }

tells_writing : (cs : List Change) → Tells (writing cs) Any
tells_writing [] = tells_pure tt Any tt
tells_writing (c ∷ cs) =
    let node : ℕ = node_of_area c.place.space.area in
    tells_then (write node c) (writing cs) Any (tells_then (enlisted node) (λ v. expect done node (request.Write (the_tx v) c) v) Any (tells_enlisted node) (record { holds = λ v. expect_says done node (request.Write (the_tx v) c) v })) (tells_writing cs)

pub tells_writes : (cs : List Change) → Tells (writes cs) Any
tells_writes cs = record { holds = λ u. cases u (nat_lt most_bytes (u.bytes + sizes cs)) }
  where
    cases : (u : Use) (b : Bool) → Says (cond b (refused reply.TooMuch u) (writing cs (record u { bytes = u.bytes + sizes cs }))) (Ends Any)
    cases u true = refl
    cases u false = (tells_writing cs).holds (record u { bytes = u.bytes + sizes cs })

-- what may refuse is frank
abbrev pub AreFrank : List (Bool × Reply) → Type 0
AreFrank refusals = Each (λ x. IsFrank x.1) refusals

pub frank_first : (refusals : List (Bool × Reply)) → AreFrank refusals → (r : Reply) → first_refusal refusals ≡ Some r → IsFrank r
frank_first [] e r h = cc
frank_first (x ∷ xs) e r h = by x.0 h (frank_first xs e.1 r)
  where
    by : (b : Bool) → cond b (Some x.1) (first_refusal xs) ≡ Some r → (first_refusal xs ≡ Some r → IsFrank r) → IsFrank r
    by true k more = let same : x.1 ≡ r = cc in subst IsFrank same e.0
    by false k more = more k

pub tells_refuse : (o : Option Reply) → ((r : Reply) → o ≡ Some r → IsFrank r) → Tells (refuse o) Any
tells_refuse None f = tells_pure tt Any tt
tells_refuse (Some r) f = record { holds = λ u. f r refl }

pub tells_first : (refusals : List (Bool × Reply)) → AreFrank refusals → Tells (refuse (first_refusal refusals)) Any
tells_first refusals e = tells_refuse (first_refusal refusals) (frank_first refusals e)

pub tells_some_or : {A : Type 0} (r : Reply) (o : Option A) → IsFrank r → Tells (some_or r o) Any
tells_some_or r None f = record { holds = λ u. f }
tells_some_or r (Some x) f = tells_pure x Any tt
