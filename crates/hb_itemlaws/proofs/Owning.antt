-- Whose transaction a plan asks for: each request is of the transaction of its use, and so is the use that it ends with. None decides
-- or undoes anything.
use Rattle.std.proofs.Common.{◌≡◌, ℕ, ◌+◌, List, [], ◌∷◌, Option, Some, None, Result, Ok, Err, Bool, true, false, cond, refl, ap}
use Rattle.std.specs.Prelude.{◌||◌, nat_le, nat_lt}
use Rattle.hb_types.specs.declared.answer.Answer.{Answer}
use Rattle.hb_types.specs.declared.change.Change.{Change}
use Rattle.hb_types.specs.declared.lock.Mode.{Mode}
use Rattle.hb_types.specs.declared.places.Path.{Path}
use Rattle.hb_types.specs.declared.places.Place.{Place}
use Rattle.hb_types.specs.declared.places.Space.{Space}
use Rattle.hb_types.specs.declared.request.Request.{Request}
use Rattle.hb_types.specs.declared.request.Request.TheVariants as request
use Rattle.hb_types.specs.Places.{node_of_area}
use Rattle.hb_model.specs.declared.reply.Reply.{Reply}
use Rattle.hb_model.specs.declared.reply.Reply.TheVariants as reply
use Rattle.hb_model.specs.Answers.{is_decide, is_undoing}
use Rattle.hb_model.specs.Does.{most_bytes}
use Rattle.hb_model.specs.Needs.{most_locks}
use Rattle.hb_model.specs.NodeSets.{has_node}
use Rattle.hb_talk.specs.Plans.{sizes, some_or, writes, writing}
use Rattle.hb_talk.specs.Talk.{Talk, says, asks, going_on, and_then, Use, Planning, ◌>>=◌, ◌>>◌, pure, refused, refuse, lock, read, scan, scan_group, write, enlisted, joining, expect, done, met, the_tx}
use Rattle.hb_law.specs.Transactions.{tx_asked}

-- a request that decides or undoes a transaction
abbrev pub settles : Request → Bool
settles q = is_decide q || is_undoing q

-- all that is asked is of this transaction and settles none, and the use in the end is of this one
abbrev pub Own : {A : Type 0} → ℕ → Talk (Result A Reply × Use) → Type 0
Own tx (says r) = r.1.tx ≡ tx
Own tx (asks node q k) = (tx_asked q ≡ Some tx) × (settles q ≡ false) × ((a : Answer) → Own tx (k a))

own_bind : {A B : Type 0} → (tx : ℕ) (t : Talk (Result A Reply × Use)) (f : Result A Reply × Use → Talk (Result B Reply × Use)) → Own tx t
    → ((r : Result A Reply × Use) → r.1.tx ≡ tx → Own tx (f r)) → Own tx (going_on f t)
own_bind tx (says r) f w g = g r w
own_bind tx (asks node q k) f w g = (w.0, w.1, λ a. own_bind tx (k a) f (w.2 a) g)

-- from a use of any transaction
pub record Owns {A : Type 0} (p : Planning A) : Type 0 where
  pub holds : (tx : ℕ) (u : Use) → u.tx ≡ tx → Own tx (p u)

pub owns_bind : {A B : Type 0} (p : Planning A) (f : A → Planning B) → Owns p → ((a : A) → Owns (f a)) → Owns (p >>= f)
owns_bind {A} {B} p f k g = record { holds = λ tx u e. own_bind tx (p u) (λ r. and_then f r.1 r.0) (k.holds tx u e) (over tx) }
  where
    over : (tx : ℕ) (r : Result A Reply × Use) → r.1.tx ≡ tx → Own tx (and_then f r.1 r.0)
    over tx (Ok a, v) e = (g a).holds tx v e
    over tx (Err x, v) e = e

pub owns_then : {A B : Type 0} (p : Planning A) (q : Planning B) → Owns p → Owns q → Owns (p >> q)
owns_then p q k l = owns_bind p (λ _. q) k (λ _. l)

pub owns_pure : {A : Type 0} (a : A) → Owns (pure a)
owns_pure a = record { holds = λ tx u e. e }

pub owns_refused : {A : Type 0} (r : Reply) → Owns (refused {A = A} r)
owns_refused r = record { holds = λ tx u e. e }

pub owns_refuse : (o : Option Reply) → Owns (refuse o)
owns_refuse None = owns_pure tt
owns_refuse (Some r) = owns_refused r

pub owns_some_or : {A : Type 0} (r : Reply) (o : Option A) → Owns (some_or r o)
owns_some_or r None = owns_refused r
owns_some_or r (Some x) = owns_pure x

pub owns_read : (node : ℕ) (place : Place) → Owns (read node place)
owns_read node place = record { holds = λ tx u e. (ap Some e, refl, λ a. e) }

pub owns_scan : (node : ℕ) (space : Space) → Owns (scan node space)
owns_scan node space = record { holds = λ tx u e. (ap Some e, refl, λ a. e) }

pub owns_scan_group : (node : ℕ) (space : Space) (group : ℕ) → Owns (scan_group node space group)
owns_scan_group node space group = record { holds = λ tx u e. (ap Some e, refl, λ a. e) }

owns_enlist : (node : ℕ) → Owns (λ u. (expect done node (request.Enlist (the_tx u)) >> joining node) u)
owns_enlist node = record {
  holds = λ tx u e. (
    ap Some e,
    refl,
    λ a. own_bind {A = Unit {0}} {B = Unit {0}} tx (says (met node a (done a), u)) (λ r. and_then (λ _. joining node) r.1 r.0) e (joins tx),
  );
}
  where
    joins : (tx : ℕ) (r : Result (Unit {0}) Reply × Use) → r.1.tx ≡ tx → Own tx (and_then (λ _. joining node) r.1 r.0)
    joins tx (Ok a, v) e = e
    joins tx (Err x, v) e = e

owns_enlisted : (node : ℕ) → Owns (enlisted node)
owns_enlisted node = record { holds = λ tx u e. cases tx u e (has_node u.used node) }
  where
    cases : (tx : ℕ) (u : Use) → u.tx ≡ tx → (b : Bool) → Own tx (cond b (says (Ok tt, u)) ((expect done node (request.Enlist (the_tx u)) >> joining node) u))
    cases tx u e true = e
    cases tx u e false = (owns_enlist node).holds tx u e

pub owns_lock : (node : ℕ) (p : Path) (m : Mode) → Owns (lock node p m)
owns_lock node p m = owns_then (enlisted node) asking (owns_enlisted node) (record { holds = λ tx v e. cases tx v e (nat_le most_locks v.locks) })
  where
    asking : Planning (Unit {0})
    asking = λ v. cond (nat_le most_locks v.locks) (says (Err reply.TooMuch, v)) (expect done node (request.Lock (the_tx v) p m) (record v { locks = v.locks + 1 }))

    cases : (tx : ℕ) (v : Use) → v.tx ≡ tx → (b : Bool) → Own tx (cond b (says (Err reply.TooMuch, v)) (expect done node (request.Lock (the_tx v) p m) (record v { locks = v.locks + 1 })))
    cases tx v e true = e
    cases tx v e false = (ap Some e, refl, λ a. e)

owns_writing : (changes : List Change) → Owns (writing changes)
owns_writing [] = owns_pure tt
owns_writing (c ∷ cs) =
    let node : ℕ = node_of_area c.place.space.area in
    owns_then (write node c) (writing cs)
    (owns_then (enlisted node) (λ v. expect done node (request.Write (the_tx v) c) v) (owns_enlisted node) (record { holds = λ tx v e. (ap Some e, refl, λ a. e) })) (owns_writing cs)

pub owns_writes : (changes : List Change) → Owns (writes changes)
owns_writes changes = record { holds = λ tx u e. cases tx u e (nat_lt most_bytes (u.bytes + sizes changes)) }
  where
    cases : (tx : ℕ) (u : Use) → u.tx ≡ tx → (b : Bool) → Own tx (cond b (refused {A = Unit {0}} reply.TooMuch u) (writing changes (record u { bytes = u.bytes + sizes changes })))
    cases tx u e true = e
    cases tx u e false = (owns_writing changes).holds tx (record u { bytes = u.bytes + sizes changes }) e
