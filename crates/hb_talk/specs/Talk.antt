-- Plans of requests: what a caller asks, one request after another, by the answers that it gets.
use Rattle.std.specs.Prelude.{ℕ, ◌+◌, nat_le, Bool, true, false, not, if◌then◌else◌, List, [], ◌∷◌, ◌++◌, Option, Some, None, Result, Ok, Err, IsTrue}
use Rattle.hb_types.specs.declared.change.Stored.{Stored}
use Rattle.hb_types.specs.declared.change.Change.{Change}
use Rattle.hb_types.specs.declared.lock.Holder.{Holder}
use Rattle.hb_types.specs.declared.lock.Mode.{Mode}
use Rattle.hb_types.specs.declared.names.Tx.{Tx}
use Rattle.hb_types.specs.declared.places.Path.{Path}
use Rattle.hb_types.specs.declared.places.Place.{Place}
use Rattle.hb_types.specs.declared.places.Space.{Space}
use Rattle.hb_types.specs.declared.answer.Answer.{Answer}
use Rattle.hb_types.specs.declared.answer.Answer.TheVariants as answer
use Rattle.hb_types.specs.declared.trail.Call.{Call}
use Rattle.hb_types.specs.declared.answer.Edge.{Edge}
use Rattle.hb_types.specs.declared.request.Request.{Request}
use Rattle.hb_types.specs.declared.request.Request.TheVariants as request
use Rattle.hb_model.specs.Answers.{call}
use Rattle.hb_model.specs.Needs.{most_locks}
use Rattle.hb_model.specs.NodeSets.{has_node, with_node}
use Rattle.hb_model.specs.declared.reply.Reply.{Reply}
use Rattle.hb_model.specs.declared.reply.Reply.TheVariants as reply

-- what a caller says in the end, or asks next
pub data Talk (R : Type 0) : Type 0 where
  says : R → Talk R
  asks : ℕ → Request → (Answer → Talk R) → Talk R

abbrev pub going_on : {A B : Type 0} → (A → Talk B) → Talk A → Talk B
going_on f (says a) = f a
going_on f (asks node q k) = asks node q (λ a. going_on f (k a))

-- ---- what a list of calls follows

abbrev pub mgr : ℕ
mgr = 10

abbrev pub is_blocked : Answer → Bool
is_blocked (answer.Blocked path wanted holders) = true
is_blocked _ = false

-- what ends a wait for good
abbrev pub is_end_of_wait : Answer → Bool
is_end_of_wait (answer.Cycle edges) = true
is_end_of_wait answer.NoMemory = true
is_end_of_wait _ = false

-- The calls of a talk and what it says in the end; the Bool says that a Lock waits. A Lock that is blocked is asked again once mgr says so.
pub data Follows {R : Type 0} : Bool → Talk R → List Call → R → Type 0 where
  ends : {r : R} → Follows false (says r) [] r
  asked : {node : ℕ} {q : Request} {k : Answer → Talk R} {cs : List Call} {r : R} → (a : Answer) → IsTrue (not (is_blocked a))
      → Follows false (k a) cs r → Follows false (asks node q k) (call node q a ∷ cs) r
  waits : {node : ℕ} {k : Answer → Talk R} {cs : List Call} {r : R} → (tx : Tx) (p path : Path) (m wanted : Mode) (holders : List Holder) (edges : List Edge)
      → Follows true (asks node (request.Lock tx p m) k) cs r
      → Follows false (asks node (request.Lock tx p m) k)
      (call node (request.Lock tx p m) (answer.Blocked path wanted holders) ∷ call mgr (request.Wait tx (record { 0 = node }) path wanted holders) (answer.Waiting edges) ∷ cs) r
  gone : {node : ℕ} {k : Answer → Talk R} {cs : List Call} {r : R} → (tx : Tx) (p path : Path) (m wanted : Mode) (holders : List Holder)
      → Follows false (asks node (request.Lock tx p m) k) cs r
      → Follows false (asks node (request.Lock tx p m) k)
      (call node (request.Lock tx p m) (answer.Blocked path wanted holders) ∷ call mgr (request.Wait tx (record { 0 = node }) path wanted holders) answer.Gone ∷ cs) r
  -- a cycle, or want of memory, is the answer of the Lock
  dies : {node : ℕ} {k : Answer → Talk R} {cs : List Call} {r : R} → (tx : Tx) (p path : Path) (m wanted : Mode) (holders : List Holder) (a : Answer)
      → IsTrue (is_end_of_wait a) → Follows false (k a) cs r
      → Follows false (asks node (request.Lock tx p m) k)
      (call node (request.Lock tx p m) (answer.Blocked path wanted holders) ∷ call mgr (request.Wait tx (record { 0 = node }) path wanted holders) a ∷ cs) r
  not_yet : {t : Talk R} {cs : List Call} {r : R} → (tx target : Tx) → Follows true t cs r → Follows true t (call mgr (request.Ready tx) (answer.NotYet target) ∷ cs) r
  ready : {t : Talk R} {cs : List Call} {r : R} → (tx : Tx) → Follows false t cs r → Follows true t (call mgr (request.Ready tx) answer.Ready ∷ cs) r

-- the calls are the beginning of a talk
abbrev pub Begins : {R : Type 0} → Talk R → List Call → Type 0
Begins {R} t cs = (more : List Call) × (r : R) × Follows false t (cs ++ more) r

-- ---- planning: a talk that knows its transaction, the set of nodes that it uses and the locks that it was granted, and may be refused

pub record Use : Type 0 where
  pub tx : ℕ
  pub used : ℕ
  pub locks : ℕ
  pub bytes : ℕ

abbrev pub Planning : Type 0 → Type 0
Planning A = Use → Talk (Result A Reply × Use)

abbrev pub and_then : {A B : Type 0} → (A → Planning B) → Use → Result A Reply → Talk (Result B Reply × Use)
and_then f u (Ok a) = f a u
and_then f u (Err e) = says (Err e, u)

infixl 10 ◌>>=◌
abbrev pub ◌>>=◌ : {A B : Type 0} → Planning A → (A → Planning B) → Planning B
p >>= f = λ u. going_on (λ r. and_then f r.1 r.0) (p u)

infixl 10 ◌>>◌
abbrev pub ◌>>◌ : {A B : Type 0} → Planning A → Planning B → Planning B
p >> q = p >>= (λ _. q)

abbrev pub pure : {A : Type 0} → A → Planning A
pure a = λ u. says (Ok a, u)

abbrev pub refused : {A : Type 0} → Reply → Planning A
refused r = λ u. says (Err r, u)

-- refused, if there is a refusal
abbrev pub refuse : Option Reply → Planning (Unit {0})
refuse None = pure tt
refuse (Some r) = refused r

-- what an answer other than the one asked for is to the session
abbrev pub refusal_of : ℕ → Answer → Reply
refusal_of node answer.Down = reply.Down (record { 0 = node })
refusal_of node (answer.Fault area) = reply.Stopped (record { 0 = node })
refusal_of node (answer.Cycle edges) = reply.Deadlock edges
refusal_of node answer.NumbersSpent = reply.NumbersSpent
refusal_of node answer.NoMemory = reply.NoMemory
refusal_of node _ = reply.Lost (record { 0 = node })

abbrev pub met : {A : Type 0} → ℕ → Answer → Option A → Result A Reply
met node a (Some x) = Ok x
met node a None = Err (refusal_of node a)

-- a request that wants an answer of one shape
abbrev pub expect : {A : Type 0} → (Answer → Option A) → ℕ → Request → Planning A
expect shape node q = λ u. asks node q (λ a. says (met node a (shape a), u))

abbrev pub done : Answer → Option (Unit {0})
done answer.Done = Some tt
done _ = None

abbrev pub the_row : Answer → Option (Option (List ℕ))
the_row (answer.Row row) = Some row
the_row _ = None

abbrev pub the_rows : Answer → Option (List Stored)
the_rows (answer.Rows rows) = Some rows
the_rows _ = None

-- the transaction
abbrev pub the_tx : Use → Tx
the_tx u = record { 0 = u.tx }

-- a node more is used
abbrev pub joining : ℕ → Planning (Unit {0})
joining node = λ u. says (Ok tt, record u { used = with_node u.used node })

-- Enlist, before the first other branch request at a node; the node counts as used once that is answered Done
abbrev pub enlisted : ℕ → Planning (Unit {0})
enlisted node = λ u. if has_node u.used node then says (Ok tt, u) else (expect done node (request.Enlist (the_tx u)) >> joining node) u

abbrev pub lock : ℕ → Path → Mode → Planning (Unit {0})
lock node p m = enlisted node >>
    (λ u. if nat_le most_locks u.locks then says (Err reply.TooMuch, u) else expect done node (request.Lock (the_tx u) p m) (record u { locks = u.locks + 1 }))

abbrev pub read : ℕ → Place → Planning (Option (List ℕ))
read node place = λ u. expect the_row node (request.Read (the_tx u) place) u

abbrev pub scan : ℕ → Space → Planning (List Stored)
scan node space = λ u. expect the_rows node (request.Scan (the_tx u) space) u

abbrev pub scan_group : ℕ → Space → ℕ → Planning (List Stored)
scan_group node space group = λ u. expect the_rows node (request.ScanGroup (the_tx u) space group) u

abbrev pub write : ℕ → Change → Planning (Unit {0})
write node change = enlisted node >> (λ u. expect done node (request.Write (the_tx u) change) u)
