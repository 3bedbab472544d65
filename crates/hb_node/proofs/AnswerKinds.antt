-- What is answered in a run is of the kind that its node gives.
use Rattle.std.proofs.Common.{◌≡◌, ℕ, ◌≤◌, Bool, true, false, IsTrue, List, [], ◌∷◌, inl, inr, refl, subst, sym, arith}
use Rattle.std.proofs.lemmas.Bool.{false≢true}
use Rattle.hb_types.specs.declared.answer.Answer.{Answer}
use Rattle.hb_types.specs.declared.answer.Answer.TheVariants as answer
use Rattle.hb_types.specs.declared.answer.Edge.{Edge}
use Rattle.hb_types.specs.declared.names.NodeName.{NodeName}
use Rattle.hb_types.specs.declared.names.Tx.{Tx}
use Rattle.hb_types.specs.declared.request.Request.{Request}
use Rattle.hb_types.specs.declared.request.Request.TheVariants as request
use Rattle.hb_types.specs.Lists.{IsIn}
use Rattle.hb_runs.specs.Board.{Board, Steps, enters, entered_before, gone, cycle, waits, cannot_wait, ready, ends, settles, halts, others, no_memory, is_managed, target_of, waits_of}
use Rattle.hb_runs.specs.Coordinator.{CState, CRun, RightIn as CRightIn}
use Rattle.hb_runs.specs.Kinds.{IsOfNode, is_begin, is_begun, tells_nothing}
use Rattle.hb_runs.specs.Server.{SState}
use Rattle.hb_runs.specs.ServerAnswers.{RightIn}
use Rattle.hb_runs.specs.ServerRuns.{Asked, Run}
use Rattle.hb_node.specs.Laws.{State, serving, deciding, managing, IsOfName, Runs, BoardRun}
use Rattle.hb_node.specs.Lists.{AreOfNode, Lists, OneMore, asked}

-- ---- an answer that tells nothing

begun_tells : (a : Answer) → tells_nothing a ≡ true → IsTrue (is_begun a) → ⊥
begun_tells (answer.Begun tx) nothing begun = false≢true nothing
begun_tells _ nothing begun = false≢true begun

pub telling_nothing : (node : ℕ) (q : Request) (a : Answer) → tells_nothing a ≡ true → IsOfNode node q a
telling_nothing node q a nothing = record { begins = λ begun. absurd (begun_tells a nothing begun); beside = λ _. nothing }

-- ---- a server

server_begins : (up : Bool) (s : SState) (q : Request) (tx : Tx) → RightIn up s q (answer.Begun tx) → ⊥
server_begins true s (request.Read t place) tx h = h.shows
server_begins true s (request.Scan t space) tx h = h.shows
server_begins true s (request.ScanGroup t space group) tx h = h.shows
server_begins true s _ tx h = h
server_begins false s request.Start tx h = h
server_begins false s _ tx h = h

server_begun : (up : Bool) (s : SState) (q : Request) (a : Answer) → RightIn up s q a → IsTrue (is_begun a) → ⊥
server_begun up s q (answer.Begun tx) h begun = server_begins up s q tx h
server_begun up s q _ h begun = false≢true begun

-- a request that is for mgr, as Halted is
server_up : (s : SState) (node : NodeName) (a : Answer) → RightIn true s (request.Halted node) a → IsTrue (tells_nothing a)
server_up s node (answer.Begun tx) h = absurd h
server_up s node (answer.Decided number) h = absurd h
server_up s node answer.Active h = absurd h
server_up s node answer.Aborted h = absurd h
server_up s node (answer.Row row) h = absurd h
server_up s node (answer.Rows rows) h = absurd h
server_up s node (answer.Keys keys) h = absurd h
server_up s node (answer.Vote floor) h = absurd h
server_up s node (answer.Started doubts) h = absurd h
server_up s node (answer.Fault area) h = absurd h
server_up s node _ h = refl

server_down : (s : SState) (node : NodeName) (a : Answer) → RightIn false s (request.Halted node) a → IsTrue (tells_nothing a)
server_down s node answer.Down h = refl
server_down s node _ h = absurd h

server_beside : (up : Bool) (s : SState) (q : Request) (a : Answer) → RightIn up s q a → IsTrue (is_managed q) → IsTrue (tells_nothing a)
server_beside true s (request.Enter tx owner) a h managed = server_up s (record { 0 = 0 }) a h
server_beside true s (request.Wait tx node path wanted holders) a h managed = server_up s node a h
server_beside true s (request.Ready tx) a h managed = server_up s (record { 0 = 0 }) a h
server_beside true s (request.End tx left) a h managed = server_up s (record { 0 = 0 }) a h
server_beside true s (request.Settled tx node) a h managed = server_up s node a h
server_beside true s (request.Halted node) a h managed = server_up s node a h
server_beside false s (request.Enter tx owner) a h managed = server_down s (record { 0 = 0 }) a h
server_beside false s (request.Wait tx node path wanted holders) a h managed = server_down s node a h
server_beside false s (request.Ready tx) a h managed = server_down s (record { 0 = 0 }) a h
server_beside false s (request.End tx left) a h managed = server_down s (record { 0 = 0 }) a h
server_beside false s (request.Settled tx node) a h managed = server_down s node a h
server_beside false s (request.Halted node) a h managed = server_down s node a h
server_beside _ s _ a h managed = absurd (false≢true managed)

server_kind : (name : ℕ) (s : SState) (q : Request) (a : Answer) → name ≤ 9 → RightIn s.up s q a → IsOfNode name q a
server_kind name s q a few right = record {
  begins = λ begun. absurd (server_begun s.up s q a right begun);
  beside = λ which. elim which [ inl is ↦ absurd (omega (arith, few, is)) | inr managed ↦ server_beside s.up s q a right managed ];
}

server_all : (name : ℕ) (s t : SState) (asked : List Asked) → name ≤ 9 → Run s asked t → AreOfNode name asked
server_all name s t [] few run = tt
server_all name s t (a ∷ more) few (u, turns, run) = (server_kind name s a.request a.answer few turns.right, server_all name u t more few run)

-- ---- the coordinator

coordinator_begins : (up : Bool) (k : CState) (q : Request) (tx : Tx) → CRightIn up k q (answer.Begun tx) → IsTrue (is_begin q)
coordinator_begins true k (request.Begin owner) tx h = refl
coordinator_begins true k _ tx h = absurd h
coordinator_begins false k request.Start tx h = absurd h
coordinator_begins false k _ tx h = absurd h

coordinator_begun : (up : Bool) (k : CState) (q : Request) (a : Answer) → CRightIn up k q a → IsTrue (is_begun a) → IsTrue (is_begin q)
coordinator_begun up k q (answer.Begun tx) h begun = coordinator_begins up k q tx h
coordinator_begun up k q _ h begun = absurd (false≢true begun)

coordinator_up : (k : CState) (node : NodeName) (a : Answer) → CRightIn true k (request.Halted node) a → IsTrue (tells_nothing a)
coordinator_up k node (answer.Begun tx) h = absurd h
coordinator_up k node (answer.Decided number) h = absurd h
coordinator_up k node answer.Active h = absurd h
coordinator_up k node answer.Aborted h = absurd h
coordinator_up k node (answer.Row row) h = absurd h
coordinator_up k node (answer.Rows rows) h = absurd h
coordinator_up k node (answer.Keys keys) h = absurd h
coordinator_up k node (answer.Vote floor) h = absurd h
coordinator_up k node (answer.Started doubts) h = absurd h
coordinator_up k node (answer.Fault area) h = absurd h
coordinator_up k node _ h = refl

coordinator_down : (k : CState) (node : NodeName) (a : Answer) → CRightIn false k (request.Halted node) a → IsTrue (tells_nothing a)
coordinator_down k node answer.Down h = refl
coordinator_down k node _ h = absurd h

coordinator_beside : (up : Bool) (k : CState) (q : Request) (a : Answer) → CRightIn up k q a → IsTrue (is_managed q) → IsTrue (tells_nothing a)
coordinator_beside true k (request.Enter tx owner) a h managed = coordinator_up k (record { 0 = 0 }) a h
coordinator_beside true k (request.Wait tx node path wanted holders) a h managed = coordinator_up k node a h
coordinator_beside true k (request.Ready tx) a h managed = coordinator_up k (record { 0 = 0 }) a h
coordinator_beside true k (request.End tx left) a h managed = coordinator_up k (record { 0 = 0 }) a h
coordinator_beside true k (request.Settled tx node) a h managed = coordinator_up k node a h
coordinator_beside true k (request.Halted node) a h managed = coordinator_up k node a h
coordinator_beside false k (request.Enter tx owner) a h managed = coordinator_down k (record { 0 = 0 }) a h
coordinator_beside false k (request.Wait tx node path wanted holders) a h managed = coordinator_down k node a h
coordinator_beside false k (request.Ready tx) a h managed = coordinator_down k (record { 0 = 0 }) a h
coordinator_beside false k (request.End tx left) a h managed = coordinator_down k (record { 0 = 0 }) a h
coordinator_beside false k (request.Settled tx node) a h managed = coordinator_down k node a h
coordinator_beside false k (request.Halted node) a h managed = coordinator_down k node a h
coordinator_beside _ k _ a h managed = absurd (false≢true managed)

coordinator_kind : (k : CState) (q : Request) (a : Answer) → CRightIn k.up k q a → IsOfNode 0 q a
coordinator_kind k q a right = record {
  begins = λ begun. (refl, coordinator_begun k.up k q a right begun);
  beside = λ which. elim which [ inl is ↦ absurd (omega (arith, is)) | inr managed ↦ coordinator_beside k.up k q a right managed ];
}

coordinator_all : (k l : CState) (asked : List Asked) → CRun k asked l → AreOfNode 0 asked
coordinator_all k l [] run = tt
coordinator_all k l (a ∷ more) (u, turns, run) = (coordinator_kind k a.request a.answer turns.right, coordinator_all u l more run)

-- ---- the manager

target_tells : (edges : List Edge) → tells_nothing (target_of edges) ≡ true
target_tells [] = refl
target_tells (e ∷ es) = refl

board_tells : (b c : Board) (q : Request) (a : Answer) → Steps b q a c → tells_nothing a ≡ true
board_tells b c q a (enters tx owner h) = refl
board_tells b c q a (entered_before tx owner h) = refl
board_tells b c q a (gone tx node path wanted holders can is) = refl
board_tells b c q a (cycle tx node path wanted holders es can is) = refl
board_tells b c q a (waits tx node path wanted holders can some none) = refl
board_tells b c q a (cannot_wait tx node path wanted holders cannot) = refl
board_tells b c q a (ready tx) = target_tells (waits_of b tx)
board_tells b c q a (ends tx set) = refl
board_tells b c q a (settles tx node) = refl
board_tells b c q a (halts node) = refl
board_tells b c q a (others x h) = refl
board_tells b c q a (no_memory x) = refl

board_all : (name : ℕ) (b c : Board) (asked : List Asked) → BoardRun b asked c → AreOfNode name asked
board_all name b c [] run = tt
board_all name b c (a ∷ more) (x, y, before, first, run) = (telling_nothing name a.request a.answer (board_tells x y a.request a.answer first), board_all name y c more run)

-- ---- any node

run_kinds : (name : ℕ) (origin t : State) (asked : List Asked) → IsOfName name origin → Runs origin asked t → AreOfNode name asked
run_kinds name (serving s) (serving t) asked of run = server_all name s t asked of.1 run
run_kinds name (deciding k) (deciding l) asked of run = subst (λ (n : ℕ). AreOfNode n asked) (sym of) (coordinator_all k l asked run)
run_kinds name (managing b) (managing c) asked of run = board_all name b c asked run
run_kinds name _ _ asked of run = absurd run

pub explained_kinds : (name : ℕ) (origin : State) (asked : List Asked) → IsOfName name origin × ((t : State) × Runs origin asked t) → AreOfNode name asked
explained_kinds name origin asked e = run_kinds name origin e.1.0 asked e.0 e.1.1

-- ---- one call more

kind_in : (node : ℕ) (q : Request) (a : Answer) (list : List Asked) → IsIn (asked q a) list → AreOfNode node list → IsOfNode node q a
kind_in node q a [] has each = absurd has
kind_in node q a (x ∷ xs) (inl is) each = subst (λ (y : Asked). IsOfNode node y.request y.answer) is each.0
kind_in node q a (x ∷ xs) (inr has) each = kind_in node q a xs has each.1

-- a call is of its node's kind, where the list that the node has then holds only such calls
pub call_kind : (old new : Lists) (node : ℕ) (q : Request) (a : Answer) → OneMore old new node q a → AreOfNode node (new node) → IsOfNode node q a
call_kind old new node q a more each = elim more.told [ inl nothing ↦ telling_nothing node q a nothing | inr has ↦ kind_in node q a (new node) has each ]
