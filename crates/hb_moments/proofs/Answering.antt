-- What nodes answer in their runs is of their kind.
use Rattle.std.proofs.Common.{◌≡◌, ℕ, ◌+◌, ◌<◌, ◌≤◌, zero, suc, Bool, true, false, List, [], ◌∷◌, Some, arith, inl, inr, length, refl, subst}
use Rattle.std.specs.Prelude.{IsTrue, slice_get}
use Rattle.std.proofs.lemmas.Bool.{false≢true}
use Rattle.hb_types.specs.declared.answer.Answer.{Answer}
use Rattle.hb_types.specs.declared.answer.Answer.TheVariants as answer
use Rattle.hb_types.specs.declared.request.Request.{Request}
use Rattle.hb_types.specs.declared.request.Request.TheVariants as request
use Rattle.hb_types.specs.Lists.{IsIn}
use Rattle.hb_loglaws.proofs.Members.{map_in}
use Rattle.hb_disks.specs.Images.{Logs}
use Rattle.hb_runs.specs.Board.{is_managed}
use Rattle.hb_runs.specs.Coordinator as coordinator
use Rattle.hb_runs.specs.Kinds.{IsOfNode, is_begin, is_begun, tells_nothing}
use Rattle.hb_runs.specs.Server as server_state
use Rattle.hb_runs.specs.ServerAnswers as server
use Rattle.hb_runs.specs.ServerRuns.{Asked, Run}
use Rattle.hb_law.specs.Composition.{NodesRan}
use Rattle.hb_law.specs.Histories.{Labelled, Trails, asked, asked_of}
use Rattle.hb_whose.proofs.Parts.{none_some}
use Rattle.hb_whose.proofs.Trailing.{got}

-- ---- a server

server_begun : (s : server_state.SState) (q : Request) (a : Answer) → server.UpRight s q a → is_begun a ≡ true → ⊥
server_begun s q (answer.Begun tx) r e = never q r
  where
    never : (q : Request) → server.UpRight s q (answer.Begun tx) → ⊥
    never (request.Read t place) r = r.shows
    never (request.Scan t space) r = r.shows
    never (request.ScanGroup t space group) r = r.shows
    never q r = r
server_begun s q a r e = absurd (false≢true e)

server_down_begun : (s : server_state.SState) (q : Request) (a : Answer) → server.DownRight s q a → is_begun a ≡ true → ⊥
server_down_begun s q (answer.Begun tx) r e = never q r
  where
    never : (q : Request) → server.DownRight s q (answer.Begun tx) → ⊥
    never request.Start r = r
    never q r = r
server_down_begun s q a r e = absurd (false≢true e)

server_managed : (s : server_state.SState) (q : Request) (a : Answer) → IsTrue (is_managed q) → server.UpRight s q a → IsTrue (tells_nothing a)
server_managed s (request.Enter tx o) answer.NotMine h r = refl
server_managed s (request.Enter tx o) a h r = absurd r
server_managed s (request.Wait tx n p w hs) answer.NotMine h r = refl
server_managed s (request.Wait tx n p w hs) a h r = absurd r
server_managed s (request.Ready tx) answer.NotMine h r = refl
server_managed s (request.Ready tx) a h r = absurd r
server_managed s (request.End tx left) answer.NotMine h r = refl
server_managed s (request.End tx left) a h r = absurd r
server_managed s (request.Settled tx n) answer.NotMine h r = refl
server_managed s (request.Settled tx n) a h r = absurd r
server_managed s (request.Halted n) answer.NotMine h r = refl
server_managed s (request.Halted n) a h r = absurd r
server_managed s q a h r = absurd (false≢true h)

server_down_managed : (s : server_state.SState) (q : Request) (a : Answer) → IsTrue (is_managed q) → server.DownRight s q a → IsTrue (tells_nothing a)
server_down_managed s (request.Enter tx o) answer.Down h r = refl
server_down_managed s (request.Enter tx o) a h r = absurd r
server_down_managed s (request.Wait tx n p w hs) answer.Down h r = refl
server_down_managed s (request.Wait tx n p w hs) a h r = absurd r
server_down_managed s (request.Ready tx) answer.Down h r = refl
server_down_managed s (request.Ready tx) a h r = absurd r
server_down_managed s (request.End tx left) answer.Down h r = refl
server_down_managed s (request.End tx left) a h r = absurd r
server_down_managed s (request.Settled tx n) answer.Down h r = refl
server_down_managed s (request.Settled tx n) a h r = absurd r
server_down_managed s (request.Halted n) answer.Down h r = refl
server_down_managed s (request.Halted n) a h r = absurd r
server_down_managed s q a h r = absurd (false≢true h)

server_begins : (up : Bool) (s : server_state.SState) (q : Request) (a : Answer) → server.RightIn up s q a → is_begun a ≡ true → ⊥
server_begins true s q answer.NoMemory r e = false≢true e
server_begins true s q a r e = server_begun s q a r e
server_begins false s q a r e = server_down_begun s q a r e

server_tells : (up : Bool) (s : server_state.SState) (q : Request) (a : Answer) → server.RightIn up s q a → IsTrue (is_managed q) → IsTrue (tells_nothing a)
server_tells true s q answer.NoMemory r h = refl
server_tells true s q a r h = server_managed s q a h r
server_tells false s q a r h = server_down_managed s q a h r

-- ---- fes1

fes_begun : (k : coordinator.CState) (q : Request) (a : Answer) → coordinator.UpRight k q a → is_begun a ≡ true → IsTrue (is_begin q)
fes_begun k q (answer.Begun tx) r e = only q r
  where
    only : (q : Request) → coordinator.UpRight k q (answer.Begun tx) → IsTrue (is_begin q)
    only (request.Begin owner) r = refl
    only q r = absurd r
fes_begun k q a r e = absurd (false≢true e)

fes_down_begun : (q : Request) (a : Answer) → coordinator.DownRight q a → is_begun a ≡ true → ⊥
fes_down_begun q (answer.Begun tx) r e = never q r
  where
    never : (q : Request) → coordinator.DownRight q (answer.Begun tx) → ⊥
    never request.Start r = r
    never q r = r
fes_down_begun q a r e = absurd (false≢true e)

fes_managed : (k : coordinator.CState) (q : Request) (a : Answer) → IsTrue (is_managed q) → coordinator.UpRight k q a → IsTrue (tells_nothing a)
fes_managed k (request.Enter tx o) answer.NotMine h r = refl
fes_managed k (request.Enter tx o) a h r = absurd r
fes_managed k (request.Wait tx n p w hs) answer.NotMine h r = refl
fes_managed k (request.Wait tx n p w hs) a h r = absurd r
fes_managed k (request.Ready tx) answer.NotMine h r = refl
fes_managed k (request.Ready tx) a h r = absurd r
fes_managed k (request.End tx left) answer.NotMine h r = refl
fes_managed k (request.End tx left) a h r = absurd r
fes_managed k (request.Settled tx n) answer.NotMine h r = refl
fes_managed k (request.Settled tx n) a h r = absurd r
fes_managed k (request.Halted n) answer.NotMine h r = refl
fes_managed k (request.Halted n) a h r = absurd r
fes_managed k q a h r = absurd (false≢true h)

fes_down_managed : (q : Request) (a : Answer) → IsTrue (is_managed q) → coordinator.DownRight q a → IsTrue (tells_nothing a)
fes_down_managed (request.Enter tx o) answer.Down h r = refl
fes_down_managed (request.Enter tx o) a h r = absurd r
fes_down_managed (request.Wait tx n p w hs) answer.Down h r = refl
fes_down_managed (request.Wait tx n p w hs) a h r = absurd r
fes_down_managed (request.Ready tx) answer.Down h r = refl
fes_down_managed (request.Ready tx) a h r = absurd r
fes_down_managed (request.End tx left) answer.Down h r = refl
fes_down_managed (request.End tx left) a h r = absurd r
fes_down_managed (request.Settled tx n) answer.Down h r = refl
fes_down_managed (request.Settled tx n) a h r = absurd r
fes_down_managed (request.Halted n) answer.Down h r = refl
fes_down_managed (request.Halted n) a h r = absurd r
fes_down_managed q a h r = absurd (false≢true h)

fes_begins : (up : Bool) (k : coordinator.CState) (q : Request) (a : Answer) → coordinator.RightIn up k q a → is_begun a ≡ true → IsTrue (is_begin q)
fes_begins true k q answer.NoMemory r e = absurd (false≢true e)
fes_begins true k q a r e = fes_begun k q a r e
fes_begins false k q a r e = absurd (fes_down_begun q a r e)

fes_tells : (up : Bool) (k : coordinator.CState) (q : Request) (a : Answer) → coordinator.RightIn up k q a → IsTrue (is_managed q) → IsTrue (tells_nothing a)
fes_tells true k q answer.NoMemory r h = refl
fes_tells true k q a r h = fes_managed k q a h r
fes_tells false k q a r h = fes_down_managed q a h r

-- ---- in runs

server_right : (s t : server_state.SState) (trail : List Asked) (a : Asked) → Run s trail t → IsIn a trail → (u : server_state.SState) × server.Right u a.request a.answer
server_right s t [] a run h = absurd h
server_right s t (b ∷ trail) a run (inl e) = (s, subst (λ z. server.Right s z.request z.answer) e run.1.right)
server_right s t (b ∷ trail) a run (inr h) = server_right run.0 t trail a run.2 h

fes_right : (s t : coordinator.CState) (trail : List Asked) (a : Asked) → coordinator.CRun s trail t → IsIn a trail → (u : coordinator.CState) × coordinator.Right u a.request a.answer
fes_right s t [] a run h = absurd h
fes_right s t (b ∷ trail) a run (inl e) = (s, subst (λ z. coordinator.Right s z.request z.answer) e run.1.right)
fes_right s t (b ∷ trail) a run (inr h) = fes_right run.0 t trail a run.2 h

pub below_got : {A : Type 0} (xs : List A) (k : ℕ) (x : A) → slice_get xs k ≡ Some x → k < length xs
below_got [] k x g = absurd (none_some x g)
below_got (y ∷ ys) zero x g = omega arith
below_got (y ∷ ys) (suc k) x g = let h = below_got ys k x g in omega (arith, h)

module _ (base logs : Logs) (trails : Trails) (ran : NodesRan base logs trails) (few : length base.servers ≤ 9) (trail : List Labelled) (l : Labelled) (i : IsIn l trail) where
  its : IsIn (asked l.entry) (asked_of trail)
  its = map_in (λ m. asked m.entry) l trail i

  not_mgr : (k : ℕ) → k < 10 → (k ≡ 10) → ⊥
  not_mgr k lt e = omega (arith, lt, e)

  of_fes : slice_get trails 0 ≡ Some trail → IsOfNode 0 l.entry.request l.entry.answer
  of_fes g =
      let r = ran.fes trail g in
      let u = fes_right _ r.last (asked_of trail) (asked l.entry) r.ran its in
      record {
        begins = λ b. (refl, fes_begins u.0.up u.0 l.entry.request l.entry.answer u.1 b);
        beside = λ h. elim h [ inl e ↦ absurd (not_mgr 0 (omega arith) e) | inr m ↦ fes_tells u.0.up u.0 l.entry.request l.entry.answer u.1 m ];
      }

  of_server : (k : ℕ) → slice_get trails (suc k) ≡ Some trail → IsOfNode (suc k) l.entry.request l.entry.answer
  of_server k g =
      let lt = below_got trails (suc k) trail g in
      let n : length trails ≡ length base.servers + 1 = ran.nodes in
      let s : length logs.servers ≡ length base.servers = ran.same in
      let before = got base.servers k (omega (arith, lt, n)) in
      let after = got logs.servers k (omega (arith, lt, n, s)) in
      let one : suc k ≡ k + 1 = omega arith in
      let r = ran.servers k before.0 after.0 trail before.1 after.1 (subst (λ z. slice_get trails z ≡ Some trail) one g) in
      let u = server_right _ r.last (asked_of trail) (asked l.entry) r.ran its in
      record {
        begins = λ b. absurd (server_begins u.0.up u.0 l.entry.request l.entry.answer u.1 b);
        beside =
            λ h. elim h [
              | inl e ↦ absurd (not_mgr (suc k) (omega (arith, lt, n, few)) e)
              | inr m ↦ server_tells u.0.up u.0 l.entry.request l.entry.answer u.1 m
            ];
      }

  pub of_node : (node : ℕ) → slice_get trails node ≡ Some trail → IsOfNode node l.entry.request l.entry.answer
  of_node zero g = of_fes g
  of_node (suc k) g = of_server k g
