-- Which kind of answer each node gives.
use Rattle.std.specs.Prelude.{◌≡◌, ◌⊎◌, ℕ, Bool, true, false, IsTrue}
use Rattle.hb_types.specs.declared.answer.Answer.{Answer}
use Rattle.hb_types.specs.declared.answer.Answer.TheVariants as answer
use Rattle.hb_types.specs.declared.request.Request.{Request}
use Rattle.hb_types.specs.declared.request.Request.TheVariants as request
use Rattle.hb_runs.specs.Board.{is_managed}

abbrev pub is_begin : Request → Bool
is_begin (request.Begin owner) = true
is_begin _ = false

abbrev pub is_begun : Answer → Bool
is_begun (answer.Begun tx) = true
is_begun _ = false

-- an answer that tells nothing of transactions, decisions and rows
abbrev pub tells_nothing : Answer → Bool
tells_nothing (answer.Begun tx) = false
tells_nothing (answer.Decided number) = false
tells_nothing answer.Active = false
tells_nothing answer.Aborted = false
tells_nothing (answer.Row row) = false
tells_nothing (answer.Rows rows) = false
tells_nothing (answer.Keys keys) = false
tells_nothing (answer.Vote floor) = false
tells_nothing (answer.Started doubts) = false
tells_nothing (answer.Fault area) = false
tells_nothing _ = true

-- What the node of this number answers: 0 is fes1, 10 is mgr. A transaction is begun by a Begin at fes1 alone. What mgr answers, and
-- what is answered to requests that are for mgr, tells nothing.
pub record IsOfNode (node : ℕ) (q : Request) (a : Answer) : Type 0 where
  pub begins : IsTrue (is_begun a) → (node ≡ 0) × IsTrue (is_begin q)
  pub beside : (node ≡ 10) ⊎ IsTrue (is_managed q) → IsTrue (tells_nothing a)
