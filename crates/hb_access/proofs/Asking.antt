-- What an access asks first, by what its transaction has used.
use Rattle.std.proofs.Common.{◌≡◌, ℕ, zero, suc, ◌+◌, ◌/◌, ◌%◌, ◌^◌, ◌<◌, ◌==◌, Bool, true, false, nat_le, List, Option, Some, None, Result, Ok, Err, refl, ap, sym, ◌∙◌, arith}
use Rattle.std.specs.Prelude.{if◌then◌else◌}
use Rattle.hb_types.specs.declared.answer.Answer.{Answer}
use Rattle.hb_types.specs.declared.change.Change.{Change}
use Rattle.hb_types.specs.declared.change.Stored.{Stored}
use Rattle.hb_types.specs.declared.places.Place.{Place}
use Rattle.hb_types.specs.declared.places.Path.{Path}
use Rattle.hb_types.specs.declared.places.Path.TheVariants as path
use Rattle.hb_types.specs.declared.request.Request.{Request}
use Rattle.hb_types.specs.declared.request.Request.TheVariants as request
use Rattle.hb_model.specs.Needs.{most_locks}
use Rattle.hb_model.specs.NodeSets.{has_node, with_node}
use Rattle.hb_model.specs.declared.reply.Reply.{Reply}
use Rattle.hb_model.specs.declared.reply.Reply.TheVariants as reply
use Rattle.hb_talk.specs.Talk.{Talk, says, asks, going_on, Use, Planning, ◌>>=◌, ◌>>◌, pure, and_then, met, done, the_tx, the_row, the_rows, expect, joining}
use Rattle.hb_talk.proofs.Bits.{with_it}
use Rattle.hb_access.specs.declared.goal.Goal.{Goal}
use Rattle.hb_access.specs.declared.goal.Got.{Got}
use Rattle.hb_access.specs.declared.goal.Got.TheVariants as got
use Rattle.hb_access.specs.Accesses.{Ended, locked, behind_lock, under, written, once_done, once_enlisted, joined_or, as_row, as_rows, found_under}

-- the use with a node's branch
abbrev pub with_branch : ℕ → Use → Use
with_branch n u = record u { used = with_node u.used n }

abbrev pub with_lock : Use → Use
with_lock u = record u { locks = u.locks + 1 }

-- ---- locks

-- the Lock behind its Enlist
abbrev locking : Goal → Planning (Unit {0})
locking g = λ u.
    if nat_le most_locks u.locks then says (Err reply.TooMuch, u) else expect done g.node.0 (request.Lock (the_tx u) g.path g.mode) (with_lock u)

-- what follows an Enlist is the whole again
again : (g : Goal) (u : Use) (r : Result (Unit {0}) Reply)
    → going_on (λ r. and_then (λ _. behind_lock g) r.1 r.0) (going_on (λ r. and_then (λ _. locking g) r.1 r.0) (and_then (λ _. joining g.node.0) u r))
    ≡ joined_or u.used (locked g) (with_branch g.node.0 u) r
again g u (Ok x) = rw (with_it u.used g.node.0) refl
again g u (Err e) = refl

-- the whole, by whether the node is in the set
abbrev by_set : Goal → Use → Bool → Talk Ended
by_set g u b = going_on (λ r. and_then (λ _. behind_lock g) r.1 r.0) (going_on (λ r. and_then (λ _. locking g) r.1 r.0)
    (if b then says (Ok tt, u) else (expect done g.node.0 (request.Enlist (the_tx u)) >> joining g.node.0) u))

pub enlists_first : (g : Goal) (u : Use) → has_node u.used g.node.0 ≡ false
    → locked g u ≡ asks g.node.0 (request.Enlist (the_tx u)) (once_enlisted g.node.0 u.used (locked g) (with_branch g.node.0 u))
enlists_first g u free =
    let asked : locked g u ≡ by_set g u false = ap (by_set g u) free in
    asked ∙ (λ i. asks g.node.0 (request.Enlist (the_tx u)) (λ a. again g u (met g.node.0 a (done a)) i))

pub locks_next : (g : Goal) (u : Use) → has_node u.used g.node.0 ≡ true → nat_le most_locks u.locks ≡ false
    → locked g u ≡ asks g.node.0 (request.Lock (the_tx u) g.path g.mode) (once_done g.node.0 (behind_lock g) (with_lock u))
locks_next g u has room = rw (has, room) refl

pub locks_full : (g : Goal) (u : Use) → has_node u.used g.node.0 ≡ true → nat_le most_locks u.locks ≡ true → locked g u ≡ says (Err reply.TooMuch, u)
locks_full g u has full = rw (has, full) refl

-- ---- what lies under a path

row_found : (node : ℕ) (a : Answer) (u : Use) (o : Option (Option (List ℕ)))
    → and_then (λ row. pure (got.Row row)) u (met node a o) ≡ says (met node a (as_row o), u)
row_found node a u None = refl
row_found node a u (Some row) = refl

rows_found : (node : ℕ) (a : Answer) (u : Use) (o : Option (List Stored))
    → and_then (λ rows. pure (got.Rows rows)) u (met node a o) ≡ says (met node a (as_rows o), u)
rows_found node a u None = refl
rows_found node a u (Some rows) = refl

-- the request that fetches what lies under a path
abbrev pub fetch_of : Use → Path → Request
fetch_of u (path.Whole s) = request.Scan (the_tx u) s
fetch_of u (path.Group s g) = request.ScanGroup (the_tx u) s g
fetch_of u (path.Key p) = request.Read (the_tx u) p

pub fetches_next : (node : ℕ) (p : Path) (u : Use) → under node p u ≡ asks node (fetch_of u p) (λ a. says (met node a (found_under p a), u))
fetches_next node (path.Whole s) u = λ i. asks node (request.Scan (the_tx u) s) (λ a. rows_found node a u (the_rows a) i)
fetches_next node (path.Group s g) u = λ i. asks node (request.ScanGroup (the_tx u) s g) (λ a. rows_found node a u (the_rows a) i)
fetches_next node (path.Key p) u = λ i. asks node (request.Read (the_tx u) p) (λ a. row_found node a u (the_row a) i)

-- ---- writes

again_write : (node : ℕ) (c : Change) (u : Use) (r : Result (Unit {0}) Reply)
    → going_on (λ r. and_then (λ _. pure got.Nothing) r.1 r.0)
    (going_on (λ r. and_then (λ _. λ u. expect done node (request.Write (the_tx u) c) u) r.1 r.0) (and_then (λ _. joining node) u r))
    ≡ joined_or u.used (written node c) (with_branch node u) r
again_write node c u (Ok x) = rw (with_it u.used node) refl
again_write node c u (Err e) = refl

abbrev by_set_write : ℕ → Change → Use → Bool → Talk Ended
by_set_write node c u b = going_on (λ r. and_then (λ _. pure got.Nothing) r.1 r.0) (going_on (λ r. and_then (λ _. λ u. expect done node (request.Write (the_tx u) c) u) r.1 r.0)
    (if b then says (Ok tt, u) else (expect done node (request.Enlist (the_tx u)) >> joining node) u))

pub enlists_before_write : (node : ℕ) (c : Change) (u : Use) → has_node u.used node ≡ false
    → written node c u ≡ asks node (request.Enlist (the_tx u)) (once_enlisted node u.used (written node c) (with_branch node u))
enlists_before_write node c u free =
    let asked : written node c u ≡ by_set_write node c u false = ap (by_set_write node c u) free in
    asked ∙ (λ i. asks node (request.Enlist (the_tx u)) (λ a. again_write node c u (met node a (done a)) i))

pub writes_next : (node : ℕ) (c : Change) (u : Use) → has_node u.used node ≡ true
    → written node c u ≡ asks node (request.Write (the_tx u) c) (once_done node (pure got.Nothing) u)
writes_next node c u has = rw has refl
