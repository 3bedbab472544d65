-- Callers' lists and nodes' trails: merged by labels, and as one history.
use Rattle.std.specs.Prelude.{◌≡◌, ◌⊎◌, ℕ, ◌≤◌, ◌<◌, ◌==◌, Bool, not, if◌then◌else◌, List, [], ◌∷◌, map, filter, length, Some, slice_get, ⊤}
use Rattle.hb_types.specs.declared.trail.Call.{Call}
use Rattle.hb_types.specs.declared.trail.TrailEntry.{TrailEntry}
use Rattle.hb_types.specs.Calls.{may_pass}
use Rattle.hb_types.specs.Lists.{Each, EachBehind}
use Rattle.hb_model.specs.declared.reply.Reply.{Reply}
use Rattle.hb_runs.specs.ServerRuns.{Asked}

-- an entry of a trail with the caller that made it: 0 is the operator, and the sessions follow
pub record Labelled : Type 0 where
  pub caller : ℕ
  pub entry : TrailEntry

-- the trails of the nodes: fes1, ds and the back ends, in the order of their names
abbrev pub Trails : Type 0
Trails = List (List Labelled)

abbrev pub asked : TrailEntry → Asked
asked e = record { request = e.request; answer = e.answer }

abbrev pub asked_of : List Labelled → List Asked
asked_of trail = map (λ l. asked l.entry) trail

abbrev pub asked_by : Call → Asked
asked_by c = record { request = c.request; answer = c.answer }

-- what can be told by its answer to stand
abbrev pub stands : Asked → Bool
stands a = not (may_pass a.request a.answer)

-- a caller's entries in a trail, and a caller's calls at a node
abbrev pub entries_of : ℕ → List Labelled → List Asked
entries_of caller [] = []
entries_of caller (l ∷ ls) = if l.caller == caller then asked l.entry ∷ entries_of caller ls else entries_of caller ls

abbrev pub calls_at : ℕ → List Call → List Asked
calls_at node [] = []
calls_at node (c ∷ cs) = if c.node.0 == node then asked_by c ∷ calls_at node cs else calls_at node cs

-- mgr, whose trail is no part of the law
abbrev pub mgr : ℕ
mgr = 10

-- a node that has a trail, or mgr
abbrev pub IsNode : ℕ → ℕ → Type 0
IsNode nodes n = (n < nodes) ⊎ (n ≡ mgr)

-- for each node and caller, what stands in the trail is what stands in the list
pub record Merged (trails : Trails) (lists : List (List Call)) : Type 0 where
  pub same : (node caller : ℕ) (trail : List Labelled) (list : List Call) → slice_get trails node ≡ Some trail → slice_get lists caller ≡ Some list
      → filter stands (entries_of caller trail) ≡ filter stands (calls_at node list)
  pub callers : Each (λ trail. Each (λ l. l.caller < length lists) trail) trails
  pub here : Each (λ list. Each (λ c. IsNode (length trails) c.node.0) list) lists

-- ---- the trail of a desk, which labels its entries itself

abbrev pub labelled : List TrailEntry → List Labelled
labelled trail = map (λ e. record { caller = e.caller; entry = e }) trail

-- each entry of a caller has a greater number than those of that caller before it, from 1 on
abbrev pub AreNumbered : List TrailEntry → Type 0
AreNumbered trail = EachBehind (λ before e. (1 ≤ e.nth) × Each (λ b. b.caller ≡ e.caller → b.nth < e.nth) before) [] trail

-- ---- one history

-- the work at this place is given to a session; a caller calls a node; a line of the work at this place is shown
pub data Event : Type 0 where
  gives : (caller : ℕ) → (place : ℕ) → Event
  calls : (caller : ℕ) → (node : ℕ) → (entry : TrailEntry) → Event
  shows : (caller : ℕ) → (place : ℕ) → (reply : Reply) → Event

abbrev pub trail_in : ℕ → List Event → List Labelled
trail_in node [] = []
trail_in node (calls caller n entry ∷ es) = if n == node then record { caller = caller; entry = entry } ∷ trail_in node es else trail_in node es
trail_in node (e ∷ es) = trail_in node es

abbrev pub list_in : ℕ → List Event → List Call
list_in caller [] = []
list_in caller (calls c n entry ∷ es) =
    if c == caller then record { node = record { 0 = n }; request = entry.request; answer = entry.answer } ∷ list_in caller es else list_in caller es
list_in caller (e ∷ es) = list_in caller es

-- a line: whose it is, of which work, and what it says
pub record Shown : Type 0 where
  pub caller : ℕ
  pub place : ℕ
  pub reply : Reply

abbrev pub lines_in : List Event → List Shown
lines_in [] = []
lines_in (shows caller place reply ∷ es) = record { caller = caller; place = place; reply = reply } ∷ lines_in es
lines_in (e ∷ es) = lines_in es

-- calls come one after another: each begins at a moment not before the one before it ended
abbrev pub IsTimely : ℕ → List Event → Type 0
IsTimely moment [] = ⊤
IsTimely moment (calls c n entry ∷ es) = (moment ≤ entry.from) × (entry.from ≤ entry.to) × IsTimely entry.to es
IsTimely moment (e ∷ es) = IsTimely moment es

-- a call is of a caller that has a list, at a node that has a trail or at mgr
abbrev pub IsHere : ℕ → ℕ → Event → Type 0
IsHere nodes callers (calls c n entry) = IsNode nodes n × (c < callers)
IsHere nodes callers _ = ⊤

-- trails, lists and lines are those of one history of one thread
pub record History (h : List Event) (trails : Trails) (lists : List (List Call)) (lines : List Shown) : Type 0 where
  pub are_trails : (node : ℕ) (trail : List Labelled) → slice_get trails node ≡ Some trail → trail ≡ trail_in node h
  pub are_lists : (caller : ℕ) (list : List Call) → slice_get lists caller ≡ Some list → list ≡ list_in caller h
  pub are_lines : lines ≡ lines_in h
  pub here : Each (IsHere (length trails) (length lists)) h
  pub timely : IsTimely 0 h
