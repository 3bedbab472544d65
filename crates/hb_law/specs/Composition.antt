-- The law of composition: what nodes and callers do gives disks that stand for a system and explain what was shown.
use Rattle.std.specs.Prelude.{◌≡◌, ℕ, ◌+◌, ◌≤◌, ◌<◌, ◌==◌, ◌⊎◌, not, ◌&&◌, List, [], ◌∷◌, ◌++◌, filter, flat_map, map, length, Some, slice_get, ⊤}
use Rattle.hb_types.specs.declared.change.LogItem.{LogItem}
use Rattle.hb_types.specs.declared.trail.Call.{Call}
use Rattle.hb_types.specs.Lists.{Each, Has, IsIn}
use Rattle.hb_model.specs.declared.reply.Reply.{Reply}
use Rattle.hb_model.specs.declared.reply.Reply.TheVariants as reply
use Rattle.hb_model.specs.Items.{Item, Doing, tending, turn, calls_of}
use Rattle.hb_model.specs.State.{State}
use Rattle.hb_disks.specs.Balanced.{Balanced}
use Rattle.hb_disks.specs.Images.{Images, Logs, ReadAs, family_below}
use Rattle.hb_disks.specs.Points.{Format}
use Rattle.hb_disks.specs.Redo.{redo}
use Rattle.hb_disks.specs.LogPlaces.{end_behind}
use Rattle.hb_disks.specs.StandsFor.{StandsWith, HaveBases, back_ends}
use Rattle.hb_runs.specs.ServerRuns as server
use Rattle.hb_runs.specs.Server as server_state
use Rattle.hb_runs.specs.Coordinator as coordinator
use Rattle.hb_law.specs.Answering.{IsOfSystem}
use Rattle.hb_law.specs.Callers.{Obeys}
use Rattle.hb_law.specs.Explained.{Explained, ExplainedApart}
use Rattle.hb_law.specs.Histories.{Trails, Labelled, Event, Shown, asked_of, Merged, History}
use Rattle.hb_law.specs.InTime.{InItsOrder, is_busy}
use Rattle.hb_law.specs.Transactions.{Txn, AreTxns, IsRightTxn, IsTurning, OutcomesTold, ShowsAnswered}
use Rattle.hb_disks.specs.Redo.{Decided}

-- what is told of a run: the disks at its start and at one moment, the trails, and the callers' lists with their transactions and lines
pub record World : Type 0 where
  pub base_images : Images
  pub base : Logs
  pub images : Images
  pub logs : Logs
  pub trails : Trails
  pub lists : List (List Item)
  pub txns : List Txn
  pub lines : List Shown

-- ---- nodes

-- a server's trail leads from its base to a log
pub record ServerRan (before after : List LogItem) (trail : List Labelled) : Type 0 where
  pub last : server_state.SState
  pub ran : server.Run (server.stopped_at (redo before) (end_behind 0 before)) (asked_of trail) last
  pub log : after ≡ before ++ last.log

pub record CoordinatorRan (before after : List LogItem) (trail : List Labelled) : Type 0 where
  pub last : coordinator.CState
  pub ran : coordinator.CRun (coordinator.stopped_at before) (asked_of trail) last
  pub log : after ≡ last.log

-- each node's trail leads from its log at the start to its log; fes1's trail is the first
pub record NodesRan (base logs : Logs) (trails : Trails) : Type 0 where
  pub nodes : length trails ≡ length base.servers + 1
  pub same : length logs.servers ≡ length base.servers
  pub fes : (trail : List Labelled) → slice_get trails 0 ≡ Some trail → CoordinatorRan base.fes logs.fes trail
  pub servers : (i : ℕ) (before after : List LogItem) (trail : List Labelled) → slice_get base.servers i ≡ Some before → slice_get logs.servers i ≡ Some after
      → slice_get trails (i + 1) ≡ Some trail → ServerRan before after trail

-- ---- lines

abbrev pub shown_of : ℕ → Item → List Shown
shown_of caller i = map (λ r. record { caller = caller; place = i.place; reply = r }) i.lines

-- a caller's lines, but BUSY, which is shown while another work goes on
abbrev pub lines_by : ℕ → List Shown → List Shown
lines_by caller lines = filter (λ l. (l.caller == caller) && not (is_busy l.reply)) lines

-- the lines of each caller are those of its items, each once and in order
pub record ShowsItems (lists : List (List Item)) (lines : List Shown) : Type 0 where
  pub same : (caller : ℕ) (list : List Item) → slice_get lists caller ≡ Some list → lines_by caller lines ≡ lines_by caller (flat_map (shown_of caller) list)
  pub callers : Each (λ l. l.caller < length lists) lines

-- the place and the doing of the last work, which an item of no work leaves
abbrev pub place_behind : ℕ → Item → ℕ
place_behind last i = of i.doing
  where
    of : Doing → ℕ
    of tending = last
    of doing = i.place

abbrev pub doing_behind : Doing → Doing → Doing
doing_behind before tending = before
doing_behind before doing = doing

abbrev pub IsPlaced : ℕ → Doing → ℕ → Doing → Type 0
IsPlaced last before place tending = ⊤
IsPlaced last before place doing = (last < place) ⊎ ((last ≡ place) × (before ≡ doing) × IsTurning doing)

-- the places of a session's works ascend; items of one place are turns of one work
abbrev pub ArePlaced : ℕ → Doing → List Item → Type 0
ArePlaced last before [] = ⊤
ArePlaced last before (i ∷ is) = IsPlaced last before i.place i.doing × ArePlaced (place_behind last i) (doing_behind before i.doing) is

abbrev pub AllPlaced : List (List Item) → Type 0
AllPlaced lists = (caller : ℕ) (list : List Item) → slice_get lists (caller + 1) ≡ Some list → ArePlaced 0 tending list

abbrev pub lists_of : World → List (List Call)
lists_of w = map calls_of w.lists

-- each caller's list obeys; 0 is the operator's, and session s has list s + 1
abbrev pub AllObey : List (List Call) → Type 0
AllObey lists = (caller : ℕ) (list : List Call) → slice_get lists (caller + 1) ≡ Some list → Obeys caller list

-- the operator begins nothing, and settles as any other
abbrev pub OperatorObeys : List (List Call) → Type 0
OperatorObeys lists = (list : List Call) → slice_get lists 0 ≡ Some list → Obeys (length lists) list

-- ---- the premises of the law, of one run

pub record Together (format : Format) (w : World) : Type 0 where
  pub start : State
  pub stood : StandsWith format w.base_images w.base start
  pub read : ReadAs w.images w.logs
  pub points : HaveBases format w.images.servers w.logs.servers
  pub nodes : NodesRan w.base w.logs w.trails
  pub merged : Merged w.trails (lists_of w)
  pub placed : AllPlaced w.lists
  pub obey : AllObey (lists_of w)
  pub operator : OperatorObeys (lists_of w)
  pub system : Each (Each IsOfSystem) (lists_of w)
  pub back_ends_few : (2 ≤ length w.base.servers) × (length w.base.servers ≤ 9)
  pub txns : AreTxns w.lists w.txns
  pub right : Each (IsRightTxn (back_ends w.base)) w.txns
  pub outcomes : Each (OutcomesTold w.txns) w.lists
  pub numbers : Each (Each ShowsAnswered) w.lists
  pub shown : ShowsItems w.lists w.lines

-- ---- the law

abbrev pub IsComplete : Reply → ℕ → Type 0
IsComplete (reply.Complete number) n = number.0 ≡ n
IsComplete _ n = ⊥

-- where a line shows a table complete, it is balanced at that number
abbrev pub BalancedAtCompletes : World → Type 0
BalancedAtCompletes w =
    (t : Txn) (i : Item) (table : List ℕ) (most n : ℕ) → IsIn t w.txns → IsIn i t.items → i.doing ≡ turn table most → Has (λ r. IsComplete r n) i.lines
    → Balanced (back_ends w.logs) (family_below w.logs (n + 1)) table

-- nothing of time: all that needs no order of events
abbrev pub composition : Format → Type 0
composition format =
    (w : World) → Together format w
    → ((s : State) × StandsWith format w.images w.logs s) × ((further : List Decided) × ExplainedApart w.base w.logs w.txns w.lines further) × BalancedAtCompletes w

-- of one thread of steps: a history of the same trails, lists and lines, in which each caller did its items in their order, gives the order too
abbrev pub composition_run : Format → Type 0
composition_run format =
    (w : World) (h : List Event) → Together format w → History h w.trails (lists_of w) w.lines → InItsOrder h w.lists → Explained w.base w.logs w.txns h w.lines
