-- The law of moments in parts: the cut of a history, the callers' lists at it, and its first lines.
use Rattle.std.specs.Prelude.{◌≡◌, ◌⊎◌, ℕ, ◌≤◌, true, List, [], ◌∷◌, ◌++◌, Some, flat_map, length, map, slice_get}
use Rattle.std.specs.List.{AllZip}
use Rattle.hb_types.specs.declared.answer.Answer.TheVariants as answer
use Rattle.hb_types.specs.declared.change.LogItem.{LogItem}
use Rattle.hb_types.specs.declared.names.Owner.{Owner}
use Rattle.hb_types.specs.declared.request.Request.TheVariants as request
use Rattle.hb_types.specs.declared.trail.Call.{Call}
use Rattle.hb_types.specs.declared.trail.TrailEntry.{TrailEntry}
use Rattle.hb_law.specs.Composition.{AllObey, AllPlaced, CoordinatorRan, NodesRan, OperatorObeys, ShowsItems, Together, World, lists_of}
use Rattle.hb_law.specs.Histories.{Event, History, Labelled, Merged, Shown, Trails, calls, lines_in, trail_in}
use Rattle.hb_types.specs.Lists.{Each, IsIn}
use Rattle.hb_model.specs.Answers.{is_grant}
use Rattle.hb_model.specs.Asked.{AreWhereAsked}
use Rattle.hb_model.specs.Items.{Item, calls_of}
use Rattle.hb_disks.specs.Disks.{written}
use Rattle.hb_disks.specs.Images.{Images, Logs}
use Rattle.hb_runs.specs.Kinds.{IsOfNode}
use Rattle.hb_law.specs.Answering.{IsOfSystem}
use Rattle.hb_law.specs.InTime.{InItsOrder, deeds_in, deeds_of}
use Rattle.hb_law.specs.Moments.{IsCut, IsLeftRightly, IsPartOf, IsTrailAt, answered_as, with_first_lines}
use Rattle.hb_law.specs.Ordered.{InOrder}
use Rattle.hb_law.specs.Transactions.{IsBoundItem, ShowsAnswered, Txn}
use Rattle.hb_parts.specs.Callings.{Callings}

abbrev pub LastAtNode : Trails → List Event → List Event → Type 0
LastAtNode fronts done cut =
    (caller : ℕ) × (node : ℕ) × (entry : TrailEntry) × (front : List Labelled) × (slice_get fronts node ≡ Some front)
    × (cut ≡ done ++ calls caller node entry ∷ [])

-- the history up to a moment, with the call in progress where a node has it, and that answer
pub record HasCut (moment : ℕ) (h : List Event) (fronts : Trails) : Type 0 where
  pub cut : List Event
  pub is_cut : IsCut moment h cut
  pub are_trails : (node : ℕ) (front : List Labelled) → slice_get fronts node ≡ Some front → front ≡ trail_in node cut
  -- the call in progress is at a node that has a trail
  pub at_node : (cut ≡ is_cut.done) ⊎ LastAtNode fronts is_cut.done cut

abbrev pub CutsAre : Type 0
CutsAre =
    (moment : ℕ) (h : List Event) (trails fronts : Trails) (lists : List (List Call)) (lines : List Shown)
    → History h trails lists lines → AllZip (IsTrailAt moment) trails fronts → HasCut moment h fronts

-- a caller's items at a cut: they are whole, and behind them is perhaps one more as far as it came
abbrev pub IsAmid : List Item → List Item → List Item → Type 0
IsAmid whole [] came = ⊥
IsAmid whole (i ∷ more) came = (part : Item) × IsPartOf i part × (came ≡ whole ++ part ∷ [])

pub record CameTo (list came : List Item) : Type 0 where
  pub whole : List Item
  pub rest : List Item
  pub parts : list ≡ whole ++ rest
  pub last : (came ≡ whole) ⊎ IsAmid whole rest came

-- the callers' lists at a cut do what the cut has
pub record AreListsAt (cut : List Event) (lists came : List (List Item)) : Type 0 where
  pub parts : AllZip CameTo lists came
  pub deeds : (caller : ℕ) (list : List Item) → slice_get came caller ≡ Some list → deeds_in caller cut ≡ flat_map deeds_of list

-- where callers did their items in their order, a cut has such lists
abbrev pub HasLists : Type 0
HasLists =
    (moment : ℕ) (h cut : List Event) (lists : List (List Item)) → IsCut moment h cut → InItsOrder h lists
    → (came : List (List Item)) × AreListsAt cut lists came

-- trails, lists and lines of one history are merged
abbrev pub HistoriesMerge : Type 0
HistoriesMerge = (h : List Event) (trails : Trails) (lists : List (List Call)) (lines : List Shown) → History h trails lists lines → Merged trails lists

-- the trails and lists at a cut, with all of its lines, are those of one history, and show their items
abbrev pub CutsAreHistories : Type 0
CutsAreHistories =
    (moment : ℕ) (h cut : List Event) (trails fronts : Trails) (lists came : List (List Item)) (lines : List Shown)
    → IsCut moment h cut → History h trails (map calls_of lists) lines → length fronts ≡ length trails
    → ((node : ℕ) (front : List Labelled) → slice_get fronts node ≡ Some front → front ≡ trail_in node cut)
    → ShowsItems lists lines → AreListsAt cut lists came
    → History cut fronts (map calls_of came) (lines_in cut) × ShowsItems came (lines_in cut)

-- what holds of callers' whole lists does so at a cut: they obey, their places ascend, and they show numbers that were answered
pub record KeepWithin (came : List (List Item)) : Type 0 where
  pub obey : AllObey (map calls_of came)
  pub operator : OperatorObeys (map calls_of came)
  pub placed : AllPlaced came
  pub numbers : Each (Each ShowsAnswered) came

abbrev pub ListsKeepWithin : Type 0
ListsKeepWithin =
    (lists came : List (List Item)) → AllObey (map calls_of lists) → OperatorObeys (map calls_of lists) → AllPlaced lists → Each (Each ShowsAnswered) lists
    → AllZip CameTo lists came → KeepWithin came

-- what a node answered in its run is of its kind
abbrev pub AnswersAreOfNodes : Type 0
AnswersAreOfNodes =
    (base logs : Logs) (trails : Trails) (trail : List Labelled) (l : Labelled) (node : ℕ) → NodesRan base logs trails → length base.servers ≤ 9
    → IsIn l trail → slice_get trails node ≡ Some trail → IsOfNode node l.entry.request l.entry.answer

-- what is so of an item whatever it was answered is so of it as far as it came, where no lock was granted to it but in the whole
abbrev pub PartsAreBound : Type 0
PartsAreBound =
    (whole part : Item) → IsPartOf whole part → AreWhereAsked whole.calls
    → ((c : Call) → IsIn c part.calls → is_grant c.request c.answer ≡ true → IsIn c whole.calls) → IsBoundItem whole → IsBoundItem part

-- a Begin that was asked last leaves the log that it leaves where memory was wanting
abbrev pub BeginsMayFail : Type 0
BeginsMayFail =
    (before after : List LogItem) (done : List Labelled) (l : Labelled) (owner : Owner) (tx : ℕ) → l.entry.request ≡ request.Begin owner
    → l.entry.answer ≡ answer.Begun (record { 0 = tx }) → CoordinatorRan before after (done ++ l ∷ [])
    → CoordinatorRan before after (done ++ answered_as answer.NoMemory l ∷ [])

-- at a cut each call was answered as a system answers, the one in progress too
abbrev pub CutsAreOfSystem : Type 0
CutsAreOfSystem =
    (base logs : Logs) (moment : ℕ) (h : List Event) (trails fronts : Trails) (lists came : List (List Call)) (lines shown : List Shown)
    (k : HasCut moment h fronts) → History h trails lists lines → History k.cut fronts came shown → length came ≡ length lists
    → NodesRan base logs fronts → length base.servers ≤ 9 → Each (Each IsOfSystem) lists → Each (Each IsOfSystem) came

-- What a moment of a run leaves, with all lines of its cut: a history, lists as far as they came, and all premises of the law of
-- composition but those on transactions and outcomes.
pub record AtMoment (w : World) (h : List Event) (moment : ℕ) (logs : Logs) (fronts : Trails) : Type 0 where
  pub has_cut : HasCut moment h fronts
  pub came : List (List Item)
  pub lists : AreListsAt has_cut.cut w.lists came
  pub history : History has_cut.cut fronts (map calls_of came) (lines_in has_cut.cut)
  pub shown : ShowsItems came (lines_in has_cut.cut)
  pub within : KeepWithin came
  pub callings : Callings w.base logs fronts (map calls_of came)

abbrev pub MomentsAreCallings : Type 0
MomentsAreCallings =
    (w : World) (h : List Event) (moment : ℕ) (images : Images) → Together written w → History h w.trails (lists_of w) w.lines → InItsOrder h w.lists
    → (left : IsLeftRightly written w moment images) → AtMoment w h moment left.logs left.fronts

-- a transaction as far as it came, which begins as the other does
pub record BeginsAs (t u : Txn) : Type 0 where
  pub owner : u.owner ≡ t.owner
  pub tx : u.tx ≡ t.tx
  pub first : (i : Item) (more : List Item) → t.items ≡ i ∷ more → (j : Item) × (others : List Item) × (u.items ≡ j ∷ others) × (j.place ≡ i.place) × (j.doing ≡ i.doing)

-- what stands in order does so with the first of its lines alone
abbrev pub FirstLinesInOrder : Type 0
FirstLinesInOrder =
    (logs : Logs) (txns shorter : List Txn) (h : List Event) (n : ℕ) → ((t : Txn) → IsIn t shorter → (u : Txn) × IsIn u txns × BeginsAs t u)
    → InOrder logs txns h → InOrder logs shorter (with_first_lines n h)
