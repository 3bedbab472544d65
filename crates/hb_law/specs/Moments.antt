-- The law of moments: whatever images are left at a moment are explained.
use Rattle.std.specs.Prelude.{◌≡◌, ℕ, zero, suc, ◌≤◌, ◌<◌, ◌⊎◌, List, [], ◌∷◌, ◌++◌, ⊤}
use Rattle.hb_types.specs.declared.trail.Call.{Call}
use Rattle.hb_model.specs.declared.reply.Reply.{Reply}
use Rattle.hb_types.specs.declared.answer.Answer.{Answer}
use Rattle.hb_types.specs.declared.request.Request.TheVariants as request
use Rattle.hb_types.specs.declared.request.Vote.{Vote}
use Rattle.std.specs.List.{AllZip}
use Rattle.hb_types.specs.Lists.{Each, Has, IsIn}
use Rattle.hb_model.specs.Items.{Item}
use Rattle.hb_model.specs.State.{State}
use Rattle.hb_disks.specs.Images.{Images, Logs, ReadAs}
use Rattle.hb_disks.specs.Points.{Format}
use Rattle.hb_disks.specs.StandsFor.{StandsWith, HaveBases}
use Rattle.hb_law.specs.Explained.{Explained}
use Rattle.hb_law.specs.Histories.{Trails, Labelled, Event, Shown, calls, shows, History, lines_in}
use Rattle.hb_law.specs.Transactions.{Txn, AreTxns, caller_of}
use Rattle.hb_law.specs.InTime.{InItsOrder}
use Rattle.hb_law.specs.Composition.{World, NodesRan, lists_of, Together, BalancedAtCompletes, ShowsItems, shown_of}

-- ---- moments

-- which images may be left of the system's disks at a moment
abbrev pub Left : Type 1
Left = ℕ → Images → Type 0

-- the same entry with another answer
abbrev pub answered_as : Answer → Labelled → Labelled
answered_as a l = record l { entry = record l.entry { answer = a } }

abbrev pub InProgress : ℕ → List Labelled → List Labelled → List Labelled → Type 0
InProgress moment done [] front = ⊥
InProgress moment done (l ∷ more) front = (l.entry.from ≤ moment) × ((a : Answer) × (front ≡ done ++ answered_as a l ∷ []))

-- the entries answered by a moment, perhaps with the call that was in progress, answered as it would have been
pub record IsTrailAt (moment : ℕ) (trail front : List Labelled) : Type 0 where
  pub done : List Labelled
  pub rest : List Labelled
  pub parts : trail ≡ done ++ rest
  pub over : Each (λ l. l.entry.to ≤ moment) done
  pub not_over : Each (λ l. moment < l.entry.to) rest
  pub last : (front ≡ done) ⊎ InProgress moment done rest front

-- Each node's law at a moment: its log image is that of a run of what it had answered, perhaps with the call in progress; its point and log agree.
pub record IsLeftRightly (format : Format) (w : World) (moment : ℕ) (images : Images) : Type 0 where
  pub logs : Logs
  pub fronts : Trails
  pub read : ReadAs images logs
  pub points : HaveBases format images.servers logs.servers
  pub at_moment : AllZip (IsTrailAt moment) w.trails fronts
  pub ran : NodesRan w.base logs fronts

-- all items of a transaction but its last
abbrev pub but_last : List Item → List Item
but_last [] = []
but_last (i ∷ []) = []
but_last (i ∷ j ∷ is) = i ∷ but_last (j ∷ is)

-- the part of a history at a moment: all calls that were over, perhaps with the one in progress, and all lines before the next
abbrev pub IsOver : ℕ → Event → Type 0
IsOver moment (calls c n entry) = entry.to ≤ moment
IsOver moment _ = ⊤

abbrev pub IsNotOver : ℕ → Event → Type 0
IsNotOver moment (calls c n entry) = moment < entry.to
IsNotOver moment _ = ⊤

abbrev pub CallInProgress : ℕ → List Event → List Event → List Event → Type 0
CallInProgress moment done (calls c n entry ∷ more) cut =
    (entry.from ≤ moment) × ((a : Answer) × (cut ≡ done ++ calls c n (record entry { answer = a }) ∷ []))
CallInProgress moment done _ cut = ⊥

-- no line is left out that may have been shown by then: the rest begins with a call
abbrev pub BeginsWithCall : List Event → Type 0
BeginsWithCall [] = ⊤
BeginsWithCall (calls c n entry ∷ es) = ⊤
BeginsWithCall (e ∷ es) = ⊥

pub record IsCut (moment : ℕ) (h cut : List Event) : Type 0 where
  pub done : List Event
  pub rest : List Event
  pub parts : h ≡ done ++ rest
  pub full : BeginsWithCall rest
  pub over : Each (IsOver moment) done
  pub not_over : Each (IsNotOver moment) rest
  pub last : (cut ≡ done) ⊎ CallInProgress moment done rest cut

-- ---- so many of the lines

-- the history with the first so many of its lines
abbrev pub with_first_lines : ℕ → List Event → List Event
with_first_lines n [] = []
with_first_lines zero (shows c p r ∷ es) = with_first_lines zero es
with_first_lines (suc n) (shows c p r ∷ es) = shows c p r ∷ with_first_lines n es
with_first_lines n (e ∷ es) = e ∷ with_first_lines n es

abbrev pub AsksToDecide : ℕ → Event → Type 0
AsksToDecide tx (calls c n entry) = (votes : List Vote) × (entry.request ≡ request.Decide (record { 0 = tx }) votes)
AsksToDecide tx _ = ⊥

abbrev pub AreIn : ℕ → List Shown → Item → Type 0
AreIn caller lines i = Each (λ l. IsIn l lines) (shown_of caller i)

-- lines don't lag behind a decision: where one was asked for, those of all items but the transaction's last were put
abbrev pub NoneLags : List Txn → ℕ → List Event → Type 0
NoneLags txns n cut =
    Each (λ t. Has (AsksToDecide t.tx) cut → Each (AreIn (caller_of t.owner) (lines_in (with_first_lines n cut))) (but_last t.items)) txns

-- calls as far as they came: the first of them, and perhaps the one in progress, whose answer may be another
abbrev pub LastAsked : List Call → List Call → List Call → Type 0
LastAsked done [] part = ⊥
LastAsked done (c ∷ more) part = (a : Answer) × (part ≡ done ++ record c { answer = a } ∷ [])

pub record AreSoFar (whole part : List Call) : Type 0 where
  pub done : List Call
  pub rest : List Call
  pub parts : whole ≡ done ++ rest
  pub last : (part ≡ done) ⊎ LastAsked done rest part

-- an item as far as it came: until it has made all of its calls it has no line
pub record IsPartOf (whole part : Item) : Type 0 where
  pub place : part.place ≡ whole.place
  pub doing : part.doing ≡ whole.doing
  pub calls_so_far : (part.calls ≡ whole.calls) ⊎ ((part.lines ≡ []) × AreSoFar whole.calls part.calls)
  pub lines_so_far : (rest : List Reply) × (whole.lines ≡ part.lines ++ rest)

-- the first of a list's items, each as far as it came
abbrev pub IsListPart : List Item → List Item → Type 0
IsListPart whole part = (front : List Item) × (back : List Item) × (whole ≡ front ++ back) × AllZip IsPartOf front part

-- the world at a moment of a run, with so many lines: the same base, these images, and what a cut has of the run's own lists
pub record IsWorldAt (format : Format) (w v : World) (cut : List Event) (n : ℕ) (images : Images) : Type 0 where
  pub same_base : (v.base_images ≡ w.base_images) × (v.base ≡ w.base)
  pub these_images : v.images ≡ images
  pub lists : AllZip IsListPart w.lists v.lists
  pub txns : AreTxns v.lists v.txns
  pub history : History (with_first_lines n cut) v.trails (lists_of v) v.lines
  pub shown : ShowsItems v.lists v.lines
  pub stands : (s : State) × StandsWith format v.images v.logs s
  pub explained : Explained v.base v.logs v.txns (with_first_lines n cut) v.lines
  pub balanced : BalancedAtCompletes v

-- At each moment, whatever images are left stand for a system and explain each front of the lines that does not lag.
abbrev pub moment : Format → Type 1
moment format =
    (left : Left) (w : World) (h : List Event) → Together format w → History h w.trails (lists_of w) w.lines → InItsOrder h w.lists
    → ((m : ℕ) (images : Images) → left m images → IsLeftRightly format w m images)
    → (m : ℕ) (images : Images) → left m images
    → (cut : List Event) × IsCut m h cut × ((n : ℕ) → NoneLags w.txns n cut → (v : World) × IsWorldAt format w v cut n images)
