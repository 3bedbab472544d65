-- A world with a decision: a session creates an area on an empty system and commits it, ds votes, fes1 decides, and ds commits.
use Rattle.std.proofs.Common.{◌≡◌, ◌≢◌, ◌⊎◌, ℕ, zero, suc, ◌+◌, ◌≤◌, ◌<◌, Bool, true, false, List, [], ◌∷◌, ◌++◌, Some, None, Ok, refl, subst, sym, ap, ◌∙◌, arith, lit≤, lit<, inl, inr}
use Rattle.std.specs.Prelude.{codes, slice_get, filter, flat_map, All}
use Rattle.std.specs.Int.{w64}
use Rattle.std.proofs.lemmas.Bool.{false≢true}
use Rattle.std.proofs.lemmas.Int.{fits_signed_from_abs}
use Rattle.hb_types.specs.declared.answer.Answer.TheVariants as answer
use Rattle.hb_types.specs.declared.change.Change.{Change}
use Rattle.hb_types.specs.declared.change.LogItem.{LogItem}
use Rattle.hb_types.specs.declared.change.LogItem.TheVariants as item
use Rattle.hb_types.specs.declared.lock.Held.{Held}
use Rattle.hb_types.specs.declared.lock.Mode.TheVariants as mode
use Rattle.hb_types.specs.declared.names.NodeName.{NodeName}
use Rattle.hb_types.specs.declared.names.Number.{Number}
use Rattle.hb_types.specs.declared.names.Owner.{Owner}
use Rattle.hb_types.specs.declared.names.Tx.{Tx}
use Rattle.hb_types.specs.declared.places.Path.{Path}
use Rattle.hb_types.specs.declared.places.Path.TheVariants as path
use Rattle.hb_types.specs.declared.request.Request.TheVariants as request
use Rattle.hb_types.specs.declared.request.Vote.{Vote}
use Rattle.hb_types.specs.declared.trail.Call.{Call}
use Rattle.hb_types.specs.Lists.{Each, Has, IsIn}
use Rattle.hb_types.specs.Records.{framed, IsChange, record_length}
use Rattle.hb_types.specs.Rows.{HaveRow, HasBytes}
use Rattle.hb_types.specs.Places.{IsPath}
use Rattle.hb_model.specs.declared.reply.Reply.{Reply}
use Rattle.hb_model.specs.declared.reply.Reply.TheVariants as reply
use Rattle.hb_model.specs.declared.statement.Statement.{Statement}
use Rattle.hb_model.specs.declared.statement.Statement.TheVariants as statement
use Rattle.hb_model.specs.Answers.{AnswersOf, afters, call, HasAsked, is_decide}
use Rattle.hb_model.specs.Define.{new_area}
use Rattle.hb_model.specs.Dictionary.{area_row, at_place}
use Rattle.hb_model.specs.Faithful.{Faithful}
use Rattle.hb_model.specs.Items.{Item, sql, tending, nothing_spent}
use Rattle.hb_model.specs.Spots.{areas_space, dictionary_space}
use Rattle.hb_model.specs.State.{Area, State, nothing}
use Rattle.hb_disks.specs.Disks.{written}
use Rattle.hb_model.specs.Families.{EachServer}
use Rattle.hb_model.specs.System.{Sys}
use Rattle.hb_disks.specs.Images.{Images, Logs, HasItems, decided, family}
use Rattle.hb_disks.specs.StandsFor.{Agrees, AreLogs, StandsWith}
use Rattle.hb_disks.specs.Logless.{empty_images, empty_logs, empty_server}
use Rattle.hb_disks.specs.LogPlaces.{end_behind}
use Rattle.hb_disks.specs.Points.{HasBase}
use Rattle.hb_disks.specs.Redo.{redo}
use Rattle.hb_disks.proofs.Empty.{empty_stands_with, empty_items, empty_base}
use Rattle.hb_runs.specs.Board.{is_managed}
use Rattle.hb_runs.specs.Coordinator as coordinator
use Rattle.hb_runs.specs.Server as server
use Rattle.hb_runs.specs.ServerEffects as effect
use Rattle.hb_runs.specs.ServerRuns as runs
use Rattle.hb_talk.specs.Moves.{fresh}
use Rattle.hb_talk.specs.PlansDefine.{plan}
use Rattle.hb_talk.specs.Talk.{Follows, Use, asked, ends}
use Rattle.hb_faithful.specs.Planned.{FollowsPlan, Opens}
use Rattle.hb_faithful.proofs.Does.{plan_does}
use Rattle.hb_faithful.proofs.Faithfuls.{plan_faithful}
use Rattle.hb_law.specs.Answering.{IsOfSystem, tells_nothing}
use Rattle.hb_law.specs.Callers.{Obeys, MayEnlist, IsOpen, MayDecide, is_begun}
use Rattle.hb_alone.specs.RunThrough.{RunThrough}
use Rattle.hb_alone.proofs.Running.{items_run_alone}
use Rattle.hb_law.specs.Explained.{ExplainedApart}
use Rattle.hb_law.specs.RunAlone.{RunsAlone}
use Rattle.hb_law.specs.Composition.{World, Together, BalancedAtCompletes, IsComplete, NodesRan, CoordinatorRan, ServerRan, lists_of, AllObey, OperatorObeys, AllPlaced, ArePlaced, ShowsItems, lines_by, shown_of}
use Rattle.hb_law.specs.Histories.{Labelled, Merged, Trails, Shown, stands, entries_of, calls_at}
use Rattle.hb_plancalc.specs.Counted.{IsWithin}
use Rattle.hb_law.specs.Transactions.{Txn, OwnersApart, IsTxnOf, IsRightTxn, IsSomebodys}

-- ---- the world

abbrev pub t1 : Tx
t1 = record { 0 = 1 }

abbrev pub n1 : Number
n1 = record { 0 = 1 }

abbrev pub s1 : Owner
s1 = record { session = 0; nth = 1 }

abbrev pub votes : List Vote
votes = record { node = record { 0 = 1 }; floor = record { 0 = 0 } } ∷ []

abbrev pub area : Area
area = new_area nothing (codes "A") 1

abbrev pub row : Change
row = let r = at_place areas_space 0 area.number (area_row area) in record { place = r.place; row = Some r.row }

abbrev pub areas : Path
areas = path.Whole (dictionary_space areas_space)

abbrev pub held : Held
held = record { path = areas; mode = mode.X }

abbrev pub started : ℕ → Call
started node = call node request.Start (answer.Started [])

abbrev pub begins : Call
begins = call 0 (request.Begin s1) (answer.Begun t1)

abbrev pub enters : Call
enters = call 10 (request.Enter t1 s1) answer.Done

abbrev pub enlists : Call
enlists = call 1 (request.Enlist t1) answer.Done

abbrev pub locks : Call
locks = call 1 (request.Lock t1 areas mode.X) answer.Done

abbrev pub scans : Call
scans = call 1 (request.Scan t1 (dictionary_space areas_space)) (answer.Rows [])

abbrev pub writes : Call
writes = call 1 (request.Write t1 row) answer.Done

abbrev pub prepares : Call
prepares = call 1 (request.Prepare t1) (answer.Vote (record { 0 = 0 }))

abbrev pub decides : Call
decides = call 0 (request.Decide t1 votes) (answer.Decided n1)

abbrev pub commits : Call
commits = call 1 (request.Commit t1 n1) answer.Done

abbrev pub leaves : Call
leaves = call 10 (request.End t1 (record { 0 = 0 })) answer.Done

abbrev pub opening : List Call
opening = started 0 ∷ started 1 ∷ []

abbrev pub planned : List Call
planned = enlists ∷ locks ∷ scans ∷ writes ∷ []

abbrev pub made_by : List Call
made_by = begins ∷ enters ∷ planned

abbrev pub committed_by : List Call
committed_by = prepares ∷ decides ∷ commits ∷ leaves ∷ []

abbrev pub all_asked : List Call
all_asked = made_by ++ committed_by ++ []

abbrev pub create : Statement
create = statement.CreateArea (codes "A") (codes "bes1")

abbrev pub committed : Reply
committed = reply.Committed n1

abbrev pub opens : Item
opens = record { place = 0; doing = tending; calls = opening; lines = [] }

abbrev pub makes : Item
makes = record { place = 1; doing = sql create; calls = made_by; lines = reply.Created ∷ [] }

abbrev pub closes : Item
closes = record { place = 2; doing = sql statement.Commit; calls = committed_by; lines = committed ∷ [] }

abbrev pub all_lists : List (List Item)
all_lists = (opens ∷ []) ∷ (makes ∷ closes ∷ []) ∷ []

abbrev pub by : ℕ → Call → Labelled
by caller c = record { caller = caller; entry = record { caller = caller; nth = 1; request = c.request; answer = c.answer; from = 0; to = 0 } }

abbrev pub fes_trail : List Labelled
fes_trail = by 0 (started 0) ∷ by 1 begins ∷ by 1 decides ∷ []

abbrev pub ds_trail : List Labelled
ds_trail = by 0 (started 1) ∷ by 1 enlists ∷ by 1 locks ∷ by 1 scans ∷ by 1 writes ∷ by 1 prepares ∷ by 1 commits ∷ []

abbrev pub all_trails : Trails
all_trails = fes_trail ∷ ds_trail ∷ [] ∷ []

abbrev pub reserved : LogItem
reserved = item.Ids 1000

abbrev pub decision : LogItem
decision = item.Decision t1 n1 (record { 0 = 1 } ∷ [])

abbrev pub vote : LogItem
vote = item.Prepare t1 (record { 0 = 0 }) (held ∷ []) (row ∷ [])

abbrev pub end : LogItem
end = item.Commit t1 n1

abbrev pub two_records : LogItem → LogItem → List ℕ
two_records i j = 1 ∷ framed i ++ 1 ∷ framed j ++ 0 ∷ []

abbrev pub after_images : Images
after_images = record { fes = two_records reserved decision; servers = record { log = two_records vote end; area = [] } ∷ empty_server ∷ [] }

abbrev pub after_logs : Logs
after_logs = record { fes = reserved ∷ decision ∷ []; servers = (vote ∷ end ∷ []) ∷ [] ∷ [] }

abbrev pub began : Txn
began = record { owner = s1; tx = 1; items = makes ∷ closes ∷ [] }

abbrev pub all_lines : List Shown
all_lines = record { caller = 1; place = 1; reply = reply.Created } ∷ record { caller = 1; place = 2; reply = committed } ∷ []

abbrev pub world : World
world =
    record {
      base_images = empty_images;
      base = empty_logs;
      images = after_images;
      logs = after_logs;
      trails = all_trails;
      lists = all_lists;
      txns = began ∷ [];
      lines = all_lines;
    }

-- ---- small steps

some_is : {A : Type 0} (x y : A) → Some x ≡ Some y → x ≡ y
some_is x y h = cc

pub none_is : {A B : Type 0} (x : A) → None ≡ Some x → B
none_is x h = cc

pub at_two : {A B : Type 0} (P : A → B → Type 0) (a x : A) (b y : B) → Some a ≡ Some x → Some b ≡ Some y → P a b → P x y
at_two P a x b y e f p = subst (λ z. P x z) (some_is b y f) (subst (λ z. P z b) (some_is a x e) p)

pub at_one : {A : Type 0} (P : A → Type 0) (a x : A) → Some a ≡ Some x → P a → P x
at_one P a x e p = subst P (some_is a x e) p

pub neither : {A B : Type 0} → (A → ⊥) → (B → ⊥) → A ⊎ B → ⊥
neither f g (inl a) = f a
neither f g (inr b) = g b

pub nobody : ⊥ → ⊥
nobody h = h

-- ---- nodes

abbrev pub s0 : server.SState
s0 = runs.stopped_at (redo []) (end_behind 0 [])

abbrev pub sa : server.SState
sa = effect.happens s0 effect.came_up

abbrev pub sb : server.SState
sb = effect.happens sa (effect.enlisted 1)

abbrev pub sc : server.SState
sc = effect.happens sb (effect.granted 1 areas mode.X)

abbrev pub sd : server.SState
sd = effect.happens sc (effect.written 1 row)

abbrev pub se : server.SState
se = effect.happens sd (effect.prepared 1)

abbrev pub sf : server.SState
sf = effect.happens se (effect.committed 1 1)

abbrev pub new_branch : server.Branch
new_branch = record { tx = 1; locks = []; own = [] }

abbrev pub locked : server.Branch
locked = record { tx = 1; locks = held ∷ []; own = [] }

abbrev pub wrote : server.Branch
wrote = record { tx = 1; locks = held ∷ []; own = row ∷ [] }

ds_ran : ServerRan [] (vote ∷ end ∷ []) ds_trail
ds_ran =
    record {
      last = sf;
      ran = (
        sa,
        record { effects = effect.came_up ∷ []; causes = refl; right = refl; steps = (refl, refl) },
        (
          sb,
          record { effects = effect.enlisted 1 ∷ []; causes = inl (nobody, refl); right = tt; steps = (nobody, refl) },
          (
            sc,
            record {
              effects = effect.granted 1 areas mode.X ∷ [];
              causes = refl;
              right = inl refl;
              steps = ((new_branch, (inl refl, refl), tt, (((λ n. absurd (n refl)), tt))), refl);
            },
            (
              sc,
              record { effects = []; causes = refl; right = record { branch = locked; live = (inl refl, refl); covered = inl (inl refl); shows = refl }; steps = refl },
              (
                sd,
                record { effects = effect.written 1 row ∷ []; causes = refl; right = tt; steps = ((locked, (inl refl, refl), inr (inl (inl refl))), refl) },
                (
                  se,
                  record { effects = effect.prepared 1 ∷ []; causes = refl; right = refl; steps = ((wrote, (inl refl, refl), (lit≤ tt, lit≤ tt)), refl) },
                  (sf, record { effects = effect.committed 1 1 ∷ []; causes = refl; right = tt; steps = ((0, inl (refl, refl), lit< tt), refl) }, refl),
                ),
              ),
            ),
          ),
        ),
      );
      log = refl;
    }

bes_ran : ServerRan [] [] []
bes_ran = record { last = _; ran = refl; log = refl }

abbrev pub k0 : coordinator.CState
k0 = coordinator.stopped_at []

abbrev pub k1 : coordinator.CState
k1 = coordinator.happens k0 coordinator.came_up

abbrev pub k2 : coordinator.CState
k2 = coordinator.happens (coordinator.happens k1 (coordinator.reserved 1000)) (coordinator.begun 1)

abbrev pub k3 : coordinator.CState
k3 = coordinator.happens (coordinator.happens k2 (coordinator.decided 1 1 (record { 0 = 1 } ∷ []))) (coordinator.ended 1)

fes_ran : CoordinatorRan [] (reserved ∷ decision ∷ []) fes_trail
fes_ran =
    record {
      last = k3;
      ran = (
        k1,
        record { effects = coordinator.came_up ∷ []; causes = refl; right = refl; steps = (refl, refl) },
        (
          k2,
          record {
            effects = coordinator.reserved 1000 ∷ coordinator.begun 1 ∷ [];
            causes = (coordinator.reserved 1000 ∷ [], inr (lit< tt, refl), refl);
            right = refl;
            steps = ((lit< tt, lit≤ tt, lit≤ tt), ((refl, lit≤ tt), refl));
          },
          (
            k3,
            record {
              effects = coordinator.decided 1 1 (record { 0 = 1 } ∷ []) ∷ coordinator.ended 1 ∷ [];
              causes = refl;
              right = refl;
              steps = ((inl refl, lit< tt, lit≤ tt, lit≤ tt), (inl refl, refl));
            },
            refl,
          ),
        ),
      );
      log = refl;
    }

nodes_ran : NodesRan empty_logs after_logs all_trails
nodes_ran =
    record {
      nodes = refl;
      same = refl;
      fes = λ trail h. at_one (λ t. CoordinatorRan [] (reserved ∷ decision ∷ []) t) fes_trail trail h fes_ran;
      servers = ran;
    }
  where
    three : (b before a after : List LogItem) (t trail : List Labelled) → Some b ≡ Some before → Some a ≡ Some after → Some t ≡ Some trail → ServerRan b a t
        → ServerRan before after trail
    three b before a after t trail e f g r =
        at_one (λ x. ServerRan before after x) t trail g (at_two (λ x y. ServerRan x y t) b before a after e f r)

    ran : (i : ℕ) (before after : List LogItem) (trail : List Labelled) → slice_get empty_logs.servers i ≡ Some before → slice_get after_logs.servers i ≡ Some after
        → slice_get all_trails (i + 1) ≡ Some trail → ServerRan before after trail
    ran zero before after trail b a t = three [] before (vote ∷ end ∷ []) after ds_trail trail b a t ds_ran
    ran (suc zero) before after trail b a t = three [] before [] after [] trail b a t bes_ran
    ran (suc (suc i)) before after trail b a t = none_is before b

-- ---- lists

abbrev Same : ℕ → ℕ → List Labelled → List Call → Type 0
Same node caller trail list = filter stands (entries_of caller trail) ≡ filter stands (calls_at node list)

lists_merged : Merged all_trails (lists_of world)
lists_merged =
    record {
      same = same;
      callers = (
        (lit< tt, (lit< tt, (lit< tt, tt))),
        ((lit< tt, (lit< tt, (lit< tt, (lit< tt, (lit< tt, (lit< tt, (lit< tt, tt))))))), (tt, tt)),
      );
      here = (
        (inl (lit< tt), (inl (lit< tt), tt)),
        ((inl (lit< tt), (inr refl, (inl (lit< tt), (inl (lit< tt), (inl (lit< tt), (inl (lit< tt), (inl (lit< tt), (inl (lit< tt), (inl (lit< tt), (inr refl, tt)))))))))), tt),
      );
    }
  where
    same : (node caller : ℕ) (trail : List Labelled) (list : List Call) → slice_get all_trails node ≡ Some trail → slice_get (lists_of world) caller ≡ Some list
        → filter stands (entries_of caller trail) ≡ filter stands (calls_at node list)
    same zero zero trail list t l = at_two (Same 0 0) fes_trail trail (opening ++ []) list t l refl
    same zero (suc zero) trail list t l = at_two (Same 0 1) fes_trail trail all_asked list t l refl
    same (suc zero) zero trail list t l = at_two (Same 1 0) ds_trail trail (opening ++ []) list t l refl
    same (suc zero) (suc zero) trail list t l = at_two (Same 1 1) ds_trail trail all_asked list t l refl
    same (suc (suc zero)) zero trail list t l = at_two (Same 2 0) [] trail (opening ++ []) list t l refl
    same (suc (suc zero)) (suc zero) trail list t l = at_two (Same 2 1) [] trail all_asked list t l refl
    same (suc (suc (suc n))) caller trail list t l = none_is trail t
    same node (suc (suc n)) trail list t l = none_is list l

-- ---- the session obeys

pub no : {A : Type 0} → false ≡ true → A
no h = absurd (false≢true h)

-- the calls since the Begin that neither decide nor undo nor prepare
abbrev pub a1 : List Call
a1 = enters ∷ []

abbrev pub a2 : List Call
a2 = enters ∷ enlists ∷ []

abbrev pub a3 : List Call
a3 = enters ∷ enlists ∷ locks ∷ []

abbrev pub a4 : List Call
a4 = enters ∷ enlists ∷ locks ∷ scans ∷ []

abbrev pub a5 : List Call
a5 = enters ∷ planned

abbrev pub a6 : List Call
a6 = enters ∷ planned ++ prepares ∷ []

may_enlist : MayEnlist 1 a1
may_enlist = record { once = neither (λ h. false≢true h.1) nobody; undecided = neither false≢true nobody; not_undone = neither false≢true nobody }

open_2 : IsOpen 1 a2
open_2 =
    record {
      enlisted = inr (inl (refl, refl));
      unprepared = neither (λ h. false≢true h.1) (neither (λ h. false≢true h.1) nobody);
      undecided = neither false≢true (neither false≢true nobody);
      not_undone = neither false≢true (neither false≢true nobody);
    }

open_3 : IsOpen 1 a3
open_3 =
    record {
      enlisted = inr (inl (refl, refl));
      unprepared = neither (λ h. false≢true h.1) (neither (λ h. false≢true h.1) (neither (λ h. false≢true h.1) nobody));
      undecided = neither false≢true (neither false≢true (neither false≢true nobody));
      not_undone = neither false≢true (neither false≢true (neither false≢true nobody));
    }

open_4 : IsOpen 1 a4
open_4 =
    record {
      enlisted = inr (inl (refl, refl));
      unprepared = neither (λ h. false≢true h.1) (neither (λ h. false≢true h.1) (neither (λ h. false≢true h.1) (neither (λ h. false≢true h.1) nobody)));
      undecided = neither false≢true (neither false≢true (neither false≢true (neither false≢true nobody)));
      not_undone = neither false≢true (neither false≢true (neither false≢true (neither false≢true nobody)));
    }

open_5 : IsOpen 1 a5
open_5 =
    record {
      enlisted = inr (inl (refl, refl));
      unprepared = neither (λ h. false≢true h.1) (neither (λ h. false≢true h.1) (neither (λ h. false≢true h.1) (neither (λ h. false≢true h.1) (neither (λ h. false≢true h.1) nobody))));
      undecided = neither false≢true (neither false≢true (neither false≢true (neither false≢true (neither false≢true nobody))));
      not_undone = neither false≢true (neither false≢true (neither false≢true (neither false≢true (neither false≢true nobody))));
    }

may_decide : MayDecide votes a6
may_decide =
    record {
      told = refl;
      all = ((λ h. no h), ((λ h. inl refl), ((λ h. no h), ((λ h. no h), ((λ h. no h), ((λ h. no h), tt))))));
      undecided = neither false≢true (neither false≢true (neither false≢true (neither false≢true (neither false≢true (neither false≢true nobody)))));
      not_undone = neither false≢true (neither false≢true (neither false≢true (neither false≢true (neither false≢true (neither false≢true nobody)))));
    }

session_obeys : Obeys 0 all_asked
session_obeys = (
  (refl, refl),
  (
    tt,
    (
      (refl, may_enlist),
      (
        (refl, open_2),
        (
          (refl, open_3),
          (
            (refl, open_4),
            ((refl, open_5), ((refl, may_decide), (inl (refl, (inr (inl (refl, refl)), inr (inr (inr (inr (inr (inr (inl (refl, refl))))))))), (tt, tt)))),
          ),
        ),
      ),
    ),
  ),
)

obey : AllObey (lists_of world)
obey zero list h = at_one (Obeys 0) all_asked list h session_obeys
obey (suc n) list h = none_is list (subst (λ k. slice_get (lists_of world) k ≡ Some list) (next n) h)
  where
    next : (n : ℕ) → suc n + 1 ≡ suc (suc n)
    next n = omega arith

operator : OperatorObeys (lists_of world)
operator list h = at_one (Obeys 2) (opening ++ []) list h (tt, (tt, tt))

-- ---- transactions

began_here : IsTxnOf all_lists began
began_here =
    record {
      front = [];
      stretch = makes ∷ closes ∷ [];
      back = [];
      first = makes;
      others = closes ∷ [];
      parts = refl;
      own = refl;
      items = refl;
      begins = record { before = []; begin = begins; more = enters ∷ planned; parts = refl; begun = refl; apart = tt; none_before = refl; none_behind = refl };
      asked = ((refl, inl (inl refl)), tt);
      counted = refl;
      over = tt;
      turns = (tt, (tt, tt));
    }

-- the use of ds with one lock, and a change of so many bytes
abbrev pub in_the_end : Use
in_the_end = record (fresh 1) { used = 2; locks = 1; bytes = 27 }

follows : Follows false (plan 1 create (fresh 1)) planned (Ok reply.Created, in_the_end)
unfolding plan
follows = asked answer.Done refl (asked answer.Done refl (asked (answer.Rows []) refl (asked answer.Done refl ends)))

none_decides : ¬ (HasAsked is_decide made_by)
none_decides = neither false≢true (neither false≢true (neither false≢true (neither false≢true (neither false≢true (neither false≢true nobody)))))

within : IsWithin (fresh 1)
within = record { locks = omega arith; bytes = omega arith }

opens_it : Opens (begins ∷ enters ∷ [])
opens_it = record { beside = (refl, (refl, tt)); no_rows = refl; undoes_none = (refl, (refl, tt)) }

follows_plan : FollowsPlan 1 create (fresh 1) made_by reply.Created
follows_plan =
    record {
      front = begins ∷ enters ∷ [];
      asked = planned;
      back = [];
      parts = refl;
      outcome = Ok reply.Created;
      last = in_the_end;
      follows = follows;
      replies = refl;
      opens = opens_it;
      closes = record { beside = tt; undone = λ h. no h };
    }

-- by the law of plans, whatever the rows are that these are the answers of
faithful : (full : Bool) × Faithful 1 nothing_spent full create made_by reply.Created
faithful = plan_faithful create (plan_does create refl) 1 (fresh 1) made_by reply.Created (lit≤ tt) within follows_plan

right : IsRightTxn 1 began
right =
    record {
      right = λ d o. (faithful, (((refl, refl), inr (inl (refl, refl))), tt));
      bound = (
        (none_decides, faithful.1.locks, (record { replied = refl; of_select = λ h. no h; undone = λ h. no h; sourced = faithful.1.sourced }, tt)),
        (((refl, refl), inr (inl (refl, refl))), tt),
      );
      kinds = inl ((tt, (tt, tt)), (refl, lit≤ tt));
      named = ((tt, tt), ((tt, tt), tt));
      begins = tt;
    }

somebodys : (caller : ℕ) (list : List Item) → slice_get all_lists caller ≡ Some list → Each (IsSomebodys (began ∷ []) caller) list
somebodys zero list h = at_one (Each (IsSomebodys (began ∷ []) 0)) (opens ∷ []) list h (inr (record { asks_none = (refl, (refl, tt)); tells_none = tt }), tt)
somebodys (suc zero) list h = at_one (Each (IsSomebodys (began ∷ []) 1)) (makes ∷ closes ∷ []) list h (inl (inl (refl, inl refl)), (inl (inl (refl, inr (inl refl))), tt))
somebodys (suc (suc n)) list h = none_is list h

placed : AllPlaced all_lists
placed zero list h = at_one (ArePlaced 0 tending) (makes ∷ closes ∷ []) list h (inl (lit< tt), (inl (lit< tt), tt))
placed (suc n) list h = none_is list (subst (λ k. slice_get all_lists k ≡ Some list) (next n) h)
  where
    next : (n : ℕ) → suc n + 1 ≡ suc (suc n)
    next n = omega arith

-- ---- lines

lines_shown : ShowsItems all_lists all_lines
lines_shown = record { same = same; callers = (lit< tt, (lit< tt, tt)) }
  where
    same : (caller : ℕ) (list : List Item) → slice_get all_lists caller ≡ Some list → lines_by caller all_lines ≡ lines_by caller (flat_map (shown_of caller) list)
    same zero list h = at_one (λ list. lines_by 0 all_lines ≡ lines_by 0 (flat_map (shown_of 0) list)) (opens ∷ []) list h refl
    same (suc zero) list h = at_one (λ list. lines_by 1 all_lines ≡ lines_by 1 (flat_map (shown_of 1) list)) (makes ∷ closes ∷ []) list h refl
    same (suc (suc n)) list h = none_is list h

-- ---- answers

pub not_mgr : (n : ℕ) → n < 10 → n ≡ 10 → ⊥
not_mgr n lt e = omega (arith, lt, e)

-- a call of another node that begins nothing, and one of mgr
pub elsewhere : (c : Call) → is_begun c.answer ≡ false → c.node.0 < 10 → is_managed c.request ≡ false → IsOfSystem c
elsewhere c b lt m = record { begins = λ h. absurd (false≢true (sym b ∙ h)); beside = λ h. elim h [ inl e ↦ absurd (not_mgr c.node.0 lt e) | inr t ↦ absurd (false≢true (sym m ∙ t)) ] }

pub of_mgr : (c : Call) → is_begun c.answer ≡ false → tells_nothing c.answer ≡ true → IsOfSystem c
of_mgr c b t = record { begins = λ h. absurd (false≢true (sym b ∙ h)); beside = λ h. t }

all_system : Each (Each IsOfSystem) (lists_of world)
all_system = (
  (elsewhere (started 0) refl (lit< tt) refl, (elsewhere (started 1) refl (lit< tt) refl, tt)),
  (
    (
      record { begins = λ h. (refl, refl); beside = λ h. elim h [ inl e ↦ absurd (not_mgr 0 (lit< tt) e) | inr t ↦ absurd (false≢true t) ] },
      (
        of_mgr enters refl refl,
        (
          elsewhere enlists refl (lit< tt) refl,
          (
            elsewhere locks refl (lit< tt) refl,
            (
              elsewhere scans refl (lit< tt) refl,
              (
                elsewhere writes refl (lit< tt) refl,
                (elsewhere prepares refl (lit< tt) refl, (elsewhere decides refl (lit< tt) refl, (elsewhere commits refl (lit< tt) refl, (of_mgr leaves refl refl, tt)))),
              ),
            ),
          ),
        ),
      ),
    ),
    tt,
  ),
)

-- ---- images

pub closed : ◌≢◌ {A = ℕ} 0 1
closed e = omega arith

fes_items : HasItems after_images.fes after_logs.fes
fes_items = (
  record { place = 0; item = reserved } ∷ record { place = 14; item = decision } ∷ [],
  (
    refl,
    record { opened = refl; has_record = ((lit≤ tt, lit≤ tt), lit≤ tt); spelled = refl; inside = lit< tt },
    (refl, record { opened = refl; has_record = (((lit≤ tt, lit≤ tt), (lit≤ tt, lit≤ tt), tt, lit≤ tt, here), lit≤ tt); spelled = refl; inside = lit< tt }, closed),
  ),
  refl,
)
  where
    here : All (λ (n : NodeName). (1 ≤ n.0) × (n.0 ≤ 9)) (record { 0 = 1 } ∷ [])
    here zero d below = (lit≤ tt, lit≤ tt)
    here (suc k) d below = absurd (omega arith)

row_values : HaveRow (area_row area)
row_values = record { few = lit≤ tt; fit = fit }
  where
    fit : All HasBytes (area_row area)
    fit zero d below = lit≤ tt
    fit (suc zero) d below = refl
    fit (suc (suc k)) d below = absurd (omega arith)

one_lock : All (λ (l : Held). IsPath l.path) (held ∷ [])
one_lock zero d below = (lit< tt, lit< tt)
one_lock (suc k) d below = absurd (omega arith)

one_change : All IsChange (row ∷ [])
one_change zero d below = (((lit< tt, lit< tt), lit< tt, fits_signed_from_abs w64 row.place.key (lit< tt)), (lit≤ tt, (area_row area, record { values_fit = row_values; spelled = refl })))
one_change (suc k) d below = absurd (omega arith)

ds_items : HasItems (two_records vote end) (vote ∷ end ∷ [])
ds_items = (
  record { place = 0; item = vote } ∷ record { place = record_length vote; item = end } ∷ [],
  (
    refl,
    record { opened = refl; has_record = (((lit≤ tt, lit≤ tt), lit≤ tt, one_lock, tt, tt, one_change), lit≤ tt); spelled = refl; inside = lit< tt },
    (refl, record { opened = refl; has_record = (((lit≤ tt, lit≤ tt), (lit≤ tt, lit≤ tt)), lit≤ tt); spelled = refl; inside = lit< tt }, closed),
  ),
  refl,
)

ds_base : HasBase written [] (vote ∷ end ∷ []) None
ds_base = record { read = refl; base = record { front = []; back = vote ∷ end ∷ []; parts = refl; begins = refl; gives = refl } }

-- ---- the premises

pub area_made_together : Together written world
area_made_together =
    record {
      start = nothing;
      stood = empty_stands_with;
      read = record { fes = fes_items; servers = (ds_items, (empty_items, tt)) };
      points = ((None, ds_base), ((None, empty_base), tt));
      nodes = nodes_ran;
      merged = lists_merged;
      placed = placed;
      obey = obey;
      operator = operator;
      system = all_system;
      back_ends_few = (lit≤ tt, lit≤ tt);
      txns = record { each = (began_here, tt); all = (tt, ((inl refl, tt), tt)); none_left = somebodys };
      right = (right, tt);
      outcomes = ((tt, tt), (((tt, tt), ((tt, tt), tt)), tt));
      numbers = ((tt, tt), (((tt, tt), ((inr (inl (refl, refl)), tt), tt)), tt));
      shown = lines_shown;
    }

-- ---- what the law concludes

sys_before : Sys 1 (family after_logs []) nothing
sys_before = empty_stands_with.system

answers : AnswersOf (family after_logs []) all_asked
answers = (tt, (tt, (tt, (tt, (refl, (tt, (tt, (tt, (tt, (tt, tt))))))))))

run_through : RunThrough 1 began.items
run_through =
    record {
      statements = (tt, (tt, tt));
      right = (faithful, (((refl, refl), inr (inl (refl, refl))), tt));
      answered = (refl, lit≤ tt);
      replied = ((λ e. absurd (cc e)), (tt, tt));
      inside = (refl, tt);
    }

ran_alone : (after : State) × Sys 1 (afters (family after_logs []) all_asked) after × RunsAlone 1 began.items nothing after
ran_alone = items_run_alone 1 began.items (family after_logs []) nothing sys_before run_through answers

are_logs : AreLogs after_logs
are_logs =
    record {
      log_grammar = record { fes = (tt, (tt, tt)); servers = ((tt, (tt, tt)), (tt, tt)); fes_room = lit≤ tt; room = (lit≤ tt, (lit≤ tt, tt)) };
      transaction_numbers = record { uptos_ascend = tt; fes = (lit≤ tt, (lit≤ tt, tt)); servers = ((lit≤ tt, (lit≤ tt, tt)), (tt, tt)) };
      decisions = record { ascend = tt; once = (tt, tt) };
      votes_and_outcomes = record { ends = (((tt, refl), (inl (refl, lit< tt), tt)), (tt, tt)); servers = agree; nodes_are_here = (((lit≤ tt, lit≤ tt), tt), tt) };
      prepared_locks = ((record { agree = tt; closed = (tt, tt); covered = (inl refl, tt) }, (tt, tt)), (tt, tt));
    }
  where
    agree : EachServer after_logs.servers (Agrees (decided after_logs))
    agree zero log h =
        at_one (Agrees (decided after_logs) 1) (vote ∷ end ∷ []) log h
        (record {
          numbers = record { committed = (inl (refl, refl), tt); aborted = tt; above = (((λ e. lit< tt), tt), tt) };
          voted = (((λ h. inl refl), (λ h. refl)), tt);
          named = (((λ e. refl), tt), tt);
        })
    agree (suc zero) log h =
        at_one (Agrees (decided after_logs) 2) [] log h
        (record { numbers = record { committed = tt; aborted = tt; above = (tt, tt) }; voted = (((λ h. no h), (λ h. absurd h)), tt); named = tt })
    agree (suc (suc n)) log h = none_is log h

pub area_stands : (s : State) × StandsWith written after_images after_logs s
area_stands = (
  ran_alone.0,
  record {
    read = area_made_together.read;
    are_logs = are_logs;
    points = area_made_together.points;
    system = ran_alone.1;
  },
)

only : (t : Txn) → IsIn t (began ∷ []) → began ≡ t
only t (inl e) = e
only t (inr e) = absurd e

pub not_before : (n : ℕ) → n < n → ⊥
not_before n lt = omega (arith, lt)

apart : OwnersApart (began ∷ [])
apart =
    record {
      one_tx = λ t u i j e. ap (λ (x : Txn). x.tx) (sym (only t i) ∙ only u j);
      one_owner = λ t u i j e. ap (λ (x : Txn). x.owner) (sym (only t i) ∙ only u j);
      ascend = λ t u i j e lt. absurd (not_before u.owner.nth (subst (λ (x : Txn). x.owner.nth < u.owner.nth) (sym (only t i) ∙ only u j) lt));
    }

pub area_explained : ExplainedApart empty_logs after_logs (began ∷ []) all_lines (decided after_logs)
area_explained =
    record {
      decisions = record { begins = refl; owned = (inl refl, tt); owners_apart = apart };
      ends = record {
        judged = (inl (inl (refl, inl (refl, inl refl))), (inl (inl (refl, inr (inl (refl, inl refl)))), tt));
        named = (right.named, tt);
        ended = ((((λ h. no h), tt), ((inl (refl, refl), tt), tt)), tt);
        told = (tt, (tt, tt));
        open_or_shown = (((λ e. refl), tt), tt);
      };
      run_alone = (
        record {
          txn = began;
          known = inl refl;
          of_tx = refl;
          before = nothing;
          after = ran_alone.0;
          at_before = sys_before;
          at_after = ran_alone.1;
          steps = inl ((tt, (tt, tt)), ran_alone.2);
        },
        tt,
      );
      clean = (((tt, tt), ((tt, tt), tt)), tt);
    }

-- no line of it shows a table complete
pub area_balanced : BalancedAtCompletes world
area_balanced t i table most n known among is told = absurd (none i (subst (λ (x : Txn). IsIn i x.items) (sym (only t known)) among) told)
  where
    none : (i : Item) → IsIn i (makes ∷ closes ∷ []) → Has (λ r. IsComplete r n) i.lines → ⊥
    none i (inl e) h = neither nobody nobody (subst (λ (x : Item). Has (λ r. IsComplete r n) x.lines) (sym e) h)
    none i (inr (inl e)) h = neither nobody nobody (subst (λ (x : Item). Has (λ r. IsComplete r n) x.lines) (sym e) h)
    none i (inr (inr e)) h = e
