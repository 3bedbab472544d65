-- The premises of the law of composition hold of a run in which one session found ds down and rolled back.
use Rattle.std.proofs.Common.{◌≡◌, ◌⊎◌, ℕ, zero, suc, ◌+◌, true, false, List, [], ◌∷◌, ◌++◌, Some, None, refl, subst, sym, ◌∙◌, arith, lit≤, lit<, inl, inr}
use Rattle.std.specs.Prelude.{codes, slice_get, filter, flat_map, ◌<◌}
use Rattle.hb_types.specs.declared.answer.Answer.TheVariants as answer
use Rattle.hb_types.specs.declared.change.LogItem.{LogItem}
use Rattle.hb_types.specs.declared.change.LogItem.TheVariants as item
use Rattle.hb_types.specs.declared.names.Owner.{Owner}
use Rattle.hb_types.specs.declared.names.Tx.{Tx}
use Rattle.hb_types.specs.declared.request.Request.TheVariants as request
use Rattle.hb_types.specs.declared.trail.Call.{Call}
use Rattle.std.proofs.lemmas.Bool.{false≢true}
use Rattle.hb_types.specs.Lists.{Each}
use Rattle.hb_types.specs.Records.{framed}
use Rattle.hb_model.specs.declared.reply.Reply.{Reply}
use Rattle.hb_model.specs.declared.reply.Reply.TheVariants as reply
use Rattle.hb_model.specs.declared.statement.Statement.{Statement}
use Rattle.hb_model.specs.declared.statement.Statement.TheVariants as statement
use Rattle.hb_model.specs.Answers.{call, HasAsked, is_decide}
use Rattle.hb_model.specs.Faithful.{Faithful}
use Rattle.hb_model.specs.Items.{Item, sql, tending}
use Rattle.hb_model.specs.State.{nothing}
use Rattle.hb_disks.specs.Disks.{written}
use Rattle.hb_disks.specs.Images.{Images, Logs, HasItems}
use Rattle.hb_disks.specs.Logless.{empty_images, empty_logs, empty_server}
use Rattle.hb_disks.proofs.Empty.{empty_stands_with, empty_items}
use Rattle.hb_law.specs.Answering.{IsOfSystem, tells_nothing}
use Rattle.hb_law.specs.Callers.{Obeys, MayEnlist, MayBeDecided, is_begun}
use Rattle.hb_runs.specs.Board.{is_managed}
use Rattle.hb_law.specs.Composition.{World, Together, NodesRan, CoordinatorRan, ServerRan, lists_of, AllObey, OperatorObeys, AllPlaced, ArePlaced, ShowsItems, lines_by, shown_of}
use Rattle.hb_runs.specs.Coordinator as coordinator
use Rattle.hb_law.specs.Histories.{Labelled, Merged, Trails, Shown, stands, entries_of, calls_at}
use Rattle.hb_law.specs.Transactions.{Txn, IsTxnOf, IsRightTxn, IsSomebodys}

-- ---- the world

abbrev t1 : Tx
t1 = record { 0 = 1 }

abbrev s1 : Owner
s1 = record { session = 0; nth = 1 }

abbrev opening : List Call
opening = call 0 request.Start (answer.Started []) ∷ []

abbrev asked : List Call
asked =
    call 0 (request.Begin s1) (answer.Begun t1) ∷ call 10 (request.Enter t1 s1) answer.Done ∷ call 1 (request.Enlist t1) answer.Down
    ∷ call 0 (request.Abort t1) answer.Done ∷ call 10 (request.End t1 (record { 0 = 0 })) answer.Done ∷ []

abbrev lock_table : Statement
lock_table = statement.LockTable (codes "T") false

abbrev ds_is_down : Reply
ds_is_down = reply.Down (record { 0 = 1 })

abbrev opens : Item
opens = record { place = 0; doing = tending; calls = opening; lines = [] }

abbrev locks : Item
locks = record { place = 1; doing = sql lock_table; calls = asked; lines = ds_is_down ∷ [] }

abbrev all_lists : List (List Item)
all_lists = (opens ∷ []) ∷ (locks ∷ []) ∷ []

abbrev entry : ℕ → Call → Labelled
entry caller c = record { caller = caller; entry = record { caller = caller; nth = 1; request = c.request; answer = c.answer; from = 0; to = 0 } }

abbrev fes_trail : List Labelled
fes_trail =
    entry 0 (call 0 request.Start (answer.Started [])) ∷ entry 1 (call 0 (request.Begin s1) (answer.Begun t1))
    ∷ entry 1 (call 0 (request.Abort t1) answer.Done) ∷ []

abbrev ds_trail : List Labelled
ds_trail = entry 1 (call 1 (request.Enlist t1) answer.Down) ∷ []

abbrev all_trails : Trails
all_trails = fes_trail ∷ ds_trail ∷ [] ∷ []

-- the Begin reserved 1,000 numbers
abbrev reserved : LogItem
reserved = item.Ids 1000

abbrev fes_image : List ℕ
fes_image = 1 ∷ framed reserved ++ 0 ∷ []

abbrev after_images : Images
after_images = record { fes = fes_image; servers = empty_server ∷ empty_server ∷ [] }

abbrev after_logs : Logs
after_logs = record { fes = reserved ∷ []; servers = [] ∷ [] ∷ [] }

abbrev began : Txn
began = record { owner = s1; tx = 1; items = locks ∷ [] }

abbrev line : Shown
line = record { caller = 1; place = 1; reply = ds_is_down }

abbrev world : World
world =
    record {
      base_images = empty_images;
      base = empty_logs;
      images = after_images;
      logs = after_logs;
      trails = all_trails;
      lists = all_lists;
      txns = began ∷ [];
      lines = line ∷ [];
    }

-- ---- small steps

some_is : {A : Type 0} (x y : A) → Some x ≡ Some y → x ≡ y
some_is x y h = cc

none_is : {A B : Type 0} (x : A) → None ≡ Some x → B
none_is x h = cc

-- a fact of the items that two look-ups give
at_two : {A B : Type 0} (P : A → B → Type 0) (a x : A) (b y : B) → Some a ≡ Some x → Some b ≡ Some y → P a b → P x y
at_two P a x b y e f p = subst (λ z. P x z) (some_is b y f) (subst (λ z. P z b) (some_is a x e) p)

at_one : {A : Type 0} (P : A → Type 0) (a x : A) → Some a ≡ Some x → P a → P x
at_one P a x e p = subst P (some_is a x e) p

-- ---- nodes

ds_ran : ServerRan [] [] ds_trail
ds_ran = record { last = _; ran = (_, record { effects = []; causes = refl; right = tt; steps = refl }, refl); log = refl }

bes_ran : ServerRan [] [] []
bes_ran = record { last = _; ran = refl; log = refl }

abbrev k0 : coordinator.CState
k0 = coordinator.stopped_at []

abbrev k1 : coordinator.CState
k1 = coordinator.happens k0 coordinator.came_up

abbrev k2 : coordinator.CState
k2 = coordinator.happens (coordinator.happens k1 (coordinator.reserved 1000)) (coordinator.begun 1)

abbrev k3 : coordinator.CState
k3 = coordinator.happens k2 (coordinator.ended 1)

fes_ran : CoordinatorRan [] (reserved ∷ []) fes_trail
fes_ran =
    record {
      last = k3;
      ran = (
        k1,
        record { effects = coordinator.came_up ∷ []; causes = refl; right = refl; steps = (refl, refl) },
        (
          k2,
          record {
            effects = coordinator.reserved 1000 ∷ coordinator.begun 1 ∷ [];
            causes = (coordinator.reserved 1000 ∷ [], inr (lit< tt, refl), refl);
            right = refl;
            steps = ((lit< tt, lit≤ tt, lit≤ tt), ((refl, lit≤ tt), refl));
          },
          (k3, record { effects = coordinator.ended 1 ∷ []; causes = inl (inl refl, refl); right = tt; steps = (inl refl, refl) }, refl),
        ),
      );
      log = refl;
    }

nodes_ran : NodesRan empty_logs after_logs all_trails
nodes_ran =
    record {
      nodes = refl;
      same = refl;
      fes = λ trail h. at_one (λ t. CoordinatorRan [] (reserved ∷ []) t) fes_trail trail h fes_ran;
      servers = ran;
    }
  where
    three : (b before a after : List LogItem) (t trail : List Labelled) → Some b ≡ Some before → Some a ≡ Some after → Some t ≡ Some trail → ServerRan b a t
        → ServerRan before after trail
    three b before a after t trail e f g r =
        at_one (λ x. ServerRan before after x) t trail g (at_two (λ x y. ServerRan x y t) b before a after e f r)

    ran : (i : ℕ) (before after : List LogItem) (trail : List Labelled) → slice_get empty_logs.servers i ≡ Some before → slice_get after_logs.servers i ≡ Some after
        → slice_get all_trails (i + 1) ≡ Some trail → ServerRan before after trail
    ran zero before after trail b a t = three [] before [] after ds_trail trail b a t ds_ran
    ran (suc zero) before after trail b a t = three [] before [] after [] trail b a t bes_ran
    ran (suc (suc i)) before after trail b a t = none_is before b

-- ---- lists

abbrev Same : ℕ → ℕ → List Labelled → List Call → Type 0
Same node caller trail list = filter stands (entries_of caller trail) ≡ filter stands (calls_at node list)

lists_merged : Merged all_trails (lists_of world)
lists_merged =
    record {
      same = same;
      callers = ((lit< tt, (lit< tt, (lit< tt, tt))), ((lit< tt, tt), (tt, tt)));
      here = ((inl (lit< tt), tt), ((inl (lit< tt), (inr refl, (inl (lit< tt), (inl (lit< tt), (inr refl, tt))))), tt));
    }
  where
    same : (node caller : ℕ) (trail : List Labelled) (list : List Call) → slice_get all_trails node ≡ Some trail → slice_get (lists_of world) caller ≡ Some list
        → filter stands (entries_of caller trail) ≡ filter stands (calls_at node list)
    same zero zero trail list t l = at_two (Same 0 0) fes_trail trail (opening ++ []) list t l refl
    same zero (suc zero) trail list t l = at_two (Same 0 1) fes_trail trail (asked ++ []) list t l refl
    same (suc zero) zero trail list t l = at_two (Same 1 0) ds_trail trail (opening ++ []) list t l refl
    same (suc zero) (suc zero) trail list t l = at_two (Same 1 1) ds_trail trail (asked ++ []) list t l refl
    same (suc (suc zero)) zero trail list t l = at_two (Same 2 0) [] trail (opening ++ []) list t l refl
    same (suc (suc zero)) (suc zero) trail list t l = at_two (Same 2 1) [] trail (asked ++ []) list t l refl
    same (suc (suc (suc n))) caller trail list t l = none_is trail t
    same node (suc (suc n)) trail list t l = none_is list l

neither : {A B : Type 0} → (A → ⊥) → (B → ⊥) → A ⊎ B → ⊥
neither f g (inl a) = f a
neither f g (inr b) = g b

abbrev entered : List Call
entered = call 10 (request.Enter t1 s1) answer.Done ∷ []

abbrev enlisted : List Call
enlisted = entered ++ call 1 (request.Enlist t1) answer.Down ∷ []

may_enlist : MayEnlist 1 entered
may_enlist = record { once = neither (λ h. false≢true h.1) (λ h. h); undecided = neither false≢true (λ h. h); not_undone = neither false≢true (λ h. h) }

not_decided : ¬ (MayBeDecided enlisted)
not_decided = neither (λ h. false≢true h.0) (neither (λ h. false≢true h.0) (λ h. h))

session_obeys : Obeys 0 (asked ++ [])
session_obeys = ((refl, refl), (tt, ((refl, may_enlist), ((refl, not_decided), (tt, tt)))))

obey : AllObey (lists_of world)
obey zero list h = at_one (Obeys 0) (asked ++ []) list h session_obeys
obey (suc n) list h = none_is list (subst (λ k. slice_get (lists_of world) k ≡ Some list) (next n) h)
  where
    next : (n : ℕ) → suc n + 1 ≡ suc (suc n)
    next n = omega arith

operator : OperatorObeys (lists_of world)
operator list h = at_one (Obeys 2) (opening ++ []) list h (tt, tt)

-- ---- transactions

began_here : IsTxnOf all_lists began
began_here =
    record {
      front = [];
      stretch = locks ∷ [];
      back = [];
      first = locks;
      others = [];
      parts = refl;
      own = refl;
      items = refl;
      begins =
          record {
            before = [];
            begin = call 0 (request.Begin s1) (answer.Begun t1);
            more = call 10 (request.Enter t1 s1) answer.Done ∷ call 1 (request.Enlist t1) answer.Down ∷ call 0 (request.Abort t1) answer.Done
                ∷ call 10 (request.End t1 (record { 0 = 0 })) answer.Done ∷ [];
            parts = refl;
            begun = refl;
            apart = tt;
            none_before = refl;
            none_behind = refl;
          };
      asked = tt;
      counted = refl;
      over = tt;
      turns = (tt, tt);
    }

none_decides : ¬ (HasAsked is_decide asked)
none_decides = neither false≢true (neither false≢true (neither false≢true (neither false≢true (neither false≢true (λ h. h)))))

faithful : Faithful 1 (record { bytes = 0; locks = 0 }) false lock_table asked ds_is_down
faithful =
    record {
      undecided = none_decides;
      does_rightly = λ h. absurd (false≢true h);
      undone = λ h. inr (inr (inr (inl refl)));
      locks = λ asked. (tt, (tt, (tt, (tt, (tt, tt)))));
      sourced = λ asked. record { shown = tt; written = (tt, (tt, (tt, (tt, (tt, tt))))) };
    }

right : IsRightTxn 1 began
right =
    record {
      right = λ d o. ((false, faithful), tt);
      bound = (
        (
          none_decides,
          (λ asked. (tt, (tt, (tt, (tt, (tt, tt)))))),
          (record { replied = refl; of_select = λ h. absurd (false≢true h); undone = λ h. inr (inr (inr (inl refl))); sourced = λ asked. record { shown = tt; written = (tt, (tt, (tt, (tt, (tt, tt))))) } }, tt),
        ),
        tt,
      );
      kinds = inl ((tt, tt), lit≤ tt);
      named = ((tt, tt), tt);
      begins = tt;
    }

-- ---- lines

lines_shown : ShowsItems all_lists (line ∷ [])
lines_shown = record { same = same; callers = (lit< tt, tt) }
  where
    same : (caller : ℕ) (list : List Item) → slice_get all_lists caller ≡ Some list → lines_by caller (line ∷ []) ≡ lines_by caller (flat_map (shown_of caller) list)
    same zero list h = at_one (λ list. lines_by 0 (line ∷ []) ≡ lines_by 0 (flat_map (shown_of 0) list)) (opens ∷ []) list h refl
    same (suc zero) list h = at_one (λ list. lines_by 1 (line ∷ []) ≡ lines_by 1 (flat_map (shown_of 1) list)) (locks ∷ []) list h refl
    same (suc (suc n)) list h = none_is list h

somebodys : (caller : ℕ) (list : List Item) → slice_get all_lists caller ≡ Some list → Each (IsSomebodys (began ∷ []) caller) list
somebodys zero list h = at_one (Each (IsSomebodys (began ∷ []) 0)) (opens ∷ []) list h (inr (record { asks_none = (refl, tt); tells_none = tt }), tt)
somebodys (suc zero) list h = at_one (Each (IsSomebodys (began ∷ []) 1)) (locks ∷ []) list h (inl (inl (refl, inl refl)), tt)
somebodys (suc (suc n)) list h = none_is list h

placed : AllPlaced all_lists
placed zero list h = at_one (ArePlaced 0 tending) (locks ∷ []) list h (inl (lit< tt), tt)
placed (suc n) list h = none_is list (subst (λ k. slice_get all_lists k ≡ Some list) (next n) h)
  where
    next : (n : ℕ) → suc n + 1 ≡ suc (suc n)
    next n = omega arith

-- ---- images

fes_items : HasItems fes_image (reserved ∷ [])
fes_items = (
  record { place = 0; item = reserved } ∷ [],
  (refl, record { opened = refl; has_record = ((lit≤ tt, lit≤ tt), lit≤ tt); spelled = refl; inside = lit< tt }, (λ e. omega arith)),
  refl,
)

-- ---- answers

not_mgr : (n : ℕ) → n < 10 → n ≡ 10 → ⊥
not_mgr n lt e = omega (arith, lt, e)

-- a call of another node that begins nothing, and one of mgr
elsewhere : (c : Call) → is_begun c.answer ≡ false → c.node.0 < 10 → is_managed c.request ≡ false → IsOfSystem c
elsewhere c b lt m = record { begins = λ h. absurd (false≢true (sym b ∙ h)); beside = λ h. elim h [ inl e ↦ absurd (not_mgr c.node.0 lt e) | inr t ↦ absurd (false≢true (sym m ∙ t)) ] }

of_mgr : (c : Call) → is_begun c.answer ≡ false → tells_nothing c.answer ≡ true → IsOfSystem c
of_mgr c b t = record { begins = λ h. absurd (false≢true (sym b ∙ h)); beside = λ h. t }

all_system : Each (Each IsOfSystem) (lists_of world)
all_system = (
  (elsewhere (call 0 request.Start (answer.Started [])) refl (lit< tt) refl, tt),
  (
    (
      record { begins = λ h. (refl, refl); beside = λ h. elim h [ inl e ↦ absurd (not_mgr 0 (lit< tt) e) | inr t ↦ absurd (false≢true t) ] },
      (
        of_mgr (call 10 (request.Enter t1 s1) answer.Done) refl refl,
        (
          elsewhere (call 1 (request.Enlist t1) answer.Down) refl (lit< tt) refl,
          (elsewhere (call 0 (request.Abort t1) answer.Done) refl (lit< tt) refl, (of_mgr (call 10 (request.End t1 (record { 0 = 0 })) answer.Done) refl refl, tt)),
        ),
      ),
    ),
    tt,
  ),
)

pub ds_down_together : Together written world
ds_down_together =
    record {
      start = nothing;
      stood = empty_stands_with;
      read = record { fes = fes_items; servers = (empty_items, (empty_items, tt)) };
      points = empty_stands_with.points;
      nodes = nodes_ran;
      merged = lists_merged;
      placed = placed;
      obey = obey;
      operator = operator;
      system = all_system;
      back_ends_few = (lit≤ tt, lit≤ tt);
      txns = record { none_left = somebodys; each = (began_here, tt); all = (tt, ((inl refl, tt), tt)) };
      right = (right, tt);
      outcomes = ((tt, tt), (((tt, tt), tt), tt));
      numbers = ((tt, tt), (((tt, tt), tt), tt));
      shown = lines_shown;
    }
