-- Each plan asks for locks of the table of locks alone.
use Rattle.std.proofs.Common.{◌≡◌, ℕ, List, [], ◌∷◌, ◌++◌, length, map, filter, Some, None, Result, false, refl, subst, sym}
use Rattle.std.specs.Prelude.{⊤, if◌then◌else◌}
use Rattle.std.specs.Option.{option_or}
use Rattle.hb_types.specs.declared.change.Stored.{Stored}
use Rattle.hb_types.specs.declared.lock.Mode.{Mode}
use Rattle.hb_types.specs.declared.lock.Mode.TheVariants as mode
use Rattle.hb_types.specs.declared.request.Request.{Request}
use Rattle.hb_types.specs.declared.request.Request.TheVariants as request
use Rattle.hb_types.specs.declared.trail.Call.{Call}
use Rattle.hb_types.specs.Lists.{EachBehind}
use Rattle.hb_model.specs.declared.reply.Reply.{Reply}
use Rattle.hb_model.specs.declared.reply.Reply.TheVariants as reply
use Rattle.hb_model.specs.declared.statement.Statement.{Statement}
use Rattle.hb_model.specs.declared.statement.Statement.TheVariants as statement
use Rattle.hb_model.specs.declared.statement.What.TheVariants as what
use Rattle.hb_model.specs.Answers.{given}
use Rattle.hb_model.specs.Locking.{MayLock, OfLock}
use Rattle.hb_model.specs.Needs.{Need}
use Rattle.hb_model.specs.Refusals.{first_refusal, select_refusals, update_refusals}
use Rattle.hb_model.specs.Rows.{assigned, assigning_refusal, chosen, chooses, first_some, key_of, point, shown}
use Rattle.hb_talk.specs.Plans.{lying_rows, putting, removing, with_lying, writes}
use Rattle.hb_talk.specs.PlansDefine.{plan}
use Rattle.hb_talk.specs.Talk.{Begins, Use, Planning, Follows, ◌>>◌, pure, refuse}
use Rattle.hb_model.specs.Asked.{AreWhereAsked}
use Rattle.hb_planlocks.specs.Asked.{PlanLocksByTable}
use Rattle.hb_planlocks.proofs.DefineLocks.{add_area_bears, create_area_bears, create_table_bears}
use Rattle.hb_planlocks.proofs.RowLocks.{insert_bears, lock_bears_all, replies_bear, rows_bear, writes_bear}
use Rattle.hb_planlocks.proofs.Bears.{Bearing, Bears, Goes, begins_by, rightly}

module _ (st : Statement) where
  -- by calls that gave these rows
  abbrev May : List Stored → Need → Type 0
  May g n = (before : List Call) → given before ≡ g → MayLock st before n

  as_asked : (node : ℕ) (q : Request) (front : List Call) → OfLock (May (given front)) node q → OfLock (MayLock st front) node q
  as_asked node q front = elim q as (λ x. OfLock (May (given front)) node x → OfLock (MayLock st front) node x) [ request.Lock tx p mo ↦ λ h. h front refl | x ↦ λ h. tt ]

  each_asked : (front cs : List Call) → EachBehind (λ f c. OfLock (May (given f)) c.node.0 c.request) front cs → EachBehind (λ f c. OfLock (MayLock st f) c.node.0 c.request) front cs
  each_asked front [] h = tt
  each_asked front (c ∷ cs) h = (as_asked c.node.0 c.request front h.0, each_asked (front ++ c ∷ []) cs h.1)

  pub by_table : (p : Planning Reply) (u v : Use) (front calls : List Call) (r : Result Reply Reply) → Follows false (p u) calls (r, v) → AreWhereAsked calls → given front ≡ []
      → Bearing May p u [] (λ g y. ⊤) → EachBehind (λ before c. OfLock (MayLock st before) c.node.0 c.request) front calls
  by_table p u v front calls r follows where_asked none bears =
      each_asked front calls (rightly May false (p u) calls (r, v) follows front (Goes May (λ g y. ⊤)) (subst (λ g. Bears May (p u) g (Goes May (λ g y. ⊤))) (sym none) bears) where_asked)

  pub by_front : (p : Planning Reply) (u : Use) (front calls : List Call) → Begins (p u) calls → AreWhereAsked calls → given front ≡ [] → Bearing May p u [] (λ g y. ⊤)
      → EachBehind (λ before c. OfLock (MayLock st before) c.node.0 c.request) front calls
  by_front p u front calls begins where_asked none bears =
      each_asked front calls (begins_by May (p u) calls begins front (Goes May (λ g y. ⊤)) (subst (λ g. Bears May (p u) g (Goes May (λ g y. ⊤))) (sym none) bears) where_asked)

pub plan_bears : (back_ends : ℕ) (st : Statement) (u : Use) → Bearing (May st) (plan back_ends st) u [] (λ g y. ⊤)
unfolding plan
plan_bears back_ends (statement.Insert table values) u =
    let st = statement.Insert table values in
    insert_bears st mode.X table (λ t. Some (key_of t values)) (λ b n h. h) values u (λ t. refl) refl
plan_bears back_ends (statement.Select x table pred) u =
    let st = statement.Select x table pred in
    rows_bear st mode.S table (λ t. point t pred) (λ b n h. h) (λ t. first_refusal (select_refusals t x pred))
    (λ t rows. let s = with_lying t (lying_rows rows) in refuse (first_refusal (select_refusals s x pred)) >> pure (reply.Rows (shown s x (chosen s pred)))) u (λ g y. ⊤)
    (λ t rows z h. let s = with_lying t (lying_rows rows) in
    replies_bear st mode.S table (λ t. point t pred) (λ b n h. h) (first_refusal (select_refusals s x pred)) (reply.Rows (shown s x (chosen s pred))) z h)
plan_bears back_ends (statement.Update table sets pred) u =
    let st = statement.Update table sets pred in
    rows_bear st mode.X table (λ t. point t pred) (λ b n h. h) (λ t. first_refusal (update_refusals t sets pred))
    (λ t rows. let s = with_lying t (lying_rows rows) in
    refuse (option_or (first_refusal (update_refusals s sets pred)) (first_some (assigning_refusal s sets) (chosen s pred)))
    >> (writes (map (λ l. putting l.0 (assigned s sets l.1)) (filter (λ l. chooses s pred l.1) (lying_rows rows))) >> pure (reply.Updated (length (chosen s pred))))) u (λ g y. ⊤)
    (λ t rows z h. let s = with_lying t (lying_rows rows) in
    writes_bear st mode.X table (λ t. point t pred) (λ b n h. h) (option_or (first_refusal (update_refusals s sets pred)) (first_some (assigning_refusal s sets) (chosen s pred)))
    (map (λ l. putting l.0 (assigned s sets l.1)) (filter (λ l. chooses s pred l.1) (lying_rows rows))) (reply.Updated (length (chosen s pred))) z h)
plan_bears back_ends (statement.Delete table pred) u =
    let st = statement.Delete table pred in
    rows_bear st mode.X table (λ t. point t pred) (λ b n h. h) (λ t. first_refusal (select_refusals t what.All pred))
    (λ t rows. let s = with_lying t (lying_rows rows) in
    refuse (first_refusal (select_refusals s what.All pred))
    >> (writes (map (λ l. removing l.0) (filter (λ l. chooses s pred l.1) (lying_rows rows))) >> pure (reply.Deleted (length (chosen s pred))))) u (λ g y. ⊤)
    (λ t rows z h. let s = with_lying t (lying_rows rows) in
    writes_bear st mode.X table (λ t. point t pred) (λ b n h. h) (first_refusal (select_refusals s what.All pred))
    (map (λ l. removing l.0) (filter (λ l. chooses s pred l.1) (lying_rows rows))) (reply.Deleted (length (chosen s pred))) z h)
plan_bears back_ends (statement.LockTable table exclusive) u =
    let st = statement.LockTable table exclusive in
    let m : Mode = if exclusive then mode.X else mode.S in
    lock_bears_all st m table (λ t. None) (λ b n h. h) exclusive u (λ t. refl) refl
plan_bears back_ends (statement.CreateArea name node) u = create_area_bears back_ends name node u
plan_bears back_ends (statement.CreateTable name columns key areas) u = create_table_bears name columns key areas u
plan_bears back_ends (statement.AddArea table area) u = add_area_bears table area u
plan_bears back_ends statement.Commit u = tt
plan_bears back_ends statement.Rollback u = tt

-- the locks of calls that follow a plan, behind calls that were answered no rows
pub plan_locks_behind : (back_ends : ℕ) (st : Statement) (u v : Use) (front calls : List Call) (r : Result Reply Reply) → given front ≡ [] → Follows false (plan back_ends st u) calls (r, v) → AreWhereAsked calls
    → EachBehind (λ before c. OfLock (MayLock st before) c.node.0 c.request) front calls
plan_locks_behind back_ends st u v front calls r none follows where_asked = by_table st (plan back_ends st) u v front calls r follows where_asked none (plan_bears back_ends st u)

-- and those of calls that begin it
pub plan_locks_begun : (back_ends : ℕ) (st : Statement) (u : Use) (front calls : List Call) → given front ≡ [] → Begins (plan back_ends st u) calls → AreWhereAsked calls
    → EachBehind (λ before c. OfLock (MayLock st before) c.node.0 c.request) front calls
plan_locks_begun back_ends st u front calls none begins where_asked = by_front st (plan back_ends st) u front calls begins where_asked none (plan_bears back_ends st u)

pub plans_lock : (st : Statement) → PlanLocksByTable st
plans_lock st back_ends u v calls r f w = plan_locks_behind back_ends st u v [] calls r refl f w
