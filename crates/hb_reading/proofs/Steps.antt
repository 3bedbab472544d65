-- The steps of a reading keep what is to be said.
use Rattle.std.proofs.Common.{◌≡◌, ◌≢◌, ℕ, true, false, List, [], Option, Some, None, Result, Ok, Err, IfOk, refl, ap, sym, ◌∙◌, subst}
use Rattle.hb_types.specs.declared.answer.Answer.{Answer}
use Rattle.hb_types.specs.declared.change.Stored.{Stored}
use Rattle.hb_types.specs.declared.memory.NoMemory.{NoMemory}
use Rattle.hb_types.specs.declared.entry.Entry.{Entry}
use Rattle.hb_types.specs.Calls.{IsAnswer}
use Rattle.hb_model.specs.declared.reply.Reply.{Reply}
use Rattle.hb_model.specs.declared.reply.Reply.TheVariants as reply
use Rattle.hb_talk.specs.Talk.{Talk, says, Use, Planning}
use Rattle.hb_talk.specs.Plans.{areas_of_routes}
use Rattle.hb_access.specs.declared.access.Next.{Next}
use Rattle.hb_access.specs.declared.access.Taken.TheVariants as accessed
use Rattle.hb_access.specs.declared.goal.Goal.{Goal}
use Rattle.hb_access.specs.declared.goal.Got.{Got}
use Rattle.hb_access.specs.declared.goal.Got.TheVariants as got
use Rattle.hb_access.specs.declared.usage.Usage.{Usage}
use Rattle.hb_access.specs.Accesses.{Accessing, use_of, locked, keeps_nodes}
use Rattle.hb_access.specs.Accesses as access
use Rattle.hb_access.proofs.Nodes.{goes_on}
use Rattle.hb_planrows.specs.PlanRows.{TellEntries}
use Rattle.hb_round.specs.declared.round.Taken.{Taken as RoundTaken}
use Rattle.hb_round.specs.declared.round.Taken.TheVariants as brought
use Rattle.hb_round.specs.declared.sweep.Sweep.{Sweep}
use Rattle.hb_round.specs.Onward.{Ends, onward, Asks}
use Rattle.hb_round.specs.Rounds.{Rounding, AreRows, Begins}
use Rattle.hb_round.specs.Rounds as round
use Rattle.hb_round.specs.Sweeps.{gathering}
use Rattle.hb_round.proofs.Onwards.{asks_on, access_asks, says_on, refused_on, plan_on}
use Rattle.hb_reading.specs.declared.aim.Aim.{Aim}
use Rattle.hb_reading.specs.declared.reading.Stage.{Stage}
use Rattle.hb_reading.specs.declared.reading.Stage.TheVariants as stage
use Rattle.hb_reading.specs.declared.reading.Taken.{Taken}
use Rattle.hb_reading.specs.declared.reading.Taken.TheVariants as taken
use Rattle.hb_reading.specs.declared.routing.Routed.{Routed}
use Rattle.hb_reading.specs.Aims.{reading, first_goal, sweep_of}
use Rattle.hb_reading.specs.Routes.{routed, of_all, in_areas, Routes, TellsGot, TellsAnswer}
use Rattle.hb_reading.specs.Readings.{Read, NextIs, Hears, GoesWith, Enters, HasRows, BringsRows, AsksOn, IsTold, as_taken, rolls, uses, uses_at, now_uses, now_talks, now_hears, talks_at, hears_at, behind_entries, or_refused, rows_along, bringing}
use Rattle.hb_reading.proofs.ReadingPlans.{reads}

pub begins : (table : ℕ) (a : Aim) (g : Goal) (u : Usage) (x : Accessing) → g ≡ first_goal table a → access.now_talks x ≡ locked g (use_of u)
    → onward (behind_entries table a) (access.now_talks x) ≡ reading table a (use_of u)
begins table a g u x goal talk = ap (onward (behind_entries table a)) (talk ∙ ap (λ h. locked h (use_of u)) goal) ∙ sym (reads table a (use_of u))

-- ---- what is asked

pub next_first : (old v new : Read) (x y : Accessing) (n m : Next) → v ≡ old → v.stage ≡ stage.First x → new ≡ record v { stage = stage.First y } → n ≡ m
    → access.NextIs x y m → NextIs old new n
next_first old v new x y n m is at after same h =
    subst (λ o. NextIs o new n) is (subst (λ w. NextIs v w n) (sym after) (subst (NextIs v (record v { stage = stage.First y })) (sym same)
    (subst (λ s. Asks (talks_at v.table v.aim s) (hears_at v.table v.aim (stage.First y)) (access.is_waiting y.stage) (use_of y.usage) m) (sym at)
    (asks_on (behind_entries v.table v.aim) (access.now_talks x) (access.now_hears y) (access.is_waiting y.stage) (use_of y.usage) m (access_asks x y m h)))))

pub next_rows : (old v new : Read) (r q : Rounding) (entry : Option Entry) (n m : Next) → v ≡ old → v.stage ≡ stage.Rows r entry
    → new ≡ record v { stage = stage.Rows q entry } → n ≡ m → round.NextIs r q m → NextIs old new n
next_rows old v new r q entry n m is at after same h =
    subst (λ o. NextIs o new n) is (subst (λ w. NextIs v w n) (sym after) (subst (NextIs v (record v { stage = stage.Rows q entry })) (sym same)
    (subst (λ s. Asks (talks_at v.table v.aim s) (hears_at v.table v.aim (stage.Rows q entry)) (round.is_waiting q) (round.now_uses q) m) (sym at)
    (asks_on (bringing entry) (round.now_talks r) (round.now_hears q) (round.is_waiting q) (round.now_uses q) m h))))

pub keeps_first : (old v new : Read) (y : Accessing) → new ≡ record v { stage = stage.First y } → HasRows old → HasRows new
keeps_first old v new y after has = subst HasRows (sym after) tt

pub keeps_rows : (old v new : Read) (r q : Rounding) (entry : Option Entry) → v ≡ old → v.stage ≡ stage.Rows r entry → new ≡ record v { stage = stage.Rows q entry }
    → q.rows ≡ r.rows → HasRows old → HasRows new
keeps_rows old v new r q entry is at after same has =
    subst HasRows (sym after) (subst AreRows (sym same) (subst (λ s. HasRows (record v { stage = s })) at (subst HasRows (sym is) has)))

-- ---- what follows the entries

pub rows_begin : (old v : Read) (u : Usage) (s : Sweep) (rt : Routed) (r : Rounding) → v ≡ old → u ≡ uses old → s ≡ sweep_of v.table v.aim → Begins u s rt.areas r
    → (round.is_asking r ≡ true) × (rows_along old.table old.aim rt (use_of (uses old)) ≡ onward (bringing rt.entry) (round.now_talks r))
unfolding rows_along
rows_begin old v u s rt r is its wanted b =
    let to : s ≡ sweep_of old.table old.aim = wanted ∙ ap (λ o. sweep_of o.table o.aim) is in (
      b.asking,
      plan_on (gathering (sweep_of old.table old.aim) rt.areas []) (bringing rt.entry) (use_of (uses old))
          ∙ ap (onward (bringing rt.entry)) (ap (λ z. gathering z rt.areas [] (use_of (uses old))) (sym to) ∙ ap (λ z. gathering s rt.areas [] (use_of z)) (sym its) ∙ sym b.talk),
    )

none_along : (s : Sweep) (areas : List ℕ) (rows : List Stored) (entry : Option Entry) (u : Use) → areas ≡ [] → rows ≡ []
    → (gathering s areas [] u ≡ says (Ok rows, u))
unfolding gathering
none_along s areas rows entry u none empty = ap (λ ars. gathering s ars [] u) none ∙ ap (λ rs. says (Ok rs, u)) (sym empty)

pub rows_none : (old : Read) (rt : Routed) (rows : List Stored) → rt.areas ≡ [] → rows ≡ []
    → rows_along old.table old.aim rt (use_of (uses old)) ≡ says (Ok (record { rows = rows; entry = rt.entry }), now_uses old)
unfolding rows_along bringing
rows_none old rt rows none empty =
    plan_on (gathering (sweep_of old.table old.aim) rt.areas []) (bringing rt.entry) (now_uses old)
    ∙ ap (onward (bringing rt.entry)) (none_along (sweep_of old.table old.aim) rt.areas rows rt.entry (now_uses old) none empty)
    ∙ says_on (bringing rt.entry) rows (now_uses old)

pub enter_found : (old new : Read) (g : Got) (rt : Routed) (t : Taken) → (TellsGot g → routed old.aim g ≡ Ok rt)
    → GoesWith (rows_along old.table old.aim rt (now_uses old)) new t → Enters old new g t
unfolding behind_entries or_refused
enter_found old new g rt t told goes tells = subst (λ o. GoesWith (or_refused old.table old.aim o (now_uses old)) new t) (sym (told tells)) goes

pub enter_refused : (old new : Read) (g : Got) (e : Reply) → (e ≢ reply.NoMemory → TellsGot g → routed old.aim g ≡ Err e) → now_uses new ≡ now_uses old
    → Enters old new g (taken.Refused e)
unfolding behind_entries or_refused
enter_refused old new g e told same tells forced =
    ap (λ o. or_refused old.table old.aim o (now_uses old)) (told forced tells) ∙ ap (λ u. says (Err e, u)) (sym same)

-- ---- answers

told_got : (a : Answer) (g : Got) → access.Brings a (accessed.Came g) → TellsAnswer a → TellsGot g
told_got a (got.Row row) is tells = subst TellsAnswer is tells
told_got a (got.Rows rows) is tells = subst TellsAnswer is tells
told_got a got.Nothing is tells = tt

pub refused_first : (old v : Read) (x y : Accessing) (a : Answer) (e : Reply) → v ≡ old → v.stage ≡ stage.First x → access.Hears x y a (accessed.Refused e)
    → now_hears old a ≡ says (Err e, use_of y.usage)
refused_first old v x y a e is at h =
    subst (λ o. now_hears o a ≡ says (Err e, use_of y.usage)) is
    (ap (λ s. hears_at v.table v.aim s a) at ∙ ap (onward (behind_entries v.table v.aim)) h ∙ refused_on (behind_entries v.table v.aim) e (use_of y.usage))

pub came_first : (old v new : Read) (x y : Accessing) (a : Answer) (g : Got) (t : Taken) → v ≡ old → v.stage ≡ stage.First x
    → access.Hears x y a (accessed.Came g) → access.Brings a (accessed.Came g) → Enters (record v { stage = stage.First y }) new g t
    → IsTold old a → Hears old new a t
came_first old v new x y a g t is at h b enters tells =
    let told : TellsGot g = told_got a g b (subst (λ s. IsTold (record v { stage = s }) a) at (subst (λ o. IsTold o a) (sym is) tells)) in
    subst (λ o. GoesWith (now_hears o a) new t) is
    (subst (λ talk. GoesWith talk new t)
    (sym (ap (λ s. hears_at v.table v.aim s a) at ∙ ap (onward (behind_entries v.table v.aim)) h ∙ says_on (behind_entries v.table v.aim) g (use_of y.usage)))
    (enters told))

brought_goes : (v new : Read) (r q : Rounding) (entry : Option Entry) (talk : Talk (Ends (List Stored))) (s : RoundTaken) → new ≡ record v { stage = stage.Rows q entry }
    → round.GoesWith talk q s → GoesWith (onward (bringing entry) talk) new (as_taken entry s)
unfolding bringing
brought_goes v new r q entry talk brought.More after h = subst (λ w. GoesWith (onward (bringing entry) talk) w taken.More) (sym after) (h.0, ap (onward (bringing entry)) h.1)
brought_goes v new r q entry talk (brought.Came rows) after h =
    ap (onward (bringing entry)) h ∙ says_on (bringing entry) rows (round.now_uses q)
    ∙ ap (λ w. says (Ok (record { rows = rows; entry = entry }), now_uses w)) (sym after)
brought_goes v new r q entry talk (brought.Refused e) after h = λ forced.
    ap (onward (bringing entry)) (h forced) ∙ refused_on (bringing entry) e (round.now_uses q) ∙ ap (λ w. says (Err e, now_uses w)) (sym after)

pub rows_heard : (old v new : Read) (r q : Rounding) (entry : Option Entry) (a : Answer) (s : RoundTaken) (t : Taken) → v ≡ old → v.stage ≡ stage.Rows r entry
    → new ≡ record v { stage = stage.Rows q entry } → t ≡ as_taken entry s → round.Hears r q a s → Hears old new a t
rows_heard old v new r q entry a s t is at after same h =
    subst (λ o. GoesWith (now_hears o a) new t) is (subst (λ x. GoesWith (hears_at v.table v.aim x a) new t) (sym at)
    (subst (GoesWith (onward (bringing entry) (round.now_hears r a)) new) (sym same) (brought_goes v new r q entry (round.now_hears r a) s after h)))

rows_kept : (v new : Read) (r q : Rounding) (entry : Option Entry) (s : RoundTaken) → new ≡ record v { stage = stage.Rows q entry } → round.BringsRows r q s → AreRows r.rows
    → BringsRows new (as_taken entry s)
rows_kept v new r q entry brought.More after h are = subst HasRows (sym after) (h are)
rows_kept v new r q entry (brought.Came rows) after h are = h are
rows_kept v new r q entry (brought.Refused e) after h are = tt

pub rows_brought : (old v new : Read) (r q : Rounding) (entry : Option Entry) (s : RoundTaken) (t : Taken) → v ≡ old → v.stage ≡ stage.Rows r entry
    → new ≡ record v { stage = stage.Rows q entry } → t ≡ as_taken entry s → round.BringsRows r q s → HasRows old → BringsRows new t
rows_brought old v new r q entry s t is at after same h has =
    subst (BringsRows new) (sym same)
    (rows_kept v new r q entry s after h (subst (λ x. HasRows (record v { stage = x })) at (subst HasRows (sym is) has)))

pub rows_ask : (v new : Read) (r q : Rounding) (entry : Option Entry) (a : Answer) (s : RoundTaken) (t : Taken)
    → new ≡ record v { stage = stage.Rows q entry } → t ≡ as_taken entry s → round.Hears r q a s → AsksOn new t
rows_ask v new r q entry a brought.More t after same h = subst (AsksOn new) (sym same) (subst (λ w. AsksOn w taken.More) (sym after) h.0)
rows_ask v new r q entry a (brought.Came rows) t after same h = subst (AsksOn new) (sym same) tt
rows_ask v new r q entry a (brought.Refused e) t after same h = subst (AsksOn new) (sym same) tt

-- ---- nodes

pub came_keeps : (old v new : Read) (x y : Accessing) (t : Taken) → v ≡ old → v.stage ≡ stage.First x → keeps_nodes x.usage.used.0 y.usage.used.0 false ≡ true
    → (uses new).used.0 ≡ y.usage.used.0 → keeps_nodes (uses old).used.0 (uses new).used.0 (rolls t) ≡ true
came_keeps old v new x y t is at kept same =
    subst (λ o. keeps_nodes (uses o).used.0 (uses new).used.0 (rolls t) ≡ true) is
    (subst (λ s. keeps_nodes (uses_at s).used.0 (uses new).used.0 (rolls t) ≡ true) (sym at) (goes_on x.usage.used.0 y.usage.used.0 (uses new).used.0 (rolls t) kept same))

rolls_brought : (entry : Option Entry) (s : RoundTaken) → rolls (as_taken entry s) ≡ round.rolls s
rolls_brought entry brought.More = refl
rolls_brought entry (brought.Came rows) = refl
rolls_brought entry (brought.Refused e) = refl

pub rows_keep : (old v new : Read) (r q : Rounding) (entry : Option Entry) (s : RoundTaken) (t : Taken) → v ≡ old → v.stage ≡ stage.Rows r entry
    → new ≡ record v { stage = stage.Rows q entry } → t ≡ as_taken entry s → keeps_nodes r.access.usage.used.0 q.access.usage.used.0 (round.rolls s) ≡ true
    → keeps_nodes (uses old).used.0 (uses new).used.0 (rolls t) ≡ true
rows_keep old v new r q entry s t is at after same kept =
    subst (λ o. keeps_nodes (uses o).used.0 (uses new).used.0 (rolls t) ≡ true) is
    (subst (λ z. keeps_nodes (uses_at z).used.0 (uses new).used.0 (rolls t) ≡ true) (sym at)
    (subst (λ w. keeps_nodes r.access.usage.used.0 (uses w).used.0 (rolls t) ≡ true) (sym after)
    (subst (λ b. keeps_nodes r.access.usage.used.0 q.access.usage.used.0 b ≡ true) (sym (ap rolls same ∙ rolls_brought entry s)) kept)))

-- ---- entries of a table

on_ok : (res : Result Routed NoMemory) (rows : List Stored) → IfOk res (λ r. r ≡ in_areas (areas_of_routes rows)) → IfOk res (λ r. ◌≡◌ {A = Result Routed Reply} (Ok r) (of_all (got.Rows rows)))
on_ok (Ok r) rows h = ap (λ x. Ok x) h
on_ok (Err e) rows h = tt

pub table_told : (g : Got) (rows now : List Stored) (res : Result Routed NoMemory) → g ≡ got.Rows rows → now ≡ rows
    → (TellEntries now → IfOk res (λ r. r ≡ in_areas (areas_of_routes now))) → TellsGot g → IfOk res (λ r. ◌≡◌ {A = Result Routed Reply} (Ok r) (of_all g))
table_told g rows now res is same told tells =
    let at_rows : TellEntries now = subst TellEntries (sym same) (subst TellsGot is tells) in
    subst (λ h. IfOk res (λ r. ◌≡◌ {A = Result Routed Reply} (Ok r) (of_all h))) (sym is)
    (on_ok res rows (subst (λ rs. IfOk res (λ r. r ≡ in_areas (areas_of_routes rs))) same (told at_rows)))
