-- The steps of a statement's plan keep what is to be said.
use Rattle.std.proofs.Common.{◌≡◌, ◌≢◌, ℕ, Bool, true, false, true≢false, List, [], Option, Some, None, Result, Ok, Err, IfOk, refl, ap, sym, ◌∙◌, subst}
use Rattle.std.specs.Prelude.{MatchOption, ⊤}
use Rattle.hb_types.specs.declared.answer.Answer.{Answer}
use Rattle.hb_types.specs.declared.change.Change.{Change}
use Rattle.hb_types.specs.declared.change.Stored.{Stored}
use Rattle.hb_model.specs.declared.reply.Reply.{Reply}
use Rattle.hb_model.specs.declared.reply.Reply.TheVariants as reply
use Rattle.hb_model.specs.declared.table.Table.{Table}
use Rattle.hb_model.specs.Told.{Found, table_among}
use Rattle.hb_talk.specs.Talk.{Talk, says, Use, Planning, ◌>>◌, pure}
use Rattle.hb_talk.specs.Plans.{writes}
use Rattle.hb_access.specs.declared.access.Next.{Next}
use Rattle.hb_access.specs.declared.access.Next.TheVariants as next
use Rattle.hb_access.specs.declared.access.Taken.TheVariants as accessed
use Rattle.hb_access.specs.declared.goal.Goal.{Goal}
use Rattle.hb_access.specs.declared.goal.Got.{Got}
use Rattle.hb_access.specs.declared.goal.Got.TheVariants as got
use Rattle.hb_access.specs.declared.usage.Usage.{Usage}
use Rattle.hb_access.specs.Accesses.{Accessing, use_of, locked, keeps_nodes}
use Rattle.hb_access.specs.Accesses as access
use Rattle.hb_access.proofs.Nodes.{goes_on}
use Rattle.hb_round.specs.Onward.{onward, Asks}
use Rattle.hb_round.specs.Onward as part
use Rattle.hb_round.proofs.Onwards.{asks_on, access_asks, says_on, refused_on, plan_on}
use Rattle.hb_reading.specs.declared.aim.Aim.{Aim}
use Rattle.hb_reading.specs.declared.reading.Brought.{Brought}
use Rattle.hb_reading.specs.declared.reading.Taken.TheVariants as readed
use Rattle.hb_reading.specs.Aims.{reading}
use Rattle.hb_reading.specs.Readings.{Read}
use Rattle.hb_reading.specs.Readings as reads
use Rattle.hb_writes.specs.declared.writing.Taken.{Taken as WritesTaken}
use Rattle.hb_writes.specs.declared.writing.Taken.TheVariants as written
use Rattle.hb_writes.specs.Underway.{Underway}
use Rattle.hb_writes.specs.Writings as writing
use Rattle.hb_endings.specs.Endings.{End, ending_talk}
use Rattle.hb_endings.specs.Rows.{AreOf}
use Rattle.hb_planquery.specs.declared.query.Query.{Query}
use Rattle.hb_planquery.specs.declared.query_plan.Stage.{Stage}
use Rattle.hb_planquery.specs.declared.query_plan.Stage.TheVariants as stage
use Rattle.hb_planquery.specs.declared.query_plan.Taken.{Taken}
use Rattle.hb_planquery.specs.declared.query_plan.Taken.TheVariants as taken
use Rattle.hb_planquery.specs.Queries.{plan_of, rows_in, TellsTables, names_goal, early, aim_at, read_and_end, on_found, behind_names, ending_at, end_at}
use Rattle.hb_planquery.specs.QueryPlans.{Querying, is_asking, is_waiting, asks_at, waits_at, NextIs, Hears, GoesWith, AsksOn, Finds, Reads, EndsAt, HasTable, IsTold, TellsAnswer, as_taken, rolls, uses, uses_at, now_uses, now_talks, now_hears, talks_at, hears_at}
use Rattle.hb_planquery.proofs.PlanParts.{plans}

pub begins : (name : List ℕ) (q : Query) (g : Goal) (u : Usage) (x : Accessing) → g ≡ names_goal → access.now_talks x ≡ locked g (use_of u)
    → onward (behind_names name q) (access.now_talks x) ≡ plan_of name q (use_of u)
begins name q g u x goal talk = ap (onward (behind_names name q)) (talk ∙ ap (λ h. locked h (use_of u)) goal) ∙ sym (plans name q (use_of u))

-- ---- what is asked

next_at : (old v new : Querying) (s t : Stage) (n m : Next) → v ≡ old → v.stage ≡ s → new ≡ record v { stage = t } → n ≡ m
    → NextIs (record v { stage = s }) (record v { stage = t }) m → NextIs old new n
next_at old v new s t n m is at after same h =
    subst (λ o. NextIs o new n) is (subst (λ w. NextIs v w n) (sym after) (subst (NextIs v (record v { stage = t })) (sym same)
    (subst (λ z. NextIs (record v { stage = z }) (record v { stage = t }) m) (sym at) h)))

pub next_names : (old v new : Querying) (x y : Accessing) (n m : Next) → v ≡ old → v.stage ≡ stage.Names x → new ≡ record v { stage = stage.Names y } → n ≡ m
    → access.NextIs x y m → NextIs old new n
next_names old v new x y n m is at after same h =
    next_at old v new (stage.Names x) (stage.Names y) n m is at after same
    (asks_on (behind_names v.name v.query) (access.now_talks x) (access.now_hears y) (access.is_waiting y.stage) (use_of y.usage) m (access_asks x y m h))

pub next_rows : (old v new : Querying) (k : ℕ) (t : Table) (r s : Read) (n m : Next) → v ≡ old → v.stage ≡ stage.Rows k t r → new ≡ record v { stage = stage.Rows k t s } → n ≡ m
    → reads.NextIs r s m → NextIs old new n
next_rows old v new k t r s n m is at after same h =
    next_at old v new (stage.Rows k t r) (stage.Rows k t s) n m is at after same
    (asks_on (ending_at v.query (k, t)) (reads.now_talks r) (reads.now_hears s) (reads.is_waiting s) (reads.now_uses s) m h)

writes_asks : (w x : Underway) (m : Next) → writing.NextIs w x m → Asks (writing.now_talks w) (writing.now_hears x) (writing.is_waiting x) (writing.using x) m
writes_asks w x (next.Ask node q) h = h
writes_asks w x (next.Refused r) h = h

pub next_writes : (old v new : Querying) (w x : Underway) (n m : Next) → v ≡ old → v.stage ≡ stage.Writes w → new ≡ record v { stage = stage.Writes x } → n ≡ m
    → writing.NextIs w x m → NextIs old new n
next_writes old v new w x n m is at after same h = next_at old v new (stage.Writes w) (stage.Writes x) n m is at after same (writes_asks w x m h)

pub ended_asks : (old v : Querying) (u : Usage) → v ≡ old → v.stage ≡ stage.Ended u → is_asking old ≡ true → ⊥
ended_asks old v u is at asking = true≢false (sym asking ∙ ap is_asking (sym is) ∙ ap asks_at at)

pub ended_waits : (old v : Querying) (u : Usage) → v ≡ old → v.stage ≡ stage.Ended u → is_waiting old ≡ true → ⊥
ended_waits old v u is at waiting = true≢false (sym waiting ∙ ap is_waiting (sym is) ∙ ap waits_at at)

-- ---- what follows the tables

pub finds : (old new : Querying) (g : Got) (o : Option Found) (t : Taken) → o ≡ table_among (rows_in g) old.name
    → GoesWith (on_found old.query o (now_uses old)) new t → Finds old new g t
unfolding behind_names
finds old new g o t is goes = subst (λ z. GoesWith (on_found old.query z (now_uses old)) new t) is goes

pub found_goes : (old new : Querying) (k : ℕ) (table : Table) (t : Taken) → Reads old new k table t → GoesWith (on_found old.query (Some (k, table)) (now_uses old)) new t
unfolding on_found
found_goes old new k table t reads = reads

pub none_goes : (old : Querying) → GoesWith (on_found old.query None (now_uses old)) old (taken.Refused reply.NoTable)
unfolding on_found
none_goes old = λ _. refl

pub reads_on : (old v : Querying) (u : Usage) (k : ℕ) (table : Table) (a : Aim) (r : Read) → v ≡ old → u ≡ uses old → early v.query table ≡ None → a ≡ aim_at v.query table
    → reads.is_asking r ≡ true → reads.now_talks r ≡ reading k a (use_of u)
    → Reads old (record v { stage = stage.Rows k table r }) k table taken.More
unfolding read_and_end
reads_on old v u k table a r is its free wanted asking talk = (
  asking,
  subst (λ o. read_and_end o.query (k, table) (early o.query table) (now_uses old) ≡ onward (ending_at v.query (k, table)) (reads.now_talks r)) is
      (ap (λ o. read_and_end v.query (k, table) o (now_uses old)) free
      ∙ plan_on (reading k (aim_at v.query table)) (ending_at v.query (k, table)) (now_uses old)
      ∙ ap (onward (ending_at v.query (k, table))) (ap (λ z. reading k z (now_uses old)) (sym wanted) ∙ ap (λ z. reading k a (use_of z)) (sym its) ∙ sym talk)),
)

pub reads_refused : (old v : Querying) (k : ℕ) (table : Table) (e : Reply) → v ≡ old → early v.query table ≡ Some e → Reads old old k table (taken.Refused e)
unfolding read_and_end
reads_refused old v k table e is refused = λ _.
    subst (λ o. read_and_end o.query (k, table) (early o.query table) (now_uses old) ≡ says (Err e, now_uses old)) is
    (ap (λ o. read_and_end v.query (k, table) o (now_uses old)) refused)

-- ---- answers

heard_at : (old v new : Querying) (s : Stage) (a : Answer) (t : Taken) → v ≡ old → v.stage ≡ s → GoesWith (hears_at v.name v.query s a) new t → Hears old new a t
heard_at old v new s a t is at h = subst (λ o. GoesWith (now_hears o a) new t) is (subst (λ z. GoesWith (hears_at v.name v.query z a) new t) (sym at) h)

told_at : (old v : Querying) (s : Stage) (a : Answer) → v ≡ old → v.stage ≡ s → IsTold old a → IsTold (record v { stage = s }) a
told_at old v s a is at told = subst (λ z. IsTold (record v { stage = z }) a) at (subst (λ o. IsTold o a) (sym is) told)

pub refused_names : (old v new : Querying) (x y : Accessing) (a : Answer) (e : Reply) → v ≡ old → v.stage ≡ stage.Names x → new ≡ record v { stage = stage.Names y }
    → access.Hears x y a (accessed.Refused e) → Hears old new a (taken.Refused e)
refused_names old v new x y a e is at after h =
    heard_at old v new (stage.Names x) a (taken.Refused e) is at (subst (λ w. GoesWith (hears_at v.name v.query (stage.Names x) a) w (taken.Refused e)) (sym after)
    (λ _. ap (onward (behind_names v.name v.query)) h ∙ refused_on (behind_names v.name v.query) e (use_of y.usage)))

pub more_names : (old v new : Querying) (x y : Accessing) (a : Answer) → v ≡ old → v.stage ≡ stage.Names x → new ≡ record v { stage = stage.Names y }
    → access.Hears x y a accessed.More → Hears old new a taken.More
more_names old v new x y a is at after h =
    heard_at old v new (stage.Names x) a taken.More is at (subst (λ w. GoesWith (hears_at v.name v.query (stage.Names x) a) w taken.More) (sym after)
    (h.0, ap (onward (behind_names v.name v.query)) h.1))

told_tables : (a : Answer) (g : Got) → access.Brings a (accessed.Came g) → TellsAnswer a → TellsTables g
told_tables a (got.Row row) is tells = tt
told_tables a (got.Rows rows) is tells = subst TellsAnswer is tells
told_tables a got.Nothing is tells = tt

pub came_names : (old v new : Querying) (x y : Accessing) (a : Answer) (g : Got) (t : Taken) → v ≡ old → v.stage ≡ stage.Names x
    → access.Hears x y a (accessed.Came g) → access.Brings a (accessed.Came g) → (TellsTables g → Finds (record v { stage = stage.Names y }) new g t)
    → IsTold old a → Hears old new a t
came_names old v new x y a g t is at h b finds told =
    heard_at old v new (stage.Names x) a t is at
    (subst (λ talk. GoesWith talk new t) (sym (ap (onward (behind_names v.name v.query)) h ∙ says_on (behind_names v.name v.query) g (use_of y.usage)))
    (finds (told_tables a g b (told_at old v (stage.Names x) a is at told))))

pub more_rows : (old v new : Querying) (k : ℕ) (t : Table) (r s : Read) (a : Answer) → v ≡ old → v.stage ≡ stage.Rows k t r → new ≡ record v { stage = stage.Rows k t s }
    → (reads.IsTold r a → reads.Hears r s a readed.More) → IsTold old a → Hears old new a taken.More
more_rows old v new k t r s a is at after h told =
    let heard : reads.Hears r s a readed.More = h (told_at old v (stage.Rows k t r) a is at told).0 in
    heard_at old v new (stage.Rows k t r) a taken.More is at (subst (λ w. GoesWith (hears_at v.name v.query (stage.Rows k t r) a) w taken.More) (sym after)
    (heard.0, ap (onward (ending_at v.query (k, t))) heard.1))

pub refused_rows : (old v new : Querying) (k : ℕ) (t : Table) (r s : Read) (a : Answer) (e : Reply) → v ≡ old → v.stage ≡ stage.Rows k t r
    → new ≡ record v { stage = stage.Rows k t s } → (reads.IsTold r a → reads.Hears r s a (readed.Refused e)) → IsTold old a → Hears old new a (taken.Refused e)
refused_rows old v new k t r s a e is at after h told =
    let heard : reads.Hears r s a (readed.Refused e) = h (told_at old v (stage.Rows k t r) a is at told).0 in
    heard_at old v new (stage.Rows k t r) a (taken.Refused e) is at (subst (λ w. GoesWith (hears_at v.name v.query (stage.Rows k t r) a) w (taken.Refused e)) (sym after)
    (λ forced. ap (onward (ending_at v.query (k, t))) (heard forced) ∙ refused_on (ending_at v.query (k, t)) e (reads.now_uses s)))

pub came_rows : (old v new : Querying) (k : ℕ) (table : Table) (r s : Read) (a : Answer) (b : Brought) (t : Taken) → v ≡ old → v.stage ≡ stage.Rows k table r
    → (reads.IsTold r a → reads.Hears r s a (readed.Came b)) → (AreOf table b.rows → GoesWith (ending_at v.query (k, table) b (reads.now_uses s)) new t)
    → IsTold old a → Hears old new a t
came_rows old v new k table r s a b t is at h ends told =
    let is_told = told_at old v (stage.Rows k table r) a is at told in
    let heard : reads.Hears r s a (readed.Came b) = h is_told.0 in
    heard_at old v new (stage.Rows k table r) a t is at
    (subst (λ talk. GoesWith talk new t) (sym (ap (onward (ending_at v.query (k, table))) heard ∙ says_on (ending_at v.query (k, table)) b (reads.now_uses s)))
    (ends (is_told.1 b (reads.now_uses s) heard)))

writes_go : (v new : Querying) (w x : Underway) (talk : Talk (part.Ends Reply)) (s : WritesTaken) → new ≡ record v { stage = stage.Writes x } → writing.Goes talk x s → GoesWith talk new (as_taken s)
writes_go v new w x talk written.More after h = subst (λ z. GoesWith talk z taken.More) (sym after) h
writes_go v new w x talk (written.Replied r) after h = subst (λ z. GoesWith talk z (taken.Replied r)) (sym after) h
writes_go v new w x talk (written.Refused r) after h = subst (λ z. GoesWith talk z (taken.Refused r)) (sym after) (λ _. h)

pub writes_heard : (old v new : Querying) (w x : Underway) (a : Answer) (s : WritesTaken) (t : Taken) → v ≡ old → v.stage ≡ stage.Writes w
    → new ≡ record v { stage = stage.Writes x } → t ≡ as_taken s → writing.Hears w x a s → Hears old new a t
writes_heard old v new w x a s t is at after same h =
    heard_at old v new (stage.Writes w) a t is at (subst (GoesWith (writing.now_hears w a) new) (sym same) (writes_go v new w x (writing.now_hears w a) s after h))

asks_goes : (talk : Talk (part.Ends Reply)) (new : Querying) (t : Taken) → GoesWith talk new t → AsksOn new t
asks_goes talk new taken.More h = h.0
asks_goes talk new (taken.Replied r) h = tt
asks_goes talk new (taken.Refused r) h = tt

pub writes_ask : (v new : Querying) (w x : Underway) (a : Answer) (s : WritesTaken) (t : Taken) → new ≡ record v { stage = stage.Writes x } → t ≡ as_taken s
    → writing.Hears w x a s → AsksOn new t
writes_ask v new w x a s t after same h =
    subst (AsksOn new) (sym same) (asks_goes (writing.now_hears w a) new (as_taken s) (writes_go v new w x (writing.now_hears w a) s after h))

-- ---- nodes

keeps_at : (old v new : Querying) (s : Stage) (t : Taken) → v ≡ old → v.stage ≡ s → keeps_nodes (uses_at s).used.0 (uses new).used.0 (rolls t) ≡ true
    → keeps_nodes (uses old).used.0 (uses new).used.0 (rolls t) ≡ true
keeps_at old v new s t is at kept =
    subst (λ o. keeps_nodes (uses o).used.0 (uses new).used.0 (rolls t) ≡ true) is
    (subst (λ z. keeps_nodes (uses_at z).used.0 (uses new).used.0 (rolls t) ≡ true) (sym at) kept)

pub came_keeps : (old v new : Querying) (s : Stage) (mid : ℕ) (t : Taken) → v ≡ old → v.stage ≡ s → keeps_nodes (uses_at s).used.0 mid false ≡ true
    → (uses new).used.0 ≡ mid → keeps_nodes (uses old).used.0 (uses new).used.0 (rolls t) ≡ true
came_keeps old v new s mid t is at kept same =
    keeps_at old v new s t is at (goes_on (uses_at s).used.0 mid (uses new).used.0 (rolls t) kept same)

rolls_written : (s : WritesTaken) → rolls (as_taken s) ≡ writing.rolls s
rolls_written written.More = refl
rolls_written (written.Replied r) = refl
rolls_written (written.Refused r) = refl

pub writes_keep : (old v new : Querying) (w x : Underway) (s : WritesTaken) (t : Taken) → v ≡ old → v.stage ≡ stage.Writes w
    → new ≡ record v { stage = stage.Writes x } → t ≡ as_taken s → keeps_nodes w.access.usage.used.0 x.access.usage.used.0 (writing.rolls s) ≡ true
    → keeps_nodes (uses old).used.0 (uses new).used.0 (rolls t) ≡ true
writes_keep old v new w x s t is at after same kept =
    keeps_at old v new (stage.Writes w) t is at
    (subst (λ z. keeps_nodes w.access.usage.used.0 (uses z).used.0 (rolls t) ≡ true) (sym after)
    (subst (λ b. keeps_nodes w.access.usage.used.0 x.access.usage.used.0 b ≡ true) (sym (ap rolls same ∙ rolls_written s)) kept))

-- ---- writes

pub writes_begin : (old v new : Querying) (u : Usage) (cs : List Change) (r : Reply) (w : Underway) → u ≡ uses old → new ≡ record v { stage = stage.Writes w }
    → writing.is_asking w ≡ true → (writes cs >> pure r) (use_of u) ≡ writing.now_talks w → GoesWith ((writes cs >> pure r) (now_uses old)) new taken.More
writes_begin old v new u cs r w its after asking talk =
    subst (λ z. GoesWith ((writes cs >> pure r) (now_uses old)) z taken.More) (sym after) (asking, ap (λ x. (writes cs >> pure r) (use_of x)) (sym its) ∙ talk)

pub writes_replied : (old v new : Querying) (u x : Usage) (cs : List Change) (r s : Reply) → u ≡ uses old → new ≡ record v { stage = stage.Ended x }
    → (writes cs >> pure r) (use_of u) ≡ says (Ok s, use_of x) → GoesWith ((writes cs >> pure r) (now_uses old)) new (taken.Replied s)
writes_replied old v new u x cs r s its after talk =
    subst (λ z. GoesWith ((writes cs >> pure r) (now_uses old)) z (taken.Replied s)) (sym after) (ap (λ y. (writes cs >> pure r) (use_of y)) (sym its) ∙ talk)

pub writes_refused : (old v new : Querying) (u x : Usage) (cs : List Change) (r s : Reply) → u ≡ uses old → new ≡ record v { stage = stage.Ended x }
    → (writes cs >> pure r) (use_of u) ≡ says (Err s, use_of x) → GoesWith ((writes cs >> pure r) (now_uses old)) new (taken.Refused s)
writes_refused old v new u x cs r s its after talk =
    subst (λ z. GoesWith ((writes cs >> pure r) (now_uses old)) z (taken.Refused s)) (sym after) (λ _. ap (λ y. (writes cs >> pure r) (use_of y)) (sym its) ∙ talk)

-- ---- ends

pub ends_without : (s : Stage) (old new : Querying) (b : Brought) → EndsAt s old new b (taken.Refused reply.NoMemory)
ends_without (stage.Names x) old new b = tt
ends_without (stage.Rows n t r) old new b = λ _ forced. absurd (forced refl)
ends_without (stage.Writes w) old new b = tt
ends_without (stage.Ended u) old new b = tt

pub ends_at : (s : Stage) (old new : Querying) (b : Brought) (f : Found) (e : End) (u : Use) (t : Taken) → HasTable s (Some f)
    → (AreOf f.1 b.rows → e ≡ end_at old.query f b) → u ≡ now_uses old → GoesWith (ending_talk e u) new t → EndsAt s old new b t
unfolding ending_at
ends_at (stage.Names x) old new b f e u t has told its goes = tt
ends_at (stage.Rows n table r) old new b f e u t has told its goes = λ are.
    subst (λ g. GoesWith (ending_at old.query g b (now_uses old)) new t) has
    (subst (λ x. GoesWith (ending_talk x (now_uses old)) new t) (told (subst (λ g. AreOf g.1 b.rows) (sym has) are))
    (subst (λ v. GoesWith (ending_talk e v) new t) its goes))
ends_at (stage.Writes w) old new b f e u t has told its goes = tt
ends_at (stage.Ended x) old new b f e u t has told its goes = tt
