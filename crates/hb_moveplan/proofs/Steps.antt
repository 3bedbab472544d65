-- The steps of a plan keep what is to be said.
use Rattle.std.proofs.Common.{◌≡◌, ℕ, Bool, true, false, List, [], Option, Some, None, option_map, Ok, Err, refl, ap, sym, ◌∙◌, subst, ◌∷◌}
use Rattle.std.specs.Prelude.{◌↔◌, IsTrue}
use Rattle.std.proofs.lemmas.Bool.{false≢true, true≢false}
use Rattle.std.proofs.lemmas.List.Elements.{All-nil}
use Rattle.hb_types.specs.declared.answer.Answer.{Answer}
use Rattle.hb_types.specs.declared.change.Change.{Change}
use Rattle.hb_types.specs.declared.change.Stored.{Stored}
use Rattle.hb_model.specs.declared.reply.Reply.{Reply}
use Rattle.hb_model.specs.declared.reply.Reply.TheVariants as reply
use Rattle.hb_model.specs.Shapes.{Hint as Moving}
use Rattle.hb_model.specs.Spots.{ds}
use Rattle.hb_model.specs.Told.{table_among}
use Rattle.hb_talk.specs.Moves.{Finish as Finding, is_hinted}
use Rattle.hb_talk.specs.Talk.{Talk, says, Use}
use Rattle.hb_access.specs.declared.access.Next.{Next}
use Rattle.hb_access.specs.declared.access.Next.TheVariants as next
use Rattle.hb_access.specs.declared.access.Taken.TheVariants as accessed
use Rattle.hb_access.specs.declared.goal.Goal.{Goal}
use Rattle.hb_access.specs.declared.goal.Got.{Got}
use Rattle.hb_access.specs.declared.goal.Got.TheVariants as got
use Rattle.hb_access.specs.declared.usage.Usage.{Usage}
use Rattle.hb_access.specs.Accesses.{Accessing, use_of, locked, written, keeps_nodes}
use Rattle.hb_access.specs.Accesses as access
use Rattle.hb_access.proofs.Nodes.{goes_on}
use Rattle.hb_planrows.specs.PlanRows.{TellsEntry, TellsTable, TellTables}
use Rattle.hb_round.specs.Onward.{Ends, onward, Asks}
use Rattle.hb_round.proofs.Onwards.{asks_on, access_asks, says_on, refused_on}
use Rattle.hb_batch.specs.declared.batch.Taken.{Taken as BatchTaken}
use Rattle.hb_batch.specs.declared.batch.Taken.TheVariants as batched
use Rattle.hb_batch.specs.Batches.{Batching, entry_got, hint_of, TellsAnswer, TellsGot}
use Rattle.hb_batch.specs.Batches as batch
use Rattle.hb_moveplan.specs.Parts.{Checking, Finishing}
use Rattle.hb_moveplan.specs.declared.finish.Finished.TheVariants as ended
use Rattle.hb_moveplan.specs.declared.finish.Part.{Part}
use Rattle.hb_moveplan.specs.declared.finish.Part.TheVariants as part
use Rattle.hb_moveplan.specs.declared.found.Found.TheVariants as found
use Rattle.hb_moveplan.specs.declared.found.Taken.{Taken}
use Rattle.hb_moveplan.specs.declared.found.Taken.TheVariants as taken
use Rattle.hb_moveplan.specs.declared.plan.Plan.{Plan}
use Rattle.hb_moveplan.specs.declared.plan.Plan.TheVariants as plan
use Rattle.hb_moveplan.specs.MovePlans.{Came, hints, moved, finished, coming, told, behind, check_hears, check_on, check_talks, check_uses, entries_goal, entry_change, finish_hears, finish_on, finish_talks, finish_uses, from_group, from_number, from_rows, group_goal, hints_among, if_empty, if_still, is_empty, rows_got, taken_by, usage_of, AreSitedIn, AsksOn, CheckTold, FinishTells, FinishTold, Goes, GoesWith, Hears, NextIs, RowsTold, Stays, TellGroups, TellsGroup, rolls}
use Rattle.hb_moveplan.proofs.Plans.{entries_asked, entry_written, group_asked}

-- ---- what a plan comes to

pub asks_coming : {A : Type 0} (f : A → Came) (talk : Talk (Ends A)) (hears : Answer → Talk (Ends A)) (w : Bool) (u : Use) (n : Next)
    → Asks talk hears w u n → Asks (coming f talk) (λ a. coming f (hears a)) w u n
asks_coming f talk hears w u (next.Ask node q) h = (h.0, ap (coming f) h.1)
asks_coming f talk hears w u (next.Refused r) h = ap (coming f) h

-- what goes on with the same nodes keeps those of an answer that did not roll back
pub keeps_on : (was : ℕ) (mid new : Plan) (t : Taken) → keeps_nodes was (usage_of mid).used.0 false ≡ true → Stays mid new t
    → keeps_nodes was (usage_of new).used.0 (rolls t) ≡ true
keeps_on was mid new t kept stays = goes_on was (usage_of mid).used.0 (usage_of new).used.0 (rolls t) kept stays.usage_nodes

-- ---- a check

pub check_next : (old c : Checking) (new : Accessing) (n : Next) → c ≡ old → access.NextIs c.access new n → NextIs (plan.Check old) (plan.Check (record c { access = new })) n
check_next old c new n is h =
    subst (λ o. NextIs (plan.Check o) (plan.Check (record c { access = new })) n) is
    (asks_coming hints (check_talks c) (check_hears (record c { access = new })) (access.is_waiting new.stage) (use_of new.usage) n
    (asks_on (check_on c) (access.now_talks c.access) (access.now_hears new) (access.is_waiting new.stage) (use_of new.usage) n (access_asks c.access new n h)))

pub check_more : (old c : Checking) (new : Accessing) (a : Answer) → c ≡ old → access.Hears c.access new a accessed.More
    → Hears (plan.Check old) (plan.Check (record c { access = new })) a taken.More
check_more old c new a is h =
    (h.0, subst (λ o. coming hints (check_hears o a) ≡ coming hints (check_talks (record c { access = new }))) is (ap (λ t. coming hints (onward (check_on c) t)) h.1))

pub check_refused : (old c : Checking) (new : Accessing) (a : Answer) (e : Reply) → c ≡ old → access.Hears c.access new a (accessed.Refused e)
    → Hears (plan.Check old) (plan.Check (record c { access = new })) a (taken.Refused e)
check_refused old c new a e is h = λ _.
    subst (λ o. coming hints (check_hears o a) ≡ says (Err e, use_of new.usage)) is
    (ap (λ t. coming hints (onward (check_on c) t)) h ∙ ap (coming hints) (refused_on (check_on c) e (use_of new.usage)))

no_rows : (table : Option ℕ) → RowsTold table []
no_rows None = All-nil TellsTable
no_rows (Some table) = (All-nil (λ r. TellsEntry (Some r.row)), All-nil TellsGroup)

rows_told : (table : Option ℕ) (a : Answer) (g : Got) → access.Brings a (accessed.Came g) → CheckTold table a → RowsTold table (rows_got g)
rows_told table a (got.Rows rows) is told = subst (CheckTold table) is told
rows_told table a (got.Row row) is told = no_rows table
rows_told table a got.Nothing is told = no_rows table

pub check_came : (old c : Checking) (new : Plan) (next : Accessing) (a : Answer) (g : Got) (t : Taken) → c ≡ old → access.Hears c.access next a (accessed.Came g)
    → access.Brings a (accessed.Came g) → (RowsTold c.table (rows_got g) → GoesWith (coming hints (check_on c g (use_of next.usage))) new t)
    → CheckTold old.table a → Hears (plan.Check old) new a t
check_came old c new next a g t is h brings goes told =
    subst (λ o. GoesWith (coming hints (check_hears o a)) new t) is
    (subst (λ talk. GoesWith (coming hints talk) new t) (sym (ap (onward (check_on c)) h ∙ says_on (check_on c) g (use_of next.usage)))
    (goes (rows_told c.table a g brings (subst (λ o. CheckTold o.table a) (sym is) told))))

pub check_keeps : (old c : Checking) (new : Plan) (next : Accessing) (t : Taken) → c ≡ old → keeps_nodes c.access.usage.used.0 next.usage.used.0 false ≡ true
    → Stays (plan.Check (record c { access = next })) new t → keeps_nodes old.access.usage.used.0 (usage_of new).used.0 (rolls t) ≡ true
check_keeps old c new next t is kept stays =
    subst (λ (o : Checking). keeps_nodes o.access.usage.used.0 (usage_of new).used.0 (rolls t) ≡ true) is
    (keeps_on c.access.usage.used.0 (plan.Check (record c { access = next })) new t kept stays)

-- the rows that came are those that are read
pub rows_came : (old new : Checking) (g : Got) (rows : List Stored) (t : Taken) → rows_got g ≡ rows
    → (RowsTold old.table rows → GoesWith (coming hints (from_rows old.name old.table rows (check_uses old))) (plan.Check new) t)
    → RowsTold old.table (rows_got g) → GoesWith (coming hints (check_on old g (check_uses old))) (plan.Check new) t
rows_came old new g rows t is goes =
    subst (λ rs. RowsTold old.table rs → GoesWith (coming hints (from_rows old.name old.table rs (check_uses old))) (plan.Check new) t) (sym is) goes

-- which rows were awaited
pub entries_came : (old new : Checking) (table : ℕ) (rows : List Stored) (t : Taken) → old.table ≡ Some table
    → (TellGroups rows → GoesWith (says (Ok (hints (hints_among table rows)), check_uses old)) (plan.Check new) t)
    → RowsTold old.table rows → GoesWith (coming hints (from_rows old.name old.table rows (check_uses old))) (plan.Check new) t
unfolding from_rows
entries_came old new table rows t is goes told =
    subst (λ o. GoesWith (coming hints (from_rows old.name o rows (check_uses old))) (plan.Check new) t) (sym is) (goes (subst (λ o. RowsTold o rows) is told))

pub tables_came : (old new : Checking) (rows : List Stored) (t : Taken) → old.table ≡ None
    → (TellTables rows → GoesWith (coming hints (from_number (option_map (λ f. f.0) (table_among rows old.name)) (check_uses old))) (plan.Check new) t)
    → RowsTold old.table rows → GoesWith (coming hints (from_rows old.name old.table rows (check_uses old))) (plan.Check new) t
unfolding from_rows
tables_came old new rows t is goes told =
    subst (λ o. GoesWith (coming hints (from_rows old.name o rows (check_uses old))) (plan.Check new) t) (sym is) (goes (subst (λ o. RowsTold o rows) is told))

-- the number that was found is the one that the rows tell
pub numbered : (old new : Checking) (n m : Option ℕ) (t : Taken) → n ≡ m → GoesWith (coming hints (from_number n (check_uses old))) (plan.Check new) t
    → GoesWith (coming hints (from_number m (check_uses old))) (plan.Check new) t
numbered old new n m t is goes = subst (λ k. GoesWith (coming hints (from_number k (check_uses old))) (plan.Check new) t) is goes

pub asks_entries : (old c : Checking) (n : Option ℕ) (table : ℕ) (a : Accessing) (u : Usage) (g : Goal) → c ≡ old → n ≡ Some table → u ≡ c.access.usage → a.usage ≡ u
    → access.is_asking a.stage ≡ true → access.now_talks a ≡ locked g (use_of u) → g ≡ entries_goal table
    → Goes (coming hints (from_number n (check_uses old))) (plan.Check old) (plan.Check (record c { access = a; table = Some table })) taken.More
asks_entries old c n table a u g is some its usage asking talk goal =
    let f : Got → Use → Talk (Ends (List Moving)) = λ x. from_rows c.name (Some table) (rows_got x) in
    let same : from_number n (check_uses c) ≡ onward f (access.now_talks a) =
    ap (λ k. from_number k (check_uses c)) some
    ∙ entries_asked c.name table (check_uses c)
    ∙ ap (λ v. onward f (locked (entries_goal table) (use_of v))) (sym its)
    ∙ ap (λ x. onward f (locked x (use_of u))) (sym goal)
    ∙ ap (onward f) (sym talk) in
    subst (λ o. Goes (coming hints (from_number n (check_uses o))) (plan.Check o) (plan.Check (record c { access = a; table = Some table })) taken.More) is
    (record {
      goes = (asking, ap (coming hints) same);
      stays = record {
        asking = asking;
        usage_tx = ap (λ v. v.tx.0) (usage ∙ its);
        usage_nodes = ap (λ v. v.used.0) (usage ∙ its);
        sited = tt;
      };
    })

pub no_table : (old : Checking) (n : Option ℕ) → n ≡ None → Goes (coming hints (from_number n (check_uses old))) (plan.Check old) (plan.Check old) (taken.Refused reply.NoTable)
unfolding from_number
no_table old n is = record {
  goes = λ _. ap (λ k. coming hints (from_number k (check_uses old))) is;
  stays = record { asking = tt; usage_tx = refl; usage_nodes = refl; sited = tt };
}

-- ---- a finish

pub finish_next : (old f : Finishing) (new : Accessing) (n : Next) → f ≡ old → access.NextIs f.access new n → NextIs (plan.Finish old) (plan.Finish (record f { access = new })) n
finish_next old f new n is h =
    subst (λ o. NextIs (plan.Finish o) (plan.Finish (record f { access = new })) n) is
    (asks_coming finished (finish_talks f) (finish_hears (record f { access = new })) (access.is_waiting new.stage) (use_of new.usage) n
    (asks_on (finish_on f) (access.now_talks f.access) (access.now_hears new) (access.is_waiting new.stage) (use_of new.usage) n (access_asks f.access new n h)))

pub finish_more : (old f : Finishing) (new : Accessing) (a : Answer) → f ≡ old → access.Hears f.access new a accessed.More
    → Hears (plan.Finish old) (plan.Finish (record f { access = new })) a taken.More
finish_more old f new a is h =
    (h.0, subst (λ o. coming finished (finish_hears o a) ≡ coming finished (finish_talks (record f { access = new }))) is (ap (λ t. coming finished (onward (finish_on f) t)) h.1))

pub finish_refused : (old f : Finishing) (new : Accessing) (a : Answer) (e : Reply) → f ≡ old → access.Hears f.access new a (accessed.Refused e)
    → Hears (plan.Finish old) (plan.Finish (record f { access = new })) a (taken.Refused e)
finish_refused old f new a e is h = λ _.
    subst (λ o. coming finished (finish_hears o a) ≡ says (Err e, use_of new.usage)) is
    (ap (λ t. coming finished (onward (finish_on f) t)) h ∙ ap (coming finished) (refused_on (finish_on f) e (use_of new.usage)))

got_told : (p : Part) (a : Answer) (g : Got) → access.Brings a (accessed.Came g) → FinishTold p a → FinishTells p g
got_told part.Entry a (got.Row row) is told = subst TellsAnswer is told
got_told part.Entry a (got.Rows rows) is told = tt
got_told part.Entry a got.Nothing is told = tt
got_told part.Group a g is told = tt
got_told part.Write a g is told = tt

pub finish_came : (old f : Finishing) (new : Plan) (next : Accessing) (a : Answer) (g : Got) (t : Taken) → f ≡ old → access.Hears f.access next a (accessed.Came g)
    → access.Brings a (accessed.Came g) → (FinishTells f.part g → GoesWith (coming finished (finish_on f g (use_of next.usage))) new t)
    → FinishTold old.part a → Hears (plan.Finish old) new a t
finish_came old f new next a g t is h brings goes told =
    subst (λ o. GoesWith (coming finished (finish_hears o a)) new t) is
    (subst (λ talk. GoesWith (coming finished talk) new t) (sym (ap (onward (finish_on f)) h ∙ says_on (finish_on f) g (use_of next.usage)))
    (goes (got_told f.part a g brings (subst (λ o. FinishTold o.part a) (sym is) told))))

pub finish_keeps : (old f : Finishing) (new : Plan) (next : Accessing) (t : Taken) → f ≡ old → keeps_nodes f.access.usage.used.0 next.usage.used.0 false ≡ true
    → Stays (plan.Finish (record f { access = next })) new t → keeps_nodes old.access.usage.used.0 (usage_of new).used.0 (rolls t) ≡ true
finish_keeps old f new next t is kept stays =
    subst (λ (o : Finishing). keeps_nodes o.access.usage.used.0 (usage_of new).used.0 (rolls t) ≡ true) is
    (keeps_on f.access.usage.used.0 (plan.Finish (record f { access = next })) new t kept stays)

has_row : List Stored → Bool
has_row [] = false
has_row (r ∷ rs) = true

-- whether no row came
pub empty_told : (rows : List Stored) (empty : Bool) → (IsTrue empty ↔ (rows ≡ [])) → empty ≡ is_empty (got.Rows rows)
unfolding has_row
empty_told [] true is = refl
empty_told [] false is = absurd (false≢true (is.1 refl))
empty_told (r ∷ rs) true is = absurd (true≢false (ap has_row (is.0 refl)))
empty_told (r ∷ rs) false is = refl

-- at a part
abbrev on : Finishing → Part → Got → Talk (Ends Finding)
on f p g = behind (hint_of f.hint) p g (finish_uses f)

pub at_part : (old f : Finishing) (new : Plan) (p : Part) (g : Got) (t : Taken) → f ≡ old → f.part ≡ p → (FinishTells p g → GoesWith (coming finished (on old p g)) new t)
    → FinishTells old.part g → GoesWith (coming finished (finish_on old g (finish_uses old))) new t
at_part old f new p g t is part goes told =
    let is_part : old.part ≡ p = ap (λ o. o.part) (sym is) ∙ part in
    subst (λ q. GoesWith (coming finished (on old q g)) new t) (sym is_part) (goes (subst (λ q. FinishTells q g) is_part told))

pub entry_came : (old : Finishing) (new : Plan) (g : Got) (t : Taken)
    → GoesWith (coming finished (if_still (hint_of old.hint) (is_hinted (hint_of old.hint) (entry_got g)) (finish_uses old))) new t → GoesWith (coming finished (on old part.Entry g)) new t
unfolding behind
entry_came old new g t goes = goes

pub group_came : (old : Finishing) (new : Plan) (g : Got) (empty : Bool) (t : Taken) → empty ≡ is_empty g
    → GoesWith (coming finished (if_empty (hint_of old.hint) empty (finish_uses old))) new t → GoesWith (coming finished (on old part.Group g)) new t
unfolding behind
group_came old new g empty t is goes = subst (λ e. GoesWith (coming finished (if_empty (hint_of old.hint) e (finish_uses old))) new t) is goes

pub write_came : (old : Finishing) (g : Got) → GoesWith (coming finished (on old part.Write g)) (plan.Finish old) (taken.Came (found.Finished ended.Set))
unfolding behind
write_came old g = refl

pub enters : (old f : Finishing) (new : Plan) (g : Got) (t : Taken) (hinted : Bool) → f ≡ old → hinted ≡ is_hinted (hint_of f.hint) (entry_got g)
    → GoesWith (coming finished (if_still (hint_of old.hint) hinted (finish_uses old))) new t
    → GoesWith (coming finished (if_still (hint_of old.hint) (is_hinted (hint_of old.hint) (entry_got g)) (finish_uses old))) new t
enters old f new g t hinted is same goes =
    subst (λ y. GoesWith (coming finished (if_still (hint_of old.hint) y (finish_uses old))) new t) (same ∙ ap (λ o. is_hinted (hint_of o.hint) (entry_got g)) is) goes

goes_more : (f new : Finishing) (talk : Talk (Ends Finding)) (u : Usage) → u ≡ f.access.usage → new.access.usage ≡ u → access.is_asking new.access.stage ≡ true
    → talk ≡ finish_talks new → Goes (coming finished talk) (plan.Finish f) (plan.Finish new) taken.More
goes_more f new talk u its usage asking is = record {
  goes = (asking, ap (coming finished) is);
  stays = record {
    asking = asking;
    usage_tx = ap (λ v. v.tx.0) (usage ∙ its);
    usage_nodes = ap (λ v. v.used.0) (usage ∙ its);
    sited = tt;
  };
}

pub scans : (old f : Finishing) (a : Accessing) (u : Usage) (g : Goal) → f ≡ old → u ≡ f.access.usage → a.usage ≡ u → access.is_asking a.stage ≡ true
    → access.now_talks a ≡ locked g (use_of u) → g ≡ group_goal (hint_of f.hint)
    → Goes (coming finished (from_group (hint_of old.hint) (finish_uses old))) (plan.Finish old) (plan.Finish (record f { access = a; part = part.Group })) taken.More
scans old f a u g is its usage asking talk goal =
    let h = hint_of f.hint in
    let same : from_group h (finish_uses f) ≡ onward (behind h part.Group) (access.now_talks a) =
    group_asked h (finish_uses f)
    ∙ ap (λ v. onward (behind h part.Group) (locked (group_goal h) (use_of v))) (sym its)
    ∙ ap (λ x. onward (behind h part.Group) (locked x (use_of u))) (sym goal)
    ∙ ap (onward (behind h part.Group)) (sym talk) in
    subst (λ o. Goes (coming finished (from_group (hint_of o.hint) (finish_uses o))) (plan.Finish o) (plan.Finish (record f { access = a; part = part.Group })) taken.More) is
    (goes_more f (record f { access = a; part = part.Group }) (from_group h (finish_uses f)) u its usage asking same)

pub writes : (old f : Finishing) (a : Accessing) (u : Usage) (c : Change) → f ≡ old → u ≡ f.access.usage → a.usage ≡ u → access.is_asking a.stage ≡ true
    → access.now_talks a ≡ written ds c (use_of u) → c ≡ entry_change (hint_of f.hint)
    → Goes (coming finished (if_empty (hint_of old.hint) true (finish_uses old))) (plan.Finish old) (plan.Finish (record f { access = a; part = part.Write })) taken.More
writes old f a u c is its usage asking talk change =
    let h = hint_of f.hint in
    let same : if_empty h true (finish_uses f) ≡ onward (behind h part.Write) (access.now_talks a) =
    entry_written h (finish_uses f)
    ∙ ap (λ v. onward (behind h part.Write) (written ds (entry_change h) (use_of v))) (sym its)
    ∙ ap (λ x. onward (behind h part.Write) (written ds x (use_of u))) (sym change)
    ∙ ap (onward (behind h part.Write)) (sym talk) in
    subst (λ o. Goes (coming finished (if_empty (hint_of o.hint) true (finish_uses o))) (plan.Finish o) (plan.Finish (record f { access = a; part = part.Write })) taken.More) is
    (goes_more f (record f { access = a; part = part.Write }) (if_empty h true (finish_uses f)) u its usage asking same)

-- ---- a batch

pub batch_next : (old new : Batching) (n : Next) → batch.NextIs old new n → NextIs (plan.Batch old) (plan.Batch new) n
batch_next old new n h = asks_coming moved (batch.now_talks old) (batch.now_hears new) (batch.is_waiting new) (batch.now_uses new) n h

pub batch_hears : (old new : Batching) (a : Answer) (t : BatchTaken) (u : Taken) → u ≡ taken_by t → batch.Hears old new a t → Hears (plan.Batch old) (plan.Batch new) a u
batch_hears old new a t u is h = subst (Hears (plan.Batch old) (plan.Batch new) a) (sym is) (at t h)
  where
    at : (t : BatchTaken) → batch.Hears old new a t → Hears (plan.Batch old) (plan.Batch new) a (taken_by t)
    at batched.More h = (h.0, ap (coming moved) h.1)
    at (batched.Came m) h = ap (coming moved) h
    at (batched.Refused r) h = λ other. ap (coming moved) (h other)

pub batch_asks : (new : Batching) (t : BatchTaken) (u : Taken) → u ≡ taken_by t → batch.AsksOn new t → AsksOn (plan.Batch new) u
batch_asks new t u is h = subst (AsksOn (plan.Batch new)) (sym is) (at t h)
  where
    at : (t : BatchTaken) → batch.AsksOn new t → AsksOn (plan.Batch new) (taken_by t)
    at batched.More h = h
    at (batched.Came m) h = tt
    at (batched.Refused r) h = tt

pub batch_rolls : (old new : Batching) (t : BatchTaken) (u : Taken) → u ≡ taken_by t → keeps_nodes old.access.usage.used.0 new.access.usage.used.0 (batch.rolls t) ≡ true
    → keeps_nodes old.access.usage.used.0 new.access.usage.used.0 (rolls u) ≡ true
batch_rolls old new t u is h = subst (λ v. keeps_nodes old.access.usage.used.0 new.access.usage.used.0 (rolls v) ≡ true) (sym is) (at t h)
  where
    at : (t : BatchTaken) → keeps_nodes old.access.usage.used.0 new.access.usage.used.0 (batch.rolls t) ≡ true
        → keeps_nodes old.access.usage.used.0 new.access.usage.used.0 (rolls (taken_by t)) ≡ true
    at batched.More h = h
    at (batched.Came m) h = h
    at (batched.Refused r) h = h

pub batch_sited : (t : BatchTaken) (u : Taken) → u ≡ taken_by t → AreSitedIn u
batch_sited t u is = subst AreSitedIn (sym is) (at t)
  where
    at : (t : BatchTaken) → AreSitedIn (taken_by t)
    at batched.More = tt
    at (batched.Came m) = tt
    at (batched.Refused r) = tt
