-- The records of a server's log are those of its requests.
use Rattle.std.proofs.Common.{◌≡◌, ◌⊎◌, ℕ, Bool, true, false, List, [], ◌∷◌, ◌++◌, refl, sym, ap, ◌∙◌, subst, inl, inr, append_assoc, append-nil, ◌≢◌}
use Rattle.std.specs.Prelude.{⊤}
use Rattle.hb_types.specs.declared.answer.Answer.{Answer}
use Rattle.hb_types.specs.declared.answer.Answer.TheVariants as answer
use Rattle.hb_types.specs.declared.change.Change.{Change}
use Rattle.hb_types.specs.declared.change.LogItem.{LogItem}
use Rattle.hb_types.specs.declared.change.LogItem.TheVariants as item
use Rattle.hb_types.specs.declared.lock.Held.{Held}
use Rattle.hb_types.specs.declared.names.Number.{Number}
use Rattle.hb_types.specs.declared.names.Tx.{Tx}
use Rattle.hb_types.specs.declared.request.Request.{Request}
use Rattle.hb_types.specs.declared.request.Request.TheVariants as request
use Rattle.hb_types.specs.Ladders.{ladder}
use Rattle.hb_types.specs.Lists.{Each, Has, IsIn}
use Rattle.hb_types.specs.Put.{normal}
use Rattle.hb_types.proofs.Ascending.{Each-of, Each-append, Has-front, Has-back, Each-in}
use Rattle.hb_disks.specs.Redo.{Prepared, redo, Redone, redo_from, after, without_tx}
use Rattle.hb_disks.specs.Says.{prepares}
use Rattle.hb_disks.proofs.Fold.{prepares-append, redo_from-append}
use Rattle.hb_runs.specs.Server.{SState, now}
use Rattle.hb_runs.specs.ServerAnswers.{Right, RightIn}
use Rattle.hb_runs.specs.ServerCauses.{Causes, LockCauses, grants}
use Rattle.hb_runs.specs.ServerEffects.{Effect, enlisted, granted, written, prepared, committed, aborted, dropped, lost, came_up, happens, Steps, vote_of}
use Rattle.hb_runs.specs.ServerRuns.{Asked, Run, Turns, stopped_at}
use Rattle.hb_serverlaws.proofs.Lifting.{once_front, run_parts, seen_after}
use Rattle.hb_serverlaws.proofs.LogKept.{Voter, voter}
use Rattle.hb_serverlaws.proofs.Running.{Grows, ran_stands, run_grows, same_base}
use Rattle.hb_serverlaws.proofs.Standing.{Stands}
use Rattle.hb_serverlaws.specs.Logging.{CommitsStand, IsRecordOf, RecordsWereAsked, VotesStand, voted_as}
use Rattle.hb_serverlaws.specs.Trails.{voted_in, writes_of}
use Rattle.hb_serverlaws.specs.Locking.{DoubtsStay, MayEnd}
use Rattle.hb_loglaws.proofs.Saying.{same_or_not, stays}

-- ---- effects without a record

abbrev IsQuiet : Effect → Type 0
IsQuiet (prepared tx) = ⊥
IsQuiet (committed tx n) = ⊥
IsQuiet (aborted tx) = ⊥
IsQuiet _ = ⊤

quiet_log : (s : SState) (e : Effect) → IsQuiet e → (happens s e).log ≡ s.log
quiet_log s (prepared tx) q = absurd q
quiet_log s (committed tx n) q = absurd q
quiet_log s (aborted tx) q = absurd q
quiet_log s (enlisted tx) q = refl
quiet_log s (granted tx p m) q = refl
quiet_log s (written tx c) q = refl
quiet_log s (dropped tx) q = refl
quiet_log s lost q = refl
quiet_log s came_up q = refl

quiet_steps : (s : SState) (es : List Effect) (t : SState) → Each IsQuiet es → Steps s es t → t.log ≡ s.log
quiet_steps s [] t q st = ap (λ z. z.log) (sym st)
quiet_steps s (e ∷ es) t q st = quiet_steps (happens s e) es t q.1 st.1 ∙ quiet_log s e q.0

-- what a request adds to the log
record Adds (s : SState) (a : Asked) (t : SState) : Type 0 where
  items : List LogItem
  is : t.log ≡ s.log ++ items
  each : Each (λ i. IsRecordOf i a) items

quiet : (s : SState) (a : Asked) (es : List Effect) (t : SState) → Each IsQuiet es → Steps s es t → Adds s a t
quiet s a es t q st = record { items = []; is = quiet_steps s es t q st ∙ sym (append-nil s.log); each = tt }

-- no effect, or one without a record
quiet_none : (s : SState) (a : Asked) (es : List Effect) (t : SState) → es ≡ [] → Steps s es t → Adds s a t
quiet_none s a es t is st = quiet s a es t (subst (Each IsQuiet) (sym is) tt) st

quiet_one : (s : SState) (a : Asked) (e : Effect) (es : List Effect) (t : SState) → IsQuiet e → es ≡ e ∷ [] → Steps s es t → Adds s a t
quiet_one s a e es t q is st = quiet s a es t (subst (Each IsQuiet) (sym is) (q, tt)) st

grants_quiet : (tx : ℕ) (rungs : List Held) → Each IsQuiet (grants tx rungs)
grants_quiet tx [] = tt
grants_quiet tx (l ∷ ls) = (tt, grants_quiet tx ls)

lock_quiet : (s : SState) (tx : ℕ) (rungs : List Held) (a : Answer) (es : List Effect) → LockCauses s tx rungs a es → Each IsQuiet es
lock_quiet s tx rungs answer.Done es is = subst (Each IsQuiet) (sym is) (grants_quiet tx rungs)
lock_quiet s tx rungs (answer.Blocked p m holders) es is = subst (Each IsQuiet) (sym is.effects) (grants_quiet tx is.front)
lock_quiet s tx rungs answer.NoMemory es is = subst (Each IsQuiet) (sym is.3) (grants_quiet tx is.0)
lock_quiet s tx rungs _ es is = subst (Each IsQuiet) (sym is) tt

-- ---- effects with one

-- an effect with this record, and then perhaps the loss of all branches
lost_or_not : (s : SState) (a : Asked) (e : Effect) (i : LogItem) (t : SState) → (happens s e).log ≡ s.log ++ i ∷ [] → IsRecordOf i a
    → (back : List Effect) → Each IsQuiet back → Steps (happens s e) back t → Adds s a t
lost_or_not s a e i t is of back q st = record { items = i ∷ []; is = quiet_steps (happens s e) back t q st ∙ is; each = (of, tt) }

fault_is : (up : Bool) (s : SState) (tx : Tx) (area : Bool) → RightIn up s (request.Prepare tx) (answer.Fault area) → area ≡ false
fault_is true s tx area r = r.0
fault_is false s tx area r = absurd r

commit_fault : (up : Bool) (s : SState) (tx : Tx) (n : Number) (area : Bool) → RightIn up s (request.Commit tx n) (answer.Fault area) → area ≡ false
commit_fault true s tx n area r = r.0
commit_fault false s tx n area r = absurd r

rollback_fault : (up : Bool) (s : SState) (tx : Tx) (area : Bool) → RightIn up s (request.Rollback tx) (answer.Fault area) → area ≡ false
rollback_fault true s tx area r = r.0
rollback_fault false s tx area r = absurd r

vote_floor : (up : Bool) (s : SState) (tx : Tx) (floor : Number) → RightIn up s (request.Prepare tx) (answer.Vote floor) → floor.0 ≡ (now s).floor
vote_floor true s tx floor r = r
vote_floor false s tx floor r = absurd r

abbrev asked : Request → Answer → Asked
asked q a = record { request = q; answer = a }

-- a vote's record
prepare_adds : (s : SState) (tx : Tx) (a : Answer) (t : SState) (back : List Effect) → Each IsQuiet back
    → ((floor : Number) → floor.0 ≡ (now s).floor → (a ≡ answer.Vote floor) ⊎ (a ≡ answer.Fault false)) → Steps s (prepared tx.0 ∷ back) t
    → Adds s (asked (request.Prepare tx) a) t
prepare_adds s tx a t back q of st =
    let v : Voter s tx.0 s.live = voter s tx.0 st.0.0 s.live st.0.1.0 st.0.1.1 in
    lost_or_not s (asked (request.Prepare tx) a) (prepared tx.0) (vote_of s v.branch) t (ap (λ is. s.log ++ is) v.logs)
    (sym (ap (λ t. request.Prepare (record { 0 = t })) v.of_tx), of (record { 0 = (now s).floor }) refl) back q st.1

prepare_turn : (s : SState) (tx : Tx) (a : Answer) (es : List Effect) (t : SState) → Causes s (request.Prepare tx) a es
    → Right s (request.Prepare tx) a → Steps s es t → Adds s (asked (request.Prepare tx) a) t
prepare_turn s tx (answer.Vote floor) es t is r st =
    prepare_adds s tx (answer.Vote floor) t [] tt (λ f e. inl (same f (sym (e ∙ sym (vote_floor s.up s tx floor r))))) (subst (λ l. Steps s l t) is st)
  where
    same : (f : Number) → floor.0 ≡ f.0 → answer.Vote floor ≡ answer.Vote f
    same f e = λ i. answer.Vote (record { 0 = e i })
prepare_turn s tx (answer.Fault area) es t (inl is) r st = quiet_one s (asked (request.Prepare tx) (answer.Fault area)) lost es t tt is st
prepare_turn s tx (answer.Fault area) es t (inr is) r st =
    prepare_adds s tx (answer.Fault area) t (lost ∷ []) (tt, tt) (λ f e. inr (ap answer.Fault (fault_is s.up s tx area r))) (subst (λ l. Steps s l t) is st)
prepare_turn s tx a es t is r st = quiet_none s (asked (request.Prepare tx) a) es t is st

commit_turn : (s : SState) (tx : Tx) (n : Number) (a : Answer) (es : List Effect) (t : SState) → Causes s (request.Commit tx n) a es
    → Right s (request.Commit tx n) a → Steps s es t → Adds s (asked (request.Commit tx n) a) t
commit_turn s tx n answer.Done es t is r st =
    lost_or_not s (asked (request.Commit tx n) answer.Done) (committed tx.0 n.0) (item.Commit tx n) t refl (refl, inl refl) [] tt (subst (λ l. Steps s l t) is st).1
commit_turn s tx n (answer.Fault area) es t (inl is) r st = quiet_one s (asked (request.Commit tx n) (answer.Fault area)) lost es t tt is st
commit_turn s tx n (answer.Fault area) es t (inr is) r st =
    lost_or_not s (asked (request.Commit tx n) (answer.Fault area)) (committed tx.0 n.0) (item.Commit tx n) t refl (refl, inr (ap answer.Fault (commit_fault s.up s tx n area r))) (lost ∷ []) (tt, tt)
    (subst (λ l. Steps s l t) is st).1
commit_turn s tx n a es t is r st = quiet_none s (asked (request.Commit tx n) a) es t is st

rollback_turn : (s : SState) (tx : Tx) (a : Answer) (es : List Effect) (t : SState) → Causes s (request.Rollback tx) a es
    → Right s (request.Rollback tx) a → Steps s es t → Adds s (asked (request.Rollback tx) a) t
rollback_turn s tx answer.Done es t (inl is) r st = quiet_one s (asked (request.Rollback tx) answer.Done) (dropped tx.0) es t tt is st
rollback_turn s tx answer.Done es t (inr is) r st =
    lost_or_not s (asked (request.Rollback tx) answer.Done) (aborted tx.0) (item.Abort tx) t refl (refl, inl refl) [] tt (subst (λ l. Steps s l t) is st).1
rollback_turn s tx (answer.Fault area) es t (inl is) r st = quiet_one s (asked (request.Rollback tx) (answer.Fault area)) lost es t tt is st
rollback_turn s tx (answer.Fault area) es t (inr is) r st =
    lost_or_not s (asked (request.Rollback tx) (answer.Fault area)) (aborted tx.0) (item.Abort tx) t refl (refl, inr (ap answer.Fault (rollback_fault s.up s tx area r))) (lost ∷ []) (tt, tt)
    (subst (λ l. Steps s l t) is st).1
rollback_turn s tx a es t is r st = quiet_none s (asked (request.Rollback tx) a) es t is st

-- ---- the other requests

enlist_turn : (s : SState) (tx : Tx) (a : Answer) (es : List Effect) (t : SState) → Causes s (request.Enlist tx) a es → Steps s es t
    → Adds s (asked (request.Enlist tx) a) t
enlist_turn s tx answer.Done es t (inl h) st = quiet_one s (asked (request.Enlist tx) answer.Done) (enlisted tx.0) es t tt h.1 st
enlist_turn s tx answer.Done es t (inr h) st = quiet_none s (asked (request.Enlist tx) answer.Done) es t h.1 st
enlist_turn s tx a es t is st = quiet_none s (asked (request.Enlist tx) a) es t is st

sync_turn : (s : SState) (q : Request) (a : Answer) (es : List Effect) (t : SState) → (es ≡ []) ⊎ (es ≡ lost ∷ []) → Steps s es t → Adds s (asked q a) t
sync_turn s q a es t (inl is) st = quiet_none s (asked q a) es t is st
sync_turn s q a es t (inr is) st = quiet_one s (asked q a) lost es t tt is st

start_turn : (s : SState) (a : Answer) (es : List Effect) (t : SState) → Causes s request.Start a es → Steps s es t → Adds s (asked request.Start a) t
start_turn s (answer.Started found) es t is st = quiet_one s (asked request.Start (answer.Started found)) came_up es t tt is st
start_turn s answer.NoMemory es t (inl is) st = quiet_none s (asked request.Start answer.NoMemory) es t is st
start_turn s answer.NoMemory es t (inr is) st = quiet_one s (asked request.Start answer.NoMemory) came_up es t tt is st
start_turn s a es t is st = quiet_none s (asked request.Start a) es t is st

begin_loses : (s : SState) (a : Answer) (es : List Effect) → Causes s request.SyncBegin a es → (es ≡ []) ⊎ (es ≡ lost ∷ [])
begin_loses s (answer.Fault area) es is = inr is
begin_loses s _ es is = inl is

flush_loses : (s : SState) (a : Answer) (es : List Effect) → Causes s request.SyncFlush a es → (es ≡ []) ⊎ (es ≡ lost ∷ [])
flush_loses s (answer.Fault area) es is = inr is
flush_loses s _ es is = inl is

finish_loses : (s : SState) (a : Answer) (es : List Effect) → Causes s request.SyncFinish a es → (es ≡ []) ⊎ (es ≡ lost ∷ [])
finish_loses s (answer.Fault area) es is = inr is
finish_loses s _ es is = inl is

stop_loses : (s : SState) (a : Answer) (es : List Effect) → Causes s request.Stop a es → (es ≡ []) ⊎ (es ≡ lost ∷ [])
stop_loses s answer.Done es is = inr is
stop_loses s _ es is = inl is

write_turn : (s : SState) (q : Request) (a : Answer) (es : List Effect) (t : SState) (e : Effect) → IsQuiet e → (es ≡ []) ⊎ (es ≡ e ∷ [])
    → Steps s es t → Adds s (asked q a) t
write_turn s q a es t e quiet_e (inl is) st = quiet_none s (asked q a) es t is st
write_turn s q a es t e quiet_e (inr is) st = quiet_one s (asked q a) e es t quiet_e is st

write_may : (s : SState) (tx : Tx) (c : Change) (a : Answer) (es : List Effect) → Causes s (request.Write tx c) a es → (es ≡ []) ⊎ (es ≡ written tx.0 c ∷ [])
write_may s tx c answer.Done es is = inr is
write_may s tx c _ es is = inl is

adds : (s : SState) (q : Request) (a : Answer) (es : List Effect) (t : SState) → Causes s q a es → Right s q a → Steps s es t → Adds s (asked q a) t
adds s (request.Prepare tx) a es t c r st = prepare_turn s tx a es t c r st
adds s (request.Commit tx n) a es t c r st = commit_turn s tx n a es t c r st
adds s (request.Rollback tx) a es t c r st = rollback_turn s tx a es t c r st
adds s (request.Enlist tx) a es t c r st = enlist_turn s tx a es t c st
adds s (request.Lock tx p m) a es t c r st = quiet s (asked (request.Lock tx p m) a) es t (lock_quiet s tx.0 (ladder p m) a es c) st
adds s (request.Write tx ch) a es t c r st = write_turn s (request.Write tx ch) a es t (written tx.0 ch) tt (write_may s tx ch a es c) st
adds s request.SyncBegin a es t c r st = sync_turn s request.SyncBegin a es t (begin_loses s a es c) st
adds s request.SyncFlush a es t c r st = sync_turn s request.SyncFlush a es t (flush_loses s a es c) st
adds s request.SyncFinish a es t c r st = sync_turn s request.SyncFinish a es t (finish_loses s a es c) st
adds s request.Stop a es t c r st = sync_turn s request.Stop a es t (stop_loses s a es c) st
adds s request.Start a es t c r st = start_turn s a es t c st
adds s q a es t c r st = quiet_none s (asked q a) es t c st

-- ---- along a run

records : (s : SState) (trail : List Asked) (t : SState) → Run s trail t
    → (items : List LogItem) × (t.log ≡ s.log ++ items) × Each (λ i. Has (IsRecordOf i) trail) items
records s [] t run = ([], ap (λ z. z.log) (sym run) ∙ sym (append-nil s.log), tt)
records s (a ∷ more) t run =
    let one : Adds s a run.0 = adds s a.request a.answer run.1.effects run.0 run.1.causes run.1.right run.1.steps in
    let rest = records run.0 more t run.2 in (
      one.items ++ rest.0,
      rest.1 ∙ ap (λ z. z ++ rest.0) one.is ∙ append_assoc s.log one.items rest.0,
      Each-append (λ i. Has (IsRecordOf i) (a ∷ more)) one.items rest.0 (Each-of (λ i. IsRecordOf i a) (λ i. Has (IsRecordOf i) (a ∷ more)) one.items (λ i h. inl h) one.each)
          (Each-of (λ i. Has (IsRecordOf i) more) (λ i. Has (IsRecordOf i) (a ∷ more)) rest.0 (λ i h. inr h) rest.2),
    )

pub records_were_asked : RecordsWereAsked
records_were_asked base place trail s run =
    let r = records (stopped_at base place) trail s run in subst (Each (λ i. Has (IsRecordOf i) trail)) (sym r.1) r.2

-- ---- what was answered stands

pub commits_stand : CommitsStand
commits_stand s t tx n more run =
    let steps : Steps s (committed tx n ∷ []) run.0 = subst (λ l. Steps s l run.0) run.1.causes run.1.steps in
    let g = run_grows run.0 more t run.2 in
    let log : run.0.log ≡ s.log ++ item.Commit (record { 0 = tx }) (record { 0 = n }) ∷ [] = ap (λ z. z.log) (sym steps.1) in
    subst (Has (λ i. i ≡ item.Commit (record { 0 = tx }) (record { 0 = n }))) (sym g.is)
    (Has-front (λ i. i ≡ item.Commit (record { 0 = tx }) (record { 0 = n })) run.0.log g.more
    (subst (Has (λ i. i ≡ item.Commit (record { 0 = tx }) (record { 0 = n }))) (sym log) (Has-back (λ i. i ≡ item.Commit (record { 0 = tx }) (record { 0 = n })) s.log _ (inl refl))))

-- a vote with its floor and what its transaction wrote
abbrev IsVote : ℕ → ℕ → List Change → Prepared → Type 0
IsVote tx floor own p = (p.tx ≡ tx) × (p.floor ≡ floor) × (p.changes ≡ normal own)

vote_logged : (log : List LogItem) (u : SState) (tx floor : ℕ) (own : ℕ → List Change) (seen : List ℕ) (t : SState) → Stands log seen own u
    → Turns u (voted_as tx floor) t
    → Has (IsVote tx floor (own tx)) (prepares (log ++ t.log))
vote_logged log u tx floor own seen t k turn =
    subst (λ l. Has (IsVote tx floor (own tx)) (prepares (log ++ l))) (sym is)
    (subst (Has (IsVote tx floor (own tx))) (sym (prepares-append log (u.log ++ vote_of u v.branch ∷ []))) (Has-back (IsVote tx floor (own tx)) (prepares log) _
    (subst (Has (IsVote tx floor (own tx))) (sym (prepares-append u.log (vote_of u v.branch ∷ [])))
    (Has-back (IsVote tx floor (own tx)) (prepares u.log) _ (inl (v.of_tx, sym (vote_floor u.up u (record { 0 = tx }) (record { 0 = floor }) turn.right), ap normal (k.own_writes v.branch v.within ∙ ap own v.of_tx)))))))
  where
    steps : Steps u (prepared tx ∷ []) t
    steps = subst (λ l. Steps u l t) turn.causes turn.steps

    v : Voter u tx u.live
    v = voter u tx steps.0.0 u.live steps.0.1.0 steps.0.1.1

    is : t.log ≡ u.log ++ vote_of u v.branch ∷ []
    is = ap (λ z. z.log) (sym steps.1) ∙ ap (λ is. u.log ++ is) v.logs

pub votes_stand : VotesStand
votes_stand log place front back s tx floor ran =
    subst (λ l. Has (IsVote tx floor (writes_of tx front)) (prepares l)) (sym longer)
    (subst (Has (IsVote tx floor (writes_of tx front))) (sym (prepares-append (log ++ parts.2.0.log) g.more)) (Has-front (IsVote tx floor (writes_of tx front)) (prepares (log ++ parts.2.0.log)) (prepares g.more) there))
  where
    parts : (u : SState) × Run (stopped_at (redo log) place) front u × Run u (voted_as tx floor ∷ back) s
    parts = run_parts (stopped_at (redo log) place) front (voted_as tx floor ∷ back) s ran.run

    stood : Stands log (seen_after (voted_in log) front) (λ t. writes_of t front) parts.0
    stood =
        ran_stands log place front parts.0
        (record { is_right = ran.is_right; run = parts.1; once = once_front (voted_in log) front (voted_as tx floor ∷ back) ran.once })

    there : Has (IsVote tx floor (writes_of tx front)) (prepares (log ++ parts.2.0.log))
    there = vote_logged log parts.0 tx floor (λ t. writes_of t front) (seen_after (voted_in log) front) parts.2.0 stood parts.2.1

    g : Grows parts.2.0 s
    g = run_grows parts.2.0 back s parts.2.2

    longer : log ++ s.log ≡ (log ++ parts.2.0.log) ++ g.more
    longer = ap (λ z. log ++ z) g.is ∙ sym (append_assoc log parts.2.0.log g.more)

-- ---- branches in doubt stay

kept_item : (r : Redone) (i : LogItem) (a : Asked) (p : Prepared) → IsRecordOf i a → IsIn p r.doubts → IsIn p (after r i).doubts ⊎ MayEnd p.tx a
kept_item r (item.Prepare tx floor locks changes) a p of h = inl (Has-front (λ q. q ≡ p) r.doubts _ h)
kept_item r (item.Commit tx n) a p of h = by_tx (same_or_not p.tx tx.0)
  where
    by_tx : (p.tx ≡ tx.0) ⊎ (p.tx ≢ tx.0) → IsIn p (without_tx tx.0 r.doubts) ⊎ MayEnd p.tx a
    by_tx (inl e) = inr (inl (n, of.0 ∙ ap (λ t. request.Commit (record { 0 = t }) n) (sym e)))
    by_tx (inr apart) = inl (stays tx.0 p r.doubts h apart)
kept_item r (item.Abort tx) a p of h = by_tx (same_or_not p.tx tx.0)
  where
    by_tx : (p.tx ≡ tx.0) ⊎ (p.tx ≢ tx.0) → IsIn p (without_tx tx.0 r.doubts) ⊎ MayEnd p.tx a
    by_tx (inl e) = inr (inr (of.0 ∙ ap (λ t. request.Rollback (record { 0 = t })) (sym e)))
    by_tx (inr apart) = inl (stays tx.0 p r.doubts h apart)
kept_item r (item.Decision tx n nodes) a p of h = absurd of
kept_item r (item.Ids upto) a p of h = absurd of

kept_items : (r : Redone) (is : List LogItem) (a : Asked) (p : Prepared) → Each (λ i. IsRecordOf i a) is → IsIn p r.doubts
    → IsIn p (redo_from r is).doubts ⊎ MayEnd p.tx a
kept_items r [] a p of h = inl h
kept_items r (i ∷ is) a p of h = by_first (kept_items (after r i) is a p of.1) (kept_item r i a p of.0 h)
  where
    by_first : (IsIn p (after r i).doubts → IsIn p (redo_from (after r i) is).doubts ⊎ MayEnd p.tx a) → IsIn p (after r i).doubts ⊎ MayEnd p.tx a
        → IsIn p (redo_from (after r i) is).doubts ⊎ MayEnd p.tx a
    by_first f (inl k) = f k
    by_first f (inr e) = inr e

turn_keeps : (s : SState) (a : Asked) (t : SState) → Turns s a t → (p : Prepared) → IsIn p (now s).doubts → IsIn p (now t).doubts ⊎ MayEnd p.tx a
turn_keeps s a t turn p h = subst (λ r. IsIn p r.doubts ⊎ MayEnd p.tx a) (sym later) (kept_items (now s) one.items a p one.each h)
  where
    one : Adds s a t
    one = adds s a.request a.answer turn.effects t turn.causes turn.right turn.steps

    later : now t ≡ redo_from (now s) one.items
    later = ap (λ b. redo_from b t.log) (same_base s turn.effects t turn.steps) ∙ ap (λ l. redo_from s.base l) one.is ∙ redo_from-append s.base s.log one.items

doubt_stays : (s : SState) (trail : List Asked) (t : SState) → Run s trail t → (p : Prepared) → IsIn p (now s).doubts
    → IsIn p (now t).doubts ⊎ Has (MayEnd p.tx) trail
doubt_stays s [] t run p h = inl (subst (λ z. IsIn p (now z).doubts) run h)
doubt_stays s (a ∷ more) t run p h = by_turn (doubt_stays run.0 more t run.2 p) (turn_keeps s a run.0 run.1 p h)
  where
    by_rest : IsIn p (now t).doubts ⊎ Has (MayEnd p.tx) more → IsIn p (now t).doubts ⊎ Has (MayEnd p.tx) (a ∷ more)
    by_rest (inl k) = inl k
    by_rest (inr e) = inr (inr e)

    by_turn : (IsIn p (now run.0).doubts → IsIn p (now t).doubts ⊎ Has (MayEnd p.tx) more) → IsIn p (now run.0).doubts ⊎ MayEnd p.tx a
        → IsIn p (now t).doubts ⊎ Has (MayEnd p.tx) (a ∷ more)
    by_turn f (inl k) = by_rest (f k)
    by_turn f (inr e) = inr (inl e)

pub doubts_stay : DoubtsStay
doubts_stay s t trail run = Each-in (λ p. IsIn p (now t).doubts ⊎ Has (MayEnd p.tx) trail) (now s).doubts (λ p i. doubt_stays s trail t run p i)
