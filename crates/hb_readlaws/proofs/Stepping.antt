-- Each effect, and so each run, leads a read from one of its phases to another.
use Rattle.std.proofs.Common.{◌≡◌, ◌≢◌, ◌⊎◌, ℕ, List, [], ◌∷◌, ◌++◌, refl, sym, ap, ◌∙◌, subst, inl, inr, append_assoc}
use Rattle.hb_types.specs.declared.change.Change.{Change}
use Rattle.hb_types.specs.declared.change.LogItem.{LogItem}
use Rattle.hb_types.specs.declared.lock.Mode.TheVariants as mode
use Rattle.hb_types.specs.declared.places.Place.{Place}
use Rattle.hb_types.specs.Lists.{Each, Has, IsIn}
use Rattle.hb_types.proofs.Ascending.{in_Each, Has-front, Has-back}
use Rattle.hb_disks.specs.Redo.{Prepared}
use Rattle.hb_disks.specs.Says.{prepares, aborts}
use Rattle.hb_disks.proofs.Fold.{prepares-append, aborts-append}
use Rattle.hb_runs.specs.Server.{Branch, SState}
use Rattle.hb_runs.specs.ServerEffects.{Effect, enlisted, granted, written, prepared, committed, aborted, dropped, lost, came_up, Allowed, happens, Steps, vote_of, votes_of, grant, write, changing, without_live}
use Rattle.hb_runs.specs.ServerRuns.{Asked, Run}
use Rattle.hb_types.specs.declared.answer.Answer.{Answer}
use Rattle.hb_types.specs.declared.answer.Answer.TheVariants as answer
use Rattle.hb_types.specs.declared.names.Tx.{Tx}
use Rattle.hb_types.specs.declared.request.Request.{Request}
use Rattle.hb_types.specs.declared.request.Request.TheVariants as request
use Rattle.hb_loglaws.proofs.Lookups.{Number}
use Rattle.hb_loglaws.proofs.Members.{in_append}
use Rattle.hb_loglaws.proofs.Saying.{same_or_not}
use Rattle.hb_loglaws.proofs.Writers.{IsWritten}
use Rattle.hb_readlaws.proofs.Phases.{Commits, Doubts, Lives, Never, Phase, abort_of, commit_of, commits_own, done, done_abort, done_commit, done_vote, doubt_abort, doubt_commit, doubt_vote, doubting, gone, is_last, its_seen, live_abort, live_changed, live_commit, lives, never, no_votes, others_vote, vote_in, votes}
use Rattle.hb_serverlaws.proofs.Granting.{covers_grows}
use Rattle.hb_serverlaws.proofs.Lifting.{IsLike, IsOther, like, seen_after}
use Rattle.hb_serverlaws.proofs.Locks.{From, IsLocked, Stays, in_changing, in_without_live, last_is}
use Rattle.hb_serverlaws.proofs.LogKept.{IsKept, IsNew, Voter, noting, voter}
use Rattle.hb_serverlaws.proofs.Readers.{in_without_old}
use Rattle.hb_serverlaws.proofs.Standing.{Stands, and_wrote, other_step, turn_stands, written_of}
use Rattle.hb_serverlaws.specs.Trails.{EnlistsOnce, IsFirst, noting as noting_request}

-- ---- a record more

logs_more : (log l : List LogItem) (i : LogItem) (seen : List ℕ) (live : List Branch) (a : ℕ) (x : Place) (before : List Number)
    → Phase seen live ((log ++ l) ++ i ∷ []) a x before
    → Phase seen live (log ++ (l ++ i ∷ [])) a x before
logs_more log l i seen live a x before p = subst (λ m. Phase seen live m a x before) (append_assoc log l (i ∷ [])) p

logs_vote : (log : List LogItem) (s : SState) (t : ℕ) (v : Voter s t s.live) (seen : List ℕ) (live : List Branch) (a : ℕ) (x : Place) (before : List Number)
    → Phase seen live ((log ++ s.log) ++ vote_of s v.branch ∷ []) a x before → Phase seen live (log ++ (s.log ++ votes_of s t s.live)) a x before
logs_vote log s t v seen live a x before p =
    subst (λ is. Phase seen live (log ++ (s.log ++ is)) a x before) (sym v.logs) (logs_more log s.log (vote_of s v.branch) seen live a x before p)

aborts_more : (l m : List LogItem) (a : ℕ) → Has (λ t. t ≡ a) (aborts l) → Has (λ t. t ≡ a) (aborts (l ++ m))
aborts_more l m a h = subst (Has (λ t. t ≡ a)) (sym (aborts-append l m)) (Has-front (λ t. t ≡ a) (aborts l) (aborts m) h)

module _ (log : List LogItem) (seen : List ℕ) (s : SState) (a : ℕ) (x : Place) (before : List Number) (k : IsLocked s) (h : IsKept log seen s)
    (w : IsWritten (log ++ s.log)) where
  -- ---- the reader lives

  live_prepared : (v : Lives s.live (log ++ s.log) a x before) (t : ℕ) → Allowed s (prepared t)
      → Phase seen (without_live t s.live) (log ++ (s.log ++ votes_of s t s.live)) a x before
  live_prepared v t al = logs_vote log s t r seen (without_live t s.live) a x before (by_tx (same_or_not t a))
    where
      r : Voter s t s.live
      r = voter s t al.0 s.live al.1.0 al.1.1

      by_tx : (t ≡ a) ⊎ (t ≢ a) → Phase seen (without_live t s.live) ((log ++ s.log) ++ vote_of s r.branch ∷ []) a x before
      by_tx (inl e) =
          let same : v.branch ≡ r.branch = k.unique v.branch r.branch v.within r.within (v.of_tx ∙ sym e ∙ sym r.of_tx) in
          doubting (subst (λ b. Doubts ((log ++ s.log) ++ vote_of s b ∷ []) a x before) same (votes log seen s a x before k h w v))
      by_tx (inr n) = lives (others_vote log seen s a x before k h w v t r.branch r.within n)

  dropping : (v : Lives s.live (log ++ s.log) a x before) (live : List Branch) → ((b : Branch) → IsIn b live → b.tx ≢ a) → Never seen live (log ++ s.log) a
  dropping v live dead = record { is_seen = its_seen log seen s a x before k h w v; dead = dead; none = no_votes log seen s a x before k h w v }

  live_dropped : (v : Lives s.live (log ++ s.log) a x before) (t : ℕ) → (t ≡ a) ⊎ (t ≢ a) → Phase seen (without_live t s.live) (log ++ s.log) a x before
  live_dropped v t (inl e) = never (dropping v (without_live t s.live) (λ b i q. (in_without_live t b s.live i).1 (q ∙ sym e)))
  live_dropped v t (inr n) =
      lives (record { branch = v.branch; within = in_without_old t v.branch s.live v.within (λ e. n (sym e ∙ v.of_tx)); of_tx = v.of_tx; covers = v.covers; same = v.same })

  live_step : (v : Lives s.live (log ++ s.log) a x before) (e : Effect) → Allowed s e
      → Phase (noting seen e) (happens s e).live (log ++ (happens s e).log) a x before
  live_step v (enlisted t) al =
      lives (record { branch = v.branch; within = Has-front (λ c. c ≡ v.branch) s.live _ v.within; of_tx = v.of_tx; covers = v.covers; same = v.same })
  live_step v (granted t p m) al = lives (live_changed log seen s a x before k h w v t (grant p m) (λ b. refl) (λ b c. covers_grows p m b.locks mode.S x c))
  live_step v (written t c) al = lives (live_changed log seen s a x before k h w v t (write c) (λ b. refl) (λ b q. q))
  live_step v (prepared t) al = live_prepared v t al
  live_step v (committed t n) al = logs_more log s.log (commit_of t n) seen s.live a x before (lives (live_commit log seen s a x before k h w v t n al))
  live_step v (aborted t) al = logs_more log s.log (abort_of t) seen s.live a x before (lives (live_abort log seen s a x before k h w v t))
  live_step v (dropped t) al = live_dropped v t (same_or_not t a)
  live_step v lost al = never (dropping v [] (λ b i. absurd i))
  live_step v came_up al = lives v

  -- ---- the reader is in doubt

  doubt_committed : (v : Doubts (log ++ s.log) a x before) (t n : ℕ) → Allowed s (committed t n) → (t ≡ a) ⊎ (t ≢ a)
      → Phase seen s.live ((log ++ s.log) ++ commit_of t n ∷ []) a x before
  doubt_committed v t n al (inl e) =
      done (subst (λ z. Commits ((log ++ s.log) ++ commit_of z n ∷ []) a x before) (sym e) (commits_own log seen s a x before k h w v n (subst (λ z. Allowed s (committed z n)) e al)))
  doubt_committed v t n al (inr apart) = doubting (doubt_commit log seen s a x before k h w v t n apart al)

  doubt_aborted : (v : Doubts (log ++ s.log) a x before) (t : ℕ) → (t ≡ a) ⊎ (t ≢ a) → Phase seen s.live ((log ++ s.log) ++ abort_of t ∷ []) a x before
  doubt_aborted v t (inl e) =
      gone (subst (Has (λ z. z ≡ a)) (sym (aborts-append (log ++ s.log) (abort_of t ∷ []))) (Has-back (λ z. z ≡ a) (aborts (log ++ s.log)) (t ∷ []) (inl e)))
  doubt_aborted v t (inr n) = doubting (doubt_abort log seen s a x before k h w v t n)

  doubt_step : (v : Doubts (log ++ s.log) a x before) (e : Effect) → Allowed s e → Phase (noting seen e) (happens s e).live (log ++ (happens s e).log) a x before
  doubt_step v (prepared t) al =
      let r : Voter s t s.live = voter s t al.0 s.live al.1.0 al.1.1 in
      logs_vote log s t r seen (without_live t s.live) a x before (doubting (doubt_vote log seen s a x before k h w v r.branch r.within))
  doubt_step v (committed t n) al = logs_more log s.log (commit_of t n) seen s.live a x before (doubt_committed v t n al (same_or_not t a))
  doubt_step v (aborted t) al = logs_more log s.log (abort_of t) seen s.live a x before (doubt_aborted v t (same_or_not t a))
  doubt_step v (enlisted t) al = doubting v
  doubt_step v (granted t p m) al = doubting v
  doubt_step v (written t c) al = doubting v
  doubt_step v (dropped t) al = doubting v
  doubt_step v lost al = doubting v
  doubt_step v came_up al = doubting v

  -- ---- the reader is committed

  done_step : (v : Commits (log ++ s.log) a x before) (e : Effect) → Allowed s e → Phase (noting seen e) (happens s e).live (log ++ (happens s e).log) a x before
  done_step v (prepared t) al =
      let r : Voter s t s.live = voter s t al.0 s.live al.1.0 al.1.1 in
      logs_vote log s t r seen (without_live t s.live) a x before (done (done_vote log seen s a x before k h w v r.branch r.within))
  done_step v (committed t n) al = logs_more log s.log (commit_of t n) seen s.live a x before (done (done_commit log seen s a x before k h w v t n al))
  done_step v (aborted t) al = logs_more log s.log (abort_of t) seen s.live a x before (done (done_abort log seen s a x before k h w v t))
  done_step v (enlisted t) al = done v
  done_step v (granted t p m) al = done v
  done_step v (written t c) al = done v
  done_step v (dropped t) al = done v
  done_step v lost al = done v
  done_step v came_up al = done v

  -- ---- the reader has gone

  gone_step : Has (λ t. t ≡ a) (aborts (log ++ s.log)) → (e : Effect) → Phase (noting seen e) (happens s e).live (log ++ (happens s e).log) a x before
  gone_step g (prepared t) = gone (subst (λ m. Has (λ z. z ≡ a) (aborts m)) (append_assoc log s.log (votes_of s t s.live)) (aborts_more (log ++ s.log) (votes_of s t s.live) a g))
  gone_step g (committed t n) = gone (subst (λ m. Has (λ z. z ≡ a) (aborts m)) (append_assoc log s.log (commit_of t n ∷ [])) (aborts_more (log ++ s.log) (commit_of t n ∷ []) a g))
  gone_step g (aborted t) = gone (subst (λ m. Has (λ z. z ≡ a) (aborts m)) (append_assoc log s.log (abort_of t ∷ [])) (aborts_more (log ++ s.log) (abort_of t ∷ []) a g))
  gone_step g (enlisted t) = gone g
  gone_step g (granted t p m) = gone g
  gone_step g (written t c) = gone g
  gone_step g (dropped t) = gone g
  gone_step g lost = gone g
  gone_step g came_up = gone g

  never_logs : (v : Never seen s.live (log ++ s.log) a) (i : LogItem) (live : List Branch) → ((b : Branch) → IsIn b live → IsIn b s.live)
      → ((p : Prepared) → IsIn p (prepares (i ∷ [])) → p.tx ≢ a)
      → Never seen live ((log ++ s.log) ++ i ∷ []) a
  never_logs v i live fewer new =
      record {
        is_seen = v.is_seen;
        dead = λ b j. v.dead b (fewer b j);
        none = λ p j. by_place p (in_append p (prepares (log ++ s.log)) (prepares (i ∷ [])) (subst (IsIn p) (prepares-append (log ++ s.log) (i ∷ [])) j));
      }
    where
      by_place : (p : Prepared) → IsIn p (prepares (log ++ s.log)) ⊎ IsIn p (prepares (i ∷ [])) → p.tx ≢ a
      by_place p (inl j) = v.none p j
      by_place p (inr j) = new p j

  never_changed : (v : Never seen s.live (log ++ s.log) a) (t : ℕ) (f : Branch → Branch) → ((b : Branch) → (f b).tx ≡ b.tx)
      → Never seen (changing t f s.live) (log ++ s.log) a
  never_changed v t f same = record { is_seen = v.is_seen; dead = λ b i. by_kind b (in_changing t f b s.live i); none = v.none }
    where
      by_kind : (b : Branch) → Stays t s.live b ⊎ From t f s.live b → b.tx ≢ a
      by_kind b (inl i) = v.dead b i.0
      by_kind b (inr r) = λ e. v.dead r.old r.within (sym (ap (λ z. z.tx) r.new ∙ same r.old) ∙ e)

  never_step : (v : Never seen s.live (log ++ s.log) a) (e : Effect) → Allowed s e → IsNew seen e
      → Phase (noting seen e) (happens s e).live (log ++ (happens s e).log) a x before
  never_step v (enlisted t) al new =
      never (record { is_seen = inr v.is_seen; dead = λ b i. by_place b (in_append b s.live (record { tx = t; locks = []; own = [] } ∷ []) i); none = v.none })
    where
      by_place : (b : Branch) → IsIn b s.live ⊎ IsIn b (record { tx = t; locks = []; own = [] } ∷ []) → b.tx ≢ a
      by_place b (inl i) = v.dead b i
      by_place b (inr i) = λ e. in_Each (λ z. z ≢ t) a seen v.is_seen new (sym e ∙ ap (λ z. z.tx) (last_is b (record { tx = t; locks = []; own = [] }) i))
  never_step v (granted t p m) al new = never (never_changed v t (grant p m) (λ b. refl))
  never_step v (written t c) al new = never (never_changed v t (write c) (λ b. refl))
  never_step v (prepared t) al new =
      let r : Voter s t s.live = voter s t al.0 s.live al.1.0 al.1.1 in
      logs_vote log s t r seen (without_live t s.live) a x before
      (never (never_logs v (vote_of s r.branch) (without_live t s.live) (λ b i. (in_without_live t b s.live i).0)
      (λ p i e. v.dead r.branch r.within (sym (ap (λ z. z.tx) (is_last p (vote_in s r.branch) i)) ∙ e))))
  never_step v (committed t n) al new = logs_more log s.log (commit_of t n) seen s.live a x before (never (never_logs v (commit_of t n) s.live (λ b i. i) (λ p i. absurd i)))
  never_step v (aborted t) al new = logs_more log s.log (abort_of t) seen s.live a x before (never (never_logs v (abort_of t) s.live (λ b i. i) (λ p i. absurd i)))
  never_step v (dropped t) al new = never (record { is_seen = v.is_seen; dead = λ b i. v.dead b (in_without_live t b s.live i).0; none = v.none })
  never_step v lost al new = never (record { is_seen = v.is_seen; dead = λ b i. absurd i; none = v.none })
  never_step v came_up al new = never v

  phase_step : (e : Effect) → Allowed s e → IsNew seen e → Phase seen s.live (log ++ s.log) a x before
      → Phase (noting seen e) (happens s e).live (log ++ (happens s e).log) a x before
  phase_step e al new (lives v) = live_step v e al
  phase_step e al new (doubting v) = doubt_step v e al
  phase_step e al new (done v) = done_step v e al
  phase_step e al new (never v) = never_step v e al new
  phase_step e al new (gone g) = gone_step g e

-- ---- a run

-- what stands, and the phase of the read
abbrev pub At : List LogItem → List ℕ → SState → ℕ → Place → List Number → Type 0
At log seen s a x before = Phase seen s.live (log ++ s.log) a x before

stands_phase : (log : List LogItem) (seen : List ℕ) (own : ℕ → List Change) (s : SState) (a : ℕ) (x : Place) (before : List Number) (e : Effect)
    → Allowed s e → IsNew seen e → Stands log seen own s
    → At log seen s a x before → At log (noting seen e) (happens s e) a x before
stands_phase log seen own s a x before e al new k p = phase_step log seen s a x before k.locked k.kept (written_of log seen own s k) e al new p

other_same : (seen : List ℕ) (e : Effect) → IsOther e → (noting seen e ≡ seen) × IsNew seen e
other_same seen (enlisted tx) h = absurd h
other_same seen (written tx c) h = absurd h
other_same seen (granted tx p m) h = (refl, tt)
other_same seen (prepared tx) h = (refl, tt)
other_same seen (committed tx n) h = (refl, tt)
other_same seen (aborted tx) h = (refl, tt)
other_same seen (dropped tx) h = (refl, tt)
other_same seen lost h = (refl, tt)
other_same seen came_up h = (refl, tt)

others_phase : (log : List LogItem) (seen : List ℕ) (own : ℕ → List Change) (s : SState) (es : List Effect) (t : SState) (a : ℕ) (x : Place) (before : List Number)
    → Each IsOther es → Steps s es t
    → Stands log seen own s → At log seen s a x before → At log seen t a x before
others_phase log seen own s [] t a x before o st k p = subst (λ u. At log seen u a x before) st p
others_phase log seen own s (e ∷ es) t a x before o st k p =
    let q = other_same seen e o.0 in
    others_phase log seen own (happens s e) es t a x before o.1 st.1 (other_step log seen own s e o.0 st.0 k)
    (subst (λ xs. At log xs (happens s e) a x before) q.0 (stands_phase log seen own s a x before e st.0 q.1 k p))

wider_phase : (seen : List ℕ) (t : ℕ) (live : List Branch) (l : List LogItem) (a : ℕ) (x : Place) (before : List Number)
    → Phase seen live l a x before → Phase (t ∷ seen) live l a x before
wider_phase seen t live l a x before (lives v) = lives v
wider_phase seen t live l a x before (doubting v) = doubting v
wider_phase seen t live l a x before (done v) = done v
wider_phase seen t live l a x before (never v) = never (record { is_seen = inr v.is_seen; dead = v.dead; none = v.none })
wider_phase seen t live l a x before (gone g) = gone g

enlist_phase : (log : List LogItem) (seen : List ℕ) (own : ℕ → List Change) (s : SState) (tx : ℕ) (es : List Effect) (t : SState) (a : ℕ) (x : Place)
    (before : List Number)
    → (es ≡ []) ⊎ (es ≡ enlisted tx ∷ []) → Steps s es t → Each (λ t. t ≢ tx) seen → Stands log seen own s → At log seen s a x before → At log (tx ∷ seen) t a x before
enlist_phase log seen own s tx es t a x before (inl is) st new k p =
    let same : s ≡ t = subst (λ l. Steps s l t) is st in
    wider_phase seen tx t.live (log ++ t.log) a x before (subst (λ u. At log seen u a x before) same p)
enlist_phase log seen own s tx es t a x before (inr is) st new k p =
    let one : Steps s (enlisted tx ∷ []) t = subst (λ l. Steps s l t) is st in
    subst (λ u. At log (tx ∷ seen) u a x before) one.1 (stands_phase log seen own s a x before (enlisted tx) one.0 new k p)

write_phase : (log : List LogItem) (seen : List ℕ) (own : ℕ → List Change) (s : SState) (tx : Tx) (c : Change) (b : Answer) (es : List Effect)
    (t : SState) (a : ℕ) (x : Place) (before : List Number)
    → IsLike (request.Write tx c) b es → Steps s es t → Stands log seen own s → At log seen s a x before → At log seen t a x before
write_phase log seen own s tx c answer.Done es t a x before is st k p =
    let one : Steps s (written tx.0 c ∷ []) t = subst (λ l. Steps s l t) is st in
    subst (λ u. At log seen u a x before) one.1 (stands_phase log seen own s a x before (written tx.0 c) one.0 tt k p)
write_phase log seen own s tx c b es t a x before is st k p =
    let same : s ≡ t = subst (λ l. Steps s l t) is st in subst (λ u. At log seen u a x before) same p

request_phase : (log : List LogItem) (seen : List ℕ) (own : ℕ → List Change) (s : SState) (q : Request) (b : Answer) (es : List Effect) (t : SState)
    (a : ℕ) (x : Place) (before : List Number)
    → IsLike q b es → Steps s es t → IsFirst seen q → Stands log seen own s → At log seen s a x before → At log (noting_request seen q) t a x before
request_phase log seen own s (request.Enlist tx) b es t a x before is st first k p = enlist_phase log seen own s tx.0 es t a x before is st first k p
request_phase log seen own s (request.Write tx c) b es t a x before is st first k p = write_phase log seen own s tx c b es t a x before is st k p
request_phase log seen own s _ b es t a x before is st first k p = others_phase log seen own s es t a x before is st k p

-- along a run a read goes through its phases
pub run_phase : (log : List LogItem) (seen : List ℕ) (own : ℕ → List Change) (s : SState) (trail : List Asked) (t : SState) (a : ℕ) (x : Place)
    (before : List Number)
    → Run s trail t → EnlistsOnce seen trail → Stands log seen own s → At log seen s a x before → At log (seen_after seen trail) t a x before
run_phase log seen own s [] t a x before run once k p = subst (λ u. At log seen u a x before) run p
run_phase log seen own s (b ∷ more) t a x before run once k p =
    run_phase log (noting_request seen b.request) (and_wrote own b.request b.answer) run.0 more t a x before run.2 once.1 (turn_stands log seen own s b run.0 run.1 once.0 k)
    (request_phase log seen own s b.request b.answer run.1.effects run.0 a x before (like s b.request b.answer run.1.effects run.1.causes) run.1.steps once.0 k p)
