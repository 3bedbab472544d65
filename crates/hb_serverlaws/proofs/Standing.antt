-- What stands along a run: locks, the log, and each live branch's writes.
use Rattle.std.proofs.Common.{◌≡◌, ◌≢◌, ◌⊎◌, ℕ, true, false, List, [], ◌∷◌, ◌++◌, refl, sym, ap, ◌∙◌, subst, inl, inr, map, append-nil}
use Rattle.std.specs.Prelude.{◌==◌, if◌then◌else◌}
use Rattle.std.proofs.lemmas.Bool.{eq-eqb, ne_eqb}
use Rattle.hb_types.specs.declared.answer.Answer.{Answer}
use Rattle.hb_types.specs.declared.answer.Answer.TheVariants as answer
use Rattle.hb_types.specs.declared.change.Change.{Change}
use Rattle.hb_types.specs.declared.change.LogItem.{LogItem}
use Rattle.hb_types.specs.declared.lock.Mode.{Mode}
use Rattle.hb_types.specs.declared.names.Tx.{Tx}
use Rattle.hb_types.specs.declared.places.Path.{Path}
use Rattle.hb_types.specs.declared.request.Request.{Request}
use Rattle.hb_types.specs.declared.request.Request.TheVariants as request
use Rattle.hb_types.specs.Lists.{Each, IsIn}
use Rattle.hb_types.proofs.Ascending.{in_Each}
use Rattle.hb_disks.specs.Redo.{redo, doubts}
use Rattle.hb_disks.specs.Says.{prepares}
use Rattle.hb_disks.specs.LogRules.{LogOK, LocksAgree}
use Rattle.hb_runs.specs.Server.{Branch, SState, as_branch, unended}
use Rattle.hb_runs.specs.ServerEffects.{Effect, enlisted, granted, written, prepared, committed, aborted, dropped, lost, came_up, Allowed, happens, Steps, grant, write}
use Rattle.hb_runs.specs.ServerRuns.{Asked, Turns, stopped_at}
use Rattle.hb_loglaws.proofs.Members.{in_map, map_in, in_append}
use Rattle.hb_loglaws.proofs.Writers.{IsWritten, written as written_log}
use Rattle.hb_serverlaws.proofs.Lifting.{IsLike, IsOther, like}
use Rattle.hb_serverlaws.proofs.Locks.{From, IsFit, IsLocked, Of, Stays, doubted, in_changing, in_without_live, last_is, locked, run_locked}
use Rattle.hb_serverlaws.proofs.LogKept.{IsKept, IsNew, log_step, noting as noting_effect}
use Rattle.hb_serverlaws.specs.Locking.{LocksAreKept}
use Rattle.hb_serverlaws.specs.Trails.{IsFirst, noting, voted_in, wrote}

-- ---- the start

pub start_locked : (log : List LogItem) (place : ℕ) → LogOK [] log → IsLocked (stopped_at (redo log) place)
start_locked log place ok =
    record {
      unique = λ b c i j e. absurd i;
      split = λ b d i j. absurd i;
      agree = λ b c i j n. agree b c i j n;
      fit = λ b i. fit b i;
    }
  where
    w : IsWritten log
    w = written_log log ok

    agree : (b c : Branch) → Of [] (map as_branch (doubts log)) b → Of [] (map as_branch (doubts log)) c → b.tx ≢ c.tx → LocksAgree b.locks c.locks
    agree b c (inl i) j n = absurd i
    agree b c (inr i) (inl j) n = absurd j
    agree b c (inr i) (inr j) n =
        let p = in_map as_branch b (doubts log) i in
        let q = in_map as_branch c (doubts log) j in
        subst (λ x. LocksAgree x.locks c.locks) p.2
        (subst (λ x. LocksAgree p.0.locks x.locks) q.2 (w.agree p.0 q.0 p.1 q.1 (λ e. n (ap (λ x. x.tx) (sym p.2) ∙ e ∙ ap (λ x. x.tx) q.2))))

    fit : (b : Branch) → Of [] (map as_branch (doubts log)) b → IsFit b
    fit b (inl i) = absurd i
    fit b (inr i) =
        let p = in_map as_branch b (doubts log) i in
        subst IsFit p.2 (record { closed = w.closed p.0 p.1; covered = w.covered p.0 p.1 })

-- ---- locks

of_unended : (s : SState) (b : Branch) → IsIn b (unended s) → Of s.live (doubted s) b
of_unended s b i = in_append b s.live (doubted s) i

pub locks_are_kept : LocksAreKept
locks_are_kept log place trail s ok run =
    record {
      agree = λ b c i j n. k.agree b c (of_unended s b i) (of_unended s c j) n;
      closed = λ b i. (k.fit b (of_unended s b i)).closed;
      covered = λ b i. (k.fit b (of_unended s b i)).covered;
    }
  where
    k : IsLocked s
    k = run_locked (stopped_at (redo log) place) trail s run (start_locked log place ok)

-- ---- what stands

pub record Stands (log : List LogItem) (seen : List ℕ) (own : ℕ → List Change) (s : SState) : Type 0 where
  pub locked : IsLocked s
  pub kept : IsKept log seen s
  pub own_writes : (b : Branch) → IsIn b s.live → b.own ≡ own b.tx
  pub unseen : (tx : ℕ) → Each (λ t. t ≢ tx) seen → own tx ≡ []

-- a server's log, and so who wrote
pub written_of : (log : List LogItem) (seen : List ℕ) (own : ℕ → List Change) (s : SState) → Stands log seen own s → IsWritten (log ++ s.log)
written_of log seen own s k = written_log (log ++ s.log) k.kept.ok

pub start_stands : (log : List LogItem) (place : ℕ) → LogOK [] log → Stands log (voted_in log) (λ tx. []) (stopped_at (redo log) place)
start_stands log place ok =
    record {
      locked = start_locked log place ok;
      kept =
          record {
            base = refl;
            ok = subst (LogOK []) (sym (append-nil log)) ok;
            live_seen = λ b i. absurd i;
            log_seen = λ p i. map_in (λ q. q.tx) p (prepares log) (subst (λ l. IsIn p (prepares l)) (append-nil log) i);
            apart = λ b p i j. absurd i;
          };
      own_writes = λ b i. absurd i;
      unseen = λ tx e. refl;
    }

-- ---- an effect that neither enlists nor writes

seen_same : (seen : List ℕ) (e : Effect) → IsOther e → noting_effect seen e ≡ seen
seen_same seen (enlisted tx) h = absurd h
seen_same seen (written tx c) h = absurd h
seen_same seen (granted tx p m) h = refl
seen_same seen (prepared tx) h = refl
seen_same seen (committed tx n) h = refl
seen_same seen (aborted tx) h = refl
seen_same seen (dropped tx) h = refl
seen_same seen lost h = refl
seen_same seen came_up h = refl

is_new : (seen : List ℕ) (e : Effect) → IsOther e → IsNew seen e
is_new seen (enlisted tx) h = absurd h
is_new seen (written tx c) h = absurd h
is_new seen (granted tx p m) h = tt
is_new seen (prepared tx) h = tt
is_new seen (committed tx n) h = tt
is_new seen (aborted tx) h = tt
is_new seen (dropped tx) h = tt
is_new seen lost h = tt
is_new seen came_up h = tt

module _ (own : ℕ → List Change) (s : SState) (k : (b : Branch) → IsIn b s.live → b.own ≡ own b.tx) where
  granted_own : (tx : ℕ) (p : Path) (m : Mode) (b : Branch) → Stays tx s.live b ⊎ From tx (grant p m) s.live b → b.own ≡ own b.tx
  granted_own tx p m b (inl h) = k b h.0
  granted_own tx p m b (inr r) = ap (λ z. z.own) r.new ∙ k r.old r.within ∙ ap own (sym (ap (λ z. z.tx) r.new))

  other_own : (e : Effect) → IsOther e → (b : Branch) → IsIn b (happens s e).live → b.own ≡ own b.tx
  other_own (enlisted tx) o b i = absurd o
  other_own (written tx c) o b i = absurd o
  other_own (granted tx p m) o b i = granted_own tx p m b (in_changing tx (grant p m) b s.live i)
  other_own (prepared tx) o b i = k b (in_without_live tx b s.live i).0
  other_own (committed tx n) o b i = k b i
  other_own (aborted tx) o b i = k b i
  other_own (dropped tx) o b i = k b (in_without_live tx b s.live i).0
  other_own lost o b i = absurd i
  other_own came_up o b i = k b i

pub other_step : (log : List LogItem) (seen : List ℕ) (own : ℕ → List Change) (s : SState) (e : Effect) → IsOther e → Allowed s e
    → Stands log seen own s → Stands log seen own (happens s e)
other_step log seen own s e o a k =
    record {
      locked = locked s e a k.locked;
      kept = subst (λ xs. IsKept log xs (happens s e)) (seen_same seen e o) (log_step log seen s e a (is_new seen e o) k.locked k.kept);
      own_writes = λ b i. other_own own s k.own_writes e o b i;
      unseen = k.unseen;
    }

-- ---- an enlisting

wider : (log : List LogItem) (seen : List ℕ) (tx : ℕ) (s : SState) → IsKept log seen s → IsKept log (tx ∷ seen) s
wider log seen tx s k =
    record { base = k.base; ok = k.ok; live_seen = λ b i. inr (k.live_seen b i); log_seen = λ p i. inr (k.log_seen p i); apart = k.apart }

pub passed : (log : List LogItem) (seen : List ℕ) (own : ℕ → List Change) (tx : ℕ) (s : SState) → Stands log seen own s → Stands log (tx ∷ seen) own s
passed log seen own tx s k =
    record { locked = k.locked; kept = wider log seen tx s k.kept; own_writes = k.own_writes; unseen = λ t e. k.unseen t e.1 }

pub enlist_step : (log : List LogItem) (seen : List ℕ) (own : ℕ → List Change) (tx : ℕ) (s : SState) → Each (λ t. t ≢ tx) seen → Allowed s (enlisted tx)
    → Stands log seen own s → Stands log (tx ∷ seen) own (happens s (enlisted tx))
enlist_step log seen own tx s new a k =
    record {
      locked = locked s (enlisted tx) a k.locked;
      kept = log_step log seen s (enlisted tx) a new k.locked k.kept;
      own_writes = λ b i. its b (in_append b s.live (record { tx = tx; locks = []; own = [] } ∷ []) i);
      unseen = λ t e. k.unseen t e.1;
    }
  where
    its : (b : Branch) → IsIn b s.live ⊎ IsIn b (record { tx = tx; locks = []; own = [] } ∷ []) → b.own ≡ own b.tx
    its b (inl i) = k.own_writes b i
    its b (inr i) =
        let is : b ≡ record { tx = tx; locks = []; own = [] } = last_is b (record { tx = tx; locks = []; own = [] }) i in
        ap (λ z. z.own) is ∙ sym (ap own (ap (λ z. z.tx) is) ∙ k.unseen tx new)

-- ---- a write

abbrev pub with_write : ℕ → Change → (ℕ → List Change) → ℕ → List Change
with_write tx c own t = own t ++ (if tx == t then c ∷ [] else [])

module _ (tx : ℕ) (c : Change) (own : ℕ → List Change) where
  for_others : (t : ℕ) → t ≢ tx → with_write tx c own t ≡ own t
  for_others t n = let f : (tx == t) ≡ false = ne_eqb tx t (λ e. n (sym e)) in rw f (append-nil (own t))

  for_itself : (t : ℕ) → t ≡ tx → with_write tx c own t ≡ own t ++ c ∷ []
  for_itself t e = let f : (tx == t) ≡ true = eq-eqb tx t (sym e) in rw f refl

  write_own : (s : SState) → ((b : Branch) → IsIn b s.live → b.own ≡ own b.tx) → (b : Branch) → Stays tx s.live b ⊎ From tx (write c) s.live b
      → b.own ≡ with_write tx c own b.tx
  write_own s k b (inl h) = k b h.0 ∙ sym (for_others b.tx h.1)
  write_own s k b (inr r) =
      let same : b.tx ≡ r.old.tx = ap (λ z. z.tx) r.new in
      ap (λ z. z.own) r.new ∙ ap (λ z. z ++ c ∷ []) (k r.old r.within ∙ ap own (sym same)) ∙ sym (for_itself b.tx (same ∙ r.of_tx))

is_seen : (log : List LogItem) (seen : List ℕ) (s : SState) (tx : ℕ) (c : Change) → IsKept log seen s → Allowed s (written tx c) → IsIn tx seen
is_seen log seen s tx c k a = subst (λ t. IsIn t seen) a.1.1 (k.live_seen a.0 a.1.0)

pub write_step : (log : List LogItem) (seen : List ℕ) (own : ℕ → List Change) (tx : ℕ) (c : Change) (s : SState) → Allowed s (written tx c)
    → Stands log seen own s → Stands log seen (with_write tx c own) (happens s (written tx c))
write_step log seen own tx c s a k =
    record {
      locked = locked s (written tx c) a k.locked;
      kept = log_step log seen s (written tx c) a tt k.locked k.kept;
      own_writes = λ b i. write_own tx c own s k.own_writes b (in_changing tx (write c) b s.live i);
      unseen = λ t e. for_others tx c own t (λ q. in_Each (λ z. z ≢ t) tx seen (is_seen log seen s tx c k.kept a) e (sym q)) ∙ k.unseen t e;
    }

-- ---- a turn

others_stand : (log : List LogItem) (seen : List ℕ) (own : ℕ → List Change) (s : SState) (es : List Effect) (t : SState) → Each IsOther es
    → Steps s es t → Stands log seen own s → Stands log seen own t
others_stand log seen own s [] t o st k = subst (Stands log seen own) st k
others_stand log seen own s (e ∷ es) t o st k = others_stand log seen own (happens s e) es t o.1 st.1 (other_step log seen own s e o.0 st.0 k)

abbrev pub and_wrote : (ℕ → List Change) → Request → Answer → ℕ → List Change
and_wrote own q a tx = own tx ++ wrote tx q a

nothing_wrote : (log : List LogItem) (seen : List ℕ) (own new : ℕ → List Change) (s : SState) → ((tx : ℕ) → new tx ≡ own tx) → Stands log seen own s
    → Stands log seen new s
nothing_wrote log seen own new s same k =
    record { locked = k.locked; kept = k.kept; own_writes = λ b i. k.own_writes b i ∙ sym (same b.tx); unseen = λ t e. same t ∙ k.unseen t e }

enlist_turn : (log : List LogItem) (seen : List ℕ) (own : ℕ → List Change) (s : SState) (tx : ℕ) (es : List Effect) (t : SState)
    → (es ≡ []) ⊎ (es ≡ enlisted tx ∷ []) → Steps s es t
    → Each (λ t. t ≢ tx) seen → Stands log seen own s → Stands log (tx ∷ seen) own t
enlist_turn log seen own s tx es t (inl is) st new k =
    let same : s ≡ t = subst (λ l. Steps s l t) is st in passed log seen own tx t (subst (Stands log seen own) same k)
enlist_turn log seen own s tx es t (inr is) st new k =
    let one : Steps s (enlisted tx ∷ []) t = subst (λ l. Steps s l t) is st in
    subst (Stands log (tx ∷ seen) own) one.1 (enlist_step log seen own tx s new one.0 k)

write_turn : (log : List LogItem) (seen : List ℕ) (own : ℕ → List Change) (s : SState) (tx : Tx) (c : Change) (a : Answer) (es : List Effect) (t : SState)
    → IsLike (request.Write tx c) a es → Steps s es t
    → Stands log seen own s → Stands log seen (and_wrote own (request.Write tx c) a) t
write_turn log seen own s tx c answer.Done es t is st k =
    let one : Steps s (written tx.0 c ∷ []) t = subst (λ l. Steps s l t) is st in
    subst (Stands log seen (with_write tx.0 c own)) one.1 (write_step log seen own tx.0 c s one.0 k)
write_turn log seen own s tx c a es t is st k =
    let same : s ≡ t = subst (λ l. Steps s l t) is st in
    nothing_wrote log seen own _ t (λ u. append-nil (own u)) (subst (Stands log seen own) same k)

by_request : (log : List LogItem) (seen : List ℕ) (own : ℕ → List Change) (s : SState) (q : Request) (a : Answer) (es : List Effect) (t : SState)
    → IsLike q a es → Steps s es t → IsFirst seen q
    → Stands log seen own s → Stands log (noting seen q) (and_wrote own q a) t
by_request log seen own s (request.Enlist tx) a es t is st first k =
    nothing_wrote log (tx.0 ∷ seen) own _ t (λ u. append-nil (own u)) (enlist_turn log seen own s tx.0 es t is st first k)
by_request log seen own s (request.Write tx c) a es t is st first k = write_turn log seen own s tx c a es t is st k
by_request log seen own s _ a es t is st first k =
    nothing_wrote log seen own _ t (λ u. append-nil (own u)) (others_stand log seen own s es t is st k)

pub turn_stands : (log : List LogItem) (seen : List ℕ) (own : ℕ → List Change) (s : SState) (a : Asked) (t : SState) → Turns s a t → IsFirst seen a.request
    → Stands log seen own s → Stands log (noting seen a.request) (and_wrote own a.request a.answer) t
turn_stands log seen own s a t turn first k =
    by_request log seen own s a.request a.answer turn.effects t (like s a.request a.answer turn.effects turn.causes) turn.steps first k
