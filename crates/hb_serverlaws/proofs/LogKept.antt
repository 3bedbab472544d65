-- A server's log stays right along its effects, where each transaction is enlisted once.
use Rattle.std.proofs.Common.{◌≡◌, ◌≢◌, ℕ, false, refl, sym, subst, ◌∙◌, ap, List, [], ◌∷◌, ◌++◌, ◌⊎◌, inl, inr, append_assoc, ◌<◌}
use Rattle.std.specs.Prelude.{◌==◌, ⊤}
use Rattle.std.proofs.lemmas.Bool.{eqb-true, eqb-false}
use Rattle.hb_types.specs.declared.change.LogItem.{LogItem}
use Rattle.hb_types.specs.declared.change.LogItem.TheVariants as item
use Rattle.hb_types.specs.declared.lock.Mode.TheVariants as mode
use Rattle.hb_types.specs.Lists.{Each, Has, IsIn}
use Rattle.hb_types.proofs.Ascending.{Each-in, in_Each, Has-of}
use Rattle.hb_types.proofs.PutLaws.{by_test}
use Rattle.hb_disks.specs.Redo.{Prepared, redo_from, redo, doubts}
use Rattle.hb_disks.specs.Says.{prepares}
use Rattle.hb_disks.specs.LogRules.{LogOK, Fits, LocksAgree, Covers}
use Rattle.hb_disks.proofs.Fold.{redo_from-append, prepares-append, LogOK-more}
use Rattle.hb_runs.specs.Server.{Branch, SState, now, as_branch}
use Rattle.hb_runs.specs.ServerEffects.{Effect, enlisted, granted, written, prepared, committed, aborted, dropped, lost, came_up, Allowed, happens, without_live, changing, grant, write, votes_of, vote_of}
use Rattle.hb_loglaws.proofs.Members.{map_in, in_append}
use Rattle.hb_serverlaws.proofs.Locks.{Each-normal, From, IsLocked, Stays, in_changing, in_without_live, last_is}

-- ---- enlisted once

abbrev pub IsNew : List ℕ → Effect → Type 0
IsNew seen (enlisted tx) = Each (λ t. t ≢ tx) seen
IsNew seen _ = ⊤

abbrev pub noting : List ℕ → Effect → List ℕ
noting seen (enlisted tx) = tx ∷ seen
noting seen _ = seen

-- ---- the invariant

pub record IsKept (l0 : List LogItem) (seen : List ℕ) (s : SState) : Type 0 where
  pub base : s.base ≡ redo l0
  pub ok : LogOK [] (l0 ++ s.log)
  pub live_seen : (b : Branch) → IsIn b s.live → IsIn b.tx seen
  pub log_seen : (p : Prepared) → IsIn p (prepares (l0 ++ s.log)) → IsIn p.tx seen
  pub apart : (b : Branch) (p : Prepared) → IsIn b s.live → IsIn p (prepares (l0 ++ s.log)) → p.tx ≢ b.tx

-- the state is what redo of the whole log gives
pub now_is : (l0 : List LogItem) (s : SState) → s.base ≡ redo l0 → now s ≡ redo (l0 ++ s.log)
now_is l0 s e = ap (λ b. redo_from b s.log) e ∙ sym (redo_from-append _ l0 s.log)

-- ---- effects that leave the log

-- a live branch now of which one of the same transaction was live
record Was (bs : List Branch) (b : Branch) : Type 0 where
  old : Branch
  within : IsIn old bs
  same : b.tx ≡ old.tx

same_log : (l0 : List LogItem) (seen : List ℕ) (s t : SState) → t.base ≡ s.base → t.log ≡ s.log → ((b : Branch) → IsIn b t.live → Was s.live b)
    → IsKept l0 seen s → IsKept l0 seen t
same_log l0 seen s t eb el was k =
    record {
      base = eb ∙ k.base;
      ok = subst (λ l. LogOK [] (l0 ++ l)) (sym el) k.ok;
      live_seen = λ b i. let w = was b i in subst (λ x. IsIn x seen) (sym w.same) (k.live_seen w.old w.within);
      log_seen = λ p i. k.log_seen p (subst (λ l. IsIn p (prepares (l0 ++ l))) el i);
      apart = λ b p i j e. let w = was b i in k.apart w.old p w.within (subst (λ l. IsIn p (prepares (l0 ++ l))) el j) (e ∙ w.same);
    }

was_changing : (tx : ℕ) (f : Branch → Branch) (bs : List Branch) → ((b : Branch) → (f b).tx ≡ b.tx) → (b : Branch) → IsIn b (changing tx f bs) → Was bs b
was_changing tx f bs same b i = by_kind (in_changing tx f b bs i)
  where
    by_kind : Stays tx bs b ⊎ From tx f bs b → Was bs b
    by_kind (inl h) = record { old = b; within = h.0; same = refl }
    by_kind (inr r) = record { old = r.old; within = r.within; same = ap (λ z. z.tx) r.new ∙ same r.old }

was_without : (tx : ℕ) (bs : List Branch) (b : Branch) → IsIn b (without_live tx bs) → Was bs b
was_without tx bs b i = record { old = b; within = (in_without_live tx b bs i).0; same = refl }

-- ---- effects that log an item

pub ok_logged : (l0 l : List LogItem) (i : LogItem) → LogOK [] (l0 ++ l) → Fits (l0 ++ l) i → LogOK [] (l0 ++ (l ++ i ∷ []))
ok_logged l0 l i ok f = subst (LogOK []) (append_assoc l0 l (i ∷ [])) (LogOK-more [] (l0 ++ l) i ok f)

in_logged : (l0 l : List LogItem) (i : LogItem) (p : Prepared) → IsIn p (prepares (l0 ++ (l ++ i ∷ []))) → IsIn p (prepares (l0 ++ l)) ⊎ IsIn p (prepares (i ∷ []))
in_logged l0 l i p h =
    in_append p (prepares (l0 ++ l)) (prepares (i ∷ []))
    (subst (IsIn p) (prepares-append (l0 ++ l) (i ∷ [])) (subst (λ m. IsIn p (prepares m)) (sym (append_assoc l0 l (i ∷ []))) h))

-- an end of a branch
logs_end : (l0 : List LogItem) (seen : List ℕ) (s : SState) (i : LogItem) → prepares (i ∷ []) ≡ [] → Fits (l0 ++ s.log) i → IsKept l0 seen s
    → IsKept l0 seen (record s { log = s.log ++ i ∷ [] })
logs_end l0 seen s i none f k =
    record {
      base = k.base;
      ok = ok_logged l0 s.log i k.ok f;
      live_seen = k.live_seen;
      log_seen = λ p h. k.log_seen p (old p (in_logged l0 s.log i p h));
      apart = λ b p j h. k.apart b p j (old p (in_logged l0 s.log i p h));
    }
  where
    old : (p : Prepared) → IsIn p (prepares (l0 ++ s.log)) ⊎ IsIn p (prepares (i ∷ [])) → IsIn p (prepares (l0 ++ s.log))
    old p (inl h) = h
    old p (inr h) = absurd (subst (IsIn p) none h)

-- ---- a vote

-- the branch whose vote is logged
pub record Voter (s : SState) (tx : ℕ) (bs : List Branch) : Type 0 where
  pub branch : Branch
  pub within : IsIn branch bs
  pub of_tx : branch.tx ≡ tx
  pub logs : votes_of s tx bs ≡ vote_of s branch ∷ []

pub voter : (s : SState) (tx : ℕ) (b : Branch) (bs : List Branch) → IsIn b bs → b.tx ≡ tx → Voter s tx bs
voter s tx b [] h e = absurd h
voter s tx b (c ∷ cs) h e =
    by_test (c.tx == tx)
    (λ t. record { branch = c; within = inl refl; of_tx = eqb-true c.tx tx t; logs = rw t refl })
    (λ f. later f (voter s tx b cs (behind f h) e))
  where
    behind : (c.tx == tx) ≡ false → IsIn b (c ∷ cs) → IsIn b cs
    behind f (inl q) = absurd (eqb-false c.tx tx f (ap (λ z. z.tx) q ∙ e))
    behind f (inr i) = i

    later : (c.tx == tx) ≡ false → Voter s tx cs → Voter s tx (c ∷ cs)
    later f v = record { branch = v.branch; within = inr v.within; of_tx = v.of_tx; logs = rw f v.logs }

pub vote_fits : (l0 : List LogItem) (seen : List ℕ) (s : SState) (c : Branch) → IsIn c s.live → IsLocked s → IsKept l0 seen s → Fits (l0 ++ s.log) (vote_of s c)
vote_fits l0 seen s c i k h =
    record {
      first = Each-in (λ q. q.tx ≢ c.tx) (prepares (l0 ++ s.log)) (λ q j. h.apart c q i j);
      floor = ap (λ r. r.floor) (now_is l0 s h.base);
      fits =
          record {
            agree = subst (Each (λ q. LocksAgree q.locks c.locks)) (ap (λ r. r.doubts) (now_is l0 s h.base)) agree;
            closed = (k.fit c (inl i)).closed;
            covered = Each-normal (λ d. Covers c.locks mode.X d.place) c.own (k.fit c (inl i)).covered;
          };
    }
  where
    agree : Each (λ q. LocksAgree q.locks c.locks) (now s).doubts
    agree =
        Each-in (λ q. LocksAgree q.locks c.locks) (now s).doubts
        (λ q j. k.agree (as_branch q) c (inr (map_in as_branch q (now s).doubts j)) (inl i) (λ e. k.split c (as_branch q) i (map_in as_branch q (now s).doubts j) (sym e)))

logs_vote : (l0 : List LogItem) (seen : List ℕ) (s : SState) (tx : ℕ) → Voter s tx s.live → IsLocked s → IsKept l0 seen s → IsKept l0 seen (happens s (prepared tx))
logs_vote l0 seen s tx v k h =
    record {
      base = h.base;
      ok = subst (λ is. LogOK [] (l0 ++ (s.log ++ is))) (sym v.logs) (ok_logged l0 s.log (vote_of s v.branch) h.ok (vote_fits l0 seen s v.branch v.within k h));
      live_seen = λ b i. h.live_seen b (in_without_live tx b s.live i).0;
      log_seen = λ p i. seen_one p (kind p i);
      apart = λ b p i j. apart_one b p (in_without_live tx b s.live i) (kind p j);
    }
  where
    kind : (p : Prepared) → IsIn p (prepares (l0 ++ (s.log ++ votes_of s tx s.live))) → IsIn p (prepares (l0 ++ s.log)) ⊎ IsIn p (prepares (vote_of s v.branch ∷ []))
    kind p i = in_logged l0 s.log (vote_of s v.branch) p (subst (λ is. IsIn p (prepares (l0 ++ (s.log ++ is)))) v.logs i)

    its_tx : (p : Prepared) → IsIn p (prepares (vote_of s v.branch ∷ [])) → p.tx ≡ v.branch.tx
    its_tx p (inl e) = sym (ap (λ z. z.tx) e)
    its_tx p (inr e) = absurd e

    seen_one : (p : Prepared) → IsIn p (prepares (l0 ++ s.log)) ⊎ IsIn p (prepares (vote_of s v.branch ∷ [])) → IsIn p.tx seen
    seen_one p (inl i) = h.log_seen p i
    seen_one p (inr i) = subst (λ x. IsIn x seen) (sym (its_tx p i)) (h.live_seen v.branch v.within)

    apart_one : (b : Branch) (p : Prepared) → Stays tx s.live b → IsIn p (prepares (l0 ++ s.log)) ⊎ IsIn p (prepares (vote_of s v.branch ∷ [])) → p.tx ≢ b.tx
    apart_one b p st (inl i) = h.apart b p st.0 i
    apart_one b p st (inr i) = λ e. st.1 (sym e ∙ its_tx p i ∙ v.of_tx)

-- ---- each effect

enlists : (l0 : List LogItem) (seen : List ℕ) (s : SState) (tx : ℕ) → Each (λ t. t ≢ tx) seen → IsKept l0 seen s → IsKept l0 (tx ∷ seen) (happens s (enlisted tx))
enlists l0 seen s tx new h =
    record {
      base = h.base;
      ok = h.ok;
      live_seen = λ b i. live_one b (in_append b s.live _ i);
      log_seen = λ p i. inr (h.log_seen p i);
      apart = λ b p i j. apart_one b p (in_append b s.live _ i) j;
    }
  where
    live_one : (b : Branch) → IsIn b s.live ⊎ IsIn b (record { tx = tx; locks = []; own = [] } ∷ []) → IsIn b.tx (tx ∷ seen)
    live_one b (inl i) = inr (h.live_seen b i)
    live_one b (inr i) = inl (sym (ap (λ z. z.tx) (last_is b (record { tx = tx; locks = []; own = [] }) i)))

    apart_one : (b : Branch) (p : Prepared) → IsIn b s.live ⊎ IsIn b (record { tx = tx; locks = []; own = [] } ∷ []) → IsIn p (prepares (l0 ++ s.log)) → p.tx ≢ b.tx
    apart_one b p (inl i) j = h.apart b p i j
    apart_one b p (inr i) j =
        λ e. in_Each (λ t. t ≢ tx) p.tx seen (h.log_seen p j) new (e ∙ ap (λ z. z.tx) (last_is b (record { tx = tx; locks = []; own = [] }) i))

moved : (l0 : List LogItem) (s : SState) (P : Prepared → Type 0) → s.base ≡ redo l0 → Has P (now s).doubts → Has P (doubts (l0 ++ s.log))
moved l0 s P e h = subst (λ r. Has P r.doubts) (now_is l0 s e) h

pub log_step : (l0 : List LogItem) (seen : List ℕ) (s : SState) (e : Effect) → Allowed s e → IsNew seen e → IsLocked s → IsKept l0 seen s
    → IsKept l0 (noting seen e) (happens s e)
log_step l0 seen s (enlisted tx) a n k h = enlists l0 seen s tx n h
log_step l0 seen s (granted tx p m) a n k h = same_log l0 seen s (happens s (granted tx p m)) refl refl (was_changing tx (grant p m) s.live (λ b. refl)) h
log_step l0 seen s (written tx c) a n k h = same_log l0 seen s (happens s (written tx c)) refl refl (was_changing tx (write c) s.live (λ b. refl)) h
log_step l0 seen s (prepared tx) a n k h = logs_vote l0 seen s tx (voter s tx a.0 s.live a.1.0 a.1.1) k h
log_step l0 seen s (committed tx number) a n k h =
    logs_end l0 seen s (item.Commit (record { 0 = tx }) (record { 0 = number })) refl
    (moved l0 s (λ p. (p.tx ≡ tx) × (p.floor < number)) h.base
    (Has-of (λ p. (p.tx ≡ tx) × (p.floor ≡ a.0)) (λ p. (p.tx ≡ tx) × (p.floor < number)) (now s).doubts (λ p q. (q.0, subst (λ f. f < number) (sym q.1) a.2)) a.1)) h
log_step l0 seen s (aborted tx) a n k h =
    logs_end l0 seen s (item.Abort (record { 0 = tx })) refl
    (moved l0 s (λ p. p.tx ≡ tx) h.base (Has-of (λ p. (p.tx ≡ tx) × (p.floor ≡ a.0)) (λ p. p.tx ≡ tx) (now s).doubts (λ p q. q.0) a.1)) h
log_step l0 seen s (dropped tx) a n k h = same_log l0 seen s (happens s (dropped tx)) refl refl (was_without tx s.live) h
log_step l0 seen s lost a n k h = same_log l0 seen s (happens s lost) refl refl (λ b i. absurd i) h
log_step l0 seen s came_up a n k h = same_log l0 seen s (happens s came_up) refl refl (λ b i. record { old = b; within = i; same = refl }) h
