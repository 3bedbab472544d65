-- What becomes of a read of a place: the reader lives, then is in doubt, then is committed; or it never votes, or is aborted.
use Rattle.std.proofs.Common.{◌≡◌, ◌≢◌, ◌⊎◌, ℕ, ◌≤◌, ◌<◌, true, max, List, [], ◌∷◌, ◌++◌, refl, sym, ap, ◌∙◌, subst, inl, inr, append_assoc, append-nil, arith}
use Rattle.std.specs.Prelude.{filter, ◌==◌}
use Rattle.std.proofs.lemmas.Bool.{eqb-true, eqb-false}
use Rattle.hb_types.specs.declared.change.LogItem.{LogItem}
use Rattle.hb_types.specs.declared.change.LogItem.TheVariants as item
use Rattle.hb_types.specs.declared.lock.Mode.TheVariants as mode
use Rattle.hb_types.specs.declared.places.Place.{Place}
use Rattle.hb_types.specs.Lists.{Each, Has, IsIn}
use Rattle.hb_types.specs.Put.{touches, normal}
use Rattle.hb_types.proofs.Ascending.{Each-of, Each-append, Each-in, Has-front, Has-back}
use Rattle.hb_types.proofs.PutLaws.{by_test}
use Rattle.hb_disks.specs.Redo.{Prepared, doubts, floor_of, without_tx}
use Rattle.hb_disks.specs.Says.{prepares, commits, aborts, ch, writers}
use Rattle.hb_disks.specs.LogRules.{Covers}
use Rattle.hb_disks.proofs.Fold.{commits-append, doubts-prepare, doubts-commit, doubts-abort, floor-prepare, floor-commit, floor-abort}
use Rattle.hb_runs.specs.Server.{Branch, SState, now, as_branch}
use Rattle.hb_runs.specs.ServerEffects.{committed, Allowed, vote_of, changing, without_live}
use Rattle.hb_loglaws.proofs.Cover.{cover}
use Rattle.hb_loglaws.proofs.Growing.{writers-abort, writers-commit, writers-vote}
use Rattle.hb_loglaws.proofs.Lookups.{Number}
use Rattle.hb_loglaws.proofs.Members.{map_in, Each-filter, found, in_append}
use Rattle.hb_loglaws.proofs.Saying.{stays}
use Rattle.hb_loglaws.proofs.Writers.{IsWritten, in_without_tx', one_filtered, same_ch, touched_covered, writers-more}
use Rattle.hb_serverlaws.proofs.Locks.{IsLocked}
use Rattle.hb_serverlaws.proofs.LogKept.{IsKept, now_is, vote_fits}
use Rattle.hb_serverlaws.proofs.Readers.{in_changing_new, in_changing_old, in_without_old, readers_exclude}

-- ---- phases

-- the reader lives and covers the place, and no one has written there since
pub record Lives (live : List Branch) (l : List LogItem) (a : ℕ) (x : Place) (before : List Number) : Type 0 where
  pub branch : Branch
  pub within : IsIn branch live
  pub of_tx : branch.tx ≡ a
  pub covers : Covers branch.locks mode.S x
  pub same : writers l x ≡ before

-- the reader is in doubt, with a floor that no one who wrote there is above
pub record Doubts (l : List LogItem) (a : ℕ) (x : Place) (before : List Number) : Type 0 where
  pub branch : Prepared
  pub within : IsIn branch (doubts l)
  pub of_tx : branch.tx ≡ a
  pub covers : Covers branch.locks mode.S x
  pub same : writers l x ≡ before
  pub below : (p : Prepared) → IsIn p (doubts l) → p.tx ≡ a → Each (λ c. c.1 ≤ p.floor) before

-- the reader is committed, and who writes there since has no smaller number
pub record Commits (l : List LogItem) (a : ℕ) (x : Place) (before : List Number) : Type 0 where
  pub number : ℕ
  pub committed : IsIn (a, number) (commits l)
  pub since : List Number
  pub parts : writers l x ≡ before ++ since
  pub low : Each (λ c. c.1 < number) before
  pub high : Each (λ c. number ≤ c.1) since
  pub floor : number ≤ floor_of l
  pub above : (p : Prepared) → IsIn p (doubts l) → touches x p.changes ≡ true → number ≤ p.floor

-- the reader has gone without a vote
pub record Never (seen : List ℕ) (live : List Branch) (l : List LogItem) (a : ℕ) : Type 0 where
  pub is_seen : IsIn a seen
  pub dead : (b : Branch) → IsIn b live → b.tx ≢ a
  pub none : (p : Prepared) → IsIn p (prepares l) → p.tx ≢ a

pub data Phase (seen : List ℕ) (live : List Branch) (l : List LogItem) (a : ℕ) (x : Place) (before : List Number) : Type 0 where
  lives : Lives live l a x before → Phase seen live l a x before
  doubting : Doubts l a x before → Phase seen live l a x before
  done : Commits l a x before → Phase seen live l a x before
  never : Never seen live l a → Phase seen live l a x before
  gone : Has (λ t. t ≡ a) (aborts l) → Phase seen live l a x before

-- the vote of a branch
abbrev pub vote_in : SState → Branch → Prepared
vote_in s b = record { tx = b.tx; floor = (now s).floor; locks = b.locks; changes = normal b.own }

abbrev pub commit_of : ℕ → ℕ → LogItem
commit_of t n = item.Commit (record { 0 = t }) (record { 0 = n })

abbrev pub abort_of : ℕ → LogItem
abort_of t = item.Abort (record { 0 = t })

pub is_last : (p q : Prepared) → IsIn p (q ∷ []) → p ≡ q
is_last p q (inl e) = sym e
is_last p q (inr h) = absurd h

module _ (log : List LogItem) (seen : List ℕ) (s : SState) (a : ℕ) (x : Place) (before : List Number) (k : IsLocked s) (h : IsKept log seen s)
    (w : IsWritten (log ++ s.log)) where
  -- ---- the log with a record more

  pub of_vote : (b : Branch) → doubts ((log ++ s.log) ++ vote_of s b ∷ []) ≡ doubts (log ++ s.log) ++ vote_in s b ∷ []
  of_vote b = doubts-prepare (log ++ s.log) (record { 0 = b.tx }) (record { 0 = (now s).floor }) b.locks (normal b.own)

  pub vote_kind : (b : Branch) (p : Prepared) → IsIn p (doubts ((log ++ s.log) ++ vote_of s b ∷ [])) → IsIn p (doubts (log ++ s.log)) ⊎ (p ≡ vote_in s b)
  vote_kind b p i = by_place (in_append p (doubts (log ++ s.log)) (vote_in s b ∷ []) (subst (IsIn p) (of_vote b) i))
    where
      by_place : IsIn p (doubts (log ++ s.log)) ⊎ IsIn p (vote_in s b ∷ []) → IsIn p (doubts (log ++ s.log)) ⊎ (p ≡ vote_in s b)
      by_place (inl j) = inl j
      by_place (inr j) = inr (is_last p (vote_in s b) j)

  pub vote_writers : (b : Branch) → IsIn b s.live → writers ((log ++ s.log) ++ vote_of s b ∷ []) x ≡ writers (log ++ s.log) x
  vote_writers b i = writers-vote (log ++ s.log) (vote_in s b) (vote_of s b) x refl refl (vote_fits log seen s b i k h) w

  pub floor_is : (now s).floor ≡ floor_of (log ++ s.log)
  floor_is = ap (λ r. r.floor) (now_is log s h.base)

  pub in_now : (p : Prepared) → IsIn p (doubts (log ++ s.log)) → IsIn p (now s).doubts
  in_now p i = subst (λ r. IsIn p r.doubts) (sym (now_is log s h.base)) i

  -- a live branch and one in doubt are of two transactions
  pub split : (b : Branch) (p : Prepared) → IsIn b s.live → IsIn p (doubts (log ++ s.log)) → b.tx ≡ p.tx → ⊥
  split b p i j e = k.split b (as_branch p) i (map_in as_branch p (now s).doubts (in_now p j)) e

  pub doubt_of : (t n : ℕ) → Allowed s (committed t n) → (p : Prepared) × IsIn p (doubts (log ++ s.log)) × (p.tx ≡ t) × (p.floor < n)
  doubt_of t n al =
      let p = found (λ p. (p.tx ≡ t) × (p.floor ≡ al.0)) (now s).doubts al.1 in
      (p.0, subst (λ r. IsIn p.0 r.doubts) (now_is log s h.base) p.1, p.2.0, subst (λ f. f < n) (sym p.2.1) al.2)

  pub touched : (t : ℕ) (p : Prepared) → IsIn p (doubts (log ++ s.log)) → p.tx ≡ t → touches x (ch (log ++ s.log) t) ≡ true → touches x p.changes ≡ true
  touched t p i e u = subst (λ cs. touches x cs ≡ true) (w.changes p i) (subst (λ z. touches x (ch (log ++ s.log) z) ≡ true) (sym e) u)

  -- ---- the reader lives

  pub live_excludes : Lives s.live (log ++ s.log) a x before → (p : Prepared) → IsIn p (doubts (log ++ s.log)) → touches x p.changes ≡ true → ⊥
  live_excludes v p i u =
      readers_exclude s a p.tx x k (record { branch = v.branch; known = inl v.within; of_tx = v.of_tx; covers = v.covers })
      (record { branch = p; known = in_now p i; of_tx = refl; touches_it = u }) (λ e. split v.branch p v.within i (v.of_tx ∙ sym e))

  -- the votes of a live reader
  pub votes : (v : Lives s.live (log ++ s.log) a x before) → Doubts ((log ++ s.log) ++ vote_of s v.branch ∷ []) a x before
  votes v =
      record {
        branch = vote_in s v.branch;
        within = subst (IsIn (vote_in s v.branch)) (sym (of_vote v.branch)) (Has-back (λ z. z ≡ vote_in s v.branch) (doubts (log ++ s.log)) (vote_in s v.branch ∷ []) (inl refl));
        of_tx = v.of_tx;
        covers = v.covers;
        same = vote_writers v.branch v.within ∙ v.same;
        below = λ p i e. below p e (vote_kind v.branch p i);
      }
    where
      numbered : Each (λ c. c.1 ≤ (now s).floor) before
      numbered =
          subst (λ f. Each (λ c. c.1 ≤ f) before) (sym floor_is)
          (subst (Each (λ c. c.1 ≤ floor_of (log ++ s.log))) v.same (Each-filter (λ c. c.1 ≤ floor_of (log ++ s.log)) (λ c. touches x (ch (log ++ s.log) c.0)) (commits (log ++ s.log)) w.numbered))

      below : (p : Prepared) → p.tx ≡ a → IsIn p (doubts (log ++ s.log)) ⊎ (p ≡ vote_in s v.branch) → Each (λ c. c.1 ≤ p.floor) before
      below p e (inl i) = absurd (split v.branch p v.within i (v.of_tx ∙ sym e))
      below p e (inr q) = subst (λ z. Each (λ c. c.1 ≤ z.floor) before) (sym q) numbered

  pub others_vote : (v : Lives s.live (log ++ s.log) a x before) (t : ℕ) (b : Branch) → IsIn b s.live → t ≢ a
      → Lives (without_live t s.live) ((log ++ s.log) ++ vote_of s b ∷ []) a x before
  others_vote v t b i n =
      record {
        branch = v.branch;
        within = in_without_old t v.branch s.live v.within (λ e. n (sym e ∙ v.of_tx));
        of_tx = v.of_tx;
        covers = v.covers;
        same = vote_writers b i ∙ v.same;
      }

  pub live_commit : (v : Lives s.live (log ++ s.log) a x before) (t n : ℕ) → Allowed s (committed t n)
      → Lives s.live ((log ++ s.log) ++ commit_of t n ∷ []) a x before
  live_commit v t n al =
      let d = doubt_of t n al in
      record {
        branch = v.branch;
        within = v.within;
        of_tx = v.of_tx;
        covers = v.covers;
        same = writers-commit (log ++ s.log) t n x (λ u. live_excludes v d.0 d.1 (touched t d.0 d.1 d.2 u)) ∙ v.same;
      }

  pub live_abort : (v : Lives s.live (log ++ s.log) a x before) (t : ℕ) → Lives s.live ((log ++ s.log) ++ abort_of t ∷ []) a x before
  live_abort v t = record { branch = v.branch; within = v.within; of_tx = v.of_tx; covers = v.covers; same = writers-abort (log ++ s.log) t x ∙ v.same }

  pub live_changed : (v : Lives s.live (log ++ s.log) a x before) (t : ℕ) (f : Branch → Branch) → ((b : Branch) → (f b).tx ≡ b.tx)
      → ((b : Branch) → Covers b.locks mode.S x → Covers (f b).locks mode.S x)
      → Lives (changing t f s.live) (log ++ s.log) a x before
  live_changed v t f same grows =
      by_test (v.branch.tx == t)
      (λ q. record {
        branch = f v.branch;
        within = in_changing_new t f v.branch s.live v.within (eqb-true v.branch.tx t q);
        of_tx = same v.branch ∙ v.of_tx;
        covers = grows v.branch v.covers;
        same = v.same;
      })
      (λ n. record { branch = v.branch; within = in_changing_old t f v.branch s.live v.within (eqb-false v.branch.tx t n); of_tx = v.of_tx; covers = v.covers; same = v.same })

  pub its_seen : (v : Lives s.live (log ++ s.log) a x before) → IsIn a seen
  its_seen v = subst (λ t. IsIn t seen) v.of_tx (h.live_seen v.branch v.within)

  pub no_votes : (v : Lives s.live (log ++ s.log) a x before) (p : Prepared) → IsIn p (prepares (log ++ s.log)) → p.tx ≢ a
  no_votes v p i e = h.apart v.branch p v.within i (e ∙ sym v.of_tx)

  -- ---- the reader is in doubt

  pub doubt_excludes : (v : Doubts (log ++ s.log) a x before) (p : Prepared) → IsIn p (doubts (log ++ s.log)) → p.tx ≢ a → touches x p.changes ≡ true → ⊥
  doubt_excludes v p i n u =
      cover v.branch.locks p.locks x (w.closed v.branch v.within) (w.closed p i) (w.agree v.branch p v.within i (λ e. n (sym e ∙ v.of_tx))) v.covers
      (touched_covered p.locks x p.changes u (w.covered p i))

  pub doubt_vote : (v : Doubts (log ++ s.log) a x before) (b : Branch) → IsIn b s.live → Doubts ((log ++ s.log) ++ vote_of s b ∷ []) a x before
  doubt_vote v b i =
      record {
        branch = v.branch;
        within = subst (IsIn v.branch) (sym (of_vote b)) (Has-front (λ z. z ≡ v.branch) (doubts (log ++ s.log)) (vote_in s b ∷ []) v.within);
        of_tx = v.of_tx;
        covers = v.covers;
        same = vote_writers b i ∙ v.same;
        below = λ p j e. below p e (vote_kind b p j);
      }
    where
      below : (p : Prepared) → p.tx ≡ a → IsIn p (doubts (log ++ s.log)) ⊎ (p ≡ vote_in s b) → Each (λ c. c.1 ≤ p.floor) before
      below p e (inl j) = v.below p j e
      below p e (inr q) = absurd (split b v.branch i v.within (sym (ap (λ z. z.tx) q) ∙ e ∙ sym v.of_tx))

  pub left_in : (t : ℕ) (m : LogItem) (v : Doubts (log ++ s.log) a x before) → t ≢ a → doubts ((log ++ s.log) ++ m ∷ []) ≡ without_tx t (doubts (log ++ s.log))
      → writers ((log ++ s.log) ++ m ∷ []) x ≡ writers (log ++ s.log) x → Doubts ((log ++ s.log) ++ m ∷ []) a x before
  left_in t m v n left same =
      record {
        branch = v.branch;
        within = subst (IsIn v.branch) (sym left) (stays t v.branch (doubts (log ++ s.log)) v.within (λ e. n (sym e ∙ v.of_tx)));
        of_tx = v.of_tx;
        covers = v.covers;
        same = same ∙ v.same;
        below = λ p i e. v.below p (in_without_tx' t p (doubts (log ++ s.log)) (subst (IsIn p) left i)).0 e;
      }

  pub doubt_commit : (v : Doubts (log ++ s.log) a x before) (t n : ℕ) → t ≢ a → Allowed s (committed t n) → Doubts ((log ++ s.log) ++ commit_of t n ∷ []) a x before
  doubt_commit v t n apart al =
      let d = doubt_of t n al in
      left_in t (commit_of t n) v apart (doubts-commit (log ++ s.log) (record { 0 = t }) (record { 0 = n }))
      (writers-commit (log ++ s.log) t n x (λ u. doubt_excludes v d.0 d.1 (λ e. apart (sym d.2 ∙ e)) (touched t d.0 d.1 d.2 u)))

  pub doubt_abort : (v : Doubts (log ++ s.log) a x before) (t : ℕ) → t ≢ a → Doubts ((log ++ s.log) ++ abort_of t ∷ []) a x before
  doubt_abort v t apart = left_in t (abort_of t) v apart (doubts-abort (log ++ s.log) (record { 0 = t })) (writers-abort (log ++ s.log) t x)

  -- the writers with a commit more
  pub commit_writers : (t n : ℕ)
      → writers ((log ++ s.log) ++ commit_of t n ∷ []) x ≡ writers (log ++ s.log) x ++ filter (λ c. touches x (ch (log ++ s.log) c.0)) ((t, n) ∷ [])
  commit_writers t n =
      writers-more (log ++ s.log) (commit_of t n) x (Each-in _ (commits (log ++ s.log) ++ (t, n) ∷ []) (λ c i. same_ch (log ++ s.log) (commit_of t n) refl c.0))

  -- the reader's own commit
  pub commits_own : (v : Doubts (log ++ s.log) a x before) (n : ℕ) → Allowed s (committed a n) → Commits ((log ++ s.log) ++ commit_of a n ∷ []) a x before
  commits_own v n al =
      record {
        number = n;
        committed = subst (IsIn (a, n)) (sym (commits-append (log ++ s.log) (commit_of a n ∷ []))) (Has-back (λ c. c ≡ (a, n)) (commits (log ++ s.log)) ((a, n) ∷ []) (inl refl));
        since = filter (λ c. touches x (ch (log ++ s.log) c.0)) ((a, n) ∷ []);
        parts = commit_writers a n ∙ ap (λ z. z ++ filter (λ c. touches x (ch (log ++ s.log) c.0)) ((a, n) ∷ [])) v.same;
        low = Each-of (λ c. c.1 ≤ d.0.floor) (λ c. c.1 < n) before (λ c le. under c.1 d.0.floor le d.3) (v.below d.0 d.1 d.2);
        high = one_filtered {A = ℕ × ℕ} (λ c. n ≤ c.1) (λ c. touches x (ch (log ++ s.log) c.0)) (a, n) (λ u. reflexive n);
        floor = subst (λ f. n ≤ f) (sym (floor-commit (log ++ s.log) (record { 0 = a }) (record { 0 = n }))) (above_max (floor_of (log ++ s.log)) n);
        above = λ p i u. absurd (others p (in_without_tx' a p (doubts (log ++ s.log)) (subst (IsIn p) (doubts-commit (log ++ s.log) (record { 0 = a }) (record { 0 = n })) i)) u);
      }
    where
      d : (p : Prepared) × IsIn p (doubts (log ++ s.log)) × (p.tx ≡ a) × (p.floor < n)
      d = doubt_of a n al

      under : (c f : ℕ) → c ≤ f → f < n → c < n
      under c f le lt = omega arith

      reflexive : (m : ℕ) → m ≤ m
      reflexive m = omega arith

      above_max : (f m : ℕ) → m ≤ max f m
      above_max f m = grind arith

      others : (p : Prepared) → IsIn p (doubts (log ++ s.log)) × (p.tx ≢ a) → touches x p.changes ≡ true → ⊥
      others p i u = doubt_excludes v p i.0 i.1 u

  -- ---- the reader is committed

  pub done_vote : (v : Commits (log ++ s.log) a x before) (b : Branch) → IsIn b s.live → Commits ((log ++ s.log) ++ vote_of s b ∷ []) a x before
  done_vote v b i =
      record {
        number = v.number;
        committed = subst (IsIn (a, v.number)) (sym (commits-append (log ++ s.log) (vote_of s b ∷ []) ∙ append-nil (commits (log ++ s.log)))) v.committed;
        since = v.since;
        parts = vote_writers b i ∙ v.parts;
        low = v.low;
        high = v.high;
        floor = subst (λ f. v.number ≤ f) (sym (floor-prepare (log ++ s.log) (record { 0 = b.tx }) (record { 0 = (now s).floor }) b.locks (normal b.own))) v.floor;
        above = λ p j u. above p u (vote_kind b p j);
      }
    where
      above : (p : Prepared) → touches x p.changes ≡ true → IsIn p (doubts (log ++ s.log)) ⊎ (p ≡ vote_in s b) → v.number ≤ p.floor
      above p u (inl j) = v.above p j u
      above p u (inr q) = subst (λ z. v.number ≤ z.floor) (sym q) (subst (λ f. v.number ≤ f) (sym floor_is) v.floor)

  pub done_commit : (v : Commits (log ++ s.log) a x before) (t n : ℕ) → Allowed s (committed t n) → Commits ((log ++ s.log) ++ commit_of t n ∷ []) a x before
  done_commit v t n al =
      record {
        number = v.number;
        committed = subst (IsIn (a, v.number)) (sym (commits-append (log ++ s.log) (commit_of t n ∷ []))) (Has-front (λ c. c ≡ (a, v.number)) (commits (log ++ s.log)) ((t, n) ∷ []) v.committed);
        since = v.since ++ filter (λ c. touches x (ch (log ++ s.log) c.0)) ((t, n) ∷ []);
        parts = commit_writers t n ∙ ap (λ z. z ++ filter (λ c. touches x (ch (log ++ s.log) c.0)) ((t, n) ∷ [])) v.parts
            ∙ append_assoc before v.since (filter (λ c. touches x (ch (log ++ s.log) c.0)) ((t, n) ∷ []));
        low = v.low;
        high = Each-append (λ c. v.number ≤ c.1) v.since _ v.high (one_filtered {A = ℕ × ℕ} (λ c. v.number ≤ c.1) (λ c. touches x (ch (log ++ s.log) c.0)) (t, n) (λ u. over (v.above d.0 d.1 (touched t d.0 d.1 d.2 u)) d.3));
        floor = subst (λ f. v.number ≤ f) (sym (floor-commit (log ++ s.log) (record { 0 = t }) (record { 0 = n }))) (below_max (floor_of (log ++ s.log)) n v.floor);
        above = λ p i u. v.above p (in_without_tx' t p (doubts (log ++ s.log)) (subst (IsIn p) (doubts-commit (log ++ s.log) (record { 0 = t }) (record { 0 = n })) i)).0 u;
      }
    where
      d : (p : Prepared) × IsIn p (doubts (log ++ s.log)) × (p.tx ≡ t) × (p.floor < n)
      d = doubt_of t n al

      over : v.number ≤ d.0.floor → d.0.floor < n → v.number ≤ n
      over le lt = omega arith

      below_max : (f m : ℕ) → v.number ≤ f → v.number ≤ max f m
      below_max f m le = grind arith

  pub done_abort : (v : Commits (log ++ s.log) a x before) (t : ℕ) → Commits ((log ++ s.log) ++ abort_of t ∷ []) a x before
  done_abort v t =
      record {
        number = v.number;
        committed = subst (IsIn (a, v.number)) (sym (commits-append (log ++ s.log) (abort_of t ∷ []) ∙ append-nil (commits (log ++ s.log)))) v.committed;
        since = v.since;
        parts = writers-abort (log ++ s.log) t x ∙ v.parts;
        low = v.low;
        high = v.high;
        floor = subst (λ f. v.number ≤ f) (sym (floor-abort (log ++ s.log) (record { 0 = t }))) v.floor;
        above = λ p i u. v.above p (in_without_tx' t p (doubts (log ++ s.log)) (subst (IsIn p) (doubts-abort (log ++ s.log) (record { 0 = t })) i)).0 u;
      }
