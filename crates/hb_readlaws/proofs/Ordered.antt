-- A read of a decided transaction answers the rows after all smaller numbers, and its own writes before it.
use Rattle.std.proofs.Common.{◌≡◌, ◌≢◌, ◌⊎◌, ℕ, ◌≤◌, ◌<◌, true, List, [], ◌∷◌, ◌++◌, refl, sym, ap, ◌∙◌, subst, inl, inr, map, append_assoc, arith}
use Rattle.std.specs.Prelude.{filter, nat_lt, None}
use Rattle.std.specs.Ordering.{nat_cmp}
use Rattle.std.proofs.lemmas.Cmp.{nat_cmp_total, on_total}
use Rattle.std.proofs.lemmas.Bool.{lt-ltb, ltb-true}
use Rattle.std.proofs.lemmas.List.{map-append}
use Rattle.hb_types.specs.declared.change.Change.{Change}
use Rattle.hb_types.specs.declared.change.LogItem.{LogItem}
use Rattle.hb_types.specs.declared.change.Stored.{Stored}
use Rattle.hb_types.specs.declared.lock.Mode.TheVariants as mode
use Rattle.hb_types.specs.declared.places.Path.{Path}
use Rattle.hb_types.specs.declared.places.Path.TheVariants as path
use Rattle.hb_types.specs.declared.places.Place.{Place}
use Rattle.hb_types.specs.Lists.{Ascends, Has, IsIn}
use Rattle.hb_types.specs.Places.{is_under}
use Rattle.hb_types.specs.Put.{put_all, lookup, rows_under, touches, last_at}
use Rattle.hb_types.proofs.Ascending.{Each-in, in_Each, Has-front, Has-back, same_members}
use Rattle.hb_types.proofs.PutLaws.{by_test, last_in, lookup-put_all}
use Rattle.hb_types.proofs.SamePlace.{same_place-refl}
use Rattle.hb_laws.specs.RowOrder.{AreAscending}
use Rattle.hb_disks.specs.LogRules.{NumOK}
use Rattle.hb_disks.specs.Redo.{Prepared, Decided, redo, doubts}
use Rattle.hb_disks.specs.Says.{prepares, commits, aborts, ch, writers, held, below}
use Rattle.hb_disks.specs.StandsFor.{AreDecisions}
use Rattle.hb_disks.proofs.Fold.{prepares-append, ch-append}
use Rattle.hb_runs.specs.Server.{SState, now}
use Rattle.hb_runs.specs.ServerAnswers.{Reads}
use Rattle.hb_runs.specs.ServerRuns.{Asked, Run, Turns, stopped_at}
use Rattle.hb_loglaws.proofs.Lookups.{Number, deciders, held_ascends, lists_of, lookup_held, lookup_redo, numbered, put_all_ascends, redo_ascends}
use Rattle.hb_loglaws.proofs.Members.{filter_ascends, filter_in, found, in_append, in_filter, in_map, map_in, map_same}
use Rattle.hb_loglaws.proofs.Saying.{IsOnce, once}
use Rattle.hb_loglaws.proofs.Settling.{by_number_total, commit_decided, decided_kind, deciders_ascend, one_decision}
use Rattle.hb_loglaws.proofs.Writers.{IsWritten, by_number, written as written_log}
use Rattle.hb_loglaws.specs.Saying.{AreApart}
use Rattle.hb_readlaws.proofs.Phases.{Commits, Doubts, Phase, done, doubt_excludes, doubting, gone, lives, never, no_votes}
use Rattle.hb_readlaws.proofs.Reading.{group_same, reads_group, reads_row, reads_space, row_same, space_same}
use Rattle.hb_readlaws.proofs.Stepping.{run_phase}
use Rattle.hb_readlaws.proofs.Under.{under_same}
use Rattle.hb_readlaws.specs.Ordering.{GroupsAreOrdered, RowsAreOrdered, SpacesAreOrdered, group_read, row_read, space_read}
use Rattle.hb_serverlaws.proofs.Covering.{holds_covers}
use Rattle.hb_serverlaws.proofs.Lifting.{once_back, once_front, run_parts, seen_after}
use Rattle.hb_serverlaws.proofs.LogKept.{now_is}
use Rattle.hb_serverlaws.proofs.Running.{and_all, ran_stands, run_stands, Grows, run_grows}
use Rattle.hb_serverlaws.proofs.Standing.{Stands, written_of}
use Rattle.hb_serverlaws.specs.Trails.{EnlistsOnce, Ran, voted_in, writes_of}

-- ---- the decisions of smaller numbers

below_filter : (n : ℕ) (ds : List Decided) → below n ds ≡ filter (λ d. nat_lt d.number n) ds
below_filter n [] = refl
below_filter n (d ∷ ds) = by_test (nat_lt d.number n) (λ t. rw t (ap (λ z. d ∷ z) (below_filter n ds))) (λ f. rw f (below_filter n ds))

below_ascends : (n : ℕ) (ds : List Decided) → Ascends (λ a b. nat_cmp a.number b.number) ds → Ascends (λ a b. nat_cmp a.number b.number) (below n ds)
below_ascends n ds a =
    subst (Ascends (λ a b. nat_cmp a.number b.number)) (sym (below_filter n ds))
    (filter_ascends (λ a b. nat_cmp a.number b.number) (on_total (λ (d : Decided). d.number) nat_cmp_total) (λ d. nat_lt d.number n) ds a)

in_below : (n : ℕ) (ds : List Decided) (d : Decided) → IsIn d (below n ds) → IsIn d ds × (d.number < n)
in_below n ds d i =
    let k = in_filter (λ d. nat_lt d.number n) d ds (subst (IsIn d) (below_filter n ds) i) in (k.0, ltb-true d.number n k.1)

below_in : (n : ℕ) (ds : List Decided) (d : Decided) → IsIn d ds → d.number < n → IsIn d (below n ds)
below_in n ds d i lt = subst (IsIn d) (sym (below_filter n ds)) (filter_in (λ d. nat_lt d.number n) d ds i (lt-ltb d.number n lt))

-- ---- at the end of the run, whatever the phase

module _ (log : List LogItem) (seen : List ℕ) (own : ℕ → List Change) (s : SState) (ds : List Decided) (a n : ℕ) (x : Place) (before : List Number)
    (k : Stands log seen own s)
    (num : NumOK (log ++ s.log) ds) (are : AreDecisions ds) (its : Has (λ d. (d.tx ≡ a) × (d.number ≡ n)) ds) (voted : Has (λ p. p.tx ≡ a) (prepares (log ++ s.log))) where
  l : List LogItem
  l = log ++ s.log

  w : IsWritten (log ++ s.log)
  w = written_of log seen own s k

  o : IsOnce (log ++ s.log)
  o = once (log ++ s.log) k.kept.ok

  mine : (d : Decided) × IsIn d ds × (d.tx ≡ a) × (d.number ≡ n)
  mine = let d = found (λ d. (d.tx ≡ a) × (d.number ≡ n)) ds its in (d.0, d.1, d.2.0, d.2.1)

  -- a decision of the reader has its number
  its_number : (d : Decided) → IsIn d ds → d.tx ≡ a → d.number ≡ n
  its_number d i e = ap (λ z. z.number) (one_decision ds d mine.0 are.once i mine.1 (e ∙ sym mine.2)) ∙ mine.3

  floor_below : (d : Decided) → IsIn d ds → (p : Prepared) → IsIn p (prepares (log ++ s.log)) → p.tx ≡ d.tx → p.floor < d.number
  floor_below d i p j e = in_Each (λ q. q.tx ≡ d.tx → q.floor < d.number) p (prepares (log ++ s.log)) j (in_Each _ d ds i num.above) e

  -- who wrote before the read is among the decisions of smaller numbers
  forth : (z : Number) → IsIn z (writers (log ++ s.log) x) → z.1 < n → IsIn z (deciders (log ++ s.log) x (below n ds))
  forth z i lt =
      let c = in_filter (λ c. touches x (ch (log ++ s.log) c.0)) z (commits (log ++ s.log)) i in
      let d = in_map (λ d. (d.tx, d.number)) z ds (commit_decided (log ++ s.log) ds z num c.0) in
      let low : d.0.number < n = subst (λ m. m < n) (sym (ap (λ q. q.1) d.2)) lt in
      filter_in (λ c. touches x (ch (log ++ s.log) c.0)) z (numbered (below n ds))
      (subst (λ q. IsIn q (numbered (below n ds))) d.2 (map_in (λ d. (d.tx, d.number)) d.0 (below n ds) (below_in n ds d.0 d.1 low))) c.1

  -- a decision of a smaller number with a change at the place
  record Smaller (z : Number) : Type 0 where
    decision : Decided
    within : IsIn decision ds
    is : (decision.tx, decision.number) ≡ z
    low : decision.number < n
    touched : touches x (ch (log ++ s.log) decision.tx) ≡ true

  smaller : (z : Number) → IsIn z (deciders (log ++ s.log) x (below n ds)) → Smaller z
  smaller z i =
      let c = in_filter (λ c. touches x (ch (log ++ s.log) c.0)) z (numbered (below n ds)) i in
      let d = in_map (λ d. (d.tx, d.number)) z (below n ds) c.0 in
      let b = in_below n ds d.0 d.1 in
      record { decision = d.0; within = b.0; is = d.2; low = b.1; touched = subst (λ q. touches x (ch (log ++ s.log) q.0) ≡ true) (sym d.2) c.1 }

  -- it is among the writers, unless its branch is in doubt
  back : (z : Number) → (d : Smaller z) → ((p : Prepared) → IsIn p (doubts (log ++ s.log)) → p.tx ≡ d.decision.tx → touches x p.changes ≡ true → ⊥)
      → IsIn z (writers (log ++ s.log) x)
  back z d none = by_kind (decided_kind (log ++ s.log) ds d.decision x o num are.once d.within d.touched)
    where
      by_kind : IsIn (d.decision.tx, d.decision.number) (commits (log ++ s.log)) ⊎ ((p : Prepared) × IsIn p (doubts (log ++ s.log)) × (p.tx ≡ d.decision.tx))
          → IsIn z (writers (log ++ s.log) x)
      by_kind (inl i) = subst (λ q. IsIn q (writers (log ++ s.log) x)) d.is (filter_in (λ c. touches x (ch (log ++ s.log) c.0)) _ (commits (log ++ s.log)) i d.touched)
      by_kind (inr p) =
          absurd (none p.0 p.1 p.2 (subst (λ cs. touches x cs ≡ true) (w.changes p.0 p.1) (subst (λ t. touches x (ch (log ++ s.log) t) ≡ true) (sym p.2) d.touched)))

  ascending : Ascends by_number (deciders (log ++ s.log) x (below n ds))
  ascending = deciders_ascend (log ++ s.log) x (below n ds) (below_ascends n ds are.ascend)

  while_doubting : Ascends by_number before → Doubts (log ++ s.log) a x before → before ≡ deciders (log ++ s.log) x (below n ds)
  while_doubting up v = same_members by_number by_number_total before (deciders (log ++ s.log) x (below n ds)) up ascending to from
    where
      to : (z : Number) → IsIn z before → IsIn z (deciders (log ++ s.log) x (below n ds))
      to z i = forth z (subst (IsIn z) (sym v.same) i) (lower (in_Each _ z before i (v.below v.branch v.within v.of_tx)))
        where
          limit : v.branch.floor < n
          limit = subst (λ m. v.branch.floor < m) mine.3 (floor_below mine.0 mine.1 v.branch (in_Each _ v.branch (doubts (log ++ s.log)) v.within o.within) (v.of_tx ∙ sym mine.2))

          lower : z.1 ≤ v.branch.floor → z.1 < n
          lower le = omega (arith, le, limit)

      from : (z : Number) → IsIn z (deciders (log ++ s.log) x (below n ds)) → IsIn z before
      from z i = subst (IsIn z) v.same (back z d none)
        where
          d : Smaller z
          d = smaller z i

          none : (p : Prepared) → IsIn p (doubts (log ++ s.log)) → p.tx ≡ d.decision.tx → touches x p.changes ≡ true → ⊥
          none p j e u = doubt_excludes log seen s a x before k.locked k.kept w v p j (λ q. not_itself (its_number d.decision d.within (sym e ∙ q)) d.low) u
            where
              not_itself : d.decision.number ≡ n → d.decision.number < n → ⊥
              not_itself e lt = omega (arith, e, lt)

  when_done : Ascends by_number before → Commits (log ++ s.log) a x before → before ≡ deciders (log ++ s.log) x (below n ds)
  when_done up v = same_members by_number by_number_total before (deciders (log ++ s.log) x (below n ds)) up ascending to from
    where
      is_n : v.number ≡ n
      is_n =
          let d = in_map (λ d. (d.tx, d.number)) (a, v.number) ds (commit_decided (log ++ s.log) ds (a, v.number) num v.committed) in
          sym (ap (λ q. q.1) d.2) ∙ its_number d.0 d.1 (ap (λ q. q.0) d.2)

      to : (z : Number) → IsIn z before → IsIn z (deciders (log ++ s.log) x (below n ds))
      to z i =
          forth z (subst (IsIn z) (sym v.parts) (Has-front (λ c. c ≡ z) before v.since i)) (subst (λ m. z.1 < m) is_n (in_Each (λ c. c.1 < v.number) z before i v.low))

      from : (z : Number) → IsIn z (deciders (log ++ s.log) x (below n ds)) → IsIn z before
      from z i = by_place (in_append z before v.since (subst (IsIn z) v.parts (back z d none)))
        where
          d : Smaller z
          d = smaller z i

          none : (p : Prepared) → IsIn p (doubts (log ++ s.log)) → p.tx ≡ d.decision.tx → touches x p.changes ≡ true → ⊥
          none p j e u =
              too_low (v.above p j u) (floor_below d.decision d.within p (in_Each _ p (doubts (log ++ s.log)) j o.within) e) d.low is_n
            where
              too_low : v.number ≤ p.floor → p.floor < d.decision.number → d.decision.number < n → v.number ≡ n → ⊥
              too_low le lt low e = omega (arith, le, lt, low, e)

          by_place : IsIn z before ⊎ IsIn z v.since → IsIn z before
          by_place (inl j) = j
          by_place (inr j) = absurd (too_high (in_Each (λ c. v.number ≤ c.1) z v.since j v.high) d.low (ap (λ q. q.1) d.is) is_n)
            where
              too_high : v.number ≤ z.1 → d.decision.number < n → d.decision.number ≡ z.1 → v.number ≡ n → ⊥
              too_high le lt e f = omega (arith, le, lt, e, f)

  vote : (p : Prepared) × IsIn p (prepares (log ++ s.log)) × (p.tx ≡ a)
  vote = found (λ p. p.tx ≡ a) (prepares (log ++ s.log)) voted

  pub at_the_end : Ascends by_number before → Phase seen s.live (log ++ s.log) a x before → before ≡ deciders (log ++ s.log) x (below n ds)
  at_the_end up (lives v) = absurd (no_votes log seen s a x before k.locked k.kept w v vote.0 vote.1 vote.2)
  at_the_end up (doubting v) = while_doubting up v
  at_the_end up (done v) = when_done up v
  at_the_end up (never v) = absurd (v.none vote.0 vote.1 vote.2)
  at_the_end up (gone g) =
      let t = found (λ t. t ≡ a) (aborts (log ++ s.log)) g in absurd (in_Each (λ (d : Decided). d.tx ≢ t.0) mine.0 ds mine.1 (in_Each _ t.0 (aborts (log ++ s.log)) t.1 num.aborted) (mine.2 ∙ sym t.2))

-- ---- changes of those that voted before

apart_parts : (xs ys : List ℕ) (x y : ℕ) → AreApart (xs ++ ys) → IsIn x xs → IsIn y ys → y ≢ x
apart_parts [] ys x y a i j = absurd i
apart_parts (z ∷ zs) ys x y a (inl e) j = λ q. in_Each (λ v. v ≢ z) y (zs ++ ys) (Has-back (λ v. v ≡ y) zs ys j) a.0 (q ∙ sym e)
apart_parts (z ∷ zs) ys x y a (inr i) j = apart_parts zs ys x y a.1 i j

pub same_changes : (l m : List LogItem) (t : ℕ) → IsOnce (l ++ m) → Has (λ p. p.tx ≡ t) (prepares l) → ch (l ++ m) t ≡ ch l t
same_changes l m t o h = ch-append l m t (Each-in (λ q. q.tx ≢ t) (prepares m) (λ q j e. apart q j e))
  where
    p : (p : Prepared) × IsIn p (prepares l) × (p.tx ≡ t)
    p = found (λ p. p.tx ≡ t) (prepares l) h

    txs : AreApart (map (λ q. q.tx) (prepares l) ++ map (λ q. q.tx) (prepares m))
    txs = subst AreApart (ap (map (λ q. q.tx)) (prepares-append l m) ∙ map-append (λ q. q.tx) (prepares l) (prepares m)) o.voted_once

    apart : (q : Prepared) → IsIn q (prepares m) → q.tx ≡ t → ⊥
    apart q j e =
        apart_parts (map (λ q. q.tx) (prepares l)) (map (λ q. q.tx) (prepares m)) p.0.tx q.tx txs (map_in (λ q. q.tx) p.0 (prepares l) p.1) (map_in (λ q. q.tx) q (prepares m) j) (e ∙ sym p.2)

writers_lists : (l m : List LogItem) (x : Place) → IsWritten l → IsOnce (l ++ m) → lists_of l (writers l x) ≡ lists_of (l ++ m) (writers l x)
writers_lists l m x w o =
    map_same (λ c. ch l c.0) (λ c. ch (l ++ m) c.0) (writers l x)
    (Each-in _ (writers l x) (λ c i. sym (same_changes l m c.0 o (w.committed c (in_filter (λ c. touches x (ch l c.0)) c (commits l) i).0))))

-- ---- a read, with the run before and behind it

record Read (log : List LogItem) (place : ℕ) (front back : List Asked) (s : SState) (tx : ℕ) (p : Path) (Shows : List Stored → Type 0) : Type 0 where
  state : SState
  before : Ran log place front state
  behind : Run state back s
  once_behind : EnlistsOnce (seen_after (voted_in log) front) back
  reads : Reads state tx p Shows

module _ (log : List LogItem) (place : ℕ) (front back : List Asked) (s : SState) (tx n : ℕ) (p : Path) (Shows : List Stored → Type 0)
    (r : Read log place front back s tx p Shows)
    (ds : List Decided) (num : NumOK (log ++ s.log) ds) (are : AreDecisions ds) (its : Has (λ d. (d.tx ≡ tx) × (d.number ≡ n)) ds) (voted : Has (λ q. q.tx ≡ tx) (prepares (log ++ s.log))) where
  s1 : SState
  s1 = r.state

  stood : Stands log (seen_after (voted_in log) front) (λ t. writes_of t front) r.state
  stood = ran_stands log place front r.state r.before

  ends : Stands log (seen_after (seen_after (voted_in log) front) back) (and_all (λ t. writes_of t front) back) s
  ends = run_stands log (seen_after (voted_in log) front) (λ t. writes_of t front) r.state back s r.behind r.once_behind stood

  phase : (x : Place) → is_under p x ≡ true → Phase (seen_after (seen_after (voted_in log) front) back) s.live (log ++ s.log) tx x (writers (log ++ r.state.log) x)
  phase x u =
      run_phase log (seen_after (voted_in log) front) (λ t. writes_of t front) r.state back s tx x (writers (log ++ r.state.log) x) r.behind r.once_behind stood
      (lives (record { branch = r.reads.branch; within = r.reads.live.0; of_tx = r.reads.live.1; covers = holds_covers r.reads.branch mode.S p x r.reads.covered u; same = refl }))

  then_written : IsWritten (log ++ r.state.log)
  then_written = written_log (log ++ r.state.log) stood.kept.ok

  same_writers : (x : Place) → is_under p x ≡ true → writers (log ++ r.state.log) x ≡ deciders (log ++ s.log) x (below n ds)
  same_writers x u =
      at_the_end log (seen_after (seen_after (voted_in log) front) back) (and_all (λ t. writes_of t front) back) s ds tx n x (writers (log ++ r.state.log) x) ends num are its voted (then_written.ascend x) (phase x u)

  g : Grows r.state s
  g = run_grows r.state back s r.behind

  longer : log ++ s.log ≡ (log ++ r.state.log) ++ g.more
  longer = ap (λ z. log ++ z) g.is ∙ sym (append_assoc log r.state.log g.more)

  lists : (x : Place) → lists_of (log ++ r.state.log) (writers (log ++ r.state.log) x) ≡ lists_of (log ++ s.log) (writers (log ++ r.state.log) x)
  lists x =
      writers_lists (log ++ r.state.log) g.more x then_written (subst IsOnce longer (once (log ++ s.log) ends.kept.ok))
      ∙ ap (λ m. lists_of m (writers (log ++ r.state.log) x)) (sym longer)

  rows_then : (now r.state).rows ≡ (redo (log ++ r.state.log)).rows
  rows_then = ap (λ z. z.rows) (now_is log r.state stood.kept.base)

  -- what stood at a place is what the smaller numbers leave there
  place_then : (x : Place) → is_under p x ≡ true → lookup x (now r.state).rows ≡ lookup x (held (log ++ s.log) (below n ds))
  place_then x u =
      ap (lookup x) rows_then ∙ lookup_redo x (log ++ r.state.log) stood.kept.ok ∙ ap (λ css. last_in x css None) (lists x)
      ∙ ap (λ cs. last_in x (lists_of (log ++ s.log) cs) None) (same_writers x u) ∙ sym (lookup_held x (log ++ s.log) (below n ds))

  own_is : r.reads.branch.own ≡ writes_of tx front
  own_is = stood.own_writes r.reads.branch r.reads.live.0 ∙ ap (λ t. writes_of t front) r.reads.live.1

  seen_then : (x : Place) → is_under p x ≡ true
      → lookup x (put_all (now r.state).rows r.reads.branch.own) ≡ lookup x (put_all (held (log ++ s.log) (below n ds)) (writes_of tx front))
  seen_then x u =
      lookup-put_all x (now r.state).rows r.reads.branch.own ∙ ap (λ z. last_at x r.reads.branch.own z) (place_then x u)
      ∙ ap (λ cs. last_at x cs (lookup x (held (log ++ s.log) (below n ds)))) own_is ∙ sym (lookup-put_all x (held (log ++ s.log) (below n ds)) (writes_of tx front))

  under_then : rows_under p (put_all (now r.state).rows r.reads.branch.own) ≡ rows_under p (put_all (held (log ++ s.log) (below n ds)) (writes_of tx front))
  under_then =
      under_same p _ _
      (put_all_ascends (now r.state).rows r.reads.branch.own (subst AreAscending (sym rows_then) (redo_ascends (log ++ r.state.log) stood.kept.ok)))
      (put_all_ascends (held (log ++ s.log) (below n ds)) (writes_of tx front) (held_ascends (log ++ s.log) (below n ds)))
      seen_then

-- ---- each kind of read

parted : (log : List LogItem) (place : ℕ) (front back : List Asked) (read : Asked) (s : SState) (tx : ℕ) (p : Path) (Shows : List Stored → Type 0)
    → Ran log place (front ++ read ∷ back) s
    → ((u t : SState) → Turns u read t → (u ≡ t) × Reads u tx p Shows) → EnlistsOnce (seen_after (voted_in log) front) back → Read log place front back s tx p Shows
parted log place front back read s tx p Shows ran turn once_behind =
    record {
      state = parts.0;
      before = record { is_right = ran.is_right; run = parts.1; once = once_front (voted_in log) front (read ∷ back) ran.once };
      behind = subst (λ z. Run z back s) (sym (turn parts.0 parts.2.0 parts.2.1).0) parts.2.2;
      once_behind = once_behind;
      reads = (turn parts.0 parts.2.0 parts.2.1).1;
    }
  where
    parts : (u : SState) × Run (stopped_at (redo log) place) front u × Run u (read ∷ back) s
    parts = run_parts (stopped_at (redo log) place) front (read ∷ back) s ran.run

pub rows_are_ordered : RowsAreOrdered
rows_are_ordered log place front back s ds tx n x row o = r.reads.shows ∙ seen_then log place front back s tx n (path.Key x) _ r ds o.numbers o.decisions o.is_decided o.voted x (same_place-refl x)
  where
    r : Read log place front back s tx (path.Key x) (λ rows. row ≡ lookup x rows)
    r =
        parted log place front back (row_read tx x row) s tx (path.Key x) (λ rows. row ≡ lookup x rows) o.ran (λ u t turn. (row_same u tx x row t turn, reads_row u.up u tx x row turn.right))
        (once_back (voted_in log) front (row_read tx x row ∷ back) o.ran.once).1

pub spaces_are_ordered : SpacesAreOrdered
spaces_are_ordered log place front back s ds tx n space rows o = r.reads.shows ∙ under_then log place front back s tx n (path.Whole space) _ r ds o.numbers o.decisions o.is_decided o.voted
  where
    r : Read log place front back s tx (path.Whole space) (λ all. rows ≡ rows_under (path.Whole space) all)
    r =
        parted log place front back (space_read tx space rows) s tx (path.Whole space) (λ all. rows ≡ rows_under (path.Whole space) all) o.ran
        (λ u t turn. (space_same u tx space rows t turn, reads_space u.up u tx space rows turn.right))
        (once_back (voted_in log) front (space_read tx space rows ∷ back) o.ran.once).1

pub groups_are_ordered : GroupsAreOrdered
groups_are_ordered log place front back s ds tx n space group rows o = r.reads.shows ∙ under_then log place front back s tx n (path.Group space group) _ r ds o.numbers o.decisions o.is_decided o.voted
  where
    r : Read log place front back s tx (path.Group space group) (λ all. rows ≡ rows_under (path.Group space group) all)
    r =
        parted log place front back (group_read tx space group rows) s tx (path.Group space group) (λ all. rows ≡ rows_under (path.Group space group) all) o.ran
        (λ u t turn. (group_same u tx space group rows t turn, reads_group u.up u tx space group rows turn.right))
        (once_back (voted_in log) front (group_read tx space group rows ∷ back) o.ran.once).1
