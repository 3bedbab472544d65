-- What the last who committed put stood after the decisions of the base, or after some more of them.
use Rattle.std.proofs.Common.{◌≡◌, ◌≢◌, ◌⊎◌, ◌<◌, ℕ, true, false, List, [], ◌∷◌, ◌++◌, Some, refl, sym, ap, ◌∙◌, subst, inl, inr, append_assoc, append-nil}
use Rattle.std.specs.Prelude.{None, Option}
use Rattle.std.specs.Ordering.{nat_cmp}
use Rattle.std.specs.declared.cmp.Ordering.TheVariants.{Less}
use Rattle.std.proofs.lemmas.Bool.{false≢true}
use Rattle.hb_types.specs.declared.change.LogItem.{LogItem}
use Rattle.hb_types.specs.declared.places.Place.{Place}
use Rattle.hb_types.specs.Lists.{Ascends, Each, Has, IsIn}
use Rattle.hb_types.specs.Put.{last_at, lookup, touches}
use Rattle.hb_types.proofs.Ascending.{Ascends-first, Ascends-tail, Each-front, Each-of, Has-back, Has-front, asymmetric, in_Each, irreflexive}
use Rattle.hb_types.proofs.PutLaws.{last_at-touched, last_in, lookup-put_all}
use Rattle.hb_disks.specs.LogRules.{LogOK, NumOK}
use Rattle.hb_disks.specs.Redo.{Decided, Prepared, doubts}
use Rattle.hb_disks.specs.Says.{aborts, ch, commits, held, prepares}
use Rattle.hb_disks.specs.StandsFor.{AreDecisions, HasPrepared}
use Rattle.hb_disks.proofs.Fold.{aborts-append, commits-append, held_from-append, prepares-append}
use Rattle.hb_loglaws.proofs.Lookups.{Number, deciders, lists_of, lookup_held, numbered}
use Rattle.hb_loglaws.proofs.Members.{filter_in, in_append, in_filter, in_map, map_in}
use Rattle.hb_loglaws.proofs.Saying.{IsOnce, once}
use Rattle.hb_loglaws.proofs.Settling.{by_number_total, commit_decided, decided_kind, deciders_ascend, has_vote}
use Rattle.hb_loglaws.proofs.Writers.{IsWritten, by_number, written}
use Rattle.hb_readlaws.proofs.Ordered.{same_changes}
use Rattle.hb_readlaws.specs.Ordering.{IsOfLastWriter}
use Rattle.hb_readlaws.specs.Stood.{LastWritersStood, StoodOnce}
use Rattle.hb_serverlaws.proofs.LogKept.{now_is}
use Rattle.hb_serverlaws.proofs.Running.{ran_stands, run_grows}

-- ---- lists

split_at : (d : Decided) (ds : List Decided) → IsIn d ds → (f : List Decided) × (r : List Decided) × (ds ≡ f ++ d ∷ r)
split_at d [] i = absurd i
split_at d (e ∷ es) (inl q) = ([], es, ap (λ z. z ∷ es) q)
split_at d (e ∷ es) (inr i) = let k = split_at d es i in (e ∷ k.0, k.1, ap (λ l. e ∷ l) k.2)

ascends_front : (xs ys : List Decided) → Ascends (λ a b. nat_cmp a.number b.number) (xs ++ ys) → Ascends (λ a b. nat_cmp a.number b.number) xs
ascends_front [] ys a = tt
ascends_front (x ∷ []) ys a = tt
ascends_front (x ∷ z ∷ zs) ys a = (a.0, ascends_front (z ∷ zs) ys a.1)

before_last : (z w : Number) (xs : List Number) → Ascends by_number (xs ++ w ∷ []) → IsIn z xs → by_number z w ≡ Less
before_last z w [] a i = absurd i
before_last z w (x ∷ xs) a (inl e) =
    subst (λ y. by_number y w ≡ Less) e
    (in_Each (λ y. by_number x y ≡ Less) w (xs ++ w ∷ []) (Has-back (λ y. y ≡ w) xs (w ∷ []) (inl refl))
    (Ascends-first by_number by_number_total x (xs ++ w ∷ []) a))
before_last z w (x ∷ xs) a (inr i) = before_last z w xs (Ascends-tail by_number by_number_total x (xs ++ w ∷ []) a) i

-- of ascending numbers the one that none passes is the last
is_last : (w : Number) (xs : List Number) → Ascends by_number xs → IsIn w xs → ((z : Number) → IsIn z xs → (by_number z w ≡ Less) ⊎ (z ≡ w))
    → (f : List Number) × (xs ≡ f ++ w ∷ [])
is_last w [] a i all = absurd i
is_last w (x ∷ xs) a (inr i) all =
    let k = is_last w xs (Ascends-tail by_number by_number_total x xs a) i (λ z j. all z (inr j)) in (x ∷ k.0, ap (λ l. x ∷ l) k.1)
is_last w (x ∷ []) a (inl e) all = ([], ap (λ z. z ∷ []) e)
is_last w (x ∷ y ∷ ys) a (inl e) all = absurd (by (all y (inr (inl refl))))
  where
    first : by_number w y ≡ Less
    first = subst (λ z. by_number z y ≡ Less) e a.0

    by : (by_number y w ≡ Less) ⊎ (y ≡ w) → ⊥
    by (inl l) = asymmetric by_number by_number_total w y first l
    by (inr q) = irreflexive by_number by_number_total w (subst (λ z. by_number w z ≡ Less) q first)

last_put : (x : Place) (row : List ℕ) (l : List LogItem) (f : List Number) (w : Number) (old : Option (List ℕ))
    → ((o : Option (List ℕ)) → last_at x (ch l w.0) o ≡ Some row) → last_in x (lists_of l (f ++ w ∷ [])) old ≡ Some row
last_put x row l [] w old h = h old
last_put x row l (c ∷ cs) w old h = last_put x row l cs w (last_at x (ch l c.0) old) h

numbers_then : (l m : List LogItem) (ds : List Decided) → NumOK (l ++ m) ds → NumOK l ds
numbers_then l m ds k =
    record {
      committed = Each-front (λ c. Has (λ d. (d.tx ≡ c.0) × (d.number ≡ c.1)) ds) (commits l) (commits m)
          (subst (Each (λ c. Has (λ d. (d.tx ≡ c.0) × (d.number ≡ c.1)) ds)) (commits-append l m) k.committed);
      aborted = Each-front (λ t. Each (λ d. d.tx ≢ t) ds) (aborts l) (aborts m) (subst (Each (λ t. Each (λ d. d.tx ≢ t) ds)) (aborts-append l m) k.aborted);
      above =
          Each-of (λ d. Each (λ p. p.tx ≡ d.tx → p.floor < d.number) (prepares (l ++ m))) (λ d. Each (λ p. p.tx ≡ d.tx → p.floor < d.number) (prepares l)) ds
          (λ d h. Each-front (λ p. p.tx ≡ d.tx → p.floor < d.number) (prepares l) (prepares m)
          (subst (Each (λ p. p.tx ≡ d.tx → p.floor < d.number)) (prepares-append l m) h)) k.above;
    }

-- ---- the log then, and what came behind

module _ (l m : List LogItem) (ds0 further : List Decided) (tx : ℕ) (x : Place) (row : List ℕ)
    (ok : LogOK [] l) (ok_all : LogOK [] (l ++ m)) (num : NumOK (l ++ m) (ds0 ++ further)) (are : AreDecisions (ds0 ++ further))
    (others : Each (λ d. d.tx ≢ tx) ds0) (voted : Each (λ d. HasPrepared (l ++ m) d → HasPrepared l d) ds0) (lw : IsOfLastWriter l x row)
    (free : Each (λ p. p.tx ≢ tx → touches x p.changes ≡ false) (doubts l)) where
  wr : IsWritten l
  wr = written l ok

  one : IsOnce (l ++ m)
  one = once (l ++ m) ok_all

  num_then : NumOK l (ds0 ++ further)
  num_then = numbers_then l m (ds0 ++ further) num

  its : IsIn lw.writer (commits l) × (touches x (ch l lw.writer.0) ≡ true)
  its =
      in_filter (λ c. touches x (ch l c.0)) lw.writer (commits l)
      (subst (IsIn lw.writer) (sym lw.last) (Has-back (λ c. c ≡ lw.writer) lw.front (lw.writer ∷ []) (inl refl)))

  same : ch (l ++ m) lw.writer.0 ≡ ch l lw.writer.0
  same = same_changes l m lw.writer.0 one (wr.committed lw.writer its.0)

  puts : (old : Option (List ℕ)) → last_at x (ch (l ++ m) lw.writer.0) old ≡ Some row
  puts old = ap (λ cs. last_at x cs old) same ∙ last_at-touched x (ch l lw.writer.0) old None its.1 ∙ lw.puts

  its_decision : (d : Decided) × IsIn d (ds0 ++ further) × ((d.tx, d.number) ≡ lw.writer)
  its_decision = in_map (λ d. (d.tx, d.number)) lw.writer (ds0 ++ further) (commit_decided l (ds0 ++ further) lw.writer num_then its.0)

  -- a decision since the base: the row stood behind it
  behind : (d : Decided) → (d.tx, d.number) ≡ lw.writer → IsIn d further → StoodOnce (l ++ m) ds0 (ds0 ++ further) x row
  behind d e i =
      let k = split_at d further i in
      record {
        more = k.0 ++ d ∷ [];
        rest = k.1;
        parts = ap (λ z. ds0 ++ z) (k.2 ∙ sym (append_assoc k.0 (d ∷ []) k.1)) ∙ sym (append_assoc ds0 (k.0 ++ d ∷ []) k.1);
        stood =
            ap (λ ds. lookup x (held (l ++ m) ds)) (sym (append_assoc ds0 k.0 (d ∷ []))) ∙ ap (lookup x) (held_from-append [] (l ++ m) (ds0 ++ k.0) (d ∷ []))
            ∙ lookup-put_all x (held (l ++ m) (ds0 ++ k.0)) (ch (l ++ m) d.tx)
            ∙ ap (λ t. last_at x (ch (l ++ m) t) (lookup x (held (l ++ m) (ds0 ++ k.0)))) (ap (λ q. q.0) e)
            ∙ puts (lookup x (held (l ++ m) (ds0 ++ k.0)));
      }

  -- a decision of the base with a change there had voted then, and was committed before the last writer, or is it
  no_later : (d : Decided) → IsIn d ds0 → touches x (ch (l ++ m) d.tx) ≡ true → (by_number (d.tx, d.number) lw.writer ≡ Less) ⊎ ((d.tx, d.number) ≡ lw.writer)
  no_later d i t = by (decided_kind l (ds0 ++ further) d x (once l ok) num_then are.once (Has-front (λ e. e ≡ d) ds0 further i) then_touched)
    where
      then_touched : touches x (ch l d.tx) ≡ true
      then_touched =
          subst (λ cs. touches x cs ≡ true)
          (same_changes l m d.tx one (in_Each (λ d. HasPrepared (l ++ m) d → HasPrepared l d) d ds0 i voted (has_vote x (l ++ m) d.tx t))) t

      of_writer : IsIn (d.tx, d.number) lw.front ⊎ IsIn (d.tx, d.number) (lw.writer ∷ [])
          → (by_number (d.tx, d.number) lw.writer ≡ Less) ⊎ ((d.tx, d.number) ≡ lw.writer)
      of_writer (inl j) = inl (before_last (d.tx, d.number) lw.writer lw.front (subst (Ascends by_number) lw.last (wr.ascend x)) j)
      of_writer (inr (inl e)) = inr (sym e)
      of_writer (inr (inr n)) = absurd n

      by : IsIn (d.tx, d.number) (commits l) ⊎ ((p : Prepared) × IsIn p (doubts l) × (p.tx ≡ d.tx))
          → (by_number (d.tx, d.number) lw.writer ≡ Less) ⊎ ((d.tx, d.number) ≡ lw.writer)
      by (inl c) =
          of_writer (in_append (d.tx, d.number) lw.front (lw.writer ∷ [])
          (subst (IsIn (d.tx, d.number)) lw.last (filter_in (λ c. touches x (ch l c.0)) (d.tx, d.number) (commits l) c then_touched)))
      by (inr p) =
          let none = in_Each (λ p. p.tx ≢ tx → touches x p.changes ≡ false) p.0 (doubts l) p.1 free
          (λ e. in_Each (λ d. d.tx ≢ tx) d ds0 i others (sym p.2 ∙ e)) in
          absurd (false≢true (sym none ∙ subst (λ cs. touches x cs ≡ true) (wr.changes p.0 p.1)
          (subst (λ t. touches x (ch l t) ≡ true) (sym p.2) then_touched)))

  -- a decision of the base: the row stood behind all of them
  within : (d : Decided) → (d.tx, d.number) ≡ lw.writer → IsIn d ds0 → StoodOnce (l ++ m) ds0 (ds0 ++ further) x row
  within d e i =
      let last = is_last lw.writer (deciders (l ++ m) x ds0) (deciders_ascend (l ++ m) x ds0 (ascends_front ds0 further are.ascend)) here all in
      record {
        more = [];
        rest = further;
        parts = ap (λ z. z ++ further) (sym (append-nil ds0));
        stood =
            ap (λ ds. lookup x (held (l ++ m) ds)) (append-nil ds0) ∙ lookup_held x (l ++ m) ds0 ∙ ap (λ cs. last_in x (lists_of (l ++ m) cs) None) last.1
            ∙ last_put x row (l ++ m) last.0 lw.writer None puts;
      }
    where
      here : IsIn lw.writer (deciders (l ++ m) x ds0)
      here =
          filter_in (λ c. touches x (ch (l ++ m) c.0)) lw.writer (numbered ds0) (subst (λ q. IsIn q (numbered ds0)) e (map_in (λ d. (d.tx, d.number)) d ds0 i))
          (ap (touches x) same ∙ its.1)

      all : (z : Number) → IsIn z (deciders (l ++ m) x ds0) → (by_number z lw.writer ≡ Less) ⊎ (z ≡ lw.writer)
      all z j =
          let c = in_filter (λ c. touches x (ch (l ++ m) c.0)) z (numbered ds0) j in
          let d = in_map (λ d. (d.tx, d.number)) z ds0 c.0 in
          subst (λ q. (by_number q lw.writer ≡ Less) ⊎ (q ≡ lw.writer)) d.2 (no_later d.0 d.1 (subst (λ q. touches x (ch (l ++ m) q.0) ≡ true) (sym d.2) c.1))

  stood_once : StoodOnce (l ++ m) ds0 (ds0 ++ further) x row
  stood_once = by (in_append its_decision.0 ds0 further its_decision.1)
    where
      by : IsIn its_decision.0 ds0 ⊎ IsIn its_decision.0 further → StoodOnce (l ++ m) ds0 (ds0 ++ further) x row
      by (inl i) = within its_decision.0 its_decision.2 i
      by (inr i) = behind its_decision.0 its_decision.2 i

pub last_writers_stood : LastWritersStood
last_writers_stood log place front back s t ds0 further tx x row ran since behind num are others voted lw free =
    let k = ran_stands log place front s since in
    let n = ran_stands log place (front ++ back) t ran in
    let g = run_grows s back t behind in
    let longer : log ++ t.log ≡ (log ++ s.log) ++ g.more = ap (λ z. log ++ z) g.is ∙ sym (append_assoc log s.log g.more) in
    subst (λ l. StoodOnce l ds0 (ds0 ++ further) x row) (sym longer)
    (stood_once (log ++ s.log) g.more ds0 further tx x row k.kept.ok (subst (LogOK []) longer n.kept.ok)
    (subst (λ l. NumOK l (ds0 ++ further)) longer num) are others
    (Each-of (λ d. HasPrepared (log ++ t.log) d → HasPrepared log d) (λ d. HasPrepared ((log ++ s.log) ++ g.more) d → HasPrepared (log ++ s.log) d) ds0
    (λ d f h. subst (Has (λ p. p.tx ≡ d.tx)) (sym (prepares-append log s.log))
    (Has-front (λ p. p.tx ≡ d.tx) (prepares log) (prepares s.log) (f (subst (λ l. HasPrepared l d) (sym longer) h)))) voted)
    lw (subst (λ ps. Each (λ p. p.tx ≢ tx → touches x p.changes ≡ false) ps) (ap (λ z. z.doubts) (now_is log s k.kept.base)) free))
