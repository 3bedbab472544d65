-- Where all doubts are settled, redo gives what the decisions leave; redo from a point, while the log grows.
use Rattle.std.proofs.Common.{◌≡◌, ◌≢◌, ◌⊎◌, ℕ, true, false, List, [], ◌∷◌, ◌++◌, sym, ap, ◌∙◌, subst, inl, inr, append_assoc}
use Rattle.std.specs.Prelude.{None, unwrap_or, ◌==◌}
use Rattle.std.specs.Cmp.{IsTotalOrder}
use Rattle.std.specs.Ordering.{nat_cmp}
use Rattle.std.proofs.lemmas.Bool.{false≢true, ne_eqb}
use Rattle.std.proofs.lemmas.Cmp.{nat_cmp_total, on_total}
use Rattle.hb_types.specs.declared.change.LogItem.{LogItem}
use Rattle.hb_types.specs.declared.change.LogItem.TheVariants as item
use Rattle.hb_types.specs.declared.places.Place.{Place}
use Rattle.hb_types.specs.Lists.{Ascends, Each, Has, IsIn}
use Rattle.hb_types.specs.Put.{touches}
use Rattle.hb_types.proofs.Ascending.{in_Each, same_members}
use Rattle.hb_types.proofs.PutLaws.{last_in}
use Rattle.hb_laws.proofs.RowLaws.{rows_same}
use Rattle.hb_disks.specs.LogRules.{LogOK, NumOK}
use Rattle.hb_disks.specs.Points.{Point, IsRedoFrom, no_point, at_point}
use Rattle.hb_disks.specs.Redo.{Prepared, Decided, redo, redo_from, doubts, changes_or}
use Rattle.hb_disks.specs.Says.{prepares, commits, aborts, ch, writers, held}
use Rattle.hb_disks.specs.StandsFor.{AreDecisions, TxApart}
use Rattle.hb_disks.proofs.Fold.{redo_from-append}
use Rattle.hb_loglaws.proofs.Lookups.{Number, deciders, held_ascends, lists_of, lookup_held, lookup_redo, numbered, redo_ascends}
use Rattle.hb_loglaws.proofs.Members.{filter_ascends, filter_in, found, in_filter, in_map, map_in}
use Rattle.hb_loglaws.proofs.Saying.{IsOnce, once, same_or_not}
use Rattle.hb_loglaws.proofs.Writers.{by_number, written as written_log}
use Rattle.hb_loglaws.specs.Saying.{ends}
use Rattle.hb_loglaws.specs.Settled.{PointsStay, SettledIsHeld}

pub by_number_total : IsTotalOrder by_number
by_number_total = on_total (λ (c : Number). c.1) nat_cmp_total

-- ---- decisions

pub one_decision : (ds : List Decided) (d e : Decided) → TxApart ds → IsIn d ds → IsIn e ds → d.tx ≡ e.tx → d ≡ e
one_decision [] d e a i j q = absurd i
one_decision (c ∷ cs) d e a (inl i) (inl j) q = sym i ∙ j
one_decision (c ∷ cs) d e a (inl i) (inr j) q = absurd (in_Each (λ z. z.tx ≢ c.tx) e cs j a.0 (sym q ∙ ap (λ z. z.tx) (sym i)))
one_decision (c ∷ cs) d e a (inr i) (inl j) q = absurd (in_Each (λ z. z.tx ≢ c.tx) d cs i a.0 (q ∙ ap (λ z. z.tx) (sym j)))
one_decision (c ∷ cs) d e a (inr i) (inr j) q = one_decision cs d e a.1 i j q

numbered_ascend : (ds : List Decided) → Ascends (λ a b. nat_cmp a.number b.number) ds → Ascends by_number (numbered ds)
numbered_ascend [] a = tt
numbered_ascend (d ∷ []) a = tt
numbered_ascend (d ∷ e ∷ es) a = (a.0, numbered_ascend (e ∷ es) a.1)

pub deciders_ascend : (l : List LogItem) (x : Place) (ds : List Decided) → Ascends (λ a b. nat_cmp a.number b.number) ds → Ascends by_number (deciders l x ds)
deciders_ascend l x ds a = filter_ascends by_number by_number_total (λ c. touches x (ch l c.0)) (numbered ds) (numbered_ascend ds a)

-- ---- who has changes has voted, and is in doubt or has ended

none_prepared : (x : Place) (tx : ℕ) (ps : List Prepared) → Each (λ p. p.tx ≢ tx) ps → touches x (changes_or [] tx ps) ≡ true → ⊥
none_prepared x tx [] e t = false≢true t
none_prepared x tx (p ∷ ps) e t = let f : (p.tx == tx) ≡ false = ne_eqb p.tx tx e.0 in none_prepared x tx ps e.1 (rw f at t)

vote_or_none : (tx : ℕ) (ps : List Prepared) → Each (λ p. p.tx ≢ tx) ps ⊎ Has (λ p. p.tx ≡ tx) ps
vote_or_none tx [] = inl tt
vote_or_none tx (p ∷ ps) = with_first (same_or_not p.tx tx) (vote_or_none tx ps)
  where
    with_first : (p.tx ≡ tx) ⊎ (p.tx ≢ tx) → Each (λ q. q.tx ≢ tx) ps ⊎ Has (λ q. q.tx ≡ tx) ps → Each (λ q. q.tx ≢ tx) (p ∷ ps) ⊎ Has (λ q. q.tx ≡ tx) (p ∷ ps)
    with_first (inl e) k = inr (inl e)
    with_first (inr n) (inl k) = inl (n, k)
    with_first (inr n) (inr k) = inr (inr k)

pub has_vote : (x : Place) (l : List LogItem) (tx : ℕ) → touches x (ch l tx) ≡ true → Has (λ p. p.tx ≡ tx) (prepares l)
has_vote x l tx t = by_kind (vote_or_none tx (prepares l))
  where
    by_kind : Each (λ p. p.tx ≢ tx) (prepares l) ⊎ Has (λ p. p.tx ≡ tx) (prepares l) → Has (λ p. p.tx ≡ tx) (prepares l)
    by_kind (inl n) = absurd (none_prepared x tx (prepares l) n t)
    by_kind (inr h) = h

-- an end is a commit or an abort
pub ends_kind : (l : List LogItem) (tx : ℕ) → Has (λ t. t ≡ tx) (ends l) → Has (λ c. c.0 ≡ tx) (commits l) ⊎ Has (λ t. t ≡ tx) (aborts l)
ends_kind [] tx h = absurd h
ends_kind (item.Prepare t floor locks changes ∷ is) tx h = ends_kind is tx h
ends_kind (item.Commit t n ∷ is) tx (inl e) = inl (inl e)
ends_kind (item.Commit t n ∷ is) tx (inr h) = later (ends_kind is tx h)
  where
    later : Has (λ c. c.0 ≡ tx) (commits is) ⊎ Has (λ t. t ≡ tx) (aborts is) → Has (λ c. c.0 ≡ tx) ((t.0, n.0) ∷ commits is) ⊎ Has (λ t. t ≡ tx) (aborts is)
    later (inl h) = inl (inr h)
    later (inr h) = inr h
ends_kind (item.Abort t ∷ is) tx (inl e) = inr (inl e)
ends_kind (item.Abort t ∷ is) tx (inr h) = later (ends_kind is tx h)
  where
    later : Has (λ c. c.0 ≡ tx) (commits is) ⊎ Has (λ t. t ≡ tx) (aborts is) → Has (λ c. c.0 ≡ tx) (commits is) ⊎ Has (λ t. t ≡ tx) (t.0 ∷ aborts is)
    later (inl h) = inl h
    later (inr h) = inr (inr h)
ends_kind (item.Decision t n nodes ∷ is) tx h = ends_kind is tx h
ends_kind (item.Ids upto ∷ is) tx h = ends_kind is tx h

-- a decided transaction with a change at a place is committed with its number, or in doubt
pub decided_kind : (l : List LogItem) (ds : List Decided) (d : Decided) (x : Place) → IsOnce l → NumOK l ds → TxApart ds → IsIn d ds → touches x (ch l d.tx) ≡ true
    → IsIn (d.tx, d.number) (commits l) ⊎ ((p : Prepared) × IsIn p (doubts l) × (p.tx ≡ d.tx))
decided_kind l ds d x k num apart i t = by_place (in_Each _ vote.0 (prepares l) vote.1 k.in_doubt)
  where
    vote : (p : Prepared) × IsIn p (prepares l) × (p.tx ≡ d.tx)
    vote = found (λ p. p.tx ≡ d.tx) (prepares l) (has_vote x l d.tx t)

    commit : Has (λ c. c.0 ≡ d.tx) (commits l) → IsIn (d.tx, d.number) (commits l)
    commit h =
        let c = found (λ c. c.0 ≡ d.tx) (commits l) h in
        let e = found (λ (e : Decided). (e.tx ≡ c.0.0) × (e.number ≡ c.0.1)) ds (in_Each _ c.0 (commits l) c.1 num.committed) in
        let same : e.0 ≡ d = one_decision ds e.0 d apart e.1 i (e.2.0 ∙ c.2) in
        let a : c.0.0 ≡ d.tx = c.2 in
        let b : c.0.1 ≡ d.number = sym e.2.1 ∙ ap (λ z. z.number) same in
        let pair : c.0 ≡ (d.tx, d.number) = (λ j. (a j, b j)) in
        subst (λ z. IsIn z (commits l)) pair c.1

    by_end : Has (λ c. c.0 ≡ d.tx) (commits l) ⊎ Has (λ t. t ≡ d.tx) (aborts l)
        → IsIn (d.tx, d.number) (commits l) ⊎ ((p : Prepared) × IsIn p (doubts l) × (p.tx ≡ d.tx))
    by_end (inl h) = inl (commit h)
    by_end (inr h) = let a = found (λ t. t ≡ d.tx) (aborts l) h in absurd (in_Each (λ (e : Decided). e.tx ≢ a.0) d ds i (in_Each _ a.0 (aborts l) a.1 num.aborted) (sym a.2))

    by_place : IsIn vote.0 (doubts l) ⊎ Has (λ t. t ≡ vote.0.tx) (ends l) → IsIn (d.tx, d.number) (commits l) ⊎ ((p : Prepared) × IsIn p (doubts l) × (p.tx ≡ d.tx))
    by_place (inl h) = inr (vote.0, h, vote.2)
    by_place (inr h) = by_end (ends_kind l d.tx (subst (λ z. Has (λ t. t ≡ z) (ends l)) vote.2 h))

-- a commit is decided, with its number
pub commit_decided : (l : List LogItem) (ds : List Decided) (c : Number) → NumOK l ds → IsIn c (commits l) → IsIn c (numbered ds)
commit_decided l ds c num i =
    let d = found (λ (d : Decided). (d.tx ≡ c.0) × (d.number ≡ c.1)) ds (in_Each _ c (commits l) i num.committed) in
    let a : d.0.tx ≡ c.0 = d.2.0 in
    let b : d.0.number ≡ c.1 = d.2.1 in
    let pair : (d.0.tx, d.0.number) ≡ c = (λ j. (a j, b j)) in
    subst (λ z. IsIn z (numbered ds)) pair (map_in (λ d. (d.tx, d.number)) d.0 ds d.1)

-- ---- settled

module _ (l : List LogItem) (ds : List Decided) (ok : LogOK [] l) (num : NumOK l ds) (are : AreDecisions ds) (none : doubts l ≡ []) where
  decided_commit : (x : Place) (z : Number) → IsIn z (deciders l x ds) → IsIn z (writers l x)
  decided_commit x z i = by_kind (decided_kind l ds d.0 x (once l ok) num are.once d.1 touched)
    where
      k : IsIn z (numbered ds) × (touches x (ch l z.0) ≡ true)
      k = in_filter (λ c. touches x (ch l c.0)) z (numbered ds) i

      d : (d : Decided) × IsIn d ds × ((d.tx, d.number) ≡ z)
      d = in_map (λ d. (d.tx, d.number)) z ds k.0

      touched : touches x (ch l d.0.tx) ≡ true
      touched = subst (λ w. touches x (ch l w.0) ≡ true) (sym d.2) k.1

      by_kind : IsIn (d.0.tx, d.0.number) (commits l) ⊎ ((p : Prepared) × IsIn p (doubts l) × (p.tx ≡ d.0.tx)) → IsIn z (writers l x)
      by_kind (inl h) = filter_in (λ c. touches x (ch l c.0)) z (commits l) (subst (λ w. IsIn w (commits l)) d.2 h) k.1
      by_kind (inr p) = absurd (subst (IsIn p.0) none p.1)

  commit_writes : (x : Place) (z : Number) → IsIn z (writers l x) → IsIn z (deciders l x ds)
  commit_writes x z i =
      let k = in_filter (λ c. touches x (ch l c.0)) z (commits l) i in
      filter_in (λ c. touches x (ch l c.0)) z (numbered ds) (commit_decided l ds z num k.0) k.1

  same_writers : (x : Place) → writers l x ≡ deciders l x ds
  same_writers x =
      same_members by_number by_number_total (writers l x) (deciders l x ds) ((written_log l ok).ascend x) (deciders_ascend l x ds are.ascend) (commit_writes x) (decided_commit x)

  settled : (redo l).rows ≡ held l ds
  settled =
      rows_same (redo l).rows (held l ds) (redo_ascends l ok) (held_ascends l ds)
      (λ x. lookup_redo x l ok ∙ ap (λ cs. last_in x (lists_of l cs) None) (same_writers x) ∙ sym (lookup_held x l ds))

pub settled_is_held : SettledIsHeld
settled_is_held log ds ok num are none = settled log ds ok num are none

-- ---- points

redo_from_stays : (point : Point) (log more : List LogItem) → IsRedoFrom point log (redo log) → IsRedoFrom point (log ++ more) (redo (log ++ more))
redo_from_stays point log more h =
    record {
      front = h.front;
      back = h.back ++ more;
      parts = ap (λ l. l ++ more) h.parts ∙ append_assoc h.front h.back more;
      begins = h.begins;
      gives = redo_from-append (at_point point) h.back more ∙ ap (λ r. redo_from r more) h.gives ∙ sym (redo_from-append _ log more);
    }

pub points_stay : PointsStay
points_stay area log more point h = record { read = h.read; base = redo_from_stays (unwrap_or point no_point) log more h.base }
