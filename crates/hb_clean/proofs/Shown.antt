-- Each row that a transaction of a run showed is clean.
use Rattle.std.proofs.Common.{◌≡◌, ◌⊎◌, ◌∙◌, ℕ, ◌+◌, ◌<◌, List, [], ◌∷◌, ◌++◌, Some, None, ap, append_assoc, arith, inl, inr, length, map, refl, subst, sym}
use Rattle.std.specs.Prelude.{IsTrue, slice_get}
use Rattle.std.proofs.lemmas.Bool.{false≢true}
use Rattle.hb_types.specs.declared.change.Stored.{Stored}
use Rattle.hb_types.specs.declared.request.Request.{Request}
use Rattle.hb_types.specs.declared.request.Request.TheVariants as request
use Rattle.hb_types.specs.declared.trail.Call.{Call}
use Rattle.hb_types.specs.Lists.{Each, EachBehind, Has, IsIn}
use Rattle.hb_types.proofs.Ascending.{Each-in, Each-of, Has-back, Has-front, in_Each}
use Rattle.hb_loglaws.proofs.Members.{in_append}
use Rattle.hb_model.specs.Answers.{rows_answered}
use Rattle.hb_model.specs.Asked.{AreWhereAsked, IsWhereAsked}
use Rattle.hb_model.specs.Items.{Item, calls_of}
use Rattle.hb_disks.specs.Disks.{written}
use Rattle.hb_disks.specs.Images.{decided, family}
use Rattle.hb_disks.specs.StandsFor.{AreLogs, back_ends, greatest_upto}
use Rattle.hb_law.specs.Clean.{IsClean, RowsClean, ShowsClean, stood}
use Rattle.hb_law.specs.Composition.{Together, World}
use Rattle.hb_law.specs.Histories.{Labelled, asked_of}
use Rattle.hb_law.specs.Transactions.{AllAnswered, IsApart, IsBoundItem, IsOfStatements, IsRightTxn, IsTurning, IsTxnOf, Txn, caller_of, tx_asked}
use Rattle.hb_coordlaws.specs.Ascending.{TransactionsAscend, given}
use Rattle.hb_parts.specs.Callings.{Callings, is_begin}
use Rattle.hb_parts.specs.Courses.{IsOwned}
use Rattle.hb_parts.specs.Owning.{GivenAreNew, OneOwner}
use Rattle.hb_parts.specs.Whole.{Chained}
use Rattle.hb_whose.proofs.Parts.{each_part, is_there, none_some, some_is}
use Rattle.hb_whose.proofs.Trailing.{got}
use Rattle.hb_steps.proofs.RunThroughs.{InOf, first, in_of, second}
use Rattle.hb_ends.proofs.Belonging as belonging
use Rattle.hb_clean.proofs.Fronts.{state_at}
use Rattle.hb_clean.proofs.Items.{StoodClean, all_clean, turn_clean}
use Rattle.hb_clean.proofs.Reading.{IsScan, StoodIn, Wrote, answered, given_came, is_where_asked, scan_of, scan_only, under_of}
use Rattle.hb_clean.proofs.Reading as reading
use Rattle.hb_clean.proofs.Standing.{StandsIn, stands_in}

pub record Laws : Type 0 where
  pub ascend : TransactionsAscend
  pub owner : OneOwner
  pub news : GivenAreNew
  pub reading : reading.Laws

module _ (laws : Laws) (w : World) (g : Together written w) (right : AreLogs w.logs) (chained : Chained w) where
  callings : Callings w.base w.logs w.trails (map calls_of w.lists)
  callings =
      record { right = g.stood.are_logs; nodes = g.nodes; merged = g.merged; obey = g.obey; operator = g.operator; system = g.system; back_ends_few = g.back_ends_few }

  fes : (trail : List Labelled) × (slice_get w.trails 0 ≡ Some trail)
  fes = let k : length w.trails ≡ length w.base.servers + 1 = g.nodes.nodes in got w.trails 0 (omega (arith, k))

  -- a row that stood at a user place is clean
  stood_clean : (node : ℕ) (r : Stored) → StoodIn w.base w.logs chained.further node r.place r.row → StoodClean w.base w.logs r
  stood_clean node r s own row user v =
      let u = state_at w.logs w.txns (decided w.base) chained.start chained.further chained.last chained.chain chained.at_start s.more s.rest s.parts in
      let is : StandsIn u.0 r.row = stands_in (back_ends w.logs) (family w.logs (decided w.base ++ s.more)) u.0 u.1 r.place r.row s.place user s.stood in
      subst (IsClean w.base w.logs own) (some_is is.row row (sym is.values ∙ v))
      (stood (decided w.base ++ s.more) u.0 is.table is.row
      (s.more, s.rest, refl, chained.grows ∙ ap (λ l. decided w.base ++ l) s.parts ∙ sym (append_assoc (decided w.base) s.more s.rest)) u.1 is.known is.among)

  module _ (t : Txn) (known : IsIn t w.txns) where
    x : IsTxnOf w.lists t
    x = in_Each (IsTxnOf w.lists) t w.txns known g.txns.each

    its_right : IsRightTxn (back_ends w.base) t
    its_right = in_Each (IsRightTxn (back_ends w.base)) t w.txns known g.right

    its_given : IsIn t.tx (given (asked_of fes.0))
    its_given = belonging.given_here laws.ascend w.base w.logs w.trails w.lists fes.0 callings fes.1 t x

    o : IsOwned w.trails (map calls_of w.lists) t.tx
    o = laws.owner w.base w.logs w.trails (map calls_of w.lists) fes.0 t.tx callings fes.1 its_given

    new : greatest_upto w.base.fes < t.tx
    new =
        in_Each (λ z. greatest_upto w.base.fes < z) t.tx (given (asked_of fes.0)) its_given
        (laws.news w.base w.logs w.trails (map calls_of w.lists) fes.0 callings fes.1)

    abbrev opening : List Call
    opening = x.begins.before ++ x.begins.begin ∷ []

    abbrev own : List Call
    own = x.begins.more ++ calls_of x.others

    items_are : calls_of t.items ≡ opening ++ own
    items_are =
        belonging.items_are laws.ascend w.base w.logs w.trails w.lists fes.0 callings fes.1 t x
        ∙ sym (append_assoc x.begins.before (x.begins.begin ∷ []) own)

    abbrev rest : List Call
    rest = (belonging.on laws.ascend w.base w.logs w.trails w.lists fes.0 callings fes.1 t x o).rest

    course_is : o.course ≡ own ++ rest
    course_is = (belonging.on laws.ascend w.base w.logs w.trails w.lists fes.0 callings fes.1 t x o).parts

    -- ---- the calls up to its Begin

    begin_asks_none : (q : Request) → IsTrue (is_begin q) → tx_asked q ≡ None
    begin_asks_none (request.Begin owner) e = refl
    begin_asks_none q e = absurd (false≢true e)

    opening_asks_none : (c : Call) → IsIn c opening → tx_asked c.request ≡ None
    opening_asks_none c i = by (in_append c x.begins.before (x.begins.begin ∷ []) i)
      where
        by : IsIn c x.begins.before ⊎ IsIn c (x.begins.begin ∷ []) → tx_asked c.request ≡ None
        by (inl h) = (in_Each IsApart c x.begins.before h x.begins.apart).0
        by (inr (inl e)) =
            subst (λ z. tx_asked z.request ≡ None) e
            (begin_asks_none x.begins.begin.request (belonging.b_begins laws.ascend w.base w.logs w.trails w.lists fes.0 callings fes.1 t x))
        by (inr (inr h)) = absurd h

    asks_some : (c : Call) → tx_asked c.request ≡ None → IsScan c.request → ⊥
    asks_some c n s =
        scan_of ⊥ c.request s (λ tx p e. none_some tx.0 (sym n ∙ ap tx_asked e)) (λ tx p gr e. none_some tx.0 (sym n ∙ ap tx_asked e))

    in_list : (c : Call) → IsIn c opening → IsIn c (calls_of (x.front ++ x.stretch ++ x.back))
    in_list c i =
        subst (IsIn c) (sym (belonging.list_is laws.ascend w.base w.logs w.trails w.lists fes.0 callings fes.1 t x ∙ shape (calls_of x.front) x.begins.before x.begins.begin (own ++ calls_of x.back)))
        (Has-back (λ y. y ≡ c) (calls_of x.front) (opening ++ (own ++ calls_of x.back)) (Has-front (λ y. y ≡ c) opening (own ++ calls_of x.back) i))
      where
        shape : (f p : List Call) (b : Call) (z : List Call) → (f ++ p) ++ b ∷ z ≡ f ++ ((p ++ b ∷ []) ++ z)
        shape f p b z = append_assoc f p (b ∷ z) ∙ ap (λ l. f ++ l) (sym (append_assoc p (b ∷ []) z))

    opening_rowless : (c : Call) → IsIn c opening → (P : Stored → Type 0) → Each P (rows_answered c.request c.answer)
    opening_rowless c i P =
        let n = opening_asks_none c i in
        answered c.request c.answer P (λ tx p row e f. absurd (none_some tx.0 (sym n ∙ ap tx_asked e)))
        (λ rows f. absurd (asks_some c n (scan_only w.base w.logs w.trails (map calls_of w.lists) fes.0 callings fes.1 (caller_of t.owner)
        (calls_of (x.front ++ x.stretch ++ x.back)) c (belonging.its_list laws.ascend w.base w.logs w.trails w.lists fes.0 callings fes.1 t x) (in_list c i) rows f)))

    -- ---- each call

    parts_are : (front : List Call) (c : Call) (back : List Call) → calls_of t.items ≡ front ++ c ∷ back → InOf opening own front c back
    parts_are front c back e = in_of opening own front c back (sym items_are ∙ e)

    behind : (done : List Call) (c : Call) (back : List Call) → own ≡ done ++ c ∷ back → o.course ≡ done ++ c ∷ (back ++ rest)
    behind done c back e = course_is ∙ ap (λ l. l ++ rest) e ∙ append_assoc done (c ∷ back) rest

    came : (front : List Call) (c : Call) (back : List Call) → calls_of t.items ≡ front ++ c ∷ back
        → Each (λ r. Has (λ y. Wrote r.place r.row y.request) front ⊎ StoodClean w.base w.logs r) (rows_answered c.request c.answer)
    came front c back e = by (parts_are front c back e)
      where
        by : InOf opening own front c back → Each (λ r. Has (λ y. Wrote r.place r.row y.request) front ⊎ StoodClean w.base w.logs r) (rows_answered c.request c.answer)
        by (first more p q) =
            opening_rowless c (subst (IsIn c) (sym p) (is_there c front more)) (λ r. Has (λ y. Wrote r.place r.row y.request) front ⊎ StoodClean w.base w.logs r)
        by (second done p q) =
            Each-of (λ r. Has (λ y. Wrote r.place r.row y.request) done ⊎ StoodIn w.base w.logs chained.further c.node.0 r.place r.row)
            (λ r. Has (λ y. Wrote r.place r.row y.request) front ⊎ StoodClean w.base w.logs r) (rows_answered c.request c.answer) (λ r h. one r h)
            (given_came laws.reading w.base w.logs w.trails (map calls_of w.lists) fes.0 callings right fes.1 chained.further chained.grows t.tx o new done c (back ++ rest) (behind done c back q))
          where
            one : (r : Stored) → Has (λ y. Wrote r.place r.row y.request) done ⊎ StoodIn w.base w.logs chained.further c.node.0 r.place r.row
                → Has (λ y. Wrote r.place r.row y.request) front ⊎ StoodClean w.base w.logs r
            one r (inl h) = inl (subst (Has (λ y. Wrote r.place r.row y.request)) (sym p) (Has-back (λ y. Wrote r.place r.row y.request) opening done h))
            one r (inr s) = inr (stood_clean c.node.0 r s)

    asked : AreWhereAsked (calls_of t.items)
    asked = each_part (λ c. IsWhereAsked c.request c.answer) (calls_of t.items) (λ front c back e. by front c back (parts_are front c back e))
      where
        by : (front : List Call) (c : Call) (back : List Call) → InOf opening own front c back → IsWhereAsked c.request c.answer
        by front c back (first more p q) =
            let n = opening_asks_none c (subst (IsIn c) (sym p) (is_there c front more)) in
            under_of c.request c.answer (λ tx p rows e f. absurd (none_some tx.0 (sym n ∙ ap tx_asked e))) (λ tx p gr rows e f. absurd (none_some tx.0 (sym n ∙ ap tx_asked e)))
        by front c back (second done p q) =
            is_where_asked laws.reading w.base w.logs w.trails (map calls_of w.lists) fes.0 callings right fes.1 chained.further chained.grows t.tx o new done c (back ++ rest) (behind done c back q)

    shows_clean : ShowsClean w.base w.logs t
    shows_clean = by its_right.kinds
      where
        by : (Each (λ i. IsOfStatements i.doing) t.items × AllAnswered t.items) ⊎ ((i : Item) × (t.items ≡ i ∷ []) × IsTurning i.doing) → ShowsClean w.base w.logs t
        by (inl k) = all_clean w.base w.logs (calls_of t.items) asked came [] [] t.items refl its_right.bound k.0 k.1 tt
        by (inr k) =
            subst (EachBehind (λ own i. Each (RowsClean w.base w.logs own i.doing) i.lines) []) (sym k.1)
            (turn_clean w.base w.logs k.0 k.2 (subst (Each IsBoundItem) k.1 its_right.bound).0, tt)

  pub rows_clean : Each (ShowsClean w.base w.logs) w.txns
  rows_clean = Each-in (ShowsClean w.base w.logs) w.txns (λ t i. shows_clean t i)
