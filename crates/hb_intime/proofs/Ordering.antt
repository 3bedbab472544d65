-- What counts as begun behind a line that shows a number has a greater one.
use Rattle.std.proofs.Common.{◌≡◌, ◌⊎◌, ◌∙◌, ℕ, ◌<◌, ◌≤◌, List, ◌∷◌, ◌++◌, Some, MatchOption, ap, arith, inl, inr, length, map, subst, sym}
use Rattle.std.specs.Prelude.{IsTrue, flat_map, slice_get, ⊤}
use Rattle.std.proofs.lemmas.Bool.{false≢true}
use Rattle.hb_types.specs.declared.request.Request.TheVariants as request
use Rattle.hb_types.specs.declared.request.Vote.{Vote}
use Rattle.hb_types.specs.declared.trail.Call.{Call}
use Rattle.hb_types.specs.declared.trail.TrailEntry.{TrailEntry}
use Rattle.hb_types.specs.Lists.{Each, Has, IsIn}
use Rattle.hb_types.proofs.Ascending.{Has-front, in_Each}
use Rattle.hb_loglaws.proofs.Members.{Has-in, found}
use Rattle.hb_model.specs.declared.reply.Reply.{Reply}
use Rattle.hb_model.specs.Items.{Item, calls_of}
use Rattle.hb_disks.specs.Disks.{written}
use Rattle.hb_disks.specs.Images.{decided}
use Rattle.hb_disks.specs.Redo.{Decided}
use Rattle.hb_disks.specs.Says.{decisions}
use Rattle.hb_disks.specs.StandsFor.{AreLogs, greatest_upto}
use Rattle.hb_runs.specs.Coordinator as coordinator
use Rattle.hb_law.specs.Callers.{WasDecided}
use Rattle.hb_law.specs.Composition.{CoordinatorRan, Together, World, lists_of}
use Rattle.hb_law.specs.Histories.{Event, History, IsHere, Labelled, asked_by, asked_of, calls, shows, trail_in}
use Rattle.hb_law.specs.InTime.{InItsOrder, asks, deeds_in, deeds_of, says}
use Rattle.hb_law.specs.ShownEnds.{IsDecidedAs, number_shown}
use Rattle.hb_law.specs.Transactions.{IsTxnOf, OutcomesTold, ShowsAnswered, TellsOutcome, Txn, begins_of, caller_of, number_of, tx_asked}
use Rattle.hb_coordlaws.specs.Ascending.{DecisionsGrow, given}
use Rattle.hb_coordlaws.specs.Asking.{IsDecideOf}
use Rattle.hb_parts.specs.Callings.{Callings, tells_nothing}
use Rattle.hb_parts.specs.Owning.{IsToldDecided}
use Rattle.hb_whose.proofs.Currents.{begins_append}
use Rattle.hb_whose.proofs.Owners.{begun_before, same_caller}
use Rattle.hb_whose.proofs.Parts.{is_there, stands_at}
use Rattle.hb_whose.proofs.Told.{at_fes}
use Rattle.hb_whose.proofs.Trailing.{each_got, got}
use Rattle.hb_onefamily.proofs.Staying.{decision_reserved}
use Rattle.hb_steps.proofs.ItemCalls.{got_map, map_got}
use Rattle.hb_ends.proofs.Belonging.{begun_here, in_calls}
use Rattle.hb_ends.proofs.Shown.{Laws, callings, fes, its_given}
use Rattle.hb_intime.proofs.Deeds.{asked_append, asked_within, deed_in_trail, event_deed, said_behind, shown_deed, trail_append, trail_event}
use Rattle.hb_intime.proofs.Fronts.{later_or_asked}
use Rattle.hb_intime.proofs.Lines.{for_fes, line_in, number_tells, quiet}

-- ---- a decision made behind a line that shows a number

module _ (laws : Laws) (grow : DecisionsGrow) (w : World) (further : List Decided) (g : Together written w) (right : AreLogs w.logs) (grows : decided w.logs ≡ decided w.base ++ further) (h : List Event)
    (hist : History h w.trails (lists_of w) w.lines)
    (order : InItsOrder h w.lists) where
  abbrev k : Callings w.base w.logs w.trails (map calls_of w.lists)
  k = callings laws w further g right grows

  abbrev f : (trail : List Labelled) × (slice_get w.trails 0 ≡ Some trail)
  f = fes laws w further g right grows

  -- what a line's number tells was told by fes1 before
  told_before : (a rest : List Event) (c p : ℕ) (r : Reply) (m : ℕ) → h ≡ a ++ shows c p r ∷ rest → number_shown r ≡ Some m
      → (u : ℕ) × Has (IsToldDecided u m) (asked_of (trail_in 0 a))
  told_before a rest c p r m e q =
      let line : IsIn (record { caller = c; place = p; reply = r }) w.lines =
      subst (IsIn (record { caller = c; place = p; reply = r })) (sym hist.are_lines) (line_in c p r h (subst (IsIn (shows c p r)) (sym e) (is_there (shows c p r) a rest))) in
      let list = got w.lists c (in_Each (λ l. l.caller < length w.lists) (record { caller = c; place = p; reply = r }) w.lines line g.shown.callers) in
      let flat : flat_map deeds_of list.0 ≡ deeds_in c a ++ says p r ∷ deeds_in c rest = sym (order.own c list.0 list.1) ∙ ap (deeds_in c) e ∙ shown_deed c p r a rest (quiet r m q) in
      let s = said_behind list.0 (deeds_in c a) p r (deeds_in c rest) flat in
      let numbers : ShowsAnswered s.item = in_Each ShowsAnswered s.item list.0 s.within (each_got (λ l. Each ShowsAnswered l) w.lists c list.0 g.numbers list.1) in
      let outcomes : OutcomesTold w.txns list.0 = each_got (OutcomesTold w.txns) w.lists c list.0 g.outcomes list.1 in
      let told : Each (TellsOutcome w.txns s.item.calls) s.item.lines = in_Each (λ (i : Item). Each (TellsOutcome w.txns i.calls) i.lines) s.item list.0 s.within outcomes in
      let x = number_tells w.txns s.item.calls r m (in_Each (λ r. MatchOption (number_of r) ⊤ (λ n. WasDecided n s.item.calls)) r s.item.lines s.line numbers)
      (in_Each (TellsOutcome w.txns s.item.calls) r s.item.lines s.line told) q in
      let node : x.0.node.0 ≡ 0 = at_fes laws.ascend w.base w.logs w.trails (map calls_of w.lists) k f.0 f.1 c (calls_of list.0) x.0 (map_got calls_of w.lists c list.0 list.1)
      (in_calls s.item x.0 list.0 s.within x.2) (for_fes x.1 m x.0 x.3) (λ z. false≢true (subst (λ y. IsTrue (tells_nothing y)) x.3.answered z)) in
      let here : IsIn (asked_by x.0) (asked_of (trail_in x.0.node.0 a)) = deed_in_trail c x.0 a (s.asked x.0 x.2) in
      (x.1, Has-in (IsToldDecided x.1 m) (asked_by x.0) (asked_of (trail_in 0 a)) (subst (λ n. IsIn (asked_by x.0) (asked_of (trail_in n a))) node here) x.3)

  module _ (t : Txn) (known : IsIn t w.txns) where
    x : IsTxnOf w.lists t
    x = in_Each (IsTxnOf w.lists) t w.txns known g.txns.each

    -- its caller asked by then for its decision
    pub record WasAsked (a : List Event) : Type 0 where
      pub decide : Call
      pub votes : List Vote
      pub before : IsIn (asks decide) (deeds_in (caller_of t.owner) a)
      pub asked : decide.request ≡ request.Decide (record { 0 = t.tx }) votes

    asked_by_its : (a rest : List Event) (d : Decided) → h ≡ a ++ rest → d.tx ≡ t.tx → Has (IsDecideOf d) (asked_of (trail_in 0 a)) → WasAsked a
    asked_by_its a rest d e of_tx has =
        let y = found (IsDecideOf d) (asked_of (trail_in 0 a)) has in
        let v = trail_event 0 y.0 a y.1 in
        its y.2.votes v.0 v.1 v.2 (ap (λ z. z.request) v.3 ∙ y.2.asked ∙ ap (λ z. request.Decide (record { 0 = z }) y.2.votes) of_tx)
      where
        its : (votes : List Vote) (c : ℕ) (entry : TrailEntry) → IsIn (calls c 0 entry) a → entry.request ≡ request.Decide (record { 0 = t.tx }) votes → WasAsked a
        its votes c entry i q =
            let event : IsIn (calls c 0 entry) h = subst (IsIn (calls c 0 entry)) (sym e) (Has-front (λ z. z ≡ calls c 0 entry) a rest i) in
            let here = in_Each (IsHere (length w.trails) (length (lists_of w))) (calls c 0 entry) h event hist.here in
            let l = got (lists_of w) c here.1 in
            let its = got_map calls_of w.lists c l.0 l.1 in
            let call : Call = record { node = record { 0 = 0 }; request = entry.request; answer = entry.answer } in
            let deed : IsIn (asks call) (deeds_in c h) = event_deed c 0 entry h event in
            let member : IsIn call (calls_of its.0) = asked_within call its.0 (subst (IsIn (asks call)) (order.own c its.0 its.1) deed) in
            let s = stands_at call (calls_of its.0) member in
            let its_list = map_got calls_of w.lists c its.0 its.1 in
            let begun : IsIn t.tx (begins_of s.front) = begun_before laws.ascend w.base w.logs w.trails (map calls_of w.lists) k f.0 f.1 c (calls_of its.0) s.front call s.back t.tx its_list s.parts (ap tx_asked q) in
            let begun_there : IsIn t.tx (begins_of (calls_of its.0)) = subst (λ z. IsIn t.tx (begins_of z)) (sym s.parts)
            (subst (IsIn t.tx) (sym (begins_append s.front (call ∷ s.back))) (Has-front (λ z. z ≡ t.tx) (begins_of s.front) (begins_of (call ∷ s.back)) begun)) in
            let same : c ≡ caller_of t.owner = same_caller laws.ascend w.base w.logs w.trails (map calls_of w.lists) k f.0 f.1 c (caller_of t.owner) t.tx (calls_of its.0)
            (calls_of (x.front ++ x.stretch ++ x.back)) its_list (map_got calls_of w.lists (caller_of t.owner) (x.front ++ x.stretch ++ x.back) x.parts) begun_there
            (begun_here laws.ascend w.base w.logs w.trails w.lists f.0 k f.1 t x) in
            record { decide = call; votes = votes; before = subst (λ z. IsIn (asks call) (deeds_in z a)) same (event_deed c 0 entry a i); asked = q }

    old_not : (a b c : ℕ) → a ≤ b → b < c → a ≡ c → ⊥
    old_not a b c p q e = omega (arith, p, q, e)

    -- it has a greater number than the line, or had been asked for
    pub greater_or_asked : (a rest : List Event) (c p : ℕ) (r : Reply) (m n : ℕ) → h ≡ a ++ shows c p r ∷ rest → number_shown r ≡ Some m → IsDecidedAs w.logs t.tx n
        → (m < n) ⊎ WasAsked a
    greater_or_asked a rest c p r m n e q dec =
        by (later_or_asked laws.agree.decision_stands laws.agree.decided_stays grow laws.agree.were_asked w.base.fes ran.last (asked_of (trail_in 0 a))
        (asked_of (trail_in 0 (shows c p r ∷ rest))) run told.0 m d.0 told.1 (subst (λ l. IsIn d.0 (decisions l)) ran.log d.1))
      where
        told : (u : ℕ) × Has (IsToldDecided u m) (asked_of (trail_in 0 a))
        told = told_before a rest c p r m e q

        d : (d : Decided) × IsIn d (decided w.logs) × ((d.tx ≡ t.tx) × (d.number ≡ n))
        d = found (λ (z : Decided). (z.tx ≡ t.tx) × (z.number ≡ n)) (decided w.logs) dec

        ran : CoordinatorRan w.base.fes w.logs.fes f.0
        ran = g.nodes.fes f.0 f.1

        parts : asked_of f.0 ≡ asked_of (trail_in 0 a) ++ asked_of (trail_in 0 (shows c p r ∷ rest))
        parts =
            ap asked_of (hist.are_trails 0 f.0 f.1 ∙ ap (trail_in 0) e ∙ trail_append 0 a (shows c p r ∷ rest))
            ∙ asked_append (trail_in 0 a) (trail_in 0 (shows c p r ∷ rest))

        run : coordinator.CRun (coordinator.stopped_at w.base.fes) (asked_of (trail_in 0 a) ++ asked_of (trail_in 0 (shows c p r ∷ rest))) ran.last
        run = subst (λ l. coordinator.CRun (coordinator.stopped_at w.base.fes) l ran.last) parts ran.ran

        by : (m < d.0.number) ⊎ (IsIn d.0 (decisions w.base.fes) ⊎ Has (IsDecideOf d.0) (asked_of (trail_in 0 a))) → (m < n) ⊎ WasAsked a
        by (inl lt) = inl (subst (λ z. m < z) d.2.1 lt)
        by (inr (inl b)) =
            absurd (old_not d.0.tx (greatest_upto w.base.fes) t.tx
            (in_Each (λ d. d.tx ≤ greatest_upto w.base.fes) d.0 (decided w.base) b (decision_reserved (greatest_upto w.base.fes) w.base.fes k.right.transaction_numbers.fes))
            (in_Each (λ z. greatest_upto w.base.fes < z) t.tx (given (asked_of f.0)) (its_given laws w further g right grows t known)
            (laws.agree.news w.base w.logs w.trails (map calls_of w.lists) f.0 k f.1)) d.2.0)
        by (inr (inr has)) = inr (asked_by_its a (shows c p r ∷ rest) d.0 e d.2.0 has)
