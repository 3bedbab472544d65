-- A transaction that had asked for its decision had begun: so it counts as begun before a line that shows a greater number.
use Rattle.std.proofs.Common.{◌≡◌, ◌⊎◌, ◌∙◌, ℕ, ◌<◌, false, List, [], ◌∷◌, ◌++◌, Some, MatchOption, ap, append_assoc, append-nil, inl, inr, map, refl, subst, sym}
use Rattle.std.specs.Prelude.{IsTrue, flat_map, not, filter, ⊤}
use Rattle.std.specs.Ordering.{nat_cmp}
use Rattle.std.proofs.lemmas.Bool.{false≢true}
use Rattle.hb_types.specs.declared.answer.Answer.TheVariants as answer
use Rattle.hb_types.specs.declared.request.Request.TheVariants as request
use Rattle.hb_types.specs.declared.names.Tx.{Tx}
use Rattle.hb_types.specs.declared.request.Vote.{Vote}
use Rattle.hb_types.specs.declared.trail.Call.{Call}
use Rattle.hb_types.specs.Lists.{Ascends, Each, EachBehind, IsIn}
use Rattle.hb_types.proofs.Ascending.{Has-back, Has-front, in_Each}
use Rattle.hb_loglaws.proofs.Members.{Has-in, filter_in, found, in_append, map_in}
use Rattle.hb_model.specs.declared.reply.Reply.{Reply}
use Rattle.hb_model.specs.Answers.{HasAsked, is_decide}
use Rattle.hb_model.specs.Items.{Doing, Item, calls_of, sql, tending, turn}
use Rattle.hb_disks.specs.Disks.{written}
use Rattle.hb_disks.specs.Images.{decided}
use Rattle.hb_disks.specs.Redo.{Decided}
use Rattle.hb_disks.specs.StandsFor.{AreLogs}
use Rattle.hb_law.specs.Callers.{WasDecided}
use Rattle.hb_law.specs.Composition.{Together, World, lists_of}
use Rattle.hb_law.specs.Histories.{Event, History, asked_by, asked_of, gives, shows}
use Rattle.hb_law.specs.InTime.{Deed, InItsOrder, IsWork, WasGiven, asks, deeds_in, deeds_of, is_busy, places_in, says}
use Rattle.hb_law.specs.Ordered.{BeginsAt, IsGivingOf, IsLineOf, IsMovedOf, Shows, ShowsTurn}
use Rattle.hb_law.specs.ShownEnds.{IsDecidedAs, moving_number, number_shown}
use Rattle.hb_law.specs.Transactions.{AllAnswered, AreOfAKind, FirstBeginsWell, IsBoundItem, IsOfStatements, IsTurning, IsTxnOf, ShowsAnswered, Txn, caller_of, number_of, tx_asked}
use Rattle.hb_coordlaws.specs.Ascending.{DecisionsGrow}
use Rattle.hb_parts.specs.Callings.{tells_nothing}
use Rattle.hb_parts.specs.Owning.{IsToldDecided}
use Rattle.hb_whose.proofs.Parts.{Stands, behind_at, is_there, stands_at}
use Rattle.hb_whose.proofs.Told.{IsForFes, decides, was_decided}
use Rattle.hb_whose.proofs.Trailing.{each_got}
use Rattle.hb_ends.proofs.Belonging.{behind_none, in_calls}
use Rattle.hb_ends.proofs.Shown.{Laws, answered_so, callings, decided_so, fes, its_calls, its_given, its_right, of_fes, one_decision}
use Rattle.hb_ends.proofs.Undone.{decides_commit}
use Rattle.hb_intime.proofs.Deeds.{Cut, asked_within, beyond, cut, deeds_append, flat_append, inside, one_asked, one_giving, one_said, said_event, said_within, shown_deed}
use Rattle.hb_intime.proofs.Lines.{commit_begins_none, first_says, giving_is, line_is, moved_is, moving_decided, moving_shown, of_number, quiet, shown_is, turn_is_work}
use Rattle.hb_intime.proofs.Ordering.{WasAsked, greater_or_asked}
use Rattle.hb_intime.proofs.Places.{InList, in_list, none_before}

-- ---- words

cons_is : (i j : Item) (is js : List Item) → i ∷ is ≡ j ∷ js → (i ≡ j) × (is ≡ js)
cons_is i j is js e = (cc, cc)

said_here : (i : Item) (r : Reply) → IsIn r i.lines → is_busy r ≡ false → IsIn (says i.place r) (deeds_of i)
said_here i r h q =
    Has-back (λ z. z ≡ says i.place r) (map asks i.calls) (map (says i.place) (filter (λ r. not (is_busy r)) i.lines))
    (map_in (says i.place) r (filter (λ r. not (is_busy r)) i.lines) (filter_in (λ r. not (is_busy r)) r i.lines h (rw q refl)))

statements_begin : (front : List Event) (e : Event) (back : List Event) (caller place n : ℕ) (w : Doing) → IsOfStatements w → BeginsAt front e back caller place n w
    → Each (λ x. ¬ (IsLineOf caller place x)) front
statements_begin front e back caller place n (sql st) s b = b.1
statements_begin front e back caller place n tending s b = b.1
statements_begin front e back caller place n (turn table most) s b = absurd s

-- how a turn counts as begun
abbrev TurnBegins : List Event → Event → List Event → ℕ → ℕ → ℕ → Type 0
TurnBegins front e back caller place n =
    (mid : List Event) × (own : Event) × (rest : List Event) × (back ≡ mid ++ own ∷ rest) × IsLineOf caller place own × ShowsTurn n own
    × ((IsMovedOf caller place e × (¬ (ShowsTurn n e))) ⊎ IsGivingOf caller place e)

turn_begins : (front : List Event) (e : Event) (back : List Event) (caller place n : ℕ) (w : Doing) → IsTurning w → BeginsAt front e back caller place n w
    → TurnBegins front e back caller place n
turn_begins front e back caller place n (turn table most) s b = (b.0, b.1, b.2, b.3, b.4, b.5, elim b.7 [ inl m ↦ inl m | inr y ↦ inr y.0 ])
turn_begins front e back caller place n (sql st) s b = absurd s
turn_begins front e back caller place n tending s b = absurd s

module _ (laws : Laws) (grow : DecisionsGrow) (w : World) (further : List Decided) (g : Together written w) (right : AreLogs w.logs) (grows : decided w.logs ≡ decided w.base ++ further) (h : List Event)
    (hist : History h w.trails (lists_of w) w.lines)
    (order : InItsOrder h w.lists) (t : Txn) (known : IsIn t w.txns) where
  x : IsTxnOf w.lists t
  x = in_Each (IsTxnOf w.lists) t w.txns known g.txns.each

  abbrev caller : ℕ
  caller = caller_of t.owner

  abbrev list : List Item
  list = x.front ++ x.stretch ++ x.back

  abbrev at : InList (x.front ++ x.stretch ++ x.back) t x.first x.others x.back
  at = in_list w.lists t x

  abbrev Asked : List Event → Type 0
  Asked a = WasAsked laws grow w further g right grows h hist order t known a

  -- nothing before its first item asks for its decision
  not_before : (d : Call) → IsIn (asks d) (flat_map deeds_of at.before) → tx_asked d.request ≡ Some t.tx → ⊥
  not_before d i q =
      none_before w.lists t x laws.ascend w.base w.logs w.trails (fes laws w further g right grows).0 (callings laws w further g right grows) (fes laws w further g right grows).1 d (asked_within d at.before i) q

  own_deeds : deeds_in (caller_of t.owner) h ≡ flat_map deeds_of at.before ++ (deeds_of x.first ++ flat_map deeds_of at.later)
  own_deeds = order.own (caller_of t.owner) (x.front ++ x.stretch ++ x.back) x.parts ∙ ap (flat_map deeds_of) at.parts ∙ flat_append deeds_of at.before (x.first ∷ at.later)

  deeds_of_parts : (a rest : List Event) → h ≡ a ++ rest → deeds_in (caller_of t.owner) a ++ deeds_in (caller_of t.owner) rest ≡ flat_map deeds_of at.before ++ (deeds_of x.first ++ flat_map deeds_of at.later)
  deeds_of_parts a rest e = sym (ap (deeds_in (caller_of t.owner)) e ∙ deeds_append (caller_of t.owner) a rest) ∙ own_deeds

  asks_its : (a : List Event) (k : Asked a) → tx_asked k.decide.request ≡ Some t.tx
  asks_its a k = ap tx_asked k.asked

  -- ---- statements

  -- the first of its statements asks for no decision
  first_not : IsOfStatements x.first.doing → HasAsked is_decide x.first.calls → ⊥
  first_not s d =
      let r = its_right laws w further g right grows t known in
      let bound : IsBoundItem x.first = (subst (Each IsBoundItem) x.items r.bound).0 in
      commit_begins_none x.first.doing (decides_commit x.first.place x.first.doing x.first.calls x.first.lines bound s d) (subst FirstBeginsWell x.items r.begins)

  -- so others follow it, and its line was shown
  first_line : (d : Decided) → IsIn d (decided w.logs) → d.tx ≡ t.tx → IsOfStatements x.first.doing → AllAnswered (x.first ∷ x.others) → (r : Reply) × IsIn r x.first.lines × (is_busy r ≡ false)
  first_line d i e s answered = by x.others refl answered
    where
      by : (os : List Item) → x.others ≡ os → AllAnswered (x.first ∷ os) → (r : Reply) × IsIn r x.first.lines × (is_busy r ≡ false)
      by [] q a =
          let k = its_calls laws w further g right grows t known d i e in
          let parts : x.first.calls ≡ k.front ++ k.decide ∷ k.back = sym (ap calls_of x.items ∙ ap (λ l. x.first.calls ++ calls_of l) q ∙ append-nil x.first.calls) ∙ k.parts in
          absurd (first_not s
          (subst (HasAsked is_decide) (sym parts) (Has-in (λ c. IsTrue (is_decide c.request)) k.decide (k.front ++ k.decide ∷ k.back) (is_there k.decide k.front k.back) (ap is_decide k.asked))))
      by (j ∷ js) q a =
          let r = its_right laws w further g right grows t known in
          first_says x.first.place x.first.doing x.first.calls x.first.lines (subst (Each IsBoundItem) x.items r.bound).0 (subst FirstBeginsWell x.items r.begins) s a.0

  statements_began : (a rest : List Event) → h ≡ a ++ rest → Asked a → (d : Decided) → IsIn d (decided w.logs) → d.tx ≡ t.tx → IsOfStatements x.first.doing
      → AllAnswered (x.first ∷ x.others)
      → Each (λ y. ¬ (IsLineOf (caller_of t.owner) x.first.place y)) a → ⊥
  statements_began a rest e k d i of_tx s answered none =
      by (cut (flat_map deeds_of at.before ++ deeds_of x.first) (flat_map deeds_of at.later) st.front (asks k.decide) (st.back ++ deeds_in (caller_of t.owner) rest) parts)
    where
      st : Stands (asks k.decide) (deeds_in (caller_of t.owner) a)
      st = stands_at (asks k.decide) (deeds_in (caller_of t.owner) a) k.before

      parts : (flat_map deeds_of at.before ++ deeds_of x.first) ++ flat_map deeds_of at.later ≡ st.front ++ asks k.decide ∷ (st.back ++ deeds_in (caller_of t.owner) rest)
      parts =
          append_assoc (flat_map deeds_of at.before) (deeds_of x.first) (flat_map deeds_of at.later) ∙ sym (deeds_of_parts a rest e)
          ∙ ap (λ l. l ++ deeds_in (caller_of t.owner) rest) st.parts ∙ append_assoc st.front (asks k.decide ∷ st.back) (deeds_in (caller_of t.owner) rest)

      asked_early : IsIn (asks k.decide) (flat_map deeds_of at.before) ⊎ IsIn (asks k.decide) (deeds_of x.first) → ⊥
      asked_early (inl j) = not_before k.decide j (asks_its a k)
      asked_early (inr j) = first_not s (Has-in (λ c. IsTrue (is_decide c.request)) k.decide x.first.calls (one_asked k.decide x.first j) (ap is_decide k.asked))

      by : Cut (flat_map deeds_of at.before ++ deeds_of x.first) (flat_map deeds_of at.later) st.front (asks k.decide) (st.back ++ deeds_in (caller_of t.owner) rest) → ⊥
      by (inside more q) =
          asked_early (in_append (asks k.decide) (flat_map deeds_of at.before) (deeds_of x.first) (subst (IsIn (asks k.decide)) (sym q) (is_there (asks k.decide) st.front more)))
      by (beyond done q p) =
          let r = first_line d i of_tx s answered in
          let there : IsIn (says x.first.place r.0) st.front = subst (IsIn (says x.first.place r.0)) (sym q)
          (Has-front (λ z. z ≡ says x.first.place r.0) (flat_map deeds_of at.before ++ deeds_of x.first) done
          (Has-back (λ z. z ≡ says x.first.place r.0) (flat_map deeds_of at.before) (deeds_of x.first) (said_here x.first r.0 r.1 r.2))) in
          let shown = said_event (caller_of t.owner) x.first.place r.0 a
          (subst (IsIn (says x.first.place r.0)) (sym st.parts) (Has-front (λ z. z ≡ says x.first.place r.0) st.front (asks k.decide ∷ st.back) there)) in
          in_Each (λ y. IsLineOf (caller_of t.owner) x.first.place y → ⊥) (shows (caller_of t.owner) x.first.place r.0) a shown none (refl, refl)

  -- ---- a turn

  -- the giving of its work stands before it asked for its decision
  given_began : (a b c : List Event) (shown : Event) → h ≡ (a ++ shown ∷ b) ++ gives (caller_of t.owner) x.first.place ∷ c → Asked a → IsWork x.first.doing → ⊥
  given_began a b c shown e k work =
      let each : EachBehind (λ before i. IsWork i.doing → WasGiven (caller_of t.owner) h before i) [] (at.before ++ x.first ∷ at.later) =
      subst (EachBehind (λ before i. IsWork i.doing → WasGiven (caller_of t.owner) h before i) []) at.parts (order.given (caller_of t.owner) (x.front ++ x.stretch ++ x.back) x.parts) in
      let v = behind_at (λ before i. IsWork i.doing → WasGiven (caller_of t.owner) h before i) [] at.before x.first at.later each work in
      let same : a ++ shown ∷ b ≡ v.0 = one_giving (caller_of t.owner) x.first.place (a ++ shown ∷ b) c v.0 v.1
      (subst (λ l. Ascends nat_cmp (places_in (caller_of t.owner) l)) e (order.once (caller_of t.owner) (x.front ++ x.stretch ++ x.back) x.parts)) (sym e ∙ v.3) in
      let there : IsIn (asks k.decide) (deeds_in (caller_of t.owner) (a ++ shown ∷ b)) = subst (IsIn (asks k.decide)) (sym (deeds_append (caller_of t.owner) a (shown ∷ b)))
      (Has-front (λ z. z ≡ asks k.decide) (deeds_in (caller_of t.owner) a) (deeds_in (caller_of t.owner) (shown ∷ b)) k.before) in
      let early : IsIn (asks k.decide) (flat_map deeds_of at.before) = subst (IsIn (asks k.decide)) (sym v.4)
      (Has-front (λ z. z ≡ asks k.decide) (deeds_in (caller_of t.owner) v.0) v.2 (subst (λ l. IsIn (asks k.decide) (deeds_in (caller_of t.owner) l)) same there)) in
      not_before k.decide early (asks_its a k)

  -- a number that a line of its item shows is its own
  own_number : (r : Reply) (k n : ℕ) → IsIn r x.first.lines → moving_number r ≡ Some k → IsDecidedAs w.logs t.tx n → k ≡ n
  own_number r k n line q dec =
      let tells : ShowsAnswered x.first = in_Each ShowsAnswered x.first (x.front ++ x.stretch ++ x.back) first_in (each_got (λ l. Each ShowsAnswered l) w.lists (caller_of t.owner) (x.front ++ x.stretch ++ x.back) g.numbers x.parts) in
      let was = moving_decided x.first.calls r k (in_Each (λ r. MatchOption (number_of r) ⊤ (λ n. WasDecided n x.first.calls)) r x.first.lines line tells) q in
      let so = answered_so laws w further g right grows t known x.first k (subst (IsIn x.first) (sym x.items) (inl refl)) was in
      let u = found (λ (z : Decided). (z.tx ≡ t.tx) × (z.number ≡ k)) (decided w.logs) so in
      let v = found (λ (z : Decided). (z.tx ≡ t.tx) × (z.number ≡ n)) (decided w.logs) dec in
      sym u.2.1 ∙ ap (λ z. z.number) (one_decision u.0 v.0 (decided w.logs) right.decisions.once u.1 v.1 (u.2.0 ∙ sym v.2.0)) ∙ v.2.1
    where
      first_in : IsIn x.first (x.front ++ x.stretch ++ x.back)
      first_in = subst (IsIn x.first) (sym at.parts) (is_there x.first at.before at.later)

  -- no item behind it shows its number
  not_behind : (r : Reply) (n : ℕ) (j : Item) → x.others ≡ [] → IsIn j at.later → IsIn r j.lines → moving_number r ≡ Some n → IsDecidedAs w.logs t.tx n → ⊥
  not_behind r n j alone within line q dec =
      in_Each (λ c. tx_asked c.request ≡ Some t.tx → ⊥) c.0 (calls_of x.back) there
      (behind_none laws.ascend w.base w.logs w.trails w.lists (fes laws w further g right grows).0 (callings laws w further g right grows) (fes laws w further g right grows).1 t x
      (laws.owner w.base w.logs w.trails (map calls_of w.lists) (fes laws w further g right grows).0 t.tx (callings laws w further g right grows) (fes laws w further g right grows).1
      (its_given laws w further g right grows t known)))
      (ap tx_asked p.2 ∙ ap (λ z. Some z) same)
    where
      j_in : IsIn j (x.front ++ x.stretch ++ x.back)
      j_in = subst (IsIn j) (sym at.parts) (Has-back (λ z. z ≡ j) at.before (x.first ∷ at.later) (inr within))

      tells : ShowsAnswered j
      tells = in_Each ShowsAnswered j (x.front ++ x.stretch ++ x.back) j_in (each_got (λ l. Each ShowsAnswered l) w.lists (caller_of t.owner) (x.front ++ x.stretch ++ x.back) g.numbers x.parts)

      c : (c : Call) × IsIn c j.calls × IsTrue (is_decide c.request) × (c.answer ≡ answer.Decided (record { 0 = n }))
      c = was_decided n j.calls (moving_decided j.calls r n (in_Each (λ r. MatchOption (number_of r) ⊤ (λ n. WasDecided n j.calls)) r j.lines line tells) q)

      p : (tx : Tx) × (votes : List Vote) × (c.0.request ≡ request.Decide tx votes)
      p = decides c.0.request c.2

      there : IsIn c.0 (calls_of x.back)
      there = subst (IsIn c.0) (at.later_calls ∙ ap (λ l. calls_of l ++ calls_of x.back) alone) (in_calls j c.0 at.later within c.1)

      so : IsDecidedAs w.logs p.0.0 n
      so =
          decided_so laws w further g right grows p.0.0 n
          (Has-in (IsToldDecided p.0.0 n) (asked_by c.0) (asked_of (fes laws w further g right grows).0)
          (of_fes laws w further g right grows (caller_of t.owner) (x.front ++ x.stretch ++ x.back) j c.0 x.parts j_in c.1 (subst IsForFes (sym p.2) tt) (λ z. false≢true (subst (λ y. IsTrue (tells_nothing y)) c.3 z)))
          (record { asked = inr (p.1, p.2); answered = c.3 }))

      same : p.0.0 ≡ t.tx
      same =
          let u = found (λ (z : Decided). (z.tx ≡ p.0.0) × (z.number ≡ n)) (decided w.logs) so in
          let v = found (λ (z : Decided). (z.tx ≡ t.tx) × (z.number ≡ n)) (decided w.logs) dec in
          sym u.2.0 ∙ ap (λ z. z.tx) (of_number u.0 v.0 (decided w.logs) right.decisions.ascend u.1 v.1 (u.2.1 ∙ sym v.2.1)) ∙ v.2.0

  -- a MOVED of another turn, with none of its work between it and its own line, stands before it asked for its decision
  moved_began : (a front mid rest : List Event) (r s : Reply) (j n : ℕ) → h ≡ front ++ shows (caller_of t.owner) x.first.place r ∷ (mid ++ shows (caller_of t.owner) x.first.place s ∷ rest)
      → ((d : Deed) → IsIn d (deeds_in (caller_of t.owner) a) → IsIn d (deeds_in (caller_of t.owner) front))
      → Asked a → x.others ≡ [] → moving_number r ≡ Some j → (j ≡ n → ⊥) → moving_number s ≡ Some n → IsDecidedAs w.logs t.tx n → ⊥
  moved_began a front mid rest r s j n e within k alone moves differs own dec =
      by (cut (flat_map deeds_of at.before) (deeds_of x.first ++ flat_map deeds_of at.later) (deeds_in (caller_of t.owner) front) (says x.first.place r)
      (deeds_in (caller_of t.owner) mid ++ says x.first.place s ∷ deeds_in (caller_of t.owner) rest) parts)
    where
      parts : flat_map deeds_of at.before ++ (deeds_of x.first ++ flat_map deeds_of at.later)
          ≡ deeds_in (caller_of t.owner) front ++ says x.first.place r ∷ (deeds_in (caller_of t.owner) mid ++ says x.first.place s ∷ deeds_in (caller_of t.owner) rest)
      parts =
          sym own_deeds ∙ ap (deeds_in (caller_of t.owner)) e
          ∙ shown_deed (caller_of t.owner) x.first.place r front (mid ++ shows (caller_of t.owner) x.first.place s ∷ rest) (quiet r j (moving_shown r j moves))
          ∙ ap (λ l. deeds_in (caller_of t.owner) front ++ says x.first.place r ∷ l) (shown_deed (caller_of t.owner) x.first.place s mid rest (quiet s n (moving_shown s n own)))

      behind : (done : List Deed)
          → Cut (deeds_of x.first) (flat_map deeds_of at.later) done (says x.first.place r) (deeds_in (caller_of t.owner) mid ++ says x.first.place s ∷ deeds_in (caller_of t.owner) rest) → ⊥
      behind done (inside more q) =
          differs (own_number r j n (one_said x.first.place r x.first (subst (IsIn (says x.first.place r)) (sym q) (is_there (says x.first.place r) done more))).1 moves dec)
      behind done (beyond later q p) =
          let there : IsIn (says x.first.place s) (flat_map deeds_of at.later) = subst (IsIn (says x.first.place s)) (sym p)
          (Has-back (λ z. z ≡ says x.first.place s) later (says x.first.place r ∷ (deeds_in (caller_of t.owner) mid ++ says x.first.place s ∷ deeds_in (caller_of t.owner) rest))
          (inr (is_there (says x.first.place s) (deeds_in (caller_of t.owner) mid) (deeds_in (caller_of t.owner) rest)))) in
          let i = said_within x.first.place s at.later there in
          not_behind s n i.0 alone i.1 i.2 own dec

      by : Cut (flat_map deeds_of at.before) (deeds_of x.first ++ flat_map deeds_of at.later) (deeds_in (caller_of t.owner) front) (says x.first.place r)
          (deeds_in (caller_of t.owner) mid ++ says x.first.place s ∷ deeds_in (caller_of t.owner) rest) → ⊥
      by (inside more q) =
          not_before k.decide (subst (IsIn (asks k.decide)) (sym q) (Has-front (λ z. z ≡ asks k.decide) (deeds_in (caller_of t.owner) front) (says x.first.place r ∷ more) (within (asks k.decide) k.before)))
          (asks_its a k)
      by (beyond done q p) =
          behind done (cut (deeds_of x.first) (flat_map deeds_of at.later) done (says x.first.place r) (deeds_in (caller_of t.owner) mid ++ says x.first.place s ∷ deeds_in (caller_of t.owner) rest) p)

  turn_began : (a b c : List Event) (shown e : Event) (n : ℕ) → h ≡ (a ++ shown ∷ b) ++ e ∷ c → Asked a → x.others ≡ [] → IsTurning x.first.doing → IsDecidedAs w.logs t.tx n
      → TurnBegins (a ++ shown ∷ b) e c (caller_of t.owner) x.first.place n → ⊥
  turn_began a b c shown e n parts k alone turning dec (mid, own, rest, back, line, number, begin) = by begin
    where
      front_deeds : (d : Deed) → IsIn d (deeds_in (caller_of t.owner) a) → IsIn d (deeds_in (caller_of t.owner) (a ++ shown ∷ b))
      front_deeds d i =
          subst (IsIn d) (sym (deeds_append (caller_of t.owner) a (shown ∷ b))) (Has-front (λ z. z ≡ d) (deeds_in (caller_of t.owner) a) (deeds_in (caller_of t.owner) (shown ∷ b)) i)

      by : (IsMovedOf (caller_of t.owner) x.first.place e × (¬ (ShowsTurn n e))) ⊎ IsGivingOf (caller_of t.owner) x.first.place e → ⊥
      by (inl m) =
          let r = moved_is (caller_of t.owner) x.first.place e m.0 in
          let s = line_is (caller_of t.owner) x.first.place own line in
          let whole : h ≡ (a ++ shown ∷ b) ++ shows (caller_of t.owner) x.first.place r.0 ∷ (mid ++ shows (caller_of t.owner) x.first.place s.0 ∷ rest) =
          parts ∙ ap (λ l. (a ++ shown ∷ b) ++ e ∷ l) back ∙ ap (λ z. (a ++ shown ∷ b) ++ z ∷ (mid ++ own ∷ rest)) r.1
          ∙ ap (λ z. (a ++ shown ∷ b) ++ shows (caller_of t.owner) x.first.place r.0 ∷ (mid ++ z ∷ rest)) s.1 in
          moved_began a (a ++ shown ∷ b) mid rest r.0 s.0 r.2 n whole front_deeds k alone r.3 (λ q. m.1 (subst (ShowsTurn n) (sym r.1) (r.3 ∙ ap (λ z. Some z) q))) (subst (ShowsTurn n) s.1 number) dec
      by (inr y) =
          given_began a b c shown (subst (λ z. h ≡ (a ++ shown ∷ b) ++ z ∷ c) (giving_is (caller_of t.owner) x.first.place e y) parts) k (turn_is_work x.first.doing turning)

  -- ---- either

  began : (a b c : List Event) (shown e : Event) (n : ℕ) → h ≡ (a ++ shown ∷ b) ++ e ∷ c → Asked a → IsDecidedAs w.logs t.tx n
      → BeginsAt (a ++ shown ∷ b) e c (caller_of t.owner) x.first.place n x.first.doing → AreOfAKind t.items → ⊥
  began a b c shown e n parts k dec begin (inl s) =
      let d = found (λ (z : Decided). (z.tx ≡ t.tx) × (z.number ≡ n)) (decided w.logs) dec in
      let statements = subst (λ l. Each (λ i. IsOfStatements i.doing) l × AllAnswered l) x.items s in
      let none = statements_begin (a ++ shown ∷ b) e c (caller_of t.owner) x.first.place n x.first.doing statements.0.0 begin in
      statements_began a (shown ∷ b ++ e ∷ c) (parts ∙ append_assoc a (shown ∷ b) (e ∷ c)) k d.0 d.1 d.2.0 statements.0.0 statements.1 (front_none a (shown ∷ b) none)
    where
      front_none : (us vs : List Event) → Each (λ y. ¬ (IsLineOf (caller_of t.owner) x.first.place y)) (us ++ vs) → Each (λ y. ¬ (IsLineOf (caller_of t.owner) x.first.place y)) us
      front_none [] vs h = tt
      front_none (u ∷ us) vs h = (h.0, front_none us vs h.1)
  began a b c shown e n parts k dec begin (inr s) =
      let one = cons_is x.first s.0 x.others [] (sym x.items ∙ s.1) in
      let turning : IsTurning x.first.doing = subst (λ i. IsTurning i.doing) (sym one.0) s.2 in
      turn_began a b c shown e n parts k one.1 turning dec (turn_begins (a ++ shown ∷ b) e c (caller_of t.owner) x.first.place n x.first.doing turning begin)

  pub greater : (a b c : List Event) (shown e : Event) (m n : ℕ) (i : Item) (more : List Item) → h ≡ a ++ shown ∷ b ++ e ∷ c → Shows m shown → t.items ≡ i ∷ more → IsDecidedAs w.logs t.tx n
      → BeginsAt (a ++ shown ∷ b) e c (caller_of t.owner) i.place n i.doing → m < n
  greater a b c shown e m n i more parts shows_m is dec begin = by (greater_or_asked laws grow w further g right grows h hist order t known a (b ++ e ∷ c) line.0 line.1 line.2 m n whole line.4 dec)
    where
      line : (c : ℕ) × (p : ℕ) × (r : Reply) × (shown ≡ shows c p r) × (number_shown r ≡ Some m)
      line = shown_is m shown shows_m

      whole : h ≡ a ++ shows line.0 line.1 line.2 ∷ (b ++ e ∷ c)
      whole = parts ∙ append_assoc a (shown ∷ b) (e ∷ c) ∙ ap (λ z. a ++ z ∷ (b ++ e ∷ c)) line.3

      first : i ≡ x.first
      first = (cons_is i x.first more x.others (sym is ∙ x.items)).0

      by : (m < n) ⊎ Asked a → m < n
      by (inl lt) = lt
      by (inr k) =
          absurd (began a b c shown e n parts k dec (subst (λ z. BeginsAt (a ++ shown ∷ b) e c (caller_of t.owner) z.place n z.doing) first begin)
          (its_right laws w further g right grows t known).kinds)
