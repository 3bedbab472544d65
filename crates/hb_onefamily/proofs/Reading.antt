-- A decided transaction's row answers are those of the rows of smaller numbers and its own writes before.
use Rattle.std.proofs.Common.{◌≡◌, ◌∙◌, ℕ, zero, suc, ◌+◌, ◌<◌, Bool, true, false, List, [], ◌∷◌, ◌++◌, Some, ap, arith, inr, length, map, refl, subst, sym, Option}
use Rattle.std.specs.Prelude.{IsTrue, slice_get, filter, ◌||◌, not, ◌==◌}
use Rattle.std.specs.Ordering.{nat_cmp}
use Rattle.std.proofs.lemmas.Bool.{false≢true}
use Rattle.std.proofs.lemmas.List.Elements.{filter-append}
use Rattle.hb_types.specs.declared.answer.Answer.{Answer}
use Rattle.hb_types.specs.declared.answer.Answer.TheVariants as answer
use Rattle.hb_types.specs.declared.change.LogItem.{LogItem}
use Rattle.hb_types.specs.declared.change.Stored.{Stored}
use Rattle.hb_types.specs.declared.names.Tx.{Tx}
use Rattle.hb_types.specs.declared.places.Path.TheVariants as path
use Rattle.hb_types.specs.declared.places.Place.{Place}
use Rattle.hb_types.specs.declared.places.Space.{Space}
use Rattle.hb_types.specs.declared.request.Request.{Request}
use Rattle.hb_types.specs.declared.request.Request.TheVariants as request
use Rattle.hb_types.specs.declared.trail.Call.{Call}
use Rattle.hb_types.specs.Lists.{Ascends, Each, EachBehind, Has, IsIn}
use Rattle.hb_types.specs.Put.{lookup, put_all, rows_under}
use Rattle.hb_types.proofs.Ascending.{Each-front, Has-back, Has-front, in_Each}
use Rattle.hb_types.proofs.PutLaws.{by_test}
use Rattle.hb_loglaws.proofs.Members.{Has-in, found}
use Rattle.hb_model.specs.Answers.{AnswersOf, IsAnswerOf, afters, is_decide, rows_in, rows_of}
use Rattle.hb_disks.specs.Images.{Logs, decided, family}
use Rattle.hb_disks.specs.LogPlaces.{end_behind}
use Rattle.hb_disks.specs.LogRules.{NumOK}
use Rattle.hb_disks.specs.Redo.{Decided}
use Rattle.hb_disks.specs.Says.{below, held, prepares}
use Rattle.hb_disks.specs.StandsFor.{Agrees, AreLogs, HasPrepared, HasVoted}
use Rattle.hb_runs.specs.Coordinator as coordinator
use Rattle.hb_runs.specs.ServerRuns.{Asked}
use Rattle.hb_law.specs.Callers.{Asks, AsksAt, HasAskedAt, IsOpen, is_enlist, votes_in}
use Rattle.hb_law.specs.Histories.{Labelled, Trails, asked_by, asked_of, calls_at, stands}
use Rattle.hb_law.specs.Transactions.{tx_asked}
use Rattle.hb_serverlaws.specs.Trails.{Ran, whole, writes_of}
use Rattle.hb_readlaws.specs.Ordering.{GroupsAreOrdered, IsDecidedRead, RowsAreOrdered, SpacesAreOrdered, group_read, row_read, seen_by, space_read}
use Rattle.hb_parts.specs.Callings.{Callings, tells_nothing}
use Rattle.hb_parts.specs.Courses.{IsCourse, IsOwned, Within, is_own}
use Rattle.hb_parts.specs.Voting.{IsNewDecision, KeptRan, ServersRan, is_kept, kept}
use Rattle.hb_whose.proofs.Parts.{behind_at, is_there, kept_twice, none_some, unkept}
use Rattle.hb_whose.proofs.Trailing.{calls_at_append, own_of, own_parts, same_number}
use Rattle.hb_onefamily.proofs.Leaving.{WritesOwn, answers_by_parts, own_writes, rows_after, rows_in_map, writes_filter}
use Rattle.hb_onefamily.proofs.Placing.{AtServer, Before, at_server, before_decide, below_front, named}

-- the laws that this part stands on
pub record Laws : Type 0 where
  pub rows : RowsAreOrdered
  pub spaces : SpacesAreOrdered
  pub groups : GroupsAreOrdered
  pub servers : ServersRan

fes_row : (up : Bool) (u : coordinator.CState) (tx : Tx) (p : Place) (row : Option (List ℕ)) → coordinator.RightIn up u (request.Read tx p) (answer.Row row) → ⊥
fes_row true u tx p row r = r
fes_row false u tx p row r = r

fes_space : (up : Bool) (u : coordinator.CState) (tx : Tx) (p : Space) (rows : List Stored) → coordinator.RightIn up u (request.Scan tx p) (answer.Rows rows)
    → ⊥
fes_space true u tx p rows r = r
fes_space false u tx p rows r = r

fes_group : (up : Bool) (u : coordinator.CState) (tx : Tx) (p : Space) (g : ℕ) (rows : List Stored)
    → coordinator.RightIn up u (request.ScanGroup tx p g) (answer.Rows rows) → ⊥
fes_group true u tx p g rows r = r
fes_group false u tx p g rows r = r

-- an answer is right if each row answer is
answer_of : (rows : List Stored) (q : Request) (a : Answer)
    → ((tx : Tx) (p : Place) (row : Option (List ℕ)) → q ≡ request.Read tx p → a ≡ answer.Row row → row ≡ lookup p rows)
    → ((tx : Tx) (p : Space) (found : List Stored) → q ≡ request.Scan tx p → a ≡ answer.Rows found → found ≡ rows_under (path.Whole p) rows)
    → ((tx : Tx) (p : Space) (g : ℕ) (found : List Stored) → q ≡ request.ScanGroup tx p g → a ≡ answer.Rows found → found ≡ rows_under (path.Group p g) rows)
    → IsAnswerOf rows q a
answer_of rows (request.Read tx p) (answer.Row row) f g h = f tx p row refl refl
answer_of rows (request.Scan tx p) (answer.Rows found) f g h = g tx p found refl refl
answer_of rows (request.ScanGroup tx p gr) (answer.Rows found) f g h = h tx p gr found refl refl
answer_of rows q a f g h = tt

module _ (laws : Laws) (base logs : Logs) (trails : Trails) (lists : List (List Call)) (fes : List Labelled) (front back : List Decided) (d : Decided)
    (k : Callings base logs trails lists) (right : AreLogs logs) (at : slice_get trails 0 ≡ Some fes) (whole_is : decided logs ≡ front ++ d ∷ back)
    (nd : IsNewDecision trails lists fes d) where
  o : IsOwned trails lists d.tx
  o = nd.owned

  course_in : (x : Call) → IsIn x nd.owned.course → IsIn x nd.owned.list
  course_in x i =
      subst (IsIn x) (sym nd.owned.parts) (Has-back (λ y. y ≡ x) nd.owned.before (nd.owned.begin ∷ (nd.owned.course ++ nd.owned.after))
      (inr (Has-front (λ y. y ≡ x) nd.owned.course nd.owned.after i)))

  -- the decisions of smaller numbers
  pub below_is : below d.number (decided logs) ≡ front
  below_is = ap (below d.number) whole_is ∙ below_front d front back (subst (Ascends (λ a b. nat_cmp a.number b.number)) whole_is right.decisions.ascend)

  pub is_decided : IsIn d (decided logs)
  is_decided = subst (IsIn d) (sym whole_is) (is_there d front back)

  -- ---- votes

  -- at a server of its own the transaction has voted
  pub voted_at : (node place : ℕ) (after : List LogItem) → node ≡ suc place → slice_get logs.servers place ≡ Some after
      → HasAskedAt is_enlist node nd.is_decided.front
      → HasPrepared after d
  voted_at node place after e h asked =
      let c = found (AsksAt is_enlist node) nd.is_decided.front asked in
      let v : Has (λ v. v.node.0 ≡ c.0.node.0) (votes_in nd.is_decided.front) = in_Each
      (λ y. Asks is_enlist y → Has (λ v. v.node.0 ≡ y.node.0) (votes_in nd.is_decided.front)) c.0 nd.is_decided.front c.1 nd.is_decided.all c.2.1 in
      let w : Has (λ v. v.node.0 ≡ place + 1) nd.is_decided.votes = subst (λ n. Has (λ v. v.node.0 ≡ n) nd.is_decided.votes) (c.2.0 ∙ e ∙ one_more place)
      (subst (Has (λ v. v.node.0 ≡ c.0.node.0)) (sym nd.is_decided.told) v) in
      (in_Each (HasVoted (place + 1) after) d (decided logs) is_decided (right.votes_and_outcomes.servers place after h).voted).0
      (named (place + 1) d nd.is_decided.votes nd.is_decided.nodes w)
    where
      one_more : (n : ℕ) → suc n ≡ n + 1
      one_more n = omega arith

  -- ---- writes

  own_within : (t : ℕ) (f : List Call) (node : ℕ) (q : Request) → Within t f node q → WritesOwn t q
  own_within t f node (request.Write tx c) w = w.0
  own_within t f node q w = tt

  own_calls : (t : ℕ) (done calls : List Call) → EachBehind (λ f c. Within t f c.node.0 c.request) done calls → Each (λ c. WritesOwn t c.request) calls
  own_calls t done [] e = tt
  own_calls t done (c ∷ cs) e = (own_within t done c.node.0 c.request e.0, own_calls t (done ++ c ∷ []) cs e.1)

  own_at : (t node : ℕ) (calls : List Call) → Each (λ c. WritesOwn t c.request) calls → Each (λ a. WritesOwn t a.request) (calls_at node calls)
  own_at t node [] e = tt
  own_at t node (c ∷ cs) e = by_test (c.node.0 == node) (λ u. rw u (e.0, own_at t node cs e.1)) (λ u. rw u (own_at t node cs e.1))

  pub course_owns : Each (λ c. WritesOwn d.tx c.request) nd.owned.course
  course_owns = own_calls d.tx [] nd.owned.course nd.owned.is_course

  -- the rows of a server behind a part of the course
  pub rows_behind : (place : ℕ) (after : List LogItem) (done more : List Call) → slice_get logs.servers place ≡ Some after → nd.owned.course ≡ done ++ more
      → rows_in place (afters (family logs front) done) ≡ put_all (held after front) (writes_of d.tx (calls_at (suc place) done))
  rows_behind place after done more h e =
      rows_after place (family logs front) done (within logs.servers place h)
      ∙ ap (λ ws. put_all (rows_in place (family logs front)) ws)
      (own_writes d.tx (calls_at (suc place) done)
      (own_at d.tx (suc place) done (Each-front (λ c. WritesOwn d.tx c.request) done more (subst (Each (λ c. WritesOwn d.tx c.request)) e course_owns))))
      ∙ ap (λ rows. put_all rows (writes_of d.tx (calls_at (suc place) done))) (rows_in_map (λ log. held log front) logs.servers place after h)
    where
      within : (xs : List (List LogItem)) (i : ℕ) → slice_get xs i ≡ Some after → i < length (map (λ log. held log front) xs)
      within [] i h = absurd (none_some after h)
      within (y ∷ ys) zero h = omega arith
      within (y ∷ ys) (suc i) h = let r = within ys i h in omega (arith, r)

  -- ---- one call of the course

  pub wider : (t : ℕ) (a : Asked) → is_own t a ≡ true → is_kept a ≡ true
  wider t a u = let s = (own_parts t a u).1 in rw s (or_true (not (is_enlist a.request)))
    where
      or_true : (b : Bool) → (b || true) ≡ true
      or_true true = refl
      or_true false = refl

  module _ (done : List Call) (x : Call) (rest : List Call) (parts : nd.owned.course ≡ done ++ x ∷ rest) where
    pub here : Within d.tx done x.node.0 x.request
    here = behind_at (λ f y. Within d.tx f y.node.0 y.request) [] done x rest (subst (IsCourse d.tx) parts nd.owned.is_course)

    -- where it stands in its server's trail, and what the law of order says there
    pub record StoodAt : Type 0 where
      pub server : AtServer base logs trails x.node.0
      pub run : KeptRan server.before server.after server.trail
      pub ahead : List Asked
      pub behind : List Asked
      pub read : IsDecidedRead server.before (end_behind 0 server.before) ahead (asked_by x) behind run.last (decided logs) d.tx d.number
      pub rows : seen_by (whole server.before run.last) (decided logs) d.number (writes_of d.tx ahead) ≡ rows_of x.node.0 (afters (family logs front) done)

    module _ (asks : tx_asked x.request ≡ Some d.tx) (open_at : IsOpen x.node.0 done) (plain : is_decide x.request ≡ false)
        (tells : IsTrue (tells_nothing x.answer) → ⊥)
        (stood : stands (asked_by x) ≡ true) (not_fes : (u : coordinator.CState) → coordinator.Right u x.request x.answer → ⊥) where
      server : AtServer base logs trails x.node.0
      server =
          at_server base logs trails lists k fes at nd.owned.caller nd.owned.list x nd.owned.its_list
          (course_in x (subst (IsIn x) (sym parts) (is_there x done rest))) tells stood not_fes

      run_of : (s : AtServer base logs trails x.node.0) → KeptRan s.before s.after s.trail
      run_of s =
          laws.servers base logs trails lists s.place s.before s.after s.trail k s.got_before s.got_after
          (subst (λ n. slice_get trails n ≡ Some s.trail) (one_more s.place) s.got_trail)
        where
          one_more : (n : ℕ) → suc n ≡ n + 1
          one_more n = omega arith

      early : Before nd.is_decided.front done x
      early =
          before_decide d.tx nd.owned.course nd.is_decided.front nd.is_decided.decide nd.is_decided.back done x rest nd.is_decided.parts nd.is_decided.nothing_behind parts asks
          (λ e. false≢true (sym plain ∙ ap (λ y. is_decide y.request) e ∙ ap is_decide nd.is_decided.asked))

      enlisted : HasAskedAt is_enlist x.node.0 nd.is_decided.front
      enlisted = subst (HasAskedAt is_enlist x.node.0) (sym early.parts) (Has-front (AsksAt is_enlist x.node.0) done (x ∷ early.more) open_at.enlisted)

      -- its own entries of the trail are those of the course
      in_kept : (s : AtServer base logs trails x.node.0)
          → filter (is_own d.tx) (kept s.trail) ≡ filter (is_own d.tx) (calls_at x.node.0 done) ++ asked_by x ∷ filter (is_own d.tx) (calls_at x.node.0 rest)
      in_kept s =
          kept_twice (is_own d.tx) is_kept (wider d.tx) (asked_of s.trail)
          ∙ nd.owned.in_trails x.node.0 s.trail (subst (λ n. slice_get trails n ≡ Some s.trail) (sym s.is) s.got_trail)
          ∙ ap (λ c. filter (is_own d.tx) (calls_at x.node.0 c)) parts ∙ ap (filter (is_own d.tx)) (calls_at_append x.node.0 done (x ∷ rest))
          ∙ filter-append (is_own d.tx) (calls_at x.node.0 done) (calls_at x.node.0 (x ∷ rest))
          ∙ ap (λ l. filter (is_own d.tx) (calls_at x.node.0 done) ++ l) first
        where
          first : filter (is_own d.tx) (calls_at x.node.0 (x ∷ rest)) ≡ asked_by x ∷ filter (is_own d.tx) (calls_at x.node.0 rest)
          first = let u = same_number x.node.0 in let v = own_of d.tx (asked_by x) asks stood in rw (u, v) refl

      stood_at : (s : AtServer base logs trails x.node.0) → StoodAt
      stood_at s =
          let r = run_of s in
          let u = unkept (is_own d.tx) (kept s.trail) (filter (is_own d.tx) (calls_at x.node.0 done)) (asked_by x)
          (filter (is_own d.tx) (calls_at x.node.0 rest)) (in_kept s) in
          let agrees : Agrees (decided logs) (s.place + 1) s.after = right.votes_and_outcomes.servers s.place s.after s.got_after in
          let writes : writes_of d.tx u.front ≡ writes_of d.tx (calls_at x.node.0 done) = sym (writes_filter d.tx u.front) ∙ ap (writes_of d.tx) u.before
          ∙ writes_filter d.tx (calls_at x.node.0 done) in
          record {
            server = s;
            run = r;
            ahead = u.front;
            behind = u.back;
            read =
                record {
                  ran = subst (λ l. Ran s.before (end_behind 0 s.before) l r.last) u.parts r.ran;
                  numbers = subst (λ l. NumOK l (decided logs)) r.log agrees.numbers;
                  decisions = right.decisions;
                  is_decided = Has-in (λ e. (e.tx ≡ d.tx) × (e.number ≡ d.number)) d (decided logs) is_decided (refl, refl);
                  voted = subst (λ l. Has (λ p. p.tx ≡ d.tx) (prepares l)) r.log (voted_at x.node.0 s.place s.after s.is s.got_after enlisted);
                };
            rows =
                ap (λ l. put_all (held l (below d.number (decided logs))) (writes_of d.tx u.front)) (sym r.log)
                ∙ ap (λ ds. put_all (held s.after ds) (writes_of d.tx u.front)) below_is
                ∙ ap (λ ws. put_all (held s.after front) ws) (writes ∙ ap (λ n. writes_of d.tx (calls_at n done)) s.is)
                ∙ sym (rows_behind s.place s.after done (x ∷ rest) s.got_after parts)
                ∙ ap (λ n. rows_of n (afters (family logs front) done)) (sym s.is);
          }

      pub stood_here : StoodAt
      stood_here = stood_at server

    -- ---- by kind

    row_answer : (tx : Tx) (p : Place) (row : Option (List ℕ)) → x.request ≡ request.Read tx p → x.answer ≡ answer.Row row
        → row ≡ lookup p (rows_of x.node.0 (afters (family logs front) done))
    row_answer tx p row e f =
        let w : (tx.0 ≡ d.tx) × IsOpen x.node.0 done = subst (Within d.tx done x.node.0) e here in
        let it : asked_by x ≡ row_read d.tx p row = λ i. record { request = (e ∙ ap (λ n. request.Read (record { 0 = n }) p) w.0) i; answer = f i } in
        let s = stood_here (ap tx_asked e ∙ ap (λ n. Some n) w.0) w.1 (ap is_decide e) (λ h. false≢true (subst (λ a. IsTrue (tells_nothing a)) f h))
        (ap stands it)
        (λ u r. fes_row u.up u (record { 0 = d.tx }) p row (subst (λ z. coordinator.Right u z.request z.answer) it r)) in
        laws.rows s.server.before (end_behind 0 s.server.before) s.ahead s.behind s.run.last (decided logs) d.tx d.number p row
        (subst (λ z. IsDecidedRead s.server.before (end_behind 0 s.server.before) s.ahead z s.behind s.run.last (decided logs) d.tx d.number) it s.read)
        ∙ ap (lookup p) s.rows

    space_answer : (tx : Tx) (p : Space) (rows : List Stored) → x.request ≡ request.Scan tx p → x.answer ≡ answer.Rows rows
        → rows ≡ rows_under (path.Whole p) (rows_of x.node.0 (afters (family logs front) done))
    space_answer tx p rows e f =
        let w : (tx.0 ≡ d.tx) × IsOpen x.node.0 done = subst (Within d.tx done x.node.0) e here in
        let it : asked_by x ≡ space_read d.tx p rows = λ i. record { request = (e ∙ ap (λ n. request.Scan (record { 0 = n }) p) w.0) i; answer = f i } in
        let s = stood_here (ap tx_asked e ∙ ap (λ n. Some n) w.0) w.1 (ap is_decide e) (λ h. false≢true (subst (λ a. IsTrue (tells_nothing a)) f h))
        (ap stands it)
        (λ u r. fes_space u.up u (record { 0 = d.tx }) p rows (subst (λ z. coordinator.Right u z.request z.answer) it r)) in
        laws.spaces s.server.before (end_behind 0 s.server.before) s.ahead s.behind s.run.last (decided logs) d.tx d.number p rows
        (subst (λ z. IsDecidedRead s.server.before (end_behind 0 s.server.before) s.ahead z s.behind s.run.last (decided logs) d.tx d.number) it s.read)
        ∙ ap (rows_under (path.Whole p)) s.rows

    group_answer : (tx : Tx) (p : Space) (g : ℕ) (rows : List Stored) → x.request ≡ request.ScanGroup tx p g → x.answer ≡ answer.Rows rows
        → rows ≡ rows_under (path.Group p g) (rows_of x.node.0 (afters (family logs front) done))
    group_answer tx p g rows e f =
        let w : (tx.0 ≡ d.tx) × IsOpen x.node.0 done = subst (Within d.tx done x.node.0) e here in
        let it : asked_by x ≡ group_read d.tx p g rows = λ i. record {
          request = (e
              ∙ ap (λ n. request.ScanGroup (record { 0 = n }) p g) w.0) i;
          answer = f i;
        } in
        let s = stood_here (ap tx_asked e ∙ ap (λ n. Some n) w.0) w.1 (ap is_decide e) (λ h. false≢true (subst (λ a. IsTrue (tells_nothing a)) f h))
        (ap stands it)
        (λ u r. fes_group u.up u (record { 0 = d.tx }) p g rows (subst (λ z. coordinator.Right u z.request z.answer) it r)) in
        laws.groups s.server.before (end_behind 0 s.server.before) s.ahead s.behind s.run.last (decided logs) d.tx d.number p g rows
        (subst (λ z. IsDecidedRead s.server.before (end_behind 0 s.server.before) s.ahead z s.behind s.run.last (decided logs) d.tx d.number) it s.read)
        ∙ ap (rows_under (path.Group p g)) s.rows

    call_answer : IsAnswerOf (rows_of x.node.0 (afters (family logs front) done)) x.request x.answer
    call_answer = answer_of (rows_of x.node.0 (afters (family logs front) done)) x.request x.answer row_answer space_answer group_answer

  pub answers : AnswersOf (family logs front) nd.owned.course
  answers = answers_by_parts (family logs front) nd.owned.course (λ done x rest e. call_answer done x rest e)
