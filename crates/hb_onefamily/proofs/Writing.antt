-- With a decided transaction's writes the rows of smaller numbers are those of its own.
use Rattle.std.proofs.Common.{◌≡◌, ◌≢◌, ◌⊎◌, ◌∙◌, ℕ, suc, ◌+◌, true, false, List, [], ◌∷◌, ◌++◌, Some, ap, append_assoc, append-nil, arith, inl, inr, length, map, refl, subst, sym}
use Rattle.std.specs.Prelude.{IsTrue, slice_get, filter, ◌==◌}
use Rattle.std.specs.List.{list_any}
use Rattle.std.proofs.lemmas.Bool.{eqb-true, false≢true, ne_eqb}
use Rattle.std.proofs.lemmas.List.Elements.{filter-append}
use Rattle.hb_types.specs.declared.answer.Answer.{Answer}
use Rattle.hb_types.specs.declared.answer.Answer.TheVariants as answer
use Rattle.hb_types.specs.declared.change.Change.{Change}
use Rattle.hb_types.specs.declared.change.LogItem.{LogItem}
use Rattle.hb_types.specs.declared.change.Stored.{Stored}
use Rattle.hb_types.specs.declared.names.Number.{Number}
use Rattle.hb_types.specs.declared.names.NodeName.{NodeName}
use Rattle.hb_types.specs.declared.names.Tx.{Tx}
use Rattle.hb_types.specs.declared.request.Request.{Request}
use Rattle.hb_types.specs.declared.request.Request.TheVariants as request
use Rattle.hb_types.specs.declared.request.Vote.{Vote}
use Rattle.hb_types.specs.declared.trail.Call.{Call}
use Rattle.hb_types.specs.Lists.{Each, Has, IsIn}
use Rattle.hb_types.specs.Put.{lookup, normal, put_all}
use Rattle.hb_types.proofs.Ascending.{Has-front, Has-of, in_Each}
use Rattle.hb_types.proofs.PutLaws.{by_test, lookup-put_all}
use Rattle.hb_laws.specs.RowOrder.{AreAscending}
use Rattle.hb_laws.proofs.RowLaws.{rows_same}
use Rattle.hb_branch.proofs.Changes.{last_at-normal}
use Rattle.hb_loglaws.proofs.Lookups.{held_ascends, put_all_ascends}
use Rattle.hb_loglaws.proofs.Members.{Has-in, found}
use Rattle.hb_loglaws.specs.Saying.{AreApart, RightLogsSay}
use Rattle.hb_model.specs.Answers.{afters, is_decide, rows_in}
use Rattle.hb_disks.specs.Images.{Logs, decided, family}
use Rattle.hb_disks.proofs.Fold.{held-more}
use Rattle.hb_disks.specs.LogPlaces.{end_behind}
use Rattle.hb_disks.specs.Redo.{Decided, Prepared, changes_or}
use Rattle.hb_disks.specs.Says.{ch, held, prepares}
use Rattle.hb_disks.specs.StandsFor.{AreLogs, HasPrepared, HasVoted, names_node}
use Rattle.hb_runs.specs.ServerRuns.{Asked}
use Rattle.hb_law.specs.Callers.{AsksAt, HasAskedAt, IsOpen, is_enlist, is_prepare, vote_in, votes_in}
use Rattle.hb_law.specs.Histories.{Labelled, Trails, asked_by, asked_of, calls_at, stands}
use Rattle.hb_law.specs.Transactions.{tx_asked}
use Rattle.hb_serverlaws.specs.Logging.{LogIsKept, VotesStand, voted_as}
use Rattle.hb_serverlaws.specs.Trails.{Ran, whole, writes_of, wrote}
use Rattle.hb_parts.specs.Callings.{Callings}
use Rattle.hb_parts.specs.Courses.{IsCourse, Within, is_own}
use Rattle.hb_parts.specs.Rows.{OneFamily}
use Rattle.hb_parts.specs.Voting.{IsNewDecision, KeptRan, is_kept, kept}
use Rattle.hb_whose.proofs.Parts.{Stands, behind_at, is_there, kept_twice, stands_at, unkept}
use Rattle.hb_whose.proofs.Told.{heads}
use Rattle.hb_whose.proofs.Trailing.{calls_at_append, got, own_of, same_number}
use Rattle.hb_onefamily.proofs.Leaving.{afters_length, rows_in_map, same_family, writes_filter}
use Rattle.hb_onefamily.proofs.Placing.{before_decide}
use Rattle.hb_onefamily.proofs.Reading.{Laws, answers, is_decided, rows_behind, voted_at, wider}

-- ---- changes

-- rows by ascending place, changed by writes, or by these as changes by ascending place
pub put_normal : (rows : List Stored) (ws : List Change) → AreAscending rows → put_all rows (normal ws) ≡ put_all rows ws
put_normal rows ws a =
    rows_same (put_all rows (normal ws)) (put_all rows ws) (put_all_ascends rows (normal ws) a) (put_all_ascends rows ws a)
    (λ p. lookup-put_all p rows (normal ws) ∙ last_at-normal p ws (lookup p rows) ∙ sym (lookup-put_all p rows ws))

others : (old : List Change) (t : ℕ) (ps : List Prepared) → Each (λ p. p.tx ≢ t) ps → changes_or old t ps ≡ old
others old t [] e = refl
others old t (p ∷ ps) e = let n : (p.tx == t) ≡ false = ne_eqb p.tx t e.0 in rw n (others old t ps e.1)

apart_each : (t : ℕ) (ps : List Prepared) → Each (λ y. y ≢ t) (map (λ (p : Prepared). p.tx) ps) → Each (λ p. p.tx ≢ t) ps
apart_each t [] e = tt
apart_each t (p ∷ ps) e = (e.0, apart_each t ps e.1)

-- the changes of the one vote of a transaction
one_vote : (old : List Change) (t : ℕ) (cs : List Change) (ps : List Prepared) → AreApart (map (λ (p : Prepared). p.tx) ps)
    → Has (λ p. (p.tx ≡ t) × (p.changes ≡ cs)) ps → changes_or old t ps ≡ cs
one_vote old t cs [] a h = absurd h
one_vote old t cs (p ∷ ps) a (inl h) =
    let u : (p.tx == t) ≡ true = subst (λ z. (p.tx == z) ≡ true) h.0 (same_number p.tx) in
    rw u (others p.changes t ps (subst (λ z. Each (λ q. q.tx ≢ z) ps) h.0 (apart_each p.tx ps a.0)) ∙ h.1)
one_vote old t cs (p ∷ ps) a (inr h) =
    by_test (p.tx == t)
    (λ u. absurd (in_both u (found (λ q. (q.tx ≡ t) × (q.changes ≡ cs)) ps h)))
    (λ f. rw f (one_vote old t cs ps a.1 h))
  where
    in_both : (p.tx == t) ≡ true → (q : Prepared) × IsIn q ps × ((q.tx ≡ t) × (q.changes ≡ cs)) → ⊥
    in_both u q = in_Each (λ (r : Prepared). r.tx ≢ p.tx) q.0 ps q.1 (apart_each p.tx ps a.0) (q.2.0 ∙ sym (eqb-true p.tx t u))

-- ---- votes

-- a Prepare that was answered by a vote, at a node
pub record VotedIn (node : ℕ) (calls : List Call) : Type 0 where
  pub call : Call
  pub within : IsIn call calls
  pub at_node : call.node.0 ≡ node
  pub tx : Tx
  pub floor : Number
  pub request_is : call.request ≡ request.Prepare tx
  pub answer_is : call.answer ≡ answer.Vote floor

one_voted : (node : ℕ) (n : NodeName) (q : Request) (a : Answer) → Has (λ v. v.node.0 ≡ node) (vote_in n.0 q a)
    → VotedIn node (record { node = n; request = q; answer = a } ∷ [])
one_voted node n (request.Prepare tx) (answer.Vote floor) (inl e) =
    record { call = record { node = n; request = request.Prepare tx; answer = answer.Vote floor }; within = inl refl; at_node = e; tx = tx; floor = floor; request_is = refl; answer_is = refl }
one_voted node n (request.Prepare tx) (answer.Vote floor) (inr h) = absurd h
one_voted node n q a h = absurd h

split_has : (P : Vote → Type 0) (xs ys : List Vote) → Has P (xs ++ ys) → Has P xs ⊎ Has P ys
split_has P [] ys h = inr h
split_has P (x ∷ xs) ys (inl p) = inl (inl p)
split_has P (x ∷ xs) ys (inr h) = elim (split_has P xs ys h) [ inl i ↦ inl (inr i) | inr j ↦ inr j ]

pub voted_in_calls : (node : ℕ) (calls : List Call) → Has (λ v. v.node.0 ≡ node) (votes_in calls) → VotedIn node calls
voted_in_calls node [] h = absurd h
voted_in_calls node (c ∷ cs) h = by (split_has (λ v. v.node.0 ≡ node) (vote_in c.node.0 c.request c.answer) (votes_in cs) h) (λ i. voted_in_calls node cs i)
  where
    by : Has (λ v. v.node.0 ≡ node) (vote_in c.node.0 c.request c.answer) ⊎ Has (λ v. v.node.0 ≡ node) (votes_in cs)
        → (Has (λ v. v.node.0 ≡ node) (votes_in cs) → VotedIn node cs) → VotedIn node (c ∷ cs)
    by (inl i) rest =
        let v = one_voted node c.node c.request c.answer i in record { call = v.call; within = first v.within; at_node = v.at_node; tx = v.tx; floor = v.floor; request_is = v.request_is; answer_is = v.answer_is }
      where
        first : {z : Call} → IsIn z (c ∷ []) → IsIn z (c ∷ cs)
        first (inl e) = inl e
        first (inr h) = absurd h
    by (inr i) rest =
        let v = rest i in record { call = v.call; within = inr v.within; at_node = v.at_node; tx = v.tx; floor = v.floor; request_is = v.request_is; answer_is = v.answer_is }

pub vote_named : (node : ℕ) (votes : List Vote) → list_any (λ n. n.0 == node) (map (λ (v : Vote). v.node) votes) ≡ true → Has (λ v. v.node.0 ≡ node) votes
vote_named node [] e = absurd (false≢true e)
vote_named node (v ∷ vs) e = by_test (v.node.0 == node) (λ t. inl (eqb-true v.node.0 node t)) (λ f. inr (vote_named node vs (rw f at e)))

-- ---- writes at a node

writes_append : (t : ℕ) (xs ys : List Asked) → writes_of t (xs ++ ys) ≡ writes_of t xs ++ writes_of t ys
writes_append t [] ys = refl
writes_append t (x ∷ xs) ys =
    ap (λ l. wrote t x.request x.answer ++ l) (writes_append t xs ys) ∙ sym (append_assoc (wrote t x.request x.answer) (writes_of t xs) (writes_of t ys))

no_write : (t : ℕ) (q : Request) (a : Answer) → ((tx : Tx) (c : Change) → q ≡ request.Write tx c → ⊥) → wrote t q a ≡ []
no_write t (request.Write tx c) a n = absurd (n tx c refl)
no_write t q a n = refl

no_writes : (t node : ℕ) (calls : List Call)
    → ((f : List Call) (y : Call) (r : List Call) → calls ≡ f ++ y ∷ r → y.node.0 ≡ node → (tx : Tx) (c : Change) → y.request ≡ request.Write tx c → ⊥)
    → writes_of t (calls_at node calls) ≡ []
no_writes t node [] n = refl
no_writes t node (y ∷ ys) n =
    by_test (y.node.0 == node)
    (λ u. rw u (ap (λ l. l ++ writes_of t (calls_at node ys)) (no_write t y.request y.answer (λ tx c e. n [] y ys refl (eqb-true y.node.0 node u) tx c e))
    ∙ no_writes t node ys (λ f z r e. n (y ∷ f) z r (ap (λ l. y ∷ l) e))))
    (λ u. rw u (no_writes t node ys (λ f z r e. n (y ∷ f) z r (ap (λ l. y ∷ l) e))))

pub record WriteLaws : Type 0 where
  pub votes : VotesStand
  pub log_kept : LogIsKept
  pub says : RightLogsSay

module _ (laws : Laws) (more : WriteLaws) (base logs : Logs) (trails : Trails) (lists : List (List Call)) (fes : List Labelled) (front back : List Decided)
    (d : Decided)
    (k : Callings base logs trails lists) (right : AreLogs logs) (at : slice_get trails 0 ≡ Some fes) (whole_is : decided logs ≡ front ++ d ∷ back)
    (nd : IsNewDecision trails lists fes d) where
  course_at : (f : List Call) (y : Call) (r : List Call) → nd.owned.course ≡ f ++ y ∷ r → Within d.tx f y.node.0 y.request
  course_at f y r e = behind_at (λ f y. Within d.tx f y.node.0 y.request) [] f y r (subst (IsCourse d.tx) e nd.owned.is_course)

  module _ (place : ℕ) (before after : List LogItem) (trail : List Labelled) (got_before : slice_get base.servers place ≡ Some before)
      (got_after : slice_get logs.servers place ≡ Some after)
      (got_trail : slice_get trails (suc place) ≡ Some trail) where
    one_more : (n : ℕ) → suc n ≡ n + 1
    one_more n = omega arith

    run : KeptRan before after trail
    run =
        laws.servers base logs trails lists place before after trail k got_before got_after
        (subst (λ n. slice_get trails n ≡ Some trail) (one_more place) got_trail)

    agrees : HasVoted (place + 1) after d
    agrees =
        in_Each (HasVoted (place + 1) after) d (decided logs) (is_decided laws base logs trails lists fes front back d k right at whole_is nd)
        (right.votes_and_outcomes.servers place after got_after).voted

    -- its vote at this server, among the calls before its Decide
    module _ (v : VotedIn (suc place) nd.is_decided.front) where
      s : Stands v.call nd.is_decided.front
      s = stands_at v.call nd.is_decided.front v.within

      course_is : nd.owned.course ≡ s.front ++ v.call ∷ (s.back ++ nd.is_decided.decide ∷ nd.is_decided.back)
      course_is =
          nd.is_decided.parts ∙ ap (λ l. l ++ nd.is_decided.decide ∷ nd.is_decided.back) s.parts
          ∙ append_assoc s.front (v.call ∷ s.back) (nd.is_decided.decide ∷ nd.is_decided.back)

      at_vote : (v.tx.0 ≡ d.tx) × IsOpen v.call.node.0 s.front
      at_vote =
          subst (Within d.tx s.front v.call.node.0) v.request_is (course_at s.front v.call (s.back ++ nd.is_decided.decide ∷ nd.is_decided.back) course_is)

      it : asked_by v.call ≡ voted_as d.tx v.floor.0
      it = λ i. record { request = (v.request_is ∙ ap (λ n. request.Prepare (record { 0 = n })) at_vote.0) i; answer = v.answer_is i }

      -- behind the vote nothing is written here
      none_behind : writes_of d.tx (calls_at (suc place) (v.call ∷ (s.back ++ nd.is_decided.decide ∷ nd.is_decided.back))) ≡ []
      none_behind =
          no_writes d.tx (suc place) (v.call ∷ (s.back ++ nd.is_decided.decide ∷ nd.is_decided.back))
          (λ f y r e here tx c q. unwritten f y r e here tx c q)
        where
          unwritten : (f : List Call) (y : Call) (r : List Call) → v.call ∷ (s.back ++ nd.is_decided.decide ∷ nd.is_decided.back) ≡ f ++ y ∷ r
              → y.node.0 ≡ suc place
              → (tx : Tx) (c : Change) → y.request ≡ request.Write tx c → ⊥
          unwritten [] y r e here tx c q = clash (heads v.call y (s.back ++ nd.is_decided.decide ∷ nd.is_decided.back) r e).0
            where
              clash : v.call ≡ y → ⊥
              clash p = false≢true (sym (ap is_prepare q) ∙ ap (λ z. is_prepare z.request) (sym p) ∙ ap is_prepare v.request_is)
          unwritten (z ∷ f) y r e here tx c q =
              let w : (tx.0 ≡ d.tx) × IsOpen y.node.0 (s.front ++ z ∷ f) = subst (Within d.tx (s.front ++ z ∷ f) y.node.0) q
              (course_at (s.front ++ z ∷ f) y r (course_is ∙ ap (λ l. s.front ++ l) e ∙ sym (append_assoc s.front (z ∷ f) (y ∷ r)))) in
              let first : z ≡ v.call = sym (heads v.call z (s.back ++ nd.is_decided.decide ∷ nd.is_decided.back) (f ++ y ∷ r) e).0 in
              let prepared : (v.call.node.0 ≡ y.node.0) × IsTrue (is_prepare v.call.request) = (v.at_node ∙ sym here, ap is_prepare v.request_is) in
              w.1.unprepared (Has-in (AsksAt is_prepare y.node.0) v.call (s.front ++ z ∷ f)
              (subst (λ b. IsIn v.call (s.front ++ b ∷ f)) (sym first) (is_there v.call s.front f)) prepared)

      writes : writes_of d.tx (calls_at (suc place) nd.owned.course) ≡ writes_of d.tx (calls_at (suc place) s.front)
      writes =
          ap (λ l. writes_of d.tx (calls_at (suc place) l)) course_is
          ∙ ap (writes_of d.tx) (calls_at_append (suc place) s.front (v.call ∷ (s.back ++ nd.is_decided.decide ∷ nd.is_decided.back)))
          ∙ writes_append d.tx (calls_at (suc place) s.front) (calls_at (suc place) (v.call ∷ (s.back ++ nd.is_decided.decide ∷ nd.is_decided.back)))
          ∙ ap (λ l. writes_of d.tx (calls_at (suc place) s.front) ++ l) none_behind ∙ append-nil (writes_of d.tx (calls_at (suc place) s.front))

      -- the vote in the trail
      in_kept : filter (is_own d.tx) (kept trail)
          ≡ filter (is_own d.tx) (calls_at (suc place) s.front) ++ asked_by v.call ∷ filter (is_own d.tx)
          (calls_at (suc place) (s.back ++ nd.is_decided.decide ∷ nd.is_decided.back))
      in_kept =
          kept_twice (is_own d.tx) is_kept (wider laws base logs trails lists fes front back d k right at whole_is nd d.tx) (asked_of trail)
          ∙ nd.owned.in_trails (suc place) trail got_trail
          ∙ ap (λ c. filter (is_own d.tx) (calls_at (suc place) c)) course_is
          ∙ ap (filter (is_own d.tx)) (calls_at_append (suc place) s.front (v.call ∷ (s.back ++ nd.is_decided.decide ∷ nd.is_decided.back)))
          ∙ filter-append (is_own d.tx) (calls_at (suc place) s.front) (calls_at (suc place) (v.call ∷ (s.back ++ nd.is_decided.decide ∷ nd.is_decided.back)))
          ∙ ap (λ l. filter (is_own d.tx) (calls_at (suc place) s.front) ++ l) first
        where
          first : filter (is_own d.tx) (calls_at (suc place) (v.call ∷ (s.back ++ nd.is_decided.decide ∷ nd.is_decided.back)))
              ≡ asked_by v.call ∷ filter (is_own d.tx) (calls_at (suc place) (s.back ++ nd.is_decided.decide ∷ nd.is_decided.back))
          first =
              let u : (v.call.node.0 == suc place) ≡ true = subst (λ z. (v.call.node.0 == z) ≡ true) v.at_node (same_number v.call.node.0) in
              let w = own_of d.tx (asked_by v.call) (ap tx_asked v.request_is ∙ ap (λ n. Some n) at_vote.0) (ap stands it) in
              rw (u, w) refl

      changes : ch after d.tx ≡ normal (writes_of d.tx (calls_at (suc place) s.front))
      changes =
          let u = unkept (is_own d.tx) (kept trail) (filter (is_own d.tx) (calls_at (suc place) s.front)) (asked_by v.call)
          (filter (is_own d.tx) (calls_at (suc place) (s.back ++ nd.is_decided.decide ∷ nd.is_decided.back))) in_kept in
          let ran : Ran before (end_behind 0 before) (u.front ++ voted_as d.tx v.floor.0 ∷ u.back) run.last = subst
          (λ z. Ran before (end_behind 0 before) (u.front ++ z ∷ u.back) run.last) it
          (subst (λ l. Ran before (end_behind 0 before) l run.last) u.parts run.ran) in
          let vote = more.votes before (end_behind 0 before) u.front u.back run.last d.tx v.floor.0 ran in
          let same : writes_of d.tx u.front ≡ writes_of d.tx (calls_at (suc place) s.front) = sym (writes_filter d.tx u.front) ∙ ap (writes_of d.tx) u.before
          ∙ writes_filter d.tx (calls_at (suc place) s.front) in
          let says = more.says (whole before run.last) (more.log_kept before (end_behind 0 before) (kept trail) run.last run.ran) in
          let its : Has (λ (p : Prepared). (p.tx ≡ d.tx) × (p.changes ≡ normal (writes_of d.tx u.front))) (prepares (whole before run.last)) =
          Has-of (λ (p : Prepared). (p.tx ≡ d.tx) × (p.floor ≡ v.floor.0) × (p.changes ≡ normal (writes_of d.tx u.front)))
          (λ p. (p.tx ≡ d.tx) × (p.changes ≡ normal (writes_of d.tx u.front))) (prepares (whole before run.last)) (λ p h. (h.0, h.2)) vote in
          ap (λ l. ch l d.tx) run.log ∙ one_vote [] d.tx (normal (writes_of d.tx u.front)) (prepares (whole before run.last)) says.voted_once its
          ∙ ap normal same

    -- where it voted, its changes are its writes there
    when_named : IsTrue (names_node (place + 1) d)
        → put_all (held after front) (writes_of d.tx (calls_at (suc place) nd.owned.course)) ≡ put_all (held after front) (ch after d.tx)
    when_named n =
        let v : VotedIn (suc place) nd.is_decided.front =
        voted_in_calls (suc place) nd.is_decided.front
        (subst (Has (λ v. v.node.0 ≡ suc place)) nd.is_decided.told
        (subst (λ m. Has (λ v. v.node.0 ≡ m) nd.is_decided.votes) (sym (one_more place))
        (vote_named (place + 1) nd.is_decided.votes (ap (list_any (λ n. n.0 == (place + 1))) nd.is_decided.nodes ∙ n)))) in
        ap (put_all (held after front)) (writes v)
        ∙ sym (put_normal (held after front) (writes_of d.tx (calls_at (suc place) (s v).front)) (held_ascends after front))
        ∙ ap (put_all (held after front)) (sym (changes v))

    -- where it didn't, it wrote nothing
    when_not : names_node (place + 1) d ≡ false
        → put_all (held after front) (writes_of d.tx (calls_at (suc place) nd.owned.course)) ≡ put_all (held after front) (ch after d.tx)
    when_not n = ap (put_all (held after front)) (none ∙ sym (others [] d.tx (prepares after) (not_has (prepares after) (λ h. not_prepared h))))
      where
        not_prepared : HasPrepared after d → ⊥
        not_prepared h = false≢true (sym n ∙ agrees.1 h)

        not_has : (ps : List Prepared) → (Has (λ p. p.tx ≡ d.tx) ps → ⊥) → Each (λ p. p.tx ≢ d.tx) ps
        not_has [] f = tt
        not_has (p ∷ ps) f = (λ e. f (inl e), not_has ps (λ h. f (inr h)))

        none : writes_of d.tx (calls_at (suc place) nd.owned.course) ≡ []
        none =
            no_writes d.tx (suc place) nd.owned.course
            (λ f y r e here tx c q. let w : (tx.0 ≡ d.tx) × IsOpen y.node.0 f = subst (Within d.tx f y.node.0) q (course_at f y r e) in
            let early = before_decide d.tx nd.owned.course nd.is_decided.front nd.is_decided.decide nd.is_decided.back f y r nd.is_decided.parts nd.is_decided.nothing_behind e
            (ap tx_asked q ∙ ap (λ n. Some n) w.0)
            (λ p. false≢true (sym (ap is_decide q) ∙ ap (λ z. is_decide z.request) p ∙ ap is_decide nd.is_decided.asked)) in
            let asked : HasAskedAt is_enlist y.node.0 nd.is_decided.front = subst (HasAskedAt is_enlist y.node.0) (sym early.parts)
            (Has-front (AsksAt is_enlist y.node.0) f (y ∷ early.more) w.1.enlisted) in
            not_prepared (voted_at laws base logs trails lists fes front back d k right at whole_is nd y.node.0 place after here got_after asked))

    at_place : rows_in place (afters (family logs front) nd.owned.course) ≡ rows_in place (family logs (front ++ d ∷ []))
    at_place =
        rows_behind laws base logs trails lists fes front back d k right at whole_is nd place after nd.owned.course [] got_after
        (sym (append-nil nd.owned.course))
        ∙ by_test (names_node (place + 1) d) (λ t. when_named t) (λ f. when_not f)
        ∙ sym (held-more after front d) ∙ sym (rows_in_map (λ log. held log (front ++ d ∷ [])) logs.servers place after got_after)

  same_length : (f g : List LogItem → List Stored) (ls : List (List LogItem)) → length (map f ls) ≡ length (map g ls)
  same_length f g [] = refl
  same_length f g (l ∷ ls) = ap suc (same_length f g ls)

  map_within : (f : List LogItem → List Stored) (ls : List (List LogItem)) → length (map f ls) ≡ length ls
  map_within f [] = refl
  map_within f (l ∷ ls) = ap suc (map_within f ls)

  pub after_is : afters (family logs front) nd.owned.course ≡ family logs (front ++ d ∷ [])
  after_is =
      same_family (afters (family logs front) nd.owned.course) (family logs (front ++ d ∷ []))
      (afters_length (family logs front) nd.owned.course ∙ same_length (λ log. held log front) (λ log. held log (front ++ d ∷ [])) logs.servers)
      (λ i lt. let n : length (afters (family logs front) nd.owned.course) ≡ length logs.servers = afters_length (family logs front) nd.owned.course
      ∙ map_within (λ log. held log front) logs.servers in
      let same : length logs.servers ≡ length base.servers = k.nodes.same in
      let all : length trails ≡ length base.servers + 1 = k.nodes.nodes in
      let after = got logs.servers i (omega (arith, lt, n)) in
      let before = got base.servers i (omega (arith, lt, n, same)) in
      let trail = got trails (suc i) (omega (arith, lt, n, same, all)) in
      at_place i before.0 after.0 trail.0 before.1 after.1 trail.1)

  pub one_family : OneFamily logs front d nd.owned.course
  one_family = record { answers = answers laws base logs trails lists fes front back d k right at whole_is nd; after = after_is }
