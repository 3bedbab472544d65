-- The logs of a system stay right.
use Rattle.std.proofs.Common.{◌≡◌, ◌⊎◌, ◌∙◌, ℕ, zero, suc, ◌+◌, ◌<◌, ◌≤◌, Bool, true, false, List, [], ◌∷◌, ◌++◌, Some, None, ap, append_assoc, arith, inl, inr, length, map, refl, subst, sym}
use Rattle.std.specs.Prelude.{slice_get, filter, IsTrue, ◌==◌}
use Rattle.std.specs.List.{list_any}
use Rattle.std.specs.Ordering.{nat_cmp}
use Rattle.std.proofs.lemmas.Bool.{false≢true}
use Rattle.hb_types.specs.declared.answer.Answer.TheVariants as answer
use Rattle.hb_types.specs.declared.change.LogItem.{LogItem}
use Rattle.hb_types.specs.declared.change.LogItem.TheVariants as item
use Rattle.hb_types.specs.declared.names.Number.{Number}
use Rattle.hb_types.specs.declared.names.Tx.{Tx}
use Rattle.hb_types.specs.declared.request.Request.TheVariants as request
use Rattle.hb_types.specs.declared.request.Vote.{Vote}
use Rattle.hb_types.specs.declared.trail.Call.{Call}
use Rattle.hb_types.specs.Lists.{Ascends, Each, EachBehind, Has, IsIn}
use Rattle.hb_types.proofs.Ascending.{Each-in, Has-back, Has-front, Has-of, in_Each}
use Rattle.hb_loglaws.proofs.Members.{Has-in, filter_in, found, in_append, in_filter}
use Rattle.hb_loglaws.specs.Saying.{ends}
use Rattle.hb_disks.specs.Images.{Logs, decided}
use Rattle.hb_disks.specs.LogPlaces.{end_behind}
use Rattle.hb_disks.specs.LogRules.{EndFits, IsBranchItem, LocksFit}
use Rattle.hb_disks.specs.Redo.{Decided, Prepared}
use Rattle.hb_disks.specs.Says.{commits, decisions, prepares, uptos}
use Rattle.hb_disks.proofs.Fold.{prepares-append}
use Rattle.hb_disks.specs.StandsFor.{Agrees, AllReserved, AreDecisions, AreLogs, IsCoordinators, HasPrepared, HasRoom, HasVoted, NodesAreHere, greatest_upto, names_node}
use Rattle.hb_runs.specs.Coordinator as coordinator
use Rattle.hb_law.specs.Callers.{IsOpen, votes_in}
use Rattle.hb_law.specs.Histories.{Labelled, Trails, asked_by, asked_of, calls_at, stands}
use Rattle.hb_law.specs.Transactions.{tx_asked}
use Rattle.hb_coordlaws.specs.Ascending.{DecisionsGrow, given}
use Rattle.hb_serverlaws.specs.Logging.{VotesStand, voted_as}
use Rattle.hb_serverlaws.specs.Trails.{Ran, whole}
use Rattle.hb_parts.specs.Callings.{Callings, tells_nothing}
use Rattle.hb_parts.specs.Courses.{IsCourse, Within, is_own}
use Rattle.hb_parts.specs.Voting.{IsNewDecision, is_kept, kept}
use Rattle.hb_whose.proofs.Parts.{behind_at, is_there, stands_at}
use Rattle.hb_whose.proofs.Trailing.{calls_at_in, each_got, got, own_of}
use Rattle.hb_onefamily.proofs.Placing.{AtServer, at_server}
use Rattle.hb_onefamily.proofs.Staying.{decision_reserved}
use Rattle.hb_onefamily.proofs.Writing.{VotedIn, vote_named, voted_in_calls}
use Rattle.hb_votes.proofs.Agreeing.{AgreeLaws, aborted_of, committed_of}
use Rattle.hb_votes.proofs.Keeping.{votes_reserved}
use Rattle.hb_votes.proofs.Reserving.{each_by, of_coordinator, ordered}
use Rattle.hb_votes.proofs.Righting.{ServerLaws, given_votes, halves_of, ok, reserved_of, room_of, run}
use Rattle.hb_votes.proofs.Voters.{VoteAsked, above_floor, is_named, votes_asked}

-- a commit ends its transaction
commit_ends : (c : ℕ × ℕ) (log : List LogItem) → IsIn c (commits log) → IsIn c.0 (ends log)
commit_ends c [] h = absurd h
commit_ends c (item.Commit tx n ∷ is) (inl e) = inl (ap (λ z. z.0) e)
commit_ends c (item.Commit tx n ∷ is) (inr h) = inr (commit_ends c is h)
commit_ends c (item.Abort tx ∷ is) h = inr (commit_ends c is h)
commit_ends c (item.Prepare tx floor locks changes ∷ is) h = commit_ends c is h
commit_ends c (item.Decision tx n nodes ∷ is) h = commit_ends c is h
commit_ends c (item.Ids m ∷ is) h = commit_ends c is h

within_got : {A : Type 0} (xs : List A) (i : ℕ) (x : A) → slice_get xs i ≡ Some x → i < length xs
within_got [] i x h = absurd (none_some x h)
  where
    none_some : {A : Type 0} (x : A) → None ≡ Some x → ⊥
    none_some x h = cc
within_got (y ∷ ys) zero x h = omega arith
within_got (y ∷ ys) (suc i) x h = let r = within_got ys i x h in omega (arith, r)

fes_vote : (up : Bool) (u : coordinator.CState) (tx : Tx) (f : Number) → coordinator.RightIn up u (request.Prepare tx) (answer.Vote f) → ⊥
fes_vote true u tx f r = r
fes_vote false u tx f r = r

module _ (al : AgreeLaws) (sl : ServerLaws) (grow : DecisionsGrow) (votes_stand : VotesStand) (base logs : Logs) (trails : Trails) (lists : List (List Call))
    (k : Callings base logs trails lists)
    (fes : List Labelled) (at : slice_get trails 0 ≡ Some fes) where
  grows : (d : Decided) → IsIn d (decided base) → IsIn d (decided logs)
  grows d i =
      let r = k.nodes.fes fes at in
      let g = grow (coordinator.stopped_at base.fes) r.last (asked_of fes) r.ran in
      subst (IsIn d) (sym (ap decisions r.log ∙ g.1)) (Has-front (λ y. y ≡ d) (decided base) g.0 i)

  base_low : (d : Decided) → IsIn d (decided base) → d.tx ≤ greatest_upto base.fes
  base_low d i =
      in_Each (λ d. d.tx ≤ greatest_upto base.fes) d (decided base) i (decision_reserved (greatest_upto base.fes) base.fes k.right.transaction_numbers.fes)

  given_high : (t : ℕ) → IsIn t (given (asked_of fes)) → greatest_upto base.fes < t
  given_high t i = in_Each (λ x. greatest_upto base.fes < x) t (given (asked_of fes)) i (al.news base logs trails lists fes k at)

  kind : (d : Decided) → IsIn d (decided logs) → IsIn d (decided base) ⊎ IsNewDecision trails lists fes d
  kind d i = al.new_decided base logs trails lists fes d k at i

  clash : (x y : ℕ) → x ≤ greatest_upto base.fes → greatest_upto base.fes < y → x ≡ y → ⊥
  clash x y a b e = omega (arith, a, b, e)

  module _ (i : ℕ) (before after : List LogItem) (trail : List Labelled) (got_before : slice_get base.servers i ≡ Some before)
      (got_after : slice_get logs.servers i ≡ Some after)
      (got_trail : slice_get trails (i + 1) ≡ Some trail) where
    base_agrees : Agrees (decided base) (i + 1) before
    base_agrees = k.right.votes_and_outcomes.servers i before got_before

    abbrev since : List LogItem
    since = (k.nodes.servers i before after trail got_before got_after got_trail).last.log

    split : prepares after ≡ prepares before ++ prepares since
    split = ap prepares (k.nodes.servers i before after trail got_before got_after got_trail).log ∙ prepares-append before since

    old_low : (p : Prepared) → IsIn p (prepares before) → p.tx ≤ greatest_upto base.fes
    old_low p j =
        in_Each (λ (p : Prepared). p.tx ≤ greatest_upto base.fes) p (prepares before) j
        (votes_reserved (greatest_upto base.fes) before
        (each_got (AllReserved (greatest_upto base.fes)) base.servers i before k.right.transaction_numbers.servers got_before))

    new_high : (p : Prepared) → IsIn p (prepares since) → greatest_upto base.fes < p.tx
    new_high p j =
        given_high p.tx (in_Each (λ (p : Prepared). IsIn p.tx (given (asked_of fes))) p (prepares since) j
        (given_votes al.fes sl base logs trails lists k fes at i before after trail got_before got_after got_trail))

    its_asked : (p : Prepared) → IsIn p (prepares since) → Has (VoteAsked p) (asked_of trail)
    its_asked p j =
        let r = k.nodes.servers i before after trail got_before got_after got_trail in
        in_Each (λ p. Has (VoteAsked p) (asked_of trail)) p (prepares since) j
        (votes_asked (asked_of trail) since (al.records _ _ (asked_of trail) r.last r.ran))

    above_of : Each (λ d. Each (λ p. p.tx ≡ d.tx → p.floor < d.number) (prepares after)) (decided logs)
    above_of =
        Each-in (λ d. Each (λ p. p.tx ≡ d.tx → p.floor < d.number) (prepares after)) (decided logs)
        (λ d l. Each-in (λ p. p.tx ≡ d.tx → p.floor < d.number) (prepares after)
        (λ p j e. by d p e (kind d l) (in_append p (prepares before) (prepares since) (subst (IsIn p) split j))))
      where
        by : (d : Decided) (p : Prepared) → p.tx ≡ d.tx → IsIn d (decided base) ⊎ IsNewDecision trails lists fes d
            → IsIn p (prepares before) ⊎ IsIn p (prepares since) → p.floor < d.number
        by d p e (inl b) (inl j) =
            in_Each (λ p. p.tx ≡ d.tx → p.floor < d.number) p (prepares before) j
            (in_Each (λ d. Each (λ p. p.tx ≡ d.tx → p.floor < d.number) (prepares before)) d (decided base) b base_agrees.numbers.above) e
        by d p e (inl b) (inr j) = absurd (clash d.tx p.tx (base_low d b) (new_high p j) (sym e))
        by d p e (inr n) (inl j) = absurd (clash p.tx d.tx (old_low p j) (given_high d.tx n.given_here) e)
        by d p e (inr n) (inr j) = above_floor base logs trails lists fes k d n (i + 1) trail got_trail p e (its_asked p j)

    -- a vote of a new decision stands in the log
    votes_here : (d : Decided) → IsNewDecision trails lists fes d → IsTrue (names_node (i + 1) d) → HasPrepared after d
    votes_here d nd n =
        let v : VotedIn (i + 1) nd.is_decided.front = voted_in_calls (i + 1) nd.is_decided.front
        (subst (Has (λ v. v.node.0 ≡ i + 1)) nd.is_decided.told
        (vote_named (i + 1) nd.is_decided.votes (ap (list_any (λ n. n.0 == (i + 1))) nd.is_decided.nodes ∙ n))) in
        let s = stands_at v.call nd.is_decided.front v.within in
        let course : nd.owned.course ≡ s.front ++ v.call ∷ (s.back ++ nd.is_decided.decide ∷ nd.is_decided.back) =
        nd.is_decided.parts ∙ ap (λ l. l ++ nd.is_decided.decide ∷ nd.is_decided.back) s.parts
        ∙ append_assoc s.front (v.call ∷ s.back) (nd.is_decided.decide ∷ nd.is_decided.back) in
        let w : (v.tx.0 ≡ d.tx) × IsOpen v.call.node.0 s.front = subst (Within d.tx s.front v.call.node.0) v.request_is
        (behind_at (λ f y. Within d.tx f y.node.0 y.request) [] s.front v.call (s.back ++ nd.is_decided.decide ∷ nd.is_decided.back)
        (subst (IsCourse d.tx) course nd.owned.is_course)) in
        let it : asked_by v.call ≡ voted_as d.tx v.floor.0 = (λ j. record {
          request = (v.request_is
              ∙ ap (λ m. request.Prepare (record { 0 = m })) w.0) j;
          answer = v.answer_is j;
        }) in
        let member : IsIn v.call nd.owned.course = subst (IsIn v.call) (sym course)
        (is_there v.call s.front (s.back ++ nd.is_decided.decide ∷ nd.is_decided.back)) in
        let own = own_of d.tx (asked_by v.call) (ap tx_asked v.request_is ∙ ap (λ m. Some m) w.0) (ap stands it) in
        let in_own : IsIn (asked_by v.call) (filter (is_own d.tx) (calls_at (i + 1) nd.owned.course)) = filter_in (is_own d.tx) (asked_by v.call)
        (calls_at (i + 1) nd.owned.course) (calls_at_in (i + 1) v.call nd.owned.course member v.at_node) own in
        let in_trail = (in_filter (is_own d.tx) (asked_by v.call) (asked_of trail)
        (subst (IsIn (asked_by v.call)) (sym (nd.owned.in_trails (i + 1) trail got_trail)) in_own)).0 in
        let in_kept : IsIn (voted_as d.tx v.floor.0) (kept trail) = subst (λ z. IsIn z (kept trail)) it
        (filter_in is_kept (asked_by v.call) (asked_of trail) in_trail (ap is_kept it)) in
        let z = stands_at (voted_as d.tx v.floor.0) (kept trail) in_kept in
        let r = run al.fes sl base logs trails lists k fes at i before after trail got_before got_after got_trail in
        let h = votes_stand before (end_behind 0 before) z.front z.back r.last d.tx v.floor.0
        (subst (λ l. Ran before (end_behind 0 before) l r.last) z.parts r.ran) in
        subst (λ l. Has (λ (p : Prepared). p.tx ≡ d.tx) (prepares l)) (sym r.log)
        (Has-of _ (λ (p : Prepared). p.tx ≡ d.tx) (prepares (whole before r.last)) (λ p x. x.0) h)

    voted_of : (d : Decided) → IsIn d (decided logs) → HasVoted (i + 1) after d
    voted_of d l = by (kind d l)
      where
        back : (P : IsIn d (decided base) ⊎ IsNewDecision trails lists fes d) (p : Prepared) → p.tx ≡ d.tx
            → IsIn p (prepares before) ⊎ IsIn p (prepares since) → IsTrue (names_node (i + 1) d)
        back (inl b) p e (inl j) =
            (in_Each (HasVoted (i + 1) before) d (decided base) b base_agrees.voted).1 (Has-in (λ p. p.tx ≡ d.tx) p (prepares before) j e)
        back (inl b) p e (inr j) = absurd (clash d.tx p.tx (base_low d b) (new_high p j) (sym e))
        back (inr n) p e (inl j) = absurd (clash p.tx d.tx (old_low p j) (given_high d.tx n.given_here) e)
        back (inr n) p e (inr j) = is_named base logs trails lists fes k d n (i + 1) trail got_trail p e (its_asked p j)

        names : (P : IsIn d (decided base) ⊎ IsNewDecision trails lists fes d) → HasPrepared after d → IsTrue (names_node (i + 1) d)
        names P h =
            let p = found (λ (p : Prepared). p.tx ≡ d.tx) (prepares after) h in back P p.0 p.2
            (in_append p.0 (prepares before) (prepares since) (subst (IsIn p.0) split p.1))

        by : IsIn d (decided base) ⊎ IsNewDecision trails lists fes d → HasVoted (i + 1) after d
        by (inl b) = (
          (λ n. subst (Has (λ (p : Prepared). p.tx ≡ d.tx)) (sym split)
              (Has-front (λ (p : Prepared). p.tx ≡ d.tx) (prepares before) (prepares since)
              ((in_Each (HasVoted (i + 1) before) d (decided base) b base_agrees.voted).0 n))),
          names (inl b),
        )
        by (inr nd) = ((λ n. votes_here d nd n), names (inr nd))

    agrees_of : Agrees (decided logs) (i + 1) after
    agrees_of =
        record {
          numbers =
              record {
                committed = committed_of al base logs trails lists k fes at grows i before after trail got_before got_after got_trail;
                aborted = aborted_of al base logs trails lists k fes at grows i before after trail got_before got_after got_trail;
                above = above_of;
              };
          voted = Each-in (HasVoted (i + 1) after) (decided logs) voted_of;
          named =
              Each-in (λ c. Each (λ d. d.tx ≡ c.0 → IsTrue (names_node (i + 1) d)) (decided logs)) (commits after)
              (λ c j. Each-in (λ d. d.tx ≡ c.0 → IsTrue (names_node (i + 1) d)) (decided logs)
              (λ d l e. (voted_of d l).1 (subst (λ t. Has (λ (p : Prepared). p.tx ≡ t) (prepares after)) (sym e)
              (in_Each (λ t. Has (λ (p : Prepared). p.tx ≡ t) (prepares after)) c.0 (ends after) (commit_ends c after j)
              (sl.says after (ok al.fes sl base logs trails lists k fes at i before after trail got_before got_after got_trail)).ended))));
        }

  -- ---- all servers

  pub record Seat (i : ℕ) (after : List LogItem) : Type 0 where
    pub before : List LogItem
    pub trail : List Labelled
    pub got_before : slice_get base.servers i ≡ Some before
    pub got_trail : slice_get trails (i + 1) ≡ Some trail

  seat : (i : ℕ) (after : List LogItem) → slice_get logs.servers i ≡ Some after → Seat i after
  seat i after h =
      let lt = within_got logs.servers i after h in
      let same : length logs.servers ≡ length base.servers = k.nodes.same in
      let all : length trails ≡ length base.servers + 1 = k.nodes.nodes in
      let b = got base.servers i (omega (arith, lt, same)) in
      let t = got trails (i + 1) (omega (arith, lt, same, all)) in
      record { before = b.0; trail = t.0; got_before = b.1; got_trail = t.1 }

  -- the nodes of a new decision are servers
  here_of : (d : Decided) → IsNewDecision trails lists fes d → NodesAreHere (length logs.servers) d
  here_of d nd = subst (Each (λ n. (1 ≤ n.0) × (n.0 ≤ length logs.servers))) nd.is_decided.nodes (each nd.is_decided.votes (λ v j. one v j))
    where
      each : (vs : List Vote) → ((v : Vote) → IsIn v vs → (1 ≤ v.node.0) × (v.node.0 ≤ length logs.servers))
          → Each (λ n. (1 ≤ n.0) × (n.0 ≤ length logs.servers)) (map (λ (v : Vote). v.node) vs)
      each [] f = tt
      each (v ∷ vs) f = (f v (inl refl), each vs (λ x j. f x (inr j)))

      bounds : (n : ℕ) → AtServer base logs trails n → (1 ≤ n) × (n ≤ length logs.servers)
      bounds n a = let lt = within_got logs.servers a.place a.after a.got_after in let e : n ≡ suc a.place = a.is in (omega (arith, e), omega (arith, e, lt))

      one : (v : Vote) → IsIn v nd.is_decided.votes → (1 ≤ v.node.0) × (v.node.0 ≤ length logs.servers)
      one v j =
          let c = voted_in_calls v.node.0 nd.is_decided.front
          (Has-in (λ (x : Vote). x.node.0 ≡ v.node.0) v (votes_in nd.is_decided.front) (subst (IsIn v) nd.is_decided.told j) refl) in
          let in_course : IsIn c.call nd.owned.course = subst (IsIn c.call) (sym nd.is_decided.parts)
          (Has-front (λ y. y ≡ c.call) nd.is_decided.front (nd.is_decided.decide ∷ nd.is_decided.back) c.within) in
          let member : IsIn c.call nd.owned.list = subst (IsIn c.call) (sym nd.owned.parts)
          (Has-back (λ y. y ≡ c.call) nd.owned.before (nd.owned.begin ∷ (nd.owned.course ++ nd.owned.after))
          (inr (Has-front (λ y. y ≡ c.call) nd.owned.course nd.owned.after in_course))) in
          let it : asked_by c.call ≡ record { request = request.Prepare c.tx; answer = answer.Vote c.floor } = (λ i. record { request = c.request_is i; answer = c.answer_is i }) in
          bounds v.node.0 (subst (AtServer base logs trails) c.at_node
          (at_server base logs trails lists k fes at nd.owned.caller nd.owned.list c.call nd.owned.its_list member
          (λ x. false≢true (subst (λ a. IsTrue (tells_nothing a)) c.answer_is x)) (ap stands it)
          (λ u r. fes_vote u.up u c.tx c.floor (subst (λ z. coordinator.Right u z.request z.answer) it r))))

  pub stay_right : AreLogs logs
  stay_right =
      record {
        log_grammar =
            record {
              fes = subst (Each IsCoordinators) (sym (k.nodes.fes fes at).log) (of_coordinator al.fes base logs trails lists k fes at).own;
              servers =
                  each_by (Each IsBranchItem) logs.servers
                  (λ i a h. let s = seat i a h in (halves_of al.fes sl base logs trails lists k fes at i s.before a s.trail s.got_before h s.got_trail).0);
              fes_room = subst HasRoom (sym (k.nodes.fes fes at).log) (of_coordinator al.fes base logs trails lists k fes at).room;
              room =
                  each_by HasRoom logs.servers (λ i a h. let s = seat i a h in room_of al.fes sl base logs trails lists k fes at i s.before a s.trail s.got_before h s.got_trail);
            };
        transaction_numbers =
            record {
              uptos_ascend =
                  subst (λ l. Ascends nat_cmp (uptos l)) (sym (k.nodes.fes fes at).log) (ordered al.fes base logs trails lists k fes at).reservations;
              fes =
                  subst (λ l. AllReserved (greatest_upto l) l) (sym (k.nodes.fes fes at).log)
                  (of_coordinator al.fes base logs trails lists k fes at).reserved;
              servers =
                  each_by (AllReserved (greatest_upto logs.fes)) logs.servers
                  (λ i a h. let s = seat i a h in reserved_of al.fes sl base logs trails lists k fes at i s.before a s.trail s.got_before h s.got_trail);
            };
        decisions = subst (λ l. AreDecisions (decisions l)) (sym (k.nodes.fes fes at).log) (ordered al.fes base logs trails lists k fes at).once;
        votes_and_outcomes =
            record {
              ends =
                  each_by (EachBehind EndFits []) logs.servers
                  (λ i a h. let s = seat i a h in (halves_of al.fes sl base logs trails lists k fes at i s.before a s.trail s.got_before h s.got_trail).1);
              servers = λ i a h. let s = seat i a h in agrees_of i s.before a s.trail s.got_before h s.got_trail;
              nodes_are_here = Each-in (NodesAreHere (length logs.servers)) (decided logs) (λ d l. by d (kind d l));
            };
        prepared_locks =
            each_by (EachBehind LocksFit []) logs.servers
            (λ i a h. let s = seat i a h in (halves_of al.fes sl base logs trails lists k fes at i s.before a s.trail s.got_before h s.got_trail).2);
      }
    where
      by : (d : Decided) → IsIn d (decided base) ⊎ IsNewDecision trails lists fes d → NodesAreHere (length logs.servers) d
      by d (inl b) =
          subst (λ n. NodesAreHere n d) (sym k.nodes.same)
          (in_Each (NodesAreHere (length base.servers)) d (decided base) b k.right.votes_and_outcomes.nodes_are_here)
      by d (inr nd) = here_of d nd

pub all_right : (al : AgreeLaws) (sl : ServerLaws) (grow : DecisionsGrow) (votes_stand : VotesStand) (base logs : Logs) (trails : Trails)
    (lists : List (List Call)) → Callings base logs trails lists → AreLogs logs
all_right al sl grow votes_stand base logs trails lists k =
    let n : length trails ≡ length base.servers + 1 = k.nodes.nodes in
    let fes = got trails 0 (omega (arith, n)) in
    stay_right al sl grow votes_stand base logs trails lists k fes.0 fes.1
