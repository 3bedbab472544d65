-- Who voted at a server is who its decision names, with the floor of the vote.
use Rattle.std.proofs.Common.{◌≡◌, ◌⊎◌, ◌∙◌, ℕ, ◌<◌, Bool, true, false, List, [], ◌∷◌, ◌++◌, Some, ap, append_assoc, inl, inr, refl, subst, sym}
use Rattle.std.specs.Prelude.{slice_get, IsTrue}
use Rattle.std.proofs.lemmas.Bool.{false≢true}
use Rattle.hb_types.specs.declared.answer.Answer.{Answer}
use Rattle.hb_types.specs.declared.answer.Answer.TheVariants as answer
use Rattle.hb_types.specs.declared.change.LogItem.{LogItem}
use Rattle.hb_types.specs.declared.change.LogItem.TheVariants as item
use Rattle.hb_types.specs.declared.names.Number.{Number}
use Rattle.hb_types.specs.declared.request.Request.{Request}
use Rattle.hb_types.specs.declared.request.Request.TheVariants as request
use Rattle.hb_types.specs.declared.request.Vote.{Vote}
use Rattle.hb_types.specs.declared.trail.Call.{Call}
use Rattle.hb_types.specs.Lists.{Each, Has, IsIn}
use Rattle.hb_types.proofs.Ascending.{Has-back, Has-front, Has-of, in_Each}
use Rattle.hb_loglaws.proofs.Members.{Has-in, filter_in, found, in_filter}
use Rattle.hb_model.specs.Answers.{is_decide}
use Rattle.hb_disks.specs.Images.{Logs}
use Rattle.hb_disks.specs.Redo.{Decided, Prepared}
use Rattle.hb_disks.specs.Says.{prepares}
use Rattle.hb_disks.specs.StandsFor.{names_node}
use Rattle.hb_runs.specs.ServerRuns.{Asked}
use Rattle.hb_law.specs.Callers.{Asks, AsksAt, HasAskedAt, IsOpen, is_enlist, is_prepare, vote_in, votes_in}
use Rattle.hb_law.specs.Histories.{Labelled, Trails, asked_of, calls_at, stands}
use Rattle.hb_law.specs.Transactions.{tx_asked}
use Rattle.hb_serverlaws.specs.Logging.{IsRecordOf}
use Rattle.hb_parts.specs.Callings.{Callings}
use Rattle.hb_parts.specs.Courses.{IsCourse, Within, is_own}
use Rattle.hb_parts.specs.Voting.{IsNewDecision}
use Rattle.hb_whose.proofs.Parts.{behind_at, is_there, stands_at}
use Rattle.hb_whose.proofs.Told.{Placed, before, behind, placed, same}
use Rattle.hb_whose.proofs.Trailing.{in_calls_at, own_of}
use Rattle.hb_onefamily.proofs.Placing.{before_decide, named}
use Rattle.hb_onefamily.proofs.Writing.{voted_in_calls}

abbrev number_of : Answer → ℕ
number_of (answer.Vote f) = f.0
number_of _ = 0

abbrev is_fault : Answer → Bool
is_fault (answer.Fault area) = true
is_fault _ = false

-- ---- votes of a log, as requests

pub record VoteAsked (p : Prepared) (a : Asked) : Type 0 where
  pub request_is : a.request ≡ request.Prepare (record { 0 = p.tx })
  pub answer_is : (a.answer ≡ answer.Vote (record { 0 = p.floor })) ⊎ (a.answer ≡ answer.Fault false)

pub votes_asked : (trail : List Asked) (log : List LogItem) → Each (λ i. Has (IsRecordOf i) trail) log → Each (λ p. Has (VoteAsked p) trail) (prepares log)
votes_asked trail [] e = tt
votes_asked trail (item.Prepare tx floor locks changes ∷ is) e = (
  Has-of (IsRecordOf (item.Prepare tx floor locks changes)) (VoteAsked (record { tx = tx.0; floor = floor.0; locks = locks; changes = changes })) trail
      (λ a h. record { request_is = h.0; answer_is = h.1 }) e.0,
  votes_asked trail is e.1,
)
votes_asked trail (item.Commit tx n ∷ is) e = votes_asked trail is e.1
votes_asked trail (item.Abort tx ∷ is) e = votes_asked trail is e.1
votes_asked trail (item.Decision tx n nodes ∷ is) e = votes_asked trail is e.1
votes_asked trail (item.Ids m ∷ is) e = votes_asked trail is e.1

stood_vote : (a : Asked) (t f : ℕ) → a.request ≡ request.Prepare (record { 0 = t })
    → (a.answer ≡ answer.Vote (record { 0 = f })) ⊎ (a.answer ≡ answer.Fault false) → stands a ≡ true
stood_vote a t f q (inl h) =
    let it : a ≡ record {
      request = request.Prepare (record { 0 = t });
      answer = answer.Vote
          (record { 0 = f });
    } = (λ i. record { request = q i; answer = h i }) in ap stands it
stood_vote a t f q (inr h) =
    let it : a ≡ record {
      request = request.Prepare
          (record { 0 = t });
      answer = answer.Fault false;
    } = (λ i. record { request = q i; answer = h i }) in ap stands it

-- a vote that a call was answered is among the votes
vote_is_in : (c : Call) (calls : List Call) (f : Number) (t : ℕ) → IsIn c calls → c.request ≡ request.Prepare (record { 0 = t }) → c.answer ≡ answer.Vote f
    → Has (λ (v : Vote). (v.node.0 ≡ c.node.0) × (v.floor ≡ f)) (votes_in calls)
vote_is_in c [] f t h q e = absurd h
vote_is_in c (x ∷ xs) f t (inl i) q e =
    Has-front (λ (v : Vote). (v.node.0 ≡ c.node.0) × (v.floor ≡ f)) (vote_in x.node.0 x.request x.answer) (votes_in xs)
    (subst (λ z. Has (λ (v : Vote). (v.node.0 ≡ c.node.0) × (v.floor ≡ f)) (vote_in z.node.0 z.request z.answer)) (sym i)
    (subst (λ a. Has (λ (v : Vote). (v.node.0 ≡ c.node.0) × (v.floor ≡ f)) (vote_in c.node.0 c.request a)) (sym e)
    (subst (λ r. Has (λ (v : Vote). (v.node.0 ≡ c.node.0) × (v.floor ≡ f)) (vote_in c.node.0 r (answer.Vote f))) (sym q) (inl (refl, refl)))))
vote_is_in c (x ∷ xs) f t (inr i) q e =
    Has-back (λ (v : Vote). (v.node.0 ≡ c.node.0) × (v.floor ≡ f)) (vote_in x.node.0 x.request x.answer) (votes_in xs) (vote_is_in c xs f t i q e)

module _ (base logs : Logs) (trails : Trails) (lists : List (List Call)) (fes : List Labelled) (k : Callings base logs trails lists) (d : Decided)
    (nd : IsNewDecision trails lists fes d)
    (node : ℕ) (trail : List Labelled) (got_trail : slice_get trails node ≡ Some trail) where
  course_at : (f : List Call) (y : Call) (r : List Call) → nd.owned.course ≡ f ++ y ∷ r → Within d.tx f y.node.0 y.request
  course_at f y r e = behind_at (λ f y. Within d.tx f y.node.0 y.request) [] f y r (subst (IsCourse d.tx) e nd.owned.is_course)

  in_front : (f : List Call) (y : Call) (r : List Call) → nd.is_decided.front ≡ f ++ y ∷ r
      → nd.owned.course ≡ f ++ y ∷ (r ++ nd.is_decided.decide ∷ nd.is_decided.back)
  in_front f y r e =
      nd.is_decided.parts ∙ ap (λ l. l ++ nd.is_decided.decide ∷ nd.is_decided.back) e ∙ append_assoc f (y ∷ r) (nd.is_decided.decide ∷ nd.is_decided.back)

  -- two Prepares of it at the node are one call
  one_prepare : (f g : List Call) (x y : Call) (r s : List Call) → nd.is_decided.front ≡ f ++ x ∷ r → nd.is_decided.front ≡ g ++ y ∷ s → x.node.0 ≡ node
      → y.node.0 ≡ node
      → IsTrue (is_prepare x.request) → IsTrue (is_prepare y.request) → x ≡ y
  one_prepare f g x y r s p q a b u v = by (placed f x r g y s (sym p ∙ q))
    where
      unprepared : (f : List Call) (z : Call) (r : List Call) → nd.is_decided.front ≡ f ++ z ∷ r → IsTrue (is_prepare z.request)
          → ¬ (HasAskedAt is_prepare z.node.0 f)
      unprepared f z r e w = prepares_once z.request w (course_at f z (r ++ nd.is_decided.decide ∷ nd.is_decided.back) (in_front f z r e))
        where
          prepares_once : (qq : Request) → IsTrue (is_prepare qq) → Within d.tx f z.node.0 qq → ¬ (HasAskedAt is_prepare z.node.0 f)
          prepares_once (request.Prepare tx) w h = h.1.unprepared
          prepares_once qq w h = absurd (false≢true w)

      by : Placed f x g y → x ≡ y
      by (same e) = e
      by (before m e) = absurd (unprepared g y s q v (Has-in (AsksAt is_prepare y.node.0) x g (subst (IsIn x) (sym e) (is_there x f m)) (a ∙ sym b, u)))
      by (behind m e) = absurd (unprepared f x r p u (Has-in (AsksAt is_prepare x.node.0) y f (subst (IsIn y) (sym e) (is_there y g m)) (b ∙ sym a, v)))

  -- a vote of it that was asked here is one of its votes
  pub its_vote : (p : Prepared) → p.tx ≡ d.tx → Has (VoteAsked p) (asked_of trail)
      → Has (λ (v : Vote). (v.node.0 ≡ node) × (v.floor.0 ≡ p.floor)) nd.is_decided.votes
  its_vote p same_tx h =
      let a = found (VoteAsked p) (asked_of trail) h in
      let q : a.0.request ≡ request.Prepare (record { 0 = d.tx }) = a.2.request_is ∙ ap (λ n. request.Prepare (record { 0 = n })) same_tx in
      let own = own_of d.tx a.0 (ap tx_asked q) (stood_vote a.0 p.tx p.floor a.2.request_is a.2.answer_is) in
      let here = in_filter (is_own d.tx) a.0 (calls_at node nd.owned.course)
      (subst (IsIn a.0) (nd.owned.in_trails node trail got_trail) (filter_in (is_own d.tx) a.0 (asked_of trail) a.1 own)) in
      let c = in_calls_at node a.0 nd.owned.course here.0 in
      let s = stands_at c.0 nd.owned.course c.1 in
      let cq : c.0.request ≡ request.Prepare (record { 0 = d.tx }) = ap (λ z. z.request) c.3 ∙ q in
      let w : (d.tx ≡ d.tx) × IsOpen c.0.node.0 s.front = subst (Within d.tx s.front c.0.node.0) cq (course_at s.front c.0 s.back s.parts) in
      let early = before_decide d.tx nd.owned.course nd.is_decided.front nd.is_decided.decide nd.is_decided.back s.front c.0 s.back nd.is_decided.parts nd.is_decided.nothing_behind s.parts (ap tx_asked cq)
      (λ e. false≢true (sym (ap is_decide cq) ∙ ap (λ z. is_decide z.request) e ∙ ap is_decide nd.is_decided.asked)) in
      let enlist = found (AsksAt is_enlist c.0.node.0) nd.is_decided.front
      (subst (HasAskedAt is_enlist c.0.node.0) (sym early.parts) (Has-front (AsksAt is_enlist c.0.node.0) s.front (c.0 ∷ early.more) w.1.enlisted)) in
      let voted : Has (λ (v : Vote). v.node.0 ≡ node) (votes_in nd.is_decided.front) = subst
      (λ n. Has (λ (v : Vote). v.node.0 ≡ n) (votes_in nd.is_decided.front)) (enlist.2.0 ∙ c.2)
      (in_Each (λ y. Asks is_enlist y → Has (λ v. v.node.0 ≡ y.node.0)
      (votes_in nd.is_decided.front)) enlist.0 nd.is_decided.front enlist.1 nd.is_decided.all enlist.2.1) in
      let v = voted_in_calls node nd.is_decided.front voted in
      let z = stands_at v.call nd.is_decided.front v.within in
      let one : c.0 ≡ v.call = one_prepare s.front z.front c.0 v.call early.more z.back early.parts z.parts c.2 v.at_node (ap is_prepare cq)
      (ap is_prepare v.request_is) in
      let answered : a.0.answer ≡ answer.Vote v.floor = ap (λ y. y.answer) (sym c.3) ∙ ap (λ y. y.answer) one ∙ v.answer_is in
      let within = vote_is_in v.call nd.is_decided.front v.floor v.tx.0 v.within v.request_is v.answer_is in
      Has-of (λ (x : Vote). (x.node.0 ≡ v.call.node.0) × (x.floor ≡ v.floor)) (λ x. (x.node.0 ≡ node) × (x.floor.0 ≡ p.floor)) nd.is_decided.votes
      (λ x e. (e.0 ∙ v.at_node, ap (λ n. n.0) e.1 ∙ floor_is v.floor answered a.2.answer_is))
      (subst (Has (λ (x : Vote). (x.node.0 ≡ v.call.node.0) × (x.floor ≡ v.floor))) (sym nd.is_decided.told) within)
    where
      floor_is : (f : Number) {b : Answer} → b ≡ answer.Vote f → (b ≡ answer.Vote (record { 0 = p.floor })) ⊎ (b ≡ answer.Fault false) → f.0 ≡ p.floor
      floor_is f e (inl h) = ap number_of (sym e ∙ h)
      floor_is f e (inr h) = absurd (false≢true (ap is_fault (sym e ∙ h)))

  -- so its number is above the floor
  pub above_floor : (p : Prepared) → p.tx ≡ d.tx → Has (VoteAsked p) (asked_of trail) → p.floor < d.number
  above_floor p same_tx h =
      let v = found (λ (v : Vote). (v.node.0 ≡ node) × (v.floor.0 ≡ p.floor)) nd.is_decided.votes (its_vote p same_tx h) in
      subst (λ f. f < d.number) v.2.1 (in_Each (λ (v : Vote). v.floor.0 < d.number) v.0 nd.is_decided.votes v.1 nd.is_decided.above)

  -- and its decision names the node
  pub is_named : (p : Prepared) → p.tx ≡ d.tx → Has (VoteAsked p) (asked_of trail) → IsTrue (names_node node d)
  is_named p same_tx h =
      named node d nd.is_decided.votes nd.is_decided.nodes
      (Has-of (λ (v : Vote). (v.node.0 ≡ node) × (v.floor.0 ≡ p.floor)) (λ v. v.node.0 ≡ node) nd.is_decided.votes (λ v e. e.0) (its_vote p same_tx h))
