-- No Lock is asked where a transaction ends.
use Rattle.std.proofs.Common.{◌≡◌, ℕ, Bool, true, false, List, [], ◌∷◌, refl, ap, sym, ◌∙◌}
use Rattle.hb_types.specs.declared.answer.Answer.{Answer}
use Rattle.hb_types.specs.declared.request.Request.{Request}
use Rattle.hb_types.specs.declared.request.Request.TheVariants as request
use Rattle.hb_types.specs.declared.request.Vote.{Vote}
use Rattle.hb_model.specs.declared.reply.Reply.{Reply}
use Rattle.hb_talk.specs.Ends.{rollbacks, commits, voting}
use Rattle.hb_talk.specs.Talk.{Talk, says, asks, Use}
use Rattle.hb_nodeset.specs.NodesFrom.{nodes_from}
use Rattle.hb_commit.specs.declared.stage.Stage.{Stage as Moment}
use Rattle.hb_commit.specs.declared.stage.Stage.TheVariants as moment
use Rattle.hb_commit.specs.Driving.{Driving, Replies, using, talk_at, now_talks as driver_talks}

abbrev pub is_lock : Request → Bool
is_lock (request.Lock tx path mode) = true
is_lock _ = false

abbrev asks_lock : {R : Type 0} → Talk R → Bool
asks_lock (says r) = false
asks_lock (asks node q k) = is_lock q

votes_no_lock : (rs : Replies) (u : Use) (prepared : ℕ) (ns : List ℕ) (votes : List Vote) → asks_lock (voting rs.owner u rs.shown prepared ns votes) ≡ false
votes_no_lock rs u prepared [] votes = refl
votes_no_lock rs u prepared (n ∷ ns) votes = refl

commits_no_lock : (rs : Replies) (u : Use) (number : _) (ns : List ℕ) (left : ℕ) (r : Reply) → asks_lock (commits u number ns left r) ≡ false
commits_no_lock rs u number [] left r = refl
commits_no_lock rs u number (n ∷ ns) left r = refl

rollbacks_no_lock : (u : Use) (prepared : ℕ) (ns : List ℕ) (left : ℕ) (r : Reply) → asks_lock (rollbacks u prepared ns left r) ≡ false
rollbacks_no_lock u prepared [] left r = refl
rollbacks_no_lock u prepared (n ∷ ns) left r = refl

ends_no_lock : (rs : Replies) (u : Use) (votes : List Vote) (m : Moment) → asks_lock (talk_at rs u votes m) ≡ false
ends_no_lock rs u votes (moment.Voting from prepared) = votes_no_lock rs u prepared.0 (nodes_from u.used from) votes
ends_no_lock rs u votes (moment.Committing number from left) = commits_no_lock rs u number (nodes_from u.used from) left.0 (rs.shown number)
ends_no_lock rs u votes (moment.Aborting prepared why) = refl
ends_no_lock rs u votes (moment.Undoing prepared from left why) = rollbacks_no_lock u prepared.0 (nodes_from u.used from) left.0 _
ends_no_lock rs u votes (moment.Ended how left) = refl
ends_no_lock rs u votes (moment.Vote node prepared) = refl
ends_no_lock rs u votes moment.Decision = refl
ends_no_lock rs u votes (moment.Commit number node left) = refl
ends_no_lock rs u votes (moment.Abort prepared why) = refl
ends_no_lock rs u votes (moment.Undo prepared node left why) = refl

pub driver_no_lock : (rs : Replies) (d : Driving) (locks bytes : ℕ) (node : ℕ) (q : Request) (k : Answer → Talk Reply)
    → driver_talks rs d locks bytes ≡ asks node q k → is_lock q ≡ false
driver_no_lock rs d locks bytes node q k e = sym (ap asks_lock e) ∙ ends_no_lock rs (using d locks bytes) d.votes d.stage
