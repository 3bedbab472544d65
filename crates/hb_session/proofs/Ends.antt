-- How a transaction ends: the driver's talk is that of the session.
use Rattle.std.proofs.Common.{◌≡◌, ℕ, Bool, true, false, List, [], ◌∷◌, refl, ap, sym, ◌∙◌, subst, inl, inr}
use Rattle.std.proofs.lemmas.Bool.{false≢true}
use Rattle.hb_types.specs.declared.answer.Answer.{Answer}
use Rattle.hb_types.specs.declared.names.Left.{Left}
use Rattle.hb_types.specs.declared.names.NodeName.{NodeName}
use Rattle.hb_types.specs.declared.names.Tx.{Tx}
use Rattle.hb_types.specs.declared.request.Request.{Request}
use Rattle.hb_types.specs.declared.request.Request.TheVariants as request
use Rattle.hb_model.specs.declared.reply.Reply.{Reply}
use Rattle.hb_model.specs.declared.reply.Reply.TheVariants as reply
use Rattle.hb_model.specs.declared.statement.Statement.{Statement}
use Rattle.hb_model.specs.declared.statement.Statement.TheVariants as statement
use Rattle.hb_talk.specs.Ends.{ending, rollbacks, rolling_back, commits, committing, voting}
use Rattle.hb_talk.specs.Sessions.{going}
use Rattle.hb_talk.specs.Talk.{Talk, says, asks, Use}
use Rattle.hb_access.specs.Accesses.{use_of}
use Rattle.hb_access.specs.declared.usage.Usage.{Usage}
use Rattle.hb_commit.specs.Driving.{Driving, Replies, using, now_talks as driver_talks, now_hears as driver_hears, Hears}
use Rattle.hb_commit.proofs.NoLocks.{is_lock, driver_no_lock}
use Rattle.hb_wait.specs.Courses.{free, next_in, by_heard, after_call}
use Rattle.hb_wait.specs.Waiting.{after_request}
use Rattle.hb_wait.specs.declared.pending.Heard.TheVariants as heard_as
use Rattle.hb_wait.specs.declared.pending.Pending.TheVariants as pending
use Rattle.hb_session.specs.declared.session.Progress.TheVariants as progress
use Rattle.hb_session.specs.declared.stage.Ending.{Ending}
use Rattle.hb_session.specs.declared.stage.Stage.{Stage}
use Rattle.hb_session.specs.declared.stage.Stage.TheVariants as stage
use Rattle.hb_session.specs.Sitting.{Sitting, finishing, in_transaction, is_ending, owner, replies, stands_at}
use Rattle.hb_session.specs.Steps.{edges_heard, Gives, GivesAt, Makes}

abbrev pub ends_with : Usage → Driving → Reply → Stage
ends_with u d back = stage.Ends (record { usage = u; driver = d; back = record { reply = back } })

pub same_use : (u : Usage) (d : Driving) → d.tx ≡ u.tx → d.nodes ≡ u.used → using d u.locks u.bytes ≡ use_of u
same_use u d e f = λ i. record { tx = (e i).0; used = (f i).0; locks = u.locks; bytes = u.bytes }

pub rolls : (rs : Replies) (u : Usage) (d : Driving) → d.tx ≡ u.tx → d.nodes ≡ u.used
    → ((rs : Replies) (locks bytes : ℕ) → driver_talks rs d locks bytes ≡ rolling_back (using d locks bytes) 0 rs.back)
    → free (finishing (driver_talks rs d u.locks u.bytes)) ≡ free (finishing (rolling_back (use_of u) 0 rs.back))
rolls rs u d e f talk =
    let whole : driver_talks rs d u.locks u.bytes ≡ rolling_back (use_of u) 0 rs.back = talk rs u.locks u.bytes ∙ ap (λ v. rolling_back v 0 rs.back) (same_use u d e f) in
    ap (λ t. free (finishing t)) whole

open_commit : (back_ends : ℕ) (s : Sitting) (sts : List Statement) (v : Use)
    → going s.back_ends (owner s) (statement.Commit ∷ sts) v ≡ finishing (committing (owner s) v reply.Committed)
unfolding going
open_commit back_ends s sts v = refl

pub commit_given : (s : Sitting) (u : Usage) (d : Driving) (back : Reply) → s.stage ≡ stage.Open u → d.tx ≡ u.tx → d.nodes ≡ u.used
    → ((rs : Replies) (locks bytes : ℕ) → driver_talks rs d locks bytes ≡ committing rs.owner (using d locks bytes) rs.shown)
    → Gives s (record s { stage = ends_with u d back }) statement.Commit
commit_given s u d back at e f talk =
    let whole : driver_talks (replies s back) d u.locks u.bytes ≡ committing (owner s) (use_of u) reply.Committed =
    talk (replies s back) u.locks u.bytes ∙ ap (λ v. committing (owner s) v reply.Committed) (same_use u d e f) in
    record {
      same = record { index = refl; back_ends = refl };
      begun = refl;
      busy = refl;
      talk = λ sts. ap (stands_at s (statement.Commit ∷ sts)) at ∙ ap free (open_commit s.back_ends s sts (use_of u)) ∙ ap (λ t. free (finishing t)) (sym whole);
      moves = subst (λ g. GivesAt g (ends_with u d back)) (sym at) (inr refl);
    }

-- ---- no Lock is asked where a transaction ends

pub no_lock_heard : (node : NodeName) (q : Request) (a : Answer) → is_lock q ≡ false → after_request node q a ≡ heard_as.Answered a
no_lock_heard node (request.Lock tx path mode) a not = absurd (false≢true (sym not))
no_lock_heard node q a not = refl

-- ---- steps

pub end_asks : (s : Sitting) (e : Ending) (d f : Driving) (node : NodeName) (q : Request) (a : Answer)
    → ((rs : Replies) (locks bytes : ℕ) → driver_talks rs e.driver locks bytes ≡ asks node.0 q (driver_hears rs d locks bytes))
    → Hears d f a
    → Makes (record s { stage = stage.Ends e }) (record s { stage = ends_with e.usage f e.back.reply }) (pending.Asks node q) a progress.More
end_asks s e d f node q a next hears =
    let rs = replies s e.back.reply in
    let k = driver_hears rs d e.usage.locks e.usage.bytes in
    let eq : driver_talks rs e.driver e.usage.locks e.usage.bytes ≡ asks node.0 q k = next rs e.usage.locks e.usage.bytes in
    let not : is_lock q ≡ false = driver_no_lock rs e.driver e.usage.locks e.usage.bytes node.0 q k eq in
    let plain = no_lock_heard node q a not in
    record {
      next = λ sts. ap (λ t. next_in (free (finishing t))) eq;
      goes = λ told. inl (λ sts. ap (λ t. after_call (free (finishing t)) a) eq
          ∙ ap (by_heard (λ x. finishing (k x))) plain
          ∙ ap (λ t. free (finishing t)) (sym (hears.talk rs e.usage.locks e.usage.bytes)));
      moves = refl;
      edges = ap edges_heard (sym plain);
      begun = refl;
    }

pub end_told : (s : Sitting) (e : Ending) (left : Left) (r : Reply) (a : Answer) → s.stage ≡ stage.Idle → e.driver.tx ≡ e.usage.tx
    → driver_talks (replies s e.back.reply) e.driver e.usage.locks e.usage.bytes ≡ ending (using e.driver e.usage.locks e.usage.bytes) left.0 r
    → Makes (record s { stage = stage.Ends e }) s (pending.Asks (record { 0 = 10 }) (request.End e.usage.tx left)) a (progress.Ended r)
end_told s e left r a idle tx talk =
    let asks_end : Tx → Talk Reply = λ t. asks 10 (request.End t left) (λ x. says r) in
    let eq : driver_talks (replies s e.back.reply) e.driver e.usage.locks e.usage.bytes ≡ asks_end e.usage.tx = talk ∙ ap asks_end tx in
    record {
      next = λ sts. ap (λ t. next_in (free (finishing t))) eq;
      goes = λ told. inl (λ sts. ap (λ t. after_call (free (finishing t)) a) eq);
      moves = ap (λ g. is_ending g) idle ∙ sym (ap (λ g. in_transaction g) idle);
      edges = refl;
      begun = refl;
    }
