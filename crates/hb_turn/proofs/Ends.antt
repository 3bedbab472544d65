-- How a turn's transaction ends: the driver's talk is that of the turn.
use Rattle.std.proofs.Common.{◌≡◌, ℕ, true, false, refl, ap, sym, ◌∙◌, inl}
use Rattle.std.proofs.lemmas.Bool.{false≢true}
use Rattle.hb_types.specs.declared.answer.Answer.{Answer}
use Rattle.hb_types.specs.declared.names.Left.{Left}
use Rattle.hb_types.specs.declared.names.NodeName.{NodeName}
use Rattle.hb_types.specs.declared.names.Tx.{Tx}
use Rattle.hb_types.specs.declared.request.Request.{Request}
use Rattle.hb_types.specs.declared.request.Request.TheVariants as request
use Rattle.hb_model.specs.declared.reply.Reply.{Reply}
use Rattle.hb_model.specs.declared.reply.Reply.TheVariants as reply
use Rattle.hb_talk.specs.Ends.{ending, rolling_back, committing}
use Rattle.hb_talk.specs.Talk.{Talk, says, asks}
use Rattle.hb_access.specs.Accesses.{use_of}
use Rattle.hb_access.specs.declared.usage.Usage.{Usage}
use Rattle.hb_commit.specs.Driving.{Driving, Replies, using, now_talks as driver_talks, now_hears as driver_hears, Hears, reply_to}
use Rattle.hb_commit.specs.declared.outcome.Outcome.{Outcome}
use Rattle.hb_commit.proofs.NoLocks.{is_lock, driver_no_lock}
use Rattle.hb_wait.specs.Courses.{free, next_in, by_heard, after_call}
use Rattle.hb_wait.specs.Waiting.{after_request}
use Rattle.hb_wait.specs.declared.pending.Heard.TheVariants as heard_as
use Rattle.hb_wait.specs.declared.pending.Pending.TheVariants as pending
use Rattle.hb_turn.specs.declared.stage.After.{After}
use Rattle.hb_turn.specs.declared.stage.Ending.{Ending}
use Rattle.hb_turn.specs.declared.stage.Stage.{Stage}
use Rattle.hb_turn.specs.declared.stage.Stage.TheVariants as stage
use Rattle.hb_turn.specs.declared.turn.Turned.{Turned as Said}
use Rattle.hb_turn.specs.declared.turn.Turned.TheVariants as said
use Rattle.hb_turn.specs.declared.turn.Went.TheVariants as went
use Rattle.hb_turn.specs.Turning.{Turning, following, follows, in_transaction, outcome_of, owner, replies, shown_of, stands}
use Rattle.hb_turn.specs.Steps.{edges_heard, is_over, EndsOn, Makes, RollsBack}

abbrev pub ends_with : Usage → Driving → After → Stage
ends_with u d f = stage.Ends (record { usage = u; driver = d; after = f })

pub same_use : (u : Usage) (d : Driving) → d.tx ≡ u.tx → d.nodes ≡ u.used → using d u.locks u.bytes ≡ use_of u
same_use u d e f = λ i. record { tx = (e i).0; used = (f i).0; locks = u.locks; bytes = u.bytes }

pub rolls : (t : Turning) (u : Usage) (d : Driving) (f : After) → d.tx ≡ u.tx → d.nodes ≡ u.used
    → ((rs : Replies) (locks bytes : ℕ) → driver_talks rs d locks bytes ≡ rolling_back (using d locks bytes) 0 rs.back)
    → RollsBack (use_of u) f (record t { stage = ends_with u d f })
rolls t u d f e g talk =
    ap (λ x. free (following f x)) (talk (replies (owner t) f) u.locks u.bytes ∙ ap (λ v. rolling_back v 0 reply.RolledBack) (same_use u d e g))

pub commits_as : (t : Turning) (u : Usage) (d : Driving) (f : After) → d.tx ≡ u.tx → d.nodes ≡ u.used
    → ((rs : Replies) (locks bytes : ℕ) → driver_talks rs d locks bytes ≡ committing rs.owner (using d locks bytes) rs.shown)
    → free (following f (committing (owner t) (use_of u) (shown_of f))) ≡ stands (record t { stage = ends_with u d f })
commits_as t u d f e g talk =
    let rs = replies (owner t) f in
    sym (ap (λ x. free (following f x)) (talk rs u.locks u.bytes ∙ ap (λ v. committing (owner t) v (shown_of f)) (same_use u d e g)))

-- ---- steps

pub no_lock_heard : (node : NodeName) (q : Request) (a : Answer) → is_lock q ≡ false → after_request node q a ≡ heard_as.Answered a
no_lock_heard node (request.Lock tx path mode) a not = absurd (false≢true (sym not))
no_lock_heard node q a not = refl

pub end_asks : (t : Turning) (e : Ending) (d f : Driving) (node : NodeName) (q : Request) (a : Answer)
    → ((rs : Replies) (locks bytes : ℕ) → driver_talks rs e.driver locks bytes ≡ asks node.0 q (driver_hears rs d locks bytes))
    → Hears d f a
    → Makes (record t { stage = stage.Ends e }) (record t { stage = ends_with e.usage f e.after }) (pending.Asks node q) a went.More
end_asks t e d f node q a next hears =
    let rs = replies (owner t) e.after in
    let k = driver_hears rs d e.usage.locks e.usage.bytes in
    let eq : driver_talks rs e.driver e.usage.locks e.usage.bytes ≡ asks node.0 q k = next rs e.usage.locks e.usage.bytes in
    let not : is_lock q ≡ false = driver_no_lock rs e.driver e.usage.locks e.usage.bytes node.0 q k eq in
    let plain = no_lock_heard node q a not in
    record {
      next = ap (λ x. next_in (free (following e.after x))) eq;
      goes = λ told. inl (ap (λ x. after_call (free (following e.after x)) a) eq
          ∙ ap (by_heard (λ x. following e.after (k x))) plain
          ∙ ap (λ x. free (following e.after x)) (sym (hears.talk rs e.usage.locks e.usage.bytes)));
      edges = sym (ap edges_heard plain);
      begun = refl;
      active = refl;
    }

pub end_told : (t : Turning) (e : Ending) (left : Left) (how : Outcome) (s : Said) (a : Answer) → e.driver.tx ≡ e.usage.tx
    → driver_talks (replies (owner t) e.after) e.driver e.usage.locks e.usage.bytes ≡ ending (using e.driver e.usage.locks e.usage.bytes) left.0 (reply_to (replies (owner t) e.after) how)
    → outcome_of s ≡ follows e.after (reply_to (replies (owner t) e.after) how) → in_transaction t.stage ≡ false
    → Makes (record t { stage = stage.Ends e }) t (pending.Asks (record { 0 = 10 }) (request.End e.usage.tx left)) a (went.Said s)
end_told t e left how s a tx talk is over =
    let rs = replies (owner t) e.after in
    let r = reply_to rs how in
    let asks_end : Tx → Talk Reply = λ x. asks 10 (request.End x left) (λ y. says r) in
    let eq : driver_talks rs e.driver e.usage.locks e.usage.bytes ≡ asks_end e.usage.tx = talk ∙ ap asks_end tx in
    record {
      next = ap (λ x. next_in (free (following e.after x))) eq;
      goes = λ told. inl (ap (λ x. after_call (free (following e.after x)) a) eq ∙ ap (λ x. free (says x)) (sym is));
      edges = refl;
      begun = refl;
      active = over;
    }

-- a turn that ended the line
pub over_ends : (s : Said) (at : Stage) → is_over s ≡ true → EndsOn (went.Said s) at
over_ends (said.Over r) at is = tt
over_ends (said.Found hs number) at is = absurd (false≢true is)
over_ends (said.Again line) at is = absurd (false≢true is)
over_ends said.Onward at is = absurd (false≢true is)
