-- Where a statement stands behind a step of what is under way.
use Rattle.std.proofs.Common.{◌≡◌, true, false, Ok, Err, inl, ap, sym, ◌∙◌, subst}
use Rattle.hb_types.specs.declared.answer.Answer.{Answer}
use Rattle.hb_model.specs.declared.reply.Reply.{Reply}
use Rattle.hb_talk.specs.Sessions.{rolls_back}
use Rattle.hb_talk.specs.Talk.{Talk, says}
use Rattle.hb_access.specs.declared.access.Next.{Next}
use Rattle.hb_access.specs.declared.access.Next.TheVariants as next
use Rattle.hb_access.specs.Accesses.{Accessing, Ended, use_of, keeps_nodes}
use Rattle.hb_access.specs.Accesses as access
use Rattle.hb_access.specs.declared.access.Taken.TheVariants as came
use Rattle.hb_access.specs.declared.goal.Got.{Got}
use Rattle.hb_access.specs.declared.goal.Got.TheVariants as got
use Rattle.hb_access.specs.declared.usage.Usage.{Usage}
use Rattle.hb_access.proofs.Nodes.{goes_on}
use Rattle.hb_writes.specs.Underway.{Underway}
use Rattle.hb_writes.specs.Writings.{Replied}
use Rattle.hb_writes.specs.Writings as out
use Rattle.hb_plandefine.specs.declared.defining.Taken.{Taken}
use Rattle.hb_plandefine.specs.declared.defining.Taken.TheVariants as taken
use Rattle.hb_plandefine.specs.declared.stage.Stage.{Stage}
use Rattle.hb_plandefine.specs.declared.stage.Stage.TheVariants as stage
use Rattle.hb_plandefine.specs.declared.stage.Went.{Went}
use Rattle.hb_plandefine.specs.declared.stage.Went.TheVariants as went
use Rattle.hb_plandefine.specs.declared.stage.Then.{Then}
use Rattle.hb_plandefine.specs.Defines.{Goes, Hears, IsHeard, IsReady, NextIs, Tells, TellsGot, WentTo, follows, now_hears, now_talks, rolls, usage_at}
use Rattle.hb_plandefine.proofs.Asking.{follow}

pub next_asked : (old new : Accessing) (t : Then) (n : Next) → access.NextIs old new n → NextIs (stage.Asking old t) (stage.Asking new t) n
next_asked old new t (next.Ask node q) is = (is.0, ap (λ (x : Talk Ended). follow (follows t) x) is.1)
next_asked old new t (next.Refused r) is = ap (λ (x : Talk Ended). follow (follows t) x) is

pub next_written : (old new : Underway) (n : Next) → out.NextIs old new n → NextIs (stage.Writing old) (stage.Writing new) n
next_written old new (next.Ask node q) is = is
next_written old new (next.Refused r) is = is

-- ---- answers

pub heard_more : (old new : Accessing) (t : Then) (x : Answer) → access.now_hears old x ≡ access.now_talks new → Goes (now_hears (stage.Asking old t) x) (went.On (stage.Asking new t))
heard_more old new t x is = ap (λ (y : Talk Ended). follow (follows t) y) is

pub heard_refused : (old : Accessing) (t : Then) (x : Answer) (r : Reply) (u : Usage) → access.now_hears old x ≡ says (Err r, use_of u) → Goes (now_hears (stage.Asking old t) x) (went.Refused r u)
heard_refused old t x r u is = inl (ap (λ (y : Talk Ended). follow (follows t) y) is)

tells_got : (old : Accessing) (t : Then) (x : Answer) (g : Got) → access.Brings x (came.Came g) → Tells (stage.Asking old t) x → TellsGot t g
tells_got old t x (got.Rows rows) brings tells = subst (Tells (stage.Asking old t)) brings tells
tells_got old t x (got.Row row) brings tells = tt
tells_got old t x got.Nothing brings tells = tt

pub heard_came : (old : Accessing) (t : Then) (x : Answer) (g : Got) (u : Usage) (w : Went) → access.now_hears old x ≡ says (Ok g, use_of u) → access.Brings x (came.Came g)
    → (TellsGot t g → Goes (follows t g (use_of u)) w) → Tells (stage.Asking old t) x → Goes (now_hears (stage.Asking old t) x) w
heard_came old t x g u w is brings goes tells =
    subst (λ (y : Talk Replied). Goes y w) (sym (ap (λ (y : Talk Ended). follow (follows t) y) is)) (goes (tells_got old t x g brings tells))

-- ---- where a step leads

pub went_hears : (old new : Stage) (x : Answer) (w : Went) (t : Taken) → Goes (now_hears old x) w → WentTo w new t → Hears old new x t
went_hears old new x (went.On s) t goes to = subst (λ (y : Taken). Hears old new x y) (sym to.1) (goes ∙ ap now_talks (sym to.0))
went_hears old new x (went.Replied r u) t goes to =
    subst (λ (y : Taken). Hears old new x y) (sym to.1) (subst (λ (s : Stage). Hears old s x (taken.Replied r)) (sym to.0) goes)
went_hears old new x (went.Refused r u) t goes to =
    subst (λ (y : Taken). Hears old new x y) (sym to.1) (subst (λ (s : Stage). Hears old s x (taken.Refused r)) (sym to.0) goes)

-- ---- the nodes behind an answer

-- behind an answer that was no refusal, what goes on with the same nodes
pub heard : (old mid : Usage) (w : Went) → mid.tx.0 ≡ old.tx.0 → keeps_nodes old.used.0 mid.used.0 false ≡ true → IsReady mid w → IsHeard old w
heard old mid (went.On s) tx kept ready = (ready.0, ready.1 ∙ tx, ready.2, goes_on old.used.0 mid.used.0 (usage_at s).used.0 false kept ready.3)
heard old mid (went.Replied r v) tx kept ready = (ready.0 ∙ tx, goes_on old.used.0 mid.used.0 v.used.0 false kept ready.1)
heard old mid (went.Refused r v) tx kept ready = (ready.0 ∙ tx, goes_on old.used.0 mid.used.0 v.used.0 (rolls_back r) kept ready.1)

pub went_keeps : (old : Usage) (new : Stage) (w : Went) (t : Taken) → IsHeard old w → WentTo w new t → keeps_nodes old.used.0 (usage_at new).used.0 (rolls t) ≡ true
went_keeps old new (went.On s) t heard to =
    subst (λ (y : Taken). keeps_nodes old.used.0 (usage_at new).used.0 (rolls y) ≡ true) (sym to.1)
    (subst (λ (x : Stage). keeps_nodes old.used.0 (usage_at x).used.0 false ≡ true) (sym to.0) heard.3)
went_keeps old new (went.Replied r u) t heard to =
    subst (λ (y : Taken). keeps_nodes old.used.0 (usage_at new).used.0 (rolls y) ≡ true) (sym to.1)
    (subst (λ (x : Stage). keeps_nodes old.used.0 (usage_at x).used.0 false ≡ true) (sym to.0) heard.1)
went_keeps old new (went.Refused r u) t heard to =
    subst (λ (y : Taken). keeps_nodes old.used.0 (usage_at new).used.0 (rolls y) ≡ true) (sym to.1)
    (subst (λ (x : Stage). keeps_nodes old.used.0 (usage_at x).used.0 (rolls_back r) ≡ true) (sym to.0) heard.1)
