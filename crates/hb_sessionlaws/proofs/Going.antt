-- Where the calls of a session stand, by its stage.
use Rattle.std.proofs.Common.{◌≡◌, true, false, List, [], ap, sym, subst, inl, inr}
use Rattle.std.proofs.lemmas.Bool.{false≢true}
use Rattle.hb_types.specs.declared.trail.Call.{Call}
use Rattle.hb_model.specs.declared.reply.Reply.{Reply}
use Rattle.hb_talk.specs.Talk.{Talk}
use Rattle.hb_access.specs.declared.usage.Usage.{Usage}
use Rattle.hb_commit.specs.Driving.{now_talks as driver_talks}
use Rattle.hb_wait.specs.Courses.{Course, free}
use Rattle.hb_wait.specs.declared.pending.Heard.{Heard}
use Rattle.hb_wait.specs.declared.pending.Heard.TheVariants as heard_as
use Rattle.hb_session.specs.declared.session.Progress.{Progress}
use Rattle.hb_session.specs.declared.session.Progress.TheVariants as progress
use Rattle.hb_session.specs.declared.stage.Asking.{Asking}
use Rattle.hb_session.specs.declared.stage.Ending.{Ending}
use Rattle.hb_session.specs.declared.stage.Stage.{Stage}
use Rattle.hb_session.specs.declared.stage.Stage.TheVariants as stage
use Rattle.hb_session.specs.Sitting.{Sitting, finishing, in_transaction, is_ending, replies, stands_at}
use Rattle.hb_session.specs.Steps.{LeavesAs, Moves, MovesAt, StaysAt, nothing_used, said}
use Rattle.hb_obeys.proofs.Obeying.{Always}
use Rattle.hb_obeys.proofs.Standing.{Moment, Reaches}
use Rattle.hb_sessionlaws.proofs.Ending.{same_talk}
use Rattle.hb_sessionlaws.proofs.Undone.{Anyhow, rolling_back_may}
use Rattle.hb_sessionlaws.proofs.Using.{HasUsed, Hears, Pends, quiet, same_used}

abbrev pub ending_talk : Sitting → Ending → Talk (List Reply)
ending_talk s e = finishing (driver_talks (replies s e.back.reply) e.driver e.usage.locks e.usage.bytes)

-- the calls come to a moment from which all that this talk asks is permitted
pub record Goes (s : Sitting) (front : List Call) (t : Talk (List Reply)) : Type 0 where
  pub moment : Moment
  pub reaches : Reaches moment front
  pub always : Always (quiet s.index) t moment Anyhow

-- where a transaction has begun, the calls come to what its stage says that it has used, or its end is permitted
abbrev pub At : Sitting → List Call → Stage → Type 0
At s front stage.Idle = Unit {0}
At s front (stage.Begins g) = Unit {0}
At s front (stage.Open u) = HasUsed front u
At s front (stage.Refused u r) = HasUsed front u
At s front (stage.Enters tx g) = HasUsed front (nothing_used tx)
At s front (stage.Asks b) = Pends front b.plan.usage b.pending
At s front (stage.Ends e) = Goes s front (ending_talk s e)

pub none_begun : (s : Sitting) (front : List Call) (g : Stage) → in_transaction g ≡ false → At s front g
none_begun s front stage.Idle none = tt
none_begun s front (stage.Begins g) none = tt
none_begun s front _ none = absurd (false≢true (sym none))

-- ---- an end

-- it was begun
pub ends_at : (s : Sitting) (front : List Call) (g : Stage) (t : Talk (List Reply)) → is_ending g ≡ true → stands_at s [] g ≡ free t → Goes s front t → At s front g
ends_at s front (stage.Ends e) t ending is h = subst (Goes s front) (sym (same_talk (ending_talk s e) t is)) h
ends_at s front _ t ending is h = absurd (false≢true ending)

-- it goes on
pub ends_on_at : (s : Sitting) (front : List Call) (c : Course (List Reply)) → ((t : Talk (List Reply)) → c ≡ free t → Goes s front t)
    → (g : Stage) → is_ending g ≡ in_transaction g → (shows : Progress) → LeavesAs shows g → c ≡ said shows (stands_at s [] g) → At s front g
ends_on_at s front c goes stage.Idle same shows leaves is = tt
ends_on_at s front c goes (stage.Begins g) same shows leaves is = tt
ends_on_at s front c goes (stage.Ends e) same progress.More leaves is = goes (ending_talk s e) is
ends_on_at s front c goes (stage.Ends e) same (progress.Waits edges) leaves is = goes (ending_talk s e) is
ends_on_at s front c goes (stage.Ends e) same (progress.Shown r) leaves is = absurd (false≢true (sym leaves.0))
ends_on_at s front c goes (stage.Ends e) same (progress.Ended r) leaves is = absurd (false≢true (sym (ap is_ending leaves)))
ends_on_at s front c goes _ same shows leaves is = absurd (false≢true same)

-- ---- a statement that goes on

pub stays_at : (s : Sitting) (front : List Call) (u : Usage) (g : Stage) → HasUsed front u → StaysAt u g → At s front g
stays_at s front u (stage.Asks b) h x = subst (Pends front b.plan.usage) (sym x.pending) (record { before = u; stands = h; branch = x.branch; tx = x.tx; used = x.used })
stays_at s front u (stage.Open v) h x = same_used front u v x h
stays_at s front u (stage.Refused v r) h x = same_used front u v x h
stays_at s front u _ h x = absurd x

pub moves_at : (s : Sitting) (front : List Call) (u : Usage) → HasUsed front u → Moves u s → At s front s.stage
moves_at s front u h (inl x) = stays_at s front u s.stage h x
moves_at s front u h (inr x) =
    ends_at s front s.stage _ x.ending (x.rolls [])
    (record { moment = _; reaches = h.reaches; always = rolling_back_may (quiet s.index) h.begun u x.uses x.why x.tx x.nodes })

pub heard_at : (s : Sitting) (front : List Call) (b : Asking) (x : Heard) → Hears front b.plan.usage x → MovesAt (stage.Asks b) x s → At s front s.stage
heard_at s front b (heard_as.Answered a) h m = moves_at s front b.plan.usage h m
heard_at s front b (heard_as.Waits l edges) h m = subst (At s front) (sym m) h
heard_at s front b (heard_as.More p) h m = subst (At s front) (sym m) h
