-- What a session asks and shows follows the talk of what it was given.
use Rattle.std.proofs.Common.{◌≡◌, Bool, true, false, List, [], ◌∷◌, ◌++◌, sym, subst}
use Rattle.std.proofs.lemmas.Bool.{false≢true}
use Rattle.std.proofs.lemmas.List.{append-nil, append_assoc}
use Rattle.hb_types.specs.declared.answer.Answer.{Answer}
use Rattle.hb_types.specs.declared.trail.Call.{Call}
use Rattle.hb_model.specs.declared.reply.Reply.{Reply}
use Rattle.hb_model.specs.declared.statement.Statement.{Statement}
use Rattle.hb_talk.specs.Sessions.{going, transaction}
use Rattle.hb_talk.specs.Talk.{Talk, says, going_on, Follows, ends, asked, waits, gone, dies, not_yet, ready}
use Rattle.hb_access.specs.Accesses.{use_of}
use Rattle.hb_wait.specs.Courses.{FollowsIn}
use Rattle.hb_wait.specs.declared.pending.Pending.{Pending}
use Rattle.hb_wait.proofs.Following.{leads}
use Rattle.hb_session.specs.declared.session.Progress.{Progress}
use Rattle.hb_session.specs.declared.session.Progress.TheVariants as progress
use Rattle.hb_session.specs.declared.stage.Stage.{Stage}
use Rattle.hb_session.specs.declared.stage.Stage.TheVariants as stage
use Rattle.hb_session.specs.Sitting.{Sitting, in_transaction, is_busy, next_owner, owner, stands, stands_at}
use Rattle.hb_session.specs.Steps.{LeavesAs, replied, said}
use Rattle.hb_session.specs.Runs.{Asks, Runs, stays, gives, asks, refuses, reply_shown, is_end, call_of}

-- what is said in the end may be said otherwise
renamed : {A B : Type 0} (f : A → B) {w : Bool} {t : Talk A} {cs : List Call} {r : A} → Follows w t cs r → Follows w (going_on (λ x. says (f x)) t) cs (f r)
renamed f ends = ends
renamed f (asked a plain h) = asked a plain (renamed f h)
renamed f (waits tx p path m wanted holders edges h) = waits tx p path m wanted holders edges (renamed f h)
renamed f (gone tx p path m wanted holders h) = gone tx p path m wanted holders (renamed f h)
renamed f (dies tx p path m wanted holders a ends_it h) = dies tx p path m wanted holders a ends_it (renamed f h)
renamed f (not_yet tx target h) = not_yet tx target (renamed f h)
renamed f (ready tx h) = ready tx (renamed f h)

-- a reply goes before those of a transaction between two statements
replied_follows : (s : Sitting) (sts : List Statement) (r : Reply) (g : Stage) (cs : List Call) (rs : List Reply) → is_busy g ≡ false → in_transaction g ≡ true
    → FollowsIn (stands_at s sts g) cs rs → FollowsIn (replied r (stands_at s sts g)) cs (r ∷ rs)
replied_follows s sts r (stage.Open u) cs rs still there f = renamed (λ (xs : List Reply). r ∷ xs) {w = false} {t = going s.back_ends (owner s) sts (use_of u)} f
replied_follows s sts r stage.Idle cs rs still there f = absurd (false≢true there)
replied_follows s sts r _ cs rs still there f = absurd (false≢true (sym still))

said_follows : (s : Sitting) (sts : List Statement) (shows : Progress) (cs : List Call) (rs : List Reply) → LeavesAs shows s.stage → is_end shows ≡ false
    → FollowsIn (stands s sts) cs rs → FollowsIn (said shows (stands s sts)) cs (reply_shown shows ++ rs)
said_follows s sts progress.More cs rs leaves goes f = f
said_follows s sts (progress.Waits edges) cs rs leaves goes f = f
said_follows s sts (progress.Shown r) cs rs leaves goes f = replied_follows s sts r s.stage cs rs leaves.0 leaves.1 f
said_follows s sts (progress.Ended r) cs rs leaves goes f = absurd (false≢true (sym goes))

asked_follows : (old new : Sitting) (p : Pending) (a : Answer) (shows : Progress) (sts : List Statement) (cs : List Call) (rs : List Reply) → Asks old new p a shows
    → FollowsIn (said shows (stands new sts)) cs rs → FollowsIn (stands old sts) (call_of p a ∷ cs) rs
asked_follows old new p a shows sts cs rs h f =
    (leads (stands old sts) p a (h.makes.next sts) h.expected).follows cs rs (subst (λ c. FollowsIn c cs rs) (sym (h.goes sts)) f)

pub runs_follow : (old new : Sitting) (given : List Statement) (calls : List Call) (replies : List Reply) → Runs old given calls replies new
    → (sts : List Statement) (cs : List Call) (rs : List Reply) → FollowsIn (stands new sts) cs rs → FollowsIn (stands old (given ++ sts)) (calls ++ cs) (replies ++ rs)
runs_follow old new given calls replies stays sts cs rs f = f
runs_follow old new _ calls replies (gives {m = m} {st = st} {sts = given} g more) sts cs rs f =
    subst (λ c. FollowsIn c (calls ++ cs) (replies ++ rs)) (sym (g.talk (given ++ sts))) (runs_follow m new given calls replies more sts cs rs f)
runs_follow old new given _ _ (asks {m = m} {cs = calls} {rs = replies} p a shows h goes more) sts cs rs f =
    subst (λ xs. FollowsIn (stands old (given ++ sts)) (call_of p a ∷ (calls ++ cs)) xs) (sym (append_assoc (reply_shown shows) replies rs))
    (asked_follows old m p a shows (given ++ sts) (calls ++ cs) (reply_shown shows ++ (replies ++ rs)) h
    (said_follows m (given ++ sts) shows (calls ++ cs) (replies ++ rs) h.leaves goes (runs_follow m new given calls replies more sts cs rs f)))
runs_follow old new given calls _ (refuses {m = m} {rs = replies} shows leaves to goes more) sts cs rs f =
    subst (λ xs. FollowsIn (stands old (given ++ sts)) (calls ++ cs) xs) (sym (append_assoc (reply_shown shows) replies rs))
    (subst (λ c. FollowsIn c (calls ++ cs) (reply_shown shows ++ (replies ++ rs))) (sym (to (given ++ sts)))
    (said_follows m (given ++ sts) shows (calls ++ cs) (replies ++ rs) leaves goes (runs_follow m new given calls replies more sts cs rs f)))

pub ends_follow : (old last new : Sitting) (given : List Statement) (calls : List Call) (replies : List Reply) → Runs old given calls replies last
    → (p : Pending) (a : Answer) (r : Reply) → Asks last new p a (progress.Ended r)
    → FollowsIn (stands old given) (calls ++ call_of p a ∷ []) (replies ++ r ∷ [])
ends_follow old last new given calls replies runs p a r h =
    subst (λ sts. FollowsIn (stands old sts) (calls ++ call_of p a ∷ []) (replies ++ r ∷ [])) (append-nil given)
    (runs_follow old last given calls replies runs [] (call_of p a ∷ []) (r ∷ [])
    (asked_follows last new p a (progress.Ended r) [] [] (r ∷ []) h ends))

pub transactions_follow : (old last new : Sitting) (st : Statement) (given : List Statement) (calls : List Call) (replies : List Reply) → old.stage ≡ stage.Idle
    → Runs old (st ∷ given) calls replies last → (p : Pending) (a : Answer) (r : Reply) → Asks last new p a (progress.Ended r)
    → Follows false (transaction old.back_ends (next_owner old) (st ∷ given)) (calls ++ call_of p a ∷ []) (replies ++ r ∷ [])
transactions_follow old last new st given calls replies idle runs p a r h =
    subst (λ g. FollowsIn (stands_at old (st ∷ given) g) (calls ++ call_of p a ∷ []) (replies ++ r ∷ [])) idle (ends_follow old last new (st ∷ given) calls replies runs p a r h)
