-- Where a session's transaction stands by its talk, whatever statements follow, and how far it came from there.
use Rattle.std.proofs.Common.{◌≡◌, ℕ, List, [], ◌∷◌, ◌++◌, Bool, true, false, Result, subst, sym, ap}
use Rattle.std.specs.Prelude.{IsTrue, ◌≢◌}
use Rattle.hb_types.specs.declared.answer.Answer.TheVariants as answer
use Rattle.hb_types.specs.declared.names.Tx.{Tx}
use Rattle.hb_types.specs.declared.request.Request.TheVariants as request
use Rattle.hb_types.specs.declared.trail.Call.{Call}
use Rattle.hb_model.specs.declared.reply.Reply.{Reply}
use Rattle.hb_model.specs.declared.statement.Statement.{Statement}
use Rattle.hb_talk.specs.Ends.{fes1}
use Rattle.hb_talk.specs.Moves.{fresh}
use Rattle.hb_talk.specs.PlansDefine.{plan}
use Rattle.hb_talk.specs.Sessions.{going, transaction}
use Rattle.hb_talk.specs.Talk.{Talk, Use}
use Rattle.hb_model.specs.Answers.{call}
use Rattle.hb_faithful.specs.Planned.{AreBeside, Opens, is_planned, is_rolled_back}
use Rattle.hb_plan.specs.Planned.{Said}
use Rattle.hb_plancalc.specs.Counted.{reply_in}
use Rattle.hb_wait.specs.Courses.{Course, free, FollowsIn}
use Rattle.hb_session.specs.declared.session.Progress.{Progress}
use Rattle.hb_session.specs.Runs.{reply_shown}
use Rattle.hb_session.specs.Sitting.{Sitting, answered, next_owner, opening, stands}
use Rattle.hb_itemlaws.specs.Dividing.{Given}
use Rattle.hb_itemlaws.specs.GivingUp.{LeftOff, amid, behind}
use Rattle.hb_itemlaws.specs.Owning.{NoBegin}
use Rattle.hb_sessionitems.proofs.Courses.{EndsOnly, into}

-- ---- what is still to be said

abbrev pub going_at : Sitting → List Statement → Use → Talk (List Reply)
going_at old sts = going old.back_ends (next_owner old) sts

-- Of a session whose transaction began at `old`: there is none yet, it is to be begun, or entered, it is between two statements,
-- amid a plan, or it ends whatever follows.
pub data At (old m : Sitting) : Type 0 where
  none_at : ((sts : List Statement) → stands m sts ≡ free (opening old sts)) → At old m
  begins_at : (st : Statement) → ((sts : List Statement) → stands m sts ≡ free (transaction old.back_ends (next_owner old) (st ∷ sts))) → At old m
  enters_at : (st : Statement) (tx : Tx) → ((sts : List Statement) → stands m sts ≡ free (answered (transaction old.back_ends (next_owner old) (st ∷ sts)) (answer.Begun tx))) → At old m
  open_at : (v : Use) → ((sts : List Statement) → stands m sts ≡ free (going_at old sts v)) → At old m
  amid_at : (S : Course Said) → ((sts : List Statement) → stands m sts ≡ into (going_at old sts) S) → At old m
  ends_at : (C : Course (List Reply)) → EndsOnly C → ((sts : List Statement) → stands m sts ≡ C) → At old m

-- ---- how far it comes

-- from amid a plan: no farther than in this plan, or behind it
pub data LeftIn (back_ends : ℕ) (amidst : Bool) (S : Course Said) (ws : List Given) (calls : List Call) (replies : List Reply) : Type 0 where
  here : amidst ≡ true → replies ≡ [] → (more : List Call) (r : Said) → FollowsIn S (calls ++ more) r → LeftIn back_ends amidst S ws calls replies
  past : (xs ys : List Call) (o : Result Reply Reply) (v : Use) (rs : List Reply) → FollowsIn S xs (o, v) → is_rolled_back o ≡ false → calls ≡ xs ++ ys → replies ≡ reply_in o ∷ rs
      → LeftOff back_ends amidst ws v ys rs → LeftIn back_ends amidst S ws calls replies

-- from a transaction that is begun
pub record LeftFrom (back_ends : ℕ) (amidst : Bool) (tx : ℕ) (works : List Given) (calls : List Call) (replies : List Reply) : Type 0 where
  pub front : List Call
  pub asked : List Call
  pub late : List Call
  pub parts : calls ≡ front ++ (asked ++ late)
  pub opens : Opens front
  pub beside : AreBeside late
  pub front_begins : NoBegin front
  pub late_begins : NoBegin late
  pub late_alone : replies ≢ [] → late ≡ []
  pub left : LeftOff back_ends amidst works (fresh tx) asked replies

-- from before its Begin
pub record LeftBegun (old : Sitting) (amidst : Bool) (works : List Given) (calls : List Call) (replies : List Reply) : Type 0 where
  pub tx : Tx
  pub more : List Call
  pub whole : calls ≡ call fes1 (request.Begin (next_owner old)) (answer.Begun tx) ∷ more
  pub left : LeftFrom old.back_ends amidst tx.0 works more replies

-- from where it stands
abbrev pub LeftAt : (old m : Sitting) → Bool → At old m → List Given → List Call → List Reply → Type 0
LeftAt old m amidst (none_at e) ws calls replies = LeftBegun old amidst ws calls replies
LeftAt old m amidst (begins_at st e) ws calls replies = (place : ℕ) → LeftBegun old amidst ((place, st) ∷ ws) calls replies
LeftAt old m amidst (enters_at st tx e) ws calls replies = (place : ℕ) → LeftFrom old.back_ends amidst tx.0 ((place, st) ∷ ws) calls replies
LeftAt old m amidst (open_at v e) ws calls replies = LeftOff old.back_ends amidst ws v calls replies
LeftAt old m amidst (amid_at S e) ws calls replies = LeftIn old.back_ends amidst S ws calls replies
LeftAt old m amidst (ends_at C h e) ws calls replies = ⊥

-- from a statement of a transaction that is open
abbrev pub LeftGiven : Sitting → Bool → Statement → Use → List Given → List Call → List Reply → Type 0
LeftGiven old amidst st v ws calls replies = (place : ℕ) → LeftOff old.back_ends amidst ((place, st) ∷ ws) v calls replies

-- A session stands somewhere, and however far it comes from there, with what was shown before it came so far otherwise.
abbrev pub Onto : (old m : Sitting) → Bool → (List Given → List Call → List Reply → Type 0) → Progress → Type 0
Onto old m amidst left shows =
    (at : At old m) × ((ws : List Given) (calls : List Call) (replies : List Reply) → LeftAt old m amidst at ws calls replies → left ws calls (reply_shown shows ++ replies))

-- ---- steps of that

-- one call more in a plan
pub left_before : {back_ends : ℕ} {amidst : Bool} (S T : Course Said) (c : Call) → ((cs : List Call) (r : Said) → FollowsIn T cs r → FollowsIn S (c ∷ cs) r)
    → (ws : List Given) (calls : List Call) (replies : List Reply) → LeftIn back_ends amidst T ws calls replies → LeftIn back_ends amidst S ws (c ∷ calls) replies
left_before S T c add ws calls replies (here is none more r f) = here is none more r (add (calls ++ more) r f)
left_before S T c add ws calls replies (past xs ys o v rs f stays parts said left) = past (c ∷ xs) ys o v rs (add xs (o, v) f) stays (ap (λ z. c ∷ z) parts) said left

-- from where the plan of a statement begins
pub left_plan : (back_ends : ℕ) (amidst : Bool) (w : Given) (u : Use) (ws : List Given) (calls : List Call) (replies : List Reply) → IsTrue (is_planned w.1)
    → LeftIn back_ends amidst (free (plan back_ends w.1 u)) ws calls replies → LeftOff back_ends amidst (w ∷ ws) u calls replies
left_plan back_ends amidst w u ws calls replies planned (here is none more r f) =
    subst (λ b. LeftOff back_ends b (w ∷ ws) u calls replies) (sym is) (subst (λ rs. LeftOff back_ends true (w ∷ ws) u calls rs) (sym none) (amid (more, r, f)))
left_plan back_ends amidst w u ws calls replies planned (past xs ys o v rs f stays parts said left) =
    subst (λ cs. LeftOff back_ends amidst (w ∷ ws) u cs replies) (sym parts) (subst (λ qs. LeftOff back_ends amidst (w ∷ ws) u (xs ++ ys) qs) (sym said) (behind planned f stays left))
