-- Where what was shown leads a session.
use Rattle.std.proofs.Common.{◌≡◌, ℕ, List, [], ◌∷◌, Bool, true, false, Result, refl, subst, sym, ap, ◌∙◌}
use Rattle.std.proofs.lemmas.Bool.{false≢true}
use Rattle.hb_types.specs.declared.names.Owner.{Owner}
use Rattle.hb_types.specs.declared.trail.Call.{Call}
use Rattle.hb_model.specs.declared.reply.Reply.{Reply}
use Rattle.hb_model.specs.declared.reply.Reply.TheVariants as reply
use Rattle.hb_model.specs.declared.statement.Statement.{Statement}
use Rattle.hb_model.specs.declared.statement.Statement.TheVariants as statement
use Rattle.hb_talk.specs.Ends.{committing, rolling_back}
use Rattle.hb_talk.specs.PlansDefine.{plan}
use Rattle.hb_talk.specs.Sessions.{going, with_reply}
use Rattle.hb_talk.specs.Talk.{Talk, says, asks, ends, Use}
use Rattle.hb_access.specs.Accesses.{use_of}
use Rattle.hb_faithful.specs.Planned.{is_rolled_back}
use Rattle.hb_plan.specs.Planned.{Said}
use Rattle.hb_plancalc.specs.Counted.{reply_in}
use Rattle.hb_wait.specs.Courses.{Course, free, halted, FollowsIn}
use Rattle.hb_session.specs.declared.session.Progress.{Progress}
use Rattle.hb_session.specs.declared.session.Progress.TheVariants as progress
use Rattle.hb_session.specs.declared.stage.Stage.{Stage}
use Rattle.hb_session.specs.declared.stage.Stage.TheVariants as stage
use Rattle.hb_session.specs.Runs.{is_end}
use Rattle.hb_session.specs.Sitting.{Sitting, finishing, in_transaction, is_busy, next_owner, owner, stands, stands_at}
use Rattle.hb_session.specs.Steps.{LeavesAs, replied, said}
use Rattle.hb_itemlaws.specs.Dividing.{Given}
use Rattle.hb_itemlaws.proofs.Goings.{going_planned}
use Rattle.hb_itemlaws.proofs.Ends.{committed_ends, undone_ends}
use Rattle.hb_sessionitems.proofs.Courses.{EndsOnly, after_kept, after_undone, first_or, into, is_said, talk_in, unsaid, unsaid_with, words_of}
use Rattle.hb_sessionitems.proofs.Positions.{At, LeftAt, LeftGiven, LeftIn, Onto, past, amid_at, ends_at, going_at, left_plan, open_at}

-- ---- what is to be said of statements to come

pub going_none : (back_ends : ℕ) (o : Owner) (u : Use) → going back_ends o [] u ≡ says []
unfolding going
going_none back_ends o u = refl

going_rollback : (back_ends : ℕ) (o : Owner) (sts : List Statement) (u : Use) → going back_ends o (statement.Rollback ∷ sts) u ≡ finishing (rolling_back u 0 reply.RolledBack)
unfolding going
going_rollback back_ends o sts u = refl

going_commit : (back_ends : ℕ) (o : Owner) (sts : List Statement) (u : Use) → going back_ends o (statement.Commit ∷ sts) u ≡ finishing (committing o u reply.Committed)
unfolding going
going_commit back_ends o sts u = refl

-- ---- a session with no statement in progress

-- if nothing is given to it, it says nothing
pub silent_at : (m : Sitting) (g : Stage) → is_busy g ≡ false → stands_at m [] g ≡ free (says [])
silent_at m (stage.Open u) still = ap free (going_none m.back_ends (owner m) (use_of u))
silent_at m stage.Idle still = refl
silent_at m _ still = absurd (false≢true (sym still))

-- within a transaction it rolls it back, if that is given to it
pub rolls_at : (m : Sitting) (g : Stage) → is_busy g ≡ false → in_transaction g ≡ true → (u : Use) × (stands_at m (statement.Rollback ∷ []) g ≡ free (finishing (rolling_back u 0 reply.RolledBack)))
rolls_at m (stage.Open u) still there = (use_of u, ap free (going_rollback m.back_ends (owner m) [] (use_of u)))
rolls_at m stage.Idle still there = absurd (false≢true there)
rolls_at m _ still there = absurd (false≢true (sym still))

-- a reply goes before what is still to be said
shown_before : (m : Sitting) (g : Stage) (r : Reply) (sts : List Statement) → is_busy g ≡ false → in_transaction g ≡ true
    → (t : Talk (List Reply)) × (stands_at m sts g ≡ free t) × (replied r (stands_at m sts g) ≡ free (with_reply r t))
shown_before m (stage.Open u) r sts still there = (going m.back_ends (owner m) sts (use_of u), refl, refl)
shown_before m stage.Idle r sts still there = absurd (false≢true there)
shown_before m _ r sts still there = absurd (false≢true (sym still))

-- ---- where a plan's reply was shown

-- the plan said it, and the transaction goes on
pub record ShownAs (old m : Sitting) (S : Course Said) (r : Reply) : Type 0 where
  pub outcome : Result Reply Reply
  pub used : Use
  pub is : S ≡ free (says (outcome, used))
  pub stays : is_rolled_back outcome ≡ false
  pub said : r ≡ reply_in outcome
  pub on : (sts : List Statement) → stands m sts ≡ free (going_at old sts used)

-- what is left behind a reply
behind_reply : (r s : Reply) (t u : Talk (List Reply)) → free (with_reply r t) ≡ free (with_reply s u) → t ≡ u
behind_reply r s t u e = sym (unsaid_with r t) ∙ ap (λ c. unsaid (talk_in t c)) e ∙ unsaid_with s u

module _ (old m : Sitting) (r : Reply) (leaves : LeavesAs (progress.Shown r) m.stage) where
  -- if nothing is given, the reply is the only one
  pub shown_alone : said (progress.Shown r) (stands m []) ≡ free (says (r ∷ []))
  shown_alone = ap (replied r) (silent_at m m.stage leaves.0)

  one_reply : (o : Result Reply Reply) (v : Use) → is_rolled_back o ≡ false → into (going_at old []) (free (says (o, v))) ≡ free (says (reply_in o ∷ []))
  one_reply o v kept = ap free (after_kept (going_at old []) o v kept ∙ ap (with_reply (reply_in o)) (going_none old.back_ends (next_owner old) v))

  on_behind : (o : Result Reply Reply) (v : Use) → is_rolled_back o ≡ false → ((sts : List Statement) → into (going_at old sts) (free (says (o, v))) ≡ said (progress.Shown r) (stands m sts))
      → (sts : List Statement) → stands m sts ≡ free (going_at old sts v)
  on_behind o v kept e sts =
      let b = shown_before m m.stage r sts leaves.0 leaves.1 in
      b.1 ∙ ap free (sym (behind_reply (reply_in o) r (going_at old sts v) b.0 (sym (ap free (after_kept (going_at old sts) o v kept)) ∙ e sts ∙ b.2)))

  by_outcome : (o : Result Reply Reply) (v : Use) (b : Bool) → is_rolled_back o ≡ b → ((sts : List Statement) → into (going_at old sts) (free (says (o, v))) ≡ said (progress.Shown r) (stands m sts))
      → ShownAs old m (free (says (o, v))) r
  by_outcome o v true undone e = absurd (false≢true (ap is_said (sym (ap free (after_undone (going_at old []) o v undone)) ∙ e [] ∙ shown_alone)))
  by_outcome o v false kept e = record {
    outcome = o;
    used = v;
    is = refl;
    stays = kept;
    said = sym (ap (λ c. first_or r (words_of c)) (sym (one_reply o v kept) ∙ e [] ∙ shown_alone));
    on = on_behind o v kept e;
  }

  pub shown_as : (S : Course Said) → ((sts : List Statement) → into (going_at old sts) S ≡ said (progress.Shown r) (stands m sts)) → ShownAs old m S r
  shown_as (halted p k) e = absurd (false≢true (ap is_said (e [] ∙ shown_alone)))
  shown_as (free (asks node q k)) e = absurd (false≢true (ap is_said (e [] ∙ shown_alone)))
  shown_as (free (says p)) e = by_outcome p.0 p.1 (is_rolled_back p.0) refl e

-- ---- what is shown, and then stands somewhere

module _ (old m : Sitting) (amidst : Bool) where
  -- amid a plan
  pub on_amid : (shows : Progress) → LeavesAs shows m.stage → is_end shows ≡ false → (S : Course Said) → ((sts : List Statement) → into (going_at old sts) S ≡ said shows (stands m sts))
      → Onto old m amidst (LeftIn old.back_ends amidst S) shows
  on_amid progress.More leaves goes S e = (amid_at S (λ sts. sym (e sts)), λ ws calls replies l. l)
  on_amid (progress.Waits edges) leaves goes S e = (amid_at S (λ sts. sym (e sts)), λ ws calls replies l. l)
  on_amid (progress.Shown r) leaves goes S e =
      let s = shown_as old m r leaves S e in (
        open_at s.used s.on,
        λ ws calls replies l. past [] calls s.outcome s.used replies (subst (λ c. FollowsIn c [] (s.outcome, s.used)) (sym s.is) ends) s.stays refl (ap (λ x. x ∷ replies) s.said) l,
      )
  on_amid (progress.Ended r) leaves goes S e = absurd (false≢true (sym goes))

  -- at an end: nothing is left
  pub on_ends : (left : List Given → List Call → List Reply → Type 0) (shows : Progress) → LeavesAs shows m.stage → is_end shows ≡ false → (C : Course (List Reply)) → EndsOnly C
      → ((sts : List Statement) → C ≡ said shows (stands m sts)) → Onto old m amidst left shows
  on_ends left progress.More leaves goes C only e = (ends_at C only (λ sts. sym (e sts)), λ ws calls replies l. absurd l)
  on_ends left (progress.Waits edges) leaves goes C only e = (ends_at C only (λ sts. sym (e sts)), λ ws calls replies l. absurd l)
  on_ends left (progress.Shown r) leaves goes C only e =
      let rolls = rolls_at m m.stage leaves.0 leaves.1 in
      absurd (false≢true (ap is_said (sym (ap (replied r) rolls.1) ∙ sym (e (statement.Rollback ∷ [])) ∙ e [] ∙ shown_alone old m r leaves)))
  on_ends left (progress.Ended r) leaves goes C only e = absurd (false≢true (sym goes))

  -- where no reply alone would be said if nothing is given, none was shown
  pub on_still : (shows : Progress) → LeavesAs shows m.stage → is_end shows ≡ false → (F : List Statement → Course (List Reply)) (left : List Given → List Call → List Reply → Type 0)
      (stand : ((sts : List Statement) → stands m sts ≡ F sts) → At old m)
      → ((e : (sts : List Statement) → stands m sts ≡ F sts) (ws : List Given) (calls : List Call) (replies : List Reply) → LeftAt old m amidst (stand e) ws calls replies → left ws calls replies)
      → ((r : Reply) → F [] ≡ free (says (r ∷ [])) → ⊥) → ((sts : List Statement) → F sts ≡ said shows (stands m sts)) → Onto old m amidst left shows
  on_still progress.More leaves goes F left stand same none e = (stand (λ sts. sym (e sts)), same (λ sts. sym (e sts)))
  on_still (progress.Waits edges) leaves goes F left stand same none e = (stand (λ sts. sym (e sts)), same (λ sts. sym (e sts)))
  on_still (progress.Shown r) leaves goes F left stand same none e = absurd (none r (e [] ∙ shown_alone old m r leaves))
  on_still (progress.Ended r) leaves goes F left stand same none e = absurd (false≢true (sym goes))

  -- at a statement of a transaction that is open
  pub on_given : (shows : Progress) → LeavesAs shows m.stage → is_end shows ≡ false → (st : Statement) (v : Use)
      → ((sts : List Statement) → free (going_at old (st ∷ sts) v) ≡ said shows (stands m sts))
      → Onto old m amidst (LeftGiven old amidst st v) shows
  on_given shows leaves goes statement.Commit v e =
      on_ends (LeftGiven old amidst statement.Commit v) shows leaves goes (free (finishing (committing (next_owner old) v reply.Committed))) (committed_ends (next_owner old) v reply.Committed)
      (λ sts. sym (ap free (going_commit old.back_ends (next_owner old) sts v)) ∙ e sts)
  on_given shows leaves goes statement.Rollback v e =
      on_ends (LeftGiven old amidst statement.Rollback v) shows leaves goes (free (finishing (rolling_back v 0 reply.RolledBack))) (undone_ends v reply.RolledBack)
      (λ sts. sym (ap free (going_rollback old.back_ends (next_owner old) sts v)) ∙ e sts)
  on_given shows leaves goes st v e =
      let o = on_amid shows leaves goes (free (plan old.back_ends st v)) (λ sts. sym (ap free (going_planned old.back_ends (next_owner old) st sts v refl)) ∙ e sts) in
      (o.0, λ ws calls replies l place. left_plan old.back_ends amidst (place, st) v ws calls _ refl (o.1 ws calls replies l))
