-- A session's transaction that is given up, with the rolling back, is made of right items.
use Rattle.std.proofs.Common.{◌≡◌, List, [], ◌∷◌, ◌++◌, Bool, true, false, refl, subst, sym, ap, ◌∙◌}
use Rattle.std.specs.Prelude.{IsTrue}
use Rattle.std.proofs.lemmas.List.{append-nil, append_assoc}
use Rattle.hb_types.specs.declared.trail.Call.{Call}
use Rattle.hb_types.proofs.Ascending.{Each-append, Has-back}
use Rattle.hb_types.specs.declared.answer.Answer.TheVariants as answer
use Rattle.hb_types.specs.declared.request.Request.TheVariants as request
use Rattle.hb_model.specs.Answers.{call, given, is_undoing, rows_answered}
use Rattle.hb_model.specs.Outside.{is_outside}
use Rattle.hb_model.specs.declared.reply.Reply.{Reply}
use Rattle.hb_model.specs.declared.reply.Reply.TheVariants as reply
use Rattle.hb_talk.specs.Ends.{fes1, rolling_back}
use Rattle.hb_talk.specs.Talk.{Follows, says, Use}
use Rattle.hb_access.specs.Accesses.{use_of}
use Rattle.hb_faithful.specs.Planned.{Closes, Opens, is_beside}
use Rattle.hb_faithful.proofs.Rolling.{rolling_closes}
use Rattle.hb_wait.specs.Courses.{free, FollowsIn}
use Rattle.hb_session.specs.declared.session.Progress.TheVariants as progress
use Rattle.hb_session.specs.declared.stage.Stage.{Stage}
use Rattle.hb_session.specs.declared.stage.Stage.TheVariants as stage
use Rattle.hb_session.specs.Runs.{Runs, call_of}
use Rattle.hb_session.specs.Sitting.{Sitting, finishing, next_owner, stands_at}
use Rattle.hb_session.specs.Steps.{Abandons, Closes as ClosesAt, RollsBack, RunsOutAt}
use Rattle.hb_session.proofs.Following.{ends_follow}
use Rattle.hb_itemlaws.specs.Dividing.{Divided, Given, statements}
use Rattle.hb_itemlaws.specs.GivingUp.{Closed, GivenUp}
use Rattle.hb_itemlaws.specs.Owning.{NoBegin}
use Rattle.hb_itemlaws.proofs.Ends.{undone_ends}
use Rattle.hb_itemlaws.proofs.GivingUp.{closed_right, given_up_right}
use Rattle.hb_itemlaws.proofs.Owned.{end_unbegun, unbegun_followed}
use Rattle.hb_itemlaws.proofs.Splits.{over, split}
use Rattle.hb_sessionitems.specs.GivingUp.{ClosedSessionsAreRight, GivenUpSessionsAreRight, GivesUp, InTurn, RunsToEnd, abandons, runs_out}
use Rattle.hb_sessionitems.proofs.Courses.{first_or}
use Rattle.hb_sessionitems.proofs.GivingUp.{closed_left, ran_out_left, waiting_left}
use Rattle.hb_sessionitems.proofs.Obeying.{IsAbortFirst, abort_first}
use Rattle.hb_sessionitems.proofs.Planning.{IsPlanning, out_planned, planned_on}
use Rattle.hb_sessionitems.proofs.Positions.{At, LeftAt, LeftBegun, none_at}
use Rattle.hb_sessionitems.proofs.Running.{run_on}

-- ---- the rolling back

-- it closes the item, and its reply is shown
pub rolled_back : (new : Sitting) (u : Use) (why r : Reply) (rolled : List Call) → RollsBack u why new → RunsToEnd new rolled r → (r ≡ why) × Closes rolled why × NoBegin rolled × IsAbortFirst rolled
rolled_back new u why r rolled rolls t =
    let f : Follows false (finishing (rolling_back u 0 why)) rolled (r ∷ []) = subst (λ cs. FollowsIn (free (finishing (rolling_back u 0 why))) cs (r ∷ [])) (sym t.parts)
    (subst (λ c. FollowsIn c (t.before ++ call_of t.pending t.answer ∷ []) (r ∷ [])) (rolls []) (ends_follow new t.last t.over [] t.before [] t.runs t.pending t.answer r t.ends)) in
    let s = split (λ z. says (z ∷ [])) (rolling_back u 0 why) rolled (r ∷ []) f in
    let done = over (s.value ∷ []) (r ∷ []) s.back s.rest in
    let c = rolling_closes u 0 why s.value s.front s.first in
    let same : s.front ≡ rolled = sym (append-nil s.front) ∙ ap (λ zs. s.front ++ zs) (sym done.0) ∙ sym s.parts in
    (ap (first_or r) done.1 ∙ c.0, subst (λ zs. Closes zs why) same c.1, unbegun_followed false (finishing (rolling_back u 0 why)) rolled (r ∷ []) f (end_unbegun (finishing (rolling_back u 0 why)) (undone_ends u why)), abort_first u why rolled (r ∷ []) f)

-- why a transaction is rolled back, where a statement is given up
pub record IsUndone (new : Sitting) (why : Reply) : Type 0 where
  pub used : Use
  pub rolls : RollsBack used why new
  pub outside : IsTrue (is_outside why)

abandoned_undone : (g : Stage) (new : Sitting) → Abandons g new → IsUndone new reply.RolledBackEnd
abandoned_undone (stage.Asks a) new h = record { used = use_of a.plan.usage; rolls = h; outside = refl }
abandoned_undone _ new h = absurd h

pub closed_undone : (g : Stage) (new : Sitting) → ClosesAt g new → IsUndone new reply.RolledBackEnd
closed_undone (stage.Open u) new h = record { used = use_of u; rolls = h; outside = refl }
closed_undone _ new h = absurd h

ran_out_undone : (g : Stage) (new : Sitting) → RunsOutAt g new progress.More → IsUndone new reply.NoMemory
ran_out_undone (stage.Enters tx w) new h = record { used = h.0; rolls = h.3; outside = refl }
ran_out_undone (stage.Asks a) new h = record { used = h.0; rolls = h.3; outside = refl }
ran_out_undone _ new h = absurd h

pub given_up_undone : (last new : Sitting) (asked : List Call) (why : Reply) → GivesUp last new asked why → IsUndone new why
given_up_undone last new _ _ (abandons w h) = abandoned_undone last.stage new h
given_up_undone last new _ _ (runs_out p a h) = ran_out_undone last.stage new h.out

-- ---- the whole

-- how far it came
given_up_left : (old last new : Sitting) (asked : List Call) (why : Reply) → IsPlanning last.stage → GivesUp last new asked why → (at : At old last) → LeftAt old last true at [] asked []
given_up_left old last new _ _ planning (abandons w h) at = waiting_left old last w at
given_up_left old last new _ _ planning (runs_out p a h) at = ran_out_left old last p a h.expected (out_planned last new last.stage p h.out h.makes.next planning) h.makes.next at

abbrev idle_at : (old : Sitting) → old.stage ≡ stage.Idle → At old old
idle_at old idle = none_at (λ sts. ap (λ g. stands_at old sts g) idle)

pub opens_more : (c : Call) (front : List Call) → Opens (c ∷ []) → Opens front → Opens (c ∷ front)
opens_more c front one more = record {
  beside = (one.beside.0, more.beside);
  no_rows = ap (λ xs. xs ++ given front) (sym (append-nil (rows_answered c.request c.answer)) ∙ one.no_rows) ∙ more.no_rows;
  undoes_none = (one.undoes_none.0, more.undoes_none);
}

-- with the rolling back
abbrev pub whole : (old : Sitting) (amidst : Bool) (works : List Given) (calls asked rolled : List Call) (replies : List Reply) (why : Reply) → LeftBegun old amidst works (calls ++ asked) replies
    → Closes rolled why → IsTrue (is_outside why) → GivenUp old.back_ends amidst works (calls ++ (asked ++ rolled)) replies why
whole old amidst works calls asked rolled replies why b closes outside =
    let l = b.left in
    let begin : Call = call fes1 (request.Begin (next_owner old)) (answer.Begun b.tx) in
    record {
      tx = b.tx.0;
      front = begin ∷ l.front;
      asked = l.asked;
      back = l.late ++ rolled;
      parts = sym (append_assoc calls asked rolled) ∙ ap (λ zs. zs ++ rolled) (b.whole ∙ ap (λ zs. begin ∷ zs) l.parts)
          ∙ ap (λ zs. begin ∷ zs) (append_assoc l.front (l.asked ++ l.late) rolled ∙ ap (λ zs. l.front ++ zs) (append_assoc l.asked l.late rolled));
      opens = opens_more begin l.front (record { beside = (refl, tt); no_rows = refl; undoes_none = (refl, tt) }) l.opens;
      left = l.left;
      closes = record {
        beside = Each-append (λ (c : Call). IsTrue (is_beside c.request)) l.late rolled l.beside closes.beside;
        undone = λ says. Has-back (λ (c : Call). IsTrue (is_undoing c.request)) l.late rolled (closes.undone says);
      };
      outside = outside;
    }

-- how far a session came that is given up amid a statement
pub amid_left_at : (old last new : Sitting) (works : List Given) (calls asked : List Call) (replies : List Reply) (why : Reply) → old.stage ≡ stage.Idle → (runs : Runs old (statements works) calls replies last)
    → InTurn runs → GivesUp last new asked why → LeftBegun old true works (calls ++ asked) replies
amid_left_at old last new works calls asked replies why idle runs turn up =
    run_on old old last true asked (statements works) calls replies runs turn (given_up_left old last new asked why (planned_on old last (statements works) calls replies runs turn (subst IsPlanning (sym idle) tt)) up) (idle_at old idle) works refl

pub closed_left_at : (old last new : Sitting) (works : List Given) (calls : List Call) (replies : List Reply) → old.stage ≡ stage.Idle → (runs : Runs old (statements works) calls replies last)
    → InTurn runs → ClosesAt last.stage new → LeftBegun old false works (calls ++ []) replies
closed_left_at old last new works calls replies idle runs turn closes =
    run_on old old last false [] (statements works) calls replies runs turn (closed_left old last new closes) (idle_at old idle) works refl

-- ---- the laws

pub given_up_sessions_right : GivenUpSessionsAreRight
given_up_sessions_right old last new work works calls asked rolled replies why r few plain idle runs turn up t =
    let left = amid_left_at old last new (work ∷ works) calls asked replies why idle runs turn up in
    let undone = given_up_undone last new asked why up in
    let back = rolled_back new undone.used why r rolled undone.rolls t in
    subst (λ x. Divided old.back_ends (work ∷ works) (calls ++ (asked ++ rolled)) (replies ++ x ∷ [])) (sym back.0)
    (given_up_right old.back_ends (work ∷ works) (calls ++ (asked ++ rolled)) replies why few plain (whole old true (work ∷ works) calls asked rolled replies why left back.1 undone.outside))

pub closed_sessions_right : ClosedSessionsAreRight
closed_sessions_right old last new work works calls rolled replies r place few plain idle runs turn closes t =
    let left = closed_left_at old last new (work ∷ works) calls replies idle runs turn closes in
    let undone = closed_undone last.stage new closes in
    let back = rolled_back new undone.used reply.RolledBackEnd r rolled undone.rolls t in
    subst (λ x. Closed old.back_ends place (work ∷ works) (calls ++ rolled) replies x) (sym back.0)
    (closed_right old.back_ends place (work ∷ works) (calls ++ rolled) replies reply.RolledBackEnd few plain (whole old false (work ∷ works) calls [] rolled replies reply.RolledBackEnd left back.1 undone.outside))
