-- Calls that follow a plan, with those beside it, are faithful; so are those that begin one and give it up.
use Rattle.std.proofs.Common.{◌≡◌, ◌⊎◌, inl, inr, ℕ, ◌≤◌, List, [], ◌++◌, Result, Bool, true, false, not, refl, subst, sym, ap, ◌∙◌}
use Rattle.std.specs.Prelude.{IsTrue}
use Rattle.std.proofs.lemmas.Bool.{false≢true}
use Rattle.std.proofs.lemmas.List.{append-nil}
use Rattle.hb_types.specs.declared.trail.Call.{Call}
use Rattle.hb_types.proofs.Ascending.{Each-back, Has-back, Has-front}
use Rattle.hb_model.specs.declared.reply.Reply.{Reply}
use Rattle.hb_model.specs.declared.reply.Reply.TheVariants as reply
use Rattle.hb_model.specs.declared.statement.Statement.{Statement}
use Rattle.hb_model.specs.Answers.{HasAsked, given, is_decide, is_undoing}
use Rattle.hb_model.specs.Asked.{AreWhereAsked, IsWhereAsked}
use Rattle.hb_model.specs.Faithful.{DoesRightly, Faithful}
use Rattle.hb_model.specs.Items.{Spent}
use Rattle.hb_model.specs.Locking.{LocksByTable}
use Rattle.hb_model.specs.Outside.{is_outside, says_undone}
use Rattle.hb_model.specs.Sources.{Sourced}
use Rattle.hb_talk.specs.PlansDefine.{plan}
use Rattle.hb_talk.specs.Talk.{Begins, Follows, Use}
use Rattle.hb_plancalc.specs.Counted.{IsWithin, reply_in, spent_of}
use Rattle.hb_plancalc.proofs.Plain.{plan_counts}
use Rattle.hb_planlaws.specs.Planned.{PlanDoes, most_back_ends}
use Rattle.hb_planlocks.proofs.AllLocks.{plan_locks_begun, plan_locks_behind}
use Rattle.hb_plansources.proofs.AllSources.{plan_is_sourced, plan_written_begun}
use Rattle.hb_plansources.proofs.Rules.{is_rows, none_shown}
use Rattle.hb_faithful.specs.Planned.{AreBeside, Closes, GivenUpIsFaithful, Opens, PlanIsFaithful, UnfinishedIsRight}
use Rattle.hb_faithful.proofs.Beside.{undecided}
use Rattle.hb_faithful.proofs.Lists.{has_split}
use Rattle.hb_faithful.proofs.Parts.{did_whole, locks_whole, sourced_whole, where_asked, written_whole}

-- what is undone behind the plan is undone
undone_behind : (front asked back : List Call) (r : Reply) → Closes back r → IsTrue (says_undone r) → HasAsked is_undoing (front ++ (asked ++ back))
undone_behind front asked back r closes says =
    let P : Call → Type 0 = λ c. IsTrue (is_undoing c.request) in Has-back P front (asked ++ back) (Has-back P asked back (closes.undone says))

-- nothing is decided
undecided_whole : (front asked back : List Call) → AreBeside front → AreBeside back → ¬ (HasAsked is_decide asked) → ¬ (HasAsked is_decide (front ++ (asked ++ back)))
undecided_whole front asked back opens closes none h = by (has_split P front (asked ++ back) h)
  where
    P : Call → Type 0
    P c = IsTrue (is_decide c.request)

    late : HasAsked is_decide asked ⊎ HasAsked is_decide back → ⊥
    late (inl k) = none k
    late (inr k) = undecided back closes k

    by : HasAsked is_decide front ⊎ HasAsked is_decide (asked ++ back) → ⊥
    by (inl k) = undecided front opens k
    by (inr k) = late (has_split P asked back k)

begun_undecided : (st : Statement) (back_ends : ℕ) (u : Use) (asked : List Call) → IsWithin u → Begins (plan back_ends st u) asked → ¬ (HasAsked is_decide asked)
begun_undecided st back_ends u asked within (more, r, f) h = (plan_counts st back_ends u r.1 (asked ++ more) r.0 within f).0 (Has-front (λ (c : Call). IsTrue (is_decide c.request)) asked more h)

-- ---- a statement with its reply

module _ (st : Statement) (rightly : PlanDoes st) (back_ends : ℕ) (u v : Use) (front asked back : List Call) (o : Result Reply Reply) (few : back_ends ≤ most_back_ends) (within : IsWithin u)
    (follows : Follows false (plan back_ends st u) asked (o, v)) (opens : Opens front) (closes : Closes back (reply_in o)) where
  abbrev whole : List Call
  whole = front ++ (asked ++ back)

  abbrev does_it : Bool → Type 0
  does_it full = IsTrue (not (is_outside (reply_in o))) → DoesRightly back_ends (spent_of u) full st whole (reply_in o)

  does_some : (b : Bool) → is_outside (reply_in o) ≡ b → (full : Bool) × does_it full
  does_some true e = (false, λ inside. absurd (false≢true (ap not (sym e) ∙ inside)))
  does_some false e =
      let d = rightly back_ends u v asked o few within follows (ap not e) in (d.0, λ inside. did_whole front asked back st opens.beside closes.beside back_ends (spent_of u) d.0 (reply_in o) d.1)

  sources : AreWhereAsked whole → Sourced st whole (reply_in o)
  sources asked_there =
      sourced_whole front asked back st opens.beside closes.beside (reply_in o)
      (plan_is_sourced st back_ends u v asked o follows (where_asked front asked back asked_there))

  faithful : (full : Bool) × Faithful back_ends (spent_of u) full st whole (reply_in o)
  faithful =
      let d = does_some (is_outside (reply_in o)) refl in (
        d.0,
        record {
          undecided = undecided_whole front asked back opens.beside closes.beside (plan_counts st back_ends u v asked o within follows).0;
          does_rightly = d.1;
          undone = undone_behind front asked back (reply_in o) closes;
          locks = λ asked_there.
              locks_whole front asked back st opens.beside closes.beside (plan_locks_behind back_ends st u v front asked o opens.no_rows follows (where_asked front asked back asked_there));
          sourced = sources;
        },
      )

pub plan_faithful : (st : Statement) → PlanDoes st → PlanIsFaithful st
plan_faithful st rightly back_ends u calls r few within p =
    let closes = subst (Closes p.back) (sym p.replies) p.closes in
    let f = faithful st rightly back_ends u p.last p.front p.asked p.back p.outcome few within p.follows p.opens closes in
    (f.0, subst (λ cs. Faithful back_ends (spent_of u) f.0 st cs r) (sym p.parts) (subst (Faithful back_ends (spent_of u) f.0 st (p.front ++ (p.asked ++ p.back))) p.replies f.1))

-- ---- a statement that was given up

bare : (r : Reply) → is_outside r ≡ true → is_rows r ≡ false
bare (reply.Rows rows) e = sym e
bare _ e = refl

module _ (st : Statement) (back_ends : ℕ) (u : Use) (front asked back : List Call) (r : Reply) (within : IsWithin u) (begins : Begins (plan back_ends st u) asked) (opens : Opens front)
    (closes : Closes back r) (outside : IsTrue (is_outside r)) where
  given_up : (spent : Spent) → Faithful back_ends spent false st (front ++ (asked ++ back)) r
  given_up spent = record {
    undecided = undecided_whole front asked back opens.beside closes.beside (begun_undecided st back_ends u asked within begins);
    does_rightly = λ inside. absurd (false≢true (ap not (sym outside) ∙ inside));
    undone = undone_behind front asked back r closes;
    locks = λ asked_there. locks_whole front asked back st opens.beside closes.beside (plan_locks_begun back_ends st u front asked opens.no_rows begins (where_asked front asked back asked_there));
    sourced = λ asked_there. record {
      shown = none_shown st r (given (front ++ (asked ++ back))) (λ s. bare r outside);
      written = written_whole front asked back st opens.beside closes.beside
          (plan_written_begun back_ends st u asked begins (where_asked front asked back asked_there));
    };
  }

pub given_up_faithful : (st : Statement) → GivenUpIsFaithful st
given_up_faithful st back_ends u calls r spent within p outside =
    subst (λ cs. Faithful back_ends spent false st cs r) (sym p.parts) (given_up st back_ends u p.front p.asked p.back r within p.begins p.opens p.closes outside spent)

-- ---- a statement with no reply yet

pub unfinished_right : (st : Statement) → UnfinishedIsRight st
unfinished_right st back_ends u front asked within opens begins =
    let same : front ++ (asked ++ []) ≡ front ++ asked = ap (λ cs. front ++ cs) (append-nil asked) in (
      subst (λ cs. ¬ (HasAsked is_decide cs)) same (undecided_whole front asked [] opens.beside tt (begun_undecided st back_ends u asked within begins)),
      λ asked_there. subst (LocksByTable st) same
          (locks_whole front asked [] st opens.beside tt (plan_locks_begun back_ends st u front asked opens.no_rows begins (Each-back (λ (c : Call). IsWhereAsked c.request c.answer) front asked asked_there))),
    )
