-- A statement that is cut off has decided nothing, and locked by the table of locks.
use Rattle.std.proofs.Common.{◌≡◌, ℕ, List, [], ◌∷◌, ◌++◌, Bool, true, false, ap, arith, inl, inr, refl}
use Rattle.std.specs.Prelude.{IsTrue, filter, if◌then◌else◌, length}
use Rattle.hb_types.specs.declared.trail.Call.{Call}
use Rattle.hb_types.proofs.Ascending.{Has-front}
use Rattle.hb_model.specs.declared.statement.Statement.{Statement}
use Rattle.hb_model.specs.Answers.{HasAsked, is_decide, is_grant, is_of_rows}
use Rattle.hb_talk.specs.PlansDefine.{plan}
use Rattle.hb_talk.specs.Talk.{Begins, Use}
use Rattle.hb_plancalc.specs.Counted.{IsWithin}
use Rattle.hb_plancalc.proofs.Plain.{plan_counts}
use Rattle.hb_planlocks.proofs.AllLocks.{plan_locks_begun}
use Rattle.hb_faithful.specs.Planned.{AreBeside}
use Rattle.hb_faithful.proofs.Beside.{undecided}
use Rattle.hb_faithful.proofs.Lists.{has_split}
use Rattle.hb_faithful.proofs.Parts.{locks_whole, where_asked}
use Rattle.hb_itemlaws.proofs.Commits.{committing_tells}
use Rattle.hb_lives.specs.Unfinished.{CutCommitsAreBare, UnfinishedAreRight}

begun_undecided : (st : Statement) (back_ends : ℕ) (u : Use) (asked : List Call) → IsWithin u → Begins (plan back_ends st u) asked → ¬ (HasAsked is_decide asked)
begun_undecided st back_ends u asked within (more, r, f) h = (plan_counts st back_ends u r.1 (asked ++ more) r.0 within f).0 (Has-front (λ (c : Call). IsTrue (is_decide c.request)) asked more h)

undecided_behind : (asked back : List Call) → AreBeside back → ¬ (HasAsked is_decide asked) → ¬ (HasAsked is_decide (asked ++ back))
undecided_behind asked back beside none h = elim (has_split (λ (c : Call). IsTrue (is_decide c.request)) asked back h) [ inl k ↦ none k | inr k ↦ undecided back beside k ]

undecided_whole : (front rest : List Call) → AreBeside front → ¬ (HasAsked is_decide rest) → ¬ (HasAsked is_decide (front ++ rest))
undecided_whole front rest beside none h = elim (has_split (λ (c : Call). IsTrue (is_decide c.request)) front rest h) [ inl k ↦ undecided front beside k | inr k ↦ none k ]

pub unfinished_right : UnfinishedAreRight
unfinished_right st back_ends u front asked back within opens begins beside = (
  undecided_whole front (asked ++ back) opens.beside (undecided_behind asked back beside (begun_undecided st back_ends u asked within begins)),
  λ asked_there. locks_whole front asked back st opens.beside beside (plan_locks_begun back_ends st u front asked opens.no_rows begins (where_asked front asked back asked_there)),
)

-- of a front as of the whole, by tests that nothing passes
none_before : (test : Call → Bool) (calls more : List Call) → filter test (calls ++ more) ≡ [] → filter test calls ≡ []
none_before test [] more e = refl
none_before test (c ∷ cs) more e = by (test c) e (none_before test cs more)
  where
    by : (b : Bool) → (if b then c ∷ filter test (cs ++ more) else filter test (cs ++ more)) ≡ [] → (filter test (cs ++ more) ≡ [] → filter test cs ≡ [])
        → (if b then c ∷ filter test cs else filter test cs) ≡ []
    by true e rest = absurd (cc e)
    by false e rest = rest e

none_there : (calls : List Call) → length calls ≡ 0 → calls ≡ []
none_there [] e = refl
none_there (c ∷ cs) e = absurd (omega (arith, e))

pub cut_commits_bare : CutCommitsAreBare
cut_commits_bare owner u calls (more, r, f) =
    let bare = (committing_tells owner u r (calls ++ more) f).bare in (
      none_before (λ c. is_of_rows c.request) calls more bare.0,
      ap length (none_before (λ c. is_grant c.request c.answer) calls more (none_there (filter (λ c. is_grant c.request c.answer) (calls ++ more)) bare.1)),
    )
