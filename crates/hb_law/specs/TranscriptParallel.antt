-- When lines answer the whole script of a parallel run.
use Rattle.std.specs.Prelude.{◌≡◌, ℕ, ◌+◌, ◌==◌, Bool, true, false, not, ◌&&◌, if◌then◌else◌, List, [], ◌∷◌, ◌++◌, length, filter, All, Option, Some, None, Ok, map}
use Rattle.std.specs.List.{range_with_len, AllZip}
use Rattle.hb_types.specs.Lists.{joined}
use Rattle.hb_model.specs.declared.script.Item.TheVariants as item
use Rattle.hb_model.specs.declared.line.Line.{Line}
use Rattle.hb_model.specs.declared.line.Work.{Work}
use Rattle.hb_law.specs.Standing.{at_start, is_at}
use Rattle.hb_law.specs.OwnAnswers.{ScriptLine, Names, IsOwnAnswer, has_answer, giving}
use Rattle.hb_law.specs.Transcript.{is_telling, EndsRightly, count_line}

-- ---- parallel: parts by session

-- the works of a session, phase by phase; a BARRIER ends a phase
abbrev pub phases_of : Names → ℕ → List ScriptLine → List (List (ℕ × Work))
phases_of names session [] = [] ∷ []
phases_of names session (line ∷ script) = put_first line (phases_of names session script)
  where
    put_on : List (ℕ × Work) → List (List (ℕ × Work)) → List (List (ℕ × Work))
    put_on works [] = works ∷ []
    put_on works (p ∷ ps) = (works ++ p) ∷ ps

    put_first : ScriptLine → List (List (ℕ × Work)) → List (List (ℕ × Work))
    put_first (Ok item.Barrier) phases = [] ∷ phases
    put_first (Ok (item.Give name w false)) phases = put_on (filter (is_at session) (giving names (Ok (item.Give name w false)))) phases
    put_first line phases = phases

abbrev pub is_line_of : ℕ → Line → Bool
is_line_of session l = of l.session
  where
    of : Option ℕ → Bool
    of None = false
    of (Some n) = n == session

-- a phase's lines answer its works, and end what is open
abbrev pub AnswersPhase : List (ℕ × Work) → List Line → Type 0
AnswersPhase works part = EndsRightly (record at_start { given = works }) part

-- a session's lines are those of its phases
pub record AnswersSession (names : Names) (script : List ScriptLine) (lines : List Line) (session : ℕ) : Type 0 where
  pub parts : List (List Line)
  pub all : filter (is_line_of session) lines ≡ joined parts
  pub phases : AllZip AnswersPhase (phases_of names session script) parts

-- script lines that are answered without a session, with their numbers
abbrev pub others_from : ℕ → List ScriptLine → List (ℕ × ScriptLine)
others_from n [] = []
others_from n (line ∷ script) = if has_answer line && not (is_work line) then (n, line) ∷ others_from (n + 1) script else others_from (n + 1) script
  where
    is_work : ScriptLine → Bool
    is_work (Ok (item.Give name w false)) = true
    is_work _ = false

-- the lines answer the whole script of a `parallel`: one session after another, the lines without a session last
pub record WholeParallel (names : Names) (script : List ScriptLine) (lines : List Line) : Type 0 where
  pub by_session : List (List Line)
  pub others : List Line
  pub all : lines ≡ joined by_session ++ others ++ count_line (length script) ∷ []
  pub in_turn : by_session ≡ map (λ i. filter (is_line_of i) lines) (range_with_len 0 (length names))
  pub sessions : All (AnswersSession names script lines) (range_with_len 0 (length names))
  pub no_session : All (λ l. l.session ≡ None) others
  pub answered : AllZip (λ line l. IsOwnAnswer names true line.0 line.1 l) (others_from 1 script) (filter (λ l. not (is_telling l.reply)) others)
