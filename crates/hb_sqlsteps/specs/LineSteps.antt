-- A line, token by token.
use Rattle.std.specs.Prelude.{ℕ, Bool, true, false, if◌then◌else◌, List, Option, Some, None, option_map}
use Rattle.hb_model.specs.declared.script.Item.{Item}
use Rattle.hb_model.specs.declared.script.Item.TheVariants as item
use Rattle.hb_sqltoken.specs.declared.token.Word.{Word}
use Rattle.hb_sqltoken.specs.declared.token.Word.TheVariants as word
use Rattle.hb_sqltoken.specs.declared.token.Token.{Token}
use Rattle.hb_sqltoken.specs.declared.token.Token.TheVariants as token
use Rattle.hb_sqlsteps.specs.declared.marks.Mark.TheVariants as mark
use Rattle.hb_sqlsteps.specs.declared.position.Position.{Position}
use Rattle.hb_sqlsteps.specs.declared.position.Position.TheVariants as position
use Rattle.hb_sqlsteps.specs.declared.line.Stop.{Stop}
use Rattle.hb_sqlsteps.specs.declared.line.Stop.TheVariants as stop
use Rattle.hb_sqlsteps.specs.declared.line.Line.{Line}
use Rattle.hb_sqlsteps.specs.declared.line.Line.TheVariants as line
use Rattle.hb_sqlsteps.specs.Marks.{is_word, is_mark, on_word, on_mark, on_name, on_number}
use Rattle.hb_sqlsteps.specs.Kept.{most_steps}
use Rattle.hb_sqlsteps.specs.Positions.{step_position, whole_position}

abbrev pub line_word : Word → Option Line
line_word word.Give = Some line.Give
line_word word.Step = Some line.Step
line_word word.Stop = Some (line.Stop stop.Start)
line_word word.Start = Some line.Up
line_word word.Sync = Some line.Sync
line_word word.Barrier = Some (line.Ended item.Barrier)
line_word _ = None

abbrev pub start_line : Token → Option Line
start_line (token.Name session) = Some (line.Named session false)
start_line (token.Word w) = line_word w
start_line _ = None

abbrev pub step_stop : Stop → Token → Option Line
step_stop stop.Start t = on_name t (λ node. line.Stop (stop.Named node))
step_stop (stop.Named node) t = if is_word word.Area t then Some (line.Stop (stop.Area node)) else on_word word.At t (line.Stop (stop.At node false))
step_stop (stop.Area node) t = on_word word.At t (line.Stop (stop.At node true))
step_stop (stop.At node area) t = on_number most_steps t (λ k. line.Ended (item.Arm node area k))

abbrev pub given : List ℕ → Bool → Position → Option Item
given session held p = option_map (λ w. item.Give session w held) (whole_position p)

abbrev pub in_work : List ℕ → Bool → Position → Token → Option Line
in_work session held p t = if is_mark mark.Semicolon t then option_map line.Ended (given session held p) else option_map (line.Work session held) (step_position p t)

abbrev pub step_line : Line → Token → Option Line
step_line line.Start t = start_line t
step_line line.Give t = on_name t (λ session. line.Named session true)
step_line (line.Named session held) t = on_mark mark.Colon t (line.Work session held position.Start)
step_line (line.Work session held p) t = in_work session held p t
step_line line.Step t = on_name t line.StepOf
step_line (line.StepOf session) t = on_number most_steps t (λ n. line.Ended (item.Step session n))
step_line (line.Stop s) t = step_stop s t
step_line line.Up t = on_name t (λ node. line.Ended (item.Start node))
step_line line.Sync t = on_name t (λ node. line.Ended (item.Sync node))
step_line (line.Ended i) t = None

abbrev pub whole_stop : Stop → Option Item
whole_stop (stop.Named node) = Some (item.Stop node)
whole_stop _ = None

-- what the line says, where it is whole
abbrev pub whole_line : Line → Option Item
whole_line (line.Work session held p) = given session held p
whole_line (line.Stop s) = whole_stop s
whole_line (line.Ended i) = Some i
whole_line _ = None
