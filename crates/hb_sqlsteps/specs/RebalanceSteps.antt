-- PDRBAL, token by token.
use Rattle.std.specs.Prelude.{ℕ, List, Option, option_map}
use Rattle.hb_model.specs.declared.line.Work.TheVariants as work
use Rattle.hb_sqltoken.specs.declared.token.Token.{Token}
use Rattle.hb_sqltoken.specs.declared.token.Word.TheVariants as word
use Rattle.hb_sqlsteps.specs.declared.marks.Mark.TheVariants as mark
use Rattle.hb_sqlsteps.specs.declared.rebalance.Options.{Options}
use Rattle.hb_sqlsteps.specs.declared.rebalance.Options.TheVariants as options
use Rattle.hb_sqlsteps.specs.declared.rebalance.Limits.{Limits}
use Rattle.hb_sqlsteps.specs.declared.rebalance.Limits.TheVariants as limits
use Rattle.hb_sqlsteps.specs.declared.rebalance.Rebalance.{Rebalance}
use Rattle.hb_sqlsteps.specs.declared.rebalance.Rebalance.TheVariants as rebalance
use Rattle.hb_sqlsteps.specs.declared.position.Position.{Position}
use Rattle.hb_sqlsteps.specs.declared.position.Position.TheVariants as position
use Rattle.hb_sqlsteps.specs.Marks.{on_word, on_mark, on_letter, on_name, on_number}

abbrev pub step_options : Options → Token → Option Rebalance
step_options options.Start t = on_mark mark.Minus t (rebalance.Options options.KeepMinus)
step_options options.KeepMinus t = on_letter 107 t (rebalance.Options options.Keep)
step_options options.Keep t = on_word word.Share t (rebalance.Options options.Share)
step_options options.Share t = on_mark mark.Minus t (rebalance.Options options.TableMinus)
step_options options.TableMinus t = on_letter 116 t (rebalance.Options options.Table)
step_options options.Table t = on_name t (λ table. rebalance.Limits table limits.Named)

abbrev pub go_limits : List ℕ → Limits → Position
go_limits table l = position.Rebalance (rebalance.Limits table l)

abbrev pub step_limits : List ℕ → Limits → Token → Option Position
step_limits table limits.Named t = on_mark mark.Minus t (go_limits table limits.RowsMinus)
step_limits table limits.RowsMinus t = on_letter 99 t (go_limits table limits.Rows)
step_limits table limits.Rows t = on_number 10000 t (λ rows. go_limits table (limits.Counted rows))
step_limits table (limits.Counted rows) t = on_mark mark.Minus t (go_limits table (limits.TurnsMinus rows))
step_limits table (limits.TurnsMinus rows) t = on_letter 110 t (go_limits table (limits.Turns rows))
step_limits table (limits.Turns rows) t = on_number 1000000 t (λ turns. position.Whole (work.Rebalance table rows turns))

abbrev pub step_rebalance : Rebalance → Token → Option Position
step_rebalance (rebalance.Options o) t = option_map position.Rebalance (step_options o t)
step_rebalance (rebalance.Limits table l) t = step_limits table l t
