-- Statements such as a line of the grammar gives: valid names, integers of at most 19 digits, lists of 1 to 512 members.
use Rattle.std.specs.Prelude.{◌^◌, ◌≤◌, ℤ, nat_abs, List, length, Option}
use Rattle.hb_types.specs.declared.value.Value.{Value}
use Rattle.hb_types.specs.declared.value.Value.TheVariants as value
use Rattle.hb_model.specs.declared.line.Work.{Work}
use Rattle.hb_model.specs.declared.line.Work.TheVariants as work
use Rattle.hb_model.specs.declared.expression.Expr.{Expr, fold-Expr}
use Rattle.hb_model.specs.declared.expression.Expr.TheOpen.{Expr-F}
use Rattle.hb_model.specs.declared.condition.Pred.{Pred, fold-Pred}
use Rattle.hb_model.specs.declared.condition.Pred.TheOpen.{Pred-F}
use Rattle.hb_model.specs.declared.statement.Statement.{Statement}
use Rattle.hb_model.specs.declared.statement.Statement.TheVariants as statement
use Rattle.hb_model.specs.declared.statement.What.{What}
use Rattle.hb_model.specs.declared.statement.What.TheVariants as what
use Rattle.hb_model.specs.Valid.{is_name}
use Rattle.std.specs.Prelude.{Bool, true, ◌&&◌, nat_lt, nat_le, IsTrue, option_map, unwrap_or}
use Rattle.std.specs.List.{list_all}

-- at most 19 digits
abbrev pub is_short : ℤ → Bool
is_short n = nat_lt (nat_abs n) (10 ^ 19)

abbrev pub has_members : {A : Type 0} → List A → Bool
has_members xs = nat_le 1 (length xs) && nat_le (length xs) 512

abbrev pub plain_step : Expr-F Bool → Bool
plain_step (Expr-F.Int n) = is_short n
plain_step (Expr-F.Text t) = true
plain_step (Expr-F.Name name) = is_name name
plain_step (Expr-F.Neg a) = a
plain_step (Expr-F.Add a b) = a && b
plain_step (Expr-F.Sub a b) = a && b
plain_step (Expr-F.Mul a b) = a && b

unfoldable pub is_plain_expr : Expr → Bool
is_plain_expr = fold-Expr Bool plain_step

abbrev pub plain_pred_step : Pred-F Bool → Bool
plain_pred_step (Pred-F.Test how a b) = is_plain_expr a && is_plain_expr b
plain_pred_step (Pred-F.Not p) = p
plain_pred_step (Pred-F.And p q) = p && q
plain_pred_step (Pred-F.Or p q) = p && q

unfoldable pub is_plain_pred : Pred → Bool
is_plain_pred = fold-Pred Bool plain_pred_step

abbrev pub is_plain_where : Option Pred → Bool
is_plain_where p = unwrap_or (option_map is_plain_pred p) true

abbrev pub is_plain_value : Value → Bool
is_plain_value (value.Int n) = is_short n
is_plain_value (value.Text t) = true

abbrev pub is_plain_what : What → Bool
is_plain_what what.All = true
is_plain_what (what.Names names) = has_members names && list_all is_name names
is_plain_what what.Count = true
is_plain_what (what.Sum name) = is_name name

abbrev pub is_plain : Statement → Bool
is_plain (statement.CreateArea name node) = is_name name && is_name node
is_plain (statement.CreateTable name columns key areas) =
    is_name name && ((has_members columns && list_all (λ c. is_name c.name) columns) && (is_name key && (has_members areas && list_all is_name areas)))
is_plain (statement.AddArea table area) = is_name table && is_name area
is_plain (statement.Insert table values) = is_name table && (has_members values && list_all is_plain_value values)
is_plain (statement.Select w table pred) = is_plain_what w && (is_name table && is_plain_where pred)
is_plain (statement.Update table sets pred) =
    is_name table && ((has_members sets && list_all (λ s. is_name s.name && is_plain_expr s.value) sets) && is_plain_where pred)
is_plain (statement.Delete table pred) = is_name table && is_plain_where pred
is_plain (statement.LockTable table exclusive) = is_name table
is_plain statement.Commit = true
is_plain statement.Rollback = true

-- a statement, or a pdrbal line within its limits
abbrev pub IsPlain : Work → Type 0
IsPlain (work.Sql st) = IsTrue (is_plain st)
IsPlain (work.Rebalance table rows turns) = IsTrue (is_name table) × (1 ≤ rows) × (rows ≤ 10000) × (1 ≤ turns) × (turns ≤ 1000000)
