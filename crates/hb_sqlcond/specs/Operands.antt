-- What stands before a factor or a test, and the trees that are made with it.
use Rattle.std.specs.Prelude.{ℕ, zero, suc, pos, Bool, true, false, Option, Some, None}
use Rattle.hb_model.specs.declared.expression.Expr.{Expr}
use Rattle.hb_model.specs.declared.expression.Expr.TheVariants as value
use Rattle.hb_model.specs.declared.condition.Pred.{Pred}
use Rattle.hb_model.specs.declared.condition.Pred.TheVariants as truth
use Rattle.hb_sqlcond.specs.declared.operand.Operand.{Operand}
use Rattle.hb_sqlcond.specs.declared.operand.Sum.{Sum}
use Rattle.hb_sqlcond.specs.declared.operand.Sum.TheVariants.{Nothing, Plus, Minus}
use Rattle.hb_sqlcond.specs.declared.prefix.Prefix.{Prefix}
use Rattle.hb_sqlcond.specs.Grammar.{negative}

abbrev pub operand_of : Sum → Option Expr → ℕ → Operand
operand_of sum product minuses = record { sum = sum; product = product; minuses = minuses }

-- nothing stands before the factor
abbrev pub bare : Operand
bare = operand_of Nothing None 0

abbrev pub minuses_of : ℕ → Expr → Expr
minuses_of zero e = e
minuses_of (suc k) e = minuses_of k (value.Neg e)

abbrev pub times_of : Option Expr → Expr → Expr
times_of None f = f
times_of (Some a) f = value.Mul a f

abbrev pub summed : Sum → Expr → Expr
summed Nothing e = e
summed (Plus a) e = value.Add a e
summed (Minus a) e = value.Sub a e

-- the product with a number behind minuses, the last of which belongs to the number
abbrev pub number_of : Option Expr → ℕ → ℕ → Expr
number_of product zero n = times_of product (value.Int (pos n))
number_of product (suc k) n = times_of product (minuses_of k (value.Int (negative n)))

abbrev pub factor : Operand → Expr → Expr
factor o f = times_of o.product (minuses_of o.minuses f)

abbrev pub prefix_of : Option Pred → Option Pred → ℕ → Prefix
prefix_of ors ands nots = record { ors = ors; ands = ands; nots = nots }

-- nothing stands before the test
abbrev pub fresh : Prefix
fresh = prefix_of None None 0

abbrev pub nots_of : ℕ → Pred → Pred
nots_of zero p = p
nots_of (suc k) p = nots_of k (truth.Not p)

abbrev pub and_of : Option Pred → Pred → Pred
and_of None p = p
and_of (Some q) p = truth.And q p

abbrev pub or_of : Option Pred → Pred → Pred
or_of None p = p
or_of (Some q) p = truth.Or q p

abbrev pub are_none : Option Pred → Option Pred → ℕ → Bool
are_none None None zero = true
are_none _ _ _ = false

abbrev pub is_fresh : Prefix → Bool
is_fresh prefix = are_none prefix.ors prefix.ands prefix.nots
