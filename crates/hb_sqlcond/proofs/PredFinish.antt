-- Of a run that finds a condition, the condition is derived by the grammar.
use Rattle.std.proofs.Common.{◌≡◌, List, [], ◌∷◌, Option, Some, None, option_map, refl, sym, subst, inl, inr}
use Rattle.hb_sqltoken.specs.declared.token.Token.{Token}
use Rattle.hb_model.specs.declared.condition.Op.{Op}
use Rattle.hb_model.specs.declared.expression.Expr.{Expr}
use Rattle.hb_model.specs.declared.condition.Pred.{Pred}
use Rattle.hb_sqlcond.specs.declared.prefix.Prefix.{Prefix}
use Rattle.hb_sqlcond.specs.declared.expr_parser.ExprParser.{ExprParser}
use Rattle.hb_sqlcond.specs.declared.pred_parser.Mode.{Mode}
use Rattle.hb_sqlcond.specs.declared.pred_parser.Mode.TheVariants.{WantTest, Left, Right, Tested}
use Rattle.hb_sqlcond.specs.declared.pred_parser.PredParser.{PredParser}
use Rattle.hb_sqlcond.specs.Grammar.{conj, IsPred, pred}
use Rattle.hb_sqlcond.specs.Operands.{fresh, and_of, or_of}
use Rattle.hb_sqlcond.specs.ExprSteps.{whole_expr}
use Rattle.hb_sqlcond.specs.PredSteps.{start_pred, compared, step_pred, whole_mode, whole_pred}
use Rattle.hb_sqlcond.specs.Runs.{Leads, here, next, Finds}
use Rattle.hb_sqlcond.proofs.Leading.{some_is}
use Rattle.hb_sqlcond.proofs.ExprSound.{stop_whole}
use Rattle.hb_sqlcond.proofs.PredSound.{Final, right_rest, mode_rest, next_rest, stop_test, back_mode}

stop_right : (final : Final) (prefix : Prefix) (op : Op) (a : Expr) (f : ExprParser) (o : Option Expr) (p : Pred) (s : List Token) → whole_expr f ≡ o
    → option_map (λ e. or_of prefix.ors (and_of prefix.ands (compared prefix.nots op a e))) o ≡ Some p → final p s → mode_rest final [] (Right prefix op a f) s
stop_right final prefix op a f None p s w h x = absurd (cc)
stop_right final prefix op a f (Some e) p s w h x =
    stop_whole (right_rest final [] prefix op a) f e s w (stop_test final [] prefix.ors prefix.ands (compared prefix.nots op a e) s (subst (λ d. final d s) (sym (some_is h)) x))

stop_mode : (final : Final) (outer : List Prefix) (mode : Mode) (p : Pred) (s : List Token) → whole_mode outer mode ≡ Some p → final p s → mode_rest final outer mode s
stop_mode final [] (Tested ors ands q) p s h x = stop_test final [] ors ands q s (subst (λ d. final d s) (sym (some_is h)) x)
stop_mode final [] (Right prefix op a f) p s h x = stop_right final prefix op a f (whole_expr f) p s refl h x
stop_mode final [] (Left prefix f) p s h x = absurd (cc)
stop_mode final [] (WantTest prefix) p s h x = absurd (cc)
stop_mode final (o ∷ outer) mode p s h x = absurd (cc)

leads_rest : (final : Final) {c d : PredParser} {s r : List Token} → Leads step_pred c s d r → (p : Pred) → whole_pred d ≡ Some p → final p r → mode_rest final c.outer c.mode s
leads_rest final (here {c = c} {s = s}) p h x = stop_mode final c.outer c.mode p s h x
leads_rest final (next {c = c} {m = m} {t = t} {s = s} e y) p h x =
    back_mode final c.outer c.mode t s (subst (λ o. next_rest final o s) (sym e) (leads_rest final y p h x))

of_start : (p : Pred) (s r : List Token) → mode_rest (λ x n. (x ≡ p) × (n ≡ r)) [] (WantTest fresh) s → IsPred p s r
of_start p s r (inl w) =
    let y = w.goes in
    subst (λ x. IsPred x s r) y.goes.0 (subst (IsPred y.whole s) y.goes.1 (pred (conj w.is y.conjs) y.preds))
of_start p s r (inr w) = absurd w.goes

pub pred_derived : (p : Pred) (s r : List Token) → Finds step_pred whole_pred start_pred p s r → IsPred p s r
pred_derived p s r f = of_start p s r (leads_rest (λ x n. (x ≡ p) × (n ≡ r)) f.leads p f.is (refl, refl))
