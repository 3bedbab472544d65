-- Each state of a condition can be completed.
use Rattle.std.proofs.Common.{◌≡◌, List, [], ◌∷◌, ◌++◌, Option, Some, option_map, refl, ap}
use Rattle.hb_sqltoken.specs.declared.token.Token.{Token}
use Rattle.hb_sqltoken.specs.declared.token.Token.TheVariants as token
use Rattle.hb_model.specs.declared.condition.Op.{Op}
use Rattle.hb_model.specs.declared.condition.Op.TheVariants as op
use Rattle.hb_model.specs.declared.expression.Expr.{Expr}
use Rattle.hb_model.specs.declared.condition.Pred.{Pred}
use Rattle.hb_sqlcond.specs.declared.operand.Operand.{Operand}
use Rattle.hb_sqlcond.specs.declared.operand.ExprState.{ExprState}
use Rattle.hb_sqlcond.specs.declared.operand.ExprState.TheVariants.{Want, Have}
use Rattle.hb_sqlcond.specs.declared.prefix.Prefix.{Prefix}
use Rattle.hb_sqlcond.specs.declared.expr_parser.ExprParser.{ExprParser}
use Rattle.hb_sqlcond.specs.declared.expr_parser.Offer.TheVariants.{Ended}
use Rattle.hb_sqlcond.specs.declared.pred_parser.Mode.{Mode}
use Rattle.hb_sqlcond.specs.declared.pred_parser.Mode.TheVariants.{WantTest, Left, Right, Tested}
use Rattle.hb_sqlcond.specs.declared.pred_parser.PredParser.{PredParser}
use Rattle.hb_sqlcond.specs.Operands.{and_of, or_of}
use Rattle.hb_sqlcond.specs.ExprSteps.{start_expr, offer_state, whole_state, whole_expr}
use Rattle.hb_sqlcond.specs.PredSteps.{pred_of, on_left, compared, on_right, step_pred, whole_pred}
use Rattle.hb_sqlcond.specs.Runs.{here, next, Completes}
use Rattle.hb_sqlcond.proofs.Leading.{some_is, and_then, more}
use Rattle.hb_sqlcond.proofs.ExprEnds.{expr_ends}
use Rattle.hb_sqlcond.proofs.PredComplete.{Goes, on_left_side, on_right_side}

abbrev Ends : PredParser → Type 0
Ends = Completes step_pred whole_pred

ends_next : {c d : PredParser} (k : Token) → step_pred c k ≡ Some d → Ends d → Ends c
ends_next k h e = record { rest = k ∷ e.rest; tree = e.tree; finds = record { last = e.finds.last; leads = next h e.finds.leads; is = e.finds.is } }

ends_then : {c d : PredParser} (s : List Token) → Goes c s d [] → Ends d → Ends c
ends_then s x e = record { rest = s ++ e.rest; tree = e.tree; finds = record { last = e.finds.last; leads = and_then step_pred (more step_pred x e.rest) e.finds.leads; is = e.finds.is } }

end_tested : (outer : List Prefix) (ors ands : Option Pred) (p : Pred) → Ends (pred_of outer (Tested ors ands p))
end_tested [] ors ands p = record { rest = []; tree = or_of ors (and_of ands p); finds = record { last = pred_of [] (Tested ors ands p); leads = here; is = refl } }
end_tested (prefix ∷ outer) ors ands p = ends_next token.Close refl (end_tested outer prefix.ors prefix.ands _)

-- a whole expression ends before a comparison and before a parenthesis that closes
before_compare : (inner : List Operand) (state : ExprState) (o : Op) (e : Expr) → whole_state inner state ≡ Some e → offer_state inner state (token.Compare o) ≡ Ended e (token.Compare o)
before_compare [] (Have sum v) o e h = ap (λ x. Ended x (token.Compare o)) (some_is h)
before_compare [] (Want x) o e h = absurd (cc)
before_compare (x ∷ inner) state o e h = absurd (cc)

before_close : (inner : List Operand) (state : ExprState) (e : Expr) → whole_state inner state ≡ Some e → offer_state inner state token.Close ≡ Ended e token.Close
before_close [] (Have sum v) e h = ap (λ x. Ended x token.Close) (some_is h)
before_close [] (Want x) e h = absurd (cc)
before_close (x ∷ inner) state e h = absurd (cc)

end_whole_right : (outer : List Prefix) (prefix : Prefix) (o : Op) (a : Expr) (f : ExprParser) (e : Expr) → whole_expr f ≡ Some e → Ends (pred_of outer (Right prefix o a f))
end_whole_right [] prefix o a f e h = record {
  rest = [];
  tree = or_of prefix.ors (and_of prefix.ands (compared prefix.nots o a e));
  finds = record { last = pred_of [] (Right prefix o a f); leads = here; is = ap (option_map (λ x. or_of prefix.ors (and_of prefix.ands (compared prefix.nots o a x)))) h };
}
end_whole_right (b ∷ outer) prefix o a f e h =
    ends_next token.Close (ap (on_right (b ∷ outer) prefix o a) (before_close f.inner f.state e h)) (end_tested outer b.ors b.ands _)

end_right : (outer : List Prefix) (prefix : Prefix) (o : Op) (a : Expr) (f : ExprParser) → Ends (pred_of outer (Right prefix o a f))
end_right outer prefix o a f =
    let e = expr_ends f in
    ends_then e.rest (on_right_side e.finds.leads outer prefix o a) (end_whole_right outer prefix o a e.finds.last e.tree e.finds.is)

end_left : (outer : List Prefix) (prefix : Prefix) (f : ExprParser) → Ends (pred_of outer (Left prefix f))
end_left outer prefix f =
    let e = expr_ends f in
    ends_then e.rest (on_left_side e.finds.leads outer prefix)
    (ends_next (token.Compare op.Eq) (ap (on_left outer prefix) (before_compare e.finds.last.inner e.finds.last.state op.Eq e.tree e.finds.is)) (end_right outer prefix op.Eq e.tree start_expr))

end_mode : (outer : List Prefix) (mode : Mode) → Ends (pred_of outer mode)
end_mode outer (WantTest prefix) = ends_next (token.Name (97 ∷ [])) refl (end_left outer prefix _)
end_mode outer (Left prefix f) = end_left outer prefix f
end_mode outer (Right prefix o a f) = end_right outer prefix o a f
end_mode outer (Tested ors ands p) = end_tested outer ors ands p

pub pred_ends : (c : PredParser) → Ends c
pred_ends c = end_mode c.outer c.mode
