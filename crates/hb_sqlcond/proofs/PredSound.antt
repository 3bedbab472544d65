-- What is found as a condition is derived by the grammar.
use Rattle.std.proofs.Common.{◌≡◌, ℕ, zero, suc, Bool, true, false, if◌then◌else◌, List, [], ◌∷◌, Option, Some, None, refl, subst, ◌⊎◌, inl, inr}
use Rattle.hb_sqltoken.specs.declared.token.Token.{Token}
use Rattle.hb_sqltoken.specs.declared.token.Token.TheVariants as token
use Rattle.hb_sqltoken.specs.declared.token.Word.{Word}
use Rattle.hb_sqltoken.specs.declared.token.Word.TheVariants as word
use Rattle.hb_model.specs.declared.condition.Op.{Op}
use Rattle.hb_model.specs.declared.expression.Expr.{Expr}
use Rattle.hb_model.specs.declared.condition.Pred.{Pred}
use Rattle.hb_model.specs.declared.condition.Pred.TheVariants as truth
use Rattle.hb_sqlcond.specs.declared.operand.Sum.TheVariants.{Nothing}
use Rattle.hb_sqlcond.specs.declared.prefix.Prefix.{Prefix}
use Rattle.hb_sqlcond.specs.declared.expr_parser.Offer.{Offer}
use Rattle.hb_sqlcond.specs.declared.expr_parser.Offer.TheVariants.{Taken, Ended, Refused}
use Rattle.hb_sqlcond.specs.declared.pred_parser.Mode.{Mode}
use Rattle.hb_sqlcond.specs.declared.pred_parser.Mode.TheVariants.{WantTest, Left, Right, Tested}
use Rattle.hb_sqlcond.specs.declared.pred_parser.PredParser.{PredParser}
use Rattle.hb_sqlcond.specs.Grammar.{term, IsExpr, expr, IsTest, negated, test_inside, compared as by_compare, conj, ConjMore, end_conj, and, IsPred, pred, PredMore, end_pred, or}
use Rattle.hb_sqlcond.specs.Operands.{prefix_of, fresh, are_none, is_fresh, nots_of, and_of, or_of, bare}
use Rattle.hb_sqlcond.specs.ExprSteps.{start_expr, offer}
use Rattle.hb_sqlcond.specs.PredSteps.{joined, behind_test, close_value, behind_left, on_left, compared, on_right, denied, want_test, step_mode}
use Rattle.hb_sqlcond.proofs.ExprSound.{HaveRest, Closed, WantRest, expr_rest, offered_rest, closed_expr, back_expr}

-- From where a condition stands, what the tokens must be that it goes on with; `final` says what the rest of all must be.
abbrev pub Final : Type 1
Final = Pred → List Token → Type 0

abbrev nots_before : ℕ → List Token → List Token
nots_before zero s = s
nots_before (suc k) s = nots_before k (token.Word word.Not ∷ s)

test_nots : (k : ℕ) (p : Pred) (u r : List Token) → IsTest p u r → IsTest (nots_of k p) (nots_before k u) r
test_nots zero p u r i = i
test_nots (suc k) p u r i = test_nots k (truth.Not p) (token.Word word.Not ∷ u) r (negated i)

-- Behind a test the tokens s go on to a condition.
pub record TestedRest (after : Final) (ors ands : Option Pred) (p : Pred) (s : List Token) : Type 0 where
  pub conj : Pred
  pub mid : List Token
  pub conjs : ConjMore (and_of ands p) conj s mid
  pub whole : Pred
  pub rest : List Token
  pub preds : PredMore (or_of ors conj) whole mid rest
  pub goes : after whole rest

abbrev pub Nots : Final → Prefix → Pred → List Token → Type 0
Nots after prefix p s = TestedRest after prefix.ors prefix.ands (nots_of prefix.nots p) s

abbrev pub close_pred : Final → List Prefix → Pred → List Token → Type 0
close_pred final [] d s = final d s
close_pred final (prefix ∷ outer) d s = Closed (Nots (close_pred final outer) prefix d) s

pub record ComparedRest (after : Final) (prefix : Prefix) (a : Expr) (s : List Token) : Type 0 where
  pub op : Op
  pub b : Expr
  pub from : List Token
  pub rest : List Token
  pub is : s ≡ token.Compare op ∷ from
  pub right : IsExpr b from rest
  pub goes : Nots after prefix (truth.Test op a b) rest

abbrev pub close_value_rest : Final → List Prefix → Expr → List Token → Type 0
close_value_rest final [] e s = ⊥
close_value_rest final (prefix ∷ outer) e s =
    Closed (HaveRest (λ x n. ComparedRest (close_pred final outer) prefix x n ⊎ ((is_fresh prefix ≡ true) × close_value_rest final outer x n)) Nothing e) s

abbrev pub left_rest : Final → List Prefix → Prefix → Expr → List Token → Type 0
left_rest final outer prefix e s = ComparedRest (close_pred final outer) prefix e s ⊎ ((is_fresh prefix ≡ true) × close_value_rest final outer e s)

abbrev pub right_rest : Final → List Prefix → Prefix → Op → Expr → Expr → List Token → Type 0
right_rest final outer prefix op a e s = Nots (close_pred final outer) prefix (truth.Test op a e) s

pub record WantTestRest (after : Final) (prefix : Prefix) (s : List Token) : Type 0 where
  pub test : Pred
  pub from : List Token
  pub is : IsTest test (nots_before prefix.nots s) from
  pub goes : TestedRest after prefix.ors prefix.ands test from

pub record WantValueRest (after : Expr → List Token → Type 0) (prefix : Prefix) (s : List Token) : Type 0 where
  pub are_none : is_fresh prefix ≡ true
  pub value : Expr
  pub rest : List Token
  pub is : IsExpr value s rest
  pub goes : after value rest

abbrev pub mode_rest : Final → List Prefix → Mode → List Token → Type 0
mode_rest final outer (WantTest prefix) s = WantTestRest (close_pred final outer) prefix s ⊎ WantValueRest (close_value_rest final outer) prefix s
mode_rest final outer (Left prefix f) s = expr_rest (left_rest final outer prefix) f s
mode_rest final outer (Right prefix op a f) s = expr_rest (right_rest final outer prefix op a) f s
mode_rest final outer (Tested ors ands p) s = TestedRest (close_pred final outer) ors ands p s

abbrev pub next_rest : Final → Option PredParser → List Token → Type 0
next_rest final None s = ⊥
next_rest final (Some c) s = mode_rest final c.outer c.mode s

ands_some : (ors : Option Pred) (q : Pred) (n : ℕ) → are_none ors (Some q) n ≡ true → ⊥
ands_some None q n h = cc
ands_some (Some o) q n h = cc

nots_some : (ors ands : Option Pred) (n : ℕ) → are_none ors ands (suc n) ≡ true → ⊥
nots_some None None n h = cc
nots_some None (Some a) n h = cc
nots_some (Some o) ands n h = cc

module _ (final : Final) where
  back_and : (outer : List Prefix) (ors ands : Option Pred) (p : Pred) (s : List Token)
      → mode_rest final outer (WantTest (prefix_of ors (Some (and_of ands p)) 0)) s → TestedRest (close_pred final outer) ors ands p (token.Word word.And ∷ s)
  back_and outer ors ands p s (inl w) = let y = w.goes in record { conj = y.conj; mid = y.mid; conjs = and w.is y.conjs; whole = y.whole; rest = y.rest; preds = y.preds; goes = y.goes }
  back_and outer ors ands p s (inr w) = absurd (ands_some ors (and_of ands p) 0 w.are_none)

  back_or : (outer : List Prefix) (ors ands : Option Pred) (p : Pred) (s : List Token)
      → mode_rest final outer (WantTest (prefix_of (Some (or_of ors (and_of ands p))) None 0)) s → TestedRest (close_pred final outer) ors ands p (token.Word word.Or ∷ s)
  back_or outer ors ands p s (inl w) = let y = w.goes in record { conj = and_of ands p; mid = token.Word word.Or ∷ s; conjs = end_conj; whole = y.whole; rest = y.rest; preds = or (conj w.is y.conjs) y.preds; goes = y.goes }
  back_or outer ors ands p s (inr w) = let h = w.are_none in absurd (cc)

  pub stop_test : (outer : List Prefix) (ors ands : Option Pred) (p : Pred) (s : List Token) → close_pred final outer (or_of ors (and_of ands p)) s → TestedRest (close_pred final outer) ors ands p s
  stop_test outer ors ands p s x = record { conj = and_of ands p; mid = s; conjs = end_conj; whole = or_of ors (and_of ands p); rest = s; preds = end_pred; goes = x }

  back_word : (outer : List Prefix) (ors ands : Option Pred) (p : Pred) (w : Word) (s : List Token)
      → next_rest final (joined outer ors ands p w) s → TestedRest (close_pred final outer) ors ands p (token.Word w ∷ s)
  back_word outer ors ands p word.And s x = back_and outer ors ands p s x
  back_word outer ors ands p word.Or s x = back_or outer ors ands p s x
  back_word outer ors ands p _ s x = absurd x

  back_test : (outer : List Prefix) (ors ands : Option Pred) (p : Pred) (k : Token) (s : List Token)
      → next_rest final (behind_test outer ors ands p k) s → TestedRest (close_pred final outer) ors ands p (k ∷ s)
  back_test outer ors ands p (token.Word w) s x = back_word outer ors ands p w s x
  back_test [] ors ands p token.Close s x = absurd x
  back_test (prefix ∷ outer) ors ands p token.Close s x = stop_test (prefix ∷ outer) ors ands p _ (record { rest = s; is = refl; goes = x })
  back_test outer ors ands p _ s x = absurd x

  back_close : (outer : List Prefix) (prefix : Prefix) (e : Expr) (s : List Token) (b : Bool) → is_fresh prefix ≡ b
      → next_rest final (if b then close_value outer e else None) s → left_rest final outer prefix e (token.Close ∷ s)
  back_close outer prefix e s false h x = absurd x
  back_close [] prefix e s true h x = absurd x
  back_close (o ∷ outer) prefix e s true h x = inr (h, record { rest = s; is = refl; goes = x })

  back_left : (outer : List Prefix) (prefix : Prefix) (e : Expr) (k : Token) (s : List Token)
      → next_rest final (behind_left outer prefix e k) s → left_rest final outer prefix e (k ∷ s)
  back_left outer prefix e (token.Compare op) s x =
      let y = x.goes in
      inl (record { op = op; b = y.value; from = s; rest = y.rest; is = refl; right = expr (term x.is y.products) y.sums; goes = y.goes })
  back_left outer prefix e token.Close s x = back_close outer prefix e s (is_fresh prefix) refl x
  back_left outer prefix e _ s x = absurd x

  of_left : (outer : List Prefix) (prefix : Prefix) (o : Offer) (s : List Token) → next_rest final (on_left outer prefix o) s → offered_rest (left_rest final outer prefix) o s
  of_left outer prefix (Taken f) s x = x
  of_left outer prefix (Ended e t) s x = back_left outer prefix e t s x
  of_left outer prefix Refused s x = x

  of_right : (outer : List Prefix) (prefix : Prefix) (op : Op) (a : Expr) (o : Offer) (s : List Token)
      → next_rest final (on_right outer prefix op a o) s → offered_rest (right_rest final outer prefix op a) o s
  of_right outer prefix op a (Taken f) s x = x
  of_right outer prefix op a (Ended e t) s x = back_test outer prefix.ors prefix.ands (compared prefix.nots op a e) t s x
  of_right outer prefix op a Refused s x = x

  of_side : (outer : List Prefix) (prefix : Prefix) (e : Expr) (u n : List Token) → IsExpr e u n → left_rest final outer prefix e n → mode_rest final outer (WantTest prefix) u
  of_side outer prefix e u n i (inl c) =
      inl (record { test = nots_of prefix.nots (truth.Test c.op e c.b); from = c.rest; is = test_nots prefix.nots _ _ _ (by_compare (subst (IsExpr e u) c.is i) c.right); goes = c.goes })
  of_side outer prefix e u n i (inr y) = inr (record { are_none = y.0; value = e; rest = n; is = i; goes = y.1 })

  of_want : (outer : List Prefix) (prefix : Prefix) (u : List Token) → WantRest (left_rest final outer prefix) bare u → mode_rest final outer (WantTest prefix) u
  of_want outer prefix u w = let y = w.goes in of_side outer prefix y.value u y.rest (expr (term w.is y.products) y.sums) y.goes

  back_not : (outer : List Prefix) (prefix : Prefix) (s : List Token)
      → mode_rest final outer (WantTest (prefix_of prefix.ors prefix.ands (suc prefix.nots))) s → mode_rest final outer (WantTest prefix) (token.Word word.Not ∷ s)
  back_not outer prefix s (inl w) = inl (record { test = w.test; from = w.from; is = w.is; goes = w.goes })
  back_not outer prefix s (inr w) = absurd (nots_some prefix.ors prefix.ands prefix.nots w.are_none)

  back_open : (outer : List Prefix) (prefix : Prefix) (s : List Token) → mode_rest final (prefix ∷ outer) (WantTest fresh) s → mode_rest final outer (WantTest prefix) (token.Open ∷ s)
  back_open outer prefix s (inl w) =
      let y = w.goes in
      inl (record {
        test = nots_of prefix.nots y.whole;
        from = y.goes.rest;
        is = test_nots prefix.nots _ _ _ (test_inside (subst (IsPred y.whole s) y.goes.is (pred (conj w.is y.conjs) y.preds)));
        goes = y.goes.goes;
      })
  back_open outer prefix s (inr w) =
      of_want outer prefix _ (record { fac = w.value; from = w.goes.rest; is = closed_expr w.goes.is w.is; goes = w.goes.goes })

  back_denied : (outer : List Prefix) (prefix : Prefix) (w : Word) (s : List Token) → next_rest final (denied outer prefix w) s → mode_rest final outer (WantTest prefix) (token.Word w ∷ s)
  back_denied outer prefix word.Not s x = back_not outer prefix s x
  back_denied outer prefix _ s x = absurd x

  back_want_test : (outer : List Prefix) (prefix : Prefix) (k : Token) (s : List Token) → next_rest final (want_test outer prefix k) s → mode_rest final outer (WantTest prefix) (k ∷ s)
  back_want_test outer prefix (token.Word w) s x = back_denied outer prefix w s x
  back_want_test outer prefix token.Open s x = back_open outer prefix s x
  back_want_test outer prefix k s x = of_want outer prefix _ (back_expr (left_rest final outer prefix) start_expr k s (of_left outer prefix (offer start_expr k) s x))

  pub back_mode : (outer : List Prefix) (mode : Mode) (k : Token) (s : List Token) → next_rest final (step_mode outer mode k) s → mode_rest final outer mode (k ∷ s)
  back_mode outer (WantTest prefix) k s x = back_want_test outer prefix k s x
  back_mode outer (Left prefix f) k s x = back_expr (left_rest final outer prefix) f k s (of_left outer prefix (offer f k) s x)
  back_mode outer (Right prefix op a f) k s x = back_expr (right_rest final outer prefix op a) f k s (of_right outer prefix op a (offer f k) s x)
  back_mode outer (Tested ors ands p) k s x = back_test outer ors ands p k s x
