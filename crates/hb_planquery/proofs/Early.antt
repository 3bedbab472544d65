-- Where nothing refuses a statement before its rows are read, its key is an INTEGER.
use Rattle.std.proofs.Common.{◌≡◌, ℤ, Bool, true, false, true≢false, not, ◌||◌, ◌&&◌, List, [], ◌∷◌, ◌++◌, Option, Some, None, refl, ap, subst}
use Rattle.std.specs.Prelude.{is_some, is_none}
use Rattle.std.specs.List.{list_any, list_all}
use Rattle.std.specs.Str.{bytes_eq}
use Rattle.hb_types.specs.Lists.{has_twins}
use Rattle.hb_talk.specs.Plans.{with_lying}
use Rattle.hb_types.specs.Numbers.{is_integer}
use Rattle.hb_model.specs.declared.condition.Pred.{Pred}
use Rattle.hb_model.specs.declared.reply.Reply.{Reply}
use Rattle.hb_model.specs.declared.reply.Reply.TheVariants as reply
use Rattle.hb_model.specs.declared.statement.Set.{Set}
use Rattle.hb_model.specs.declared.statement.What.{What}
use Rattle.hb_model.specs.declared.table.Table.{Table}
use Rattle.hb_model.specs.Refusals.{first_refusal, is_unknown, what_names, sets_names, pred_names, what_typed, pred_typed, is_assignable}
use Rattle.hb_model.specs.Rows.{outside, point, overflows, considers, truth, key_name}
use Rattle.hb_planquery.specs.Queries.{early_select, early_update}

none_is : (r : Reply) → Some r ≡ None → ⊥
none_is r is = true≢false (ap (λ o. is_some o) is)

last_of_three : (a b c : Bool) (p q r : Reply) → first_refusal ((a, p) ∷ (b, q) ∷ (c, r) ∷ []) ≡ None → c ≡ false
last_of_three true b c p q r is = absurd (none_is p is)
last_of_three false true c p q r is = absurd (none_is q is)
last_of_three false false true p q r is = absurd (none_is r is)
last_of_three false false false p q r is = refl

last_of_five : (a b c d e : Bool) (p q r s t : Reply) → first_refusal ((a, p) ∷ (b, q) ∷ (c, r) ∷ (d, s) ∷ (e, t) ∷ []) ≡ None → e ≡ false
last_of_five true b c d e p q r s t is = absurd (none_is p is)
last_of_five false b c d e p q r s t is = of_four b c d e q r s t is
  where
    of_four : (b c d e : Bool) (q r s t : Reply) → first_refusal ((b, q) ∷ (c, r) ∷ (d, s) ∷ (e, t) ∷ []) ≡ None → e ≡ false
    of_four true c d e q r s t is = absurd (none_is q is)
    of_four false c d e q r s t is = last_of_three c d e r s t is

first_false : (a b : Bool) → (a || b) ≡ false → a ≡ false
first_false true b is = is
first_false false b is = refl

inside : (b : Bool) → not b ≡ false → b ≡ true
inside true is = refl
inside false is = absurd (true≢false is)

pub within : (key : ℤ) (o : Option ℤ) → o ≡ Some key → outside o ≡ false → is_integer key ≡ true
within key o is h = inside (is_integer key) (subst (λ x. outside x ≡ false) is h)

pub select_within : (t : Table) (w : What) (pred : Option Pred) → early_select t w pred ≡ None → outside (point t pred) ≡ false
select_within t w pred is =
    let b : Table = with_lying t [] in
    let last : overflows b pred ≡ false = last_of_three (list_any (is_unknown b) (what_names w ++ pred_names pred)) (not (what_typed b w && pred_typed b pred)) (overflows b pred)
    reply.NoColumn reply.WrongType reply.Overflow is in
    first_false (outside (point t pred)) (list_any (λ row. considers b pred row && is_none (truth b pred row)) []) last

pub update_within : (t : Table) (sets : List Set) (pred : Option Pred) → early_update t sets pred ≡ None → outside (point t pred) ≡ false
update_within t sets pred is =
    let b : Table = with_lying t [] in
    let last : overflows b pred ≡ false = last_of_five (list_any (is_unknown b) (sets_names sets ++ pred_names pred)) (has_twins (λ x y. bytes_eq x.name y.name) sets)
    (list_any (λ s. bytes_eq s.name (key_name b)) sets) (not (list_all (is_assignable b) sets && pred_typed b pred)) (overflows b pred)
    reply.NoColumn reply.ColumnTwice reply.KeyFixed reply.WrongType reply.Overflow is in
    first_false (outside (point t pred)) (list_any (λ row. considers b pred row && is_none (truth b pred row)) []) last
