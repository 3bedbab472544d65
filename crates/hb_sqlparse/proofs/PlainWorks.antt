-- Statements of sane tokens are plain.
use Rattle.std.proofs.Common.{◌≡◌, ℕ, ◌+◌, ◌≤◌, arith, Bool, true, ◌&&◌, nat_le, List, ◌∷◌, length, Option, refl, ◌∙◌}
use Rattle.std.proofs.lemmas.Bool.{le-leb}
use Rattle.std.specs.List.{list_all}
use Rattle.hb_types.specs.declared.value.Column.{Column}
use Rattle.hb_types.specs.declared.value.Value.{Value}
use Rattle.hb_model.specs.Valid.{is_name}
use Rattle.hb_model.specs.Plain.{has_members, is_plain_expr, is_plain_where, is_plain_value, is_plain_what, is_plain, IsPlain}
use Rattle.hb_model.specs.declared.condition.Pred.{Pred}
use Rattle.hb_model.specs.declared.statement.Set.{Set}
use Rattle.hb_model.specs.declared.statement.What.{What}
use Rattle.hb_model.specs.declared.statement.Statement.{Statement}
use Rattle.hb_model.specs.declared.line.Work.{Work}
use Rattle.hb_sqltoken.specs.declared.token.Token.{Token}
use Rattle.hb_sqltoken.specs.declared.token.Token.TheVariants as token
use Rattle.hb_sqlparse.specs.Listed.{Listed, last, then, IsOneName, one_name}
use Rattle.hb_sqlparse.specs.Columns.{IsColumn, integer, varchar}
use Rattle.hb_sqlparse.specs.Rows.{IsLiteral, positive, opposite, text, IsWhat, all, some, count, sum, IsSet, assigned, IsFilter, each, where_pred}
use Rattle.hb_sqlparse.specs.Works.{IsDefinition, create_area, create_table, add_area, lock_share, lock_exclusive, IsRowStatement, insert, select, update, delete, commit, rollback, IsWork, definition, row_statement, rebalance}
use Rattle.hb_sqlparse.proofs.PlainTrees.{Sane, Kept, KeptMore, both, short_negative, expr_plain, pred_plain}

name_plain : {x : List ℕ} {s r : List Token} → IsOneName x s r → Sane s → Kept (is_name x) s r
name_plain one_name h = record { is = h.0; rest = h.1; shorter = omega arith }

column_plain : {x : Column} {s r : List Token} → IsColumn x s r → Sane s → Kept (is_name x.name) s r
column_plain integer h = record { is = h.0; rest = h.1.1; shorter = omega arith }
column_plain varchar h = record { is = h.0; rest = h.1.1.1.1.1; shorter = omega arith }

literal_plain : {x : Value} {s r : List Token} → IsLiteral x s r → Sane s → Kept (is_plain_value x) s r
literal_plain positive h = record { is = h.0; rest = h.1; shorter = omega arith }
literal_plain (opposite {n = n}) h = record { is = short_negative n ∙ h.1.0; rest = h.1.1; shorter = omega arith }
literal_plain text h = record { is = refl; rest = h.1; shorter = omega arith }

set_plain : {x : Set} {s r : List Token} → IsSet x s r → Sane s → Kept (is_name x.name && is_plain_expr x.value) s r
set_plain (assigned {name = name} {e = e} i) h =
    let k = expr_plain i h.1.1 in
    record { is = both (is_name name) (is_plain_expr e) h.0 k.is; rest = k.rest; shorter = omega (arith, k.shorter) }

-- the items of a list are plain, and each has a token
record KeptList (b : Bool) (n : ℕ) (s r : List Token) : Type 0 where
  is : b ≡ true
  rest : Sane r
  some : 1 ≤ n
  few : n + length r ≤ length s

list_plain : {A : Type 0} {Is : A → List Token → List Token → Type 0} (f : A → Bool) → ((x : A) (s r : List Token) → Is x s r → Sane s → Kept (f x) s r)
    → {xs : List A} {s r : List Token} → Listed Is xs s r → Sane s → KeptList (list_all f xs) (length xs) s r
list_plain f item (last {x = x} {s = s} {r = r} i) h = let k = item x s r i h in record { is = both (f x) true k.is refl; rest = k.rest; some = omega arith; few = omega (arith, k.shorter) }
list_plain f item (then {x = x} {xs = xs} {s = s} {m = m} i l) h =
    let k = item x s (token.Comma ∷ m) i h in
    let y = list_plain f item l k.rest.1 in
    record { is = both (f x) (list_all f xs) k.is y.is; rest = y.rest; some = omega arith; few = omega (arith, k.shorter, y.few) }

members : {A : Type 0} (xs : List A) → 1 ≤ length xs → length xs ≤ 512 → has_members xs ≡ true
members xs low high = both (nat_le 1 (length xs)) (nat_le (length xs) 512) (le-leb 1 (length xs) low) (le-leb (length xs) 512 high)

names_plain : {xs : List (List ℕ)} {s r : List Token} → Listed IsOneName xs s r → Sane s → length s ≤ 512 → KeptList (has_members xs && list_all is_name xs) (length xs) s r
names_plain {xs = xs} l h n =
    let k = list_plain is_name (λ x s r i g. name_plain i g) l h in
    record { is = both (has_members xs) (list_all is_name xs) (members xs k.some (omega (arith, k.few, n))) k.is; rest = k.rest; some = k.some; few = k.few }

what_plain : {w : What} {s r : List Token} → IsWhat w s r → Sane s → length s ≤ 512 → KeptMore (is_plain_what w) s r
what_plain all h n = record { is = refl; rest = h.1; no_longer = omega arith }
what_plain (some l) h n = let k = names_plain l h n in record { is = k.is; rest = k.rest; no_longer = omega (arith, k.few) }
what_plain count h n = record { is = refl; rest = h.1.1.1.1; no_longer = omega arith }
what_plain sum h n = record { is = h.1.1.0; rest = h.1.1.1.1; no_longer = omega arith }

filter_plain : {p : Option Pred} {s r : List Token} → IsFilter p s r → Sane s → is_plain_where p ≡ true
filter_plain each h = refl
filter_plain (where_pred i) h = let k = pred_plain i h.1 in k.is

definition_plain : {st : Statement} {s r : List Token} → IsDefinition st s r → Sane s → length s ≤ 512 → is_plain st ≡ true
definition_plain (create_area {name = name} {node = node}) h n = both (is_name name) (is_name node) h.1.1.0 h.1.1.1.1.0
definition_plain (create_table {name = name} {key = key} {columns = xs} {areas = ys} l a) h n =
    let k = list_plain (λ (c : Column). is_name c.name) (λ x s r i g. column_plain i g) l h.1.1.1.1 in
    let g = k.rest.1.1.1.1 in
    let m = names_plain a g.1.1.1 (omega (arith, k.few, n)) in
    both (is_name name) _ h.1.1.0 (both _ _ (both (has_members xs) _ (members xs k.some (omega (arith, k.few, n))) k.is) (both (is_name key) _ g.0 m.is))
definition_plain (add_area {table = table} {area = area}) h n = both (is_name table) (is_name area) h.1.1.0 h.1.1.1.1.1.0
definition_plain lock_share h n = h.1.1.0
definition_plain lock_exclusive h n = h.1.1.0

row_statement_plain : {st : Statement} {s r : List Token} → IsRowStatement st s r → Sane s → length s ≤ 512 → is_plain st ≡ true
row_statement_plain (insert {table = table} {values = xs} l) h n =
    let k = list_plain is_plain_value (λ x s r i g. literal_plain i g) l h.1.1.1.1.1 in
    both (is_name table) _ h.1.1.0 (both (has_members xs) _ (members xs k.some (omega (arith, k.few, n))) k.is)
row_statement_plain (select {shown = w} {table = table} {pred = p} i f) h n =
    let k = what_plain i h.1 (omega (arith, n)) in
    both (is_plain_what w) _ k.is (both (is_name table) (is_plain_where p) k.rest.1.0 (filter_plain f k.rest.1.1))
row_statement_plain (update {table = table} {sets = xs} {pred = p} l f) h n =
    let k = list_plain (λ (x : Set). is_name x.name && is_plain_expr x.value) (λ x s r i g. set_plain i g) l h.1.1.1 in
    both (is_name table) _ h.1.0 (both _ (is_plain_where p) (both (has_members xs) _ (members xs k.some (omega (arith, k.few, n))) k.is) (filter_plain f k.rest))
row_statement_plain (delete {table = table} {pred = p} f) h n = both (is_name table) (is_plain_where p) h.1.1.0 (filter_plain f h.1.1.1)
row_statement_plain commit h n = refl
row_statement_plain rollback h n = refl

pub work_plain : {w : Work} {s r : List Token} → IsWork w s r → Sane s → length s ≤ 512 → IsPlain w
work_plain (definition i) h n = definition_plain i h n
work_plain (row_statement i) h n = row_statement_plain i h n
work_plain (rebalance a b c d) h n = (h.1.1.1.1.1.1.0, a, b, c, d)
