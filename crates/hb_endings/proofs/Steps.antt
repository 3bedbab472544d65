-- Loops over rows with their places.
use Rattle.std.proofs.Common.{◌≡◌, ℕ, zero, suc, ◌+◌, ◌<◌, false, List, [], ◌∷◌, ◌++◌, length, map, take, get_or, Option, Some, None, refl, ap, sym, ◌∙◌, subst, arith, inl, inr}
use Rattle.std.specs.List.{list_any}
use Rattle.std.proofs.Math.Seq.{take-suc}
use Rattle.std.proofs.lemmas.List.{map-append}
use Rattle.std.specs.Option.{option_or}
use Rattle.hb_types.specs.declared.change.Change.{Change}
use Rattle.hb_types.specs.Lists.{Each}
use Rattle.hb_model.specs.declared.condition.Pred.{Pred}
use Rattle.hb_model.specs.declared.statement.Set.{Set}
use Rattle.hb_model.specs.declared.reply.Reply.{Reply}
use Rattle.hb_model.specs.declared.table.Table.{Table}
use Rattle.hb_model.specs.Rows.{assigned, assigning_refusal, first_some}
use Rattle.hb_talk.specs.Plans.{Lying, putting, removing}
use Rattle.hb_planrows.specs.PlanRows.{rows_in}
use Rattle.hb_sqlrow.specs.declared.fault.SetFault.{SetFault}
use Rattle.hb_sqlrow.specs.declared.fault.SetFault.TheVariants as fault
use Rattle.hb_sqlrow.specs.Refused.{IsReplyOf}
use Rattle.hb_writes.specs.Underway.{IsWrite}
use Rattle.hb_endings.proofs.Ends.{length-mapped}
use Rattle.hb_endings.proofs.Nodes.{first_node}
use Rattle.hb_endings.specs.Kept.{Keeps}
use Rattle.hb_endings.specs.Rows.{IsFit, Suits, chosen_of, is_unknown}

pub each_push : {A : Type 0} (P : A → Type 0) (xs : List A) (x : A) → Each P xs → P x → Each P (xs ++ x ∷ [])
each_push P [] x all here = (here, tt)
each_push P (y ∷ xs) x all here = (all.0, each_push P xs x all.1 here)

each_pushed : {A : Type 0} (P : A → Type 0) (xs : List A) (x : A) → Each P (xs ++ x ∷ []) → Each P xs × P x
each_pushed P [] x all = (tt, all.0)
each_pushed P (y ∷ xs) x all = let rest = each_pushed P xs x all.1 in ((all.0, rest.0), rest.1)

-- ---- rows that suit their table

-- of these rows those are kept that suit
pub record AreKept (t : Table) (seen kept : List Lying) : Type 0 where
  pub fit : Each (IsFit t) kept
  pub all : Each (Suits t) seen → kept ≡ seen

pub kept_more : (t : Table) (seen kept new : List Lying) (l : Lying) → AreKept t seen kept → Keeps t l kept new → AreKept t (seen ++ l ∷ []) new
kept_more t seen kept new l before (inl (fit, is)) = record {
  fit = subst (Each (IsFit t)) (sym is) (each_push (IsFit t) kept l before.fit fit);
  all = λ suit. is ∙ ap (λ ls. ls ++ l ∷ []) (before.all (each_pushed (Suits t) seen l suit).0);
}
kept_more t seen kept new l before (inr (not_so, is)) = record {
  fit = subst (Each (IsFit t)) (sym is) before.fit;
  all = λ suit. absurd (not_so (each_pushed (Suits t) seen l suit).1);
}

-- ---- rows that a condition chooses

-- these are the chosen of the rows seen, and none of them is without a truth
pub record Looks (t : Table) (p : Option Pred) (seen found : List Lying) : Type 0 where
  pub chosen : found ≡ chosen_of t p seen
  pub told : list_any (is_unknown t p) seen ≡ false

-- ---- assignments, row by row

pub take_more : {A : Type 0} (xs : List A) (i : ℕ) (x : A) → i < length xs → x ≡ get_or xs i x → take (i + 1) xs ≡ take i xs ++ x ∷ []
take_more {A} xs i x lt is = let e : i + 1 ≡ suc i = omega arith in ap (λ (k : ℕ). take k xs) e ∙ take-suc xs i x lt ∙ ap (λ (y : A). take i xs ++ y ∷ []) (sym is)

behind : {B : Type 0} (o a b : Option B) (r : B) → option_or o a ≡ None → (a ≡ None → b ≡ Some r) → option_or o b ≡ Some r
behind None a b r none next = next none
behind (Some x) a b r none next = absurd (cc)

goes_on : {B : Type 0} (o a b : Option B) → option_or o a ≡ None → (a ≡ None → b ≡ None) → option_or o b ≡ None
goes_on None a b none next = next none
goes_on (Some x) a b none next = absurd (cc)

-- the first of a list, none before it
first_at : {A B : Type 0} (f : A → Option B) (xs : List A) (i : ℕ) (x : A) (r : B) → i < length xs → x ≡ get_or xs i x → first_some f (take i xs) ≡ None → f x ≡ Some r → first_some f xs ≡ Some r
first_at {A} {B} f xs i x r lt is none some = go xs i lt none (ap f (sym is) ∙ some)
  where
    go : (xs : List A) (i : ℕ) → i < length xs → first_some f (take i xs) ≡ None → f (get_or xs i x) ≡ Some r → first_some f xs ≡ Some r
    go [] i lt none some = absurd (omega (arith, lt))
    go (y ∷ ys) zero lt none some = rw some refl
    go (y ∷ ys) (suc i) lt none some = behind (f y) (first_some f (take i ys)) (first_some f ys) r none (λ n. go ys i (omega (arith, lt)) n some)

first_more : {A B : Type 0} (f : A → Option B) (xs : List A) (x : A) → first_some f xs ≡ None → f x ≡ None → first_some f (xs ++ x ∷ []) ≡ None
first_more f [] x none here = rw here refl
first_more f (y ∷ ys) x none here = goes_on (f y) (first_some f ys) (first_some f (ys ++ x ∷ [])) none (λ n. first_more f ys x n here)

first-map : {A B C : Type 0} (g : A → B) (f : B → Option C) (xs : List A) → first_some f (map g xs) ≡ first_some (λ x. f (g x)) xs
first-map g f [] = refl
first-map g f (x ∷ xs) = ap (option_or (f (g x))) (first-map g f xs)

-- the changes of the rows seen, at none of which an assignment is refused
pub record Updates (t : Table) (sets : List Set) (seen : List Lying) (changes : List Change) : Type 0 where
  pub made : changes ≡ map (λ l. putting l.0 (assigned t sets l.1)) seen
  pub write : Each IsWrite changes
  pub accepted : first_some (assigning_refusal t sets) (rows_in seen) ≡ None

pub updates_more : (t : Table) (sets : List Set) (seen : List Lying) (l : Lying) (changes new : List Change) (c : Change) → Updates t sets seen changes
    → c ≡ putting l.0 (assigned t sets l.1) → IsWrite c → assigning_refusal t sets l.1 ≡ None → new ≡ changes ++ c ∷ [] → Updates t sets (seen ++ l ∷ []) new
updates_more t sets seen l changes new c before is write accepted put = record {
  made =
      put ∙ ap (λ cs. cs ++ c ∷ []) before.made ∙ ap (λ d. map (λ l. putting l.0 (assigned t sets l.1)) seen ++ d ∷ []) is
      ∙ sym (map-append (λ (l : Lying). putting l.0 (assigned t sets l.1)) seen (l ∷ []));
  write = subst (Each IsWrite) (sym put) (each_push IsWrite changes c before.write write);
  accepted =
      ap (first_some (assigning_refusal t sets)) (map-append (λ (l : Lying). l.1) seen (l ∷ []))
      ∙ first_more (assigning_refusal t sets) (rows_in seen) l.1 before.accepted accepted;
}

first_row : (t : Table) (sets : List Set) (ls : List Lying) (i : ℕ) (l : Lying) (r : Reply) → i < length ls → l ≡ get_or ls i l
    → first_some (assigning_refusal t sets) (rows_in (take i ls)) ≡ None → assigning_refusal t sets l.1 ≡ Some r → first_some (assigning_refusal t sets) (rows_in ls) ≡ Some r
first_row t sets ls i l r lt is none some =
    first-map (λ (l : Lying). l.1) (assigning_refusal t sets) ls
    ∙ first_at (λ (l : Lying). assigning_refusal t sets l.1) ls i l r lt is (sym (first-map (λ (l : Lying). l.1) (assigning_refusal t sets) (take i ls)) ∙ none) some

pub refused_at : (t : Table) (sets : List Set) (ls : List Lying) (i : ℕ) (l : Lying) (e : SetFault) → i < length ls → l ≡ get_or ls i l
    → first_some (assigning_refusal t sets) (rows_in (take i ls)) ≡ None → IsReplyOf e (assigning_refusal t sets l.1)
    → IsReplyOf e (first_some (assigning_refusal t sets) (rows_in ls))
refused_at t sets ls i l fault.Overflow lt is none here = first_row t sets ls i l _ lt is none here
refused_at t sets ls i l fault.TooLong lt is none here = first_row t sets ls i l _ lt is none here
refused_at t sets ls i l fault.NoMemory lt is none here = tt

-- ---- through references

pub item_mapped : {A B : Type 0} (f : A → B) (xs : List A) (i : ℕ) (x : A) → i < length xs → x ≡ get_or xs i x → f x ≡ get_or (map f xs) i (f x)
item_mapped {A} {B} f xs i x lt is = ap f is ∙ go xs i lt
  where
    go : (xs : List A) (i : ℕ) → i < length xs → f (get_or xs i x) ≡ get_or (map f xs) i (f x)
    go [] i lt = absurd (omega (arith, lt))
    go (y ∷ ys) zero lt = refl
    go (y ∷ ys) (suc i) lt = go ys i (omega (arith, lt))

pub below_mapped : {A B : Type 0} (f : A → B) (xs : List A) (i : ℕ) → i < length xs → i < length (map f xs)
below_mapped {A} f xs i lt = subst (λ (n : ℕ). i < n) (sym (length-mapped f xs)) lt

pub updates_step : (t : Table) (sets : List Set) (ls : List Lying) (i : ℕ) (l : Lying) (changes new : List Change) (c : Change) → i < length ls → l ≡ get_or ls i l
    → Updates t sets (take i ls) changes → c ≡ putting l.0 (assigned t sets l.1) → IsWrite c → assigning_refusal t sets l.1 ≡ None → new ≡ changes ++ c ∷ []
    → Updates t sets (take (i + 1) ls) new
updates_step t sets ls i l changes new c lt at before is write accepted put =
    subst (λ (seen : List Lying). Updates t sets seen new) (sym (take_more ls i l lt at)) (updates_more t sets (take i ls) l changes new c before is write accepted put)

-- ---- changes that can be written

pub removing_writes : (t : Table) (ls : List Lying) → Each (IsFit t) ls → Each IsWrite (map (λ l. removing l.0) ls)
removing_writes t [] each = tt
removing_writes t (l ∷ ls) each = (((each.0.0, tt), (first_node l.0.space.area, each.0.1.0)), removing_writes t ls each.1)
