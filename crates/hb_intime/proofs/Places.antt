-- Where a transaction's first item stands in its caller's list, and that nothing is asked of it before.
use Rattle.std.proofs.Common.{◌≡◌, ◌∙◌, true, List, [], ◌∷◌, ◌++◌, Some, ap, append_assoc, length, map, refl, subst, sym}
use Rattle.std.specs.Prelude.{slice_get, ◌==◌}
use Rattle.std.specs.List.{list_all}
use Rattle.std.specs.Ordering.{nat_cmp}
use Rattle.std.proofs.lemmas.Bool.{and_parts, eqb-true}
use Rattle.hb_types.specs.declared.trail.Call.{Call}
use Rattle.hb_types.specs.Lists.{Ascends, IsIn}
use Rattle.hb_types.proofs.Ascending.{Has-front}
use Rattle.hb_types.proofs.PutLaws.{by_test}
use Rattle.hb_model.specs.Items.{Item, calls_of}
use Rattle.hb_disks.specs.Images.{Logs}
use Rattle.hb_law.specs.Histories.{Labelled, Trails}
use Rattle.hb_law.specs.Standing.{is_aside}
use Rattle.hb_law.specs.Transactions.{IsTxnOf, Txn, begins_of, caller_of, is_idle, own_items, tx_asked}
use Rattle.hb_coordlaws.specs.Ascending.{TransactionsAscend}
use Rattle.hb_parts.specs.Callings.{Callings}
use Rattle.hb_whose.proofs.Begins.{apart_in}
use Rattle.hb_whose.proofs.Currents.{begins_append}
use Rattle.hb_whose.proofs.Owners.{begins_ascend, begun_before}
use Rattle.hb_whose.proofs.Parts.{stands_at}
use Rattle.hb_whose.proofs.Told.{has_begin}
use Rattle.hb_steps.proofs.ItemCalls.{calls_append, calls_with, map_got}

-- ---- the first of its own items

pub record FirstOwn (stretch : List Item) (first : Item) (others : List Item) : Type 0 where
  pub idle : List Item
  pub rest : List Item
  pub parts : stretch ≡ idle ++ first ∷ rest
  pub none : calls_of idle ≡ []
  pub behind : calls_of rest ≡ calls_of others

no_calls : (i : Item) → is_idle i ≡ true → i.calls ≡ []
no_calls i e = nil i.calls (eqb-true (length i.calls) 0 (and_parts (length i.calls == 0) (list_all is_aside i.lines) e).0)
  where
    nil : (xs : List Call) → length xs ≡ 0 → xs ≡ []
    nil [] h = refl
    nil (x ∷ xs) h = absurd (cc h)

pub first_own : (stretch : List Item) (first : Item) (others : List Item) → own_items stretch ≡ first ∷ others → FirstOwn stretch first others
first_own [] first others e = absurd (nil_cons e)
  where
    nil_cons : [] ≡ first ∷ others → ⊥
    nil_cons h = cc
first_own (i ∷ is) first others e = by_test (is_idle i) (λ t. past t (first_own is first others (rw t at e))) (λ f. here (rw f at e))
  where
    past : is_idle i ≡ true → FirstOwn is first others → FirstOwn (i ∷ is) first others
    past t k =
        record {
          idle = i ∷ k.idle;
          rest = k.rest;
          parts = ap (λ l. i ∷ l) k.parts;
          none = ap (λ l. l ++ calls_of k.idle) (no_calls i t) ∙ k.none;
          behind = k.behind;
        }

    heads : (x y : Item) (xs ys : List Item) → x ∷ xs ≡ y ∷ ys → (x ≡ y) × (xs ≡ ys)
    heads x y xs ys e = (cc, cc)

    here : i ∷ own_items is ≡ first ∷ others → FirstOwn (i ∷ is) first others
    here q =
        let k = heads i first (own_items is) others q in
        record { idle = []; rest = is; parts = ap (λ z. z ∷ is) k.0; none = refl; behind = sym (calls_with is) ∙ ap calls_of k.1 }

-- ---- in its caller's list

-- the items before the first, and those behind it
pub record InList (list : List Item) (t : Txn) (first : Item) (others back : List Item) : Type 0 where
  pub before : List Item
  pub later : List Item
  pub parts : list ≡ before ++ first ∷ later
  pub later_calls : calls_of later ≡ calls_of others ++ calls_of back

module _ (lists : List (List Item)) (t : Txn) (x : IsTxnOf lists t) where
  pub in_list : InList (x.front ++ x.stretch ++ x.back) t x.first x.others x.back
  in_list =
      let f = first_own x.stretch x.first x.others x.own in
      record {
        before = x.front ++ f.idle;
        later = f.rest ++ x.back;
        parts = append_assoc x.front x.stretch x.back ∙ ap (λ l. x.front ++ (l ++ x.back)) f.parts ∙ shape x.front f.idle x.first f.rest x.back;
        later_calls = calls_append f.rest x.back ∙ ap (λ l. l ++ calls_of x.back) f.behind;
      }
    where
      shape : (f i : List Item) (x : Item) (r b : List Item) → f ++ ((i ++ x ∷ r) ++ b) ≡ (f ++ i) ++ x ∷ (r ++ b)
      shape f i x r b = ap (λ l. f ++ l) (append_assoc i (x ∷ r) b) ∙ sym (append_assoc f i (x ∷ (r ++ b)))

  module _ (ta : TransactionsAscend) (base logs : Logs) (trails : Trails) (fes : List Labelled) (k : Callings base logs trails (map calls_of lists)) (at : slice_get trails 0 ≡ Some fes)
    where
      abbrev all : List Item
      all = x.front ++ x.stretch ++ x.back

      its : slice_get (map calls_of lists) (caller_of t.owner) ≡ Some (calls_of (x.front ++ x.stretch ++ x.back))
      its = map_got calls_of lists (caller_of t.owner) (x.front ++ x.stretch ++ x.back) x.parts

      begun_first : IsIn t.tx (begins_of (calls_of (x.first ∷ in_list.later)))
      begun_first =
          subst (IsIn t.tx) (sym (begins_append x.first.calls (calls_of in_list.later)))
          (Has-front (λ y. y ≡ t.tx) (begins_of x.first.calls) (begins_of (calls_of in_list.later))
          (subst (λ l. IsIn t.tx (begins_of l)) (sym x.begins.parts) (has_begin t.tx x.begins.before x.begins.begin x.begins.more x.begins.begun)))

      calls_are : calls_of (x.front ++ x.stretch ++ x.back) ≡ calls_of in_list.before ++ calls_of (x.first ∷ in_list.later)
      calls_are = ap calls_of in_list.parts ∙ calls_append in_list.before (x.first ∷ in_list.later)

      ascends : Ascends nat_cmp (begins_of (calls_of in_list.before) ++ begins_of (calls_of (x.first ∷ in_list.later)))
      ascends =
          subst (Ascends nat_cmp) (ap begins_of calls_are ∙ begins_append (calls_of in_list.before) (calls_of (x.first ∷ in_list.later)))
          (begins_ascend ta base logs trails (map calls_of lists) k fes at (caller_of t.owner) (calls_of (x.front ++ x.stretch ++ x.back)) its)

      -- before its first item nothing is asked of it
      pub none_before : (c : Call) → IsIn c (calls_of in_list.before) → tx_asked c.request ≡ Some t.tx → ⊥
      none_before c h q =
          let s = stands_at c (calls_of in_list.before) h in
          let whole : calls_of (x.front ++ x.stretch ++ x.back) ≡ s.front ++ c ∷ (s.back ++ calls_of (x.first ∷ in_list.later)) =
          calls_are ∙ ap (λ l. l ++ calls_of (x.first ∷ in_list.later)) s.parts ∙ append_assoc s.front (c ∷ s.back) (calls_of (x.first ∷ in_list.later)) in
          let begun = begun_before ta base logs trails (map calls_of lists) k fes at (caller_of t.owner) (calls_of (x.front ++ x.stretch ++ x.back)) s.front c
          (s.back ++ calls_of (x.first ∷ in_list.later)) t.tx its whole q in
          apart_in (begins_of (calls_of in_list.before)) (begins_of (calls_of (x.first ∷ in_list.later))) t.tx ascends
          (subst (λ l. IsIn t.tx (begins_of l)) (sym s.parts)
          (subst (IsIn t.tx) (sym (begins_append s.front (c ∷ s.back))) (Has-front (λ y. y ≡ t.tx) (begins_of s.front) (begins_of (c ∷ s.back)) begun)))
          begun_first
