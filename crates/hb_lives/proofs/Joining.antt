-- All lists are told where each is.
use Rattle.std.proofs.Common.{◌≡◌, ◌∙◌, ℕ, ◌+◌, List, [], ◌∷◌, ◌++◌, Some, zero, suc, ap, arith, inl, inr, refl, subst, sym}
use Rattle.std.specs.Prelude.{slice_get}
use Rattle.hb_types.specs.Lists.{Each, Has, IsIn}
use Rattle.hb_types.proofs.Ascending.{Each-append, Each-of, Has-back, Has-front}
use Rattle.hb_model.specs.Items.{Item, calls_of}
use Rattle.hb_law.specs.Transactions.{IsRightTxn, IsSomebodys, IsTxnOf, OutcomesTold, ShowsAnswered, TellsOutcome, Txn, begins_of, caller_of}
use Rattle.hb_lives.specs.Joining.{IsOperators, Listed, ListsAreTold, next, none}
use Rattle.hb_lives.proofs.Currents.{begins_append}

operator_begins : (txns : List Txn) (items : List Item) → Each (IsOperators txns) items → begins_of (calls_of items) ≡ []
operator_begins txns [] h = refl
operator_begins txns (i ∷ is) h = begins_append i.calls (calls_of is) ∙ ap (λ l. l ++ begins_of (calls_of is)) h.0.none ∙ operator_begins txns is h.1

-- of some as of all
among_front : (own txns : List Txn) (caller : ℕ) (i : Item) → IsSomebodys own caller i → IsSomebodys (own ++ txns) caller i
among_front own txns caller i (inl h) = inl (Has-front (λ (t : Txn). (caller_of t.owner ≡ caller) × IsIn i t.items) own txns h)
among_front own txns caller i (inr l) = inr l

among_back : (own txns : List Txn) (caller : ℕ) (i : Item) → IsSomebodys txns caller i → IsSomebodys (own ++ txns) caller i
among_back own txns caller i (inl h) = inl (Has-back (λ (t : Txn). (caller_of t.owner ≡ caller) × IsIn i t.items) own txns h)
among_back own txns caller i (inr l) = inr l

first_place : (session : ℕ) → session + 1 ≡ session + 0 + 1
first_place session = omega arith

next_place : (session n : ℕ) → session + 1 + n + 1 ≡ session + suc n + 1
next_place session n = omega arith

module _ (back_ends : ℕ) (lists : List (List Item)) where
  each_txn : (session : ℕ) (rest : List (List Item)) (txns : List Txn) → Listed back_ends lists session rest txns → Each (IsTxnOf lists) txns
  each_txn session _ _ none = tt
  each_txn session _ _ (next {rest = rest} {own = own} {txns = txns} t more) = Each-append (IsTxnOf lists) own txns t.each (each_txn (session + 1) rest txns more)

  each_right : (session : ℕ) (rest : List (List Item)) (txns : List Txn) → Listed back_ends lists session rest txns → Each (IsRightTxn back_ends) txns
  each_right session _ _ none = tt
  each_right session _ _ (next {rest = rest} {own = own} {txns = txns} t more) = Each-append (IsRightTxn back_ends) own txns t.right (each_right (session + 1) rest txns more)

  abbrev AreBegunBy : List Txn → List Item → Type 0
  AreBegunBy txns list = Each (λ tx. Has (λ t. t.tx ≡ tx) txns) (begins_of (calls_of list))

  all_begun : (session : ℕ) (rest : List (List Item)) (txns : List Txn) → Listed back_ends lists session rest txns → Each (AreBegunBy txns) rest
  all_begun session _ _ none = tt
  all_begun session _ _ (next {items = items} {rest = rest} {own = own} {txns = txns} t more) = (
    Each-of (λ n. Has (λ (u : Txn). u.tx ≡ n) own) (λ n. Has (λ (u : Txn). u.tx ≡ n) (own ++ txns)) (begins_of (calls_of items))
        (λ n h. Has-front (λ (u : Txn). u.tx ≡ n) own txns h) t.all,
    Each-of (AreBegunBy txns) (AreBegunBy (own ++ txns)) rest
        (λ list e. Each-of (λ n. Has (λ (u : Txn). u.tx ≡ n) txns) (λ n. Has (λ (u : Txn). u.tx ≡ n) (own ++ txns)) (begins_of (calls_of list))
        (λ n h. Has-back (λ (u : Txn). u.tx ≡ n) own txns h) e)
        (all_begun (session + 1) rest txns more),
  )

  somebodys : (session : ℕ) (rest : List (List Item)) (txns : List Txn) → Listed back_ends lists session rest txns → (n : ℕ) (list : List Item) → slice_get rest n ≡ Some list
      → Each (IsSomebodys txns (session + n + 1)) list
  somebodys session _ _ none n list e = absurd (cc e)
  somebodys session _ _ (next {items = items} {own = own} {txns = txns} t more) zero list e =
      subst (λ l. Each (IsSomebodys (own ++ txns) (session + 0 + 1)) l) (some_same items list e)
      (subst (λ c. Each (IsSomebodys (own ++ txns) c) items) (first_place session)
      (Each-of (IsSomebodys own (session + 1)) (IsSomebodys (own ++ txns) (session + 1)) items (among_front own txns (session + 1)) t.none_left))
    where
      some_same : (a b : List Item) → Some a ≡ Some b → a ≡ b
      some_same a b e = cc e
  somebodys session _ _ (next {rest = rest} {own = own} {txns = txns} t more) (suc n) list e =
      subst (λ c. Each (IsSomebodys (own ++ txns) c) list) (next_place session n)
      (Each-of (IsSomebodys txns (session + 1 + n + 1)) (IsSomebodys (own ++ txns) (session + 1 + n + 1)) list (among_back own txns (session + 1 + n + 1))
      (somebodys (session + 1) rest txns more n list e))

  all_numbers : (session : ℕ) (rest : List (List Item)) (txns : List Txn) → Listed back_ends lists session rest txns → Each (Each ShowsAnswered) rest
  all_numbers session _ _ none = tt
  all_numbers session _ _ (next {rest = rest} {txns = txns} t more) = (t.numbers, all_numbers (session + 1) rest txns more)

  all_outcomes : (others : List Txn) (session : ℕ) (rest : List (List Item)) (txns : List Txn) → Listed back_ends lists session rest txns → Each (OutcomesTold others) rest
  all_outcomes others session _ _ none = tt
  all_outcomes others session _ _ (next {rest = rest} {txns = txns} t more) = (t.outcomes others, all_outcomes others (session + 1) rest txns more)

  left_of : (rest : List (List Item)) (txns : List Txn) (operator : List Item) → Listed back_ends lists 0 rest txns → Each (IsOperators txns) operator → (caller : ℕ) (list : List Item)
      → slice_get (operator ∷ rest) caller ≡ Some list → Each (IsSomebodys txns caller) list
  left_of rest txns operator h op zero list e =
      subst (Each (IsSomebodys txns 0)) (some_same operator list e) (Each-of (IsOperators txns) (IsSomebodys txns 0) operator (λ i o. inr o.nothing_done) op)
    where
      some_same : (a b : List Item) → Some a ≡ Some b → a ≡ b
      some_same a b e = cc e
  left_of rest txns operator h op (suc n) list e = subst (λ c. Each (IsSomebodys txns c) list) (one_more n) (somebodys 0 rest txns h n list e)
    where
      one_more : (n : ℕ) → 0 + n + 1 ≡ suc n
      one_more n = omega arith

pub lists_told : ListsAreTold
lists_told back_ends operator lists txns op h =
    let all : List (List Item) = operator ∷ lists in
    record {
      txns = record {
        each = each_txn back_ends all 0 lists txns h;
        all = (subst (Each (λ n. Has (λ (t : Txn). t.tx ≡ n) txns)) (sym (operator_begins txns operator op)) tt, all_begun back_ends all 0 lists txns h);
        none_left = left_of back_ends all lists txns operator h op;
      };
      right = each_right back_ends all 0 lists txns h;
      outcomes = (Each-of (IsOperators txns) (λ i. Each (TellsOutcome txns i.calls) i.lines) operator (λ i o. o.outcomes) op, all_outcomes back_ends all txns 0 lists txns h);
      numbers = (Each-of (IsOperators txns) ShowsAnswered operator (λ i o. o.numbers) op, all_numbers back_ends all 0 lists txns h);
    }
