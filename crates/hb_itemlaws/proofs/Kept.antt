-- The items of a division that are not idle are a right transaction.
use Rattle.std.proofs.Common.{◌≡◌, inl, ℕ, ◌+◌, List, [], ◌∷◌, ◌++◌, length, Bool, true, false, refl, subst, sym, ap, ◌∙◌, arith}
use Rattle.std.specs.Prelude.{IsTrue, ◌≢◌, if◌then◌else◌}
use Rattle.std.proofs.lemmas.Bool.{false≢true}
use Rattle.std.proofs.lemmas.List.{append-nil}
use Rattle.hb_types.specs.declared.names.Owner.{Owner}
use Rattle.hb_types.specs.declared.trail.Call.{Call}
use Rattle.hb_types.specs.Lists.{Each}
use Rattle.hb_types.proofs.Ascending.{Each-append, Each-back, Each-front}
use Rattle.hb_model.specs.declared.reply.Reply.{Reply}
use Rattle.hb_model.specs.declared.statement.Statement.{Statement}
use Rattle.hb_model.specs.declared.statement.Statement.TheVariants as statement
use Rattle.hb_model.specs.Items.{Doing, Item, Spent, spending, sql, tending}
use Rattle.hb_faithful.specs.Planned.{is_planned}
use Rattle.hb_law.specs.Transactions.{AllAnswered, AreRight, BeginsWell, FirstBeginsWell, IsBoundItem, IsOfStatements, NamesOwner, is_idle, own_items}
use Rattle.hb_itemlaws.specs.Dividing.{AreItemsOf, Divided, Given}
use Rattle.hb_itemlaws.specs.GivingUp.{Closed, closing}
use Rattle.hb_itemlaws.specs.Owning.{AreOwn}
use Rattle.hb_itemlaws.specs.Txns.{ClosedTxnsAreRight, NameOwner, TellsOwn, TxnsAreRight}
use Rattle.hb_itemlaws.proofs.Idle.{idle_asks_none}
use Rattle.hb_itemlaws.proofs.Showing.{items_tell, line_tells, outside_tells}

-- ---- what holds of each item holds of those that are not idle

module _ (P : Item → Type 0) where
  each_kept : (items : List Item) → Each P items → Each P (own_items items)
  each_kept [] h = tt
  each_kept (i ∷ is) h = one (is_idle i) (each_kept is h.1)
    where
      one : (b : Bool) → Each P (own_items is) → Each P (if b then own_items is else i ∷ own_items is)
      one true more = more
      one false more = (h.0, more)

-- ---- right items

unspent : (spent : Spent) → spending spent [] ≡ spent
unspent spent =
    let b : spent.bytes + 0 ≡ spent.bytes = omega arith in let l : spent.locks + 0 ≡ spent.locks = omega arith in λ i. record { bytes = b i; locks = l i }

module _ (back_ends : ℕ) where
  right_kept : (spent : Spent) (items : List Item) → AreRight back_ends spent items → AreRight back_ends spent (own_items items)
  right_kept spent [] h = tt
  right_kept spent (i ∷ is) h = one (is_idle i) refl (right_kept (spending spent i.calls) is h.1)
    where
      one : (b : Bool) → is_idle i ≡ b → AreRight back_ends (spending spent i.calls) (own_items is) → AreRight back_ends spent (if b then own_items is else i ∷ own_items is)
      one true e more = subst (λ s. AreRight back_ends s (own_items is)) (ap (spending spent) (idle_asks_none i e) ∙ unspent spent) more
      one false e more = (h.0, more)

-- ---- items of statements, each with its reply

all_statements : (works : List Given) (rs : List Reply) (items : List Item) → AreItemsOf works rs items → Each (λ i. IsOfStatements i.doing) items
all_statements works rs [] h = tt
all_statements (w ∷ ws) (r ∷ rs) (i ∷ is) h = (subst IsOfStatements (sym h.0.1) tt, all_statements ws rs is h.1)
all_statements [] [] (i ∷ is) h = absurd h
all_statements [] (r ∷ rs) (i ∷ is) h = absurd h
all_statements (w ∷ ws) [] (i ∷ is) h = absurd h

abbrev HasOneLine : Item → Type 0
HasOneLine i = length i.lines ≡ 1

one_line_each : (works : List Given) (rs : List Reply) (items : List Item) → AreItemsOf works rs items → Each HasOneLine items
one_line_each works rs [] h = tt
one_line_each (w ∷ ws) (r ∷ rs) (i ∷ is) h = (ap length h.0.2, one_line_each ws rs is h.1)
one_line_each [] [] (i ∷ is) h = absurd h
one_line_each [] (r ∷ rs) (i ∷ is) h = absurd h
one_line_each (w ∷ ws) [] (i ∷ is) h = absurd h

answered_by_line : (items : List Item) → Each HasOneLine items → AllAnswered items
answered_by_line [] h = tt
answered_by_line (i ∷ []) h = let one : length i.lines ≡ 1 = h.0 in omega (arith, one)
answered_by_line (i ∷ j ∷ is) h = (h.0, answered_by_line (j ∷ is) h.1)

-- ---- whom they name

named_lines : (owner : Owner) (works : List Given) (rs : List Reply) (items : List Item) → AreItemsOf works rs items → NameOwner owner rs → Each (λ i. Each (NamesOwner owner) i.lines) items
named_lines owner works rs [] h n = tt
named_lines owner (w ∷ ws) (r ∷ rs) (i ∷ is) h n = (subst (Each (NamesOwner owner)) (sym h.0.2) (n.0, tt), named_lines owner ws rs is h.1 n.1)
named_lines owner [] [] (i ∷ is) h n = absurd h
named_lines owner [] (r ∷ rs) (i ∷ is) h n = absurd h
named_lines owner (w ∷ ws) [] (i ∷ is) h n = absurd h

-- ---- which begins

planned_begins : (st : Statement) → IsTrue (is_planned st) → BeginsWell (sql st)
planned_begins statement.Commit p = absurd (false≢true p)
planned_begins statement.Rollback p = absurd (false≢true p)
planned_begins _ p = tt

abbrev doing_in : List Item → Doing → Doing
doing_in [] other = other
doing_in (i ∷ is) other = i.doing

-- the first of these items is of the first statement
first_is : (w : Given) (ws : List Given) (rs : List Reply) (items back : List Item) → AreItemsOf (w ∷ ws) rs items → (items ≡ [] → ⊥) → (i : Item) (is : List Item) → items ++ back ≡ i ∷ is
    → i.doing ≡ sql w.1
first_is w ws rs [] back h some i is e = absurd (some refl)
first_is w ws [] (x ∷ xs) back h some i is e = absurd h
first_is w ws (r ∷ rs) (x ∷ xs) back h some i is e = sym (ap (λ zs. doing_in zs x.doing) e) ∙ h.0.1

module _ (tx : ℕ) (w : Given) (ws : List Given) (rs : List Reply) (items back : List Item) (planned : IsTrue (is_planned w.1)) (each : AreItemsOf (w ∷ ws) rs items) (own : AreOwn tx (items ++ back)) where
  begins_well : (items ≡ [] → ⊥) → FirstBeginsWell (own_items (items ++ back))
  begins_well some =
      subst FirstBeginsWell (sym own.own) (subst BeginsWell (sym (first_is w ws rs items back each some own.first own.more own.parts)) (planned_begins w.1 planned))

-- ---- right transactions

module _ (back_ends tx : ℕ) (owner : Owner) (w : Given) (ws : List Given) (calls : List Call) (replies : List Reply) (planned : IsTrue (is_planned w.1)) where
  module _ (d : Divided back_ends (w ∷ ws) calls replies) (own : AreOwn tx d.items) where
    some_item : d.items ≡ [] → ⊥
    some_item e = absurd (cc (sym own.parts ∙ e))

    begun_well : FirstBeginsWell (own_items d.items)
    begun_well =
        subst (λ zs. FirstBeginsWell (own_items zs)) (append-nil d.items)
        (begins_well tx w ws replies d.items [] planned d.each (subst (AreOwn tx) (sym (append-nil d.items)) own) some_item)

  module _ (place : ℕ) (why : Reply) (c : Closed back_ends place (w ∷ ws) calls replies why) where
    abbrev whole : List Item
    whole = c.items ++ closing place c.last why ∷ []

    some_reply : (rs : List Reply) → (rs ≢ []) → AreItemsOf (w ∷ ws) rs [] → ⊥
    some_reply [] n h = n refl
    some_reply (r ∷ rs) n h = h

    some_closed : replies ≢ [] → c.items ≡ [] → ⊥
    some_closed n e = some_reply replies n (subst (AreItemsOf (w ∷ ws) replies) e c.each)

    closed_names : NameOwner owner (replies ++ why ∷ []) → Each (λ i. Each (NamesOwner owner) i.lines) whole
    closed_names n =
        Each-append (λ (i : Item). Each (NamesOwner owner) i.lines) c.items (closing place c.last why ∷ [])
        (named_lines owner (w ∷ ws) replies c.items c.each (Each-front (NamesOwner owner) replies (why ∷ []) n)) (Each-back (NamesOwner owner) replies (why ∷ []) n, tt)

pub txns_right : TxnsAreRight
txns_right back_ends tx owner w ws calls replies planned n d own = record {
  own = own;
  right = record {
    right = λ decided sys. right_kept back_ends _ d.items d.right;
    bound = each_kept IsBoundItem d.items d.bound;
    kinds = inl (
      each_kept (λ i. IsOfStatements i.doing) d.items (all_statements (w ∷ ws) replies d.items d.each),
      answered_by_line (own_items d.items) (each_kept HasOneLine d.items (one_line_each (w ∷ ws) replies d.items d.each)),
    );
    named = each_kept (λ i. Each (NamesOwner owner) i.lines) d.items (named_lines owner (w ∷ ws) replies d.items d.each n);
    begins = begun_well back_ends tx owner w ws calls replies planned d own;
  };
  tells = items_tell (w ∷ ws) replies d.items d.each d.bound;
}

-- a rolling back behind them, with its line
pub closed_txns_right : ClosedTxnsAreRight
closed_txns_right back_ends tx place owner w ws calls replies why planned outside some n c own =
    let closes : List Item = closing place c.last why ∷ [] in
    let items : List Item = c.items ++ closes in
    record {
      own = own;
      right = record {
        right = λ decided sys. right_kept back_ends _ items c.right;
        bound = each_kept IsBoundItem items c.bound;
        kinds = inl (
          each_kept (λ i. IsOfStatements i.doing) items (Each-append (λ (i : Item). IsOfStatements i.doing) c.items closes (all_statements (w ∷ ws) replies c.items c.each) (tt, tt)),
          answered_by_line (own_items items) (each_kept HasOneLine items (Each-append HasOneLine c.items closes (one_line_each (w ∷ ws) replies c.items c.each) (refl, tt))),
        );
        named = each_kept (λ i. Each (NamesOwner owner) i.lines) items (closed_names back_ends tx owner w ws calls replies planned place why c n);
        begins = begins_well tx w ws replies c.items closes planned c.each own (some_closed back_ends tx owner w ws calls replies planned place why c some);
      };
      tells = Each-append TellsOwn c.items closes (items_tell (w ∷ ws) replies c.items c.each (Each-front IsBoundItem c.items closes c.bound))
          (line_tells place tending c.last why (outside_tells c.last why outside), tt);
    }
