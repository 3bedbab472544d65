-- Items of works whose places ascend are placed.
use Rattle.std.proofs.Common.{◌≡◌, ◌⊎◌, ◌∙◌, ℕ, ◌≤◌, ◌<◌, List, [], ◌∷◌, ◌++◌, ap, arith, inl, inr, refl, subst, sym}
use Rattle.std.specs.Prelude.{⊤, flat_map}
use Rattle.hb_types.specs.Lists.{Each}
use Rattle.hb_model.specs.declared.reply.Reply.{Reply}
use Rattle.hb_model.specs.declared.statement.Statement.{Statement}
use Rattle.hb_model.specs.Items.{Item, Doing, sql, tending}
use Rattle.hb_law.specs.Composition.{ArePlaced}
use Rattle.hb_law.specs.Transactions.{IsOfStatements}
use Rattle.hb_itemlaws.specs.Dividing.{AreItemsOf, Given}
use Rattle.hb_lives.specs.Lives.{Ascending, last_of}

-- each item is of no work, or of a statement whose place is above the one before
abbrev pub Rises : ℕ → List Item → Type 0
Rises from [] = ⊤
Rises from (i ∷ is) = ((i.doing ≡ tending) × Rises from is) ⊎ ((from < i.place) × (st : Statement) × (i.doing ≡ sql st) × Rises i.place is)

pub rises_placed : (from : ℕ) (before : Doing) (items : List Item) → Rises from items → ArePlaced from before items
rises_placed from before [] h = tt
rises_placed from before (i ∷ is) (inl h) =
    subst (λ d. ArePlaced from before (record { place = i.place; doing = d; calls = i.calls; lines = i.lines } ∷ is)) (sym h.0) (tt, rises_placed from before is h.1)
rises_placed from before (i ∷ is) (inr h) =
    subst (λ d. ArePlaced from before (record { place = i.place; doing = d; calls = i.calls; lines = i.lines } ∷ is)) (sym h.2) (inl h.0, rises_placed i.place (sql h.1) is h.3)

below : (a b c : ℕ) → a ≤ b → b < c → a < c
below a b c x y = omega (arith, x, y)

pub rises_below : (a b : ℕ) (items : List Item) → a ≤ b → Rises b items → Rises a items
rises_below a b [] le h = tt
rises_below a b (i ∷ is) le (inl h) = inl (h.0, rises_below a b is le h.1)
rises_below a b (i ∷ is) le (inr h) = inr (below a b i.place le h.0, h.1, h.2, h.3)

same_most : (n : ℕ) → n ≤ n
same_most n = omega arith

over : (a b c : ℕ) → a < b → b ≤ c → a ≤ c
over a b c x y = omega (arith, x, y)

pub last_above : (from : ℕ) (works : List Given) → Ascending from works → from ≤ last_of from works
last_above from [] a = same_most from
last_above from (w ∷ ws) a = over from w.0 (last_of w.0 ws) a.0 (last_above w.0 ws a.1)

pub rises_items : (from : ℕ) (works : List Given) (replies : List Reply) (items rest : List Item) → Ascending from works → AreItemsOf works replies items → Rises (last_of from works) rest
    → Rises from (items ++ rest)
rises_items from ws [] [] rest a e h = rises_below from (last_of from ws) rest (last_above from ws a) h
rises_items from (w ∷ ws) (r ∷ rs) (i ∷ is) rest a e h =
    inr (subst (λ n. from < n) (sym e.0.0) a.0, w.1, e.0.1, subst (λ n. Rises n (is ++ rest)) (sym e.0.0) (rises_items w.0 ws rs is rest a.1 e.1 h))
rises_items from [] (r ∷ rs) [] rest a e h = absurd e
rises_items from [] (r ∷ rs) (i ∷ is) rest a e h = absurd e
rises_items from (w ∷ ws) (r ∷ rs) [] rest a e h = absurd e
rises_items from [] [] (i ∷ is) rest a e h = absurd e
rises_items from (w ∷ ws) [] (i ∷ is) rest a e h = absurd e

pub shown_items : (works : List Given) (replies : List Reply) (items : List Item) → AreItemsOf works replies items → flat_map (λ i. i.lines) items ≡ replies
shown_items ws [] [] e = refl
shown_items (w ∷ ws) (r ∷ rs) (i ∷ is) e = ap (λ l. l ++ flat_map (λ (j : Item). j.lines) is) e.0.2 ∙ ap (λ l. r ∷ l) (shown_items ws rs is e.1)
shown_items [] (r ∷ rs) [] e = absurd e
shown_items [] (r ∷ rs) (i ∷ is) e = absurd e
shown_items (w ∷ ws) (r ∷ rs) [] e = absurd e
shown_items [] [] (i ∷ is) e = absurd e
shown_items (w ∷ ws) [] (i ∷ is) e = absurd e

pub of_statements : (works : List Given) (replies : List Reply) (items : List Item) → AreItemsOf works replies items → Each (λ i. IsOfStatements i.doing) items
of_statements ws [] [] e = tt
of_statements (w ∷ ws) (r ∷ rs) (i ∷ is) e = (subst IsOfStatements (sym e.0.1) tt, of_statements ws rs is e.1)
of_statements [] (r ∷ rs) [] e = absurd e
of_statements [] (r ∷ rs) (i ∷ is) e = absurd e
of_statements (w ∷ ws) (r ∷ rs) [] e = absurd e
of_statements [] [] (i ∷ is) e = absurd e
of_statements (w ∷ ws) [] (i ∷ is) e = absurd e
