-- Who wrote at a place, where the log grows by a record.
use Rattle.std.proofs.Common.{◌≡◌, ◌≢◌, ℕ, true, refl, sym, subst, ◌∙◌, ap, List, [], ◌∷◌, ◌++◌, append-nil}
use Rattle.std.specs.Prelude.{filter}
use Rattle.hb_types.specs.declared.change.LogItem.{LogItem}
use Rattle.hb_types.specs.declared.change.LogItem.TheVariants as item
use Rattle.hb_types.specs.declared.places.Place.{Place}
use Rattle.hb_types.specs.Lists.{Each, Has}
use Rattle.hb_types.specs.Put.{touches}
use Rattle.hb_types.proofs.Ascending.{pick, Each-append, Each-in}
use Rattle.hb_types.proofs.PutLaws.{by_test}
use Rattle.hb_disks.specs.Redo.{Prepared}
use Rattle.hb_disks.specs.Says.{prepares, commits, ch, writers}
use Rattle.hb_disks.specs.LogRules.{PrepareFits}
use Rattle.hb_disks.proofs.Fold.{ch-append}
use Rattle.hb_loglaws.proofs.Writers.{IsWritten, same_ch, writers-more}

-- a vote leaves the writers
pub writers-vote : (l : List LogItem) (p : Prepared) (i : LogItem) (x : Place) → prepares (i ∷ []) ≡ p ∷ [] → commits (i ∷ []) ≡ [] → PrepareFits l p → IsWritten l
    → writers (l ++ i ∷ []) x ≡ writers l x
writers-vote l p i x ps cs f w =
    writers-more l i x (Each-append _ (commits l) (commits (i ∷ [])) (Each-in _ (commits l) (λ c h. other_ch c.0 (other c.0 (w.committed c h)))) (subst (Each _) (sym cs) tt))
    ∙ ap (λ z. writers l x ++ filter (λ c. touches x (ch l c.0)) z) cs ∙ append-nil (writers l x)
  where
    other_ch : (t : ℕ) → p.tx ≢ t → ch (l ++ i ∷ []) t ≡ ch l t
    other_ch t n = ch-append l (i ∷ []) t (subst (Each (λ q. q.tx ≢ t)) (sym ps) (n, tt))

    other : (t : ℕ) → Has (λ q. q.tx ≡ t) (prepares l) → p.tx ≢ t
    other t h e = let b = pick (λ q. q.tx ≡ t) (λ q. q.tx ≢ p.tx) (prepares l) h f.first in b.other (b.one ∙ sym e)

pub writers-abort : (l : List LogItem) (tx : ℕ) (x : Place) → writers (l ++ item.Abort (record { 0 = tx }) ∷ []) x ≡ writers l x
writers-abort l tx x =
    writers-more l (item.Abort (record { 0 = tx })) x (Each-in _ (commits l ++ []) (λ c i. same_ch l (item.Abort (record { 0 = tx })) refl c.0)) ∙ append-nil (writers l x)

-- a commit of a transaction without a change at the place leaves the writers there
pub writers-commit : (l : List LogItem) (tx n : ℕ) (x : Place) → (touches x (ch l tx) ≡ true → ⊥)
    → writers (l ++ item.Commit (record { 0 = tx }) (record { 0 = n }) ∷ []) x ≡ writers l x
writers-commit l tx n x none =
    writers-more l (item.Commit (record { 0 = tx }) (record { 0 = n })) x
    (Each-in _ (commits l ++ (tx, n) ∷ []) (λ c i. same_ch l (item.Commit (record { 0 = tx }) (record { 0 = n })) refl c.0)) ∙ left
  where
    left : writers l x ++ filter (λ c. touches x (ch l c.0)) ((tx, n) ∷ []) ≡ writers l x
    left = by_test (touches x (ch l tx)) (λ t. absurd (none t)) (λ f. rw f (append-nil (writers l x)))
