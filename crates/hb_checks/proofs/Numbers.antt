-- A table's name keeps its number over each step, and over all.
use Rattle.std.proofs.Common.{◌≡◌, ◌⊎◌, ◌∙◌, ℕ, ◌+◌, Bool, List, [], ◌∷◌, ◌++◌, Some, ap, inl, inr, refl, subst, sym}
use Rattle.std.specs.Prelude.{find}
use Rattle.std.specs.Str.{bytes_eq}
use Rattle.hb_types.specs.declared.entry.Entry.{Entry}
use Rattle.hb_types.proofs.PutLaws.{by_test}
use Rattle.hb_model.specs.declared.statement.Statement.{Statement}
use Rattle.hb_model.specs.Alone.{alone_from}
use Rattle.hb_model.specs.Does.{does}
use Rattle.hb_model.specs.Items.{Item}
use Rattle.hb_model.specs.Kept.{NamesStay}
use Rattle.hb_model.specs.State.{Spread, State}
use Rattle.hb_law.specs.RunAlone.{RunsAlone, SettlesOne}
use Rattle.hb_parts.specs.Turning.{ChainsKeepNumbers, NumbersStay, StepsKeepNumbers}

-- ---- one after another

stay : (s : State) → NumbersStay s s
stay s = record { numbers = λ name x h. (x, h, refl) }

then_stay : (s t u : State) → NumbersStay s t → NumbersStay t u → NumbersStay s u
then_stay s t u a b =
    record {
      numbers = λ name x h.
          let y = a.numbers name x h in
          let z = b.numbers name y.0 y.1 in
          (z.0, z.1, z.2 ∙ y.2);
    }

-- ---- statements

abbrev NamesStayAlways : Type 0
NamesStayAlways = (back_ends spent : ℕ) (s : State) (full : Bool) (st : Statement) → NamesStay s (does back_ends s spent full st).state

alone_stays : NamesStayAlways → (count : ℕ) (s : State) (spent : ℕ) (sts : List (Statement × Bool)) → NumbersStay s (alone_from count s spent sts).state
unfolding alone_from
alone_stays names count s spent [] = stay s
alone_stays names count s spent (st ∷ sts) =
    let e = does count s spent st.1 st.0 in
    then_stay s e.state (alone_from count e.state (spent + e.bytes) sts).state (record { numbers = (names count spent s st.1 st.0).numbers })
    (alone_stays names count e.state (spent + e.bytes) sts)

runs_stay : NamesStayAlways → (count : ℕ) (items : List Item) (s t : State) → RunsAlone count items s t → NumbersStay s t
runs_stay names count items s t r = subst (NumbersStay s) r.state (alone_stays names count s 0 _)

-- ---- turns

-- of a list in which one spread got other entries, the same are found
replaced : (name : List ℕ) (es : List Entry) (front : List Spread) (p : Spread) (back : List Spread) (x : Spread) → find (λ t. bytes_eq t.name name) (front ++ p ∷ back) ≡ Some x
    → (y : Spread) × (find (λ t. bytes_eq t.name name) (front ++ (record p { entries = es }) ∷ back) ≡ Some y) × (y.number ≡ x.number)
replaced name es [] p back x h =
    by_test (bytes_eq p.name name)
    (λ t. (record p { entries = es }, rw t refl, ap (λ z. z.number) (some_is p x (rw t at h))))
    (λ f. (x, rw f (rw f at h), refl))
  where
    some_is : (x y : Spread) → Some x ≡ Some y → x ≡ y
    some_is x y h = cc
replaced name es (q ∷ qs) p back x h =
    by_test (bytes_eq q.name name)
    (λ t. (x, rw t (rw t at h), refl))
    (λ f. let k = replaced name es qs p back x (rw f at h) in (k.0, rw f k.1, k.2))

settled_stays : (table : List ℕ) (s t : State) → SettlesOne table s t → NumbersStay s t
settled_stays table s t z =
    record {
      numbers = λ name x h.
          let k = replaced name _ z.front z.spread z.back x (subst (λ l. find (λ u. bytes_eq u.name name) l ≡ Some x) z.before h) in
          (k.0, subst (λ l. find (λ u. bytes_eq u.name name) l ≡ Some k.0) (sym z.after) k.1, k.2);
    }

same_layout : (s t : State) → t.layout ≡ s.layout → NumbersStay s t
same_layout s t e = record { numbers = λ name x h. (x, subst (λ l. find (λ u. bytes_eq u.name name) l.spreads ≡ Some x) (sym e) h, refl) }

moves_stay : (table : List ℕ) (s t : State) → (t.layout ≡ s.layout) ⊎ SettlesOne table s t → NumbersStay s t
moves_stay table s t (inl e) = same_layout s t e
moves_stay table s t (inr z) = settled_stays table s t z

-- ---- steps

pub steps_stay : NamesStayAlways → StepsKeepNumbers
steps_stay names count items s t f g (inl k) = runs_stay names count items s t k.1
steps_stay names count items s t f g (inr k) = moves_stay k.0 s t k.5.layout

pub chains_stay : StepsKeepNumbers → ChainsKeepNumbers
chains_stay steps logs txns front [] s t e = subst (NumbersStay s) e (stay s)
chains_stay steps logs txns front (d ∷ ds) s t c =
    then_stay s c.0.after t (steps _ c.0.txn.items s c.0.after _ _ c.0.steps) (chains_stay steps logs txns (front ++ d ∷ []) ds c.0.after t c.1)
