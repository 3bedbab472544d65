-- Rows of a family behind changes of one table on the back ends.
use Rattle.std.proofs.Common.{◌≡◌, ℕ, zero, suc, ◌≤◌, ◌<◌, [], ◌∷◌, length, false, refl, ap, ◌∙◌, arith}
use Rattle.std.specs.Prelude.{if◌then◌else◌}
use Rattle.hb_types.specs.declared.change.Change.{Change}
use Rattle.hb_types.specs.declared.places.Place.{Place}
use Rattle.hb_types.specs.Lists.{Each}
use Rattle.hb_types.specs.Places.{same_place}
use Rattle.hb_types.specs.Put.{lookup}
use Rattle.hb_types.proofs.PutLaws.{lookup-put}
use Rattle.hb_types.proofs.SamePlace.{same_place-eq, same_place-refl}
use Rattle.hb_laws.proofs.RowLaws.{put_ascends}
use Rattle.hb_model.specs.Answers.{rows_in, rows_of, put_in, put_at}
use Rattle.hb_model.specs.Families.{Family}
use Rattle.hb_model.specs.Spots.{ds}
use Rattle.hb_model.specs.System.{AreAscending}
use Rattle.hb_model.proofs.DictionaryRows.{not_true}

-- ---- one change

in_other : (m j : ℕ) (c : Change) (fs : Family) (p : Place) → same_place p c.place ≡ false → lookup p (rows_in m (put_in j c fs)) ≡ lookup p (rows_in m fs)
in_other m j c [] p n = refl
in_other zero zero c (rows ∷ more) p n = lookup-put p rows c ∙ rw n refl
in_other zero (suc j) c (rows ∷ more) p n = refl
in_other (suc m) zero c (rows ∷ more) p n = refl
in_other (suc m) (suc j) c (rows ∷ more) p n = in_other m j c more p n

in_elsewhere : (m j : ℕ) (c : Change) (fs : Family) → (m ≡ j → ⊥) → rows_in m (put_in j c fs) ≡ rows_in m fs
in_elsewhere m j c [] n = refl
in_elsewhere zero zero c (rows ∷ more) n = absurd (n refl)
in_elsewhere zero (suc j) c (rows ∷ more) n = refl
in_elsewhere (suc m) zero c (rows ∷ more) n = refl
in_elsewhere (suc m) (suc j) c (rows ∷ more) n = in_elsewhere m j c more (λ e. n (ap (λ k. suc k) e))

in_here : (j : ℕ) (c : Change) (fs : Family) → j < length fs → lookup c.place (rows_in j (put_in j c fs)) ≡ c.row
in_here j c [] h = absurd (omega (arith, h))
in_here zero c (rows ∷ more) h = lookup-put c.place rows c ∙ rw (same_place-refl c.place) refl
in_here (suc j) c (rows ∷ more) h = in_here j c more (omega (arith, h))

in_length : (j : ℕ) (c : Change) (fs : Family) → length (put_in j c fs) ≡ length fs
in_length j c [] = refl
in_length zero c (rows ∷ more) = refl
in_length (suc j) c (rows ∷ more) = ap (λ n. suc n) (in_length j c more)

in_ascends : (j : ℕ) (c : Change) (fs : Family) → Each AreAscending fs → Each AreAscending (put_in j c fs)
in_ascends j c [] e = tt
in_ascends zero c (rows ∷ more) e = (put_ascends rows c e.0, e.1)
in_ascends (suc j) c (rows ∷ more) e = (e.0, in_ascends j c more e.1)

-- at a node
pub at_other : (m n : ℕ) (c : Change) (fs : Family) (p : Place) → same_place p c.place ≡ false → lookup p (rows_of m (put_at n c fs)) ≡ lookup p (rows_of m fs)
at_other zero n c fs p h = refl
at_other (suc m) zero c fs p h = refl
at_other (suc m) (suc n) c fs p h = in_other m n c fs p h

pub at_elsewhere : (m n : ℕ) (c : Change) (fs : Family) → (m ≡ n → ⊥) → rows_of m (put_at n c fs) ≡ rows_of m fs
at_elsewhere zero n c fs h = refl
at_elsewhere (suc m) zero c fs h = refl
at_elsewhere (suc m) (suc n) c fs h = in_elsewhere m n c fs (λ e. h (ap (λ k. suc k) e))

pub at_here : (n : ℕ) (c : Change) (fs : Family) → 1 ≤ n → n ≤ length fs → lookup c.place (rows_of n (put_at n c fs)) ≡ c.row
at_here zero c fs l h = absurd (omega (arith, l))
at_here (suc n) c fs l h = in_here n c fs (omega (arith, h))

pub at_length : (n : ℕ) (c : Change) (fs : Family) → length (put_at n c fs) ≡ length fs
at_length zero c fs = refl
at_length (suc n) c fs = in_length n c fs

pub at_ascends : (n : ℕ) (c : Change) (fs : Family) → Each AreAscending fs → Each AreAscending (put_at n c fs)
at_ascends zero c fs e = e
at_ascends (suc n) c fs e = in_ascends n c fs e

in_put : (j : ℕ) (c : Change) (fs : Family) (p : Place) → j < length fs → lookup p (rows_in j (put_in j c fs)) ≡ (if same_place p c.place then c.row else lookup p (rows_in j fs))
in_put j c [] p h = absurd (omega (arith, h))
in_put zero c (rows ∷ more) p h = lookup-put p rows c
in_put (suc j) c (rows ∷ more) p h = in_put j c more p (omega (arith, h))

-- at its own node a change is seen
pub at_put : (n : ℕ) (c : Change) (fs : Family) (p : Place) → 1 ≤ n → n ≤ length fs → lookup p (rows_of n (put_at n c fs)) ≡ (if same_place p c.place then c.row else lookup p (rows_of n fs))
at_put zero c fs p l h = absurd (omega (arith, l))
at_put (suc n) c fs p l h = in_put n c fs p (omega (arith, h))

-- ---- changes of one table

-- behind changes of this table's rows on the back ends, ds and the other tables have what they had
pub record IsAside (number : ℕ) (family after : Family) : Type 0 where
  pub servers : length after ≡ length family
  pub ascending : Each AreAscending family → Each AreAscending after
  pub dictionary : (p : Place) → lookup p (rows_of ds after) ≡ lookup p (rows_of ds family)
  pub others : (node : ℕ) (p : Place) → (p.space.table ≡ number → ⊥) → lookup p (rows_of node after) ≡ lookup p (rows_of node family)

pub aside_same : (number : ℕ) (family : Family) → IsAside number family family
aside_same number family = record { servers = refl; ascending = λ e. e; dictionary = λ p. refl; others = λ node p n. refl }

pub aside_put : (number n : ℕ) (c : Change) (family : Family) → 2 ≤ n → c.place.space.table ≡ number → IsAside number family (put_at n c family)
aside_put number n c family two table = record {
  servers = at_length n c family;
  ascending = at_ascends n c family;
  dictionary = λ p. ap (lookup p) (at_elsewhere ds n c family (λ e. omega (arith, two, e)));
  others = λ node p apart. at_other node n c family p
      (not_true (same_place p c.place) (λ y. apart (ap (λ (q : Place). q.space.table) (same_place-eq p c.place y) ∙ table)));
}

pub aside_then : (number : ℕ) (family middle after : Family) → IsAside number family middle → IsAside number middle after → IsAside number family after
aside_then number family middle after a b = record {
  servers = b.servers ∙ a.servers;
  ascending = λ e. b.ascending (a.ascending e);
  dictionary = λ p. b.dictionary p ∙ a.dictionary p;
  others = λ node p n. b.others node p n ∙ a.others node p n;
}
