-- Spreads with one entry set: what stays, and where the list is divided.
use Rattle.std.proofs.Common.{◌≡◌, inl, inr, ℕ, zero, suc, ◌+◌, ◌<◌, List, [], ◌∷◌, ◌++◌, length, map, Some, Bool, false, cond, refl, subst, sym, ap, ◌∙◌, arith}
use Rattle.std.specs.Prelude.{◌==◌, ◌||◌, find, fold, slice_get, slice_set}
use Rattle.std.specs.List.{list_any, range_with_len}
use Rattle.std.specs.Str.{bytes_eq}
use Rattle.std.proofs.lemmas.Bool.Decides.{Decides-eqb}
use Rattle.hb_types.specs.Lists.{Each, Has, IsIn, has_twins}
use Rattle.hb_types.proofs.PutLaws.{by_test}
use Rattle.hb_model.specs.State.{Spread}
use Rattle.hb_model.proofs.DictionaryRows.{not_true}
use Rattle.hb_model.proofs.NumberedRows.{GoUp}
use Rattle.hb_planlaws.proofs.Named.{all_twins_more}
use Rattle.hb_planlaws.proofs.Scans.{head_is, not_below, tail_is}
use Rattle.hb_planlaws.proofs.Walks.{numbered}
use Rattle.hb_movelaws.specs.Moving.{with_entry}

-- ---- a list with one item set

pub each_set : {A : Type 0} (P : A → Type 0) (xs : List A) (k : ℕ) (x : A) → Each P xs → P x → Each P (slice_set xs k x)
each_set P [] k x e h = tt
each_set P (y ∷ ys) zero x e h = (h, e.1)
each_set P (y ∷ ys) (suc k) x e h = (e.0, each_set P ys k x e.1 h)

pub got_same : {A : Type 0} (xs : List A) (k : ℕ) (x y : A) → slice_get xs k ≡ Some y → slice_get (slice_set xs k x) k ≡ Some x
got_same [] k x y h = cc
got_same (z ∷ zs) zero x y h = refl
got_same (z ∷ zs) (suc k) x y h = got_same zs k x y h

pub got_other : {A : Type 0} (xs : List A) (j k : ℕ) (x : A) → (j ≡ k → ⊥) → slice_get (slice_set xs k x) j ≡ slice_get xs j
got_other [] j k x n = refl
got_other (z ∷ zs) zero zero x n = absurd (n refl)
got_other (z ∷ zs) zero (suc k) x n = refl
got_other (z ∷ zs) (suc j) zero x n = refl
got_other (z ∷ zs) (suc j) (suc k) x n = got_other zs j k x (λ e. n (ap (λ m. suc m) e))

some_same : {A : Type 0} (x y : A) → Some x ≡ Some y → x ≡ y
some_same x y h = cc

pub count_set : {A : Type 0} (p : A → Bool) (n : ℕ) (xs : List A) (k : ℕ) (x y : A) → slice_get xs k ≡ Some y → p x ≡ p y
    → fold (λ a e. a + cond (p e) 1 0) n (slice_set xs k x) ≡ fold (λ a e. a + cond (p e) 1 0) n xs
count_set p n [] k x y h same = cc
count_set {A} p n (z ∷ zs) zero x y h same =
    let is : z ≡ y = some_same z y h in
    ap (λ (b : Bool). fold (λ a (e : A). a + cond (p e) 1 0) (n + cond b 1 0) zs) (same ∙ ap p (sym is))
count_set p n (z ∷ zs) (suc k) x y h same = count_set p (n + cond (p z) 1 0) zs k x y h same

-- ---- spreads

pub same_of_number : (ss : List Spread) (q p : Spread) → GoUp 1 ss → IsIn q ss → IsIn p ss → q.number ≡ p.number → q ≡ p
same_of_number ss q p e i j h =
    some_same q p (sym (numbered 1 ss q e i) ∙ ap (λ n. find (λ (t : Spread). n == t.number) ss) h ∙ numbered 1 ss p e j)

pub length-mapped : {A B : Type 0} (f : A → B) (xs : List A) → length (map f xs) ≡ length xs
length-mapped f [] = refl
length-mapped f (x ∷ xs) = ap (λ n. suc n) (length-mapped f xs)

abbrev pub alike : Spread → Spread → Bool
alike a b = bytes_eq a.name b.name

-- a list of spreads at one of them, before and after
pub record Divided (put : Spread → Spread) (p : Spread) (ss : List Spread) : Type 0 where
  pub front : List Spread
  pub back : List Spread
  pub before : ss ≡ front ++ p ∷ back
  pub after : map put ss ≡ front ++ put p ∷ back

module _ (number group new : ℕ) where
  abbrev pub put : Spread → Spread
  put = with_entry number group new

  pub same_number : (q : Spread) → (put q).number ≡ q.number
  same_number q = by_test (q.number == number) (λ y. rw y refl) (λ n. rw n refl)

  pub same_name : (q : Spread) → (put q).name ≡ q.name
  same_name q = by_test (q.number == number) (λ y. rw y refl) (λ n. rw n refl)

  pub same_members : (q : Spread) → (put q).members ≡ q.members
  same_members q = by_test (q.number == number) (λ y. rw y refl) (λ n. rw n refl)

  pub as_many : (ss : List Spread) → length (map put ss) ≡ length ss
  as_many ss = length-mapped put ss

  numbers_kept : (ss : List Spread) → map (λ (t : Spread). t.number) (map put ss) ≡ map (λ (t : Spread). t.number) ss
  numbers_kept [] = refl
  numbers_kept (q ∷ ss) = ap (λ n. n ∷ map (λ (t : Spread). t.number) (map put ss)) (same_number q) ∙ ap (λ ns. q.number ∷ ns) (numbers_kept ss)

  any_kept : (q : Spread) (ss : List Spread) → list_any (alike (put q)) (map put ss) ≡ list_any (alike q) ss
  any_kept q [] = refl
  any_kept q (r ∷ ss) =
      ap (λ n. bytes_eq n (put r).name || list_any (alike (put q)) (map put ss)) (same_name q) ∙ ap (λ n. bytes_eq q.name n || list_any (alike (put q)) (map put ss)) (same_name r)
      ∙ ap (λ b. bytes_eq q.name r.name || b) (any_kept q ss)

  pub twins_kept : (ss : List Spread) → has_twins alike (map put ss) ≡ has_twins alike ss
  twins_kept [] = refl
  twins_kept (q ∷ ss) =
      all_twins_more alike (put q) (map put ss) ∙ ap (λ b. b || has_twins alike (map put ss)) (any_kept q ss) ∙ ap (λ b. list_any (alike q) ss || b) (twins_kept ss)
      ∙ sym (all_twins_more alike q ss)

  pub goes_up : (ss : List Spread) → GoUp 1 ss → GoUp 1 (map put ss)
  goes_up ss e = numbers_kept ss ∙ subst (λ n. map (λ (t : Spread). t.number) ss ≡ range_with_len 1 n) (sym (length-mapped put ss)) e

  pub has_put : (n : ℕ) (ss : List Spread) → Has (λ (q : Spread). q.number ≡ n) ss → Has (λ (q : Spread). q.number ≡ n) (map put ss)
  has_put n [] h = absurd h
  has_put n (q ∷ ss) (inl e) = inl (same_number q ∙ e)
  has_put n (q ∷ ss) (inr h) = inr (has_put n ss h)

  pub put_away : (q : Spread) → (q.number ≡ number → ⊥) → put q ≡ q
  put_away q n = let f : (q.number == number) ≡ false = not_true (q.number == number) (λ y. n ((Decides-eqb q.number number).0 y)) in rw f refl

  all_away : (first : ℕ) (ss : List Spread) → GoUp first ss → number < first → map put ss ≡ ss
  all_away first [] e l = refl
  all_away first (q ∷ ss) e l =
      ap (λ z. z ∷ map put ss) (put_away q (λ is. omega (arith, is, l, head_is q first ss e)))
      ∙ ap (λ zs. q ∷ zs) (all_away (first + 1) ss (tail_is q first ss e) (omega (arith, l)))

  pub divided : (first : ℕ) (ss : List Spread) (p : Spread) → p.number ≡ number → GoUp first ss → IsIn p ss → Divided put p ss
  divided first [] p n e i = absurd i
  divided first (q ∷ ss) p n e (inl is) =
      let low : number < first + 1 = omega (arith, n, head_is q first ss e, ap (λ (z : Spread). z.number) is) in
      record {
        front = [];
        back = ss;
        before = ap (λ z. z ∷ ss) is;
        after = ap (λ z. put z ∷ map put ss) is ∙ ap (λ zs. put p ∷ zs) (all_away (first + 1) ss (tail_is q first ss e) low);
      }
  divided first (q ∷ ss) p n e (inr i) =
      let r = divided (first + 1) ss p n (tail_is q first ss e) i in
      let low = not_below (first + 1) ss p (tail_is q first ss e) i in
      record {
        front = q ∷ r.front;
        back = r.back;
        before = ap (λ zs. q ∷ zs) r.before;
        after = ap (λ z. z ∷ map put ss) (put_away q (λ is. omega (arith, is, n, low, head_is q first ss e))) ∙ ap (λ zs. q ∷ zs) r.after;
      }
