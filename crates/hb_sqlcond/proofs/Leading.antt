-- Machines that take tokens, joined and compared.
use Rattle.std.proofs.Common.{◌≡◌, ◌≤◌, Bool, true, false, List, [], ◌∷◌, ◌++◌, length, Option, Some, None, refl, sym, ap, ◌∙◌, subst, arith}
use Rattle.hb_sqltoken.specs.declared.token.Token.{Token}
use Rattle.hb_sqlcond.specs.Runs.{Leads, here, next, Finds, Completes, Reads, begins_with}

pub some_is : {A : Type 0} {x y : A} → Some x ≡ Some y → x ≡ y
some_is h = cc

head_is : {a b : Token} {s n : List Token} → a ∷ s ≡ b ∷ n → a ≡ b
head_is h = cc

tail_is : {a b : Token} {s n : List Token} → a ∷ s ≡ b ∷ n → s ≡ n
tail_is h = cc

at_empty : {s : List Token} (n r : List Token) → s ≡ [] → n ≡ s ++ r → n ≡ r
at_empty n r h g = subst (λ z. n ≡ z ++ r) h g

taken_end : (takes : Token → Bool) (k : Token) (rest n : List Token) → takes k ≡ true → n ≡ k ∷ rest → begins_with takes n ≡ false → ⊥
taken_end takes k rest n own g ends =
    let x : takes k ≡ false = sym (ap (begins_with takes) g) ∙ ends in
    cc

module _ {S : Type 0} (step : S → Token → Option S) where
  pub and_then : {c m d : S} {s n r : List Token} → Leads step c s m n → Leads step m n d r → Leads step c s d r
  and_then here y = y
  and_then (next e x) y = next e (and_then x y)

  pub more : {c d : S} {s r : List Token} → Leads step c s d r → (n : List Token) → Leads step c (s ++ n) d (r ++ n)
  more here n = here
  more (next e x) n = next e (more x n)

  shorter : {c d : S} {s r : List Token} → Leads step c s d r → length r ≤ length s
  shorter here = omega arith
  shorter (next e x) = omega (arith, shorter x)

  not_back : (m d : S) (t : Token) (s r : List Token) → Leads step m s d r → (t ∷ s) ≡ r → ⊥
  not_back m d t s r x h = absurd (omega (arith, shorter x, ap length h))

  same_last : {c d e : S} {s r n : List Token} → Leads step c s d r → Leads step c s e n → r ≡ n → d ≡ e
  same_last here here h = refl
  same_last (here) (next {m = m} {d = d} {t = t} {s = s} {r = r} g y) h = absurd (not_back m d t s r y h)
  same_last (next {m = m} {d = d} {t = t} {s = s} {r = r} f x) here h = absurd (not_back m d t s r x (sym h))
  same_last (next {m = m} f x) (next {d = e} {s = s} {r = n} g y) h = same_last x (subst (λ z. Leads step z s e n) (some_is (sym g ∙ f)) y) h

-- What follows for a machine that is complete, sound and can complete each state.
module _ {S T : Type 0} (start : S) (step : S → Token → Option S) (whole : S → Option T) (takes : Token → Bool) (Is : T → List Token → List Token → Type 0)
    (complete : (t : T) (s r : List Token) → Is t s r → Finds step whole start t s r)
    (sound : (t : T) (s r : List Token) → Finds step whole start t s r → Is t s r)
    (belongs : (c d : S) (k : Token) → step c k ≡ Some d → takes k ≡ true)
    (completes : (c : S) → Completes step whole c) where
  one_tree : (t u : T) (s r : List Token) → Is t s r → Is u s r → t ≡ u
  one_tree t u s r i j =
      let x = complete t s r i in
      let y = complete u s r j in
      some_is (sym x.is ∙ ap whole (same_last step x.leads y.leads refl) ∙ y.is)

  begins : (c : S) (s : List Token) → Leads step start s c [] → (rest : List Token) × (t : T) × Is t (s ++ rest) []
  begins c s x =
      let e = completes c in
      (e.rest, e.tree, sound e.tree (s ++ e.rest) [] (record { last = e.finds.last; leads = and_then step (more step x e.rest) e.finds.leads; is = e.finds.is }))

  dead_along : {b c d : S} {s e n r : List Token} (k : Token) (rest : List Token) → Leads step b s c e → e ≡ [] → Leads step b n d r → n ≡ s ++ (k ∷ rest)
      → step c k ≡ None → takes k ≡ true → begins_with takes r ≡ false → ⊥
  dead_along {n = n} k rest here h here g dead own ends = taken_end takes k rest n own (at_empty n (k ∷ rest) h g) ends
  dead_along {b = b} k rest here h (next {m = m} {t = t} {s = s2} f y) g dead own ends =
      let e : t ≡ k = head_is (at_empty (t ∷ s2) (k ∷ rest) h g) in
      let u : step b k ≡ Some m = ap (step b) (sym e) ∙ f in
      cc
  dead_along {n = n} k rest (next {c = b} {m = m} {t = t} {s = s} f x) h here g dead own ends = taken_end takes t (s ++ (k ∷ rest)) n (belongs b m t f) g ends
  dead_along {b = b} k rest (next {m = m} {t = t} {s = s} f x) h (next {m = m2} {d = d} {t = t2} {s = s2} {r = r} f2 y) g dead own ends =
      let u : m2 ≡ m = some_is (sym f2 ∙ (ap (step b) (head_is g) ∙ f)) in
      dead_along k rest x h (subst (λ z. Leads step z s2 d r) u y) (tail_is g) dead own ends

  first_dead : (c : S) (s : List Token) (k : Token) → Leads step start s c [] → step c k ≡ None → takes k ≡ true
      → (t : T) (rest r : List Token) → Is t (s ++ (k ∷ rest)) r → begins_with takes r ≡ false → ⊥
  first_dead c s k x dead own t rest r i ends = dead_along k rest x refl (complete t (s ++ (k ∷ rest)) r i).leads refl dead own ends

  pub reads : Reads start step whole takes Is
  reads = record { complete = complete; sound = sound; one_tree = one_tree; belongs = belongs; completes = completes; begins = begins; first_dead = first_dead }
