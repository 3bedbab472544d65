-- Lists in parts: what holds behind a front, what a filter keeps, and where a member stands.
use Rattle.std.proofs.Common.{◌≡◌, ◌∙◌, Bool, true, false, List, [], ◌∷◌, ◌++◌, Some, None, ap, append_assoc, append-nil, inl, inr, refl, subst, sym}
use Rattle.std.specs.Prelude.{filter}
use Rattle.hb_types.specs.Lists.{Each, EachBehind, IsIn}
use Rattle.hb_types.proofs.PutLaws.{by_test}

-- ---- a member, and where it stands

pub record Stands {A : Type 0} (x : A) (xs : List A) : Type 0 where
  pub front : List A
  pub back : List A
  pub parts : xs ≡ front ++ x ∷ back

pub stands_at : {A : Type 0} (x : A) (xs : List A) → IsIn x xs → Stands x xs
stands_at x [] h = absurd h
stands_at x (y ∷ ys) (inl e) = record { front = []; back = ys; parts = ap (λ z. z ∷ ys) e }
stands_at x (y ∷ ys) (inr h) = let s = stands_at x ys h in record { front = y ∷ s.front; back = s.back; parts = ap (λ z. y ∷ z) s.parts }

pub is_there : {A : Type 0} (x : A) (front back : List A) → IsIn x (front ++ x ∷ back)
is_there x [] back = inl refl
is_there x (y ∷ ys) back = inr (is_there x ys back)

-- ---- behind a front

module _ {A : Type 0} (P : List A → A → Type 0) where
  pub behind_at : (done front : List A) (x : A) (back : List A) → EachBehind P done (front ++ x ∷ back) → P (done ++ front) x
  behind_at done [] x back e = subst (λ l. P l x) (sym (append-nil done)) e.0
  behind_at done (y ∷ ys) x back e = subst (λ l. P l x) (append_assoc done (y ∷ []) ys) (behind_at (done ++ y ∷ []) ys x back e.1)

  pub each_behind : (done all : List A) → ((front : List A) (x : A) (back : List A) → all ≡ front ++ x ∷ back → P (done ++ front) x) → EachBehind P done all
  each_behind done [] f = tt
  each_behind done (y ∷ ys) f = (
    subst (λ l. P l y) (append-nil done) (f [] y ys refl),
    each_behind (done ++ y ∷ []) ys (λ front x back e. subst (λ l. P l x) (sym (append_assoc done (y ∷ []) front)) (f (y ∷ front) x back (ap (λ l. y ∷ l) e))),
  )

pub each_part : {A : Type 0} (P : A → Type 0) (all : List A) → ((front : List A) (x : A) (back : List A) → all ≡ front ++ x ∷ back → P x) → Each P all
each_part P [] f = tt
each_part P (y ∷ ys) f = (f [] y ys refl, each_part P ys (λ front x back e. f (y ∷ front) x back (ap (λ l. y ∷ l) e)))

-- ---- what a filter keeps

module _ {A : Type 0} (p : A → Bool) where
  pub none_kept : (xs : List A) → Each (λ x. p x ≡ false) xs → filter p xs ≡ []
  none_kept [] e = refl
  none_kept (x ∷ xs) e = let f = e.0 in rw f (none_kept xs e.1)

  -- a filter within a wider one
  pub kept_twice : (q : A → Bool) → ((x : A) → p x ≡ true → q x ≡ true) → (xs : List A) → filter p (filter q xs) ≡ filter p xs
  kept_twice q wider [] = refl
  kept_twice q wider (x ∷ xs) =
      by_test (p x)
      (λ t. let u : q x ≡ true = wider x t in rw (u, t) (ap (λ l. x ∷ l) (kept_twice q wider xs)))
      (λ f. by_test (q x) (λ u. rw (u, f) (kept_twice q wider xs)) (λ n. rw (n, f) (kept_twice q wider xs)))

  -- where a member of the filtered list stands in the list
  pub record Unkept (xs cs : List A) (b : A) (bs : List A) : Type 0 where
    pub front : List A
    pub back : List A
    pub parts : xs ≡ front ++ b ∷ back
    pub before : filter p front ≡ cs
    pub behind : filter p back ≡ bs
    pub passes : p b ≡ true

  cons_is : (x b : A) (xs bs : List A) → x ∷ xs ≡ b ∷ bs → (x ≡ b) × (xs ≡ bs)
  cons_is x b xs bs e = (cc, cc)

  nil_is : (cs : List A) (b : A) (bs : List A) → [] ≡ cs ++ b ∷ bs → ⊥
  nil_is [] b bs e = cc
  nil_is (a ∷ cs) b bs e = cc

  pub unkept : (xs cs : List A) (b : A) (bs : List A) → filter p xs ≡ cs ++ b ∷ bs → Unkept xs cs b bs
  unkept [] cs b bs e = absurd (nil_is cs b bs e)
  unkept (x ∷ xs) cs b bs e = by_test (p x) (λ t. taken cs (λ more h. unkept xs more b bs h) t (rw t at e)) (λ f. left f (unkept xs cs b bs (rw f at e)))
    where
      left : p x ≡ false → Unkept xs cs b bs → Unkept (x ∷ xs) cs b bs
      left f k = record { front = x ∷ k.front; back = k.back; parts = ap (λ l. x ∷ l) k.parts; before = rw f k.before; behind = k.behind; passes = k.passes }

      taken : (cs : List A) → ((more : List A) → filter p xs ≡ more ++ b ∷ bs → Unkept xs more b bs) → p x ≡ true → x ∷ filter p xs ≡ cs ++ b ∷ bs
          → Unkept (x ∷ xs) cs b bs
      taken [] rest t e =
          let k = cons_is x b (filter p xs) bs e in
          record { front = []; back = xs; parts = ap (λ z. z ∷ xs) k.0; before = refl; behind = k.1; passes = subst (λ z. p z ≡ true) k.0 t }
      taken (a ∷ more) rest t e =
          let k = cons_is x a (filter p xs) (more ++ b ∷ bs) e in
          let u = rest more k.1 in
          record {
            front = x ∷ u.front;
            back = u.back;
            parts = ap (λ l. x ∷ l) u.parts;
            before = rw t (ap (λ l. x ∷ l) u.before ∙ ap (λ z. z ∷ more) k.0);
            behind = u.behind;
            passes = u.passes;
          }

-- ---- look-ups

pub some_is : {A : Type 0} (x y : A) → Some x ≡ Some y → x ≡ y
some_is x y h = cc

pub none_some : {A : Type 0} (x : A) → None ≡ Some x → ⊥
none_some x h = cc
