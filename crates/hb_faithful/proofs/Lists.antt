-- Lists in parts: what is had by one of them, and what holds of each item with those before it.
use Rattle.std.proofs.Common.{◌⊎◌, inl, inr, List, [], ◌∷◌, ◌++◌, subst, sym}
use Rattle.std.proofs.lemmas.List.{append-nil, append_assoc}
use Rattle.hb_types.specs.Lists.{Each, EachBehind, Has}

pub has_split : {A : Type 0} (P : A → Type 0) (xs ys : List A) → Has P (xs ++ ys) → Has P xs ⊎ Has P ys
has_split P [] ys h = inr h
has_split P (x ∷ xs) ys (inl p) = inl (inl p)
has_split P (x ∷ xs) ys (inr h) = later (has_split P xs ys h)
  where
    later : Has P xs ⊎ Has P ys → Has P (x ∷ xs) ⊎ Has P ys
    later (inl k) = inl (inr k)
    later (inr k) = inr k

pub behind_append : {A : Type 0} (P : List A → A → Type 0) (front xs ys : List A) → EachBehind P front xs → EachBehind P (front ++ xs) ys → EachBehind P front (xs ++ ys)
behind_append P front [] ys e f = subst (λ zs. EachBehind P zs ys) (append-nil front) f
behind_append P front (x ∷ xs) ys e f =
    (e.0, behind_append P (front ++ x ∷ []) xs ys e.1 (subst (λ zs. EachBehind P zs ys) (sym (append_assoc front (x ∷ []) xs)) f))

pub behind_each : {A : Type 0} (R : A → Type 0) (P : List A → A → Type 0) (front xs : List A) → ((zs : List A) (x : A) → R x → P zs x) → Each R xs → EachBehind P front xs
behind_each R P front [] f e = tt
behind_each R P front (x ∷ xs) f e = (f front x e.0, behind_each R P (front ++ x ∷ []) xs f e.1)

-- with more before them
pub behind_more : {A : Type 0} (P Q : List A → A → Type 0) (more front xs : List A) → ((zs : List A) (x : A) → P zs x → Q (more ++ zs) x) → EachBehind P front xs → EachBehind Q (more ++ front) xs
behind_more P Q more front [] f e = tt
behind_more P Q more front (x ∷ xs) f e =
    (f front x e.0, subst (λ zs. EachBehind Q zs xs) (sym (append_assoc more front (x ∷ []))) (behind_more P Q more (front ++ x ∷ []) xs f e.1))
