-- The branches of one transaction among all, and what each effect makes of them.
use Rattle.std.proofs.Common.{◌≡◌, ◌≢◌, ℕ, refl, sym, ◌∙◌, ap, subst, List, [], ◌∷◌, ◌++◌, map, inl, inr, if◌then◌else◌, ◌⊎◌}
use Rattle.std.specs.Prelude.{◌==◌}
use Rattle.std.proofs.lemmas.Bool.{eqb-true, eqb-false, eq-eqb, ne_eqb}
use Rattle.hb_types.specs.Lists.{Has, IsIn}
use Rattle.hb_types.proofs.PutLaws.{by_test}
use Rattle.hb_disks.specs.Redo.{Prepared, without_tx}
use Rattle.hb_runs.specs.Server.{Branch, SState, now, as_branch, IsLive, IsAlive, IsUnended}
use Rattle.hb_runs.specs.ServerEffects.{without_live, changing}
use Rattle.hb_engine.specs.Fits.{live_of, doubts_of}

-- ---- a branch in front

pub live_in : (tx : ℕ) (b : Branch) (bs : List Branch) → b.tx ≡ tx → live_of tx (b ∷ bs) ≡ b ∷ live_of tx bs
live_in tx b bs e = ap (λ t. if t then b ∷ live_of tx bs else live_of tx bs) (eq-eqb b.tx tx e)

pub live_out : (tx : ℕ) (b : Branch) (bs : List Branch) → b.tx ≢ tx → live_of tx (b ∷ bs) ≡ live_of tx bs
live_out tx b bs n = ap (λ t. if t then b ∷ live_of tx bs else live_of tx bs) (ne_eqb b.tx tx n)

pub doubt_in : (tx : ℕ) (p : Prepared) (ps : List Prepared) → p.tx ≡ tx → doubts_of tx (p ∷ ps) ≡ p ∷ doubts_of tx ps
doubt_in tx p ps e = ap (λ t. if t then p ∷ doubts_of tx ps else doubts_of tx ps) (eq-eqb p.tx tx e)

pub doubt_out : (tx : ℕ) (p : Prepared) (ps : List Prepared) → p.tx ≢ tx → doubts_of tx (p ∷ ps) ≡ doubts_of tx ps
doubt_out tx p ps n = ap (λ t. if t then p ∷ doubts_of tx ps else doubts_of tx ps) (ne_eqb p.tx tx n)

-- by whether two numbers are the same
pub by_same : {G : Type 0} (m n : ℕ) → (m ≡ n → G) → (m ≢ n → G) → G
by_same m n f g = by_test (m == n) (λ t. f (eqb-true m n t)) (λ e. g (eqb-false m n e))

-- ---- membership

pub in_live_of : (tx : ℕ) (b : Branch) (bs : List Branch) → IsIn b bs → b.tx ≡ tx → IsIn b (live_of tx bs)
in_live_of tx b [] h e = absurd h
in_live_of tx b (c ∷ cs) (inl q) e = subst (λ (z : List Branch). IsIn b z) (sym (live_in tx c cs (ap (λ (x : Branch). x.tx) q ∙ e))) (inl q)
in_live_of tx b (c ∷ cs) (inr h) e =
    by_same c.tx tx
    (λ s. subst (λ (z : List Branch). IsIn b z) (sym (live_in tx c cs s)) (inr (in_live_of tx b cs h e)))
    (λ n. subst (λ (z : List Branch). IsIn b z) (sym (live_out tx c cs n)) (in_live_of tx b cs h e))

pub of_live_of : (tx : ℕ) (b : Branch) (bs : List Branch) → IsIn b (live_of tx bs) → IsIn b bs × (b.tx ≡ tx)
of_live_of tx b [] h = absurd h
of_live_of tx b (c ∷ cs) h =
    by_same c.tx tx
    (λ s. first s (of_live_of tx b cs) (subst (λ (z : List Branch). IsIn b z) (live_in tx c cs s) h))
    (λ n. let r = of_live_of tx b cs (subst (λ (z : List Branch). IsIn b z) (live_out tx c cs n) h) in (inr r.0, r.1))
  where
    first : c.tx ≡ tx → (IsIn b (live_of tx cs) → IsIn b cs × (b.tx ≡ tx)) → IsIn b (c ∷ live_of tx cs) → IsIn b (c ∷ cs) × (b.tx ≡ tx)
    first s f (inl e) = (inl e, sym (ap (λ (x : Branch). x.tx) e) ∙ s)
    first s f (inr i) = let r = f i in (inr r.0, r.1)

pub in_doubts_of : (tx : ℕ) (b : Prepared) (bs : List Prepared) → IsIn b bs → b.tx ≡ tx → IsIn b (doubts_of tx bs)
in_doubts_of tx b [] h e = absurd h
in_doubts_of tx b (c ∷ cs) (inl q) e = subst (λ (z : List Prepared). IsIn b z) (sym (doubt_in tx c cs (ap (λ (x : Prepared). x.tx) q ∙ e))) (inl q)
in_doubts_of tx b (c ∷ cs) (inr h) e =
    by_same c.tx tx
    (λ s. subst (λ (z : List Prepared). IsIn b z) (sym (doubt_in tx c cs s)) (inr (in_doubts_of tx b cs h e)))
    (λ n. subst (λ (z : List Prepared). IsIn b z) (sym (doubt_out tx c cs n)) (in_doubts_of tx b cs h e))

pub of_doubts_of : (tx : ℕ) (b : Prepared) (bs : List Prepared) → IsIn b (doubts_of tx bs) → IsIn b bs × (b.tx ≡ tx)
of_doubts_of tx b [] h = absurd h
of_doubts_of tx b (c ∷ cs) h =
    by_same c.tx tx
    (λ s. first s (of_doubts_of tx b cs) (subst (λ (z : List Prepared). IsIn b z) (doubt_in tx c cs s) h))
    (λ n. let r = of_doubts_of tx b cs (subst (λ (z : List Prepared). IsIn b z) (doubt_out tx c cs n) h) in (inr r.0, r.1))
  where
    first : c.tx ≡ tx → (IsIn b (doubts_of tx cs) → IsIn b cs × (b.tx ≡ tx)) → IsIn b (c ∷ doubts_of tx cs) → IsIn b (c ∷ cs) × (b.tx ≡ tx)
    first s f (inl e) = (inl e, sym (ap (λ (x : Prepared). x.tx) e) ∙ s)
    first s f (inr i) = let r = f i in (inr r.0, r.1)

pub the_one : {A : Type 0} (x y : A) → IsIn x (y ∷ []) → x ≡ y
the_one x y (inl e) = sym e
the_one x y (inr h) = absurd h

pub has_in : {A : Type 0} (P : A → Type 0) (xs : List A) → Has P xs → (x : A) × IsIn x xs × P x
has_in P [] h = absurd h
has_in P (x ∷ xs) (inl p) = (x, inl refl, p)
has_in P (x ∷ xs) (inr h) = let r = has_in P xs h in (r.0, inr r.1, r.2)

pub in_has : {A : Type 0} (P : A → Type 0) (x : A) (xs : List A) → IsIn x xs → P x → Has P xs
in_has P x [] h p = absurd h
in_has P x (y ∷ ys) (inl e) p = inl (subst P (sym e) p)
in_has P x (y ∷ ys) (inr h) p = inr (in_has P x ys h p)

-- ---- what is alive, in doubt, unended

pub the_live : (s : SState) (tx : ℕ) (b : Branch) → live_of tx s.live ≡ b ∷ [] → IsLive s tx b
the_live s tx b e = of_live_of tx b s.live (subst (λ (z : List Branch). IsIn b z) (sym e) (inl refl))

pub live_is : (s : SState) (tx : ℕ) (b c : Branch) → live_of tx s.live ≡ c ∷ [] → IsLive s tx b → b ≡ c
live_is s tx b c e h = the_one b c (subst (λ (z : List Branch). IsIn b z) e (in_live_of tx b s.live h.0 h.1))

pub alive_of : (s : SState) (tx : ℕ) (b : Branch) → IsLive s tx b → IsAlive s tx
alive_of s tx b h = in_has (λ (c : Branch). c.tx ≡ tx) b s.live h.0 h.1

pub not_alive : (s : SState) (tx : ℕ) → live_of tx s.live ≡ [] → IsAlive s tx → ⊥
not_alive s tx e h =
    let r = has_in (λ (c : Branch). c.tx ≡ tx) s.live h in
    subst (λ (z : List Branch). IsIn r.0 z) e (in_live_of tx r.0 s.live r.1 r.2)

pub unended_parts : (s : SState) (tx : ℕ) → IsUnended s tx → IsAlive s tx ⊎ Has (λ p. p.tx ≡ tx) (now s).doubts
unended_parts s tx h = go s.live h
  where
    doubted : (ps : List Prepared) → Has (λ b. b.tx ≡ tx) (map as_branch ps) → Has (λ p. p.tx ≡ tx) ps
    doubted [] h = absurd h
    doubted (p ∷ ps) (inl e) = inl e
    doubted (p ∷ ps) (inr h) = inr (doubted ps h)

    go : (bs : List Branch) → Has (λ b. b.tx ≡ tx) (bs ++ map as_branch (now s).doubts) → Has (λ b. b.tx ≡ tx) bs ⊎ Has (λ p. p.tx ≡ tx) (now s).doubts
    go [] h = inr (doubted (now s).doubts h)
    go (b ∷ bs) (inl e) = inl (inl e)
    go (b ∷ bs) (inr h) = wide (go bs h)
      where
        wide : Has (λ b. b.tx ≡ tx) bs ⊎ Has (λ p. p.tx ≡ tx) (now s).doubts → Has (λ b. b.tx ≡ tx) (b ∷ bs) ⊎ Has (λ p. p.tx ≡ tx) (now s).doubts
        wide (inl x) = inl (inr x)
        wide (inr y) = inr y

pub not_unended : (s : SState) (tx : ℕ) → live_of tx s.live ≡ [] → doubts_of tx (now s).doubts ≡ [] → IsUnended s tx → ⊥
not_unended s tx e f h = by (unended_parts s tx h)
  where
    by : IsAlive s tx ⊎ Has (λ p. p.tx ≡ tx) (now s).doubts → ⊥
    by (inl a) = not_alive s tx e a
    by (inr d) =
        let r = has_in (λ (p : Prepared). p.tx ≡ tx) (now s).doubts d in
        subst (λ (z : List Prepared). IsIn r.0 z) f (in_doubts_of tx r.0 (now s).doubts r.1 r.2)

pub live_unended : (s : SState) (tx : ℕ) → IsAlive s tx → IsUnended s tx
live_unended s tx h = go s.live h
  where
    go : (bs : List Branch) → Has (λ b. b.tx ≡ tx) bs → Has (λ b. b.tx ≡ tx) (bs ++ map as_branch (now s).doubts)
    go [] h = absurd h
    go (b ∷ bs) (inl e) = inl e
    go (b ∷ bs) (inr h) = inr (go bs h)

pub doubt_unended : (s : SState) (tx : ℕ) (p : Prepared) → IsIn p (now s).doubts → p.tx ≡ tx → IsUnended s tx
doubt_unended s tx p i e = go s.live
  where
    last : (ps : List Prepared) → IsIn p ps → Has (λ b. b.tx ≡ tx) (map as_branch ps)
    last [] h = absurd h
    last (q ∷ qs) (inl r) = inl (ap (λ (z : Prepared). z.tx) r ∙ e)
    last (q ∷ qs) (inr h) = inr (last qs h)

    go : (bs : List Branch) → Has (λ b. b.tx ≡ tx) (bs ++ map as_branch (now s).doubts)
    go [] = last (now s).doubts i
    go (b ∷ bs) = inr (go bs)

-- ---- effects

pub live_of-more : (t : ℕ) (bs : List Branch) (b : Branch) → live_of t (bs ++ b ∷ []) ≡ live_of t bs ++ live_of t (b ∷ [])
live_of-more t [] b = refl
live_of-more t (c ∷ cs) b =
    by_same c.tx t
    (λ s. live_in t c (cs ++ b ∷ []) s ∙ ap (λ z. c ∷ z) (live_of-more t cs b) ∙ sym (ap (λ z. z ++ live_of t (b ∷ [])) (live_in t c cs s)))
    (λ n. live_out t c (cs ++ b ∷ []) n ∙ live_of-more t cs b ∙ sym (ap (λ z. z ++ live_of t (b ∷ [])) (live_out t c cs n)))

pub append_none : {A : Type 0} (xs : List A) → xs ++ [] ≡ xs
append_none [] = refl
append_none (x ∷ xs) = ap (λ z. x ∷ z) (append_none xs)

pub live_of-changing_same : (t : ℕ) (f : Branch → Branch) (bs : List Branch) → ((b : Branch) → (f b).tx ≡ b.tx) → live_of t (changing t f bs) ≡ map f (live_of t bs)
live_of-changing_same t f [] k = refl
live_of-changing_same t f (b ∷ bs) k =
    by_test (b.tx == t)
    (λ e. rw e (live_in t (f b) (changing t f bs) (k b ∙ eqb-true b.tx t e) ∙ ap (λ z. f b ∷ z) (live_of-changing_same t f bs k)))
    (λ e. rw (e, e) (live_of-changing_same t f bs k))

pub live_of-changing_other : (t tx : ℕ) (f : Branch → Branch) (bs : List Branch) → ((b : Branch) → (f b).tx ≡ b.tx) → t ≢ tx → live_of t (changing tx f bs) ≡ live_of t bs
live_of-changing_other t tx f [] k n = refl
live_of-changing_other t tx f (b ∷ bs) k n =
    by_same b.tx tx
    (λ e. ap (λ z. live_of t (if z then f b ∷ changing tx f bs else b ∷ changing tx f bs)) (eq-eqb b.tx tx e)
    ∙ live_out t (f b) (changing tx f bs) (λ q. n (sym q ∙ k b ∙ e)) ∙ live_of-changing_other t tx f bs k n ∙ sym (live_out t b bs (λ q. n (sym q ∙ e))))
    (λ d. ap (λ z. live_of t (if z then f b ∷ changing tx f bs else b ∷ changing tx f bs)) (ne_eqb b.tx tx d)
    ∙ ap (λ z. if b.tx == t then b ∷ z else z) (live_of-changing_other t tx f bs k n))

pub live_of-without_same : (t : ℕ) (bs : List Branch) → live_of t (without_live t bs) ≡ []
live_of-without_same t [] = refl
live_of-without_same t (b ∷ bs) =
    by_test (b.tx == t) (λ e. rw e (live_of-without_same t bs)) (λ e. rw (e, e) (live_of-without_same t bs))

pub live_of-without_other : (t tx : ℕ) (bs : List Branch) → t ≢ tx → live_of t (without_live tx bs) ≡ live_of t bs
live_of-without_other t tx [] n = refl
live_of-without_other t tx (b ∷ bs) n =
    by_same b.tx tx
    (λ e. ap (λ z. live_of t (if z then without_live tx bs else b ∷ without_live tx bs)) (eq-eqb b.tx tx e)
    ∙ live_of-without_other t tx bs n ∙ sym (live_out t b bs (λ q. n (sym q ∙ e))))
    (λ d. ap (λ z. live_of t (if z then without_live tx bs else b ∷ without_live tx bs)) (ne_eqb b.tx tx d)
    ∙ ap (λ z. if b.tx == t then b ∷ z else z) (live_of-without_other t tx bs n))

pub doubts_of-more : (t : ℕ) (ps : List Prepared) (p : Prepared) → doubts_of t (ps ++ p ∷ []) ≡ doubts_of t ps ++ doubts_of t (p ∷ [])
doubts_of-more t [] p = refl
doubts_of-more t (c ∷ cs) p =
    by_same c.tx t
    (λ s. doubt_in t c (cs ++ p ∷ []) s ∙ ap (λ z. c ∷ z) (doubts_of-more t cs p) ∙ sym (ap (λ z. z ++ doubts_of t (p ∷ [])) (doubt_in t c cs s)))
    (λ n. doubt_out t c (cs ++ p ∷ []) n ∙ doubts_of-more t cs p ∙ sym (ap (λ z. z ++ doubts_of t (p ∷ [])) (doubt_out t c cs n)))

pub doubts_of-without_same : (t : ℕ) (ps : List Prepared) → doubts_of t (without_tx t ps) ≡ []
doubts_of-without_same t [] = refl
doubts_of-without_same t (p ∷ ps) =
    by_test (p.tx == t) (λ e. rw e (doubts_of-without_same t ps)) (λ e. rw (e, e) (doubts_of-without_same t ps))

pub doubts_of-without_other : (t tx : ℕ) (ps : List Prepared) → t ≢ tx → doubts_of t (without_tx tx ps) ≡ doubts_of t ps
doubts_of-without_other t tx [] n = refl
doubts_of-without_other t tx (p ∷ ps) n =
    by_same p.tx tx
    (λ e. ap (λ z. doubts_of t (if z then without_tx tx ps else p ∷ without_tx tx ps)) (eq-eqb p.tx tx e)
    ∙ doubts_of-without_other t tx ps n ∙ sym (doubt_out t p ps (λ q. n (sym q ∙ e))))
    (λ d. ap (λ z. doubts_of t (if z then without_tx tx ps else p ∷ without_tx tx ps)) (ne_eqb p.tx tx d)
    ∙ ap (λ z. if p.tx == t then p ∷ z else z) (doubts_of-without_other t tx ps n))
