-- What a branch's locks are once one more is granted.
use Rattle.std.proofs.Common.{◌≡◌, Bool, true, false, refl, sym, subst, List, [], ◌∷◌, ◌⊎◌, inl, inr}
use Rattle.std.specs.Prelude.{◌&&◌, IsTrue}
use Rattle.std.specs.Ordering.{is_lt}
use Rattle.std.proofs.lemmas.Bool.{and_parts, and_from}
use Rattle.hb_types.specs.declared.change.Change.{Change}
use Rattle.hb_types.specs.declared.lock.Held.{Held}
use Rattle.hb_types.specs.declared.lock.Mode.{Mode}
use Rattle.hb_types.specs.declared.lock.Mode.TheVariants as mode
use Rattle.hb_types.specs.declared.places.Path.{Path}
use Rattle.hb_types.specs.declared.places.Place.{Place}
use Rattle.hb_types.specs.Lists.{Each, Has, IsIn}
use Rattle.hb_types.specs.Modes.{covers, join}
use Rattle.hb_types.specs.Places.{path_cmp, same_path, is_under, ancestors, intention}
use Rattle.hb_types.proofs.Ascending.{pick, Each-of, Has-of, Each-in, in_Each}
use Rattle.hb_types.proofs.PutLaws.{by_test}
use Rattle.hb_disks.specs.LogRules.{Agree, LocksAgree, IsHeld, HasAncestors, AreClosed, Covers, AreCovered}
use Rattle.hb_runs.specs.Server.{joined_mode, without_path, with_lock, wanted, granting}
use Rattle.hb_loglaws.proofs.Cover.{same_path-eq}
use Rattle.hb_laws.proofs.ModeLaws.{join-left, join-right, join-intention, covers-trans}
use Rattle.hb_loglaws.proofs.Agreeing.{LocksAgree-sym}

-- ---- members

beside : {A : Type 0} (x l : A) (ls ms : List A) → (IsIn x ls → IsIn x ms) → IsIn x (l ∷ ls) → IsIn x (l ∷ ms)
beside x l ls ms f (inl e) = inl e
beside x l ls ms f (inr h) = inr (f h)

later_lock : (x h l : Held) (ls ms : List Held) → (IsIn x ms → (x ≡ h) ⊎ IsIn x ls) → IsIn x (l ∷ ms) → (x ≡ h) ⊎ IsIn x (l ∷ ls)
later_lock x h l ls ms f (inl e) = inr (inl e)
later_lock x h l ls ms f (inr k) = moved (f k)
  where
    moved : (x ≡ h) ⊎ IsIn x ls → (x ≡ h) ⊎ IsIn x (l ∷ ls)
    moved (inl e) = inl e
    moved (inr m) = inr (inr m)

first_lock : (x h : Held) (ls : List Held) → IsIn x (h ∷ ls) → (x ≡ h) ⊎ IsIn x ls
first_lock x h ls (inl e) = inl (sym e)
first_lock x h ls (inr k) = inr k

in_with_lock : (x h : Held) (ls : List Held) → IsIn x (with_lock h ls) → (x ≡ h) ⊎ IsIn x ls
in_with_lock x h [] i = first_lock x h [] i
in_with_lock x h (l ∷ ls) i =
    by_test (is_lt (path_cmp l.path h.path)) (λ t. later_lock x h l ls (with_lock h ls) (in_with_lock x h ls) (rw t at i)) (λ f. first_lock x h (l ∷ ls) (rw f at i))

in_without_path : (x : Held) (p : Path) (ls : List Held) → IsIn x (without_path p ls) → IsIn x ls
in_without_path x p [] h = h
in_without_path x p (l ∷ ls) h =
    by_test (same_path l.path p) (λ t. inr (in_without_path x p ls (rw t at h))) (λ f. beside x l (without_path p ls) ls (in_without_path x p ls) (rw f at h))

new_in : (P : Held → Type 0) (h : Held) (ls : List Held) → P h → Has P (with_lock h ls)
new_in P h [] p = inl p
new_in P h (l ∷ ls) p = by_test (is_lt (path_cmp l.path h.path)) (λ t. rw t (inr (new_in P h ls p))) (λ f. rw f (inl p))

later_has : (P : Held → Type 0) (l : Held) (ls ms : List Held) → (Has P ls → Has P ms) → Has P (l ∷ ls) → Has P (l ∷ ms)
later_has P l ls ms f (inl p) = inl p
later_has P l ls ms f (inr m) = inr (f m)

old_in : (P : Held → Type 0) (h : Held) (ls : List Held) → Has P ls → Has P (with_lock h ls)
old_in P h [] k = absurd k
old_in P h (l ∷ ls) k = by_test (is_lt (path_cmp l.path h.path)) (λ t. rw t (later_has P l ls (with_lock h ls) (old_in P h ls) k)) (λ f. rw f (inr k))

stays_in : (P : Held → Type 0) (p : Path) (x : Held) (ls : List Held) → IsIn x ls → same_path x.path p ≡ false → P x → Has P (without_path p ls)
stays_in P p x [] h n q = absurd h
stays_in P p x (l ∷ ls) (inl e) n q =
    let f : same_path l.path p ≡ false = subst (λ k. same_path k.path p ≡ false) (sym e) n in rw f (inl (subst P (sym e) q))
stays_in P p x (l ∷ ls) (inr h) n q =
    by_test (same_path l.path p) (λ t. rw t (stays_in P p x ls h n q)) (λ f. rw f (inr (stays_in P p x ls h n q)))

-- a lock of the new ones is the wanted one or an old one
pub in_granting : (x : Held) (p : Path) (m : Mode) (ls : List Held) → IsIn x (granting p m ls) → (x ≡ wanted p m ls) ⊎ IsIn x ls
in_granting x p m ls h = kept (in_with_lock x (wanted p m ls) (without_path p ls) h)
  where
    kept : (x ≡ wanted p m ls) ⊎ IsIn x (without_path p ls) → (x ≡ wanted p m ls) ⊎ IsIn x ls
    kept (inl e) = inl e
    kept (inr k) = inr (in_without_path x p ls k)

-- ---- the locks grow

-- a joined mode is as strong as each mode that was held on the path
joined_covers : (p : Path) (m : Mode) (l : Held) (ls : List Held) (x : Mode) → IsIn l ls → same_path l.path p ≡ true → covers l.mode x ≡ true
    → covers (joined_mode p m ls) x ≡ true
joined_covers p m l [] x h s c = absurd h
joined_covers p m l (k ∷ ks) x (inl e) s c =
    let t : same_path k.path p ≡ true = subst (λ q. same_path q.path p ≡ true) (sym e) s in
    rw t (join-left k.mode (joined_mode p m ks) x (subst (λ q. covers q.mode x ≡ true) (sym e) c))
joined_covers p m l (k ∷ ks) x (inr h) s c =
    by_test (same_path k.path p)
    (λ t. rw t (join-right k.mode (joined_mode p m ks) x (joined_covers p m l ks x h s c)))
    (λ f. rw f (joined_covers p m l ks x h s c))

-- a lock on the same path that is as strong
abbrev pub IsGrown : Held → Held → Type 0
IsGrown l k = (k.path ≡ l.path) × ((x : Mode) → covers l.mode x ≡ true → covers k.mode x ≡ true)

pub grown : (p : Path) (m : Mode) (ls : List Held) (l : Held) → IsIn l ls → Has (IsGrown l) (granting p m ls)
grown p m ls l h =
    by_test (same_path l.path p)
    (λ t. new_in (IsGrown l) (wanted p m ls) (without_path p ls) (sym (same_path-eq l.path p t), λ x c. joined_covers p m l ls x h t c))
    (λ f. old_in (IsGrown l) (wanted p m ls) (without_path p ls) (stays_in (IsGrown l) p l ls h f (refl, λ x c. c)))

-- what some old lock gives, some new one gives, if it goes by path and strength
pub grows : (p : Path) (m : Mode) (ls : List Held) (n : Mode) (under : Path → Bool) → Has (λ l. IsTrue (covers l.mode n && under l.path)) ls
    → Has (λ l. IsTrue (covers l.mode n && under l.path)) (granting p m ls)
grows p m ls n under h =
    let b = pick (λ l. IsTrue (covers l.mode n && under l.path)) (λ l. IsIn l ls) ls h (Each-in (λ l. IsIn l ls) ls (λ l i. i)) in
    let k = and_parts (covers b.item.mode n) (under b.item.path) b.one in
    Has-of (IsGrown b.item) (λ l. IsTrue (covers l.mode n && under l.path)) (granting p m ls)
    (λ l g. and_from (covers l.mode n) (under l.path) (g.1 n k.0) (subst (λ q. under q ≡ true) (sym g.0) k.1))
    (grown p m ls b.item b.other)

flip : (a b : Bool) → (a && b) ≡ true → (b && a) ≡ true
flip a b e = let k = and_parts a b e in and_from b a k.1 k.0

pub held_grows : (p : Path) (m : Mode) (ls : List Held) (n : Mode) (q : Path) → IsHeld ls n q → IsHeld (granting p m ls) n q
held_grows p m ls n q h =
    Has-of (λ l. IsTrue (covers l.mode n && same_path l.path q)) (λ l. IsTrue (same_path l.path q && covers l.mode n)) (granting p m ls)
    (λ l. flip (covers l.mode n) (same_path l.path q))
    (grows p m ls n (λ r. same_path r q)
    (Has-of (λ l. IsTrue (same_path l.path q && covers l.mode n)) (λ l. IsTrue (covers l.mode n && same_path l.path q)) ls (λ l. flip (same_path l.path q) (covers l.mode n)) h))

pub covers_grows : (p : Path) (m : Mode) (ls : List Held) (n : Mode) (x : Place) → Covers ls n x → Covers (granting p m ls) n x
covers_grows p m ls n x h = grows p m ls n (λ q. is_under q x) h

-- ---- the locks stay closed

weaker : (ls : List Held) (a b : Mode) (q : Path) → covers a b ≡ true → IsHeld ls a q → IsHeld ls b q
weaker ls a b q c h =
    Has-of (λ l. IsTrue (same_path l.path q && covers l.mode a)) (λ l. IsTrue (same_path l.path q && covers l.mode b)) ls
    (λ l t. let k = and_parts (same_path l.path q) (covers l.mode a) t in and_from (same_path l.path q) (covers l.mode b) k.0 (covers-trans l.mode a b k.1 c)) h

-- the paths above are held for the joined mode
joined_closed : (all : List Held) (p : Path) (m : Mode) (ls : List Held) → Each (IsHeld all (intention m)) (ancestors p) → Each (HasAncestors all) ls
    → Each (IsHeld all (intention (joined_mode p m ls))) (ancestors p)
joined_closed all p m [] a e = a
joined_closed all p m (l ∷ ls) a e =
    by_test (same_path l.path p)
    (λ t. rw t (by_either (join-intention l.mode (joined_mode p m ls)) (subst (λ q. Each (IsHeld all (intention l.mode)) (ancestors q)) (same_path-eq l.path p t) e.0)
    (joined_closed all p m ls a e.1)))
    (λ f. rw f (joined_closed all p m ls a e.1))
  where
    weaken : (b c : Mode) → covers b c ≡ true → Each (IsHeld all b) (ancestors p) → Each (IsHeld all c) (ancestors p)
    weaken b c h x = Each-of (IsHeld all b) (IsHeld all c) (ancestors p) (λ q k. weaker all b c q h k) x

    by_either : (covers (intention l.mode) (intention (join l.mode (joined_mode p m ls))) ≡ true)
        ⊎ (covers (intention (joined_mode p m ls)) (intention (join l.mode (joined_mode p m ls))) ≡ true)
        → Each (IsHeld all (intention l.mode)) (ancestors p) → Each (IsHeld all (intention (joined_mode p m ls))) (ancestors p)
        → Each (IsHeld all (intention (join l.mode (joined_mode p m ls)))) (ancestors p)
    by_either (inl h) x y = weaken (intention l.mode) (intention (join l.mode (joined_mode p m ls))) h x
    by_either (inr h) x y = weaken (intention (joined_mode p m ls)) (intention (join l.mode (joined_mode p m ls))) h y

pub closed_grows : (p : Path) (m : Mode) (ls : List Held) → Each (IsHeld ls (intention m)) (ancestors p) → AreClosed ls → AreClosed (granting p m ls)
closed_grows p m ls a c = Each-in (HasAncestors (granting p m ls)) (granting p m ls) (λ l i. closed l (in_granting l p m ls i))
  where
    closed : (l : Held) → (l ≡ wanted p m ls) ⊎ IsIn l ls → HasAncestors (granting p m ls) l
    closed l (inl e) =
        subst (HasAncestors (granting p m ls)) (sym e)
        (Each-of (IsHeld ls (intention (joined_mode p m ls))) (IsHeld (granting p m ls) (intention (joined_mode p m ls))) (ancestors p)
        (λ q h. held_grows p m ls (intention (joined_mode p m ls)) q h) (joined_closed ls p m ls a c))
    closed l (inr i) =
        Each-of (IsHeld ls (intention l.mode)) (IsHeld (granting p m ls) (intention l.mode)) (ancestors l.path) (λ q h. held_grows p m ls (intention l.mode) q h)
        (in_Each (HasAncestors ls) l ls i c)

pub covered_grows : (p : Path) (m : Mode) (ls : List Held) (cs : List Change) → AreCovered ls cs → AreCovered (granting p m ls) cs
covered_grows p m ls cs e = Each-of (λ c. Covers ls mode.X c.place) (λ c. Covers (granting p m ls) mode.X c.place) cs (λ c h. covers_grows p m ls mode.X c.place h) e

-- ---- the locks still agree with others

-- where the old locks and the wanted one agree with those of another, the new ones do
pub agree_grows : (p : Path) (m : Mode) (ls ms : List Held) → LocksAgree ls ms → LocksAgree ms (wanted p m ls ∷ []) → LocksAgree (granting p m ls) ms
agree_grows p m ls ms a w = Each-in (λ l. Each (Agree l) ms) (granting p m ls) (λ l i. agree l (in_granting l p m ls i))
  where
    agree : (l : Held) → (l ≡ wanted p m ls) ⊎ IsIn l ls → Each (Agree l) ms
    agree l (inl e) = subst (λ k. Each (Agree k) ms) (sym e) (LocksAgree-sym ms (wanted p m ls ∷ []) w).0
    agree l (inr i) = in_Each (λ k. Each (Agree k) ms) l ls i a
