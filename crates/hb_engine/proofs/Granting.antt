-- A lock more: what is held on each path then, and who stands in its way.
use Rattle.std.proofs.Common.{◌≡◌, ◌≢◌, Bool, true, false, cond, not, refl, sym, ◌∙◌, ap, subst, List, [], ◌∷◌, inl, inr, if◌then◌else◌, Option, Some, None}
use Rattle.std.specs.Prelude.{◌==◌}
use Rattle.std.specs.List.{find, list_all}
use Rattle.std.specs.Option.{option_map}
use Rattle.std.specs.Ordering.{is_lt, ordering_reverse}
use Rattle.std.specs.declared.cmp.Ordering.{Ordering}
use Rattle.std.specs.declared.cmp.Ordering.TheVariants.{Less, Equal, Greater}
use Rattle.std.proofs.lemmas.Bool.{and_parts, and_from, true≢false, false≢true, eqb-true, eqb-false, eq-eqb, ne_eqb}
use Rattle.hb_types.specs.declared.lock.Held.{Held}
use Rattle.hb_types.specs.declared.lock.Holder.{Holder}
use Rattle.hb_types.specs.declared.lock.Mode.{Mode}
use Rattle.hb_types.specs.declared.lock.Mode.TheVariants.{IS, IX, S, SIX, X}
use Rattle.hb_types.specs.declared.names.Tx.{Tx}
use Rattle.hb_types.specs.declared.places.Path.{Path}
use Rattle.hb_types.specs.Lists.{Ascends, Each, IsIn}
use Rattle.hb_types.specs.Modes.{compatible, covers, join}
use Rattle.hb_types.specs.Places.{path_cmp, same_path, intention}
use Rattle.hb_types.proofs.Ascending.{Ascends-tail, Ascends-first}
use Rattle.hb_types.proofs.PutLaws.{by_test}
use Rattle.hb_runs.specs.Server.{joined_mode, without_path, with_lock, wanted, granting}
use Rattle.hb_locks.specs.Locks.{blocks, blockers, granted, is_of, lock_cmp, mode_at, mode_of, stands_beside, are_compatible, wanted_of}
use Rattle.hb_locks.proofs.Order.{same_path-eq}
use Rattle.hb_locks.proofs.Lists.{compatible-flip}
use Rattle.hb_engine.proofs.Covering.{lock_total, path_total, path_apart_back, path_equal, same_path-sym}

-- ---- modes

pub intention-twice : (m : Mode) → intention (intention m) ≡ intention m
intention-twice IS = refl
intention-twice IX = refl
intention-twice S = refl
intention-twice SIX = refl
intention-twice X = refl

pub covers-refl : (m : Mode) → covers m m ≡ true
covers-refl IS = refl
covers-refl IX = refl
covers-refl S = refl
covers-refl SIX = refl
covers-refl X = refl

covers-join : (a b : Mode) → covers (join a b) b ≡ true
covers-join IS b = covers-refl b
covers-join IX IS = refl
covers-join IX IX = refl
covers-join IX S = refl
covers-join IX SIX = refl
covers-join IX X = refl
covers-join S IS = refl
covers-join S IX = refl
covers-join S S = refl
covers-join S SIX = refl
covers-join S X = refl
covers-join SIX IS = refl
covers-join SIX IX = refl
covers-join SIX S = refl
covers-join SIX SIX = refl
covers-join SIX X = refl
covers-join X IS = refl
covers-join X IX = refl
covers-join X S = refl
covers-join X SIX = refl
covers-join X X = refl

pub covers-wanted : (o : Option Mode) (m : Mode) → covers (wanted_of o m) m ≡ true
covers-wanted None m = covers-refl m
covers-wanted (Some h) m = covers-join h m

-- ---- the holders of a path

mode_here : (tx : Tx) (h : Holder) (hs : List Holder) → is_of tx h ≡ true → mode_of tx (h ∷ hs) ≡ Some h.mode
mode_here tx h hs t = ap (λ b. option_map (λ (g : Holder). g.mode) (cond b (Some h) (find (is_of tx) hs))) t

mode_there : (tx : Tx) (h : Holder) (hs : List Holder) → is_of tx h ≡ false → mode_of tx (h ∷ hs) ≡ mode_of tx hs
mode_there tx h hs f = ap (λ b. option_map (λ (g : Holder). g.mode) (cond b (Some h) (find (is_of tx) hs))) f

abbrev grant_of : Tx → Mode → Holder
grant_of tx m = record { tx = tx; mode = m }

pub mode_of-granted_same : (tx : Tx) (m : Mode) (hs : List Holder) → mode_of tx (granted tx m hs) ≡ Some m
mode_of-granted_same tx m [] = mode_here tx (grant_of tx m) [] (eq-eqb tx.0 tx.0 refl)
mode_of-granted_same tx m (h ∷ hs) =
    by_test (is_of tx h)
    (λ t. ap (λ b. mode_of tx (if b then grant_of tx m ∷ hs else h ∷ granted tx m hs)) t ∙ mode_here tx (grant_of tx m) hs (eq-eqb tx.0 tx.0 refl))
    (λ f. ap (λ b. mode_of tx (if b then grant_of tx m ∷ hs else h ∷ granted tx m hs)) f ∙ mode_there tx h (granted tx m hs) f ∙ mode_of-granted_same tx m hs)

pub mode_of-granted_other : (t tx : Tx) (m : Mode) (hs : List Holder) → t.0 ≢ tx.0 → mode_of t (granted tx m hs) ≡ mode_of t hs
mode_of-granted_other t tx m [] n = mode_there t (grant_of tx m) [] (ne_eqb tx.0 t.0 (λ e. n (sym e)))
mode_of-granted_other t tx m (h ∷ hs) n =
    by_test (is_of tx h)
    (λ e. let other : is_of t h ≡ false = ne_eqb h.tx.0 t.0 (λ q. n (sym q ∙ eqb-true h.tx.0 tx.0 e)) in
    ap (λ b. mode_of t (if b then grant_of tx m ∷ hs else h ∷ granted tx m hs)) e
    ∙ mode_there t (grant_of tx m) hs (ne_eqb tx.0 t.0 (λ e. n (sym e))) ∙ sym (mode_there t h hs other))
    (λ f. ap (λ b. mode_of t (if b then grant_of tx m ∷ hs else h ∷ granted tx m hs)) f
    ∙ by_test (is_of t h)
    (λ e. mode_here t h (granted tx m hs) e ∙ sym (mode_here t h hs e))
    (λ g. mode_there t h (granted tx m hs) g ∙ mode_of-granted_other t tx m hs n ∙ sym (mode_there t h hs g)))

pub record Holds (t : Tx) (m : Mode) (hs : List Holder) : Type 0 where
  pub holder : Holder
  pub within : IsIn holder hs
  pub of_tx : holder.tx.0 ≡ t.0
  pub of_mode : holder.mode ≡ m

none_some : (m : Mode) → ◌≡◌ {A = Option Mode} None (Some m) → ⊥
none_some m e = cc

some_same : (a b : Mode) → ◌≡◌ {A = Option Mode} (Some a) (Some b) → a ≡ b
some_same a b e = cc

pub holder_of : (t : Tx) (m : Mode) (hs : List Holder) → mode_of t hs ≡ Some m → Holds t m hs
holder_of t m [] e = absurd (none_some m e)
holder_of t m (h ∷ hs) e =
    by_test (is_of t h)
    (λ g. record { holder = h; within = inl refl; of_tx = eqb-true h.tx.0 t.0 g; of_mode = some_same h.mode m (sym (mode_here t h hs g) ∙ e) })
    (λ f. let r = holder_of t m hs (sym (mode_there t h hs f) ∙ e) in record { holder = r.holder; within = inr r.within; of_tx = r.of_tx; of_mode = r.of_mode })

-- of different holders each one's mode is its own
other_tx : (h g : Holder) (hs : List Holder) → IsIn g hs → list_all (stands_beside h) hs ≡ true → (g.tx.0 == h.tx.0) ≡ false
other_tx h g [] i a = absurd i
other_tx h g (x ∷ xs) i a = by i (λ k. other_tx h g xs k parts.1)
  where
    parts : (stands_beside h x ≡ true) × (list_all (stands_beside h) xs ≡ true)
    parts = and_parts (stands_beside h x) (list_all (stands_beside h) xs) a

    flip : (b : Bool) → not b ≡ true → b ≡ false
    flip true e = absurd (false≢true e)
    flip false e = refl

    first : (x.tx.0 == h.tx.0) ≡ false
    first = flip (x.tx.0 == h.tx.0) (and_parts (not (is_of h.tx x)) (compatible h.mode x.mode) parts.0).0

    by : IsIn g (x ∷ xs) → (IsIn g xs → (g.tx.0 == h.tx.0) ≡ false) → (g.tx.0 == h.tx.0) ≡ false
    by (inl e) f = ap (λ (z : Holder). z.tx.0 == h.tx.0) (sym e) ∙ first
    by (inr k) f = f k

pub own_mode : (hs : List Holder) → are_compatible hs ≡ true → (o : Holder) → IsIn o hs → mode_of o.tx hs ≡ Some o.mode
own_mode [] a o i = absurd i
own_mode (h ∷ hs) a o (inl e) = mode_here o.tx h hs (eq-eqb h.tx.0 o.tx.0 (ap (λ (z : Holder). z.tx.0) e)) ∙ ap (λ (z : Holder). Some z.mode) e
own_mode (h ∷ hs) a o (inr k) =
    let parts : (list_all (stands_beside h) hs ≡ true) × (are_compatible hs ≡ true) = and_parts (list_all (stands_beside h) hs) (are_compatible hs) a in
    let other : (o.tx.0 == h.tx.0) ≡ false = other_tx h o hs k parts.0 in
    mode_there o.tx h hs (ne_eqb h.tx.0 o.tx.0 (λ e. eqb-false o.tx.0 h.tx.0 other (sym e))) ∙ own_mode hs parts.1 o k

keep : (tx : Tx) (w : Mode) (h : Holder) (hs : List Holder) (b : Bool) → blocks tx w h ≡ b → blockers tx w (h ∷ hs) ≡ cond b (h ∷ blockers tx w hs) (blockers tx w hs)
keep tx w h hs b e = ap (λ t. cond t (h ∷ blockers tx w hs) (blockers tx w hs)) e

pub in_blockers : (tx : Tx) (w : Mode) (hs : List Holder) (o : Holder) → IsIn o (blockers tx w hs) → IsIn o hs × (blocks tx w o ≡ true)
in_blockers tx w [] o i = absurd i
in_blockers tx w (h ∷ hs) o i =
    by_test (blocks tx w h)
    (λ t. first t (in_blockers tx w hs o) (subst (λ (z : List Holder). IsIn o z) (keep tx w h hs true t) i))
    (λ f. let r = in_blockers tx w hs o (subst (λ (z : List Holder). IsIn o z) (keep tx w h hs false f) i) in (inr r.0, r.1))
  where
    first : blocks tx w h ≡ true → (IsIn o (blockers tx w hs) → IsIn o hs × (blocks tx w o ≡ true)) → IsIn o (h ∷ blockers tx w hs) → IsIn o (h ∷ hs) × (blocks tx w o ≡ true)
    first t f (inl e) = (inl e, ap (λ (z : Holder). blocks tx w z) (sym e) ∙ t)
    first t f (inr k) = let r = f k in (inr r.0, r.1)

pub blocker_in : (tx : Tx) (w : Mode) (hs : List Holder) (o : Holder) → IsIn o hs → blocks tx w o ≡ true → IsIn o (blockers tx w hs)
blocker_in tx w [] o i b = absurd i
blocker_in tx w (h ∷ hs) o (inl e) b =
    subst (λ (z : List Holder). IsIn o z) (sym (keep tx w h hs true (ap (λ (z : Holder). blocks tx w z) e ∙ b))) (inl e)
blocker_in tx w (h ∷ hs) o (inr k) b =
    by_test (blocks tx w h)
    (λ t. subst (λ (z : List Holder). IsIn o z) (sym (keep tx w h hs true t)) (inr (blocker_in tx w hs o k b)))
    (λ f. subst (λ (z : List Holder). IsIn o z) (sym (keep tx w h hs false f)) (blocker_in tx w hs o k b))

is_empty : {A : Type 0} (x : A) (xs : List A) → xs ≡ [] → IsIn x xs → ⊥
is_empty x xs e i = subst (λ z. IsIn x z) e i

blocks_of : (tx : Tx) (w : Mode) (o : Holder) → o.tx.0 ≢ tx.0 → compatible o.mode w ≡ false → blocks tx w o ≡ true
blocks_of tx w o n f = and_from (not (is_of tx o)) (not (compatible o.mode w)) (ap not (ne_eqb o.tx.0 tx.0 n)) (ap not f)

-- where nobody is in the way, each other holder's mode stands beside the wanted one
pub free_mode : (tx t : Tx) (w m : Mode) (hs : List Holder) → blockers tx w hs ≡ [] → mode_of t hs ≡ Some m → t.0 ≢ tx.0 → compatible m w ≡ true
free_mode tx t w m hs free e n =
    let r = holder_of t m hs e in
    by_test (compatible m w) (λ t. t)
    (λ f. absurd (is_empty r.holder (blockers tx w hs) free
    (blocker_in tx w hs r.holder r.within (blocks_of tx w r.holder (λ q. n (sym r.of_tx ∙ q)) (ap (λ z. compatible z w) r.of_mode ∙ f)))))

-- and who is in the way is one of them
pub in_the_way : (tx t : Tx) (w m : Mode) (hs : List Holder) → mode_of t hs ≡ Some m → t.0 ≢ tx.0 → compatible w m ≡ false → Holds t m (blockers tx w hs)
in_the_way tx t w m hs e n f =
    let r = holder_of t m hs e in
    record {
      holder = r.holder;
      within = blocker_in tx w hs r.holder r.within (blocks_of tx w r.holder (λ q. n (sym r.of_tx ∙ q)) (ap (λ z. compatible z w) r.of_mode ∙ compatible-flip m w ∙ f));
      of_tx = r.of_tx;
      of_mode = r.of_mode;
    }

pub blocks_other : (tx : Tx) (w : Mode) (o : Holder) → blocks tx w o ≡ true → o.tx.0 ≢ tx.0
blocks_other tx w o b e = absurd (false≢true (sym (ap not (eq-eqb o.tx.0 tx.0 e)) ∙ (and_parts (not (is_of tx o)) (not (compatible o.mode w)) b).0))

-- ---- a list of locks with one more

is_less : (o : Ordering) → is_lt o ≡ true → o ≡ Less
is_less Less e = refl
is_less Equal e = cc
is_less Greater e = cc

equal_same : (p q : Path) → path_cmp p q ≡ Equal → same_path q p ≡ true
equal_same p q e = path_equal p q e

not_less : (p q : Path) → is_lt (path_cmp p q) ≡ false → same_path q p ≡ false → path_cmp q p ≡ Less
not_less p q f n = by (path_cmp p q) refl
  where
    by : (o : Ordering) → path_cmp p q ≡ o → path_cmp q p ≡ Less
    by Less e = absurd (true≢false (sym (ap is_lt e) ∙ f))
    by Equal e = absurd (true≢false (sym (equal_same p q e) ∙ n))
    by Greater e = path_total.antisymm q p ∙ ap ordering_reverse e

cons_ascends : (l : Held) (ls : List Held) → Each (λ k. lock_cmp l k ≡ Less) ls → Ascends lock_cmp ls → Ascends lock_cmp (l ∷ ls)
cons_ascends l [] e a = tt
cons_ascends l (k ∷ ks) e a = (e.0, a)

each_without : (P : Held → Type 0) (p : Path) (ls : List Held) → Each P ls → Each P (without_path p ls)
each_without P p [] e = tt
each_without P p (l ∷ ls) e = by_test (same_path l.path p) (λ t. rw t (each_without P p ls e.1)) (λ f. rw f (e.0, each_without P p ls e.1))

without_ascends : (p : Path) (ls : List Held) → Ascends lock_cmp ls → Ascends lock_cmp (without_path p ls)
without_ascends p [] a = tt
without_ascends p (l ∷ ls) a =
    let tail = without_ascends p ls (Ascends-tail lock_cmp lock_total l ls a) in
    by_test (same_path l.path p) (λ t. rw t tail)
    (λ f. rw f (cons_ascends l (without_path p ls) (each_without (λ k. lock_cmp l k ≡ Less) p ls (Ascends-first lock_cmp lock_total l ls a)) tail))

each_with : (P : Held → Type 0) (h : Held) (ls : List Held) → P h → Each P ls → Each P (with_lock h ls)
each_with P h [] p e = (p, tt)
each_with P h (l ∷ ls) p e = by_test (is_lt (path_cmp l.path h.path)) (λ t. rw t (e.0, each_with P h ls p e.1)) (λ f. rw f (p, e))

abbrev Apart : Path → List Held → Type 0
Apart p ls = Each (λ l. same_path l.path p ≡ false) ls

apart_without : (p : Path) (ls : List Held) → Apart p (without_path p ls)
apart_without p [] = tt
apart_without p (l ∷ ls) = by_test (same_path l.path p) (λ t. rw t (apart_without p ls)) (λ f. rw f (f, apart_without p ls))

same_flip : (p q : Path) → same_path p q ≡ false → same_path q p ≡ false
same_flip p q n = by_test (same_path q p) (λ t. absurd (true≢false (sym (same_path-sym q p t) ∙ n))) (λ f. f)

with_ascends : (h : Held) (ls : List Held) → Apart h.path ls → Ascends lock_cmp ls → Ascends lock_cmp (with_lock h ls)
with_ascends h [] n a = tt
with_ascends h (l ∷ ls) n a =
    by_test (is_lt (path_cmp l.path h.path))
    (λ t. rw t (cons_ascends l (with_lock h ls) (each_with (λ k. lock_cmp l k ≡ Less) h ls (is_less (path_cmp l.path h.path) t) (Ascends-first lock_cmp lock_total l ls a)) (with_ascends h ls n.1 (Ascends-tail lock_cmp lock_total l ls a))))
    (λ f. rw f (not_less l.path h.path f (same_flip l.path h.path n.0), a))

pub granting_ascends : (p : Path) (m : Mode) (ls : List Held) → Ascends lock_cmp ls → Ascends lock_cmp (granting p m ls)
granting_ascends p m ls a = with_ascends (wanted p m ls) (without_path p ls) (apart_without p ls) (without_ascends p ls a)

-- ---- the mode on each path then

mode_first : (q : Path) (x : Held) (xs : List Held) → same_path q x.path ≡ true → mode_at (x ∷ xs) q ≡ Some x.mode
mode_first q x xs t = ap (λ b. option_map (λ (h : Held). h.mode) (cond b (Some x) (find (λ h. same_path q h.path) xs))) t

mode_skip : (q : Path) (x : Held) (xs : List Held) → same_path q x.path ≡ false → mode_at (x ∷ xs) q ≡ mode_at xs q
mode_skip q x xs f = ap (λ b. option_map (λ (h : Held). h.mode) (cond b (Some x) (find (λ h. same_path q h.path) xs))) f

mode_without : (q p : Path) (ls : List Held) → same_path q p ≡ false → mode_at (without_path p ls) q ≡ mode_at ls q
mode_without q p [] n = refl
mode_without q p (l ∷ ls) n =
    by_test (same_path l.path p)
    (λ t. ap (λ b. mode_at (if b then without_path p ls else l ∷ without_path p ls) q) t ∙ mode_without q p ls n
    ∙ sym (mode_skip q l ls (ap (same_path q) (same_path-eq l.path p t) ∙ n)))
    (λ f. ap (λ b. mode_at (if b then without_path p ls else l ∷ without_path p ls) q) f
    ∙ by_test (same_path q l.path)
    (λ s. mode_first q l (without_path p ls) s ∙ sym (mode_first q l ls s))
    (λ g. mode_skip q l (without_path p ls) g ∙ mode_without q p ls n ∙ sym (mode_skip q l ls g)))

mode_with_other : (q : Path) (h : Held) (ls : List Held) → same_path q h.path ≡ false → mode_at (with_lock h ls) q ≡ mode_at ls q
mode_with_other q h [] n = mode_skip q h [] n
mode_with_other q h (l ∷ ls) n =
    by_test (is_lt (path_cmp l.path h.path))
    (λ t. ap (λ b. mode_at (if b then l ∷ with_lock h ls else h ∷ l ∷ ls) q) t
    ∙ by_test (same_path q l.path)
    (λ s. mode_first q l (with_lock h ls) s ∙ sym (mode_first q l ls s))
    (λ g. mode_skip q l (with_lock h ls) g ∙ mode_with_other q h ls n ∙ sym (mode_skip q l ls g)))
    (λ f. ap (λ b. mode_at (if b then l ∷ with_lock h ls else h ∷ l ∷ ls) q) f ∙ mode_skip q h (l ∷ ls) n)

mode_with_same : (q : Path) (h : Held) (ls : List Held) → same_path q h.path ≡ true → Apart h.path ls → mode_at (with_lock h ls) q ≡ Some h.mode
mode_with_same q h [] s n = mode_first q h [] s
mode_with_same q h (l ∷ ls) s n =
    by_test (is_lt (path_cmp l.path h.path))
    (λ t. let other : same_path q l.path ≡ false = ap (λ z. same_path z l.path) (same_path-eq q h.path s) ∙ same_flip l.path h.path n.0 in
    ap (λ b. mode_at (if b then l ∷ with_lock h ls else h ∷ l ∷ ls) q) t ∙ mode_skip q l (with_lock h ls) other ∙ mode_with_same q h ls s n.1)
    (λ f. ap (λ b. mode_at (if b then l ∷ with_lock h ls else h ∷ l ∷ ls) q) f ∙ mode_first q h (l ∷ ls) s)

pub granting_other : (q p : Path) (m : Mode) (ls : List Held) → same_path q p ≡ false → mode_at (granting p m ls) q ≡ mode_at ls q
granting_other q p m ls n = mode_with_other q (wanted p m ls) (without_path p ls) n ∙ mode_without q p ls n

pub granting_same : (q p : Path) (m : Mode) (ls : List Held) → same_path q p ≡ true → mode_at (granting p m ls) q ≡ Some (joined_mode p m ls)
granting_same q p m ls s = mode_with_same q (wanted p m ls) (without_path p ls) s (apart_without p ls)

-- a lock is joined with the one on its path
joined_none : (p : Path) (m : Mode) (ls : List Held) → Apart p ls → joined_mode p m ls ≡ m
joined_none p m [] n = refl
joined_none p m (l ∷ ls) n = ap (λ b. if b then join l.mode (joined_mode p m ls) else joined_mode p m ls) n.0 ∙ joined_none p m ls n.1

mode_none : (p : Path) (ls : List Held) → Apart p ls → mode_at ls p ≡ None
mode_none p [] n = refl
mode_none p (l ∷ ls) n = mode_skip p l ls (same_flip l.path p n.0) ∙ mode_none p ls n.1

apart_behind : (l : Held) (ls : List Held) → Each (λ k. lock_cmp l k ≡ Less) ls → (p : Path) → l.path ≡ p → Apart p ls
apart_behind l [] e p q = tt
apart_behind l (k ∷ ks) e p q = (ap (same_path k.path) (sym q) ∙ path_apart_back l.path k.path e.0, apart_behind l ks e.1 p q)

pub joined_is : (p : Path) (m : Mode) (ls : List Held) → Ascends lock_cmp ls → joined_mode p m ls ≡ wanted_of (mode_at ls p) m
joined_is p m [] a = refl
joined_is p m (l ∷ ls) a =
    by_test (same_path l.path p)
    (λ t. let none : Apart p ls = apart_behind l ls (Ascends-first lock_cmp lock_total l ls a) p (same_path-eq l.path p t) in
    ap (λ b. if b then join l.mode (joined_mode p m ls) else joined_mode p m ls) t ∙ ap (join l.mode) (joined_none p m ls none)
    ∙ sym (ap (λ o. wanted_of o m) (mode_first p l ls (same_path-sym l.path p t))))
    (λ f. ap (λ b. if b then join l.mode (joined_mode p m ls) else joined_mode p m ls) f ∙ joined_is p m ls (Ascends-tail lock_cmp lock_total l ls a)
    ∙ sym (ap (λ o. wanted_of o m) (mode_skip p l ls (same_flip l.path p f))))
