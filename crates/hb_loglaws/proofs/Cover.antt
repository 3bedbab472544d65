-- A lock that covers a read and another's lock that covers a write do not stand beside each other.
use Rattle.std.proofs.Common.{◌≡◌, Bool, true, false, refl, sym, subst, ◌∙◌, ap, List, [], ◌∷◌, inl, inr}
use Rattle.std.specs.Prelude.{◌&&◌, ◌||◌, not, IsTrue, ◌==◌}
use Rattle.std.proofs.lemmas.Bool.{and_parts, and_from, eqb-true, eq-eqb, false≢true}
use Rattle.hb_types.specs.declared.lock.Held.{Held}
use Rattle.hb_types.specs.declared.lock.Mode.{Mode}
use Rattle.hb_types.specs.declared.lock.Mode.TheVariants as mode
use Rattle.hb_types.specs.declared.places.Path.{Path}
use Rattle.hb_types.specs.declared.places.Path.TheVariants as path
use Rattle.hb_types.specs.declared.places.Place.{Place}
use Rattle.hb_types.specs.Lists.{Each, Has, IsIn}
use Rattle.hb_types.specs.Modes.{compatible, covers}
use Rattle.hb_types.specs.Places.{same_path, same_space, is_under, ancestors, intention}
use Rattle.hb_types.proofs.Ascending.{pick, Has-of, in_Each}
use Rattle.hb_types.proofs.SamePlace.{same_space-eq, same_space-refl, same_place-eq, same_place-refl}
use Rattle.hb_disks.specs.LogRules.{Agree, LocksAgree, IsHeld, HasAncestors, AreClosed, Covers}

-- ---- paths

pub same_path-refl : (p : Path) → same_path p p ≡ true
same_path-refl (path.Whole s) = same_space-refl s
same_path-refl (path.Group s g) = and_from (same_space s s) (g == g) (same_space-refl s) (eq-eqb g g refl)
same_path-refl (path.Key k) = same_place-refl k

pub same_path-eq : (p q : Path) → same_path p q ≡ true → p ≡ q
same_path-eq (path.Whole s) (path.Whole t) e = ap path.Whole (same_space-eq s t e)
same_path-eq (path.Group s g) (path.Group t h) e =
    let k = and_parts (same_space s t) (g == h) e in
    let a = same_space-eq s t k.0 in
    let b = eqb-true g h k.1 in
    λ i. path.Group (a i) (b i)
same_path-eq (path.Key k) (path.Key l) e = ap path.Key (same_place-eq k l e)
same_path-eq (path.Whole s) (path.Group t h) e = absurd (false≢true e)
same_path-eq (path.Whole s) (path.Key l) e = absurd (false≢true e)
same_path-eq (path.Group s g) (path.Whole t) e = absurd (false≢true e)
same_path-eq (path.Group s g) (path.Key l) e = absurd (false≢true e)
same_path-eq (path.Key k) (path.Whole t) e = absurd (false≢true e)
same_path-eq (path.Key k) (path.Group t h) e = absurd (false≢true e)

-- the path of a lock over a place is one of three
pub data Over (x : Place) : Path → Type 0 where
  whole : Over x (path.Whole x.space)
  group : Over x (path.Group x.space x.group)
  key : Over x (path.Key x)

pub over_of : (q : Path) (x : Place) → is_under q x ≡ true → Over x q
over_of (path.Whole s) x e = subst (λ t. Over x (path.Whole t)) (sym (same_space-eq s x.space e)) whole
over_of (path.Group s g) x e =
    let k = and_parts (same_space s x.space) (g == x.group) e in
    subst (λ t. Over x (path.Group t g)) (sym (same_space-eq s x.space k.0)) (subst (λ h. Over x (path.Group x.space h)) (sym (eqb-true g x.group k.1)) group)
over_of (path.Key p) x e = subst (λ q. Over x (path.Key q)) (sym (same_place-eq p x e)) key

-- ---- two locks on one path

-- a lock on a path, of a mode with a property
abbrev pub OnPath : List Held → Path → (Mode → Type 0) → Type 0
OnPath locks p M = Has (λ l. (l.path ≡ p) × M l.mode) locks

or_false : (a b : Bool) → a ≡ false → (a || b) ≡ true → b ≡ true
or_false true b e h = absurd (false≢true (sym e))
or_false false b e h = h

-- locks that agree have compatible modes on a path
pub on_one_path : (l m : Held) (p : Path) → l.path ≡ p → m.path ≡ p → Agree l m → compatible l.mode m.mode ≡ true
on_one_path l m p e f a =
    let s : same_path l.path m.path ≡ true = rw (e, f) (same_path-refl p) in
    or_false (not (same_path l.path m.path)) (compatible l.mode m.mode) (ap not s) a

pub clash : (rs ws : List Held) (p : Path) (M N : Mode → Type 0) → LocksAgree rs ws → OnPath rs p M → OnPath ws p N
    → ((a b : Mode) → M a → N b → compatible a b ≡ false) → ⊥
clash rs ws p M N agree ha hb f =
    let l = pick (λ l. (l.path ≡ p) × M l.mode) (λ l. Each (Agree l) ws) rs ha agree in
    let m = pick (λ m. (m.path ≡ p) × N m.mode) (Agree l.item) ws hb l.other in
    false≢true (sym (f l.item.mode m.item.mode l.one.1 m.one.1) ∙ on_one_path l.item m.item p l.one.0 m.one.0 m.other)

-- ---- modes

abbrev IsAsStrong : Mode → Mode → Type 0
IsAsStrong m n = covers n m ≡ true

reads-writes : (a b : Mode) → IsAsStrong mode.S a → IsAsStrong mode.X b → compatible a b ≡ false
reads-writes mode.IS b e f = absurd (false≢true e)
reads-writes mode.IX b e f = absurd (false≢true e)
reads-writes mode.S mode.X e f = refl
reads-writes mode.SIX mode.X e f = refl
reads-writes mode.X mode.X e f = refl
reads-writes a mode.IS e f = absurd (false≢true f)
reads-writes a mode.IX e f = absurd (false≢true f)
reads-writes a mode.S e f = absurd (false≢true f)
reads-writes a mode.SIX e f = absurd (false≢true f)

reads-intends : (a b : Mode) → IsAsStrong mode.S a → IsAsStrong mode.IX b → compatible a b ≡ false
reads-intends mode.IS b e f = absurd (false≢true e)
reads-intends mode.IX b e f = absurd (false≢true e)
reads-intends mode.S mode.IX e f = refl
reads-intends mode.S mode.SIX e f = refl
reads-intends mode.S mode.X e f = refl
reads-intends mode.SIX mode.IX e f = refl
reads-intends mode.SIX mode.SIX e f = refl
reads-intends mode.SIX mode.X e f = refl
reads-intends mode.X b e f = refl
reads-intends a mode.IS e f = absurd (false≢true f)
reads-intends a mode.S e f = absurd (false≢true f)

any-writes : (a b : Mode) → Unit {0} → IsAsStrong mode.X b → compatible a b ≡ false
any-writes mode.IS mode.X e f = refl
any-writes mode.IX mode.X e f = refl
any-writes mode.S mode.X e f = refl
any-writes mode.SIX mode.X e f = refl
any-writes mode.X mode.X e f = refl
any-writes a mode.IS e f = absurd (false≢true f)
any-writes a mode.IX e f = absurd (false≢true f)
any-writes a mode.S e f = absurd (false≢true f)
any-writes a mode.SIX e f = absurd (false≢true f)

writes-intend : (b : Mode) → IsAsStrong mode.X b → intention b ≡ mode.IX
writes-intend mode.IS f = absurd (false≢true f)
writes-intend mode.IX f = absurd (false≢true f)
writes-intend mode.S f = absurd (false≢true f)
writes-intend mode.SIX f = absurd (false≢true f)
writes-intend mode.X f = refl

-- ---- cover

-- a lock over a place: the path that it is on, and its ancestors
record Covering (locks : List Held) (m : Mode) (x : Place) : Type 0 where
  lock : Held
  within : IsIn lock locks
  strong : IsAsStrong m lock.mode
  over : Over x lock.path
  closed : HasAncestors locks lock

covering_from : (all locks : List Held) (m : Mode) (x : Place) → ((l : Held) → IsIn l locks → IsIn l all) → Covers locks m x
    → Each (HasAncestors all) all → Covering all m x
covering_from all [] m x f h e = absurd h
covering_from all (l ∷ ls) m x f (inl p) e =
    let k = and_parts (covers l.mode m) (is_under l.path x) p in
    let i = f l (inl refl) in
    record { lock = l; within = i; strong = k.0; over = over_of l.path x k.1; closed = in_Each (HasAncestors all) l all i e }
covering_from all (l ∷ ls) m x f (inr h) e = covering_from all ls m x (λ q i. f q (inr i)) h e

covering : (locks : List Held) (m : Mode) (x : Place) → AreClosed locks → Covers locks m x → Covering locks m x
covering locks m x closed c = covering_from locks locks m x (λ l i. i) c closed

on_own : (locks : List Held) (l : Held) (M : Mode → Type 0) → IsIn l locks → M l.mode → OnPath locks l.path M
on_own [] l M h e = absurd h
on_own (k ∷ ks) l M (inl p) e = inl (subst (λ q. (q.path ≡ l.path) × M q.mode) (sym p) (refl, e))
on_own (k ∷ ks) l M (inr h) e = inr (on_own ks l M h e)

-- an ancestor that is held, rs a lock on its path
held_on : (locks : List Held) (m : Mode) (p : Path) → IsHeld locks m p → OnPath locks p (IsAsStrong m)
held_on locks m p h =
    Has-of (λ l. IsTrue (same_path l.path p && covers l.mode m)) (λ l. (l.path ≡ p) × IsAsStrong m l.mode) locks
    (λ l t. let k = and_parts (same_path l.path p) (covers l.mode m) t in (same_path-eq l.path p k.0, k.1)) h

-- among the ancestors of a path over a place are the higher paths over it
above_group : (P : Path → Type 0) (x : Place) → Each P (ancestors (path.Group x.space x.group)) → P (path.Whole x.space)
above_group P x e = e.0

above_key : (P : Path → Type 0) (x : Place) → Each P (ancestors (path.Key x)) → P (path.Whole x.space) × P (path.Group x.space x.group)
above_key P x e = (e.0, e.1.0)

module _ (rs ws : List Held) (x : Place) (agree : LocksAgree rs ws) where
  read_on : (a : Covering rs mode.S x) (p : Path) → a.lock.path ≡ p → OnPath rs p (IsAsStrong mode.S)
  read_on a p e = subst (λ q. OnPath rs q (IsAsStrong mode.S)) e (on_own rs a.lock (IsAsStrong mode.S) a.within a.strong)

  write_on : (b : Covering ws mode.X x) (p : Path) → b.lock.path ≡ p → OnPath ws p (IsAsStrong mode.X)
  write_on b p e = subst (λ q. OnPath ws q (IsAsStrong mode.X)) e (on_own ws b.lock (IsAsStrong mode.X) b.within b.strong)

  -- the paths above the writer's lock are held in IX or more, those above the reader's in IS or more
  writer_above : (b : Covering ws mode.X x) (q : Path) → b.lock.path ≡ q → Each (IsHeld ws mode.IX) (ancestors q)
  writer_above b q f =
      subst (λ p. Each (IsHeld ws mode.IX) (ancestors p)) f (subst (λ m. Each (IsHeld ws m) (ancestors b.lock.path)) (writes-intend b.lock.mode b.strong) b.closed)

  reader_above : (a : Covering rs mode.S x) (p : Path) → a.lock.path ≡ p → Each (IsHeld rs (intention a.lock.mode)) (ancestors p)
  reader_above a p e = subst (λ q. Each (IsHeld rs (intention a.lock.mode)) (ancestors q)) e a.closed

  below_reader : (a : Covering rs mode.S x) (b : Covering ws mode.X x) (p : Path) → a.lock.path ≡ p → IsHeld ws mode.IX p → ⊥
  below_reader a b p e h = clash rs ws p (IsAsStrong mode.S) (IsAsStrong mode.IX) agree (read_on a p e) (held_on ws mode.IX p h) reads-intends

  below_writer : (a : Covering rs mode.S x) (b : Covering ws mode.X x) (q : Path) → b.lock.path ≡ q → IsHeld rs (intention a.lock.mode) q → ⊥
  below_writer a b q f h =
      clash rs ws q (λ m. Unit {0}) (IsAsStrong mode.X) agree
      (Has-of (λ l. (l.path ≡ q) × IsAsStrong (intention a.lock.mode) l.mode) (λ l. (l.path ≡ q) × Unit {0}) rs (λ l k. (k.0, tt)) (held_on rs (intention a.lock.mode) q h))
      (write_on b q f) any-writes

  -- the reader's lock is on this path, and the writer's on that one
  meet : (a : Covering rs mode.S x) (b : Covering ws mode.X x) → (p q : Path) → Over x p → Over x q → a.lock.path ≡ p → b.lock.path ≡ q → ⊥
  meet a b p q (whole) (whole) e f =
      clash rs ws (path.Whole x.space) (IsAsStrong mode.S) (IsAsStrong mode.X) agree (read_on a (path.Whole x.space) e) (write_on b (path.Whole x.space) f) reads-writes
  meet a b p q (group) (group) e f =
      clash rs ws (path.Group x.space x.group) (IsAsStrong mode.S) (IsAsStrong mode.X) agree (read_on a (path.Group x.space x.group) e) (write_on b (path.Group x.space x.group) f) reads-writes
  meet a b p q (key) (key) e f =
      clash rs ws (path.Key x) (IsAsStrong mode.S) (IsAsStrong mode.X) agree (read_on a (path.Key x) e) (write_on b (path.Key x) f) reads-writes
  meet a b p q (whole) (group) e f = below_reader a b (path.Whole x.space) e (above_group (IsHeld ws mode.IX) x (writer_above b (path.Group x.space x.group) f))
  meet a b p q (whole) (key) e f = below_reader a b (path.Whole x.space) e (above_key (IsHeld ws mode.IX) x (writer_above b (path.Key x) f)).0
  meet a b p q (group) (key) e f = below_reader a b (path.Group x.space x.group) e (above_key (IsHeld ws mode.IX) x (writer_above b (path.Key x) f)).1
  meet a b p q (group) (whole) e f = below_writer a b (path.Whole x.space) f (above_group (IsHeld rs (intention a.lock.mode)) x (reader_above a (path.Group x.space x.group) e))
  meet a b p q (key) (whole) e f = below_writer a b (path.Whole x.space) f (above_key (IsHeld rs (intention a.lock.mode)) x (reader_above a (path.Key x) e)).0
  meet a b p q (key) (group) e f = below_writer a b (path.Group x.space x.group) f (above_key (IsHeld rs (intention a.lock.mode)) x (reader_above a (path.Key x) e)).1

-- Where the locks of two branches are closed and agree, a read that the one covers and a write that the other covers do not meet.
pub cover : (rs ws : List Held) (x : Place) → AreClosed rs → AreClosed ws → LocksAgree rs ws → Covers rs mode.S x → Covers ws mode.X x → ⊥
cover rs ws x ca cb agree ra wb =
    let a : Covering rs mode.S x = covering rs mode.S x ca ra in
    let b : Covering ws mode.X x = covering ws mode.X x cb wb in
    meet rs ws x agree a b a.lock.path b.lock.path a.over b.over refl refl
