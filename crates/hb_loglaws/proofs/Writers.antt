-- In a right log, those that wrote at a place ascend in number, and a branch in doubt that writes there has a floor not below them.
use Rattle.std.proofs.Common.{◌≡◌, ◌≢◌, ℕ, Bool, true, cond, max, refl, sym, subst, ◌∙◌, ap, List, [], ◌∷◌, ◌++◌, ◌⊎◌, inl, inr, append-nil, append_assoc, arith, ◌≤◌, ◌<◌}
use Rattle.std.specs.Prelude.{◌==◌, filter}
use Rattle.std.specs.Ordering.{nat_cmp}
use Rattle.std.specs.declared.cmp.Ordering.{Ordering}
use Rattle.std.specs.declared.cmp.Ordering.TheVariants.{Less}
use Rattle.std.proofs.lemmas.Bool.{eqb-false, eq-eqb, or_cases, false≢true, lt-ltb, and_parts, and_from}
use Rattle.hb_types.specs.declared.change.Change.{Change}
use Rattle.hb_types.specs.declared.change.LogItem.{LogItem}
use Rattle.hb_types.specs.declared.change.LogItem.TheVariants as item
use Rattle.hb_types.specs.declared.lock.Held.{Held}
use Rattle.hb_types.specs.declared.lock.Mode.TheVariants as mode
use Rattle.hb_types.specs.declared.places.Place.{Place}
use Rattle.hb_types.specs.Lists.{Ascends, Each, Has, IsIn}
use Rattle.hb_types.specs.Modes.{covers}
use Rattle.hb_types.specs.Places.{same_place, is_under}
use Rattle.hb_types.specs.Put.{touches}
use Rattle.hb_types.proofs.Ascending.{pick, Each-of, Each-append, Each-in, in_Each, Has-of, Has-front, Has-back}
use Rattle.hb_types.proofs.PutLaws.{by_test}
use Rattle.hb_types.proofs.SamePlace.{same_place-eq}
use Rattle.hb_disks.specs.Redo.{Prepared, doubts, floor_of, without_tx, changes_or}
use Rattle.hb_disks.specs.Says.{prepares, commits, ch, writers}
use Rattle.hb_disks.specs.LogRules.{LogOK, Fits, PrepareFits, LocksAgree, AreClosed, AreCovered, Covers}
use Rattle.hb_disks.proofs.Fold.{prepares-append, commits-append, ch-append, doubts-prepare, doubts-commit, doubts-abort, floor-prepare, floor-commit, floor-abort}
use Rattle.hb_loglaws.proofs.Agreeing.{LocksAgree-sym}
use Rattle.hb_loglaws.proofs.Cover.{cover}
use Rattle.hb_loglaws.proofs.Members.{Each-filter, in_append}
use Rattle.hb_laws.proofs.ModeLaws.{covers-trans}

-- ---- lists

filter-append : {A : Type 0} (f : A → Bool) (xs ys : List A) → filter f (xs ++ ys) ≡ filter f xs ++ filter f ys
filter-append f [] ys = refl
filter-append f (x ∷ xs) ys = by_test (f x) (λ t. rw t (ap (λ l. x ∷ l) (filter-append f xs ys))) (λ n. rw n (filter-append f xs ys))

filter-same : {A : Type 0} (f g : A → Bool) (xs : List A) → Each (λ x. f x ≡ g x) xs → filter f xs ≡ filter g xs
filter-same f g [] e = refl
filter-same f g (x ∷ xs) e = by_test (g x) (λ t. rw (e.0, t) (ap (λ l. x ∷ l) (filter-same f g xs e.1))) (λ n. rw (e.0, n) (filter-same f g xs e.1))

abbrev Number : Type 0
Number = ℕ × ℕ

abbrev pub by_number : Number → Number → Ordering
by_number a b = nat_cmp a.1 b.1

below_less : (a b : ℕ) → a < b → nat_cmp a b ≡ Less
below_less a b h = rw (lt-ltb a b h) refl

Ascends-more : {A : Type 0} (R : A → A → Ordering) (xs : List A) (y : A) → Ascends R xs → Each (λ x. R x y ≡ Less) xs → Ascends R (xs ++ y ∷ [])
Ascends-more R [] y a e = tt
Ascends-more R (x ∷ []) y a e = (e.0, tt)
Ascends-more R (x ∷ z ∷ zs) y a e = (a.0, Ascends-more R (z ∷ zs) y a.1 e.1)

-- ---- covered places

pub touched_covered : (locks : List Held) (x : Place) (cs : List Change) → touches x cs ≡ true → AreCovered locks cs → Covers locks mode.X x
touched_covered locks x [] t c = absurd (false≢true t)
touched_covered locks x (d ∷ ds) t c = by_kind (or_cases (same_place x d.place) (touches x ds) t) (touched_covered locks x ds)
  where
    by_kind : (same_place x d.place ≡ true) ⊎ (touches x ds ≡ true) → (touches x ds ≡ true → AreCovered locks ds → Covers locks mode.X x) → Covers locks mode.X x
    by_kind (inl e) g = subst (Covers locks mode.X) (sym (same_place-eq x d.place e)) c.0
    by_kind (inr e) g = g e c.1

write_reads : (locks : List Held) (x : Place) → Covers locks mode.X x → Covers locks mode.S x
write_reads locks x h =
    Has-of _ _ locks
    (λ l t. let k = and_parts (covers l.mode mode.X) (is_under l.path x) t in
    and_from (covers l.mode mode.S) (is_under l.path x) (covers-trans l.mode mode.X mode.S k.0 refl) k.1) h

-- ---- what holds of a right log

pub record IsWritten (l : List LogItem) : Type 0 where
  pub committed : (c : Number) → IsIn c (commits l) → Has (λ p. p.tx ≡ c.0) (prepares l)
  pub numbered : Each (λ c. c.1 ≤ floor_of l) (commits l)
  pub known : (p : Prepared) → IsIn p (doubts l) → Has (λ q. q.tx ≡ p.tx) (prepares l)
  pub changes : (p : Prepared) → IsIn p (doubts l) → ch l p.tx ≡ p.changes
  pub agree : (p q : Prepared) → IsIn p (doubts l) → IsIn q (doubts l) → p.tx ≢ q.tx → LocksAgree p.locks q.locks
  pub closed : (p : Prepared) → IsIn p (doubts l) → AreClosed p.locks
  pub covered : (p : Prepared) → IsIn p (doubts l) → AreCovered p.locks p.changes
  -- (w1) and (w2)
  pub ascend : (x : Place) → Ascends by_number (writers l x)
  pub floors : (x : Place) (p : Prepared) → IsIn p (doubts l) → touches x p.changes ≡ true → Each (λ c. c.1 ≤ p.floor) (writers l x)

pub nothing_written : IsWritten []
nothing_written =
    record {
      committed = λ c i. absurd i;
      numbered = tt;
      known = λ p i. absurd i;
      changes = λ p i. absurd i;
      agree = λ p q i j n. absurd i;
      closed = λ p i. absurd i;
      covered = λ p i. absurd i;
      ascend = λ x. tt;
      floors = λ x p i t. absurd i;
    }

-- the writers of a log with an item more, where that prepares none of those that committed
pub writers-more : (l : List LogItem) (i : LogItem) (x : Place) → Each (λ c. ch (l ++ i ∷ []) c.0 ≡ ch l c.0) (commits l ++ commits (i ∷ []))
    → writers (l ++ i ∷ []) x ≡ writers l x ++ filter (λ c. touches x (ch l c.0)) (commits (i ∷ []))
writers-more l i x e =
    ap (λ cs. filter (λ c. touches x (ch (l ++ i ∷ []) c.0)) cs) (commits-append l (i ∷ []))
    ∙ filter-same (λ c. touches x (ch (l ++ i ∷ []) c.0)) (λ c. touches x (ch l c.0)) (commits l ++ commits (i ∷ []))
    (Each-of _ _ (commits l ++ commits (i ∷ [])) (λ c q. ap (touches x) q) e)
    ∙ filter-append (λ c. touches x (ch l c.0)) (commits l) (commits (i ∷ []))

pub in_without_tx' : (tx : ℕ) (p : Prepared) (ps : List Prepared) → IsIn p (without_tx tx ps) → IsIn p ps × (p.tx ≢ tx)
in_without_tx' tx p [] h = absurd h
in_without_tx' tx p (q ∷ qs) h =
    by_test (q.tx == tx)
    (λ t. let k = in_without_tx' tx p qs (rw t at h) in (inr k.0, k.1))
    (λ f. here (rw f at h) (eqb-false q.tx tx f) (in_without_tx' tx p qs))
  where
    here : IsIn p (q ∷ without_tx tx qs) → (q.tx ≡ tx → ⊥) → (IsIn p (without_tx tx qs) → IsIn p qs × (p.tx ≢ tx)) → IsIn p (q ∷ qs) × (p.tx ≢ tx)
    here (inl e) n g = (inl e, λ z. n (subst (λ w. w.tx ≡ tx) (sym e) z))
    here (inr i) n g = let k = g i in (inr k.0, k.1)

-- ---- an abort

pub same_ch : (l : List LogItem) (i : LogItem) → prepares (i ∷ []) ≡ [] → (t : ℕ) → ch (l ++ i ∷ []) t ≡ ch l t
same_ch l i none t = ch-append l (i ∷ []) t (subst (Each (λ p. p.tx ≢ t)) (sym none) tt)

same_prepares : (l : List LogItem) (i : LogItem) → prepares (i ∷ []) ≡ [] → prepares (l ++ i ∷ []) ≡ prepares l
same_prepares l i none = prepares-append l (i ∷ []) ∙ ap (λ ps. prepares l ++ ps) none ∙ append-nil (prepares l)

aborts_one : (l : List LogItem) (tx : ℕ) → IsWritten l → IsWritten (l ++ item.Abort (record { 0 = tx }) ∷ [])
aborts_one l tx w =
    record {
      committed = λ c i. subst (Has (λ p. p.tx ≡ c.0)) (sym same_ps) (w.committed c (subst (IsIn c) same_cs i));
      numbered = subst (λ f. Each (λ c. c.1 ≤ f) (commits (l ++ item.Abort (record { 0 = tx }) ∷ []))) (sym (floor-abort l (record { 0 = tx }))) (subst (Each (λ c. c.1 ≤ floor_of l)) (sym same_cs) w.numbered);
      known = λ p i. subst (Has (λ q. q.tx ≡ p.tx)) (sym same_ps) (w.known p (old p i));
      changes = λ p i. same_ch l (item.Abort (record { 0 = tx })) refl p.tx ∙ w.changes p (old p i);
      agree = λ p q i j n. w.agree p q (old p i) (old q j) n;
      closed = λ p i. w.closed p (old p i);
      covered = λ p i. w.covered p (old p i);
      ascend = λ x. subst (Ascends by_number) (sym (same_ws x)) (w.ascend x);
      floors = λ x p i t. subst (Each (λ c. c.1 ≤ p.floor)) (sym (same_ws x)) (w.floors x p (old p i) t);
    }
  where
    same_ps : prepares (l ++ item.Abort (record { 0 = tx }) ∷ []) ≡ prepares l
    same_ps = same_prepares l (item.Abort (record { 0 = tx })) refl

    same_cs : commits (l ++ item.Abort (record { 0 = tx }) ∷ []) ≡ commits l
    same_cs = commits-append l (item.Abort (record { 0 = tx }) ∷ []) ∙ append-nil (commits l)

    same_ws : (x : Place) → writers (l ++ item.Abort (record { 0 = tx }) ∷ []) x ≡ writers l x
    same_ws x =
        writers-more l (item.Abort (record { 0 = tx })) x (Each-in _ (commits l ++ []) (λ c i. same_ch l (item.Abort (record { 0 = tx })) refl c.0))
        ∙ append-nil (writers l x)

    old : (p : Prepared) → IsIn p (doubts (l ++ item.Abort (record { 0 = tx }) ∷ [])) → IsIn p (doubts l)
    old p i = (in_without_tx' tx p (doubts l) (subst (IsIn p) (doubts-abort l (record { 0 = tx })) i)).0

-- ---- a commit

-- the branch that commits
record Committing (l : List LogItem) (tx n : ℕ) : Type 0 where
  branch : Prepared
  within : IsIn branch (doubts l)
  of_tx : branch.tx ≡ tx
  above : branch.floor < n

committing : (l : List LogItem) (tx n : ℕ) → Has (λ p. (p.tx ≡ tx) × (p.floor < n)) (doubts l) → Committing l tx n
committing l tx n h =
    let b = pick (λ p. (p.tx ≡ tx) × (p.floor < n)) (λ p. IsIn p (doubts l)) (doubts l) h (Each-in (λ p. IsIn p (doubts l)) (doubts l) (λ p i. i)) in
    record { branch = b.item; within = b.other; of_tx = b.one.0; above = b.one.1 }

pub one_filtered : {A : Type 0} (P : A → Type 0) (f : A → Bool) (x : A) → (f x ≡ true → P x) → Each P (filter f (x ∷ []))
one_filtered P f x g = by_test (f x) (λ t. rw t (g t, tt)) (λ n. rw n tt)

ascend_one : (xs : List Number) (f : Number → Bool) (y : Number) → Ascends by_number xs → (f y ≡ true → Each (λ x. by_number x y ≡ Less) xs)
    → Ascends by_number (xs ++ filter f (y ∷ []))
ascend_one xs f y a g =
    by_test (f y) (λ t. rw t (Ascends-more by_number xs y a (g t))) (λ n. rw n (subst (Ascends by_number) (sym (append-nil xs)) a))

below_max : (a b c : ℕ) → a ≤ b → a ≤ max b c
below_max a b c h = grind arith

above_max : (b c : ℕ) → c ≤ max b c
above_max b c = grind arith

abbrev it : ℕ → ℕ → LogItem
it tx n = item.Commit (record { 0 = tx }) (record { 0 = n })

is_one : (d e : Number) → IsIn d (e ∷ []) → d ≡ e
is_one d e (inl h) = sym h
is_one d e (inr h) = absurd h

commits_one : (l : List LogItem) (tx n : ℕ) → Committing l tx n → IsWritten l → IsWritten (l ++ item.Commit (record { 0 = tx }) (record { 0 = n }) ∷ [])
commits_one l tx n c w =
    record {
      committed = λ d i. subst (Has (λ p. p.tx ≡ d.0)) (sym same_ps) (prepared_of d (in_append d (commits l) ((tx, n) ∷ []) (subst (IsIn d) more_cs i)));
      numbered = subst (λ f. Each (λ d. d.1 ≤ f) (commits (l ++ it tx n ∷ []))) (sym (floor-commit l (record { 0 = tx }) (record { 0 = n })))
          (subst (Each (λ d. d.1 ≤ max (floor_of l) n)) (sym more_cs)
          (Each-append (λ d. d.1 ≤ max (floor_of l) n) (commits l) ((tx, n) ∷ [])
          (Each-of (λ d. d.1 ≤ floor_of l) (λ d. d.1 ≤ max (floor_of l) n) (commits l) (λ d h. below_max d.1 (floor_of l) n h) w.numbered) (above_max (floor_of l) n, tt)));
      known = λ p i. subst (Has (λ q. q.tx ≡ p.tx)) (sym same_ps) (w.known p (old p i).0);
      changes = λ p i. same_ch l (it tx n) refl p.tx ∙ w.changes p (old p i).0;
      agree = λ p q i j u. w.agree p q (old p i).0 (old q j).0 u;
      closed = λ p i. w.closed p (old p i).0;
      covered = λ p i. w.covered p (old p i).0;
      ascend = λ x. subst (Ascends by_number) (sym (more_ws x)) (ascend_one (writers l x) (λ d. touches x (ch l d.0)) (tx, n) (w.ascend x) (λ t. above x t));
      floors = λ x p i t. subst (Each (λ d. d.1 ≤ p.floor)) (sym (more_ws x))
          (Each-append (λ d. d.1 ≤ p.floor) (writers l x) (filter (λ d. touches x (ch l d.0)) ((tx, n) ∷ [])) (w.floors x p (old p i).0 t)
          (one_filtered {A = Number} (λ d. d.1 ≤ p.floor) (λ d. touches x (ch l d.0)) (tx, n) (λ u. absurd (apart x p (old p i) t u))));
    }
  where
    same_ps : prepares (l ++ it tx n ∷ []) ≡ prepares l
    same_ps = same_prepares l (it tx n) refl

    more_cs : commits (l ++ it tx n ∷ []) ≡ commits l ++ (tx, n) ∷ []
    more_cs = commits-append l (it tx n ∷ [])

    more_ws : (x : Place) → writers (l ++ it tx n ∷ []) x ≡ writers l x ++ filter (λ d. touches x (ch l d.0)) ((tx, n) ∷ [])
    more_ws x = writers-more l (it tx n) x (Each-in _ (commits l ++ (tx, n) ∷ []) (λ d i. same_ch l (it tx n) refl d.0))

    prepared_of : (d : Number) → IsIn d (commits l) ⊎ IsIn d ((tx, n) ∷ []) → Has (λ p. p.tx ≡ d.0) (prepares l)
    prepared_of d (inl i) = w.committed d i
    prepared_of d (inr i) =
        let e : d ≡ (tx, n) = is_one d (tx, n) i in
        Has-of (λ q. q.tx ≡ c.branch.tx) (λ q. q.tx ≡ d.0) (prepares l) (λ q h. h ∙ c.of_tx ∙ sym (ap (λ z. z.0) e)) (w.known c.branch c.within)

    old : (p : Prepared) → IsIn p (doubts (l ++ it tx n ∷ [])) → IsIn p (doubts l) × (p.tx ≢ tx)
    old p i = in_without_tx' tx p (doubts l) (subst (IsIn p) (doubts-commit l (record { 0 = tx }) (record { 0 = n })) i)

    touched : (x : Place) → touches x (ch l tx) ≡ true → touches x c.branch.changes ≡ true
    touched x t = subst (λ cs. touches x cs ≡ true) (w.changes c.branch c.within) (subst (λ s. touches x (ch l s) ≡ true) (sym c.of_tx) t)

    above : (x : Place) → touches x (ch l tx) ≡ true → Each (λ d. by_number d (tx, n) ≡ Less) (writers l x)
    above x t =
        Each-of (λ d. d.1 ≤ c.branch.floor) (λ d. by_number d (tx, n) ≡ Less) (writers l x) (λ d h. below_less d.1 n (under d.1 h)) (w.floors x c.branch c.within (touched x t))
      where
        under : (k : ℕ) → k ≤ c.branch.floor → k < n
        under k h = omega (arith, c.above)

    apart : (x : Place) (p : Prepared) → IsIn p (doubts l) × (p.tx ≢ tx) → touches x p.changes ≡ true → touches x (ch l tx) ≡ true → ⊥
    apart x p i t u =
        cover c.branch.locks p.locks x (w.closed c.branch c.within) (w.closed p i.0) (w.agree c.branch p c.within i.0 (λ e. i.1 (sym e ∙ c.of_tx)))
        (write_reads c.branch.locks x (touched_covered c.branch.locks x c.branch.changes (touched x u) (w.covered c.branch c.within)))
        (touched_covered p.locks x p.changes t (w.covered p i.0))

-- ---- a vote

changes_or-last : (old : List Change) (t : ℕ) (ps : List Prepared) (p : Prepared) → p.tx ≡ t → changes_or old t (ps ++ p ∷ []) ≡ p.changes
changes_or-last old t [] p e = let h : (p.tx == t) ≡ true = eq-eqb p.tx t e in rw h refl
changes_or-last old t (q ∷ qs) p e = changes_or-last (cond (q.tx == t) q.changes old) t qs p e

votes_one : (l : List LogItem) (p : Prepared) (i : LogItem) → prepares (i ∷ []) ≡ p ∷ [] → commits (i ∷ []) ≡ []
    → doubts (l ++ i ∷ []) ≡ doubts l ++ p ∷ [] → floor_of (l ++ i ∷ []) ≡ floor_of l
    → PrepareFits l p → IsWritten l → IsWritten (l ++ i ∷ [])
votes_one l p i ps cs ds fs f w =
    record {
      committed = λ c h. subst (Has (λ q. q.tx ≡ c.0)) (sym more_ps) (Has-front (λ q. q.tx ≡ c.0) (prepares l) (p ∷ []) (w.committed c (subst (IsIn c) same_cs h)));
      numbered = subst (λ g. Each (λ c. c.1 ≤ g) (commits (l ++ i ∷ []))) (sym fs) (subst (Each (λ c. c.1 ≤ floor_of l)) (sym same_cs) w.numbered);
      known = λ q h. known q (kind q h);
      changes = λ q h. changes q (kind q h);
      agree = λ q r h k u. agree q r u (kind q h) (kind r k);
      closed = λ q h. closed q (kind q h);
      covered = λ q h. covered q (kind q h);
      ascend = λ x. subst (Ascends by_number) (sym (same_ws x)) (w.ascend x);
      floors = λ x q h t. subst (Each (λ c. c.1 ≤ q.floor)) (sym (same_ws x)) (floors x q t (kind q h));
    }
  where
    more_ps : prepares (l ++ i ∷ []) ≡ prepares l ++ p ∷ []
    more_ps = prepares-append l (i ∷ []) ∙ ap (λ z. prepares l ++ z) ps

    same_cs : commits (l ++ i ∷ []) ≡ commits l
    same_cs = commits-append l (i ∷ []) ∙ ap (λ z. commits l ++ z) cs ∙ append-nil (commits l)

    other_ch : (t : ℕ) → p.tx ≢ t → ch (l ++ i ∷ []) t ≡ ch l t
    other_ch t n = ch-append l (i ∷ []) t (subst (Each (λ q. q.tx ≢ t)) (sym ps) (n, tt))

    -- one that was prepared before is of another transaction
    other : (t : ℕ) → Has (λ q. q.tx ≡ t) (prepares l) → p.tx ≢ t
    other t h e = let b = pick (λ q. q.tx ≡ t) (λ q. q.tx ≢ p.tx) (prepares l) h f.first in b.other (b.one ∙ sym e)

    same_ws : (x : Place) → writers (l ++ i ∷ []) x ≡ writers l x
    same_ws x =
        writers-more l i x
        (Each-append _ (commits l) (commits (i ∷ [])) (Each-in _ (commits l) (λ c h. other_ch c.0 (other c.0 (w.committed c h)))) (subst (Each _) (sym cs) tt))
        ∙ ap (λ z. writers l x ++ filter (λ c. touches x (ch l c.0)) z) cs ∙ append-nil (writers l x)

    last_prepared : (q : Prepared) → IsIn q (p ∷ []) → q ≡ p
    last_prepared q (inl e) = sym e
    last_prepared q (inr h) = absurd h

    kind_of : (q : Prepared) → IsIn q (doubts l) ⊎ IsIn q (p ∷ []) → IsIn q (doubts l) ⊎ (q ≡ p)
    kind_of q (inl h) = inl h
    kind_of q (inr h) = inr (last_prepared q h)

    kind : (q : Prepared) → IsIn q (doubts (l ++ i ∷ [])) → IsIn q (doubts l) ⊎ (q ≡ p)
    kind q h = kind_of q (in_append q (doubts l) (p ∷ []) (subst (IsIn q) ds h))

    known : (q : Prepared) → IsIn q (doubts l) ⊎ (q ≡ p) → Has (λ r. r.tx ≡ q.tx) (prepares (l ++ i ∷ []))
    known q (inl h) = subst (Has (λ r. r.tx ≡ q.tx)) (sym more_ps) (Has-front (λ r. r.tx ≡ q.tx) (prepares l) (p ∷ []) (w.known q h))
    known q (inr e) = subst (Has (λ r. r.tx ≡ q.tx)) (sym more_ps) (Has-back (λ r. r.tx ≡ q.tx) (prepares l) (p ∷ []) (inl (sym (ap (λ z. z.tx) e))))

    own : ch (l ++ i ∷ []) p.tx ≡ p.changes
    own = ap (λ z. changes_or [] p.tx z) more_ps ∙ changes_or-last [] p.tx (prepares l) p refl

    changes : (q : Prepared) → IsIn q (doubts l) ⊎ (q ≡ p) → ch (l ++ i ∷ []) q.tx ≡ q.changes
    changes q (inl h) = other_ch q.tx (other q.tx (w.known q h)) ∙ w.changes q h
    changes q (inr e) = subst (λ z. ch (l ++ i ∷ []) z.tx ≡ z.changes) (sym e) own

    agree : (q r : Prepared) → q.tx ≢ r.tx → IsIn q (doubts l) ⊎ (q ≡ p) → IsIn r (doubts l) ⊎ (r ≡ p) → LocksAgree q.locks r.locks
    agree q r u (inl h) (inl k) = w.agree q r h k u
    agree q r u (inl h) (inr e) = subst (λ z. LocksAgree q.locks z.locks) (sym e) (in_Each (λ z. LocksAgree z.locks p.locks) q (doubts l) h f.fits.agree)
    agree q r u (inr e) (inl k) =
        subst (λ z. LocksAgree z.locks r.locks) (sym e) (LocksAgree-sym r.locks p.locks (in_Each (λ z. LocksAgree z.locks p.locks) r (doubts l) k f.fits.agree))
    agree q r u (inr e) (inr g) = absurd (u (ap (λ z. z.tx) (e ∙ sym g)))

    closed : (q : Prepared) → IsIn q (doubts l) ⊎ (q ≡ p) → AreClosed q.locks
    closed q (inl h) = w.closed q h
    closed q (inr e) = subst (λ z. AreClosed z.locks) (sym e) f.fits.closed

    covered : (q : Prepared) → IsIn q (doubts l) ⊎ (q ≡ p) → AreCovered q.locks q.changes
    covered q (inl h) = w.covered q h
    covered q (inr e) = subst (λ z. AreCovered z.locks z.changes) (sym e) f.fits.covered

    floors : (x : Place) (q : Prepared) → touches x q.changes ≡ true → IsIn q (doubts l) ⊎ (q ≡ p) → Each (λ c. c.1 ≤ q.floor) (writers l x)
    floors x q t (inl h) = w.floors x q h t
    floors x q t (inr e) =
        Each-filter (λ c. c.1 ≤ q.floor) (λ c. touches x (ch l c.0)) (commits l)
        (subst (λ z. Each (λ c. c.1 ≤ z.floor) (commits l)) (sym e) (subst (λ g. Each (λ c. c.1 ≤ g) (commits l)) (sym f.floor) w.numbered))

-- ---- each item

pub written_more : (l : List LogItem) (i : LogItem) → Fits l i → IsWritten l → IsWritten (l ++ i ∷ [])
written_more l (item.Prepare tx floor locks changes) f w =
    votes_one l (record { tx = tx.0; floor = floor.0; locks = locks; changes = changes }) (item.Prepare tx floor locks changes) refl refl
    (doubts-prepare l tx floor locks changes) (floor-prepare l tx floor locks changes) f w
written_more l (item.Commit tx n) f w = commits_one l tx.0 n.0 (committing l tx.0 n.0 f) w
written_more l (item.Abort tx) f w = aborts_one l tx.0 w
written_more l (item.Decision tx n nodes) f w = absurd f
written_more l (item.Ids upto) f w = absurd f

written_from : (done l : List LogItem) → LogOK done l → IsWritten done → IsWritten (done ++ l)
written_from done [] ok w = subst IsWritten (sym (append-nil done)) w
written_from done (i ∷ is) ok w =
    subst IsWritten (append_assoc done (i ∷ []) is) (written_from (done ++ i ∷ []) is ok.1 (written_more done i ok.0 w))

-- in a right log the writers of each place ascend, and the floors of doubts are not below them
pub written : (l : List LogItem) → LogOK [] l → IsWritten l
written l ok = written_from [] l ok nothing_written
