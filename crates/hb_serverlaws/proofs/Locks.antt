-- The locks of a server's branches agree, are closed and cover, along each run.
use Rattle.std.proofs.Common.{◌≡◌, ◌≢◌, ℕ, refl, sym, subst, ◌∙◌, ap, List, [], ◌∷◌, ◌++◌, ◌⊎◌, inl, inr, map}
use Rattle.std.specs.Prelude.{◌==◌}
use Rattle.std.specs.Ordering.{is_lt}
use Rattle.std.proofs.lemmas.Bool.{eqb-true, eqb-false}
use Rattle.hb_types.specs.declared.change.Change.{Change}
use Rattle.hb_types.specs.declared.change.LogItem.{LogItem}
use Rattle.hb_types.specs.declared.change.LogItem.TheVariants as item
use Rattle.hb_types.specs.declared.lock.Held.{Held}
use Rattle.hb_types.specs.declared.lock.Mode.TheVariants as mode
use Rattle.hb_types.specs.declared.places.Path.TheVariants as path
use Rattle.hb_types.specs.declared.places.Place.{Place}
use Rattle.hb_types.specs.Lists.{Each, IsIn}
use Rattle.hb_types.specs.Places.{same_place, place_cmp}
use Rattle.hb_types.specs.Put.{normal, normal_onto, with_change, without_change}
use Rattle.hb_types.proofs.Ascending.{Each-append, Each-in, in_Each, Has-front, Has-back}
use Rattle.hb_types.proofs.PutLaws.{by_test}
use Rattle.hb_types.proofs.SamePlace.{same_place-refl}
use Rattle.hb_disks.specs.Redo.{Redone, Prepared, redo_from, without_tx}
use Rattle.hb_disks.specs.LogRules.{LocksAgree, AreClosed, AreCovered, Covers, Agree}
use Rattle.hb_disks.proofs.Fold.{redo_from-append}
use Rattle.hb_runs.specs.Server.{Branch, SState, now, as_branch, unended, wanted}
use Rattle.hb_runs.specs.ServerEffects.{Effect, enlisted, granted, written, prepared, committed, aborted, dropped, lost, came_up, Allowed, happens, Steps, without_live, changing, grant, write, votes_of}
use Rattle.hb_runs.specs.ServerRuns.{Run, Asked}
use Rattle.hb_loglaws.proofs.Agreeing.{LocksAgree-sym}
use Rattle.hb_loglaws.proofs.Members.{Has-in, in_append}
use Rattle.hb_serverlaws.proofs.Covering.{holds_covers}
use Rattle.hb_serverlaws.proofs.Granting.{agree_grows, closed_grows, covered_grows}

-- ---- the invariant

abbrev pub Of : List Branch → List Branch → Branch → Type 0
Of live doubted b = IsIn b live ⊎ IsIn b doubted

pub record IsFit (b : Branch) : Type 0 where
  pub closed : AreClosed b.locks
  pub covered : AreCovered b.locks b.own

-- live branches and those in doubt: one of a transaction lives and none of it is in doubt then; locks of two agree; each is fit
pub record Locked (live doubted : List Branch) : Type 0 where
  pub unique : (b c : Branch) → IsIn b live → IsIn c live → b.tx ≡ c.tx → b ≡ c
  pub split : (b d : Branch) → IsIn b live → IsIn d doubted → b.tx ≢ d.tx
  pub agree : (b c : Branch) → Of live doubted b → Of live doubted c → b.tx ≢ c.tx → LocksAgree b.locks c.locks
  pub fit : (b : Branch) → Of live doubted b → IsFit b

abbrev pub doubted : SState → List Branch
doubted s = map as_branch (now s).doubts

abbrev pub IsLocked : SState → Type 0
IsLocked s = Locked s.live (doubted s)

-- ---- fewer branches

either : {A B C D : Type 0} → (A → C) → (B → D) → A ⊎ B → C ⊎ D
either f g (inl a) = inl (f a)
either f g (inr b) = inr (g b)

fewer : (l d l' d' : List Branch) → ((b : Branch) → IsIn b l' → IsIn b l) → ((b : Branch) → IsIn b d' → IsIn b d) → Locked l d → Locked l' d'
fewer l d l' d' f g k =
    record {
      unique = λ b c i j e. k.unique b c (f b i) (f c j) e;
      split = λ b c i j. k.split b c (f b i) (g c j);
      agree = λ b c i j n. k.agree b c (either (f b) (g b) i) (either (f c) (g c) j) n;
      fit = λ b i. k.fit b (either (f b) (g b) i);
    }

pub in_without_live : (tx : ℕ) (b : Branch) (bs : List Branch) → IsIn b (without_live tx bs) → IsIn b bs × (b.tx ≢ tx)
in_without_live tx b [] h = absurd h
in_without_live tx b (c ∷ cs) h =
    by_test (c.tx == tx)
    (λ t. let k = in_without_live tx b cs (rw t at h) in (inr k.0, k.1))
    (λ f. here (rw f at h) (eqb-false c.tx tx f) (in_without_live tx b cs))
  where
    here : IsIn b (c ∷ without_live tx cs) → (c.tx ≡ tx → ⊥) → (IsIn b (without_live tx cs) → IsIn b cs × (b.tx ≢ tx)) → IsIn b (c ∷ cs) × (b.tx ≢ tx)
    here (inl e) n g = (inl e, λ q. n (subst (λ z. z.tx ≡ tx) (sym e) q))
    here (inr i) n g = let k = g i in (inr k.0, k.1)

in_without_tx : (tx : ℕ) (b : Branch) (ps : List Prepared) → IsIn b (map as_branch (without_tx tx ps)) → IsIn b (map as_branch ps)
in_without_tx tx b [] h = h
in_without_tx tx b (p ∷ ps) h =
    by_test (p.tx == tx) (λ t. inr (in_without_tx tx b ps (rw t at h))) (λ f. here (rw f at h) (in_without_tx tx b ps))
  where
    here : IsIn b (map as_branch (p ∷ without_tx tx ps)) → (IsIn b (map as_branch (without_tx tx ps)) → IsIn b (map as_branch ps)) → IsIn b (map as_branch (p ∷ ps))
    here (inl e) g = inl e
    here (inr i) g = inr (g i)

-- ---- a branch more

pub last_is : (b n : Branch) → IsIn b (n ∷ []) → b ≡ n
last_is b n (inl e) = sym e
last_is b n (inr h) = absurd h

nothing_agrees : (ls : List Held) → LocksAgree ls []
nothing_agrees ls = Each-in (λ l. Each (Agree l) []) ls (λ l i. tt)

more : (l d : List Branch) (n : Branch) → n.locks ≡ [] → n.own ≡ [] → ((b : Branch) → Of l d b → b.tx ≢ n.tx) → Locked l d → Locked (l ++ n ∷ []) d
more l d n empty none new k =
    record {
      unique = λ b c i j e. unique b c (kind b (inl i)) (kind c (inl j)) e (apart b i) (apart c j);
      split = λ b c i j. split b c (apart b i) j;
      agree = λ b c i j u. agree b c (kind b i) (kind c j) u;
      fit = λ b i. fit b (kind b i);
    }
  where
    apart : (b : Branch) → IsIn b (l ++ n ∷ []) → IsIn b l ⊎ (b ≡ n)
    apart b i = either (λ h. h) (last_is b n) (in_append b l (n ∷ []) i)

    kind_of : (b : Branch) → IsIn b l ⊎ (b ≡ n) → Of l d b ⊎ (b ≡ n)
    kind_of b (inl i) = inl (inl i)
    kind_of b (inr e) = inr e

    kind : (b : Branch) → Of (l ++ n ∷ []) d b → Of l d b ⊎ (b ≡ n)
    kind b (inl i) = kind_of b (apart b i)
    kind b (inr i) = inl (inr i)

    unique : (b c : Branch) → Of l d b ⊎ (b ≡ n) → Of l d c ⊎ (c ≡ n) → b.tx ≡ c.tx → IsIn b l ⊎ (b ≡ n) → IsIn c l ⊎ (c ≡ n) → b ≡ c
    unique b c i j e (inl p) (inl q) = k.unique b c p q e
    unique b c i j e (inl p) (inr q) = absurd (new b (inl p) (e ∙ ap (λ z. z.tx) q))
    unique b c i j e (inr p) (inl q) = absurd (new c (inl q) (sym e ∙ ap (λ z. z.tx) p))
    unique b c i j e (inr p) (inr q) = p ∙ sym q

    split : (b c : Branch) → IsIn b l ⊎ (b ≡ n) → IsIn c d → b.tx ≢ c.tx
    split b c (inl p) j = k.split b c p j
    split b c (inr p) j = λ e. new c (inr j) (sym e ∙ ap (λ z. z.tx) p)

    agree : (b c : Branch) → Of l d b ⊎ (b ≡ n) → Of l d c ⊎ (c ≡ n) → b.tx ≢ c.tx → LocksAgree b.locks c.locks
    agree b c (inl i) (inl j) u = k.agree b c i j u
    agree b c (inr e) j u = subst (λ ls. LocksAgree ls c.locks) (sym (ap (λ z. z.locks) e ∙ empty)) tt
    agree b c (inl i) (inr e) u = subst (λ ls. LocksAgree b.locks ls) (sym (ap (λ z. z.locks) e ∙ empty)) (nothing_agrees b.locks)

    fit : (b : Branch) → Of l d b ⊎ (b ≡ n) → IsFit b
    fit b (inl i) = k.fit b i
    fit b (inr e) =
        record {
          closed = subst AreClosed (sym (ap (λ z. z.locks) e ∙ empty)) tt;
          covered = subst (AreCovered b.locks) (sym (ap (λ z. z.own) e ∙ none)) tt;
        }

-- ---- branches changed

-- a branch that came of another by a change
pub record From (tx : ℕ) (f : Branch → Branch) (bs : List Branch) (x : Branch) : Type 0 where
  pub old : Branch
  pub within : IsIn old bs
  pub of_tx : old.tx ≡ tx
  pub new : x ≡ f old

abbrev pub Stays : ℕ → List Branch → Branch → Type 0
Stays tx bs x = IsIn x bs × (x.tx ≢ tx)

wider : (tx : ℕ) (f : Branch → Branch) (b x : Branch) (bs : List Branch) → Stays tx bs x ⊎ From tx f bs x → Stays tx (b ∷ bs) x ⊎ From tx f (b ∷ bs) x
wider tx f b x bs (inl s) = inl (inr s.0, s.1)
wider tx f b x bs (inr r) = inr (record { old = r.old; within = inr r.within; of_tx = r.of_tx; new = r.new })

pub in_changing : (tx : ℕ) (f : Branch → Branch) (x : Branch) (bs : List Branch) → IsIn x (changing tx f bs) → Stays tx bs x ⊎ From tx f bs x
in_changing tx f x [] h = absurd h
in_changing tx f x (b ∷ bs) h =
    by_test (b.tx == tx)
    (λ t. changed_here (rw t at h) (eqb-true b.tx tx t) (in_changing tx f x bs))
    (λ n. stays_here (rw n at h) (eqb-false b.tx tx n) (in_changing tx f x bs))
  where
    changed_here : IsIn x (f b ∷ changing tx f bs) → b.tx ≡ tx → (IsIn x (changing tx f bs) → Stays tx bs x ⊎ From tx f bs x)
        → Stays tx (b ∷ bs) x ⊎ From tx f (b ∷ bs) x
    changed_here (inl e) q g = inr (record { old = b; within = inl refl; of_tx = q; new = sym e })
    changed_here (inr i) q g = wider tx f b x bs (g i)

    stays_here : IsIn x (b ∷ changing tx f bs) → (b.tx ≡ tx → ⊥) → (IsIn x (changing tx f bs) → Stays tx bs x ⊎ From tx f bs x)
        → Stays tx (b ∷ bs) x ⊎ From tx f (b ∷ bs) x
    stays_here (inl e) q g = inl (inl e, λ z. q (subst (λ c. c.tx ≡ tx) (sym e) z))
    stays_here (inr i) q g = wider tx f b x bs (g i)

-- what a change of a branch must keep
pub record Good (l d : List Branch) (tx : ℕ) (f : Branch → Branch) (b : Branch) : Type 0 where
  pub same_tx : (f b).tx ≡ tx
  pub fit : IsFit (f b)
  pub agree : (c : Branch) → Of l d c → c.tx ≢ tx → LocksAgree (f b).locks c.locks

changed : (l d : List Branch) (tx : ℕ) (f : Branch → Branch) → ((b : Branch) → IsIn b l → b.tx ≡ tx → Good l d tx f b) → Locked l d → Locked (changing tx f l) d
changed l d tx f good k =
    record {
      unique = λ x y i j e. unique x y e (in_changing tx f x l i) (in_changing tx f y l j);
      split = λ x y i j. split x y j (in_changing tx f x l i);
      agree = λ x y i j n. agree x y n (kind x i) (kind y j);
      fit = λ x i. fit x (kind x i);
    }
  where
    new_tx : (x : Branch) → From tx f l x → x.tx ≡ tx
    new_tx x r = ap (λ z. z.tx) r.new ∙ (good r.old r.within r.of_tx).same_tx

    unique : (x y : Branch) → x.tx ≡ y.tx → Stays tx l x ⊎ From tx f l x → Stays tx l y ⊎ From tx f l y → x ≡ y
    unique x y e (inl i) (inl j) = k.unique x y i.0 j.0 e
    unique x y e (inl i) (inr r) = absurd (i.1 (e ∙ new_tx y r))
    unique x y e (inr r) (inl j) = absurd (j.1 (sym e ∙ new_tx x r))
    unique x y e (inr r) (inr q) = r.new ∙ ap f (k.unique r.old q.old r.within q.within (r.of_tx ∙ sym q.of_tx)) ∙ sym q.new

    split : (x y : Branch) → IsIn y d → Stays tx l x ⊎ From tx f l x → x.tx ≢ y.tx
    split x y j (inl i) = k.split x y i.0 j
    split x y j (inr r) = λ e. k.split r.old y r.within j (r.of_tx ∙ sym (new_tx x r) ∙ e)

    kind_of : (x : Branch) → Stays tx l x ⊎ From tx f l x → Of l d x ⊎ From tx f l x
    kind_of x (inl i) = inl (inl i.0)
    kind_of x (inr r) = inr r

    kind : (x : Branch) → Of (changing tx f l) d x → Of l d x ⊎ From tx f l x
    kind x (inl i) = kind_of x (in_changing tx f x l i)
    kind x (inr i) = inl (inr i)

    agree : (x y : Branch) → x.tx ≢ y.tx → Of l d x ⊎ From tx f l x → Of l d y ⊎ From tx f l y → LocksAgree x.locks y.locks
    agree x y n (inl i) (inl j) = k.agree x y i j n
    agree x y n (inr r) (inl j) =
        subst (λ z. LocksAgree z.locks y.locks) (sym r.new) ((good r.old r.within r.of_tx).agree y j (λ e. n (new_tx x r ∙ sym e)))
    agree x y n (inl i) (inr r) =
        subst (λ z. LocksAgree x.locks z.locks) (sym r.new)
        (LocksAgree-sym (f r.old).locks x.locks ((good r.old r.within r.of_tx).agree x i (λ e. n (e ∙ sym (new_tx y r)))))
    agree x y n (inr r) (inr q) = absurd (n (new_tx x r ∙ sym (new_tx y q)))

    fit : (x : Branch) → Of l d x ⊎ From tx f l x → IsFit x
    fit x (inl i) = k.fit x i
    fit x (inr r) = subst IsFit (sym r.new) (good r.old r.within r.of_tx).fit

-- ---- a vote

Each-with_change : (P : Change → Type 0) (c : Change) (ds : List Change) → P c → Each P ds → Each P (with_change c ds)
Each-with_change P c [] p e = (p, tt)
Each-with_change P c (d ∷ ds) p e = by_test (is_lt (place_cmp d.place c.place)) (λ t. rw t (e.0, Each-with_change P c ds p e.1)) (λ f. rw f (p, e))

Each-without_change : (P : Change → Type 0) (x : Place) (ds : List Change) → Each P ds → Each P (without_change x ds)
Each-without_change P x [] e = tt
Each-without_change P x (d ∷ ds) e = by_test (same_place x d.place) (λ t. rw t (Each-without_change P x ds e.1)) (λ f. rw f (e.0, Each-without_change P x ds e.1))

Each-normal_onto : (P : Change → Type 0) (done cs : List Change) → Each P done → Each P cs → Each P (normal_onto done cs)
Each-normal_onto P done [] e f = e
Each-normal_onto P done (c ∷ cs) e f =
    Each-normal_onto P (with_change c (without_change c.place done)) cs
    (Each-with_change P c (without_change c.place done) f.0 (Each-without_change P c.place done e)) f.1

pub Each-normal : (P : Change → Type 0) (cs : List Change) → Each P cs → Each P (normal cs)
Each-normal P cs e = Each-normal_onto P [] cs tt e

-- a branch as its vote has it
abbrev pub voted : Branch → Branch
voted b = record b { own = normal b.own }

in_one_more : (x : Branch) (ps : List Prepared) (p : Prepared) → IsIn x (map as_branch (ps ++ p ∷ [])) → IsIn x (map as_branch ps) ⊎ (x ≡ as_branch p)
in_one_more x [] p (inl e) = inr (sym e)
in_one_more x [] p (inr h) = absurd h
in_one_more x (q ∷ qs) p (inl e) = inl (inl e)
in_one_more x (q ∷ qs) p (inr h) = either inr (λ e. e) (in_one_more x qs p h)

more_voted : (tx : ℕ) (b x : Branch) (bs : List Branch) → From tx voted bs x → From tx voted (b ∷ bs) x
more_voted tx b x bs r = record { old = r.old; within = inr r.within; of_tx = r.of_tx; new = r.new }

in_votes : (s : SState) (tx : ℕ) (r : Redone) (bs : List Branch) (x : Branch)
    → IsIn x (map as_branch (redo_from r (votes_of s tx bs)).doubts) → IsIn x (map as_branch r.doubts) ⊎ From tx voted bs x
in_votes s tx r [] x h = inl h
in_votes s tx r (b ∷ bs) x h =
    by_test (b.tx == tx)
    (λ t. first (eqb-true b.tx tx t) (in_one_more x r.doubts _ (rw t at h)))
    (λ n. either (λ i. i) (more_voted tx b x bs) (in_votes s tx r bs x (rw n at h)))
  where
    first : b.tx ≡ tx → IsIn x (map as_branch r.doubts) ⊎ (x ≡ voted b) → IsIn x (map as_branch r.doubts) ⊎ From tx voted (b ∷ bs) x
    first q (inl i) = inl i
    first q (inr e) = inr (record { old = b; within = inl refl; of_tx = q; new = e })

-- a branch with the transaction and the locks of an old one
pub record Like (l d : List Branch) (x : Branch) : Type 0 where
  pub old : Branch
  pub known : Of l d old
  pub same_tx : x.tx ≡ old.tx
  pub same_locks : x.locks ≡ old.locks

votes : (l d d' : List Branch) (tx : ℕ) → ((x : Branch) → IsIn x d' → IsIn x d ⊎ From tx voted l x) → Locked l d → Locked (without_live tx l) d'
votes l d d' tx from k =
    record {
      unique = λ b c i j e. k.unique b c (in_without_live tx b l i).0 (in_without_live tx c l j).0 e;
      split = λ b x i j. split b x (in_without_live tx b l i) (from x j);
      agree = λ x y i j n. agree x y (like x i) (like y j) n;
      fit = λ x i. fit x i;
    }
  where
    split : (b x : Branch) → Stays tx l b → IsIn x d ⊎ From tx voted l x → b.tx ≢ x.tx
    split b x i (inl j) = k.split b x i.0 j
    split b x i (inr r) = λ e. i.1 (e ∙ ap (λ z. z.tx) r.new ∙ r.of_tx)

    like_from : (x : Branch) → IsIn x d ⊎ From tx voted l x → Like l d x
    like_from x (inl j) = record { old = x; known = inr j; same_tx = refl; same_locks = refl }
    like_from x (inr r) = record { old = r.old; known = inl r.within; same_tx = ap (λ z. z.tx) r.new; same_locks = ap (λ z. z.locks) r.new }

    like : (x : Branch) → Of (without_live tx l) d' x → Like l d x
    like x (inl i) = record { old = x; known = inl (in_without_live tx x l i).0; same_tx = refl; same_locks = refl }
    like x (inr j) = like_from x (from x j)

    agree : (x y : Branch) → Like l d x → Like l d y → x.tx ≢ y.tx → LocksAgree x.locks y.locks
    agree x y p q n =
        subst (λ ls. LocksAgree ls y.locks) (sym p.same_locks)
        (subst (λ ls. LocksAgree p.old.locks ls) (sym q.same_locks) (k.agree p.old q.old p.known q.known (λ e. n (p.same_tx ∙ e ∙ sym q.same_tx))))

    fit_from : (x : Branch) → IsIn x d ⊎ From tx voted l x → IsFit x
    fit_from x (inl j) = k.fit x (inr j)
    fit_from x (inr r) =
        let o : IsFit r.old = k.fit r.old (inl r.within) in
        subst IsFit (sym r.new) (record { closed = o.closed; covered = Each-normal (λ c. Covers r.old.locks mode.X c.place) r.old.own o.covered })

    fit : (x : Branch) → Of (without_live tx l) d' x → IsFit x
    fit x (inl i) = k.fit x (inl (in_without_live tx x l i).0)
    fit x (inr j) = fit_from x (from x j)

-- ---- each effect

in_unended : (s : SState) (b : Branch) → Of s.live (doubted s) b → IsIn b (unended s)
in_unended s b (inl i) = Has-front (λ c. c ≡ b) s.live (doubted s) i
in_unended s b (inr i) = Has-back (λ c. c ≡ b) s.live (doubted s) i

-- the doubts once items are logged
logged : (s : SState) (items : List LogItem) (b : Branch) → IsIn b (map as_branch (redo_from s.base (s.log ++ items)).doubts)
    → IsIn b (map as_branch (redo_from (now s) items).doubts)
logged s items b h = subst (λ r. IsIn b (map as_branch r.doubts)) (redo_from-append s.base s.log items) h

-- each effect keeps the locks right
pub locked : (s : SState) (e : Effect) → Allowed s e → IsLocked s → IsLocked (happens s e)
locked s (enlisted tx) a k =
    more s.live (doubted s) (record { tx = tx; locks = []; own = [] }) refl refl (λ b i e. a (Has-in (λ c. c.tx ≡ tx) b (unended s) (in_unended s b i) e)) k
locked s (granted tx p m) a k =
    changed s.live (doubted s) tx (grant p m) (λ b i e. subst (Good s.live (doubted s) tx (grant p m)) (k.unique a.0 b a.1.0 i (a.1.1 ∙ sym e)) good) k
  where
    good : Good s.live (doubted s) tx (grant p m) a.0
    good =
        record {
          same_tx = a.1.1;
          fit =
              record {
                closed = closed_grows p m a.0.locks a.2 (k.fit a.0 (inl a.1.0)).closed;
                covered = covered_grows p m a.0.locks a.0.own (k.fit a.0 (inl a.1.0)).covered;
              };
          agree = λ c i n. agree_grows p m a.0.locks c.locks (k.agree a.0 c (inl a.1.0) i (λ e. n (sym e ∙ a.1.1)))
              (in_Each (λ o. (o.tx ≢ tx) → LocksAgree o.locks (wanted p m a.0.locks ∷ [])) c (unended s) (in_unended s c i) a.3 n);
        }
locked s (written tx c) a k =
    changed s.live (doubted s) tx (write c) (λ b i e. subst (Good s.live (doubted s) tx (write c)) (k.unique a.0 b a.1.0 i (a.1.1 ∙ sym e)) good) k
  where
    good : Good s.live (doubted s) tx (write c) a.0
    good =
        record {
          same_tx = a.1.1;
          fit =
              record {
                closed = (k.fit a.0 (inl a.1.0)).closed;
                covered = Each-append (λ d. Covers a.0.locks mode.X d.place) a.0.own (c ∷ []) (k.fit a.0 (inl a.1.0)).covered (holds_covers a.0 mode.X (path.Key c.place) c.place a.2 (same_place-refl c.place), tt);
              };
          agree = λ d i n. k.agree a.0 d (inl a.1.0) i (λ e. n (sym e ∙ a.1.1));
        }
locked s (prepared tx) a k =
    votes s.live (doubted s) (doubted (happens s (prepared tx))) tx (λ x i. in_votes s tx (now s) s.live x (logged s (votes_of s tx s.live) x i)) k
locked s (committed tx n) a k =
    fewer s.live (doubted s) s.live (doubted (happens s (committed tx n))) (λ b i. i)
    (λ b i. in_without_tx tx b (now s).doubts (logged s (item.Commit (record { 0 = tx }) (record { 0 = n }) ∷ []) b i)) k
locked s (aborted tx) a k =
    fewer s.live (doubted s) s.live (doubted (happens s (aborted tx))) (λ b i. i)
    (λ b i. in_without_tx tx b (now s).doubts (logged s (item.Abort (record { 0 = tx }) ∷ []) b i)) k
locked s (dropped tx) a k = fewer s.live (doubted s) (without_live tx s.live) (doubted s) (λ b i. (in_without_live tx b s.live i).0) (λ b i. i) k
locked s lost a k = fewer s.live (doubted s) [] (doubted s) (λ b i. absurd i) (λ b i. i) k
locked s came_up a k = k

pub steps_locked : (s : SState) (es : List Effect) (t : SState) → Steps s es t → IsLocked s → IsLocked t
steps_locked s [] t e k = subst IsLocked e k
steps_locked s (e ∷ es) t st k = steps_locked (happens s e) es t st.1 (locked s e st.0 k)

-- along a run the locks stay right
pub run_locked : (s : SState) (asked : List Asked) (t : SState) → Run s asked t → IsLocked s → IsLocked t
run_locked s [] t e k = subst IsLocked e k
run_locked s (a ∷ more) t r k = run_locked r.0 more t r.2 (steps_locked s r.1.effects r.0 r.1.steps k)
