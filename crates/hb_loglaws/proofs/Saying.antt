-- What a right log says: votes and ends once, floors and numbers.
use Rattle.std.proofs.Common.{◌≡◌, ◌≢◌, ◌⊎◌, ℕ, ◌<◌, false, max, List, [], ◌∷◌, ◌++◌, refl, sym, ap, ◌∙◌, subst, inl, inr, map, append_assoc, append-nil}
use Rattle.std.specs.Prelude.{fold, ◌==◌}
use Rattle.std.proofs.lemmas.List.Elements.{filter_map-append}
use Rattle.std.proofs.lemmas.List.{map-append}
use Rattle.std.proofs.lemmas.List.Sums.{fold-append}
use Rattle.std.proofs.lemmas.Bool.{eqb-true, eqb-false, ne_eqb}
use Rattle.hb_types.specs.declared.change.LogItem.{LogItem}
use Rattle.hb_types.specs.declared.change.LogItem.TheVariants as item
use Rattle.hb_types.specs.Lists.{Each, EachBehind, Has, IsIn}
use Rattle.hb_types.proofs.Ascending.{Both, pick, Each-of, Each-append, Each-in, in_Each, Has-of, Has-front, Has-back}
use Rattle.hb_types.proofs.PutLaws.{by_test}
use Rattle.hb_disks.specs.Redo.{Prepared, doubts, floor_of, without_tx}
use Rattle.hb_disks.specs.Says.{prepares, commits}
use Rattle.hb_disks.specs.LogRules.{LogOK, Fits, EndFits, LocksFit, IsBranchItem}
use Rattle.hb_disks.proofs.Fold.{prepares-append, commits-append, doubts-prepare, doubts-commit, doubts-abort, floor-prepare, floor-commit, floor-abort}
use Rattle.hb_loglaws.proofs.Members.{map_in, Has-in}
use Rattle.hb_loglaws.proofs.Writers.{IsWritten, written}
use Rattle.hb_loglaws.specs.Saying.{AreApart, RightLogsAreHalves, RightLogsSay, end_in, ends}

abbrev Number : Type 0
Number = ℕ × ℕ

-- ---- lists

AreApart-last : (xs : List ℕ) (y : ℕ) → AreApart xs → Each (λ x. x ≢ y) xs → AreApart (xs ++ y ∷ [])
AreApart-last [] y a e = (tt, tt)
AreApart-last (x ∷ xs) y a e = (Each-append (λ z. z ≢ x) xs (y ∷ []) a.0 ((λ q. e.0 (sym q)), tt), AreApart-last xs y a.1 e.1)

Each-map : {A B : Type 0} (P : B → Type 0) (f : A → B) (xs : List A) → Each (λ x. P (f x)) xs → Each P (map f xs)
Each-map P f [] e = tt
Each-map P f (x ∷ xs) e = (e.0, Each-map P f xs e.1)

pub stays : (tx : ℕ) (p : Prepared) (ps : List Prepared) → IsIn p ps → p.tx ≢ tx → IsIn p (without_tx tx ps)
stays tx p [] h n = absurd h
stays tx p (q ∷ qs) (inl e) n = let f : (q.tx == tx) ≡ false = ne_eqb q.tx tx (λ z. n (subst (λ w. w.tx ≡ tx) e z)) in rw f (inl e)
stays tx p (q ∷ qs) (inr h) n = by_test (q.tx == tx) (λ t. rw t (stays tx p qs h n)) (λ f. rw f (inr (stays tx p qs h n)))

Each-without : (P : Prepared → Type 0) (tx : ℕ) (ps : List Prepared) → Each P ps → Each (λ p. P p × (p.tx ≢ tx)) (without_tx tx ps)
Each-without P tx [] e = tt
Each-without P tx (p ∷ ps) e = by_test (p.tx == tx) (λ t. rw t (Each-without P tx ps e.1)) (λ f. rw f ((e.0, eqb-false p.tx tx f), Each-without P tx ps e.1))

pub same_or_not : (a b : ℕ) → (a ≡ b) ⊎ (a ≢ b)
same_or_not a b = by_test (a == b) (λ t. inl (eqb-true a b t)) (λ f. inr (eqb-false a b f))

-- ---- what is kept, item by item

pub record IsOnce (log : List LogItem) : Type 0 where
  pub voted_once : AreApart (map (λ p. p.tx) (prepares log))
  pub ended_once : AreApart (ends log)
  pub ended : Each (λ t. Has (λ p. p.tx ≡ t) (prepares log)) (ends log)
  pub unended : Each (λ p. Each (λ t. t ≢ p.tx) (ends log)) (doubts log)
  pub in_doubt : Each (λ p. IsIn p (doubts log) ⊎ Has (λ t. t ≡ p.tx) (ends log)) (prepares log)
  pub within : Each (λ p. IsIn p (prepares log)) (doubts log)
  pub floor : floor_of log ≡ fold max 0 (map (λ c. c.1) (commits log))
  pub above : Each (λ c. Each (λ p. p.tx ≡ c.0 → p.floor < c.1) (prepares log)) (commits log)
  pub committed : Each (λ c. Has (λ t. t ≡ c.0) (ends log)) (commits log)

none_once : IsOnce []
none_once = record { voted_once = tt; ended_once = tt; ended = tt; unended = tt; in_doubt = tt; within = tt; floor = refl; above = tt; committed = tt }

ends-append : (l m : List LogItem) → ends (l ++ m) ≡ ends l ++ ends m
ends-append l m = filter_map-append end_in l m

-- a vote
votes_once : (l : List LogItem) (p : Prepared) (i : LogItem) → prepares (i ∷ []) ≡ p ∷ [] → commits (i ∷ []) ≡ [] → ends (i ∷ []) ≡ []
    → doubts (l ++ i ∷ []) ≡ doubts l ++ p ∷ []
    → floor_of (l ++ i ∷ []) ≡ floor_of l → Each (λ q. q.tx ≢ p.tx) (prepares l) → IsOnce l → IsOnce (l ++ i ∷ [])
votes_once l p i ps cs es ds fs first k =
    record {
      voted_once = subst (λ xs. AreApart (map (λ q. q.tx) xs)) (sym more_ps)
          (subst AreApart (sym (map-append (λ q. q.tx) (prepares l) (p ∷ []))) (AreApart-last (map (λ q. q.tx) (prepares l)) p.tx k.voted_once (Each-map (λ t. t ≢ p.tx) (λ q. q.tx) (prepares l) first)));
      ended_once = subst AreApart (sym same_es) k.ended_once;
      ended = subst (λ xs. Each (λ t. Has (λ q. q.tx ≡ t) (prepares (l ++ i ∷ []))) xs) (sym same_es)
          (subst (λ xs. Each (λ t. Has (λ q. q.tx ≡ t) xs) (ends l)) (sym more_ps)
          (Each-of (λ t. Has (λ q. q.tx ≡ t) (prepares l)) (λ t. Has (λ q. q.tx ≡ t) (prepares l ++ p ∷ [])) (ends l) (λ t h. Has-front (λ q. q.tx ≡ t) (prepares l) (p ∷ []) h) k.ended));
      unended = subst (λ xs. Each (λ q. Each (λ t. t ≢ q.tx) xs) (doubts (l ++ i ∷ []))) (sym same_es)
          (subst (Each (λ q. Each (λ t. t ≢ q.tx) (ends l))) (sym ds) (Each-append _ (doubts l) (p ∷ []) k.unended (not_ended, tt)));
      in_doubt = subst (λ xs. Each (λ q. IsIn q (doubts (l ++ i ∷ [])) ⊎ Has (λ t. t ≡ q.tx) xs) (prepares (l ++ i ∷ []))) (sym same_es)
          (subst (λ xs. Each (λ q. IsIn q xs ⊎ Has (λ t. t ≡ q.tx) (ends l)) (prepares (l ++ i ∷ []))) (sym ds)
          (subst (Each (λ q. IsIn q (doubts l ++ p ∷ []) ⊎ Has (λ t. t ≡ q.tx) (ends l))) (sym more_ps)
          (Each-append _ (prepares l) (p ∷ []) (Each-of _ _ (prepares l) (λ q h. longer q h) k.in_doubt) (inl (Has-back (λ z. z ≡ p) (doubts l) (p ∷ []) (inl refl)), tt))));
      within = subst (λ xs. Each (λ q. IsIn q xs) (doubts (l ++ i ∷ []))) (sym more_ps)
          (subst (Each (λ q. IsIn q (prepares l ++ p ∷ []))) (sym ds)
          (Each-append _ (doubts l) (p ∷ []) (Each-of _ _ (doubts l) (λ q h. Has-front (λ z. z ≡ q) (prepares l) (p ∷ []) h) k.within) (Has-back (λ z. z ≡ p) (prepares l) (p ∷ []) (inl refl), tt)));
      floor = fs ∙ k.floor ∙ ap (λ xs. fold max 0 (map (λ c. c.1) xs)) (sym same_cs);
      above = subst (λ xs. Each (λ c. Each (λ q. q.tx ≡ c.0 → q.floor < c.1) (prepares (l ++ i ∷ []))) xs) (sym same_cs)
          (subst (λ xs. Each (λ c. Each (λ q. q.tx ≡ c.0 → q.floor < c.1) xs) (commits l)) (sym more_ps)
          (Each-in _ (commits l) (λ c j. Each-append _ (prepares l) (p ∷ []) (in_Each _ c (commits l) j k.above)
          ((λ e. absurd (in_Each (λ t. t ≢ p.tx) c.0 (ends l) (in_Each (λ d. Has (λ t. t ≡ d.0) (ends l)) c (commits l) j k.committed) not_ended (sym e))), tt))));
      committed = subst (λ xs. Each (λ c. Has (λ t. t ≡ c.0) xs) (commits (l ++ i ∷ []))) (sym same_es) (subst (Each (λ c. Has (λ t. t ≡ c.0) (ends l))) (sym same_cs) k.committed);
    }
  where
    more_ps : prepares (l ++ i ∷ []) ≡ prepares l ++ p ∷ []
    more_ps = prepares-append l (i ∷ []) ∙ ap (λ z. prepares l ++ z) ps

    same_cs : commits (l ++ i ∷ []) ≡ commits l
    same_cs = commits-append l (i ∷ []) ∙ ap (λ z. commits l ++ z) cs ∙ append-nil (commits l)

    same_es : ends (l ++ i ∷ []) ≡ ends l
    same_es = ends-append l (i ∷ []) ∙ ap (λ z. ends l ++ z) es ∙ append-nil (ends l)

    -- what had ended had voted, so it is another transaction
    not_ended : Each (λ t. t ≢ p.tx) (ends l)
    not_ended = Each-of (λ t. Has (λ q. q.tx ≡ t) (prepares l)) (λ t. t ≢ p.tx) (ends l)
        (λ t h e. let b = pick (λ q. q.tx ≡ t) (λ q. q.tx ≢ p.tx) (prepares l) h first in b.other (b.one ∙ e)) k.ended

    longer : (q : Prepared) → IsIn q (doubts l) ⊎ Has (λ t. t ≡ q.tx) (ends l) → IsIn q (doubts l ++ p ∷ []) ⊎ Has (λ t. t ≡ q.tx) (ends l)
    longer q (inl h) = inl (Has-front (λ z. z ≡ q) (doubts l) (p ∷ []) h)
    longer q (inr h) = inr h

-- an end
record Ends (l : List LogItem) (i : LogItem) (tx : ℕ) (cs : List Number) : Type 0 where
  prepares_same : prepares (l ++ i ∷ []) ≡ prepares l
  commits_more : commits (l ++ i ∷ []) ≡ commits l ++ cs
  ends_more : ends (l ++ i ∷ []) ≡ ends l ++ tx ∷ []
  doubts_left : doubts (l ++ i ∷ []) ≡ without_tx tx (doubts l)
  floor_more : floor_of (l ++ i ∷ []) ≡ fold max (floor_of l) (map (λ c. c.1) cs)
  of_tx : Each (λ c. c.0 ≡ tx) cs
  above_floor : Each (λ c. Each (λ q. q.tx ≡ c.0 → q.floor < c.1) (prepares l)) cs

ends_once : (l : List LogItem) (i : LogItem) (tx : ℕ) (cs : List Number) → Ends l i tx cs → Has (λ p. p.tx ≡ tx) (doubts l) → IsOnce l → IsOnce (l ++ i ∷ [])
ends_once l i tx cs g d k =
    record {
      voted_once = subst (λ xs. AreApart (map (λ q. q.tx) xs)) (sym g.prepares_same) k.voted_once;
      ended_once = subst AreApart (sym g.ends_more) (AreApart-last (ends l) tx k.ended_once not_yet);
      ended = subst (λ xs. Each (λ t. Has (λ q. q.tx ≡ t) xs) (ends (l ++ i ∷ []))) (sym g.prepares_same)
          (subst (Each (λ t. Has (λ q. q.tx ≡ t) (prepares l))) (sym g.ends_more) (Each-append _ (ends l) (tx ∷ []) k.ended (voted, tt)));
      unended = subst (λ xs. Each (λ q. Each (λ t. t ≢ q.tx) xs) (doubts (l ++ i ∷ []))) (sym g.ends_more)
          (subst (Each (λ q. Each (λ t. t ≢ q.tx) (ends l ++ tx ∷ []))) (sym g.doubts_left)
          (Each-of _ _ (without_tx tx (doubts l)) (λ q h. Each-append (λ t. t ≢ q.tx) (ends l) (tx ∷ []) h.0 ((λ e. h.1 (sym e)), tt)) (Each-without (λ q. Each (λ t. t ≢ q.tx) (ends l)) tx (doubts l) k.unended)));
      in_doubt = subst (λ xs. Each (λ q. IsIn q (doubts (l ++ i ∷ [])) ⊎ Has (λ t. t ≡ q.tx) xs) (prepares (l ++ i ∷ []))) (sym g.ends_more)
          (subst (λ xs. Each (λ q. IsIn q xs ⊎ Has (λ t. t ≡ q.tx) (ends l ++ tx ∷ [])) (prepares (l ++ i ∷ []))) (sym g.doubts_left)
          (subst (Each (λ q. IsIn q (without_tx tx (doubts l)) ⊎ Has (λ t. t ≡ q.tx) (ends l ++ tx ∷ []))) (sym g.prepares_same)
          (Each-of _ _ (prepares l) (λ q h. still q h (same_or_not q.tx tx)) k.in_doubt)));
      within = subst (λ xs. Each (λ q. IsIn q xs) (doubts (l ++ i ∷ []))) (sym g.prepares_same)
          (subst (Each (λ q. IsIn q (prepares l))) (sym g.doubts_left) (Each-of _ _ (without_tx tx (doubts l)) (λ q h. h.0) (Each-without (λ q. IsIn q (prepares l)) tx (doubts l) k.within)));
      floor = g.floor_more ∙ ap (λ n. fold max n (map (λ c. c.1) cs)) k.floor
          ∙ sym (ap (λ xs. fold max 0 xs) (ap (map (λ c. c.1)) g.commits_more ∙ map-append (λ c. c.1) (commits l) cs) ∙ fold-append max 0 (map (λ c. c.1) (commits l)) (map (λ c. c.1) cs));
      above = subst (λ xs. Each (λ c. Each (λ q. q.tx ≡ c.0 → q.floor < c.1) xs) (commits (l ++ i ∷ []))) (sym g.prepares_same)
          (subst (Each (λ c. Each (λ q. q.tx ≡ c.0 → q.floor < c.1) (prepares l))) (sym g.commits_more) (Each-append _ (commits l) cs k.above g.above_floor));
      committed = subst (λ xs. Each (λ c. Has (λ t. t ≡ c.0) xs) (commits (l ++ i ∷ []))) (sym g.ends_more)
          (subst (Each (λ c. Has (λ t. t ≡ c.0) (ends l ++ tx ∷ []))) (sym g.commits_more)
          (Each-append _ (commits l) cs (Each-of _ _ (commits l) (λ c h. Has-front (λ t. t ≡ c.0) (ends l) (tx ∷ []) h) k.committed)
          (Each-of (λ c. c.0 ≡ tx) (λ c. Has (λ t. t ≡ c.0) (ends l ++ tx ∷ [])) cs (λ c e. Has-back (λ t. t ≡ c.0) (ends l) (tx ∷ []) (inl (sym e))) g.of_tx)));
    }
  where
    one : Both (λ p. p.tx ≡ tx) (λ p. Each (λ t. t ≢ p.tx) (ends l) × IsIn p (prepares l))
    one = pick (λ p. p.tx ≡ tx) (λ p. Each (λ t. t ≢ p.tx) (ends l) × IsIn p (prepares l)) (doubts l) d
        (Each-in _ (doubts l) (λ p j. (in_Each _ p (doubts l) j k.unended, in_Each _ p (doubts l) j k.within)))

    not_yet : Each (λ t. t ≢ tx) (ends l)
    not_yet = subst (λ z. Each (λ t. t ≢ z) (ends l)) one.one one.other.0

    voted : Has (λ q. q.tx ≡ tx) (prepares l)
    voted = Has-in (λ q. q.tx ≡ tx) one.item (prepares l) one.other.1 one.one

    still : (q : Prepared) → IsIn q (doubts l) ⊎ Has (λ t. t ≡ q.tx) (ends l) → (q.tx ≡ tx) ⊎ (q.tx ≢ tx)
        → IsIn q (without_tx tx (doubts l)) ⊎ Has (λ t. t ≡ q.tx) (ends l ++ tx ∷ [])
    still q h (inl e) = inr (Has-back (λ t. t ≡ q.tx) (ends l) (tx ∷ []) (inl (sym e)))
    still q (inl h) (inr n) = inl (stays tx q (doubts l) h n)
    still q (inr h) (inr n) = inr (Has-front (λ t. t ≡ q.tx) (ends l) (tx ∷ []) h)

-- two votes of one transaction are one
pub one_vote : (ps : List Prepared) (p q : Prepared) → AreApart (map (λ r. r.tx) ps) → IsIn p ps → IsIn q ps → p.tx ≡ q.tx → p ≡ q
one_vote [] p q a i j e = absurd i
one_vote (r ∷ rs) p q a (inl i) (inl j) e = sym i ∙ j
one_vote (r ∷ rs) p q a (inl i) (inr j) e = absurd (in_Each (λ y. y ≢ r.tx) q.tx (map (λ z. z.tx) rs) (map_in (λ z. z.tx) q rs j) a.0 (sym e ∙ ap (λ z. z.tx) (sym i)))
one_vote (r ∷ rs) p q a (inr i) (inl j) e = absurd (in_Each (λ y. y ≢ r.tx) p.tx (map (λ z. z.tx) rs) (map_in (λ z. z.tx) p rs i) a.0 (e ∙ ap (λ z. z.tx) (sym j)))
one_vote (r ∷ rs) p q a (inr i) (inr j) e = one_vote rs p q a.1 i j e

committing_above : (l : List LogItem) (tx n : ℕ) → Has (λ p. (p.tx ≡ tx) × (p.floor < n)) (doubts l) → IsOnce l → Each (λ q. q.tx ≡ tx → q.floor < n) (prepares l)
committing_above l tx n d k =
    let b = pick (λ p. (p.tx ≡ tx) × (p.floor < n)) (λ p. IsIn p (prepares l)) (doubts l) d k.within in
    Each-in (λ q. q.tx ≡ tx → q.floor < n) (prepares l) (λ q j e. subst (λ z. z.floor < n) (one_vote (prepares l) b.item q k.voted_once b.other j (b.one.0 ∙ sym e)) b.one.1)

pub once_more : (l : List LogItem) (i : LogItem) → Fits l i → IsOnce l → IsOnce (l ++ i ∷ [])
once_more l (item.Prepare tx floor locks changes) f k =
    votes_once l (record { tx = tx.0; floor = floor.0; locks = locks; changes = changes }) (item.Prepare tx floor locks changes) refl refl refl
    (doubts-prepare l tx floor locks changes) (floor-prepare l tx floor locks changes) f.first k
once_more l (item.Commit tx n) f k =
    ends_once l (item.Commit tx n) tx.0 ((tx.0, n.0) ∷ [])
    (record {
      prepares_same = prepares-append l (item.Commit tx n ∷ []) ∙ append-nil (prepares l);
      commits_more = commits-append l (item.Commit tx n ∷ []);
      ends_more = ends-append l (item.Commit tx n ∷ []);
      doubts_left = doubts-commit l tx n;
      floor_more = floor-commit l tx n;
      of_tx = (refl, tt);
      above_floor = (committing_above l tx.0 n.0 f k, tt);
    })
    (Has-of (λ p. (p.tx ≡ tx.0) × (p.floor < n.0)) (λ p. p.tx ≡ tx.0) (doubts l) (λ p h. h.0) f) k
once_more l (item.Abort tx) f k =
    ends_once l (item.Abort tx) tx.0 []
    (record {
      prepares_same = prepares-append l (item.Abort tx ∷ []) ∙ append-nil (prepares l);
      commits_more = commits-append l (item.Abort tx ∷ []);
      ends_more = ends-append l (item.Abort tx ∷ []);
      doubts_left = doubts-abort l tx;
      floor_more = floor-abort l tx;
      of_tx = tt;
      above_floor = tt;
    }) f k
once_more l (item.Decision tx n nodes) f k = absurd f
once_more l (item.Ids upto) f k = absurd f

once_from : (done l : List LogItem) → LogOK done l → IsOnce done → IsOnce (done ++ l)
once_from done [] ok k = subst IsOnce (sym (append-nil done)) k
once_from done (i ∷ is) ok k = subst IsOnce (append_assoc done (i ∷ []) is) (once_from (done ++ i ∷ []) is ok.1 (once_more done i ok.0 k))

pub once : (l : List LogItem) → LogOK [] l → IsOnce l
once l ok = once_from [] l ok none_once

pub right_logs_say : RightLogsSay
right_logs_say log ok =
    record {
      voted_once = k.voted_once;
      ended_once = k.ended_once;
      ended = k.ended;
      unended = k.unended;
      in_doubt = k.in_doubt;
      floor = k.floor;
      above = k.above;
      ascend = w.ascend;
      floors = w.floors;
    }
  where
    k : IsOnce log
    k = once log ok

    w : IsWritten log
    w = written log ok

-- ---- halves

halves : (done l : List LogItem) → LogOK done l → Each IsBranchItem l × EachBehind EndFits done l × EachBehind LocksFit done l
halves done [] ok = (tt, tt, tt)
halves done (i ∷ is) ok = let r = halves (done ++ i ∷ []) is ok.1 in let f = one i ok.0 in ((f.0, r.0), (f.1, r.1), (f.2, r.2))
  where
    one : (i : LogItem) → Fits done i → IsBranchItem i × EndFits done i × LocksFit done i
    one (item.Prepare tx floor locks changes) f = (tt, (f.first, f.floor), f.fits)
    one (item.Commit tx n) f = (tt, f, tt)
    one (item.Abort tx) f = (tt, f, tt)
    one (item.Decision tx n nodes) f = absurd f
    one (item.Ids upto) f = absurd f

pub right_logs_are_halves : RightLogsAreHalves
right_logs_are_halves log ok = halves [] log ok
