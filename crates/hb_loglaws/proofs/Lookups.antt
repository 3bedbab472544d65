-- What stands at a place is what the last of those that wrote there put, in the log and by the decisions.
use Rattle.std.proofs.Common.{◌≡◌, ◌≢◌, ◌⊎◌, ℕ, List, [], ◌∷◌, ◌++◌, refl, sym, ap, ◌∙◌, subst, inl, inr, map, append_assoc, append-nil}
use Rattle.std.specs.Prelude.{◌==◌, ◌<◌, filter, None}
use Rattle.std.proofs.lemmas.Bool.{eqb-true, eqb-false}
use Rattle.std.proofs.lemmas.List.{map-append}
use Rattle.hb_types.specs.declared.change.Change.{Change}
use Rattle.hb_types.specs.declared.change.LogItem.{LogItem}
use Rattle.hb_types.specs.declared.change.LogItem.TheVariants as item
use Rattle.hb_types.specs.declared.change.Stored.{Stored}
use Rattle.hb_types.specs.declared.places.Place.{Place}
use Rattle.hb_types.specs.Lists.{Each, Has, IsIn}
use Rattle.hb_types.specs.Put.{put, put_all, lookup, touches}
use Rattle.hb_types.proofs.Ascending.{Each-in, Has-of}
use Rattle.hb_types.proofs.PutLaws.{by_test, put_lists, touching, last_in, lookup-put_lists_touching}
use Rattle.hb_laws.specs.RowOrder.{AreAscending}
use Rattle.hb_laws.proofs.RowLaws.{put_ascends}
use Rattle.hb_disks.specs.Redo.{Prepared, Decided, redo, doubts, changes_or, changes_of}
use Rattle.hb_disks.specs.Says.{prepares, commits, ch, writers, held}
use Rattle.hb_disks.specs.LogRules.{LogOK, Fits}
use Rattle.hb_disks.proofs.Fold.{redo-more, commits-append, ch-append, changes_in, lookup-held, held_from-lists}
use Rattle.hb_loglaws.proofs.Members.{map_same}
use Rattle.hb_loglaws.proofs.Writers.{IsWritten, nothing_written, same_ch, written_more}
use Rattle.hb_loglaws.specs.Settled.{RedoIsOfCommits, put_commits}

abbrev pub Number : Type 0
Number = ℕ × ℕ

-- the changes of these, one list each
abbrev pub lists_of : List LogItem → List Number → List (List Change)
lists_of log cs = map (λ c. ch log c.0) cs

-- ---- the changes of a branch in doubt

record LastOf (tx : ℕ) (ps : List Prepared) (changes : List Change) : Type 0 where
  branch : Prepared
  within : IsIn branch ps
  of_tx : branch.tx ≡ tx
  same : changes ≡ branch.changes

record NoneOf (tx : ℕ) (ps : List Prepared) (old changes : List Change) : Type 0 where
  none : Each (λ p. p.tx ≢ tx) ps
  same : changes ≡ old

last_of : (old : List Change) (tx : ℕ) (ps : List Prepared) → NoneOf tx ps old (changes_or old tx ps) ⊎ LastOf tx ps (changes_or old tx ps)
last_of old tx [] = inl (record { none = tt; same = refl })
last_of old tx (p ∷ ps) =
    by_test (p.tx == tx)
    (λ t. rw t (its (eqb-true p.tx tx t) (last_of p.changes tx ps)))
    (λ f. rw f (others (eqb-false p.tx tx f) (last_of old tx ps)))
  where
    its : p.tx ≡ tx → NoneOf tx ps p.changes (changes_or p.changes tx ps) ⊎ LastOf tx ps (changes_or p.changes tx ps)
        → NoneOf tx (p ∷ ps) old (changes_or p.changes tx ps) ⊎ LastOf tx (p ∷ ps) (changes_or p.changes tx ps)
    its e (inl n) = inr (record { branch = p; within = inl refl; of_tx = e; same = n.same })
    its e (inr l) = inr (record { branch = l.branch; within = inr l.within; of_tx = l.of_tx; same = l.same })

    others : (p.tx ≡ tx → ⊥) → NoneOf tx ps old (changes_or old tx ps) ⊎ LastOf tx ps (changes_or old tx ps)
        → NoneOf tx (p ∷ ps) old (changes_or old tx ps) ⊎ LastOf tx (p ∷ ps) (changes_or old tx ps)
    others n (inl k) = inl (record { none = (n, k.none); same = k.same })
    others n (inr l) = inr (record { branch = l.branch; within = inr l.within; of_tx = l.of_tx; same = l.same })

none_has : (tx : ℕ) (ps : List Prepared) → Each (λ p. p.tx ≢ tx) ps → Has (λ p. p.tx ≡ tx) ps → ⊥
none_has tx [] e h = absurd h
none_has tx (p ∷ ps) e (inl q) = e.0 q
none_has tx (p ∷ ps) e (inr h) = none_has tx ps e.1 h

doubt_changes : (l : List LogItem) (tx : ℕ) → IsWritten l → Has (λ p. p.tx ≡ tx) (doubts l) → changes_of tx (doubts l) ≡ ch l tx
doubt_changes l tx w h = by_kind (last_of [] tx (doubts l))
  where
    by_kind : NoneOf tx (doubts l) [] (changes_of tx (doubts l)) ⊎ LastOf tx (doubts l) (changes_of tx (doubts l)) → changes_of tx (doubts l) ≡ ch l tx
    by_kind (inl n) = absurd (none_has tx (doubts l) n.none h)
    by_kind (inr k) = k.same ∙ sym (w.changes k.branch k.within) ∙ ap (ch l) k.of_tx

-- ---- the rows of a log

put_lists-append : (rows : List Stored) (css dss : List (List Change)) → put_lists rows (css ++ dss) ≡ put_lists (put_lists rows css) dss
put_lists-append rows [] dss = refl
put_lists-append rows (cs ∷ css) dss = put_lists-append (put_all rows cs) css dss

abbrev AreOfCommits : List LogItem → Type 0
AreOfCommits l = (redo l).rows ≡ put_lists [] (lists_of l (commits l))

-- an item without a commit leaves the lists
same_lists : (l : List LogItem) (i : LogItem) → commits (i ∷ []) ≡ [] → ((c : Number) → IsIn c (commits l) → ch (l ++ i ∷ []) c.0 ≡ ch l c.0)
    → lists_of (l ++ i ∷ []) (commits (l ++ i ∷ [])) ≡ lists_of l (commits l)
same_lists l i none same =
    ap (λ cs. lists_of (l ++ i ∷ []) cs) (commits-append l (i ∷ []) ∙ ap (λ z. commits l ++ z) none ∙ append-nil (commits l))
    ∙ map_same (λ c. ch (l ++ i ∷ []) c.0) (λ c. ch l c.0) (commits l) (Each-in _ (commits l) same)

rows_more : (l : List LogItem) (i : LogItem) → Fits l i → IsWritten l → AreOfCommits l → AreOfCommits (l ++ i ∷ [])
rows_more l (item.Prepare tx floor locks changes) f w h =
    ap (λ r. r.rows) (redo-more l (item.Prepare tx floor locks changes)) ∙ h ∙ sym (ap (put_lists []) (same_lists l (item.Prepare tx floor locks changes) refl same))
  where
    same : (c : Number) → IsIn c (commits l) → ch (l ++ item.Prepare tx floor locks changes ∷ []) c.0 ≡ ch l c.0
    same c i = ch-append l (item.Prepare tx floor locks changes ∷ []) c.0 ((λ e. none_has tx.0 (prepares l) f.first (Has-of (λ p. p.tx ≡ c.0) (λ p. p.tx ≡ tx.0) (prepares l) (λ p q. q ∙ sym e) (w.committed c i))), tt)
rows_more l (item.Commit tx n) f w h =
    ap (λ r. r.rows) (redo-more l (item.Commit tx n)) ∙ ap (λ cs. put_all (redo l).rows cs) (doubt_changes l tx.0 w (Has-of (λ p. (p.tx ≡ tx.0) × (p.floor < n.0)) (λ p. p.tx ≡ tx.0) (doubts l) (λ p q. q.0) f))
    ∙ ap (λ rows. put_all rows (ch l tx.0)) h ∙ sym (put_lists-append [] (lists_of l (commits l)) (ch l tx.0 ∷ [])) ∙ sym (ap (put_lists []) lists_more)
  where
    lists_more : lists_of (l ++ item.Commit tx n ∷ []) (commits (l ++ item.Commit tx n ∷ [])) ≡ lists_of l (commits l) ++ ch l tx.0 ∷ []
    lists_more =
        map_same (λ c. ch (l ++ item.Commit tx n ∷ []) c.0) (λ c. ch l c.0) (commits (l ++ item.Commit tx n ∷ [])) (Each-in _ (commits (l ++ item.Commit tx n ∷ [])) (λ c i. same_ch l (item.Commit tx n) refl c.0))
        ∙ ap (λ cs. lists_of l cs) (commits-append l (item.Commit tx n ∷ [])) ∙ map-append (λ c. ch l c.0) (commits l) ((tx.0, n.0) ∷ [])
rows_more l (item.Abort tx) f w h =
    ap (λ r. r.rows) (redo-more l (item.Abort tx)) ∙ h ∙ sym (ap (put_lists []) (same_lists l (item.Abort tx) refl (λ c i. same_ch l (item.Abort tx) refl c.0)))
rows_more l (item.Decision tx n nodes) f w h = absurd f
rows_more l (item.Ids upto) f w h = absurd f

rows_from : (done l : List LogItem) → LogOK done l → IsWritten done → AreOfCommits done → AreOfCommits (done ++ l)
rows_from done [] ok w h = subst AreOfCommits (sym (append-nil done)) h
rows_from done (i ∷ is) ok w h =
    subst AreOfCommits (append_assoc done (i ∷ []) is) (rows_from (done ++ i ∷ []) is ok.1 (written_more done i ok.0 w) (rows_more done i ok.0 w h))

-- the rows of a right log are those that its commits put, one after another
pub rows_of_commits : (l : List LogItem) → LogOK [] l → (redo l).rows ≡ put_lists [] (lists_of l (commits l))
rows_of_commits l ok = rows_from [] l ok nothing_written refl

-- ---- lookups

touching_lists : (x : Place) (l : List LogItem) (cs : List Number) → touching x (lists_of l cs) ≡ lists_of l (filter (λ c. touches x (ch l c.0)) cs)
touching_lists x l [] = refl
touching_lists x l (c ∷ cs) =
    by_test (touches x (ch l c.0)) (λ t. rw t (ap (λ z. ch l c.0 ∷ z) (touching_lists x l cs))) (λ f. rw f (touching_lists x l cs))

pub lookup_redo : (x : Place) (l : List LogItem) → LogOK [] l → lookup x (redo l).rows ≡ last_in x (lists_of l (writers l x)) None
lookup_redo x l ok =
    ap (lookup x) (rows_of_commits l ok) ∙ lookup-put_lists_touching x [] (lists_of l (commits l)) ∙ ap (λ css. last_in x css None) (touching_lists x l (commits l))

-- the decisions by transaction and number
abbrev pub numbered : List Decided → List Number
numbered ds = map (λ d. (d.tx, d.number)) ds

-- the decided transactions with a change at a place
abbrev pub deciders : List LogItem → Place → List Decided → List Number
deciders l x ds = filter (λ c. touches x (ch l c.0)) (numbered ds)

lists_decided : (l : List LogItem) (ds : List Decided) → changes_in l ds ≡ lists_of l (numbered ds)
lists_decided l [] = refl
lists_decided l (d ∷ ds) = ap (λ z. ch l d.tx ∷ z) (lists_decided l ds)

pub lookup_held : (x : Place) (l : List LogItem) (ds : List Decided) → lookup x (held l ds) ≡ last_in x (lists_of l (deciders l x ds)) None
lookup_held x l ds =
    lookup-held x l ds ∙ ap (λ css. last_in x (touching x css) None) (lists_decided l ds) ∙ ap (λ css. last_in x css None) (touching_lists x l (numbered ds))

-- ---- rows ascend

pub put_all_ascends : (rows : List Stored) (cs : List Change) → AreAscending rows → AreAscending (put_all rows cs)
put_all_ascends rows [] a = a
put_all_ascends rows (c ∷ cs) a = put_all_ascends (put rows c) cs (put_ascends rows c a)

put_lists_ascend : (rows : List Stored) (css : List (List Change)) → AreAscending rows → AreAscending (put_lists rows css)
put_lists_ascend rows [] a = a
put_lists_ascend rows (cs ∷ css) a = put_lists_ascend (put_all rows cs) css (put_all_ascends rows cs a)

pub redo_ascends : (l : List LogItem) → LogOK [] l → AreAscending (redo l).rows
redo_ascends l ok = subst AreAscending (sym (rows_of_commits l ok)) (put_lists_ascend [] (lists_of l (commits l)) tt)

pub held_ascends : (l : List LogItem) (ds : List Decided) → AreAscending (held l ds)
held_ascends l ds = subst AreAscending (sym (held_from-lists [] l ds)) (put_lists_ascend [] (changes_in l ds) tt)

-- ---- redo by its commits

put_lists_commits : (rows : List Stored) (l : List LogItem) (cs : List Number) → put_lists rows (lists_of l cs) ≡ put_commits rows l cs
put_lists_commits rows l [] = refl
put_lists_commits rows l (c ∷ cs) = put_lists_commits (put_all rows (ch l c.0)) l cs

pub redo_is_of_commits : RedoIsOfCommits
redo_is_of_commits log ok = rows_of_commits log ok ∙ put_lists_commits [] log (commits log)
