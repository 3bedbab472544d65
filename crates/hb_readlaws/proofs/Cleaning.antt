-- A row that is read was put by the reader, or by the last who has committed.
use Rattle.std.proofs.Common.{◌≡◌, ◌≢◌, ◌⊎◌, ℕ, true, false, List, [], ◌∷◌, ◌++◌, refl, sym, ap, ◌∙◌, subst, inl, inr}
use Rattle.std.specs.Prelude.{Option, Some, None}
use Rattle.hb_types.specs.declared.change.LogItem.{LogItem}
use Rattle.hb_types.specs.declared.lock.Mode.TheVariants as mode
use Rattle.hb_types.specs.declared.change.Stored.{Stored}
use Rattle.hb_types.specs.declared.places.Path.{Path}
use Rattle.hb_types.specs.declared.places.Path.TheVariants as path
use Rattle.hb_types.specs.declared.places.Place.{Place}
use Rattle.hb_types.specs.Lists.{Each, IsIn}
use Rattle.hb_types.specs.Places.{is_under}
use Rattle.hb_types.specs.Put.{lookup, last_at, touches, rows_under}
use Rattle.hb_types.proofs.Ascending.{Each-in}
use Rattle.hb_types.proofs.PutLaws.{by_test, last_in, lookup-put_all, last_at-touched, last_at-untouched}
use Rattle.hb_types.proofs.SamePlace.{same_place-refl}
use Rattle.hb_disks.specs.Redo.{Prepared, redo}
use Rattle.hb_disks.specs.Says.{ch, commits, writers}
use Rattle.hb_runs.specs.Server.{SState, now}
use Rattle.hb_runs.specs.ServerAnswers.{Reads, view}
use Rattle.hb_runs.specs.ServerRuns.{Asked}
use Rattle.hb_loglaws.proofs.Lookups.{Number, lists_of, put_all_ascends, redo_ascends, lookup_redo}
use Rattle.hb_loglaws.proofs.Members.{in_filter}
use Rattle.hb_readlaws.proofs.Reading.{reads_group, reads_row, reads_space}
use Rattle.hb_readlaws.proofs.Under.{lookup_member, under_filter}
use Rattle.hb_readlaws.specs.Ordering.{GroupsAreClean, GroupsAreFree, IsFree, IsOfLastWriter, ReadsAreClean, SpacesAreClean, SpacesAreFree, WasPut}
use Rattle.hb_serverlaws.proofs.Covering.{holds_covers}
use Rattle.hb_serverlaws.proofs.Lifting.{seen_after}
use Rattle.hb_serverlaws.proofs.LogKept.{now_is}
use Rattle.hb_serverlaws.proofs.Readers.{readers_exclude}
use Rattle.hb_serverlaws.proofs.Running.{ran_stands}
use Rattle.hb_serverlaws.proofs.Standing.{Stands}
use Rattle.hb_serverlaws.specs.Trails.{Ran, voted_in, writes_of}
use Rattle.hb_laws.specs.RowOrder.{AreAscending}
use Rattle.hb_disks.specs.LogRules.{LogOK}

none_some : (row : List ℕ) → None ≡ Some row → ⊥
none_some row e = cc

-- of those that wrote at the place the last one is told by what stands there
last_written : (x : Place) (row : List ℕ) (l : List LogItem) (cs : List Number) (old : Option (List ℕ)) → Each (λ c. touches x (ch l c.0) ≡ true) cs
    → last_in x (lists_of l cs) old ≡ Some row
    → ((old ≡ Some row) × (cs ≡ [])) ⊎ ((front : List Number) × (w : Number) × (cs ≡ front ++ w ∷ []) × (last_at x (ch l w.0) None ≡ Some row))
last_written x row l [] old all e = inl (e, refl)
last_written x row l (c ∷ cs) old all e = by_rest (last_written x row l cs (last_at x (ch l c.0) old) all.1 e)
  where
    by_rest : ((last_at x (ch l c.0) old ≡ Some row) × (cs ≡ [])) ⊎ ((front : List Number) × (w : Number) × (cs ≡ front ++ w ∷ []) × (last_at x (ch l w.0) None ≡ Some row))
        → ((old ≡ Some row) × (c ∷ cs ≡ [])) ⊎ ((front : List Number) × (w : Number) × (c ∷ cs ≡ front ++ w ∷ []) × (last_at x (ch l w.0) None ≡ Some row))
    by_rest (inl h) = inr ([], c, ap (λ z. c ∷ z) h.1, last_at-touched x (ch l c.0) None old all.0 ∙ h.0)
    by_rest (inr k) = inr (c ∷ k.0, k.1, ap (λ z. c ∷ z) k.2, k.3)

last_writer : (x : Place) (row : List ℕ) (l : List LogItem) → LogOK [] l → lookup x (redo l).rows ≡ Some row → IsOfLastWriter l x row
last_writer x row l ok e =
    by_kind (last_written x row l (writers l x) None (Each-in _ (writers l x) (λ c i. (in_filter (λ c. touches x (ch l c.0)) c (commits l) i).1)) (sym (lookup_redo x l ok) ∙ e))
  where
    by_kind : ((None ≡ Some row) × (writers l x ≡ [])) ⊎ ((front : List Number) × (w : Number) × (writers l x ≡ front ++ w ∷ []) × (last_at x (ch l w.0) None ≡ Some row))
        → IsOfLastWriter l x row
    by_kind (inl h) = absurd (none_some row h.0)
    by_kind (inr k) = record { front = k.0; writer = k.1; last = k.2; puts = k.3 }

module _ (log : List LogItem) (place : ℕ) (trail : List Asked) (s : SState) (tx : ℕ) (p : Path) (Shows : List Stored → Type 0)
    (r : Ran log place trail s) (h : Reads s tx p Shows) where
  k : Stands log (seen_after (voted_in log) trail) (λ t. writes_of t trail) s
  k = ran_stands log place trail s r

  own_is : h.branch.own ≡ writes_of tx trail
  own_is = k.own_writes h.branch h.live.0 ∙ ap (λ t. writes_of t trail) h.live.1

  rows_are : (now s).rows ≡ (redo (log ++ s.log)).rows
  rows_are = ap (λ z. z.rows) (now_is log s k.kept.base)

  was_put : (x : Place) (row : List ℕ) → lookup x (view s h.branch) ≡ Some row → WasPut (log ++ s.log) (writes_of tx trail) x row
  was_put x row e =
      by_test (touches x h.branch.own)
      (λ t. inl (subst (λ cs. last_at x cs None ≡ Some row) own_is (last_at-touched x h.branch.own None (lookup x (now s).rows) t ∙ stands)))
      (λ f. inr (last_writer x row (log ++ s.log) k.kept.ok (sym (ap (lookup x) rows_are) ∙ sym (last_at-untouched x h.branch.own (lookup x (now s).rows) f) ∙ stands)))
    where
      stands : last_at x h.branch.own (lookup x (now s).rows) ≡ Some row
      stands = sym (lookup-put_all x (now s).rows h.branch.own) ∙ e

  untouched : (x : Place) → is_under p x ≡ true → (q : Prepared) → IsIn q (now s).doubts → q.tx ≢ tx → touches x q.changes ≡ false
  untouched x u q i n =
      by_test (touches x q.changes)
      (λ t. absurd (readers_exclude s tx q.tx x k.locked
      (record { branch = h.branch; known = inl h.live.0; of_tx = h.live.1; covers = holds_covers h.branch mode.S p x h.covered u })
      (record { branch = q; known = i; of_tx = refl; touches_it = t }) n))
      (λ f. f)

  free : IsFree s tx p
  free x u = Each-in (λ q. q.tx ≢ tx → touches x q.changes ≡ false) (now s).doubts (untouched x u)

  view_ascends : AreAscending (view s h.branch)
  view_ascends = put_all_ascends (now s).rows h.branch.own (subst AreAscending (sym rows_are) (redo_ascends (log ++ s.log) k.kept.ok))

  all_put : Each (λ row. WasPut (log ++ s.log) (writes_of tx trail) row.place row.row) (rows_under p (view s h.branch))
  all_put =
      Each-in _ (rows_under p (view s h.branch))
      (λ row i. was_put row.place row.row (lookup_member row (view s h.branch) view_ascends (in_filter (λ z. is_under p z.place) row (view s h.branch) (subst (IsIn row) (under_filter p (view s h.branch)) i)).0))

pub reads_are_clean : ReadsAreClean
reads_are_clean log place trail s t tx x row r turn =
    let h = reads_row s.up s tx x (Some row) turn.right in
    (was_put log place trail s tx (path.Key x) _ r h x row (sym h.shows), free log place trail s tx (path.Key x) _ r h x (same_place-refl x))

pub spaces_are_clean : SpacesAreClean
spaces_are_clean log place trail s t tx space rows r turn =
    let h = reads_space s.up s tx space rows turn.right in
    subst (Each (λ row. WasPut (log ++ s.log) (writes_of tx trail) row.place row.row)) (sym h.shows) (all_put log place trail s tx (path.Whole space) _ r h)

pub groups_are_clean : GroupsAreClean
groups_are_clean log place trail s t tx space group rows r turn =
    let h = reads_group s.up s tx space group rows turn.right in
    subst (Each (λ row. WasPut (log ++ s.log) (writes_of tx trail) row.place row.row)) (sym h.shows) (all_put log place trail s tx (path.Group space group) _ r h)

pub spaces_are_free : SpacesAreFree
spaces_are_free log place trail s t tx space rows r turn =
    free log place trail s tx (path.Whole space) _ r (reads_space s.up s tx space rows turn.right)

pub groups_are_free : GroupsAreFree
groups_are_free log place trail s t tx space group rows r turn =
    free log place trail s tx (path.Group space group) _ r (reads_group s.up s tx space group rows turn.right)
