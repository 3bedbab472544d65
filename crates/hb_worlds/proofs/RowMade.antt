-- A world with rows: a session inserts a row into a table that is there, selects it by its key and commits; ds, which it only read, and
-- bes1 vote, fes1 decides, and both commit. Given are the changes by which the table was created, as they stand in the log of ds; no
-- entry of a group but that of the row's own is looked at.
use Rattle.std.proofs.Common.{◌≡◌, ℕ, zero, suc, ◌+◌, ◌*◌, ◌≤◌, List, [], ◌∷◌, ◌++◌, Some, refl, subst, arith, lit≤, lit<, inl, inr}
use Rattle.std.specs.Prelude.{slice_get, filter, flat_map}
use Rattle.std.proofs.lemmas.Bool.{false≢true}
use Rattle.hb_types.specs.declared.change.Change.{Change}
use Rattle.hb_types.specs.declared.change.LogItem.{LogItem}
use Rattle.hb_types.specs.declared.change.LogItem.TheVariants as item
use Rattle.hb_types.specs.declared.lock.Held.{Held}
use Rattle.hb_types.specs.declared.lock.Mode.TheVariants as mode
use Rattle.hb_types.specs.declared.names.NodeName.{NodeName}
use Rattle.hb_types.specs.declared.places.Path.TheVariants as path
use Rattle.hb_types.specs.declared.trail.Call.{Call}
use Rattle.hb_types.specs.Groups.{group_of}
use Rattle.hb_types.specs.Lists.{Each}
use Rattle.hb_types.specs.Numbers.{greatest}
use Rattle.hb_types.specs.Put.{lookup, rows_under}
use Rattle.hb_types.specs.Records.{record_length}
use Rattle.hb_model.specs.Items.{Item, tending}
use Rattle.hb_model.specs.Spots.{dictionary_space, entries_space, space_in}
use Rattle.hb_model.specs.State.{State}
use Rattle.hb_disks.specs.Disks.{written}
use Rattle.hb_disks.specs.Images.{Images, Logs, ReadAs}
use Rattle.hb_disks.specs.LogPlaces.{end_behind}
use Rattle.hb_disks.specs.Redo.{redo}
use Rattle.hb_disks.specs.StandsFor.{HaveBases, StandsWith}
use Rattle.hb_runs.specs.Coordinator as coordinator
use Rattle.hb_runs.specs.Server as server
use Rattle.hb_runs.specs.ServerEffects as effect
use Rattle.hb_runs.specs.ServerRuns as runs
use Rattle.hb_law.specs.Answering.{IsOfSystem}
use Rattle.hb_law.specs.Callers.{Obeys}
use Rattle.hb_law.specs.Composition.{AllObey, AllPlaced, ArePlaced, CoordinatorRan, NodesRan, OperatorObeys, ServerRan, ShowsItems, Together, World, lines_by, shown_of}
use Rattle.hb_law.specs.Histories.{Labelled, Merged, calls_at, entries_of, stands}
use Rattle.hb_law.specs.Transactions.{AreTxns, IsRightTxn, IsSomebodys, IsTxnOf, OutcomesTold, ShowsAnswered}
use Rattle.hb_worlds.proofs.AreaMade.{at_one, at_two, decision, elsewhere, end, n1, no, nobody, none_is, not_mgr, of_mgr, reserved, started, vote}
use Rattle.hb_worlds.proofs.Permits.{may_decide_by, may_enlist_by, open_by}
use Rattle.hb_worlds.proofs.RowCalls.{t2, t3, n2, n3, table_stored, key, entry, spot, entry_bytes, made, tables, votes, begins, enters, enlists_ds, locks_tables, scans_tables, locks_entry, reads_entry, enlists_bes, locks_key, looks, inserts, locks_row, reads_row, votes_ds, votes_bes, decides, commits_ds, commits_bes, leaves, opening, planned, all_asked, opens, makes, shows, closes, all_lists, all_calls, fes_trail, ds_trail, bes_trail, all_trails, began, all_lines, faithful, shown_faithful}

-- ---- the logs

-- the branches of ds and of bes1
abbrev pub ds_locks : List Held
ds_locks =
    record { path = tables; mode = mode.S }
    ∷ record { path = path.Whole (dictionary_space entries_space); mode = mode.IS }
    ∷ record { path = path.Group (dictionary_space entries_space) 1; mode = mode.IS }
    ∷ record { path = path.Key entry; mode = mode.S }
    ∷ []

abbrev pub bes_locks : List Held
bes_locks =
    record { path = path.Whole (space_in 257 1); mode = mode.IX }
    ∷ record { path = path.Group (space_in 257 1) (group_of key); mode = mode.IX }
    ∷ record { path = path.Key spot; mode = mode.X }
    ∷ []

abbrev pub ds_vote : LogItem
ds_vote = item.Prepare t3 n2 ds_locks []

abbrev pub bes_vote : LogItem
bes_vote = item.Prepare t3 (record { 0 = 0 }) bes_locks (made ∷ [])

abbrev pub row_end : LogItem
row_end = item.Commit t3 n3

abbrev pub further_ids : LogItem
further_ids = item.Ids 2000

abbrev pub row_decision : LogItem
row_decision = item.Decision t3 n3 (record { 0 = 1 } ∷ record { 0 = 2 } ∷ [])

abbrev pub fes_before : List LogItem
fes_before = reserved ∷ decision ∷ item.Decision t2 n2 (record { 0 = 1 } ∷ []) ∷ []

abbrev pub fes_after : List LogItem
fes_after = reserved ∷ decision ∷ item.Decision t2 n2 (record { 0 = 1 } ∷ []) ∷ further_ids ∷ row_decision ∷ []

-- ---- the session obeys

abbrev p1 : List Call
p1 = enters ∷ []

abbrev p2 : List Call
p2 = p1 ++ enlists_ds ∷ []

abbrev p3 : List Call
p3 = p2 ++ locks_tables ∷ []

abbrev p4 : List Call
p4 = p3 ++ scans_tables ∷ []

abbrev p5 : List Call
p5 = p4 ++ locks_entry ∷ []

abbrev p6 : List Call
p6 = p5 ++ reads_entry ∷ []

abbrev p7 : List Call
p7 = p6 ++ enlists_bes ∷ []

abbrev p8 : List Call
p8 = p7 ++ locks_key ∷ []

abbrev p9 : List Call
p9 = p8 ++ looks ∷ []

abbrev p10 : List Call
p10 = p9 ++ inserts ∷ []

abbrev p11 : List Call
p11 = p10 ++ locks_tables ∷ []

abbrev p12 : List Call
p12 = p11 ++ scans_tables ∷ []

abbrev p13 : List Call
p13 = p12 ++ locks_entry ∷ []

abbrev p14 : List Call
p14 = p13 ++ reads_entry ∷ []

abbrev p15 : List Call
p15 = p14 ++ locks_row ∷ []

abbrev p16 : List Call
p16 = p15 ++ reads_row ∷ []

abbrev p17 : List Call
p17 = p16 ++ votes_ds ∷ []

abbrev p18 : List Call
p18 = p17 ++ votes_bes ∷ []

abbrev p19 : List Call
p19 = p18 ++ decides ∷ []

abbrev p20 : List Call
p20 = p19 ++ commits_ds ∷ []

abbrev p21 : List Call
p21 = p20 ++ commits_bes ∷ []

session_obeys : Obeys 0 all_asked
session_obeys = ((refl, refl), (tt, ((refl, may_enlist_by 1 p1 refl), ((refl, open_by 1 p2 (inr (inl (refl, refl))) refl), ((refl, open_by 1 p3 (inr (inl (refl, refl))) refl), ((refl, open_by 1 p4 (inr (inl (refl, refl))) refl), ((refl, open_by 1 p5 (inr (inl (refl, refl))) refl), ((refl, may_enlist_by 2 p6 refl), ((refl, open_by 2 p7 (inr (inr (inr (inr (inr (inr (inl (refl, refl)))))))) refl), ((refl, open_by 2 p8 (inr (inr (inr (inr (inr (inr (inl (refl, refl)))))))) refl), ((refl, open_by 2 p9 (inr (inr (inr (inr (inr (inr (inl (refl, refl)))))))) refl), ((refl, open_by 1 p10 (inr (inl (refl, refl))) refl), ((refl, open_by 1 p11 (inr (inl (refl, refl))) refl), ((refl, open_by 1 p12 (inr (inl (refl, refl))) refl), ((refl, open_by 1 p13 (inr (inl (refl, refl))) refl), ((refl, open_by 2 p14 (inr (inr (inr (inr (inr (inr (inl (refl, refl)))))))) refl), ((refl, open_by 2 p15 (inr (inr (inr (inr (inr (inr (inl (refl, refl)))))))) refl), ((refl, open_by 1 p16 (inr (inl (refl, refl))) refl), ((refl, open_by 2 p17 (inr (inr (inr (inr (inr (inr (inl (refl, refl)))))))) refl), ((refl, may_decide_by votes p18 refl ((λ h. no h), ((λ h. inl refl), ((λ h. no h), ((λ h. no h), ((λ h. no h), ((λ h. no h), ((λ h. inr (inl refl)), ((λ h. no h), ((λ h. no h), ((λ h. no h), ((λ h. no h), ((λ h. no h), ((λ h. no h), ((λ h. no h), ((λ h. no h), ((λ h. no h), ((λ h. no h), ((λ h. no h), tt)))))))))))))))))) refl), (inl (refl, (inr (inl (refl, refl)), inr (inr (inr (inr (inr (inr (inr (inr (inr (inr (inr (inr (inr (inr (inr (inr (inr (inr (inl (refl, refl))))))))))))))))))))), (inl (refl, (inr (inr (inr (inr (inr (inr (inl (refl, refl))))))), inr (inr (inr (inr (inr (inr (inr (inr (inr (inr (inr (inr (inr (inr (inr (inr (inr (inr (inl (refl, refl))))))))))))))))))))), (tt, tt)))))))))))))))))))))))

obey : AllObey all_calls
obey zero list h = at_one (Obeys 0) all_asked list h session_obeys
obey (suc n) list h = none_is list (subst (λ k. slice_get all_calls k ≡ Some list) (next n) h)
  where
    next : (n : ℕ) → suc n + 1 ≡ suc (suc n)
    next n = omega arith

operator : OperatorObeys all_calls
operator list h = at_one (Obeys 2) (opening ++ []) list h (tt, (tt, (tt, tt)))

all_system : Each (Each IsOfSystem) all_calls
all_system = (
  (elsewhere (started 0) refl (lit< tt) refl, (elsewhere (started 1) refl (lit< tt) refl, (elsewhere (started 2) refl (lit< tt) refl, tt))),
  (
    (record { begins = λ h. (refl, refl); beside = λ h. elim h [ inl e ↦ absurd (not_mgr 0 (lit< tt) e) | inr t ↦ absurd (false≢true t) ] }, (of_mgr enters refl refl, (elsewhere enlists_ds refl (lit< tt) refl, (elsewhere locks_tables refl (lit< tt) refl, (elsewhere scans_tables refl (lit< tt) refl, (elsewhere locks_entry refl (lit< tt) refl, (elsewhere reads_entry refl (lit< tt) refl, (elsewhere enlists_bes refl (lit< tt) refl, (elsewhere locks_key refl (lit< tt) refl, (elsewhere looks refl (lit< tt) refl, (elsewhere inserts refl (lit< tt) refl, (elsewhere locks_tables refl (lit< tt) refl, (elsewhere scans_tables refl (lit< tt) refl, (elsewhere locks_entry refl (lit< tt) refl, (elsewhere reads_entry refl (lit< tt) refl, (elsewhere locks_row refl (lit< tt) refl, (elsewhere reads_row refl (lit< tt) refl, (elsewhere votes_ds refl (lit< tt) refl, (elsewhere votes_bes refl (lit< tt) refl, (elsewhere decides refl (lit< tt) refl, (elsewhere commits_ds refl (lit< tt) refl, (elsewhere commits_bes refl (lit< tt) refl, (of_mgr leaves refl refl, tt))))))))))))))))))))))),
    tt,
  ),
)

-- ---- lists

abbrev Same : ℕ → ℕ → List Labelled → List Call → Type 0
Same node caller trail list = filter stands (entries_of caller trail) ≡ filter stands (calls_at node list)

lists_merged : Merged all_trails all_calls
lists_merged =
    record {
      same = same;
      callers = ((lit< tt, (lit< tt, (lit< tt, tt))), ((lit< tt, (lit< tt, (lit< tt, (lit< tt, (lit< tt, (lit< tt, (lit< tt, (lit< tt, (lit< tt, (lit< tt, (lit< tt, (lit< tt, tt)))))))))))), ((lit< tt, (lit< tt, (lit< tt, (lit< tt, (lit< tt, (lit< tt, (lit< tt, (lit< tt, (lit< tt, tt))))))))), tt)));
      here = ((inl (lit< tt), (inl (lit< tt), (inl (lit< tt), tt))), ((inl (lit< tt), (inr refl, (inl (lit< tt), (inl (lit< tt), (inl (lit< tt), (inl (lit< tt), (inl (lit< tt), (inl (lit< tt), (inl (lit< tt), (inl (lit< tt), (inl (lit< tt), (inl (lit< tt), (inl (lit< tt), (inl (lit< tt), (inl (lit< tt), (inl (lit< tt), (inl (lit< tt), (inl (lit< tt), (inl (lit< tt), (inl (lit< tt), (inl (lit< tt), (inl (lit< tt), (inr refl, tt))))))))))))))))))))))), tt));
    }
  where
    same : (node caller : ℕ) (trail : List Labelled) (list : List Call) → slice_get all_trails node ≡ Some trail → slice_get all_calls caller ≡ Some list
        → filter stands (entries_of caller trail) ≡ filter stands (calls_at node list)
    same zero zero trail list t l = at_two (Same 0 0) fes_trail trail (opening ++ []) list t l refl
    same zero (suc zero) trail list t l = at_two (Same 0 1) fes_trail trail all_asked list t l refl
    same (suc zero) zero trail list t l = at_two (Same 1 0) ds_trail trail (opening ++ []) list t l refl
    same (suc zero) (suc zero) trail list t l = at_two (Same 1 1) ds_trail trail all_asked list t l refl
    same (suc (suc zero)) zero trail list t l = at_two (Same 2 0) bes_trail trail (opening ++ []) list t l refl
    same (suc (suc zero)) (suc zero) trail list t l = at_two (Same 2 1) bes_trail trail all_asked list t l refl
    same (suc (suc (suc n))) caller trail list t l = none_is trail t
    same node (suc (suc n)) trail list t l = none_is list l

-- ---- transactions

began_here : IsTxnOf all_lists began
began_here =
    record {
      front = [];
      stretch = makes ∷ shows ∷ closes ∷ [];
      back = [];
      first = makes;
      others = shows ∷ closes ∷ [];
      parts = refl;
      own = refl;
      items = refl;
      begins = record { before = []; begin = begins; more = enters ∷ planned; parts = refl; begun = refl; apart = tt; none_before = refl; none_behind = refl };
      asked = ((refl, inl (inl refl)), ((refl, inl (inl refl)), tt));
      counted = refl;
      over = tt;
      turns = (tt, (tt, (tt, tt)));
    }

right : IsRightTxn 1 began
right =
    record {
      right = λ d o. (faithful, (shown_faithful, (((refl, refl), inr (inr (inl (refl, refl)))), tt)));
      bound = (
        (faithful.1.undecided, faithful.1.locks, (record { replied = refl; of_select = λ h. no h; undone = λ h. no h; sourced = faithful.1.sourced }, tt)),
        (
          (
            shown_faithful.1.undecided,
            shown_faithful.1.locks,
            (record { replied = refl; of_select = λ h. refl; undone = λ h. no h; sourced = shown_faithful.1.sourced }, tt),
          ),
          (((refl, refl), inr (inr (inl (refl, refl)))), tt),
        ),
      );
      kinds = inl ((tt, (tt, (tt, tt))), (refl, (refl, lit≤ tt)));
      named = ((tt, tt), ((tt, tt), ((tt, tt), tt)));
      begins = tt;
    }

somebodys : (caller : ℕ) (list : List Item) → slice_get all_lists caller ≡ Some list → Each (IsSomebodys (began ∷ []) caller) list
somebodys zero list h =
    at_one (Each (IsSomebodys (began ∷ []) 0)) (opens ∷ []) list h (inr (record { asks_none = (refl, (refl, (refl, tt))); tells_none = tt }), tt)
somebodys (suc zero) list h =
    at_one (Each (IsSomebodys (began ∷ []) 1)) (makes ∷ shows ∷ closes ∷ []) list h (inl (inl (refl, inl refl)), (inl (inl (refl, inr (inl refl))), (inl (inl (refl, inr (inr (inl refl)))), tt)))
somebodys (suc (suc n)) list h = none_is list h

placed : AllPlaced all_lists
placed zero list h = at_one (ArePlaced 0 tending) (makes ∷ shows ∷ closes ∷ []) list h (inl (lit< tt), (inl (lit< tt), (inl (lit< tt), tt)))
placed (suc n) list h = none_is list (subst (λ k. slice_get all_lists k ≡ Some list) (next n) h)
  where
    next : (n : ℕ) → suc n + 1 ≡ suc (suc n)
    next n = omega arith

are_txns : AreTxns all_lists (began ∷ [])
are_txns = record { each = (began_here, tt); all = (tt, ((inl refl, tt), tt)); none_left = somebodys }

outcomes : Each (OutcomesTold (began ∷ [])) all_lists
outcomes = ((tt, tt), (((tt, tt), ((tt, tt), ((tt, tt), tt))), tt))

numbers : Each (Each ShowsAnswered) all_lists
numbers = ((tt, tt), (((tt, tt), ((tt, tt), ((inr (inr (inl (refl, refl))), tt), tt))), tt))

lines_shown : ShowsItems all_lists all_lines
lines_shown = record { same = same; callers = (lit< tt, (lit< tt, (lit< tt, tt))) }
  where
    same : (caller : ℕ) (list : List Item) → slice_get all_lists caller ≡ Some list → lines_by caller all_lines ≡ lines_by caller (flat_map (shown_of caller) list)
    same zero list h = at_one (λ list. lines_by 0 all_lines ≡ lines_by 0 (flat_map (shown_of 0) list)) (opens ∷ []) list h refl
    same (suc zero) list h = at_one (λ list. lines_by 1 all_lines ≡ lines_by 1 (flat_map (shown_of 1) list)) (makes ∷ shows ∷ closes ∷ []) list h refl
    same (suc (suc n)) list h = none_is list h

-- ---- fes1

abbrev k0 : coordinator.CState
k0 = coordinator.stopped_at fes_before

abbrev k1 : coordinator.CState
k1 = coordinator.happens k0 coordinator.came_up

abbrev k2 : coordinator.CState
k2 = coordinator.happens (coordinator.happens k1 (coordinator.reserved 2000)) (coordinator.begun 1001)

abbrev both : List NodeName
both = record { 0 = 1 } ∷ record { 0 = 2 } ∷ []

abbrev k3 : coordinator.CState
k3 = coordinator.happens (coordinator.happens k2 (coordinator.decided 1001 3 both)) (coordinator.ended 1001)

fes_ran : CoordinatorRan fes_before fes_after fes_trail
fes_ran =
    record {
      last = k3;
      ran = (
        k1,
        record { effects = coordinator.came_up ∷ []; causes = refl; right = refl; steps = (refl, refl) },
        (
          k2,
          record {
            effects = coordinator.reserved 2000 ∷ coordinator.begun 1001 ∷ [];
            causes = (coordinator.reserved 2000 ∷ [], inr (lit< tt, refl), refl);
            right = refl;
            steps = ((lit< tt, lit≤ tt, lit≤ tt), ((refl, lit≤ tt), refl));
          },
          (
            k3,
            record {
              effects = coordinator.decided 1001 3 both ∷ coordinator.ended 1001 ∷ [];
              causes = refl;
              right = refl;
              steps = ((inl refl, lit< tt, lit≤ tt, lit≤ tt), (inl refl, refl));
            },
            refl,
          ),
        ),
      );
      log = refl;
    }

-- ---- branches

abbrev branch : List Held → List Change → server.Branch
branch locks own = record { tx = 1001; locks = locks; own = own }

-- ---- bes1

abbrev bes_one : List Held
bes_one = record { path = path.Whole (space_in 257 1); mode = mode.IX } ∷ []

abbrev bes_two : List Held
bes_two = record { path = path.Whole (space_in 257 1); mode = mode.IX } ∷ record { path = path.Group (space_in 257 1) (group_of key); mode = mode.IX } ∷ []

abbrev b0 : server.SState
b0 = runs.stopped_at (redo []) (end_behind 0 [])

abbrev b1 : server.SState
b1 = effect.happens b0 effect.came_up

abbrev b2 : server.SState
b2 = effect.happens b1 (effect.enlisted 1001)

abbrev to_whole : effect.Effect
to_whole = effect.granted 1001 (path.Whole (space_in 257 1)) mode.IX

abbrev to_group : effect.Effect
to_group = effect.granted 1001 (path.Group (space_in 257 1) (group_of key)) mode.IX

abbrev to_key : effect.Effect
to_key = effect.granted 1001 (path.Key spot) mode.X

abbrev b3 : server.SState
b3 = effect.happens (effect.happens (effect.happens b2 to_whole) to_group) to_key

abbrev b4 : server.SState
b4 = effect.happens b3 (effect.written 1001 made)

abbrev to_whole_again : effect.Effect
to_whole_again = effect.granted 1001 (path.Whole (space_in 257 1)) mode.IS

abbrev to_group_again : effect.Effect
to_group_again = effect.granted 1001 (path.Group (space_in 257 1) (group_of key)) mode.IS

abbrev to_key_again : effect.Effect
to_key_again = effect.granted 1001 (path.Key spot) mode.S

abbrev b4r : server.SState
b4r = effect.happens (effect.happens (effect.happens b4 to_whole_again) to_group_again) to_key_again

abbrev b5 : server.SState
b5 = effect.happens b4r (effect.prepared 1001)

abbrev b6 : server.SState
b6 = effect.happens b5 (effect.committed 1001 3)

bes_ran : ServerRan [] (bes_vote ∷ row_end ∷ []) bes_trail
bes_ran =
    record {
      last = b6;
      ran = (
        b1,
        record { effects = effect.came_up ∷ []; causes = refl; right = refl; steps = (refl, refl) },
        (
          b2,
          record { effects = effect.enlisted 1001 ∷ []; causes = inl (nobody, refl); right = tt; steps = (nobody, refl) },
          (
            b3,
            record {
              effects = to_whole ∷ to_group ∷ to_key ∷ [];
              causes = refl;
              right = inl refl;
              steps = (
                (branch [] [], (inl refl, refl), tt, ((λ n. absurd (n refl)), tt)),
                (
                  (branch bes_one [], (inl refl, refl), (inl refl, tt), ((λ n. absurd (n refl)), tt)),
                  ((branch bes_two [], (inl refl, refl), (inl refl, (inr (inl refl), tt)), ((λ n. absurd (n refl)), tt)), refl),
                ),
              );
            },
            (
              b3,
              record { effects = []; causes = refl; right = record { branch = branch bes_locks []; live = (inl refl, refl); covered = inl (inr (inr (inl refl))); shows = refl }; steps = refl },
              (
                b4,
                record { effects = effect.written 1001 made ∷ []; causes = refl; right = tt; steps = ((branch bes_locks [], (inl refl, refl), inl (inr (inr (inl refl)))), refl) },
                (
                  b4r,
                  record {
                    effects = to_whole_again ∷ to_group_again ∷ to_key_again ∷ [];
                    causes = refl;
                    right = inl refl;
                    steps = (
                      (branch bes_locks (made ∷ []), (inl refl, refl), tt, ((λ n. absurd (n refl)), tt)),
                      (
                        (branch bes_locks (made ∷ []), (inl refl, refl), (inl refl, tt), ((λ n. absurd (n refl)), tt)),
                        ((branch bes_locks (made ∷ []), (inl refl, refl), (inl refl, (inr (inl refl), tt)), ((λ n. absurd (n refl)), tt)), refl),
                      ),
                    );
                  },
                  (
                    b4r,
                    record {
                      effects = [];
                      causes = refl;
                      right = record { branch = branch bes_locks (made ∷ []); live = (inl refl, refl); covered = inl (inr (inr (inl refl))); shows = refl };
                      steps = refl;
                    },
                    (
                      b5,
                      record { effects = effect.prepared 1001 ∷ []; causes = refl; right = refl; steps = ((branch bes_locks (made ∷ []), (inl refl, refl), (lit≤ tt, lit≤ tt)), refl) },
                      (b6, record { effects = effect.committed 1001 3 ∷ []; causes = refl; right = tt; steps = ((0, inl (refl, refl), lit< tt), refl) }, refl),
                    ),
                  ),
                ),
              ),
            ),
          ),
        ),
      );
      log = refl;
    }

-- ---- ds, whose rows are those of the table's creation

abbrev ds_one : List Held
ds_one = record { path = tables; mode = mode.S } ∷ []

abbrev ds_two : List Held
ds_two = record { path = tables; mode = mode.S } ∷ record { path = path.Whole (dictionary_space entries_space); mode = mode.IS } ∷ []

abbrev ds_three : List Held
ds_three =
    record { path = tables; mode = mode.S }
    ∷ record { path = path.Whole (dictionary_space entries_space); mode = mode.IS }
    ∷ record { path = path.Group (dictionary_space entries_space) 1; mode = mode.IS }
    ∷ []

roomy : (n m : ℕ) → n ≤ 16777216 → m ≤ 1000 → n + m + 1 + 32 * 1 ≤ greatest
roomy n m few short = let top : 16778249 ≤ greatest = lit≤ tt in omega (arith, few, short, top)

-- the log of ds once the area and the table were created, by changes and under locks that are given
abbrev pub ds_before : List Change → List Held → List LogItem
ds_before changes granted = vote ∷ end ∷ item.Prepare t2 n1 granted changes ∷ item.Commit t2 n2 ∷ []

abbrev pub ds_after : List Change → List Held → List LogItem
ds_after changes granted = vote ∷ end ∷ item.Prepare t2 n1 granted changes ∷ item.Commit t2 n2 ∷ ds_vote ∷ row_end ∷ []

abbrev pub before : List Change → List Held → Logs
before changes granted = record { fes = fes_before; servers = ds_before changes granted ∷ [] ∷ [] }

abbrev pub after : List Change → List Held → Logs
after changes granted = record { fes = fes_after; servers = ds_after changes granted ∷ (bes_vote ∷ row_end ∷ []) ∷ [] }

-- the rows of ds tell the one table, and where the row's group lies; the log is no longer than a record may be
pub record TellTable (changes : List Change) (granted : List Held) : Type 0 where
  pub the_table : table_stored ∷ [] ≡ rows_under tables (redo (ds_before changes granted)).rows
  pub the_entry : Some entry_bytes ≡ lookup entry (redo (ds_before changes granted)).rows
  pub short : end_behind 0 (ds_before changes granted) ≤ 16777216

module _ (changes : List Change) (granted : List Held) (told : TellTable changes granted) where
  abbrev d0 : server.SState
  d0 = runs.stopped_at (redo (ds_before changes granted)) (end_behind 0 (ds_before changes granted))

  abbrev d1 : server.SState
  d1 = effect.happens d0 effect.came_up

  abbrev d2 : server.SState
  d2 = effect.happens d1 (effect.enlisted 1001)

  abbrev d3 : server.SState
  d3 = effect.happens d2 (effect.granted 1001 tables mode.S)

  abbrev to_entries : effect.Effect
  to_entries = effect.granted 1001 (path.Whole (dictionary_space entries_space)) mode.IS

  abbrev to_entry_group : effect.Effect
  to_entry_group = effect.granted 1001 (path.Group (dictionary_space entries_space) 1) mode.IS

  abbrev to_entry : effect.Effect
  to_entry = effect.granted 1001 (path.Key entry) mode.S

  abbrev d4 : server.SState
  d4 = effect.happens (effect.happens (effect.happens d3 to_entries) to_entry_group) to_entry

  abbrev d4t : server.SState
  d4t = effect.happens d4 (effect.granted 1001 tables mode.S)

  abbrev d4e : server.SState
  d4e = effect.happens (effect.happens (effect.happens d4t to_entries) to_entry_group) to_entry

  abbrev d5 : server.SState
  d5 = effect.happens d4e (effect.prepared 1001)

  abbrev d6 : server.SState
  d6 = effect.happens d5 (effect.committed 1001 3)

  ds_ran : ServerRan (ds_before changes granted) (ds_after changes granted) ds_trail
  ds_ran =
      record {
        last = d6;
        ran = (
          d1,
          record { effects = effect.came_up ∷ []; causes = refl; right = refl; steps = (refl, refl) },
          (
            d2,
            record { effects = effect.enlisted 1001 ∷ []; causes = inl (nobody, refl); right = tt; steps = (nobody, refl) },
            (
              d3,
              record {
                effects = effect.granted 1001 tables mode.S ∷ [];
                causes = refl;
                right = inl refl;
                steps = ((branch [] [], (inl refl, refl), tt, ((λ n. absurd (n refl)), tt)), refl);
              },
              (
                d3,
                record { effects = []; causes = refl; right = record { branch = branch ds_one []; live = (inl refl, refl); covered = inl (inl refl); shows = told.the_table }; steps = refl },
                (
                  d4,
                  record {
                    effects = to_entries ∷ to_entry_group ∷ to_entry ∷ [];
                    causes = refl;
                    right = inl refl;
                    steps = (
                      (branch ds_one [], (inl refl, refl), tt, ((λ n. absurd (n refl)), tt)),
                      (
                        (branch ds_two [], (inl refl, refl), (inr (inl refl), tt), ((λ n. absurd (n refl)), tt)),
                        ((branch ds_three [], (inl refl, refl), (inr (inl refl), (inr (inr (inl refl)), tt)), ((λ n. absurd (n refl)), tt)), refl),
                      ),
                    );
                  },
                  (
                    d4,
                    record {
                      effects = [];
                      causes = refl;
                      right = record { branch = branch ds_locks []; live = (inl refl, refl); covered = inl (inr (inr (inr (inl refl)))); shows = told.the_entry };
                      steps = refl;
                    },
                    (
                      d4t,
                      record {
                        effects = effect.granted 1001 tables mode.S ∷ [];
                        causes = refl;
                        right = inl refl;
                        steps = ((branch ds_locks [], (inl refl, refl), tt, ((λ n. absurd (n refl)), tt)), refl);
                      },
                      (
                        d4t,
                        record { effects = []; causes = refl; right = record { branch = branch ds_locks []; live = (inl refl, refl); covered = inl (inl refl); shows = told.the_table }; steps = refl },
                        (
                          d4e,
                          record {
                            effects = to_entries ∷ to_entry_group ∷ to_entry ∷ [];
                            causes = refl;
                            right = inl refl;
                            steps = (
                              (branch ds_locks [], (inl refl, refl), tt, ((λ n. absurd (n refl)), tt)),
                              (
                                (branch ds_locks [], (inl refl, refl), (inr (inl refl), tt), ((λ n. absurd (n refl)), tt)),
                                ((branch ds_locks [], (inl refl, refl), (inr (inl refl), (inr (inr (inl refl)), tt)), ((λ n. absurd (n refl)), tt)), refl),
                              ),
                            );
                          },
                          (
                            d4e,
                            record {
                              effects = [];
                              causes = refl;
                              right = record { branch = branch ds_locks []; live = (inl refl, refl); covered = inl (inr (inr (inr (inl refl)))); shows = told.the_entry };
                              steps = refl;
                            },
                            (
                              d5,
                              record {
                                effects = effect.prepared 1001 ∷ [];
                                causes = refl;
                                right = refl;
                                steps = ((branch ds_locks [], (inl refl, refl), (roomy (end_behind 0 (ds_before changes granted)) (record_length ds_vote) told.short (lit≤ tt), lit≤ tt)), refl);
                              },
                              (d6, record { effects = effect.committed 1001 3 ∷ []; causes = refl; right = tt; steps = ((2, inl (refl, refl), lit< tt), refl) }, refl),
                            ),
                          ),
                        ),
                      ),
                    ),
                  ),
                ),
              ),
            ),
          ),
        );
        log = refl;
      }

  nodes_ran : NodesRan (before changes granted) (after changes granted) all_trails
  nodes_ran =
      record {
        nodes = refl;
        same = refl;
        fes = λ trail h. at_one (λ t. CoordinatorRan fes_before fes_after t) fes_trail trail h fes_ran;
        servers = ran;
      }
    where
      three : (b before a after : List LogItem) (t trail : List Labelled) → Some b ≡ Some before → Some a ≡ Some after → Some t ≡ Some trail → ServerRan b a t
          → ServerRan before after trail
      three b before a after t trail e f g r =
          at_one (λ x. ServerRan before after x) t trail g (at_two (λ x y. ServerRan x y t) b before a after e f r)

      ran : (i : ℕ) (b a : List LogItem) (trail : List Labelled) → slice_get (before changes granted).servers i ≡ Some b → slice_get (after changes granted).servers i ≡ Some a
          → slice_get all_trails (i + 1) ≡ Some trail → ServerRan b a trail
      ran zero b a trail e f t = three (ds_before changes granted) b (ds_after changes granted) a ds_trail trail e f t ds_ran
      ran (suc zero) b a trail e f t = three [] b (bes_vote ∷ row_end ∷ []) a bes_trail trail e f t bes_ran
      ran (suc (suc i)) b a trail e f t = none_is b e

-- ---- the premises

abbrev pub world : List Change → List Held → Images → Images → World
world changes granted base_images images =
    record {
      base_images = base_images;
      base = before changes granted;
      images = images;
      logs = after changes granted;
      trails = all_trails;
      lists = all_lists;
      txns = began ∷ [];
      lines = all_lines;
    }

-- from any images of a state with the table, to any that hold the logs behind it
pub row_made_together : (changes : List Change) (granted : List Held) (base_images images : Images) (start : State) → TellTable changes granted
    → StandsWith written base_images (before changes granted) start → ReadAs images (after changes granted) → HaveBases written images.servers (after changes granted).servers
    → Together written (world changes granted base_images images)
row_made_together changes granted base_images images start told stood read points =
    record {
      start = start;
      stood = stood;
      read = read;
      points = points;
      nodes = nodes_ran changes granted told;
      merged = lists_merged;
      placed = placed;
      obey = obey;
      operator = operator;
      system = all_system;
      back_ends_few = (lit≤ tt, lit≤ tt);
      txns = are_txns;
      right = (right, tt);
      outcomes = outcomes;
      numbers = numbers;
      shown = lines_shown;
    }
