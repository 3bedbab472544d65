-- The created area as a run in time: its history, its script and its lines.
use Rattle.std.proofs.Common.{◌≡◌, ℕ, zero, suc, ◌+◌, false, List, [], ◌∷◌, ◌++◌, Some, None, refl, subst, sym, ap, ◌∙◌, arith, lit≤, lit<, inl, inr}
use Rattle.std.specs.Prelude.{Ok, codes, flat_map, slice_get}
use Rattle.std.specs.Ordering.{nat_cmp}
use Rattle.std.proofs.lemmas.List.{append_assoc}
use Rattle.hb_types.specs.declared.trail.Call.{Call}
use Rattle.hb_types.specs.Lists.{Ascends, Each, EachBehind}
use Rattle.hb_model.specs.declared.line.Line.{Line}
use Rattle.hb_model.specs.declared.line.Work.TheVariants as work
use Rattle.hb_model.specs.declared.reply.Reply.{Reply}
use Rattle.hb_model.specs.declared.reply.Reply.TheVariants as reply
use Rattle.hb_model.specs.declared.script.Item.TheVariants as script
use Rattle.hb_model.specs.declared.statement.Statement.TheVariants as statement
use Rattle.hb_model.specs.Items.{Item}
use Rattle.hb_disks.specs.Disks.{written}
use Rattle.hb_disks.specs.Images.{decided}
use Rattle.hb_disks.specs.Logless.{empty_logs}
use Rattle.hb_law.specs.Composition.{lists_of}
use Rattle.hb_law.specs.Explained.{Explained}
use Rattle.hb_law.specs.Histories.{Event, History, Labelled, calls, gives, list_in, shows, trail_in}
use Rattle.hb_law.specs.InTime.{InItsOrder, IsWork, WasGiven, deeds_in, deeds_of, places_in}
use Rattle.hb_law.specs.Ordered.{InOrder, Shows}
use Rattle.hb_law.specs.OwnAnswers.{Names, ScriptLine}
use Rattle.hb_law.specs.Scripts.{DoTheScript, DoesWork, IsRunOf, work_at, works_of}
use Rattle.hb_worlds.proofs.AreaMade.{after_logs, all_asked, all_lines, all_lists, all_trails, area_explained, area_made_together, at_one, began, begins, closes, commits, committed, create, decides, ds_trail, enlists, enters, fes_trail, leaves, locks, makes, none_is, opening, opens, prepares, scans, started, world, writes}

-- ---- in time

abbrev at : ℕ → Call → Event
at caller c = calls caller c.node.0 (record { caller = caller; nth = 1; request = c.request; answer = c.answer; from = 0; to = 0 })

abbrev opened : List Event
opened = at 0 (started 0) ∷ at 0 (started 1) ∷ []

abbrev made : List Event
made = at 1 begins ∷ at 1 enters ∷ at 1 enlists ∷ at 1 locks ∷ at 1 scans ∷ at 1 writes ∷ shows 1 1 reply.Created ∷ []

abbrev kept : List Event
kept = at 1 prepares ∷ at 1 decides ∷ at 1 commits ∷ at 1 leaves ∷ shows 1 2 committed ∷ []

abbrev pub h : List Event
h = opened ++ gives 1 1 ∷ made ++ gives 1 2 ∷ kept

history : History h all_trails (lists_of world) all_lines
history =
    record {
      are_trails = trails;
      are_lists = lists;
      are_lines = refl;
      here = (
        (inl (lit< tt), lit< tt),
        (
          (inl (lit< tt), lit< tt),
          (
            tt,
            (
              (inl (lit< tt), lit< tt),
              (
                (inr refl, lit< tt),
                (
                  (inl (lit< tt), lit< tt),
                  (
                    (inl (lit< tt), lit< tt),
                    (
                      (inl (lit< tt), lit< tt),
                      (
                        (inl (lit< tt), lit< tt),
                        (
                          tt,
                          (tt, ((inl (lit< tt), lit< tt), ((inl (lit< tt), lit< tt), ((inl (lit< tt), lit< tt), ((inr refl, lit< tt), (tt, tt)))))),
                        ),
                      ),
                    ),
                  ),
                ),
              ),
            ),
          ),
        ),
      );
      timely = (lit≤ tt, lit≤ tt, (lit≤ tt, lit≤ tt, (lit≤ tt, lit≤ tt, (lit≤ tt, lit≤ tt, (lit≤ tt, lit≤ tt, (lit≤ tt, lit≤ tt, (lit≤ tt, lit≤ tt, (lit≤ tt, lit≤ tt, (lit≤ tt, lit≤ tt, (lit≤ tt, lit≤ tt, (lit≤ tt, lit≤ tt, (lit≤ tt, lit≤ tt, tt))))))))))));
    }
  where
    trails : (node : ℕ) (trail : List Labelled) → slice_get all_trails node ≡ Some trail → trail ≡ trail_in node h
    trails zero trail e = at_one (λ t. t ≡ trail_in 0 h) fes_trail trail e refl
    trails (suc zero) trail e = at_one (λ t. t ≡ trail_in 1 h) ds_trail trail e refl
    trails (suc (suc zero)) trail e = at_one (λ t. t ≡ trail_in 2 h) [] trail e refl
    trails (suc (suc (suc n))) trail e = none_is trail e

    lists : (caller : ℕ) (list : List Call) → slice_get (lists_of world) caller ≡ Some list → list ≡ list_in caller h
    lists zero list e = at_one (λ l. l ≡ list_in 0 h) (opening ++ []) list e refl
    lists (suc zero) list e = at_one (λ l. l ≡ list_in 1 h) all_asked list e refl
    lists (suc (suc n)) list e = none_is list e

in_order : InItsOrder h all_lists
in_order = record { own = own; given = given; once = once }
  where
    own : (caller : ℕ) (list : List Item) → slice_get all_lists caller ≡ Some list → deeds_in caller h ≡ flat_map deeds_of list
    own zero list e = at_one (λ l. deeds_in 0 h ≡ flat_map deeds_of l) (opens ∷ []) list e refl
    own (suc zero) list e = at_one (λ l. deeds_in 1 h ≡ flat_map deeds_of l) (makes ∷ closes ∷ []) list e refl
    own (suc (suc n)) list e = none_is list e

    given : (caller : ℕ) (list : List Item) → slice_get all_lists caller ≡ Some list → EachBehind (λ before i. IsWork i.doing → WasGiven caller h before i) [] list
    given zero list e = at_one (EachBehind (λ before i. IsWork i.doing → WasGiven 0 h before i) []) (opens ∷ []) list e ((λ w. absurd w), tt)
    given (suc zero) list e =
        at_one (EachBehind (λ before i. IsWork i.doing → WasGiven 1 h before i) []) (makes ∷ closes ∷ []) list e
        ((λ w. (opened, made ++ gives 1 2 ∷ kept, [], refl, refl)), ((λ w. (opened ++ gives 1 1 ∷ made, kept, [], refl, refl)), tt))
    given (suc (suc n)) list e = none_is list e

    once : (caller : ℕ) (list : List Item) → slice_get all_lists caller ≡ Some list → Ascends nat_cmp (places_in caller h)
    once zero list e = tt
    once (suc zero) list e = (refl, tt)
    once (suc (suc n)) list e = none_is list e

-- ---- what the law concludes in time

abbrev first_or : Event → List Event → Event
first_or e [] = e
first_or e (x ∷ xs) = x

abbrev tail_of : List Event → List Event
tail_of [] = []
tail_of (x ∷ xs) = xs

none_is_some : (n : ℕ) → None ≡ Some n → ⊥
none_is_some n e = cc

-- where only the last event shows a number, nothing stands behind one that does
last_shows : (m : ℕ) (front : List Event) (last : Event) (a : List Event) (shown : Event) (rest : List Event) → Each (λ x. ¬ (Shows m x)) front
    → front ++ last ∷ [] ≡ a ++ shown ∷ rest → Shows m shown → rest ≡ []
last_shows m [] last [] shown rest quiet e s = sym (ap tail_of e)
last_shows m [] last (y ∷ []) shown rest quiet e s = absurd (cc (ap tail_of e))
last_shows m [] last (y ∷ z ∷ zs) shown rest quiet e s = absurd (cc (ap tail_of e))
last_shows m (x ∷ xs) last [] shown rest quiet e s = absurd (quiet.0 (subst (Shows m) (sym (ap (first_or x) e)) s))
last_shows m (x ∷ xs) last (y ∷ ys) shown rest quiet e s = last_shows m xs last ys shown rest quiet.1 (ap tail_of e) s

some_behind : (b c : List Event) (e : Event) → b ++ e ∷ c ≡ [] → ⊥
some_behind [] c e h = cc
some_behind (x ∷ xs) c e h = cc

abbrev before_last : List Event
before_last = opened ++ gives 1 1 ∷ made ++ gives 1 2 ∷ at 1 prepares ∷ at 1 decides ∷ at 1 commits ∷ at 1 leaves ∷ []

quiet_before : (m : ℕ) → Each (λ x. ¬ (Shows m x)) before_last
quiet_before m = (no, (no, (no, (no, (no, (no, (no, (no, (no, (none_is_some m, (no, (no, (no, (no, (no, tt)))))))))))))))
  where
    no : ⊥ → ⊥
    no h = h

in_number_order : InOrder after_logs (began ∷ []) h
in_number_order a b c shown e m n t i more parts shows_m known items is begin =
    absurd (some_behind b c e (last_shows m before_last (shows 1 2 committed) a shown (b ++ e ∷ c) (quiet_before m) (parts ∙ append_assoc a (shown ∷ b) (e ∷ c)) shows_m))

pub area_explained_in_time : Explained empty_logs after_logs (began ∷ []) h all_lines
area_explained_in_time =
    record {
      further = decided after_logs;
      apart = area_explained;
      ordered = in_number_order;
    }

-- ---- the script and the lines

abbrev pub names : Names
names = codes "s1" ∷ []

abbrev pub script_lines : List ScriptLine
script_lines = Ok (script.Give (codes "s1") (work.Sql create) false) ∷ Ok (script.Give (codes "s1") (work.Sql statement.Commit) false) ∷ []

abbrev says : Reply → Line
says r = record { session = Some 0; work = None; reply = r }

abbrev pub printed : List Line
printed = says reply.Created ∷ says committed ∷ []

do_the_script : DoTheScript names script_lines all_lists
do_the_script zero list e =
    at_one (Each (λ i. DoesWork (work_at (works_of names script_lines 0) i.place) i.doing)) (makes ∷ closes ∷ []) list e (refl, (refl, tt))
do_the_script (suc n) list e = none_is list (subst (λ k. slice_get all_lists k ≡ Some list) (next n) e)
  where
    next : (n : ℕ) → suc n + 1 ≡ suc (suc n)
    next n = omega arith

pub area_run : IsRunOf written names script_lines printed world h
area_run = record { together = area_made_together; history = history; order = in_order; works = do_the_script; lines_are = refl }
