-- What a moment leaves with all lines of its cut: what nodes did and callers asked, as the law of composition takes it.
use Rattle.std.proofs.Common.{◌≡◌, ◌⊎◌, ◌∙◌, ℕ, ◌<◌, ◌≤◌, List, [], ◌∷◌, ◌++◌, Some, ap, inl, inr, length, map, refl, subst, sym}
use Rattle.std.specs.Prelude.{◌==◌, slice_get}
use Rattle.hb_types.specs.declared.trail.Call.{Call}
use Rattle.hb_types.specs.declared.trail.TrailEntry.{TrailEntry}
use Rattle.hb_types.specs.Lists.{Each, IsIn}
use Rattle.hb_types.proofs.Ascending.{Each-append, Each-front}
use Rattle.hb_types.proofs.PutLaws.{by_test}
use Rattle.hb_model.specs.Items.{Item, calls_of}
use Rattle.hb_disks.specs.Disks.{written}
use Rattle.hb_disks.specs.Images.{Images, Logs}
use Rattle.hb_law.specs.Answering.{IsOfSystem}
use Rattle.hb_law.specs.Composition.{NodesRan, Together, World, lists_of}
use Rattle.hb_law.specs.Histories.{Event, History, Labelled, Shown, Trails, calls, gives, list_in, shows, trail_in}
use Rattle.hb_law.specs.InTime.{InItsOrder}
use Rattle.hb_law.specs.Moments.{IsLeftRightly, IsTrailAt}
use Rattle.hb_whose.proofs.Parts.{is_there}
use Rattle.hb_whose.proofs.Trailing.{each_got, got, same_number}
use Rattle.hb_intime.proofs.Deeds.{trail_append}
use Rattle.hb_parts.specs.Moments.{AreListsAt, AtMoment, CameTo, HasCut, LastAtNode}
use Rattle.hb_moments.proofs.Answering.{below_got, of_node}
use Rattle.hb_moments.proofs.AtCut.{each_at, history, mapped_length, merged, same_length, shows_items}
use Rattle.hb_moments.proofs.Came.{lists_came}
use Rattle.hb_moments.proofs.Cuts.{has_cut}
use Rattle.hb_moments.proofs.Within.{keep_within}

list_append : (c : ℕ) (xs ys : List Event) → list_in c (xs ++ ys) ≡ list_in c xs ++ list_in c ys
list_append c [] ys = refl
list_append c (gives d p ∷ xs) ys = list_append c xs ys
list_append c (shows d p r ∷ xs) ys = list_append c xs ys
list_append c (calls d n entry ∷ xs) ys =
    by_test (d == c)
    (λ t. rw t (ap (λ l. record { node = record { 0 = n }; request = entry.request; answer = entry.answer } ∷ l) (list_append c xs ys)))
    (λ f. rw f (list_append c xs ys))

-- ---- answers

module _ (base logs : Logs) (moment : ℕ) (h : List Event) (trails fronts : Trails) (lists came : List (List Call)) (lines shown : List Shown) (k : HasCut moment h fronts)
    (hist : History h trails lists lines) (cut_hist : History k.cut fronts came shown) (same : length came ≡ length lists) (ran : NodesRan base logs fronts)
    (few : length base.servers ≤ 9) (system : Each (Each IsOfSystem) lists) where
  done_of_system : (caller : ℕ) → caller < length lists → Each IsOfSystem (list_in caller k.is_cut.done)
  done_of_system caller lt =
      let whole = got lists caller lt in
      let parts : whole.0 ≡ list_in caller k.is_cut.done ++ list_in caller k.is_cut.rest =
      hist.are_lists caller whole.0 whole.1 ∙ ap (list_in caller) k.is_cut.parts ∙ list_append caller k.is_cut.done k.is_cut.rest in
      Each-front IsOfSystem (list_in caller k.is_cut.done) (list_in caller k.is_cut.rest)
      (subst (Each IsOfSystem) parts (each_got (Each IsOfSystem) lists caller whole.0 system whole.1))

  last_of_system : (caller d n : ℕ) (entry : TrailEntry) (front : List Labelled) → slice_get fronts n ≡ Some front → k.cut ≡ k.is_cut.done ++ calls d n entry ∷ []
      → Each IsOfSystem (list_in caller (calls d n entry ∷ []))
  last_of_system caller d n entry front g e = by_test (d == caller) (λ t. rw t (its, tt)) (λ f. rw f tt)
    where
      one : trail_in n (calls d n entry ∷ []) ≡ record { caller = d; entry = entry } ∷ []
      one = let u = same_number n in rw u refl

      in_front : IsIn (record { caller = d; entry = entry }) front
      in_front =
          subst (IsIn (record { caller = d; entry = entry }))
          (sym (k.are_trails n front g ∙ ap (trail_in n) e ∙ trail_append n k.is_cut.done (calls d n entry ∷ []) ∙ ap (λ l. trail_in n k.is_cut.done ++ l) one))
          (is_there (record { caller = d; entry = entry }) (trail_in n k.is_cut.done) [])

      its : IsOfSystem (record { node = record { 0 = n }; request = entry.request; answer = entry.answer })
      its = of_node base logs fronts ran few front (record { caller = d; entry = entry }) in_front n g

  list_of_system : (caller : ℕ) → caller < length lists → Each IsOfSystem (list_in caller k.cut)
  list_of_system caller lt = by k.at_node
    where
      by : (k.cut ≡ k.is_cut.done) ⊎ LastAtNode fronts k.is_cut.done k.cut → Each IsOfSystem (list_in caller k.cut)
      by (inl e) = subst (λ z. Each IsOfSystem (list_in caller z)) (sym e) (done_of_system caller lt)
      by (inr y) =
          subst (Each IsOfSystem) (sym (ap (list_in caller) y.5 ∙ list_append caller k.is_cut.done (calls y.0 y.1 y.2 ∷ [])))
          (Each-append IsOfSystem (list_in caller k.is_cut.done) (list_in caller (calls y.0 y.1 y.2 ∷ [])) (done_of_system caller lt)
          (last_of_system caller y.0 y.1 y.2 y.3 y.4 y.5))

  pub of_system : Each (Each IsOfSystem) came
  of_system =
      each_at (Each IsOfSystem) came
      (λ caller list g. subst (Each IsOfSystem) (sym (cut_hist.are_lists caller list g)) (list_of_system caller (subst (λ n. caller < n) same (below_got came caller list g))))

-- ---- all but transactions

module _ (w : World) (h : List Event) (moment : ℕ) (images : Images) (t : Together written w) (hist : History h w.trails (lists_of w) w.lines) (order : InItsOrder h w.lists)
    (left : IsLeftRightly written w moment images) where
  its_cut : HasCut moment h left.fronts
  its_cut = has_cut moment h w.trails left.fronts (lists_of w) w.lines hist left.at_moment

  module _ (k : HasCut moment h left.fronts) (came : List (List Item)) (lists : AreListsAt k.cut w.lists came) where
    nodes : length left.fronts ≡ length w.trails
    nodes = same_length (IsTrailAt moment) w.trails left.fronts left.at_moment

    callers : length (map calls_of came) ≡ length (lists_of w)
    callers = mapped_length calls_of came ∙ same_length CameTo w.lists came lists.parts ∙ sym (mapped_length calls_of w.lists)

    at_its_cut : AtMoment w h moment left.logs left.fronts
    at_its_cut =
        let its = history moment h k.cut w.trails left.fronts w.lists came w.lines k.is_cut hist nodes k.are_trails t.shown lists in
        let within = keep_within w.lists came lists.parts t.obey t.operator t.placed t.numbers in
        record {
          has_cut = k;
          came = came;
          lists = lists;
          history = its;
          shown = shows_items moment h k.cut w.trails left.fronts w.lists came w.lines k.is_cut hist nodes k.are_trails t.shown lists;
          within = within;
          callings =
              record {
                right = t.stood.are_logs;
                nodes = left.ran;
                merged = merged k.cut left.fronts (map calls_of came) _ its;
                obey = within.obey;
                operator = within.operator;
                system =
                    of_system w.base left.logs moment h w.trails left.fronts (lists_of w) (map calls_of came) w.lines _ k hist its callers left.ran t.back_ends_few.1
                    t.system;
                back_ends_few = t.back_ends_few;
              };
        }

  pub at_moment : AtMoment w h moment left.logs left.fronts
  at_moment = let y = lists_came moment h its_cut.cut w.lists its_cut.is_cut order in at_its_cut its_cut y.0 y.1
