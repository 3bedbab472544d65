-- A cut as a history of its own: its trails, its lists and its lines.
use Rattle.std.proofs.Common.{◌≡◌, ◌⊎◌, ◌∙◌, ℕ, ◌<◌, zero, suc, Bool, List, [], ◌∷◌, ◌++◌, Some, ap, inl, inr, length, map, refl, subst, sym}
use Rattle.std.specs.Prelude.{◌==◌, ◌&&◌, filter, flat_map, not, slice_get}
use Rattle.std.specs.List.{AllZip}
use Rattle.std.proofs.lemmas.Bool.{eqb-true}
use Rattle.hb_types.specs.declared.answer.Answer.{Answer}
use Rattle.hb_types.specs.declared.trail.Call.{Call}
use Rattle.hb_types.specs.declared.trail.TrailEntry.{TrailEntry}
use Rattle.hb_types.specs.Lists.{Each}
use Rattle.hb_types.proofs.Ascending.{Each-back, Each-front, Each-append}
use Rattle.hb_types.proofs.PutLaws.{by_test}
use Rattle.hb_model.specs.declared.reply.Reply.{Reply}
use Rattle.hb_model.specs.Items.{Item, calls_of}
use Rattle.hb_law.specs.Composition.{ShowsItems, lines_by, shown_of}
use Rattle.hb_law.specs.Histories.{Event, History, IsHere, IsNode, IsTimely, Labelled, Merged, Shown, Trails, calls, calls_at, entries_of, gives, lines_in, list_in, shows, stands, trail_in}
use Rattle.hb_law.specs.InTime.{Deed, asks, deeds_in, deeds_of, is_busy, says}
use Rattle.hb_law.specs.Moments.{CallInProgress, IsCut}
use Rattle.hb_whose.proofs.Trailing.{same_number}
use Rattle.hb_steps.proofs.ItemCalls.{got_map}
use Rattle.hb_parts.specs.Moments.{AreListsAt, CameTo}

-- ---- calls of deeds

abbrev asked_in : List Deed → List Call
asked_in [] = []
asked_in (asks x ∷ ds) = x ∷ asked_in ds
asked_in (says p r ∷ ds) = asked_in ds

list_asked : (c : ℕ) (es : List Event) → list_in c es ≡ asked_in (deeds_in c es)
list_asked c [] = refl
list_asked c (gives d p ∷ es) = list_asked c es
list_asked c (calls d n entry ∷ es) =
    by_test (d == c)
    (λ t. rw t (ap (λ l. record { node = record { 0 = n }; request = entry.request; answer = entry.answer } ∷ l) (list_asked c es)))
    (λ f. rw f (list_asked c es))
list_asked c (shows d p r ∷ es) =
    by_test (d == c) (λ t. by_test (is_busy r) (λ b. rw (t, b) (list_asked c es)) (λ b. rw (t, b) (list_asked c es))) (λ f. rw f (list_asked c es))

asked_append : (xs ys : List Deed) → asked_in (xs ++ ys) ≡ asked_in xs ++ asked_in ys
asked_append [] ys = refl
asked_append (asks x ∷ xs) ys = ap (λ l. x ∷ l) (asked_append xs ys)
asked_append (says p r ∷ xs) ys = asked_append xs ys

item_asked : (cs : List Call) (p : ℕ) (rs : List Reply) → asked_in (map asks cs ++ map (says p) rs) ≡ cs
item_asked [] p [] = refl
item_asked [] p (r ∷ rs) = item_asked [] p rs
item_asked (c ∷ cs) p rs = ap (λ l. c ∷ l) (item_asked cs p rs)

items_asked : (is : List Item) → asked_in (flat_map deeds_of is) ≡ calls_of is
items_asked [] = refl
items_asked (i ∷ is) =
    asked_append (deeds_of i) (flat_map deeds_of is)
    ∙ ap (λ l. l ++ asked_in (flat_map deeds_of is)) (item_asked i.calls i.place (filter (λ r. not (is_busy r)) i.lines)) ∙ ap (λ l. i.calls ++ l) (items_asked is)

-- ---- lines of deeds

abbrev said_in : ℕ → List Deed → List Shown
said_in c [] = []
said_in c (asks x ∷ ds) = said_in c ds
said_in c (says p r ∷ ds) = record { caller = c; place = p; reply = r } ∷ said_in c ds

lines_said : (c : ℕ) (es : List Event) → lines_by c (lines_in es) ≡ said_in c (deeds_in c es)
lines_said c [] = refl
lines_said c (gives d p ∷ es) = lines_said c es
lines_said c (calls d n entry ∷ es) = by_test (d == c) (λ t. rw t (lines_said c es)) (λ f. rw f (lines_said c es))
lines_said c (shows d p r ∷ es) =
    by_test (d == c)
    (λ t. by_test (is_busy r)
    (λ b. rw (t, b) (lines_said c es))
    (λ b. let its : record { caller = d; place = p; reply = r } ≡ record { caller = c; place = p; reply = r } = ap (λ z. record { caller = z; place = p; reply = r }) (eqb-true d c t) in
    rw (t, b) (ap (λ z. z ∷ lines_by c (lines_in es)) its ∙ ap (λ l. record { caller = c; place = p; reply = r } ∷ l) (lines_said c es))))
    (λ f. rw f (lines_said c es))

said_append : (c : ℕ) (xs ys : List Deed) → said_in c (xs ++ ys) ≡ said_in c xs ++ said_in c ys
said_append c [] ys = refl
said_append c (asks x ∷ xs) ys = said_append c xs ys
said_append c (says p r ∷ xs) ys = ap (λ l. record { caller = c; place = p; reply = r } ∷ l) (said_append c xs ys)

filter_append : {A : Type 0} (p : A → Bool) (xs ys : List A) → filter p (xs ++ ys) ≡ filter p xs ++ filter p ys
filter_append p [] ys = refl
filter_append p (x ∷ xs) ys = by_test (p x) (λ t. rw t (ap (λ l. x ∷ l) (filter_append p xs ys))) (λ f. rw f (filter_append p xs ys))

-- what one item says
item_said : (c p : ℕ) (rs : List Reply) → said_in c (map (says p) (filter (λ r. not (is_busy r)) rs)) ≡ lines_by c (map (λ r. record { caller = c; place = p; reply = r }) rs)
item_said c p [] = refl
item_said c p (r ∷ rs) =
    let u = same_number c in
    by_test (is_busy r) (λ b. rw (u, b) (item_said c p rs)) (λ b. rw (u, b) (ap (λ l. record { caller = c; place = p; reply = r } ∷ l) (item_said c p rs)))

none_said : (c : ℕ) (cs : List Call) (ds : List Deed) → said_in c (map asks cs ++ ds) ≡ said_in c ds
none_said c [] ds = refl
none_said c (x ∷ cs) ds = none_said c cs ds

items_said : (c : ℕ) (is : List Item) → said_in c (flat_map deeds_of is) ≡ lines_by c (flat_map (shown_of c) is)
items_said c [] = refl
items_said c (i ∷ is) =
    said_append c (deeds_of i) (flat_map deeds_of is)
    ∙ ap (λ l. l ++ said_in c (flat_map deeds_of is)) (none_said c i.calls (map (says i.place) (filter (λ r. not (is_busy r)) i.lines)) ∙ item_said c i.place i.lines)
    ∙ ap (λ l. lines_by c (shown_of c i) ++ l) (items_said c is)
    ∙ sym (filter_append (λ l. (l.caller == c) && not (is_busy l.reply)) (shown_of c i) (flat_map (shown_of c) is))

-- ---- merged

entries_called : (node c : ℕ) (es : List Event) → entries_of c (trail_in node es) ≡ calls_at node (list_in c es)
entries_called node c [] = refl
entries_called node c (gives d p ∷ es) = entries_called node c es
entries_called node c (shows d p r ∷ es) = entries_called node c es
entries_called node c (calls d n entry ∷ es) =
    by_test (n == node)
    (λ t. by_test (d == c)
    (λ u. rw (t, u) (rw t (ap (λ l. record { request = entry.request; answer = entry.answer } ∷ l) (entries_called node c es))))
    (λ f. rw (t, f) (entries_called node c es)))
    (λ f. by_test (d == c) (λ u. rw (f, u) (rw f (entries_called node c es))) (λ g. rw (f, g) (entries_called node c es)))

pub each_at : {A : Type 0} (P : A → Type 0) (xs : List A) → ((k : ℕ) (x : A) → slice_get xs k ≡ Some x → P x) → Each P xs
each_at P [] f = tt
each_at P (x ∷ xs) f = (f zero x refl, each_at P xs (λ k y g. f (suc k) y g))

trail_callers : (nodes callers node : ℕ) (es : List Event) → Each (IsHere nodes callers) es → Each (λ l. l.caller < callers) (trail_in node es)
trail_callers nodes callers node [] h = tt
trail_callers nodes callers node (gives d p ∷ es) h = trail_callers nodes callers node es h.1
trail_callers nodes callers node (shows d p r ∷ es) h = trail_callers nodes callers node es h.1
trail_callers nodes callers node (calls d n entry ∷ es) h =
    by_test (n == node) (λ t. rw t (h.0.1, trail_callers nodes callers node es h.1)) (λ f. rw f (trail_callers nodes callers node es h.1))

list_nodes : (nodes callers c : ℕ) (es : List Event) → Each (IsHere nodes callers) es → Each (λ x. IsNode nodes x.node.0) (list_in c es)
list_nodes nodes callers c [] h = tt
list_nodes nodes callers c (gives d p ∷ es) h = list_nodes nodes callers c es h.1
list_nodes nodes callers c (shows d p r ∷ es) h = list_nodes nodes callers c es h.1
list_nodes nodes callers c (calls d n entry ∷ es) h =
    by_test (d == c) (λ t. rw t (h.0.0, list_nodes nodes callers c es h.1)) (λ f. rw f (list_nodes nodes callers c es h.1))

pub merged : (h : List Event) (trails : Trails) (lists : List (List Call)) (lines : List Shown) → History h trails lists lines → Merged trails lists
merged h trails lists lines k =
    record {
      same = λ node caller trail list gt gl.
          ap (λ l. filter stands (entries_of caller l)) (k.are_trails node trail gt) ∙ ap (filter stands) (entries_called node caller h)
          ∙ ap (λ l. filter stands (calls_at node l)) (sym (k.are_lists caller list gl));
      callers =
          each_at (Each (λ l. l.caller < length lists)) trails
          (λ node trail g. subst (Each (λ l. l.caller < length lists)) (sym (k.are_trails node trail g)) (trail_callers (length trails) (length lists) node h k.here));
      here =
          each_at (Each (λ c. IsNode (length trails) c.node.0)) lists
          (λ caller list g. subst (Each (λ c. IsNode (length trails) c.node.0)) (sym (k.are_lists caller list g)) (list_nodes (length trails) (length lists) caller h k.here));
    }

-- ---- the history of a cut

-- a cut is a front of the history, or that and the next call with another answer
data Front (h kept : List Event) : Type 0 where
  plain : (rest : List Event) → h ≡ kept ++ rest → Front h kept
  with_last : (done : List Event) (d n : ℕ) (entry : TrailEntry) (a : Answer) (more : List Event) → h ≡ done ++ calls d n entry ∷ more
      → kept ≡ done ++ calls d n (record entry { answer = a }) ∷ [] → Front h kept

front_of : (m : ℕ) (h kept : List Event) → IsCut m h kept → Front h kept
front_of m h kept k = by k.rest k.parts k.last
  where
    by : (rest : List Event) → h ≡ k.done ++ rest → (kept ≡ k.done) ⊎ CallInProgress m k.done rest kept → Front h kept
    by rest e (inl q) = plain rest (e ∙ ap (λ l. l ++ rest) (sym q))
    by [] e (inr i) = absurd i
    by (gives d p ∷ more) e (inr i) = absurd i
    by (shows d p r ∷ more) e (inr i) = absurd i
    by (calls d n entry ∷ more) e (inr i) = with_last k.done d n entry i.1.0 more e i.1.1

lines_append : (xs ys : List Event) → lines_in (xs ++ ys) ≡ lines_in xs ++ lines_in ys
lines_append [] ys = refl
lines_append (gives d p ∷ xs) ys = lines_append xs ys
lines_append (calls d n entry ∷ xs) ys = lines_append xs ys
lines_append (shows d p r ∷ xs) ys = ap (λ l. record { caller = d; place = p; reply = r } ∷ l) (lines_append xs ys)

here_front : (nodes callers : ℕ) (h kept : List Event) → Front h kept → Each (IsHere nodes callers) h → Each (IsHere nodes callers) kept
here_front nodes callers h kept (plain rest e) i = Each-front (IsHere nodes callers) kept rest (subst (Each (IsHere nodes callers)) e i)
here_front nodes callers h kept (with_last done d n entry a more e q) i =
    let all = subst (Each (IsHere nodes callers)) e i in
    subst (Each (IsHere nodes callers)) (sym q)
    (Each-append (IsHere nodes callers) done (calls d n (record entry { answer = a }) ∷ []) (Each-front (IsHere nodes callers) done (calls d n entry ∷ more) all)
    ((Each-back (IsHere nodes callers) done (calls d n entry ∷ more) all).0, tt))

timely_plain : (t : ℕ) (xs ys : List Event) → IsTimely t (xs ++ ys) → IsTimely t xs
timely_plain t [] ys i = tt
timely_plain t (gives d p ∷ xs) ys i = timely_plain t xs ys i
timely_plain t (shows d p r ∷ xs) ys i = timely_plain t xs ys i
timely_plain t (calls d n entry ∷ xs) ys i = (i.0, i.1, timely_plain entry.to xs ys i.2)

timely_last : (t : ℕ) (xs : List Event) (d n : ℕ) (entry : TrailEntry) (a : Answer) (more : List Event) → IsTimely t (xs ++ calls d n entry ∷ more)
    → IsTimely t (xs ++ calls d n (record entry { answer = a }) ∷ [])
timely_last t [] d n entry a more i = (i.0, i.1, tt)
timely_last t (gives c p ∷ xs) d n entry a more i = timely_last t xs d n entry a more i
timely_last t (shows c p r ∷ xs) d n entry a more i = timely_last t xs d n entry a more i
timely_last t (calls c k other ∷ xs) d n entry a more i = (i.0, i.1, timely_last other.to xs d n entry a more i.2)

timely_front : (t : ℕ) (h kept : List Event) → Front h kept → IsTimely t h → IsTimely t kept
timely_front t h kept (plain rest e) i = timely_plain t kept rest (subst (IsTimely t) e i)
timely_front t h kept (with_last done d n entry a more e q) i = subst (IsTimely t) (sym q) (timely_last t done d n entry a more (subst (IsTimely t) e i))

lines_front : (P : Shown → Type 0) (h kept : List Event) → Front h kept → Each P (lines_in h) → Each P (lines_in kept)
lines_front P h kept (plain rest e) i = Each-front P (lines_in kept) (lines_in rest) (subst (Each P) (ap lines_in e ∙ lines_append kept rest) i)
lines_front P h kept (with_last done d n entry a more e q) i =
    let all : Each P (lines_in done ++ lines_in more) = subst (Each P) (ap lines_in e ∙ lines_append done (calls d n entry ∷ more)) i in
    let same : lines_in kept ≡ lines_in done ++ [] = ap lines_in q ∙ lines_append done (calls d n (record entry { answer = a }) ∷ []) in
    subst (Each P) (sym same) (Each-append P (lines_in done) [] (Each-front P (lines_in done) (lines_in more) all) tt)

pub same_length : {A B : Type 0} (Q : A → B → Type 0) (xs : List A) (ys : List B) → AllZip Q xs ys → length ys ≡ length xs
same_length Q [] [] z = refl
same_length Q [] (y ∷ ys) z = absurd z
same_length Q (x ∷ xs) [] z = absurd z
same_length Q (x ∷ xs) (y ∷ ys) z = ap suc (same_length Q xs ys z.1)

pub mapped_length : {A B : Type 0} (f : A → B) (xs : List A) → length (map f xs) ≡ length xs
mapped_length f [] = refl
mapped_length f (x ∷ xs) = ap suc (mapped_length f xs)

module _ (m : ℕ) (h kept : List Event) (trails fronts : Trails) (lists came : List (List Item)) (lines : List Shown) (k : IsCut m h kept)
    (hist : History h trails (map calls_of lists) lines) (nodes : length fronts ≡ length trails)
    (are : (node : ℕ) (front : List Labelled) → slice_get fronts node ≡ Some front → front ≡ trail_in node kept)
    (shown : ShowsItems lists lines) (at : AreListsAt kept lists came) where
  callers : length came ≡ length lists
  callers = same_length CameTo lists came at.parts

  list_is : (caller : ℕ) (list : List Item) → slice_get came caller ≡ Some list → calls_of list ≡ list_in caller kept
  list_is caller list g = sym (items_asked list) ∙ ap asked_in (sym (at.deeds caller list g)) ∙ sym (list_asked caller kept)

  pub history : History kept fronts (map calls_of came) (lines_in kept)
  history =
      record {
        are_trails = are;
        are_lists = λ caller list g. let y = got_map calls_of came caller list g in sym y.2 ∙ list_is caller y.0 y.1;
        are_lines = refl;
        here =
            subst (λ n. Each (IsHere n (length (map calls_of came))) kept) (sym nodes)
            (subst (λ n. Each (IsHere (length trails) n) kept) (mapped_length calls_of lists ∙ sym callers ∙ sym (mapped_length calls_of came))
            (here_front (length trails) (length (map calls_of lists)) h kept (front_of m h kept k) hist.here));
        timely = timely_front zero h kept (front_of m h kept k) hist.timely;
      }

  pub shows_items : ShowsItems came (lines_in kept)
  shows_items =
      record {
        same = λ caller list g. lines_said caller kept ∙ ap (said_in caller) (at.deeds caller list g) ∙ items_said caller list;
        callers =
            subst (λ n. Each (λ l. l.caller < n) (lines_in kept)) (sym callers)
            (lines_front (λ l. l.caller < length lists) h kept (front_of m h kept k) (subst (Each (λ l. l.caller < length lists)) hist.are_lines shown.callers));
      }
