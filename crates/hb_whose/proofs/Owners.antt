-- Each transaction has one caller.
use Rattle.std.proofs.Common.{◌≡◌, ◌⊎◌, ◌∙◌, ℕ, ◌<◌, true, List, [], ◌∷◌, ◌++◌, Some, None, ap, append_assoc, append-nil, arith, inl, inr, refl, subst, sym}
use Rattle.std.specs.Prelude.{filter, slice_get, IsTrue, length, ◌==◌}
use Rattle.std.specs.Ordering.{nat_cmp}
use Rattle.std.proofs.lemmas.Bool.{false≢true}
use Rattle.std.proofs.lemmas.List.Elements.{filter-append}
use Rattle.hb_types.specs.declared.answer.Answer.{Answer}
use Rattle.hb_types.specs.declared.answer.Answer.TheVariants as answer
use Rattle.hb_types.specs.declared.request.Request.{Request}
use Rattle.hb_types.specs.declared.request.Request.TheVariants as request
use Rattle.hb_types.specs.declared.trail.Call.{Call}
use Rattle.hb_types.specs.Lists.{Ascends, Each, IsIn}
use Rattle.hb_types.proofs.Ascending.{Each-in, Has-back, Has-front, in_Each}
use Rattle.hb_types.proofs.PutLaws.{by_test}
use Rattle.hb_loglaws.proofs.Members.{in_append, in_map}
use Rattle.hb_disks.specs.Images.{Logs}
use Rattle.hb_runs.specs.Coordinator as coordinator
use Rattle.hb_runs.specs.ServerRuns.{Asked}
use Rattle.hb_law.specs.Callers.{Obeys, Permitted, current, current_from, is_begun}
use Rattle.hb_law.specs.Composition.{CoordinatorRan}
use Rattle.hb_law.specs.Histories.{Labelled, Trails, asked, asked_of, calls_at, entries_of, stands}
use Rattle.hb_law.specs.Transactions.{begins_of, begun_in, tx_asked}
use Rattle.hb_coordlaws.specs.Ascending.{TransactionsAscend, given}
use Rattle.hb_parts.specs.Callings.{Callings, IsOfSystem, is_begin}
use Rattle.hb_parts.specs.Courses.{AskNone, IsCourse, IsOwned, Within, is_own}
use Rattle.hb_whose.proofs.Begins.{Began, Until, apart_in, began, begins_entries, gave, given_ascends, given_cons, in_given, one_caller, until}
use Rattle.hb_whose.proofs.Currents.{IsWithin, asks_within, begins_append, current_append, current_begun, current_behind, current_in, within_none}
use Rattle.hb_whose.proofs.Parts.{behind_at, each_behind, each_part, is_there, kept_twice, none_some, some_is, stands_at}
use Rattle.hb_whose.proofs.Trailing.{asked_in_list, each_got, got, none_own, only_own, own_parts, same_number, some_obeys, calls_at_append}

module _ (transactions_ascend : TransactionsAscend) (base logs : Logs) (trails : Trails) (lists : List (List Call)) (k : Callings base logs trails lists)
    (fes : List Labelled) (at : slice_get trails 0 ≡ Some fes) where
  ran : CoordinatorRan base.fes logs.fes fes
  ran = k.nodes.fes fes at

  -- what was given ascends
  pub ascends : Ascends nat_cmp (given (asked_of fes))
  ascends = transactions_ascend (coordinator.stopped_at base.fes) ran.last (asked_of fes) (omega arith) ran.ran

  -- a caller's begins are its own that were given
  pub begun_here : (c : ℕ) (list : List Call) → slice_get lists c ≡ Some list → begins_of list ≡ given (entries_of c fes)
  begun_here c list h = begins_entries c fes list (each_got (λ l. Each IsOfSystem l) lists c list k.system h) (k.merged.same 0 c fes list at h)

  pub begins_ascend : (c : ℕ) (list : List Call) → slice_get lists c ≡ Some list → Ascends nat_cmp (begins_of list)
  begins_ascend c list h = subst (Ascends nat_cmp) (sym (begun_here c list h)) (given_ascends c fes ascends)

  pub begun_given : (c : ℕ) (list : List Call) (t : ℕ) → slice_get lists c ≡ Some list → IsIn t (begins_of list) → IsIn t (given (asked_of fes))
  begun_given c list t h i = in_given c t fes (subst (IsIn t) (begun_here c list h) i)

  pub same_caller : (c e t : ℕ) (list more : List Call) → slice_get lists c ≡ Some list → slice_get lists e ≡ Some more → IsIn t (begins_of list)
      → IsIn t (begins_of more) → c ≡ e
  same_caller c e t list more h g i j = one_caller c e t fes ascends (subst (IsIn t) (begun_here c list h) i) (subst (IsIn t) (begun_here e more g) j)

  -- ---- what is asked of a transaction is asked by a caller that began it

  pub permitted : (c : ℕ) (list front : List Call) (x : Call) (back : List Call) → slice_get lists c ≡ Some list → list ≡ front ++ x ∷ back
      → (session : ℕ) × Permitted session front x.node.0 x.request
  permitted c list front x back h e =
      let o = some_obeys lists k.obey k.operator c list h in
      (o.session, behind_at (λ f y. Permitted o.session f y.node.0 y.request) [] front x back (subst (Obeys o.session) e o.obeys))

  pub within_front : (c : ℕ) (list front : List Call) (x : Call) (back : List Call) (t : ℕ) → slice_get lists c ≡ Some list → list ≡ front ++ x ∷ back
      → tx_asked x.request ≡ Some t
      → IsWithin t front x.node.0 x.request
  within_front c list front x back t h e q = let p = permitted c list front x back h e in asks_within p.0 t front x.node.0 x.request q p.1

  pub begun_before : (c : ℕ) (list front : List Call) (x : Call) (back : List Call) (t : ℕ) → slice_get lists c ≡ Some list → list ≡ front ++ x ∷ back
      → tx_asked x.request ≡ Some t
      → IsIn t (begins_of front)
  begun_before c list front x back t h e q =
      let w = within_front c list front x back t h e q in subst (λ z. IsIn z (begins_of front)) w.tx (current_in front w.now w.is)

  in_whole : (front more : List Call) (t : ℕ) (list : List Call) → list ≡ front ++ more → IsIn t (begins_of front) → IsIn t (begins_of list)
  in_whole front more t list e i =
      subst (λ l. IsIn t (begins_of l)) (sym e)
      (subst (IsIn t) (sym (begins_append front more)) (Has-front (λ y. y ≡ t) (begins_of front) (begins_of more) i))

  -- an entry that asks something of a transaction is of a caller that began it
  pub record IsOf (t : ℕ) (c : ℕ) : Type 0 where
    pub list : List Call
    pub its_list : slice_get lists c ≡ Some list
    pub begun : IsIn t (begins_of list)

  pub of_caller : (node : ℕ) (trail : List Labelled) (l : Labelled) (t : ℕ) → slice_get trails node ≡ Some trail → IsIn l trail
      → is_own t (asked l.entry) ≡ true → IsOf t l.caller
  of_caller node trail l t h i o =
      let p = own_parts t (asked l.entry) o in
      let a = asked_in_list trails lists k.merged node trail l h i p.1 in
      let s = stands_at a.call a.list a.within in
      let q : tx_asked a.call.request ≡ Some t = ap (λ z. tx_asked z.request) a.is ∙ p.0 in
      record {
        list = a.list;
        its_list = a.its_list;
        begun = in_whole s.front (a.call ∷ s.back) t a.list s.parts
            (begun_before l.caller a.list s.front a.call s.back t a.its_list s.parts q);
      }

  pub asked_of_given : (trail : List Labelled) (node t : ℕ) (a : Asked) → slice_get trails node ≡ Some trail → IsIn a (asked_of trail) → is_own t a ≡ true
      → IsIn t (given (asked_of fes))
  asked_of_given trail node t a h i o =
      let l = in_map (λ l. asked l.entry) a trail i in
      let c = of_caller node trail l.0 t h l.1 (subst (λ z. is_own t z ≡ true) (sym l.2) o) in
      begun_given l.0.caller c.list t c.its_list c.begun

  -- ---- a caller that was given a transaction

  pub record IsGiven (t : ℕ) : Type 0 where
    pub caller : ℕ
    pub list : List Call
    pub its_list : slice_get lists caller ≡ Some list
    pub begun : IsIn t (begins_of list)

  module _ (t : ℕ) (c : ℕ) (list : List Call) (its : slice_get lists c ≡ Some list) (begun : IsIn t (begins_of list)) where
    b : Began t list
    b = began t list begun

    u : Until b.back
    u = until b.back

    whole : list ≡ b.front ++ b.begin ∷ (u.course ++ u.after)
    whole = b.parts ∙ ap (λ l. b.front ++ b.begin ∷ l) u.parts

    -- the begins before and behind are others
    parts_ascend : Ascends nat_cmp (begins_of b.front ++ (t ∷ begins_of (u.course ++ u.after)))
    parts_ascend =
        subst (Ascends nat_cmp)
        (ap begins_of whole ∙ begins_append b.front (b.begin ∷ (u.course ++ u.after))
        ∙ ap (λ l. begins_of b.front ++ l) (begins_append (b.begin ∷ []) (u.course ++ u.after) ∙ ap (λ l. l ++ begins_of (u.course ++ u.after)) b.begun))
        (begins_ascend c list its)

    not_before : IsIn t (begins_of b.front) → ⊥
    not_before i = apart_in (begins_of b.front) (t ∷ begins_of (u.course ++ u.after)) t parts_ascend i (inl refl)

    tail_ascends : (xs ys : List ℕ) → Ascends nat_cmp (xs ++ ys) → Ascends nat_cmp ys
    tail_ascends [] ys a = a
    tail_ascends (x ∷ []) [] a = tt
    tail_ascends (x ∷ []) (y ∷ ys) a = a.1
    tail_ascends (x ∷ z ∷ xs) ys a = tail_ascends (z ∷ xs) ys a.1

    not_behind : IsIn t (begins_of u.after) → ⊥
    not_behind i =
        apart_in (t ∷ []) (begins_of (u.course ++ u.after)) t (tail_ascends (begins_of b.front) (t ∷ begins_of (u.course ++ u.after)) parts_ascend) (inl refl)
        (subst (IsIn t) (sym (begins_append u.course u.after)) (Has-back (λ y. y ≡ t) (begins_of u.course) (begins_of u.after) i))

    none_before : AskNone t b.front
    none_before =
        each_part (λ x. tx_asked x.request ≡ Some t → ⊥) b.front
        (λ f x r e q. not_before (in_whole f (x ∷ r) t b.front e
        (begun_before c list f x (r ++ b.begin ∷ (u.course ++ u.after)) t its
        (whole ∙ ap (λ l. l ++ b.begin ∷ (u.course ++ u.after)) e ∙ append_assoc f (x ∷ r) (b.begin ∷ (u.course ++ u.after))) q)))

    its_calls : (f : List Call) → begins_of f ≡ [] → current (b.front ++ b.begin ∷ f) ≡ Some (record { tx = t; calls = f })
    its_calls f none = current_begun None b.front b.begin t f b.begun none

    front_alone : (f : List Call) (x : Call) (r : List Call) → u.course ≡ f ++ x ∷ r → begins_of f ≡ []
    front_alone f x r e = by (begins_of f) (sym (begins_append f (x ∷ r)) ∙ sym (ap begins_of e) ∙ u.alone)
      where
        cons_nil : (y : ℕ) (zs : List ℕ) → y ∷ zs ≡ [] → ⊥
        cons_nil y zs h = cc

        by : (l : List ℕ) → l ++ begins_of (x ∷ r) ≡ [] → l ≡ []
        by [] h = refl
        by (y ∷ ys) h = absurd (cons_nil y (ys ++ begins_of (x ∷ r)) h)

    -- a call of the course is within it
    course_within : (f : List Call) (x : Call) (r : List Call) → u.course ≡ f ++ x ∷ r → Within t f x.node.0 x.request
    course_within f x r e = within_none t f x.node.0 x.request (λ v q. one v q (within_front c list (b.front ++ b.begin ∷ f) x (r ++ u.after) v its
        (whole ∙ ap (λ l. b.front ++ b.begin ∷ (l ++ u.after)) e ∙ ap (λ l. b.front ++ b.begin ∷ l) (append_assoc f (x ∷ r) u.after)
        ∙ sym (append_assoc b.front (b.begin ∷ f) (x ∷ (r ++ u.after)))) q))
      where
        one : (v : ℕ) → tx_asked x.request ≡ Some v → IsWithin v (b.front ++ b.begin ∷ f) x.node.0 x.request → Within t f x.node.0 x.request
        one v q w =
            let same : record { tx = t; calls = f } ≡ w.now = some_is (record { tx = t; calls = f }) w.now (sym (its_calls f (front_alone f x r e)) ∙ w.is) in
            let tx : t ≡ v = ap (λ z. z.tx) same ∙ w.tx in
            subst (λ z. Within z f x.node.0 x.request) (sym tx) (subst (λ z. Within v z x.node.0 x.request) (sym (ap (λ z. z.calls) same)) w.within)

    is_course : IsCourse t u.course
    is_course = each_behind (λ f x. Within t f x.node.0 x.request) [] u.course course_within

    begins_some : (a : Answer) → (begun_in a ++ [] ≡ [] → ⊥) → IsTrue (is_begun a)
    begins_some (answer.Begun tx) h = refl
    begins_some a h = absurd (h refl)

    -- behind the next Begin nothing is asked of it
    next_asks_none : (q : Request) → IsTrue (is_begin q) → tx_asked q ≡ Some t → ⊥
    next_asks_none (request.Begin owner) i e = none_some t e
    next_asks_none q i e = false≢true i

    none_behind : AskNone t u.after
    none_behind = each_part (λ x. tx_asked x.request ≡ Some t → ⊥) u.after (λ f x r e q. one f x r e q u.next)
      where
        later : (f : List Call) (x : Call) (r : List Call) → u.after ≡ f ++ x ∷ r → tx_asked x.request ≡ Some t
            → IsWithin t ((b.front ++ b.begin ∷ u.course) ++ f) x.node.0 x.request
        later f x r e q =
            within_front c list ((b.front ++ b.begin ∷ u.course) ++ f) x r t its
            (whole ∙ ap (λ l. b.front ++ b.begin ∷ (u.course ++ l)) e ∙ sym (append_assoc b.front (b.begin ∷ u.course) (f ++ x ∷ r))
            ∙ sym (append_assoc (b.front ++ b.begin ∷ u.course) f (x ∷ r))) q

        first_of : (d : Call) (more : List Call) (f : List Call) (x : Call) (r : List Call) → d ∷ more ≡ f ++ x ∷ r
            → (f ≡ []) × (d ≡ x) ⊎ ((g : List Call) × (f ≡ d ∷ g))
        first_of d more [] x r e = inl (refl, cc)
        first_of d more (y ∷ g) x r e = inr (g, ap (λ z. z ∷ g) (sym (heads d y more (g ++ x ∷ r) e)))
          where
            heads : (d y : Call) (ms ns : List Call) → d ∷ ms ≡ y ∷ ns → d ≡ y
            heads d y ms ns e = cc

        one : (f : List Call) (x : Call) (r : List Call) → u.after ≡ f ++ x ∷ r → tx_asked x.request ≡ Some t
            → (u.after ≡ []) ⊎ ((d : Call) × (more : List Call) × (u.after ≡ d ∷ more) × (begins_of (d ∷ []) ≡ [] → ⊥)) → ⊥
        one f x r e q (inl n) = nil f (sym n ∙ e)
          where
            nil : (f : List Call) → [] ≡ f ++ x ∷ r → ⊥
            nil [] h = cc
            nil (y ∷ ys) h = cc
        one f x r e q (inr n) = kind (first_of n.0 n.1 f x r (sym n.2 ∙ e))
          where
            kind : (f ≡ []) × (n.0 ≡ x) ⊎ ((g : List Call) × (f ≡ n.0 ∷ g)) → ⊥
            kind (inl p) =
                let behind : IsIn n.0 (u.course ++ u.after) = Has-back (λ y. y ≡ n.0) u.course u.after (subst (IsIn n.0) (sym n.2) (inl refl)) in
                let member : IsIn n.0 list = subst (IsIn n.0) (sym whole) (Has-back (λ y. y ≡ n.0) b.front (b.begin ∷ (u.course ++ u.after)) (inr behind)) in
                let system : IsOfSystem n.0 = in_Each IsOfSystem n.0 list member (each_got (λ l. Each IsOfSystem l) lists c list k.system its) in
                next_asks_none n.0.request (system.begins (begins_some n.0.answer n.3)).1 (ap (λ z. tx_asked z.request) p.1 ∙ q)
            kind (inr p) =
                let w = later f x r e q in
                let c : current_from (current (b.front ++ b.begin ∷ u.course)) (n.0 ∷ p.0) ≡ Some w.now = sym
                (current_append None (b.front ++ b.begin ∷ u.course) (n.0 ∷ p.0)) ∙ ap (λ l. current ((b.front ++ b.begin ∷ u.course) ++ l)) (sym p.1)
                ∙ w.is in
                not_behind (in_whole f (x ∷ r) t u.after e
                (subst (λ l. IsIn t (begins_of l)) (sym p.1)
                (subst (λ z. IsIn z (begins_of (n.0 ∷ p.0))) w.tx (current_behind (current (b.front ++ b.begin ∷ u.course)) n.0 p.0 w.now n.3 c))))

    -- each trail's entries of it are this caller's
    in_trails : (node : ℕ) (trail : List Labelled) → slice_get trails node ≡ Some trail
        → filter (is_own t) (asked_of trail) ≡ filter (is_own t) (calls_at node u.course)
    in_trails node trail h =
        only_own t c trail (Each-in (λ l. is_own t (asked l.entry) ≡ true → l.caller ≡ c) trail
        (λ l i o. let e = of_caller node trail l t h i o in same_caller l.caller c t e.list list e.its_list its e.begun begun))
        ∙ sym (kept_twice (is_own t) stands wider (entries_of c trail)) ∙ ap (filter (is_own t)) (k.merged.same node c trail list h its)
        ∙ kept_twice (is_own t) stands wider (calls_at node list) ∙ ap (λ l. filter (is_own t) (calls_at node l)) whole
        ∙ ap (filter (is_own t)) (calls_at_append node b.front (b.begin ∷ (u.course ++ u.after)))
        ∙ filter-append (is_own t) (calls_at node b.front) (calls_at node (b.begin ∷ (u.course ++ u.after)))
        ∙ ap (λ l. l ++ filter (is_own t) (calls_at node (b.begin ∷ (u.course ++ u.after)))) (none_own t node b.front none_before)
        ∙ ap (filter (is_own t)) (calls_at_append node (b.begin ∷ []) (u.course ++ u.after))
        ∙ filter-append (is_own t) (calls_at node (b.begin ∷ [])) (calls_at node (u.course ++ u.after))
        ∙ ap (λ l. l ++ filter (is_own t) (calls_at node (u.course ++ u.after))) (none_own t node (b.begin ∷ []) (begin_asks_none, tt))
        ∙ ap (filter (is_own t)) (calls_at_append node u.course u.after) ∙ filter-append (is_own t) (calls_at node u.course) (calls_at node u.after)
        ∙ ap (λ l. filter (is_own t) (calls_at node u.course) ++ l) (none_own t node u.after none_behind)
        ∙ append-nil (filter (is_own t) (calls_at node u.course))
      where
        wider : (a : Asked) → is_own t a ≡ true → stands a ≡ true
        wider a o = (own_parts t a o).1

        cons_nil : (y : ℕ) → y ∷ [] ≡ [] → ⊥
        cons_nil y h = cc

        begin_asks_none : tx_asked b.begin.request ≡ Some t → ⊥
        begin_asks_none q =
            let member : IsIn b.begin list = subst (IsIn b.begin) (sym whole) (is_there b.begin b.front (u.course ++ u.after)) in
            let system : IsOfSystem b.begin = in_Each IsOfSystem b.begin list member (each_got (λ l. Each IsOfSystem l) lists c list k.system its) in
            next_asks_none b.begin.request (system.begins (begins_some b.begin.answer (λ h. cons_nil t (sym b.begun ∙ h)))).1 q

    pub owned : IsOwned trails lists t
    owned =
        record {
          caller = c;
          list = list;
          before = b.front;
          begin = b.begin;
          course = u.course;
          after = u.after;
          its_list = its;
          parts = whole;
          begun = b.begun;
          alone = u.alone;
          next = u.next;
          asks_none_before = none_before;
          asks_none_behind = none_behind;
          is_course = is_course;
          in_trails = in_trails;
        }

  -- ---- whose it is

  given_to : (t : ℕ) (trail : List Labelled) → IsIn t (given (asked_of trail)) → (l : Labelled) × IsIn l trail × IsIn t (given (entries_of l.caller trail))
  given_to t [] h = absurd h
  given_to t (l ∷ ls) h =
      by (in_append t (gave (asked l.entry)) (given (asked_of ls)) (subst (IsIn t) (given_cons (asked l.entry) (asked_of ls)) h)) (λ i. given_to t ls i)
    where
      by : IsIn t (gave (asked l.entry)) ⊎ IsIn t (given (asked_of ls))
          → (IsIn t (given (asked_of ls)) → (m : Labelled) × IsIn m ls × IsIn t (given (entries_of m.caller ls)))
          → (m : Labelled) × IsIn m (l ∷ ls) × IsIn t (given (entries_of m.caller (l ∷ ls)))
      by (inl i) rest =
          let u : (l.caller == l.caller) ≡ true = same_number l.caller in (
            l,
            inl refl,
            rw u (subst (IsIn t) (sym (given_cons (asked l.entry) (entries_of l.caller ls)))
                (Has-front (λ y. y ≡ t) (gave (asked l.entry)) (given (entries_of l.caller ls)) i)),
          )
      by (inr i) rest =
          let m = rest i in (
            m.0,
            inr m.1,
            by_test (l.caller == m.0.caller)
                (λ u. rw u (subst (IsIn t) (sym (given_cons (asked l.entry) (entries_of m.0.caller ls)))
                (Has-back (λ y. y ≡ t) (gave (asked l.entry)) (given (entries_of m.0.caller ls)) m.2)))
                (λ f. rw f m.2),
          )

  pub is_given : (t : ℕ) → IsIn t (given (asked_of fes)) → IsGiven t
  is_given t i =
      let g = given_to t fes i in
      let lt = in_Each (λ m. m.caller < length lists) g.0 fes g.1 (each_got (λ r. Each (λ m. m.caller < length lists) r) trails 0 fes k.merged.callers at) in
      let l = got lists g.0.caller lt in
      record { caller = g.0.caller; list = l.0; its_list = l.1; begun = subst (IsIn t) (sym (begun_here g.0.caller l.0 l.1)) g.2 }

  pub one_owner : (t : ℕ) → IsIn t (given (asked_of fes)) → IsOwned trails lists t
  one_owner t i = let g = is_given t i in owned t g.caller g.list g.its_list g.begun
