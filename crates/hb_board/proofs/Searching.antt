-- A search, edge by edge.
use Rattle.std.proofs.Common.{◌≡◌, ◌≢◌, ⊎_elim, ℕ, ◌+◌, ◌<◌, refl, sym, ◌∙◌, ap, subst, true, false, arith, List, [], ◌∷◌, ◌++◌, filter, append_assoc, length, take, drop, get_or, add-one, take-append-drop}
use Rattle.std.proofs.Math.Seq.{take-suc}
use Rattle.std.specs.Ordering.{nat_cmp}
use Rattle.std.specs.BTreeSet.{BTreeSet, contains, Updates}
use Rattle.std.proofs.lemmas.Bool.{cases_eq, ne_eqb}
use Rattle.std.proofs.lemmas.List.Elements.{All-cons, filter-append}
use Rattle.hb_types.specs.declared.answer.Edge.{Edge}
use Rattle.hb_types.specs.declared.lock.Mode.TheVariants as mode
use Rattle.hb_types.specs.declared.names.Tx.{Tx}
use Rattle.hb_types.specs.declared.places.Path.TheVariants as path
use Rattle.hb_runs.specs.Board.{Board as BoardState, Reaches, IsCycleOf, is_live_edge, waits_of}
use Rattle.hb_board.specs.Shows.{Shows, is_live_in, kept_by}
use Rattle.hb_board.specs.Searches.{NoneReaches, AreCleared, Finds}
use Rattle.hb_board.specs.declared.board.Board.{Board}
use Rattle.hb_board.specs.declared.search.Search.{Search}
use Rattle.hb_board.proofs.Living.{live_is, waits_are, filter_same}
use Rattle.hb_board.proofs.Maps.{same_key}
use Rattle.hb_board.proofs.Reaching.{cycle_here, cycle_on, not_here, later_cycle, longer_cycle, all_append}

none_of : (b : BoardState) (tx : ℕ) → NoneReaches b tx []
none_of b tx = λ k d lt. absurd (omega (arith, lt))

one_of : (b : BoardState) (tx : ℕ) (e : Edge) → ¬ (Reaches b tx e) → NoneReaches b tx (e ∷ [])
one_of b tx e never = All-cons (λ f. ¬ (Reaches b tx f)) e [] never (none_of b tx)

-- the live waits of a holder are those that are kept
pub live_kept : (b : BoardState) (m : Board) (h : Tx) → Shows b m → filter (is_live_edge b) (kept_by m h.0) ≡ waits_of b h
live_kept b m h shows = filter_same (is_live_edge b) (is_live_in m.known) (kept_by m h.0) (λ e. live_is b m e shows) ∙ sym (waits_are b m h shows)

live_one : (b : BoardState) (m : Board) (e : Edge) → Shows b m → is_live_in m.known e ≡ true → filter (is_live_edge b) (e ∷ []) ≡ e ∷ []
live_one b m e shows live = rw (live_is b m e shows ∙ live) refl

dead_one : (b : BoardState) (m : Board) (e : Edge) → Shows b m → is_live_in m.known e ≡ false → filter (is_live_edge b) (e ∷ []) ≡ []
dead_one b m e shows dead = rw (live_is b m e shows ∙ dead) refl

-- the same, of a search with these parts
same_cleared : (b : BoardState) (old new : Search) → new.target ≡ old.target → new.cleared ≡ old.cleared → AreCleared b old → AreCleared b new
same_cleared b old new target cleared are = λ h has.
    subst (λ (t : Tx). NoneReaches b t.0 (waits_of b h)) (sym target) (are h (ap (λ (s : BTreeSet ℕ). contains nat_cmp s h.0) (sym cleared) ∙ has))

-- a dead edge
pub dead_edge : (m : Board) (e : Edge) (s : Search) → is_live_in m.known e ≡ false → Finds m (e ∷ []) s s false
dead_edge m e s dead = record {
  target = refl;
  finds = λ b shows cleared. (cleared, (refl, subst (NoneReaches b s.target.0) (sym (dead_one b m e shows dead)) (none_of b s.target.0)));
}

-- an edge to the target itself
pub edge_there : (m : Board) (e : Edge) (old new : Search) → is_live_in m.known e ≡ true → e.holder.0 ≡ old.target.0 → new.target ≡ old.target → new.cleared ≡ old.cleared → new.path.items ≡ old.path.items ++ e ∷ [] → Finds m (e ∷ []) old new true
edge_there m e old new live is target cleared path = record {
  target = target;
  finds = λ b shows are. (same_cleared b old new target cleared are, (e ∷ [], path, rw (live_is b m e shows, live) (cycle_here b old.target.0 e [] is)));
}

-- an edge to a holder that was cleared
pub cleared_edge : (m : Board) (e : Edge) (s : Search) → is_live_in m.known e ≡ true → e.holder.0 ≢ s.target.0 → contains nat_cmp s.cleared e.holder.0 ≡ true → Finds m (e ∷ []) s s false
cleared_edge m e s live ne has = record {
  target = refl;
  finds = λ b shows are. (are, (refl, subst (NoneReaches b s.target.0) (sym (live_one b m e shows live)) (one_of b s.target.0 e (not_here b s.target.0 e ne (are e.holder has)))));
}

-- the way goes on
pub way_on : (m : Board) (e : Edge) (old mid new : Search) → is_live_in m.known e ≡ true → e.holder.0 ≢ old.target.0 → mid.target ≡ old.target → mid.cleared ≡ old.cleared → mid.path.items ≡ old.path.items ++ e ∷ []
    → Finds m (kept_by m e.holder.0) mid new true → Finds m (e ∷ []) old new true
way_on m e old mid new live ne target cleared path rest = record {
  target = rest.target ∙ target;
  finds = λ b shows are.
      let found = rest.finds b shows (same_cleared b old mid target cleared are) in
      let way : IsCycleOf b old.target.0 (waits_of b e.holder) found.1.0 = subst (λ (l : List Edge). IsCycleOf b old.target.0 l found.1.0) (live_kept b m e.holder shows) (subst (λ (t : Tx). IsCycleOf b t.0 (filter (is_live_edge b) (kept_by m e.holder.0)) found.1.0) target found.1.2) in
      (found.0, (e ∷ found.1.0, found.1.1 ∙ ap (λ (l : List Edge). l ++ found.1.0) path ∙ append_assoc old.path.items (e ∷ []) found.1.0, rw (live_is b m e shows, live) (cycle_on b old.target.0 e [] found.1.0 ne way)));
}

-- there is no way on: the holder is cleared
pub no_way : (m : Board) (e : Edge) (old mid sub new : Search) → is_live_in m.known e ≡ true → e.holder.0 ≢ old.target.0 → mid.target ≡ old.target → mid.cleared ≡ old.cleared
    → Finds m (kept_by m e.holder.0) mid sub false → new.target ≡ sub.target → (sub.path.items ≡ mid.path.items → new.path.items ≡ old.path.items) → Updates nat_cmp sub.cleared new.cleared e.holder.0 true → Finds m (e ∷ []) old new false
no_way m e old mid sub new live ne target cleared rest target_new cut updates = record {
  target = target_new ∙ rest.target ∙ target;
  finds = λ b shows are.
      let found = rest.finds b shows (same_cleared b old mid target cleared are) in
      let none : NoneReaches b old.target.0 (waits_of b e.holder) = subst (NoneReaches b old.target.0) (live_kept b m e.holder shows) (subst (λ (t : Tx). NoneReaches b t.0 (filter (is_live_edge b) (kept_by m e.holder.0))) target found.1.1) in
      (all_cleared b found.0 none, (cut found.1.0, subst (NoneReaches b old.target.0) (sym (live_one b m e shows live)) (one_of b old.target.0 e (not_here b old.target.0 e ne none))));
}
  where
    to_old : sub.target ≡ old.target
    to_old = rest.target ∙ target

    all_cleared : (b : BoardState) → AreCleared b sub → NoneReaches b old.target.0 (waits_of b e.holder) → AreCleared b new
    all_cleared b are none h has = subst (λ (t : Tx). NoneReaches b t.0 (waits_of b h)) (sym target_new) (⊎_elim
        (λ is. subst (λ (t : Tx). NoneReaches b t.0 (waits_of b h)) (sym to_old) (subst (λ (t : Tx). NoneReaches b old.target.0 (waits_of b t)) (λ i. record { 0 = is i }) none))
        (λ other. are h (sym (updates.2 h.0 (sym (same_key e.holder.0 h.0) ∙ ne_eqb e.holder.0 h.0 other)) ∙ has))
        (cases_eq e.holder.0 h.0))

-- ---- edges, one after another

pub finds_nothing : (m : Board) (s : Search) → Finds m [] s s false
finds_nothing m s = record { target = refl; finds = λ b shows are. (are, (refl, none_of b s.target.0)) }

pub finds_none : (m : Board) (front : List Edge) (e : Edge) (old mid new : Search) → Finds m front old mid false → Finds m (e ∷ []) mid new false → Finds m (front ++ e ∷ []) old new false
finds_none m front e old mid new before here = record {
  target = here.target ∙ before.target;
  finds = λ b shows are.
      let was = before.finds b shows are in
      let is = here.finds b shows was.0 in
      let here_too : NoneReaches b old.target.0 (filter (is_live_edge b) (e ∷ [])) = subst (λ (t : Tx). NoneReaches b t.0 (filter (is_live_edge b) (e ∷ []))) before.target is.1.1 in
      (is.0, (is.1.0 ∙ was.1.0, subst (NoneReaches b old.target.0) (sym (filter-append (is_live_edge b) front (e ∷ []))) (all_append (λ f. ¬ (Reaches b old.target.0 f)) (filter (is_live_edge b) front) (filter (is_live_edge b) (e ∷ [])) was.1.1 here_too)));
}

pub finds_way : (m : Board) (front back : List Edge) (e : Edge) (old mid new : Search) → Finds m front old mid false → Finds m (e ∷ []) mid new true → Finds m (front ++ e ∷ back) old new true
finds_way m front back e old mid new before here = record {
  target = here.target ∙ before.target;
  finds = λ b shows are.
      let was = before.finds b shows are in
      let is = here.finds b shows was.0 in
      let way : IsCycleOf b old.target.0 (filter (is_live_edge b) (e ∷ [])) is.1.0 = subst (λ (t : Tx). IsCycleOf b t.0 (filter (is_live_edge b) (e ∷ [])) is.1.0) before.target is.1.2 in
      let long = later_cycle b old.target.0 (filter (is_live_edge b) front) (filter (is_live_edge b) (e ∷ []) ++ filter (is_live_edge b) back) is.1.0 was.1.1 (longer_cycle b old.target.0 (filter (is_live_edge b) (e ∷ [])) (filter (is_live_edge b) back) is.1.0 way) in
      (is.0, (is.1.0, is.1.1 ∙ ap (λ (l : List Edge). l ++ is.1.0) was.1.0, subst (λ (l : List Edge). IsCycleOf b old.target.0 l is.1.0) (sym (parts b)) long));
}
  where
    parts : (b : BoardState) → filter (is_live_edge b) (front ++ e ∷ back) ≡ filter (is_live_edge b) front ++ (filter (is_live_edge b) (e ∷ []) ++ filter (is_live_edge b) back)
    parts b = filter-append (is_live_edge b) front (e ∷ back) ∙ ap (λ (l : List Edge). filter (is_live_edge b) front ++ l) (filter-append (is_live_edge b) (e ∷ []) back)

-- ---- by places

pub none_more : (m : Board) (edges : List Edge) (i : ℕ) (d : Edge) (old mid new : Search) → i < length edges → Finds m (take i edges) old mid false → Finds m (get_or edges i d ∷ []) mid new false → Finds m (take (i + 1) edges) old new false
none_more m edges i d old mid new lt before here = subst (λ (l : List Edge). Finds m l old new false) (sym (rw add-one (take-suc edges i d lt))) (finds_none m (take i edges) (get_or edges i d) old mid new before here)

pub way_there : (m : Board) (edges : List Edge) (i : ℕ) (d : Edge) (old mid new : Search) → i < length edges → Finds m (take i edges) old mid false → Finds m (get_or edges i d ∷ []) mid new true → Finds m edges old new true
way_there m edges i d old mid new lt before here = subst (λ (l : List Edge). Finds m l old new true) (sym split) (finds_way m (take i edges) (drop (i + 1) edges) (get_or edges i d) old mid new before here)
  where
    split : edges ≡ take i edges ++ get_or edges i d ∷ drop (i + 1) edges
    split = sym (take-append-drop (i + 1) edges) ∙ ap (λ (l : List Edge). l ++ drop (i + 1) edges) (rw add-one (take-suc edges i d lt)) ∙ append_assoc (take i edges) (get_or edges i d ∷ []) (drop (i + 1) edges)

pub take_front : (xs ys : List Edge) (n : ℕ) → n ≡ length xs → take n (xs ++ ys) ≡ xs
take_front xs ys n is = rw is (front xs)
  where
    front : (l : List Edge) → take (length l) (l ++ ys) ≡ l
    front [] = refl
    front (x ∷ l) = ap (λ (r : List Edge). x ∷ r) (front l)

-- what stands for an edge past the end of a list
abbrev pub no_edge : Edge
no_edge = record {
  waiter = record { 0 = 0 };
  waiter_owner = record { session = 0; nth = 0 };
  node = record { 0 = 0 };
  path = path.Whole (record { area = 0; table = 0 });
  wanted = mode.IS;
  holder = record { 0 = 0 };
  holder_owner = record { session = 0; nth = 0 };
  held = mode.IS;
}
