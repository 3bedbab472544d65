-- What is shown stays shown where a transaction is entered, ends or is settled, and where a node stops.
use Rattle.std.proofs.Common.{◌≡◌, ◌≢◌, ⊎_elim, ℕ, ◌<◌, ◌≤◌, refl, sym, ◌∙◌, ap, subst, true, false, arith, [], ◌∷◌, ◌++◌, filter, get_or, length, zero, suc}
use Rattle.std.specs.Prelude.{Option, Some, None, Bool, ◌==◌, ◌&&◌, ◌||◌, not}
use Rattle.std.specs.List.{range_with_len}
use Rattle.std.specs.Ordering.{nat_cmp}
use Rattle.std.specs.BTreeMap.{BTreeMap, get, is_at, Updates}
use Rattle.std.specs.Map.{lookup}
use Rattle.std.proofs.lemmas.List.{get_or_past}
use Rattle.std.proofs.lemmas.Bool.{cases_eq, cases_lt, eqb-true, eqb-false, ne_eqb, eq-eqb, false≢true}
use Rattle.hb_types.specs.declared.names.Owner.{Owner}
use Rattle.hb_types.proofs.PutLaws.{by_test}
use Rattle.hb_model.specs.NodeSets.{has_node, nodes_in}
use Rattle.hb_runs.specs.Board.{Board as BoardState, has_ended, has_pair, owner_in, ending, settling, left_nodes, pairs_with}
use Rattle.hb_board.specs.declared.known.Known.{Known}
use Rattle.hb_board.specs.declared.board.Board.{Board}
use Rattle.hb_board.specs.declared.waits.Wait.{Wait}
use Rattle.hb_board.specs.Shows.{Shows, IsKnown, IsKnownAs, IsUnknown, Ends, Settles, Changes, Becomes, is_active, is_open, known_in, kept_by, edges_in, AreAt}
use Rattle.hb_board.proofs.Maps.{got_same, got_other, has_owner, has_none, kept_at_key}
use Rattle.hb_board.proofs.Waiters.{no_more_of, others_of}
use Rattle.hb_board.proofs.Pairs.{among, pairs-append, among-filter, all_nodes, no_node, pairs-without}

-- ---- a transaction is entered

open_below : (n : ℕ) → n < 11 → get_or (true ∷ true ∷ true ∷ true ∷ true ∷ true ∷ true ∷ true ∷ true ∷ true ∷ true ∷ []) n false ≡ true
open_below zero lt = refl
open_below (suc zero) lt = refl
open_below (suc (suc zero)) lt = refl
open_below (suc (suc (suc zero))) lt = refl
open_below (suc (suc (suc (suc zero)))) lt = refl
open_below (suc (suc (suc (suc (suc zero))))) lt = refl
open_below (suc (suc (suc (suc (suc (suc zero)))))) lt = refl
open_below (suc (suc (suc (suc (suc (suc (suc zero))))))) lt = refl
open_below (suc (suc (suc (suc (suc (suc (suc (suc zero)))))))) lt = refl
open_below (suc (suc (suc (suc (suc (suc (suc (suc (suc zero))))))))) lt = refl
open_below (suc (suc (suc (suc (suc (suc (suc (suc (suc (suc zero)))))))))) lt = refl
open_below (suc (suc (suc (suc (suc (suc (suc (suc (suc (suc (suc n))))))))))) lt = absurd (omega (arith, lt))

past_open : (x : Known) (n : ℕ) → length x.unsettled ≡ 11 → 11 ≤ n → is_open x n ≡ false
past_open x n size le = get_or_past x.unsettled n false (omega (arith, size, le))

-- what is known of one whose facts are the same
pub same_known : (b c : BoardState) (tx : ℕ) (o : Option Known) → owner_in c tx ≡ owner_in b tx → has_ended c tx ≡ has_ended b tx → ((n : ℕ) → has_pair c.left tx n ≡ has_pair b.left tx n) → ((n : ℕ) → has_pair c.settled tx n ≡ has_pair b.settled tx n)
    → IsKnown b tx o → IsKnown c tx o
same_known b c tx None owner ended left settled is = record { owner = owner ∙ is.owner; ended = ended ∙ is.ended; left = λ n. left n ∙ is.left n; settled = λ n. settled n ∙ is.settled n }
same_known b c tx (Some x) owner ended left settled is = record { owner = owner ∙ is.owner; ended = ended ∙ is.ended; left = λ n. left n ∙ is.left n; size = is.size; settled = λ e n lt. settled n ∙ is.settled e n lt }

at_key : (b : BoardState) (tx : ℕ) (o p : Option Known) → o ≡ p → IsKnown b tx p → IsKnown b tx o
at_key b tx o p e is = subst (IsKnown b tx) (sym e) is

pub shows_entered : (b : BoardState) (old new : Board) (tx : ℕ) (owner : Owner) (fresh : Known) → Shows b old → known_in old tx ≡ None → new.waits ≡ old.waits → Updates nat_cmp old.known new.known tx (Some fresh)
    → fresh.owner ≡ owner → fresh.ended ≡ false → fresh.unsettled ≡ true ∷ true ∷ true ∷ true ∷ true ∷ true ∷ true ∷ true ∷ true ∷ true ∷ true ∷ [] → Shows (record b { entered = (tx, owner) ∷ b.entered }) new
shows_entered b old new tx owner fresh shows none waits updates owner_is ended unsettled = record {
  known = λ q. ⊎_elim (λ e. subst (λ t. IsKnown (record b { entered = (tx, owner) ∷ b.entered }) t (known_in new t)) e here) (λ ne. there q ne) (cases_eq tx q);
  edges = λ q. shows.edges q ∙ ap (λ (w : BTreeMap ℕ Wait). edges_in (get nat_cmp w q)) (sym waits);
  at = λ q. subst (λ (w : BTreeMap ℕ Wait). AreAt (get nat_cmp w q)) (sym waits) (shows.at q);
}
  where
    unknown : IsUnknown b tx
    unknown = subst (IsKnown b tx) none (shows.known tx)

    here : IsKnown (record b { entered = (tx, owner) ∷ b.entered }) tx (known_in new tx)
    here = at_key (record b { entered = (tx, owner) ∷ b.entered }) tx (known_in new tx) (Some fresh) (got_same old.known new.known tx fresh updates) (record {
      owner = rw (eq-eqb tx tx refl) (ap (λ (x : Owner). Some x) (sym owner_is));
      ended = unknown.ended ∙ sym ended;
      left = λ n. unknown.left n ∙ rw ended refl;
      size = ap length unsettled;
      settled = λ e n lt. unknown.settled n ∙ rw (unsettled, open_below n lt) refl;
    })

    there : (q : ℕ) → tx ≢ q → IsKnown (record b { entered = (tx, owner) ∷ b.entered }) q (known_in new q)
    there q ne =
        at_key (record b { entered = (tx, owner) ∷ b.entered }) q (known_in new q) (known_in old q) (got_other old.known new.known tx q fresh ne updates)
        (same_known b (record b { entered = (tx, owner) ∷ b.entered }) q (known_in old q) (rw (ne_eqb tx q ne) refl) refl (λ n. refl) (λ n. refl) (shows.known q))

-- ---- an End

module _ (b : BoardState) (old new : Board) (tx set : ℕ) (shows : Shows b old) (changes : Changes (λ x y. Ends x y set) old.known new.known tx) where
  others : (c : BoardState) → ((q : ℕ) → tx ≢ q → IsKnown c q (known_in old q)) → IsKnown c tx (known_in new tx) → (q : ℕ) → IsKnown c q (known_in new q)
  others c far near q = ⊎_elim (λ e. subst (λ t. IsKnown c t (known_in new t)) e near) (λ ne. at_key c q (known_in new q) (known_in old q) (changes.0 q ne) (far q ne)) (cases_eq tx q)

  becomes : (o : Option Known) → known_in old tx ≡ o → Becomes (λ x y. Ends x y set) o (known_in new tx)
  becomes o e = subst (λ p. Becomes (λ x y. Ends x y set) p (known_in new tx)) e changes.1

  -- ---- it doesn't count: nothing has changed

  same_shown : new.waits ≡ old.waits → IsKnown b tx (known_in new tx) → Shows b new
  same_shown waits near = record {
    known = others b (λ q ne. shows.known q) near;
    edges = λ q. shows.edges q ∙ ap (λ (w : BTreeMap ℕ Wait). edges_in (get nat_cmp w q)) (sym waits);
    at = λ q. subst (λ (w : BTreeMap ℕ Wait). AreAt (get nat_cmp w q)) (sym waits) (shows.at q);
  }

  again : (o : Option Known) → known_in old tx ≡ o → is_active o ≡ false → new.waits ≡ old.waits → Shows (ending b tx set) new
  again None e out waits =
      let unknown : IsUnknown b tx = subst (IsKnown b tx) e (shows.known tx) in
      rw (has_none b.entered tx unknown.owner) (same_shown waits (at_key b tx (known_in new tx) None (becomes None e) unknown))
  again (Some x) e out waits =
      let is : IsKnownAs b tx x = subst (IsKnown b tx) e (shows.known tx) in
      let now = becomes (Some x) e in
      let t : x.ended ≡ true = not_false x.ended out in
      rw (has_owner b.entered tx x.owner is.owner, is.ended, t) (same_shown waits (at_key b tx (known_in new tx) (Some x) (now.1 ∙ ap (λ (y : Known). Some y) (now.2.0 t)) is))
    where
      not_false : (a : Bool) → not a ≡ false → a ≡ true
      not_false true e = refl
      not_false false e = absurd (false≢true (sym e))

  pub shows_ended_again : is_active (known_in old tx) ≡ false → new.waits ≡ old.waits → Shows (ending b tx set) new
  shows_ended_again out waits = again (known_in old tx) refl out waits

  -- ---- the first

  abbrev ended_now : BoardState
  ended_now = record b { ended = tx ∷ b.ended; left = pairs_with tx (left_nodes b tx set) ++ b.left; edges = filter (λ e. not (e.waiter.0 == tx)) b.edges }

  kept_edges : Updates nat_cmp old.waits new.waits tx None → (q : ℕ) → filter (λ e. e.waiter.0 == q) (filter (λ e. not (e.waiter.0 == tx)) b.edges) ≡ kept_by new q
  kept_edges gone q = ⊎_elim
      (λ e. subst (λ t. filter (λ f. f.waiter.0 == t) (filter (λ f. not (f.waiter.0 == tx)) b.edges) ≡ kept_by new t) e (no_more_of tx b.edges ∙ ap edges_in (sym gone.1)))
      (λ ne. others_of tx q ne b.edges ∙ shows.edges q ∙ ap edges_in (sym (kept_at_key old.waits new.waits tx q None ne gone)))
      (cases_eq tx q)

  kept_at : Updates nat_cmp old.waits new.waits tx None → (q : ℕ) → AreAt (get nat_cmp new.waits q)
  kept_at gone q = ⊎_elim
      (λ e. subst (λ t. AreAt (get nat_cmp new.waits t)) e (subst AreAt (sym gone.1) tt))
      (λ ne. subst AreAt (sym (kept_at_key old.waits new.waits tx q None ne gone)) (shows.at q))
      (cases_eq tx q)

  first_end : (x y : Known) → IsKnownAs b tx x → x.ended ≡ false → known_in new tx ≡ Some y → y.owner ≡ x.owner → y.ended ≡ true → length y.unsettled ≡ length x.unsettled → ((n : ℕ) → n < 11 → is_open y n ≡ (is_open x n && has_node set n)) → Updates nat_cmp old.waits new.waits tx None
      → Shows (record b { ended = tx ∷ b.ended; left = pairs_with tx (left_nodes b tx set) ++ b.left; edges = filter (λ e. not (e.waiter.0 == tx)) b.edges }) new
  first_end x y is live got owner ended sized opens gone = record { known = others ended_now far near; edges = kept_edges gone; at = kept_at gone }
    where
      far : (q : ℕ) → tx ≢ q → IsKnown ended_now q (known_in old q)
      far q ne = same_known b ended_now q (known_in old q) refl (rw (ne_eqb tx q ne) refl) (λ n. pairs-append tx q n (left_nodes b tx set) b.left ∙ rw (ne_eqb tx q ne) refl) (λ n. refl) (shows.known q)

      left_of : (n : ℕ) → among n (left_nodes b tx set) ≡ (not (has_pair b.settled tx n) && (has_node set n && among n (range_with_len 0 11)))
      left_of n = among-filter (λ m. not (has_pair b.settled tx m)) n (nodes_in set) ∙ ap (λ c. not (has_pair b.settled tx n) && c) (among-filter (has_node set) n (range_with_len 0 11))

      inside : (n : ℕ) → n < 11 → among n (left_nodes b tx set) ≡ (is_open x n && has_node set n)
      inside n lt = left_of n ∙ rw (all_nodes n lt, is.settled live n lt) (tidy (is_open x n) (has_node set n))
        where
          tidy : (a c : Bool) → (not (not a) && (c && true)) ≡ (a && c)
          tidy true true = refl
          tidy true false = refl
          tidy false c = refl

      outside : (n : ℕ) → 11 ≤ n → among n (left_nodes b tx set) ≡ false
      outside n le = left_of n ∙ rw (no_node n le) (tidy (not (has_pair b.settled tx n)) (has_node set n))
        where
          tidy : (a c : Bool) → (a && (c && false)) ≡ false
          tidy true true = refl
          tidy true false = refl
          tidy false c = refl

      last : (a : Bool) → (a || false) ≡ a
      last true = refl
      last false = refl

      left_is : (n : ℕ) → has_pair ended_now.left tx n ≡ (y.ended && is_open y n)
      left_is n =
          pairs-append tx tx n (left_nodes b tx set) b.left
          ∙ rw (eq-eqb tx tx refl, is.left n, live, ended) (⊎_elim
          (λ lt. rw (inside n lt, opens n lt) (last (is_open x n && has_node set n)))
          (λ le. rw (outside n le, past_open y n (sized ∙ is.size) le) refl)
          (cases_lt n 11))

      near : IsKnown ended_now tx (known_in new tx)
      near = at_key ended_now tx (known_in new tx) (Some y) got (record {
        owner = is.owner ∙ ap (λ (o : Owner). Some o) (sym owner);
        ended = rw (eq-eqb tx tx refl) (sym ended);
        left = left_is;
        size = sized ∙ is.size;
        settled = λ e. absurd (false≢true (sym e ∙ ended));
      })

  first : (o : Option Known) → known_in old tx ≡ o → is_active o ≡ true → Updates nat_cmp old.waits new.waits tx None → Shows (ending b tx set) new
  first None e active gone = absurd (false≢true active)
  first (Some x) e active gone =
      let is : IsKnownAs b tx x = subst (IsKnown b tx) e (shows.known tx) in
      let now = becomes (Some x) e in
      let f : x.ended ≡ false = not_true x.ended active in
      let one = now.2.1 f in
      rw (has_owner b.entered tx x.owner is.owner, is.ended, f) (first_end x now.0 is f now.1 one.0 one.1 one.2 one.3 gone)
    where
      not_true : (a : Bool) → not a ≡ true → a ≡ false
      not_true true e = absurd (false≢true e)
      not_true false e = refl

  pub shows_ended_first : is_active (known_in old tx) ≡ true → Updates nat_cmp old.waits new.waits tx None → Shows (ending b tx set) new
  shows_ended_first active gone = first (known_in old tx) refl active gone

-- ---- a branch is settled

swap_test : (m n : ℕ) → (m == n) ≡ (n == m)
swap_test m n = by_test (m == n) (λ t. t ∙ sym (eq-eqb n m (sym (eqb-true m n t)))) (λ f. f ∙ sym (ne_eqb n m (λ e. eqb-false m n f (sym e))))

and_true : (a : Bool) → (a && true) ≡ a
and_true true = refl
and_true false = refl

module _ (b : BoardState) (old new : Board) (tx node : ℕ) (shows : Shows b old) (waits : new.waits ≡ old.waits) (changes : Changes (λ x y. Settles x y node) old.known new.known tx) where
  abbrev now_settled : BoardState
  now_settled = record b { left = filter (λ p. not ((p.0 == tx) && (p.1 == node))) b.left; settled = (tx, node) ∷ b.settled }

  settled_all : (c : BoardState) → c.edges ≡ b.edges → ((q : ℕ) → tx ≢ q → IsKnown c q (known_in old q)) → IsKnown c tx (known_in new tx) → Shows c new
  settled_all c edges far near = record {
    known = λ q. ⊎_elim (λ e. subst (λ t. IsKnown c t (known_in new t)) e near) (λ ne. at_key c q (known_in new q) (known_in old q) (changes.0 q ne) (far q ne)) (cases_eq tx q);
    edges = λ q. ap (filter (λ e. e.waiter.0 == q)) edges ∙ shows.edges q ∙ ap (λ (w : BTreeMap ℕ Wait). edges_in (get nat_cmp w q)) (sym waits);
    at = λ q. subst (λ (w : BTreeMap ℕ Wait). AreAt (get nat_cmp w q)) (sym waits) (shows.at q);
  }

  settles_one : (o : Option Known) → known_in old tx ≡ o → Becomes (λ x y. Settles x y node) o (known_in new tx) → IsKnown b tx o → Shows (settling b tx node) new
  settles_one None e now unknown =
      rw (has_none b.entered tx unknown.owner) (settled_all b refl (λ q ne. shows.known q) (at_key b tx (known_in new tx) None now unknown))
  settles_one (Some x) e (y, got, (owner, ended, sized, opens)) is =
      rw (has_owner b.entered tx x.owner is.owner) (settled_all now_settled refl far near)
    where
      far : (q : ℕ) → tx ≢ q → IsKnown now_settled q (known_in old q)
      far q ne =
          same_known b now_settled q (known_in old q) refl refl
          (λ n. pairs-without tx node q n b.left ∙ rw (ne_eqb tx q ne) (and_true (has_pair b.left q n)))
          (λ n. rw (ne_eqb tx q ne) refl) (shows.known q)

      left_is : (n : ℕ) → has_pair now_settled.left tx n ≡ (y.ended && is_open y n)
      left_is n = pairs-without tx node tx n b.left ∙ rw (eq-eqb tx tx refl, is.left n, ended) (⊎_elim
          (λ lt. rw (opens n lt, swap_test node n) (tidy x.ended (is_open x n) (not (n == node))))
          (λ le. rw (past_open y n (sized ∙ is.size) le, past_open x n is.size le) (none x.ended (not (node == n))))
          (cases_lt n 11))
        where
          tidy : (a c d : Bool) → ((a && c) && d) ≡ (a && (c && d))
          tidy true c d = refl
          tidy false c d = refl

          none : (a d : Bool) → ((a && false) && d) ≡ (a && false)
          none true d = refl
          none false d = refl

      settled_is : y.ended ≡ false → (n : ℕ) → n < 11 → has_pair now_settled.settled tx n ≡ not (is_open y n)
      settled_is live n lt = rw (eq-eqb tx tx refl, is.settled (sym ended ∙ live) n lt, opens n lt, swap_test node n) (tidy (n == node) (is_open x n))
        where
          tidy : (a c : Bool) → (a || not c) ≡ not (c && not a)
          tidy true true = refl
          tidy true false = refl
          tidy false true = refl
          tidy false false = refl

      near : IsKnown now_settled tx (known_in new tx)
      near = at_key now_settled tx (known_in new tx) (Some y) got (record {
        owner = is.owner ∙ ap (λ (o : Owner). Some o) (sym owner);
        ended = is.ended ∙ sym ended;
        left = left_is;
        size = sized ∙ is.size;
        settled = settled_is;
      })

  pub shows_settled : Shows (settling b tx node) new
  shows_settled = settles_one (known_in old tx) refl changes.1 (shows.known tx)

-- ---- nothing happens

pub shows_same : (b : BoardState) (old new : Board) → Shows b old → new.known.entries ≡ old.known.entries → new.waits ≡ old.waits → Shows b new
shows_same b old new shows known waits = record {
  known = λ q. subst (λ es. IsKnown b q (lookup (is_at (nat_cmp q)) es)) (sym known) (shows.known q);
  edges = λ q. shows.edges q ∙ ap (λ (w : BTreeMap ℕ Wait). edges_in (get nat_cmp w q)) (sym waits);
  at = λ q. subst (λ (w : BTreeMap ℕ Wait). AreAt (get nat_cmp w q)) (sym waits) (shows.at q);
}

pub is_unknown : (b : BoardState) (m : Board) (tx : ℕ) → Shows b m → known_in m tx ≡ None → IsUnknown b tx
is_unknown b m tx shows none = subst (IsKnown b tx) none (shows.known tx)
