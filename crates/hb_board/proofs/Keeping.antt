-- The board stays shown where the edges of a wait are kept, and where a node stops.
use Rattle.std.proofs.Common.{◌≡◌, ⊎_elim, ℕ, refl, sym, ◌∙◌, ap, subst, List, [], ◌∷◌, ◌++◌, filter, length, arith}
use Rattle.std.specs.Prelude.{Option, Some, None, Bool, ◌==◌, not}
use Rattle.std.specs.Ordering.{nat_cmp}
use Rattle.std.specs.BTreeMap.{BTreeMap, get, is_at, IsOrdered, Updates}
use Rattle.std.specs.Map.{lookup, keys_of}
use Rattle.std.proofs.lemmas.Bool.{cases_eq}
use Rattle.std.proofs.lemmas.Cmp.{eq_by_cmp_equiv, nat_cmp_total}
use Rattle.std.proofs.lemmas.Map.Entries.{lookup-filter-values, option_filter}
use Rattle.std.proofs.lemmas.Map.Keys.{IsDistinct-from_sorted}
use Rattle.hb_types.specs.declared.answer.Edge.{Edge}
use Rattle.hb_types.specs.declared.names.NodeName.{NodeName}
use Rattle.hb_types.specs.declared.names.Tx.{Tx}
use Rattle.hb_types.specs.Lists.{Each}
use Rattle.hb_types.proofs.PutLaws.{by_test}
use Rattle.hb_runs.specs.Board.{Board as BoardState, keeping, halting}
use Rattle.hb_board.specs.declared.board.Board.{Board}
use Rattle.hb_board.specs.declared.known.Known.{Known}
use Rattle.hb_board.specs.declared.waits.Wait.{Wait}
use Rattle.hb_board.specs.Shows.{Shows, IsKnown, known_in, kept_by, edges_in, AreAt}
use Rattle.hb_board.specs.Waiting.{AreOf}
use Rattle.hb_board.proofs.Living.{filter_swap}
use Rattle.hb_board.proofs.Maps.{kept_at_key}
use Rattle.hb_board.proofs.Shown.{same_known}
use Rattle.hb_board.proofs.Waiters.{kept_same, kept_other, at_one_node, all_elsewhere, none_elsewhere}

-- other edges change nothing of what is known
known_still : (b : BoardState) (old new : Board) (edges : List Edge) → Shows b old → new.known ≡ old.known → (q : ℕ) → IsKnown (record b { edges = edges }) q (known_in new q)
known_still b old new edges shows known q =
    subst (λ (m : BTreeMap ℕ Known). IsKnown (record b { edges = edges }) q (get nat_cmp m q)) (sym known)
    (same_known b (record b { edges = edges }) q (known_in old q) refl refl (λ n. refl) (λ n. refl) (shows.known q))

-- ---- a wait

pub shows_kept : (b : BoardState) (old new : Board) (tx : Tx) (node : NodeName) (es : List Edge) (wait : Wait) → Shows b old → new.known ≡ old.known → AreOf tx node es → wait.node ≡ node → wait.edges ≡ es
    → Updates nat_cmp old.waits new.waits tx.0 (Some wait) → Shows (keeping b tx es) new
shows_kept b old new tx node es wait shows known are at_node has updates = record {
  known = known_still b old new (filter (λ e. not (e.waiter.0 == tx.0)) b.edges ++ es) shows known;
  edges = λ q. ⊎_elim
      (λ e. subst (λ t. filter (λ f. f.waiter.0 == t) (filter (λ f. not (f.waiter.0 == tx.0)) b.edges ++ es) ≡ kept_by new t) e
      (kept_same tx node b.edges es are ∙ sym has ∙ ap edges_in (sym updates.1)))
      (λ ne. kept_other tx node q b.edges es ne are ∙ shows.edges q ∙ ap edges_in (sym (kept_at_key old.waits new.waits tx.0 q (Some wait) ne updates)))
      (cases_eq tx.0 q);
  at = λ q. ⊎_elim
      (λ e. subst (λ t. AreAt (get nat_cmp new.waits t)) e (subst AreAt (sym updates.1) here))
      (λ ne. subst AreAt (sym (kept_at_key old.waits new.waits tx.0 q (Some wait) ne updates)) (shows.at q))
      (cases_eq tx.0 q);
}
  where
    here : Each (λ e. e.node.0 ≡ wait.node.0) wait.edges
    here = subst (λ (l : List Edge). Each (λ e. e.node.0 ≡ wait.node.0) l) (sym has) (subst (λ (n : NodeName). Each (λ e. e.node.0 ≡ n.0) es) (sym at_node) (at_one_node tx node es are))

-- it isn't kept
pub shows_unkept : (b : BoardState) (old new : Board) → Shows b old → new.known ≡ old.known → new.waits.entries ≡ old.waits.entries → Shows b new
shows_unkept b old new shows known waits = record {
  known = λ q. subst (λ (m : BTreeMap ℕ Known). IsKnown b q (get nat_cmp m q)) (sym known) (shows.known q);
  edges = λ q. shows.edges q ∙ ap (λ (es : List (ℕ × Wait)). edges_in (lookup (is_at (nat_cmp q)) es)) (sym waits);
  at = λ q. subst (λ (es : List (ℕ × Wait)). AreAt (lookup (is_at (nat_cmp q)) es)) (sym waits) (shows.at q);
}

-- ---- a node stops

abbrev stays : NodeName → Wait → Bool
stays node wait = not (wait.node.0 == node.0)

module _ (b : BoardState) (old new : Board) (node : NodeName) (shows : Shows b old) (known : new.known ≡ old.known) (kept : (q : ℕ) → get nat_cmp new.waits q ≡ option_filter (stays node) (get nat_cmp old.waits q)) where
  edges_stay : (o : Option Wait) → AreAt o → filter (λ e. not (e.node.0 == node.0)) (edges_in o) ≡ edges_in (option_filter (stays node) o)
  edges_stay None are = refl
  edges_stay (Some wait) are = by_test (wait.node.0 == node.0)
      (λ t. rw t (none_elsewhere wait.node.0 node.0 wait.edges t are))
      (λ f. rw f (all_elsewhere wait.node.0 node.0 wait.edges f are))

  at_stay : (o : Option Wait) → AreAt o → AreAt (option_filter (stays node) o)
  at_stay None are = tt
  at_stay (Some wait) are = by_test (wait.node.0 == node.0) (λ t. rw t tt) (λ f. rw f are)

  pub shows_halted : Shows (halting b node) new
  shows_halted = record {
    known = known_still b old new (filter (λ e. not (e.node.0 == node.0)) b.edges) shows known;
    edges = λ q.
        filter_swap (λ e. e.waiter.0 == q) (λ e. not (e.node.0 == node.0)) b.edges
        ∙ ap (filter (λ e. not (e.node.0 == node.0))) (shows.edges q)
        ∙ edges_stay (get nat_cmp old.waits q) (shows.at q)
        ∙ ap edges_in (sym (kept q));
    at = λ q. subst AreAt (sym (kept q)) (at_stay (get nat_cmp old.waits q) (shows.at q));
  }

-- what stays of a map by a test of its values
pub still_at : (old new : BTreeMap ℕ Wait) (p : Wait → Bool) → IsOrdered nat_cmp old → new.entries ≡ filter (λ e. p e.1) old.entries → (q : ℕ) → get nat_cmp new q ≡ option_filter p (get nat_cmp old q)
still_at old new p ordered is q =
    ap (lookup (is_at (nat_cmp q))) is
    ∙ lookup-filter-values (eq_by_cmp_equiv nat_cmp_total) p q old.entries (IsDistinct-from_sorted nat_cmp (keys_of old.entries) ordered)

pub still_none : (m : BTreeMap ℕ Wait) (p : Wait → Bool) → IsOrdered nat_cmp m → length m.entries ≡ 0 → (q : ℕ) → get nat_cmp m q ≡ option_filter p (get nat_cmp m q)
still_none m p ordered none q =
    let empty : m.entries ≡ [] = nothing m.entries none in
    still_at m m p ordered (empty ∙ sym (ap (filter (λ (e : ℕ × Wait). p e.1)) empty)) q
  where
    nothing : (es : List (ℕ × Wait)) → length es ≡ 0 → es ≡ []
    nothing [] e = refl
    nothing (x ∷ es) e = absurd (omega (arith, e))
