-- The edges of a wait, in memory and on the board.
use Rattle.std.proofs.Common.{◌≡◌, ℕ, ◌+◌, ◌<◌, refl, sym, ◌∙◌, ap, true, false, arith, List, [], ◌∷◌, ◌++◌, filter, length, take, get_or, add-one, zero, suc}
use Rattle.std.proofs.Math.Seq.{take-suc}
use Rattle.std.specs.Prelude.{Bool, Option, Some, None, ◌&&◌, filter_map, All, is_some, IsTrue}
use Rattle.std.specs.List.{cons_option, list_all}
use Rattle.std.specs.Ordering.{nat_cmp}
use Rattle.std.specs.BTreeMap.{BTreeMap, get}
use Rattle.std.proofs.lemmas.Bool.{false≢true}
use Rattle.std.proofs.lemmas.List.Elements.{filter-append, filter_map-append, All-cons, All-head, All-tail, All-nil}
use Rattle.hb_types.specs.declared.answer.Edge.{Edge}
use Rattle.hb_types.specs.declared.lock.Holder.{Holder}
use Rattle.hb_types.specs.declared.lock.Mode.{Mode}
use Rattle.hb_types.specs.declared.names.NodeName.{NodeName}
use Rattle.hb_types.specs.declared.names.Owner.{Owner}
use Rattle.hb_types.specs.declared.names.Tx.{Tx}
use Rattle.hb_types.specs.declared.places.Path.{Path}
use Rattle.hb_types.proofs.PutLaws.{by_test}
use Rattle.hb_runs.specs.Board.{Board as BoardState, owner_in, has_entered, edge_to, edges_of, is_live_edge, CanWait}
use Rattle.hb_board.specs.declared.board.Board.{Board}
use Rattle.hb_board.specs.declared.known.Known.{Known}
use Rattle.hb_board.specs.Shows.{Shows, IsKnown, is_live_in, known_in, owner_at}
use Rattle.hb_board.specs.Waiting.{AreOf, edge_in, edges_now, can_wait_in, is_known_in}
use Rattle.hb_board.proofs.Living.{filter_same, live_is}
use Rattle.hb_board.proofs.Maps.{has_owner, has_none}

-- ---- owners

owner_of_known : (b : BoardState) (tx : ℕ) (o : Option Known) → IsKnown b tx o → owner_in b tx ≡ owner_at o
owner_of_known b tx None is = is.owner
owner_of_known b tx (Some x) is = is.owner

owner_is : (b : BoardState) (m : Board) (tx : ℕ) → Shows b m → owner_in b tx ≡ owner_at (known_in m tx)
owner_is b m tx shows = owner_of_known b tx (known_in m tx) (shows.known tx)

entered_of_known : (b : BoardState) (tx : ℕ) (o : Option Known) → IsKnown b tx o → has_entered b tx ≡ is_some o
entered_of_known b tx None is = has_none b.entered tx is.owner
entered_of_known b tx (Some x) is = has_owner b.entered tx x.owner is.owner

pub entered_is : (b : BoardState) (m : Board) (tx : Tx) → Shows b m → has_entered b tx.0 ≡ is_known_in m.known tx
entered_is b m tx shows = entered_of_known b tx.0 (known_in m tx.0) (shows.known tx.0)

pub unknown_one : (b : BoardState) (m : Board) (tx : ℕ) → Shows b m → has_entered b tx ≡ false → known_in m tx ≡ None
unknown_one b m tx shows none = no_value (known_in m tx) (sym (entered_of_known b tx (known_in m tx) (shows.known tx)) ∙ none)
  where
    no_value : (o : Option Known) → is_some o ≡ false → o ≡ None
    no_value None e = refl
    no_value (Some x) e = absurd (false≢true (sym e))

pub not_entered : (b : BoardState) (m : Board) (tx : ℕ) → Shows b m → known_in m tx ≡ None → has_entered b tx ≡ false
not_entered b m tx shows none = entered_of_known b tx (known_in m tx) (shows.known tx) ∙ ap (λ (o : Option Known). is_some o) none

-- ---- edges

module _ (tx : Tx) (node : NodeName) (path : Path) (wanted : Mode) where
  by_owners : (b : BoardState) (known : BTreeMap ℕ Known) (h : Holder) (o p : Option Owner) → owner_in b tx.0 ≡ o → owner_in b h.tx.0 ≡ p → owner_at (get nat_cmp known tx.0) ≡ o → owner_at (get nat_cmp known h.tx.0) ≡ p
      → edge_to b tx node path wanted h ≡ edge_in known tx node path wanted h
  by_owners b known h None p e1 e2 e3 e4 = rw (e1, e3) refl
  by_owners b known h (Some o) None e1 e2 e3 e4 = rw (e1, e2, e3, e4) refl
  by_owners b known h (Some o) (Some p) e1 e2 e3 e4 = rw (e1, e2, e3, e4) refl

  edge_is : (b : BoardState) (m : Board) (h : Holder) → Shows b m → edge_to b tx node path wanted h ≡ edge_in m.known tx node path wanted h
  edge_is b m h shows = by_owners b m.known h (owner_at (known_in m tx.0)) (owner_at (known_in m h.tx.0)) (owner_is b m tx.0 shows) (owner_is b m h.tx.0 shows) refl refl

  mapped_same : (f g : Holder → Option Edge) → ((h : Holder) → f h ≡ g h) → (hs : List Holder) → filter_map f hs ≡ filter_map g hs
  mapped_same f g same [] = refl
  mapped_same f g same (h ∷ hs) = ap (λ (o : Option Edge). cons_option o (filter_map f hs)) (same h) ∙ ap (cons_option (g h)) (mapped_same f g same hs)

  pub edges_are : (b : BoardState) (m : Board) (hs : List Holder) → Shows b m → edges_of b tx node path wanted hs ≡ edges_now m.known tx node path wanted hs
  edges_are b m hs shows =
      filter_same (is_live_edge b) (is_live_in m.known) (filter_map (edge_to b tx node path wanted) hs) (λ e. live_is b m e shows)
      ∙ ap (filter (is_live_in m.known)) (mapped_same (edge_to b tx node path wanted) (edge_in m.known tx node path wanted) (λ h. edge_is b m h shows) hs)

  -- ---- whose they are

  of_owners : (b : BoardState) (h : Holder) (o p : Option Owner) → owner_in b tx.0 ≡ o → owner_in b h.tx.0 ≡ p → (es : List Edge) → AreOf tx node es → AreOf tx node (cons_option (edge_to b tx node path wanted h) es)
  of_owners b h None p e1 e2 es are = rw e1 are
  of_owners b h (Some o) None e1 e2 es are = rw (e1, e2) are
  of_owners b h (Some o) (Some p) e1 e2 es are = rw (e1, e2) ((refl, refl), are)

  mapped_of : (b : BoardState) (hs : List Holder) → AreOf tx node (filter_map (edge_to b tx node path wanted) hs)
  mapped_of b [] = tt
  mapped_of b (h ∷ hs) = of_owners b h (owner_in b tx.0) (owner_in b h.tx.0) refl refl (filter_map (edge_to b tx node path wanted) hs) (mapped_of b hs)

  filtered_of : (p : Edge → Bool) (es : List Edge) → AreOf tx node es → AreOf tx node (filter p es)
  filtered_of p [] are = tt
  filtered_of p (e ∷ es) are = by_test (p e) (λ t. rw t (are.0, filtered_of p es are.1)) (λ f. rw f (filtered_of p es are.1))

  pub edges_of_waiter : (b : BoardState) (hs : List Holder) → AreOf tx node (edges_of b tx node path wanted hs)
  edges_of_waiter b hs = filtered_of (is_live_edge b) (filter_map (edge_to b tx node path wanted) hs) (mapped_of b hs)

  -- ---- one after another

  one_more : (known : BTreeMap ℕ Known) (hs : List Holder) (i : ℕ) (h d : Holder) → i < length hs → h ≡ get_or hs i d → edges_now known tx node path wanted (take (i + 1) hs) ≡ edges_now known tx node path wanted (take i hs) ++ filter (is_live_in known) (cons_option (edge_in known tx node path wanted h) [])
  one_more known hs i h d lt is =
      ap (edges_now known tx node path wanted) (rw add-one (take-suc hs i d lt) ∙ ap (λ (x : Holder). take i hs ++ x ∷ []) (sym is))
      ∙ ap (filter (is_live_in known)) (filter_map-append (edge_in known tx node path wanted) (take i hs) (h ∷ []))
      ∙ filter-append (is_live_in known) (filter_map (edge_in known tx node path wanted) (take i hs)) (cons_option (edge_in known tx node path wanted h) [])

  pub with_edge : (known : BTreeMap ℕ Known) (hs : List Holder) (i : ℕ) (h d : Holder) (e : Edge) (old new : List Edge) → i < length hs → h ≡ get_or hs i d → old ≡ edges_now known tx node path wanted (take i hs) → Some e ≡ edge_in known tx node path wanted h → new ≡ old ++ filter (is_live_in known) (e ∷ [])
      → new ≡ edges_now known tx node path wanted (take (i + 1) hs)
  with_edge known hs i h d e old new lt is before edge now =
      now
      ∙ ap (λ (l : List Edge). l ++ filter (is_live_in known) (e ∷ [])) before
      ∙ ap (λ (o : Option Edge). edges_now known tx node path wanted (take i hs) ++ filter (is_live_in known) (cons_option o [])) edge
      ∙ sym (one_more known hs i h d lt is)

  nothing_behind : (l : List Edge) → l ≡ l ++ []
  nothing_behind [] = refl
  nothing_behind (x ∷ l) = ap (λ (r : List Edge). x ∷ r) (nothing_behind l)

  pub without_edge : (known : BTreeMap ℕ Known) (hs : List Holder) (i : ℕ) (h d : Holder) (old : List Edge) → i < length hs → h ≡ get_or hs i d → old ≡ edges_now known tx node path wanted (take i hs) → None ≡ edge_in known tx node path wanted h
      → old ≡ edges_now known tx node path wanted (take (i + 1) hs)
  without_edge known hs i h d old lt is before edge =
      before
      ∙ nothing_behind (edges_now known tx node path wanted (take i hs))
      ∙ ap (λ (o : Option Edge). edges_now known tx node path wanted (take i hs) ++ filter (is_live_in known) (cons_option o [])) edge
      ∙ sym (one_more known hs i h d lt is)

-- ---- who may wait

all_entered : (b : BoardState) (m : Board) (hs : List Holder) → Shows b m → list_all (λ h. is_known_in m.known h.tx) hs ≡ true → All (λ (h : Holder). IsTrue (has_entered b h.tx.0)) hs
all_entered b m [] shows e = All-nil (λ (h : Holder). IsTrue (has_entered b h.tx.0))
all_entered b m (h ∷ hs) shows e = by_test (is_known_in m.known h.tx)
    (λ t. All-cons (λ (h : Holder). IsTrue (has_entered b h.tx.0)) h hs (entered_is b m h.tx shows ∙ t) (all_entered b m hs shows (rw t at e)))
    (λ f. absurd (false≢true (rw f at e)))

entered_all : (b : BoardState) (m : Board) (hs : List Holder) → Shows b m → All (λ (h : Holder). IsTrue (has_entered b h.tx.0)) hs → list_all (λ h. is_known_in m.known h.tx) hs ≡ true
entered_all b m [] shows all = refl
entered_all b m (h ∷ hs) shows all =
    let t : is_known_in m.known h.tx ≡ true = sym (entered_is b m h.tx shows) ∙ All-head (λ (h : Holder). IsTrue (has_entered b h.tx.0)) h hs all in
    rw t (entered_all b m hs shows (All-tail (λ (h : Holder). IsTrue (has_entered b h.tx.0)) h hs all))

both_true : (a c : Bool) → (a && c) ≡ true → (a ≡ true) × (c ≡ true)
both_true true true e = (refl, refl)
both_true true false e = absurd (false≢true e)
both_true false c e = absurd (false≢true e)

pub may_wait : (b : BoardState) (m : Board) (tx : Tx) (hs : List Holder) → Shows b m → can_wait_in m.known tx hs ≡ true → CanWait b tx hs
may_wait b m tx hs shows e =
    let parts = both_true (list_all (λ h. is_known_in m.known h.tx) hs) (is_known_in m.known tx) e in
    (entered_is b m tx shows ∙ parts.1, all_entered b m hs shows parts.0)

pub may_not_wait : (b : BoardState) (m : Board) (tx : Tx) (hs : List Holder) → Shows b m → can_wait_in m.known tx hs ≡ false → ¬ (CanWait b tx hs)
may_not_wait b m tx hs shows e can =
    let all = entered_all b m hs shows can.1 in
    let one : is_known_in m.known tx ≡ true = sym (entered_is b m tx shows) ∙ can.0 in
    let yes : (list_all (λ h. is_known_in m.known h.tx) hs && is_known_in m.known tx) ≡ true = rw (all, one) refl in
    false≢true (sym e ∙ yes)

pub not_some : (o : Option Edge) → ((e : Edge) → o ≡ Some e → ⊥) → o ≡ None
not_some None not = refl
not_some (Some e) not = absurd (not e refl)

-- ---- holders, one after another

pub all_more : (p : Holder → Bool) (hs : List Holder) (i : ℕ) (d : Holder) → i < length hs → list_all p (take i hs) ≡ true → p (get_or hs i d) ≡ true → list_all p (take (i + 1) hs) ≡ true
all_more p hs i d lt before here = rw add-one (more hs i lt before here)
  where
    more : (l : List Holder) (n : ℕ) → n < length l → list_all p (take n l) ≡ true → p (get_or l n d) ≡ true → list_all p (take (suc n) l) ≡ true
    more [] n lt before here = absurd (omega (arith, lt))
    more (x ∷ l) zero lt before here = rw here refl
    more (x ∷ l) (suc n) lt before here = let parts = both_true (p x) (list_all p (take n l)) before in rw parts.0 (more l n (omega (arith, lt)) parts.1 here)

pub not_all : (p : Holder → Bool) (hs : List Holder) (i : ℕ) (d : Holder) (also : Bool) → i < length hs → p (get_or hs i d) ≡ false → false ≡ (list_all p hs && also)
not_all p hs i d also lt here = rw (fails hs i lt here) refl
  where
    fails : (l : List Holder) (n : ℕ) → n < length l → p (get_or l n d) ≡ false → list_all p l ≡ false
    fails [] n lt here = absurd (omega (arith, lt))
    fails (x ∷ l) zero lt here = rw here refl
    fails (x ∷ l) (suc n) lt here = by_test (p x) (λ t. rw t (fails l n (omega (arith, lt)) here)) (λ f. rw f refl)
