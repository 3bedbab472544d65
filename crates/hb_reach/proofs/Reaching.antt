-- A call of one node in a list, and a call of the manager beside it.
use Rattle.std.proofs.Common.{◌≡◌, ◌≢◌, ℕ, zero, suc, ◌≤◌, ◌<◌, ◌==◌, Bool, true, false, List, [], ◌∷◌, ◌++◌, ◌⊎◌, inl, inr, length, get_or, set, sym, ap, subst, refl, ◌∙◌, length-set, arith}
use Rattle.std.specs.Prelude.{IsTrue, Option, Some, slice_get}
use Rattle.std.proofs.lemmas.Bool.{cases_eq, eqb-true, ne_eqb}
use Rattle.std.proofs.lemmas.List.{append-nil, map-append}
use Rattle.std.proofs.lemmas.Option.{slice_get-get_or}
use Rattle.hb_types.specs.declared.trail.TrailEntry.{TrailEntry}
use Rattle.hb_types.specs.declared.answer.Answer.{Answer}
use Rattle.hb_types.specs.declared.names.NodeName.{NodeName}
use Rattle.hb_types.specs.declared.request.Request.{Request}
use Rattle.hb_edge.specs.Images.{Image}
use Rattle.hb_types.specs.Calls.{may_pass}
use Rattle.hb_types.specs.Lists.{IsIn}
use Rattle.hb_runs.specs.Kinds.{tells_nothing}
use Rattle.hb_node.specs.Laws.{State, Explains, entry_of, asked_in, asked_of, Enters, Images}
use Rattle.hb_reach.specs.Told.{Meanings, told_of, told_at, seen, mgr}
use Rattle.hb_reach.specs.Goes.{NodeGoes, Goes, Answered}
use Rattle.hb_types.specs.declared.request.Request.TheVariants as request
use Rattle.hb_runs.specs.ServerRuns.{Asked}
use Rattle.hb_node.specs.Lists.{Grows, Stays, OneMore, asked}
use Rattle.hb_reach.proofs.Going.{explains_same, node_stays, answered_goes}

-- ---- a list with one node changed

pub got_where_set : {N : Type 0} (xs : List N) (i : ℕ) (v : N) → i < length xs → slice_get (set xs i v) i ≡ Some v
got_where_set [] i v h = absurd (omega arith)
got_where_set (x ∷ xs) zero v h = refl
got_where_set (x ∷ xs) (suc i) v h = got_where_set xs i v (omega arith)

pub got_elsewhere : {N : Type 0} (xs : List N) (i j : ℕ) (v : N) → j ≢ i → slice_get (set xs i v) j ≡ slice_get xs j
got_elsewhere [] i j v h = refl
got_elsewhere (x ∷ xs) zero zero v h = absurd (h refl)
got_elsewhere (x ∷ xs) zero (suc j) v h = refl
got_elsewhere (x ∷ xs) (suc i) zero v h = refl
got_elsewhere (x ∷ xs) (suc i) (suc j) v h = got_elsewhere xs i j v (λ e. h (ap suc e))

pub answered_at : {N : Type 0} (n : Meanings N) (nodes : List N) (at : ℕ) (was now d : N) (e : TrailEntry) → at < length nodes → was ≡ get_or nodes at d
    → Answered e (told_of n (Some was)) (told_of n (Some now)) → Answered e (told_of n (slice_get nodes at)) (told_of n (slice_get (set nodes at now) at))
answered_at {N} n nodes at was now d e within is h =
    let P : Option N → Type 0 = λ o. Answered e (told_of n o) (told_of n (slice_get (set nodes at now) at)) in
    let Q : Option N → Type 0 = λ o. Answered e (told_of n (Some was)) (told_of n o) in
    subst P (ap (λ (x : N). Some x) is ∙ sym (slice_get-get_or nodes at d within)) (subst Q (sym (got_where_set nodes at now within)) h)

-- a node's own contract, in these words
entered_by : (was now : List TrailEntry) (e : TrailEntry) → Enters was now e
    → (asked_of now ≡ asked_of was ++ asked_in e ∷ []) ⊎ ((may_pass e.request e.answer ≡ true) × (asked_of now ≡ asked_of was))
entered_by was now e (inl entered) = inl (ap (λ (xs : List TrailEntry). asked_of xs) entered ∙ map-append (λ (t : TrailEntry). asked_in t) was (e ∷ []))
entered_by was now e (inr passed) = inr (passed.0, ap (λ (xs : List TrailEntry). asked_of xs) passed.1)

told_by : (was now : List TrailEntry) (e : TrailEntry) → IsTrue (tells_nothing e.answer) ⊎ (now ≡ was ++ e ∷ []) → IsTrue (tells_nothing e.answer) ⊎ (asked_of now ≡ asked_of was ++ asked_in e ∷ [])
told_by was now e (inl nothing) = inl nothing
told_by was now e (inr entered) = inr (ap (λ (xs : List TrailEntry). asked_of xs) entered ∙ map-append (λ (t : TrailEntry). asked_in t) was (e ∷ []))

pub answered_by : {N : Type 0} (n : Meanings N) (was now : N) (e : TrailEntry) → n.named now ≡ n.named was → Enters (n.trail was) (n.trail now) e
    → ((origin : State) → n.explains was origin (asked_of (n.trail was)) → n.last was ≤ e.from → n.explains now origin (asked_of (n.trail now)))
    → ((origin : State) → n.explains was origin (asked_of (n.trail was)) → n.last was ≤ e.from → Images origin (n.trail was) (n.trail now) e (n.leaves was) (n.leaves now))
    → (n.last was ≤ e.from → n.last now ≤ e.to)
    → IsTrue (tells_nothing e.answer) ⊎ (n.trail now ≡ n.trail was ++ e ∷ [])
    → Answered e (told_of n (Some was)) (told_of n (Some now))
answered_by {N} n was now e named entered law images in_time told = record {
  named = ap (λ (x : ℕ). Some x) named;
  entered = entered_by (n.trail was) (n.trail now) e entered;
  told = told_by (n.trail was) (n.trail now) e told;
  in_time = in_time;
  law = law;
  within = λ origin h t. (images origin h t).within;
  after = λ origin h t. (images origin h t).after;
  before = λ origin h t. (images origin h t).before;
}

-- ---- all nodes

-- the manager was asked
pub manager_goes : {N M : Type 0} (n : Meanings N) (m : Meanings M) (were are : List N) (was now : M) (q : Request) (a : Answer) (from to : ℕ) → from ≤ to → are ≡ were
    → Answered (entry_of q a from to) (told_of m (Some was)) (told_of m (Some now)) → Goes (seen n m were was from) (seen n m are now to)
manager_goes {N} {M} n m were are was now q a from to le same h =
    let P : List N → Type 0 = λ xs. Goes (seen n m were was from) (seen n m xs now to) in
    subst P (sym same) (record { clock = le; count = refl; each = λ name. by_name name (name == mgr) })
  where
    by_name : (name : ℕ) (b : Bool) → NodeGoes from to (told_at n m were was name b) (told_at n m were now name b)
    by_name name true = answered_goes (entry_of q a from to) (told_of m (Some was)) (told_of m (Some now)) h
    by_name name false = node_stays from to (told_of n (slice_get were name)) le

-- something was done with a node of the list alone
pub one_goes : {N M : Type 0} (n : Meanings N) (m : Meanings M) (were are : List N) (was now : M) (at from to : ℕ) → from ≤ to → now ≡ was → length are ≡ length were
    → NodeGoes from to (told_of n (slice_get were at)) (told_of n (slice_get are at)) → ((i : ℕ) → i ≢ at → slice_get are i ≡ slice_get were i)
    → Goes (seen n m were was from) (seen n m are now to)
one_goes {N} {M} n m were are was now at from to le same long h others =
    let P : M → Type 0 = λ x. Goes (seen n m were was from) (seen n m are x to) in
    subst P (sym same) (record { clock = le; count = long; each = λ name. by_name name (name == mgr) })
  where
    one : (name : ℕ) → (name ≡ at) ⊎ (name ≢ at) → NodeGoes from to (told_of n (slice_get were name)) (told_of n (slice_get are name))
    one name (inl is) =
        let P : ℕ → Type 0 = λ k. NodeGoes from to (told_of n (slice_get were k)) (told_of n (slice_get are k)) in
        subst P (sym is) h
    one name (inr other) =
        let P : Option N → Type 0 = λ o. NodeGoes from to (told_of n (slice_get were name)) (told_of n o) in
        subst P (sym (others name other)) (node_stays from to (told_of n (slice_get were name)) le)

    by_name : (name : ℕ) (b : Bool) → NodeGoes from to (told_at n m were was name b) (told_at n m are was name b)
    by_name name true = node_stays from to (told_of m (Some was)) le
    by_name name false = one name (cases_eq name at)

pub server_goes : {N M : Type 0} (n : Meanings N) (m : Meanings M) (were are : List N) (was now : M) (at : ℕ) (q : Request) (a : Answer) (from to : ℕ) → from ≤ to → now ≡ was → length are ≡ length were
    → Answered (entry_of q a from to) (told_of n (slice_get were at)) (told_of n (slice_get are at)) → ((i : ℕ) → i ≢ at → slice_get are i ≡ slice_get were i)
    → Goes (seen n m were was from) (seen n m are now to)
server_goes n m were are was now at q a from to le same long h others =
    one_goes n m were are was now at from to le same long (answered_goes (entry_of q a from to) (told_of n (slice_get were at)) (told_of n (slice_get are at)) h) others

-- a node of the list was armed
armed : {N : Type 0} (n : Meanings N) (was now : N) (moment : ℕ) → n.named now ≡ n.named was → n.trail now ≡ n.trail was
    → ((origin : State) (asked : List Asked) → n.explains was origin asked → n.explains now origin asked)
    → ((m : ℕ) (log area : Image) → n.leaves now m log area → n.leaves was m log area) → n.last now ≡ n.last was
    → NodeGoes moment moment (told_of n (Some was)) (told_of n (Some now))
armed {N} n was now moment named trail explains leaves last = record {
  named = ap (λ (x : ℕ). Some x) named;
  longer = ([], list ∙ sym (append-nil (asked_of (n.trail was))));
  law = λ origin h. record { explained = law origin h.explained; in_time = omega (arith, last, h.in_time); images = λ m log area late l. made origin log (h.images m log area late (leaves m log area l)) };
  images = λ origin h m log area late l. record {
    more = [];
    rest = [];
    parts = list ∙ sym (append-nil (asked_of (n.trail was) ++ []) ∙ append-nil (asked_of (n.trail was)));
    made = inl (explains_same origin log (asked_of (n.trail was)) (asked_of (n.trail was) ++ []) (sym (append-nil (asked_of (n.trail was)))) (h.images m log area late (leaves m log area l)));
  };
  before = λ origin h m log area early l. leaves m log area l;
}
  where
    list : asked_of (n.trail now) ≡ asked_of (n.trail was)
    list = ap (λ (xs : List TrailEntry). asked_of xs) trail

    law : (origin : State) → n.explains was origin (asked_of (n.trail was)) → n.explains now origin (asked_of (n.trail now))
    law origin h = let P : List Asked → Type 0 = λ xs. n.explains now origin xs in subst P (sym list) (explains origin (asked_of (n.trail was)) h)

    made : (origin : State) (log : Image) → Explains origin (asked_of (n.trail was)) log → Explains origin (asked_of (n.trail now)) log
    made origin log h = explains_same origin log (asked_of (n.trail was)) (asked_of (n.trail now)) (sym list) h

pub armed_at : {N M : Type 0} (n : Meanings N) (m : Meanings M) (nodes : List N) (manager : M) (at : ℕ) (was now d : N) (moment : ℕ) → at < length nodes → was ≡ get_or nodes at d
    → n.named now ≡ n.named was → n.trail now ≡ n.trail was
    → ((origin : State) (asked : List Asked) → n.explains was origin asked → n.explains now origin asked)
    → ((m : ℕ) (log area : Image) → n.leaves now m log area → n.leaves was m log area) → n.last now ≡ n.last was
    → Goes (seen n m nodes manager moment) (seen n m (set nodes at now) manager moment)
armed_at {N} {M} n m nodes manager at was now d moment within is named trail explains leaves last =
    let P : Option N → Type 0 = λ o. NodeGoes moment moment (told_of n o) (told_of n (slice_get (set nodes at now) at)) in
    let Q : Option N → Type 0 = λ o. NodeGoes moment moment (told_of n (Some was)) (told_of n o) in
    one_goes n m nodes (set nodes at now) manager manager at moment moment (omega arith) refl (length-set nodes at now)
    (subst P (ap (λ (x : N). Some x) is ∙ sym (slice_get-get_or nodes at d within)) (subst Q (sym (got_where_set nodes at now within)) (armed n was now moment named trail explains leaves last)))
    (λ i apart. got_elsewhere nodes at i now apart)

-- nothing was done, and the clock went on
pub later_goes : {N M : Type 0} (n : Meanings N) (m : Meanings M) (nodes : List N) (manager : M) (from to : ℕ) → from ≤ to → Goes (seen n m nodes manager from) (seen n m nodes manager to)
later_goes n m nodes manager from to le = record { clock = le; count = refl; each = λ name. node_stays from to ((seen n m nodes manager from).node name) le }

-- ---- lists

grows_once : (old new : List Asked) (q : Request) (a : Answer) → new ≡ old ++ asked q a ∷ [] → Grows old new q a
grows_once old new (request.Wait tx node path wanted holders) a e =
    inl (0, e ∙ ap (λ (xs : List Asked). xs ++ asked (request.Wait tx node path wanted holders) a ∷ []) (sym (append-nil old)), tt)
grows_once old new q a e = inl (0, e ∙ ap (λ (xs : List Asked). xs ++ asked q a ∷ []) (sym (append-nil old)), refl)

grows_by : (old new : List Asked) (q : Request) (a : Answer) → (new ≡ old ++ asked q a ∷ []) ⊎ ((may_pass q a ≡ true) × (new ≡ old)) → Grows old new q a
grows_by old new q a (inl e) = grows_once old new q a e
grows_by old new q a (inr e) = inr e

in_longer : (old new : List Asked) (q : Request) (a : Answer) → new ≡ old ++ asked q a ∷ [] → IsIn (asked q a) new
in_longer old new q a e = subst (λ (l : List Asked). IsIn (asked q a) l) (sym e) (at_end old)
  where
    at_end : (xs : List Asked) → IsIn (asked q a) (xs ++ asked q a ∷ [])
    at_end [] = inl refl
    at_end (x ∷ xs) = inr (at_end xs)

told_in : (old new : List Asked) (q : Request) (a : Answer) → IsTrue (tells_nothing a) ⊎ (new ≡ old ++ asked q a ∷ []) → IsTrue (tells_nothing a) ⊎ IsIn (asked q a) new
told_in old new q a (inl nothing) = inl nothing
told_in old new q a (inr e) = inr (in_longer old new q a e)

-- the manager's list has grown, and the others' are as they were
pub manager_asked : {N M : Type 0} (n : Meanings N) (m : Meanings M) (were are : List N) (was now : M) (at : ℕ) (q : Request) (a : Answer) (from to : ℕ) → at ≡ mgr → are ≡ were
    → Answered (entry_of q a from to) (told_of m (Some was)) (told_of m (Some now))
    → OneMore (λ name. ((seen n m were was from).node name).list) (λ name. ((seen n m are now to).node name).list) at q a
manager_asked {N} {M} n m were are was now at q a from to is same h =
    let Q : List N → Type 0 = λ xs. OneMore (λ name. ((seen n m were was from).node name).list) (λ name. ((seen n m xs now to).node name).list) mgr q a in
    let P : ℕ → Type 0 = λ k. OneMore (λ name. ((seen n m were was from).node name).list) (λ name. ((seen n m are now to).node name).list) k q a in
    subst P (sym is) (subst Q (sym same) (record {
      asked_one = grows_by (asked_of (m.trail was)) (asked_of (m.trail now)) q a h.entered;
      others = λ name apart. by_name name apart (name == mgr) refl;
      told = told_in (asked_of (m.trail was)) (asked_of (m.trail now)) q a h.told;
    }))
  where
    by_name : (name : ℕ) → name ≢ mgr → (b : Bool) → (name == mgr) ≡ b → Stays name (told_at n m were was name b).list (told_at n m were now name b).list
    by_name name apart true is = absurd (apart (eqb-true name mgr is))
    by_name name apart false is = inl refl

-- a node's list has grown, and the others' are as they were but for the manager's, which tells of a node that stopped
pub server_asked : {N M : Type 0} (n : Meanings N) (m : Meanings M) (were are after : List N) (was now : M) (at : ℕ) (q : Request) (a : Answer) (from mid to : ℕ) → at ≢ mgr → after ≡ are
    → Answered (entry_of q a from mid) (told_of n (slice_get were at)) (told_of n (slice_get are at)) → ((i : ℕ) → i ≢ at → slice_get are i ≡ slice_get were i)
    → Stays mgr (asked_of (m.trail was)) (asked_of (m.trail now))
    → OneMore (λ name. ((seen n m were was from).node name).list) (λ name. ((seen n m after now to).node name).list) at q a
server_asked {N} {M} n m were are after was now at q a from mid to other same h others stays =
    let P : Bool → Type 0 = λ b. Grows (told_at n m were was at b).list (told_at n m are now at b).list q a in
    let one : P (at == mgr) = subst P (sym (no_mgr at other)) (grows_by (told_of n (slice_get were at)).list (told_of n (slice_get are at)).list q a h.entered) in
    let Q : List N → Type 0 = λ xs. OneMore (λ name. ((seen n m were was from).node name).list) (λ name. ((seen n m xs now to).node name).list) at q a in
    let T : Bool → Type 0 = λ b. IsTrue (tells_nothing a) ⊎ IsIn (asked q a) (told_at n m are now at b).list in
    let told : T (at == mgr) = subst T (sym (no_mgr at other)) (told_in (told_of n (slice_get were at)).list (told_of n (slice_get are at)).list q a h.told) in
    subst Q (sym same) (record { asked_one = one; others = λ name apart. by_name name apart (name == mgr) refl; told = told })
  where
    no_mgr : (k : ℕ) → k ≢ mgr → (k == mgr) ≡ false
    no_mgr k ne = ne_eqb k mgr ne

    by_name : (name : ℕ) → name ≢ at → (b : Bool) → (name == mgr) ≡ b → Stays name (told_at n m were was name b).list (told_at n m are now name b).list
    by_name name apart true is =
        let P : ℕ → Type 0 = λ k. Stays k (asked_of (m.trail was)) (asked_of (m.trail now)) in
        subst P (sym (eqb-true name mgr is)) stays
    by_name name apart false is = inl (ap (λ (o : Option N). (told_of n o).list) (others name apart))

-- the manager's list, where it was told that a node stopped
pub told_halted : {M : Type 0} (m : Meanings M) (was mid now : M) (node : NodeName) (a : Answer) (from to : ℕ) → mid ≡ was
    → Answered (entry_of (request.Halted node) a from to) (told_of m (Some mid)) (told_of m (Some now)) → Stays mgr (asked_of (m.trail was)) (asked_of (m.trail now))
told_halted {M} m was mid now node a from to same h =
    let P : M → Type 0 = λ x. Stays mgr (asked_of (m.trail x)) (asked_of (m.trail now)) in
    subst P same (stays h.entered)
  where
    stays : (asked_of (m.trail now) ≡ asked_of (m.trail mid) ++ asked (request.Halted node) a ∷ []) ⊎ ((may_pass (request.Halted node) a ≡ true) × (asked_of (m.trail now) ≡ asked_of (m.trail mid)))
        → Stays mgr (asked_of (m.trail mid)) (asked_of (m.trail now))
    stays (inl entered) = inr (refl, node, a, entered)
    stays (inr passed) = inl passed.1
