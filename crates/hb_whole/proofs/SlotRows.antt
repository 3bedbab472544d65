-- The rows and the room of a map that changes at one place.
use Rattle.std.proofs.Common.{◌≡◌, ℕ, ◌+◌, Bool, true, false, cond, List, [], ◌∷◌, Some, None, Option, refl, ap, sym, ◌∙◌, subst, arith}
use Rattle.std.specs.Borrow.{Bor}
use Rattle.std.specs.Prelude.{IfSome, option_copied, if◌then◌else◌}
use Rattle.std.specs.List.{AllByRecursion}
use Rattle.std.specs.List.Sorted.{IsStrictlySortedBy}
use Rattle.std.specs.Map.{lookup, keys_of}
use Rattle.std.specs.BTreeMap.{is_at}
use Rattle.std.specs.declared.cmp.Ordering.TheVariants.{Less}
use Rattle.hb_types.proofs.PutLaws.{by_test, lookup-put}
use Rattle.hb_types.proofs.SamePlace.{same_place-eq, same_place-refl}
use Rattle.hb_types.specs.declared.change.Stored.{Stored}
use Rattle.hb_types.specs.declared.places.Place.{Place}
use Rattle.hb_types.specs.Lists.{Each}
use Rattle.hb_types.specs.Places.{place_cmp, same_place, IsPlace}
use Rattle.hb_types.specs.Put.{lookup as row_at, put}
use Rattle.hb_types.specs.Rows.{IsRow}
use Rattle.hb_laws.specs.RowOrder.{AreAscending}
use Rattle.hb_laws.proofs.RowLaws.{rows_same, put_ascends, less_apart}
use Rattle.hb_store.specs.Meanings.{IsStored}
use Rattle.hb_whole.specs.declared.map.Slot.{Slot}
use Rattle.hb_whole.specs.Slots.{Entries, AreOrdered, AreSound, IsSlot, rows_of, room_at, room_in, row_in, slot_at}
use Rattle.hb_whole.proofs.Keys.{order, at_is, slot_is, same_flip}

-- ---- what is above a place

abbrev IsAbove : Place → Entries → Type 0
IsAbove p es = AllByRecursion (λ q. place_cmp p q ≡ Less) (keys_of es)

-- by whether there is a row
pub by_row : (place : Place) (P : Option (List ℕ) → Type 0) (o : Option (List ℕ)) → P None → ((row : List ℕ) → P (Some row)) → P o
by_row place P None n s = n
by_row place P (Some row) n s = s row

above_rows : (p : Place) (es : Entries) → IsAbove p es → Each (λ r. place_cmp p r.place ≡ Less) (rows_of es)
above_rows p [] a = tt
above_rows p (e ∷ es) a =
    by_row p (λ (o : Option (List ℕ)). Each (λ r. place_cmp p r.place ≡ Less) (rows_of ((e.0, record { row = o; room = 0 }) ∷ es))) e.1.row
    (above_rows p es a.1) (λ row. (a.0, above_rows p es a.1))

none_at : (p : Place) (es : Entries) → IsAbove p es → slot_at es p ≡ None
none_at p [] a = refl
none_at p (e ∷ es) a = rw (less_apart p e.0 a.0) (none_at p es a.1)

none_above : (p : Place) (rows : List Stored) → Each (λ r. place_cmp p r.place ≡ Less) rows → row_at p rows ≡ None
none_above p [] e = refl
none_above p (r ∷ rs) e = rw (less_apart p r.place e.0) (none_above p rs e.1)

pub cons_ascends : (r : Stored) (rs : List Stored) → Each (λ s. place_cmp r.place s.place ≡ Less) rs → AreAscending rs → AreAscending (r ∷ rs)
cons_ascends r [] e a = tt
cons_ascends r (s ∷ ss) e a = (e.0, a)

-- ---- the rows of a map

pub rows_ascend : (es : Entries) → AreOrdered es → AreAscending (rows_of es)
unfolding IsStrictlySortedBy
rows_ascend [] o = tt
rows_ascend (e ∷ es) o =
    by_row e.0 (λ (r : Option (List ℕ)). AreAscending (rows_of ((e.0, record { row = r; room = 0 }) ∷ es))) e.1.row
    (rows_ascend es o.1) (λ row. cons_ascends (record { place = e.0; row = row }) (rows_of es) (above_rows e.0 es o.0) (rows_ascend es o.1))

pub lookup_rows : (es : Entries) (q : Place) → AreOrdered es → row_at q (rows_of es) ≡ row_in (slot_at es q)
unfolding IsStrictlySortedBy
lookup_rows [] q o = refl
lookup_rows (e ∷ es) q o = by_test (same_place q e.0)
    (λ t. let is : q ≡ e.0 = same_place-eq q e.0 t in rw t (here is t))
    (λ f. rw f (by_row q (λ (r : Option (List ℕ)). row_at q (rows_of ((e.0, record { row = r; room = 0 }) ∷ es)) ≡ row_in (slot_at es q)) e.1.row
    (lookup_rows es q o.1) (λ row. rw f (lookup_rows es q o.1))))
  where
    here : q ≡ e.0 → same_place q e.0 ≡ true → row_at q (rows_of (e ∷ es)) ≡ e.1.row
    here is t = by_row q (λ (r : Option (List ℕ)). row_at q (rows_of ((e.0, record { row = r; room = 0 }) ∷ es)) ≡ r) e.1.row
        (rw is (none_above e.0 (rows_of es) (above_rows e.0 es o.0))) (λ row. rw t refl)

-- ---- a change at one place

abbrev pub Changed : Entries → Entries → Place → Option Slot → Type 0
Changed old new k w = (q : Place) → lookup (is_at (order q)) new ≡ cond (is_at (order k) q) w (lookup (is_at (order q)) old)

pub slot_changed : (old new : Entries) (k : Place) (w : Option Slot) → Changed old new k w → (q : Place) → slot_at new q ≡ (if same_place q k then w else slot_at old q)
slot_changed old new k w c q =
    sym (slot_is new q) ∙ c q ∙ ap (λ t. cond t w (lookup (is_at (order q)) old)) (at_is k q ∙ same_flip k q)
    ∙ ap (λ o. cond (same_place q k) w o) (slot_is old q)

in_if : {A : Type 0} (f : Option Slot → A) (b : Bool) (w o : Option Slot) → f (if b then w else o) ≡ (if b then f w else f o)
in_if f true w o = refl
in_if f false w o = refl

pub rows_put : (old new : Entries) (k : Place) (w : Option Slot) → AreOrdered old → AreOrdered new → Changed old new k w → rows_of new ≡ put (rows_of old) (record { place = k; row = row_in w })
rows_put old new k w o n c =
    rows_same (rows_of new) (put (rows_of old) (record { place = k; row = row_in w })) (rows_ascend new n) (put_ascends (rows_of old) (record { place = k; row = row_in w }) (rows_ascend old o))
    (λ q. lookup_rows new q n ∙ ap row_in (slot_changed old new k w c q) ∙ in_if row_in (same_place q k) w (slot_at old q)
    ∙ ap (λ r. if same_place q k then row_in w else r) (sym (lookup_rows old q o)) ∙ sym (lookup-put q (rows_of old) (record { place = k; row = row_in w })))

pub rows_kept : (old new : Entries) (k : Place) (w : Option Slot) → AreOrdered old → AreOrdered new → Changed old new k w → row_in w ≡ row_in (lookup (is_at (order k)) old) → rows_of new ≡ rows_of old
rows_kept old new k w o n c same =
    rows_same (rows_of new) (rows_of old) (rows_ascend new n) (rows_ascend old o)
    (λ q. lookup_rows new q n ∙ ap row_in (slot_changed old new k w c q) ∙ in_if row_in (same_place q k) w (slot_at old q)
    ∙ by_test (same_place q k)
    (λ t. rw t (same ∙ ap row_in (slot_is old k) ∙ ap (λ (p : Place). row_in (slot_at old p)) (sym (same_place-eq q k t))))
    (λ f. rw f refl)
    ∙ sym (lookup_rows old q o))

pub room_changed : (old new : Entries) (k : Place) (w : Option Slot) → Changed old new k w → (q : Place) → room_at new q ≡ (if same_place q k then room_in w else room_at old q)
room_changed old new k w c q = ap room_in (slot_changed old new k w c q) ∙ in_if room_in (same_place q k) w (slot_at old q)

pub sound_changed : (old new : Entries) (k : Place) (w : Option Slot) → Changed old new k w → AreSound old → IfSome w (IsSlot k) → AreSound new
sound_changed old new k w c sound fits q =
    subst (λ (o : Option Slot). IfSome o (IsSlot q)) (sym (slot_changed old new k w c q))
    (by_test (same_place q k)
    (λ t. rw t (subst (λ (p : Place). IfSome w (IsSlot p)) (sym (same_place-eq q k t)) fits))
    (λ f. rw f (sound q)))

-- ---- rows are rows

pub sound_rest : (e : Place × Slot) (es : Entries) → AreOrdered (e ∷ es) → AreSound (e ∷ es) → AreSound es
unfolding IsStrictlySortedBy
sound_rest e es o s q = by_test (same_place q e.0)
    (λ t. subst (λ (x : Option Slot). IfSome x (IsSlot q)) (sym (ap (slot_at es) (same_place-eq q e.0 t) ∙ none_at e.0 es o.0)) tt)
    (λ f. subst (λ (x : Option Slot). IfSome x (IsSlot q)) (ap (λ t. cond t (Some e.1) (slot_at es q)) f) (s q))

pub each_stored : (es : Entries) → AreOrdered es → AreSound es → Each IsStored (rows_of es)
unfolding IsStrictlySortedBy
each_stored [] o s = tt
each_stored (e ∷ es) o s =
    let first : IsSlot e.0 e.1 = subst (λ (x : Option Slot). IfSome x (IsSlot e.0)) here (s e.0) in
    with_row e.1.row first.0 first.1 (each_stored es o.1 (sound_rest e es o s))
  where
    here : slot_at (e ∷ es) e.0 ≡ Some e.1
    here = rw (same_place-refl e.0) refl

    with_row : (r : Option (List ℕ)) → IsPlace e.0 → IfSome r IsRow → Each IsStored (rows_of es) → Each IsStored (rows_of ((e.0, record { row = r; room = 0 }) ∷ es))
    with_row None p f all = all
    with_row (Some row) p f all = ((p, f), all)

-- ---- one change's room more, one less, and as many

room_here : (old : Entries) (k q : Place) → same_place q k ≡ true → room_at old q ≡ room_in (lookup (is_at (order k)) old)
room_here old k q t = ap (room_at old) (same_place-eq q k t) ∙ ap room_in (sym (slot_is old k))

pub room_raised : (old new : Entries) (k : Place) (w : Option Slot) → Changed old new k w → room_in w ≡ room_in (lookup (is_at (order k)) old) + 1 → (q : Place) → room_at new q ≡ room_at old q + (if same_place q k then 1 else 0)
room_raised old new k w c more q = by_test (same_place q k)
    (λ t. let e : room_at new q ≡ room_in w = room_changed old new k w c q ∙ ap (λ b. if b then room_in w else room_at old q) t in
    e ∙ more ∙ ap (λ n. n + 1) (sym (room_here old k q t)) ∙ ap (λ b. room_at old q + (if b then 1 else 0)) (sym t))
    (λ f. room_changed old new k w c q ∙ ap (λ b. if b then room_in w else room_at old q) f ∙ (let z : room_at old q ≡ room_at old q + 0 = omega arith in z) ∙ ap (λ b. room_at old q + (if b then 1 else 0)) (sym f))

pub room_lowered : (old new : Entries) (k : Place) (w : Option Slot) → Changed old new k w → room_in (lookup (is_at (order k)) old) ≡ room_in w + 1 → (q : Place) → room_at old q ≡ room_at new q + (if same_place q k then 1 else 0)
room_lowered old new k w c less q = by_test (same_place q k)
    (λ t. let e : room_at new q ≡ room_in w = room_changed old new k w c q ∙ ap (λ b. if b then room_in w else room_at old q) t in
    room_here old k q t ∙ less ∙ ap (λ n. n + 1) (sym e) ∙ ap (λ b. room_at new q + (if b then 1 else 0)) (sym t))
    (λ f. let e : room_at new q ≡ room_at old q = room_changed old new k w c q ∙ ap (λ b. if b then room_in w else room_at old q) f in
    (let z : room_at old q ≡ room_at new q + 0 = omega (arith, e) in z) ∙ ap (λ b. room_at new q + (if b then 1 else 0)) (sym f))

pub room_kept : (old new : Entries) (k : Place) (w : Option Slot) → Changed old new k w → room_in w ≡ room_in (lookup (is_at (order k)) old) → (q : Place) → room_at new q ≡ room_at old q
room_kept old new k w c same q = room_changed old new k w c q ∙ by_test (same_place q k)
    (λ t. ap (λ b. if b then room_in w else room_at old q) t ∙ same ∙ sym (room_here old k q t))
    (λ f. ap (λ b. if b then room_in w else room_at old q) f)

-- the slot at a place, as the map's search finds it
pub found_room : (old : Entries) (k : Place) (o : Option Slot) → o ≡ lookup (is_at (order k)) old → room_at old k ≡ room_in o
found_room old k o e = ap room_in (sym (slot_is old k) ∙ sym e)

pub found_slot : (old : Entries) (k : Place) (s : Slot) → Some s ≡ lookup (is_at (order k)) old → AreSound old → IsSlot k s
found_slot old k s e sound = subst (λ (o : Option Slot). IfSome o (IsSlot k)) (sym (slot_is old k) ∙ sym e) (sound k)

pub found_row : (old : Entries) (k : Place) (o : Option Slot) → o ≡ lookup (is_at (order k)) old → AreOrdered old → row_at k (rows_of old) ≡ row_in o
found_row old k o e ordered = lookup_rows old k ordered ∙ ap row_in (sym (slot_is old k) ∙ sym e)

pub slot_here : (old new : Entries) (k : Place) (w : Option Slot) → Changed old new k w → slot_at new k ≡ w
slot_here old new k w c = slot_changed old new k w c k ∙ ap (λ b. if b then w else slot_at old k) (same_place-refl k)

pub if_copied : (o : Option (Bor (List ℕ))) → IfSome (option_copied o) IsRow → IfSome o (λ r. IsRow r.now)
if_copied None f = f
if_copied (Some r) f = f
