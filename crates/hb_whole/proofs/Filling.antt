-- A map that is filled with rows, the last one first.
use Rattle.std.proofs.Common.{◌≡◌, ℕ, List, [], ◌∷◌, ◌++◌, refl, sym, ◌∙◌, ap, subst, append_assoc, Some}
use Rattle.hb_types.proofs.Ascending.{Ascends-tail, Each-back, Each-front}
use Rattle.hb_types.proofs.PutLaws.{by_test, lookup-put}
use Rattle.hb_types.specs.declared.change.Stored.{Stored}
use Rattle.hb_types.specs.declared.places.Place.{Place}
use Rattle.hb_types.specs.Lists.{Each}
use Rattle.hb_types.specs.Places.{place_cmp, same_place}
use Rattle.hb_types.specs.Put.{put}
use Rattle.hb_laws.specs.RowOrder.{AreAscending}
use Rattle.hb_laws.proofs.Places.{stored_total}
use Rattle.hb_laws.proofs.RowLaws.{rows_same, put_ascends}
use Rattle.hb_store.specs.Meanings.{IsStored}
use Rattle.hb_disks.specs.WholeImage.{as_change}
use Rattle.hb_whole.specs.Points.{AreRows}
use Rattle.hb_whole.specs.Slots.{Entries, room_at}
use Rattle.hb_whole.proofs.SlotRows.{Changed, room_changed}

-- a row below all others comes first
put_first : (r : Stored) (rs : List Stored) → AreAscending (r ∷ rs) → put rs (as_change r) ≡ r ∷ rs
put_first r rs a =
    rows_same (put rs (as_change r)) (r ∷ rs) (put_ascends rs (as_change r) (Ascends-tail (λ a b. place_cmp a.place b.place) stored_total r rs a)) a (λ q. lookup-put q rs (as_change r))

ascends_back : (xs ys : List Stored) → AreAscending (xs ++ ys) → AreAscending ys
ascends_back [] ys a = a
ascends_back (x ∷ xs) ys a = ascends_back xs ys (Ascends-tail (λ a b. place_cmp a.place b.place) stored_total x (xs ++ ys) a)

-- a row more is put before those that stand
pub filled_more : (all left rest done new : List Stored) (r : Stored) → left ++ done ≡ all → left ≡ rest ++ r ∷ [] → AreRows all → new ≡ put done (as_change r) → rest ++ new ≡ all
filled_more all left rest done new r so_far is sound puts =
    let whole : rest ++ r ∷ done ≡ all = sym (append_assoc rest (r ∷ []) done) ∙ ap (λ l. l ++ done) (sym is) ∙ so_far in
    ap (λ l. rest ++ l) (puts ∙ put_first r done (ascends_back rest (r ∷ done) (subst AreAscending (sym whole) sound.ascend))) ∙ whole

pub last_fits : (all left rest done : List Stored) (r : Stored) → left ++ done ≡ all → left ≡ rest ++ r ∷ [] → AreRows all → IsStored r
last_fits all left rest done r so_far is sound =
    (Each-back IsStored rest (r ∷ []) (subst (Each IsStored) is (Each-front IsStored left done (subst (Each IsStored) (sym so_far) sound.fit)))).0

pub still_bare : (old new : Entries) (k : Place) (row : List ℕ) → Changed old new k (Some (record { row = Some row; room = 0 })) → ((q : Place) → room_at old q ≡ 0) → (q : Place) → room_at new q ≡ 0
still_bare old new k row c bare q =
    room_changed old new k (Some (record { row = Some row; room = 0 })) c q ∙ by_test (same_place q k) (λ t. rw t refl) (λ f. rw f (bare q))
