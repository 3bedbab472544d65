-- How many of the first changes are at a place.
use Rattle.std.proofs.Common.{◌≡◌, ℕ, ◌+◌, ◌<◌, ◌≤◌, List, [], ◌∷◌, ◌++◌, length, take, drop, get_or, refl, ap, ◌∙◌, arith}
use Rattle.std.specs.Prelude.{if◌then◌else◌}
use Rattle.std.proofs.lemmas.List.{take_more, take-append-drop}
use Rattle.hb_types.proofs.PutLaws.{by_test}
use Rattle.hb_types.proofs.SamePlace.{same_place-refl}
use Rattle.hb_types.specs.declared.change.Change.{Change}
use Rattle.hb_types.specs.declared.places.Place.{Place}
use Rattle.hb_types.specs.Places.{same_place}
use Rattle.hb_store.specs.Meanings.{count_at}

pub count_append : (q : Place) (xs ys : List Change) → count_at q (xs ++ ys) ≡ count_at q xs + count_at q ys
count_append q [] ys = omega arith
count_append q (x ∷ xs) ys = by_test (same_place q x.place)
    (λ t. rw t (let e = count_append q xs ys in omega (arith, e)))
    (λ f. rw f (count_append q xs ys))

count_one : (q : Place) (c : Change) → count_at q (c ∷ []) ≡ (if same_place q c.place then 1 else 0)
count_one q c = by_test (same_place q c.place) (λ t. rw t refl) (λ f. rw f refl)

pub count_more : (q : Place) (cs : List Change) (i : ℕ) (c : Change) → i < length cs → get_or cs i c ≡ c → count_at q (take (i + 1) cs) ≡ count_at q (take i cs) + (if same_place q c.place then 1 else 0)
count_more q cs i c lt is =
    ap (count_at q) (take_more cs i c lt) ∙ count_append q (take i cs) (get_or cs i c ∷ [])
    ∙ ap (λ (d : Change). count_at q (take i cs) + count_at q (d ∷ [])) is ∙ ap (λ n. count_at q (take i cs) + n) (count_one q c)

pub count_front : (q : Place) (cs : List Change) (i : ℕ) → count_at q (take i cs) ≤ count_at q cs
count_front q cs i = omega (arith, count_append q (take i cs) (drop i cs), ap (count_at q) (take-append-drop i cs))

-- room for one change more, as far as the changes ask for it
pub room_left : (q : Place) (cs : List Change) (i old now : ℕ) (c : Change) → i < length cs → get_or cs i c ≡ c → q ≡ c.place → old ≡ now + count_at q (take i cs) → count_at q cs ≤ old → 1 ≤ now
room_left q cs i old now c lt is here e le =
    let more = count_more q cs i c lt is in
    let one : ◌≡◌ {A = ℕ} (if same_place q c.place then 1 else 0) 1 = ap (λ (p : Place). if same_place p c.place then 1 else 0) here ∙ ap (λ b. if b then 1 else 0) (same_place-refl c.place) in
    omega (arith, more, one, e, le, count_front q cs (i + 1))
