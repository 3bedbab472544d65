-- Changes that are made one after another.
use Rattle.std.proofs.Common.{◌≡◌, ℕ, zero, suc, ◌+◌, ◌≤◌, ◌<◌, List, [], ◌∷◌, length, take, get_or, sym, ◌∙◌, ap, arith, if◌then◌else◌, Option, Some, None, subst}
use Rattle.std.specs.Prelude.{IfSome, Result, Ok, Err, OnErr}
use Rattle.hb_types.specs.declared.change.Change.{Change}
use Rattle.hb_types.specs.declared.change.Stored.{Stored}
use Rattle.hb_types.specs.declared.places.Place.{Place}
use Rattle.hb_types.specs.Lists.{Each}
use Rattle.hb_types.specs.Places.{same_place}
use Rattle.hb_types.specs.Put.{put, put_all}
use Rattle.hb_types.specs.Records.{IsChange}
use Rattle.hb_types.specs.Rows.{IsRow}
use Rattle.hb_types.proofs.PutLaws.{by_test}
use Rattle.hb_types.proofs.SamePlace.{same_place-refl}
use Rattle.hb_edge.specs.Images.{Image}
use Rattle.hb_disks.specs.Points.{Point}
use Rattle.hb_store.specs.Meanings.{count_at, Stays}

pub put_more : (rows : List Stored) (cs : List Change) (i : ℕ) (c : Change) → i < length cs → c ≡ get_or cs i c → put_all rows (take (i + 1) cs) ≡ put (put_all rows (take i cs)) c
put_more rows cs i c lt is = let e : i + 1 ≡ suc i = omega arith in ap (λ (k : ℕ). put_all rows (take k cs)) e ∙ go rows cs i lt is
  where
    go : (rows : List Stored) (cs : List Change) (i : ℕ) → i < length cs → c ≡ get_or cs i c → put_all rows (take (suc i) cs) ≡ put (put_all rows (take i cs)) c
    go rows [] i lt is = absurd (omega (arith, lt))
    go rows (d ∷ cs) zero lt is = ap (put rows) (sym is)
    go rows (d ∷ cs) (suc i) lt is = go (put rows d) cs i (omega (arith, lt)) is

pub count_more : (place : Place) (cs : List Change) (i : ℕ) (c : Change) → i < length cs → c ≡ get_or cs i c → count_at place (take (i + 1) cs) ≡ count_at place (take i cs) + (if same_place place c.place then 1 else 0)
count_more place cs i c lt is = let e : i + 1 ≡ suc i = omega arith in ap (λ (k : ℕ). count_at place (take k cs)) e ∙ go cs i lt is
  where
    one : (d : Change) (n m : ℕ) → count_at place (d ∷ []) ≡ (if same_place place d.place then 1 else 0)
    one d n m = by_test (same_place place d.place) (λ t. ap {B = ℕ} (λ z. if z then 0 + 1 else 0) t ∙ sym (ap {B = ℕ} (λ z. if z then 1 else 0) t)) (λ f. ap {B = ℕ} (λ z. if z then 0 + 1 else 0) f ∙ sym (ap {B = ℕ} (λ z. if z then 1 else 0) f))

    go : (cs : List Change) (i : ℕ) → i < length cs → c ≡ get_or cs i c → count_at place (take (suc i) cs) ≡ count_at place (take i cs) + (if same_place place c.place then 1 else 0)
    go [] i lt is = absurd (omega (arith, lt))
    go (d ∷ cs) zero lt is = let a = one d 0 0 in let b = ap {B = ℕ} (λ (x : Change). if same_place place x.place then 1 else 0) is in omega (arith, a, b)
    go (d ∷ cs) (suc i) lt is =
        let rest = go cs i (omega (arith, lt)) is in
        by_test (same_place place d.place)
        (λ t. let a = ap (λ z. if z then count_at place (take (suc i) cs) + 1 else count_at place (take (suc i) cs)) t in let b = ap (λ z. if z then count_at place (take i cs) + 1 else count_at place (take i cs)) t in omega (arith, rest, a, b))
        (λ f. let a = ap (λ z. if z then count_at place (take (suc i) cs) + 1 else count_at place (take (suc i) cs)) f in let b = ap (λ z. if z then count_at place (take i cs) + 1 else count_at place (take i cs)) f in omega (arith, rest, a, b))

pub count_front : (place : Place) (cs : List Change) (i : ℕ) → count_at place (take i cs) ≤ count_at place cs
count_front place [] zero = omega arith
count_front place [] (suc i) = omega arith
count_front place (d ∷ cs) zero = omega arith
count_front place (d ∷ cs) (suc i) =
    let rest = count_front place cs i in
    by_test (same_place place d.place)
    (λ t. let a = ap (λ z. if z then count_at place (take i cs) + 1 else count_at place (take i cs)) t in let b = ap (λ z. if z then count_at place cs + 1 else count_at place cs) t in omega (arith, rest, a, b))
    (λ f. let a = ap (λ z. if z then count_at place (take i cs) + 1 else count_at place (take i cs)) f in let b = ap (λ z. if z then count_at place cs + 1 else count_at place cs) f in omega (arith, rest, a, b))

pub place_itself : (p : Place) → ◌≡◌ {A = ℕ} (if same_place p p then 1 else 0) 1
place_itself p = ap {B = ℕ} (λ z. if z then 1 else 0) (same_place-refl p)

pub each_get : (cs : List Change) (i : ℕ) (c : Change) → Each IsChange cs → i < length cs → c ≡ get_or cs i c → IsChange c
each_get [] i c each lt is = absurd (omega (arith, lt))
each_get (d ∷ cs) zero c each lt is = subst IsChange (sym is) each.0
each_get (d ∷ cs) (suc i) c each lt is = each_get cs i c each.1 (omega (arith, lt)) is

pub row_is_row : (c : Change) → IsChange c → IfSome c.row IsRow
row_is_row c is = by c.place c.row is
  where
    by : (p : Place) (o : Option (List ℕ)) → IsChange (record { place = p; row = o }) → IfSome o IsRow
    by p None is = tt
    by p (Some row) is = is.1

-- ---- a store goes on over its disk

pub stays_same : {S : Type 0} (keeps : S → Option Point → Image → Type 0) (staged : S → Image → Type 0) (s : S) → Stays keeps staged s s
stays_same keeps staged s = record { keeps_on = λ p image is. is; stands_on = λ image is. is }

pub stays_then : {S : Type 0} (keeps : S → Option Point → Image → Type 0) (staged : S → Image → Type 0) (a b c : S) → Stays keeps staged a b → Stays keeps staged b c → Stays keeps staged a c
stays_then keeps staged a b c one two = record { keeps_on = λ p image is. two.keeps_on p image (one.keeps_on p image is); stands_on = λ image is. two.stands_on image (one.stands_on image is) }

pub on_err : {A E : Type 0} (r : Result A E) (P : Type 0) → P → OnErr r P
on_err (Ok x) P p = tt
on_err (Err e) P p = p
