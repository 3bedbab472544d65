-- Room for the changes of the branches that voted.
use Rattle.std.proofs.Common.{◌≡◌, inl, inr, ℕ, ◌+◌, ◌≤◌, sym, ap, subst, arith, List, [], ◌∷◌, ◌++◌, length, if◌then◌else◌}
use Rattle.std.specs.Prelude.{◌==◌}
use Rattle.std.proofs.lemmas.Bool.{eq-eqb}
use Rattle.hb_types.specs.declared.change.Change.{Change}
use Rattle.hb_types.specs.declared.places.Place.{Place}
use Rattle.hb_types.specs.Lists.{Each, Has}
use Rattle.hb_types.specs.Records.{IsChange}
use Rattle.hb_types.proofs.PutLaws.{by_test}
use Rattle.hb_disks.specs.Redo.{Prepared, without_tx, changes_of, changes_or}
use Rattle.hb_store.specs.Meanings.{count_at, room_for}
use Rattle.hb_force.specs.Kept.{IsSoundDoubt}

pub room_for-more : (place : Place) (ps : List Prepared) (p : Prepared) → room_for place (ps ++ p ∷ []) ≡ room_for place ps + count_at place p.changes
room_for-more place [] p = omega arith
room_for-more place (q ∷ ps) p = let rest = room_for-more place ps p in omega (arith, rest)

room_for-or : (place : Place) (old : List Change) (tx : ℕ) (ps : List Prepared) → count_at place (changes_or old tx ps) + room_for place (without_tx tx ps) ≤ count_at place old + room_for place ps
room_for-or place old tx [] = omega arith
room_for-or place old tx (p ∷ ps) =
    by_test (p.tx == tx)
    (λ t. let rest = room_for-or place p.changes tx ps in
    let a : changes_or old tx (p ∷ ps) ≡ changes_or p.changes tx ps = ap (λ z. changes_or (if z then p.changes else old) tx ps) t in
    let b : without_tx tx (p ∷ ps) ≡ without_tx tx ps = ap (λ z. if z then without_tx tx ps else p ∷ without_tx tx ps) t in
    omega (arith, rest, ap (count_at place) a, ap (room_for place) b))
    (λ f. let rest = room_for-or place old tx ps in
    let a : changes_or old tx (p ∷ ps) ≡ changes_or old tx ps = ap (λ z. changes_or (if z then p.changes else old) tx ps) f in
    let b : without_tx tx (p ∷ ps) ≡ p ∷ without_tx tx ps = ap (λ z. if z then without_tx tx ps else p ∷ without_tx tx ps) f in
    omega (arith, rest, ap (count_at place) a, ap (room_for place) b))

-- the changes of one of them, and those of the others
pub room_for-without : (place : Place) (tx : ℕ) (ps : List Prepared) → count_at place (changes_of tx ps) + room_for place (without_tx tx ps) ≤ room_for place ps
room_for-without place tx ps = let e = room_for-or place [] tx ps in omega (arith, e)

without-long : (tx : ℕ) (ps : List Prepared) → length (without_tx tx ps) ≤ length ps
without-long tx [] = omega arith
without-long tx (p ∷ ps) =
    by_test (p.tx == tx)
    (λ t. let rest = without-long tx ps in let b = ap length (ap (λ z. if z then without_tx tx ps else p ∷ without_tx tx ps) t) in omega (arith, rest, b))
    (λ f. let rest = without-long tx ps in let b = ap length (ap (λ z. if z then without_tx tx ps else p ∷ without_tx tx ps) f) in omega (arith, rest, b))

pub without-shorter : (P : Prepared → Type 0) (tx : ℕ) (ps : List Prepared) → ((p : Prepared) → P p → p.tx ≡ tx) → Has P ps → length (without_tx tx ps) + 1 ≤ length ps
without-shorter P tx [] of has = absurd has
without-shorter P tx (p ∷ ps) of (inl here) =
    let rest = without-long tx ps in
    let b = ap length (ap (λ z. if z then without_tx tx ps else p ∷ without_tx tx ps) (eq-eqb p.tx tx (of p here))) in omega (arith, rest, b)
without-shorter P tx (p ∷ ps) of (inr there) =
    let rest = without-shorter P tx ps of there in
    by_test (p.tx == tx)
    (λ t. let b = ap length (ap (λ z. if z then without_tx tx ps else p ∷ without_tx tx ps) t) in omega (arith, rest, b))
    (λ f. let b = ap length (ap (λ z. if z then without_tx tx ps else p ∷ without_tx tx ps) f) in omega (arith, rest, b))

each-or : (old : List Change) (tx : ℕ) (ps : List Prepared) → Each IsChange old → Each IsSoundDoubt ps → Each IsChange (changes_or old tx ps)
each-or old tx [] is each = is
each-or old tx (p ∷ ps) is each =
    by_test (p.tx == tx)
    (λ t. subst (Each IsChange) (sym (ap (λ z. changes_or (if z then p.changes else old) tx ps) t)) (each-or p.changes tx ps each.0.2 each.1))
    (λ f. subst (Each IsChange) (sym (ap (λ z. changes_or (if z then p.changes else old) tx ps) f)) (each-or old tx ps is each.1))

pub each-changes : (tx : ℕ) (ps : List Prepared) → Each IsSoundDoubt ps → Each IsChange (changes_of tx ps)
each-changes tx ps each = each-or [] tx ps tt each
