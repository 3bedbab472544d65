-- A seat at a place.
use Rattle.std.proofs.Common.{◌≡◌, ◌≢◌, ℕ, zero, suc, ◌<◌, Bool, true, List, [], ◌∷◌, length, get_or, set, get_or-set_same, sym, ap, subst, refl, ◌∙◌, arith}
use Rattle.std.specs.Prelude.{Option, Some, None, slice_get}
use Rattle.std.proofs.lemmas.Bool.{false≢true}
use Rattle.std.proofs.lemmas.Option.{slice_get_within, get_or_from_slice_get, slice_get-get_or}
use Rattle.hb_stepper.specs.declared.seat.Seat.{Seat}
use Rattle.hb_stepper.specs.Running.{is_seat, seat_is}
use Rattle.hb_stepper.specs.Waiters.{waiters_after}

there : (test : Seat → Bool) (o : Option Seat) → is_seat test o ≡ true → (s : Seat) × (o ≡ Some s) × (test s ≡ true)
there test None h = absurd (false≢true h)
there test (Some s) h = (s, refl, h)

pub seat_there : (test : Seat → Bool) (seats : List Seat) (place : ℕ) → seat_is test seats place ≡ true → (s : Seat) × (slice_get seats place ≡ Some s) × (test s ≡ true)
seat_there test seats place h = there test (slice_get seats place) h

pub seat_within : (test : Seat → Bool) (seats : List Seat) (place : ℕ) → seat_is test seats place ≡ true → place < length seats
seat_within test seats place h = let s = seat_there test seats place h in slice_get_within seats place s.0 s.1

-- the seat that is read there
pub seat_read : (test : Seat → Bool) (seats : List Seat) (place : ℕ) (s d : Seat) → seat_is test seats place ≡ true → s ≡ get_or seats place d → (slice_get seats place ≡ Some s) × (test s ≡ true)
seat_read test seats place s d h is =
    let at : slice_get seats place ≡ Some s = slice_get-get_or seats place d (seat_within test seats place h) ∙ ap (λ (x : Seat). Some x) (sym is) in
    (at, let P : Option Seat → Type 0 = λ o. is_seat test o ≡ true in subst P at h)

-- two reads of one place, and a read of a place that was written
pub read_twice : (test : Seat → Bool) (seats : List Seat) (place : ℕ) (s t d e : Seat) → seat_is test seats place ≡ true → s ≡ get_or seats place d → t ≡ get_or seats place e → s ≡ t
read_twice test seats place s t d e h first second =
    let at : slice_get seats place ≡ Some t = (seat_read test seats place t e h second).0 in
    first ∙ get_or_from_slice_get seats place t d at

pub read_written : (test : Seat → Bool) (seats : List Seat) (place : ℕ) (now t e : Seat) → seat_is test seats place ≡ true → t ≡ get_or (set seats place now) place e → t ≡ now
read_written test seats place now t e h read = read ∙ get_or-set_same seats place now e (seat_within test seats place h)

pub waiters_same : (ws vs : List ℕ) (place : ℕ) (a b c d : Bool) → ws ≡ vs → a ≡ b → c ≡ d → waiters_after ws place a c ≡ waiters_after vs place b d
waiters_same ws vs place a b c d p q r =
    ap (λ (xs : List ℕ). waiters_after xs place a c) p ∙ ap (λ (x : Bool). waiters_after vs place x c) q ∙ ap (λ (x : Bool). waiters_after vs place b x) r

-- ---- a seat that was put at a place

pub set_there : (seats : List Seat) (place : ℕ) (now : Seat) → place < length seats → slice_get (set seats place now) place ≡ Some now
set_there [] place now h = absurd (omega arith)
set_there (s ∷ seats) zero now h = refl
set_there (s ∷ seats) (suc place) now h = set_there seats place now (omega arith)

pub set_elsewhere : (seats : List Seat) (place other : ℕ) (now : Seat) → other ≢ place → slice_get (set seats place now) other ≡ slice_get seats other
set_elsewhere [] place other now h = refl
set_elsewhere (s ∷ seats) zero zero now h = absurd (h refl)
set_elsewhere (s ∷ seats) zero (suc other) now h = refl
set_elsewhere (s ∷ seats) (suc place) zero now h = refl
set_elsewhere (s ∷ seats) (suc place) (suc other) now h = set_elsewhere seats place other now (λ e. h (ap suc e))
