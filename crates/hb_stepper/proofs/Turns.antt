-- The sessions that wait, asked in turn.
use Rattle.std.proofs.Common.{◌≡◌, ◌≢◌, ◌⊎◌, ℕ, ◌+◌, ◌≤◌, ◌<◌, Bool, true, false, not, ◌&&◌, List, [], ◌∷◌, ◌++◌, length, get_or, set, take, drop, sym, ap, ◌∙◌, subst, refl, inl, inr, add-one}
use Rattle.std.specs.Prelude.{Option, Some, slice_get, filter}
use Rattle.std.proofs.lemmas.Bool.{cases_eq, false≢true}
use Rattle.std.proofs.lemmas.List.{append-nil, take_more, take_all, take-append-drop}
use Rattle.std.proofs.lemmas.List.Elements.{filter-append}
use Rattle.std.proofs.Math.Seq.{drop-cons}
use Rattle.hb_caller.specs.declared.caller.Progress.{Progress}
use Rattle.hb_stepper.specs.declared.seat.Seat.{Seat}
use Rattle.hb_stepper.specs.Running.{Running, seat_is, is_seat, busy, waits, asked, askable}
use Rattle.hb_stepper.specs.Waiters.{waiters_after}
use Rattle.hb_stepper.specs.Steps.{OneStep, Made, Asked, nobody, another, IsReady}
use Rattle.hb_stepper.proofs.Seats.{set_there, set_elsewhere}
use Rattle.hb_stepper.proofs.Stepping.{made_asked}

-- ---- a step after which the session is asked again

middle : (a b c : Bool) → (a && b && c) ≡ true → b ≡ true
middle true true c h = refl
middle true false c h = h
middle false b c h = absurd (false≢true h)

asked_waits : (s : Seat) → asked s ≡ true → waits s ≡ true
asked_waits s h = middle (busy s) (waits s) (not s.held) h

asked_here : (o : Option Seat) (s : Seat) → o ≡ Some s → is_seat asked o ≡ true → asked s ≡ true
asked_here o s e h = let P : Option Seat → Type 0 = λ x. is_seat asked x ≡ true in subst P e h

-- who waits is as before, and so is who is asked
pub record Stays (old new : Running) : Type 0 where
  pub waiters : new.waiters ≡ old.waiters
  pub same : (place : ℕ) → seat_is asked new.seats place ≡ seat_is asked old.seats place

asked_same : (old : Running) (place q : ℕ) (now : Seat) → seat_is asked old.seats place ≡ true → asked now ≡ true → place < length old.seats → (q ≡ place) ⊎ (q ≢ place)
    → seat_is asked (set old.seats place now) q ≡ seat_is asked old.seats q
asked_same old place q now before after within (inl is) =
    let P : ℕ → Type 0 = λ k. seat_is asked (set old.seats place now) k ≡ seat_is asked old.seats k in
    subst P (sym is) (ap (λ (o : Option Seat). is_seat asked o) (set_there old.seats place now within) ∙ after ∙ sym before)
asked_same old place q now before after within (inr other) = ap (λ (o : Option Seat). is_seat asked o) (set_elsewhere old.seats place q now other)

pub step_stays : (old new : Running) (place : ℕ) (shows : Progress) → OneStep old new place shows → place < length old.seats → seat_is asked old.seats place ≡ true → seat_is asked new.seats place ≡ true → Stays old new
step_stays old new place shows h within before after =
    let was : waits h.was ≡ true = asked_waits h.was (asked_here (slice_get old.seats place) h.was h.there before) in
    let P : List Seat → Type 0 = λ xs. seat_is asked xs place ≡ true in
    let there : seat_is asked (set old.seats place h.now) place ≡ true = subst P h.seats after in
    let here : asked h.now ≡ true = asked_here (slice_get (set old.seats place h.now) place) h.now (set_there old.seats place h.now within) there in
    let now : waits h.now ≡ true = asked_waits h.now here in
    record {
      waiters = h.waiters ∙ ap (λ (b : Bool). waiters_after old.waiters place b (waits h.now)) was ∙ ap (λ (b : Bool). waiters_after old.waiters place true b) now;
      same = λ q. ap (λ (xs : List Seat). seat_is asked xs q) h.seats ∙ asked_same old place q h.now before here within (cases_eq q place);
    }

-- ---- the turn so far

pub record TurnAt (from : Running) (nth : ℕ) (now : Running) : Type 0 where
  pub stays : Stays from now
  pub turn : Asked from (filter (seat_is asked from.seats) (take nth from.waiters)) now

pub turn_start : (a : Running) → TurnAt a 0 a
turn_start a = record { stays = record { waiters = refl; same = λ q. refl }; turn = nobody }

turned : (a b : Running) (xs ys : List ℕ) → xs ≡ ys → Asked a xs b → Asked a ys b
turned a b xs ys e h = let P : List ℕ → Type 0 = λ zs. Asked a zs b in subst P e h

-- the places that were asked, with one more place behind them
more : (a : Running) (nth place d : ℕ) → nth < length a.waiters → place ≡ get_or a.waiters nth d
    → filter (seat_is asked a.seats) (take (nth + 1) a.waiters) ≡ filter (seat_is asked a.seats) (take nth a.waiters) ++ filter (seat_is asked a.seats) (place ∷ [])
more a nth place d within is =
    ap (λ (xs : List ℕ). filter (seat_is asked a.seats) xs) (take_more a.waiters nth d within ∙ ap (λ (k : ℕ). take nth a.waiters ++ k ∷ []) (sym is))
    ∙ filter-append (seat_is asked a.seats) (take nth a.waiters) (place ∷ [])

one_asked : (a : Running) (place : ℕ) (b : Bool) → seat_is asked a.seats place ≡ b → filter (seat_is asked a.seats) (place ∷ []) ≡ (elim b as (λ _. List ℕ) [ true ↦ place ∷ [] | false ↦ [] ])
one_asked a place true h = simp h refl
one_asked a place false h = simp h refl

pub turn_skips : (a b : Running) (nth place d : ℕ) → TurnAt a nth b → nth < length a.waiters → place ≡ get_or b.waiters nth d → seat_is asked b.seats place ≡ false → TurnAt a (nth + 1) b
turn_skips a b nth place d h within is off =
    let here : place ≡ get_or a.waiters nth d = is ∙ ap (λ (ws : List ℕ). get_or ws nth d) h.stays.waiters in
    let none = one_asked a place false (sym (h.stays.same place) ∙ off) in
    record {
      stays = h.stays;
      turn = turned a b (filter (seat_is asked a.seats) (take nth a.waiters)) (filter (seat_is asked a.seats) (take (nth + 1) a.waiters))
          (sym (more a nth place d within here ∙ ap (λ (ys : List ℕ). filter (seat_is asked a.seats) (take nth a.waiters) ++ ys) none ∙ append-nil (filter (seat_is asked a.seats) (take nth a.waiters)))) h.turn;
    }

pub turn_asks : (a b c : Running) (nth place d : ℕ) (shows : Progress) → TurnAt a nth b → nth < length a.waiters → place ≡ get_or b.waiters nth d → OneStep b c place shows → place < length b.seats
    → seat_is asked b.seats place ≡ true → seat_is asked c.seats place ≡ true → TurnAt a (nth + 1) c
turn_asks a b c nth place d shows h within is step there before after =
    let here : place ≡ get_or a.waiters nth d = is ∙ ap (λ (ws : List ℕ). get_or ws nth d) h.stays.waiters in
    let one = one_asked a place true (sym (h.stays.same place) ∙ before) in
    let on = step_stays b c place shows step there before after in
    record {
      stays = record { waiters = on.waiters ∙ h.stays.waiters; same = λ q. on.same q ∙ h.stays.same q };
      turn = turned a c (filter (seat_is asked a.seats) (take nth a.waiters) ++ place ∷ []) (filter (seat_is asked a.seats) (take (nth + 1) a.waiters))
          (sym (more a nth place d within here ∙ ap (λ (ys : List ℕ). filter (seat_is asked a.seats) (take nth a.waiters) ++ ys) one))
          (another (filter (seat_is asked a.seats) (take nth a.waiters)) b c place shows h.turn step before after);
    }

pub turn_ends : (a b : Running) (nth : ℕ) → TurnAt a nth b → length a.waiters ≤ nth → Asked a (askable a) b
turn_ends a b nth h over = turned a b (filter (seat_is asked a.seats) (take nth a.waiters)) (askable a) (ap (λ (xs : List ℕ). filter (seat_is asked a.seats) xs) (take_all nth a.waiters over)) h.turn

pub turn_ready : (a b c : Running) (nth place d : ℕ) (shows : Progress) → TurnAt a nth b → nth < length a.waiters → place ≡ get_or b.waiters nth d → OneStep b c place shows
    → seat_is asked b.seats place ≡ true → seat_is asked c.seats place ≡ false → IsReady a place c
turn_ready a b c nth place d shows h within is step before over =
    let here : place ≡ get_or a.waiters nth d = is ∙ ap (λ (ws : List ℕ). get_or ws nth d) h.stays.waiters in
    let one = one_asked a place true (sym (h.stays.same place) ∙ before) in
    let back = drop (nth + 1) a.waiters in
    let parts : a.waiters ≡ take nth a.waiters ++ (place ∷ back) =
    sym (take-append-drop nth a.waiters) ∙ ap (λ (xs : List ℕ). take nth a.waiters ++ xs) (rw add-one (drop-cons a.waiters nth d within)) ∙ ap (λ (k : ℕ). take nth a.waiters ++ (k ∷ back)) (sym here) in
    record {
      front = filter (seat_is asked a.seats) (take nth a.waiters);
      back = filter (seat_is asked a.seats) back;
      order = ap (λ (xs : List ℕ). filter (seat_is asked a.seats) xs) parts ∙ filter-append (seat_is asked a.seats) (take nth a.waiters) (place ∷ back)
          ∙ ap (λ (ys : List ℕ). filter (seat_is asked a.seats) (take nth a.waiters) ++ ys) (filter-append (seat_is asked a.seats) (place ∷ []) back ∙ ap (λ (ys : List ℕ). ys ++ filter (seat_is asked a.seats) back) one);
      mid = b;
      waiting = h.turn;
      shows = shows;
      ready = step;
      over = over;
    }

pub turn_made : (a b : Running) (nth : ℕ) → TurnAt a nth b → Made a b
turn_made a b nth h = made_asked a (filter (seat_is asked a.seats) (take nth a.waiters)) b h.turn
