-- What giving makes of a run.
use Rattle.std.proofs.Common.{◌≡◌, ℕ, Bool, true, false, not, ◌&&◌, List, sym, ap, subst, refl, ◌∙◌, inr}
use Rattle.std.specs.Prelude.{Option, Some, None, Result, Ok, Err, OnOk, OnErr, IfErr, if◌then◌else◌, slice_get}
use Rattle.std.proofs.lemmas.Bool.{false≢true}
use Rattle.hb_model.specs.declared.line.Line.{Line}
use Rattle.hb_model.specs.declared.line.Work.{Work}
use Rattle.hb_model.specs.declared.line.Work.TheVariants as work
use Rattle.hb_caller.specs.Calling.{in_transaction}
use Rattle.hb_stepper.specs.declared.fault.StepFault.{StepFault}
use Rattle.hb_stepper.specs.declared.fault.StepFault.TheVariants as fault
use Rattle.hb_stepper.specs.declared.seat.Seat.{Seat}
use Rattle.hb_stepper.specs.Giving.{is_end, work_refusal, refusal_of, refusal, Refuses, Starts, GivenAt, Given}
use Rattle.hb_stepper.specs.Names.{Named}
use Rattle.hb_stepper.specs.Running.{Running, busy}

-- ---- no refusal is want of memory

abbrev want : Option StepFault → Bool
want (Some fault.NoMemory) = true
want _ = false

never_end : (b : Bool) → want (if b then Some fault.NoTransaction else None) ≡ false
never_end true = refl
never_end false = refl

never_inside : (b : Bool) → want (if b then Some fault.InTransaction else None) ≡ false
never_inside true = refl
never_inside false = refl

never_work : (w : Work) (inside : Bool) → want (work_refusal w inside) ≡ false
never_work (work.Sql st) inside = never_end (is_end st && not inside)
never_work (work.Rebalance table rows turns) inside = never_inside inside

never_busy : (b : Bool) (o : Option StepFault) → want o ≡ false → want (if b then Some fault.Busy else o) ≡ false
never_busy true o h = refl
never_busy false o h = h

never_of : (o : Option Seat) (w : Work) → want (refusal_of o w) ≡ false
never_of None w = refl
never_of (Some s) w = never_busy (busy s) (work_refusal w (in_transaction s.caller)) (never_work w (in_transaction s.caller))

-- ---- giving

-- a refusal that was shown
pub refused_at : (mid new : Running) (place : ℕ) (w : Work) (held : Bool) (f : StepFault) → refusal mid.seats place w ≡ Some f
    → Refuses mid place w f new → GivenAt mid place w held (Err f) new
refused_at mid new place w held fault.Full h r = (h, r)
refused_at mid new place w held fault.Busy h r = (h, r)
refused_at mid new place w held fault.InTransaction h r = (h, r)
refused_at mid new place w held fault.NoTransaction h r = (h, r)
refused_at mid new place w held fault.NoMemory h r = absurd (false≢true (sym (never_of (slice_get mid.seats place) w) ∙ ap want h))

-- the name got its place first
pub given_named : (old mid new : Running) (name : List ℕ) (place : ℕ) (w : Work) (held : Bool) (r : Result (Unit {0}) StepFault)
    → Named old name place mid → GivenAt mid place w held r new → Given old name w held r new
given_named old mid new name place w held (Ok x) n g = (place, mid, n, g)
given_named old mid new name place w held (Err fault.Full) n g = (place, mid, n, g)
given_named old mid new name place w held (Err fault.Busy) n g = (place, mid, n, g)
given_named old mid new name place w held (Err fault.InTransaction) n g = (place, mid, n, g)
given_named old mid new name place w held (Err fault.NoTransaction) n g = (place, mid, n, g)
given_named old mid new name place w held (Err fault.NoMemory) n g =
    let P : Running → Type 0 = λ r. Named old name place r in inr (place, subst P (sym g) n)

-- room for a line changes no line
pub named_lines : (old mid : Running) (name : List ℕ) (place : ℕ) (ls : List Line) → ls ≡ mid.lines → Named old name place mid → Named old name place (record mid { lines = ls })
named_lines old mid name place ls e h = let P : List Line → Type 0 = λ x. Named old name place (record mid { lines = x }) in subst P (sym e) h

pub map_ok : {T E : Type 0} (r : Result T E) (A B : Type 0) → (A → B) → OnOk r A → OnOk r B
map_ok (Ok x) A B f h = f h
map_ok (Err e) A B f h = tt

pub map_err : {T E : Type 0} (r : Result T E) (A B : Type 0) → (A → B) → OnErr r A → OnErr r B
map_err (Ok x) A B f h = tt
map_err (Err e) A B f h = f h

-- what was started
pub started_at : (mid new : Running) (place : ℕ) (w : Work) (held : Bool) (r : Result (Unit {0}) StepFault) → refusal mid.seats place w ≡ None
    → OnOk r (Starts mid place w held new) → IfErr r (λ e. e ≡ fault.NoMemory) → OnErr r (new ≡ mid) → GivenAt mid place w held r new
started_at mid new place w held (Ok x) h s n k = (h, s)
started_at mid new place w held (Err f) h s n k = let P : StepFault → Type 0 = λ e. GivenAt mid place w held (Err e) new in subst P (sym n) k
