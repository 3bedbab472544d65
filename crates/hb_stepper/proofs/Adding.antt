-- Lines and names are only added.
use Rattle.std.proofs.Common.{◌≡◌, ℕ, List, [], ◌∷◌, ◌++◌, length, sym, ap, refl, ◌∙◌, inl, inr}
use Rattle.std.specs.Prelude.{Bool, Some, Result, Ok, Err}
use Rattle.std.proofs.lemmas.List.{append-nil, append_assoc, length-set}
use Rattle.hb_model.specs.declared.line.Work.{Work}
use Rattle.hb_caller.specs.declared.caller.Progress.{Progress}
use Rattle.hb_stepper.specs.declared.fault.StepFault.{StepFault}
use Rattle.hb_stepper.specs.declared.fault.StepFault.TheVariants as fault
use Rattle.hb_stepper.specs.Adding.{Adds}
use Rattle.hb_stepper.specs.Giving.{Given, NamedInPart, Refuses, given_line, reply_of}
use Rattle.hb_stepper.specs.Names.{Named}
use Rattle.hb_stepper.specs.Running.{Running}
use Rattle.hb_stepper.specs.Steps.{OneStep, Made, at_start, made, lines_of, line_of}

pub adds_same : {A : Type 0} (xs ys : List A) → ys ≡ xs → Adds xs ys
adds_same xs ys e = ([], e ∙ sym (append-nil xs))

pub adds_on : {A : Type 0} (xs ys zs : List A) → Adds xs ys → Adds ys zs → Adds xs zs
adds_on xs ys zs h k = (h.0 ++ k.0, k.1 ∙ ap (λ l. l ++ k.0) h.1 ∙ append_assoc xs h.0 k.0)

-- ---- steps

adds_step : (a b : Running) (place : ℕ) (shows : Progress) → OneStep a b place shows → Adds a.lines b.lines
adds_step a b place shows h = (lines_of place h.was.work shows, h.lines)

pub adds_made : (a b : Running) → Made a b → Adds a.lines b.lines
adds_made a b at_start = adds_same a.lines a.lines refl
adds_made a b (made mid to place shows h last) = adds_on a.lines mid.lines to.lines (adds_made a mid h) (adds_step mid to place shows last)

pub names_made : (a b : Running) → Made a b → b.names ≡ a.names
names_made a b at_start = refl
names_made a b (made mid to place shows h last) = last.names ∙ names_made a mid h

pub count_made : (a b : Running) → Made a b → length b.seats ≡ length a.seats
count_made a b at_start = refl
count_made a b (made mid to place shows h last) = ap length last.seats ∙ length-set mid.seats place last.now ∙ count_made a mid h

-- ---- names

pub adds_named : (a b : Running) (name : List ℕ) (place : ℕ) → Named a name place b → Adds a.lines b.lines
adds_named a b name place (inl h) = adds_same a.lines b.lines (ap (λ (r : Running). r.lines) h.1)
adds_named a b name place (inr h) = adds_same a.lines b.lines h.lines

pub names_named : (a b : Running) (name : List ℕ) (place : ℕ) → Named a name place b → Adds a.names b.names
names_named a b name place (inl h) = adds_same a.names b.names (ap (λ (r : Running). r.names) h.1)
names_named a b name place (inr h) = (name ∷ [], h.names)

-- ---- giving

-- of each course of giving, lines and names are added
pub record Grows (a b : Running) : Type 0 where
  pub lines : Adds a.lines b.lines
  pub names : Adds a.names b.names

pub grows_same : (a b : Running) → b ≡ a → Grows a b
grows_same a b e = record { lines = adds_same a.lines b.lines (ap (λ (r : Running). r.lines) e); names = adds_same a.names b.names (ap (λ (r : Running). r.names) e) }

pub grows_on : (a b c : Running) → Grows a b → Grows b c → Grows a c
grows_on a b c g h = record { lines = adds_on a.lines b.lines c.lines g.lines h.lines; names = adds_on a.names b.names c.names g.names h.names }

pub grows_named : (a b : Running) (name : List ℕ) (place : ℕ) → Named a name place b → Grows a b
grows_named a b name place h = record { lines = adds_named a b name place h; names = names_named a b name place h }

pub grows_made : (a b : Running) → Made a b → Grows a b
grows_made a b h = record { lines = adds_made a b h; names = adds_same a.names b.names (names_made a b h) }

grows_refused : (a b : Running) (place : ℕ) (w : Work) (f : StepFault) → Refuses a place w f b → Grows a b
grows_refused a b place w f h = record {
  lines = (line_of place (Some w) (reply_of f) ∷ [], ap (λ (r : Running). r.lines) h);
  names = adds_same a.names b.names (ap (λ (r : Running). r.names) h);
}

pub grows_part : (a b : Running) (name : List ℕ) → NamedInPart a name b → Grows a b
grows_part a b name (inl h) = grows_same a b h
grows_part a b name (inr h) = grows_named a b name h.0 h.1

pub grows_given : (a b : Running) (name : List ℕ) (w : Work) (held : Bool) (r : Result (Unit {0}) StepFault) → Given a name w held r b → Grows a b
grows_given a b name w held (Ok x) h =
    grows_on a h.1 b (grows_named a h.1 name h.0 h.2) (record {
      lines = (given_line h.0 held, ap (λ (r : Running). r.lines) h.3.1.becomes);
      names = adds_same h.1.names b.names (ap (λ (r : Running). r.names) h.3.1.becomes);
    })
grows_given a b name w held (Err fault.NoMemory) h = grows_part a b name h
grows_given a b name w held (Err fault.Full) h = grows_on a h.1 b (grows_named a h.1 name h.0 h.2) (grows_refused h.1 b h.0 w fault.Full h.3.1)
grows_given a b name w held (Err fault.Busy) h = grows_on a h.1 b (grows_named a h.1 name h.0 h.2) (grows_refused h.1 b h.0 w fault.Busy h.3.1)
grows_given a b name w held (Err fault.InTransaction) h = grows_on a h.1 b (grows_named a h.1 name h.0 h.2) (grows_refused h.1 b h.0 w fault.InTransaction h.3.1)
grows_given a b name w held (Err fault.NoTransaction) h = grows_on a h.1 b (grows_named a h.1 name h.0 h.2) (grows_refused h.1 b h.0 w fault.NoTransaction h.3.1)
