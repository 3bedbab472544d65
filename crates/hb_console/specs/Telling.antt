-- The line of a system that isn't opened.
use Rattle.std.specs.Prelude.{◌≡◌, ◌⊎◌, ℕ, List, [], Option, Some, None, Result, Ok, Err}
use Rattle.hb_edge.specs.Causes.{Rose}
use Rattle.hb_edge.specs.Streams.{with_end}
use Rattle.hb_model.specs.declared.line.Line.{Line}
use Rattle.hb_print.specs.Texts.{text_of}
use Rattle.hb_acts.specs.declared.stop.Stop.{Stop}
use Rattle.hb_acts.specs.declared.stop.Stop.TheVariants.{Source, Sink, Memory, Line as Long}
use Rattle.hb_acts.specs.Putting.{PutsFront}

-- The line was put, or a front of it where the sink failed, and the status stays; or memory was wanting, nothing was put, and the
-- status is that of want of memory.
abbrev pub TellsLine : List ℕ → Option (List ℕ) → Option (List ℕ) → ℕ → ℕ → ℕ → ℕ → Type 0
TellsLine text held now was is status result = ((result ≡ status) × PutsFront held now text × ((now ≡ with_end text held) ⊎ Rose was is)) ⊎ ((result ≡ 7) × (now ≡ held))

-- where there is no line, nothing is done
abbrev pub Tells : Option Line → Option (List ℕ) → Option (List ℕ) → ℕ → ℕ → ℕ → ℕ → Type 0
Tells None held now was is status result = (result ≡ status) × (now ≡ held)
Tells (Some line) held now was is status result = TellsLine (text_of [] line) held now was is status result

-- the status behind a put
abbrev pub behind : Result (Unit {0}) Stop → ℕ → ℕ
behind (Ok x) status = status
behind (Err Source) status = status
behind (Err Sink) status = status
behind (Err Memory) status = 7
behind (Err Long) status = status
