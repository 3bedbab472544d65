-- Trails as requests with their answers.
use Rattle.std.proofs.Common.{◌≡◌, List, [], ◌∷◌, ◌++◌, refl, ap}
use Rattle.hb_types.specs.declared.trail.TrailEntry.{TrailEntry}
use Rattle.hb_runs.specs.ServerRuns.{Asked}
use Rattle.hb_node.specs.Laws.{asked_in, asked_of}

pub asked-append : (trail : List TrailEntry) (e : TrailEntry) → asked_of (trail ++ e ∷ []) ≡ asked_of trail ++ asked_in e ∷ []
asked-append [] e = refl
asked-append (x ∷ xs) e = ap (λ (l : List Asked). asked_in x ∷ l) (asked-append xs e)
