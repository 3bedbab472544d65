-- Changes of the dictionary can be written.
use Rattle.std.proofs.Common.{◌≡◌, ℕ, List, [], ◌∷◌, ◌++◌, ap, sym, ◌∙◌, subst, arith}
use Rattle.hb_types.specs.declared.change.Change.{Change}
use Rattle.hb_types.specs.Lists.{Each}
use Rattle.hb_types.specs.Places.{node_of_area}
use Rattle.hb_access.specs.Accesses.{IsServer}
use Rattle.hb_definerows.specs.DefineRows.{IsDefined}
use Rattle.hb_writes.specs.Underway.{IsWrite}

pub one_write : (c : Change) → IsDefined c → IsWrite c
one_write c is = (is.0, subst (λ (n : ℕ). IsServer (node_of_area n)) (sym is.1) (omega arith, omega arith))

pub each_write : (cs : List Change) → Each IsDefined cs → Each IsWrite cs
each_write [] each = tt
each_write (c ∷ cs) each = (one_write c each.0, each_write cs each.1)

pub one_pushed : (none items : List Change) (c d : Change) → items ≡ none ++ c ∷ [] → none ≡ [] → c ≡ d → items ≡ d ∷ []
one_pushed none items c d pushed empty is = pushed ∙ ap (λ (l : List Change). l ++ c ∷ []) empty ∙ ap (λ (x : Change). x ∷ []) is
