-- Lists that only grow, and nodes that go on.
use Rattle.std.proofs.Common.{List, [], ◌++◌, sym, ap, ◌∙◌, append_assoc}
use Rattle.std.proofs.lemmas.List.{append-nil}
use Rattle.hb_node.specs.Lists.{Onward, here}
use Rattle.hb_stepper.specs.Adding.{Adds}

pub adds_nothing : {A : Type 0} (xs : List A) → Adds xs xs
adds_nothing xs = ([], sym (append-nil xs))

pub adds_on : {A : Type 0} (xs ys zs : List A) → Adds xs ys → Adds ys zs → Adds xs zs
adds_on xs ys zs first second = (first.0 ++ second.0, second.1 ∙ ap (λ l. l ++ second.0) first.1 ∙ append_assoc xs first.0 second.0)

pub stays : {N : Type 0} (goes : N → N → Type 0) (n : N) → Onward goes n n
stays goes n = here
