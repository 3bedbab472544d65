use Rattle.std.proofs.Common.{ℕ, ◌∷◌, ◌++◌, List, length, map, ◌∙◌, ap, arith}
use Rattle.hb_types.specs.Lists.{joined}
use Rattle.hb_types.specs.Numbers.{eight}
use Rattle.hb_codec.specs.Spellings.{node_text}
use Rattle.hb_codec.proofs.PrepareGrammar.{short_of, nodes_of}
use Rattle.hb_codec.proofs.RecordGrammar.{nodes_text}
use Rattle.hb_codec.proofs.writing.put_body.Goals as goal

pub put_prepare-requires-clause-locks : goal.put_prepare-requires-clause-locks
put_prepare-requires-clause-locks c =
    let s = short_of c.args.item.now c.in-Prepare.tx c.in-Prepare.floor c.in-Prepare.locks c.in-Prepare.changes c.requires c.in-Prepare.is in
    omega (arith, s.few_locks, ap length c.as_slice.ensures)

pub put_prepare-requires-clause-changes : goal.put_prepare-requires-clause-changes
put_prepare-requires-clause-changes c =
    let s = short_of c.args.item.now c.in-Prepare.tx c.in-Prepare.floor c.in-Prepare.locks c.in-Prepare.changes c.requires c.in-Prepare.is in
    omega (arith, s.few_changes, ap length c.as_slice-in-Prepare.ensures)

pub put_decision-requires : goal.put_decision-requires
put_decision-requires c =
    let few = nodes_of c.args.item.now c.in-Decision.tx c.in-Decision.number c.in-Decision.nodes c.requires c.in-Decision.is in
    omega (arith, few, ap length c.as_slice-in-Decision.ensures)

pub returns-in_ok-put_decision-in-Decision : goal.returns-in_ok-put_decision-in-Decision
returns-in_ok-put_decision-in-Decision c =
    let old = c.args.out.now.items in
    let head = 4 ∷ eight c.in-Decision.tx.0 ++ eight c.in-Decision.number.0 in
    let nodes = c.in-Decision.nodes in
    rw c.in-Decision.is
    (c.in_ok-put_decision-in-Decision.ensures ∙ ap (λ ns. old ++ (head ++ (length ns ∷ joined (map node_text ns)))) c.as_slice-in-Decision.ensures ∙ ap (λ (l : List ℕ). old ++ (head ++ (length nodes ∷ l))) (nodes_text nodes))
