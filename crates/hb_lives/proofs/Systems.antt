-- Calls are as a system answers them, by lists that only grow.
use Rattle.std.proofs.Common.{◌≡◌, ◌∙◌, ℕ, List, [], ◌∷◌, ◌++◌, append-nil, ap, inl, inr, refl, subst, sym}
use Rattle.std.proofs.lemmas.List.{append_assoc}
use Rattle.std.specs.Prelude.{replicate}
use Rattle.std.proofs.lemmas.Bool.Decides.{eqb_tells}
use Rattle.hb_types.specs.declared.answer.Answer.{Answer}
use Rattle.hb_types.specs.declared.answer.Answer.TheVariants as answer
use Rattle.hb_types.specs.declared.request.Request.{Request}
use Rattle.hb_types.specs.declared.trail.Call.{Call}
use Rattle.hb_types.proofs.Ascending.{Each-front}
use Rattle.hb_runs.specs.Kinds.{IsOfNode}
use Rattle.hb_runs.specs.ServerRuns.{Asked}
use Rattle.hb_node.specs.Lists.{AreOfNode, Grows, Lists, OneMore, Stays, asked}
use Rattle.hb_node.proofs.AnswerKinds.{call_kind}
use Rattle.hb_lives.specs.Systems.{AddedAreOfSystem, Adds, Longer, asks, others, stays}

abbrev LongerBy : List Asked → List Asked → Type 0
LongerBy old new = (more : List Asked) × (new ≡ old ++ more)

same_list : (old new : List Asked) → new ≡ old → LongerBy old new
same_list old new e = ([], e ∙ sym (append-nil old))

grows : (old new : List Asked) (q : Request) (a : Answer) → Grows old new q a → LongerBy old new
grows old new q a (inl g) = (replicate g.0 (asked q answer.NotMine) ++ asked q a ∷ [], g.1 ∙ append_assoc old (replicate g.0 (asked q answer.NotMine)) (asked q a ∷ []))
grows old new q a (inr g) = same_list old new g.1

stayed : (name : ℕ) (old new : List Asked) → Stays name old new → LongerBy old new
stayed name old new (inl e) = same_list old new e
stayed name old new (inr h) = (_, h.3)

one_longer : (before mid : Lists) (node : ℕ) (q : Request) (a : Answer) → OneMore before mid node q a → Longer before mid
one_longer before mid node q a o name = elim (eqb_tells name node) [
  | inl same ↦ subst (λ n. LongerBy (before n) (mid n)) (sym same.1) (grows (before node) (mid node) q a o.asked_one)
  | inr other ↦ stayed name (before name) (mid name) (o.others name other.1)
]

longer_on : (before mid after : Lists) → Longer before mid → Longer mid after → Longer before after
longer_on before mid after f g name =
    let x = f name in
    let y = g name in
    (x.0 ++ y.0, y.1 ∙ ap (λ l. l ++ y.0) x.1 ∙ append_assoc (before name) x.0 y.0)

grown : (before after : Lists) (cs : List Call) → Adds before cs after → Longer before after
grown before _ _ stays = λ name. same_list (before name) (before name) refl
grown before after _ (asks {mid = mid} {cs = cs} c o more) = longer_on before mid after (one_longer before mid c.node.0 c.request c.answer o) (grown mid after cs more)
grown before after cs (others {mid = mid} l more) = longer_on before mid after l (grown mid after cs more)

-- of a list's front as of the list
of_front : (node : ℕ) (mid after : Lists) → Longer mid after → AreOfNode node (after node) → AreOfNode node (mid node)
of_front node mid after l each =
    let x = l node in
    Each-front (λ (y : Asked). IsOfNode node y.request y.answer) (mid node) x.0 (subst (AreOfNode node) x.1 each)

pub added_of_system : AddedAreOfSystem
added_of_system before _ _ stays each = tt
added_of_system before after _ (asks {mid = mid} {cs = cs} c o more) each =
    (call_kind before mid c.node.0 c.request c.answer o (of_front c.node.0 mid after (grown mid after cs more) each.0), added_of_system mid after cs more each.1)
added_of_system before after cs (others {mid = mid} l more) each = added_of_system mid after cs more each
