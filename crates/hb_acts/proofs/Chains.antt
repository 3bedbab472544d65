-- Chains of acts, one behind another.
use Rattle.std.proofs.Common.{◌≡◌, ◌⊎◌, inl, inr, ◌+◌, ℕ, List, [], ◌∷◌, ◌++◌, length, drop, refl, sym, ◌∙◌, ap, subst, append_assoc, arith}
use Rattle.std.specs.List.{flat_map}
use Rattle.std.specs.declared.option.Option.{Option}
use Rattle.std.proofs.lemmas.List.{append-nil}
use Rattle.hb_edge.specs.Streams.{with_end}
use Rattle.hb_model.specs.declared.line.Line.{Line}
use Rattle.hb_lines.specs.declared.said.Said.{Said}
use Rattle.hb_print.specs.Texts.{text_of}
use Rattle.hb_stepper.specs.Adding.{Adds}
use Rattle.hb_stepper.specs.Running.{Running}
use Rattle.hb_acts.specs.Acts.{Act, does, resumes, closes, ends, Acts, Chain, no_act, one_more, Prints, Reached, Halted, IsWithinAct}
use Rattle.hb_acts.specs.Putting.{IsFront, PutsFront}
use Rattle.hb_acts.specs.Runs.{line_acts, script_acts}
use Rattle.hb_acts.proofs.PutTexts.{all_behind, puts_all, puts_before, puts_behind, puts_nothing}

pub chain_then : (from mid : Running) (first : List Act) (text : List ℕ) → Chain from first text mid → (more : List Act) (shown : List ℕ) (to : Running) → Chain mid more shown to → Chain from (first ++ more) (text ++ shown) to
chain_then from mid first text a more shown to no_act =
    subst (λ (xs : List Act). Chain from xs (text ++ []) mid) (sym (append-nil first)) (subst (λ (t : List ℕ). Chain from first t mid) (sym (append-nil text)) a)
chain_then from mid first text a more shown to (one_more acts before last m new act chain step) =
    let whole : Chain from ((first ++ acts) ++ act ∷ []) ((text ++ before) ++ last) new = one_more (first ++ acts) (text ++ before) last m new act (chain_then from mid first text a acts before m chain) step in
    subst (λ (xs : List Act). Chain from xs (text ++ (before ++ last)) new) (append_assoc first acts (act ∷ []))
    (subst (λ (t : List ℕ). Chain from ((first ++ acts) ++ act ∷ []) t new) (append_assoc text before last) whole)

front_behind : {X : Type 0} (first front whole : List X) → IsFront front whole → IsFront (first ++ front) (first ++ whole)
front_behind {X} first front whole is = (is.0, ap (λ (l : List X). first ++ l) is.1 ∙ sym (append_assoc first front is.0))

front_before : {X : Type 0} (front whole more : List X) → IsFront front whole → IsFront front (whole ++ more)
front_before {X} front whole more is = (is.0 ++ more, ap (λ (l : List X). l ++ more) is.1 ∙ append_assoc front is.0 more)

-- ---- runs of acts

pub reached_none : (from : Running) (held now : Option (List ℕ)) → now ≡ with_end [] held → Reached from [] held from now
reached_none from held now same = record { text = []; chain = no_act; gained = same }

pub reached_act : (from to : Running) (act : Act) (text : List ℕ) (held now : Option (List ℕ)) → Acts act from text to → now ≡ with_end text held → Reached from (act ∷ []) held to now
reached_act from to act text held now acts all = record { text = text; chain = one_more [] [] text from to act no_act acts; gained = all }

-- nothing was put, within the first act
pub halted_none : (from end : Running) (act : Act) (more : List Act) (held now : Option (List ℕ)) → now ≡ held → IsWithinAct from end → Halted from (act ∷ more) held end now
halted_none from end act more held now same within =
    record { done = []; first = (act ∷ more, refl); to = from; text = []; chain = no_act; puts = puts_nothing held now [] same; stands = inr (act, (more, refl), within) }

pub halted_act : (from to : Running) (act : Act) (text : List ℕ) (held now : Option (List ℕ)) → Acts act from text to → PutsFront held now text → Halted from (act ∷ []) held to now
halted_act from to act text held now acts puts = record { done = act ∷ []; first = ([], refl); to = to; text = text; chain = one_more [] [] text from to act no_act acts; puts = puts; stands = inl refl }

pub reached_then : (from mid to : Running) (first more : List Act) (held now later : Option (List ℕ)) → Reached from first held mid now → Reached mid more now to later → Reached from (first ++ more) held to later
reached_then from mid to first more held now later a b = record {
  text = a.text ++ b.text;
  chain = chain_then from mid first a.text a.chain more b.text to b.chain;
  gained = all_behind held now later a.text b.text a.gained b.gained;
}

stands_behind : (first done acts : List Act) (to end : Running) → (end ≡ to) ⊎ ((act : Act) × IsFront (done ++ act ∷ []) acts × IsWithinAct to end)
    → (end ≡ to) ⊎ ((act : Act) × IsFront ((first ++ done) ++ act ∷ []) (first ++ acts) × IsWithinAct to end)
stands_behind first done acts to end (inl same) = inl same
stands_behind first done acts to end (inr (act, front, within)) =
    inr (act, subst (λ (l : List Act). IsFront l (first ++ acts)) (sym (append_assoc first done (act ∷ []))) (front_behind first (done ++ act ∷ []) acts front), within)

stands_before : (done acts more : List Act) (to end : Running) → (end ≡ to) ⊎ ((act : Act) × IsFront (done ++ act ∷ []) acts × IsWithinAct to end)
    → (end ≡ to) ⊎ ((act : Act) × IsFront (done ++ act ∷ []) (acts ++ more) × IsWithinAct to end)
stands_before done acts more to end (inl same) = inl same
stands_before done acts more to end (inr (act, front, within)) = inr (act, front_before (done ++ act ∷ []) acts more front, within)

pub halted_then : (from mid end : Running) (first more : List Act) (held now later : Option (List ℕ)) → Reached from first held mid now → Halted mid more now end later → Halted from (first ++ more) held end later
halted_then from mid end first more held now later a b = record {
  done = first ++ b.done;
  first = front_behind first b.done more b.first;
  to = b.to;
  text = a.text ++ b.text;
  chain = chain_then from mid first a.text a.chain b.done b.text b.to b.chain;
  puts = puts_behind held now later a.text b.text a.gained b.puts;
  stands = stands_behind first b.done more b.to end b.stands;
}

pub halted_before : (from end : Running) (first more : List Act) (held now : Option (List ℕ)) → Halted from first held end now → Halted from (first ++ more) held end now
halted_before from end first more held now a =
    record { done = a.done; first = front_before a.done first more a.first; to = a.to; text = a.text; chain = a.chain; puts = a.puts; stands = stands_before a.done first more a.to end a.stands }

-- where a run came to, it also halted
pub halted_reached : (from to : Running) (acts : List Act) (held now : Option (List ℕ)) → Reached from acts held to now → Halted from acts held to now
halted_reached from to acts held now a = record { done = acts; first = ([], sym (append-nil acts)); to = to; text = a.text; chain = a.chain; puts = puts_all held now a.text a.gained; stands = inl refl }

-- ---- the acts of lines

pub line_acts-append : (number next : ℕ) (saids more : List Said) → next ≡ number + length saids → line_acts number (saids ++ more) ≡ line_acts number saids ++ line_acts next more
line_acts-append number next [] more is = let same : number ≡ next = omega arith in ap (λ (n : ℕ). line_acts n more) same
line_acts-append number next (said ∷ saids) more is = ap (λ (l : List Act). does number said ∷ resumes ∷ l) (line_acts-append (number + 1) next saids more (omega arith))

-- ---- lines that were added

drop_added : (old added : List Line) → drop (length old) (old ++ added) ≡ added
drop_added [] added = refl
drop_added (l ∷ old) added = drop_added old added

pub prints_since : (old new : Running) (place : ℕ) → place ≡ length old.lines → Adds old.lines new.lines → Prints old new (flat_map (text_of new.names) (drop place new.lines))
prints_since old new place is adds = record {
  added = adds.0;
  lines = adds.1;
  text_is = ap (flat_map (text_of new.names)) (ap (λ (n : ℕ). drop n new.lines) is ∙ ap (drop (length old.lines)) adds.1 ∙ drop_added old.lines adds.0);
}
