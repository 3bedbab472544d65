-- What a log says of transactions, where it grows by a record.
use Rattle.std.proofs.Common.{◌≡◌, ◌≢◌, ⊎_elim, ℕ, max, sym, ◌∙◌, ap, subst, inl, List, [], ◌∷◌, ◌++◌, append-nil}
use Rattle.std.specs.Prelude.{fold, Some, None}
use Rattle.std.specs.Ordering.{nat_cmp}
use Rattle.std.specs.BTreeMap.{BTreeMap, get, Updates}
use Rattle.std.proofs.lemmas.Bool.{cases_eq}
use Rattle.std.proofs.lemmas.List.Elements.{filter_map-append}
use Rattle.std.proofs.lemmas.List.Sums.{fold-append}
use Rattle.hb_types.specs.declared.change.LogItem.{LogItem}
use Rattle.hb_types.specs.declared.names.NodeName.{NodeName}
use Rattle.hb_types.specs.Lists.{Each, Has}
use Rattle.hb_types.proofs.Ascending.{Each-append, Has-front, Has-back}
use Rattle.hb_disks.specs.Redo.{Decided, upto_in}
use Rattle.hb_disks.specs.Says.{decisions, uptos}
use Rattle.hb_disks.specs.StandsFor.{greatest_upto}
use Rattle.hb_disks.proofs.Fold.{decisions-append}
use Rattle.hb_runs.specs.Coordinator.{greatest_number, ids_item, decision_item}
use Rattle.hb_types.specs.Numbers.{IsNumber}
use Rattle.hb_coord.specs.Numbers.{HasNumbers}
use Rattle.hb_coord.specs.Memory.{Knows, number_of}
use Rattle.hb_coord.specs.declared.kept.Recorded.{Recorded}
use Rattle.hb_coord.proofs.Maps.{got_same, got_other}

uptos-append : (l m : List LogItem) → uptos (l ++ m) ≡ uptos l ++ uptos m
uptos-append l m = filter_map-append upto_in l m

pub upto-ids : (log : List LogItem) (upto : ℕ) → greatest_upto (log ++ ids_item upto ∷ []) ≡ max (greatest_upto log) upto
upto-ids log upto = ap (fold max 0) (uptos-append log (ids_item upto ∷ [])) ∙ fold-append max 0 (uptos log) (upto ∷ [])

pub upto-decision : (log : List LogItem) (tx n : ℕ) (nodes : List NodeName) → greatest_upto (log ++ decision_item tx n nodes ∷ []) ≡ greatest_upto log
upto-decision log tx n nodes = ap (fold max 0) (uptos-append log (decision_item tx n nodes ∷ []) ∙ append-nil (uptos log))

pub decisions-ids : (log : List LogItem) (upto : ℕ) → decisions (log ++ ids_item upto ∷ []) ≡ decisions log
decisions-ids log upto = decisions-append log (ids_item upto ∷ []) ∙ append-nil (decisions log)

pub number-ids : (log : List LogItem) (upto : ℕ) → greatest_number (log ++ ids_item upto ∷ []) ≡ greatest_number log
number-ids log upto = ap (fold (λ (n : ℕ) (d : Decided). max n d.number) 0) (decisions-ids log upto)

pub number-decision : (log : List LogItem) (tx n : ℕ) (nodes : List NodeName) → greatest_number (log ++ decision_item tx n nodes ∷ []) ≡ max (greatest_number log) n
number-decision log tx n nodes =
    ap (fold (λ (n : ℕ) (d : Decided). max n d.number) 0) (decisions-append log (decision_item tx n nodes ∷ []))
    ∙ fold-append (λ (n : ℕ) (d : Decided). max n d.number) 0 (decisions log) (decisions (decision_item tx n nodes ∷ []))

pub knows_ids : (log : List LogItem) (old new : Recorded) (upto : ℕ) → Knows log old → new.reserved ≡ max old.reserved upto → new.number ≡ old.number → new.decided ≡ old.decided
    → Knows (log ++ ids_item upto ∷ []) new
knows_ids log old new upto knows reserved number decided = record {
  reserved = reserved ∙ ap (λ n. max n upto) knows.reserved ∙ sym (upto-ids log upto);
  number = number ∙ knows.number ∙ sym (number-ids log upto);
  decided = λ tx n got. subst (Has (λ (d : Decided). (d.tx ≡ tx) × (d.number ≡ n))) (sym (decisions-ids log upto)) (knows.decided tx n (ap (λ (m : BTreeMap ℕ ℕ). get nat_cmp m tx) (sym decided) ∙ got));
  undecided = λ tx none. subst (Each (λ (d : Decided). d.tx ≢ tx)) (sym (decisions-ids log upto)) (knows.undecided tx (ap (λ (m : BTreeMap ℕ ℕ). get nat_cmp m tx) (sym decided) ∙ none));
}

-- a number within its limits more
pub numbers_more : (old new : BTreeMap ℕ ℕ) (tx n : ℕ) → HasNumbers old → IsNumber n → Updates nat_cmp old new tx (Some n) → HasNumbers new
numbers_more old new tx n are is updates = λ t m got. ⊎_elim
    (λ e. let both : Some n ≡ Some m = sym (subst (λ q. get nat_cmp new q ≡ Some n) e (got_same old new tx n updates)) ∙ got in
    let same : n ≡ m = cc in subst IsNumber same is)
    (λ ne. are t m (sym (got_other old new tx t n ne updates) ∙ got))
    (cases_eq tx t)

pub knows_decision : (log : List LogItem) (old new : Recorded) (tx n : ℕ) (nodes : List NodeName) → Knows log old → new.reserved ≡ old.reserved → new.number ≡ max old.number n → Updates nat_cmp old.decided new.decided tx (Some n)
    → Knows (log ++ decision_item tx n nodes ∷ []) new
knows_decision log old new tx n nodes knows reserved number updates = record {
  reserved = reserved ∙ knows.reserved ∙ sym (upto-decision log tx n nodes);
  number = number ∙ ap (λ m. max m n) knows.number ∙ sym (number-decision log tx n nodes);
  decided = λ t m got. subst (Has (λ (d : Decided). (d.tx ≡ t) × (d.number ≡ m))) (sym (decisions-append log (decision_item tx n nodes ∷ []))) (⊎_elim (λ e. now t m e got) (λ ne. before t m ne got) (cases_eq tx t));
  undecided = λ t none. subst (Each (λ (d : Decided). d.tx ≢ t)) (sym (decisions-append log (decision_item tx n nodes ∷ []))) (⊎_elim (λ e. absurd (never t e none)) (λ ne. Each-append _ (decisions log) (decisions (decision_item tx n nodes ∷ [])) (knows.undecided t (sym (got_other old.decided new.decided tx t n ne updates) ∙ none)) (ne, tt)) (cases_eq tx t));
}
  where
    now : (t m : ℕ) → tx ≡ t → number_of new t ≡ Some m → Has (λ (d : Decided). (d.tx ≡ t) × (d.number ≡ m)) (decisions log ++ decisions (decision_item tx n nodes ∷ []))
    now t m e got =
        let here : number_of new t ≡ Some n = subst (λ q. number_of new q ≡ Some n) e (got_same old.decided new.decided tx n updates) in
        let both : Some n ≡ Some m = sym here ∙ got in
        let is : n ≡ m = cc in
        Has-back _ (decisions log) (decisions (decision_item tx n nodes ∷ [])) (inl (e, is))

    before : (t m : ℕ) → tx ≢ t → number_of new t ≡ Some m → Has (λ (d : Decided). (d.tx ≡ t) × (d.number ≡ m)) (decisions log ++ decisions (decision_item tx n nodes ∷ []))
    before t m ne got = Has-front _ (decisions log) (decisions (decision_item tx n nodes ∷ [])) (knows.decided t m (sym (got_other old.decided new.decided tx t n ne updates) ∙ got))

    never : (t : ℕ) → tx ≡ t → number_of new t ≡ None → ⊥
    never t e none =
        let here : number_of new t ≡ Some n = subst (λ q. number_of new q ≡ Some n) e (got_same old.decided new.decided tx n updates) in
        let both : Some n ≡ None = sym here ∙ none in
        cc
