-- What the coordinator's log says, where it grows by a record.
use Rattle.std.proofs.Common.{◌≡◌, ℕ, max, ◌∙◌, ap, List, [], ◌∷◌, ◌++◌, append-nil}
use Rattle.std.specs.Prelude.{fold}
use Rattle.std.proofs.lemmas.List.Elements.{filter_map-append}
use Rattle.std.proofs.lemmas.List.Sums.{fold-append}
use Rattle.hb_types.specs.declared.change.LogItem.{LogItem}
use Rattle.hb_types.specs.declared.names.NodeName.{NodeName}
use Rattle.hb_disks.specs.Redo.{Decided, upto_in}
use Rattle.hb_disks.specs.Says.{decisions, uptos}
use Rattle.hb_disks.specs.StandsFor.{greatest_upto}
use Rattle.hb_disks.proofs.Fold.{decisions-append}
use Rattle.hb_runs.specs.Coordinator.{greatest_number, ids_item, decision_item}

pub uptos-append : (l m : List LogItem) → uptos (l ++ m) ≡ uptos l ++ uptos m
uptos-append l m = filter_map-append upto_in l m

pub upto-ids : (log : List LogItem) (upto : ℕ) → greatest_upto (log ++ ids_item upto ∷ []) ≡ max (greatest_upto log) upto
upto-ids log upto = ap (fold max 0) (uptos-append log (ids_item upto ∷ [])) ∙ fold-append max 0 (uptos log) (upto ∷ [])

pub uptos-decision : (log : List LogItem) (tx n : ℕ) (nodes : List NodeName) → uptos (log ++ decision_item tx n nodes ∷ []) ≡ uptos log
uptos-decision log tx n nodes = uptos-append log (decision_item tx n nodes ∷ []) ∙ append-nil (uptos log)

pub upto-decision : (log : List LogItem) (tx n : ℕ) (nodes : List NodeName) → greatest_upto (log ++ decision_item tx n nodes ∷ []) ≡ greatest_upto log
upto-decision log tx n nodes = ap (fold max 0) (uptos-decision log tx n nodes)

pub decisions-ids : (log : List LogItem) (upto : ℕ) → decisions (log ++ ids_item upto ∷ []) ≡ decisions log
decisions-ids log upto = decisions-append log (ids_item upto ∷ []) ∙ append-nil (decisions log)

pub number-decision : (log : List LogItem) (tx n : ℕ) (nodes : List NodeName) → greatest_number (log ++ decision_item tx n nodes ∷ []) ≡ max (greatest_number log) n
number-decision log tx n nodes =
    ap (fold (λ (n : ℕ) (d : Decided). max n d.number) 0) (decisions-append log (decision_item tx n nodes ∷ []))
    ∙ fold-append (λ (n : ℕ) (d : Decided). max n d.number) 0 (decisions log) (decisions (decision_item tx n nodes ∷ []))
