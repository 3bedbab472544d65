-- What the coordinator knows, along the effects of a request.
use Rattle.std.proofs.Common.{◌≡◌, ℕ, ◌+◌, sym, ◌∙◌, ap, subst, true, false, List}
use Rattle.std.specs.Ordering.{nat_cmp}
use Rattle.std.specs.BTreeSet.{BTreeSet, contains, Updates as UpdatesSet}
use Rattle.hb_types.specs.declared.change.LogItem.{LogItem}
use Rattle.hb_runs.specs.Coordinator.{CState, happens, begun, ended}
use Rattle.hb_coord.specs.Memory.{Knows, Reflects}
use Rattle.hb_coord.specs.declared.kept.Ledger.{Ledger}
use Rattle.hb_coord.proofs.Maps.{has_more, has_less}

pub reflects_begun : (k : CState) (old new : Ledger) → Reflects k old → new.recorded ≡ old.recorded → new.next ≡ old.next + 1 → UpdatesSet nat_cmp old.active new.active old.next true → Reflects (happens k (begun old.next)) new
reflects_begun k old new r recorded next updates = record {
  knows = subst (Knows k.log) (sym recorded) r.knows;
  next = next;
  active = has_more old.active new.active old.next k.active r.active updates;
}

pub reflects_ended : (k : CState) (old new : Ledger) (tx : ℕ) → Reflects k old → new.recorded ≡ old.recorded → new.next ≡ old.next → UpdatesSet nat_cmp old.active new.active tx false → Reflects (happens k (ended tx)) new
reflects_ended k old new tx r recorded next updates = record {
  knows = subst (Knows k.log) (sym recorded) r.knows;
  next = next ∙ r.next;
  active = has_less old.active new.active tx k.active r.active updates;
}

-- with another log
pub reflects_log : (k : CState) (log : List LogItem) (old new : Ledger) → Reflects k old → Knows log new.recorded → new.next ≡ old.next → new.active ≡ old.active → Reflects (record k { log = log }) new
reflects_log k log old new r knows next active = record {
  knows = knows;
  next = next ∙ r.next;
  active = λ tx. ap (λ (s : BTreeSet ℕ). contains nat_cmp s tx) active ∙ r.active tx;
}
