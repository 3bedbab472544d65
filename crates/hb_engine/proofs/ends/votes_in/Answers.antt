use Rattle.std.proofs.Common.{◌∙◌, rules}
use Rattle.std.proofs.lemmas.Iterator.Consumers.{count_from_yields_List, YieldsList-from_filter, YieldsList-from_rest, YieldsList-at}
use Rattle.std.proofs.lemmas.List.Sums.{length-filter}
use Rattle.std.specs.BTreeMap.{values}
use Rattle.std.specs.Option.{is_some}
use Rattle.hb_engine.specs.declared.slot.Slot.{Slot}
use Rattle.hb_engine.proofs.ends.votes_in.Goals as goal

pub returns-clause-count : goal.returns-clause-count
returns-clause-count c =
    count_from_yields_List c.filter.result c.count.result c.count.ensures.ran
    (YieldsList-from_filter _ (λ (slot : Slot). is_some slot.vote) (YieldsList-at c.filter.ensures.source (YieldsList-from_rest (values c.args.slots.now) c.values.ensures.rest)) c.filter.ensures.closure (λ x r q k. search rules))
    ∙ length-filter (λ (slot : Slot). is_some slot.vote) (values c.args.slots.now)
