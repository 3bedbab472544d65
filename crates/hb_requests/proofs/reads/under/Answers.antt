use Rattle.std.proofs.Common.{◌∙◌, sym}
use Rattle.hb_requests.proofs.Reading.{empty_list, none_changed}
use Rattle.hb_requests.proofs.reads.under.Goals as goal

pub returns-then-is_empty : goal.returns-then-is_empty
returns-then-is_empty g c =
    λ own n a. c.in_ok-base.ensures.rows ∙ none_changed c.args.path.now (g.T.Store.rows c.args.store.now) own a (sym n ∙ sym c.changes.ensures.all ∙ empty_list c.changes.result.now (sym c.is_empty.ensures ∙ c.if-is_empty.true))
