use Rattle.hb_requests.proofs.Reading.{scan_group_answer}
use Rattle.hb_requests.proofs.reads.scan_group.Goals as goal

pub returns-in-Ok : goal.returns-in-Ok
returns-in-Ok g c =
    scan_group_answer c.args.engine.now (g.T.Store.rows c.args.store.now) c.args.tx c.args.space c.args.group c.in-Ok.branch.now c.under.result c.rows_answer.result c.in-Ok.ensures.ok c.under.ensures c.rows_answer.ensures
