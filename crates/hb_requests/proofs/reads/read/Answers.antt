use Rattle.std.specs.Option.{option_copied}
use Rattle.hb_requests.proofs.Reading.{read_row}
use Rattle.hb_requests.proofs.reads.read.Goals as goal

pub returns-in-Ok : goal.returns-in-Ok
returns-in-Ok g c =
    read_row c.args.engine.now (g.T.Store.rows c.args.store.now) c.args.tx c.args.place.now c.in-Ok.branch.now (option_copied c.read.result) (option_copied c.row.result) c.row_answer.result
    c.in-Ok.ensures.ok c.read.ensures.seen c.row.ensures.row c.row_answer.ensures
