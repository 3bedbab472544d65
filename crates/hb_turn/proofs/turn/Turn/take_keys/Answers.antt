use Rattle.std.proofs.Common.{◌≡◌, subst}
use Rattle.hb_turn.proofs.Calls.{is_task, takes_own}
use Rattle.hb_turn.proofs.Keeping.{kept, own}
use Rattle.hb_turn.proofs.turn.Turn.take_keys.Goals as goal

pub begin_next-requires : goal.begin_next-requires
begin_next-requires c =
    let told = own c.args.hint.group c.as_slice.result.now c.in-Ok-Some.own c.in-Ok-Some.field-0 c.in-Ok-Some.field-0-is c.in-Ok-Some.ensures in
    is_task c.args.hint c.in-Ok-Some.own c.task_of.result c.task_of.ensures c.requires.sited told.0

pub returns-in-Ok-Some : goal.returns-in-Ok-Some
returns-in-Ok-Some c =
    let ks = c.in-Ok-Some.own in
    let told = own c.args.hint.group c.as_slice.result.now ks c.in-Ok-Some.field-0 c.in-Ok-Some.field-0-is c.in-Ok-Some.ensures in
    takes_own c.args.self.now c.begin_next.new.self c.args.hint c.args.keys ks c.task_of.result
    (subst (λ xs. ks ≡ kept c.args.hint.group xs) c.as_slice.ensures told.1) c.task_of.ensures c.begin_next.ensures
