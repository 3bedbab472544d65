use Rattle.std.proofs.Common.{ℕ, List, map, ap, sym, ◌∙◌}
use Rattle.hb_types.specs.declared.change.Change.{Change}
use Rattle.hb_model.specs.declared.reply.Reply.TheVariants as reply
use Rattle.hb_model.specs.Define.{new_spread}
use Rattle.hb_model.specs.Spots.{members_space, entries_space}
use Rattle.hb_talk.specs.Talk.{◌>>◌, pure}
use Rattle.hb_talk.specs.Plans.{writes}
use Rattle.hb_talk.specs.PlansDefine.{lock_group, new_rows, put_row}
use Rattle.hb_access.specs.declared.usage.Usage.{Usage}
use Rattle.hb_access.specs.Accesses.{use_of}
use Rattle.hb_definerows.specs.DefineRows.{state_told}
use Rattle.hb_definerows.specs.Drafts.{table_of_draft}
use Rattle.hb_plandefine.specs.Defines.{follows}
use Rattle.hb_plandefine.specs.declared.stage.Then.TheVariants as then
use Rattle.hb_plandefine.proofs.Asking.{asks_lock}
use Rattle.hb_plandefine.proofs.Written.{each_write}
use Rattle.hb_plandefine.proofs.create_table.lock_members.Goals as goal

pub returns-clause-goes : goal.returns-clause-goes
returns-clause-goes c =
    let d = c.args.draft in
    let u = use_of c.args.usage in
    let spread = new_spread (state_told c.args.tables.now c.args.areas.now) d.name d.areas in
    let n = c.new_number-number.result in
    let out = writes (map put_row (new_rows (table_of_draft d) spread)) >> pure reply.Created in
    ap (λ (k : ℕ). (lock_group members_space k >> (lock_group entries_space k >> out)) u) (sym c.new_number-number.ensures.number)
    ∙ asks_lock 3 n (lock_group entries_space n >> out) (follows (then.LockEntries n c.in_ok-changes.changes))
    (λ v. ap (λ (cs : List Change). (lock_group entries_space n >> (writes cs >> pure reply.Created)) v) (sym c.in_ok-changes.ensures.changes)) _ u _ c.group_of.ensures c.lock-access.ensures.talk

pub returns-clause-ready : goal.returns-clause-ready
returns-clause-ready c =
    let usage = c.lock-access.ensures.usage in
    (c.lock-access.ensures.asking, ap (λ (u : Usage). u.tx.0) usage, each_write _ (c.in_ok-changes.ensures.sound tt), ap (λ (u : Usage). u.used.0) usage)
