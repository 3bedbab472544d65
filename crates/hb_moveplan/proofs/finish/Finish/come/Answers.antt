use Rattle.hb_moveplan.specs.declared.finish.Part.TheVariants as part
use Rattle.hb_moveplan.specs.declared.finish.Finished.TheVariants as ended
use Rattle.hb_moveplan.specs.declared.found.Found.TheVariants as found
use Rattle.hb_moveplan.specs.declared.found.Taken.TheVariants as taken
use Rattle.hb_moveplan.specs.declared.plan.Plan.TheVariants as plan
use Rattle.hb_moveplan.proofs.Steps.{at_part, entry_came, group_came, write_came}
use Rattle.hb_moveplan.proofs.finish.Finish.come.Goals as goal

pub returns-in-Entry-clause-goes : goal.returns-in-Entry-clause-goes
returns-in-Entry-clause-goes c =
    let s = c.self.inside in
    at_part c.args.self.now (record { access = s.access; hint = s.hint; part = s.part }) (plan.Finish c.enter.new.self) part.Entry
    c.args.got c.enter.result c.self.view_is c.in-Entry.is (λ told. entry_came c.args.self.now (plan.Finish c.enter.new.self) c.args.got c.enter.result (c.enter.ensures.goes told))

pub returns-in-Group-clause-goes : goal.returns-in-Group-clause-goes
returns-in-Group-clause-goes c =
    let s = c.self.inside in
    at_part c.args.self.now (record { access = s.access; hint = s.hint; part = s.part }) (plan.Finish c.set.new.self) part.Group
    c.args.got c.set.result c.self.view_is c.in-Group.is
    (λ _. group_came c.args.self.now (plan.Finish c.set.new.self) c.args.got c.is_empty.result c.set.result c.is_empty.ensures c.set.ensures.goes)

pub returns-in-Write-clause-goes : goal.returns-in-Write-clause-goes
returns-in-Write-clause-goes c =
    let s = c.self.inside in
    at_part c.args.self.now (record { access = s.access; hint = s.hint; part = s.part }) (plan.Finish c.args.self.now) part.Write
    c.args.got (taken.Came (found.Finished ended.Set)) c.self.view_is c.in-Write.is (λ _. write_came c.args.self.now c.args.got)
