use Rattle.std.proofs.Common.{◌≡◌, Option, Some, None, ap, ◌∙◌, sym}
use Rattle.hb_model.specs.Told.{Found, table_among}
use Rattle.hb_model.specs.declared.reply.Reply.TheVariants as reply
use Rattle.hb_planquery.specs.declared.query_plan.Taken.TheVariants as taken
use Rattle.hb_planquery.specs.Queries.{rows_in}
use Rattle.hb_planquery.proofs.Steps.{finds, found_goes, none_goes}
use Rattle.hb_planquery.proofs.query_plan.QueryPlan.find.Goals as goal

pub returns-in-Ok-Some-clause-finds : goal.returns-in-Ok-Some-clause-finds
returns-in-Ok-Some-clause-finds c = λ tells.
    let now = c.args.self.now in
    let name : c.as_slice.result.now ≡ now.name = c.as_slice.ensures ∙ ap (λ p. p.name) c.self.view_is in
    let told = c.in-Ok-Some.ensures.found tells in
    let is = c.in-Ok-Some.field-0-is in
    let there : Some (c.in-Ok-Some.number, c.in-Ok-Some.table) ≡ table_among (rows_in c.args.got) now.name = cc in
    finds now c.read.new.self c.args.got (Some (c.in-Ok-Some.number, c.in-Ok-Some.table)) c.read.result there
    (found_goes now c.read.new.self c.in-Ok-Some.number c.in-Ok-Some.table c.read.result c.read.ensures.reads)

pub returns-in-Ok-None-clause-finds : goal.returns-in-Ok-None-clause-finds
returns-in-Ok-None-clause-finds c = λ tells.
    let now = c.args.self.now in
    let name : c.as_slice.result.now ≡ now.name = c.as_slice.ensures ∙ ap (λ p. p.name) c.self.view_is in
    let told = c.in-Ok-None.ensures.found tells in
    let is = c.in-Ok-None.field-0-is in
    let none : Option Found = None in
    let there : none ≡ table_among (rows_in c.args.got) now.name = cc in
    finds now now c.args.got none (taken.Refused reply.NoTable) there (none_goes now)
