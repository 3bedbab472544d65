use Rattle.std.proofs.Common.{◌≡◌, true, false, Ok, Err, ap, sym, ◌∙◌, subst}
use Rattle.hb_talk.specs.Talk.{says}
use Rattle.hb_access.specs.declared.usage.Usage.{Usage}
use Rattle.hb_access.specs.Accesses.{use_of, keeps_nodes}
use Rattle.hb_plandefine.proofs.Standing.{heard, heard_more, heard_refused, heard_came}
use Rattle.hb_plandefine.proofs.defining.asked.Goals as goal

pub returns-in-More-clause-goes : goal.returns-in-More-clause-goes
returns-in-More-clause-goes c = λ tells. heard_more c.args.access c.take.new.self c.args.then c.args.answer c.in-More.ensures.hears.1

pub returns-in-Came-clause-goes : goal.returns-in-Came-clause-goes
returns-in-Came-clause-goes c = λ tells.
    let g = c.in-Came.got in
    let hears = c.in-Came.ensures.hears ∙ ap (λ (u : Usage). says (Ok g, use_of u)) (sym c.usage.ensures) in
    heard_came c.args.access c.args.then c.args.answer g c.usage.result c.came.result hears c.in-Came.ensures.brings c.came.ensures.goes tells

pub returns-in-Refused-clause-goes : goal.returns-in-Refused-clause-goes
returns-in-Refused-clause-goes c = λ tells.
    let r = c.in-Refused.reply in
    let hears = c.in-Refused.ensures.hears ∙ ap (λ (u : Usage). says (Err r, use_of u)) (sym c.usage-in-Refused.ensures) in
    heard_refused c.args.access c.args.then c.args.answer r c.usage-in-Refused.result hears

pub returns-in-Came-clause-heard : goal.returns-in-Came-clause-heard
returns-in-Came-clause-heard c =
    let old = c.args.access.usage in
    heard old c.usage.result c.came.result (ap (λ (u : Usage). u.tx.0) c.usage.ensures ∙ c.in-Came.ensures.tx)
    (subst (λ (u : Usage). keeps_nodes old.used.0 u.used.0 false ≡ true) (sym c.usage.ensures) c.in-Came.ensures.used) c.came.ensures.ready
