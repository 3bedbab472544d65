use Rattle.std.proofs.Common.{ap, sym, ◌∙◌}
use Rattle.std.specs.Vec.Iter.{into_iter_items}
use Rattle.hb_writes.specs.Writings.{behind, replying, now_hears}
use Rattle.hb_writes.proofs.Behind.{came_keeps}
use Rattle.hb_writes.proofs.writing.Writing.take.Goals as goal

pub returns-in-More-clause-hears : goal.returns-in-More-clause-hears
returns-in-More-clause-hears c =
    let w = c.self.inside in (
      c.in-More.ensures.hears.0,
      ap (λ v. now_hears v c.args.answer) (sym c.self.view_is) ∙ ap (behind (replying (into_iter_items w.left) w.reply)) c.in-More.ensures.hears.1,
    )

pub returns-in-Came-clause-used : goal.returns-in-Came-clause-used
returns-in-Came-clause-used c = came_keeps _ _ c.go_on.new.self c.take.new.self c.go_on.result c.self.view_is c.in-Came.ensures.used c.go_on.ensures.used
