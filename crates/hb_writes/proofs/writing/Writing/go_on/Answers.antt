use Rattle.std.proofs.Common.{ap, sym, ◌∙◌}
use Rattle.std.specs.Vec.Iter.{into_iter_items}
use Rattle.hb_types.specs.Places.{node_of_area}
use Rattle.hb_access.specs.Accesses.{use_of, written}
use Rattle.hb_writes.specs.Writings.{behind, replying, using}
use Rattle.hb_writes.proofs.Behind.{first_write}
use Rattle.hb_writes.proofs.writing.Writing.go_on.Goals as goal

pub returns-in-Some-clause-goes : goal.returns-in-Some-clause-goes
returns-in-Some-clause-goes c =
    let w = c.self.inside in
    let change = c.in-Some.change in
    let rest = into_iter_items c.next.new.self in
    let n = node_of_area change.place.space.area in (
      c.write_of.ensures.asking,
      ap (λ v. replying v.left v.reply (using v)) (sym c.self.view_is)
          ∙ ap (λ cs. replying cs w.reply (use_of w.access.usage)) c.in-Some.ensures.items
          ∙ first_write change rest w.reply (use_of w.access.usage)
          ∙ ap (λ v. behind (replying rest w.reply) (written n change (use_of v))) (sym c.usage.ensures)
          ∙ ap (behind (replying rest w.reply)) (sym c.write_of.ensures.talk),
    )
