use Rattle.std.proofs.Common.{ap, sym, ◌∙◌}
use Rattle.std.specs.Vec.Iter.{into_iter_items}
use Rattle.hb_access.specs.Accesses.{use_of}
use Rattle.hb_writes.specs.Writings.{behind, replying}
use Rattle.hb_writes.proofs.Behind.{first_write}
use Rattle.hb_writes.proofs.writing.Writing.start.Goals as goal

pub returns-in-Some : goal.returns-in-Some
returns-in-Some c =
    let reply = c.args.reply in
    let u = use_of c.args.usage in
    let rest = into_iter_items c.next.new.self in (
      c.write_of-access.ensures.asking,
      ap (λ cs. replying cs reply u) c.in-Some.ensures.items ∙ first_write c.in-Some.change rest reply u
          ∙ ap (behind (replying rest reply)) (sym c.write_of-access.ensures.talk),
      (ap (λ v. v.tx) c.write_of-access.ensures.usage, ap (λ v. v.used) c.write_of-access.ensures.usage),
    )
