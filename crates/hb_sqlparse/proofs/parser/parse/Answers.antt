use Rattle.std.proofs.Common.{sym, ◌∙◌, subst, length, ◌+◌, arith}
use Rattle.hb_sqlparse.specs.PlainLines.{IsPlainItem}
use Rattle.hb_sqlparse.proofs.Reaching.{reached_init, reached_more, reached_dead, reached_none, reached_line, place_low, refused_at}
use Rattle.hb_sqlparse.proofs.parser.parse.Goals as goal

pub loop-placed-init : goal.loop-placed-init
loop-placed-init c = reached_init c.args.line.now _ _ c.in_ok-left.ensures c.in_ok-tokens.ensures

pub loop-placed-preserved : goal.loop-placed-preserved
loop-placed-preserved c =
    reached_more c.args.line.now c.loop-placed.left c.pop.new.self c.in-Some.placed c.loop-placed.reached c.in-Some-2.next c.loop-placed.invariant c.in-Some.ensures
    (sym c.in_ok-next.ensures ∙ c.in-Some-2.is)

pub overflow_add-result : goal.overflow_add-result
overflow_add-result c =
    omega (
      arith,
      c.requires,
      place_low c.args.line.now c.loop-placed.left c.pop.new.self c.in-Some.placed c.loop-placed.reached c.loop-placed.invariant c.in-Some.ensures
          (c.places_ascend_within_the_line.ensures.within c.args.line.now),
    )

pub returns-in-None-clause-syntax : goal.returns-in-None-clause-syntax
returns-in-None-clause-syntax c =
    refused_at c.args.line.now (c.in-Some.placed.place + 1)
    (reached_dead c.lines_are_read.ensures c.args.line.now c.loop-placed.left c.pop.new.self c.in-Some.placed c.loop-placed.reached c.loop-placed.invariant c.in-Some.ensures
    (sym c.in_ok-next.ensures ∙ c.in-None.is))

pub returns-in-Some-3-clause-plain : goal.returns-in-Some-3-clause-plain
returns-in-Some-3-clause-plain c =
    subst IsPlainItem (sym c.into_inner.ensures)
    (c.lines_are_plain.ensures c.in-Some-3.item c.args.line.now
    (reached_line c.lines_are_read.ensures c.args.line.now c.loop-placed.left c.loop-placed.reached c.in-Some-3.item c.loop-placed.invariant c.in_default.ensures.0
    (sym c.in_ok-item.ensures ∙ c.in-Some-3.is)))

pub returns-clause-syntax : goal.returns-clause-syntax
returns-clause-syntax c =
    refused_at c.args.line.now (length c.args.line.now + 1)
    (reached_none c.lines_are_read.ensures c.args.line.now c.loop-placed.left c.loop-placed.reached c.loop-placed.invariant c.in_default.ensures.0
    (sym c.in_ok-item.ensures ∙ c.in-None-2.is))
