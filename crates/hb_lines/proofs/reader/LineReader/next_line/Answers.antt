use Rattle.std.proofs.Common.{ℕ, List, Bool, subst}
use Rattle.std.specs.Prelude.{Ok}
use Rattle.std.proofs.lemmas.Result.{err_from_is_err_and}
use Rattle.hb_edge.specs.Streams.{with_front}
use Rattle.hb_lines.specs.Lines.{without_return}
use Rattle.hb_lines.specs.Parts.{TakesLine, TakenLine}
use Rattle.hb_lines.specs.Next.{SaysOr}
use Rattle.hb_lines.proofs.Causes.{done_well}
use Rattle.hb_lines.proofs.NextLemmas.{some_next, some_bound, some_cause, none_cause}
use Rattle.hb_lines.proofs.reader.LineReader.next_line.Goals as goal

pub returns-then-some-clause-next : goal.returns-then-some-clause-next
returns-then-some-clause-next g c =
    let line : TakenLine c.take_line.new.front.items (with_front c.args.self.now (g.S.Source.left c.args.source.now)) (with_front c.take_line.new.self (g.S.Source.left c.take_line.new.source)) = subst (λ (b : Bool). TakesLine (with_front c.args.self.now (g.S.Source.left c.args.source.now)) (with_front c.take_line.new.self (g.S.Source.left c.take_line.new.source)) (g.S.Source.faults c.args.source.now) (g.S.Source.faults c.take_line.new.source) c.take_line.new.front.items (Ok b)) c.if-some.true c.in_ok-some.ensures.line in
    some_next c.take_line.new.front.items _ _ line c.some_line.result (subst (λ (l : List ℕ). SaysOr (without_return l) c.some_line.result) c.deref.ensures.value c.some_line.ensures.says)

pub returns-then-some-clause-bound : goal.returns-then-some-clause-bound
returns-then-some-clause-bound g c = some_bound _ _ _ (c.in_ok-some.ensures.bound c.if-some.true) c.some_line.result c.some_line.ensures.says

pub returns-then-some-clause-cause : goal.returns-then-some-clause-cause
returns-then-some-clause-cause g c =
    let line : TakenLine c.take_line.new.front.items (with_front c.args.self.now (g.S.Source.left c.args.source.now)) (with_front c.take_line.new.self (g.S.Source.left c.take_line.new.source)) = subst (λ (b : Bool). TakesLine (with_front c.args.self.now (g.S.Source.left c.args.source.now)) (with_front c.take_line.new.self (g.S.Source.left c.take_line.new.source)) (g.S.Source.faults c.args.source.now) (g.S.Source.faults c.take_line.new.source) c.take_line.new.front.items (Ok b)) c.if-some.true c.in_ok-some.ensures.line in
    some_cause c.take_line.new.front.items _ (with_front c.take_line.new.self (g.S.Source.left c.take_line.new.source)) line _ _ c.take_line.ensures.later c.some_line.result (subst (λ (l : List ℕ). SaysOr (without_return l) c.some_line.result) c.deref.ensures.value c.some_line.ensures.says)

pub returns-clause-next : goal.returns-clause-next
returns-clause-next g c =
    subst (λ (b : Bool). TakesLine (with_front c.args.self.now (g.S.Source.left c.args.source.now)) (with_front c.take_line.new.self (g.S.Source.left c.take_line.new.source)) (g.S.Source.faults c.args.source.now) (g.S.Source.faults c.take_line.new.source) c.take_line.new.front.items (Ok b)) c.if-some.false c.in_ok-some.ensures.line

pub returns-clause-cause : goal.returns-clause-cause
returns-clause-cause g c = done_well _ _ _ _ c.take_line.ensures.later

pub returns-in_err-some-clause-cause : goal.returns-in_err-some-clause-cause
returns-in_err-some-clause-cause g c =
    let p = err_from_is_err_and c.from_residual.result c.from_residual.ensures.1 in
    none_cause _ p.0 c.in_err-some.field-0.0 p.1 p.2 _ (with_front c.take_line.new.self (g.S.Source.left c.take_line.new.source)) _ _ c.take_line.new.front.items c.take_line.ensures.later c.in_err-some.ensures.line
