use Rattle.std.proofs.Common.{◌≡◌, ◌+◌, ◌<◌, true, false, refl, ℕ, List, Bool, ap, subst, arith, length}
use Rattle.std.specs.Prelude.{nat_lt}
use Rattle.hb_edge.specs.Streams.{with_front}
use Rattle.hb_lines.specs.Saying.{most_bytes}
use Rattle.hb_lines.specs.Parts.{TakesPart}
use Rattle.hb_lines.proofs.Causes.{past}
use Rattle.hb_lines.proofs.ReadingLemmas.{Reading, begins, found, found_fewer, goes_on, ends, last_fewer, long_taken}
use Rattle.hb_lines.proofs.reader.LineReader.take_line.Goals as goal

pub pieces-init : goal.pieces-init
pieces-init g c = record {
  reading = begins c.args.front.now.items c.args.self.now (g.S.Source.left c.args.source.now) _ _ c.requires refl;
  later = omega arith;
}

pub pieces-preserved : goal.pieces-preserved
pieces-preserved g c =
    let takes : TakesPart false c.pieces.front.items c.take_part.new.front.items c.pieces.self c.take_part.new.self = subst (λ (b : Bool). TakesPart b c.pieces.front.items c.take_part.new.front.items c.pieces.self c.take_part.new.self) c.if-ends.false c.in_ok-ends.ensures in
    record {
      reading = goes_on _ c.pieces.front.items c.take_part.new.front.items c.pieces.self c.take_part.new.self c.fill.new.self (g.S.Source.left c.pieces.source) (g.S.Source.left c.fill.new.source) _ _ (g.S.Source.bound c.fill.new.source) c.pieces.invariant.reading takes c.in-Ok.ensures.bytes c.in-Ok.ensures.bound;
      later = omega (arith, c.pieces.invariant.later, c.in-Ok.ensures.cause.later);
    }

pub returns-then-ends-clause-line : goal.returns-then-ends-clause-line
returns-then-ends-clause-line g c =
    let takes : TakesPart true c.pieces.front.items c.take_part.new.front.items c.pieces.self c.take_part.new.self = subst (λ (b : Bool). TakesPart b c.pieces.front.items c.take_part.new.front.items c.pieces.self c.take_part.new.self) c.if-ends.true c.in_ok-ends.ensures in
    found _ c.pieces.front.items c.take_part.new.front.items c.pieces.self c.take_part.new.self (g.S.Source.left c.pieces.source) _ _ c.pieces.invariant.reading takes

pub returns-then-ends-clause-bound : goal.returns-then-ends-clause-bound
returns-then-ends-clause-bound g c _ =
    let takes : TakesPart true c.pieces.front.items c.take_part.new.front.items c.pieces.self c.take_part.new.self = subst (λ (b : Bool). TakesPart b c.pieces.front.items c.take_part.new.front.items c.pieces.self c.take_part.new.self) c.if-ends.true c.in_ok-ends.ensures in
    found_fewer _ c.pieces.front.items c.take_part.new.front.items c.pieces.self c.take_part.new.self (g.S.Source.left c.pieces.source) _ _ c.pieces.invariant.reading takes

pub returns-then-is_past_the_most-clause-line : goal.returns-then-is_past_the_most-clause-line
returns-then-is_past_the_most-clause-line g c =
    let takes : TakesPart false c.pieces.front.items c.take_part.new.front.items c.pieces.self c.take_part.new.self = subst (λ (b : Bool). TakesPart b c.pieces.front.items c.take_part.new.front.items c.pieces.self c.take_part.new.self) c.if-ends.false c.in_ok-ends.ensures in
    let long : most_bytes + 1 < length c.deref.result.now = past _ _ _ c.is_past_the_most.ensures c.if-is_past_the_most.true in
    long_taken _ c.pieces.front.items c.take_part.new.front.items c.pieces.self c.take_part.new.self (g.S.Source.left c.pieces.source) _ _ c.pieces.invariant.reading takes (subst (λ (l : List ℕ). most_bytes + 1 < length l) c.deref.ensures.value long)

pub returns-in-Err-clause-line : goal.returns-in-Err-clause-line
returns-in-Err-clause-line g c = let rose = c.in-Err.ensures.cause.failed in omega (arith, c.pieces.invariant.later, rose)

pub returns-then-unread-lt1-clause-line : goal.returns-then-unread-lt1-clause-line
returns-then-unread-lt1-clause-line g c =
    let takes : TakesPart false c.pieces.front.items c.take_part.new.front.items c.pieces.self c.take_part.new.self = subst (λ (b : Bool). TakesPart b c.pieces.front.items c.take_part.new.front.items c.pieces.self c.take_part.new.self) c.if-ends.false c.in_ok-ends.ensures in
    let reading : Reading (with_front c.args.self.now (g.S.Source.left c.args.source.now)) c.take_part.new.front.items c.fill.new.self (g.S.Source.left c.fill.new.source) (length c.args.self.now + g.S.Source.bound c.args.source.now) (g.S.Source.bound c.fill.new.source) = goes_on _ c.pieces.front.items c.take_part.new.front.items c.pieces.self c.take_part.new.self c.fill.new.self (g.S.Source.left c.pieces.source) (g.S.Source.left c.fill.new.source) _ _ (g.S.Source.bound c.fill.new.source) c.pieces.invariant.reading takes c.in-Ok.ensures.bytes c.in-Ok.ensures.bound in
    let few : length c.fill.new.self < 1 = omega (arith, c.if-unread-lt1.true, ap length c.unread.ensures) in
    let count : c.len.result ≡ length c.take_part.new.front.items = omega (arith, c.len.ensures) in
    ends _ _ c.take_part.new.front.items c.fill.new.self (g.S.Source.left c.fill.new.source) _ _ (g.S.Source.faults c.args.source.now) (g.S.Source.faults c.fill.new.source) reading few (c.in-Ok.ensures.end (omega arith)) (ap (λ (n : ℕ). nat_lt 0 n) count)

pub returns-then-unread-lt1-clause-bound : goal.returns-then-unread-lt1-clause-bound
returns-then-unread-lt1-clause-bound g c some =
    let takes : TakesPart false c.pieces.front.items c.take_part.new.front.items c.pieces.self c.take_part.new.self = subst (λ (b : Bool). TakesPart b c.pieces.front.items c.take_part.new.front.items c.pieces.self c.take_part.new.self) c.if-ends.false c.in_ok-ends.ensures in
    let reading : Reading (with_front c.args.self.now (g.S.Source.left c.args.source.now)) c.take_part.new.front.items c.fill.new.self (g.S.Source.left c.fill.new.source) (length c.args.self.now + g.S.Source.bound c.args.source.now) (g.S.Source.bound c.fill.new.source) = goes_on _ c.pieces.front.items c.take_part.new.front.items c.pieces.self c.take_part.new.self c.fill.new.self (g.S.Source.left c.pieces.source) (g.S.Source.left c.fill.new.source) _ _ (g.S.Source.bound c.fill.new.source) c.pieces.invariant.reading takes c.in-Ok.ensures.bytes c.in-Ok.ensures.bound in
    let count : c.len.result ≡ length c.take_part.new.front.items = omega (arith, c.len.ensures) in
    last_fewer _ c.take_part.new.front.items c.fill.new.self (g.S.Source.left c.fill.new.source) _ _ _ reading (ap (λ (n : ℕ). nat_lt 0 n) count) some
