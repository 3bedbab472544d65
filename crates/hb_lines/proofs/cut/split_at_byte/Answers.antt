use Rattle.std.proofs.Common.{◌+◌, List, ℕ, sym, ◌∙◌, ap, take}
use Rattle.std.specs.Prelude.{Some}
use Rattle.std.proofs.lemmas.List.{take_rest}
use Rattle.hb_lines.proofs.CutLemmas.{cut_here}
use Rattle.hb_lines.proofs.cut.split_at_byte.Goals as goal

pub returns-then-b-byte : goal.returns-then-b-byte
returns-then-b-byte c =
    ap (λ (l : List ℕ). Some (take c.loop-i.i c.args.bytes.now, l)) (take_rest c.args.bytes.now (c.loop-i.i + 1))
    ∙ sym (cut_here c.args.bytes.now c.args.byte c.loop-i.i c.loop-i-test.true c.if-b-byte.true c.loop-i.invariant)
