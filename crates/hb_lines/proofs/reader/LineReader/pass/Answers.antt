use Rattle.std.proofs.Common.{◌≤◌, ◌-◌, ◌∙◌, ap, length, take, drop, arith}
use Rattle.hb_lines.proofs.FrontLemmas.{pass_is}
use Rattle.hb_lines.proofs.reader.LineReader.pass.Goals as goal

pub returns : goal.returns
returns c =
    let few : c.args.count ≤ length (take (c.self.inside.end - c.self.inside.at) (drop c.self.inside.at c.self.inside.piece.items)) = omega (arith, c.requires, ap length c.self.view_is) in
    pass_is c.self.inside.at c.self.inside.end c.args.count c.self.inside.piece.items few ∙ ap (drop c.args.count) c.self.view_is
