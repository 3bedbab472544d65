use Rattle.std.proofs.Common.{◌≡◌, ℕ, map, ap, ◌∙◌, arith}
use Rattle.std.specs.List.{range_with_len}
use Rattle.hb_definerows.proofs.RowsPut.{first_at, first_more}
use Rattle.hb_definerows.proofs.create_table.first_entries.Goals as goal

pub loop-group-preserved : goal.loop-group-preserved
loop-group-preserved c =
    first_more c.args.members.now c.loop-group.entries.items c.push.new.self.items c.loop-group.group c.first_assignment-nth.result c.loop-group.invariant c.first_assignment-nth.ensures.position
    c.in_ok-push.ensures.items

pub returns : goal.returns
returns c =
    let whole : c.loop-group.group ≡ 1024 = omega arith in
    c.loop-group.invariant ∙ ap (λ (n : ℕ). map (first_at c.args.members.now) (range_with_len 0 n)) whole
