use Rattle.std.proofs.Common.{◌+◌, ap, sym, subst}
use Rattle.hb_planrows.specs.Ranks.{AreRanked}
use Rattle.hb_planrows.proofs.Ranked.{still_ranked}
use Rattle.hb_planrows.proofs.ranks.put_ranked.Goals as goal

pub returns-in_ok-put_at-in-Some-clause-ranks : goal.returns-in_ok-put_at-in-Some-clause-ranks
returns-in_ok-put_at-in-Some-clause-ranks c =
    let is = c.rank_of-rank.ensures in
    subst (AreRanked (c.args.nth + 1)) (sym c.in_ok-put_at-in-Some.ensures)
    (still_ranked c.args.nth c.rank_of-rank.result c.in-Some.l c.args.sorted.now.entries (ap (λ r. r.key) is) (ap (λ r. r.nth) is) c.requires)
