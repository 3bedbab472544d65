use Rattle.std.proofs.Common.{List, [], ◌∷◌, ◌++◌, ◌∙◌, ap, sym, subst, append_assoc}
use Rattle.hb_system.specs.Giving.{Gives}
use Rattle.hb_system.proofs.seating.unseat.Goals as goal

pub returns-in-Front-clause-given : goal.returns-in-Front-clause-given
returns-in-Front-clause-given g c = (
  c.into_log.result ∷ [],
  c.push_reserved.ensures.items,
  subst (λ n. Gives g.D.Disk.left g.F.Node.leaves g.S.Node.leaves (n ∷ []) (c.into_log.result ∷ [])) (sym c.in-Front.is) (c.into_log.ensures, tt),
)

pub returns-in-Server-clause-given : goal.returns-in-Server-clause-given
returns-in-Server-clause-given g c =
    let log = c.into_disks-log.result.0 in
    let area = c.into_disks-log.result.1 in (
      log ∷ area ∷ [],
      c.push_reserved-in-Server-2.ensures.items ∙ ap (λ (ds : List g.row.D.Denot). ds ++ area ∷ []) c.push_reserved-in-Server.ensures.items ∙ append_assoc c.args.slots.now.items (log ∷ []) (area ∷ []),
      subst (λ n. Gives g.D.Disk.left g.F.Node.leaves g.S.Node.leaves (n ∷ []) (log ∷ area ∷ [])) (sym c.in-Server.is) (c.into_disks-log.ensures, tt),
    )
