use Rattle.hb_votes.proofs.Reserving.{FesLaws}
use Rattle.hb_ends.proofs.Shown.{Laws}
use Rattle.hb_intime.proofs.Explaining.{explained}
use Rattle.hb_intime.proofs.laws.runs_are_explained.Goals as goal

pub returns : goal.returns
returns c =
    let fes : FesLaws = record { stopped = c.stopped_is_ordered.ensures; kept = c.order_is_kept.ensures; log_kept = c.fes_log_is_kept.ensures; reserved = c.given_is_reserved.ensures } in
    let laws : Laws =
    record {
      ascend = c.transactions_ascend.ensures;
      owner = c.one_owner.ensures;
      agree =
          record {
            fes = fes;
            records = c.records_were_asked.ensures;
            commits_told = c.commits_are_told.ensures;
            rollbacks_told = c.rollbacks_are_told.ensures;
            news = c.given_are_new.ensures;
            new_decided = c.new_are_decided.ensures;
            decision_stands = c.decision_stands.ensures;
            decided_stays = c.decided_stays.ensures;
            aborted_stays = c.aborted_stays.ensures;
            were_asked = c.decisions_were_asked.ensures;
          };
    } in
    λ composed w h g hist order. explained laws c.decisions_grow.ensures composed w h g hist order
