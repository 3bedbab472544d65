-- The read of the worked run is one that the law of order speaks of.
use Rattle.std.proofs.Common.{List, [], ◌∷◌, ◌++◌, Some, refl, inl, inr, lit<}
use Rattle.hb_types.specs.declared.answer.Answer.TheVariants as answer
use Rattle.hb_types.specs.declared.lock.Mode.TheVariants as mode
use Rattle.hb_types.specs.declared.request.Request.TheVariants as request
use Rattle.hb_disks.specs.Redo.{Decided}
use Rattle.hb_runs.specs.ServerRuns.{Asked}
use Rattle.hb_readlaws.specs.Ordering.{IsDecidedRead, row_read}
use Rattle.hb_serverlaws.proofs.ServerExample.{asking, t1, t2, key, number, place, row, change, s11, is_one, two_one, worked_list}
use Rattle.hb_serverlaws.specs.Trails.{Ran}

abbrev before : List Asked
before =
    asking request.Start (answer.Started [])
    ∷ asking (request.Enlist t1) answer.Done
    ∷ asking (request.Enlist t2) answer.Done
    ∷ asking (request.Lock t1 key mode.X) answer.Done
    ∷ asking (request.Lock t2 key mode.S) (answer.Blocked key mode.S (record { tx = t1; mode = mode.X } ∷ []))
    ∷ asking (request.Write t1 change) answer.Done
    ∷ asking (request.Prepare t1) (answer.Vote (number 0))
    ∷ asking (request.Commit t1 (number 5)) answer.Done
    ∷ asking (request.Lock t2 key mode.S) answer.Done ∷ []

abbrev behind : List Asked
behind =
    asking (request.Prepare t2) (answer.Vote (number 5))
    ∷ asking (request.Commit t2 (number 5)) (answer.Low (number 5))
    ∷ asking (request.Commit t2 (number 6)) answer.Done ∷ []

abbrev decided : List Decided
decided = record { tx = 1; number = 5; nodes = record { 0 = 2 } ∷ [] } ∷ record { tx = 2; number = 6; nodes = record { 0 = 2 } ∷ [] } ∷ []

ran : Ran [] 0 (before ++ row_read 2 place (Some row) ∷ behind) s11
ran = record { is_right = tt; run = worked_list; once = (tt, (tt, ((is_one, tt), (tt, (tt, (tt, (tt, (tt, (tt, (tt, (tt, (tt, (tt, tt))))))))))))) }

pub worked_read : IsDecidedRead [] 0 before (row_read 2 place (Some row)) behind s11 decided 2 6
worked_read =
    record {
      ran = ran;
      numbers =
          record {
            committed = (inl (refl, refl), (inr (inl (refl, refl)), tt));
            aborted = tt;
            above = (((λ e. lit< tt), ((λ e. absurd (two_one e)), tt)), (((λ e. lit< tt), ((λ e. lit< tt), tt)), tt));
          };
      decisions = record { ascend = (refl, tt); once = ((two_one, tt), (tt, tt)) };
      is_decided = inr (inl (refl, refl));
      voted = inr (inl refl);
    }
