use Rattle.std.proofs.Common.{List, drop, sym, subst}
use Rattle.hb_batch.specs.declared.hint.Hint.{Hint}
use Rattle.hb_turn.specs.declared.line.Line.{Line}
use Rattle.hb_mover.specs.Moving.{IsNew}
use Rattle.hb_mover.proofs.Going.{is_new}
use Rattle.hb_mover.proofs.mover.Mover.new.Goals as goal

pub returns : goal.returns
returns c =
    let a = c.args in
    let l : Line = record { session = a.index; back_ends = a.back_ends; table = a.table; rows = a.rows; turns = a.turns } in record {
      new = subst (λ (hs : List Hint). IsNew (record { turn = c.new.result; left = a.turns; hints = drop 0 hs }) a.index a.back_ends a.begun a.table a.rows a.turns) (sym c.new-2.ensures)
          (is_new l a.begun c.new.result c.new.ensures.new);
    }
