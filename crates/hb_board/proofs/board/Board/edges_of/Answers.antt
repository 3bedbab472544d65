use Rattle.std.proofs.Common.{refl, sym, ◌∙◌}
use Rattle.hb_board.proofs.Edges.{with_edge, without_edge, not_some}
use Rattle.hb_board.proofs.board.Board.edges_of.Goals.{in-Some+in_ok-add_live, in_default}
use Rattle.hb_board.proofs.board.Board.edges_of.Goals as goal

pub loop-holder-preserved : goal.loop-holder-preserved
loop-holder-preserved c =
    elim c.match-edge_to.branch [
      | in-Some+in_ok-add_live w ↦ w.edges-is ∙ with_edge c.args.tx c.args.node c.args.path c.args.wanted c.args.self.now.known c.args.holders.now c.loop-holder.holder-index _ _ _ _ _ c.loop-holder-test.true refl c.loop-holder.invariant w.in-Some.ensures w.in_ok-add_live.ensures
      | in_default w ↦ w.edges-is ∙ without_edge c.args.tx c.args.node c.args.path c.args.wanted c.args.self.now.known c.args.holders.now c.loop-holder.holder-index _ _ _ c.loop-holder-test.true refl c.loop-holder.invariant (sym (not_some c.edge_to.result w.in_default.not-Some) ∙ c.edge_to.ensures)
    ]
