use Rattle.std.proofs.Common.{refl, sym, ◌∙◌, subst, List}
use Rattle.std.specs.Prelude.{Bool}
use Rattle.std.proofs.lemmas.Bool.{false≢true}
use Rattle.hb_types.specs.declared.answer.Edge.{Edge}
use Rattle.hb_runs.specs.Board.{IsCycleOf, edges_of}
use Rattle.hb_board.specs.Searches.{Finds}
use Rattle.hb_board.proofs.Judging.{judged_gone, judged_cycle, judged_waiting}
use Rattle.hb_board.proofs.board.Board.judge.Goals as goal

pub returns-then-is_empty : goal.returns-then-is_empty
returns-then-is_empty c = judged_gone c.args.self.now c.args.tx c.args.node c.args.path c.args.wanted c.args.holders.now c.in_ok-edges.edges c.in_ok-edges.ensures (c.is_empty.ensures.0 c.if-is_empty.true)

pub returns-then-branch : goal.returns-then-branch
returns-then-branch c = λ b shows.
    subst (λ (l : List Edge). IsCycleOf b c.args.tx.0 (edges_of b c.args.tx c.args.node c.args.path c.args.wanted c.args.holders.now) l) (sym c.from_vec.ensures)
    (judged_cycle c.args.self.now c.args.tx c.args.node c.args.path c.args.wanted c.args.holders.now c.in_ok-edges.edges c.in_ok-edges.ensures
    (record { target = c.args.tx; cleared = c.new.result; path = c.new-2.result }) c.find_way.new.search refl c.new.ensures.empty c.new-2.ensures.items
    (subst (λ (f : Bool). Finds c.args.self.now c.in_ok-edges.edges (record { target = c.args.tx; cleared = c.new.result; path = c.new-2.result }) c.find_way.new.search f) c.if-branch.true
    (subst (λ (l : List Edge). Finds c.args.self.now l (record { target = c.args.tx; cleared = c.new.result; path = c.new-2.result }) c.find_way.new.search c.in_ok-find_way.field-0) c.as_slice.ensures c.in_ok-find_way.ensures))
    b shows)

pub returns : goal.returns
returns c =
    judged_waiting c.args.self.now c.args.tx c.args.node c.args.path c.args.wanted c.args.holders.now c.in_ok-edges.edges c.in_ok-edges.ensures
    (record { target = c.args.tx; cleared = c.new.result; path = c.new-2.result }) c.find_way.new.search refl c.new.ensures.empty c.new-2.ensures.items
    (λ none. false≢true (sym c.if-is_empty.false ∙ c.is_empty.ensures.1 none))
    (subst (λ (f : Bool). Finds c.args.self.now c.in_ok-edges.edges (record { target = c.args.tx; cleared = c.new.result; path = c.new-2.result }) c.find_way.new.search f) c.if-branch.false
    (subst (λ (l : List Edge). Finds c.args.self.now l (record { target = c.args.tx; cleared = c.new.result; path = c.new-2.result }) c.find_way.new.search c.in_ok-find_way.field-0) c.as_slice.ensures c.in_ok-find_way.ensures))
