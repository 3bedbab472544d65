use Rattle.std.proofs.Common.{◌≡◌, ◌∷◌, [], refl, sym, ◌∙◌, ap, subst, take, length, get_or, true, false, rules}
use Rattle.hb_board.specs.Searches.{Finds}
use Rattle.hb_board.proofs.Searching.{none_more, way_there, edge_there, cleared_edge, way_on, no_way, take_front, no_edge}
use Rattle.hb_board.proofs.board.Board.+search.Goals as goal

pub find_way-returns-then-branch : goal.find_way-returns-then-branch
find_way-returns-then-branch t c =
    way_there c.args.self.now c.args.edges.now c.loop-edge.edge-index no_edge c.args.search.now c.loop-edge.search c.leads.new.search c.loop-edge-test.true c.loop-edge.invariant
    (subst (λ f. Finds c.args.self.now (get_or c.args.edges.now c.loop-edge.edge-index no_edge ∷ []) c.loop-edge.search c.leads.new.search f) c.if-branch.true c.in_ok-leads.ensures)

pub find_way-loop-edge-preserved : goal.find_way-loop-edge-preserved
find_way-loop-edge-preserved t c =
    none_more c.args.self.now c.args.edges.now c.loop-edge.edge-index no_edge c.args.search.now c.loop-edge.search c.leads.new.search c.loop-edge-test.true c.loop-edge.invariant
    (subst (λ f. Finds c.args.self.now (get_or c.args.edges.now c.loop-edge.edge-index no_edge ∷ []) c.loop-edge.search c.leads.new.search f) c.if-branch.false c.in_ok-leads.ensures)

pub leads-returns-then-edge-search : goal.leads-returns-then-edge-search
leads-returns-then-edge-search t c =
    edge_there c.args.self.now c.args.edge.now c.args.search.now _ (sym c.is_live.ensures ∙ c.if-not-is_live.false) c.if-edge-search.true refl refl c.in_ok-push.ensures.items

pub leads-returns-then-contains : goal.leads-returns-then-contains
leads-returns-then-contains t c =
    cleared_edge c.args.self.now c.args.edge.now c.args.search.now (sym c.is_live.ensures ∙ c.if-not-is_live.false) c.if-edge-search.false (sym c.contains.ensures ∙ c.if-contains.true)

pub leads-returns-then-branch : goal.leads-returns-then-branch
leads-returns-then-branch t c =
    way_on c.args.self.now c.args.edge.now c.args.search.now (record { target = c.args.search.now.target; cleared = c.args.search.now.cleared; path = c.push-2.new.self }) c.find_way.new.search
    (sym c.is_live.ensures ∙ c.if-not-is_live.false) c.if-edge-search.false refl refl c.in_ok-push-2.ensures.items
    (subst (λ l. Finds c.args.self.now l (record { target = c.args.search.now.target; cleared = c.args.search.now.cleared; path = c.push-2.new.self }) c.find_way.new.search true) c.kept.ensures
    (subst (λ f. Finds c.args.self.now c.kept.result.now (record { target = c.args.search.now.target; cleared = c.args.search.now.cleared; path = c.push-2.new.self }) c.find_way.new.search f) c.if-branch.true c.in_ok-find_way.ensures))

pub leads-returns : goal.leads-returns
leads-returns t c =
    let n : c.len-length.result ≡ length c.args.search.now.path.items = search rules in
    no_way c.args.self.now c.args.edge.now c.args.search.now (record { target = c.args.search.now.target; cleared = c.args.search.now.cleared; path = c.push-2.new.self }) c.find_way.new.search (record { target = c.find_way.new.search.target; cleared = c.insert.new.self; path = c.truncate.new.self })
    (sym c.is_live.ensures ∙ c.if-not-is_live.false) c.if-edge-search.false refl refl
    (subst (λ l. Finds c.args.self.now l (record { target = c.args.search.now.target; cleared = c.args.search.now.cleared; path = c.push-2.new.self }) c.find_way.new.search false) c.kept.ensures
    (subst (λ f. Finds c.args.self.now c.kept.result.now (record { target = c.args.search.now.target; cleared = c.args.search.now.cleared; path = c.push-2.new.self }) c.find_way.new.search f) c.if-branch.false c.in_ok-find_way.ensures))
    refl
    (λ e. c.truncate.ensures.items ∙ ap (take c.len-length.result) (e ∙ c.in_ok-push-2.ensures.items) ∙ take_front c.args.search.now.path.items (c.args.edge.now ∷ []) c.len-length.result n)
    c.in_ok-insert.ensures.updates
