use Rattle.std.proofs.Common.{◌≢◌, ap, sym, ◌∙◌, inl, refl}
use Rattle.std.proofs.lemmas.Bool.{eqb-false, eqb-true}
use Rattle.hb_node.specs.Laws.{asked_of}
use Rattle.hb_reach.specs.Told.{meanings}
use Rattle.hb_reach.proofs.Going.{goes_same, goes_on}
use Rattle.hb_reach.proofs.Reaching.{manager_asked, manager_goes, server_goes, server_asked, told_halted}
use Rattle.hb_reach.proofs.reach.Reach.ask_node.Goals as goal

pub returns-then-eq-clause-goes : goal.returns-then-eq-clause-goes
returns-then-eq-clause-goes g c =
    let n = meanings g.N.Node.named g.N.Node.trail g.N.Node.explains g.N.Node.leaves g.N.Node.last in
    let m = meanings g.M.Node.named g.M.Node.trail g.M.Node.explains g.M.Node.leaves g.M.Node.last in
    let old = c.args.self.now in
    let new = c.ask_manager.new.self in
    let done = c.ask_manager.ensures in
    manager_goes n m old.nodes.items new.nodes.items old.manager new.manager c.args.request c.ask_manager.result old.clock new.clock done.clock (ap (λ v. v.items) done.nodes) done.answered

pub returns-then-eq-clause-one_more : goal.returns-then-eq-clause-one_more
returns-then-eq-clause-one_more g c =
    let n = meanings g.N.Node.named g.N.Node.trail g.N.Node.explains g.N.Node.leaves g.N.Node.last in
    let m = meanings g.M.Node.named g.M.Node.trail g.M.Node.explains g.M.Node.leaves g.M.Node.last in
    let old = c.args.self.now in
    let new = c.ask_manager.new.self in
    let done = c.ask_manager.ensures in
    manager_asked n m old.nodes.items new.nodes.items old.manager new.manager c.args.node.0 c.args.request c.ask_manager.result old.clock new.clock (eqb-true c.args.node.0 10 (sym c.eq.ensures ∙ c.if-eq.true))
    (ap (λ v. v.items) done.nodes) done.answered

pub returns-then-at-len-clause-goes : goal.returns-then-at-len-clause-goes
returns-then-at-len-clause-goes g c = goes_same _

pub returns-then-has_stopped-clause-one_more : goal.returns-then-has_stopped-clause-one_more
returns-then-has_stopped-clause-one_more g c =
    let n = meanings g.N.Node.named g.N.Node.trail g.N.Node.explains g.N.Node.leaves g.N.Node.last in
    let m = meanings g.M.Node.named g.M.Node.trail g.M.Node.explains g.M.Node.leaves g.M.Node.last in
    let old = c.args.self.now in
    let mid = c.ask_server-answer.new.self in
    let new = c.ask_manager-then-has_stopped.new.self in
    let done = c.ask_server-answer.ensures in
    let told = c.ask_manager-then-has_stopped.ensures in
    let apart : c.args.node.0 ≢ 10 = eqb-false c.args.node.0 10 (sym c.eq.ensures ∙ c.if-eq.false) in
    server_asked n m old.nodes.items mid.nodes.items new.nodes.items old.manager new.manager c.args.node.0 c.args.request c.ask_server-answer.result old.clock mid.clock new.clock apart
    (ap (λ v. v.items) told.nodes) done.answered done.others (told_halted m old.manager mid.manager new.manager c.args.node _ mid.clock new.clock done.manager told.answered)

pub returns-then-has_stopped-clause-goes : goal.returns-then-has_stopped-clause-goes
returns-then-has_stopped-clause-goes g c =
    let n = meanings g.N.Node.named g.N.Node.trail g.N.Node.explains g.N.Node.leaves g.N.Node.last in
    let m = meanings g.M.Node.named g.M.Node.trail g.M.Node.explains g.M.Node.leaves g.M.Node.last in
    let old = c.args.self.now in
    let mid = c.ask_server-answer.new.self in
    let new = c.ask_manager-then-has_stopped.new.self in
    let done = c.ask_server-answer.ensures in
    let told = c.ask_manager-then-has_stopped.ensures in
    goes_on _ _ _
    (server_goes n m old.nodes.items mid.nodes.items old.manager mid.manager c.args.node.0 c.args.request c.ask_server-answer.result old.clock mid.clock done.clock done.manager done.count done.answered done.others)
    (manager_goes n m mid.nodes.items new.nodes.items mid.manager new.manager _ c.ask_manager-then-has_stopped.result mid.clock new.clock told.clock (ap (λ v. v.items) told.nodes) told.answered)

pub returns-else-has_stopped-clause-one_more : goal.returns-else-has_stopped-clause-one_more
returns-else-has_stopped-clause-one_more g c =
    let n = meanings g.N.Node.named g.N.Node.trail g.N.Node.explains g.N.Node.leaves g.N.Node.last in
    let m = meanings g.M.Node.named g.M.Node.trail g.M.Node.explains g.M.Node.leaves g.M.Node.last in
    let old = c.args.self.now in
    let new = c.ask_server-answer.new.self in
    let done = c.ask_server-answer.ensures in
    let apart : c.args.node.0 ≢ 10 = eqb-false c.args.node.0 10 (sym c.eq.ensures ∙ c.if-eq.false) in
    server_asked n m old.nodes.items new.nodes.items new.nodes.items old.manager new.manager c.args.node.0 c.args.request c.ask_server-answer.result old.clock new.clock new.clock apart
    refl done.answered done.others (inl (ap (λ x. asked_of (m.trail x)) done.manager))

pub returns-else-has_stopped-clause-goes : goal.returns-else-has_stopped-clause-goes
returns-else-has_stopped-clause-goes g c =
    let n = meanings g.N.Node.named g.N.Node.trail g.N.Node.explains g.N.Node.leaves g.N.Node.last in
    let m = meanings g.M.Node.named g.M.Node.trail g.M.Node.explains g.M.Node.leaves g.M.Node.last in
    let old = c.args.self.now in
    let new = c.ask_server-answer.new.self in
    let done = c.ask_server-answer.ensures in
    server_goes n m old.nodes.items new.nodes.items old.manager new.manager c.args.node.0 c.args.request c.ask_server-answer.result old.clock new.clock done.clock done.manager done.count done.answered done.others
