-- The nodes of a run: their clock goes on, and what each was asked is as before where the clock alone was raised.
use Rattle.std.proofs.Common.{◌≡◌, ℕ, ◌≤◌, ◌==◌, List, [], ◌++◌, Global, sym, ◌∙◌, ap, subst, append_assoc, arith}
use Rattle.std.specs.declared.vec.Vec.{Vec}
use Rattle.std.proofs.lemmas.List.{append-nil}
use Rattle.hb_node.specs.Laws.{State}
use Rattle.hb_runs.specs.ServerRuns.{Asked}
use Rattle.hb_stepper.specs.Adding.{Adds}
use Rattle.hb_node.specs.Lists.{Lists, Onward, here, onward}
use Rattle.hb_reach.specs.declared.reach.Reach.{Reach}
use Rattle.hb_reach.specs.Told.{Meanings, Seen, Told, seen, told_at, mgr}
use Rattle.hb_acts.specs.Leaving.{NodesLeft}
use Rattle.hb_reach.specs.Goes.{Goes, IsLawful}

-- calls one behind another, and then more of them
pub onward_then : {R : Type 0} (goes : R → R → Type 0) (from mid to : R) → Onward goes from mid → Onward goes mid to → Onward goes from to
onward_then goes from mid to first here = first
onward_then goes from mid to first (onward m last before step) = onward m last (onward_then goes from mid m first before) step

-- one call, and then more of them
pub onward_after : {R : Type 0} (goes : R → R → Type 0) (from mid to : R) → goes from mid → Onward goes mid to → Onward goes from to
onward_after goes from mid to step more = onward_then goes from mid to (onward from mid here step) more

abbrev pub told_now : {N M : Type 0} → Meanings N → Meanings M → Reach N M → Seen
told_now n m r = seen n m r.nodes.items r.manager r.clock

abbrev pub lists_now : {N M : Type 0} → Meanings N → Meanings M → Reach N M → Lists
lists_now n m r = λ name. ((told_now n m r).node name).list

pub lists_same : {N M : Type 0} (n : Meanings N) (m : Meanings M) (old new : Reach N M) → new.nodes ≡ old.nodes → new.manager ≡ old.manager → lists_now n m new ≡ lists_now n m old
lists_same {N} {M} n m old new nodes manager =
    ap (λ (v : Vec N Global). λ (name : ℕ). (told_at n m v.items new.manager name (name == mgr)).list) nodes ∙ ap (λ (x : M). λ (name : ℕ). (told_at n m old.nodes.items x name (name == mgr)).list) manager

adds_none : (old : List Asked) → Adds old old
adds_none old = ([], sym (append-nil old))

adds_more : (old mid new : List Asked) → Adds old mid → Adds mid new → Adds old new
adds_more old mid new first then = (first.0 ++ then.0, then.1 ∙ ap (λ (l : List Asked). l ++ then.0) first.1 ∙ append_assoc old first.0 then.0)

-- what each node was asked is only added to
pub lists_on : {R : Type 0} (at : R → Seen) (from to : R) → Onward (λ a b. Goes (at a) (at b)) from to → (node : ℕ) → Adds ((at from).node node).list ((at to).node node).list
lists_on at from to here node = adds_none ((at from).node node).list
lists_on at from to (onward mid last before step) node = adds_more _ _ _ (lists_on at from mid before node) (step.each node).longer

-- whatever a stop leaves of a node is what its list makes of the same state
pub lawful_on : {R : Type 0} (at : R → Seen) (from to : R) → Onward (λ a b. Goes (at a) (at b)) from to → (node : ℕ) (origin : State) → IsLawful (at from).moment origin ((at from).node node) → IsLawful (at to).moment origin ((at to).node node)
lawful_on at from to here node origin law = law
lawful_on at from to (onward mid last before step) node origin law = (step.each node).law origin (lawful_on at from mid before node origin law)

pub moment_on : {R : Type 0} (at : R → Seen) (from to : R) → Onward (λ a b. Goes (at a) (at b)) from to → (at from).moment ≤ (at to).moment
moment_on at from to here = omega arith
moment_on at from to (onward mid last before step) = omega (arith, moment_on at from mid before, step.clock)

later_lawful : (at to : ℕ) (origin : State) (told : Told) → at ≤ to → IsLawful at origin told → IsLawful to origin told
later_lawful at to origin told later law = record {
  explained = law.explained;
  in_time = omega (arith, law.in_time, later);
  images = λ k log area after left. law.images k log area (omega (arith, after, later)) left;
}

-- what is left of the nodes where calls were made of them
pub nodes_left : {N M : Type 0} (n : Meanings N) (m : Meanings M) (from to : ℕ) (old new : Vec N Global) (manager : M) (start end : Reach N M) (lists : Lists)
    → start ≡ record { nodes = old; manager = manager; clock = from } → new ≡ end.nodes → lists ≡ lists_now n m end → end.clock ≤ to
    → Onward (λ a b. Goes (told_now n m a) (told_now n m b)) start end → NodesLeft n m from to old.items manager lists new.items
nodes_left {N} {M} n m from to old new manager start end lists begins given listed behind goes = record {
  last = end.manager;
  listed = listed ∙ ap (λ (v : Vec N Global). λ (node : ℕ). (told_at n m v.items end.manager node (node == mgr)).list) (sym given);
  lawful = λ node origin law. later_lawful end.clock to origin (told_at n m new.items end.manager node (node == mgr)) behind
      (subst (λ (v : Vec N Global). IsLawful end.clock origin (told_at n m v.items end.manager node (node == mgr))) (sym given)
      (lawful_on (told_now n m) start end goes node origin (subst (λ (r : Reach N M). IsLawful r.clock origin ((told_now n m r).node node)) (sym begins) law)));
}
