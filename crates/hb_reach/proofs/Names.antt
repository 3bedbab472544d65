-- Nodes keep their names through any calls.
use Rattle.std.proofs.Common.{◌≡◌, ◌≢◌, ℕ, ◌≤◌, ◌<◌, ◌==◌, Bool, true, false, List, length, get_or, sym, ap, subst, refl, ◌∙◌, unwrap_or, arith}
use Rattle.std.specs.Prelude.{Option, Some, slice_get}
use Rattle.std.proofs.lemmas.Bool.{ne_eqb}
use Rattle.std.proofs.lemmas.Option.{slice_get-get_or}
use Rattle.hb_node.specs.Lists.{Onward, here, onward}
use Rattle.hb_reach.specs.Told.{Meanings, Seen, told_of, told_at, seen, mgr}
use Rattle.hb_reach.specs.Goes.{Goes}
use Rattle.hb_reach.specs.Names.{AreNumbered}
use Rattle.hb_reach.proofs.Going.{goes_same, goes_on}

pub goes_all : {R : Type 0} (at : R → Seen) (from to : R) → Onward (λ a b. Goes (at a) (at b)) from to → Goes (at from) (at to)
goes_all at from to here = goes_same (at from)
goes_all at from to (onward mid last before step) = goes_on (at from) (at mid) (at to) (goes_all at from mid before) step

named_by : {N : Type 0} (n : Meanings N) (olds news : List N) (k : ℕ) (d : N) → k < length olds → k < length news → (told_of n (slice_get news k)).named ≡ (told_of n (slice_get olds k)).named → n.named (get_or news k d) ≡ n.named (get_or olds k d)
named_by {N} n olds news k d was is same =
    let name : Option N → Option ℕ = λ o. (told_of n o).named in
    ap (λ (o : Option ℕ). unwrap_or o 0) (ap name (sym (slice_get-get_or news k d is)) ∙ same ∙ ap name (slice_get-get_or olds k d was))

pub numbered_by : {N M : Type 0} (n : Meanings N) (m : Meanings M) (olds news : List N) (was is : M) (from to : ℕ) → Goes (seen n m olds was from) (seen n m news is to) → length olds ≤ mgr → AreNumbered n.named olds → AreNumbered n.named news
numbered_by {N} {M} n m olds news was is from to goes few are k d within =
    let inside : k < length olds = omega (arith, within, goes.count) in
    let apart : k ≢ mgr = λ e. omega (arith, inside, few, e) in
    let P : Bool → Type 0 = λ b. (told_at n m news is k b).named ≡ (told_at n m olds was k b).named in
    named_by n olds news k d inside within (subst P (ne_eqb k mgr apart) (goes.each k).named) ∙ are k d inside
