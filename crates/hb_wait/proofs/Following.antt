-- One call of a course is one step of what its talk follows.
use Rattle.std.proofs.Common.{◌≡◌, true, false, List, ◌∷◌, Some, refl, subst}
use Rattle.std.proofs.lemmas.Bool.{false≢true}
use Rattle.hb_types.specs.declared.answer.Answer.{Answer}
use Rattle.hb_types.specs.declared.answer.Answer.TheVariants as answer
use Rattle.hb_types.specs.declared.lock.Holder.{Holder}
use Rattle.hb_types.specs.declared.lock.Mode.{Mode}
use Rattle.hb_types.specs.declared.names.NodeName.{NodeName}
use Rattle.hb_types.specs.declared.places.Path.{Path}
use Rattle.hb_types.specs.declared.request.Request.{Request}
use Rattle.hb_types.specs.declared.request.Request.TheVariants as request
use Rattle.hb_types.specs.declared.trail.Call.{Call}
use Rattle.hb_model.specs.Answers.{call}
use Rattle.hb_talk.specs.Talk.{Talk, says, asks, Follows, asked, waits, gone, dies, not_yet, ready, mgr}
use Rattle.hb_wait.specs.Waiting.{lock_of, heard, after_request, after_wait, after_ready, node_asked, request_asked}
use Rattle.hb_wait.specs.Courses.{Course, free, halted, next_in, by_heard, after_call, FollowsIn, IsExpected, Leads}
use Rattle.hb_wait.specs.declared.pending.Lock.{Lock}
use Rattle.hb_wait.specs.declared.pending.Pending.{Pending}
use Rattle.hb_wait.specs.declared.pending.Pending.TheVariants as pending

plain : {R : Type 0} (node : NodeName) (q : Request) (k : Answer → Talk R) (a : Answer) (cs : List Call) (r : R)
    → IsExpected (pending.Asks node q) a → FollowsIn (by_heard k (after_request node q a)) cs r → Follows false (asks node.0 q k) (call node.0 q a ∷ cs) r
plain node (request.Lock tx p m) k (answer.Blocked path wanted holders) cs r is f = f
plain node (request.Lock tx p m) k a cs r is f = asked a refl f
plain node q k a cs r is f = asked a is f

waited : {R : Type 0} (l : Lock) (path : Path) (wanted : Mode) (holders : List Holder) (k : Answer → Talk R) (a : Answer) (cs : List Call) (r : R)
    → IsExpected (pending.Blocked l path wanted holders) a → FollowsIn (by_heard k (after_wait l a)) cs r
    → Follows false (asks l.node.0 (lock_of l) k)
    (call l.node.0 (lock_of l) (answer.Blocked path wanted holders) ∷ call mgr (request.Wait l.tx l.node path wanted holders) a ∷ cs) r
waited l path wanted holders k (answer.Waiting edges) cs r is f = waits l.tx l.path path l.mode wanted holders edges f
waited l path wanted holders k answer.Gone cs r is f = gone l.tx l.path path l.mode wanted holders f
waited l path wanted holders k (answer.Cycle edges) cs r is f = dies l.tx l.path path l.mode wanted holders (answer.Cycle edges) refl f
waited l path wanted holders k answer.NoMemory cs r is f = dies l.tx l.path path l.mode wanted holders answer.NoMemory refl f
waited l path wanted holders k _ cs r is f = absurd (false≢true is)

readied : {R : Type 0} (l : Lock) (k : Answer → Talk R) (a : Answer) (cs : List Call) (r : R)
    → IsExpected (pending.Waits l) a → FollowsIn (by_heard k (after_ready l a)) cs r
    → Follows true (asks l.node.0 (lock_of l) k) (call mgr (request.Ready l.tx) a ∷ cs) r
readied l k (answer.NotYet target) cs r is f = not_yet l.tx target f
readied l k answer.Ready cs r is f = ready l.tx f
readied l k _ cs r is f = absurd (false≢true is)

-- the pending request that is next is the one that is asked
by_next : {R : Type 0} (c : Course R) (p : Pending) (a : Answer) → next_in c ≡ Some p → IsExpected p a → (cs : List Call) (r : R)
    → FollowsIn (after_call c a) cs r → FollowsIn c (call (node_asked p) (request_asked p) a ∷ cs) r
by_next (free (asks node q k)) p a next is cs r f =
    let e : pending.Asks (record { 0 = node }) q ≡ p = cc in
    subst (λ x. IsExpected x a → FollowsIn (free (asks node q k)) (call (node_asked x) (request_asked x) a ∷ cs) r) e
    (λ h. plain (record { 0 = node }) q k a cs r h f) is
by_next (free (says s)) p a next is cs r f = absurd (cc next)
by_next (halted q k) p a next is cs r f =
    let e : q ≡ p = cc in
    subst (λ x. IsExpected x a → FollowsIn (halted q k) (call (node_asked x) (request_asked x) a ∷ cs) r) e (λ h. of q h f) is
  where
    of : (q : Pending) → IsExpected q a → FollowsIn (by_heard k (heard q a)) cs r → FollowsIn (halted q k) (call (node_asked q) (request_asked q) a ∷ cs) r
    of (pending.Asks node q) h g = plain node q k a cs r h g
    of (pending.Blocked l path wanted holders) h g = waited l path wanted holders k a cs r h g
    of (pending.Waits l) h g = readied l k a cs r h g

pub leads : {R : Type 0} (c : Course R) (p : Pending) (a : Answer) → next_in c ≡ Some p → IsExpected p a → Leads c p a
leads c p a next is = record { follows = by_next c p a next is }
