-- A server's run without the Enlists that nobody was told of, in which each transaction enlists once.
use Rattle.std.proofs.Common.{◌≡◌, ◌≢◌, ◌∙◌, ℕ, ◌+◌, ◌<◌, ◌≤◌, Bool, true, false, List, [], ◌∷◌, ◌++◌, Some, ap, append_assoc, arith, inl, inr, length, map, refl, subst, sym}
use Rattle.std.specs.Prelude.{filter, slice_get, ◌==◌, ◌||◌, not}
use Rattle.std.proofs.lemmas.Bool.{eqb-true, false≢true}
use Rattle.std.proofs.lemmas.List.Elements.{filter-append}
use Rattle.hb_types.specs.declared.answer.Answer.{Answer}
use Rattle.hb_types.specs.declared.answer.Answer.TheVariants as answer
use Rattle.hb_types.specs.declared.change.LogItem.{LogItem}
use Rattle.hb_types.specs.declared.change.LogItem.TheVariants as item
use Rattle.hb_types.specs.declared.request.Request.{Request}
use Rattle.hb_types.specs.declared.request.Request.TheVariants as request
use Rattle.hb_types.specs.declared.trail.Call.{Call}
use Rattle.hb_types.specs.Lists.{Each, EachBehind, Has, IsIn}
use Rattle.hb_types.proofs.Ascending.{in_Each}
use Rattle.hb_types.proofs.PutLaws.{by_test}
use Rattle.hb_loglaws.proofs.Members.{Has-in, found, in_filter}
use Rattle.hb_disks.specs.Images.{Logs}
use Rattle.hb_disks.specs.LogPlaces.{end_behind}
use Rattle.hb_disks.specs.LogRules.{EndFits, IsBranchItem, LocksFit, LogOK}
use Rattle.hb_disks.specs.Redo.{Prepared, redo}
use Rattle.hb_disks.specs.Says.{prepares}
use Rattle.hb_disks.specs.StandsFor.{AllReserved, greatest_upto}
use Rattle.hb_runs.specs.Server.{SState}
use Rattle.hb_runs.specs.ServerEffects.{Effect, Steps}
use Rattle.hb_runs.specs.ServerRuns.{Asked, Run, Turns, stopped_at}
use Rattle.hb_law.specs.Callers.{AsksAt, MayEnlist, is_enlist}
use Rattle.hb_law.specs.Histories.{Labelled, Trails, asked_by, asked_of, calls_at, stands}
use Rattle.hb_law.specs.Transactions.{tx_asked}
use Rattle.hb_serverlaws.specs.Trails.{EnlistsOnce, IsFirst, noting, voted_in}
use Rattle.hb_coordlaws.specs.Ascending.{given}
use Rattle.hb_parts.specs.Callings.{Callings}
use Rattle.hb_parts.specs.Courses.{IsCourse, Within, is_own}
use Rattle.hb_parts.specs.Owning.{AskedOfGiven, GivenAreNew, OneOwner}
use Rattle.hb_parts.specs.Voting.{KeptRan, is_kept, kept}
use Rattle.hb_whose.proofs.Parts.{behind_at, is_there, kept_twice, stands_at, unkept}
use Rattle.hb_whose.proofs.Trailing.{each_got, got, own_of, own_parts}

-- ---- what was not kept did nothing

nothing_happens : (s : SState) (es : List Effect) (t : SState) → es ≡ [] → Steps s es t → s ≡ t
nothing_happens s es t is st = subst (λ l. Steps s l t) is st

idle : (q : Request) (a : Answer) (s u : SState) → is_kept (record { request = q; answer = a }) ≡ false → Turns s (record { request = q; answer = a }) u → s ≡ u
idle (request.Enlist tx) answer.NoMemory s u f t = nothing_happens s t.effects u t.causes t.steps
idle (request.Enlist tx) a s u f t = absurd (false≢true (sym f))
idle q a s u f t = absurd (false≢true (sym f))

run_kept : (s : SState) (xs : List Asked) (t : SState) → Run s xs t → Run s (filter is_kept xs) t
run_kept s [] t r = r
run_kept s (a ∷ more) t r =
    by_test (is_kept a)
    (λ k. rw k (r.0, r.1, run_kept r.0 more t r.2))
    (λ f. rw f (subst (λ z. Run z (filter is_kept more) t) (sym (idle a.request a.answer s r.0 f r.1)) (run_kept r.0 more t r.2)))

-- ---- one enlisting

abbrev IsEnlist : ℕ → Asked → Type 0
IsEnlist t a = a.request ≡ request.Enlist (record { 0 = t })

seen_more : (seen : List ℕ) (q : Request) (t : ℕ) → Each (λ y. y ≢ t) seen → (q ≡ request.Enlist (record { 0 = t }) → ⊥) → Each (λ y. y ≢ t) (noting seen q)
seen_more seen (request.Enlist tx) t e n = ((λ h. n (ap (λ z. request.Enlist (record { 0 = z })) h)), e)
seen_more seen q t e n = e

first_of : (seen : List ℕ) (q : Request) → ((t : ℕ) → q ≡ request.Enlist (record { 0 = t }) → Each (λ y. y ≢ t) seen) → IsFirst seen q
first_of seen (request.Enlist tx) f = f tx.0 refl
first_of seen q f = tt

once_by : (seen : List ℕ) (xs : List Asked)
    → ((f : List Asked) (a : Asked) (r : List Asked) → xs ≡ f ++ a ∷ r → (t : ℕ) → IsEnlist t a → Each (λ y. y ≢ t) seen × (Has (IsEnlist t) f → ⊥))
    → EnlistsOnce seen xs
once_by seen [] h = tt
once_by seen (a ∷ more) h = (
  first_of seen a.request (λ t e. (h [] a more refl t e).0),
  once_by (noting seen a.request) more
      (λ f b r e t i. let k = h (a ∷ f) b r (ap (λ l. a ∷ l) e) t i in (seen_more seen a.request t k.0 (λ q. k.1 (inl q)), λ x. k.1 (inr x))),
)

-- ---- from a node's calls back to the caller's

pub record Placed (node : ℕ) (calls : List Call) (xs : List Asked) (b : Asked) (ys : List Asked) : Type 0 where
  pub front : List Call
  pub call : Call
  pub back : List Call
  pub parts : calls ≡ front ++ call ∷ back
  pub at_node : call.node.0 ≡ node
  pub is : asked_by call ≡ b
  pub before : calls_at node front ≡ xs
  pub behind : calls_at node back ≡ ys

cons_is : (x b : Asked) (xs bs : List Asked) → x ∷ xs ≡ b ∷ bs → (x ≡ b) × (xs ≡ bs)
cons_is x b xs bs e = (cc, cc)

nil_is : (cs : List Asked) (b : Asked) (bs : List Asked) → [] ≡ cs ++ b ∷ bs → ⊥
nil_is [] b bs e = cc
nil_is (a ∷ cs) b bs e = cc

pub from_node : (node : ℕ) (calls : List Call) (xs : List Asked) (b : Asked) (ys : List Asked) → calls_at node calls ≡ xs ++ b ∷ ys → Placed node calls xs b ys
from_node node [] xs b ys e = absurd (nil_is xs b ys e)
from_node node (c ∷ cs) xs b ys e =
    by_test (c.node.0 == node)
    (λ t. taken xs (λ more h. from_node node cs more b ys h) t (rw t at e))
    (λ f. left f (from_node node cs xs b ys (rw f at e)))
  where
    left : (c.node.0 == node) ≡ false → Placed node cs xs b ys → Placed node (c ∷ cs) xs b ys
    left f k =
        record {
          front = c ∷ k.front;
          call = k.call;
          back = k.back;
          parts = ap
              (λ l. c ∷ l) k.parts;
          at_node = k.at_node;
          is = k.is;
          before = rw f k.before;
          behind = k.behind;
        }

    taken : (xs : List Asked) → ((more : List Asked) → calls_at node cs ≡ more ++ b ∷ ys → Placed node cs more b ys) → (c.node.0 == node) ≡ true
        → asked_by c ∷ calls_at node cs ≡ xs ++ b ∷ ys
        → Placed node (c ∷ cs) xs b ys
    taken [] rest t e =
        let k = cons_is (asked_by c) b (calls_at node cs) ys e in
        record { front = []; call = c; back = cs; parts = refl; at_node = eqb-true c.node.0 node t; is = k.0; before = refl; behind = k.1 }
    taken (a ∷ more) rest t e =
        let k = cons_is (asked_by c) a (calls_at node cs) (more ++ b ∷ ys) e in
        let u = rest more k.1 in
        record {
          front = c ∷ u.front;
          call = u.call;
          back = u.back;
          parts = ap (λ l. c ∷ l) u.parts;
          at_node = u.at_node;
          is = u.is;
          before = rw t (ap (λ l. asked_by c ∷ l) u.before ∙ ap (λ z. z ∷ more) k.0);
          behind = u.behind;
        }

-- ---- each server

-- the votes of a log that was reserved
pub votes_reserved : (upto : ℕ) (log : List LogItem) → AllReserved upto log → Each (λ (p : Prepared). p.tx ≤ upto) (prepares log)
votes_reserved upto [] e = tt
votes_reserved upto (item.Prepare tx floor locks changes ∷ is) e = (e.0, votes_reserved upto is e.1)
votes_reserved upto (item.Commit tx n ∷ is) e = votes_reserved upto is e.1
votes_reserved upto (item.Abort tx ∷ is) e = votes_reserved upto is e.1
votes_reserved upto (item.Decision tx n nodes ∷ is) e = votes_reserved upto is e.1
votes_reserved upto (item.Ids m ∷ is) e = votes_reserved upto is e.1

voted_below : (upto t : ℕ) (ps : List Prepared) → Each (λ p. p.tx ≤ upto) ps → upto < t → Each (λ y. y ≢ t) (map (λ (p : Prepared). p.tx) ps)
voted_below upto t [] e lt = tt
voted_below upto t (p ∷ ps) e lt = (clash p.tx e.0, voted_below upto t ps e.1 lt)
  where
    clash : (x : ℕ) → x ≤ upto → x ≡ t → ⊥
    clash x low q = omega (arith, low, lt, q)

abbrev pub Halves : Type 0
Halves = (log : List LogItem) → Each IsBranchItem log → EachBehind EndFits [] log → EachBehind LocksFit [] log → LogOK [] log

module _ (halves : Halves) (owner : OneOwner) (asked_given : AskedOfGiven) (news : GivenAreNew) (base logs : Logs) (trails : Trails)
    (lists : List (List Call)) (k : Callings base logs trails lists) where
  pub base_right : (i : ℕ) (before : List LogItem) → slice_get base.servers i ≡ Some before → LogOK [] before
  base_right i before h =
      halves before (each_got (Each IsBranchItem) base.servers i before k.right.log_grammar.servers h)
      (each_got (EachBehind EndFits []) base.servers i before k.right.votes_and_outcomes.ends h)
      (each_got (EachBehind LocksFit []) base.servers i before k.right.prepared_locks h)

  module _ (fes : List Labelled) (at : slice_get trails 0 ≡ Some fes) (node : ℕ) (trail : List Labelled) (got_trail : slice_get trails node ≡ Some trail) where
    wider : (t : ℕ) (a : Asked) → is_own t a ≡ true → is_kept a ≡ true
    wider t a u = let s = (own_parts t a u).1 in rw s (or_true (not (is_enlist a.request)))
      where
        or_true : (b : Bool) → (b || true) ≡ true
        or_true true = refl
        or_true false = refl

    enlist_own : (t : ℕ) (a : Asked) → is_kept a ≡ true → IsEnlist t a → is_own t a ≡ true
    enlist_own t a h e = own_of t a (ap tx_asked e) (subst (λ q. (not (is_enlist q) || stands a) ≡ true) e h)

    enlist_given : (t : ℕ) (a : Asked) → IsIn a (kept trail) → IsEnlist t a → IsIn t (given (asked_of fes))
    enlist_given t a i e =
        let f = in_filter is_kept a (asked_of trail) i in asked_given base logs trails lists fes trail node t a k at got_trail f.0 (enlist_own t a f.1 e)

    -- two enlistings of one transaction
    twice : (t : ℕ) (f : List Asked) (a : Asked) (r : List Asked) → kept trail ≡ f ++ a ∷ r → IsEnlist t a → Has (IsEnlist t) f → ⊥
    twice t f a r e i h =
        let b = found (IsEnlist t) f h in
        let s = stands_at b.0 f b.1 in
        let parts : kept trail ≡ s.front ++ b.0 ∷ (s.back ++ a ∷ r) = e ∙ ap (λ l. l ++ a ∷ r) s.parts ∙ append_assoc s.front (b.0 ∷ s.back) (a ∷ r) in
        let a_in : IsIn a (kept trail) = subst (IsIn a) (sym e) (is_there a f r) in
        let b_in : IsIn b.0 (kept trail) = subst (IsIn b.0) (sym parts) (is_there b.0 s.front (s.back ++ a ∷ r)) in
        let a_own = enlist_own t a (in_filter is_kept a (asked_of trail) a_in).1 i in
        let b_own = enlist_own t b.0 (in_filter is_kept b.0 (asked_of trail) b_in).1 b.2 in
        let o = owner base logs trails lists fes t k at (enlist_given t a a_in i) in
        let same : filter (is_own t) (calls_at node o.course) ≡ filter (is_own t) s.front ++ b.0 ∷ (filter (is_own t) s.back ++ a ∷ filter (is_own t) r) =
        sym (o.in_trails node trail got_trail) ∙ sym (kept_twice (is_own t) is_kept (wider t) (asked_of trail)) ∙ ap (filter (is_own t)) parts
        ∙ filter-append (is_own t) s.front (b.0 ∷ (s.back ++ a ∷ r)) ∙ ap (λ l. filter (is_own t) s.front ++ l) (behind b.0 s.back b_own a_own) in
        let u = unkept (is_own t) (calls_at node o.course) (filter (is_own t) s.front) b.0 (filter (is_own t) s.back ++ a ∷ filter (is_own t) r) same in
        let v = unkept (is_own t) u.back (filter (is_own t) s.back) a (filter (is_own t) r) u.behind in
        let c = from_node node o.course u.front b.0 u.back u.parts in
        let d = from_node node c.back v.front a v.back (c.behind ∙ v.parts) in
        let whole : o.course ≡ (c.front ++ c.call ∷ d.front) ++ d.call ∷ d.back = c.parts ∙ ap (λ l. c.front ++ c.call ∷ l) d.parts
        ∙ assoc c.front c.call d.front d.call d.back in
        let q : d.call.request ≡ request.Enlist (record { 0 = t }) = ap (λ z. z.request) d.is ∙ i in
        let w : (t ≡ t) × MayEnlist d.call.node.0 (c.front ++ c.call ∷ d.front) = subst (Within t (c.front ++ c.call ∷ d.front) d.call.node.0) q
        (behind_at (λ f y. Within t f y.node.0 y.request) [] (c.front ++ c.call ∷ d.front) d.call d.back (subst (IsCourse t) whole o.is_course)) in
        w.1.once (Has-in (AsksAt is_enlist d.call.node.0) c.call (c.front ++ c.call ∷ d.front) (is_there c.call c.front d.front)
        (c.at_node ∙ sym d.at_node, ap is_enlist (ap (λ z. z.request) c.is ∙ b.2)))
      where
        assoc : (xs : List Call) (x : Call) (ys : List Call) (y : Call) (zs : List Call) → xs ++ x ∷ (ys ++ y ∷ zs) ≡ (xs ++ x ∷ ys) ++ y ∷ zs
        assoc xs x ys y zs = sym (append_assoc xs (x ∷ ys) (y ∷ zs))

        behind : (b : Asked) (m : List Asked) → is_own t b ≡ true → is_own t a ≡ true
            → filter (is_own t) (b ∷ (m ++ a ∷ r)) ≡ b ∷ (filter (is_own t) m ++ a ∷ filter (is_own t) r)
        behind b m x y = rw x (ap (λ l. b ∷ l) (filter-append (is_own t) m (a ∷ r) ∙ ap (λ l. filter (is_own t) m ++ l) (rw y refl)))

    once : (before : List LogItem) → AllReserved (greatest_upto base.fes) before → EnlistsOnce (voted_in before) (kept trail)
    once before res =
        once_by (voted_in before) (kept trail)
        (λ f a r e t i. (
          voted_below (greatest_upto base.fes) t (prepares before) (votes_reserved (greatest_upto base.fes) before res)
              (in_Each (λ y. greatest_upto base.fes < y) t (given (asked_of fes)) (enlist_given t a (subst (IsIn a) (sym e) (is_there a f r)) i)
              (news base logs trails lists fes k at)),
          twice t f a r e i,
        ))

  pub kept_ran : (i : ℕ) (before after : List LogItem) (trail : List Labelled) → slice_get base.servers i ≡ Some before → slice_get logs.servers i ≡ Some after
      → slice_get trails (i + 1) ≡ Some trail → KeptRan before after trail
  kept_ran i before after trail b a t =
      let n : length trails ≡ length base.servers + 1 = k.nodes.nodes in
      let fes = got trails 0 (omega (arith, n)) in
      let r = k.nodes.servers i before after trail b a t in
      record {
        last = r.last;
        ran =
            record {
              is_right = base_right i before b;
              run = run_kept (stopped_at (redo before) (end_behind 0 before)) (asked_of trail) r.last r.ran;
              once =
                  once fes.0 fes.1 (i + 1) trail t before
                  (each_got (AllReserved (greatest_upto base.fes)) base.servers i before k.right.transaction_numbers.servers b);
            };
        log = r.log;
      }
