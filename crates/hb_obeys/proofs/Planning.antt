-- Plans whose requests are all permitted, step by step.
use Rattle.std.proofs.Common.{◌≡◌, inl, inr, ◌⊎◌, ℕ, ◌+◌, List, [], ◌∷◌, Option, Some, None, Result, Ok, Err, Bool, true, false, cond, refl, subst, sym, ◌∙◌}
use Rattle.std.specs.Prelude.{nat_le, nat_lt}
use Rattle.std.proofs.lemmas.Bool.{false≢true}
use Rattle.hb_types.specs.declared.answer.Answer.{Answer}
use Rattle.hb_types.specs.declared.answer.Answer.TheVariants as answer
use Rattle.hb_types.specs.declared.change.Change.{Change}
use Rattle.hb_types.specs.declared.lock.Mode.{Mode}
use Rattle.hb_types.specs.declared.places.Path.{Path}
use Rattle.hb_types.specs.declared.places.Place.{Place}
use Rattle.hb_types.specs.declared.places.Space.{Space}
use Rattle.hb_types.specs.declared.request.Request.TheVariants as request
use Rattle.hb_types.specs.Lists.{Each, IsIn}
use Rattle.hb_types.specs.Places.{node_of_area}
use Rattle.hb_types.proofs.Ascending.{Each-of, in_Each}
use Rattle.hb_model.specs.declared.reply.Reply.{Reply}
use Rattle.hb_model.specs.declared.reply.Reply.TheVariants as reply
use Rattle.hb_model.specs.Does.{most_bytes}
use Rattle.hb_model.specs.Needs.{most_locks}
use Rattle.hb_model.specs.NodeSets.{has_node, with_node}
use Rattle.hb_talk.specs.Plans.{sizes, some_or, writes, writing}
use Rattle.hb_talk.specs.Sessions.{rolls_back}
use Rattle.hb_talk.specs.Talk.{says, and_then, Use, Planning, ◌>>=◌, ◌>>◌, pure, refused, refuse, lock, read, scan, scan_group, write, enlisted, joining, refusal_of, expect, done, the_row, the_rows, met, the_tx}
use Rattle.hb_talk.proofs.Bits.{with_it, with_others}
use Rattle.hb_obeys.proofs.Obeying.{Always, Caller, always_bind, always_weaker}
use Rattle.hb_obeys.proofs.Permits.{IsEarly, may_enlist, may_ask}
use Rattle.hb_obeys.proofs.Standing.{Moment, inside, working}

-- a transaction between statements, or in one, of so many that begun
abbrev pub within : ℕ → Use → Moment
within begun u = inside begun (working u)

-- a use of the same transaction, with no node less
pub record IsWider (u w : Use) : Type 0 where
  pub tx : w.tx ≡ u.tx
  pub nodes : (n : ℕ) → has_node u.used n ≡ true → has_node w.used n ≡ true

-- the calls come to a wider use
pub record StandsWider (begun : ℕ) (u : Use) (m : Moment) : Type 0 where
  pub wide : Use
  pub stands : m ≡ within begun wide
  pub wider : IsWider u wide

-- behind a refusal the calls come to the use; there may be more nodes enlisted than are used where the transaction is rolled back for it
abbrev pub StandsRefused : ℕ → Moment → Reply → Use → Type 0
StandsRefused begun m e u = (m ≡ within begun u) ⊎ ((rolls_back e ≡ true) × StandsWider begun u m)

-- behind any end of a plan
abbrev pub StandsAs : {A : Type 0} → ℕ → Moment → Result A Reply → Use → Type 0
StandsAs begun m (Ok a) u = m ≡ within begun u
StandsAs begun m (Err e) u = StandsRefused begun m e u

-- the transaction goes on, with no node less
pub record Goes {A : Type 0} (begun : ℕ) (u : Use) (m : Moment) (r : Result A Reply × Use) : Type 0 where
  pub stands : StandsAs begun m r.0 r.1
  pub tx : r.1.tx ≡ u.tx
  pub nodes : (n : ℕ) → has_node u.used n ≡ true → has_node r.1.used n ≡ true

-- unless it is refused, the node is used
abbrev pub IsThere : {A : Type 0} → ℕ → Result A Reply → Use → Type 0
IsThere node (Ok a) u = has_node u.used node ≡ true
IsThere node (Err e) u = Unit {0}

pub record GoesAt {A : Type 0} (node begun : ℕ) (u : Use) (m : Moment) (r : Result A Reply × Use) : Type 0 where
  pub goes : Goes begun u m r
  pub there : IsThere node r.0 r.1

pub wide_as_it_is : (u : Use) → IsWider u u
wide_as_it_is u = record { tx = refl; nodes = λ n h. h }

-- a use with one node more
pub wider_by : (u : Use) (node : ℕ) → IsWider u (record u { used = with_node u.used node })
wider_by u node = record { tx = refl; nodes = λ n h. with_others u.used node n h }

-- behind a refusal the calls come to a wider use
pub stands_wider : (begun : ℕ) (u : Use) (m : Moment) (e : Reply) → StandsRefused begun m e u → StandsWider begun u m
stands_wider begun u m e (inl same) = record { wide = u; stands = same; wider = wide_as_it_is u }
stands_wider begun u m e (inr more) = more.1

-- behind one for which the transaction goes on they come to the use
pub stands_same : (begun : ℕ) (u : Use) (m : Moment) (e : Reply) → StandsRefused begun m e u → rolls_back e ≡ false → m ≡ within begun u
stands_same begun u m e (inl same) goes = same
stands_same begun u m e (inr more) goes = absurd (false≢true (sym goes ∙ more.0))

stands_here : {A : Type 0} (begun : ℕ) (u : Use) (r : Result A Reply) → StandsAs begun (within begun u) r u
stands_here begun u (Ok a) = refl
stands_here begun u (Err e) = inl refl

there_still : {A : Type 0} (node : ℕ) (u : Use) (r : Result A Reply) → has_node u.used node ≡ true → IsThere node r u
there_still node u (Ok a) there = there
there_still node u (Err e) there = tt

pub goes_nowhere : {A : Type 0} (begun : ℕ) (u : Use) (r : Result A Reply) → Goes begun u (within begun u) (r, u)
goes_nowhere begun u r = record { stands = stands_here begun u r; tx = refl; nodes = λ n h. h }

-- every answer other than the one asked for rolls the transaction back
pub refusals_roll_back : (node : ℕ) (a : Answer) → rolls_back (refusal_of node a) ≡ true
refusals_roll_back node answer.Down = refl
refusals_roll_back node (answer.Fault area) = refl
refusals_roll_back node (answer.Cycle edges) = refl
refusals_roll_back node answer.NumbersSpent = refl
refusals_roll_back node answer.NoMemory = refl
refusals_roll_back node _ = refl

pub goes_further : {A B : Type 0} (begun : ℕ) (u : Use) (s z : Moment) (r : Result A Reply × Use) (q : Result B Reply × Use) → Goes begun u s r → Goes begun r.1 z q → Goes begun u z q
goes_further begun u s z r q g h = record { stands = h.stands; tx = h.tx ∙ g.tx; nodes = λ n x. h.nodes n (g.nodes n x) }

pub early : (u : Use) → IsEarly (working u)
early u = record { undecided = refl; not_undone = refl }

-- what is false is not true
pub plainly : {P : Type 0} → false ≡ true → P
plainly e = absurd (false≢true e)

module _ (w : Caller) (begun : ℕ) where
  -- from these nodes on, the plan's requests are permitted
  pub record Keeps {A : Type 0} (nodes : List ℕ) (p : Planning A) : Type 0 where
    pub holds : (u : Use) → Each (λ n. has_node u.used n ≡ true) nodes → Always w (p u) (within begun u) (Goes begun u)

  pub keeps_more : {A : Type 0} (nodes : List ℕ) (p : Planning A) → Keeps [] p → Keeps nodes p
  keeps_more nodes p k = record { holds = λ u e. k.holds u tt }

  pub keeps_bind : {A B : Type 0} (nodes : List ℕ) (p : Planning A) (f : A → Planning B) → Keeps nodes p → ((a : A) → Keeps [] (f a)) → Keeps nodes (p >>= f)
  keeps_bind {A} {B} nodes p f k g = record {
    holds = λ u e. always_bind w (p u) (λ r. and_then f r.1 r.0) (within begun u) (Goes begun u)
        (always_weaker w (p u) (within begun u) (Goes begun u) (λ s r. Always w (and_then f r.1 r.0) s (Goes begun u)) (over u) (k.holds u e));
  }
    where
      over : (u : Use) (s : Moment) (r : Result A Reply × Use) → Goes begun u s r → Always w (and_then f r.1 r.0) s (Goes begun u)
      over u s (Ok a, v) h =
          subst (λ z. Always w (f a v) z (Goes begun u)) (sym h.stands)
          (always_weaker w (f a v) (within begun v) (Goes begun v) (Goes begun u) (λ z q i. goes_further begun u s z (Ok a, v) q h i) ((g a).holds v tt))
      over u s (Err x, v) h = record { stands = h.stands; tx = h.tx; nodes = h.nodes }

  pub keeps_then : {A B : Type 0} (nodes : List ℕ) (p : Planning A) (q : Planning B) → Keeps nodes p → Keeps [] q → Keeps nodes (p >> q)
  keeps_then nodes p q k l = keeps_bind nodes p (λ _. q) k (λ _. l)

  pub keeps_pure : {A : Type 0} (a : A) → Keeps [] (pure a)
  keeps_pure a = record { holds = λ u e. goes_nowhere begun u (Ok a) }

  pub keeps_refused : {A : Type 0} (r : Reply) → Keeps [] (refused {A = A} r)
  keeps_refused r = record { holds = λ u e. goes_nowhere begun u (Err r) }

  pub keeps_refuse : (o : Option Reply) → Keeps [] (refuse o)
  keeps_refuse None = keeps_pure tt
  keeps_refuse (Some r) = keeps_refused r

  pub keeps_some_or : {A : Type 0} (r : Reply) (o : Option A) → Keeps [] (some_or r o)
  keeps_some_or r None = keeps_refused r
  keeps_some_or r (Some x) = keeps_pure x

  -- ---- requests at a node that is there

  there_of : (u : Use) (nodes : List ℕ) (node : ℕ) → IsIn node nodes → Each (λ n. has_node u.used n ≡ true) nodes → has_node u.used node ≡ true
  there_of u nodes node i e = in_Each (λ n. has_node u.used n ≡ true) node nodes i e

  pub keeps_read : (nodes : List ℕ) (node : ℕ) (place : Place) → IsIn node nodes → Keeps nodes (read node place)
  keeps_read nodes node place i = record {
    holds = λ u e. ((plainly, λ front st. may_ask (working u) front node (early u) (there_of u nodes node i e) (λ h. h) st.stands), λ a. goes_nowhere begun u (met node a (the_row a)));
  }

  pub keeps_scan : (nodes : List ℕ) (node : ℕ) (space : Space) → IsIn node nodes → Keeps nodes (scan node space)
  keeps_scan nodes node space i = record {
    holds = λ u e. ((plainly, λ front st. may_ask (working u) front node (early u) (there_of u nodes node i e) (λ h. h) st.stands), λ a. goes_nowhere begun u (met node a (the_rows a)));
  }

  pub keeps_scan_group : (nodes : List ℕ) (node : ℕ) (space : Space) (group : ℕ) → IsIn node nodes → Keeps nodes (scan_group node space group)
  keeps_scan_group nodes node space group i = record {
    holds = λ u e. ((plainly, λ front st. may_ask (working u) front node (early u) (there_of u nodes node i e) (λ h. h) st.stands), λ a. goes_nowhere begun u (met node a (the_rows a)));
  }

  -- ---- Enlist where it is the first request at a node

  enlists : (node : ℕ) (u : Use) → Always w (enlisted node u) (within begun u) (GoesAt node begun u)
  enlists node u = cases (has_node u.used node) refl
    where
      v : Use
      v = record u { used = with_node u.used node }

      joined : GoesAt {A = Unit {0}} node begun u (within begun v) (Ok tt, v)
      joined = record { goes = record { stands = refl; tx = refl; nodes = λ n h. with_others u.used node n h }; there = with_it u.used node }

      lost : (a : Answer) → GoesAt {A = Unit {0}} node begun u (within begun v) (Err (refusal_of node a), u)
      lost a = record {
        goes = record { stands = inr (refusals_roll_back node a, record { wide = v; stands = refl; wider = wider_by u node }); tx = refl; nodes = λ n h. h };
        there = tt;
      }

      cases : (b : Bool) → has_node u.used node ≡ b
          → Always w (cond b (says (Ok tt, u)) ((expect done node (request.Enlist (the_tx u)) >> joining node) u)) (within begun u) (GoesAt node begun u)
      cases true e = record { goes = goes_nowhere begun u (Ok tt); there = e }
      cases false e = (
        (plainly, λ front st. may_enlist (working u) front node (early u) e st.stands),
        λ a. elim a as (λ x. Always w (and_then (λ _. joining node) u (met node x (done x))) (within begun v) (GoesAt node begun u)) [ answer.Done ↦ joined | x ↦ lost x ],
      )

  -- what follows an Enlist
  behind_enlist : (node : ℕ) (p : Planning (Unit {0})) → ((v : Use) → has_node v.used node ≡ true → Always w (p v) (within begun v) (GoesAt node begun v))
      → (u : Use) → Always w ((enlisted node >> p) u) (within begun u) (GoesAt node begun u)
  behind_enlist node p k u =
      always_bind w (enlisted node u) (λ r. and_then (λ _. p) r.1 r.0) (within begun u) (GoesAt node begun u)
      (always_weaker w (enlisted node u) (within begun u) (GoesAt node begun u) (λ s r. Always w (and_then (λ _. p) r.1 r.0) s (GoesAt node begun u)) over (enlists node u))
    where
      over : (s : Moment) (r : Result (Unit {0}) Reply × Use) → GoesAt node begun u s r → Always w (and_then (λ _. p) r.1 r.0) s (GoesAt node begun u)
      over s (Ok a, v) h =
          subst (λ z. Always w (p v) z (GoesAt node begun u)) (sym h.goes.stands)
          (always_weaker w (p v) (within begun v) (GoesAt node begun v) (GoesAt node begun u) (λ z q i. record { goes = goes_further begun u s z (Ok a, v) q h.goes i.goes; there = i.there }) (k v h.there))
      over s (Err x, v) h = h

  locks : (node : ℕ) (p : Path) (m : Mode) (u : Use) → Always w (lock node p m u) (within begun u) (GoesAt node begun u)
  locks node p m u = behind_enlist node asking (λ v there. by_limit v there (nat_le most_locks v.locks)) u
    where
      asking : Planning (Unit {0})
      asking = λ v. cond (nat_le most_locks v.locks) (says (Err reply.TooMuch, v)) (expect done node (request.Lock (the_tx v) p m) (record v { locks = v.locks + 1 }))

      by_limit : (v : Use) → has_node v.used node ≡ true → (b : Bool)
          → Always w (cond b (says (Err reply.TooMuch, v)) (expect done node (request.Lock (the_tx v) p m) (record v { locks = v.locks + 1 }))) (within begun v) (GoesAt node begun v)
      by_limit v there true = record { goes = goes_nowhere begun v (Err reply.TooMuch); there = tt }
      by_limit v there false =
          let more : Use = record v { locks = v.locks + 1 } in (
            (plainly, λ front st. may_ask (working v) front node (early v) there (λ h. h) st.stands),
            λ a. record {
              goes = record { stands = stands_here begun more (met node a (done a)); tx = refl; nodes = λ n h. h };
              there = there_still node more (met node a (done a)) there;
            },
          )

  pub keeps_lock : (node : ℕ) (p : Path) (m : Mode) → Keeps [] (lock node p m)
  keeps_lock node p m = record {
    holds = λ u e. always_weaker w (lock node p m u) (within begun u) (GoesAt node begun u) (Goes begun u) (λ z r h. h.goes) (locks node p m u);
  }

  -- behind a Lock its node is there
  pub keeps_locked : {B : Type 0} (nodes : List ℕ) (node : ℕ) (p : Path) (m : Mode) (q : Planning B) → Keeps (node ∷ nodes) q → Keeps nodes (lock node p m >> q)
  keeps_locked {B} nodes node p m q k = record {
    holds = λ u e. always_bind w (lock node p m u) (λ r. and_then (λ _. q) r.1 r.0) (within begun u) (Goes begun u)
        (always_weaker w (lock node p m u) (within begun u) (GoesAt node begun u) (λ s r. Always w (and_then (λ _. q) r.1 r.0) s (Goes begun u)) (over u e) (locks node p m u));
  }
    where
      over : (u : Use) → Each (λ n. has_node u.used n ≡ true) nodes → (s : Moment) (r : Result (Unit {0}) Reply × Use) → GoesAt node begun u s r → Always w (and_then (λ _. q) r.1 r.0) s (Goes begun u)
      over u e s (Ok a, v) h =
          subst (λ z. Always w (q v) z (Goes begun u)) (sym h.goes.stands)
          (always_weaker w (q v) (within begun v) (Goes begun v) (Goes begun u) (λ z r i. goes_further begun u s z (Ok a, v) r h.goes i)
          (k.holds v (h.there, Each-of (λ n. has_node u.used n ≡ true) (λ n. has_node v.used n ≡ true) nodes h.goes.nodes e)))
      over u e s (Err x, v) h = record { stands = h.goes.stands; tx = h.goes.tx; nodes = h.goes.nodes }

  pub keeps_write : (node : ℕ) (c : Change) → Keeps [] (write node c)
  keeps_write node c = record {
    holds = λ u e. always_weaker w (write node c u) (within begun u) (GoesAt node begun u) (Goes begun u) (λ z r h. h.goes)
        (behind_enlist node (λ v. expect done node (request.Write (the_tx v) c) v) (λ v there. (
          (plainly, λ front st. may_ask (working v) front node (early v) there (λ h. h) st.stands),
          λ a. record { goes = goes_nowhere begun v (met node a (done a)); there = there_still node v (met node a (done a)) there },
        )) u);
  }

  pub keeps_writing : (changes : List Change) → Keeps [] (writing changes)
  keeps_writing [] = keeps_pure tt
  keeps_writing (c ∷ more) = keeps_then [] (write (node_of_area c.place.space.area) c) (writing more) (keeps_write (node_of_area c.place.space.area) c) (keeps_writing more)

  pub keeps_writes : (changes : List Change) → Keeps [] (writes changes)
  keeps_writes changes = record { holds = λ u e. by_size u (nat_lt most_bytes (u.bytes + sizes changes)) }
    where
      by_size : (u : Use) (b : Bool) → Always w (cond b (refused {A = Unit {0}} reply.TooMuch u) (writing changes (record u { bytes = u.bytes + sizes changes }))) (within begun u) (Goes begun u)
      by_size u true = goes_nowhere begun u (Err reply.TooMuch)
      by_size u false =
          let v : Use = record u { bytes = u.bytes + sizes changes } in
          always_weaker w (writing changes v) (within begun u) (Goes begun v) (Goes begun u) (λ z r h. record { stands = h.stands; tx = h.tx; nodes = h.nodes }) ((keeps_writing changes).holds v tt)
