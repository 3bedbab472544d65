-- What a plan counts, whatever its answers: the locks granted and the bytes written; and that it decides nothing.
use Rattle.std.proofs.Common.{◌≡◌, inl, inr, ℕ, ◌+◌, ◌≤◌, ◌<◌, List, [], ◌∷◌, length, filter, fold, Option, Some, None, Result, Ok, Err, Bool, true, false, not, cond, refl, subst, sym, ap, ◌∙◌, arith}
use Rattle.std.specs.Prelude.{IsTrue, nat_le, nat_lt}
use Rattle.std.proofs.lemmas.Bool.{false≢true}
use Rattle.std.proofs.lemmas.Bool.Decides.{nat_tests}
use Rattle.hb_types.specs.declared.answer.Answer.{Answer}
use Rattle.hb_types.specs.declared.answer.Answer.TheVariants as answer
use Rattle.hb_types.specs.declared.change.Change.{Change}
use Rattle.hb_types.specs.declared.change.Stored.{Stored}
use Rattle.hb_types.specs.declared.lock.Mode.{Mode}
use Rattle.hb_types.specs.declared.names.Tx.{Tx}
use Rattle.hb_types.specs.declared.places.Path.{Path}
use Rattle.hb_types.specs.declared.places.Place.{Place}
use Rattle.hb_types.specs.declared.places.Space.{Space}
use Rattle.hb_types.specs.declared.request.Request.TheVariants as request
use Rattle.hb_types.specs.declared.trail.Call.{Call}
use Rattle.hb_types.specs.Places.{node_of_area}
use Rattle.hb_types.specs.Records.{change_bytes}
use Rattle.hb_model.specs.declared.reply.Reply.{Reply}
use Rattle.hb_model.specs.declared.reply.Reply.TheVariants as reply
use Rattle.hb_model.specs.Answers.{HasAsked, bytes_in, call, grants_in, is_decide, is_grant}
use Rattle.hb_model.specs.Does.{most_bytes}
use Rattle.hb_model.specs.Needs.{most_locks}
use Rattle.hb_model.specs.NodeSets.{has_node, with_node}
use Rattle.hb_model.specs.Outside.{is_outside}
use Rattle.hb_talk.specs.Plans.{sizes, some_or, writes, writing}
use Rattle.hb_talk.specs.Talk.{Talk, says, asks, going_on, and_then, Use, Planning, Follows, ends, asked, waits, gone, dies, not_yet, ready, is_end_of_wait, mgr, ◌>>=◌, ◌>>◌, pure, refused, refuse, lock, read, scan, scan_group, write, enlisted, joining, expect, done, the_row, the_rows, met, the_tx}
use Rattle.hb_plancalc.proofs.Comes.{locks_with, bytes_with, counted, locks_step, bytes_step}
use Rattle.hb_plancalc.proofs.Steps.{never}

-- this holds of the counts in the end, whatever the answers, and nothing is decided on the way
abbrev pub Always : {R : Type 0} → Talk R → ℕ → ℕ → (ℕ → ℕ → R → Type 0) → Type 0
Always (says r) n b Q = Q n b r
Always (asks node q k) n b Q = (is_decide q ≡ false) × ((a : Answer) → Always (k a) (locks_with q a n) (bytes_with q a b) Q)

always_bind : {A B : Type 0} → (t : Talk A) (f : A → Talk B) (n b : ℕ) (Q : ℕ → ℕ → B → Type 0) → Always t n b (λ m c a. Always (f a) m c Q) → Always (going_on f t) n b Q
always_bind (says a) f n b Q w = w
always_bind (asks node q k) f n b Q w = (w.0, λ a. always_bind (k a) f (locks_with q a n) (bytes_with q a b) Q (w.1 a))

always_weaker : {R : Type 0} → (t : Talk R) (n b : ℕ) (P Q : ℕ → ℕ → R → Type 0) → ((m c : ℕ) (r : R) → P m c r → Q m c r) → Always t n b P → Always t n b Q
always_weaker (says a) n b P Q i w = i n b a w
always_weaker (asks node q k) n b P Q i w = (w.0, λ a. always_weaker (k a) (locks_with q a n) (bytes_with q a b) P Q i (w.1 a))

-- ---- calls that follow a talk

abbrev Undecided : List Call → Type 0
Undecided calls = HasAsked is_decide calls → ⊥

still : (tx : Tx) (p : Path) (m : Mode) (a : Answer) (n : ℕ) → IsTrue (is_end_of_wait a) → locks_with (request.Lock tx p m) a n ≡ n
still tx p m (answer.Cycle edges) n h = refl
still tx p m answer.NoMemory n h = refl
still tx p m _ n h = absurd (false≢true h)

module _ {R : Type 0} (Q : ℕ → ℕ → R → Type 0) where
  abbrev Ends : ℕ → ℕ → List Call → R → Type 0
  Ends n b cs r = Undecided cs × Q (n + grants_in cs) (b + bytes_in cs) r

  first : (n b : ℕ) (c : Call) (cs : List Call) (r : R) → is_decide c.request ≡ false → Ends (locks_with c.request c.answer n) (bytes_with c.request c.answer b) cs r → Ends n b (c ∷ cs) r
  first n b c cs r plain e =
      let l : locks_with c.request c.answer n + grants_in cs ≡ n + grants_in (c ∷ cs) =
      locks_step c.request c.answer n (grants_in cs) ∙ ap (λ k. n + k) (sym (counted (is_grant c.request c.answer) c (filter (λ x. is_grant x.request x.answer) cs))) in
      let k : bytes_with c.request c.answer b + bytes_in cs ≡ b + bytes_in (c ∷ cs) = bytes_step c.request c.answer b (bytes_in cs) in
      (λ h. elim h [ inl d ↦ false≢true (sym plain ∙ d) | inr d ↦ e.0 d ], subst (λ x. Q x (b + bytes_in (c ∷ cs)) r) l (subst (λ x. Q (locks_with c.request c.answer n + grants_in cs) x r) k e.1))

  pub always_followed : (w : Bool) (t : Talk R) (cs : List Call) (r : R) → Follows w t cs r → (n b : ℕ) → Always t n b Q → Ends n b cs r
  always_followed _ _ _ _ (ends {r}) n b a =
      let l : n ≡ n + 0 = omega arith in let k : b ≡ b + 0 = omega arith in
      (λ h. absurd h, subst (λ x. Q x (b + 0) r) l (subst (λ x. Q n x r) k a))
  always_followed _ _ _ _ (asked {node} {q} {k} {cs} {r} a plain f) n b w =
      first n b (call node q a) cs r w.0 (always_followed false (k a) cs r f (locks_with q a n) (bytes_with q a b) (w.1 a))
  always_followed _ _ _ _ (waits {node} {k} {cs} {r} tx p path m wanted holders edges f) n b w =
      let wait = call mgr (request.Wait tx (record { 0 = node }) path wanted holders) (answer.Waiting edges) in
      first n b (call node (request.Lock tx p m) (answer.Blocked path wanted holders)) (wait ∷ cs) r refl
      (first n b wait cs r refl (always_followed true (asks node (request.Lock tx p m) k) cs r f n b w))
  always_followed _ _ _ _ (gone {node} {k} {cs} {r} tx p path m wanted holders f) n b w =
      let wait = call mgr (request.Wait tx (record { 0 = node }) path wanted holders) answer.Gone in
      first n b (call node (request.Lock tx p m) (answer.Blocked path wanted holders)) (wait ∷ cs) r refl
      (first n b wait cs r refl (always_followed false (asks node (request.Lock tx p m) k) cs r f n b w))
  always_followed _ _ _ _ (dies {node} {k} {cs} {r} tx p path m wanted holders a e f) n b w =
      let wait = call mgr (request.Wait tx (record { 0 = node }) path wanted holders) a in
      first n b (call node (request.Lock tx p m) (answer.Blocked path wanted holders)) (wait ∷ cs) r refl
      (first n b wait cs r refl (always_followed false (k a) cs r f n b (subst (λ x. Always (k a) x b Q) (still tx p m a n e) (w.1 a))))
  always_followed _ _ _ _ (not_yet {t} {cs} {r} tx target f) n b w =
      first n b (call mgr (request.Ready tx) (answer.NotYet target)) cs r refl (always_followed true t cs r f n b w)
  always_followed _ _ _ _ (ready {t} {cs} {r} tx f) n b w =
      first n b (call mgr (request.Ready tx) answer.Ready) cs r refl (always_followed false t cs r f n b w)

-- ---- plans

-- the use has these counts, within the limits
pub record Holds (u : Use) (n b : ℕ) : Type 0 where
  pub locks : u.locks ≡ n
  pub bytes : u.bytes ≡ b
  pub few : n ≤ most_locks
  pub small : b ≤ most_bytes

abbrev pub Out : {A : Type 0} → (ℕ → ℕ → A → Use → Type 0) → ℕ → ℕ → Result A Reply × Use → Type 0
Out Q n b (Ok a, v) = Q n b a v
Out Q n b (Err e, v) = IsTrue (not (is_outside e)) → Holds v n b

plan_bind : {A B : Type 0} → (p : Planning A) (f : A → Planning B) (u : Use) (n b : ℕ) (Q : ℕ → ℕ → B → Use → Type 0)
    → Always (p u) n b (Out (λ m c a v. Always (f a v) m c (Out Q))) → Always ((p >>= f) u) n b (Out Q)
plan_bind {A} {B} p f u n b Q w =
    always_bind (p u) (λ r. and_then f r.1 r.0) n b (Out Q) (always_weaker (p u) n b (Out (λ m c a v. Always (f a v) m c (Out Q))) (λ m c r. Always (and_then f r.1 r.0) m c (Out Q)) over w)
  where
    over : (m c : ℕ) (r : Result A Reply × Use) → Out (λ m c a v. Always (f a v) m c (Out Q)) m c r → Always (and_then f r.1 r.0) m c (Out Q)
    over m c (Ok a, v) h = h
    over m c (Err e, v) h = h

abbrev pub Then : {A : Type 0} → ℕ → ℕ → A → Use → Type 0
Then n b a v = Holds v n b

-- a plan keeps the counts
pub record Keeps {A : Type 0} (p : Planning A) : Type 0 where
  pub holds : (u : Use) (n b : ℕ) → Holds u n b → Always (p u) n b (Out {A = A} Then)

pub keeps_bind : {A B : Type 0} (p : Planning A) (f : A → Planning B) → Keeps p → ((a : A) → Keeps (f a)) → Keeps (p >>= f)
keeps_bind {A} {B} p f k g = record {
  holds = λ u n b h. plan_bind p f u n b (Then {A = B}) (always_weaker (p u) n b (Out {A = A} Then) (Out (λ m c a v. Always (f a v) m c (Out {A = B} Then))) over (k.holds u n b h));
}
  where
    over : (m c : ℕ) (r : Result A Reply × Use) → Out {A = A} Then m c r → Out (λ m c a v. Always (f a v) m c (Out {A = B} Then)) m c r
    over m c (Ok a, v) h = (g a).holds v m c h
    over m c (Err e, v) h = h

pub keeps_then : {A B : Type 0} (p : Planning A) (q : Planning B) → Keeps p → Keeps q → Keeps (p >> q)
keeps_then p q k l = keeps_bind p (λ _. q) k (λ _. l)

pub keeps_pure : {A : Type 0} (a : A) → Keeps (pure a)
keeps_pure a = record { holds = λ u n b h. h }

pub keeps_refused : {A : Type 0} (r : Reply) → Keeps (refused {A = A} r)
keeps_refused r = record { holds = λ u n b h. λ x. h }

pub keeps_refuse : (o : Option Reply) → Keeps (refuse o)
keeps_refuse None = keeps_pure tt
keeps_refuse (Some r) = keeps_refused r

pub keeps_some_or : {A : Type 0} (r : Reply) (o : Option A) → Keeps (some_or r o)
keeps_some_or r None = keeps_refused r
keeps_some_or r (Some x) = keeps_pure x

pub keeps_read : (node : ℕ) (place : Place) → Keeps (read node place)
keeps_read node place = record {
  holds = λ u n b h. (refl, λ a. elim a as (λ x. Out {A = Option (List ℕ)} Then n b (met node x (the_row x), u)) [ answer.Row row ↦ h | x ↦ λ i. never node x i ]);
}

pub keeps_scan : (node : ℕ) (space : Space) → Keeps (scan node space)
keeps_scan node space = record {
  holds = λ u n b h. (refl, λ a. elim a as (λ x. Out {A = List Stored} Then n b (met node x (the_rows x), u)) [ answer.Rows rows ↦ h | x ↦ λ i. never node x i ]);
}

pub keeps_scan_group : (node : ℕ) (space : Space) (group : ℕ) → Keeps (scan_group node space group)
keeps_scan_group node space group = record {
  holds = λ u n b h. (refl, λ a. elim a as (λ x. Out {A = List Stored} Then n b (met node x (the_rows x), u)) [ answer.Rows rows ↦ h | x ↦ λ i. never node x i ]);
}

-- Enlist counts nothing
enlists : (node : ℕ) (u : Use) (n b : ℕ) (Q : ℕ → ℕ → Unit {0} → Use → Type 0) → ((v : Use) → v.locks ≡ u.locks → v.bytes ≡ u.bytes → Q n b tt v) → Always (enlisted node u) n b (Out Q)
enlists node u n b Q q =
    cases (has_node u.used node) (q u refl refl)
    (refl, λ a. elim a as (λ x. Always (and_then (λ _. joining node) u (met node x (done x))) n b (Out Q)) [ answer.Done ↦ q v refl refl | x ↦ λ i. never node x i ])
  where
    v : Use
    v = record u { used = with_node u.used node }

    cases : (t : Bool) → Q n b tt u → Always ((expect done node (request.Enlist (the_tx u)) >> joining node) u) n b (Out Q)
        → Always (cond t (says (Ok tt, u)) ((expect done node (request.Enlist (the_tx u)) >> joining node) u)) n b (Out Q)
    cases true x y = x
    cases false x y = y

pub keeps_lock : (node : ℕ) (p : Path) (m : Mode) → Keeps (lock node p m)
keeps_lock node p m = record {
  holds = λ u n b h. plan_bind (enlisted node) (λ _. asking) u n b (Then {A = Unit {0}})
      (enlists node u n b (λ k c a v. Always (asking v) k c (Out {A = Unit {0}} Then))
      (λ v l k. by_limit v n b (record { locks = l ∙ h.locks; bytes = k ∙ h.bytes; few = h.few; small = h.small }) (nat_le most_locks v.locks) refl));
}
  where
    asking : Planning (Unit {0})
    asking = λ v. cond (nat_le most_locks v.locks) (says (Err reply.TooMuch, v)) (expect done node (request.Lock (the_tx v) p m) (record v { locks = v.locks + 1 }))

    by_limit : (v : Use) (n b : ℕ) → Holds v n b → (t : Bool) → nat_le most_locks v.locks ≡ t
        → Always (cond t (says (Err reply.TooMuch, v)) (expect done node (request.Lock (the_tx v) p m) (record v { locks = v.locks + 1 }))) n b (Out {A = Unit {0}} Then)
    by_limit v n b h true e = λ i. h
    by_limit v n b h false e = (
      refl,
      λ a. elim a as (λ x. Out {A = Unit {0}} Then (locks_with (request.Lock (the_tx v) p m) x n) b (met node x (done x), record v { locks = v.locks + 1 })) [
        | answer.Done ↦ record {
          locks = ap (λ k. k + 1) h.locks;
          bytes = h.bytes;
          few = let l : v.locks < most_locks = grind (arith, nat_tests) in omega (arith, h.locks);
          small = h.small;
        }
        | x ↦ λ i. never node x i
      ],
    )

-- the sizes of a change and others
sums : (n : ℕ) (changes : List Change) → fold (λ m c. m + length (change_bytes c)) n changes ≡ n + sizes changes
sums n [] = omega arith
sums n (c ∷ more) = let e = sums (n + length (change_bytes c)) more in let f = sums (0 + length (change_bytes c)) more in omega (arith, e, f)

sizes_more : (c : Change) (more : List Change) → sizes (c ∷ more) ≡ length (change_bytes c) + sizes more
sizes_more c more = let e = sums (0 + length (change_bytes c)) more in omega (arith, e)

-- the size of the changes that are left is counted already
writing_counts : (changes : List Change) (u : Use) (n b : ℕ) → u.locks ≡ n → n ≤ most_locks → u.bytes ≡ b + sizes changes → u.bytes ≤ most_bytes → Always (writing changes u) n b (Out {A = Unit {0}} Then)
writing_counts [] u n b l few k small = record { locks = l; bytes = omega (arith, k); few = few; small = omega (arith, k, small) }
writing_counts (c ∷ more) u n b l few k small =
    plan_bind (write (node_of_area c.place.space.area) c) (λ _. writing more) u n b (Then {A = Unit {0}})
    (plan_bind (enlisted (node_of_area c.place.space.area)) (λ _. asking) u n b (λ m d a v. Always (writing more v) m d (Out {A = Unit {0}} Then))
    (enlists (node_of_area c.place.space.area) u n b (λ m d a v. Always (asking v) m d (Out (λ m d a v. Always (writing more v) m d (Out {A = Unit {0}} Then))))
    (λ v i j. (
      refl,
      λ a. elim a as (λ x. Out (λ m d a v. Always (writing more v) m d (Out {A = Unit {0}} Then)) n (bytes_with (request.Write (the_tx v) c) x b) (met (node_of_area c.place.space.area) x (done x), v)) [
        | answer.Done ↦ writing_counts more v n (b + length (change_bytes c)) (i ∙ l) few (let whole = sizes_more c more in omega (arith, j, k, whole)) (omega (arith, j, small))
        | x ↦ λ z. never (node_of_area c.place.space.area) x z
      ],
    ))))
  where
    asking : Planning (Unit {0})
    asking = λ v. expect done (node_of_area c.place.space.area) (request.Write (the_tx v) c) v

pub keeps_writes : (changes : List Change) → Keeps (writes changes)
keeps_writes changes = record { holds = λ u n b h. by_size u n b h (nat_lt most_bytes (u.bytes + sizes changes)) refl }
  where
    by_size : (u : Use) (n b : ℕ) → Holds u n b → (t : Bool) → nat_lt most_bytes (u.bytes + sizes changes) ≡ t
        → Always (cond t (refused {A = Unit {0}} reply.TooMuch u) (writing changes (record u { bytes = u.bytes + sizes changes }))) n b (Out {A = Unit {0}} Then)
    by_size u n b h true e = λ i. h
    by_size u n b h false e =
        writing_counts changes (record u { bytes = u.bytes + sizes changes }) n b h.locks h.few (ap (λ k. k + sizes changes) h.bytes)
        (let l : u.bytes + sizes changes ≤ most_bytes = grind (arith, nat_tests) in l)
