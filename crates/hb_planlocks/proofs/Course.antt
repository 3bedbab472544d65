-- The course of a talk by the rows that it is answered: what it asks for on the way, and what it says in the end.
use Rattle.std.proofs.Common.{◌≡◌, ℕ, zero, suc, ◌+◌, List, [], ◌∷◌, ◌++◌, length, Option, Some, None, Result, Ok, Err, Bool, true, false, cond, refl, subst, sym, ap, ◌∙◌}
use Rattle.std.specs.Prelude.{IsTrue, nat_le, nat_lt}
use Rattle.std.proofs.lemmas.Bool.{false≢true}
use Rattle.std.proofs.lemmas.List.{append-nil, append_assoc}
use Rattle.hb_types.specs.declared.answer.Answer.{Answer}
use Rattle.hb_types.specs.declared.answer.Answer.TheVariants as answer
use Rattle.hb_types.specs.declared.change.Change.{Change}
use Rattle.hb_types.specs.declared.change.Stored.{Stored}
use Rattle.hb_types.specs.declared.lock.Holder.{Holder}
use Rattle.hb_types.specs.declared.lock.Mode.{Mode}
use Rattle.hb_types.specs.declared.names.Tx.{Tx}
use Rattle.hb_types.specs.declared.places.Path.{Path}
use Rattle.hb_types.specs.declared.places.Path.TheVariants as path
use Rattle.hb_types.specs.declared.places.Place.{Place}
use Rattle.hb_types.specs.declared.places.Space.{Space}
use Rattle.hb_types.specs.declared.request.Request.{Request}
use Rattle.hb_types.specs.declared.request.Request.TheVariants as request
use Rattle.hb_types.specs.declared.trail.Call.{Call}
use Rattle.hb_types.specs.Lists.{Each, EachBehind}
use Rattle.hb_types.specs.Places.{node_of_area}
use Rattle.hb_types.proofs.Ascending.{Each-back, Each-front}
use Rattle.hb_model.specs.declared.reply.Reply.{Reply}
use Rattle.hb_model.specs.declared.reply.Reply.TheVariants as reply
use Rattle.hb_model.specs.Answers.{call, given, rows_answered}
use Rattle.hb_model.specs.Asked.{AreUnder, AreWhereAsked, IsWhereAsked}
use Rattle.hb_model.specs.Does.{most_bytes}
use Rattle.hb_model.specs.Needs.{most_locks}
use Rattle.hb_model.specs.NodeSets.{has_node}
use Rattle.hb_talk.specs.Plans.{sizes, some_or, writes, writing}
use Rattle.hb_talk.specs.Talk.{Begins, Talk, says, asks, going_on, and_then, Use, Planning, Follows, ends, asked, waits, gone, dies, not_yet, ready, is_end_of_wait, mgr, refusal_of, ◌>>=◌, ◌>>◌, joining, lock, read, scan, scan_group, write, enlisted, expect, done, the_row, the_rows, met, refuse, refused, the_tx}

given_more : (before : List Call) (c : Call) → given (before ++ c ∷ []) ≡ given before ++ rows_answered c.request c.answer
given_more [] c = append-nil (rows_answered c.request c.answer)
given_more (b ∷ before) c =
    ap (λ rs. rows_answered b.request b.answer ++ rs) (given_more before c) ∙ sym (append_assoc (rows_answered b.request b.answer) (given before) (rows_answered c.request c.answer))

-- so many calls of a list, the first ones
abbrev firsts : ℕ → List Call → List Call
firsts zero cs = []
firsts (suc n) [] = []
firsts (suc n) (c ∷ cs) = c ∷ firsts n cs

firsts_are : (cs more : List Call) → firsts (length cs) (cs ++ more) ≡ cs
firsts_are [] more = refl
firsts_are (c ∷ cs) more = ap (λ xs. c ∷ xs) (firsts_are cs more)

-- a request that is neither a Lock nor a Write
abbrev pub is_free : Request → Bool
is_free (request.Lock tx p m) = false
is_free (request.Write tx c) = false
is_free _ = true

-- what a course keeps to: what may be asked for at a node by the rows that were answered before, and what is so of each refusal
pub record Rule : Type 1 where
  pub May : List Stored → ℕ → Request → Type 0
  pub Refused : Reply → Type 0
  pub free : (g : List Stored) (node : ℕ) (q : Request) → IsTrue (is_free q) → May g node q
  pub refusals : (node : ℕ) (a : Answer) → Refused (refusal_of node a)
  pub too_much : Refused reply.TooMuch

module _ (R : Rule) where
  -- each request may be asked by the rows that were answered before, and this holds in the end
  abbrev pub Bears : {A : Type 0} → Talk A → List Stored → (List Stored → A → Type 0) → Type 0
  Bears (says r) g Q = Q g r
  Bears (asks node q k) g Q = R.May g node q × ((a : Answer) → IsWhereAsked q a → Bears (k a) (g ++ rows_answered q a) Q)

  bears_bind : {A B : Type 0} → (t : Talk A) (f : A → Talk B) (g : List Stored) (Q : List Stored → B → Type 0) → Bears t g (λ h a. Bears (f a) h Q) → Bears (going_on f t) g Q
  bears_bind (says a) f g Q w = w
  bears_bind (asks node q k) f g Q w = (w.0, λ a h. bears_bind (k a) f (g ++ rows_answered q a) Q (w.1 a h))

  bears_weaker : {A : Type 0} → (t : Talk A) (g : List Stored) (P Q : List Stored → A → Type 0) → ((h : List Stored) (r : A) → P h r → Q h r) → Bears t g P → Bears t g Q
  bears_weaker (says a) g P Q i w = i g a w
  bears_weaker (asks node q k) g P Q i w = (w.0, λ a h. bears_weaker (k a) (g ++ rows_answered q a) P Q i (w.1 a h))

  -- ---- calls that follow

  -- each of these calls may be asked for behind the calls before it, and this holds of all the rows that were answered
  pub record Course {A : Type 0} (before calls : List Call) (Q : List Stored → A → Type 0) (r : A) : Type 0 where
    pub asked_rightly : EachBehind (λ front c. R.May (given front) c.node.0 c.request) before calls
    pub said : Q (given (before ++ calls)) r

  first : {A : Type 0} (before : List Call) (c : Call) (cs : List Call) (Q : List Stored → A → Type 0) (r : A) → R.May (given before) c.node.0 c.request
      → Course (before ++ c ∷ []) cs Q r → Course before (c ∷ cs) Q r
  first before c cs Q r may w = record { asked_rightly = (may, w.asked_rightly); said = subst (λ xs. Q (given xs) r) (append_assoc before (c ∷ []) cs) w.said }

  -- nothing was answered to it
  still : {A : Type 0} (t : Talk A) (before : List Call) (c : Call) (Q : List Stored → A → Type 0) → rows_answered c.request c.answer ≡ [] → Bears t (given before) Q → Bears t (given (before ++ c ∷ [])) Q
  still t before c Q e w = subst (λ g. Bears t g Q) (sym (given_more before c ∙ ap (λ rs. given before ++ rs) e ∙ append-nil (given before))) w

  -- what ends a wait gives no rows, to the Lock and to the Wait
  ended : (tx : Tx) (node : ℕ) (p path : Path) (m wanted : Mode) (holders : List Holder) (a : Answer) → IsTrue (is_end_of_wait a)
      → IsWhereAsked (request.Lock tx p m) a × (rows_answered (request.Lock tx p m) a ≡ []) × (rows_answered (request.Wait tx (record { 0 = node }) path wanted holders) a ≡ [])
  ended tx node p path m wanted holders (answer.Cycle edges) e = (tt, refl, refl)
  ended tx node p path m wanted holders answer.NoMemory e = (tt, refl, refl)
  ended tx node p path m wanted holders _ e = absurd (false≢true e)

  pub follows_rightly : {A : Type 0} → (b : Bool) (t : Talk A) (cs : List Call) (r : A) → Follows b t cs r → (before : List Call) (Q : List Stored → A → Type 0)
      → Bears t (given before) Q → AreWhereAsked cs → Course before cs Q r
  follows_rightly _ _ _ _ (ends {r}) before Q w h = record { asked_rightly = tt; said = subst (λ xs. Q (given xs) r) (sym (append-nil before)) w }
  follows_rightly _ _ _ _ (asked {node} {q} {k} {cs} {r} a n f) before Q w h =
      let c = call node q a in
      first before c cs Q r w.0 (follows_rightly false (k a) cs r f (before ++ c ∷ []) Q (subst (λ g. Bears (k a) g Q) (sym (given_more before c)) (w.1 a h.0)) h.1)
  follows_rightly _ _ _ _ (waits {node} {k} {cs} {r} tx p path m wanted holders edges f) before Q w h =
      let one = call node (request.Lock tx p m) (answer.Blocked path wanted holders) in
      let two = call mgr (request.Wait tx (record { 0 = node }) path wanted holders) (answer.Waiting edges) in
      let t = asks node (request.Lock tx p m) k in
      first before one (two ∷ cs) Q r w.0 (first (before ++ one ∷ []) two cs Q r (R.free (given (before ++ one ∷ [])) mgr two.request refl)
      (follows_rightly true t cs r f ((before ++ one ∷ []) ++ two ∷ []) Q (still t (before ++ one ∷ []) two Q refl (still t before one Q refl w)) h.1.1))
  follows_rightly _ _ _ _ (gone {node} {k} {cs} {r} tx p path m wanted holders f) before Q w h =
      let one = call node (request.Lock tx p m) (answer.Blocked path wanted holders) in
      let two = call mgr (request.Wait tx (record { 0 = node }) path wanted holders) answer.Gone in
      let t = asks node (request.Lock tx p m) k in
      first before one (two ∷ cs) Q r w.0 (first (before ++ one ∷ []) two cs Q r (R.free (given (before ++ one ∷ [])) mgr two.request refl)
      (follows_rightly false t cs r f ((before ++ one ∷ []) ++ two ∷ []) Q (still t (before ++ one ∷ []) two Q refl (still t before one Q refl w)) h.1.1))
  follows_rightly _ _ _ _ (dies {node} {k} {cs} {r} tx p path m wanted holders a e f) before Q w h =
      let one = call node (request.Lock tx p m) (answer.Blocked path wanted holders) in
      let two = call mgr (request.Wait tx (record { 0 = node }) path wanted holders) a in
      let quiet = ended tx node p path m wanted holders a e in
      let here = subst (λ g. Bears (k a) g Q) (ap (λ rs. given before ++ rs) quiet.1 ∙ append-nil (given before)) (w.1 a quiet.0) in
      first before one (two ∷ cs) Q r w.0 (first (before ++ one ∷ []) two cs Q r (R.free (given (before ++ one ∷ [])) mgr two.request refl)
      (follows_rightly false (k a) cs r f ((before ++ one ∷ []) ++ two ∷ []) Q (still (k a) (before ++ one ∷ []) two Q quiet.2 (still (k a) before one Q refl here)) h.1.1))
  follows_rightly _ _ _ _ (not_yet {t} {cs} {r} tx target f) before Q w h =
      let one = call mgr (request.Ready tx) (answer.NotYet target) in
      first before one cs Q r (R.free (given before) mgr one.request refl) (follows_rightly true t cs r f (before ++ one ∷ []) Q (still t before one Q refl w) h.1)
  follows_rightly _ _ _ _ (ready {t} {cs} {r} tx f) before Q w h =
      let one = call mgr (request.Ready tx) answer.Ready in
      first before one cs Q r (R.free (given before) mgr one.request refl) (follows_rightly false t cs r f (before ++ one ∷ []) Q (still t before one Q refl w) h.1)

  -- the first calls of those that follow
  firsts_rightly : {A : Type 0} → (n : ℕ) (b : Bool) (t : Talk A) (cs : List Call) (r : A) → Follows b t cs r → (before : List Call) (Q : List Stored → A → Type 0)
      → Bears t (given before) Q → AreWhereAsked (firsts n cs) → EachBehind (λ front c. R.May (given front) c.node.0 c.request) before (firsts n cs)
  firsts_rightly zero b t cs r f before Q w h = tt
  firsts_rightly (suc n) _ _ _ _ ends before Q w h = tt
  firsts_rightly (suc n) _ _ _ _ (asked {node} {q} {k} {cs} {r} a i f) before Q w h =
      let c = call node q a in (w.0, firsts_rightly n false (k a) cs r f (before ++ c ∷ []) Q (subst (λ g. Bears (k a) g Q) (sym (given_more before c)) (w.1 a h.0)) h.1)
  firsts_rightly (suc zero) _ _ _ _ (waits {node} {k} {cs} {r} tx p path m wanted holders edges f) before Q w h = (w.0, tt)
  firsts_rightly (suc (suc n)) _ _ _ _ (waits {node} {k} {cs} {r} tx p path m wanted holders edges f) before Q w h =
      let one = call node (request.Lock tx p m) (answer.Blocked path wanted holders) in
      let two = call mgr (request.Wait tx (record { 0 = node }) path wanted holders) (answer.Waiting edges) in
      let t = asks node (request.Lock tx p m) k in (
        w.0,
        (
          R.free (given (before ++ one ∷ [])) mgr two.request refl,
          firsts_rightly n true t cs r f ((before ++ one ∷ []) ++ two ∷ []) Q (still t (before ++ one ∷ []) two Q refl (still t before one Q refl w)) h.1.1,
        ),
      )
  firsts_rightly (suc zero) _ _ _ _ (gone {node} {k} {cs} {r} tx p path m wanted holders f) before Q w h = (w.0, tt)
  firsts_rightly (suc (suc n)) _ _ _ _ (gone {node} {k} {cs} {r} tx p path m wanted holders f) before Q w h =
      let one = call node (request.Lock tx p m) (answer.Blocked path wanted holders) in
      let two = call mgr (request.Wait tx (record { 0 = node }) path wanted holders) answer.Gone in
      let t = asks node (request.Lock tx p m) k in (
        w.0,
        (
          R.free (given (before ++ one ∷ [])) mgr two.request refl,
          firsts_rightly n false t cs r f ((before ++ one ∷ []) ++ two ∷ []) Q (still t (before ++ one ∷ []) two Q refl (still t before one Q refl w)) h.1.1,
        ),
      )
  firsts_rightly (suc zero) _ _ _ _ (dies {node} {k} {cs} {r} tx p path m wanted holders a e f) before Q w h = (w.0, tt)
  firsts_rightly (suc (suc n)) _ _ _ _ (dies {node} {k} {cs} {r} tx p path m wanted holders a e f) before Q w h =
      let one = call node (request.Lock tx p m) (answer.Blocked path wanted holders) in
      let two = call mgr (request.Wait tx (record { 0 = node }) path wanted holders) a in
      let quiet = ended tx node p path m wanted holders a e in
      let here = subst (λ g. Bears (k a) g Q) (ap (λ rs. given before ++ rs) quiet.1 ∙ append-nil (given before)) (w.1 a quiet.0) in (
        w.0,
        (
          R.free (given (before ++ one ∷ [])) mgr two.request refl,
          firsts_rightly n false (k a) cs r f ((before ++ one ∷ []) ++ two ∷ []) Q
              (still (k a) (before ++ one ∷ []) two Q quiet.2 (still (k a) before one Q refl here)) h.1.1,
        ),
      )
  firsts_rightly (suc n) _ _ _ _ (not_yet {t} {cs} {r} tx target f) before Q w h =
      let one = call mgr (request.Ready tx) (answer.NotYet target) in
      (R.free (given before) mgr one.request refl, firsts_rightly n true t cs r f (before ++ one ∷ []) Q (still t before one Q refl w) h.1)
  firsts_rightly (suc n) _ _ _ _ (ready {t} {cs} {r} tx f) before Q w h =
      let one = call mgr (request.Ready tx) answer.Ready in
      (R.free (given before) mgr one.request refl, firsts_rightly n false t cs r f (before ++ one ∷ []) Q (still t before one Q refl w) h.1)

  pub begins_rightly : {A : Type 0} → (t : Talk A) (cs : List Call) → Begins t cs → (before : List Call) (Q : List Stored → A → Type 0) → Bears t (given before) Q → AreWhereAsked cs
      → EachBehind (λ front c. R.May (given front) c.node.0 c.request) before cs
  begins_rightly t cs (more, r, f) before Q w h =
      subst (λ xs. EachBehind (λ front c. R.May (given front) c.node.0 c.request) before xs) (firsts_are cs more)
      (firsts_rightly (length cs) false t (cs ++ more) r f before Q w (subst AreWhereAsked (sym (firsts_are cs more)) h))

  -- ---- plans

  abbrev pub Goes : {A : Type 0} → (List Stored → A → Type 0) → List Stored → Result A Reply × Use → Type 0
  Goes Q g (Ok a, u) = Q g a
  Goes Q g (Err e, u) = R.Refused e

  abbrev pub Bearing : {A : Type 0} → Planning A → Use → List Stored → (List Stored → A → Type 0) → Type 0
  Bearing p u g Q = Bears (p u) g (Goes Q)

  pub bearing_bind : {A B : Type 0} → (p : Planning A) (f : A → Planning B) (u : Use) (g : List Stored) (Q : List Stored → B → Type 0)
      → Bearing p u g (λ h a. (v : Use) → Bearing (f a) v h Q) → Bearing (p >>= f) u g Q
  bearing_bind {A} {B} p f u g Q w =
      bears_bind (p u) (λ r. and_then f r.1 r.0) g (Goes Q) (bears_weaker (p u) g (Goes (λ h a. (v : Use) → Bearing (f a) v h Q)) (λ h r. Bears (and_then f r.1 r.0) h (Goes Q)) over w)
    where
      over : (h : List Stored) (r : Result A Reply × Use) → Goes (λ k a. (v : Use) → Bearing (f a) v k Q) h r → Bears (and_then f r.1 r.0) h (Goes Q)
      over h (Ok a, v) w = w v
      over h (Err e, v) w = w

  bears_done : (node : ℕ) (q : Request) (u : Use) (g : List Stored) (Q : List Stored → Unit {0} → Type 0) → R.May g node q → Q g tt → Bearing (expect done node q) u g Q
  bears_done node q u g Q may q_ = (
    may,
    λ a h. elim a as (λ x. Goes Q (g ++ rows_answered q x) (met node x (done x), u))
        [ answer.Done ↦ subst (λ k. Q k tt) (sym (ap (λ rs. g ++ rs) (nothing q) ∙ append-nil g)) q_ | x ↦ R.refusals node x ],
  )
    where
      nothing : (q : Request) → rows_answered q answer.Done ≡ []
      nothing q = elim q as (λ x. rows_answered x answer.Done ≡ []) [ request.Read tx place ↦ refl | x ↦ refl ]

  bears_enlisted : (node : ℕ) (u : Use) (g : List Stored) (Q : List Stored → Unit {0} → Type 0) → Q g tt → Bearing (enlisted node) u g Q
  bears_enlisted node u g Q q = cases (has_node u.used node)
    where
      cases : (b : Bool) → Bears (cond b (says (Ok tt, u)) ((expect done node (request.Enlist (the_tx u)) >> joining node) u)) g (Goes Q)
      cases true = q
      cases false = bearing_bind (expect done node (request.Enlist (the_tx u))) (λ _. joining node) u g Q
          (bears_done node (request.Enlist (the_tx u)) u g (λ h a. (v : Use) → Bearing (joining node) v h Q) (R.free g node (request.Enlist (the_tx u)) refl) (λ v. q))

  pub bears_lock : (node : ℕ) (p : Path) (m : Mode) (u : Use) (g : List Stored) (Q : List Stored → Unit {0} → Type 0) → ((tx : Tx) → R.May g node (request.Lock tx p m)) → Q g tt
      → Bearing (lock node p m) u g Q
  bears_lock node p m u g Q may q = bearing_bind (enlisted node) _ u g Q (bears_enlisted node u g _ (λ v. cases v (nat_le most_locks v.locks)))
    where
      cases : (v : Use) (b : Bool) → Bears (cond b (says (Err reply.TooMuch, v)) (expect done node (request.Lock (the_tx v) p m) (record v { locks = v.locks + 1 }))) g (Goes Q)
      cases v true = R.too_much
      cases v false = bears_done node (request.Lock (the_tx v) p m) (record v { locks = v.locks + 1 }) g Q (may (the_tx v)) q

  pub bears_read : (node : ℕ) (place : Place) (u : Use) (g : List Stored) (Q : List Stored → Option (List ℕ) → Type 0)
      → ((row : Option (List ℕ)) → Q (g ++ rows_answered (request.Read (the_tx u) place) (answer.Row row)) row)
      → Bearing (read node place) u g Q
  bears_read node place u g Q q = (
    R.free g node (request.Read (the_tx u) place) refl,
    λ a. elim a as (λ x. IsWhereAsked (request.Read (the_tx u) place) x → Goes Q (g ++ rows_answered (request.Read (the_tx u) place) x) (met node x (the_row x), u))
        [ answer.Row row ↦ λ h. q row | x ↦ λ h. R.refusals node x ],
  )

  pub bears_scan : (node : ℕ) (space : Space) (u : Use) (g : List Stored) (Q : List Stored → List Stored → Type 0)
      → ((rows : List Stored) → AreUnder (path.Whole space) rows → Q (g ++ rows) rows) → Bearing (scan node space) u g Q
  bears_scan node space u g Q q = (
    R.free g node (request.Scan (the_tx u) space) refl,
    λ a. elim a as (λ x. IsWhereAsked (request.Scan (the_tx u) space) x → Goes Q (g ++ rows_answered (request.Scan (the_tx u) space) x) (met node x (the_rows x), u))
        [ answer.Rows rows ↦ λ h. q rows h | x ↦ λ h. R.refusals node x ],
  )

  pub bears_scan_group : (node : ℕ) (space : Space) (group : ℕ) (u : Use) (g : List Stored) (Q : List Stored → List Stored → Type 0)
      → ((rows : List Stored) → AreUnder (path.Group space group) rows → Q (g ++ rows) rows) → Bearing (scan_group node space group) u g Q
  bears_scan_group node space group u g Q q = (
    R.free g node (request.ScanGroup (the_tx u) space group) refl,
    λ a. elim a as (λ x. IsWhereAsked (request.ScanGroup (the_tx u) space group) x → Goes Q (g ++ rows_answered (request.ScanGroup (the_tx u) space group) x) (met node x (the_rows x), u))
        [ answer.Rows rows ↦ λ h. q rows h | x ↦ λ h. R.refusals node x ],
  )

  pub bears_refuse : (o : Option Reply) (u : Use) (g : List Stored) (Q : List Stored → Unit {0} → Type 0) → ((r : Reply) → o ≡ Some r → R.Refused r) → Q g tt → Bearing (refuse o) u g Q
  bears_refuse None u g Q f q = q
  bears_refuse (Some r) u g Q f q = f r refl

  pub bears_some_or : {A : Type 0} (r : Reply) (o : Option A) (u : Use) (g : List Stored) (Q : List Stored → A → Type 0) → R.Refused r → ((x : A) → o ≡ Some x → Q g x)
      → Bearing (some_or r o) u g Q
  bears_some_or r None u g Q f q = f
  bears_some_or r (Some x) u g Q f q = q x refl

  -- a change that may be written by these rows
  abbrev pub MayWrite : List Stored → Change → Type 0
  MayWrite g c = (tx : Tx) → R.May g (node_of_area c.place.space.area) (request.Write tx c)

  pub bears_writing : (cs : List Change) (u : Use) (g : List Stored) (Q : List Stored → Unit {0} → Type 0) → Each (MayWrite g) cs → Q g tt → Bearing (writing cs) u g Q
  bears_writing [] u g Q may q = q
  bears_writing (c ∷ cs) u g Q may q =
      let node : ℕ = node_of_area c.place.space.area in
      let asking : Planning (Unit {0}) = λ v. expect done node (request.Write (the_tx v) c) v in
      let next : List Stored → Unit {0} → Type 0 = λ h a. (v : Use) → Bearing (writing cs) v h Q in
      bearing_bind (write node c) (λ _. writing cs) u g Q
      (bearing_bind (enlisted node) (λ _. asking) u g next
      (bears_enlisted node u g (λ h a. (v : Use) → Bearing asking v h next)
      (λ v. bears_done node (request.Write (the_tx v) c) v g next (may.0 (the_tx v)) (λ w. bears_writing cs w g Q may.1 q))))

  pub bears_writes : (cs : List Change) (u : Use) (g : List Stored) (Q : List Stored → Unit {0} → Type 0) → Each (MayWrite g) cs → Q g tt → Bearing (writes cs) u g Q
  bears_writes cs u g Q may q = cases (nat_lt most_bytes (u.bytes + sizes cs))
    where
      cases : (b : Bool) → Bearing (λ w. cond b (refused reply.TooMuch w) (writing cs (record w { bytes = w.bytes + sizes cs }))) u g Q
      cases true = R.too_much
      cases false = bears_writing cs (record u { bytes = u.bytes + sizes cs }) g Q may q
