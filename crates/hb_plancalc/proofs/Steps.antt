-- What the steps of a plan come to, over one family of rows.
use Rattle.std.proofs.Common.{◌≡◌, ℕ, ◌+◌, ◌≤◌, ◌<◌, List, [], ◌∷◌, length, Option, Ok, Err, Bool, true, false, not, cond, refl, subst, sym, ap, ◌∙◌, arith}
use Rattle.std.specs.Prelude.{IsTrue, nat_le}
use Rattle.std.proofs.lemmas.Bool.{false≢true}
use Rattle.std.proofs.lemmas.Bool.Decides.{nat_tests}
use Rattle.hb_types.specs.declared.answer.Answer.{Answer}
use Rattle.hb_types.specs.declared.answer.Answer.TheVariants as answer
use Rattle.hb_types.specs.declared.change.Change.{Change}
use Rattle.hb_types.specs.declared.change.Stored.{Stored}
use Rattle.hb_types.specs.declared.lock.Mode.{Mode}
use Rattle.hb_types.specs.declared.places.Path.{Path}
use Rattle.hb_types.specs.declared.places.Path.TheVariants as path
use Rattle.hb_types.specs.declared.places.Place.{Place}
use Rattle.hb_types.specs.declared.places.Space.{Space}
use Rattle.hb_types.specs.declared.request.Request.TheVariants as request
use Rattle.hb_types.specs.Put.{lookup, rows_under}
use Rattle.hb_types.specs.Places.{node_of_area}
use Rattle.hb_types.specs.Records.{change_bytes}
use Rattle.hb_model.specs.declared.reply.Reply.{Reply}
use Rattle.hb_model.specs.declared.reply.Reply.TheVariants as reply
use Rattle.hb_model.specs.Answers.{IsAnswerOf, rows_of, put_at}
use Rattle.hb_model.specs.Needs.{most_locks}
use Rattle.hb_model.specs.NodeSets.{has_node, with_node}
use Rattle.hb_model.specs.Outside.{is_outside}
use Rattle.hb_model.specs.Spots.{space_in}
use Rattle.hb_talk.specs.Plans.{locking}
use Rattle.hb_talk.specs.Talk.{says, Use, Planning, and_then, ◌>>◌, joining, lock, read, scan, scan_group, write, enlisted, expect, done, the_row, the_rows, met, refusal_of, the_tx}
use Rattle.hb_plancalc.proofs.Comes.{Stand, Comes, Outcome, Plans, plans_bind, with_answer}

-- an answer that isn't the one asked for is an outside reply
pub rejects : (node : ℕ) (a : Answer) → is_outside (refusal_of node a) ≡ true
rejects node answer.Down = refl
rejects node (answer.Fault area) = refl
rejects node (answer.Cycle edges) = refl
rejects node answer.NumbersSpent = refl
rejects node answer.NoMemory = refl
rejects node _ = refl

pub never : {P : Type 0} → (node : ℕ) (a : Answer) → IsTrue (not (is_outside (refusal_of node a))) → P
never node a h = absurd (false≢true (ap not (sym (rejects node a)) ∙ h))

-- with one more lock granted
abbrev pub granted : Stand → Stand
granted s = record s { locks = s.locks + 1 }

-- a use that goes on from another one, with these locks
pub record Goes (u v : Use) (count : ℕ) : Type 0 where
  pub locks : v.locks ≡ count
  pub bytes : v.bytes ≡ u.bytes

module _ (F : Stand → Reply → Use → Type 0) where
  enlisted_comes : (node : ℕ) (u : Use) (s : Stand) (Q : Stand → Unit {0} → Use → Type 0) → ((v : Use) → Goes u v u.locks → Q s tt v) → Plans (enlisted node) u s Q F
  enlisted_comes node u s Q q =
      let v : Use = record u { used = with_node u.used node } in
      cases (has_node u.used node) (q u (record { locks = refl; bytes = refl }))
      (λ a h. elim a as (λ x. Comes (and_then (λ _. joining node) u (met node x (done x))) s (Outcome Q F)) [ answer.Done ↦ q v (record { locks = refl; bytes = refl }) | x ↦ λ n. never node x n ])
    where
      cases : (b : Bool) → Q s tt u
          → Comes ((expect done node (request.Enlist (the_tx u)) >> joining node) u) s (Outcome Q F)
          → Comes (cond b (says (Ok tt, u)) ((expect done node (request.Enlist (the_tx u)) >> joining node) u)) s (Outcome Q F)
      cases true x y = x
      cases false x y = y

  pub read_comes : (node : ℕ) (place : Place) (u : Use) (s : Stand) (Q : Stand → Option (List ℕ) → Use → Type 0)
      → Q s (lookup place (rows_of node s.family)) u → Plans (read node place) u s Q F
  read_comes node place u s Q q =
      λ a. elim a as (λ x. IsAnswerOf (rows_of node s.family) (request.Read (the_tx u) place) x → Outcome Q F s (met node x (the_row x), u)) [
        | answer.Row row ↦ λ h. subst (λ r. Q s r u) (sym h) q
        | x ↦ λ h. λ n. never node x n
      ]

  pub scan_comes : (node : ℕ) (space : Space) (u : Use) (s : Stand) (Q : Stand → List Stored → Use → Type 0)
      → Q s (rows_under (path.Whole space) (rows_of node s.family)) u → Plans (scan node space) u s Q F
  scan_comes node space u s Q q =
      λ a. elim a as (λ x. IsAnswerOf (rows_of node s.family) (request.Scan (the_tx u) space) x → Outcome Q F s (met node x (the_rows x), u)) [
        | answer.Rows rows ↦ λ h. subst (λ r. Q s r u) (sym h) q
        | x ↦ λ h. λ n. never node x n
      ]

  pub scan_group_comes : (node : ℕ) (space : Space) (group : ℕ) (u : Use) (s : Stand) (Q : Stand → List Stored → Use → Type 0)
      → Q s (rows_under (path.Group space group) (rows_of node s.family)) u → Plans (scan_group node space group) u s Q F
  scan_group_comes node space group u s Q q =
      λ a. elim a as (λ x. IsAnswerOf (rows_of node s.family) (request.ScanGroup (the_tx u) space group) x → Outcome Q F s (met node x (the_rows x), u)) [
        | answer.Rows rows ↦ λ h. subst (λ r. Q s r u) (sym h) q
        | x ↦ λ h. λ n. never node x n
      ]

  -- a Lock is granted below the limit, and beyond it too much
  pub lock_comes : (node : ℕ) (p : Path) (m : Mode) (u : Use) (s : Stand) (Q : Stand → Unit {0} → Use → Type 0) → u.locks ≡ s.locks
      → ((v : Use) → Goes u v s.locks → most_locks ≤ s.locks → F s reply.TooMuch v)
      → ((v : Use) → Goes u v (s.locks + 1) → s.locks < most_locks → Q (granted s) tt v) → Plans (lock node p m) u s Q F
  lock_comes node p m u s Q even full q =
      plans_bind (enlisted node) (λ _. asking) u s Q F
      (enlisted_comes node u s (λ z a v. Plans asking v z Q F)
      (λ v g. by_limit v (record { locks = g.locks ∙ even; bytes = g.bytes }) (nat_le most_locks v.locks) refl))
    where
      asking : Planning (Unit {0})
      asking = λ v. cond (nat_le most_locks v.locks) (says (Err reply.TooMuch, v)) (expect done node (request.Lock (the_tx v) p m) (record v { locks = v.locks + 1 }))

      by_limit : (v : Use) → Goes u v s.locks → (b : Bool) → nat_le most_locks v.locks ≡ b
          → Comes (cond b (says (Err reply.TooMuch, v)) (expect done node (request.Lock (the_tx v) p m) (record v { locks = v.locks + 1 }))) s (Outcome Q F)
      by_limit v g true e = λ n. full v g (let l : most_locks ≤ v.locks = grind (arith, nat_tests) in omega (arith, g.locks))
      by_limit v g false e =
          λ a h. elim a as (λ x. Outcome Q F (with_answer node (request.Lock (the_tx v) p m) x s) (met node x (done x), record v { locks = v.locks + 1 })) [
            | answer.Done ↦
                q (record v { locks = v.locks + 1 }) (record { locks = ap (λ n. n + 1) g.locks; bytes = g.bytes })
                (let l : v.locks < most_locks = grind (arith, nat_tests) in omega (arith, g.locks))
            | x ↦ λ n. never node x n
          ]

  -- a Write puts its change
  pub write_comes : (node : ℕ) (c : Change) (u : Use) (s : Stand) (Q : Stand → Unit {0} → Use → Type 0)
      → ((v : Use) → Goes u v u.locks → Q (record { family = put_at node c s.family; locks = s.locks; bytes = s.bytes + length (change_bytes c) }) tt v)
      → Plans (write node c) u s Q F
  write_comes node c u s Q q =
      plans_bind (enlisted node) (λ _. asking) u s Q F
      (enlisted_comes node u s (λ z a v. Plans asking v z Q F)
      (λ v g. λ a h. elim a as (λ x. Outcome Q F (with_answer node (request.Write (the_tx v) c) x s) (met node x (done x), v)) [ answer.Done ↦ q v g | x ↦ λ n. never node x n ]))
    where
      asking : Planning (Unit {0})
      asking = λ v. expect done node (request.Write (the_tx v) c) v

  -- locks in so many areas
  pub locking_comes : (m : Mode) (table : ℕ) (areas : List ℕ) (u : Use) (s : Stand) (Q : Stand → Unit {0} → Use → Type 0) → u.locks ≡ s.locks → s.locks ≤ most_locks
      → ((v : Use) (n : ℕ) → Goes u v n → n < s.locks + length areas → n ≡ most_locks → F (record s { locks = n }) reply.TooMuch v)
      → ((v : Use) → Goes u v (s.locks + length areas) → s.locks + length areas ≤ most_locks → Q (record s { locks = s.locks + length areas }) tt v)
      → Plans (locking m table areas) u s Q F
  locking_comes m table [] u s Q even within full q =
      let l : s.locks + 0 ≡ s.locks = omega arith in
      subst (λ n. Q (record s { locks = n }) tt u) l (q u (record { locks = even ∙ sym l; bytes = refl }) (omega arith))
  locking_comes m table (a ∷ more) u s Q even within full q =
      plans_bind (lock (node_of_area a) (path.Whole (space_in a table)) m) (λ _. locking m table more) u s Q F
      (lock_comes (node_of_area a) (path.Whole (space_in a table)) m u s (λ z x v. Plans (locking m table more) v z Q F) even
      (λ v g l. full v s.locks g (omega arith) (omega (arith, l, within)))
      (λ v g l. let e : (s.locks + 1) + length more ≡ s.locks + length (a ∷ more) = omega arith in
      locking_comes m table more v (granted s) Q g.locks (omega (arith, l))
      (λ w n h k is. full w n (record { locks = h.locks; bytes = h.bytes ∙ g.bytes }) (omega (arith, k)) is)
      (λ w h k. subst (λ n. Q (record s { locks = n }) tt w) (sym e) (q w (record { locks = h.locks ∙ e; bytes = h.bytes ∙ g.bytes }) (omega (arith, k))))))
