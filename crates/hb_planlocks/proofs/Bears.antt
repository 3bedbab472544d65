-- The locks that a talk asks for, by the rows that it was answered.
use Rattle.std.proofs.Common.{◌≡◌, ℕ, List, ◌++◌, Option, Some, Result, Bool}
use Rattle.std.specs.Prelude.{⊤, IsTrue}
use Rattle.std.proofs.lemmas.Bool.{false≢true}
use Rattle.hb_types.specs.declared.answer.Answer.TheVariants as answer
use Rattle.hb_types.specs.declared.change.Change.{Change}
use Rattle.hb_types.specs.declared.change.Stored.{Stored}
use Rattle.hb_types.specs.declared.lock.Mode.{Mode}
use Rattle.hb_types.specs.declared.places.Path.{Path}
use Rattle.hb_types.specs.declared.places.Path.TheVariants as path
use Rattle.hb_types.specs.declared.places.Place.{Place}
use Rattle.hb_types.specs.declared.places.Space.{Space}
use Rattle.hb_types.specs.declared.request.Request.{Request}
use Rattle.hb_types.specs.declared.request.Request.TheVariants as request
use Rattle.hb_types.specs.declared.trail.Call.{Call}
use Rattle.hb_types.specs.Lists.{EachBehind}
use Rattle.hb_types.proofs.Ascending.{Each-in}
use Rattle.hb_model.specs.declared.reply.Reply.{Reply}
use Rattle.hb_model.specs.Answers.{given, rows_answered}
use Rattle.hb_model.specs.Asked.{AreUnder, AreWhereAsked}
use Rattle.hb_model.specs.Locking.{OfLock}
use Rattle.hb_model.specs.Needs.{Need}
use Rattle.hb_talk.specs.Plans.{some_or, writes}
use Rattle.hb_talk.specs.Talk.{Begins, Talk, Use, Planning, Follows, ◌>>=◌, lock, read, scan, scan_group, refuse, the_tx}
use Rattle.hb_planlocks.proofs.Course.{Rule, is_free, begins_rightly, follows_rightly}
use Rattle.hb_planlocks.proofs.Course as course

module _ (M : List Stored → Need → Type 0) where
  -- each lock may be asked for by the rows that were answered before
  abbrev pub locks : Rule
  locks = record { May = λ g node q. OfLock (M g) node q; Refused = λ r. ⊤; free = free; refusals = λ node a. tt; too_much = tt }
    where
      free : (g : List Stored) (node : ℕ) (q : Request) → IsTrue (is_free q) → OfLock (M g) node q
      free g node q = elim q as (λ x. IsTrue (is_free x) → OfLock (M g) node x) [ request.Lock tx p m ↦ λ h. absurd (false≢true h) | x ↦ λ h. tt ]

  abbrev pub Bears : {R : Type 0} → Talk R → List Stored → (List Stored → R → Type 0) → Type 0
  Bears t g Q = course.Bears locks t g Q

  pub rightly : {R : Type 0} → (b : Bool) (t : Talk R) (cs : List Call) (r : R) → Follows b t cs r → (before : List Call) (Q : List Stored → R → Type 0)
      → Bears t (given before) Q → AreWhereAsked cs → EachBehind (λ front c. OfLock (M (given front)) c.node.0 c.request) before cs
  rightly b t cs r f before Q w h = (follows_rightly locks b t cs r f before Q w h).asked_rightly

  pub begins_by : {R : Type 0} → (t : Talk R) (cs : List Call) → Begins t cs → (before : List Call) (Q : List Stored → R → Type 0) → Bears t (given before) Q → AreWhereAsked cs
      → EachBehind (λ front c. OfLock (M (given front)) c.node.0 c.request) before cs
  begins_by t cs begins before Q w h = begins_rightly locks t cs begins before Q w h

  -- ---- plans

  abbrev pub Goes : {A : Type 0} → (List Stored → A → Type 0) → List Stored → Result A Reply × Use → Type 0
  Goes Q g r = course.Goes locks Q g r

  abbrev pub Bearing : {A : Type 0} → Planning A → Use → List Stored → (List Stored → A → Type 0) → Type 0
  Bearing p u g Q = course.Bearing locks p u g Q

  pub bearing_bind : {A B : Type 0} → (p : Planning A) (f : A → Planning B) (u : Use) (g : List Stored) (Q : List Stored → B → Type 0)
      → Bearing p u g (λ h a. (v : Use) → Bearing (f a) v h Q) → Bearing (p >>= f) u g Q
  bearing_bind p f u g Q w = course.bearing_bind locks p f u g Q w

  pub bears_lock : (node : ℕ) (p : Path) (m : Mode) (u : Use) (g : List Stored) (Q : List Stored → Unit {0} → Type 0) → M g (record { node = node; path = p; mode = m }) → Q g tt
      → Bearing (lock node p m) u g Q
  bears_lock node p m u g Q may q = course.bears_lock locks node p m u g Q (λ tx. may) q

  pub bears_read : (node : ℕ) (place : Place) (u : Use) (g : List Stored) (Q : List Stored → Option (List ℕ) → Type 0)
      → ((row : Option (List ℕ)) → Q (g ++ rows_answered (request.Read (the_tx u) place) (answer.Row row)) row) → Bearing (read node place) u g Q
  bears_read node place u g Q q = course.bears_read locks node place u g Q q

  pub bears_scan : (node : ℕ) (space : Space) (u : Use) (g : List Stored) (Q : List Stored → List Stored → Type 0)
      → ((rows : List Stored) → AreUnder (path.Whole space) rows → Q (g ++ rows) rows) → Bearing (scan node space) u g Q
  bears_scan node space u g Q q = course.bears_scan locks node space u g Q q

  pub bears_scan_group : (node : ℕ) (space : Space) (group : ℕ) (u : Use) (g : List Stored) (Q : List Stored → List Stored → Type 0)
      → ((rows : List Stored) → AreUnder (path.Group space group) rows → Q (g ++ rows) rows) → Bearing (scan_group node space group) u g Q
  bears_scan_group node space group u g Q q = course.bears_scan_group locks node space group u g Q q

  pub bears_refuse : (o : Option Reply) (u : Use) (g : List Stored) (Q : List Stored → Unit {0} → Type 0) → Q g tt → Bearing (refuse o) u g Q
  bears_refuse o u g Q q = course.bears_refuse locks o u g Q (λ r e. tt) q

  pub bears_some_or : {A : Type 0} (r : Reply) (o : Option A) (u : Use) (g : List Stored) (Q : List Stored → A → Type 0) → ((x : A) → o ≡ Some x → Q g x) → Bearing (some_or r o) u g Q
  bears_some_or r o u g Q q = course.bears_some_or locks r o u g Q tt q

  pub bears_writes : (cs : List Change) (u : Use) (g : List Stored) (Q : List Stored → Unit {0} → Type 0) → Q g tt → Bearing (writes cs) u g Q
  bears_writes cs u g Q q = course.bears_writes locks cs u g Q (Each-in (course.MayWrite locks g) cs (λ c i tx. tt)) q
