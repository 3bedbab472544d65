-- Where a row that a transaction read comes from: it was written by the transaction, or it stood after some front of the decisions.
use Rattle.std.proofs.Common.{◌≡◌, ◌≢◌, ◌⊎◌, ◌∙◌, ℕ, suc, ◌+◌, ◌<◌, ◌≤◌, Bool, true, false, List, [], ◌∷◌, ◌++◌, Option, Some, None, ap, append_assoc, arith, inl, inr, refl, subst, sym}
use Rattle.std.specs.Prelude.{IsTrue, if◌then◌else◌, slice_get, filter, ◌||◌, not, ◌==◌, ⊤}
use Rattle.std.proofs.lemmas.Bool.{false≢true}
use Rattle.std.proofs.lemmas.List.Elements.{filter-append}
use Rattle.hb_types.specs.declared.answer.Answer.{Answer}
use Rattle.hb_types.specs.declared.answer.Answer.TheVariants as answer
use Rattle.hb_types.specs.declared.change.Change.{Change}
use Rattle.hb_types.specs.declared.change.Stored.{Stored}
use Rattle.hb_types.specs.declared.names.Tx.{Tx}
use Rattle.hb_types.specs.declared.places.Path.{Path}
use Rattle.hb_types.specs.declared.places.Path.TheVariants as path
use Rattle.hb_types.specs.declared.places.Place.{Place}
use Rattle.hb_types.specs.declared.places.Space.{Space}
use Rattle.hb_types.specs.declared.request.Request.{Request}
use Rattle.hb_types.specs.declared.request.Request.TheVariants as request
use Rattle.hb_types.specs.declared.trail.Call.{Call}
use Rattle.hb_types.specs.Lists.{Each, Has, IsIn}
use Rattle.hb_types.specs.Places.{is_under, same_place}
use Rattle.hb_types.specs.Put.{last_at, lookup, rows_under, touches}
use Rattle.hb_types.proofs.Ascending.{Each-in, Each-of, Has-back, Has-front, in_Each}
use Rattle.hb_types.proofs.PutLaws.{by_test}
use Rattle.hb_types.proofs.SamePlace.{same_place-eq}
use Rattle.hb_model.specs.Answers.{rows_answered, rows_of}
use Rattle.hb_model.specs.Asked.{AreUnder, IsWhereAsked}
use Rattle.hb_disks.specs.Images.{Logs, decided, family}
use Rattle.hb_disks.specs.LogPlaces.{end_behind}
use Rattle.hb_disks.specs.LogRules.{NumOK}
use Rattle.hb_disks.specs.Redo.{Decided}
use Rattle.hb_disks.specs.Says.{held}
use Rattle.hb_disks.specs.StandsFor.{AreDecisions, AreLogs, HasPrepared, HasVoted, greatest_upto}
use Rattle.hb_runs.specs.Board.{is_managed}
use Rattle.hb_runs.specs.Coordinator as coordinator
use Rattle.hb_runs.specs.Server.{SState, now}
use Rattle.hb_runs.specs.ServerAnswers.{Reads, Right, RightIn, view}
use Rattle.hb_runs.specs.ServerRuns.{Asked, Run, Turns, stopped_at}
use Rattle.hb_disks.specs.Redo.{redo}
use Rattle.hb_law.specs.Callers.{IsOpen, is_enlist}
use Rattle.hb_law.specs.Histories.{Labelled, Trails, asked_by, asked_of, calls_at, stands}
use Rattle.hb_law.specs.Transactions.{tx_asked}
use Rattle.hb_serverlaws.specs.Trails.{Ran, voted_in, whole, writes_of, wrote}
use Rattle.hb_serverlaws.proofs.Lifting.{once_front, run_parts}
use Rattle.hb_readlaws.specs.Ordering.{GroupsAreClean, GroupsAreFree, ReadsAreClean, SpacesAreClean, SpacesAreFree, WasPut, group_read, row_read, space_read}
use Rattle.hb_readlaws.specs.Stood.{LastWritersStood, StoodOnce}
use Rattle.hb_parts.specs.Callings.{Callings, IsOfSystem, tells_nothing}
use Rattle.hb_parts.specs.Courses.{IsCourse, IsOwned, Within, is_own}
use Rattle.hb_parts.specs.Voting.{KeptRan, ServersRan, is_kept, kept}
use Rattle.hb_whose.proofs.Parts.{behind_at, is_there, kept_twice, unkept}
use Rattle.hb_whose.proofs.Trailing.{calls_at_append, each_got, list_in_trail, own_of, own_parts, same_number}
use Rattle.hb_onefamily.proofs.Leaving.{rows_in_map, writes_filter}
use Rattle.hb_onefamily.proofs.Placing.{AtServer, at_server}
use Rattle.hb_onefamily.proofs.Staying.{decision_reserved}
use Rattle.hb_clean.proofs.Fronts.{cancel}

-- the laws that this part stands on
pub record Laws : Type 0 where
  pub servers : ServersRan
  pub reads : ReadsAreClean
  pub spaces : SpacesAreClean
  pub groups : GroupsAreClean
  pub spaces_free : SpacesAreFree
  pub groups_free : GroupsAreFree
  pub stood : LastWritersStood

-- ---- who answers rows, and to what

abbrev pub IsScan : Request → Type 0
IsScan (request.Scan tx space) = ⊤
IsScan (request.ScanGroup tx space group) = ⊤
IsScan _ = ⊥

fes_none : (up : Bool) (u : coordinator.CState) (q : Request) (rows : List Stored) → coordinator.RightIn up u q (answer.Rows rows) → ⊥
fes_none true u (request.Begin owner) rows r = r
fes_none true u q rows r = r
fes_none false u request.Start rows r = r
fes_none false u q rows r = r

fes_row : (up : Bool) (u : coordinator.CState) (tx : Tx) (p : Place) (row : Option (List ℕ)) → coordinator.RightIn up u (request.Read tx p) (answer.Row row) → ⊥
fes_row true u tx p row r = r
fes_row false u tx p row r = r

server_scans : (up : Bool) (s : SState) (q : Request) (rows : List Stored) → RightIn up s q (answer.Rows rows) → IsScan q
server_scans true s (request.Scan tx space) rows r = tt
server_scans true s (request.ScanGroup tx space group) rows r = tt
server_scans true s (request.Read tx p) rows r = absurd r.shows
server_scans true s q rows r = absurd r
server_scans false s request.Start rows r = absurd r
server_scans false s q rows r = absurd r

rows_stand : (q : Request) (rows : List Stored) → (IsTrue (is_managed q) → ⊥) → stands (record { request = q; answer = answer.Rows rows }) ≡ true
rows_stand (request.Ready tx) rows n = absurd (n refl)
rows_stand (request.End tx left) rows n = absurd (n refl)
rows_stand (request.Settled tx node) rows n = absurd (n refl)
rows_stand (request.Halted node) rows n = absurd (n refl)
rows_stand q rows n = refl

in_run : (s : SState) (trail : List Asked) (t : SState) (a : Asked) → Run s trail t → IsIn a trail → (u : SState) × Right u a.request a.answer
in_run s [] t a r h = absurd h
in_run s (b ∷ more) t a r (inl e) = (s, subst (λ z. Right s z.request z.answer) e r.1.right)
in_run s (b ∷ more) t a r (inr h) = in_run r.0 more t a r.2 h

one_more : (n : ℕ) → suc n ≡ n + 1
one_more n = omega arith

module _ (base logs : Logs) (trails : Trails) (lists : List (List Call)) (fes : List Labelled) (k : Callings base logs trails lists) (at : slice_get trails 0 ≡ Some fes) where
  pub scan_only : (c : ℕ) (list : List Call) (x : Call) → slice_get lists c ≡ Some list → IsIn x list
      → (rows : List Stored) → x.answer ≡ answer.Rows rows → IsScan x.request
  scan_only c list x h i rows e =
      let sys : IsOfSystem x = in_Each IsOfSystem x list i (each_got (λ l. Each IsOfSystem l) lists c list k.system h) in
      let tells : IsTrue (tells_nothing x.answer) → ⊥ = λ n. false≢true (subst (λ a. IsTrue (tells_nothing a)) e n) in
      let st : stands (asked_by x) ≡ true = subst (λ a. stands (record { request = x.request; answer = a }) ≡ true) (sym e) (rows_stand x.request rows (λ m. tells (sys.beside (inr m)))) in
      let s = at_server base logs trails lists k fes at c list x h i tells st (λ u r. fes_none u.up u x.request rows (subst (λ a. coordinator.Right u x.request a) e r)) in
      let trail : slice_get trails x.node.0 ≡ Some s.trail = subst (λ n. slice_get trails n ≡ Some s.trail) (sym s.is) s.got_trail in
      let within = list_in_trail trails lists k.merged x.node.0 c s.trail list x trail h i refl st in
      let ran = k.nodes.servers s.place s.before s.after s.trail s.got_before s.got_after (subst (λ n. slice_get trails n ≡ Some s.trail) (one_more s.place) s.got_trail) in
      let r = in_run _ (asked_of s.trail) ran.last (asked_by x) ran.ran within in
      server_scans r.0.up r.0 x.request rows (subst (λ a. Right r.0 x.request a) e r.1)

-- ---- what was written

-- a Write of this row at this place
abbrev pub Wrote : Place → List ℕ → Request → Type 0
Wrote p row (request.Write tx c) = (p ≡ c.place) × (c.row ≡ Some row)
Wrote p row _ = ⊥

has_append : {A : Type 0} (P : A → Type 0) (xs ys : List A) → Has P (xs ++ ys) → Has P xs ⊎ Has P ys
has_append P [] ys h = inr h
has_append P (x ∷ xs) ys (inl p) = inl (inl p)
has_append P (x ∷ xs) ys (inr h) = elim (has_append P xs ys h) [ inl i ↦ inl (inr i) | inr j ↦ inr j ]

module _ (p : Place) (row : List ℕ) where
  abbrev IsIts : Change → Type 0
  IsIts c = (p ≡ c.place) × (c.row ≡ Some row)

  put_last : (cs : List Change) (old : Option (List ℕ)) → last_at p cs old ≡ Some row → (old ≡ Some row) ⊎ Has IsIts cs
  put_last [] old e = inl e
  put_last (c ∷ cs) old e = by (put_last cs (if same_place p c.place then c.row else old) e)
    where
      by : ((if same_place p c.place then c.row else old) ≡ Some row) ⊎ Has IsIts cs → (old ≡ Some row) ⊎ Has IsIts (c ∷ cs)
      by (inl h) = by_test (same_place p c.place) (λ t. inr (inl (same_place-eq p c.place t, rw t at h))) (λ f. inl (rw f at h))
      by (inr h) = inr (inr h)

  wrote_it : (t : ℕ) (q : Request) (a : Answer) → Has IsIts (wrote t q a) → Wrote p row q
  wrote_it t (request.Write tx c) answer.Done h = by_test (tx.0 == t) (λ u. first (rw u at h)) (λ f. absurd (none (rw f at h)))
    where
      first : Has IsIts (c ∷ []) → (p ≡ c.place) × (c.row ≡ Some row)
      first (inl i) = i
      first (inr i) = absurd i

      none : Has IsIts [] → ⊥
      none i = i
  wrote_it t (request.Write tx c) a h = absurd h
  wrote_it t q a h = absurd h

  in_calls : (t node : ℕ) (calls : List Call) → Has IsIts (writes_of t (calls_at node calls)) → Has (λ c. Wrote p row c.request) calls
  in_calls t node [] h = absurd h
  in_calls t node (c ∷ cs) h =
      by_test (c.node.0 == node)
      (λ u. by (has_append IsIts (wrote t c.request c.answer) (writes_of t (calls_at node cs)) (rw u at h)) (λ i. in_calls t node cs i))
      (λ f. inr (in_calls t node cs (rw f at h)))
    where
      by : Has IsIts (wrote t c.request c.answer) ⊎ Has IsIts (writes_of t (calls_at node cs))
          → (Has IsIts (writes_of t (calls_at node cs)) → Has (λ c. Wrote p row c.request) cs) → Has (λ c. Wrote p row c.request) (c ∷ cs)
      by (inl i) rest = inl (wrote_it t c.request c.answer i)
      by (inr i) rest = inr (rest i)

  pub was_written : (t node : ℕ) (calls : List Call) → last_at p (writes_of t (calls_at node calls)) None ≡ Some row → Has (λ c. Wrote p row c.request) calls
  was_written t node calls e = by (put_last (writes_of t (calls_at node calls)) None e)
    where
      by : (None ≡ Some row) ⊎ Has IsIts (writes_of t (calls_at node calls)) → Has (λ c. Wrote p row c.request) calls
      by (inl h) = absurd (none_row h)
        where
          none_row : None ≡ Some row → ⊥
          none_row h = cc
      by (inr h) = in_calls t node calls h

-- ---- rows under a path

reads_space : (up : Bool) (s : SState) (tx : ℕ) (space : Space) (rows : List Stored) → RightIn up s (request.Scan (record { 0 = tx }) space) (answer.Rows rows)
    → Reads s tx (path.Whole space) (λ all. rows ≡ rows_under (path.Whole space) all)
reads_space true s tx space rows r = r
reads_space false s tx space rows r = absurd r

reads_group : (up : Bool) (s : SState) (tx : ℕ) (space : Space) (group : ℕ) (rows : List Stored)
    → RightIn up s (request.ScanGroup (record { 0 = tx }) space group) (answer.Rows rows)
    → Reads s tx (path.Group space group) (λ all. rows ≡ rows_under (path.Group space group) all)
reads_group true s tx space group rows r = r
reads_group false s tx space group rows r = absurd r

all_under : (p : Path) (rows : List Stored) → AreUnder p (rows_under p rows)
all_under p [] = tt
all_under p (r ∷ rs) = by_test (is_under p r.place) (λ t. rw t (t, all_under p rs)) (λ f. rw f (all_under p rs))

-- ---- one call of a transaction

or_true : (b : Bool) → (b || true) ≡ true
or_true true = refl
or_true false = refl

wider : (t : ℕ) (a : Asked) → is_own t a ≡ true → is_kept a ≡ true
wider t a u = let s = (own_parts t a u).1 in rw s (or_true (not (is_enlist a.request)))

-- the row stood at a server after some front of the decisions that has those of the base
pub record StoodIn (base logs : Logs) (further : List Decided) (node : ℕ) (p : Place) (row : List ℕ) : Type 0 where
  pub place : ℕ
  pub is : node ≡ suc place
  pub more : List Decided
  pub rest : List Decided
  pub parts : further ≡ more ++ rest
  pub stood : lookup p (rows_of (suc place) (family logs (decided base ++ more))) ≡ Some row

-- answers by kind
pub answered : (q : Request) (a : Answer) (P : Stored → Type 0)
    → ((tx : Tx) (p : Place) (row : List ℕ) → q ≡ request.Read tx p → a ≡ answer.Row (Some row) → P (record { place = p; row = row }))
    → ((rows : List Stored) → a ≡ answer.Rows rows → Each P rows) → Each P (rows_answered q a)
answered (request.Read tx p) (answer.Row (Some row)) P f g = (f tx p row refl refl, tt)
answered (request.Read tx p) (answer.Row None) P f g = tt
answered q (answer.Rows rows) P f g = g rows refl
answered q a P f g = tt

pub under_of : (q : Request) (a : Answer) → ((tx : Tx) (p : Space) (rows : List Stored) → q ≡ request.Scan tx p → a ≡ answer.Rows rows → AreUnder (path.Whole p) rows)
    → ((tx : Tx) (p : Space) (g : ℕ) (rows : List Stored) → q ≡ request.ScanGroup tx p g → a ≡ answer.Rows rows → AreUnder (path.Group p g) rows)
    → IsWhereAsked q a
under_of (request.Scan tx p) (answer.Rows rows) f g = f tx p rows refl refl
under_of (request.ScanGroup tx p gr) (answer.Rows rows) f g = g tx p gr rows refl refl
under_of q a f g = tt

pub scan_of : (G : Type 0) (q : Request) → IsScan q → ((tx : Tx) (p : Space) → q ≡ request.Scan tx p → G)
    → ((tx : Tx) (p : Space) (g : ℕ) → q ≡ request.ScanGroup tx p g → G) → G
scan_of G (request.Scan tx p) s f g = f tx p refl
scan_of G (request.ScanGroup tx p gr) s f g = g tx p gr refl
scan_of G q s f g = absurd s

module _ (laws : Laws) (base logs : Logs) (trails : Trails) (lists : List (List Call)) (fes : List Labelled) (k : Callings base logs trails lists)
    (right : AreLogs logs) (at : slice_get trails 0 ≡ Some fes) (further : List Decided) (grows : decided logs ≡ decided base ++ further) (t : ℕ)
    (o : IsOwned trails lists t) (new : greatest_upto base.fes < t) where
  -- the decisions of the base are of others
  apart : Each (λ d. d.tx ≢ t) (decided base)
  apart =
      Each-of (λ (d : Decided). d.tx ≤ greatest_upto base.fes) (λ d. d.tx ≢ t) (decided base) (λ d low. clash d.tx low)
      (decision_reserved (greatest_upto base.fes) base.fes k.right.transaction_numbers.fes)
    where
      clash : (u : ℕ) → u ≤ greatest_upto base.fes → u ≡ t → ⊥
      clash u low e = omega (arith, low, new, e)

  course_in : (x : Call) → IsIn x o.course → IsIn x o.list
  course_in x i = subst (IsIn x) (sym o.parts) (Has-back (λ y. y ≡ x) o.before (o.begin ∷ (o.course ++ o.after)) (inr (Has-front (λ y. y ≡ x) o.course o.after i)))

  module _ (done : List Call) (x : Call) (rest : List Call) (parts : o.course ≡ done ++ x ∷ rest) where
    within : IsIn x o.list
    within = course_in x (subst (IsIn x) (sym parts) (is_there x done rest))

    here : Within t done x.node.0 x.request
    here = behind_at (λ f y. Within t f y.node.0 y.request) [] done x rest (subst (IsCourse t) parts o.is_course)

    abbrev pub Came : Place → List ℕ → Type 0
    Came p row = Has (λ c. Wrote p row c.request) done ⊎ StoodIn base logs further x.node.0 p row

    -- where it stands in its server's trail
    record Here : Type 0 where
      server : AtServer base logs trails x.node.0
      run : KeptRan server.before server.after server.trail
      ahead : List Asked
      behind : List Asked
      reached : SState
      all : Ran server.before (end_behind 0 server.before) (ahead ++ asked_by x ∷ behind) run.last
      before : Ran server.before (end_behind 0 server.before) ahead reached
      on : Run reached (asked_by x ∷ behind) run.last
      writes : writes_of t ahead ≡ writes_of t (calls_at x.node.0 done)

    module _ (asks : tx_asked x.request ≡ Some t) (stood : stands (asked_by x) ≡ true) where
      run_of : (s : AtServer base logs trails x.node.0) → KeptRan s.before s.after s.trail
      run_of s =
          laws.servers base logs trails lists s.place s.before s.after s.trail k s.got_before s.got_after
          (subst (λ n. slice_get trails n ≡ Some s.trail) (one_more s.place) s.got_trail)

      in_kept : (s : AtServer base logs trails x.node.0)
          → filter (is_own t) (kept s.trail) ≡ filter (is_own t) (calls_at x.node.0 done) ++ asked_by x ∷ filter (is_own t) (calls_at x.node.0 rest)
      in_kept s =
          kept_twice (is_own t) is_kept (wider t) (asked_of s.trail)
          ∙ o.in_trails x.node.0 s.trail (subst (λ n. slice_get trails n ≡ Some s.trail) (sym s.is) s.got_trail)
          ∙ ap (λ c. filter (is_own t) (calls_at x.node.0 c)) parts ∙ ap (filter (is_own t)) (calls_at_append x.node.0 done (x ∷ rest))
          ∙ filter-append (is_own t) (calls_at x.node.0 done) (calls_at x.node.0 (x ∷ rest)) ∙ ap (λ l. filter (is_own t) (calls_at x.node.0 done) ++ l) first
        where
          first : filter (is_own t) (calls_at x.node.0 (x ∷ rest)) ≡ asked_by x ∷ filter (is_own t) (calls_at x.node.0 rest)
          first = let u = same_number x.node.0 in let v = own_of t (asked_by x) asks stood in rw (u, v) refl

      here_at : AtServer base logs trails x.node.0 → Here
      here_at s =
          let r = run_of s in
          let u = unkept (is_own t) (kept s.trail) (filter (is_own t) (calls_at x.node.0 done)) (asked_by x) (filter (is_own t) (calls_at x.node.0 rest)) (in_kept s) in
          let ran : Ran s.before (end_behind 0 s.before) (u.front ++ asked_by x ∷ u.back) r.last = subst (λ l. Ran s.before (end_behind 0 s.before) l r.last) u.parts r.ran in
          let cut = run_parts (stopped_at (redo s.before) (end_behind 0 s.before)) u.front (asked_by x ∷ u.back) r.last ran.run in
          record {
            server = s;
            run = r;
            ahead = u.front;
            behind = u.back;
            reached = cut.0;
            all = ran;
            before = record { is_right = ran.is_right; run = cut.1; once = once_front (voted_in s.before) u.front (asked_by x ∷ u.back) ran.once };
            on = cut.2;
            writes = sym (writes_filter t u.front) ∙ ap (writes_of t) u.before ∙ writes_filter t (calls_at x.node.0 done);
          }

    module _ (h : Here) where
      -- what voted of the base voted before
      voted : Each (λ d. HasPrepared (whole h.server.before h.run.last) d → HasPrepared h.server.before d) (decided base)
      voted =
          Each-in (λ d. HasPrepared (whole h.server.before h.run.last) d → HasPrepared h.server.before d) (decided base)
          (λ d i p. let old : HasVoted (h.server.place + 1) h.server.before d = in_Each (HasVoted (h.server.place + 1) h.server.before) d (decided base) i
          (k.right.votes_and_outcomes.servers h.server.place h.server.before h.server.got_before).voted in
          let now : HasVoted (h.server.place + 1) h.server.after d = in_Each (HasVoted (h.server.place + 1) h.server.after) d (decided logs)
          (subst (IsIn d) (sym grows) (Has-front (λ y. y ≡ d) (decided base) further i)) (right.votes_and_outcomes.servers h.server.place h.server.after h.server.got_after).voted in
          old.0 (now.1 (subst (λ l. HasPrepared l d) (sym h.run.log) p)))

      numbers : NumOK (whole h.server.before h.run.last) (decided base ++ further)
      numbers =
          subst (NumOK (whole h.server.before h.run.last)) grows
          (subst (λ l. NumOK l (decided logs)) h.run.log (right.votes_and_outcomes.servers h.server.place h.server.after h.server.got_after).numbers)

      came_from : (p : Place) (row : List ℕ) → WasPut (whole h.server.before h.reached) (writes_of t h.ahead) p row
          → Each (λ q. q.tx ≢ t → touches p q.changes ≡ false) (now h.reached).doubts → Came p row
      came_from p row (inl own) free = inl (was_written p row t x.node.0 done (subst (λ ws. last_at p ws None ≡ Some row) h.writes own))
      came_from p row (inr last) free =
          let s : StoodOnce (whole h.server.before h.run.last) (decided base) (decided base ++ further) p row =
          laws.stood h.server.before (end_behind 0 h.server.before) h.ahead (asked_by x ∷ h.behind) h.reached h.run.last (decided base) further t p row h.all h.before h.on numbers
          (subst AreDecisions grows right.decisions) apart voted last free in
          inr
          (record {
            place = h.server.place;
            is = h.server.is;
            more = s.more;
            rest = s.rest;
            parts = cancel (decided base) further (s.more ++ s.rest) (s.parts ∙ append_assoc (decided base) s.more s.rest);
            stood =
                ap (lookup p) (rows_in_map (λ log. held log (decided base ++ s.more)) logs.servers h.server.place h.server.after h.server.got_after)
                ∙ ap (λ l. lookup p (held l (decided base ++ s.more))) h.run.log ∙ s.stood;
          })

    -- ---- by kind

    row_came : (tx : Tx) (p : Place) (row : List ℕ) → x.request ≡ request.Read tx p → x.answer ≡ answer.Row (Some row) → Came p row
    row_came tx p row e f =
        let w : (tx.0 ≡ t) × IsOpen x.node.0 done = subst (Within t done x.node.0) e here in
        let it : asked_by x ≡ row_read t p (Some row) = λ i. record { request = (e ∙ ap (λ n. request.Read (record { 0 = n }) p) w.0) i; answer = f i } in
        let s = at_server base logs trails lists k fes at o.caller o.list x o.its_list within (λ n. false≢true (subst (λ a. IsTrue (tells_nothing a)) f n)) (ap stands it)
        (λ u r. fes_row u.up u (record { 0 = t }) p (Some row) (subst (λ z. coordinator.Right u z.request z.answer) it r)) in
        let h = here_at (ap tx_asked e ∙ ap (λ n. Some n) w.0) (ap stands it) s in
        let c = laws.reads h.server.before (end_behind 0 h.server.before) h.ahead h.reached h.on.0 t p row h.before (subst (λ z. Turns h.reached z h.on.0) it h.on.1) in
        came_from h p row c.0 c.1

    space_came : (tx : Tx) (p : Space) (rows : List Stored) → x.request ≡ request.Scan tx p → x.answer ≡ answer.Rows rows
        → Each (λ r. Came r.place r.row) rows × AreUnder (path.Whole p) rows
    space_came tx p rows e f =
        let w : (tx.0 ≡ t) × IsOpen x.node.0 done = subst (Within t done x.node.0) e here in
        let it : asked_by x ≡ space_read t p rows = λ i. record { request = (e ∙ ap (λ n. request.Scan (record { 0 = n }) p) w.0) i; answer = f i } in
        let s = at_server base logs trails lists k fes at o.caller o.list x o.its_list within (λ n. false≢true (subst (λ a. IsTrue (tells_nothing a)) f n)) (ap stands it)
        (λ u r. fes_none u.up u (request.Scan (record { 0 = t }) p) rows (subst (λ z. coordinator.Right u z.request z.answer) it r)) in
        let h = here_at (ap tx_asked e ∙ ap (λ n. Some n) w.0) (ap stands it) s in
        let turn = subst (λ z. Turns h.reached z h.on.0) it h.on.1 in
        let puts = laws.spaces h.server.before (end_behind 0 h.server.before) h.ahead h.reached h.on.0 t p rows h.before turn in
        let free = laws.spaces_free h.server.before (end_behind 0 h.server.before) h.ahead h.reached h.on.0 t p rows h.before turn in
        let reads = reads_space h.reached.up h.reached t p rows turn.right in
        let under : AreUnder (path.Whole p) rows = subst (AreUnder (path.Whole p)) (sym reads.shows) (all_under (path.Whole p) (view h.reached reads.branch)) in (
          Each-in (λ r. Came r.place r.row) rows
              (λ r i. came_from h r.place r.row
              (in_Each (λ r. WasPut (whole h.server.before h.reached) (writes_of t h.ahead) r.place r.row) r rows i puts)
              (free r.place (in_Each (λ r. is_under (path.Whole p) r.place ≡ true) r rows i under))),
          under,
        )

    group_came : (tx : Tx) (p : Space) (g : ℕ) (rows : List Stored) → x.request ≡ request.ScanGroup tx p g → x.answer ≡ answer.Rows rows
        → Each (λ r. Came r.place r.row) rows × AreUnder (path.Group p g) rows
    group_came tx p g rows e f =
        let w : (tx.0 ≡ t) × IsOpen x.node.0 done = subst (Within t done x.node.0) e here in
        let it : asked_by x ≡ group_read t p g rows = λ i. record { request = (e ∙ ap (λ n. request.ScanGroup (record { 0 = n }) p g) w.0) i; answer = f i } in
        let s = at_server base logs trails lists k fes at o.caller o.list x o.its_list within (λ n. false≢true (subst (λ a. IsTrue (tells_nothing a)) f n)) (ap stands it)
        (λ u r. fes_none u.up u (request.ScanGroup (record { 0 = t }) p g) rows (subst (λ z. coordinator.Right u z.request z.answer) it r)) in
        let h = here_at (ap tx_asked e ∙ ap (λ n. Some n) w.0) (ap stands it) s in
        let turn = subst (λ z. Turns h.reached z h.on.0) it h.on.1 in
        let puts = laws.groups h.server.before (end_behind 0 h.server.before) h.ahead h.reached h.on.0 t p g rows h.before turn in
        let free = laws.groups_free h.server.before (end_behind 0 h.server.before) h.ahead h.reached h.on.0 t p g rows h.before turn in
        let reads = reads_group h.reached.up h.reached t p g rows turn.right in
        let under : AreUnder (path.Group p g) rows = subst (AreUnder (path.Group p g)) (sym reads.shows) (all_under (path.Group p g) (view h.reached reads.branch)) in (
          Each-in (λ r. Came r.place r.row) rows
              (λ r i. came_from h r.place r.row
              (in_Each (λ r. WasPut (whole h.server.before h.reached) (writes_of t h.ahead) r.place r.row) r rows i puts)
              (free r.place (in_Each (λ r. is_under (path.Group p g) r.place ≡ true) r rows i under))),
          under,
        )

    pub given_came : Each (λ r. Came r.place r.row) (rows_answered x.request x.answer)
    given_came =
        answered x.request x.answer (λ r. Came r.place r.row) (λ tx p row e f. row_came tx p row e f)
        (λ rows f. scan_of (Each (λ r. Came r.place r.row) rows) x.request (scan_only base logs trails lists fes k at o.caller o.list x o.its_list within rows f)
        (λ tx p e. (space_came tx p rows e f).0) (λ tx p g e. (group_came tx p g rows e f).0))

    pub is_where_asked : IsWhereAsked x.request x.answer
    is_where_asked = under_of x.request x.answer (λ tx p rows e f. (space_came tx p rows e f).1) (λ tx p g rows e f. (group_came tx p g rows e f).1)
