-- Worlds that the premises of the law shut out, each with the clause that does it.
use Rattle.std.proofs.Common.{◌≡◌, ◌⊎◌, ℕ, zero, suc, ℤ, false, List, [], ◌∷◌, ◌++◌, Option, Some, None, refl, subst, sym, ap, arith, inl, inr}
use Rattle.std.specs.Prelude.{IsTrue, Ok, codes, not, pos, ◌||◌, ⊤}
use Rattle.std.proofs.lemmas.Bool.{false≢true}
use Rattle.hb_types.specs.declared.answer.Answer.TheVariants as answer
use Rattle.hb_types.specs.declared.change.Stored.{Stored}
use Rattle.hb_types.specs.declared.names.Number.{Number}
use Rattle.hb_types.specs.declared.names.Owner.{Owner}
use Rattle.hb_types.specs.declared.names.Tx.{Tx}
use Rattle.hb_types.specs.declared.request.Request.TheVariants as request
use Rattle.hb_types.specs.declared.request.Vote.{Vote}
use Rattle.hb_types.specs.declared.trail.Call.{Call}
use Rattle.hb_types.specs.declared.trail.TrailEntry.{TrailEntry}
use Rattle.hb_types.specs.declared.value.Value.TheVariants.{Int}
use Rattle.hb_types.specs.Lists.{Each}
use Rattle.hb_types.specs.Rows.{row_bytes}
use Rattle.hb_types.proofs.SamePlace.{int_eq-refl}
use Rattle.hb_model.specs.declared.line.Line.{Line}
use Rattle.hb_model.specs.declared.line.Work.TheVariants as work
use Rattle.hb_model.specs.declared.script.Item.TheVariants as script
use Rattle.hb_model.specs.declared.reply.Reply.{Reply}
use Rattle.hb_model.specs.declared.reply.Reply.TheVariants as reply
use Rattle.hb_model.specs.declared.statement.Statement.TheVariants as statement
use Rattle.hb_model.specs.Answers.{call}
use Rattle.hb_model.specs.Families.{Family}
use Rattle.hb_model.specs.Items.{Item, sql}
use Rattle.hb_model.specs.Sources.{IsSelection, IsShownOf}
use Rattle.hb_model.specs.Spots.{place_in}
use Rattle.hb_disks.specs.Disks.{written}
use Rattle.hb_disks.specs.Images.{Images}
use Rattle.hb_disks.specs.Logless.{empty_images, empty_logs}
use Rattle.hb_law.specs.Answering.{IsOfSystem}
use Rattle.hb_law.specs.Composition.{World}
use Rattle.hb_law.specs.Moments.{IsWorldAt}
use Rattle.hb_law.specs.OwnAnswers.{IsOwnAnswer, Names, ScriptLine, given_by}
use Rattle.hb_law.specs.Standing.{Standing, after_line, after_lines, at_start}
use Rattle.hb_law.specs.Transcript.{AreOthers, IsInProgress, IsPart, IsTold}
use Rattle.hb_law.specs.Histories.{Event, calls, shows}
use Rattle.hb_law.specs.InTime.{InItsOrder}
use Rattle.hb_law.specs.RunAlone.{MovesRows}
use Rattle.hb_law.specs.Transactions.{AreTxns, BeginsIt, CommitTells, IsApart, IsOver, IsRightTending, IsRightTxn, ShowsAnswered, begins_of, tx_asked}

abbrev t1 : Tx
t1 = record { 0 = 1 }

abbrev t2 : Tx
t2 = record { 0 = 2 }

abbrev n7 : Number
n7 = record { 0 = 7 }

abbrev s1 : Owner
s1 = record { session = 0; nth = 1 }

abbrev decides : Call
decides = call 0 (request.Decide t1 []) (answer.Decided n7)

abbrev prepares : Call
prepares = call 1 (request.Prepare t1) answer.NoBranch

abbrev begins : Call
begins = call 0 (request.Begin (record { session = 0; nth = 2 })) (answer.Begun t2)

abbrev committed : Reply
committed = reply.Committed n7

neither : {A B : Type 0} → (A → ⊥) → (B → ⊥) → A ⊎ B → ⊥
neither f g (inl a) = f a
neither f g (inr b) = g b

nobody : ⊥ → ⊥
nobody h = h

-- ---- the manager begins and decides nothing

ten_is_not_zero : ◌≡◌ {A = ℕ} 10 0 → ⊥
ten_is_not_zero e = omega (arith, e)

pub mgr_begins : (o : Owner) → IsOfSystem (call 10 (request.Begin o) (answer.Begun t1)) → ⊥
mgr_begins o c = ten_is_not_zero (c.begins refl).0

pub mgr_decides : (votes : List Vote) → IsOfSystem (call 10 (request.Decide t1 votes) (answer.Decided n7)) → ⊥
mgr_decides votes c = false≢true (c.beside (inl refl))

-- ---- an item decides the transaction before, and then begins the next one

abbrev first_or : Call → List Call → Call
first_or c [] = c
first_or c (d ∷ ds) = d

begins_late : (before : List Call) (begin : Call) (more : List Call) → decides ∷ begins ∷ [] ≡ before ++ begin ∷ more → begins_of (begin ∷ []) ≡ 2 ∷ [] → Each IsApart before → ⊥
begins_late [] begin more e begun apart =
    nothing_is_two (subst (λ (c : Call). begins_of (c ∷ []) ≡ 2 ∷ []) (sym (ap (first_or decides) e)) begun)
  where
    nothing_is_two : ◌≡◌ {A = List ℕ} [] (2 ∷ []) → ⊥
    nothing_is_two e = cc
begins_late (x ∷ xs) begin more e begun apart = some_is_none (subst (λ (c : Call). tx_asked c.request ≡ None) (sym (ap (first_or decides) e)) apart.0.0)
  where
    some_is_none : ◌≡◌ {A = Option ℕ} (Some 1) None → ⊥
    some_is_none e = cc

pub decides_then_begins : BeginsIt 2 (decides ∷ begins ∷ []) → ⊥
decides_then_begins b = begins_late b.before b.begin b.more b.parts b.begun b.apart

pub decided_behind : IsOver 1 (record { place = 2; doing = sql statement.Rollback; calls = decides ∷ begins ∷ []; lines = [] } ∷ []) → ⊥
decided_behind over = over.0.0 refl

-- ---- a COMMIT that says LOST, undoes nothing, and goes on

pub commit_goes_on : CommitTells (prepares ∷ []) (Some (reply.Lost (record { 0 = 1 }))) → ⊥
commit_goes_on tells = neither false≢true nobody tells.2

-- ---- a number that nobody was answered

-- what belongs to no work shows no COMMITTED
pub tending_commits : (asked : List Call) → IsRightTending asked (committed ∷ []) → ⊥
tending_commits asked right = neither false≢true (λ undone. false≢true undone.0) right.2.0

-- nor does any item whose Decide was not answered so
pub shows_unanswered : ShowsAnswered (record { place = 1; doing = sql statement.Rollback; calls = prepares ∷ []; lines = committed ∷ [] }) → ⊥
shows_unanswered shown = neither (λ d. false≢true d.0) nobody shown.0

-- ---- a row and a number of an item that asked nothing

abbrev sneaks : Reply → Item
sneaks r = record { place = 1; doing = sql statement.Rollback; calls = []; lines = r ∷ [] }

pub row_of_nothing : AreTxns ([] ∷ (sneaks (reply.Rows ((Int (pos 42) ∷ []) ∷ [])) ∷ []) ∷ []) [] → ⊥
row_of_nothing txns = neither nobody (λ loose. false≢true loose.tells_none.0) (txns.none_left 1 (sneaks (reply.Rows ((Int (pos 42) ∷ []) ∷ [])) ∷ []) refl).0

pub number_of_nothing : AreTxns ([] ∷ (sneaks committed ∷ []) ∷ []) [] → ⊥
number_of_nothing txns = neither nobody (λ loose. false≢true loose.tells_none.0) (txns.none_left 1 (sneaks committed ∷ []) refl).0

-- ---- too early

-- a COMMIT begins no transaction
pub commit_begins : (back_ends : ℕ) (asked : List Call) (more : List Item)
    → IsRightTxn back_ends (record { owner = s1; tx = 1; items = record { place = 1; doing = sql statement.Commit; calls = asked; lines = committed ∷ [] } ∷ more }) → ⊥
commit_begins back_ends asked more right = right.begins

abbrev ends : Item
ends = record { place = 1; doing = sql statement.Commit; calls = decides ∷ []; lines = committed ∷ [] }

abbrev entry : TrailEntry
entry = record { caller = 1; nth = 1; request = decides.request; answer = decides.answer; from = 0; to = 0 }

-- a line before the Decide that it tells of
pub line_before_its_call : InItsOrder (shows 1 1 committed ∷ calls 1 0 entry ∷ []) ([] ∷ (ends ∷ []) ∷ []) → ⊥
line_before_its_call timely = absurd (cc (timely.own 1 (ends ∷ []) refl))

-- ---- a key that is counted twice

pub one_is_two : (table group old new : ℕ) (f g : Family) (k : ℤ) → MovesRows table group old new f g (k ∷ k ∷ []) → ⊥
one_is_two table group old new f g k moves = false≢true (subst (λ b. IsTrue (not ((b || false) || (false || false)))) (int_eq-refl k) moves.apart)

-- ---- the one answer to a line twice

abbrev names : Names
names = codes "s1" ∷ []

abbrev gives_commit : ScriptLine
gives_commit = Ok (script.Give (codes "s1") (work.Sql statement.Commit) false)

abbrev none_open : Line
none_open = record { session = Some 0; work = None; reply = reply.NoTransaction }

abbrev IsOther : Standing → Line → Type 0
IsOther s l = IsInProgress s l ⊎ ((l.session ≡ None) × IsTold s l.reply)

no_session : ◌≡◌ {A = Option ℕ} (Some 0) None → ⊥
no_session e = cc

abbrev OtherBehind : List Line → Type 0
OtherBehind [] = ⊤
OtherBehind (l ∷ ls) = AreOthers (after_line (given_by names at_start gives_commit) l) ls

abbrev OtherBefore : List Line → Type 0
OtherBefore [] = ⊤
OtherBefore (l ∷ ls) = IsOther at_start l

twice : (front : List Line) (own : Line) (back : List Line) → none_open ∷ none_open ∷ [] ≡ front ++ own ∷ back → AreOthers at_start front
    → AreOthers (after_lines (given_by names at_start gives_commit) (front ++ own ∷ [])) back → ⊥
twice [] own back e before behind = neither false≢true (λ h. no_session h.0) (subst OtherBehind (sym e) behind).0
twice (x ∷ xs) own back e before behind = neither false≢true (λ h. no_session h.0) (subst OtherBefore (sym e) before.0)

pub answered_twice : IsPart names 1 gives_commit at_start (none_open ∷ none_open ∷ []) → ⊥
answered_twice part = twice part.answer.front part.answer.own part.answer.back part.answer.parts part.answer.before part.answer.behind

-- ---- the answer of another node, and of another kind

abbrev stops : ScriptLine
stops = Ok (script.Stop (codes "bes1"))

abbrev synced : Line
synced = record { session = None; work = None; reply = reply.Synced (record { 0 = 1 }) }

abbrev up : Line
up = record { session = None; work = None; reply = reply.Up (record { 0 = 3 }) }

abbrev OwnFirst : List Line → Type 0
OwnFirst [] = ⊤
OwnFirst (l ∷ ls) = IsOwnAnswer [] false 1 stops l

abbrev OtherFirst : List Line → Type 0
OtherFirst [] = ⊤
OtherFirst (l ∷ ls) = IsOther at_start l

not_of_bes1 : (front : List Line) (own : Line) (back : List Line) → synced ∷ up ∷ [] ≡ front ++ own ∷ back → IsOwnAnswer [] false 1 stops own → AreOthers at_start front → ⊥
not_of_bes1 [] own back e is_own before = neither nobody false≢true (subst OwnFirst (sym e) is_own).1
not_of_bes1 (x ∷ xs) own back e is_own before = neither nobody (λ h. h.1) (subst OtherFirst (sym e) before.0)

pub answered_by_others : IsPart [] 1 stops at_start (synced ∷ up ∷ []) → ⊥
answered_by_others part = not_of_bes1 part.answer.front part.answer.own part.answer.back part.answer.parts part.answer.is_own part.answer.before

-- ---- a moment at which COMMITTED is shown and the disks are empty

abbrev unkept : World
unkept =
    record {
      base_images = empty_images;
      base = empty_logs;
      images = empty_images;
      logs = empty_logs;
      trails = [] ∷ [] ∷ [] ∷ [];
      lists = [] ∷ (sneaks committed ∷ []) ∷ [];
      txns = [];
      lines = record { caller = 1; place = 1; reply = committed } ∷ [];
    }

pub shown_and_not_kept : (w : World) (cut : List Event) (n : ℕ) (images : Images) → IsWorldAt written w unkept cut n images → ⊥
shown_and_not_kept w cut n images now = number_of_nothing now.txns

-- ---- a SELECT that shows a number out of range, whose bytes are those of the row that it was answered

abbrev five : Stored
five = record { place = place_in 257 1 (pos 1); row = row_bytes (Int (pos 5) ∷ []) }

same_bytes : row_bytes (Int (pos 4294967301) ∷ []) ≡ five.row
same_bytes = refl

not_selected : (positions : List ℕ) → IsSelection (Int (pos 5) ∷ []) positions (Int (pos 4294967301) ∷ []) → ⊥
not_selected [] e = absurd cc
not_selected (zero ∷ ps) e = let same : ◌≡◌ {A = ℕ} 5 4294967301 = cc in omega (arith, same)
not_selected (suc p ∷ ps) e = absurd cc

pub shown_by_its_bytes : IsShownOf (five ∷ []) (Int (pos 4294967301) ∷ []) → ⊥
shown_by_its_bytes (inl (users, (row, positions, told, selection))) =
    let same : Int (pos 5) ∷ [] ≡ row = cc in not_selected positions (subst (λ r. IsSelection r positions (Int (pos 4294967301) ∷ [])) (sym same) selection)
shown_by_its_bytes (inr none) = none
