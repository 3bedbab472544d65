-- A right answer of a sound state is well formed.
use Rattle.std.proofs.Common.{◌≡◌, ℕ, ◌≤◌, true, List, [], ◌∷◌, map, sym, subst, Option, Some, None}
use mathlib.Core.HLevel.{×_prop, →_prop, ⊥_prop, Unit-prop}
use Rattle.std.proofs.Props.{props}
use Rattle.std.specs.Prelude.{◌≢◌, IsTrue, MatchOption, ⊤}
use Rattle.hb_codec.specs.Reading.{OneForm}
use Rattle.hb_codec.specs.Spellings.{SpellsRow}
use Rattle.hb_types.specs.declared.answer.Answer.{Answer}
use Rattle.hb_types.specs.declared.answer.Answer.TheVariants as answer
use Rattle.hb_types.specs.declared.change.Stored.{Stored}
use Rattle.hb_types.specs.declared.lock.Held.{Held}
use Rattle.hb_types.specs.declared.lock.Holder.{Holder}
use Rattle.hb_types.specs.declared.lock.Mode.{Mode}
use Rattle.hb_types.specs.declared.names.Number.{Number}
use Rattle.hb_types.specs.declared.names.Tx.{Tx}
use Rattle.hb_types.specs.declared.places.Path.{Path}
use Rattle.hb_types.specs.declared.places.Path.TheVariants as path
use Rattle.hb_types.specs.declared.places.Place.{Place}
use Rattle.hb_types.specs.declared.request.Request.{Request}
use Rattle.hb_types.specs.declared.request.Request.TheVariants as request
use Rattle.hb_types.specs.Calls.{AreHolders as AreHoldersTold, IsAnswer, IsRequest}
use Rattle.hb_types.specs.Lists.{Each, Has}
use Rattle.hb_types.specs.Numbers.{IsNumber, greatest}
use Rattle.hb_types.specs.Places.{same_path}
use Rattle.hb_types.specs.Rows.{IsRow}
use Rattle.hb_types.proofs.Ascending.{Each-append, Each-of, in_Each, pick}
use Rattle.hb_disks.specs.Redo.{Prepared}
use Rattle.hb_runs.specs.Server.{Branch, SState, IsLive, as_branch, now, unended}
use Rattle.hb_runs.specs.ServerAnswers.{Right, UpRight, view}
use Rattle.hb_runs.specs.ServerCauses.{AreHolders, Causes}
use Rattle.hb_runs.specs.ServerEffects.{Effect, Steps, after_all, happens}
use Rattle.hb_engine.specs.declared.engine.Engine.{Engine}
use Rattle.hb_engine.specs.Turned.{StandsFor, Turned}
use Rattle.hb_requests.specs.Forced.{RecordsNone}
use Rattle.hb_force.specs.declared.running.Running.{Running}
use Rattle.hb_force.specs.Kept.{IsSound, IsSoundBranch, IsSoundDoubt, Kept}
use Rattle.hb_force.specs.Quiet.{HasPaths}
use Rattle.hb_force.proofs.Causing.{quiet_causes, up_right}
use Rattle.hb_force.proofs.Once.{all_once, row_once}
use Rattle.hb_force.proofs.Rows.{HasRow, row_found, rows_found, rows_put_all}
use Rattle.hb_force.proofs.Sounding.{all_of, steps_stay}

-- ---- an answer is well formed in one way

option_once : OneForm SpellsRow → (row : Option (List ℕ)) → IsProp (MatchOption row ⊤ IsRow)
option_once one None = Unit-prop
option_once one (Some row) = row_once one row

pub answer_once : OneForm SpellsRow → (a : Answer) → IsProp (IsAnswer a)
answer_once one (answer.Begun tx) = hlevel props
answer_once one (answer.Decided number) = hlevel props
answer_once one (answer.Blocked path wanted holders) = ×_prop (→_prop ⊥_prop) (all_once (λ (h : Holder). IsNumber h.tx.0) (λ h. hlevel props) holders)
answer_once one (answer.Row row) = option_once one row
answer_once one (answer.Rows rows) = all_once HasRow (λ r. row_once one r.row) rows
answer_once one (answer.Vote floor) = hlevel props
answer_once one (answer.Low floor) = hlevel props
answer_once one (answer.Started doubts) = all_once (λ (t : Tx). IsNumber t.0) (λ t. hlevel props) doubts
answer_once one (answer.NotYet target) = hlevel props
answer_once one _ = Unit-prop

-- ---- holders

abbrev HasNumber : Branch → Type 0
HasNumber b = IsNumber b.tx

abbrev IsHolder : Holder → Type 0
IsHolder h = IsNumber h.tx.0

doubts_number : (ps : List Prepared) → Each IsSoundDoubt ps → Each HasNumber (map as_branch ps)
doubts_number [] each = tt
doubts_number (p ∷ ps) each = (each.0.0, doubts_number ps each.1)

branches_number : (s : SState) → IsSound s → Each HasNumber (unended s)
branches_number s sound = Each-append HasNumber s.live (map as_branch (now s).doubts) (Each-of IsSoundBranch HasNumber s.live (λ b ok. ok.0) sound.live) (doubts_number (now s).doubts sound.doubts)

holders_number : (Q : Holder → Branch → Type 0) → ((h : Holder) (b : Branch) → Q h b → b.tx ≡ h.tx.0) → (bs : List Branch) → Each HasNumber bs → (hs : List Holder) → Each (λ h. Has (Q h) bs) hs → Each IsHolder hs
holders_number Q of bs ok [] each = tt
holders_number Q of bs ok (h ∷ hs) each =
    let b = pick (Q h) HasNumber bs each.0 ok in
    (subst IsNumber (of h b.item b.one) b.other, holders_number Q of bs ok hs each.1)

holders_told : (s : SState) (tx : ℕ) (l : Held) (hs : List Holder) → IsSound s → AreHolders s tx l hs → AreHoldersTold hs
holders_told s tx l hs sound are =
    let each = holders_number (λ h b. (b.tx ≡ h.tx.0) × (b.tx ≢ tx) × Has (λ k. IsTrue (same_path k.path l.path) × (k.mode ≡ h.mode)) b.locks) (λ h b q. q.0) (unended s) (branches_number s sound) hs are.each in
    (are.some, all_of IsHolder hs each)

steps_after : (s t : SState) (es : List Effect) → Steps s es t → after_all s es ≡ t
steps_after s t [] steps = steps
steps_after s t (e ∷ es) steps = steps_after (happens s e) t es steps.1

blocked_told : (s t : SState) (q : Request) (p : Path) (m : Mode) (hs : List Holder) (es : List Effect) → IsSound t → Steps s es t → Causes s q (answer.Blocked p m hs) es → UpRight s q (answer.Blocked p m hs) → AreHoldersTold hs
blocked_told s t (request.Lock tx path mode) p m hs es sound steps causes right =
    holders_told (after_all s es) tx.0 (record { path = p; mode = m }) hs (subst IsSound (sym (steps_after s t es steps)) sound) causes.in_the_way
blocked_told s t (request.Read tx place) p m hs es sound steps causes right = absurd right.shows
blocked_told s t (request.Scan tx space) p m hs es sound steps causes right = absurd right.shows
blocked_told s t (request.ScanGroup tx space group) p m hs es sound steps causes right = absurd right.shows
blocked_told s t _ p m hs es sound steps causes right = absurd right

-- ---- rows and floors

view_rows : (s : SState) (tx : ℕ) (b : Branch) → IsLive s tx b → IsSound s → Each HasRow (view s b)
view_rows s tx b live sound = let own = in_Each IsSoundBranch b s.live live.0 sound.live in rows_put_all (now s).rows b.own sound.rows own.2

row_told : (s : SState) (q : Request) (row : Option (List ℕ)) → IsSound s → UpRight s q (answer.Row row) → MatchOption row ⊤ IsRow
row_told s (request.Read tx place) row sound right =
    subst (λ (o : Option (List ℕ)). MatchOption o ⊤ IsRow) (sym right.shows) (row_found place (view s right.branch) (view_rows s tx.0 right.branch right.live sound))
row_told s (request.Scan tx space) row sound right = absurd right.shows
row_told s (request.ScanGroup tx space group) row sound right = absurd right.shows
row_told s _ row sound right = absurd right

rows_told : (s : SState) (q : Request) (rows : List Stored) → IsSound s → UpRight s q (answer.Rows rows) → Each HasRow rows
rows_told s (request.Read tx place) rows sound right = absurd right.shows
rows_told s (request.Scan tx space) rows sound right =
    subst (Each HasRow) (sym right.shows) (rows_found (path.Whole space) (view s right.branch) (view_rows s tx.0 right.branch right.live sound))
rows_told s (request.ScanGroup tx space group) rows sound right =
    subst (Each HasRow) (sym right.shows) (rows_found (path.Group space group) (view s right.branch) (view_rows s tx.0 right.branch right.live sound))
rows_told s _ rows sound right = absurd right

vote_told : (s : SState) (q : Request) (floor : Number) → IsSound s → UpRight s q (answer.Vote floor) → floor.0 ≤ greatest
vote_told s (request.Prepare tx) floor sound right = subst (λ (n : ℕ). n ≤ greatest) (sym right) sound.floor
vote_told s (request.Read tx place) floor sound right = absurd right.shows
vote_told s (request.Scan tx space) floor sound right = absurd right.shows
vote_told s (request.ScanGroup tx space group) floor sound right = absurd right.shows
vote_told s _ floor sound right = absurd right

low_told : (s : SState) (q : Request) (floor : Number) → IsSound s → UpRight s q (answer.Low floor) → floor.0 ≤ greatest
low_told s (request.Commit tx n) floor sound right =
    let d = pick (λ p. (p.tx ≡ tx.0) × (p.floor ≡ floor.0)) IsSoundDoubt (now s).doubts right.0 sound.doubts in
    subst (λ (n : ℕ). n ≤ greatest) d.one.1 d.other.1
low_told s (request.Read tx place) floor sound right = absurd right.shows
low_told s (request.Scan tx space) floor sound right = absurd right.shows
low_told s (request.ScanGroup tx space group) floor sound right = absurd right.shows
low_told s _ floor sound right = absurd right

-- ---- answers of other nodes, and of a start

none_begun : (s : SState) (q : Request) (tx : Tx) → UpRight s q (answer.Begun tx) → ⊥
none_begun s (request.Read t place) tx right = right.shows
none_begun s (request.Scan t space) tx right = right.shows
none_begun s (request.ScanGroup t space group) tx right = right.shows
none_begun s _ tx right = right

none_decided : (s : SState) (q : Request) (n : Number) → UpRight s q (answer.Decided n) → ⊥
none_decided s (request.Read t place) n right = right.shows
none_decided s (request.Scan t space) n right = right.shows
none_decided s (request.ScanGroup t space group) n right = right.shows
none_decided s _ n right = right

none_waits : (s : SState) (q : Request) (tx : Tx) → UpRight s q (answer.NotYet tx) → ⊥
none_waits s (request.Read t place) tx right = right.shows
none_waits s (request.Scan t space) tx right = right.shows
none_waits s (request.ScanGroup t space group) tx right = right.shows
none_waits s _ tx right = right

none_started : (s : SState) (q : Request) (found : List Tx) → UpRight s q (answer.Started found) → ⊥
none_started s (request.Read t place) found right = right.shows
none_started s (request.Scan t space) found right = right.shows
none_started s (request.ScanGroup t space group) found right = right.shows
none_started s _ found right = right

-- ---- all of them

told : (s t : SState) (q : Request) (a : Answer) (es : List Effect) → s.up ≡ true → IsSound s → IsSound t → Steps s es t → Causes s q a es → Right s q a → IsAnswer a
told s t q (answer.Begun tx) es up sound then steps causes right = absurd (none_begun s q tx (up_right s q (answer.Begun tx) up right))
told s t q (answer.Decided n) es up sound then steps causes right = absurd (none_decided s q n (up_right s q (answer.Decided n) up right))
told s t q (answer.NotYet tx) es up sound then steps causes right = absurd (none_waits s q tx (up_right s q (answer.NotYet tx) up right))
told s t q (answer.Started found) es up sound then steps causes right = absurd (none_started s q found (up_right s q (answer.Started found) up right))
told s t q (answer.Blocked p m hs) es up sound then steps causes right = blocked_told s t q p m hs es then steps causes (up_right s q (answer.Blocked p m hs) up right)
told s t q (answer.Row row) es up sound then steps causes right = row_told s q row sound (up_right s q (answer.Row row) up right)
told s t q (answer.Rows rows) es up sound then steps causes right = all_of HasRow rows (rows_told s q rows sound (up_right s q (answer.Rows rows) up right))
told s t q (answer.Vote floor) es up sound then steps causes right = vote_told s q floor sound (up_right s q (answer.Vote floor) up right)
told s t q (answer.Low floor) es up sound then steps causes right = low_told s q floor sound (up_right s q (answer.Low floor) up right)
told s t q _ es up sound then steps causes right = tt

pub served_well : {D S : Type 0} (rows : S → List Stored) (room : S → Place → ℕ) (old : Running D S) (k : Kept rows room old) (new : Engine) (q : Request) (a : Answer) → IsRequest q → HasPaths q → RecordsNone old.engine q a
    → Turned k.state q a (λ t. StandsFor new (rows old.store) t) → IsAnswer a
served_well rows room old k new q a well lies none t =
    let quiet = quiet_causes old.engine (rows old.store) k.state t.state q a t.turn.effects k.stands well lies none t.turn.causes t.turn.right t.turn.steps in
    let stays = steps_stay k.state t.state t.turn.effects quiet k.sound t.turn.steps in
    told k.state t.state q a t.turn.effects k.stands.up k.sound stays.sound t.turn.steps t.turn.causes t.turn.right

pub voted_well : (s : SState) (tx : Tx) (floor : Number) → s.up ≡ true → IsSound s → Right s (request.Prepare tx) (answer.Vote floor) → floor.0 ≤ greatest
voted_well s tx floor up sound right = vote_told s (request.Prepare tx) floor sound (up_right s (request.Prepare tx) (answer.Vote floor) up right)
