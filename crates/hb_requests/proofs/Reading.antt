-- The turns of the requests that read.
use Rattle.std.proofs.Common.{◌≡◌, ℕ, Bool, true, refl, sym, ◌∙◌, ap, subst, List, [], ◌∷◌, map, take, ℤ, Option, Result, Ok, Err, inl, inr, suc, length, arith}
use Rattle.hb_types.specs.declared.answer.Answer.{Answer}
use Rattle.hb_types.specs.declared.answer.Answer.TheVariants as answer
use Rattle.hb_types.specs.declared.change.Change.{Change}
use Rattle.hb_types.specs.declared.change.Stored.{Stored}
use Rattle.hb_types.specs.declared.lock.Mode.TheVariants as mode
use Rattle.hb_types.specs.declared.names.Tx.{Tx}
use Rattle.hb_types.specs.declared.places.Path.{Path}
use Rattle.hb_types.specs.declared.places.Path.TheVariants as path
use Rattle.hb_types.specs.declared.places.Place.{Place}
use Rattle.hb_types.specs.declared.places.Space.{Space}
use Rattle.hb_types.specs.declared.request.Request.{Request}
use Rattle.hb_types.specs.declared.request.Request.TheVariants as request
use Rattle.hb_types.specs.Put.{lookup, normal, put_all, rows_under}
use Rattle.hb_laws.specs.RowOrder.{AreAscending}
use Rattle.hb_branch.specs.Overlays.{Overlay, changes_under}
use Rattle.hb_branch.proofs.Views.{scan_is}
use Rattle.std.specs.Prelude.{IfOk, MatchResult, ◌==◌}
use Rattle.std.proofs.lemmas.Bool.{eqb-true}
use Rattle.hb_types.specs.declared.memory.NoMemory.{NoMemory}
use Rattle.hb_runs.specs.Server.{SState, now}
use Rattle.hb_runs.specs.ServerCauses.{Causes}
use Rattle.hb_runs.specs.ServerAnswers.{RightIn, Reads}
use Rattle.hb_runs.specs.ServerRuns.{Turns}
use Rattle.hb_engine.specs.declared.engine.Engine.{Engine}
use Rattle.hb_engine.specs.declared.refusal.Refusal.TheVariants.{NoBranch, NotLocked}
use Rattle.hb_engine.specs.Turned.{StandsFor, IsCovered, IsRefused}
use Rattle.hb_requests.specs.Shown.{Shows, OrNoMemory}

-- nothing happens
turn : (s : SState) (q : Request) (a : Answer) → s.up ≡ true → Causes s q a [] → RightIn true s q a → Turns s (record { request = q; answer = a }) s
turn s q a up causes right = record { effects = []; causes = causes; right = subst (λ (b : Bool). RightIn b s q a) (sym up) right; steps = refl }

-- ---- a point read

pub read_row : (e : Engine) (rows : List Stored) (tx : Tx) (place : Place) (o : Overlay) (row base : Option (List ℕ)) (a : Answer)
    → ((rows : List Stored) (s : SState) → StandsFor e rows s → IsCovered s tx.0 mode.S (path.Key place) o)
    → ((rows : List Stored) (own : List Change) → o.changes ≡ normal own → base ≡ lookup place rows → row ≡ lookup place (put_all rows own))
    → base ≡ lookup place rows → OrNoMemory a (answer.Row row) → Shows e rows (request.Read tx place) a
read_row e rows tx place o row base a covered seen under (inr n) = λ s st. subst (λ (a : Answer). Turns s (record { request = request.Read tx place; answer = a }) s) (sym n) (turn s (request.Read tx place) answer.NoMemory st.up refl refl)
read_row e rows tx place o row base a covered seen under (inl n) = λ s st.
    let k = covered rows s st in
    let shown : row ≡ lookup place (put_all (now s).rows k.branch.own) = seen rows k.branch.own k.changes under ∙ ap (λ (r : List Stored). lookup place (put_all r k.branch.own)) st.rows_are in
    subst (λ (a : Answer). Turns s (record { request = request.Read tx place; answer = a }) s) (sym n)
    (turn s (request.Read tx place) (answer.Row row) st.up refl (record { branch = k.branch; live = k.live; covered = k.covered; shows = shown }))

pub read_no_branch : (e : Engine) (rows : List Stored) (tx : Tx) (place : Place) → ((rows : List Stored) (s : SState) → StandsFor e rows s → IsRefused s tx.0 mode.S (path.Key place) NoBranch)
    → Shows e rows (request.Read tx place) answer.NoBranch
read_no_branch e rows tx place refused = λ s st. turn s (request.Read tx place) answer.NoBranch st.up refl (refused rows s st)

pub read_not_locked : (e : Engine) (rows : List Stored) (tx : Tx) (place : Place) → ((rows : List Stored) (s : SState) → StandsFor e rows s → IsRefused s tx.0 mode.S (path.Key place) NotLocked)
    → Shows e rows (request.Read tx place) answer.NotLocked
read_not_locked e rows tx place refused = λ s st. turn s (request.Read tx place) answer.NotLocked st.up refl (refused rows s st)

-- ---- scans

abbrev Sees : List Stored → Path → Overlay → List Stored → Type 0
Sees rows p o found = (own : List Change) → o.changes ≡ normal own → AreAscending rows → found ≡ rows_under p (put_all rows own)

shown : (e : Engine) (rows : List Stored) (s : SState) (tx : Tx) (p : Path) (o : Overlay) (found : List Stored) → StandsFor e rows s → IsCovered s tx.0 mode.S p o → Sees rows p o found
    → Reads s tx.0 p (λ r. found ≡ rows_under p r)
shown e rows s tx p o found st k sees =
    record {
      branch = k.branch;
      live = k.live;
      covered = k.covered;
      shows = sees k.branch.own k.changes st.ascending ∙ ap (λ (r : List Stored). rows_under p (put_all r k.branch.own)) st.rows_are;
    }

pub scan_rows : (e : Engine) (rows : List Stored) (tx : Tx) (space : Space) (o : Overlay) (found : List Stored) → ((rows : List Stored) (s : SState) → StandsFor e rows s → IsCovered s tx.0 mode.S (path.Whole space) o)
    → Sees rows (path.Whole space) o found → Shows e rows (request.Scan tx space) (answer.Rows found)
scan_rows e rows tx space o found covered sees = λ s st. turn s (request.Scan tx space) (answer.Rows found) st.up refl (shown e rows s tx (path.Whole space) o found st (covered rows s st) sees)

pub scan_group_rows : (e : Engine) (rows : List Stored) (tx : Tx) (space : Space) (group : ℕ) (o : Overlay) (found : List Stored)
    → ((rows : List Stored) (s : SState) → StandsFor e rows s → IsCovered s tx.0 mode.S (path.Group space group) o)
    → Sees rows (path.Group space group) o found → Shows e rows (request.ScanGroup tx space group) (answer.Rows found)
scan_group_rows e rows tx space group o found covered sees =
    λ s st. turn s (request.ScanGroup tx space group) (answer.Rows found) st.up refl (shown e rows s tx (path.Group space group) o found st (covered rows s st) sees)

pub scan_no_memory : (e : Engine) (rows : List Stored) (tx : Tx) (space : Space) → Shows e rows (request.Scan tx space) answer.NoMemory
scan_no_memory e rows tx space = λ s st. turn s (request.Scan tx space) answer.NoMemory st.up refl refl

pub scan_group_no_memory : (e : Engine) (rows : List Stored) (tx : Tx) (space : Space) (group : ℕ) → Shows e rows (request.ScanGroup tx space group) answer.NoMemory
scan_group_no_memory e rows tx space group = λ s st. turn s (request.ScanGroup tx space group) answer.NoMemory st.up refl refl

pub scan_no_branch : (e : Engine) (rows : List Stored) (tx : Tx) (space : Space) → ((rows : List Stored) (s : SState) → StandsFor e rows s → IsRefused s tx.0 mode.S (path.Whole space) NoBranch)
    → Shows e rows (request.Scan tx space) answer.NoBranch
scan_no_branch e rows tx space refused = λ s st. turn s (request.Scan tx space) answer.NoBranch st.up refl (refused rows s st)

pub scan_not_locked : (e : Engine) (rows : List Stored) (tx : Tx) (space : Space) → ((rows : List Stored) (s : SState) → StandsFor e rows s → IsRefused s tx.0 mode.S (path.Whole space) NotLocked)
    → Shows e rows (request.Scan tx space) answer.NotLocked
scan_not_locked e rows tx space refused = λ s st. turn s (request.Scan tx space) answer.NotLocked st.up refl (refused rows s st)

pub scan_group_no_branch : (e : Engine) (rows : List Stored) (tx : Tx) (space : Space) (group : ℕ) → ((rows : List Stored) (s : SState) → StandsFor e rows s → IsRefused s tx.0 mode.S (path.Group space group) NoBranch)
    → Shows e rows (request.ScanGroup tx space group) answer.NoBranch
scan_group_no_branch e rows tx space group refused = λ s st. turn s (request.ScanGroup tx space group) answer.NoBranch st.up refl (refused rows s st)

pub scan_group_not_locked : (e : Engine) (rows : List Stored) (tx : Tx) (space : Space) (group : ℕ) → ((rows : List Stored) (s : SState) → StandsFor e rows s → IsRefused s tx.0 mode.S (path.Group space group) NotLocked)
    → Shows e rows (request.ScanGroup tx space group) answer.NotLocked
scan_group_not_locked e rows tx space group refused = λ s st. turn s (request.ScanGroup tx space group) answer.NotLocked st.up refl (refused rows s st)

-- ---- keys without a lock

pub keys_shown : (e : Engine) (rows : List Stored) (space : Space) (group most : ℕ) (keys : List ℤ) → keys ≡ take most (map (λ (r : Stored). r.place.key) (rows_under (path.Group space group) rows))
    → Shows e rows (request.GroupKeys space group most) (answer.Keys keys)
keys_shown e rows space group most keys is =
    λ s st. turn s (request.GroupKeys space group most) (answer.Keys keys) st.up refl
    (is ∙ ap (λ (r : List Stored). take most (map (λ (x : Stored). x.place.key) (rows_under (path.Group space group) r))) st.rows_are)

pub keys_no_memory : (e : Engine) (rows : List Stored) (space : Space) (group most : ℕ) → Shows e rows (request.GroupKeys space group most) answer.NoMemory
keys_no_memory e rows space group most = λ s st. turn s (request.GroupKeys space group most) answer.NoMemory st.up refl refl

-- ---- the answer of a scan

pub empty_list : (xs : List Change) → (length xs == 0) ≡ true → xs ≡ []
empty_list [] e = refl
empty_list (x ∷ xs) e = absurd (filled (eqb-true (length (x ∷ xs)) 0 e))
  where
    filled : suc (length xs) ≡ 0 → ⊥
    filled e = omega (arith, e)

pub none_changed : (p : Path) (rows : List Stored) (own : List Change) → AreAscending rows → normal own ≡ [] → rows_under p rows ≡ rows_under p (put_all rows own)
none_changed p rows own a none = ap (λ (cs : List Change). put_all (rows_under p rows) (changes_under p cs)) (sym none) ∙ scan_is p rows own a

pub scan_answer : (e : Engine) (rows : List Stored) (tx : Tx) (space : Space) (o : Overlay) (r : Result (List Stored) NoMemory) (a : Answer)
    → ((rows : List Stored) (s : SState) → StandsFor e rows s → IsCovered s tx.0 mode.S (path.Whole space) o) → IfOk r (λ found. Sees rows (path.Whole space) o found)
    → MatchResult r (λ found. a ≡ answer.Rows found) (λ x. a ≡ answer.NoMemory) → Shows e rows (request.Scan tx space) a
scan_answer e rows tx space o (Ok found) a covered sees is = subst (λ (a : Answer). Shows e rows (request.Scan tx space) a) (sym is) (scan_rows e rows tx space o found covered sees)
scan_answer e rows tx space o (Err x) a covered sees is = subst (λ (a : Answer). Shows e rows (request.Scan tx space) a) (sym is) (scan_no_memory e rows tx space)

pub scan_group_answer : (e : Engine) (rows : List Stored) (tx : Tx) (space : Space) (group : ℕ) (o : Overlay) (r : Result (List Stored) NoMemory) (a : Answer)
    → ((rows : List Stored) (s : SState) → StandsFor e rows s → IsCovered s tx.0 mode.S (path.Group space group) o) → IfOk r (λ found. Sees rows (path.Group space group) o found)
    → MatchResult r (λ found. a ≡ answer.Rows found) (λ x. a ≡ answer.NoMemory) → Shows e rows (request.ScanGroup tx space group) a
scan_group_answer e rows tx space group o (Ok found) a covered sees is = subst (λ (a : Answer). Shows e rows (request.ScanGroup tx space group) a) (sym is) (scan_group_rows e rows tx space group o found covered sees)
scan_group_answer e rows tx space group o (Err x) a covered sees is = subst (λ (a : Answer). Shows e rows (request.ScanGroup tx space group) a) (sym is) (scan_group_no_memory e rows tx space group)
