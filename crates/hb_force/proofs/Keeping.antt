-- What a server that is up keeps through a request.
use Rattle.std.proofs.Common.{◌≡◌, ℕ, ◌+◌, ◌≤◌, refl, sym, ◌∙◌, ap, subst, arith, List, [], ◌∷◌, ◌++◌, length}
use Rattle.std.proofs.Common.{length-append}
use Rattle.std.specs.Prelude.{Option}
use Rattle.hb_types.specs.declared.answer.Answer.{Answer}
use Rattle.hb_types.specs.declared.change.Change.{Change}
use Rattle.hb_types.specs.declared.change.LogItem.{LogItem}
use Rattle.hb_types.specs.declared.change.LogItem.TheVariants as item
use Rattle.hb_types.specs.declared.change.Stored.{Stored}
use Rattle.hb_types.specs.declared.names.Number.{Number}
use Rattle.hb_types.specs.declared.names.Tx.{Tx}
use Rattle.hb_types.specs.declared.places.Place.{Place}
use Rattle.hb_types.specs.declared.request.Request.{Request}
use Rattle.hb_types.specs.declared.request.Request.TheVariants as request
use Rattle.hb_types.specs.Calls.{IsRequest}
use Rattle.hb_types.specs.Lists.{Each}
use Rattle.hb_types.specs.Numbers.{IsNumber, greatest}
use Rattle.hb_types.specs.Put.{normal}
use Rattle.hb_types.specs.Records.{IsChange, record_length}
use Rattle.hb_types.proofs.Ascending.{Each-append, in_Each}
use Rattle.hb_log.specs.declared.log.Log.{Log}
use Rattle.hb_disks.specs.LogPlaces.{end_behind}
use Rattle.hb_disks.specs.Redo.{Prepared, Redone, after, redo_from, without_tx, changes_of}
use Rattle.hb_disks.proofs.Fold.{redo_from-append}
use Rattle.hb_store.specs.Meanings.{changes_in, count_at, room_for}
use Rattle.hb_runs.specs.Server.{Branch, SState, now, IsLive, IsInDoubt}
use Rattle.hb_runs.specs.ServerEffects.{prepared, committed, aborted, happens, vote_of}
use Rattle.hb_runs.specs.ServerRuns.{Turns}
use Rattle.hb_engine.specs.declared.engine.Engine.{Engine}
use Rattle.hb_engine.specs.Turned.{StandsFor, Turned}
use Rattle.hb_requests.specs.Forced.{RecordsNone, Forces}
use Rattle.hb_force.specs.declared.running.Running.{Running}
use Rattle.hb_force.specs.Kept.{IsSound, IsSoundBranch, IsSoundDoubt, Kept}
use Rattle.hb_force.specs.Lengths.{HasPlace}
use Rattle.hb_force.specs.Quiet.{HasPaths}
use Rattle.hb_force.proofs.Causing.{quiet_causes}
use Rattle.hb_force.proofs.Logging.{end_behind-append}
use Rattle.hb_force.proofs.Rows.{HasRow, rows_put_all}
use Rattle.hb_force.proofs.Rooming.{room_for-more, room_for-without, without-shorter, each-changes}
use Rattle.hb_force.proofs.Sounding.{steps_stay, steps_log, each-normal, each-without_live, each-without_tx}
use Rattle.hb_edge.specs.Images.{Image}
use Rattle.hb_force.specs.Standing.{IsUp}
use Rattle.hb_force.proofs.Turning.{voted_log, voted_now, stays_up}

-- a record more at the end of a log
end_more : (place end : ℕ) (log : List LogItem) (i : LogItem) → end ≡ end_behind place log → end_behind place (log ++ i ∷ []) ≡ end + record_length i
end_more place end log i is = end_behind-append place log (i ∷ []) ∙ ap (λ (n : ℕ). n + record_length i) (sym is)

-- ---- sound states

voted_sound : (e : Engine) (rows : List Stored) (s : SState) (tx : Tx) (b : Branch) → StandsFor e rows s → IsLive s tx.0 b → IsSound s → IsSound (happens s (prepared tx.0))
voted_sound e rows s tx b st live sound =
    let is = voted_now e rows s tx b st live in
    let own = in_Each IsSoundBranch b s.live live.0 sound.live in
    record {
      live = each-without_live IsSoundBranch tx.0 s.live sound.live;
      doubts = subst (λ (r : Redone). Each IsSoundDoubt r.doubts) (sym is)
          (Each-append IsSoundDoubt (now s).doubts (record { tx = b.tx; floor = (now s).floor; locks = b.locks; changes = normal b.own } ∷ []) sound.doubts ((own.0, sound.floor, each-normal IsChange b.own own.2), tt));
      floor = subst (λ (r : Redone). r.floor ≤ greatest) (sym is) sound.floor;
      rows = subst (λ (r : Redone). Each HasRow r.rows) (sym is) sound.rows;
    }

ended_now : (s : SState) (i : LogItem) → redo_from s.base (s.log ++ i ∷ []) ≡ after (now s) i
ended_now s i = redo_from-append s.base s.log (i ∷ [])

committed_sound : (s : SState) (tx n : ℕ) → IsNumber n → IsSound s → IsSound (happens s (committed tx n))
committed_sound s tx n is sound =
    let e = ended_now s (item.Commit (record { 0 = tx }) (record { 0 = n })) in
    let low : (now s).floor ≤ greatest = sound.floor in
    let high : n ≤ greatest = is.1 in
    record {
      live = sound.live;
      doubts = subst (λ (r : Redone). Each IsSoundDoubt r.doubts) (sym e) (each-without_tx IsSoundDoubt tx (now s).doubts sound.doubts);
      floor = subst (λ (r : Redone). r.floor ≤ greatest) (sym e) (omega (arith, low, high));
      rows = subst (λ (r : Redone). Each HasRow r.rows) (sym e) (rows_put_all (now s).rows (changes_of tx (now s).doubts) sound.rows (each-changes tx (now s).doubts sound.doubts));
    }

aborted_sound : (s : SState) (tx : ℕ) → IsSound s → IsSound (happens s (aborted tx))
aborted_sound s tx sound =
    let e = ended_now s (item.Abort (record { 0 = tx })) in
    record {
      live = sound.live;
      doubts = subst (λ (r : Redone). Each IsSoundDoubt r.doubts) (sym e) (each-without_tx IsSoundDoubt tx (now s).doubts sound.doubts);
      floor = subst (λ (r : Redone). r.floor ≤ greatest) (sym e) sound.floor;
      rows = subst (λ (r : Redone). Each HasRow r.rows) (sym e) sound.rows;
    }

module _ {D S : Type 0} (rows : S → List Stored) (room : S → Place → ℕ) (old : Running D S) (k : Kept rows room old) where
  -- the store has more room, and all else is as it was
  pub kept_store : (new : Running D S) → new.engine ≡ old.engine → new.log.end ≡ old.log.end → rows new.store ≡ rows old.store → ((place : Place) → room old.store place ≤ room new.store place) → (n : Kept rows room new) × (k.state ≡ n.state)
  kept_store new engine end same more = (
    record {
      state = k.state;
      stands = subst (λ (l : List Stored). StandsFor new.engine l k.state) (sym same) (subst (λ (e : Engine). StandsFor e (rows old.store) k.state) (sym engine) k.stands);
      sound = k.sound;
      end_is = end ∙ k.end_is;
      has_room = let r = k.has_room in omega (arith, r, end);
      rooms = λ place. let r = k.rooms place in let m = more place in omega (arith, r, m);
    },
    refl,
  )

  -- a request that records nothing
  pub kept_turn : (new : Running D S) (q : Request) (a : Answer) → IsRequest q → HasPaths q → RecordsNone old.engine q a → Turned k.state q a (λ t. StandsFor new.engine (rows old.store) t) → new.log ≡ old.log → new.store ≡ old.store → (n : Kept rows room new) × Turns k.state (record { request = q; answer = a }) n.state
  kept_turn new q a well lies none t log store =
      let quiet = quiet_causes old.engine (rows old.store) k.state t.state q a t.turn.effects k.stands well lies none t.turn.causes t.turn.right t.turn.steps in
      let stays = steps_stay k.state t.state t.turn.effects quiet k.sound t.turn.steps in
      let same : now t.state ≡ now k.state = ap (λ (b : Redone). redo_from b t.state.log) stays.base ∙ ap (λ (l : List LogItem). redo_from k.state.base l) stays.log in
      let end : new.log.end ≡ old.log.end = ap (λ (l : Log D). l.end) log in (
        record {
          state = t.state;
          stands = subst (λ (x : S). StandsFor new.engine (rows x) t.state) (sym store) t.at;
          sound = stays.sound;
          end_is = end ∙ k.end_is ∙ ap (λ (n : ℕ). end_behind n k.state.log) (sym stays.place) ∙ ap (λ (l : List LogItem). end_behind t.state.place l) (sym stays.log);
          has_room = let r = k.has_room in let d = ap (λ (x : Redone). length x.doubts) same in omega (arith, r, end, d);
          rooms = λ place. subst (λ (x : S). room_for place (now t.state).doubts ≤ room x place) (sym store) (let r = k.rooms place in let d = ap (λ (x : Redone). room_for place x.doubts) same in omega (arith, r, d));
        },
        t.turn,
      )

  -- once a vote stands
  pub kept_voted : (new : Running D S) (tx : Tx) (b : Branch) (vote : LogItem) → IsLive k.state tx.0 b → vote ≡ vote_of k.state b → HasPlace old.log.end (length (now k.state).doubts) vote
      → StandsFor new.engine (rows new.store) (happens k.state (prepared tx.0)) → new.log.end ≡ old.log.end + record_length vote
      → ((place : Place) → room new.store place ≡ room old.store place + count_at place (changes_in vote)) → (m : Kept rows room new) × (happens k.state (prepared tx.0) ≡ m.state)
  kept_voted new tx b vote live is place stands end more =
      let log = voted_log old.engine (rows old.store) k.state tx b k.stands live vote is in
      let same = voted_now old.engine (rows old.store) k.state tx b k.stands live in (
        record {
          state = happens k.state (prepared tx.0);
          stands = stands;
          sound = voted_sound old.engine (rows old.store) k.state tx b k.stands live k.sound;
          end_is = end ∙ sym (ap (λ (l : List LogItem). end_behind k.state.place l) log ∙ end_more k.state.place old.log.end k.state.log vote k.end_is);
          has_room =
              let d : length (now (happens k.state (prepared tx.0))).doubts ≡ length ((now k.state).doubts ++ record { tx = b.tx; floor = (now k.state).floor; locks = b.locks; changes = normal b.own } ∷ []) = ap (λ (x : Redone). length x.doubts) same in
              let one = length-append (now k.state).doubts (record { tx = b.tx; floor = (now k.state).floor; locks = b.locks; changes = normal b.own } ∷ []) in
              let fits = place.0 in
              omega (arith, d, one, fits, end);
          rooms = λ p.
              let d : room_for p (now (happens k.state (prepared tx.0))).doubts ≡ room_for p ((now k.state).doubts ++ record { tx = b.tx; floor = (now k.state).floor; locks = b.locks; changes = normal b.own } ∷ []) = ap (λ (x : Redone). room_for p x.doubts) same in
              let one = room_for-more p (now k.state).doubts (record { tx = b.tx; floor = (now k.state).floor; locks = b.locks; changes = normal b.own }) in
              let r = k.rooms p in
              let m = more p in
              let c : count_at p (changes_in vote) ≡ count_at p (normal b.own) = ap (λ (i : LogItem). count_at p (changes_in i)) is in
              omega (arith, d, one, r, m, c);
        },
        refl,
      )

  -- room for an end, and the changes that are taken out of the store's room
  pub end_fits : (tx floor : ℕ) → IsInDoubt k.state tx floor → length (without_tx tx (now k.state).doubts) + 1 ≤ length (now k.state).doubts
  end_fits tx floor doubt = without-shorter (λ (p : Prepared). (p.tx ≡ tx) × (p.floor ≡ floor)) tx (now k.state).doubts (λ p is. is.0) doubt

  pub end_room : (tx floor : ℕ) → IsInDoubt k.state tx floor → old.log.end + 32 ≤ greatest
  end_room tx floor doubt = let one = end_fits tx floor doubt in let r = k.has_room in omega (arith, one, r)

  pub changes_room : (tx : ℕ) (changes : List Change) (place : Place) → changes_of tx (now k.state).doubts ≡ changes → count_at place changes ≤ room old.store place
  changes_room tx changes place are = let r = k.rooms place in let w = room_for-without place tx (now k.state).doubts in let c = ap (count_at place) are in omega (arith, r, w, c)

  pub changes_sound : (tx : ℕ) (changes : List Change) → changes_of tx (now k.state).doubts ≡ changes → Each IsChange changes
  changes_sound tx changes are = subst (Each IsChange) are (each-changes tx (now k.state).doubts k.sound.doubts)

  rooms_left : (tx : ℕ) (changes : List Change) (new : Running D S) (place : Place) → changes_of tx (now k.state).doubts ≡ changes → room old.store place ≡ room new.store place + count_at place changes → room_for place (without_tx tx (now k.state).doubts) ≤ room new.store place
  rooms_left tx changes new place are gone = let r = k.rooms place in let w = room_for-without place tx (now k.state).doubts in let c = ap (count_at place) are in omega (arith, r, w, c, gone)

  -- once a Commit stands and its changes are made
  pub kept_committed : (new : Running D S) (tx : Tx) (n : Number) (floor : ℕ) (changes : List Change) → IsNumber n.0 → IsInDoubt k.state tx.0 floor → changes_of tx.0 (now k.state).doubts ≡ changes
      → StandsFor new.engine (rows new.store) (happens k.state (committed tx.0 n.0)) → new.log.end ≡ old.log.end + 22
      → ((place : Place) → room old.store place ≡ room new.store place + count_at place changes) → (m : Kept rows room new) × (happens k.state (committed tx.0 n.0) ≡ m.state)
  kept_committed new tx n floor changes is doubt are stands end gone =
      let same = ended_now k.state (item.Commit tx n) in
      let one = end_fits tx.0 floor doubt in (
        record {
          state = happens k.state (committed tx.0 n.0);
          stands = stands;
          sound = committed_sound k.state tx.0 n.0 is k.sound;
          end_is = end ∙ sym (end_more k.state.place old.log.end k.state.log (item.Commit tx n) k.end_is);
          has_room =
              let d : length (now (happens k.state (committed tx.0 n.0))).doubts ≡ length (without_tx tx.0 (now k.state).doubts) = ap (λ (x : Redone). length x.doubts) same in
              let r = k.has_room in omega (arith, d, one, r, end);
          rooms = λ p.
              let d : room_for p (now (happens k.state (committed tx.0 n.0))).doubts ≡ room_for p (without_tx tx.0 (now k.state).doubts) = ap (λ (x : Redone). room_for p x.doubts) same in
              let l = rooms_left tx.0 changes new p are (gone p) in omega (arith, d, l);
        },
        refl,
      )

  -- once an Abort stands
  pub kept_aborted : (new : Running D S) (tx : Tx) (floor : ℕ) (changes : List Change) → IsInDoubt k.state tx.0 floor → changes_of tx.0 (now k.state).doubts ≡ changes
      → StandsFor new.engine (rows new.store) (happens k.state (aborted tx.0)) → new.log.end ≡ old.log.end + 14
      → ((place : Place) → room old.store place ≡ room new.store place + count_at place changes) → (m : Kept rows room new) × (happens k.state (aborted tx.0) ≡ m.state)
  kept_aborted new tx floor changes doubt are stands end gone =
      let same = ended_now k.state (item.Abort tx) in
      let one = end_fits tx.0 floor doubt in (
        record {
          state = happens k.state (aborted tx.0);
          stands = stands;
          sound = aborted_sound k.state tx.0 k.sound;
          end_is = end ∙ sym (end_more k.state.place old.log.end k.state.log (item.Abort tx) k.end_is);
          has_room =
              let d : length (now (happens k.state (aborted tx.0))).doubts ≡ length (without_tx tx.0 (now k.state).doubts) = ap (λ (x : Redone). length x.doubts) same in
              let r = k.has_room in omega (arith, d, one, r, end);
          rooms = λ p.
              let d : room_for p (now (happens k.state (aborted tx.0))).doubts ≡ room_for p (without_tx tx.0 (now k.state).doubts) = ap (λ (x : Redone). room_for p x.doubts) same in
              let l = rooms_left tx.0 changes new p are (gone p) in omega (arith, d, l);
        },
        refl,
      )

-- ---- a request that records nothing, in any state

pub quiet_turn : {D S : Type 0} (content : D → Option Image) (left : D → ℕ → Image → Type 0) (last : D → ℕ) (rows : S → List Stored) (from : ℕ) (read : List LogItem) (s : SState) (old : Running D S) (moment : ℕ)
    → IsUp content left last rows from read s old moment → (new : Running D S) (later : ℕ) (q : Request) (a : Answer) → moment ≤ later → IsRequest q → HasPaths q → RecordsNone old.engine q a → new.log ≡ old.log → new.store ≡ old.store
    → Turned s q a (λ t. StandsFor new.engine (rows old.store) t) → Turned s q a (λ t. IsUp content left last rows from read t new later)
quiet_turn {D} {S} content left last rows from read s old moment up new later q a le well lies none log store t =
    let quiet = quiet_causes old.engine (rows old.store) s t.state q a t.turn.effects up.stands well lies none t.turn.causes t.turn.right t.turn.steps in
    let same = steps_log s t.state t.turn.effects quiet t.turn.steps in
    record {
      state = t.state;
      turn = t.turn;
      at = stays_up content left last rows from read s old moment up t.state new later le log (subst (λ (x : S). StandsFor new.engine (rows x) t.state) (sym store) t.at) same.0 same.1;
    }

-- ---- where a record is to be forced nothing is done yet

pub forced_same : (old new : Engine) (q : Request) → Forces old new q → new ≡ old
forced_same old new (request.Prepare tx) is = is.0
forced_same old new (request.Commit tx n) is = is.0
forced_same old new (request.Rollback tx) is = is.0
forced_same old new request.Stop is = is
forced_same old new _ is = absurd is

pub never_forced : (old new : Engine) (q : Request) → Forces old new q → ((tx : Tx) → q ≡ request.Prepare tx → ⊥) → ((tx : Tx) (n : Number) → q ≡ request.Commit tx n → ⊥) → ((tx : Tx) → q ≡ request.Rollback tx → ⊥) → (q ≡ request.Stop → ⊥) → ⊥
never_forced old new (request.Prepare tx) is p c r s = p tx refl
never_forced old new (request.Commit tx n) is p c r s = c tx n refl
never_forced old new (request.Rollback tx) is p c r s = r tx refl
never_forced old new request.Stop is p c r s = s refl
never_forced old new _ is p c r s = is
