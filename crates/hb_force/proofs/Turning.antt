-- The turns of a server that is up.
use Rattle.std.proofs.Common.{◌≡◌, ◌⊎◌, inl, inr, ℕ, ◌+◌, ◌<◌, ◌≤◌, Bool, true, false, refl, sym, ◌∙◌, ap, subst, arith, List, [], ◌∷◌, ◌++◌, length, append_assoc, if◌then◌else◌}
use Rattle.std.specs.Prelude.{◌==◌, Option}
use Rattle.hb_edge.specs.Images.{Image}
use Rattle.hb_edge.specs.Stops.{Leaves}
use Rattle.hb_types.specs.declared.answer.Answer.{Answer}
use Rattle.hb_types.specs.declared.answer.Answer.TheVariants as answer
use Rattle.hb_types.specs.declared.change.LogItem.{LogItem}
use Rattle.hb_types.specs.declared.change.LogItem.TheVariants as item
use Rattle.hb_types.specs.declared.change.Stored.{Stored}
use Rattle.hb_types.specs.declared.names.Number.{Number}
use Rattle.hb_types.specs.declared.names.Tx.{Tx}
use Rattle.hb_types.specs.declared.request.Request.{Request}
use Rattle.hb_types.specs.declared.request.Request.TheVariants as request
use Rattle.hb_types.specs.Records.{HasRecord, body_bytes}
use Rattle.hb_types.proofs.Ascending.{in_Each}
use Rattle.hb_types.proofs.PutLaws.{by_test}
use Rattle.hb_disks.specs.LogPlaces.{end_behind}
use Rattle.hb_disks.specs.Redo.{after, redo_from}
use Rattle.hb_disks.proofs.Fold.{redo_from-append}
use Rattle.hb_runs.specs.Server.{Branch, SState, now, IsLive, IsAlive, IsInDoubt}
use Rattle.hb_runs.specs.ServerEffects.{Effect, prepared, committed, aborted, dropped, Steps, Allowed, VoteHasRoom, HasRoomFor, happens, vote_of, votes_of}
use Rattle.hb_runs.specs.ServerAnswers.{Right, RightIn}
use Rattle.hb_engine.specs.declared.engine.Engine.{Engine}
use Rattle.hb_engine.specs.Fits.{live_of}
use Rattle.hb_engine.specs.Turned.{StandsFor, Turned}
use Rattle.hb_engine.proofs.Branches.{alive_of, live_is}
use Rattle.hb_engine.proofs.Ending.{alive_slot}
use Rattle.hb_engine.proofs.Turning.{live_slot, ordered_of_live}
use Rattle.hb_force.specs.declared.refusal.Refusal.{Refusal}
use Rattle.hb_force.specs.declared.refusal.Refusal.TheVariants as refusal
use Rattle.hb_force.specs.declared.running.Running.{Running}
use Rattle.hb_force.specs.Kept.{IsSound, IsSoundBranch}
use Rattle.hb_force.specs.Lengths.{HasPlace}
use Rattle.hb_force.specs.Standing.{HasFrom, HasRecords, IsUp, IsBetween, Recorded}
use Rattle.hb_force.proofs.Causing.{doubt_dead}
use Rattle.hb_force.proofs.Logging.{end_behind-append, log_end, log_left, log_later}
use Rattle.hb_force.proofs.Sounding.{vote_has_record}

pub right_up : (s : SState) (q : Request) (a : Answer) → s.up ≡ true → RightIn true s q a → Right s q a
right_up s q a up right = subst (λ (b : Bool). RightIn b s q a) (sym up) right

-- ---- what a vote makes of a state

votes_are : (s : SState) (tx : ℕ) (bs : List Branch) (b : Branch) → live_of tx bs ≡ b ∷ [] → votes_of s tx bs ≡ vote_of s b ∷ []
votes_are s tx [] b e = absurd (filled b e)
  where
    filled : (b : Branch) → ◌≡◌ {A = List Branch} [] (b ∷ []) → ⊥
    filled b e = cc
votes_are s tx (c ∷ cs) b e =
    by_test (c.tx == tx)
    (λ t. ap (λ z. if z then vote_of s c ∷ [] else votes_of s tx cs) t ∙ ap (λ (x : Branch). vote_of s x ∷ []) (head c b (live_of tx cs) (sym (ap (λ z. if z then c ∷ live_of tx cs else live_of tx cs) t) ∙ e)))
    (λ f. ap (λ z. if z then vote_of s c ∷ [] else votes_of s tx cs) f ∙ votes_are s tx cs b (sym (ap (λ z. if z then c ∷ live_of tx cs else live_of tx cs) f) ∙ e))
  where
    head : (x y : Branch) (xs : List Branch) → x ∷ xs ≡ y ∷ [] → x ≡ y
    head x y xs e = cc

module _ (e : Engine) (rows : List Stored) (s : SState) (tx : Tx) (b : Branch) (st : StandsFor e rows s) (live : IsLive s tx.0 b) where
  the_one : live_of tx.0 s.live ≡ b ∷ []
  the_one =
      let o = alive_slot e.slots e.locks e.floor rows s tx.0 st (alive_of s tx.0 b live) in
      let k = live_slot e.slots e.locks e.floor rows s tx.0 o.0 st o.1 in
      k.alive ∙ ap (λ (x : Branch). x ∷ []) (sym (live_is s tx.0 b k.branch k.alive live))

  pub voted_log : (vote : LogItem) → vote ≡ vote_of s b → (happens s (prepared tx.0)).log ≡ s.log ++ vote ∷ []
  voted_log vote is = ap (λ (l : List LogItem). s.log ++ l) (votes_are s tx.0 s.live b the_one ∙ ap (λ (i : LogItem). i ∷ []) (sym is))

  pub voted_now : now (happens s (prepared tx.0)) ≡ after (now s) (vote_of s b)
  voted_now = ap (λ (l : List LogItem). redo_from s.base (s.log ++ l)) (votes_are s tx.0 s.live b the_one) ∙ redo_from-append s.base s.log (vote_of s b ∷ [])

  pub votes_record : (vote : LogItem) → vote ≡ vote_of s b → IsSound s → length (body_bytes vote) ≤ 8388608 → HasRecord vote
  votes_record vote is sound short =
      subst HasRecord (sym is)
      (vote_has_record s b sound (in_Each IsSoundBranch b s.live live.0 sound.live)
      (ordered_of_live e.slots e.locks e.floor rows s tx b st the_one)
      (subst (λ (i : LogItem). length (body_bytes i) ≤ 8388608) is short))

-- ---- the state after a turn

pub vote_state : (s : SState) (tx : Tx) (floor : Number) (At : SState → Type 0) → (t : Turned s (request.Prepare tx) (answer.Vote floor) At) → happens s (prepared tx.0) ≡ t.state
vote_state s tx floor At t = (subst (λ (es : List Effect). Steps s es t.state) t.turn.causes t.turn.steps).1

pub commit_state : (s : SState) (tx : Tx) (n : Number) (At : SState → Type 0) → (t : Turned s (request.Commit tx n) answer.Done At) → happens s (committed tx.0 n.0) ≡ t.state
commit_state s tx n At t = (subst (λ (es : List Effect). Steps s es t.state) t.turn.causes t.turn.steps).1

pub abort_state : (s : SState) (tx : Tx) (At : SState → Type 0) → (IsAlive s tx.0 → ⊥) → (t : Turned s (request.Rollback tx) answer.Done At) → happens s (aborted tx.0) ≡ t.state
abort_state s tx At dead t = by t.turn.causes
  where
    by : ((t.turn.effects ≡ dropped tx.0 ∷ []) ⊎ (t.turn.effects ≡ aborted tx.0 ∷ [])) → happens s (aborted tx.0) ≡ t.state
    by (inl is) = absurd (dead (subst (λ (es : List Effect). Steps s es t.state) is t.turn.steps).0)
    by (inr is) = (subst (λ (es : List Effect). Steps s es t.state) is t.turn.steps).1

pub place_room : (s : SState) (end : ℕ) (b : Branch) (vote : LogItem) → end ≡ end_behind s.place s.log → vote ≡ vote_of s b → HasPlace end (length (now s).doubts) vote → VoteHasRoom s b
place_room s end b vote end_is is place =
    subst (λ (i : LogItem). HasRoomFor s i (length (now s).doubts + 1) × (length (body_bytes i) ≤ 8388608)) is
    (let room = place.0 in omega (arith, room, end_is), place.1)

-- ---- a server that is up

module _ {D S : Type 0} (content : D → Option Image) (left : D → ℕ → Image → Type 0) (last : D → ℕ) (rows : S → List Stored) (from : ℕ) (read : List LogItem) (s : SState) (old : Running D S) (moment : ℕ) (up : IsUp content left last rows from read s old moment) where
  pub up_end : old.log.end ≡ end_behind s.place s.log
  up_end = log_end content left last from (read ++ s.log) old.log moment up.log ∙ end_behind-append from read s.log ∙ ap (λ (n : ℕ). end_behind n s.log) up.place_is

  -- what a stop leaves where no call of the disk is made
  pub between_none : (q : Request) → ((m : ℕ) (image : Image) → last old.log.disk ≤ m → left old.log.disk m image → left old.log.disk (last old.log.disk) image)
      → Leaves moment (left old.log.disk) (left old.log.disk) (λ m image. IsBetween from read s q image × (length up.log.settled.image ≤ length image))
  between_none q stands = record {
    each = λ m image le is.
        let same = ap length (up.log.settled.only image (stands m image (omega (arith, le, up.log.in_time)) is)) in
        (inl (log_left content left last from (read ++ s.log) old.log moment m image stands up.log (omega (arith, le, up.log.in_time)) is), omega (arith, same));
    before = λ m image lt is. is;
    keeps = λ m image lt is. is;
  }

  pub stays_up : (t : SState) (new : Running D S) (later : ℕ) → moment ≤ later → new.log ≡ old.log → StandsFor new.engine (rows new.store) t → t.log ≡ s.log → t.place ≡ s.place → IsUp content left last rows from read t new later
  stays_up t new later le log stands same place = record {
    stands = stands;
    log = subst (λ l. HasRecords content left last from (read ++ t.log) l later) (sym log)
        (subst (λ (is : List LogItem). HasRecords content left last from (read ++ is) old.log later) (sym same) (log_later content left last from (read ++ s.log) old.log moment later le up.log));
    place_is = up.place_is ∙ sym place;
  }

  pub more_up : (t : SState) (i : LogItem) (new : Running D S) (later : ℕ) → HasRecords content left last from ((read ++ s.log) ++ i ∷ []) new.log later → StandsFor new.engine (rows new.store) t → t.log ≡ s.log ++ i ∷ [] → t.place ≡ s.place
      → IsUp content left last rows from read t new later
  more_up t i new later has stands log place = record {
    stands = stands;
    log = subst (λ (is : List LogItem). HasRecords content left last from is new.log later) (append_assoc read s.log (i ∷ []) ∙ ap (λ (l : List LogItem). read ++ l) (sym log)) has;
    place_is = up.place_is ∙ sym place;
  }

  -- the images while a record is forced
  pub between_one : (q : Request) (e : Effect) (i : LogItem) (image : Image) → Recorded q e → Allowed s e → (happens s e).log ≡ s.log ++ i ∷ [] → HasFrom from image (read ++ s.log) ⊎ HasFrom from image ((read ++ s.log) ++ i ∷ []) → IsBetween from read s q image
  between_one q e i image is allowed log (inl was) = inl was
  between_one q e i image is allowed log (inr now) = inr (e, is, allowed, subst (HasFrom from image) (append_assoc read s.log (i ∷ []) ∙ ap (λ (l : List LogItem). read ++ l) (sym log)) now)

  -- ---- a vote

  pub vote_room : (b : Branch) (vote : LogItem) → vote ≡ vote_of s b → HasPlace old.log.end (length (now s).doubts) vote → VoteHasRoom s b
  vote_room b vote is place = place_room s old.log.end b vote up_end is place

  pub vote_no_room : (b : Branch) (vote : LogItem) → vote ≡ vote_of s b → (HasPlace old.log.end (length (now s).doubts) vote → ⊥) → VoteHasRoom s b → ⊥
  vote_no_room b vote is never room =
      let back : HasRoomFor s vote (length (now s).doubts + 1) × (length (body_bytes vote) ≤ 8388608) =
      subst (λ (i : LogItem). HasRoomFor s i (length (now s).doubts + 1) × (length (body_bytes i) ≤ 8388608)) (sym is) room in
      let fits = back.0 in let end = up_end in
      never (omega (arith, fits, end), back.1)

  pub no_memory_turn : (tx : Tx) (new : Running D S) (later : ℕ) → IsUp content left last rows from read s new later → Turned s (request.Prepare tx) answer.NoMemory (λ t. IsUp content left last rows from read t new later)
  no_memory_turn tx new later at = record { state = s; turn = record { effects = []; causes = refl; right = right_up s (request.Prepare tx) answer.NoMemory up.stands.up refl; steps = refl }; at = at }

  pub spent_turn : (tx : Tx) (b : Branch) (new : Running D S) (later : ℕ) → IsLive s tx.0 b → (VoteHasRoom s b → ⊥) → IsUp content left last rows from read s new later → Turned s (request.Prepare tx) answer.NumbersSpent (λ t. IsUp content left last rows from read t new later)
  spent_turn tx b new later live never at =
      record { state = s; turn = record { effects = []; causes = refl; right = right_up s (request.Prepare tx) answer.NumbersSpent up.stands.up (b, live, never); steps = refl }; at = at }

  pub absent_turn : (tx : Tx) (new : Running D S) (later : ℕ) → (IsAlive s tx.0 → ⊥) → IsUp content left last rows from read s new later → Turned s (request.Prepare tx) answer.NoBranch (λ t. IsUp content left last rows from read t new later)
  absent_turn tx new later dead at =
      record { state = s; turn = record { effects = []; causes = refl; right = right_up s (request.Prepare tx) answer.NoBranch up.stands.up dead; steps = refl }; at = at }

  pub refused_turn : (tx : Tx) (r : Refusal) (a : Answer) (b : Branch) (new : Running D S) (later : ℕ) → IsLive s tx.0 b → (r ≡ refusal.Spent → a ≡ answer.NumbersSpent) → (r ≡ refusal.NoMemory → a ≡ answer.NoMemory) → (r ≡ refusal.Spent → VoteHasRoom s b → ⊥)
      → IsUp content left last rows from read s new later → Turned s (request.Prepare tx) a (λ t. IsUp content left last rows from read t new later)
  refused_turn tx refusal.Spent a b new later live spent memory full at =
      subst (λ (x : Answer). Turned s (request.Prepare tx) x (λ t. IsUp content left last rows from read t new later)) (sym (spent refl)) (spent_turn tx b new later live (full refl) at)
  refused_turn tx refusal.NoMemory a b new later live spent memory full at =
      subst (λ (x : Answer). Turned s (request.Prepare tx) x (λ t. IsUp content left last rows from read t new later)) (sym (memory refl)) (no_memory_turn tx new later at)

  pub voted_turn : (tx : Tx) (floor : Number) (b : Branch) (vote : LogItem) (rs : List Stored) (new : Running D S) (later : ℕ) → IsLive s tx.0 b → vote ≡ vote_of s b → rs ≡ rows new.store
      → Turned s (request.Prepare tx) (answer.Vote floor) (λ t. StandsFor new.engine rs t)
      → HasRecords content left last from ((read ++ s.log) ++ vote ∷ []) new.log later
      → Turned s (request.Prepare tx) (answer.Vote floor) (λ t. IsUp content left last rows from read t new later)
  voted_turn tx floor b vote rs new later live is same t has =
      let here = vote_state s tx floor (λ t. StandsFor new.engine rs t) t in
      record {
        state = t.state;
        turn = t.turn;
        at = more_up t.state vote new later has (subst (λ (l : List Stored). StandsFor new.engine l t.state) same t.at)
            (sym (ap (λ (x : SState). x.log) here) ∙ voted_log old.engine (rows old.store) s tx b up.stands live vote is)
            (sym (ap (λ (x : SState). x.place) here));
      }

  pub vote_faults : (tx : Tx) (b : Branch) → IsLive s tx.0 b → VoteHasRoom s b → Right s (request.Prepare tx) (answer.Fault false)
  vote_faults tx b live room = right_up s (request.Prepare tx) (answer.Fault false) up.stands.up (refl, b, live, room)

  pub vote_between : (tx : Tx) (b : Branch) (vote : LogItem) (image : Image) → IsLive s tx.0 b → vote ≡ vote_of s b → VoteHasRoom s b → HasFrom from image (read ++ s.log) ⊎ HasFrom from image ((read ++ s.log) ++ vote ∷ []) → IsBetween from read s (request.Prepare tx) image
  vote_between tx b vote image live is room either =
      between_one (request.Prepare tx) (prepared tx.0) vote image refl (b, live, room) (voted_log old.engine (rows old.store) s tx b up.stands live vote is) either

  -- ---- a commit

  pub committed_turn : (tx : Tx) (n : Number) (rs : List Stored) (new : Running D S) (later : ℕ) → rs ≡ rows new.store → Turned s (request.Commit tx n) answer.Done (λ t. StandsFor new.engine rs t)
      → HasRecords content left last from ((read ++ s.log) ++ item.Commit tx n ∷ []) new.log later
      → Turned s (request.Commit tx n) answer.Done (λ t. IsUp content left last rows from read t new later)
  committed_turn tx n rs new later same t has =
      let here = commit_state s tx n (λ t. StandsFor new.engine rs t) t in
      record {
        state = t.state;
        turn = t.turn;
        at = more_up t.state (item.Commit tx n) new later has (subst (λ (l : List Stored). StandsFor new.engine l t.state) same t.at) (sym (ap (λ (x : SState). x.log) here)) (sym (ap (λ (x : SState). x.place) here));
      }

  pub commit_faults : (tx : Tx) (n : Number) (floor : ℕ) → IsInDoubt s tx.0 floor → floor < n.0 → Right s (request.Commit tx n) (answer.Fault false)
  commit_faults tx n floor doubt above = right_up s (request.Commit tx n) (answer.Fault false) up.stands.up (refl, floor, doubt, above)

  pub commit_between : (tx : Tx) (n : Number) (floor : ℕ) (image : Image) → IsInDoubt s tx.0 floor → floor < n.0 → HasFrom from image (read ++ s.log) ⊎ HasFrom from image ((read ++ s.log) ++ item.Commit tx n ∷ []) → IsBetween from read s (request.Commit tx n) image
  commit_between tx n floor image doubt above either = between_one (request.Commit tx n) (committed tx.0 n.0) (item.Commit tx n) image refl (floor, doubt, above) refl either

  -- ---- a rolling back

  pub aborted_turn : (tx : Tx) (floor : ℕ) (rs : List Stored) (new : Running D S) (later : ℕ) → IsInDoubt s tx.0 floor → rs ≡ rows new.store → Turned s (request.Rollback tx) answer.Done (λ t. StandsFor new.engine rs t)
      → HasRecords content left last from ((read ++ s.log) ++ item.Abort tx ∷ []) new.log later
      → Turned s (request.Rollback tx) answer.Done (λ t. IsUp content left last rows from read t new later)
  aborted_turn tx floor rs new later doubt same t has =
      let here = abort_state s tx (λ t. StandsFor new.engine rs t) (doubt_dead old.engine (rows old.store) s tx.0 floor up.stands doubt) t in
      record {
        state = t.state;
        turn = t.turn;
        at = more_up t.state (item.Abort tx) new later has (subst (λ (l : List Stored). StandsFor new.engine l t.state) same t.at) (sym (ap (λ (x : SState). x.log) here)) (sym (ap (λ (x : SState). x.place) here));
      }

  pub abort_faults : (tx : Tx) (floor : ℕ) → IsInDoubt s tx.0 floor → Right s (request.Rollback tx) (answer.Fault false)
  abort_faults tx floor doubt = right_up s (request.Rollback tx) (answer.Fault false) up.stands.up (refl, floor, doubt)

  pub abort_between : (tx : Tx) (floor : ℕ) (image : Image) → IsInDoubt s tx.0 floor → HasFrom from image (read ++ s.log) ⊎ HasFrom from image ((read ++ s.log) ++ item.Abort tx ∷ []) → IsBetween from read s (request.Rollback tx) image
  abort_between tx floor image doubt either = between_one (request.Rollback tx) (aborted tx.0) (item.Abort tx) image refl (floor, doubt) refl either
