-- The turns of a coordinator that is up, by what a request is answered.
use Rattle.std.proofs.Common.{◌≡◌, ◌⊎◌, inl, inr, ℕ, ◌+◌, ◌<◌, ◌≤◌, List, [], ◌∷◌, ◌++◌, max, refl, sym, ap, subst, arith, true, false}
use Rattle.std.specs.Prelude.{Bool, Option}
use Rattle.hb_edge.specs.Images.{Image}
use Rattle.hb_edge.specs.Stops.{Leaves}
use Rattle.hb_types.specs.declared.answer.Answer.{Answer}
use Rattle.hb_types.specs.declared.answer.Answer.TheVariants as answer
use Rattle.hb_types.specs.declared.change.LogItem.{LogItem}
use Rattle.hb_types.specs.declared.names.Number.{Number}
use Rattle.hb_types.specs.declared.names.Owner.{Owner}
use Rattle.hb_types.specs.declared.names.Tx.{Tx}
use Rattle.hb_types.specs.declared.request.Request.{Request}
use Rattle.hb_types.specs.declared.request.Request.TheVariants as request
use Rattle.hb_types.specs.declared.request.Vote.{Vote}
use Rattle.hb_types.specs.Lists.{Each}
use Rattle.hb_types.specs.Numbers.{greatest}
use Rattle.hb_types.proofs.Ascending.{Each-append}
use Rattle.hb_disks.specs.Images.{HasItems}
use Rattle.hb_disks.specs.StandsFor.{IsCoordinators, greatest_upto}
use Rattle.hb_runs.specs.Coordinator.{CState, CTurns, Right, RightIn, OutcomeRight, IsActive, IsSpent, HasRoomFor, happens, reserved, begun, decided, ended, next_upto, next_number, nodes_of, greatest_number, ids_item, decision_item}
use Rattle.hb_coord.specs.Memory.{Reflects}
use Rattle.hb_coord.specs.Standing.{HasLog, IsUp, IsBetween, asking}
use Rattle.hb_coord.specs.declared.running.Running.{Running}
use Rattle.hb_coord.proofs.Knowing.{upto-ids, upto-decision}
use Rattle.hb_coord.specs.declared.forcing.Refusal.{Refusal}
use Rattle.hb_coord.specs.declared.forcing.Refusal.TheVariants as refusal
use Rattle.hb_disks.specs.LogPlaces.{end_behind}
use Rattle.hb_coord.proofs.Logging.{log_end, log_left, log_later}
use Rattle.hb_coord.proofs.Maps.{without_none}

pub right_up : (k : CState) (q : Request) (a : Answer) → k.up ≡ true → RightIn true k q a → Right k q a
right_up k q a up right = subst (λ (b : Bool). RightIn b k q a) (sym up) right

own_more : (log : List LogItem) (i : LogItem) → Each IsCoordinators log → IsCoordinators i → Each IsCoordinators (log ++ i ∷ [])
own_more log i own is = Each-append IsCoordinators log (i ∷ []) own (is, tt)

module _ {D : Type 0} (content : D → Option Image) (left : D → ℕ → Image → Type 0) (last : D → ℕ) (k : CState) (old : Running D) (now : ℕ) (is_up : IsUp content left last k old now) where
  -- the state after an answer, of which this is a turn
  abbrev pub Turn : Request → Answer → Running D → ℕ → Type 0
  Turn q a new later = (t : CState) × CTurns k (asking q a) t × IsUp content left last t new later

  pub stays : (new : Running D) (later : ℕ) → now ≤ later → new.log ≡ old.log → Reflects k new.ledger → IsUp content left last k new later
  stays new later le log reflects = record {
    up = is_up.up;
    own = is_up.own;
    is_reserved = is_up.is_reserved;
    log = subst (λ l. HasLog content left last k.log l later) (sym log) (log_later content left last k.log old.log now later le is_up.log);
    reflects = reflects;
  }

  -- what a stop leaves where no call of the disk is made
  pub between_none : (q : Request) → ((m : ℕ) (image : Image) → last old.log.disk ≤ m → left old.log.disk m image → left old.log.disk (last old.log.disk) image) → Leaves now (left old.log.disk) (left old.log.disk) (λ m image. IsBetween k q image)
  between_none q stands = record {
    each = λ m image le is. inl (record { has_items = log_left content left last k.log old.log now m image stands is_up.log (omega (arith, le, is_up.log.in_time)) is; own = is_up.own });
    before = λ m image lt is. is;
    keeps = λ m image lt is. is;
  }

  -- ---- Begin

  pub no_number : (o : Owner) (new : Running D) (later : ℕ) → greatest < k.next → IsUp content left last k new later → Turn (request.Begin o) answer.NumbersSpent new later
  no_number o new later spent up = (k, record { effects = []; causes = refl; right = right_up k (request.Begin o) answer.NumbersSpent is_up.up (inl spent); steps = refl }, up)

  pub no_room : (o : Owner) (new : Running D) (later : ℕ) → greatest_upto k.log < k.next → (HasRoomFor k (ids_item (next_upto k)) → ⊥) → IsUp content left last k new later → Turn (request.Begin o) answer.NumbersSpent new later
  no_room o new later low full up = (k, record { effects = []; causes = refl; right = right_up k (request.Begin o) answer.NumbersSpent is_up.up (inr (low, full)); steps = refl }, up)

  pub begin_no_memory : (o : Owner) (new : Running D) (later : ℕ) → IsUp content left last k new later → Turn (request.Begin o) answer.NoMemory new later
  begin_no_memory o new later up = (k, record { effects = []; causes = inl refl; right = right_up k (request.Begin o) answer.NoMemory is_up.up refl; steps = refl }, up)

  pub begun_turn : (o : Owner) (tx : Tx) (new : Running D) (later : ℕ) → now ≤ later → tx.0 ≡ k.next → k.next ≤ greatest_upto k.log → new.log ≡ old.log → Reflects (happens k (begun tx.0)) new.ledger → Turn (request.Begin o) (answer.Begun tx) new later
  begun_turn o tx new later le is within log reflects = (
    happens k (begun tx.0),
    record {
      effects = begun tx.0 ∷ [];
      causes = ([], inl (within, refl), refl);
      right = right_up k (request.Begin o) (answer.Begun tx) is_up.up is;
      steps = ((is, omega (arith, is, within)), refl);
    },
    record {
      up = is_up.up;
      own = is_up.own;
      is_reserved = omega (arith, is, within);
      log = subst (λ l. HasLog content left last k.log l later) (sym log) (log_later content left last k.log old.log now later le is_up.log);
      reflects = reflects;
    },
  )

  pub upto_fits : (upto : ℕ) → upto ≡ next_upto k → greatest_upto k.log < k.next → k.next ≤ greatest → (greatest_upto k.log < upto) × (upto ≤ greatest) × (k.next ≤ upto)
  upto_fits upto is low within = let r : k.next ≤ greatest_upto k.log + 1 = is_up.is_reserved in (omega (arith, is, low, within), omega (arith, is), omega (arith, is, low, within, r))

  pub reserved_turn : (o : Owner) (tx : Tx) (upto : ℕ) (new : Running D) (later : ℕ) → tx.0 ≡ k.next → upto ≡ next_upto k → greatest_upto k.log < k.next → k.next ≤ greatest → HasRoomFor k (ids_item upto)
      → HasLog content left last (k.log ++ ids_item upto ∷ []) new.log later → Reflects (happens (happens k (reserved upto)) (begun tx.0)) new.ledger → Turn (request.Begin o) (answer.Begun tx) new later
  reserved_turn o tx upto new later is upto_is low within room log reflects =
      let fits = upto_fits upto upto_is low within in
      let grown : greatest_upto (k.log ++ ids_item upto ∷ []) ≡ max (greatest_upto k.log) upto = upto-ids k.log upto in (
        happens (happens k (reserved upto)) (begun tx.0),
        record {
          effects = reserved upto ∷ begun tx.0 ∷ [];
          causes = (reserved upto ∷ [], inr (low, ap (λ (u : ℕ). reserved u ∷ []) upto_is), refl);
          right = right_up k (request.Begin o) (answer.Begun tx) is_up.up is;
          steps = ((fits.0, fits.1, room), ((is, omega (arith, is, grown, fits.2)), refl));
        },
        record {
          up = is_up.up;
          own = own_more k.log (ids_item upto) is_up.own tt;
          is_reserved = omega (arith, is, grown, fits.2);
          log = log;
          reflects = reflects;
        },
      )

  pub begin_faulted : (o : Owner) → greatest_upto k.log < k.next → Right k (request.Begin o) (answer.Fault false)
  begin_faulted o low = right_up k (request.Begin o) (answer.Fault false) is_up.up (refl, low)

  pub begin_between : (o : Owner) (upto : ℕ) (image : Image) → upto ≡ next_upto k → greatest_upto k.log < k.next → k.next ≤ greatest → HasRoomFor k (ids_item upto) → HasItems image k.log ⊎ HasItems image (k.log ++ ids_item upto ∷ []) → IsBetween k (request.Begin o) image
  begin_between o upto image is low within room (inl was) = inl (record { has_items = was; own = is_up.own })
  begin_between o upto image is low within room (inr now) =
      let fits = upto_fits upto is low within in
      inr (reserved upto, (low, ap (λ (u : ℕ). reserved u) is), (fits.0, fits.1, room), record { has_items = now; own = own_more k.log (ids_item upto) is_up.own tt })

  -- ---- Decide

  pub not_active : (tx : Tx) (votes : List Vote) (new : Running D) (later : ℕ) → (IsActive k tx.0 → ⊥) → IsUp content left last k new later → Turn (request.Decide tx votes) answer.NotActive new later
  not_active tx votes new later none up = (k, record { effects = []; causes = refl; right = right_up k (request.Decide tx votes) answer.NotActive is_up.up none; steps = refl }, up)

  pub decide_spent : (tx : Tx) (votes : List Vote) (new : Running D) (later : ℕ) → IsActive k tx.0 → IsSpent k (next_number k votes) (decision_item tx.0 (next_number k votes) (nodes_of votes)) → IsUp content left last k new later
      → Turn (request.Decide tx votes) answer.NumbersSpent new later
  decide_spent tx votes new later active spent up = (k, record { effects = []; causes = refl; right = right_up k (request.Decide tx votes) answer.NumbersSpent is_up.up (active, spent); steps = refl }, up)

  pub decide_no_memory : (tx : Tx) (votes : List Vote) (new : Running D) (later : ℕ) → IsUp content left last k new later → Turn (request.Decide tx votes) answer.NoMemory new later
  decide_no_memory tx votes new later up = (k, record { effects = []; causes = refl; right = right_up k (request.Decide tx votes) answer.NoMemory is_up.up refl; steps = refl }, up)

  above_all : (votes : List Vote) (n : ℕ) → n ≡ next_number k votes → greatest_number k.log < n
  above_all votes n is = omega (arith, is)

  pub decided_turn : (tx : Tx) (n : Number) (votes : List Vote) (new : Running D) (later : ℕ) → IsActive k tx.0 → n.0 ≡ next_number k votes → n.0 ≤ greatest → HasRoomFor k (decision_item tx.0 n.0 (nodes_of votes))
      → HasLog content left last (k.log ++ decision_item tx.0 n.0 (nodes_of votes) ∷ []) new.log later → Reflects (happens (happens k (decided tx.0 n.0 (nodes_of votes))) (ended tx.0)) new.ledger → Turn (request.Decide tx votes) (answer.Decided n) new later
  decided_turn tx n votes new later active is within room log reflects =
      let r : k.next ≤ greatest_upto k.log + 1 = is_up.is_reserved in
      let same : greatest_upto (k.log ++ decision_item tx.0 n.0 (nodes_of votes) ∷ []) ≡ greatest_upto k.log = upto-decision k.log tx.0 n.0 (nodes_of votes) in (
        happens (happens k (decided tx.0 n.0 (nodes_of votes))) (ended tx.0),
        record {
          effects = decided tx.0 n.0 (nodes_of votes) ∷ ended tx.0 ∷ [];
          causes = refl;
          right = right_up k (request.Decide tx votes) (answer.Decided n) is_up.up is;
          steps = ((active, above_all votes n.0 is, within, room), (active, refl));
        },
        record {
          up = is_up.up;
          own = own_more k.log (decision_item tx.0 n.0 (nodes_of votes)) is_up.own tt;
          is_reserved = omega (arith, r, same);
          log = log;
          reflects = reflects;
        },
      )

  pub decide_faulted : (tx : Tx) (votes : List Vote) → IsActive k tx.0 → Right k (request.Decide tx votes) (answer.Fault false)
  decide_faulted tx votes active = right_up k (request.Decide tx votes) (answer.Fault false) is_up.up (refl, active)

  pub decide_between : (tx : Tx) (n : Number) (votes : List Vote) (image : Image) → IsActive k tx.0 → n.0 ≡ next_number k votes → n.0 ≤ greatest → HasRoomFor k (decision_item tx.0 n.0 (nodes_of votes))
      → HasItems image k.log ⊎ HasItems image (k.log ++ decision_item tx.0 n.0 (nodes_of votes) ∷ []) → IsBetween k (request.Decide tx votes) image
  decide_between tx n votes image active is within room (inl was) = inl (record { has_items = was; own = is_up.own })
  decide_between tx n votes image active is within room (inr now) =
      inr (decided tx.0 n.0 (nodes_of votes), ap (λ (m : ℕ). decided tx.0 m (nodes_of votes)) is, (active, above_all votes n.0 is, within, room), record { has_items = now; own = own_more k.log (decision_item tx.0 n.0 (nodes_of votes)) is_up.own tt })

  -- ---- the rest

  pub ended_turn : (tx : Tx) (new : Running D) (later : ℕ) → now ≤ later → new.log ≡ old.log → IsActive k tx.0 ⊎ (IsActive k tx.0 → ⊥) → Reflects (happens k (ended tx.0)) new.ledger → Turn (request.Abort tx) answer.Done new later
  ended_turn tx new later le log (inl active) reflects = (
    happens k (ended tx.0),
    record { effects = ended tx.0 ∷ []; causes = inl (active, refl); right = right_up k (request.Abort tx) answer.Done is_up.up tt; steps = (active, refl) },
    record {
      up = is_up.up;
      own = is_up.own;
      is_reserved = is_up.is_reserved;
      log = subst (λ l. HasLog content left last k.log l later) (sym log) (log_later content left last k.log old.log now later le is_up.log);
      reflects = reflects;
    },
  )
  ended_turn tx new later le log (inr none) reflects =
      let same : happens k (ended tx.0) ≡ k = ap (λ (l : List ℕ). record k { active = l }) (without_none tx.0 k.active none) in (
        k,
        record { effects = []; causes = inr (none, refl); right = right_up k (request.Abort tx) answer.Done is_up.up tt; steps = refl },
        stays new later le log (subst (λ (s : CState). Reflects s new.ledger) same reflects),
      )

  pub outcome_turn : (tx : Tx) (a : Answer) (new : Running D) (later : ℕ) → OutcomeRight k tx.0 a → IsUp content left last k new later → Turn (request.Outcome tx) a new later
  outcome_turn tx (answer.Decided n) new later right up = (k, record { effects = []; causes = refl; right = right_up k (request.Outcome tx) (answer.Decided n) is_up.up right; steps = refl }, up)
  outcome_turn tx answer.Active new later right up = (k, record { effects = []; causes = refl; right = right_up k (request.Outcome tx) answer.Active is_up.up right; steps = refl }, up)
  outcome_turn tx answer.Aborted new later right up = (k, record { effects = []; causes = refl; right = right_up k (request.Outcome tx) answer.Aborted is_up.up right; steps = refl }, up)
  outcome_turn tx _ new later right up = absurd right

  pub up_already : (new : Running D) (later : ℕ) → IsUp content left last k new later → Turn request.Start answer.AlreadyUp new later
  up_already new later up = (k, record { effects = []; causes = refl; right = right_up k request.Start answer.AlreadyUp is_up.up tt; steps = refl }, up)

  -- ---- what isn't recorded, for want of room or memory

  pub begin_refused : (o : Owner) (r : Refusal) (a : Answer) (new : Running D) (later : ℕ) → greatest_upto k.log < k.next → (r ≡ refusal.Spent → a ≡ answer.NumbersSpent) → (r ≡ refusal.NoMemory → a ≡ answer.NoMemory)
      → (r ≡ refusal.Spent → HasRoomFor k (ids_item (next_upto k)) → ⊥) → IsUp content left last k new later → Turn (request.Begin o) a new later
  begin_refused o refusal.Spent a new later low spent memory full up = subst (λ (b : Answer). Turn (request.Begin o) b new later) (sym (spent refl)) (no_room o new later low (full refl) up)
  begin_refused o refusal.NoMemory a new later low spent memory full up = subst (λ (b : Answer). Turn (request.Begin o) b new later) (sym (memory refl)) (begin_no_memory o new later up)

  pub decide_refused : (tx : Tx) (votes : List Vote) (r : Refusal) (a : Answer) (new : Running D) (later : ℕ) → IsActive k tx.0 → (r ≡ refusal.Spent → a ≡ answer.NumbersSpent) → (r ≡ refusal.NoMemory → a ≡ answer.NoMemory)
      → (r ≡ refusal.Spent → HasRoomFor k (decision_item tx.0 (next_number k votes) (nodes_of votes)) → ⊥) → IsUp content left last k new later → Turn (request.Decide tx votes) a new later
  decide_refused tx votes refusal.Spent a new later active spent memory full up =
      subst (λ (b : Answer). Turn (request.Decide tx votes) b new later) (sym (spent refl)) (decide_spent tx votes new later active (inr (full refl)) up)
  decide_refused tx votes refusal.NoMemory a new later active spent memory full up = subst (λ (b : Answer). Turn (request.Decide tx votes) b new later) (sym (memory refl)) (decide_no_memory tx votes new later up)

  -- ---- what the memory says of the state

  pub knows_next : old.ledger.next ≡ k.next
  knows_next = is_up.reflects.next

  pub knows_reserved : old.ledger.recorded.reserved ≡ greatest_upto k.log
  knows_reserved = is_up.reflects.knows.reserved

  pub knows_end : old.log.end ≡ end_behind 0 k.log
  knows_end = log_end content left last k.log old.log now is_up.log

  -- a request of another node
  pub not_mine : (q : Request) (new : Running D) (later : ℕ) → ((o : Owner) → q ≡ request.Begin o → ⊥) → ((tx : Tx) (votes : List Vote) → q ≡ request.Decide tx votes → ⊥) → ((tx : Tx) → q ≡ request.Abort tx → ⊥)
      → ((tx : Tx) → q ≡ request.Outcome tx → ⊥) → (q ≡ request.Start → ⊥) → (q ≡ request.Stop → ⊥) → IsUp content left last k new later → Turn q answer.NotMine new later
  not_mine (request.Begin o) new later b d a w s t up = absurd (b o refl)
  not_mine (request.Decide tx votes) new later b d a w s t up = absurd (d tx votes refl)
  not_mine (request.Abort tx) new later b d a w s t up = absurd (a tx refl)
  not_mine (request.Outcome tx) new later b d a w s t up = absurd (w tx refl)
  not_mine request.Start new later b d a w s t up = absurd (s refl)
  not_mine request.Stop new later b d a w s t up = absurd (t refl)
  not_mine q new later b d a w s t up = (k, record { effects = []; causes = refl; right = right_up k q answer.NotMine is_up.up tt; steps = refl }, up)
