-- What a stop since a call leaves, by the call's answer.
use Rattle.std.proofs.Common.{◌≡◌, inl, inr, ℕ, ◌<◌, ◌≤◌, List, [], ◌∷◌, ◌++◌, sym, ◌∙◌, ap, subst, arith, true, false}
use Rattle.std.specs.Prelude.{Bool, Option}
use Rattle.std.proofs.lemmas.Bool.{false≢true}
use Rattle.hb_edge.specs.Images.{Image}
use Rattle.hb_edge.specs.Stops.{Leaves}
use Rattle.hb_codec.specs.Reading.{OneForm}
use Rattle.hb_codec.specs.Spellings.{IsBodyOf}
use Rattle.hb_types.specs.declared.answer.Answer.{Answer}
use Rattle.hb_types.specs.declared.answer.Answer.TheVariants as answer
use Rattle.hb_types.specs.declared.change.LogItem.{LogItem}
use Rattle.hb_types.specs.declared.names.Owner.{Owner}
use Rattle.hb_types.specs.declared.names.Tx.{Tx}
use Rattle.hb_types.specs.declared.request.Request.{Request}
use Rattle.hb_types.specs.declared.request.Request.TheVariants as request
use Rattle.hb_types.specs.declared.request.Vote.{Vote}
use Rattle.hb_types.proofs.PutLaws.{by_test}
use Rattle.hb_disks.specs.StandsFor.{greatest_upto}
use Rattle.hb_runs.specs.Coordinator.{CState, CEffect, CRun, CTurns, Right, RightIn, Reserves, Steps, happens, reserved, begun, stopped_at, next_upto, next_number, nodes_of, ids_item, decision_item}
use Rattle.hb_runs.specs.ServerRuns.{Asked}
use Rattle.hb_coord.specs.Standing.{IsLog, IsUp, IsBetween, Records, asking, is_recording}
use Rattle.hb_coord.specs.Starts.{WasLeft}
use Rattle.hb_coord.specs.Law.{IsDown, IsLeftBy}
use Rattle.hb_coord.specs.declared.running.Running.{Running}
use Rattle.hb_coord.proofs.Lawful.{run_more, fault_after, read_again}
use Rattle.hb_coord.proofs.Logging.{log_left}

-- ---- the record that an answer tells of

up_right : (k : CState) (q : Request) (a : Answer) → k.up ≡ true → Right k q a → RightIn true k q a
up_right k q a up right = subst (λ (b : Bool). RightIn b k q a) up right

begun_log : (k t : CState) (owner : Owner) (a : Answer) → k.up ≡ true → CTurns k (asking (request.Begin owner) a) t → is_recording a ≡ true → greatest_upto k.log < k.next → k.log ++ ids_item (next_upto k) ∷ [] ≡ t.log
begun_log k t owner (answer.Begun tx) up turn is low = by turn.causes.0 turn.causes.1 turn.causes.2
  where
    by : (front : List CEffect) → Reserves k front → turn.effects ≡ front ++ begun tx.0 ∷ [] → k.log ++ ids_item (next_upto k) ∷ [] ≡ t.log
    by front (inl (le, none)) are = absurd (omega (arith, le, low))
    by front (inr (lt, one)) are =
        let both : turn.effects ≡ reserved (next_upto k) ∷ begun tx.0 ∷ [] = are ∙ ap (λ (f : List CEffect). f ++ begun tx.0 ∷ []) one in
        let steps = subst (λ (es : List CEffect). Steps k es t) both turn.steps in
        ap (λ (s : CState). s.log) steps.1.1
begun_log k t owner (answer.Decided n) up turn is low = absurd (up_right k (request.Begin owner) (answer.Decided n) up turn.right)
begun_log k t owner _ up turn is low = absurd (false≢true is)

decided_log : (k t : CState) (tx : Tx) (votes : List Vote) (a : Answer) → k.up ≡ true → CTurns k (asking (request.Decide tx votes) a) t → is_recording a ≡ true → k.log ++ decision_item tx.0 (next_number k votes) (nodes_of votes) ∷ [] ≡ t.log
decided_log k t tx votes (answer.Decided n) up turn is =
    let number : n.0 ≡ next_number k votes = up_right k (request.Decide tx votes) (answer.Decided n) up turn.right in
    let steps = subst (λ (es : List CEffect). Steps k es t) turn.causes turn.steps in
    ap (λ (m : ℕ). k.log ++ decision_item tx.0 m (nodes_of votes) ∷ []) (sym number) ∙ ap (λ (s : CState). s.log) steps.1.1
decided_log k t tx votes (answer.Begun b) up turn is = absurd (up_right k (request.Decide tx votes) (answer.Begun b) up turn.right)
decided_log k t tx votes _ up turn is = absurd (false≢true is)

recorded_log : (k t : CState) (q : Request) (a : Answer) (e : CEffect) → k.up ≡ true → CTurns k (asking q a) t → is_recording a ≡ true → Records k q e → (happens k e).log ≡ t.log
recorded_log k t (request.Begin owner) a e up turn is records = ap (λ (x : CEffect). (happens k x).log) records.1 ∙ begun_log k t owner a up turn is records.0
recorded_log k t (request.Decide tx votes) a e up turn is records = ap (λ (x : CEffect). (happens k x).log) records ∙ decided_log k t tx votes a up turn is
recorded_log k t _ a e up turn is records = absurd records

-- ---- what is left

module _ {D : Type 0} (content : D → Option Image) (left : D → ℕ → Image → Type 0) (last : D → ℕ) (first : CState) (trail : List Asked) where
  pub down_left : (disk : D) (moment : ℕ) (q : Request) (a : Answer) → ((m : ℕ) (image : Image) → last disk ≤ m → left disk m image → left disk (last disk) image) → IsDown content left last first trail disk moment
      → (m : ℕ) (image : Image) → moment ≤ m → left disk m image → IsLeftBy first trail q a image
  down_left disk moment q a stands down = λ m image le is. let found = down.each image (stands m image (omega (arith, le, down.in_time)) is) in inl (stopped_at found.0, found.2, found.1)

  pub start_left : OneForm IsBodyOf → (disk new : D) (moment : ℕ) (a : Answer) → IsDown content left last first trail disk moment → Leaves moment (left disk) (left new) (λ m image. WasLeft left last disk image)
      → (m : ℕ) (image : Image) → moment ≤ m → left new m image → IsLeftBy first trail request.Start a image
  start_left one disk new moment a down leaves = λ m image le is.
      let found = read_again content left last first trail one disk moment image down (leaves.each m image le is) in inl (stopped_at found.0, found.2, found.1)

  pub stop_left : (k : CState) (r : Running D) (moment : ℕ) (q : Request) (a : Answer) → ((m : ℕ) (image : Image) → last r.log.disk ≤ m → left r.log.disk m image → left r.log.disk (last r.log.disk) image) → CRun first trail k → IsUp content left last k r moment
      → (m : ℕ) (image : Image) → moment ≤ m → left r.log.disk m image → IsLeftBy first trail q a image
  stop_left k r moment q a stands run up = λ m image le is.
      inl (k, run, record { has_items = log_left content left last k.log r.log moment m image stands up.log (omega (arith, le, up.log.in_time)) is; own = up.own })

  pub answered_left : (k t : CState) (q : Request) (a : Answer) (old new : Running D) (before after : ℕ) → ((m : ℕ) (image : Image) → last new.log.disk ≤ m → left new.log.disk m image → left new.log.disk (last new.log.disk) image)
      → CRun first trail k → k.up ≡ true → CTurns k (asking q a) t → IsUp content left last t new after → (is_recording a ≡ false → after ≡ before) → Leaves before (left old.log.disk) (left new.log.disk) (λ m image. IsBetween k q image)
      → (m : ℕ) (image : Image) → before ≤ m → left new.log.disk m image → IsLeftBy first trail q a image
  answered_left k t q a old new before after stands run up turn now quick leaves = λ m image le is. by m image le is (leaves.each m image le is)
    where
      by : (m : ℕ) (image : Image) → before ≤ m → left new.log.disk m image → IsBetween k q image → IsLeftBy first trail q a image
      by m image le is (inl was) = inl (k, run, was)
      by m image le is (inr (e, records, allowed, log)) = inr (
        t,
        run_more first trail k t (asking q a) run turn,
        by_test (is_recording a)
            (λ yes_it. subst (λ (l : List LogItem). IsLog image l) (recorded_log k t q a e up turn yes_it records) log)
            (λ none. let same : after ≡ before = quick none in record { has_items = log_left content left last t.log new.log after m image stands now.log (omega (arith, le, same, now.log.in_time)) is; own = now.own }),
      )

  pub fault_left : (k : CState) (q : Request) (old new : D) (before : ℕ) → CRun first trail k → Right k q (answer.Fault false) → Leaves before (left old) (left new) (λ m image. IsBetween k q image)
      → (m : ℕ) (image : Image) → before ≤ m → left new m image → IsLeftBy first trail q (answer.Fault false) image
  fault_left k q old new before run right leaves = λ m image le is. by image (leaves.each m image le is)
    where
      by : (image : Image) → IsBetween k q image → IsLeftBy first trail q (answer.Fault false) image
      by image (inl was) = inl (k, run, was)
      by image (inr (e, records, allowed, log)) = inr (stopped_at (happens k e).log, run_more first trail k (stopped_at (happens k e).log) (asking q (answer.Fault false)) run (fault_after k q e records allowed right), log)
