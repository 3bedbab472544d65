-- How a run over the disks of a system ends.
use Rattle.std.proofs.Common.{◌≡◌, ◌≢◌, ◌⊎◌, inl, inr, ℕ, List, [], refl, sym, ◌∙◌, ap, subst, arith, true}
use Rattle.std.specs.Prelude.{Some, None, is_some, IfSome, All, Result, Ok, Err, length}
use Rattle.std.specs.declared.option.Option.{Option}
use Rattle.std.proofs.lemmas.List.{append-nil}
use Rattle.hb_edge.specs.Causes.{Rose}
use Rattle.hb_edge.specs.Images.{Image}
use Rattle.hb_edge.specs.Streams.{with_end}
use Rattle.hb_model.specs.declared.line.Line.{Line}
use Rattle.hb_print.specs.Texts.{text_of}
use Rattle.hb_stepper.specs.Running.{Running}
use Rattle.hb_system.specs.declared.refusal.Refusal.{Refusal}
use Rattle.hb_system.specs.declared.refusal.Refusal.TheVariants as refusal
use Rattle.hb_system.specs.Disks.{AreKept, IsEmpty}
use Rattle.hb_system.specs.Opening.{AreDisks, IsCause, IsRefused, damage_at, is_early, line_of, status_of as status_by}
use Rattle.hb_acts.specs.declared.stop.Stop.{Stop}
use Rattle.hb_acts.specs.declared.stop.Stop.TheVariants.{Source, Sink, Memory, Line as Long}
use Rattle.hb_console.specs.Leaving.{DisksLeft}
use Rattle.hb_console.specs.Ends.{DiskFailed, Ends, IsDamaged, IsOrigin}
use Rattle.hb_acts.specs.Outside.{Outside, GoesOn, HasLongLine, MayStop}
use Rattle.hb_acts.specs.Runs.{Runs, StopsAt}
use Rattle.hb_acts.specs.Stops.{code_of, status_of}
use Rattle.hb_console.specs.Telling.{Tells, TellsLine}

-- ---- what told its bytes goes on to tell

still_told : (shown : List ℕ) (held : Option (List ℕ)) → is_some (with_end shown held) ≡ is_some held
still_told shown None = refl
still_told shown (Some bytes) = refl

pub tells_on : (told : Option Line) (held now : Option (List ℕ)) (was is status result : ℕ) → Tells told held now was is status result → is_some now ≡ is_some held
tells_on None held now was is status result tells = ap is_some tells.1
tells_on (Some line) held now was is status result (inl puts) = ap is_some puts.1.gained ∙ still_told puts.1.shown held
tells_on (Some line) held now was is status result (inr none) = ap is_some none.1

-- ---- each stop has one status

code_one : (a b : Stop) → code_of a ≡ code_of b → a ≡ b
code_one Source Source e = refl
code_one Source Sink e = absurd (omega arith)
code_one Source Memory e = absurd (omega arith)
code_one Source Long e = absurd (omega arith)
code_one Sink Source e = absurd (omega arith)
code_one Sink Sink e = refl
code_one Sink Memory e = absurd (omega arith)
code_one Sink Long e = absurd (omega arith)
code_one Memory Source e = absurd (omega arith)
code_one Memory Sink e = absurd (omega arith)
code_one Memory Memory e = refl
code_one Memory Long e = absurd (omega arith)
code_one Long Source e = absurd (omega arith)
code_one Long Sink e = absurd (omega arith)
code_one Long Memory e = absurd (omega arith)
code_one Long Long e = refl

not_done : (stop : Stop) → code_of stop ≢ 0
not_done Source e = absurd (omega arith)
not_done Sink e = absurd (omega arith)
not_done Memory e = absurd (omega arith)
not_done Long e = absurd (omega arith)

not_usage : (stop : Stop) → code_of stop ≢ 1
not_usage Source e = absurd (omega arith)
not_usage Sink e = absurd (omega arith)
not_usage Memory e = absurd (omega arith)
not_usage Long e = absurd (omega arith)

not_disk : (stop : Stop) → code_of stop ≢ 5
not_disk Source e = absurd (omega arith)
not_disk Sink e = absurd (omega arith)
not_disk Memory e = absurd (omega arith)
not_disk Long e = absurd (omega arith)

not_damaged : (stop : Stop) → code_of stop ≢ 6
not_damaged Source e = absurd (omega arith)
not_damaged Sink e = absurd (omega arith)
not_damaged Memory e = absurd (omega arith)
not_damaged Long e = absurd (omega arith)

module _ (before after : Outside) where
  source_rose : (stop : Stop) → MayStop before.input before.faults after.faults stop → code_of stop ≡ 3 → Rose before.faults.source after.faults.source
  source_rose Source may e = may
  source_rose Sink may e = absurd (omega arith)
  source_rose Memory may e = absurd (omega arith)
  source_rose Long may e = absurd (omega arith)

  sink_rose : (stop : Stop) → MayStop before.input before.faults after.faults stop → code_of stop ≡ 4 → Rose before.faults.sink after.faults.sink
  sink_rose Source may e = absurd (omega arith)
  sink_rose Sink may e = may
  sink_rose Memory may e = absurd (omega arith)
  sink_rose Long may e = absurd (omega arith)

  line_long : (stop : Stop) → MayStop before.input before.faults after.faults stop → code_of stop ≡ 8 → IfSome before.input HasLongLine
  line_long Source may e = absurd (omega arith)
  line_long Sink may e = absurd (omega arith)
  line_long Memory may e = absurd (omega arith)
  line_long Long may e = may

  module _ {D : Type 0} (content : D → Option Image) (left : D → ℕ → Image → Type 0) (last faults : D → ℕ) (Failed : List D → List D → Type 0) (from to n : ℕ) (old new : List D) where
    abbrev Goal : ℕ → Type 0
    Goal status = Ends content left last faults Failed from to n status before after old new

    -- the system was open
    run_ended : (origin end : Running) → IsOrigin n origin → DisksLeft content left last from to old new end.lists → (ended : Result (Unit {0}) Stop) → Runs origin end before after ended → All (IsEmpty content) old → Goal (status_of ended)
    run_ended origin end is left (Ok x) runs empty = record {
      known = inl refl;
      goes_on = runs.goes_on;
      finished = λ e. (origin, is, end, left, runs.done);
      stopped = λ stop e. absurd (not_done stop (sym e));
      source_failed = λ e. absurd (omega (arith, e));
      sink_failed = λ e. absurd (omega (arith, e));
      disk_failed = λ e. absurd (omega (arith, e));
      line_too_long = λ e. absurd (omega (arith, e));
      damaged = λ e. absurd (omega (arith, e));
      empty = λ a b c. empty;
    }
    run_ended origin end is left (Err stop) runs empty = record {
      known = inr (inr (inr (stop, refl)));
      goes_on = runs.goes_on;
      finished = λ e. absurd (not_done stop e);
      stopped = λ other e. inr (origin, is, end, left, subst (λ (s : Stop). IfSome before.input (StopsAt origin end before after s)) (code_one stop other e) runs.stopped);
      source_failed = λ e. source_rose stop runs.cause e;
      sink_failed = λ e. sink_rose stop runs.cause e;
      disk_failed = λ e. absurd (not_disk stop e);
      line_too_long = λ e. line_long stop runs.cause e;
      damaged = λ e. absurd (not_damaged stop e);
      empty = λ a b c. empty;
    }

    pub run_ends : (origin end : Running) → IsOrigin n origin → DisksLeft content left last from to old new end.lists → (ended : Result (Unit {0}) Stop) → Runs origin end before after ended → All (IsEmpty content) old → (status : ℕ) → status ≡ status_of ended → Goal status
    run_ends origin end is left ended runs empty status e = subst Goal (sym e) (run_ended origin end is left ended runs empty)

    module _ (goes_on : GoesOn before after) (input : after.input ≡ before.input) where
      ends_disk : DiskFailed content last faults Failed from old new → after.output ≡ before.output → Goal 5
      ends_disk failed output = record {
        known = inr (inl refl);
        goes_on = goes_on;
        finished = λ e. absurd (omega (arith, e));
        stopped = λ stop e. absurd (not_disk stop (sym e));
        source_failed = λ e. absurd (omega (arith, e));
        sink_failed = λ e. absurd (omega (arith, e));
        disk_failed = λ e. (failed, record { input = input; output = output });
        line_too_long = λ e. absurd (omega (arith, e));
        damaged = λ e. absurd (omega (arith, e));
        empty = λ a b c. absurd (a refl);
      }

      ends_memory : after.output ≡ before.output → Goal 7
      ends_memory output = record {
        known = inr (inr (inr (Memory, refl)));
        goes_on = goes_on;
        finished = λ e. absurd (omega (arith, e));
        stopped = λ stop e. inl (sym (code_one Memory stop e), record { input = input; output = output });
        source_failed = λ e. absurd (omega (arith, e));
        sink_failed = λ e. absurd (omega (arith, e));
        disk_failed = λ e. absurd (omega (arith, e));
        line_too_long = λ e. absurd (omega (arith, e));
        damaged = λ e. absurd (omega (arith, e));
        empty = λ a b c. absurd (c refl);
      }

      ends_damaged : IsDamaged content faults old new before after → Goal 6
      ends_damaged damaged = record {
        known = inr (inr (inl refl));
        goes_on = goes_on;
        finished = λ e. absurd (omega (arith, e));
        stopped = λ stop e. absurd (not_damaged stop (sym e));
        source_failed = λ e. absurd (omega (arith, e));
        sink_failed = λ e. absurd (omega (arith, e));
        disk_failed = λ e. absurd (omega (arith, e));
        line_too_long = λ e. absurd (omega (arith, e));
        damaged = λ e. damaged;
        empty = λ a b c. absurd (b refl);
      }

      tells_damage : (at then status : ℕ) → IsCause content faults old new (refusal.Damaged at) → AreKept content last faults from then old new → TellsLine (text_of [] (damage_at at)) before.output after.output before.faults.sink after.faults.sink 6 status → Goal status
      tells_damage at then status cause kept (inl (same, puts, inl all)) = subst Goal (sym same) (ends_damaged (record {
        at = at;
        kept = kept.each;
        first = cause.1;
        input = input;
        shown = text_of [] (damage_at at);
        output = all;
        front = ([], sym (append-nil (text_of [] (damage_at at))));
        whole = inl refl;
      }))
      tells_damage at then status cause kept (inl (same, puts, inr rose)) = subst Goal (sym same) (ends_damaged (record {
        at = at;
        kept = kept.each;
        first = cause.1;
        input = input;
        shown = puts.shown;
        output = puts.gained;
        front = puts.front;
        whole = inr rose;
      }))
      tells_damage at then status cause kept (inr (is, same)) = subst Goal (sym is) (ends_memory same)

      refused_by : (why : Refusal) (then status : ℕ) → AreDisks (length old) → IsCause content faults old new why → (is_early why ≡ true → AreKept content last faults from then old new)
          → (why ≡ refusal.Start → (taken : List D) × (mid : ℕ) × AreKept content last faults from mid old taken × Failed taken new)
          → Tells (line_of why) before.output after.output before.faults.sink after.faults.sink (status_by why) status → Goal status
      refused_by refusal.Usage then status disks cause kept failed tells = absurd (cause disks)
      refused_by refusal.Disk then status disks cause kept failed tells = subst Goal (sym tells.0) (ends_disk (inl cause.1) tells.1)
      refused_by (refusal.Damaged at) then status disks cause kept failed tells = tells_damage at then status cause (kept refl) tells
      refused_by refusal.Start then status disks cause kept failed tells = subst Goal (sym tells.0) (ends_disk (inr (failed refl)) tells.1)
      refused_by refusal.Memory then status disks cause kept failed tells = subst Goal (sym tells.0) (ends_memory tells.1)

      pub refused_ends : (then told_status status : ℕ) (told : Option Line) → AreDisks (length old) → IsRefused content last faults Failed from then old told_status told new
          → Tells told before.output after.output before.faults.sink after.faults.sink told_status status → Goal status
      refused_ends then told_status status told disks r tells =
          let P : Option Line → Type 0 = λ t. Tells t before.output after.output before.faults.sink after.faults.sink told_status status in
          let Q : ℕ → Type 0 = λ s. Tells (line_of r.why) before.output after.output before.faults.sink after.faults.sink s status in
          refused_by r.why then status disks r.cause r.kept r.failed (subst Q r.status_is (subst P r.told_is tells))

    -- it has one of these statuses
    pub known_not_usage : (status : ℕ) → Goal status → status ≢ 1
    known_not_usage status ends = by ends.known
      where
        by : (status ≡ 0) ⊎ ((status ≡ 5) ⊎ ((status ≡ 6) ⊎ ((stop : Stop) × (status ≡ code_of stop)))) → status ≢ 1
        by (inl e) one = omega (arith, e, one)
        by (inr (inl e)) one = omega (arith, e, one)
        by (inr (inr (inl e))) one = omega (arith, e, one)
        by (inr (inr (inr known))) one = not_usage known.0 (sym known.1 ∙ one)

-- the same count of back ends
pub ends_as : {D : Type 0} {content : D → Option Image} {left : D → ℕ → Image → Type 0} {last faults : D → ℕ} {Failed : List D → List D → Type 0} (from to count n : ℕ) → count ≡ n → (status : ℕ) (before after : Outside) (old new : List D)
    → Ends content left last faults Failed from to count status before after old new → Ends content left last faults Failed from to n status before after old new
ends_as {D} {content} {left} {last} {faults} {Failed} from to count n same status before after old new ends = subst (λ m. Ends content left last faults Failed from to m status before after old new) same ends
