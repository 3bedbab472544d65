-- Runs of a server: one turn more, what stays of a state, and the turns of starts, stops and faults.
use Rattle.std.proofs.Common.{◌≡◌, inl, inr, ℕ, ◌+◌, List, [], ◌∷◌, ◌++◌, map, refl, sym, ◌∙◌, ap, subst, true, false}
use Rattle.std.specs.Prelude.{Bool, Option, unwrap_or}
use Rattle.std.proofs.lemmas.Bool.{false≢true}
use Rattle.hb_edge.specs.Images.{Image}
use Rattle.hb_types.specs.declared.answer.Answer.{Answer}
use Rattle.hb_types.specs.declared.answer.Answer.TheVariants as answer
use Rattle.hb_types.specs.declared.change.LogItem.{LogItem}
use Rattle.hb_types.specs.declared.change.Placed.{Placed}
use Rattle.hb_types.specs.declared.names.Tx.{Tx}
use Rattle.hb_types.specs.declared.request.Request.{Request}
use Rattle.hb_types.specs.declared.request.Request.TheVariants as request
use Rattle.hb_types.specs.Logs.{Records, RecordsFrom, readable}
use Rattle.hb_types.specs.Records.{record_length}
use Rattle.hb_disks.specs.LogPlaces.{end_behind}
use Rattle.hb_disks.specs.Points.{Point, at_point, no_point}
use Rattle.hb_disks.specs.Redo.{Redone, redo_from}
use Rattle.hb_disks.proofs.Fold.{redo_from-append}
use Rattle.hb_runs.specs.Server.{SState, now}
use Rattle.hb_runs.specs.ServerEffects.{Effect, enlisted, granted, written, prepared, committed, aborted, dropped, lost, came_up, Steps, Allowed, happens}
use Rattle.hb_runs.specs.ServerCauses.{Causes}
use Rattle.hb_runs.specs.ServerAnswers.{Right, RightIn}
use Rattle.hb_runs.specs.ServerRuns.{Asked, Run, Turns}
use Rattle.hb_force.specs.Standing.{HasFrom, Recorded, items_of}
use Rattle.hb_server.specs.Law.{IsBase, IsLeft, asking, from_of, is_passed, is_refusal}

pub run_more : (s : SState) (trail : List Asked) (u t : SState) (a : Asked) → Run s trail u → Turns u a t → Run s (trail ++ a ∷ []) t
run_more s [] u t a run turn = (t, subst (λ (x : SState). Turns x a t) (sym run) turn, refl)
run_more s (b ∷ trail) u t a run turn = (run.0, run.1, run_more run.0 trail u t a run.2 turn)

-- ---- what stays

effect_place : (s : SState) (e : Effect) → (happens s e).place ≡ s.place
effect_place s (enlisted tx) = refl
effect_place s (granted tx p m) = refl
effect_place s (written tx c) = refl
effect_place s (prepared tx) = refl
effect_place s (committed tx n) = refl
effect_place s (aborted tx) = refl
effect_place s (dropped tx) = refl
effect_place s lost = refl
effect_place s came_up = refl

effect_base : (s : SState) (e : Effect) → (happens s e).base ≡ s.base
effect_base s (enlisted tx) = refl
effect_base s (granted tx p m) = refl
effect_base s (written tx c) = refl
effect_base s (prepared tx) = refl
effect_base s (committed tx n) = refl
effect_base s (aborted tx) = refl
effect_base s (dropped tx) = refl
effect_base s lost = refl
effect_base s came_up = refl

steps_place : (es : List Effect) (s t : SState) → Steps s es t → t.place ≡ s.place
steps_place [] s t steps = ap (λ (x : SState). x.place) (sym steps)
steps_place (e ∷ es) s t steps = steps_place es (happens s e) t steps.1 ∙ effect_place s e

steps_base : (es : List Effect) (s t : SState) → Steps s es t → t.base ≡ s.base
steps_base [] s t steps = ap (λ (x : SState). x.base) (sym steps)
steps_base (e ∷ es) s t steps = steps_base es (happens s e) t steps.1 ∙ effect_base s e

pub run_place : (trail : List Asked) (s t : SState) → Run s trail t → t.place ≡ s.place
run_place [] s t run = ap (λ (x : SState). x.place) (sym run)
run_place (a ∷ trail) s t run = run_place trail run.0 t run.2 ∙ steps_place run.1.effects s run.0 run.1.steps

pub run_base : (trail : List Asked) (s t : SState) → Run s trail t → t.base ≡ s.base
run_base [] s t run = ap (λ (x : SState). x.base) (sym run)
run_base (a ∷ trail) s t run = run_base trail run.0 t run.2 ∙ steps_base run.1.effects s run.0 run.1.steps

-- what the records behind a point give
pub now_is : (p : Option Point) (read : List LogItem) (first : SState) (trail : List Asked) (t : SState) → IsBase p read first → Run first trail t → now t ≡ redo_from (at_point (unwrap_or p no_point)) (read ++ t.log)
now_is p read first trail t base run =
    ap (λ (b : Redone). redo_from b t.log) (run_base trail first t run ∙ sym base.gives) ∙ sym (redo_from-append (at_point (unwrap_or p no_point)) read t.log)

-- ---- the records behind those that were read first

split : (image : List ℕ) (read l : List LogItem) (from : ℕ) (placed : List Placed) → RecordsFrom image from placed → items_of placed ≡ read ++ l → (back : List Placed) × RecordsFrom image (end_behind from read) back × (items_of back ≡ l)
split image [] l from placed records are = (placed, records, are)
split image (i ∷ read) l from [] records are = absurd (none are)
  where
    none : ◌≡◌ {A = List LogItem} [] (i ∷ read ++ l) → ⊥
    none e = cc
split image (i ∷ read) l from (p ∷ ps) records are =
    let same : p.item ≡ i = cc in
    let rest : items_of ps ≡ read ++ l = cc in
    split image read l (from + record_length i) ps (subst (λ (j : LogItem). RecordsFrom image (from + record_length j) ps) same records.2) rest

pub left_by : (p : Option Point) (read : List LogItem) (first : SState) (trail : List Asked) (t : SState) (image : Image) → IsBase p read first → Run first trail t → HasFrom (from_of p) image (read ++ t.log) → IsLeft first trail image
left_by p read first trail t image base run (placed, records, are) =
    let back = split (readable image) read t.log (from_of p) placed records are in
    record {
      state = t;
      run = run;
      has = (back.0, subst (λ (n : ℕ). Records image n back.0) (base.ends ∙ sym (run_place trail first t run)) back.1, back.2);
    }

-- ---- turns

-- a stopped server says so
pub down_turn : (t : SState) (q : Request) → t.up ≡ false → (q ≡ request.Start → ⊥) → Turns t (asking q answer.Down) t
down_turn t q down never = record { effects = []; causes = causes q never; right = subst (λ (b : Bool). RightIn b t q answer.Down) (sym down) (right q never); steps = refl }
  where
    causes : (q : Request) → (q ≡ request.Start → ⊥) → Causes t q answer.Down []
    causes (request.Enlist tx) never = refl
    causes (request.Lock tx p m) never = refl
    causes (request.Write tx c) never = refl
    causes (request.Prepare tx) never = refl
    causes (request.Commit tx n) never = refl
    causes (request.Rollback tx) never = refl
    causes request.SyncBegin never = refl
    causes request.SyncFlush never = refl
    causes request.SyncFinish never = refl
    causes request.Stop never = refl
    causes request.Start never = refl
    causes _ never = refl

    right : (q : Request) → (q ≡ request.Start → ⊥) → RightIn false t q answer.Down
    right request.Start never = absurd (never refl)
    right _ never = tt

-- a start that fails
pub failed_turn : (t : SState) (a : Answer) → t.up ≡ false → is_refusal a ≡ true → Turns t (asking request.Start a) t
failed_turn t (answer.Fault area) down is = record { effects = []; causes = refl; right = subst (λ (b : Bool). RightIn b t request.Start (answer.Fault area)) (sym down) tt; steps = refl }
failed_turn t (answer.Damaged area place) down is = record { effects = []; causes = refl; right = subst (λ (b : Bool). RightIn b t request.Start (answer.Damaged area place)) (sym down) tt; steps = refl }
failed_turn t answer.NoMemory down is = record { effects = []; causes = inl refl; right = subst (λ (b : Bool). RightIn b t request.Start answer.NoMemory) (sym down) tt; steps = refl }
failed_turn t _ down is = absurd (false≢true is)

pub start_turn : (t : SState) (found : List Tx) → t.up ≡ false → map (λ (x : Tx). x.0) found ≡ map (λ p. p.tx) (now t).doubts → Turns t (asking request.Start (answer.Started found)) (happens t came_up)
start_turn t found down are = record { effects = came_up ∷ []; causes = refl; right = subst (λ (b : Bool). RightIn b t request.Start (answer.Started found)) (sym down) are; steps = (down, refl) }

pub stop_turn : (s : SState) → s.up ≡ true → Turns s (asking request.Stop answer.Done) (happens s lost)
stop_turn s up = record { effects = lost ∷ []; causes = refl; right = subst (λ (b : Bool). RightIn b s request.Stop answer.Done) (sym up) tt; steps = (tt, refl) }

-- of a call that faulted it is open whether its record stands
pub fault_after : (s : SState) (q : Request) (e : Effect) → Recorded q e → Allowed s e → Right s q (answer.Fault false) → Turns s (asking q (answer.Fault false)) (happens (happens s e) lost)
fault_after s (request.Prepare tx) e is allowed right = record { effects = e ∷ lost ∷ []; causes = inr (ap (λ (x : Effect). x ∷ lost ∷ []) is); right = right; steps = (allowed, (tt, refl)) }
fault_after s (request.Commit tx n) e is allowed right = record { effects = e ∷ lost ∷ []; causes = inr (ap (λ (x : Effect). x ∷ lost ∷ []) is); right = right; steps = (allowed, (tt, refl)) }
fault_after s (request.Rollback tx) e is allowed right = record { effects = e ∷ lost ∷ []; causes = inr (ap (λ (x : Effect). x ∷ lost ∷ []) is); right = right; steps = (allowed, (tt, refl)) }
fault_after s _ e is allowed right = absurd is

pub fault_before : (s : SState) (q : Request) → s.up ≡ true → Right s q (answer.Fault false) → Turns s (asking q (answer.Fault false)) (happens s lost)
fault_before s q up right = record { effects = lost ∷ []; causes = causes q (subst (λ (b : Bool). RightIn b s q (answer.Fault false)) up right); right = right; steps = (tt, refl) }
  where
    causes : (q : Request) → RightIn true s q (answer.Fault false) → Causes s q (answer.Fault false) (lost ∷ [])
    causes (request.Prepare tx) is = inl refl
    causes (request.Commit tx n) is = inl refl
    causes (request.Rollback tx) is = inl refl
    causes request.SyncBegin is = refl
    causes request.SyncFlush is = refl
    causes request.SyncFinish is = refl
    causes (request.Enlist tx) is = absurd is
    causes (request.Lock tx p m) is = absurd is
    causes (request.Read tx place) is = absurd (is.shows)
    causes (request.Scan tx space) is = absurd (is.shows)
    causes (request.ScanGroup tx space group) is = absurd (is.shows)
    causes (request.Write tx c) is = absurd is
    causes (request.GroupKeys space group most) is = absurd is
    causes request.Stop is = absurd is
    causes request.Start is = absurd is
    causes _ is = absurd is

-- a call that the trail leaves out changes nothing
pub passed_turn : (s t : SState) (q : Request) (a : Answer) → is_passed q a ≡ true → Turns s (asking q a) t → s ≡ t
passed_turn s t (request.Commit tx n) a is turn = by a is turn.causes
  where
    by : (a : Answer) → is_passed (request.Commit tx n) a ≡ true → Causes s (request.Commit tx n) a turn.effects → s ≡ t
    by answer.Down is none = subst (λ (es : List Effect). Steps s es t) none turn.steps
    by answer.NoBranch is none = subst (λ (es : List Effect). Steps s es t) none turn.steps
    by answer.NotPrepared is none = subst (λ (es : List Effect). Steps s es t) none turn.steps
    by (answer.Low floor) is none = subst (λ (es : List Effect). Steps s es t) none turn.steps
    by _ is none = absurd (false≢true is)
passed_turn s t (request.Rollback tx) a is turn = by a is turn.causes
  where
    by : (a : Answer) → is_passed (request.Rollback tx) a ≡ true → Causes s (request.Rollback tx) a turn.effects → s ≡ t
    by answer.Down is none = subst (λ (es : List Effect). Steps s es t) none turn.steps
    by answer.NoBranch is none = subst (λ (es : List Effect). Steps s es t) none turn.steps
    by _ is none = absurd (false≢true is)
passed_turn s t _ a is turn = absurd (false≢true is)
