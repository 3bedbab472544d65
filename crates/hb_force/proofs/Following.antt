-- A Prepare that isn't done leads each state to itself.
use Rattle.std.proofs.Common.{◌≡◌, ℕ, ◌+◌, ◌≤◌, refl, sym, subst, arith, [], length, true}
use Rattle.hb_types.specs.declared.answer.Answer.{Answer}
use Rattle.hb_types.specs.declared.answer.Answer.TheVariants as answer
use Rattle.hb_types.specs.declared.change.LogItem.{LogItem}
use Rattle.hb_types.specs.declared.names.Tx.{Tx}
use Rattle.hb_types.specs.declared.request.Request.TheVariants as request
use Rattle.hb_types.specs.Records.{body_bytes}
use Rattle.hb_disks.specs.LogPlaces.{end_behind}
use Rattle.hb_runs.specs.Server.{Branch, SState, now, IsLive}
use Rattle.hb_runs.specs.ServerAnswers.{RightIn}
use Rattle.hb_runs.specs.ServerCauses.{Causes}
use Rattle.hb_runs.specs.ServerEffects.{HasRoomFor, VoteHasRoom, vote_of}
use Rattle.hb_runs.specs.ServerRuns.{Turns}
use Rattle.hb_force.specs.declared.refusal.Refusal.{Refusal}
use Rattle.hb_force.specs.declared.refusal.Refusal.TheVariants as refusal
use Rattle.hb_force.specs.Lengths.{HasPlace}
use Rattle.hb_force.proofs.Turning.{right_up}

module _ (s : SState) (tx : Tx) where
  pub unprepared : (a : Answer) → s.up ≡ true → Causes s (request.Prepare tx) a [] → RightIn true s (request.Prepare tx) a → Turns s (record { request = request.Prepare tx; answer = a }) s
  unprepared a up causes right = record { effects = []; causes = causes; right = right_up s (request.Prepare tx) a up right; steps = refl }

  pub refused : (r : Refusal) (a : Answer) (b : Branch) → s.up ≡ true → IsLive s tx.0 b → (r ≡ refusal.Spent → a ≡ answer.NumbersSpent) → (r ≡ refusal.NoMemory → a ≡ answer.NoMemory) → (r ≡ refusal.Spent → VoteHasRoom s b → ⊥)
      → Turns s (record { request = request.Prepare tx; answer = a }) s
  refused refusal.Spent a b up live spent memory full =
      subst (λ (x : Answer). Turns s (record { request = request.Prepare tx; answer = x }) s) (sym (spent refl)) (unprepared answer.NumbersSpent up refl (b, live, full refl))
  refused refusal.NoMemory a b up live spent memory full =
      subst (λ (x : Answer). Turns s (record { request = request.Prepare tx; answer = x }) s) (sym (memory refl)) (unprepared answer.NoMemory up refl refl)

pub no_place : (s : SState) (end : ℕ) (b : Branch) (vote : LogItem) → end ≡ end_behind s.place s.log → vote ≡ vote_of s b → (HasPlace end (length (now s).doubts) vote → ⊥) → VoteHasRoom s b → ⊥
no_place s end b vote end_is is never room =
    let back : HasRoomFor s vote (length (now s).doubts + 1) × (length (body_bytes vote) ≤ 8388608) =
    subst (λ (i : LogItem). HasRoomFor s i (length (now s).doubts + 1) × (length (body_bytes i) ≤ 8388608)) (sym is) room in
    let fits = back.0 in
    never (omega (arith, fits, end_is), back.1)
