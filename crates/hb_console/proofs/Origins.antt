-- A system that was just opened is an origin.
use Rattle.std.proofs.Common.{◌≡◌, ◌≢◌, ◌⊎◌, inl, inr, ℕ, ◌+◌, ◌<◌, ◌≤◌, Bool, List, [], ◌∷◌, length, refl, sym, ◌∙◌, ap, subst, arith}
use Rattle.std.specs.Prelude.{Option, None, slice_get, zero, suc}
use Rattle.std.proofs.lemmas.Bool.{cases_eq, ne_eqb}
use Rattle.std.proofs.lemmas.Option.{slice_get-get_or}
use Rattle.hb_types.specs.declared.answer.Answer.TheVariants as answer
use Rattle.hb_types.specs.declared.names.Tx.{Tx}
use Rattle.hb_types.specs.declared.request.Request.TheVariants as request
use Rattle.hb_runs.specs.ServerRuns.{Asked}
use Rattle.hb_node.specs.Laws.{asked_of}
use Rattle.hb_node.specs.Lists.{Lists, asked}
use Rattle.hb_reach.specs.Told.{Meanings, told_of, told_at, seen, mgr}
use Rattle.hb_stepper.specs.Running.{Running}
use Rattle.hb_console.specs.Ends.{AreStarted, IsOrigin}

abbrev AsksStart : List Asked → Type 0
AsksStart list = (doubts : List Tx) × (list ≡ asked request.Start (answer.Started doubts) ∷ [])

first_of : {N : Type 0} (nodes : List N) (k : ℕ) → k < length nodes → N
first_of [] k within = absurd (omega arith)
first_of (d ∷ nodes) k within = d

none_past : {N : Type 0} (nodes : List N) (k : ℕ) → length nodes ≤ k → slice_get nodes k ≡ None
none_past [] k past = refl
none_past (d ∷ nodes) zero past = absurd (omega arith)
none_past (d ∷ nodes) (suc k) past = none_past nodes k (omega arith)

module _ {N M : Type 0} (n : Meanings N) (m : Meanings M) (nodes : List N) (manager : M) (moment : ℕ) where
  abbrev lists : Lists
  lists = λ name. ((seen n m nodes manager moment).node name).list

  list_at : (k : ℕ) → k ≢ mgr → lists k ≡ (told_of n (slice_get nodes k)).list
  list_at k apart = ap (λ (b : Bool). (told_at n m nodes manager k b).list) (ne_eqb k mgr apart)

  starts_at : (k : ℕ) → k < length nodes → k ≢ mgr → AreStarted n.trail nodes → AsksStart (lists k)
  starts_at k within apart started =
      let d : N = first_of nodes k within in
      subst AsksStart (sym (list_at k apart ∙ ap (λ (o : Option N). (told_of n o).list) (slice_get-get_or nodes k d within))) (started k d within)

  none_at : (k : ℕ) → length nodes ≤ k → m.trail manager ≡ [] → (k ≡ mgr) ⊎ (k ≢ mgr) → lists k ≡ []
  none_at k past none (inl is) = ap lists is ∙ ap asked_of none
  none_at k past none (inr apart) = list_at k apart ∙ ap (λ (o : Option N). (told_of n o).list) (none_past nodes k past)

  pub is_origin : (count : ℕ) → length nodes ≡ count + 2 → count ≤ 8 → AreStarted n.trail nodes → m.trail manager ≡ [] → (r : Running) → r ≡ record { names = []; seats = []; waiters = []; lines = []; lists = lists } → IsOrigin count r
  is_origin count long few started none r is = subst (IsOrigin count) (sym is) (record {
    names = refl;
    seats = refl;
    waiters = refl;
    lines = refl;
    started = λ k within. starts_at k (omega (arith, long, within)) (λ e. omega (arith, e, within, few)) started;
    others = λ k past. none_at k (omega (arith, long, past)) none (cases_eq k mgr);
  })
