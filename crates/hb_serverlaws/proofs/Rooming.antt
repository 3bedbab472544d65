-- A server's log keeps room for the ends of its branches in doubt.
use Rattle.std.proofs.Common.{◌≡◌, ℕ, ◌+◌, ◌*◌, ◌≤◌, true, List, [], ◌∷◌, ◌++◌, refl, sym, ap, ◌∙◌, subst, inl, inr, arith, length, lit≤}
use Rattle.std.specs.Prelude.{◌==◌}
use Rattle.std.proofs.lemmas.List.{length-append}
use Rattle.hb_types.specs.declared.change.LogItem.{LogItem}
use Rattle.hb_types.specs.declared.change.LogItem.TheVariants as item
use Rattle.hb_types.specs.Lists.{Has}
use Rattle.hb_types.specs.Numbers.{greatest}
use Rattle.hb_types.specs.Records.{record_length}
use Rattle.hb_types.proofs.Ascending.{Has-of}
use Rattle.hb_types.proofs.PutLaws.{by_test}
use Rattle.std.proofs.lemmas.Bool.{eq-eqb}
use Rattle.hb_disks.specs.LogPlaces.{end_behind}
use Rattle.hb_disks.specs.Redo.{Redone, Prepared, redo, redo_from, after, without_tx}
use Rattle.hb_disks.proofs.Fold.{redo_from-append}
use Rattle.hb_runs.specs.Server.{SState, now}
use Rattle.hb_runs.specs.ServerEffects.{Effect, enlisted, granted, written, prepared, committed, aborted, dropped, lost, came_up, Allowed, Steps, happens, vote_of, votes_of}
use Rattle.hb_runs.specs.ServerRuns.{Asked, Run, stopped_at}
use Rattle.hb_serverlaws.specs.Logging.{RoomIsKept}
use Rattle.hb_serverlaws.proofs.Locks.{IsLocked, locked, steps_locked}
use Rattle.hb_serverlaws.proofs.LogKept.{Voter, voter, now_is}
use Rattle.hb_serverlaws.proofs.Running.{run_base}
use Rattle.hb_serverlaws.proofs.Standing.{start_locked}

end_behind-append : (place : ℕ) (l m : List LogItem) → end_behind place (l ++ m) ≡ end_behind (end_behind place l) m
end_behind-append place [] m = refl
end_behind-append place (i ∷ l) m = end_behind-append (place + record_length i) l m

-- ---- branches in doubt

fewer_or_same : (t : ℕ) (ps : List Prepared) → length (without_tx t ps) ≤ length ps
fewer_or_same t [] = omega arith
fewer_or_same t (p ∷ ps) =
    let h : length (without_tx t ps) ≤ length ps = fewer_or_same t ps in
    by_test (p.tx == t) (λ u. rw u (omega (arith, h))) (λ f. rw f (omega (arith, h)))

fewer : (t : ℕ) (ps : List Prepared) → Has (λ p. p.tx ≡ t) ps → length (without_tx t ps) + 1 ≤ length ps
fewer t [] i = absurd i
fewer t (p ∷ ps) (inl e) =
    let u : (p.tx == t) ≡ true = eq-eqb p.tx t e in
    let h : length (without_tx t ps) ≤ length ps = fewer_or_same t ps in
    rw u (omega (arith, h))
fewer t (p ∷ ps) (inr i) =
    let h : length (without_tx t ps) + 1 ≤ length ps = fewer t ps i in
    by_test (p.tx == t) (λ u. rw u (omega (arith, h))) (λ f. rw f (omega (arith, h)))

-- ---- room

abbrev RoomIn : ℕ → List LogItem → Redone → Type 0
RoomIn place log r = end_behind place log + 32 * length r.doubts ≤ greatest

abbrev IsRoomy : SState → Type 0
IsRoomy s = RoomIn s.place s.log (now s)

logs_more : (s : SState) (i : LogItem) → (end_behind s.place s.log + record_length i) + 32 * length (after (now s) i).doubts ≤ greatest
    → RoomIn s.place (s.log ++ i ∷ []) (redo_from s.base (s.log ++ i ∷ []))
logs_more s i h =
    subst (λ r. RoomIn s.place (s.log ++ i ∷ []) r) (sym (redo_from-append s.base s.log (i ∷ [])))
    (subst (λ e. e + 32 * length (after (now s) i).doubts ≤ greatest) (sym (end_behind-append s.place s.log (i ∷ []))) h)

-- an end takes less room than was kept for it
ends : (s : SState) (t : ℕ) (i : LogItem) → record_length i ≤ 32 → (after (now s) i).doubts ≡ without_tx t (now s).doubts
    → Has (λ p. p.tx ≡ t) (now s).doubts → IsRoomy s
    → RoomIn s.place (s.log ++ i ∷ []) (redo_from s.base (s.log ++ i ∷ []))
ends s t i short left h r =
    logs_more s i
    (subst (λ ds. (end_behind s.place s.log + record_length i) + 32 * length ds ≤ greatest) (sym left)
    (room (end_behind s.place s.log) (record_length i) (length (without_tx t (now s).doubts)) (length (now s).doubts) short (fewer t (now s).doubts h) r))
  where
    room : (e n a b : ℕ) → n ≤ 32 → a + 1 ≤ b → e + 32 * b ≤ greatest → (e + n) + 32 * a ≤ greatest
    room e n a b short le h = omega (arith, short, le, h)

votes : (s : SState) (t : ℕ) → Allowed s (prepared t) → IsLocked s → RoomIn s.place (s.log ++ votes_of s t s.live) (redo_from s.base (s.log ++ votes_of s t s.live))
votes s t al k =
    subst (λ is. RoomIn s.place (s.log ++ is) (redo_from s.base (s.log ++ is))) (sym v.logs)
    (logs_more s (vote_of s v.branch)
    (subst (λ n. (end_behind s.place s.log + record_length (vote_of s v.branch)) + 32 * n ≤ greatest) (sym longer)
    (room (end_behind s.place s.log) (record_length (vote_of s v.branch)) (length (now s).doubts) has_room)))
  where
    v : Voter s t s.live
    v = voter s t al.0 s.live al.1.0 al.1.1

    same : al.0 ≡ v.branch
    same = k.unique al.0 v.branch al.1.0 v.within (al.1.1 ∙ sym v.of_tx)

    has_room : end_behind s.place s.log + record_length (vote_of s v.branch) + 1 + 32 * (length (now s).doubts + 1) ≤ greatest
    has_room = subst (λ b. end_behind s.place s.log + record_length (vote_of s b) + 1 + 32 * (length (now s).doubts + 1) ≤ greatest) same al.2.0

    longer : length (after (now s) (vote_of s v.branch)).doubts ≡ length (now s).doubts + 1
    longer = length-append (now s).doubts _

    room : (e n d : ℕ) → e + n + 1 + 32 * (d + 1) ≤ greatest → (e + n) + 32 * (d + 1) ≤ greatest
    room e n d h = omega (arith, h)

roomy : (s : SState) (e : Effect) → Allowed s e → IsLocked s → IsRoomy s → IsRoomy (happens s e)
roomy s (prepared t) al k r = votes s t al k
roomy s (committed t n) al k r =
    ends s t (item.Commit (record { 0 = t }) (record { 0 = n })) short refl (Has-of _ (λ p. p.tx ≡ t) (now s).doubts (λ p h. h.0) al.1) r
  where
    short : record_length (item.Commit (record { 0 = t }) (record { 0 = n })) ≤ 32
    short = lit≤ tt
roomy s (aborted t) al k r = ends s t (item.Abort (record { 0 = t })) short refl (Has-of _ (λ p. p.tx ≡ t) (now s).doubts (λ p h. h.0) al.1) r
  where
    short : record_length (item.Abort (record { 0 = t })) ≤ 32
    short = lit≤ tt
roomy s (enlisted t) al k r = r
roomy s (granted t p m) al k r = r
roomy s (written t c) al k r = r
roomy s (dropped t) al k r = r
roomy s lost al k r = r
roomy s came_up al k r = r

steps_roomy : (s : SState) (es : List Effect) (t : SState) → Steps s es t → IsLocked s → IsRoomy s → IsRoomy t
steps_roomy s [] t st k r = subst IsRoomy st r
steps_roomy s (e ∷ es) t st k r = steps_roomy (happens s e) es t st.1 (locked s e st.0 k) (roomy s e st.0 k r)

run_roomy : (s : SState) (trail : List Asked) (t : SState) → Run s trail t → IsLocked s → IsRoomy s → IsRoomy t
run_roomy s [] t run k r = subst IsRoomy run r
run_roomy s (a ∷ more) t run k r =
    run_roomy run.0 more t run.2 (steps_locked s run.1.effects run.0 run.1.steps k) (steps_roomy s run.1.effects run.0 run.1.steps k r)

-- ---- the place where the log began stays

steps_place : (s : SState) (es : List Effect) (t : SState) → Steps s es t → t.place ≡ s.place
steps_place s [] t st = ap (λ z. z.place) (sym st)
steps_place s (e ∷ es) t st = steps_place (happens s e) es t st.1 ∙ one e
  where
    one : (e : Effect) → (happens s e).place ≡ s.place
    one (enlisted tx) = refl
    one (granted tx p m) = refl
    one (written tx c) = refl
    one (prepared tx) = refl
    one (committed tx n) = refl
    one (aborted tx) = refl
    one (dropped tx) = refl
    one lost = refl
    one came_up = refl

run_place : (s : SState) (trail : List Asked) (t : SState) → Run s trail t → t.place ≡ s.place
run_place s [] t run = ap (λ z. z.place) (sym run)
run_place s (a ∷ more) t run = run_place run.0 more t run.2 ∙ steps_place s run.1.effects run.0 run.1.steps

pub room_is_kept : RoomIsKept
room_is_kept log trail s ok room run =
    subst (λ r. end_behind 0 (log ++ s.log) + 32 * length r.doubts ≤ greatest) (now_is log s (run_base (stopped_at (redo log) (end_behind 0 log)) trail s run))
    (subst (λ e. e + 32 * length (now s).doubts ≤ greatest) (ap (λ p. end_behind p s.log) (run_place (stopped_at (redo log) (end_behind 0 log)) trail s run) ∙ sym (end_behind-append 0 log s.log))
    (run_roomy (stopped_at (redo log) (end_behind 0 log)) trail s run (start_locked log (end_behind 0 log) ok) room))
