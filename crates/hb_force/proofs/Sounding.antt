-- What keeps a state sound, and the record of a vote in a sound one.
use Rattle.std.proofs.Common.{◌≡◌, ℕ, ◌≤◌, refl, sym, ◌∙◌, ap, subst, List, [], ◌∷◌, length, if◌then◌else◌}
use Rattle.std.specs.Prelude.{◌==◌, All}
use Rattle.std.specs.Ordering.{is_lt}
use Rattle.std.proofs.lemmas.List.Elements.{All-cons, All-nil}
use Rattle.hb_types.specs.declared.change.Change.{Change}
use Rattle.hb_types.specs.declared.lock.Held.{Held}
use Rattle.hb_types.specs.declared.lock.Mode.{Mode}
use Rattle.hb_types.specs.declared.places.Path.{Path}
use Rattle.hb_types.specs.declared.places.Place.{Place}
use Rattle.hb_types.specs.Lists.{Each, Ascends}
use Rattle.hb_types.specs.Numbers.{IsNumber}
use Rattle.hb_types.specs.Places.{IsPath, same_path, path_cmp, same_place, place_cmp}
use Rattle.hb_types.specs.Put.{normal, normal_onto, with_change, without_change}
use Rattle.hb_types.specs.Records.{HasRecord, IsChange, body_bytes}
use Rattle.hb_types.proofs.Ascending.{Each-append}
use Rattle.hb_types.proofs.PutLaws.{by_test}
use Rattle.hb_branch.proofs.Changes.{normal_ascends}
use Rattle.hb_disks.specs.Redo.{Prepared, without_tx}
use Rattle.hb_runs.specs.Server.{Branch, SState, wanted, with_lock, without_path}
use Rattle.hb_runs.specs.ServerEffects.{Effect, enlisted, granted, written, prepared, committed, aborted, dropped, lost, came_up, Steps, happens, without_live, changing, grant, write, vote_of}
use Rattle.hb_locks.specs.Locks.{lock_cmp}
use Rattle.hb_force.specs.Kept.{IsSound, IsSoundBranch}

-- ---- lists

pub all_of : {A : Type 0} (P : A → Type 0) (xs : List A) → Each P xs → All P xs
all_of P [] each = All-nil P
all_of P (x ∷ xs) each = All-cons P x xs each.0 (all_of P xs each.1)

pub each-without_live : (P : Branch → Type 0) (tx : ℕ) (bs : List Branch) → Each P bs → Each P (without_live tx bs)
each-without_live P tx [] each = tt
each-without_live P tx (b ∷ bs) each =
    by_test (b.tx == tx)
    (λ t. subst (Each P) (sym (ap (λ z. if z then without_live tx bs else b ∷ without_live tx bs) t)) (each-without_live P tx bs each.1))
    (λ f. subst (Each P) (sym (ap (λ z. if z then without_live tx bs else b ∷ without_live tx bs) f)) (each.0, each-without_live P tx bs each.1))

each-changing : (P : Branch → Type 0) (tx : ℕ) (f : Branch → Branch) (bs : List Branch) → ((b : Branch) → P b → P (f b)) → Each P bs → Each P (changing tx f bs)
each-changing P tx f [] keep each = tt
each-changing P tx f (b ∷ bs) keep each =
    by_test (b.tx == tx)
    (λ t. subst (Each P) (sym (ap (λ z. if z then f b ∷ changing tx f bs else b ∷ changing tx f bs) t)) (keep b each.0, each-changing P tx f bs keep each.1))
    (λ n. subst (Each P) (sym (ap (λ z. if z then f b ∷ changing tx f bs else b ∷ changing tx f bs) n)) (each.0, each-changing P tx f bs keep each.1))

pub each-without_tx : (P : Prepared → Type 0) (tx : ℕ) (ps : List Prepared) → Each P ps → Each P (without_tx tx ps)
each-without_tx P tx [] each = tt
each-without_tx P tx (p ∷ ps) each =
    by_test (p.tx == tx)
    (λ t. subst (Each P) (sym (ap (λ z. if z then without_tx tx ps else p ∷ without_tx tx ps) t)) (each-without_tx P tx ps each.1))
    (λ f. subst (Each P) (sym (ap (λ z. if z then without_tx tx ps else p ∷ without_tx tx ps) f)) (each.0, each-without_tx P tx ps each.1))

each-without_path : (P : Held → Type 0) (p : Path) (ls : List Held) → Each P ls → Each P (without_path p ls)
each-without_path P p [] each = tt
each-without_path P p (l ∷ ls) each =
    by_test (same_path l.path p)
    (λ t. subst (Each P) (sym (ap (λ z. if z then without_path p ls else l ∷ without_path p ls) t)) (each-without_path P p ls each.1))
    (λ f. subst (Each P) (sym (ap (λ z. if z then without_path p ls else l ∷ without_path p ls) f)) (each.0, each-without_path P p ls each.1))

each-with_lock : (P : Held → Type 0) (h : Held) (ls : List Held) → P h → Each P ls → Each P (with_lock h ls)
each-with_lock P h [] is each = (is, tt)
each-with_lock P h (l ∷ ls) is each =
    by_test (is_lt (path_cmp l.path h.path))
    (λ t. subst (Each P) (sym (ap (λ z. if z then l ∷ with_lock h ls else h ∷ l ∷ ls) t)) (each.0, each-with_lock P h ls is each.1))
    (λ f. subst (Each P) (sym (ap (λ z. if z then l ∷ with_lock h ls else h ∷ l ∷ ls) f)) (is, each))

each-without_change : (P : Change → Type 0) (p : Place) (cs : List Change) → Each P cs → Each P (without_change p cs)
each-without_change P p [] each = tt
each-without_change P p (c ∷ cs) each =
    by_test (same_place p c.place)
    (λ t. subst (Each P) (sym (ap (λ z. if z then without_change p cs else c ∷ without_change p cs) t)) (each-without_change P p cs each.1))
    (λ f. subst (Each P) (sym (ap (λ z. if z then without_change p cs else c ∷ without_change p cs) f)) (each.0, each-without_change P p cs each.1))

each-with_change : (P : Change → Type 0) (c : Change) (ds : List Change) → P c → Each P ds → Each P (with_change c ds)
each-with_change P c [] is each = (is, tt)
each-with_change P c (d ∷ ds) is each =
    by_test (is_lt (place_cmp d.place c.place))
    (λ t. subst (Each P) (sym (ap (λ z. if z then d ∷ with_change c ds else c ∷ d ∷ ds) t)) (each.0, each-with_change P c ds is each.1))
    (λ f. subst (Each P) (sym (ap (λ z. if z then d ∷ with_change c ds else c ∷ d ∷ ds) f)) (is, each))

each-normal_onto : (P : Change → Type 0) (done cs : List Change) → Each P done → Each P cs → Each P (normal_onto done cs)
each-normal_onto P done [] ds each = ds
each-normal_onto P done (c ∷ cs) ds each = each-normal_onto P (with_change c (without_change c.place done)) cs (each-with_change P c (without_change c.place done) each.0 (each-without_change P c.place done ds)) each.1

pub each-normal : (P : Change → Type 0) (cs : List Change) → Each P cs → Each P (normal cs)
each-normal P cs each = each-normal_onto P [] cs tt each

-- ---- effects that record nothing

-- an effect that records nothing, with numbers, paths and changes that a record can have
abbrev pub IsQuiet : Effect → Type 0
IsQuiet (enlisted tx) = IsNumber tx
IsQuiet (granted tx p m) = IsPath p
IsQuiet (written tx c) = IsChange c
IsQuiet (dropped tx) = Unit {0}
IsQuiet _ = ⊥

-- what stays where nothing is recorded
pub record Stays (s t : SState) : Type 0 where
  pub base : t.base ≡ s.base
  pub place : t.place ≡ s.place
  pub log : t.log ≡ s.log
  pub sound : IsSound t

granted_sound : (p : Path) (m : Mode) (b : Branch) → IsPath p → IsSoundBranch b → IsSoundBranch (grant p m b)
granted_sound p m b is sound = (sound.0, each-with_lock (λ (l : Held). IsPath l.path) (wanted p m b.locks) (without_path p b.locks) is (each-without_path (λ (l : Held). IsPath l.path) p b.locks sound.1), sound.2)

written_sound : (c : Change) (b : Branch) → IsChange c → IsSoundBranch b → IsSoundBranch (write c b)
written_sound c b is sound = (sound.0, sound.1, Each-append IsChange b.own (c ∷ []) sound.2 (is, tt))

quiet_stays : (s : SState) (e : Effect) → IsQuiet e → IsSound s → Stays s (happens s e)
quiet_stays s (enlisted tx) is sound = record {
  base = refl;
  place = refl;
  log = refl;
  sound = record { live = Each-append IsSoundBranch s.live (record { tx = tx; locks = []; own = [] } ∷ []) sound.live ((is, tt, tt), tt); doubts = sound.doubts; floor = sound.floor; rows = sound.rows };
}
quiet_stays s (granted tx p m) is sound = record {
  base = refl;
  place = refl;
  log = refl;
  sound = record { live = each-changing IsSoundBranch tx (grant p m) s.live (λ b ok. granted_sound p m b is ok) sound.live; doubts = sound.doubts; floor = sound.floor; rows = sound.rows };
}
quiet_stays s (written tx c) is sound = record {
  base = refl;
  place = refl;
  log = refl;
  sound = record { live = each-changing IsSoundBranch tx (write c) s.live (λ b ok. written_sound c b is ok) sound.live; doubts = sound.doubts; floor = sound.floor; rows = sound.rows };
}
quiet_stays s (dropped tx) is sound = record {
  base = refl;
  place = refl;
  log = refl;
  sound = record { live = each-without_live IsSoundBranch tx s.live sound.live; doubts = sound.doubts; floor = sound.floor; rows = sound.rows };
}
quiet_stays s (prepared tx) is sound = absurd is
quiet_stays s (committed tx n) is sound = absurd is
quiet_stays s (aborted tx) is sound = absurd is
quiet_stays s lost is sound = absurd is
quiet_stays s came_up is sound = absurd is

pub steps_stay : (s t : SState) (es : List Effect) → Each IsQuiet es → IsSound s → Steps s es t → Stays s t
steps_stay s t [] quiet sound steps = subst (Stays s) steps (record { base = refl; place = refl; log = refl; sound = sound })
steps_stay s t (e ∷ es) quiet sound steps =
    let one = quiet_stays s e quiet.0 sound in
    let rest = steps_stay (happens s e) t es quiet.1 one.sound steps.1 in
    record { base = rest.base ∙ one.base; place = rest.place ∙ one.place; log = rest.log ∙ one.log; sound = rest.sound }

quiet_log : (s : SState) (e : Effect) → IsQuiet e → ((happens s e).log ≡ s.log) × ((happens s e).place ≡ s.place)
quiet_log s (enlisted tx) is = (refl, refl)
quiet_log s (granted tx p m) is = (refl, refl)
quiet_log s (written tx c) is = (refl, refl)
quiet_log s (dropped tx) is = (refl, refl)
quiet_log s (prepared tx) is = absurd is
quiet_log s (committed tx n) is = absurd is
quiet_log s (aborted tx) is = absurd is
quiet_log s lost is = absurd is
quiet_log s came_up is = absurd is

-- the same of the log alone
pub steps_log : (s t : SState) (es : List Effect) → Each IsQuiet es → Steps s es t → (t.log ≡ s.log) × (t.place ≡ s.place)
steps_log s t [] quiet steps = (ap (λ (x : SState). x.log) (sym steps), ap (λ (x : SState). x.place) (sym steps))
steps_log s t (e ∷ es) quiet steps =
    let one = quiet_log s e quiet.0 in
    let rest = steps_log (happens s e) t es quiet.1 steps.1 in
    (rest.0 ∙ one.0, rest.1 ∙ one.1)

-- ---- the record of a vote

pub vote_has_record : (s : SState) (b : Branch) → IsSound s → IsSoundBranch b → Ascends lock_cmp b.locks → length (body_bytes (vote_of s b)) ≤ 8388608 → HasRecord (vote_of s b)
vote_has_record s b sound is ordered short =
    ((is.0, sound.floor, all_of (λ (l : Held). IsPath l.path) b.locks is.1, ordered, normal_ascends b.own, all_of IsChange (normal b.own) (each-normal IsChange b.own is.2)), short)
