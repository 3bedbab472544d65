-- How a request changes the number of a server's branches that have not ended, and what it may answer where it takes no memory.
use Rattle.std.proofs.Common.{◌≡◌, inl, inr, ℕ, ◌+◌, ◌≤◌, Bool, true, false, List, [], ◌∷◌, ◌++◌, map, length, if◌then◌else◌, refl, sym, ◌∙◌, ap, subst, arith, length-append}
use Rattle.std.specs.Prelude.{◌==◌, ◌⊎◌}
use Rattle.std.proofs.lemmas.Bool.{eq-eqb, false≢true, true≢false}
use Rattle.std.proofs.lemmas.List.{length-map}
use Rattle.hb_types.specs.declared.answer.Answer.{Answer}
use Rattle.hb_types.specs.declared.answer.Answer.TheVariants as answer
use Rattle.hb_types.specs.declared.change.LogItem.{LogItem}
use Rattle.hb_types.specs.declared.change.LogItem.TheVariants as item
use Rattle.hb_types.specs.declared.lock.Held.{Held}
use Rattle.hb_types.specs.declared.names.Number.{Number}
use Rattle.hb_types.specs.declared.names.Tx.{Tx}
use Rattle.hb_types.specs.declared.request.Request.{Request}
use Rattle.hb_types.specs.declared.request.Request.TheVariants as request
use Rattle.hb_types.specs.Ladders.{ladder}
use Rattle.hb_types.specs.Lists.{Each, Has}
use Rattle.hb_types.specs.Put.{normal}
use Rattle.hb_types.proofs.PutLaws.{by_test}
use Rattle.hb_disks.specs.Redo.{Prepared, Redone, redo_from, without_tx}
use Rattle.hb_disks.proofs.Fold.{redo_from-append}
use Rattle.hb_runs.specs.Server.{Branch, SState, as_branch, now, unended, IsInDoubt}
use Rattle.hb_runs.specs.ServerAnswers.{RightIn}
use Rattle.hb_runs.specs.ServerCauses.{Causes, LockCauses, grants}
use Rattle.hb_runs.specs.ServerEffects.{Effect, enlisted, granted, written, prepared, committed, aborted, dropped, lost, came_up, Allowed, Steps, changing, grant, happens, votes_of, vote_of, without_live, write}
use Rattle.hb_runs.specs.ServerRuns.{Turns}
use Rattle.hb_engine.proofs.Branches.{alive_of}
use Rattle.hb_force.specs.Standing.{is_quiet}
use Rattle.hb_force.proofs.Rooming.{without-shorter}
use Rattle.hb_server.specs.Law.{asking}
use Rattle.hb_server.specs.Rooms.{entries_of, room_with}

abbrev pub count : SState → ℕ
count s = length (unended s)

count_is : (s : SState) → count s ≡ length s.live + length (now s).doubts
count_is s = length-append s.live (map as_branch (now s).doubts) ∙ ap (λ (n : ℕ). length s.live + n) (length-map (now s).doubts as_branch)

-- ---- live branches

live_long : (tx : ℕ) (bs : List Branch) → length (without_live tx bs) ≤ length bs
live_long tx [] = omega arith
live_long tx (b ∷ bs) =
    let rest = live_long tx bs in
    by_test (b.tx == tx)
    (λ t. let e = ap length (ap (λ z. if z then without_live tx bs else b ∷ without_live tx bs) t) in omega (arith, rest, e))
    (λ f. let e = ap length (ap (λ z. if z then without_live tx bs else b ∷ without_live tx bs) f) in omega (arith, rest, e))

live_shorter : (tx : ℕ) (bs : List Branch) → Has (λ b. b.tx ≡ tx) bs → length (without_live tx bs) + 1 ≤ length bs
live_shorter tx [] has = absurd has
live_shorter tx (b ∷ bs) (inl here) =
    let rest = live_long tx bs in
    let e = ap length (ap (λ z. if z then without_live tx bs else b ∷ without_live tx bs) (eq-eqb b.tx tx here)) in
    omega (arith, rest, e)
live_shorter tx (b ∷ bs) (inr there) =
    let rest = live_shorter tx bs there in
    by_test (b.tx == tx)
    (λ t. let e = ap length (ap (λ z. if z then without_live tx bs else b ∷ without_live tx bs) t) in omega (arith, rest, e))
    (λ f. let e = ap length (ap (λ z. if z then without_live tx bs else b ∷ without_live tx bs) f) in omega (arith, rest, e))

changing_long : (tx : ℕ) (f : Branch → Branch) (bs : List Branch) → length (changing tx f bs) ≡ length bs
changing_long tx f [] = refl
changing_long tx f (b ∷ bs) =
    let rest = changing_long tx f bs in
    by_test (b.tx == tx)
    (λ t. let e = ap length (ap (λ z. if z then f b ∷ changing tx f bs else b ∷ changing tx f bs) t) in omega (arith, rest, e))
    (λ n. let e = ap length (ap (λ z. if z then f b ∷ changing tx f bs else b ∷ changing tx f bs) n) in omega (arith, rest, e))

-- ---- branches in doubt

voted_long : (s : SState) (tx : ℕ) (bs : List Branch) (r : Redone) → length (redo_from r (votes_of s tx bs)).doubts ≤ length r.doubts + 1
voted_long s tx [] r = omega arith
voted_long s tx (b ∷ bs) r =
    by_test (b.tx == tx)
    (λ t. let e = ap (λ (l : List LogItem). length (redo_from r l).doubts) (ap (λ z. if z then vote_of s b ∷ [] else votes_of s tx bs) t) in
    let one = length-append r.doubts (record { tx = b.tx; floor = (now s).floor; locks = b.locks; changes = normal b.own } ∷ []) in
    omega (arith, e, one))
    (λ f. let e = ap (λ (l : List LogItem). length (redo_from r l).doubts) (ap (λ z. if z then vote_of s b ∷ [] else votes_of s tx bs) f) in
    let rest = voted_long s tx bs r in omega (arith, e, rest))

now_more : (s : SState) (more : List LogItem) → length (redo_from s.base (s.log ++ more)).doubts ≡ length (redo_from (now s) more).doubts
now_more s more = ap (λ (r : Redone). length r.doubts) (redo_from-append s.base s.log more)

doubt_less : (s : SState) (tx floor : ℕ) → IsInDoubt s tx floor → length (without_tx tx (now s).doubts) + 1 ≤ length (now s).doubts
doubt_less s tx floor doubt = without-shorter (λ (p : Prepared). (p.tx ≡ tx) × (p.floor ≡ floor)) tx (now s).doubts (λ p is. is.0) doubt

-- ---- effects

abbrev begun : Effect → ℕ
begun (enlisted tx) = 1
begun _ = 0

abbrev ended : Effect → ℕ
ended (committed tx n) = 1
ended (aborted tx) = 1
ended (dropped tx) = 1
ended _ = 0

effect_counts : (s : SState) (e : Effect) → Allowed s e → count (happens s e) + ended e ≤ count s + begun e
effect_counts s (enlisted tx) allowed =
    let one = length-append s.live (record { tx = tx; locks = []; own = [] } ∷ []) in
    omega (arith, count_is s, count_is (happens s (enlisted tx)), one)
effect_counts s (granted tx p m) allowed = let same = changing_long tx (grant p m) s.live in omega (arith, count_is s, count_is (happens s (granted tx p m)), same)
effect_counts s (written tx c) allowed = let same = changing_long tx (write c) s.live in omega (arith, count_is s, count_is (happens s (written tx c)), same)
effect_counts s (prepared tx) allowed =
    let less = live_shorter tx s.live (alive_of s tx allowed.0 allowed.1) in
    let more = voted_long s tx s.live (now s) in
    let later = now_more s (votes_of s tx s.live) in
    omega (arith, count_is s, count_is (happens s (prepared tx)), less, more, later)
effect_counts s (committed tx n) allowed =
    let less = doubt_less s tx allowed.0 allowed.1 in
    let later = now_more s (item.Commit (record { 0 = tx }) (record { 0 = n }) ∷ []) in
    omega (arith, count_is s, count_is (happens s (committed tx n)), less, later)
effect_counts s (aborted tx) allowed =
    let less = doubt_less s tx allowed.0 allowed.1 in
    let later = now_more s (item.Abort (record { 0 = tx }) ∷ []) in
    omega (arith, count_is s, count_is (happens s (aborted tx)), less, later)
effect_counts s (dropped tx) allowed = let less = live_shorter tx s.live allowed in omega (arith, count_is s, count_is (happens s (dropped tx)), less)
effect_counts s lost allowed = omega (arith, count_is s, count_is (happens s lost))
effect_counts s came_up allowed = omega (arith, count_is s, count_is (happens s came_up))

-- the state behind one effect
one_counts : (s t : SState) (es : List Effect) (e : Effect) → es ≡ e ∷ [] → Steps s es t → count t + ended e ≤ count s + begun e
one_counts s t es e is steps =
    let only = subst (λ (l : List Effect). Steps s l t) is steps in
    let same = ap count only.1 in
    let counts = effect_counts s e only.0 in
    omega (arith, same, counts)

none_counts : (s t : SState) (es : List Effect) → es ≡ [] → Steps s es t → count t ≡ count s
none_counts s t es is steps = ap count (sym (subst (λ (l : List Effect). Steps s l t) is steps))

-- effects that begin no branch
abbrev BeginsNone : Effect → Type 0
BeginsNone e = begun e ≡ 0

steps_count : (s t : SState) (es : List Effect) → Each BeginsNone es → Steps s es t → count t ≤ count s
steps_count s t [] each steps = let same = ap count steps in omega (arith, same)
steps_count s t (e ∷ es) each steps =
    let first = effect_counts s e steps.0 in
    let rest = steps_count (happens s e) t es each.1 steps.1 in
    let none = each.0 in
    omega (arith, first, rest, none)

-- ---- what a request causes

none_begun : (es : List Effect) → es ≡ [] → Each BeginsNone es
none_begun es is = subst (Each BeginsNone) (sym is) tt

one_begun : (es : List Effect) (e : Effect) → begun e ≡ 0 → es ≡ e ∷ [] → Each BeginsNone es
one_begun es e none is = subst (Each BeginsNone) (sym is) (none, tt)

two_begun : (es : List Effect) (e f : Effect) → begun e ≡ 0 → begun f ≡ 0 → es ≡ e ∷ f ∷ [] → Each BeginsNone es
two_begun es e f none nor is = subst (Each BeginsNone) (sym is) (none, (nor, tt))

grants_begun : (tx : ℕ) (rungs : List Held) → Each BeginsNone (grants tx rungs)
grants_begun tx [] = tt
grants_begun tx (l ∷ ls) = (refl, grants_begun tx ls)

lock_begun : (s : SState) (tx : ℕ) (rungs : List Held) (a : Answer) (es : List Effect) → LockCauses s tx rungs a es → Each BeginsNone es
lock_begun s tx rungs answer.Done es is = subst (Each BeginsNone) (sym is) (grants_begun tx rungs)
lock_begun s tx rungs (answer.Blocked p m holders) es is = subst (Each BeginsNone) (sym is.effects) (grants_begun tx is.front)
lock_begun s tx rungs answer.NoMemory es is = subst (Each BeginsNone) (sym is.3) (grants_begun tx is.0)
lock_begun s tx rungs _ es is = none_begun es is

either_begun : (es : List Effect) (e : Effect) → begun e ≡ 0 → ((es ≡ lost ∷ []) ⊎ (es ≡ e ∷ lost ∷ [])) → Each BeginsNone es
either_begun es e none (inl is) = one_begun es lost refl is
either_begun es e none (inr is) = two_begun es e lost none refl is

start_begun : (es : List Effect) → ((es ≡ []) ⊎ (es ≡ came_up ∷ [])) → Each BeginsNone es
start_begun es (inl is) = none_begun es is
start_begun es (inr is) = one_begun es came_up refl is

-- of a request that is no Enlist and ends nothing
abbrev is_plain_request : Request → Bool
is_plain_request (request.Enlist tx) = false
is_plain_request (request.Commit tx n) = false
is_plain_request (request.Rollback tx) = false
is_plain_request request.Stop = false
is_plain_request _ = true

plain_begun : (s : SState) (q : Request) (a : Answer) (es : List Effect) → is_plain_request q ≡ true → Causes s q a es → Each BeginsNone es
plain_begun s (request.Enlist tx) a es plain is = absurd (false≢true plain)
plain_begun s (request.Commit tx n) a es plain is = absurd (false≢true plain)
plain_begun s (request.Rollback tx) a es plain is = absurd (false≢true plain)
plain_begun s request.Stop a es plain is = absurd (false≢true plain)
plain_begun s (request.Lock tx p m) a es plain is = lock_begun s tx.0 (ladder p m) a es is
plain_begun s (request.Write tx c) answer.Done es plain is = one_begun es (written tx.0 c) refl is
plain_begun s (request.Write tx c) _ es plain is = none_begun es is
plain_begun s (request.Prepare tx) (answer.Vote floor) es plain is = one_begun es (prepared tx.0) refl is
plain_begun s (request.Prepare tx) (answer.Fault area) es plain is = either_begun es (prepared tx.0) refl is
plain_begun s (request.Prepare tx) _ es plain is = none_begun es is
plain_begun s request.SyncBegin (answer.Fault area) es plain is = one_begun es lost refl is
plain_begun s request.SyncBegin _ es plain is = none_begun es is
plain_begun s request.SyncFlush (answer.Fault area) es plain is = one_begun es lost refl is
plain_begun s request.SyncFlush _ es plain is = none_begun es is
plain_begun s request.SyncFinish (answer.Fault area) es plain is = one_begun es lost refl is
plain_begun s request.SyncFinish _ es plain is = none_begun es is
plain_begun s request.Start (answer.Started doubts) es plain is = one_begun es came_up refl is
plain_begun s request.Start answer.NoMemory es plain is = start_begun es is
plain_begun s request.Start _ es plain is = none_begun es is
plain_begun s _ a es plain is = none_begun es is

-- ---- the room behind a request

-- each branch has room for its end once the call is entered
abbrev Holds : SState → SState → Request → Answer → ℕ → Type 0
Holds s t q a spare = room_with q (count s + 1) ≤ spare → count t + 1 + entries_of q a ≤ spare

enlist_room : (s t : SState) (tx : Tx) (a : Answer) (es : List Effect) (spare : ℕ) → Causes s (request.Enlist tx) a es → Steps s es t → Holds s t (request.Enlist tx) a spare
enlist_room s t tx answer.Done es spare (inl is) steps fits = let more = one_counts s t es (enlisted tx.0) is.1 steps in omega (arith, more, fits)
enlist_room s t tx answer.Done es spare (inr is) steps fits = let same = none_counts s t es is.1 steps in omega (arith, same, fits)
enlist_room s t tx _ es spare is steps fits = let same = none_counts s t es is steps in omega (arith, same, fits)

commit_room : (s t : SState) (tx : Tx) (n : Number) (a : Answer) (es : List Effect) (spare : ℕ) → is_quiet a ≡ true → RightIn true s (request.Commit tx n) a → Causes s (request.Commit tx n) a es → Steps s es t → Holds s t (request.Commit tx n) a spare
commit_room s t tx n answer.Done es spare quiet right is steps fits = let less = one_counts s t es (committed tx.0 n.0) is steps in omega (arith, less, fits)
commit_room s t tx n (answer.Fault area) es spare quiet right is steps fits = absurd (false≢true quiet)
commit_room s t tx n (answer.Low floor) es spare quiet right is steps fits = let same = none_counts s t es is steps in omega (arith, same, fits)
commit_room s t tx n answer.NotPrepared es spare quiet right is steps fits = let same = none_counts s t es is steps in omega (arith, same, fits)
commit_room s t tx n answer.NoBranch es spare quiet right is steps fits = let same = none_counts s t es is steps in omega (arith, same, fits)
commit_room s t tx n answer.NoMemory es spare quiet right is steps fits = absurd (true≢false right)
commit_room s t tx n _ es spare quiet right is steps fits = absurd right

ended_counts : (s t : SState) (tx : ℕ) (es : List Effect) → ((es ≡ dropped tx ∷ []) ⊎ (es ≡ aborted tx ∷ [])) → Steps s es t → count t + 1 ≤ count s
ended_counts s t tx es (inl is) steps = let less = one_counts s t es (dropped tx) is steps in omega (arith, less)
ended_counts s t tx es (inr is) steps = let less = one_counts s t es (aborted tx) is steps in omega (arith, less)

rollback_room : (s t : SState) (tx : Tx) (a : Answer) (es : List Effect) (spare : ℕ) → is_quiet a ≡ true → RightIn true s (request.Rollback tx) a → Causes s (request.Rollback tx) a es → Steps s es t → Holds s t (request.Rollback tx) a spare
rollback_room s t tx answer.Done es spare quiet right is steps fits = let less = ended_counts s t tx.0 es is steps in omega (arith, less, fits)
rollback_room s t tx (answer.Fault area) es spare quiet right is steps fits = absurd (false≢true quiet)
rollback_room s t tx answer.NoBranch es spare quiet right is steps fits = let same = none_counts s t es is steps in omega (arith, same, fits)
rollback_room s t tx answer.NoMemory es spare quiet right is steps fits = absurd (true≢false right)
rollback_room s t tx _ es spare quiet right is steps fits = absurd right

plain_room : (s t : SState) (q : Request) (a : Answer) (es : List Effect) (spare : ℕ) → is_plain_request q ≡ true → Causes s q a es → Steps s es t → Holds s t q a spare
plain_room s t (request.Enlist tx) a es spare plain is steps fits = absurd (false≢true plain)
plain_room s t (request.Commit tx n) a es spare plain is steps fits = absurd (false≢true plain)
plain_room s t (request.Rollback tx) a es spare plain is steps fits = absurd (false≢true plain)
plain_room s t request.Stop a es spare plain is steps fits = absurd (false≢true plain)
plain_room s t q a es spare plain is steps fits = let less = steps_count s t es (plain_begun s q a es plain is) steps in omega (arith, less, fits)

pub room_behind : (s t : SState) (q : Request) (a : Answer) (spare : ℕ) → s.up ≡ true → (q ≡ request.Stop → ⊥) → is_quiet a ≡ true → Turns s (asking q a) t → Holds s t q a spare
room_behind s t (request.Enlist tx) a spare up no_stop quiet turn = enlist_room s t tx a turn.effects spare turn.causes turn.steps
room_behind s t (request.Commit tx n) a spare up no_stop quiet turn = commit_room s t tx n a turn.effects spare quiet (subst (λ (b : Bool). RightIn b s (request.Commit tx n) a) up turn.right) turn.causes turn.steps
room_behind s t (request.Rollback tx) a spare up no_stop quiet turn = rollback_room s t tx a turn.effects spare quiet (subst (λ (b : Bool). RightIn b s (request.Rollback tx) a) up turn.right) turn.causes turn.steps
room_behind s t request.Stop a spare up no_stop quiet turn = absurd (no_stop refl)
room_behind s t q a spare up no_stop quiet turn = plain_room s t q a turn.effects spare refl turn.causes turn.steps
