-- A run of one server over empty disks: two transactions, a wait, a vote, and two commits.
use Rattle.std.proofs.Common.{◌≢◌, ℕ, pos, List, [], ◌∷◌, Some, refl, inl, inr, lit≤, lit<, arith}
use Rattle.std.proofs.lemmas.Bool.{false≢true}
use Rattle.hb_types.specs.declared.change.Change.{Change}
use Rattle.hb_types.specs.declared.lock.Held.{Held}
use Rattle.hb_types.specs.declared.lock.Mode.TheVariants as mode
use Rattle.hb_types.specs.declared.names.Tx.{Tx}
use Rattle.hb_types.specs.declared.names.Number.{Number}
use Rattle.hb_types.specs.declared.places.Path.{Path}
use Rattle.hb_types.specs.declared.places.Path.TheVariants as path
use Rattle.hb_types.specs.declared.places.Place.{Place}
use Rattle.hb_types.specs.declared.answer.Answer.{Answer}
use Rattle.hb_types.specs.declared.answer.Answer.TheVariants as answer
use Rattle.hb_types.specs.declared.request.Request.{Request}
use Rattle.hb_types.specs.declared.request.Request.TheVariants as request
use Rattle.hb_types.specs.Ladders.{ladder}
use Rattle.hb_disks.specs.Redo.{nothing}
use Rattle.hb_disks.specs.LogRules.{LocksAgree}
use Rattle.hb_runs.specs.Server.{SState, Branch, IsUnended}
use Rattle.hb_runs.specs.ServerEffects.{enlisted, written, prepared, committed, came_up, happens, after_all, grant, write}
use Rattle.hb_runs.specs.ServerCauses.{grants, IsBlocked, AreHolders}
use Rattle.hb_runs.specs.ServerRuns.{Asked, Turns, Run, stopped_at}
use Rattle.hb_serverlaws.proofs.Locks.{IsFit, IsLocked, Of, run_locked}

abbrev pub place : Place
place = record { space = record { area = 257; table = 1 }; group = 0; key = pos 7 }

abbrev pub key : Path
key = path.Key place

abbrev pub row : List ℕ
row = 1 ∷ 1 ∷ 1 ∷ 7 ∷ 0 ∷ 0 ∷ 0 ∷ []

abbrev pub change : Change
change = record { place = place; row = Some row }

abbrev pub t1 : Tx
t1 = record { 0 = 1 }

abbrev pub t2 : Tx
t2 = record { 0 = 2 }

abbrev pub number : ℕ → Number
number n = record { 0 = n }

abbrev pub asking : Request → Answer → Asked
asking q a = record { request = q; answer = a }

-- the front of the second ladder that is granted at first
abbrev front : List Held
front = record { path = path.Whole place.space; mode = mode.IS } ∷ record { path = path.Group place.space 0; mode = mode.IS } ∷ []

abbrev asked : List Asked
asked =
    asking request.Start (answer.Started [])
    ∷ asking (request.Enlist t1) answer.Done
    ∷ asking (request.Enlist t2) answer.Done
    ∷ asking (request.Lock t1 key mode.X) answer.Done
    ∷ asking (request.Lock t2 key mode.S) (answer.Blocked key mode.S (record { tx = t1; mode = mode.X } ∷ []))
    ∷ asking (request.Write t1 change) answer.Done
    ∷ asking (request.Prepare t1) (answer.Vote (number 0))
    ∷ asking (request.Commit t1 (number 5)) answer.Done
    ∷ asking (request.Lock t2 key mode.S) answer.Done
    ∷ asking (request.Read t2 place) (answer.Row (Some row))
    ∷ asking (request.Prepare t2) (answer.Vote (number 5))
    ∷ asking (request.Commit t2 (number 5)) (answer.Low (number 5))
    ∷ asking (request.Commit t2 (number 6)) answer.Done ∷ []

-- ---- the states

abbrev pub s0 : SState
s0 = stopped_at nothing 0

abbrev pub s1 : SState
s1 = happens s0 came_up

abbrev pub s2 : SState
s2 = happens s1 (enlisted 1)

abbrev pub s3 : SState
s3 = happens s2 (enlisted 2)

abbrev pub s4 : SState
s4 = after_all s3 (grants 1 (ladder key mode.X))

abbrev pub s5 : SState
s5 = after_all s4 (grants 2 front)

abbrev pub s6 : SState
s6 = happens s5 (written 1 change)

abbrev pub s7 : SState
s7 = happens s6 (prepared 1)

abbrev pub s8 : SState
s8 = happens s7 (committed 1 5)

abbrev pub s9 : SState
s9 = after_all s8 (grants 2 (ladder key mode.S))

abbrev pub s10 : SState
s10 = happens s9 (prepared 2)

abbrev pub s11 : SState
s11 = happens s10 (committed 2 6)

-- ---- the branches

abbrev whole : Path
whole = path.Whole place.space

abbrev group : Path
group = path.Group place.space 0

abbrev b1 : Branch
b1 = record { tx = 1; locks = []; own = [] }

abbrev w1 : Branch
w1 = grant whole mode.IX b1

abbrev g1 : Branch
g1 = grant group mode.IX w1

abbrev k1 : Branch
k1 = grant key mode.X g1

abbrev b2 : Branch
b2 = record { tx = 2; locks = []; own = [] }

abbrev w2 : Branch
w2 = grant whole mode.IS b2

abbrev g2 : Branch
g2 = grant group mode.IS w2

abbrev w3 : Branch
w3 = grant whole mode.IS g2

abbrev g3 : Branch
g3 = grant group mode.IS w3

abbrev k3 : Branch
k3 = grant key mode.S g3

-- ---- the turns

abbrev pub is_one : ◌≢◌ {A = ℕ} 1 2
is_one e = omega arith

pub two_one : ◌≢◌ {A = ℕ} 2 1
two_one e = omega arith

own : {A : Type 0} (n : ℕ) → (◌≢◌ {A = ℕ} n n) → A
own n f = absurd (f refl)

start : Turns s0 (asking request.Start (answer.Started [])) s1
start = record { effects = came_up ∷ []; causes = refl; right = refl; steps = (refl, refl) }

no_one : IsUnended s1 1 → ⊥
no_one h = h

enlist1 : Turns s1 (asking (request.Enlist t1) answer.Done) s2
enlist1 = record { effects = enlisted 1 ∷ []; causes = inl (no_one, refl); right = tt; steps = (no_one, refl) }

no_two : IsUnended s2 2 → ⊥
no_two (inl e) = is_one e
no_two (inr h) = h

enlist2 : Turns s2 (asking (request.Enlist t2) answer.Done) s3
enlist2 = record { effects = enlisted 2 ∷ []; causes = inl (no_two, refl); right = tt; steps = (no_two, refl) }

lock1 : Turns s3 (asking (request.Lock t1 key mode.X) answer.Done) s4
lock1 = record {
  effects = grants 1 (ladder key mode.X);
  causes = refl;
  right = inl refl;
  steps = (
    (b1, (inl refl, refl), tt, (λ n. own 1 n, (λ n. tt, tt))),
    (
      (w1, (inl refl, refl), (inl refl, tt), (λ n. own 1 n, (λ n. tt, tt))),
      ((g1, (inl refl, refl), (inl refl, (inr (inl refl), tt)), (λ n. own 1 n, (λ n. tt, tt))), refl),
    ),
  );
}

in_the_way : AreHolders s5 2 (record { path = key; mode = mode.S }) (record { tx = t1; mode = mode.X } ∷ [])
in_the_way =
    record {
      some = λ e. cc;
      each = (inl (refl, is_one, inr (inr (inl (refl, refl)))), tt);
      all = (λ n. (λ t. absurd (false≢true t), (λ t. absurd (false≢true t), (λ t. inl (refl, refl), tt))), (λ n. own 2 n, tt));
    }

is_blocked : IsBlocked s4 2 (ladder key mode.S) key mode.S (record { tx = t1; mode = mode.X } ∷ []) (grants 2 front)
is_blocked =
    record {
      front = front;
      rung = record { path = key; mode = mode.S };
      back = [];
      branch = g2;
      parts = refl;
      effects = refl;
      live = (inr (inl refl), refl);
      told = refl;
      in_the_way = in_the_way;
    }

blocked : Turns s4 (asking (request.Lock t2 key mode.S) (answer.Blocked key mode.S (record { tx = t1; mode = mode.X } ∷ []))) s5
blocked = record {
  effects = grants 2 front;
  causes = is_blocked;
  right = inr (inl refl);
  steps = (
    (b2, (inr (inl refl), refl), tt, (λ n. ((refl, tt), ((refl, tt), ((refl, tt), tt))), (λ n. own 2 n, tt))),
    ((w2, (inr (inl refl), refl), (inl refl, tt), (λ n. ((refl, tt), ((refl, tt), ((refl, tt), tt))), (λ n. own 2 n, tt))), refl),
  );
}

write1 : Turns s5 (asking (request.Write t1 change) answer.Done) s6
write1 = record { effects = written 1 change ∷ []; causes = refl; right = tt; steps = ((k1, (inl refl, refl), inl (inr (inr (inl refl)))), refl) }

prepare1 : Turns s6 (asking (request.Prepare t1) (answer.Vote (number 0))) s7
prepare1 = record { effects = prepared 1 ∷ []; causes = refl; right = refl; steps = ((write change k1, (inl refl, refl), (lit≤ tt, lit≤ tt)), refl) }

commit1 : Turns s7 (asking (request.Commit t1 (number 5)) answer.Done) s8
commit1 = record { effects = committed 1 5 ∷ []; causes = refl; right = tt; steps = ((0, inl (refl, refl), lit< tt), refl) }

lock2 : Turns s8 (asking (request.Lock t2 key mode.S) answer.Done) s9
lock2 = record {
  effects = grants 2 (ladder key mode.S);
  causes = refl;
  right = inl refl;
  steps = (
    (g2, (inl refl, refl), tt, (λ n. own 2 n, tt)),
    (
      (w3, (inl refl, refl), (inl refl, tt), (λ n. own 2 n, tt)),
      ((g3, (inl refl, refl), (inl refl, (inr (inl refl), tt)), (λ n. own 2 n, tt)), refl),
    ),
  );
}

read2 : Turns s9 (asking (request.Read t2 place) (answer.Row (Some row))) s9
read2 = record { effects = []; causes = refl; right = record { branch = k3; live = (inl refl, refl); covered = inl (inr (inr (inl refl))); shows = refl }; steps = refl }

prepare2 : Turns s9 (asking (request.Prepare t2) (answer.Vote (number 5))) s10
prepare2 = record { effects = prepared 2 ∷ []; causes = refl; right = refl; steps = ((k3, (inl refl, refl), (lit≤ tt, lit≤ tt)), refl) }

low : Turns s10 (asking (request.Commit t2 (number 5)) (answer.Low (number 5))) s10
low = record { effects = []; causes = refl; right = (inl (refl, refl), lit≤ tt); steps = refl }

commit2 : Turns s10 (asking (request.Commit t2 (number 6)) answer.Done) s11
commit2 = record { effects = committed 2 6 ∷ []; causes = refl; right = tt; steps = ((5, inl (refl, refl), lit< tt), refl) }

pub worked_list : Run s0 asked s11
worked_list =
    (s1, start, (s2, enlist1, (s3, enlist2, (s4, lock1, (s5, blocked, (s6, write1, (s7, prepare1, (s8, commit1, (s9, lock2, (s9, read2, (s10, prepare2, (s10, low, (s11, commit2, refl)))))))))))))

-- a server that starts with no doubts has no locks
none_locked : IsLocked s0
none_locked =
    record {
      unique = λ b c i j e. absurd i;
      split = λ b d i j. absurd i;
      agree = λ b c i j n. nobody b (λ k. LocksAgree k c.locks) i;
      fit = λ b i. nobody_fit b i;
    }
  where
    nobody : (b : Branch) (P : List Held → Type 0) → Of [] [] b → P b.locks
    nobody b P (inl h) = absurd h
    nobody b P (inr h) = absurd h

    nobody_fit : (b : Branch) → Of [] [] b → IsFit b
    nobody_fit b (inl h) = absurd h
    nobody_fit b (inr h) = absurd h

pub worked_list_locked : IsLocked s11
worked_list_locked = run_locked s0 asked s11 worked_list none_locked
