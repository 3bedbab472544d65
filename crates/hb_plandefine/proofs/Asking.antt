-- Steps of a plan: what a refusal stops, and what is asked next with what follows it.
use Rattle.std.proofs.Common.{◌≡◌, ℕ, true, false, List, Option, Some, None, Err, Result, IfOk, ap, sym, ◌∙◌, subst}
use Rattle.hb_types.specs.declared.change.Stored.{Stored}
use Rattle.hb_types.specs.declared.lock.Mode.{Mode}
use Rattle.hb_types.specs.declared.lock.Mode.TheVariants as mode
use Rattle.hb_types.specs.declared.memory.NoMemory.{NoMemory}
use Rattle.hb_types.specs.declared.places.Path.TheVariants as path
use Rattle.hb_model.specs.declared.reply.Reply.{Reply}
use Rattle.hb_model.specs.Spots.{ds, dictionary_space}
use Rattle.hb_talk.specs.Talk.{Talk, says, going_on, Use, Planning, ◌>>=◌, ◌>>◌, and_then, refuse, lock, scan, scan_group}
use Rattle.hb_access.specs.declared.goal.Goal.{Goal}
use Rattle.hb_access.specs.declared.goal.Got.{Got}
use Rattle.hb_access.specs.declared.goal.Got.TheVariants as got
use Rattle.hb_access.specs.Accesses.{Ended, locked}
use Rattle.hb_access.proofs.Bridges.{reads_space, reads_group, locks_only}
use Rattle.hb_access.proofs.Sequences.{plans_assoc}
use Rattle.hb_writes.specs.Writings.{Replied}
use Rattle.hb_plandefine.specs.declared.stage.Went.{Went}
use Rattle.hb_plandefine.specs.Defines.{Goes}

-- ---- refusals

pub stops : (o : Option Reply) (r : Reply) (q : Planning Reply) (u : Use) → o ≡ Some r → (refuse o >> q) u ≡ says (Err r, u)
stops o r q u is = ap (λ (p : Option Reply). (refuse p >> q) u) is

pub passes : (o : Option Reply) (q : Planning Reply) (u : Use) → o ≡ None → (refuse o >> q) u ≡ q u
passes o q u is = ap (λ (p : Option Reply). (refuse p >> q) u) is

pub goes_on : (o : Option Reply) (q : Planning Reply) (u : Use) (w : Went) → o ≡ None → Goes (q u) w → Goes ((refuse o >> q) u) w
goes_on o q u w is goes = subst (λ (t : Talk Replied). Goes t w) (sym (passes o q u is)) goes

pub goes_on_if_ok : (o : Option Reply) (q : Planning Reply) (u : Use) (r : Result Went NoMemory) → o ≡ None → IfOk r (Goes (q u)) → IfOk r (Goes ((refuse o >> q) u))
goes_on_if_ok o q u r is goes = subst (λ (t : Talk Replied). IfOk r (Goes t)) (sym (passes o q u is)) goes

-- ---- what is asked

-- what follows what is asked
abbrev pub follow : (Got → Planning Reply) → Talk Ended → Talk Replied
follow F t = going_on (λ r. and_then F r.1 r.0) t

abbrev pub rows_goal : ℕ → Mode → Goal
rows_goal t m = record { node = record { 0 = ds }; path = path.Whole (dictionary_space t); mode = m; reads = true }

abbrev pub group_goal : ℕ → ℕ → Goal
group_goal t g = record { node = record { 0 = ds }; path = path.Group (dictionary_space t) g; mode = mode.X; reads = true }

abbrev pub lock_goal : ℕ → ℕ → Goal
lock_goal t g = record { node = record { 0 = ds }; path = path.Group (dictionary_space t) g; mode = mode.X; reads = false }

asks_goal : (F : Got → Planning Reply) (g h : Goal) (u : Use) (now : Talk Ended) → g ≡ h → now ≡ locked g u → (locked h >>= F) u ≡ follow F now
asks_goal F g h u now same is = ap (λ (t : Talk Ended). follow F t) (sym (is ∙ ap (λ (x : Goal). locked x u) same))

-- the rows of a space
pub asks_rows : (t : ℕ) (m : Mode) (k : List Stored → Planning Reply) (F : Got → Planning Reply) → ((rows : List Stored) (v : Use) → k rows v ≡ F (got.Rows rows) v)
    → (g : Goal) (u : Use) (now : Talk Ended) → g ≡ rows_goal t m → now ≡ locked g u
    → (lock ds (path.Whole (dictionary_space t)) m >> (scan ds (dictionary_space t) >>= k)) u ≡ follow F now
asks_rows t m k F h g u now same is = reads_space (record { 0 = ds }) (dictionary_space t) m k F h u ∙ asks_goal F g (rows_goal t m) u now same is

-- the same, grouped as a part of its own
pub asks_part : (t : ℕ) (m : Mode) (k : List Stored → Planning Reply) (F : Got → Planning Reply) → ((rows : List Stored) (v : Use) → k rows v ≡ F (got.Rows rows) v)
    → (g : Goal) (u : Use) (now : Talk Ended) → g ≡ rows_goal t m → now ≡ locked g u
    → ((lock ds (path.Whole (dictionary_space t)) m >> scan ds (dictionary_space t)) >>= k) u ≡ follow F now
asks_part t m k F h g u now same is =
    plans_assoc (lock ds (path.Whole (dictionary_space t)) m) (λ _. scan ds (dictionary_space t)) k u ∙ asks_rows t m k F h g u now same is

-- the rows of a table in a space
pub asks_group : (t n : ℕ) (k : List Stored → Planning Reply) (F : Got → Planning Reply) → ((rows : List Stored) (v : Use) → k rows v ≡ F (got.Rows rows) v)
    → (g : Goal) (u : Use) (now : Talk Ended) → g ≡ group_goal t n → now ≡ locked g u
    → (lock ds (path.Group (dictionary_space t) n) mode.X >> (scan_group ds (dictionary_space t) n >>= k)) u ≡ follow F now
asks_group t n k F h g u now same is = reads_group (record { 0 = ds }) (dictionary_space t) n mode.X k F h u ∙ asks_goal F g (group_goal t n) u now same is

-- a lock alone
pub asks_lock : (t n : ℕ) (k : Planning Reply) (F : Got → Planning Reply) → ((v : Use) → k v ≡ F got.Nothing v)
    → (g : Goal) (u : Use) (now : Talk Ended) → g ≡ lock_goal t n → now ≡ locked g u
    → (lock ds (path.Group (dictionary_space t) n) mode.X >> k) u ≡ follow F now
asks_lock t n k F h g u now same is = locks_only (record { 0 = ds }) (path.Group (dictionary_space t) n) mode.X k F h u ∙ asks_goal F g (lock_goal t n) u now same is
