-- A round through areas: what is still to be said, and what follows an answer.
use Rattle.std.specs.Prelude.{◌≡◌, ◌≢◌, ℕ, Bool, true, false, All, List, [], ◌++◌, Ok, Err, ⊤}
use Rattle.hb_types.specs.declared.answer.Answer.{Answer}
use Rattle.hb_types.specs.declared.change.Stored.{Stored}
use Rattle.hb_types.specs.Rows.{IsRow}
use Rattle.hb_model.specs.declared.reply.Reply.TheVariants as reply
use Rattle.hb_talk.specs.Sessions.{rolls_back}
use Rattle.hb_talk.specs.Talk.{Talk, says, Use, Planning}
use Rattle.hb_access.specs.declared.access.Next.{Next}
use Rattle.hb_access.specs.declared.goal.Got.{Got}
use Rattle.hb_access.specs.declared.usage.Usage.{Usage}
use Rattle.hb_access.specs.Accesses.{Accessing, use_of}
use Rattle.hb_access.specs.Accesses as access
use Rattle.hb_round.specs.declared.round.Taken.{Taken}
use Rattle.hb_round.specs.declared.round.Taken.TheVariants as taken
use Rattle.hb_round.specs.declared.sweep.Sweep.{Sweep}
use Rattle.hb_round.specs.Onward.{Ends, onward, Asks}
use Rattle.hb_round.specs.Sweeps.{came_in, gathering}

-- the access in progress, what is wanted, in which area and in which areas then, and the rows found
pub record Rounding : Type 0 where
  pub access : Accessing
  pub sweep : Sweep
  pub area : ℕ
  pub areas : List ℕ
  pub rows : List Stored

abbrev pub is_asking : Rounding → Bool
is_asking r = access.is_asking r.access.stage

abbrev pub is_waiting : Rounding → Bool
is_waiting r = access.is_waiting r.access.stage

-- what follows the access in progress
unfoldable pub behind : Sweep → ℕ → List ℕ → List Stored → Got → Planning (List Stored)
behind s area areas rows g = gathering s areas (rows ++ came_in s area g)

abbrev pub then_on : Rounding → Got → Planning (List Stored)
then_on r = behind r.sweep r.area r.areas r.rows

-- what is still to be said, where no answer is awaited
abbrev pub now_talks : Rounding → Talk (Ends (List Stored))
now_talks r = onward (then_on r) (access.now_talks r.access)

-- what follows the answer that is awaited
abbrev pub now_hears : Rounding → Answer → Talk (Ends (List Stored))
now_hears r a = onward (then_on r) (access.now_hears r.access a)

abbrev pub now_uses : Rounding → Use
now_uses r = use_of r.access.usage

abbrev pub NextIs : Rounding → Rounding → Next → Type 0
NextIs old new n = Asks (now_talks old) (now_hears new) (is_waiting new) (now_uses new) n

-- a round begins as the plan does
pub record Begins (u : Usage) (s : Sweep) (areas : List ℕ) (r : Rounding) : Type 0 where
  pub asking : is_asking r ≡ true
  pub talk : now_talks r ≡ gathering s areas [] (use_of u)
  pub usage : r.access.usage ≡ u
  pub rows : r.rows ≡ []

-- how a round goes on with what is to be said: want of memory alone may end it at any place
abbrev pub GoesWith : Talk (Ends (List Stored)) → Rounding → Taken → Type 0
GoesWith talk new taken.More = (is_asking new ≡ true) × (talk ≡ now_talks new)
GoesWith talk new (taken.Came rows) = talk ≡ says (Ok rows, now_uses new)
GoesWith talk new (taken.Refused r) = r ≢ reply.NoMemory → talk ≡ says (Err r, now_uses new)

-- after an answer the round stands where its talk does
abbrev pub Hears : Rounding → Rounding → Answer → Taken → Type 0
Hears old new a t = GoesWith (now_hears old a) new t

-- whether an answer was one that rolls the transaction back
abbrev pub rolls : Taken → Bool
rolls taken.More = false
rolls (taken.Came rows) = false
rolls (taken.Refused r) = rolls_back r

-- ---- rows in the grammar

abbrev pub AreRows : List Stored → Type 0
AreRows rows = All (λ r. IsRow r.row) rows

-- the rows found stay rows
abbrev pub BringsRows : Rounding → Rounding → Taken → Type 0
BringsRows old new taken.More = AreRows old.rows → AreRows new.rows
BringsRows old new (taken.Came rows) = AreRows old.rows → AreRows rows
BringsRows old new (taken.Refused r) = ⊤

-- ---- steps

-- what goes on once the rows are found
pub record GoesOn (old new : Rounding) (t : Taken) : Type 0 where
  pub goes : GoesWith (gathering old.sweep old.areas old.rows (now_uses old)) new t
  pub usage : new.access.usage ≡ old.access.usage
  pub rows : BringsRows old new t

-- what goes on with what came of an area
pub record Gathers (old new : Rounding) (g : Got) (t : Taken) : Type 0 where
  pub goes : GoesWith (then_on old g (now_uses old)) new t
  pub usage : new.access.usage ≡ old.access.usage
  pub rows : AreRows (came_in old.sweep old.area g) → BringsRows old new t
