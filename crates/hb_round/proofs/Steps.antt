-- The steps of a round keep what is to be said.
use Rattle.std.proofs.Common.{◌≡◌, ℕ, true, false, List, [], ◌∷◌, ◌++◌, Ok, Err, Some, None, ap, sym, ◌∙◌, subst}
use Rattle.std.proofs.lemmas.List.Elements.{All-nil, All-cons, All-append}
use Rattle.hb_types.specs.declared.answer.Answer.{Answer}
use Rattle.hb_types.specs.declared.change.Stored.{Stored}
use Rattle.hb_types.specs.Calls.{IsAnswer}
use Rattle.hb_types.specs.Rows.{IsRow}
use Rattle.hb_model.specs.declared.reply.Reply.{Reply}
use Rattle.hb_talk.specs.Talk.{Talk, says, Use}
use Rattle.hb_access.specs.declared.access.Next.{Next}
use Rattle.hb_access.specs.declared.access.Taken.TheVariants as accessed
use Rattle.hb_access.specs.declared.goal.Goal.{Goal}
use Rattle.hb_access.specs.declared.goal.Got.{Got}
use Rattle.hb_access.specs.declared.goal.Got.TheVariants as got
use Rattle.hb_access.specs.declared.usage.Usage.{Usage}
use Rattle.hb_access.specs.Accesses.{Accessing, use_of, locked, keeps_nodes}
use Rattle.hb_access.specs.Accesses as access
use Rattle.hb_access.proofs.Nodes.{goes_on}
use Rattle.hb_round.specs.declared.round.Taken.{Taken}
use Rattle.hb_round.specs.declared.round.Taken.TheVariants as taken
use Rattle.hb_round.specs.declared.sweep.Sweep.{Sweep}
use Rattle.hb_round.specs.declared.sweep.Swept.{Swept}
use Rattle.hb_round.specs.declared.sweep.Swept.TheVariants as swept
use Rattle.hb_round.specs.Onward.{Ends, onward}
use Rattle.hb_round.specs.Sweeps.{gathering, goal_in, came_in, came_of}
use Rattle.hb_round.specs.Rounds.{Rounding, NextIs, Hears, GoesWith, GoesOn, Gathers, BringsRows, AreRows, Begins, behind, then_on, now_talks, now_hears, now_uses, rolls}
use Rattle.hb_round.proofs.Onwards.{asks_on, access_asks, says_on, refused_on}

pub next_on : (old r : Rounding) (new : Accessing) (n : Next) → r ≡ old → access.NextIs r.access new n → NextIs old (record r { access = new }) n
next_on old r new n is h =
    subst (λ o. NextIs o (record r { access = new }) n) is
    (asks_on (then_on r) (access.now_talks r.access) (access.now_hears new) (access.is_waiting new.stage) (use_of new.usage) n (access_asks r.access new n h))

-- ---- in an area

-- the access in an area, and then the others, is the gathering
pub in_area : (s : Sweep) (area : ℕ) (areas more : List ℕ) (rows : List Stored) (u : Use) (t : Talk (Ends Got)) (g : Goal)
    → t ≡ locked g u → g ≡ goal_in s area → areas ≡ area ∷ more → onward (behind s area more rows) t ≡ gathering s areas rows u
unfolding onward gathering behind
in_area s area areas more rows u t g talk goal is =
    ap (onward (behind s area more rows)) (talk ∙ ap (λ g. locked g u) goal) ∙ ap (λ ars. gathering s ars rows u) (sym is)

pub begins : (u : Usage) (s : Sweep) (area : ℕ) (areas more : List ℕ) (rows : List Stored) (a : Accessing) (g : Goal)
    → areas ≡ area ∷ more → g ≡ goal_in s area → rows ≡ [] → a.usage ≡ u → access.is_asking a.stage ≡ true → access.now_talks a ≡ locked g (use_of u)
    → Begins u s areas (record { access = a; sweep = s; area = area; areas = more; rows = rows })
begins u s area areas more rows a g is goal none usage asking talk = record {
  asking = asking;
  talk = in_area s area areas more rows (use_of u) (access.now_talks a) g talk goal is ∙ ap (λ rs. gathering s areas rs (use_of u)) none;
  usage = usage;
  rows = none;
}

pub enters : (old r : Rounding) (a : Accessing) (area : ℕ) (more : List ℕ) (g : Goal) (u : Usage) → r ≡ old → r.areas ≡ area ∷ more → g ≡ goal_in r.sweep area
    → u ≡ r.access.usage → a.usage ≡ u → access.is_asking a.stage ≡ true → access.now_talks a ≡ locked g (use_of u)
    → GoesOn old (record { access = a; sweep = r.sweep; area = area; areas = more; rows = r.rows }) taken.More
enters old r a area more g u is areas goal its usage asking talk = record {
  goes = (
    asking,
    subst (λ o. gathering o.sweep o.areas o.rows (now_uses o) ≡ onward (behind r.sweep area more r.rows) (access.now_talks a)) is
        (sym (in_area r.sweep area r.areas more r.rows (now_uses r) (access.now_talks a) g (talk ∙ ap (λ v. locked g (use_of v)) its) goal areas)),
  );
  usage = usage ∙ its ∙ ap (λ o. o.access.usage) is;
  rows = λ rows. subst AreRows (sym (ap (λ o. o.rows) is)) rows;
}

at_end : (s : Sweep) (areas : List ℕ) (rows : List Stored) (u : Use) → areas ≡ [] → gathering s areas rows u ≡ says (Ok rows, u)
unfolding gathering
at_end s areas rows u none = ap (λ ars. gathering s ars rows u) none

pub leaves : (old r new : Rounding) (rows : List Stored) → r ≡ old → r.areas ≡ [] → rows ≡ r.rows → new.access ≡ r.access → GoesOn old new (taken.Came rows)
leaves old r new rows is none found same = record {
  goes = subst (λ o. gathering o.sweep o.areas o.rows (now_uses o) ≡ says (Ok rows, now_uses new)) is
      (at_end r.sweep r.areas r.rows (now_uses r) none ∙ ap (λ rs. says (Ok rs, now_uses r)) (sym found) ∙ ap (λ a. says (Ok rows, use_of a.usage)) (sym same));
  usage = ap (λ a. a.usage) same ∙ ap (λ o. o.access.usage) is;
  rows = λ rows. subst AreRows (sym (found ∙ ap (λ o. o.rows) is)) rows;
}

-- ---- what came of an area

gathered_rows : (old r new : Rounding) (rows came : List Stored) (t : Taken) → r ≡ old → rows ≡ r.rows ++ came → BringsRows (record r { rows = rows }) new t → AreRows came → BringsRows old new t
gathered_rows old r new rows came taken.More is with brings are =
    λ before. brings (subst AreRows (sym with) (All-append (λ s. IsRow s.row) r.rows came (subst AreRows (sym (ap (λ o. o.rows) is)) before) are))
gathered_rows old r new rows came (taken.Came all) is with brings are =
    λ before. brings (subst AreRows (sym with) (All-append (λ s. IsRow s.row) r.rows came (subst AreRows (sym (ap (λ o. o.rows) is)) before) are))
gathered_rows old r new rows came (taken.Refused e) is with brings are = tt

pub gathers : (old r new : Rounding) (rows : List Stored) (g : Got) (t : Taken) → r ≡ old → rows ≡ r.rows ++ came_in r.sweep r.area g
    → GoesOn (record r { rows = rows }) new t → Gathers old new g t
unfolding behind
gathers old r new rows g t is with on = record {
  goes = subst (λ o. GoesWith (then_on o g (now_uses o)) new t) is
      (subst (λ rs. GoesWith (gathering r.sweep r.areas rs (now_uses r)) new t) with on.goes);
  usage = on.usage ∙ ap (λ o. o.access.usage) is;
  rows = λ are. gathered_rows old r new rows (came_in r.sweep r.area g) t is with on.rows (subst (λ o. AreRows (came_in o.sweep o.area g)) (sym is) are);
}

-- ---- answers

pub more_heard : (old r : Rounding) (new : Accessing) (a : Answer) → r ≡ old → access.Hears r.access new a accessed.More → Hears old (record r { access = new }) a taken.More
more_heard old r new a is h =
    (h.0, subst (λ o. now_hears o a ≡ now_talks (record r { access = new })) is (ap (onward (then_on r)) h.1))

pub refused_heard : (old r : Rounding) (new : Accessing) (a : Answer) (e : Reply) → r ≡ old → access.Hears r.access new a (accessed.Refused e)
    → Hears old (record r { access = new }) a (taken.Refused e)
refused_heard old r new a e is h = λ _.
    subst (λ o. now_hears o a ≡ says (Err e, use_of new.usage)) is (ap (onward (then_on r)) h ∙ refused_on (then_on r) e (use_of new.usage))

pub came_heard : (old r new : Rounding) (next : Accessing) (a : Answer) (g : Got) (t : Taken) → r ≡ old → access.Hears r.access next a (accessed.Came g)
    → Gathers (record r { access = next }) new g t → Hears old new a t
came_heard old r new next a g t is h gathers =
    subst (λ o. GoesWith (now_hears o a) new t) is
    (subst (λ talk. GoesWith talk new t) (sym (ap (onward (then_on r)) h ∙ says_on (then_on r) g (use_of next.usage))) gathers.goes)

row_there : (p : Stored) → IsRow p.row → AreRows (p ∷ [])
row_there p is = All-cons (λ s. IsRow s.row) p [] is (All-nil (λ s. IsRow s.row))

none_there : AreRows []
none_there = All-nil (λ s. IsRow s.row)

brings : (w : Swept) (table area : ℕ) (a : Answer) (g : Got) → access.Brings a (accessed.Came g) → IsAnswer a → AreRows (came_of w table area g)
brings (swept.Row key) table area a (got.Row None) is are = none_there
brings (swept.Row key) table area a (got.Row (Some row)) is are = row_there _ (subst IsAnswer is are)
brings (swept.Row key) table area a (got.Rows rows) is are = none_there
brings (swept.Row key) table area a got.Nothing is are = none_there
brings swept.Rows table area a (got.Row row) is are = none_there
brings swept.Rows table area a (got.Rows rows) is are = subst IsAnswer is are
brings swept.Rows table area a got.Nothing is are = none_there
brings swept.Lock table area a g is are = none_there

pub came_brings : (old r new : Rounding) (next : Accessing) (a : Answer) (g : Got) (t : Taken) → r ≡ old → access.Brings a (accessed.Came g)
    → Gathers (record r { access = next }) new g t → IsAnswer a → BringsRows old new t
came_brings old r new next a g t is b gathers are =
    subst (λ o. BringsRows o new t) is (of_rows t (gathers.rows (brings r.sweep.swept r.sweep.table r.area a g b are)))
  where
    of_rows : (t : Taken) → BringsRows (record r { access = next }) new t → BringsRows r new t
    of_rows taken.More h = h
    of_rows (taken.Came rows) h = h
    of_rows (taken.Refused e) h = tt

-- ---- nodes

pub came_keeps : (old r new : Rounding) (next : Accessing) (g : Got) (t : Taken) → r ≡ old → keeps_nodes r.access.usage.used.0 next.usage.used.0 false ≡ true
    → Gathers (record r { access = next }) new g t → keeps_nodes old.access.usage.used.0 new.access.usage.used.0 (rolls t) ≡ true
came_keeps old r new next g t is kept gathers =
    subst (λ o. keeps_nodes o.access.usage.used.0 new.access.usage.used.0 (rolls t) ≡ true) is
    (goes_on r.access.usage.used.0 next.usage.used.0 new.access.usage.used.0 (rolls t) kept (ap (λ u. u.used.0) gathers.usage))
