-- The items of a transaction that is begun, statement by statement.
use Rattle.std.proofs.Common.{◌≡◌, ℕ, ◌+◌, ◌≤◌, List, [], ◌∷◌, ◌++◌, Option, None, Result, Ok, Err, Some, Bool, true, false, not, refl, subst, sym, ap, ◌∙◌}
use Rattle.std.specs.Prelude.{IsTrue, ⊤, ◌||◌, ◌≢◌, if◌then◌else◌}
use Rattle.std.proofs.lemmas.Bool.{false≢true}
use Rattle.std.proofs.lemmas.List.{append-nil, append_assoc}
use Rattle.hb_types.specs.declared.names.Owner.{Owner}
use Rattle.hb_types.specs.declared.trail.Call.{Call}
use Rattle.hb_types.specs.Lists.{Each}
use Rattle.hb_types.proofs.Ascending.{Each-append}
use Rattle.hb_model.specs.declared.reply.Reply.{Reply}
use Rattle.hb_model.specs.declared.reply.Reply.TheVariants as reply
use Rattle.hb_model.specs.declared.statement.Statement.{Statement}
use Rattle.hb_model.specs.declared.statement.Statement.TheVariants as statement
use Rattle.hb_model.specs.Answers.{bytes_in, grants_in}
use Rattle.hb_model.specs.Faithful.{Faithful}
use Rattle.hb_model.specs.Items.{Item, Spent, calls_of, spending, sql}
use Rattle.hb_model.specs.Outside.{is_outside, says_undone}
use Rattle.hb_model.specs.Plain.{is_plain}
use Rattle.hb_talk.specs.Ends.{committing, rolling_back}
use Rattle.hb_talk.specs.PlansDefine.{plan}
use Rattle.hb_talk.specs.Sessions.{after, going, rolls_back, with_reply}
use Rattle.hb_talk.specs.Talk.{Talk, Follows, ends, going_on, says, Use}
use Rattle.hb_plancalc.specs.Counted.{IsWithin, reply_in, spent_of}
use Rattle.hb_plancalc.proofs.Plain.{plan_counts}
use Rattle.hb_planlaws.specs.Planned.{most_back_ends}
use Rattle.hb_faithful.specs.Planned.{AreBeside, Closes, Opens, is_planned}
use Rattle.hb_faithful.proofs.Beside.{same_bytes, same_grants}
use Rattle.hb_faithful.proofs.Does.{plan_does}
use Rattle.hb_faithful.proofs.Faithfuls.{plan_faithful}
use Rattle.hb_faithful.proofs.Rolling.{rolling_closes}
use Rattle.hb_faithful.proofs.Telling.{plan_replies, plan_tells_undone}
use Rattle.hb_law.specs.Standing.{leaves_open}
use Rattle.hb_law.specs.Transactions.{AreRight, IsBare, IsBoundItem, IsBoundStatement, IsRightStatement, is_rows, is_select}
use Rattle.hb_itemlaws.specs.Dividing.{AreItemsOf, Given, statements}
use Rattle.hb_itemlaws.proofs.Commits.{bare_beside, committing_tells, outside_undone, tells_more}
use Rattle.hb_itemlaws.specs.Owning.{StartsOwn}
use Rattle.hb_itemlaws.proofs.Owned.{AreQuiet, first_followed, going_first, opens_quiet, own_said, quiet_followed}
use Rattle.hb_itemlaws.proofs.Owning.{settles}
use Rattle.hb_itemlaws.proofs.OwnPlans.{owns_plan}
use Rattle.hb_itemlaws.proofs.Splits.{over, split}
use Rattle.hb_planlocks.proofs.RowLocks.{filter-more}
use Rattle.hb_model.specs.Answers.{is_of_rows, of_rows}

-- ---- one statement

abbrev pub is_commit : Statement → Bool
is_commit statement.Commit = true
is_commit _ = false

-- a faithful statement is right, and so is a COMMIT that tells what was decided
pub right_faithful : (back_ends : ℕ) (spent : Spent) (st : Statement) (calls : List Call) (r : Reply) → IsTrue (not (is_commit st)) → (full : Bool) × Faithful back_ends spent full st calls r
    → IsRightStatement back_ends spent st calls (Some r)
right_faithful back_ends spent statement.Commit calls r other f = absurd (false≢true other)
right_faithful back_ends spent _ calls r other f = f

-- a reply that such a statement may have, whatever its calls were answered
pub record Fits (st : Statement) (r : Reply) : Type 0 where
  pub replied : IsTrue (leaves_open r || says_undone r)
  pub of_select : IsTrue (is_rows r) → IsTrue (is_select st)

-- a right statement with such a reply is right whatever its calls were answered
pub bound_right : (back_ends : ℕ) (spent : Spent) (st : Statement) (calls : List Call) (r : Reply) → IsRightStatement back_ends spent st calls (Some r) → (IsTrue (not (is_commit st)) → Fits st r)
    → IsBoundStatement st calls (r ∷ [])
bound_right back_ends spent statement.Commit calls r right fits = right
bound_right back_ends spent _ calls r right fits = (
  right.1.undecided,
  right.1.locks,
  (record { replied = (fits refl).replied; of_select = (fits refl).of_select; undone = right.1.undone; sourced = right.1.sourced }, tt),
)

second : (a b : Bool) → b ≡ true → a || b ≡ true
second true b e = refl
second false b e = e

shows_none : (st : Statement) (r : Reply) → IsTrue (is_outside r) → IsTrue (is_rows r) → IsTrue (is_select st)
shows_none st r = elim r as (λ x. IsTrue (is_outside x) → IsTrue (is_rows x) → IsTrue (is_select st)) [ reply.Rows rows ↦ λ o h. absurd (false≢true o) | x ↦ λ o h. absurd (false≢true h) ]

pub outside_fits : (st : Statement) (r : Reply) → IsTrue (is_outside r) → Fits st r
outside_fits st r outside = record { replied = second (leaves_open r) (says_undone r) (outside_undone r outside); of_select = shows_none st r outside }

-- a plan is what a transaction asks first for a statement that has one
pub going_planned : (back_ends : ℕ) (owner : Owner) (st : Statement) (sts : List Statement) (u : Use) → IsTrue (is_planned st)
    → going back_ends owner (st ∷ sts) u ≡ going_on (λ p. after (going back_ends owner sts) p.0 p.1) (plan back_ends st u)
unfolding going
going_planned back_ends owner statement.Commit sts u p = absurd (false≢true p)
going_planned back_ends owner statement.Rollback sts u p = absurd (false≢true p)
going_planned back_ends owner _ sts u p = refl

kept_inside : (r : Reply) → says_undone r ≡ false → is_outside r ≡ false
kept_inside reply.RolledBack e = refl
kept_inside _ e = e

-- what is spent by the calls of a plan is what is spent by them and those before
spending_whole : (spent : Spent) (front asked : List Call) → AreBeside front → spending spent (front ++ asked) ≡ spending spent asked
spending_whole spent front asked opens =
    let b : bytes_in (front ++ asked) ≡ bytes_in asked = ap (λ xs. bytes_in (front ++ xs)) (sym (append-nil asked)) ∙ same_bytes front asked [] opens tt in
    let g : grants_in (front ++ asked) ≡ grants_in asked = ap (λ xs. grants_in (front ++ xs)) (sym (append-nil asked)) ∙ same_grants front asked [] opens tt in
    λ i. record { bytes = spent.bytes + b i; locks = spent.locks + g i }

bare_whole : (front calls : List Call) → AreBeside front → IsBare calls → IsBare (front ++ calls)
bare_whole front calls opens bare = (
  filter-more (λ (c : Call). is_of_rows c.request) front calls ∙ ap (λ xs. xs ++ of_rows calls) (bare_beside front opens).0 ∙ bare.0,
  ap (λ xs. grants_in (front ++ xs)) (sym (append-nil calls)) ∙ same_grants front calls [] opens tt ∙ bare.1,
)

-- ---- all of them

-- the calls begin with one of this transaction, if one is named
abbrev pub StartsOf : Option ℕ → List Call → Type 0
StartsOf None calls = ⊤
StartsOf (Some tx) calls = StartsOwn tx calls

-- each item behind the first does
abbrev pub OthersStart : Option ℕ → List Item → Type 0
OthersStart whose [] = ⊤
OthersStart whose (i ∷ is) = Each (λ j. StartsOf whose j.calls) is

starts_front : (whose : Option ℕ) (xs ys : List Call) → StartsOf whose (xs ++ ys) → StartsOf whose xs
starts_front None xs ys h = tt
starts_front (Some tx) [] ys h = tt
starts_front (Some tx) (x ∷ xs) ys h = h

pub all_start : (whose : Option ℕ) (items : List Item) → StartsOf whose (calls_of items) → OthersStart whose items → Each (λ j. StartsOf whose j.calls) items
all_start whose [] starts own = tt
all_start whose (i ∷ is) starts own = (starts_front whose i.calls (calls_of is) starts, own)

-- what is asked before another item decides and undoes nothing
abbrev pub QuietBefore : List Item → Type 0
QuietBefore [] = ⊤
QuietBefore (i ∷ is) = (is ≢ [] → AreQuiet i.calls) × QuietBefore is

-- calls before the first statement, which there is if there are such calls
abbrev pub Fronted : List Given → List Call → Type 0
Fronted [] front = front ≡ []
Fronted (w ∷ ws) front = Opens front

no_front : (works : List Given) → Fronted works []
no_front [] = refl
no_front (w ∷ ws) = record { beside = tt; no_rows = refl; undoes_none = tt }

pub record Items (back_ends : ℕ) (whose : Option ℕ) (works : List Given) (spent : Spent) (calls : List Call) (replies : List Reply) : Type 0 where
  pub items : List Item
  pub made_of : calls_of items ≡ calls
  pub each : AreItemsOf works replies items
  pub right : AreRight back_ends spent items
  pub bound : Each IsBoundItem items
  pub own : OthersStart whose items
  pub quiet : QuietBefore items

-- an item at the head of others
abbrev pub item_of : Given → List Call → Reply → Item
item_of w calls r = record { place = w.0; doing = sql w.1; calls = calls; lines = r ∷ [] }

-- a statement that left its transaction open: its item is right, and what it spent is counted
pub record KeptItem (back_ends : ℕ) (st : Statement) (u v : Use) (calls : List Call) (r : Reply) : Type 0 where
  pub right : IsRightStatement back_ends (spent_of u) st calls (Some r)
  pub fits : Fits st r
  pub quiet : AreQuiet calls
  pub within : IsWithin v
  pub spent : spent_of v ≡ spending (spent_of u) calls

module _ (back_ends : ℕ) (whose : Option ℕ) where
  -- the last statement of a transaction
  pub only : (w : Given) (ws : List Given) (spent : Spent) (calls : List Call) (r : Reply) → IsRightStatement back_ends spent w.1 calls (Some r) → (IsTrue (not (is_commit w.1)) → Fits w.1 r)
      → Items back_ends whose (w ∷ ws) spent calls (r ∷ [])
  only w ws spent calls r right fits = record {
    items = item_of w calls r ∷ [];
    made_of = append-nil calls;
    each = ((refl, refl, refl), last ws);
    right = (right, tt);
    bound = (bound_right back_ends spent w.1 calls r right fits, tt);
    own = tt;
    quiet = ((λ n. absurd (n refl)), tt);
  }
    where
      last : (ws : List Given) → AreItemsOf ws [] []
      last [] = tt
      last (x ∷ xs) = tt

  -- a statement before others
  pub before : (w : Given) (ws : List Given) (spent : Spent) (calls more : List Call) (r : Reply) (rs : List Reply) → IsRightStatement back_ends spent w.1 calls (Some r) → Fits w.1 r → AreQuiet calls
      → StartsOf whose more → Items back_ends whose ws (spending spent calls) more rs → Items back_ends whose (w ∷ ws) spent (calls ++ more) (r ∷ rs)
  before w ws spent calls more r rs right fits quiet starts rest = record {
    items = item_of w calls r ∷ rest.items;
    made_of = ap (λ xs. calls ++ xs) rest.made_of;
    each = ((refl, refl, refl), rest.each);
    right = (right, rest.right);
    bound = (bound_right back_ends spent w.1 calls r right (λ h. fits), rest.bound);
    quiet = ((λ n. quiet), rest.quiet);
    own = all_start whose rest.items (subst (StartsOf whose) (sym rest.made_of) starts) rest.own;
  }

module _ (back_ends : ℕ) (owner : Owner) (few : back_ends ≤ most_back_ends) (tx : ℕ) where
  -- what follows a statement is divided
  abbrev Rest : List Given → Type 0
  Rest ws = (v : Use) (ys : List Call) (qs : List Reply) → v.tx ≡ tx → IsWithin v → Follows false (going back_ends owner (statements ws) v) ys qs → Items back_ends (Some tx) ws (spent_of v) ys qs

  module _ (w : Given) (ws : List Given) (plain : IsTrue (is_plain w.1)) (other : IsTrue (not (is_commit w.1))) where
    rightly : (u v : Use) (front xs ys : List Call) (o : Result Reply Reply) (r : Reply) → reply_in o ≡ r → Opens front → Closes ys r → IsWithin u → Follows false (plan back_ends w.1 u) xs (o, v)
        → IsRightStatement back_ends (spent_of u) w.1 (front ++ (xs ++ ys)) (Some r)
    rightly u v front xs ys o r is opens closes within follows =
        right_faithful back_ends (spent_of u) w.1 (front ++ (xs ++ ys)) r other
        (plan_faithful w.1 (plan_does w.1 plain) back_ends u (front ++ (xs ++ ys)) r few within
        (record { front = front; asked = xs; back = ys; parts = refl; outcome = o; last = v; follows = follows; replies = is; opens = opens; closes = closes }))

    -- its item, where the transaction goes on
    pub kept_item : (u v : Use) (front xs : List Call) (o : Result Reply Reply) → IsTrue (is_planned w.1) → Opens front → IsWithin u → Follows false (plan back_ends w.1 u) xs (o, v) → says_undone (reply_in o) ≡ false
        → KeptItem back_ends w.1 u v (front ++ xs) (reply_in o)
    kept_item u v front xs o planned opens within follows stays =
        let r : Reply = reply_in o in
        let counts = (plan_counts w.1 back_ends u v xs o within follows).1 (ap not (kept_inside r stays)) in
        let none : xs ++ [] ≡ xs = append-nil xs in
        let replies = plan_replies w.1 planned back_ends u v xs o follows in
        record {
          right = subst (λ zs. IsRightStatement back_ends (spent_of u) w.1 (front ++ zs) (Some r)) none
              (rightly u v front xs [] o r refl opens (record { beside = tt; undone = λ h. absurd (false≢true (sym stays ∙ h)) }) within follows);
          fits = record { replied = replies.0; of_select = replies.1 };
          quiet = Each-append (λ (c : Call). settles c.request ≡ false) front xs (opens_quiet front opens.beside opens.undoes_none)
              (quiet_followed u.tx false (plan back_ends w.1 u) xs (o, v) follows ((owns_plan back_ends w.1).holds u.tx u refl));
          within = counts.0;
          spent = counts.1 ∙ sym (spending_whole (spent_of u) front xs opens.beside);
        }

    -- the transaction goes on
    kept : (u v : Use) (front xs ys : List Call) (rs : List Reply) (o : Result Reply Reply) → IsTrue (is_planned w.1) → u.tx ≡ tx → Opens front → IsWithin u → Follows false (plan back_ends w.1 u) xs (o, v) → says_undone (reply_in o) ≡ false
        → Follows false (with_reply (reply_in o) (going back_ends owner (statements ws) v)) ys rs → Rest ws → Items back_ends (Some tx) (w ∷ ws) (spent_of u) (front ++ (xs ++ ys)) rs
    kept u v front xs ys rs o planned of_tx opens within follows stays goes more =
        let r : Reply = reply_in o in
        let s = split (λ qs. says (r ∷ qs)) (going back_ends owner (statements ws) v) ys rs goes in
        let done = over (r ∷ s.value) rs s.back s.rest in
        let same : s.front ≡ ys = sym (append-nil s.front) ∙ ap (λ zs. s.front ++ zs) (sym done.0) ∙ sym s.parts in
        let same_tx = own_said tx false (plan back_ends w.1 u) xs (o, v) follows ((owns_plan back_ends w.1).holds tx u of_tx) in
        let item = kept_item u v front xs o planned opens within follows stays in
        let rest : Items back_ends (Some tx) ws (spending (spent_of u) (front ++ xs)) s.front s.value =
        subst (λ z. Items back_ends (Some tx) ws z s.front s.value) item.spent (more v s.front s.value same_tx item.within s.first) in
        subst (λ zs. Items back_ends (Some tx) (w ∷ ws) (spent_of u) zs rs) (ap (λ zs. (front ++ xs) ++ zs) same ∙ append_assoc front xs ys)
        (subst (Items back_ends (Some tx) (w ∷ ws) (spent_of u) ((front ++ xs) ++ s.front)) (sym done.1) (before back_ends (Some tx) w ws (spent_of u) (front ++ xs) s.front r s.value item.right item.fits item.quiet
        (first_followed tx (going back_ends owner (statements ws) v) s.front s.value s.first (going_first back_ends owner (statements ws) tx v same_tx)) rest))

    -- the transaction is rolled back
    rolled : (u v : Use) (front xs ys : List Call) (rs : List Reply) (o : Result Reply Reply) (r : Reply) → reply_in o ≡ r → Fits w.1 r → Opens front → IsWithin u → Follows false (plan back_ends w.1 u) xs (o, v)
        → Follows false (going_on (λ s. says (s ∷ [])) (rolling_back v 0 r)) ys rs → Items back_ends (Some tx) (w ∷ ws) (spent_of u) (front ++ (xs ++ ys)) rs
    rolled u v front xs ys rs o r is fits opens within follows goes =
        let s = split (λ z. says (z ∷ [])) (rolling_back v 0 r) ys rs goes in
        let done = over (s.value ∷ []) rs s.back s.rest in
        let closes = rolling_closes v 0 r s.value s.front s.first in
        let same : s.front ≡ ys = sym (append-nil s.front) ∙ ap (λ zs. s.front ++ zs) (sym done.0) ∙ sym s.parts in
        subst (Items back_ends (Some tx) (w ∷ ws) (spent_of u) (front ++ (xs ++ ys))) (ap (λ z. z ∷ []) (sym closes.0) ∙ sym done.1)
        (only back_ends (Some tx) w ws (spent_of u) (front ++ (xs ++ ys)) r (rightly u v front xs ys o r is opens (subst (λ zs. Closes zs r) same closes.1) within follows) (λ h. fits))

    after_plan : (u v : Use) (front xs ys : List Call) (rs : List Reply) (o : Result Reply Reply) → IsTrue (is_planned w.1) → u.tx ≡ tx → Opens front → IsWithin u → Follows false (plan back_ends w.1 u) xs (o, v)
        → Follows false (after (going back_ends owner (statements ws)) o v) ys rs → Rest ws → Items back_ends (Some tx) (w ∷ ws) (spent_of u) (front ++ (xs ++ ys)) rs
    after_plan u v front xs ys rs (Ok r) planned of_tx opens within follows goes more =
        kept u v front xs ys rs (Ok r) planned of_tx opens within follows (plan_tells_undone w.1 planned back_ends u v xs (Ok r) follows) goes more
    after_plan u v front xs ys rs (Err e) planned of_tx opens within follows goes more =
        by (rolls_back e) (plan_tells_undone w.1 planned back_ends u v xs (Err e) follows) goes
      where
        by : (b : Bool) → says_undone e ≡ b → Follows false (if b then going_on (λ s. says (s ∷ [])) (rolling_back v 0 e) else with_reply e (going back_ends owner (statements ws) v)) ys rs
            → Items back_ends (Some tx) (w ∷ ws) (spent_of u) (front ++ (xs ++ ys)) rs
        by true is g =
            let replies = plan_replies w.1 planned back_ends u v xs (Err e) follows in
            rolled u v front xs ys rs (Err e) e refl (record { replied = replies.0; of_select = replies.1 }) opens within follows g
        by false is g = kept u v front xs ys rs (Err e) planned of_tx opens within follows is g more

    planned_right : (u : Use) (front cs : List Call) (rs : List Reply) → IsTrue (is_planned w.1) → u.tx ≡ tx → Opens front → IsWithin u → Follows false (going back_ends owner (w.1 ∷ statements ws) u) cs rs
        → Rest ws → Items back_ends (Some tx) (w ∷ ws) (spent_of u) (front ++ cs) rs
    planned_right u front cs rs planned of_tx opens within f more =
        let go : Result Reply Reply × Use → Talk (List Reply) = λ p. after (going back_ends owner (statements ws)) p.0 p.1 in
        let s = split go (plan back_ends w.1 u) cs rs (subst (λ t. Follows false t cs rs) (going_planned back_ends owner w.1 (statements ws) u planned) f) in
        subst (λ zs. Items back_ends (Some tx) (w ∷ ws) (spent_of u) (front ++ zs) rs) (sym s.parts)
        (after_plan u s.value.1 front s.front s.back rs s.value.0 planned of_tx opens within s.first s.rest more)

  -- ---- the last statements

  pub going_commit : (sts : List Statement) (u : Use) → going back_ends owner (statement.Commit ∷ sts) u ≡ going_on (λ r. says (r ∷ [])) (committing owner u reply.Committed)
  unfolding going
  going_commit sts u = refl

  pub going_rollback : (sts : List Statement) (u : Use) → going back_ends owner (statement.Rollback ∷ sts) u ≡ going_on (λ r. says (r ∷ [])) (rolling_back u 0 reply.RolledBack)
  unfolding going
  going_rollback sts u = refl

  pub going_none : (u : Use) → going back_ends owner [] u ≡ says []
  unfolding going
  going_none u = refl

  rollback_plan : (u : Use) → Follows false (plan back_ends statement.Rollback u) [] (Ok reply.RolledBack, u)
  unfolding plan
  rollback_plan u = ends

  commit_right : (place : ℕ) (ws : List Given) (u : Use) (front cs : List Call) (rs : List Reply) → Opens front → Follows false (going back_ends owner (statement.Commit ∷ statements ws) u) cs rs
      → Items back_ends (Some tx) ((place, statement.Commit) ∷ ws) (spent_of u) (front ++ cs) rs
  commit_right place ws u front cs rs opens f =
      let s = split (λ r. says (r ∷ [])) (committing owner u reply.Committed) cs rs (subst (λ t. Follows false t cs rs) (going_commit (statements ws) u) f) in
      let done = over (s.value ∷ []) rs s.back s.rest in
      let tells = committing_tells owner u s.value s.front s.first in
      let same : s.front ≡ cs = sym (append-nil s.front) ∙ ap (λ zs. s.front ++ zs) (sym done.0) ∙ sym s.parts in
      subst (λ zs. Items back_ends (Some tx) ((place, statement.Commit) ∷ ws) (spent_of u) (front ++ zs) rs) same
      (subst (Items back_ends (Some tx) ((place, statement.Commit) ∷ ws) (spent_of u) (front ++ s.front)) (sym done.1)
      (only back_ends (Some tx) (place, statement.Commit) ws (spent_of u) (front ++ s.front) s.value (bare_whole front s.front opens.beside tells.bare, tells_more front s.front s.value opens.beside tells.told) (λ h. absurd (false≢true h))))

  pub all_right : (works : List Given) (u : Use) (front cs : List Call) (rs : List Reply) → u.tx ≡ tx → Fronted works front → IsWithin u → Each (λ w. IsTrue (is_plain w.1)) works
      → Follows false (going back_ends owner (statements works) u) cs rs → Items back_ends (Some tx) works (spent_of u) (front ++ cs) rs
  all_right [] u front cs rs of_tx none within plain f =
      let done = over [] rs cs (subst (λ t. Follows false t cs rs) (going_none u) f) in
      subst (Items back_ends (Some tx) [] (spent_of u) (front ++ cs)) (sym done.1)
      (record { items = []; made_of = sym (ap (λ zs. zs ++ cs) none ∙ done.0); each = tt; right = tt; bound = tt; own = tt; quiet = tt })
  all_right ((place, statement.Commit) ∷ ws) u front cs rs of_tx opens within plain f = commit_right place ws u front cs rs opens f
  all_right ((place, statement.Rollback) ∷ ws) u front cs rs of_tx opens within plain f =
      rolled (place, statement.Rollback) ws refl refl u u front [] cs rs (Ok reply.RolledBack) reply.RolledBack refl (record { replied = refl; of_select = λ h. absurd (false≢true h) }) opens within (rollback_plan u)
      (subst (λ t. Follows false t cs rs) (going_rollback (statements ws) u) f)
  all_right ((place, st) ∷ ws) u front cs rs of_tx opens within plain f =
      planned_right (place, st) ws plain.0 refl u front cs rs refl of_tx opens within f (λ v ys qs e i g. all_right ws v [] ys qs e (no_front ws) i plain.1 g)
