-- The items of a transaction that is given up.
use Rattle.std.proofs.Common.{◌≡◌, ℕ, ◌≤◌, List, [], ◌∷◌, ◌++◌, Option, None, Some, Result, Ok, inr, Bool, true, false, not, refl, subst, sym, ap, ◌∙◌}
use Rattle.std.specs.Prelude.{IsTrue, ◌≢◌, ⊤}
use Rattle.std.proofs.lemmas.Bool.{false≢true}
use Rattle.std.proofs.lemmas.List.{append-nil, append_assoc}
use Rattle.hb_types.specs.declared.answer.Answer.TheVariants as answer
use Rattle.hb_types.specs.declared.names.Owner.{Owner}
use Rattle.hb_types.specs.declared.request.Request.TheVariants as request
use Rattle.hb_types.specs.declared.trail.Call.{Call}
use Rattle.hb_types.specs.Lists.{Each}
use Rattle.hb_types.proofs.Ascending.{Each-append, Each-front}
use Rattle.hb_model.specs.declared.reply.Reply.{Reply}
use Rattle.hb_model.specs.declared.reply.Reply.TheVariants as reply
use Rattle.hb_model.specs.declared.statement.Statement.{Statement}
use Rattle.hb_model.specs.declared.statement.Statement.TheVariants as statement
use Rattle.hb_model.specs.Answers.{call, HasAsked, is_undoing}
use Rattle.hb_model.specs.Items.{Item, Spent, calls_of, nothing_spent, spending}
use Rattle.hb_talk.specs.Ends.{fes1}
use Rattle.hb_model.specs.Outside.{is_outside, says_undone}
use Rattle.hb_model.specs.Plain.{is_plain}
use Rattle.hb_talk.specs.Moves.{fresh}
use Rattle.hb_talk.specs.PlansDefine.{plan}
use Rattle.hb_talk.specs.Talk.{Begins, Follows, Use, says}
use Rattle.hb_plancalc.specs.Counted.{IsWithin, reply_in, spent_of}
use Rattle.hb_planlaws.specs.Planned.{most_back_ends}
use Rattle.hb_faithful.specs.Planned.{AreBeside, Closes, Opens, is_beside, is_planned}
use Rattle.hb_faithful.proofs.Beside.{undecided}
use Rattle.hb_faithful.proofs.Faithfuls.{given_up_faithful}
use Rattle.hb_faithful.proofs.Telling.{plan_tells_undone}
use Rattle.hb_law.specs.Transactions.{AreRight, IsBoundItem, IsRightStatement}
use Rattle.hb_itemlaws.specs.Dividing.{AreItemsOf, Given}
use Rattle.hb_itemlaws.specs.GivingUp.{Closed, ClosedAreRight, GivenUp, GivenUpAreRight, LeftOff, amid, behind, between, closing}
use Rattle.hb_itemlaws.specs.Owning.{AreBegins, ClosedAreOwn, GivenUpAreOwn, NoBegin, StartsOwn, is_begin}
use Rattle.hb_itemlaws.proofs.Commits.{asked_behind, bare_beside, off, outside_undone, tells_decision, tells_off}
use Rattle.hb_itemlaws.proofs.Dividing.{divided, fresh_within}
use Rattle.hb_itemlaws.proofs.Goings.{Fits, Items, OthersStart, QuietBefore, StartsOf, before, bound_right, is_commit, item_of, kept_item, only, outside_fits}
use Rattle.hb_itemlaws.proofs.Owned.{AreQuiet, first_followed, first_plan, own_said, statement_unbegun, unbegun_followed}
use Rattle.hb_itemlaws.proofs.OwnItems.{are_own}
use Rattle.hb_itemlaws.proofs.OwnPlans.{owns_plan}
use Rattle.hb_itemlaws.proofs.Splits.{over}

-- ---- the statement that was given up

outside_bare : (r : Reply) → IsTrue (is_outside r) → tells_decision r ≡ false
outside_bare r = elim r as (λ x. IsTrue (is_outside x) → tells_decision x ≡ false) [
  | reply.Committed number ↦ λ h. absurd (false≢true h)
  | reply.OutcomeUnknown owner ↦ λ h. absurd (false≢true h)
  | x ↦ λ h. refl
]

both_beside : (xs ys : List Call) → AreBeside xs → AreBeside ys → AreBeside (xs ++ ys)
both_beside xs ys a b = Each-append (λ (c : Call). IsTrue (is_beside c.request)) xs ys a b

commit_plan : (back_ends : ℕ) (u : Use) → plan back_ends statement.Commit u ≡ says (Ok reply.RolledBack, u)
unfolding plan
commit_plan back_ends u = refl

-- nothing begins the plan of a COMMIT
none_begins : (back_ends : ℕ) (u : Use) (asked : List Call) → Begins (plan back_ends statement.Commit u) asked → AreBeside asked
none_begins back_ends u asked (more, r, f) =
    let f' = subst (λ t. Begins t asked) (commit_plan back_ends u) (more, r, f) in none asked f'.0 (over (Ok reply.RolledBack, u) f'.1 (asked ++ f'.0) f'.2).0
  where
    none : (xs ys : List Call) → xs ++ ys ≡ [] → AreBeside xs
    none [] ys e = tt
    none (x ∷ xs) ys e = absurd (cc e)

amid_right : (back_ends : ℕ) (st : Statement) (u : Use) (front asked back : List Call) (why : Reply) → IsTrue (is_outside why) → Opens front → Closes back why → IsWithin u
    → Begins (plan back_ends st u) asked → IsRightStatement back_ends (spent_of u) st (front ++ (asked ++ back)) (Some why)
amid_right back_ends statement.Commit u front asked back why outside opens closes within begins =
    let whole : List Call = front ++ (asked ++ back) in
    let beside : AreBeside whole = both_beside front (asked ++ back) opens.beside (both_beside asked back (none_begins back_ends u asked begins) closes.beside) in
    let says : IsTrue (says_undone why) = outside_undone why outside in (
      bare_beside whole beside,
      tells_off whole why (outside_bare why outside) (off whole beside) says
          (asked_behind is_undoing front (asked ++ back) (asked_behind is_undoing asked back (closes.undone says))),
    )
amid_right back_ends st u front asked back why outside opens closes within begins = (
  false,
  given_up_faithful st back_ends u (front ++ (asked ++ back)) why (spent_of u) within
      (record { front = front; asked = asked; back = back; parts = refl; begins = begins; opens = opens; closes = closes }) outside,
)

-- ---- those before it

uncommitted : (st : Statement) → IsTrue (is_planned st) → IsTrue (not (is_commit st))
uncommitted statement.Commit h = absurd (false≢true h)
uncommitted _ h = refl

regroup : (front xs cs back : List Call) → (front ++ xs) ++ (cs ++ back) ≡ front ++ ((xs ++ cs) ++ back)
regroup front xs cs back = append_assoc front xs (cs ++ back) ∙ ap (λ zs. front ++ zs) (sym (append_assoc xs cs back))

-- the rolling back is of no statement, and stands last
pub record ClosedItems (back_ends place : ℕ) (whose : Option ℕ) (works : List Given) (spent : Spent) (calls : List Call) (replies : List Reply) (why : Reply) : Type 0 where
  pub items : List Item
  pub last : List Call
  pub made_of : calls_of items ++ last ≡ calls
  pub each : AreItemsOf works replies items
  pub right : AreRight back_ends spent (items ++ closing place last why ∷ [])
  pub bound : Each IsBoundItem (items ++ closing place last why ∷ [])
  pub own : OthersStart whose (items ++ closing place last why ∷ [])
  pub quiet : QuietBefore (items ++ closing place last why ∷ [])

-- ---- whose they are, if a transaction is named

abbrev pub IsOf : Option ℕ → Use → Type 0
IsOf None u = ⊤
IsOf (Some tx) u = u.tx ≡ tx

still_of : (back_ends : ℕ) (whose : Option ℕ) (st : Statement) (u v : Use) (xs : List Call) (o : Result Reply Reply) → IsOf whose u → Follows false (plan back_ends st u) xs (o, v) → IsOf whose v
still_of back_ends None st u v xs o e f = tt
still_of back_ends (Some tx) st u v xs o e f = own_said tx false (plan back_ends st u) xs (o, v) f ((owns_plan back_ends st).holds tx u e)

starts_before : (tx : ℕ) (xs ys : List Call) → StartsOwn tx xs → StartsOwn tx ys → StartsOwn tx (xs ++ ys)
starts_before tx [] ys a b = b
starts_before tx (x ∷ xs) ys a b = a

starts_first : (tx : ℕ) (xs ys : List Call) → StartsOwn tx (xs ++ ys) → StartsOwn tx xs
starts_first tx [] ys h = tt
starts_first tx (x ∷ xs) ys h = h

left_own : (back_ends tx : ℕ) (amidst : Bool) (works : List Given) (u : Use) (asked back : List Call) (replies : List Reply) → LeftOff back_ends amidst works u asked replies → u.tx ≡ tx
    → StartsOwn tx back → StartsOwn tx (asked ++ back)
left_own back_ends tx amidst _ u asked back _ (amid {w} begins) e starts =
    let plan_own = first_plan tx (plan back_ends w.1 u) ((owns_plan back_ends w.1).holds tx u e) in
    starts_before tx asked back (starts_first tx asked begins.0 (first_followed tx (plan back_ends w.1 u) (asked ++ begins.0) begins.1 begins.2 plan_own)) starts
left_own back_ends tx amidst _ u _ back _ between e starts = starts
left_own back_ends tx amidst _ u _ back _ (behind {w} {ws} {v} {asked = xs} {calls = cs} {o} {replies = rs} planned follows stays left) e starts =
    let own = (owns_plan back_ends w.1).holds tx u e in
    subst (StartsOwn tx) (sym (append_assoc xs cs back))
    (starts_before tx xs (cs ++ back) (first_followed tx (plan back_ends w.1 u) xs (o, v) follows (first_plan tx (plan back_ends w.1 u) own))
    (left_own back_ends tx amidst ws v cs back rs left (own_said tx false (plan back_ends w.1 u) xs (o, v) follows own) starts))

left_starts : (back_ends : ℕ) (whose : Option ℕ) (amidst : Bool) (works : List Given) (u : Use) (asked back : List Call) (replies : List Reply) → LeftOff back_ends amidst works u asked replies → IsOf whose u
    → StartsOf whose back → StartsOf whose (asked ++ back)
left_starts back_ends None amidst works u asked back replies left e starts = tt
left_starts back_ends (Some tx) amidst works u asked back replies left e starts = left_own back_ends tx amidst works u asked back replies left e starts

-- nothing begins in them
pub left_unbegun : (back_ends : ℕ) (amidst : Bool) (works : List Given) (u : Use) (asked : List Call) (replies : List Reply) → LeftOff back_ends amidst works u asked replies → NoBegin asked
left_unbegun back_ends amidst _ u asked _ (amid {w} begins) =
    Each-front (λ (c : Call). is_begin c.request ≡ false) asked begins.0 (unbegun_followed false (plan back_ends w.1 u) (asked ++ begins.0) begins.1 begins.2 (statement_unbegun back_ends w.1 u))
left_unbegun back_ends amidst _ u _ _ between = tt
left_unbegun back_ends amidst _ u _ _ (behind {w} {ws} {v} {asked = xs} {calls = cs} {o} {replies = rs} planned follows stays left) =
    Each-append (λ (c : Call). is_begin c.request ≡ false) xs cs (unbegun_followed false (plan back_ends w.1 u) xs (o, v) follows (statement_unbegun back_ends w.1 u)) (left_unbegun back_ends amidst ws v cs rs left)

-- ---- the items

module _ (back_ends : ℕ) (owner : Owner) (few : back_ends ≤ most_back_ends) (whose : Option ℕ) (why : Reply) (back : List Call) (closes : Closes back why) where
  -- behind a statement with its reply the rolling back is of the transaction
  abbrev StartsBehind : List Reply → Type 0
  StartsBehind replies = replies ≢ [] → StartsOf whose back

  amid_items : (works : List Given) (u : Use) (front asked : List Call) (replies : List Reply) → LeftOff back_ends true works u asked replies → IsTrue (is_outside why) → IsOf whose u → StartsBehind replies
      → Opens front → IsWithin u → Each (λ w. IsTrue (is_plain w.1)) works
      → Items back_ends whose works (spent_of u) (front ++ (asked ++ back)) (replies ++ why ∷ [])
  amid_items _ u front asked _ (amid {w} {ws} begins) outside e starts opens within plain =
      only back_ends whose w ws (spent_of u) (front ++ (asked ++ back)) why (amid_right back_ends w.1 u front asked back why outside opens closes within begins)
      (λ h. outside_fits w.1 why outside)
  amid_items _ u front _ _ (behind {w} {ws} {v} {asked = xs} {calls = cs} {o} {replies = rs} planned follows stays left) outside e starts opens within plain =
      let open_still = plan_tells_undone w.1 planned back_ends u v xs o follows ∙ stays in
      let of_tx = still_of back_ends whose w.1 u v xs o e follows in
      let starting : StartsOf whose back = starts (λ x. absurd (cc x)) in
      let item = kept_item back_ends owner few u.tx w ws plain.0 (uncommitted w.1 planned) u v front xs o planned opens within follows open_still in
      let rest = amid_items ws v [] cs rs left outside of_tx (λ x. starting) (record { beside = tt; no_rows = refl; undoes_none = tt }) item.within plain.1 in
      subst (λ zs. Items back_ends whose (w ∷ ws) (spent_of u) zs (reply_in o ∷ (rs ++ why ∷ []))) (regroup front xs cs back)
      (before back_ends whose w ws (spent_of u) (front ++ xs) (cs ++ back) (reply_in o) (rs ++ why ∷ []) item.right item.fits item.quiet (left_starts back_ends whose true ws v cs back rs left of_tx starting)
      (subst (λ s. Items back_ends whose ws s (cs ++ back) (rs ++ why ∷ [])) item.spent rest))

  module _ (place : ℕ) where
    starts_part : (xs ys : List Call) → StartsOf whose (xs ++ ys) → StartsOf whose xs
    starts_part xs ys h = by whose h
      where
        by : (o : Option ℕ) → StartsOf o (xs ++ ys) → StartsOf o xs
        by None k = tt
        by (Some tx) k = starts_first tx xs ys k

    -- all items start so, the rolling back too
    closing_starts : (items : List Item) (last : List Call) → StartsOf whose (calls_of items ++ last) → OthersStart whose (items ++ closing place last why ∷ [])
        → Each (λ j. StartsOf whose j.calls) (items ++ closing place last why ∷ [])
    closing_starts [] last starts own = (starts, tt)
    closing_starts (i ∷ is) last starts own = (starts_part i.calls (calls_of is ++ last) (subst (StartsOf whose) (append_assoc i.calls (calls_of is) last) starts), own)

    cons : (w : Given) (ws : List Given) (u v : Use) (own more calls : List Call) (r : Reply) (rs : List Reply) → IsRightStatement back_ends (spent_of u) w.1 own (Some r) → Fits w.1 r → AreQuiet own
        → spent_of v ≡ spending (spent_of u) own → own ++ more ≡ calls → StartsOf whose more → ClosedItems back_ends place whose ws (spent_of v) more rs why
        → ClosedItems back_ends place whose (w ∷ ws) (spent_of u) calls (r ∷ rs) why
    cons w ws u v own more calls r rs right fits quiet spent whole starts rest = record {
      items = item_of w own r ∷ rest.items;
      last = rest.last;
      made_of = append_assoc own (calls_of rest.items) rest.last ∙ ap (λ zs. own ++ zs) rest.made_of ∙ whole;
      each = ((refl, refl, refl), rest.each);
      right = (right, subst (λ s. AreRight back_ends s (rest.items ++ closing place rest.last why ∷ [])) spent rest.right);
      bound = (bound_right back_ends (spent_of u) w.1 own r right (λ h. fits), rest.bound);
      quiet = ((λ n. quiet), rest.quiet);
      own = closing_starts rest.items rest.last (subst (StartsOf whose) (sym rest.made_of) starts) rest.own;
    }

    closed_items : (works : List Given) (u : Use) (front asked : List Call) (replies : List Reply) → LeftOff back_ends false works u asked replies → IsTrue (is_outside why) → IsOf whose u → StartsBehind replies → Opens front → IsWithin u
        → Each (λ w. IsTrue (is_plain w.1)) works → ClosedItems back_ends place whose works (spent_of u) (front ++ (asked ++ back)) replies why
    closed_items _ u front _ _ between outside e starts opens within plain =
        let beside : AreBeside (front ++ back) = both_beside front back opens.beside closes.beside in
        let says : IsTrue (says_undone why) = outside_undone why outside in
        let undone : HasAsked is_undoing (front ++ back) = asked_behind is_undoing front back (closes.undone says) in
        record {
          items = [];
          last = front ++ back;
          made_of = refl;
          each = tt;
          right = ((undecided (front ++ back) beside, bare_beside (front ++ back) beside, (inr (says, undone), tt)), tt);
          bound = ((undecided (front ++ back) beside, bare_beside (front ++ back) beside, (inr (says, undone), tt)), tt);
          own = tt;
          quiet = ((λ n. absurd (n refl)), tt);
        }
    closed_items _ u front _ _ (behind {w} {ws} {v} {asked = xs} {calls = cs} {o} {replies = rs} planned follows stays left) outside e starts opens within plain =
        let open_still = plan_tells_undone w.1 planned back_ends u v xs o follows ∙ stays in
        let of_tx = still_of back_ends whose w.1 u v xs o e follows in
        let starting : StartsOf whose back = starts (λ x. absurd (cc x)) in
        let item = kept_item back_ends owner few u.tx w ws plain.0 (uncommitted w.1 planned) u v front xs o planned opens within follows open_still in
        let rest = closed_items ws v [] cs rs left outside of_tx (λ x. starting) (record { beside = tt; no_rows = refl; undoes_none = tt }) item.within plain.1 in
        cons w ws u v (front ++ xs) (cs ++ back) (front ++ ((xs ++ cs) ++ back)) (reply_in o) rs item.right item.fits item.quiet item.spent (regroup front xs cs back)
        (left_starts back_ends whose false ws v cs back rs left of_tx starting) rest

-- ---- the laws

-- whose it is doesn't matter
nobody : Owner
nobody = record { session = 0; nth = 0 }

module _ (back_ends : ℕ) (works : List Given) (calls : List Call) (replies : List Reply) (why : Reply) (few : back_ends ≤ most_back_ends) (plain : Each (λ w. IsTrue (is_plain w.1)) works) where
  amid_whole : (whose : Option ℕ) (g : GivenUp back_ends true works calls replies why) → IsOf whose (fresh g.tx) → (replies ≢ [] → StartsOf whose g.back)
      → Items back_ends whose works nothing_spent calls (replies ++ why ∷ [])
  amid_whole whose g e starts =
      subst (λ cs. Items back_ends whose works nothing_spent cs (replies ++ why ∷ [])) (sym g.parts)
      (amid_items back_ends nobody few whose why g.back g.closes works (fresh g.tx) g.front g.asked replies g.left g.outside e starts g.opens (fresh_within g.tx) plain)

  closed_whole : (whose : Option ℕ) (place : ℕ) (g : GivenUp back_ends false works calls replies why) → IsOf whose (fresh g.tx) → (replies ≢ [] → StartsOf whose g.back)
      → ClosedItems back_ends place whose works nothing_spent calls replies why
  closed_whole whose place g e starts =
      subst (λ cs. ClosedItems back_ends place whose works nothing_spent cs replies why) (sym g.parts)
      (closed_items back_ends nobody few whose why g.back g.closes place works (fresh g.tx) g.front g.asked replies g.left g.outside e starts g.opens (fresh_within g.tx) plain)

pub given_up_right : GivenUpAreRight
given_up_right back_ends works calls replies why few plain g =
    divided back_ends None works calls (replies ++ why ∷ []) (amid_whole back_ends works calls replies why few plain None g tt (λ x. tt))

abbrev closed : (back_ends place : ℕ) (whose : Option ℕ) (works : List Given) (calls : List Call) (replies : List Reply) (why : Reply) → ClosedItems back_ends place whose works nothing_spent calls replies why
    → Closed back_ends place works calls replies why
closed back_ends place whose works calls replies why i = record { items = i.items; last = i.last; made_of = i.made_of; each = i.each; right = i.right; bound = i.bound }

pub closed_right : ClosedAreRight
closed_right back_ends place works calls replies why few plain g =
    closed back_ends place None works calls replies why (closed_whole back_ends works calls replies why few plain None place g tt (λ x. tt))

-- ---- their own

-- with the rolling back they are all the calls
calls_behind : (items : List Item) (place : ℕ) (last : List Call) (why : Reply) → calls_of (items ++ closing place last why ∷ []) ≡ calls_of items ++ last
calls_behind [] place last why = append-nil last
calls_behind (i ∷ is) place last why = ap (λ zs. i.calls ++ zs) (calls_behind is place last why) ∙ sym (append_assoc i.calls (calls_of is) last)

pub given_up_own : GivenUpAreOwn
given_up_own back_ends owner works calls replies why few plain g sys (more, whole, quiet) starts =
    let i = amid_whole back_ends works calls replies why few plain (Some g.tx) g refl starts in
    let c : Call = call fes1 (request.Begin owner) (answer.Begun (record { 0 = g.tx })) in
    (divided back_ends (Some g.tx) works calls (replies ++ why ∷ []) i, are_own g.tx i.items c more refl refl i.own i.quiet (i.made_of ∙ whole) quiet (subst AreBegins whole sys).1)

pub closed_own : ClosedAreOwn
closed_own back_ends place owner works calls replies why few plain g sys (more, whole, quiet) starts =
    let i = closed_whole back_ends works calls replies why few plain (Some g.tx) place g refl starts in
    let c : Call = call fes1 (request.Begin owner) (answer.Begun (record { 0 = g.tx })) in (
      closed back_ends place (Some g.tx) works calls replies why i,
      are_own g.tx (i.items ++ closing place i.last why ∷ []) c more refl refl i.own i.quiet (calls_behind i.items place i.last why ∙ i.made_of ∙ whole) quiet (subst AreBegins whole sys).1,
    )
