-- Of a transaction's items that are not idle the first begins it, and each other asks something of it, or nothing at all while it is open.
use Rattle.std.proofs.Common.{◌≡◌, inl, inr, ◌⊎◌, ℕ, List, [], ◌∷◌, ◌++◌, Some, None, Bool, true, false, refl, subst, sym, ap, ◌∙◌}
use Rattle.std.specs.Prelude.{IsTrue, ◌≢◌, if◌then◌else◌}
use Rattle.std.proofs.lemmas.Bool.{false≢true}
use Rattle.hb_types.specs.declared.answer.Answer.{Answer}
use Rattle.hb_types.specs.declared.answer.Answer.TheVariants as answer
use Rattle.hb_types.specs.declared.request.Request.{Request}
use Rattle.hb_types.specs.declared.request.Request.TheVariants as request
use Rattle.hb_types.specs.declared.trail.Call.{Call}
use Rattle.hb_types.specs.Lists.{Each, Has}
use Rattle.hb_types.proofs.Ascending.{Each-append, Each-back, Each-front}
use Rattle.hb_model.specs.Answers.{call}
use Rattle.hb_model.specs.Items.{Item, calls_of}
use Rattle.hb_talk.specs.Ends.{fes1}
use Rattle.hb_talk.specs.Sessions.{transaction}
use Rattle.hb_talk.specs.Talk.{Follows, asked, refusal_of}
use Rattle.hb_law.specs.Callers.{is_begun}
use Rattle.hb_law.specs.Transactions.{AllAsk, AreBeside, BeginsIt, begins_of, begun_in, is_idle, own_items, tx_asked}
use Rattle.hb_itemlaws.specs.Owning.{AreBegins, AreOwn, NoBegin, StartsOwn, TransactionsAreOwn, UnbegunAskNothing, is_begin}
use Rattle.hb_itemlaws.proofs.Dividing.{begun_items, divided}
use Rattle.hb_itemlaws.proofs.Goings.{OthersStart, QuietBefore}
use Rattle.hb_itemlaws.proofs.Idle.{asks_not_idle}
use Rattle.hb_itemlaws.proofs.Owned.{AreQuiet, none_decided, none_is_some, none_undone}
use Rattle.hb_itemlaws.proofs.Owning.{settles}
use Rattle.hb_itemlaws.specs.Dividing.{statements}
use Rattle.hb_itemlaws.proofs.Splits.{goes_on, over}

-- ---- calls that begin nothing

begun_none : (a : Answer) (q : Request) → is_begin q ≡ false → (IsTrue (is_begun a) → IsTrue (is_begin q)) → begun_in a ≡ []
begun_none (answer.Begun tx) q plain h = absurd (false≢true (sym plain ∙ h refl))
begun_none _ q plain h = refl

begins_none : (calls : List Call) → NoBegin calls → AreBegins calls → begins_of calls ≡ []
begins_none [] plain sys = refl
begins_none (c ∷ cs) plain sys = ap (λ xs. xs ++ begins_of cs) (begun_none c.answer c.request plain.0 sys.0) ∙ begins_none cs plain.1 sys.1

abbrev IsOfSystem : Call → Type 0
IsOfSystem c = IsTrue (is_begun c.answer) → IsTrue (is_begin c.request)

abbrev IsNoBegin : Call → Type 0
IsNoBegin c = is_begin c.request ≡ false

module _ (tx : ℕ) where
  abbrev Starts : Item → Type 0
  Starts i = StartsOwn tx i.calls

  -- ---- items behind the first

  asks_own : (before calls : List Call) → AreQuiet before → StartsOwn tx calls → Has (λ c. tx_asked c.request ≡ Some tx) calls ⊎ AreBeside before calls
  asks_own before [] quiet starts = inr (record { asks_none = tt; undecided = none_decided before quiet; not_undone = none_undone before quiet })
  asks_own before (c ∷ cs) quiet starts = inl (inl starts)

  ask_one : (i : Item) (is : List Item) (b : Bool) (before : List Call) → AreQuiet before → StartsOwn tx i.calls → begins_of i.calls ≡ [] → AllAsk tx before (own_items is)
      → AllAsk tx (before ++ i.calls) (own_items is) → AllAsk tx before (if b then own_items is else i ∷ own_items is)
  ask_one i is true before quiet starts none more behind = more
  ask_one i is false before quiet starts none more behind = ((none, asks_own before i.calls quiet starts), behind)

  all_ask : (items : List Item) (before : List Call) → (items ≢ [] → AreQuiet before) → QuietBefore items → Each Starts items → NoBegin (calls_of items) → AreBegins (calls_of items)
      → AllAsk tx before (own_items items)
  all_ask [] before still quiet starts plain sys = tt
  all_ask (i ∷ is) before still quiet starts plain sys =
      let here : AreQuiet before = still (λ e. absurd (cc e)) in
      let plain_behind = Each-back IsNoBegin i.calls (calls_of is) plain in
      let sys_behind = Each-back IsOfSystem i.calls (calls_of is) sys in
      ask_one i is (is_idle i) before here starts.0 (begins_none i.calls (Each-front IsNoBegin i.calls (calls_of is) plain) (Each-front IsOfSystem i.calls (calls_of is) sys))
      (all_ask is before (λ n. here) quiet.1 starts.1 plain_behind sys_behind)
      (all_ask is (before ++ i.calls) (λ n. Each-append (λ (c : Call). settles c.request ≡ false) before i.calls here (quiet.0 n)) quiet.1 starts.1 plain_behind sys_behind)

  -- ---- the first

  abbrev head_asked : List Call → Call → Request
  head_asked [] other = other.request
  head_asked (c ∷ cs) other = c.request

  unlike : (calls rest more : List Call) (c : Call) → tx_asked c.request ≡ None → StartsOwn tx calls → calls ++ rest ≡ c ∷ more → (rest ≡ c ∷ more → ⊥) → ⊥
  unlike [] rest more c none starts e other = other e
  unlike (x ∷ xs) rest more c none starts e other = none_is_some tx (sym none ∙ ap (λ zs. tx_asked (head_asked zs x)) (sym e) ∙ starts)

  -- a Begin is none of those behind the first
  begun_first : (items : List Item) (c : Call) (more : List Call) → tx_asked c.request ≡ None → Each Starts items → calls_of items ≡ c ∷ more → ⊥
  begun_first [] c more none starts e = absurd (cc e)
  begun_first (i ∷ is) c more none starts e = unlike i.calls (calls_of is) more c none starts.0 e (begun_first is c more none starts.1)

  abbrev tail_calls : List Call → List Call
  tail_calls [] = []
  tail_calls (c ∷ cs) = cs

  abbrev answer_in : List Call → Answer → Answer
  answer_in [] other = other
  answer_in (c ∷ cs) other = c.answer

  begun_by : (x c : Call) (xs rest more : List Call) → x ∷ (xs ++ rest) ≡ c ∷ more → begun_in c.answer ≡ tx ∷ [] → NoBegin xs → AreBegins xs → BeginsIt tx (x ∷ xs)
  begun_by x c xs rest more e begun plain sys = record {
    before = [];
    begin = x;
    more = xs;
    parts = refl;
    begun = ap (λ zs. zs ++ []) (ap (λ zs. begun_in (answer_in zs x.answer)) e ∙ begun);
    apart = tt;
    none_before = refl;
    none_behind = begins_none xs plain sys;
  }

  own_one : (i : Item) (is : List Item) (calls : List Call) → i.calls ≡ calls → (c : Call) (more : List Call) → tx_asked c.request ≡ None → begun_in c.answer ≡ tx ∷ []
      → Each Starts is → QuietBefore (i ∷ is) → calls ++ calls_of is ≡ c ∷ more → NoBegin more → AreBegins more → AreOwn tx (i ∷ is)
  own_one i is [] its c more none begun starts quiet e plain sys = absurd (begun_first is c more none starts e)
  own_one i is (x ∷ xs) its c more none begun starts quiet e plain sys =
      let same : xs ++ calls_of is ≡ more = ap tail_calls e in
      let none_begun = subst NoBegin (sym same) plain in
      let known = subst AreBegins (sym same) sys in
      record {
        first = i;
        more = is;
        parts = refl;
        others = own_items is;
        own = ap (λ b. if b then own_items is else i ∷ own_items is) (asks_not_idle i x xs its);
        begins = subst (BeginsIt tx) (sym its)
            (begun_by x c xs (calls_of is) more e begun (Each-front IsNoBegin xs (calls_of is) none_begun) (Each-front IsOfSystem xs (calls_of is) known));
        asked = all_ask is i.calls quiet.0 quiet.1 starts (Each-back IsNoBegin xs (calls_of is) none_begun) (Each-back IsOfSystem xs (calls_of is) known);
      }

  -- calls that begin with this transaction's Begin
  pub are_own : (items : List Item) (c : Call) (more : List Call) → tx_asked c.request ≡ None → begun_in c.answer ≡ tx ∷ [] → OthersStart (Some tx) items → QuietBefore items → calls_of items ≡ c ∷ more
      → NoBegin more → AreBegins more → AreOwn tx items
  are_own [] c more none begun own quiet e plain sys = absurd (cc e)
  are_own (i ∷ is) c more none begun own quiet e plain sys = own_one i is i.calls refl c more none begun own quiet e plain sys

-- ---- the laws

pub transactions_own : TransactionsAreOwn
transactions_own back_ends owner w ws calls replies few plain follows sys begun =
    let b = begun_items back_ends owner w ws calls replies few plain follows begun in
    let c : Call = call fes1 (request.Begin owner) (answer.Begun b.tx) in
    let known = subst AreBegins b.whole sys in (
      divided back_ends (Some b.tx.0) (w ∷ ws) calls replies b.items,
      b.tx.0,
      are_own b.tx.0 b.items.items c b.more refl refl b.items.own b.items.quiet (b.items.made_of ∙ b.whole) b.no_begin known.1,
    )

pub unbegun_nothing : UnbegunAskNothing
unbegun_nothing back_ends owner w ws _ replies (asked {cs = cs} a i f) none = by a cs f none
  where
    by : (a : Answer) (cs : List Call) → Follows false (goes_on (transaction back_ends owner (statements (w ∷ ws))) a) cs replies → begins_of (call fes1 (request.Begin owner) a ∷ cs) ≡ []
        → Each (λ c. tx_asked c.request ≡ None) (call fes1 (request.Begin owner) a ∷ cs)
    by (answer.Begun tx) cs f e = absurd (cc e)
    by a cs f e = (refl, subst (λ zs. Each (λ (c : Call). tx_asked c.request ≡ None) zs) (sym (over (refusal_of fes1 a ∷ []) replies cs f).0) tt)
