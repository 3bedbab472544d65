-- Lines and the items that they are of.
use Rattle.std.proofs.Common.{◌≡◌, ◌⊎◌, ℕ, ◌<◌, Bool, true, false, List, [], ◌∷◌, Some, ap, inl, inr, length, refl, subst}
use Rattle.std.specs.Prelude.{IsTrue, not, ◌&&◌, ◌||◌, ◌==◌, flat_map, slice_get}
use Rattle.std.proofs.lemmas.Bool.{false≢true}
use Rattle.hb_types.specs.declared.answer.Answer.TheVariants as answer
use Rattle.hb_types.specs.declared.trail.Call.{Call}
use Rattle.hb_types.specs.Lists.{Each, Has, IsIn}
use Rattle.hb_types.proofs.Ascending.{Each-in, Has-of, in_Each}
use Rattle.hb_types.proofs.PutLaws.{by_test}
use Rattle.hb_loglaws.proofs.Members.{Has-in, filter_in, in_append, in_filter, in_map}
use Rattle.hb_model.specs.declared.reply.Reply.{Reply}
use Rattle.hb_model.specs.declared.reply.Reply.TheVariants as reply
use Rattle.hb_model.specs.Items.{Item}
use Rattle.hb_disks.specs.Images.{Logs}
use Rattle.hb_law.specs.Composition.{ShowsItems, lines_by, shown_of}
use Rattle.hb_law.specs.Histories.{Shown}
use Rattle.hb_law.specs.InTime.{is_busy}
use Rattle.hb_law.specs.ShownEnds.{AllJudged, IsDecidedAs, IsOfTxn, IsUndecided, ToldRightly}
use Rattle.hb_law.specs.Transactions.{AreTxns, IsSomebodys, OutcomesTold, TellsOutcome, Txn, WasAnswered, caller_of, is_loose, is_told}
use Rattle.hb_whose.proofs.Trailing.{each_got, got, same_number}

-- ---- a line's item

module _ {A B : Type 0} (f : A → List B) where
  in_flat : (y : B) (xs : List A) → IsIn y (flat_map f xs) → (x : A) × IsIn x xs × IsIn y (f x)
  in_flat y [] h = absurd h
  in_flat y (x ∷ xs) h = by (in_append y (f x) (flat_map f xs) h) (λ k. in_flat y xs k)
    where
      by : IsIn y (f x) ⊎ IsIn y (flat_map f xs) → (IsIn y (flat_map f xs) → (z : A) × IsIn z xs × IsIn y (f z)) → (z : A) × IsIn z (x ∷ xs) × IsIn y (f z)
      by (inl k) rest = (x, inl refl, k)
      by (inr k) rest = let z = rest k in (z.0, inr z.1, z.2)

parts_of : (caller place : ℕ) (r : Reply) (l : Shown) → record { caller = caller; place = place; reply = r } ≡ l → (place ≡ l.place) × (r ≡ l.reply)
parts_of caller place r l e = (ap (λ (m : Shown). m.place) e, ap (λ (m : Shown). m.reply) e)

both_pass : (a b : Bool) → a ≡ true → b ≡ false → (a && not b) ≡ true
both_pass a b h k = rw (h, k) refl

pub record HasItem (lists : List (List Item)) (l : Shown) : Type 0 where
  pub list : List Item
  pub its_list : slice_get lists l.caller ≡ Some list
  pub item : Item
  pub within : IsIn item list
  pub place : item.place ≡ l.place
  pub line : IsIn l.reply item.lines

pub item_of : (lists : List (List Item)) (lines : List Shown) (l : Shown) → ShowsItems lists lines → IsIn l lines → is_busy l.reply ≡ false → HasItem lists l
item_of lists lines l s i quiet =
    let list = got lists l.caller (in_Each (λ m. m.caller < length lists) l lines i s.callers) in
    let here : IsIn l (lines_by l.caller lines) = filter_in (λ m. (m.caller == l.caller) && not (is_busy m.reply)) l lines i (both_pass (l.caller == l.caller) (is_busy l.reply) (same_number l.caller) quiet) in
    let there = in_filter (λ m. (m.caller == l.caller) && not (is_busy m.reply)) l (flat_map (shown_of l.caller) list.0) (subst (IsIn l) (s.same l.caller list.0 list.1) here) in
    let item = in_flat (shown_of l.caller) l list.0 there.0 in
    let r = in_map (λ (r : Reply). record { caller = l.caller; place = item.0.place; reply = r }) l item.0.lines item.2 in
    let parts = parts_of l.caller item.0.place r.0 l r.2 in
    record {
      list = list.0;
      its_list = list.1;
      item = item.0;
      within = item.1;
      place = parts.0;
      line = subst (λ z. IsIn z item.0.lines) parts.1 r.1;
    }

-- ---- judged

busy_is_loose : (r : Reply) → is_busy r ≡ true → IsTrue (is_loose r || is_told r)
busy_is_loose reply.Busy h = refl
busy_is_loose r h = absurd (false≢true h)

pub judged : (lists : List (List Item)) (txns : List Txn) (lines : List Shown) → AreTxns lists txns → ShowsItems lists lines → AllJudged txns lines
judged lists txns lines are s = Each-in (λ l. IsOfTxn txns l ⊎ IsTrue (is_loose l.reply || is_told l.reply)) lines (λ l i. by_test (is_busy l.reply) (λ t. inr (busy_is_loose l.reply t)) (λ f. quiet l (item_of lists lines l s i f)))
  where
    quiet : (l : Shown) → HasItem lists l → IsOfTxn txns l ⊎ IsTrue (is_loose l.reply || is_told l.reply)
    quiet l h = by (in_Each (IsSomebodys txns l.caller) h.item h.list h.within (are.none_left l.caller h.list h.its_list))
      where
        by : IsSomebodys txns l.caller h.item → IsOfTxn txns l ⊎ IsTrue (is_loose l.reply || is_told l.reply)
        by (inl k) =
            inl (Has-of (λ t. (caller_of t.owner ≡ l.caller) × IsIn h.item t.items) (λ t. (caller_of t.owner ≡ l.caller) × Has (λ i. (i.place ≡ l.place) × IsIn l.reply i.lines) t.items) txns
            (λ t c. (c.0, Has-in (λ i. (i.place ≡ l.place) × IsIn l.reply i.lines) h.item t.items c.1 (h.place, h.line))) k)
        by (inr k) = inr (in_Each (λ r. IsTrue (is_loose r || is_told r)) l.reply h.item.lines h.line k.tells_none)

-- ---- told

-- what these calls were answered by Outcome is so
pub record OutcomesAreSo (logs : Logs) (calls : List Call) : Type 0 where
  pub committed : (tx n : ℕ) → WasAnswered tx (answer.Decided (record { 0 = n })) calls → IsDecidedAs logs tx n
  pub aborted : (tx : ℕ) → WasAnswered tx answer.Aborted calls → IsUndecided logs tx

module _ (logs : Logs) (lists : List (List Item)) (txns : List Txn) where
  busy_tells_none : (r : Reply) → is_busy r ≡ true → ToldRightly logs txns r
  busy_tells_none reply.Busy h = tt
  busy_tells_none r h = absurd (false≢true h)

  told_rightly : (calls : List Call) (r : Reply) → OutcomesAreSo logs calls → TellsOutcome txns calls r → ToldRightly logs txns r
  told_rightly calls (reply.ToldCommitted o number) so h =
      Has-of (λ t. (t.owner ≡ o) × WasAnswered t.tx (answer.Decided number) calls) (λ t. (t.owner ≡ o) × IsDecidedAs logs t.tx number.0) txns (λ t k. (k.0, so.committed t.tx number.0 k.1)) h
  told_rightly calls (reply.ToldRolledBack o) so h =
      Has-of (λ t. (t.owner ≡ o) × WasAnswered t.tx answer.Aborted calls) (λ t. (t.owner ≡ o) × IsUndecided logs t.tx) txns (λ t k. (k.0, so.aborted t.tx k.1)) h
  told_rightly calls r so h = tt

  pub all_told : (lines : List Shown) → ShowsItems lists lines → Each (OutcomesTold txns) lists
      → ((caller : ℕ) (list : List Item) (i : Item) → slice_get lists caller ≡ Some list → IsIn i list → OutcomesAreSo logs i.calls) → Each (λ l. ToldRightly logs txns l.reply) lines
  all_told lines s outcomes so = Each-in (λ l. ToldRightly logs txns l.reply) lines (λ l i. by_test (is_busy l.reply) (busy_tells_none l.reply) (λ f. quiet l (item_of lists lines l s i f)))
    where
      quiet : (l : Shown) → HasItem lists l → ToldRightly logs txns l.reply
      quiet l h =
          let tells : OutcomesTold txns h.list = each_got (OutcomesTold txns) lists l.caller h.list outcomes h.its_list in
          let one : Each (TellsOutcome txns h.item.calls) h.item.lines = in_Each (λ (i : Item). Each (TellsOutcome txns i.calls) i.lines) h.item h.list h.within tells in
          told_rightly h.item.calls l.reply (so l.caller h.list h.item h.its_list h.within) (in_Each (TellsOutcome txns h.item.calls) l.reply h.item.lines h.line one)
