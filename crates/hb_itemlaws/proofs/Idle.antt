-- Items that are idle made no call.
use Rattle.std.proofs.Common.{◌≡◌, ℕ, List, [], ◌∷◌, length, Bool, true, false, refl, sym, ◌∙◌, arith}
use Rattle.std.specs.Prelude.{◌==◌, ◌&&◌}
use Rattle.std.specs.List.{list_all}
use Rattle.std.proofs.lemmas.Bool.{false≢true}
use Rattle.std.proofs.lemmas.Bool.Decides.{nat_tests}
use Rattle.hb_types.specs.declared.trail.Call.{Call}
use Rattle.hb_model.specs.Items.{Item}
use Rattle.hb_law.specs.Standing.{is_aside}
use Rattle.hb_law.specs.Transactions.{is_idle}

left_holds : (a b : Bool) → a && b ≡ true → a ≡ true
left_holds true b e = refl
left_holds false b e = absurd (false≢true e)

no_length : (n : ℕ) → (n == 0) ≡ true → n ≡ 0
no_length n e = grind (arith, nat_tests)

none_left : (calls : List Call) → length calls ≡ 0 → calls ≡ []
none_left [] e = refl
none_left (c ∷ cs) e = absurd (omega (arith, e))

pub idle_asks_none : (i : Item) → is_idle i ≡ true → i.calls ≡ []
idle_asks_none i e = none_left i.calls (no_length (length i.calls) (left_holds (length i.calls == 0) (list_all is_aside i.lines) e))

-- an item with a call is not idle
pub asks_not_idle : (i : Item) (c : Call) (cs : List Call) → i.calls ≡ c ∷ cs → is_idle i ≡ false
asks_not_idle i c cs e = by (is_idle i) refl
  where
    by : (b : Bool) → is_idle i ≡ b → b ≡ false
    by true h = absurd (cc (sym e ∙ idle_asks_none i h))
    by false h = refl
