use Rattle.std.proofs.Common.{◌≡◌, ◌∙◌, sym, false, refl, Result, Ok, Err, None, Some, Option}
use Rattle.std.specs.Result.{OnOk}
use Rattle.std.specs.Option.{is_some}
use Rattle.std.proofs.lemmas.Bool.{true≢false}
use Rattle.hb_engine.specs.declared.slot.Slot.{Slot}
use Rattle.hb_engine.proofs.Effects.{enlist_stands}
use Rattle.hb_engine.proofs.Turning.{enlist_again, enlist_first}
use Rattle.hb_engine.proofs.engine.Engine.enlist.Goals as goal

pub returns-then-contains_key-clause-ok : goal.returns-then-contains_key-clause-ok
returns-then-contains_key-clause-ok c = λ rows s st. enlist_again c.args.self.now.slots c.args.self.now.locks c.args.self.now.floor rows s c.args.tx st (sym c.contains_key.ensures ∙ c.if-contains_key.true)

on_ok : {T E : Type 0} (P Q : Type 0) (r : Result T E) → (P → Q) → OnOk r P → OnOk r Q
on_ok P Q (Ok x) f p = f p
on_ok P Q (Err e) f p = tt

none_of : (o : Option Slot) → is_some o ≡ false → o ≡ None
none_of None e = refl
none_of (Some x) e = absurd (true≢false e)

pub returns-clause-ok : goal.returns-clause-ok
returns-clause-ok c =
    let e = c.args.self.now in
    let none = none_of _ (sym c.contains_key.ensures ∙ c.if-contains_key.false) in
    on_ok _ _ c.begin.result
    (λ new rows s st. enlist_first e.slots c.begin.new.slots e.locks e.floor rows s c.args.tx st none (enlist_stands e.slots c.begin.new.slots e.locks e.floor rows s c.args.tx st none new)) c.begin.ensures.ok
