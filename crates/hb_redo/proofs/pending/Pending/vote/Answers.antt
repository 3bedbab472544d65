use Rattle.std.proofs.Common.{◌≡◌, ◌∙◌, ◌++◌, ◌∷◌, [], ℕ, false, refl, sym, arith, Option, None, Some}
use Rattle.std.specs.BTreeMap.{get}
use Rattle.std.specs.Option.{is_some}
use Rattle.std.specs.Ordering.{nat_cmp}
use Rattle.std.proofs.lemmas.Bool.{true≢false}
use Rattle.hb_disks.specs.Redo.{Redone}
use Rattle.hb_redo.specs.Damage.{left_by}
use Rattle.hb_redo.proofs.Staging.{goes, kept, none_of_it}
use Rattle.hb_redo.proofs.pending.Pending.vote.Goals as goal

none_of : (o : Option (Option ℕ)) → is_some o ≡ false → o ≡ None
none_of None e = refl
none_of (Some x) e = absurd (true≢false e)

pub returns-then-left-gt0-clause-takes : goal.returns-then-left-gt0-clause-takes
returns-then-left-gt0-clause-takes g c = λ base d voted back here r.
    let a = c.args in
    let first : get nat_cmp a.self.now.votes a.tx.0 ≡ None = none_of _ (sym c.contains_key.ensures ∙ c.if-contains_key.false) in
    goes a.records.now base d voted back (g.S.Store.rows a.store.now) (g.S.Store.room a.store.now) a.self.now c.enter.new.votes a.tx a.floor a.locks.now a.changes.now a.index first c.in_ok-enter.ensures here r
    c.left.result c.left.ensures c.if-left-gt0.true

pub returns-clause-takes : goal.returns-clause-takes
returns-clause-takes g c = λ base d voted back here r.
    let a = c.args in
    let first : get nat_cmp a.self.now.votes a.tx.0 ≡ None = none_of _ (sym c.contains_key.ensures ∙ c.if-contains_key.false) in
    let known : Redone = record { rows = d.rows; floor = d.floor; doubts = left_by back d.doubts } in
    let told : c.push.new.self ≡ a.self.now.told ++ a.tx ∷ [] = c.in_ok-push.ensures.ok in
    kept a.records.now base d voted back (g.S.Store.rows a.store.now) (g.S.Store.room a.store.now) a.self.now c.enter.new.votes a.tx a.floor a.locks.now a.changes.now a.index first c.in_ok-enter.ensures here r
    c.left.result c.left.ensures (λ more. omega (arith, more, c.if-left-gt0.false)) c.restored.new.self c.push.new.self (g.S.Store.rows c.room.new.self) (g.S.Store.room c.room.new.self) told c.room.ensures.rows c.in_ok-room.ensures.added
    c.in_ok-fits.fits (c.in_ok-fits.ensures known r.remembers
    (none_of_it a.records.now base d voted back (g.S.Store.rows a.store.now) (g.S.Store.room a.store.now) a.self.now c.enter.new.votes a.tx a.floor a.locks.now a.changes.now a.index first c.in_ok-enter.ensures here r))
