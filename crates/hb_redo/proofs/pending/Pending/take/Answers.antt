use Rattle.std.proofs.Common.{◌≡◌, ◌∙◌, sym, ap, subst, true, ◌∷◌, List}
use Rattle.hb_types.specs.declared.change.Change.{Change}
use Rattle.hb_types.specs.declared.change.LogItem.{LogItem}
use Rattle.hb_types.specs.declared.change.LogItem.TheVariants as entry
use Rattle.hb_types.specs.declared.lock.Held.{Held}
use Rattle.hb_types.specs.Lists.{Ascends}
use Rattle.hb_types.specs.Records.{HasRecord}
use Rattle.hb_branch.specs.Overlays.{change_cmp}
use Rattle.hb_locks.specs.Locks.{lock_cmp}
use Rattle.hb_store.specs.Meanings.{changes_in}
use Rattle.hb_redo.specs.Stages.{Redoes, Takes}
use Rattle.hb_redo.proofs.Staging.{changes_here, ended_abort, ended_commit, passes, passes_ids}
use Rattle.hb_redo.proofs.pending.Pending.take.Goals as goal

pub vote-requires-clause-locks : goal.vote-requires-clause-locks
vote-requires-clause-locks g c = subst (λ (l : List Held). Ascends lock_cmp l) (sym c.as_slice-locks.ensures) (subst HasRecord c.in-Prepare.is c.requires.fits).0.3

pub vote-requires-clause-changes : goal.vote-requires-clause-changes
vote-requires-clause-changes g c = subst (λ (l : List Change). Ascends change_cmp l) (sym c.as_slice-changes.ensures) (subst HasRecord c.in-Prepare.is c.requires.fits).0.4

pub returns-in_ok-fits-in-Prepare-clause-takes : goal.returns-in_ok-fits-in-Prepare-clause-takes
returns-in_ok-fits-in-Prepare-clause-takes g c = λ base d voted back r.
    let records = c.args.records.now in
    let rows = g.S.Store.rows c.vote.new.store in
    let room = g.S.Store.room c.vote.new.store in
    let same : c.args.item.now ≡ entry.Prepare c.in-Prepare.tx c.in-Prepare.floor c.as_slice-locks.result.now c.as_slice-changes.result.now =
    c.in-Prepare.is ∙ (λ i. entry.Prepare c.in-Prepare.tx c.in-Prepare.floor (sym c.as_slice-locks.ensures i) (sym c.as_slice-changes.ensures i)) in
    subst (λ (i : LogItem). Takes records base d voted i back rows room c.vote.new.self c.in_ok-fits-in-Prepare.fits) (sym same)
    (c.in_ok-fits-in-Prepare.ensures.takes base d voted back (changes_here records c.args.index c.args.item.now c.requires.here ∙ ap changes_in same)
    (subst (λ (i : LogItem). Redoes records base d voted (i ∷ back) (g.S.Store.rows c.args.store.now) (g.S.Store.room c.args.store.now) c.args.self.now) same r))

pub returns-in_ok-commit-in-Commit-clause-takes : goal.returns-in_ok-commit-in-Commit-clause-takes
returns-in_ok-commit-in-Commit-clause-takes g c = λ base d voted back r.
    let records = c.args.records.now in
    let rows = g.S.Store.rows c.commit.new.store in
    let room = g.S.Store.room c.commit.new.store in
    subst (λ (i : LogItem). Takes records base d voted i back rows room c.commit.new.self true) (sym c.in-Commit.is)
    (ended_commit records base d voted back rows room c.commit.new.self c.in-Commit.tx c.in-Commit.number
    (c.in_ok-commit-in-Commit.ensures.redoes base d voted back
    (subst (λ (i : LogItem). Redoes records base d voted (i ∷ back) (g.S.Store.rows c.args.store.now) (g.S.Store.room c.args.store.now) c.args.self.now) c.in-Commit.is r)))

pub returns-in-Abort-clause-takes : goal.returns-in-Abort-clause-takes
returns-in-Abort-clause-takes g c = λ base d voted back r.
    let records = c.args.records.now in
    let rows = g.S.Store.rows c.args.store.now in
    let room = g.S.Store.room c.args.store.now in
    subst (λ (i : LogItem). Takes records base d voted i back rows room c.end.new.self true) (sym c.in-Abort.is)
    (ended_abort records base d voted back rows room c.end.new.self c.in-Abort.tx
    (c.end.ensures records base d voted back rows room
    (subst (λ (i : LogItem). Redoes records base d voted (i ∷ back) rows room c.args.self.now) c.in-Abort.is r)))

pub returns-in-Decision-clause-takes : goal.returns-in-Decision-clause-takes
returns-in-Decision-clause-takes g c = λ base d voted back r.
    let records = c.args.records.now in
    let rows = g.S.Store.rows c.args.store.now in
    let room = g.S.Store.room c.args.store.now in
    let e = c.in-Decision.is in
    subst (λ (i : LogItem). Takes records base d voted i back rows room c.args.self.now true) (sym e)
    (passes records base d voted back rows room c.args.self.now c.in-Decision.tx c.in-Decision.number c.in-Decision.nodes
    (subst (λ (i : LogItem). Redoes records base d voted (i ∷ back) rows room c.args.self.now) e r))

pub returns-in-Ids-clause-takes : goal.returns-in-Ids-clause-takes
returns-in-Ids-clause-takes g c = λ base d voted back r.
    let records = c.args.records.now in
    let rows = g.S.Store.rows c.args.store.now in
    let room = g.S.Store.room c.args.store.now in
    let e = c.in-Ids.is in
    subst (λ (i : LogItem). Takes records base d voted i back rows room c.args.self.now true) (sym e)
    (passes_ids records base d voted back rows room c.args.self.now c.in-Ids.upto
    (subst (λ (i : LogItem). Redoes records base d voted (i ∷ back) rows room c.args.self.now) e r))
