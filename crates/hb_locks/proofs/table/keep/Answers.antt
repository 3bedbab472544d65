use Rattle.std.proofs.Common.{◌≡◌, ap, sym, ◌∙◌, is_some, true}
use Rattle.hb_locks.specs.Index.{holds}
use Rattle.hb_locks.proofs.Lists.{is_some-mode_of}
use Rattle.hb_locks.proofs.table.keep.Goals as goal

pub returns-then-is_some-clause-kept : goal.returns-then-is_some-clause-kept
returns-then-is_some-clause-kept c =
    let among : holds c.args.tx c.holders_of.result.now ≡ true =
    sym (is_some-mode_of c.args.tx c.holders_of.result.now) ∙ sym (ap is_some c.mode_of.ensures) ∙ sym c.is_some.ensures ∙ c.if-is_some.true in
    c.requires.kept c.args.tx c.args.path (sym (ap (holds c.args.tx) c.holders_of.ensures) ∙ among)
