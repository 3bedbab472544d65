use Rattle.std.proofs.Common.{sym, ◌∙◌, pos}
use Rattle.std.specs.Prelude.{FitsSigned}
use Rattle.std.specs.Int.{w32}
use Rattle.hb_turn.proofs.Keeping.{all_kept, done, keeps, passes_over}
use Rattle.std.proofs.lemmas.List.Elements.{All-more}
use Rattle.hb_turn.proofs.keys.keys_of.Goals as goal
use Rattle.hb_turn.proofs.keys.keys_of.Goals.{then-found-group+in_ok-push_key, else-found-group}

pub loop-key-preserved : goal.loop-key-preserved
loop-key-preserved c =
    let i = c.loop-key.key-index in
    let xs = c.args.keys.now in
    let lt = c.loop-key-test.true in
    let found = c.in-Some.ensures.1 in
    let before = c.loop-key.invariant.1 in (
      All-more (FitsSigned w32) xs i (pos 0) lt c.loop-key.invariant.0 (c.in-Some.ensures.0),
      elim c.if-found-group.branch [
        | then-found-group+in_ok-push_key w ↦ keeps xs i c.args.group c.loop-key.own c.if-found-group.own lt before (sym found ∙ w.if-found-group.true) (w.own-is ∙ w.in_ok-push_key.ensures)
        | else-found-group w ↦ passes_over xs i c.args.group c.loop-key.own c.if-found-group.own lt before (λ e. w.if-found-group.false (found ∙ e)) w.own-is
      ],
    )

pub returns : goal.returns
returns c =
    let is = done c.args.keys.now c.loop-key.key-index c.args.group c.loop-key.own c.loop-key-test.false c.loop-key.invariant.1 in
    (all_kept c.args.keys.now c.loop-key.key-index c.args.group c.loop-key.own c.loop-key-test.false c.loop-key.invariant.0 is, is)
