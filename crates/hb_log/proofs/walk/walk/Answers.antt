use Rattle.std.proofs.Common.{◌≡◌, ◌≢◌, ◌+◌, ◌∷◌, [], ◌++◌, length, sym, ◌∙◌, ap, subst, refl, arith, rules}
use Rattle.std.proofs.lemmas.List.{length-drop}
use Rattle.std.specs.Prelude.{All, List}
use Rattle.std.proofs.lemmas.List.Elements.{All-push}
use Rattle.hb_types.specs.declared.change.Placed.{Placed}
use Rattle.hb_types.specs.Logs.{gate, end_of}
use Rattle.hb_types.specs.Records.{HasRecord}
use Rattle.hb_log.specs.Standing.{StandFrom}
use Rattle.hb_log.specs.Steps.{Steps}
use Rattle.hb_log.proofs.Standing.{stand_records, rest_behind, closed_behind, opened_behind, none_behind, stand_next, end_next}
use Rattle.hb_log.proofs.walk.walk.Goals as goal

pub returns-in-Shut-clause-found : goal.returns-in-Shut-clause-found
returns-in-Shut-clause-found c = λ image is.
    let i = c.loop-items.invariant in
    let next = c.args.from + c.loop-items.at in
    let rest = c.split_at.result.1.now in
    let shut = subst (Steps rest) c.in-Shut.is c.in_ok-next_step.ensures in
    let behind = rest_behind image c.args.bytes.now rest c.args.from c.loop-items.at next is c.split_at.ensures.back refl in
    record {
      records = stand_records image c.args.from c.loop-items.items.items (i.stand image is) (subst (λ k. gate image k ≢ 1) i.end (closed_behind image rest next behind shut));
      end = i.end;
    }

pub returns-in-Bad-clause-damaged : goal.returns-in-Bad-clause-damaged
returns-in-Bad-clause-damaged c = λ place is_err image is.
    let i = c.loop-items.invariant in
    let next = c.args.from + c.loop-items.at in
    let same : next ≡ place = search rules in
    let rest = c.split_at.result.1.now in
    let bad = subst (Steps rest) c.in-Bad.is c.in_ok-next_step.ensures in
    let behind = rest_behind image c.args.bytes.now rest c.args.from c.loop-items.at place is c.split_at.ensures.back (sym same) in
    record {
      good = c.loop-items.items.items;
      stand = i.stand image is;
      place = sym same ∙ i.end;
      opened = opened_behind image rest place behind bad.0;
      none = none_behind image rest place behind bad.1;
    }

pub loop-items-preserved : goal.loop-items-preserved
loop-items-preserved c =
    let i = c.loop-items.invariant in
    let next = c.args.from + c.loop-items.at in
    let rest = c.split_at.result.1.now in
    let items = c.loop-items.items.items in
    let item = c.in-Record.item in
    let here = subst (Steps rest) c.in-Record.is c.in_ok-next_step.ensures in
    let pushed : c.keep.new.items.items ≡ items ++ record { place = next; item = item } ∷ [] = search rules in
    record {
      stand = λ image is. subst (StandFrom image c.args.from) (sym pushed)
          (stand_next image rest c.args.from next items item (rest_behind image c.args.bytes.now rest c.args.from c.loop-items.at next is c.split_at.ensures.back refl) i.end (i.stand image is) here.0);
      end = (let there : c.args.from + (c.loop-items.at + c.in-Record.n) ≡ next + c.in-Record.n = omega arith in there)
          ∙ end_next c.args.from next c.in-Record.n items item i.end here.1 ∙ ap (end_of c.args.from) (sym pushed);
      within = omega (arith, here.0.inside, here.1, ap length c.split_at.ensures.back, length-drop c.loop-items.at c.args.bytes.now);
      recorded = subst (λ (l : List Placed). All (λ p. HasRecord p.item) l) (sym pushed)
          (All-push (λ (p : Placed). HasRecord p.item) items (record { place = next; item = item }) i.recorded here.0.has_record);
    }
