use Rattle.std.proofs.Common.{◌≡◌, ◌+◌, ◌<◌, [], ◌∷◌, ◌++◌, List, ℕ, Some, length, sym, ◌∙◌, ap, subst, arith}
use Rattle.hb_edge.specs.Images.{written}
use Rattle.hb_edge.specs.Runs.{weaker}
use Rattle.hb_edge.specs.Stops.{Only}
use Rattle.hb_types.specs.Records.{framed}
use Rattle.hb_log.specs.Forced.{Forced}
use Rattle.hb_log.proofs.Appending.{forced, forced_longer, done_records, done_long, done_end}
use Rattle.hb_log.proofs.log.Log.append_bytes.Goals as goal

pub returns-in-Ok-clause-stop : goal.returns-in-Ok-clause-stop
returns-in-Ok-clause-stop g c = λ from placed item settled in_time has_record framed_is.
    let shut = c.args.self.now.end in
    let bytes : c.args.framed.now ≡ framed item ++ 0 ∷ [] = framed_is in
    weaker c.args.clock.now _ _ _ _ (λ m image le is. forced settled.image from shut placed settled.records settled.end settled.inside item has_record image
    (subst (λ (b : List ℕ). Forced shut b settled.image image) bytes is))
    (c.force.ensures.stop settled.image settled.told settled.inside settled.only in_time)

pub returns-in-Err-clause-stop : goal.returns-in-Err-clause-stop
returns-in-Err-clause-stop g c = λ from placed item settled in_time has_record framed_is.
    let shut = c.args.self.now.end in
    let bytes : c.args.framed.now ≡ framed item ++ 0 ∷ [] = framed_is in
    weaker c.args.clock.now _ _ _ _ (λ m image le is. forced settled.image from shut placed settled.records settled.end settled.inside item has_record image
    (subst (λ (b : List ℕ). Forced shut b settled.image image) bytes is))
    (c.force.ensures.stop settled.image settled.told settled.inside settled.only in_time)

pub returns-in-Ok-clause-acknowledged : goal.returns-in-Ok-clause-acknowledged
returns-in-Ok-clause-acknowledged g c = λ from placed item settled in_time has_record framed_is.
    let shut = c.args.self.now.end in
    let bytes : c.args.framed.now ≡ framed item ++ 0 ∷ [] = framed_is in
    let again : c.args.framed.now ≡ framed item ++ 0 ∷ [] = framed_is in
    let done = written shut (1 ∷ []) (written (shut + 1) (framed item ++ 0 ∷ []) settled.image) in
    let told = c.in-Ok.ensures.content settled.image settled.told ∙ ap (λ (b : List ℕ). Some (written shut (1 ∷ []) (written (shut + 1) b settled.image))) bytes in
    let only = subst (λ (b : List ℕ). Only (g.D.Disk.left c.force.new.disk) c.force.new.clock (written shut (1 ∷ []) (written (shut + 1) b settled.image))) bytes (c.in-Ok.ensures.kept settled.image settled.told in_time) in
    record {
      image = done;
      told = told;
      records = done_records settled.image from shut placed settled.records settled.end settled.inside item has_record;
      end = ap (λ (b : List ℕ). shut + length b) again ∙ done_end settled.image from shut placed settled.records settled.end settled.inside item has_record;
      inside = subst (λ (b : List ℕ). shut + length b < length done) (sym again) (done_long settled.image from shut placed settled.records settled.end settled.inside item has_record);
      only = λ other is. only (g.D.Disk.last c.force.new.disk) other (omega (arith, c.force.ensures.last)) is;
      is_open = settled.is_open;
    }

pub returns-in-Ok-clause-longer : goal.returns-in-Ok-clause-longer
returns-in-Ok-clause-longer g c = λ from placed settled in_time.
    weaker c.args.clock.now _ _ _ _ (λ m image le is. forced_longer c.args.self.now.end c.args.framed.now settled.image image is)
    (c.force.ensures.stop settled.image settled.told settled.inside settled.only in_time)

pub returns-in-Err-clause-longer : goal.returns-in-Err-clause-longer
returns-in-Err-clause-longer g c = λ from placed settled in_time.
    weaker c.args.clock.now _ _ _ _ (λ m image le is. forced_longer c.args.self.now.end c.args.framed.now settled.image image is)
    (c.force.ensures.stop settled.image settled.told settled.inside settled.only in_time)
