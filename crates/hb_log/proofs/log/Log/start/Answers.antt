use Rattle.std.proofs.Common.{◌≡◌, ⊎_elim, false, ℕ, [], ◌∷◌, List, IfSome, max, length, ◌∙◌, subst, arith, rules}
use Rattle.hb_log.proofs.Fresh.{fresh_records, fresh_end, found_inside}
use Rattle.hb_log.proofs.log.Log.start.Goals as goal

pub returns-in-Ok-make_anew-clause-settled : goal.returns-in-Ok-make_anew-clause-settled
returns-in-Ok-make_anew-clause-settled g c = λ read told in_time place.
    let l = c.length.ensures in
    let size : c.in-Ok.size ≡ length read = subst (λ o. IfSome o (λ f. c.in-Ok.size ≡ length f)) told c.in-Ok.ensures.length in
    let zero : c.args.from ≡ 0 = ⊎_elim (λ z. z) (λ inside. absurd (omega (arith, inside.1, size, c.if-size-lt7.true))) place in
    let none : c.new.result.items ≡ [] = search rules in
    let told_then = l.content ∙ told in
    let only = c.in-Ok-make_anew.ensures.kept read told_then (omega (arith, l.last, l.clock, in_time)) in
    record {
      image = 0 ∷ [];
      told = c.in-Ok-make_anew.ensures.content read told_then;
      records = fresh_records c.args.from c.new.result.items zero none;
      end = fresh_end c.args.from c.new.result.items zero none;
      inside = omega arith;
      only = λ other is. only (g.D.Disk.last c.make_anew.new.disk) other (omega (arith, c.make_anew.ensures.last)) is;
      is_open = λ i. false;
    }

pub returns-in-Ok-walk-clause-settled : goal.returns-in-Ok-walk-clause-settled
returns-in-Ok-walk-clause-settled g c = λ read told in_time place.
    let l = c.length.ensures in
    let r = c.read_from.ensures in
    let size : c.in-Ok.size ≡ length read = subst (λ o. IfSome o (λ f. c.in-Ok.size ≡ length f)) told c.in-Ok.ensures.length in
    let bytes = c.deref.ensures.value ∙ c.in-Ok-read_from.ensures.bytes read (l.content ∙ told) size in
    let found = c.in-Ok-walk.ensures.found read bytes in
    let pending = subst (λ o. IfSome o (λ f. (i : List ℕ) → g.D.Disk.left c.args.disk (g.D.Disk.last c.args.disk) i → i ≡ f)) told c.requires in
    record {
      image = read;
      told = r.content ∙ l.content ∙ told;
      records = found.records;
      end = found.end;
      inside = found_inside read c.args.from c.in-Ok-walk.items.items c.in-Ok-walk.end found place (omega (arith, size, c.if-size-lt7.false));
      only = λ other is.
          let m = max (g.D.Disk.last c.read_from.new.disk) c.length.new.clock in
          let later = g.met.D.Disk.stands_on c.read_from.new.disk m other (omega arith) is in
          let was = r.stop (omega (arith, l.last, l.clock, in_time)) other m (omega arith) later in
          let first = l.stop.since (g.D.Disk.last c.length.new.self) other (omega (arith, l.last)) was in
          first.2 ∙ pending first.0 first.1;
      is_open = λ i. false;
    }
