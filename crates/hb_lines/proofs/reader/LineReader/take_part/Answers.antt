use Rattle.std.proofs.Common.{◌≡◌, ◌+◌, ◌++◌, ◌∷◌, ℕ, List, ap, sym, ◌∙◌, arith, length, drop}
use Rattle.std.proofs.lemmas.List.{drop_all}
use Rattle.hb_lines.proofs.SplitLemmas.{cut_none}
use Rattle.hb_lines.proofs.FrontLemmas.{Cut, cut_is}
use Rattle.hb_lines.proofs.reader.LineReader.take_part.Goals as goal

pub pass-requires : goal.pass-requires
pass-requires c =
    let cut : Cut c.unread-unread.result.now c.in-Some.part.now c.in-Some.field-0-1.now = cut_is c.unread-unread.result.now c.in-Some.part.now c.in-Some.field-0-1.now c.in-Some.ensures in
    omega (arith, cut.within, ap length c.unread-unread.ensures)

pub returns-in_ok-extend_from_slice-in-Some : goal.returns-in_ok-extend_from_slice-in-Some
returns-in_ok-extend_from_slice-in-Some c =
    let cut : Cut c.unread-unread.result.now c.in-Some.part.now c.in-Some.field-0-1.now = cut_is c.unread-unread.result.now c.in-Some.part.now c.in-Some.field-0-1.now c.in-Some.ensures in
    let behind : c.pass.new.self ≡ c.in-Some.field-0-1.now = c.pass.ensures ∙ ap (drop (length c.in-Some.part.now + 1)) (sym c.unread-unread.ensures) ∙ cut.behind in
    record {
      bytes = c.in-Some.part.now;
      clean = cut.clean;
      kept = c.in_ok-extend_from_slice-in-Some.ensures.items;
      split = sym c.unread-unread.ensures ∙ cut.split ∙ ap (λ (l : List ℕ). c.in-Some.part.now ++ 10 ∷ l) (sym behind);
    }

pub returns-in_ok-extend_from_slice-in-None : goal.returns-in_ok-extend_from_slice-in-None
returns-in_ok-extend_from_slice-in-None c = record {
  bytes = c.unread-unread.result.now;
  clean = cut_none 10 c.unread-unread.result.now (sym c.in-None.ensures);
  kept = c.in_ok-extend_from_slice-in-None.ensures.items;
  split = (sym c.unread-unread.ensures, c.pass-in-None.ensures ∙ drop_all (length c.unread-unread.result.now) c.args.self.now (omega (arith, ap length c.unread-unread.ensures)));
}
