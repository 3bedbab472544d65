use Rattle.std.proofs.Common.{◌≡◌, ◌++◌, ◌≤◌, List, ℕ, length, ap, sym, ◌∙◌, subst}
use Rattle.std.specs.Prelude.{IfSome}
use Rattle.hb_types.specs.Lists.{Each}
use Rattle.hb_types.specs.Numbers.{four}
use Rattle.hb_whole.specs.Slots.{Entries, rows_of}
use Rattle.hb_whole.proofs.Encoded.{bytes_more, bytes_of, each_short}
use Rattle.hb_whole.proofs.SlotRows.{each_stored, rows_ascend}
use Rattle.hb_whole.proofs.encode.image.Goals as goal

pub loop-place-init : goal.loop-place-init
loop-place-init c =
    let rows = rows_of c.args.map.now.entries in
    let first : c.in_ok-out.out.items ≡ four (length rows) = c.in_ok-out.ensures.items ∙ c.to_le_bytes.ensures ∙ ap four c.requires.count in
    let whole = c.into_iter-place-iterator.ensures.into_iter_gives ∙ c.iter-place-items.ensures.rest in (
      ap (λ (l : List ℕ). l ++ bytes_of (rows_of c.into_iter-place-iterator.result)) first ∙ ap (λ (es : Entries). four (length rows) ++ bytes_of (rows_of es)) whole,
      subst (λ (es : Entries). Each (λ e. IfSome e.1.row (λ row. length row ≤ 4000)) es) (sym whole) (each_short c.args.map.now.entries c.iter-place-items.ensures.ordered c.requires.sound),
    )

pub loop-place-preserved : goal.loop-place-preserved
loop-place-preserved c =
    let fits = subst (λ (es : Entries). Each (λ e. IfSome e.1.row (λ row. length row ≤ 4000)) es) c.in-Some.ensures.steps c.loop-place.invariant.1 in
    (bytes_more c.loop-place.out.items c.put_slot.new.out.items _ c.in-Some.place.now c.in-Some.slot.now c.loop-place.place-iterator c.next.new.self c.in-Some.ensures.steps c.loop-place.invariant.0 c.in_ok-put_slot.ensures, fits.1)

pub returns-clause-sound : goal.returns-clause-sound
returns-clause-sound c =
    let es = c.args.map.now.entries in
    record { ascend = rows_ascend es c.iter-place-items.ensures.ordered; fit = each_stored es c.iter-place-items.ensures.ordered c.requires.sound }
