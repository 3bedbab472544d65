use Rattle.std.proofs.Common.{◌≡◌, ◌+◌, ◌<◌, ◌≤◌, ◌∙◌, ◌∷◌, sym, ap, subst, take, drop, length, arith, [], if◌then◌else◌}
use Rattle.std.specs.Prelude.{IfSome}
use Rattle.hb_types.specs.Places.{same_place}
use Rattle.hb_types.specs.Rows.{IsRow}
use Rattle.std.proofs.lemmas.List.{drop_more}
use Rattle.std.proofs.lemmas.List.Elements.{All-get_or}
use Rattle.hb_types.specs.declared.change.Change.{Change}
use Rattle.hb_types.specs.Put.{put, put_all}
use Rattle.hb_types.specs.Records.{IsChange}
use Rattle.hb_types.proofs.PutLaws.{put_all-append}
use Rattle.hb_store.specs.Meanings.{count_at}
use Rattle.hb_engine.proofs.Refilling.{next_taken}
use Rattle.hb_redo.proofs.Staying.{fits_row, one_here, one_spent, stays_then}
use Rattle.hb_redo.proofs.apply.apply_all.Goals as goal

pub loop-change-init : goal.loop-change-init
loop-change-init g c = record {
  rows = c.room.ensures.rows;
  room = c.in_ok-room.ensures.added;
  begun = c.room.ensures.begun;
  stays = c.room.ensures.stays;
}

pub apply-requires-clause-room : goal.apply-requires-clause-room
apply-requires-clause-room g c =
    let changes = c.args.changes.now in
    let i = c.loop-change.change-index in
    let item = c.change-item.result in
    let inside : i < length changes = omega arith in
    let base = g.S.Store.room c.args.store.now item.place in
    let rest : drop i changes ≡ item ∷ drop (i + 1) changes = drop_more changes i item inside ∙ ap (λ q. q ∷ drop (i + 1) changes) (sym c.change-item.is) in
    let here : g.S.Store.room c.loop-change.store item.place ≡ base + count_at item.place (item ∷ drop (i + 1) changes) = c.loop-change.invariant.room item.place ∙ ap (λ l. base + count_at item.place l) rest in
    let more : count_at item.place (item ∷ drop (i + 1) changes) ≡ count_at item.place (drop (i + 1) changes) + 1 = one_here item (drop (i + 1) changes) in
    let enough : 1 ≤ g.S.Store.room c.loop-change.store item.place = omega (arith, here, more) in
    subst (λ (x : Change). 1 ≤ g.S.Store.room c.loop-change.store x.place) (sym c.in_ok-copy.ensures) enough

pub apply-requires-clause-row : goal.apply-requires-clause-row
apply-requires-clause-row g c =
    let changes = c.args.changes.now in
    let i = c.loop-change.change-index in
    let item = c.change-item.result in
    let inside : i < length changes = omega arith in
    let fits : IsChange item = subst IsChange (sym c.change-item.is) (All-get_or IsChange changes i item inside c.requires) in
    subst (λ (x : Change). IfSome x.row IsRow) (sym c.in_ok-copy.ensures) (fits_row item fits)

pub loop-change-preserved : goal.loop-change-preserved
loop-change-preserved g c =
    let changes = c.args.changes.now in
    let i = c.loop-change.change-index in
    let item = c.change-item.result in
    let inside : i < length changes = omega arith in
    let copied : c.in_ok-copy.copy ≡ item = c.in_ok-copy.ensures in
    let rest : drop i changes ≡ item ∷ drop (i + 1) changes = drop_more changes i item inside ∙ ap (λ q. q ∷ drop (i + 1) changes) (sym c.change-item.is) in
    let first = g.S.Store.rows c.args.store.now in
    let was = c.loop-change.store in
    let new = c.apply.new.self in
    record {
      rows = c.apply.ensures.rows ∙ ap (put (g.S.Store.rows was)) copied ∙ ap (λ l. put l item) c.loop-change.invariant.rows ∙ sym (put_all-append first (take i changes) (item ∷ []))
          ∙ ap (put_all first) (sym (next_taken changes i item inside c.change-item.is));
      room = λ q. one_spent q item (drop (i + 1) changes) (g.S.Store.room was q) (g.S.Store.room new q)
          (subst (λ (x : Change). g.S.Store.room was q ≡ g.S.Store.room new q + (if same_place q x.place then 1 else 0)) copied (c.apply.ensures.room q)) (g.S.Store.room c.args.store.now q)
          (c.loop-change.invariant.room q ∙ ap (λ l. g.S.Store.room c.args.store.now q + count_at q l) rest);
      begun = c.apply.ensures.begun ∙ c.loop-change.invariant.begun;
      stays = stays_then g.S.Store.keeps g.S.Store.staged c.args.store.now was new c.loop-change.invariant.stays c.apply.ensures.stays;
    }
