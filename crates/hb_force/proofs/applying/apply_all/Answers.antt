use Rattle.std.proofs.Common.{◌≡◌, ◌+◌, length, take, sym, ◌∙◌, ap, arith, rules, ◌++◌, ◌∷◌, [], ℕ}
use Rattle.std.proofs.lemmas.Iterator.Consumers.{YieldsList-turn}
use Rattle.std.proofs.lemmas.Iterator.Adapters.{YieldsList-from_vec}
use Rattle.std.proofs.lemmas.List.{length_push}
use Rattle.hb_types.specs.Put.{put, put_all}
use Rattle.hb_store.specs.Meanings.{count_at}
use Rattle.hb_force.proofs.Making.{put_more, count_more, count_front, place_itself, stays_then}
use Rattle.hb_force.proofs.applying.apply_all.Goals as goal

pub apply-requires-clause-room : goal.apply-requires-clause-room
apply-requires-clause-room g c =
    let xs = c.args.changes.items in
    let x = c.in-Some.change in
    let turn = YieldsList-turn (YieldsList-from_vec {s = c.into_iter-change-iterator.result} xs (search rules) (search rules))
    c.loop-change.yielded c.loop-change.change-iterator c.loop-change.yielded_by c.next.result c.next.new.self x c.in-Some.is c.next.ensures.steps in
    let more = count_more x.place xs (length c.loop-change.yielded) x turn.0 turn.1 in
    let front = count_front x.place xs (length c.loop-change.yielded + 1) in
    let room = c.requires.room x.place in
    let gone = c.loop-change.invariant.1 x.place in
    let itself = place_itself x.place in
    omega (arith, more, front, room, gone, itself)

pub loop-change-preserved : goal.loop-change-preserved
loop-change-preserved g c =
    let xs = c.args.changes.items in
    let x = c.in-Some.change in
    let turn = YieldsList-turn (YieldsList-from_vec {s = c.into_iter-change-iterator.result} xs (search rules) (search rules))
    c.loop-change.yielded c.loop-change.change-iterator c.loop-change.yielded_by c.next.result c.next.new.self x c.in-Some.is c.next.ensures.steps in
    let long : length (c.loop-change.yielded ++ x ∷ []) ≡ length c.loop-change.yielded + 1 = omega (arith, length_push c.loop-change.yielded x) in (
      c.apply.ensures.rows ∙ ap (λ l. put l x) c.loop-change.invariant.0 ∙ sym (put_more (g.S.Store.rows c.args.store.now) xs (length c.loop-change.yielded) x turn.0 turn.1) ∙ ap (λ (n : ℕ). put_all (g.S.Store.rows c.args.store.now) (take n xs)) (sym long),
      λ place.
          let more = count_more place xs (length c.loop-change.yielded) x turn.0 turn.1 in
          let gone = c.loop-change.invariant.1 place in
          let one = c.apply.ensures.room place in
          let count = ap (λ (n : ℕ). count_at place (take n xs)) long in
          omega (arith, more, gone, one, count),
      stays_then g.S.Store.keeps g.S.Store.staged c.args.store.now c.loop-change.store c.apply.new.self c.loop-change.invariant.2 c.apply.ensures.stays,
    )
