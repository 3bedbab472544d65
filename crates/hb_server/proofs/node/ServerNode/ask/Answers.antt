use Rattle.std.proofs.Common.{◌≡◌, ℕ, ◌-◌, ◌++◌, ◌∷◌, [], inl, inr, refl, sym, subst, arith, ◌∙◌}
use Rattle.std.proofs.Props.{props}
use mathlib.Core.Logic.{∥∥₁_elim, ∥∥₁_map}
use Rattle.hb_types.specs.declared.answer.Answer.TheVariants as answer
use Rattle.hb_node.specs.Laws.{entry_of}
use Rattle.hb_server.proofs.Entering.{none_images, entered_law, entered_images, passed_law, passed_images, passed_tells}
use Rattle.hb_server.specs.Rooms.{HasEnds, HasRoomFor, entries_of}
use Rattle.hb_server.proofs.FuseLaws.{fit_once}
use Rattle.hb_server.proofs.Rooming.{ends_more, entered_one, had, is_stopped, none_had, room_for}
use Rattle.hb_edge.specs.Fuses.{last_of}
use Rattle.hb_server.specs.Law.{content_of, left_of}
use Rattle.hb_server.proofs.Finding.{reads_told, reads_want}
use Rattle.hb_server.proofs.node.ServerNode.ask.Goals as goal

pub returns-in-Err-clause-images : goal.returns-in-Err-clause-images
returns-in-Err-clause-images g c = λ origin is time.
    rw c.in-Err.ensures.err.0
    (none_images g.D.Disk.content g.D.Disk.left g.D.Disk.last g.S.Store.rows g.S.Store.keeps g.S.Store.staged g.S.Store.point_in c.args.self.now.name.0 c.args.self.now.state origin c.args.self.now.trail.entries c.args.request answer.NoMemory c.args.clock.now c.logs_are_left.ensures time is)

pub returns-then-is_passed-clause-law : goal.returns-then-is_passed-clause-law
returns-then-is_passed-clause-law g c = λ origin is time. rw (c.advance-answer.ensures.entries ∙ c.in-Ok.ensures.ok.1) (passed_law g.D.Disk.content g.D.Disk.left g.D.Disk.last g.S.Store.rows g.S.Store.keeps g.S.Store.staged g.S.Store.point_in c.args.self.now.name.0 c.args.self.now.state c.advance-answer.new.state c.args.request c.advance-answer.result c.args.clock.now c.advance-answer.new.clock time (c.advance-answer.ensures.in_time time) c.logs_are_left-2.ensures c.advance-answer.ensures.goes (c.advance-answer.ensures.passes (sym c.is_passed.ensures ∙ c.if-is_passed.true)) origin c.args.self.now.trail.entries is)

pub returns-then-is_passed-clause-images : goal.returns-then-is_passed-clause-images
returns-then-is_passed-clause-images g c = λ origin is time. rw (c.advance-answer.ensures.entries ∙ c.in-Ok.ensures.ok.1) (passed_images g.D.Disk.content g.D.Disk.left g.D.Disk.last g.S.Store.rows g.S.Store.keeps g.S.Store.staged g.S.Store.point_in c.args.self.now.name.0 c.args.self.now.state c.advance-answer.new.state c.args.request c.advance-answer.result c.args.clock.now c.advance-answer.new.clock time (c.advance-answer.ensures.in_time time) c.logs_are_left-2.ensures c.advance-answer.ensures.goes (c.advance-answer.ensures.passes (sym c.is_passed.ensures ∙ c.if-is_passed.true)) origin c.args.self.now.trail.entries is)

pub returns-clause-law : goal.returns-clause-law
returns-clause-law g c = λ origin is time.
    let more : c.enter.new.self.trail.entries ≡ c.args.self.now.trail.entries ++ entry_of c.args.request c.enter.result c.args.clock.now c.advance-answer.new.clock ∷ [] =
    c.enter.ensures.trail ∙ (λ i. (c.advance-answer.ensures.entries ∙ c.in-Ok.ensures.ok.1) i ++ entry_of c.args.request c.enter.result (c.moment-from.ensures i) (c.moment.ensures i) ∷ []) in
    rw (c.enter.ensures.name, c.enter.ensures.state) (entered_law g.D.Disk.content g.D.Disk.left g.D.Disk.last g.S.Store.rows g.S.Store.keeps g.S.Store.staged g.S.Store.point_in c.args.self.now.name.0 c.args.self.now.state c.advance-answer.new.state c.args.request c.advance-answer.result c.args.clock.now c.advance-answer.new.clock time (c.advance-answer.ensures.in_time time) c.logs_are_left-2.ensures c.advance-answer.ensures.goes origin c.args.self.now.trail.entries c.enter.new.self.trail.entries c.enter.result c.enter.ensures.told more is)

pub returns-clause-images : goal.returns-clause-images
returns-clause-images g c = λ origin is time.
    let more : c.enter.new.self.trail.entries ≡ c.args.self.now.trail.entries ++ entry_of c.args.request c.enter.result c.args.clock.now c.advance-answer.new.clock ∷ [] =
    c.enter.ensures.trail ∙ (λ i. (c.advance-answer.ensures.entries ∙ c.in-Ok.ensures.ok.1) i ++ entry_of c.args.request c.enter.result (c.moment-from.ensures i) (c.moment.ensures i) ∷ []) in
    rw c.enter.ensures.state (entered_images g.D.Disk.content g.D.Disk.left g.D.Disk.last g.S.Store.rows g.S.Store.keeps g.S.Store.staged g.S.Store.point_in c.args.self.now.name.0 c.args.self.now.state c.advance-answer.new.state c.args.request c.advance-answer.result c.args.clock.now c.advance-answer.new.clock time (c.advance-answer.ensures.in_time time) c.logs_are_left-2.ensures c.advance-answer.ensures.goes origin c.args.self.now.trail.entries c.enter.new.self.trail.entries c.enter.result c.enter.ensures.told more is)

pub advance-answer-requires-clause-fit : goal.advance-answer-requires-clause-fit
advance-answer-requires-clause-fit g c = ∥∥₁_elim c.args.self.now.fit (fit_once g.S.Store.rows g.S.Store.room c.args.self.now.state) (λ f. f)

pub advance-answer-requires-clause-room : goal.advance-answer-requires-clause-room
advance-answer-requires-clause-room g c =
    subst (λ (n : ℕ). ∥ HasRoomFor g.S.Store.rows g.S.Store.room c.args.self.now.state c.args.request n ∥₁) (sym c.in-Ok.ensures.ok.0)
    (∥∥₁_map c.args.self.now.ends (λ e. room_for g.S.Store.rows g.S.Store.room c.args.self.now.state c.args.request c.args.self.now.trail.spare e))

pub returns-in-Err-clause-memory : goal.returns-in-Err-clause-memory
returns-in-Err-clause-memory g c = λ none want.
    let both = none_had c.args.request c.args.self.now.trail.spare none c.in-Err.ensures.err.1 in (
      both.0,
      ∥∥₁_elim c.args.self.now.ends (hlevel props) (λ e. is_stopped g.S.Store.rows g.S.Store.room c.args.self.now.state (subst (λ (n : ℕ). HasEnds g.S.Store.rows g.S.Store.room c.args.self.now.state n) both.1 e)),
    )

pub returns-then-is_passed-clause-memory : goal.returns-then-is_passed-clause-memory
returns-then-is_passed-clause-memory g c = λ none want. absurd (had c.advance-answer.result (c.advance-answer.ensures.memory none) want)

pub returns-clause-memory : goal.returns-clause-memory
returns-clause-memory g c = λ none want. absurd (c.enter.ensures.plain (c.advance-answer.ensures.memory none) want)

pub enter-requires-clause-spare : goal.enter-requires-clause-spare
enter-requires-clause-spare g c =
    let one = entered_one c.args.request c.advance-answer.result (sym c.is_passed.ensures ∙ c.if-is_passed.false) in
    let room = c.advance-answer.ensures.entry in
    omega (arith, one, room)

pub enter-requires-clause-ends : goal.enter-requires-clause-ends
enter-requires-clause-ends g c =
    let one = entered_one c.args.request c.advance-answer.result (sym c.is_passed.ensures ∙ c.if-is_passed.false) in
    subst (λ (n : ℕ). ∥ HasEnds g.S.Store.rows g.S.Store.room c.advance-answer.new.state (c.advance-answer.new.trail.spare - n) ∥₁) one c.advance-answer.ensures.ends

pub invariant_of-self-2 : goal.invariant_of-self-2
invariant_of-self-2 g c = record {
  numbered = c.args.self.now.numbered;
  fit = ∣ c.advance-answer.ensures.fit ∣₁;
  ends = ∥∥₁_map c.advance-answer.ensures.ends (λ e. ends_more g.S.Store.rows g.S.Store.room c.advance-answer.new.state (c.advance-answer.new.trail.spare - entries_of c.args.request c.advance-answer.result) c.advance-answer.new.trail.spare (omega arith) e);
}

pub returns-in-Err-clause-finds : goal.returns-in-Err-clause-finds
returns-in-Err-clause-finds g c = λ start in_time. reads_want (content_of g.D.Disk.content) (left_of g.D.Disk.left) (last_of g.D.Disk.last) g.S.Store.point_in g.S.Store.header_in c.args.self.now.state

pub returns-then-is_passed-clause-finds : goal.returns-then-is_passed-clause-finds
returns-then-is_passed-clause-finds g c = λ start in_time. c.advance-answer.ensures.finds start in_time

pub returns-clause-finds : goal.returns-clause-finds
returns-clause-finds g c = λ start in_time.
    reads_told (content_of g.D.Disk.content) (left_of g.D.Disk.left) (last_of g.D.Disk.last) g.S.Store.point_in g.S.Store.header_in c.args.self.now.state c.advance-answer.result c.enter.result c.enter.ensures.told (c.advance-answer.ensures.finds start in_time)

pub returns-in-Err-clause-told : goal.returns-in-Err-clause-told
returns-in-Err-clause-told g c = inl refl

pub returns-then-is_passed-clause-told : goal.returns-then-is_passed-clause-told
returns-then-is_passed-clause-told g c = inl (passed_tells c.args.request c.advance-answer.result (sym c.is_passed.ensures ∙ c.if-is_passed.true))

pub returns-clause-told : goal.returns-clause-told
returns-clause-told g c =
    inr (c.enter.ensures.trail ∙ (λ i. (c.advance-answer.ensures.entries ∙ c.in-Ok.ensures.ok.1) i ++ entry_of c.args.request c.enter.result (c.moment-from.ensures i) (c.moment.ensures i) ∷ []))
