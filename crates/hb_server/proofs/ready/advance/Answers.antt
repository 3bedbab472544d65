use Rattle.std.proofs.Common.{ℕ, ◌≤◌, ◌-◌, sym, ◌∙◌, ap, subst}
use mathlib.Core.Logic.{∥∥₁_map}
use Rattle.hb_edge.specs.declared.fused.Fused.{Fused}
use Rattle.hb_edge.specs.Fuses.{last_of}
use Rattle.hb_server.specs.declared.state.State.{State}
use Rattle.hb_server.specs.Law.{Explains, Goes, content_of, last_in, left_of, mended_in}
use Rattle.hb_server.specs.Rooms.{HasEnds, HasRoomFor, entries_of}
use Rattle.hb_server.proofs.Asking.{mended_explains, mended_goes, mended_last}
use Rattle.hb_server.proofs.Rooming.{mended_room}
use Rattle.hb_server.specs.Damages.{Reads}
use Rattle.hb_server.proofs.Finding.{reads_mended}
use Rattle.hb_server.proofs.ready.advance.Goals as goal

pub returns-clause-goes : goal.returns-clause-goes
returns-clause-goes g c = λ first trail is.
    let same = c.mend-held.ensures ∙ ap mended_in c.replace.ensures.value in
    let ready = subst (λ (s : State (Fused g.row.D.Denot) g.row.S.Denot). Explains (content_of g.D.Disk.content) (left_of g.D.Disk.left) (last_of g.D.Disk.last) g.S.Store.rows g.S.Store.keeps g.S.Store.staged g.S.Store.point_in first trail s c.args.clock.now) (sym same) (mended_explains g.D.Disk.content g.D.Disk.left g.D.Disk.last g.S.Store.rows g.S.Store.keeps g.S.Store.staged g.S.Store.point_in first trail c.args.state.now c.args.clock.now is) in
    let went = subst (λ (s : State (Fused g.row.D.Denot) g.row.S.Denot). Goes (content_of g.D.Disk.content) (left_of g.D.Disk.left) (last_of g.D.Disk.last) g.S.Store.rows g.S.Store.keeps g.S.Store.staged g.S.Store.point_in first trail c.args.request.now c.turn-held.result.1 s c.turn-held.result.0 c.args.clock.now c.turn-held.new.clock) same (c.turn-held.ensures.goes first trail ready) in
    mended_goes g.D.Disk.content g.D.Disk.left g.D.Disk.last g.S.Store.rows g.S.Store.keeps g.S.Store.staged g.S.Store.point_in first trail c.args.state.now c.replace-2.new.dest c.args.request.now c.turn-held.result.1 c.args.clock.now c.turn-held.new.clock
    (subst (λ (n : State (Fused g.row.D.Denot) g.row.S.Denot). Goes (content_of g.D.Disk.content) (left_of g.D.Disk.left) (last_of g.D.Disk.last) g.S.Store.rows g.S.Store.keeps g.S.Store.staged g.S.Store.point_in first trail c.args.request.now c.turn-held.result.1 (mended_in c.args.state.now) n c.args.clock.now c.turn-held.new.clock) (sym c.replace-2.ensures.after) went)

pub returns-clause-passes : goal.returns-clause-passes
returns-clause-passes g c = λ passed first trail is.
    let same = c.mend-held.ensures ∙ ap mended_in c.replace.ensures.value in
    let ready = subst (λ (s : State (Fused g.row.D.Denot) g.row.S.Denot). Explains (content_of g.D.Disk.content) (left_of g.D.Disk.left) (last_of g.D.Disk.last) g.S.Store.rows g.S.Store.keeps g.S.Store.staged g.S.Store.point_in first trail s c.args.clock.now) (sym same) (mended_explains g.D.Disk.content g.D.Disk.left g.D.Disk.last g.S.Store.rows g.S.Store.keeps g.S.Store.staged g.S.Store.point_in first trail c.args.state.now c.args.clock.now is) in
    subst (λ (n : State (Fused g.row.D.Denot) g.row.S.Denot). Explains (content_of g.D.Disk.content) (left_of g.D.Disk.left) (last_of g.D.Disk.last) g.S.Store.rows g.S.Store.keeps g.S.Store.staged g.S.Store.point_in first trail n c.turn-held.new.clock) (sym c.replace-2.ensures.after) (c.turn-held.ensures.passes passed first trail ready)

pub turn-held-requires-clause-room : goal.turn-held-requires-clause-room
turn-held-requires-clause-room g c =
    let same = c.mend-held.ensures ∙ ap mended_in c.replace.ensures.value in
    subst (λ (s : State (Fused g.row.D.Denot) g.row.S.Denot). ∥ HasRoomFor g.S.Store.rows g.S.Store.room s c.args.request.now c.args.trail.now.spare ∥₁) (sym same)
    (∥∥₁_map c.requires.room (λ h. mended_room g.S.Store.rows g.S.Store.room c.args.state.now c.args.request.now c.args.trail.now.spare h))

pub returns-clause-ends : goal.returns-clause-ends
returns-clause-ends g c =
    subst (λ (s : State (Fused g.row.D.Denot) g.row.S.Denot). ∥ HasEnds g.S.Store.rows g.S.Store.room s (c.turn-held.new.trail.spare - entries_of c.args.request.now c.turn-held.result.1) ∥₁) (sym c.replace-2.ensures.after) c.turn-held.ensures.ends

pub returns-clause-finds : goal.returns-clause-finds
returns-clause-finds g c = λ start in_time.
    let same = c.mend-held.ensures ∙ ap mended_in c.replace.ensures.value in
    reads_mended g.D.Disk.content g.D.Disk.left g.D.Disk.last g.S.Store.point_in g.S.Store.header_in c.args.state.now c.turn-held.result.1
    (subst (λ (s : State (Fused g.row.D.Denot) g.row.S.Denot). Reads (content_of g.D.Disk.content) (left_of g.D.Disk.left) (last_of g.D.Disk.last) g.S.Store.point_in g.S.Store.header_in s c.turn-held.result.1) same (c.turn-held.ensures.finds start
    (subst (λ (s : State (Fused g.row.D.Denot) g.row.S.Denot). last_in (last_of g.D.Disk.last) s ≤ c.args.clock.now) (sym same) (subst (λ (n : ℕ). n ≤ c.args.clock.now) (sym (mended_last g.D.Disk.last c.args.state.now)) in_time))))
