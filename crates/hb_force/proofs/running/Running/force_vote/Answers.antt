use Rattle.std.proofs.Common.{◌≡◌, refl, arith, ◌+◌, ℕ, List, sym, ◌∙◌, ap, subst, ◌++◌, ◌∷◌, []}
use mathlib.Core.Logic.{∥∥₁_elim, ∥∥₁_map}
use Rattle.std.proofs.Props.{props}
use Rattle.hb_edge.specs.Runs.{weaker}
use Rattle.hb_types.specs.declared.answer.Answer.TheVariants as answer
use Rattle.hb_types.specs.declared.request.Request.TheVariants as request
use Rattle.hb_types.specs.declared.change.Stored.{Stored}
use Rattle.hb_types.specs.declared.change.Change.{Change}
use Rattle.hb_types.specs.Records.{framed}
use Rattle.hb_store.specs.Meanings.{count_at}
use Rattle.hb_runs.specs.Server.{SState}
use Rattle.hb_runs.specs.ServerEffects.{happens, prepared}
use Rattle.hb_runs.specs.ServerRuns.{Turns}
use Rattle.hb_engine.specs.Turned.{StandsFor}
use Rattle.hb_force.proofs.Answering.{voted_well}
use Rattle.hb_force.proofs.Making.{on_err}
use Rattle.hb_force.proofs.Measuring.{spelled_long}
use Rattle.hb_force.proofs.Turning.{between_none, voted_turn, vote_between, vote_faults, vote_room, place_room, vote_state}
use Rattle.hb_force.proofs.Following.{unprepared}
use Rattle.hb_force.proofs.Keeping.{kept_store, kept_voted}
use Rattle.hb_force.proofs.running.Running.force_vote.Goals as goal

pub returns-in-Err-clause-leaves : goal.returns-in-Err-clause-leaves
returns-in-Err-clause-leaves g c = λ from read s up.
    between_none g.D.Disk.content g.D.Disk.left g.D.Disk.last g.S.Store.rows from read s c.args.self.now c.args.clock.now up (request.Prepare c.args.tx) (g.met.D.Disk.stands c.args.self.now.log.disk)

pub returns-in_err-append-clause-faulted : goal.returns-in_err-append-clause-faulted
returns-in_err-append-clause-faulted g c = on_err c.from_residual.result _ (λ from read s up.
    let v = c.requires.is_vote (g.S.Store.rows c.args.self.now.store) s up.stands in
    vote_faults g.D.Disk.content g.D.Disk.left g.D.Disk.last g.S.Store.rows from read s c.args.self.now c.args.clock.now up c.args.tx v.0 v.1
    (vote_room g.D.Disk.content g.D.Disk.left g.D.Disk.last g.S.Store.rows from read s c.args.self.now c.args.clock.now up v.0 c.args.vote.now v.2 (c.requires.place (g.S.Store.rows c.args.self.now.store) s up.stands)))

pub returns-in_err-append-clause-leaves : goal.returns-in_err-append-clause-leaves
returns-in_err-append-clause-leaves g c = λ from read s up.
    let v = c.requires.is_vote (g.S.Store.rows c.args.self.now.store) s up.stands in
    let room = vote_room g.D.Disk.content g.D.Disk.left g.D.Disk.last g.S.Store.rows from read s c.args.self.now c.args.clock.now up v.0 c.args.vote.now v.2 (c.requires.place (g.S.Store.rows c.args.self.now.store) s up.stands) in
    weaker c.args.clock.now _ _ _ _
    (λ m image le e. (vote_between g.D.Disk.content g.D.Disk.left g.D.Disk.last g.S.Store.rows from read s c.args.self.now c.args.clock.now up c.args.tx v.0 c.args.vote.now image v.1 v.2 room e.0, e.1))
    (c.append.ensures.leaves from (read ++ s.log) c.args.vote.now up.log c.requires.has_record (c.as_slice.ensures ∙ c.requires.spelled))

pub returns-clause-leaves : goal.returns-clause-leaves
returns-clause-leaves g c = λ from read s up.
    let v = c.requires.is_vote (g.S.Store.rows c.args.self.now.store) s up.stands in
    let room = vote_room g.D.Disk.content g.D.Disk.left g.D.Disk.last g.S.Store.rows from read s c.args.self.now c.args.clock.now up v.0 c.args.vote.now v.2 (c.requires.place (g.S.Store.rows c.args.self.now.store) s up.stands) in
    weaker c.args.clock.now _ _ _ _
    (λ m image le e. (vote_between g.D.Disk.content g.D.Disk.left g.D.Disk.last g.S.Store.rows from read s c.args.self.now c.args.clock.now up c.args.tx v.0 c.args.vote.now image v.1 v.2 room e.0, e.1))
    (c.append.ensures.leaves from (read ++ s.log) c.args.vote.now up.log c.requires.has_record (c.as_slice.ensures ∙ c.requires.spelled))

pub returns-clause-turns : goal.returns-clause-turns
returns-clause-turns g c = λ from read s up.
    let v = c.requires.is_vote (g.S.Store.rows c.args.self.now.store) s up.stands in
    let room = vote_room g.D.Disk.content g.D.Disk.left g.D.Disk.last g.S.Store.rows from read s c.args.self.now c.args.clock.now up v.0 c.args.vote.now v.2 (c.requires.place (g.S.Store.rows c.args.self.now.store) s up.stands) in
    voted_turn g.D.Disk.content g.D.Disk.left g.D.Disk.last g.S.Store.rows from read s c.args.self.now c.args.clock.now up c.args.tx c.voted-floor.result v.0 c.args.vote.now (g.S.Store.rows c.args.self.now.store) _ c.append.new.clock v.1 v.2
    (sym c.room.ensures.rows) (c.voted-floor.ensures (g.S.Store.rows c.args.self.now.store) s v.0 up.stands v.1 room)
    (c.in_ok-append.ensures.done from (read ++ s.log) c.args.vote.now up.log c.requires.has_record (c.as_slice.ensures ∙ c.requires.spelled))

pub returns-clause-follows : goal.returns-clause-follows
returns-clause-follows g c = λ k.
    let v = c.requires.is_vote (g.S.Store.rows c.args.self.now.store) k.state k.stands in
    let place = c.requires.place (g.S.Store.rows c.args.self.now.store) k.state k.stands in
    let t = c.voted-floor.ensures (g.S.Store.rows c.args.self.now.store) k.state v.0 k.stands v.1 (place_room k.state c.args.self.now.log.end v.0 c.args.vote.now k.end_is v.2 place) in
    let here = vote_state k.state c.args.tx c.voted-floor.result (λ t. StandsFor c.voted-floor.new.self (g.S.Store.rows c.args.self.now.store) t) t in
    let spelled : c.as_slice.result.now ≡ framed c.args.vote.now ++ 0 ∷ [] = c.as_slice.ensures ∙ c.requires.spelled in
    let n = kept_voted g.S.Store.rows g.S.Store.room c.args.self.now k _ c.args.tx v.0 c.args.vote.now v.1 v.2 place
    (subst (λ (l : List Stored). StandsFor c.voted-floor.new.self l (happens k.state (prepared c.args.tx.0))) (sym c.room.ensures.rows)
    (subst (λ (x : SState). StandsFor c.voted-floor.new.self (g.S.Store.rows c.args.self.now.store) x) (sym here) t.at))
    (c.in_ok-append.ensures.end ∙ ap (λ (n : ℕ). c.args.self.now.log.end + n) (spelled_long c.args.vote.now c.as_slice.result.now spelled))
    (λ p. c.in-Ok.ensures.added p ∙ ap (λ (l : List Change). g.S.Store.room c.args.self.now.store p + count_at p l) c.changes_of.ensures) in
    (n.0, subst (λ (x : SState). Turns k.state (record { request = request.Prepare c.args.tx; answer = answer.Vote c.voted-floor.result }) x) (sym here ∙ n.1) t.turn)

pub returns-clause-kept : goal.returns-clause-kept
returns-clause-kept g c = ∥∥₁_map c.requires.kept (λ k. (returns-clause-follows g c k).0)

pub append-requires-clause-fits : goal.append-requires-clause-fits
append-requires-clause-fits g c = ∥∥₁_elim c.requires.kept (hlevel props) (λ k.
    let place = c.requires.place (g.S.Store.rows c.args.self.now.store) k.state k.stands in
    let fits = place.0 in
    let long = spelled_long c.args.vote.now c.as_slice.result.now (c.as_slice.ensures ∙ c.requires.spelled) in
    omega (arith, fits, long))

pub returns-in-Err-clause-follows : goal.returns-in-Err-clause-follows
returns-in-Err-clause-follows g c = λ k.
    let n = kept_store g.S.Store.rows g.S.Store.room c.args.self.now k _ refl refl c.room.ensures.rows (λ place. let none = c.in-Err.ensures.none place in omega (arith, none)) in
    (n.0, subst (λ (x : SState). Turns k.state (record { request = request.Prepare c.args.tx; answer = answer.NoMemory }) x) n.1 (unprepared k.state c.args.tx answer.NoMemory k.stands.up refl refl))

pub returns-in-Err-clause-kept : goal.returns-in-Err-clause-kept
returns-in-Err-clause-kept g c = ∥∥₁_map c.requires.kept (λ k. (returns-in-Err-clause-follows g c k).0)

pub returns-clause-well_formed : goal.returns-clause-well_formed
returns-clause-well_formed g c = ∥∥₁_elim c.requires.kept (hlevel props) (λ k.
    let v = c.requires.is_vote (g.S.Store.rows c.args.self.now.store) k.state k.stands in
    let place = c.requires.place (g.S.Store.rows c.args.self.now.store) k.state k.stands in
    let t = c.voted-floor.ensures (g.S.Store.rows c.args.self.now.store) k.state v.0 k.stands v.1 (place_room k.state c.args.self.now.log.end v.0 c.args.vote.now k.end_is v.2 place) in
    voted_well k.state c.args.tx c.voted-floor.result k.stands.up k.sound t.turn.right)
