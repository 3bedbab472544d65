use Rattle.std.proofs.Common.{refl, subst, arith, None, Some}
use mathlib.Core.Logic.{∥∥₁_elim}
use Rattle.hb_engine.specs.Ends.{IsVote}
use Rattle.hb_types.specs.declared.answer.Answer.TheVariants as answer
use Rattle.hb_types.specs.declared.request.Request.TheVariants as request
use Rattle.hb_force.proofs.Following.{no_place, refused, unprepared}
use Rattle.hb_force.proofs.Once.{record_once}
use Rattle.hb_force.proofs.Turning.{between_none, refused_turn, stays_up, vote_no_room, votes_record}
use Rattle.hb_force.proofs.running.Running.prepare.Goals as goal

pub returns-in-Err-clause-leaves : goal.returns-in-Err-clause-leaves
returns-in-Err-clause-leaves g c = λ from read s up.
    between_none g.D.Disk.content g.D.Disk.left g.D.Disk.last g.S.Store.rows from read s c.args.self.now c.args.clock.now up (request.Prepare c.args.tx) (g.met.D.Disk.stands c.args.self.now.log.disk)

pub frame_vote-requires : goal.frame_vote-requires
frame_vote-requires g c = λ short. ∥∥₁_elim c.requires.kept (record_once c.rows_have_one_form.ensures.one_form c.in-Ok-Some.vote) (λ k.
    let v : IsVote k.state c.args.tx.0 (Some c.in-Ok-Some.vote) = subst (IsVote k.state c.args.tx.0) c.in-Ok-Some.field-0-is (c.in-Ok-Some.ensures (g.S.Store.rows c.args.self.now.store) k.state k.stands) in
    votes_record c.args.self.now.engine (g.S.Store.rows c.args.self.now.store) k.state c.args.tx v.0 k.stands v.1 c.in-Ok-Some.vote v.2 k.sound short)

pub returns-in-Err-frame_vote-clause-turns : goal.returns-in-Err-frame_vote-clause-turns
returns-in-Err-frame_vote-clause-turns g c = λ from read s up.
    let v : IsVote s c.args.tx.0 (Some c.in-Ok-Some.vote) = subst (IsVote s c.args.tx.0) c.in-Ok-Some.field-0-is (c.in-Ok-Some.ensures (g.S.Store.rows c.args.self.now.store) s up.stands) in
    let end = c.end.ensures in
    let votes = c.votes.ensures (g.S.Store.rows c.args.self.now.store) s up.stands in
    refused_turn g.D.Disk.content g.D.Disk.left g.D.Disk.last g.S.Store.rows from read s c.args.self.now c.args.clock.now up c.args.tx c.in-Err-frame_vote.refusal c.answer.result v.0 _ c.args.clock.now v.1 c.answer.ensures.spent c.answer.ensures.no_memory
    (λ e. vote_no_room g.D.Disk.content g.D.Disk.left g.D.Disk.last g.S.Store.rows from read s c.args.self.now c.args.clock.now up v.0 c.in-Ok-Some.vote v.2
    (λ place. c.in-Err-frame_vote.ensures.spent e (let fits = place.0 in omega (arith, fits, end, votes), place.1)))
    (stays_up g.D.Disk.content g.D.Disk.left g.D.Disk.last g.S.Store.rows from read s c.args.self.now c.args.clock.now up s _ c.args.clock.now (omega arith) refl up.stands refl refl)

pub returns-in-Err-frame_vote-clause-leaves : goal.returns-in-Err-frame_vote-clause-leaves
returns-in-Err-frame_vote-clause-leaves g c = λ from read s up.
    between_none g.D.Disk.content g.D.Disk.left g.D.Disk.last g.S.Store.rows from read s c.args.self.now c.args.clock.now up (request.Prepare c.args.tx) (g.met.D.Disk.stands c.args.self.now.log.disk)

pub force_vote-requires-clause-has_record : goal.force_vote-requires-clause-has_record
force_vote-requires-clause-has_record g c = ∥∥₁_elim c.requires.kept (record_once c.rows_have_one_form.ensures.one_form c.in-Ok-Some.vote) (λ k.
    let v : IsVote k.state c.args.tx.0 (Some c.in-Ok-Some.vote) = subst (IsVote k.state c.args.tx.0) c.in-Ok-Some.field-0-is (c.in-Ok-Some.ensures (g.S.Store.rows c.args.self.now.store) k.state k.stands) in
    votes_record c.args.self.now.engine (g.S.Store.rows c.args.self.now.store) k.state c.args.tx v.0 k.stands v.1 c.in-Ok-Some.vote v.2 k.sound c.in-Ok.ensures.place.1)

pub returns-in-Err-clause-follows : goal.returns-in-Err-clause-follows
returns-in-Err-clause-follows g c = λ k. (k, unprepared k.state c.args.tx answer.NoMemory k.stands.up refl refl)

pub returns-in-Ok-None-clause-follows : goal.returns-in-Ok-None-clause-follows
returns-in-Ok-None-clause-follows g c = λ k.
    let v : IsVote k.state c.args.tx.0 None = subst (IsVote k.state c.args.tx.0) c.in-Ok-None.field-0-is (c.in-Ok-None.ensures (g.S.Store.rows c.args.self.now.store) k.state k.stands) in
    (k, unprepared k.state c.args.tx answer.NoBranch k.stands.up refl v)

pub returns-in-Err-frame_vote-clause-follows : goal.returns-in-Err-frame_vote-clause-follows
returns-in-Err-frame_vote-clause-follows g c = λ k.
    let v : IsVote k.state c.args.tx.0 (Some c.in-Ok-Some.vote) = subst (IsVote k.state c.args.tx.0) c.in-Ok-Some.field-0-is (c.in-Ok-Some.ensures (g.S.Store.rows c.args.self.now.store) k.state k.stands) in
    let end = c.end.ensures in
    let votes = c.votes.ensures (g.S.Store.rows c.args.self.now.store) k.state k.stands in (
      k,
      refused k.state c.args.tx c.in-Err-frame_vote.refusal c.answer.result v.0 k.stands.up v.1 c.answer.ensures.spent c.answer.ensures.no_memory
          (λ e. no_place k.state c.args.self.now.log.end v.0 c.in-Ok-Some.vote k.end_is v.2
          (λ place. c.in-Err-frame_vote.ensures.spent e (let fits = place.0 in omega (arith, fits, end, votes), place.1))),
    )
