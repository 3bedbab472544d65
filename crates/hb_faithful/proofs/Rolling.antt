-- What is asked to roll a transaction back is beside its plans, and begins with an Abort.
use Rattle.std.proofs.Common.{◌≡◌, inl, ℕ, List, [], ◌∷◌, false, refl}
use Rattle.std.specs.Prelude.{◌&&◌, if◌then◌else◌}
use Rattle.hb_types.specs.declared.trail.Call.{Call}
use Rattle.hb_model.specs.declared.reply.Reply.{Reply}
use Rattle.hb_model.specs.NodeSets.{has_node, nodes_in, with_node}
use Rattle.hb_talk.specs.Ends.{ending, is_unreached, rollbacks}
use Rattle.hb_talk.specs.Talk.{Follows, ends, asked, Use}
use Rattle.hb_faithful.specs.Planned.{AreBeside, RollingBackCloses}

ending_beside : (u : Use) (left : ℕ) (r said : Reply) (calls : List Call) → Follows false (ending u left r) calls said → (said ≡ r) × AreBeside calls
ending_beside u left r _ _ (asked a n ends) = (refl, (refl, tt))

rollbacks_beside : (u : Use) (prepared : ℕ) (nodes : List ℕ) (left : ℕ) (r said : Reply) (calls : List Call) → Follows false (rollbacks u prepared nodes left r) calls said
    → (said ≡ r) × AreBeside calls
rollbacks_beside u prepared [] left r said calls f = ending_beside u left r said calls f
rollbacks_beside u prepared (n ∷ ns) left r said _ (asked {cs = cs} a i f) =
    let more = rollbacks_beside u prepared ns (if is_unreached a && has_node prepared n then with_node left n else left) r said cs f in (more.0, (refl, more.1))

pub rolling_closes : RollingBackCloses
rolling_closes u prepared r said _ (asked {cs = cs} a i f) =
    let more = rollbacks_beside u prepared (nodes_in u.used) 0 r said cs f in (more.0, record { beside = (refl, more.1); undone = λ says. inl refl })
