-- Writes as accesses with what is behind them.
use Rattle.std.proofs.Common.{◌≡◌, ◌+◌, Bool, true, false, List, ◌∷◌, Err, refl, ap, sym, ◌∙◌, subst}
use Rattle.std.specs.Prelude.{nat_lt, if◌then◌else◌}
use Rattle.hb_types.specs.declared.change.Change.{Change}
use Rattle.hb_types.specs.Places.{node_of_area}
use Rattle.hb_model.specs.Does.{most_bytes}
use Rattle.hb_model.specs.declared.reply.Reply.{Reply}
use Rattle.hb_model.specs.declared.reply.Reply.TheVariants as reply
use Rattle.hb_talk.specs.Talk.{Talk, says, asks, going_on, Use, and_then, ◌>>◌, pure, refused, write}
use Rattle.hb_talk.specs.Plans.{sizes, writing, writes}
use Rattle.hb_access.specs.declared.access.Next.{Next}
use Rattle.hb_access.specs.declared.access.Next.TheVariants as next
use Rattle.hb_access.specs.declared.usage.Usage.{Usage}
use Rattle.hb_access.specs.Accesses.{Accessing, use_of, written, keeps_nodes}
use Rattle.hb_access.specs.Accesses as access
use Rattle.hb_access.proofs.Bridges.{writes_one}
use Rattle.hb_access.proofs.Nodes.{goes_on}
use Rattle.hb_access.proofs.Sequences.{plans_assoc}
use Rattle.hb_writes.specs.declared.writing.Begun.{Begun}
use Rattle.hb_writes.specs.declared.writing.Begun.TheVariants as begun
use Rattle.hb_writes.specs.declared.writing.Taken.{Taken}
use Rattle.hb_writes.specs.declared.writing.Taken.TheVariants as taken
use Rattle.hb_writes.specs.Underway.{Underway}
use Rattle.hb_writes.specs.Writings.{Replied, behind, replying, IsSameUse, StartsAt, Starts, Begins, NextIs, Goes, rolls}

-- ---- writes, one in front

pub first_write : (c : Change) (more : List Change) (r : Reply) (u : Use)
    → replying (c ∷ more) r u ≡ behind (replying more r) (written (node_of_area c.place.space.area) c u)
first_write c more r u =
    let n = node_of_area c.place.space.area in
    plans_assoc (write n c) (λ _. writing more) (λ _. pure r) u ∙ writes_one (record { 0 = n }) c (replying more r) (λ _. replying more r) (λ v. refl) u

-- ---- how writes begin

abbrev counted_use : Use → List Change → Use
counted_use u changes = record u { bytes = u.bytes + sizes changes }

abbrev by_room : List Change → Reply → Use → Bool → Talk Replied
by_room changes r u b = going_on (λ p. and_then (λ _. pure r) p.1 p.0) (if b then refused reply.TooMuch u else writing changes (counted_use u changes))

pub with_room : (changes : List Change) (r : Reply) (u : Use) → nat_lt most_bytes (u.bytes + sizes changes) ≡ false
    → (writes changes >> pure r) u ≡ replying changes r (counted_use u changes)
with_room changes r u room = ap (by_room changes r u) room

pub too_much : (changes : List Change) (r : Reply) (u : Use) → nat_lt most_bytes (u.bytes + sizes changes) ≡ true
    → (writes changes >> pure r) u ≡ says (Err reply.TooMuch, u)
too_much changes r u much = ap (by_room changes r u) much

same_use : (u v w : Usage) → IsSameUse u v → IsSameUse v w → IsSameUse u w
same_use u v w before after = (after.0 ∙ before.0, after.1 ∙ before.1)

pub starts_from : (b : Begun) (talk its : Talk Replied) (u v : Usage) → talk ≡ its → IsSameUse u v → StartsAt its v b → StartsAt talk u b
starts_from (begun.Writing w) talk its u v is same at = (at.0, is ∙ at.1, same_use u v w.access.usage same at.2)
starts_from (begun.Replied r w) talk its u v is same at = (is ∙ at.0, same_use u v w same at.1)
starts_from (begun.Refused r w) talk its u v is same at = (is ∙ at.0, same_use u v w same at.1)

pub begins_counted : (u v : Usage) (changes : List Change) (r : Reply) (b : Begun) → nat_lt most_bytes (u.bytes + sizes changes) ≡ false
    → use_of v ≡ record (use_of u) { bytes = u.bytes + sizes changes } → IsSameUse u v → Starts v changes r b → Begins u changes r b
begins_counted u v changes r b room is same starts =
    starts_from b ((writes changes >> pure r) (use_of u)) (replying changes r (use_of v)) u v
    (with_room changes r (use_of u) room ∙ ap (replying changes r) (sym is)) same starts

-- ---- steps

pub asks_next : (old new : Underway) (n : Next) → new.left ≡ old.left → new.reply ≡ old.reply → access.NextIs old.access new.access n → NextIs old new n
asks_next old new (next.Ask node q) left same at = (
  at.0,
  ap (behind (replying old.left old.reply)) at.1
      ∙ ap (λ cs. asks node.0 q (λ a. behind (replying cs old.reply) (access.now_hears new.access a))) (sym left)
      ∙ ap (λ r. asks node.0 q (λ a. behind (replying new.left r) (access.now_hears new.access a))) (sym same),
)
asks_next old new (next.Refused r) left same at = ap (behind (replying old.left old.reply)) at

pub goes_from : (talk its : Talk Replied) (new : Underway) (t : Taken) → talk ≡ its → Goes its new t → Goes talk new t
goes_from talk its new taken.More is at = (at.0, is ∙ at.1)
goes_from talk its new (taken.Replied r) is at = is ∙ at
goes_from talk its new (taken.Refused r) is at = is ∙ at

-- ---- nodes

pub came_keeps : (old w new : Underway) (next : Accessing) (t : Taken) → w ≡ old → keeps_nodes w.access.usage.used.0 next.usage.used.0 false ≡ true
    → new.access.usage.used.0 ≡ next.usage.used.0 → keeps_nodes old.access.usage.used.0 new.access.usage.used.0 (rolls t) ≡ true
came_keeps old w new next t is kept same =
    subst (λ (o : Underway). keeps_nodes o.access.usage.used.0 new.access.usage.used.0 (rolls t) ≡ true) is
    (goes_on w.access.usage.used.0 next.usage.used.0 new.access.usage.used.0 (rolls t) kept same)
