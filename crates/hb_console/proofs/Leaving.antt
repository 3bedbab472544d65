-- What nodes that are lawful leave on the disks that they give back.
use Rattle.std.proofs.Common.{◌≡◌, ◌≢◌, ℕ, zero, suc, ◌+◌, ◌<◌, ◌≤◌, ◌==◌, Bool, List, [], ◌∷◌, length, get_or, refl, sym, ◌∙◌, ap, subst, arith}
use Rattle.std.specs.Prelude.{Option, Some, slice_get}
use Rattle.std.proofs.lemmas.Bool.{ne_eqb}
use Rattle.std.proofs.lemmas.Option.{slice_get-get_or}
use Rattle.hb_edge.specs.Images.{Image}
use Rattle.hb_types.specs.declared.trail.TrailEntry.{TrailEntry}
use Rattle.hb_runs.specs.ServerRuns.{Asked}
use Rattle.hb_node.specs.Laws.{State, Explains, asked_of}
use Rattle.hb_node.specs.Lists.{Lists}
use Rattle.hb_reach.specs.Goes.{IsLawful}
use Rattle.hb_reach.specs.Names.{AreNumbered}
use Rattle.hb_reach.specs.Told.{Meanings, Told, told_of, told_at, seen, mgr}
use Rattle.hb_acts.specs.Leaving.{NodesLeft}
use Rattle.hb_system.specs.Giving.{Gives}
use Rattle.hb_system.specs.Making.{front_origin, origin_of, server_origin}
use Rattle.hb_system.specs.Variants.{of_kind}
use Rattle.hb_system.specs.declared.node.SystemNode.{SystemNode}
use Rattle.hb_system.specs.declared.node.SystemNode.TheVariants.{Front, Server}
use Rattle.hb_console.specs.Leaving.{AreLawful, ServersLeft, SystemLeft}

-- ---- nodes after a script

module _ {N M : Type 0} (n : Meanings N) (m : Meanings M) (from to : ℕ) (old new : List N) (manager : M) (lists : Lists) (left : NodesLeft n m from to old manager lists new) (few : length old ≤ mgr)
    (same : length new ≡ length old) where
  told_here : (nodes : List N) (at : M) (moment k : ℕ) (d : N) → k < length nodes → length nodes ≤ mgr → (seen n m nodes at moment).node k ≡ told_of n (Some (get_or nodes k d))
  told_here nodes at moment k d within short =
      let apart : k ≢ mgr = λ e. omega (arith, e, within, short) in
      ap (λ (b : Bool). told_at n m nodes at k b) (ne_eqb k mgr apart) ∙ ap (told_of n) (slice_get-get_or nodes k d within)

  first_old : (k : ℕ) → k < length old → N
  first_old k within = of old within
    where
      of : (nodes : List N) → k < length nodes → N
      of [] inside = absurd (omega (arith, inside))
      of (d ∷ nodes) inside = d

  pub lawful_then : AreLawful n from old → AreLawful n to new
  lawful_then laws k d within =
      let before : k < length old = omega (arith, within, same) in
      let e : N = first_old k before in
      subst (λ (t : Told). IsLawful to (origin_of k) t) (told_here new left.last to k d within (omega (arith, same, few)))
      (left.lawful k (origin_of k) (subst (λ (t : Told). IsLawful from (origin_of k) t) (sym (told_here old manager from k e before few)) (laws k e before)))

  pub listed_then : (k : ℕ) (d : N) → k < length new → lists k ≡ asked_of (n.trail (get_or new k d))
  listed_then k d within = ap (λ (l : Lists). l k) left.listed ∙ ap (λ (t : Told). t.list) (told_here new left.last to k d within (omega (arith, same, few)))

-- ---- nodes and their disks

module _ {D F S : Type 0} (left : D → ℕ → Image → Type 0) (f : Meanings F) (s : Meanings S) (is_first : (node : F) → f.named node ≡ 0) (is_later : (node : S) → 1 ≤ s.named node) (moment : ℕ) (lists : Lists) where
  abbrev both : Meanings (SystemNode F S)
  both = record {
    named = of_kind f.named s.named;
    trail = of_kind f.trail s.trail;
    explains = of_kind f.explains s.explains;
    leaves = of_kind f.leaves s.leaves;
    last = of_kind f.last s.last;
  }

  -- the servers from a number on
  record AreServers (k : ℕ) (nodes : List (SystemNode F S)) : Type 0 where
    later : (i : ℕ) (d : SystemNode F S) → i < length nodes → 1 ≤ of_kind f.named s.named (get_or nodes i d)
    lawful : (i : ℕ) (d : SystemNode F S) → i < length nodes → IsLawful moment server_origin (told_of both (Some (get_or nodes i d)))
    listed : (i : ℕ) (d : SystemNode F S) → i < length nodes → lists (k + i) ≡ asked_of (of_kind f.trail s.trail (get_or nodes i d))

  behind : (k : ℕ) (node : SystemNode F S) (nodes : List (SystemNode F S)) → AreServers k (node ∷ nodes) → AreServers (k + 1) nodes
  behind k node nodes are = record {
    later = λ i d within. are.later (suc i) d (omega (arith, within));
    lawful = λ i d within. are.lawful (suc i) d (omega (arith, within));
    listed = λ i d within. let same : (k + 1) + i ≡ k + suc i = omega arith in ap lists same ∙ are.listed (suc i) d (omega (arith, within));
  }

  servers_left : (k : ℕ) (nodes : List (SystemNode F S)) (disks : List D) → AreServers k nodes → Gives left f.leaves s.leaves nodes disks → ServersLeft left moment lists k disks
  servers_left k [] [] are gives = tt
  servers_left k [] (log ∷ disks) are gives = absurd gives
  servers_left k (Front node ∷ nodes) disks are gives = absurd (omega (arith, is_first node, are.later 0 (Front node) (omega arith)))
  servers_left k (Server node ∷ nodes) [] are gives = absurd gives
  servers_left k (Server node ∷ nodes) (log ∷ []) are gives = absurd gives
  servers_left k (Server node ∷ nodes) (log ∷ area ∷ disks) are gives =
      let here : k + 0 ≡ k = omega arith in
      let listed : lists k ≡ asked_of (s.trail node) = ap lists (sym here) ∙ are.listed 0 (Server node) (omega arith) in (
        λ m in_log in_area after log_left area_left. subst (λ (l : List Asked). Explains server_origin l in_log) (sym listed)
            ((are.lawful 0 (Server node) (omega arith)).images m in_log in_area after ((gives.0 m in_log in_area).1 (log_left, area_left))),
        servers_left (k + 1) nodes disks (behind k (Server node) nodes are) gives.1,
      )

  pub system_left : (nodes : List (SystemNode F S)) (disks : List D) → 1 ≤ length nodes → AreNumbered (of_kind f.named s.named) nodes → AreLawful both moment nodes
      → ((k : ℕ) (d : SystemNode F S) → k < length nodes → lists k ≡ asked_of (of_kind f.trail s.trail (get_or nodes k d))) → Gives left f.leaves s.leaves nodes disks → SystemLeft left moment lists disks
  system_left [] disks some numbered laws listed gives = absurd (omega (arith, some))
  system_left (Server node ∷ nodes) disks some numbered laws listed gives = absurd (omega (arith, is_later node, numbered 0 (Server node) (omega arith)))
  system_left (Front node ∷ nodes) [] some numbered laws listed gives = absurd gives
  system_left (Front node ∷ nodes) (log ∷ disks) some numbered laws listed gives = (
    λ m in_log after log_left. subst (λ (l : List Asked). Explains front_origin l in_log) (sym (listed 0 (Front node) (omega arith)))
        ((laws 0 (Front node) (omega arith)).images m in_log [] after ((gives.0 m in_log).1 log_left)),
    servers_left 1 nodes disks (record {
      later = λ i d within. omega (arith, numbered (suc i) d (omega (arith, within)));
      lawful = λ i d within. laws (suc i) d (omega (arith, within));
      listed = λ i d within. let same : 1 + i ≡ suc i = omega arith in ap lists same ∙ listed (suc i) d (omega (arith, within));
    }) gives.1,
  )
