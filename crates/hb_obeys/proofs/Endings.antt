-- The votes, the decision, the commits and the rollbacks of a transaction are permitted.
use Rattle.std.proofs.Common.{◌≡◌, inl, inr, ◌⊎◌, ℕ, ◌≤◌, Bool, true, false, List, [], ◌∷◌, ◌++◌, refl, subst, sym, ◌∙◌, if◌then◌else◌, arith}
use Rattle.std.specs.Prelude.{IsTrue, ◌&&◌}
use Rattle.std.specs.List.{range_with_len}
use Rattle.std.proofs.lemmas.Bool.{false≢true}
use Rattle.hb_types.specs.declared.answer.Answer.{Answer}
use Rattle.hb_types.specs.declared.answer.Answer.TheVariants as answer
use Rattle.hb_types.specs.declared.names.Number.{Number}
use Rattle.hb_types.specs.declared.names.Owner.{Owner}
use Rattle.hb_types.specs.declared.request.Request.TheVariants as request
use Rattle.hb_types.specs.declared.request.Vote.{Vote}
use Rattle.hb_types.specs.Lists.{Each, Has, IsIn}
use Rattle.hb_types.proofs.Ascending.{Each-in, Each-of, Has-front, Has-back}
use Rattle.hb_model.specs.declared.reply.Reply.{Reply}
use Rattle.hb_model.specs.NodeSets.{has_node, with_node, nodes_in}
use Rattle.hb_talk.specs.Ends.{rollbacks, rolling_back, commits, committing, voting, voted, decided, end_refusal, is_unreached, is_done, fes1}
use Rattle.hb_talk.specs.Talk.{Use, mgr, the_tx}
use Rattle.hb_law.specs.Callers.{is_settled}
use Rattle.hb_obeys.proofs.Members.{AreDistinct, Has-last, filter-from, filter-to, filter-distinct, range-distinct, range-has}
use Rattle.hb_obeys.proofs.Obeying.{Always, Caller}
use Rattle.hb_obeys.proofs.Permits.{may_abort, may_ask, may_commit, may_decide, may_undo}
use Rattle.hb_obeys.proofs.Planning.{IsWider, plainly, within}
use Rattle.hb_obeys.proofs.Standing.{Moment, Standing, behind, inside}

-- no other transaction begun
abbrev pub Counts : {R : Type 0} → ℕ → Moment → R → Type 0
Counts begun m r = m.begun ≡ begun

-- ---- the nodes of a set

nodes_used : (used : ℕ) → Each (λ n. has_node used n ≡ true) (nodes_in used)
nodes_used used = Each-in (λ n. has_node used n ≡ true) (nodes_in used) (λ n i. (filter-from (has_node used) n (range_with_len 0 11) i).1)

used_nodes : (used n : ℕ) → n ≤ mgr → has_node used n ≡ true → IsIn n (nodes_in used)
used_nodes used n here there = filter-to (has_node used) n (range_with_len 0 11) (range-has 0 11 n (omega arith) (omega (arith, here))) there

nodes_apart : (used : ℕ) → AreDistinct (nodes_in used)
nodes_apart used = filter-distinct (has_node used) (range_with_len 0 11) (range-distinct 0 11)

module _ (w : Caller) (begun : ℕ) where
  -- ---- rolling back

  -- where at least the nodes to roll back were enlisted
  rollbacks_obey : (u : Use) (wide prepared : ℕ) (ns : List ℕ) (left : ℕ) (r : Reply) (ps : List ℕ) (votes : List Vote) (ds : List Answer) (b : Bool)
      → (Has (λ a. IsTrue (is_settled a)) ds → ⊥) → Each (λ n. has_node wide n ≡ true) ns
      → Always w (rollbacks u prepared ns left r) (inside begun (record { tx = u.tx; used = wide; prepared = ps; votes = votes; decisions = ds; undone = b })) (Counts begun)
  rollbacks_obey u wide prepared [] left r ps votes ds b off there = ((plainly, λ front st. tt), λ a. refl)
  rollbacks_obey u wide prepared (n ∷ ns) left r ps votes ds b off there =
      let s : Standing = record { tx = u.tx; used = wide; prepared = ps; votes = votes; decisions = ds; undone = b } in (
        (plainly, λ front st. inl (may_undo s front n there.0 off st.stands)),
        λ a. rollbacks_obey u wide prepared ns (if is_unreached a && has_node prepared n then with_node left n else left) r ps votes ds true off there.1,
      )

  rolling_back_wide : (u : Use) (wide prepared : ℕ) (r : Reply) (ps : List ℕ) (votes : List Vote) (ds : List Answer)
      → (Has (λ a. IsTrue (is_settled a)) ds → ⊥) → Each (λ n. has_node wide n ≡ true) (nodes_in u.used)
      → Always w (rolling_back u prepared r) (inside begun (record { tx = u.tx; used = wide; prepared = ps; votes = votes; decisions = ds; undone = false })) (Counts begun)
  rolling_back_wide u wide prepared r ps votes ds off there =
      let s : Standing = record { tx = u.tx; used = wide; prepared = ps; votes = votes; decisions = ds; undone = false } in (
        (plainly, λ front st. may_abort s front off st.stands),
        λ a. rollbacks_obey u wide prepared (nodes_in u.used) 0 r ps votes ds true off there,
      )

  pub rolling_back_obeys : (u : Use) (prepared : ℕ) (r : Reply) (ps : List ℕ) (votes : List Vote) (ds : List Answer)
      → (Has (λ a. IsTrue (is_settled a)) ds → ⊥)
      → Always w (rolling_back u prepared r) (inside begun (record { tx = u.tx; used = u.used; prepared = ps; votes = votes; decisions = ds; undone = false })) (Counts begun)
  rolling_back_obeys u prepared r ps votes ds off = rolling_back_wide u u.used prepared r ps votes ds off (nodes_used u.used)

  -- where more nodes were enlisted than are used, with nothing decided or undone
  pub rolling_back_within : (u v : Use) (prepared : ℕ) (r : Reply) → IsWider u v → Always w (rolling_back u prepared r) (within begun v) (Counts begun)
  rolling_back_within u v prepared r wider =
      subst (λ tx. Always w (rolling_back u prepared r) (inside begun (record { tx = tx; used = v.used; prepared = []; votes = []; decisions = []; undone = false })) (Counts begun)) (sym wider.tx)
      (rolling_back_wide u v.used prepared r [] [] [] (λ h. h) (Each-of (λ n. has_node u.used n ≡ true) (λ n. has_node v.used n ≡ true) (nodes_in u.used) wider.nodes (nodes_used u.used)))

  -- ---- committing

  commits_obey : (u : Use) (number : Number) (ns : List ℕ) (left : ℕ) (r : Reply) (ps : List ℕ) (votes : List Vote)
      → Each (λ n. has_node u.used n ≡ true) ns
      → Always w (commits u number ns left r) (inside begun (record { tx = u.tx; used = u.used; prepared = ps; votes = votes; decisions = answer.Decided number ∷ []; undone = false })) (Counts begun)
  commits_obey u number [] left r ps votes there = ((plainly, λ front st. tt), λ a. refl)
  commits_obey u number (n ∷ ns) left r ps votes there =
      let s : Standing = record { tx = u.tx; used = u.used; prepared = ps; votes = votes; decisions = answer.Decided number ∷ []; undone = false } in (
        (plainly, λ front st. inl (may_commit s front n number there.0 (inl refl) st.stands)),
        λ a. commits_obey u number ns (if is_done a then left else with_node left n) r ps votes there.1,
      )

  -- an answer of Decide that is neither a decision nor a fault
  none_stands : (a : Answer) → is_settled a ≡ false → Has (λ x. IsTrue (is_settled x)) (a ∷ []) → ⊥
  none_stands a no_decision (inl h) = false≢true (sym no_decision ∙ h)
  none_stands a no_decision (inr h) = absurd h

  decided_obeys : (owner : Owner) (u : Use) (shown : Number → Reply) (ps : List ℕ) (votes : List Vote) (a : Answer)
      → Always w (decided owner u shown a) (inside begun (record { tx = u.tx; used = u.used; prepared = ps; votes = votes; decisions = a ∷ []; undone = false })) (Counts begun)
  decided_obeys owner u shown ps votes a =
      elim a as (λ x. Always w (decided owner u shown x) (inside begun (record { tx = u.tx; used = u.used; prepared = ps; votes = votes; decisions = x ∷ []; undone = false })) (Counts begun)) [
        | answer.Decided number ↦ commits_obey u number (nodes_in u.used) 0 (shown number) ps votes (nodes_used u.used)
        | answer.Fault area ↦ ((plainly, λ front st. tt), λ x. refl)
        | x ↦ rolling_back_obeys u u.used (end_refusal fes1 x) ps votes (x ∷ []) (none_stands x refl)
      ]

  -- ---- voting: those asked so far, with their votes, and those that are left

  pub record Votes (used : ℕ) (asked left : List ℕ) (votes : List Vote) : Type 0 where
    pub there : Each (λ n. has_node used n ≡ true) left
    pub apart : AreDistinct left
    pub fresh : (n : ℕ) → IsIn n asked → IsIn n left → ⊥
    pub all : (n : ℕ) → IsIn n (nodes_in used) → Has (λ (v : Vote). v.node.0 ≡ n) votes ⊎ IsIn n left

  votes_further : (used n floor : ℕ) (asked left : List ℕ) (votes : List Vote) (v : Vote) → v.node.0 ≡ n → Votes used asked (n ∷ left) votes
      → Votes used (asked ++ n ∷ []) left (votes ++ v ∷ [])
  votes_further used n floor asked left votes v is vs = record {
    there = vs.there.1;
    apart = vs.apart.1;
    fresh = λ m i j. elim (Has-last (λ k. k ≡ m) asked n i) [ inl old ↦ vs.fresh m old (inr j) | inr now ↦ vs.apart.0 (subst (λ k. IsIn k left) (sym now) j) ];
    all = λ m i. elim (vs.all m i) [
      | inl old ↦ inl (Has-front (λ (x : Vote). x.node.0 ≡ m) votes (v ∷ []) old)
      | inr now ↦ elim now [ inl e ↦ inl (Has-back (λ (x : Vote). x.node.0 ≡ m) votes (v ∷ []) (inl (is ∙ e))) | inr later ↦ inr later ]
    ];
  }

  voting_obeys : (owner : Owner) (u : Use) (shown : Number → Reply) (prepared : ℕ) (left : List ℕ) (votes : List Vote) (asked : List ℕ) → Votes u.used asked left votes
      → Always w (voting owner u shown prepared left votes) (inside begun (record { tx = u.tx; used = u.used; prepared = asked; votes = votes; decisions = []; undone = false })) (Counts begun)
  voting_obeys owner u shown prepared [] votes asked vs =
      let s : Standing = record { tx = u.tx; used = u.used; prepared = asked; votes = votes; decisions = []; undone = false } in (
        (
          plainly,
          λ front st. may_decide s front (record { undecided = refl; not_undone = refl })
              (λ n here there. elim (vs.all n (used_nodes u.used n here there)) [ inl h ↦ h | inr h ↦ absurd h ]) st.stands,
        ),
        λ a. decided_obeys owner u shown asked votes a,
      )
  voting_obeys owner u shown prepared (n ∷ left) votes asked vs =
      let s : Standing = record { tx = u.tx; used = u.used; prepared = asked; votes = votes; decisions = []; undone = false } in (
        (plainly, λ front st. may_ask s front n (record { undecided = refl; not_undone = refl }) vs.there.0 (λ i. vs.fresh n i (inl refl)) st.stands),
        λ a. elim a as (λ x. Always w (voted u (with_node prepared n) n (λ vote. voting owner u shown (with_node prepared n) left (votes ++ vote ∷ [])) x)
            (behind n (request.Prepare (the_tx u)) x (inside begun s)) (Counts begun)) [
              | answer.Vote floor ↦ voting_obeys owner u shown (with_node prepared n) left (votes ++ record { node = record { 0 = n }; floor = floor } ∷ []) (asked ++ n ∷ [])
                  (votes_further u.used n floor.0 asked left votes (record { node = record { 0 = n }; floor = floor }) refl vs)
              | x ↦ rolling_back_obeys u (with_node prepared n) (end_refusal n x) (asked ++ n ∷ []) votes [] (λ h. h)
            ],
      )

  pub committing_obeys : (owner : Owner) (u : Use) (shown : Number → Reply) → Always w (committing owner u shown) (within begun u) (Counts begun)
  committing_obeys owner u shown = voting_obeys owner u shown 0 (nodes_in u.used) [] [] (record {
    there = nodes_used u.used;
    apart = nodes_apart u.used;
    fresh = λ n i j. i;
    all = λ n i. inr i;
  })
