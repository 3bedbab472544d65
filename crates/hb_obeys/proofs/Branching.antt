-- What a plan may ask at one node: Enlist where its transaction isn't enlisted there yet, and any other request of the branch where it is.
use Rattle.std.proofs.Common.{◌≡◌, ℕ, true, false, refl, sym, subst}
use Rattle.hb_types.specs.declared.answer.Answer.{Answer}
use Rattle.hb_types.specs.declared.names.Tx.{Tx}
use Rattle.hb_types.specs.declared.request.Request.{Request}
use Rattle.hb_types.specs.declared.request.Request.TheVariants as request
use Rattle.hb_model.specs.NodeSets.{has_node, with_node}
use Rattle.hb_talk.specs.Talk.{Use, the_tx}
use Rattle.hb_obeys.proofs.Obeying.{Caller, Permits}
use Rattle.hb_obeys.proofs.Permits.{may_ask, may_enlist}
use Rattle.hb_obeys.proofs.Planning.{early, plainly, within}
use Rattle.hb_obeys.proofs.Standing.{behind, working}

-- a request of the transaction that wants its branch open: a Lock, a reading or a Write
abbrev pub IsInBranch : Use → Request → Type 0
IsInBranch u (request.Lock tx p m) = tx ≡ the_tx u
IsInBranch u (request.Read tx place) = tx ≡ the_tx u
IsInBranch u (request.Scan tx space) = tx ≡ the_tx u
IsInBranch u (request.ScanGroup tx space group) = tx ≡ the_tx u
IsInBranch u (request.Write tx change) = tx ≡ the_tx u
IsInBranch u _ = ⊥

module _ (w : Caller) (begun : ℕ) (u : Use) (node : ℕ) where
  -- ---- the first request at a node

  pub enlist_permitted : has_node u.used node ≡ false → Permits w (within begun u) node (request.Enlist (the_tx u))
  enlist_permitted free = (plainly, λ front st. may_enlist (working u) front node (early u) free st.stands)

  pub enlist_adds : (a : Answer) → behind node (request.Enlist (the_tx u)) a (within begun u) ≡ within begun (record u { used = with_node u.used node })
  enlist_adds a = refl

  -- ---- the requests behind it

  pub branch_permitted : has_node u.used node ≡ true → (q : Request) → IsInBranch u q → Permits w (within begun u) node q
  branch_permitted there (request.Lock tx p m) e =
      subst (λ (t : Tx). Permits w (within begun u) node (request.Lock t p m)) (sym e) (plainly, λ front st. may_ask (working u) front node (early u) there (λ h. h) st.stands)
  branch_permitted there (request.Read tx place) e =
      subst (λ (t : Tx). Permits w (within begun u) node (request.Read t place)) (sym e) (plainly, λ front st. may_ask (working u) front node (early u) there (λ h. h) st.stands)
  branch_permitted there (request.Scan tx space) e =
      subst (λ (t : Tx). Permits w (within begun u) node (request.Scan t space)) (sym e) (plainly, λ front st. may_ask (working u) front node (early u) there (λ h. h) st.stands)
  branch_permitted there (request.ScanGroup tx space group) e =
      subst (λ (t : Tx). Permits w (within begun u) node (request.ScanGroup t space group)) (sym e) (plainly, λ front st. may_ask (working u) front node (early u) there (λ h. h) st.stands)
  branch_permitted there (request.Write tx change) e =
      subst (λ (t : Tx). Permits w (within begun u) node (request.Write t change)) (sym e) (plainly, λ front st. may_ask (working u) front node (early u) there (λ h. h) st.stands)
  branch_permitted there _ e = absurd e

  pub branch_leaves : (q : Request) → IsInBranch u q → (a : Answer) → behind node q a (within begun u) ≡ within begun u
  branch_leaves (request.Lock tx p m) e a = refl
  branch_leaves (request.Read tx place) e a = refl
  branch_leaves (request.Scan tx space) e a = refl
  branch_leaves (request.ScanGroup tx space group) e a = refl
  branch_leaves (request.Write tx change) e a = refl
  branch_leaves _ e a = absurd e
