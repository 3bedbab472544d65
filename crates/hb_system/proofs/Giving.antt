-- Nodes and their disks.
use Rattle.std.proofs.Common.{◌≡◌, ℕ, suc, ◌+◌, ◌*◌, ◌≤◌, ◌<◌, List, [], ◌∷◌, ◌++◌, length, get_or, take, drop, sym, ap, refl, ◌∙◌, append_assoc, arith}
use Rattle.hb_reach.specs.Names.{AreNumbered}
use Rattle.hb_system.specs.Giving.{Seats}
use Rattle.hb_system.specs.Variants.{of_kind}
use Rattle.hb_system.specs.declared.node.SystemNode.{SystemNode}
use Rattle.hb_system.specs.declared.node.SystemNode.TheVariants.{Front, Server}

-- ---- nodes and disks, put behind others

module _ {D F S : Type 0} (P : F → D → Type 0) (Q : S → D → D → Type 0) where
  pub seats_on : (xs ys : List (SystemNode F S)) (ds es : List D) → Seats P Q xs ds → Seats P Q ys es → Seats P Q (xs ++ ys) (ds ++ es)
  seats_on [] ys [] es h k = k
  seats_on [] ys (a ∷ ds) es h k = absurd h
  seats_on (Front f ∷ xs) ys [] es h k = absurd h
  seats_on (Front f ∷ xs) ys (a ∷ ds) es h k = (h.0, seats_on xs ys ds es h.1 k)
  seats_on (Server s ∷ xs) ys [] es h k = absurd h
  seats_on (Server s ∷ xs) ys (a ∷ []) es h k = absurd h
  seats_on (Server s ∷ xs) ys (a ∷ b ∷ ds) es h k = (h.0, seats_on xs ys ds es h.1 k)

-- ---- the first disks that are left

pub first_and_rest : {D : Type 0} (xs ys : List D) (x : D) → x ≡ get_or xs 0 x → 1 ≤ length xs → ys ≡ take 0 xs ++ drop 1 xs → xs ≡ x ∷ ys
first_and_rest [] ys x first some rest = absurd (omega (arith, some))
first_and_rest {D} (z ∷ zs) ys x first some rest = ap (λ (w : D). w ∷ zs) (sym first) ∙ ap (λ (ws : List D). x ∷ ws) (sym rest)

pub two_taken : {D : Type 0} (all taken xs ys zs : List D) (x y : D) → all ≡ taken ++ xs → xs ≡ x ∷ ys → ys ≡ y ∷ zs → all ≡ (taken ++ x ∷ y ∷ []) ++ zs
two_taken {D} all taken xs ys zs x y is first next =
    is ∙ ap (λ (ws : List D). taken ++ ws) (first ∙ ap (λ (ws : List D). x ∷ ws) next) ∙ sym (append_assoc taken (x ∷ y ∷ []) zs)

-- ---- how many disks there are

module _ {D F S : Type 0} (P : F → D → Type 0) (Q : S → D → D → Type 0) (front : F → ℕ) (server : S → ℕ) (is_first : (f : F) → front f ≡ 0) (is_later : (s : S) → 1 ≤ server s) where
  servers_count : (nodes : List (SystemNode F S)) (disks : List D) → ((k : ℕ) (d : SystemNode F S) → k < length nodes → 1 ≤ of_kind front server (get_or nodes k d)) → Seats P Q nodes disks → length disks ≡ 2 * length nodes
  servers_count [] [] later h = refl
  servers_count [] (a ∷ ds) later h = absurd h
  servers_count (Front f ∷ nodes) [] later h = absurd h
  servers_count (Front f ∷ nodes) (a ∷ ds) later h = absurd (omega (arith, is_first f, later 0 (Front f) (omega arith)))
  servers_count (Server s ∷ nodes) [] later h = absurd h
  servers_count (Server s ∷ nodes) (a ∷ []) later h = absurd h
  servers_count (Server s ∷ nodes) (a ∷ b ∷ ds) later h = omega (arith, servers_count nodes ds (λ k d lt. later (suc k) d (omega (arith, lt))) h.1)

  pub disks_count : (nodes : List (SystemNode F S)) (disks : List D) → AreNumbered (of_kind front server) nodes → 1 ≤ length nodes → Seats P Q nodes disks → length disks + 1 ≡ 2 * length nodes
  disks_count [] disks numbered some h = absurd (omega (arith, some))
  disks_count (Front f ∷ nodes) [] numbered some h = absurd h
  disks_count (Front f ∷ nodes) (a ∷ ds) numbered some h =
      omega (arith, servers_count nodes ds (λ k d lt. omega (arith, numbered (suc k) d (omega (arith, lt)))) h.1)
  disks_count (Server s ∷ nodes) disks numbered some h = absurd (omega (arith, is_later s, numbered 0 (Server s) (omega arith)))
