-- The state behind each front of the decisions that has those of the base.
use Rattle.std.proofs.Common.{◌≡◌, ◌∙◌, List, [], ◌∷◌, ◌++◌, ap, append_assoc, append-nil, subst, sym}
use Rattle.hb_model.specs.State.{State}
use Rattle.hb_disks.specs.Images.{Logs}
use Rattle.hb_disks.specs.Redo.{Decided}
use Rattle.hb_disks.specs.StandsFor.{StateAfter}
use Rattle.hb_law.specs.Transactions.{Txn}
use Rattle.hb_parts.specs.Txns.{Chain}

heads : {A : Type 0} (x y : A) (xs ys : List A) → x ∷ xs ≡ y ∷ ys → (x ≡ y) × (xs ≡ ys)
heads x y xs ys e = (cc, cc)

pub cancel : {A : Type 0} (front xs ys : List A) → front ++ xs ≡ front ++ ys → xs ≡ ys
cancel [] xs ys e = e
cancel (f ∷ fs) xs ys e = cancel fs xs ys (heads f f (fs ++ xs) (fs ++ ys) e).1

nil_cons : {A : Type 0} (x : A) (xs : List A) → [] ≡ x ∷ xs → ⊥
nil_cons x xs e = cc

pub state_at : (logs : Logs) (txns : List Txn) (ds0 : List Decided) (s : State) (ds : List Decided) (t : State) → Chain logs txns ds0 s ds t
    → StateAfter logs ds0 s → (more rest : List Decided) → ds ≡ more ++ rest → (u : State) × StateAfter logs (ds0 ++ more) u
state_at logs txns ds0 s ds t c at [] rest e = (s, subst (λ l. StateAfter logs l s) (sym (append-nil ds0)) at)
state_at logs txns ds0 s [] t c at (d ∷ more) rest e = absurd (nil_cons d (more ++ rest) e)
state_at logs txns ds0 s (b ∷ ds) t c at (d ∷ more) rest e =
    let k = heads b d ds (more ++ rest) e in
    let u = state_at logs txns (ds0 ++ b ∷ []) c.0.after ds t c.1 c.0.at_after more rest k.1 in
    (u.0, subst (λ l. StateAfter logs l u.0) (append_assoc ds0 (b ∷ []) more ∙ ap (λ z. ds0 ++ z ∷ more) k.0) u.1)
