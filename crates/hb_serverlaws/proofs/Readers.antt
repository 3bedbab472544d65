-- While a branch that covers a read has not ended, nobody else commits a change there.
use Rattle.std.proofs.Common.{◌≡◌, ◌≢◌, ℕ, true, false, sym, subst, ◌∙◌, ap, List, [], ◌∷◌, inl, inr}
use Rattle.std.specs.Prelude.{◌==◌}
use Rattle.std.proofs.lemmas.Bool.{eq-eqb, ne_eqb}
use Rattle.hb_types.specs.declared.lock.Mode.TheVariants as mode
use Rattle.hb_types.specs.declared.places.Place.{Place}
use Rattle.hb_types.specs.Lists.{IsIn}
use Rattle.hb_types.specs.Put.{touches}
use Rattle.hb_types.proofs.PutLaws.{by_test}
use Rattle.hb_disks.specs.Redo.{Prepared}
use Rattle.hb_disks.specs.LogRules.{Covers}
use Rattle.hb_loglaws.proofs.Members.{map_in}
use Rattle.hb_runs.specs.Server.{Branch, SState, now, as_branch}
use Rattle.hb_runs.specs.ServerEffects.{without_live, changing}
use Rattle.hb_loglaws.proofs.Cover.{cover}
use Rattle.hb_loglaws.proofs.Writers.{touched_covered}
use Rattle.hb_serverlaws.proofs.Locks.{IsFit, IsLocked, Of, doubted}
use Rattle.hb_serverlaws.proofs.LogKept.{}

-- a branch of the transaction has not ended, and covers the place
pub record IsReader (s : SState) (tx : ℕ) (x : Place) : Type 0 where
  pub branch : Branch
  pub known : Of s.live (doubted s) branch
  pub of_tx : branch.tx ≡ tx
  pub covers : Covers branch.locks mode.S x

-- a branch in doubt has a change at the place
pub record IsWriter (s : SState) (tx : ℕ) (x : Place) : Type 0 where
  pub branch : Prepared
  pub known : IsIn branch (now s).doubts
  pub of_tx : branch.tx ≡ tx
  pub touches_it : touches x branch.changes ≡ true

-- no branch in doubt of another transaction has a change where a branch reads
pub readers_exclude : (s : SState) (a t : ℕ) (x : Place) → IsLocked s → IsReader s a x → IsWriter s t x → t ≢ a → ⊥
readers_exclude s a t x k r w n =
    cover r.branch.locks w.branch.locks x (k.fit r.branch r.known).closed fit.closed
    (k.agree r.branch (as_branch w.branch) r.known (inr (map_in as_branch w.branch (now s).doubts w.known)) (λ e. n (sym w.of_tx ∙ sym e ∙ r.of_tx))) r.covers
    (touched_covered w.branch.locks x w.branch.changes w.touches_it fit.covered)
  where
    fit : IsFit (as_branch w.branch)
    fit = k.fit (as_branch w.branch) (inr (map_in as_branch w.branch (now s).doubts w.known))

-- ---- a reader stays

pub in_changing_old : (tx : ℕ) (f : Branch → Branch) (b : Branch) (bs : List Branch) → IsIn b bs → b.tx ≢ tx → IsIn b (changing tx f bs)
in_changing_old tx f b [] h n = absurd h
in_changing_old tx f b (c ∷ cs) (inl e) n =
    let g : (c.tx == tx) ≡ false = ne_eqb c.tx tx (λ q. n (subst (λ z. z.tx ≡ tx) e q)) in rw g (inl e)
in_changing_old tx f b (c ∷ cs) (inr h) n =
    by_test (c.tx == tx) (λ t. rw t (inr (in_changing_old tx f b cs h n))) (λ g. rw g (inr (in_changing_old tx f b cs h n)))

pub in_changing_new : (tx : ℕ) (f : Branch → Branch) (b : Branch) (bs : List Branch) → IsIn b bs → b.tx ≡ tx → IsIn (f b) (changing tx f bs)
in_changing_new tx f b [] h n = absurd h
in_changing_new tx f b (c ∷ cs) (inl e) n =
    let g : (c.tx == tx) ≡ true = eq-eqb c.tx tx (ap (λ z. z.tx) e ∙ n) in rw g (inl (ap f e))
in_changing_new tx f b (c ∷ cs) (inr h) n =
    by_test (c.tx == tx) (λ t. rw t (inr (in_changing_new tx f b cs h n))) (λ g. rw g (inr (in_changing_new tx f b cs h n)))

pub in_without_old : (tx : ℕ) (b : Branch) (bs : List Branch) → IsIn b bs → b.tx ≢ tx → IsIn b (without_live tx bs)
in_without_old tx b [] h n = absurd h
in_without_old tx b (c ∷ cs) (inl e) n =
    let g : (c.tx == tx) ≡ false = ne_eqb c.tx tx (λ q. n (subst (λ z. z.tx ≡ tx) e q)) in rw g (inl e)
in_without_old tx b (c ∷ cs) (inr h) n =
    by_test (c.tx == tx) (λ t. rw t (in_without_old tx b cs h n)) (λ g. rw g (inr (in_without_old tx b cs h n)))
