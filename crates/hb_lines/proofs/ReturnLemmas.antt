-- A last carriage return, by its index.
use Rattle.std.proofs.Common.{◌≡◌, ◌≢◌, ℕ, ◌+◌, List, [], ◌∷◌, ◌++◌, length, get_or, take, sym, ◌∙◌, ap, arith}
use Rattle.std.proofs.lemmas.List.{take_all, take_more}
use Rattle.hb_lines.specs.Lines.{without_return}
use Rattle.hb_lines.proofs.LineLemmas.{last_other, last_return}
use Rattle.hb_lines.proofs.LineLemmas.{return_none as none_dropped}

-- the last byte behind the others
with_last : (part : List ℕ) (n : ℕ) → n + 1 ≡ length part → part ≡ take n part ++ get_or part n 0 ∷ []
with_last part n long = sym (take_all (n + 1) part (omega arith)) ∙ take_more part n 0 (omega arith)

pub return_cut : (part : List ℕ) (n : ℕ) → n + 1 ≡ length part → get_or part n 0 ≡ 13 → take n part ≡ without_return part
return_cut part n long last =
    sym (ap without_return (with_last part n long ∙ ap (λ (b : ℕ). take n part ++ b ∷ []) last) ∙ last_return (take n part))

pub return_kept : (part : List ℕ) (n : ℕ) → n + 1 ≡ length part → get_or part n 0 ≢ 13 → part ≡ without_return part
return_kept part n long other =
    let split : part ≡ take n part ++ get_or part n 0 ∷ [] = with_last part n long in
    split ∙ sym (ap without_return split ∙ last_other (take n part) (get_or part n 0) other)

pub return_none : (part : List ℕ) → length part ≡ 0 → part ≡ without_return part
return_none [] none = sym none_dropped
return_none (b ∷ part) none = absurd (omega arith)
