use Rattle.std.proofs.Common.{ℕ, List, get_or, sym, ◌∙◌, ap, subst}
use Rattle.hb_acts.specs.Words.{IsCount}
use Rattle.hb_acts.proofs.words.back_ends.Goals as goal

pub returns-then-is_word-2-clause-only : goal.returns-then-is_word-2-clause-only
returns-then-is_word-2-clause-only c n run =
    let third = c.as_slice.ensures ∙ c.index-words-2.is ∙ ap (λ (words : List (List ℕ)). get_or words 2 c.index-words-2.result) run.1 in
    c.count_of.ensures.only n (subst (λ (value : List ℕ). IsCount value n) (sym third) run.2)
