-- How far an input was read, line by line, and what its lines said.
use Rattle.std.proofs.Common.{◌≡◌, ◌⊎◌, ℕ, List, [], ◌∷◌, ◌++◌, refl, sym, ◌∙◌, ap, subst, append_assoc, true, false}
use Rattle.std.specs.Prelude.{Some, None, IfSome, is_some}
use Rattle.std.specs.declared.option.Option.{Option}
use Rattle.std.proofs.lemmas.List.{append-nil}
use Rattle.hb_edge.specs.Streams.{with_front}
use Rattle.hb_lines.specs.declared.said.Said.{Said}
use Rattle.hb_lines.specs.Lines.{lines_of, parts_of}
use Rattle.hb_lines.specs.Saying.{Says, SayAll}
use Rattle.hb_lines.specs.Next.{NextLine, FirstSays, IsTooLong}
use Rattle.hb_acts.specs.Outside.{HasLongLine}

-- the first lines said these, and the rest has the other lines
pub record SaidTo (all rest : List ℕ) (saids : List Said) : Type 0 where
  pub lines : List (List ℕ)
  pub split : lines_of all ≡ lines ++ lines_of rest
  pub says : SayAll lines saids

-- where the source tells what is left
pub record SaidSoFar (all rest : Option (List ℕ)) (saids : List Said) : Type 0 where
  pub told : is_some rest ≡ is_some all
  pub to : IfSome all (λ input. IfSome rest (λ left. SaidTo input left saids))

said_start : (all : Option (List ℕ)) → IfSome all (λ input. IfSome all (λ left. SaidTo input left []))
said_start None = tt
said_start (Some input) = record { lines = []; split = refl; says = tt }

pub said_none : (all rest : Option (List ℕ)) → rest ≡ all → SaidSoFar all rest []
said_none all rest same = let start : SaidSoFar all all [] = record { told = refl; to = said_start all } in subst (λ (r : Option (List ℕ)). SaidSoFar all r []) (sym same) start

SayAll-push : (lines : List (List ℕ)) (saids : List Said) (line : List ℕ) (said : Said) → SayAll lines saids → Says line said → SayAll (lines ++ line ∷ []) (saids ++ said ∷ [])
SayAll-push [] [] line said all says = (says, tt)
SayAll-push [] (s ∷ saids) line said all says = absurd all
SayAll-push (l ∷ lines) [] line said all says = absurd all
SayAll-push (l ∷ lines) (s ∷ saids) line said all says = (all.0, SayAll-push lines saids line said all.1 says)

said_more : (all rest more : List ℕ) (saids : List Said) (said : Said) → SaidTo all rest saids → FirstSays rest more said → SaidTo all more (saids ++ said ∷ [])
said_more all rest more saids said so_far first = record {
  lines = so_far.lines ++ first.line ∷ [];
  split = so_far.split ∙ ap (λ (ls : List (List ℕ)). so_far.lines ++ ls) first.lines ∙ sym (append_assoc so_far.lines (first.line ∷ []) (lines_of more));
  says = SayAll-push so_far.lines saids first.line said so_far.says first.says;
}

said_next : (all rest more : Option (List ℕ)) (saids : List Said) (said : Said) → IfSome all (λ input. IfSome rest (λ left. SaidTo input left saids)) → NextLine (Some said) rest more
    → IfSome all (λ input. IfSome more (λ left. SaidTo input left (saids ++ said ∷ [])))
said_next None rest more saids said to next = tt
said_next (Some input) None None saids said to next = tt
said_next (Some input) None (Some m) saids said to next = let told : true ≡ false = next.0 in absurd (cc)
said_next (Some input) (Some r) None saids said to next = tt
said_next (Some input) (Some r) (Some m) saids said to next = said_more input r m saids said to next.1

pub said_on : (all rest more : Option (List ℕ)) (saids : List Said) (said : Said) → SaidSoFar all rest saids → NextLine (Some said) rest more → SaidSoFar all more (saids ++ said ∷ [])
said_on all rest more saids said so_far next = record { told = next.0 ∙ so_far.told; to = said_next all rest more saids said so_far.to next }

-- where the next line is too long, so is a line of the input
pub long_in : (all rest : Option (List ℕ)) (saids : List Said) → SaidSoFar all rest saids → IfSome rest IsTooLong → IfSome all HasLongLine
long_in None rest saids so_far long = tt
long_in (Some input) None saids so_far long = let told : false ≡ true = so_far.told in absurd (cc)
long_in (Some input) (Some r) saids so_far long =
    record { before = so_far.to.lines; line = long.line; others = long.others; lines = so_far.to.split ∙ ap (λ (ls : List (List ℕ)). so_far.to.lines ++ ls) long.lines; long = long.long }

-- what is so of each input that was read so far, where it is told
pub for_said : (all rest : Option (List ℕ)) (saids : List Said) (P : List ℕ → Type 0) → SaidSoFar all rest saids → ((input left : List ℕ) → rest ≡ Some left → SaidTo input left saids → P input) → IfSome all P
for_said None rest saids P so_far each = tt
for_said (Some input) None saids P so_far each = let told : false ≡ true = so_far.told in absurd (cc)
for_said (Some input) (Some left) saids P so_far each = each input left refl so_far.to

pub no_lines : lines_of [] ≡ []
unfolding parts_of
no_lines = refl

-- nothing is left: all lines said these
pub said_all : (all : List ℕ) (saids : List Said) → SaidTo all [] saids → SayAll (lines_of all) saids
said_all all saids so_far = subst (λ (ls : List (List ℕ)). SayAll ls saids) (sym (so_far.split ∙ ap (λ (ls : List (List ℕ)). so_far.lines ++ ls) no_lines ∙ append-nil so_far.lines)) so_far.says

pub with_front_nothing : (told : Option (List ℕ)) → with_front [] told ≡ told
with_front_nothing None = refl
with_front_nothing (Some held) = refl
