-- How far tokens begin a line, by the place that they led to.
use Rattle.std.proofs.Common.{◌≡◌, ◌+◌, arith, List, [], ◌∷◌, ◌++◌, length, take, Some, None, refl, sym, ap, ◌∙◌, subst, append_assoc, length-append}
use Rattle.std.proofs.Math.Seq.{take-append_seam, take-append-add, take-length}
use Rattle.hb_model.specs.declared.script.Item.{Item}
use Rattle.hb_sqltoken.specs.declared.token.Token.{Token}
use Rattle.hb_sqlcond.specs.Runs.{Leads, here, next}
use Rattle.hb_sqlsteps.specs.declared.line.Line.{Line}
use Rattle.hb_sqlsteps.specs.declared.line.Line.TheVariants as line
use Rattle.hb_sqlsteps.specs.LineSteps.{step_line, whole_line}
use Rattle.hb_sqlparse.specs.Grammar.{IsLine, Begins, FirstDead}
use Rattle.hb_sqlparse.specs.Laws.{ReadsLines}
use Rattle.hb_sqlparse.proofs.Takes.{some_is, none_is}
use Rattle.hb_sqlparse.proofs.Going.{frame, follows, find_then}

-- the tokens lead to a place
abbrev pub Led : List Token → Line → Type 0
Led f l = Leads step_line line.Start f l []

stuck : {l e : Line} {k : Token} {q : List Token} → Leads step_line l (k ∷ q) e [] → step_line l k ≡ None → ⊥
stuck (next h x) dead = none_is (sym dead ∙ h)

stopped : {l e : Line} → Leads step_line l [] e [] → l ≡ e
stopped here = refl

module _ (law : ReadsLines) where
  begun : (f : List Token) (l : Line) → Led f l → Begins f
  begun f l x = let e = law.completes l in (e.rest, e.tree, law.sound e.tree (f ++ e.rest) (find_then (frame x e.rest) e.finds))

  refused : (f q : List Token) (k : Token) (l : Line) → Led f l → step_line l k ≡ None → (i : Item) → IsLine i (f ++ (k ∷ q)) → ⊥
  refused f q k l x dead i b = let y = law.complete i (f ++ (k ∷ q)) b in stuck (follows (frame x (k ∷ q)) y.leads) dead

  -- where a place takes a token no more
  pub first_dead : (f r : List Token) (k : Token) (l : Line) → Led f l → step_line l k ≡ None → FirstDead (f ++ (k ∷ r)) (length f)
  first_dead f r k l x dead =
      let a : take (length f) (f ++ (k ∷ r)) ≡ f = take-append_seam f (k ∷ r) in
      let b : take (length f + 1) (f ++ (k ∷ r)) ≡ f ++ (k ∷ []) = take-append-add f (k ∷ r) 1 in
      record {
        within = omega (arith, length-append f (k ∷ r));
        begins = subst Begins (sym a) (begun f l x);
        dead = λ _ y. (let z : Begins (f ++ (k ∷ [])) = subst Begins b y in refused f z.0 k l x dead z.1 (subst (IsLine z.1) (append_assoc f (k ∷ []) z.0) z.2));
        no_line = λ i y. refused f r k l x dead i y;
      }

  -- where the tokens end, and are no line
  pub first_none : (f : List Token) (l : Line) → Led f l → whole_line l ≡ None → FirstDead f (length f)
  first_none f l x none = record {
    within = omega arith;
    begins = subst Begins (sym (take-length f)) (begun f l x);
    dead = λ lt _. absurd (omega (arith, lt));
    no_line = λ i b. (let y = law.complete i f b in none_is (sym none ∙ (ap whole_line (stopped (follows x y.leads)) ∙ y.is)));
  }

  -- where they are one
  pub line_is : (f : List Token) (l : Line) (i : Item) → Led f l → whole_line l ≡ Some i → IsLine i f
  line_is f l i x h = law.sound i f (record { last = l; leads = x; is = h })

  -- tokens say one thing at most
  pub one_line : (a b : Item) (s : List Token) → IsLine a s → IsLine b s → a ≡ b
  one_line a b s x y =
      let p = law.complete a s x in
      let q = law.complete b s y in
      some_is (sym p.is ∙ (ap whole_line (stopped (follows p.leads q.leads)) ∙ q.is))
