-- The assignments of an UPDATE are read, where expressions are.
use Rattle.std.proofs.Common.{◌≡◌, ℕ, inl, true, false, if◌then◌else◌, List, [], ◌∷◌, ◌++◌, Some, option_map, refl, sym, ap, ◌∙◌, subst}
use Rattle.hb_model.specs.declared.expression.Expr.{Expr}
use Rattle.hb_model.specs.declared.statement.Set.{Set}
use Rattle.hb_sqltoken.specs.declared.token.Token.{Token}
use Rattle.hb_sqltoken.specs.declared.token.Token.TheVariants as token
use Rattle.hb_sqltoken.specs.declared.token.Word.TheVariants as word
use Rattle.hb_sqlcond.specs.declared.expr_parser.ExprParser.{ExprParser}
use Rattle.hb_sqlcond.specs.Grammar.{IsExpr}
use Rattle.hb_sqlcond.specs.ExprSteps.{start_expr, step_expr, whole_expr}
use Rattle.hb_sqlcond.specs.Runs.{Leads, next, Finds, Completes, Reads, in_expr}
use Rattle.hb_sqlsteps.specs.declared.marks.Mark.TheVariants as mark
use Rattle.hb_sqlsteps.specs.declared.sets.Sets.{Sets}
use Rattle.hb_sqlsteps.specs.declared.sets.Sets.TheVariants as sets
use Rattle.hb_sqlparse.specs.Keywords.{EQUALS}
use Rattle.hb_sqlparse.specs.Listed.{Listed}
use Rattle.hb_sqlsteps.specs.Kept.{set_of}
use Rattle.hb_sqlparse.specs.Rows.{IsSet, assigned}
use Rattle.hb_sqlsteps.specs.Marks.{is_mark, is_word}
use Rattle.hb_sqlsteps.specs.SetSteps.{with_set, with_whole, step_sets, whole_sets}
use Rattle.hb_sqlparse.proofs.Takes.{none_is, mark_back, mark_split, name_back, found}
use Rattle.hb_sqlparse.proofs.Going.{inside, find_here, find_next, ends_next}
use Rattle.hb_sqlparse.proofs.Listing.{Meets, WantRest, HaveRest, ItemRest, item_want, go_comma, Item, reads_list}

not_comma : (t : Token) → in_expr t ≡ true → is_mark mark.Comma t ≡ false
not_comma token.Comma h = absurd (cc)
not_comma _ h = refl

not_where : (t : Token) → in_expr t ≡ true → is_word word.Where t ≡ false
not_where (token.Word w) h = absurd (cc)
not_where _ h = refl

module _ (ex : Reads start_expr step_expr whole_expr in_expr IsExpr) where
  value_step : (xs : List Set) (name : List ℕ) (c : ExprParser) (t : Token) (m : ExprParser) → step_expr c t ≡ Some m → step_sets (sets.Value xs name c) t ≡ Some (sets.Value xs name m)
  value_step xs name c t m h =
      ap (λ b. if b then option_map sets.Want (with_whole xs name c) else option_map (sets.Value xs name) (step_expr c t)) (not_comma t (ex.belongs c m t h)) ∙ ap (option_map (sets.Value xs name)) h

  in_value : (xs : List Set) (name : List ℕ) {c d : ExprParser} {s r : List Token} → Leads step_expr c s d r → Leads step_sets (sets.Value xs name c) s (sets.Value xs name d) r
  in_value xs name x = inside (sets.Value xs name) (value_step xs name) x

  set_item : (xs : List Set) (x : Set) (s r : List Token) → IsSet x s r → Item step_sets whole_sets sets.Want xs x s r
  set_item xs x s r (assigned {name = name} {e = e} {s = m} i) =
      let f = ex.complete e m r i in
      let w : with_whole xs name f.last ≡ Some (xs ++ set_of name e ∷ []) = ap (option_map (with_set xs name)) f.is in
      record { state = sets.Value xs name f.last; leads = next refl (next refl (in_value xs name f.leads)); is = w; goes_on = ap (option_map sets.Want) w }

  record ValueRest (xs zs : List Set) (name : List ℕ) (f : ExprParser) (s r : List Token) : Type 0 where
    value : Expr
    behind : List Token
    finds : Finds step_expr whole_expr f value s behind
    have : HaveRest IsSet (xs ++ set_of name value ∷ []) zs behind r

  abbrev sets_rest : Sets → List Set → List Token → List Token → Type 0
  sets_rest (sets.Want xs) zs s r = WantRest IsSet xs zs s r
  sets_rest (sets.Named xs name) zs s r = ItemRest IsSet xs zs (token.Name name ∷ s) r
  sets_rest (sets.Value xs name f) zs s r = ValueRest xs zs name f s r

  of_value : (xs zs : List Set) (name : List ℕ) (s r : List Token) → ValueRest xs zs name start_expr s r → ItemRest IsSet xs zs (token.Name name ∷ EQUALS ∷ s) r
  of_value xs zs name s r x = record { item = set_of name x.value; behind = x.behind; is = assigned (ex.sound x.value s x.behind x.finds); have = x.have }

  at_comma : (xs zs : List Set) (name : List ℕ) (f : ExprParser) (m : Sets) (s r : List Token) → option_map sets.Want (with_whole xs name f) ≡ Some m → sets_rest m zs s r
      → ValueRest xs zs name f (token.Comma ∷ s) r
  at_comma xs zs name f m s r h x =
      let y = found sets.Want (with_whole xs name f) m h in
      let z = found (with_set xs name) (whole_expr f) y.0 y.1 in
      let w : WantRest IsSet (xs ++ set_of name z.0 ∷ []) zs s r = subst (λ (l : List Set). WantRest IsSet l zs s r) (sym z.2) (subst (λ m. sets_rest m zs s r) (sym y.2) x) in
      record { value = z.0; behind = token.Comma ∷ s; finds = find_here f z.0 (token.Comma ∷ s) z.1; have = go_comma IsSet (xs ++ set_of name z.0 ∷ []) zs s r w }

  in_rest : (xs zs : List Set) (name : List ℕ) (f : ExprParser) (t : Token) (m : Sets) (s r : List Token) → option_map (sets.Value xs name) (step_expr f t) ≡ Some m → sets_rest m zs s r
      → ValueRest xs zs name f (t ∷ s) r
  in_rest xs zs name f t m s r h x =
      let y = found (sets.Value xs name) (step_expr f t) m h in
      let z : ValueRest xs zs name y.0 s r = subst (λ m. sets_rest m zs s r) (sym y.2) x in
      record { value = z.value; behind = z.behind; finds = find_next y.1 z.finds; have = z.have }

  sets_back : (zs : List Set) (r : List Token) (c : Sets) (t : Token) (m : Sets) (s : List Token) → step_sets c t ≡ Some m → sets_rest m zs s r → sets_rest c zs (t ∷ s) r
  sets_back zs r (sets.Want xs) t m s h =
      name_back (λ t m. sets_rest m zs s r → sets_rest (sets.Want xs) zs (t ∷ s) r) t _ m h (λ n x. item_want IsSet xs zs _ r x)
  sets_back zs r (sets.Named xs name) t m s h =
      mark_back (λ t m. sets_rest m zs s r → sets_rest (sets.Named xs name) zs (t ∷ s) r) mark.Equals t _ m h (λ x. of_value xs zs name s r x)
  sets_back zs r (sets.Value xs name f) t m s h =
      mark_split (λ t. sets_rest m zs s r → sets_rest (sets.Value xs name f) zs (t ∷ s) r) mark.Comma t _ _ m h (at_comma xs zs name f m s r) (in_rest xs zs name f t m s r)

  sets_base : (c : Sets) (zs : List Set) (r : List Token) → whole_sets c ≡ Some zs → sets_rest c zs r r
  sets_base (sets.Want xs) zs r h = absurd (none_is h)
  sets_base (sets.Named xs name) zs r h = absurd (none_is h)
  sets_base (sets.Value xs name f) zs r h =
      let z = found (with_set xs name) (whole_expr f) zs h in
      record { value = z.0; behind = r; finds = find_here f z.0 r z.1; have = inl (z.2, refl) }

  value_end : (xs : List Set) (name : List ℕ) (f : ExprParser) → Completes step_sets whole_sets (sets.Value xs name f)
  value_end xs name f =
      let e = ex.completes f in
      record {
        rest = e.rest;
        tree = with_set xs name e.tree;
        finds = record { last = sets.Value xs name e.finds.last; leads = in_value xs name e.finds.leads; is = ap (option_map (with_set xs name)) e.finds.is };
      }

  sets_end : (c : Sets) → Completes step_sets whole_sets c
  sets_end (sets.Want xs) = ends_next (token.Name (97 ∷ [])) refl (ends_next EQUALS refl (value_end xs (97 ∷ []) start_expr))
  sets_end (sets.Named xs name) = ends_next EQUALS refl (value_end xs name start_expr)
  sets_end (sets.Value xs name f) = value_end xs name f

  pub reads_sets : Meets (sets.Want []) step_sets whole_sets (Listed IsSet)
  reads_sets = reads_list IsSet step_sets whole_sets sets.Want set_item sets_rest sets_back sets_base (λ zs s r x. x) sets_end

  pub sets_not_where : (c : Sets) (t : Token) (m : Sets) → step_sets c t ≡ Some m → is_word word.Where t ≡ false
  sets_not_where (sets.Want xs) t m h = name_back (λ t m. is_word word.Where t ≡ false) t _ m h (λ n. refl)
  sets_not_where (sets.Named xs name) t m h = mark_back (λ t m. is_word word.Where t ≡ false) mark.Equals t _ m h refl
  sets_not_where (sets.Value xs name f) t m h =
      mark_split (λ t. is_word word.Where t ≡ false) mark.Comma t _ _ m h (λ e. refl) (λ e. (let y = found (sets.Value xs name) (step_expr f t) m e in not_where t (ex.belongs f y.0 t y.1)))
