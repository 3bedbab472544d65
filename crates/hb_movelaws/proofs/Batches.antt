-- What the calls of a batch's keys do: the rows of those that had one are moved.
use Rattle.std.proofs.Common.{◌≡◌, inl, inr, ◌⊎◌, ℕ, ℤ, List, [], ◌∷◌, Some, None, Bool, true, false, not, refl, subst, sym, ap, ◌∙◌}
use Rattle.std.specs.Prelude.{slice_get, ◌||◌, IsTrue}
use Rattle.std.specs.List.{list_any}
use Rattle.std.specs.Ordering.{int_eq}
use Rattle.hb_types.specs.declared.entry.Entry.TheVariants.{Moving}
use Rattle.hb_types.specs.declared.names.Tx.{Tx}
use Rattle.hb_types.specs.declared.places.Place.{Place}
use Rattle.hb_types.specs.Groups.{group_of}
use Rattle.hb_types.specs.Lists.{Each, Has, IsIn, has_twins}
use Rattle.hb_types.specs.Places.{node_of_area}
use Rattle.hb_types.specs.Put.{lookup}
use Rattle.hb_types.proofs.Ascending.{Each-in, in_Each}
use Rattle.hb_types.proofs.SamePlace.{int_eq-true}
use Rattle.hb_model.specs.declared.table.Table.{Table}
use Rattle.hb_model.specs.Answers.{AnswersOf, afters, rows_of}
use Rattle.hb_model.specs.Families.{Family}
use Rattle.hb_model.specs.Shapes.{Hint, Keyed, keys_calls}
use Rattle.hb_model.specs.Spots.{place_in}
use Rattle.hb_model.specs.State.{State, Spread}
use Rattle.hb_model.specs.System.{Sys}
use Rattle.hb_model.specs.TableRows.{TableRows, standing}
use Rattle.hb_model.specs.Valid.{AllApart}
use Rattle.hb_law.specs.RunAlone.{MovesKey, MovesRows}
use Rattle.hb_planlaws.proofs.Named.{all_twins_more}
use Rattle.hb_planwrites.proofs.KeyWrites.{IsBackEnd, entry_apart, route_on_back_ends}
use Rattle.hb_movelaws.specs.Moving.{keys_found}
use Rattle.hb_movelaws.proofs.KeyMove as key_move

some_none : {A : Type 0} (x : A) → Some x ≡ None → ⊥
some_none x e = cc

-- a key that is none of these is like none of them
like_none : (key : ℤ) (keys : List ℤ) → ((j : ℤ) → IsIn j keys → j ≡ key → ⊥) → list_any (int_eq key) keys ≡ false
like_none key [] n = refl
like_none key (k ∷ keys) n = by (int_eq key k) refl (like_none key keys (λ j i. n j (inr i)))
  where
    by : (b : Bool) → int_eq key k ≡ b → list_any (int_eq key) keys ≡ false → b || list_any (int_eq key) keys ≡ false
    by true e rest = absurd (n k (inl refl) (sym (int_eq-true key k e)))
    by false e rest = rest

apart_first : (key : ℤ) (keys : List ℤ) → ((j : ℤ) → IsIn j keys → j ≡ key → ⊥) → AllApart int_eq keys → AllApart int_eq (key ∷ keys)
apart_first key keys n apart = subst (λ b. IsTrue (not b)) (sym (all_twins_more int_eq key keys ∙ ap (λ b. b || has_twins int_eq keys) (like_none key keys n))) apart

-- ---- one key before others

module _ (number group old new : ℕ) (apart : old ≡ new → ⊥) where
  abbrev from : ℤ → Place
  from key = place_in old number key

  abbrev to : ℤ → Place
  to key = place_in new number key

  abbrev Touched : Place → List ℤ → Type 0
  Touched q keys = Has (λ k. (q ≡ from k) ⊎ (q ≡ to k)) keys

  same_key : (j k : ℤ) (a b : ℕ) → place_in a number j ≡ place_in b number k → j ≡ k
  same_key j k a b e = ap (λ (q : Place). q.key) e

  -- the place of a key that is none of these is not touched
  untouched : (key : ℤ) (a : ℕ) (keys : List ℤ) → ((j : ℤ) → IsIn j keys → j ≡ key → ⊥) → Touched (place_in a number key) keys → ⊥
  untouched key a [] n h = h
  untouched key a (k ∷ keys) n (inl (inl e)) = n k (inl refl) (sym (same_key key k a old e))
  untouched key a (k ∷ keys) n (inl (inr e)) = n k (inl refl) (sym (same_key key k a new e))
  untouched key a (k ∷ keys) n (inr h) = untouched key a keys (λ j i. n j (inr i)) h

  nothing_moved : (f : Family) → MovesRows number group old new f f []
  nothing_moved f = record { apart = refl; moved = tt; of_group = tt; same = λ node q n. refl }

  module _ (f m g : Family) (key : ℤ) (keys : List ℤ) (row : List ℕ) (of : group_of key ≡ group)
      (stood : lookup (from key) (rows_of (node_of_area old) f) ≡ Some row) (free : lookup (to key) (rows_of (node_of_area new) f) ≡ None)
      (gone : lookup (from key) (rows_of (node_of_area old) m) ≡ None) (come : lookup (to key) (rows_of (node_of_area new) m) ≡ Some row)
      (elsewhere : (node : ℕ) (q : Place) → (q ≡ from key → ⊥) → (q ≡ to key → ⊥) → lookup q (rows_of node m) ≡ lookup q (rows_of node f))
      (rest : MovesRows number group old new m g keys) where
    -- a key that was moved is moved no more
    others : (j : ℤ) → IsIn j keys → j ≡ key → ⊥
    others j i e =
        let k : MovesKey number old new m g j = in_Each (MovesKey number old new m g) j keys i rest.moved in
        some_none k.row (sym k.stood ∙ ap (λ x. lookup (from x) (rows_of (node_of_area old) m)) e ∙ gone)

    first : MovesKey number old new f g key
    first = record {
      row = row;
      stood = stood;
      gone = sym (rest.same (node_of_area old) (from key) (untouched key old keys others)) ∙ gone;
      free = free;
      come = sym (rest.same (node_of_area new) (to key) (untouched key new keys others)) ∙ come;
    }

    before : (node : ℕ) (j : ℤ) (a : ℕ) → (j ≡ key → ⊥) → lookup (place_in a number j) (rows_of node f) ≡ lookup (place_in a number j) (rows_of node m)
    before node j a n = sym (elsewhere node (place_in a number j) (λ e. n (same_key j key a old e)) (λ e. n (same_key j key a new e)))

    later : (j : ℤ) → IsIn j keys → MovesKey number old new f g j
    later j i =
        let k : MovesKey number old new m g j = in_Each (MovesKey number old new m g) j keys i rest.moved in
        let n : j ≡ key → ⊥ = others j i in
        record {
          row = k.row;
          stood = before (node_of_area old) j old n ∙ k.stood;
          gone = k.gone;
          free = before (node_of_area new) j new n ∙ k.free;
          come = k.come;
        }

    one_more : MovesRows number group old new f g (key ∷ keys)
    one_more = record {
      apart = apart_first key keys others rest.apart;
      moved = (first, Each-in (MovesKey number old new f g) keys later);
      of_group = (of, rest.of_group);
      same = λ node q n. sym (elsewhere node q (λ e. n (inl (inl e))) (λ e. n (inl (inr e)))) ∙ rest.same node q (λ h. n (inr h));
    }

-- ---- all keys

module _ (back_ends : ℕ) (s : State) (tx : Tx) (p : Spread) (there : IsIn p s.layout.spreads) (group old new : ℕ) (moving : slice_get p.entries group ≡ Some (Moving old new)) where
  abbrev pub hint : Hint
  hint = record { table = p.number; group = group; old = old; new = new }

  abbrev Moved : Family → Family → List ℤ → Type 0
  Moved f g keys = Sys back_ends g s × MovesRows p.number group old new f g keys

  module _ (family : Family) (sys : Sys back_ends family s) (key : ℤ) (of : group_of key ≡ group) (row : List ℕ)
      (stood : standing family p.number key old ≡ Some row) where
    on : Each (IsBackEnd family) (old ∷ new ∷ [])
    on = route_on_back_ends back_ends family s sys p there group (Moving old new) moving

    apart : old ≡ new → ⊥
    apart = entry_apart back_ends family s sys p there group (Moving old new) moving

    entry : slice_get p.entries (group_of key) ≡ Some (Moving old new)
    entry = ap (slice_get p.entries) of ∙ moving

    abbrev after : Family
    after = key_move.moved family p key old new apart on.0 on.1.0 row

    sys_after : Sys back_ends after s
    sys_after =
        key_move.sys_aside back_ends family after s sys p there (key_move.key_aside family p key old new apart on.0 on.1.0 row)
        (λ t rows. key_move.rows_moved family p key old new apart on.0 on.1.0 row t rows entry stood)

    moved_first : (t : Table) → TableRows family t p → (g : Family) (keys : List ℤ) → MovesRows p.number group old new after g keys → MovesRows p.number group old new family g (key ∷ keys)
    moved_first t rows g keys rest =
        one_more p.number group old new apart family after g key keys row of stood
        (key_move.free family p key old new apart on.0 on.1.0 row t rows entry stood)
        (key_move.gone family p key old new apart on.0 on.1.0 row) (key_move.come family p key old new apart on.0 on.1.0 row)
        (key_move.elsewhere family p key old new apart on.0 on.1.0 row) rest

  -- the table of the spread is one of the state's
  module _ (table : (f : Family) → Sys back_ends f s → (t : Table) × TableRows f t p) where
    pub moved_all : (keys : List Keyed) (f : Family) → Sys back_ends f s → Each (λ k. group_of k.0 ≡ group) keys → AnswersOf f (keys_calls tx hint keys)
        → Moved f (afters f (keys_calls tx hint keys)) (keys_found keys)
    moved_all [] f sys of a = (sys, nothing_moved p.number group old new (entry_apart back_ends f s sys p there group (Moving old new) moving) f)
    moved_all ((key, None) ∷ keys) f sys of a = moved_all keys f sys of.1 a.1
    moved_all ((key, Some row) ∷ keys) f sys of a =
        let stood : standing f p.number key old ≡ Some row = sym a.0 in
        let t = table f sys in
        let rest = moved_all keys (after f sys key of.0 row stood) (sys_after f sys key of.0 row stood) of.1 a.1.1.1 in
        (rest.0, moved_first f sys key of.0 row stood t.0 t.1 _ (keys_found keys) rest.1)
