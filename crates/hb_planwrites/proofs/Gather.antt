-- The rows that a statement considers, as its plan reads them.
use Rattle.std.proofs.Common.{◌≡◌, ◌⊎◌, inl, inr, ℕ, ◌+◌, ◌≤◌, ◌<◌, ℤ, List, [], ◌∷◌, ◌++◌, length, map, Option, Some, None, refl, subst, sym, ap, ◌∙◌, arith}
use Rattle.std.specs.Prelude.{filter, flat_map, option_map, slice_get}
use Rattle.std.specs.Option.{option_or, option_to_list}
use Rattle.std.proofs.lemmas.Option.{get_or_from_slice_get}
use Rattle.hb_types.specs.declared.change.Stored.{Stored}
use Rattle.hb_types.specs.declared.entry.Entry.{Entry}
use Rattle.hb_types.specs.declared.entry.Entry.TheVariants.{At, Moving}
use Rattle.hb_types.specs.declared.lock.Mode.{Mode}
use Rattle.hb_types.specs.declared.lock.Mode.TheVariants as mode
use Rattle.hb_types.specs.declared.places.Path.TheVariants as path
use Rattle.hb_types.specs.declared.places.Place.{Place}
use Rattle.hb_types.specs.declared.value.Value.{Value}
use Rattle.hb_types.specs.Groups.{group_of, route}
use Rattle.hb_types.specs.Lists.{Ascends, Each, IsIn}
use Rattle.hb_types.specs.Rows.{row_bytes}
use Rattle.hb_model.specs.declared.reply.Reply.{Reply}
use Rattle.hb_model.specs.declared.reply.Reply.TheVariants as reply
use Rattle.hb_model.specs.declared.table.Table.{Table}
use Rattle.hb_model.specs.Families.{Family}
use Rattle.hb_model.specs.Needs.{Need, in_area, most_locks, no_rows, row_locks, route_of}
use Rattle.hb_model.specs.Rows.{is_keyed}
use Rattle.hb_model.specs.Spots.{place_in}
use Rattle.hb_model.specs.State.{State, Spread}
use Rattle.hb_model.specs.System.{Sys}
use Rattle.hb_model.specs.TableRows.{TableRows, row_of, standing}
use Rattle.hb_model.specs.Valid.{IsTable}
use Rattle.hb_talk.specs.Plans.{Lying, considered, entry_under, lying, lying_rows, stored_at, walking}
use Rattle.hb_talk.specs.Talk.{Use, Planning}
use Rattle.hb_planlaws.specs.Planned.{most_back_ends}
use Rattle.hb_plancalc.proofs.Comes.{Stand, Plans, plans_bind}
use Rattle.hb_plancalc.proofs.Steps.{Goes}
use Rattle.hb_planlaws.proofs.Ends.{at}
use Rattle.hb_planlaws.proofs.KeyRows.{found, one_of_key, readable}
use Rattle.hb_planlaws.proofs.LockPlan.{length-mapped}
use Rattle.hb_planlaws.proofs.Walks.{entry_comes, entry_there, entry_told, walking_comes}
use Rattle.hb_planwrites.proofs.KeyWrites.{IsBackEnd, route_on_back_ends}
use Rattle.hb_planwrites.proofs.ListWrites.{Lies, by_key}

-- rows of a table, by ascending key and each where it lies: those with a key, or all
pub record Gathered (family : Family) (p : Spread) (t : Table) (o : Option ℤ) (ls : List Lying) : Type 0 where
  pub lies : Each (Lies family p (row_of t)) ls
  pub ascend : Ascends by_key ls
  pub read : map (λ l. l.1) ls ≡ filter (is_keyed t o) t.rows

-- the plan that reads them: with all its locks, or too many
abbrev pub Gathers : Family → Table → Spread → Option ℤ → Type 1
Gathers family t p o =
    (m : Mode) (F : Stand → Reply → Use → Type 0) (v : Use) (n : ℕ) (Q : Stand → List Stored → Use → Type 0) → v.locks ≡ n → n ≤ most_locks
    → ((w : Use) (k : ℕ) → most_locks ≤ k → k ≤ most_locks → k < n + length (row_locks m p o) → F (at family k) reply.TooMuch w)
    → ((w : Use) (rows : List Stored) → Gathered family p t o (lying_rows rows) → Goes v w (n + length (row_locks m p o)) → n + length (row_locks m p o) ≤ most_locks
    → Q (at family (n + length (row_locks m p o))) rows w)
    → Plans (considered m (p.number, no_rows t) o) v (at family n) Q F

-- ---- one key

append_none : {A : Type 0} (xs : List A) → xs ++ [] ≡ xs
append_none [] = refl
append_none (x ∷ xs) = ap (λ ys. x ∷ ys) (append_none xs)

or_none : {A : Type 0} (o : Option A) → option_or o None ≡ o
or_none None = refl
or_none (Some x) = refl

kept : (r : Stored) (l : Lying) → lying r ≡ Some l → lying_rows (r ∷ []) ≡ l ∷ []
kept r l h = rw h refl

module _ (family : Family) (t : Table) (p : Spread) (fits : IsTable t) (rows : TableRows family t p) (key : ℤ) where
  one_lies : (x : ℕ) → IsBackEnd family x → (o : Option (List Value)) → row_of t key ≡ o → standing family p.number key x ≡ option_map row_bytes o
      → Gathered family p t (Some key) (lying_rows (stored_at (place_in x p.number key) (option_map row_bytes o)))
  one_lies x back_end None none stands = record { lies = tt; ascend = tt; read = sym (one_of_key t key t.rows fits.rows_ascend ∙ ap option_to_list none) }
  one_lies x back_end (Some v) is stands =
      let place : Place = place_in x p.number key in
      let there : lying (record { place = place; row = row_bytes v }) ≡ Some (place, v) = ap (option_map (λ values. (place, values))) (readable family t p fits rows key v is) in
      subst (Gathered family p t (Some key)) (sym (kept (record { place = place; row = row_bytes v }) (place, v) there))
      (record {
        lies = (record { at = refl; back_end = back_end; stands = stands; is = is }, tt);
        ascend = tt;
        read = sym (one_of_key t key t.rows fits.rows_ascend ∙ ap option_to_list is);
      })

  lone : (x : ℕ) → IsBackEnd family x → standing family p.number key x ≡ option_map row_bytes (row_of t key)
      → Gathered family p t (Some key) (lying_rows (stored_at (place_in x p.number key) (standing family p.number key x)))
  lone x back_end stands =
      subst (λ z. Gathered family p t (Some key) (lying_rows (stored_at (place_in x p.number key) z))) (sym stands) (one_lies x back_end (row_of t key) refl stands)

  abbrev both : ℕ → ℕ → Option (List ℕ) → Option (List ℕ) → List Stored
  both a b x y = stored_at (place_in a p.number key) x ++ (stored_at (place_in b p.number key) y ++ [])

  pub gathered_key : (e : Entry) → slice_get p.entries (group_of key) ≡ Some e → Each (IsBackEnd family) (route e) → Gathered family p t (Some key) (lying_rows (found family p.number key (route e)))
  gathered_key (At a) entry back_ends =
      subst (λ z. Gathered family p t (Some key) (lying_rows z)) (sym (append_none (stored_at (place_in a p.number key) (standing family p.number key a))))
      (lone a back_ends.0 (sym (or_none (standing family p.number key a)) ∙ rows.same key (At a) entry))
  gathered_key (Moving a b) entry back_ends = by (rows.once key a b entry)
    where
      by : (standing family p.number key a ≡ None) ⊎ (standing family p.number key b ≡ None) → Gathered family p t (Some key) (lying_rows (found family p.number key (a ∷ b ∷ [])))
      by (inl none) =
          let there : standing family p.number key b ≡ option_map row_bytes (row_of t key) =
          sym (or_none (standing family p.number key b)) ∙ ap (λ o. option_or o (option_or (standing family p.number key b) None)) (sym none) ∙ rows.same key (Moving a b) entry in
          subst (λ z. Gathered family p t (Some key) (lying_rows (both a b z (standing family p.number key b)))) (sym none)
          (subst (λ z. Gathered family p t (Some key) (lying_rows z)) (sym (append_none (stored_at (place_in b p.number key) (standing family p.number key b)))) (lone b back_ends.1.0 there))
      by (inr none) =
          let there : standing family p.number key a ≡ option_map row_bytes (row_of t key) =
          sym (or_none (standing family p.number key a)) ∙ ap (λ o. option_or (standing family p.number key a) (option_or o None)) (sym none) ∙ rows.same key (Moving a b) entry in
          subst (λ z. Gathered family p t (Some key) (lying_rows (both a b (standing family p.number key a) z))) (sym none)
          (subst (λ z. Gathered family p t (Some key) (lying_rows z)) (sym (append_none (stored_at (place_in a p.number key) (standing family p.number key a)))) (lone a back_ends.0 there))

module _ (back_ends : ℕ) (family : Family) (s : State) (sys : Sys back_ends family s) (few : back_ends ≤ most_back_ends) (t : Table) (p : Spread)
    (fits : IsTable t) (rows : TableRows family t p) (there : IsIn p s.layout.spreads) where
  pub key_gathers : (key : ℤ) → Gathers family t p (Some key)
  key_gathers key m F v n Q even low full q =
      let e = entry_there back_ends family s sys few p there key in
      let walk : Option Entry → Planning (List Stored) = λ o. walking m p.number key (flat_map route (option_to_list o)) [] in
      let z : Stand = at family (n + 1) in
      let f : ℕ → Need = λ a. in_area a (path.Key (place_in a p.number key)) m in
      let mapped : length (map f (route_of p key)) ≡ length (route_of p key) = length-mapped f (route_of p key) in
      let routed : length (route_of p key) ≡ length (route e.0) = ap (λ x. length (route x)) (get_or_from_slice_get p.entries (group_of key) e.0 (At 0) e.1) in
      let total : n + length (row_locks m p (Some key)) ≡ (n + 1) + length (route e.0) = omega (arith, mapped, routed) in
      let read : Gathered family p t (Some key) (lying_rows (found family p.number key (route e.0))) =
      gathered_key family t p fits rows key e.0 e.1 (route_on_back_ends back_ends family s sys p there (group_of key) e.0 e.1) in
      plans_bind (entry_under mode.S p.number (group_of key)) walk v (at family n) Q F
      (entry_comes F mode.S p.number (group_of key) v (at family n) (λ y o x. Plans (walk o) x y Q F) even
      (λ x i reached. full x n reached low (omega (arith, total)))
      (λ x i l. subst (λ o. Plans (walk o) x z Q F) (sym (entry_told back_ends family s sys few p there (group_of key) e.0 e.1))
      (subst (λ areas. Plans (walking m p.number key areas []) x z Q F) (sym (append_none (route e.0)))
      (walking_comes F m p.number key (route e.0) [] x z Q i.locks (omega (arith, l))
      (λ w k j less is. full w k (omega (arith, is)) (omega (arith, is)) (omega (arith, less, total)))
      (λ w j within. subst (λ k. Q (at family k) (found family p.number key (route e.0)) w) total
      (q w (found family p.number key (route e.0)) read (record { locks = j.locks ∙ sym total; bytes = j.bytes ∙ i.bytes }) (omega (arith, total, within))))))))
