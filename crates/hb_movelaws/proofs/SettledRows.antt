-- The dictionary of a state with one entry at its new area: one row differs.
use Rattle.std.proofs.Common.{◌≡◌, ℕ, zero, suc, ◌+◌, List, [], ◌∷◌, ◌++◌, map, Option, Some, None, Bool, true, false, cond, refl, subst, sym, ap, ◌∙◌, arith}
use Rattle.std.specs.Prelude.{◌==◌, find, flat_map, nat_abs, option_and_then, option_map, slice_get, slice_set, unwrap_or, if◌then◌else◌}
use Rattle.std.proofs.lemmas.Bool.{false≢true}
use Rattle.std.proofs.lemmas.Bool.Decides.{Decides-eqb}
use Rattle.hb_types.specs.declared.change.Stored.{Stored}
use Rattle.hb_types.specs.declared.entry.Entry.{Entry}
use Rattle.hb_types.specs.declared.entry.Entry.TheVariants.{At, Moving}
use Rattle.hb_types.specs.declared.places.Place.{Place}
use Rattle.hb_types.specs.Groups.{map_from}
use Rattle.hb_types.specs.Lists.{Each, IsIn}
use Rattle.hb_types.specs.Places.{same_place}
use Rattle.hb_types.specs.Put.{lookup}
use Rattle.hb_types.specs.Rows.{row_bytes}
use Rattle.hb_types.proofs.PutLaws.{by_test}
use Rattle.hb_types.proofs.SamePlace.{same_place-eq}
use Rattle.hb_model.specs.declared.table.Table.{Table}
use Rattle.hb_model.specs.Dictionary.{area_rows, at_place, dictionary, entry_row, entry_rows, member_row, member_rows, rows_in_space, table_row, table_rows}
use Rattle.hb_model.specs.Spots.{areas_space, entries_space, entry_place, members_space, tables_space}
use Rattle.hb_model.specs.State.{State, Spread, table_named}
use Rattle.hb_model.specs.Valid.{IsState}
use Rattle.hb_model.proofs.DictionaryRows.{by_space, not_true}
use Rattle.hb_model.proofs.NumberedRows.{GoUp, by_find}
use Rattle.hb_planlaws.proofs.Named.{find_holds}
use Rattle.hb_planlaws.proofs.Walks.{numbered}
use Rattle.hb_planwrites.proofs.Systems.{find-mapped}
use Rattle.hb_movelaws.proofs.Settling.{goes_up, put, same_members, same_name, same_number}
use Rattle.hb_movelaws.proofs.SettledState.{only, with_it}

-- ---- look-ups

-- where nothing of the rows can lie, nothing stands
none_at : (P : Place → Type 0) (rows : List Stored) (x : Place) → Each (λ r. P r.place) rows → (P x → ⊥) → lookup x rows ≡ None
none_at P [] x e away = refl
none_at P (r ∷ rs) x e away =
    let apart : same_place x r.place ≡ false = not_true (same_place x r.place) (λ y. away (subst P (sym (same_place-eq x r.place y)) e.0)) in
    rw apart (none_at P rs x e.1 away)

abbrev listed : ℕ → ℕ → List Entry → List Stored
listed n first es = map_from (λ g e. at_place entries_space n g (entry_row e)) first es

of_number : (n first : ℕ) (es : List Entry) → Each (λ r. r.place.group ≡ n) (listed n first es)
of_number n first [] = tt
of_number n first (e ∷ es) = (refl, of_number n (first + 1) es)

abbrev bytes_of : Entry → Option (List ℕ)
bytes_of e = Some (row_bytes (entry_row e))

twice : (b : Bool) (r z l : Option (List ℕ)) → cond b r l ≡ cond b r (cond b z l)
twice true r z l = refl
twice false r z l = refl

swap : (b c : Bool) (r z l : Option (List ℕ)) → (b ≡ true → c ≡ false) → cond b z (cond c r l) ≡ cond c r (cond b z l)
swap true true r z l h = absurd (false≢true (sym (h refl)))
swap true false r z l h = refl
swap false c r z l h = refl

-- with one entry set, its row is the one that differs
set_listed : (x : Place) (n first k at : ℕ) (es : List Entry) (e y : Entry) → slice_get es k ≡ Some y → at ≡ first + k
    → lookup x (listed n first (slice_set es k e)) ≡ cond (same_place x (entry_place n at)) (bytes_of e) (lookup x (listed n first es))
set_listed x n first k at [] e y h is = cc
set_listed x n first zero at (z ∷ es) e y h is =
    let same : first ≡ at = omega (arith, is) in
    subst (λ a. lookup x (listed n first (e ∷ es)) ≡ cond (same_place x (entry_place n a)) (bytes_of e) (lookup x (listed n first (z ∷ es)))) same
    (twice (same_place x (entry_place n first)) (bytes_of e) (bytes_of z) (lookup x (listed n (first + 1) es)))
set_listed x n first (suc k) at (z ∷ es) e y h is =
    ap (λ o. cond (same_place x (entry_place n first)) (bytes_of z) o) (set_listed x n (first + 1) k at es e y h (omega (arith, is)))
    ∙ swap (same_place x (entry_place n first)) (same_place x (entry_place n at)) (bytes_of e) (bytes_of z) (lookup x (listed n (first + 1) es)) apart
  where
    apart : same_place x (entry_place n first) ≡ true → same_place x (entry_place n at) ≡ false
    apart t =
        not_true (same_place x (entry_place n at))
        (λ u. let same : entry_place n first ≡ entry_place n at = sym (same_place-eq x (entry_place n first) t) ∙ same_place-eq x (entry_place n at) u in
        let m : first ≡ at = ap (λ (q : Place). nat_abs q.key) same in omega (arith, m, is))

none_some : {A : Type 0} (x : A) → None ≡ Some x → ⊥
none_some x h = cc

some_of : {A : Type 0} (x y : A) → Some x ≡ Some y → x ≡ y
some_of x y h = cc

abbrev rows_if : ℕ → Option Table → List Stored
rows_if n o = unwrap_or (option_map (λ u. at_place tables_space 0 n (table_row u) ∷ []) o) []

module _ (back_ends : ℕ) (s : State) (is : IsState back_ends s) (p : Spread) (there : IsIn p s.layout.spreads) (group old new : ℕ)
    (moving : slice_get p.entries group ≡ Some (Moving old new)) where
  abbrev after : State
  after = with_it back_ends s is p there group old new moving

  abbrev ss : List Spread
  ss = s.layout.spreads

  abbrev done : Spread → Spread
  done = put p.number group new

  abbrev here : Place
  here = entry_place p.number group

  abbrev row : Option (List ℕ)
  row = bytes_of (At new)

  tables_kept : (qs : List Spread) → flat_map (table_rows after) (map done qs) ≡ flat_map (table_rows s) qs
  tables_kept [] = refl
  tables_kept (q ∷ qs) =
      ap (λ n. rows_if n (table_named s (done q).name) ++ flat_map (table_rows after) (map done qs)) (same_number p.number group new q)
      ∙ ap (λ n. rows_if q.number (table_named s n) ++ flat_map (table_rows after) (map done qs)) (same_name p.number group new q) ∙ ap (λ rs. table_rows s q ++ rs) (tables_kept qs)

  abbrev members_of : ℕ → List ℕ → List Stored
  members_of n ms = map_from (λ i area. at_place members_space n i (member_row area)) 1 ms

  members_kept : (qs : List Spread) → flat_map member_rows (map done qs) ≡ flat_map member_rows qs
  members_kept [] = refl
  members_kept (q ∷ qs) =
      ap (λ n. members_of n (done q).members ++ flat_map member_rows (map done qs)) (same_number p.number group new q)
      ∙ ap (λ ms. members_of q.number ms ++ flat_map member_rows (map done qs)) (same_members p.number group new q) ∙ ap (λ rs. member_rows q ++ rs) (members_kept qs)

  module _ (x : Place) where
    abbrev stands : Spread → Option (List ℕ)
    stands t = lookup x (entry_rows t)

    abbrev found : List Spread → Option Spread
    found qs = find (λ (u : Spread). x.group == u.number) qs

    by_group : (qs : List Spread) → GoUp 1 qs → lookup x (flat_map entry_rows qs) ≡ option_and_then stands (found qs)
    by_group qs e =
        by_find x x.group entry_rows stands (λ t h. refl)
        (λ t n. none_at (λ q. q.group ≡ t.number) (entry_rows t) x (of_number t.number 0 t.entries) (λ h. false≢true (sym n ∙ (Decides-eqb x.group t.number).1 h))) 1 qs e

    p_found : x.group ≡ p.number → found ss ≡ Some p
    p_found e = ap (λ n. find (λ (u : Spread). n == u.number) ss) e ∙ numbered 1 ss p is.spreads_numbered there

    its_group : same_place x here ≡ true → x.group ≡ p.number
    its_group y = ap (λ (q : Place). q.group) (same_place-eq x here y)

    elsewhere : (o : Option (List ℕ)) → same_place x here ≡ false → o ≡ cond (same_place x here) row o
    elsewhere o f = sym (ap (λ (b : Bool). cond b row o) f)

    cases : (o : Option Spread) → found ss ≡ o → option_and_then stands (option_map done o) ≡ cond (same_place x here) row (option_and_then stands o)
    cases None e = elsewhere None (not_true (same_place x here) (λ y. none_some p (sym e ∙ p_found (its_group y))))
    cases (Some q) e =
        let in_it = (find_holds (λ (u : Spread). x.group == u.number) ss q e).1 in
        by_test (q.number == p.number)
        (λ y. rw y (subst (λ (z : Spread). lookup x (listed z.number 0 (slice_set z.entries group (At new))) ≡ cond (same_place x here) row (lookup x (entry_rows z)))
        (sym (only back_ends s is p there group old new moving q in_it y))
        (set_listed x p.number 0 group group p.entries (At new) (Moving old new) moving (omega arith))))
        (λ n. rw n (elsewhere (stands q) (not_true (same_place x here)
        (λ y. let same : q ≡ p = some_of q p (sym e ∙ p_found (its_group y)) in
        false≢true (sym n ∙ (Decides-eqb q.number p.number).1 (ap (λ (z : Spread). z.number) same))))))

    abbrev Goal : List Stored → List Stored → Type 0
    Goal later now = lookup x later ≡ cond (same_place x here) row (lookup x now)

    in_entries : Goal (flat_map entry_rows (map done ss)) (flat_map entry_rows ss)
    in_entries =
        by_group (map done ss) (goes_up p.number group new ss is.spreads_numbered)
        ∙ ap (option_and_then stands) (find-mapped (λ (u : Spread). x.group == u.number) done ss (λ q. ap (λ n. x.group == n) (same_number p.number group new q)))
        ∙ cases (found ss) refl ∙ ap (λ o. cond (same_place x here) row o) (sym (by_group ss is.spreads_numbered))

    abbrev space : ℕ
    space = x.space.table

    away : (j : ℕ) → (j == entries_space) ≡ false → (space == j) ≡ true → same_place x here ≡ false
    away j differs y =
        not_true (same_place x here)
        (λ z. false≢true (sym differs ∙ (Decides-eqb j entries_space).1 (sym ((Decides-eqb space j).0 y) ∙ ap (λ (q : Place). q.space.table) (same_place-eq x here z))))

    not_entries : (space == entries_space) ≡ false → same_place x here ≡ false
    not_entries n =
        not_true (same_place x here) (λ z. false≢true (sym n ∙ (Decides-eqb space entries_space).1 (ap (λ (q : Place). q.space.table) (same_place-eq x here z))))

    choose : (a b c d : Bool) → (space == areas_space) ≡ a → (space == tables_space) ≡ b → (space == members_space) ≡ c → (space == entries_space) ≡ d
        → Goal (if a then area_rows after else (if b then flat_map (table_rows after) (map done ss) else (if c then flat_map member_rows (map done ss) else (if d then flat_map entry_rows (map done ss) else []))))
        (if a then area_rows s else (if b then flat_map (table_rows s) ss else (if c then flat_map member_rows ss else (if d then flat_map entry_rows ss else []))))
    choose true b c d h i j k = elsewhere (lookup x (area_rows s)) (away areas_space refl h)
    choose false true c d h i j k = ap (lookup x) (tables_kept ss) ∙ elsewhere (lookup x (flat_map (table_rows s) ss)) (away tables_space refl i)
    choose false false true d h i j k = ap (lookup x) (members_kept ss) ∙ elsewhere (lookup x (flat_map member_rows ss)) (away members_space refl j)
    choose false false false true h i j k = in_entries
    choose false false false false h i j k = elsewhere None (not_entries k)

    in_space : Goal (rows_in_space after space) (rows_in_space s space)
    in_space = choose (space == areas_space) (space == tables_space) (space == members_space) (space == entries_space) refl refl refl refl

    -- the dictionary differs in the entry's row
    pub dictionary_with : lookup x (dictionary after) ≡ cond (same_place x here) row (lookup x (dictionary s))
    dictionary_with = by_space after x ∙ in_space ∙ ap (λ o. cond (same_place x here) row o) (sym (by_space s x))
