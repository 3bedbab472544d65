-- The entries that are put are those that move, since each reads back as it was written.
use Rattle.std.proofs.Common.{◌≡◌, ℕ, zero, suc, ◌+◌, ◌<◌, Bool, false, List, [], ◌∷◌, ◌++◌, length, take, get_or, arith, ap, sym, ◌∙◌, subst}
use Rattle.std.specs.Prelude.{cond, if◌then◌else◌, filter, unwrap_or, option_map, Some}
use Rattle.std.proofs.lemmas.List.Elements.{filter-append}
use Rattle.hb_types.specs.declared.change.Change.{Change}
use Rattle.hb_types.specs.declared.change.Stored.{Stored}
use Rattle.hb_types.specs.declared.entry.Entry.{Entry}
use Rattle.hb_types.specs.declared.entry.Entry.TheVariants.{At, Moving}
use Rattle.hb_types.specs.Groups.{is_moving, map_from}
use Rattle.hb_types.specs.Lists.{Each}
use Rattle.hb_types.specs.Rows.{row_bytes}
use Rattle.hb_model.specs.Dictionary.{at_place, entry_row}
use Rattle.hb_model.specs.Spots.{entries_space}
use Rattle.hb_model.specs.Told.{entry_of}
use Rattle.hb_dict.specs.DictionaryRows.{AreAreas}
use Rattle.hb_dict.proofs.Tells.{entry_tells}
use Rattle.hb_definerows.specs.DefineRows.{AreSmall, IsMarked, Puts}
use Rattle.hb_definerows.proofs.RowsPut.{map_from_more, puts_both}
use Rattle.hb_definerows.proofs.Short.{entry_row_of}

-- the row of a group's entry
abbrev pub entry_at : ℕ → ℕ → Entry → Stored
entry_at table group e = at_place entries_space table group (entry_row e)

abbrev pub is_put : Stored → Bool
is_put r = unwrap_or (option_map is_moving (entry_of (Some r.row))) false

are_areas : (e : Entry) → AreSmall e → IsMarked e → AreAreas e
are_areas (At a) small mark = (mark, small)
are_areas (Moving a b) small mark = ((mark.0, small.0), (mark.1, small.1))

puts_moving : (table group : ℕ) (e : Entry) → AreSmall e → IsMarked e → is_put (entry_at table group e) ≡ is_moving e
puts_moving table group e small mark =
    ap (λ o. unwrap_or (option_map is_moving o) false) (entry_tells (row_bytes (entry_row e)) e record { areas = are_areas e small mark; spelled = entry_row_of e small })

put_here : (r : Stored) (b : Bool) → is_put r ≡ b → filter is_put (r ∷ []) ≡ cond b (r ∷ []) []
put_here r b is = ap (λ (t : Bool). cond t (r ∷ []) []) is

-- the rows that are put, with those of one group more
moving_more : (table : ℕ) (es : List Entry) (i : ℕ) (d : Entry) → i < length es → AreSmall (get_or es i d) → IsMarked (get_or es i d)
    → filter is_put (map_from (entry_at table) 0 (take (i + 1) es))
    ≡ filter is_put (map_from (entry_at table) 0 (take i es)) ++ (if is_moving (get_or es i d) then entry_at table i (get_or es i d) ∷ [] else [])
moving_more table es i d lt small mark =
    let e = get_or es i d in
    let r = entry_at table i e in
    ap (filter is_put) (map_from_more (entry_at table) 0 es i i d lt (omega arith))
    ∙ filter-append is_put (map_from (entry_at table) 0 (take i es)) (r ∷ [])
    ∙ ap (λ (l : List Stored). filter is_put (map_from (entry_at table) 0 (take i es)) ++ l) (put_here r (is_moving e) (puts_moving table i e small mark))

each_at : (es : List Entry) (i : ℕ) (d : Entry) → i < length es → Each IsMarked es → IsMarked (get_or es i d)
each_at [] i d lt each = absurd (omega arith)
each_at (x ∷ xs) zero d lt each = each.0
each_at (x ∷ xs) (suc i) d lt each = each_at xs i d (omega (arith, lt)) each.1

-- the rows that are put so far, with that of one entry more where it moves
pub puts_if_moving : (old mid new : List Change) (table : ℕ) (es : List Entry) (i k : ℕ) (d : Entry) → i < length es → k ≡ i → AreSmall (get_or es i d) → Each IsMarked es
    → Puts old mid (filter is_put (map_from (entry_at table) 0 (take i es)))
    → Puts mid new (if is_moving (get_or es i d) then entry_at table k (get_or es i d) ∷ [] else [])
    → Puts old new (filter is_put (map_from (entry_at table) 0 (take (i + 1) es)))
puts_if_moving old mid new table es i k d lt at small marks before one =
    let e = get_or es i d in
    let here : Puts mid new (if is_moving e then entry_at table i e ∷ [] else []) = subst (λ (n : ℕ). Puts mid new (if is_moving e then entry_at table n e ∷ [] else [])) at one in
    subst (Puts old new) (sym (moving_more table es i d lt small (each_at es i d lt marks))) (puts_both old mid new _ _ before here)
