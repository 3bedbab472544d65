-- A state with one table more is one that the system can have.
use Rattle.std.proofs.Common.{◌≡◌, ℕ, ◌+◌, ◌<◌, List, [], ◌∷◌, ◌++◌, length, map, Some, None, Bool, true, false, not, refl, subst, sym, ap, ◌∙◌, arith}
use Rattle.std.specs.Prelude.{◌||◌, find, IsSome, IsTrue}
use Rattle.std.specs.List.{list_any}
use Rattle.std.specs.Ordering.{is_eq, is_lt, ordering_reverse}
use Rattle.std.specs.Str.{bytes_eq}
use Rattle.std.specs.declared.cmp.Ordering.{Ordering}
use Rattle.std.specs.declared.cmp.Ordering.TheVariants.{Less, Equal, Greater}
use Rattle.std.proofs.lemmas.Bool.{false≢true}
use Rattle.std.proofs.lemmas.Cmp.{nat_list_cmp_total, on_total}
use Rattle.std.proofs.lemmas.Map.Text.{is_eq-slice_cmp}
use Rattle.std.proofs.lemmas.Slice.Eq.{bytes_eq-Decides}
use Rattle.hb_types.specs.Lists.{Ascends, Each, has_twins}
use Rattle.hb_types.proofs.Ascending.{Ascends-first, Ascends-tail, Each-append, Each-of}
use Rattle.hb_types.proofs.PutLaws.{by_test}
use Rattle.hb_model.specs.declared.table.Table.{Table}
use Rattle.hb_model.specs.Define.{create_table}
use Rattle.hb_model.specs.Names.{text_cmp}
use Rattle.hb_model.specs.State.{State, Spread, with_table}
use Rattle.hb_model.specs.Valid.{IsArea, IsSpread, IsState, IsTable}
use Rattle.hb_model.proofs.DictionaryRows.{not_true}
use Rattle.hb_model.proofs.NumberedRows.{GoUp}
use Rattle.hb_planlaws.proofs.Named.{all_twins_more, is_false}
use Rattle.hb_planlaws.proofs.Scans.{head_is, tail_is}
use Rattle.hb_planwrites.proofs.RowsPut.{first_below}
use Rattle.hb_plantables.proofs.Longer.{IsNext, name_free, names_free, other_table}

-- ---- tables by name

abbrev by_name : Table → Table → Ordering
by_name a b = text_cmp a.name b.name

each_with : (P : Table → Type 0) (t : Table) (us : List Table) → P t → Each P us → Each P (with_table t us)
each_with P t [] h e = (h, tt)
each_with P t (u ∷ us) h e = by_test (is_lt (text_cmp t.name u.name)) (λ y. rw y (h, e)) (λ n. rw n (e.0, each_with P t us h e.1))

length_with : (t : Table) (us : List Table) → length (with_table t us) ≡ length us + 1
length_with t [] = omega arith
length_with t (u ∷ us) = by_test (is_lt (text_cmp t.name u.name)) (λ y. rw y (omega arith)) (λ n. rw n (let e = length_with t us in omega (arith, e)))

is_less : (o : Ordering) → is_lt o ≡ true → o ≡ Less
is_less Less e = refl
is_less Equal e = absurd (false≢true e)
is_less Greater e = absurd (false≢true e)

above : (o : Ordering) (n m : List ℕ) → text_cmp n m ≡ o → is_lt o ≡ false → bytes_eq n m ≡ false → text_cmp m n ≡ Less
above Less n m h l d = absurd (false≢true (sym l))
above Equal n m h l d = absurd (false≢true (sym d ∙ sym (is_eq-slice_cmp n m) ∙ ap is_eq h))
above Greater n m h l d = nat_list_cmp_total.antisymm m n ∙ ap ordering_reverse h

ascends_with : (t : Table) (us : List Table) → Ascends by_name us → Each (λ (u : Table). bytes_eq t.name u.name ≡ false) us → Ascends by_name (with_table t us)
ascends_with t [] h e = tt
ascends_with t (u ∷ us) h e =
    let order = on_total (λ (x : Table). x.name) nat_list_cmp_total in
    by_test (is_lt (text_cmp t.name u.name))
    (λ y. rw y (is_less (text_cmp t.name u.name) y, h))
    (λ n. let below : by_name u t ≡ Less = above (text_cmp t.name u.name) t.name u.name refl n e.0 in
    rw n (first_below by_name order u (with_table t us) (each_with (λ x. by_name u x ≡ Less) t us below (Ascends-first by_name order u us h)) (ascends_with t us (Ascends-tail by_name order u us h) e.1)))

unfound : (name : List ℕ) (us : List Table) → find (λ (u : Table). bytes_eq u.name name) us ≡ None → Each (λ (u : Table). bytes_eq name u.name ≡ false) us
unfound name [] e = tt
unfound name (u ∷ us) e =
    by_test (bytes_eq u.name name)
    (λ y. absurd (some_none u (sym (rw y refl) ∙ e)))
    (λ f. (not_true (bytes_eq name u.name) (λ y. false≢true (sym f ∙ (bytes_eq-Decides u.name name).1 (sym ((bytes_eq-Decides name u.name).0 y)))), unfound name us (rw f at e)))
  where
    some_none : (x : Table) → Some x ≡ None → ⊥
    some_none x h = cc

-- ---- spreads with one more

abbrev alike : Spread → Spread → Bool
alike a b = bytes_eq a.name b.name

neither : (a b : Bool) → (a || b) ≡ false → (a ≡ false) × (b ≡ false)
neither true b e = absurd (false≢true (sym e))
neither false b e = (refl, e)

both_false : (a b : Bool) → a ≡ false → b ≡ false → (a || b) ≡ false
both_false true b e f = e
both_false false b e f = f

any_more : (p : Spread → Bool) (ss : List Spread) (q : Spread) → list_any p ss ≡ false → p q ≡ false → list_any p (ss ++ q ∷ []) ≡ false
any_more p [] q e h = both_false (p q) false h refl
any_more p (r ∷ ss) q e h = let n = neither (p r) (list_any p ss) e in both_false (p r) (list_any p (ss ++ q ∷ [])) n.0 (any_more p ss q n.1 h)

twins_with : (ss : List Spread) (q : Spread) → has_twins alike ss ≡ false → Each (λ r. alike r q ≡ false) ss → has_twins alike (ss ++ q ∷ []) ≡ false
twins_with [] q e h = refl
twins_with (r ∷ ss) q e h =
    let n = neither (list_any (alike r) ss) (has_twins alike ss) (sym (all_twins_more alike r ss) ∙ e) in
    all_twins_more alike r (ss ++ q ∷ []) ∙ both_false (list_any (alike r) (ss ++ q ∷ [])) (has_twins alike (ss ++ q ∷ [])) (any_more (alike r) ss q n.0 h.0) (twins_with ss q n.1 h.1)

pub length_more : {A : Type 0} (xs : List A) (x : A) → length (xs ++ x ∷ []) ≡ length xs + 1
length_more [] x = omega arith
length_more (y ∷ xs) x = let e = length_more xs x in omega (arith, e)

numbers_up : (first : ℕ) (ss : List Spread) (q : Spread) → GoUp first ss → q.number ≡ first + length ss → GoUp first (ss ++ q ∷ [])
numbers_up first [] q e h = let is : q.number ≡ first = omega (arith, h) in ap (λ n. n ∷ []) is
numbers_up first (r ∷ ss) q e h =
    let rest = numbers_up (first + 1) ss q (tail_is r first ss e) (omega (arith, h)) in
    ap (λ n. n ∷ map (λ (t : Spread). t.number) (ss ++ q ∷ [])) (head_is r first ss e) ∙ ap (λ ns. first ∷ ns) rest

-- ---- the state

module _ (back_ends : ℕ) (s : State) (is : IsState back_ends s) (t : Table) (p : Spread) (next : IsNext s t p) (few : length s.tables < 64) (table : IsTable t)
    (spread : IsSpread (create_table s t p) p) where
  abbrev after : State
  after = create_table s t p

  area_kept : (a : _) → IsArea back_ends s a → IsArea back_ends after a
  area_kept a x = record { named = x.named; low = x.low; high = x.high; first = x.first; last = x.last }

  spread_kept : (q : Spread) → IsSpread s q → IsSpread after q
  spread_kept q x = record {
    of_table = subst IsSome (sym (other_table s t p next q.name (name_free s t p next q x))) x.of_table;
    some_members = x.some_members;
    few_members = x.few_members;
    members_differ = x.members_differ;
    members_are_areas = x.members_are_areas;
    all_groups = x.all_groups;
    entries_among = x.entries_among;
    fair = x.fair;
  }

  not_twins : (x : Bool) → x ≡ false → IsTrue (not x)
  not_twins x e = ap not e

  apart : (q : Spread) → bytes_eq t.name q.name ≡ false → alike q p ≡ false
  apart q f =
      not_true (bytes_eq q.name p.name)
      (λ y. false≢true (sym f ∙ (bytes_eq-Decides t.name q.name).1 (sym ((bytes_eq-Decides q.name p.name).0 y ∙ next.named))))

  pub state_after : IsState back_ends after
  state_after =
      let ss = s.layout.spreads in
      let longer = length_with t s.tables in
      let more = length_more ss p in
      let one = is.one_spread_each in
      let number = next.number in
      record {
        areas = record {
          few = is.areas.few;
          ascend = is.areas.ascend;
          names_differ = is.areas.names_differ;
          each = Each-of (IsArea back_ends s) (IsArea back_ends after) s.layout.areas area_kept is.areas.each;
        };
        few_tables = omega (arith, longer, few);
        tables_ascend = ascends_with t s.tables is.tables_ascend (unfound t.name s.tables next.free);
        tables = each_with IsTable t s.tables table is.tables;
        one_spread_each = omega (arith, longer, more, one);
        spreads_numbered = numbers_up 1 ss p is.spreads_numbered (omega (arith, number));
        spread_names_differ = not_twins (has_twins alike (ss ++ p ∷ [])) (twins_with ss p (is_false _ is.spread_names_differ)
            (Each-of (λ q. bytes_eq t.name q.name ≡ false) (λ q. alike q p ≡ false) ss apart (names_free s t p next ss is.spreads)));
        spreads = Each-append (IsSpread after) ss (p ∷ []) (Each-of (IsSpread s) (IsSpread after) ss spread_kept is.spreads) (spread, tt);
      }
