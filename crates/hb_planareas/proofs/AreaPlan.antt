-- What the plan of CREATE RDAREA comes to.
use Rattle.std.proofs.Common.{◌≡◌, inl, inr, ℕ, ◌+◌, ◌≤◌, ◌<◌, ℤ, List, [], ◌∷◌, length, Option, Some, None, Bool, true, false, refl, subst, sym, ap, ◌∙◌, arith}
use Rattle.std.specs.Prelude.{find, filter_map, is_none, is_some, nat_le, unwrap_or, if◌then◌else◌}
use Rattle.std.specs.Option.{option_or}
use Rattle.std.specs.Str.{bytes_eq}
use Rattle.std.proofs.lemmas.Bool.{false≢true}
use Rattle.std.proofs.lemmas.Bool.Decides.{nat_tests}
use Rattle.hb_types.specs.declared.change.Change.{Change}
use Rattle.hb_types.specs.declared.change.Stored.{Stored}
use Rattle.hb_types.specs.declared.entry.Entry.TheVariants.{Moving}
use Rattle.hb_types.specs.declared.lock.Mode.TheVariants as mode
use Rattle.hb_types.specs.Groups.{group_of, route}
use Rattle.hb_types.specs.Lists.{Each, IsIn}
use Rattle.hb_types.specs.Places.{node_of_area, same_place}
use Rattle.hb_types.specs.Put.{lookup}
use Rattle.hb_types.specs.Records.{change_bytes}
use Rattle.hb_model.specs.declared.reply.Reply.{Reply}
use Rattle.hb_model.specs.declared.reply.Reply.TheVariants as reply
use Rattle.hb_model.specs.declared.statement.Statement.{Statement}
use Rattle.hb_model.specs.declared.statement.Statement.TheVariants as statement
use Rattle.hb_model.specs.declared.table.Table.{Table}
use Rattle.hb_model.specs.Answers.{put_at, rows_of}
use Rattle.hb_model.specs.Define.{create_area, create_area_refusals, new_area}
use Rattle.hb_model.specs.Dictionary.{area_row}
use Rattle.hb_model.specs.Does.{effect}
use Rattle.hb_model.specs.Families.{Family}
use Rattle.hb_model.specs.Names.{back_end_named}
use Rattle.hb_model.specs.Needs.{most_locks}
use Rattle.hb_model.specs.Refusals.{Effect, change_size, first_refusal, unless}
use Rattle.hb_model.specs.Spots.{ds, areas_space, dictionary_space, place_in}
use Rattle.hb_model.specs.State.{State, Area, Spread, area_named, nothing}
use Rattle.hb_model.specs.System.{Sys}
use Rattle.hb_model.specs.TableRows.{TableRows, along, standing}
use Rattle.hb_model.specs.Valid.{IsName}
use Rattle.hb_talk.specs.Plans.{sizes, writes}
use Rattle.hb_talk.specs.PlansDefine.{area_of, areas, plan, put_row}
use Rattle.hb_talk.specs.Talk.{Use, Planning, ◌>>◌, lock, pure, refuse, scan}
use Rattle.hb_plancalc.specs.Counted.{IsWithin}
use Rattle.hb_planlaws.specs.Planned.{PlanDoes, PlanDoesWhere, most_back_ends}
use Rattle.hb_plancalc.proofs.Comes.{Stand, Comes, Plans, plans_bind}
use Rattle.hb_plancalc.proofs.Steps.{granted, lock_comes, scan_comes}
use Rattle.hb_planlaws.proofs.Ends.{at, is_too_much, start}
use Rattle.hb_planlaws.proofs.Named.{find_holds}
use Rattle.hb_planwrites.proofs.Changed.{at_ascends, at_elsewhere, at_length, at_put}
use Rattle.hb_planwrites.proofs.Closing.{Closed, closed_too_much, closed_written, marked_does_where, sizes_more, writes_come}
use Rattle.hb_planwrites.proofs.KeyWrites.{IsBackEnd, route_on_back_ends}
use Rattle.hb_planwrites.proofs.Marks.{Marked, Settled, forget_last, forget_marking, last, last_comes, marking, marking_comes, unmarked}
use Rattle.hb_planwrites.proofs.Tabled.{refused_at, too_many}
use Rattle.hb_planareas.proofs.AreaRows.{areas_path, areas_told, dictionary_more, row_at}
use Rattle.hb_planareas.proofs.AreaStates.{named_among, numbers_apart, state_after}

-- ---- refusals

abbrev three : Bool → Bool → Bool → Option Reply
three a b c = first_refusal ((a, reply.NoNode) ∷ (b, reply.AreaThere) ∷ (c, reply.TooMany) ∷ [])

three_other : (a b c : Bool) (r : Reply) → three a b c ≡ Some r → is_too_much r ≡ false
three_other true b c r h = let same : reply.NoNode ≡ r = cc in subst (λ x. is_too_much x ≡ false) same refl
three_other false true c r h = let same : reply.AreaThere ≡ r = cc in subst (λ x. is_too_much x ≡ false) same refl
three_other false false true r h = let same : reply.TooMany ≡ r = cc in subst (λ x. is_too_much x ≡ false) same refl
three_other false false false r h = cc

three_none : (a b c : Bool) → three a b c ≡ None → (a ≡ false) × (b ≡ false) × (c ≡ false)
three_none true b c h = cc
three_none false true c h = cc
three_none false false true h = cc
three_none false false false h = (refl, refl, refl)

some_of : {A : Type 0} (o : Option A) → is_none o ≡ false → (x : A) × (o ≡ Some x)
some_of None h = absurd (false≢true (sym h))
some_of (Some x) h = (x, refl)

none_of : {A : Type 0} (o : Option A) → is_some o ≡ false → o ≡ None
none_of None h = refl
none_of (Some x) h = absurd (false≢true (sym h))

-- ---- rows of the back ends, behind a change at ds

module _ (back_ends : ℕ) (family : Family) (s : State) (sys : Sys back_ends family s) (c : Change) where
  abbrev after : Family
  after = put_at ds c family

  back_end_kept : (n : ℕ) → 2 ≤ n → rows_of n after ≡ rows_of n family
  back_end_kept n two = at_elsewhere n ds c family (λ e. omega (arith, two, e))

  standing_kept : (table : ℕ) (key : ℤ) (a : ℕ) → IsBackEnd family a → standing after table key a ≡ standing family table key a
  standing_kept table key a is = ap (lookup (place_in a table key)) (back_end_kept (node_of_area a) is.behind)

  along_kept : (table : ℕ) (key : ℤ) (areas : List ℕ) → Each (IsBackEnd family) areas → along after table key areas ≡ along family table key areas
  along_kept table key [] e = refl
  along_kept table key (a ∷ more) e =
      ap (λ o. option_or o (along after table key more)) (standing_kept table key a e.0) ∙ ap (λ o. option_or (standing family table key a) o) (along_kept table key more e.1)

  table_kept : (t : Table) (p : Spread) → IsIn p s.layout.spreads → TableRows family t p → TableRows after t p
  table_kept t p there rows = record {
    placed = λ node q row two table stands. rows.placed node q row two table (ap (lookup q) (sym (back_end_kept node two)) ∙ stands);
    once = λ key a b h. let on = route_on_back_ends back_ends family s sys p there (group_of key) (Moving a b) h in
        elim (rows.once key a b h) [ inl x ↦ inl (standing_kept p.number key a on.0 ∙ x) | inr x ↦ inr (standing_kept p.number key b on.1.0 ∙ x) ];
    same = λ key e h. along_kept p.number key (route e) (route_on_back_ends back_ends family s sys p there (group_of key) e h) ∙ rows.same key e h;
  }

-- ---- CREATE RDAREA

put_size : (a : Area) → length (change_bytes (put_row (row_at a))) ≡ change_size (area_row a)
put_size a = omega arith

module _ (name node : List ℕ) (back_ends : ℕ) where
  abbrev st : Statement
  st = statement.CreateArea name node

  abbrev refusal_by : List Area → Option Reply
  refusal_by some = three (is_none (back_end_named back_ends node)) (is_some (find (λ (a : Area). bytes_eq a.name name) some)) (nat_le 64 (length some))

  abbrev with_some : List Area → State
  with_some some = record nothing { layout = record nothing.layout { areas = some } }

  abbrev its_back_end : ℕ
  its_back_end = unwrap_or (back_end_named back_ends node) 0

  abbrev added_by : List Area → Area
  added_by some = new_area (with_some some) name its_back_end

  abbrev ending : List Area → Planning Reply
  ending some = writes (put_row (row_at (added_by some)) ∷ []) >> pure reply.Created

  abbrev answered : List Area → Marked Reply
  answered some = marking (refuse (refusal_by some)) (λ _. last (ending some))

  abbrev marked : Marked Reply
  marked = marking (areas mode.X) (λ rows. answered (filter_map area_of rows))

  forgets_answered : (some : List Area) (u : Use) → unmarked (answered some u) ≡ (refuse (refusal_by some) >> ending some) u
  forgets_answered some u = forget_marking (refuse (refusal_by some)) (λ _. last (ending some)) (λ _. ending some) (λ _ v. forget_last (ending some) v) u

  forgets : (u : Use) → unmarked (marked u) ≡ plan back_ends st u
  unfolding plan
  forgets u =
      forget_marking (areas mode.X) (λ rows. answered (filter_map area_of rows)) (λ rows. refuse (refusal_by (filter_map area_of rows)) >> ending (filter_map area_of rows))
      (λ rows v. forgets_answered (filter_map area_of rows) v) u

  module _ (valid : IsName name) (u : Use) (family : Family) (s : State) (few : back_ends ≤ most_back_ends) (within : IsWithin u) (sys : Sys back_ends family s) where
    abbrev C : Bool → Stand → Reply → Type 0
    C = Closed back_ends u st s

    abbrev F : Stand → Reply → Use → Type 0
    F z e v = C (is_too_much e) z e

    abbrev added : Area
    added = new_area s name its_back_end

    abbrev done : Effect
    done = record { state = create_area s added; reply = reply.Created; bytes = change_size (area_row added) }

    refusal_is : first_refusal (create_area_refusals back_ends s name node) ≡ refusal_by s.layout.areas
    refusal_is = refl

    effect_is : (o : Option Reply) → refusal_by s.layout.areas ≡ o → effect back_ends s st ≡ unless o done
    unfolding effect
    effect_is o h = ap (λ x. unless x done) h

    abbrev change : Change
    change = put_row (row_at added)

    -- the Write leaves a system
    left : refusal_by s.layout.areas ≡ None → Sys back_ends (put_at ds change family) (create_area s added)
    left h =
        let n = three_none (is_none (back_end_named back_ends node)) (is_some (find (λ (a : Area). bytes_eq a.name name) s.layout.areas)) (nat_le 64 (length s.layout.areas)) h in
        let b = some_of (back_end_named back_ends node) n.0 in
        let is : its_back_end ≡ b.0 = ap (λ o. unwrap_or o 0) b.1 in
        let bounds = named_among back_ends node b.0 b.1 in
        let low : 1 ≤ its_back_end = subst (λ k. 1 ≤ k) (sym is) bounds.0 in
        let high : its_back_end ≤ back_ends = subst (λ k. k ≤ back_ends) (sym is) bounds.1 in
        let free : area_named s name ≡ None = none_of (area_named s name) n.1 in
        let room : length s.layout.areas < 64 = below n.2 in
        let apart = numbers_apart back_ends s sys.state name its_back_end valid low high free room in
        record {
          servers = at_length ds change family ∙ sys.servers;
          ascending = at_ascends ds change family sys.ascending;
          state = state_after back_ends s sys.state name its_back_end valid low high free room;
          dictionary_rows = λ q. at_put ds change family q (omega arith) some_servers ∙ ap (λ o. if same_place q change.place then change.row else o) (sys.dictionary_rows q)
              ∙ sym (dictionary_more s added q apart);
          of_tables = λ n q row two stands. sys.of_tables n q row two (ap (lookup q) (sym (back_end_kept back_ends family s sys change n two)) ∙ stands);
          tables = λ x t p found at. table_kept back_ends family s sys change t p (find_holds (λ (r : Spread). bytes_eq r.name x) s.layout.spreads p at).1 (sys.tables x t p found at);
        }
      where
        below : nat_le 64 (length s.layout.areas) ≡ false → length s.layout.areas < 64
        below f = grind (arith, nat_tests)

        some_servers : 1 ≤ length family
        some_servers = let e = sys.servers in omega (arith, e)

    answers : (v : Use) → v.bytes ≡ u.bytes → u.locks < most_locks → (o : Option Reply) → refusal_by s.layout.areas ≡ o
        → Comes (marking (refuse o) (λ _. last (ending s.layout.areas)) v) (at family (u.locks + 1)) (Settled C)
    answers v even low None h =
        let size : sizes (change ∷ []) ≡ change_size (area_row added) = (let more = sizes_more change [] in let one = put_size added in omega (arith, more, one)) in
        last_comes C (ending s.layout.areas) v (at family (u.locks + 1))
        (plans_bind (writes (change ∷ [])) (λ _. pure reply.Created) v (at family (u.locks + 1)) (λ y r w. C false y r) (λ y r w. C false y r)
        (writes_come (λ y r w. C false y r) (change ∷ []) v (at family (u.locks + 1)) (λ y a w. C false y reply.Created)
        (λ w l. closed_written back_ends u st family s sys done _ (effect_is None h) (omega (arith, l, even, size)) (left h) (omega (arith, size)) refl (omega (arith, low)))
        (λ w l. closed_too_much back_ends u st family s sys done (u.locks + 1) (effect_is None h) (omega (arith, l, even, size)) refl (omega (arith, low)))))
    answers v even low (Some r) h =
        λ x. refused_at back_ends u st family s sys (u.locks + 1) r (effect_is (Some r) h)
        (three_other (is_none (back_end_named back_ends node)) (is_some (find (λ (a : Area). bytes_eq a.name name) s.layout.areas)) (nat_le 64 (length s.layout.areas)) r h)
        (omega (arith, low)) (omega arith)

    comes : Comes (marked u) (start family u) (Settled C)
    comes =
        let sp = dictionary_space areas_space in
        let Q : Stand → List Stored → Use → Type 0 = λ y rows v. Comes (answered (filter_map area_of rows) v) y (Settled C) in
        marking_comes C (areas mode.X) (λ rows. answered (filter_map area_of rows)) u (start family u)
        (plans_bind (lock ds areas_path mode.X) (λ _. scan ds sp) u (start family u) Q F
        (lock_comes F ds areas_path mode.X u (start family u) (λ y a v. Plans (scan ds sp) v y Q F) refl
        (λ v g reached. too_many back_ends u st family s sys u.locks reached within.locks (omega arith))
        (λ v g l. scan_comes F ds sp v (granted (start family u)) Q
        (subst (λ some. Comes (answered some v) (at family (u.locks + 1)) (Settled C)) (sym (areas_told back_ends family s sys few))
        (answers v g.bytes l (refusal_by s.layout.areas) refl)))))

create_where : (name node : List ℕ) → IsName name → PlanDoesWhere (λ s. Unit {0}) (statement.CreateArea name node)
create_where name node valid = marked_does_where (λ s. Unit {0}) (statement.CreateArea name node) (marked name node) (λ back_ends u. forgets name node back_ends u)
    (λ back_ends u family s _ few within sys. comes name node back_ends valid u family s few within sys)

pub create_area_rightly : (name node : List ℕ) → IsName name → PlanDoes (statement.CreateArea name node)
create_area_rightly name node valid back_ends u v calls r few within follows inside =
    let d = create_where name node valid back_ends u v calls r few within follows inside in (d.0, λ family s sys ans. d.1 family s tt sys ans)
