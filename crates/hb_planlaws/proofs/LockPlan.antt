-- What the plan of LOCK TABLE comes to.
use Rattle.std.proofs.Common.{◌≡◌, ℕ, suc, ◌+◌, ◌≤◌, ◌<◌, List, [], ◌∷◌, length, map, Option, Some, None, Result, Ok, Err, Bool, refl, subst, sym, ap, ◌∙◌, arith, length-append}
use Rattle.std.specs.Prelude.{if◌then◌else◌, ℤ, option_map, unwrap_or}
use Rattle.std.specs.Str.{bytes_eq}
use Rattle.hb_types.specs.declared.change.Stored.{Stored}
use Rattle.hb_types.specs.declared.lock.Mode.{Mode}
use Rattle.hb_types.specs.declared.lock.Mode.TheVariants as mode
use Rattle.hb_types.specs.declared.places.Path.TheVariants as path
use Rattle.hb_types.specs.Lists.{joined}
use Rattle.hb_types.specs.Put.{rows_under}
use Rattle.hb_model.specs.declared.reply.Reply.{Reply}
use Rattle.hb_model.specs.declared.reply.Reply.TheVariants as reply
use Rattle.hb_model.specs.declared.statement.Statement.{Statement}
use Rattle.hb_model.specs.declared.statement.Statement.TheVariants as statement
use Rattle.hb_model.specs.declared.table.Table.{Table}
use Rattle.hb_model.specs.Answers.{rows_of}
use Rattle.hb_model.specs.Does.{effect, reads}
use Rattle.hb_model.specs.Families.{Family}
use Rattle.hb_model.specs.Needs.{Need, locks_of, most_locks, no_rows, in_area, row_locks, on_space, on_rows}
use Rattle.hb_model.specs.Needs as needs
use Rattle.hb_model.specs.Refusals.{Effect}
use Rattle.hb_model.specs.Spots.{ds, space_in, dictionary_space, tables_space, entries_space}
use Rattle.hb_model.specs.State.{State, Spread, table_named, spread_named}
use Rattle.hb_model.specs.System.{Sys}
use Rattle.hb_model.specs.Told.{Found, table_among}
use Rattle.hb_talk.specs.Plans.{names, table_of, some_or, locking, areas_of_routes, lock_plan}
use Rattle.hb_talk.specs.PlansDefine.{plan}
use Rattle.hb_talk.specs.Talk.{Use, Planning, ◌>>=◌, ◌>>◌, pure, lock, scan, scan_group}
use Rattle.hb_plancalc.specs.Counted.{IsWithin}
use Rattle.hb_planlaws.specs.Planned.{PlanDoes, most_back_ends}
use Rattle.hb_plancalc.proofs.Comes.{Stand, Plans, plans_bind}
use Rattle.hb_plancalc.proofs.Steps.{Goes, granted, lock_comes, scan_comes, scan_group_comes, locking_comes}
use Rattle.hb_planlaws.proofs.Scans.{tables, entries_of}
use Rattle.hb_planlaws.proofs.Named.{find_holds, spread_there}
use Rattle.hb_planlaws.proofs.Told.{table_told, no_table_told, routes_told}
use Rattle.hb_planlaws.proofs.Ends.{Ended, start, at, ends_full, ends_refused, ends_done, ends_does}

-- ---- the table of a name

module _ (F : Stand → Reply → Use → Type 0) (name : List ℕ) (u : Use) (z : Stand) (Q : Stand → Found → Use → Type 0) (even : u.locks ≡ z.locks)
    (full : (v : Use) → Goes u v z.locks → most_locks ≤ z.locks → F z reply.TooMuch v) where
  names_come : (o : Option Found) → table_among (rows_under tables (rows_of ds z.family)) name ≡ o
      → ((v : Use) → Goes u v (z.locks + 1) → z.locks < most_locks → Plans (some_or reply.NoTable o) v (granted z) Q F) → Plans (table_of name) u z Q F
  names_come o e q =
      let P : Stand → List Stored → Use → Type 0 = λ y rows v. Plans (some_or reply.NoTable (table_among rows name)) v y Q F in
      plans_bind names (λ rows. some_or reply.NoTable (table_among rows name)) u z Q F
      (plans_bind (lock ds tables mode.S) (λ _. scan ds (dictionary_space tables_space)) u z P F
      (lock_comes F ds tables mode.S u z (λ y a v. Plans (scan ds (dictionary_space tables_space)) v y P F) even full
      (λ v g l. scan_comes F ds (dictionary_space tables_space) v (granted z) P (subst (λ x. Plans (some_or reply.NoTable x) v (granted z) Q F) (sym e) (q v g l)))))

  pub table_comes : (f : Found) → table_among (rows_under tables (rows_of ds z.family)) name ≡ Some f
      → ((v : Use) → Goes u v (z.locks + 1) → z.locks < most_locks → Q (granted z) f v) → Plans (table_of name) u z Q F
  table_comes f e q = names_come (Some f) e q

  pub no_table_comes : table_among (rows_under tables (rows_of ds z.family)) name ≡ None
      → ((v : Use) → Goes u v (z.locks + 1) → z.locks < most_locks → F (granted z) reply.NoTable v) → Plans (table_of name) u z Q F
  no_table_comes e q = names_come None e (λ v g l n. q v g l)

-- ---- how many locks

abbrev part : Mode → (Table → Option ℤ) → Option Table → Option Spread → List Need
part m key o q = unwrap_or (option_map (λ t. unwrap_or (option_map (λ spread. row_locks m spread (key t)) q) []) o) []

abbrev counted : List Need → ℕ
counted rows = length (joined ((on_space tables_space mode.S ∷ []) ∷ rows ∷ []))

count_is : (rows : List Need) → counted rows ≡ 1 + length rows
count_is rows = omega (arith, length-append rows [])

pub locks_found : (s : State) (name : List ℕ) (m : Mode) (key : Table → Option ℤ) (t : Table) (p : Spread) → table_named s name ≡ Some t → spread_named s name ≡ Some p
    → length (joined (on_rows s name m key)) ≡ 1 + length (row_locks m p (key t))
locks_found s name m key t p is at =
    ap (λ o. counted (part m key o (spread_named s name))) is ∙ ap (λ q. counted (part m key (Some t) q)) at ∙ count_is (row_locks m p (key t))

pub locks_unfound : (s : State) (name : List ℕ) (m : Mode) (key : Table → Option ℤ) → table_named s name ≡ None → length (joined (on_rows s name m key)) ≡ 1
locks_unfound s name m key none = ap (λ o. counted (part m key o (spread_named s name))) none

pub length-mapped : {A B : Type 0} (f : A → B) (xs : List A) → length (map f xs) ≡ length xs
length-mapped f [] = refl
length-mapped f (x ∷ xs) = ap (λ n. suc n) (length-mapped f xs)

-- ---- LOCK TABLE

abbrev mode_of : Bool → Mode
mode_of exclusive = if exclusive then mode.X else mode.S

abbrev locked_in : State → Table → Result Effect Reply
locked_in s t = Ok (reads s reply.Locked)

module _ (name : List ℕ) (exclusive : Bool) where
  abbrev st : Statement
  st = statement.LockTable name exclusive

  locks_all : (s : State) (t : Table) (p : Spread) → table_named s name ≡ Some t → spread_named s name ≡ Some p → locks_of s st ≡ 2 + length (needs.areas_of_routes p)
  locks_all s t p is at =
      let e = locks_found s name (mode_of exclusive) (λ x. None) t p is at in
      let f : ℕ → Need = λ a. in_area a (path.Whole (space_in a p.number)) (mode_of exclusive) in
      let l : length (map f (needs.areas_of_routes p)) ≡ length (needs.areas_of_routes p) = length-mapped f (needs.areas_of_routes p) in
      omega (arith, e, l)

  effect_some : (back_ends : ℕ) (s : State) (t : Table) → table_named s name ≡ Some t → effect back_ends s st ≡ Ok (reads s reply.Locked)
  unfolding effect
  effect_some back_ends s t is = ap (λ o. unwrap_or (option_map (locked_in s) o) (Err reply.NoTable)) is

  effect_none : (back_ends : ℕ) (s : State) → table_named s name ≡ None → effect back_ends s st ≡ Err reply.NoTable
  unfolding effect
  effect_none back_ends s none = ap (λ o. unwrap_or (option_map (locked_in s) o) (Err reply.NoTable)) none

  module _ (back_ends : ℕ) (u : Use) (family : Family) (s : State) (few : back_ends ≤ most_back_ends) (within : IsWithin u) (sys : Sys back_ends family s) where
    abbrev E : Stand → Reply → Type 0
    E z r = Ended back_ends u st family s z r

    too_many : (n : ℕ) → most_locks ≤ n → n ≤ most_locks → n < u.locks + locks_of s st → E (at family n) reply.TooMuch
    too_many n reached low more = ends_full back_ends u st family s n reached low more

    unfound : table_named s name ≡ None → Plans (lock_plan name exclusive) u (start family u) (λ z r v. E z r) (λ z e v. E z e)
    unfound none =
        let one : locks_of s st ≡ 1 = locks_unfound s name (mode_of exclusive) (λ x. None) none in
        plans_bind (table_of name) _ u (start family u) (λ z r v. E z r) (λ z e v. E z e)
        (no_table_comes (λ z e v. E z e) name u (start family u) _ refl
        (λ v g reached. too_many u.locks reached within.locks (omega (arith, one)))
        (no_table_told back_ends family s sys name none)
        (λ v g l. ends_refused back_ends u st family s (u.locks + 1) reply.NoTable (effect_none back_ends s none) refl (omega (arith, l)) (omega (arith, one))))

    -- behind the name of the table
    behind : (t : Table) (p : Spread) → table_named s name ≡ Some t → spread_named s name ≡ Some p → (v : Use) → Goes u v (u.locks + 1) → u.locks < most_locks
        → Plans (lock ds (entries_of p.number) mode.S >> (scan_group ds (dictionary_space entries_space) p.number >>= (λ entries. locking (mode_of exclusive) p.number (areas_of_routes entries) >> pure reply.Locked)))
        v (at family (u.locks + 1)) (λ z r v. E z r) (λ z e v. E z e)
    behind t p is there v g low =
        let m : Mode = mode_of exclusive in
        let F : Stand → Reply → Use → Type 0 = λ z e v. E z e in
        let Q : Stand → Reply → Use → Type 0 = λ z r v. E z r in
        let sp = dictionary_space entries_space in
        let rest : List Stored → Planning Reply = λ entries. locking m p.number (areas_of_routes entries) >> pure reply.Locked in
        let total : locks_of s st ≡ 2 + length (needs.areas_of_routes p) = locks_all s t p is there in
        let areas : List ℕ = areas_of_routes (rows_under (entries_of p.number) (rows_of ds family)) in
        let same : length areas ≡ length (needs.areas_of_routes p) =
        ap length (routes_told back_ends family s sys few p (find_holds (λ (q : Spread). bytes_eq q.name name) s.layout.spreads p there).1) in
        let z : Stand = at family ((u.locks + 1) + 1) in
        plans_bind (lock ds (entries_of p.number) mode.S) (λ _. scan_group ds sp p.number >>= rest) v (at family (u.locks + 1)) Q F
        (lock_comes F ds (entries_of p.number) mode.S v (at family (u.locks + 1)) (λ y a w. Plans (scan_group ds sp p.number >>= rest) w y Q F) g.locks
        (λ w h reached. too_many (u.locks + 1) reached (omega (arith, low)) (omega (arith, total)))
        (λ w h k. plans_bind (scan_group ds sp p.number) rest w z Q F
        (scan_group_comes F ds sp p.number w z (λ y rows x. Plans (rest rows) x y Q F)
        (plans_bind (locking m p.number areas) (λ _. pure reply.Locked) w z Q F
        (locking_comes F m p.number areas w z (λ y a x. E y reply.Locked) h.locks (omega (arith, k))
        (λ x n i j l. too_many n (omega (arith, l)) (omega (arith, l)) (omega (arith, j, total, same)))
        (λ x i l. ends_done back_ends u st family s (z.locks + length areas) reply.Locked (effect_some back_ends s t is) refl within.bytes l (omega (arith, total, same))))))))

    comes : (o : Option Table) → table_named s name ≡ o → Plans (lock_plan name exclusive) u (start family u) (λ z r v. E z r) (λ z e v. E z e)
    comes None none = unfound none
    comes (Some t) is =
        let p = spread_there back_ends s sys.state name t is in
        plans_bind (table_of name) _ u (start family u) (λ z r v. E z r) (λ z e v. E z e)
        (table_comes (λ z e v. E z e) name u (start family u) _ refl
        (λ v g reached. too_many u.locks reached within.locks (let total = locks_all s t p.0 is p.1 in omega (arith, total)))
        (p.0.number, no_rows t) (table_told back_ends family s sys name t p.0 is p.1) (λ v g l. behind t p.0 is p.1 v g l))

lock_comes_so : (name : List ℕ) (exclusive : Bool) (back_ends : ℕ) (u : Use) (family : Family) (s : State) → back_ends ≤ most_back_ends → IsWithin u → Sys back_ends family s
    → Plans (plan back_ends (statement.LockTable name exclusive)) u (start family u) (λ z r v. Ended back_ends u (statement.LockTable name exclusive) family s z r)
    (λ z e v. Ended back_ends u (statement.LockTable name exclusive) family s z e)
unfolding plan
lock_comes_so name exclusive back_ends u family s few within sys = comes name exclusive back_ends u family s few within sys (table_named s name) refl

pub lock_table_rightly : (name : List ℕ) (exclusive : Bool) → PlanDoes (statement.LockTable name exclusive)
lock_table_rightly name exclusive = ends_does (statement.LockTable name exclusive) (lock_comes_so name exclusive)
