-- What the plan of a statement on a table's rows comes to: the table's name, the rows considered, and what follows them.
use Rattle.std.proofs.Common.{◌≡◌, ℕ, ◌+◌, ◌≤◌, ◌<◌, ℤ, List, length, Option, Some, None, Err, Bool, true, false, refl, subst, sym, ◌∙◌, arith}
use Rattle.hb_types.specs.declared.change.Stored.{Stored}
use Rattle.hb_types.specs.declared.lock.Mode.{Mode}
use Rattle.hb_types.specs.Lists.{joined}
use Rattle.hb_model.specs.declared.reply.Reply.{Reply}
use Rattle.hb_model.specs.declared.reply.Reply.TheVariants as reply
use Rattle.hb_model.specs.declared.statement.Statement.{Statement}
use Rattle.hb_model.specs.declared.table.Table.{Table}
use Rattle.hb_model.specs.Does.{effect}
use Rattle.hb_model.specs.Families.{Family}
use Rattle.hb_model.specs.Needs.{locks_of, most_locks, no_rows, on_rows, row_locks}
use Rattle.hb_model.specs.State.{State, Spread, table_named, spread_named}
use Rattle.hb_model.specs.System.{Sys}
use Rattle.hb_model.specs.Told.{Found}
use Rattle.hb_talk.specs.Plans.{considered, lying_rows, table_of}
use Rattle.hb_talk.specs.Talk.{Use, Planning, ◌>>=◌, ◌>>◌, refuse}
use Rattle.hb_plancalc.specs.Counted.{IsWithin}
use Rattle.hb_plancalc.proofs.Comes.{Stand, Comes}
use Rattle.hb_plancalc.proofs.Steps.{Goes}
use Rattle.hb_planlaws.proofs.Ends.{at, ends_full, ends_refused, is_too_much, start}
use Rattle.hb_planlaws.proofs.LockPlan.{locks_found, locks_unfound, no_table_comes, table_comes}
use Rattle.hb_planlaws.proofs.Named.{spread_there}
use Rattle.hb_planlaws.proofs.Told.{no_table_told, table_told}
use Rattle.hb_planwrites.proofs.Closing.{Closed, ended_closed}
use Rattle.hb_planwrites.proofs.Gather.{Gathered, Gathers}
use Rattle.hb_planwrites.proofs.Marks.{Marked, Settled, forget_marking, marking, marking_comes, unmarked}

module _ (m : Mode) (key : Table → Option ℤ) (static : Table → Option Reply) (ending : Table → List Stored → Marked Reply) where
  -- behind the name
  abbrev pub behind : Found → Marked Reply
  behind f = marking (refuse (static f.1)) (λ _. marking (considered m f (key f.1)) (ending f.1))

  abbrev pub tabled : List ℕ → Marked Reply
  tabled name = marking (table_of name) behind

module _ (m : Mode) (key : Table → Option ℤ) (static : Table → Option Reply) (ending : Table → List Stored → Marked Reply) (plain : Table → List Stored → Planning Reply)
    (same : (t : Table) (rows : List Stored) (u : Use) → unmarked (ending t rows u) ≡ plain t rows u) where
  abbrev plain_behind : Found → Planning Reply
  plain_behind f = refuse (static f.1) >> (considered m f (key f.1) >>= plain f.1)

  forgets_behind : (f : Found) (u : Use) → unmarked (behind m key static ending f u) ≡ plain_behind f u
  forgets_behind f u =
      forget_marking (refuse (static f.1)) (λ _. marking (considered m f (key f.1)) (ending f.1)) (λ _. considered m f (key f.1) >>= plain f.1)
      (λ _ v. forget_marking (considered m f (key f.1)) (ending f.1) (plain f.1) (same f.1) v) u

  pub forgets_tabled : (name : List ℕ) (u : Use) → unmarked (tabled m key static ending name u) ≡ (table_of name >>= plain_behind) u
  forgets_tabled name u = forget_marking (table_of name) (behind m key static ending) plain_behind forgets_behind u

-- ---- over a system

module _ (back_ends : ℕ) (u : Use) (st : Statement) (family : Family) (s : State) (sys : Sys back_ends family s) where
  pub too_many : (n : ℕ) → most_locks ≤ n → n ≤ most_locks → n < u.locks + locks_of s st → Closed back_ends u st s true (at family n) reply.TooMuch
  too_many n reached low more = ended_closed back_ends u st family s sys (at family n) reply.TooMuch (ends_full back_ends u st family s n reached low more)

  pub refused_at : (n : ℕ) (r : Reply) → effect back_ends s st ≡ Err r → is_too_much r ≡ false → n ≤ most_locks → n ≤ u.locks + locks_of s st
      → Closed back_ends u st s (is_too_much r) (at family n) r
  refused_at n r e other low less = ended_closed back_ends u st family s sys (at family n) r (ends_refused back_ends u st family s n r e other low less)

module _ (m : Mode) (key : Table → Option ℤ) (static : Table → Option Reply) (ending : Table → List Stored → Marked Reply)
    (name : List ℕ) (st : Statement) (back_ends : ℕ) (u : Use) (family : Family) (s : State) (within : IsWithin u) (sys : Sys back_ends family s)
    (counts : locks_of s st ≡ length (joined (on_rows s name m key)))
    (none : table_named s name ≡ None → effect back_ends s st ≡ Err reply.NoTable)
    (early : (t : Table) → table_named s name ≡ Some t → (r : Reply) → static (no_rows t) ≡ Some r → (effect back_ends s st ≡ Err r) × (is_too_much r ≡ false))
    (same_key : (t : Table) → key (no_rows t) ≡ key t) where
  abbrev C : Bool → Stand → Reply → Type 0
  C = Closed back_ends u st s

  abbrev F : Stand → Reply → Use → Type 0
  F z e v = C (is_too_much e) z e

  abbrev marked : Marked Reply
  marked = tabled m key static ending name

  unfound : table_named s name ≡ None → Comes (marked u) (start family u) (Settled C)
  unfound gone =
      let one : locks_of s st ≡ 1 = counts ∙ locks_unfound s name m key gone in
      marking_comes C (table_of name) (behind m key static ending) u (start family u)
      (no_table_comes F name u (start family u) _ refl (λ v g reached. too_many back_ends u st family s sys u.locks reached within.locks (omega (arith, one)))
      (no_table_told back_ends family s sys name gone)
      (λ v g l. refused_at back_ends u st family s sys (u.locks + 1) reply.NoTable (none gone) refl (omega (arith, l)) (omega (arith, one))))

  -- what follows the rows, once they were read
  abbrev pub Finishes : Table → Spread → Type 0
  Finishes t p =
      (rows : List Stored) → Gathered family p t (key t) (lying_rows rows) → (v : Use) (n : ℕ) → v.bytes ≡ u.bytes → n ≤ most_locks → n ≡ u.locks + locks_of s st
      → Comes (ending (no_rows t) rows v) (at family n) (Settled C)

  module _ (t : Table) (p : Spread) (is : table_named s name ≡ Some t) (there : spread_named s name ≡ Some p) (gathers : Gathers family t p (key t)) (finishes : Finishes t p) where
    total : locks_of s st ≡ 1 + length (row_locks m p (key t))
    total = counts ∙ locks_found s name m key t p is there

    refuses : (v : Use) → Goes u v (u.locks + 1) → u.locks < most_locks → (o : Option Reply) → static (no_rows t) ≡ o
        → Comes (marking (refuse o) (λ _. marking (considered m (p.number, no_rows t) (key (no_rows t))) (ending (no_rows t))) v) (at family (u.locks + 1)) (Settled C)
    refuses v g low (Some r) h =
        λ x. let e = early t is r h in
        refused_at back_ends u st family s sys (u.locks + 1) r e.0 e.1 (omega (arith, low)) (omega (arith, total))
    refuses v g low None h =
        subst (λ o. Comes (marking (considered m (p.number, no_rows t) o) (ending (no_rows t)) v) (at family (u.locks + 1)) (Settled C)) (sym (same_key t))
        (marking_comes C (considered m (p.number, no_rows t) (key t)) (ending (no_rows t)) v (at family (u.locks + 1))
        (gathers m F v (u.locks + 1) (λ y rows x. Comes (ending (no_rows t) rows x) y (Settled C)) g.locks (omega (arith, low))
        (λ w k reached few less. too_many back_ends u st family s sys k reached few (omega (arith, less, total)))
        (λ w rows gathered h2 l. finishes rows gathered w ((u.locks + 1) + length (row_locks m p (key t))) (h2.bytes ∙ g.bytes) l (omega (arith, total)))))

    found : Comes (marked u) (start family u) (Settled C)
    found =
        marking_comes C (table_of name) (behind m key static ending) u (start family u)
        (table_comes F name u (start family u) _ refl
        (λ v g reached. too_many back_ends u st family s sys u.locks reached within.locks (omega (arith, total)))
        (p.number, no_rows t) (table_told back_ends family s sys name t p is there)
        (λ v g l. refuses v g l (static (no_rows t)) refl))

  pub tabled_comes : ((t : Table) (p : Spread) → table_named s name ≡ Some t → spread_named s name ≡ Some p → Gathers family t p (key t))
      → ((t : Table) (p : Spread) → table_named s name ≡ Some t → spread_named s name ≡ Some p → Finishes t p) → Comes (marked u) (start family u) (Settled C)
  tabled_comes gathers finishes = by (table_named s name) refl
    where
      by : (o : Option Table) → table_named s name ≡ o → Comes (marked u) (start family u) (Settled C)
      by None gone = unfound gone
      by (Some t) is =
          let p = spread_there back_ends s sys.state name t is in
          found t p.0 is p.1 (gathers t p.0 is p.1) (finishes t p.0 is p.1)
