-- The plan that reads the rows that a statement considers, of one key or all.
use Rattle.std.proofs.Common.{◌≡◌, ℕ, ◌+◌, ◌≤◌, ◌<◌, ℤ, List, [], ◌∷◌, ◌++◌, length, map, Option, Some, None, refl, subst, sym, ap, ◌∙◌, arith, append_assoc}
use Rattle.std.specs.Prelude.{flat_map}
use Rattle.hb_types.specs.declared.change.Stored.{Stored}
use Rattle.hb_types.specs.declared.entry.Entry.{Entry}
use Rattle.hb_types.specs.declared.lock.Mode.{Mode}
use Rattle.hb_types.specs.declared.lock.Mode.TheVariants as mode
use Rattle.hb_types.specs.declared.places.Path.TheVariants as path
use Rattle.hb_types.specs.Groups.{route}
use Rattle.hb_types.specs.Lists.{Each, IsIn}
use Rattle.hb_types.specs.Places.{node_of_area}
use Rattle.hb_types.specs.Put.{rows_under}
use Rattle.hb_types.proofs.Ascending.{Each-append}
use Rattle.hb_model.specs.declared.reply.Reply.{Reply}
use Rattle.hb_model.specs.declared.reply.Reply.TheVariants as reply
use Rattle.hb_model.specs.declared.table.Table.{Table}
use Rattle.hb_model.specs.Answers.{rows_of}
use Rattle.hb_model.specs.Families.{Family}
use Rattle.hb_model.specs.Needs.{Need, in_area, most_locks, row_locks}
use Rattle.hb_model.specs.Needs as needs
use Rattle.hb_model.specs.Spots.{ds, dictionary_space, entries_space, space_in}
use Rattle.hb_model.specs.State.{State, Spread}
use Rattle.hb_model.specs.System.{Sys}
use Rattle.hb_model.specs.TableRows.{TableRows}
use Rattle.hb_model.specs.Valid.{IsTable}
use Rattle.hb_talk.specs.Plans.{areas_of_routes, lying_rows, scanning}
use Rattle.hb_talk.specs.Talk.{Use, Planning, ◌>>=◌, lock, scan, scan_group}
use Rattle.hb_planlaws.specs.Planned.{most_back_ends}
use Rattle.hb_plancalc.proofs.Comes.{Stand, Plans, plans_bind}
use Rattle.hb_plancalc.proofs.Steps.{Goes, granted, lock_comes, scan_comes, scan_group_comes}
use Rattle.hb_planlaws.proofs.Ends.{at}
use Rattle.hb_planlaws.proofs.LockPlan.{length-mapped}
use Rattle.hb_planlaws.proofs.Scans.{entries_of}
use Rattle.hb_planlaws.proofs.Told.{routes_told}
use Rattle.hb_planlaws.proofs.Walks.{entry_there}
use Rattle.hb_planwrites.proofs.AllRows.{gathered_all, scanned}
use Rattle.hb_planwrites.proofs.Gather.{Gathered, Gathers, key_gathers}
use Rattle.hb_planwrites.proofs.KeyWrites.{IsBackEnd, all_on_back_ends, entry_apart, route_on_back_ends}
use Rattle.hb_planwrites.proofs.Sorting.{each_number}

append_none : {A : Type 0} (xs : List A) → xs ++ [] ≡ xs
append_none [] = refl
append_none (x ∷ xs) = ap (λ ys. x ∷ ys) (append_none xs)

module _ (F : Stand → Reply → Use → Type 0) where
  -- scans in so many areas, each under its lock
  pub scanning_comes : (m : Mode) (table : ℕ) (areas : List ℕ) (rows : List Stored) (u : Use) (z : Stand) (Q : Stand → List Stored → Use → Type 0)
      → u.locks ≡ z.locks → z.locks ≤ most_locks
      → ((v : Use) (n : ℕ) → Goes u v n → n < z.locks + length areas → n ≡ most_locks → F (record z { locks = n }) reply.TooMuch v)
      → ((v : Use) → Goes u v (z.locks + length areas) → z.locks + length areas ≤ most_locks
      → Q (record z { locks = z.locks + length areas }) (rows ++ scanned z.family table areas) v)
      → Plans (scanning m table areas rows) u z Q F
  scanning_comes m table [] rows u z Q even within full q =
      let l : z.locks + 0 ≡ z.locks = omega arith in
      let r : rows ++ [] ≡ rows = append_none rows in
      subst (λ n. Q (record z { locks = n }) rows u) l (subst (λ xs. Q (record z { locks = z.locks + 0 }) xs u) r (q u (record { locks = even ∙ sym l; bytes = refl }) (omega arith)))
  scanning_comes m table (a ∷ more) rows u z Q even within full q =
      let here = space_in a table in
      let node : ℕ = node_of_area a in
      let reading : Planning (List Stored) = scan node here >>= (λ found. scanning m table more (rows ++ found)) in
      let found : List Stored = rows_under (path.Whole here) (rows_of node z.family) in
      plans_bind (lock node (path.Whole here) m) (λ _. reading) u z Q F
      (lock_comes F node (path.Whole here) m u z (λ y x v. Plans reading v y Q F) even
      (λ v g l. full v z.locks g (omega arith) (omega (arith, l, within)))
      (λ v g l. let e : (z.locks + 1) + length more ≡ z.locks + length (a ∷ more) = omega arith in
      plans_bind (scan node here) (λ r. scanning m table more (rows ++ r)) v (granted z) Q F
      (scan_comes F node here v (granted z) (λ y r w. Plans (scanning m table more (rows ++ r)) w y Q F)
      (scanning_comes m table more (rows ++ found) v (granted z) Q g.locks (omega (arith, l))
      (λ w n h k is. full w n (record { locks = h.locks; bytes = h.bytes ∙ g.bytes }) (omega (arith, k)) is)
      (λ w h k. subst (λ xs. Q (record z { locks = (z.locks + 1) + length more }) xs w) (sym (append_assoc rows found (scanned z.family table more)))
      (subst (λ n. Q (record z { locks = n }) (rows ++ (found ++ scanned z.family table more)) w) (sym e) (q w (record { locks = h.locks ∙ e; bytes = h.bytes ∙ g.bytes }) (omega (arith, k)))))))))

each_routed : (P : ℕ → Type 0) (es : List Entry) → Each (λ e. Each P (route e)) es → Each P (flat_map route es)
each_routed P [] h = tt
each_routed P (e ∷ es) h = Each-append P (route e) (flat_map route es) h.0 (each_routed P es h.1)

module _ (back_ends : ℕ) (family : Family) (s : State) (sys : Sys back_ends family s) (few : back_ends ≤ most_back_ends) (t : Table) (p : Spread)
    (fits : IsTable t) (rows : TableRows family t p) (there : IsIn p s.layout.spreads) where
  gathered : Gathered family p t None (lying_rows (scanned family p.number (needs.areas_of_routes p)))
  gathered =
      gathered_all family t p fits rows sys.ascending (entry_apart back_ends family s sys p there) (route_on_back_ends back_ends family s sys p there)
      (entry_there back_ends family s sys few p there)
      (each_number (IsBackEnd family) (flat_map route p.entries) (each_routed (IsBackEnd family) p.entries (all_on_back_ends back_ends family s sys p there)))

  all_gathers : Gathers family t p None
  all_gathers m F v n Q even low full q =
      let sp = dictionary_space entries_space in
      let areas : List ℕ = needs.areas_of_routes p in
      let f : ℕ → Need = λ a. in_area a (path.Whole (space_in a p.number)) m in
      let mapped : length (map f areas) ≡ length areas = length-mapped f areas in
      let total : n + length (row_locks m p None) ≡ (n + 1) + length areas = omega (arith, mapped) in
      let z : Stand = at family (n + 1) in
      let rest : List Stored → Planning (List Stored) = λ entries. scanning m p.number (areas_of_routes entries) [] in
      plans_bind (lock ds (entries_of p.number) mode.S) (λ _. scan_group ds sp p.number >>= rest) v (at family n) Q F
      (lock_comes F ds (entries_of p.number) mode.S v (at family n) (λ y a w. Plans (scan_group ds sp p.number >>= rest) w y Q F) even
      (λ x i reached. full x n reached low (omega (arith, total)))
      (λ x i l. plans_bind (scan_group ds sp p.number) rest x z Q F
      (scan_group_comes F ds sp p.number x z (λ y entries w. Plans (rest entries) w y Q F)
      (subst (λ as_told. Plans (scanning m p.number as_told []) x z Q F) (sym (routes_told back_ends family s sys few p there))
      (scanning_comes F m p.number areas [] x z Q i.locks (omega (arith, l))
      (λ w k j less is. full w k (omega (arith, is)) (omega (arith, is)) (omega (arith, less, total)))
      (λ w j within. subst (λ k. Q (at family k) (scanned family p.number areas) w) total
      (q w (scanned family p.number areas) gathered (record { locks = j.locks ∙ sym total; bytes = j.bytes ∙ i.bytes }) (omega (arith, total, within)))))))))

  pub rows_gather : (o : Option ℤ) → Gathers family t p o
  rows_gather (Some key) = key_gathers back_ends family s sys few t p fits rows there key
  rows_gather None = all_gathers
