-- What the plan of one key reads: its group's entry, and its rows along the route.
use Rattle.std.proofs.Common.{◌≡◌, inl, inr, ℕ, zero, suc, ◌+◌, ◌≤◌, ◌<◌, ℤ, List, [], ◌∷◌, ◌++◌, length, Option, Some, refl, subst, sym, ap, ◌∙◌, arith, append_assoc}
use Rattle.std.specs.Prelude.{◌==◌, find, slice_get, slice_index_or, option_map, option_and_then}
use Rattle.std.proofs.lemmas.Bool.Decides.{Decides-eqb}
use Rattle.std.proofs.lemmas.Option.{slice_get-get_or}
use Rattle.hb_types.specs.declared.change.Stored.{Stored}
use Rattle.hb_types.specs.declared.entry.Entry.{Entry}
use Rattle.hb_types.specs.declared.entry.Entry.TheVariants.{At}
use Rattle.hb_types.specs.declared.lock.Mode.{Mode}
use Rattle.hb_types.specs.declared.places.Path.TheVariants as path
use Rattle.hb_types.specs.Groups.{group_of}
use Rattle.hb_types.specs.Lists.{Each, IsIn}
use Rattle.hb_types.specs.Places.{node_of_area}
use Rattle.hb_types.specs.Put.{lookup}
use Rattle.hb_types.specs.Rows.{row_bytes}
use Rattle.hb_types.proofs.Ascending.{in_Each}
use Rattle.hb_laws.proofs.GroupLaws.{group-below}
use Rattle.hb_dict.specs.DictionaryRows.{AreAreas}
use Rattle.hb_model.specs.declared.reply.Reply.{Reply}
use Rattle.hb_model.specs.declared.reply.Reply.TheVariants as reply
use Rattle.hb_model.specs.Answers.{rows_of}
use Rattle.hb_model.specs.Dictionary.{entry_row}
use Rattle.hb_model.specs.Families.{Family}
use Rattle.hb_model.specs.Needs.{most_locks}
use Rattle.hb_model.specs.Spots.{ds, entry_place, place_in}
use Rattle.hb_model.specs.State.{State, Spread}
use Rattle.hb_model.specs.System.{Sys}
use Rattle.hb_model.specs.TableRows.{standing}
use Rattle.hb_model.specs.Told.{entry_of}
use Rattle.hb_model.specs.Valid.{IsSpread}
use Rattle.hb_model.proofs.DictionaryRows.{not_true}
use Rattle.hb_model.proofs.NumberedRows.{GoUp, entry_by_number}
use Rattle.hb_talk.specs.Plans.{entry_under, walking, stored_at}
use Rattle.hb_talk.specs.Talk.{Use, Planning, ◌>>=◌, pure, lock, read}
use Rattle.hb_plancalc.proofs.Comes.{Stand, Plans, plans_bind}
use Rattle.hb_plancalc.proofs.Steps.{Goes, granted, lock_comes, read_comes}
use Rattle.hb_planlaws.proofs.Scans.{head_is, tail_is, not_below}
use Rattle.hb_planlaws.proofs.Told.{entry_back, entries_sited}
use Rattle.hb_planlaws.proofs.KeyRows.{found}

-- ---- the entry of a key's group

pub numbered : (first : ℕ) (ss : List Spread) (p : Spread) → GoUp first ss → IsIn p ss → find (λ t. p.number == t.number) ss ≡ Some p
numbered first [] p e i = absurd i
numbered first (u ∷ ss) p e (inl is) =
    subst (λ (x : Spread). find (λ t. x.number == t.number) (u ∷ ss) ≡ Some x) is (rw ((Decides-eqb u.number u.number).1 refl) refl)
numbered first (u ∷ ss) p e (inr i) =
    let l = not_below (first + 1) ss p (tail_is u first ss e) i in
    rw (not_true (p.number == u.number) (λ y. omega (arith, l, (Decides-eqb p.number u.number).0 y, head_is u first ss e))) (numbered (first + 1) ss p (tail_is u first ss e) i)

got : (P : Entry → Type 0) (es : List Entry) (k : ℕ) (e : Entry) → Each P es → slice_get es k ≡ Some e → P e
got P [] k e each h = cc
got P (x ∷ es) zero e each h = let same : x ≡ e = cc in subst P same each.0
got P (x ∷ es) (suc k) e each h = got P es k e each.1 h

module _ (back_ends : ℕ) (family : Family) (s : State) (sys : Sys back_ends family s) (few : back_ends ≤ 8) (p : Spread) (there : IsIn p s.layout.spreads) where
  -- each key's group has an entry
  pub entry_there : (key : ℤ) → (e : Entry) × (slice_get p.entries (group_of key) ≡ Some e)
  entry_there key =
      let sp : IsSpread s p = in_Each (IsSpread s) p s.layout.spreads there sys.state.spreads in
      let l : group_of key < length p.entries = omega (arith, group-below key, sp.all_groups) in
      (slice_index_or p.entries (group_of key) (At 0), slice_get-get_or p.entries (group_of key) (At 0) l)

  pub entry_told : (g : ℕ) (e : Entry) → slice_get p.entries g ≡ Some e → entry_of (lookup (entry_place p.number g) (rows_of ds family)) ≡ Some e
  entry_told g e at =
      ap entry_of (sys.dictionary_rows (entry_place p.number g) ∙ entry_by_number back_ends s sys.state p.number g
      ∙ ap (option_and_then (λ (t : Spread). option_map (λ x. row_bytes (entry_row x)) (slice_get t.entries g))) (numbered 1 s.layout.spreads p sys.state.spreads_numbered there)
      ∙ ap (option_map (λ x. row_bytes (entry_row x))) at)
      ∙ entry_back e (got AreAreas p.entries g e (entries_sited back_ends s few sys.state p there) at)

-- ---- steps

append_none : (xs : List Stored) → xs ++ [] ≡ xs
append_none [] = refl
append_none (x ∷ xs) = ap (λ ys. x ∷ ys) (append_none xs)

module _ (F : Stand → Reply → Use → Type 0) where
  pub entry_comes : (m : Mode) (table group : ℕ) (u : Use) (z : Stand) (Q : Stand → Option Entry → Use → Type 0) → u.locks ≡ z.locks
      → ((v : Use) → Goes u v z.locks → most_locks ≤ z.locks → F z reply.TooMuch v)
      → ((v : Use) → Goes u v (z.locks + 1) → z.locks < most_locks → Q (granted z) (entry_of (lookup (entry_place table group) (rows_of ds z.family))) v)
      → Plans (entry_under m table group) u z Q F
  entry_comes m table group u z Q even full q =
      let reading : Planning (Option Entry) = read ds (entry_place table group) >>= (λ row. pure (entry_of row)) in
      plans_bind (lock ds (path.Key (entry_place table group)) m) (λ _. reading) u z Q F
      (lock_comes F ds (path.Key (entry_place table group)) m u z (λ y a v. Plans reading v y Q F) even full
      (λ v g l. plans_bind (read ds (entry_place table group)) (λ row. pure (entry_of row)) v (granted z) Q F
      (read_comes F ds (entry_place table group) v (granted z) (λ y row w. Q y (entry_of row) w) (q v g l))))

  pub walking_comes : (m : Mode) (table : ℕ) (key : ℤ) (areas : List ℕ) (rows : List Stored) (u : Use) (z : Stand) (Q : Stand → List Stored → Use → Type 0)
      → u.locks ≡ z.locks → z.locks ≤ most_locks
      → ((v : Use) (n : ℕ) → Goes u v n → n < z.locks + length areas → n ≡ most_locks → F (record z { locks = n }) reply.TooMuch v)
      → ((v : Use) → Goes u v (z.locks + length areas) → z.locks + length areas ≤ most_locks
      → Q (record z { locks = z.locks + length areas }) (rows ++ found z.family table key areas) v)
      → Plans (walking m table key areas rows) u z Q F
  walking_comes m table key [] rows u z Q even within full q =
      let l : z.locks + 0 ≡ z.locks = omega arith in
      let r : rows ++ [] ≡ rows = append_none rows in
      subst (λ n. Q (record z { locks = n }) rows u) l (subst (λ xs. Q (record z { locks = z.locks + 0 }) xs u) r (q u (record { locks = even ∙ sym l; bytes = refl }) (omega arith)))
  walking_comes m table key (a ∷ more) rows u z Q even within full q =
      let here = place_in a table key in
      let more_rows : Option (List ℕ) → List Stored = λ row. rows ++ stored_at here row in
      let reading : Planning (List Stored) = read (node_of_area a) here >>= (λ row. walking m table key more (more_rows row)) in
      let row : Option (List ℕ) = standing z.family table key a in
      plans_bind (lock (node_of_area a) (path.Key here) m) (λ _. reading) u z Q F
      (lock_comes F (node_of_area a) (path.Key here) m u z (λ y x v. Plans reading v y Q F) even
      (λ v g l. full v z.locks g (omega arith) (omega (arith, l, within)))
      (λ v g l. let e : (z.locks + 1) + length more ≡ z.locks + length (a ∷ more) = omega arith in
      plans_bind (read (node_of_area a) here) (λ r. walking m table key more (more_rows r)) v (granted z) Q F
      (read_comes F (node_of_area a) here v (granted z) (λ y r w. Plans (walking m table key more (more_rows r)) w y Q F)
      (walking_comes m table key more (more_rows row) v (granted z) Q g.locks (omega (arith, l))
      (λ w n h k is. full w n (record { locks = h.locks; bytes = h.bytes ∙ g.bytes }) (omega (arith, k)) is)
      (λ w h k. subst (λ xs. Q (record z { locks = (z.locks + 1) + length more }) xs w) (sym (append_assoc rows (stored_at here row) (found z.family table key more)))
      (subst (λ n. Q (record z { locks = n }) (rows ++ (stored_at here row ++ found z.family table key more)) w) (sym e) (q w (record { locks = h.locks ∙ e; bytes = h.bytes ∙ g.bytes }) (omega (arith, k)))))))))
