-- The body of a Prepare, and the reader of every body.
use Rattle.std.proofs.Common.{◌≡◌, inl, ℕ, zero, suc, ◌+◌, ◌*◌, ◌/◌, ◌≤◌, ◌<◌, cond, List, [], ◌∷◌, ◌++◌, length, drop, map, Result, Ok, refl, sym, ◌∙◌, ap, subst, arith, append_assoc, length-append}
use Rattle.std.specs.Prelude.{◌==◌, All, Option, Some, None}
use Rattle.std.specs.List.{AllByRecursion}
use Rattle.std.proofs.lemmas.List.{append-nil}
use Rattle.std.proofs.lemmas.List.Elements.{All-from_recursion, recursion_from_All}
use Rattle.hb_types.specs.declared.change.Change.{Change}
use Rattle.hb_types.specs.declared.change.LogItem.{LogItem}
use Rattle.hb_types.specs.declared.change.LogItem.TheVariants.{Prepare, Commit, Abort, Decision, Ids}
use Rattle.hb_types.specs.declared.lock.Held.{Held}
use Rattle.hb_types.specs.declared.names.NodeName.{NodeName}
use Rattle.hb_types.specs.declared.names.Number.{Number}
use Rattle.hb_types.specs.declared.names.Tx.{Tx}
use Rattle.hb_types.specs.Lists.{joined}
use Rattle.hb_types.specs.Numbers.{four, eight}
use Rattle.hb_types.specs.Places.{path_cmp, place_cmp}
use Rattle.hb_types.specs.Records.{lock_bytes, change_bytes, body_bytes, IsChange, HasRecord}
use Rattle.hb_codec.specs.Spellings.{IsBodyOf}
use Rattle.hb_codec.specs.declared.changes.Slot.{Slot}
use Rattle.hb_codec.specs.Readers.{◌>>=◌, number_in, many_in}
use Rattle.hb_codec.specs.PlaceReaders.{place_rank, places}
use Rattle.hb_codec.specs.LockReaders.{path_rank, lock_in, lock_after}
use Rattle.hb_codec.specs.ChangeReaders.{change_in, slot_after}
use Rattle.hb_codec.specs.RecordReaders.{greatest, room_behind, prepare_in, commit_in, abort_in, decision_in, ids_in, tagged_in, body_in}
use Rattle.hb_codec.proofs.Calculus.{Reads, Bind, Pure, reads_bind, reads_pure, reads_same, reads_choice, choose}
use Rattle.hb_codec.proofs.Digits.{IsNumber, reads_number}
use Rattle.hb_codec.proofs.Widths.{digits_one, digits_four}
use Rattle.hb_codec.proofs.Lists.{Many, parts, cons, reads_many}
use Rattle.hb_codec.proofs.Ranks.{Goes, goes_place, place_below}
use Rattle.hb_codec.proofs.Ordered.{Above, AreItems, above_none, ascends_of, above_room}
use Rattle.hb_codec.proofs.LockGrammar.{LockFits, goes_lock, lock_long, reads_locks}
use Rattle.hb_codec.proofs.ChangeGrammar.{IsChangeAt, SlotFits, reads_change, change_is, fits_from, row_part}
use Rattle.hb_codec.proofs.RecordGrammar.{IsEight, reads_eight, eight_is, to_eight, last_is, Behind, tag_of, tagged, tag_is, reads_commit, reads_abort, reads_decision, reads_ids, few_nodes}

-- ---- so many changes

abbrev change_rank : Change → ℕ
change_rank c = place_rank c.place

abbrev lock_rank : Held → ℕ
lock_rank l = path_rank l.path

change_long : (c : Change) → 15 ≤ length (change_bytes c)
change_long c = omega (arith, ap length (change_is c.place c.row), go c.row)
  where
    go : (o : Option (List ℕ)) → 1 ≤ length (row_part o)
    go None = omega arith
    go (Some row) = omega arith

changes_long : (cs : List Change) → 15 * length cs ≤ length (joined (map change_bytes cs))
changes_long [] = omega arith
changes_long (c ∷ cs) = let one = change_long c in let more = changes_long cs in omega (arith, one, more, length-append (change_bytes c) (joined (map change_bytes cs)))

locks_long : (ls : List Held) → length (joined (map lock_bytes ls)) ≡ 16 * length ls
locks_long [] = refl
locks_long (l ∷ ls) = let one = lock_long l in let more = locks_long ls in omega (arith, one, more, length-append (lock_bytes l) (joined (map lock_bytes ls)))

change_below : (c : Change) → IsChange c → change_rank c < places
change_below c fits = place_below c.place (fits_from c.place c.row fits).0

goes_change : (c d : Change) → IsChange c → IsChange d → Goes (place_cmp c.place d.place) (change_rank c) (change_rank d)
goes_change c d a b = goes_place c.place d.place (fits_from c.place c.row a).0 (fits_from d.place d.row b).0

pub record AreChanges (n : ℕ) (slot : Slot) (cs : List Change) (bytes : List ℕ) : Type 0 where
  pub count : length cs ≡ n
  pub fit : AllByRecursion IsChange cs
  pub up : Above change_rank slot.least cs
  pub is : bytes ≡ joined (map change_bytes cs)
  pub room : length bytes ≤ slot.room

nil : {X : Type 0} (l : List X) → length l ≡ 0 → l ≡ []
nil [] z = refl
nil (x ∷ l) z = absurd (omega (arith, z))

changes_to : (n : ℕ) (slot : Slot) (cs : List Change) (bytes : List ℕ) → Many IsChangeAt slot_after n slot cs bytes → AreChanges n slot cs bytes
changes_to zero slot cs bytes is = record {
  count = ap length is.is;
  fit = subst (AllByRecursion IsChange) (sym is.is) tt;
  up = subst (Above change_rank slot.least) (sym is.is) tt;
  is = is.empty ∙ sym (ap (λ (l : List Change). joined (map change_bytes l)) is.is);
  room = omega (arith, ap length is.empty);
}
changes_to (suc n) slot cs bytes is =
    let p = parts IsChangeAt slot_after n slot cs bytes is in
    let more = changes_to n (slot_after n slot p.first) p.others p.back p.more in
    let long : length p.front ≡ length (change_bytes p.first) = ap length p.one.is in
    let one_room = p.one.room in
    let more_room = more.room in
    record {
      count = ap length p.is ∙ omega (arith, more.count);
      fit = subst (AllByRecursion IsChange) (sym p.is) (p.one.fits, more.fit);
      up = subst (Above change_rank slot.least) (sym p.is) (p.one.above, more.up);
      is = p.split ∙ (λ i. p.one.is i ++ more.is i) ∙ sym (ap (λ (l : List Change). joined (map change_bytes l)) p.is);
      room = omega (arith, ap length p.split, length-append p.front p.back, long, one_room, more_room);
    }

changes_from : (n : ℕ) (slot : Slot) (cs : List Change) (bytes : List ℕ) → AreChanges n slot cs bytes → Many IsChangeAt slot_after n slot cs bytes
changes_from zero slot cs bytes are = let none = nil cs are.count in record { is = none; empty = are.is ∙ ap (λ (l : List Change). joined (map change_bytes l)) none }
changes_from (suc n) slot [] bytes are = absurd (omega (arith, are.count))
changes_from (suc n) slot (c ∷ cs) bytes are =
    let count : length cs ≡ n = omega (arith, are.count) in
    let b = change_below c are.fit.0 in
    let above = above_room change_rank IsChange change_bytes places change_below (change_rank c + 1) cs are.fit.1 are.up.1 (omega (arith, b)) in
    let back = joined (map change_bytes cs) in
    let sum : length bytes ≡ length (change_bytes c) + length back = ap length are.is ∙ length-append (change_bytes c) back in
    let long = changes_long cs in
    let room = are.room in
    subst (Many IsChangeAt slot_after (suc n) slot (c ∷ cs)) (sym are.is)
    (cons IsChangeAt slot_after n slot c cs (change_bytes c) back
    (record { fits = are.fit.0; is = refl; above = are.up.0; below = omega (arith, above, count); room = omega (arith, sum, long, count, room) })
    (changes_from n (slot_after n slot c) cs back (record { count = count; fit = are.fit.1; up = are.up.1; is = refl; room = omega (arith, sum, room) })))

keeps_slot : (n : ℕ) (slot : Slot) (c : Change) (b : List ℕ) → SlotFits (suc n) slot → IsChangeAt n slot c b → SlotFits n (slot_after n slot c)
keeps_slot n slot c b v is =
    let below = is.below in
    let room = is.room in
    let long : length b ≡ length (change_bytes c) = ap length is.is in
    record { some = omega arith; enough = omega (arith, long) }

reads_changes : (n : ℕ) (slot : Slot) → SlotFits n slot → Reads (AreChanges n slot) (many_in change_in slot_after n slot)
reads_changes n slot v =
    reads_same (Many IsChangeAt slot_after n slot) (AreChanges n slot) (many_in change_in slot_after n slot) (changes_to n slot) (changes_from n slot)
    (reads_many IsChangeAt change_in slot_after SlotFits reads_change keeps_slot n slot v)

-- ---- Prepare

abbrev Locks : ℕ → List Held → List ℕ → Type 0
Locks count = AreItems lock_rank LockFits lock_bytes count 0

abbrev start : ℕ → Slot
start count = record { least = 0; room = room_behind count }

abbrev made : ℕ → ℕ → List Held → List Change → LogItem
made tx floor locks changes = Prepare (record { 0 = tx }) (record { 0 = floor }) locks changes

Ends : ℕ → ℕ → ℕ → List Held → LogItem → List ℕ → Type 0
Ends tx floor count locks = Bind (IsNumber 0 4 0 (room_behind count / 15)) (λ more. Bind (AreChanges more (start count)) (λ changes. Pure (made tx floor locks changes)))

Prepares : LogItem → List ℕ → Type 0
Prepares = Bind (IsEight 1) (λ tx. Bind (IsEight 0) (λ floor. Bind (IsNumber 0 4 0 524286) (λ count. Bind (Locks count) (λ locks. Ends tx floor count locks))))

prepare_is : (tx : Tx) (floor : Number) (locks : List Held) (changes : List Change)
    → body_bytes (Prepare tx floor locks changes) ≡ 1 ∷ (eight tx.0 ++ (eight floor.0 ++ (four (length locks) ++ (joined (map lock_bytes locks) ++ (four (length changes) ++ joined (map change_bytes changes))))))
prepare_is tx floor locks changes =
    ap (λ (l : List ℕ). 1 ∷ (eight tx.0 ++ (eight floor.0 ++ (four (length locks) ++ l)))) (append_assoc (joined (map lock_bytes locks)) (four (length changes)) (joined (map change_bytes changes)))

pub prepare_long : (tx : Tx) (floor : Number) (locks : List Held) (changes : List Change) → length (body_bytes (Prepare tx floor locks changes)) ≡ 25 + 16 * length locks + length (joined (map change_bytes changes))
prepare_long tx floor locks changes =
    let l = locks_long locks in
    let c = joined (map change_bytes changes) in
    omega (arith, ap length (prepare_is tx floor locks changes), l, length-append (joined (map lock_bytes locks)) (four (length changes) ++ c))

prepares_to : (item : LogItem) (back : List ℕ) → Prepares item back → Behind 1 item back
unfolding Prepares Ends
prepares_to item back is =
    let tx = is.value in
    let s = is.is_second in
    let floor = s.value in
    let t = s.is_second in
    let count = t.value in
    let u = t.is_second in
    let locks = u.value in
    let v = u.is_second in
    let more = v.value in
    let w = v.is_second in
    let changes = w.value in
    let ls = u.is_first in
    let cs = w.is_first in
    let count_high = t.is_first.below in
    let more_high = v.is_first.below in
    let room = cs.room in
    let changes_text : v.back ≡ joined (map change_bytes changes) = last_is w.split w.is_second.empty ∙ cs.is in
    let more_text : v.front ≡ four (length changes) = v.is_first.is ∙ digits_four more (omega arith) ∙ ap four (sym cs.count) in
    let count_text : t.front ≡ four (length locks) = t.is_first.is ∙ digits_four count (omega arith) ∙ ap four (sym ls.count) in
    let e4 : u.back ≡ four (length changes) ++ joined (map change_bytes changes) = v.split ∙ (λ i. more_text i ++ changes_text i) in
    let e3 : t.back ≡ joined (map lock_bytes locks) ++ (four (length changes) ++ joined (map change_bytes changes)) = u.split ∙ (λ i. ls.is i ++ e4 i) in
    let e2 : s.back ≡ four (length locks) ++ (joined (map lock_bytes locks) ++ (four (length changes) ++ joined (map change_bytes changes))) = t.split ∙ (λ i. count_text i ++ e3 i) in
    let e1 : is.back ≡ eight floor ++ (four (length locks) ++ (joined (map lock_bytes locks) ++ (four (length changes) ++ joined (map change_bytes changes)))) = s.split ∙ (λ i. eight_is 0 floor s.front s.is_first i ++ e2 i) in
    let whole : back ≡ eight tx ++ (eight floor ++ (four (length locks) ++ (joined (map lock_bytes locks) ++ (four (length changes) ++ joined (map change_bytes changes))))) = is.split ∙ (λ i. eight_is 1 tx is.front is.is_first i ++ e1 i) in
    let long = prepare_long (record { 0 = tx }) (record { 0 = floor }) locks changes in
    let used : length (joined (map change_bytes changes)) ≤ room_behind count = omega (arith, ap length cs.is, room) in
    subst (λ (x : LogItem). Behind 1 x back) (sym w.is_second.is)
    (record {
      fits = (
        (
          (is.is_first.above, is.is_first.below),
          s.is_first.below,
          All-from_recursion LockFits locks ls.fit,
          ascends_of (λ a b. path_cmp a.path b.path) lock_rank LockFits goes_lock 0 locks ls.fit ls.up,
          ascends_of (λ a b. place_cmp a.place b.place) change_rank IsChange goes_change 0 changes cs.fit cs.up,
          All-from_recursion IsChange changes cs.fit,
        ),
        omega (arith, long, used, ls.count, count_high),
      );
      spelled = ap (λ (l : List ℕ). 1 ∷ l) whole ∙ sym (prepare_is (record { 0 = tx }) (record { 0 = floor }) locks changes);
    })

prepares_from : (item : LogItem) (back : List ℕ) → Behind 1 item back → Prepares item back
unfolding Prepares Ends
prepares_from (Prepare tx floor locks changes) back is =
    let m = is.fits.0 in
    let short = is.fits.1 in
    let long = prepare_long tx floor locks changes in
    let ls = joined (map lock_bytes locks) in
    let cs = joined (map change_bytes changes) in
    let lock_fit = recursion_from_All LockFits locks m.2 in
    let change_fit = recursion_from_All IsChange changes m.5 in
    let some = changes_long changes in
    let few : length locks ≤ 524286 = omega (arith, long, short) in
    let room : length cs ≤ room_behind (length locks) = omega (arith, long, short) in
    record {
      value = tx.0;
      front = eight tx.0;
      back = eight floor.0 ++ (four (length locks) ++ (ls ++ (four (length changes) ++ cs)));
      split = ap (λ (l : List ℕ). drop 1 l) (is.spelled ∙ prepare_is tx floor locks changes);
      is_first = to_eight 1 tx.0 m.0.0 m.0.1;
      is_second = record {
        value = floor.0;
        front = eight floor.0;
        back = four (length locks) ++ (ls ++ (four (length changes) ++ cs));
        split = refl;
        is_first = to_eight 0 floor.0 (omega arith) m.1;
        is_second = record {
          value = length locks;
          front = four (length locks);
          back = ls ++ (four (length changes) ++ cs);
          split = refl;
          is_first = record { above = omega arith; below = few; is = sym (digits_four (length locks) (omega (arith, few))) };
          is_second = record {
            value = locks;
            front = ls;
            back = four (length changes) ++ cs;
            split = refl;
            is_first = record { count = refl; fit = lock_fit; up = above_none (λ a b. path_cmp a.path b.path) lock_rank LockFits goes_lock locks lock_fit m.3 0 (λ l f. omega arith); is = refl };
            is_second = record {
              value = length changes;
              front = four (length changes);
              back = cs;
              split = refl;
              is_first = record { above = omega arith; below = omega (arith, some, room); is = sym (digits_four (length changes) (omega (arith, some, room))) };
              is_second = record {
                value = changes;
                front = cs;
                back = [];
                split = sym (append-nil cs);
                is_first = record { count = refl; fit = change_fit; up = above_none (λ a b. place_cmp a.place b.place) change_rank IsChange goes_change changes change_fit m.4 0 (λ c f. omega arith); is = refl; room = room };
                is_second = record { is = refl; empty = refl };
              };
            };
          };
        };
      };
    }
prepares_from (Commit tx number) back is = absurd (omega (arith, tag_is 1 (Commit tx number) back is))
prepares_from (Abort tx) back is = absurd (omega (arith, tag_is 1 (Abort tx) back is))
prepares_from (Decision tx number nodes) back is = absurd (omega (arith, tag_is 1 (Decision tx number nodes) back is))
prepares_from (Ids upto) back is = absurd (omega (arith, tag_is 1 (Ids upto) back is))

abbrev end_in : ℕ → ℕ → ℕ → List Held → List ℕ → Result (LogItem × List ℕ) ℕ
end_in tx floor count locks bytes = number_in 0 4 0 (room_behind count / 15) bytes >>= λ more. many_in change_in slot_after more.0 (start count) more.1 >>= λ changes. Ok (made tx floor locks changes.0, changes.1)

reads_end : (tx floor count : ℕ) (locks : List Held) → Reads (Ends tx floor count locks) (end_in tx floor count locks)
unfolding Ends
reads_end tx floor count locks =
    reads_bind _ (λ more. Bind (AreChanges more (start count)) (λ changes. Pure (made tx floor locks changes))) (number_in 0 4 0 (room_behind count / 15)) (λ more bytes. many_in change_in slot_after more (start count) bytes >>= λ changes. Ok (made tx floor locks changes.0, changes.1))
    (reads_number 0 4 0 (room_behind count / 15) (inl refl) (omega arith) (omega arith))
    (λ more a is. reads_bind _ (λ changes. Pure (made tx floor locks changes)) (many_in change_in slot_after more (start count)) (λ changes bytes. Ok (made tx floor locks changes, bytes))
    (reads_changes more (start count) (fits more is.below)) (λ changes b are. reads_pure (made tx floor locks changes)))
  where
    fits : (more : ℕ) → more ≤ room_behind count / 15 → SlotFits more (start count)
    fits more le = record { some = omega arith; enough = omega arith }

reads_prepare : Reads (Behind 1) prepare_in
unfolding Prepares prepare_in
reads_prepare =
    reads_same Prepares (Behind 1) prepare_in prepares_to prepares_from
    (reads_bind _ (λ tx. Bind (IsEight 0) (λ floor. Bind (IsNumber 0 4 0 524286) (λ count. Bind (Locks count) (λ locks. Ends tx floor count locks))))
    (number_in 0 8 1 greatest) (λ tx bytes. number_in 0 8 0 greatest bytes >>= λ floor. number_in 0 4 0 524286 floor.1 >>= λ count. many_in lock_in lock_after count.0 0 count.1 >>= λ locks. end_in tx floor.0 count.0 locks.0 locks.1)
    (reads_eight 1 (omega arith))
    (λ tx a is. reads_bind _ (λ floor. Bind (IsNumber 0 4 0 524286) (λ count. Bind (Locks count) (λ locks. Ends tx floor count locks)))
    (number_in 0 8 0 greatest) (λ floor bytes. number_in 0 4 0 524286 bytes >>= λ count. many_in lock_in lock_after count.0 0 count.1 >>= λ locks. end_in tx floor count.0 locks.0 locks.1)
    (reads_eight 0 (omega arith))
    (λ floor b are. reads_bind _ (λ count. Bind (Locks count) (λ locks. Ends tx floor count locks))
    (number_in 0 4 0 524286) (λ count bytes. many_in lock_in lock_after count 0 bytes >>= λ locks. end_in tx floor count locks.0 locks.1)
    (reads_number 0 4 0 524286 (inl refl) (omega arith) (omega arith))
    (λ count c these. reads_bind _ (λ locks. Ends tx floor count locks) (many_in lock_in lock_after count 0) (λ locks bytes. end_in tx floor count locks bytes)
    (reads_locks count (few count these.below)) (λ locks d those. reads_end tx floor count locks)))))
  where
    few : (count : ℕ) → count ≤ 524286 → count ≤ places
    few count le = omega arith

-- ---- every body

Tags : ℕ → LogItem → List ℕ → Type 0
Tags tag = choose (tag == 1) (Behind 1) (choose (tag == 2) (Behind 2) (choose (tag == 3) (Behind 3) (choose (tag == 4) (Behind 4) (Behind 5))))

Bodies : LogItem → List ℕ → Type 0
Bodies = Bind (IsNumber 0 1 1 5) Tags

reads_tagged : (tag : ℕ) → Reads (Tags tag) (tagged_in tag)
unfolding Tags tagged_in
reads_tagged tag =
    reads_choice (tag == 1) (Behind 1) _ prepare_in (λ bytes. cond (tag == 2) (commit_in bytes) (cond (tag == 3) (abort_in bytes) (cond (tag == 4) (decision_in bytes) (ids_in bytes)))) (λ e. reads_prepare)
    (λ e. reads_choice (tag == 2) (Behind 2) _ commit_in (λ bytes. cond (tag == 3) (abort_in bytes) (cond (tag == 4) (decision_in bytes) (ids_in bytes))) (λ f. reads_commit)
    (λ f. reads_choice (tag == 3) (Behind 3) _ abort_in (λ bytes. cond (tag == 4) (decision_in bytes) (ids_in bytes)) (λ g. reads_abort)
    (λ g. reads_choice (tag == 4) (Behind 4) (Behind 5) decision_in ids_in (λ h. reads_decision) (λ h. reads_ids))))

tags_are : (tag : ℕ) (item : LogItem) (back : List ℕ) → 1 ≤ tag → tag ≤ 5 → (Tags tag item back → Behind tag item back) × (Behind tag item back → Tags tag item back)
unfolding Tags
tags_are zero item back low high = absurd (omega (arith, low))
tags_are (suc zero) item back low high = ((λ is. is), (λ is. is))
tags_are (suc (suc zero)) item back low high = ((λ is. is), (λ is. is))
tags_are (suc (suc (suc zero))) item back low high = ((λ is. is), (λ is. is))
tags_are (suc (suc (suc (suc zero)))) item back low high = ((λ is. is), (λ is. is))
tags_are (suc (suc (suc (suc (suc zero))))) item back low high = ((λ is. is), (λ is. is))
tags_are (suc (suc (suc (suc (suc (suc tag)))))) item back low high = absurd (omega (arith, high))

tag_within : (item : LogItem) → (1 ≤ tag_of item) × (tag_of item ≤ 5)
tag_within (Prepare tx floor locks changes) = (omega arith, omega arith)
tag_within (Commit tx number) = (omega arith, omega arith)
tag_within (Abort tx) = (omega arith, omega arith)
tag_within (Decision tx number nodes) = (omega arith, omega arith)
tag_within (Ids upto) = (omega arith, omega arith)

pub reads_body : Reads IsBodyOf body_in
unfolding Bodies body_in
reads_body =
    reads_same Bodies IsBodyOf body_in to from
    (reads_bind _ Tags (number_in 0 1 1 5) tagged_in (reads_number 0 1 1 5 (inl refl) (omega arith) (omega arith)) (λ tag a is. reads_tagged tag))
  where
    to : (item : LogItem) (bytes : List ℕ) → Bodies item bytes → IsBodyOf item bytes
    to item bytes is =
        let tag = is.value in
        let high = is.is_first.below in
        let head : is.front ≡ tag ∷ [] = is.is_first.is ∙ digits_one tag (omega arith) in
        let whole : bytes ≡ tag ∷ is.back = is.split ∙ ap (λ (l : List ℕ). l ++ is.back) head in
        subst (IsBodyOf item) (sym whole) ((tags_are tag item is.back is.is_first.above high).0 is.is_second)

    from : (item : LogItem) (bytes : List ℕ) → IsBodyOf item bytes → Bodies item bytes
    from item bytes is =
        let t = tagged item in
        let w = tag_within item in
        let whole : bytes ≡ tag_of item ∷ t.0 = is.spelled ∙ t.1 in
        record {
          value = tag_of item;
          front = tag_of item ∷ [];
          back = t.0;
          split = whole;
          is_first = record { above = w.0; below = w.1; is = sym (digits_one (tag_of item) (omega (arith, w.1))) };
          is_second = (tags_are (tag_of item) item t.0 w.0 w.1).1 (subst (IsBodyOf item) whole is);
        }

-- how long the lists of a record are
pub record Short (locks : List Held) (changes : List Change) : Type 0 where
  pub few_locks : length locks ≤ 524286
  pub few_changes : length changes ≤ 559238
  pub bytes : length (joined (map change_bytes changes)) ≤ 8388608
  pub fit : All IsChange changes

pub short_of : (item : LogItem) (tx : Tx) (floor : Number) (locks : List Held) (changes : List Change) → HasRecord item → item ≡ Prepare tx floor locks changes → Short locks changes
short_of item tx floor locks changes has is =
    let here : HasRecord (Prepare tx floor locks changes) = subst HasRecord is has in
    let long = prepare_long tx floor locks changes in
    let some = changes_long changes in
    let short = here.1 in
    record { few_locks = omega (arith, long, short); few_changes = omega (arith, long, short, some); bytes = omega (arith, long, short); fit = here.0.5 }

pub nodes_of : (item : LogItem) (tx : Tx) (number : Number) (nodes : List NodeName) → HasRecord item → item ≡ Decision tx number nodes → length nodes ≤ 9
nodes_of item tx number nodes has is =
    let here : HasRecord (Decision tx number nodes) = subst HasRecord is has in
    few_nodes tx number nodes here
