-- Rows put one behind another.
use Rattle.std.proofs.Common.{◌≡◌, ℕ, ◌+◌, ◌≤◌, ◌<◌, List, [], ◌∷◌, ◌++◌, length, map, take, get_or, ap, sym, ◌∙◌, subst, arith, append_assoc}
use Rattle.std.proofs.lemmas.List.{append-nil, length-take-le, map-append, take_all, take_more}
use Rattle.hb_types.specs.declared.change.Change.{Change}
use Rattle.hb_types.specs.declared.change.Stored.{Stored}
use Rattle.std.specs.Prelude.{slice_index_or}
use Rattle.std.specs.List.{range_with_len}
use Rattle.std.proofs.lemmas.List.FromFn.{map-range_with_len_more}
use Rattle.hb_types.specs.declared.entry.Entry.{Entry}
use Rattle.hb_types.specs.declared.entry.Entry.TheVariants.{At}
use Rattle.hb_types.specs.Groups.{first_assignment, map_from}
use Rattle.hb_types.specs.Lists.{Each}
use Rattle.hb_model.specs.Dictionary.{at_place, member_row}
use Rattle.hb_model.specs.Spots.{members_space}
use Rattle.hb_talk.specs.PlansDefine.{put_row}
use Rattle.hb_definerows.specs.DefineRows.{IsDefined, Puts}

pub puts_none : (old : List Change) → Puts old old []
puts_none old = record { changes = sym (append-nil old); sound = λ each. each }

each_behind : (xs : List Change) (c : Change) → Each IsDefined xs → IsDefined c → Each IsDefined (xs ++ c ∷ [])
each_behind [] c each is = (is, tt)
each_behind (x ∷ xs) c each is = (each.0, each_behind xs c each.1 is)

pub puts_one : (old new : List Change) (c : Change) (r : Stored) → new ≡ old ++ c ∷ [] → c ≡ put_row r → IsDefined c → Puts old new (r ∷ [])
puts_one old new c r is same sound = record {
  changes = is ∙ ap (λ (d : Change). old ++ d ∷ []) same;
  sound = λ each. subst (Each IsDefined) (sym is) (each_behind old c each sound);
}

pub puts_both : (old mid new : List Change) (r s : List Stored) → Puts old mid r → Puts mid new s → Puts old new (r ++ s)
puts_both old mid new r s first second = record {
  changes = second.changes ∙ ap (λ (l : List Change). l ++ map put_row s) first.changes ∙ append_assoc old (map put_row r) (map put_row s) ∙ ap (λ (l : List Change). old ++ l) (sym (map-append put_row r s));
  sound = λ each. second.sound (first.sound each);
}

pub map_from_behind : {A B : Type 0} (f : ℕ → A → B) (n : ℕ) (xs : List A) (x : A) → map_from f n (xs ++ x ∷ []) ≡ map_from f n xs ++ f (n + length xs) x ∷ []
map_from_behind {A} {B} f n [] x = ap (λ (k : ℕ). f k x ∷ []) (omega arith)
map_from_behind {A} {B} f n (y ∷ ys) x =
    ap (λ (l : List B). f n y ∷ l) (map_from_behind f (n + 1) ys x ∙ ap (λ (k : ℕ). map_from f (n + 1) ys ++ f k x ∷ []) (omega arith))

-- the item at a place, with its number
pub map_from_more : {A B : Type 0} (f : ℕ → A → B) (n : ℕ) (xs : List A) (i k : ℕ) (d : A) → i < length xs → k ≡ n + i
    → map_from f n (take (i + 1) xs) ≡ map_from f n (take i xs) ++ f k (get_or xs i d) ∷ []
map_from_more {A} {B} f n xs i k d lt at =
    ap (map_from f n) (take_more xs i d lt) ∙ map_from_behind f n (take i xs) (get_or xs i d)
    ∙ ap (λ (j : ℕ). map_from f n (take i xs) ++ f j (get_or xs i d) ∷ []) (ap (λ (l : ℕ). n + l) (length-take-le i xs (omega arith)) ∙ sym at)

-- the rows put so far, with one more
pub puts_more : {A : Type 0} (old mid new : List Change) (f : ℕ → A → Stored) (n : ℕ) (xs : List A) (i k : ℕ) (d : A) → i < length xs → k ≡ n + i
    → Puts old mid (map_from f n (take i xs)) → Puts mid new (f k (get_or xs i d) ∷ []) → Puts old new (map_from f n (take (i + 1) xs))
puts_more old mid new f n xs i k d lt at before one =
    subst (Puts old new) (sym (map_from_more f n xs i k d lt at)) (puts_both old mid new (map_from f n (take i xs)) (f k (get_or xs i d) ∷ []) before one)

pub puts_whole : {A : Type 0} (old new : List Change) (f : ℕ → A → Stored) (n : ℕ) (xs : List A) (i : ℕ) → length xs ≤ i → Puts old new (map_from f n (take i xs)) → Puts old new (map_from f n xs)
puts_whole old new f n xs i le puts = subst (λ l. Puts old new (map_from f n l)) (take_all i xs le) puts

-- the row of a member
abbrev pub member_at : ℕ → ℕ → ℕ → Stored
member_at table i area = at_place members_space table i (member_row area)

-- the entry of a group of a new table
abbrev pub first_at : List ℕ → ℕ → Entry
first_at members g = At (slice_index_or members (first_assignment g (length members)) 0)

-- three groups of rows, one behind another, where there was nothing
pub puts_three : (none a b c : List Change) (r s t : List Stored) → none ≡ [] → Puts none a r → Puts a b s → Puts b c t → Puts [] c ((r ++ s) ++ t)
puts_three none a b c r s t empty first second third =
    subst (λ (l : List Change). Puts l c ((r ++ s) ++ t)) empty (puts_both none b c (r ++ s) t (puts_both none a b r s first second) third)

-- the entries of a new table, with one more
pub first_more : (members : List ℕ) (es new : List Entry) (g n : ℕ) → es ≡ map (first_at members) (range_with_len 0 g) → n ≡ first_assignment g (length members)
    → new ≡ es ++ At (get_or members n 0) ∷ [] → new ≡ map (first_at members) (range_with_len 0 (g + 1))
first_more members es new g n so_far at put =
    put ∙ ap (λ (l : List Entry). l ++ At (get_or members n 0) ∷ []) so_far
    ∙ ap (λ (k : ℕ). map (first_at members) (range_with_len 0 g) ++ At (get_or members k 0) ∷ []) at
    ∙ sym (map-range_with_len_more (first_at members) 0 g g (omega arith))
