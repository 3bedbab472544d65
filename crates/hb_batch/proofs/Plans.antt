-- A batch is an access, and then the rest.
use Rattle.std.proofs.Common.{◌≡◌, ℕ, ◌+◌, ℤ, Bool, true, false, List, [], ◌∷◌, Option, Some, None, Ok, Err, refl, ap, sym, ◌∙◌}
use Rattle.std.specs.Prelude.{nat_lt, if◌then◌else◌}
use Rattle.hb_types.specs.declared.change.Change.{Change}
use Rattle.hb_types.specs.declared.entry.Entry.{Entry}
use Rattle.hb_types.specs.declared.lock.Mode.TheVariants as mode
use Rattle.hb_types.specs.declared.places.Path.TheVariants as path
use Rattle.hb_types.specs.declared.places.Place.{Place}
use Rattle.hb_types.specs.Places.{node_of_area}
use Rattle.hb_model.specs.Does.{most_bytes}
use Rattle.hb_model.specs.declared.reply.Reply.TheVariants as reply
use Rattle.hb_model.specs.Shapes.{Hint as Moving}
use Rattle.hb_model.specs.Spots.{ds, entry_place, place_in}
use Rattle.hb_model.specs.Told.{entry_of}
use Rattle.hb_talk.specs.Moves.{batch_plan, is_hinted, moved, moving_keys}
use Rattle.hb_talk.specs.Plans.{sizes, writes, writing}
use Rattle.hb_talk.specs.Talk.{Talk, says, going_on, Use, Planning, and_then, ◌>>=◌, ◌>>◌, pure, refused, lock, read, write}
use Rattle.hb_access.specs.declared.goal.Got.TheVariants as got
use Rattle.hb_access.specs.Accesses.{locked, under, written}
use Rattle.hb_access.proofs.Bridges.{locks_only, reads_row, writes_one}
use Rattle.hb_access.proofs.Sequences.{plans_assoc, then_same}
use Rattle.hb_round.specs.Onward.{Ends, onward}
use Rattle.hb_round.proofs.Onwards.{plan_on}
use Rattle.hb_batch.specs.declared.batch.Part.TheVariants as part
use Rattle.hb_batch.specs.Batches.{addition, behind, entry_goal, from_new, from_old, from_out, from_row, key_goal, left_of, removal, row_got, with_row}

-- ---- the keys that are left

pub none_left : (h : Moving) (n : ℕ) (u : Use) → left_of h [] n u ≡ says (Ok (Some n), u)
unfolding left_of
none_left h n u = refl

pub next_left : (h : Moving) (key : ℤ) (more : List ℤ) (n : ℕ) (u : Use) → left_of h (key ∷ more) n u ≡ from_old h key more n u
unfolding left_of from_old from_new from_row with_row
next_left h key more n u =
    let p = lock (node_of_area h.old) (path.Key (place_in h.old h.table key)) mode.X in
    let q = lock (node_of_area h.new) (path.Key (place_in h.new h.table key)) mode.X in
    let r = read (node_of_area h.old) (place_in h.old h.table key) in
    let k : Option (List ℕ) → Planning ℕ = λ row. moved h key row n >>= moving_keys h more in
    let s : ℕ → Planning (Option ℕ) = λ m. pure (Some m) in
    plans_assoc p (λ _. q >> (r >>= k)) s u
    ∙ then_same p (λ _. (q >> (r >>= k)) >>= s) (λ _. q >> (r >>= (λ row. moved h key row n >>= (λ m. moving_keys h more m >>= s))))
    (λ _ v. plans_assoc q (λ _. r >>= k) s v
    ∙ then_same q (λ _. (r >>= k) >>= s) (λ _. r >>= (λ row. moved h key row n >>= (λ m. moving_keys h more m >>= s)))
    (λ _ w. plans_assoc r k s w
    ∙ then_same r (λ row. k row >>= s) (λ row. moved h key row n >>= (λ m. moving_keys h more m >>= s))
    (λ row x. plans_assoc (moved h key row n) (moving_keys h more) s x) w) v) u

-- ---- a key's row

pub no_row : (h : Moving) (key : ℤ) (keys : List ℤ) (n : ℕ) (u : Use) → with_row h key keys n None u ≡ left_of h keys n u
unfolding with_row
no_row h key keys n u = refl

pub a_row : (h : Moving) (key : ℤ) (keys : List ℤ) (n : ℕ) (row : List ℕ) (u : Use)
    → with_row h key keys n (Some row) u ≡ (writes (addition h key row ∷ []) >> from_out h key keys n) u
unfolding with_row from_out
a_row h key keys n row u =
    let p = writes (addition h key row ∷ []) in
    let q = writes (removal h key ∷ []) in
    let l : ℕ → Planning (Option ℕ) = λ m. left_of h keys m in
    plans_assoc p (λ _. q >> pure (n + 1)) l u
    ∙ then_same p (λ _. (q >> pure (n + 1)) >>= l) (λ _. q >> left_of h keys (n + 1)) (λ _ v. plans_assoc q (λ _. pure (n + 1)) l v) u

-- ---- accesses

pub locks_key : {B : Type 0} (h : Moving) (area : ℕ) (key : ℤ) (k : Planning B) (u : Use)
    → (lock (node_of_area area) (path.Key (place_in area h.table key)) mode.X >> k) u ≡ onward (λ _. k) (locked (key_goal h area key false) u)
locks_key h area key k u =
    locks_only (record { 0 = node_of_area area }) (path.Key (place_in area h.table key)) mode.X k (λ _. k) (λ v. refl) u
    ∙ plan_on (locked (key_goal h area key false)) (λ _. k) u

pub reads_key : {B : Type 0} (node : ℕ) (p : Place) (k : Option (List ℕ) → Planning B) (u : Use)
    → (read node p >>= k) u ≡ onward (λ g. k (row_got g)) (under node (path.Key p) u)
reads_key node p k u =
    sym (plans_assoc (read node p) (λ row. pure (got.Row row)) (λ g. k (row_got g)) u) ∙ plan_on (under node (path.Key p)) (λ g. k (row_got g)) u

-- ---- a write

abbrev pub counted : Use → Change → Use
counted u c = record u { bytes = u.bytes + sizes (c ∷ []) }

abbrev by_room : {B : Type 0} → Change → Planning B → Use → Bool → Talk (Ends B)
by_room c k u b = going_on (λ p. and_then (λ _. k) p.1 p.0) (if b then refused reply.TooMuch u else writing (c ∷ []) (counted u c))

pub too_much : {B : Type 0} (c : Change) (k : Planning B) (u : Use) → nat_lt most_bytes (u.bytes + sizes (c ∷ [])) ≡ true
    → (writes (c ∷ []) >> k) u ≡ says (Err reply.TooMuch, u)
too_much c k u much = ap (by_room c k u) much

pub writes_change : {B : Type 0} (c : Change) (k : Planning B) (u : Use) → nat_lt most_bytes (u.bytes + sizes (c ∷ [])) ≡ false
    → (writes (c ∷ []) >> k) u ≡ onward (λ _. k) (written (node_of_area c.place.space.area) c (counted u c))
writes_change c k u room =
    let n = node_of_area c.place.space.area in
    ap (by_room c k u) room
    ∙ plans_assoc (write n c) (λ _. pure tt) (λ _. k) (counted u c)
    ∙ writes_one (record { 0 = n }) c k (λ _. k) (λ v. refl) (counted u c)
    ∙ plan_on (written n c) (λ _. k) (counted u c)

-- ---- the whole

pub begins : (h : Moving) (key : ℤ) (keys : List ℤ) (u : Use) → batch_plan h keys u ≡ onward (behind h part.Entry key keys 0) (locked (entry_goal h mode.S) u)
unfolding behind left_of
begins h key keys u =
    let p = lock ds (path.Key (entry_place h.table h.group)) mode.S in
    let r = read ds (entry_place h.table h.group) in
    let k : Option Entry → Planning (Option ℕ) = λ e. if is_hinted h e then moving_keys h keys 0 >>= (λ n. pure (Some n)) else pure None in
    plans_assoc p (λ _. r >>= (λ row. pure (entry_of row))) k u
    ∙ then_same p (λ _. (r >>= (λ row. pure (entry_of row))) >>= k) (λ _. r >>= (λ row. k (entry_of row))) (λ _ v. plans_assoc r (λ row. pure (entry_of row)) k v) u
    ∙ reads_row (record { 0 = ds }) (entry_place h.table h.group) mode.S (λ row. k (entry_of row)) (behind h part.Entry key keys 0) (λ row v. refl) u
    ∙ plan_on (locked (entry_goal h mode.S)) (behind h part.Entry key keys 0) u
