-- What pdrbal asks: checks, batches and finishes, each a transaction of its own.
use Rattle.std.specs.Prelude.{ℕ, zero, suc, ◌+◌, ◌==◌, nat_abs, ℤ, Bool, true, false, ◌&&◌, if◌then◌else◌, List, [], ◌∷◌, ◌++◌, filter, filter_map, Option, Some, None, option_and_then, Result, Ok, Err}
use Rattle.hb_types.specs.declared.change.Stored.{Stored}
use Rattle.hb_types.specs.declared.entry.Entry.{Entry}
use Rattle.hb_types.specs.declared.entry.Entry.TheVariants.{At, Moving}
use Rattle.hb_types.specs.declared.lock.Mode.TheVariants as mode
use Rattle.hb_types.specs.declared.names.Number.{Number}
use Rattle.hb_types.specs.declared.names.Owner.{Owner}
use Rattle.hb_types.specs.declared.names.Tx.{Tx}
use Rattle.hb_types.specs.declared.places.Path.TheVariants as path
use Rattle.hb_types.specs.declared.answer.Answer.{Answer}
use Rattle.hb_types.specs.declared.answer.Answer.TheVariants as answer
use Rattle.hb_types.specs.declared.request.Request.TheVariants as request
use Rattle.hb_types.specs.Groups.{group_of}
use Rattle.hb_types.specs.Places.{node_of_area}
use Rattle.hb_model.specs.declared.reply.Reply.{Reply}
use Rattle.hb_model.specs.declared.reply.Reply.TheVariants as reply
use Rattle.hb_model.specs.Dictionary.{entry_row}
use Rattle.hb_model.specs.Shapes.{Hint}
use Rattle.hb_model.specs.Spots.{ds, dictionary_space, entries_space, entry_place, space_in, place_in}
use Rattle.hb_model.specs.Told.{entry_of}
use Rattle.hb_talk.specs.Ends.{fes1, committing, rolling_back}
use Rattle.hb_talk.specs.Plans.{table_of, entry_under, putting, removing, writes}
use Rattle.hb_talk.specs.Talk.{Talk, says, asks, going_on, Planning, ◌>>=◌, ◌>>◌, pure, lock, read, scan_group, write, Use, mgr, refusal_of}

-- a pdrbal line of a session: its table, keys per batch, and turns
pub record Mover : Type 0 where
  pub session : ℕ
  pub back_ends : ℕ
  pub table : List ℕ
  pub rows : ℕ
  pub turns : ℕ

-- ---- a transaction's beginning

abbrev pub fresh : ℕ → Use
fresh tx = record { tx = tx; used = 0; locks = 0; bytes = 0 }

-- Begin at fes1, Enter at mgr; what follows gets the transaction, or a refusal
abbrev pub opened : {R : Type 0} → Owner → (Result Use Reply → Talk R) → Talk R
opened {R} owner k = asks fes1 (request.Begin owner) begun
  where
    entered : Tx → Answer → Talk R
    entered tx answer.Done = k (Ok (fresh tx.0))
    entered tx a = rolling_back_to (fresh tx.0) a
      where
        rolling_back_to : Use → Answer → Talk R
        rolling_back_to u a = going_on (λ r. k (Err r)) (rolling_back u 0 (refusal_of mgr a))

    begun : Answer → Talk R
    begun (answer.Begun tx) = asks mgr (request.Enter tx owner) (entered tx)
    begun a = k (Err (refusal_of fes1 a))

-- ---- plans

abbrev pub hint_in : ℕ → Stored → Option Hint
hint_in table r = option_and_then moving (entry_of (Some r.row))
  where
    moving : Entry → Option Hint
    moving (At a) = None
    moving (Moving a b) = Some (record { table = table; group = nat_abs r.place.key; old = a; new = b })

-- the Moving groups of the table, ascending
abbrev pub check_plan : List ℕ → Planning (List Hint)
check_plan name =
    table_of name >>= (λ f. lock ds (path.Group (dictionary_space entries_space) f.0) mode.S
    >> (scan_group ds (dictionary_space entries_space) f.0 >>= (λ rows. pure (filter_map (hint_in f.0) rows))))

-- whether an entry is the one that was hinted
abbrev pub is_hinted : Hint → Option Entry → Bool
is_hinted h (Some (Moving a b)) = (a == h.old) && (b == h.new)
is_hinted h _ = false

-- the Writes of a key that is there, each if it is not too much, and what follows with one key more
abbrev pub moved : Hint → ℤ → Option (List ℕ) → ℕ → Planning ℕ
moved h key None n = pure n
moved h key (Some row) n =
    writes (record { place = place_in h.new h.table key; row = Some row } ∷ []) >> (writes (removing (place_in h.old h.table key) ∷ []) >> pure (n + 1))

-- the keys left of a batch: each is locked in both areas, and moved where it is there
abbrev pub moving_keys : Hint → List ℤ → ℕ → Planning ℕ
moving_keys h [] n = pure n
moving_keys h (key ∷ more) n =
    lock (node_of_area h.old) (path.Key (place_in h.old h.table key)) mode.X
    >> (lock (node_of_area h.new) (path.Key (place_in h.new h.table key)) mode.X
    >> (read (node_of_area h.old) (place_in h.old h.table key) >>= (λ row. moved h key row n >>= moving_keys h more)))

-- the keys that a batch moved, or none where the entry was not the hinted one
abbrev pub batch_plan : Hint → List ℤ → Planning (Option ℕ)
batch_plan h keys =
    entry_under mode.S h.table h.group >>= (λ e. if is_hinted h e then moving_keys h keys 0 >>= (λ n. pure (Some n)) else pure None)

-- what a finish found
pub data Finish : Type 0 where
  other : Finish
  row_there : Finish
  set : Finish

abbrev pub setting : Hint → List Stored → Planning Finish
setting h [] = write ds (putting (entry_place h.table h.group) (entry_row (At h.new))) >> pure set
setting h (r ∷ rs) = pure row_there

abbrev pub finish_plan : Hint → Planning Finish
finish_plan h =
    entry_under mode.X h.table h.group >>= (λ e. if is_hinted h e
    then lock (node_of_area h.old) (path.Group (space_in h.old h.table) h.group) mode.S
    >> (scan_group (node_of_area h.old) (space_in h.old h.table) h.group >>= setting h)
    else pure other)

-- ---- turns

-- how a turn ends: the same group is next, or the next one; or pdrbal is over
pub data Turned : Type 0 where
  again : List Reply → Turned
  onward : Turned
  over : Reply → Turned

-- a commit whose line is shown, and one whose line is not
abbrev pub after_commit : (List Reply → Turned) → Reply → Turned
after_commit next (reply.Moved rows group number) = next (if rows == 0 then [] else reply.Moved rows group number ∷ [])
after_commit next r = over r

abbrev pub rolled : Use → Turned → Talk Turned
rolled u t = going_on (λ r. says t) (rolling_back u 0 reply.RolledBack)

abbrev pub batch_ends : Owner → Hint → Result (Option ℕ) Reply → Use → Talk Turned
batch_ends owner h (Ok (Some n)) u = going_on (λ r. says (after_commit again r)) (committing owner u (λ number. reply.Moved n h.group number))
batch_ends owner h (Ok None) u = rolled u onward
batch_ends owner h (Err r) u = rolled u (over r)

abbrev pub finish_ends : Owner → Hint → Result Finish Reply → Use → Talk Turned
finish_ends owner h (Ok set) u = going_on (λ r. says (after_commit (λ rs. onward) r)) (committing owner u (λ number. reply.Moved 0 h.group number))
finish_ends owner h (Ok row_there) u = rolled u (again [])
finish_ends owner h (Ok other) u = rolled u onward
finish_ends owner h (Err r) u = rolled u (over r)

abbrev pub batch_turn : Owner → Hint → List ℤ → Result Use Reply → Talk Turned
batch_turn owner h keys (Err r) = says (over r)
batch_turn owner h keys (Ok u) = going_on (λ p. batch_ends owner h p.0 p.1) (batch_plan h keys u)

abbrev pub finish_turn : Owner → Hint → Result Use Reply → Talk Turned
finish_turn owner h (Err r) = says (over r)
finish_turn owner h (Ok u) = going_on (λ p. finish_ends owner h p.0 p.1) (finish_plan h u)

abbrev pub turn_with : Owner → Hint → List ℤ → Talk Turned
turn_with owner h [] = opened owner (finish_turn owner h)
turn_with owner h (k ∷ ks) = opened owner (batch_turn owner h (k ∷ ks))

-- of the keys that the old area tells, those of another group are left out
abbrev pub turn_by : Owner → Hint → Answer → Talk Turned
turn_by owner h (answer.Keys keys) = turn_with owner h (filter (λ key. group_of key == h.group) keys)
turn_by owner h a = says (over (refusal_of (node_of_area h.old) a))

-- one turn on a group: a batch where the old area has keys of it, else a finish
abbrev pub turn_on : Mover → ℕ → Hint → Talk Turned
turn_on m nth h =
    asks (node_of_area h.old) (request.GroupKeys (space_in h.old h.table) h.group m.rows) (turn_by (record { session = m.session; nth = nth }) h)

-- ---- checks

-- what a check found, and the number of its commit; or a refusal
abbrev pub Checked : Type 0
Checked = Result (List Hint × Number) Reply

abbrev pub check_reply : List Hint → Reply → Checked
check_reply hints (reply.Complete number) = Ok (hints, number)
check_reply hints r = Err r

abbrev pub check_ends : Owner → Result (List Hint) Reply → Use → Talk Checked
check_ends owner (Ok hints) u = going_on (λ r. says (check_reply hints r)) (committing owner u reply.Complete)
check_ends owner (Err r) u = going_on (λ s. says (Err r)) (rolling_back u 0 r)

abbrev pub check_with : Owner → List ℕ → Result Use Reply → Talk Checked
check_with owner name (Err r) = says (Err r)
check_with owner name (Ok u) = going_on (λ p. check_ends owner p.0 p.1) (check_plan name u)

abbrev pub check : Mover → ℕ → Talk Checked
check m nth = opened (record { session = m.session; nth = nth }) (check_with (record { session = m.session; nth = nth }) m.table)

-- ---- the whole line

abbrev pub shown_before : List Reply → Talk (List Reply) → Talk (List Reply)
shown_before rs t = going_on (λ more. says (rs ++ more)) t

-- what follows a check: its end, or the groups that it found
abbrev pub after_check : Mover → (List Hint → Talk (List Reply)) → Bool → Checked → Talk (List Reply)
after_check m go spent (Err r) = says (r ∷ [])
after_check m go spent (Ok ([], number)) = says (reply.Complete number ∷ [])
after_check m go true (Ok (h ∷ hs, number)) = says (reply.Suspended m.turns number ∷ [])
after_check m go false (Ok (h ∷ hs, number)) = go (h ∷ hs)

-- what follows a turn
abbrev pub after_turn : (List Hint → Talk (List Reply)) → Hint → List Hint → Turned → Talk (List Reply)
after_turn go h hs (again rs) = shown_before rs (go (h ∷ hs))
after_turn go h hs onward = go hs
after_turn go h hs (over r) = says (r ∷ [])

abbrev pub turning : Mover → ℕ → (List Hint → Talk (List Reply)) → List Hint → Talk (List Reply)
turning m nth go [] = says []
turning m nth go (h ∷ hs) = going_on (after_turn go h hs) (turn_on m nth h)

-- what pdrbal asks with so many turns left, the nth transaction next, and these groups before the next check; and the lines that it shows
unfoldable pub moving : Mover → ℕ → ℕ → List Hint → Talk (List Reply)
moving m zero nth hints = going_on (after_check m (λ hs. says []) true) (check m nth)
moving m (suc left) nth [] = going_on (after_check m (turning m (nth + 1) (moving m left (nth + 2))) false) (check m nth)
moving m (suc left) nth (h ∷ hs) = turning m nth (moving m left (nth + 1)) (h ∷ hs)
