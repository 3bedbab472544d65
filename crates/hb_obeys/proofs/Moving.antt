-- pdrbal's checks, batches and finishes ask what is permitted.
use Rattle.std.proofs.Common.{◌≡◌, inl, inr, ℕ, zero, suc, ◌+◌, ℤ, Bool, true, false, cond, List, [], ◌∷◌, ◌++◌, ◌==◌, filter, filter_map, Option, Some, None, Result, Ok, Err, refl, sym, subst, arith}
use Rattle.hb_types.specs.declared.answer.Answer.{Answer}
use Rattle.hb_types.specs.declared.answer.Answer.TheVariants as answer
use Rattle.hb_types.specs.declared.change.Stored.{Stored}
use Rattle.hb_types.specs.declared.entry.Entry.TheVariants.{At}
use Rattle.hb_types.specs.declared.lock.Mode.TheVariants as mode
use Rattle.hb_types.specs.declared.names.Number.{Number}
use Rattle.hb_types.specs.declared.names.Owner.{Owner}
use Rattle.hb_types.specs.declared.places.Path.TheVariants as path
use Rattle.hb_types.specs.declared.request.Request.TheVariants as request
use Rattle.hb_types.specs.Groups.{group_of}
use Rattle.hb_types.specs.Places.{node_of_area}
use Rattle.hb_model.specs.declared.reply.Reply.{Reply}
use Rattle.hb_model.specs.declared.reply.Reply.TheVariants as reply
use Rattle.hb_model.specs.Dictionary.{entry_row}
use Rattle.hb_model.specs.Shapes.{Hint}
use Rattle.hb_model.specs.Spots.{ds, entries_space, entry_place, space_in, place_in}
use Rattle.hb_talk.specs.Ends.{committing, rolling_back}
use Rattle.hb_talk.specs.Moves.{Mover, Checked, Finish, other, row_there, set, Turned, again, onward, over, after_check, after_commit, after_turn, batch_ends, batch_plan, batch_turn, check, check_ends, check_plan, check_reply, check_with, finish_ends, finish_plan, finish_turn, fresh, hint_in, is_hinted, moved, moving, moving_keys, opened, rolled, setting, turn_by, turn_on, turn_with, turning}
use Rattle.hb_talk.specs.Plans.{putting, removing}
use Rattle.hb_talk.specs.Talk.{Planning, ◌>>=◌, ◌>>◌, pure, says, Talk, Use, lock, scan_group, going_on}
use Rattle.hb_law.specs.Callers.{begun_count}
use Rattle.hb_obeys.specs.Obeying.{MoversObey}
use Rattle.hb_obeys.proofs.Endings.{Counts, committing_obeys, rolling_back_within}
use Rattle.hb_obeys.proofs.Obeying.{Always, Caller, always_bind, always_weaker, followed, obeys-front, obeys_from}
use Rattle.hb_obeys.proofs.Opening.{IsNext, opened_obeys}
use Rattle.hb_obeys.proofs.Planning.{Goes, IsWider, Keeps, keeps_bind, keeps_locked, keeps_pure, keeps_read, keeps_scan_group, keeps_then, keeps_write, keeps_writes, plainly, stands_wider, wide_as_it_is, within}
use Rattle.hb_obeys.proofs.Standing.{Moment, behind}
use Rattle.hb_obeys.proofs.Statements.{keeps_entry, keeps_group, keeps_table_of}

module _ (w : Caller) (begun : ℕ) where
  -- ---- plans

  keeps_check : (name : List ℕ) → Keeps w begun [] (check_plan name)
  keeps_check name = keeps_bind w begun [] _ _ (keeps_table_of w begun name) (λ f.
      keeps_group w begun entries_space f.0 mode.S _ (λ rows. keeps_pure w begun (filter_map (hint_in f.0) rows)))

  keeps_moved : (h : Hint) (key : ℤ) (row : Option (List ℕ)) (n : ℕ) → Keeps w begun [] (moved h key row n)
  keeps_moved h key None n = keeps_pure w begun n
  keeps_moved h key (Some row) n =
      keeps_then w begun [] _ _ (keeps_writes w begun (record { place = place_in h.new h.table key; row = Some row } ∷ []))
      (keeps_then w begun [] _ _ (keeps_writes w begun (removing (place_in h.old h.table key) ∷ [])) (keeps_pure w begun (n + 1)))

  keeps_keys : (h : Hint) (keys : List ℤ) (n : ℕ) → Keeps w begun [] (moving_keys h keys n)
  keeps_keys h [] n = keeps_pure w begun n
  keeps_keys h (key ∷ more) n =
      let old = node_of_area h.old in let new = node_of_area h.new in
      keeps_locked w begun [] old _ _ _ (keeps_locked w begun (old ∷ []) new _ _ _
      (keeps_bind w begun (new ∷ old ∷ []) _ _ (keeps_read w begun (new ∷ old ∷ []) old (place_in h.old h.table key) (inr (inl refl)))
      (λ row. keeps_bind w begun [] _ _ (keeps_moved h key row n) (λ m. keeps_keys h more m))))

  keeps_batch : (h : Hint) (keys : List ℤ) → Keeps w begun [] (batch_plan h keys)
  keeps_batch h keys = keeps_bind w begun [] _ _ (keeps_entry w begun mode.S h.table h.group) (λ e. by (is_hinted h e))
    where
      by : (b : Bool) → Keeps w begun [] (cond b (moving_keys h keys 0 >>= (λ n. pure (Some n))) (pure None))
      by true = keeps_bind w begun [] _ _ (keeps_keys h keys 0) (λ n. keeps_pure w begun (Some n))
      by false = keeps_pure w begun None

  keeps_setting : (h : Hint) (rows : List Stored) → Keeps w begun [] (setting h rows)
  keeps_setting h [] = keeps_then w begun [] _ _ (keeps_write w begun ds (putting (entry_place h.table h.group) (entry_row (At h.new)))) (keeps_pure w begun set)
  keeps_setting h (r ∷ rs) = keeps_pure w begun row_there

  keeps_finish : (h : Hint) → Keeps w begun [] (finish_plan h)
  keeps_finish h = keeps_bind w begun [] _ _ (keeps_entry w begun mode.X h.table h.group) (λ e. by (is_hinted h e))
    where
      old : ℕ
      old = node_of_area h.old

      by : (b : Bool) → Keeps w begun [] (cond b (lock (node_of_area h.old) (path.Group (space_in h.old h.table) h.group) mode.S
          >> (scan_group (node_of_area h.old) (space_in h.old h.table) h.group >>= setting h)) (pure other))
      by true = keeps_locked w begun [] (node_of_area h.old) _ _ _
          (keeps_bind w begun (node_of_area h.old ∷ []) _ _ (keeps_scan_group w begun (node_of_area h.old ∷ []) (node_of_area h.old) (space_in h.old h.table) h.group (inl refl)) (keeps_setting h))
      by false = keeps_pure w begun other

  -- ---- turns

  rolled_wide : (u v : Use) (t : Turned) → IsWider u v → Always w (rolled u t) (within begun v) (Counts begun)
  rolled_wide u v t wider = always_bind w (rolling_back u 0 reply.RolledBack) (λ r. says t) (within begun v) (Counts begun) (rolling_back_within w begun u v 0 reply.RolledBack wider)

  rolled_obeys : (u : Use) (t : Turned) → Always w (rolled u t) (within begun u) (Counts begun)
  rolled_obeys u t = rolled_wide u u t (wide_as_it_is u)

  commits_obey : {R : Type 0} (owner : Owner) (u : Use) (shown : Number → Reply) (f : Reply → R) → Always w (going_on (λ r. says (f r)) (committing owner u shown)) (within begun u) (Counts begun)
  commits_obey owner u shown f = always_bind w (committing owner u shown) (λ r. says (f r)) (within begun u) (Counts begun) (committing_obeys w begun owner u shown)

  -- what follows a plan is permitted, also behind a refusal with more nodes enlisted than are used
  record Closes {A R : Type 0} (end : Result A Reply → Use → Talk R) : Type 0 where
    ok : (a : A) (u : Use) → Always w (end (Ok a) u) (within begun u) (Counts begun)
    err : (r : Reply) (u v : Use) → IsWider u v → Always w (end (Err r) u) (within begun v) (Counts begun)

  batch_closes : (owner : Owner) (h : Hint) → Closes (batch_ends owner h)
  batch_closes owner h = record { ok = by; err = λ r u v wider. rolled_wide u v (over r) wider }
    where
      by : (o : Option ℕ) (u : Use) → Always w (batch_ends owner h (Ok o) u) (within begun u) (Counts begun)
      by (Some n) u = commits_obey owner u (λ number. reply.Moved n h.group number) (after_commit again)
      by None u = rolled_obeys u onward

  finish_closes : (owner : Owner) (h : Hint) → Closes (finish_ends owner h)
  finish_closes owner h = record { ok = by; err = λ r u v wider. rolled_wide u v (over r) wider }
    where
      by : (f : Finish) (u : Use) → Always w (finish_ends owner h (Ok f) u) (within begun u) (Counts begun)
      by set u = commits_obey owner u (λ number. reply.Moved 0 h.group number) (after_commit (λ rs. onward))
      by row_there u = rolled_obeys u (again [])
      by other u = rolled_obeys u onward

  check_closes : (owner : Owner) → Closes (check_ends owner)
  check_closes owner = record {
    ok = λ hints u. commits_obey owner u reply.Complete (check_reply hints);
    err = λ r u v wider. always_bind w (rolling_back u 0 r) (λ s. says (Err r)) (within begun v) (Counts begun) (rolling_back_within w begun u v 0 r wider);
  }

  -- a plan, and the end of its transaction
  planned_obeys : {A R : Type 0} (p : Planning A) (end : Result A Reply → Use → Talk R) → Keeps w begun [] p → Closes end → (u : Use)
      → Always w (going_on (λ r. end r.0 r.1) (p u)) (within begun u) (Counts begun)
  planned_obeys {A} p end k closes u =
      always_bind w (p u) (λ r. end r.0 r.1) (within begun u) (Counts begun)
      (always_weaker w (p u) (within begun u) (Goes begun u) (λ m r. Always w (end r.0 r.1) m (Counts begun)) over (k.holds u tt))
    where
      over : (m : Moment) (r : Result A Reply × Use) → Goes begun u m r → Always w (end r.0 r.1) m (Counts begun)
      over m (Ok a, v) g = subst (λ z. Always w (end (Ok a) v) z (Counts begun)) (sym g.stands) (closes.ok a v)
      over m (Err e, v) g =
          let wide = stands_wider begun v m e g.stands in
          subst (λ z. Always w (end (Err e) v) z (Counts begun)) (sym wide.stands) (closes.err e v wide.wide wide.wider)

-- where another turn may follow, this many begun
abbrev AfterTurn : ℕ → Moment → Turned → Type 0
AfterTurn begun m (over r) = Unit {0}
AfterTurn begun m _ = m.begun ≡ begun

abbrev AfterCheck : ℕ → Moment → Checked → Type 0
AfterCheck begun m (Err r) = Unit {0}
AfterCheck begun m (Ok x) = m.begun ≡ begun

turn_of : (begun : ℕ) (m : Moment) (t : Turned) → m.begun ≡ begun → AfterTurn begun m t
turn_of begun m (over r) e = tt
turn_of begun m (again rs) e = e
turn_of begun m onward e = e

check_of : (begun : ℕ) (m : Moment) (c : Checked) → m.begun ≡ begun → AfterCheck begun m c
check_of begun m (Err r) e = tt
check_of begun m (Ok x) e = e

module _ (w : Caller) where
  batch_turn_obeys : (owner : Owner) (h : Hint) (keys : List ℤ) (m : Moment) → IsNext w m.begun owner → Always w (opened owner (batch_turn owner h keys)) m (AfterTurn (m.begun + 1))
  batch_turn_obeys owner h keys m next =
      opened_obeys w owner (batch_turn owner h keys) m (AfterTurn (m.begun + 1)) next
      (λ tx. always_weaker w (batch_turn owner h keys (Ok (fresh tx.0))) (within (m.begun + 1) (fresh tx.0)) (Counts (m.begun + 1)) (AfterTurn (m.begun + 1)) (turn_of (m.begun + 1))
      (planned_obeys w (m.begun + 1) (batch_plan h keys) (batch_ends owner h) (keeps_batch w (m.begun + 1) h keys) (batch_closes w (m.begun + 1) owner h) (fresh tx.0)))
      (λ r z. tt)

  finish_turn_obeys : (owner : Owner) (h : Hint) (m : Moment) → IsNext w m.begun owner → Always w (opened owner (finish_turn owner h)) m (AfterTurn (m.begun + 1))
  finish_turn_obeys owner h m next =
      opened_obeys w owner (finish_turn owner h) m (AfterTurn (m.begun + 1)) next
      (λ tx. always_weaker w (finish_turn owner h (Ok (fresh tx.0))) (within (m.begun + 1) (fresh tx.0)) (Counts (m.begun + 1)) (AfterTurn (m.begun + 1)) (turn_of (m.begun + 1))
      (planned_obeys w (m.begun + 1) (finish_plan h) (finish_ends owner h) (keeps_finish w (m.begun + 1) h) (finish_closes w (m.begun + 1) owner h) (fresh tx.0)))
      (λ r z. tt)

  keys_obey : (owner : Owner) (h : Hint) (keys : List ℤ) (m : Moment) → IsNext w m.begun owner → Always w (turn_with owner h keys) m (AfterTurn (m.begun + 1))
  keys_obey owner h [] m next = finish_turn_obeys owner h m next
  keys_obey owner h (k ∷ ks) m next = batch_turn_obeys owner h (k ∷ ks) m next

  turn_by_obeys : (owner : Owner) (h : Hint) (a : Answer) (m : Moment) → IsNext w m.begun owner → Always w (turn_by owner h a) m (AfterTurn (m.begun + 1))
  turn_by_obeys owner h a m next = elim a as (λ x. Always w (turn_by owner h x) m (AfterTurn (m.begun + 1))) [
    | answer.Keys keys ↦ keys_obey owner h (filter (λ key. group_of key == h.group) keys) m next
    | x ↦ tt
  ]

  check_obeys : (mover : Mover) (nth : ℕ) (m : Moment) → IsNext w m.begun (record { session = mover.session; nth = nth }) → Always w (check mover nth) m (AfterCheck (m.begun + 1))
  check_obeys mover nth m next =
      let owner : Owner = record { session = mover.session; nth = nth } in
      opened_obeys w owner (check_with owner mover.table) m (AfterCheck (m.begun + 1)) next
      (λ tx. always_weaker w (check_with owner mover.table (Ok (fresh tx.0))) (within (m.begun + 1) (fresh tx.0)) (Counts (m.begun + 1)) (AfterCheck (m.begun + 1)) (check_of (m.begun + 1))
      (planned_obeys w (m.begun + 1) (check_plan mover.table) (check_ends owner) (keeps_check w (m.begun + 1) mover.table) (check_closes w (m.begun + 1) owner) (fresh tx.0)))
      (λ r z. tt)

-- ---- the whole line

-- nothing is said of the end
abbrev Anyhow : {R : Type 0} → Moment → R → Type 0
Anyhow m r = Unit {0}

module _ (mover : Mover) where
  by : Caller
  by = record { session = mover.session; begins = true }

  next_of : (begun nth : ℕ) → nth ≡ begun + 1 → IsNext by begun (record { session = mover.session; nth = nth })
  unfolding by
  next_of begun nth e = record { begins = refl; session = refl; nth = e }

  turn_on_obeys : (nth : ℕ) (h : Hint) (m : Moment) → nth ≡ m.begun + 1 → Always by (turn_on mover nth h) m (AfterTurn (m.begun + 1))
  turn_on_obeys nth h m e = (
    (plainly, λ front st. tt),
    λ a. turn_by_obeys by (record { session = mover.session; nth = nth }) h a
        (behind (node_of_area h.old) (request.GroupKeys (space_in h.old h.table) h.group mover.rows) a m) (next_of m.begun nth e),
  )

  -- what goes on with groups from a moment where so many begun
  GoesOn : ℕ → (List Hint → Talk (List Reply)) → Type 0
  GoesOn begun go = (hints : List Hint) (m : Moment) → m.begun ≡ begun → Always by (go hints) m Anyhow

  after_turn_obeys : (go : List Hint → Talk (List Reply)) (h : Hint) (hs : List Hint) (begun : ℕ) → GoesOn begun go → (m : Moment) (t : Turned) → AfterTurn begun m t
      → Always by (after_turn go h hs t) m Anyhow
  unfolding GoesOn
  after_turn_obeys go h hs begun next m (again rs) e = always_bind by (go (h ∷ hs)) (λ more. says (rs ++ more)) m Anyhow (next (h ∷ hs) m e)
  after_turn_obeys go h hs begun next m onward e = next hs m e
  after_turn_obeys go h hs begun next m (over r) e = tt

  turning_obeys : (nth : ℕ) (go : List Hint → Talk (List Reply)) → GoesOn nth go → (hints : List Hint) (m : Moment) → nth ≡ m.begun + 1
      → Always by (turning mover nth go hints) m Anyhow
  turning_obeys nth go next [] m e = tt
  turning_obeys nth go next (h ∷ hs) m e =
      always_bind by (turn_on mover nth h) (after_turn go h hs) m Anyhow
      (always_weaker by (turn_on mover nth h) m (AfterTurn (m.begun + 1)) (λ z t. Always by (after_turn go h hs t) z Anyhow)
      (λ z t a. after_turn_obeys go h hs (m.begun + 1) (subst (λ n. GoesOn n go) e next) z t a) (turn_on_obeys nth h m e))

  after_check_obeys : (go : List Hint → Talk (List Reply)) (begun : ℕ) → GoesOn begun go → (spent : Bool) (m : Moment) (c : Checked) → AfterCheck begun m c
      → Always by (after_check mover go spent c) m Anyhow
  unfolding GoesOn
  after_check_obeys go begun next spent m (Err r) e = tt
  after_check_obeys go begun next spent m (Ok ([], number)) e = tt
  after_check_obeys go begun next true m (Ok (h ∷ hs, number)) e = tt
  after_check_obeys go begun next false m (Ok (h ∷ hs, number)) e = next (h ∷ hs) m e

  checking_obeys : (go : List Hint → Talk (List Reply)) (spent : Bool) (nth : ℕ) (m : Moment) → nth ≡ m.begun + 1 → GoesOn nth go
      → Always by (going_on (after_check mover go spent) (check mover nth)) m Anyhow
  checking_obeys go spent nth m e next =
      always_bind by (check mover nth) (after_check mover go spent) m Anyhow
      (always_weaker by (check mover nth) m (AfterCheck (m.begun + 1)) (λ z c. Always by (after_check mover go spent c) z Anyhow)
      (λ z c a. after_check_obeys go (m.begun + 1) (subst (λ n. GoesOn n go) e next) spent z c a) (check_obeys by mover nth m (next_of m.begun nth e)))

  moving_obeys : (left nth : ℕ) (hints : List Hint) (m : Moment) → nth ≡ m.begun + 1 → Always by (moving mover left nth hints) m Anyhow
  unfolding moving GoesOn
  moving_obeys zero nth hints m e = checking_obeys (λ hs. says []) true nth m e (λ hs z i. tt)
  moving_obeys (suc left) nth [] m e =
      checking_obeys (turning mover (nth + 1) (moving mover left (nth + 2))) false nth m e
      (λ hs z i. turning_obeys (nth + 1) (moving mover left (nth + 2)) (λ hints y j. moving_obeys left (nth + 2) hints y (omega (arith, j))) hs z (omega (arith, i)))
  moving_obeys (suc left) nth (h ∷ hs) m e =
      turning_obeys nth (moving mover left (nth + 1)) (λ hints y j. moving_obeys left (nth + 1) hints y (omega (arith, j))) (h ∷ hs) m e

pub movers_obey : MoversObey
unfolding by
movers_obey mover left nth hints front cs e b are =
    let m : Moment = record { begun = begun_count front; open_as = None } in
    obeys_from mover.session front cs (obeys-front mover.session front cs b.0
    (followed (by mover) false (moving mover left nth hints) (cs ++ b.0) b.1 b.2 m front Anyhow (moving_obeys mover left nth hints m e) (record { begun = refl; stands = tt }))) are
