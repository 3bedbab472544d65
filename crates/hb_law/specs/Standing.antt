-- Where a run stands by its lines: what is given and not answered, who is in a transaction, whose outcome is not told.
use Rattle.std.specs.Prelude.{ℕ, ◌==◌, Bool, true, false, not, ◌&&◌, if◌then◌else◌, List, [], ◌∷◌, ◌++◌, filter, Option, Some, None}
use Rattle.std.specs.List.{list_any}
use Rattle.hb_types.specs.declared.names.Owner.{Owner}
use Rattle.hb_model.specs.declared.line.Line.{Line}
use Rattle.hb_model.specs.declared.reply.Reply.{Reply}
use Rattle.hb_model.specs.declared.reply.Reply.TheVariants as reply
use Rattle.hb_model.specs.declared.line.Work.{Work}
use Rattle.hb_model.specs.declared.line.Work.TheVariants as work

-- ---- kinds of replies

-- a reply that ends no statement
abbrev pub is_passing : Reply → Bool
is_passing reply.Given = true
is_passing (reply.Stepped k) = true
is_passing (reply.Waits edges) = true
is_passing (reply.Moved rows group number) = true
is_passing reply.NothingGiven = true
is_passing _ = false

-- a reply that leaves the session as it was
abbrev pub is_aside : Reply → Bool
is_aside reply.Busy = true
is_aside reply.InTransaction = true
is_aside reply.NoTransaction = true
is_aside reply.Full = true
is_aside _ = false

-- a reply to a statement that leaves its transaction open
abbrev pub leaves_open : Reply → Bool
leaves_open reply.Created = true
leaves_open reply.Added = true
leaves_open reply.Inserted = true
leaves_open (reply.Rows rows) = true
leaves_open (reply.Updated n) = true
leaves_open (reply.Deleted n) = true
leaves_open reply.Locked = true
leaves_open reply.NoTable = true
leaves_open reply.TableThere = true
leaves_open reply.NoColumn = true
leaves_open reply.ColumnTwice = true
leaves_open reply.KeyFixed = true
leaves_open reply.WrongType = true
leaves_open reply.Overflow = true
leaves_open reply.TooLong = true
leaves_open reply.KeyTaken = true
leaves_open reply.AreaThere = true
leaves_open reply.NoArea = true
leaves_open reply.NoNode = true
leaves_open reply.TooMany = true
leaves_open reply.Rebalancing = true
leaves_open reply.TooMuch = true
leaves_open _ = false

-- ---- where a run stands

-- statements given and not answered yet, by session; sessions that are in a transaction; and owners whose outcome is not told
pub record Standing : Type 0 where
  pub given : List (ℕ × Work)
  pub open_in : List ℕ
  pub unknown : List Owner

abbrev pub at_start : Standing
at_start = record { given = []; open_in = []; unknown = [] }

abbrev pub is_at : ℕ → ℕ × Work → Bool
is_at session g = g.0 == session

abbrev pub has_given : Standing → ℕ → Bool
has_given s session = list_any (is_at session) s.given

abbrev pub is_open_in : Standing → ℕ → Bool
is_open_in s session = list_any (λ n. n == session) s.open_in

-- the list without the first item that passes, or without the second
abbrev pub without_first : {A : Type 0} → (A → Bool) → List A → List A
without_first p [] = []
without_first p (x ∷ xs) = if p x then xs else x ∷ without_first p xs

abbrev pub without_second : {A : Type 0} → (A → Bool) → List A → List A
without_second p [] = []
without_second p (x ∷ xs) = if p x then x ∷ without_first p xs else x ∷ without_second p xs

abbrev pub is_rebalance : Option Work → Bool
is_rebalance (Some (work.Rebalance table rows turns)) = true
is_rebalance _ = false

-- the sessions in a transaction once a statement was answered
abbrev pub opened_by : List ℕ → ℕ → Bool → List ℕ
opened_by open_in session open_now = if open_now then session ∷ filter (λ n. not (n == session)) open_in else filter (λ n. not (n == session)) open_in

abbrev pub answered : Standing → ℕ → Line → Standing
answered s session l =
    if is_passing l.reply then s
    else (if is_busy l.reply then record s { given = without_second (is_at session) s.given }
    else (if is_aside l.reply then record s { given = without_first (is_at session) s.given }
    else record s { given = without_first (is_at session) s.given; open_in = opened_by s.open_in session (leaves_open l.reply && not (is_rebalance l.work)) }))
  where
    is_busy : Reply → Bool
    is_busy reply.Busy = true
    is_busy _ = false

abbrev pub same_owner : Owner → Owner → Bool
same_owner o p = (o.session == p.session) && (o.nth == p.nth)

-- the outcomes that are not told yet, after a line
abbrev pub untold : List Owner → Reply → List Owner
untold owners (reply.OutcomeUnknown o) = owners ++ o ∷ []
untold owners (reply.ToldCommitted o number) = filter (λ p. not (same_owner o p)) owners
untold owners (reply.ToldRolledBack o) = filter (λ p. not (same_owner o p)) owners
untold owners _ = owners

abbrev pub after_line : Standing → Line → Standing
after_line s l = record (by_session s l.session) { unknown = untold s.unknown l.reply }
  where
    by_session : Standing → Option ℕ → Standing
    by_session s None = s
    by_session s (Some session) = answered s session l

abbrev pub after_lines : Standing → List Line → Standing
after_lines s [] = s
after_lines s (l ∷ ls) = after_lines (after_line s l) ls
