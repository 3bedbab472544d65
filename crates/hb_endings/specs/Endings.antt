-- How a statement on a table ends, by the rows that it read.
use Rattle.std.specs.Prelude.{ℕ, List, [], ◌∷◌, length, map, filter, Option, Some, None}
use Rattle.std.specs.Option.{option_or}
use Rattle.hb_types.specs.declared.change.Change.{Change}
use Rattle.hb_types.specs.declared.change.Stored.{Stored}
use Rattle.hb_types.specs.declared.entry.Entry.{Entry}
use Rattle.hb_types.specs.declared.value.Value.{Value}
use Rattle.hb_types.specs.Groups.{target}
use Rattle.hb_types.specs.Lists.{Each}
use Rattle.hb_model.specs.declared.condition.Pred.{Pred}
use Rattle.hb_model.specs.declared.reply.Reply.{Reply}
use Rattle.hb_model.specs.declared.reply.Reply.TheVariants as reply
use Rattle.hb_model.specs.declared.statement.Set.{Set}
use Rattle.hb_model.specs.declared.statement.What.{What}
use Rattle.hb_model.specs.declared.statement.What.TheVariants as what
use Rattle.hb_model.specs.declared.table.Table.{Table}
use Rattle.hb_model.specs.Refusals.{first_refusal, insert_refusals, select_refusals, update_refusals}
use Rattle.hb_model.specs.Rows.{key_of, chosen, chooses, shown, assigned, assigning_refusal, first_some}
use Rattle.hb_model.specs.Spots.{place_in}
use Rattle.hb_model.specs.Told.{Found}
use Rattle.hb_talk.specs.Talk.{Planning, ◌>>◌, pure, refused}
use Rattle.hb_talk.specs.Plans.{Lying, lying_rows, with_lying, putting, removing, writes}
use Rattle.hb_writes.specs.Underway.{IsWrite}
use Rattle.hb_endings.specs.declared.ending.Ending.{Ending}
use Rattle.hb_endings.specs.declared.ending.Ending.TheVariants as ending

-- a refusal, a reply, or changes and then a reply
pub data End : Type 0 where
  refusal : Reply → End
  answer : Reply → End
  changing : List Change → Reply → End

-- what an end says
abbrev pub ending_talk : End → Planning Reply
ending_talk (refusal r) = refused r
ending_talk (answer r) = pure r
ending_talk (changing changes r) = writes changes >> pure r

-- an end, if nothing refuses it
abbrev pub unless : Option Reply → End → End
unless None e = e
unless (Some r) e = refusal r

-- ---- by the rows as they lie

abbrev pub selecting : Table → What → Option Pred → List Lying → End
selecting f w pred ls =
    let t = with_lying f ls in
    unless (first_refusal (select_refusals t w pred)) (answer (reply.Rows (shown t w (chosen t pred))))

abbrev pub deleting : Table → Option Pred → List Lying → End
deleting f pred ls =
    let t = with_lying f ls in
    unless (first_refusal (select_refusals t what.All pred))
    (changing (map (λ l. removing l.0) (filter (λ l. chooses t pred l.1) ls)) (reply.Deleted (length (chosen t pred))))

-- the changes of assignments at the chosen rows, if none is refused
abbrev pub assigning : Table → List Set → List Lying → End
assigning t sets found =
    unless (first_some (assigning_refusal t sets) (map (λ l. l.1) found))
    (changing (map (λ l. putting l.0 (assigned t sets l.1)) found) (reply.Updated (length found)))

abbrev pub updating : Table → List Set → Option Pred → List Lying → End
updating f sets pred ls =
    let t = with_lying f ls in
    unless (option_or (first_refusal (update_refusals t sets pred)) (first_some (assigning_refusal t sets) (chosen t pred)))
    (changing (map (λ l. putting l.0 (assigned t sets l.1)) (filter (λ l. chooses t pred l.1) ls)) (reply.Updated (length (chosen t pred))))

-- the change of an INSERT into a table with the rows of its key
abbrev pub inserted_at : ℕ → Table → List Value → Entry → End
inserted_at number t values e =
    unless (first_refusal (insert_refusals t values)) (changing (putting (place_in (target e) number (key_of t values)) values ∷ []) reply.Inserted)

abbrev pub inserting : Found → List Value → Entry → List Lying → End
inserting f values e ls = inserted_at f.0 (with_lying f.1 ls) values e

-- ---- by the rows as they were read

abbrev pub select_end : Table → What → Option Pred → List Stored → End
select_end t w pred rows = selecting t w pred (lying_rows rows)

abbrev pub delete_end : Table → Option Pred → List Stored → End
delete_end t pred rows = deleting t pred (lying_rows rows)

abbrev pub update_end : Table → List Set → Option Pred → List Stored → End
update_end t sets pred rows = updating t sets pred (lying_rows rows)

abbrev pub insert_end : Found → List Value → Entry → List Stored → End
insert_end f values e rows = inserting f values e (lying_rows rows)

-- ---- endings

abbrev pub told : Ending → End
told (ending.Refused r) = refusal r
told (ending.Replied r) = answer r
told (ending.Writes changes r) = changing changes.items r

-- its changes can be written
abbrev pub CanWrite : Ending → Type 0
CanWrite (ending.Refused r) = Unit {0}
CanWrite (ending.Replied r) = Unit {0}
CanWrite (ending.Writes changes r) = Each IsWrite changes.items
