-- The ends of the definition's plans, and its refusals before any row is read.
use Rattle.std.proofs.Common.{◌≡◌, List, [], ◌∷◌, length, map, Option, Some, None, refl, sym}
use Rattle.std.specs.Prelude.{filter}
use Rattle.std.specs.Option.{option_or}
use Rattle.hb_types.specs.declared.change.Stored.{Stored}
use Rattle.hb_types.specs.declared.entry.Entry.{Entry}
use Rattle.hb_types.specs.declared.value.Value.{Value}
use Rattle.hb_types.specs.Groups.{target}
use Rattle.hb_model.specs.declared.condition.Pred.{Pred}
use Rattle.hb_model.specs.declared.reply.Reply.{Reply}
use Rattle.hb_model.specs.declared.reply.Reply.TheVariants as reply
use Rattle.hb_model.specs.declared.statement.Set.{Set}
use Rattle.hb_model.specs.declared.statement.What.{What}
use Rattle.hb_model.specs.declared.statement.What.TheVariants as what
use Rattle.hb_model.specs.declared.table.Table.{Table}
use Rattle.hb_model.specs.Refusals.{first_refusal, insert_refusals, select_refusals, update_refusals}
use Rattle.hb_model.specs.Rows.{key_of, chosen, chooses, shown, assigned, assigning_refusal, first_some}
use Rattle.hb_model.specs.Spots.{place_in}
use Rattle.hb_model.specs.Told.{Found}
use Rattle.hb_talk.specs.Talk.{Use, ◌>>◌, pure, refuse}
use Rattle.hb_talk.specs.Plans.{lying_rows, with_lying, putting, removing, writes}
use Rattle.hb_endings.specs.Endings.{End, ending_talk, unless, select_end, delete_end, update_end, insert_end}

-- a table without rows
pub bare : (t : Table) → t.rows ≡ [] → with_lying t [] ≡ t
bare t none = λ i. record t { rows = sym none i }

refuse_then : (o : Option Reply) (e : End) (u : Use) → (refuse o >> ending_talk e) u ≡ ending_talk (unless o e) u
refuse_then None e u = refl
refuse_then (Some r) e u = refl

pub select_tail : (f : Found) (w : What) (pred : Option Pred) (rows : List Stored) (u : Use) → (let t = with_lying f.1 (lying_rows rows) in
    refuse (first_refusal (select_refusals t w pred)) >> pure (reply.Rows (shown t w (chosen t pred)))) u
    ≡ ending_talk (select_end f.1 w pred rows) u
select_tail f w pred rows u = refuse_then _ _ u

pub delete_tail : (f : Found) (pred : Option Pred) (rows : List Stored) (u : Use) → (let t = with_lying f.1 (lying_rows rows) in
    refuse (first_refusal (select_refusals t what.All pred))
    >> (writes (map (λ l. removing l.0) (filter (λ l. chooses t pred l.1) (lying_rows rows))) >> pure (reply.Deleted (length (chosen t pred))))) u
    ≡ ending_talk (delete_end f.1 pred rows) u
delete_tail f pred rows u = refuse_then _ _ u

pub update_tail : (f : Found) (sets : List Set) (pred : Option Pred) (rows : List Stored) (u : Use) → (let t = with_lying f.1 (lying_rows rows) in
    refuse (option_or (first_refusal (update_refusals t sets pred)) (first_some (assigning_refusal t sets) (chosen t pred)))
    >> (writes (map (λ l. putting l.0 (assigned t sets l.1)) (filter (λ l. chooses t pred l.1) (lying_rows rows))) >> pure (reply.Updated (length (chosen t pred))))) u
    ≡ ending_talk (update_end f.1 sets pred rows) u
update_tail f sets pred rows u = refuse_then _ _ u

pub insert_tail : (f : Found) (values : List Value) (e : Entry) (rows : List Stored) (u : Use) → (
    refuse (first_refusal (insert_refusals (with_lying f.1 (lying_rows rows)) values))
    >> (writes (putting (place_in (target e) f.0 (key_of f.1 values)) values ∷ []) >> pure reply.Inserted)) u
    ≡ ending_talk (insert_end f values e rows) u
insert_tail f values e rows u = refuse_then _ _ u
