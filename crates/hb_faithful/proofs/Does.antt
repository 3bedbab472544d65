-- Each plain statement's plan does what the statement does.
use Rattle.std.proofs.Common.{◌≡◌, ℕ, ◌≤◌, List, [], ◌∷◌, length, true, refl, arith}
use Rattle.std.specs.Prelude.{◌&&◌, IsTrue, nat_le}
use Rattle.std.specs.List.{list_all}
use Rattle.std.proofs.lemmas.Bool.{and_parts, leb-true}
use Rattle.hb_types.specs.declared.value.Column.{Column}
use Rattle.hb_types.specs.Lists.{Each}
use Rattle.hb_model.specs.declared.statement.Statement.{Statement}
use Rattle.hb_model.specs.declared.statement.Statement.TheVariants as statement
use Rattle.hb_model.specs.Plain.{has_members, is_plain}
use Rattle.hb_model.specs.Valid.{IsName, is_name}
use Rattle.hb_model.specs.declared.reply.Reply.TheVariants as reply
use Rattle.hb_model.specs.Does.{effect}
use Rattle.hb_model.specs.Families.{Family}
use Rattle.hb_model.specs.Needs.{locks_of}
use Rattle.hb_model.specs.State.{State}
use Rattle.hb_model.specs.System.{Sys}
use Rattle.hb_talk.specs.PlansDefine.{plan}
use Rattle.hb_talk.specs.Talk.{Use}
use Rattle.hb_plancalc.specs.Counted.{IsWithin}
use Rattle.hb_plancalc.proofs.Comes.{Plans}
use Rattle.hb_planlaws.specs.Planned.{PlanDoes, most_back_ends}
use Rattle.hb_planlaws.proofs.Ends.{Ended, ends_does, ends_done, start}
use Rattle.hb_planlaws.proofs.LockPlan.{lock_table_rightly}
use Rattle.hb_planwrites.proofs.DeletePlan.{delete_rightly}
use Rattle.hb_planwrites.proofs.InsertPlan.{insert_rightly}
use Rattle.hb_planwrites.proofs.SelectRows.{select_rightly}
use Rattle.hb_planupdate.proofs.UpdatePlan.{update_rightly}
use Rattle.hb_planareas.proofs.AreaPlan.{create_area_rightly}
use Rattle.hb_plantables.proofs.TablePlan.{create_table_rightly}
use Rattle.hb_planadds.proofs.AddPlan.{add_area_rightly}

each_named : (columns : List Column) → list_all (λ c. is_name c.name) columns ≡ true → Each (λ c. IsName c.name) columns
each_named [] h = tt
each_named (c ∷ cs) h = let b = and_parts (is_name c.name) (list_all (λ c. is_name c.name) cs) h in (b.0, each_named cs b.1)

-- ROLLBACK and COMMIT have no plan but their reply
rollback_comes : (back_ends : ℕ) (u : Use) (family : Family) (s : State) → back_ends ≤ most_back_ends → IsWithin u → Sys back_ends family s
    → Plans (plan back_ends statement.Rollback) u (start family u) (λ z r v. Ended back_ends u statement.Rollback family s z r) (λ z e v. Ended back_ends u statement.Rollback family s z e)
unfolding plan effect
rollback_comes back_ends u family s few within sys =
    let none : locks_of s statement.Rollback ≡ 0 = refl in
    ends_done back_ends u statement.Rollback family s u.locks reply.RolledBack refl refl within.bytes within.locks (omega (arith, none))

commit_comes : (back_ends : ℕ) (u : Use) (family : Family) (s : State) → back_ends ≤ most_back_ends → IsWithin u → Sys back_ends family s
    → Plans (plan back_ends statement.Commit) u (start family u) (λ z r v. Ended back_ends u statement.Commit family s z r) (λ z e v. Ended back_ends u statement.Commit family s z e)
unfolding plan effect
commit_comes back_ends u family s few within sys =
    let none : locks_of s statement.Commit ≡ 0 = refl in
    ends_done back_ends u statement.Commit family s u.locks reply.RolledBack refl refl within.bytes within.locks (omega (arith, none))

pub plan_does : (st : Statement) → IsTrue (is_plain st) → PlanDoes st
plan_does (statement.CreateArea name node) h = create_area_rightly name node (and_parts (is_name name) (is_name node) h).0
plan_does (statement.CreateTable name columns key areas) h =
    let a = and_parts (is_name name) ((has_members columns && list_all (λ c. is_name c.name) columns) && (is_name key && (has_members areas && list_all is_name areas))) h in
    let b = and_parts (has_members columns && list_all (λ c. is_name c.name) columns) (is_name key && (has_members areas && list_all is_name areas)) a.1 in
    let c = and_parts (has_members columns) (list_all (λ c. is_name c.name) columns) b.0 in
    let d = and_parts (is_name key) (has_members areas && list_all is_name areas) b.1 in
    let e = and_parts (has_members areas) (list_all is_name areas) d.1 in
    let f = and_parts (nat_le 1 (length areas)) (nat_le (length areas) 512) e.0 in
    create_table_rightly name columns key areas a.0 (each_named columns c.1) (leb-true 1 (length areas) f.0)
plan_does (statement.AddArea table area) h = add_area_rightly table area
plan_does (statement.Insert table values) h = insert_rightly table values
plan_does (statement.Select w table pred) h = select_rightly w table pred
plan_does (statement.Update table sets pred) h = update_rightly table sets pred
plan_does (statement.Delete table pred) h = delete_rightly table pred
plan_does (statement.LockTable table exclusive) h = lock_table_rightly table exclusive
plan_does statement.Commit h = ends_does statement.Commit commit_comes
plan_does statement.Rollback h = ends_does statement.Rollback rollback_comes
