-- An area more: the table and the area, once they were found.
use Rattle.std.proofs.Common.{◌≡◌, ℕ, true≢false, List, [], ◌∷◌, Option, Some, None, Result, Err, IfOk, refl, ap, sym, ◌∙◌, subst}
use Rattle.std.specs.Prelude.{filter_map, is_some, option_map, unwrap_or}
use Rattle.hb_types.specs.declared.change.Stored.{Stored}
use Rattle.hb_types.specs.declared.lock.Mode.TheVariants as mode
use Rattle.hb_model.specs.declared.reply.Reply.{Reply}
use Rattle.hb_model.specs.declared.reply.Reply.TheVariants as reply
use Rattle.hb_model.specs.Spots.{ds, dictionary_space, areas_space, members_space}
use Rattle.hb_types.specs.declared.memory.NoMemory.{NoMemory}
use Rattle.hb_model.specs.Define.{create_area_refusals, new_area}
use Rattle.hb_model.specs.Dictionary.{area_row, at_place}
use Rattle.hb_model.specs.Names.{back_end_named}
use Rattle.hb_model.specs.Refusals.{first_refusal}
use Rattle.hb_model.specs.State.{Area, area_named, nothing}
use Rattle.hb_model.specs.Told.{Found, table_among}
use Rattle.hb_talk.specs.Talk.{Talk, says, Use, Planning, ◌>>=◌, ◌>>◌, scan_group}
use Rattle.hb_talk.specs.Plans.{some_or}
use Rattle.hb_talk.specs.PlansDefine.{areas, with_areas, lock_group, put_row, spreading, member_of}
use Rattle.hb_access.specs.declared.goal.Goal.{Goal}
use Rattle.hb_access.specs.Accesses.{Ended, locked}
use Rattle.hb_writes.specs.Writings.{Replied}
use Rattle.hb_definerows.specs.DefineRows.{state_told}
use Rattle.hb_plandefine.specs.declared.stage.Then.TheVariants as then
use Rattle.hb_plandefine.specs.declared.stage.Went.{Went}
use Rattle.hb_plandefine.specs.Defines.{Goes, area_beside, area_found, follows, out_of, member_beside, numbered, table_found}
use Rattle.hb_plandefine.proofs.Asking.{asks_group, follow, goes_on_if_ok, group_goal}

pub found_named : (rows : List Stored) (table : List ℕ) (f : Found) (area : List ℕ) (u : Use) → table_among rows table ≡ Some f
    → table_found table area rows u ≡ (areas mode.S >>= area_found (numbered f.0) area) u
found_named rows table f area u is = ap (λ (o : Option Found). (some_or reply.NoTable o >>= (λ g. areas mode.S >>= area_found g area)) u) is

pub no_table : (rows : List Stored) (table area : List ℕ) (u : Use) → table_among rows table ≡ None → table_found table area rows u ≡ says (Err reply.NoTable, u)
no_table rows table area u is = ap (λ (o : Option Found). (some_or reply.NoTable o >>= (λ g. areas mode.S >>= area_found g area)) u) is

-- what follows, by the area that was found
abbrev by_area : ℕ → Use → Option Area → Talk Replied
by_area n u area = (some_or reply.NoArea area >> (lock_group members_space n >> (scan_group ds (dictionary_space members_space) n >>= spreading (numbered n) area))) u

abbrev known : List ℕ → List Stored → Option Area
known name rows = area_named (with_areas nothing rows) name

pub no_area : (n : ℕ) (name : List ℕ) (rows : List Stored) (u : Use) (o : Option ℕ) → o ≡ option_map (λ (a : Area). a.number) (known name rows) → o ≡ None
    → area_found (numbered n) name rows u ≡ says (Err reply.NoArea, u)
no_area n name rows u o is none = by_case (known name rows) (sym is ∙ none)
  where
    by_case : (a : Option Area) → option_map (λ (b : Area). b.number) a ≡ None → by_area n u a ≡ says (Err reply.NoArea, u)
    by_case None e = refl
    by_case (Some a) e = absurd (true≢false (ap (λ (p : Option ℕ). is_some p) e))

spreading_is : (n : ℕ) (a : Area) (number : ℕ) → a.number ≡ number → (rows : List Stored) (v : Use)
    → spreading (numbered n) (Some a) rows v ≡ member_beside n number (filter_map member_of rows) v
spreading_is n a number is rows v = ap (λ (k : ℕ). member_beside n k (filter_map member_of rows) v) is

pub asks_members : (n : ℕ) (name : List ℕ) (rows : List Stored) (u : Use) (number : ℕ) (o : Option ℕ) → o ≡ option_map (λ (a : Area). a.number) (known name rows) → o ≡ Some number
    → (g : Goal) (now : Talk Ended) → g ≡ group_goal 3 n → now ≡ locked g u → area_found (numbered n) name rows u ≡ follow (follows (then.Members n number)) now
asks_members n name rows u number o is some g now same talk = by_case (known name rows) (sym is ∙ some)
  where
    by_case : (a : Option Area) → option_map (λ (b : Area). b.number) a ≡ Some number → by_area n u a ≡ follow (follows (then.Members n number)) now
    by_case None e = absurd (true≢false (sym (ap (λ (p : Option ℕ). is_some p) e)))
    by_case (Some a) e =
        let at : a.number ≡ number = cc in
        asks_group 3 n (spreading (numbered n) (Some a)) (follows (then.Members n number)) (λ rows v. spreading_is n a number at rows v) g u now same talk

-- ---- a new area

abbrev area_put : List Area → List ℕ → ℕ → Planning Reply
area_put others name b = let area = new_area (state_told [] others) name b in out_of (put_row (at_place areas_space 0 area.number (area_row area)) ∷ []) reply.Created

-- an area that is not refused is that of the back end of its node
pub area_goes : (back_ends : ℕ) (name node : List ℕ) (others : List Area) (b : ℕ) (u : Use) (r : Result Went NoMemory)
    → first_refusal (create_area_refusals back_ends (state_told [] others) name node) ≡ None → back_end_named back_ends node ≡ Some b
    → IfOk r (Goes (area_put others name b u)) → IfOk r (Goes (area_beside back_ends name node others u))
area_goes back_ends name node others b u r free named goes =
    let at : unwrap_or (back_end_named back_ends node) 0 ≡ b = ap (λ (o : Option ℕ). unwrap_or o 0) named in
    goes_on_if_ok (first_refusal (create_area_refusals back_ends (state_told [] others) name node)) (area_put others name (unwrap_or (back_end_named back_ends node) 0)) u r free
    (subst (λ (n : ℕ). IfOk r (Goes (area_put others name n u))) (sym at) goes)
