-- The groups that move, one row after another.
use Rattle.std.proofs.Common.{◌≡◌, ℕ, ◌+◌, ◌<◌, ◌≤◌, List, [], ◌∷◌, ◌++◌, length, take, map, get_or, Option, Some, None, option_map, All, refl, ap, sym, ◌∙◌, subst, arith}
use Rattle.std.specs.Prelude.{pos, nat_abs, option_to_list, IfSome}
use Rattle.std.proofs.lemmas.Bool.Decides.{nat_tests}
use Rattle.std.proofs.lemmas.List.{append-nil, map-append}
use Rattle.std.proofs.lemmas.List.Elements.{All-append, All-cons, All-nil}
use Rattle.hb_types.specs.declared.change.Stored.{Stored}
use Rattle.hb_types.specs.declared.entry.Entry.{Entry}
use Rattle.hb_types.specs.declared.entry.Entry.TheVariants.{At, Moving as Between}
use Rattle.hb_model.specs.Told.{entry_of}
use Rattle.hb_talk.specs.Moves.{hint_in}
use Rattle.hb_types.specs.Places.{node_of_area}
use Rattle.hb_access.specs.Accesses.{IsServer}
use Rattle.hb_planrows.specs.PlanRows.{AreSited, IsSited, TellsEntry}
use Rattle.hb_definerows.proofs.Reading.{read_more}
use Rattle.hb_batch.specs.declared.hint.Hint.{Hint}
use Rattle.hb_batch.specs.Batches.{hint_of, IsSitedHint}
use Rattle.hb_moveplan.specs.MovePlans.{hint_by, hints_among, TellsGroup, TellGroups}

-- ---- one row

by_entry : (table : ℕ) (r : Stored) (e : Option Entry) → entry_of (Some r.row) ≡ e → hint_by table (nat_abs r.place.key) e ≡ hint_in table r
by_entry table r None is = rw is refl
by_entry table r (Some (At a)) is = rw is refl
by_entry table r (Some (Between a b)) is = rw is refl

-- the group of an entry's row, as the plan tells it
pub hint_told : (table group : ℕ) (r : Stored) (bytes : List ℕ) (e : Option Entry) (h : Option Hint) → bytes ≡ r.row → r.place.key ≡ pos group
    → (TellsEntry (Some bytes) → e ≡ entry_of (Some bytes)) → option_map hint_of h ≡ hint_by table group e → TellsEntry (Some r.row) → option_map hint_of h ≡ hint_in table r
hint_told table group r bytes e h same key told is tells =
    let entry : e ≡ entry_of (Some r.row) =
    subst (λ b. e ≡ entry_of (Some b)) same (told (subst (λ b. TellsEntry (Some b)) (sym same) tells)) in
    is ∙ ap (hint_by table group) entry ∙ ap (λ k. hint_by table (nat_abs k) (entry_of (Some r.row))) (sym key) ∙ by_entry table r (entry_of (Some r.row)) refl

-- no group's number is passed over
pub no_group : (r : Stored) → ((n : ℕ) → n ≤ 65535 → r.place.key ≡ pos n → ⊥) → TellsGroup r → ⊥
no_group r none tells = none tells.0 tells.1 tells.2

-- ---- areas

there : (area : ℕ) → IsSited area → IsServer (node_of_area area)
there area sited = (grind (arith, nat_tests), grind (arith, nat_tests))

pub hint_sited : (h : Hint) (e : Option Entry) → e ≡ Some (Between h.old h.new) → IfSome e AreSited → IsSitedHint h
hint_sited h e is sited = let both = subst (λ (o : Option Entry). IfSome o AreSited) is sited in (there h.old both.0, there h.new both.1)

-- ---- one row after another

one_more : (hs : List Hint) (o : Option Hint) → map hint_of (hs ++ option_to_list o) ≡ map hint_of hs ++ option_to_list (option_map hint_of o)
one_more hs None = map-append hint_of hs []
one_more hs (Some h) = map-append hint_of hs (h ∷ [])

both_tell : (rows : List Stored) → TellGroups rows → All (λ r. TellsEntry (Some r.row) × TellsGroup r) rows
both_tell rows tell i d lt = (tell.0 i d lt, tell.1 i d lt)

pub hints_step : (table : ℕ) (rows : List Stored) (i : ℕ) (r : Stored) (o : Option Hint) (hs new : List Hint)
    → r ≡ get_or rows i r → i < length rows → (TellsEntry (Some r.row) → TellsGroup r → option_map hint_of o ≡ hint_in table r)
    → (TellGroups rows → map hint_of hs ≡ hints_among table (take i rows)) → new ≡ hs ++ option_to_list o
    → TellGroups rows → map hint_of new ≡ hints_among table (take (i + 1) rows)
hints_step table rows i r o hs new is lt told before put tell =
    read_more (λ s. TellsEntry (Some s.row) × TellsGroup s) (hint_in table) rows i r (option_map hint_of o) (map hint_of hs) (map hint_of new) is lt
    (λ tells. told tells.0 tells.1) (λ _. before tell) (ap (map hint_of) put ∙ one_more hs o) (both_tell rows tell)

pub sited_step : (o : Option Hint) (hs new : List Hint) → IfSome o IsSitedHint → All IsSitedHint hs → new ≡ hs ++ option_to_list o → All IsSitedHint new
sited_step None hs new sited all put = subst (All IsSitedHint) (sym (put ∙ append-nil hs)) all
sited_step (Some h) hs new sited all put = subst (All IsSitedHint) (sym put) (All-append IsSitedHint hs (h ∷ []) all (All-cons IsSitedHint h [] sited (All-nil IsSitedHint)))
