-- What an opening found of the disks, and what its nodes are then.
use Rattle.std.proofs.Common.{◌≡◌, ℕ, ◌<◌, ◌++◌, true, List, [], length, get_or, map, All, ap, sym, subst, ◌∙◌, arith}
use Rattle.std.proofs.lemmas.List.{append-nil, get_or-map, length-map, nil_from_length}
use Rattle.hb_reach.specs.Names.{AreNumbered}
use Rattle.std.specs.Prelude.{◌↔◌, Option, Some, None, IfSome, is_some, Result, Ok, Err, IfErr, IfOk, OnOk}
use Rattle.std.proofs.lemmas.List.Elements.{AllZip-get_or, length_all_zip}
use Rattle.hb_edge.specs.Images.{Image}
use Rattle.hb_edge.specs.Stops.{Only}
use Rattle.hb_system.specs.Disks.{AreKept, IsKept, IsSettled, IsEmpty}
use Rattle.hb_system.specs.Making.{IsReadyAt, IsMade, origin_of}
use Rattle.hb_model.specs.declared.line.Line.{Line}
use Rattle.hb_system.specs.declared.refusal.Refusal.{Refusal}
use Rattle.hb_system.specs.declared.refusal.Refusal.TheVariants as refusal
use Rattle.hb_system.specs.Opening.{AreDisks, IsCause, IsOpen, IsRefused, IsTold, status_of}
use Rattle.hb_reach.specs.Told.{Meanings}
use Rattle.hb_system.specs.Starting.{Starts}

fresh_by : (o was : Option Image) (left : ℕ → Image → Type 0) (l : ℕ) → o ≡ was → is_some was ≡ true → IfSome o (λ b. b ≡ []) → IfSome o (Only left l) → (o ≡ Some []) × Only left l []
fresh_by None was left l same told empty only = cc
fresh_by (Some b) was left l same told empty only = (ap (λ (x : Image). Some x) empty, subst (λ (x : Image). Only left l x) empty only)

module _ {D : Type 0} (content : D → Option Image) (left : D → ℕ → Image → Type 0) (last faults : D → ℕ) (from to : ℕ) (old mid : List D) (kept : AreKept content last faults from to old mid) (empty : All (IsEmpty content) mid) where
  pub ready_by : All (IsSettled content left last) mid → All (IsTold content last from) old → All (IsReadyAt content left last to) mid
  ready_by settled told k d lt =
      let R = IsKept content faults in
      let within : k < length old = omega (arith, lt, length_all_zip R old mid kept.each) in
      let one = AllZip-get_or R old mid k d d kept.each within in
      let fresh = fresh_by (content (get_or mid k d)) (content (get_or old k d)) (left (get_or mid k d)) (last (get_or mid k d)) one.same (told k d within).0 (empty k d lt) (settled k d lt) in
      (record { empty = fresh.0; stays = fresh.1 }, kept.in_time (λ j e l. (told j e l).1) k d lt)

  pub empty_before : All (IsEmpty content) old
  empty_before k d lt =
      let R = IsKept content faults in
      let one = AllZip-get_or R old mid k d d kept.each lt in
      let P : Option Image → Type 0 = λ o. IfSome o (λ b. b ≡ []) in subst P one.same (empty k d (omega (arith, lt, length_all_zip R old mid kept.each)))

pub open_by : {N : Type 0} (told ready : Type 0) (m : Meanings N) (from to k : ℕ) (old new : N) → (told → ready) → IsMade ready m from k old → Starts m from to old new → IsOpen told m to k new
open_by told ready m from to k old new by made starts = record {
  named = starts.named ∙ made.named;
  asked_once = starts.asked_once made.none;
  lawful = λ is. starts.lawful made.none (origin_of k) (made.explained (by is)) (made.in_time (by is));
}

-- ---- a count of nodes, and their numbers

pub numbered_as : {N : Type 0} (named : N → ℕ) (olds news : List N) → map named news ≡ map named olds → AreNumbered named olds → AreNumbered named news
numbered_as {N} named olds news same are k d lt =
    let long : length news ≡ length olds = sym (length-map news named) ∙ ap length same ∙ length-map olds named in
    let within : k < length olds = omega (arith, lt, long) in
    sym (get_or-map named news k d 0 lt) ∙ ap (λ (ks : List ℕ). get_or ks k 0) same ∙ get_or-map named olds k d 0 within ∙ are k d within

-- all disks were taken
pub all_taken : {D : Type 0} (old taken left : List D) → old ≡ taken ++ left → length left ≡ 0 → old ≡ taken
all_taken {D} old taken left is none = is ∙ ap (λ (ds : List D). taken ++ ds) (nil_from_length left none) ∙ append-nil taken

-- ---- status 1

usage_of : {D : Type 0} (content : D → Option Image) (faults : D → ℕ) (old new : List D) (status : ℕ) (why : Refusal) → status ≡ status_of why → IsCause content faults old new why → (status ≡ 1) ↔ (AreDisks (length old) → ⊥)
usage_of content faults old new status refusal.Usage is cause = (λ e. cause, λ none. is)
usage_of content faults old new status refusal.Disk is cause = (λ e. absurd (omega (arith, e, is)), λ none. absurd (none cause.0))
usage_of content faults old new status (refusal.Damaged at) is cause = (λ e. absurd (omega (arith, e, is)), λ none. absurd (none cause.0))
usage_of content faults old new status refusal.Start is cause = (λ e. absurd (omega (arith, e, is)), λ none. absurd (none cause))
usage_of content faults old new status refusal.Memory is cause = (λ e. absurd (omega (arith, e, is)), λ none. absurd (none cause))

pub usage_by : {D : Type 0} (content : D → Option Image) (last faults : D → ℕ) (Failed : List D → List D → Type 0) (from to : ℕ) (old : List D) (status : ℕ) (told : Option Line) (new : List D)
    → IsRefused content last faults Failed from to old status told new → (status ≡ 1) ↔ (AreDisks (length old) → ⊥)
usage_by content last faults Failed from to old status told new is = usage_of content faults old new status is.why is.status_is is.cause

pub if_err : {T E : Type 0} {P Q : E → Type 0} (r : Result T E) → ((e : E) → P e → Q e) → IfErr r P → IfErr r Q
if_err (Ok t) by is = tt
if_err (Err e) by is = by e is

pub on_ok : {T E : Type 0} {P : T → Type 0} {X : Type 0} (r : Result T E) → ((t : T) → P t → X) → IfOk r P → OnOk r X
on_ok (Ok t) by is = by t is
on_ok (Err e) by is = tt
