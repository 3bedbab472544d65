-- A front end over an empty disk.
use Rattle.std.proofs.Common.{◌≡◌, ◌≢◌, ◌↔◌, ℕ, Bool, true, false, [], if◌then◌else◌, is_some, length, nat_lt, Option, refl, ap, sym, subst, arith}
use Rattle.hb_edge.specs.Images.{Image}
use Rattle.hb_types.specs.Logs.{gate, readable, Records}
use Rattle.hb_coord.specs.Standing.{IsLog}
use Rattle.hb_system.specs.Making.{IsFresh}

-- ---- an empty image

same_both : (b : Bool) → ◌≡◌ {A = Image} (if b then [] else []) []
same_both true = refl
same_both false = refl

gate_closed : (image : Image) → image ≡ [] → gate image 0 ≢ 1
gate_closed image none opened = absurd (omega (arith, ap (λ (i : Image). gate i 0) (sym none), opened))

pub no_records : Records [] 0 []
no_records = gate_closed (readable []) (same_both (nat_lt (length {A = ℕ} []) 7))

pub empty_log : IsLog [] []
empty_log = record { has_items = ([], no_records, refl); own = tt }

-- ---- an empty disk

module _ {D : Type 0} (content : D → Option Image) (left : D → ℕ → Image → Type 0) (last : D → ℕ) (d : D) (fresh : IsFresh content left last d) where
  pub fresh_told : is_some (content d) ≡ true
  fresh_told = ap (λ (o : Option Image). is_some o) fresh.empty

  pub fresh_each : (P : Image → Type 0) → P [] → (image : Image) → left d (last d) image → P image
  fresh_each P p image l = subst P (sym (fresh.stays (last d) image (omega arith) l)) p

-- ---- a front end's log

pub log_of : (A B : Type 0) → A ↔ B → (B × (◌≡◌ {A = Image} [] [])) ↔ A
log_of A B both = (λ l. both.1 l.0, λ l. (both.0 l, refl))
