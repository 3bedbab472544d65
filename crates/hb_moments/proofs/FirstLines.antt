-- A history with the first of its lines alone: up to each of them it is the whole.
use Rattle.std.proofs.Common.{◌≡◌, ◌∙◌, ℕ, zero, suc, List, [], ◌∷◌, ◌++◌, ap, append_assoc, refl, subst, sym}
use Rattle.hb_types.specs.declared.trail.TrailEntry.{TrailEntry}
use Rattle.hb_types.specs.Lists.{IsIn}
use Rattle.hb_model.specs.declared.reply.Reply.{Reply}
use Rattle.hb_model.specs.Items.{Doing, sql, tending, turn}
use Rattle.hb_disks.specs.Images.{Logs}
use Rattle.hb_law.specs.Histories.{Event, calls, gives, shows}
use Rattle.hb_law.specs.Moments.{with_first_lines}
use Rattle.hb_law.specs.Ordered.{BeginsAt, InOrder, IsLineOf}
use Rattle.hb_law.specs.ShownEnds.{IsDecidedAs}
use Rattle.hb_law.specs.Transactions.{Txn, caller_of}
use Rattle.hb_intime.proofs.Lines.{line_is}
use Rattle.hb_parts.specs.Moments.{BeginsAs}

-- ---- up to a line

abbrev UpTo : List Event → List Event → Event → Type 0
UpTo h front e = (rest : List Event) × (h ≡ front ++ e ∷ rest)

heads : (x y : Event) (xs ys : List Event) → x ∷ xs ≡ y ∷ ys → (x ≡ y) × (xs ≡ ys)
heads x y xs ys e = (cc, cc)

nil_is : (front : List Event) (e : Event) (back : List Event) → [] ≡ front ++ e ∷ back → ⊥
nil_is [] e back q = cc
nil_is (f ∷ fs) e back q = cc

gives_shows : (c p d q : ℕ) (r : Reply) → gives c p ≡ shows d q r → ⊥
gives_shows c p d q r e = cc

module _ (d q : ℕ) (r : Reply) where
  -- an event that is kept
  longer : (x : Event) (h kept front back : List Event) → x ∷ kept ≡ front ++ shows d q r ∷ back
      → ((front back : List Event) → kept ≡ front ++ shows d q r ∷ back → UpTo h front (shows d q r)) → UpTo (x ∷ h) front (shows d q r)
  longer x h kept [] back e rest = (h, ap (λ z. z ∷ h) (heads x (shows d q r) kept back e).0)
  longer x h kept (f ∷ fs) back e rest =
      let k = heads x f kept (fs ++ shows d q r ∷ back) e in
      let y = rest fs back k.1 in
      (y.0, ap (λ l. x ∷ l) y.1 ∙ ap (λ z. z ∷ (fs ++ shows d q r ∷ y.0)) k.0)

  -- an event that is no line
  past : (x : Event) (kept front back : List Event) → (x ≡ shows d q r → ⊥) → x ∷ kept ≡ front ++ shows d q r ∷ back
      → ((front : List Event) → kept ≡ front ++ shows d q r ∷ back → ⊥) → ⊥
  past x kept [] back differs e rest = differs (heads x (shows d q r) kept back e).0
  past x kept (f ∷ fs) back differs e rest = rest fs (heads x f kept (fs ++ shows d q r ∷ back) e).1

  calls_shows : (c n : ℕ) (entry : TrailEntry) → calls c n entry ≡ shows d q r → ⊥
  calls_shows c n entry e = cc

  -- none is shown behind the last of them
  none_left : (h front back : List Event) → with_first_lines zero h ≡ front ++ shows d q r ∷ back → ⊥
  none_left [] front back e = nil_is front (shows d q r) back e
  none_left (shows c p s ∷ es) front back e = none_left es front back e
  none_left (gives c p ∷ es) front back e = past (gives c p) (with_first_lines zero es) front back (gives_shows c p d q r) e (λ f k. none_left es f back k)
  none_left (calls c n entry ∷ es) front back e = past (calls c n entry) (with_first_lines zero es) front back (calls_shows c n entry) e (λ f k. none_left es f back k)

  pub up_to : (n : ℕ) (h front back : List Event) → with_first_lines n h ≡ front ++ shows d q r ∷ back → UpTo h front (shows d q r)
  up_to zero h front back e = absurd (none_left h front back e)
  up_to (suc n) [] front back e = absurd (nil_is front (shows d q r) back e)
  up_to (suc n) (shows c p s ∷ es) front back e = longer (shows c p s) es (with_first_lines n es) front back e (λ f b k. up_to n es f b k)
  up_to (suc n) (gives c p ∷ es) front back e = longer (gives c p) es (with_first_lines (suc n) es) front back e (λ f b k. up_to (suc n) es f b k)
  up_to (suc n) (calls c m entry ∷ es) front back e = longer (calls c m entry) es (with_first_lines (suc n) es) front back e (λ f b k. up_to (suc n) es f b k)

pub up_to_line : (n c p : ℕ) (h front : List Event) (e : Event) (back : List Event) → IsLineOf c p e → with_first_lines n h ≡ front ++ e ∷ back → UpTo h front e
up_to_line n c p h front e back line k =
    let r = line_is c p e line in
    subst (UpTo h front) (sym r.1) (up_to c p r.0 n h front back (subst (λ z. with_first_lines n h ≡ front ++ z ∷ back) r.1 k))

-- ---- where a transaction counts as begun

-- it does so in the whole history too
abbrev BeginsIn : List Event → List Event → Event → ℕ → ℕ → ℕ → Doing → Type 0
BeginsIn h front e caller place n w = (back : List Event) × (h ≡ front ++ e ∷ back) × BeginsAt front e back caller place n w

begins_in : (m : ℕ) (h front : List Event) (e : Event) (back : List Event) (caller place n : ℕ) (w : Doing) → with_first_lines m h ≡ front ++ e ∷ back
    → BeginsAt front e back caller place n w → BeginsIn h front e caller place n w
begins_in m h front e back caller place n (turn table most) k b =
    let whole : with_first_lines m h ≡ (front ++ e ∷ b.0) ++ b.1 ∷ b.2 = k ∙ ap (λ l. front ++ e ∷ l) b.3 ∙ sym (append_assoc front (e ∷ b.0) (b.1 ∷ b.2)) in
    let y = up_to_line m caller place h (front ++ e ∷ b.0) b.1 b.2 b.4 whole in
    (b.0 ++ b.1 ∷ y.0, y.1 ∙ append_assoc front (e ∷ b.0) (b.1 ∷ y.0), (b.0, b.1, y.0, refl, b.4, b.5, b.6, b.7))
begins_in m h front e back caller place n (sql st) k b = let y = up_to_line m caller place h front e back b.0 k in (y.0, y.1, b)
begins_in m h front e back caller place n tending k b = let y = up_to_line m caller place h front e back b.0 k in (y.0, y.1, b)

pub in_order : (logs : Logs) (txns shorter : List Txn) (h : List Event) (m : ℕ) → ((t : Txn) → IsIn t shorter → (u : Txn) × IsIn u txns × BeginsAs t u)
    → InOrder logs txns h → InOrder logs shorter (with_first_lines m h)
in_order logs txns shorter h m begins ordered a b c shown e k n t i more parts shows_k known items dec begin =
    let u = begins t known in
    let j = u.2.first i more items in
    let y = begins_in m h (a ++ shown ∷ b) e c (caller_of t.owner) i.place n i.doing parts begin in
    let at_place : BeginsAt (a ++ shown ∷ b) e y.0 (caller_of u.0.owner) j.0.place n i.doing = subst (λ o. BeginsAt (a ++ shown ∷ b) e y.0 (caller_of o) j.0.place n i.doing) (sym u.2.owner)
    (subst (λ p. BeginsAt (a ++ shown ∷ b) e y.0 (caller_of t.owner) p n i.doing) (sym j.3) y.2) in
    ordered a b y.0 shown e k n u.0 j.0 j.1 y.1 shows_k u.1 j.2 (subst (λ x. IsDecidedAs logs x n) (sym u.2.tx) dec)
    (subst (λ w. BeginsAt (a ++ shown ∷ b) e y.0 (caller_of u.0.owner) j.0.place n w) (sym j.4) at_place)
