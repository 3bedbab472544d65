-- Items in time: each caller did its items one after another, and a line stands behind its item's calls.
use Rattle.std.specs.Prelude.{◌≡◌, ℕ, ◌==◌, Bool, true, false, not, if◌then◌else◌, List, [], ◌∷◌, ◌++◌, map, flat_map, filter, Some, slice_get, ⊤}
use Rattle.std.specs.Ordering.{nat_cmp}
use Rattle.hb_types.specs.declared.trail.Call.{Call}
use Rattle.hb_types.specs.Lists.{Ascends, EachBehind}
use Rattle.hb_model.specs.declared.reply.Reply.{Reply}
use Rattle.hb_model.specs.declared.reply.Reply.TheVariants as reply
use Rattle.hb_model.specs.Items.{Item, Doing, tending}
use Rattle.hb_law.specs.Histories.{Event, gives, calls, shows}

abbrev pub is_busy : Reply → Bool
is_busy reply.Busy = true
is_busy _ = false

-- what a caller did, call by call and line by line; BUSY is left out, which is shown while another work goes on
pub data Deed : Type 0 where
  asks : Call → Deed
  says : (place : ℕ) → Reply → Deed

-- an item's calls, and then its lines
abbrev pub deeds_of : Item → List Deed
deeds_of i = map asks i.calls ++ map (says i.place) (filter (λ r. not (is_busy r)) i.lines)

abbrev pub deeds_in : ℕ → List Event → List Deed
deeds_in caller [] = []
deeds_in caller (calls c n entry ∷ es) =
    if c == caller then asks (record { node = record { 0 = n }; request = entry.request; answer = entry.answer }) ∷ deeds_in caller es else deeds_in caller es
deeds_in caller (shows c p r ∷ es) = if c == caller then (if is_busy r then deeds_in caller es else says p r ∷ deeds_in caller es) else deeds_in caller es
deeds_in caller (e ∷ es) = deeds_in caller es

-- the places that were given to a caller
abbrev pub places_in : ℕ → List Event → List ℕ
places_in caller [] = []
places_in caller (gives c p ∷ es) = if c == caller then p ∷ places_in caller es else places_in caller es
places_in caller (e ∷ es) = places_in caller es

abbrev pub IsWork : Doing → Type 0
IsWork tending = ⊥
IsWork _ = ⊤

-- the work at this place was given before anything was done for it
abbrev pub WasGiven : ℕ → List Event → List Item → Item → Type 0
WasGiven caller h before i =
    (a : List Event) × (b : List Event) × (rest : List Deed) × (h ≡ a ++ gives caller i.place ∷ b) × (flat_map deeds_of before ≡ deeds_in caller a ++ rest)

-- each caller did its items one after another, each behind the giving of its work, and was given each work once
pub record InItsOrder (h : List Event) (lists : List (List Item)) : Type 0 where
  pub own : (caller : ℕ) (list : List Item) → slice_get lists caller ≡ Some list → deeds_in caller h ≡ flat_map deeds_of list
  pub given : (caller : ℕ) (list : List Item) → slice_get lists caller ≡ Some list → EachBehind (λ before i. IsWork i.doing → WasGiven caller h before i) [] list
  pub once : (caller : ℕ) (list : List Item) → slice_get lists caller ≡ Some list → Ascends nat_cmp (places_in caller h)
