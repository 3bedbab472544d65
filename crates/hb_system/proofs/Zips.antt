-- One disk of several is called.
use Rattle.std.proofs.Common.{◌≡◌, ℕ, zero, suc, ◌≤◌, ◌<◌, max, List, [], ◌∷◌, length, get_or, set, refl, ◌∙◌, sym, ap, subst, arith}
use Rattle.std.specs.Prelude.{Option, Some, None, IfSome, Result, Ok, Err, OnErr}
use Rattle.std.specs.List.{AllWithin, AllZip}
use Rattle.std.proofs.lemmas.List.Elements.{All-set, All-weaker, AllZip-get_or, length_all_zip}
use Rattle.hb_edge.specs.Causes.{Rose}
use Rattle.hb_edge.specs.Images.{Image, Same}
use Rattle.hb_edge.specs.Stops.{Only, Passes}
use Rattle.hb_system.specs.Disks.{AreKept, IsKept, IsInTime, HasFault}

pub got_set : {D : Type 0} (xs : List D) (i : ℕ) (v d : D) → i < length xs → get_or (set xs i v) i d ≡ v
got_set [] i v d h = absurd (omega (arith, h))
got_set (x ∷ xs) zero v d h = refl
got_set (x ∷ xs) (suc i) v d h = got_set xs i v d (omega arith)

pub got_below : {D : Type 0} (xs : List D) (i k : ℕ) (v d : D) → k < i → get_or (set xs i v) k d ≡ get_or xs k d
got_below [] i k v d h = refl
got_below (x ∷ xs) zero k v d h = absurd (omega (arith, h))
got_below (x ∷ xs) (suc i) zero v d h = refl
got_below (x ∷ xs) (suc i) (suc k) v d h = got_below xs i k v d (omega arith)

pub got_above : {D : Type 0} (xs : List D) (i k : ℕ) (v d : D) → i < k → get_or (set xs i v) k d ≡ get_or xs k d
got_above [] i k v d h = refl
got_above (x ∷ xs) i zero v d h = absurd (omega (arith, h))
got_above (x ∷ xs) zero (suc k) v d h = refl
got_above (x ∷ xs) (suc i) (suc k) v d h = got_above xs i k v d (omega arith)

pub within_kept : {D : Type 0} (P : D → Type 0) (xs : List D) (i : ℕ) (v : D) → AllWithin P xs 0 i → AllWithin P (set xs i v) 0 i
within_kept {D} P xs i v h k d low lt = subst P (sym (got_below xs i k v d lt)) (h k d low lt)

pub on_err : {T E : Type 0} {X : Type 0} (r : Result T E) → X → OnErr r X
on_err (Ok t) x = tt
on_err (Err e) x = x

-- ---- one disk

-- after a sync
pub settled_now : (was now : Option Image) (left : ℕ → Image → Type 0) (m l : ℕ) → now ≡ was → m ≡ l → IfSome was (Only left l) → IfSome now (Only left m)
settled_now was now left m l same is h = subst (λ (o : Option Image). IfSome o (Only left m)) (sym same) (subst (λ (x : ℕ). IfSome was (Only left x)) (sym is) h)

-- after a call that changes nothing
pub settled_still : (was now : Option Image) (left_was left_now : ℕ → Image → Type 0) (l m k : ℕ) → now ≡ was → m ≡ max l k → Passes Same k l left_was left_now → IfSome was (Only left_was l) → IfSome now (Only left_now m)
settled_still None now left_was left_now l m k same is passes h = subst (λ (o : Option Image). IfSome o (Only left_now m)) (sym same) tt
settled_still (Some bytes) now left_was left_now l m k same is passes h =
    subst (λ (o : Option Image). IfSome o (Only left_now m)) (sym same)
    (λ at image le left. let s = passes.since at image (omega (arith, is, le)) left in s.2 ∙ h l s.0 (omega arith) s.1)

pub written_by : (was now : Option Image) (n : ℕ) → now ≡ was → 0 < n → IfSome was (λ bytes. n ≡ length bytes) → IfSome now (λ bytes. bytes ≡ [] → ⊥)
written_by None now n same some h = subst (λ (o : Option Image). IfSome o (λ bytes. bytes ≡ [] → ⊥)) (sym same) tt
written_by (Some bytes) now n same some h =
    subst (λ (o : Option Image). IfSome o (λ b. b ≡ [] → ⊥)) (sym same) (λ none. omega (arith, some, h, ap (λ (b : Image). length b) none))

pub empty_by : (was now : Option Image) (n : ℕ) → now ≡ was → n ≤ 0 → IfSome was (λ bytes. n ≡ length bytes) → IfSome now (λ bytes. bytes ≡ [])
empty_by None now n same none h = subst (λ (o : Option Image). IfSome o (λ bytes. bytes ≡ [])) (sym same) tt
empty_by (Some []) now n same none h = subst (λ (o : Option Image). IfSome o (λ bytes. bytes ≡ [])) (sym same) refl
empty_by (Some (b ∷ bs)) now n same none h = absurd (omega (arith, none, h))

-- ---- several

module _ {D : Type 0} (R : D → D → Type 0) where
  pub zip_same : ((d : D) → R d d) → (xs : List D) → AllZip R xs xs
  zip_same own [] = tt
  zip_same own (x ∷ xs) = (own x, zip_same own xs)

  pub zip_set : ((a b c : D) → R a b → R b c → R a c) → (xs ys : List D) (i : ℕ) (v d : D) → AllZip R xs ys → i < length ys → R (get_or ys i d) v → AllZip R xs (set ys i v)
  zip_set on [] [] i v d h within r = tt
  zip_set on [] (y ∷ ys) i v d h within r = absurd h
  zip_set on (x ∷ xs) [] i v d h within r = absurd h
  zip_set on (x ∷ xs) (y ∷ ys) zero v d h within r = (on x y v h.0 r, h.1)
  zip_set on (x ∷ xs) (y ∷ ys) (suc i) v d h within r = (h.0, zip_set on xs ys i v d h.1 (omega arith) r)

  pub zip_on : ((a b c : D) → R a b → R b c → R a c) → (xs ys zs : List D) → AllZip R xs ys → AllZip R ys zs → AllZip R xs zs
  zip_on on [] [] [] h k = tt
  zip_on on [] [] (z ∷ zs) h k = absurd k
  zip_on on [] (y ∷ ys) zs h k = absurd h
  zip_on on (x ∷ xs) [] zs h k = absurd h
  zip_on on (x ∷ xs) (y ∷ ys) [] h k = absurd k
  zip_on on (x ∷ xs) (y ∷ ys) (z ∷ zs) h k = (on x y z h.0 k.0, zip_on on xs ys zs h.1 k.1)

module _ {D : Type 0} (content : D → Option Image) (last faults : D → ℕ) where
  on_from : (a b c : D) → IsKept content faults a b → IsKept content faults b c → IsKept content faults a c
  on_from a b c h k = record { same = k.same ∙ h.same; count = omega (arith, h.count, k.count) }

  pub kept_same : (moment : ℕ) (xs : List D) → AreKept content last faults moment moment xs xs
  kept_same moment xs = record { each = zip_same (IsKept content faults) (λ d. record { same = refl; count = omega arith }) xs; in_time = λ h. h; clock = omega arith }

  pub kept_on : (from mid to : ℕ) (xs ys zs : List D) → AreKept content last faults from mid xs ys → AreKept content last faults mid to ys zs → AreKept content last faults from to xs zs
  kept_on from mid to xs ys zs h k = record { each = zip_on (IsKept content faults) on_from xs ys zs h.each k.each; in_time = λ all. k.in_time (h.in_time all); clock = omega (arith, h.clock, k.clock) }

  pub kept_step : (from mid to : ℕ) (xs ys : List D) (i : ℕ) (now d : D) → AreKept content last faults from mid xs ys → i < length ys → content now ≡ content (get_or ys i d) → faults (get_or ys i d) ≤ faults now → mid ≤ to
      → (last (get_or ys i d) ≤ mid → last now ≤ to) → AreKept content last faults from to xs (set ys i now)
  kept_step from mid to xs ys i now d h within same count clock in_time = record {
    each = zip_set (IsKept content faults) on_from xs ys i now d h.each within (record { same = same; count = count });
    in_time = λ all. All-set (IsInTime last to) ys i now (in_time (h.in_time all i d within)) (All-weaker (IsInTime last mid) (IsInTime last to) (λ x le. omega (arith, le, clock)) ys (h.in_time all));
    clock = omega (arith, h.clock, clock);
  }

  rose_on : (a b c : ℕ) → a ≤ b → Rose b c → Rose a c
  rose_on a b c le rose = omega (arith, le, rose)

  pub fault_here : (from to : ℕ) (xs ys : List D) (i : ℕ) (now d : D) → AreKept content last faults from to xs ys → i < length xs → length ys ≡ length xs → Rose (faults (get_or ys i d)) (faults now) → HasFault faults xs (set ys i now)
  fault_here from to xs ys i now d h within long rose = (
    i,
    within,
    λ e. subst (λ (x : D). Rose (faults (get_or xs i e)) (faults x)) (sym (got_set ys i now e (omega (arith, within, long))))
        (rose_on (faults (get_or xs i e)) (faults (get_or ys i d)) (faults now) (AllZip-get_or (IsKept content faults) xs ys i e d h.each within).count rose),
  )

  pub fault_before : (xs ys zs : List D) → AllZip (IsKept content faults) ys zs → length ys ≡ length xs → HasFault faults xs ys → HasFault faults xs zs
  fault_before xs ys zs h long (k, within, rose) = (
    k,
    within,
    λ e. let later = AllZip-get_or (IsKept content faults) ys zs k e e h (omega (arith, within, long)) in omega (arith, rose e, later.count),
  )

  pub fault_behind : (xs ys zs : List D) → AllZip (IsKept content faults) xs ys → HasFault faults ys zs → HasFault faults xs zs
  fault_behind xs ys zs h (k, within, rose) = let lt : k < length xs = omega (arith, within, length_all_zip (IsKept content faults) xs ys h) in (
    k,
    lt,
    λ e. rose_on (faults (get_or xs k e)) (faults (get_or ys k e)) (faults (get_or zs k e)) (AllZip-get_or (IsKept content faults) xs ys k e e h lt).count (rose e),
  )
