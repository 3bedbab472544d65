-- What is still to be said behind a turn makes up the talk of the line.
use Rattle.std.proofs.Common.{◌≡◌, ◌⊎◌, inl, inr, ℕ, zero, suc, ◌+◌, true, false, List, [], ◌∷◌, Ok, Err, refl, sym, ap, subst, ◌∙◌, arith}
use Rattle.std.proofs.Math.Nat.{suc-ne-zero}
use Rattle.hb_model.specs.declared.reply.Reply.{Reply}
use Rattle.hb_model.specs.Shapes.{Hint as Group}
use Rattle.hb_talk.specs.Moves.{Mover, Checked, Turned, again, onward, over, after_check, after_turn, check, moving, shown_before, turn_on, turning}
use Rattle.hb_talk.specs.Sessions.{with_reply}
use Rattle.hb_talk.specs.Talk.{Talk, says, asks, going_on}
use Rattle.hb_access.proofs.Sequences.{going_assoc, going_same}
use Rattle.hb_turn.specs.Turning.{Outcome, of_check, of_turned, told}
use Rattle.hb_mover.specs.Moving.{after_outcome}

-- a talk that is told by its outcome, and what follows
told_on : {A B : Type 0} (t : Talk A) (f : A → Outcome) (k : Outcome → Talk B) (g : A → Talk B) → ((a : A) → k (f a) ≡ g a) → going_on k (told f t) ≡ going_on g t
told_on t f k g is = going_assoc t (λ x. says (f x)) k ∙ going_same t (λ x. k (f x)) g is

going_says : {A : Type 0} (t : Talk A) → going_on says t ≡ t
going_says (says a) = refl
going_says (asks node q k) = λ i. asks node q (λ a. going_says (k a) i)

pub shown_none : (t : Talk (List Reply)) → shown_before [] t ≡ t
shown_none t = going_says t

pub shown_one : (r : Reply) (t : Talk (List Reply)) → shown_before (r ∷ []) t ≡ with_reply r t
shown_one r t = refl

cons_nil : {A : Type 0} (x : A) (xs : List A) → x ∷ xs ≡ [] → ⊥
cons_nil {A} x xs is = subst holds is tt
  where
    holds : List A → Type 0
    holds [] = ⊥
    holds (y ∷ ys) = Unit {0}

two_more : (nth : ℕ) → nth + 2 ≡ nth + 1 + 1
two_more nth = omega arith

-- a check is next
pub checks : (m : Mover) (left nth : ℕ) (hs : List Group) → (left ≡ 0) ⊎ (hs ≡ [])
    → going_on (after_outcome m left (nth + 1) hs) (told of_check (check m nth)) ≡ moving m left nth hs
unfolding moving
checks m zero nth hs is = told_on (check m nth) of_check (after_outcome m zero (nth + 1) hs) (after_check m (λ hs. says []) true) by
  where
    by : (c : Checked) → after_outcome m zero (nth + 1) hs (of_check c) ≡ after_check m (λ hs. says []) true c
    by (Err r) = refl
    by (Ok ([], number)) = refl
    by (Ok (h ∷ hs, number)) = refl
checks m (suc left) nth [] is = told_on (check m nth) of_check (after_outcome m (suc left) (nth + 1) []) (after_check m (turning m (nth + 1) (moving m left (nth + 2))) false) by
  where
    by : (c : Checked) → after_outcome m (suc left) (nth + 1) [] (of_check c) ≡ after_check m (turning m (nth + 1) (moving m left (nth + 2))) false c
    by (Err r) = refl
    by (Ok ([], number)) = refl
    by (Ok (h ∷ hs, number)) = ap (λ n. turning m (nth + 1) (moving m left n) (h ∷ hs)) (sym (two_more nth))
checks m (suc left) nth (h ∷ hs) (inl is) = absurd (suc-ne-zero left is)
checks m (suc left) nth (h ∷ hs) (inr is) = absurd (cons_nil h hs is)

-- a turn on the group that stands first is next
pub turns : (m : Mover) (left nth : ℕ) (h : Group) (hs : List Group)
    → going_on (after_outcome m left (nth + 1) (h ∷ hs)) (told of_turned (turn_on m nth h)) ≡ moving m (suc left) nth (h ∷ hs)
unfolding moving
turns m left nth h hs = told_on (turn_on m nth h) of_turned (after_outcome m left (nth + 1) (h ∷ hs)) (after_turn (moving m left (nth + 1)) h hs) by
  where
    by : (t : Turned) → after_outcome m left (nth + 1) (h ∷ hs) (of_turned t) ≡ after_turn (moving m left (nth + 1)) h hs t
    by (again rs) = refl
    by onward = refl
    by (over r) = refl
