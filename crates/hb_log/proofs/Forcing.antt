-- The four device calls of an append, one after another.
use Rattle.std.proofs.Common.{◌≡◌, inl, inr, ℕ, ◌+◌, ◌≤◌, max, List, length, sym, subst, arith}
use Rattle.hb_edge.specs.ImageLaws.{torn_undone}
use Rattle.hb_edge.specs.Images.{Image, Torn, Same, written}
use Rattle.hb_edge.specs.Moments.{tick}
use Rattle.hb_edge.specs.Runs.{Run, begins, call, knows}
use Rattle.hb_edge.specs.Stops.{Passes, Only}
use Rattle.hb_log.specs.Forced.{Forced}

abbrev Left : Type 1
Left = ℕ → Image → Type 0

module _ (gate : ℕ) (bytes s : List ℕ) (left0 : Left) (last0 clock0 : ℕ) (stands : (m : ℕ) (c : Image) → last0 ≤ m → left0 m c → left0 last0 c)
    (only : (c : Image) → left0 last0 c → c ≡ s) (in_time : last0 ≤ clock0) where
  abbrev staged : Image
  staged = written (gate + 1) bytes s

  abbrev Torn1 : Image → Type 0
  Torn1 c = Torn (gate + 1) (length bytes) s c

  abbrev Torn2 : Image → Type 0
  Torn2 c = Torn gate 1 staged c

  abbrev P : Image → Type 0
  P = Forced gate bytes s

  start : Run clock0 left0 left0 last0 clock0 (λ c. c ≡ s) P
  start = begins clock0 last0 left0 (λ c. c ≡ s) P stands in_time only (λ c is. inl (subst Torn1 (sym is) (torn_undone (gate + 1) (length bytes) s)))

  module _ (left1 : Left) (last1 clock1 : ℕ) (ticks1 : clock1 ≡ tick clock0) (is_last1 : last1 ≡ max last0 clock1) (passes1 : Passes (Torn (gate + 1) (length bytes)) clock1 last0 left0 left1) where
    pub one : Run clock0 left0 left1 last1 clock1 Torn1 P
    one = call clock0 last0 clock0 last1 clock1 _ left0 left0 left1 (λ c. c ≡ s) Torn1 P start ticks1 is_last1 passes1
        (λ d c is torn. subst (λ (f : Image). Torn (gate + 1) (length bytes) f c) is torn) (λ c torn. inl torn)

    module _ (left2 : Left) (last2 clock2 : ℕ) (ticks2 : clock2 ≡ tick clock1) (is_last2 : last2 ≡ max last1 clock2) (passes2 : Passes Same clock2 last1 left1 left2) where
      pub two : Run clock0 left0 left2 last2 clock2 Torn1 P
      two = call clock0 last1 clock1 last2 clock2 _ left0 left1 left2 Torn1 Torn1 P one ticks2 is_last2 passes2
          (λ d c torn same. subst Torn1 (sym same) torn) (λ c torn. inl torn)

      module _ (only2 : Only left2 (max last1 clock2) staged) (left3 : Left) (last3 clock3 : ℕ) (ticks3 : clock3 ≡ tick clock2) (is_last3 : last3 ≡ max last2 clock3) (passes3 : Passes (Torn gate 1) clock3 last2 left2 left3) where
        pub three : Run clock0 left0 left3 last3 clock3 Torn2 P
        three = call clock0 last2 clock2 last3 clock3 _ left0 left2 left3 (λ c. c ≡ staged) Torn2 P
            (knows clock0 last2 clock2 left0 left2 Torn1 (λ c. c ≡ staged) P two (λ c is. only2 last2 c (omega (arith, is_last2)) is)) ticks3 is_last3 passes3
            (λ d c is torn. subst (λ (f : Image). Torn gate 1 f c) is torn) (λ c torn. inr torn)

        module _ (left4 : Left) (last4 clock4 : ℕ) (ticks4 : clock4 ≡ tick clock3) (is_last4 : last4 ≡ max last3 clock4) (passes4 : Passes Same clock4 last3 left3 left4) where
          pub four : Run clock0 left0 left4 last4 clock4 Torn2 P
          four = call clock0 last3 clock3 last4 clock4 _ left0 left3 left4 Torn2 Torn2 P three ticks4 is_last4 passes4
              (λ d c torn same. subst Torn2 (sym same) torn) (λ c torn. inr torn)
