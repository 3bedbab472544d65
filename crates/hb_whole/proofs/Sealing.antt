-- The device calls of a point, one after another.
use Rattle.std.proofs.Common.{◌≡◌, ◌⊎◌, inl, inr, ℕ, ◌+◌, ◌≤◌, max, Bool, true, false, List, [], ◌∷◌, length, drop, get_or, sym, ◌∙◌, ap, subst, arith, Some, None, Option}
use Rattle.std.specs.Prelude.{◌==◌, is_some}
use Rattle.std.proofs.lemmas.List.{get_or-take, get_or-drop}
use Rattle.hb_edge.specs.ImageLaws.{torn_written}
use Rattle.hb_edge.specs.Images.{Image, Torn, Same, written}
use Rattle.hb_edge.specs.Moments.{tick}
use Rattle.hb_edge.specs.Runs.{Run, begins, call, knows, started}
use Rattle.hb_edge.specs.Stops.{Passes, Only, Leaves}
use Rattle.hb_types.specs.Lists.{IsAt}
use Rattle.std.proofs.lemmas.Bool.{true≢false}
use Rattle.hb_types.proofs.PutLaws.{by_test}
use Rattle.hb_disks.specs.Points.{Point}
use Rattle.hb_disks.specs.WholeImage.{PointIs, header_bytes, is_open}
use Rattle.hb_whole.specs.declared.valid.Valid.{Valid}
use Rattle.hb_whole.specs.Kept.{AreKept, Avoids, Fits, IsReady, Keeps, spare_at}
use Rattle.hb_whole.specs.KeptLaws.{keeps_valid}
use Rattle.hb_whole.proofs.Keeping.{image_behind, keeps_behind, keeps_gate, keeps_header, opened, ready_too, shut}
use Rattle.hb_whole.proofs.Windows.{is_at_written}

abbrev Left : Type 1
Left = ℕ → Image → Type 0

-- one byte that is written is read there
pub written_byte : (at b : ℕ) (image : Image) → get_or (written at (b ∷ []) image) at 0 ≡ b
written_byte at b image =
    sym (let e : at + 0 ≡ at = omega arith in ap (λ (k : ℕ). get_or (written at (b ∷ []) image) k 0) e) ∙ sym (get_or-drop at (written at (b ∷ []) image) 0 0)
    ∙ sym (get_or-take 1 (drop at (written at (b ∷ []) image)) 0 0 (omega arith)) ∙ ap (λ (l : List ℕ). get_or l 0 0) (is_at_written at (b ∷ []) image)

-- ---- the gate is closed

module _ (v : Valid) (p : Option Point) (left0 : Left) (last0 clock0 : ℕ) (stands : (m : ℕ) (c : Image) → last0 ≤ m → left0 m c → left0 last0 c)
    (kept : AreKept (left0 last0) (Some v) true p) (in_time : last0 ≤ clock0) where
  abbrev P : Image → Type 0
  P c = PointIs c p

  -- whatever the gate reads
  abbrev Half : Image → Type 0
  Half c = (b : Bool) × Keeps (Some v) b p c

  first : Run clock0 left0 left0 last0 clock0 (λ c. Keeps (Some v) true p c) P
  first = begins clock0 last0 left0 (λ c. Keeps (Some v) true p c) P stands in_time kept (λ c k. keeps_valid (Some v) true p c k)

  module _ (left1 : Left) (last1 clock1 : ℕ) (ticks1 : clock1 ≡ tick clock0) (is_last1 : last1 ≡ max last0 clock1) (passes1 : Passes (Torn (spare_at (Some v)) 1) clock1 last0 left0 left1) where
    pub gate_one : Run clock0 left0 left1 last1 clock1 Half P
    gate_one = call clock0 last0 clock0 last1 clock1 _ left0 left0 left1 (λ c. Keeps (Some v) true p c) Half P first ticks1 is_last1 passes1
        (λ d c k torn. (is_open c (spare_at (Some v)), keeps_gate v p d c torn (image_behind (Some v) true p d k) k)) (λ c h. keeps_valid (Some v) h.0 p c h.1)

    module _ (left2 : Left) (last2 clock2 : ℕ) (ticks2 : clock2 ≡ tick clock1) (is_last2 : last2 ≡ max last1 clock2) (passes2 : Passes Same clock2 last1 left1 left2) where
      pub gate_two : Run clock0 left0 left2 last2 clock2 Half P
      gate_two = call clock0 last1 clock1 last2 clock2 _ left0 left1 left2 Half Half P gate_one ticks2 is_last2 passes2 (λ d c h same. subst Half (sym same) h) (λ c h. keeps_valid (Some v) h.0 p c h.1)

pub gate_closed : (v : Valid) (p : Option Point) (read : Image) → Keeps (Some v) true p read → Keeps (Some v) false p (written (spare_at (Some v)) (0 ∷ []) read)
gate_closed v p read k =
    subst (λ (b : Bool). Keeps (Some v) b p (written (spare_at (Some v)) (0 ∷ []) read)) (ap (λ (n : ℕ). n == 1) (written_byte (spare_at (Some v)) 0 read))
    (keeps_gate v p read (written (spare_at (Some v)) (0 ∷ []) read) (torn_written (spare_at (Some v)) (0 ∷ []) read) (image_behind (Some v) true p read k) k)

-- ---- the new header is written and opened

module _ (valid : Option Valid) (p : Option Point) (q : Point) (next : Valid) (read bytes : Image) (left0 : Left) (last0 clock0 : ℕ) (stands : (m : ℕ) (c : Image) → last0 ≤ m → left0 m c → left0 last0 c)
    (kept : AreKept (left0 last0) valid false p) (ready : IsReady valid read q next) (fits : Fits q next) (is : bytes ≡ drop 1 (header_bytes q next.place)) (mine : Keeps valid false p read) where
  abbrev mid : Image
  mid = written (spare_at valid + 1) bytes read

  long : length bytes ≡ 63
  long = ap length is

  pub mid_keeps : Keeps valid false p mid
  mid_keeps = keeps_header valid p read mid (subst (λ (n : ℕ). Torn (spare_at valid + 1) n read mid) long (torn_written (spare_at valid + 1) bytes read)) (image_behind valid false p read mine) mine

  pub mid_headed : IsAt mid (spare_at valid + 1) (drop 1 (header_bytes q next.place))
  mid_headed = subst (IsAt mid (spare_at valid + 1)) is (is_at_written (spare_at valid + 1) bytes read)

  pub mid_ready : IsReady valid mid q next
  mid_ready = ready_too valid q next read mid ready (subst (λ (n : ℕ). Torn (spare_at valid + 1) n read mid) long (torn_written (spare_at valid + 1) bytes read))

  abbrev Q : Image → Type 0
  Q c = PointIs c p ⊎ PointIs c (Some q)

  half : (c : Image) → Torn (spare_at valid) 1 mid c → Q c
  half c torn = by_test (is_open c (spare_at valid))
      (λ t. inr (keeps_valid (Some next) (is_some valid) (Some q) c (opened valid p q next mid mid_keeps mid_ready mid_headed fits c torn t)))
      (λ f. inl (shut valid p q next mid mid_keeps mid_ready mid_headed fits c torn f))

  module _ (in_time : last0 ≤ clock0) where
    begun : Run clock0 left0 left0 last0 clock0 (λ c. Keeps valid false p c) Q
    begun = begins clock0 last0 left0 (λ c. Keeps valid false p c) Q stands in_time kept (λ c k. inl (keeps_valid valid false p c k))

    module _ (left1 : Left) (last1 clock1 : ℕ) (ticks1 : clock1 ≡ tick clock0) (is_last1 : last1 ≡ max last0 clock1) (passes1 : Passes (Torn (spare_at valid + 1) (length bytes)) clock1 last0 left0 left1) where
      pub one : Run clock0 left0 left1 last1 clock1 (λ c. Keeps valid false p c) Q
      one = call clock0 last0 clock0 last1 clock1 _ left0 left0 left1 (λ c. Keeps valid false p c) (λ c. Keeps valid false p c) Q begun ticks1 is_last1 passes1
          (λ d c k torn. keeps_header valid p d c (subst (λ (n : ℕ). Torn (spare_at valid + 1) n d c) long torn) (image_behind valid false p d k) k) (λ c k. inl (keeps_valid valid false p c k))

      module _ (left2 : Left) (last2 clock2 : ℕ) (ticks2 : clock2 ≡ tick clock1) (is_last2 : last2 ≡ max last1 clock2) (passes2 : Passes Same clock2 last1 left1 left2) where
        pub two : Run clock0 left0 left2 last2 clock2 (λ c. Keeps valid false p c) Q
        two = call clock0 last1 clock1 last2 clock2 _ left0 left1 left2 (λ c. Keeps valid false p c) (λ c. Keeps valid false p c) Q one ticks2 is_last2 passes2
            (λ d c k same. subst (Keeps valid false p) (sym same) k) (λ c k. inl (keeps_valid valid false p c k))

        module _ (only2 : Only left2 (max last1 clock2) mid) (left3 : Left) (last3 clock3 : ℕ) (ticks3 : clock3 ≡ tick clock2) (is_last3 : last3 ≡ max last2 clock3) (passes3 : Passes (Torn (spare_at valid) 1) clock3 last2 left2 left3) where
          pub three : Run clock0 left0 left3 last3 clock3 (λ c. Torn (spare_at valid) 1 mid c) Q
          three = call clock0 last2 clock2 last3 clock3 _ left0 left2 left3 (λ c. c ≡ mid) (λ c. Torn (spare_at valid) 1 mid c) Q
              (knows clock0 last2 clock2 left0 left2 (λ c. Keeps valid false p c) (λ c. c ≡ mid) Q two (λ c at. only2 last2 c (omega (arith, is_last2)) at)) ticks3 is_last3 passes3
              (λ d c same torn. subst (λ (f : Image). Torn (spare_at valid) 1 f c) same torn) half

          module _ (left4 : Left) (last4 clock4 : ℕ) (ticks4 : clock4 ≡ tick clock3) (is_last4 : last4 ≡ max last3 clock4) (passes4 : Passes Same clock4 last3 left3 left4) where
            pub four : Run clock0 left0 left4 last4 clock4 (λ c. Torn (spare_at valid) 1 mid c) Q
            four = call clock0 last3 clock3 last4 clock4 _ left0 left3 left4 (λ c. Torn (spare_at valid) 1 mid c) (λ c. Torn (spare_at valid) 1 mid c) Q three ticks4 is_last4 passes4
                (λ d c torn same. subst (Torn (spare_at valid) 1 mid) (sym same) torn) half

  pub sealed : Keeps (Some next) (is_some valid) (Some q) (written (spare_at valid) (1 ∷ []) mid)
  sealed = opened valid p q next mid mid_keeps mid_ready mid_headed fits (written (spare_at valid) (1 ∷ []) mid) (torn_written (spare_at valid) (1 ∷ []) mid) (ap (λ (n : ℕ). n == 1) (written_byte (spare_at valid) 1 mid))

-- ---- an image is written

module _ (valid : Option Valid) (p : Option Point) (place n : ℕ) (behind : 128 ≤ place) (away : Avoids valid place n) (left0 : Left) (last0 : ℕ)
    (kept : AreKept (left0 last0) valid false p) (left1 : Left) (last1 clock1 : ℕ) (is_last1 : last1 ≡ max last0 clock1) (passes1 : Passes (Torn place n) clock1 last0 left0 left1) where
  pub image_kept : AreKept (left1 last1) valid false p
  image_kept c is = let s = passes1.since last1 c (omega (arith, is_last1)) is in keeps_behind valid false p place n s.0 c s.2 behind away (kept s.0 s.1)

  pub image_run : (clock0 : ℕ) → ((m : ℕ) (c : Image) → last0 ≤ m → left0 m c → left0 last0 c) → last0 ≤ clock0 → clock1 ≡ tick clock0 → Run clock0 left0 left1 last1 clock1 (λ c. Keeps valid false p c) (λ c. PointIs c p)
  image_run clock0 stands in_time ticks1 =
      call clock0 last0 clock0 last1 clock1 _ left0 left0 left1 (λ c. Keeps valid false p c) (λ c. Keeps valid false p c) (λ c. PointIs c p)
      (begins clock0 last0 left0 (λ c. Keeps valid false p c) (λ c. PointIs c p) stands in_time kept (λ c k. keeps_valid valid false p c k)) ticks1 is_last1 passes1
      (λ d c k torn. keeps_behind valid false p place n d c torn behind away k) (λ c k. keeps_valid valid false p c k)

-- ---- nothing is to be closed

pub closed_none : (p : Option Point) (b : Bool) (c : Image) → Keeps None b p c → Keeps None false p c
closed_none p true c k = absurd (true≢false (sym k.gate ∙ k.stands.1))
closed_none p false c k = k

pub still_left : (valid : Option Valid) (b : Bool) (p : Option Point) (left : Left) (last clock : ℕ) → ((m : ℕ) (c : Image) → last ≤ m → left m c → left last c) → AreKept (left last) valid b p → last ≤ clock
    → Leaves clock left left (λ m c. PointIs c p)
still_left valid b p left last clock stands kept in_time = started clock last left (λ m c. PointIs c p) stands in_time (λ m c le is. keeps_valid valid b p c (kept c is))
