-- Places between two ranks, and their readers.
use Rattle.std.proofs.Common.{◌≡◌, inl, inr, ℕ, ◌/◌, ◌≤◌, ◌<◌, List, [], ◌++◌, Ok, refl, sym, ◌∙◌, ap, subst, arith}
use Rattle.std.proofs.lemmas.List.{append-nil}
use Rattle.hb_types.specs.declared.places.Space.{Space}
use Rattle.hb_types.specs.declared.places.Place.{Place}
use Rattle.hb_types.specs.Numbers.{two, signed_eight}
use Rattle.hb_types.specs.Places.{IsSpace, IsPlace}
use Rattle.hb_types.specs.Records.{space_bytes, place_bytes}
use Rattle.hb_codec.specs.Readers.{◌>>=◌, number_in}
use Rattle.hb_codec.specs.PlaceReaders.{key_rank, key_of, space_rank, group_rank, place_rank, places, inside, space_in, group_in, place_in}
use Rattle.hb_codec.proofs.Calculus.{Reads, Bind, Pure, reads_bind, reads_pure, reads_same}
use Rattle.hb_codec.proofs.Digits.{IsNumber, reads_number}
use Rattle.hb_codec.proofs.Widths.{digits_two}
use Rattle.hb_codec.proofs.Ranks.{rank_of_key, key_of_rank, key_fits, key_small, digits_key}

-- two parts, and nothing behind them
pub behind_both : {bytes front back f : List ℕ} {a b : List ℕ} → bytes ≡ front ++ back → front ≡ a → back ≡ f ++ [] → f ≡ b → bytes ≡ a ++ b
behind_both {bytes} {front} {back} {f} {a} {b} split is_a more is_b = split ∙ (λ i. is_a i ++ (more ∙ append-nil f ∙ is_b) i)

-- ---- spaces

pub record IsSpaceIn (low high : ℕ) (s : Space) (bytes : List ℕ) : Type 0 where
  pub fits : IsSpace s
  pub is : bytes ≡ space_bytes s
  pub above : low ≤ space_rank s
  pub below : space_rank s ≤ high

module _ (low high : ℕ) (order : low ≤ high) (limit : high < 4294967296) where
  Spaces : Space → List ℕ → Type 0
  Spaces = Bind (IsNumber 0 2 (low / 65536) (high / 65536)) (λ a. Bind (IsNumber 0 2 (inside 65536 a low) (inside 65536 a high)) (λ t. Pure (record { area = a; table = t })))

  spaces_to : (s : Space) (bytes : List ℕ) → Spaces s bytes → IsSpaceIn low high s bytes
  unfolding Spaces
  spaces_to s bytes is =
      let a = is.value in
      let t = is.is_second.value in
      let a_low = is.is_first.above in
      let a_high = is.is_first.below in
      let t_low = is.is_second.is_first.above in
      let t_high = is.is_second.is_first.below in
      let a_small : a < 65536 = omega arith in
      let t_small : t < 65536 = omega arith in
      let whole : bytes ≡ two a ++ two t = behind_both is.split (is.is_first.is ∙ digits_two a a_small) (is.is_second.split ∙ ap (λ (l : List ℕ). is.is_second.front ++ l) is.is_second.is_second.empty) (is.is_second.is_first.is ∙ digits_two t t_small) in
      subst (λ (v : Space). IsSpaceIn low high v bytes) (sym is.is_second.is_second.is)
      (record { fits = (a_small, t_small); is = whole; above = omega arith; below = omega arith })

  spaces_from : (s : Space) (bytes : List ℕ) → IsSpaceIn low high s bytes → Spaces s bytes
  unfolding Spaces
  spaces_from s bytes is =
      let above = is.above in
      let below = is.below in
      let a_small : s.area < 65536 = is.fits.0 in
      let t_small : s.table < 65536 = is.fits.1 in
      record {
        value = s.area;
        front = two s.area;
        back = two s.table;
        split = is.is;
        is_first = record { above = omega arith; below = omega arith; is = sym (digits_two s.area a_small) };
        is_second = record { value = s.table; front = two s.table; back = []; split = sym (append-nil (two s.table)); is_first = record { above = omega arith; below = omega arith; is = sym (digits_two s.table t_small) }; is_second = record { is = refl; empty = refl } };
      }

  pub reads_space : Reads (IsSpaceIn low high) (space_in low high)
  unfolding Spaces space_in
  reads_space =
      reads_same Spaces (IsSpaceIn low high) (space_in low high) spaces_to spaces_from
      (reads_bind _ (λ a. Bind (IsNumber 0 2 (inside 65536 a low) (inside 65536 a high)) (λ t. Pure (record { area = a; table = t })))
      (number_in 0 2 (low / 65536) (high / 65536)) (λ a bytes. number_in 0 2 (inside 65536 a low) (inside 65536 a high) bytes >>= λ t. Ok (record { area = a; table = t.0 }, t.1))
      (reads_number 0 2 (low / 65536) (high / 65536) (inl refl) (omega arith) (omega arith))
      (λ a b is. reads_bind _ (λ t. Pure (record { area = a; table = t })) (number_in 0 2 (inside 65536 a low) (inside 65536 a high)) (λ t bytes. Ok (record { area = a; table = t }, bytes))
      (reads_number 0 2 (inside 65536 a low) (inside 65536 a high) (inl refl) (omega arith) (omega arith)) (λ t c are. reads_pure (record { area = a; table = t }))))

-- ---- groups

pub record IsGroupIn (low high : ℕ) (g : Space × ℕ) (bytes : List ℕ) : Type 0 where
  pub fits : IsSpace g.0
  pub small : g.1 < 65536
  pub is : bytes ≡ space_bytes g.0 ++ two g.1
  pub above : low ≤ group_rank g.0 g.1
  pub below : group_rank g.0 g.1 ≤ high

module _ (low high : ℕ) (order : low ≤ high) (limit : high < 281474976710656) where
  Groups : Space × ℕ → List ℕ → Type 0
  Groups = Bind (IsSpaceIn (low / 65536) (high / 65536)) (λ s. Bind (IsNumber 0 2 (inside 65536 (space_rank s) low) (inside 65536 (space_rank s) high)) (λ g. Pure (s, g)))

  groups_to : (g : Space × ℕ) (bytes : List ℕ) → Groups g bytes → IsGroupIn low high g bytes
  unfolding Groups
  groups_to g bytes is =
      let s = is.value in
      let t = is.is_second.value in
      let a_low = is.is_first.above in
      let a_high = is.is_first.below in
      let t_low = is.is_second.is_first.above in
      let t_high = is.is_second.is_first.below in
      let t_small : t < 65536 = omega arith in
      let whole : bytes ≡ space_bytes s ++ two t = behind_both is.split is.is_first.is (is.is_second.split ∙ ap (λ (l : List ℕ). is.is_second.front ++ l) is.is_second.is_second.empty) (is.is_second.is_first.is ∙ digits_two t t_small) in
      subst (λ (v : Space × ℕ). IsGroupIn low high v bytes) (sym is.is_second.is_second.is)
      (record { fits = is.is_first.fits; small = t_small; is = whole; above = omega arith; below = omega arith })

  groups_from : (g : Space × ℕ) (bytes : List ℕ) → IsGroupIn low high g bytes → Groups g bytes
  unfolding Groups
  groups_from g bytes is =
      let above = is.above in
      let below = is.below in
      let small = is.small in
      record {
        value = g.0;
        front = space_bytes g.0;
        back = two g.1;
        split = is.is;
        is_first = record { fits = is.fits; is = refl; above = omega arith; below = omega arith };
        is_second = record { value = g.1; front = two g.1; back = []; split = sym (append-nil (two g.1)); is_first = record { above = omega arith; below = omega arith; is = sym (digits_two g.1 small) }; is_second = record { is = refl; empty = refl } };
      }

  pub reads_group : Reads (IsGroupIn low high) (group_in low high)
  unfolding Groups group_in
  reads_group =
      reads_same Groups (IsGroupIn low high) (group_in low high) groups_to groups_from
      (reads_bind _ (λ s. Bind (IsNumber 0 2 (inside 65536 (space_rank s) low) (inside 65536 (space_rank s) high)) (λ g. Pure (s, g)))
      (space_in (low / 65536) (high / 65536)) (λ s bytes. number_in 0 2 (inside 65536 (space_rank s) low) (inside 65536 (space_rank s) high) bytes >>= λ g. Ok ((s, g.0), g.1))
      (reads_space (low / 65536) (high / 65536) (omega arith) (omega arith))
      (λ s b is. reads_bind _ (λ g. Pure (s, g)) (number_in 0 2 (inside 65536 (space_rank s) low) (inside 65536 (space_rank s) high)) (λ g bytes. Ok ((s, g), bytes))
      (reads_number 0 2 (inside 65536 (space_rank s) low) (inside 65536 (space_rank s) high) (inl refl) (omega arith) (omega arith)) (λ g c are. reads_pure (s, g))))

-- ---- places

pub record IsPlaceIn (low high : ℕ) (p : Place) (bytes : List ℕ) : Type 0 where
  pub fits : IsPlace p
  pub is : bytes ≡ place_bytes p
  pub above : low ≤ place_rank p
  pub below : place_rank p ≤ high

module _ (low high : ℕ) (order : low ≤ high) (limit : high < places) where
  abbrev unit : ℕ
  unit = 18446744073709551616

  Places : Place → List ℕ → Type 0
  Places = Bind (IsGroupIn (low / unit) (high / unit)) (λ g. Bind (IsNumber 128 8 (inside unit (group_rank g.0 g.1) low) (inside unit (group_rank g.0 g.1) high)) (λ k. Pure (record { space = g.0; group = g.1; key = key_of k })))

  places_to : (p : Place) (bytes : List ℕ) → Places p bytes → IsPlaceIn low high p bytes
  unfolding Places
  places_to p bytes is =
      let g = is.value in
      let k = is.is_second.value in
      let a_low = is.is_first.above in
      let a_high = is.is_first.below in
      let k_low = is.is_second.is_first.above in
      let k_high = is.is_second.is_first.below in
      let k_small : k < unit = omega arith in
      let rank : key_rank (key_of k) ≡ k = rank_of_key k k_small in
      let whole : bytes ≡ (space_bytes g.0 ++ two g.1) ++ signed_eight (key_of k) = behind_both is.split is.is_first.is (is.is_second.split ∙ ap (λ (l : List ℕ). is.is_second.front ++ l) is.is_second.is_second.empty) (is.is_second.is_first.is ∙ digits_key k k_small) in
      subst (λ (v : Place). IsPlaceIn low high v bytes) (sym is.is_second.is_second.is)
      (record { fits = (is.is_first.fits, is.is_first.small, key_fits k); is = whole; above = omega (arith, rank); below = omega (arith, rank) })

  places_from : (p : Place) (bytes : List ℕ) → IsPlaceIn low high p bytes → Places p bytes
  unfolding Places
  places_from p bytes is =
      let above = is.above in
      let below = is.below in
      let k = key_rank p.key in
      let k_small : k < unit = key_small p.key in
      let back : key_of k ≡ p.key = key_of_rank p.key is.fits.2 in
      record {
        value = (p.space, p.group);
        front = space_bytes p.space ++ two p.group;
        back = signed_eight p.key;
        split = is.is;
        is_first = record { fits = is.fits.0; small = is.fits.1; is = refl; above = omega arith; below = omega arith };
        is_second = record {
          value = k;
          front = signed_eight p.key;
          back = [];
          split = sym (append-nil (signed_eight p.key));
          is_first = record { above = omega arith; below = omega arith; is = sym (digits_key k k_small ∙ ap signed_eight back) };
          is_second = record { is = (λ i. record { space = p.space; group = p.group; key = sym back i }); empty = refl };
        };
      }

  pub reads_place : Reads (IsPlaceIn low high) (place_in low high)
  unfolding Places place_in
  reads_place =
      reads_same Places (IsPlaceIn low high) (place_in low high) places_to places_from
      (reads_bind _ (λ g. Bind (IsNumber 128 8 (inside unit (group_rank g.0 g.1) low) (inside unit (group_rank g.0 g.1) high)) (λ k. Pure (record { space = g.0; group = g.1; key = key_of k })))
      (group_in (low / unit) (high / unit)) (λ g bytes. number_in 128 8 (inside unit (group_rank g.0 g.1) low) (inside unit (group_rank g.0 g.1) high) bytes >>= λ k. Ok (record { space = g.0; group = g.1; key = key_of k.0 }, k.1))
      (reads_group (low / unit) (high / unit) (omega arith) (omega arith))
      (λ g b is. reads_bind _ (λ k. Pure (record { space = g.0; group = g.1; key = key_of k })) (number_in 128 8 (inside unit (group_rank g.0 g.1) low) (inside unit (group_rank g.0 g.1) high)) (λ k bytes. Ok (record { space = g.0; group = g.1; key = key_of k }, bytes))
      (reads_number 128 8 (inside unit (group_rank g.0 g.1) low) (inside unit (group_rank g.0 g.1) high) (inr refl) (omega arith) (omega arith)) (λ k c are. reads_pure (record { space = g.0; group = g.1; key = key_of k }))))
