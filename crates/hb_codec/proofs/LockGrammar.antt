-- Locks by ascending path, and their readers.
use Rattle.std.proofs.Common.{◌≡◌, ◌⊎◌, inl, inr, ⊎_elim, ℕ, zero, suc, ◌+◌, ◌-◌, min, ◌≤◌, ◌<◌, Bool, true, false, cond, List, [], ◌∷◌, ◌++◌, length, Ok, refl, sym, ◌∙◌, ap, subst, arith}
use Rattle.std.specs.Prelude.{nat_lt}
use Rattle.std.specs.Ordering.{nat_cmp, ordering_then}
use Rattle.std.specs.declared.cmp.Ordering.{Ordering}
use Rattle.std.specs.declared.cmp.Ordering.TheVariants.{Less, Equal, Greater}
use Rattle.std.proofs.lemmas.List.{append-nil}
use Rattle.std.proofs.lemmas.Bool.{ltb-true, lt-ltb}
use Rattle.hb_types.specs.declared.lock.Held.{Held}
use Rattle.hb_types.specs.declared.lock.Mode.{Mode}
use Rattle.hb_types.specs.declared.lock.Mode.TheVariants.{IS, IX, S, SIX, X}
use Rattle.hb_types.specs.declared.places.Path.{Path}
use Rattle.hb_types.specs.declared.places.Path.TheVariants.{Whole, Group, Key}
use Rattle.hb_types.specs.Numbers.{two, eight}
use Rattle.hb_types.specs.Places.{path_cmp, place_cmp, space_cmp, IsPath}
use Rattle.hb_types.specs.Records.{space_bytes, place_bytes, mode_byte, lock_bytes}
use Rattle.hb_codec.specs.Readers.{◌>>=◌, number_in, many_in}
use Rattle.hb_codec.specs.PlaceReaders.{group_rank, place_rank, places, space_in, group_in, place_in}
use Rattle.hb_codec.specs.LockReaders.{groups_from, keys_from, path_rank, paths, mode_of, first_level, whole_in, group_path_in, key_path_in, path_in, lock_in, lock_after, path_text, level_of as level}
use Rattle.hb_codec.proofs.Calculus.{Reads, Bind, Pure, reads_bind, reads_pure, reads_same}
use Rattle.hb_codec.proofs.Digits.{IsNumber, digits, reads_number, by_test}
use Rattle.hb_codec.proofs.Widths.{digits_one}
use Rattle.hb_codec.proofs.Lists.{Many, reads_many}
use Rattle.hb_codec.proofs.Ranks.{Goes, goes_space, goes_group, goes_place, space_below, group_below, place_below}
use Rattle.hb_codec.proofs.PlaceGrammar.{IsSpaceIn, IsGroupIn, IsPlaceIn, reads_space, reads_group, reads_place}
use Rattle.hb_codec.proofs.Ordered.{IsItemAt, AreItems, items_to, items_from}

-- ---- paths in their order

abbrev pub LockFits : Held → Type 0
LockFits l = IsPath l.path

pub path_below : (p : Path) → IsPath p → path_rank p < paths
path_below (Whole s) is = omega (arith, space_below s is)
path_below (Group s g) is = omega (arith, group_below s g is.0 is.1)
path_below (Key p) is = omega (arith, place_below p is)

goes_up : (o : Ordering) (x y k : ℕ) → Goes o x y → Goes o (k + x) (k + y)
goes_up Less x y k g = omega (arith, g)
goes_up Equal x y k g = ap (λ (n : ℕ). k + n) g
goes_up Greater x y k g = omega (arith, g)

goes_path : (p q : Path) → IsPath p → IsPath q → Goes (path_cmp p q) (path_rank p) (path_rank q)
goes_path (Whole s) (Whole t) a b = goes_space s t a b
goes_path (Whole s) (Group t h) a b = omega (arith, space_below s a)
goes_path (Whole s) (Key q) a b = omega (arith, space_below s a)
goes_path (Group s g) (Whole t) a b = omega (arith, space_below t b)
goes_path (Group s g) (Group t h) a b = goes_up (ordering_then (space_cmp s t) (nat_cmp g h)) (group_rank s g) (group_rank t h) groups_from (goes_group s t g h a.0 b.0 a.1 b.1)
goes_path (Group s g) (Key q) a b = omega (arith, group_below s g a.0 a.1)
goes_path (Key p) (Whole t) a b = omega (arith, space_below t b)
goes_path (Key p) (Group t h) a b = omega (arith, group_below t h b.0 b.1)
goes_path (Key p) (Key q) a b = goes_up (place_cmp p q) (place_rank p) (place_rank q) keys_from (goes_place p q a b)

pub goes_lock : (l m : Held) → LockFits l → LockFits m → Goes (path_cmp l.path m.path) (path_rank l.path) (path_rank m.path)
goes_lock l m a b = goes_path l.path m.path a b

-- ---- modes

byte_of_mode : (m : ℕ) → m ≤ 4 → mode_byte (mode_of m) ≡ m
byte_of_mode zero le = refl
byte_of_mode (suc zero) le = refl
byte_of_mode (suc (suc zero)) le = refl
byte_of_mode (suc (suc (suc zero))) le = refl
byte_of_mode (suc (suc (suc (suc zero)))) le = refl
byte_of_mode (suc (suc (suc (suc (suc m))))) le = absurd (omega (arith, le))

mode_of_byte : (m : Mode) → mode_of (mode_byte m) ≡ m
mode_of_byte IS = refl
mode_of_byte IX = refl
mode_of_byte S = refl
mode_of_byte SIX = refl
mode_of_byte X = refl

mode_small : (m : Mode) → mode_byte m ≤ 4
mode_small IS = omega arith
mode_small IX = omega arith
mode_small S = omega arith
mode_small SIX = omega arith
mode_small X = omega arith

-- ---- one lock

pub lock_is : (p : Path) (m : Mode) → lock_bytes (record { path = p; mode = m }) ≡ level p ∷ mode_byte m ∷ path_text p
lock_is (Whole s) m = refl
lock_is (Group s g) m = refl
lock_is (Key p) m = refl

pub lock_long : (l : Held) → length (lock_bytes l) ≡ 16
lock_long l = omega (arith, ap length (lock_is l.path l.mode), go l.path)
  where
    go : (p : Path) → length (path_text p) ≡ 14
    go (Whole s) = refl
    go (Group s g) = refl
    go (Key p) = refl

pub record LeastFits (n least : ℕ) : Type 0 where
  pub some : least + n ≤ paths
  pub few : n ≤ places

-- a path of this level, before n more
pub record IsPathAt (k n least : ℕ) (p : Path) (bytes : List ℕ) : Type 0 where
  pub fits : IsPath p
  pub at : level p ≡ k
  pub is : bytes ≡ path_text p
  pub above : least ≤ path_rank p
  pub below : path_rank p + n < paths

level_within : (p : Path) → (1 ≤ level p) × (level p ≤ 3)
level_within (Whole s) = (omega arith, omega arith)
level_within (Group s g) = (omega arith, omega arith)
level_within (Key p) = (omega arith, omega arith)

module _ (n least : ℕ) (v : LeastFits (suc n) least) where
  Wholes : Path → List ℕ → Type 0
  Wholes = Bind (IsSpaceIn (min least 4294967295) 4294967295) (λ s. Bind (IsNumber 0 10 0 0) (λ z. Pure (Whole s)))

  reads_whole : least < groups_from → Reads (IsPathAt 1 n least) (whole_in least)
  unfolding Wholes whole_in
  reads_whole low =
      reads_same Wholes (IsPathAt 1 n least) (whole_in least) (λ p bytes is. to p bytes is) (λ p bytes is. from p bytes is)
      (reads_bind _ (λ s. Bind (IsNumber 0 10 0 0) (λ z. Pure (Whole s))) (space_in (min least 4294967295) 4294967295) (λ s bytes. number_in 0 10 0 0 bytes >>= λ z. Ok (Whole s, z.1)) (reads_space (min least 4294967295) 4294967295 (omega arith) (omega arith))
      (λ s a is. reads_bind _ (λ z. Pure (Whole s)) (number_in 0 10 0 0) (λ z bytes. Ok (Whole s, bytes)) (reads_number 0 10 0 0 (inl refl) (omega arith) (omega arith)) (λ z b are. reads_pure (Whole s))))
    where
      to : (p : Path) (bytes : List ℕ) → Wholes p bytes → IsPathAt 1 n least p bytes
      to p bytes is =
          let s = is.value in
          let z_low = is.is_second.is_first.below in
          let z_is : is.is_second.value ≡ 0 = omega arith in
          let few = v.few in
          let above = is.is_first.above in
          let below = is.is_first.below in
          let zeros : is.back ≡ two 0 ++ eight 0 = is.is_second.split ∙ ap (λ (l : List ℕ). is.is_second.front ++ l) is.is_second.is_second.empty ∙ append-nil is.is_second.front ∙ is.is_second.is_first.is ∙ ap (λ (k : ℕ). digits 0 10 k) z_is in
          let whole : bytes ≡ path_text (Whole s) = is.split ∙ (λ i. is.is_first.is i ++ zeros i) in
          subst (λ (q : Path). IsPathAt 1 n least q bytes) (sym is.is_second.is_second.is)
          (record { fits = is.is_first.fits; at = refl; is = whole; above = omega arith; below = omega arith })

      from : (p : Path) (bytes : List ℕ) → IsPathAt 1 n least p bytes → Wholes p bytes
      from (Whole s) bytes is =
          let below = space_below s is.fits in
          record {
            value = s;
            front = space_bytes s;
            back = two 0 ++ eight 0;
            split = is.is;
            is_first = record { fits = is.fits; is = refl; above = omega (arith, is.above); below = omega arith };
            is_second = record { value = 0; front = two 0 ++ eight 0; back = []; split = refl; is_first = record { above = omega arith; below = omega arith; is = refl }; is_second = record { is = refl; empty = refl } };
          }
      from (Group s g) bytes is = absurd (omega (arith, is.at))
      from (Key p) bytes is = absurd (omega (arith, is.at))

  GroupPaths : Path → List ℕ → Type 0
  GroupPaths = Bind (IsGroupIn (min (least - groups_from) 281474976710655) 281474976710655) (λ g. Bind (IsNumber 0 8 0 0) (λ z. Pure (Group g.0 g.1)))

  reads_group_path : least < keys_from → Reads (IsPathAt 2 n least) (group_path_in least)
  unfolding GroupPaths group_path_in
  reads_group_path low =
      reads_same GroupPaths (IsPathAt 2 n least) (group_path_in least) (λ p bytes is. to p bytes is) (λ p bytes is. from p bytes is)
      (reads_bind _ (λ g. Bind (IsNumber 0 8 0 0) (λ z. Pure (Group g.0 g.1))) (group_in (min (least - groups_from) 281474976710655) 281474976710655) (λ g bytes. number_in 0 8 0 0 bytes >>= λ z. Ok (Group g.0 g.1, z.1)) (reads_group (min (least - groups_from) 281474976710655) 281474976710655 (omega arith) (omega arith))
      (λ g a is. reads_bind _ (λ z. Pure (Group g.0 g.1)) (number_in 0 8 0 0) (λ z bytes. Ok (Group g.0 g.1, bytes)) (reads_number 0 8 0 0 (inl refl) (omega arith) (omega arith)) (λ z b are. reads_pure (Group g.0 g.1))))
    where
      to : (p : Path) (bytes : List ℕ) → GroupPaths p bytes → IsPathAt 2 n least p bytes
      to p bytes is =
          let g = is.value in
          let z_low = is.is_second.is_first.below in
          let z_is : is.is_second.value ≡ 0 = omega arith in
          let few = v.few in
          let above = is.is_first.above in
          let below = is.is_first.below in
          let zeros : is.back ≡ eight 0 = is.is_second.split ∙ ap (λ (l : List ℕ). is.is_second.front ++ l) is.is_second.is_second.empty ∙ append-nil is.is_second.front ∙ is.is_second.is_first.is ∙ ap (λ (k : ℕ). digits 0 8 k) z_is in
          let whole : bytes ≡ path_text (Group g.0 g.1) = is.split ∙ (λ i. is.is_first.is i ++ zeros i) in
          subst (λ (q : Path). IsPathAt 2 n least q bytes) (sym is.is_second.is_second.is)
          (record { fits = (is.is_first.fits, is.is_first.small); at = refl; is = whole; above = omega arith; below = omega arith })

      from : (p : Path) (bytes : List ℕ) → IsPathAt 2 n least p bytes → GroupPaths p bytes
      from (Whole s) bytes is = absurd (omega (arith, is.at))
      from (Group s g) bytes is =
          let below = group_below s g is.fits.0 is.fits.1 in
          let above = is.above in
          record {
            value = (s, g);
            front = space_bytes s ++ two g;
            back = eight 0;
            split = is.is;
            is_first = record { fits = is.fits.0; small = is.fits.1; is = refl; above = omega arith; below = omega arith };
            is_second = record { value = 0; front = eight 0; back = []; split = refl; is_first = record { above = omega arith; below = omega arith; is = refl }; is_second = record { is = refl; empty = refl } };
          }
      from (Key p) bytes is = absurd (omega (arith, is.at))

  KeyPaths : Path → List ℕ → Type 0
  KeyPaths = Bind (IsPlaceIn (least - keys_from) (places - 1 - n)) (λ p. Pure (Key p))

  reads_key_path : Reads (IsPathAt 3 n least) (key_path_in n least)
  unfolding KeyPaths key_path_in
  reads_key_path =
      reads_same KeyPaths (IsPathAt 3 n least) (key_path_in n least) (λ p bytes is. to p bytes is) (λ p bytes is. from p bytes is)
      (reads_bind _ (λ p. Pure (Key p)) (place_in (least - keys_from) (places - 1 - n)) (λ p bytes. Ok (Key p, bytes)) (reads_place (least - keys_from) (places - 1 - n) (omega (arith, v.some, v.few)) (omega arith)) (λ p a is. reads_pure (Key p)))
    where
      to : (p : Path) (bytes : List ℕ) → KeyPaths p bytes → IsPathAt 3 n least p bytes
      to p bytes is =
          let few = v.few in
          let above = is.is_first.above in
          let below = is.is_first.below in
          let whole : bytes ≡ place_bytes is.value = is.split ∙ ap (λ (l : List ℕ). is.front ++ l) is.is_second.empty ∙ append-nil is.front ∙ is.is_first.is in
          subst (λ (q : Path). IsPathAt 3 n least q bytes) (sym is.is_second.is)
          (record { fits = is.is_first.fits; at = refl; is = whole; above = omega arith; below = omega arith })

      from : (p : Path) (bytes : List ℕ) → IsPathAt 3 n least p bytes → KeyPaths p bytes
      from (Whole s) bytes is = absurd (omega (arith, is.at))
      from (Group s g) bytes is = absurd (omega (arith, is.at))
      from (Key p) bytes is =
          let above = is.above in
          let below = is.below in
          record { value = p; front = place_bytes p; back = []; split = is.is ∙ sym (append-nil (place_bytes p)); is_first = record { fits = is.fits; is = refl; above = omega arith; below = omega arith }; is_second = record { is = refl; empty = refl } }

  first_cases : (k : ℕ) → first_level least ≤ k → k ≤ 3 → (((k ≡ 1) × (least < groups_from)) ⊎ (((k ≡ 2) × (least < keys_from)) ⊎ (k ≡ 3)))
  first_cases k le top = by_test (nat_lt least groups_from)
      (λ t. let low = ltb-true least groups_from t in
      let h : 1 ≤ k = subst (λ (b : Bool). cond b 1 (cond (nat_lt least keys_from) 2 3) ≤ k) t le in
      split k h top (omega arith))
      (λ f. by_test (nat_lt least keys_from)
      (λ t. let low = ltb-true least keys_from t in
      let h1 : cond (nat_lt least keys_from) 2 3 ≤ k = subst (λ (b : Bool). cond b 1 (cond (nat_lt least keys_from) 2 3) ≤ k) f le in
      let h : 2 ≤ k = subst (λ (b : Bool). cond b 2 3 ≤ k) t h1 in
      inr (two_three k h top low))
      (λ g. let h1 : cond (nat_lt least keys_from) 2 3 ≤ k = subst (λ (b : Bool). cond b 1 (cond (nat_lt least keys_from) 2 3) ≤ k) f le in
      let h : 3 ≤ k = subst (λ (b : Bool). cond b 2 3 ≤ k) g h1 in
      inr (inr (omega arith))))
    where
      two_three : (k : ℕ) → 2 ≤ k → k ≤ 3 → least < keys_from → ((k ≡ 2) × (least < keys_from)) ⊎ (k ≡ 3)
      two_three zero h top low = absurd (omega (arith, h))
      two_three (suc zero) h top low = absurd (omega (arith, h))
      two_three (suc (suc zero)) h top low = inl (refl, low)
      two_three (suc (suc (suc k))) h top low = inr (omega (arith, top))

      split : (k : ℕ) → 1 ≤ k → k ≤ 3 → least < groups_from → (((k ≡ 1) × (least < groups_from)) ⊎ (((k ≡ 2) × (least < keys_from)) ⊎ (k ≡ 3)))
      split zero h top low = absurd (omega (arith, h))
      split (suc zero) h top low = inl (refl, low)
      split (suc (suc k)) h top low = inr (two_three (suc (suc k)) (omega arith) top (omega arith))

  reads_path : (k : ℕ) → first_level least ≤ k → k ≤ 3 → Reads (IsPathAt k n least) (path_in k n least)
  unfolding path_in
  reads_path k le top = ⊎_elim
      (λ one. subst (λ (m : ℕ). Reads (IsPathAt m n least) (path_in m n least)) (sym one.0) (reads_whole one.1))
      (λ more. ⊎_elim (λ two. subst (λ (m : ℕ). Reads (IsPathAt m n least) (path_in m n least)) (sym two.0) (reads_group_path two.1)) (λ three. subst (λ (m : ℕ). Reads (IsPathAt m n least) (path_in m n least)) (sym three) reads_key_path) more)
      (first_cases k le top)

  first_below : (p : Path) → IsPath p → least ≤ path_rank p → first_level least ≤ level p
  first_below (Whole s) is le = let t : nat_lt least groups_from ≡ true = lt-ltb least groups_from (omega (arith, le, space_below s is)) in subst (λ (b : Bool). cond b 1 (cond (nat_lt least keys_from) 2 3) ≤ 1) (sym t) (omega arith)
  first_below (Group s g) is le = let t : nat_lt least keys_from ≡ true = lt-ltb least keys_from (omega (arith, le, group_below s g is.0 is.1)) in
      subst (λ (b : Bool). cond (nat_lt least groups_from) 1 (cond b 2 3) ≤ 2) (sym t) (either (nat_lt least groups_from))
    where
      either : (b : Bool) → cond b 1 2 ≤ 2
      either true = omega arith
      either false = omega arith
  first_below (Key p) is le = either (nat_lt least groups_from) (nat_lt least keys_from)
    where
      either : (b c : Bool) → cond b 1 (cond c 2 3) ≤ 3
      either true c = omega arith
      either false true = omega arith
      either false false = omega arith

  LockAt : Held → List ℕ → Type 0
  LockAt = Bind (IsNumber 0 1 (first_level least) 3) (λ k. Bind (IsNumber 0 1 0 4) (λ m. Bind (IsPathAt k n least) (λ p. Pure (record { path = p; mode = mode_of m }))))

  abbrev IsLockAt : Held → List ℕ → Type 0
  IsLockAt = IsItemAt (λ (l : Held). path_rank l.path) LockFits lock_bytes paths n least

  locks_to : (l : Held) (bytes : List ℕ) → LockAt l bytes → IsLockAt l bytes
  unfolding LockAt
  locks_to l bytes is =
      let k = is.value in
      let m = is.is_second.value in
      let p = is.is_second.is_second.value in
      let path = is.is_second.is_second.is_first in
      let k_high = is.is_first.below in
      let m_high = is.is_second.is_first.below in
      let heads : is.front ≡ level p ∷ [] = is.is_first.is ∙ digits_one k (omega arith) ∙ ap (λ (j : ℕ). j ∷ []) (sym path.at) in
      let modes : is.is_second.front ≡ mode_byte (mode_of m) ∷ [] = is.is_second.is_first.is ∙ digits_one m (omega arith) ∙ ap (λ (j : ℕ). j ∷ []) (sym (byte_of_mode m m_high)) in
      let tail : is.is_second.back ≡ path_text p = is.is_second.is_second.split ∙ ap (λ (t : List ℕ). is.is_second.is_second.front ++ t) is.is_second.is_second.is_second.empty ∙ append-nil is.is_second.is_second.front ∙ path.is in
      let whole : bytes ≡ level p ∷ mode_byte (mode_of m) ∷ path_text p = is.split ∙ (λ i. heads i ++ (is.is_second.split ∙ (λ j. modes j ++ tail j)) i) in
      subst (λ (q : Held). IsLockAt q bytes) (sym is.is_second.is_second.is_second.is)
      (record { fits = path.fits; is = whole ∙ sym (lock_is p (mode_of m)); above = path.above; below = path.below })

  locks_from : (l : Held) (bytes : List ℕ) → IsLockAt l bytes → LockAt l bytes
  unfolding LockAt
  locks_from l bytes is =
      let p = l.path in
      let k = level_within p in
      record {
        value = level p;
        front = level p ∷ [];
        back = mode_byte l.mode ∷ path_text p;
        split = is.is ∙ lock_is p l.mode;
        is_first = record { above = first_below p is.fits is.above; below = k.1; is = sym (digits_one (level p) (omega (arith, k.1))) };
        is_second = record {
          value = mode_byte l.mode;
          front = mode_byte l.mode ∷ [];
          back = path_text p;
          split = refl;
          is_first = record { above = omega arith; below = mode_small l.mode; is = sym (digits_one (mode_byte l.mode) (omega (arith, mode_small l.mode))) };
          is_second = record {
            value = p;
            front = path_text p;
            back = [];
            split = sym (append-nil (path_text p));
            is_first = record { fits = is.fits; at = refl; is = refl; above = is.above; below = is.below };
            is_second = record { is = (λ i. record { path = p; mode = sym (mode_of_byte l.mode) i }); empty = refl };
          };
        };
      }

  pub reads_lock : Reads (IsItemAt (λ (l : Held). path_rank l.path) LockFits lock_bytes paths n least) (lock_in n least)
  unfolding LockAt lock_in
  reads_lock =
      reads_same LockAt IsLockAt (lock_in n least) locks_to locks_from
      (reads_bind _ (λ k. Bind (IsNumber 0 1 0 4) (λ m. Bind (IsPathAt k n least) (λ p. Pure (record { path = p; mode = mode_of m }))))
      (number_in 0 1 (first_level least) 3) (λ k bytes. number_in 0 1 0 4 bytes >>= λ m. path_in k n least m.1 >>= λ p. Ok (record { path = p.0; mode = mode_of m.0 }, p.1))
      (reads_number 0 1 (first_level least) 3 (inl refl) (top (nat_lt least groups_from) (nat_lt least keys_from)) (omega arith))
      (λ k a is. reads_bind _ (λ m. Bind (IsPathAt k n least) (λ p. Pure (record { path = p; mode = mode_of m }))) (number_in 0 1 0 4) (λ m bytes. path_in k n least bytes >>= λ p. Ok (record { path = p.0; mode = mode_of m }, p.1))
      (reads_number 0 1 0 4 (inl refl) (omega arith) (omega arith))
      (λ m b are. reads_bind _ (λ p. Pure (record { path = p; mode = mode_of m })) (path_in k n least) (λ p bytes. Ok (record { path = p; mode = mode_of m }, bytes)) (reads_path k is.above is.below) (λ p c these. reads_pure (record { path = p; mode = mode_of m })))))
    where
      top : (b c : Bool) → cond b 1 (cond c 2 3) ≤ 3
      top true c = omega arith
      top false true = omega arith
      top false false = omega arith

-- ---- so many locks

keeps_least : (n least : ℕ) (l : Held) (b : List ℕ) → LeastFits (suc n) least → IsItemAt (λ (l : Held). path_rank l.path) LockFits lock_bytes paths n least l b → LeastFits n (path_rank l.path + 1)
keeps_least n least l b v is = let below = is.below in let few = v.few in record { some = omega arith; few = omega arith }

pub reads_locks : (n : ℕ) → n ≤ places → Reads (AreItems (λ (l : Held). path_rank l.path) LockFits lock_bytes n 0) (many_in lock_in lock_after n 0)
reads_locks n few =
    reads_same (Many (λ k least. IsItemAt (λ (l : Held). path_rank l.path) LockFits lock_bytes paths k least) lock_after n 0) (AreItems (λ (l : Held). path_rank l.path) LockFits lock_bytes n 0) (many_in lock_in lock_after n 0)
    (λ ls bytes is. items_to (λ (l : Held). path_rank l.path) LockFits lock_bytes paths (λ l fits. path_below l.path fits) n 0 ls bytes is)
    (λ ls bytes are. items_from (λ (l : Held). path_rank l.path) LockFits lock_bytes paths (λ l fits. path_below l.path fits) n 0 ls bytes are)
    (reads_many (λ k least. IsItemAt (λ (l : Held). path_rank l.path) LockFits lock_bytes paths k least) lock_in lock_after LeastFits (λ k least v. reads_lock k least v) keeps_least n 0 (record { some = omega arith; few = few }))
