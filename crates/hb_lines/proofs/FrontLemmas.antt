-- How bytes are passed, and what a cut says.
use Rattle.std.proofs.Common.{◌≡◌, ℕ, ◌+◌, ◌-◌, ◌<◌, ◌≤◌, List, [], ◌∷◌, ◌++◌, length, take, drop, refl, sym, ◌∙◌, ap, arith, length-append, append_assoc}
use Rattle.std.specs.Prelude.{Some, None, Option}
use Rattle.std.proofs.lemmas.List.{drop-take, drop-drop, length-take}
use Rattle.std.proofs.Math.Seq.{drop-append-add}
use Rattle.hb_lines.specs.Lines.{lines_of, without_return}
use Rattle.hb_lines.specs.Cuts.{cut_at}
use Rattle.hb_lines.proofs.SplitLemmas.{cut_sound, cut_clean, cut_none}
use Rattle.hb_lines.proofs.LineLemmas.{return_length, no_feed_append, front_line, only_line}
use Rattle.hb_lines.specs.Saying.{most_bytes}
use Rattle.hb_lines.specs.Parts.{NoFeed}
use Rattle.hb_lines.specs.Next.{IsTooLong}

-- ---- passing

pub pass_is : (at end count : ℕ) (xs : List ℕ) → count ≤ length (take (end - at) (drop at xs)) → take (end - (at + count)) (drop (at + count) xs) ≡ drop count (take (end - at) (drop at xs))
pass_is at end count xs few =
    let room : count ≤ end - at = omega (arith, length-take (end - at) (drop at xs)) in
    let left : end - at ≡ count + (end - (at + count)) = omega arith in
    sym (ap (λ (k : ℕ). drop count (take k (drop at xs))) left ∙ drop-take count (end - (at + count)) (drop at xs) ∙ ap (take (end - (at + count))) (drop-drop count at xs))

-- what a cut at a line feed says
pub record Cut (bytes front rest : List ℕ) : Type 0 where
  pub split : bytes ≡ front ++ 10 ∷ rest
  pub clean : NoFeed front
  pub behind : drop (length front + 1) bytes ≡ rest
  pub within : length front + 1 ≤ length bytes

pub cut_is : (bytes front rest : List ℕ) → Some (front, rest) ≡ cut_at 10 bytes → Cut bytes front rest
cut_is bytes front rest is =
    let split : bytes ≡ front ++ 10 ∷ rest = cut_sound 10 bytes (front, rest) (sym is) in
    record {
      split = split;
      clean = cut_clean 10 bytes (front, rest) (sym is);
      behind = ap (drop (length front + 1)) split ∙ drop-append-add front (10 ∷ rest) 1;
      within = omega (arith, ap length split, length-append front (10 ∷ rest));
    }

-- ---- lines that are too long

-- a line that begins with so many bytes is too long, whatever follows
pub long_first : (part rest : List ℕ) → NoFeed part → most_bytes + 1 < length part → IsTooLong (part ++ rest)
long_first part rest clean long = by (cut_at 10 rest) refl
  where
    by : (o : Option (List ℕ × List ℕ)) → cut_at 10 rest ≡ o → IsTooLong (part ++ rest)
    by None is = record {
      line = without_return (part ++ rest);
      others = [];
      lines = only_line (part ++ rest) (no_feed_append part rest clean (cut_none 10 rest is)) (omega (arith, long, length-append part rest));
      long = omega (arith, long, return_length (part ++ rest), length-append part rest);
    }
    by (Some parts) is =
        let split : part ++ rest ≡ (part ++ parts.0) ++ 10 ∷ parts.1 = ap (λ (l : List ℕ). part ++ l) (cut_sound 10 rest parts is) ∙ sym (append_assoc part parts.0 (10 ∷ parts.1)) in
        record {
          line = without_return (part ++ parts.0);
          others = lines_of parts.1;
          lines = ap lines_of split ∙ front_line (part ++ parts.0) parts.1 (no_feed_append part parts.0 clean (cut_clean 10 rest parts is));
          long = omega (arith, long, return_length (part ++ parts.0), length-append part parts.0);
        }
