-- A line while it is taken: the part that was taken, and what is left.
use Rattle.std.proofs.Common.{◌≡◌, ℕ, ◌+◌, ◌<◌, ◌≤◌, List, [], ◌∷◌, ◌++◌, length, true, false, Bool, refl, sym, ◌∙◌, ap, subst, arith, length-append, append_assoc}
use Rattle.std.specs.Prelude.{Some, None, Option, IfSome, Ok, nat_lt}
use Rattle.std.proofs.lemmas.List.{append-nil}
use Rattle.hb_edge.specs.Streams.{with_front}
use Rattle.hb_lines.specs.Lines.{lines_of, without_return}
use Rattle.hb_lines.proofs.LineLemmas.{no_feed_append, front_line, only_line, no_lines}
use Rattle.hb_lines.specs.Saying.{most_bytes}
use Rattle.hb_lines.specs.Parts.{NoFeed, TakesPart, NoLine, TakenLine, TakesLine}
use Rattle.hb_lines.specs.Next.{IsTooLong}
use Rattle.hb_lines.proofs.Causes.{past, not_past}
use Rattle.hb_lines.proofs.FrontLemmas.{long_first}

pub record Reading (start : Option (List ℕ)) (front unread : List ℕ) (told : Option (List ℕ)) (most bound : ℕ) : Type 0 where
  pub clean : NoFeed front
  pub rest : start ≡ with_front front (with_front unread told)
  pub taken : most ≡ length front + length unread + bound

front_twice : (xs ys : List ℕ) (told : Option (List ℕ)) → with_front xs (with_front ys told) ≡ with_front (xs ++ ys) told
front_twice xs ys None = refl
front_twice xs ys (Some zs) = ap (λ (l : List ℕ). Some l) (sym (append_assoc xs ys zs))

no_front : (told : Option (List ℕ)) → told ≡ with_front [] told
no_front None = refl
no_front (Some xs) = refl

pub begins : (front unread : List ℕ) (told : Option (List ℕ)) (most bound : ℕ) → front ≡ [] → most ≡ length unread + bound → Reading (with_front unread told) front unread told most bound
begins front unread told most bound empty is = subst (λ (l : List ℕ). Reading (with_front unread told) l unread told most bound) (sym empty) (record {
  clean = tt;
  rest = no_front (with_front unread told);
  taken = omega arith;
})

-- ---- a line feed was found

found_at : (part bytes rest : List ℕ) (told : Option (List ℕ)) → NoFeed (part ++ bytes) → TakenLine (part ++ bytes) (with_front part (with_front (bytes ++ 10 ∷ rest) told)) (with_front rest told)
found_at part bytes rest None clean = (refl, tt)
found_at part bytes rest (Some xs) clean =
    let input : part ++ ((bytes ++ 10 ∷ rest) ++ xs) ≡ (part ++ bytes) ++ 10 ∷ (rest ++ xs) = ap (λ (l : List ℕ). part ++ l) (append_assoc bytes (10 ∷ rest) xs) ∙ sym (append_assoc part bytes (10 ∷ (rest ++ xs))) in
    (refl, ap lines_of input ∙ front_line (part ++ bytes) (rest ++ xs) clean)

pub found : (start : Option (List ℕ)) (front front' unread rest : List ℕ) (told : Option (List ℕ)) (most bound : ℕ) → Reading start front unread told most bound → TakesPart true front front' unread rest → TakenLine front' start (with_front rest told)
found start front front' unread rest told most bound reading takes =
    let input : start ≡ with_front front (with_front (takes.bytes ++ 10 ∷ rest) told) = reading.rest ∙ ap (λ (l : List ℕ). with_front front (with_front l told)) takes.split in
    subst (λ (s : Option (List ℕ)). TakenLine front' s (with_front rest told)) (sym input)
    (subst (λ (l : List ℕ). TakenLine l (with_front front (with_front (takes.bytes ++ 10 ∷ rest) told)) (with_front rest told)) (sym takes.kept)
    (found_at front takes.bytes rest told (no_feed_append front takes.bytes reading.clean takes.clean)))

pub found_fewer : (start : Option (List ℕ)) (front front' unread rest : List ℕ) (told : Option (List ℕ)) (most bound : ℕ) → Reading start front unread told most bound → TakesPart true front front' unread rest → length rest + bound < most
found_fewer start front front' unread rest told most bound reading takes = omega (arith, reading.taken, ap length takes.split, length-append takes.bytes (10 ∷ rest))

-- ---- none was found, and the next piece was taken

pub goes_on : (start : Option (List ℕ)) (front front' unread rest next : List ℕ) (told told' : Option (List ℕ)) (most bound bound' : ℕ) → Reading start front unread told most bound → TakesPart false front front' unread rest → told ≡ with_front next told' → length next + bound' ≡ bound → Reading start front' next told' most bound'
goes_on start front front' unread rest next told told' most bound bound' reading takes piece fewer = record {
  clean = subst NoFeed (sym takes.kept) (no_feed_append front takes.bytes reading.clean takes.clean);
  rest = reading.rest ∙ ap (λ (l : List ℕ). with_front front (with_front l told)) takes.split.0 ∙ ap (λ (t : Option (List ℕ)). with_front front (with_front takes.bytes t)) piece ∙ front_twice front takes.bytes (with_front next told')
      ∙ ap (λ (l : List ℕ). with_front l (with_front next told')) (sym takes.kept);
  taken = omega (arith, reading.taken, ap length takes.split.0, ap length takes.kept, length-append front takes.bytes, fewer);
}

-- ---- the end

none : (xs : List ℕ) → length xs < 1 → xs ≡ []
none [] few = refl
none (x ∷ xs) few = absurd (omega arith)

ended_at : (told : Option (List ℕ)) → IfSome told (λ rest. rest ≡ []) → NoLine (with_front [] (with_front [] told)) (with_front [] told)
ended_at None end = tt
ended_at (Some xs) end = (end, ap (λ (l : List ℕ). Some l) end)

last_at : (part : List ℕ) (told : Option (List ℕ)) → NoFeed part → 0 < length part → IfSome told (λ rest. rest ≡ []) → TakenLine part (with_front part (with_front [] told)) (with_front [] told)
last_at part None clean some end = (refl, tt)
last_at part (Some xs) clean some end =
    let input : part ++ xs ≡ part = ap (λ (l : List ℕ). part ++ l) end ∙ append-nil part in
    (refl, ap lines_of input ∙ only_line part clean some ∙ ap (λ (ls : List (List ℕ)). without_return part ∷ ls) (sym (ap lines_of end ∙ no_lines)))

-- the source has ended: what was taken is the last line, if it is anything
pub ends : (some : Bool) (start : Option (List ℕ)) (front unread : List ℕ) (told : Option (List ℕ)) (most bound before now : ℕ) → Reading start front unread told most bound → length unread < 1 → IfSome told (λ rest. rest ≡ []) → some ≡ nat_lt 0 (length front) → TakesLine start (with_front unread told) before now front (Ok some)
ends true start front unread told most bound before now reading few end is =
    let nothing : unread ≡ [] = none unread few in
    let input : start ≡ with_front front (with_front [] told) = reading.rest ∙ ap (λ (l : List ℕ). with_front front (with_front l told)) nothing in
    subst (λ (s : Option (List ℕ)). TakenLine front s (with_front unread told)) (sym input)
    (subst (λ (l : List ℕ). TakenLine front (with_front front (with_front [] told)) (with_front l told)) (sym nothing) (last_at front told reading.clean (past 0 (length front) true is refl) end))
ends false start front unread told most bound before now reading few end is =
    let nothing : unread ≡ [] = none unread few in
    let empty : length front ≤ 0 = not_past 0 (length front) false is refl in
    let no_part : front ≡ [] = none front (omega arith) in
    let input : start ≡ with_front [] (with_front [] told) = reading.rest ∙ ap (λ (l : List ℕ). with_front l (with_front unread told)) no_part ∙ ap (λ (l : List ℕ). with_front [] (with_front l told)) nothing in
    subst (λ (s : Option (List ℕ)). NoLine s (with_front unread told)) (sym input)
    (subst (λ (l : List ℕ). NoLine (with_front [] (with_front [] told)) (with_front l told)) (sym nothing) (ended_at told end))

pub last_fewer : (start : Option (List ℕ)) (front unread : List ℕ) (told : Option (List ℕ)) (most bound : ℕ) (some : Bool) → Reading start front unread told most bound → some ≡ nat_lt 0 (length front) → some ≡ true → length unread + bound < most
last_fewer start front unread told most bound some reading is so = omega (arith, reading.taken, past 0 (length front) some is so)

-- ---- a line that is too long

long_at : (front bytes : List ℕ) (told : Option (List ℕ)) → NoFeed (front ++ bytes) → most_bytes + 1 < length (front ++ bytes) → IfSome (with_front front (with_front bytes told)) IsTooLong
long_at front bytes None clean long = tt
long_at front bytes (Some xs) clean long = subst IsTooLong (append_assoc front bytes xs) (long_first (front ++ bytes) xs clean long)

-- so many bytes were taken that the line is too long, wherever it ends
pub long_taken : (start : Option (List ℕ)) (front front' unread rest : List ℕ) (told : Option (List ℕ)) (most bound : ℕ) → Reading start front unread told most bound → TakesPart false front front' unread rest → most_bytes + 1 < length front' → IfSome start IsTooLong
long_taken start front front' unread rest told most bound reading takes long =
    let input : start ≡ with_front front (with_front takes.bytes told) = reading.rest ∙ ap (λ (l : List ℕ). with_front front (with_front l told)) takes.split.0 in
    subst (λ (s : Option (List ℕ)). IfSome s IsTooLong) (sym input)
    (long_at front takes.bytes told (no_feed_append front takes.bytes reading.clean takes.clean) (subst (λ (l : List ℕ). most_bytes + 1 < length l) takes.kept long))
