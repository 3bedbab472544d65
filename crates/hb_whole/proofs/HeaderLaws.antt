-- A header that is read is the only one.
use Rattle.std.proofs.Common.{◌≡◌, ℕ, List, ◌++◌, take, drop, replicate, sym, ◌∙◌, ap}
use Rattle.std.specs.Int.{w64, from_le_bytes}
use Rattle.std.proofs.lemmas.Nat.{from_le_bytes-to_le_bytes_8}
use Rattle.hb_types.specs.Numbers.{eight}
use Rattle.hb_whole.specs.declared.header.Header.{Header}
use Rattle.hb_whole.specs.Headers.{IsHeader, text_of}

-- the text of what is read from some bytes
abbrev pub read_again : List ℕ → List ℕ
read_again l =
    eight (from_le_bytes w64 (take 8 (drop 0 l))) ++ eight (from_le_bytes w64 (take 8 (drop 8 l))) ++ eight (from_le_bytes w64 (take 8 (drop 16 l)))
    ++ eight (from_le_bytes w64 (take 8 (drop 24 l))) ++ eight (from_le_bytes w64 (take 8 (drop 32 l))) ++ replicate 23 0

pub reads_again : (h : Header) → IsHeader h → (bytes : List ℕ) → bytes ≡ text_of h → read_again bytes ≡ bytes
reads_again h small bytes is =
    ap (λ (l : List ℕ). read_again l) is
    ∙ (λ i. eight (from_le_bytes-to_le_bytes_8 h.sequence small.0 i) ++ eight (from_le_bytes-to_le_bytes_8 h.from small.1 i) ++ eight (from_le_bytes-to_le_bytes_8 h.floor small.2 i)
    ++ eight (from_le_bytes-to_le_bytes_8 h.place small.3 i) ++ eight (from_le_bytes-to_le_bytes_8 h.length small.4 i) ++ replicate 23 0)
    ∙ sym is
