-- Steps of a search for a byte.
use Rattle.std.proofs.Common.{◌≡◌, ◌≢◌, ℕ, ◌+◌, ◌<◌, ◌≤◌, List, [], ◌∷◌, ◌++◌, length, get_or, take, drop, refl, sym, ◌∙◌, ap, append_assoc}
use Rattle.std.specs.Prelude.{Some, None}
use Rattle.std.specs.Option.{option_map}
use Rattle.std.specs.declared.option.Option.{Option}
use Rattle.std.proofs.lemmas.List.{append-nil, drop_more, drop_all, take_more}
use Rattle.hb_lines.specs.Cuts.{behind, cut_at}
use Rattle.hb_lines.proofs.SplitLemmas.{cut_front, cut_later}

behind_twice : (front : List ℕ) (x : ℕ) (o : Option (List ℕ × List ℕ)) → option_map (behind front) (option_map (behind (x ∷ [])) o) ≡ option_map (behind (front ++ x ∷ [])) o
behind_twice front x None = refl
behind_twice front x (Some p) = ap (λ (l : List ℕ). Some (l, p.1)) (sym (append_assoc front (x ∷ []) p.0))

pub cut_here : (bytes : List ℕ) (c i : ℕ) → i < length bytes → get_or bytes i 0 ≡ c → cut_at c bytes ≡ option_map (behind (take i bytes)) (cut_at c (drop i bytes)) → cut_at c bytes ≡ Some (take i bytes, drop (i + 1) bytes)
cut_here bytes c i lt here kept =
    kept ∙ ap (λ (l : List ℕ). option_map (behind (take i bytes)) (cut_at c l)) (drop_more bytes i 0 lt)
    ∙ ap (λ (o : Option (List ℕ × List ℕ)). option_map (behind (take i bytes)) o) (cut_front c (get_or bytes i 0) (drop (i + 1) bytes) here)
    ∙ ap (λ (l : List ℕ). Some (l, drop (i + 1) bytes)) (append-nil (take i bytes))

pub cut_more : (bytes : List ℕ) (c i : ℕ) → i < length bytes → get_or bytes i 0 ≢ c → cut_at c bytes ≡ option_map (behind (take i bytes)) (cut_at c (drop i bytes)) → cut_at c bytes ≡ option_map (behind (take (i + 1) bytes)) (cut_at c (drop (i + 1) bytes))
cut_more bytes c i lt other kept =
    kept ∙ ap (λ (l : List ℕ). option_map (behind (take i bytes)) (cut_at c l)) (drop_more bytes i 0 lt)
    ∙ ap (λ (o : Option (List ℕ × List ℕ)). option_map (behind (take i bytes)) o) (cut_later c (get_or bytes i 0) (drop (i + 1) bytes) other)
    ∙ behind_twice (take i bytes) (get_or bytes i 0) (cut_at c (drop (i + 1) bytes))
    ∙ ap (λ (l : List ℕ). option_map (behind l) (cut_at c (drop (i + 1) bytes))) (sym (take_more bytes i 0 lt))

pub cut_start : (bytes : List ℕ) (c : ℕ) → cut_at c bytes ≡ option_map (behind []) (cut_at c bytes)
cut_start bytes c = elim (cut_at c bytes) as (λ o. o ≡ option_map (behind []) o) [ None ↦ refl | Some p ↦ refl ]

pub cut_none : (bytes : List ℕ) (c i : ℕ) → length bytes ≤ i → cut_at c bytes ≡ option_map (behind (take i bytes)) (cut_at c (drop i bytes)) → cut_at c bytes ≡ None
unfolding cut_at
cut_none bytes c i past kept = kept ∙ ap (λ (l : List ℕ). option_map (behind (take i bytes)) (cut_at c l)) (drop_all i bytes past)
