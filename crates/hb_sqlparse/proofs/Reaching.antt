-- What the loop over a line's tokens keeps, and what it tells at its end.
use Rattle.std.proofs.Common.{◌≡◌, ℕ, ◌+◌, arith, List, [], ◌∷◌, ◌++◌, length, map, Option, Some, None, option_map, refl, sym, ap, ◌∙◌, subst, append_assoc}
use Rattle.std.specs.Prelude.{slice_get, slice_index_or, unwrap_or, ◌<◌, Err, IsErrOf}
use Rattle.std.specs.List.{All}
use Rattle.hb_sqlparse.specs.declared.fault.ParseFault.TheVariants as fault
use Rattle.std.proofs.lemmas.List.{append-nil, map-append, length-map, length-append}
use Rattle.std.proofs.lemmas.Option.{slice_get_past}
use Rattle.hb_model.specs.declared.script.Item.{Item}
use Rattle.hb_sqltoken.specs.declared.token.Token.{Token}
use Rattle.hb_sqltoken.specs.declared.token.Placed.{Placed}
use Rattle.hb_sqltoken.specs.Tokens.{tokens_of}
use Rattle.hb_sqlcond.specs.Runs.{here, next}
use Rattle.hb_sqlsteps.specs.declared.line.Line.{Line}
use Rattle.hb_sqlsteps.specs.declared.line.Line.TheVariants as line
use Rattle.hb_sqlsteps.specs.LineSteps.{step_line, whole_line}
use Rattle.hb_sqlparse.specs.Grammar.{IsLine, FirstDead}
use Rattle.hb_sqlparse.specs.Lines.{tokens_in, IsRefused}
use Rattle.hb_sqlparse.specs.Laws.{ReadsLines}
use Rattle.hb_sqlparse.proofs.Going.{and_then, frame}
use Rattle.hb_sqlparse.proofs.Places.{Led, first_dead, first_none, line_is}

abbrev pub token_of : Placed → Token
token_of p = p.token

-- what has been taken of the line led to the place, and this is left
pub record Reached (line : List ℕ) (left : List Placed) (l : Line) : Type 0 where
  pub front : List Placed
  pub is : front ++ left ≡ tokens_of line
  pub led : Led (map token_of front) l

pub reached_start : (bytes : List ℕ) → Reached bytes (tokens_of bytes) line.Start
reached_start bytes = record { front = []; is = refl; led = here }

pub reached_more : (line : List ℕ) (left rest : List Placed) (p : Placed) (l m : Line) → Reached line left l → left ≡ p ∷ rest → step_line l p.token ≡ Some m → Reached line rest m
reached_more line left rest p l m x h e = record {
  front = x.front ++ (p ∷ []);
  is = append_assoc x.front (p ∷ []) rest ∙ (ap (λ (s : List Placed). x.front ++ s) (sym h) ∙ x.is);
  led = subst (λ (s : List Token). Led s m) (sym (map-append token_of x.front (p ∷ []))) (and_then (frame x.led (p.token ∷ [])) (next e here));
}

at_front : (front rest : List Placed) (p : Placed) → slice_get (front ++ (p ∷ rest)) (length front) ≡ Some p
at_front [] rest p = refl
at_front (q ∷ front) rest p = at_front front rest p

module _ (law : ReadsLines) where
  -- the next token is refused
  pub reached_dead : (line : List ℕ) (left rest : List Placed) (p : Placed) (l : Line) → Reached line left l → left ≡ p ∷ rest → step_line l p.token ≡ None → IsRefused line (p.place + 1)
  reached_dead line left rest p l x h e =
      let whole : x.front ++ (p ∷ rest) ≡ tokens_of line = ap (λ (s : List Placed). x.front ++ s) (sym h) ∙ x.is in
      let tokens : map token_of x.front ++ (p.token ∷ map token_of rest) ≡ tokens_in line = sym (map-append token_of x.front (p ∷ rest)) ∙ ap (map token_of) whole in
      let d : FirstDead (tokens_in line) (length x.front) =
      subst (λ (n : ℕ). FirstDead (tokens_in line) n) (length-map x.front token_of)
      (subst (λ (s : List Token). FirstDead s (length (map token_of x.front))) tokens (first_dead law (map token_of x.front) (map token_of rest) p.token l x.led e)) in
      let at : slice_get (tokens_of line) (length x.front) ≡ Some p = ap (λ (s : List Placed). slice_get s (length x.front)) (sym whole) ∙ at_front x.front rest p in
      (length x.front, d, ap (λ (o : Option Placed). unwrap_or (option_map (λ (q : Placed). q.place + 1) o) (length line + 1)) (sym at))

  -- no token is left
  front_all : (line : List ℕ) (left : List Placed) (l : Line) → (x : Reached line left l) → left ≡ [] → map token_of x.front ≡ tokens_in line
  front_all line left l x h = ap (map token_of) (sym (append-nil x.front) ∙ (ap (λ (s : List Placed). x.front ++ s) (sym h) ∙ x.is))

  pub reached_none : (line : List ℕ) (left : List Placed) (l : Line) → Reached line left l → left ≡ [] → whole_line l ≡ None → IsRefused line (length line + 1)
  reached_none line left l x h e =
      let all = front_all line left l x h in
      let d : FirstDead (tokens_in line) (length (tokens_of line)) =
      subst (λ (n : ℕ). FirstDead (tokens_in line) n) (length-map (tokens_of line) token_of)
      (subst (λ (s : List Token). FirstDead s (length s)) all (first_none law (map token_of x.front) l x.led e)) in
      let at : slice_get (tokens_of line) (length (tokens_of line)) ≡ None = slice_get_past (tokens_of line) (length (tokens_of line)) (omega arith) in
      (length (tokens_of line), d, ap (λ (o : Option Placed). unwrap_or (option_map (λ (q : Placed). q.place + 1) o) (length line + 1)) (sym at))

  pub reached_line : (line : List ℕ) (left : List Placed) (l : Line) (i : Item) → Reached line left l → left ≡ [] → whole_line l ≡ Some i → IsLine i (tokens_in line)
  reached_line line left l i x h e = subst (IsLine i) (front_all line left l x h) (line_is law (map token_of x.front) l i x.led e)

pub reached_init : (bytes : List ℕ) (q t : List Placed) → q ≡ t → t ≡ tokens_of bytes → Reached bytes q line.Start
reached_init bytes q t h e = subst (λ (s : List Placed). Reached bytes s line.Start) (sym (h ∙ e)) (reached_start bytes)

at_index : (front rest : List Placed) (p d : Placed) → slice_index_or (front ++ (p ∷ rest)) (length front) d ≡ p
at_index [] rest p d = refl
at_index (q ∷ front) rest p d = at_index front rest p d

-- the next token's place is within the line
pub place_low : (line : List ℕ) (left rest : List Placed) (p : Placed) (l : Line) → Reached line left l → left ≡ p ∷ rest → All (λ (t : Placed). t.place < length line) (tokens_of line) → p.place < length line
place_low line left rest p l x h low =
    let whole : x.front ++ (p ∷ rest) ≡ tokens_of line = ap (λ (s : List Placed). x.front ++ s) (sym h) ∙ x.is in
    let all : All (λ (t : Placed). t.place < length line) (x.front ++ (p ∷ rest)) = subst (All (λ (t : Placed). t.place < length line)) (sym whole) low in
    subst (λ (q : Placed). q.place < length line) (at_index x.front rest p p) (all (length x.front) p (omega (arith, length-append x.front (p ∷ rest))))

pub refused_at : (line : List ℕ) (n : ℕ) → IsRefused line n → (byte : ℕ) → IsErrOf {T = Item} (Err (fault.Syntax n)) (fault.Syntax byte) → IsRefused line byte
refused_at line n x byte is = let same : n ≡ byte = cc is in subst (IsRefused line) same x
