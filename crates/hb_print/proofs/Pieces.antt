-- Pieces of a text, one after another.
use Rattle.std.proofs.Common.{◌≡◌, ℕ, ◌+◌, ◌<◌, ◌≤◌, List, [], ◌∷◌, ◌++◌, length, drop, get_or, map, Bool, true, false, ◌==◌, codes, refl, sym, ap, ◌∙◌, append_assoc, append-nil}
use Rattle.std.specs.List.{flat_map}
use Rattle.std.proofs.lemmas.List.{drop_more, drop_all}
use Rattle.hb_types.specs.declared.value.Value.{Value}
use Rattle.hb_types.specs.declared.answer.Edge.{Edge}
use Rattle.hb_model.specs.declared.line.Line.{Line}
use Rattle.hb_print.specs.Records.{doubled, field_text, value_text, further_fields}
use Rattle.hb_print.specs.Places.{edge_text, further_edges}
use Rattle.hb_print.specs.Replies.{last_line}
use Rattle.hb_print.specs.Texts.{session_text, rows_of, row_line, lines_of, with_session, text_of}

pub ruleset pieces = append_assoc

-- one round of a loop that writes pieces
pub goes : (out new piece rest now all : List ℕ) → new ≡ out ++ piece → now ≡ piece ++ rest → out ++ now ≡ all → new ++ rest ≡ all
goes out new piece rest now all n m e = ap (λ x. x ++ rest) n ∙ append_assoc out piece rest ∙ ap (λ x. out ++ x) (sym m) ∙ e

-- its end
pub ends : (out now all : List ℕ) → now ≡ [] → out ++ now ≡ all → out ≡ all
ends out now all n e = sym (append-nil out) ∙ (ap (λ x. out ++ x) (sym n) ∙ e)

pub doubled_ends : (s : List ℕ) (i : ℕ) → length s ≤ i → doubled (drop i s) ≡ []
unfolding doubled
doubled_ends s i h = ap doubled (drop_all i s h)

pub doubled_go : (s : List ℕ) (i : ℕ) → i < length s → doubled (drop i s) ≡ doubled (get_or s i 0 ∷ []) ++ doubled (drop (i + 1) s)
unfolding doubled
doubled_go s i h =
    let b = get_or s i 0 in
    rw (drop_more s i 0 h) (by_test (b == 34) (λ t. rw t refl) (λ f. rw f refl))
  where
    by_test : {G : Type 0} (t : Bool) → (t ≡ true → G) → (t ≡ false → G) → G
    by_test true f g = f refl
    by_test false f g = g refl

-- one round that writes two pieces
pub goes_on : (out mid new a b rest now all : List ℕ) → mid ≡ out ++ a → new ≡ mid ++ b → now ≡ (a ++ b) ++ rest → out ++ now ≡ all → new ++ rest ≡ all
goes_on out mid new a b rest now all m n e k = goes out new (a ++ b) rest now all (n ∙ ap (λ x. x ++ b) m ∙ append_assoc out a b) e k

pub fields_end : (vs : List Value) (i : ℕ) → length vs ≤ i → further_fields (drop i vs) ≡ []
unfolding further_fields
fields_end vs i h = ap further_fields (drop_all i vs h)

pub fields_go : (vs : List Value) (i : ℕ) (d : Value) → i < length vs → further_fields (drop i vs) ≡ (44 ∷ field_text (value_text (get_or vs i d))) ++ further_fields (drop (i + 1) vs)
unfolding further_fields
fields_go vs i d h = rw (drop_more vs i d h) refl

pub edges_end : (names : List (List ℕ)) (es : List Edge) (i : ℕ) → length es ≤ i → further_edges names (drop i es) ≡ []
unfolding further_edges
edges_end names es i h = ap (further_edges names) (drop_all i es h)

pub edges_go : (names : List (List ℕ)) (es : List Edge) (i : ℕ) (d : Edge) → i < length es → further_edges names (drop i es) ≡ (codes "; " ++ edge_text names (get_or es i d)) ++ further_edges names (drop (i + 1) es)
unfolding further_edges
edges_go names es i d h = rw (drop_more es i d h) refl

pub rows_end : (session : List ℕ) (rows : List (List Value)) (i : ℕ) → length rows ≤ i → flat_map (with_session session) (map row_line (drop i rows)) ≡ []
rows_end session rows i h = ap (λ r. flat_map (with_session session) (map row_line r)) (drop_all i rows h)

pub rows_go : (session : List ℕ) (rows : List (List Value)) (i : ℕ) (d : List Value) → i < length rows
    → flat_map (with_session session) (map row_line (drop i rows)) ≡ with_session session (row_line (get_or rows i d)) ++ flat_map (with_session session) (map row_line (drop (i + 1) rows))
rows_go session rows i d h = ap (λ r. flat_map (with_session session) (map row_line r)) (drop_more rows i d h)

pub text_parts : (session : List ℕ) (rows last : List (List ℕ)) → flat_map (with_session session) (rows ++ last) ≡ flat_map (with_session session) rows ++ flat_map (with_session session) last
text_parts session [] last = refl
text_parts session (r ∷ rs) last =
    ap (λ x. with_session session r ++ x) (text_parts session rs last) ∙ sym (append_assoc (with_session session r) (flat_map (with_session session) rs) (flat_map (with_session session) last))

-- what is printed is the rows' lines and then the last line
pub text_is : (names : List (List ℕ)) (l : Line) → text_of names l ≡ flat_map (with_session (session_text names l.session)) (map row_line (rows_of l.reply)) ++ with_session (session_text names l.session) (last_line names l.reply)
unfolding text_of lines_of
text_is names l =
    let s = session_text names l.session in
    let k = last_line names l.reply in
    text_parts s (map row_line (rows_of l.reply)) (k ∷ []) ∙ ap (λ x. flat_map (with_session s) (map row_line (rows_of l.reply)) ++ x) (append-nil (with_session s k))

pub print_is : (names : List (List ℕ)) (l : Line) (session last out b : List ℕ) → session ≡ session_text names l.session → last ≡ last_line names l.reply
    → out ≡ flat_map (with_session session) (map row_line (rows_of l.reply)) ++ with_session session last → b ≡ out → b ≡ text_of names l
print_is names l session last out b s k o e =
    e ∙ o ∙ (λ i. flat_map (with_session (s i)) (map row_line (rows_of l.reply)) ++ with_session (s i) (k i)) ∙ sym (text_is names l)
