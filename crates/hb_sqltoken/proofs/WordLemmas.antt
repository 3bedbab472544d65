-- Reserved words in any case.
use Rattle.std.proofs.Common.{◌≡◌, ℕ, ◌<◌, ◌≤◌, Bool, true, false, ◌&&◌, ◌||◌, List, [], ◌∷◌, refl, sym, ap, ◌∙◌, arith, Some, find, subst}
use Rattle.std.specs.Prelude.{nat_lt}
use Rattle.std.specs.List.{All}
use Rattle.std.specs.Str.{str_to_ascii_lowercase, str_eq_ignore_ascii_case, bytes_eq}
use Rattle.std.specs.Char.{to_ascii_lowercase}
use Rattle.std.specs.Cmp.Lexicographic.{bytes_decides}
use Rattle.std.proofs.lemmas.Bool.{le-leb, ltb-true, ltb-false, and_parts}
use Rattle.std.proofs.lemmas.List.Elements.{All-nil, All-cons}
use Rattle.hb_sqltoken.specs.declared.token.Word.{Word}
use Rattle.hb_sqltoken.specs.declared.token.Word.TheVariants as word
use Rattle.hb_sqltoken.specs.Kinds.{is_letter, in_name}
use Rattle.hb_sqltoken.specs.Words.{spelling, reserved, word_of}
use Rattle.hb_sqltoken.proofs.Runs.{by_test}

find_passes : (p : Word → Bool) (ws : List Word) (w : Word) → find p ws ≡ Some w → p w ≡ true
find_passes p [] w e = absurd (cc)
find_passes p (v ∷ ws) w e =
    by_test (p v)
    (λ t. let q = rw t at e in let s : v ≡ w = cc in subst (λ x. p x ≡ true) s t)
    (λ f. find_passes p ws w (rw f at e))

pub word_lower : (name : List ℕ) (w : Word) → word_of name ≡ Some w → str_to_ascii_lowercase name ≡ str_to_ascii_lowercase (spelling w)
unfolding word_of
word_lower name w e = sym ((bytes_decides _ _).0 (find_passes (λ v. str_eq_ignore_ascii_case (spelling v) name) reserved w e))

spelling_is : (w : Word) → word_of (spelling w) ≡ Some w
unfolding word_of reserved spelling
spelling_is word.Add = refl
spelling_is word.Alter = refl
spelling_is word.And = refl
spelling_is word.Area = refl
spelling_is word.At = refl
spelling_is word.Barrier = refl
spelling_is word.By = refl
spelling_is word.Commit = refl
spelling_is word.Count = refl
spelling_is word.Create = refl
spelling_is word.Delete = refl
spelling_is word.Exclusive = refl
spelling_is word.From = refl
spelling_is word.Give = refl
spelling_is word.Hash = refl
spelling_is word.Hasha = refl
spelling_is word.In = refl
spelling_is word.Insert = refl
spelling_is word.Integer = refl
spelling_is word.Into = refl
spelling_is word.Lock = refl
spelling_is word.Mode = refl
spelling_is word.Not = refl
spelling_is word.On = refl
spelling_is word.Or = refl
spelling_is word.Pdrbal = refl
spelling_is word.Rdarea = refl
spelling_is word.Rollback = refl
spelling_is word.Select = refl
spelling_is word.Set = refl
spelling_is word.Share = refl
spelling_is word.Start = refl
spelling_is word.Step = refl
spelling_is word.Stop = refl
spelling_is word.Sum = refl
spelling_is word.Sync = refl
spelling_is word.Table = refl
spelling_is word.Update = refl
spelling_is word.Values = refl
spelling_is word.Varchar = refl
spelling_is word.Where = refl

same_lower : (a b : List ℕ) → str_to_ascii_lowercase a ≡ str_to_ascii_lowercase b → word_of a ≡ word_of b
unfolding word_of
same_lower a b e = ap (λ l. find (λ v. bytes_eq (str_to_ascii_lowercase (spelling v)) l) reserved) e

pub lower_word : (name : List ℕ) (w : Word) → str_to_ascii_lowercase name ≡ str_to_ascii_lowercase (spelling w) → word_of name ≡ Some w
lower_word name w e = same_lower name (spelling w) e ∙ spelling_is w

-- ---- a word's bytes are letters

abbrev all_letters : List ℕ → Bool
all_letters [] = true
all_letters (b ∷ s) = is_letter b && all_letters s

spelling_letters : (w : Word) → all_letters (str_to_ascii_lowercase (spelling w)) ≡ true
unfolding spelling is_letter
spelling_letters word.Add = refl
spelling_letters word.Alter = refl
spelling_letters word.And = refl
spelling_letters word.Area = refl
spelling_letters word.At = refl
spelling_letters word.Barrier = refl
spelling_letters word.By = refl
spelling_letters word.Commit = refl
spelling_letters word.Count = refl
spelling_letters word.Create = refl
spelling_letters word.Delete = refl
spelling_letters word.Exclusive = refl
spelling_letters word.From = refl
spelling_letters word.Give = refl
spelling_letters word.Hash = refl
spelling_letters word.Hasha = refl
spelling_letters word.In = refl
spelling_letters word.Insert = refl
spelling_letters word.Integer = refl
spelling_letters word.Into = refl
spelling_letters word.Lock = refl
spelling_letters word.Mode = refl
spelling_letters word.Not = refl
spelling_letters word.On = refl
spelling_letters word.Or = refl
spelling_letters word.Pdrbal = refl
spelling_letters word.Rdarea = refl
spelling_letters word.Rollback = refl
spelling_letters word.Select = refl
spelling_letters word.Set = refl
spelling_letters word.Share = refl
spelling_letters word.Start = refl
spelling_letters word.Step = refl
spelling_letters word.Stop = refl
spelling_letters word.Sum = refl
spelling_letters word.Sync = refl
spelling_letters word.Table = refl
spelling_letters word.Update = refl
spelling_letters word.Values = refl
spelling_letters word.Varchar = refl
spelling_letters word.Where = refl

or_right : (a : Bool) → (a || true) ≡ true
or_right true = refl
or_right false = refl

letter_lower : (b : ℕ) → is_letter (to_ascii_lowercase b) ≡ true → is_letter b ≡ true
unfolding is_letter
letter_lower b h =
    by_test (nat_lt b 65)
    (λ t. rw t at h)
    (λ f. by_test (nat_lt b 91)
    (λ t. let x : 65 ≤ b = ltb-false b 65 f in let y : b < 91 = ltb-true b 91 t in
    rw (le-leb 65 b x, le-leb b 90 (omega arith)) refl)
    (λ g. rw (f, g) at h))

pub letter_in_name : (b : ℕ) → is_letter b ≡ true → in_name b ≡ true
unfolding in_name
letter_in_name b t = rw t refl

letters_up : (s : List ℕ) → all_letters (str_to_ascii_lowercase s) ≡ true → All (λ b. is_letter b ≡ true) s
letters_up [] h = All-nil (λ b. is_letter b ≡ true)
letters_up (b ∷ s) h =
    let p = and_parts (is_letter (to_ascii_lowercase b)) (all_letters (str_to_ascii_lowercase s)) h in
    All-cons (λ b. is_letter b ≡ true) b s (letter_lower b p.0) (letters_up s p.1)

pub word_letters : (name : List ℕ) (w : Word) → word_of name ≡ Some w → All (λ b. is_letter b ≡ true) name
word_letters name w e = letters_up name (ap all_letters (word_lower name w e) ∙ spelling_letters w)
