-- What a token is that a place goes on with.
use Rattle.std.proofs.Common.{◌≡◌, ℕ, zero, suc, ◌≤◌, Bool, true, false, ◌==◌, nat_le, ◌&&◌, if◌then◌else◌, List, [], ◌∷◌, Option, Some, None, option_map, refl, sym, ap, ◌∙◌, subst}
use Rattle.std.proofs.lemmas.Bool.{eqb-true, leb-true, le-leb}
use Rattle.hb_model.specs.declared.condition.Op.TheVariants as op
use Rattle.hb_sqltoken.specs.declared.token.Word.{Word}
use Rattle.hb_sqltoken.specs.declared.token.Word.TheVariants as word
use Rattle.hb_sqltoken.specs.declared.token.Token.{Token}
use Rattle.hb_sqltoken.specs.declared.token.Token.TheVariants as token
use Rattle.hb_sqlsteps.specs.declared.marks.Mark.{Mark}
use Rattle.hb_sqlsteps.specs.declared.marks.Mark.TheVariants as mark
use Rattle.hb_sqlsteps.specs.Marks.{word_number, is_word, is_mark, is_letter, on_word, on_mark, on_letter, on_name, on_number, name_of, number_of}

pub some_is : {A : Type 0} {x y : A} → Some x ≡ Some y → x ≡ y
some_is h = cc

pub none_is : {A : Type 0} {x : A} → None ≡ Some x → ⊥
none_is h = cc

pub mapped : {A B : Type 0} (F : B → Type 0) (f : A → B) (o : Option A) (y : B) → option_map f o ≡ Some y → ((x : A) → o ≡ Some x → F (f x)) → F y
mapped F f None y h g = absurd (none_is h)
mapped F f (Some x) y h g = subst F (some_is h) (g x refl)

pub found : {A B : Type 0} (f : A → B) (o : Option A) (y : B) → option_map f o ≡ Some y → (x : A) × (o ≡ Some x) × (f x ≡ y)
found f None y h = absurd (none_is h)
found f (Some x) y h = (x, refl, some_is h)

-- a test splits what follows
pub split_by : {A : Type 0} (F : Type 0) (b : Bool) (p q : Option A) (y : A) → (if b then p else q) ≡ Some y → (b ≡ true → p ≡ Some y → F) → (q ≡ Some y → F) → F
split_by F true p q y h f g = f refl h
split_by F false p q y h f g = g h

-- ---- words

-- the word of each number
abbrev numbered : List Word
numbered = word.Add ∷ word.Alter ∷ word.And ∷ word.Area ∷ word.At ∷ word.Barrier ∷ word.By ∷ word.Commit ∷ word.Count ∷ word.Create ∷ word.Delete ∷ word.Exclusive ∷ word.From ∷ word.Give ∷ word.Hash ∷ word.Hasha ∷ word.In ∷ word.Insert ∷ word.Integer ∷ word.Into ∷ word.Lock ∷ word.Mode ∷ word.Not ∷ word.On ∷ word.Or ∷ word.Pdrbal ∷ word.Rdarea ∷ word.Rollback ∷ word.Select ∷ word.Set ∷ word.Share ∷ word.Start ∷ word.Step ∷ word.Stop ∷ word.Sum ∷ word.Sync ∷ word.Table ∷ word.Update ∷ word.Values ∷ word.Varchar ∷ word.Where ∷ []

abbrev nth : List Word → ℕ → Word
nth [] n = word.Add
nth (w ∷ ws) zero = w
nth (w ∷ ws) (suc n) = nth ws n

of_number : (w : Word) → nth numbered (word_number w) ≡ w
of_number word.Add = refl
of_number word.Alter = refl
of_number word.And = refl
of_number word.Area = refl
of_number word.At = refl
of_number word.Barrier = refl
of_number word.By = refl
of_number word.Commit = refl
of_number word.Count = refl
of_number word.Create = refl
of_number word.Delete = refl
of_number word.Exclusive = refl
of_number word.From = refl
of_number word.Give = refl
of_number word.Hash = refl
of_number word.Hasha = refl
of_number word.In = refl
of_number word.Insert = refl
of_number word.Integer = refl
of_number word.Into = refl
of_number word.Lock = refl
of_number word.Mode = refl
of_number word.Not = refl
of_number word.On = refl
of_number word.Or = refl
of_number word.Pdrbal = refl
of_number word.Rdarea = refl
of_number word.Rollback = refl
of_number word.Select = refl
of_number word.Set = refl
of_number word.Share = refl
of_number word.Start = refl
of_number word.Step = refl
of_number word.Stop = refl
of_number word.Sum = refl
of_number word.Sync = refl
of_number word.Table = refl
of_number word.Update = refl
of_number word.Values = refl
of_number word.Varchar = refl
of_number word.Where = refl

same_word : (v w : Word) → (word_number v == word_number w) ≡ true → w ≡ v
same_word v w h = sym (of_number w) ∙ (ap (nth numbered) (sym (eqb-true (word_number v) (word_number w) h)) ∙ of_number v)

pub word_is : (w : Word) (t : Token) → is_word w t ≡ true → token.Word w ≡ t
word_is w (token.Word v) h = ap token.Word (same_word v w h)
word_is w token.Bad h = absurd (cc)
word_is w _ h = absurd (cc)

pub word_split : {A : Type 0} (F : Token → Type 0) (w : Word) (t : Token) (p q : Option A) (y : A) → (if is_word w t then p else q) ≡ Some y
    → (p ≡ Some y → F (token.Word w)) → (q ≡ Some y → F t) → F t
word_split F w t p q y h f g = split_by (F t) (is_word w t) p q y h (λ b e. subst F (word_is w t b) (f e)) g

pub word_back : {A : Type 0} (F : Token → A → Type 0) (w : Word) (t : Token) (x y : A) → on_word w t x ≡ Some y → F (token.Word w) x → F t y
word_back F w t x y h f = word_split (λ k. F k y) w t (Some x) None y h (λ e. subst (F (token.Word w)) (some_is e) f) (λ e. absurd (none_is e))

-- ---- symbols and letters

abbrev pub mark_token : Mark → Token
mark_token mark.Open = token.Open
mark_token mark.Close = token.Close
mark_token mark.Comma = token.Comma
mark_token mark.Colon = token.Colon
mark_token mark.Semicolon = token.Semicolon
mark_token mark.Star = token.Star
mark_token mark.Minus = token.Minus
mark_token mark.Equals = token.Compare op.Eq

pub mark_is : (m : Mark) (t : Token) → is_mark m t ≡ true → mark_token m ≡ t
mark_is mark.Open token.Open h = refl
mark_is mark.Close token.Close h = refl
mark_is mark.Comma token.Comma h = refl
mark_is mark.Colon token.Colon h = refl
mark_is mark.Semicolon token.Semicolon h = refl
mark_is mark.Star token.Star h = refl
mark_is mark.Minus token.Minus h = refl
mark_is mark.Equals (token.Compare op.Eq) h = refl
mark_is _ _ h = absurd (cc)

pub mark_split : {A : Type 0} (F : Token → Type 0) (m : Mark) (t : Token) (p q : Option A) (y : A) → (if is_mark m t then p else q) ≡ Some y
    → (p ≡ Some y → F (mark_token m)) → (q ≡ Some y → F t) → F t
mark_split F m t p q y h f g = split_by (F t) (is_mark m t) p q y h (λ b e. subst F (mark_is m t b) (f e)) g

pub mark_back : {A : Type 0} (F : Token → A → Type 0) (m : Mark) (t : Token) (x y : A) → on_mark m t x ≡ Some y → F (mark_token m) x → F t y
mark_back F m t x y h f = mark_split (λ k. F k y) m t (Some x) None y h (λ e. subst (F (mark_token m)) (some_is e) f) (λ e. absurd (none_is e))

letter_is : (b : ℕ) (t : Token) → is_letter b t ≡ true → token.Name (b ∷ []) ≡ t
letter_is b (token.Name (c ∷ [])) h = ap (λ (x : ℕ). token.Name (x ∷ [])) (sym (eqb-true c b h))
letter_is b _ h = absurd (cc)

pub letter_back : {A : Type 0} (F : Token → A → Type 0) (b : ℕ) (t : Token) (x y : A) → on_letter b t x ≡ Some y → F (token.Name (b ∷ [])) x → F t y
letter_back F b t x y h f =
    split_by (F t y) (is_letter b t) (Some x) None y h (λ c e. subst (λ k. F k y) (letter_is b t c) (subst (F (token.Name (b ∷ []))) (some_is e) f)) (λ e. absurd (none_is e))

-- ---- names and numbers

name_is : (t : Token) (n : List ℕ) → name_of t ≡ Some n → token.Name n ≡ t
name_is (token.Name m) n h = ap token.Name (sym (some_is h))
name_is _ n h = absurd (none_is h)

pub name_back : {A : Type 0} (F : Token → A → Type 0) (t : Token) (f : List ℕ → A) (y : A) → on_name t f ≡ Some y → ((n : List ℕ) → F (token.Name n) (f n)) → F t y
name_back F t f y h g = mapped (F t) f (name_of t) y h (λ n e. subst (λ k. F k (f n)) (name_is t n e) (g n))

-- a number in its limits
pub record Taken (most : ℕ) (t : Token) (n : ℕ) : Type 0 where
  pub is : token.Number n ≡ t
  pub low : 1 ≤ n
  pub high : n ≤ most

both : (a b : Bool) → (a && b) ≡ true → (a ≡ true) × (b ≡ true)
both true b h = (refl, h)
both false b h = absurd (cc)

number_is : (most : ℕ) (t : Token) (n : ℕ) → number_of most t ≡ Some n → Taken most t n
number_is most (token.Number m) n h =
    split_by (Taken most (token.Number m) n) (nat_le 1 m && nat_le m most) (Some m) None n h
    (λ b e. (let l = both (nat_le 1 m) (nat_le m most) b in
    record { is = ap token.Number (sym (some_is e)); low = subst (λ (k : ℕ). 1 ≤ k) (some_is e) (leb-true 1 m l.0); high = subst (λ (k : ℕ). k ≤ most) (some_is e) (leb-true m most l.1) }))
    (λ e. absurd (none_is e))
number_is most _ n h = absurd (none_is h)

pub number_back : {A : Type 0} (F : Token → A → Type 0) (most : ℕ) (t : Token) (f : ℕ → A) (y : A) → on_number most t f ≡ Some y
    → ((n : ℕ) → 1 ≤ n → n ≤ most → F (token.Number n) (f n)) → F t y
number_back F most t f y h g = mapped (F t) f (number_of most t) y h (λ n e. (let k = number_is most t n e in subst (λ t. F t (f n)) k.is (g n k.low k.high)))

within : (a b : Bool) (n : ℕ) → a ≡ true → b ≡ true → (if a && b then Some n else None) ≡ Some n
within true true n e f = refl
within true false n e f = absurd (cc)
within false b n e f = absurd (cc)

-- a number in its limits is taken
pub number_takes : (most n : ℕ) → 1 ≤ n → n ≤ most → number_of most (token.Number n) ≡ Some n
number_takes most n low high = within (nat_le 1 n) (nat_le n most) n (le-leb 1 n low) (le-leb n most high)
