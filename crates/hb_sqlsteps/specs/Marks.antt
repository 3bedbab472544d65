-- Tests on a token: whether it is a reserved word, a symbol or a letter, and what a token of one of the other kinds holds.
use Rattle.std.specs.Prelude.{ℕ, Bool, true, false, ◌&&◌, ◌==◌, nat_le, if◌then◌else◌, List, [], ◌∷◌, Option, Some, None, option_map}
use Rattle.hb_model.specs.declared.condition.Op.TheVariants as op
use Rattle.hb_sqltoken.specs.declared.token.Word.{Word}
use Rattle.hb_sqltoken.specs.declared.token.Word.TheVariants as word
use Rattle.hb_sqltoken.specs.declared.token.Token.{Token}
use Rattle.hb_sqltoken.specs.declared.token.Token.TheVariants as token
use Rattle.hb_sqlsteps.specs.declared.marks.Mark.{Mark}
use Rattle.hb_sqlsteps.specs.declared.marks.Mark.TheVariants as mark

-- a number for each reserved word, so that two words can be compared
abbrev pub word_number : Word → ℕ
word_number word.Add = 0
word_number word.Alter = 1
word_number word.And = 2
word_number word.Area = 3
word_number word.At = 4
word_number word.Barrier = 5
word_number word.By = 6
word_number word.Commit = 7
word_number word.Count = 8
word_number word.Create = 9
word_number word.Delete = 10
word_number word.Exclusive = 11
word_number word.From = 12
word_number word.Give = 13
word_number word.Hash = 14
word_number word.Hasha = 15
word_number word.In = 16
word_number word.Insert = 17
word_number word.Integer = 18
word_number word.Into = 19
word_number word.Lock = 20
word_number word.Mode = 21
word_number word.Not = 22
word_number word.On = 23
word_number word.Or = 24
word_number word.Pdrbal = 25
word_number word.Rdarea = 26
word_number word.Rollback = 27
word_number word.Select = 28
word_number word.Set = 29
word_number word.Share = 30
word_number word.Start = 31
word_number word.Step = 32
word_number word.Stop = 33
word_number word.Sum = 34
word_number word.Sync = 35
word_number word.Table = 36
word_number word.Update = 37
word_number word.Values = 38
word_number word.Varchar = 39
word_number word.Where = 40

abbrev pub is_word : Word → Token → Bool
is_word w (token.Word v) = word_number v == word_number w
is_word w _ = false

abbrev pub is_mark : Mark → Token → Bool
is_mark mark.Open token.Open = true
is_mark mark.Close token.Close = true
is_mark mark.Comma token.Comma = true
is_mark mark.Colon token.Colon = true
is_mark mark.Semicolon token.Semicolon = true
is_mark mark.Star token.Star = true
is_mark mark.Minus token.Minus = true
is_mark mark.Equals (token.Compare op.Eq) = true
is_mark _ _ = false

abbrev pub is_letter : ℕ → Token → Bool
is_letter letter (token.Name (b ∷ [])) = b == letter
is_letter letter _ = false

-- a place that goes on with this token alone
abbrev pub on_word : {A : Type 0} → Word → Token → A → Option A
on_word w t next = if is_word w t then Some next else None

abbrev pub on_mark : {A : Type 0} → Mark → Token → A → Option A
on_mark m t next = if is_mark m t then Some next else None

abbrev pub on_letter : {A : Type 0} → ℕ → Token → A → Option A
on_letter letter t next = if is_letter letter t then Some next else None

abbrev pub name_of : Token → Option (List ℕ)
name_of (token.Name name) = Some name
name_of _ = None

-- a number from 1 to a most
abbrev pub number_of : ℕ → Token → Option ℕ
number_of most (token.Number n) = if nat_le 1 n && nat_le n most then Some n else None
number_of most _ = None

-- a place that goes on with any name, or with any number in its limits
abbrev pub on_name : {A : Type 0} → Token → (List ℕ → A) → Option A
on_name t next = option_map next (name_of t)

abbrev pub on_number : {A : Type 0} → ℕ → Token → (ℕ → A) → Option A
on_number most t next = option_map next (number_of most t)
