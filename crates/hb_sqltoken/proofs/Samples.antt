-- Lines with their tokens.
use Rattle.std.proofs.Common.{◌≡◌, [], ◌∷◌, refl, codes, replicate}
use Rattle.hb_model.specs.declared.condition.Op.TheVariants as op
use Rattle.hb_sqltoken.specs.declared.token.Word.TheVariants as word
use Rattle.hb_sqltoken.specs.declared.token.Token.TheVariants as token
use Rattle.hb_sqltoken.specs.Kinds.{is_digit, is_letter, in_name, is_blank, run_of, begins_with}
use Rattle.hb_sqltoken.specs.Words.{spelling, reserved, word_of}
use Rattle.hb_sqltoken.specs.Tokens.{decimal, number_token, name_token, name_token_as, quoted, text_token, text_token_as, symbol_token, first_token, placed, tokens_from, every_token, bounded, tokens_of}

digits_joined_to_a_letter : tokens_of (codes "5x") ≡ placed 0 token.Bad ∷ placed 1 (token.Name (codes "x")) ∷ []
unfolding is_digit is_letter in_name is_blank run_of begins_with spelling reserved word_of decimal number_token name_token name_token_as quoted text_token text_token_as symbol_token first_token tokens_from every_token bounded tokens_of
digits_joined_to_a_letter = refl

a_digit_and_an_underscore : tokens_of (codes "5_") ≡ placed 0 (token.Number 5) ∷ placed 1 token.Bad ∷ []
unfolding is_digit is_letter in_name is_blank run_of begins_with spelling reserved word_of decimal number_token name_token name_token_as quoted text_token text_token_as symbol_token first_token tokens_from every_token bounded tokens_of
a_digit_and_an_underscore = refl

a_doubled_quote : tokens_of (codes "'it''s'") ≡ placed 0 (token.Text (codes "it's")) ∷ []
unfolding is_digit is_letter in_name is_blank run_of begins_with spelling reserved word_of decimal number_token name_token name_token_as quoted text_token text_token_as symbol_token first_token tokens_from every_token bounded tokens_of
a_doubled_quote = refl

two_texts : tokens_of (codes "'a' 'b'") ≡ placed 0 (token.Text (codes "a")) ∷ placed 4 (token.Text (codes "b")) ∷ []
unfolding is_digit is_letter in_name is_blank run_of begins_with spelling reserved word_of decimal number_token name_token name_token_as quoted text_token text_token_as symbol_token first_token tokens_from every_token bounded tokens_of
two_texts = refl

a_text_that_is_open : tokens_of (codes "x 'a b") ≡ placed 0 (token.Name (codes "x")) ∷ placed 2 token.Bad ∷ []
unfolding is_digit is_letter in_name is_blank run_of begins_with spelling reserved word_of decimal number_token name_token name_token_as quoted text_token text_token_as symbol_token first_token tokens_from every_token bounded tokens_of
a_text_that_is_open = refl

an_empty_text : tokens_of (codes "''") ≡ placed 0 (token.Text []) ∷ []
unfolding is_digit is_letter in_name is_blank run_of begins_with spelling reserved word_of decimal number_token name_token name_token_as quoted text_token text_token_as symbol_token first_token tokens_from every_token bounded tokens_of
an_empty_text = refl

comparisons : tokens_of (codes "<=<>>=< > =") ≡ placed 0 (token.Compare op.Le) ∷ placed 2 (token.Compare op.Ne) ∷ placed 4 (token.Compare op.Ge) ∷ placed 6 (token.Compare op.Lt) ∷ placed 8 (token.Compare op.Gt) ∷ placed 10 (token.Compare op.Eq) ∷ []
unfolding is_digit is_letter in_name is_blank run_of begins_with spelling reserved word_of decimal number_token name_token name_token_as quoted text_token text_token_as symbol_token first_token tokens_from every_token bounded tokens_of
comparisons = refl

a_minus_and_a_number : tokens_of (codes "-5") ≡ placed 0 token.Minus ∷ placed 1 (token.Number 5) ∷ []
unfolding is_digit is_letter in_name is_blank run_of begins_with spelling reserved word_of decimal number_token name_token name_token_as quoted text_token text_token_as symbol_token first_token tokens_from every_token bounded tokens_of
a_minus_and_a_number = refl

words_in_any_case : tokens_of (codes "Select sElEcTs") ≡ placed 0 (token.Word word.Select) ∷ placed 7 (token.Name (codes "sElEcTs")) ∷ []
unfolding is_digit is_letter in_name is_blank run_of begins_with spelling reserved word_of decimal number_token name_token name_token_as quoted text_token text_token_as symbol_token first_token tokens_from every_token bounded tokens_of
words_in_any_case = refl

a_batch : tokens_of (codes "s1: COMMIT;") ≡ placed 0 (token.Name (codes "s1")) ∷ placed 2 token.Colon ∷ placed 4 (token.Word word.Commit) ∷ placed 10 token.Semicolon ∷ []
unfolding is_digit is_letter in_name is_blank run_of begins_with spelling reserved word_of decimal number_token name_token name_token_as quoted text_token text_token_as symbol_token first_token tokens_from every_token bounded tokens_of
a_batch = refl

symbols : tokens_of (codes "(,):*+-") ≡ placed 0 token.Open ∷ placed 1 token.Comma ∷ placed 2 token.Close ∷ placed 3 token.Colon ∷ placed 4 token.Star ∷ placed 5 token.Plus ∷ placed 6 token.Minus ∷ []
unfolding is_digit is_letter in_name is_blank run_of begins_with spelling reserved word_of decimal number_token name_token name_token_as quoted text_token text_token_as symbol_token first_token tokens_from every_token bounded tokens_of
symbols = refl

tabs_and_other_bytes : tokens_of (9 ∷ 65 ∷ 9 ∷ 0 ∷ 255 ∷ []) ≡ placed 1 (token.Name (codes "A")) ∷ placed 3 token.Bad ∷ placed 4 token.Bad ∷ []
unfolding is_digit is_letter in_name is_blank run_of begins_with spelling reserved word_of decimal number_token name_token name_token_as quoted text_token text_token_as symbol_token first_token tokens_from every_token bounded tokens_of
tabs_and_other_bytes = refl

nothing : tokens_of ([]) ≡ []
unfolding is_digit is_letter in_name is_blank run_of begins_with spelling reserved word_of decimal number_token name_token name_token_as quoted text_token text_token_as symbol_token first_token tokens_from every_token bounded tokens_of
nothing = refl

a_name_of_30_bytes : tokens_of (replicate 30 65) ≡ placed 0 (token.Name (replicate 30 65)) ∷ []
unfolding is_digit is_letter in_name is_blank run_of begins_with spelling reserved word_of decimal number_token name_token name_token_as quoted text_token text_token_as symbol_token first_token tokens_from every_token bounded tokens_of
a_name_of_30_bytes = refl

a_name_of_31_bytes : tokens_of (replicate 31 65) ≡ placed 0 token.Bad ∷ []
unfolding is_digit is_letter in_name is_blank run_of begins_with spelling reserved word_of decimal number_token name_token name_token_as quoted text_token text_token_as symbol_token first_token tokens_from every_token bounded tokens_of
a_name_of_31_bytes = refl

an_integer_of_19_digits : tokens_of (replicate 19 57) ≡ placed 0 (token.Number 9999999999999999999) ∷ []
unfolding is_digit is_letter in_name is_blank run_of begins_with spelling reserved word_of decimal number_token name_token name_token_as quoted text_token text_token_as symbol_token first_token tokens_from every_token bounded tokens_of
an_integer_of_19_digits = refl

an_integer_of_20_digits : tokens_of (replicate 20 48) ≡ placed 0 token.Bad ∷ []
unfolding is_digit is_letter in_name is_blank run_of begins_with spelling reserved word_of decimal number_token name_token name_token_as quoted text_token text_token_as symbol_token first_token tokens_from every_token bounded tokens_of
an_integer_of_20_digits = refl
