-- Tokens by the way they are written.
use Rattle.std.specs.Prelude.{[]}
use Rattle.std.specs.Prelude.{◌∷◌}
use Rattle.hb_sqltoken.specs.declared.token.Token.{Token}
use Rattle.hb_sqltoken.specs.declared.token.Token.TheVariants as token
use Rattle.hb_sqltoken.specs.declared.token.Word.TheVariants as word
use Rattle.hb_model.specs.declared.condition.Op.TheVariants as op

abbrev pub ADD : Token
ADD = token.Word word.Add

abbrev pub ALTER : Token
ALTER = token.Word word.Alter

abbrev pub AREA : Token
AREA = token.Word word.Area

abbrev pub AT : Token
AT = token.Word word.At

abbrev pub BARRIER : Token
BARRIER = token.Word word.Barrier

abbrev pub BY : Token
BY = token.Word word.By

abbrev pub COMMIT : Token
COMMIT = token.Word word.Commit

abbrev pub COUNT : Token
COUNT = token.Word word.Count

abbrev pub CREATE : Token
CREATE = token.Word word.Create

abbrev pub DELETE : Token
DELETE = token.Word word.Delete

abbrev pub EXCLUSIVE : Token
EXCLUSIVE = token.Word word.Exclusive

abbrev pub FROM : Token
FROM = token.Word word.From

abbrev pub GIVE : Token
GIVE = token.Word word.Give

abbrev pub HASH : Token
HASH = token.Word word.Hash

abbrev pub HASHA : Token
HASHA = token.Word word.Hasha

abbrev pub IN : Token
IN = token.Word word.In

abbrev pub INSERT : Token
INSERT = token.Word word.Insert

abbrev pub INTEGER : Token
INTEGER = token.Word word.Integer

abbrev pub INTO : Token
INTO = token.Word word.Into

abbrev pub LOCK : Token
LOCK = token.Word word.Lock

abbrev pub MODE : Token
MODE = token.Word word.Mode

abbrev pub ON : Token
ON = token.Word word.On

abbrev pub PDRBAL : Token
PDRBAL = token.Word word.Pdrbal

abbrev pub RDAREA : Token
RDAREA = token.Word word.Rdarea

abbrev pub ROLLBACK : Token
ROLLBACK = token.Word word.Rollback

abbrev pub SELECT : Token
SELECT = token.Word word.Select

abbrev pub SET : Token
SET = token.Word word.Set

abbrev pub SHARE : Token
SHARE = token.Word word.Share

abbrev pub START : Token
START = token.Word word.Start

abbrev pub STEP : Token
STEP = token.Word word.Step

abbrev pub STOP : Token
STOP = token.Word word.Stop

abbrev pub SUM : Token
SUM = token.Word word.Sum

abbrev pub SYNC : Token
SYNC = token.Word word.Sync

abbrev pub TABLE : Token
TABLE = token.Word word.Table

abbrev pub UPDATE : Token
UPDATE = token.Word word.Update

abbrev pub VALUES : Token
VALUES = token.Word word.Values

abbrev pub VARCHAR : Token
VARCHAR = token.Word word.Varchar

abbrev pub WHERE : Token
WHERE = token.Word word.Where

-- the symbol =, which also stands between a column and its new value
abbrev pub EQUALS : Token
EQUALS = token.Compare op.Eq

-- the name k, by its one byte
abbrev pub LETTER_K : Token
LETTER_K = token.Name (107 ∷ [])

-- the name t, by its one byte
abbrev pub LETTER_T : Token
LETTER_T = token.Name (116 ∷ [])

-- the name c, by its one byte
abbrev pub LETTER_C : Token
LETTER_C = token.Name (99 ∷ [])

-- the name n, by its one byte
abbrev pub LETTER_N : Token
LETTER_N = token.Name (110 ∷ [])
