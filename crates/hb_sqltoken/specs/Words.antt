-- The reserved words, in any case.
use Rattle.std.specs.Prelude.{ℕ, List, [], ◌∷◌, Option, codes, find}
use Rattle.std.specs.Str.{str_eq_ignore_ascii_case}
use Rattle.hb_sqltoken.specs.declared.token.Word.{Word}
use Rattle.hb_sqltoken.specs.declared.token.Word.TheVariants as word

-- a word in capitals
unfoldable pub spelling : Word → List ℕ
spelling word.Add = codes "ADD"
spelling word.Alter = codes "ALTER"
spelling word.And = codes "AND"
spelling word.Area = codes "AREA"
spelling word.At = codes "AT"
spelling word.Barrier = codes "BARRIER"
spelling word.By = codes "BY"
spelling word.Commit = codes "COMMIT"
spelling word.Count = codes "COUNT"
spelling word.Create = codes "CREATE"
spelling word.Delete = codes "DELETE"
spelling word.Exclusive = codes "EXCLUSIVE"
spelling word.From = codes "FROM"
spelling word.Give = codes "GIVE"
spelling word.Hash = codes "HASH"
spelling word.Hasha = codes "HASHA"
spelling word.In = codes "IN"
spelling word.Insert = codes "INSERT"
spelling word.Integer = codes "INTEGER"
spelling word.Into = codes "INTO"
spelling word.Lock = codes "LOCK"
spelling word.Mode = codes "MODE"
spelling word.Not = codes "NOT"
spelling word.On = codes "ON"
spelling word.Or = codes "OR"
spelling word.Pdrbal = codes "PDRBAL"
spelling word.Rdarea = codes "RDAREA"
spelling word.Rollback = codes "ROLLBACK"
spelling word.Select = codes "SELECT"
spelling word.Set = codes "SET"
spelling word.Share = codes "SHARE"
spelling word.Start = codes "START"
spelling word.Step = codes "STEP"
spelling word.Stop = codes "STOP"
spelling word.Sum = codes "SUM"
spelling word.Sync = codes "SYNC"
spelling word.Table = codes "TABLE"
spelling word.Update = codes "UPDATE"
spelling word.Values = codes "VALUES"
spelling word.Varchar = codes "VARCHAR"
spelling word.Where = codes "WHERE"

unfoldable pub reserved : List Word
reserved =
    word.Add ∷ word.Alter ∷ word.And ∷ word.Area ∷ word.At ∷ word.Barrier ∷ word.By ∷ word.Commit ∷ word.Count ∷ word.Create ∷ word.Delete ∷ word.Exclusive ∷ word.From ∷ word.Give ∷ word.Hash ∷ word.Hasha ∷ word.In ∷ word.Insert ∷ word.Integer ∷ word.Into ∷ word.Lock ∷ word.Mode ∷ word.Not ∷ word.On ∷ word.Or ∷ word.Pdrbal ∷ word.Rdarea ∷ word.Rollback ∷ word.Select ∷ word.Set ∷ word.Share ∷ word.Start ∷ word.Step ∷ word.Stop ∷ word.Sum ∷ word.Sync ∷ word.Table ∷ word.Update ∷ word.Values ∷ word.Varchar ∷ word.Where ∷ []

-- the word whose letters these are, in any case
unfoldable pub word_of : List ℕ → Option Word
word_of name = find (λ w. str_eq_ignore_ascii_case (spelling w) name) reserved
