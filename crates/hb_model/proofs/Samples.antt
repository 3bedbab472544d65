-- A small state for worked examples: two areas, and a table of numbers and texts.
use Rattle.std.proofs.Common.{ℕ, pos, List, [], ◌∷◌, map}
use Rattle.std.specs.Prelude.{codes, false}
use Rattle.hb_types.specs.declared.entry.Entry.{Entry}
use Rattle.hb_types.specs.declared.entry.Entry.TheVariants.{At}
use Rattle.hb_types.specs.declared.value.Value.{Value}
use Rattle.hb_types.specs.declared.value.Value.TheVariants as value
use Rattle.hb_types.specs.declared.value.Column.{Column}
use Rattle.hb_model.specs.declared.reply.Reply.{Reply}
use Rattle.hb_model.specs.declared.statement.Statement.{Statement}
use Rattle.hb_model.specs.Does.{does}
use Rattle.hb_model.specs.State.{State}

abbrev pub number_column : List ℕ → Column
number_column name = record { name = name; size = 0 }

abbrev pub columns : List Column
columns = number_column (codes "K") ∷ record { name = codes "V"; size = 3 } ∷ []

abbrev pub row : ℕ → List ℕ → List Value
row key text = value.Int (pos key) ∷ value.Text text ∷ []

-- the areas A1 and A2, the table T in A1 with entries of some groups, and its rows
abbrev pub holding : List Entry → List (List Value) → State
holding entries rows =
    record {
      tables = record { name = codes "T"; columns = columns; key = 0; rows = rows } ∷ [];
      layout = record {
        areas = record { number = 257; name = codes "A1" } ∷ record { number = 513; name = codes "A2" } ∷ [];
        spreads = record { number = 1; name = codes "T"; members = 257 ∷ []; entries = entries } ∷ [];
      };
    }

abbrev pub sample : State
sample = holding (At 257 ∷ []) (row 5 (codes "e") ∷ row 7 (codes "g") ∷ [])

-- two back ends, nothing spent
abbrev pub reply_to : State → Statement → Reply
reply_to s st = (does 2 s 0 false st).reply

abbrev pub replies_to : State → List Statement → List Reply
replies_to s sts = map (reply_to s) sts
