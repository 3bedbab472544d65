-- The text of a line of a transcript.
use Rattle.std.specs.Prelude.{ℕ, List, [], ◌∷◌, ◌++◌, map, get_or, codes, Option, Some, None}
use Rattle.std.specs.List.{flat_map}
use Rattle.hb_types.specs.declared.value.Value.{Value}
use Rattle.hb_model.specs.declared.reply.Reply.{Reply}
use Rattle.hb_model.specs.declared.reply.Reply.TheVariants as reply
use Rattle.hb_model.specs.declared.line.Line.{Line}
use Rattle.hb_print.specs.Records.{record_text}
use Rattle.hb_print.specs.Places.{Names}
use Rattle.hb_print.specs.Replies.{last_line}

-- a line of a session begins with its name
unfoldable pub session_text : Names → Option ℕ → List ℕ
session_text names None = []
session_text names (Some session) = get_or names session [] ++ codes " "

unfoldable pub rows_of : Reply → List (List Value)
rows_of (reply.Rows rows) = rows
rows_of _ = []

abbrev pub row_line : List Value → List ℕ
row_line row = codes "ROW " ++ record_text row

-- a line for each row, and the last line
unfoldable pub lines_of : Names → Reply → List (List ℕ)
lines_of names r = map row_line (rows_of r) ++ last_line names r ∷ []

abbrev pub with_session : List ℕ → List ℕ → List ℕ
with_session session line = session ++ line ++ codes "\n"

-- what is printed for one answer of a run: each line behind its session, ended by a line feed
unfoldable pub text_of : Names → Line → List ℕ
text_of names l = flat_map (with_session (session_text names l.session)) (lines_of names l.reply)
