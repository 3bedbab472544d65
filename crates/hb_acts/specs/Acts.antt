-- What a script does to its sessions, act by act, and what is printed for each act.
use Rattle.std.specs.Prelude.{◌≡◌, ◌⊎◌, ℕ, List, [], ◌∷◌, ◌++◌, Option, None, codes}
use Rattle.std.specs.Fmt.{decimal}
use Rattle.std.specs.List.{flat_map}
use Rattle.hb_model.specs.declared.line.Line.{Line}
use Rattle.hb_model.specs.declared.reply.Reply.TheVariants as reply
use Rattle.hb_print.specs.Places.{Names}
use Rattle.hb_print.specs.Texts.{text_of}
use Rattle.hb_lines.specs.declared.said.Said.{Said}
use Rattle.hb_serve.specs.declared.own.Own.{Own}
use Rattle.hb_serve.specs.declared.own.Own.TheVariants as own
use Rattle.hb_serve.specs.Doing.{Does}
use Rattle.hb_stepper.specs.Adding.{Adds}
use Rattle.hb_stepper.specs.Closing.{Closed}
use Rattle.hb_stepper.specs.Running.{Running}
use Rattle.hb_stepper.specs.Steps.{Resumed}
use Rattle.hb_edge.specs.Streams.{with_end}
use Rattle.hb_acts.specs.Putting.{IsFront, PutsFront}

-- a line is done, which is the one of this number; the waiting sessions are asked; the script's end; the count of its lines
pub data Act : Type 0 where
  does : ℕ → Said → Act
  resumes : Act
  closes : Act
  ends : ℕ → Act

-- ---- texts

unfoldable pub not_built_text : ℕ → List ℕ
not_built_text number = codes "LINE " ++ (decimal number ++ codes " NOT BUILT\n")

-- LINES n
abbrev pub count_line : ℕ → Line
count_line count = record { session = None; work = None; reply = reply.Lines count }

-- the line that the console prints itself
abbrev pub own_text : Names → ℕ → Own → List ℕ
own_text names number own.Nothing = []
own_text names number (own.Line l) = text_of names l
own_text names number own.NotBuilt = not_built_text number

-- the text of the lines that were added, with the names as they then are
pub record Prints (old new : Running) (text : List ℕ) : Type 0 where
  pub added : List Line
  pub lines : new.lines ≡ old.lines ++ added
  pub text_is : text ≡ flat_map (text_of new.names) added

-- ---- acts

-- a line's own text stands behind those of the sessions' lines
pub record DoesLine (number : ℕ) (said : Said) (old : Running) (text : List ℕ) (new : Running) : Type 0 where
  pub own : Own
  pub front : List ℕ
  pub done : Does number said old own new
  pub prints : Prints old new front
  pub text_is : text ≡ front ++ own_text new.names number own

-- an act leads from one to the other, and this is printed for it
abbrev pub Acts : Act → Running → List ℕ → Running → Type 0
Acts (does number said) old text new = DoesLine number said old text new
Acts resumes old text new = Resumed old new × Prints old new text
Acts closes old text new = Closed old new × Prints old new text
Acts (ends count) old text new = (new ≡ old) × (text ≡ text_of old.names (count_line count))

-- acts one behind another, and what is printed for them
pub data Chain (from : Running) : List Act → List ℕ → Running → Type 0 where
  no_act : Chain from [] [] from
  one_more : (acts : List Act) (text shown : List ℕ) (mid to : Running) (act : Act) → Chain from acts text mid → Acts act mid shown to → Chain from (acts ++ act ∷ []) (text ++ shown) to

-- ---- a run

-- these acts were done, and all of their text was put
pub record Reached (from : Running) (acts : List Act) (held : Option (List ℕ)) (to : Running) (now : Option (List ℕ)) : Type 0 where
  pub text : List ℕ
  pub chain : Chain from acts text to
  pub gained : now ≡ with_end text held

-- where memory was wanting within an act: names, lines and what each node was asked were only added to
pub record IsWithinAct (before now : Running) : Type 0 where
  pub names : Adds before.names now.names
  pub lines : Adds before.lines now.lines
  pub lists : (node : ℕ) → Adds (before.lists node) (now.lists node)

-- The first of these acts were done, and a front of their text was put. All stands as these acts left it, or is within the next one.
pub record Halted (from : Running) (acts : List Act) (held : Option (List ℕ)) (end : Running) (now : Option (List ℕ)) : Type 0 where
  pub done : List Act
  pub first : IsFront done acts
  pub to : Running
  pub text : List ℕ
  pub chain : Chain from done text to
  pub puts : PutsFront held now text
  pub stands : (end ≡ to) ⊎ ((act : Act) × IsFront (done ++ act ∷ []) acts × IsWithinAct to end)
