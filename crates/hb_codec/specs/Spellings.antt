-- Which bytes spell which row, change and record.
use Rattle.std.specs.Prelude.{◌≡◌, ℕ, List, [], ◌∷◌}
use Rattle.hb_types.specs.declared.change.Change.{Change}
use Rattle.hb_types.specs.declared.change.LogItem.{LogItem}
use Rattle.hb_types.specs.declared.names.NodeName.{NodeName}
use Rattle.hb_types.specs.declared.value.Value.{Value}
use Rattle.hb_types.specs.Records.{change_bytes, body_bytes, IsChange, HasRecord}
use Rattle.hb_types.specs.Rows.{IsRowOf}

abbrev pub SpellsRow : List Value → List ℕ → Type 0
SpellsRow values bytes = IsRowOf bytes values

-- the bytes are the change
pub record IsChangeOf (change : Change) (bytes : List ℕ) : Type 0 where
  pub fits : IsChange change
  pub spelled : bytes ≡ change_bytes change

-- the bytes are the body of the item's record
pub record IsBodyOf (item : LogItem) (bytes : List ℕ) : Type 0 where
  pub fits : HasRecord item
  pub spelled : bytes ≡ body_bytes item

abbrev pub node_text : NodeName → List ℕ
node_text node = node.0 ∷ []
