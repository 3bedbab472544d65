use Rattle.hb_model.proofs.DictionaryRows.{by_space, area_by_number}
use Rattle.hb_model.proofs.NumberedRows.{table_by_number, member_by_number, entry_by_number}
use Rattle.hb_model.proofs.laws.dictionary_by_place.Goals as goal

pub returns : goal.returns
returns c = record {
  by_space = by_space;
  by_number = λ back_ends s is. record {
    areas = area_by_number s;
    tables = table_by_number back_ends s is;
    members = member_by_number back_ends s is;
    entries = entry_by_number back_ends s is;
  };
}
