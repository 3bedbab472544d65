use Rattle.hb_planlaws.proofs.Named.{spread_there}
use Rattle.hb_planlaws.proofs.Told.{no_table_told, routes_told, table_told}
use Rattle.hb_planlaws.proofs.Walks.{entry_told}
use Rattle.hb_planlaws.proofs.laws.dictionary_tells.Goals as goal

pub returns : goal.returns
returns c = λ back_ends family s few sys. (
  record {
    there = table_told back_ends family s sys;
    nowhere = no_table_told back_ends family s sys;
    lies = spread_there back_ends s sys.state;
  },
  λ p i. record { routes = routes_told back_ends family s sys few p i; each = entry_told back_ends family s sys few p i },
)
