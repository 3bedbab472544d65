use Rattle.std.proofs.lemmas.Bool.{ltb-false}
use Rattle.hb_definerows.proofs.Accepting.{accepted, taken}
use Rattle.hb_definerows.proofs.create_table.definition_of.Goals as goal

pub key_of-key-requires : goal.key_of-key-requires
key_of-key-requires c =
    let d = c.args.draft in
    ltb-false _ _ (accepted c.requires.0 d.name d.columns d.key d.areas c.requires.1).few_columns

pub returns-clause-taken : goal.returns-clause-taken
returns-clause-taken c =
    let d = c.args.draft in
    taken c.requires.0 d.name d.columns d.key d.areas c.key_of-key.result c.requires.1 c.key_of-key.ensures
