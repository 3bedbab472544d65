use Rattle.std.proofs.Common.{find, option_map, ap, sym, ◌∙◌}
use Rattle.std.specs.Str.{bytes_eq}
use Rattle.hb_model.specs.Kinds.{kind_of_column as kind_in_column}
use Rattle.hb_model.specs.Kinds.{kind_of as kind_in}
use Rattle.hb_sqlcheck.proofs.Levels.{kind_of-Name}
use Rattle.hb_sqlcheck.proofs.kinds.+kind_of.Goals as goal

pub returns-in-Name : goal.returns-in-Name
returns-in-Name t c =
    c.kind_named.ensures ∙ ap (λ name. option_map kind_in_column (find (λ column. bytes_eq column.name name) c.args.columns.now)) c.as_slice.ensures
    ∙ sym (kind_of-Name c.args.columns.now c.in-Name.name) ∙ ap (kind_in c.args.columns.now) (sym c.in-Name.is)
