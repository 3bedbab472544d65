use Rattle.hb_clean.proofs.Shown.{rows_clean}
use Rattle.hb_clean.proofs.laws.rows_are_clean.Goals as goal

pub returns : goal.returns
returns c =
    rows_clean
    (record {
      ascend = c.transactions_ascend.ensures;
      owner = c.one_owner.ensures;
      news = c.given_are_new.ensures;
      reading =
          record {
            servers = c.servers_ran.ensures;
            reads = c.reads_are_clean.ensures;
            spaces = c.spaces_are_clean.ensures;
            groups = c.groups_are_clean.ensures;
            spaces_free = c.spaces_are_free.ensures;
            groups_free = c.groups_are_free.ensures;
            stood = c.last_writers_stood.ensures;
          };
    })
