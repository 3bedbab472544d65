use Rattle.hb_types.specs.Numbers.{two, eight}
use Rattle.hb_types.specs.Records.{space_bytes}
use Rattle.hb_codec.proofs.Joined.{three_pieces}
use Rattle.hb_codec.proofs.writing.put_path.Goals as goal

pub returns-in_ok-put_number-in-Group : goal.returns-in_ok-put_number-in-Group
returns-in_ok-put_number-in-Group c =
    rw c.in-Group.is
    (three_pieces c.args.out.now.items (space_bytes c.in-Group.space) (two c.in-Group.group) (eight 0) c.put_space-in-Group.new.out.items c.put_two-in-Group.new.out.items c.put_number-in-Group.new.out.items
    c.in_ok-put_space-in-Group.ensures c.in_ok-put_two-in-Group.ensures c.in_ok-put_number-in-Group.ensures)
