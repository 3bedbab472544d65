use Rattle.std.proofs.Common.{ℕ, subst, refl, List}
use Rattle.std.specs.Prelude.{IfSome}
use Rattle.hb_types.specs.Lists.{IsAt}
use Rattle.hb_whole.proofs.Making.{free_place, is_told, read_left}
use Rattle.hb_whole.proofs.whole.Whole.write.Goals as goal

pub returns-in_err-put_image-clause-stop : goal.returns-in_err-put_image-clause-stop
returns-in_err-put_image-clause-stop g c = λ p on in_time.
    let s = c.args.self.now in
    let mine = on.each on.read (read_left (g.D.Disk.content c.args.disk.now) (g.D.Disk.left c.args.disk.now (g.D.Disk.last c.args.disk.now)) on.read on.told (g.met.D.Disk.as_read c.args.disk.now)) in
    let free = free_place s.valid _ c.args.next s.spare_open p on.read c.args.image.now c.requires.plan c.next_place_is_free.ensures mine c.requires.text in
    c.put_image.ensures.stop p on.read on.told on.each free.0 free.1 in_time

pub returns-clause-stop : goal.returns-clause-stop
returns-clause-stop g c = λ p on in_time.
    let s = c.args.self.now in
    let mine = on.each on.read (read_left (g.D.Disk.content c.args.disk.now) (g.D.Disk.left c.args.disk.now (g.D.Disk.last c.args.disk.now)) on.read on.told (g.met.D.Disk.as_read c.args.disk.now)) in
    let free = free_place s.valid _ c.args.next s.spare_open p on.read c.args.image.now c.requires.plan c.next_place_is_free.ensures mine c.requires.text in
    c.put_image.ensures.stop p on.read on.told on.each free.0 free.1 in_time

pub returns-clause-goes_on : goal.returns-clause-goes_on
returns-clause-goes_on g c = λ p on.
    let s = c.args.self.now in
    let mine = on.each on.read (read_left (g.D.Disk.content c.args.disk.now) (g.D.Disk.left c.args.disk.now (g.D.Disk.last c.args.disk.now)) on.read on.told (g.met.D.Disk.as_read c.args.disk.now)) in
    let free = free_place s.valid _ c.args.next s.spare_open p on.read c.args.image.now c.requires.plan c.next_place_is_free.ensures mine c.requires.text in
    let told = is_told (g.D.Disk.content c.args.disk.now) (g.D.Disk.content c.put_image.new.disk) on.read on.told c.put_image.ensures.told in
    let at = subst (λ o. IfSome o (λ f. IsAt f c.args.next.place c.args.image.now)) told.1 c.in_ok-put_image.ensures.content in
    record {
      read = told.0;
      told = told.1;
      stands = record {
        mark = on.stands.mark;
        closed = λ t. refl;
        stands = record { plan = c.requires.plan; sound = c.requires.sound; behind_headers = free.0; imaged = subst (λ (b : List ℕ). IsAt told.0 c.args.next.place b) c.requires.text at };
      };
      each = c.in_ok-put_image.ensures.kept p on.read on.told on.each free.0 free.1;
    }
