use Rattle.std.proofs.Common.{List, ℕ, IfSome, sym, subst, Some, None, Option, length}
use Rattle.std.specs.Option.{option_map}
use Rattle.std.proofs.lemmas.Result.{on_ok_weaker}
use Rattle.hb_edge.specs.Images.{Image, written}
use Rattle.hb_types.specs.Lists.{IsAt}
use Rattle.hb_whole.proofs.Sealing.{image_kept, image_run}
use Rattle.hb_whole.proofs.Windows.{is_at_written}
use Rattle.hb_whole.proofs.device.write_image.Goals as goal

pub returns-clause-stop : goal.returns-clause-stop
returns-clause-stop g c = λ p kept behind away in_time.
    let w = c.write_at.ensures in
    (image_run c.args._valid p c.args.place (length c.args.bytes.now) behind away (g.D.Disk.left c.args.disk.now) (g.D.Disk.last c.args.disk.now) kept _ _ _ w.last w.stop _ (g.met.D.Disk.stands c.args.disk.now) in_time w.clock).leaves

pub returns-clause-kept : goal.returns-clause-kept
returns-clause-kept g c = λ p kept behind away.
    let w = c.write_at.ensures in
    image_kept c.args._valid p c.args.place (length c.args.bytes.now) behind away (g.D.Disk.left c.args.disk.now) (g.D.Disk.last c.args.disk.now) kept _ _ _ w.last w.stop

pub returns-clause-content : goal.returns-clause-content
returns-clause-content g c =
    on_ok_weaker c.write_at.result (λ is. subst (λ (o : Option Image). IfSome o (λ s. IsAt s c.args.place c.args.bytes.now)) (sym is) (at c.args.place c.args.bytes.now (g.D.Disk.content c.args.disk.now))) c.write_at.ensures.written
  where
    at : (place : ℕ) (bytes : List ℕ) (o : Option Image) → IfSome (option_map (written place bytes) o) (λ s. IsAt s place bytes)
    at place bytes None = tt
    at place bytes (Some s) = is_at_written place bytes s
