use Rattle.std.proofs.Common.{◌≡◌, ◌∙◌, ◌≤◌, ℕ, List, length, subst, sym, arith}
use Rattle.std.specs.Prelude.{IfSome}
use Rattle.std.proofs.lemmas.Result.{IfOk-weaker}
use Rattle.hb_whole.specs.Kept.{Keeps}
use Rattle.hb_whole.specs.KeptLaws.{keeps_valid}
use Rattle.hb_whole.proofs.Finding.{anew_holds, quiet_holds}
use Rattle.hb_whole.proofs.Quiet.{quiet_call, quiet_then}
use Rattle.hb_whole.proofs.find.find.Goals as goal

pub returns-in-Err-clause-stop : goal.returns-in-Err-clause-stop
returns-in-Err-clause-stop g c = λ read told in_time.
    let l = c.length.ensures in
    let pending = subst (λ o. IfSome o (λ f. (i : List ℕ) → g.D.Disk.left c.args.disk.now (g.D.Disk.last c.args.disk.now) i → i ≡ f)) told c.requires in
    let quiet = quiet_call _ _ _ _ _ _ (g.met.D.Disk.stands c.args.disk.now) l.clock l.last l.stop in
    quiet_holds _ _ _ _ _ _ read quiet in_time pending

pub returns-then-size-gt128-clause-found : goal.returns-then-size-gt128-clause-found
returns-then-size-gt128-clause-found g c =
    IfOk-weaker c.read_valid.result _ _ (λ found f. λ read told.
    let l = c.length.ensures in
    let size = subst (λ o. IfSome o (λ b. c.in-Ok.size ≡ length b)) told c.in-Ok.ensures.length in
    let pending = subst (λ o. IfSome o (λ f. (i : List ℕ) → g.D.Disk.left c.args.disk.now (g.D.Disk.last c.args.disk.now) i → i ≡ f)) told c.requires in
    let first = quiet_call _ _ _ _ _ _ (g.met.D.Disk.stands c.args.disk.now) l.clock l.last l.stop in
    let quiet = quiet_then _ _ _ _ _ _ _ _ _ first c.read_valid.ensures.quiet in
    let is = f read (l.content ∙ told) size (omega (arith, c.if-size-gt128.true)) in (
      is.point,
      keeps_valid found.valid found.spare_open is.point read is.keeps,
      is.marked,
      is.rowed,
      λ image left. subst (Keeps found.valid found.spare_open is.point) (sym (pending image (quiet.here image left))) is.keeps,
    )) c.read_valid.ensures.found

pub returns-then-size-gt128-clause-damaged : goal.returns-then-size-gt128-clause-damaged
returns-then-size-gt128-clause-damaged g c = λ place is read told.
    let size = subst (λ o. IfSome o (λ b. c.in-Ok.size ≡ length b)) told c.in-Ok.ensures.length in
    c.read_valid.ensures.damaged place is read (c.length.ensures.content ∙ told) size (omega (arith, c.if-size-gt128.true))

pub returns-then-size-gt128-clause-stop : goal.returns-then-size-gt128-clause-stop
returns-then-size-gt128-clause-stop g c = λ read told in_time.
    let l = c.length.ensures in
    let pending = subst (λ o. IfSome o (λ f. (i : List ℕ) → g.D.Disk.left c.args.disk.now (g.D.Disk.last c.args.disk.now) i → i ≡ f)) told c.requires in
    let first = quiet_call _ _ _ _ _ _ (g.met.D.Disk.stands c.args.disk.now) l.clock l.last l.stop in
    quiet_holds _ _ _ _ _ _ read (quiet_then _ _ _ _ _ _ _ _ _ first c.read_valid.ensures.quiet) in_time pending

pub returns-in-Ok-make_anew-clause-stop : goal.returns-in-Ok-make_anew-clause-stop
returns-in-Ok-make_anew-clause-stop g c = λ read told in_time.
    let l = c.length.ensures in
    let size = subst (λ o. IfSome o (λ b. c.in-Ok.size ≡ length b)) told c.in-Ok.ensures.length in
    let short : length read ≤ 128 = omega (arith, size, c.if-size-gt128.false) in
    let pending = subst (λ o. IfSome o (λ f. (i : List ℕ) → g.D.Disk.left c.args.disk.now (g.D.Disk.last c.args.disk.now) i → i ≡ f)) told c.requires in
    let quiet = quiet_call _ _ _ _ _ _ (g.met.D.Disk.stands c.args.disk.now) l.clock l.last l.stop in
    anew_holds _ _ _ _ _ _ _ read quiet in_time pending short (c.make_anew.ensures.stop read (l.content ∙ told) short (λ image left. pending image (quiet.here image left)) (quiet.in_time in_time))

pub returns-in-Err-make_anew-clause-stop : goal.returns-in-Err-make_anew-clause-stop
returns-in-Err-make_anew-clause-stop g c = λ read told in_time.
    let l = c.length.ensures in
    let size = subst (λ o. IfSome o (λ b. c.in-Ok.size ≡ length b)) told c.in-Ok.ensures.length in
    let short : length read ≤ 128 = omega (arith, size, c.if-size-gt128.false) in
    let pending = subst (λ o. IfSome o (λ f. (i : List ℕ) → g.D.Disk.left c.args.disk.now (g.D.Disk.last c.args.disk.now) i → i ≡ f)) told c.requires in
    let quiet = quiet_call _ _ _ _ _ _ (g.met.D.Disk.stands c.args.disk.now) l.clock l.last l.stop in
    anew_holds _ _ _ _ _ _ _ read quiet in_time pending short (c.make_anew.ensures.stop read (l.content ∙ told) short (λ image left. pending image (quiet.here image left)) (quiet.in_time in_time))
