use Rattle.std.proofs.Common.{◌≡◌, ap, sym, ◌∙◌, unwrap_or, [], if◌then◌else◌}
use Rattle.std.proofs.lemmas.Bool.{ne_eqb}
use Rattle.hb_locks.specs.Locks.{Releases, holders_at, without}
use Rattle.hb_locks.specs.Index.{has_path, paths_at}
use Rattle.hb_locks.proofs.Order.{nat_is}
use Rattle.hb_locks.proofs.Sound.{releases, sound-released}
use Rattle.hb_locks.proofs.table.end.Goals as goal

pub returns-in-Some-clause-released : goal.returns-in-Some-clause-released
returns-in-Some-clause-released c =
    let old = c.args.table.now.entries in
    let kept : paths_at c.args.paths.now c.args.tx.0 ≡ c.as_slice.result.now = ap (λ o. unwrap_or o []) (sym c.in-Some.ensures.value) ∙ sym c.as_slice.ensures in
    releases old c.leave_all.new.table.entries c.args.paths.now c.args.tx c.requires.sound
    (λ q. c.leave_all.ensures q ∙ sym (ap (λ ps. if has_path ps q then without c.args.tx (holders_at old q) else holders_at old q) kept))

pub returns-in-Some-clause-sound : goal.returns-in-Some-clause-sound
returns-in-Some-clause-sound c =
    let old = c.args.table.now.entries in
    let new = c.leave_all.new.table.entries in
    let kept : paths_at c.args.paths.now c.args.tx.0 ≡ c.as_slice.result.now = ap (λ o. unwrap_or o []) (sym c.in-Some.ensures.value) ∙ sym c.as_slice.ensures in
    let released : Releases old new c.args.tx =
    releases old new c.args.paths.now c.args.tx c.requires.sound
    (λ q. c.leave_all.ensures q ∙ sym (ap (λ ps. if has_path ps q then without c.args.tx (holders_at old q) else holders_at old q) kept)) in
    sound-released old new c.args.paths.now c.remove.new.self c.args.tx c.requires.sound released
    (λ t other. ap (λ o. unwrap_or o []) (c.in-Some.ensures.updates.2 t (nat_is c.args.tx.0 t ∙ ne_eqb c.args.tx.0 t (λ e. other (sym e)))))

pub returns-in_default-clause-released : goal.returns-in_default-clause-released
returns-in_default-clause-released c =
    let old = c.args.table.now.entries in
    let none : paths_at c.args.paths.now c.args.tx.0 ≡ [] = ap (λ o. unwrap_or o []) (sym c.remove.ensures.value ∙ c.in_default.is) in
    releases old old c.args.paths.now c.args.tx c.requires.sound
    (λ q. sym (ap (λ ps. if has_path ps q then without c.args.tx (holders_at old q) else holders_at old q) none))
