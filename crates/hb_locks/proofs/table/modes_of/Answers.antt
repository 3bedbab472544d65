use Rattle.std.proofs.Common.{◌≡◌, ap, sym, ◌∙◌, unwrap_or, [], List, Option}
use Rattle.std.specs.Map.{lookup}
use Rattle.hb_types.specs.declared.places.Path.{Path}
use Rattle.hb_types.specs.Places.{same_path}
use Rattle.hb_locks.specs.Index.{has_path, paths_at}
use Rattle.hb_locks.specs.Locks.{held_at}
use Rattle.hb_locks.proofs.Ascending.{all_kept, if_ok_to}
use Rattle.hb_locks.proofs.table.modes_of.Goals as goal

pub returns-in-Some : goal.returns-in-Some
returns-in-Some c =
    let locks = c.args.table.now.entries in
    let tx = c.args.tx in
    let paths : paths_at c.args.paths.now tx.0 ≡ c.as_slice.result.now = ap (λ (o : Option (List Path)). unwrap_or o []) (sym c.in-Some.ensures.value) ∙ sym c.as_slice.ensures in
    if_ok_to c.modes_in.result _ (λ modes. (q : Path) → lookup (same_path q) modes.entries ≡ held_at locks tx q)
    (λ modes is q. is q ∙ all_kept locks c.as_slice.result.now tx q (λ h. sym (ap (λ ps. has_path ps q) paths) ∙ c.requires.sound.kept tx q h))
    c.modes_in.ensures

pub returns-in-None : goal.returns-in-None
returns-in-None c =
    let locks = c.args.table.now.entries in
    let tx = c.args.tx in
    let paths : paths_at c.args.paths.now tx.0 ≡ [] = ap (λ (o : Option (List Path)). unwrap_or o []) (sym c.in-None.ensures.value) in
    λ q. ap (λ es. lookup (same_path q) es) c.new.ensures.empty
    ∙ all_kept locks [] tx q (λ h. sym (ap (λ ps. has_path ps q) paths) ∙ c.requires.sound.kept tx q h)
