-- What a branch that reads under a path covers there.
use Rattle.std.proofs.Common.{◌≡◌, true, List, refl, sym, subst}
use Rattle.std.specs.Prelude.{◌&&◌, IsTrue, ◌==◌}
use Rattle.std.proofs.lemmas.Bool.{and_parts, and_from, eq-eqb}
use Rattle.hb_types.specs.declared.lock.Held.{Held}
use Rattle.hb_types.specs.declared.lock.Mode.{Mode}
use Rattle.hb_types.specs.declared.places.Path.{Path}
use Rattle.hb_types.specs.declared.places.Path.TheVariants as path
use Rattle.hb_types.specs.declared.places.Place.{Place}
use Rattle.hb_types.specs.Ladders.{upward}
use Rattle.hb_types.specs.Lists.{Each}
use Rattle.hb_types.specs.Modes.{covers}
use Rattle.hb_types.specs.Places.{same_path, same_space, is_under}
use Rattle.hb_types.proofs.Ascending.{pick, Has-of}
use Rattle.hb_types.proofs.SamePlace.{same_space-refl, same_place-eq}
use Rattle.hb_disks.specs.LogRules.{IsHeld, Covers}
use Rattle.hb_runs.specs.Server.{Branch, HoldsOne}
use Rattle.hb_loglaws.proofs.Cover.{same_path-eq}

one_held : (ls : List Held) (m : Mode) (p : Path) (x : Place) → is_under p x ≡ true → IsHeld ls m p → Covers ls m x
one_held ls m p x u h =
    Has-of (λ l. IsTrue (same_path l.path p && covers l.mode m)) (λ l. IsTrue (covers l.mode m && is_under l.path x)) ls
    (λ l t. let k = and_parts (same_path l.path p) (covers l.mode m) t in
    and_from (covers l.mode m) (is_under l.path x) k.1 (subst (λ q. is_under q x ≡ true) (sym (same_path-eq l.path p k.0)) u)) h

-- what lies under a path lies under those above it
upward_over : (p : Path) (x : Place) → is_under p x ≡ true → Each (λ q. is_under q x ≡ true) (upward p)
upward_over (path.Whole s) x u = (u, tt)
upward_over (path.Group s g) x u = (u, ((and_parts (same_space s x.space) (g == x.group) u).0, tt))
upward_over (path.Key k) x u =
    let e : k ≡ x = same_place-eq k x u in (
      u,
      (
        subst (λ z. is_under (path.Whole z.space) x ≡ true) (sym e) (same_space-refl x.space),
        (subst (λ z. is_under (path.Group z.space z.group) x ≡ true) (sym e) (and_from (same_space x.space x.space) (x.group == x.group) (same_space-refl x.space) (eq-eqb x.group x.group refl)), tt),
      ),
    )

pub holds_covers : (b : Branch) (m : Mode) (p : Path) (x : Place) → HoldsOne b m (upward p) → is_under p x ≡ true → Covers b.locks m x
holds_covers b m p x h u =
    let k = pick (λ q. IsHeld b.locks m q) (λ q. is_under q x ≡ true) (upward p) h (upward_over p x u) in
    one_held b.locks m k.item x k.other k.one
