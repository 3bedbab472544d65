-- Locks agree one way round where they do the other way.
use Rattle.std.proofs.Common.{◌≡◌, Bool, true, false, refl, List}
use Rattle.std.specs.Prelude.{◌||◌, not}
use Rattle.std.proofs.lemmas.Bool.{false≢true}
use Rattle.hb_types.specs.declared.lock.Held.{Held}
use Rattle.hb_types.specs.declared.places.Path.{Path}
use Rattle.hb_types.specs.Lists.{Each}
use Rattle.hb_types.specs.Modes.{compatible}
use Rattle.hb_types.specs.Places.{same_path}
use Rattle.hb_types.proofs.Ascending.{Each-of, Each-in, in_Each}
use Rattle.hb_laws.proofs.ModeLaws.{compatible-sym}
use Rattle.hb_disks.specs.LogRules.{Agree, LocksAgree}
use Rattle.hb_loglaws.proofs.Cover.{same_path-refl, same_path-eq}

same_path-sym : (p q : Path) → same_path p q ≡ true → same_path q p ≡ true
same_path-sym p q e = rw (same_path-eq p q e) (same_path-refl q)

not_or : (a b : Bool) → (not a || b) ≡ true → a ≡ true → b ≡ true
not_or true b e h = e
not_or false b e h = absurd (false≢true h)

or_not : (a b : Bool) → (a ≡ true → b ≡ true) → (not a || b) ≡ true
or_not true b f = f refl
or_not false b f = refl

pub Agree-sym : (l m : Held) → Agree l m → Agree m l
Agree-sym l m a =
    or_not (same_path m.path l.path) (compatible m.mode l.mode)
    (λ s. compatible-sym l.mode m.mode (not_or (same_path l.path m.path) (compatible l.mode m.mode) a (same_path-sym m.path l.path s)))

pub LocksAgree-sym : (ls ms : List Held) → LocksAgree ls ms → LocksAgree ms ls
LocksAgree-sym ls ms a = Each-in (λ m. Each (Agree m) ls) ms (λ m i. Each-of (λ l. Each (Agree l) ms) (Agree m) ls (λ l e. Agree-sym l m (in_Each (Agree l) m ms i e)) a)
