-- Laws of modes, each tried at all modes.
use Rattle.std.proofs.Common.{◌≡◌, Bool, true, false, refl, ◌⊎◌}
use Rattle.std.specs.Prelude.{◌&&◌, ◌||◌, not}
use Rattle.std.proofs.lemmas.Bool.{and_parts, or_cases, false≢true}
use Rattle.hb_types.specs.declared.lock.Mode.{Mode}
use Rattle.hb_types.specs.declared.lock.Mode.TheVariants.{IS, IX, S, SIX, X}
use Rattle.hb_types.specs.Modes.{compatible, covers, join}
use Rattle.hb_types.specs.Places.{intention}
use Rattle.hb_laws.specs.ModeTable.{IsLeast, stands_beside}

-- a test at all modes
abbrev all : (Mode → Bool) → Bool
all f = f IS && (f IX && (f S && (f SIX && f X)))

all-at : (f : Mode → Bool) (m : Mode) → all f ≡ true → f m ≡ true
all-at f IS e = (and_parts (f IS) (f IX && (f S && (f SIX && f X))) e).0
all-at f IX e = (and_parts (f IX) (f S && (f SIX && f X)) (and_parts (f IS) (f IX && (f S && (f SIX && f X))) e).1).0
all-at f S e = (and_parts (f S) (f SIX && f X) (and_parts (f IX) (f S && (f SIX && f X)) (and_parts (f IS) (f IX && (f S && (f SIX && f X))) e).1).1).0
all-at f SIX e =
    (and_parts (f SIX) (f X) (and_parts (f S) (f SIX && f X) (and_parts (f IX) (f S && (f SIX && f X)) (and_parts (f IS) (f IX && (f S && (f SIX && f X))) e).1).1).1).0
all-at f X e =
    (and_parts (f SIX) (f X) (and_parts (f S) (f SIX && f X) (and_parts (f IX) (f S && (f SIX && f X)) (and_parts (f IS) (f IX && (f S && (f SIX && f X))) e).1).1).1).1

abbrev implies : Bool → Bool → Bool
implies a b = not a || b

implied : (a b : Bool) → implies a b ≡ true → a ≡ true → b ≡ true
implied true b e h = e
implied false b e h = absurd (false≢true h)

-- a joined mode is as strong as each of the two
pub join-left : (a b x : Mode) → covers a x ≡ true → covers (join a b) x ≡ true
join-left a b x =
    implied (covers a x) (covers (join a b) x)
    (all-at (λ x. implies (covers a x) (covers (join a b) x)) x
    (all-at (λ b. all (λ x. implies (covers a x) (covers (join a b) x))) b (all-at (λ a. all (λ b. all (λ x. implies (covers a x) (covers (join a b) x)))) a refl)))

pub join-right : (a b x : Mode) → covers b x ≡ true → covers (join a b) x ≡ true
join-right a b x =
    implied (covers b x) (covers (join a b) x)
    (all-at (λ x. implies (covers b x) (covers (join a b) x)) x
    (all-at (λ b. all (λ x. implies (covers b x) (covers (join a b) x))) b (all-at (λ a. all (λ b. all (λ x. implies (covers b x) (covers (join a b) x)))) a refl)))

pub compatible-sym : (a b : Mode) → compatible a b ≡ true → compatible b a ≡ true
compatible-sym a b =
    implied (compatible a b) (compatible b a)
    (all-at (λ b. implies (compatible a b) (compatible b a)) b (all-at (λ a. all (λ b. implies (compatible a b) (compatible b a))) a refl))

-- the intention of a joined mode is covered by that of one of the two
pub join-intention : (a b : Mode) → (covers (intention a) (intention (join a b)) ≡ true) ⊎ (covers (intention b) (intention (join a b)) ≡ true)
join-intention a b =
    or_cases (covers (intention a) (intention (join a b))) (covers (intention b) (intention (join a b)))
    (all-at (λ b. covers (intention a) (intention (join a b)) || covers (intention b) (intention (join a b))) b
    (all-at (λ a. all (λ b. covers (intention a) (intention (join a b)) || covers (intention b) (intention (join a b)))) a refl))

-- what covers a mode covers what that one covers
pub covers-trans : (a b x : Mode) → covers a b ≡ true → covers b x ≡ true → covers a x ≡ true
covers-trans a b x h =
    implied (covers b x) (covers a x)
    (implied (covers a b) (implies (covers b x) (covers a x))
    (all-at (λ x. implies (covers a b) (implies (covers b x) (covers a x))) x
    (all-at (λ b. all (λ x. implies (covers a b) (implies (covers b x) (covers a x)))) b
    (all-at (λ a. all (λ b. all (λ x. implies (covers a b) (implies (covers b x) (covers a x))))) a refl))) h)

pub covers-join : (c a b : Mode) → covers c a ≡ true → covers c b ≡ true → covers c (join a b) ≡ true
covers-join c a b h =
    implied (covers c b) (covers c (join a b))
    (implied (covers c a) (implies (covers c b) (covers c (join a b)))
    (all-at (λ b. implies (covers c a) (implies (covers c b) (covers c (join a b)))) b
    (all-at (λ a. all (λ b. implies (covers c a) (implies (covers c b) (covers c (join a b))))) a
    (all-at (λ c. all (λ a. all (λ b. implies (covers c a) (implies (covers c b) (covers c (join a b)))))) c refl))) h)

covers-refl : (a : Mode) → covers a a ≡ true
covers-refl a = all-at (λ a. covers a a) a refl

pub join-least : (a b : Mode) → IsLeast a b (join a b)
join-least a b =
    record { one = join-left a b a (covers-refl a); other = join-right a b b (covers-refl b); least = λ c. covers-join c a b }

abbrev same_truth : Bool → Bool → Bool
same_truth true b = b
same_truth false b = not b

same_truth-eq : (a b : Bool) → same_truth a b ≡ true → a ≡ b
same_truth-eq true true e = refl
same_truth-eq true false e = absurd (false≢true e)
same_truth-eq false true e = absurd (false≢true e)
same_truth-eq false false e = refl

pub compatible-table : (a b : Mode) → compatible a b ≡ stands_beside a b
compatible-table a b =
    same_truth-eq (compatible a b) (stands_beside a b)
    (all-at (λ b. same_truth (compatible a b) (stands_beside a b)) b (all-at (λ a. all (λ b. same_truth (compatible a b) (stands_beside a b))) a refl))

pub compatible-symmetric : (a b : Mode) → compatible a b ≡ compatible b a
compatible-symmetric a b =
    same_truth-eq (compatible a b) (compatible b a)
    (all-at (λ b. same_truth (compatible a b) (compatible b a)) b (all-at (λ a. all (λ b. same_truth (compatible a b) (compatible b a))) a refl))
