-- Changes stay by ascending place, and a list of writes says at each place what its last ones do.
use Rattle.std.proofs.Common.{◌≡◌, ℕ, Bool, true, false, refl, sym, ◌∙◌, ap, List, [], ◌∷◌, ◌++◌, Option, if◌then◌else◌}
use Rattle.std.specs.Ordering.{is_lt}
use Rattle.std.specs.declared.cmp.Ordering.TheVariants.{Less}
use Rattle.std.proofs.lemmas.Bool.{true≢false, false≢true}
use Rattle.hb_types.specs.declared.change.Change.{Change}
use Rattle.hb_types.specs.declared.places.Place.{Place}
use Rattle.hb_types.specs.Lists.{Ascends, Each}
use Rattle.hb_types.specs.Places.{place_cmp, same_place}
use Rattle.hb_types.specs.Put.{with_change, without_change, normal, normal_onto, last_at}
use Rattle.hb_types.proofs.Ascending.{Ascends-first, Ascends-tail}
use Rattle.hb_types.proofs.PutLaws.{by_test}
use Rattle.hb_types.proofs.SamePlace.{same_place-eq}
use Rattle.hb_branch.specs.Overlays.{change_cmp, putting}
use Rattle.hb_branch.proofs.Ranks.{change_total, is_less, not_less, same_place-sym}

-- ---- they ascend

pub cons_ascends : (c : Change) (cs : List Change) → Each (λ d. change_cmp c d ≡ Less) cs → Ascends change_cmp cs → Ascends change_cmp (c ∷ cs)
cons_ascends c [] e a = tt
cons_ascends c (d ∷ ds) e a = (e.0, a)

each_without : (P : Change → Type 0) (p : Place) (cs : List Change) → Each P cs → Each P (without_change p cs)
each_without P p [] e = tt
each_without P p (c ∷ cs) e = by_test (same_place p c.place) (λ t. rw t (each_without P p cs e.1)) (λ f. rw f (e.0, each_without P p cs e.1))

without_ascends : (p : Place) (cs : List Change) → Ascends change_cmp cs → Ascends change_cmp (without_change p cs)
without_ascends p [] a = tt
without_ascends p (c ∷ cs) a =
    let tail = without_ascends p cs (Ascends-tail change_cmp change_total c cs a) in
    by_test (same_place p c.place) (λ t. rw t tail)
    (λ f. rw f (cons_ascends c (without_change p cs) (each_without (λ d. change_cmp c d ≡ Less) p cs (Ascends-first change_cmp change_total c cs a)) tail))

each_with : (P : Change → Type 0) (c : Change) (cs : List Change) → P c → Each P cs → Each P (with_change c cs)
each_with P c [] h e = (h, tt)
each_with P c (d ∷ ds) h e = by_test (is_lt (place_cmp d.place c.place)) (λ t. rw t (e.0, each_with P c ds h e.1)) (λ f. rw f (h, e))

abbrev Apart : Place → List Change → Type 0
Apart p cs = Each (λ d. same_place p d.place ≡ false) cs

apart_without : (p : Place) (cs : List Change) → Apart p (without_change p cs)
apart_without p [] = tt
apart_without p (c ∷ cs) = by_test (same_place p c.place) (λ t. rw t (apart_without p cs)) (λ f. rw f (f, apart_without p cs))

with_ascends : (c : Change) (cs : List Change) → Apart c.place cs → Ascends change_cmp cs → Ascends change_cmp (with_change c cs)
with_ascends c [] n a = tt
with_ascends c (d ∷ ds) n a =
    by_test (is_lt (place_cmp d.place c.place))
    (λ t. rw t
    (cons_ascends d (with_change c ds) (each_with (λ x. change_cmp d x ≡ Less) c ds (is_less (place_cmp d.place c.place) t) (Ascends-first change_cmp change_total d ds a))
    (with_ascends c ds n.1 (Ascends-tail change_cmp change_total d ds a))))
    (λ f. rw f (not_less d.place c.place f (same_place-sym d.place c.place ∙ n.0), a))

pub putting_ascends : (c : Change) (cs : List Change) → Ascends change_cmp cs → Ascends change_cmp (putting c cs)
putting_ascends c cs a = with_ascends c (without_change c.place cs) (apart_without c.place cs) (without_ascends c.place cs a)

pub normal_onto_ascends : (done cs : List Change) → Ascends change_cmp done → Ascends change_cmp (normal_onto done cs)
normal_onto_ascends done [] a = a
normal_onto_ascends done (c ∷ cs) a = normal_onto_ascends (putting c done) cs (putting_ascends c done a)

pub normal_ascends : (cs : List Change) → Ascends change_cmp (normal cs)
normal_ascends cs = normal_onto_ascends [] cs tt

-- ---- what they put at a place

last_at-without : (x : Place) (p : Place) (cs : List Change) (old : Option (List ℕ)) → same_place x p ≡ false → last_at x (without_change p cs) old ≡ last_at x cs old
last_at-without x p [] old n = refl
last_at-without x p (c ∷ cs) old n =
    by_test (same_place p c.place)
    (λ t. let m : same_place x c.place ≡ false = sym (ap (same_place x) (same_place-eq p c.place t)) ∙ n in rw (t, m) (last_at-without x p cs old n))
    (λ f. rw f (last_at-without x p cs (if same_place x c.place then c.row else old) n))

last_at-gone : (x : Place) (cs : List Change) (old : Option (List ℕ)) → Apart x cs → last_at x cs old ≡ old
last_at-gone x [] old n = refl
last_at-gone x (c ∷ cs) old n = rw n.0 (last_at-gone x cs old n.1)

last_at-with_other : (x : Place) (c : Change) (cs : List Change) (old : Option (List ℕ)) → same_place x c.place ≡ false → last_at x (with_change c cs) old ≡ last_at x cs old
last_at-with_other x c [] old n = rw n refl
last_at-with_other x c (d ∷ ds) old n =
    by_test (is_lt (place_cmp d.place c.place))
    (λ t. rw t (last_at-with_other x c ds (if same_place x d.place then d.row else old) n))
    (λ f. rw f (ap (λ b. last_at x ds (if same_place x d.place then d.row else (if b then c.row else old))) n))

last_at-with_same : (x : Place) (c : Change) (cs : List Change) (old : Option (List ℕ)) → same_place x c.place ≡ true → Apart x cs → last_at x (with_change c cs) old ≡ c.row
last_at-with_same x c [] old t n = rw t refl
last_at-with_same x c (d ∷ ds) old t n =
    by_test (is_lt (place_cmp d.place c.place))
    (λ b. rw b (ap (λ z. last_at x (with_change c ds) (if z then d.row else old)) n.0 ∙ last_at-with_same x c ds old t n.1))
    (λ f. rw f
    (ap (λ z. last_at x ds (if z then d.row else (if same_place x c.place then c.row else old))) n.0
    ∙ ap (λ z. last_at x ds (if z then c.row else old)) t ∙ last_at-gone x ds c.row n.1))

last_at-putting : (x : Place) (c : Change) (cs : List Change) (old : Option (List ℕ)) → last_at x (putting c cs) old ≡ if same_place x c.place then c.row else last_at x cs old
last_at-putting x c cs old =
    by_test (same_place x c.place)
    (λ t. rw t (last_at-with_same x c (without_change c.place cs) old t
    (let e = same_place-eq x c.place t in rw e (apart_without c.place cs))))
    (λ f. rw f (last_at-with_other x c (without_change c.place cs) old f ∙ last_at-without x c.place cs old f))

pub last_at-append : (x : Place) (cs ds : List Change) (old : Option (List ℕ)) → last_at x (cs ++ ds) old ≡ last_at x ds (last_at x cs old)
last_at-append x [] ds old = refl
last_at-append x (c ∷ cs) ds old = last_at-append x cs ds (if same_place x c.place then c.row else old)

last_at-normal_onto : (x : Place) (done cs : List Change) (old : Option (List ℕ)) → last_at x (normal_onto done cs) old ≡ last_at x cs (last_at x done old)
last_at-normal_onto x done [] old = refl
last_at-normal_onto x done (c ∷ cs) old = last_at-normal_onto x (putting c done) cs old ∙ ap (last_at x cs) (last_at-putting x c done old)

pub last_at-normal : (x : Place) (cs : List Change) (old : Option (List ℕ)) → last_at x (normal cs) old ≡ last_at x cs old
last_at-normal x cs old = last_at-normal_onto x [] cs old

normal_onto-append : (done cs ds : List Change) → normal_onto done (cs ++ ds) ≡ normal_onto (normal_onto done cs) ds
normal_onto-append done [] ds = refl
normal_onto-append done (c ∷ cs) ds = normal_onto-append (putting c done) cs ds

-- a write more
pub normal-more : (own : List Change) (c : Change) → normal (own ++ c ∷ []) ≡ putting c (normal own)
normal-more own c = normal_onto-append [] own (c ∷ [])
