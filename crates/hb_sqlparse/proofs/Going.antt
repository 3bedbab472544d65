-- Paths of machines that take tokens one by one.
use Rattle.std.proofs.Common.{◌≡◌, List, [], ◌∷◌, ◌++◌, Option, Some, refl, sym, ap, ◌∙◌, subst}
use Rattle.hb_sqltoken.specs.declared.token.Token.{Token}
use Rattle.hb_sqlcond.specs.Runs.{Leads, here, next, Finds, Completes}
use Rattle.hb_sqlparse.proofs.Takes.{some_is}

-- a machine that stands in another one, where that goes on as it does
pub inside : {S U : Type 0} {small : S → Token → Option S} {large : U → Token → Option U} (into : S → U) → ((c : S) (t : Token) (m : S) → small c t ≡ Some m → large (into c) t ≡ Some (into m))
    → {c d : S} {s r : List Token} → Leads small c s d r → Leads large (into c) s (into d) r
inside into f here = here
inside into f (next {c = c} {m = m} {t = t} h x) = next (f c t m h) (inside into f x)

module _ {S : Type 0} {step : S → Token → Option S} where
  pub and_then : {c d e : S} {s m r : List Token} → Leads step c s d m → Leads step d m e r → Leads step c s e r
  and_then here y = y
  and_then (next h x) y = next h (and_then x y)

  -- what follows doesn't matter
  pub frame : {c d : S} {s r : List Token} → Leads step c s d r → (q : List Token) → Leads step c (s ++ q) d (r ++ q)
  frame here q = here
  frame (next h x) q = next h (frame x q)

  -- what the rest has to be is carried back along a path
  pub back_along : (R : S → List Token → Type 0) → ((c : S) (t : Token) (m : S) (s : List Token) → step c t ≡ Some m → R m s → R c (t ∷ s))
      → {c d : S} {s r : List Token} → Leads step c s d r → R d r → R c s
  back_along R f here x = x
  back_along R f (next {c = c} {m = m} {t = t} {s = s} h p) x = f c t m s h (back_along R f p x)

  -- the tokens of a path
  pub front_of : {c d : S} {s r : List Token} → Leads step c s d r → (front : List Token) × (s ≡ front ++ r) × Leads step c front d []
  front_of here = ([], refl, here)
  front_of (next {t = t} h x) = let y = front_of x in (t ∷ y.0, ap (λ (l : List Token). t ∷ l) y.1, next h y.2)

  -- a longer path goes along a shorter one
  pub follows : {c d e : S} {s r : List Token} → Leads step c s d r → Leads step c s e [] → Leads step d r e []
  follows here y = y
  follows (next {s = s} h x) (next {c = c} {m = m} {d = e} g y) = follows x (subst (λ n. Leads step n s e []) (some_is (sym g ∙ h)) y)

  module _ {T : Type 0} {whole : S → Option T} where
    pub find_here : (c : S) (a : T) (s : List Token) → whole c ≡ Some a → Finds step whole c a s s
    find_here c a s h = record { last = c; leads = here; is = h }

    pub find_next : {c m : S} {a : T} {t : Token} {s r : List Token} → step c t ≡ Some m → Finds step whole m a s r → Finds step whole c a (t ∷ s) r
    find_next h f = record { last = f.last; leads = next h f.leads; is = f.is }

    pub find_then : {c m : S} {a : T} {s n r : List Token} → Leads step c s m n → Finds step whole m a n r → Finds step whole c a s r
    find_then x f = record { last = f.last; leads = and_then x f.leads; is = f.is }

    pub ends_here : (c : S) (a : T) → whole c ≡ Some a → Completes step whole c
    ends_here c a h = record { rest = []; tree = a; finds = find_here c a [] h }

    pub ends_then : {c d : S} {s : List Token} → Leads step c s d [] → Completes step whole d → Completes step whole c
    ends_then {s = s} x e = record { rest = s ++ e.rest; tree = e.tree; finds = find_then (frame x e.rest) e.finds }

    pub ends_next : {c m : S} (t : Token) → step c t ≡ Some m → Completes step whole m → Completes step whole c
    ends_next t h e = record { rest = t ∷ e.rest; tree = e.tree; finds = find_next h e.finds }
