-- Machines that read items with commas between.
use Rattle.std.proofs.Common.{◌≡◌, ◌⊎◌, inl, inr, List, [], ◌∷◌, ◌++◌, Option, Some, refl, sym, ap, ◌∙◌, subst, append_assoc}
use Rattle.hb_sqltoken.specs.declared.token.Token.{Token}
use Rattle.hb_sqltoken.specs.declared.token.Token.TheVariants as token
use Rattle.hb_sqlcond.specs.Runs.{Leads, Finds, Completes, next}
use Rattle.hb_sqlparse.specs.Listed.{Listed, last, then}
use Rattle.hb_sqlparse.proofs.Going.{and_then, back_along}

-- A machine reads the items of a grammar.
pub record Meets {S T : Type 0} (start : S) (step : S → Token → Option S) (whole : S → Option T) (Is : T → List Token → List Token → Type 0) : Type 0 where
  pub complete : (t : T) (s r : List Token) → Is t s r → Finds step whole start t s r
  pub sound : (t : T) (s r : List Token) → Finds step whole start t s r → Is t s r
  pub completes : (c : S) → Completes step whole c

-- ---- what the rest of a list has to be

module _ {A : Type 0} (Is : A → List Token → List Token → Type 0) where
  -- items are wanted behind xs, and all are zs
  pub record WantRest (xs zs : List A) (s r : List Token) : Type 0 where
    pub more : List A
    pub listed : Listed Is more s r
    pub all : xs ++ more ≡ zs

  -- a comma goes on
  pub record CommaRest (xs zs : List A) (s r : List Token) : Type 0 where
    pub behind : List Token
    pub comma : s ≡ token.Comma ∷ behind
    pub want : WantRest xs zs behind r

  -- the last of xs is there
  abbrev pub HaveRest : List A → List A → List Token → List Token → Type 0
  HaveRest xs zs s r = ((xs ≡ zs) × (s ≡ r)) ⊎ CommaRest xs zs s r

  -- an item is behind xs
  pub record ItemRest (xs zs : List A) (s r : List Token) : Type 0 where
    pub item : A
    pub behind : List Token
    pub is : Is item s behind
    pub have : HaveRest (xs ++ item ∷ []) zs behind r

  pub item_want : (xs zs : List A) (s r : List Token) → ItemRest xs zs s r → WantRest xs zs s r
  item_want xs zs s r i = item_by i.item i.behind i.is i.have
    where
      item_by : (x : A) (m : List Token) → Is x s m → HaveRest (xs ++ x ∷ []) zs m r → WantRest xs zs s r
      item_by x m is (inl e) = record { more = x ∷ []; listed = last (subst (Is x s) e.1 is); all = e.0 }
      item_by x m is (inr c) = record {
        more = x ∷ c.want.more;
        listed = then (subst (Is x s) c.comma is) c.want.listed;
        all = sym (append_assoc xs (x ∷ []) c.want.more) ∙ c.want.all;
      }

  pub go_comma : (xs zs : List A) (s r : List Token) → WantRest xs zs s r → HaveRest xs zs (token.Comma ∷ s) r
  go_comma xs zs s r w = inr (record { behind = s; comma = refl; want = w })

  pub listed_of : (zs : List A) (s r : List Token) → WantRest [] zs s r → Listed Is zs s r
  listed_of zs s r w = subst (λ (l : List A). Listed Is l s r) w.all w.listed

-- ---- a list is found

-- behind xs a machine takes an item, and then a comma
pub record Item {A S : Type 0} (step : S → Token → Option S) (whole : S → Option (List A)) (want : List A → S) (xs : List A) (x : A) (s r : List Token) : Type 0 where
  pub state : S
  pub leads : Leads step (want xs) s state r
  pub is : whole state ≡ Some (xs ++ x ∷ [])
  pub goes_on : step state token.Comma ≡ Some (want (xs ++ x ∷ []))

module _ {A S : Type 0} (Is : A → List Token → List Token → Type 0) (step : S → Token → Option S) (whole : S → Option (List A)) (want : List A → S)
    (item : (xs : List A) (x : A) (s r : List Token) → Is x s r → Item step whole want xs x s r) where
  list_found : {ys : List A} {s r : List Token} → Listed Is ys s r → (xs : List A) → Finds step whole (want xs) (xs ++ ys) s r
  list_found (last {x = x} {s = s} {r = r} i) xs = let h = item xs x s r i in record { last = h.state; leads = h.leads; is = h.is }
  list_found (then {x = x} {xs = ys} {s = s} {m = m} i l) xs =
      let h = item xs x s (token.Comma ∷ m) i in
      let f = list_found l (xs ++ x ∷ []) in
      record { last = f.last; leads = and_then h.leads (next h.goes_on f.leads); is = f.is ∙ ap Some (append_assoc xs (x ∷ []) ys) }

  -- a machine whose rests are carried back reads lists
  module _ (Rest : S → List A → List Token → List Token → Type 0) (back : (zs : List A) (r : List Token) (c : S) (t : Token) (m : S) (s : List Token) → step c t ≡ Some m → Rest m zs s r → Rest c zs (t ∷ s) r)
      (base : (c : S) (zs : List A) (r : List Token) → whole c ≡ Some zs → Rest c zs r r) (wants : (zs : List A) (s r : List Token) → Rest (want []) zs s r → WantRest Is [] zs s r)
      (ends : (c : S) → Completes step whole c) where
    pub reads_list : Meets (want []) step whole (Listed Is)
    reads_list = record {
      complete = λ zs s r l. list_found l [];
      sound = λ zs s r f. listed_of Is zs s r (wants zs s r (back_along (λ c s. Rest c zs s r) (back zs r) f.leads (base f.last zs r f.is)));
      completes = ends;
    }
