-- What goes on from one moment to a later one goes on over a third.
use Rattle.std.proofs.Common.{◌≡◌, ℕ, ◌≤◌, ◌<◌, true, List, [], ◌∷◌, ◌++◌, sym, ap, ◌∙◌, subst, refl, inl, inr, ◌⊎◌, append_assoc, arith}
use Rattle.std.proofs.lemmas.Bool.{cases_lt}
use Rattle.std.proofs.lemmas.List.{append-nil}
use Rattle.hb_edge.specs.Images.{Image}
use Rattle.hb_types.specs.declared.trail.TrailEntry.{TrailEntry}
use Rattle.hb_types.specs.Calls.{may_pass}
use Rattle.hb_runs.specs.ServerRuns.{Asked}
use Rattle.hb_node.specs.Laws.{State, Explains, asked_in}
use Rattle.hb_reach.specs.Told.{Told, Seen}
use Rattle.hb_reach.specs.Goes.{IsLawful, MadeBetween, NodeGoes, Goes, Answered}

-- ---- one node

pub explains_same : (origin : State) (log : Image) (xs ys : List Asked) → xs ≡ ys → Explains origin xs log → Explains origin ys log
explains_same origin log xs ys e h = let P : List Asked → Type 0 = λ zs. Explains origin zs log in subst P e h

-- what a list makes is made between it and any longer one
made_at_once : (origin : State) (log : Image) (xs ys : List Asked) (more : List Asked) → ys ≡ xs ++ more → Explains origin xs log → MadeBetween origin xs ys log
made_at_once origin log xs ys more e h =
    record { more = []; rest = more; parts = e ∙ ap (λ (zs : List Asked). zs ++ more) (sym (append-nil xs)); made = inl (explains_same origin log xs (xs ++ []) (sym (append-nil xs)) h) }

pub node_stays : (from to : ℕ) (t : Told) → from ≤ to → NodeGoes from to t t
node_stays from to t le = record {
  named = refl;
  longer = ([], sym (append-nil t.list));
  law = λ origin h. record { explained = h.explained; in_time = omega (arith, le, h.in_time); images = λ m log area late l. h.images m log area (omega arith) l };
  images = λ origin h m log area late l. made_at_once origin log t.list t.list [] (sym (append-nil t.list)) (h.images m log area late l);
  before = λ origin h m log area early l. l;
}

-- made between a list and a longer one, with still more behind it
made_longer : (origin : State) (log : Image) (xs ys zs more : List Asked) → zs ≡ ys ++ more → MadeBetween origin xs ys log → MadeBetween origin xs zs log
made_longer origin log xs ys zs more e h =
    let longer : zs ≡ xs ++ (h.more ++ (h.rest ++ more)) =
    e ∙ ap (λ (ws : List Asked). ws ++ more) h.parts ∙ append_assoc (xs ++ h.more) h.rest more ∙ append_assoc xs h.more (h.rest ++ more) in
    record { more = h.more; rest = h.rest ++ more; parts = longer ∙ sym (append_assoc xs h.more (h.rest ++ more)); made = h.made }

-- made between a longer list and a third one
made_later : (origin : State) (log : Image) (xs ys zs more : List Asked) → ys ≡ xs ++ more → MadeBetween origin ys zs log → MadeBetween origin xs zs log
made_later origin log xs ys zs more e h = record {
  more = more ++ h.more;
  rest = h.rest;
  parts = h.parts ∙ ap (λ (ws : List Asked). ws ++ h.rest) over;
  made = elim h.made [
    | inl made ↦ inl (explains_same origin log (ys ++ h.more) (xs ++ (more ++ h.more)) over made)
    | inr made ↦ inr (
      made.0,
      made.1,
      explains_same origin log (ys ++ h.more ++ made.0 ∷ []) (xs ++ (more ++ h.more) ++ made.0 ∷ [])
          (ap (λ (ws : List Asked). ws ++ made.0 ∷ []) over) made.2,
    )
  ];
}
  where
    over : ys ++ h.more ≡ xs ++ (more ++ h.more)
    over = ap (λ (ws : List Asked). ws ++ h.more) e ∙ append_assoc xs more h.more

pub node_goes_on : (a b c : ℕ) (s t u : Told) → a ≤ b → NodeGoes a b s t → NodeGoes b c t u → NodeGoes a c s u
node_goes_on a b c s t u le g h = record {
  named = h.named ∙ g.named;
  longer = (g.longer.0 ++ h.longer.0, h.longer.1 ∙ ap (λ (ws : List Asked). ws ++ h.longer.0) g.longer.1 ∙ append_assoc s.list g.longer.0 h.longer.0);
  law = λ origin lawful. h.law origin (g.law origin lawful);
  images = λ origin lawful m log area late l. made origin lawful m log area late l (cases_lt m b);
  before = λ origin lawful m log area early l. g.before origin lawful m log area early (h.before origin (g.law origin lawful) m log area (omega arith) l);
}
  where
    made : (origin : State) → IsLawful a origin s → (m : ℕ) (log area : Image) → a ≤ m → u.leaves m log area → (m < b) ⊎ (b ≤ m) → MadeBetween origin s.list u.list log
    made origin lawful m log area late l (inl early) =
        made_longer origin log s.list t.list u.list h.longer.0 h.longer.1 (g.images origin lawful m log area late (h.before origin (g.law origin lawful) m log area early l))
    made origin lawful m log area late l (inr later) =
        made_later origin log s.list t.list u.list g.longer.0 g.longer.1 (h.images origin (g.law origin lawful) m log area later l)

-- ---- one call

longer_by : (e : TrailEntry) (old new : Told) → (new.list ≡ old.list ++ asked_in e ∷ []) ⊎ ((may_pass e.request e.answer ≡ true) × (new.list ≡ old.list)) → (more : List Asked) × (new.list ≡ old.list ++ more)
longer_by e old new (inl entered) = (asked_in e ∷ [], entered)
longer_by e old new (inr passed) = ([], passed.1 ∙ sym (append-nil old.list))

made_within : (origin : State) (log : Image) (e : TrailEntry) (old new : List Asked) → (new ≡ old ++ asked_in e ∷ []) ⊎ ((may_pass e.request e.answer ≡ true) × (new ≡ old))
    → Explains origin old log ⊎ Explains origin (old ++ asked_in e ∷ []) log → MadeBetween origin old new log
made_within origin log e old new (inl entered) (inl made) = made_at_once origin log old new (asked_in e ∷ []) entered made
made_within origin log e old new (inl entered) (inr made) =
    record { more = asked_in e ∷ []; rest = []; parts = entered ∙ sym (append-nil (old ++ asked_in e ∷ [])); made = inl made }
made_within origin log e old new (inr passed) (inl made) = made_at_once origin log old new [] (passed.1 ∙ sym (append-nil old)) made
made_within origin log e old new (inr passed) (inr made) = record {
  more = [];
  rest = [];
  parts = passed.1 ∙ sym (append-nil (old ++ []) ∙ append-nil old);
  made = inr (asked_in e, passed.0, explains_same origin log (old ++ asked_in e ∷ []) (old ++ [] ++ asked_in e ∷ []) (ap (λ (ws : List Asked). ws ++ asked_in e ∷ []) (sym (append-nil old))) made);
}

pub answered_goes : (e : TrailEntry) (old new : Told) → Answered e old new → NodeGoes e.from e.to old new
answered_goes e old new h = record {
  named = h.named;
  longer = longer_by e old new h.entered;
  law = λ origin lawful. record {
    explained = h.law origin lawful.explained lawful.in_time;
    in_time = h.in_time lawful.in_time;
    images = λ m log area late l. h.after origin lawful.explained lawful.in_time m log area late l;
  };
  images = λ origin lawful m log area late l. made_within origin log e old.list new.list h.entered (h.within origin lawful.explained lawful.in_time m log area late l);
  before = λ origin lawful. h.before origin lawful.explained lawful.in_time;
}

-- ---- all nodes

pub goes_same : (a : Seen) → Goes a a
goes_same a = record { clock = omega arith; count = refl; each = λ name. node_stays a.moment a.moment (a.node name) (omega arith) }

pub goes_on : (a b c : Seen) → Goes a b → Goes b c → Goes a c
goes_on a b c g h = record {
  clock = omega (arith, g.clock, h.clock);
  count = h.count ∙ g.count;
  each = λ name. node_goes_on a.moment b.moment c.moment (a.node name) (b.node name) (c.node name) g.clock (g.each name) (h.each name);
}
