-- One lock of a ladder, and the ladder with one more.
use Rattle.std.proofs.Common.{◌≡◌, ◌≢◌, true, refl, sym, ◌∙◌, ap, subst, List, [], ◌∷◌, ◌++◌, inl, inr, if◌then◌else◌, Option, Some}
use Rattle.std.specs.Prelude.{IsSomeAnd}
use Rattle.hb_types.specs.declared.answer.Answer.{Answer}
use Rattle.hb_types.specs.declared.answer.Answer.TheVariants as answer
use Rattle.hb_types.specs.declared.lock.Held.{Held}
use Rattle.hb_types.specs.declared.lock.Holder.{Holder}
use Rattle.hb_types.specs.declared.lock.Mode.{Mode}
use Rattle.hb_types.specs.declared.names.Tx.{Tx}
use Rattle.hb_types.specs.declared.places.Path.{Path}
use Rattle.hb_types.specs.declared.places.Path.TheVariants.{Whole, Group, Key}
use Rattle.hb_types.specs.declared.places.Place.{Place}
use Rattle.hb_types.specs.Ladders.{ladder}
use Rattle.hb_types.specs.Modes.{covers}
use Rattle.hb_types.specs.Places.{intention}
use Rattle.hb_locks.specs.Locks.{Locks, HoldsAncestors, Changes, granted, held_at, holders_at, mode_of}
use Rattle.hb_locks.specs.Takes.{wanted_at}
use Rattle.hb_locks.proofs.Order.{same_path-refl}
use Rattle.hb_engine.specs.Climbs.{Rung, Climbs, HasLadder}
use Rattle.hb_engine.proofs.Granting.{covers-wanted, intention-twice, mode_of-granted_same}

above_stays : (old new : Locks) (tx : Tx) (p q : Path) (m : Mode) (hs : List Holder) → holders_at new q ≡ holders_at old q
    → IsSomeAnd (held_at old tx q) (λ held. covers held (intention m) ≡ true) → IsSomeAnd (held_at new tx q) (λ held. covers held (intention m) ≡ true)
above_stays old new tx p q m hs e h = subst (λ (l : List Holder). IsSomeAnd (mode_of tx l) (λ held. covers held (intention m) ≡ true)) (sym e) h

ancestors_stay : (old new : Locks) (tx : Tx) (p : Path) (m : Mode) (hs : List Holder) → Changes old new p hs → HoldsAncestors old tx p m → HoldsAncestors new tx p m
ancestors_stay old new tx (Whole s) m hs c h = tt
ancestors_stay old new tx (Group s g) m hs c h = (above_stays old new tx (Group s g) (Whole s) m hs (c (Whole s)) h.0, tt)
ancestors_stay old new tx (Key p) m hs c h =
    (above_stays old new tx (Key p) (Whole p.space) m hs (c (Whole p.space)) h.0, (above_stays old new tx (Key p) (Group p.space p.group) m hs (c (Group p.space p.group)) h.1.0, tt))

strong : (o : Option Mode) (w m : Mode) → o ≡ Some w → covers w m ≡ true → IsSomeAnd o (λ held. covers held m ≡ true)
strong o w m e c = subst (λ (o : Option Mode). IsSomeAnd o (λ held. covers held m ≡ true)) (sym e) c

pub rung_held : (old new : Locks) (tx : Tx) (p : Path) (m : Mode) → HoldsAncestors old tx p m → Changes old new p (granted tx (wanted_at old tx p m) (holders_at old p)) → HasLadder new tx p m
rung_held old new tx p m above c =
    let here : held_at new tx p ≡ Some (wanted_at old tx p m) =
    ap (mode_of tx) (c p ∙ ap (λ b. if b then granted tx (wanted_at old tx p m) (holders_at old p) else holders_at old p) (same_path-refl p))
    ∙ mode_of-granted_same tx (wanted_at old tx p m) (holders_at old p) in
    (ancestors_stay old new tx p m (granted tx (wanted_at old tx p m) (holders_at old p)) c above, strong (held_at new tx p) (wanted_at old tx p m) m here (covers-wanted (held_at old tx p) m))

-- a ladder of one
single : (tx : Tx) (h : Held) (old new : Locks) (a : Answer) → Rung tx h old new a → Climbs tx old new (h ∷ []) a
single tx h old new answer.Done r = inl (new, r, (refl, refl))
single tx h old new (answer.Blocked p w hs) r = inr ((λ e. cc), r)
single tx h old new answer.NoMemory r = inr ((λ e. cc), r)
single tx h old new _ r = absurd r

one_more : (tx : Tx) (h : Held) (hs : List Held) (old mid new : Locks) (a : Answer) → Climbs tx old mid hs answer.Done → Rung tx h mid new a → Climbs tx old new (hs ++ h ∷ []) a
one_more tx h [] old mid new a c r = single tx h old new a (subst (λ (l : Locks). Rung tx h l new a) c.1 r)
one_more tx h (g ∷ gs) old mid new a (inl c) r = inl (c.0, c.1, one_more tx h gs c.0 mid new a c.2 r)
one_more tx h (g ∷ gs) old mid new a (inr c) r = absurd (c.0 refl)

stopped : (tx : Tx) (h : Held) (hs : List Held) (old new : Locks) (a : Answer) → a ≢ answer.Done → Climbs tx old new hs a → Climbs tx old new (hs ++ h ∷ []) a
stopped tx h [] old new a n c = absurd (n c.0)
stopped tx h (g ∷ gs) old new a n (inl c) = inl (c.0, c.1, stopped tx h gs c.0 new a n c.2)
stopped tx h (g ∷ gs) old new a n (inr c) = inr c

-- the ladder of a key is that of its group with the key
relabel : (tx : Tx) (place : Place) (m : Mode) (old new : Locks) (a : Answer) → Climbs tx old new (ladder (Group place.space place.group) (intention m) ++ record { path = Key place; mode = m } ∷ []) a → Climbs tx old new (ladder (Key place) m) a
relabel tx place m old new a c =
    subst (λ (n : Mode). Climbs tx old new (record { path = Whole place.space; mode = n } ∷ record { path = Group place.space place.group; mode = intention m } ∷ record { path = Key place; mode = m } ∷ []) a)
    (intention-twice m) c

pub key_done : (tx : Tx) (place : Place) (p : Path) (m n : Mode) (old mid new : Locks) (a : Answer) → p ≡ Key place → n ≡ intention m → Climbs tx old mid (ladder (Group place.space place.group) n) answer.Done
    → Rung tx (record { path = Key place; mode = m }) mid new a → Climbs tx old new (ladder p m) a
key_done tx place p m n old mid new a e f c r =
    subst (λ (q : Path). Climbs tx old new (ladder q m) a) (sym e)
    (relabel tx place m old new a
    (one_more tx (record { path = Key place; mode = m }) (ladder (Group place.space place.group) (intention m)) old mid new a
    (subst (λ (k : Mode). Climbs tx old mid (ladder (Group place.space place.group) k) answer.Done) f c) r))

pub key_stopped : (tx : Tx) (place : Place) (p : Path) (m n : Mode) (old new : Locks) (a : Answer) → p ≡ Key place → n ≡ intention m → a ≢ answer.Done → Climbs tx old new (ladder (Group place.space place.group) n) a → Climbs tx old new (ladder p m) a
key_stopped tx place p m n old new a e f d c =
    subst (λ (q : Path). Climbs tx old new (ladder q m) a) (sym e)
    (relabel tx place m old new a (stopped tx (record { path = Key place; mode = m }) (ladder (Group place.space place.group) (intention m)) old new a d
    (subst (λ (k : Mode). Climbs tx old new (ladder (Group place.space place.group) k) a) f c)))

pub key_ready : (tx : Tx) (place : Place) (p : Path) (m n : Mode) (mid : Locks) → p ≡ Key place → n ≡ intention m → HasLadder mid tx (Group place.space place.group) n → HoldsAncestors mid tx p m
key_ready tx place p m n mid e f h =
    subst (λ (q : Path). HoldsAncestors mid tx q m) (sym e)
    (let k : HasLadder mid tx (Group place.space place.group) (intention m) = subst (λ (x : Mode). HasLadder mid tx (Group place.space place.group) x) f h in
    (subst (λ (x : Mode). IsSomeAnd (held_at mid tx (Whole place.space)) (λ held. covers held x ≡ true)) (intention-twice m) k.0.0, (k.1, tt)))
