-- How far a run of a session comes, from where its transaction stands.
use Rattle.std.proofs.Common.{◌≡◌, List, [], ◌∷◌, ◌++◌, Bool, subst, sym, ap}
use Rattle.hb_types.specs.declared.trail.Call.{Call}
use Rattle.hb_model.specs.declared.reply.Reply.{Reply}
use Rattle.hb_model.specs.declared.statement.Statement.{Statement}
use Rattle.hb_session.specs.Runs.{Runs, stays, gives, asks, refuses}
use Rattle.hb_session.specs.Sitting.{Sitting}
use Rattle.hb_itemlaws.specs.Dividing.{Given, statements}
use Rattle.hb_sessionitems.specs.GivingUp.{InTurn}
use Rattle.hb_sessionitems.proofs.Positions.{At, LeftAt}
use Rattle.hb_sessionitems.proofs.Stepping.{asks_at, gives_at, refuses_at}

abbrev head_or : {A : Type 0} → A → List A → A
head_or x [] = x
head_or x (y ∷ ys) = y

abbrev tail_of : {A : Type 0} → List A → List A
tail_of [] = []
tail_of (y ∷ ys) = ys

-- If it comes so far from its last sitting, wherever that stands, it comes so far from each.
pub run_on : (old m last : Sitting) (amidst : Bool) (tail : List Call) (given : List Statement) (calls : List Call) (replies : List Reply) → (runs : Runs m given calls replies last) → InTurn runs
    → ((at : At old last) → LeftAt old last amidst at [] tail []) → (at : At old m) (ws : List Given) → statements ws ≡ given → LeftAt old m amidst at ws (calls ++ tail) replies
run_on old m last amidst tail given calls replies stays turn final at [] e = final at
run_on old m last amidst tail given calls replies stays turn final at (w ∷ ws) e = absurd (cc e)
run_on old m last amidst tail _ calls replies (gives {m = n} {st = st} {sts = given} g more) turn final at [] e = absurd (cc e)
run_on old m last amidst tail _ calls replies (gives {m = n} {st = st} {sts = given} g more) turn final at ((place, s) ∷ ws) e =
    let now = gives_at old m n amidst st turn.0 g at in
    subst (λ x. LeftAt old m amidst at ((place, x) ∷ ws) (calls ++ tail) replies) (sym (ap (head_or s) e))
    (now.1 place ws (calls ++ tail) replies (run_on old n last amidst tail given calls replies more turn.1 final now.0 ws (ap tail_of e)))
run_on old m last amidst tail given _ _ (asks {m = n} {cs = calls} {rs = replies} p a shows h goes more) turn final at ws e =
    let o = asks_at old m n amidst shows h.leaves goes p a h at in
    o.1 ws (calls ++ tail) replies (run_on old n last amidst tail given calls replies more turn final o.0 ws e)
run_on old m last amidst tail given calls _ (refuses {m = n} {rs = replies} shows leaves to goes more) turn final at ws e =
    let o = refuses_at old m n amidst shows leaves goes at to in
    o.1 ws (calls ++ tail) replies (run_on old n last amidst tail given calls replies more turn.2 final o.0 ws e)
