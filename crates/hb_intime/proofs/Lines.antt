-- What lines tell: the numbers that they show, and what events they are.
use Rattle.std.proofs.Common.{◌≡◌, ◌∙◌, ℕ, ◌<◌, false, List, [], ◌∷◌, Some, MatchOption, ap, arith, inl, inr, length, refl, subst, sym}
use Rattle.std.specs.Prelude.{IsTrue, ◌||◌, ⊤}
use Rattle.std.specs.Ordering.{nat_cmp}
use Rattle.std.proofs.lemmas.Bool.{false≢true}
use Rattle.hb_types.specs.declared.answer.Answer.TheVariants as answer
use Rattle.hb_types.specs.declared.request.Request.TheVariants as request
use Rattle.hb_types.specs.declared.trail.Call.{Call}
use Rattle.hb_types.specs.Lists.{Ascends, Each, IsIn}
use Rattle.hb_types.proofs.Ascending.{Each-of, in_Each}
use Rattle.hb_loglaws.proofs.Members.{found}
use Rattle.hb_model.specs.declared.reply.Reply.{Reply}
use Rattle.hb_model.specs.declared.reply.Reply.TheVariants as reply
use Rattle.hb_model.specs.declared.statement.Statement.{Statement}
use Rattle.hb_model.specs.declared.statement.Statement.TheVariants as statement
use Rattle.hb_model.specs.Items.{Doing, sql, tending, turn}
use Rattle.hb_model.specs.Outside.{says_undone}
use Rattle.hb_disks.specs.Redo.{Decided}
use Rattle.hb_law.specs.Callers.{WasDecided}
use Rattle.hb_law.specs.Histories.{Event, Shown, asked_by, calls, gives, lines_in, shows}
use Rattle.hb_law.specs.InTime.{IsWork, is_busy}
use Rattle.hb_law.specs.Ordered.{IsGivingOf, IsLineOf, IsMovedOf, Shows}
use Rattle.hb_law.specs.ShownEnds.{moving_number, number_shown}
use Rattle.hb_law.specs.Standing.{leaves_open}
use Rattle.hb_law.specs.Transactions.{BeginsWell, IsBoundItem, IsBoundStatement, IsOfStatements, IsReplyTo, IsTurning, TellsOutcome, Txn, WasAnswered, number_of}
use Rattle.hb_parts.specs.Owning.{IsToldDecided}
use Rattle.hb_whose.proofs.Parts.{none_some, some_is}
use Rattle.hb_whose.proofs.Told.{IsForFes, decides, less_is, was_decided}

-- ---- what events are

pub line_is : (c p : ℕ) (e : Event) → IsLineOf c p e → (r : Reply) × (e ≡ shows c p r)
line_is c p (shows d q r) h = (r, λ i. shows (h.0 i) (h.1 i) r)
line_is c p (calls d n entry) h = absurd h
line_is c p (gives d q) h = absurd h

pub moved_is : (c p : ℕ) (e : Event) → IsMovedOf c p e → (r : Reply) × (e ≡ shows c p r) × (k : ℕ) × (moving_number r ≡ Some k)
moved_is c p (shows d q (reply.Moved rows group number)) h = (reply.Moved rows group number, (λ i. shows (h.0 i) (h.1 i) (reply.Moved rows group number)), number.0, refl)
moved_is c p (shows d q r) h = absurd h
moved_is c p (calls d n entry) h = absurd h
moved_is c p (gives d q) h = absurd h

pub giving_is : (c p : ℕ) (e : Event) → IsGivingOf c p e → e ≡ gives c p
giving_is c p (gives d q) h = λ i. gives (h.0 i) (h.1 i)
giving_is c p (calls d n entry) h = absurd h
giving_is c p (shows d q r) h = absurd h

pub shown_is : (m : ℕ) (e : Event) → Shows m e → (c : ℕ) × (p : ℕ) × (r : Reply) × (e ≡ shows c p r) × (number_shown r ≡ Some m)
shown_is m (shows c p r) h = (c, p, r, refl, h)
shown_is m (calls d n entry) h = absurd h
shown_is m (gives d q) h = absurd h

line_more : (l : Shown) (e : Event) (es : List Event) → IsIn l (lines_in es) → IsIn l (lines_in (e ∷ es))
line_more l (shows d q s) es h = inr h
line_more l (calls d n entry) es h = h
line_more l (gives d q) es h = h

pub line_in : (c p : ℕ) (r : Reply) (es : List Event) → IsIn (shows c p r) es → IsIn (record { caller = c; place = p; reply = r }) (lines_in es)
line_in c p r [] h = absurd h
line_in c p r (e ∷ es) (inl q) = subst (λ z. IsIn (record { caller = c; place = p; reply = r }) (lines_in (z ∷ es))) (sym q) (inl refl)
line_in c p r (e ∷ es) (inr h) = line_more (record { caller = c; place = p; reply = r }) e es (line_in c p r es h)

-- ---- numbers

pub quiet : (r : Reply) (m : ℕ) → number_shown r ≡ Some m → is_busy r ≡ false
quiet reply.Busy m e = absurd (none_some m e)
quiet r m e = refl

pub moving_shown : (r : Reply) (m : ℕ) → moving_number r ≡ Some m → number_shown r ≡ Some m
moving_shown (reply.Moved rows group number) m e = e
moving_shown (reply.Complete number) m e = e
moving_shown (reply.Suspended turns number) m e = e
moving_shown r m e = absurd (none_some m e)

pub moving_decided : (cs : List Call) (r : Reply) (m : ℕ) → MatchOption (number_of r) ⊤ (λ n. WasDecided n cs) → moving_number r ≡ Some m → WasDecided m cs
moving_decided cs (reply.Moved rows group number) m n e = subst (λ z. WasDecided z cs) (some_is number.0 m e) n
moving_decided cs (reply.Complete number) m n e = subst (λ z. WasDecided z cs) (some_is number.0 m e) n
moving_decided cs (reply.Suspended turns number) m n e = subst (λ z. WasDecided z cs) (some_is number.0 m e) n
moving_decided cs r m n e = absurd (none_some m e)

-- one of these calls was told this number
abbrev pub TellsIn : ℕ → List Call → Type 0
TellsIn m cs = (x : Call) × (u : ℕ) × IsIn x cs × IsToldDecided u m (asked_by x)

pub for_fes : (u m : ℕ) (x : Call) → IsToldDecided u m (asked_by x) → IsForFes x.request
for_fes u m x k = elim k.asked [ inl q ↦ subst IsForFes (sym q) tt | inr q ↦ subst IsForFes (sym q.1) tt ]

decided_tells : (m : ℕ) (cs : List Call) → WasDecided m cs → TellsIn m cs
decided_tells m cs h = let d = was_decided m cs h in let q = decides d.0.request d.2 in (d.0, q.0.0, d.1, record { asked = inr (q.1, q.2); answered = d.3 })

outcome_tells : (tx m : ℕ) (cs : List Call) → WasAnswered tx (answer.Decided (record { 0 = m })) cs → TellsIn m cs
outcome_tells tx m cs h =
    let c = found (λ (c : Call). (c.request ≡ request.Outcome (record { 0 = tx })) × (c.answer ≡ answer.Decided (record { 0 = m }))) cs h in
    (c.0, tx, c.1, record { asked = inl c.2.0; answered = c.2.1 })

pub number_tells : (txns : List Txn) (cs : List Call) (r : Reply) (m : ℕ) → MatchOption (number_of r) ⊤ (λ n. WasDecided n cs) → TellsOutcome txns cs r
    → number_shown r ≡ Some m → TellsIn m cs
number_tells txns cs (reply.Committed number) m n o e = decided_tells m cs (subst (λ z. WasDecided z cs) (some_is number.0 m e) n)
number_tells txns cs (reply.Moved rows group number) m n o e = decided_tells m cs (subst (λ z. WasDecided z cs) (some_is number.0 m e) n)
number_tells txns cs (reply.Complete number) m n o e = decided_tells m cs (subst (λ z. WasDecided z cs) (some_is number.0 m e) n)
number_tells txns cs (reply.Suspended turns number) m n o e = decided_tells m cs (subst (λ z. WasDecided z cs) (some_is number.0 m e) n)
number_tells txns cs (reply.ToldCommitted own number) m n o e =
    let t = found (λ (t : Txn). (t.owner ≡ own) × WasAnswered t.tx (answer.Decided number) cs) txns o in
    outcome_tells t.0.tx m cs (subst (λ z. WasAnswered t.0.tx (answer.Decided (record { 0 = z })) cs) (some_is number.0 m e) t.2.1)
number_tells txns cs r m n o e = absurd (none_some m e)

-- ---- one decision a number

first_below : (d : Decided) (ds : List Decided) → Ascends (λ a b. nat_cmp a.number b.number) (d ∷ ds) → Each (λ z. d.number < z.number) ds
first_below d [] a = tt
first_below d (e ∷ es) a =
    let lt = less_is d.number e.number a.0 in
    (lt, Each-of (λ z. e.number < z.number) (λ z. d.number < z.number) es (λ z h. later d.number e.number z.number lt h) (first_below e es a.1))
  where
    later : (x y z : ℕ) → x < y → y < z → x < z
    later x y z p q = omega (arith, p, q)

behind_first : (d : Decided) (ds : List Decided) → Ascends (λ a b. nat_cmp a.number b.number) (d ∷ ds) → Ascends (λ a b. nat_cmp a.number b.number) ds
behind_first d [] a = tt
behind_first d (e ∷ es) a = a.1

below_not : (x y : ℕ) → x < y → x ≡ y → ⊥
below_not x y lt e = omega (arith, lt, e)

pub of_number : (d e : Decided) (ds : List Decided) → Ascends (λ a b. nat_cmp a.number b.number) ds → IsIn d ds → IsIn e ds → d.number ≡ e.number → d ≡ e
of_number d e [] a i j q = absurd i
of_number d e (x ∷ xs) a (inl i) (inl j) q = sym i ∙ j
of_number d e (x ∷ xs) a (inl i) (inr j) q =
    absurd (below_not x.number e.number (in_Each (λ z. x.number < z.number) e xs j (first_below x xs a)) (ap (λ z. z.number) i ∙ q))
of_number d e (x ∷ xs) a (inr i) (inl j) q =
    absurd (below_not x.number d.number (in_Each (λ z. x.number < z.number) d xs i (first_below x xs a)) (ap (λ z. z.number) j ∙ sym q))
of_number d e (x ∷ xs) a (inr i) (inr j) q = of_number d e xs (behind_first x xs a) i j q

-- ---- what begins a transaction

pub turn_is_work : (w : Doing) → IsTurning w → IsWork w
turn_is_work (turn table most) h = tt
turn_is_work (sql st) h = absurd h
turn_is_work tending h = absurd h

not_busy : (r : Reply) → IsTrue (leaves_open r || says_undone r) → is_busy r ≡ false
not_busy reply.Busy h = absurd (false≢true h)
not_busy r h = refl

replies : (st : Statement) (cs : List Call) (lines : List Reply) → BeginsWell (sql st) → IsBoundStatement st cs lines → Each (IsReplyTo st cs) lines
replies statement.Commit cs lines b h = absurd b
replies st cs lines b h = h.2

one_line : (st : Statement) (cs : List Call) (lines : List Reply) → Each (IsReplyTo st cs) lines → length lines ≡ 1 → (r : Reply) × IsIn r lines × (is_busy r ≡ false)
one_line st cs [] e n = absurd (omega (arith, n))
one_line st cs (r ∷ rs) e n = (r, inl refl, not_busy r e.0.replied)

-- the first statement of a transaction shows its line
pub first_says : (place : ℕ) (w : Doing) (cs : List Call) (lines : List Reply) → IsBoundItem (record { place = place; doing = w; calls = cs; lines = lines }) → BeginsWell w
    → IsOfStatements w → length lines ≡ 1 → (r : Reply) × IsIn r lines × (is_busy r ≡ false)
first_says place (sql st) cs lines h b s n = one_line st cs lines (replies st cs lines b h) n
first_says place tending cs lines h b s n = absurd b
first_says place (turn table most) cs lines h b s n = absurd s

pub commit_begins_none : (w : Doing) → w ≡ sql statement.Commit → BeginsWell w → ⊥
commit_begins_none w e b = subst BeginsWell e b
