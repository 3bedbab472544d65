-- A rolling back that obeys the callers' law is of the transaction that was begun.
use Rattle.std.proofs.Common.{◌≡◌, ℕ, List, [], ◌∷◌, ◌++◌, Option, Some, None, false, refl, subst, sym, ◌∙◌}
use Rattle.std.specs.Prelude.{IsTrue, MatchOption}
use Rattle.std.proofs.lemmas.Bool.{false≢true}
use Rattle.std.proofs.lemmas.List.{append-nil, append_assoc}
use Rattle.hb_types.specs.declared.answer.Answer.{Answer}
use Rattle.hb_types.specs.declared.answer.Answer.TheVariants as answer
use Rattle.hb_types.specs.declared.names.Owner.{Owner}
use Rattle.hb_types.specs.declared.names.Tx.{Tx}
use Rattle.hb_types.specs.declared.request.Request.TheVariants as request
use Rattle.hb_types.specs.declared.trail.Call.{Call}
use Rattle.hb_model.specs.Answers.{call}
use Rattle.hb_model.specs.declared.reply.Reply.{Reply}
use Rattle.hb_session.specs.Sitting.{finishing}
use Rattle.hb_talk.specs.Ends.{fes1, rolling_back}
use Rattle.hb_talk.specs.Talk.{Follows, asked, the_tx, Use}
use Rattle.hb_law.specs.Callers.{Current, MayBeDecided, ObeysFrom, Own, Permitted, current_from, is_begun, one_more}
use Rattle.hb_itemlaws.specs.Owning.{AreBegins, NoBegin, is_begin}

-- a rolling back begins with an Abort
abbrev pub IsAbortFirst : List Call → Type 0
IsAbortFirst rolled = (tx : Tx) × (a : Answer) × (rest : List Call) × (rolled ≡ call fes1 (request.Abort tx) a ∷ rest)

pub abort_first : (u : Use) (why : Reply) (rolled : List Call) (rs : List Reply) → Follows false (finishing (rolling_back u 0 why)) rolled rs → IsAbortFirst rolled
abort_first u why _ rs (asked {cs = cs} a i f) = (the_tx u, a, cs, refl)

-- a call is permitted by those before it
obeys_at : (session : ℕ) (front xs : List Call) (c : Call) (ys : List Call) → ObeysFrom session front (xs ++ c ∷ ys) → Permitted session (front ++ xs) c.node.0 c.request
obeys_at session front [] c ys h = subst (λ zs. Permitted session zs c.node.0 c.request) (sym (append-nil front)) h.0
obeys_at session front (x ∷ xs) c ys h =
    subst (λ zs. Permitted session zs c.node.0 c.request) (append_assoc front (x ∷ []) xs) (obeys_at session (front ++ x ∷ []) xs c ys h.1)

current_behind : (o : Option Current) (xs ys : List Call) → current_from o (xs ++ ys) ≡ current_from (current_from o xs) ys
current_behind o [] ys = refl
current_behind o (x ∷ xs) ys = current_behind (one_more x x.answer o) xs ys

-- the transaction that was begun last is this one
abbrev IsCurrent : ℕ → Option Current → Type 0
IsCurrent tx None = ⊥
IsCurrent tx (Some n) = n.tx ≡ tx

stays_one : (tx : ℕ) (c : Call) (a : Answer) (o : Option Current) → is_begin c.request ≡ false → (IsTrue (is_begun a) → IsTrue (is_begin c.request)) → IsCurrent tx o → IsCurrent tx (one_more c a o)
stays_one tx c (answer.Begun t) o plain sys is = absurd (false≢true (sym plain ∙ sys refl))
stays_one tx c _ None plain sys is = is
stays_one tx c _ (Some n) plain sys is = is

stays_current : (tx : ℕ) (cs : List Call) (o : Option Current) → NoBegin cs → AreBegins cs → IsCurrent tx o → IsCurrent tx (current_from o cs)
stays_current tx [] o plain sys is = is
stays_current tx (c ∷ cs) o plain sys is = stays_current tx cs (one_more c c.answer o) plain.1 sys.1 (stays_one tx c c.answer o plain.0 sys.0 is)

own_current : (tx t : ℕ) (P : List Call → Type 0) (o : Option Current) → MatchOption o ⊥ (λ n. (n.tx ≡ t) × P n.calls) → IsCurrent tx o → t ≡ tx
own_current tx t P None h is = absurd is
own_current tx t P (Some n) h is = sym h.0 ∙ is

-- an Abort behind its Begin is of the transaction
pub aborts_own : (session : ℕ) (owner : Owner) (front more rest : List Call) (tx t : Tx) (a : Answer)
    → ObeysFrom session front ((call fes1 (request.Begin owner) (answer.Begun tx) ∷ more) ++ call fes1 (request.Abort t) a ∷ rest) → NoBegin more → AreBegins more → t.0 ≡ tx.0
aborts_own session owner front more rest tx t a h plain sys =
    let begin : Call = call fes1 (request.Begin owner) (answer.Begun tx) in
    let P : List Call → Type 0 = λ calls. ¬ (MayBeDecided calls) in
    let permitted : Own t.0 (front ++ begin ∷ more) P = obeys_at session front (begin ∷ more) (call fes1 (request.Abort t) a) rest h in
    own_current tx.0 t.0 P (current_from None (front ++ begin ∷ more)) permitted
    (subst (IsCurrent tx.0) (sym (current_behind None front (begin ∷ more))) (stays_current tx.0 more (Some (record { tx = tx.0; calls = [] })) plain sys refl))
