-- Calls that follow one talk and then another are those of the one and then those of the other.
use Rattle.std.proofs.Common.{◌≡◌, ℕ, List, [], ◌∷◌, ◌++◌, Bool, true, false, refl, subst, sym, ap, ◌∙◌}
use Rattle.std.specs.Prelude.{IsTrue}
use Rattle.std.proofs.lemmas.Bool.{false≢true}
use Rattle.std.proofs.lemmas.List.{append_assoc}
use Rattle.hb_types.specs.declared.answer.Answer.{Answer}
use Rattle.hb_types.specs.declared.answer.Answer.TheVariants as answer
use Rattle.hb_types.specs.declared.request.Request.{Request}
use Rattle.hb_types.specs.declared.request.Request.TheVariants as request
use Rattle.hb_types.specs.declared.trail.Call.{Call}
use Rattle.hb_model.specs.Answers.{call}
use Rattle.hb_talk.specs.Talk.{Talk, says, asks, going_on, Follows, ends, asked, waits, gone, dies, not_yet, ready, mgr}

-- the calls in two parts, and what the first talk said
pub record Split {A B : Type 0} (b : Bool) (t : Talk A) (f : A → Talk B) (cs : List Call) (r : B) : Type 0 where
  pub front : List Call
  pub back : List Call
  pub value : A
  pub parts : cs ≡ front ++ back
  pub first : Follows b t front value
  pub rest : Follows false (f value) back r

abbrev pub is_asking : {A : Type 0} → Talk A → Bool
is_asking (says a) = false
is_asking (asks node q k) = true

module _ {B : Type 0} where
  abbrev node_of : Talk B → ℕ
  node_of (says r) = 0
  node_of (asks node q k) = node

  abbrev request_of : Talk B → Request → Request
  request_of (says r) other = other
  request_of (asks node q k) other = q

  abbrev pub goes_on : Talk B → Answer → Talk B
  goes_on (says r) a = says r
  goes_on (asks node q k) a = k a

module _ {A B : Type 0} (f : A → Talk B) where
  abbrev Splits : Bool → Talk A → List Call → B → Type 0
  Splits b t cs r = Split b t f cs r

  more_before : (b d : Bool) (t u : Talk A) (cs more : List Call) (r : B) → ((xs : List Call) (a : A) → Follows b t xs a → Follows d u (more ++ xs) a) → Splits b t cs r → Splits d u (more ++ cs) r
  more_before b d t u cs more r add s = record {
    front = more ++ s.front;
    back = s.back;
    value = s.value;
    parts = ap (λ xs. more ++ xs) s.parts ∙ sym (append_assoc more s.front s.back);
    first = add s.front s.value s.first;
    rest = s.rest;
  }

  never : {P : Type 0} → IsTrue false → P
  never h = absurd (false≢true h)

  splits : (b : Bool) (T : Talk B) (cs : List Call) (r : B) → Follows b T cs r → (t : Talk A) → T ≡ going_on f t → (IsTrue b → IsTrue (is_asking t)) → Splits b t cs r
  splits true T cs r h (says a) e asking = never (asking refl)
  splits false T cs r h (says a) e asking = record { front = []; back = cs; value = a; parts = refl; first = ends; rest = subst (λ z. Follows false z cs r) e h }
  splits _ _ _ _ (ends {r}) (asks n p l) e asking = absurd (false≢true (ap is_asking e))
  splits _ _ _ _ (asked {node} {q} {k} {cs} {r} a i g) (asks n p l) e asking =
      let same : asks node q l ≡ asks n p l = λ j. asks (ap node_of e j) (ap (λ z. request_of z q) e j) l in
      subst (λ t. Splits false t (call node q a ∷ cs) r) same
      (more_before false false (l a) (asks node q l) cs (call node q a ∷ []) r (λ xs v w. asked a i w) (splits false (k a) cs r g (l a) (ap (λ z. goes_on z a) e) never))
  splits _ _ _ _ (waits {node} {k} {cs} {r} tx path_ held m wanted holders edges g) (asks n p l) e asking =
      let q = request.Lock tx path_ m in
      let one = call node q (answer.Blocked held wanted holders) in
      let two = call mgr (request.Wait tx (record { 0 = node }) held wanted holders) (answer.Waiting edges) in
      let same : asks node q l ≡ asks n p l = λ j. asks (ap node_of e j) (ap (λ z. request_of z q) e j) l in
      let on : asks node q k ≡ going_on f (asks node q l) = λ j. asks node q (λ a. ap (λ z. goes_on z a) e j) in
      subst (λ t. Splits false t (one ∷ two ∷ cs) r) same
      (more_before true false (asks node q l) (asks node q l) cs (one ∷ two ∷ []) r (λ xs v w. waits tx path_ held m wanted holders edges w) (splits true (asks node q k) cs r g (asks node q l) on (λ z. refl)))
  splits _ _ _ _ (gone {node} {k} {cs} {r} tx path_ held m wanted holders g) (asks n p l) e asking =
      let q = request.Lock tx path_ m in
      let one = call node q (answer.Blocked held wanted holders) in
      let two = call mgr (request.Wait tx (record { 0 = node }) held wanted holders) answer.Gone in
      let same : asks node q l ≡ asks n p l = λ j. asks (ap node_of e j) (ap (λ z. request_of z q) e j) l in
      let on : asks node q k ≡ going_on f (asks node q l) = λ j. asks node q (λ a. ap (λ z. goes_on z a) e j) in
      subst (λ t. Splits false t (one ∷ two ∷ cs) r) same
      (more_before false false (asks node q l) (asks node q l) cs (one ∷ two ∷ []) r (λ xs v w. gone tx path_ held m wanted holders w) (splits false (asks node q k) cs r g (asks node q l) on never))
  splits _ _ _ _ (dies {node} {k} {cs} {r} tx path_ held m wanted holders a d g) (asks n p l) e asking =
      let q = request.Lock tx path_ m in
      let one = call node q (answer.Blocked held wanted holders) in
      let two = call mgr (request.Wait tx (record { 0 = node }) held wanted holders) a in
      let same : asks node q l ≡ asks n p l = λ j. asks (ap node_of e j) (ap (λ z. request_of z q) e j) l in
      subst (λ t. Splits false t (one ∷ two ∷ cs) r) same
      (more_before false false (l a) (asks node q l) cs (one ∷ two ∷ []) r (λ xs v w. dies tx path_ held m wanted holders a d w) (splits false (k a) cs r g (l a) (ap (λ z. goes_on z a) e) never))
  splits _ _ _ _ (not_yet {t} {cs} {r} tx target g) (asks n p l) e asking =
      let one = call mgr (request.Ready tx) (answer.NotYet target) in
      more_before true true (asks n p l) (asks n p l) cs (one ∷ []) r (λ xs v w. not_yet tx target w) (splits true t cs r g (asks n p l) e asking)
  splits _ _ _ _ (ready {t} {cs} {r} tx g) (asks n p l) e asking =
      let one = call mgr (request.Ready tx) answer.Ready in
      more_before false true (asks n p l) (asks n p l) cs (one ∷ []) r (λ xs v w. ready tx w) (splits false t cs r g (asks n p l) e never)

  pub split : (t : Talk A) (cs : List Call) (r : B) → Follows false (going_on f t) cs r → Split false t f cs r
  split t cs r h = splits false (going_on f t) cs r h t refl never

-- a talk that is over
pub over : {A : Type 0} (a r : A) (cs : List Call) → Follows false (says a) cs r → (cs ≡ []) × (r ≡ a)
over a _ _ ends = (refl, refl)
