-- GroupKeys tells no more keys than were asked for.
use Rattle.std.proofs.Common.{◌≡◌, ℕ, ℤ, zero, suc, ◌+◌, ◌<◌, ◌≤◌, Bool, true, false, List, [], ◌∷◌, Some, ap, arith, length, map, refl, subst, sym}
use Rattle.std.specs.Prelude.{slice_get, take}
use Rattle.std.proofs.lemmas.Bool.{false≢true}
use Rattle.hb_types.specs.declared.answer.Answer.TheVariants as answer
use Rattle.hb_types.specs.declared.places.Space.{Space}
use Rattle.hb_types.specs.declared.request.Request.TheVariants as request
use Rattle.hb_types.specs.declared.trail.Call.{Call}
use Rattle.hb_types.specs.Lists.{IsIn}
use Rattle.hb_types.specs.Places.{node_of_area}
use Rattle.hb_types.proofs.Ascending.{in_Each}
use Rattle.hb_model.specs.Answers.{call}
use Rattle.hb_model.specs.Shapes.{Keyed}
use Rattle.hb_model.specs.Spots.{space_in}
use Rattle.hb_runs.specs.Coordinator as coordinator
use Rattle.hb_runs.specs.Server as server_state
use Rattle.hb_runs.specs.ServerAnswers as server_answers
use Rattle.hb_law.specs.Histories.{Labelled, asked_of}
use Rattle.hb_parts.specs.Turning.{HintsAreFew}
use Rattle.hb_onefamily.proofs.Placing.{AtServer, at_server}
use Rattle.hb_whose.proofs.Parts.{is_there}
use Rattle.hb_whose.proofs.Told.{in_run}
use Rattle.hb_whose.proofs.Trailing.{got, list_in_trail}

few : {A : Type 0} (n : ℕ) (xs : List A) → length (take n xs) ≤ n
few zero xs = omega arith
few (suc n) [] = omega arith
few (suc n) (x ∷ xs) = let h = few n xs in omega (arith, h)

as_many : {A B : Type 0} (f : A → B) (xs : List A) → length (map f xs) ≡ length xs
as_many f [] = refl
as_many f (x ∷ xs) = ap suc (as_many f xs)

-- fes1 tells no keys, and a server no more than were asked for
not_fes : (up : Bool) (k : coordinator.CState) (space : Space) (group most : ℕ) (keys : List ℤ) → coordinator.RightIn up k (request.GroupKeys space group most) (answer.Keys keys) → ⊥
not_fes true k space group most keys r = r
not_fes false k space group most keys r = r

told_few : (up : Bool) (s : server_state.SState) (space : Space) (group most : ℕ) (keys : List ℤ) → server_answers.RightIn up s (request.GroupKeys space group most) (answer.Keys keys) → length keys ≤ most
told_few true s space group most keys r = subst (λ l. length l ≤ most) (sym r) (few most _)
told_few false s space group most keys r = absurd r

pub hints_few : HintsAreFew
hints_few base logs trails lists caller list calls h most keys k its each hinted = by (got trails 0 some_trails)
  where
    x : Call
    x = call (node_of_area h.old) (request.GroupKeys (space_in h.old h.table) h.group most) (answer.Keys (map (λ z. z.0) keys))

    some_trails : 0 < length trails
    some_trails = let n : length trails ≡ length base.servers + 1 = k.nodes.nodes in omega (arith, n)

    member : IsIn x list
    member = in_Each (λ c. IsIn c list) x calls (subst (IsIn x) (sym hinted.3) (is_there x hinted.0 hinted.1)) each

    at_its : AtServer base logs trails (node_of_area h.old) → length keys ≤ most
    at_its s =
        let ran = k.nodes.servers s.place s.before s.after s.trail s.got_before s.got_after (subst (λ n. slice_get trails n ≡ Some s.trail) (one_more s.place) s.got_trail) in
        let within = list_in_trail trails lists k.merged (suc s.place) caller s.trail list x s.got_trail its member s.is refl in
        let right = in_run _ (asked_of s.trail) ran.last _ ran.ran within in
        subst (λ n. n ≤ most) (as_many (λ (z : Keyed). z.0) keys) (told_few right.0.up right.0 (space_in h.old h.table) h.group most (map (λ z. z.0) keys) right.1)
      where
        one_more : (n : ℕ) → suc n ≡ n + 1
        one_more n = omega arith

    by : (fes : List Labelled) × (slice_get trails 0 ≡ Some fes) → length keys ≤ most
    by fes =
        at_its (at_server base logs trails lists k fes.0 fes.1 caller list x its member (λ t. false≢true t) refl
        (λ u r. not_fes u.up u (space_in h.old h.table) h.group most (map (λ z. z.0) keys) r))
