-- What STEP tells, from how many steps were made.
use Rattle.std.proofs.Common.{◌≡◌, ℕ, ◌<◌, ◌≤◌, Bool, true, false, List, refl, sym, ◌∙◌, subst, arith}
use Rattle.std.specs.Prelude.{None}
use Rattle.std.proofs.lemmas.Bool.{false≢true}
use Rattle.std.proofs.lemmas.Bool.Decides.{nat_tests}
use Rattle.hb_model.specs.declared.reply.Reply.{Reply}
use Rattle.hb_model.specs.declared.reply.Reply.TheVariants as reply
use Rattle.hb_stepper.specs.Advancing.{Advanced}
use Rattle.hb_stepper.specs.Names.{Named}
use Rattle.hb_stepper.specs.Running.{Running, seat_is, busy, going}
use Rattle.hb_stepper.specs.Steps.{Ran, line_of}
use Rattle.hb_serve.specs.declared.own.Own.TheVariants as own
use Rattle.hb_serve.specs.Doing.{Steps, nothing_given, stepped, made_reply, most_sessions}
use Rattle.hb_serve.proofs.NamedAgain.{named_again}

made_some : (count : ℕ) → 0 < count → made_reply count ≡ reply.Stepped count
made_some count some = grind (arith, nat_tests)

-- how far the session at a place went
record Went (place : ℕ) (mid : Running) (most count : ℕ) (new : Running) : Type 0 where
  ran : Ran place mid count new
  no_more : count ≤ most
  fewer : count < most → seat_is going new.seats place ≡ false
  idle : seat_is busy mid.seats place ≡ false → count ≡ 0
  some : seat_is busy mid.seats place ≡ true → 0 < most → 0 < count

module _ (old mid new : Running) (name : List ℕ) (place most count : ℕ) (named : Named old name place mid) (made : Advanced mid name most count new) where
  went : Went place mid most count new
  went =
      let again = named_again old mid made.mid name place made.place named made.named in
      subst (λ (q : ℕ). Went q mid most count new) again.0 (subst (λ (m : Running). Went made.place m most count new) again.1
      (record { ran = made.ran; no_more = made.no_more; fewer = made.fewer; idle = made.idle; some = made.some }))

  none_made : place < most_sessions → seat_is busy mid.seats place ≡ false → Steps old name most (own.Line (line_of place None (made_reply count))) new
  none_made few idle =
      let none : count ≡ 0 = went.idle idle in
      let all : Advanced old name most 0 new = record {
        place = place;
        mid = mid;
        named = named;
        ran = subst (λ (k : ℕ). Ran place mid k new) none went.ran;
        no_more = omega arith;
        fewer = λ h. went.fewer (omega (arith, none, h));
        idle = λ h. refl;
        some = λ h more. absurd (false≢true (sym idle ∙ h));
      } in
      subst (λ (k : ℕ). Steps old name most (own.Line (line_of place None (made_reply k))) new) (sym none) (nothing_given new all few idle)

  some_made : place < most_sessions → 1 ≤ most → seat_is busy mid.seats place ≡ true → Steps old name most (own.Line (line_of place None (made_reply count))) new
  some_made few asked on =
      let all : Advanced old name most count new = record { place = place; mid = mid; named = named; ran = went.ran; no_more = went.no_more; fewer = went.fewer; idle = went.idle; some = went.some } in
      subst (λ (r : Reply). Steps old name most (own.Line (line_of place None r)) new) (sym (made_some count (went.some on (omega (arith, asked))))) (stepped count new all few on)

  pub tells : place < most_sessions → 1 ≤ most → Steps old name most (own.Line (line_of place None (made_reply count))) new
  tells few asked = by (seat_is busy mid.seats place) refl
    where
      by : (b : Bool) → seat_is busy mid.seats place ≡ b → Steps old name most (own.Line (line_of place None (made_reply count))) new
      by false idle = none_made few idle
      by true on = some_made few asked on
