-- How a statement that writes nothing ends, and that it did what it does.
use Rattle.std.proofs.Common.{◌≡◌, ◌⊎◌, inl, inr, ℕ, ◌+◌, ◌≤◌, ◌<◌, List, Result, Ok, Err, Bool, true, false, not, refl, subst, sym, ap, ◌∙◌, arith}
use Rattle.std.specs.Prelude.{IsTrue, nat_le}
use Rattle.std.proofs.lemmas.Bool.{false≢true, le-leb}
use Rattle.hb_types.specs.declared.trail.Call.{Call}
use Rattle.hb_model.specs.declared.reply.Reply.{Reply}
use Rattle.hb_model.specs.declared.reply.Reply.TheVariants as reply
use Rattle.hb_model.specs.declared.statement.Statement.{Statement}
use Rattle.hb_model.specs.Answers.{afters, bytes_in, grants_in}
use Rattle.hb_model.specs.Does.{does, effect, is_accepted, most_bytes, reads, settled}
use Rattle.hb_model.specs.Faithful.{Did}
use Rattle.hb_model.specs.Families.{Family}
use Rattle.hb_model.specs.Needs.{locks_of, most_locks}
use Rattle.hb_model.specs.Outside.{is_outside}
use Rattle.hb_model.specs.Refusals.{Effect}
use Rattle.hb_model.specs.State.{State}
use Rattle.hb_model.specs.System.{Sys}
use Rattle.hb_talk.specs.PlansDefine.{plan}
use Rattle.hb_talk.specs.Talk.{Use}
use Rattle.hb_plancalc.specs.Counted.{reply_in, spent_of, IsWithin}
use Rattle.hb_planlaws.specs.Planned.{PlanDoes, PlanDoesWhere, most_back_ends}
use Rattle.hb_plancalc.proofs.Comes.{Stand, Outcome, Plans, followed, with_calls}

abbrev pub is_too_much : Reply → Bool
is_too_much reply.TooMuch = true
is_too_much _ = false

-- before the first request
abbrev pub start : Family → Use → Stand
start family u = record { family = family; locks = u.locks; bytes = 0 }

-- the Lock requests were too many
pub record Full (u : Use) (st : Statement) (s : State) (z : Stand) (r : Reply) : Type 0 where
  pub refused : r ≡ reply.TooMuch
  pub reached : most_locks ≤ z.locks
  pub more : z.locks < u.locks + locks_of s st

-- what the statement does was said
pub record Said (back_ends : ℕ) (u : Use) (st : Statement) (s : State) (z : Stand) (r : Reply) : Type 0 where
  pub does_it : does back_ends s u.bytes false st ≡ reads s r
  pub other : is_too_much r ≡ false
  pub few : z.locks ≤ u.locks + locks_of s st
  pub all : IsTrue (is_accepted u.bytes (effect back_ends s st)) → z.locks ≡ u.locks + locks_of s st

pub record Ended (back_ends : ℕ) (u : Use) (st : Statement) (family : Family) (s : State) (z : Stand) (r : Reply) : Type 0 where
  pub same : z.family ≡ family
  pub unwritten : z.bytes ≡ 0
  pub within : z.locks ≤ most_locks
  pub how : Full u st s z r ⊎ Said back_ends u st s z r

-- what a statement does by its effect
pub does_effect : (back_ends : ℕ) (s : State) (spent : ℕ) (st : Statement) (e : Result Effect Reply) → effect back_ends s st ≡ e → does back_ends s spent false st ≡ settled s spent e
unfolding does
does_effect back_ends s spent st e h = ap (settled s spent) h

pub does_full : (back_ends : ℕ) (s : State) (spent : ℕ) (st : Statement) → does back_ends s spent true st ≡ reads s reply.TooMuch
unfolding does
does_full back_ends s spent st = refl

pub read_settled : (s : State) (spent : ℕ) (r : Reply) → spent ≤ most_bytes → settled s spent (Ok (reads s r)) ≡ reads s r
read_settled s spent r few = let e : nat_le (spent + 0) most_bytes ≡ true = le-leb (spent + 0) most_bytes (omega arith) in rw e refl

module _ (back_ends : ℕ) (u : Use) (st : Statement) (calls : List Call) (family : Family) (s : State) (sys : Sys back_ends family s) where
  -- by the effect that a statement has
  by_effect : (full : Bool) (r : Reply) → does back_ends s u.bytes full st ≡ reads s r → afters family calls ≡ family → bytes_in calls ≡ 0
      → grants_in calls ≤ locks_of s st → (full ≡ false → IsTrue (is_accepted u.bytes (effect back_ends s st)) → grants_in calls ≡ locks_of s st)
      → (full ≡ true → most_locks < u.locks + locks_of s st) → u.locks + grants_in calls ≤ most_locks → Did back_ends (spent_of u) full st calls r family s
  by_effect full r e same none few all rightly within = record {
    replied = ap (λ (x : Effect). x.reply) e;
    left = subst (λ f. Sys back_ends f (does back_ends s u.bytes full st).state) (sym same) (subst (λ z. Sys back_ends family z) (sym (ap (λ (x : Effect). x.state) e)) sys);
    wrote = none ∙ sym (ap (λ (x : Effect). x.bytes) e);
    few_locks = few;
    all_locks = all;
    full_rightly = rightly;
    within = within;
  }

  ended_did : (r : Reply) → Ended back_ends u st family s (with_calls (start family u) calls) r → Did back_ends (spent_of u) (is_too_much r) st calls r family s
  ended_did r e = by e.how
    where
      by : Full u st s (with_calls (start family u) calls) r ⊎ Said back_ends u st s (with_calls (start family u) calls) r → Did back_ends (spent_of u) (is_too_much r) st calls r family s
      by (inl f) =
          subst (λ b. Did back_ends (spent_of u) b st calls r family s) (sym (ap is_too_much f.refused))
          (by_effect true r (does_full back_ends s u.bytes st ∙ ap (reads s) (sym f.refused)) e.same (omega (arith, e.unwritten)) (omega (arith, f.more)) (λ x. absurd (false≢true (sym x)))
          (λ x. omega (arith, f.more, f.reached)) e.within)
      by (inr d) =
          subst (λ b. Did back_ends (spent_of u) b st calls r family s) (sym d.other)
          (by_effect false r d.does_it e.same (omega (arith, e.unwritten)) (omega (arith, d.few)) (λ x a. omega (arith, d.all a)) (λ x. absurd (false≢true x)) e.within)

-- a plan that ends so, where this holds of the state, does what its statement does
pub ends_does_where : (P : State → Type 0) (st : Statement)
    → ((back_ends : ℕ) (u : Use) (family : Family) (s : State) → P s → back_ends ≤ most_back_ends → IsWithin u → Sys back_ends family s
    → Plans (plan back_ends st) u (start family u) (λ z r v. Ended back_ends u st family s z r) (λ z e v. Ended back_ends u st family s z e))
    → PlanDoesWhere P st
ends_does_where P st comes back_ends u v calls r few within follows inside = (
  is_too_much (reply_in r),
  λ family s so sys ans. ended_did back_ends u st calls family s sys (reply_in r)
      (at_reply r inside family s (followed false (plan back_ends st u) calls (r, v) follows (start family u) _ (comes back_ends u family s so few within sys) ans)),
)
  where
    at_reply : (o : Result Reply Reply) → IsTrue (not (is_outside (reply_in o))) → (family : Family) (s : State)
        → Outcome (λ z r w. Ended back_ends u st family s z r) (λ z e w. Ended back_ends u st family s z e) (with_calls (start family u) calls) (o, v)
        → Ended back_ends u st family s (with_calls (start family u) calls) (reply_in o)
    at_reply (Ok r) inside family s h = h
    at_reply (Err r) inside family s h = h inside

pub ends_does : (st : Statement)
    → ((back_ends : ℕ) (u : Use) (family : Family) (s : State) → back_ends ≤ most_back_ends → IsWithin u → Sys back_ends family s
    → Plans (plan back_ends st) u (start family u) (λ z r v. Ended back_ends u st family s z r) (λ z e v. Ended back_ends u st family s z e))
    → PlanDoes st
ends_does st comes back_ends u v calls r few within follows inside =
    let d = ends_does_where (λ s. Unit {0}) st (λ b w family s _ f h sys. comes b w family s f h sys) back_ends u v calls r few within follows inside in
    (d.0, λ family s sys ans. d.1 family s tt sys ans)

-- ---- the ends of a plan that writes nothing

abbrev pub at : Family → ℕ → Stand
at family n = record { family = family; locks = n; bytes = 0 }

module _ (back_ends : ℕ) (u : Use) (st : Statement) (family : Family) (s : State) (n : ℕ) where
  pub ends_full : most_locks ≤ n → n ≤ most_locks → n < u.locks + locks_of s st → Ended back_ends u st family s (at family n) reply.TooMuch
  ends_full reached low more = record { same = refl; unwritten = refl; within = low; how = inl (record { refused = refl; reached = reached; more = more }) }

  pub ends_refused : (r : Reply) → effect back_ends s st ≡ Err r → is_too_much r ≡ false → n ≤ most_locks → n ≤ u.locks + locks_of s st → Ended back_ends u st family s (at family n) r
  ends_refused r e other low few = record {
    same = refl;
    unwritten = refl;
    within = low;
    how = inr (record {
      does_it = does_effect back_ends s u.bytes st (Err r) e;
      other = other;
      few = few;
      all = λ a. absurd (false≢true (subst (λ x. IsTrue (is_accepted u.bytes x)) e a));
    });
  }

  pub ends_done : (r : Reply) → effect back_ends s st ≡ Ok (reads s r) → is_too_much r ≡ false → u.bytes ≤ most_bytes → n ≤ most_locks → n ≡ u.locks + locks_of s st
      → Ended back_ends u st family s (at family n) r
  ends_done r e other few low all = record {
    same = refl;
    unwritten = refl;
    within = low;
    how = inr (record {
      does_it = does_effect back_ends s u.bytes st (Ok (reads s r)) e ∙ read_settled s u.bytes r few;
      other = other;
      few = omega (arith, all);
      all = λ a. all;
    });
  }
