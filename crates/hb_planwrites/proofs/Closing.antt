-- How a statement that may write ends, and that it did what it does.
use Rattle.std.proofs.Common.{◌≡◌, ◌⊎◌, inl, inr, ℕ, ◌+◌, ◌≤◌, ◌<◌, List, [], ◌∷◌, length, Result, Ok, Err, Bool, true, false, not, cond, refl, subst, sym, ap, ◌∙◌, arith}
use Rattle.std.specs.Prelude.{IsTrue, nat_le, nat_lt, fold}
use Rattle.std.proofs.lemmas.Bool.{false≢true, le-leb}
use Rattle.std.proofs.lemmas.Bool.Decides.{nat_tests}
use Rattle.hb_types.specs.declared.change.Change.{Change}
use Rattle.hb_types.specs.Places.{node_of_area}
use Rattle.hb_types.specs.Records.{change_bytes}
use Rattle.hb_model.specs.declared.reply.Reply.{Reply}
use Rattle.hb_model.specs.declared.reply.Reply.TheVariants as reply
use Rattle.hb_model.specs.declared.statement.Statement.{Statement}
use Rattle.hb_model.specs.Answers.{put_at}
use Rattle.hb_model.specs.Does.{does, effect, is_accepted, most_bytes, reads}
use Rattle.hb_model.specs.Faithful.{Did}
use Rattle.hb_model.specs.Families.{Family}
use Rattle.hb_model.specs.Needs.{locks_of, most_locks}
use Rattle.hb_model.specs.Outside.{is_outside}
use Rattle.hb_model.specs.Refusals.{Effect}
use Rattle.hb_model.specs.State.{State}
use Rattle.hb_model.specs.System.{Sys}
use Rattle.hb_talk.specs.Plans.{sizes, writes, writing}
use Rattle.hb_talk.specs.PlansDefine.{plan}
use Rattle.hb_talk.specs.Talk.{Use, refused, write}
use Rattle.hb_plancalc.specs.Counted.{reply_in, spent_of, IsWithin}
use Rattle.hb_planlaws.specs.Planned.{PlanDoesWhere, most_back_ends}
use Rattle.hb_plancalc.proofs.Comes.{Stand, Comes, Plans, plans_bind, followed, with_calls}
use Rattle.hb_plancalc.proofs.Steps.{write_comes}
use Rattle.hb_planlaws.proofs.Ends.{Ended, Full, Said, at, does_effect, does_full, is_too_much, start}
use Rattle.hb_planwrites.proofs.Marks.{Marked, Settled, remarked, unmarked}

-- what a statement did, at its end
pub record Closed (back_ends : ℕ) (u : Use) (st : Statement) (s : State) (full : Bool) (z : Stand) (r : Reply) : Type 0 where
  pub replied : (does back_ends s u.bytes full st).reply ≡ r
  pub left : Sys back_ends z.family (does back_ends s u.bytes full st).state
  pub wrote : z.bytes ≡ (does back_ends s u.bytes full st).bytes
  pub few : z.locks ≤ u.locks + locks_of s st
  pub all : full ≡ false → IsTrue (is_accepted u.bytes (effect back_ends s st)) → z.locks ≡ u.locks + locks_of s st
  pub rightly : full ≡ true → most_locks < u.locks + locks_of s st
  pub within : z.locks ≤ most_locks

-- a plan with marks that ends so does what its statement does
pub marked_does_where : (P : State → Type 0) (st : Statement) (marked : ℕ → Marked Reply) → ((back_ends : ℕ) (u : Use) → unmarked (marked back_ends u) ≡ plan back_ends st u)
    → ((back_ends : ℕ) (u : Use) (family : Family) (s : State) → P s → back_ends ≤ most_back_ends → IsWithin u → Sys back_ends family s
    → Comes (marked back_ends u) (start family u) (Settled (Closed back_ends u st s)))
    → PlanDoesWhere P st
marked_does_where P st marked forgets comes back_ends u v calls r few within follows inside =
    let m = remarked false (plan back_ends st u) calls (r, v) follows (marked back_ends u) (forgets back_ends u) in (
      m.0,
      λ family s so sys ans. did m.0 family s
          (at_reply r inside m.0 family s (followed false (marked back_ends u) calls ((r, v), m.0) m.1 (start family u) (Settled (Closed back_ends u st s)) (comes back_ends u family s so few within sys) ans)),
    )
  where
    at_reply : (o : Result Reply Reply) → IsTrue (not (is_outside (reply_in o))) → (m : Bool) (family : Family) (s : State)
        → Settled (Closed back_ends u st s) (with_calls (start family u) calls) ((o, v), m) → Closed back_ends u st s m (with_calls (start family u) calls) (reply_in o)
    at_reply (Ok r) inside m family s h = h
    at_reply (Err r) inside m family s h = h inside

    did : (m : Bool) (family : Family) (s : State) → Closed back_ends u st s m (with_calls (start family u) calls) (reply_in r) → Did back_ends (spent_of u) m st calls (reply_in r) family s
    did m family s c = record {
      replied = c.replied;
      left = c.left;
      wrote = let w = c.wrote in omega (arith, w);
      few_locks = let few = c.few in omega (arith, few);
      all_locks = λ f a. let all = c.all f a in omega (arith, all);
      full_rightly = c.rightly;
      within = c.within;
    }

module _ (back_ends : ℕ) (u : Use) (st : Statement) (family : Family) (s : State) (sys : Sys back_ends family s) where
  -- what ends without a write
  pub ended_closed : (z : Stand) (r : Reply) → Ended back_ends u st family s z r → Closed back_ends u st s (is_too_much r) z r
  ended_closed z r e = by e.how
    where
      unchanged : (m : Bool) → does back_ends s u.bytes m st ≡ reads s r → z.locks ≤ u.locks + locks_of s st
          → (m ≡ false → IsTrue (is_accepted u.bytes (effect back_ends s st)) → z.locks ≡ u.locks + locks_of s st)
          → (m ≡ true → most_locks < u.locks + locks_of s st) → Closed back_ends u st s m z r
      unchanged m is few all rightly = record {
        replied = ap (λ (x : Effect). x.reply) is;
        left = subst (λ f. Sys back_ends f (does back_ends s u.bytes m st).state) (sym e.same) (subst (λ x. Sys back_ends family x) (sym (ap (λ (x : Effect). x.state) is)) sys);
        wrote = e.unwritten ∙ sym (ap (λ (x : Effect). x.bytes) is);
        few = few;
        all = all;
        rightly = rightly;
        within = e.within;
      }

      by : Full u st s z r ⊎ Said back_ends u st s z r → Closed back_ends u st s (is_too_much r) z r
      by (inl f) =
          subst (λ b. Closed back_ends u st s b z r) (sym (ap is_too_much f.refused))
          (unchanged true (does_full back_ends s u.bytes st ∙ ap (reads s) (sym f.refused)) (let more = f.more in omega (arith, more)) (λ x. absurd (false≢true (sym x)))
          (λ x. let more = f.more in let reached = f.reached in omega (arith, more, reached)))
      by (inr d) =
          subst (λ b. Closed back_ends u st s b z r) (sym d.other)
          (unchanged false d.does_it d.few (λ x a. d.all a) (λ x. absurd (false≢true x)))

  -- what is accepted: its changes are within the limit, or beyond it
  pub closed_written : (e : Effect) (z : Stand) → effect back_ends s st ≡ Ok e → u.bytes + e.bytes ≤ most_bytes → Sys back_ends z.family e.state → z.bytes ≡ e.bytes
      → z.locks ≡ u.locks + locks_of s st → z.locks ≤ most_locks → Closed back_ends u st s false z e.reply
  closed_written e z is within left wrote all low =
      let fits : nat_le (u.bytes + e.bytes) most_bytes ≡ true = le-leb (u.bytes + e.bytes) most_bytes within in
      let done : does back_ends s u.bytes false st ≡ e = does_effect back_ends s u.bytes st (Ok e) is ∙ ap (λ b. cond b e (reads s reply.TooMuch)) fits in
      record {
        replied = ap (λ (x : Effect). x.reply) done;
        left = subst (λ (x : Effect). Sys back_ends z.family x.state) (sym done) left;
        wrote = wrote ∙ sym (ap (λ (x : Effect). x.bytes) done);
        few = omega (arith, all);
        all = λ f a. all;
        rightly = λ f. absurd (false≢true f);
        within = low;
      }

  pub closed_too_much : (e : Effect) (n : ℕ) → effect back_ends s st ≡ Ok e → most_bytes < u.bytes + e.bytes → n ≡ u.locks + locks_of s st → n ≤ most_locks
      → Closed back_ends u st s false (at family n) reply.TooMuch
  closed_too_much e n is beyond all low =
      let over : nat_le (u.bytes + e.bytes) most_bytes ≡ false = grind (arith, nat_tests, beyond) in
      let done : does back_ends s u.bytes false st ≡ reads s reply.TooMuch = does_effect back_ends s u.bytes st (Ok e) is ∙ ap (λ b. cond b e (reads s reply.TooMuch)) over in
      record {
        replied = ap (λ (x : Effect). x.reply) done;
        left = subst (λ (x : Effect). Sys back_ends family x.state) (sym done) sys;
        wrote = sym (ap (λ (x : Effect). x.bytes) done);
        few = omega (arith, all);
        all = λ f a. all;
        rightly = λ f. absurd (false≢true f);
        within = low;
      }

-- ---- Writes

-- the family with the changes, one after another
abbrev pub written : Family → List Change → Family
written family [] = family
written family (c ∷ cs) = written (put_at (node_of_area c.place.space.area) c family) cs

fold_from : (cs : List Change) (n : ℕ) → fold (λ a (c : Change). a + length (change_bytes c)) n cs ≡ n + sizes cs
fold_from [] n = omega arith
fold_from (c ∷ cs) n =
    let a = fold_from cs (n + length (change_bytes c)) in let b = fold_from cs (0 + length (change_bytes c)) in omega (arith, a, b)

pub sizes_more : (c : Change) (cs : List Change) → sizes (c ∷ cs) ≡ length (change_bytes c) + sizes cs
sizes_more c cs = let a = fold_from cs (0 + length (change_bytes c)) in omega (arith, a)

module _ (F : Stand → Reply → Use → Type 0) where
  pub writing_comes : (cs : List Change) (u : Use) (z : Stand) (Q : Stand → Unit {0} → Use → Type 0)
      → ((v : Use) → Q (record { family = written z.family cs; locks = z.locks; bytes = z.bytes + sizes cs }) tt v) → Plans (writing cs) u z Q F
  writing_comes [] u z Q q =
      let e : z.bytes + 0 ≡ z.bytes = omega arith in
      subst (λ n. Q (record { family = z.family; locks = z.locks; bytes = n }) tt u) e (q u)
  writing_comes (c ∷ cs) u z Q q =
      let node : ℕ = node_of_area c.place.space.area in
      let y : Stand = record { family = put_at node c z.family; locks = z.locks; bytes = z.bytes + length (change_bytes c) } in
      plans_bind (write node c) (λ _. writing cs) u z Q F
      (write_comes F node c u z (λ x a v. Plans (writing cs) v x Q F)
      (λ v g. writing_comes cs v y Q
      (λ w. let e : z.bytes + sizes (c ∷ cs) ≡ (z.bytes + length (change_bytes c)) + sizes cs = (let m = sizes_more c cs in omega (arith, m)) in
      subst (λ n. Q (record { family = written y.family cs; locks = z.locks; bytes = n }) tt w) e (q w))))

  -- within the limit they are written, and beyond it none
  pub writes_come : (cs : List Change) (u : Use) (z : Stand) (Q : Stand → Unit {0} → Use → Type 0)
      → ((v : Use) → u.bytes + sizes cs ≤ most_bytes → Q (record { family = written z.family cs; locks = z.locks; bytes = z.bytes + sizes cs }) tt v)
      → ((v : Use) → most_bytes < u.bytes + sizes cs → F z reply.TooMuch v) → Plans (writes cs) u z Q F
  writes_come cs u z Q q full = by (nat_lt most_bytes (u.bytes + sizes cs)) refl
    where
      by : (b : Bool) → nat_lt most_bytes (u.bytes + sizes cs) ≡ b
          → Plans (λ w. cond b (refused reply.TooMuch w) (writing cs (record w { bytes = w.bytes + sizes cs }))) u z Q F
      by true e = λ n. full u (let l : most_bytes < u.bytes + sizes cs = grind (arith, nat_tests) in l)
      by false e = writing_comes cs (record u { bytes = u.bytes + sizes cs }) z Q (λ v. q v (let l : u.bytes + sizes cs ≤ most_bytes = grind (arith, nat_tests) in l))
