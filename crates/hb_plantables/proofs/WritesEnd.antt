-- A plan that ends with the writes of what its statement does.
use Rattle.std.proofs.Common.{◌≡◌, ℕ, ◌+◌, ◌≤◌, List, Ok, false, arith}
use Rattle.hb_types.specs.declared.change.Change.{Change}
use Rattle.hb_model.specs.declared.statement.Statement.{Statement}
use Rattle.hb_model.specs.Does.{effect}
use Rattle.hb_model.specs.Families.{Family}
use Rattle.hb_model.specs.Needs.{locks_of, most_locks}
use Rattle.hb_model.specs.Refusals.{Effect}
use Rattle.hb_model.specs.State.{State}
use Rattle.hb_model.specs.System.{Sys}
use Rattle.hb_talk.specs.Plans.{sizes, writes}
use Rattle.hb_talk.specs.Talk.{Use, ◌>>◌, pure}
use Rattle.hb_plancalc.proofs.Comes.{Comes, plans_bind}
use Rattle.hb_planlaws.proofs.Ends.{at}
use Rattle.hb_planwrites.proofs.Closing.{Closed, closed_too_much, closed_written, writes_come, written}
use Rattle.hb_planwrites.proofs.Marks.{Settled, last, last_comes}

pub writes_end : (back_ends : ℕ) (u : Use) (st : Statement) (family : Family) (s : State) → Sys back_ends family s → (d : Effect) (cs : List Change) (v : Use) (n : ℕ)
    → effect back_ends s st ≡ Ok d → v.bytes ≡ u.bytes → sizes cs ≡ d.bytes → Sys back_ends (written family cs) d.state → n ≡ u.locks + locks_of s st → n ≤ most_locks
    → Comes (last (writes cs >> pure d.reply) v) (at family n) (Settled (Closed back_ends u st s))
writes_end back_ends u st family s sys d cs v n e even size left all low =
    last_comes (Closed back_ends u st s) (writes cs >> pure d.reply) v (at family n)
    (plans_bind (writes cs) (λ _. pure d.reply) v (at family n) (λ y r w. Closed back_ends u st s false y r) (λ y r w. Closed back_ends u st s false y r)
    (writes_come (λ y r w. Closed back_ends u st s false y r) cs v (at family n) (λ y a w. Closed back_ends u st s false y d.reply)
    (λ w l. closed_written back_ends u st family s sys d _ e (omega (arith, l, even, size)) left (omega (arith, size)) all low)
    (λ w l. closed_too_much back_ends u st family s sys d n e (omega (arith, l, even, size)) all low)))
