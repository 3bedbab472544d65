-- Three inserts and a scan, each transaction alone, computed.
use Rattle.std.proofs.Common.{◌≡◌, false, refl, List, [], ◌∷◌, None, map}
use Rattle.std.specs.Prelude.{codes, Bool}
use Rattle.hb_model.specs.declared.reply.Reply.TheVariants as reply
use Rattle.hb_model.specs.declared.statement.Statement.{Statement}
use Rattle.hb_model.specs.declared.statement.Statement.TheVariants as statement
use Rattle.hb_model.specs.declared.statement.What.TheVariants as what
use Rattle.hb_model.specs.Alone.{Ended, alone, alone_from}
use Rattle.hb_model.specs.Does.{does, effect}
use Rattle.hb_model.specs.Needs.{locks_of}
use Rattle.hb_model.specs.State.{nothing}
use Rattle.hb_model.proofs.Samples.{row, number_column}

-- not too many locks
abbrev few : List Statement → List (Statement × Bool)
few sts = map (λ st. (st, false)) sts

abbrev set_up : List Statement
set_up =
    statement.CreateArea (codes "A1") (codes "bes1") ∷ statement.CreateArea (codes "A2") (codes "bes2")
    ∷ statement.CreateTable (codes "T") (number_column (codes "K") ∷ record { name = codes "V"; size = 20 } ∷ []) (codes "K") (codes "A1" ∷ codes "A2" ∷ [])
    ∷ statement.Commit ∷ []

abbrev ready : Ended
ready = alone 2 nothing (few set_up)

set-up-replies : ready.replies ≡ reply.Created ∷ reply.Created ∷ reply.Created ∷ []
unfolding does effect alone_from
set-up-replies = refl

abbrev inserts : List Statement
inserts =
    statement.Insert (codes "T") (row 0 (codes "a")) ∷ statement.Insert (codes "T") (row 1 (codes "b")) ∷ statement.Insert (codes "T") (row 2 (codes "c"))
    ∷ statement.Commit ∷ []

abbrev inserted : Ended
inserted = alone 2 ready.state (few inserts)

insert-replies : inserted.replies ≡ reply.Inserted ∷ reply.Inserted ∷ reply.Inserted ∷ []
unfolding does effect alone_from
insert-replies = refl

scan-replies : (alone 2 inserted.state (few (statement.Select what.All (codes "T") None ∷ []))).replies
    ≡ reply.Rows (row 0 (codes "a") ∷ row 1 (codes "b") ∷ row 2 (codes "c") ∷ []) ∷ []
unfolding does effect alone_from
scan-replies = refl

-- a scan asks for four locks: the names, the entries, and an area on each of two back ends; an INSERT for three
scan-locks : locks_of inserted.state (statement.Select what.All (codes "T") None) ≡ 4
unfolding does effect alone_from
scan-locks = refl

insert-locks : locks_of inserted.state (statement.Insert (codes "T") (row 5 (codes "e"))) ≡ 3
unfolding does effect alone_from
insert-locks = refl
