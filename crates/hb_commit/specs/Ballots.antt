-- Votes with room for more.
use Rattle.std.specs.Prelude.{ℕ, List}
use Rattle.hb_types.specs.declared.request.Vote.{Vote}

pub record Votes : Type 0 where
  pub votes : List Vote
  pub spare : ℕ
