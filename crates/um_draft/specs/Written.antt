-- A text that is being written, as contracts see it.
-- Source: this project's own.
use Rattle.std.specs.Prelude.{ℕ, List}

pub record Written : Type 0 where
  -- its bytes so far
  pub items : List ℕ
  -- how many more have room
  pub room : ℕ
