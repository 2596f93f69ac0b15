-- What contracts see of the sink that keeps what it takes.
-- Source: this project's own.
use Rattle.std.specs.Prelude.{ℕ, List}

-- the bytes that it took, and how many of its writes failed
pub record KeptState : Type 0 where
  pub taken : List ℕ
  pub faults : ℕ
